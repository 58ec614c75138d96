-- Sets with their layer and without it.
use Rattle.std.proofs.Common.{◌≡◌, ℕ, suc, ◌+◌, cond, List, [], ◌∷◌, length, get_or, All, refl, sym, ap, ◌∙◌, subst, ◌<◌, arith}
use Rattle.std.proofs.lemmas.List.Sums.{sum_by-cons}
use Rattle.std.proofs.lemmas.Option.{slice_get-get_or}
use Rattle.pc_store.specs.declared.id.Id.{Id}
use Rattle.pc_store.specs.declared.id.Node.{Node}
use Rattle.pc_store.specs.declared.store.Store.{Store}
use Rattle.pc_store.specs.Sets.{id_at, IsIdAt, IsNodeAt, has}
use Rattle.pc_apply.specs.Counting.{count_of, count_at, AreNodes}

-- a word lies in as many sets of a layer as in their nodes
pub nodes_count : (store : Store) (layer : ℕ) (sets : List Id) (nodes : List Node) (word : List ℕ) → All (IsIdAt store layer) sets → AreNodes sets nodes → count_at store layer nodes word ≡ count_of store sets word
nodes_count store layer [] [] word all h = refl
nodes_count store layer [] (node ∷ nodes) word all h = absurd (let c = h.count in omega arith)
nodes_count store layer (set ∷ sets) [] word all h = absurd (let c = h.count in omega arith)
nodes_count store layer (set ∷ sets) (node ∷ nodes) word all h =
    sum_by-cons (λ n. cond (has store (id_at layer n) word) 1 0) node nodes
    ∙ (λ i. cond {A = ℕ} (has store (sym same i) word) 1 0 + nodes_count store layer sets nodes word (λ k d lt. all (suc k) d (omega arith)) rest i)
    ∙ sym (sum_by-cons (λ s. cond (has store s word) 1 0) set sets)
  where
    same : set ≡ id_at layer node
    same = h.each 0 set node refl refl ∙ ap (λ l. id_at l node) ((all 0 set (omega arith)).1)

    rest : AreNodes sets nodes
    rest = record { count = (let c = h.count in omega arith); each = λ place s n at here. h.each (suc place) s n at here }

-- the nodes of sets of a layer are of that layer
pub nodes_at : (store : Store) (layer : ℕ) (sets : List Id) (nodes : List Node) → All (IsIdAt store layer) sets → AreNodes sets nodes → All (IsNodeAt store layer) nodes
nodes_at store layer sets nodes all h place node inside =
    let none : Id = record { layer = 0; node = 0 } in
    let there : place < length sets = (let c = h.count in omega arith) in
    let set = get_or sets place none in
    let is = all place none there in
    let same : set ≡ id_at layer (get_or nodes place node) = h.each place set (get_or nodes place node) (slice_get-get_or sets place none there) (slice_get-get_or nodes place node inside) ∙ ap (λ l. id_at l (get_or nodes place node)) is.1 in
    subst (IsIdAt store layer) same is
