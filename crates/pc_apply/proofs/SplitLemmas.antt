-- Splits of lists of sets after a value.
use Rattle.std.proofs.Common.{◌≡◌, ℕ, suc, ◌+◌, ◌<◌, ◌≤◌, nat_eq, Bool, true, false, cond, List, [], ◌∷◌, ◌++◌, set, take, length, get_or, slice_get, slice_index, Some, All, refl, sym, ap, ◌∙◌, subst, arith, inl, inr}
use Rattle.std.specs.Bool.{Decides}
use Rattle.std.proofs.lemmas.Bool.Decides.{nat_tests}
use Rattle.std.proofs.lemmas.List.{take_all, length_push}
use Rattle.std.proofs.lemmas.List.Elements.{All-push}
use Rattle.std.proofs.lemmas.List.Sums.{count_by_more_no, count_by_more_yes, sum_by-append, sum_by-cons}
use Rattle.std.proofs.lemmas.Option.{slice_get-get_or, get_or_from_slice_get}
use Rattle.pc_store.specs.declared.id.Node.{Node}
use Rattle.pc_store.specs.declared.store.Store.{Store}
use Rattle.pc_store.specs.Sets.{domains_of, id_at, IsNodeAt, has, AreChildren}
use Rattle.pc_apply.specs.declared.split.Split.{Split}
use Rattle.pc_apply.specs.Counting.{count_at, count_after}
use Rattle.pc_apply.specs.Lists.{AreRows, CountsIn, IsSplit}
use Rattle.pc_apply.proofs.LevelLemmas.{last_or_before}

-- equality of nodes
abbrev pub same_node : Node → Node → Bool
same_node a b = nat_eq a.number b.number

pub same_node-Decides : (a b : Node) → Decides (same_node a b) (a ≡ b)
same_node-Decides a b = (
  λ e. one a b (grind (arith, nat_tests)),
  λ e. subst (λ (c : Node). same_node a c ≡ true) e (itself a.number),
)
  where
    one : (a b : Node) → a.number ≡ b.number → a ≡ b
    one a b n = λ i. record { number = n i }

    itself : (n : ℕ) → nat_eq n n ≡ true
    itself n = grind (arith, nat_tests)

-- a set went to the rest
pub counts_rest : (store : Store) (layer : ℕ) (set : Node) (old new : Split) → IsNodeAt store layer set → new.full ≡ old.full → new.rest.items ≡ old.rest.items ++ set ∷ [] → CountsIn store layer set old new
counts_rest store layer set old new is full pushed = record {
  rest = λ all. subst (All (IsNodeAt store layer)) (sym pushed) (All-push (IsNodeAt store layer) old.rest.items set all is);
  count = λ word over.
      let counted : ℕ = cond (has store (id_at layer set) word) 1 0 in
      let one : count_at store layer (set ∷ []) word ≡ counted + 0 = sum_by-cons (λ n. cond (has store (id_at layer n) word) 1 0) set [] in
      let all : count_at store layer new.rest.items word ≡ count_at store layer old.rest.items word + count_at store layer (set ∷ []) word = ap (λ sets. count_at store layer sets word) pushed ∙ sum_by-append (λ n. cond (has store (id_at layer n) word) 1 0) old.rest.items (set ∷ []) in
      omega arith;
  few = omega arith;
}

-- one row more has been counted
pub split_more : (store : Store) (layer : ℕ) (rows : List (List Node)) (value i : ℕ) (row : List Node) (child : Node) (old new : Split) → i < length rows → row ≡ get_or rows i row → slice_get row value ≡ Some child → CountsIn store layer child old new →
    IsSplit store layer (take i rows) value old → IsSplit store layer (take (i + 1) rows) value new
split_more store layer rows value i row child old new lt read at one h = record {
  rest = one.rest h.rest;
  count = λ word over.
      let first = h.count word over in
      let added = one.count word over in
      let more = count_more word in
      omega arith;
}
  where
    there : get_or (get_or rows i row) value (record { number = 0 }) ≡ child
    there = ap (λ (r : List Node). get_or r value (record { number = 0 })) (sym read) ∙ get_or_from_slice_get row value child (record { number = 0 }) at

    count_more : (word : List ℕ) → count_after store layer (take (i + 1) rows) value word ≡ count_after store layer (take i rows) value word + cond (has store (id_at layer child) word) 1 0
    count_more word = by (has store (id_at layer child) word) (ap (λ (n : Node). has store (id_at layer n) word) there)
      where
        test : List Node → Bool
        test r = has store (id_at layer (get_or r value (record { number = 0 }))) word

        by : (b : Bool) → test (get_or rows i row) ≡ b → count_after store layer (take (i + 1) rows) value word ≡ count_after store layer (take i rows) value word + cond b 1 0
        by true e = count_by_more_yes test rows i row lt e
        by false e = count_by_more_no test rows i row lt e ∙ (let same : count_after store layer (take i rows) value word ≡ count_after store layer (take i rows) value word + 0 = omega arith in same)

-- the first rows have been counted
pub record Counted (store : Store) (layer : ℕ) (rows : List (List Node)) (value count : ℕ) (split : Split) : Type 0 where
  pub is_split : IsSplit store layer (take count rows) value split
  pub few : split.full ≤ count

pub counted_more : (store : Store) (layer : ℕ) (rows : List (List Node)) (value i : ℕ) (row : List Node) (child : Node) (old new : Split) → i < length rows → row ≡ get_or rows i row → slice_get row value ≡ Some child → CountsIn store layer child old new →
    Counted store layer rows value i old → Counted store layer rows value (i + 1) new
counted_more store layer rows value i row child old new lt read at one h = record {
  is_split = split_more store layer rows value i row child old new lt read at one h.is_split;
  few = let f = one.few in let g = h.few in omega arith;
}

-- all rows have been counted
pub counted_all : (store : Store) (layer : ℕ) (rows : List (List Node)) (value count : ℕ) (split : Split) → length rows ≤ count → Counted store layer rows value count split → IsSplit store layer rows value split
counted_all store layer rows value count split ge h = subst (λ r. IsSplit store layer r value split) (take_all count rows ge) h.is_split

-- the first sets have their rows
pub record RowsFirst (store : Store) (layer : ℕ) (sets : List Node) (count : ℕ) (rows : List (List Node)) : Type 0 where
  pub count_is : length rows ≡ count
  pub each : (place : ℕ) (set : Node) (row : List Node) → slice_get sets place ≡ Some set → slice_get rows place ≡ Some row → AreChildren store layer set row

pub rows_none : (store : Store) (layer : ℕ) (sets : List Node) → RowsFirst store layer sets 0 []
rows_none store layer sets = record { count_is = refl; each = λ place set row at here. absurd cc }

-- one set more
pub rows_more : (store : Store) (layer : ℕ) (sets : List Node) (count : ℕ) (set : Node) (rows : List (List Node)) (row : List Node) → set ≡ get_or sets count set → AreChildren store layer set row → RowsFirst store layer sets count rows → RowsFirst store layer sets (count + 1) (rows ++ row ∷ [])
rows_more store layer sets count set rows row read are h = record {
  count_is = length_push rows row ∙ ap (λ n. n + 1) h.count_is;
  each = λ place other other_row at here. elim (last_or_before rows row other_row place here) [
    | inl before ↦ h.each place other other_row at before
    | inr last ↦
        let same : set ≡ other = read ∙ ap (λ n. get_or sets n set) (sym (last.0 ∙ h.count_is)) ∙ get_or_from_slice_get sets place other set at in
        subst (λ (s : Node). AreChildren store layer s other_row) same (subst (AreChildren store layer set) (sym last.1) are)
  ];
}

-- the row at a place is that of a set
row_at : (store : Store) (layer : ℕ) (sets : List Node) (rows : List (List Node)) → AreRows store layer sets rows → (place : ℕ) (d : List Node) → place < length rows → (set : Node) × AreChildren store layer set (get_or rows place d)
row_at store layer sets rows h place d inside =
    let none : Node = record { number = 0 } in
    let there : place < length sets = (let c = h.count in omega arith) in
    (get_or sets place none, h.each place (get_or sets place none) (get_or rows place d) (slice_get-get_or sets place none there) (slice_get-get_or rows place d inside))

-- the rows are as wide as the layer has values
pub rows_width : (store : Store) (layer : ℕ) (sets : List Node) (rows : List (List Node)) (value : ℕ) → AreRows store layer sets rows → value < slice_index (domains_of store) layer → All (λ row. value < length row) rows
rows_width store layer sets rows value h lt place d inside = let are = row_at store layer sets rows h place d inside in let width = are.1.count in omega arith

pub rows_nodes : (store : Store) (layer : ℕ) (sets : List Node) (rows : List (List Node)) → AreRows store layer sets rows → All (All (IsNodeAt store (layer + 1))) rows
rows_nodes store layer sets rows h place d inside value child within =
    let are = row_at store layer sets rows h place d inside in
    are.1.nodes value (get_or (get_or rows place d) value child) (slice_get-get_or (get_or rows place d) value child within)

-- a word that begins with a value lies in as many sets as what follows lies in of those that stand in their rows
pub rows_count : (store : Store) (layer : ℕ) (sets : List Node) (rows : List (List Node)) (value : ℕ) (word : List ℕ) → AreRows store layer sets rows → value < slice_index (domains_of store) layer → count_at store layer sets (value ∷ word) ≡ count_after store (layer + 1) rows value word
rows_count store layer [] [] value word h lt = refl
rows_count store layer [] (row ∷ rows) value word h lt = absurd (let c = h.count in omega arith)
rows_count store layer (set ∷ sets) [] value word h lt = absurd (let c = h.count in omega arith)
rows_count store layer (set ∷ sets) (row ∷ rows) value word h lt =
    let none : Node = record { number = 0 } in
    let are = h.each 0 set row refl refl in
    let inside : value < length row = (let width = are.count in omega arith) in
    let one : has store (id_at (layer + 1) (get_or row value none)) word ≡ has store (id_at layer set) (value ∷ word) = are.sets value (get_or row value none) (slice_get-get_or row value none inside) word in
    sum_by-cons (λ s. cond (has store (id_at layer s) (value ∷ word)) 1 0) set sets
    ∙ (λ i. cond {A = ℕ} (sym one i) 1 0 + rows_count store layer sets rows value word rest lt i)
    ∙ sym (sum_by-cons (λ r. cond (has store (id_at (layer + 1) (get_or r value none)) word) 1 0) row rows)
  where
    rest : AreRows store layer sets rows
    rest = record { count = (let c = h.count in omega arith); each = λ place s r at here. h.each (suc place) s r at here }
