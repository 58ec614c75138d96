-- The nodes of a layer are as many as the different non-empty rests.
use Rattle.std.proofs.Common.{◌≡◌, ℕ, zero, suc, ◌+◌, ◌*◌, ◌-◌, ◌/◌, ◌%◌, ◌<◌, ◌≤◌, nat_eq, nat_lt, Bool, true, false, cond, ◌&&◌, ◌||◌, List, [], ◌∷◌, ◌++◌, map, filter, length, take, drop, get_or, sum, sum_by, not, ◌==◌, Option, Some, None, refl, sym, ap, ◌∙◌, subst, arith}
use Rattle.std.specs.Cmp.Lexicographic.{pointwise, lists_equiv}
use Rattle.std.specs.List.{list_any, range_with_len, IsDistinct, AllByRecursion}
use Rattle.std.proofs.Math.Nat.{div-lt_iff_lt-mul}
use Rattle.std.proofs.lemmas.Bool.{both_ways}
use Rattle.std.proofs.lemmas.Bool.Decides.{nat_tests}
use Rattle.std.proofs.lemmas.Cmp.{nat_list_eq_equiv}
use Rattle.std.proofs.lemmas.List.{take-append-drop}
use Rattle.std.proofs.lemmas.List.FromFn.{fill_by_all, get_or-map-range_with_len, length-map-range_with_len}
use Rattle.std.proofs.lemmas.Map.Made.{length-from_keys}
use Rattle.std.proofs.lemmas.Slice.Eq.{slice_eq-Decides, bytes_eq-Decides}
use Rattle.pc_diagram.specs.declared.raw_diagram.RawDiagram.{RawDiagram}
use Rattle.pc_diagram.specs.Diagram.{IsShapedLevel, IsCanonicalLevel, IsCanonical}
use Rattle.pc_diagram.specs.DiagramFaults.{is_outside}
use Rattle.pc_diagram.specs.Fitting.{is_number}
use Rattle.pc_diagram.specs.Levels.{Level, levels, edge}
use Rattle.pc_diagram.specs.NodePaths.{leads_to}
use Rattle.pc_diagram.specs.Paths.{accepts}
use Rattle.pc_diagram.specs.Rests.{classes, different, has_words, rest, rest_count, size}
use Rattle.pc_diagram.specs.Words.{is_word, all_words}
use Rattle.pc_diagram.proofs.AnyLemmas.{one_at, passes_at}
use Rattle.pc_diagram.proofs.DifferentLemmas.{among_different, different_among, different_by, different_distinct, same_sum}
use Rattle.pc_diagram.proofs.EqualWords.{chain_from, domains-levels, accepts-is_word}
use Rattle.pc_diagram.proofs.LevelLemmas.{drop-levels}
use Rattle.pc_diagram.proofs.PathLemmas.{accepts-none, is_number-is}
use Rattle.pc_diagram.proofs.ShapeLemmas.{both, together}
use Rattle.pc_diagram.proofs.UniqueLemmas.{IsChain, apart, some_word, inside, outside_row, edge-is}
use Rattle.pc_diagram.proofs.WordLemmas.{all_words-is, kept_words-is}

-- levels that lead from so many nodes to so many
abbrev pub Leads : ℕ → List Level → ℕ → Type 0
Leads size [] count = size ≡ count
Leads size (l ∷ ls) count = (l.size ≡ size) × IsShapedLevel l × IsCanonicalLevel l × Leads l.next ls count

-- where the values of a word lead from a node, if they do
abbrev pub walk : List Level → Option ℕ → List ℕ → Option ℕ
walk [] x word = x
walk (l ∷ ls) None word = None
walk (l ∷ ls) (Some node) [] = None
walk (l ∷ ls) (Some node) (value ∷ word) = walk ls (edge l node value) word

abbrev domains : List Level → List ℕ
domains ls = map (λ l. l.domain) ls

-- what a word goes on with is accepted from where it leads to
accepts-walk : (front back : List Level) (x : Option ℕ) (word more : List ℕ) → is_word (domains front) word ≡ true → accepts (front ++ back) x (word ++ more) ≡ accepts back (walk front x word) more
accepts-walk [] back x [] more h = refl
accepts-walk [] back x (value ∷ word) more h = absurd cc
accepts-walk (l ∷ ls) back None word more h = sym (accepts-none back more)
accepts-walk (l ∷ ls) back (Some node) [] more h = absurd cc
accepts-walk (l ∷ ls) back (Some node) (value ∷ word) more h =
    accepts-walk ls back (edge l node value) word more (both (nat_lt value l.domain) (is_word (domains ls) word) h).1

walk_inside : (size : ℕ) (front : List Level) (count : ℕ) → Leads size front count → (x : Option ℕ) (word : List ℕ) → is_outside size x ≡ false → is_outside count (walk front x word) ≡ false
walk_inside size [] count h x word i = ap (λ n. is_outside n x) (sym h) ∙ i
walk_inside size (l ∷ ls) count h None word i = refl
walk_inside size (l ∷ ls) count h (Some node) [] i = refl
walk_inside size (l ∷ ls) count h (Some node) (value ∷ word) i = walk_inside l.next ls count h.3 (edge l node value) word (outside_row l h.2 node value)

-- a word leads to each node
record Led (size : ℕ) (front : List Level) (node : ℕ) : Type 0 where
  start : ℕ
  word : List ℕ
  from : start < size
  is : is_word (domains front) word ≡ true
  to : walk front (Some start) word ≡ Some node

led : (size : ℕ) (front : List Level) (count : ℕ) → Leads size front count → (node : ℕ) → node < count → Led size front node
led size [] count h node lt = let same : size ≡ count = h in record { start = node; word = []; from = omega arith; is = refl; to = refl }
led size (l ∷ ls) count h node lt =
    let later = led l.next ls count h.3 node lt in
    let p = one_at (λ target. is_number target later.start) l.table None (h.2.reached later.start later.from) in
    let some = h.1.some_values in
    let width = h.1.width in
    let i = p.0 in
    let start = i / l.domain in
    let value = i % l.domain in
    let small : i < l.size * l.domain = omega (arith, p.1) in
    let size_is = h.0 in
    let row_lt : start < l.size = (div-lt_iff_lt-mul {k = l.domain} {x = i} {y = l.size} some).1 small in
    let value_lt : value < l.domain = omega arith in
    let there : start * l.domain + value ≡ i = omega arith in
    let target : edge l start value ≡ Some later.start = edge-is l start value value_lt ∙ ap (λ j. get_or l.table j None) there ∙ is_number-is (get_or l.table i None) later.start p.2 in
    record {
      start = start;
      word = value ∷ later.word;
      from = omega arith;
      is = together (nat_lt value l.domain) (is_word (domains ls) later.word) (grind (arith, nat_tests)) later.is;
      to = ap (λ x. walk ls x later.word) target ∙ later.to;
    }

-- the words from a node on
abbrev pub words_of : List Level → Option ℕ → List (List ℕ)
words_of ls x = filter (accepts ls x) (all_words (domains ls))

abbrev same : List (List ℕ) → List (List ℕ) → Bool
same = pointwise (pointwise nat_eq)

same_decides : (xs ys : List (List ℕ)) → (same xs ys ≡ true → xs ≡ ys) × (xs ≡ ys → same xs ys ≡ true)
same_decides xs ys = slice_eq-Decides bytes_eq-Decides xs ys (same xs ys) refl

same_is : (xs ys : List (List ℕ)) → same xs ys ≡ true → xs ≡ ys
same_is xs ys = (same_decides xs ys).0

same_itself : (xs : List (List ℕ)) → same xs xs ≡ true
same_itself xs = (same_decides xs xs).1 refl

filter_same : {X : Type 0} (p q : X → Bool) → ((x : X) → p x ≡ q x) → (xs : List X) → filter p xs ≡ filter q xs
filter_same p q e [] = refl
filter_same p q e (x ∷ xs) = λ i. cond (e x i) (x ∷ filter_same p q e xs i) (filter_same p q e xs i)

-- the rest of a word is what is accepted from where it leads to
rest-is : (front back : List Level) (x : Option ℕ) (word : List ℕ) → is_word (domains front) word ≡ true → rest (accepts (front ++ back) x) (domains back) word ≡ words_of back (walk front x word)
rest-is front back x word h =
    filter_same (λ more. accepts (front ++ back) x (word ++ more)) (accepts back (walk front x word)) (λ more. accepts-walk front back x word more h) (all_words (domains back))

tell : (ls : List Level) (x : Option ℕ) (word : List ℕ) → list_any (pointwise nat_eq word) (words_of ls x) ≡ accepts ls x word
tell ls x word = kept_words-is (accepts ls x) (domains ls) word ∙ by (accepts ls x word) (accepts-is_word ls x word)
  where
    by : (b : Bool) → (b ≡ true → is_word (domains ls) word ≡ true) → (b && is_word (domains ls) word) ≡ b
    by true f = f refl
    by false f = refl

-- nodes of the same words are one
one_node : (size : ℕ) (ls : List Level) → IsChain size ls → (a b : ℕ) → a < size → b < size → words_of ls (Some a) ≡ words_of ls (Some b) → a ≡ b
one_node size ls h a b la lb e =
    apart size ls h a b la lb (λ word. sym (tell ls (Some a) word) ∙ ap (list_any (pointwise nat_eq word)) e ∙ tell ls (Some b) word)

node_has_words : (size : ℕ) (ls : List Level) → IsChain size ls → (node : ℕ) → node < size → has_words (words_of ls (Some node)) ≡ true
node_has_words size ls h node lt = by (words_of ls (Some node)) refl
  where
    one : (word : List ℕ) × (accepts ls (Some node) word ≡ true)
    one = some_word size ls h node lt

    by : (words : List (List ℕ)) → words_of ls (Some node) ≡ words → has_words words ≡ true
    by [] none = let no : list_any (pointwise nat_eq one.0) (words_of ls (Some node)) ≡ false = ap (list_any (pointwise nat_eq one.0)) none in absurd (both_ways (list_any (pointwise nat_eq one.0) (words_of ls (Some node))) no (tell ls (Some node) one.0 ∙ one.1))
    by (word ∷ words) some = grind (arith, nat_tests)

none_kept : (ls : List Level) → words_of ls None ≡ []
none_kept ls = by (all_words (domains ls))
  where
    by : (words : List (List ℕ)) → filter (accepts ls None) words ≡ []
    by [] = refl
    by (word ∷ words) = ap (λ b. cond b (word ∷ filter (accepts ls None) words) (filter (accepts ls None) words)) (accepts-none ls word) ∙ by words

-- values of a function on numbers from one on, which all differ
distinct_range : (f : ℕ → List (List ℕ)) (a n : ℕ) → ((i j : ℕ) → a ≤ i → i < j → j < a + n → same (f i) (f j) ≡ false) → IsDistinct same (map f (range_with_len a n))
unfolding IsDistinct
distinct_range f a zero h = tt
distinct_range f a (suc n) h =
    (first (a + 1) n (λ j ge lt. h a j (omega arith) (omega arith) (omega arith)), distinct_range f (a + 1) n (λ i j ge before lt. h i j (omega arith) before (omega arith)))
  where
    first : (b m : ℕ) → ((j : ℕ) → b ≤ j → j < b + m → same (f a) (f j) ≡ false) → AllByRecursion (λ y. same (f a) y ≡ false) (map f (range_with_len b m))
    first b zero k = tt
    first b (suc m) k = (k b (omega arith) (omega arith), first (b + 1) m (λ j ge lt. k j (omega arith) (omega arith)))

any-filter_map : {X Y : Type 0} (p q : Y → Bool) (f : X → Y) (xs : List X) → list_any p (filter q (map f xs)) ≡ list_any (λ x. q (f x) && p (f x)) xs
any-filter_map p q f [] = refl
any-filter_map {X} {Y} p q f (x ∷ xs) = by (q (f x)) ∙ ap (λ b. (q (f x) && p (f x)) || b) (any-filter_map p q f xs)
  where
    by : (b : Bool) → list_any p (cond b (f x ∷ filter q (map f xs)) (filter q (map f xs))) ≡ ((b && p (f x)) || list_any p (filter q (map f xs)))
    by true = refl
    by false = refl

-- a word that is among words passes, so one does
passes_among : (p : List ℕ → Bool) (words : List (List ℕ)) (word : List ℕ) → list_any (pointwise nat_eq word) words ≡ true → p word ≡ true → list_any p words ≡ true
passes_among p words word there h =
    let at = one_at (pointwise nat_eq word) words [] there in
    let is : word ≡ get_or words at.0 [] = (bytes_eq-Decides word (get_or words at.0 [])).0 at.2 in
    passes_at p words at.0 [] at.1 (ap p (sym is) ∙ h)

agree : (a b : Bool) → (a ≡ true → b ≡ true) → (b ≡ true → a ≡ true) → a ≡ b
agree true true f g = refl
agree true false f g = sym (f refl)
agree false true f g = g refl
agree false false f g = refl

module _ (front back : List Level) (count : ℕ) (lead : Leads 1 front count) (chain : IsChain count back) where
  abbrev listed : ℕ → List (List ℕ)
  listed node = words_of back (Some node)

  abbrev nodes : List (List (List ℕ))
  nodes = map listed (range_with_len 0 count)

  abbrev rests : List ℕ → List (List ℕ)
  rests = rest (accepts (front ++ back) (Some 0)) (domains back)

  differ : (i j : ℕ) → 0 ≤ i → i < j → j < 0 + count → same (listed i) (listed j) ≡ false
  differ i j ge before lt = by (same (listed i) (listed j)) refl
    where
      by : (b : Bool) → same (listed i) (listed j) ≡ b → b ≡ false
      by true e = let one = one_node count back chain i j (omega arith) (omega arith) ((same_decides (listed i) (listed j)).0 e) in absurd (omega arith)
      by false e = refl

  -- the words of a node are a rest
  node_is_rest : (q : List (List ℕ)) → list_any (same q) nodes ≡ true → list_any (λ word. has_words (rests word) && same q (rests word)) (all_words (domains front)) ≡ true
  node_is_rest q there =
      let at = one_at (same q) nodes [] there in
      let small : at.0 < count = omega (arith, at.1, length-map-range_with_len listed 0 count) in
      let here : get_or nodes at.0 [] ≡ listed at.0 = get_or-map-range_with_len listed 0 count at.0 at.0 [] small (omega arith) in
      let way = led 1 front count lead at.0 small in
      let root : way.start ≡ 0 = omega (arith, way.from) in
      let to : walk front (Some 0) way.word ≡ Some at.0 = ap (λ n. walk front (Some n) way.word) (sym root) ∙ way.to in
      let is : rests way.word ≡ listed at.0 = rest-is front back (Some 0) way.word way.is ∙ ap (words_of back) to in
      passes_among (λ word. has_words (rests word) && same q (rests word)) (all_words (domains front)) way.word (all_words-is (domains front) way.word ∙ way.is)
      (together (has_words (rests way.word)) (same q (rests way.word)) (ap has_words is ∙ node_has_words count back chain at.0 small) (ap (same q) (is ∙ sym here) ∙ at.2))

  -- a rest that isn't empty has the words of a node
  rest_is_node : (q : List (List ℕ)) → list_any (λ word. has_words (rests word) && same q (rests word)) (all_words (domains front)) ≡ true → list_any (same q) nodes ≡ true
  rest_is_node q there =
      let at = one_at (λ word. has_words (rests word) && same q (rests word)) (all_words (domains front)) [] there in
      let word = get_or (all_words (domains front)) at.0 [] in
      let is : is_word (domains front) word ≡ true = sym (all_words-is (domains front) word) ∙ passes_at (pointwise nat_eq word) (all_words (domains front)) at.0 [] at.1 ((bytes_eq-Decides word word).1 refl) in
      let two = both (has_words (rests word)) (same q (rests word)) at.2 in
      let e = rest-is front back (Some 0) word is in
      by word (walk front (Some 0) word) (walk_inside 1 front count lead (Some 0) word refl) (ap has_words (sym e) ∙ two.0) (ap (same q) (sym e) ∙ two.1)
    where
      by : (word : List ℕ) (x : Option ℕ) → is_outside count x ≡ false → has_words (words_of back x) ≡ true → same q (words_of back x) ≡ true → list_any (same q) nodes ≡ true
      by word None i some e = absurd (no (ap has_words (sym (none_kept back)) ∙ some))
        where
          no : has_words [] ≡ true → ⊥
          no g = cc
      by word (Some node) i some e =
          let small : node < count = inside count (Some node) node i refl in
          passes_at (same q) nodes node [] (let long = length-map-range_with_len listed 0 count in omega arith) (ap (same q) (get_or-map-range_with_len listed 0 count node node [] small (omega arith)) ∙ e)

  pub nodes_counted : count ≡ rest_count (accepts (front ++ back) (Some 0)) (domains front) (domains back)
  nodes_counted =
      sym (length-map-range_with_len listed 0 count)
      ∙ length-from_keys (lists_equiv nat_list_eq_equiv) nodes (filter has_words (map rests (all_words (domains front)))) (distinct_range listed 0 count differ)
      (λ q. agree (list_any (same q) nodes) (list_any (λ word. has_words (rests word) && same q (rests word)) (all_words (domains front))) (node_is_rest q) (rest_is_node q) ∙ sym (any-filter_map (same q) has_words rests (all_words (domains front))))

  different-by : (xs : List (List (List ℕ))) → different xs ≡ different_by same same_is same_itself xs
  different-by [] = refl
  different-by (words ∷ xs) = ap (λ l. words ∷ filter (λ other. not (same words other)) l) (different-by xs)

  -- what is summed over the classes is summed over the nodes
  pub classes_summed : (f : List (List ℕ) → ℕ) → sum_by f (classes (accepts (front ++ back) (Some 0)) (domains front) (domains back)) ≡ sum_by f nodes
  classes_summed f =
      let all = filter has_words (map rests (all_words (domains front))) in
      let any : (q : List (List ℕ)) → list_any (same q) all ≡ list_any (λ word. has_words (rests word) && same q (rests word)) (all_words (domains front)) = λ q. any-filter_map (same q) has_words rests (all_words (domains front)) in
      ap (sum_by f) (different-by all)
      ∙ same_sum same same_is same_itself f (different_by same same_is same_itself all) nodes (different_distinct same same_is same_itself all) (distinct_range listed 0 count differ)
      (λ q h. rest_is_node q (sym (any q) ∙ different_among same same_is same_itself q all h))
      (λ q h. among_different same same_is same_itself q all (any q ∙ node_is_rest q h))

  -- a beginning is one of a node's class exactly where it leads to the node
  pub class_is_node : (word : List ℕ) (node : ℕ) → is_word (domains front) word ≡ true → node < count → same (rests word) (listed node) ≡ is_number (walk front (Some 0) word) node
  class_is_node word node h lt =
      ap (λ r. same r (listed node)) (rest-is front back (Some 0) word h) ∙ by (walk front (Some 0) word) (walk_inside 1 front count lead (Some 0) word refl)
    where
      none : same (words_of back None) (listed node) ≡ false
      none = differs (same (words_of back None) (listed node)) refl
        where
          differs : (b : Bool) → same (words_of back None) (listed node) ≡ b → b ≡ false
          differs true e = absurd (both_ways (has_words (listed node)) (ap has_words (sym ((same_decides (words_of back None) (listed node)).0 e) ∙ none_kept back)) (node_has_words count back chain node lt))
          differs false e = refl

      by : (x : Option ℕ) → is_outside count x ≡ false → same (words_of back x) (listed node) ≡ is_number x node
      by None i = none
      by (Some other) i = agree (same (listed other) (listed node)) (other == node)
          (λ e. let one = one_node count back chain other node (inside count (Some other) other i refl) lt ((same_decides (listed other) (listed node)).0 e) in grind (arith, nat_tests))
          (λ e. let one : other ≡ node = grind (arith, nat_tests) in (same_decides (listed other) (listed node)).1 (ap listed one))

-- the first levels lead from the root to a layer
leads_from : (raw : RawDiagram) → IsCanonical raw → (k v : ℕ) → v + k ≤ length raw.domains → Leads (get_or raw.sizes v 0) (take k (drop v (levels raw))) (get_or raw.sizes (v + k) 0)
leads_from raw h zero v le = let same : v ≡ v + 0 = omega arith in ap (λ i. get_or raw.sizes i 0) same
leads_from raw h (suc k) v le =
    let lt : v < length raw.domains = omega arith in
    let next : (v + 1) + k ≡ v + suc k = omega arith in
    subst (λ ls. Leads (get_or raw.sizes v 0) (take (suc k) ls) (get_or raw.sizes (v + suc k) 0)) (sym (drop-levels raw v lt))
    (refl, h.shape.shaped v lt, h.canonical v lt, subst (λ i. Leads (get_or raw.sizes (v + 1) 0) (take k (drop (v + 1) (levels raw))) (get_or raw.sizes i 0)) next (leads_from raw h k (v + 1) (omega arith)))

map-take : {X Y : Type 0} (f : X → Y) (k : ℕ) (xs : List X) → map f (take k xs) ≡ take k (map f xs)
map-take f zero xs = refl
map-take f (suc k) [] = refl
map-take f (suc k) (x ∷ xs) = ap (λ l. f x ∷ l) (map-take f k xs)

map-drop : {X Y : Type 0} (f : X → Y) (k : ℕ) (xs : List X) → map f (drop k xs) ≡ drop k (map f xs)
map-drop f zero xs = refl
map-drop f (suc k) [] = refl
map-drop f (suc k) (x ∷ xs) = map-drop f k xs

-- the nodes of a layer are as many as the rests of the beginnings that end there
pub layer_counted : (raw : RawDiagram) → IsCanonical raw → (layer : ℕ) → layer ≤ length raw.domains → get_or raw.sizes layer 0 ≡ rest_count (accepts (levels raw) (Some 0)) (take layer raw.domains) (drop layer raw.domains)
layer_counted raw h layer le =
    let ls = levels raw in
    let front = take layer ls in
    let back = drop layer ls in
    let zeros : 0 + layer ≡ layer = omega arith in
    let lead : Leads 1 front (get_or raw.sizes layer 0) =
    subst (λ n. Leads n front (get_or raw.sizes layer 0)) h.shape.root (subst (λ i. Leads (get_or raw.sizes 0 0) front (get_or raw.sizes i 0)) zeros (leads_from raw h layer 0 (omega arith))) in
    let rest_of : ℕ = length raw.domains - layer in
    let chain : IsChain (get_or raw.sizes layer 0) back = chain_from raw h rest_of layer (omega arith) in
    let first : domains front ≡ take layer raw.domains = map-take (λ l. l.domain) layer ls ∙ ap (take layer) (domains-levels raw) in
    let left : domains back ≡ drop layer raw.domains = map-drop (λ l. l.domain) layer ls ∙ ap (drop layer) (domains-levels raw) in
    nodes_counted front back (get_or raw.sizes layer 0) lead chain
    ∙ (λ i. rest_count (accepts (take-append-drop layer ls i) (Some 0)) (first i) (left i))

-- all nodes are as many as the size of the set
pub all_counted : (raw : RawDiagram) → IsCanonical raw → sum raw.sizes ≡ size raw.domains (accepts (levels raw) (Some 0))
all_counted raw h =
    let counted : ℕ → ℕ = λ layer. rest_count (accepts (levels raw) (Some 0)) (take layer raw.domains) (drop layer raw.domains) in
    ap sum (fill_by_all counted raw.sizes (length raw.domains + 1) 0 h.shape.layers (λ layer lt. layer_counted raw h layer (omega arith)))

-- along as many values as levels words lead where they walk
walk-leads : (front : List Level) (x : Option ℕ) (word : List ℕ) → is_word (domains front) word ≡ true → walk front x word ≡ leads_to front x word
walk-leads [] x [] h = refl
walk-leads [] x (value ∷ word) h = absurd cc
walk-leads (l ∷ ls) x [] h = absurd cc
walk-leads (l ∷ ls) None (value ∷ word) h = refl
walk-leads (l ∷ ls) (Some node) (value ∷ word) h = walk-leads ls (edge l node value) word (both (nat_lt value l.domain) (is_word (domains ls) word) h).1

-- the words from a node of a layer on
abbrev pub node_words : RawDiagram → ℕ → ℕ → List (List ℕ)
node_words raw layer node = filter (accepts (drop layer (levels raw)) (Some node)) (all_words (drop layer raw.domains))

module _ (raw : RawDiagram) (h : IsCanonical raw) (layer : ℕ) (le : layer ≤ length raw.domains) where
  abbrev size_of : ℕ
  size_of = get_or raw.sizes layer 0

  abbrev front_of : List Level
  front_of = take layer (levels raw)

  abbrev back_of : List Level
  back_of = drop layer (levels raw)

  first_is : domains front_of ≡ take layer raw.domains
  first_is = map-take (λ l. l.domain) layer (levels raw) ∙ ap (take layer) (domains-levels raw)

  left_is : domains back_of ≡ drop layer raw.domains
  left_is = map-drop (λ l. l.domain) layer (levels raw) ∙ ap (drop layer) (domains-levels raw)

  lead_of : Leads 1 front_of size_of
  lead_of =
      let zeros : 0 + layer ≡ layer = omega arith in
      subst (λ n. Leads n front_of size_of) h.shape.root (subst (λ i. Leads (get_or raw.sizes 0 0) front_of (get_or raw.sizes i 0)) zeros (leads_from raw h layer 0 (omega arith)))

  chain_of : IsChain size_of back_of
  chain_of = chain_from raw h (length raw.domains - layer) layer (omega arith)

  -- what is summed over the classes of a layer is summed over its nodes
  pub layer_classes : (f : List (List ℕ) → ℕ) → sum_by f (classes (accepts (levels raw) (Some 0)) (take layer raw.domains) (drop layer raw.domains)) ≡ sum_by f (map (node_words raw layer) (range_with_len 0 size_of))
  layer_classes f =
      sym (λ i. sum_by f (classes (accepts (take-append-drop layer (levels raw) i) (Some 0)) (first_is i) (left_is i)))
      ∙ classes_summed front_of back_of size_of lead_of chain_of f
      ∙ (λ i. sum_by f (map (λ node. filter (accepts back_of (Some node)) (all_words (left_is i))) (range_with_len 0 size_of)))

  -- a beginning is one of a node's class exactly where it leads to the node
  pub layer_class : (word : List ℕ) (node : ℕ) → is_word (take layer raw.domains) word ≡ true → node < size_of
      → same (rest (accepts (levels raw) (Some 0)) (drop layer raw.domains) word) (node_words raw layer node) ≡ is_number (leads_to front_of (Some 0) word) node
  layer_class word node over lt =
      let is : is_word (domains front_of) word ≡ true = ap (λ d. is_word d word) first_is ∙ over in
      sym (λ i. same (rest (accepts (take-append-drop layer (levels raw) i) (Some 0)) (left_is i) word) (filter (accepts back_of (Some node)) (all_words (left_is i))))
      ∙ class_is_node front_of back_of size_of lead_of chain_of word node is lt
      ∙ ap (λ x. is_number x node) (walk-leads front_of (Some 0) word is)
