-- Canonical diagrams with the same words are equal.
use Rattle.std.proofs.Common.{◌≡◌, ℕ, suc, ◌+◌, ◌*◌, ◌/◌, ◌%◌, ◌<◌, ◌≤◌, ◌==◌, nat_lt, Bool, true, false, List, [], ◌∷◌, map, length, drop, get_or, is_some, IfSome, Option, Some, None, if◌then◌else◌, refl, sym, ap, ◌∙◌, subst, arith, length-drop, ◌⊎◌, inl, inr}
use Rattle.std.specs.List.{list_any}
use Rattle.std.proofs.Math.Nat.{div-lt_iff_lt-mul, mul-le-mul_right}
use Rattle.std.proofs.lemmas.Bool.{both_ways}
use Rattle.std.proofs.lemmas.Bool.Decides.{nat_tests}
use Rattle.std.proofs.lemmas.List.{ext_get_or, get_or-take, get_or-drop, get_or_past, length-take-le}
use Rattle.std.proofs.lemmas.List.FromFn.{length-range_with_len}
use Rattle.pc_diagram.specs.Diagram.{IsShapedLevel, IsCanonicalLevel}
use Rattle.pc_diagram.specs.DiagramFaults.{is_outside, met, out_of_turn}
use Rattle.pc_diagram.specs.Fitting.{is_number}
use Rattle.pc_diagram.specs.Levels.{Level, row, edge}
use Rattle.pc_diagram.specs.Paths.{accepts}
use Rattle.pc_diagram.proofs.AnyLemmas.{neither, none_at, none_in_take, none_in_drop, one_at}
use Rattle.pc_diagram.proofs.DiagramLemmas.{row-is}
use Rattle.pc_diagram.proofs.PathLemmas.{accepts-none, is_number-is}
use Rattle.pc_diagram.proofs.TurnLemmas.{missed_turn, out_of_turn-met, out_of_turn-range}
pub use Rattle.pc_diagram.proofs.PathLemmas.{accepts-none as accepts_none, is_number-is as reaches}

-- levels of which each has the nodes that the one before leads to, down to one node
abbrev pub IsChain : ℕ → List Level → Type 0
IsChain size [] = size ≡ 1
IsChain size (l ∷ ls) = (l.size ≡ size) × IsShapedLevel l × IsCanonicalLevel l × IsChain l.next ls

-- two nodes, or none, have the same words
abbrev pub Same : List Level → List Level → Option ℕ → Option ℕ → Type 0
Same ls ms x y = (word : List ℕ) → accepts ls x word ≡ accepts ms y word

-- an edge leads to a node of the next layer
pub outside_row : (l : Level) → IsCanonicalLevel l → (node value : ℕ) → is_outside l.next (edge l node value) ≡ false
outside_row l h node value =
    none_at (is_outside l.next) (row l node) value None
    (ap (list_any (is_outside l.next)) (row-is l node) ∙ none_in_take (is_outside l.next) l.domain (drop (node * l.domain) l.table) (none_in_drop (is_outside l.next) (node * l.domain) l.table h.layered)) refl

pub inside : (next : ℕ) (x : Option ℕ) (target : ℕ) → is_outside next x ≡ false → x ≡ Some target → target < next
inside next x target h e =
    let no : is_outside next (Some target) ≡ false = ap (is_outside next) (sym e) ∙ h in grind (arith, nat_tests)

some_target : (x : Option ℕ) → is_some x ≡ true → (target : ℕ) × (x ≡ Some target)
some_target None h = absurd cc
some_target (Some target) h = (target, refl)

-- each node has a word
pub some_word : (size : ℕ) (ls : List Level) → IsChain size ls → (node : ℕ) → node < size → (word : List ℕ) × (accepts ls (Some node) word ≡ true)
some_word size [] h node lt = ([], refl)
some_word size (l ∷ ls) h node lt =
    let size_is = h.0 in
    let at = one_at is_some (row l node) None (h.2.live node (omega arith)) in
    let target = some_target (edge l node at.0) at.2 in
    let rest = some_word l.next ls h.3 target.0 (inside l.next (edge l node at.0) target.0 (outside_row l h.2 node at.0) target.1) in
    (at.0 ∷ rest.0, ap (λ x. accepts ls x rest.0) target.1 ∙ rest.1)

-- edges of the same words are the same, where nodes of the same words are
same_edge : (next : ℕ) (ls : List Level) → IsChain next ls → ((a b : ℕ) → a < next → b < next → Same ls ls (Some a) (Some b) → a ≡ b) →
    (x y : Option ℕ) → is_outside next x ≡ false → is_outside next y ≡ false → Same ls ls x y → x ≡ y
same_edge next ls h apart None None p q s = refl
same_edge next ls h apart None (Some b) p q s =
    let one = some_word next ls h b (inside next (Some b) b q refl) in absurd (both_ways (accepts ls (Some b) one.0) (sym (s one.0) ∙ accepts-none ls one.0) one.1)
same_edge next ls h apart (Some a) None p q s =
    let one = some_word next ls h a (inside next (Some a) a p refl) in absurd (both_ways (accepts ls (Some a) one.0) (s one.0 ∙ accepts-none ls one.0) one.1)
same_edge next ls h apart (Some a) (Some b) p q s = ap Some (apart a b (inside next (Some a) a p refl) (inside next (Some b) b q refl) s)

-- a row has an edge for each value
length-row : (l : Level) → IsShapedLevel l → (node : ℕ) → node < l.size → length (row l node) ≡ l.domain
length-row l s node lt =
    let width = s.width in
    let room : (node + 1) * l.domain ≤ l.size * l.domain = mul-le-mul_right l.domain (let le : node + 1 ≤ l.size = omega arith in le) in
    let left : l.domain ≤ length (drop (node * l.domain) l.table) = omega (arith, length-drop (node * l.domain) l.table) in
    ap length (row-is l node) ∙ length-take-le l.domain (drop (node * l.domain) l.table) left

same_rows : (l : Level) → IsShapedLevel l → (a b : ℕ) → a < l.size → b < l.size → ((value : ℕ) → edge l a value ≡ edge l b value) → row l a ≡ row l b
same_rows l s a b la lb same = ext_get_or None (row l a) (row l b) (length-row l s a la ∙ sym (length-row l s b lb)) (λ value lt. same value)

not_apart : (l : Level) → IsCanonicalLevel l → (a b : ℕ) → a < l.size → b < l.size → row l a ≡ row l b → a ≡ b
not_apart l h a b la lb same = by (nat_lt a b) refl (nat_lt b a) refl
  where
    by : (p : Bool) → nat_lt a b ≡ p → (q : Bool) → nat_lt b a ≡ q → a ≡ b
    by true e q f = let lt : a < b = grind (arith, nat_tests) in absurd (h.reduced a b lt lb same)
    by false e true f = let lt : b < a = grind (arith, nat_tests) in absurd (h.reduced b a lt la (sym same))
    by false e false f = grind (arith, nat_tests)

-- nodes of the same words are the same
pub apart : (size : ℕ) (ls : List Level) → IsChain size ls → (a b : ℕ) → a < size → b < size → Same ls ls (Some a) (Some b) → a ≡ b
apart size [] h a b la lb s = let one : size ≡ 1 = h in omega arith
apart size (l ∷ ls) h a b la lb s =
    let size_is = h.0 in
    let here : a < l.size = omega arith in
    let there : b < l.size = omega arith in
    not_apart l h.2 a b here there (same_rows l h.1 a b here there
    (λ value. same_edge l.next ls h.3 (apart l.next ls h.3) (edge l a value) (edge l b value) (outside_row l h.2 a value) (outside_row l h.2 b value) (λ word. s (value ∷ word))))

-- the first of edges with no missed turn is met before, or in its turn
turn_cases : (turn x : ℕ) (xs : List (Option ℕ)) → missed_turn turn (Some x ∷ xs) ≡ None → ((x < turn) × (missed_turn turn xs ≡ None)) ⊎ ((x ≡ turn) × (missed_turn (turn + 1) xs ≡ None))
turn_cases turn x xs h = by (nat_lt turn x) refl (x == turn) refl h
  where
    by : (p : Bool) → nat_lt turn x ≡ p → (q : Bool) → (x == turn) ≡ q → (if p then Some turn else (if q then missed_turn (turn + 1) xs else missed_turn turn xs)) ≡ None →
        ((x < turn) × (missed_turn turn xs ≡ None)) ⊎ ((x ≡ turn) × (missed_turn (turn + 1) xs ≡ None))
    by true e q f none = absurd cc
    by false e true f none = inr ((let same : x ≡ turn = grind (arith, nat_tests) in same), none)
    by false e false f none = inl ((let lt : x < turn = grind (arith, nat_tests) in lt), none)

module _ (ls ms : List Level) (na nb : ℕ) (h : IsChain na ls) (k : IsChain nb ms) where
  -- the numbers below a turn name nodes with the same words
  abbrev SameBelow : ℕ → Type 0
  SameBelow turn = (turn ≤ na) × (turn ≤ nb) × ((x : ℕ) → x < turn → Same ls ms (Some x) (Some x))

  one_more : (turn x y : ℕ) → x ≡ turn → y ≡ turn → x < na → y < nb → Same ls ms (Some x) (Some y) → SameBelow turn → SameBelow (turn + 1)
  one_more turn x y ex ey la lb s below =
      (omega arith, omega arith, λ z lt. by z (nat_lt z turn) refl lt)
    where
      at_turn : Same ls ms (Some turn) (Some turn)
      at_turn word = ap (λ n. accepts ls (Some n) word) (sym ex) ∙ s word ∙ ap (λ n. accepts ms (Some n) word) ey

      by : (z : ℕ) (p : Bool) → nat_lt z turn ≡ p → z < turn + 1 → Same ls ms (Some z) (Some z)
      by z true e lt = below.2 z (let small : z < turn = grind (arith, nat_tests) in small)
      by z false e lt = let same : turn ≡ z = grind (arith, nat_tests) in λ word. subst (λ n. accepts ls (Some n) word ≡ accepts ms (Some n) word) same (at_turn word)

  both_some : (turn x y : ℕ) (xs ys : List (Option ℕ)) → x < na → y < nb → Same ls ms (Some x) (Some y) → SameBelow turn →
      ((x < turn) × (missed_turn turn xs ≡ None)) ⊎ ((x ≡ turn) × (missed_turn (turn + 1) xs ≡ None)) → ((y < turn) × (missed_turn turn ys ≡ None)) ⊎ ((y ≡ turn) × (missed_turn (turn + 1) ys ≡ None)) →
      ((t : ℕ) → missed_turn t xs ≡ None → missed_turn t ys ≡ None → SameBelow t → xs ≡ ys) → Some x ∷ xs ≡ Some y ∷ ys
  both_some turn x y xs ys la lb s below (inl p) (inl q) rest =
      let same : x ≡ y = apart nb ms k x y (omega (arith, p.0, below.1)) lb (λ word. sym (below.2 x p.0 word) ∙ s word) in
      ap (λ n. Some n ∷ xs) same ∙ ap (λ l. Some y ∷ l) (rest turn p.1 q.1 below)
  both_some turn x y xs ys la lb s below (inl p) (inr q) rest =
      let same : x ≡ y = apart nb ms k x y (omega (arith, p.0, below.1)) lb (λ word. sym (below.2 x p.0 word) ∙ s word) in
      absurd (omega (arith, p.0, q.0))
  both_some turn x y xs ys la lb s below (inr p) (inl q) rest =
      let same : x ≡ y = apart na ls h x y la (omega (arith, q.0, below.0)) (λ word. s word ∙ sym (below.2 y q.0 word)) in
      absurd (omega (arith, p.0, q.0))
  both_some turn x y xs ys la lb s below (inr p) (inr q) rest =
      let same : x ≡ y = p.0 ∙ sym q.0 in
      ap (λ n. Some n ∷ xs) same ∙ ap (λ l. Some y ∷ l) (rest (turn + 1) p.1 q.1 (one_more turn x y p.0 q.0 la lb s below))

  -- edges with the same words, numbered in their turns, are the same
  same_table : (xs ys : List (Option ℕ)) (turn : ℕ) → length xs ≡ length ys → list_any (is_outside na) xs ≡ false → list_any (is_outside nb) ys ≡ false → ((i : ℕ) → Same ls ms (get_or xs i None) (get_or ys i None)) →
      missed_turn turn xs ≡ None → missed_turn turn ys ≡ None → SameBelow turn → xs ≡ ys
  same_table [] [] turn len p q s e f below = refl
  same_table [] (y ∷ ys) turn len p q s e f below = absurd (omega arith)
  same_table (x ∷ xs) [] turn len p q s e f below = absurd (omega arith)
  same_table (None ∷ xs) (None ∷ ys) turn len p q s e f below = ap (λ l. None ∷ l) (same_table xs ys turn (omega arith) p q (λ i. s (suc i)) e f below)
  same_table (None ∷ xs) (Some y ∷ ys) turn len p q s e f below =
      let two = neither (is_outside nb (Some y)) (list_any (is_outside nb) ys) q in
      let one = some_word nb ms k y (inside nb (Some y) y two.0 refl) in
      absurd (both_ways (accepts ms (Some y) one.0) (sym (s 0 one.0) ∙ accepts-none ls one.0) one.1)
  same_table (Some x ∷ xs) (None ∷ ys) turn len p q s e f below =
      let two = neither (is_outside na (Some x)) (list_any (is_outside na) xs) p in
      let one = some_word na ls h x (inside na (Some x) x two.0 refl) in
      absurd (both_ways (accepts ls (Some x) one.0) (s 0 one.0 ∙ accepts-none ms one.0) one.1)
  same_table (Some x ∷ xs) (Some y ∷ ys) turn len p q s e f below =
      let a = neither (is_outside na (Some x)) (list_any (is_outside na) xs) p in
      let b = neither (is_outside nb (Some y)) (list_any (is_outside nb) ys) q in
      both_some turn x y xs ys (inside na (Some x) x a.0 refl) (inside nb (Some y) y b.0 refl) (s 0) below (turn_cases turn x xs e) (turn_cases turn y ys f)
      (λ t g j below_t. same_table xs ys t (omega arith) a.1 b.1 (λ i. s (suc i)) g j below_t)

-- the edge of a node for a value stands in the table
pub edge-is : (l : Level) (node value : ℕ) → value < l.domain → edge l node value ≡ get_or l.table (node * l.domain + value) None
edge-is l node value lt =
    ap (λ xs. get_or xs value None) (row-is l node) ∙ get_or-take l.domain (drop (node * l.domain) l.table) value None lt ∙ get_or-drop (node * l.domain) l.table value None

-- nodes with the same words have edges with the same words
same_words_at : (l m : Level) (ls ms : List Level) → IsShapedLevel l → IsShapedLevel m → l.domain ≡ m.domain → l.size ≡ m.size →
    ((node : ℕ) → node < l.size → Same (l ∷ ls) (m ∷ ms) (Some node) (Some node)) → (i : ℕ) → Same ls ms (get_or l.table i None) (get_or m.table i None)
same_words_at l m ls ms sl sm ed es s i word = by (nat_lt i (length l.table)) refl
  where
    by : (p : Bool) → nat_lt i (length l.table) ≡ p → accepts ls (get_or l.table i None) word ≡ accepts ms (get_or m.table i None) word
    by true e =
        let some = sl.some_values in
        let width = sl.width in
        let node = i / l.domain in
        let value = i % l.domain in
        let lt : i < l.size * l.domain = grind (arith, nat_tests) in
        let row_lt : node < l.size = (div-lt_iff_lt-mul {k = l.domain} {x = i} {y = l.size} some).1 lt in
        let value_lt : value < l.domain = omega arith in
        let there : node * l.domain + value ≡ i = omega arith in
        let there_m : node * m.domain + value ≡ i = ap (λ d. node * d + value) (sym ed) ∙ there in
        let value_lt_m : value < m.domain = omega arith in
        ap (λ x. accepts ls x word) (sym (edge-is l node value value_lt ∙ ap (λ j. get_or l.table j None) there)) ∙ s node row_lt (value ∷ word)
        ∙ ap (λ x. accepts ms x word) (edge-is m node value value_lt_m ∙ ap (λ j. get_or m.table j None) there_m)
    by false e =
        let width : length l.table ≡ length m.table = sl.width ∙ ap (λ d. l.size * d) ed ∙ ap (λ n. n * m.domain) es ∙ sym sm.width in
        let past : length l.table ≤ i = grind (arith, nat_tests) in
        ap (λ x. accepts ls x word) (get_or_past l.table i None past) ∙ accepts-none ls word
        ∙ sym (ap (λ x. accepts ms x word) (get_or_past m.table i None (omega arith)) ∙ accepts-none ms word)

-- no turn is missed at a canonical level
no_turn_missed : (l : Level) → IsCanonicalLevel l → missed_turn 0 l.table ≡ None
no_turn_missed l h = sym (out_of_turn-met l.table) ∙ ap (out_of_turn 0) h.ordered ∙ out_of_turn-range 0 l.next

-- levels with the same words are the same
pub same_levels : (size : ℕ) (ls ms : List Level) → IsChain size ls → IsChain size ms → map (λ l. l.domain) ls ≡ map (λ l. l.domain) ms → ((node : ℕ) → node < size → Same ls ms (Some node) (Some node)) → ls ≡ ms
same_levels size [] [] h k d s = refl
same_levels size [] (m ∷ ms) h k d s = absurd cc
same_levels size (l ∷ ls) [] h k d s = absurd cc
same_levels size (l ∷ ls) (m ∷ ms) h k d s =
    let ed : l.domain ≡ m.domain = cc in
    let rest : map (λ l. l.domain) ls ≡ map (λ l. l.domain) ms = cc in
    let es : l.size ≡ m.size = h.0 ∙ sym k.0 in
    let size_is = h.0 in
    let at = same_words_at l m ls ms h.1 k.1 ed es (λ node lt. s node (omega arith)) in
    let width : length l.table ≡ length m.table = h.1.width ∙ ap (λ d. l.size * d) ed ∙ ap (λ n. n * m.domain) es ∙ sym k.1.width in
    let et : l.table ≡ m.table = same_table ls ms l.next m.next h.3 k.3 l.table m.table 0 width h.2.layered k.2.layered at (no_turn_missed l h.2) (no_turn_missed m k.2) (omega arith, omega arith, λ x lt. absurd (omega arith)) in
    let en : l.next ≡ m.next = sym (length-range_with_len 0 l.next) ∙ ap length (sym h.2.ordered ∙ ap met et ∙ k.2.ordered) ∙ length-range_with_len 0 m.next in
    let more = same_levels l.next ls ms h.3 (subst (λ n. IsChain n ms) (sym en) k.3) rest
    (λ node lt word.
    let p = one_at (λ target. is_number target node) l.table None (h.2.reached node lt) in
    let here = is_number-is (get_or l.table p.0 None) node p.2 in
    let there : get_or m.table p.0 None ≡ Some node = ap (λ xs. get_or xs p.0 None) (sym et) ∙ here in
    ap (λ x. accepts ls x word) (sym here) ∙ at p.0 word ∙ ap (λ x. accepts ms x word) there) in
    λ i. record { domain = ed i; size = es i; next = en i; table = et i } ∷ more i

-- an entry of a table leads to a node of the next layer
pub entry_within : (l : Level) → IsCanonicalLevel l → (table : List (Option ℕ)) → table ≡ l.table → (place : ℕ) (x : Option ℕ) → x ≡ get_or table place None → IfSome x (λ target. target < l.next)
entry_within l h table same place x is =
    by x (ap (is_outside l.next) (is ∙ ap (λ t. get_or t place None) same) ∙ none_at (is_outside l.next) l.table place None h.layered refl)
  where
    by : (y : Option ℕ) → is_outside l.next y ≡ false → IfSome y (λ target. target < l.next)
    by None e = tt
    by (Some target) e = inside l.next (Some target) target e refl
