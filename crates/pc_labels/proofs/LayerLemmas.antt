-- Words and paths that go on by one value at either end.
use Rattle.std.proofs.Common.{◌≡◌, ℕ, zero, suc, ◌+◌, ◌*◌, ◌<◌, ◌≤◌, nat_lt, ◌==◌, Bool, true, false, ◌||◌, ◌&&◌, not, List, [], ◌∷◌, ◌++◌, length, take, drop, get_or, drop-cons, Option, Some, None, ℤ, pos, ◌+ℤ◌, refl, sym, ap, ◌∙◌, arith}
use Rattle.std.specs.Prelude.{slice_index_or}
use Rattle.std.proofs.Math.Nat.{mul-le-mul_right}
use Rattle.std.proofs.lemmas.Bool.Decides.{nat_tests}
use Rattle.std.proofs.lemmas.Int.{ints}
use Rattle.std.proofs.lemmas.List.{take_more, take_all, drop_all}
use Rattle.pc_diagram.specs.declared.costs.CostPair.{CostPair}
use Rattle.pc_diagram.specs.declared.which.Which.{Which}
use Rattle.pc_diagram.specs.declared.which.Which.TheVariants.{First, Second}
use Rattle.pc_diagram.specs.Costs.{cost, cost_pair, part, pair_at}
use Rattle.pc_diagram.specs.Diagram.{IsShapedLevel}
use Rattle.pc_diagram.specs.Levels.{Level, edge, row}
use Rattle.pc_diagram.specs.NodePaths.{comes_before}
use Rattle.pc_diagram.specs.Weight.{plus_pair}
use Rattle.pc_diagram.proofs.DiagramLemmas.{row-is}
use Rattle.pc_diagram.proofs.PathLemmas.{cost-append}
use Rattle.pc_labels.proofs.Extending.{one_form}

-- a list is all but its last item and that item
pub last_apart : (k : ℕ) (word : List ℕ) → length word ≡ k + 1 → word ≡ take k word ++ get_or word k 0 ∷ []
last_apart k word h =
    let all : take (k + 1) word ≡ word = take_all (k + 1) word (omega (arith, h)) in
    sym all ∙ take_more word k 0 (omega (arith, h))

-- words that go on by a value order by what was before, and then by the value
pub order_at_end : (a b : List ℕ) (v w : ℕ) → length a ≡ length b → comes_before (a ++ v ∷ []) (b ++ w ∷ []) ≡ (comes_before a b || (not (comes_before b a) && nat_lt v w))
order_at_end [] [] v w same = by (nat_lt v w) (v == w)
  where
    by : (p q : Bool) → (p || (q && false)) ≡ p
    by true q = refl
    by false true = refl
    by false false = refl
order_at_end [] (b ∷ bs) v w same = absurd (omega arith)
order_at_end (a ∷ rest) [] v w same = absurd (omega arith)
order_at_end (a ∷ rest) (b ∷ bs) v w same =
    ap (λ t. nat_lt a b || (a == b && t)) (order_at_end rest bs v w (omega arith)) ∙ by (nat_lt a b) refl (a == b) refl (nat_lt b a) refl (b == a) refl (comes_before rest bs) (comes_before bs rest) (nat_lt v w)
  where
    by : (p : Bool) → nat_lt a b ≡ p → (q : Bool) → (a == b) ≡ q → (r : Bool) → nat_lt b a ≡ r → (s : Bool) → (b == a) ≡ s → (x y z : Bool) → (p || (q && (x || (not y && z)))) ≡ ((p || (q && x)) || (not (r || (s && y)) && z))
    by true e q f r g s i x y z = refl
    by false e true f true g s i x y z = absurd (grind (arith, nat_tests))
    by false e true f false g false i x y z = absurd (grind (arith, nat_tests))
    by false e true f false g true i x y z = refl
    by false e false f true g s i x y z = refl
    by false e false f false g s i x y z = absurd (grind (arith, nat_tests))

no_less : (v : ℕ) → nat_lt v v ≡ false
no_less v = grind (arith, nat_tests)

pub same_end : (a b : List ℕ) (v : ℕ) → length a ≡ length b → comes_before (a ++ v ∷ []) (b ++ v ∷ []) ≡ comes_before a b
same_end a b v same = order_at_end a b v v same ∙ ap (λ t. comes_before a b || (not (comes_before b a) && t)) (no_less v) ∙ by (comes_before a b) (comes_before b a)
  where
    by : (p q : Bool) → (p || (not q && false)) ≡ p
    by true q = refl
    by false true = refl
    by false false = refl

pub same_begin : (a b : List ℕ) (v : ℕ) → comes_before (v ∷ a) (v ∷ b) ≡ comes_before a b
same_begin a b v = one_form v v (comes_before a b) ∙ ap (λ t. t || (not t && comes_before a b)) (no_less v)

-- numbers of two parts each order by the first and then by the second
pub composite : (r q d v w : ℕ) → v < d → w < d → nat_lt (r * d + v) (q * d + w) ≡ (nat_lt r q || (not (nat_lt q r) && nat_lt v w))
composite r q d v w h k = by (nat_lt r q) refl (nat_lt q r) refl
  where
    above : (a b x y : ℕ) → a < b → x < d → (a * d + x) < (b * d + y)
    above a b x y lt less =
        let one : suc a ≤ b = omega (arith, lt) in
        let step : suc a * d ≤ b * d = mul-le-mul_right d one in
        let next : suc a * d ≡ a * d + d = omega arith in
        omega (arith, step, next, less)

    by : (s : Bool) → nat_lt r q ≡ s → (t : Bool) → nat_lt q r ≡ t → nat_lt (r * d + v) (q * d + w) ≡ (s || (not t && nat_lt v w))
    by true e t f = let lt : r < q = grind (arith, nat_tests) in let less = above r q v w lt h in grind (arith, nat_tests)
    by false e true f = let lt : q < r = grind (arith, nat_tests) in let less = above q r w v lt k in grind (arith, nat_tests)
    by false e false f =
        let same : r ≡ q = grind (arith, nat_tests) in
        ap (λ n. nat_lt (n * d + v) (q * d + w)) same ∙ shift (q * d) v w
      where
        shift : (m x y : ℕ) → nat_lt (m + x) (m + y) ≡ nat_lt x y
        shift m x y = grind (arith, nat_tests)

-- the costs of a word that goes on by a value
pub nothing_more : (costs : List (List CostPair)) (which : Which) → cost costs which [] ≡ pos 0
nothing_more [] which = refl
nothing_more (r ∷ rs) which = refl

plus_zero : (z : ℤ) → (z +ℤ pos 0) ≡ z
plus_zero z = omega (arith, ints)

pub cost_at_end : (costs : List (List CostPair)) (word : List ℕ) (v : ℕ) → length word < length costs → cost_pair costs (word ++ v ∷ []) ≡ plus_pair (cost_pair costs word) (pair_at (slice_index_or costs (length word) []) v)
cost_at_end costs word v lt = ap (λ z. record { first = z; second = cost costs Second (word ++ v ∷ []) }) (each First) ∙ ap (λ z. record { first = cost costs First word +ℤ (pair_at (slice_index_or costs (length word) []) v).first; second = z }) (each Second)
  where
    tail : drop (length word) costs ≡ slice_index_or costs (length word) [] ∷ drop (suc (length word)) costs
    tail = drop-cons costs (length word) [] lt

    each : (which : Which) → cost costs which (word ++ v ∷ []) ≡ (cost costs which word +ℤ part which (pair_at (slice_index_or costs (length word) []) v))
    each which =
        let p = part which (pair_at (slice_index_or costs (length word) []) v) in
        cost-append costs which word (v ∷ []) ∙ ap (λ rows. cost costs which word +ℤ cost rows which (v ∷ [])) tail
        ∙ ap (λ z. cost costs which word +ℤ (p +ℤ z)) (nothing_more (drop (suc (length word)) costs) which) ∙ ap (λ z. cost costs which word +ℤ z) (plus_zero p)

turned : (a b : ℤ) → (a +ℤ b) ≡ (b +ℤ a)
turned a b = omega (arith, ints)

pub cost_at_begin : (costs : List (List CostPair)) (k : ℕ) (word : List ℕ) (v : ℕ) → k < length costs → cost_pair (drop k costs) (v ∷ word) ≡ plus_pair (cost_pair (drop (k + 1) costs) word) (pair_at (slice_index_or costs k []) v)
cost_at_begin costs k word v lt =
    let p = pair_at (slice_index_or costs k []) v in
    let next : suc k ≡ k + 1 = omega arith in
    ap (λ rows. cost_pair rows (v ∷ word)) (drop-cons costs k [] lt ∙ ap (λ n. slice_index_or costs k [] ∷ drop n costs) next)
    ∙ ap (λ z. record { first = z; second = p.second +ℤ cost (drop (k + 1) costs) Second word }) (turned p.first (cost (drop (k + 1) costs) First word))
    ∙ ap (λ z. record { first = cost (drop (k + 1) costs) First word +ℤ p.first; second = z }) (turned p.second (cost (drop (k + 1) costs) Second word))

abbrev no_edges : List (Option ℕ)
no_edges = []

take_none : (n : ℕ) → take n no_edges ≡ no_edges
take_none zero = refl
take_none (suc n) = refl

-- an edge begins at a node of its layer
pub edge_begins : (l : Level) (node value target : ℕ) → IsShapedLevel l → edge l node value ≡ Some target → node < l.size
edge_begins l node value target shaped e = by (nat_lt node l.size) refl
  where
    by : (b : Bool) → nat_lt node l.size ≡ b → node < l.size
    by true f = grind (arith, nat_tests)
    by false f =
        let le : l.size ≤ node = grind (arith, nat_tests) in
        let far : l.size * l.domain ≤ node * l.domain = mul-le-mul_right l.domain le in
        let none : row l node ≡ [] = row-is l node ∙ ap (take l.domain) (drop_all (node * l.domain) l.table (omega (arith, far, shaped.width))) ∙ take_none l.domain in
        let no : edge l node value ≡ None = ap (λ xs. slice_index_or xs value None) none in
        absurd (let bad : Some target ≡ None = sym e ∙ no in cc)
