-- What words of two parts cost, and how they stand in order.
use Rattle.std.proofs.Common.{◌≡◌, ℕ, nat_lt, ◌==◌, Bool, true, false, ◌&&◌, ◌||◌, List, [], ◌∷◌, ◌++◌, length, take, drop, ◌+ℤ◌, refl, sym, ap, ◌∙◌, arith}
use Rattle.std.proofs.lemmas.Bool.{both_ways}
use Rattle.std.proofs.lemmas.Bool.Decides.{nat_tests}
use Rattle.std.proofs.lemmas.Int.{ints}
use Rattle.std.proofs.lemmas.List.{length-take, take-append-drop}
use Rattle.pc_diagram.specs.declared.costs.CostPair.{CostPair}
use Rattle.pc_diagram.specs.declared.which.Which.TheVariants.{First, Second}
use Rattle.pc_diagram.specs.Costs.{cost, cost_pair, is_cheaper}
use Rattle.pc_diagram.specs.NodePaths.{comes_before}
use Rattle.pc_diagram.specs.Weight.{plus_pair}
use Rattle.pc_diagram.specs.Words.{is_word}
use Rattle.pc_diagram.proofs.LeastWords.{comes_before-one_way}
use Rattle.pc_diagram.proofs.PathLemmas.{cost-append, is_word-append, length-word}
use Rattle.pc_diagram.proofs.ShapeLemmas.{both}

-- ---- costs of two parts

-- a word costs what its parts cost
pub pair-append : (costs : List (List CostPair)) (u v : List ℕ) → cost_pair costs (u ++ v) ≡ plus_pair (cost_pair costs u) (cost_pair (drop (length u) costs) v)
pair-append costs u v =
    ap (λ z. record { first = z; second = cost costs Second (u ++ v) }) (cost-append costs First u v)
    ∙ ap (λ z. record { first = cost costs First u +ℤ cost (drop (length u) costs) First v; second = z }) (cost-append costs Second u v)

-- where neither part is cheaper, the sum isn't
pub sum_no_cheaper : (a b c d : CostPair) → is_cheaper a b ≡ false → is_cheaper c d ≡ false → is_cheaper (plus_pair a c) (plus_pair b d) ≡ false
sum_no_cheaper a b c d h k = grind (arith, ints)

-- and where it isn't dearer either, neither part is dearer
pub first_no_dearer : (a b c d : CostPair) → is_cheaper a b ≡ false → is_cheaper c d ≡ false → is_cheaper (plus_pair b d) (plus_pair a c) ≡ false → is_cheaper b a ≡ false
first_no_dearer a b c d h k e = grind (arith, ints)

pub second_no_dearer : (a b c d : CostPair) → is_cheaper a b ≡ false → is_cheaper c d ≡ false → is_cheaper (plus_pair b d) (plus_pair a c) ≡ false → is_cheaper d c ≡ false
second_no_dearer a b c d h k e = grind (arith, ints)

-- ---- order of two parts

no_first : (a b : Bool) → (a || b) ≡ false → a ≡ false
no_first false b h = refl
no_first true b h = absurd cc

no_second : (a b : Bool) → (a || b) ≡ false → b ≡ false
no_second false b h = h
no_second true b h = absurd cc

-- where neither part comes before, the whole doesn't
pub parts_before : (u h v t : List ℕ) → length u ≡ length h → comes_before u h ≡ false → comes_before v t ≡ false → comes_before (u ++ v) (h ++ t) ≡ false
parts_before [] [] v t same first second = second
parts_before [] (y ∷ h) v t same first second = absurd (omega arith)
parts_before (x ∷ u) [] v t same first second = absurd (omega arith)
parts_before (x ∷ u) (y ∷ h) v t same first second =
    let less = no_first (nat_lt x y) (x == y && comes_before u h) first in
    by (nat_lt x y) less (x == y) (no_second (nat_lt x y) (x == y && comes_before u h) first) (λ e. parts_before u h v t (omega arith) e second)
  where
    by : (a : Bool) → a ≡ false → (b : Bool) → (b && comes_before u h) ≡ false → (comes_before u h ≡ false → comes_before (u ++ v) (h ++ t) ≡ false) → (a || (b && comes_before (u ++ v) (h ++ t))) ≡ false
    by true f b e rest = absurd cc
    by false f true e rest = rest e
    by false f false e rest = refl

-- what doesn't come before another doesn't come before what that doesn't come before
pub before_chain : (x y z : List ℕ) → comes_before x y ≡ false → comes_before y z ≡ false → comes_before x z ≡ false
before_chain [] [] z h k = k
before_chain [] (b ∷ y) z h k = absurd cc
before_chain (a ∷ x) y [] h k = refl
before_chain (a ∷ x) [] (c ∷ z) h k = absurd cc
before_chain (a ∷ x) (b ∷ y) (c ∷ z) h k =
    by (nat_lt a b) refl (a == b) refl (nat_lt b c) refl (b == c) refl (nat_lt a c) refl (a == c) refl h k (before_chain x y z)
  where
    by : (p : Bool) → nat_lt a b ≡ p → (q : Bool) → (a == b) ≡ q → (r : Bool) → nat_lt b c ≡ r → (s : Bool) → (b == c) ≡ s → (t : Bool) → nat_lt a c ≡ t → (u : Bool) → (a == c) ≡ u
        → (p || (q && comes_before x y)) ≡ false → (r || (s && comes_before y z)) ≡ false → (comes_before x y ≡ false → comes_before y z ≡ false → comes_before x z ≡ false) → (t || (u && comes_before x z)) ≡ false
    by true e q f r g s i t j u m h k rest = absurd cc
    by false e q f true g s i t j u m h k rest = absurd cc
    by false e q f false g s i true j u m h k rest = absurd (grind (arith, nat_tests))
    by false e q f false g s i false j false m h k rest = refl
    by false e true f false g true i false j true m h k rest = rest h k
    by false e false f false g s i false j true m h k rest = absurd (grind (arith, nat_tests))
    by false e true f false g false i false j true m h k rest = absurd (grind (arith, nat_tests))

-- what comes first by its first part comes first
pub before_first : (u h v t : List ℕ) → length u ≡ length h → comes_before u h ≡ true → comes_before (u ++ v) (h ++ t) ≡ true
before_first [] [] v t same first = absurd cc
before_first [] (y ∷ h) v t same first = absurd (omega arith)
before_first (x ∷ u) [] v t same first = absurd (omega arith)
before_first (x ∷ u) (y ∷ h) v t same first = by (nat_lt x y) (x == y) first (before_first u h v t (omega arith))
  where
    by : (a b : Bool) → (a || (b && comes_before u h)) ≡ true → (comes_before u h ≡ true → comes_before (u ++ v) (h ++ t) ≡ true) → (a || (b && comes_before (u ++ v) (h ++ t))) ≡ true
    by true b e rest = refl
    by false true e rest = rest e
    by false false e rest = absurd cc

-- no word comes before itself
pub not_before_itself : (word : List ℕ) → comes_before word word ≡ false
not_before_itself word = by (comes_before word word) refl
  where
    by : (b : Bool) → comes_before word word ≡ b → b ≡ false
    by false e = refl
    by true e = absurd (both_ways (comes_before word word) (comes_before-one_way word word e) e)

-- ---- parts of words

-- both parts of a word are words
pub parts_over : (domains : List ℕ) (place : ℕ) (word : List ℕ) → is_word domains word ≡ true → (is_word (take place domains) (take place word) ≡ true) × (is_word (drop place domains) (drop place word) ≡ true)
parts_over domains place word over =
    let long = length-word domains word over in
    let fit : length (take place word) ≡ length (take place domains) = omega (arith, length-take place domains, length-take place word) in
    both (is_word (take place domains) (take place word)) (is_word (drop place domains) (drop place word))
    (sym (is_word-append (take place domains) (drop place domains) (take place word) (drop place word) fit)
    ∙ ap (λ ds. is_word ds (take place word ++ drop place word)) (take-append-drop place domains)
    ∙ ap (is_word domains) (take-append-drop place word) ∙ over)
