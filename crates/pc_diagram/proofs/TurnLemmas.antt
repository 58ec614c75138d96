-- The order in which targets are first met.
use Rattle.std.proofs.Common.{◌≡◌, ℕ, zero, suc, ◌+◌, ◌≤◌, ◌==◌, nat_lt, Bool, true, false, cond, not, ◌&&◌, ◌||◌, List, [], ◌∷◌, filter, length, Option, Some, None, if◌then◌else◌, refl, sym, ap, ◌∙◌, arith}
use Rattle.std.specs.List.{list_any, range_with_len}
use Rattle.std.proofs.lemmas.Bool.Decides.{nat_tests}
use Rattle.pc_diagram.specs.DiagramFaults.{met, out_of_turn}
use Rattle.pc_diagram.specs.Fitting.{is_number}
use Rattle.pc_diagram.proofs.AnyLemmas.{any_kept}

-- going through edges with the numbers below one met already: the number in whose turn another is met
abbrev pub missed_turn : ℕ → List (Option ℕ) → Option ℕ
missed_turn turn [] = None
missed_turn turn (None ∷ edges) = missed_turn turn edges
missed_turn turn (Some target ∷ edges) = if nat_lt turn target then Some turn else (if target == turn then missed_turn (turn + 1) edges else missed_turn turn edges)

pub filter-filter : {X : Type 0} (p q r : X → Bool) → ((x : X) → (q x && p x) ≡ r x) → (xs : List X) → filter p (filter q xs) ≡ filter r xs
filter-filter p q r same [] = refl
filter-filter {X} p q r same (x ∷ xs) = by (q x) (p x) (r x) refl refl refl (same x) (filter-filter p q r same xs)
  where
    by : (b c d : Bool) → q x ≡ b → p x ≡ c → r x ≡ d → (q x && p x) ≡ r x → filter p (filter q xs) ≡ filter r xs → filter p (cond (q x) (x ∷ filter q xs) (filter q xs)) ≡ cond (r x) (x ∷ filter r xs) (filter r xs)
    by true c d qx px rx s rest =
        let two : p x ≡ r x = ap (λ b. b && p x) (sym qx) ∙ s in
        ap (λ b. filter p (cond b (x ∷ filter q xs) (filter q xs))) qx ∙ ap (λ b. cond b (x ∷ filter p (filter q xs)) (filter p (filter q xs))) two ∙ ap (λ l. cond (r x) (x ∷ l) l) rest
    by false c d qx px rx s rest =
        let two : false ≡ r x = ap (λ b. b && p x) (sym qx) ∙ s in
        ap (λ b. filter p (cond b (x ∷ filter q xs) (filter q xs))) qx ∙ rest ∙ ap (λ b. cond b (x ∷ filter r xs) (filter r xs)) two

-- the numbers from one on
abbrev pub from : ℕ → ℕ → Bool
from turn x = not (nat_lt x turn)

abbrev other : ℕ → ℕ → Bool
other target x = not (x == target)

-- one target more
step : (target turn : ℕ) (edges : List (Option ℕ)) → ((t : ℕ) → out_of_turn t (filter (from t) (met edges)) ≡ missed_turn t edges) →
    out_of_turn turn (filter (from turn) (met (Some target ∷ edges))) ≡ missed_turn turn (Some target ∷ edges)
step target turn edges rest = by (nat_lt target turn) (nat_lt turn target) (target == turn) refl refl refl
  where
    by : (below above same : Bool) → nat_lt target turn ≡ below → nat_lt turn target ≡ above → (target == turn) ≡ same →
        out_of_turn turn (cond (not (nat_lt target turn)) (target ∷ filter (from turn) (filter (other target) (met edges))) (filter (from turn) (filter (other target) (met edges))))
        ≡ (if nat_lt turn target then Some turn else (if target == turn then missed_turn (turn + 1) edges else missed_turn turn edges))
    by true true same b a s = absurd (grind (arith, nat_tests))
    by true false true b a s = absurd (grind (arith, nat_tests))
    by true false false b a s =
        let kept : (x : ℕ) → (other target x && from turn x) ≡ from turn x = λ x. grind (arith, nat_tests) in
        rw (b, a, s) (ap (out_of_turn turn) (filter-filter (from turn) (other target) (from turn) kept (met edges)) ∙ rest turn)
    by false true true b a s = absurd (grind (arith, nat_tests))
    by false true false b a s = rw (b, a, s) refl
    by false false true b a s =
        let kept : (x : ℕ) → (other target x && from turn x) ≡ from (turn + 1) x = λ x. grind (arith, nat_tests) in
        rw (b, a, s) (ap (out_of_turn (turn + 1)) (filter-filter (from turn) (other target) (from (turn + 1)) kept (met edges)) ∙ rest (turn + 1))
    by false false false b a s = absurd (grind (arith, nat_tests))

-- of the targets met, those from a number on
pub missed_turn-met : (edges : List (Option ℕ)) (turn : ℕ) → out_of_turn turn (filter (from turn) (met edges)) ≡ missed_turn turn edges
missed_turn-met [] turn = refl
missed_turn-met (None ∷ edges) turn = missed_turn-met edges turn
missed_turn-met (Some target ∷ edges) turn = step target turn edges (missed_turn-met edges)

filter-all : {X : Type 0} (p : X → Bool) → ((x : X) → p x ≡ true) → (xs : List X) → filter p xs ≡ xs
filter-all p all [] = refl
filter-all p all (x ∷ xs) = ap (λ b. cond b (x ∷ filter p xs) (filter p xs)) (all x) ∙ ap (λ l. x ∷ l) (filter-all p all xs)

-- from the first number on
pub out_of_turn-met : (edges : List (Option ℕ)) → out_of_turn 0 (met edges) ≡ missed_turn 0 edges
out_of_turn-met edges =
    ap (out_of_turn 0) (sym (filter-all (from 0) (λ x. let le : 0 ≤ x = omega arith in grind (arith, nat_tests)) (met edges))) ∙ missed_turn-met edges 0

-- numbers of which none is out of turn are those from the first turn on
pub in_turn : (numbers : List ℕ) (turn : ℕ) → out_of_turn turn numbers ≡ None → numbers ≡ range_with_len turn (length numbers)
in_turn [] turn h = refl
in_turn (number ∷ numbers) turn h = by (number == turn) refl h (in_turn numbers (turn + 1))
  where
    by : (b : Bool) → (number == turn) ≡ b → (if b then out_of_turn (turn + 1) numbers else Some turn) ≡ None → (out_of_turn (turn + 1) numbers ≡ None → numbers ≡ range_with_len (turn + 1) (length numbers)) → number ∷ numbers ≡ turn ∷ range_with_len (turn + 1) (length numbers)
    by true e none rest = let same : number ≡ turn = grind (arith, nat_tests) in ap (λ n. n ∷ numbers) same ∙ ap (λ l. turn ∷ l) (rest none)
    by false e none rest = absurd cc

pub out_of_turn-range : (turn n : ℕ) → out_of_turn turn (range_with_len turn n) ≡ None
out_of_turn-range turn zero = refl
out_of_turn-range turn (suc n) =
    let same : (turn == turn) ≡ true = grind (arith, nat_tests) in
    ap (λ b. if b then out_of_turn (turn + 1) (range_with_len (turn + 1) n) else Some turn) same ∙ out_of_turn-range (turn + 1) n

-- what is met is what edges lead to
pub met-any : (edges : List (Option ℕ)) (node : ℕ) → list_any (λ x. x == node) (met edges) ≡ list_any (λ target. is_number target node) edges
met-any [] node = refl
met-any (None ∷ edges) node = met-any edges node
met-any (Some target ∷ edges) node = by (target == node) refl (met-any edges node)
  where
    by : (b : Bool) → (target == node) ≡ b → list_any (λ x. x == node) (met edges) ≡ list_any (λ t. is_number t node) edges →
        ((target == node) || list_any (λ x. x == node) (filter (other target) (met edges))) ≡ ((target == node) || list_any (λ t. is_number t node) edges)
    by true e rest =
        ap (λ b. b || list_any (λ x. x == node) (filter (other target) (met edges))) e ∙ sym (ap (λ b. b || list_any (λ t. is_number t node) edges) e)
    by false e rest =
        ap (λ b. (target == node) || b) (any_kept (λ x. x == node) (other target) (λ x p. grind (arith, nat_tests)) (met edges) ∙ rest)
