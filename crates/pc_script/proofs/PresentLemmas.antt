-- The callers that are present, by the places of their parts.
use Rattle.std.proofs.Common.{◌≡◌, ◌≢◌, ℕ, zero, suc, ◌+◌, ◌<◌, ◌≤◌, ◌==◌, Bool, true, false, not, if◌then◌else◌, nat_lt, List, [], ◌∷◌, ◌++◌, length, map, option_map, slice_index_or, refl, sym, ap, subst, ◌∙◌, arith}
use Rattle.std.specs.Prelude.{unwrap_or}
use Rattle.std.specs.List.{list_any, remove}
use Rattle.std.proofs.lemmas.Bool.Decides.{nat_tests}
use Rattle.std.proofs.lemmas.List.{get_or-map, length-map}
use Rattle.pc_calls.specs.History.{after_entries}
use Rattle.pc_calls.specs.declared.entry.Entry.{Entry}
use Rattle.pc_calls.specs.State.{Caller, numbered}
use Rattle.pc_calls.specs.Step.{change_numbered, gone, newcomer}
use Rattle.pc_book.specs.Book.{state_of_book}
use Rattle.pc_book.specs.Own.{OwnPart}
use Rattle.pc_script.specs.Present.{ArePresent, number_of}
use Rattle.pc_script.specs.ScriptHistory.{present_from, those_present}

-- ---- the numbers rise

pub low-at : (k : ℕ) (callers : List Caller) (i d : ℕ) → i < length (present_from k callers) → k ≤ slice_index_or (present_from k callers) i d
low-at k [] i d inside = absurd (omega (arith, inside))
low-at k (c ∷ callers) i d inside = by c.left i inside (λ j within. low-at (k + 1) callers j d within)
  where
    by : (left : Bool) (i : ℕ) → i < length (if left then present_from (k + 1) callers else k ∷ present_from (k + 1) callers)
        → ((j : ℕ) → j < length (present_from (k + 1) callers) → k + 1 ≤ slice_index_or (present_from (k + 1) callers) j d)
        → k ≤ slice_index_or (if left then present_from (k + 1) callers else k ∷ present_from (k + 1) callers) i d
    by true i inside low = omega (arith, low i inside)
    by false zero inside low = omega arith
    by false (suc i) inside low = omega (arith, low i (omega (arith, inside)))

pub low-first : (k : ℕ) (callers : List Caller) (number : ℕ) (numbers : List ℕ) → present_from k callers ≡ number ∷ numbers → k ≤ number
low-first k callers number numbers are =
    let low = low-at k callers 0 0 (subst (λ (ns : List ℕ). 0 < length ns) (sym are) (omega arith)) in
    omega (arith, low, ap (λ (ns : List ℕ). slice_index_or ns 0 0) are)

rising-at : (k : ℕ) (callers : List Caller) (i j d : ℕ) → i < j → j < length (present_from k callers) → slice_index_or (present_from k callers) i d < slice_index_or (present_from k callers) j d
rising-at k [] i j d below inside = absurd (omega (arith, inside))
rising-at k (c ∷ callers) i j d below inside = by c.left i j below inside (λ m within. low-at (k + 1) callers m d within) (λ m n lower within. rising-at (k + 1) callers m n d lower within)
  where
    by : (left : Bool) (i j : ℕ) → i < j → j < length (if left then present_from (k + 1) callers else k ∷ present_from (k + 1) callers)
        → ((m : ℕ) → m < length (present_from (k + 1) callers) → k + 1 ≤ slice_index_or (present_from (k + 1) callers) m d)
        → ((m n : ℕ) → m < n → n < length (present_from (k + 1) callers) → slice_index_or (present_from (k + 1) callers) m d < slice_index_or (present_from (k + 1) callers) n d)
        → slice_index_or (if left then present_from (k + 1) callers else k ∷ present_from (k + 1) callers) i d < slice_index_or (if left then present_from (k + 1) callers else k ∷ present_from (k + 1) callers) j d
    by true i j below inside low rises = rises i j below inside
    by false i zero below inside low rises = absurd (omega (arith, below))
    by false zero (suc j) below inside low rises = omega (arith, low j (omega (arith, inside)))
    by false (suc i) (suc j) below inside low rises = rises i j (omega (arith, below)) (omega (arith, inside))

-- so two parts have two numbers
pub other-number : (k : ℕ) (callers : List Caller) (present : List OwnPart) → map number_of present ≡ present_from k callers → (i j : ℕ) (d e : OwnPart) → i ≢ j → i < length present → j < length present
    → ((slice_index_or present i d).number == (slice_index_or present j e).number) ≡ false
other-number k callers present are i j d e other i_inside j_inside =
    let size : length (present_from k callers) ≡ length present = ap length (sym are) ∙ length-map present number_of in
    let at_i : slice_index_or (present_from k callers) i 0 ≡ (slice_index_or present i d).number = ap (λ (ns : List ℕ). slice_index_or ns i 0) (sym are) ∙ get_or-map number_of present i d 0 i_inside in
    let at_j : slice_index_or (present_from k callers) j 0 ≡ (slice_index_or present j e).number = ap (λ (ns : List ℕ). slice_index_or ns j 0) (sym are) ∙ get_or-map number_of present j e 0 j_inside in
    elim (nat_lt i j) as (λ b. nat_lt i j ≡ b → ((slice_index_or present i d).number == (slice_index_or present j e).number) ≡ false) [
      | true ↦ (λ less. let rises = rising-at k callers i j 0 (grind (arith, nat_tests, less)) (omega (arith, size, j_inside)) in grind (arith, nat_tests, rises, at_i, at_j))
      | false ↦ (λ more. let rises = rising-at k callers j i 0 (grind (arith, nat_tests, more, other)) (omega (arith, size, i_inside)) in grind (arith, nat_tests, rises, at_i, at_j))
    ] refl

-- ---- the numbers after a call

pub number-entered : (k : ℕ) (callers : List Caller) → present_from k (callers ++ newcomer ∷ []) ≡ present_from k callers ++ (k + length callers) ∷ []
number-entered k [] = ap (λ (n : ℕ). n ∷ []) (omega arith)
number-entered k (c ∷ callers) = by c.left (number-entered (k + 1) callers ∙ ap (λ (n : ℕ). present_from (k + 1) callers ++ n ∷ []) (omega arith))
  where
    by : (left : Bool) → present_from (k + 1) (callers ++ newcomer ∷ []) ≡ present_from (k + 1) callers ++ (k + length (c ∷ callers)) ∷ []
        → (if left then present_from (k + 1) (callers ++ newcomer ∷ []) else k ∷ present_from (k + 1) (callers ++ newcomer ∷ [])) ≡ (if left then present_from (k + 1) callers else k ∷ present_from (k + 1) callers) ++ (k + length (c ∷ callers)) ∷ []
    by true rest = rest
    by false rest = ap (λ (ns : List ℕ). k ∷ ns) rest

-- a change by which nobody leaves
pub numbers-stay : (change : Caller → Caller) → ((c : Caller) → (change c).left ≡ c.left) → (k : ℕ) (callers : List Caller) (number : ℕ) → present_from k (change_numbered change callers number) ≡ present_from k callers
numbers-stay change keeps k [] number = refl
numbers-stay change keeps k (c ∷ callers) zero = refl
numbers-stay change keeps k (c ∷ callers) (suc zero) = ap (λ (left : Bool). if left then present_from (k + 1) callers else k ∷ present_from (k + 1) callers) (keeps c)
numbers-stay change keeps k (c ∷ callers) (suc (suc place)) = ap (λ (ns : List ℕ). if c.left then ns else k ∷ ns) (numbers-stay change keeps (k + 1) callers (suc place))

-- one leaves
pub number-gone : (k : ℕ) (callers : List Caller) (i m d : ℕ) → i < length (present_from k callers) → slice_index_or (present_from k callers) i d ≡ k + m → remove (present_from k callers) i ≡ present_from k (change_numbered gone callers (suc m))
number-gone k [] i m d inside is = absurd (omega (arith, inside))
number-gone k (c ∷ callers) i m d inside is = by c.left refl i m inside is (λ j within. low-at (k + 1) callers j d within) (λ j n within at. number-gone (k + 1) callers j n d within at)
  where
    by : (left : Bool) → c.left ≡ left → (i m : ℕ) → i < length (if left then present_from (k + 1) callers else k ∷ present_from (k + 1) callers) → slice_index_or (if left then present_from (k + 1) callers else k ∷ present_from (k + 1) callers) i d ≡ k + m
        → ((j : ℕ) → j < length (present_from (k + 1) callers) → k + 1 ≤ slice_index_or (present_from (k + 1) callers) j d)
        → ((j n : ℕ) → j < length (present_from (k + 1) callers) → slice_index_or (present_from (k + 1) callers) j d ≡ (k + 1) + n → remove (present_from (k + 1) callers) j ≡ present_from (k + 1) (change_numbered gone callers (suc n)))
        → remove (if left then present_from (k + 1) callers else k ∷ present_from (k + 1) callers) i ≡ present_from k (change_numbered gone (c ∷ callers) (suc m))
    by true e i zero inside is low goes = absurd (omega (arith, is, low i inside))
    by true e i (suc m) inside is low goes =
        goes i m inside (omega (arith, is)) ∙ ap (λ (left : Bool). if left then present_from (k + 1) (change_numbered gone callers (suc m)) else k ∷ present_from (k + 1) (change_numbered gone callers (suc m))) (sym e)
    by false e zero zero inside is low goes = refl
    by false e zero (suc m) inside is low goes = absurd (omega (arith, is))
    by false e (suc i) zero inside is low goes = absurd (omega (arith, is, low i (omega (arith, inside))))
    by false e (suc i) (suc m) inside is low goes =
        ap (λ (ns : List ℕ). k ∷ ns) (goes i m (omega (arith, inside)) (omega (arith, is)))
        ∙ ap (λ (left : Bool). if left then present_from (k + 1) (change_numbered gone callers (suc m)) else k ∷ present_from (k + 1) (change_numbered gone callers (suc m))) (sym e)

-- the numbers without the one at a place
pub remove-map : (present : List OwnPart) (i : ℕ) → map number_of (remove present i) ≡ remove (map number_of present) i
remove-map [] zero = refl
remove-map [] (suc i) = refl
remove-map (own ∷ present) zero = refl
remove-map (own ∷ present) (suc i) = ap (λ (ns : List ℕ). own.number ∷ ns) (remove-map present i)

-- ---- a number is there where its caller has entered and not left

no-lower : (low : ℕ) (callers : List Caller) (k : ℕ) → k < low → list_any (λ (n : ℕ). n == k) (present_from low callers) ≡ false
no-lower low [] k below = refl
no-lower low (c ∷ callers) k below = by c.left (no-lower (low + 1) callers k (omega (arith, below)))
  where
    by : (left : Bool) → list_any (λ (n : ℕ). n == k) (present_from (low + 1) callers) ≡ false → list_any (λ (n : ℕ). n == k) (if left then present_from (low + 1) callers else low ∷ present_from (low + 1) callers) ≡ false
    by true none = none
    by false none = let e : (low == k) ≡ false = grind (arith, nat_tests, below) in rw e none

pub listed : (k : ℕ) (callers : List Caller) (m : ℕ) → list_any (λ (n : ℕ). n == k + m) (present_from k callers) ≡ unwrap_or (option_map (λ (c : Caller). not c.left) (numbered callers (suc m))) false
listed k [] m = refl
listed k (c ∷ callers) m = by c.left m (λ n. listed (k + 1) callers n)
  where
    by : (left : Bool) (m : ℕ) → ((n : ℕ) → list_any (λ (x : ℕ). x == (k + 1) + n) (present_from (k + 1) callers) ≡ unwrap_or (option_map (λ (c : Caller). not c.left) (numbered callers (suc n))) false)
        → list_any (λ (n : ℕ). n == k + m) (if left then present_from (k + 1) callers else k ∷ present_from (k + 1) callers) ≡ unwrap_or (option_map (λ (c : Caller). not c.left) (numbered (record { opened = c.opened; left = left } ∷ callers) (suc m))) false
    by true zero rest = let e : k + 0 ≡ k = omega arith in ap (λ (x : ℕ). list_any (λ (n : ℕ). n == x) (present_from (k + 1) callers)) e ∙ no-lower (k + 1) callers k (omega arith)
    by true (suc m) rest = let e : k + suc m ≡ (k + 1) + m = omega arith in ap (λ (x : ℕ). list_any (λ (n : ℕ). n == x) (present_from (k + 1) callers)) e ∙ rest m
    by false zero rest = let e : (k == k + 0) ≡ true = grind (arith, nat_tests) in rw e refl
    by false (suc m) rest =
        let e : (k == k + suc m) ≡ false = grind (arith, nat_tests) in
        let f : k + suc m ≡ (k + 1) + m = omega arith in
        rw e (ap (λ (x : ℕ). list_any (λ (n : ℕ). n == x) (present_from (k + 1) callers)) f ∙ rest m)

-- ---- nobody

nobody-numbered : [] ≡ those_present (state_of_book [])
unfolding after_entries
nobody-numbered = refl

pub nobody-present : (blocks : List (List Entry)) (present : List OwnPart) → blocks ≡ [] → present ≡ [] → ArePresent blocks present
nobody-present blocks present none nobody = subst (λ (bs : List (List Entry)). ArePresent bs present) (sym none) (subst (ArePresent []) (sym nobody) first)
  where
    first : ArePresent [] []
    first = record { numbers = nobody-numbered; stand = λ i d inside. absurd (omega (arith, inside)); settled = λ i d inside. absurd (omega (arith, inside)) }
