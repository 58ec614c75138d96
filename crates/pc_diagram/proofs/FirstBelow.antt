-- The first number below a count that passes a test.
use Rattle.std.proofs.Common.{◌≡◌, ℕ, zero, suc, ◌+◌, ◌<◌, ◌≤◌, Bool, true, false, cond, Some, None, refl, sym, ap, ◌∙◌, arith}
use Rattle.std.specs.List.{find, range_with_len}
use Rattle.pc_diagram.specs.DiagramShape.{first_below}

find-first : (test : ℕ → Bool) (a n k : ℕ) → k < n → test (a + k) ≡ true → ((j : ℕ) → j < k → test (a + j) ≡ false) → find test (range_with_len a n) ≡ Some (a + k)
find-first test a zero k lt here before = absurd (omega arith)
find-first test a (suc n) zero lt here before =
    let same : a + 0 ≡ a = omega arith in
    ap (λ b. cond b (Some a) (find test (range_with_len (a + 1) n))) (ap test (sym same) ∙ here) ∙ ap Some (sym same)
find-first test a (suc n) (suc k) lt here before =
    let same : a + 0 ≡ a = omega arith in
    let next : a + suc k ≡ (a + 1) + k = omega arith in
    ap (λ b. cond b (Some a) (find test (range_with_len (a + 1) n))) (ap test (sym same) ∙ before 0 (omega arith))
    ∙ find-first test (a + 1) n k (omega arith) (ap test (sym next) ∙ here) (λ j l. let shift : (a + 1) + j ≡ a + suc j = omega arith in ap test shift ∙ before (suc j) (omega arith))
    ∙ ap Some (sym next)

find-none : (test : ℕ → Bool) (a n : ℕ) → ((j : ℕ) → j < n → test (a + j) ≡ false) → find test (range_with_len a n) ≡ None
find-none test a zero none = refl
find-none test a (suc n) none =
    let same : a + 0 ≡ a = omega arith in
    ap (λ b. cond b (Some a) (find test (range_with_len (a + 1) n))) (ap test (sym same) ∙ none 0 (omega arith))
    ∙ find-none test (a + 1) n (λ j l. let shift : (a + 1) + j ≡ a + suc j = omega arith in ap test shift ∙ none (suc j) (omega arith))

none-found : (test : ℕ → Bool) (a n : ℕ) → find test (range_with_len a n) ≡ None → (j : ℕ) → j < n → test (a + j) ≡ false
none-found test a zero none j lt = absurd (omega arith)
none-found test a (suc n) none j lt = by (test a) refl none j lt (none-found test (a + 1) n)
  where
    by : (b : Bool) → test a ≡ b → cond b (Some a) (find test (range_with_len (a + 1) n)) ≡ None → (i : ℕ) → i < suc n →
        (find test (range_with_len (a + 1) n) ≡ None → (k : ℕ) → k < n → test ((a + 1) + k) ≡ false) → test (a + i) ≡ false
    by true e h i l rest = absurd cc
    by false e h zero l rest = let same : a + 0 ≡ a = omega arith in ap test same ∙ e
    by false e h (suc i) l rest = let shift : a + suc i ≡ (a + 1) + i = omega arith in ap test shift ∙ rest h i (omega arith)

-- where a number passes, and none before it
pub first_below-is : (test : ℕ → Bool) (count k : ℕ) → k < count → test k ≡ true → ((j : ℕ) → j < k → test j ≡ false) → first_below test count ≡ Some k
first_below-is test count k lt here before =
    let zeros : (j : ℕ) → 0 + j ≡ j = λ j. omega arith in
    find-first test 0 count k lt (ap test (zeros k) ∙ here) (λ j l. ap test (zeros j) ∙ before j l) ∙ ap Some (zeros k)

-- where none passes
pub first_below-none : (test : ℕ → Bool) (count : ℕ) → ((j : ℕ) → j < count → test j ≡ false) → first_below test count ≡ None
first_below-none test count none = find-none test 0 count (λ j l. let same : 0 + j ≡ j = omega arith in ap test same ∙ none j l)

pub none_below : (test : ℕ → Bool) (count : ℕ) → first_below test count ≡ None → (j : ℕ) → j < count → test j ≡ false
none_below test count none j lt = let same : j ≡ 0 + j = omega arith in ap test same ∙ none-found test 0 count none j lt

-- at the end of a loop none has passed
pub all_fail : (test : ℕ → Bool) (count i : ℕ) → count ≤ i → ((j : ℕ) → j < i → test j ≡ false) → (j : ℕ) → j < count → test j ≡ false
all_fail test count i le none j lt = none j (omega arith)
