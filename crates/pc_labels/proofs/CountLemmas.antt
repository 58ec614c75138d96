-- How many slots are counted.
use Rattle.std.proofs.Common.{◌≡◌, ℕ, zero, suc, ◌+◌, ◌-◌, ◌<◌, ◌≤◌, List, sym, ap, ◌∙◌, subst, arith}
use Rattle.pc_diagram.specs.declared.choice.Choice.{Choice}
use Rattle.pc_diagram.specs.declared.raw_diagram.RawDiagram.{RawDiagram}
use Rattle.pc_labels.specs.Labels.{slots_of, slot_count}

module _ (raw : RawDiagram) (choices : List Choice) where
  pub count_last : (first count : ℕ) → slot_count raw choices first (suc count) ≡ slot_count raw choices first count + slots_of raw choices (first + count)
  count_last first zero = let z : first ≡ first + 0 = omega arith in let s : slots_of raw choices first + 0 ≡ 0 + slots_of raw choices first = omega arith in s ∙ ap (λ n. 0 + slots_of raw choices n) z
  count_last first (suc count) =
      let z : (first + 1) + count ≡ first + suc count = omega arith in
      let own = slots_of raw choices first in
      let rest = slot_count raw choices (first + 1) count in
      let last = slots_of raw choices (first + suc count) in
      let spread : own + (rest + last) ≡ (own + rest) + last = omega arith in
      ap (λ n. own + n) (count_last (first + 1) count ∙ ap (λ n. rest + slots_of raw choices n) z) ∙ spread

  pub count_more : (first count more : ℕ) → slot_count raw choices first count ≤ slot_count raw choices first (count + more)
  count_more first zero more = omega arith
  count_more first (suc count) more =
      let z : suc count + more ≡ suc (count + more) = omega arith in
      let rest = count_more (first + 1) count more in
      subst (λ n. slot_count raw choices first (suc count) ≤ slot_count raw choices first n) (sym z) (let r : slots_of raw choices first + slot_count raw choices (first + 1) count ≤ slots_of raw choices first + slot_count raw choices (first + 1) (count + more) = omega (arith, rest) in r)

  -- steps over one variable more, from the first on
  pub steps_forward : (old before after k n : ℕ) → k < n → before ≤ old + slot_count raw choices 0 k → after ≤ before + slots_of raw choices k →
      (after ≤ old + slot_count raw choices 0 (k + 1)) × (after ≤ old + slot_count raw choices 0 n)
  steps_forward old before after k n lt h j =
      let one : suc k ≡ k + 1 = omega arith in
      let none : 0 + k ≡ k = omega arith in
      let grown : slot_count raw choices 0 (suc k) ≡ slot_count raw choices 0 k + slots_of raw choices k = count_last 0 k ∙ ap (λ i. slot_count raw choices 0 k + slots_of raw choices i) none in
      let here : after ≤ old + slot_count raw choices 0 (suc k) = omega (arith, h, j, grown) in
      let left : suc k + (n - suc k) ≡ n = omega (arith, lt) in
      let most : slot_count raw choices 0 (suc k) ≤ slot_count raw choices 0 n = subst (λ i. slot_count raw choices 0 (suc k) ≤ slot_count raw choices 0 i) left (count_more 0 (suc k) (n - suc k)) in
      (subst (λ i. after ≤ old + slot_count raw choices 0 i) one here, omega (arith, here, most))

  -- steps over one variable more, from the last on
  pub steps_backward : (old before after k n : ℕ) → k < n → before ≤ old + slot_count raw choices (n - k) k → after ≤ before + slots_of raw choices (n - 1 - k) →
      after ≤ old + slot_count raw choices (n - (k + 1)) (k + 1)
  steps_backward old before after k n lt h j =
      let one : suc k ≡ k + 1 = omega arith in
      let here : n - (k + 1) ≡ n - 1 - k = omega (arith, lt) in
      let next : (n - (k + 1)) + 1 ≡ n - k = omega (arith, lt) in
      let grown : slot_count raw choices (n - (k + 1)) (suc k) ≡ slots_of raw choices (n - 1 - k) + slot_count raw choices (n - k) k =
      ap (λ i. slots_of raw choices i + slot_count raw choices ((n - (k + 1)) + 1) k) here ∙ ap (λ i. slots_of raw choices (n - 1 - k) + slot_count raw choices i k) next in
      subst (λ i. after ≤ old + slot_count raw choices (n - (k + 1)) i) one (omega (arith, h, j, grown))

  -- the last of so many variables have no more slots than all
  pub count_tail : (a first m : ℕ) → slot_count raw choices (first + a) m ≤ slot_count raw choices first (a + m)
  count_tail zero first m = let z : first ≡ first + 0 = omega arith in let s : m ≡ 0 + m = omega arith in
      subst (λ i. slot_count raw choices i m ≤ slot_count raw choices first (0 + m)) z (subst (λ i. slot_count raw choices first m ≤ slot_count raw choices first i) s (omega arith))
  count_tail (suc a) first m =
      let z : (first + 1) + a ≡ first + suc a = omega arith in let s : suc (a + m) ≡ suc a + m = omega arith in
      let rest = count_tail a (first + 1) m in
      let more : slot_count raw choices ((first + 1) + a) m ≤ slot_count raw choices first (suc (a + m)) = let r : slot_count raw choices ((first + 1) + a) m ≤ slots_of raw choices first + slot_count raw choices (first + 1) (a + m) = omega (arith, rest) in r in
      subst (λ i. slot_count raw choices i m ≤ slot_count raw choices first (suc a + m)) z (subst (λ i. slot_count raw choices ((first + 1) + a) m ≤ slot_count raw choices first i) s more)

  pub backward_within : (old after k n : ℕ) → k < n → after ≤ old + slot_count raw choices (n - (k + 1)) (k + 1) → after ≤ old + slot_count raw choices 0 n
  backward_within old after k n lt h =
      let all : (n - (k + 1)) + (k + 1) ≡ n = omega (arith, lt) in
      let z : 0 + (n - (k + 1)) ≡ n - (k + 1) = omega arith in
      let most = count_tail (n - (k + 1)) 0 (k + 1) in
      let least : slot_count raw choices (n - (k + 1)) (k + 1) ≤ slot_count raw choices 0 n =
      subst (λ i. slot_count raw choices i (k + 1) ≤ slot_count raw choices 0 n) z (subst (λ i. slot_count raw choices (0 + (n - (k + 1))) (k + 1) ≤ slot_count raw choices 0 i) all most) in
      omega (arith, h, least)

  -- steps over one variable more, from this one on
  pub steps_onward : (old before after first k n : ℕ) → first ≤ k → k < n → before ≤ old + slot_count raw choices first (k - first) → after ≤ before + slots_of raw choices k →
      (after ≤ old + slot_count raw choices first (k + 1 - first)) × (after ≤ old + slot_count raw choices first (n - first))
  steps_onward old before after first k n from lt h j =
      let last : first + (k - first) ≡ k = omega (arith, from) in
      let one : suc (k - first) ≡ k + 1 - first = omega (arith, from) in
      let grown : slot_count raw choices first (suc (k - first)) ≡ slot_count raw choices first (k - first) + slots_of raw choices k = count_last first (k - first) ∙ ap (λ i. slot_count raw choices first (k - first) + slots_of raw choices i) last in
      let here : after ≤ old + slot_count raw choices first (suc (k - first)) = omega (arith, h, j, grown) in
      let left : suc (k - first) + (n - suc k) ≡ n - first = omega (arith, from, lt) in
      let most : slot_count raw choices first (suc (k - first)) ≤ slot_count raw choices first (n - first) = subst (λ i. slot_count raw choices first (suc (k - first)) ≤ slot_count raw choices first i) left (count_more first (suc (k - first)) (n - suc k)) in
      (subst (λ i. after ≤ old + slot_count raw choices first i) one here, omega (arith, here, most))

  -- steps over one variable more, from this one back to the root
  pub steps_homeward : (old before after variable made n : ℕ) → variable < n → n - 1 - variable ≤ made → made < n →
      before ≤ old + slot_count raw choices (n - made) (made - (n - 1 - variable)) → after ≤ before + slots_of raw choices (n - 1 - made) →
      (after ≤ old + slot_count raw choices (n - (made + 1)) (made + 1 - (n - 1 - variable))) × (after ≤ old + slot_count raw choices 0 (variable + 1))
  steps_homeward old before after variable made n within from lt h j =
      let k = made - (n - 1 - variable) in
      let first = n - (made + 1) in
      let one : suc (made - (n - 1 - variable)) ≡ made + 1 - (n - 1 - variable) = omega (arith, from) in
      let here : n - (made + 1) ≡ n - 1 - made = omega (arith, lt) in
      let next : (n - (made + 1)) + 1 ≡ n - made = omega (arith, lt) in
      let grown : slot_count raw choices first (suc k) ≡ slots_of raw choices (n - 1 - made) + slot_count raw choices (n - made) k =
      ap (λ i. slots_of raw choices i + slot_count raw choices (first + 1) k) here ∙ ap (λ i. slots_of raw choices (n - 1 - made) + slot_count raw choices i k) next in
      let now : after ≤ old + slot_count raw choices first (suc k) = omega (arith, h, j, grown) in
      let all : (n - (made + 1)) + suc (made - (n - 1 - variable)) ≡ variable + 1 = omega (arith, within, from, lt) in
      let z : 0 + (n - (made + 1)) ≡ n - (made + 1) = omega arith in
      let most : slot_count raw choices first (suc k) ≤ slot_count raw choices 0 (variable + 1) =
      subst (λ i. slot_count raw choices i (suc k) ≤ slot_count raw choices 0 (variable + 1)) z (subst (λ i. slot_count raw choices (0 + first) (suc k) ≤ slot_count raw choices 0 i) all (count_tail first 0 (suc k))) in
      (subst (λ i. after ≤ old + slot_count raw choices first i) one now, omega (arith, now, most))
