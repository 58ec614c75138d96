-- Passes over labels and fronts stay within the slots of their variables.
use Rattle.std.proofs.Common.{◌≡◌, ℕ, zero, suc, ◌+◌, ◌*◌, ◌-◌, ◌<◌, ◌≤◌, Bool, true, false, if◌then◌else◌, List, length, map, sum, get_or, Option, Some, None, IfSome, is_some, refl, ap, ◌∙◌, mul_comm, mul-one, arith}
use Rattle.std.specs.List.{range_with_len}
use Rattle.std.proofs.lemmas.List.Sums.{sum_by-cons}
use Rattle.pc_diagram.specs.declared.choice.Choice.{Choice}
use Rattle.pc_diagram.specs.declared.raw_diagram.RawDiagram.{RawDiagram}
use Rattle.pc_diagram.specs.declared.side.Side.{Side}
use Rattle.pc_diagram.specs.declared.side.Side.TheVariants.{Heads, Tails}
use Rattle.pc_diagram.specs.Choices.{is_chosen, value_of}
use Rattle.pc_diagram.specs.NodePaths.{AreChoicesOf}
use Rattle.pc_diagram.proofs.ChoiceLemmas.{is_some-value_of}
use Rattle.pc_labels.specs.Labels as labels
use Rattle.pc_labels.proofs.SlotLemmas.{chosen_inside}
use Rattle.pc_pareto.specs.Arrivals as fronts
use Rattle.pc_domains.specs.Slots.{slots_again, slots_before, slots_of}

module _ (raw : RawDiagram) where
  next_slots : (count : ℕ) → slots_before raw (count + 1) ≡ slots_before raw count + slots_of raw count
  next_slots count = let more : count + 1 ≡ suc count = omega arith in ap (slots_before raw) more

  -- of a variable labels look at no more than its slots
  one_variable : (choices : List Choice) → AreChoicesOf raw.domains choices → (variable : ℕ) → labels.slots_of raw choices variable ≤ slots_of raw variable
  one_variable choices of variable = by (is_chosen choices variable) refl
    where
      size : ℕ
      size = get_or raw.sizes variable 0

      many : (domain : ℕ) → 0 < domain → size * 1 ≤ domain * size
      many zero some = absurd (omega arith)
      many (suc domain) some = omega (arith, mul-one size)

      some_value : (value : Option ℕ) → is_some value ≡ true → IfSome value (λ v. v < get_or raw.domains variable 0) → 0 < get_or raw.domains variable 0
      some_value None e h = absurd cc
      some_value (Some value) e h = omega (arith, h)

      by : (b : Bool) → is_chosen choices variable ≡ b → size * (if b then 1 else get_or raw.domains variable 0) ≤ get_or raw.domains variable 0 * size
      by true e = many (get_or raw.domains variable 0) (some_value (value_of choices variable) (is_some-value_of choices variable ∙ e) (chosen_inside raw.domains choices variable of))
      by false e = omega (arith, mul_comm size (get_or raw.domains variable 0))

  -- and of the variables from one on
  pub label_slots : (choices : List Choice) → AreChoicesOf raw.domains choices → (first count : ℕ) → labels.slot_count raw choices first count + slots_before raw first ≤ slots_before raw (first + count)
  label_slots choices of first zero = let same : first + 0 ≡ first = omega arith in omega (arith, ap (slots_before raw) same)
  label_slots choices of first (suc count) =
      let same : (first + 1) + count ≡ first + suc count = omega arith in
      omega (arith, one_variable choices of first, label_slots choices of (first + 1) count, next_slots first, ap (slots_before raw) same)

  -- fronts of heads look at the slots of the variables from one on
  head_slots : (first count : ℕ) → sum (map (λ k. fronts.slots_of raw k) (range_with_len first count)) + slots_before raw first ≡ slots_before raw (first + count)
  head_slots first zero = let same : first + 0 ≡ first = omega arith in omega (arith, ap (slots_before raw) same)
  head_slots first (suc count) =
      let same : (first + 1) + count ≡ first + suc count = omega arith in
      omega (arith, sum_by-cons (λ n. n) (fronts.slots_of raw first) (map (λ k. fronts.slots_of raw k) (range_with_len (first + 1) count)), head_slots (first + 1) count, next_slots first, ap (slots_before raw) same, mul_comm (get_or raw.sizes first 0) (get_or raw.domains first 0))

  -- and of tails at those of the first so many
  tail_slots : (variables first count : ℕ) → first + count ≡ variables → sum (map (λ k. fronts.slots_of raw (variables - (k + 1))) (range_with_len first count)) ≡ slots_before raw count
  tail_slots variables first zero e = refl
  tail_slots variables first (suc count) e =
      let here : variables - (first + 1) ≡ count = omega (arith, e) in
      omega (arith, sum_by-cons (λ n. n) (fronts.slots_of raw (variables - (first + 1))) (map (λ k. fronts.slots_of raw (variables - (k + 1))) (range_with_len (first + 1) count)), tail_slots variables (first + 1) count (omega (arith, e)), ap (fronts.slots_of raw) here, mul_comm (get_or raw.sizes count 0) (get_or raw.domains count 0))

  eq_le : (a b c : ℕ) → a ≡ b → b ≤ c → a ≤ c
  eq_le a b c e h = omega (arith, e, h)

  -- all in all at no more than all slots
  pub front_slots : (side : Side) → fronts.slots_from side raw 0 ≤ slots_before raw (length raw.domains)
  front_slots Heads =
      let none : length raw.domains - 0 ≡ length raw.domains = omega arith in
      eq_le (fronts.slots_from Heads raw 0) (sum (map (λ k. fronts.slots_of raw k) (range_with_len 0 (length raw.domains)))) (slots_before raw (length raw.domains))
      (ap (λ n. sum (map (λ k. fronts.slots_of raw k) (range_with_len 0 n))) none) (let zero_on : 0 + length raw.domains ≡ length raw.domains = omega arith in omega (arith, head_slots 0 (length raw.domains), ap (slots_before raw) zero_on))
  front_slots Tails =
      let none : length raw.domains - 0 ≡ length raw.domains = omega arith in
      eq_le (fronts.slots_from Tails raw 0) (sum (map (λ k. fronts.slots_of raw (length raw.domains - (k + 1))) (range_with_len 0 (length raw.domains)))) (slots_before raw (length raw.domains))
      (ap (λ n. sum (map (λ k. fronts.slots_of raw (length raw.domains - (k + 1))) (range_with_len 0 n))) none) (omega (arith, tail_slots (length raw.domains) 0 (length raw.domains) (omega arith)))

  -- where the choice of a variable changed, at those of the variables on its far side
  pub front_slots_again : (side : Side) (variable : ℕ) → variable < length raw.domains → fronts.slots_from side raw (fronts.variable_at side (length raw.domains) variable) ≤ slots_again side raw variable
  front_slots_again Heads variable inside =
      let all : variable + (length raw.domains - variable) ≡ length raw.domains = omega (arith, inside) in
      omega (arith, head_slots variable (length raw.domains - variable), ap (slots_before raw) all)
  front_slots_again Tails variable inside =
      let left : length raw.domains - (length raw.domains - (variable + 1)) ≡ variable + 1 = omega (arith, inside) in
      let its = tail_slots (length raw.domains) (length raw.domains - (variable + 1)) (variable + 1) (omega (arith, inside)) in
      omega (arith, its, ap (λ n. sum (map (λ k. fronts.slots_of raw (length raw.domains - (k + 1))) (range_with_len (length raw.domains - (variable + 1)) n))) left)

  pub label_slots_again : (choices : List Choice) → AreChoicesOf raw.domains choices → (variable : ℕ) → variable < length raw.domains
      → labels.slot_count raw choices variable (length raw.domains - variable) ≤ slots_again Heads raw variable
  label_slots_again choices of variable inside =
      let all : variable + (length raw.domains - variable) ≡ length raw.domains = omega (arith, inside) in
      omega (arith, label_slots choices of variable (length raw.domains - variable), ap (slots_before raw) all)

  -- both sides together look at all slots, and at those of the variable once more
  slots_up : (variable count : ℕ) → slots_before raw variable ≤ slots_before raw (variable + count)
  slots_up variable zero = let same : variable + 0 ≡ variable = omega arith in omega (arith, ap (slots_before raw) same)
  slots_up variable (suc count) =
      let same : variable + suc count ≡ suc (variable + count) = omega arith in
      omega (arith, slots_up variable count, ap (slots_before raw) same)

  pub slots_of_both : (variable : ℕ) → variable < length raw.domains → slots_again Heads raw variable + slots_again Tails raw variable ≡ slots_before raw (length raw.domains) + slots_of raw variable
  slots_of_both variable inside =
      let all : variable + (length raw.domains - variable) ≡ length raw.domains = omega (arith, inside) in
      omega (arith, slots_up variable (length raw.domains - variable), next_slots variable, ap (slots_before raw) all)

-- the steps of a pass, and of one brought forward
pub label_steps : (raw : RawDiagram) (choices : List Choice) (steps old : ℕ) → AreChoicesOf raw.domains choices → steps ≤ old + labels.slot_count raw choices 0 (length raw.domains) → steps ≤ old + slots_before raw (length raw.domains)
label_steps raw choices steps old of h =
    let none : 0 + length raw.domains ≡ length raw.domains = omega arith in
    omega (arith, h, label_slots raw choices of 0 (length raw.domains), ap (slots_before raw) none)

pub front_steps : (side : Side) (raw : RawDiagram) (steps old : ℕ) → steps ≤ old + fronts.slots_from side raw 0 → steps ≤ old + slots_before raw (length raw.domains)
front_steps side raw steps old h = omega (arith, h, front_slots raw side)

pub head_label_steps : (raw : RawDiagram) (choices : List Choice) (variable steps old : ℕ) → AreChoicesOf raw.domains choices → variable < length raw.domains → steps ≤ old + labels.slot_count raw choices variable (length raw.domains - variable)
    → steps ≤ old + slots_again Heads raw variable
head_label_steps raw choices variable steps old of inside h = omega (arith, h, label_slots_again raw choices of variable inside)

pub tail_label_steps : (raw : RawDiagram) (choices : List Choice) (variable steps old : ℕ) → AreChoicesOf raw.domains choices → steps ≤ old + labels.slot_count raw choices 0 (variable + 1)
    → steps ≤ old + slots_again Tails raw variable
tail_label_steps raw choices variable steps old of h =
    let none : 0 + (variable + 1) ≡ variable + 1 = omega arith in
    omega (arith, h, label_slots raw choices of 0 (variable + 1), ap (slots_before raw) none)

pub head_front_steps : (raw : RawDiagram) (variable steps old : ℕ) → variable < length raw.domains → steps ≤ old + fronts.slots_from Heads raw variable → steps ≤ old + slots_again Heads raw variable
head_front_steps raw variable steps old inside h = omega (arith, h, front_slots_again raw Heads variable inside)

pub tail_front_steps : (raw : RawDiagram) (variable steps old : ℕ) → variable < length raw.domains → steps ≤ old + fronts.slots_from Tails raw (length raw.domains - (variable + 1)) → steps ≤ old + slots_again Tails raw variable
tail_front_steps raw variable steps old inside h = omega (arith, h, front_slots_again raw Tails variable inside)
