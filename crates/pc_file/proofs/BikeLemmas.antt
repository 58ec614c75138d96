-- The worked example, by evaluation.
use Rattle.std.proofs.Common.{◌≡◌, ℕ, Bool, true, ◌&&◌, nat_le, List, [], ◌∷◌, ◌++◌, length, map, filter, refl, sym, ap, ◌∙◌, arith}
use Rattle.std.specs.Prelude.{codes}
use Rattle.std.specs.Fmt.{digits}
use Rattle.std.specs.List.{list_all, flat_map}
use Rattle.std.proofs.lemmas.List.Elements.{filter_agree}
use Rattle.pc_diagram.specs.Bike.{bikes}
use Rattle.pc_file.specs.declared.rule.Rule.{Rule, Rule-F, fold-Rule, fold-roll-Rule}
use Rattle.pc_file.specs.declared.rule.Rule.TheVariants.{Is, Not, And, Implies, rolls-Is, rolls-Not, rolls-And, rolls-Implies}
use Rattle.pc_file.specs.Rule.{holds, holds_step}
use Rattle.pc_file.specs.Nesting.{Nesting, nesting, nesting_step}
use Rattle.pc_file.specs.Limits.{IsFile, is_spelled_step, is_rule}
use Rattle.pc_file.specs.PrintedRule.{Printed, printing_step, printed_rule}
use Rattle.pc_file.specs.PrintedForm.{header_line, cost_line, variable_lines, line_of, end_line, text_of_lines, printed, printed_lines}
use Rattle.pc_file.specs.PrintedSize.{is_short_line, IsPrintable}
use Rattle.pc_diagram.specs.Words.{all_words}
use Rattle.pc_file.specs.Products.{value_counts, obeys, products}
use Rattle.pc_file.specs.Parts.{Parts, with_itself, parts_step, compile_list}
use Rattle.pc_file.specs.Bike.{bike, bike_printed}

-- any fold of the two rules, layer by layer
module _ (A : Type 0) (step : Rule-F A → A) where
  at_is : (variable value : ℕ) → fold-Rule A step (Is variable value) ≡ step (Rule-F.Is variable value)
  at_is variable value = ap (fold-Rule A step) (sym (rolls-Is variable value)) ∙ fold-roll-Rule A step (Rule-F.Is variable value)

  pub at_first : fold-Rule A step (Implies (Is 0 2) (Is 1 1)) ≡ step (Rule-F.Implies (step (Rule-F.Is 0 2)) (step (Rule-F.Is 1 1)))
  at_first =
      ap (fold-Rule A step) (sym (rolls-Implies (Is 0 2) (Is 1 1))) ∙ fold-roll-Rule A step (Rule-F.Implies (Is 0 2) (Is 1 1))
      ∙ ap (λ premise. step (Rule-F.Implies premise (fold-Rule A step (Is 1 1)))) (at_is 0 2) ∙ ap (λ consequence. step (Rule-F.Implies (step (Rule-F.Is 0 2)) consequence)) (at_is 1 1)

  at_both : fold-Rule A step (And (Is 0 0 ∷ Is 2 1 ∷ [])) ≡ step (Rule-F.And (step (Rule-F.Is 0 0) ∷ step (Rule-F.Is 2 1) ∷ []))
  at_both =
      ap (fold-Rule A step) (sym (rolls-And (Is 0 0 ∷ Is 2 1 ∷ []))) ∙ fold-roll-Rule A step (Rule-F.And (Is 0 0 ∷ Is 2 1 ∷ []))
      ∙ ap (λ frame. step (Rule-F.And (frame ∷ fold-Rule A step (Is 2 1) ∷ []))) (at_is 0 0) ∙ ap (λ light. step (Rule-F.And (step (Rule-F.Is 0 0) ∷ light ∷ []))) (at_is 2 1)

  pub at_second : fold-Rule A step (Not (And (Is 0 0 ∷ Is 2 1 ∷ []))) ≡ step (Rule-F.Not (step (Rule-F.And (step (Rule-F.Is 0 0) ∷ step (Rule-F.Is 2 1) ∷ []))))
  at_second =
      ap (fold-Rule A step) (sym (rolls-Not (And (Is 0 0 ∷ Is 2 1 ∷ [])))) ∙ fold-roll-Rule A step (Rule-F.Not (And (Is 0 0 ∷ Is 2 1 ∷ [])))
      ∙ ap (λ both. step (Rule-F.Not both)) at_both

-- a test of both rules
all_rules : (p : Rule → Bool) (b c : Bool) → p (Implies (Is 0 2) (Is 1 1)) ≡ b → p (Not (And (Is 0 0 ∷ Is 2 1 ∷ []))) ≡ c → list_all p bike.rules ≡ (b && (c && true))
all_rules p b c first second = ap (λ x. x && (p (Not (And (Is 0 0 ∷ Is 2 1 ∷ []))) && true)) first ∙ ap (λ x. b && (x && true)) second

-- the two rules as a test that computes
obeyed : List ℕ → Bool
obeyed word =
    let step = holds_step bike.variables word in
    step (Rule-F.Implies (step (Rule-F.Is 0 2)) (step (Rule-F.Is 1 1)))
    && (step (Rule-F.Not (step (Rule-F.And (step (Rule-F.Is 0 0) ∷ step (Rule-F.Is 2 1) ∷ [])))) && true)

obeys_is : (word : List ℕ) → obeys bike word ≡ obeyed word
unfolding obeyed
obeys_is word =
    let step = holds_step bike.variables word in
    all_rules (holds bike.variables word) (step (Rule-F.Implies (step (Rule-F.Is 0 2)) (step (Rule-F.Is 1 1)))) (step (Rule-F.Not (step (Rule-F.And (step (Rule-F.Is 0 0) ∷ step (Rule-F.Is 2 1) ∷ [])))))
    (at_first Bool step) (at_second Bool step)

kept : filter obeyed (all_words (value_counts bike.variables)) ≡ bikes
unfolding obeyed
kept = refl

pub bike_products : products bike ≡ bikes
bike_products = filter_agree (obeys bike) obeyed obeys_is (all_words (value_counts bike.variables)) ∙ kept

shallow_first : nat_le (nesting (Implies (Is 0 2) (Is 1 1))).open_at_most 64 ≡ true
shallow_first = ap (λ n. nat_le n.open_at_most 64) (at_first Nesting nesting_step)

shallow_second : nat_le (nesting (Not (And (Is 0 0 ∷ Is 2 1 ∷ [])))).open_at_most 64 ≡ true
shallow_second = ap (λ n. nat_le n.open_at_most 64) (at_second Nesting nesting_step)

both_true : (a b : Bool) → a ≡ true → b ≡ true → (a && b) ≡ true
both_true a b first second = ap (λ x. x && b) first ∙ second

pub bike_rules : list_all (is_rule bike.variables) bike.rules ≡ true
bike_rules = all_rules (is_rule bike.variables) true true
    (both_true _ _ (at_first Bool (is_spelled_step bike.variables)) shallow_first)
    (both_true _ _ (at_second Bool (is_spelled_step bike.variables)) shallow_second)

printed_first : printed_rule bike.variables (Implies (Is 0 2) (Is 1 1)) ≡ codes "frame=carbon => wheel=w28"
printed_first = ap (λ r. r.text) (at_first Printed (printing_step bike.variables))

printed_second : printed_rule bike.variables (Not (And (Is 0 0 ∷ Is 2 1 ∷ []))) ≡ codes "not (frame=steel and light=led)"
printed_second = ap (λ r. r.text) (at_second Printed (printing_step bike.variables))

-- the lines, where the two rules are printed so
lines_with : List ℕ → List ℕ → List (List ℕ)
lines_with first second =
    header_line
    ∷ map cost_line bike.costs
    ++ (flat_map (variable_lines (length bike.costs)) bike.variables
    ++ (line_of (codes "rule" ∷ first ∷ []) ∷ line_of (codes "rule" ∷ second ∷ []) ∷ [] ++ end_line ∷ []))

bike_lines : printed_lines bike ≡ lines_with (codes "frame=carbon => wheel=w28") (codes "not (frame=steel and light=led)")
unfolding lines_with
bike_lines =
    ap (λ first. lines_with first (printed_rule bike.variables (Not (And (Is 0 0 ∷ Is 2 1 ∷ []))))) printed_first
    ∙ ap (lines_with (codes "frame=carbon => wheel=w28")) printed_second

bike_evaluated : text_of_lines (lines_with (codes "frame=carbon => wheel=w28") (codes "not (frame=steel and light=led)")) ≡ bike_printed
unfolding lines_with digits
bike_evaluated = refl

pub bike_text : printed bike ≡ bike_printed
bike_text = ap text_of_lines bike_lines ∙ bike_evaluated

short_lines : list_all is_short_line (lines_with (codes "frame=carbon => wheel=w28") (codes "not (frame=steel and light=led)")) ≡ true
unfolding lines_with digits
short_lines = refl

pub bike_printable : IsPrintable bike
bike_printable = record {
  each_line = ap (list_all is_short_line) bike_lines ∙ short_lines;
  bytes_at_most = omega (arith, ap length bike_text);
}

pub bike_is_file : IsFile bike
bike_is_file = record {
  some_cost = omega arith;
  costs_at_most = omega arith;
  costs_differ = refl;
  some_variable = omega arith;
  variables_at_most = omega arith;
  names_differ = refl;
  each_variable = refl;
  rules_at_most = omega arith;
  each_rule = bike_rules;
  printable = bike_printable;
}

-- how many sets are made of each rule: those of its parts, and of the rules so far
pub bike_parts : map length (compile_list bike) ≡ 4 ∷ 5 ∷ []
bike_parts = λ i. length (with_itself (at_first Parts (parts_step bike.variables) i) ++ first ∷ []) ∷ length (with_itself (at_second Parts (parts_step bike.variables) i) ++ both ∷ []) ∷ []
  where
    first : List ℕ → Bool
    first word = true && holds bike.variables word (Implies (Is 0 2) (Is 1 1))

    both : List ℕ → Bool
    both word = first word && holds bike.variables word (Not (And (Is 0 0 ∷ Is 2 1 ∷ [])))
