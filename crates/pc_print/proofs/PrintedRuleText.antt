-- The printed form of a rule spells the rule.
use Rattle.std.proofs.Common.{◌≡◌, ℕ, ◌≤◌, true, List, [], ◌∷◌, map, Ok, refl, sym, ap, subst, ◌∙◌, arith}
use Rattle.std.proofs.lemmas.Bool.{and_parts, leb-true}
use Rattle.std.proofs.lemmas.List.{append-nil}
use Rattle.pc_file.specs.declared.catalogue.Catalogue.{Catalogue}
use Rattle.pc_file.specs.declared.variable.Variable.{Variable}
use Rattle.pc_file.specs.declared.rule.Rule.{Rule}
use Rattle.pc_file.specs.Limits.{is_spelled, is_shallow, is_rule}
use Rattle.pc_file.specs.Nesting.{nesting}
use Rattle.pc_file.specs.PrintedRule.{printed_rule}
use Rattle.pc_rules.specs.declared.checks.AtMostFault.TheVariants.{Number, Length}
use Rattle.pc_rules.specs.Token.{tokens_after, tokens_of, is_too_deep}
use Rattle.pc_file.specs.Catalogue.{Indexes}
use Rattle.pc_print.specs.Nameable.{Nameable}
use Rattle.pc_rules.specs.RuleText.{IsRuleText}
use Rattle.pc_print.proofs.PrintedRules.{Shown, every_rule_stands}
use Rattle.pc_rules.proofs.Positions.{the_ok}
use Rattle.pc_rules.proofs.RuleRead.{rule_of-only}
use Rattle.pc_print.proofs.PrintedOnce.{spelled_once}

module _ (names : Catalogue) (variables : List Variable) (holds : Indexes names variables) (are : Nameable variables) (rule : Rule) (is : is_rule variables rule ≡ true) where
  parts : (is_spelled variables rule ≡ true) × (is_shallow rule ≡ true)
  parts = and_parts (is_spelled variables rule) (is_shallow rule) is

  shown : Shown names variables holds are 0 (printed_rule variables rule) (nesting rule).open_at_most rule
  shown = let s = every_rule_stands names variables holds are rule parts.0 in s.shown 0 (omega arith)

  -- so does a text that is cut into the same tokens
  cut_so : (text : List ℕ) → tokens_of text ≡ tokens_after 0 (printed_rule variables rule) → IsRuleText names text rule
  unfolding is_too_deep
  cut_so text same =
      let few : (nesting rule).open_at_most ≤ 64 = leb-true (nesting rule).open_at_most 64 parts.1 in
      record {
        tokens = shown.tokens;
        phrase = shown.said;
        cut = same ∙ ap (tokens_after 0) (sym (append-nil (printed_rule variables rule))) ∙ shown.cut [] refl ∙ ap Ok (append-nil shown.tokens);
        shallow = shown.shallow 64 0 0 (omega arith);
        spelled = shown.spells;
        numbers = shown.faultless Number;
        lengths = shown.faultless Length;
        named = shown.named;
        once = spelled_once variables rule parts.0;
      }

  pub printed_rule_spells : IsRuleText names (printed_rule variables rule) rule
  unfolding tokens_of
  printed_rule_spells = cut_so (printed_rule variables rule) refl

  -- after the word `rule` and a space
  pub spaced_rule_spells : IsRuleText names (32 ∷ printed_rule variables rule) rule
  unfolding tokens_of
  spaced_rule_spells = cut_so (32 ∷ printed_rule variables rule) refl

-- two rules with one printed form are the same
pub printed_once : (variables : List Variable) → Nameable variables → (rule other : Rule) → is_rule variables rule ≡ true → is_rule variables other ≡ true →
    printed_rule variables rule ≡ printed_rule variables other → rule ≡ other
printed_once variables are rule other is is_too same =
    let names : Catalogue = record { variables = map (λ variable. variable.name) variables; values = map (λ variable. map (λ value. value.name) variable.values) variables } in
    let holds : Indexes names variables = record { variables_are = refl; values_are = refl } in
    let text = printed_rule variables other in
    let first : IsRuleText names text rule = subst (λ (t : List ℕ). IsRuleText names t rule) same (printed_rule_spells names variables holds are rule is) in
    let second : IsRuleText names text other = printed_rule_spells names variables holds are other is_too in
    the_ok rule other (sym (rule_of-only names text rule first) ∙ rule_of-only names text other second)
