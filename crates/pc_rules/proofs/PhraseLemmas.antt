-- Faults of phrases and rules that have a list of members, and the rules that such phrases name.
use Rattle.std.proofs.Common.{◌≡◌, ℕ, Bool, ◌||◌, List, length, map, Ok, ap, sym, ◌∙◌}
use Rattle.std.specs.List.{list_any}
use Rattle.std.specs.Option.{unwrap_or}
use Rattle.std.proofs.lemmas.List.{length-map}
use Rattle.pc_file.specs.declared.catalogue.Catalogue.{Catalogue}
use Rattle.pc_file.specs.declared.rule.Rule.{Rule, Rule-F, fold-roll-Rule}
use Rattle.pc_file.specs.declared.rule.Rule.TheVariants as rule
use Rattle.pc_file.proofs.RuleLemmas.{list_any-map}
use Rattle.pc_rules.specs.declared.checks.AtMostFault.{AtMostFault}
use Rattle.pc_rules.specs.declared.phrase.Phrase.{Phrase, Phrase-F, fold-roll-Phrase}
use Rattle.pc_rules.specs.declared.phrase.Phrase.TheVariants.{And, Or, AtMost, rolls-And, rolls-Or, rolls-AtMost}
use Rattle.pc_rules.specs.Parsed.{Parsed, ◌>>=◌}
use Rattle.pc_rules.specs.Counts.{count_of}
use Rattle.pc_rules.specs.RuleFaults.{fault_step, test_of, has_fault, repeat_step, has_repeat}
use Rattle.pc_rules.specs.Naming.{all_ok, named_step, rule_named}

module _ (fault : AtMostFault) where
  pub has_fault-And : (members : List Phrase) → has_fault fault (And members) ≡ list_any (has_fault fault) members
  has_fault-And members =
      ap (has_fault fault) (sym (rolls-And members)) ∙ fold-roll-Phrase Bool (fault_step (test_of fault)) (Phrase-F.And members)
      ∙ list_any-map (λ b. b) (has_fault fault) members

  pub has_fault-Or : (members : List Phrase) → has_fault fault (Or members) ≡ list_any (has_fault fault) members
  has_fault-Or members =
      ap (has_fault fault) (sym (rolls-Or members)) ∙ fold-roll-Phrase Bool (fault_step (test_of fault)) (Phrase-F.Or members)
      ∙ list_any-map (λ b. b) (has_fault fault) members

  pub has_fault-AtMost : (most : List ℕ) (members : List Phrase) → has_fault fault (AtMost most members) ≡ (test_of fault most (length members) || list_any (has_fault fault) members)
  has_fault-AtMost most members =
      ap (has_fault fault) (sym (rolls-AtMost most members)) ∙ fold-roll-Phrase Bool (fault_step (test_of fault)) (Phrase-F.AtMost most members)
      ∙ ap (λ n. test_of fault most n || list_any (λ b. b) (map (has_fault fault) members)) (length-map members (has_fault fault))
      ∙ ap (λ b. test_of fault most (length members) || b) (list_any-map (λ b. b) (has_fault fault) members)

pub has_repeat-And : (members : List Rule) → has_repeat (rule.And members) ≡ list_any has_repeat members
has_repeat-And members = ap has_repeat (sym (rule.rolls-And members)) ∙ fold-roll-Rule Bool repeat_step (Rule-F.And members) ∙ list_any-map (λ b. b) has_repeat members

pub has_repeat-Or : (members : List Rule) → has_repeat (rule.Or members) ≡ list_any has_repeat members
has_repeat-Or members = ap has_repeat (sym (rule.rolls-Or members)) ∙ fold-roll-Rule Bool repeat_step (Rule-F.Or members) ∙ list_any-map (λ b. b) has_repeat members

pub has_repeat-AtMost : (most : ℕ) (members : List Rule) → has_repeat (rule.AtMost most members) ≡ list_any has_repeat members
has_repeat-AtMost most members =
    ap has_repeat (sym (rule.rolls-AtMost most members)) ∙ fold-roll-Rule Bool repeat_step (Rule-F.AtMost most members) ∙ list_any-map (λ b. b) has_repeat members

module _ (names : Catalogue) where
  pub rule_named-And : (members : List Phrase) → rule_named names (And members) ≡ (all_ok (map (rule_named names) members) >>= λ rules. Ok (rule.And rules))
  rule_named-And members = ap (rule_named names) (sym (rolls-And members)) ∙ fold-roll-Phrase (Parsed Rule) (named_step names) (Phrase-F.And members)

  pub rule_named-Or : (members : List Phrase) → rule_named names (Or members) ≡ (all_ok (map (rule_named names) members) >>= λ rules. Ok (rule.Or rules))
  rule_named-Or members = ap (rule_named names) (sym (rolls-Or members)) ∙ fold-roll-Phrase (Parsed Rule) (named_step names) (Phrase-F.Or members)

  pub rule_named-AtMost : (most : List ℕ) (members : List Phrase) →
      rule_named names (AtMost most members) ≡ (all_ok (map (rule_named names) members) >>= λ rules. Ok (rule.AtMost (unwrap_or (count_of most) 0) rules))
  rule_named-AtMost most members = ap (rule_named names) (sym (rolls-AtMost most members)) ∙ fold-roll-Phrase (Parsed Rule) (named_step names) (Phrase-F.AtMost most members)
