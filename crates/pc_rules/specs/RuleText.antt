-- The rule that the bytes after the word `rule` spell, or the kind of the first fault.
use Rattle.std.specs.Prelude.{◌≡◌, ℕ, false, List, Ok}
use Rattle.pc_file.specs.declared.catalogue.Catalogue.{Catalogue}
use Rattle.pc_file.specs.declared.rule.Rule.{Rule}
use Rattle.pc_rules.specs.declared.checks.AtMostFault.TheVariants.{Number, Length}
use Rattle.pc_rules.specs.declared.kind.Kind.TheVariants as kind
use Rattle.pc_rules.specs.declared.phrase.Phrase.{Phrase}
use Rattle.pc_rules.specs.declared.token.Token.{Token}
use Rattle.pc_rules.specs.Parsed.{Parsed, ◌>>=◌, ◌>>◌, unless}
use Rattle.pc_rules.specs.Token.{tokens_of, is_too_deep}
use Rattle.pc_rules.specs.Reading.{phrase_of}
use Rattle.pc_rules.specs.Grammar.{SpellsPhrase}
use Rattle.pc_rules.specs.RuleFaults.{has_fault, has_repeat}
use Rattle.pc_rules.specs.Naming.{rule_named}

unfoldable pub rule_of : Catalogue → List ℕ → Parsed Rule
rule_of names text = do
  tokens ← tokens_of text
  unless (is_too_deep tokens) kind.Depth
  phrase ← phrase_of tokens
  unless (has_fault Number phrase) kind.Number
  unless (has_fault Length phrase) kind.Size
  rule ← rule_named names phrase
  unless (has_repeat rule) kind.Repeat
  Ok rule

-- The text spells the rule, and no fault stands in it.
pub record IsRuleText (names : Catalogue) (text : List ℕ) (rule : Rule) : Type 0 where
  pub tokens : List Token
  pub phrase : Phrase
  pub cut : tokens_of text ≡ Ok tokens
  pub shallow : is_too_deep tokens ≡ false
  pub spelled : SpellsPhrase 0 phrase tokens
  pub numbers : has_fault Number phrase ≡ false
  pub lengths : has_fault Length phrase ≡ false
  pub named : rule_named names phrase ≡ Ok rule
  pub once : has_repeat rule ≡ false
