-- A rule in a text: what is read, and what is spelled.
use Rattle.std.proofs.Common.{◌≡◌, ℕ, Bool, true, false, List, Result, IfOk, Ok, Err, refl, sym, ap, ◌∙◌}
use Rattle.std.proofs.lemmas.Bool.{and_from}
use Rattle.pc_file.specs.declared.catalogue.Catalogue.{Catalogue}
use Rattle.pc_file.specs.declared.rule.Rule.{Rule}
use Rattle.pc_file.specs.declared.variable.Variable.{Variable}
use Rattle.pc_file.specs.Limits.{is_spelled, is_shallow, is_rule}
use Rattle.pc_rules.specs.declared.checks.AtMostFault.TheVariants.{Number, Length}
use Rattle.pc_rules.specs.declared.kind.Kind.{Kind}
use Rattle.pc_rules.specs.declared.kind.Kind.TheVariants as kind
use Rattle.pc_rules.specs.declared.phrase.Phrase.{Phrase}
use Rattle.pc_rules.specs.declared.token.Token.{Token}
use Rattle.pc_rules.specs.declared.fault.RuleFault.{RuleFault}
use Rattle.pc_rules.specs.Parsed.{Parsed, ◌>>=◌, ◌>>◌, unless, Gives}
use Rattle.pc_rules.specs.Token.{tokens_of, is_too_deep}
use Rattle.pc_rules.specs.Reading.{phrase_of}
use Rattle.pc_rules.specs.RuleFaults.{has_fault, has_repeat}
use Rattle.pc_file.specs.Catalogue.{Indexes}
use Rattle.pc_rules.specs.Naming.{rule_named}
use Rattle.pc_rules.specs.RuleText.{rule_of, IsRuleText}
use Rattle.pc_rules.proofs.Positions.{bind_ok, the_ok}
use Rattle.pc_rules.proofs.GrammarSound.{phrase_of-sound}
use Rattle.pc_rules.proofs.GrammarComplete.{phrase_of-complete}
use Rattle.pc_rules.proofs.Spelled.{spelled}
use Rattle.pc_rules.proofs.Shallow.{shallow_rule}

unless_ok : {A : Type 0} (fault : Bool) (kind : Kind) (next : Parsed A) (y : A) → (unless fault kind >> next) ≡ Ok y → (fault ≡ false) × (next ≡ Ok y)
unless_ok true kind next y e = absurd cc
unless_ok false kind next y e = (refl, e)

unless_none : {A : Type 0} (fault : Bool) (kind : Kind) (next : Parsed A) → fault ≡ false → (unless fault kind >> next) ≡ next
unless_none fault kind next none = ap (λ b. unless b kind >> next) none

module _ (names : Catalogue) (text : List ℕ) (rule : Rule) where
  abbrev last : Rule → Parsed Rule
  last found = unless (has_repeat found) kind.Repeat >> Ok found

  abbrev naming : Phrase → Parsed Rule
  naming phrase = rule_named names phrase >>= last

  abbrev lengths : Phrase → Parsed Rule
  lengths phrase = unless (has_fault Length phrase) kind.Size >> naming phrase

  abbrev numbers : Phrase → Parsed Rule
  numbers phrase = unless (has_fault Number phrase) kind.Number >> lengths phrase

  abbrev reading : List Token → Parsed Rule
  reading tokens = phrase_of tokens >>= numbers

  abbrev depth : List Token → Parsed Rule
  depth tokens = unless (is_too_deep tokens) kind.Depth >> reading tokens

  pub rule_of-read : rule_of names text ≡ Ok rule → IsRuleText names text rule
  unfolding rule_of
  rule_of-read e =
      let t = bind_ok (tokens_of text) depth rule e in
      let d = unless_ok (is_too_deep t.0) kind.Depth (reading t.0) rule t.2 in
      let p = bind_ok (phrase_of t.0) numbers rule d.1 in
      let n = unless_ok (has_fault Number p.0) kind.Number (lengths p.0) rule p.2 in
      let z = unless_ok (has_fault Length p.0) kind.Size (naming p.0) rule n.1 in
      let r = bind_ok (rule_named names p.0) last rule z.1 in
      let o = unless_ok (has_repeat r.0) kind.Repeat (Ok r.0) rule r.2 in
      let is = the_ok r.0 rule o.1 in
      record {
        tokens = t.0;
        phrase = p.0;
        cut = t.1;
        shallow = d.0;
        spelled = phrase_of-sound t.0 p.0 p.1;
        numbers = n.0;
        lengths = z.0;
        named = r.1 ∙ ap Ok is;
        once = ap has_repeat (sym is) ∙ o.0;
      }

  pub rule_of-only : IsRuleText names text rule → rule_of names text ≡ Ok rule
  unfolding rule_of
  rule_of-only is =
      ap (λ o. o >>= depth) is.cut
      ∙ unless_none (is_too_deep is.tokens) kind.Depth (reading is.tokens) is.shallow
      ∙ ap (λ o. o >>= numbers) (phrase_of-complete is.tokens is.phrase is.shallow is.spelled)
      ∙ unless_none (has_fault Number is.phrase) kind.Number (lengths is.phrase) is.numbers
      ∙ unless_none (has_fault Length is.phrase) kind.Size (naming is.phrase) is.lengths
      ∙ ap (λ o. o >>= last) is.named
      ∙ unless_none (has_repeat rule) kind.Repeat (Ok rule) is.once

  pub rule_fits : (variables : List Variable) → Indexes names variables → IsRuleText names text rule → is_rule variables rule ≡ true
  rule_fits variables holds is =
      and_from (is_spelled variables rule) (is_shallow rule) (spelled names variables holds is.spelled rule is.named is.numbers is.lengths is.once) (shallow_rule names is.spelled is.shallow rule is.named)

-- a value that a function gave is that of the reading
pub if_read : (answer : Result Rule RuleFault) (outcome : Parsed Rule) (P : Rule → Type 0) → Gives (λ rule. rule) answer outcome → ((rule : Rule) → outcome ≡ Ok rule → P rule) → IfOk answer P
if_read (Ok rule) outcome P gives told = told rule gives
if_read (Err fault) outcome P gives told = tt
