-- A text of the bike, and that it spells the bike.
use Rattle.std.proofs.Common.{◌≡◌, ℕ, List, [], ◌∷◌, ◌++◌, refl, ◌∙◌, arith}
use Rattle.std.specs.Prelude.{codes}
use Rattle.std.specs.Fmt.{digits}
use Rattle.std.specs.List.{AllZip}
use Rattle.pc_base.specs.Lines.{lines}
use Rattle.pc_file.specs.Bike.{bike}
use Rattle.pc_file.specs.declared.catalogue.Catalogue.{Catalogue}
use Rattle.pc_file.specs.declared.rule.Rule.{Rule, Rule-F, fold-Rule}
use Rattle.pc_file.specs.declared.rule.Rule.TheVariants as rule
use Rattle.pc_file.proofs.BikeLemmas.{bike_is_file}
use Rattle.pc_rules.specs.declared.checks.AtMostFault.TheVariants.{Number, Length}
use Rattle.pc_rules.specs.declared.phrase.Phrase.{Phrase-F, fold-Phrase}
use Rattle.pc_rules.specs.declared.phrase.Phrase.TheVariants.{Is, Not, And, Implies}
use Rattle.pc_rules.specs.declared.token.Sign.TheVariants.{Arrow, Equal, Open, Close}
use Rattle.pc_rules.specs.declared.token.Token.TheVariants.{Mark, Word}
use Rattle.pc_text.specs.Given.{catalogue_of}
use Rattle.pc_rules.specs.Grammar as grammar
use Rattle.pc_names.specs.LineWords.{words, first_word, from_word, after_word}
use Rattle.pc_rules.specs.Naming.{named_step, variable_at, value_at}
use Rattle.pc_rules.specs.Parsed.{Parsed}
use Rattle.pc_rules.specs.RuleFaults.{fault_step, test_of, repeat_step}
use Rattle.pc_rules.specs.RuleText.{IsRuleText}
use Rattle.pc_text.specs.Spells.{IsSmallText, Spells, significant_lines}
use Rattle.pc_text.specs.Statement.{Says, statements}
use Rattle.pc_rules.specs.Token.{first_token, tokens_of, is_too_deep}
use Rattle.pc_rules.proofs.PhraseFolds as phrases
use Rattle.pc_rules.proofs.RuleFolds as rules

-- a line with its line feed
abbrev line : List ℕ → List ℕ
line text = text ++ 10 ∷ []

-- two of its lines are skipped
abbrev bike_source : List ℕ
bike_source =
    line (codes "product 1")
    ++ line (codes "cost price")
    ++ line (codes "cost days")
    ++ line (codes "# parts")
    ++ line (codes "variable frame")
    ++ line (codes "value steel 300 2")
    ++ line (codes "value alloy 500 1")
    ++ line (codes "value carbon 900 5")
    ++ line (codes "variable wheel")
    ++ line (codes "value w26 80 1")
    ++ line (codes "value w28 120 1")
    ++ line (codes "variable light")
    ++ line (codes "value none 0 0")
    ++ line (codes "value led 40 1")
    ++ line []
    ++ line (codes "rule frame=carbon => wheel=w28")
    ++ line (codes "rule not (frame=steel and light=led)")
    ++ codes "end"

abbrev names : Catalogue
names = catalogue_of bike.variables

-- any fold of the two phrases and of the two rules, layer by layer

module _ (A : Type 0) (step : Phrase-F A → A) (a b c d : List ℕ) where
  first_phrase : fold-Phrase A step (Implies (Is a b) (Is c d)) ≡ step (Phrase-F.Implies (step (Phrase-F.Is a b)) (step (Phrase-F.Is c d)))
  first_phrase = phrases.fold-Implies A step (Is a b) (Is c d) ∙ rw (phrases.fold-Is A step a b, phrases.fold-Is A step c d) refl

  second_phrase : fold-Phrase A step (Not (And (Is a b ∷ Is c d ∷ []))) ≡ step (Phrase-F.Not (step (Phrase-F.And (step (Phrase-F.Is a b) ∷ step (Phrase-F.Is c d) ∷ []))))
  second_phrase =
      phrases.fold-Not A step (And (Is a b ∷ Is c d ∷ []))
      ∙ rw (phrases.fold-And A step (Is a b ∷ Is c d ∷ []), phrases.fold-Is A step a b, phrases.fold-Is A step c d) refl

module _ (A : Type 0) (step : Rule-F A → A) (a b c d : ℕ) where
  first_rule : fold-Rule A step (rule.Implies (rule.Is a b) (rule.Is c d)) ≡ step (Rule-F.Implies (step (Rule-F.Is a b)) (step (Rule-F.Is c d)))
  first_rule = rules.fold-Implies A step (rule.Is a b) (rule.Is c d) ∙ rw (rules.fold-Is A step a b, rules.fold-Is A step c d) refl

  second_rule : fold-Rule A step (rule.Not (rule.And (rule.Is a b ∷ rule.Is c d ∷ []))) ≡ step (Rule-F.Not (step (Rule-F.And (step (Rule-F.Is a b) ∷ step (Rule-F.Is c d) ∷ []))))
  second_rule =
      rules.fold-Not A step (rule.And (rule.Is a b ∷ rule.Is c d ∷ []))
      ∙ rw (rules.fold-And A step (rule.Is a b ∷ rule.Is c d ∷ []), rules.fold-Is A step a b, rules.fold-Is A step c d) refl

first_spelled : IsRuleText names (codes " frame=carbon => wheel=w28") (rule.Implies (rule.Is 0 2) (rule.Is 1 1))
unfolding tokens_of first_token is_too_deep variable_at value_at
first_spelled = record {
  tokens = Word (codes "frame") ∷ Mark Equal ∷ Word (codes "carbon") ∷ Mark Arrow ∷ Word (codes "wheel") ∷ Mark Equal ∷ Word (codes "w28") ∷ [];
  phrase = Implies (Is (codes "frame") (codes "carbon")) (Is (codes "wheel") (codes "w28"));
  cut = refl;
  shallow = refl;
  spelled = grammar.implies (omega arith) (grammar.is 1 (codes "frame") (codes "carbon") refl) (grammar.is 1 (codes "wheel") (codes "w28") refl);
  numbers = first_phrase _ (fault_step (test_of Number)) (codes "frame") (codes "carbon") (codes "wheel") (codes "w28");
  lengths = first_phrase _ (fault_step (test_of Length)) (codes "frame") (codes "carbon") (codes "wheel") (codes "w28");
  named = first_phrase (Parsed Rule) (named_step names) (codes "frame") (codes "carbon") (codes "wheel") (codes "w28");
  once = first_rule _ repeat_step 0 2 1 1;
}

second_spelled : IsRuleText names (codes " not (frame=steel and light=led)") (rule.Not (rule.And (rule.Is 0 0 ∷ rule.Is 2 1 ∷ [])))
unfolding tokens_of first_token is_too_deep variable_at value_at
second_spelled = record {
  tokens = Word (codes "not") ∷ Mark Open ∷ Word (codes "frame") ∷ Mark Equal ∷ Word (codes "steel") ∷ Word (codes "and") ∷ Word (codes "light") ∷ Mark Equal ∷ Word (codes "led") ∷ Mark Close ∷ [];
  phrase = Not (And (Is (codes "frame") (codes "steel") ∷ Is (codes "light") (codes "led") ∷ []));
  cut = refl;
  shallow = refl;
  spelled = grammar.not (omega arith) (grammar.parentheses 4 (grammar.and (omega arith) (omega arith)
      (grammar.more (grammar.is 3 (codes "frame") (codes "steel") refl) (grammar.more (grammar.is 3 (codes "light") (codes "led") refl) (grammar.none 3)))));
  numbers = second_phrase _ (fault_step (test_of Number)) (codes "frame") (codes "steel") (codes "light") (codes "led");
  lengths = second_phrase _ (fault_step (test_of Length)) (codes "frame") (codes "steel") (codes "light") (codes "led");
  named = second_phrase (Parsed Rule) (named_step names) (codes "frame") (codes "steel") (codes "light") (codes "led");
  once = second_rule _ repeat_step 0 0 2 1;
}

is_small : IsSmallText bike_source
unfolding lines
is_small = record { bytes_at_most = omega arith; lines_at_most = omega arith; each_line = refl }

-- product and costs; frame; wheel; light; rules and end
says : AllZip (Says bike) (significant_lines bike_source) (statements bike)
unfolding lines words first_word from_word after_word digits
says = (
  refl,
  (
    (refl, refl),
    (
      (refl, refl),
      (
        (refl, refl),
        (
          (refl, refl),
          (
            (refl, refl),
            (
              (refl, refl),
              (
                (refl, refl),
                (
                  (refl, refl),
                  (
                    (refl, refl),
                    (
                      (refl, refl),
                      (
                        (refl, refl),
                        (
                          (refl, refl),
                          ((refl, first_spelled), ((refl, second_spelled), (refl, tt))),
                        ),
                      ),
                    ),
                  ),
                ),
              ),
            ),
          ),
        ),
      ),
    ),
  ),
)

pub bike_is_spelled : Spells bike_source bike
bike_is_spelled = record { is_small = is_small; is_file = bike_is_file; says = says }
