-- The printed form of a rule has no line feed.
use Rattle.std.proofs.Common.{◌≡◌, ℕ, ◌≤◌, ◌==◌, nat_lt, nat_le, Bool, true, false, ◌&&◌, cond, List, [], ◌∷◌, ◌++◌, codes, decimal, length, map, refl, sym, ap, ◌∙◌, arith}
use Rattle.std.specs.List.{list_all, list_any, flat_map, join_by, zip}
use Rattle.std.proofs.lemmas.Bool.{and_parts, or_from, leb-true}
use Rattle.std.proofs.lemmas.Bool.Decides.{nat_tests}
use Rattle.pc_base.specs.Distinct.{all_differ}
use Rattle.pc_base.specs.Lines.{is_feed, HasNoFeed}
use Rattle.pc_base.proofs.LineCuts.{HasNoFeed-append}
use Rattle.pc_names.specs.Name.{is_name_byte}
use Rattle.pc_file.specs.declared.catalogue.Catalogue.{Catalogue}
use Rattle.pc_file.specs.declared.variable.Variable.{Variable}
use Rattle.pc_file.specs.declared.rule.Rule.{Rule}
use Rattle.pc_file.specs.declared.rule.Rule.TheVariants as rule
use Rattle.pc_file.specs.Limits.{has_variable, has_value, is_row, is_spelled_step, is_spelled}
use Rattle.pc_file.specs.PrintedRule.{Printed, printed_variable, printed_value, printed_row, in_place, printing_step, printing, printed_in_place, printed_rule}
use Rattle.pc_file.proofs.RuleLemmas.{is_spelled-And, is_spelled-Or, is_spelled-AtMost}
use Rattle.pc_file.specs.Catalogue.{Indexes}
use Rattle.pc_print.specs.Nameable.{Nameable}
use Rattle.pc_print.proofs.PrintedForms.{join_by-map, printed-And, printed-Or, printed-Implies, printed-AtMost}
use Rattle.pc_print.proofs.PrintedTokens.{is_word, name-word, names-words, number-word}
use Rattle.pc_print.proofs.PrintedNames as printed
use Rattle.pc_rules.proofs.RuleFolds as of_rule
use Rattle.pc_file.proofs.RuleInduction.{EachRule, every_rule}

no_feed : (byte : ℕ) → is_name_byte byte ≡ true → is_feed byte ≡ false
no_feed byte in_word = by (byte == 10) refl
  where
    by : (b : Bool) → byte == 10 ≡ b → b ≡ false
    by true same = let e : byte ≡ 10 = grind (arith, nat_tests) in let f = ap is_name_byte e in absurd cc
    by false differ = refl

bytes-feedless : (bytes : List ℕ) → list_all is_name_byte bytes ≡ true → HasNoFeed bytes
bytes-feedless [] all = refl
bytes-feedless (byte ∷ bytes) all =
    let two = and_parts (is_name_byte byte) (list_all is_name_byte bytes) all in
    or_from (is_feed byte) (list_any is_feed bytes) (no_feed byte two.0) (bytes-feedless bytes two.1)

pub word-feedless : (word : List ℕ) → is_word word ≡ true → HasNoFeed word
word-feedless [] is = refl
word-feedless (byte ∷ bytes) is = bytes-feedless (byte ∷ bytes) is

-- texts with something between them
abbrev EachFeedless : List (List ℕ) → Type 0
EachFeedless [] = Unit {0}
EachFeedless (text ∷ texts) = HasNoFeed text × EachFeedless texts

more-feedless : (between : List ℕ) (texts : List (List ℕ)) → HasNoFeed between → EachFeedless texts → HasNoFeed (flat_map (λ text. between ++ text) texts)
more-feedless between [] apart each = refl
more-feedless between (text ∷ texts) apart each =
    HasNoFeed-append (between ++ text) (flat_map (λ t. between ++ t) texts) (HasNoFeed-append between text apart each.0) (more-feedless between texts apart each.1)

joined-feedless : (between : List ℕ) (texts : List (List ℕ)) → HasNoFeed between → EachFeedless texts → HasNoFeed (join_by (λ text. text) between texts)
joined-feedless between [] apart each = refl
joined-feedless between (text ∷ texts) apart each = HasNoFeed-append text (flat_map (λ t. between ++ t) texts) each.0 (more-feedless between texts apart each.1)

words-feedless : (words : List (List ℕ)) → list_all is_word words ≡ true → EachFeedless words
words-feedless [] all = tt
words-feedless (word ∷ words) all = let two = and_parts (is_word word) (list_all is_word words) all in (word-feedless word two.0, words-feedless words two.1)

three : (a b c : List ℕ) → HasNoFeed a → HasNoFeed b → HasNoFeed c → HasNoFeed (a ++ b ++ c)
three a b c ha hb hc = HasNoFeed-append (a ++ b) c (HasNoFeed-append a b ha hb) hc

five : (a b c d e : List ℕ) → HasNoFeed a → HasNoFeed b → HasNoFeed c → HasNoFeed d → HasNoFeed e → HasNoFeed (a ++ b ++ c ++ d ++ e)
five a b c d e ha hb hc hd he = three (a ++ b ++ c) d e (three a b c ha hb hc) hd he

in_place-feedless : (asked : ℕ) (p : Printed) → HasNoFeed p.text → HasNoFeed (in_place asked p)
in_place-feedless asked p text = by (nat_lt p.strength asked)
  where
    by : (b : Bool) → HasNoFeed (cond b (codes "(" ++ p.text ++ codes ")") p.text)
    by true = three (codes "(") p.text (codes ")") refl text refl
    by false = text

module _ (names : Catalogue) (variables : List Variable) (holds : Indexes names variables) (are : Nameable variables) where
  abbrev Feedless : Rule → Type 0
  Feedless r = is_spelled variables r ≡ true → HasNoFeed (printed_rule variables r)

  variable-feedless : (v : ℕ) → has_variable variables v ≡ true → HasNoFeed (printed_variable variables v)
  variable-feedless v has = word-feedless (printed_variable variables v) (name-word (printed_variable variables v) (printed.variable-named names variables holds are v has))

  value-feedless : (v a : ℕ) → has_value variables v a ≡ true → HasNoFeed (printed_value variables v a)
  value-feedless v a has = word-feedless (printed_value variables v a) (name-word (printed_value variables v a) (printed.value-named names variables holds are v a has))

  comparison-feedless : (v a : ℕ) (sign : List ℕ) → HasNoFeed sign → has_value variables v a ≡ true → HasNoFeed (printed_variable variables v ++ sign ++ printed_value variables v a)
  comparison-feedless v a sign apart has =
      three (printed_variable variables v) sign (printed_value variables v a) (variable-feedless v (printed.has_value-variable names variables holds are v a has)) apart (value-feedless v a has)

  members-feedless : (asked : ℕ) (rs : List Rule) → EachRule Feedless rs → list_all (is_spelled variables) rs ≡ true → EachFeedless (map (printed_in_place asked variables) rs)
  members-feedless asked [] each all = tt
  members-feedless asked (r ∷ rs) each all =
      let two = and_parts (is_spelled variables r) (list_all (is_spelled variables) rs) all in
      (in_place-feedless asked (printing variables r) (each.0 two.0), members-feedless asked rs each.1 two.1)

  joined-members : (asked : ℕ) (between : List ℕ) (rs : List Rule) → HasNoFeed between → EachRule Feedless rs → list_all (is_spelled variables) rs ≡ true → HasNoFeed (join_by (printed_in_place asked variables) between rs)
  joined-members asked between rs apart each all =
      ap (list_any is_feed) (sym (join_by-map (λ t. t) between (printed_in_place asked variables) rs)) ∙ joined-feedless between (map (printed_in_place asked variables) rs) apart (members-feedless asked rs each all)

  feedless-And : (rs : List Rule) → EachRule Feedless rs → Feedless (rule.And rs)
  feedless-And rs each is =
      let two = and_parts (nat_le 2 (length rs)) (list_all (is_spelled variables) rs) (sym (is_spelled-And variables rs) ∙ is) in
      ap (list_any is_feed) (printed-And variables rs) ∙ joined-members 3 (codes " and ") rs refl each two.1

  feedless-Or : (rs : List Rule) → EachRule Feedless rs → Feedless (rule.Or rs)
  feedless-Or rs each is =
      let two = and_parts (nat_le 2 (length rs)) (list_all (is_spelled variables) rs) (sym (is_spelled-Or variables rs) ∙ is) in
      ap (list_any is_feed) (printed-Or variables rs) ∙ joined-members 2 (codes " or ") rs refl each two.1

  feedless-AtMost : (most : ℕ) (rs : List Rule) → EachRule Feedless rs → Feedless (rule.AtMost most rs)
  feedless-AtMost most rs each is =
      let whole = and_parts (nat_le most 64 && nat_le 1 (length rs) && nat_le (length rs) 64) (list_all (is_spelled variables) rs) (sym (is_spelled-AtMost variables most rs) ∙ is) in
      let counts = and_parts (nat_le most 64 && nat_le 1 (length rs)) (nat_le (length rs) 64) whole.0 in
      let small : most ≤ 64 = leb-true most 64 (and_parts (nat_le most 64) (nat_le 1 (length rs)) counts.0).0 in
      let members = join_by (printed_in_place 0 variables) (codes ", ") rs in
      ap (list_any is_feed) (printed-AtMost variables most rs)
      ∙ five (codes "atmost ") (decimal most) (codes " (") members (codes ")") refl (word-feedless (decimal most) (number-word most small)) refl (joined-members 0 (codes ", ") rs refl each whole.1) refl

  feedless-Implies : (r s : Rule) → Feedless r → Feedless s → Feedless (rule.Implies r s)
  feedless-Implies r s first second is =
      let two = and_parts (is_spelled variables r) (is_spelled variables s) (sym (of_rule.fold-Implies Bool (is_spelled_step variables) r s) ∙ is) in
      ap (list_any is_feed) (printed-Implies variables r s)
      ∙ three (printed_in_place 1 variables r) (codes " => ") (printed_in_place 1 variables s) (in_place-feedless 1 (printing variables r) (first two.0)) refl (in_place-feedless 1 (printing variables s) (second two.1))

  feedless-Not : (r : Rule) → Feedless r → Feedless (rule.Not r)
  feedless-Not r inner is =
      let spelled = sym (of_rule.fold-Not Bool (is_spelled_step variables) r) ∙ is in
      ap (λ p. list_any is_feed p.text) (of_rule.fold-Not Printed (printing_step variables) r)
      ∙ HasNoFeed-append (codes "not ") (printed_in_place 4 variables r) refl (in_place-feedless 4 (printing variables r) (inner spelled))

  feedless-OneOf : (v : ℕ) (values : List ℕ) → Feedless (rule.OneOf v values)
  feedless-OneOf v values is =
      let whole : (nat_le 1 (length values) && list_all (has_value variables v) values && all_differ ◌==◌ values) ≡ true = sym (of_rule.fold-OneOf Bool (is_spelled_step variables) v values) ∙ is in
      let two = and_parts (nat_le 1 (length values)) (list_all (has_value variables v) values) (and_parts (nat_le 1 (length values) && list_all (has_value variables v) values) (all_differ ◌==◌ values) whole).0 in
      let listed = join_by (printed_value variables v) (codes ", ") values in
      let words = names-words (map (printed_value variables v) values) (printed.values-named names variables holds are v values two.1) in
      let none : HasNoFeed listed = ap (list_any is_feed) (sym (join_by-map (λ t. t) (codes ", ") (printed_value variables v) values)) ∙ joined-feedless (codes ", ") (map (printed_value variables v) values) refl (words-feedless (map (printed_value variables v) values) words) in
      ap (λ p. list_any is_feed p.text) (of_rule.fold-OneOf Printed (printing_step variables) v values)
      ∙ three (printed_variable variables v ++ codes " in {") listed (codes "}") (HasNoFeed-append (printed_variable variables v) (codes " in {") (variable-feedless v (some_value values (leb-true 1 (length values) two.0) two.1)) refl) none refl
    where
      some_value : (values : List ℕ) → 1 ≤ length values → list_all (has_value variables v) values ≡ true → has_variable variables v ≡ true
      some_value [] some all = absurd (omega arith)
      some_value (a ∷ values) some all = printed.has_value-variable names variables holds are v a (and_parts (has_value variables v a) (list_all (has_value variables v) values) all).0

  rows-feedless : (these : List ℕ) (rows : List (List ℕ)) → list_all (is_row variables these) rows ≡ true → EachFeedless (map (printed_row variables these) rows)
  rows-feedless these [] all = tt
  rows-feedless these (row ∷ rows) all =
      let two = and_parts (is_row variables these row) (list_all (is_row variables these) rows) all in
      let words = printed.row_words names variables holds are these row in
      let each = words-feedless words (names-words words (printed.row-is names variables holds are these row two.0).named) in
      (ap (list_any is_feed) (sym (join_by-map (λ w. w) (codes " ") (λ (p : ℕ × ℕ). printed_value variables p.0 p.1) (zip these row))) ∙ joined-feedless (codes " ") words refl each, rows-feedless these rows two.1)

  feedless-Table : (these : List ℕ) (rows : List (List ℕ)) → Feedless (rule.Table these rows)
  feedless-Table these rows is =
      let whole : (nat_le 1 (length these) && list_all (has_variable variables) these && all_differ ◌==◌ these && nat_le 1 (length rows) && list_all (is_row variables these) rows) ≡ true =
      sym (of_rule.fold-Table Bool (is_spelled_step variables) these rows) ∙ is in
      let e = and_parts (nat_le 1 (length these) && list_all (has_variable variables) these && all_differ ◌==◌ these && nat_le 1 (length rows)) (list_all (is_row variables these) rows) whole in
      let d = and_parts (nat_le 1 (length these) && list_all (has_variable variables) these && all_differ ◌==◌ these) (nat_le 1 (length rows)) e.0 in
      let b = and_parts (nat_le 1 (length these)) (list_all (has_variable variables) these) (and_parts (nat_le 1 (length these) && list_all (has_variable variables) these) (all_differ ◌==◌ these) d.0).0 in
      let vs = map (printed_variable variables) these in
      let words = names-words vs (printed.variables-named names variables holds are these b.1) in
      let vtext = join_by (printed_variable variables) (codes ", ") these in
      let rtext = join_by (printed_row variables these) (codes ", ") rows in
      let first : HasNoFeed vtext = ap (list_any is_feed) (sym (join_by-map (λ t. t) (codes ", ") (printed_variable variables) these)) ∙ joined-feedless (codes ", ") vs refl (words-feedless vs words) in
      let second : HasNoFeed rtext = ap (list_any is_feed) (sym (join_by-map (λ t. t) (codes ", ") (printed_row variables these) rows)) ∙ joined-feedless (codes ", ") (map (printed_row variables these) rows) refl (rows-feedless these rows e.1) in
      ap (λ p. list_any is_feed p.text) (of_rule.fold-Table Printed (printing_step variables) these rows)
      ∙ five (codes "table (") vtext (codes ") {") rtext (codes "}") refl first refl second refl

  feedless-Same : (v w : ℕ) → Feedless (rule.Same v w)
  feedless-Same v w is =
      let two = and_parts (has_variable variables v) (has_variable variables w) (sym (of_rule.fold-Same Bool (is_spelled_step variables) v w) ∙ is) in
      ap (λ p. list_any is_feed p.text) (of_rule.fold-Same Printed (printing_step variables) v w)
      ∙ five (codes "same(") (printed_variable variables v) (codes ", ") (printed_variable variables w) (codes ")") refl (variable-feedless v two.0) refl (variable-feedless w two.1) refl

  pub rule_has_no_feed : (r : Rule) → is_spelled variables r ≡ true → HasNoFeed (printed_rule variables r)
  rule_has_no_feed = every_rule Feedless (record {
    is = λ v a is. ap (λ p. list_any is_feed p.text) (of_rule.fold-Is Printed (printing_step variables) v a) ∙ comparison-feedless v a (codes "=") refl (sym (of_rule.fold-Is Bool (is_spelled_step variables) v a) ∙ is);
    is_not = λ v a is. ap (λ p. list_any is_feed p.text) (of_rule.fold-IsNot Printed (printing_step variables) v a) ∙ comparison-feedless v a (codes "!=") refl (sym (of_rule.fold-IsNot Bool (is_spelled_step variables) v a) ∙ is);
    one_of = feedless-OneOf;
    not = feedless-Not;
    and = feedless-And;
    or = feedless-Or;
    implies = feedless-Implies;
    same = feedless-Same;
    at_most = feedless-AtMost;
    table = feedless-Table;
  })
