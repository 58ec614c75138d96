-- The printed form of a file spells the file.
use Rattle.std.proofs.Common.{◌≡◌, ℕ, zero, suc, ◌*◌, ◌≤◌, nat_le, Bool, true, ◌&&◌, List, [], ◌∷◌, ◌++◌, length, codes, map, take, None, refl, sym, ap, subst, ◌∙◌, append_assoc, length-append, arith}
use Rattle.std.specs.Fmt.{signed_decimal}
use Rattle.std.specs.List.{list_all, flat_map, filter, AllZip}
use Rattle.std.proofs.lemmas.Bool.{and_parts, and_from, leb-true}
use Rattle.std.proofs.lemmas.List.{append-nil, length-map}
use Rattle.pc_base.specs.Lines.{HasNoFeed, lines}
use Rattle.pc_base.proofs.LineCuts.{lines-nil, lines-feed_after, HasNoFeed-append}
use Rattle.pc_names.specs.Name.{is_name}
use Rattle.pc_file.specs.declared.rule.Rule.{Rule}
use Rattle.pc_file.specs.declared.variable.Value.{Value}
use Rattle.pc_file.specs.declared.variable.Variable.{Variable}
use Rattle.pc_file.specs.Limits.{Contents, IsFile, is_sized, is_cost, is_value, is_variable, is_spelled, is_shallow, is_rule, value_names}
use Rattle.pc_file.specs.PrintedRule.{printed_rule}
use Rattle.pc_file.specs.PrintedForm.{header_line, cost_line, variable_line, value_line, rule_line, end_line, variable_lines, printed_lines, text_of_lines, printed}
use Rattle.pc_file.specs.Catalogue.{Indexes}
use Rattle.pc_print.specs.Nameable.{is_named, is_free, Nameable}
use Rattle.pc_rules.specs.RuleText.{IsRuleText}
use Rattle.pc_print.proofs.PrintedFeeds.{rule_has_no_feed}
use Rattle.pc_print.proofs.PrintedRuleText.{spaced_rule_spells}
use Rattle.pc_text.specs.Given.{catalogue_of}
use Rattle.pc_text.specs.FirstFault.{first_fault, given_by}
use Rattle.pc_text.specs.Given.{contents_given}
use Rattle.pc_names.specs.LineWords.{first_word, from_word, after_word}
use Rattle.pc_text.specs.Named.{has_names}
use Rattle.pc_text.specs.Spells.{is_small_line, is_significant, Spells}
use Rattle.pc_text.specs.Statement.{Statement, header, a_cost, a_variable, a_value, a_rule, end, variable_statements, statements, value_words, Says}
use Rattle.pc_text.proofs.Meanings.{says_means}
use Rattle.pc_text.proofs.PrintedWords.{is_line_word, words-line_of, line_of-feedless, name-line_word, number-line_word}
use Rattle.pc_text.proofs.ReadLemmas.{spelled_once}
use Rattle.pc_text.proofs.SignificantLines.{kept_lines}
use Rattle.pc_text.proofs.SpelledHasNoFault.{spelled_has_no_fault}
use Rattle.pc_text.proofs.ValueWords.{cost_fits}

AllZip-append : {A B : Type 0} (R : A → B → Type 0) (xs us : List A) (ys vs : List B) → AllZip R xs ys → AllZip R us vs → AllZip R (xs ++ us) (ys ++ vs)
AllZip-append R [] us [] vs a b = b
AllZip-append R [] us (y ∷ ys) vs a b = absurd a
AllZip-append R (x ∷ xs) us [] vs a b = absurd a
AllZip-append R (x ∷ xs) us (y ∷ ys) vs a b = (a.0, AllZip-append R xs us ys vs a.1 b)

all-take : (test : List ℕ → Bool) (n : ℕ) (xs : List (List ℕ)) → list_all test xs ≡ true → list_all test (take n xs) ≡ true
all-take test zero xs all = refl
all-take test (suc n) [] all = refl
all-take test (suc n) (x ∷ xs) all = let two = and_parts (test x) (list_all test xs) all in and_from (test x) (list_all test (take n xs)) two.0 (all-take test n xs two.1)

module _ (file : Contents) (is : IsFile file) (named : has_names file ≡ true) where
  -- a line has no line feed, and says a statement
  abbrev Prints : List ℕ → Statement → Type 0
  Prints line statement = HasNoFeed line × Says file line statement

  abbrev costs : ℕ
  costs = length file.costs

  abbrev variables : List Variable
  variables = file.variables

  names_named : (list_all is_name file.costs ≡ true) × (list_all is_named file.variables ≡ true)
  names_named = and_parts (list_all is_name file.costs) (list_all is_named file.variables) named

  -- ---- one line

  cost-prints : (name : List ℕ) → is_name name ≡ true → Prints (cost_line name) (a_cost name)
  cost-prints name is_name' =
      let all : list_all is_line_word (codes "cost" ∷ name ∷ []) ≡ true = rw (name-line_word name is_name') refl in
      (line_of-feedless (codes "cost" ∷ name ∷ []) all, (words-line_of (codes "cost" ∷ name ∷ []) all, is_name'))

  variable-prints : (name : List ℕ) → is_name name ≡ true → Prints (variable_line name) (a_variable name)
  variable-prints name is_name' =
      let all : list_all is_line_word (codes "variable" ∷ name ∷ []) ≡ true = rw (name-line_word name is_name') refl in
      (line_of-feedless (codes "variable" ∷ name ∷ []) all, (words-line_of (codes "variable" ∷ name ∷ []) all, is_name'))

  value-prints : (value : Value) → is_name value.name ≡ true → is_value costs value ≡ true → Prints (value_line costs value) (a_value value)
  value-prints value is_name' fits =
      let both = and_parts (is_cost value.first) (is_cost value.second) (and_parts (is_cost value.first && is_cost value.second) _ fits).0 in
      let numbers = signed_decimal value.first ∷ signed_decimal value.second ∷ [] in
      let all_numbers : list_all is_line_word numbers ≡ true = rw (number-line_word value.first (cost_fits value.first both.0), number-line_word value.second (cost_fits value.second both.1)) refl in
      let all : list_all is_line_word (codes "value" ∷ value_words costs value) ≡ true = rw (name-line_word value.name is_name') (all-take is_line_word costs numbers all_numbers) in
      (line_of-feedless (codes "value" ∷ value_words costs value) all, (words-line_of (codes "value" ∷ value_words costs value) all, is_name'))

  -- ---- rules

  each_free : (vs : List Variable) → list_all (is_variable costs) vs ≡ true → list_all is_free vs ≡ true
  each_free [] all = refl
  each_free (v ∷ vs) all =
      let two = and_parts (is_variable costs v) (list_all (is_variable costs) vs) all in
      let first = and_parts (is_free v) (is_sized v) (and_parts (is_free v && is_sized v) (list_all (is_value costs) v.values) two.0).0 in
      and_from (is_free v) (list_all is_free vs) first.0 (each_free vs two.1)

  each_sized : (vs : List Variable) → list_all (is_variable costs) vs ≡ true → list_all is_sized vs ≡ true
  each_sized [] all = refl
  each_sized (v ∷ vs) all =
      let two = and_parts (is_variable costs v) (list_all (is_variable costs) vs) all in
      let first = and_parts (is_free v) (is_sized v) (and_parts (is_free v && is_sized v) (list_all (is_value costs) v.values) two.0).0 in
      and_from (is_sized v) (list_all is_sized vs) first.1 (each_sized vs two.1)

  nameable : Nameable file.variables
  nameable = record {
    at_most = is.variables_at_most;
    each_sized = each_sized file.variables is.each_variable;
    each_named = names_named.1;
    each_free = each_free file.variables is.each_variable;
    differ = is.names_differ;
  }

  holds : Indexes (catalogue_of file.variables) file.variables
  holds = record { variables_are = refl; values_are = refl }

  abbrev rule_line_text : List ℕ → List ℕ
  rule_line_text text = 114 ∷ 117 ∷ 108 ∷ 101 ∷ 32 ∷ text

  rule_line-word : (text : List ℕ) → first_word (rule_line_text text) ≡ codes "rule"
  unfolding first_word from_word
  rule_line-word text = refl

  rule_line-after : (text : List ℕ) → after_word (rule_line_text text) ≡ 32 ∷ text
  unfolding after_word from_word
  rule_line-after text = refl

  rule-prints : (rule : Rule) → is_rule file.variables rule ≡ true → Prints (rule_line file.variables rule) (a_rule rule)
  rule-prints rule fits =
      let text = printed_rule file.variables rule in
      let shape : rule_line file.variables rule ≡ rule_line_text text = ap rule_line_text (append-nil text) in
      let spelled = (and_parts (is_spelled file.variables rule) (is_shallow rule) fits).0 in
      let none : HasNoFeed (rule_line_text text) = HasNoFeed-append (codes "rule ") text refl (rule_has_no_feed (catalogue_of file.variables) file.variables holds nameable rule spelled) in
      let spells = spaced_rule_spells (catalogue_of file.variables) file.variables holds nameable rule fits in
      subst (λ (line : List ℕ). Prints line (a_rule rule)) (sym shape)
      (none, (rule_line-word text, subst (λ (t : List ℕ). IsRuleText (catalogue_of file.variables) t rule) (sym (rule_line-after text)) spells))

  -- ---- all lines

  costs-print : (names : List (List ℕ)) → list_all is_name names ≡ true → AllZip Prints (map cost_line names) (map a_cost names)
  costs-print [] all = tt
  costs-print (name ∷ names) all = let two = and_parts (is_name name) (list_all is_name names) all in (cost-prints name two.0, costs-print names two.1)

  values-print : (values : List Value) → list_all is_name (map (λ value. value.name) values) ≡ true → list_all (is_value costs) values ≡ true → AllZip Prints (map (value_line costs) values) (map a_value values)
  values-print [] names fit = tt
  values-print (value ∷ values) names fit =
      let two = and_parts (is_name value.name) (list_all is_name (map (λ v. v.name) values)) names in
      let fits = and_parts (is_value costs value) (list_all (is_value costs) values) fit in
      (value-prints value two.0 fits.0, values-print values two.1 fits.1)

  variables-print : (vs : List Variable) → list_all is_named vs ≡ true → list_all (is_variable costs) vs ≡ true → AllZip Prints (flat_map (variable_lines costs) vs) (flat_map variable_statements vs)
  variables-print [] names fit = tt
  variables-print (v ∷ vs) names fit =
      let two = and_parts (is_named v) (list_all is_named vs) names in
      let own = and_parts (is_name v.name) (list_all is_name (value_names v)) two.0 in
      let fits = and_parts (is_variable costs v) (list_all (is_variable costs) vs) fit in
      let values = (and_parts (is_free v && is_sized v) (list_all (is_value costs) v.values) fits.0).1 in
      AllZip-append Prints (variable_lines costs v) (flat_map (variable_lines costs) vs) (variable_statements v) (flat_map variable_statements vs)
      (variable-prints v.name own.0, values-print v.values own.1 values) (variables-print vs two.1 fits.1)

  rules-print : (rules : List Rule) → list_all (is_rule file.variables) rules ≡ true → AllZip Prints (map (rule_line file.variables) rules) (map a_rule rules)
  rules-print [] fit = tt
  rules-print (rule ∷ rules) fit = let two = and_parts (is_rule file.variables rule) (list_all (is_rule file.variables) rules) fit in (rule-prints rule two.0, rules-print rules two.1)

  all_print : AllZip Prints (printed_lines file) (statements file)
  all_print =
      let last : AllZip Prints (end_line ∷ []) (end ∷ []) = ((refl, words-line_of (codes "end" ∷ []) refl), tt) in
      let head : Prints header_line header = (refl, words-line_of (codes "product" ∷ codes "1" ∷ []) refl) in
      let rules = AllZip-append Prints (map (rule_line file.variables) file.rules) (end_line ∷ []) (map a_rule file.rules) (end ∷ []) (rules-print file.rules is.each_rule) last in
      let later = AllZip-append Prints (flat_map (variable_lines costs) file.variables) (map (rule_line file.variables) file.rules ++ end_line ∷ []) (flat_map variable_statements file.variables) (map a_rule file.rules ++ end ∷ [])
      (variables-print file.variables names_named.1 is.each_variable) rules in (
        head,
        AllZip-append Prints (map cost_line file.costs) (flat_map (variable_lines costs) file.variables ++ (map (rule_line file.variables) file.rules ++ end_line ∷ []))
            (map a_cost file.costs) (flat_map variable_statements file.variables ++ (map a_rule file.rules ++ end ∷ [])) (costs-print file.costs names_named.0) later,
      )

  -- the text has those lines
  lines_of_text : (all : List (List ℕ)) (said : List Statement) → AllZip Prints all said → lines (text_of_lines all) ≡ all
  lines_of_text [] said print = lines-nil
  lines_of_text (line ∷ all) [] print = absurd print
  lines_of_text (line ∷ all) (statement ∷ said) print =
      ap lines (append_assoc line (10 ∷ []) (text_of_lines all)) ∙ lines-feed_after line (text_of_lines all) print.0.0 ∙ ap (λ l. line ∷ l) (lines_of_text all said print.1)

  -- each of them counts
  all_count : (all : List (List ℕ)) (said : List Statement) → AllZip Prints all said → filter is_significant all ≡ all
  all_count [] said print = refl
  all_count (line ∷ all) [] print = absurd print
  all_count (line ∷ all) (statement ∷ said) print =
      kept_lines line all (says_means file line statement print.0.1).0 ∙ ap (λ l. line ∷ l) (all_count all said print.1)

  all_say : (all : List (List ℕ)) (said : List Statement) → AllZip Prints all said → AllZip (Says file) all said
  all_say [] [] print = tt
  all_say [] (statement ∷ said) print = absurd print
  all_say (line ∷ all) [] print = absurd print
  all_say (line ∷ all) (statement ∷ said) print = (print.0.1, all_say all said print.1)

  -- there are few enough
  length-variables : (vs : List Variable) → list_all is_sized vs ≡ true → length (flat_map (variable_lines costs) vs) ≤ 65 * length vs
  length-variables [] sized = omega arith
  length-variables (v ∷ vs) sized =
      let two = and_parts (is_sized v) (list_all is_sized vs) sized in
      let few : length v.values ≤ 64 = leb-true (length v.values) 64 (and_parts (nat_le 1 (length v.values)) (nat_le (length v.values) 64) two.0).1 in
      let count = length-map v.values (value_line costs) in
      let whole = length-append (variable_lines costs v) (flat_map (variable_lines costs) vs) in
      omega (arith, length-variables vs two.1, few, count, whole)

  few_lines : length (printed_lines file) ≤ 8192
  few_lines =
      let rules = map (rule_line file.variables) file.rules ++ end_line ∷ [] in
      let vs = flat_map (variable_lines costs) file.variables in
      let a = length-append (map cost_line file.costs) (vs ++ rules) in
      let b = length-append vs rules in
      let c = length-append (map (rule_line file.variables) file.rules) (end_line ∷ []) in
      let d = length-map file.costs cost_line in
      let e = length-map file.rules (rule_line file.variables) in
      let f = length-variables file.variables (each_sized file.variables is.each_variable) in
      omega (arith, a, b, c, d, e, f, is.costs_at_most, is.variables_at_most, is.rules_at_most)

  pub printed_spells : Spells (printed file) file
  printed_spells =
      let same = lines_of_text (printed_lines file) (statements file) all_print in
      let count = ap (filter is_significant) same ∙ all_count (printed_lines file) (statements file) all_print in
      record {
        is_small = record {
          bytes_at_most = is.printable.bytes_at_most;
          lines_at_most = subst (λ (ls : List (List ℕ)). length ls ≤ 8192) (sym same) few_lines;
          each_line = subst (λ (ls : List (List ℕ)). list_all is_small_line ls ≡ true) (sym same) is.printable.each_line;
        };
        is_file = is;
        says = subst (λ (ls : List (List ℕ)). AllZip (Says file) ls (statements file)) (sym count) (all_say (printed_lines file) (statements file) all_print);
      }

-- no other file has it
pub printed_once : (first second : Contents) → IsFile first → IsFile second → has_names first ≡ true → has_names second ≡ true → printed first ≡ printed second → first ≡ second
printed_once first second is is' named named' same =
    spelled_once (printed second) first second (subst (λ (t : List ℕ). Spells t first) same (printed_spells first is named)) (printed_spells second is' named')

-- it is read without a fault, as that file
pub printed_is_read : (file : Contents) → IsFile file → has_names file ≡ true → (first_fault (printed file) ≡ None) × (contents_given (given_by (printed file)) ≡ file)
printed_is_read file is named = spelled_has_no_fault (printed file) file (printed_spells file is named)

-- what is written spells the file whose names were written
pub written_spells : (text : List ℕ) (file : Contents) → text ≡ printed file → IsFile file → has_names file ≡ true → Spells text file
written_spells text file same is named = subst (λ (t : List ℕ). Spells t file) (sym same) (printed_spells file is named)
