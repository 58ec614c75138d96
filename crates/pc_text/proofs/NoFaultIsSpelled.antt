-- A text without a fault spells the file that it gives.
use Rattle.std.proofs.Common.{◌≡◌, ℕ, ◌+◌, ◌≤◌, ◌==◌, Bool, true, false, not, ◌&&◌, List, [], ◌∷◌, ◌++◌, length, map, Option, Some, None, Result, Ok, Err, refl, sym, ap, subst, ◌∙◌, inl, inr, arith}
use Rattle.std.specs.Prelude.{codes, is_none}
use Rattle.std.specs.List.{AllZip, filter, flat_map}
use Rattle.std.specs.Option.{option_map, option_to_list}
use Rattle.std.proofs.lemmas.Bool.{cases_Bool, eqb-true, not-false}
use Rattle.std.proofs.lemmas.List.{append-nil, append_assoc, map-append}
use Rattle.std.proofs.lemmas.List.Concat.{flat_map-append}
use Rattle.pc_base.specs.Lines.{lines}
use Rattle.pc_base.proofs.DistinctLemmas.{both_true_parts}
use Rattle.pc_names.specs.Name.{is_name}
use Rattle.pc_names.proofs.Places.{name_eq-Decides}
use Rattle.pc_names.specs.Spelling.{same_spelling}
use Rattle.pc_file.specs.declared.rule.Rule.{Rule}
use Rattle.pc_file.specs.declared.variable.Value.{Value}
use Rattle.pc_file.specs.declared.variable.Variable.{Variable}
use Rattle.pc_file.specs.Limits.{Contents, IsFile, is_reserved}
use Rattle.pc_file.specs.PrintedForm.{rule_line, value_line}
use Rattle.pc_text.specs.declared.keyword.Keyword.{Keyword}
use Rattle.pc_text.specs.declared.keyword.Keyword.TheVariants as keyword
use Rattle.pc_rules.specs.declared.kind.Kind.{Kind}
use Rattle.pc_names.specs.LineWords.{after_word}
use Rattle.pc_text.specs.Given.{Given, nothing_given, variables_given, catalogue_of, is_skipped, keyword_at, arguments_at, argument, value_given, with_value, give_statement, contents_given, print_more}
use Rattle.pc_text.specs.Orders.{comes_wrong, print_fault}
use Rattle.pc_rules.specs.RuleText.{rule_of}
use Rattle.pc_text.specs.FirstFault.{line_fault, give_line, end_fault, given_from, first_fault, given_by}
use Rattle.pc_text.specs.Statement.{Statement, header, a_cost, a_variable, a_value, a_rule, end, Says, statements, variable_statements}
use Rattle.pc_text.specs.Spells.{Spells, is_significant, significant_lines}
use Rattle.pc_text.proofs.FaultLemmas.{given_from-nil, given_from-cons}
use Rattle.pc_text.proofs.Meanings.{Means, means_says}
use Rattle.pc_text.proofs.PrintedBytes.{statement_line, print_all, printed_so, without_fault}
use Rattle.pc_text.proofs.SoundText.{no_fault_is_file, no_fault_has_costs}
use Rattle.pc_text.proofs.SignificantLines.{Faultless, kept_fault, kept_give, skipped_give, kept_lines, skipped_lines, no_fault_parts}
use Rattle.pc_text.proofs.StatementFaults.{NoFault, no_fault_parts as statement_parts}
use Rattle.pc_text.proofs.ValueWords.{words_of_given}

-- the statements that were given so far

abbrev begun : Option Keyword → List Statement
begun None = []
begun (Some k) = header ∷ []

abbrev ended : Option Keyword → List Statement
ended (Some keyword.End) = end ∷ []
ended last = []

abbrev so_far : Given → List Statement
so_far given = begun given.last ++ map a_cost given.costs ++ flat_map variable_statements (variables_given given) ++ map a_rule given.rules ++ ended given.last

-- Of what comes later nothing is given yet.
abbrev InOrder : Option Keyword → Given → Type 0
InOrder None given = (given.costs ≡ []) × (given.closed ≡ []) × (given.open_variable ≡ None) × (given.rules ≡ [])
InOrder (Some keyword.Product) given = (given.closed ≡ []) × (given.open_variable ≡ None) × (given.rules ≡ [])
InOrder (Some keyword.Cost) given = (given.closed ≡ []) × (given.open_variable ≡ None) × (given.rules ≡ [])
InOrder (Some keyword.Variable) given = (variable : Variable) × (given.open_variable ≡ Some variable) × (given.rules ≡ [])
InOrder (Some keyword.Value) given = (variable : Variable) × (given.open_variable ≡ Some variable) × (given.rules ≡ [])
InOrder (Some keyword.Rule) given = Unit {0}
InOrder (Some keyword.End) given = Unit {0}

-- after this statement no cost can come, or no variable and no value
abbrev past_costs : Option Keyword → Bool
past_costs (Some keyword.Variable) = true
past_costs (Some keyword.Value) = true
past_costs (Some keyword.Rule) = true
past_costs (Some keyword.End) = true
past_costs last = false

abbrev past_variables : Option Keyword → Bool
past_variables (Some keyword.Rule) = true
past_variables (Some keyword.End) = true
past_variables last = false

-- What a statement without a fault does to what was given.
record Taken (given next : Given) (word : Option Keyword) (arguments : List (List ℕ)) (rule : Result Rule Kind) : Type 0 where
  statement : Statement
  in_order : InOrder next.last next
  grows : so_far next ≡ so_far given ++ statement ∷ []
  means : (costs : ℕ) → 1 ≤ costs → costs ≤ 2 → (past_costs next.last ≡ true → length next.costs ≡ costs) → Means costs word arguments rule statement
  rule_comes : word ≡ Some keyword.Rule → (past_variables next.last ≡ true) × (variables_given next ≡ variables_given given)
  costs_stay : past_costs given.last ≡ true → (past_costs next.last ≡ true) × (next.costs ≡ given.costs)
  variables_stay : past_variables given.last ≡ true → (past_variables next.last ≡ true) × (variables_given next ≡ variables_given given)
  prints : (costs : ℕ) (variables : List Variable) → (past_costs next.last ≡ true → length next.costs ≡ costs) → (past_variables next.last ≡ true → variables_given next ≡ variables) →
      next.printed ≡ print_more given.printed (statement_line costs variables statement)

-- which statements may be last before one of each kind

header_words : (last : Option Keyword) (right : Bool) → comes_wrong last (Some keyword.Product) ≡ false → (is_none last && not right) ≡ false → (last ≡ None) × (right ≡ true)
header_words None right comes heads = (refl, not-false right heads)
header_words (Some keyword.Product) right comes heads = absurd cc
header_words (Some keyword.Cost) right comes heads = absurd cc
header_words (Some keyword.Variable) right comes heads = absurd cc
header_words (Some keyword.Value) right comes heads = absurd cc
header_words (Some keyword.Rule) right comes heads = absurd cc
header_words (Some keyword.End) right comes heads = absurd cc

record Before (last : Option Keyword) : Type 0 where
  begun_is : begun last ≡ header ∷ []
  ended_is : ended last ≡ []

before_cost : (last : Option Keyword) (given : Given) → InOrder last given → is_none last ≡ false → comes_wrong last (Some keyword.Cost) ≡ false →
    Before last × (given.closed ≡ []) × (given.open_variable ≡ None) × (given.rules ≡ []) × (past_costs last ≡ false) × (past_variables last ≡ false)
before_cost None given order heads comes = absurd cc
before_cost (Some keyword.Product) given order heads comes = (record { begun_is = refl; ended_is = refl }, order.0, order.1, order.2, refl, refl)
before_cost (Some keyword.Cost) given order heads comes = (record { begun_is = refl; ended_is = refl }, order.0, order.1, order.2, refl, refl)
before_cost (Some keyword.Variable) given order heads comes = absurd cc
before_cost (Some keyword.Value) given order heads comes = absurd cc
before_cost (Some keyword.Rule) given order heads comes = absurd cc
before_cost (Some keyword.End) given order heads comes = absurd cc

before_variable : (last : Option Keyword) (given : Given) → InOrder last given → is_none last ≡ false → comes_wrong last (Some keyword.Variable) ≡ false →
    Before last × (given.rules ≡ []) × (past_variables last ≡ false)
before_variable None given order heads comes = absurd cc
before_variable (Some keyword.Product) given order heads comes = absurd cc
before_variable (Some keyword.Cost) given order heads comes = (record { begun_is = refl; ended_is = refl }, order.2, refl)
before_variable (Some keyword.Variable) given order heads comes = absurd cc
before_variable (Some keyword.Value) given order heads comes = (record { begun_is = refl; ended_is = refl }, order.2, refl)
before_variable (Some keyword.Rule) given order heads comes = absurd cc
before_variable (Some keyword.End) given order heads comes = absurd cc

before_value : (last : Option Keyword) (given : Given) → InOrder last given → is_none last ≡ false → comes_wrong last (Some keyword.Value) ≡ false →
    Before last × (given.rules ≡ []) × (past_variables last ≡ false) × ((variable : Variable) × (given.open_variable ≡ Some variable))
before_value None given order heads comes = absurd cc
before_value (Some keyword.Product) given order heads comes = absurd cc
before_value (Some keyword.Cost) given order heads comes = absurd cc
before_value (Some keyword.Variable) given order heads comes = (record { begun_is = refl; ended_is = refl }, order.2, refl, (order.0, order.1))
before_value (Some keyword.Value) given order heads comes = (record { begun_is = refl; ended_is = refl }, order.2, refl, (order.0, order.1))
before_value (Some keyword.Rule) given order heads comes = absurd cc
before_value (Some keyword.End) given order heads comes = absurd cc

before_rule : (last : Option Keyword) → is_none last ≡ false → comes_wrong last (Some keyword.Rule) ≡ false → Before last
before_rule None heads comes = absurd cc
before_rule (Some keyword.Product) heads comes = absurd cc
before_rule (Some keyword.Cost) heads comes = absurd cc
before_rule (Some keyword.Variable) heads comes = absurd cc
before_rule (Some keyword.Value) heads comes = record { begun_is = refl; ended_is = refl }
before_rule (Some keyword.Rule) heads comes = record { begun_is = refl; ended_is = refl }
before_rule (Some keyword.End) heads comes = absurd cc

before_end : (last : Option Keyword) → is_none last ≡ false → comes_wrong last (Some keyword.End) ≡ false → Before last
before_end None heads comes = absurd cc
before_end (Some keyword.Product) heads comes = absurd cc
before_end (Some keyword.Cost) heads comes = absurd cc
before_end (Some keyword.Variable) heads comes = absurd cc
before_end (Some keyword.Value) heads comes = record { begun_is = refl; ended_is = refl }
before_end (Some keyword.Rule) heads comes = record { begun_is = refl; ended_is = refl }
before_end (Some keyword.End) heads comes = absurd cc

no_word : (last : Option Keyword) → is_none last ≡ false → comes_wrong last None ≡ false → ⊥
no_word None heads comes = absurd cc
no_word (Some keyword.Product) heads comes = absurd cc
no_word (Some keyword.Cost) heads comes = absurd cc
no_word (Some keyword.Variable) heads comes = absurd cc
no_word (Some keyword.Value) heads comes = absurd cc
no_word (Some keyword.Rule) heads comes = absurd cc
no_word (Some keyword.End) heads comes = absurd cc

-- the statements so far, with one more

grows_header : (last : Option Keyword) (costs : List (List ℕ)) (closed : List Variable) (opened : Option Variable) (rules : List Rule) → last ≡ None → costs ≡ [] → closed ≡ [] → opened ≡ None → rules ≡ [] →
    (header ∷ []) ++ map a_cost costs ++ flat_map variable_statements (closed ++ option_to_list opened) ++ map a_rule rules ++ []
    ≡ (begun last ++ map a_cost costs ++ flat_map variable_statements (closed ++ option_to_list opened) ++ map a_rule rules ++ ended last) ++ header ∷ []
grows_header last costs closed opened rules l c v o r = rw (l, c, v, o, r) refl

-- one piece more of five, of which the later ones are empty
module _ (h a b c d e x : List Statement) (a_is : a ≡ h) (e_is : e ≡ []) where
  insert_second : c ≡ [] → d ≡ [] → h ++ (b ++ x) ++ c ++ d ++ [] ≡ (a ++ b ++ c ++ d ++ e) ++ x
  insert_second c_is d_is = rw (a_is, c_is, d_is, e_is) (simp (append-nil, append_assoc))

  insert_third : d ≡ [] → h ++ b ++ (c ++ x) ++ d ++ [] ≡ (a ++ b ++ c ++ d ++ e) ++ x
  insert_third d_is = rw (a_is, d_is, e_is) (simp (append-nil, append_assoc))

  insert_fourth : h ++ b ++ c ++ (d ++ x) ++ [] ≡ (a ++ b ++ c ++ d ++ e) ++ x
  insert_fourth = rw (a_is, e_is) (simp (append-nil, append_assoc))

  insert_fifth : h ++ b ++ c ++ d ++ x ≡ (a ++ b ++ c ++ d ++ e) ++ x
  insert_fifth = rw (a_is, e_is) (simp (append-nil, append_assoc))

abbrev all_of : List Variable → List Statement
all_of variables = flat_map variable_statements variables

none_of : (closed : List Variable) (opened : Option Variable) → closed ≡ [] → opened ≡ None → all_of (closed ++ option_to_list opened) ≡ []
none_of closed opened v o = rw (v, o) refl

no_rules : (rules : List Rule) → rules ≡ [] → map a_rule rules ≡ []
no_rules rules r = ap (map a_rule) r

value_more : (closed : List Variable) (variable : Variable) (value : Value) → all_of (closed ++ with_value value variable ∷ []) ≡ all_of (closed ++ variable ∷ []) ++ a_value value ∷ []
value_more closed variable value =
    let x : List Statement = a_value value ∷ [] in
    let inner : variable_statements (with_value value variable) ++ [] ≡ (variable_statements variable ++ []) ++ x =
    append-nil (variable_statements (with_value value variable)) ∙ ap (λ l. a_variable variable.name ∷ l) (map-append a_value variable.values (value ∷ [])) ∙ sym (ap (λ l. l ++ x) (append-nil (variable_statements variable))) in
    flat_map-append variable_statements closed (with_value value variable ∷ []) ∙ ap (λ l. all_of closed ++ l) inner ∙ sym (append_assoc (all_of closed) (variable_statements variable ++ []) x)
    ∙ sym (ap (λ l. l ++ x) (flat_map-append variable_statements closed (variable ∷ [])))

module _ (last : Option Keyword) (before : Before last) where
  grows_cost : (costs : List (List ℕ)) (name : List ℕ) (closed : List Variable) (opened : Option Variable) (rules : List Rule) → closed ≡ [] → opened ≡ None → rules ≡ [] →
      (header ∷ []) ++ map a_cost (costs ++ name ∷ []) ++ all_of (closed ++ option_to_list opened) ++ map a_rule rules ++ []
      ≡ (begun last ++ map a_cost costs ++ all_of (closed ++ option_to_list opened) ++ map a_rule rules ++ ended last) ++ a_cost name ∷ []
  grows_cost costs name closed opened rules v o r =
      ap (λ l. (header ∷ []) ++ l ++ all_of (closed ++ option_to_list opened) ++ map a_rule rules ++ []) (map-append a_cost costs (name ∷ []))
      ∙ insert_second (header ∷ []) (begun last) (map a_cost costs) (all_of (closed ++ option_to_list opened)) (map a_rule rules) (ended last) (a_cost name ∷ []) before.begun_is before.ended_is (none_of closed opened v o) (no_rules rules r)

  grows_variable : (costs : List Statement) (variables : List Variable) (name : List ℕ) (rules : List Rule) → rules ≡ [] →
      (header ∷ []) ++ costs ++ all_of (variables ++ record { name = name; values = [] } ∷ []) ++ map a_rule rules ++ []
      ≡ (begun last ++ costs ++ all_of variables ++ map a_rule rules ++ ended last) ++ a_variable name ∷ []
  grows_variable costs variables name rules r =
      ap (λ l. (header ∷ []) ++ costs ++ l ++ map a_rule rules ++ []) (flat_map-append variable_statements variables (record { name = name; values = [] } ∷ []))
      ∙ insert_third (header ∷ []) (begun last) costs (all_of variables) (map a_rule rules) (ended last) (a_variable name ∷ []) before.begun_is before.ended_is (no_rules rules r)

  grows_value : (costs : List Statement) (closed : List Variable) (opened : Option Variable) (variable : Variable) (value : Value) (rules : List Rule) → opened ≡ Some variable → rules ≡ [] →
      (header ∷ []) ++ costs ++ all_of (closed ++ option_to_list (option_map (with_value value) opened)) ++ map a_rule rules ++ []
      ≡ (begun last ++ costs ++ all_of (closed ++ option_to_list opened) ++ map a_rule rules ++ ended last) ++ a_value value ∷ []
  grows_value costs closed opened variable value rules o r =
      let more : all_of (closed ++ option_to_list (option_map (with_value value) opened)) ≡ all_of (closed ++ option_to_list opened) ++ a_value value ∷ [] = rw o (value_more closed variable value) in
      ap (λ l. (header ∷ []) ++ costs ++ l ++ map a_rule rules ++ []) more
      ∙ insert_third (header ∷ []) (begun last) costs (all_of (closed ++ option_to_list opened)) (map a_rule rules) (ended last) (a_value value ∷ []) before.begun_is before.ended_is (no_rules rules r)

  grows_rule : (costs : List Statement) (variables : List Variable) (rules : List Rule) (rule : Rule) →
      (header ∷ []) ++ costs ++ all_of (variables ++ []) ++ map a_rule (rules ++ rule ∷ []) ++ []
      ≡ (begun last ++ costs ++ all_of variables ++ map a_rule rules ++ ended last) ++ a_rule rule ∷ []
  grows_rule costs variables rules rule =
      ap (λ vs. (header ∷ []) ++ costs ++ all_of vs ++ map a_rule (rules ++ rule ∷ []) ++ []) (append-nil variables)
      ∙ ap (λ l. (header ∷ []) ++ costs ++ all_of variables ++ l ++ []) (map-append a_rule rules (rule ∷ []))
      ∙ insert_fourth (header ∷ []) (begun last) costs (all_of variables) (map a_rule rules) (ended last) (a_rule rule ∷ []) before.begun_is before.ended_is

  grows_end : (costs : List Statement) (variables : List Variable) (rules : List Statement) →
      (header ∷ []) ++ costs ++ all_of (variables ++ []) ++ rules ++ end ∷ []
      ≡ (begun last ++ costs ++ all_of variables ++ rules ++ ended last) ++ end ∷ []
  grows_end costs variables rules =
      ap (λ vs. (header ∷ []) ++ costs ++ all_of vs ++ rules ++ end ∷ []) (append-nil variables)
      ∙ insert_fifth (header ∷ []) (begun last) costs (all_of variables) rules (ended last) (end ∷ []) before.begun_is before.ended_is

-- one statement

one_argument : (arguments : List (List ℕ)) → (length arguments == 1) ≡ true → arguments ≡ argument arguments 0 ∷ []
one_argument [] one = absurd (omega (arith, eqb-true 0 1 one))
one_argument (a ∷ []) one = refl
one_argument (a ∷ b ∷ later) one = absurd (omega (arith, eqb-true (length (a ∷ b ∷ later)) 1 one))

no_argument : (arguments : List (List ℕ)) → (length arguments == 0) ≡ true → arguments ≡ []
no_argument [] none = refl
no_argument (a ∷ later) none = absurd (omega (arith, eqb-true (length (a ∷ later)) 0 none))

true_and_false : {P : Type 0} (b : Bool) → b ≡ false → b ≡ true → P
true_and_false b f t = absurd cc

taken_header : (given : Given) (arguments : List (List ℕ)) (rule : Result Rule Kind) → InOrder given.last given → NoFault given (Some keyword.Product) arguments rule →
    Taken given (give_statement given (Some keyword.Product) arguments rule) (Some keyword.Product) arguments rule
taken_header given arguments rule order none =
    let words = header_words given.last ((length arguments == 1) && same_spelling (argument arguments 0) (codes "1")) none.comes none.heads in
    let parts = both_true_parts (length arguments == 1) (same_spelling (argument arguments 0) (codes "1")) words.1 in
    let empty = subst (λ l. InOrder l given) words.0 order in
    record {
      statement = header;
      in_order = (empty.1, empty.2, empty.3);
      grows = grows_header given.last given.costs given.closed given.open_variable given.rules words.0 empty.0 empty.1 empty.2 empty.3;
      means = λ costs low high same. (refl, one_argument arguments parts.0 ∙ ap (λ w. w ∷ []) ((name_eq-Decides (argument arguments 0) (codes "1")).0 parts.1));
      rule_comes = λ is. absurd cc;
      costs_stay = λ past. true_and_false (past_costs given.last) (ap past_costs words.0) past;
      variables_stay = λ past. true_and_false (past_variables given.last) (ap past_variables words.0) past;
      prints = λ costs variables same same_variables. refl;
    }

taken_cost : (given : Given) (arguments : List (List ℕ)) (rule : Result Rule Kind) → InOrder given.last given → NoFault given (Some keyword.Cost) arguments rule →
    Taken given (give_statement given (Some keyword.Cost) arguments rule) (Some keyword.Cost) arguments rule
taken_cost given arguments rule order none =
    let before = before_cost given.last given order none.heads none.comes in
    let parts = both_true_parts (length arguments == 1) (is_name (argument arguments 0)) (not-false _ none.formed) in
    record {
      statement = a_cost (argument arguments 0);
      in_order = (before.1, before.2, before.3);
      grows = grows_cost given.last before.0 given.costs (argument arguments 0) given.closed given.open_variable given.rules before.1 before.2 before.3;
      means = λ costs low high same. (refl, one_argument arguments parts.0, parts.1);
      rule_comes = λ is. absurd cc;
      costs_stay = λ past. true_and_false (past_costs given.last) before.4 past;
      variables_stay = λ past. true_and_false (past_variables given.last) before.5 past;
      prints = λ costs variables same same_variables. refl;
    }

taken_variable : (given : Given) (arguments : List (List ℕ)) (rule : Result Rule Kind) → InOrder given.last given → NoFault given (Some keyword.Variable) arguments rule →
    Taken given (give_statement given (Some keyword.Variable) arguments rule) (Some keyword.Variable) arguments rule
taken_variable given arguments rule order none =
    let before = before_variable given.last given order none.heads none.comes in
    let name = argument arguments 0 in
    let formed = both_true_parts ((length arguments == 1) && is_name name) (not (is_reserved name)) (not-false _ none.formed) in
    let parts = both_true_parts (length arguments == 1) (is_name name) formed.0 in
    record {
      statement = a_variable name;
      in_order = (record { name = name; values = [] }, refl, before.1);
      grows = grows_variable given.last before.0 (map a_cost given.costs) (variables_given given) name given.rules before.1;
      means = λ costs low high same. (refl, one_argument arguments parts.0, parts.1);
      rule_comes = λ is. absurd cc;
      costs_stay = λ past. (refl, refl);
      variables_stay = λ past. true_and_false (past_variables given.last) before.2 past;
      prints = λ costs variables same same_variables. refl;
    }

taken_value : (given : Given) (arguments : List (List ℕ)) (rule : Result Rule Kind) → InOrder given.last given → NoFault given (Some keyword.Value) arguments rule →
    Taken given (give_statement given (Some keyword.Value) arguments rule) (Some keyword.Value) arguments rule
taken_value given arguments rule order none =
    let before = before_value given.last given order none.heads none.comes in
    let formed = both_true_parts (length arguments == length given.costs + 1) (is_name (argument arguments 0)) (not-false _ none.formed) in
    let value = value_given arguments in
    record {
      statement = a_value value;
      in_order = (with_value value before.3.0, ap (option_map (with_value value)) before.3.1, before.1);
      grows = grows_value given.last before.0 (map a_cost given.costs) given.closed given.open_variable before.3.0 value given.rules before.3.1 before.1;
      means = λ costs low high same.
          let count : (length arguments == costs + 1) ≡ true = ap (λ n. length arguments == n + 1) (sym (same refl)) ∙ formed.0 in
          (refl, words_of_given costs low high arguments count (not-false _ none.numbers), formed.1);
      rule_comes = λ is. absurd cc;
      costs_stay = λ past. (refl, refl);
      variables_stay = λ past. true_and_false (past_variables given.last) before.2 past;
      prints = λ costs variables same same_variables. ap (λ n. print_more given.printed (value_line n value)) (same refl);
    }

taken_rule : (given : Given) (arguments : List (List ℕ)) (rule : Result Rule Kind) → InOrder given.last given → NoFault given (Some keyword.Rule) arguments rule →
    Taken given (give_statement given (Some keyword.Rule) arguments rule) (Some keyword.Rule) arguments rule
taken_rule given arguments (Err kind) order none = let reads = none.reads in absurd cc
taken_rule given arguments (Ok rule) order none =
    let before = before_rule given.last none.heads none.comes in
    record {
      statement = a_rule rule;
      in_order = tt;
      grows = grows_rule given.last before (map a_cost given.costs) (variables_given given) given.rules rule;
      means = λ costs low high same. (refl, refl);
      rule_comes = λ is. (refl, append-nil (variables_given given));
      costs_stay = λ past. (refl, refl);
      variables_stay = λ past. (refl, append-nil (variables_given given));
      prints = λ costs variables same same_variables. ap (λ vs. print_more given.printed (rule_line vs rule)) (sym (append-nil (variables_given given)) ∙ same_variables refl);
    }

taken_end : (given : Given) (arguments : List (List ℕ)) (rule : Result Rule Kind) → InOrder given.last given → NoFault given (Some keyword.End) arguments rule →
    Taken given (give_statement given (Some keyword.End) arguments rule) (Some keyword.End) arguments rule
taken_end given arguments rule order none =
    let before = before_end given.last none.heads none.comes in
    record {
      statement = end;
      in_order = tt;
      grows = grows_end given.last before (map a_cost given.costs) (variables_given given) (map a_rule given.rules);
      means = λ costs low high same. (refl, no_argument arguments (not-false _ none.formed));
      rule_comes = λ is. absurd cc;
      costs_stay = λ past. (refl, refl);
      variables_stay = λ past. (refl, append-nil (variables_given given));
      prints = λ costs variables same same_variables. refl;
    }

taken : (given : Given) (word : Option Keyword) (arguments : List (List ℕ)) (rule : Result Rule Kind) → InOrder given.last given → NoFault given word arguments rule →
    Taken given (give_statement given word arguments rule) word arguments rule
taken given None arguments rule order none = absurd (no_word given.last none.heads none.comes)
taken given (Some keyword.Product) arguments rule order none = taken_header given arguments rule order none
taken given (Some keyword.Cost) arguments rule order none = taken_cost given arguments rule order none
taken given (Some keyword.Variable) arguments rule order none = taken_variable given arguments rule order none
taken given (Some keyword.Value) arguments rule order none = taken_value given arguments rule order none
taken given (Some keyword.Rule) arguments rule order none = taken_rule given arguments rule order none
taken given (Some keyword.End) arguments rule order none = taken_end given arguments rule order none

-- lines

abbrev rule_at : List Variable → List ℕ → Result Rule Kind
rule_at variables line = rule_of (catalogue_of variables) (after_word line)

abbrev TakenHere : Given → List ℕ → Type 0
TakenHere given line = Taken given (give_line given line) (keyword_at line) (arguments_at line) (rule_at (variables_given given) line)

taken_line : (given : Given) (line : List ℕ) → InOrder given.last given → is_skipped line ≡ false → line_fault given line ≡ None → TakenHere given line
taken_line given line order counts none =
    let rule = rule_at (variables_given given) line in
    let parts = statement_parts given (keyword_at line) (arguments_at line) rule (sym (kept_fault given line counts) ∙ none) in
    subst (λ next. Taken given next (keyword_at line) (arguments_at line) rule) (sym (kept_give given line counts)) (taken given (keyword_at line) (arguments_at line) rule order parts)

-- the lines after it don't change the costs, or the variables

costs_stay : (given : Given) (all : List (List ℕ)) → InOrder given.last given → Faultless given all → past_costs given.last ≡ true → (given_from given all).costs ≡ given.costs
costs_stay given [] order none past = ap (λ (g : Given). g.costs) (given_from-nil given)
costs_stay given (line ∷ later) order none past =
    ap (λ (g : Given). g.costs) (given_from-cons given line later) ∙ elim (cases_Bool (is_skipped line)) [
      | inl is ↦
          let same = skipped_give given line is in
          ap (λ g. (given_from g later).costs) same ∙ costs_stay given later order (subst (λ g. Faultless g later) same none.1) past
      | inr is ↦
          let t = taken_line given line order is none.0 in
          let stays = t.costs_stay past in
          costs_stay (give_line given line) later t.in_order none.1 stays.0 ∙ stays.1
    ]

variables_stay : (given : Given) (all : List (List ℕ)) → InOrder given.last given → Faultless given all → past_variables given.last ≡ true → variables_given (given_from given all) ≡ variables_given given
variables_stay given [] order none past = ap variables_given (given_from-nil given)
variables_stay given (line ∷ later) order none past =
    ap variables_given (given_from-cons given line later) ∙ elim (cases_Bool (is_skipped line)) [
      | inl is ↦
          let same = skipped_give given line is in
          ap (λ g. variables_given (given_from g later)) same ∙ variables_stay given later order (subst (λ g. Faultless g later) same none.1) past
      | inr is ↦
          let t = taken_line given line order is none.0 in
          let stays = t.variables_stay past in
          variables_stay (give_line given line) later t.in_order none.1 stays.0 ∙ stays.1
    ]

-- where a rule is said, it is the one that is read over the names of the whole file
means_over : (costs : ℕ) (word : Option Keyword) (arguments : List (List ℕ)) (read read' : Result Rule Kind) → (word ≡ Some keyword.Rule → read' ≡ read) → (statement : Statement) →
    Means costs word arguments read statement → Means costs word arguments read' statement
means_over costs word arguments read read' same header m = m
means_over costs word arguments read read' same (a_cost name) m = m
means_over costs word arguments read read' same (a_variable name) m = m
means_over costs word arguments read read' same (a_value value) m = m
means_over costs word arguments read read' same (a_rule rule) m = (m.0, same m.0 ∙ m.1)
means_over costs word arguments read read' same end m = m

-- lines without a fault say some statements of the file that they give, which come after those so far
abbrev SaysRest : Contents → List (List ℕ) → Given → Given → Type 0
SaysRest file all given last =
    (rest : List Statement) × AllZip (Says file) (filter is_significant all) rest × (so_far given ++ rest ≡ so_far last)
    × (print_all given.printed (map (statement_line (length file.costs) file.variables) rest) ≡ last.printed)

says_rest : (given : Given) (all : List (List ℕ)) (last : Given) → given_from given all ≡ last → 1 ≤ length last.costs → length last.costs ≤ 2 → InOrder given.last given → Faultless given all →
    SaysRest (contents_given last) all given last
says_rest given [] last ends low high order none =
    ([], tt, append-nil (so_far given) ∙ ap so_far (sym (given_from-nil given) ∙ ends), ap (λ (g : Given). g.printed) (sym (given_from-nil given) ∙ ends))
says_rest given (line ∷ later) last ends low high order none =
    let ends_later : given_from (give_line given line) later ≡ last = sym (given_from-cons given line later) ∙ ends in
    elim (cases_Bool (is_skipped line)) [
      | inl is ↦
          let same = skipped_give given line is in
          let rest = says_rest given later last (ap (λ g. given_from g later) (sym same) ∙ ends_later) low high order (subst (λ g. Faultless g later) same none.1) in
          (rest.0, subst (λ ls. AllZip (Says (contents_given last)) ls rest.0) (sym (skipped_lines line later is)) rest.1, rest.2, rest.3)
      | inr is ↦
          let file = contents_given last in
          let next = give_line given line in
          let t = taken_line given line order is none.0 in
          let rest = says_rest next later last ends_later low high t.in_order none.1 in
          let costs = length last.costs in
          let costs_are : past_costs next.last ≡ true → length next.costs ≡ costs = λ past. ap length (sym (costs_stay next later t.in_order none.1 past) ∙ ap (λ (g : Given). g.costs) ends_later) in
          let variables_are : past_variables next.last ≡ true → variables_given next ≡ file.variables = λ past. sym (variables_stay next later t.in_order none.1 past) ∙ ap variables_given ends_later in
          let lines = map (statement_line costs file.variables) rest.0 in
          let printed = ap (λ p. print_all p lines) (sym (t.prints costs file.variables costs_are variables_are)) ∙ rest.3 in
          let read = rule_at (variables_given given) line in
          let read' = rule_at file.variables line in
          let reads : keyword_at line ≡ Some keyword.Rule → read' ≡ read = λ rule.
          ap (λ vs. rule_at vs line) (sym (ap variables_given ends_later) ∙ variables_stay next later t.in_order none.1 (t.rule_comes rule).0 ∙ (t.rule_comes rule).1) in
          let means = means_over costs (keyword_at line) (arguments_at line) read read' reads t.statement (t.means costs low high costs_are) in
          let says = means_says file line t.statement is means in
          let grown = sym (append_assoc (so_far given) (t.statement ∷ []) rest.0) ∙ ap (λ l. l ++ rest.0) (sym t.grows) ∙ rest.2 in
          (t.statement ∷ rest.0, subst (λ ls. AllZip (Says file) ls (t.statement ∷ rest.0)) (sym (kept_lines line later is)) (says, rest.1), grown, printed)
    ]

-- the last statement is `end`

last_end : (last : Option Keyword) → end_fault last ≡ None → last ≡ Some keyword.End
last_end None e = absurd cc
last_end (Some keyword.Product) e = absurd cc
last_end (Some keyword.Cost) e = absurd cc
last_end (Some keyword.Variable) e = absurd cc
last_end (Some keyword.Value) e = absurd cc
last_end (Some keyword.Rule) e = absurd cc
last_end (Some keyword.End) e = refl

ends : (given : Given) (all : List (List ℕ)) → Faultless given all → end_fault (given_from given all).last ≡ None
ends given [] none = ap (λ (g : Given). end_fault g.last) (given_from-nil given) ∙ none
ends given (line ∷ later) none = ap (λ (g : Given). end_fault g.last) (given_from-cons given line later) ∙ ends (give_line given line) later none.1

regroup : (a b c d e : List Statement) → a ++ b ++ c ++ d ++ e ≡ a ++ b ++ (c ++ (d ++ e))
regroup a b c d e = simp append_assoc

so_far-end : (given : Given) → given.last ≡ Some keyword.End → so_far given ≡ statements (contents_given given)
so_far-end given is =
    let costs = map a_cost given.costs in
    let variables = all_of (variables_given given) in
    let rules = map a_rule given.rules in
    ap (λ l. begun l ++ costs ++ variables ++ rules ++ ended l) is ∙ regroup (header ∷ []) costs variables rules (end ∷ [])

-- the limits of the printed form are kept to the end

printed_line : (given : Given) (line : List ℕ) → print_fault given.printed ≡ None → line_fault given line ≡ None → print_fault (give_line given line).printed ≡ None
printed_line given line printed none =
    elim (cases_Bool (is_skipped line)) [
      | inl is ↦ ap (λ (g : Given). print_fault g.printed) (skipped_give given line is) ∙ printed
      | inr is ↦
          let parts = statement_parts given (keyword_at line) (arguments_at line) (rule_at (variables_given given) line) (sym (kept_fault given line is) ∙ none) in
          ap (λ (g : Given). print_fault g.printed) (kept_give given line is) ∙ parts.prints
    ]

printed_to_end : (given : Given) (all : List (List ℕ)) → print_fault given.printed ≡ None → Faultless given all → print_fault (given_from given all).printed ≡ None
printed_to_end given [] printed none = ap (λ (g : Given). print_fault g.printed) (given_from-nil given) ∙ printed
printed_to_end given (line ∷ later) printed none =
    ap (λ (g : Given). print_fault g.printed) (given_from-cons given line later) ∙ printed_to_end (give_line given line) later (printed_line given line printed none.0) none.1

pub no_fault_is_spelled : (text : List ℕ) → first_fault text ≡ None → Spells text (contents_given (given_by text))
no_fault_is_spelled text none =
    let parts = no_fault_parts text none in
    let last = given_by text in
    let file = contents_given last in
    let costs = no_fault_has_costs text none in
    let rest = says_rest nothing_given (lines text) last refl costs.0 costs.1 (refl, refl, refl, refl) parts.1 in
    let whole : rest.0 ≡ statements file = rest.2 ∙ so_far-end last (last_end last.last (ends nothing_given (lines text) parts.1)) in
    let counted = without_fault last.printed (printed_to_end nothing_given (lines text) refl parts.1) in
    let printed = ap (λ ss. print_all (Some 0) (map (statement_line (length file.costs) file.variables) ss)) (sym whole) ∙ rest.3 ∙ counted.1 in
    let is : IsFile file = no_fault_is_file text none (printed_so file counted.0 printed) in
    record { is_small = parts.0; is_file = is; says = subst (AllZip (Says file) (significant_lines text)) whole rest.1 }
