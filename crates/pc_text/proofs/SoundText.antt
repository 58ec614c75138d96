-- A text without a fault gives a file that keeps all limits.
use Rattle.std.proofs.Common.{◌≡◌, ℕ, ℤ, pos, ◌+◌, ◌<◌, ◌≤◌, Bool, true, false, not, ◌&&◌, ◌==◌, cond, nat_le, List, [], ◌∷◌, ◌++◌, length, map, drop, min, Option, Some, None, Result, Ok, Err, refl, sym, ap, subst, ◌∙◌, arith, length-append}
use Rattle.std.specs.Prelude.{is_none, option_map}
use Rattle.std.specs.Fmt.{digits}
use Rattle.std.specs.List.{list_all, list_any}
use Rattle.std.specs.Option.{option_to_list, unwrap_or, option_or}
use Rattle.std.proofs.lemmas.Bool.{and_from, not-false, not-true}
use Rattle.std.proofs.lemmas.Bool.Decides.{nat_tests}
use Rattle.std.proofs.lemmas.List.{append-nil, length-map}
use Rattle.std.proofs.lemmas.List.Folds.{list_all-append}
use Rattle.pc_base.specs.Distinct.{all_differ}
use Rattle.pc_base.specs.Lines.{lines}
use Rattle.pc_base.proofs.DistinctLemmas.{both_true_parts, all_differ-push}
use Rattle.pc_names.specs.Number.{int_of}
use Rattle.pc_names.specs.Name.{is_name}
use Rattle.pc_file.specs.declared.rule.Rule.{Rule}
use Rattle.pc_file.specs.declared.variable.Value.{Value}
use Rattle.pc_file.specs.declared.variable.Variable.{Variable}
use Rattle.pc_file.specs.Limits.{IsFile, is_cost, is_reserved, is_value, is_sized, is_variable, value_names, variable_names, values_differ, names_differ, is_rule}
use Rattle.pc_file.specs.PrintedSize.{IsPrintable}
use Rattle.pc_names.specs.Spelling.{same_spelling}
use Rattle.pc_names.proofs.NamesLemmas.{same_spelling-symmetric}
use Rattle.pc_text.specs.declared.keyword.Keyword.{Keyword}
use Rattle.pc_text.specs.declared.keyword.Keyword.TheVariants as keyword
use Rattle.pc_rules.specs.declared.kind.Kind.{Kind}
use Rattle.pc_names.specs.LineWords.{after_word}
use Rattle.pc_text.specs.Given.{Given, nothing_given, variables_given, contents_given, catalogue_of, is_skipped, keyword_at, arguments_at, argument, value_given, with_value, give, give_rule, give_statement}
use Rattle.pc_text.specs.Orders.{first_standing, is_wrong_header, comes_wrong, is_malformed, keeps_range, is_cost_text, has_wrong_number, is_one_too_many, is_repeated, orders, rule_fault, fault_of_rule, print_fault, statement_fault}
use Rattle.pc_text.specs.FirstFault.{is_large, size_fault, line_fault, give_line, end_fault, at, fault_from, given_from, first_fault, given_by}
use Rattle.pc_rules.specs.RuleText.{rule_of}
use Rattle.pc_rules.proofs.RuleRead.{rule_of-read, rule_fits}
use Rattle.pc_text.proofs.StatementFaults.{neither_parts}

-- ---- what lines without a fault have given

-- no variable yet
record Begun (given : Given) : Type 0 where
  closed : given.closed ≡ []
  open_variable : given.open_variable ≡ None
  rules : given.rules ≡ []

-- the values of a variable are being given: so many at least
record Opened (least : ℕ) (given : Given) : Type 0 where
  some_cost : 1 ≤ length given.costs
  closed : list_all (is_variable (length given.costs)) given.closed ≡ true
  variable : Variable
  is : given.open_variable ≡ Some variable
  free : is_reserved variable.name ≡ false
  at_least : least ≤ length variable.values
  at_most : length variable.values ≤ 64
  each_value : list_all (is_value (length given.costs)) variable.values ≡ true
  rules : given.rules ≡ []

-- all variables are given
record Complete (given : Given) : Type 0 where
  some_cost : 1 ≤ length given.costs
  some_variable : 1 ≤ length given.closed
  closed : list_all (is_variable (length given.costs)) given.closed ≡ true
  open_variable : given.open_variable ≡ None

-- how far the statements have come, by the last
abbrev Stage : Given → Option Keyword → Type 0
Stage given None = Begun given
Stage given (Some keyword.Product) = Begun given
Stage given (Some keyword.Cost) = (1 ≤ length given.costs) × Begun given
Stage given (Some keyword.Variable) = Opened 0 given
Stage given (Some keyword.Value) = Opened 1 given
Stage given (Some keyword.Rule) = Complete given
Stage given (Some keyword.End) = Complete given

record Sound (given : Given) : Type 0 where
  costs_at_most : length given.costs ≤ 2
  costs_differ : all_differ same_spelling given.costs ≡ true
  variables_at_most : length (variables_given given) ≤ 64
  names : names_differ (variables_given given) ≡ true
  rules_at_most : length given.rules ≤ 1024
  each_rule : list_all (is_rule (variables_given given)) given.rules ≡ true
  stage : Stage given given.last

nothing_sound : Sound nothing_given
nothing_sound = record {
  costs_at_most = omega arith;
  costs_differ = refl;
  variables_at_most = omega arith;
  names = refl;
  rules_at_most = omega arith;
  each_rule = refl;
  stage = record { closed = refl; open_variable = refl; rules = refl };
}

-- ---- tests

standing_parts : (fault : Bool) (kind : Kind) (later : Option Kind) → cond fault (Some kind) later ≡ None → (fault ≡ false) × (later ≡ None)
standing_parts true kind later h = absurd cc
standing_parts false kind later h = (refl, h)

-- nothing is wrong with a statement
record Allowed (given : Given) (word : Option Keyword) (arguments : List (List ℕ)) : Type 0 where
  header : is_wrong_header given word arguments ≡ false
  comes : comes_wrong given.last word ≡ false
  form : is_malformed given word arguments ≡ false
  numbers : has_wrong_number word arguments ≡ false
  few : is_one_too_many given word ≡ false
  new : is_repeated given word arguments ≡ false

allowed : (given : Given) (word : Option Keyword) (arguments : List (List ℕ)) → first_standing (orders given word arguments) ≡ None → Allowed given word arguments
allowed given word arguments h =
    let a = standing_parts (is_wrong_header given word arguments) _ _ h in
    let b = standing_parts (comes_wrong given.last word) _ _ a.1 in
    let c = standing_parts (is_malformed given word arguments) _ _ b.1 in
    let d = standing_parts (has_wrong_number word arguments) _ _ c.1 in
    let e = standing_parts (is_one_too_many given word) _ _ d.1 in
    let f = standing_parts (is_repeated given word arguments) _ _ e.1 in
    record { header = a.0; comes = b.0; form = c.0; numbers = d.0; few = e.0; new = f.0 }

-- ---- one more at the end of a list

all-push : {X : Type 0} (p : X → Bool) (xs : List X) (x : X) → list_all p xs ≡ true → p x ≡ true → list_all p (xs ++ x ∷ []) ≡ true
all-push p xs x all one = rw (list_all-append p xs (x ∷ []), all, one) refl

length-push : {X : Type 0} (xs : List X) (x : X) → length (xs ++ x ∷ []) ≡ length xs + 1
length-push xs x = length-append xs (x ∷ [])

map-push : {X Y : Type 0} (f : X → Y) (xs : List X) (x : X) → map f (xs ++ x ∷ []) ≡ map f xs ++ f x ∷ []
map-push f [] x = refl
map-push f (y ∷ xs) x = ap (λ ys. f y ∷ ys) (map-push f xs x)

-- names and values that differ with one variable more, without values
names_differ-push : (variables : List Variable) (variable : Variable) → names_differ variables ≡ true → list_any (same_spelling variable.name) (variable_names variables) ≡ false → values_differ variable ≡ true →
    names_differ (variables ++ variable ∷ []) ≡ true
names_differ-push variables variable differ new values =
    let parts = both_true_parts (all_differ same_spelling (variable_names variables)) (list_all values_differ variables) differ in
    and_from _ _
    (ap (all_differ same_spelling) (map-push (λ v. v.name) variables variable) ∙ all_differ-push same_spelling same_spelling-symmetric (variable_names variables) variable.name parts.0 new)
    (all-push values_differ variables variable parts.1 values)

-- and with one value more of the last variable
names_differ-value : (variables : List Variable) (variable : Variable) (value : Value) → names_differ (variables ++ variable ∷ []) ≡ true → list_any (same_spelling value.name) (value_names variable) ≡ false →
    names_differ (variables ++ with_value value variable ∷ []) ≡ true
names_differ-value variables variable value differ new =
    let parts = both_true_parts (all_differ same_spelling (variable_names (variables ++ variable ∷ []))) (list_all values_differ (variables ++ variable ∷ [])) differ in
    let each = both_true_parts (list_all values_differ variables) (values_differ variable && true) (sym (list_all-append values_differ variables (variable ∷ [])) ∙ parts.1) in
    let last = both_true_parts (values_differ variable) true each.1 in
    let names : variable_names (variables ++ with_value value variable ∷ []) ≡ variable_names (variables ++ variable ∷ []) = map-push (λ v. v.name) variables (with_value value variable) ∙ sym (map-push (λ v. v.name) variables variable) in
    let values : values_differ (with_value value variable) ≡ true =
    ap (all_differ same_spelling) (map-push (λ v. v.name) variable.values value) ∙ all_differ-push same_spelling same_spelling-symmetric (value_names variable) value.name last.0 new in
    and_from _ _ (ap (all_differ same_spelling) names ∙ parts.0) (all-push values_differ variables (with_value value variable) each.0 values)

-- ---- which statement came before

before_product : (given : Given) (last : Option Keyword) → Stage given last → comes_wrong last (Some keyword.Product) ≡ false → Begun given
before_product given None stage comes = stage
before_product given (Some keyword.Product) stage comes = absurd cc
before_product given (Some keyword.Cost) stage comes = absurd cc
before_product given (Some keyword.Variable) stage comes = absurd cc
before_product given (Some keyword.Value) stage comes = absurd cc
before_product given (Some keyword.Rule) stage comes = absurd cc
before_product given (Some keyword.End) stage comes = absurd cc

before_cost : (given : Given) (last : Option Keyword) → Stage given last → is_none last ≡ false → comes_wrong last (Some keyword.Cost) ≡ false → Begun given
before_cost given None stage some comes = absurd cc
before_cost given (Some keyword.Product) stage some comes = stage
before_cost given (Some keyword.Cost) stage some comes = stage.1
before_cost given (Some keyword.Variable) stage some comes = absurd cc
before_cost given (Some keyword.Value) stage some comes = absurd cc
before_cost given (Some keyword.Rule) stage some comes = absurd cc
before_cost given (Some keyword.End) stage some comes = absurd cc

-- all variables so far have their values, and there is no rule
record Ready (given : Given) : Type 0 where
  some_cost : 1 ≤ length given.costs
  each_variable : list_all (is_variable (length given.costs)) (variables_given given) ≡ true

begun_ready : (given : Given) → 1 ≤ length given.costs → Begun given → Ready given
begun_ready given some begun = record { some_cost = some; each_variable = rw (begun.closed, begun.open_variable) refl }

sized : (variable : Variable) → 1 ≤ length variable.values → length variable.values ≤ 64 → is_sized variable ≡ true
sized variable some most = grind (arith, nat_tests)

opened_ready : (given : Given) → Opened 1 given → Ready given
opened_ready given o =
    let one : is_variable (length given.costs) o.variable ≡ true = rw (o.free, sized o.variable o.at_least o.at_most, o.each_value) refl in
    record { some_cost = o.some_cost; each_variable = rw o.is (all-push (is_variable (length given.costs)) given.closed o.variable o.closed one) }

complete_ready : (given : Given) → Complete given → Ready given
complete_ready given c = record { some_cost = c.some_cost; each_variable = rw (c.open_variable, append-nil) c.closed }

before_variable : (given : Given) (last : Option Keyword) → Stage given last → is_none last ≡ false → comes_wrong last (Some keyword.Variable) ≡ false → Ready given × (given.rules ≡ [])
before_variable given None stage some comes = absurd cc
before_variable given (Some keyword.Product) stage some comes = absurd cc
before_variable given (Some keyword.Cost) stage some comes = (begun_ready given stage.0 stage.1, stage.1.rules)
before_variable given (Some keyword.Variable) stage some comes = absurd cc
before_variable given (Some keyword.Value) stage some comes = (opened_ready given stage, stage.rules)
before_variable given (Some keyword.Rule) stage some comes = absurd cc
before_variable given (Some keyword.End) stage some comes = absurd cc

before_value : (given : Given) (last : Option Keyword) → Stage given last → is_none last ≡ false → comes_wrong last (Some keyword.Value) ≡ false → Opened 0 given
before_value given None stage some comes = absurd cc
before_value given (Some keyword.Product) stage some comes = absurd cc
before_value given (Some keyword.Cost) stage some comes = absurd cc
before_value given (Some keyword.Variable) stage some comes = stage
before_value given (Some keyword.Value) stage some comes = record {
  some_cost = stage.some_cost;
  closed = stage.closed;
  variable = stage.variable;
  is = stage.is;
  free = stage.free;
  at_least = omega arith;
  at_most = stage.at_most;
  each_value = stage.each_value;
  rules = stage.rules;
}
before_value given (Some keyword.Rule) stage some comes = absurd cc
before_value given (Some keyword.End) stage some comes = absurd cc

-- what comes after the last value
after_values : (given : Given) → Opened 1 given → Ready given × (1 ≤ length (variables_given given))
after_values given o = (opened_ready given o, rw o.is (omega (arith, length-push given.closed o.variable)))

after_all : (given : Given) → Complete given → Ready given × (1 ≤ length (variables_given given))
after_all given c = (complete_ready given c, rw (c.open_variable, append-nil) c.some_variable)

before_rule : (given : Given) (last : Option Keyword) → Stage given last → is_none last ≡ false → comes_wrong last (Some keyword.Rule) ≡ false → Ready given × (1 ≤ length (variables_given given))
before_rule given None stage some comes = absurd cc
before_rule given (Some keyword.Product) stage some comes = absurd cc
before_rule given (Some keyword.Cost) stage some comes = absurd cc
before_rule given (Some keyword.Variable) stage some comes = absurd cc
before_rule given (Some keyword.Value) stage some comes = after_values given stage
before_rule given (Some keyword.Rule) stage some comes = after_all given stage
before_rule given (Some keyword.End) stage some comes = absurd cc

before_end : (given : Given) (last : Option Keyword) → Stage given last → is_none last ≡ false → comes_wrong last (Some keyword.End) ≡ false → Ready given × (1 ≤ length (variables_given given))
before_end given None stage some comes = absurd cc
before_end given (Some keyword.Product) stage some comes = absurd cc
before_end given (Some keyword.Cost) stage some comes = absurd cc
before_end given (Some keyword.Variable) stage some comes = absurd cc
before_end given (Some keyword.Value) stage some comes = after_values given stage
before_end given (Some keyword.Rule) stage some comes = after_all given stage
before_end given (Some keyword.End) stage some comes = absurd cc

-- ---- one statement more, by its keyword

given_product : (given : Given) (arguments : List (List ℕ)) → Sound given → Allowed given (Some keyword.Product) arguments → Sound (give given (Some keyword.Product) arguments)
given_product given arguments s a =
    let b = before_product given given.last s.stage a.comes in
    record {
      costs_at_most = s.costs_at_most;
      costs_differ = s.costs_differ;
      variables_at_most = s.variables_at_most;
      names = s.names;
      rules_at_most = s.rules_at_most;
      each_rule = s.each_rule;
      stage = record { closed = b.closed; open_variable = b.open_variable; rules = b.rules };
    }

below_limit : (limit n : ℕ) → nat_le limit n ≡ false → n < limit
below_limit limit n h = grind (arith, nat_tests)

given_cost : (given : Given) (arguments : List (List ℕ)) → Sound given → Allowed given (Some keyword.Cost) arguments → Sound (give given (Some keyword.Cost) arguments)
given_cost given arguments s a =
    let b = before_cost given given.last s.stage a.header a.comes in
    let name = argument arguments 0 in
    let more : length (given.costs ++ name ∷ []) ≡ length given.costs + 1 = length-push given.costs name in
    let few : length given.costs < 2 = below_limit 2 (length given.costs) a.few in
    record {
      costs_at_most = omega arith;
      costs_differ = all_differ-push same_spelling same_spelling-symmetric given.costs name s.costs_differ a.new;
      variables_at_most = s.variables_at_most;
      names = s.names;
      rules_at_most = s.rules_at_most;
      each_rule = s.each_rule;
      stage = (omega arith, record { closed = b.closed; open_variable = b.open_variable; rules = b.rules });
    }

-- the name of a variable is no reserved word
free_name : (arguments : List (List ℕ)) → not ((length arguments == 1) && is_name (argument arguments 0) && not (is_reserved (argument arguments 0))) ≡ false → is_reserved (argument arguments 0) ≡ false
free_name arguments h =
    let all = not-false ((length arguments == 1) && is_name (argument arguments 0) && not (is_reserved (argument arguments 0))) h in
    let parts = both_true_parts ((length arguments == 1) && is_name (argument arguments 0)) (not (is_reserved (argument arguments 0))) all in
    not-true (is_reserved (argument arguments 0)) parts.1

no_rules : (variables : List Variable) (rules : List Rule) → rules ≡ [] → list_all (is_rule variables) rules ≡ true
no_rules variables rules none = ap (list_all (is_rule variables)) none

given_variable : (given : Given) (arguments : List (List ℕ)) → Sound given → Allowed given (Some keyword.Variable) arguments → Sound (give given (Some keyword.Variable) arguments)
given_variable given arguments s a =
    let b = before_variable given given.last s.stage a.header a.comes in
    let name = argument arguments 0 in
    let variable : Variable = record { name = name; values = [] } in
    let more : length (variables_given given ++ variable ∷ []) ≡ length (variables_given given) + 1 = length-push (variables_given given) variable in
    let few : length (variables_given given) < 64 = below_limit 64 (length (variables_given given)) a.few in
    record {
      costs_at_most = s.costs_at_most;
      costs_differ = s.costs_differ;
      variables_at_most = omega arith;
      names = names_differ-push (variables_given given) variable s.names a.new refl;
      rules_at_most = s.rules_at_most;
      each_rule = no_rules (variables_given given ++ variable ∷ []) given.rules b.1;
      stage = record {
        some_cost = b.0.some_cost;
        closed = b.0.each_variable;
        variable = variable;
        is = refl;
        free = free_name arguments a.form;
        at_least = omega arith;
        at_most = omega arith;
        each_value = refl;
        rules = b.1;
      };
    }

-- ---- the costs of a value

cost_in_range : (read : Option ℤ) → keeps_range read ≡ true → is_cost (unwrap_or read (pos 0)) ≡ true
cost_in_range None h = absurd cc
cost_in_range (Some number) h = h

cost_at : (word : List ℕ) → is_cost_text word ≡ true → is_cost (unwrap_or (int_of word) (pos 0)) ≡ true
cost_at word = cost_in_range (int_of word)

nothing_is_zero : unwrap_or (int_of []) (pos 0) ≡ pos 0
unfolding int_of digits
nothing_is_zero = refl

-- a file has one cost or two
value_sound : (arguments : List (List ℕ)) (costs : ℕ) → 1 ≤ costs → costs ≤ 2 → length arguments ≡ costs + 1 → list_all is_cost_text (drop 1 arguments) ≡ true → is_value costs (value_given arguments) ≡ true
value_sound [] costs some most count numbers = absurd (omega arith)
value_sound (name ∷ []) costs some most count numbers = absurd (omega arith)
value_sound (name ∷ first ∷ []) costs some most count numbers =
    let one : 1 ≡ costs = omega arith in
    let ok = both_true_parts (is_cost_text first) true numbers in
    subst (λ n. is_value n (value_given (name ∷ first ∷ [])) ≡ true) one (rw (cost_at first ok.0, nothing_is_zero) refl)
value_sound (name ∷ first ∷ second ∷ []) costs some most count numbers =
    let two : 2 ≡ costs = omega arith in
    let ok = both_true_parts (is_cost_text first) (is_cost_text second && true) numbers in
    let ok_too = both_true_parts (is_cost_text second) true ok.1 in
    subst (λ n. is_value n (value_given (name ∷ first ∷ second ∷ [])) ≡ true) two (rw (cost_at first ok.0, cost_at second ok_too.0) refl)
value_sound (name ∷ first ∷ second ∷ third ∷ more) costs some most count numbers = absurd (omega arith)

count_of_words : (arguments : List (List ℕ)) (costs : ℕ) → not ((length arguments == costs + 1) && is_name (argument arguments 0)) ≡ false → length arguments ≡ costs + 1
count_of_words arguments costs h =
    let all = not-false ((length arguments == costs + 1) && is_name (argument arguments 0)) h in
    let parts = both_true_parts (length arguments == costs + 1) (is_name (argument arguments 0)) all in
    let equal = parts.0 in
    grind (arith, nat_tests)

given_value : (given : Given) (arguments : List (List ℕ)) → Sound given → Allowed given (Some keyword.Value) arguments → Sound (give given (Some keyword.Value) arguments)
given_value given arguments s a =
    let o = before_value given given.last s.stage a.header a.comes in
    let value = value_given arguments in
    let variable = with_value value o.variable in
    let opened : option_map (with_value value) given.open_variable ≡ Some variable = ap (option_map (with_value value)) o.is in
    let more : length (o.variable.values ++ value ∷ []) ≡ length o.variable.values + 1 = length-push o.variable.values value in
    let few : length (value_names o.variable) < 64 = below_limit 64 (length (value_names o.variable)) (rw o.is at a.few) in
    let fewer : length o.variable.values < 64 = omega (arith, few, length-map o.variable.values (λ (v : Value). v.name)) in
    let one : is_value (length given.costs) value ≡ true =
    value_sound arguments (length given.costs) o.some_cost s.costs_at_most (count_of_words arguments (length given.costs) a.form) (not-false (list_all is_cost_text (drop 1 arguments)) a.numbers) in
    let new : list_any (same_spelling value.name) (value_names o.variable) ≡ false = rw o.is at a.new in
    let before : variables_given given ≡ given.closed ++ o.variable ∷ [] = ap (λ v. given.closed ++ option_to_list v) o.is in
    let after : given.closed ++ option_to_list (option_map (with_value value) given.open_variable) ≡ given.closed ++ variable ∷ [] = ap (λ v. given.closed ++ option_to_list v) opened in
    record {
      costs_at_most = s.costs_at_most;
      costs_differ = s.costs_differ;
      variables_at_most = omega (arith, s.variables_at_most, ap length before, ap length after, length-push given.closed o.variable, length-push given.closed variable);
      names = rw after (names_differ-value given.closed o.variable value (sym (ap names_differ before) ∙ s.names) new);
      rules_at_most = s.rules_at_most;
      each_rule = no_rules (given.closed ++ option_to_list (option_map (with_value value) given.open_variable)) given.rules o.rules;
      stage = record {
        some_cost = o.some_cost;
        closed = o.closed;
        variable = variable;
        is = opened;
        free = o.free;
        at_least = omega arith;
        at_most = omega arith;
        each_value = all-push (is_value (length given.costs)) o.variable.values value o.each_value one;
        rules = o.rules;
      };
    }

given_rule : (given : Given) (rule : Rule) (arguments : List (List ℕ)) → Sound given → Allowed given (Some keyword.Rule) arguments → is_rule (variables_given given) rule ≡ true → Sound (give_rule given (Ok rule))
given_rule given rule arguments s a sound =
    let b = before_rule given given.last s.stage a.header a.comes in
    let more : length (given.rules ++ rule ∷ []) ≡ length given.rules + 1 = length-push given.rules rule in
    let few : length given.rules < 1024 = below_limit 1024 (length given.rules) a.few in
    record {
      costs_at_most = s.costs_at_most;
      costs_differ = s.costs_differ;
      variables_at_most = rw append-nil s.variables_at_most;
      names = rw append-nil s.names;
      rules_at_most = omega arith;
      each_rule = rw (append-nil (variables_given given)) (all-push (is_rule (variables_given given)) given.rules rule s.each_rule sound);
      stage = record { some_cost = b.0.some_cost; some_variable = b.1; closed = b.0.each_variable; open_variable = refl };
    }

given_end : (given : Given) (arguments : List (List ℕ)) → Sound given → Allowed given (Some keyword.End) arguments → Sound (give given (Some keyword.End) arguments)
given_end given arguments s a =
    let b = before_end given given.last s.stage a.header a.comes in
    record {
      costs_at_most = s.costs_at_most;
      costs_differ = s.costs_differ;
      variables_at_most = rw append-nil s.variables_at_most;
      names = rw append-nil s.names;
      rules_at_most = s.rules_at_most;
      each_rule = rw (append-nil (variables_given given)) s.each_rule;
      stage = record { some_cost = b.0.some_cost; some_variable = b.1; closed = b.0.each_variable; open_variable = refl };
    }

nothing_comes : (last : Option Keyword) → is_none last ≡ false → comes_wrong last None ≡ false → ⊥
nothing_comes None some comes = cc
nothing_comes (Some keyword.Product) some comes = cc
nothing_comes (Some keyword.Cost) some comes = cc
nothing_comes (Some keyword.Variable) some comes = cc
nothing_comes (Some keyword.Value) some comes = cc
nothing_comes (Some keyword.Rule) some comes = cc
nothing_comes (Some keyword.End) some comes = cc

-- a statement without a fault
module _ (given : Given) (arguments : List (List ℕ)) (s : Sound given) where
  told_none : (word : Option Keyword) (rule : Result Rule Kind) → statement_fault given word arguments rule ≡ None → Allowed given word arguments × (fault_of_rule word rule ≡ None)
  told_none word rule none =
      let prints = print_fault (give_statement given word arguments rule).printed in
      let parts = neither_parts (first_standing (orders given word arguments)) (option_or (fault_of_rule word rule) prints) none in
      (allowed given word arguments parts.0, (neither_parts (fault_of_rule word rule) prints parts.1).0)

  given_some_rule : (rule : Result Rule Kind) → ((r : Rule) → rule ≡ Ok r → is_rule (variables_given given) r ≡ true) → Allowed given (Some keyword.Rule) arguments → rule_fault rule ≡ None → Sound (give_rule given rule)
  given_some_rule (Ok rule) sound a none = given_rule given rule arguments s a (sound rule refl)
  given_some_rule (Err kind) sound a none = absurd cc

  given_statement : (word : Option Keyword) (rule : Result Rule Kind) → ((r : Rule) → rule ≡ Ok r → is_rule (variables_given given) r ≡ true) → statement_fault given word arguments rule ≡ None →
      Sound (give_statement given word arguments rule)
  given_statement None rule sound none = let a = (told_none None rule none).0 in absurd (nothing_comes given.last a.header a.comes)
  given_statement (Some keyword.Product) rule sound none = given_product given arguments s (told_none (Some keyword.Product) rule none).0
  given_statement (Some keyword.Cost) rule sound none = given_cost given arguments s (told_none (Some keyword.Cost) rule none).0
  given_statement (Some keyword.Variable) rule sound none = given_variable given arguments s (told_none (Some keyword.Variable) rule none).0
  given_statement (Some keyword.Value) rule sound none = given_value given arguments s (told_none (Some keyword.Value) rule none).0
  given_statement (Some keyword.Rule) rule sound none = let t = told_none (Some keyword.Rule) rule none in given_some_rule rule sound t.0 t.1
  given_statement (Some keyword.End) rule sound none = given_end given arguments s (told_none (Some keyword.End) rule none).0

-- ---- line by line

-- a rule that is read keeps the limits of rules
rules_keep : (variables : List Variable) (text : List ℕ) (rule : Rule) → rule_of (catalogue_of variables) text ≡ Ok rule → is_rule variables rule ≡ true
rules_keep variables text rule read =
    let names = catalogue_of variables in
    rule_fits names text rule variables (record { variables_are = refl; values_are = refl }) (rule_of-read names text rule read)

given_line_by : (given : Given) (line : List ℕ) (skipped : Bool) → Sound given →
    cond skipped None (statement_fault given (keyword_at line) (arguments_at line) (rule_of (catalogue_of (variables_given given)) (after_word line))) ≡ None →
    Sound (cond skipped given (give_statement given (keyword_at line) (arguments_at line) (rule_of (catalogue_of (variables_given given)) (after_word line))))
given_line_by given line true s none = s
given_line_by given line false s none =
    given_statement given (arguments_at line) s (keyword_at line) (rule_of (catalogue_of (variables_given given)) (after_word line))
    (rules_keep (variables_given given) (after_word line)) none

given_line : (given : Given) (line : List ℕ) → Sound given → line_fault given line ≡ None → Sound (give_line given line)
unfolding line_fault give_line
given_line given line s none = given_line_by given line (is_skipped line) s none

no_later : (number : ℕ) (fault : Option Kind) (later : Option (ℕ × Kind)) → option_or (at number fault) later ≡ None → (fault ≡ None) × (later ≡ None)
no_later number None later h = (refl, h)
no_later number (Some kind) later h = absurd cc

ended : (number : ℕ) (last : Option Keyword) → at number (end_fault last) ≡ None → last ≡ Some keyword.End
ended number None h = absurd cc
ended number (Some keyword.Product) h = absurd cc
ended number (Some keyword.Cost) h = absurd cc
ended number (Some keyword.Variable) h = absurd cc
ended number (Some keyword.Value) h = absurd cc
ended number (Some keyword.Rule) h = absurd cc
ended number (Some keyword.End) h = refl

-- lines without a fault
given_lines : (given : Given) (number start total : ℕ) (lines : List (List ℕ)) → Sound given → fault_from given number start total lines ≡ None →
    Sound (given_from given lines) × ((given_from given lines).last ≡ Some keyword.End)
unfolding fault_from given_from
given_lines given number start total [] s none = (s, ended number given.last none)
given_lines given number start total (line ∷ later) s none =
    let own = option_or (size_fault (is_large number (min (start + length line + 1) total) line)) (line_fault given line) in
    let rest = fault_from (give_line given line) (number + 1) (start + length line + 1) total later in
    let parts = no_later number own rest none in
    let fine = neither_parts (size_fault (is_large number (min (start + length line + 1) total) line)) (line_fault given line) parts.0 in
    given_lines (give_line given line) (number + 1) (start + length line + 1) total later (given_line given line s fine.1) parts.1

complete_file : (given : Given) → Sound given → Complete given → IsPrintable (contents_given given) → IsFile (contents_given given)
complete_file given s c printable =
    let r = complete_ready given c in
    record {
      some_cost = c.some_cost;
      costs_at_most = s.costs_at_most;
      costs_differ = s.costs_differ;
      some_variable = (after_all given c).1;
      variables_at_most = s.variables_at_most;
      names_differ = s.names;
      each_variable = r.each_variable;
      rules_at_most = s.rules_at_most;
      each_rule = s.each_rule;
      printable = printable;
    }

module _ (text : List ℕ) (none : first_fault text ≡ None) where
  done : Sound (given_by text) × ((given_by text).last ≡ Some keyword.End)
  done = given_lines nothing_given 1 0 (length text) (lines text) nothing_sound none

  complete : Complete (given_by text)
  complete = subst (Stage (given_by text)) done.1 done.0.stage

  -- a text without a fault gives one cost or two
  pub no_fault_has_costs : (1 ≤ length (given_by text).costs) × (length (given_by text).costs ≤ 2)
  no_fault_has_costs = (complete.some_cost, done.0.costs_at_most)

  -- and a file, where its printed form keeps the limits
  pub no_fault_is_file : IsPrintable (contents_given (given_by text)) → IsFile (contents_given (given_by text))
  no_fault_is_file = complete_file (given_by text) done.0 complete
