-- A text that spells a file has no fault, and what it gives is that file.
use Rattle.std.proofs.Common.{◌≡◌, ℕ, ◌≤◌, ◌<◌, Bool, true, false, not, ◌&&◌, List, [], ◌∷◌, ◌++◌, length, map, Option, Some, None, Result, Ok, refl, sym, ap, subst, ◌∙◌, inl, inr, arith, length-append}
use Rattle.std.specs.Prelude.{codes, nat_le}
use Rattle.std.specs.List.{AllZip, list_all, list_any, flat_map}
use Rattle.std.specs.Option.{option_to_list}
use Rattle.std.proofs.lemmas.Bool.{cases_Bool, leb-true, lt-leb, not-true}
use Rattle.std.proofs.lemmas.List.{append-nil, append_assoc, map-append, length-map}
use Rattle.std.proofs.lemmas.List.Folds.{list_all-append}
use Rattle.pc_base.specs.Distinct.{all_differ}
use Rattle.pc_base.proofs.DistinctLemmas.{both_true_parts, all_differ-again}
use Rattle.pc_names.specs.Spelling.{same_spelling}
use Rattle.pc_names.proofs.NamesLemmas.{same_spelling-symmetric}
use Rattle.pc_file.specs.declared.rule.Rule.{Rule}
use Rattle.pc_file.specs.declared.variable.Value.{Value}
use Rattle.pc_file.specs.declared.variable.Variable.{Variable}
use Rattle.pc_file.specs.Limits.{Contents, IsFile, is_value, is_variable, is_sized, is_reserved, value_names, variable_names, values_differ}
use Rattle.pc_file.specs.PrintedForm.{header_line, cost_line, value_line, rule_line}
use Rattle.pc_text.specs.declared.keyword.Keyword.{Keyword}
use Rattle.pc_text.specs.declared.keyword.Keyword.TheVariants as keyword
use Rattle.pc_rules.specs.declared.kind.Kind.{Kind}
use Rattle.pc_text.specs.Keyword.{follows}
use Rattle.pc_names.specs.LineWords.{after_word}
use Rattle.pc_text.specs.Given.{Given, nothing_given, variables_given, catalogue_of, is_skipped, keyword_at, arguments_at, with_value, give_statement, contents_given, print_more}
use Rattle.pc_rules.specs.RuleText.{rule_of}
use Rattle.pc_text.specs.Orders.{print_fault}
use Rattle.pc_text.specs.FirstFault.{line_fault, give_line, end_fault, given_from, first_fault, given_by}
use Rattle.pc_text.specs.Statement.{Statement, header, a_cost, a_variable, a_value, a_rule, end, Says, statements, variable_statements, value_words}
use Rattle.pc_text.specs.Spells.{Spells, significant_lines}
use Rattle.pc_text.proofs.FaultLemmas.{given_from-nil, given_from-cons}
use Rattle.pc_text.proofs.Meanings.{says_means}
use Rattle.pc_text.proofs.PrintedBytes.{statement_line, print_all, print_all-some, counted_to_end}
use Rattle.pc_text.proofs.SignificantLines.{Faultless, kept_fault, kept_give, no_fault_from_parts, given_by_significant}
use Rattle.pc_text.proofs.StatementFaults.{NoFault, no_fault}
use Rattle.pc_text.proofs.ValueWords.{words_fit}

-- the lines have no fault, and the file is what they give
abbrev Reads : Contents → Given → List (List ℕ) → Type 0
Reads file given [] = (end_fault given.last ≡ None) × (contents_given given ≡ file)
Reads file given (line ∷ later) = (line_fault given line ≡ None) × Reads file (give_line given line) later

reads_parts : (file : Contents) (given : Given) (all : List (List ℕ)) → Reads file given all → Faultless given all × (contents_given (given_from given all) ≡ file)
reads_parts file given [] r = (r.0, ap contents_given (given_from-nil given) ∙ r.1)
reads_parts file given (line ∷ later) r =
    let rest = reads_parts file (give_line given line) later r.1 in
    ((r.0, rest.0), ap contents_given (given_from-cons given line later) ∙ rest.1)

-- what reading a line as a rule gives
abbrev rule_at : Given → List ℕ → Result Rule Kind
rule_at given line = rule_of (catalogue_of (variables_given given)) (after_word line)

-- a line that counts, by its keyword, the words after it and the rule
step : (file : Contents) (given : Given) (line : List ℕ) (later : List (List ℕ)) (word : Option Keyword) (arguments : List (List ℕ)) (rule : Result Rule Kind) →
    is_skipped line ≡ false → keyword_at line ≡ word → arguments_at line ≡ arguments → rule_of (catalogue_of (variables_given given)) (after_word line) ≡ rule →
    NoFault given word arguments rule → Reads file (give_statement given word arguments rule) later → Reads file given (line ∷ later)
step file given line later word arguments rule counts word_is arguments_are rule_is none rest =
    let fault = kept_fault given line counts ∙ rw (word_is, arguments_are, rule_is) (no_fault given word arguments rule none) in
    let give : give_line given line ≡ give_statement given word arguments rule = kept_give given line counts ∙ rw (word_is, arguments_are, rule_is) refl in
    (fault, subst (λ g. Reads file g later) (sym give) rest)

-- an element of a list

at_element : {X : Type 0} (p : X → Bool) (done : List X) (x : X) (rest : List X) → list_all p (done ++ x ∷ rest) ≡ true → p x ≡ true
at_element p done x rest all =
    let later = both_true_parts (list_all p done) (list_all p (x ∷ rest)) (sym (list_all-append p done (x ∷ rest)) ∙ all) in
    (both_true_parts (p x) (list_all p rest) later.1).0

new_element : {X : Type 0} (same : X → X → Bool) (symmetric : (x y : X) → same x y ≡ same y x) (done : List X) (x : X) (rest : List X) →
    all_differ same (done ++ x ∷ rest) ≡ true → list_any (same x) done ≡ false
new_element same symmetric done x rest differ =
    elim (cases_Bool (list_any (same x) done)) [
      | inl again ↦ let not_all = all_differ-again same symmetric done x rest again in absurd cc
      | inr new ↦ new
    ]

-- how many there are before an element
before_element : {X : Type 0} (done : List X) (x : X) (rest : List X) (most : ℕ) → length (done ++ x ∷ rest) ≤ most → length done < most
before_element done x rest most h = omega (arith, length-append done (x ∷ rest))

-- one element more at the end of what is done
move : {X : Type 0} (whole done : List X) (x : X) (rest : List X) → whole ≡ done ++ x ∷ rest → whole ≡ (done ++ x ∷ []) ++ rest
move whole done x rest e = e ∙ sym (append_assoc done (x ∷ []) rest)

abbrev given_at : Option ℕ → Keyword → List (List ℕ) → List Variable → Option Variable → List Rule → Given
given_at printed last costs closed opened rules = record { last = Some last; costs = costs; closed = closed; open_variable = opened; rules = rules; printed = printed }

-- the printed line of a statement of the file
abbrev line_in : Contents → Statement → List ℕ
line_in file = statement_line (length file.costs) file.variables

-- lines say statements, one for one, and the printed lines of these keep the limits
abbrev Say : Contents → Option ℕ → List (List ℕ) → List Statement → Type 0
Say file printed [] [] = Unit {0}
Say file printed [] (statement ∷ rest) = ⊥
Say file printed (line ∷ later) [] = ⊥
Say file printed (line ∷ later) (statement ∷ rest) =
    Says file line statement × ((print_fault (print_more printed (line_in file statement)) ≡ None) × Say file (print_more printed (line_in file statement)) later rest)

say_all : (file : Contents) (printed : Option ℕ) (all : List (List ℕ)) (said : List Statement) (total : ℕ) → print_all printed (map (line_in file) said) ≡ Some total → AllZip (Says file) all said →
    Say file printed all said
say_all file printed [] [] total told says = tt
say_all file printed [] (statement ∷ rest) total told says = absurd says
say_all file printed (line ∷ later) [] total told says = absurd says
say_all file printed (line ∷ later) (statement ∷ rest) total told says =
    let next = print_more printed (line_in file statement) in
    (says.0, (print_all-some next (map (line_in file) rest) total told, say_all file next later rest total told says.1))

contents_same : (file : Contents) (variables : List Variable) (rules : List Rule) → variables ≡ file.variables → rules ≡ file.rules → record { costs = file.costs; variables = variables; rules = rules } ≡ file
contents_same file variables rules v r = rw (v, r) refl

-- the end
ended : (file : Contents) (printed : Option ℕ) (k : Keyword) (closed : List Variable) (opened : Option Variable) (rules : List Rule) → follows k (Some keyword.End) ≡ true → closed ++ option_to_list opened ≡ file.variables → rules ≡ file.rules →
    (all : List (List ℕ)) → Say file printed all (end ∷ []) → Reads file (given_at printed k file.costs closed opened rules) all
ended file printed k closed opened rules may whole all_rules [] says = absurd says
ended file printed k closed opened rules may whole all_rules (line ∷ []) says =
    let m = says_means file line end says.0 in
    let none : NoFault (given_at printed k file.costs closed opened rules) (Some keyword.End) [] (rule_at (given_at printed k file.costs closed opened rules) line) = record { heads = refl; comes = ap not may; formed = refl; numbers = refl; fits = refl; new = refl; reads = refl; prints = says.1.0 } in
    step file (given_at printed k file.costs closed opened rules) line [] (Some keyword.End) [] _ m.0 m.1.0 m.1.1 refl none
    (refl, contents_same file _ rules (append-nil (closed ++ option_to_list opened) ∙ whole) all_rules)
ended file printed k closed opened rules may whole all_rules (line ∷ more ∷ later) says = absurd says.1.1

-- the rules
ruled : (file : Contents) → IsFile file → (printed : Option ℕ) (rest done : List Rule) → file.rules ≡ done ++ rest →
    (k : Keyword) (closed : List Variable) (opened : Option Variable) → follows k (Some keyword.Rule) ≡ true → follows k (Some keyword.End) ≡ true → closed ++ option_to_list opened ≡ file.variables →
    (all : List (List ℕ)) → Say file printed all (map a_rule rest ++ end ∷ []) → Reads file (given_at printed k file.costs closed opened done) all
ruled file is printed [] done all_rules k closed opened may may_end whole all says = ended file printed k closed opened done may_end whole (sym (all_rules ∙ append-nil done)) all says
ruled file is printed (rule ∷ rest) done all_rules k closed opened may may_end whole [] says = absurd says
ruled file is printed (rule ∷ rest) done all_rules k closed opened may may_end whole (line ∷ later) says =
    let given = given_at printed k file.costs closed opened done in
    let m = says_means file line (a_rule rule) says.0 in
    let moved = subst (λ vs. (print_fault (print_more printed (rule_line vs rule)) ≡ None) × Say file (print_more printed (rule_line vs rule)) later (map a_rule rest ++ end ∷ [])) (sym whole) says.1 in
    let few : length done < 1024 = before_element done rule rest 1024 (subst (λ rs. length rs ≤ 1024) all_rules is.rules_at_most) in
    let none : NoFault given (Some keyword.Rule) (arguments_at line) (Ok rule) = record { heads = refl; comes = ap not may; formed = refl; numbers = refl; fits = lt-leb 1024 (length done) few; new = refl; reads = refl; prints = moved.0 } in
    let reads : rule_of (catalogue_of (variables_given given)) (after_word line) ≡ Ok rule = ap (λ vs. rule_of (catalogue_of vs) (after_word line)) whole ∙ m.1.1 in
    let next = ruled file is (print_more printed (rule_line (variables_given given) rule)) rest (done ++ rule ∷ []) (move file.rules done rule rest all_rules) keyword.Rule (closed ++ option_to_list opened) None refl refl (append-nil _ ∙ whole) later moved.1 in
    step file given line later (Some keyword.Rule) (arguments_at line) (Ok rule) m.0 m.1.0 refl reads none next

-- What a variable of a file keeps, and each of its values.
record OfFile (file : Contents) (done : List Variable) (variable : Variable) : Type 0 where
  few : length done < 64
  free : is_reserved variable.name ≡ false
  new : list_any (same_spelling variable.name) (variable_names done) ≡ false
  some : 1 ≤ length variable.values
  values_at_most : length variable.values ≤ 64
  each_value : list_all (is_value (length file.costs)) variable.values ≡ true
  values_differ : all_differ same_spelling (value_names variable) ≡ true

of_file : (file : Contents) → IsFile file → (done : List Variable) (variable : Variable) (rest : List Variable) → file.variables ≡ done ++ variable ∷ rest → OfFile file done variable
of_file file is done variable rest whole =
    let costs = length file.costs in
    let own = at_element (is_variable costs) done variable rest (ap (list_all (is_variable costs)) (sym whole) ∙ is.each_variable) in
    let first = both_true_parts (not (is_reserved variable.name) && is_sized variable) (list_all (is_value costs) variable.values) own in
    let second = both_true_parts (not (is_reserved variable.name)) (is_sized variable) first.0 in
    let sized = both_true_parts (nat_le 1 (length variable.values)) (nat_le (length variable.values) 64) second.1 in
    let differ = both_true_parts (all_differ same_spelling (variable_names file.variables)) (list_all values_differ file.variables) is.names_differ in
    let names : variable_names file.variables ≡ variable_names done ++ variable.name ∷ variable_names rest = ap variable_names whole ∙ map-append (λ v. v.name) done (variable ∷ rest) in
    record {
      few = before_element done variable rest 64 (subst (λ vs. length vs ≤ 64) whole is.variables_at_most);
      free = not-true (is_reserved variable.name) second.0;
      new = new_element same_spelling same_spelling-symmetric (variable_names done) variable.name (variable_names rest) (ap (all_differ same_spelling) (sym names) ∙ differ.0);
      some = leb-true 1 (length variable.values) sized.0;
      values_at_most = leb-true (length variable.values) 64 sized.1;
      each_value = first.1;
      values_differ = at_element values_differ done variable rest (ap (list_all values_differ) (sym whole) ∙ differ.1);
    }

-- one value
valued_once : (file : Contents) → IsFile file → (variables : List Variable) (variable : Variable) → OfFile file variables variable → (done : List Value) (value : Value) (rest : List Value) → variable.values ≡ done ++ value ∷ rest →
    (printed : Option ℕ) (k : Keyword) → follows k (Some keyword.Value) ≡ true → (line : List ℕ) (later : List (List ℕ)) → Says file line (a_value value) →
    print_fault (print_more printed (value_line (length file.costs) value)) ≡ None →
    Reads file (given_at (print_more printed (value_line (length file.costs) value)) keyword.Value file.costs variables (Some (record { name = variable.name; values = done ++ value ∷ [] })) []) later →
    Reads file (given_at printed k file.costs variables (Some (record { name = variable.name; values = done })) []) (line ∷ later)
valued_once file is variables variable own done value rest whole printed k may line later says prints next =
    let opened : Variable = record { name = variable.name; values = done } in
    let given = given_at printed k file.costs variables (Some opened) [] in
    let costs = length file.costs in
    let m = says_means file line (a_value value) says in
    let words = words_fit costs is.some_cost is.costs_at_most value (at_element (is_value costs) done value rest (ap (list_all (is_value costs)) (sym whole) ∙ own.each_value)) in
    let few : length done < 64 = before_element done value rest 64 (subst (λ vs. length vs ≤ 64) whole own.values_at_most) in
    let names : value_names variable ≡ value_names opened ++ value.name ∷ map (λ v. v.name) rest = ap (map (λ (v : Value). v.name)) whole ∙ map-append (λ v. v.name) done (value ∷ rest) in
    let new = new_element same_spelling same_spelling-symmetric (value_names opened) value.name (map (λ v. v.name) rest) (ap (all_differ same_spelling) (sym names) ∙ own.values_differ) in
    let none : NoFault given (Some keyword.Value) (value_words costs value) (rule_at given line) = record {
      heads = refl;
      comes = ap not may;
      formed = rw (words.count, m.1.2) refl;
      numbers = ap not words.numbers;
      fits = lt-leb 64 (length (value_names opened)) (omega (arith, length-map done (λ (v : Value). v.name)));
      new = new;
      reads = refl;
      prints = ap (λ v. print_fault (print_more printed (value_line costs v))) words.gives ∙ prints;
    } in
    step file given line later (Some keyword.Value) (value_words costs value) _ m.0 m.1.0 m.1.1 refl none
    (subst (λ v. Reads file (given_at (print_more printed (value_line costs v)) keyword.Value file.costs variables (Some (with_value v opened)) []) later) (sym words.gives) next)

-- the other values of a variable, and what follows
valued : (file : Contents) → IsFile file → (variables : List Variable) (variable : Variable) → OfFile file variables variable → (rest done : List Value) → variable.values ≡ done ++ rest → (follow : List Statement) →
    ((printed : Option ℕ) (later : List (List ℕ)) → Say file printed later follow → Reads file (given_at printed keyword.Value file.costs variables (Some variable) []) later) →
    (printed : Option ℕ) (all : List (List ℕ)) → Say file printed all (map a_value rest ++ follow) → Reads file (given_at printed keyword.Value file.costs variables (Some (record { name = variable.name; values = done })) []) all
valued file is variables variable own [] done whole follow next printed all says =
    let same : variable.values ≡ done = whole ∙ append-nil done in
    subst (λ vs. Reads file (given_at printed keyword.Value file.costs variables (Some (record { name = variable.name; values = vs })) []) all) same (next printed all says)
valued file is variables variable own (value ∷ rest) done whole follow next printed [] says = absurd says
valued file is variables variable own (value ∷ rest) done whole follow next printed (line ∷ later) says =
    valued_once file is variables variable own done value rest whole printed keyword.Value refl line later says.0 says.1.0
    (valued file is variables variable own rest (done ++ value ∷ []) (move variable.values done value rest whole) follow next (print_more printed (line_in file (a_value value))) later says.1.1)

-- the first value of a variable, and what follows
valued_first : (file : Contents) → IsFile file → (variables : List Variable) (variable : Variable) → OfFile file variables variable → (values : List Value) → variable.values ≡ values → (follow : List Statement) →
    ((printed : Option ℕ) (later : List (List ℕ)) → Say file printed later follow → Reads file (given_at printed keyword.Value file.costs variables (Some variable) []) later) →
    (printed : Option ℕ) (all : List (List ℕ)) → Say file printed all (map a_value values ++ follow) → Reads file (given_at printed keyword.Variable file.costs variables (Some (record { name = variable.name; values = [] })) []) all
valued_first file is variables variable own [] whole follow next printed all says = absurd (omega (arith, ap length whole, own.some))
valued_first file is variables variable own (value ∷ rest) whole follow next printed [] says = absurd says
valued_first file is variables variable own (value ∷ rest) whole follow next printed (line ∷ later) says =
    valued_once file is variables variable own [] value rest whole printed keyword.Variable refl line later says.0 says.1.0
    (valued file is variables variable own rest (value ∷ []) whole follow next (print_more printed (line_in file (a_value value))) later says.1.1)

-- one variable with its values, and what follows
varied_once : (file : Contents) → IsFile file → (closed : List Variable) (opened : Option Variable) (variable : Variable) → OfFile file (closed ++ option_to_list opened) variable →
    (k : Keyword) → follows k (Some keyword.Variable) ≡ true → (follow : List Statement) →
    ((printed : Option ℕ) (later : List (List ℕ)) → Say file printed later follow → Reads file (given_at printed keyword.Value file.costs (closed ++ option_to_list opened) (Some variable) []) later) →
    (printed : Option ℕ) (all : List (List ℕ)) → Say file printed all (variable_statements variable ++ follow) → Reads file (given_at printed k file.costs closed opened []) all
varied_once file is closed opened variable own k may follow next printed [] says = absurd says
varied_once file is closed opened variable own k may follow next printed (line ∷ later) says =
    let given = given_at printed k file.costs closed opened [] in
    let m = says_means file line (a_variable variable.name) says.0 in
    let none : NoFault given (Some keyword.Variable) (variable.name ∷ []) (rule_at given line) = record {
      heads = refl;
      comes = ap not may;
      formed = rw (m.1.2, own.free) refl;
      numbers = refl;
      fits = lt-leb 64 (length (closed ++ option_to_list opened)) own.few;
      new = own.new;
      reads = refl;
      prints = says.1.0;
    } in
    step file given line later (Some keyword.Variable) (variable.name ∷ []) _ m.0 m.1.0 m.1.1 refl none
    (valued_first file is (closed ++ option_to_list opened) variable own variable.values refl follow next (print_more printed (line_in file (a_variable variable.name))) later says.1.1)

-- the statements after the costs and these variables
abbrev rest_of : Contents → List Variable → List Statement
rest_of file variables = flat_map variable_statements variables ++ (map a_rule file.rules ++ end ∷ [])

rest_of-cons : (file : Contents) (variable : Variable) (rest : List Variable) → rest_of file (variable ∷ rest) ≡ variable_statements variable ++ rest_of file rest
rest_of-cons file variable rest = append_assoc (variable_statements variable) (flat_map variable_statements rest) (map a_rule file.rules ++ end ∷ [])

-- the other variables
varied : (file : Contents) → IsFile file → (rest closed : List Variable) (opened : Option Variable) → file.variables ≡ (closed ++ option_to_list opened) ++ rest →
    (printed : Option ℕ) (all : List (List ℕ)) → Say file printed all (rest_of file rest) → Reads file (given_at printed keyword.Value file.costs closed opened []) all
varied file is [] closed opened whole printed all says = ruled file is printed file.rules [] refl keyword.Value closed opened refl refl (sym (whole ∙ append-nil _)) all says
varied file is (variable ∷ rest) closed opened whole printed all says =
    let done = closed ++ option_to_list opened in
    varied_once file is closed opened variable (of_file file is done variable rest whole) keyword.Value refl (rest_of file rest)
    (λ more later says'. varied file is rest done (Some variable) (move file.variables done variable rest whole) more later says')
    printed all (subst (Say file printed all) (rest_of-cons file variable rest) says)

-- the first variable and all after it
varied_first : (file : Contents) → IsFile file → (variables : List Variable) → file.variables ≡ variables →
    (printed : Option ℕ) (all : List (List ℕ)) → Say file printed all (rest_of file variables) → Reads file (given_at printed keyword.Cost file.costs [] None []) all
varied_first file is [] whole printed all says = absurd (omega (arith, ap length whole, is.some_variable))
varied_first file is (variable ∷ rest) whole printed all says =
    varied_once file is [] None variable (of_file file is [] variable rest whole) keyword.Cost refl (rest_of file rest)
    (λ more later says'. varied file is rest [] (Some variable) whole more later says')
    printed all (subst (Say file printed all) (rest_of-cons file variable rest) says)

-- one cost
costed_once : (file : Contents) → IsFile file → (done : List (List ℕ)) (name : List ℕ) (rest : List (List ℕ)) → file.costs ≡ done ++ name ∷ rest →
    (printed : Option ℕ) (k : Keyword) → follows k (Some keyword.Cost) ≡ true → (line : List ℕ) (later : List (List ℕ)) → Says file line (a_cost name) →
    print_fault (print_more printed (cost_line name)) ≡ None → Reads file (given_at (print_more printed (cost_line name)) keyword.Cost (done ++ name ∷ []) [] None []) later → Reads file (given_at printed k done [] None []) (line ∷ later)
costed_once file is done name rest whole printed k may line later says prints next =
    let m = says_means file line (a_cost name) says in
    let few : length done < 2 = before_element done name rest 2 (subst (λ cs. length cs ≤ 2) whole is.costs_at_most) in
    let none : NoFault (given_at printed k done [] None []) (Some keyword.Cost) (name ∷ []) (rule_at (given_at printed k done [] None []) line) = record {
      heads = refl;
      comes = ap not may;
      formed = rw m.1.2 refl;
      numbers = refl;
      fits = lt-leb 2 (length done) few;
      new = new_element same_spelling same_spelling-symmetric done name rest (ap (all_differ same_spelling) (sym whole) ∙ is.costs_differ);
      reads = refl;
      prints = prints;
    } in
    step file (given_at printed k done [] None []) line later (Some keyword.Cost) (name ∷ []) _ m.0 m.1.0 m.1.1 refl none next

-- the other costs
costed : (file : Contents) → IsFile file → (rest done : List (List ℕ)) → file.costs ≡ done ++ rest → (printed : Option ℕ) (all : List (List ℕ)) → Say file printed all (map a_cost rest ++ rest_of file file.variables) →
    Reads file (given_at printed keyword.Cost done [] None []) all
costed file is [] done whole printed all says = subst (λ cs. Reads file (given_at printed keyword.Cost cs [] None []) all) (whole ∙ append-nil done) (varied_first file is file.variables refl printed all says)
costed file is (name ∷ rest) done whole printed [] says = absurd says
costed file is (name ∷ rest) done whole printed (line ∷ later) says =
    costed_once file is done name rest whole printed keyword.Cost refl line later says.0 says.1.0 (costed file is rest (done ++ name ∷ []) (move file.costs done name rest whole) (print_more printed (cost_line name)) later says.1.1)

-- the first cost and all after it
costed_first : (file : Contents) → IsFile file → (costs : List (List ℕ)) → file.costs ≡ costs → (printed : Option ℕ) (all : List (List ℕ)) → Say file printed all (map a_cost costs ++ rest_of file file.variables) →
    Reads file (given_at printed keyword.Product [] [] None []) all
costed_first file is [] whole printed all says = absurd (omega (arith, ap length whole, is.some_cost))
costed_first file is (name ∷ rest) whole printed [] says = absurd says
costed_first file is (name ∷ rest) whole printed (line ∷ later) says =
    costed_once file is [] name rest whole printed keyword.Product refl line later says.0 says.1.0 (costed file is rest (name ∷ []) whole (print_more printed (cost_line name)) later says.1.1)

-- all statements
headed : (file : Contents) → IsFile file → (all : List (List ℕ)) → Say file (Some 0) all (statements file) → Reads file nothing_given all
headed file is [] says = absurd says
headed file is (line ∷ later) says =
    let m = says_means file line header says.0 in
    let none : NoFault nothing_given (Some keyword.Product) (codes "1" ∷ []) (rule_at nothing_given line) = record { heads = refl; comes = refl; formed = refl; numbers = refl; fits = refl; new = refl; reads = refl; prints = says.1.0 } in
    step file nothing_given line later (Some keyword.Product) (codes "1" ∷ []) _ m.0 m.1.0 m.1.1 refl none (costed_first file is file.costs refl (print_more (Some 0) header_line) later says.1.1)

pub spelled_has_no_fault : (text : List ℕ) (file : Contents) → Spells text file → (first_fault text ≡ None) × (contents_given (given_by text) ≡ file)
spelled_has_no_fault text file spells =
    let lines = significant_lines text in
    let counted = counted_to_end file spells.is_file.printable in
    let r = reads_parts file nothing_given lines (headed file spells.is_file lines (say_all file (Some 0) lines (statements file) counted.0 counted.1 spells.says)) in
    (no_fault_from_parts text spells.is_small r.0, ap contents_given (given_by_significant text) ∙ r.1)
