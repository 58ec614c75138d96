-- The lines of a printed form.
use Rattle.std.proofs.Common.{◌≡◌, ℕ, ◌+◌, ◌<◌, List, [], ◌∷◌, ◌++◌, length, get_or, take, map, Bool, true, ◌&&◌, refl, sym, ap, ◌∙◌, append_assoc}
use Rattle.std.specs.List.{flat_map, list_all}
use Rattle.std.proofs.lemmas.List.{append-nil, take_more}
use Rattle.std.proofs.lemmas.List.Folds.{flat_map-map, list_all-map, list_all-append}
use Rattle.std.proofs.lemmas.Bool.{and_from}
use Rattle.std.proofs.lemmas.Grind.{flat_map-append}
use Rattle.pc_names.specs.Name.{is_name}
use Rattle.pc_file.specs.declared.variable.Variable.{Variable}
use Rattle.pc_file.specs.Contents.{Contents}
use Rattle.pc_file.specs.Limits.{value_names}
use Rattle.pc_print.specs.Nameable.{is_named}
use Rattle.pc_text.specs.Named.{has_names}
use Rattle.pc_file.specs.PrintedForm.{header_line, cost_line, variable_line, value_line, rule_line, end_line, variable_lines, with_feed, text_of_lines, printed}

-- one item more of those that are gone through
pub flat_map-more : {X A : Type 0} (f : X → List A) (xs : List X) (n : ℕ) (x : X) → n < length xs → x ≡ get_or xs n x → flat_map f (take (n + 1) xs) ≡ flat_map f (take n xs) ++ f x
flat_map-more f xs n x below is =
    ap (flat_map f) (take_more xs n x below) ∙ flat_map-append f (take n xs) (get_or xs n x ∷ [])
    ∙ ap (λ y. flat_map f (take n xs) ++ (f y ++ [])) (sym is) ∙ ap (λ more. flat_map f (take n xs) ++ more) (append-nil (f x))

pub list_all-more : {X : Type 0} (test : X → Bool) (xs : List X) (n : ℕ) (x : X) → n < length xs → x ≡ get_or xs n x → list_all test (take n xs) ≡ true → test x ≡ true → list_all test (take (n + 1) xs) ≡ true
list_all-more test xs n x below is before here =
    ap (list_all test) (take_more xs n x below) ∙ list_all-append test (take n xs) (get_or xs n x ∷ [])
    ∙ and_from (list_all test (take n xs)) (test (get_or xs n x) && true) before (and_from (test (get_or xs n x)) true (ap test (sym is) ∙ here) refl)

-- the text of a variable: its line, and the lines of its values
abbrev pub variable_text : ℕ → Variable → List ℕ
variable_text costs variable = with_feed (variable_line variable.name) ++ flat_map (λ value. with_feed (value_line costs value)) variable.values

variables-parts : (costs : ℕ) (variables : List Variable) → text_of_lines (flat_map (variable_lines costs) variables) ≡ flat_map (variable_text costs) variables
variables-parts costs [] = refl
variables-parts costs (variable ∷ variables) =
    flat_map-append with_feed (variable_lines costs variable) (flat_map (variable_lines costs) variables)
    ∙ ap (λ l. with_feed (variable_line variable.name) ++ l ++ text_of_lines (flat_map (variable_lines costs) variables)) (flat_map-map with_feed (value_line costs) variable.values)
    ∙ ap (λ l. variable_text costs variable ++ l) (variables-parts costs variables)

-- the text of a file: its header, its costs, its variables, its rules and its end
pub printed_parts : (file : Contents) →
    printed file ≡ with_feed header_line ++ flat_map (λ name. with_feed (cost_line name)) file.costs
    ++ flat_map (λ variable. with_feed (variable_line variable.name) ++ flat_map (λ value. with_feed (value_line (length file.costs) value)) variable.values) file.variables
    ++ flat_map (λ rule. with_feed (rule_line file.variables rule)) file.rules ++ with_feed end_line
printed_parts file =
    let costs : List ℕ = flat_map (λ name. with_feed (cost_line name)) file.costs in
    let variables : List ℕ = flat_map (variable_text (length file.costs)) file.variables in
    let rules : List ℕ = flat_map (λ rule. with_feed (rule_line file.variables rule)) file.rules in
    let head = with_feed header_line in
    let last = with_feed end_line in
    let later = flat_map (variable_lines (length file.costs)) file.variables ++ (map (rule_line file.variables) file.rules ++ end_line ∷ []) in
    let end_text : text_of_lines (end_line ∷ []) ≡ last = append-nil last in
    let rules_text : text_of_lines (map (rule_line file.variables) file.rules ++ end_line ∷ []) ≡ rules ++ last =
    flat_map-append with_feed (map (rule_line file.variables) file.rules) (end_line ∷ []) ∙ ap (λ l. l ++ text_of_lines (end_line ∷ [])) (flat_map-map with_feed (rule_line file.variables) file.rules)
    ∙ ap (λ l. rules ++ l) end_text in
    let later_text : text_of_lines later ≡ variables ++ (rules ++ last) =
    flat_map-append with_feed (flat_map (variable_lines (length file.costs)) file.variables) (map (rule_line file.variables) file.rules ++ end_line ∷ [])
    ∙ ap (λ l. l ++ text_of_lines (map (rule_line file.variables) file.rules ++ end_line ∷ [])) (variables-parts (length file.costs) file.variables)
    ∙ ap (λ l. variables ++ l) rules_text in
    ap (λ l. head ++ l) (flat_map-append with_feed (map cost_line file.costs) later ∙ ap (λ l. l ++ text_of_lines later) (flat_map-map with_feed cost_line file.costs) ∙ ap (λ l. costs ++ l) later_text)
    ∙ sym (append_assoc head costs (variables ++ (rules ++ last)))
    ∙ sym (append_assoc (head ++ costs) variables (rules ++ last))
    ∙ sym (append_assoc (head ++ costs ++ variables) rules last)

-- a variable whose names were printed has names
pub named_parts : (variable : Variable) → is_name variable.name ≡ true → list_all (λ value. is_name value.name) variable.values ≡ true → is_named variable ≡ true
named_parts variable own values = and_from (is_name variable.name) (list_all is_name (value_names variable)) own (list_all-map is_name (λ value. value.name) variable.values ∙ values)

-- and a file whose names were printed
pub file_named : (file : Contents) → list_all is_name file.costs ≡ true → list_all is_named file.variables ≡ true → has_names file ≡ true
file_named file costs variables = and_from (list_all is_name file.costs) (list_all is_named file.variables) costs variables
