-- The bytes of the printed lines of statements, one after the other.
use Rattle.std.proofs.Common.{◌≡◌, ℕ, ◌+◌, nat_le, true, List, [], ◌∷◌, ◌++◌, length, map, Option, Some, None, refl, sym, ap, ◌∙◌, arith}
use Rattle.std.specs.Prelude.{option_and_then, is_some}
use Rattle.std.specs.List.{flat_map, list_all}
use Rattle.std.proofs.lemmas.Bool.{and_from}
use Rattle.std.proofs.lemmas.Bool.Decides.{nat_tests}
use Rattle.std.proofs.lemmas.List.{map-append}
use Rattle.pc_file.specs.declared.variable.Variable.{Variable}
use Rattle.pc_file.specs.Contents.{Contents}
use Rattle.pc_file.specs.PrintedForm.{header_line, cost_line, variable_line, value_line, rule_line, end_line, variable_lines, printed_lines, text_of_lines}
use Rattle.pc_file.specs.PrintedSize.{is_short_line, with_line, with_lines, IsPrintable}
use Rattle.pc_file.proofs.LineSizeLemmas.{keeps_limits, printable}
use Rattle.pc_text.specs.Given.{print_more}
use Rattle.pc_text.specs.Orders.{print_fault}
use Rattle.pc_text.specs.Statement.{Statement, header, a_cost, a_variable, a_value, a_rule, end, variable_statements, statements}

-- the printed line of a statement in a file of so many costs and these variables
abbrev pub statement_line : ℕ → List Variable → Statement → List ℕ
statement_line costs variables header = header_line
statement_line costs variables (a_cost name) = cost_line name
statement_line costs variables (a_variable name) = variable_line name
statement_line costs variables (a_value value) = value_line costs value
statement_line costs variables (a_rule rule) = rule_line variables rule
statement_line costs variables end = end_line

-- the bytes with several printed lines more
abbrev pub print_all : Option ℕ → List (List ℕ) → Option ℕ
print_all printed [] = printed
print_all printed (line ∷ lines) = print_all (print_more printed line) lines

print_all-none : (lines : List (List ℕ)) → print_all None lines ≡ None
print_all-none [] = refl
print_all-none (line ∷ lines) = print_all-none lines

print_all-is : (printed : Option ℕ) (lines : List (List ℕ)) → print_all printed lines ≡ option_and_then (λ bytes. with_lines bytes lines) printed
print_all-is None lines = print_all-none lines
print_all-is (Some bytes) [] = refl
print_all-is (Some bytes) (line ∷ lines) = print_all-is (with_line bytes (length line)) lines

-- where there are bytes at the end, there were at the beginning
pub print_all-some : (printed : Option ℕ) (lines : List (List ℕ)) (total : ℕ) → print_all printed lines ≡ Some total → print_fault printed ≡ None
print_all-some (Some bytes) lines total told = refl
print_all-some None lines total told = let none = print_all-none lines in absurd cc

pub without_fault : (printed : Option ℕ) → print_fault printed ≡ None → (total : ℕ) × (printed ≡ Some total)
without_fault (Some total) none = (total, refl)
without_fault None none = absurd cc

map-same : {X : Type 0} (f : Statement → List ℕ) (g : X → Statement) (h : X → List ℕ) → ((x : X) → f (g x) ≡ h x) → (xs : List X) → map f (map g xs) ≡ map h xs
map-same f g h same [] = refl
map-same f g h same (x ∷ xs) = rw (same x, map-same f g h same xs) refl

module _ (costs : ℕ) (variables : List Variable) where
  abbrev line : Statement → List ℕ
  line = statement_line costs variables

  of_variables : (vs : List Variable) → map line (flat_map variable_statements vs) ≡ flat_map (variable_lines costs) vs
  of_variables [] = refl
  of_variables (v ∷ vs) =
      map-append line (variable_statements v) (flat_map variable_statements vs)
      ∙ ap (λ l. variable_line v.name ∷ l ++ map line (flat_map variable_statements vs)) (map-same line a_value (value_line costs) (λ value. refl) v.values)
      ∙ ap (λ l. variable_lines costs v ++ l) (of_variables vs)

-- the printed lines of a file are those of its statements
pub statement_lines : (file : Contents) → map (statement_line (length file.costs) file.variables) (statements file) ≡ printed_lines file
statement_lines file =
    let f = statement_line (length file.costs) file.variables in
    let vs = flat_map variable_statements file.variables in
    let last = map a_rule file.rules ++ end ∷ [] in
    let rules : map f last ≡ map (rule_line file.variables) file.rules ++ end_line ∷ [] =
    map-append f (map a_rule file.rules) (end ∷ []) ∙ ap (λ l. l ++ end_line ∷ []) (map-same f a_rule (rule_line file.variables) (λ rule. refl) file.rules) in
    let later : map f (vs ++ last) ≡ flat_map (variable_lines (length file.costs)) file.variables ++ (map (rule_line file.variables) file.rules ++ end_line ∷ []) =
    map-append f vs last ∙ ap (λ l. l ++ map f last) (of_variables (length file.costs) file.variables file.variables)
    ∙ ap (λ l. flat_map (variable_lines (length file.costs)) file.variables ++ l) rules in
    ap (λ l. header_line ∷ l)
    (map-append f (map a_cost file.costs) (vs ++ last) ∙ ap (λ l. l ++ map f (vs ++ last)) (map-same f a_cost cost_line (λ name. refl) file.costs) ∙ ap (λ l. map cost_line file.costs ++ l) later)

-- a file is printable where its statements are counted to the end
pub printed_so : (file : Contents) (total : ℕ) → print_all (Some 0) (map (statement_line (length file.costs) file.variables) (statements file)) ≡ Some total → IsPrintable file
printed_so file total told =
    printable file total (sym (print_all-is (Some 0) (printed_lines file)) ∙ ap (print_all (Some 0)) (sym (statement_lines file)) ∙ told)

-- and the other way round
pub counted_to_end : (file : Contents) → IsPrintable file →
    (total : ℕ) × (print_all (Some 0) (map (statement_line (length file.costs) file.variables) (statements file)) ≡ Some total)
counted_to_end file is =
    let lines = printed_lines file in
    let small = is.bytes_at_most in
    let within : nat_le (0 + length (text_of_lines lines)) 1048576 ≡ true = grind (arith, nat_tests) in
    let told : is_some (with_lines 0 lines) ≡ true = keeps_limits 0 lines (omega arith) ∙ and_from (list_all is_short_line lines) (nat_le (0 + length (text_of_lines lines)) 1048576) is.each_line within in
    let all = some_total (with_lines 0 lines) told in
    (all.0, ap (print_all (Some 0)) (statement_lines file) ∙ print_all-is (Some 0) lines ∙ all.1)
  where
    some_total : (printed : Option ℕ) → is_some printed ≡ true → (total : ℕ) × (printed ≡ Some total)
    some_total (Some total) some = (total, refl)
    some_total None some = absurd cc
