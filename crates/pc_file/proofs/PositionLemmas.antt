-- Positions of names.
use Rattle.std.proofs.Common.{◌≡◌, ℕ, zero, suc, ◌<◌, ◌≤◌, true, nat_le, List, [], ◌∷◌, length, Option, None, Some, refl, sym, ap, ◌∙◌, arith}
use Rattle.std.specs.Prelude.{option_and_then, option_map, slice_get, position}
use Rattle.std.specs.List.{list_all}
use Rattle.std.proofs.lemmas.Bool.Decides.{nat_tests}
use Rattle.std.proofs.lemmas.List.Quantifiers.{position-Some}
use Rattle.std.proofs.lemmas.List.{length-map}
use Rattle.std.proofs.lemmas.Option.{slice_get-map, option_and_then_some}
use Rattle.pc_base.proofs.DistinctLemmas.{both_true_parts}
use Rattle.pc_file.specs.declared.catalogue.Catalogue.{Catalogue}
use Rattle.pc_file.specs.declared.variable.Value.{Value}
use Rattle.pc_file.specs.declared.variable.Variable.{Variable}
use Rattle.pc_names.specs.Spelling.{same_spelling}
use Rattle.pc_file.specs.Limits.{Contents, IsFile, is_sized, value_names}
use Rattle.pc_file.specs.Catalogue.{Indexes, value_position}
use Rattle.pc_file.specs.Positions.{value_named}
use Rattle.pc_file.proofs.ProductLemmas.{sized}

through_map : (place : List (List ℕ) → Option ℕ) (o : Option Variable) → option_and_then place (option_map value_names o) ≡ option_and_then (λ v. place (value_names v)) o
through_map place None = refl
through_map place (Some v) = refl

-- what the catalogue of a file finds
pub value_position_is : (names : Catalogue) (file : Contents) (variable : ℕ) (name : List ℕ) → Indexes names file.variables → value_position names variable name ≡ value_named file variable name
value_position_is names file variable name indexes =
    let place = position (same_spelling name) in
    ap (λ values. option_and_then place (slice_get values variable)) indexes.values_are ∙ ap (option_and_then place) (slice_get-map value_names file.variables variable)
    ∙ through_map place (slice_get file.variables variable)

few_values : (variables : List Variable) (k : ℕ) (v : Variable) → list_all is_sized variables ≡ true → slice_get variables k ≡ Some v → length v.values ≤ 64
few_values [] k v h at = absurd cc
few_values (x ∷ xs) zero v h at =
    let parts = both_true_parts (is_sized x) (list_all is_sized xs) h in
    let most = both_true_parts (nat_le 1 (length x.values)) (nat_le (length x.values) 64) parts.0 in
    let few : length x.values ≤ 64 = grind (arith, nat_tests, most.1) in
    let same : x ≡ v = cc in
    rw (sym same) few
few_values (x ∷ xs) (suc k) v h at = few_values xs k v (both_true_parts (is_sized x) (list_all is_sized xs) h).1 at

-- a file has at most 64 values of a variable
pub value_below : (file : Contents) (variable : ℕ) (name : List ℕ) (i : ℕ) → IsFile file → value_named file variable name ≡ Some i → i < 64
value_below file variable name i limits is =
    option_and_then_some (λ v. position (same_spelling name) (value_names v)) (slice_get file.variables variable) i is
    (λ v at found.
    let within = (position-Some (same_spelling name) (value_names v) i [] found).0 in
    let few = few_values file.variables variable v (sized (length file.costs) file.variables limits.each_variable) at in
    omega (arith, length-map v.values (λ (value : Value). value.name)))
