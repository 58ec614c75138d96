-- The names by which variables and values are printed are looked up as those variables and values.
use Rattle.std.proofs.Common.{◌≡◌, ℕ, zero, suc, ◌+◌, ◌<◌, ◌≤◌, ◌^◌, nat_le, Bool, true, false, not, ◌||◌, List, [], ◌∷◌, length, map, Option, Some, None, Ok, position, slice_get, refl, ap, ◌∙◌, arith}
use Rattle.std.specs.Prelude.{◌==◌, is_some, option_and_then}
use Rattle.std.specs.List.{list_all, list_any, zip}
use Rattle.std.specs.Option.{option_map, unwrap_or}
use Rattle.std.proofs.lemmas.Option.{slice_get_within, slice_get-map}
use Rattle.std.proofs.lemmas.Bool.{and_parts, not-true, leb-true, le-leb, lt-ltb, eqb-true, and_from}
use Rattle.pc_base.specs.Distinct.{all_differ}
use Rattle.pc_names.specs.Name.{is_name}
use Rattle.pc_names.specs.Places.{IsFirstPlace}
use Rattle.pc_names.proofs.Places.{first_place_of_name, name_eq-Decides}
use Rattle.pc_file.specs.declared.catalogue.Catalogue.{Catalogue}
use Rattle.pc_file.specs.declared.variable.Value.{Value}
use Rattle.pc_file.specs.declared.variable.Variable.{Variable}
use Rattle.pc_names.specs.Spelling.{same_spelling}
use Rattle.pc_file.specs.Catalogue.{Indexes, variable_position, value_position}
use Rattle.pc_file.specs.Limits.{is_reserved, is_sized, has_variable, has_value, is_row, variable_names, value_names, values_differ}
use Rattle.pc_file.specs.PrintedRule.{printed_variable, printed_value}
use Rattle.pc_rules.specs.Parsed.{Parsed, ◌>>=◌}
use Rattle.pc_rules.specs.Naming.{position_or_unknown, variable_at, value_at, all_ok, variables_at, values_at, row_at, rows_at}
use Rattle.pc_print.specs.Nameable.{is_named, is_free, Nameable}
use Rattle.pc_rules.proofs.ListPlaces.{nowhere, at_place, all_at}

any_at : (test : List ℕ → Bool) (xs : List (List ℕ)) (n : ℕ) (x : List ℕ) → slice_get xs n ≡ Some x → test x ≡ true → list_any test xs ≡ true
any_at test [] n x at passes = absurd (nowhere n x at)
any_at test (y ∷ xs) zero x at passes = let same : test y ≡ true = ap (λ o. test (unwrap_or o x)) at ∙ passes in rw same refl
any_at test (y ∷ xs) (suc n) x at passes = rw (any_at test xs n x at passes) (or_true (test y))
  where
    or_true : (b : Bool) → (b || true) ≡ true
    or_true true = refl
    or_true false = refl

-- a name that differs from those after it isn't among them
apart : (y : List ℕ) (xs : List (List ℕ)) (n : ℕ) (x : List ℕ) → all_differ same_spelling (y ∷ xs) ≡ true → y ≡ x → slice_get xs n ≡ Some x → ⊥
apart y xs n x differ same at =
    let none = not-true (list_any (same_spelling y) xs) (and_parts (not (list_any (same_spelling y) xs)) (all_differ same_spelling xs) differ).0 in
    let some = any_at (same_spelling y) xs n x at ((name_eq-Decides y x).1 same) in
    absurd cc

one_place : (xs : List (List ℕ)) (m n : ℕ) (x : List ℕ) → all_differ same_spelling xs ≡ true → slice_get xs m ≡ Some x → slice_get xs n ≡ Some x → m ≡ n
one_place [] m n x differ at at' = absurd (nowhere m x at)
one_place (y ∷ xs) zero zero x differ at at' = refl
one_place (y ∷ xs) zero (suc n) x differ at at' = absurd (apart y xs n x differ (ap (λ o. unwrap_or o x) at) at')
one_place (y ∷ xs) (suc m) zero x differ at at' = absurd (apart y xs m x differ (ap (λ o. unwrap_or o x) at') at)
one_place (y ∷ xs) (suc m) (suc n) x differ at at' =
    ap suc (one_place xs m n x (and_parts (not (list_any (same_spelling y) xs)) (all_differ same_spelling xs) differ).1 at at')

-- of names that differ, the position of each is its own
own_position : (xs : List (List ℕ)) (n : ℕ) (x : List ℕ) → all_differ same_spelling xs ≡ true → slice_get xs n ≡ Some x → position (same_spelling x) xs ≡ Some n
own_position xs n x differ at = by (position (same_spelling x) xs) (first_place_of_name xs x (position (same_spelling x) xs) refl)
  where
    by : (found : Option ℕ) → IsFirstPlace xs x found → found ≡ Some n
    by None none = absurd (none n at)
    by (Some m) place = ap Some (one_place xs m n x differ place.0 at)

position-ok : (found : Option ℕ) (n : ℕ) → found ≡ Some n → n < 64 → position_or_unknown found ≡ Ok n
position-ok found n is few = rw is (rw (lt-ltb n (2 ^ 32) (omega arith)) refl)

module _ (names : Catalogue) (variables : List Variable) (holds : Indexes names variables) (are : Nameable variables) where
  all_names_differ : all_differ same_spelling (variable_names variables) ≡ true
  all_names_differ = (and_parts (all_differ same_spelling (variable_names variables)) (list_all values_differ variables) are.differ).0

  -- a variable by its position
  pub record Found (v : ℕ) : Type 0 where
    pub variable : Variable
    pub at : slice_get variables v ≡ Some variable
    pub below : v < 64

  pub found : (v : ℕ) → has_variable variables v ≡ true → Found v
  found v has =
      let within : v + 1 ≤ length variables = leb-true (v + 1) (length variables) has in
      let there = at_place variables v (omega arith) in
      record { variable = there.0; at = there.1; below = omega (arith, are.at_most) }

  printed_variable-is : (v : ℕ) (variable : Variable) → slice_get variables v ≡ Some variable → printed_variable variables v ≡ variable.name
  printed_variable-is v variable at = ap (λ o. unwrap_or (option_map (λ (x : Variable). x.name) o) []) at

  pub variable-named : (v : ℕ) → has_variable variables v ≡ true → is_name (printed_variable variables v) ≡ true
  variable-named v has =
      let f = found v has in
      ap is_name (printed_variable-is v f.variable f.at) ∙ (and_parts (is_name f.variable.name) (list_all is_name (value_names f.variable)) (all_at is_named variables v f.variable are.each_named f.at)).0

  pub variable-free : (v : ℕ) → has_variable variables v ≡ true → is_reserved (printed_variable variables v) ≡ false
  variable-free v has =
      let f = found v has in
      ap is_reserved (printed_variable-is v f.variable f.at) ∙ not-true (is_reserved f.variable.name) (all_at is_free variables v f.variable are.each_free f.at)

  pub variable-own : (v : ℕ) → has_variable variables v ≡ true → variable_at names (printed_variable variables v) ≡ Ok v
  unfolding variable_at
  variable-own v has =
      let f = found v has in
      let name = f.variable.name in
      let at : slice_get (variable_names variables) v ≡ Some name = slice_get-map (λ (x : Variable). x.name) variables v ∙ ap (option_map (λ (x : Variable). x.name)) f.at in
      let place : variable_position names name ≡ Some v = ap (position (same_spelling name)) holds.variables_are ∙ own_position (variable_names variables) v name all_names_differ at in
      let named : is_name name ≡ true = (and_parts (is_name name) (list_all is_name (value_names f.variable)) (all_at is_named variables v f.variable are.each_named f.at)).0 in
      ap (variable_at names) (printed_variable-is v f.variable f.at) ∙ rw named (position-ok (variable_position names name) v place f.below)

  -- a value by its position
  pub record FoundValue (v a : ℕ) : Type 0 where
    pub variable : Variable
    pub value : Value
    pub at : slice_get variables v ≡ Some variable
    pub at_value : slice_get variable.values a ≡ Some value
    pub in_variables : has_variable variables v ≡ true

  value_there : (v a : ℕ) (found_variable : Option Variable) → slice_get variables v ≡ found_variable →
      is_some (option_and_then (λ (x : Variable). option_map (λ (y : Value). y.name) (slice_get x.values a)) found_variable) ≡ true → FoundValue v a
  value_there v a None at has = absurd cc
  value_there v a (Some variable) at has = by (slice_get variable.values a) refl has
    where
      within : has_variable variables v ≡ true
      within = let below : v < length variables = slice_get_within variables v variable at in le-leb (v + 1) (length variables) (omega arith)

      by : (o : Option Value) → slice_get variable.values a ≡ o → is_some (option_map (λ (y : Value). y.name) o) ≡ true → FoundValue v a
      by None at_value has = absurd cc
      by (Some value) at_value has = record { variable = variable; value = value; at = at; at_value = at_value; in_variables = within }

  found_value : (v a : ℕ) → has_value variables v a ≡ true → FoundValue v a
  found_value v a has = value_there v a (slice_get variables v) refl has

  pub has_value-variable : (v a : ℕ) → has_value variables v a ≡ true → has_variable variables v ≡ true
  has_value-variable v a has = (found_value v a has).in_variables

  printed_value-is : (v a : ℕ) (f : FoundValue v a) → printed_value variables v a ≡ f.value.name
  printed_value-is v a f =
      ap (λ o. unwrap_or (option_and_then (λ (x : Variable). option_map (λ (y : Value). y.name) (slice_get x.values a)) o) []) f.at
      ∙ ap (λ o. unwrap_or (option_map (λ (y : Value). y.name) o) []) f.at_value

  name_at : (v a : ℕ) (f : FoundValue v a) → slice_get (value_names f.variable) a ≡ Some f.value.name
  name_at v a f = slice_get-map (λ (y : Value). y.name) f.variable.values a ∙ ap (option_map (λ (y : Value). y.name)) f.at_value

  found-named : (v a : ℕ) (f : FoundValue v a) → is_name f.value.name ≡ true
  found-named v a f =
      let each = (and_parts (is_name f.variable.name) (list_all is_name (value_names f.variable)) (all_at is_named variables v f.variable are.each_named f.at)).1 in
      all_at is_name (value_names f.variable) a f.value.name each (name_at v a f)

  pub value-named : (v a : ℕ) → has_value variables v a ≡ true → is_name (printed_value variables v a) ≡ true
  value-named v a has = let f = found_value v a has in ap is_name (printed_value-is v a f) ∙ found-named v a f

  pub value-own : (v a : ℕ) → has_value variables v a ≡ true → value_at names v (printed_value variables v a) ≡ Ok a
  unfolding value_at
  value-own v a has =
      let f = found_value v a has in
      let name = f.value.name in
      let differ : all_differ same_spelling (value_names f.variable) ≡ true =
      all_at values_differ variables v f.variable (and_parts (all_differ same_spelling (variable_names variables)) (list_all values_differ variables) are.differ).1 f.at in
      let list : slice_get names.values v ≡ Some (value_names f.variable) =
      ap (λ l. slice_get l v) holds.values_are ∙ slice_get-map value_names variables v ∙ ap (option_map value_names) f.at in
      let place : value_position names v name ≡ Some a =
      ap (option_and_then (position (same_spelling name))) list ∙ own_position (value_names f.variable) a name differ (name_at v a f) in
      let sized = and_parts (nat_le 1 (length f.variable.values)) (nat_le (length f.variable.values) 64) (all_at is_sized variables v f.variable are.each_sized f.at) in
      let below : a < length f.variable.values = slice_get_within f.variable.values a f.value f.at_value in
      let few : length f.variable.values ≤ 64 = leb-true (length f.variable.values) 64 sized.1 in
      ap (value_at names v) (printed_value-is v a f) ∙ rw (found-named v a f) (position-ok (value_position names v name) a place (omega arith))

  -- ---- lists of them

  ok-cons : {A : Type 0} (x : A) (xs : List A) (first : Parsed A) (rest : Parsed (List A)) → first ≡ Ok x → rest ≡ Ok xs → (first >>= λ y. rest >>= λ more. Ok (y ∷ more)) ≡ Ok (x ∷ xs)
  ok-cons x xs first rest e f = ap (λ o. o >>= λ y. rest >>= λ more. Ok (y ∷ more)) e ∙ ap (λ o. o >>= λ more. Ok (x ∷ more)) f

  variables-all : (these : List ℕ) → list_all (has_variable variables) these ≡ true → all_ok (map (variable_at names) (map (printed_variable variables) these)) ≡ Ok these
  variables-all [] all = refl
  variables-all (v ∷ these) all =
      let two = and_parts (has_variable variables v) (list_all (has_variable variables) these) all in
      ok-cons v these (variable_at names (printed_variable variables v)) (all_ok (map (variable_at names) (map (printed_variable variables) these))) (variable-own v two.0) (variables-all these two.1)

  pub variables-own : (these : List ℕ) → list_all (has_variable variables) these ≡ true → variables_at names (map (printed_variable variables) these) ≡ Ok these
  unfolding variables_at
  variables-own these all = variables-all these all

  values-all : (v : ℕ) (values : List ℕ) → list_all (has_value variables v) values ≡ true → all_ok (map (value_at names v) (map (printed_value variables v) values)) ≡ Ok values
  values-all v [] all = refl
  values-all v (a ∷ values) all =
      let two = and_parts (has_value variables v a) (list_all (has_value variables v) values) all in
      ok-cons a values (value_at names v (printed_value variables v a)) (all_ok (map (value_at names v) (map (printed_value variables v) values))) (value-own v a two.0) (values-all v values two.1)

  pub values-own : (v : ℕ) (values : List ℕ) → list_all (has_value variables v) values ≡ true → values_at names v (map (printed_value variables v) values) ≡ Ok values
  unfolding values_at
  values-own v values all = values-all v values all

  -- the words of a row
  abbrev pub row_words : List ℕ → List ℕ → List (List ℕ)
  row_words these row = map (λ (p : ℕ × ℕ). printed_value variables p.0 p.1) (zip these row)

  row-all : (these row : List ℕ) → length row ≡ length these → list_all (λ p. has_value variables p.0 p.1) (zip these row) ≡ true → all_ok (map (λ p. value_at names p.0 p.1) (zip these (row_words these row))) ≡ Ok row
  row-all [] [] same all = refl
  row-all [] (a ∷ row) same all = absurd (omega arith)
  row-all (v ∷ these) [] same all = absurd (omega arith)
  row-all (v ∷ these) (a ∷ row) same all =
      let two = and_parts (has_value variables v a) (list_all (λ p. has_value variables p.0 p.1) (zip these row)) all in
      ok-cons a row (value_at names v (printed_value variables v a)) (all_ok (map (λ p. value_at names p.0 p.1) (zip these (row_words these row)))) (value-own v a two.0) (row-all these row (omega arith) two.1)

  row-own : (these row : List ℕ) → is_row variables these row ≡ true → row_at names these (row_words these row) ≡ Ok row
  unfolding row_at
  row-own these row is =
      let two = and_parts (length row == length these) (list_all (λ p. has_value variables p.0 p.1) (zip these row)) is in
      row-all these row (eqb-true (length row) (length these) two.0) two.1

  rows-all : (these : List ℕ) (rows : List (List ℕ)) → list_all (is_row variables these) rows ≡ true → all_ok (map (row_at names these) (map (row_words these) rows)) ≡ Ok rows
  rows-all these [] all = refl
  rows-all these (row ∷ rows) all =
      let two = and_parts (is_row variables these row) (list_all (is_row variables these) rows) all in
      ok-cons row rows (row_at names these (row_words these row)) (all_ok (map (row_at names these) (map (row_words these) rows))) (row-own these row two.0) (rows-all these rows two.1)

  pub rows-own : (these : List ℕ) (rows : List (List ℕ)) → list_all (is_row variables these) rows ≡ true → rows_at names these (map (row_words these) rows) ≡ Ok rows
  unfolding rows_at
  rows-own these rows all = rows-all these rows all

  -- ---- words that are names

  pub variables-named : (these : List ℕ) → list_all (has_variable variables) these ≡ true → list_all is_name (map (printed_variable variables) these) ≡ true
  variables-named [] all = refl
  variables-named (v ∷ these) all =
      let two = and_parts (has_variable variables v) (list_all (has_variable variables) these) all in
      and_from (is_name (printed_variable variables v)) (list_all is_name (map (printed_variable variables) these)) (variable-named v two.0) (variables-named these two.1)

  pub variables-free : (these : List ℕ) → list_all (has_variable variables) these ≡ true → list_all (λ word. not (is_reserved word)) (map (printed_variable variables) these) ≡ true
  variables-free [] all = refl
  variables-free (v ∷ these) all =
      let two = and_parts (has_variable variables v) (list_all (has_variable variables) these) all in
      and_from (not (is_reserved (printed_variable variables v))) (list_all (λ word. not (is_reserved word)) (map (printed_variable variables) these)) (ap not (variable-free v two.0)) (variables-free these two.1)

  pub values-named : (v : ℕ) (values : List ℕ) → list_all (has_value variables v) values ≡ true → list_all is_name (map (printed_value variables v) values) ≡ true
  values-named v [] all = refl
  values-named v (a ∷ values) all =
      let two = and_parts (has_value variables v a) (list_all (has_value variables v) values) all in
      and_from (is_name (printed_value variables v a)) (list_all is_name (map (printed_value variables v) values)) (value-named v a two.0) (values-named v values two.1)

  row-named : (these row : List ℕ) → list_all (λ p. has_value variables p.0 p.1) (zip these row) ≡ true → list_all is_name (row_words these row) ≡ true
  row-named [] row all = refl
  row-named (v ∷ these) [] all = refl
  row-named (v ∷ these) (a ∷ row) all =
      let two = and_parts (has_value variables v a) (list_all (λ p. has_value variables p.0 p.1) (zip these row)) all in
      and_from (is_name (printed_value variables v a)) (list_all is_name (row_words these row)) (value-named v a two.0) (row-named these row two.1)

  row-length : (these row : List ℕ) → length row ≡ length these → length (row_words these row) ≡ length these
  row-length [] row same = refl
  row-length (v ∷ these) [] same = absurd (omega arith)
  row-length (v ∷ these) (a ∷ row) same = ap suc (row-length these row (omega arith))

  -- a row of so many names
  pub record RowIs (these row : List ℕ) : Type 0 where
    pub named : list_all is_name (row_words these row) ≡ true
    pub long : length (row_words these row) ≡ length these

  pub row-is : (these row : List ℕ) → is_row variables these row ≡ true → RowIs these row
  row-is these row is =
      let two = and_parts (length row == length these) (list_all (λ p. has_value variables p.0 p.1) (zip these row)) is in
      record { named = row-named these row two.1; long = row-length these row (eqb-true (length row) (length these) two.0) }
