-- What names lead to in the target is there, and different variables lead to different ones.
use Rattle.std.proofs.Common.{◌≡◌, ℕ, zero, suc, ◌==◌, ◌+◌, ◌<◌, Bool, true, false, not, ◌||◌, List, [], ◌∷◌, ◌++◌, length, get_or, drop, All, Option, Some, None, option_map, refl, sym, subst, ap, ◌∙◌, arith}
use Rattle.std.specs.Prelude.{Ok, Err, slice_get, position, unwrap_or}
use Rattle.std.specs.List.{list_any}
use Rattle.std.proofs.lemmas.Bool.{and_parts, or_parts, or_from, not-true}
use Rattle.std.proofs.lemmas.Bool.Decides.{nat_tests}
use Rattle.std.proofs.lemmas.List.{append-nil, append_assoc, drop_more, length-map}
use Rattle.std.proofs.lemmas.List.Elements.{All-nil, All-cons, All-head, All-tail, All-push}
use Rattle.std.proofs.lemmas.List.Quantifiers.{position-Some}
use Rattle.std.proofs.lemmas.Option.{get_or_from_slice_get, none-some, option_and_then_some, slice_get-get_or, slice_get-map}
use Rattle.pc_base.specs.Distinct.{all_differ}
use Rattle.pc_names.specs.Spelling.{same_spelling}
use Rattle.pc_names.proofs.Places.{first_place_of_name, name_eq-Decides}
use Rattle.pc_diagram.specs.declared.choice.Choice.{Choice}
use Rattle.pc_diagram.specs.Choices.{are_distinct, is_chosen}
use Rattle.pc_diagram.specs.NodePaths.{AreChoicesOf, IsChoiceOf}
use Rattle.pc_domains.specs.Sides.{AreDistinctOf}
use Rattle.pc_file.specs.declared.variable.Variable.{Variable}
use Rattle.pc_file.specs.Contents.{Contents}
use Rattle.pc_file.specs.Full.{full_domains}
use Rattle.pc_file.specs.Limits.{IsFile, value_names, variable_names}
use Rattle.pc_calls.specs.declared.outcome.Outcome.{Outcome}
use Rattle.pc_calls.specs.declared.outcome.Outcome.TheVariants.{Lost}
use Rattle.pc_calls.specs.Carry.{carried_value, carried_variable, carry_choice, carry_choices, value_name, variable_name}
use Rattle.pc_calls.specs.Decision.{Decision, ◌>>=◌, required}
use Rattle.pc_session.specs.Moving.{IsNew}

-- ---- names that differ

nowhere : (n : ℕ) (x : List ℕ) → slice_get [] n ≡ Some x → ⊥
nowhere n x = none-some x

any_at : (test : List ℕ → Bool) (xs : List (List ℕ)) (n : ℕ) (x : List ℕ) → slice_get xs n ≡ Some x → test x ≡ true → list_any test xs ≡ true
any_at test [] n x at passes = absurd (nowhere n x at)
any_at test (y ∷ xs) zero x at passes = let same : test y ≡ true = ap (λ o. test (unwrap_or o x)) at ∙ passes in rw same refl
any_at test (y ∷ xs) (suc n) x at passes = rw (any_at test xs n x at passes) (or_true (test y))
  where
    or_true : (b : Bool) → (b || true) ≡ true
    or_true true = refl
    or_true false = refl

apart : (y : List ℕ) (xs : List (List ℕ)) (n : ℕ) (x : List ℕ) → all_differ same_spelling (y ∷ xs) ≡ true → y ≡ x → slice_get xs n ≡ Some x → ⊥
apart y xs n x differ same at =
    let none = not-true (list_any (same_spelling y) xs) (and_parts (not (list_any (same_spelling y) xs)) (all_differ same_spelling xs) differ).0 in
    let some = any_at (same_spelling y) xs n x at ((name_eq-Decides y x).1 same) in
    absurd cc

-- of names that differ, each stands at one place
one_place : (xs : List (List ℕ)) (m n : ℕ) (x : List ℕ) → all_differ same_spelling xs ≡ true → slice_get xs m ≡ Some x → slice_get xs n ≡ Some x → m ≡ n
one_place [] m n x differ at at' = absurd (nowhere m x at)
one_place (y ∷ xs) zero zero x differ at at' = refl
one_place (y ∷ xs) zero (suc n) x differ at at' = absurd (apart y xs n x differ (ap (λ o. unwrap_or o x) at) at')
one_place (y ∷ xs) (suc m) zero x differ at at' = absurd (apart y xs m x differ (ap (λ o. unwrap_or o x) at') at)
one_place (y ∷ xs) (suc m) (suc n) x differ at at' =
    ap suc (one_place xs m n x (and_parts (not (list_any (same_spelling y) xs)) (all_differ same_spelling xs) differ).1 at at')

-- what is left of choices, from one of them on
pub left_from : (choices items : List Choice) (i : ℕ) (d : Choice) → items ≡ choices → i < length items → drop i choices ≡ get_or items i d ∷ drop (i + 1) choices
left_from choices items i d same below = ap (drop i) (sym same) ∙ drop_more items i d below ∙ ap (λ l. get_or items i d ∷ drop (i + 1) l) same

-- ---- a choice that is carried over

-- what is required is there where the decision is made
required_there : {A B : Type 0} (found : Option A) (refusal : Outcome) (next : A → Decision B) (y : B) → (required found refusal >>= next) ≡ Ok y → (x : A) × (found ≡ Some x) × (next x ≡ Ok y)
required_there (Some x) refusal next y h = (x, refl, h)
required_there None refusal next y h = absurd cc

module _ (file target : Contents) where
  -- the positions that its names have
  record IsCarried (choice carried : Choice) : Type 0 where
    variable_is : carried_variable file target choice.variable ≡ Some carried.variable
    value_is : carried_value file target choice carried.variable ≡ Some carried.value

  carried_parts : (choice carried : Choice) → carry_choice file target choice ≡ Ok carried → IsCarried choice carried
  carried_parts choice carried h =
      let at = required_there (carried_variable file target choice.variable) (Lost (variable_name file choice.variable))
      (λ variable. required (carried_value file target choice variable) (Lost (value_name file choice.variable choice.value)) >>= (λ value. Ok (record { variable = variable; value = value }))) carried h in
      let in_it = required_there (carried_value file target choice at.0) (Lost (value_name file choice.variable choice.value)) (λ value. Ok (record { variable = at.0; value = value })) carried at.2 in
      let P : Choice → Type 0 = IsCarried choice in
      let made : Choice = record { variable = at.0; value = in_it.0 } in
      let same : made ≡ carried = cc in
      subst P same (record { variable_is = at.1; value_is = in_it.1 })

  pub carried_variable_is : (choice carried : Choice) → carry_choice file target choice ≡ Ok carried → carried_variable file target choice.variable ≡ Some carried.variable
  carried_variable_is choice carried h = (carried_parts choice carried h).variable_is

  -- it is one of the target's
  pub carried_inside : (choice carried : Choice) → carry_choice file target choice ≡ Ok carried → IsChoiceOf (full_domains target) carried
  carried_inside choice carried h =
      let parts = carried_parts choice carried h in
      let names = variable_names target.variables in
      let within = (position-Some (same_spelling (variable_name file choice.variable)) names carried.variable [] parts.variable_is).0 in
      let many = length-map target.variables (λ (v : Variable). v.name) in
      let counts = length-map target.variables (λ (v : Variable). length v.values) in
      let name = value_name file choice.variable choice.value in (
        omega arith,
        option_and_then_some (λ v. position (same_spelling name) (value_names v)) (slice_get target.variables carried.variable) carried.value parts.value_is
            (λ v at found.
            let below = (position-Some (same_spelling name) (value_names v) carried.value [] found).0 in
            let long = length-map v.values (λ value. value.name) in
            let row : get_or (full_domains target) carried.variable 0 ≡ length v.values =
            get_or_from_slice_get (full_domains target) carried.variable (length v.values) 0
            (slice_get-map (λ (w : Variable). length w.values) target.variables carried.variable ∙ ap (option_map (λ (w : Variable). length w.values)) at) in
            omega arith),
      )

  -- where a name leads to, it stands
  name_there : (variable place : ℕ) → carried_variable file target variable ≡ Some place → slice_get (variable_names target.variables) place ≡ Some (variable_name file variable)
  name_there variable place is = (first_place_of_name (variable_names target.variables) (variable_name file variable) (Some place) (sym is)).0

  name_here : (variable : ℕ) → variable < length (full_domains file) → slice_get (variable_names file.variables) variable ≡ Some (variable_name file variable)
  name_here variable inside =
      let many = length-map file.variables (λ (v : Variable). v.name) in
      let counts = length-map file.variables (λ (v : Variable). length v.values) in
      slice_get-get_or (variable_names file.variables) variable [] (omega arith)

  -- two variables that lead to one are one
  one_variable : IsFile file → (first second place : ℕ) → first < length (full_domains file) → second < length (full_domains file)
      → carried_variable file target first ≡ Some place → carried_variable file target second ≡ Some place → first ≡ second
  one_variable limits first second place inside inside' is is' =
      let differ = (and_parts (all_differ same_spelling (variable_names file.variables)) _ limits.names_differ).0 in
      let same : Some (variable_name file first) ≡ Some (variable_name file second) = sym (name_there first place is) ∙ name_there second place is' in
      one_place (variable_names file.variables) first second (variable_name file second) differ (name_here first inside ∙ same) (name_here second inside')

  -- ---- choices that are still to be carried over are of variables that none was carried to

  chosen-push : (kept : List Choice) (next : Choice) (variable : ℕ) → is_chosen kept variable ≡ false → (next.variable == variable) ≡ false → is_chosen (kept ++ next ∷ []) variable ≡ false
  chosen-push [] next variable h k = or_from _ _ k refl
  chosen-push (c ∷ kept) next variable h k =
      let p = or_parts (c.variable == variable) (is_chosen kept variable) h in
      or_from _ _ p.0 (chosen-push kept next variable p.1 k)

  different : (m n : ℕ) → (m ≡ n → ⊥) → (m == n) ≡ false
  different m n h = by (m == n) refl
    where
      by : (b : Bool) → (m == n) ≡ b → b ≡ false
      by true e = absurd (h (grind (arith, nat_tests, e)))
      by false e = refl

  module _ (limits : IsFile file) (kept : List Choice) (choice next : Choice) (inside : IsChoiceOf (full_domains file) choice) (is : carried_variable file target choice.variable ≡ Some next.variable) where
    new_beside : (other : Choice) → IsChoiceOf (full_domains file) other → (other.variable == choice.variable) ≡ false → IsNew file target kept other → IsNew file target (kept ++ next ∷ []) other
    new_beside other inside' apart new variable at =
        chosen-push kept next variable (new variable at)
        (different next.variable variable
        (λ same.
        let one : other.variable ≡ choice.variable = one_variable limits other.variable choice.variable variable inside'.0 inside.0 at (is ∙ ap Some same) in
        let test : (other.variable == choice.variable) ≡ true = grind (arith, nat_tests) in
        absurd cc))

    pub new_after : (rest : List Choice) → is_chosen rest choice.variable ≡ false → AreChoicesOf (full_domains file) rest → All (IsNew file target kept) rest → All (IsNew file target (kept ++ next ∷ [])) rest
    new_after [] apart are new = All-nil (IsNew file target (kept ++ next ∷ []))
    new_after (other ∷ rest) apart are new =
        let p = or_parts (other.variable == choice.variable) (is_chosen rest choice.variable) apart in
        All-cons (IsNew file target (kept ++ next ∷ [])) other rest
        (new_beside other (All-head (IsChoiceOf (full_domains file)) other rest are) p.0 (All-head (IsNew file target kept) other rest new))
        (new_after rest p.1 (All-tail (IsChoiceOf (full_domains file)) other rest are) (All-tail (IsNew file target kept) other rest new))

  -- nothing is chosen yet
  pub all_new : (rest : List Choice) → All (IsNew file target []) rest
  all_new rest = λ k d below variable at. refl

  -- the first of distinct choices is of another variable than the rest
  pub first_apart : (choice : Choice) (rest : List Choice) → AreDistinctOf (full_domains file) (choice ∷ rest) → is_chosen rest choice.variable ≡ false
  first_apart choice rest are = not-true (is_chosen rest choice.variable) (and_parts (not (is_chosen rest choice.variable)) (are_distinct rest) are.distinct).0

  pub first_inside : (choice : Choice) (rest : List Choice) → AreDistinctOf (full_domains file) (choice ∷ rest) → IsChoiceOf (full_domains file) choice
  first_inside choice rest are = All-head (IsChoiceOf (full_domains file)) choice rest are.choices_of

  pub rest_distinct : (choice : Choice) (rest : List Choice) → AreDistinctOf (full_domains file) (choice ∷ rest) → AreDistinctOf (full_domains file) rest
  rest_distinct choice rest are = record {
    distinct = (and_parts (not (is_chosen rest choice.variable)) (are_distinct rest) are.distinct).1;
    choices_of = All-tail (IsChoiceOf (full_domains file)) choice rest are.choices_of;
  }

  pub new_after_carried : (choice next : Choice) (kept rest : List Choice) → IsFile file → AreDistinctOf (full_domains file) (choice ∷ rest) → carry_choice file target choice ≡ Ok next
      → All (IsNew file target kept) (choice ∷ rest) → All (IsNew file target (kept ++ next ∷ [])) rest
  new_after_carried choice next kept rest limits are h new =
      new_after limits kept choice next (first_inside choice rest are) (carried_parts choice next h).variable_is rest (first_apart choice rest are) (rest_distinct choice rest are).choices_of
      (All-tail (IsNew file target kept) choice rest new)

  -- ---- the choices of a list, one after another

  -- some first choices of a list are carried over, and the rest are still to be
  pub record AreCarried (choices rest carried : List Choice) : Type 0 where
    pub are_distinct : AreDistinctOf (full_domains file) rest
    pub are_new : All (IsNew file target carried) rest
    pub choices_of : AreChoicesOf (full_domains target) carried
    pub goes_on : carry_choices file target choices ≡ (carry_choices file target rest >>= (λ l. Ok (carried ++ l)))

  pub none_carried : (choices : List Choice) → AreDistinctOf (full_domains file) choices → AreCarried choices choices []
  none_carried choices are = record {
    are_distinct = are;
    are_new = all_new choices;
    choices_of = All-nil (IsChoiceOf (full_domains target));
    goes_on = same (carry_choices file target choices);
  }
    where
      same : (d : Decision (List Choice)) → d ≡ (d >>= (λ l. Ok ([] ++ l)))
      same (Ok l) = refl
      same (Err refusal) = refl

  pub one_carried : (choices rest carried : List Choice) (choice next : Choice) → IsFile file → AreCarried choices (choice ∷ rest) carried → carry_choice file target choice ≡ Ok next → AreCarried choices rest (carried ++ next ∷ [])
  one_carried choices rest carried choice next limits are h = record {
    are_distinct = rest_distinct choice rest are.are_distinct;
    are_new = new_after_carried choice next carried rest limits are.are_distinct h are.are_new;
    choices_of = All-push (IsChoiceOf (full_domains target)) carried next are.choices_of (carried_inside choice next h);
    goes_on = are.goes_on ∙ ap (λ d. (d >>= (λ c. carry_choices file target rest >>= (λ l. Ok (c ∷ l)))) >>= (λ l. Ok (carried ++ l))) h ∙ longer (carry_choices file target rest);
  }
    where
      longer : (d : Decision (List Choice)) → ((d >>= (λ l. Ok (next ∷ l))) >>= (λ l. Ok (carried ++ l))) ≡ (d >>= (λ l. Ok ((carried ++ next ∷ []) ++ l)))
      longer (Ok l) = ap Ok (sym (append_assoc carried (next ∷ []) l))
      longer (Err refusal) = refl

  pub one_lost : (choices rest carried : List Choice) (choice : Choice) (refusal : Outcome) → AreCarried choices (choice ∷ rest) carried → carry_choice file target choice ≡ Err refusal → carry_choices file target choices ≡ Err refusal
  one_lost choices rest carried choice refusal are h =
      are.goes_on ∙ ap (λ d. (d >>= (λ c. carry_choices file target rest >>= (λ l. Ok (c ∷ l)))) >>= (λ l. Ok (carried ++ l))) h

  pub all_carried : (choices carried : List Choice) → AreCarried choices [] carried → carry_choices file target choices ≡ Ok carried
  all_carried choices carried are = are.goes_on ∙ ap Ok (append-nil carried)
