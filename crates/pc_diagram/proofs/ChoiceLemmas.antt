-- Choices stay distinct where one of another variable is added, and where some are taken out.
use Rattle.std.proofs.Common.{◌≡◌, ◌≢◌, ℕ, Bool, true, false, not, ◌||◌, cond, ◌==◌, List, [], ◌∷◌, ◌++◌, filter, find, is_some, option_map, Some, None, IsTrue, refl, sym, ap, ◌∙◌, arith}
use Rattle.std.proofs.lemmas.Bool.{and_parts, and_from, or_parts, or_from, not-true, not_from_false}
use Rattle.std.proofs.lemmas.Bool.Decides.{nat_tests}
use Rattle.pc_diagram.specs.declared.choice.Choice.{Choice}
use Rattle.pc_diagram.specs.Choices.{is_chosen, value_of, without, are_distinct}

eq_comm : (m n : ℕ) → (m == n) ≡ (n == m)
eq_comm m n = grind (arith, nat_tests)

-- one test more at the end
is_chosen-push : (cs : List Choice) (c : Choice) (variable : ℕ) → is_chosen cs variable ≡ false → (c.variable == variable) ≡ false → is_chosen (cs ++ c ∷ []) variable ≡ false
is_chosen-push [] c variable h k = or_from _ _ k refl
is_chosen-push (d ∷ cs) c variable h k =
    let p = or_parts (d.variable == variable) (is_chosen cs variable) h in
    or_from _ _ p.0 (is_chosen-push cs c variable p.1 k)

pub are_distinct-push : (cs : List Choice) (c : Choice) → is_chosen cs c.variable ≡ false → IsTrue (are_distinct cs) → IsTrue (are_distinct (cs ++ c ∷ []))
are_distinct-push [] c h d = refl
are_distinct-push (b ∷ cs) c h d =
    let p = or_parts (b.variable == c.variable) (is_chosen cs c.variable) h in
    let q = and_parts (not (is_chosen cs b.variable)) (are_distinct cs) d in
    let other : (c.variable == b.variable) ≡ false = rw (eq_comm c.variable b.variable) p.0 in
    let free = is_chosen-push cs c b.variable (not-true _ q.0) other in
    and_from _ _ (not_from_false _ free) (are_distinct-push cs c p.1 q.1)

is_chosen-filter : (keeps : Choice → Bool) (cs : List Choice) (variable : ℕ) → is_chosen cs variable ≡ false → is_chosen (filter keeps cs) variable ≡ false
is_chosen-filter keeps [] variable h = refl
is_chosen-filter keeps (d ∷ cs) variable h =
    let p = or_parts (d.variable == variable) (is_chosen cs variable) h in
    let tail = is_chosen-filter keeps cs variable p.1 in
    elim (keeps d) as (λ b. is_chosen (cond b (d ∷ filter keeps cs) (filter keeps cs)) variable ≡ false)
    [ true ↦ or_from _ _ p.0 tail | false ↦ tail ]

pub are_distinct-filter : (keeps : Choice → Bool) (cs : List Choice) → IsTrue (are_distinct cs) → IsTrue (are_distinct (filter keeps cs))
are_distinct-filter keeps [] d = refl
are_distinct-filter keeps (b ∷ cs) d =
    let q = and_parts (not (is_chosen cs b.variable)) (are_distinct cs) d in
    let free = is_chosen-filter keeps cs b.variable (not-true _ q.0) in
    let tail = are_distinct-filter keeps cs q.1 in
    elim (keeps b) as (λ t. are_distinct (cond t (b ∷ filter keeps cs) (filter keeps cs)) ≡ true)
    [ true ↦ and_from _ _ (not_from_false _ free) tail | false ↦ tail ]

-- a variable is chosen where a value is chosen for it
pub is_some-value_of : (cs : List Choice) (variable : ℕ) → is_some (value_of cs variable) ≡ is_chosen cs variable
is_some-value_of [] variable = refl
is_some-value_of (c ∷ cs) variable =
    elim (c.variable == variable) as (λ b. is_some (option_map (λ (d : Choice). d.value) (cond b (Some c) (find (λ d. d.variable == variable) cs))) ≡ (b || is_chosen cs variable))
    [ true ↦ refl | false ↦ is_some-value_of cs variable ]

apart : (m n : ℕ) → n ≢ m → (m == n) ≡ false
apart m n h = grind (arith, nat_tests)

apart_from : (k m n : ℕ) → (k == m) ≡ true → n ≢ m → (k == n) ≡ false
apart_from k m n e h = grind (arith, nat_tests)

-- what is chosen for a variable stays where a choice of another is added
pub value_of-push : (cs : List Choice) (c : Choice) (variable : ℕ) → variable ≢ c.variable → value_of (cs ++ c ∷ []) variable ≡ value_of cs variable
value_of-push [] c variable other =
    ap (λ b. option_map (λ (d : Choice). d.value) (cond b (Some c) None)) (apart c.variable variable other)
value_of-push (d ∷ cs) c variable other =
    elim (d.variable == variable) as (λ b. option_map (λ (e : Choice). e.value) (cond b (Some d) (find (λ e. e.variable == variable) (cs ++ c ∷ []))) ≡ option_map (λ (e : Choice). e.value) (cond b (Some d) (find (λ e. e.variable == variable) cs)))
    [ true ↦ refl | false ↦ value_of-push cs c variable other ]

-- and where those of another are taken out
pub value_of-without : (cs : List Choice) (gone variable : ℕ) → variable ≢ gone → value_of (without cs gone) variable ≡ value_of cs variable
value_of-without [] gone variable other = refl
value_of-without (d ∷ cs) gone variable other = by (d.variable == gone) refl (value_of-without cs gone variable other)
  where
    by : (b : Bool) → (d.variable == gone) ≡ b → value_of (without cs gone) variable ≡ value_of cs variable → value_of (cond (not b) (d ∷ without cs gone) (without cs gone)) variable ≡ value_of (d ∷ cs) variable
    by true e rest =
        rest ∙ ap (λ b. option_map (λ (c : Choice). c.value) (cond b (Some d) (find (λ c. c.variable == variable) cs))) (sym (apart_from d.variable gone variable e other))
    by false e rest =
        elim (d.variable == variable) as (λ b. option_map (λ (c : Choice). c.value) (cond b (Some d) (find (λ c. c.variable == variable) (without cs gone))) ≡ option_map (λ (c : Choice). c.value) (cond b (Some d) (find (λ c. c.variable == variable) cs)))
        [ true ↦ refl | false ↦ rest ]

-- for a call that adds a choice
pub ruleset distinct_steps = (are_distinct-push)
