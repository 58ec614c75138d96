-- The open sessions of one caller, as those of the state.
use Rattle.std.proofs.Common.{◌≡◌, ℕ, ◌==◌, ◌&&◌, Bool, true, false, cond, List, [], ◌∷◌, map, find, Some, None, Ok, Err, option_map, All, refl, sym, subst, ap, ◌∙◌, arith}
use Rattle.std.proofs.lemmas.Bool.Decides.{nat_tests}
use Rattle.std.proofs.lemmas.List.Elements.{All-head, All-tail, All-cons}
use Rattle.pc_file.specs.Limits.{Contents}
use Rattle.pc_calls.specs.declared.outcome.Outcome.{Outcome}
use Rattle.pc_calls.specs.Decision.{Decision}
use Rattle.pc_calls.specs.Selection.{Selection, show}
use Rattle.pc_calls.specs.State.{OpenSession, is_session}
use Rattle.pc_calls.specs.Step.{asking, change_first}
use Rattle.pc_session.specs.Visit.{Visit, visit_after}
use Rattle.pc_book.specs.Own.{owned_by}
use Rattle.pc_book.specs.Visits.{has_number, visits_after, without_number}

pub self-same : (n : ℕ) → (n == n) ≡ true
self-same n = grind (arith, nat_tests)

-- the session of a number, among those of its owner
pub find-owned : (owner number : ℕ) (visits : List Visit) → find (is_session owner number) (map (owned_by owner) visits) ≡ option_map (owned_by owner) (find (has_number number) visits)
find-owned owner number [] = refl
find-owned owner number (visit ∷ visits) =
    ap (λ b. cond (b && (visit.number == number)) (Some (owned_by owner visit)) (find (is_session owner number) (map (owned_by owner) visits))) (self-same owner)
    ∙ elim (visit.number == number) as (λ b. cond b (Some (owned_by owner visit)) (find (is_session owner number) (map (owned_by owner) visits)) ≡ option_map (owned_by owner) (cond b (Some visit) (find (has_number number) visits)))
    [ true ↦ refl | false ↦ find-owned owner number visits ]

-- what a test finds has what all have
pub found-has : (P : Visit → Type 0) (test : Visit → Bool) (visits : List Visit) (visit : Visit) → All P visits → find test visits ≡ Some visit → P visit
found-has P test [] visit all e = absurd cc
found-has P test (v ∷ visits) visit all e =
    (elim (test v) as (λ b. cond b (Some v) (find test visits) ≡ Some visit → P visit) [
      | true ↦ λ is. let same : v ≡ visit = cc in subst P same (All-head P v visits all)
      | false ↦ λ is. found-has P test visits visit (All-tail P v visits all) is
    ]) e

-- the session found asks something else
pub change-owned : (owner number : ℕ) (ask : Contents → Selection → Decision Selection) (visits : List Visit) (visit : Visit) (selection : Selection) → find (has_number number) visits ≡ Some visit → ask visit.file visit.selection ≡ Ok selection
    → change_first (is_session owner number) (asking selection) (map (owned_by owner) visits) ≡ map (owned_by owner) (visits_after number ask visits)
change-owned owner number ask [] visit selection e given = refl
change-owned owner number ask (v ∷ visits) visit selection e given =
    ap (λ b. cond (b && (v.number == number)) (asking selection (owned_by owner v) ∷ map (owned_by owner) visits) (owned_by owner v ∷ change_first (is_session owner number) (asking selection) (map (owned_by owner) visits))) (self-same owner)
    ∙ (elim (v.number == number) as (λ b. cond b (Some v) (find (has_number number) visits) ≡ Some visit
    → cond b (asking selection (owned_by owner v) ∷ map (owned_by owner) visits) (owned_by owner v ∷ change_first (is_session owner number) (asking selection) (map (owned_by owner) visits)) ≡ map (owned_by owner) (cond b (visit_after v (ask v.file v.selection) ∷ visits) (v ∷ visits_after number ask visits))) [
      | true ↦ λ is. let same : v ≡ visit = cc in
          let gives : ask v.file v.selection ≡ Ok selection = ap (λ (w : Visit). ask w.file w.selection) same ∙ given in
          ap (λ (g : Decision Selection). owned_by owner (visit_after v g) ∷ map (owned_by owner) visits) (sym gives)
      | false ↦ λ is. ap (λ (ss : List OpenSession). owned_by owner v ∷ ss) (change-owned owner number ask visits visit selection is given)
    ]) e

-- a refusal leaves the sessions
pub refused-leaves : (number : ℕ) (ask : Contents → Selection → Decision Selection) (visits : List Visit) (visit : Visit) (refusal : Outcome) → find (has_number number) visits ≡ Some visit → ask visit.file visit.selection ≡ Err refusal → visits_after number ask visits ≡ visits
refused-leaves number ask [] visit refusal e given = refl
refused-leaves number ask (v ∷ visits) visit refusal e given =
    (elim (v.number == number) as (λ b. cond b (Some v) (find (has_number number) visits) ≡ Some visit → cond b (visit_after v (ask v.file v.selection) ∷ visits) (v ∷ visits_after number ask visits) ≡ v ∷ visits) [
      | true ↦ λ is. let same : v ≡ visit = cc in
          let gives : ask v.file v.selection ≡ Err refusal = ap (λ (w : Visit). ask w.file w.selection) same ∙ given in
          ap (λ (g : Decision Selection). visit_after v g ∷ visits) gives
      | false ↦ λ is. ap (λ (vs : List Visit). v ∷ vs) (refused-leaves number ask visits visit refusal is given)
    ]) e

-- no session of the number leaves them
pub none-leaves : (number : ℕ) (ask : Contents → Selection → Decision Selection) (visits : List Visit) → find (has_number number) visits ≡ None → visits_after number ask visits ≡ visits
none-leaves number ask [] e = refl
none-leaves number ask (v ∷ visits) e =
    (elim (v.number == number) as (λ b. cond b (Some v) (find (has_number number) visits) ≡ None → cond b (visit_after v (ask v.file v.selection) ∷ visits) (v ∷ visits_after number ask visits) ≡ v ∷ visits) [
      | true ↦ λ is. absurd cc
      | false ↦ λ is. ap (λ (vs : List Visit). v ∷ vs) (none-leaves number ask visits is)
    ]) e

pub found-number : (number : ℕ) (visits : List Visit) (visit : Visit) → find (has_number number) visits ≡ Some visit → visit.number ≡ number
found-number number [] visit e = absurd cc
found-number number (v ∷ visits) visit e =
    (elim (v.number == number) as (λ b. (v.number == number) ≡ b → cond b (Some v) (find (has_number number) visits) ≡ Some visit → visit.number ≡ number) [
      | true ↦ λ test is. let same : v ≡ visit = cc in let n : v.number ≡ number = grind (arith, nat_tests, test) in ap (λ (w : Visit). w.number) (sym same) ∙ n
      | false ↦ λ test is. found-number number visits visit is
    ]) refl e

pub kept-after : (P : Visit → Type 0) → ((visit : Visit) (result : Decision Selection) → P visit → P (visit_after visit result)) → (number : ℕ) (ask : Contents → Selection → Decision Selection) (visits : List Visit) → All P visits → All P (visits_after number ask visits)
kept-after P keeps number ask [] all = all
kept-after P keeps number ask (visit ∷ visits) all =
    elim (visit.number == number) as (λ b. All P (cond b (visit_after visit (ask visit.file visit.selection) ∷ visits) (visit ∷ visits_after number ask visits))) [
      | true ↦ All-cons P (visit_after visit (ask visit.file visit.selection)) visits (keeps visit (ask visit.file visit.selection) (All-head P visit visits all)) (All-tail P visit visits all)
      | false ↦ All-cons P visit (visits_after number ask visits) (All-head P visit visits all) (kept-after P keeps number ask visits (All-tail P visit visits all))
    ]

pub kept_without : (P : Visit → Type 0) (number : ℕ) (visits : List Visit) → All P visits → All P (without_number number visits)
kept_without P number [] all = all
kept_without P number (visit ∷ visits) all =
    elim (visit.number == number) as (λ b. All P (cond b visits (visit ∷ without_number number visits))) [
      | true ↦ All-tail P visit visits all
      | false ↦ All-cons P visit (without_number number visits) (All-head P visit visits all) (kept_without P number visits (All-tail P visit visits all))
    ]

-- show leaves the sessions
pub shown_leaves : (number : ℕ) (visits : List Visit) → visits_after number show visits ≡ visits
shown_leaves number [] = refl
shown_leaves number (visit ∷ visits) =
    elim (visit.number == number) as (λ b. cond b (visit ∷ visits) (visit ∷ visits_after number show visits) ≡ visit ∷ visits)
    [ true ↦ refl | false ↦ ap (λ (vs : List Visit). visit ∷ vs) (shown_leaves number visits) ]
