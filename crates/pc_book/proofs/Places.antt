-- The session of a number, by its place among the open sessions.
use Rattle.std.proofs.Common.{◌≡◌, ℕ, zero, suc, ◌<◌, nat_lt, Bool, true, false, not, cond, List, [], ◌∷◌, ◌++◌, length, take, drop, find, Some, None, Ok, Err, slice_index_or, slice_set, refl, sym, ap, ◌∙◌, inl, inr, arith}
use Rattle.std.specs.List.{position, position_or_len}
use Rattle.std.proofs.lemmas.Bool.{cases_Bool, ltb-false, not-true}
use Rattle.std.proofs.lemmas.Bool.Decides.{nat_tests}
use Rattle.std.proofs.lemmas.List.Quantifiers.{position-Some}
use Rattle.std.proofs.lemmas.List.Sums.{prefix_len_passes}
use Rattle.pc_file.specs.Limits.{Contents}
use Rattle.pc_calls.specs.Decision.{Decision}
use Rattle.pc_calls.specs.Selection.{Selection}
use Rattle.pc_session.specs.declared.answer.Answer as declared
use Rattle.pc_session.specs.Visit.{Visit, session_answer, visit_after}
use Rattle.pc_book.specs.Visits.{has_number, plain_head, reply_at, reply_among, shown_with, visit_reply, visits_after, without_number}

pub none-passes : {X : Type 0} (p : X → Bool) (xs : List X) → position p xs ≡ None → (k : ℕ) (d : X) → k < length xs → p (slice_index_or xs k d) ≡ false
none-passes p xs none k d inside =
    elim (cases_Bool (nat_lt (position_or_len p xs) (length xs))) [
      | inl found ↦ let some : Some (position_or_len p xs) ≡ None = sym (ap (λ (b : Bool). cond b (Some (position_or_len p xs)) None) found) ∙ none in absurd cc
      | inr past ↦ not-true _ (prefix_len_passes (λ x. not (p x)) xs k d (omega (arith, inside, ltb-false _ _ past)))
    ]

-- no session has the number
module _ (number : ℕ) where
  find-nowhere : (visits : List Visit) → ((k : ℕ) (d : Visit) → k < length visits → has_number number (slice_index_or visits k d) ≡ false) → find (has_number number) visits ≡ None
  find-nowhere [] nowhere = refl
  find-nowhere (visit ∷ visits) nowhere =
      ap (λ (b : Bool). cond b (Some visit) (find (has_number number) visits)) (nowhere 0 visit (omega arith)) ∙ find-nowhere visits (λ k d inside. nowhere (suc k) d (omega (arith, inside)))

  after-nowhere : (ask : Contents → Selection → Decision Selection) (visits : List Visit) → ((k : ℕ) (d : Visit) → k < length visits → has_number number (slice_index_or visits k d) ≡ false) → visits_after number ask visits ≡ visits
  after-nowhere ask [] nowhere = refl
  after-nowhere ask (visit ∷ visits) nowhere =
      ap (λ (b : Bool). cond b (visit_after visit (ask visit.file visit.selection) ∷ visits) (visit ∷ visits_after number ask visits)) (nowhere 0 visit (omega arith))
      ∙ ap (λ (vs : List Visit). visit ∷ vs) (after-nowhere ask visits (λ k d inside. nowhere (suc k) d (omega (arith, inside))))

  without-nowhere : (visits : List Visit) → ((k : ℕ) (d : Visit) → k < length visits → has_number number (slice_index_or visits k d) ≡ false) → without_number number visits ≡ visits
  without-nowhere [] nowhere = refl
  without-nowhere (visit ∷ visits) nowhere =
      ap (λ (b : Bool). cond b visits (visit ∷ without_number number visits)) (nowhere 0 visit (omega arith))
      ∙ ap (λ (vs : List Visit). visit ∷ vs) (without-nowhere visits (λ k d inside. nowhere (suc k) d (omega (arith, inside))))

  -- the first session of the number stands at a place
  find-at : (visits : List Visit) (place : ℕ) (d : Visit) → place < length visits → has_number number (slice_index_or visits place d) ≡ true → ((k : ℕ) → k < place → has_number number (slice_index_or visits k d) ≡ false)
      → find (has_number number) visits ≡ Some (slice_index_or visits place d)
  find-at [] place d inside is before = absurd (omega arith)
  find-at (visit ∷ visits) zero d inside is before = ap (λ (b : Bool). cond b (Some visit) (find (has_number number) visits)) is
  find-at (visit ∷ visits) (suc place) d inside is before =
      ap (λ (b : Bool). cond b (Some visit) (find (has_number number) visits)) (before 0 (omega arith))
      ∙ find-at visits place d (omega (arith, inside)) is (λ k lower. before (suc k) (omega (arith, lower)))

  after-at : (ask : Contents → Selection → Decision Selection) (visits : List Visit) (place : ℕ) (d : Visit) → place < length visits → has_number number (slice_index_or visits place d) ≡ true → ((k : ℕ) → k < place → has_number number (slice_index_or visits k d) ≡ false)
      → visits_after number ask visits ≡ slice_set visits place (visit_after (slice_index_or visits place d) (ask (slice_index_or visits place d).file (slice_index_or visits place d).selection))
  after-at ask [] place d inside is before = absurd (omega arith)
  after-at ask (visit ∷ visits) zero d inside is before = ap (λ (b : Bool). cond b (visit_after visit (ask visit.file visit.selection) ∷ visits) (visit ∷ visits_after number ask visits)) is
  after-at ask (visit ∷ visits) (suc place) d inside is before =
      ap (λ (b : Bool). cond b (visit_after visit (ask visit.file visit.selection) ∷ visits) (visit ∷ visits_after number ask visits)) (before 0 (omega arith))
      ∙ ap (λ (vs : List Visit). visit ∷ vs) (after-at ask visits place d (omega (arith, inside)) is (λ k lower. before (suc k) (omega (arith, lower))))

  without-at : (visits : List Visit) (place : ℕ) (d : Visit) → place < length visits → has_number number (slice_index_or visits place d) ≡ true → ((k : ℕ) → k < place → has_number number (slice_index_or visits k d) ≡ false)
      → without_number number visits ≡ take place visits ++ drop (suc place) visits
  without-at [] place d inside is before = absurd (omega arith)
  without-at (visit ∷ visits) zero d inside is before = ap (λ (b : Bool). cond b visits (visit ∷ without_number number visits)) is
  without-at (visit ∷ visits) (suc place) d inside is before =
      ap (λ (b : Bool). cond b visits (visit ∷ without_number number visits)) (before 0 (omega arith))
      ∙ ap (λ (vs : List Visit). visit ∷ vs) (without-at visits place d (omega (arith, inside)) is (λ k lower. before (suc k) (omega (arith, lower))))

-- by what the search for the place told
pub no_place : (number : ℕ) (visits : List Visit) → position (has_number number) visits ≡ None
    → (find (has_number number) visits ≡ None) × ((ask : Contents → Selection → Decision Selection) → visits_after number ask visits ≡ visits) × (without_number number visits ≡ visits)
no_place number visits none =
    let nowhere = none-passes (has_number number) visits none in
    (find-nowhere number visits nowhere, λ ask. after-nowhere number ask visits nowhere, without-nowhere number visits nowhere)

pub at_place : (number : ℕ) (visits : List Visit) (place : ℕ) (visit : Visit) → position (has_number number) visits ≡ Some place → slice_index_or visits place visit ≡ visit
    → (find (has_number number) visits ≡ Some visit)
    × ((ask : Contents → Selection → Decision Selection) → visits_after number ask visits ≡ slice_set visits place (visit_after visit (ask visit.file visit.selection)))
    × (without_number number visits ≡ take place visits ++ drop (suc place) visits)
    × (visit.number ≡ number)
at_place number visits place visit is same =
    let found = position-Some (has_number number) visits place visit is in (
      find-at number visits place visit found.0 found.1 found.2 ∙ ap (λ (v : Visit). Some v) same,
      λ ask. after-at number ask visits place visit found.0 found.1 found.2 ∙ ap (λ (v : Visit). slice_set visits place (visit_after v (ask v.file v.selection))) same,
      without-at number visits place visit found.0 found.1 found.2,
      (let here : has_number number visit ≡ true = sym (ap (has_number number) same) ∙ found.1 in grind (arith, nat_tests)),
    )

-- the reply to what a session answered
pub replied_is : (visit : Visit) (given : Decision Selection)
    → record { head = plain_head (visit_after visit given).number (visit_after visit given).version (session_answer visit.file given).outcome; shown = shown_with (visit_after visit given).file (session_answer visit.file given).listing } ≡ visit_reply visit given
replied_is visit (Ok selection) = refl
replied_is visit (Err refusal) = refl

pub session_reply : (number : ℕ) (ask : Contents → Selection → Decision Selection) (visits : List Visit) (visit later : Visit) (answer : declared.Answer)
    → find (has_number number) visits ≡ Some visit → later ≡ visit_after visit (ask visit.file visit.selection) → answer ≡ session_answer visit.file (ask visit.file visit.selection)
    → record { head = plain_head later.number later.version answer.outcome; shown = shown_with later.file answer.listing } ≡ reply_among number ask visits
session_reply number ask visits visit later answer found after is =
    ap (λ (v : Visit). record { head = plain_head v.number v.version answer.outcome; shown = shown_with v.file answer.listing }) after
    ∙ ap (λ (a : declared.Answer). record { head = plain_head (visit_after visit (ask visit.file visit.selection)).number (visit_after visit (ask visit.file visit.selection)).version a.outcome; shown = shown_with (visit_after visit (ask visit.file visit.selection)).file a.listing }) is
    ∙ replied_is visit (ask visit.file visit.selection)
    ∙ ap (reply_at number ask) (sym found)
