-- A session moves to another version.
use Rattle.std.proofs.Common.{◌≡◌, ℕ, zero, suc, ◌<◌, ◌==◌, Bool, true, false, not, cond, List, [], ◌∷◌, length, map, find, slice_index_or, slice_set, Option, Some, None, option_map, refl, sym, subst, ap, ◌∙◌, arith}
use Rattle.std.specs.List.{position}
use Rattle.std.proofs.lemmas.List.Quantifiers.{position-Some}
use Rattle.pc_calls.specs.declared.outcome.Outcome.TheVariants.{NoSession, NotLive, SameVersion}
use Rattle.std.specs.Prelude.{unwrap_or}
use Rattle.pc_file.specs.Contents.{Contents}
use Rattle.pc_calls.specs.State.{State, Version, file_of, is_live, numbered, pins}
use Rattle.pc_session.specs.Visit.{Visit}
use Rattle.pc_session.specs.declared.rebased.Rebased.{Rebased}
use Rattle.pc_book.specs.Rebases.{IsMade, IsPrepared, given_made, rebase_given, stays_at, visit_version, with_visit}
use Rattle.pc_book.specs.Shelves.{holds, shelved, shelves_of}
use Rattle.pc_book.specs.Visits.{has_number}
use Rattle.pc_book.specs.declared.shelf.Shelf.{Shelf}
use Rattle.pc_book.proofs.Places.{none-passes}
use Rattle.pc_book.proofs.ShelfPlaces.{has-shelf, none-live, shelf-found}

-- ---- the version that is aimed at

module _ (shelves : List Shelf) (state : State) (version : ℕ) (is : map shelved shelves ≡ shelves_of state) where
  pub target-none : find (holds version) shelves ≡ None → is_live state version ≡ false
  target-none none = none-live (pins state) version (numbered state.versions version) (sym (ap (option_map shelved) none) ∙ shelf-found shelves state version is)

  pub target-found : (shelf : Shelf) → find (holds version) shelves ≡ Some shelf → (is_live state version ≡ true) × (file_of state version ≡ Some shelf.version.file)
  target-found shelf found =
      let has = has-shelf (pins state) version (numbered state.versions version) shelf (sym (ap (option_map shelved) found) ∙ shelf-found shelves state version is) in (
        ap (λ o. unwrap_or (option_map (λ (v : Version). v.live) o) false) has.is ∙ has.live,
        ap (option_map (λ (v : Version). v.file)) has.is ∙ ap Some has.file,
      )

-- ---- what is made of a session

pub prepared-none : (visits : List Visit) (number version : ℕ) (file : Contents) (dropping : Bool) → find (has_number number) visits ≡ None → IsPrepared (find (has_number number) visits) version file dropping None
prepared-none visits number version file dropping none = subst (λ found. IsPrepared found version file dropping None) (sym none) tt

pub prepared-at : (visits : List Visit) (number version : ℕ) (file : Contents) (dropping : Bool) (visit : Visit) (made : Option Rebased) → find (has_number number) visits ≡ Some visit → IsMade (version == visit.version) visit version file dropping made → IsPrepared (find (has_number number) visits) version file dropping made
prepared-at visits number version file dropping visit made found is = subst (λ f. IsPrepared f version file dropping made) (sym found) is

-- ---- the reply to a rebase, by what the search for the place and the tests told

module _ (visits : List Visit) (number version : ℕ) (live : Bool) (made : Option Rebased) where
  pub rebase-nowhere : find (has_number number) visits ≡ None → stays_at number 0 NoSession ≡ rebase_given number version live made (find (has_number number) visits)
  rebase-nowhere none = ap (rebase_given number version live made) (sym none)

  pub rebase-at : (visit : Visit) → find (has_number number) visits ≡ Some visit → (same : Bool) → (version == visit.version) ≡ same
      → cond same (stays_at number visit.version SameVersion) (cond (not live) (stays_at number visit.version (NotLive version)) (given_made number visit.version made)) ≡ rebase_given number version live made (find (has_number number) visits)
  rebase-at visit found same test =
      ap (λ b. cond b (stays_at number visit.version SameVersion) (cond (not live) (stays_at number visit.version (NotLive version)) (given_made number visit.version made))) (sym test)
      ∙ ap (rebase_given number version live made) (sym found)

  pub rebase-dead : (visit : Visit) → find (has_number number) visits ≡ Some visit → (version == visit.version) ≡ false → live ≡ false → stays_at number visit.version (NotLive version) ≡ rebase_given number version live made (find (has_number number) visits)
  rebase-dead visit found other dead = ap (λ l. cond (not l) (stays_at number visit.version (NotLive version)) (given_made number visit.version made)) (sym dead) ∙ rebase-at visit found false other

  pub rebase-live : (visit : Visit) → find (has_number number) visits ≡ Some visit → (version == visit.version) ≡ false → live ≡ true → given_made number visit.version made ≡ rebase_given number version live made (find (has_number number) visits)
  rebase-live visit found other is = ap (λ l. cond (not l) (stays_at number visit.version (NotLive version)) (given_made number visit.version made)) (sym is) ∙ rebase-at visit found false other

-- ---- the session in another's place

with-nowhere : (visit : Visit) (visits : List Visit) → ((k : ℕ) (d : Visit) → k < length visits → has_number visit.number (slice_index_or visits k d) ≡ false) → with_visit visit visits ≡ visits
with-nowhere visit [] nowhere = refl
with-nowhere visit (v ∷ visits) nowhere =
    ap (λ b. cond b (visit ∷ visits) (v ∷ with_visit visit visits)) (nowhere 0 v (omega arith)) ∙ ap (λ (vs : List Visit). v ∷ vs) (with-nowhere visit visits (λ k d inside. nowhere (suc k) d (omega (arith, inside))))

with-at : (visit : Visit) (visits : List Visit) (place : ℕ) (d : Visit) → place < length visits → has_number visit.number (slice_index_or visits place d) ≡ true → ((k : ℕ) → k < place → has_number visit.number (slice_index_or visits k d) ≡ false) → with_visit visit visits ≡ slice_set visits place visit
with-at visit [] place d inside is before = absurd (omega arith)
with-at visit (v ∷ visits) zero d inside is before = ap (λ b. cond b (visit ∷ visits) (v ∷ with_visit visit visits)) is
with-at visit (v ∷ visits) (suc place) d inside is before =
    ap (λ b. cond b (visit ∷ visits) (v ∷ with_visit visit visits)) (before 0 (omega arith)) ∙ ap (λ (vs : List Visit). v ∷ vs) (with-at visit visits place d (omega (arith, inside)) is (λ k lower. before (suc k) (omega (arith, lower))))

pub exchange-nowhere : (visit : Visit) (visits : List Visit) → position (has_number visit.number) visits ≡ None → visits ≡ with_visit visit visits
exchange-nowhere visit visits none = sym (with-nowhere visit visits (none-passes (has_number visit.number) visits none))

pub exchange-at : (visit : Visit) (visits : List Visit) (place : ℕ) → position (has_number visit.number) visits ≡ Some place → slice_set visits place visit ≡ with_visit visit visits
exchange-at visit visits place is =
    let found = position-Some (has_number visit.number) visits place visit is in
    sym (with-at visit visits place visit found.0 found.1 found.2)

pub version-nowhere : (number : ℕ) (visits : List Visit) → find (has_number number) visits ≡ None → 0 ≡ visit_version number visits
version-nowhere number visits none = ap (λ found. unwrap_or (option_map (λ (v : Visit). v.version) found) 0) (sym none)

pub version-at : (number : ℕ) (visits : List Visit) (visit : Visit) → find (has_number number) visits ≡ Some visit → visit.version ≡ visit_version number visits
version-at number visits visit found = ap (λ f. unwrap_or (option_map (λ (v : Visit). v.version) f) 0) (sym found)
