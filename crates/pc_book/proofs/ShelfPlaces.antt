-- The shelf of a version, by its place, and as the version of a state.
use Rattle.std.proofs.Common.{◌≡◌, ℕ, zero, suc, ◌+◌, ◌<◌, ◌==◌, Bool, true, false, cond, List, [], ◌∷◌, ◌++◌, length, map, take, drop, find, slice_get, slice_index_or, Option, Some, None, option_map, refl, sym, subst, ap, ◌∙◌, arith}
use Rattle.std.specs.List.{position}
use Rattle.std.specs.Prelude.{unwrap_or}
use Rattle.std.proofs.lemmas.Bool.Decides.{nat_tests}
use Rattle.std.proofs.lemmas.List.Quantifiers.{position-Some}
use Rattle.pc_calls.specs.State.{State, Version, numbered, pins}
use Rattle.pc_calls.specs.Step.{change_numbered, retired}
use Rattle.pc_book.specs.Shelves.{Shelved, holds, shelved, shelves_from, shelves_of, without_shelf}
use Rattle.pc_book.specs.declared.shelf.Shelf.{Shelf}
use Rattle.pc_book.proofs.Places.{none-passes}

-- ---- what the search for the place told

pub nowhere-found : {A : Type 0} (test : A → Bool) (xs : List A) → position test xs ≡ None → find test xs ≡ None
nowhere-found {A = A} test xs none = nowhere xs (none-passes test xs none)
  where
    nowhere : (ys : List A) → ((k : ℕ) (d : A) → k < length ys → test (slice_index_or ys k d) ≡ false) → find test ys ≡ None
    nowhere [] fails = refl
    nowhere (y ∷ ys) fails = ap (λ b. cond b (Some y) (find test ys)) (fails 0 y (omega arith)) ∙ nowhere ys (λ k d inside. fails (suc k) d (omega (arith, inside)))

place-finds : {A : Type 0} (test : A → Bool) (xs : List A) (place : ℕ) (d : A) → place < length xs → test (slice_index_or xs place d) ≡ true → ((k : ℕ) → k < place → test (slice_index_or xs k d) ≡ false) → find test xs ≡ Some (slice_index_or xs place d)
place-finds test [] place d inside is before = absurd (omega arith)
place-finds test (x ∷ xs) zero d inside is before = ap (λ b. cond b (Some x) (find test xs)) is
place-finds test (x ∷ xs) (suc place) d inside is before = ap (λ b. cond b (Some x) (find test xs)) (before 0 (omega arith)) ∙ place-finds test xs place d (omega (arith, inside)) is (λ k lower. before (suc k) (omega (arith, lower)))

pub place-found : {A : Type 0} (test : A → Bool) (xs : List A) (place : ℕ) (x : A) → position test xs ≡ Some place → x ≡ slice_index_or xs place x → find test xs ≡ Some x
place-found test xs place x is same =
    let found = position-Some test xs place x is in
    place-finds test xs place x found.0 found.1 found.2 ∙ ap Some (sym same)

-- where there is a place, something is found
pub place-finds-some : {A : Type 0} (test : A → Bool) (xs : List A) (place : ℕ) → position test xs ≡ Some place → (x : A) × find test xs ≡ Some x
place-finds-some test [] place is = absurd cc
place-finds-some test (x ∷ xs) place is =
    let found = position-Some test (x ∷ xs) place x is in
    (slice_index_or (x ∷ xs) place x, place-finds test (x ∷ xs) place x found.0 found.1 found.2)

without-at : (version : ℕ) (shelves : List Shelf) (place : ℕ) (d : Shelf) → place < length shelves → holds version (slice_index_or shelves place d) ≡ true → ((k : ℕ) → k < place → holds version (slice_index_or shelves k d) ≡ false) → without_shelf version shelves ≡ take place shelves ++ drop (suc place) shelves
without-at version [] place d inside is before = absurd (omega arith)
without-at version (s ∷ shelves) zero d inside is before = ap (λ b. cond b shelves (s ∷ without_shelf version shelves)) is
without-at version (s ∷ shelves) (suc place) d inside is before =
    ap (λ b. cond b shelves (s ∷ without_shelf version shelves)) (before 0 (omega arith)) ∙ ap (λ ss. s ∷ ss) (without-at version shelves place d (omega (arith, inside)) is (λ k lower. before (suc k) (omega (arith, lower))))

pub place-without : (version : ℕ) (shelves : List Shelf) (place : ℕ) (d : Shelf) → position (holds version) shelves ≡ Some place → without_shelf version shelves ≡ take place shelves ++ drop (suc place) shelves
place-without version shelves place d is =
    let found = position-Some (holds version) shelves place d is in
    without-at version shelves place d found.0 found.1 found.2

-- ---- a version of the state, by its shelf

abbrev is-at : ℕ → Shelved → Bool
is-at number shelf = shelf.number == number

-- the shelf that a version has
abbrev pub shelf-of : (ℕ → ℕ) → ℕ → Option Version → Option Shelved
shelf-of count number None = None
shelf-of count number (Some version) = cond version.live (Some (record { number = number; file = version.file; pins = count number })) None

-- without the first of a number
abbrev without-number : ℕ → List Shelved → List Shelved
without-number number [] = []
without-number number (shelf ∷ shelves) = cond (is-at number shelf) shelves (shelf ∷ without-number number shelves)

self-same : (n : ℕ) → (n == n) ≡ true
self-same n = grind (arith, nat_tests)

module _ (count : ℕ → ℕ) where
  find-below : (first number : ℕ) → number < first → (versions : List Version) → find (is-at number) (shelves_from count first versions) ≡ None
  find-below first number below [] = refl
  find-below first number below (v ∷ versions) =
      let rest = find-below (suc first) number (omega (arith, below)) versions in
      let other : (first == number) ≡ false = grind (arith, nat_tests, below) in
      elim v.live as (λ live. find (is-at number) (cond live (record { number = first; file = v.file; pins = count first } ∷ shelves_from count (suc first) versions) (shelves_from count (suc first) versions)) ≡ None) [
        | true ↦ ap (λ b. cond b (Some (record { number = first; file = v.file; pins = count first })) (find (is-at number) (shelves_from count (suc first) versions))) other ∙ rest
        | false ↦ rest
      ]

  find-first : (first : ℕ) (v : Version) (versions : List Version) → find (is-at first) (shelves_from count first (v ∷ versions)) ≡ shelf-of count first (Some v)
  find-first first v versions =
      elim v.live as (λ live. find (is-at first) (cond live (record { number = first; file = v.file; pins = count first } ∷ shelves_from count (suc first) versions) (shelves_from count (suc first) versions)) ≡ cond live (Some (record { number = first; file = v.file; pins = count first })) None) [
        | true ↦ ap (λ b. cond b (Some (record { number = first; file = v.file; pins = count first })) (find (is-at first) (shelves_from count (suc first) versions))) (self-same first)
        | false ↦ find-below (suc first) first (omega arith) versions
      ]

  find-from : (first place number : ℕ) → number ≡ first + place → (versions : List Version) → find (is-at number) (shelves_from count first versions) ≡ shelf-of count number (slice_get versions place)
  find-from first zero number is [] = refl
  find-from first (suc place) number is [] = refl
  find-from first zero number is (v ∷ versions) =
      let same : first ≡ number = omega (arith, is) in
      subst (λ n. find (is-at n) (shelves_from count first (v ∷ versions)) ≡ shelf-of count n (Some v)) same (find-first first v versions)
  find-from first (suc place) number is (v ∷ versions) =
      let rest = find-from (suc first) place number (omega (arith, is)) versions in
      let other : (first == number) ≡ false = grind (arith, nat_tests, is) in
      elim v.live as (λ live. find (is-at number) (cond live (record { number = first; file = v.file; pins = count first } ∷ shelves_from count (suc first) versions) (shelves_from count (suc first) versions)) ≡ shelf-of count number (slice_get versions place)) [
        | true ↦ ap (λ b. cond b (Some (record { number = first; file = v.file; pins = count first })) (find (is-at number) (shelves_from count (suc first) versions))) other ∙ rest
        | false ↦ rest
      ]

  find-numbered : (versions : List Version) (number : ℕ) → find (is-at number) (shelves_from count 1 versions) ≡ shelf-of count number (numbered versions number)
  find-numbered versions zero = find-below 1 0 (omega arith) versions
  find-numbered versions (suc place) = find-from 1 place (suc place) (omega arith) versions

  -- the shelves without that of a live version
  from-without : (first place number : ℕ) → number ≡ first + place → (versions : List Version) (v : Version) → slice_get versions place ≡ Some v → v.live ≡ true → without-number number (shelves_from count first versions) ≡ shelves_from count first (change_numbered retired versions (suc place))
  from-without first place number is [] v found live = absurd cc
  from-without first zero number is (w ∷ versions) v found live =
      let same : w ≡ v = cc in
      let here : (first == number) ≡ true = grind (arith, nat_tests, is) in
      let item : Shelved = record { number = first; file = w.file; pins = count first } in
      ap (λ b. without-number number (cond b (item ∷ shelves_from count (suc first) versions) (shelves_from count (suc first) versions))) (ap (λ (x : Version). x.live) same ∙ live)
      ∙ ap (λ b. cond b (shelves_from count (suc first) versions) (item ∷ without-number number (shelves_from count (suc first) versions))) here
  from-without first (suc place) number is (w ∷ versions) v found live =
      let rest = from-without (suc first) place number (omega (arith, is)) versions v found live in
      let other : (first == number) ≡ false = grind (arith, nat_tests, is) in
      let item : Shelved = record { number = first; file = w.file; pins = count first } in
      elim w.live as (λ live. without-number number (cond live (item ∷ shelves_from count (suc first) versions) (shelves_from count (suc first) versions)) ≡ cond live (item ∷ shelves_from count (suc first) (change_numbered retired versions (suc place))) (shelves_from count (suc first) (change_numbered retired versions (suc place)))) [
        | true ↦ ap (λ b. cond b (shelves_from count (suc first) versions) (item ∷ without-number number (shelves_from count (suc first) versions))) other ∙ ap (λ ss. item ∷ ss) rest
        | false ↦ rest
      ]

find-mapped : (version : ℕ) (shelves : List Shelf) → find (is-at version) (map shelved shelves) ≡ option_map shelved (find (holds version) shelves)
find-mapped version [] = refl
find-mapped version (s ∷ shelves) =
    elim (s.number == version) as (λ b. cond b (Some (shelved s)) (find (is-at version) (map shelved shelves)) ≡ option_map shelved (cond b (Some s) (find (holds version) shelves)))
    [ true ↦ refl | false ↦ find-mapped version shelves ]

map-without : (version : ℕ) (shelves : List Shelf) → map shelved (without_shelf version shelves) ≡ without-number version (map shelved shelves)
map-without version [] = refl
map-without version (s ∷ shelves) =
    elim (s.number == version) as (λ b. map shelved (cond b shelves (s ∷ without_shelf version shelves)) ≡ cond b (map shelved shelves) (shelved s ∷ without-number version (map shelved shelves)))
    [ true ↦ refl | false ↦ ap (λ ss. shelved s ∷ ss) (map-without version shelves) ]

-- the shelf that is found is that of the version
pub shelf-found : (shelves : List Shelf) (state : State) (version : ℕ) → map shelved shelves ≡ shelves_of state → option_map shelved (find (holds version) shelves) ≡ shelf-of (pins state) version (numbered state.versions version)
shelf-found shelves state version is = sym (find-mapped version shelves) ∙ ap (find (is-at version)) is ∙ find-numbered (pins state) state.versions version

-- the shelves without a live version are those of the versions where it is live no more
pub shelf-without : (shelves : List Shelf) (state : State) (version : ℕ) (v : Version) → map shelved shelves ≡ shelves_of state → numbered state.versions version ≡ Some v → v.live ≡ true → map shelved (without_shelf version shelves) ≡ shelves_from (pins state) 1 (change_numbered retired state.versions version)
shelf-without shelves state zero v is found live = absurd cc
shelf-without shelves state (suc place) v is found live =
    map-without (suc place) shelves ∙ ap (without-number (suc place)) is ∙ from-without (pins state) 1 place (suc place) (omega arith) state.versions v found live

-- where there is no shelf, the version isn't live
pub none-live : (count : ℕ → ℕ) (number : ℕ) (found : Option Version) → None ≡ shelf-of count number found → unwrap_or (option_map (λ v. v.live) found) false ≡ false
none-live count number None e = refl
none-live count number (Some v) e =
    by v.live e
  where
    by : (live : Bool) → ◌≡◌ {A = Option Shelved} None (cond live (Some (record { number = number; file = v.file; pins = count number })) None) → live ≡ false
    by true is = absurd cc
    by false is = refl

-- where there is one, the version is live, with this file and these pins
pub record HasShelf (count : ℕ → ℕ) (number : ℕ) (found : Option Version) (shelf : Shelf) : Type 0 where
  pub version : Version
  pub is : found ≡ Some version
  pub live : version.live ≡ true
  pub file : version.file ≡ shelf.version.file
  pub pins : shelf.pins ≡ count number

pub has-shelf : (count : ℕ → ℕ) (number : ℕ) (found : Option Version) (shelf : Shelf) → Some (shelved shelf) ≡ shelf-of count number found → HasShelf count number found shelf
has-shelf count number None shelf e = absurd cc
has-shelf count number (Some v) shelf e =
    (elim v.live as (λ live. v.live ≡ live → Some (shelved shelf) ≡ cond live (Some (record { number = number; file = v.file; pins = count number })) None → HasShelf count number (Some v) shelf) [
      | true ↦ (λ live is. let same : shelved shelf ≡ record { number = number; file = v.file; pins = count number } = cc in record { version = v; is = refl; live = live; file = ap (λ (s : Shelved). s.file) (sym same); pins = ap (λ (s : Shelved). s.pins) same })
      | false ↦ (λ live (is : Some (shelved shelf) ≡ None). absurd cc)
    ]) refl e
