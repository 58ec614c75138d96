-- The live versions of a state, each with the number of open sessions at it.
use Rattle.std.specs.Prelude.{ℕ, suc, ◌==◌, Bool, not, if◌then◌else◌, List, [], ◌∷◌, count_by, Option, Some, None}
use Rattle.pc_file.specs.Contents.{Contents}
use Rattle.pc_calls.specs.declared.live.Live.{Live}
use Rattle.pc_calls.specs.declared.outcome.Outcome.{Outcome}
use Rattle.pc_calls.specs.declared.outcome.Outcome.TheVariants.{Done, IsCurrent, NotLive, Pinned}
use Rattle.pc_calls.specs.State.{State, Version, pins}
use Rattle.pc_session.specs.Visit.{Visit}
use Rattle.pc_book.specs.declared.shelf.Shelf.{Shelf}

-- a live version: its number, its file and its pins
pub record Shelved : Type 0 where
  pub number : ℕ
  pub file : Contents
  pub pins : ℕ

abbrev pub shelved : Shelf → Shelved
shelved shelf = record { number = shelf.number; file = shelf.version.file; pins = shelf.pins }

-- what is told of a live version
abbrev pub live_at : Shelf → Live
live_at shelf = record { version = shelf.number; pins = shelf.pins }

-- with other pins
abbrev pub repinned : (ℕ → ℕ → ℕ) → Shelf → Shelf
repinned change shelf = record { number = shelf.number; version = shelf.version; pins = change shelf.number shelf.pins }

-- one where the version has this number
abbrev pub one_at : ℕ → ℕ → ℕ
one_at number version = if version == number then 1 else 0

-- how many of a caller's sessions are at a version
abbrev pub visits_at : List Visit → ℕ → ℕ
visits_at visits version = count_by (λ visit. visit.version == version) visits

-- of versions whose numbers begin with this one, those that are live, with this many pins each
abbrev pub shelves_from : (ℕ → ℕ) → ℕ → List Version → List Shelved
shelves_from count number [] = []
shelves_from count number (version ∷ versions) =
    if version.live then record { number = number; file = version.file; pins = count number } ∷ shelves_from count (suc number) versions
    else shelves_from count (suc number) versions

-- the live versions of a state
abbrev pub shelves_of : State → List Shelved
shelves_of state = shelves_from (pins state) 1 state.versions

-- the shelf has the version of this number
abbrev pub holds : ℕ → Shelf → Bool
holds version shelf = shelf.number == version

-- what becomes of a reclaim of a version, where it stands on this shelf or on none
abbrev pub retire_told : ℕ → ℕ → Option Shelf → Outcome
retire_told version now None = NotLive version
retire_told version now (Some shelf) = if version == now then IsCurrent else (if not (shelf.pins == 0) then Pinned shelf.pins else Done)

-- the shelves without the first of a version
abbrev pub without_shelf : ℕ → List Shelf → List Shelf
without_shelf version [] = []
without_shelf version (shelf ∷ shelves) = if holds version shelf then shelves else shelf ∷ without_shelf version shelves

-- the shelves after a reclaim of which this becomes
abbrev pub shelves_after : ℕ → Outcome → List Shelf → List Shelf
shelves_after version Done shelves = without_shelf version shelves
shelves_after version refusal shelves = shelves
