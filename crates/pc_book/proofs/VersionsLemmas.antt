-- The live versions as they are told.
use Rattle.std.proofs.Common.{◌≡◌, ℕ, suc, cond, true, false, List, [], ◌∷◌, map, None, refl, ap, ◌∙◌}
use Rattle.pc_calls.specs.declared.call.Call.TheVariants.{Versions}
use Rattle.pc_calls.specs.declared.live.Live.{Live}
use Rattle.pc_calls.specs.declared.outcome.Outcome.TheVariants.{Done}
use Rattle.pc_calls.specs.declared.reply.Reply.{Reply}
use Rattle.pc_calls.specs.Heads.{reply}
use Rattle.pc_calls.specs.State.{State, Version, current, live_from, live_list, pins}
use Rattle.pc_book.specs.declared.shelf.Shelf.{Shelf}
use Rattle.pc_book.specs.Book.{IsKeptOf}
use Rattle.pc_book.specs.Shelves.{Shelved, live_at, shelved, shelves_from}

told : Shelved → Live
told shelf = record { version = shelf.number; pins = shelf.pins }

told-shelves : (shelves : List Shelf) → map live_at shelves ≡ map told (map shelved shelves)
unfolding told
told-shelves [] = refl
told-shelves (shelf ∷ shelves) = ap (λ ls. live_at shelf ∷ ls) (told-shelves shelves)

told-from : (state : State) (first : ℕ) (versions : List Version) → map told (shelves_from (pins state) first versions) ≡ live_from state first versions
unfolding told
told-from state first [] = refl
told-from state first (version ∷ versions) =
    elim version.live as (λ live. map told (cond live (record { number = first; file = version.file; pins = pins state first } ∷ shelves_from (pins state) (suc first) versions) (shelves_from (pins state) (suc first) versions))
    ≡ cond live (record { version = first; pins = pins state first } ∷ live_from state (suc first) versions) (live_from state (suc first) versions)) [
      | true ↦ ap (λ ls. record { version = first; pins = pins state first } ∷ ls) (told-from state (suc first) versions)
      | false ↦ told-from state (suc first) versions
    ]

pub live-told : (state : State) (shelves : List Shelf) (entered present now : ℕ) → IsKeptOf state (map shelved shelves) entered present now → map live_at shelves ≡ live_list state
live-told state shelves entered present now kept = told-shelves shelves ∙ ap (map told) kept.shelves_are ∙ told-from state 1 state.versions

pub versions-told : (caller : ℕ) (state : State) (shelves : List Shelf) (entered present now : ℕ) → IsKeptOf state (map shelved shelves) entered present now
    → (answer : Reply) → answer ≡ record { head = record { session = 0; version = now; outcome = Done; live = map live_at shelves; dropped = [] }; shown = None } → answer ≡ reply caller Versions state
versions-told caller state shelves entered present now kept answer is =
    is
    ∙ ap (λ n. record { head = record { session = 0; version = n; outcome = Done; live = map live_at shelves; dropped = [] }; shown = None }) kept.current_is
    ∙ ap (λ ls. record { head = record { session = 0; version = current state; outcome = Done; live = ls; dropped = [] }; shown = None }) (live-told state shelves entered present now kept)
