-- What a call that others see does beside the journal.
use Rattle.std.specs.Prelude.{◌≡◌, ◌≢◌, ℕ, ◌+◌, true, List, [], ◌∷◌, ◌++◌, Result, Ok, Err}
use Rattle.pc_build.specs.Building.{IsBuildFault, IsSmall}
use Rattle.pc_build.specs.declared.fault.BuildFault.{BuildFault}
use Rattle.pc_build.specs.declared.version.Version as compiled
use Rattle.pc_file.specs.Contents.{Contents}
use Rattle.pc_file.specs.Full.{full}
use Rattle.pc_calls.specs.declared.call.Call.{Call}
use Rattle.pc_calls.specs.declared.reply.Reply.{Reply}
use Rattle.pc_calls.specs.Heads as heads
use Rattle.pc_calls.specs.History.{is_present}
use Rattle.pc_calls.specs.Selection.{free}
use Rattle.pc_calls.specs.Sound.{IsSound}
use Rattle.pc_calls.specs.State.{State}
use Rattle.pc_calls.specs.Step.{after}
use Rattle.pc_book.specs.Book.{IsKeptOf}
use Rattle.pc_book.specs.Own.{IsPartOf, OwnPart}
use Rattle.pc_book.specs.Shelves.{Shelved}

-- the part with its next session, at this version with this file
abbrev pub with_visit : ℕ → Contents → OwnPart → OwnPart
with_visit version file own = record {
  number = own.number;
  opened = own.opened + 1;
  sessions = own.sessions ++ record { number = own.opened + 1; version = version; file = file; selection = free } ∷ [];
  pending = own.pending;
}

-- a sound state in which the caller is present and has what its part has, and of which this is kept
pub record IsSeen (state : State) (own : OwnPart) (shelves : List Shelved) (entered present now : ℕ) : Type 0 where
  pub sound : IsSound state
  pub there : is_present state own.number ≡ true
  pub part : IsPartOf state own
  pub kept : IsKeptOf state shelves entered present now

-- What a call comes to in a state: the reply is the one of that state, and the state after it has of the caller what the part has
-- then, while the same entries wait, and this is kept of it.
pub record Brings (call : Call) (state : State) (own own_later : OwnPart) (reply : Reply) (shelves : List Shelved) (entered present now : ℕ) : Type 0 where
  pub answer : reply ≡ heads.reply own.number call state
  pub same_number : own_later.number ≡ own.number
  pub same_pending : own_later.pending ≡ own.pending
  pub there : is_present (after own.number call state) own.number ≡ true
  pub part : IsPartOf (after own.number call state) own_later
  pub kept : IsKeptOf (after own.number call state) shelves entered present now

-- what the compiler gives for a file: its version, where it is small and has a product, or the fault that comes so
abbrev pub IsBuilt : Contents → Result compiled.Version BuildFault → Type 0
IsBuilt file (Ok version) = (version.file ≡ file) × IsSmall file × (full file ≢ [])
IsBuilt file (Err fault) = IsBuildFault file fault
