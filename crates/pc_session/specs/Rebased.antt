-- What a session that moves to another version gives.
use Rattle.std.specs.Prelude.{◌≡◌, ℕ, Ok, Err}
use Rattle.pc_file.specs.Contents.{Contents}
use Rattle.pc_calls.specs.Carry.{Carried}
use Rattle.pc_calls.specs.Decision.{Decision}
use Rattle.pc_calls.specs.Selection.{shown}
use Rattle.pc_session.specs.declared.rebased.Rebased.{Rebased}
use Rattle.pc_session.specs.declared.rebased.Rebased.TheVariants.{Ready, Refused}

-- a session of this number moves to this version of this number, whose file this is: it asks there what is decided, and shows
-- that, and what was dropped is told; or it is refused
abbrev pub IsRebased : ℕ → ℕ → Contents → Decision Carried → Rebased → Type 0
IsRebased number version file (Ok moved) (Ready session listing dropped) =
    (session ≡ record { number = number; version = version; file = file; selection = moved.selection }) × (listing ≡ shown file moved.selection) × (dropped ≡ moved.dropped)
IsRebased number version file (Ok moved) (Refused refusal) = ⊥
IsRebased number version file (Err refused) (Ready session listing dropped) = ⊥
IsRebased number version file (Err refused) (Refused refusal) = refusal ≡ refused
