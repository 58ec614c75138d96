-- The calls that a line can say.
use Rattle.std.specs.Prelude.{◌≡◌, ℕ, true}
use Rattle.pc_calls.specs.declared.call.Call.{Call}
use Rattle.pc_calls.specs.declared.call.Call.TheVariants.{Enter, Leave}
use Rattle.pc_calls.specs.State.{State}
use Rattle.pc_conn.specs.declared.item.Item.{Item}
use Rattle.pc_conn.specs.declared.item.Item.TheVariants as item
use Rattle.pc_script.specs.declared.item.Request.{Request}
use Rattle.pc_script.specs.declared.item.Request.TheVariants as says
use Rattle.pc_script.specs.declared.item.Said.{Said}
use Rattle.pc_script.specs.Request.{may_speak}

-- nobody enters by a line of its own
abbrev pub IsNoEnter : Call → Type 0
IsNoEnter Enter = ⊥
IsNoEnter call = Unit {0}

-- the caller is present before and after the call
abbrev pub IsStaying : Call → Type 0
IsStaying Enter = ⊥
IsStaying Leave = ⊥
IsStaying call = Unit {0}

-- a call is one of a caller that may speak
abbrev pub Speaks : State → ℕ → Item → Type 0
Speaks state caller (item.Call call) = (may_speak state caller ≡ true) × IsNoEnter call
Speaks state caller item = Unit {0}

abbrev pub IsSpoken : State → Said → Type 0
IsSpoken state said = Speaks state said.caller said.item

-- so is what is heard, and a publish whose text is to follow
abbrev pub IsSpokenBy : State → Request → Type 0
IsSpokenBy state (says.Said said) = IsSpoken state said
IsSpokenBy state (says.Publish awaited) = may_speak state awaited.caller ≡ true
