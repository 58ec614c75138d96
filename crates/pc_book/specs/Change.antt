-- The calls that change what a session asks.
use Rattle.std.specs.Prelude.{ℕ}
use Rattle.pc_file.specs.Contents.{Contents}
use Rattle.pc_calls.specs.declared.call.Call.{Call}
use Rattle.pc_calls.specs.declared.call.Call.TheVariants as call
use Rattle.pc_calls.specs.Decision.{Decision}
use Rattle.pc_calls.specs.Selection.{Selection, bound, choose, retract, unbound}
use Rattle.pc_book.specs.declared.change.Change.{Change}
use Rattle.pc_book.specs.declared.change.Change.TheVariants.{Choose, Retract, Bound, Unbound}

-- what is asked after a change, or the refusal
abbrev pub changed : Change → Contents → Selection → Decision Selection
changed (Choose variable value) = choose variable value
changed (Retract variable) = retract variable
changed (Bound cost most) = bound cost most
changed (Unbound cost) = unbound cost

-- the call that asks for a change of the session of a number
abbrev pub change_call : ℕ → Change → Call
change_call number (Choose variable value) = call.Choose number variable value
change_call number (Retract variable) = call.Retract number variable
change_call number (Bound cost most) = call.Bound number cost most
change_call number (Unbound cost) = call.Unbound number cost
