-- A session as its contracts see it, and what its calls answer.
use Rattle.std.specs.Prelude.{ℕ, Some, None, Ok, Err}
use Rattle.pc_file.specs.Contents.{Contents}
use Rattle.pc_calls.specs.declared.outcome.Outcome.TheVariants.{Done}
use Rattle.pc_calls.specs.Decision.{Decision}
use Rattle.pc_calls.specs.Selection.{Selection, shown}
use Rattle.pc_session.specs.declared.answer.Answer as declared

-- a session: its number among its owner's, its version with that version's file, and what it asks
pub record Visit : Type 0 where
  pub number : ℕ
  pub version : ℕ
  pub file : Contents
  pub selection : Selection

-- what is answered to a call that gives this: the listing of what is asked then, or the refusal
abbrev pub session_answer : Contents → Decision Selection → declared.Answer
session_answer file (Ok selection) = record { outcome = Done; listing = Some (shown file selection) }
session_answer file (Err refusal) = record { outcome = refusal; listing = None }

-- the session after such a call
abbrev pub visit_after : Visit → Decision Selection → Visit
visit_after visit (Ok selection) = record visit { selection = selection }
visit_after visit (Err refusal) = visit
