-- The open sessions of one caller, by their numbers.
use Rattle.std.specs.Prelude.{ℕ, ◌==◌, Bool, List, [], ◌∷◌, find, if◌then◌else◌, Option, Some, None, Ok, Err}
use Rattle.pc_file.specs.Limits.{Contents}
use Rattle.pc_calls.specs.declared.head.Head.{Head}
use Rattle.pc_calls.specs.declared.outcome.Outcome.{Outcome}
use Rattle.pc_calls.specs.declared.outcome.Outcome.TheVariants.{Done, NoSession}
use Rattle.pc_calls.specs.declared.reply.Reply.{Reply}
use Rattle.pc_calls.specs.declared.reply.Shown.{Shown}
use Rattle.pc_diagram.specs.declared.listed.Listed.{Listed}
use Rattle.pc_calls.specs.Decision.{Decision}
use Rattle.pc_calls.specs.Selection.{Selection, shown}
use Rattle.pc_session.specs.Visit.{Visit, visit_after}

-- the number of a session
abbrev pub has_number : ℕ → Visit → Bool
has_number number visit = visit.number == number

-- a head that lists nothing
abbrev pub plain_head : ℕ → ℕ → Outcome → Head
plain_head session version outcome = record { session = session; version = version; outcome = outcome; live = []; dropped = [] }

-- the reply to a call of a session that gives this
abbrev pub visit_reply : Visit → Decision Selection → Reply
visit_reply visit (Ok selection) = record { head = plain_head visit.number visit.version Done; shown = Some (record { file = visit.file; listing = shown visit.file selection }) }
visit_reply visit (Err refusal) = record { head = plain_head visit.number visit.version refusal; shown = None }

-- the reply to a call that names no open session
abbrev pub no_session_reply : ℕ → Reply
no_session_reply number = record { head = plain_head number 0 NoSession; shown = None }

-- the reply to a call of the session of a number
abbrev pub reply_at : ℕ → (Contents → Selection → Decision Selection) → Option Visit → Reply
reply_at number ask None = no_session_reply number
reply_at number ask (Some visit) = visit_reply visit (ask visit.file visit.selection)

abbrev pub reply_among : ℕ → (Contents → Selection → Decision Selection) → List Visit → Reply
reply_among number ask visits = reply_at number ask (find (has_number number) visits)

-- the sessions after it
abbrev pub visits_after : ℕ → (Contents → Selection → Decision Selection) → List Visit → List Visit
visits_after number ask [] = []
visits_after number ask (visit ∷ visits) = if has_number number visit then visit_after visit (ask visit.file visit.selection) ∷ visits else visit ∷ visits_after number ask visits

-- what is shown of a file where there is a listing
abbrev pub shown_with : Contents → Option (List (List Listed)) → Option Shown
shown_with file None = None
shown_with file (Some listing) = Some (record { file = file; listing = listing })

-- the reply to the close of a session
abbrev pub close_reply : ℕ → Option Visit → Reply
close_reply number None = no_session_reply number
close_reply number (Some visit) = record { head = plain_head number visit.version Done; shown = None }

-- the sessions without the first of a number
abbrev pub without_number : ℕ → List Visit → List Visit
without_number number [] = []
without_number number (visit ∷ visits) = if has_number number visit then visits else visit ∷ without_number number visits
