-- The numbers that a history gave to callers, versions and sessions.
use Rattle.std.specs.Prelude.{ℕ, zero, suc, ◌==◌, if◌then◌else◌, List, [], ◌∷◌}
use Rattle.std.specs.List.{flat_map}
use Rattle.pc_calls.specs.declared.call.Call.{Call}
use Rattle.pc_calls.specs.declared.call.Call.TheVariants.{Enter, Open, Publish}
use Rattle.pc_calls.specs.declared.entry.Entry.{Entry}
use Rattle.pc_calls.specs.declared.head.Head.{Head}
use Rattle.pc_calls.specs.declared.outcome.Outcome.{Outcome}
use Rattle.pc_calls.specs.Decision.{is_done}

-- so many numbers, one after the other
abbrev pub numbers_from : ℕ → ℕ → List ℕ
numbers_from first zero = []
numbers_from first (suc count) = first ∷ numbers_from (suc first) count

-- a number where the call is done
abbrev pub where_done : Outcome → ℕ → List ℕ
where_done outcome number = if is_done outcome then number ∷ [] else []

-- the number that a call gave to a caller, to a version, and to a session of an owner
abbrev pub caller_given : ℕ → Call → Head → List ℕ
caller_given caller Enter head = caller ∷ []
caller_given caller call head = []

abbrev pub version_given : ℕ → Call → Head → List ℕ
version_given caller (Publish base file) head = where_done head.outcome head.version
version_given caller call head = []

abbrev pub session_given : ℕ → ℕ → Call → Head → List ℕ
session_given owner caller Open head = if caller == owner then where_done head.outcome head.session else []
session_given owner caller call head = []

-- what the calls of a history gave, in order
abbrev pub all_given : (ℕ → Call → Head → List ℕ) → List Entry → List ℕ
all_given given entries = flat_map (λ entry. given entry.caller entry.call entry.head) entries

-- the callers that entered, the versions that were published, and the sessions that an owner opened
abbrev pub entered_callers : List Entry → List ℕ
entered_callers = all_given caller_given

abbrev pub published_versions : List Entry → List ℕ
published_versions = all_given version_given

abbrev pub opened_sessions : ℕ → List Entry → List ℕ
opened_sessions owner = all_given (session_given owner)
