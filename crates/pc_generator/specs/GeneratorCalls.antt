-- What the generator asks of a new book, by the number of variables, and what it is answered.
use Rattle.std.specs.Prelude.{ℕ, pos, ◌+◌, ◌*◌, ◌/◌, List, [], ◌∷◌, ◌++◌, codes}
use Rattle.pc_calls.specs.declared.call.Call.{Call}
use Rattle.pc_calls.specs.declared.call.Call.TheVariants.{Enter, Open, Bound, Publish}
use Rattle.pc_calls.specs.declared.reply.Reply.{Reply}
use Rattle.pc_calls.specs.Heads.{reply}
use Rattle.pc_calls.specs.State.{State, empty}
use Rattle.pc_calls.specs.Step.{after}
use Rattle.pc_generator.specs.GeneratedFile.{generated}

-- the one caller
abbrev pub generator_caller : ℕ
generator_caller = 1

-- the state after calls of the caller from a state on
unfoldable pub after_calls : State → List Call → State
after_calls state [] = state
after_calls state (call ∷ calls) = after_calls (after generator_caller call state) calls

-- the reply to a call after others, which begin with nothing called
unfoldable pub reply_after : List Call → Call → Reply
reply_after calls call = reply generator_caller call (after_calls empty calls)

-- the caller enters and publishes the file
abbrev pub publishing : ℕ → List Call
publishing variables = Enter ∷ Publish 0 (generated variables) ∷ []

-- and opens three sessions
abbrev pub opening : ℕ → List Call
opening variables = publishing variables ++ Open ∷ Open ∷ Open ∷ []

-- the most that the second session's price may be: 10 for half of the variables and 30 more
abbrev pub most_price : ℕ → ℕ
most_price variables = 10 * (variables / 2 + 3)

-- the most days of the third session: 6 for each variable
abbrev pub most_days : ℕ → ℕ
most_days variables = 6 * variables

abbrev pub bound_price : ℕ → Call
bound_price variables = Bound 2 (codes "price") (pos (most_price variables))

abbrev pub bound_days : ℕ → Call
bound_days variables = Bound 3 (codes "days") (pos (most_days variables))

-- the reply to the first session's opening
abbrev pub open_reply : ℕ → Reply
open_reply variables = reply_after (publishing variables) Open

-- the reply to the bound on the second session's price
abbrev pub price_reply : ℕ → Reply
price_reply variables = reply_after (opening variables) (bound_price variables)

-- the reply to the bound on the third session's days
abbrev pub days_reply : ℕ → Reply
days_reply variables = reply_after (opening variables ++ bound_price variables ∷ []) (bound_days variables)
