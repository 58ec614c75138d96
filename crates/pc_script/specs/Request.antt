-- What a line of a script says. It is `CALLER COMMAND`.
use Rattle.std.specs.Prelude.{ℕ, ◌+◌, ◌&&◌, not, nat_le, Bool, false, if◌then◌else◌, List, [], ◌∷◌, length, Option, Some, None, option_map, unwrap_or}
use Rattle.pc_names.specs.Number.{unsigned_of}
use Rattle.pc_calls.specs.LineWords.{LineWord, words_from, end_of}
use Rattle.pc_calls.specs.State.{State, numbered}
use Rattle.pc_conn.specs.declared.body.Body.{Body}
use Rattle.pc_conn.specs.declared.item.Heard.{Heard as HeardWords}
use Rattle.pc_conn.specs.declared.item.Heard.TheVariants as words
use Rattle.pc_conn.specs.declared.item.Item.TheVariants.{Bad}
use Rattle.pc_conn.specs.Items.{heard as heard_words, published}
use Rattle.pc_script.specs.declared.callers.TheConstants.{MOST_CALLERS}
use Rattle.pc_script.specs.declared.item.Awaited.{Awaited}
use Rattle.pc_script.specs.declared.item.Request.{Request}
use Rattle.pc_script.specs.declared.item.Request.TheVariants as says
use Rattle.pc_script.specs.declared.item.Said.{Said}

-- a caller has left
abbrev pub has_left : State → ℕ → Bool
has_left state caller = unwrap_or (option_map (λ c. c.left) (numbered state.callers caller)) false

-- the number is that of a caller that has entered and not left, or of the next to enter
abbrev pub may_speak : State → ℕ → Bool
may_speak state caller = nat_le 1 caller && nat_le caller MOST_CALLERS && nat_le caller (length state.callers + 1) && not (has_left state caller)

abbrev pub only_if : (ℕ → Bool) → Option ℕ → Option ℕ
only_if may None = None
only_if may (Some caller) = if may caller then Some caller else None

-- the caller that a word names
unfoldable pub caller_of : State → List ℕ → Option ℕ
caller_of state word = only_if (may_speak state) (unsigned_of word)

-- a caller's line has its first wrong word, or lacks one, at this column; the caller is 0 where none may speak
abbrev pub bad_at : ℕ → ℕ → Request
bad_at caller column = says.Said (record { caller = caller; item = Bad column })

-- what words say, as a caller's
abbrev pub of_caller : ℕ → HeardWords → Request
of_caller caller (words.Item item) = says.Said (record { caller = caller; item = item })
of_caller caller (words.Publish publish) = says.Publish (record { caller = caller; publish = publish })

-- after the word of a caller that may speak
abbrev pub requested_after : Option ℕ → List ℕ → LineWord → Request
requested_after None line word = bad_at 0 (word.place + 1)
requested_after (Some caller) line word = of_caller caller (heard_words line (end_of word))

abbrev pub requested_from : State → List ℕ → List LineWord → Request
requested_from state line [] = bad_at 0 (length line + 1)
requested_from state line (word ∷ words) = requested_after (caller_of state word.bytes) line word

-- what a line says to callers in this state
unfoldable pub requested : State → List ℕ → Request
requested state line = requested_from state line (words_from line 0)

-- what a publish says with its text
abbrev pub said_with : Awaited → Body → Said
said_with awaited body = record { caller = awaited.caller; item = published awaited.publish body }
