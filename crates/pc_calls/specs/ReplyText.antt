-- The text of a reply.
use Rattle.std.specs.Prelude.{ℕ, List, [], ◌∷◌, ◌++◌, codes, decimal, Option, Some, None}
use Rattle.std.specs.List.{flat_map}
use Rattle.std.specs.Fmt.{signed_decimal}
use Rattle.pc_diagram.specs.declared.side.Side.{Side}
use Rattle.pc_diagram.specs.declared.side.Side.TheVariants.{Heads, Tails}
use Rattle.pc_file.specs.ListingText.{listing_text}
use Rattle.pc_calls.specs.declared.dropped.Dropped.{Dropped}
use Rattle.pc_calls.specs.declared.dropped.Dropped.TheVariants.{Bound, Choice}
use Rattle.pc_calls.specs.declared.head.Head.{Head}
use Rattle.pc_calls.specs.declared.live.Live.{Live}
use Rattle.pc_calls.specs.declared.outcome.Outcome.{Outcome}
use Rattle.pc_calls.specs.declared.outcome.Outcome.TheVariants.{Done, NoSession, NoVariable, NoValue, NotListed, NotChosen, NoCost, NotBounded, TooTight, LabelLimit, NotLive, SameVersion, Lost, Conflict, Stale, ShelvesFull, NodeLimit, NoProduct, IsCurrent, Pinned, SessionsFull, NoVersion}
use Rattle.pc_calls.specs.declared.reply.Reply.{Reply}
use Rattle.pc_calls.specs.declared.reply.Shown.{Shown}

-- `ok` of a call that was done, and `no` of one that was refused
abbrev pub answer_word : Outcome → List ℕ
answer_word Done = codes "ok"
answer_word outcome = codes "no"

-- the code and the name of a refusal
abbrev pub refusal_name : Outcome → List ℕ
refusal_name Done = []
refusal_name NoSession = codes " 1 no-session"
refusal_name NoVariable = codes " 2 no-variable"
refusal_name NoValue = codes " 3 no-value"
refusal_name NotListed = codes " 4 not-listed"
refusal_name NotChosen = codes " 5 not-chosen"
refusal_name NoCost = codes " 6 no-cost"
refusal_name NotBounded = codes " 7 not-bounded"
refusal_name (TooTight least) = codes " 8 too-tight"
refusal_name (LabelLimit side layer) = codes " 9 label-limit"
refusal_name (NotLive version) = codes " 10 not-live"
refusal_name SameVersion = codes " 11 same-version"
refusal_name (Lost name) = codes " 12 lost"
refusal_name Conflict = codes " 13 conflict"
refusal_name (Stale current) = codes " 14 stale"
refusal_name ShelvesFull = codes " 15 shelves-full"
refusal_name (NodeLimit rule part) = codes " 16 node-limit"
refusal_name NoProduct = codes " 17 no-product"
refusal_name IsCurrent = codes " 18 is-current"
refusal_name (Pinned pins) = codes " 19 pinned"
refusal_name SessionsFull = codes " 20 sessions-full"
refusal_name NoVersion = codes " 21 no-version"

abbrev pub side_word : Side → List ℕ
side_word Heads = codes "heads"
side_word Tails = codes "tails"

-- what a refusal tells besides, each word after a space
abbrev pub refusal_detail : Outcome → List ℕ
refusal_detail (TooTight least) = 32 ∷ signed_decimal least
refusal_detail (LabelLimit side layer) = 32 ∷ side_word side ++ 32 ∷ decimal layer
refusal_detail (NotLive version) = 32 ∷ decimal version
refusal_detail (Lost name) = 32 ∷ name
refusal_detail (Stale current) = 32 ∷ decimal current
refusal_detail (NodeLimit rule part) = 32 ∷ decimal rule ++ 32 ∷ decimal part
refusal_detail (Pinned pins) = 32 ∷ decimal pins
refusal_detail outcome = []

-- `ok SESSION VERSION`, or `no SESSION VERSION CODE WORDS`, and a line feed
abbrev pub head_line : Head → List ℕ
head_line head =
    answer_word head.outcome ++ 32 ∷ decimal head.session ++ 32 ∷ decimal head.version ++ refusal_name head.outcome ++ refusal_detail head.outcome ++ 10 ∷ []

-- `live VERSION PINS` and a line feed
abbrev pub live_line : Live → List ℕ
live_line live = codes "live " ++ decimal live.version ++ 32 ∷ decimal live.pins ++ 10 ∷ []

-- `dropped bound COST` or `dropped choice VARIABLE`, and a line feed
abbrev pub dropped_line : Dropped → List ℕ
dropped_line (Bound cost) = codes "dropped bound " ++ cost ++ 10 ∷ []
dropped_line (Choice variable) = codes "dropped choice " ++ variable ++ 10 ∷ []

-- the lines of a head: the first line, and what it lists
abbrev pub head_text : Head → List ℕ
head_text head = head_line head ++ flat_map live_line head.live ++ flat_map dropped_line head.dropped

-- the lines of a listing, where one is shown
abbrev pub shown_text : Option Shown → List ℕ
shown_text None = []
shown_text (Some shown) = listing_text shown.file.variables shown.listing

-- all lines; the last is `.`
abbrev pub reply_text : Reply → List ℕ
reply_text reply = head_text reply.head ++ shown_text reply.shown ++ codes ".\n"
