-- The words that say a call.
use Rattle.std.specs.Prelude.{◌≡◌, ℕ, ◌^◌, ◌<◌, ◌≤◌, true, false, FitsSigned, List, [], ◌∷◌, map, codes, decimal}
use Rattle.std.specs.Int.{w64}
use Rattle.std.specs.Fmt.{signed_decimal}
use Rattle.pc_names.specs.Name.{is_name}
use Rattle.pc_calls.specs.declared.limits.TheConstants.{MOST_LINES}
use Rattle.pc_calls.specs.declared.call.Call.TheVariants.{Enter, Open, Show, Choose, Retract, Bound, Unbound, Rebase, Close, Publish, Reclaim, Versions, Leave}
use Rattle.pc_calls.specs.declared.line_call.LineCall.{LineCall}
use Rattle.pc_calls.specs.declared.line_call.LineCall.TheVariants.{Whole, PublishHead}
use Rattle.pc_calls.specs.LineWords.{LineWord}

-- words without their places
abbrev pub spellings : List LineWord → List (List ℕ)
spellings words = map (λ word. word.bytes) words

-- a command and its arguments, with each number in its one spelling; no line says an enter, or a publish with its file
abbrev pub call_words : LineCall → List (List ℕ)
call_words (Whole Enter) = []
call_words (Whole Open) = codes "open" ∷ []
call_words (Whole (Show session)) = codes "show" ∷ decimal session ∷ []
call_words (Whole (Choose session variable value)) = codes "choose" ∷ decimal session ∷ variable ∷ value ∷ []
call_words (Whole (Retract session variable)) = codes "retract" ∷ decimal session ∷ variable ∷ []
call_words (Whole (Bound session cost most)) = codes "bound" ∷ decimal session ∷ cost ∷ signed_decimal most ∷ []
call_words (Whole (Unbound session cost)) = codes "unbound" ∷ decimal session ∷ cost ∷ []
call_words (Whole (Rebase session version false)) = codes "rebase" ∷ decimal session ∷ decimal version ∷ []
call_words (Whole (Rebase session version true)) = codes "rebase" ∷ decimal session ∷ decimal version ∷ codes "dropping" ∷ []
call_words (Whole (Close session)) = codes "close" ∷ decimal session ∷ []
call_words (Whole (Publish base file)) = []
call_words (Whole (Reclaim version)) = codes "reclaim" ∷ decimal version ∷ []
call_words (Whole Versions) = codes "versions" ∷ []
call_words (Whole Leave) = codes "leave" ∷ []
call_words (PublishHead base lines) = codes "publish" ∷ decimal base ∷ decimal lines ∷ []

-- a number that a line may say
abbrev pub IsUnsigned : ℕ → Type 0
IsUnsigned n = n < 2 ^ 63

abbrev pub IsName : List ℕ → Type 0
IsName name = is_name name ≡ true

-- what a line can say: its numbers and names are in range
abbrev pub IsSayable : LineCall → Type 0
IsSayable (Whole Enter) = ⊥
IsSayable (Whole Open) = Unit {0}
IsSayable (Whole (Show session)) = IsUnsigned session
IsSayable (Whole (Choose session variable value)) = IsUnsigned session × IsName variable × IsName value
IsSayable (Whole (Retract session variable)) = IsUnsigned session × IsName variable
IsSayable (Whole (Bound session cost most)) = IsUnsigned session × IsName cost × FitsSigned w64 most
IsSayable (Whole (Unbound session cost)) = IsUnsigned session × IsName cost
IsSayable (Whole (Rebase session version dropping)) = IsUnsigned session × IsUnsigned version
IsSayable (Whole (Close session)) = IsUnsigned session
IsSayable (Whole (Publish base file)) = ⊥
IsSayable (Whole (Reclaim version)) = IsUnsigned version
IsSayable (Whole Versions) = Unit {0}
IsSayable (Whole Leave) = Unit {0}
IsSayable (PublishHead base lines) = IsUnsigned base × (1 ≤ lines) × (lines ≤ MOST_LINES)
