-- The first fault of a text, by its lines in order.
use Rattle.std.specs.Prelude.{ℕ, ◌+◌, nat_lt, min, Bool, ◌||◌, if◌then◌else◌, List, [], ◌∷◌, length, Option, Some, None}
use Rattle.std.specs.Option.{option_or}
use Rattle.pc_base.specs.Lines.{lines}
use Rattle.pc_text.specs.declared.keyword.Keyword.{Keyword}
use Rattle.pc_text.specs.declared.keyword.Keyword.TheVariants as keyword
use Rattle.pc_rules.specs.declared.kind.Kind.{Kind}
use Rattle.pc_rules.specs.declared.kind.Kind.TheVariants as kind
use Rattle.pc_file.specs.declared.sizes.TheConstants.{LINE_BYTES, TEXT_BYTES}
use Rattle.pc_text.specs.declared.limits.TheConstants.{LINES}
use Rattle.pc_names.specs.LineWords.{after_word}
use Rattle.pc_text.specs.Given.{Given, nothing_given, variables_given, catalogue_of, is_skipped, keyword_at, arguments_at, give_statement}
use Rattle.pc_text.specs.Orders.{statement_fault}
use Rattle.pc_rules.specs.RuleText.{rule_of}

-- a line has too many bytes, or is one line too many or a later one, or ends, with its line feed, past the last byte that a text may have
abbrev pub is_large : ℕ → ℕ → List ℕ → Bool
is_large number end line = nat_lt LINE_BYTES (length line) || nat_lt LINES number || nat_lt TEXT_BYTES end

abbrev pub size_fault : Bool → Option Kind
size_fault large = if large then Some kind.Size else None

-- the fault of a line after lines that give this
unfoldable pub line_fault : Given → List ℕ → Option Kind
line_fault given line =
    if is_skipped line then None
    else statement_fault given (keyword_at line) (arguments_at line) (rule_of (catalogue_of (variables_given given)) (after_word line))

-- what the lines give with this one
unfoldable pub give_line : Given → List ℕ → Given
give_line given line =
    if is_skipped line then given
    else give_statement given (keyword_at line) (arguments_at line) (rule_of (catalogue_of (variables_given given)) (after_word line))

-- the fault where the lines end
abbrev pub end_fault : Option Keyword → Option Kind
end_fault None = Some kind.Header
end_fault (Some keyword.End) = None
end_fault (Some last) = Some kind.End

abbrev pub at : ℕ → Option Kind → Option (ℕ × Kind)
at number None = None
at number (Some kind) = Some (number, kind)

-- The first fault from a line on: its number, the place of its first byte and the bytes of the whole text are given.
unfoldable pub fault_from : Given → ℕ → ℕ → ℕ → List (List ℕ) → Option (ℕ × Kind)
fault_from given number start total [] = at number (end_fault given.last)
fault_from given number start total (line ∷ later) =
    option_or (at number (option_or (size_fault (is_large number (min (start + length line + 1) total) line)) (line_fault given line)))
    (fault_from (give_line given line) (number + 1) (start + length line + 1) total later)

-- what lines give, one after the other
unfoldable pub given_from : Given → List (List ℕ) → Given
given_from given [] = given
given_from given (line ∷ later) = given_from (give_line given line) later

-- the first fault of a text: the number of its line, counted from 1, and its kind
abbrev pub first_fault : List ℕ → Option (ℕ × Kind)
first_fault text = fault_from nothing_given 1 0 (length text) (lines text)

abbrev pub given_by : List ℕ → Given
given_by text = given_from nothing_given (lines text)
