-- When a text spells a file.
use Rattle.std.specs.Prelude.{◌≡◌, ℕ, ◌≤◌, nat_le, Bool, true, not, List, length, Result, Ok, Err}
use Rattle.std.specs.List.{list_all, filter, AllZip}
use Rattle.pc_base.specs.Lines.{lines}
use Rattle.pc_file.specs.Limits.{Contents, IsFile}
use Rattle.pc_text.specs.declared.text_fault.TextFault.{TextFault}
use Rattle.pc_file.specs.declared.sizes.TheConstants.{LINE_BYTES, TEXT_BYTES}
use Rattle.pc_text.specs.declared.limits.TheConstants.{LINES}
use Rattle.pc_text.specs.declared.text_fault.TextFault.TheVariants.{At, NoMemory}
use Rattle.pc_text.specs.Given.{is_skipped}
use Rattle.pc_text.specs.Statement.{statements, Says}

abbrev pub is_small_line : List ℕ → Bool
is_small_line line = nat_le (length line) LINE_BYTES

-- a text has not too many bytes, nor lines, and none of its lines has
pub record IsSmallText (text : List ℕ) : Type 0 where
  pub bytes_at_most : length text ≤ TEXT_BYTES
  pub lines_at_most : length (lines text) ≤ LINES
  pub each_line : list_all is_small_line (lines text) ≡ true

-- the line counts: it has words, and the first doesn't begin with `#`
abbrev pub is_significant : List ℕ → Bool
is_significant line = not (is_skipped line)

-- the lines that count, in order
abbrev pub significant_lines : List ℕ → List (List ℕ)
significant_lines text = filter is_significant (lines text)

-- A text that is small enough spells a file: the lines that count say its statements, one for one.
pub record Spells (text : List ℕ) (file : Contents) : Type 0 where
  pub is_small : IsSmallText text
  pub is_file : IsFile file
  pub says : AllZip (Says file) (significant_lines text) (statements file)

-- the answer is this file, unless memory is wanted
abbrev pub GivesFile : Contents → Result Contents TextFault → Type 0
GivesFile file (Ok answer) = answer ≡ file
GivesFile file (Err (At line kind)) = ⊥
GivesFile file (Err NoMemory) = Unit {0}
