-- The limits of the printed form, and sizes as the program counts them.
use Rattle.std.specs.Prelude.{◌≡◌, ℕ, ◌+◌, ◌-◌, ◌^◌, ◌≤◌, nat_le, min, Bool, true, ◌&&◌, if◌then◌else◌, List, [], ◌∷◌, length, Option, Some, None, option_and_then}
use Rattle.std.specs.List.{list_all}
use Rattle.pc_file.specs.declared.sizes.TheConstants.{LINE_BYTES, TEXT_BYTES}
use Rattle.pc_file.specs.Contents.{Contents}
use Rattle.pc_file.specs.PrintedForm.{printed, printed_lines}

-- a size, or the last value of 64 bits where it is greater
abbrev pub counted : ℕ → ℕ
counted size = min size (2 ^ 64 - 1)

-- a printed line isn't too long, its line feed not counted
abbrev pub is_short : ℕ → Bool
is_short size = nat_le size LINE_BYTES

-- printed lines aren't too long together, their line feeds counted
abbrev pub is_small : ℕ → Bool
is_small size = nat_le size TEXT_BYTES

abbrev pub is_short_line : List ℕ → Bool
is_short_line line = is_short (length line)

-- the printed form keeps both limits
pub record IsPrintable (file : Contents) : Type 0 where
  pub each_line : list_all is_short_line (printed_lines file) ≡ true
  pub bytes_at_most : length (printed file) ≤ TEXT_BYTES

-- The bytes of printed lines, with one line more of this size and its line feed; nothing where that breaks a limit.
abbrev pub with_line : ℕ → ℕ → Option ℕ
with_line bytes line = if is_short line && is_small (bytes + line + 1) then Some (bytes + line + 1) else None

-- with several lines more
abbrev pub with_lines : ℕ → List (List ℕ) → Option ℕ
with_lines bytes [] = Some bytes
with_lines bytes (line ∷ lines) = option_and_then (λ more. with_lines more lines) (with_line bytes (length line))
