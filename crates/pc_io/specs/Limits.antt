-- Bytes against the limits of a line and of all.
use Rattle.std.specs.Prelude.{ℕ, List, length, take, nat_lt, if◌then◌else◌, Option, None, Some, Result, Ok, Err}
use Rattle.std.specs.List.{list_any}
use Rattle.pc_io.specs.declared.line_fault.LineFault.{LineFault}
use Rattle.pc_io.specs.declared.line_fault.LineFault.TheVariants.{LineTooLong, TotalTooLong}
use Rattle.pc_base.specs.Lines.{lines}

-- the limit that bytes break: some line of those up to the total limit is too long, or there are more bytes than that
unfoldable pub broken_limit : ℕ → ℕ → List ℕ → Option LineFault
broken_limit line_limit total_limit b =
    if list_any (λ line. nat_lt line_limit (length line)) (lines (take total_limit b)) then Some LineTooLong
    else (if nat_lt total_limit (length b) then Some TotalTooLong else None)

-- the text, or its fault if it has one
abbrev pub text_or : Option LineFault → List ℕ → Result (List ℕ) LineFault
text_or None b = Ok b
text_or (Some fault) b = Err fault

-- the bytes, if they keep the limits
abbrev pub text_within : ℕ → ℕ → List ℕ → Result (List ℕ) LineFault
text_within line_limit total_limit b = text_or (broken_limit line_limit total_limit b) b
