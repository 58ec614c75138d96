-- What a source gives whose bytes are the text of a diagram, or aren't.
use Rattle.std.specs.Prelude.{◌≡◌, ℕ, List, Option, Some, None, Result, Ok, Err}
use Rattle.std.specs.Io.KnownBytes.{IsAtEnd, prepend_known}
use Rattle.pc_dump.specs.declared.dump.Dump.{Dump}
use Rattle.pc_dump.specs.Form.{IsDump, cut_lines}
use Rattle.pc_io.specs.declared.line_fault.LineFault.{LineFault}
use Rattle.pc_io.specs.Limits.{broken_limit}

-- a source was read to its end, and gave a text within the limits, whose lines are these
pub record Reads (line_limit total_limit : ℕ) (dump : Dump) (before after : Option (List ℕ)) : Type 0 where
  pub text : List ℕ
  pub read : before ≡ prepend_known text after
  pub at_end : IsAtEnd after
  pub within : broken_limit line_limit total_limit text ≡ None
  pub is_dump : IsDump dump (cut_lines text)

-- a text within the limits has these lines
pub record HasLines (line_limit total_limit : ℕ) (dump : Dump) (text : List ℕ) : Type 0 where
  pub within : broken_limit line_limit total_limit text ≡ None
  pub is_dump : IsDump dump (cut_lines text)

-- a text has these lines, or breaks a limit
abbrev pub IsReadOf : ℕ → ℕ → Result Dump LineFault → List ℕ → Type 0
IsReadOf line_limit total_limit (Ok dump) text = HasLines line_limit total_limit dump text
IsReadOf line_limit total_limit (Err fault) text = broken_limit line_limit total_limit text ≡ Some fault
