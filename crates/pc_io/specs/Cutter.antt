-- What contracts see of a `Lines`.
use Rattle.std.specs.Prelude.{ℕ, ◌-◌, Bool, List, Option}
use Rattle.std.specs.Io.KnownBytes.{prepend_known}
use Rattle.pc_io.specs.declared.line_fault.LineFault.{LineFault}

-- the two limits, the bytes read and not yet given, how many bytes were given, line feeds included, whether the source has given its end, and the fault that each call tells
pub record Cutter : Type 0 where
  pub line_limit : ℕ
  pub total_limit : ℕ
  pub kept : List ℕ
  pub given : ℕ
  pub ended : Bool
  pub fault : Option LineFault

-- the bytes still to be cut: those kept, and then the rest of the source, where it is told
abbrev pub stream : Cutter → Option (List ℕ) → Option (List ℕ)
stream l rest = prepend_known l.kept rest

-- how many bytes may still be given
abbrev pub left_to_give : Cutter → ℕ
left_to_give l = l.total_limit - l.given
