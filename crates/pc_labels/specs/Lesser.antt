-- The lesser of two marks.
use Rattle.std.specs.Prelude.{if◌then◌else◌}
use Rattle.pc_diagram.specs.Weight.{is_less}
use Rattle.pc_labels.specs.declared.from_end.Mark.{Mark}

-- by weight; the first where they are equal
abbrev pub lesser : Mark → Mark → Mark
lesser first second = if is_less second.weight first.weight then second else first
