-- Line by line.
use Rattle.pc_dump.proofs.ToldApart.{told_apart}
use Rattle.pc_dump.proofs.laws.lines_tell_tables.Goals as goal

pub returns : goal.returns
returns c = told_apart
