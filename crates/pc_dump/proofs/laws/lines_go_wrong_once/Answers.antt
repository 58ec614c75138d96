-- What begins a text up to a line begins it up to each line before.
use Rattle.pc_dump.proofs.ToldApart.{never_wrong, wrong_once}
use Rattle.pc_dump.proofs.laws.lines_go_wrong_once.Goals as goal

pub returns-clause-once : goal.returns-clause-once
returns-clause-once c = wrong_once

pub returns-clause-never : goal.returns-clause-never
returns-clause-never c = never_wrong
