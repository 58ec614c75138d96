-- The lines are cut where they were put together.
use Rattle.pc_dump.proofs.TextLemmas.{text_cut, text_told}
use Rattle.pc_dump.proofs.laws.lines_tell_text.Goals as goal

pub returns-clause-cut : goal.returns-clause-cut
returns-clause-cut c = text_cut

pub returns-clause-told : goal.returns-clause-told
returns-clause-told c = text_told
