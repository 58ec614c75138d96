use Rattle.pc_script.proofs.OnceLemmas.{leaves_journal}
use Rattle.pc_script.proofs.running.answer_all.Goals as goal

pub returns-clause-left : goal.returns-clause-left
returns-clause-left g c = leaves_journal _ _ c.answer_lines-answered.result _ _ c.finish.ensures.history c.answer_lines-answered.ensures.left
