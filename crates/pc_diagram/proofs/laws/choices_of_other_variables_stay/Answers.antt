use Rattle.pc_diagram.proofs.ChoiceLemmas.{value_of-push, value_of-without}
use Rattle.pc_diagram.proofs.laws.choices_of_other_variables_stay.Goals as goal

pub returns-clause-added : goal.returns-clause-added
returns-clause-added c = value_of-push

pub returns-clause-taken_out : goal.returns-clause-taken_out
returns-clause-taken_out c = value_of-without
