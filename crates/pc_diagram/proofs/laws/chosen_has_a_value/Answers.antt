-- By the lemma on choices.
use Rattle.pc_diagram.proofs.ChoiceLemmas.{is_some-value_of}
use Rattle.pc_diagram.proofs.laws.chosen_has_a_value.Goals as goal

pub returns : goal.returns
returns c = is_some-value_of
