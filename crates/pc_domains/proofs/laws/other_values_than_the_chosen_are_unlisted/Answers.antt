-- A word that takes the value would go through an edge that the choices allow.
use Rattle.pc_domains.proofs.ListedLemmas.{other_chosen}
use Rattle.pc_domains.proofs.laws.other_values_than_the_chosen_are_unlisted.Goals as goal

pub returns : goal.returns
returns c = other_chosen
