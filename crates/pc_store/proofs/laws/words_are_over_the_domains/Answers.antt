use Rattle.pc_store.proofs.SetLemmas.{words_are_over}
use Rattle.pc_store.proofs.laws.words_are_over_the_domains.Goals as goal

pub returns : goal.returns
returns c = words_are_over
