use Rattle.pc_store.proofs.SetLemmas.{same_when}
use Rattle.pc_store.proofs.store.Store.same_set.Goals as goal

pub returns : goal.returns
returns c = same_when c.args.self.now c.args.a c.args.b c.requires.first c.requires.second c.eq.result c.eq.ensures
