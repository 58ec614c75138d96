use Rattle.std.proofs.Common.{rules}
use Rattle.pc_diagram.proofs.WeightLemmas.{path_is}
use Rattle.pc_diagram.proofs.weight.Weight.ranked.Goals as goal

pub returns : goal.returns
returns c = path_is c.self.inside.number c.unpacked.result c.args.self.now c.self.view_is (search rules) (search rules)
