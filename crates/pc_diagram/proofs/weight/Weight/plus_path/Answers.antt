use Rattle.std.proofs.Common.{rules, to_z, of_z}
use Rattle.std.specs.Int.{w128}
use Rattle.pc_diagram.proofs.WeightLemmas.{sum_is}
use Rattle.pc_diagram.proofs.weight.Weight.plus_path.Goals as goal

pub invariant_of-result : goal.invariant_of-result
invariant_of-result c = (sum_is c.self.inside.number c.path.inside.number (to_z w128 (of_z w128 c.sum.result)) c.args.self.now c.args.path.now c.self.invariant c.path.invariant c.self.view_is c.path.view_is (search rules) c.requires.some c.requires.range (search rules)).0

pub returns : goal.returns
returns c = (sum_is c.self.inside.number c.path.inside.number (to_z w128 (of_z w128 c.sum.result)) c.args.self.now c.args.path.now c.self.invariant c.path.invariant c.self.view_is c.path.view_is (search rules) c.requires.some c.requires.range (search rules)).1
