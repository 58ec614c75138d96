use Rattle.std.proofs.Common.{rules, to_z, of_z}
use Rattle.std.specs.Int.{w128}
use Rattle.pc_diagram.proofs.WeightLemmas.{other_rank_is}
use Rattle.pc_diagram.proofs.weight.Weight.with_rank.Goals as goal

pub invariant_of-result : goal.invariant_of-result
invariant_of-result c = (other_rank_is c.self.inside.number (to_z w128 (of_z w128 c.ranked_anew.result)) c.args.rank c.args.self.now c.self.invariant c.self.view_is (search rules) c.requires (search rules)).0

pub returns : goal.returns
returns c = (other_rank_is c.self.inside.number (to_z w128 (of_z w128 c.ranked_anew.result)) c.args.rank c.args.self.now c.self.invariant c.self.view_is (search rules) c.requires (search rules)).1
