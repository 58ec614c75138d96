use Rattle.std.proofs.Common.{rules}
use Rattle.pc_diagram.proofs.WeightLemmas.{less_weight}
use Rattle.pc_diagram.proofs.weight.Weight.is_less_than.Goals as goal

pub returns : goal.returns
returns c =
    let less = less_weight c.self.inside.number c.other.inside.number c.self.invariant c.other.invariant c.args.self.now c.args.other.now c.self.view_is c.other.view_is in
    search (rules, less)
