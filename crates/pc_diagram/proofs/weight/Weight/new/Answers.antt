use Rattle.std.proofs.Common.{ap, ◌∙◌, rules, to_z, of_z}
use Rattle.std.specs.Int.{w128}
use Rattle.pc_diagram.specs.declared.weight.Ranked.{Ranked}
use Rattle.pc_diagram.specs.Weight.{weight_of, ranked_number}
use Rattle.pc_diagram.proofs.WeightLemmas.{weight_of-number, is_weight}
use Rattle.pc_diagram.proofs.weight.Weight.new.Goals as goal

pub invariant_of-result : goal.invariant_of-result
invariant_of-result c = is_weight _ _ (record { first = c.requires.first; second = c.requires.second; rank = c.requires.rank }) (search rules)

pub returns : goal.returns
returns c =
    let r : Ranked = record { pair = c.args.pair; rank = c.args.rank } in
    ap weight_of {x = to_z w128 (of_z w128 c.packed.result)} {y = ranked_number r} (search rules) ∙ weight_of-number r (record { first = c.requires.first; second = c.requires.second; rank = c.requires.rank })
