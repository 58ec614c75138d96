-- One node more: the lesser of the way so far and of the least join over its edge, if it has the edge.
use Rattle.std.proofs.Common.{◌+◌, length, sym, subst, ◌∙◌, arith}
use Rattle.pc_domains.specs.FrontWays.{IsLeastFrontWay, front_of}
use Rattle.pc_domains.specs.Joins.{IsLeastJoin}
use Rattle.pc_domains.proofs.FrontWayLemmas.{no_edge, one_edge}
use Rattle.pc_domains.proofs.front_way.least_front_way.Goals as goal
use Rattle.pc_domains.proofs.front_way.least_front_way.Goals.{in-Some, in_default}

pub overflow_add-variable : goal.overflow_add-variable
overflow_add-variable g c = omega (arith, c.requires.fronts.canonical.shape.few_variables, c.requires.variable)

pub loop-node-preserved : goal.loop-node-preserved
loop-node-preserved g c =
    let raw = c.args.diagram.now in
    let variable = c.args.variable in
    let value = c.args.value in
    let heads = c.args.heads.now in
    let tails = c.args.tails.now in
    let price = c.args.price in
    let bounds = c.args.bounds.now in
    let node = c.loop-node.node in
    let least = c.loop-node.least in
    let So_far = IsLeastFrontWay raw variable value heads tails price bounds (node + 1) in (
      elim c.match-edge.branch [
        | in-Some w ↦
            let target = w.in-Some.target in
            let join = w.least_join-join.result in
            let leads = sym c.edge.ensures.edge ∙ w.in-Some.is in
            let joins : IsLeastJoin (front_of heads variable node) (front_of tails (variable + 1) target) price bounds (length (front_of heads variable node)) join =
            subst (λ hs. IsLeastJoin hs (front_of tails (variable + 1) target) price bounds (length hs) join) w.items.ensures
            (subst (λ ts. IsLeastJoin w.items.result.now ts price bounds (length w.items.result.now) join) w.items-in-Some.ensures w.least_join-join.ensures) in
            subst So_far (sym (w.least-is ∙ w.lesser_way-least.ensures)) (one_edge raw variable value heads tails price bounds node target leads least join c.loop-node.invariant.0 joins)
        | in_default w ↦ subst So_far (sym w.least-is) (no_edge raw variable value heads tails price bounds node least c.loop-node.invariant.0 (sym c.edge.ensures.edge ∙ w.in_default.is))
      ],
      omega (arith, c.loop-node.invariant.1, c.edge.ensures.step),
    )
