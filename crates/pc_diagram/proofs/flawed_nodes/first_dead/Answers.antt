-- The next node is dead, or none so far is.
use Rattle.std.proofs.Common.{◌≡◌, true, not, is_some, sym, ap, ◌∙◌, below_more}
use Rattle.std.specs.List.{list_any}
use Rattle.pc_diagram.specs.DiagramFaults.{is_dead}
use Rattle.pc_diagram.specs.Levels.{Level, as_level}
use Rattle.pc_diagram.proofs.FirstBelow.{first_below-is, first_below-none, all_fail}
use Rattle.pc_diagram.proofs.flawed_nodes.first_dead.Goals as goal

pub returns-then-not-has_edge : goal.returns-then-not-has_edge
returns-then-not-has_edge c =
    let l : Level = as_level c.args.domain c.args.size 0 c.args.table.now in
    let here : is_dead l c.loop-node.node ≡ true = ap (λ r. not (list_any is_some r)) (sym c.row.ensures) ∙ ap not (sym c.has_edge.ensures ∙ c.if-not-has_edge.true) in
    sym (first_below-is (is_dead l) c.args.size c.loop-node.node c.loop-node-test.true here c.loop-node.invariant)

pub loop-node-preserved : goal.loop-node-preserved
loop-node-preserved c =
    below_more _ _ c.loop-node.invariant (ap (λ r. not (list_any is_some r)) (sym c.row.ensures) ∙ ap not (sym c.has_edge.ensures ∙ c.if-not-has_edge.false))

pub returns : goal.returns
returns c =
    let l : Level = as_level c.args.domain c.args.size 0 c.args.table.now in
    sym (first_below-none (is_dead l) c.args.size (all_fail (is_dead l) c.args.size c.loop-node.node c.loop-node-test.false c.loop-node.invariant))
