-- An edge of the next node leads out, or none so far does.
use Rattle.std.proofs.Common.{◌≡◌, true, sym, ap, ◌∙◌, below_more}
use Rattle.std.specs.List.{list_any}
use Rattle.pc_diagram.specs.DiagramFaults.{is_outside, leads_out}
use Rattle.pc_diagram.specs.Levels.{Level, as_level}
use Rattle.pc_diagram.proofs.FirstBelow.{first_below-is, first_below-none, all_fail}
use Rattle.pc_diagram.proofs.flawed_nodes.first_leading_out.Goals as goal

pub returns-then-leads_out : goal.returns-then-leads_out
returns-then-leads_out c =
    let l : Level = as_level c.args.domain c.args.size c.args.next c.args.table.now in
    let here : leads_out l c.loop-node.node ≡ true = ap (list_any (is_outside c.args.next)) (sym c.row.ensures) ∙ sym c.leads_out.ensures ∙ c.if-leads_out.true in
    sym (first_below-is (leads_out l) c.args.size c.loop-node.node c.loop-node-test.true here c.loop-node.invariant)

pub loop-node-preserved : goal.loop-node-preserved
loop-node-preserved c =
    below_more _ _ c.loop-node.invariant (ap (list_any (is_outside c.args.next)) (sym c.row.ensures) ∙ sym c.leads_out.ensures ∙ c.if-leads_out.false)

pub returns : goal.returns
returns c =
    let l : Level = as_level c.args.domain c.args.size c.args.next c.args.table.now in
    sym (first_below-none (leads_out l) c.args.size (all_fail (leads_out l) c.args.size c.loop-node.node c.loop-node-test.false c.loop-node.invariant))
