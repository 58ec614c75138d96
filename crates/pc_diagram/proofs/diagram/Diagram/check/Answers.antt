-- Tables without a fault are those of a canonical diagram.
use Rattle.std.proofs.Common.{sym, ◌∙◌}
use Rattle.pc_diagram.proofs.DiagramLemmas.{none_flawed}
use Rattle.pc_diagram.proofs.ShapeLemmas.{none_misshapen}
use Rattle.pc_diagram.proofs.diagram.Diagram.check.Goals as goal

pub fault_among-requires : goal.fault_among-requires
fault_among-requires c = none_misshapen c.args.raw (sym c.misshapen_layer.ensures ∙ c.in_default.is)

pub packed-requires : goal.packed-requires
packed-requires c = none_flawed c.args.raw (none_misshapen c.args.raw (sym c.misshapen_layer.ensures ∙ c.in_default.is)) (sym c.in_ok-fault.ensures ∙ c.in_default-2.is)
