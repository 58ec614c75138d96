use Rattle.std.proofs.Common.{◌<◌, sym, subst, IfSome}
use Rattle.std.specs.Prelude.{slice_index}
use Rattle.pc_diagram.specs.Choices.{value_of}
use Rattle.pc_labels.proofs.SlotLemmas.{chosen_inside}
use Rattle.pc_labels.proofs.slots.Slots.new.Goals as goal

pub allowed_values-requires : goal.allowed_values-requires
allowed_values-requires c = subst (λ ds. IfSome (value_of c.args.choices.now c.args.variable) (λ value. value < slice_index ds c.args.variable)) (sym c.domains.ensures.domains) (chosen_inside c.args.diagram.now.domains c.args.choices.now c.args.variable c.requires.choices)
