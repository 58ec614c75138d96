-- By the label of the root's tails.
use Rattle.std.proofs.Common.{rules, sym, ◌∙◌, of_z, to_z, w64}
use Rattle.pc_domains.proofs.LeastEnds.{label_least, label_none, label_past}
use Rattle.pc_domains.proofs.SlotLemmas.{label_steps}
use Rattle.pc_domains.proofs.least_cost.least_by_labels.Goals as goal

pub returns-in_default-clause-least : goal.returns-in_default-clause-least
returns-in_default-clause-least g c =
    label_none c.args.diagram.now c.requires.canonical c.args.costs.now c.args.choices.now c.args.bounds.now c.requires.choices c.requires.alone c.in_ok-labels.labels c.in_ok-labels.ensures.tails (sym c.at.ensures ∙ c.in_default.is)

pub returns-then-not-keeps-clause-least : goal.returns-then-not-keeps-clause-least
returns-then-not-keeps-clause-least g c =
    label_past c.args.diagram.now c.requires.canonical c.args.costs.now c.args.choices.now c.args.bounds.now c.requires.choices c.requires.alone c.in_ok-labels.labels c.in_ok-labels.ensures.tails c.in-Some.label (sym c.at.ensures ∙ c.in-Some.is)
    (record { first = to_z w64 (of_z w64 c.in-Some.label.first); second = to_z w64 (of_z w64 c.in-Some.label.second) }) (search rules) (search rules) (sym c.keeps.ensures ∙ search rules)

pub returns-clause-least : goal.returns-clause-least
returns-clause-least g c =
    label_least c.args.diagram.now c.requires.canonical c.args.costs.now c.args.choices.now c.args.bounds.now c.requires.choices c.requires.alone c.in_ok-labels.labels c.in_ok-labels.ensures.tails c.in-Some.label (sym c.at.ensures ∙ c.in-Some.is)
    (record { first = to_z w64 (of_z w64 c.in-Some.label.first); second = to_z w64 (of_z w64 c.in-Some.label.second) }) (search rules) (search rules) (sym c.keeps.ensures ∙ search rules)
    (to_z w64 (of_z w64 (to_z w64 (of_z w64 c.in-Some.label.first)))) (search rules)

pub returns-in_err-labels-clause-steps : goal.returns-in_err-labels-clause-steps
returns-in_err-labels-clause-steps g c = label_steps c.args.diagram.now c.args.choices.now c.tails.new.steps c.args.steps.now c.requires.choices.choices_of c.tails.ensures.steps

pub returns-in_default-clause-steps : goal.returns-in_default-clause-steps
returns-in_default-clause-steps g c = label_steps c.args.diagram.now c.args.choices.now c.tails.new.steps c.args.steps.now c.requires.choices.choices_of c.tails.ensures.steps

pub returns-then-not-keeps-clause-steps : goal.returns-then-not-keeps-clause-steps
returns-then-not-keeps-clause-steps g c = label_steps c.args.diagram.now c.args.choices.now c.tails.new.steps c.args.steps.now c.requires.choices.choices_of c.tails.ensures.steps

pub returns-clause-steps : goal.returns-clause-steps
returns-clause-steps g c = label_steps c.args.diagram.now c.args.choices.now c.tails.new.steps c.args.steps.now c.requires.choices.choices_of c.tails.ensures.steps
