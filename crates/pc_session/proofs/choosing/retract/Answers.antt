-- The slots of the diagram are those of the file's words.
use Rattle.std.proofs.Common.{ap, ◌∙◌}
use Rattle.pc_file.specs.Contents.{Contents}
use Rattle.pc_file.specs.Positions.{variable_named}
use Rattle.pc_session.proofs.SlotLemmas.{retract_within, named_inside}
use Rattle.pc_session.proofs.choosing.retract.Goals as goal

pub returns-clause-steps : goal.returns-clause-steps
returns-clause-steps g c =
    let version = c.args.version.now in
    let named = c.in-Some.ensures ∙ ap (λ (f : Contents). variable_named f c.args.variable.now) c.file.ensures in
    retract_within version.file version.diagram c.requires.board.canonical version.domains version.words (variable_named version.file c.args.variable.now) c.in-Some.variable c.retract_at.new.steps c.args.steps.now named
    (named_inside version.file version.diagram c.requires.board.canonical version.domains version.words c.args.variable.now c.in-Some.variable named) c.retract_at.ensures.steps
