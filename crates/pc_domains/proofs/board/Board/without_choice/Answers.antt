-- The other choices stay, and keep their values.
use Rattle.std.proofs.Common.{Bool, not, ◌==◌, sym, subst}
use Rattle.std.proofs.lemmas.List.Elements.{All-filter}
use Rattle.pc_diagram.specs.declared.choice.Choice.{Choice}
use Rattle.pc_diagram.specs.Choices.{without, AgreeBeside}
use Rattle.pc_diagram.specs.NodePaths.{IsChoiceOf}
use Rattle.pc_diagram.proofs.ChoiceLemmas.{are_distinct-filter, value_of-without}
use Rattle.pc_domains.specs.Sides.{AreDistinctOf}
use Rattle.pc_domains.proofs.board.Board.without_choice.Goals as goal

pub again-requires-clause-choices : goal.again-requires-clause-choices
again-requires-clause-choices g c =
    let domains = c.args.diagram.now.domains in
    let choices = c.args.self.now.choices in
    let others : Choice → Bool = λ (d : Choice). not (d.variable == c.args.variable) in
    let are : AreDistinctOf domains (without choices c.args.variable) = record {
      distinct = are_distinct-filter others choices c.requires.board.choices_of.distinct;
      choices_of = All-filter others (IsChoiceOf domains) choices c.requires.board.choices_of.choices_of;
    } in
    subst (AreDistinctOf domains) (sym c.in_ok-choices.ensures) are

pub again-requires-clause-agree : goal.again-requires-clause-agree
again-requires-clause-agree g c =
    subst (λ l. AgreeBeside c.args.variable c.args.self.now.choices l) (sym c.in_ok-choices.ensures) (λ other differ. sym (value_of-without c.args.self.now.choices c.args.variable other differ))
