-- The other variables keep their values.
use Rattle.std.proofs.Common.{sym, subst}
use Rattle.pc_diagram.proofs.ChoiceLemmas.{value_of-push}
use Rattle.pc_diagram.specs.Choices.{AgreeBeside}
use Rattle.pc_domains.proofs.board.Board.with_choice.Goals as goal

pub again-requires-clause-agree : goal.again-requires-clause-agree
again-requires-clause-agree g c =
    subst (λ l. AgreeBeside c.args.variable c.args.self.now.choices l) (sym c.in_ok-choices.ensures) (λ other differ. sym (value_of-push c.args.self.now.choices (record { variable = c.args.variable; value = c.args.value }) other differ))
