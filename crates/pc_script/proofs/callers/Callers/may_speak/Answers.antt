use Rattle.std.proofs.Common.{◌∙◌, sym, ap, arith}
use Rattle.std.specs.Prelude.{is_some}
use Rattle.std.specs.List.{position}
use Rattle.pc_script.specs.Present.{has_number}
use Rattle.pc_script.proofs.SeatLemmas.{some-or-none-speaks}
use Rattle.pc_script.proofs.callers.Callers.may_speak.Goals as goal

pub returns-else-caller-entered : goal.returns-else-caller-entered
returns-else-caller-entered c =
    c.is_some.ensures ∙ ap is_some (c.place.ensures ∙ ap (position (has_number c.args.caller)) c.as_slice.ensures.value)
    ∙ some-or-none-speaks c.args.self.now.book c.args.self.now.present.items c.requires c.args.caller
    (sym c.is_number.ensures ∙ c.if-is_number.true)
    (λ next. c.if-caller-entered.false (omega (arith, next, c.entered.ensures)))
