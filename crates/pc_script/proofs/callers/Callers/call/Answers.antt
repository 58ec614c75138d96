use Rattle.std.proofs.Common.{sym, subst}
use Rattle.pc_calls.specs.declared.call.Call.{Call}
use Rattle.pc_calls.specs.declared.call.Call.TheVariants.{Leave}
use Rattle.pc_script.specs.Present.{IsMadeBy}
use Rattle.pc_script.proofs.CallLemmas.{seated_made, seated_ok}
use Rattle.pc_script.proofs.callers.Callers.call.Goals as goal

pub returns-in-Leave-clause-made : goal.returns-in-Leave-clause-made
returns-in-Leave-clause-made c =
    let seated = c.in_ok-place.ensures in
    subst (λ (said : Call). IsMadeBy c.args.caller said c.args.self.now.book c.let_go.new.self.book c.let_go.result) (sym c.in-Leave.is)
    (seated_made c.args.caller Leave c.args.self.now.book c.seat.new.self.book c.let_go.new.self.book c.let_go.result seated.entered
    (c.let_go.ensures.left (λ d. seated.present.settled c.in_ok-place.place d seated.seated.inside) c.args.caller seated.seated))

pub returns-in_default : goal.returns-in_default
returns-in_default c =
    let seated = c.in_ok-place.ensures in
    record {
      present = c.make.ensures.present;
      made = seated_ok c.args.caller c.in_ok-place.place c.args.call c.args.self.now.book c.seat.new.self.book c.make.new.self.book c.seat.new.self.present.items c.make.result seated.entered seated.seated c.make.ensures.made;
    }
