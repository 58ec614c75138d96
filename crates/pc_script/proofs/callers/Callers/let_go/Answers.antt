use Rattle.std.proofs.Common.{subst, sym}
use Rattle.pc_script.specs.Present.{ArePresent}
use Rattle.pc_script.proofs.CallLemmas.{gone-present}
use Rattle.pc_script.proofs.callers.Callers.let_go.Goals as goal

pub returns-clause-present : goal.returns-clause-present
returns-clause-present c =
    subst (ArePresent c.leave.new.self) (sym c.remove-own.ensures.items)
    (gone-present c.args.self.now.book c.leave.new.self c.args.self.now.present.items c.args.place c.remove-own.result c.remove-own.result c.requires.ready c.remove-own.ensures.value c.leave.ensures.appended)
