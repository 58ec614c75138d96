use Rattle.std.proofs.Common.{length, ap, subst, ◌∙◌, arith}
use Rattle.pc_book.specs.Book.{history_of}
use Rattle.pc_script.proofs.CallLemmas.{first_stands}
use Rattle.pc_script.proofs.FinishLemmas.{AreLeft, all-left, no_length, one-left}
use Rattle.pc_script.proofs.callers.Callers.finish.Goals as goal

pub leave-requires : goal.leave-requires
leave-requires c = record { stands = first_stands c.loop-own.book c.loop-own.own-iterator.rest.items c.next.new.self.rest.items c.in-Some.own c.in-Some.ensures.steps.0 c.loop-own.invariant.0.present }

pub loop-own-preserved : goal.loop-own-preserved
loop-own-preserved c = (
  one-left (history_of c.args.self.book) c.loop-own.book c.leave.new.self c.in-Some.own c.next.new.self.rest.items
      (subst (AreLeft (history_of c.args.self.book) c.loop-own.book) c.in-Some.ensures.steps.0 c.loop-own.invariant.0) c.leave.ensures.appended,
  omega (arith, c.loop-own.invariant.1, ap length c.in-Some.ensures.steps.0, c.in-Some.ensures.steps.1),
)

pub returns-clause-history : goal.returns-clause-history
returns-clause-history c = ap history_of c.finish.ensures.blocks ∙ all-left (history_of c.args.self.book) c.loop-own.book c.loop-own.own-iterator.rest.items (no_length c.loop-own.own-iterator.rest.items (omega (arith, c.loop-own.invariant.1, c.in-None.ensures.steps.0))) c.loop-own.invariant.0
