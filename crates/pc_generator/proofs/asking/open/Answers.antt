-- What the book's call comes to.
use Rattle.pc_calls.specs.declared.call.Call.TheVariants.{Open}
use Rattle.pc_generator.proofs.Standing.{each-shared}
use Rattle.pc_generator.proofs.asking.open.Goals as goal

pub returns-clause-called : goal.returns-clause-called
returns-clause-called c = each-shared c.open_session.result Open c.args.book.now c.open_session.new.self c.args.own.now c.open_session.new.own c.open_session.ensures.shares
