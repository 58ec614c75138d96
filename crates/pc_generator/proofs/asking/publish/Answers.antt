-- What the book's call comes to.
use Rattle.pc_calls.specs.declared.call.Call.TheVariants.{Publish}
use Rattle.pc_generator.proofs.Standing.{each-shared}
use Rattle.pc_generator.proofs.asking.publish.Goals as goal

pub returns-clause-called : goal.returns-clause-called
returns-clause-called c = each-shared c.publish.result (Publish 0 c.args.file) c.args.book.now c.publish.new.self c.args.own.now c.publish.new.own c.publish.ensures.shares
