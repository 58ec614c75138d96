-- The caller has just entered a new book.
use Rattle.pc_generator.proofs.Standing.{entered}
use Rattle.pc_generator.proofs.asking.ask.Goals as goal

pub publish_and_ask-answers-requires-clause-entered : goal.publish_and_ask-answers-requires-clause-entered
publish_and_ask-answers-requires-clause-entered c =
    let own = c.in_ok-own.ensures in
    entered c.args.book.now c.enter.new.self c.in_ok-own.own c.requires.none own.entered own.appended own.stands
