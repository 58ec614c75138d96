-- The file that is published is the generator's.
use Rattle.pc_calls.specs.declared.call.Call.TheVariants.{Enter}
use Rattle.pc_calls.specs.State.{empty}
use Rattle.pc_calls.specs.Step.{after}
use Rattle.pc_generator.specs.GeneratorCalls.{generator_caller}
use Rattle.pc_generator.proofs.Standing.{is-published}
use Rattle.pc_generator.proofs.asking.publish_and_ask.Goals as goal

pub ask_sessions-requires : goal.ask_sessions-requires
ask_sessions-requires c = record {
  published =
      is-published c.args.size c.args.file c.publish.new.book c.publish.new.own c.requires.file (c.in_ok-publish.ensures.called (after generator_caller Enter empty) c.requires.entered).0;
}
