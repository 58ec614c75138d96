-- Each form's job.
use Rattle.pc_top.proofs.program.do_form.Goals as goal

pub returns-in-List-clause-does : goal.returns-in-List-clause-does
returns-in-List-clause-does g c = rw c.in-List.is c.answer.ensures.answers

pub returns-in-Dump-clause-does : goal.returns-in-Dump-clause-does
returns-in-Dump-clause-does g c = rw c.in-Dump.is c.answer-in-Dump.ensures.answers

pub returns-in-Check-clause-does : goal.returns-in-Check-clause-does
returns-in-Check-clause-does g c = rw c.in-Check.is c.answer-in-Check.ensures.answers

pub returns-in-Script-clause-does : goal.returns-in-Script-clause-does
returns-in-Script-clause-does g c = rw c.in-Script.is c.script.ensures.runs

pub returns-in-Generate-clause-does : goal.returns-in-Generate-clause-does
returns-in-Generate-clause-does g c = rw c.in-Generate.is c.generate.ensures.generates
