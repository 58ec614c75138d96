use Rattle.pc_build.proofs.FaultLemmas.{memory_alone}
use Rattle.pc_build.proofs.extract.diagram_of.Goals as goal

pub returns-clause-memory : goal.returns-clause-memory
returns-clause-memory c = memory_alone c.in_ok-raw.raw c.check.result (c.in_ok-raw.ensures.canonical c.requires.few) c.check.ensures.fault
