-- By the lemmas on faults.
use Rattle.pc_diagram.proofs.NoFault.{no_fault_canonical, canonical_no_fault}
use Rattle.pc_diagram.proofs.diagram_laws.canonical_tables_have_no_fault.Goals as goal

pub returns : goal.returns
returns c = λ raw. (no_fault_canonical raw, canonical_no_fault raw)
