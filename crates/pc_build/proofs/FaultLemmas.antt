-- Canonical tables have no fault, so that only memory can be wanting.
use Rattle.std.proofs.Common.{◌≡◌, ◌≢◌, Option, Some, None, Result, Ok, Err, IfErr, refl, sym, ◌∙◌}
use Rattle.pc_diagram.specs.declared.diagram_fault.DiagramFault.{DiagramFault}
use Rattle.pc_diagram.specs.declared.diagram_fault.DiagramFault.TheVariants.{NoMemory}
use Rattle.pc_diagram.specs.declared.raw_diagram.RawDiagram.{RawDiagram}
use Rattle.pc_diagram.specs.Diagram.{IsCanonical}
use Rattle.pc_diagram.specs.DiagramFaults.{first_fault}
use Rattle.pc_diagram.proofs.NoFault.{canonical_no_fault}

only_memory : (first : Option DiagramFault) (fault : DiagramFault) → first ≡ None → (fault ≢ NoMemory → first ≡ Some fault) → fault ≡ NoMemory
only_memory first NoMemory none told = refl
only_memory first fault none told = let told_none : None ≡ Some fault = sym none ∙ told (λ same. cc) in absurd cc

-- the check of canonical tables tells of no other fault
pub memory_alone : {A : Type 0} (raw : RawDiagram) (r : Result A DiagramFault) → IsCanonical raw → IfErr r (λ fault. fault ≢ NoMemory → first_fault raw ≡ Some fault) → IfErr r (λ fault. fault ≡ NoMemory)
memory_alone raw (Ok diagram) canonical h = tt
memory_alone raw (Err fault) canonical h = only_memory (first_fault raw) fault (canonical_no_fault raw canonical) h
