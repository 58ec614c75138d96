-- What an answer of `check` to a dump means.
use Rattle.std.specs.Prelude.{◌≡◌, ℕ, List, [], ◌∷◌, ◌++◌, codes, decimal, sum, Some, None}
use Rattle.pc_diagram.specs.declared.diagram_fault.DiagramFault.{DiagramFault}
use Rattle.pc_diagram.specs.declared.diagram_fault.DiagramFault.TheVariants as fault
use Rattle.pc_diagram.specs.DiagramFaults.{first_fault}
use Rattle.pc_diagram.specs.Levels.{edge_count}
use Rattle.pc_dump.specs.declared.dump.Dump.{Dump}
use Rattle.pc_dump.specs.declared.dump.Dump.TheVariants.{Tables, Misfit}
use Rattle.pc_dump.specs.Form.{IsDump, cut_lines}
use Rattle.pc_top.specs.declared.status.Status.{Status}
use Rattle.pc_top.specs.declared.status.Status.TheVariants.{Done, WrongWords, Refused, ReadFault, WriteFault, NoMemory, TooLong}
use Rattle.pc_top.specs.Output.{Output}

-- `good NODES EDGES`
abbrev pub good : ℕ → ℕ → Output
good nodes edges = record { status = Done; text = codes "good " ++ decimal nodes ++ 32 ∷ decimal edges ++ 10 ∷ [] }

-- `refused form LINE`
abbrev pub refused_form : ℕ → Output
refused_form line = record { status = Refused; text = codes "refused form " ++ decimal line ++ 10 ∷ [] }

-- `refused diagram KIND LAYER NODE`
abbrev pub refused_at : List ℕ → ℕ → ℕ → Output
refused_at kind layer node =
    record { status = Refused; text = codes "refused diagram " ++ kind ++ 32 ∷ decimal layer ++ 32 ∷ decimal node ++ 10 ∷ [] }

-- the same by the fault of tables
abbrev pub refused_diagram : DiagramFault → Output
refused_diagram (fault.Shape layer node) = refused_at (codes "shape") layer node
refused_diagram (fault.EdgeOut layer node) = refused_at (codes "edge-out") layer node
refused_diagram (fault.Dead layer node) = refused_at (codes "dead") layer node
refused_diagram (fault.Unreached layer node) = refused_at (codes "unreached") layer node
refused_diagram (fault.Twin layer node) = refused_at (codes "twin") layer node
refused_diagram (fault.Order layer node) = refused_at (codes "order") layer node
refused_diagram fault.NoMemory = record { status = NoMemory; text = [] }

-- what is written of lines: how many nodes and edges a diagram has whose text they are; or the first fault of tables whose
-- text they are; or the first line at which they go wrong
abbrev pub CheckTells : Dump → Status → List ℕ → Type 0
CheckTells (Tables raw) Done written = (first_fault raw ≡ None) × (written ≡ (good (sum raw.sizes) (edge_count raw)).text)
CheckTells (Tables raw) WrongWords written = ⊥
CheckTells (Tables raw) Refused written = (found : DiagramFault) × (first_fault raw ≡ Some found) × (written ≡ (refused_diagram found).text)
CheckTells (Tables raw) ReadFault written = ⊥
CheckTells (Tables raw) WriteFault written = ⊥
CheckTells (Tables raw) NoMemory written = ⊥
CheckTells (Tables raw) TooLong written = ⊥
CheckTells (Misfit line) Done written = ⊥
CheckTells (Misfit line) WrongWords written = ⊥
CheckTells (Misfit line) Refused written = written ≡ (refused_form line).text
CheckTells (Misfit line) ReadFault written = ⊥
CheckTells (Misfit line) WriteFault written = ⊥
CheckTells (Misfit line) NoMemory written = ⊥
CheckTells (Misfit line) TooLong written = ⊥

-- what it means that a text gets this status and what is written
pub record CheckMeans (status : Status) (text written : List ℕ) : Type 0 where
  pub dump : Dump
  pub lines : IsDump dump (cut_lines text)
  pub tells : CheckTells dump status written
