-- What is told of a dump.
use Rattle.std.proofs.Common.{◌≡◌, ◌≢◌, ℕ, Some, None, refl, sym, ap, ◌∙◌, subst, sum}
use Rattle.std.specs.Prelude.{Result, Ok, Err, IfOk, OnOk}
use Rattle.pc_diagram.specs.declared.diagram_fault.DiagramFault.{DiagramFault}
use Rattle.pc_diagram.specs.declared.diagram_fault.DiagramFault.TheVariants as fault
use Rattle.pc_diagram.specs.declared.raw_diagram.RawDiagram.{RawDiagram}
use Rattle.pc_diagram.specs.DiagramFaults.{first_fault}
use Rattle.pc_diagram.specs.Levels.{edge_count}
use Rattle.pc_dump.specs.declared.dump.Dump.TheVariants.{Tables, Misfit}
use Rattle.pc_top.specs.declared.response.Response.{Response}
use Rattle.pc_top.specs.declared.status.Status.TheVariants.{Refused}
use Rattle.pc_top.specs.CheckMeans.{CheckTells, good, refused_diagram, refused_form}
use Rattle.pc_top.specs.Response.{Is}

-- a fault of tables is told at status 3
fault_refused : (found : DiagramFault) → found ≢ fault.NoMemory → (refused_diagram found).status ≡ Refused
fault_refused (fault.Shape layer node) other = refl
fault_refused (fault.EdgeOut layer node) other = refl
fault_refused (fault.Dead layer node) other = refl
fault_refused (fault.Unreached layer node) other = refl
fault_refused (fault.Twin layer node) other = refl
fault_refused (fault.Order layer node) other = refl
fault_refused fault.NoMemory other = absurd (other refl)

pub tells_good : {E : Type 0} (raw diagram : RawDiagram) (result : Result Response E) → diagram ≡ raw → first_fault raw ≡ None → IfOk result (λ reply. Is reply (good (sum diagram.sizes) (edge_count diagram))) → IfOk result (λ reply. CheckTells (Tables raw) reply.status reply.text)
tells_good raw diagram (Ok reply) same none is =
    subst (λ s. CheckTells (Tables raw) s reply.text) (sym is.status) (none, is.text ∙ ap (λ (r : RawDiagram). (good (sum r.sizes) (edge_count r)).text) same)
tells_good raw diagram (Err e) same none is = tt

pub tells_fault : {E : Type 0} (raw : RawDiagram) (found : DiagramFault) (result : Result Response E) → (found ≢ fault.NoMemory → first_fault raw ≡ Some found) → IfOk result (λ reply. Is reply (refused_diagram found)) → OnOk result (found ≢ fault.NoMemory) → IfOk result (λ reply. CheckTells (Tables raw) reply.status reply.text)
tells_fault raw found (Ok reply) first is named =
    subst (λ s. CheckTells (Tables raw) s reply.text) (sym (is.status ∙ fault_refused found named)) (found, first named, is.text)
tells_fault raw found (Err e) first is named = tt

pub tells_misfit : {E : Type 0} (line : ℕ) (result : Result Response E) → IfOk result (λ reply. Is reply (refused_form line)) → IfOk result (λ reply. CheckTells (Misfit line) reply.status reply.text)
tells_misfit line (Ok reply) is = subst (λ s. CheckTells (Misfit line) s reply.text) (sym is.status) is.text
tells_misfit line (Err e) is = tt
