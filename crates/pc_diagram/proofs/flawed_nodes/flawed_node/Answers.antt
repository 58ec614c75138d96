-- A twin is one of the level.
use Rattle.std.proofs.Common.{◌≡◌, ◌<◌, ℕ, List, [], length, get_or, Option, IfOk, sym, ap, ◌∙◌, subst, arith}
use Rattle.std.proofs.lemmas.List.{get_or_read}
use Rattle.pc_diagram.specs.declared.flaw.Flaw.TheVariants.{Twin}
use Rattle.pc_diagram.specs.declared.raw_diagram.RawDiagram.{RawDiagram}
use Rattle.pc_diagram.specs.DiagramFaults.{flawed_node}
use Rattle.pc_diagram.specs.Levels.{level, as_level}
use Rattle.pc_diagram.proofs.flawed_nodes.flawed_node.Goals as goal

same_twin : (raw : RawDiagram) (v : ℕ) (domains sizes : List ℕ) (table : List (Option ℕ)) → domains ≡ raw.domains → sizes ≡ raw.sizes → table ≡ get_or raw.edges v [] →
    flawed_node Twin (as_level (get_or domains v 0) (get_or sizes v 0) 0 table) ≡ flawed_node Twin (level raw v)
same_twin raw v domains sizes table d s t =
    ap (λ xs. flawed_node Twin (as_level (get_or xs v 0) (get_or sizes v 0) 0 table)) d
    ∙ ap (λ xs. flawed_node Twin (as_level (get_or raw.domains v 0) (get_or xs v 0) 0 table)) s
    ∙ ap (λ xs. flawed_node Twin (as_level (get_or raw.domains v 0) (get_or raw.sizes v 0) 0 xs)) t

pub returns-in-Twin : goal.returns-in-Twin
returns-in-Twin c =
    let raw : RawDiagram = c.args.raw.now in
    let v = c.args.variable in
    let slice = c.as_slice-4.ensures in
    let tables = c.requires.shaped.tables in
    let inside : v < length c.as_slice-4.result.now = omega (arith, ap length slice) in
    let table = c.as_slice-table.ensures ∙ rw slice at (get_or_read c.as_slice-4.result.now v c.index-as_slice-variable.result inside c.index-as_slice-variable.is []) in
    let same = same_twin raw v c.as_slice.result.now c.as_slice-2.result.now c.as_slice-table.result.now c.as_slice.ensures c.as_slice-2.ensures table ∙ ap (λ f. flawed_node f (level raw v)) (sym c.in-Twin.is) in
    subst (λ g. IfOk c.first_twin.result (λ f. f ≡ g)) same c.first_twin.ensures
