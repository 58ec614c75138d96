-- Each table leads to nodes of small numbers, and in the end all tables are there.
use Rattle.std.proofs.Common.{◌<◌, ℕ, List, [], length, Option, sym, ap, ◌∙◌, subst, arith}
use Rattle.std.specs.List.{list_any}
use Rattle.std.proofs.lemmas.List.{get_or_read, take_all}
use Rattle.pc_diagram.specs.declared.raw_diagram.RawDiagram.{RawDiagram}
use Rattle.pc_diagram.specs.Diagram.{IsCanonical}
use Rattle.pc_diagram.specs.DiagramFaults.{is_outside}
use Rattle.pc_diagram.proofs.DiagramLemmas.{packable}
use Rattle.pc_diagram.proofs.diagram.Diagram.packed.Goals as goal

pub new-requires : goal.new-requires
new-requires c =
    let raw : RawDiagram = c.args.raw in
    let slice = c.as_slice-table-items.ensures in
    let i = c.loop-table.table-index in
    let tables = c.requires.shape.tables in
    let inside : i < length c.as_slice-table-items.result.now = c.loop-table-test.true in
    let small : i < length raw.domains = omega (arith, ap length slice) in
    let table = c.as_slice.ensures ∙ rw slice at (get_or_read c.as_slice-table-items.result.now i c.table-item.result inside c.table-item.is []) in
    ap (list_any (is_outside 4294967295)) table ∙ packable raw c.requires i small

pub invariant_of-result : goal.invariant_of-result
invariant_of-result c =
    let raw : RawDiagram = c.args.raw in
    let whole = c.loop-table.invariant ∙ take_all c.loop-table.table-index raw.edges (omega (arith, ap length c.as_slice-table-items.ensures)) in
    subst (λ (edges : List (List (Option ℕ))). IsCanonical (record { domains = raw.domains; sizes = raw.sizes; edges = edges })) (sym whole) c.requires
