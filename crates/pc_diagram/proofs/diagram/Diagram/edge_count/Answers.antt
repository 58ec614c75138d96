-- A layer has at most 262,144 nodes of 64 edges.
use Rattle.std.proofs.Common.{◌≡◌, ℕ, ◌+◌, ◌*◌, ◌<◌, ◌≤◌, [], take, sum, get_or, length, count_by, is_some, ap, ◌∙◌, arith}
use Rattle.std.specs.List.{sum_by}
use Rattle.std.proofs.Math.Nat.{mul-le-mul_left}
use Rattle.std.proofs.lemmas.List.{get_or_read}
use Rattle.std.proofs.lemmas.List.Sums.{count_by-le-length, get_or-le-sum_by, sum_by_more}
use Rattle.pc_diagram.specs.declared.raw_diagram.RawDiagram.{RawDiagram}
use Rattle.pc_diagram.specs.Diagram.{IsShaped}
use Rattle.pc_diagram.specs.Levels.{level}
use Rattle.pc_diagram.proofs.diagram.Diagram.edge_count.Goals as goal

few_edges : (raw : RawDiagram) → IsShaped raw → (i : ℕ) → i < length raw.domains → count_by is_some (level raw i).table ≤ 16777216
few_edges raw h i inside =
    let l = h.shaped i inside in
    let at : i < length raw.sizes = omega (arith, h.layers) in
    let size : get_or raw.sizes i 0 ≤ sum raw.sizes = get_or-le-sum_by (λ x. x) raw.sizes i 0 at in
    let wide : get_or raw.sizes i 0 * get_or raw.domains i 0 ≤ get_or raw.sizes i 0 * 64 = mul-le-mul_left (get_or raw.sizes i 0) l.few_values in
    omega (arith, count_by-le-length is_some (level raw i).table, l.width, h.few_nodes)

pub overflow_add-edges : goal.overflow_add-edges
overflow_add-edges c =
    let raw : RawDiagram = record { domains = c.self.inside.domains; sizes = c.self.inside.sizes; edges = c.self.inside.edges } in
    let shape = c.self.invariant.shape in
    let i = c.loop-table.table-index in
    let inside : i < length raw.domains = omega (arith, shape.tables, ap length c.as_slice-table-items.ensures) in
    let slice = c.as_slice-table-items.ensures in
    let table = rw slice at (get_or_read c.as_slice-table-items.result.now i c.table-item.result c.loop-table-test.true c.table-item.is []) in
    let few : c.edge_count.result ≤ 16777216 = omega (arith, c.edge_count.ensures ∙ ap (count_by is_some) table, few_edges raw shape i inside) in
    let so_far = c.loop-table.invariant.few in
    let most = shape.few_variables in
    omega arith

pub loop-table-preserved : goal.loop-table-preserved
loop-table-preserved c =
    let raw : RawDiagram = record { domains = c.self.inside.domains; sizes = c.self.inside.sizes; edges = c.self.inside.edges } in
    let shape = c.self.invariant.shape in
    let items = c.as_slice-table-items.result.now in
    let i = c.loop-table.table-index in
    let inside : i < length raw.domains = omega (arith, shape.tables, ap length c.as_slice-table-items.ensures) in
    let slice = c.as_slice-table-items.ensures in
    let table = rw slice at (get_or_read items i c.table-item.result c.loop-table-test.true c.table-item.is []) in
    let few : c.edge_count.result ≤ 16777216 = omega (arith, c.edge_count.ensures ∙ ap (count_by is_some) table, few_edges raw shape i inside) in
    let more : sum_by (count_by is_some) (take (i + 1) items) ≡ sum_by (count_by is_some) (take i items) + count_by is_some (get_or items i c.table-item.result) = sum_by_more (count_by is_some) items i c.table-item.result c.loop-table-test.true in
    let here : c.edge_count.result ≡ count_by is_some (get_or items i c.table-item.result) = c.edge_count.ensures ∙ ap (count_by is_some) c.table-item.is in
    record { so_far = omega (arith, more, here, c.loop-table.invariant.so_far); few = omega (arith, few, c.loop-table.invariant.few) }
