-- The nodes are at most as many as a diagram may have.
use Rattle.std.proofs.Common.{◌≡◌, ◌+◌, ◌≤◌, take, sum, get_or, sym, subst, arith}
use Rattle.std.proofs.lemmas.List.Sums.{sum_by_more_le}
use Rattle.pc_diagram.proofs.diagram.Diagram.node_count.Goals as goal

pub overflow_add-nodes : goal.overflow_add-nodes
overflow_add-nodes c =
    let items = c.as_slice-size-items.result.now in
    let i = c.loop-size.size-index in
    let so_far : c.loop-size.nodes ≡ sum (take i items) = c.loop-size.invariant in
    let within : sum (take i items) + get_or items i 0 ≤ sum items = sum_by_more_le (λ x. x) items i 0 c.loop-size-test.true in
    let few : sum items ≤ 262144 = subst (λ xs. sum xs ≤ 262144) (sym c.as_slice-size-items.ensures) c.self.invariant.shape.few_nodes in
    omega (arith, c.from-nodes.ensures)
