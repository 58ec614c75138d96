-- In the end all edges count.
use Rattle.std.proofs.Common.{ℕ, Bool, false, ap, ◌∙◌}
use Rattle.std.specs.List.{list_any}
use Rattle.std.proofs.lemmas.List.{take_all}
use Rattle.std.proofs.lemmas.List.FromFn.{fill_by_all}
use Rattle.pc_diagram.specs.Fitting.{is_number}
use Rattle.pc_diagram.proofs.flawed_nodes.reached_nodes.Goals as goal

pub returns : goal.returns
returns c =
    let table = c.args.table.now in
    let f : ℕ → Bool = λ node. list_any (λ target. is_number target node) table in
    fill_by_all f c.loop-edge.reached.items c.args.count false c.loop-edge.invariant.count
    (λ k lt. c.loop-edge.invariant.so_far k lt ∙ ap (list_any (λ target. is_number target k)) (take_all c.loop-edge.edge-index table c.loop-edge-test.false))
