-- One node's line more.
use Rattle.std.proofs.Common.{◌+◌, ◌*◌, ◌<◌, ◌++◌, get_or, refl, sym, ap, ◌∙◌, arith}
use Rattle.std.specs.List.{slice_range}
use Rattle.pc_base.proofs.GrownLemmas.{grown_same, grown_on, grown_further}
use Rattle.pc_diagram.specs.Levels.{level}
use Rattle.pc_dump.specs.Dump.{line_of, node_words}
use Rattle.pc_dump.proofs.WriteLemmas.{nodes_on}
use Rattle.pc_dump.proofs.writing.push_nodes.Goals as goal

pub loop-node-preserved : goal.loop-node-preserved
loop-node-preserved g c =
    let raw = c.args.diagram.now in
    let size = get_or raw.sizes c.args.variable 0 in
    let table = (level raw c.args.variable).table in
    let node = c.loop-node.node in
    let text = c.loop-node.text in
    let inside : node < size = omega (arith, c.nodes-node-end.ensures) in
    let last = c.push_node.new.text in
    let grown = grown_on text _ last last c.in_ok-push_node.ensures.ok (grown_same last last refl) in (
      nodes_on c.args.domain size node table _ text last inside c.loop-node.invariant.0
          (c.in_ok-push_node.ensures.ok ∙ ap (λ n. text ++ line_of (node_words (slice_range table (node * n) (node * n + n)))) (sym c.requires.domain)),
      grown_further _ text last c.loop-node.invariant.1 grown,
    )
