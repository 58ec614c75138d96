-- One layer more.
use Rattle.std.proofs.Common.{◌<◌, ◌++◌, length, get_or, refl, ap, ◌∙◌, arith}
use Rattle.std.specs.List.{flat_map}
use Rattle.pc_base.proofs.GrownLemmas.{grown_same, grown_on, grown_further}
use Rattle.pc_diagram.specs.Levels.{level}
use Rattle.pc_dump.specs.Dump.{line_of, nodes}
use Rattle.pc_dump.proofs.WriteLemmas.{layers_on}
use Rattle.pc_dump.proofs.writing.push_lines.Goals as goal

pub loop-variable-preserved : goal.loop-variable-preserved
loop-variable-preserved g c =
    let raw = c.args.diagram.now in
    let shape = c.domains-domains.ensures.canonical.shape in
    let domains = c.domains-domains.ensures.domains in
    let k = c.loop-variable.variable in
    let inside : k < length raw.domains = omega (arith, ap length domains) in
    let text = c.loop-variable.text in
    let first = c.push_layer.new.text in
    let last = c.push_nodes.new.text in
    let grown = grown_on text _ first last c.in_ok-push_layer.ensures.ok (grown_on first _ last last c.in_ok-push_nodes.ensures.ok (grown_same last last refl)) in (
      layers_on raw.domains raw.sizes raw.edges shape.layers shape.tables k _ text first last inside c.loop-variable.invariant.0
          c.in_ok-push_layer.ensures.ok
          (c.in_ok-push_nodes.ensures.ok ∙ ap (λ ds. first ++ flat_map line_of (nodes (get_or ds k 0) (get_or raw.sizes k 0) (level raw k).table)) domains),
      grown_further _ text last c.loop-variable.invariant.1 grown,
    )
