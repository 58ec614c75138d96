-- An edge leads to a node of the next layer.
use Rattle.std.proofs.Common.{◌+◌, ◌<◌, [], length, get_or, IfSome, sym, ap, subst, arith}
use Rattle.std.proofs.lemmas.List.{get_or_read}
use Rattle.pc_diagram.specs.declared.raw_diagram.RawDiagram.{RawDiagram}
use Rattle.pc_diagram.specs.Levels.{level}
use Rattle.pc_diagram.proofs.UniqueLemmas.{entry_within}
use Rattle.pc_diagram.proofs.diagram.Diagram.edge.Goals as goal

pub returns-clause-within : goal.returns-clause-within
returns-clause-within g c =
    let raw : RawDiagram = record { domains = c.self.inside.domains; sizes = c.self.inside.sizes; edges = c.self.inside.edges } in
    let v = c.args.variable in
    let small : v < length raw.domains = subst (λ (r : RawDiagram). v < length r.domains) (sym c.self.view_is) c.requires.variable in
    let tables = c.self.invariant.shape.tables in
    let slice = c.as_slice-2.ensures in
    let inside : v < length c.as_slice-2.result.now = omega (arith, ap length slice) in
    let table = rw slice at (get_or_read c.as_slice-2.result.now v c.index-as_slice-variable.result inside c.index-as_slice-variable.is []) in
    let within = entry_within (level raw v) (c.self.invariant.canonical v small) c.index-as_slice-variable.result table _ c.edge.result c.edge.ensures in
    subst (λ (r : RawDiagram). IfSome c.edge.result (λ target. target < get_or r.sizes (v + 1) 0)) c.self.view_is within
