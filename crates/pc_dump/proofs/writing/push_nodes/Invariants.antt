-- With the lines that are left the lines so far are those of all nodes.
use Rattle.std.proofs.Common.{◌≡◌, ◌++◌, ◌-◌, ◌*◌, drop, get_or}
use Rattle.std.specs.List.{flat_map}
use Rattle.pc_diagram.specs.Levels.{level}
use Rattle.pc_base.specs.Grown.{HasGrown}
use Rattle.pc_dump.specs.Dump.{line_of, nodes}
use Rattle.pc_dump.proofs.writing.push_nodes.Given as goal

abbrev pub invariant-loop-node : goal.invariant-loop-node
invariant-loop-node g l =
    let size = get_or l.diagram.sizes l.variable 0 in
    let table = (level l.diagram l.variable).table in
    (l.text ++ flat_map line_of (nodes l.domain (size - l.node) (drop (l.node * l.domain) table)) ≡ l.initial.text ++ flat_map line_of (nodes l.domain size table)) × HasGrown l.initial.text l.text
