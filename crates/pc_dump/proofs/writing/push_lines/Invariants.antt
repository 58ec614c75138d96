-- With the lines that are left the lines so far are all.
use Rattle.std.proofs.Common.{◌≡◌, ◌++◌, drop}
use Rattle.std.specs.List.{flat_map}
use Rattle.pc_base.specs.Grown.{HasGrown}
use Rattle.pc_dump.specs.Dump.{dump_text, layers, line_of}
use Rattle.pc_dump.proofs.writing.push_lines.Given as goal

abbrev pub invariant-loop-variable : goal.invariant-loop-variable
invariant-loop-variable g l =
    let raw = l.diagram in
    let k = l.variable in
    (l.text ++ flat_map line_of (layers k (drop k raw.domains) (drop k raw.sizes) (drop k raw.edges)) ≡ l.fn.text ++ dump_text raw) × HasGrown l.fn.text l.text
