use Rattle.std.proofs.Common.{◌≡◌, ◌<◌, Some, ap, sym, ◌∙◌, arith}
use Rattle.pc_file.specs.Limits.{Contents}
use Rattle.pc_file.specs.Positions.{value_named}
use Rattle.pc_file.proofs.PositionLemmas.{value_position_is, value_below}
use Rattle.pc_file.proofs.file.File.value.Goals as goal

-- the contents of the file, by its fields
abbrev contents : goal.In_ok-position → Contents
contents c = record { costs = c.self.inside.costs; variables = c.self.inside.variables; rules = c.self.inside.rules }

found : (c : goal.In_ok-position) → value_named (contents c) c.args.variable c.args.name.now ≡ Some c.in_ok-position.position
found c = sym (value_position_is c.self.inside.names (contents c) c.args.variable c.args.name.now c.self.invariant.1) ∙ sym c.value.ensures ∙ c.in_ok-position.was

pub overflow_cast-result : goal.overflow_cast-result
overflow_cast-result c =
    let below : c.in_ok-position.position < 64 = value_below (contents c) c.args.variable c.args.name.now c.in_ok-position.position c.self.invariant.0 (found c) in
    omega arith

pub returns : goal.returns
returns c = sym (found c) ∙ ap (λ file. value_named file c.args.variable c.args.name.now) c.self.view_is
