use Rattle.std.proofs.Common.{◌≡◌, map}
use Rattle.std.specs.List.{range_with_len}
use Rattle.pc_generator.specs.GeneratedFile.{neighbour_rule}
use Rattle.pc_generator.proofs.file.all_rules.Given as goal

abbrev pub invariant-loop-place : goal.invariant-loop-place
invariant-loop-place l = l.rules ≡ map neighbour_rule (range_with_len 0 l.place)
