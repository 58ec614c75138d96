use Rattle.std.proofs.Common.{◌≡◌, map}
use Rattle.std.specs.List.{range_with_len}
use Rattle.pc_generator.specs.GeneratedFile.{numbered_value}
use Rattle.pc_generator.proofs.file.eight_values.Given as goal

abbrev pub invariant-loop-number : goal.invariant-loop-number
invariant-loop-number l = l.values ≡ map numbered_value (range_with_len 0 l.number)
