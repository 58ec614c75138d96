use Rattle.std.proofs.Common.{◌≡◌, map}
use Rattle.std.specs.List.{range_with_len}
use Rattle.pc_generator.specs.GeneratedFile.{numbered_variable}
use Rattle.pc_generator.proofs.file.all_variables.Given as goal

abbrev pub invariant-loop-place : goal.invariant-loop-place
invariant-loop-place l = l.variables ≡ map numbered_variable (range_with_len 1 l.place)
