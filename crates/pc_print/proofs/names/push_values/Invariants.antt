use Rattle.std.proofs.Common.{◌≡◌, ◌++◌, codes, take}
use Rattle.std.specs.List.{flat_map}
use Rattle.pc_file.specs.PrintedRule.{printed_value}
use Rattle.pc_print.proofs.names.push_values.Given as goal

abbrev pub invariant-loop-value : goal.invariant-loop-value
invariant-loop-value l = l.text ≡ l.initial.text ++ flat_map (λ value. codes ", " ++ printed_value l.variables l.variable value) (take l.value-index l.others)
