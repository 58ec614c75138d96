use Rattle.std.proofs.Common.{◌≡◌, ◌++◌, length, take}
use Rattle.std.specs.List.{flat_map, zip}
use Rattle.pc_file.specs.ListingText.{variable_text}
use Rattle.pc_file.proofs.listing_text.push_variables.Given as goal

abbrev pub invariant-loop-variable : goal.invariant-loop-variable
invariant-loop-variable l = l.text ≡ l.initial.text ++ flat_map (λ p. variable_text l.variables p.0 p.1) (take (length l.yielded) (zip l.variables l.listing))
