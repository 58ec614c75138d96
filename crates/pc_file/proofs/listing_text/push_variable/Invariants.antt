use Rattle.std.proofs.Common.{◌≡◌, ◌++◌, take}
use Rattle.std.specs.List.{flat_map}
use Rattle.pc_file.specs.ListingText.{item_text}
use Rattle.pc_file.proofs.listing_text.push_variable.Given as goal

abbrev pub invariant-loop-item : goal.invariant-loop-item
invariant-loop-item l = l.text ≡ l.initial.text ++ flat_map (item_text l.variables l.variable) (take l.item-index l.items)
