-- The least cost of the items so far that the bounds allow.
use Rattle.pc_domains.specs.Least.{IsLeastItem}
use Rattle.pc_domains.proofs.least_cost.least_item.Given as goal

abbrev pub invariant-loop-item : goal.invariant-loop-item
invariant-loop-item l = IsLeastItem l.bounds l.which l.items l.item-index l.least
