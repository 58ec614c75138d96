use Rattle.std.proofs.Common.{◌≡◌, nat_le, take, true}
use Rattle.std.specs.List.{list_all}
use Rattle.pc_file.specs.Nesting.{nesting, open_in_place}
use Rattle.pc_file.proofs.nesting.+nesting.Given as goal

abbrev pub invariant-open_in_places-loop-rule : goal.invariant-open_in_places-loop-rule
invariant-open_in_places-loop-rule l = list_all (λ rule. nat_le (open_in_place l.asked (nesting rule)) l.limit) (take l.rule-index l.rules) ≡ true
