use Rattle.std.proofs.Common.{◌≡◌, take, true}
use Rattle.std.specs.List.{list_all}
use Rattle.pc_text.specs.Orders.{is_cost_text}
use Rattle.pc_text.proofs.arguments.each_is_cost.Given as goal

abbrev pub invariant-loop-word : goal.invariant-loop-word
invariant-loop-word l = list_all (λ word. is_cost_text word.now) (take l.word-index l.words) ≡ true
