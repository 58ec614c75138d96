use Rattle.std.proofs.Common.{◌≡◌, ◌++◌, take}
use Rattle.std.specs.List.{flat_map}
use Rattle.pc_calls.specs.ReplyText.{dropped_line}
use Rattle.pc_calls.proofs.head_text.push_dropped.Given as goal

abbrev pub invariant-loop-item : goal.invariant-loop-item
invariant-loop-item l = l.text ≡ l.initial.text ++ flat_map dropped_line (take l.item-index l.dropped)
