use Rattle.std.proofs.Common.{◌≡◌, ◌++◌, take}
use Rattle.std.specs.List.{flat_map}
use Rattle.pc_calls.specs.ReplyText.{live_line}
use Rattle.pc_calls.proofs.head_text.push_live.Given as goal

abbrev pub invariant-loop-version : goal.invariant-loop-version
invariant-loop-version l = l.text ≡ l.initial.text ++ flat_map live_line (take l.version-index l.live)
