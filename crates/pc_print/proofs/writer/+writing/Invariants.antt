use Rattle.std.proofs.Common.{◌≡◌, ◌++◌, take}
use Rattle.std.specs.List.{flat_map}
use Rattle.pc_file.specs.PrintedRule.{printed_in_place}
use Rattle.pc_print.proofs.writer.+writing.Given as goal

abbrev pub invariant-push_members-loop-member : goal.invariant-push_members-loop-member
invariant-push_members-loop-member l = l.text ≡ l.initial.text ++ flat_map (λ member. l.between ++ printed_in_place l.asked l.variables member) (take l.member-index l.others)
