use Rattle.pc_labels.proofs.labels.+push_head.Given as goal

abbrev pub decreases-push_head : goal.decreases-push_head
decreases-push_head l = l.layer
