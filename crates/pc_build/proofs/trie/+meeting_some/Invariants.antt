use Rattle.std.proofs.Common.{length, ◌-◌}
use Rattle.pc_store.specs.Sets.{domains_of}
use Rattle.pc_build.proofs.TrieLemmas.{RestBranches}
use Rattle.pc_build.proofs.trie.+meeting_some.Given as goal

abbrev pub invariant-loop-value : goal.invariant-loop-value
invariant-loop-value l = RestBranches l.fn.store l.store l.layer l.rows l.value l.children.items

abbrev pub decreases-meeting_some : goal.decreases-meeting_some
decreases-meeting_some l = length (domains_of l.store.now) - l.layer
