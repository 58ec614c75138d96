use Rattle.pc_build.specs.Chains.{Children}
use Rattle.pc_build.proofs.ChainLemmas.{among_first}
use Rattle.pc_build.proofs.chain.children_of.Given as goal

abbrev pub invariant-loop-value : goal.invariant-loop-value
invariant-loop-value l = Children (among_first l.chosen l.value-index) l.below l.fn.other 64 l.children
