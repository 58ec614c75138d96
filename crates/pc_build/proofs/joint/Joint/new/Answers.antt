use Rattle.std.proofs.Common.{◌∙◌}
use Rattle.pc_store.specs.Sets.{domains_of}
use Rattle.pc_build.proofs.JoinedLemmas.{holds_everywhere}
use Rattle.pc_build.proofs.joint.Joint.new.Goals as goal

pub returns : goal.returns
returns c = holds_everywhere (domains_of c.args.store.now) c.in_ok-all.all c.in_ok-all.ensures.domains (λ word. c.in_ok-all.ensures.words word ∙ c.full.ensures.set word)
