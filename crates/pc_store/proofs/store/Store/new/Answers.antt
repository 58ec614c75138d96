use Rattle.std.proofs.Common.{◌∙◌, sym, ap, subst}
use Rattle.pc_store.specs.Layered.{IsStore}
use Rattle.pc_store.specs.Sets.{domains_of}
use Rattle.pc_store.proofs.NewLemmas.{new_store, domains_of-new}
use Rattle.pc_store.proofs.store.Store.new.Goals as goal

pub invariant_of-result : goal.invariant_of-result
invariant_of-result c = let e = c.in_ok-new_layers.ensures in subst IsStore (sym e) (new_store c.args.domains.now c.requires.some c.requires.few c.requires.sizes)

pub returns : goal.returns
returns c = ap domains_of c.in_ok-new_layers.ensures ∙ domains_of-new c.args.domains.now
