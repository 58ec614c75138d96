use Rattle.std.proofs.Common.{◌≡◌, ◌∙◌, sym, length, arith}
use Rattle.std.proofs.lemmas.Grind.{common_steps}
use Rattle.pc_store.specs.Sets.{domains_of}
use Rattle.pc_store.proofs.SetLemmas.{length-domains}
use Rattle.pc_store.proofs.store.Store.variables.Goals as goal

pub returns-clause-count : goal.returns-clause-count
returns-clause-count c =
    rw (← c.self.view_is) (let same : length c.self.inside.layers.items ≡ length (domains_of c.self.inside.layers.items) = sym (length-domains c.self.inside.layers.items) in
    let h : c.len.result ≡ length c.self.inside.layers.items = grind (arith, common_steps) in h ∙ same)
