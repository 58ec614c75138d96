use Rattle.std.proofs.Common.{◌≤◌, length}
use Rattle.pc_store.specs.Sets.{domains_of}
use Rattle.pc_store.proofs.SetLemmas.{full_is_id, full_has, words_are_over}
use Rattle.pc_store.proofs.store.Store.full.Goals as goal

pub returns-clause-is_id : goal.returns-clause-is_id
returns-clause-is_id c =
    rw (← c.self.view_is) (
    let inside : c.args.layer ≤ length (domains_of c.self.inside.layers.items) = rw c.self.view_is c.requires in
    full_is_id c.self.inside.layers.items c.args.layer c.self.invariant.layered inside
    )

pub returns-clause-set : goal.returns-clause-set
returns-clause-set c = rw (← c.self.view_is) (full_has c.self.inside.layers.items c.args.layer c.self.invariant.layered)

pub returns-clause-most : goal.returns-clause-most
returns-clause-most c = rw (← c.self.view_is) (words_are_over c.self.inside.layers.items c.args.layer)
