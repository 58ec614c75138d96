use Rattle.std.proofs.Common.{◌≡◌, ◌<◌, ◌∙◌, [], List, Some, ap, sym, length, arith}
use Rattle.std.proofs.lemmas.Grind.{common_steps}
use Rattle.std.proofs.lemmas.Option.{slice_get-get_or}
use Rattle.pc_store.specs.declared.id.Node.{Node}
use Rattle.pc_apply.proofs.ListLemmas.{lists_equal}
use Rattle.pc_apply.proofs.lists.Lists.place_if_last.Goals as goal

pub returns-then-eq : goal.returns-then-eq
returns-then-eq c =
    let place = c.in_ok-place.place in
    let before = c.in_ok-place.ensures in
    let count = c.len.ensures in
    let inside : place < length c.args.self.now = grind (arith, common_steps) in
    let same : c.list.result.now ≡ c.args.list.now = lists_equal c.list.result.now c.args.list.now c.eq.result c.eq.ensures c.if-eq.true in
    slice_get-get_or c.args.self.now place [] inside ∙ ap Some (sym {A = List Node} c.list.ensures ∙ same)
