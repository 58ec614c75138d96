use Rattle.std.proofs.Common.{◌≡◌, ◌∙◌, Some, slice_get, map, sym, ap, subst}
use Rattle.pc_apply.proofs.ListLemmas.{list_stands}
use Rattle.pc_apply.proofs.ProductLemmas.{ok_then}
use Rattle.pc_apply.proofs.lists.Lists.place.Goals as goal

pub returns-clause-stands : goal.returns-clause-stands
returns-clause-stands c =
    let stored = c.in_ok-place.ensures.stored in
    let copy = c.in_ok-from_slice.field-0.items in
    let lists = map (λ list. list.items) c.insert_full.new.self.keys in
    let stands = list_stands (λ list. list.items) c.insert_full.new.self.keys c.in_ok-place.place stored.0 copy stored.1 stored.2 ∙ ap Some c.in_ok-from_slice.ensures.items in
    ok_then c.number-2.result (λ n. n ≡ c.in_ok-place.place) (λ n. slice_get lists n ≡ Some c.args.list.now) (λ n is. subst (λ p. slice_get lists p ≡ Some c.args.list.now) (sym is) stands) c.number-2.ensures
