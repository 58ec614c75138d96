use Rattle.std.proofs.Common.{◌≡◌, ◌∙◌, [], length, slice_index_or, All, sym, ap, subst}
use Rattle.std.proofs.lemmas.Option.{slice_get-get_or}
use Rattle.pc_store.specs.declared.id.Node.{Node}
use Rattle.pc_store.specs.Sets.{domains_of, id_at, IsIdAt, IsNodeAt}
use Rattle.pc_apply.proofs.quota.count_at_end.Goals as goal

pub has_empty_word-requires : goal.has_empty_word-requires
has_empty_word-requires c =
    let store = c.args.store.now in
    let last = length (domains_of store) in
    let lists = c.args.lists.now in
    let all = subst (All (IsNodeAt store last)) (sym c.list-set-items.ensures) (c.requires.lists c.args.place (slice_index_or lists c.args.place []) (slice_get-get_or lists c.args.place [] c.requires.place)) in
    let none : Node = record { number = 0 } in
    let node = slice_index_or c.list-set-items.result.now c.loop-set.set-index none in
    let here : IsNodeAt store last node = all c.loop-set.set-index none c.loop-set-test.true in
    let same : c.at.result ≡ id_at last node = c.at.ensures.id ∙ ap (λ l. id_at l node) c.variables-end.ensures.count in
    subst (IsIdAt store last) (sym same) here
