use Rattle.std.proofs.Common.{◌≡◌, ℕ, [], ◌∙◌, ◌&&◌, List, Some, get_or, nat_le, All, ap, sym, subst}
use Rattle.std.proofs.lemmas.Option.{get_or_from_slice_get}
use Rattle.pc_diagram.specs.Words.{is_word}
use Rattle.pc_store.specs.declared.id.Node.{Node}
use Rattle.pc_store.specs.Sets.{domains_of, IsNodeAt}
use Rattle.pc_apply.specs.declared.quota.Quota.{Quota}
use Rattle.pc_apply.specs.Counting.{count_at}
use Rattle.pc_apply.specs.Quotas.{quotas_at}
use Rattle.pc_apply.proofs.CountLemmas.{nodes_count, nodes_at}
use Rattle.pc_apply.proofs.ListLemmas.{with_lists_at}
use Rattle.pc_apply.proofs.ProductLemmas.{one_answer}
use Rattle.pc_apply.proofs.operations.at_most.Goals as goal

pub sets_of_quotas-requires-clause-lists : goal.sets_of_quotas-requires-clause-lists
sets_of_quotas-requires-clause-lists c =
    let store = c.args.store.now in
    let nodes : All (IsNodeAt store 0) c.as_slice.result.now = subst (All (IsNodeAt store 0)) (sym c.as_slice.ensures.value) (nodes_at store 0 c.args.members.now c.in_ok-nodes.nodes.items c.requires c.in_ok-nodes.ensures) in
    with_lists_at store 0 c.new-lists.result c.place.new.self c.as_slice.result.now c.in_ok-list.ensures.lists (subst (λ (lists : List (List Node)). (place : ℕ) (list : List Node) → Rattle.std.proofs.Common.slice_get lists place ≡ Some list → All (IsNodeAt store 0) list) (sym c.new-lists.ensures) (λ place list at. absurd cc)) nodes

pub returns-clause-is_id : goal.returns-clause-is_id
returns-clause-is_id c =
    let quota : Quota = record { most = c.args.most; list = c.in_ok-list.list } in
    (one_answer c.args.store.now c.sets_of_quotas.new.store (quotas_at c.args.store.now 0 c.place.new.self) (Some quota) c.in_ok-ids.ids.items c.index.result.now c.in_ok-ids.ensures.ids c.index.ensures).is_id

pub returns-clause-set : goal.returns-clause-set
returns-clause-set c =
    let store = c.args.store.now in
    let quota : Quota = record { most = c.args.most; list = c.in_ok-list.list } in
    let nodes = c.in_ok-nodes.nodes.items in
    let there : get_or c.place.new.self c.in_ok-list.list [] ≡ nodes = get_or_from_slice_get c.place.new.self c.in_ok-list.list c.as_slice.result.now [] c.in_ok-list.ensures.stands ∙ c.as_slice.ensures.value in
    λ word.
    (one_answer store c.sets_of_quotas.new.store (quotas_at store 0 c.place.new.self) (Some quota) c.in_ok-ids.ids.items c.index.result.now c.in_ok-ids.ensures.ids c.index.ensures).words word
    ∙ ap (λ (list : List Node). is_word (domains_of store) word && nat_le (count_at store 0 list word) c.args.most) there
    ∙ ap (λ (count : ℕ). is_word (domains_of store) word && nat_le count c.args.most) (nodes_count store 0 c.args.members.now nodes word c.requires c.in_ok-nodes.ensures)
