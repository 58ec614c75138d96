use Rattle.std.proofs.Common.{◌≡◌, ◌≤◌, List, Option, None, length, get_or, sym, subst, take, ◌+◌, arith}
use Rattle.std.proofs.lemmas.List.{take_all, get_or_default}
use Rattle.pc_store.specs.declared.id.Id.{Id}
use Rattle.pc_store.specs.Sets.{domains_of}
use Rattle.pc_apply.specs.declared.quota.Quota.{Quota}
use Rattle.pc_apply.specs.Levels.{EachAnswers}
use Rattle.pc_apply.specs.Quotas.{quotas_at}
use Rattle.pc_apply.proofs.ProductLemmas.{answers_more}
use Rattle.pc_apply.proofs.quota_product.ends_of_quotas.Goals as goal

pub loop-quota-preserved : goal.loop-quota-preserved
loop-quota-preserved c =
    let store = c.args.store.now in
    let end = length (domains_of store) in
    let question = quotas_at store (length (domains_of store)) c.args.lists.now in
    let quotas = c.args.quotas.now in
    let i = c.loop-quota.quota-index in
    let quota : Option Quota = get_or quotas i None in
    let read : quota ≡ get_or quotas i quota = get_or_default quotas i None quota c.loop-quota-test.true in
    subst (EachAnswers store store end question (take (i + 1) quotas)) (sym {A = List Id} c.in_ok-push.ensures.items)
    (answers_more store store end question quotas i quota c.loop-quota.ids.items c.quota_at_end.result c.loop-quota-test.true read c.loop-quota.invariant c.quota_at_end.ensures)

pub returns : goal.returns
returns c =
    let store = c.args.store.now in
    let quotas = c.args.quotas.now in
    let i = c.loop-quota.quota-index in
    let past = c.loop-quota-test.false in
    let all : length quotas ≤ i = omega arith in
    subst (λ (qs : List (Option Quota)). EachAnswers store store (length (domains_of store)) (quotas_at store (length (domains_of store)) c.args.lists.now) qs c.loop-quota.ids.items) (take_all i quotas all) c.loop-quota.invariant
