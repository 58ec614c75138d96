-- One number more stands in the line.
use Rattle.std.proofs.Common.{◌≤◌, ◌++◌, length, sym, ap, ◌∙◌, arith}
use Rattle.std.specs.Fmt.{decimal}
use Rattle.std.proofs.lemmas.List.{append-nil, take_all, take_more}
use Rattle.std.proofs.lemmas.Result.{on_ok_weaker}
use Rattle.pc_dump.proofs.WriteLemmas.{domains_more, domains_whole, spaced, spaced-none}
use Rattle.pc_dump.proofs.writing.push_domains.Goals as goal

pub loop-domain-init : goal.loop-domain-init
loop-domain-init c =
    let text = c.extend_from_slice.new.self in
    sym (ap (λ t. text ++ t) (spaced-none decimal) ∙ append-nil text)

pub loop-domain-preserved : goal.loop-domain-preserved
loop-domain-preserved c =
    let ds = c.args.domains.now in
    let i = c.loop-domain.domain-index in
    domains_more _ c.loop-domain.text c.push.new.self c.push_unsigned.new.self ds i _ c.loop-domain.invariant c.in_ok-push.ensures.ok
    (c.in_ok-push_unsigned.ensures.ok ∙ ap (λ n. c.push.new.self ++ decimal n) c.from.ensures) (take_more ds i 0 c.loop-domain-test.true)

pub returns-clause-ok : goal.returns-clause-ok
returns-clause-ok c =
    let ds = c.args.domains.now in
    let past : length ds ≤ c.loop-domain.domain-index = omega arith in
    on_ok_weaker c.push-2.result (λ e. domains_whole c.args.text.now c.extend_from_slice.new.self c.loop-domain.text c.push-2.new.self ds c.in_ok-extend_from_slice.ensures.ok
    (c.loop-domain.invariant ∙ ap (λ l. c.extend_from_slice.new.self ++ spaced decimal l) (take_all c.loop-domain.domain-index ds past)) e) c.push-2.ensures.ok
