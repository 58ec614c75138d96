use Rattle.std.proofs.Common.{◌≡◌, ◌∙◌, ◌&&◌, ◌-◌, ℕ, List, drop, ap, arith}
use Rattle.std.specs.List.{list_any}
use Rattle.pc_diagram.specs.Words.{is_word}
use Rattle.pc_store.specs.Sets.{domains_of, has}
use Rattle.pc_file.specs.Rule.{row_fits}
use Rattle.pc_apply.proofs.ProductLemmas.{ok_then}
use Rattle.pc_build.specs.declared.demand.Demand.{Demand}
use Rattle.pc_build.specs.Demands.{some_meets}
use Rattle.pc_build.proofs.SpanLemmas.{among_rests}
use Rattle.pc_build.proofs.table.rows_of_table.Goals as goal

pub returns-clause-set : goal.returns-clause-set
returns-clause-set c =
    let old = c.args.store.now in
    let mid = c.meeting_some.new.store in
    let now = c.widen.new.store in
    let domains = domains_of old in
    let rows = c.args.rows.now in
    let variables = c.args.variables.now in
    let first = c.span_of-span.result.first in
    let demands : List (List Demand) = c.in_ok-demands.demands in
    let set = c.in_ok-set.set in
    let inside = c.span_of-span.ensures.inside in
    let count = c.variables.ensures.count in
    let from : first - 0 ≡ first = omega arith in
    ok_then c.widen.result (λ id. (word : List ℕ) → has now id word ≡ (is_word (drop 0 (domains_of mid)) word && has mid set (drop (first - 0) word))) (λ id. (word : List ℕ) → has now id word ≡ (is_word domains word && list_any (row_fits word variables) rows))
    (λ id h word.
    h word
    ∙ ap (λ d. is_word d word && has mid set (drop (first - 0) word)) c.in_ok-set.ensures.keeps.domains
    ∙ ap (λ n. is_word domains word && has mid set (drop n word)) from
    ∙ ap (λ b. is_word domains word && b) (c.in_ok-set.ensures.set (drop first word) ∙ ap (λ (rs : List (List Demand)). is_word (drop first domains) (drop first word) && some_meets rs (drop first word)) c.as_slice.ensures)
    ∙ among_rests domains word first (some_meets demands (drop first word)) (list_any (row_fits word variables) rows) (λ long. c.in_ok-demands.ensures word (omega (arith, inside, count, long))))
    c.widen.ensures.set
