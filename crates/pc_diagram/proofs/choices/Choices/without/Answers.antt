-- What is kept is a filter of the choices, which stay distinct.
use Rattle.std.proofs.Common.{not, ◌==◌, ◌∙◌, rules, tests}
use Rattle.std.proofs.lemmas.Fn.{filter_same}
use Rattle.pc_diagram.proofs.ChoiceLemmas.{are_distinct-filter}
use Rattle.pc_diagram.proofs.choices.Choices.without.Goals as goal

pub invariant_of-result : goal.invariant_of-result
invariant_of-result c =
    let kept = filter_same _ (λ d. not (d.variable == c.args.variable)) _ (λ x b q k. search (rules, tests)) _ _ c.retain.ensures.filtered in
    let same = c.in_ok-items.ensures.items ∙ c.as_slice.ensures.value in
    rw (kept, same) (are_distinct-filter (λ d. not (d.variable == c.args.variable)) c.self.inside.items.items c.self.invariant)

pub returns : goal.returns
returns c =
    let kept = filter_same _ (λ d. not (d.variable == c.args.variable)) _ (λ x b q k. search (rules, tests)) _ _ c.retain.ensures.filtered in
    let same = c.in_ok-items.ensures.items ∙ c.as_slice.ensures.value in
    rw (kept, same, c.self.view_is)
