use Rattle.std.proofs.Common.{◌≡◌, ◌∙◌, ◌+◌, ◌-◌, ◌++◌, ◌∷◌, [], sym, ap, arith}
use Rattle.pc_pareto.specs.Fronts.{extended}
use Rattle.pc_pareto.specs.Joined.{joined}
use Rattle.pc_pareto.proofs.PathSteps.{word_back, word_step, joined_more}
use Rattle.pc_pareto.proofs.path.path_of.Goals as goal

pub loop-left-preserved : goal.loop-left-preserved
loop-left-preserved c =
    let side = c.args.side in
    let stages = c.args.stages.now in
    let values = c.loop-left.values.items in
    let back = c.loop-left.back in
    let left = c.loop-left.left - 1 in
    let e : left + 1 ≡ c.loop-left.left = omega arith in
    let pushed : c.push.new.self.items ≡ values ++ back.value ∷ [] = c.in_ok-push.ensures.items in
    ap (λ vs. joined side vs (word_back side stages left c.back_at-back.result)) pushed ∙ joined_more side values (word_back side stages left c.back_at-back.result) back.value
    ∙ ap (joined side values) (ap (λ b. extended side back.value (word_back side stages left b)) c.back_at-back.ensures ∙ sym (word_step side stages left back) ∙ ap (λ k. word_back side stages k back) e)
    ∙ c.loop-left.invariant
