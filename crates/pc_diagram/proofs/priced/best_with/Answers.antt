-- The next of the priced words counts where its word takes the value.
use Rattle.std.proofs.Common.{◌≡◌, ◌<◌, length, get_or, true, Some, IfSome, arith, sym, ap, ◌∙◌, subst}
use Rattle.pc_diagram.specs.declared.priced.Priced.{Priced}
use Rattle.pc_diagram.specs.Best.{earlier_unless}
use Rattle.pc_diagram.specs.Costs.{no_cost}
use Rattle.pc_diagram.specs.Priced.{takes_at, is_cheaper_priced}
use Rattle.pc_diagram.proofs.PricedLemmas.{cheapest-more_taking, cheapest-more_other, earlier_unless_either}
use Rattle.pc_diagram.proofs.priced.best_with.Goals as goal
use Rattle.pc_diagram.proofs.priced.best_with.Goals.{then-takes_at, else-takes_at}

pub loop-next-preserved : goal.loop-next-preserved
loop-next-preserved c =
    let words = c.args.words.now in
    let priced = c.args.priced.now in
    let variable = c.args.variable in
    let value = c.args.value in
    let i = c.loop-next.next-index in
    let so_far = c.loop-next.invariant in
    let inside : i < length priced = omega arith in
    let none : Priced = record { pair = no_cost; place = 0 } in
    let next = get_or priced i none in
    elim c.if-takes_at.branch [
      | then-takes_at w ↦ let takes = sym c.takes_at.ensures ∙ w.if-takes_at.true in
          let chosen = w.best-is ∙ w.cheaper.ensures in
          record {
            so_far = chosen ∙ ap (λ b. earlier_unless is_cheaper_priced b (Some next)) so_far.so_far ∙ sym (cheapest-more_taking words priced variable value i none inside takes);
            taken = subst (λ b. IfSome b (λ p. takes_at words variable value p ≡ true)) (sym chosen) (earlier_unless_either (λ p. takes_at words variable value p ≡ true) c.loop-next.best next so_far.taken takes);
          }
      | else-takes_at w ↦ let other = sym c.takes_at.ensures ∙ w.if-takes_at.false in
          record {
            so_far = w.best-is ∙ so_far.so_far ∙ sym (cheapest-more_other words priced variable value i none inside other);
            taken = subst (λ b. IfSome b (λ p. takes_at words variable value p ≡ true)) (sym w.best-is) so_far.taken;
          }
    ]
