-- One head more: its least join is that with the first tail within the bound on the second cost.
use Rattle.std.proofs.Common.{rules, ◌≡◌, ℕ, ◌+◌, ◌<◌, ◌≤◌, length, Bool, true, false, ◌&&◌, slice_index_or, ◌+ℤ◌, to_z, of_z, w64, refl, ap, sym, subst, ◌∙◌, arith}
use Rattle.std.proofs.lemmas.Int.{ints}
use Rattle.pc_diagram.specs.Bounds.{allows}
use Rattle.pc_pareto.specs.Fronts.{no_item}
use Rattle.pc_domains.specs.Joins.{IsLeastJoin, joined_at, lesser}
use Rattle.pc_domains.proofs.JoinLemmas.{allows_lesser, falls_at, no_join, one_join}
use Rattle.pc_domains.proofs.join.least_join.Goals as goal
use Rattle.pc_domains.proofs.join.least_join.Goals.{then-place-tails, else-place-tails}

and_false : (b : Bool) → (b && false) ≡ false
and_false true = refl
and_false false = refl

pub loop-number-preserved : goal.loop-number-preserved
loop-number-preserved c =
    let heads = c.args.heads.now in
    let tails = c.args.tails.now in
    let price = c.args.price in
    let bounds = c.args.bounds.now in
    let number = c.loop-number.number in
    let so_far = c.loop-number.invariant in
    let place = c.first_within-place.result in
    let its = c.first_within-place.ensures in
    let second = (slice_index_or heads number no_item).second in
    let head_is : to_z w64 (of_z w64 second) ≡ second = search rules in
    let price_is : to_z w64 (of_z w64 price.second) ≡ price.second = search rules in
    let plain : (k : ℕ) → second +ℤ (price.second +ℤ (slice_index_or tails k no_item).second) ≡ to_z w64 (of_z w64 second) +ℤ (to_z w64 (of_z w64 price.second) +ℤ (slice_index_or tails k no_item).second) = λ k.
    ap (λ h. h +ℤ (price.second +ℤ (slice_index_or tails k no_item).second)) (sym head_is)
    ∙ ap (λ p. to_z w64 (of_z w64 second) +ℤ (p +ℤ (slice_index_or tails k no_item).second)) (sym price_is) in
    let within_from : (k : ℕ) → place ≤ k → k < length tails → allows bounds.second (second +ℤ (price.second +ℤ (slice_index_or tails k no_item).second)) ≡ true = λ k from lt.
    ap (allows bounds.second) (plain k) ∙ its.within k from lt in
    let broken_before : (k : ℕ) → k < place → allows bounds.second (second +ℤ (price.second +ℤ (slice_index_or tails k no_item).second)) ≡ false = λ k before.
    ap (allows bounds.second) (plain k) ∙ its.before k before in (
      omega (arith, its.inside, so_far.0),
      λ head k from lt within inside.
          let later = falls_at heads number head c.requires.heads (omega arith) lt in
          allows_lesser bounds.second ((slice_index_or heads number no_item).second +ℤ (price.second +ℤ (slice_index_or tails k no_item).second)) ((slice_index_or heads head no_item).second +ℤ (price.second +ℤ (slice_index_or tails k no_item).second))
          (omega (arith, ints, later.second)) (within_from k within inside),
      elim c.if-place-tails.branch [
        | then-place-tails w ↦
            subst (IsLeastJoin heads tails price bounds (number + 1)) (sym (w.least-is ∙ w.lesser-least.ensures ∙ ap (λ j. lesser c.loop-number.least j bounds.first) w.join_of.ensures))
            (one_join heads tails price bounds c.requires.tails number place (omega arith) broken_before (within_from place (omega arith) (omega arith)) c.loop-number.least so_far.2)
        | else-place-tails w ↦
            subst (IsLeastJoin heads tails price bounds (number + 1)) (sym w.least-is)
            (no_join heads tails price bounds c.requires.tails number c.loop-number.least so_far.2 (λ tail lt. ap (λ b. allows bounds.first (joined_at price heads tails number tail).pair.first && b) (broken_before tail (omega arith)) ∙ and_false (allows bounds.first (joined_at price heads tails number tail).pair.first)))
      ],
    )
