-- The bound is kept from a place on, and broken before it.
use Rattle.pc_pareto.specs.Fronts.{no_item}
use Rattle.std.proofs.Common.{rules, ◌≡◌, ◌<◌, ◌-◌, length, true, slice_index_or, ◌+ℤ◌, to_z, of_z, w64, ap, sym, ◌∙◌, arith}
use Rattle.std.proofs.lemmas.Int.{ints}
use Rattle.pc_diagram.specs.Bounds.{allows}
use Rattle.pc_domains.proofs.JoinLemmas.{at_or_after, excludes_greater, second_before}
use Rattle.pc_domains.proofs.join.first_within.Goals as goal

pub loop-place-preserved : goal.loop-place-preserved
loop-place-preserved c = (
  omega (arith, c.loop-place.invariant.0),
  λ k from lt.
      let head = to_z w64 (of_z w64 c.args.head) in
      let price = to_z w64 (of_z w64 c.args.price) in
      let last = (slice_index_or c.args.tails.now (c.loop-place.place - 1) no_item).second in
      let is : to_z w64 (of_z w64 c.sum.result) ≡ head +ℤ (price +ℤ last) = search rules in
      at_or_after (λ n. n < length c.args.tails.now → allows c.args.most (head +ℤ (price +ℤ (slice_index_or c.args.tails.now n no_item).second)) ≡ true) c.loop-place.place k (omega arith) from
      (λ inside. ap (allows c.args.most) (sym is) ∙ sym c.allows.ensures ∙ c.if-allows.true)
      (λ le inside. c.loop-place.invariant.1 k le inside) lt,
)

pub returns-else-allows-clause-within : goal.returns-else-allows-clause-within
returns-else-allows-clause-within c k from lt =
    let head : to_z w64 (of_z w64 c.args.head) ≡ c.args.head = search rules in
    let price : to_z w64 (of_z w64 c.args.price) ≡ c.args.price = search rules in
    let second = (slice_index_or c.args.tails.now k no_item).second in
    ap (λ h. allows c.args.most (h +ℤ (c.args.price +ℤ second))) (sym head)
    ∙ ap (λ p. allows c.args.most (to_z w64 (of_z w64 c.args.head) +ℤ (p +ℤ second))) (sym price)
    ∙ c.loop-place.invariant.1 k from lt

pub returns-else-allows-clause-before : goal.returns-else-allows-clause-before
returns-else-allows-clause-before c k before =
    let tails = c.args.tails.now in
    let last = c.loop-place.place - 1 in
    let inside : last < length tails = omega (arith, c.requires.inside, c.loop-place.invariant.0) in
    let lesser = second_before tails k last c.requires.falls (omega arith) inside in
    let is : to_z w64 (of_z w64 c.sum.result) ≡ c.args.head +ℤ (c.args.price +ℤ (slice_index_or tails last no_item).second) = search rules in
    excludes_greater c.args.most (c.args.head +ℤ (c.args.price +ℤ (slice_index_or tails last no_item).second)) (c.args.head +ℤ (c.args.price +ℤ (slice_index_or tails k no_item).second)) (omega (arith, ints, lesser))
    (ap (allows c.args.most) (sym is) ∙ sym c.allows.ensures ∙ c.if-allows.false)
