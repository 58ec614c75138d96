-- What slots make of paths, in range and by their definition.
use Rattle.std.proofs.Common.{◌≡◌, ℕ, suc, zero, ◌+◌, ◌*◌, ◌<◌, ◌≤◌, List, [], ◌∷◌, All, Option, Some, None, IfSome, option_map, unwrap_or, is_some, find, Bool, true, false, cond, if◌then◌else◌, ◌==◌, refl, sym, ap, ◌∙◌, subst, inl, arith}
use Rattle.std.specs.Prelude.{slice_index, slice_index_or}
use Rattle.std.proofs.Math.Nat.{mul-le-mul_right}
use Rattle.std.proofs.lemmas.Bool.Decides.{nat_tests}
use Rattle.std.proofs.lemmas.List.Elements.{All-head, All-tail}
use Rattle.pc_diagram.specs.declared.costs.CostPair.{CostPair}
use Rattle.pc_diagram.specs.declared.weight.Ranked.{Ranked}
use Rattle.pc_diagram.specs.declared.choice.Choice.{Choice}
use Rattle.pc_diagram.specs.Choices.{value_of, is_chosen}
use Rattle.pc_diagram.specs.NodePaths.{IsChoiceOf}
use Rattle.pc_diagram.specs.Costs.{pair_at}
use Rattle.pc_diagram.specs.Levels.{Level}
use Rattle.pc_diagram.specs.Weight.{plus, plus_pair, plus_ranked, with_rank, rank_count, IsRanked}
use Rattle.pc_labels.specs.declared.slots.Slots.{Slots}
use Rattle.pc_labels.specs.declared.step.Step.{Step}
use Rattle.pc_labels.specs.AllowedSlots.{AreSlots}
use Rattle.pc_labels.specs.Marks.{Marks, weight_at, IsBelow}
use Rattle.pc_labels.specs.Slots.{LeadsTo, LeadsFrom, AreNextHeads, AreNextTails, HasRoom, onward, backward}
use Rattle.pc_labels.specs.SoFar.{step_at, slot_weight, widened, onward_by, backward_by, HaveWeights, MayGoOn, MayComeFrom, HasLed, HasLedOn, AreHeadsSoFar, AreTailsSoFar}
use Rattle.pc_diagram.proofs.ChoiceLemmas.{is_some-value_of}
use Rattle.pc_labels.proofs.LeastOf.{least-same}

-- a rank that is kept is below the limit
pub below-at : (limit : ℕ) (weights : List (Option Ranked)) (node : ℕ) (r : Ranked) → All (IsBelow limit) weights → slice_index_or weights node None ≡ Some r → r.rank < limit
below-at limit [] node r h e = absurd cc
below-at limit (w ∷ ws) zero r h e = subst (IsBelow limit) e (All-head (IsBelow limit) w ws h)
below-at limit (w ∷ ws) (suc node) r h e = below-at limit ws node r (All-tail (IsBelow limit) w ws h) e

pub times_more : (r limit d v : ℕ) → r < limit → v < d → (r * d + v) < limit * d
times_more r limit d v h k =
    let less : suc r ≤ limit = omega (arith, h) in
    let step : suc r * d ≤ limit * d = mul-le-mul_right d less in
    let next : suc r * d ≡ r * d + d = omega arith in
    omega (arith, step, next, k)

-- the weight of the slot of a value
pub slot_is : (domain scale : ℕ) (chosen : Option ℕ) (row : List CostPair) (slots : Slots) (step : Step) → AreSlots domain chosen row scale slots → step.value < domain →
    slot_weight slots step ≡ Some (record { pair = pair_at row step.value; rank = step.value * scale })
slot_is domain scale chosen row slots step h lt = h.weights.each step.value (omega (arith, lt, h.width))

-- each slot adds something
pub have_weights : (domain scale : ℕ) (chosen : Option ℕ) (row : List CostPair) (slots : Slots) → AreSlots domain chosen row scale slots → HaveWeights slots
have_weights domain scale chosen row slots h step of e =
    let is = slot_is domain scale chosen row slots step h (omega (arith, of.1, h.values.within)) in absurd cc

same_some : {X : Type 0} (x y : X) → Some x ≡ Some y → x ≡ y
same_some x y e = ap (λ o. unwrap_or o x) e

-- each path has room to go on
pub may_go_on : (domain : ℕ) (chosen : Option ℕ) (prices : List CostPair) (slots : Slots) (before : Marks) → HasRoom before.weights prices → All (IsBelow before.limit) before.weights → before.limit * domain ≤ rank_count → AreSlots domain chosen prices 1 slots →
    MayGoOn domain slots before
may_go_on domain chosen prices slots before room below few h step of x y e f = by (weight_at before step.node) refl e
  where
    by : (w : Option Ranked) → weight_at before step.node ≡ w → option_map (λ r. with_rank (r.rank * domain) r) w ≡ Some x → IsRanked (plus_ranked x y) × ((x.rank + y.rank) < before.limit * domain)
    by None d g = absurd cc
    by (Some r) d g =
        let inside : step.value < domain = omega (arith, of.1, h.values.within) in
        let x_is : with_rank (r.rank * domain) r ≡ x = same_some (with_rank (r.rank * domain) r) x g in
        let own : Ranked = record { pair = pair_at prices step.value; rank = step.value * 1 } in
        let y_is : own ≡ y = same_some own y (sym (slot_is domain 1 chosen prices slots step h inside) ∙ f) in
        let sums = room step.node step.value r d in
        let less : (r.rank * domain + step.value * 1) < before.limit * domain = let one : step.value * 1 ≡ step.value = omega arith in let t = times_more r.rank before.limit domain step.value (below-at before.limit before.weights step.node r below d) inside in omega (arith, t, one) in
        subst (λ v. IsRanked (plus_ranked v y) × ((v.rank + y.rank) < before.limit * domain)) x_is
        (subst (λ v. IsRanked (plus_ranked (with_rank (r.rank * domain) r) v) × (((r.rank * domain) + v.rank) < before.limit * domain)) y_is
        (record { first = sums.0; second = sums.1; rank = omega (arith, less, few) }, less))

-- what was looked at slot by slot is the least of what leads to each node
pub heads-made : (l : Level) (chosen : Option ℕ) (prices : List CostPair) (slots : Slots) (before marks : Marks) (node : ℕ) → l.size ≤ node → All (IsBelow before.limit) before.weights → AreSlots l.domain chosen prices 1 slots → AreHeadsSoFar l slots before node 0 marks → AreNextHeads l chosen prices before marks
heads-made l chosen prices slots before marks node all ranks are h = record {
  nodes = h.nodes;
  ranks = ranks;
  least = λ target lt. least-same (HasLed l slots node 0 target) (LeadsTo l chosen target) (onward_by l.domain slots before) (onward l.domain prices before) (weight_at marks target) (step_at marks target)
      (up target) (down target) (λ o k. same o (omega (arith, k.of_slots.1, are.values.within))) (h.least target lt);
}
  where
    up : (target : ℕ) (o : Step) → HasLed l slots node 0 target o → LeadsTo l chosen target o
    up target o k =
        let inside : o.value < l.domain = omega (arith, k.of_slots.1, are.values.within) in
        record { before = k.before; value = inside; allowed = (are.values.allowed o.value inside).0 k.of_slots; leads = k.leads }

    down : (target : ℕ) (o : Step) → LeadsTo l chosen target o → HasLed l slots node 0 target o
    down target o k = record { before = k.before; of_slots = (are.values.allowed o.value k.value).1 k.allowed; leads = k.leads; past = inl (omega (arith, k.before, all)) }

    same : (o : Step) → o.value < l.domain → onward_by l.domain slots before o ≡ onward l.domain prices before o
    same o inside = ap (plus (widened l.domain before o.node)) (slot_is l.domain 1 chosen prices slots o are inside) ∙ by (weight_at before o.node)
      where
        by : (w : Option Ranked) → plus (option_map (λ r. with_rank (r.rank * l.domain) r) w) (Some (record { pair = pair_at prices o.value; rank = o.value * 1 })) ≡ option_map (λ r. record { pair = plus_pair r.pair (pair_at prices o.value); rank = r.rank * l.domain + o.value }) w
        by None = refl
        by (Some r) = let one : r.rank * l.domain + o.value * 1 ≡ r.rank * l.domain + o.value = omega arith in ap (λ n. Some (record { pair = plus_pair r.pair (pair_at prices o.value); rank = n })) one

-- a value that is chosen is one of the variable's
pub chosen_inside : (domains : List ℕ) (choices : List Choice) (variable : ℕ) → All (IsChoiceOf domains) choices → IfSome (value_of choices variable) (λ value. value < slice_index domains variable)
chosen_inside domains [] variable h = tt
chosen_inside domains (c ∷ choices) variable h = by (c.variable == variable) refl (All-head (IsChoiceOf domains) c choices h) (chosen_inside domains choices variable (All-tail (IsChoiceOf domains) c choices h))
  where
    by : (b : Bool) → (c.variable == variable) ≡ b → IsChoiceOf domains c → IfSome (value_of choices variable) (λ value. value < slice_index domains variable) →
        IfSome (option_map (λ (d : Choice). d.value) (cond b (Some c) (find (λ d. d.variable == variable) choices))) (λ value. value < slice_index domains variable)
    by true e here rest = let same : c.variable ≡ variable = grind (arith, nat_tests) in subst (λ v. c.value < slice_index domains v) same here.1
    by false e here rest = rest

-- as many values are looked at as slots are counted
pub counted : (domain : ℕ) (choices : List Choice) (variable : ℕ) (count : ℕ) → count ≡ (if is_some (value_of choices variable) then 1 else domain) → count ≡ (if is_chosen choices variable then 1 else domain)
counted domain choices variable count e = e ∙ ap (λ b. if b then 1 else domain) (is_some-value_of choices variable)

pub steps_within : (steps old node size count each : ℕ) → steps ≤ old + node * count → node ≡ size → count ≡ each → steps ≤ old + size * each
steps_within steps old node size count each h e f = subst (λ n. steps ≤ old + n * each) e (subst (λ k. steps ≤ old + node * k) f h)

-- each path has room to be come to
pub may_come_from : (domain : ℕ) (chosen : Option ℕ) (row : List CostPair) (slots : Slots) (after : Marks) → HasRoom after.weights row → All (IsBelow after.limit) after.weights → after.limit * domain ≤ rank_count → AreSlots domain chosen row after.limit slots →
    MayComeFrom domain slots after
may_come_from domain chosen row slots after room below few h step of x y e f =
    let inside : step.value < domain = omega (arith, of.1, h.values.within) in
    let own : Ranked = record { pair = pair_at row step.value; rank = step.value * after.limit } in
    let y_is : own ≡ y = same_some own y (sym (slot_is domain after.limit chosen row slots step h inside) ∙ f) in
    let sums = room step.node step.value x e in
    let less : (x.rank + step.value * after.limit) < after.limit * domain =
    let t = times_more step.value domain after.limit x.rank inside (below-at after.limit after.weights step.node x below e) in
    let turned : domain * after.limit ≡ after.limit * domain = omega arith in omega (arith, t, turned) in
    subst (λ v. IsRanked (plus_ranked x v) × ((x.rank + v.rank) < after.limit * domain)) y_is (record { first = sums.0; second = sums.1; rank = omega (arith, less, few) }, less)

-- what was looked at node by node is the least of what leads on from each
pub tails-made : (l : Level) (chosen : Option ℕ) (row : List CostPair) (slots : Slots) (after marks : Marks) (node : ℕ) → l.size ≤ node → All (IsBelow after.limit) after.weights → AreSlots l.domain chosen row after.limit slots → AreTailsSoFar l slots after node marks → AreNextTails l chosen row after marks
tails-made l chosen row slots after marks node all ranks are h = record {
  nodes = h.nodes;
  ranks = ranks;
  least = λ source lt. least-same (HasLedOn l slots source slots.values.end) (LeadsFrom l chosen source) (backward_by slots after) (backward row after) (weight_at marks source) (step_at marks source)
      (up source) (down source) (λ o k. same o (omega (arith, k.of_slots.1, are.values.within))) (h.least source (omega (arith, lt, all)) lt);
}
  where
    up : (source : ℕ) (o : Step) → HasLedOn l slots source slots.values.end o → LeadsFrom l chosen source o
    up source o k =
        let inside : o.value < l.domain = omega (arith, k.of_slots.1, are.values.within) in
        record { value = inside; allowed = (are.values.allowed o.value inside).0 k.of_slots; leads = k.leads }

    down : (source : ℕ) (o : Step) → LeadsFrom l chosen source o → HasLedOn l slots source slots.values.end o
    down source o k = let of = (are.values.allowed o.value k.value).1 k.allowed in record { of_slots = of; leads = k.leads; past = of.1 }

    same : (o : Step) → o.value < l.domain → backward_by slots after o ≡ backward row after o
    same o inside = ap (plus (weight_at after o.node)) (slot_is l.domain after.limit chosen row slots o are inside) ∙ by (weight_at after o.node)
      where
        by : (w : Option Ranked) → plus w (Some (record { pair = pair_at row o.value; rank = o.value * after.limit })) ≡ option_map (λ r. record { pair = plus_pair r.pair (pair_at row o.value); rank = r.rank + o.value * after.limit }) w
        by None = refl
        by (Some r) = refl

pub steps_more : (old before after node count : ℕ) → before ≤ old + node * count → after ≤ before + count → after ≤ old + (node + 1) * count
steps_more old before after node count h k = let next : (node + 1) * count ≡ node * count + count = omega arith in omega (arith, h, k, next)
