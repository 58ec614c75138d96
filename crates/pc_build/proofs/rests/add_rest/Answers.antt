use Rattle.std.proofs.Common.{◌≡◌, ◌+◌, ◌<◌, arith, ◌++◌, ◌∷◌, [], List, drop, length, get_or, set, ap, ◌∙◌, sym, subst}
use Rattle.std.proofs.lemmas.List.{get_or_default}
use Rattle.pc_build.specs.declared.demand.Demand.{Demand}
use Rattle.pc_build.proofs.RestLemmas.{AddedTo, added_start, added_past, added_more, added_all}
use Rattle.pc_build.proofs.rests.add_rest.Goals as goal
use Rattle.pc_build.proofs.rests.add_rest.Goals.{then-is_open+in_ok-rest+in_ok-push, else-is_open}

pub loop-value-init : goal.loop-value-init
loop-value-init c = added_start c.args.row.now c.args.count c.open_values-values.result c.args.rests.now.items c.requires c.open_values-values.ensures.allowed

pub loop-value-preserved : goal.loop-value-preserved
loop-value-preserved c =
    let row = c.args.row.now in
    let value = c.loop-value.value in
    let before : List (List (List Demand)) = c.args.rests.now.items in
    let mid : List (List (List Demand)) = c.loop-value.rests.items in
    let wide = c.loop-value.invariant.width in
    let few = c.open_values-values.ensures.within in
    let long = c.requires in
    let lower = c.loop-value-test.true in
    let within : value < length before = omega arith in
    let inside : value < length mid = omega arith in
    elim c.if-is_open.branch [
      | then-is_open+in_ok-rest+in_ok-push w ↦
          let here : w.index_mut.result.now ≡ get_or mid value [] = w.index_mut.ensures.value ∙ sym (get_or_default mid value [] w.index_mut.result.now inside) in
          let grown : w.push.new.self ≡ get_or mid value [] ++ drop 1 row ∷ [] =
          w.in_ok-push.ensures.ok ∙ (λ i. here i ++ (w.in_ok-rest.ensures ∙ w.rest_of.ensures) i ∷ []) in
          subst (AddedTo row (value + 1) before) (sym (ap (λ r. r.items) w.rests-is ∙ ap (set mid value) grown))
          (added_more row value before mid (sym c.is_open.ensures ∙ w.if-is_open.true) within c.loop-value.invariant)
      | else-is_open w ↦
          subst (AddedTo row (value + 1) before) (sym (ap (λ r. r.items) w.rests-is))
          (added_past row value before mid (sym c.is_open.ensures ∙ w.if-is_open.false) c.loop-value.invariant)
    ]

pub returns : goal.returns
returns c = added_all c.args.row.now c.args.count c.loop-value.value c.open_values-values.result c.args.rests.now.items c.loop-value.rests.items c.requires c.open_values-values.ensures.allowed c.loop-value-test.false (c.loop-value.auto.value-end c.open_values-values.ensures.order) c.loop-value.invariant
