use Rattle.std.proofs.Common.{◌≡◌, ◌++◌, ◌∷◌, [], drop, true, false, List, ap, ◌∙◌, sym}
use Rattle.pc_build.specs.declared.demand.Demand.{Demand}
use Rattle.pc_build.specs.Demands.{is_open, some_meets}
use Rattle.pc_build.proofs.TrieLemmas.{rests_more, rests_same}
use Rattle.pc_build.proofs.rests.rests_after.Goals as goal
use Rattle.pc_build.proofs.rests.rests_after.Goals.{then-is_open+in_ok-from_slice+in_ok-push, else-is_open}

pub loop-row-preserved : goal.loop-row-preserved
loop-row-preserved c = λ word.
    let rows = c.args.rows.now in
    let row = c.row-item.result in
    let i = c.loop-row.row-index in
    let tests : c.is_open.result ≡ is_open row c.args.value = c.is_open.ensures ∙ ap (λ (r : List Demand). is_open r c.args.value) c.as_slice.ensures in
    elim c.if-is_open.branch [
      | then-is_open+in_ok-from_slice+in_ok-push w ↦
          let allowed : is_open row c.args.value ≡ true = sym tests ∙ w.if-is_open.true in
          let rest : w.in_ok-from_slice.field-0 ≡ drop 1 row = w.in_ok-from_slice.ensures ∙ w.rest_of.ensures ∙ ap (λ (r : List Demand). drop 1 r) w.as_slice-then-is_open.ensures in
          ap (λ (rs : List (List Demand)). some_meets rs word) (w.rests-is ∙ w.in_ok-push.ensures.ok ∙ ap (λ (r : List Demand). c.loop-row.rests ++ r ∷ []) rest)
          ∙ rests_more rows c.loop-row.rests i c.args.value row word c.loop-row-test.true c.row-item.is allowed (c.loop-row.invariant word)
      | else-is_open w ↦
          let shut : is_open row c.args.value ≡ false = sym tests ∙ w.if-is_open.false in
          ap (λ (rs : List (List Demand)). some_meets rs word) w.rests-is
          ∙ rests_same rows c.loop-row.rests i c.args.value row word c.loop-row-test.true c.row-item.is shut (c.loop-row.invariant word)
    ]
