use Rattle.std.proofs.Common.{◌≡◌, ◌∙◌, ℕ, List, drop, ap}
use Rattle.pc_file.specs.Rule.{row_fits}
use Rattle.pc_build.specs.declared.demand.Demand.{Demand}
use Rattle.pc_build.specs.Demands.{meets, some_meets}
use Rattle.pc_build.proofs.TrieLemmas.{demands_more}
use Rattle.pc_build.proofs.table.demands_of_rows.Goals as goal

pub loop-row-preserved : goal.loop-row-preserved
loop-row-preserved c = λ word long.
    let asked : List Demand = c.in_ok-demands_of.field-0 in
    let variables = c.args.variables.now in
    let rest = drop c.args.span.first word in
    let fits : meets asked rest ≡ row_fits word variables c.row-item.result = c.in_ok-demands_of.ensures word long ∙ ap (λ (row : List ℕ). row_fits word variables row) c.as_slice.ensures in
    ap (λ (rows : List (List Demand)). some_meets rows rest) c.in_ok-push.ensures.ok
    ∙ demands_more c.args.rows.now variables c.loop-row.demands c.loop-row.row-index c.row-item.result asked word rest c.loop-row-test.true c.row-item.is fits (c.loop-row.invariant word long)
