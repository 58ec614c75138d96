use Rattle.std.proofs.Common.{◌∙◌, [], ◌+◌, ◌-◌, ◌<◌, ◌≤◌, ◌&&◌, ℕ, List, length, take, drop, sym, ap, subst, set, nat_eq}
use Rattle.std.specs.List.{zip}
use Rattle.std.proofs.lemmas.List.{length_push}
use Rattle.std.proofs.lemmas.Slice.Zip.{zip_turn, zip_end}
use Rattle.pc_file.proofs.ZipLemmas.{zip_all}
use Rattle.pc_build.specs.declared.demand.Demand.{Demand}
use Rattle.pc_build.specs.Demands.{allows, meets}
use Rattle.pc_build.proofs.DemandLemmas.{Asked, asked_none, asked_more, pairs_more, takes_each}
use Rattle.pc_build.proofs.demand.demands_of.Goals as goal

pub loop-variable-init : goal.loop-variable-init
loop-variable-init c = subst (Asked c.args.span []) (sym {A = List Demand} (c.in_ok-demands.ensures.items_if_clones_equal (λ y e. e))) (asked_none c.args.span)

pub loop-variable-preserved : goal.loop-variable-preserved
loop-variable-preserved c =
    let variables = c.args.variables.now in
    let row = c.args.row.now in
    let yielded = c.loop-variable.yielded in
    let demands : List Demand = c.loop-variable.demands.items in
    let variable = c.in-Some.variable.now in
    let value = c.in-Some.value.now in
    let asked : Demand = c.index.result.now in
    let turn = zip_turn variables row yielded c.into_iter-variable-iterator.result c.loop-variable.variable-iterator c.next.new.self c.next.result (cc) (cc) c.loop-variable.yielded_by (c.in-Some.variable, c.in-Some.value) c.in-Some.is c.next.ensures.steps in
    let from : c.args.span.first ≤ variable = subst (λ v. c.args.span.first ≤ v) (sym (turn.2 variable)) (c.requires.from (length yielded) variable turn.0) in
    let within : variable < c.args.span.first + c.args.span.count = subst (λ v. v < c.args.span.first + c.args.span.count) (sym (turn.2 variable)) (c.requires.within (length yielded) variable turn.0) in
    let with_value = λ (taken : ℕ). c.with.ensures taken ∙ ap (λ (d : Demand). allows d taken && nat_eq taken value) c.index.ensures in
    let more = pairs_more variables row (length yielded) variable value turn.0 turn.1 (turn.2 variable) (turn.3 value) in
    let count = length_push yielded (c.in-Some.variable, c.in-Some.value) in
    subst (λ pairs. Asked c.args.span pairs (set demands (variable - c.args.span.first) c.with.result)) (sym more ∙ ap (λ n. take n (zip variables row)) (sym count))
    (asked_more c.args.span (take (length yielded) (zip variables row)) demands variable value c.with.result asked from within c.loop-variable.invariant with_value)

pub returns : goal.returns
returns c =
    let variables = c.args.variables.now in
    let row = c.args.row.now in
    let end = zip_end variables row c.loop-variable.yielded c.into_iter-variable-iterator.result c.loop-variable.variable-iterator c.next.new.self c.next.result (cc) (cc) c.loop-variable.yielded_by c.in-None.is c.next.ensures.steps in
    λ word e. ap (λ (demands : List Demand). meets demands (drop c.args.span.first word)) c.from_vec.ensures ∙ c.loop-variable.invariant.words word e ∙ ap (takes_each word) (zip_all variables row (length c.loop-variable.yielded) end)
