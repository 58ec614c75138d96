-- No edge leads to the next node, or one leads to each so far.
use Rattle.std.proofs.Common.{◌≡◌, ◌<◌, ℕ, Bool, true, not, List, length, get_or, map, Option, sym, ap, ◌∙◌, below_more, arith}
use Rattle.std.specs.List.{list_any, range_with_len}
use Rattle.std.proofs.lemmas.List.FromFn.{get_or-map-range_with_len, length-map-range_with_len}
use Rattle.pc_diagram.specs.DiagramFaults.{is_unreached}
use Rattle.pc_diagram.specs.Fitting.{is_number}
use Rattle.pc_diagram.specs.Levels.{Level, as_level}
use Rattle.pc_diagram.proofs.FirstBelow.{first_below-is, first_below-none, all_fail}
use Rattle.pc_diagram.proofs.flawed_nodes.first_unreached.Goals as goal

-- whether an edge leads to each node
abbrev reach : List (Option ℕ) → ℕ → Bool
reach table node = list_any (λ target. is_number target node) table

read : (table : List (Option ℕ)) (reached : List Bool) (next node : ℕ) (b : Bool) → reached ≡ map (reach table) (range_with_len 0 next) → node < next → b ≡ get_or reached node b → b ≡ reach table node
read table reached next node b is lt at =
    at ∙ ap (λ r. get_or r node b) is ∙ get_or-map-range_with_len (reach table) 0 next node node b lt (omega arith)

pub index-requires : goal.index-requires
index-requires c =
    let count : length c.in_ok-reached.reached.items ≡ c.args.next = ap length c.in_ok-reached.ensures ∙ length-map-range_with_len (reach c.args.table.now) 0 c.args.next in
    omega (arith, c.in_ok-reached.reached.ok.0)

pub returns-then-not-index : goal.returns-then-not-index
returns-then-not-index c =
    let l : Level = as_level 0 0 c.args.next c.args.table.now in
    let here : is_unreached l c.loop-node.node ≡ true = ap not (sym (read c.args.table.now c.in_ok-reached.reached.items c.args.next c.loop-node.node c.index.result.now c.in_ok-reached.ensures c.loop-node-test.true c.index.ensures) ∙ c.if-not-index.true) in
    sym (first_below-is (is_unreached l) c.args.next c.loop-node.node c.loop-node-test.true here c.loop-node.invariant)

pub loop-node-preserved : goal.loop-node-preserved
loop-node-preserved c =
    below_more _ _ c.loop-node.invariant (ap not (sym (read c.args.table.now c.in_ok-reached.reached.items c.args.next c.loop-node.node c.index.result.now c.in_ok-reached.ensures c.loop-node-test.true c.index.ensures) ∙ c.if-not-index.false))

pub returns : goal.returns
returns c =
    let l : Level = as_level 0 0 c.args.next c.args.table.now in
    sym (first_below-none (is_unreached l) c.args.next (all_fail (is_unreached l) c.args.next c.loop-node.node c.loop-node-test.false c.loop-node.invariant))
