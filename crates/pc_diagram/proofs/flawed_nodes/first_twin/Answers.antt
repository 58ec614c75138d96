-- The next row is among those before, or goes to their end.
use Rattle.std.proofs.Common.{◌≡◌, ℕ, Bool, true, false, not, List, [], ◌∷◌, ◌++◌, map, Option, sym, ap, ◌∙◌, below_more, arith, Bor}
use Rattle.std.specs.List.{list_any, range_with_len}
use Rattle.std.proofs.lemmas.List.FromFn.{map-range_with_len_more}
use Rattle.pc_diagram.specs.DiagramFaults.{is_twin, same_edges}
use Rattle.pc_diagram.specs.Levels.{Level, as_level, row}
use Rattle.pc_diagram.proofs.FirstBelow.{first_below-is, first_below-none, all_fail}
use Rattle.pc_diagram.proofs.RowLemmas.{list_any-map, put_new}
use Rattle.pc_diagram.proofs.flawed_nodes.first_twin.Goals as goal

-- a row is among the keys where its node is a twin
among : (l : Level) (node : ℕ) (r : List (Option ℕ)) (keys : List (Bor (List (Option ℕ)))) → r ≡ row l node → map (λ k. k.now) keys ≡ map (row l) (range_with_len 0 node) →
    is_twin l node ≡ list_any (λ k. same_edges r k.now) keys
among l node r keys is so_far =
    ap (λ q. list_any (same_edges q) (map (row l) (range_with_len 0 node))) (sym is) ∙ ap (list_any (same_edges r)) (sym so_far) ∙ list_any-map (same_edges r) (λ k. k.now) keys

twisted : (b c : Bool) → b ≡ not c → b ≡ false → c ≡ true
twisted b true e f = grind arith
twisted b false e f = grind arith

straight : (b c : Bool) → b ≡ not c → b ≡ true → c ≡ false
straight b true e f = grind arith
straight b false e f = grind arith

pub returns-then-not-branch : goal.returns-then-not-branch
returns-then-not-branch c =
    let l : Level = as_level c.args.domain c.args.size 0 c.args.table.now in
    let here : is_twin l c.loop-node.node ≡ true = among l c.loop-node.node c.row.result.now c.loop-node.rows.keys c.row.ensures c.loop-node.invariant.so_far ∙ twisted _ _ c.in_ok-insert.ensures.added c.if-not-branch.true in
    sym (first_below-is (is_twin l) c.args.size c.loop-node.node c.loop-node-test.true here c.loop-node.invariant.none)

pub loop-node-preserved : goal.loop-node-preserved
loop-node-preserved c =
    let l : Level = as_level c.args.domain c.args.size 0 c.args.table.now in
    let node = c.loop-node.node in
    let keys = c.loop-node.rows.keys in
    let r = c.row.result.now in
    let new : list_any (λ k. same_edges r k.now) keys ≡ false = straight _ _ c.in_ok-insert.ensures.added c.if-not-branch.false in
    record {
      so_far = put_new (λ k. same_edges r k.now) (λ k. k.now) keys c.insert.new.self.keys c.row.result new c.in_ok-insert.ensures.keys
          ∙ ap (λ rs. rs ++ r ∷ []) c.loop-node.invariant.so_far ∙ ap (λ q. map (row l) (range_with_len 0 node) ++ q ∷ []) c.row.ensures
          ∙ sym (map-range_with_len_more (row l) 0 node node (omega arith));
      none = below_more _ _ c.loop-node.invariant.none (among l node r keys c.row.ensures c.loop-node.invariant.so_far ∙ new);
    }

pub returns : goal.returns
returns c =
    let l : Level = as_level c.args.domain c.args.size 0 c.args.table.now in
    sym (first_below-none (is_twin l) c.args.size (all_fail (is_twin l) c.args.size c.loop-node.node c.loop-node-test.false c.loop-node.invariant.none))
