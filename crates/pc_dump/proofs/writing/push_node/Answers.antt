-- One edge more stands in the line.
use Rattle.std.proofs.Common.{◌≡◌, ◌<◌, ◌≤◌, ◌++◌, length, get_or, None, sym, ap, ◌∙◌, arith}
use Rattle.std.specs.Fmt.{decimal}
use Rattle.std.proofs.lemmas.List.{append-nil, take_all, take_more}
use Rattle.std.proofs.lemmas.Result.{on_ok_weaker}
use Rattle.pc_diagram.specs.Levels.{level, row}
use Rattle.pc_dump.specs.Dump.{edge_word}
use Rattle.pc_dump.proofs.WriteLemmas.{node_more, node_whole, spaced, spaced-none}
use Rattle.pc_dump.proofs.writing.push_node.Goals as goal
use Rattle.pc_dump.proofs.writing.push_node.Goals.{in-Some+in_ok-push_unsigned-in-Some, in-None+in_ok-push-in-None}

pub loop-value-init : goal.loop-value-init
loop-value-init g c =
    let text = c.push.new.self in
    sym (ap (λ t. text ++ t) (spaced-none edge_word) ∙ append-nil text)

pub loop-value-preserved : goal.loop-value-preserved
loop-value-preserved g c =
    let l = level c.args.diagram.now c.args.variable in
    let edges = row l c.args.node in
    let i = c.loop-value.value in
    let before = c.push-in-loop-value.new.self in
    let inside : i < length edges = omega (arith, c.requires.count) in
    let put : c.match-edge.text ≡ before ++ edge_word c.edge.result =
    elim c.match-edge.branch [
      | in-Some+in_ok-push_unsigned-in-Some w ↦ w.text-is ∙ w.in_ok-push_unsigned-in-Some.ensures.ok ∙ ap (λ n. before ++ decimal n) w.from.ensures ∙ ap (λ e. before ++ edge_word e) (sym w.in-Some.is)
      | in-None+in_ok-push-in-None w ↦ w.text-is ∙ w.in_ok-push-in-None.ensures.ok ∙ ap (λ e. before ++ edge_word e) (sym w.in-None.is)
    ] in
    node_more _ c.loop-value.text before c.match-edge.text edges i (get_or edges i None) c.loop-value.invariant c.in_ok-push-2.ensures.ok
    (put ∙ ap (λ e. before ++ edge_word e) c.edge.ensures.edge) (take_more edges i None inside)

pub returns-clause-ok : goal.returns-clause-ok
returns-clause-ok g c =
    let edges = row (level c.args.diagram.now c.args.variable) c.args.node in
    let past : length edges ≤ c.loop-value.value = omega (arith, c.requires.count) in
    on_ok_weaker c.push-2.result (λ e. node_whole c.args.text.now c.push.new.self c.loop-value.text c.push-2.new.self edges c.in_ok-push.ensures.ok
    (c.loop-value.invariant ∙ ap (λ l. c.push.new.self ++ spaced edge_word l) (take_all c.loop-value.value edges past)) e) c.push-2.ensures.ok
