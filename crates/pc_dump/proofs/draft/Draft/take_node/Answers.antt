-- The line of a node of the open layer.
use Rattle.std.proofs.Common.{◌≡◌, suc, ◌-◌, ◌++◌, length, get_or, Ok, subst, sym, ap, ◌∙◌, arith}
use Rattle.pc_dump.specs.declared.draft.Awaited.TheVariants.{Node}
use Rattle.pc_dump.specs.Draft.{IsOpen, Settles, TakesLine}
use Rattle.pc_dump.specs.Dump.{node_words}
use Rattle.pc_dump.proofs.LayerLemmas.{first_left}
use Rattle.pc_dump.proofs.StepLemmas.{node_back, node_line, node_on, node_open, refuses, takes_settled}
use Rattle.pc_dump.proofs.draft.Draft.take_node.Goals as goal

pub returns-then-not-branch-clause-refused : goal.returns-then-not-branch-clause-refused
returns-then-not-branch-clause-refused c _ =
    let b = c.args.self.now in
    let size = c.args.size in
    let m = c.args.left - 1 in
    let some = c.requires.some in
    let e : c.args.left ≡ suc m = omega arith in
    let open_ = subst (λ l. IsOpen size l b) e c.requires.open in
    let domain : get_or c.as_slice.result.now c.len.result 0 ≡ open_.domain = rw (c.as_slice.ensures, c.len.ensures) (first_left (length b.edges) b.domains open_.domain open_.domains open_.stands) in
    let none = c.in_ok-push_node_line.ensures.every (ap (λ x. Ok x) c.if-not-branch.true) in
    refuses _ b (Node size (suc m)) (c.requires.awaited ∙ ap (λ l. Node size l) e)
    (λ raw later t f. let line = node_line size m b open_ _ raw later t f in none line.edges (line.count ∙ sym domain) line.numbers line.is)

pub await_nodes-requires : goal.await_nodes-requires
await_nodes-requires c =
    let b = c.args.self.now in
    let size = c.args.size in
    let m = c.args.left - 1 in
    let some = c.requires.some in
    let e : c.args.left ≡ suc m = omega arith in
    let open_ = subst (λ l. IsOpen size l b) e c.requires.open in
    let domain : get_or c.as_slice.result.now c.len.result 0 ≡ open_.domain = rw (c.as_slice.ensures, c.len.ensures) (first_left (length b.edges) b.domains open_.domain open_.domains open_.stands) in
    let put = c.in_ok-push_node_line.ensures.is (ap (λ x. Ok x) c.if-not-branch.false) in
    rw put.put (node_open size m b open_ put.row (put.count_is ∙ domain) put.numbers)

pub returns-clause-taken : goal.returns-clause-taken
returns-clause-taken c _ =
    let b = c.args.self.now in
    let size = c.args.size in
    let m = c.args.left - 1 in
    let some = c.requires.some in
    let e : c.args.left ≡ suc m = omega arith in
    let open_ = subst (λ l. IsOpen size l b) e c.requires.open in
    let domain : get_or c.as_slice.result.now c.len.result 0 ≡ open_.domain = rw (c.as_slice.ensures, c.len.ensures) (first_left (length b.edges) b.domains open_.domain open_.domains open_.stands) in
    let put = c.in_ok-push_node_line.ensures.is (ap (λ x. Ok x) c.if-not-branch.false) in
    let after = c.await_nodes.new.self in
    let mid = record b { rows = b.rows ++ put.row } in
    let settles = subst (λ r. Settles (Node size m) (record b { rows = r }) after) put.put c.in_ok-await_nodes.ensures in
    let count = put.count_is ∙ domain in
    subst (λ w. TakesLine w b after) (sym put.is)
    (takes_settled (node_words put.row) b mid after (Node size (suc m)) (Node size m) (c.requires.awaited ∙ ap (λ l. Node size l) e) settles
    (node_on size m b open_ put.row count put.numbers) (node_back size m b open_ put.row count put.numbers))
