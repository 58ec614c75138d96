use Rattle.std.proofs.Common.{◌≡◌, ◌++◌, [], ◌∷◌, List, ℕ, All, length, arith, sym, ap, subst, ◌∙◌}
use Rattle.indexmap.specs.IndexSet.{insert_key}
use Rattle.pc_diagram.specs.declared.raw_diagram.RawDiagram.{RawDiagram}
use Rattle.pc_store.specs.declared.id.Node.{Node}
use Rattle.pc_store.specs.Sets.{domains_of, id_at, IsNodeAt}
use Rattle.pc_apply.proofs.SplitLemmas.{same_node}
use Rattle.pc_build.specs.Extracts.{Extracts}
use Rattle.pc_build.proofs.ExtractLemmas.{are_over}
use Rattle.pc_build.proofs.TablesLemmas.{Extracted, extracted_root, extracted_more, nodes_at, domains_same, words_same, tables_canonical}
use Rattle.pc_build.proofs.tables.tables_of.Goals as goal

pub loop-layer-init : goal.loop-layer-init
loop-layer-init c =
    let root = c.node.result in
    let raw : RawDiagram = record { domains = c.new.result; sizes = c.push.new.self; edges = c.new-3.result } in
    let keys : c.insert.new.self.keys ≡ root ∷ [] = c.in_ok-insert.ensures.keys ∙ ap (λ (l : List Node). insert_key same_node l root) c.new-nodes.ensures.empty in
    let is : c.args.set ≡ id_at 0 root = c.node.ensures ∙ ap (λ n. id_at n root) c.requires.set.1 in
    let sizes : c.push.new.self ≡ 1 ∷ [] = c.in_ok-push.ensures.ok ∙ ap (λ (l : List ℕ). l ++ 1 ∷ []) c.new-2.ensures in
    subst (λ l. Extracted c.args.store.now c.args.set 0 l raw) (sym {A = List Node} keys) (extracted_root c.args.store.now c.args.set root raw is c.new.ensures sizes c.new-3.ensures)

pub edges_of-requires-clause-nodes : goal.edges_of-requires-clause-nodes
edges_of-requires-clause-nodes c =
    subst (All (IsNodeAt c.args.store.now c.loop-layer.layer)) (sym {A = List Node} c.as_slice.ensures.keys)
    (nodes_at c.args.store.now c.args.set c.loop-layer.layer c.loop-layer.nodes.keys c.loop-layer.raw c.requires.set c.requires.some c.loop-layer.invariant)

pub loop-layer-preserved : goal.loop-layer-preserved
loop-layer-preserved c =
    let store = c.args.store.now in
    let layer = c.loop-layer.layer in
    let found = c.in_ok-edges.field-0 in
    let more : RawDiagram = record { domains = c.push-in-loop-layer.new.self; sizes = c.push-in-loop-layer-2.new.self; edges = c.push-in-loop-layer-3.new.self } in
    let is : Extracts store layer c.loop-layer.nodes.keys found.nodes.keys found.edges = subst (λ (l : List Node). Extracts store layer l found.nodes.keys found.edges) c.as_slice.ensures.keys c.in_ok-edges.ensures in
    extracted_more store c.args.set layer c.loop-layer.nodes.keys found.nodes.keys c.domain.result c.in_ok-number.field-0 found.edges c.loop-layer.raw more
    c.in_ok-push-2.ensures.ok c.in_ok-push-3.ensures.ok c.in_ok-push-4.ensures.ok c.domain.ensures.domain c.domain.ensures.is_domain (c.in_ok-number.ensures ∙ c.len.ensures.len) is c.loop-layer.invariant

pub returns-clause-domains : goal.returns-clause-domains
returns-clause-domains c =
    let low = c.loop-layer-test.false in
    let high = c.loop-layer.auto.layer-end in
    let count = c.variables-layer-end.ensures.count in
    let end : c.loop-layer.layer ≡ length (domains_of c.args.store.now) = omega arith in
    domains_same c.args.store.now (are_over c.args.store.now) c.args.set c.requires.set c.requires.some c.loop-layer.nodes.keys c.loop-layer.raw
    (subst (λ n. Extracted c.args.store.now c.args.set n c.loop-layer.nodes.keys c.loop-layer.raw) end c.loop-layer.invariant)

pub returns-clause-words : goal.returns-clause-words
returns-clause-words c =
    let low = c.loop-layer-test.false in
    let high = c.loop-layer.auto.layer-end in
    let count = c.variables-layer-end.ensures.count in
    let end : c.loop-layer.layer ≡ length (domains_of c.args.store.now) = omega arith in
    words_same c.args.store.now (are_over c.args.store.now) c.args.set c.requires.set c.requires.some c.loop-layer.nodes.keys c.loop-layer.raw
    (subst (λ n. Extracted c.args.store.now c.args.set n c.loop-layer.nodes.keys c.loop-layer.raw) end c.loop-layer.invariant)

pub returns-clause-canonical : goal.returns-clause-canonical
returns-clause-canonical c =
    let low = c.loop-layer-test.false in
    let high = c.loop-layer.auto.layer-end in
    let count = c.variables-layer-end.ensures.count in
    let some = c.variables-layer-end.ensures.some in
    let few = c.variables-layer-end.ensures.few in
    let end : c.loop-layer.layer ≡ length (domains_of c.args.store.now) = omega arith in
    tables_canonical c.args.store.now (are_over c.args.store.now) c.args.set c.requires.set c.requires.some c.loop-layer.nodes.keys c.loop-layer.raw
    (subst (λ n. Extracted c.args.store.now c.args.set n c.loop-layer.nodes.keys c.loop-layer.raw) end c.loop-layer.invariant) (omega arith) (omega arith)
