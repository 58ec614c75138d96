use Rattle.std.proofs.Common.{◌≡◌, ◌<◌, ◌∙◌, ap, subst, length, map, ◌+◌, All, arith, get_or}
use Rattle.pc_store.specs.Layered.{HasRow, with_row_at}
use Rattle.pc_store.specs.Sets.{IsIdAt, domains_of}
use Rattle.pc_store.proofs.SetLemmas.{length-domains, node_made}
use Rattle.pc_store.proofs.store.Store.node.Goals as goal

pub intern_at-requires : goal.intern_at-requires
intern_at-requires c =
    let lt : c.args.layer < length (domains_of c.self.inside.layers.items) = rw c.self.view_is c.requires.inner in
    omega (arith, length-domains c.self.inside.layers.items)

pub invariant_of-self-2 : goal.invariant_of-self-2
invariant_of-self-2 c =
    let old = c.self.inside.layers.items in
    let lt : c.args.layer < length (domains_of old) = rw c.self.view_is c.requires.inner in
    let width : length c.args.children.now ≡ get_or (domains_of old) c.args.layer 0 = rw c.self.view_is c.requires.width in
    let below : All (IsIdAt old (c.args.layer + 1)) c.args.children.now = rw c.self.view_is c.requires.below in
    let grows : c.intern_at.new.layers.items ≡ with_row_at old c.args.layer (map (λ child. child.node) c.args.children.now) = c.in_ok-node.ensures.grows ∙ ap (with_row_at old c.args.layer) c.in_ok-write_nodes.ensures in
    let row : HasRow c.intern_at.new.layers.items c.args.layer c.in_ok-node.node (map (λ child. child.node) c.args.children.now) = subst (HasRow c.intern_at.new.layers.items c.args.layer c.in_ok-node.node) c.in_ok-write_nodes.ensures c.in_ok-node.ensures.row in
    ((node_made old c.intern_at.new.layers.items c.args.layer c.in_ok-node.node c.args.children.now c.self.invariant lt width below grows row).store)

pub returns-clause-is_id : goal.returns-clause-is_id
returns-clause-is_id c =
    let old = c.self.inside.layers.items in
    let lt : c.args.layer < length (domains_of old) = rw c.self.view_is c.requires.inner in
    let width : length c.args.children.now ≡ get_or (domains_of old) c.args.layer 0 = rw c.self.view_is c.requires.width in
    let below : All (IsIdAt old (c.args.layer + 1)) c.args.children.now = rw c.self.view_is c.requires.below in
    let grows : c.intern_at.new.layers.items ≡ with_row_at old c.args.layer (map (λ child. child.node) c.args.children.now) = c.in_ok-node.ensures.grows ∙ ap (with_row_at old c.args.layer) c.in_ok-write_nodes.ensures in
    let row : HasRow c.intern_at.new.layers.items c.args.layer c.in_ok-node.node (map (λ child. child.node) c.args.children.now) = subst (HasRow c.intern_at.new.layers.items c.args.layer c.in_ok-node.node) c.in_ok-write_nodes.ensures c.in_ok-node.ensures.row in
    ((node_made old c.intern_at.new.layers.items c.args.layer c.in_ok-node.node c.args.children.now c.self.invariant lt width below grows row).is_id)

pub returns-clause-set : goal.returns-clause-set
returns-clause-set c =
    let old = c.self.inside.layers.items in
    let lt : c.args.layer < length (domains_of old) = rw c.self.view_is c.requires.inner in
    let width : length c.args.children.now ≡ get_or (domains_of old) c.args.layer 0 = rw c.self.view_is c.requires.width in
    let below : All (IsIdAt old (c.args.layer + 1)) c.args.children.now = rw c.self.view_is c.requires.below in
    let grows : c.intern_at.new.layers.items ≡ with_row_at old c.args.layer (map (λ child. child.node) c.args.children.now) = c.in_ok-node.ensures.grows ∙ ap (with_row_at old c.args.layer) c.in_ok-write_nodes.ensures in
    let row : HasRow c.intern_at.new.layers.items c.args.layer c.in_ok-node.node (map (λ child. child.node) c.args.children.now) = subst (HasRow c.intern_at.new.layers.items c.args.layer c.in_ok-node.node) c.in_ok-write_nodes.ensures c.in_ok-node.ensures.row in
    rw (← c.self.view_is) ((node_made old c.intern_at.new.layers.items c.args.layer c.in_ok-node.node c.args.children.now c.self.invariant lt width below grows row).words)

pub returns-clause-only : goal.returns-clause-only
returns-clause-only c =
    let old = c.self.inside.layers.items in
    let lt : c.args.layer < length (domains_of old) = rw c.self.view_is c.requires.inner in
    let width : length c.args.children.now ≡ get_or (domains_of old) c.args.layer 0 = rw c.self.view_is c.requires.width in
    let below : All (IsIdAt old (c.args.layer + 1)) c.args.children.now = rw c.self.view_is c.requires.below in
    let grows : c.intern_at.new.layers.items ≡ with_row_at old c.args.layer (map (λ child. child.node) c.args.children.now) = c.in_ok-node.ensures.grows ∙ ap (with_row_at old c.args.layer) c.in_ok-write_nodes.ensures in
    let row : HasRow c.intern_at.new.layers.items c.args.layer c.in_ok-node.node (map (λ child. child.node) c.args.children.now) = subst (HasRow c.intern_at.new.layers.items c.args.layer c.in_ok-node.node) c.in_ok-write_nodes.ensures c.in_ok-node.ensures.row in
    ((node_made old c.intern_at.new.layers.items c.args.layer c.in_ok-node.node c.args.children.now c.self.invariant lt width below grows row).only)

pub returns-clause-keeps : goal.returns-clause-keeps
returns-clause-keeps c =
    let old = c.self.inside.layers.items in
    let lt : c.args.layer < length (domains_of old) = rw c.self.view_is c.requires.inner in
    let width : length c.args.children.now ≡ get_or (domains_of old) c.args.layer 0 = rw c.self.view_is c.requires.width in
    let below : All (IsIdAt old (c.args.layer + 1)) c.args.children.now = rw c.self.view_is c.requires.below in
    let grows : c.intern_at.new.layers.items ≡ with_row_at old c.args.layer (map (λ child. child.node) c.args.children.now) = c.in_ok-node.ensures.grows ∙ ap (with_row_at old c.args.layer) c.in_ok-write_nodes.ensures in
    let row : HasRow c.intern_at.new.layers.items c.args.layer c.in_ok-node.node (map (λ child. child.node) c.args.children.now) = subst (HasRow c.intern_at.new.layers.items c.args.layer c.in_ok-node.node) c.in_ok-write_nodes.ensures c.in_ok-node.ensures.row in
    rw (← c.self.view_is) ((node_made old c.intern_at.new.layers.items c.args.layer c.in_ok-node.node c.args.children.now c.self.invariant lt width below grows row).keeps)
