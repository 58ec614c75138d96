-- The line of a layer, which is the next one.
use Rattle.std.proofs.Common.{◌≡◌, ◌<◌, ◌≢◌, [], ◌++◌, ◌∷◌, length, Some, None, refl, subst, sym, ap, ◌∙◌, arith}
use Rattle.pc_dump.specs.declared.draft.Awaited.TheVariants.{Layer, Node, End}
use Rattle.pc_dump.specs.Draft.{Settles, TakesLine}
use Rattle.pc_dump.specs.Dump.{layer_words}
use Rattle.pc_dump.proofs.LayerLemmas.{closed_within, some_left}
use Rattle.pc_dump.proofs.StepLemmas.{ended_tables, last_back, last_on, layer_back, layer_line, layer_on, layer_open, number_told, refuses, small_place, takes, takes_settled}
use Rattle.pc_dump.proofs.draft.Draft.take_layer.Goals as goal

pub returns-in_default-clause-refused : goal.returns-in_default-clause-refused
returns-in_default-clause-refused c _ =
    let b = c.args.self.now in
    refuses _ b Layer c.requires.awaited (λ raw later t g.
    let line = layer_line b c.requires.begun _ raw later t g in
    let found : c.layer_line.result ≡ Some (record { layer = length b.edges; size = line.size }) = c.layer_line.ensures.every (length b.edges) line.size (small_place b c.requires.begun) line.small line.is in
    let none : c.layer_line.result ≡ None = c.in_default.is in
    cc)

pub returns-then-layer-len-clause-refused : goal.returns-then-layer-len-clause-refused
returns-then-layer-len-clause-refused c _ =
    let b = c.args.self.now in
    let said = c.in-Some.field-0 in
    refuses _ b Layer c.requires.awaited (λ raw later t g.
    let line = layer_line b c.requires.begun _ raw later t g in
    let same : said.layer ≡ length b.edges = number_told said.layer (length b.edges) said.size line.size c.in-Some.ensures.small.0 (small_place b c.requires.begun) (sym c.in-Some.ensures.is ∙ line.is) in
    let other : said.layer ≢ c.len.result = c.if-layer-len.true in
    other (same ∙ sym c.len.ensures))

pub await_nodes-requires : goal.await_nodes-requires
await_nodes-requires c =
    let b = c.args.self.now in
    let within = closed_within b.domains b.sizes b.edges c.requires.begun.closed in
    let other : c.len-2.result ≢ c.len-3.result = c.if-len.false in
    let less : length b.edges < length b.domains = omega (arith, other, c.len-2.ensures, c.len-3.ensures) in
    let left = some_left (length b.edges) b.domains less in
    rw c.new.ensures (layer_open b left.first left.others left.stands c.requires.begun c.in-Some.field-0.size c.in-Some.ensures.small.1)

pub returns-in_ok-push-clause-taken : goal.returns-in_ok-push-clause-taken
returns-in_ok-push-clause-taken c _ =
    let b = c.args.self.now in
    let said = c.in-Some.field-0 in
    let begun = c.requires.begun in
    let small = c.in-Some.ensures.small.1 in
    let here : said.layer ≡ length b.edges = c.if-layer-len.false ∙ c.len.ensures in
    let is_end : length b.edges ≡ length b.domains = sym c.len-2.ensures ∙ c.if-len.true ∙ c.len-3.ensures in
    let words = c.in-Some.ensures.is ∙ ap (λ n. layer_words n said.size) here in
    rw c.in_ok-push.ensures.ok (subst (λ w. TakesLine w b (record b { sizes = b.sizes ++ said.size ∷ []; awaited = End })) (sym words)
    (takes (layer_words (length b.edges) said.size) b (record b { sizes = b.sizes ++ said.size ∷ []; awaited = End }) Layer End c.requires.awaited refl
    (ended_tables b begun is_end said.size small) (last_on b begun is_end said.size small) (last_back b begun is_end said.size small)))

pub returns-in_ok-await_nodes-clause-taken : goal.returns-in_ok-await_nodes-clause-taken
returns-in_ok-await_nodes-clause-taken c _ =
    let b = c.args.self.now in
    let said = c.in-Some.field-0 in
    let begun = c.requires.begun in
    let small = c.in-Some.ensures.small.1 in
    let within = closed_within b.domains b.sizes b.edges begun.closed in
    let other : c.len-2.result ≢ c.len-3.result = c.if-len.false in
    let less : length b.edges < length b.domains = omega (arith, other, c.len-2.ensures, c.len-3.ensures) in
    let left = some_left (length b.edges) b.domains less in
    let here : said.layer ≡ length b.edges = c.if-layer-len.false ∙ c.len.ensures in
    let words = c.in-Some.ensures.is ∙ ap (λ n. layer_words n said.size) here in
    let after = c.await_nodes.new.self in
    let settles = subst (λ r. Settles (Node said.size said.size) (record b { rows = r }) after) c.new.ensures c.in_ok-await_nodes.ensures in
    subst (λ w. TakesLine w b after) (sym words)
    (takes_settled (layer_words (length b.edges) said.size) b (record b { rows = [] }) after Layer (Node said.size said.size) c.requires.awaited settles
    (layer_on b left.first left.others left.stands begun said.size small) (layer_back b left.first left.others left.stands begun said.size small))
