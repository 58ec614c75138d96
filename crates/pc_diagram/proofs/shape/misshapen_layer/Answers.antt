-- The next layer hasn't the shape of one, or none so far is misshapen.
use Rattle.std.proofs.Common.{◌≡◌, ◌+◌, ◌<◌, ◌≤◌, true, not, if◌then◌else◌, length, take, sum, get_or, Some, sym, ap, ◌∙◌, below_more, arith}
use Rattle.std.proofs.lemmas.List.Sums.{sum_by_more}
use Rattle.pc_diagram.specs.declared.raw_diagram.RawDiagram.{RawDiagram}
use Rattle.pc_diagram.specs.DiagramShape.{first_below, has_shape, has_lists, misshapen_layer}
use Rattle.pc_diagram.proofs.FirstBelow.{first_below-is, first_below-none, all_fail}
use Rattle.pc_diagram.proofs.ShapeLemmas.{shape}
use Rattle.pc_diagram.proofs.shape.misshapen_layer.Goals as goal

-- with as many lists as there should be, the first layer is told
with_lists : (raw : RawDiagram) → has_lists raw ≡ true → misshapen_layer raw ≡ first_below (λ layer. not (has_shape raw layer)) (length raw.sizes)
with_lists raw h = ap (λ b. if b then first_below (λ layer. not (has_shape raw layer)) (length raw.sizes) else Some 0) h

pub returns-then-not-has_shape : goal.returns-then-not-has_shape
returns-then-not-has_shape c =
    let raw : RawDiagram = c.args.raw.now in
    let inside : c.loop-layer.layer < length raw.sizes = omega (arith, ap length c.as_slice-size-items.ensures) in
    sym (with_lists raw (sym c.has_lists.ensures ∙ c.if-not-has_lists.false)
    ∙ first_below-is (λ layer. not (has_shape raw layer)) (length raw.sizes) c.loop-layer.layer inside (ap not (sym c.has_shape.ensures ∙ c.if-not-has_shape.true)) (λ k lt. ap not (c.loop-layer.invariant.fit k lt)))

pub loop-layer-preserved : goal.loop-layer-preserved
loop-layer-preserved c =
    let raw : RawDiagram = c.args.raw.now in
    let layer = c.loop-layer.layer in
    let fits : has_shape raw layer ≡ true = sym c.has_shape.ensures ∙ c.if-not-has_shape.false in
    let room = (shape raw layer fits).room in
    let inside : layer < length raw.sizes = omega (arith, ap length c.as_slice-size-items.ensures) in
    let size : c.from-nodes.result ≡ get_or raw.sizes layer 0 = c.from-nodes.ensures ∙ ap (λ xs. get_or xs layer 0) c.as_slice-size-items.ensures in
    let grows : sum (take (layer + 1) raw.sizes) ≡ sum (take layer raw.sizes) + get_or raw.sizes layer 0 = sum_by_more (λ x. x) raw.sizes layer 0 inside in
    record {
      so_far = omega arith;
      few = omega arith;
      fit = below_more _ _ c.loop-layer.invariant.fit fits;
    }

pub returns : goal.returns
returns c =
    let raw : RawDiagram = c.args.raw.now in
    let past : length raw.sizes ≤ c.loop-layer.layer = omega (arith, ap length c.as_slice-size-items.ensures) in
    sym (with_lists raw (sym c.has_lists.ensures ∙ c.if-not-has_lists.false)
    ∙ first_below-none (λ layer. not (has_shape raw layer)) (length raw.sizes) (all_fail (λ layer. not (has_shape raw layer)) (length raw.sizes) c.loop-layer.layer past (λ k lt. ap not (c.loop-layer.invariant.fit k lt))))
