use Rattle.std.proofs.Common.{◌≡◌, ◌+◌, ◌∙◌, List, ◌∷◌, sym, ap, subst, reverse}
use Rattle.pc_conjunction.specs.declared.layer.Layer.{Layer}
use Rattle.pc_conjunction.specs.declared.pair.Pair.{Pair}
use Rattle.pc_conjunction.specs.Places.{place_count}
use Rattle.pc_conjunction.specs.Meets.{IsBelow, ArePairs, Extends, Narrows}
use Rattle.pc_conjunction.proofs.NarrowLemmas.{reverse_push, rest_below, cut_narrows}
use Rattle.pc_conjunction.proofs.narrow.cut_over.Goals as goal

pub append-requires-clause-below : goal.append-requires-clause-below
append-requires-clause-below c = rest_below c.args.store.now c.args.layer c.args.first.count c.args.first (reverse c.args.layers.now) c.requires.below

pub append-requires-clause-pairs : goal.append-requires-clause-pairs
append-requires-clause-pairs c =
    let store = c.args.store.now in
    let more = c.in_ok-cut.ensures.next in
    let counted : c.count_of-count.result ≡ place_count (reverse c.args.layers.now) = c.count_of-count.ensures ∙ ap (λ (ls : List Layer). place_count (reverse ls)) c.as_slice.ensures in
    let none : ArePairs store (c.args.layer + 1) c.count_of-count.result c.new-next.result.keys = subst (ArePairs store (c.args.layer + 1) c.count_of-count.result) (sym {A = List Pair} c.new-next.ensures.empty) (λ i pair at. absurd cc) in
    subst (λ n. ArePairs store (c.args.layer + 1) n c.as_slice-2.result.now) counted (subst (ArePairs store (c.args.layer + 1) c.count_of-count.result) (sym {A = List Pair} c.as_slice-2.ensures.keys) (more.valid none))

pub append-requires-clause-at_end : goal.append-requires-clause-at_end
append-requires-clause-at_end c = λ end. c.as_slice-2.ensures.keys ∙ c.in_ok-cut.ensures.next.at_end end ∙ c.new-next.ensures.empty

pub returns : goal.returns
returns c =
    let store = c.args.store.now in
    let layer = c.args.layer in
    let rest : List Layer = c.args.layers.now in
    let now : List Layer = c.append.new.layers in
    let first : Layer = c.args.first in
    let cut : Layer = c.cut.new.self in
    let next : List Pair = c.cut.new.next.keys in
    let below = c.requires.below in
    let counted : c.count_of-count.result ≡ place_count (reverse c.args.layers.now) = c.count_of-count.ensures ∙ ap (λ (ls : List Layer). place_count (reverse ls)) c.as_slice.ensures in
    let after : IsBelow store (layer + 1) c.count_of-count.result (reverse rest) = subst (λ n. IsBelow store (layer + 1) n (reverse rest)) (sym counted) (rest_below store layer first.count first (reverse rest) below) in
    let extended : Extends store (layer + 1) (reverse rest) (reverse now) next = subst (Extends store (layer + 1) (reverse rest) (reverse now)) c.as_slice-2.ensures.keys c.in_ok-append.ensures in
    let over : Narrows store c.args.set (first ∷ reverse rest) (cut ∷ reverse now) = cut_narrows store layer first (reverse rest) (reverse now) next below.layered extended cut c.args.set (c.in_ok-cut.ensures.cut (reverse rest) after) in
    let pushed : reverse c.push.new.self ≡ cut ∷ reverse now = ap {A = List Layer} reverse c.in_ok-push.ensures.ok ∙ reverse_push now cut in
    subst (λ (ls : List Layer). Narrows store c.args.set (first ∷ reverse rest) ls) (sym pushed) over
