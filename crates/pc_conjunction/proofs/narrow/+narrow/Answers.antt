use Rattle.std.proofs.Common.{◌≡◌, ◌+◌, ◌∙◌, List, ◌∷◌, sym, ap, subst, arith, length, reverse}
use Rattle.std.proofs.lemmas.List.{length_push}
use Rattle.pc_conjunction.specs.declared.layer.Layer.{Layer}
use Rattle.pc_conjunction.specs.Places.{place_count}
use Rattle.pc_conjunction.specs.Meets.{IsBelow, Narrows}
use Rattle.pc_conjunction.proofs.NarrowLemmas.{reverse_push, rest_below, child_narrows}
use Rattle.pc_conjunction.proofs.narrow.+narrow.Goals as goal

pub returns-in-None : goal.returns-in-None
returns-in-None t c =
    let none = c.in-None.ensures in
    let count = ap length none.0 in
    let layer = c.requires.layer in
    let inner = c.requires.inner in
    absurd (omega arith)

pub cut_over-requires-clause-layer : goal.cut_over-requires-clause-layer
cut_over-requires-clause-layer t c =
    let len : length c.args.layers.now ≡ length c.pop.new.self + 1 = ap {A = List Layer} length c.in-Some.ensures ∙ length_push c.pop.new.self c.in-Some.first in
    let layer = c.requires.layer in
    omega arith

pub cut_over-requires-clause-below : goal.cut_over-requires-clause-below
cut_over-requires-clause-below t c =
    let e : reverse c.args.layers.now ≡ c.in-Some.first ∷ reverse c.pop.new.self = ap {A = List Layer} reverse c.in-Some.ensures ∙ reverse_push c.pop.new.self c.in-Some.first in
    subst (λ (ls : List Layer). IsBelow c.args.store.now c.args.layer (place_count ls) ls) e c.requires.below

pub narrow-requires : goal.narrow-requires
narrow-requires t c =
    let store = c.args.store.now in
    let rest : List Layer = c.pop.new.self in
    let first : Layer = c.in-Some.first in
    let e : reverse c.args.layers.now ≡ first ∷ reverse rest = ap {A = List Layer} reverse c.in-Some.ensures ∙ reverse_push rest first in
    let below : IsBelow store c.args.layer first.count (first ∷ reverse rest) = subst (λ (ls : List Layer). IsBelow store c.args.layer (place_count ls) ls) e c.requires.below in
    let len : length c.args.layers.now ≡ length rest + 1 = ap {A = List Layer} length c.in-Some.ensures ∙ length_push rest first in
    let falls = c.decreases in
    let layer = c.requires.layer in
    let few = c.requires.few in
    let only = c.in-Some-only_child.ensures in
    (omega arith, (omega arith, (only.inside, (few, (rest_below store c.args.layer first.count first (reverse rest) below, only.is_id)))))

pub returns-in_ok-push-in-Some-only_child : goal.returns-in_ok-push-in-Some-only_child
returns-in_ok-push-in-Some-only_child t c =
    let store = c.args.store.now in
    let rest : List Layer = c.pop.new.self in
    let now : List Layer = c.narrow.new.layers in
    let first : Layer = c.in-Some.first in
    let e : reverse c.args.layers.now ≡ first ∷ reverse rest = ap {A = List Layer} reverse c.in-Some.ensures ∙ reverse_push rest first in
    let below : IsBelow store c.args.layer first.count (first ∷ reverse rest) = subst (λ (ls : List Layer). IsBelow store c.args.layer (place_count ls) ls) e c.requires.below in
    let over : Narrows store c.args.set (first ∷ reverse rest) (first ∷ reverse now) = child_narrows store c.args.layer first.count first (reverse rest) (reverse now) c.args.set c.in-Some-only_child.child below c.in-Some-only_child.ensures c.in_ok-narrow-in-Some-only_child.ensures in
    let pushed : reverse c.push.new.self ≡ first ∷ reverse now = ap {A = List Layer} reverse c.in_ok-push-in-Some-only_child.ensures.ok ∙ reverse_push now first in
    subst (λ (ls : List Layer). Narrows store c.args.set ls (reverse c.push.new.self)) (sym e) (subst (λ (ls : List Layer). Narrows store c.args.set (first ∷ reverse rest) ls) (sym pushed) over)
