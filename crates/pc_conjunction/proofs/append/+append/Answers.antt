use Rattle.std.proofs.Common.{◌≡◌, ◌+◌, ◌∙◌, List, ◌∷◌, sym, ap, subst, arith, length, reverse}
use Rattle.std.proofs.lemmas.List.{length_push}
use Rattle.pc_store.specs.Sets.{domains_of}
use Rattle.pc_conjunction.specs.declared.layer.Layer.{Layer}
use Rattle.pc_conjunction.specs.declared.pair.Pair.{Pair}
use Rattle.pc_conjunction.specs.Places.{place_count}
use Rattle.pc_conjunction.specs.Meets.{IsBelow, ArePairs, Extends}
use Rattle.pc_conjunction.proofs.MeetLemmas.{extends_none, no_pairs}
use Rattle.pc_conjunction.proofs.NarrowLemmas.{reverse_push, rest_below, extends_over}
use Rattle.pc_conjunction.proofs.append.+append.Goals as goal

pub returns-then-is_empty : goal.returns-then-is_empty
returns-then-is_empty t c =
    subst (Extends c.args.store.now c.args.layer (reverse c.args.layers.now) (reverse c.args.layers.now)) (sym {A = List Pair} (no_pairs c.args.pairs.now (sym c.is_empty.ensures ∙ c.if-is_empty.true)))
    (extends_none c.args.store.now c.args.layer (reverse c.args.layers.now) c.requires.below.layered)

pub returns-in-None : goal.returns-in-None
returns-in-None t c =
    let none = c.in-None.ensures in
    let count = ap length none.0 in
    let layer = c.requires.layer in
    let end : c.args.layer ≡ length (domains_of c.args.store.now) = omega arith in
    let same : c.pop.new.self ≡ c.args.layers.now = none.1 ∙ sym none.0 in
    subst (λ (ls : List Layer). Extends c.args.store.now c.args.layer (reverse c.args.layers.now) (reverse ls) c.args.pairs.now) (sym {A = List Layer} same)
    (subst (Extends c.args.store.now c.args.layer (reverse c.args.layers.now) (reverse c.args.layers.now)) (sym {A = List Pair} (c.requires.at_end end))
    (extends_none c.args.store.now c.args.layer (reverse c.args.layers.now) c.requires.below.layered))

pub add_pairs-requires-clause-pairs : goal.add_pairs-requires-clause-pairs
add_pairs-requires-clause-pairs t c =
    let e : reverse c.args.layers.now ≡ c.in-Some.first ∷ reverse c.pop.new.self = ap {A = List Layer} reverse c.in-Some.ensures ∙ reverse_push c.pop.new.self c.in-Some.first in
    subst (λ (ls : List Layer). ArePairs c.args.store.now c.args.layer (place_count ls) c.args.pairs.now) e c.requires.pairs

pub append-requires : goal.append-requires
append-requires t c =
    let store = c.args.store.now in
    let rest : List Layer = c.pop.new.self in
    let first : Layer = c.in-Some.first in
    let e : reverse c.args.layers.now ≡ first ∷ reverse rest = ap {A = List Layer} reverse c.in-Some.ensures ∙ reverse_push rest first in
    let below : IsBelow store c.args.layer first.count (first ∷ reverse rest) = subst (λ (ls : List Layer). IsBelow store c.args.layer (place_count ls) ls) e c.requires.below in
    let len : length c.args.layers.now ≡ length rest + 1 = ap {A = List Layer} length c.in-Some.ensures ∙ length_push rest first in
    let falls = c.decreases in
    let layer = c.requires.layer in
    let few = c.requires.few in
    let more = c.in_ok-add_pairs-in-Some.ensures.next in
    let counted : c.count_of-count.result ≡ place_count (reverse rest) = c.count_of-count.ensures ∙ ap (λ (ls : List Layer). place_count (reverse ls)) c.as_slice.ensures in
    let none : ArePairs store (c.args.layer + 1) c.count_of-count.result c.new-next.result.keys = subst (ArePairs store (c.args.layer + 1) c.count_of-count.result) (sym {A = List Pair} c.new-next.ensures.empty) (λ i pair at. absurd cc) in
    let pairs : ArePairs store (c.args.layer + 1) (place_count (reverse rest)) c.as_slice-in-Some.result.now =
    subst (λ n. ArePairs store (c.args.layer + 1) n c.as_slice-in-Some.result.now) counted (subst (ArePairs store (c.args.layer + 1) c.count_of-count.result) (sym {A = List Pair} c.as_slice-in-Some.ensures.keys) (more.valid none)) in
    (omega arith, (omega arith, (few, (rest_below store c.args.layer first.count first (reverse rest) below, (pairs, λ end. c.as_slice-in-Some.ensures.keys ∙ more.at_end end ∙ c.new-next.ensures.empty)))))

pub returns-in_ok-push-in-Some : goal.returns-in_ok-push-in-Some
returns-in_ok-push-in-Some t c =
    let store = c.args.store.now in
    let layer = c.args.layer in
    let rest : List Layer = c.pop.new.self in
    let now : List Layer = c.append.new.layers in
    let first : Layer = c.in-Some.first in
    let grown : Layer = c.add_pairs.new.self in
    let next : List Pair = c.add_pairs.new.next.keys in
    let e : reverse c.args.layers.now ≡ first ∷ reverse rest = ap {A = List Layer} reverse c.in-Some.ensures ∙ reverse_push rest first in
    let below : IsBelow store layer first.count (first ∷ reverse rest) = subst (λ (ls : List Layer). IsBelow store layer (place_count ls) ls) e c.requires.below in
    let counted : c.count_of-count.result ≡ place_count (reverse rest) = c.count_of-count.ensures ∙ ap (λ (ls : List Layer). place_count (reverse ls)) c.as_slice.ensures in
    let after : IsBelow store (layer + 1) c.count_of-count.result (reverse rest) = subst (λ n. IsBelow store (layer + 1) n (reverse rest)) (sym counted) (rest_below store layer first.count first (reverse rest) below) in
    let extended : Extends store (layer + 1) (reverse rest) (reverse now) next = subst (Extends store (layer + 1) (reverse rest) (reverse now)) c.as_slice-in-Some.ensures.keys c.in_ok-append-in-Some.ensures in
    let over : Extends store layer (first ∷ reverse rest) (grown ∷ reverse now) c.args.pairs.now = extends_over store layer first (reverse rest) (reverse now) next below.layered extended grown c.args.pairs.now (c.in_ok-add_pairs-in-Some.ensures.grown (reverse rest) after) in
    let pushed : reverse c.push.new.self ≡ grown ∷ reverse now = ap {A = List Layer} reverse c.in_ok-push-in-Some.ensures.ok ∙ reverse_push now grown in
    subst (λ (ls : List Layer). Extends store layer ls (reverse c.push.new.self) c.args.pairs.now) (sym e) (subst (λ (ls : List Layer). Extends store layer (first ∷ reverse rest) ls c.args.pairs.now) (sym pushed) over)
