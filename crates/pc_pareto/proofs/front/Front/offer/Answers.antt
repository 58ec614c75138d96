use Rattle.std.proofs.Common.{◌≡◌, ◌++◌, ◌∷◌, [], List, sym, ap, ◌∙◌, subst}
use Rattle.pc_pareto.specs.declared.front_item.FrontItem.{FrontItem}
use Rattle.pc_pareto.specs.Items.{IsFrontOf}
use Rattle.pc_pareto.proofs.OfferLemmas.{offer_kept, offer_taken}
use Rattle.pc_pareto.proofs.front.Front.offer.Goals as goal

pub returns-then-last_is_needless-clause-ok : goal.returns-then-last_is_needless-clause-ok
returns-then-last_is_needless-clause-ok c = λ offered h.
    let item : FrontItem = record { first = c.args.pair.0; second = c.args.pair.1; back = c.args.back } in
    let items : c.as_slice.result.now ≡ c.args.self.now = c.as_slice.ensures.value ∙ c.self.view_is in
    let all : c.as_slice-2.result.now ≡ c.args.self.now ++ item ∷ [] = c.as_slice-2.ensures.value ∙ c.in_ok-offered.ensures ∙ ap (λ (xs : List FrontItem). xs ++ item ∷ []) items in
    offer_kept offered c.args.self.now item h (sym (c.last_is_needless.ensures c.args.self.now item all) ∙ c.if-last_is_needless.true)

pub returns-clause-ok : goal.returns-clause-ok
returns-clause-ok c = λ offered h.
    let item : FrontItem = record { first = c.args.pair.0; second = c.args.pair.1; back = c.args.back } in
    let items : c.as_slice.result.now ≡ c.args.self.now = c.as_slice.ensures.value ∙ c.self.view_is in
    let before : c.in_ok-offered.offered.items ≡ c.args.self.now ++ item ∷ [] = c.in_ok-offered.ensures ∙ ap (λ (xs : List FrontItem). xs ++ item ∷ []) items in
    let all : c.as_slice-2.result.now ≡ c.args.self.now ++ item ∷ [] = c.as_slice-2.ensures.value ∙ before in
    let kept = c.keep_front.new.items.items in
    let front : IsFrontOf (c.args.self.now ++ item ∷ []) kept = subst (λ (xs : List FrontItem). IsFrontOf xs kept) before c.in_ok-keep_front.ensures in
    offer_taken offered c.args.self.now item h (sym (c.last_is_needless.ensures c.args.self.now item all) ∙ c.if-last_is_needless.false) kept front
