-- The priced words are the fitting words.
use Rattle.std.proofs.Common.{◌≡◌, IfOk, ap, ◌∙◌, subst}
use Rattle.pc_diagram.specs.Priced.{priced_listing}
use Rattle.pc_diagram.proofs.PricedLemmas.{listing_from_priced}
use Rattle.pc_diagram.proofs.valid_values.listing.Goals as goal

pub returns : goal.returns
returns c =
    let costs = c.args.costs.now in
    let words = c.args.words.now in
    let priced = c.in_ok-priced.ensures in
    let same = ap (priced_listing costs words) c.as_slice.ensures.value ∙ listing_from_priced costs words c.args.choices.now c.args.bounds.now c.in_ok-priced.priced.items priced.words priced.prices in
    subst (λ g. IfOk c.rows.result (λ l. l ≡ g)) same c.rows.ensures
