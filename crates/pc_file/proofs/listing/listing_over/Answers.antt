use Rattle.std.proofs.Common.{◌≡◌, length, IfOk, ap, sym, subst, ◌∙◌}
use Rattle.pc_diagram.specs.Costs.{IsPriced}
use Rattle.pc_diagram.specs.Listing.{listing}
use Rattle.pc_file.specs.Costs.{costs_of}
use Rattle.pc_file.proofs.CostLemmas.{priced}
use Rattle.pc_file.proofs.listing.listing_over.Goals as goal

pub listing-requires : goal.listing-requires
listing-requires c =
    let file = c.args.file.now in
    let limits = c.variables.ensures.limits in
    let made : c.in_ok-costs.costs ≡ costs_of file.variables = c.in_ok-costs.ensures ∙ ap costs_of c.variables.ensures.variables in
    subst IsPriced (sym made) (priced (length file.costs) file.variables limits.variables_at_most limits.each_variable)

pub returns : goal.returns
returns c =
    let file = c.args.file.now in
    let made : c.in_ok-costs.costs ≡ costs_of file.variables = c.in_ok-costs.ensures ∙ ap costs_of c.variables.ensures.variables in
    subst (λ costs. IfOk c.listing.result (λ l. l ≡ listing costs c.args.words.now c.args.choices.now c.args.bounds.now)) made c.listing.ensures
