-- The least second cost is the least first one of the costs changed about.
use Rattle.std.proofs.Common.{List, sym, subst, ap, ◌∙◌}
use Rattle.pc_diagram.specs.declared.bounds.Bounds.{Bounds}
use Rattle.pc_diagram.specs.declared.costs.CostPair.{CostPair}
use Rattle.pc_diagram.specs.declared.which.Which.TheVariants.{First}
use Rattle.pc_diagram.specs.Fitting.{fitting}
use Rattle.pc_diagram.specs.Least.{least_cost}
use Rattle.pc_diagram.specs.NodePaths.{AreCostsOf}
use Rattle.pc_diagram.specs.Paths.{words}
use Rattle.pc_domains.specs.Least.{swapped_costs}
use Rattle.pc_domains.proofs.SwapLemmas.{are_swapped, least_swapped}
use Rattle.pc_domains.proofs.least_cost.least.Goals as goal

pub least_by_labels-requires-in-Second-None-default-clause-costs : goal.least_by_labels-requires-in-Second-None-default-clause-costs
least_by_labels-requires-in-Second-None-default-clause-costs g c =
    let domains = c.args.diagram.now.domains in
    subst (AreCostsOf domains) (sym c.in_ok-costs-in-Second-None-default.ensures) (are_swapped domains c.args.costs.now c.requires.costs)

pub returns-in_ok-least_by_labels-in-Second-None-default-clause-least : goal.returns-in_ok-least_by_labels-in-Second-None-default-clause-least
returns-in_ok-least_by_labels-in-Second-None-default-clause-least g c =
    let all = words c.args.diagram.now in
    let choices = c.args.choices.now in
    c.in_ok-least_by_labels-in-Second-None-default.ensures.least
    ∙ ap (λ (l : List (List CostPair)). least_cost First l (fitting l all choices c.swapped_bounds-bounds.result)) c.in_ok-costs-in-Second-None-default.ensures
    ∙ ap (λ (b : Bounds). least_cost First (swapped_costs c.args.costs.now) (fitting (swapped_costs c.args.costs.now) all choices b)) c.swapped_bounds-bounds.ensures
    ∙ least_swapped c.args.costs.now choices c.args.bounds.now all
    ∙ ap (λ which. least_cost which c.args.costs.now (fitting c.args.costs.now all choices c.args.bounds.now)) (sym c.in-Second-None-default.is-0)
