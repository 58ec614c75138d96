-- The word of the least way is listed, or nothing is.
use Rattle.std.proofs.Common.{rules, get_or, sym, subst, ◌∙◌}
use Rattle.pc_domains.specs.FrontWays.{IsLeastFrontWay}
use Rattle.pc_domains.proofs.FrontListedLemmas.{front_tells}
use Rattle.pc_domains.proofs.JoinableLemmas.{joinable}
use Rattle.pc_domains.proofs.ListedLemmas.{other_chosen}
use Rattle.pc_domains.proofs.front_listing.listed_front_way.Goals as goal

pub returns-then-not-allows_value-clause-tells : goal.returns-then-not-allows_value-clause-tells
returns-then-not-allows_value-clause-tells g c =
    sym (other_chosen c.args.diagram.now c.args.costs.now c.args.choices.now c.args.bounds.now c.args.variable c.args.value c.requires.asked (sym c.allows_value.ensures ∙ search rules))

pub least_front_way-requires-clause-fronts : goal.least_front_way-requires-clause-fronts
least_front_way-requires-clause-fronts g c =
    joinable c.args.diagram.now c.args.costs.now c.args.choices.now c.args.variable c.args.heads.now c.args.tails.now c.requires.asked.canonical c.requires.costs c.requires.variable c.requires.heads c.requires.tails

pub returns-clause-tells : goal.returns-clause-tells
returns-clause-tells g c =
    let raw = c.args.diagram.now in
    let heads = c.args.heads.now in
    let tails = c.args.tails.now in
    let least = subst (λ p. IsLeastFrontWay raw c.args.variable c.args.value heads tails p c.args.bounds.now (get_or raw.sizes c.args.variable 0) c.least_front_way.result) c.price_of-price.ensures.is c.least_front_way.ensures.way in
    front_tells raw c.args.costs.now c.args.choices.now c.args.bounds.now c.args.variable c.args.value c.requires.asked heads tails c.requires.heads c.requires.tails (sym c.allows_value.ensures ∙ search rules) c.least_front_way.result least
