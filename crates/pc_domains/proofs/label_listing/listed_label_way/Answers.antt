-- The word of the least way is listed, if the bound allows it, or nothing is.
use Rattle.std.proofs.Common.{rules, Some, None, get_or, sym, subst, ◌∙◌}
use Rattle.pc_domains.specs.LabelWays.{IsLeastLabelWay}
use Rattle.pc_domains.proofs.LabelListedLemmas.{label_past, label_tells, label_unlinked, linkable}
use Rattle.pc_domains.proofs.ListedLemmas.{other_chosen}
use Rattle.pc_domains.proofs.label_listing.listed_label_way.Goals as goal

pub returns-then-not-allows_value-clause-tells : goal.returns-then-not-allows_value-clause-tells
returns-then-not-allows_value-clause-tells g c =
    sym (other_chosen c.args.diagram.now c.args.costs.now c.args.choices.now c.args.bounds.now c.args.variable c.args.value c.requires.asked (sym c.allows_value.ensures ∙ search rules))

pub least_label_way-requires-clause-labels : goal.least_label_way-requires-clause-labels
least_label_way-requires-clause-labels g c =
    linkable c.args.diagram.now c.args.costs.now c.args.choices.now c.args.variable c.args.heads.now c.args.tails.now c.requires.asked.canonical c.requires.costs c.requires.variable c.requires.heads c.requires.tails

pub returns-in_default-clause-tells : goal.returns-in_default-clause-tells
returns-in_default-clause-tells g c =
    let raw = c.args.diagram.now in
    let heads = c.args.heads.now in
    let tails = c.args.tails.now in
    let found : IsLeastLabelWay raw c.args.variable c.args.value heads tails c.price_of-price.result (get_or raw.sizes c.args.variable 0) None =
    subst (IsLeastLabelWay raw c.args.variable c.args.value heads tails c.price_of-price.result (get_or raw.sizes c.args.variable 0)) c.in_default.is c.least_label_way.ensures.way in
    let least = subst (λ p. IsLeastLabelWay raw c.args.variable c.args.value heads tails p (get_or raw.sizes c.args.variable 0) None) c.price_of-price.ensures.is found in
    sym (label_unlinked raw c.args.costs.now c.args.choices.now c.args.bounds.now c.args.variable c.args.value c.requires.asked c.requires.alone heads tails c.requires.heads c.requires.tails (sym c.allows_value.ensures ∙ search rules) least)

pub returns-then-not-keeps-clause-tells : goal.returns-then-not-keeps-clause-tells
returns-then-not-keeps-clause-tells g c =
    let raw = c.args.diagram.now in
    let heads = c.args.heads.now in
    let tails = c.args.tails.now in
    let way = c.in-Some.way in
    let found : IsLeastLabelWay raw c.args.variable c.args.value heads tails c.price_of-price.result (get_or raw.sizes c.args.variable 0) (Some way) =
    subst (IsLeastLabelWay raw c.args.variable c.args.value heads tails c.price_of-price.result (get_or raw.sizes c.args.variable 0)) c.in-Some.is c.least_label_way.ensures.way in
    let least = subst (λ p. IsLeastLabelWay raw c.args.variable c.args.value heads tails p (get_or raw.sizes c.args.variable 0) (Some way)) c.price_of-price.ensures.is found in
    sym (label_past raw c.args.costs.now c.args.choices.now c.args.bounds.now c.args.variable c.args.value c.requires.asked c.requires.alone heads tails c.requires.heads c.requires.tails (sym c.allows_value.ensures ∙ search rules) way least
    (sym c.keeps.ensures ∙ search rules))

pub returns-clause-tells : goal.returns-clause-tells
returns-clause-tells g c =
    let raw = c.args.diagram.now in
    let heads = c.args.heads.now in
    let tails = c.args.tails.now in
    let way = c.in-Some.way in
    let found : IsLeastLabelWay raw c.args.variable c.args.value heads tails c.price_of-price.result (get_or raw.sizes c.args.variable 0) (Some way) =
    subst (IsLeastLabelWay raw c.args.variable c.args.value heads tails c.price_of-price.result (get_or raw.sizes c.args.variable 0)) c.in-Some.is c.least_label_way.ensures.way in
    let least = subst (λ p. IsLeastLabelWay raw c.args.variable c.args.value heads tails p (get_or raw.sizes c.args.variable 0) (Some way)) c.price_of-price.ensures.is found in
    label_tells raw c.args.costs.now c.args.choices.now c.args.bounds.now c.args.variable c.args.value c.requires.asked c.requires.alone heads tails c.requires.heads c.requires.tails (sym c.allows_value.ensures ∙ search rules) way least
    (sym c.keeps.ensures ∙ search rules)
