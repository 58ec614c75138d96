use Rattle.std.proofs.Common.{◌≡◌, ◌∙◌, ◌++◌, ◌∷◌, [], List, get_or, ap, subst}
use Rattle.std.proofs.lemmas.List.{get_or_read}
use Rattle.pc_pareto.specs.declared.front_item.FrontItem.{FrontItem}
use Rattle.pc_pareto.specs.Numbered.{IsNumbered}
use Rattle.pc_pareto.proofs.kept.kept_stages.Goals as goal

pub returns : goal.returns
returns c =
    let stages = c.args.stages.now in
    let distance = c.args.distance in
    let last = c.in_ok-last.last in
    let last_is : c.as_slice.result.now ≡ get_or stages distance [] = c.as_slice.ensures ∙ get_or_read stages distance c.index-stages-distance.result c.requires.distance c.index-stages-distance.is [] in
    record {
      last = last;
      layers = c.in_ok-push.ensures.ok ∙ ap (λ (ks : List (List (List FrontItem))). ks ++ last ∷ []) c.in_ok-kept.ensures;
      numbered = subst (λ (stage : List (List FrontItem)). IsNumbered stage last c.in_ok-last.limit) last_is c.in_ok-last.ensures;
      total_is = c.size_of_all-total.ensures;
    }
