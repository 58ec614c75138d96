-- The cheapest of what is listed, one after another.
use Rattle.std.proofs.Common.{◌≡◌, ℕ, ◌+◌, ◌<◌, List, [], ◌∷◌, length, take, map, get_or, Some, ap, ◌∙◌}
use Rattle.std.proofs.lemmas.List.{map-append, take_more}
use Rattle.pc_diagram.specs.declared.listed.Listed.{Listed}
use Rattle.pc_diagram.specs.Best.{earlier_unless, first_best}
use Rattle.pc_diagram.specs.Costs.{is_cheaper}
use Rattle.pc_diagram.proofs.CheaperOrder.{is_cheaper_order}
use Rattle.pc_diagram.proofs.FirstBest.{first_best-push}
use Rattle.pc_generator.specs.Summary.{pair_listed}

pub best-more : (items : List Listed) (i : ℕ) (d : Listed) → i < length items → first_best is_cheaper (map pair_listed (take (i + 1) items)) ≡ earlier_unless is_cheaper (first_best is_cheaper (map pair_listed (take i items))) (Some (pair_listed (get_or items i d)))
best-more items i d inside =
    ap (λ xs. first_best is_cheaper (map pair_listed xs)) (take_more items i d inside) ∙ ap (first_best is_cheaper) (map-append pair_listed (take i items) (get_or items i d ∷ [])) ∙ first_best-push is_cheaper is_cheaper_order (map pair_listed (take i items)) (pair_listed (get_or items i d))
