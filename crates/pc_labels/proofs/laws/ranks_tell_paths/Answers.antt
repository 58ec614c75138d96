-- Equal ranks are those of paths of which neither comes before the other.
use Rattle.std.proofs.Common.{◌≡◌, ◌↔◌, ℕ, nat_lt, false, Option, Some, None, IfSome, sym, ap, ◌∙◌, arith}
use Rattle.std.proofs.lemmas.Bool.Decides.{nat_tests}
use Rattle.pc_diagram.specs.NodePaths.{comes_before}
use Rattle.pc_diagram.proofs.LeastWords.{comes_before-irreflexive, comes_before-tells}
use Rattle.pc_labels.specs.Kept.{Kept}
use Rattle.pc_labels.proofs.laws.ranks_tell_paths.Goals as goal

not_less : (m n : ℕ) → m ≡ n → nat_lt m n ≡ false
not_less m n e = grind (arith, nat_tests)

equal : (m n : ℕ) → nat_lt m n ≡ false → nat_lt n m ≡ false → m ≡ n
equal m n h k = grind (arith, nat_tests)

-- ranks of one and of the other compare as the paths do
abbrev Ranked : Option Kept → Option Kept → Type 0
Ranked a b = IfSome a (λ kept. IfSome b (λ beside. nat_lt kept.rank beside.rank ≡ comes_before kept.path beside.path))

both_ways_round : (a b : Option Kept) → Ranked a b → Ranked b a → IfSome a (λ kept. IfSome b (λ beside. (kept.rank ≡ beside.rank) ↔ (kept.path ≡ beside.path)))
both_ways_round None b h k = tt
both_ways_round (Some kept) None h k = tt
both_ways_round (Some kept) (Some beside) h k = (
  λ same. comes_before-tells kept.path beside.path (sym h ∙ not_less kept.rank beside.rank same) (sym k ∙ not_less beside.rank kept.rank (sym same)),
  λ same. equal kept.rank beside.rank (h ∙ ap (λ word. comes_before word beside.path) same ∙ comes_before-irreflexive beside.path)
      (k ∙ ap (λ word. comes_before beside.path word) same ∙ comes_before-irreflexive beside.path),
)

pub returns : goal.returns
returns c costs paths size row labelled node other node_lt other_lt =
    both_ways_round _ _ (labelled.ranked node other node_lt other_lt) (labelled.ranked other node other_lt node_lt)
