-- Where the fronts of a version's diagram have too many pairs, the words of its file tell.
use Rattle.std.proofs.Common.{◌≡◌, ℕ, ℤ, nat_eq, List, length, Option, None, Some, option_map, refl, sym, ap, ◌∙◌}
use Rattle.std.specs.Cmp.Lexicographic.{pointwise}
use Rattle.std.specs.List.{list_any}
use Rattle.std.specs.Option.{option_or}
use Rattle.std.specs.Prelude.{is_some, if◌then◌else◌}
use Rattle.pc_diagram.specs.declared.bounds.Bounds.{Bounds}
use Rattle.pc_diagram.specs.declared.choice.Choice.{Choice}
use Rattle.pc_diagram.specs.declared.costs.CostPair.{CostPair}
use Rattle.pc_diagram.specs.declared.raw_diagram.RawDiagram.{RawDiagram}
use Rattle.pc_diagram.specs.declared.side.Side.{Side}
use Rattle.pc_diagram.specs.declared.side.Side.TheVariants.{Heads, Tails}
use Rattle.pc_diagram.specs.Diagram.{IsCanonical}
use Rattle.pc_diagram.specs.Paths.{has_word, words}
use Rattle.pc_diagram.proofs.EqualWords.{word_accepted}
use Rattle.pc_pareto.specs.declared.limits.TheConstants.{MOST_LABELS}
use Rattle.pc_pareto.specs.Fronts.{layer_at}
use Rattle.pc_pareto.specs.WordFronts.{word_limit_at}
use Rattle.pc_pareto.proofs.WordFrontLemmas.{limits_agree}
use Rattle.pc_file.specs.Contents.{Contents}
use Rattle.pc_file.specs.Costs.{costs_of}
use Rattle.pc_file.specs.Full.{full, full_domains, is_full}
use Rattle.pc_calls.specs.LabelLimit as calls
use Rattle.pc_domains.specs.LabelLimits as boards

module _ (file : Contents) (raw : RawDiagram) (canonical : IsCanonical raw) (domains : raw.domains ≡ full_domains file) (same : words raw ≡ full file)
    (costs : List (List CostPair)) (priced : costs ≡ costs_of file.variables) where
  alike : (word : List ℕ) → has_word raw word ≡ is_full file word
  alike word = sym (word_accepted raw word) ∙ ap (list_any (pointwise nat_eq word)) same

  side_of_file : (choices : List Choice) (side : Side) → boards.side_limit MOST_LABELS raw costs choices side ≡ calls.limit_of_side MOST_LABELS file choices side
  side_of_file choices side =
      ap (λ l. option_map (λ distance. (side, layer_at side (length raw.domains) distance)) l) (sym (limits_agree raw canonical costs choices MOST_LABELS side))
      ∙ (λ i. option_map (λ distance. (side, layer_at side (length (domains i)) distance)) (word_limit_at MOST_LABELS side (λ word. alike word i) (domains i) (priced i) choices))

  pub limit_of_file : (choices : List Choice) (bounds : Bounds) → boards.limit_under raw costs choices bounds.second ≡ calls.label_limit file choices bounds
  unfolding calls.label_limit
  limit_of_file choices bounds = by bounds.second
    where
      by : (second : Option ℤ) → boards.limit_under raw costs choices second ≡ (if is_some second then calls.first_limit MOST_LABELS file choices else None)
      by None = refl
      by (Some bound) = (λ i. option_or (side_of_file choices Heads i) (side_of_file choices Tails i))
