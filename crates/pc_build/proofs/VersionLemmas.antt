-- What the facts of a version say: its nodes are counted by the rests of its file's words, its costs are those of its
-- diagram's values, and what is listed over it is what is listed over its file.
use Rattle.std.proofs.Common.{◌≡◌, ℕ, nat_eq, Bool, true, false, ◌&&◌, List, [], ◌∷◌, length, map, take, drop, refl, sym, ap, ◌∙◌, subst, arith}
use Rattle.std.specs.Cmp.Lexicographic.{pointwise}
use Rattle.std.specs.List.{list_any}
use Rattle.std.proofs.lemmas.List.{length-map}
use Rattle.pc_diagram.specs.declared.bounds.Bounds.{Bounds}
use Rattle.pc_diagram.specs.declared.choice.Choice.{Choice}
use Rattle.pc_diagram.specs.declared.costs.CostPair.{CostPair}
use Rattle.pc_diagram.specs.declared.raw_diagram.RawDiagram.{RawDiagram}
use Rattle.pc_diagram.specs.Diagram.{IsCanonical}
use Rattle.pc_diagram.specs.Listing.{listing}
use Rattle.pc_diagram.specs.NodePaths.{AreCostsOf}
use Rattle.pc_diagram.specs.Paths.{has_word, words}
use Rattle.pc_diagram.specs.Rests.{rest_count}
use Rattle.pc_diagram.specs.Words.{is_word}
use Rattle.pc_diagram.proofs.CountLemmas.{layer_counted}
use Rattle.pc_diagram.proofs.EqualWords.{over_domains, some_words}
use Rattle.pc_diagram.proofs.WordLemmas.{kept_words-is}
use Rattle.pc_file.specs.declared.variable.Variable.{Variable}
use Rattle.pc_file.specs.Contents.{Contents}
use Rattle.pc_file.specs.Costs.{pair_of, costs_of, file_listing}
use Rattle.pc_file.specs.Full.{full_domains, full, is_full}
use Rattle.pc_file.specs.Limits.{IsFile}
use Rattle.pc_file.specs.Products.{value_counts}
use Rattle.pc_file.proofs.CostLemmas.{priced}
use Rattle.pc_build.specs.Building.{HasNodeForEachRest}

-- the words of a diagram are those along its paths
listed : (raw : RawDiagram) (word : List ℕ) → list_any (pointwise nat_eq word) (words raw) ≡ has_word raw word
listed raw word = kept_words-is (has_word raw) raw.domains word ∙ by (has_word raw word) refl
  where
    by : (b : Bool) → has_word raw word ≡ b → (has_word raw word && is_word raw.domains word) ≡ has_word raw word
    by true e = (λ i. e i && over_domains raw word e i) ∙ sym e
    by false e = ap (λ b. b && is_word raw.domains word) e ∙ sym e

pub node_for_each_rest : (file : Contents) (raw : RawDiagram) → IsCanonical raw → raw.domains ≡ full_domains file → words raw ≡ full file → HasNodeForEachRest file raw
node_for_each_rest file raw canonical domains same layer le =
    layer_counted raw canonical layer (let e = ap length domains in omega arith)
    ∙ (λ i. rest_count (λ word. alike word i) (take layer (domains i)) (drop layer (domains i)))
  where
    alike : (word : List ℕ) → has_word raw word ≡ is_full file word
    alike word = sym (listed raw word) ∙ ap (list_any (pointwise nat_eq word)) same

pub some_full : (file : Contents) (raw : RawDiagram) → IsCanonical raw → words raw ≡ full file → full file ≡ [] → ⊥
some_full file raw canonical same none = some_words raw canonical (same ∙ none)

-- what is listed over the words and the costs of a version is what is listed over its file
pub listing_of_version : (file : Contents) (products : List (List ℕ)) (costs : List (List CostPair)) (choices : List Choice) (bounds : Bounds) → products ≡ full file → costs ≡ costs_of file.variables → listing costs products choices bounds ≡ file_listing file choices bounds
listing_of_version file products costs choices bounds same are_costs = (λ i. listing (are_costs i) (same i) choices bounds)

pairs : (variables : List Variable) → map length (costs_of variables) ≡ value_counts variables
pairs [] = refl
pairs (variable ∷ variables) = (λ i. length-map variable.values pair_of i ∷ pairs variables i)

-- the costs of a version are those of its diagram's values
pub costs_of_version : (file : Contents) (domains : List ℕ) (costs : List (List CostPair)) → IsFile file → domains ≡ full_domains file → costs ≡ costs_of file.variables → AreCostsOf domains costs
costs_of_version file domains costs limits are_domains are_costs =
    subst (λ ds. AreCostsOf ds costs) (sym are_domains)
    (subst (AreCostsOf (full_domains file)) (sym are_costs)
    (record { pairs = pairs file.variables; priced = priced (length file.costs) file.variables limits.variables_at_most limits.each_variable }))
