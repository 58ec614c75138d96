-- What is kept of a layer, with other ranks that compare as its own do.
use Rattle.std.proofs.Common.{◌≡◌, ℕ, zero, suc, nat_lt, List, [], ◌∷◌, length, Option, Some, None, IfSome, option_map, unwrap_or, refl, sym, ap, ◌∙◌, arith}
use Rattle.std.specs.Prelude.{slice_index_or}
use Rattle.pc_diagram.specs.declared.costs.CostPair.{CostPair}
use Rattle.pc_diagram.specs.declared.weight.Ranked.{Ranked}
use Rattle.pc_diagram.specs.Costs.{cost_pair}
use Rattle.pc_diagram.specs.NodePaths.{comes_before}
use Rattle.std.proofs.lemmas.List.{length-map}
use Rattle.pc_diagram.specs.declared.side.Side.{Side}
use Rattle.pc_diagram.specs.NodePaths.{AreCostsOf}
use Rattle.pc_labels.specs.declared.step.Step.{Step}
use Rattle.pc_labels.specs.Kept.{Kept, path_of, kept_by, kept_row}
use Rattle.pc_labels.specs.Labels.{IsLabelled}
use Rattle.pc_labels.specs.Marks.{Marks, weight_at}
use Rattle.pc_labels.specs.Slots.{AreRanksAnew}
use Rattle.pc_labels.proofs.Extending.{AreKept, weighed}

-- what is kept, with the rank of another weight
abbrev pub reranked : Option Kept → Option Ranked → Option Kept
reranked None weight = None
reranked (Some kept) None = None
reranked (Some kept) (Some r) = Some (record { pair = kept.pair; rank = r.rank; path = kept.path })

-- the same costs, or neither
abbrev HasPairs : Option Kept → Option Ranked → Type 0
HasPairs kept weight = option_map (λ (r : Ranked). r.pair) weight ≡ option_map (λ (k : Kept). k.pair) kept

pair_within : (kept : Option Kept) (old anew : Option Ranked) → option_map weighed kept ≡ old → option_map (λ (r : Ranked). r.pair) anew ≡ option_map (λ (r : Ranked). r.pair) old → HasPairs kept anew
pair_within kept old anew e f = f ∙ ap (option_map (λ (r : Ranked). r.pair)) (sym e) ∙ by kept
  where
    by : (o : Option Kept) → option_map (λ (r : Ranked). r.pair) (option_map weighed o) ≡ option_map (λ (k : Kept). k.pair) o
    by None = refl
    by (Some k) = refl

-- the path stays
path_stays : (kept : Option Kept) (weight : Option Ranked) → HasPairs kept weight → option_map (λ (k : Kept). k.path) (reranked kept weight) ≡ option_map (λ (k : Kept). k.path) kept
path_stays None weight h = refl
path_stays (Some kept) None h = absurd cc
path_stays (Some kept) (Some r) h = refl

pub path_of-stays : (kept : Option Kept) (weight : Option Ranked) → HasPairs kept weight → path_of (reranked kept weight) ≡ path_of kept
path_of-stays None weight h = refl
path_of-stays (Some kept) None h = absurd cc
path_of-stays (Some kept) (Some r) h = refl

-- its weight is the other one
pub weighed-reranked : (kept : Option Kept) (weight : Option Ranked) → HasPairs kept weight → option_map weighed (reranked kept weight) ≡ weight
weighed-reranked None None h = refl
weighed-reranked None (Some r) h = absurd cc
weighed-reranked (Some kept) None h = absurd cc
weighed-reranked (Some kept) (Some r) h = let same : Some r.pair ≡ Some kept.pair = h in ap (λ p. Some (record { pair = p; rank = r.rank })) (sym (ap (λ o. unwrap_or o r.pair) same))

module _ (costs : List (List CostPair)) (paths : ℕ → List (List ℕ)) (size : ℕ) (row : List (Option Kept)) (old anew : Marks)
    (labelled : IsLabelled costs paths size row) (weighs : (node : ℕ) → option_map weighed (slice_index_or row node None) ≡ weight_at old node) (ranks : AreRanksAnew old anew) where
  abbrev pub now : ℕ → Option Kept
  now node = reranked (slice_index_or row node None) (weight_at anew node)

  pub pairs : (node : ℕ) → option_map (λ (r : Ranked). r.pair) (weight_at anew node) ≡ option_map (λ (k : Kept). k.pair) (slice_index_or row node None)
  pairs node = pair_within (slice_index_or row node None) (weight_at old node) (weight_at anew node) (weighs node) (ranks.pairs node)

  pub are_kept : AreKept costs paths size (λ node. reranked (slice_index_or row node None) (weight_at anew node))
  are_kept = record {
    best_path = λ node lt. path_stays (slice_index_or row node None) (weight_at anew node) (pairs node) ∙ labelled.best_path node lt;
    priced = λ node lt. priced_by (slice_index_or row node None) (weight_at anew node) (labelled.priced node lt);
    ranked = λ node other lt less. ranked_by node other (slice_index_or row node None) (slice_index_or row other None) (weight_at anew node) (weight_at anew other) refl refl refl refl (labelled.ranked node other lt less);
  }
    where
      priced_by : (o : Option Kept) (w : Option Ranked) → IfSome o (λ k. k.pair ≡ cost_pair costs k.path) → IfSome (reranked o w) (λ k. k.pair ≡ cost_pair costs k.path)
      priced_by None w h = tt
      priced_by (Some k) None h = tt
      priced_by (Some k) (Some r) h = h

      ranked_by : (node other : ℕ) (o p : Option Kept) (w v : Option Ranked) → slice_index_or row node None ≡ o → slice_index_or row other None ≡ p → weight_at anew node ≡ w → weight_at anew other ≡ v →
          IfSome o (λ k. IfSome p (λ b. nat_lt k.rank b.rank ≡ comes_before k.path b.path)) → IfSome (reranked o w) (λ k. IfSome (reranked p v) (λ b. nat_lt k.rank b.rank ≡ comes_before k.path b.path))
      ranked_by node other None p w v e f g i h = tt
      ranked_by node other (Some k) p None v e f g i h = tt
      ranked_by node other (Some k) None (Some r) v e f g i h = tt
      ranked_by node other (Some k) (Some b) (Some r) None e f g i h = tt
      ranked_by node other (Some k) (Some b) (Some r) (Some s) e f g i h =
          ranks.order node other (weighed k) (weighed b) r s (sym (weighs node) ∙ ap (option_map weighed) e) g (sym (weighs other) ∙ ap (option_map weighed) f) i ∙ h

pub twice : {X Y Z : Type 0} (f : X → Y) (g : Y → Z) (o : Option X) → option_map g (option_map f o) ≡ option_map (λ x. g (f x)) o
twice f g None = refl
twice f g (Some x) = refl

-- what a row keeps of a node
pub kept_row-at : (side : Side) (before : List (Option Kept)) (weights : List (Option Ranked)) (steps : List Step) (node : ℕ) (d : Step) → length steps ≡ length weights →
    slice_index_or (kept_row side before weights steps) node None ≡ kept_by side before (slice_index_or weights node None) (slice_index_or steps node d)
kept_row-at side before [] steps node d same = refl
kept_row-at side before (w ∷ ws) [] node d same = absurd (omega arith)
kept_row-at side before (w ∷ ws) (s ∷ ss) zero d same = refl
kept_row-at side before (w ∷ ws) (s ∷ ss) (suc node) d same = kept_row-at side before ws ss node d (omega arith)

pub length-kept_row : (side : Side) (before : List (Option Kept)) (weights : List (Option Ranked)) (steps : List Step) → length steps ≡ length weights → length (kept_row side before weights steps) ≡ length weights
length-kept_row side before [] steps same = refl
length-kept_row side before (w ∷ ws) [] same = absurd (omega arith)
length-kept_row side before (w ∷ ws) (s ∷ ss) same = ap suc (length-kept_row side before ws ss (omega arith))

pub length-costs : (domains : List ℕ) (costs : List (List CostPair)) → AreCostsOf domains costs → length costs ≡ length domains
length-costs domains costs h = sym (length-map costs length) ∙ ap length h.pairs
