-- Labels in the making stay labels with one layer more.
use Rattle.std.proofs.Common.{◌≡◌, ℕ, zero, suc, ◌+◌, ◌<◌, ◌≤◌, nat_lt, List, [], ◌∷◌, ◌++◌, length, All, take, drop, Option, Some, None, IfSome, option_map, unwrap_or, pos, refl, sym, ap, ◌∙◌, subst, ⊎_elim, filter, ◌&&◌, length-append, length-drop, arith}
use Rattle.std.specs.Prelude.{slice_index, slice_index_or}
use Rattle.std.proofs.lemmas.List.{length-take, drop_all}
use Rattle.std.proofs.lemmas.List.Elements.{All-nil, All-cons, All-append, All-drop}
use Rattle.pc_diagram.specs.declared.choice.Choice.{Choice}
use Rattle.pc_diagram.specs.declared.costs.CostPair.{CostPair}
use Rattle.pc_diagram.specs.declared.raw_diagram.RawDiagram.{RawDiagram}
use Rattle.pc_diagram.specs.declared.side.Side.TheVariants.{Heads, Tails}
use Rattle.pc_diagram.specs.declared.weight.Ranked.{Ranked}
use Rattle.pc_diagram.specs.declared.which.Which.TheVariants.{First, Second}
use Rattle.pc_diagram.specs.Choices.{value_of}
use Rattle.pc_diagram.specs.Costs.{no_cost, cost, cost_pair, pair_at, IsSum, IsPriced, IsPricePair}
use Rattle.pc_diagram.specs.Best.{best}
use Rattle.pc_diagram.specs.Paths.{accepts}
use Rattle.pc_diagram.specs.Words.{all_words}
use Rattle.pc_diagram.proofs.LevelLemmas.{drop-levels-end}
use Rattle.pc_diagram.specs.Diagram.{IsCanonical}
use Rattle.pc_diagram.specs.Levels.{level}
use Rattle.pc_diagram.specs.NodePaths.{is_head, is_tail, agrees, comes_before, heads, tails, AreCostsOf}
use Rattle.pc_diagram.specs.Weight.{plus_pair}
use Rattle.pc_diagram.proofs.CostLemmas.{cost-IsSum}
use Rattle.pc_diagram.proofs.LeastWords.{best-least}
use Rattle.pc_diagram.proofs.PathLemmas.{length-word}
use Rattle.pc_labels.specs.Growing.{marks_at, AreLinked, AreHeadsUpTo, AreTailsFrom}
use Rattle.pc_labels.specs.Kept.{Kept, kept_row, kept_start, kept_heads, kept_tails}
use Rattle.pc_labels.specs.Labels.{IsLabelled}
use Rattle.pc_labels.specs.Marks.{Marks, AreMarks, weight_at}
use Rattle.pc_labels.specs.Slots.{AreRanksAnew, HasRoom, going_on, coming_from}
use Rattle.pc_labels.specs.SoFar.{step_at, AreNextHeadsOf, AreNextTailsOf}
use Rattle.pc_labels.proofs.Extending.{weighed}
use Rattle.pc_labels.proofs.HeadsLayer.{heads-layer}
use Rattle.pc_labels.proofs.HeadsSoFar.{split}
use Rattle.pc_labels.proofs.KeptLemmas.{no_row, heads-next, heads-push, weighed-heads, width-heads, tails-next, weighed-tails, width-tails}
use Rattle.pc_labels.proofs.TailsLayer.{tails-layer}
use Rattle.pc_labels.proofs.LayerLemmas.{cost_at_end, cost_at_begin, nothing_more}
use Rattle.pc_labels.proofs.RankLemmas.{some_inside}
use Rattle.pc_labels.proofs.Reranked.{length-costs}

same_some : (x y : Ranked) → Some x ≡ Some y → x ≡ y
same_some x y e = ap (λ o. unwrap_or o x) e

-- a weight of ranks anew comes from one of old ranks
from_old : (old anew : Marks) → AreRanksAnew old anew → (node : ℕ) (s : Ranked) → weight_at anew node ≡ Some s → (r : Ranked) × (weight_at old node ≡ Some r)
from_old old anew h node s e = by (weight_at old node) refl (sym (h.pairs node) ∙ ap (option_map (λ (x : Ranked). x.pair)) e)
  where
    by : (w : Option Ranked) → weight_at old node ≡ w → option_map (λ (x : Ranked). x.pair) (weight_at old node) ≡ Some s.pair → (r : Ranked) × (weight_at old node ≡ Some r)
    by None f g = let no : None ≡ Some s.pair = sym (ap (option_map (λ (x : Ranked). x.pair)) f) ∙ g in absurd cc
    by (Some r) f g = (r, f)

-- what a step makes of a weight comes from a weight
from_some : (make : Ranked → Ranked) (w : Option Ranked) (r : Ranked) → option_map make w ≡ Some r → (s : Ranked) × (w ≡ Some s)
from_some make None r e = absurd cc
from_some make (Some s) r e = (s, refl)

-- the same marks stand where they stood
pub push-before : (layers : List Marks) (m : Marks) (k : ℕ) → k < length layers → marks_at (layers ++ m ∷ []) k ≡ marks_at layers k
push-before [] m k lt = absurd (omega arith)
push-before (n ∷ layers) m zero lt = refl
push-before (n ∷ layers) m (suc k) lt = push-before layers m k (omega arith)

pub push-last : (layers : List Marks) (m : Marks) (k : ℕ) → k ≡ length layers → marks_at (layers ++ m ∷ []) k ≡ m
push-last [] m zero e = refl
push-last [] m (suc k) e = absurd (omega arith)
push-last (n ∷ layers) m zero e = absurd (omega arith)
push-last (n ∷ layers) m (suc k) e = push-last layers m k (omega arith)

kept_inside : (row : List (Option Kept)) (node : ℕ) (kept : Kept) → slice_index_or row node None ≡ Some kept → node < length row
kept_inside [] node kept e = absurd cc
kept_inside (o ∷ row) zero kept e = omega arith
kept_inside (o ∷ row) (suc node) kept e = let rest = kept_inside row node kept e in omega (arith, rest)

-- the node where paths start keeps the empty one
start_labelled : (costs : List (List CostPair)) (paths : ℕ → List (List ℕ)) (size : ℕ) → size ≡ 1 → paths 0 ≡ [] ∷ [] → IsLabelled costs paths size (kept_start (Some (record { pair = no_cost; rank = 0 }) ∷ []))
start_labelled costs paths size one alone = record { nodes = sym one; best_path = path_of_start; priced = price_of_start; ranked = rank_of_start }
  where
    row : List (Option Kept)
    row = kept_start (Some (record { pair = no_cost; rank = 0 }) ∷ [])

    path_of_start : (node : ℕ) → node < size → option_map (λ (x : Kept). x.path) (slice_index_or (kept_start (Some (record { pair = no_cost; rank = 0 }) ∷ [])) node None) ≡ best costs (paths node)
    path_of_start zero lt = ap (best costs) (sym alone)
    path_of_start (suc node) lt = absurd (omega (arith, lt, one))

    price_of_start : (node : ℕ) → node < size → IfSome (slice_index_or (kept_start (Some (record { pair = no_cost; rank = 0 }) ∷ [])) node None) (λ x. x.pair ≡ cost_pair costs x.path)
    price_of_start zero lt = ap (λ z. record { first = z; second = pos 0 }) (sym (nothing_more costs First)) ∙ ap (λ z. record { first = cost costs First []; second = z }) (sym (nothing_more costs Second))
    price_of_start (suc node) lt = absurd (omega (arith, lt, one))

    rank_of_start : (node other : ℕ) → node < size → other < size →
        IfSome (slice_index_or (kept_start (Some (record { pair = no_cost; rank = 0 }) ∷ [])) node None) (λ x. IfSome (slice_index_or (kept_start (Some (record { pair = no_cost; rank = 0 }) ∷ [])) other None) (λ y. nat_lt x.rank y.rank ≡ comes_before x.path y.path))
    rank_of_start zero zero lt less = refl
    rank_of_start zero (suc other) lt less = absurd (omega (arith, less, one))
    rank_of_start (suc node) other lt less = absurd (omega (arith, lt, one))

-- costs from a variable on are in range too
priced_drop : (k : ℕ) (costs : List (List CostPair)) → IsPriced costs → IsPriced (drop k costs)
priced_drop k costs h = record { few = omega (arith, length-drop k costs, h.few); in_range = All-drop (All IsPricePair) k costs h.in_range }

module _ (raw : RawDiagram) (canonical : IsCanonical raw) (choices : List Choice) (costs : List (List CostPair)) (are : AreCostsOf raw.domains costs) where
  -- sums stay in range where heads go on
  pub heads-room : (k : ℕ) (layers : List Marks) → k < length raw.domains → AreHeadsUpTo raw choices costs k layers → HasRoom (marks_at layers k).weights (slice_index_or costs k [])
  heads-room k layers lt h node value r e =
      by (slice_index_or (slice_index_or (kept_heads layers) k no_row) node None) refl (weighed-heads layers h.marked k node ∙ e)
    where
      row : List (Option Kept)
      row = slice_index_or (kept_heads layers) k no_row

      by : (o : Option Kept) → slice_index_or (slice_index_or (kept_heads layers) k no_row) node None ≡ o → option_map weighed (slice_index_or (slice_index_or (kept_heads layers) k no_row) node None) ≡ Some r →
          IsSum (plus_pair r.pair (pair_at (slice_index_or costs k []) value)).first × IsSum (plus_pair r.pair (pair_at (slice_index_or costs k []) value)).second
      by None f g = let no : None ≡ Some r = sym (ap (option_map weighed) f) ∙ g in absurd cc
      by (Some kept) f g =
          let inside = kept_inside (slice_index_or (kept_heads layers) k no_row) node kept f in
          let here = h.labelled k (omega arith) in
          let within : node < slice_index raw.sizes k = omega (arith, inside, here.nodes) in
          let priced : kept.pair ≡ cost_pair costs kept.path = subst (λ o. IfSome o (λ x. x.pair ≡ cost_pair costs x.path)) f (here.priced node within) in
          let least = best-least costs (is_head raw choices k node) (take k raw.domains) kept.path (sym (here.best_path node within) ∙ ap (option_map (λ (x : Kept). x.path)) f) in
          let long : length kept.path ≡ k = length-word (take k raw.domains) kept.path least.over ∙ length-take k raw.domains ∙ (omega (arith, lt)) in
          let own : r ≡ weighed kept = same_some r (weighed kept) (sym g ∙ ap (option_map weighed) f) in
          let word = kept.path ++ value ∷ [] in
          let sum : cost_pair costs (kept.path ++ value ∷ []) ≡ plus_pair r.pair (pair_at (slice_index_or costs k []) value) =
          cost_at_end costs kept.path value (omega (arith, long, lt, length-costs raw.domains costs are)) ∙ ap (λ n. plus_pair (cost_pair costs kept.path) (pair_at (slice_index_or costs n []) value)) long
          ∙ ap (λ p. plus_pair p (pair_at (slice_index_or costs k []) value)) (sym priced) ∙ ap (λ x. plus_pair x.pair (pair_at (slice_index_or costs k []) value)) (sym own) in
          (subst IsSum (ap (λ p. p.first) sum) (cost-IsSum costs First (kept.path ++ value ∷ []) are.priced), subst IsSum (ap (λ p. p.second) sum) (cost-IsSum costs Second (kept.path ++ value ∷ []) are.priced))

  pub heads-nodes : (k : ℕ) (layers : List Marks) → AreHeadsUpTo raw choices costs k layers → length (marks_at layers k).weights ≡ slice_index raw.sizes k
  heads-nodes k layers h = sym (width-heads layers h.marked k) ∙ (h.labelled k (omega arith)).nodes

  pub heads-grow : (k : ℕ) (layers : List Marks) (m : Marks) → k < length raw.domains → AreHeadsUpTo raw choices costs k layers → AreMarks m → AreNextHeadsOf (level raw k) (value_of choices k) (slice_index_or costs k []) (marks_at layers k) m →
      AreHeadsUpTo raw choices costs (k + 1) (layers ++ m ∷ [])
  heads-grow k layers m lt h marks next = record {
    layers_made = length-append layers (m ∷ []) ∙ (omega (arith, h.layers_made));
    marked = All-append AreMarks layers (m ∷ []) h.marked (All-cons AreMarks m [] marks (All-nil AreMarks));
    labelled = λ layer le. ⊎_elim (λ less. labelled_before layer (omega (arith, less))) (λ e. subst (λ n. IsLabelled costs (heads raw choices n) (slice_index raw.sizes n) (slice_index_or (kept_heads (layers ++ m ∷ [])) n no_row)) (sym e) labelled_last) (split layer (k + 1) (omega (arith, le)));
    joined = λ layer less. joined_at layer less;
  }
    where
      anew : Marks
      anew = next.0

      labelled_before : (layer : ℕ) → layer ≤ k → IsLabelled costs (heads raw choices layer) (slice_index raw.sizes layer) (slice_index_or (kept_heads (layers ++ m ∷ [])) layer no_row)
      labelled_before layer le = subst (IsLabelled costs (heads raw choices layer) (slice_index raw.sizes layer)) (sym (heads-push layers m layer (omega (arith, le, h.layers_made)))) (h.labelled layer le)

      last_row : slice_index_or (kept_heads (layers ++ m ∷ [])) (k + 1) no_row ≡ kept_row Heads (slice_index_or (kept_heads layers) k no_row) m.weights m.steps
      last_row =
          heads-next (layers ++ m ∷ []) k (omega (arith, length-append layers (m ∷ []), h.layers_made))
          ∙ ap (λ r. kept_row Heads r (marks_at (layers ++ m ∷ []) (k + 1)).weights (marks_at (layers ++ m ∷ []) (k + 1)).steps) (heads-push layers m k (omega (arith, h.layers_made)))
          ∙ ap (λ n. kept_row Heads (slice_index_or (kept_heads layers) k no_row) n.weights n.steps) (push-last layers m (k + 1) (omega (arith, h.layers_made)))

      labelled_last : IsLabelled costs (heads raw choices (k + 1)) (slice_index raw.sizes (k + 1)) (slice_index_or (kept_heads (layers ++ m ∷ [])) (k + 1) no_row)
      labelled_last = subst (IsLabelled costs (heads raw choices (k + 1)) (slice_index raw.sizes (k + 1))) (sym last_row)
          (heads-layer raw canonical choices k lt costs are (slice_index_or (kept_heads layers) k no_row) (marks_at layers k) next.0 m (h.labelled k (omega arith)) (weighed-heads layers h.marked k) next.1 next.2.ranks next.2 marks.steps)

      linked_last : AreLinked m (marks_at layers k)
      linked_last node r e =
          let within : node < slice_index raw.sizes (k + 1) = let t = some_inside m.weights node r e in omega (arith, t, next.2.nodes) in
          let offered = (next.2.least node within).offered (λ none. let no : Some r ≡ None = sym e ∙ none in absurd cc) in
          let s = from_some (going_on (level raw k).domain (slice_index_or costs k []) (step_at m node).value) (weight_at next.0 (step_at m node).node) r (offered.1 ∙ e) in
          from_old (marks_at layers k) next.0 next.1 (step_at m node).node s.0 s.1

      joined_at : (layer : ℕ) → layer + 1 < length (layers ++ m ∷ []) → AreLinked (marks_at (layers ++ m ∷ []) (layer + 1)) (marks_at (layers ++ m ∷ []) layer)
      joined_at layer less = ⊎_elim
          (λ lower. subst (λ a. AreLinked a (marks_at (layers ++ m ∷ []) layer)) (sym (push-before layers m (layer + 1) (omega (arith, lower, h.layers_made))))
          (subst (λ b. AreLinked (marks_at layers (layer + 1)) b) (sym (push-before layers m layer (omega (arith, lower, h.layers_made)))) (h.joined layer (omega (arith, lower, h.layers_made)))))
          (λ e. subst (λ n. AreLinked (marks_at (layers ++ m ∷ []) (n + 1)) (marks_at (layers ++ m ∷ []) n)) (sym e)
          (subst (λ a. AreLinked a (marks_at (layers ++ m ∷ []) k)) (sym (push-last layers m (k + 1) (omega (arith, h.layers_made))))
          (subst (λ b. AreLinked m b) (sym (push-before layers m k (omega (arith, h.layers_made)))) linked_last)))
          (split layer k (omega (arith, less, length-append layers (m ∷ []), h.layers_made)))

  pub heads-begin : (m : Marks) → m.weights ≡ Some (record { pair = no_cost; rank = 0 }) ∷ [] → AreMarks m → AreHeadsUpTo raw choices costs 0 (m ∷ [])
  heads-begin m e marks = record {
    layers_made = refl;
    marked = All-cons AreMarks m [] marks (All-nil AreMarks);
    labelled = λ layer le. subst (λ n. IsLabelled costs (heads raw choices n) (slice_index raw.sizes n) (slice_index_or (kept_heads (m ∷ [])) n no_row)) (let z : 0 ≡ layer = omega (arith, le) in z) at_root;
    joined = λ layer less. absurd (omega (arith, less));
  }
    where
      at_root : IsLabelled costs (heads raw choices 0) (slice_index raw.sizes 0) (kept_start m.weights)
      at_root = subst (λ ws. IsLabelled costs (heads raw choices 0) (slice_index raw.sizes 0) (kept_start ws)) (sym e)
          (start_labelled costs (heads raw choices 0) (slice_index raw.sizes 0) canonical.shape.root refl)

  -- sums stay in range where tails are come to
  pub tails-room : (k : ℕ) (layers : List Marks) → k < length raw.domains → AreTailsFrom raw choices costs (k + 1) layers → HasRoom (marks_at layers 0).weights (slice_index_or costs k [])
  tails-room k layers lt h node value r e =
      by (slice_index_or (slice_index_or (kept_tails layers) 0 no_row) node None) refl (weighed-tails layers h.marked 0 node ∙ e)
    where
      by : (o : Option Kept) → slice_index_or (slice_index_or (kept_tails layers) 0 no_row) node None ≡ o → option_map weighed (slice_index_or (slice_index_or (kept_tails layers) 0 no_row) node None) ≡ Some r →
          IsSum (plus_pair r.pair (pair_at (slice_index_or costs k []) value)).first × IsSum (plus_pair r.pair (pair_at (slice_index_or costs k []) value)).second
      by None f g = let no : None ≡ Some r = sym (ap (option_map weighed) f) ∙ g in absurd cc
      by (Some kept) f g =
          let inside = kept_inside (slice_index_or (kept_tails layers) 0 no_row) node kept f in
          let zero_more : (k + 1) + 0 ≡ k + 1 = omega arith in
          let here : IsLabelled (drop (k + 1) costs) (tails raw choices (k + 1)) (slice_index raw.sizes (k + 1)) (slice_index_or (kept_tails layers) 0 no_row) =
          subst (λ n. IsLabelled (drop n costs) (tails raw choices n) (slice_index raw.sizes n) (slice_index_or (kept_tails layers) 0 no_row)) zero_more (h.labelled 0 (omega (arith, lt))) in
          let within : node < slice_index raw.sizes (k + 1) = omega (arith, inside, here.nodes) in
          let priced : kept.pair ≡ cost_pair (drop (k + 1) costs) kept.path = subst (λ o. IfSome o (λ x. x.pair ≡ cost_pair (drop (k + 1) costs) x.path)) f (here.priced node within) in
          let own : r ≡ weighed kept = same_some r (weighed kept) (sym g ∙ ap (option_map weighed) f) in
          let sum : cost_pair (drop k costs) (value ∷ kept.path) ≡ plus_pair r.pair (pair_at (slice_index_or costs k []) value) =
          cost_at_begin costs k kept.path value (omega (arith, lt, length-costs raw.domains costs are))
          ∙ ap (λ p. plus_pair p (pair_at (slice_index_or costs k []) value)) (sym priced) ∙ ap (λ x. plus_pair x.pair (pair_at (slice_index_or costs k []) value)) (sym own) in
          (subst IsSum (ap (λ p. p.first) sum) (cost-IsSum (drop k costs) First (value ∷ kept.path) (priced_drop k costs are.priced)), subst IsSum (ap (λ p. p.second) sum) (cost-IsSum (drop k costs) Second (value ∷ kept.path) (priced_drop k costs are.priced)))

  pub tails-nodes : (k : ℕ) (layers : List Marks) → k < length raw.domains → AreTailsFrom raw choices costs (k + 1) layers → length (marks_at layers 0).weights ≡ slice_index raw.sizes (k + 1)
  tails-nodes k layers lt h = let zero_more : (k + 1) + 0 ≡ k + 1 = omega arith in sym (width-tails layers h.marked 0) ∙ (h.labelled 0 (omega (arith, lt))).nodes ∙ ap (slice_index raw.sizes) zero_more

  pub tails-grow : (k : ℕ) (layers : List Marks) (m : Marks) → k < length raw.domains → AreTailsFrom raw choices costs (k + 1) layers → AreMarks m → AreNextTailsOf (level raw k) (value_of choices k) (slice_index_or costs k []) (marks_at layers 0) m →
      AreTailsFrom raw choices costs k (m ∷ layers)
  tails-grow k layers m lt h marks next = record {
    layers_made = omega (arith, h.layers_made);
    marked = All-cons AreMarks m layers marks h.marked;
    labelled = labelled_at;
    joined = joined_at;
  }
    where
      some_layers : 0 < length layers
      some_layers = omega (arith, h.layers_made, lt)

      zero_more : (k + 1) + 0 ≡ k + 1
      zero_more = omega arith

      none_more : k + 0 ≡ k
      none_more = omega arith

      here : IsLabelled (drop (k + 1) costs) (tails raw choices (k + 1)) (slice_index raw.sizes (k + 1)) (slice_index_or (kept_tails layers) 0 no_row)
      here = subst (λ n. IsLabelled (drop n costs) (tails raw choices n) (slice_index raw.sizes n) (slice_index_or (kept_tails layers) 0 no_row)) zero_more (h.labelled 0 (omega (arith, lt)))

      first_row : slice_index_or (kept_tails (m ∷ layers)) 0 no_row ≡ kept_row Tails (slice_index_or (kept_tails layers) 0 no_row) m.weights m.steps
      first_row = tails-next (m ∷ layers) 0 (omega (arith, some_layers))

      labelled_at : (layer : ℕ) → k + layer ≤ length raw.domains → IsLabelled (drop (k + layer) costs) (tails raw choices (k + layer)) (slice_index raw.sizes (k + layer)) (slice_index_or (kept_tails (m ∷ layers)) layer no_row)
      labelled_at zero le = subst (λ n. IsLabelled (drop n costs) (tails raw choices n) (slice_index raw.sizes n) (slice_index_or (kept_tails (m ∷ layers)) 0 no_row)) (sym none_more)
          (subst (IsLabelled (drop k costs) (tails raw choices k) (slice_index raw.sizes k)) (sym first_row)
          (tails-layer raw canonical choices k lt costs are (slice_index_or (kept_tails layers) 0 no_row) (marks_at layers 0) next.0 m here (weighed-tails layers h.marked 0) next.1 next.2.ranks next.2 marks.steps))
      labelled_at (suc layer) le =
          let one : (k + 1) + layer ≡ k + suc layer = omega arith in
          subst (λ n. IsLabelled (drop n costs) (tails raw choices n) (slice_index raw.sizes n) (slice_index_or (kept_tails layers) layer no_row)) one (h.labelled layer (omega (arith, le)))

      linked_first : AreLinked m (marks_at layers 0)
      linked_first node r e =
          let within : node < slice_index raw.sizes k = let t = some_inside m.weights node r e in omega (arith, t, next.2.nodes) in
          let offered = (next.2.least node within).offered (λ none. let no : Some r ≡ None = sym e ∙ none in absurd cc) in
          let s = from_some (coming_from next.0.limit (slice_index_or costs k []) (step_at m node).value) (weight_at next.0 (step_at m node).node) r (offered.1 ∙ e) in
          from_old (marks_at layers 0) next.0 next.1 (step_at m node).node s.0 s.1

      joined_at : (layer : ℕ) → layer + 1 < length (m ∷ layers) → AreLinked (marks_at (m ∷ layers) layer) (marks_at (m ∷ layers) (layer + 1))
      joined_at zero less = linked_first
      joined_at (suc layer) less = let one : suc (layer + 1) ≡ suc layer + 1 = omega arith in subst (λ n. AreLinked (marks_at layers layer) (marks_at (m ∷ layers) n)) one (h.joined layer (omega (arith, less)))

  pub tails-begin : (m : Marks) → m.weights ≡ Some (record { pair = no_cost; rank = 0 }) ∷ [] → AreMarks m → AreTailsFrom raw choices costs (length raw.domains) (m ∷ [])
  tails-begin m e marks = record {
    layers_made = omega arith;
    marked = All-cons AreMarks m [] marks (All-nil AreMarks);
    labelled = labelled_at;
    joined = λ layer less. absurd (omega (arith, less));
  }
    where
      none_more : length raw.domains + 0 ≡ length raw.domains
      none_more = omega arith

      paths : tails raw choices (length raw.domains) 0 ≡ [] ∷ []
      paths =
          ap (λ ds. filter (is_tail raw choices (length raw.domains) 0) (all_words ds)) (drop_all (length raw.domains) raw.domains (omega arith))
          ∙ ap (λ ls. filter (λ word. accepts ls (Some 0) word && agrees choices (length raw.domains) word) ([] ∷ [])) (drop-levels-end raw (length raw.domains) (omega arith))

      at_end : IsLabelled (drop (length raw.domains) costs) (tails raw choices (length raw.domains)) (slice_index raw.sizes (length raw.domains)) (kept_start m.weights)
      at_end = subst (λ ws. IsLabelled (drop (length raw.domains) costs) (tails raw choices (length raw.domains)) (slice_index raw.sizes (length raw.domains)) (kept_start ws)) (sym e)
          (start_labelled (drop (length raw.domains) costs) (tails raw choices (length raw.domains)) (slice_index raw.sizes (length raw.domains)) canonical.shape.terminal paths)

      labelled_at : (layer : ℕ) → length raw.domains + layer ≤ length raw.domains → IsLabelled (drop (length raw.domains + layer) costs) (tails raw choices (length raw.domains + layer)) (slice_index raw.sizes (length raw.domains + layer)) (slice_index_or (kept_tails (m ∷ [])) layer no_row)
      labelled_at zero le = subst (λ n. IsLabelled (drop n costs) (tails raw choices n) (slice_index raw.sizes n) (kept_start m.weights)) (sym none_more) at_end
      labelled_at (suc layer) le = absurd (omega (arith, le))
