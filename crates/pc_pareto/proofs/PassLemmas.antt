-- The pass over a diagram, from the end of a side, one layer after the other.
use Rattle.std.proofs.Common.{◌≡◌, ℕ, zero, suc, ◌+◌, ◌-◌, ◌*◌, ◌<◌, ◌≤◌, nat_lt, ◌==◌, Bool, true, false, cond, option_map, find, IfSome, List, [], ◌∷◌, ◌++◌, length, get_or, map, sum, sum_by, take, drop, Option, Some, All, Contains, ◌↔◌, ◌⊎◌, inl, inr, refl, sym, ◌∙◌, ap, subst, arith}
use Rattle.std.specs.List.{range_with_len}
use Rattle.std.proofs.lemmas.Bool.{cases_order}
use Rattle.std.proofs.lemmas.Bool.Decides.{nat_tests}
use Rattle.std.proofs.lemmas.List.{get_or-map, get_or_default, get_or_past, length-drop, get_or_push, get_or_append_left, length_push}
use Rattle.std.proofs.lemmas.List.Elements.{All-head, All-tail, All-drop, All-get_or, Contains-get_or}
use Rattle.std.proofs.lemmas.List.FromFn.{get_or-map-range_with_len, length-map-range_with_len}
use Rattle.std.proofs.lemmas.List.Sums.{sum_by-cons, sum_by_more, sum_by_more_le}
use Rattle.pc_diagram.specs.declared.choice.Choice.{Choice}
use Rattle.pc_diagram.specs.declared.costs.CostPair.{CostPair}
use Rattle.pc_diagram.specs.declared.raw_diagram.RawDiagram.{RawDiagram}
use Rattle.pc_diagram.specs.declared.side.Side.{Side}
use Rattle.pc_diagram.specs.declared.side.Side.TheVariants.{Heads, Tails}
use Rattle.pc_diagram.specs.Choices.{value_of}
use Rattle.pc_diagram.specs.declared.which.Which.TheVariants.{First, Second}
use Rattle.pc_diagram.specs.Costs.{IsPricePair, IsPriced, IsSum}
use Rattle.pc_diagram.specs.Diagram.{IsCanonical}
use Rattle.pc_diagram.specs.Levels.{Level, level}
use Rattle.pc_diagram.specs.NodePaths.{AreCostsOf, IsChoiceOf, comes_before, is_head, is_tail}
use Rattle.pc_pareto.specs.declared.arrival.Arrival.{Arrival}
use Rattle.pc_pareto.specs.declared.front_item.FrontItem.{FrontItem}
use Rattle.pc_pareto.specs.declared.front_fault.FrontFault.{FrontFault}
use Rattle.pc_pareto.specs.declared.front_fault.FrontFault.TheVariants.{LabelLimit, NoMemory}
use Rattle.pc_pareto.specs.Bounds.{IsSmall, IsSmallNode, IsScaleOf, IsScaleWithin}
use Rattle.pc_pareto.specs.Faults.{IsFaultAt}
use Rattle.pc_pareto.specs.Numbered.{with_rank, IsNumbered}
use Rattle.pc_pareto.specs.Arrivals.{IsArrival, target_count, variable_at}
use Rattle.pc_pareto.specs.declared.limits.TheConstants.{MOST_LABELS, MOST_RANKS}
use Rattle.pc_diagram.specs.declared.limits.TheConstants.{MOST_VALUES}
use Rattle.pc_pareto.specs.Front.{Falls}
use Rattle.pc_pareto.specs.Fronts.{words_of, pair_of_word, front_of_node, layer_size, layer_at, sizes_from, extended, no_item, item_at, word_at}
use Rattle.pc_pareto.specs.Items.{pair_of}
use Rattle.pc_pareto.specs.Pass.{StageFacts, WordAt, pairs_at, IsPass}
use Rattle.pc_pareto.specs.Stages.{AreStageOf, front_size, stage_size}
use Rattle.pc_pareto.proofs.SideLemmas.{words_in, in_words, head_into, head_from, head_length, tail_into, tail_from, tail_length, target_inside, head_cost, tail_cost}
use Rattle.pc_pareto.proofs.StageLemmas.{in_range, IsStep, IsScaleFor, in_map, of_map, next_facts, offered_front, size_is}
use Rattle.pc_diagram.proofs.CostLemmas.{cost-IsSum}

abbrev pub Arrive : Side → Level → Option ℕ → ℕ → List (List Arrival) → Type 0
Arrive side l chosen nodes lists = (node : ℕ) (a : Arrival) → node < length lists → Contains (get_or lists node []) a ↔ IsArrival side l chosen nodes node a

module _ (raw : RawDiagram) (can : IsCanonical raw) (costs : List (List CostPair)) (priced : AreCostsOf raw.domains costs) (choices : List Choice) where
  length_lengths : (cs : List (List CostPair)) → length (map length cs) ≡ length cs
  length_lengths [] = refl
  length_lengths (c ∷ cs) = ap suc (length_lengths cs)

  pub costs_count : length costs ≡ length raw.domains
  costs_count = sym (length_lengths costs) ∙ ap length priced.pairs

  pub row_length : (v : ℕ) → v < length raw.domains → length (get_or costs v []) ≡ get_or raw.domains v 0
  row_length v lt =
      let l : v < length costs = let e = costs_count in omega arith in
      sym (get_or-map length costs v [] 0 l) ∙ ap (λ ds. get_or ds v 0) priced.pairs

  heads_step : (d : ℕ) (lt : d < length raw.domains) (scale : ℕ) (before : List (List FrontItem)) (lists : List (List Arrival)) → length before ≡ get_or raw.sizes d 0 → Arrive Heads (level raw d) (value_of choices d) (get_or raw.sizes d 0) lists
      → IsStep Heads scale (get_or costs d []) before lists (WordAt Heads raw choices d) (WordAt Heads raw choices (d + 1)) (pairs_at Heads raw costs d) (pairs_at Heads raw costs (d + 1)) d
  heads_step d lt scale before lists sizes arrive = record {
    into = λ t a w c h.
        let k = words_in (is_head raw choices d a.node) (take d raw.domains) w h in
        let r = head_into raw can choices d lt a t w ((arrive t a (in_range lists t a c)).0 c) k in
        in_words (is_head raw choices (d + 1) t) (take (d + 1) raw.domains) (extended Heads a.value w) r.0 r.1;
    from = λ t w' l h.
        let r = head_from raw can choices d lt t w' (words_in (is_head raw choices (d + 1) t) (take (d + 1) raw.domains) w' h) in
        (r.0, (arrive t r.0 l).1 r.1, r.2, in_words (is_head raw choices d r.0.node) (take d raw.domains) r.2 r.3.0 r.3.1, r.4);
    within = λ t a c. let o = ((arrive t a (in_range lists t a c)).0 c).owned in omega arith;
    values = λ t a c. let o = ((arrive t a (in_range lists t a c)).0 c).in_domain in omega (arith, row_length d lt);
    costs = λ t a w c h. head_cost costs d (let e = costs_count in omega arith) w a.value (head_length raw can choices d lt a.node w (words_in (is_head raw choices d a.node) (take d raw.domains) w h));
    sized = λ u w h. head_length raw can choices d lt u w (words_in (is_head raw choices d u) (take d raw.domains) w h);
  }

  tails_step : (v d : ℕ) (lt : v < length raw.domains) (size : length raw.domains - (v + 1) ≡ d) (scale : ℕ) (before : List (List FrontItem)) (lists : List (List Arrival)) → length before ≡ get_or raw.sizes (v + 1) 0 → Arrive Tails (level raw v) (value_of choices v) (get_or raw.sizes v 0) lists
      → IsStep Tails scale (get_or costs v []) before lists (λ node w. Contains (words_of Tails raw choices (v + 1) node) w) (λ node w. Contains (words_of Tails raw choices v node) w) (pair_of_word Tails costs (v + 1)) (pair_of_word Tails costs v) d
  tails_step v d lt size scale before lists sizes arrive = record {
    into = λ t a w c h.
        let k = words_in (is_tail raw choices (v + 1) a.node) (drop (v + 1) raw.domains) w h in
        let r = tail_into raw can choices v lt a t w ((arrive t a (in_range lists t a c)).0 c) k in
        in_words (is_tail raw choices v t) (drop v raw.domains) (extended Tails a.value w) r.0 r.1;
    from = λ t w' l h.
        let r = tail_from raw can choices v lt t w' (words_in (is_tail raw choices v t) (drop v raw.domains) w' h) in
        (r.0, (arrive t r.0 l).1 r.1, r.2, in_words (is_tail raw choices (v + 1) r.0.node) (drop (v + 1) raw.domains) r.2 r.3.0 r.3.1, r.4);
    within = λ t a c. let o = target_inside raw can choices v lt t a.value a.node ((arrive t a (in_range lists t a c)).0 c).leads in omega arith;
    values = λ t a c. let o = ((arrive t a (in_range lists t a c)).0 c).in_domain in omega (arith, row_length v lt);
    costs = λ t a w c h. tail_cost costs v (let e = costs_count in omega arith) w a.value;
    sized = λ u w h. tail_length raw can choices v lt u w (words_in (is_tail raw choices (v + 1) u) (drop (v + 1) raw.domains) w h) ∙ size;
  }

  -- the step from one distance to the next
  pub step_at : (side : Side) (d : ℕ) (lt : d < length raw.domains) (scale : ℕ) (before : List (List FrontItem)) (lists : List (List Arrival)) → length before ≡ get_or raw.sizes (layer_at side (length raw.domains) d) 0
      → Arrive side (level raw (variable_at side (length raw.domains) d)) (value_of choices (variable_at side (length raw.domains) d)) (get_or raw.sizes (variable_at side (length raw.domains) d) 0) lists
      → IsStep side scale (get_or costs (variable_at side (length raw.domains) d) []) before lists (WordAt side raw choices d) (WordAt side raw choices (d + 1)) (pairs_at side raw costs d) (pairs_at side raw costs (d + 1)) d
  step_at Heads d lt scale before lists sizes arrive = heads_step d lt scale before lists sizes arrive
  step_at Tails d lt scale before lists sizes arrive =
      let n = length raw.domains in
      let v = n - (d + 1) in
      let there : v + 1 ≡ n - d = omega arith in
      subst (λ k. IsStep Tails scale (get_or costs v []) before lists (λ node w. Contains (words_of Tails raw choices k node) w) (λ node w. Contains (words_of Tails raw choices v node) w) (pair_of_word Tails costs k) (pair_of_word Tails costs v) d) there
      (tails_step v d (omega arith) (omega arith) scale before lists (sizes ∙ ap (λ k. get_or raw.sizes k 0) (sym there)) arrive)

-- earlier layers stay, where one more comes
item_kept : (stages : List (List (List FrontItem))) (more : List (List FrontItem)) (d node place : ℕ) → d < length stages → item_at (stages ++ more ∷ []) d node place ≡ item_at stages d node place
item_kept stages more d node place l = ap (λ stage. get_or (get_or stage node []) place no_item) (get_or_append_left stages (more ∷ []) [] d l)

word_kept : (side : Side) (stages : List (List (List FrontItem))) (more : List (List FrontItem)) (d : ℕ) → d ≤ length stages → (x : FrontItem) → word_at side (stages ++ more ∷ []) d x ≡ word_at side stages d x
word_kept side stages more zero l x = refl
word_kept side stages more (suc d) l x =
    ap (extended side x.back.value) (word_kept side stages more d (omega arith) (item_at (stages ++ more ∷ []) d x.back.node x.back.place) ∙ ap (word_at side stages d) (item_kept stages more d x.back.node x.back.place (omega arith)))

-- sums over the nodes of a layer, by their lists
sum_nodes : {X : Type 0} (f : X → ℕ) (g : ℕ → ℕ) (xs : List X) (d : X) (start : ℕ) → ((k : ℕ) → k < length xs → f (get_or xs k d) ≡ g (start + k)) → sum_by f xs ≡ sum (map g (range_with_len start (length xs)))
sum_nodes f g [] d start h = refl
sum_nodes f g (x ∷ xs) d start h =
    let first : f x ≡ g start = h 0 (omega arith) ∙ ap g (let e : start + 0 ≡ start = omega arith in e) in
    let rest = sum_nodes f g xs d (start + 1) (λ k l. h (suc k) (omega arith) ∙ ap g (let e : start + suc k ≡ (start + 1) + k = omega arith in e)) in
    sum_by-cons f x xs ∙ ap (λ n. n + sum_by f xs) first ∙ ap (λ n. g start + n) rest ∙ sym (sum-cons (g start) (map g (range_with_len (start + 1) (length xs))))
  where
    sum-cons : (n : ℕ) (ns : List ℕ) → sum (n ∷ ns) ≡ n + sum ns
    sum-cons n ns = sum_by-cons (λ x. x) n ns

module _ (raw : RawDiagram) (can : IsCanonical raw) (costs : List (List CostPair)) (priced : AreCostsOf raw.domains costs) (choices : List Choice) (side : Side) (d : ℕ) (lt : d < length raw.domains)
    (stages : List (List (List FrontItem))) (limit total : ℕ) (pass : IsPass side raw costs choices d stages limit total)
    (scale : ℕ) (lists : List (List Arrival)) (count : length lists ≡ target_count side (level raw (variable_at side (length raw.domains) d)))
    (arrive : Arrive side (level raw (variable_at side (length raw.domains) d)) (value_of choices (variable_at side (length raw.domains) d)) (get_or raw.sizes (variable_at side (length raw.domains) d) 0) lists)
    (fits : IsScaleFor side scale limit (length (get_or costs (variable_at side (length raw.domains) d) []))) where
  abbrev before_d : List (List FrontItem)
  before_d = get_or stages d []

  abbrev row_d : List CostPair
  row_d = get_or costs (variable_at side (length raw.domains) d) []

  the_step : IsStep side scale row_d before_d lists (WordAt side raw choices d) (WordAt side raw choices (d + 1)) (pairs_at side raw costs d) (pairs_at side raw costs (d + 1)) d
  the_step = step_at raw can costs priced choices side d lt scale before_d lists (pass.sizes d (omega arith)) arrive

  -- the layer has as many nodes as the lists tell
  pub lists_count : length lists ≡ get_or raw.sizes (layer_at side (length raw.domains) (d + 1)) 0
  lists_count = by side count
    where
      by : (side : Side) → length lists ≡ target_count side (level raw (variable_at side (length raw.domains) d)) → length lists ≡ get_or raw.sizes (layer_at side (length raw.domains) (d + 1)) 0
      by Heads e = e
      by Tails e = e

  abbrev next_word : FrontItem → List ℕ
  next_word c = extended side c.back.value (word_at side stages d (item_at stages d c.back.node c.back.place))

  pub next_stage_facts : (stage : List (List FrontItem)) → AreStageOf side scale row_d before_d lists stage → StageFacts (WordAt side raw choices (d + 1)) (pairs_at side raw costs (d + 1)) stage next_word (limit * length row_d)
  next_stage_facts stage are =
      next_facts side scale limit row_d before_d lists (WordAt side raw choices d) (WordAt side raw choices (d + 1)) (pairs_at side raw costs d) (pairs_at side raw costs (d + 1)) d (word_at side stages d) the_step pass.last fits stage are.count are.fronts

  size_at : (k : ℕ) → k < length lists → front_size side scale row_d before_d (get_or lists k []) ≡ length (front_of_node side raw costs choices (layer_at side (length raw.domains) (d + 1)) (0 + k))
  size_at k l =
      let none : k ≡ 0 + k = omega arith in
      ap length (offered_front side scale limit row_d before_d lists (WordAt side raw choices d) (WordAt side raw choices (d + 1)) (pairs_at side raw costs d) (pairs_at side raw costs (d + 1)) d (word_at side stages d) the_step pass.last fits k l
      (words_of side raw choices (layer_at side (length raw.domains) (d + 1)) k) (λ w h. h) (λ w h. h))
      ∙ ap (λ node. length (front_of_node side raw costs choices (layer_at side (length raw.domains) (d + 1)) node)) none

  -- the pairs of the layer are as many as its definition says
  pub stage_size_is : stage_size side scale row_d before_d lists ≡ layer_size side raw costs choices (layer_at side (length raw.domains) (d + 1))
  stage_size_is =
      sum_nodes (front_size side scale row_d before_d) (λ node. length (front_of_node side raw costs choices (layer_at side (length raw.domains) (d + 1)) node)) lists [] 0 size_at
      ∙ ap (λ n. sum (map (λ node. length (front_of_node side raw costs choices (layer_at side (length raw.domains) (d + 1)) node)) (range_with_len 0 n))) lists_count

  -- what comes next in the sizes of the side
  pub sizes_more : sum (take ((d + 1) + 1) (sizes_from side raw costs choices)) ≡ sum (take (d + 1) (sizes_from side raw costs choices)) + stage_size side scale row_d before_d lists
  sizes_more =
      let all = sizes_from side raw costs choices in
      let g = λ (distance : ℕ). layer_size side raw costs choices (layer_at side (length raw.domains) distance) in
      let l : d + 1 < length all = omega (arith, length-map-range_with_len g 0 (length raw.domains + 1)) in
      let at : get_or all (d + 1) 0 ≡ g (d + 1) = get_or-map-range_with_len g 0 (length raw.domains + 1) (d + 1) (d + 1) 0 (omega arith) (omega arith) in
      sum_by_more (λ x. x) all (d + 1) 0 l ∙ ap (λ n. sum (take (d + 1) all) + n) (at ∙ sym stage_size_is)

  few_in : (stage : List (List FrontItem)) → AreStageOf side scale row_d before_d lists stage → stage_size side scale row_d before_d lists ≤ MOST_LABELS → (node : ℕ) → length (get_or stage node []) ≤ MOST_LABELS
  few_in stage are small node = by (cases_order node (length stage))
    where
      none : length stage ≤ node → length (get_or stage node []) ≤ MOST_LABELS
      none le = subst (λ (xs : List FrontItem). length xs ≤ MOST_LABELS) (sym (get_or_past stage node [] le)) (omega arith)

      by : (node ≡ length stage) ⊎ ((node < length stage) ⊎ (length stage < node)) → length (get_or stage node []) ≤ MOST_LABELS
      by (inl e) = none (omega arith)
      by (inr (inl l)) =
          let inside : node < length lists = let e = are.count in omega arith in
          let one = size_is side scale row_d before_d (get_or lists node []) (get_or stage node []) (are.fronts node inside) in
          let most = sum_by_more_le (front_size side scale row_d before_d) lists node [] inside in
          omega arith
      by (inr (inr l)) = none (omega arith)

  -- one layer more
  pub pass_more : (stage : List (List FrontItem)) (bound : ℕ) → StageFacts (WordAt side raw choices (d + 1)) (pairs_at side raw costs (d + 1)) stage next_word bound → length stage ≡ length lists
      → ((node : ℕ) → length (get_or stage node []) ≤ MOST_LABELS) → bound ≤ MOST_RANKS → total + stage_size side scale row_d before_d lists ≤ MOST_LABELS
      → IsPass side raw costs choices (d + 1) (stages ++ stage ∷ []) bound (total + stage_size side scale row_d before_d lists)
  pass_more stage bound facts length_is few ranks within = record {
    count = length_push stages stage ∙ ap (λ n. n + 1) pass.count;
    sizes = sizes_of;
    facts = facts_of;
    last = newest;
    few = λ node. subst (λ (st : List (List FrontItem)). length (get_or st node []) ≤ MOST_LABELS) (sym at_end) (few node);
    ranks = ranks;
    total_is = ap (λ n. n + stage_size side scale row_d before_d lists) pass.total_is ∙ sym sizes_more;
    within = within;
  }
    where
      at_end : get_or (stages ++ stage ∷ []) (d + 1) [] ≡ stage
      at_end = get_or_push stages stage [] (d + 1) pass.count

      there : d + 1 ≤ length stages
      there = let e = pass.count in omega arith

      earlier : (k : ℕ) → k ≤ d → get_or (stages ++ stage ∷ []) k [] ≡ get_or stages k []
      earlier k l = get_or_append_left stages (stage ∷ []) [] k (let e = pass.count in omega arith)

      new_word : (x : FrontItem) → next_word x ≡ word_at side (stages ++ stage ∷ []) (d + 1) x
      new_word x =
          let succ : d + 1 ≡ suc d = omega arith in
          ap (extended side x.back.value) (sym (word_kept side stages stage d (let e = pass.count in omega arith) (item_at (stages ++ stage ∷ []) d x.back.node x.back.place) ∙ ap (word_at side stages d) (item_kept stages stage d x.back.node x.back.place (let e = pass.count in omega arith))))
          ∙ sym (ap (λ k. word_at side (stages ++ stage ∷ []) k x) succ)

      newest : StageFacts (WordAt side raw choices (d + 1)) (pairs_at side raw costs (d + 1)) (get_or (stages ++ stage ∷ []) (d + 1) []) (word_at side (stages ++ stage ∷ []) (d + 1)) bound
      newest =
          subst (λ (st : List (List FrontItem)). StageFacts (WordAt side raw choices (d + 1)) (pairs_at side raw costs (d + 1)) st (word_at side (stages ++ stage ∷ []) (d + 1)) bound) (sym at_end)
          (subst (λ (word : FrontItem → List ℕ). StageFacts (WordAt side raw choices (d + 1)) (pairs_at side raw costs (d + 1)) stage word bound) (λ i x. new_word x i) facts)

      sizes_of : (k : ℕ) → k ≤ d + 1 → length (get_or (stages ++ stage ∷ []) k []) ≡ get_or raw.sizes (layer_at side (length raw.domains) k) 0
      sizes_of k l = by (cases_order k (d + 1))
        where
          by : (k ≡ d + 1) ⊎ ((k < d + 1) ⊎ (d + 1 < k)) → length (get_or (stages ++ stage ∷ []) k []) ≡ get_or raw.sizes (layer_at side (length raw.domains) k) 0
          by (inl e) = subst (λ j. length (get_or (stages ++ stage ∷ []) j []) ≡ get_or raw.sizes (layer_at side (length raw.domains) j) 0) (sym e) (ap length at_end ∙ length_is ∙ lists_count)
          by (inr (inl less)) = ap length (earlier k (omega arith)) ∙ pass.sizes k (omega arith)
          by (inr (inr more)) = absurd (omega arith)

      facts_of : (k : ℕ) → k ≤ d + 1 → (bound : ℕ) × StageFacts (WordAt side raw choices k) (pairs_at side raw costs k) (get_or (stages ++ stage ∷ []) k []) (word_at side (stages ++ stage ∷ []) k) bound
      facts_of k l = by (cases_order k (d + 1))
        where
          old : k ≤ d → (bound : ℕ) × StageFacts (WordAt side raw choices k) (pairs_at side raw costs k) (get_or (stages ++ stage ∷ []) k []) (word_at side (stages ++ stage ∷ []) k) bound
          old le =
              let f = pass.facts k le in (
                f.0,
                subst (λ (st : List (List FrontItem)). StageFacts (WordAt side raw choices k) (pairs_at side raw costs k) st (word_at side (stages ++ stage ∷ []) k) f.0) (sym (earlier k le))
                    (subst (λ (word : FrontItem → List ℕ). StageFacts (WordAt side raw choices k) (pairs_at side raw costs k) (get_or stages k []) word f.0) (λ i x. sym (word_kept side stages stage k (let e = pass.count in omega arith) x) i) f.1),
              )

          by : (k ≡ d + 1) ⊎ ((k < d + 1) ⊎ (d + 1 < k)) → (bound : ℕ) × StageFacts (WordAt side raw choices k) (pairs_at side raw costs k) (get_or (stages ++ stage ∷ []) k []) (word_at side (stages ++ stage ∷ []) k) bound
          by (inl e) = subst (λ j. (bound : ℕ) × StageFacts (WordAt side raw choices j) (pairs_at side raw costs j) (get_or (stages ++ stage ∷ []) j []) (word_at side (stages ++ stage ∷ []) j) bound) (sym e) (bound, newest)
          by (inr (inl less)) = old (omega arith)
          by (inr (inr more)) = absurd (omega arith)

-- a chosen value is one of the variable's
pub chosen_within : (domains : List ℕ) (choices : List Choice) (v : ℕ) → All (IsChoiceOf domains) choices → IfSome (value_of choices v) (λ value. value < get_or domains v 0)
chosen_within domains [] v h = tt
chosen_within domains (c ∷ choices) v h = by (chosen_within domains choices v (All-tail (IsChoiceOf domains) c choices h)) (c.variable == v) refl
  where
    same : (a b : ℕ) → (a == b) ≡ true → a ≡ b
    same a b e = grind (arith, nat_tests)

    by : IfSome (value_of choices v) (λ value. value < get_or domains v 0) → (b : Bool) → (c.variable == v) ≡ b → IfSome (option_map (λ c. c.value) (cond b (Some c) (find (λ c. c.variable == v) choices))) (λ value. value < get_or domains v 0)
    by rest true e = subst (λ k. c.value < get_or domains k 0) (same c.variable v e) (All-head (IsChoiceOf domains) c choices h).1
    by rest false e = rest

pub fault_weaker : (P Q : Side → ℕ → Type 0) → ((side : Side) (layer : ℕ) → P side layer → Q side layer) → (fault : FrontFault) → IsFaultAt P fault → IsFaultAt Q fault
fault_weaker P Q f (LabelLimit side layer) h = f side layer h
fault_weaker P Q f NoMemory h = tt

drop_priced : (n : ℕ) (costs : List (List CostPair)) → IsPriced costs → IsPriced (drop n costs)
drop_priced n costs h = record { few = let e = h.few in omega (arith, length-drop n costs); in_range = All-drop (All IsPricePair) n costs h.in_range }

sum_of_word : (side : Side) (costs : List (List CostPair)) (layer : ℕ) (w : List ℕ) → IsPriced costs → IsSum (pair_of_word side costs layer w).first × IsSum (pair_of_word side costs layer w).second
sum_of_word Heads costs layer w h = (cost-IsSum costs First w h, cost-IsSum costs Second w h)
sum_of_word Tails costs layer w h = (cost-IsSum (drop layer costs) First w (drop_priced layer costs h), cost-IsSum (drop layer costs) Second w (drop_priced layer costs h))

-- the items of the last layer are small
pub small_nodes : (side : Side) (raw : RawDiagram) (costs : List (List CostPair)) (choices : List Choice) (d : ℕ) (stages : List (List (List FrontItem))) (limit total : ℕ) → IsPriced costs → IsPass side raw costs choices d stages limit total
    → All (IsSmallNode MOST_RANKS) (get_or stages d [])
small_nodes side raw costs choices d stages limit total priced pass = λ k e l.
    subst (IsSmallNode MOST_RANKS) (get_or_default (get_or stages d []) k [] e l) (record { few = pass.few k; small = λ j x i. one k (get_or (get_or (get_or stages d []) k []) j x) (Contains-get_or (get_or (get_or stages d []) k []) j x i) })
  where
    one : (k : ℕ) (x : FrontItem) → Contains (get_or (get_or stages d []) k []) x → IsSmall MOST_RANKS x
    one k x c =
        let f = pass.last.among k x c in
        let s = sum_of_word side costs (layer_at side (length raw.domains) d) (word_at side stages d x) priced in
        let r = pass.last.below k x c in
        let m = pass.ranks in
        record { first = subst (λ p. IsSum p.first) f.1 s.0; second = subst (λ p. IsSum p.second) f.1 s.1; rank = omega arith }

-- facts of a layer whose ranks are numbered anew
pub numbered_facts : (Word : ℕ → List ℕ → Type 0) (pairs : List ℕ → CostPair) (stage new : List (List FrontItem)) (word : FrontItem → List ℕ) (limit bound : ℕ) → StageFacts Word pairs stage word limit → (n : IsNumbered stage new bound)
    → ((x : FrontItem) → word (with_rank n.number x) ≡ word x) → StageFacts Word pairs new word bound
numbered_facts Word pairs stage new word limit bound facts n same = record {
  among = λ node y c. let x = origin node y c in
      subst (λ z. Word node (word z) × (pairs (word z) ≡ pair_of z)) x.2 (subst (λ w. Word node w × (pairs w ≡ pair_of (with_rank n.number x.0))) (sym (same x.0)) (facts.among node x.0 x.1));
  falls = λ node. subst (λ (xs : List FrontItem). Falls (map pair_of xs)) (sym (n.items node)) (subst Falls (sym (pairs_same (get_or stage node []))) (facts.falls node));
  covered = λ node w l h. let c = facts.covered node w (let e = n.count in omega arith) h in (
    with_rank n.number c.0,
    subst (λ (xs : List FrontItem). Contains xs (with_rank n.number c.0)) (sym (n.items node)) (in_map (with_rank n.number) (get_or stage node []) c.0 c.1),
    c.2,
    λ back. subst (λ z. comes_before w z ≡ false) (sym (same c.0)) (c.3 back),
  );
  ranks = λ node other y z c d. let x = origin node y c in let u = origin other z d in
      subst (λ y. nat_lt y.back.rank z.back.rank ≡ comes_before (word y) (word z)) x.2
      (subst (λ z. nat_lt (with_rank n.number x.0).back.rank z.back.rank ≡ comes_before (word (with_rank n.number x.0)) (word z)) u.2
      (n.compare node other x.0 u.0 x.1 u.1 ∙ facts.ranks node other x.0 u.0 x.1 u.1 ∙ ap (λ a. comes_before a (word u.0)) (sym (same x.0)) ∙ ap (λ b. comes_before (word (with_rank n.number x.0)) b) (sym (same u.0))));
  below = λ node y c. let x = origin node y c in subst (λ z. z.back.rank < bound) x.2 (n.below node x.0 x.1);
}
  where
    origin : (node : ℕ) (y : FrontItem) → Contains (get_or new node []) y → (x : FrontItem) × Contains (get_or stage node []) x × (with_rank n.number x ≡ y)
    origin node y c = of_map (with_rank n.number) (get_or stage node []) y (subst (λ (xs : List FrontItem). Contains xs y) (n.items node) c)

    pairs_same : (xs : List FrontItem) → map pair_of (map (with_rank n.number) xs) ≡ map pair_of xs
    pairs_same [] = refl
    pairs_same (x ∷ xs) = ap (λ ys. pair_of x ∷ ys) (pairs_same xs)

-- a layer as it is
pub numbered_same : (stage : List (List FrontItem)) (bound : ℕ) → bound ≤ MOST_RANKS → ((node : ℕ) (x : FrontItem) → Contains (get_or stage node []) x → x.back.rank < bound) → IsNumbered stage stage bound
numbered_same stage bound small below = record {
  number = λ r. r;
  count = refl;
  items = λ node. sym (same (get_or stage node []));
  compare = λ node other x y c d. refl;
  below = below;
  small = small;
}
  where
    same : (xs : List FrontItem) → map (with_rank (λ r. r)) xs ≡ xs
    same [] = refl
    same (x ∷ xs) = ap (λ ys. x ∷ ys) (same xs)

-- what the code knows in a step of the pass
pub record Knows (side : Side) (raw : RawDiagram) (costs : List (List CostPair)) (choices : List Choice) (d : ℕ) (stages : List (List (List FrontItem))) (limit total scale : ℕ) (lists : List (List Arrival)) : Type 0 where
  pub can : IsCanonical raw
  pub priced : AreCostsOf raw.domains costs
  pub lt : d < length raw.domains
  pub pass : IsPass side raw costs choices d stages limit total
  pub count : length lists ≡ target_count side (level raw (variable_at side (length raw.domains) d))
  pub arrive : Arrive side (level raw (variable_at side (length raw.domains) d)) (value_of choices (variable_at side (length raw.domains) d)) (get_or raw.sizes (variable_at side (length raw.domains) d) 0) lists
  pub fits : IsScaleOf side scale limit (get_or raw.domains (variable_at side (length raw.domains) d) 0)

module _ (side : Side) (raw : RawDiagram) (costs : List (List CostPair)) (choices : List Choice) (d : ℕ) (stages : List (List (List FrontItem))) (limit total scale : ℕ) (lists : List (List Arrival)) (k : Knows side raw costs choices d stages limit total scale lists) where
  abbrev v_d : ℕ
  v_d = variable_at side (length raw.domains) d

  variable_inside : v_d < length raw.domains
  variable_inside = by side
    where
      by : (side : Side) → variable_at side (length raw.domains) d < length raw.domains
      by Heads = k.lt
      by Tails = let l = k.lt in omega arith

  scale_fits : IsScaleFor side scale limit (length (get_or costs v_d []))
  scale_fits = by side (subst (IsScaleOf side scale limit) (sym (row_length raw k.can costs k.priced choices v_d variable_inside)) k.fits)
    where
      by : (side : Side) → IsScaleOf side scale limit (length (get_or costs v_d [])) → IsScaleFor side scale limit (length (get_or costs v_d []))
      by Heads e = e
      by Tails e = e

  pub known_step : IsStep side scale (get_or costs v_d []) (get_or stages d []) lists (WordAt side raw choices d) (WordAt side raw choices (d + 1)) (pairs_at side raw costs d) (pairs_at side raw costs (d + 1)) d
  known_step = step_at raw k.can costs k.priced choices side d k.lt scale (get_or stages d []) lists (k.pass.sizes d (omega arith)) k.arrive

  pub known_nodes : All (All (λ a. a.node < length (get_or stages d []))) lists
  known_nodes = λ i e l j x m. subst (λ (xs : List Arrival). (get_or xs j x).node < length (get_or stages d [])) (get_or_default lists i [] e l)
      (known_step.within i (get_or (get_or lists i []) j x) (Contains-get_or (get_or lists i []) j x (subst (λ (xs : List Arrival). j < length xs) (sym (get_or_default lists i [] e l)) m)))

  pub known_values : All (All (λ a. a.value < MOST_VALUES)) lists
  known_values = λ i e l j x m. subst (λ (xs : List Arrival). (get_or xs j x).value < MOST_VALUES) (get_or_default lists i [] e l)
      (small (get_or (get_or lists i []) j x) i (Contains-get_or (get_or lists i []) j x (subst (λ (xs : List Arrival). j < length xs) (sym (get_or_default lists i [] e l)) m)))
    where
      small : (a : Arrival) (i : ℕ) → Contains (get_or lists i []) a → a.value < MOST_VALUES
      small a i c =
          let o = known_step.values i a c in
          let r = row_length raw k.can costs k.priced choices v_d variable_inside in
          let f = (k.can.shape.shaped v_d variable_inside).few_values in
          omega arith

  pub known_row : All IsPricePair (get_or costs v_d [])
  known_row = All-get_or (All IsPricePair) costs v_d [] (let e = costs_count raw k.can costs k.priced choices in let l = variable_inside in omega arith) k.priced.priced.in_range

  pub known_before : All (IsSmallNode MOST_RANKS) (get_or stages d [])
  known_before = small_nodes side raw costs choices d stages limit total k.priced.priced k.pass

  pub known_fault : (layer : ℕ) → layer ≡ layer_at side (length raw.domains) (d + 1) → (at_side : Side) (at_layer : ℕ) → (at_side ≡ side) × (at_layer ≡ layer) × (MOST_LABELS < total + stage_size side scale (get_or costs v_d []) (get_or stages d []) lists)
      → (at_side ≡ side) × (at_layer ≡ layer_at side (length raw.domains) (d + 1)) × (MOST_LABELS < sum (take ((d + 1) + 1) (sizes_from side raw costs choices)))
  known_fault layer e at_side at_layer h =
      let more = sizes_more raw k.can costs k.priced choices side d k.lt stages limit total k.pass scale lists k.count k.arrive scale_fits in
      let t = k.pass.total_is in
      (h.0, h.1 ∙ e, omega (arith, h.2))

  pub known_ranks : (stage : List (List FrontItem)) → AreStageOf side scale (get_or costs v_d []) (get_or stages d []) lists stage → (node : ℕ) (x : FrontItem) → Contains (get_or stage node []) x → x.back.rank < limit * get_or raw.domains v_d 0
  known_ranks stage are node x c =
      subst (λ n. x.back.rank < limit * n) (row_length raw k.can costs k.priced choices v_d variable_inside)
      ((next_stage_facts raw k.can costs k.priced choices side d k.lt stages limit total k.pass scale lists k.count k.arrive scale_fits stage are).below node x c)

  pub known_pass : (stage new : List (List FrontItem)) (bound : ℕ) → AreStageOf side scale (get_or costs v_d []) (get_or stages d []) lists stage → IsNumbered stage new bound
      → total + stage_size side scale (get_or costs v_d []) (get_or stages d []) lists ≤ MOST_LABELS
      → IsPass side raw costs choices (d + 1) (stages ++ new ∷ []) bound (total + stage_size side scale (get_or costs v_d []) (get_or stages d []) lists)
  known_pass stage new bound are number within =
      let facts = next_stage_facts raw k.can costs k.priced choices side d k.lt stages limit total k.pass scale lists k.count k.arrive scale_fits stage are in
      let word = λ (c : FrontItem). extended side c.back.value (word_at side stages d (item_at stages d c.back.node c.back.place)) in
      pass_more raw k.can costs k.priced choices side d k.lt stages limit total k.pass scale lists k.count k.arrive scale_fits new bound
      (numbered_facts (WordAt side raw choices (d + 1)) (pairs_at side raw costs (d + 1)) stage new word (limit * length (get_or costs v_d [])) bound facts number (λ x. refl))
      (number.count ∙ are.count)
      (λ node. subst (λ (xs : List FrontItem). length xs ≤ MOST_LABELS) (sym (number.items node))
      (subst (λ n. n ≤ MOST_LABELS) (sym (length_ranked number.number (get_or stage node [])))
      (few_in raw k.can costs k.priced choices side d k.lt stages limit total k.pass scale lists k.count k.arrive scale_fits stage are (omega arith) node)))
      number.small within
    where
      length_ranked : (f : ℕ → ℕ) (xs : List FrontItem) → length (map (with_rank f) xs) ≡ length xs
      length_ranked f [] = refl
      length_ranked f (x ∷ xs) = ap suc (length_ranked f xs)

  pub known_scale : IsScaleWithin side scale
  known_scale = by side k.fits
    where
      by : (side : Side) → IsScaleOf side scale limit (get_or raw.domains v_d 0) → IsScaleWithin side scale
      by Heads e = let f = (k.can.shape.shaped v_d variable_inside).few_values in omega arith
      by Tails e = let r = k.pass.ranks in omega arith

  pub known_sum : (stage : List (List FrontItem)) → AreStageOf side scale (get_or costs v_d []) (get_or stages d []) lists stage → sum_by length stage ≡ stage_size side scale (get_or costs v_d []) (get_or stages d []) lists
  known_sum stage are =
      let g = λ (t : ℕ). front_size side scale (get_or costs v_d []) (get_or stages d []) (get_or lists t []) in
      sum_nodes length g stage [] 0 of_stage ∙ ap (λ n. sum (map g (range_with_len 0 n))) are.count
      ∙ sym (sum_nodes (front_size side scale (get_or costs v_d []) (get_or stages d [])) g lists [] 0 (λ j l. ap g (let e : j ≡ 0 + j = omega arith in e)))
    where
      of_stage : (j : ℕ) → j < length stage → length (get_or stage j []) ≡ front_size side scale (get_or costs v_d []) (get_or stages d []) (get_or lists (0 + j) [])
      of_stage j l =
          let inside : j < length lists = let e = are.count in omega arith in
          size_is side scale (get_or costs v_d []) (get_or stages d []) (get_or lists j []) (get_or stage j []) (are.fronts j inside)
          ∙ ap (λ t. front_size side scale (get_or costs v_d []) (get_or stages d []) (get_or lists t [])) (let e : j ≡ 0 + j = omega arith in e)
