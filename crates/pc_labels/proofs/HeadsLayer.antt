-- The layer after one whose heads are labelled is labelled.
use Rattle.std.proofs.Common.{◌≡◌, ℕ, ◌+◌, ◌<◌, nat_lt, Bool, true, false, ◌||◌, ◌&&◌, not, List, [], ◌∷◌, ◌++◌, All, length, take, get_or, Option, Some, None, option_map, refl, sym, ap, ◌∙◌, arith}
use Rattle.std.specs.Prelude.{slice_index, slice_index_or}
use Rattle.std.proofs.lemmas.Bool.Decides.{nat_tests}
use Rattle.std.proofs.lemmas.List.{take_more, length-take}
use Rattle.std.proofs.lemmas.List.FromFn.{get_or-map-range_with_len}
use Rattle.pc_diagram.specs.declared.choice.Choice.{Choice}
use Rattle.pc_diagram.specs.declared.costs.CostPair.{CostPair}
use Rattle.pc_diagram.specs.declared.raw_diagram.RawDiagram.{RawDiagram}
use Rattle.pc_diagram.specs.declared.weight.Ranked.{Ranked}
use Rattle.pc_diagram.specs.Choices.{value_of}
use Rattle.pc_diagram.specs.Diagram.{IsCanonical}
use Rattle.pc_diagram.specs.Fitting.{is_number}
use Rattle.pc_diagram.specs.Levels.{Level, level, levels, edge}
use Rattle.pc_diagram.specs.NodePaths.{leads_to, is_allowed, agrees, is_head, heads, comes_before, AreCostsOf}
use Rattle.pc_diagram.specs.Words.{is_word}
use Rattle.pc_diagram.proofs.LevelLemmas.{length-levels}
use Rattle.pc_diagram.proofs.PathLemmas.{leads_to-append, agrees-append, is_word-append, length-word, is_number-is}
use Rattle.pc_diagram.specs.Costs.{cost_pair, pair_at}
use Rattle.pc_diagram.specs.Weight.{plus_pair}
use Rattle.pc_diagram.specs.declared.side.Side.TheVariants.{Heads}
use Rattle.pc_labels.specs.declared.step.Step.{Step}
use Rattle.pc_labels.specs.Kept.{Kept, kept_row}
use Rattle.pc_labels.specs.Labels.{IsLabelled}
use Rattle.pc_labels.specs.Marks.{Marks, IsBelow, weight_at}
use Rattle.pc_labels.specs.Slots.{LeadsTo, going_on, onward, AreNextHeads, AreRanksAnew}
use Rattle.pc_labels.specs.SoFar.{step_at}
use Rattle.pc_labels.proofs.Extending.{labelled-far, weighed}
use Rattle.pc_labels.proofs.LeastOf.{least-same}
use Rattle.pc_labels.proofs.Reranked.{reranked, are_kept, pairs, twice, weighed-reranked, path_of-stays, kept_row-at, length-kept_row, length-costs}
use Rattle.pc_labels.proofs.SlotLemmas.{below-at}
use Rattle.pc_labels.proofs.LayerLemmas.{last_apart, same_end, order_at_end, composite, cost_at_end, edge_begins}

pub both : (a b : Bool) → (a && b) ≡ true → (a ≡ true) × (b ≡ true)
both true true h = (refl, refl)
both true false h = absurd cc
both false b h = absurd cc

pub together : (a b : Bool) → a ≡ true → b ≡ true → (a && b) ≡ true
together true b h k = k
together false b h k = absurd cc

module _ (raw : RawDiagram) (canonical : IsCanonical raw) (choices : List Choice) (k : ℕ) (lt : k < length raw.domains) where
  abbrev l : Level
  l = level raw k

  abbrev chosen : Option ℕ
  chosen = value_of choices k

  domains_more : take (k + 1) raw.domains ≡ take k raw.domains ++ slice_index raw.domains k ∷ []
  domains_more = take_more raw.domains k 0 lt

  levels_more : take (k + 1) (levels raw) ≡ take k (levels raw) ++ level raw k ∷ []
  levels_more =
      take_more (levels raw) k (level raw k) (omega (arith, lt, length-levels raw))
      ∙ ap (λ x. take k (levels raw) ++ x ∷ []) (get_or-map-range_with_len (level raw) 0 (length raw.domains) k k (level raw k) lt (omega arith))

  first_length : length (take k (levels raw)) ≡ k
  first_length = length-take k (levels raw) ∙ (omega (arith, lt, length-levels raw))

  near_length : (rest : List ℕ) → is_word (take k raw.domains) rest ≡ true → length rest ≡ k
  near_length rest over = length-word (take k raw.domains) rest over ∙ length-take k raw.domains ∙ (omega (arith, lt))

  -- a head that goes on
  far_is : (rest : List ℕ) (v node : ℕ) → length rest ≡ k → is_head raw choices (k + 1) node (rest ++ v ∷ []) ≡
      (is_number (leads_to (l ∷ []) (leads_to (take k (levels raw)) (Some 0) rest) (v ∷ [])) node && (agrees choices 0 rest && (is_allowed chosen v && true)))
  far_is rest v node same =
      ap (λ ls. is_number (leads_to ls (Some 0) (rest ++ v ∷ [])) node && agrees choices 0 (rest ++ v ∷ [])) levels_more
      ∙ ap (λ o. is_number o node && agrees choices 0 (rest ++ v ∷ [])) (leads_to-append (take k (levels raw)) (l ∷ []) (Some 0) rest (v ∷ []) (omega (arith, same, first_length)))
      ∙ ap (λ b. is_number (leads_to (l ∷ []) (leads_to (take k (levels raw)) (Some 0) rest) (v ∷ [])) node && b) (agrees-append choices 0 rest (v ∷ []))
      ∙ ap (λ n. is_number (leads_to (l ∷ []) (leads_to (take k (levels raw)) (Some 0) rest) (v ∷ [])) node && (agrees choices 0 rest && (is_allowed (value_of choices n) v && true))) (let z : 0 + length rest ≡ k = omega (arith, same) in z)

  over_is : (rest : List ℕ) (v : ℕ) → length rest ≡ k → is_word (take (k + 1) raw.domains) (rest ++ v ∷ []) ≡ (is_word (take k raw.domains) rest && (nat_lt v (slice_index raw.domains k) && true))
  over_is rest v same =
      ap (λ ds. is_word ds (rest ++ v ∷ [])) domains_more
      ∙ is_word-append (take k raw.domains) (slice_index raw.domains k ∷ []) rest (v ∷ []) (same ∙ sym (length-take k raw.domains ∙ (omega (arith, lt))))

  pub heads-parts : (node : ℕ) (word : List ℕ) → is_word (take (k + 1) raw.domains) word ≡ true → is_head raw choices (k + 1) node word ≡ true →
      (step : Step) × (rest : List ℕ) × (word ≡ rest ++ step.value ∷ []) × LeadsTo l chosen node step × (is_word (take k raw.domains) rest ≡ true) × (is_head raw choices k step.node rest ≡ true)
  heads-parts node word over head =
      by (leads_to (take k (levels raw)) (Some 0) rest) refl
    where
      long : length word ≡ k + 1
      long = length-word (take (k + 1) raw.domains) word over ∙ length-take (k + 1) raw.domains ∙ (omega (arith, lt))

      rest : List ℕ
      rest = take k word

      v : ℕ
      v = get_or word k 0

      whole : word ≡ take k word ++ get_or word k 0 ∷ []
      whole = last_apart k word long

      short : length (take k word) ≡ k
      short = length-take k word ∙ (omega (arith, long))

      words : (is_word (take k raw.domains) (take k word) ≡ true) × ((nat_lt (get_or word k 0) (slice_index raw.domains k) && true) ≡ true)
      words = both (is_word (take k raw.domains) (take k word)) (nat_lt (get_or word k 0) (slice_index raw.domains k) && true) (sym (over_is (take k word) (get_or word k 0) short) ∙ ap (is_word (take (k + 1) raw.domains)) (sym whole) ∙ over)

      told : (is_number (leads_to (l ∷ []) (leads_to (take k (levels raw)) (Some 0) (take k word)) (get_or word k 0 ∷ [])) node && (agrees choices 0 (take k word) && (is_allowed chosen (get_or word k 0) && true))) ≡ true
      told = sym (far_is (take k word) (get_or word k 0) node short) ∙ ap (is_head raw choices (k + 1) node) (sym whole) ∙ head

      by : (o : Option ℕ) → leads_to (take k (levels raw)) (Some 0) (take k word) ≡ o →
          (step : Step) × (beginning : List ℕ) × (word ≡ beginning ++ step.value ∷ []) × LeadsTo l chosen node step × (is_word (take k raw.domains) beginning ≡ true) × (is_head raw choices k step.node beginning ≡ true)
      by None e =
          let no = (both (is_number (leads_to (l ∷ []) None (get_or word k 0 ∷ [])) node) (agrees choices 0 (take k word) && (is_allowed chosen (get_or word k 0) && true)) (ap (λ o. is_number (leads_to (l ∷ []) o (get_or word k 0 ∷ [])) node && (agrees choices 0 (take k word) && (is_allowed chosen (get_or word k 0) && true))) (sym e) ∙ told)).0 in
          absurd cc
      by (Some s) e =
          let two = both (is_number (edge l s (get_or word k 0)) node) (agrees choices 0 (take k word) && (is_allowed chosen (get_or word k 0) && true)) (ap (λ o. is_number (leads_to (l ∷ []) o (get_or word k 0 ∷ [])) node && (agrees choices 0 (take k word) && (is_allowed chosen (get_or word k 0) && true))) (sym e) ∙ told) in
          let three = both (agrees choices 0 (take k word)) (is_allowed chosen (get_or word k 0) && true) two.1 in
          let leads = is_number-is (edge l s (get_or word k 0)) node two.0 in
          let value : get_or word k 0 < l.domain = let t = (both (nat_lt (get_or word k 0) (slice_index raw.domains k)) true words.1).0 in grind (arith, nat_tests) in
          let step : Step = record { node = s; value = get_or word k 0 } in (
            step,
            take k word,
            whole,
            record { before = edge_begins l s (get_or word k 0) node (canonical.shape.shaped k lt) leads; value = value; allowed = (both (is_allowed chosen (get_or word k 0)) true three.1).0; leads = leads },
            words.0,
            together (is_number (leads_to (take k (levels raw)) (Some 0) (take k word)) s) (agrees choices 0 (take k word)) (ap (λ o. is_number o s) e ∙ grind (arith, nat_tests)) three.0,
          )

  pub heads-join : (node : ℕ) (step : Step) (rest : List ℕ) → LeadsTo l chosen node step → is_word (take k raw.domains) rest ≡ true → is_head raw choices k step.node rest ≡ true →
      (is_word (take (k + 1) raw.domains) (rest ++ step.value ∷ []) ≡ true) × (is_head raw choices (k + 1) node (rest ++ step.value ∷ []) ≡ true)
  heads-join node step rest slot over head =
      let short = near_length rest over in
      let two = both (is_number (leads_to (take k (levels raw)) (Some 0) rest) step.node) (agrees choices 0 rest) head in
      let reached = is_number-is (leads_to (take k (levels raw)) (Some 0) rest) step.node two.0 in
      let within = slot.value in
      let less : nat_lt step.value (slice_index raw.domains k) ≡ true = grind (arith, nat_tests) in
      let hits : is_number (leads_to (l ∷ []) (leads_to (take k (levels raw)) (Some 0) rest) (step.value ∷ [])) node ≡ true =
      ap (λ o. is_number (leads_to (l ∷ []) o (step.value ∷ [])) node) reached ∙ ap (λ o. is_number o node) slot.leads ∙ grind (arith, nat_tests) in (
        over_is rest step.value short ∙ together (is_word (take k raw.domains) rest) (nat_lt step.value (slice_index raw.domains k) && true) over (together (nat_lt step.value (slice_index raw.domains k)) true less refl),
        far_is rest step.value node short ∙ together (is_number (leads_to (l ∷ []) (leads_to (take k (levels raw)) (Some 0) rest) (step.value ∷ [])) node) (agrees choices 0 rest && (is_allowed chosen step.value && true)) hits
            (together (agrees choices 0 rest) (is_allowed chosen step.value && true) two.1 (together (is_allowed chosen step.value) true slot.allowed refl)),
      )

  pub heads-layer : (costs : List (List CostPair)) → AreCostsOf raw.domains costs → (row : List (Option Kept)) (old anew marks : Marks) → IsLabelled costs (heads raw choices k) (slice_index raw.sizes k) row →
      ((node : ℕ) → option_map weighed (slice_index_or row node None) ≡ weight_at old node) → AreRanksAnew old anew → All (IsBelow anew.limit) anew.weights → AreNextHeads l chosen (slice_index_or costs k []) anew marks → length marks.steps ≡ length marks.weights →
      IsLabelled costs (heads raw choices (k + 1)) (slice_index raw.sizes (k + 1)) (kept_row Heads row marks.weights marks.steps)
  heads-layer costs are row old anew marks labelled weighs ranks below next steps =
      labelled-far costs costs prices (is_head raw choices k) (is_head raw choices (k + 1)) (take k raw.domains) (take (k + 1) raw.domains) (LeadsTo l chosen) (λ p v. p ++ v ∷ []) heads-parts heads-join
      (λ rest v over. cost_at_end costs rest v (omega (arith, near_length rest over, lt, length-costs raw.domains costs are)) ∙ ap (λ n. plus_pair (cost_pair costs rest) (pair_at (slice_index_or costs n []) v)) (near_length rest over))
      (λ rest other v over also. same_end rest other v (near_length rest over ∙ sym (near_length other also)))
      (going_on l.domain prices) (λ v r. refl) anew.limit
      (λ node other s t r q rest beside p also _ _ over over2 e f.
      composite r.rank q.rank l.domain s.value t.value p.value also.value ∙ ap (λ b. b || (not (nat_lt q.rank r.rank) && nat_lt s.value t.value)) e ∙ ap (λ b. comes_before rest beside || (not b && nat_lt s.value t.value)) f
      ∙ sym (order_at_end rest beside s.value t.value (near_length rest over ∙ sym (near_length beside over2))))
      (slice_index raw.sizes k) now (are_kept costs (heads raw choices k) (slice_index raw.sizes k) row old anew labelled weighs ranks)
      (λ node step slot. slot.before)
      (λ node kept e. below-at anew.limit anew.weights node (weighed kept) below (sym (weighed-reranked (slice_index_or row node None) (weight_at anew node) (has node)) ∙ ap (option_map weighed) e))
      (slice_index raw.sizes (k + 1)) (weight_at marks) (step_at marks) (kept_row Heads row marks.weights marks.steps)
      (length-kept_row Heads row marks.weights marks.steps steps ∙ next.nodes)
      (λ node less. kept_row-at Heads row marks.weights marks.steps node (record { node = 0; value = 0 }) steps
      ∙ ap (λ p. option_map (λ (r : Ranked). record { pair = r.pair; rank = r.rank; path = p ++ (step_at marks node).value ∷ [] }) (weight_at marks node)) (sym (path_of-stays (slice_index_or row (step_at marks node).node None) (weight_at anew (step_at marks node).node) (has (step_at marks node).node))))
      (λ node less. least-same (LeadsTo l chosen node) (LeadsTo l chosen node) (onward l.domain prices anew) (λ step. option_map (λ kept. going_on l.domain prices step.value (weighed kept)) (now step.node)) (weight_at marks node) (step_at marks node)
      (λ o x. x) (λ o x. x) (λ o x. ap (option_map (going_on l.domain prices o.value)) (sym (weighed-reranked (slice_index_or row o.node None) (weight_at anew o.node) (has o.node))) ∙ twice weighed (going_on l.domain prices o.value) (now o.node)) (next.least node less))
    where
      prices : List CostPair
      prices = slice_index_or costs k []

      now : ℕ → Option Kept
      now node = reranked (slice_index_or row node None) (weight_at anew node)

      has : (node : ℕ) → option_map (λ (r : Ranked). r.pair) (weight_at anew node) ≡ option_map (λ (x : Kept). x.pair) (slice_index_or row node None)
      has = pairs costs (heads raw choices k) (slice_index raw.sizes k) row old anew labelled weighs ranks
