-- The layer before one whose tails are labelled is labelled.
use Rattle.std.proofs.Common.{◌≡◌, ℕ, ◌+◌, ◌*◌, ◌<◌, nat_lt, ◌==◌, true, ◌||◌, ◌&&◌, not, List, [], ◌∷◌, All, length, drop, add-one, drop-cons, Option, Some, None, option_map, refl, sym, ap, ◌∙◌, arith}
use Rattle.std.specs.Prelude.{slice_index, slice_index_or}
use Rattle.std.proofs.lemmas.Bool.{both_ways}
use Rattle.std.proofs.lemmas.Bool.Decides.{nat_tests}
use Rattle.pc_diagram.specs.declared.choice.Choice.{Choice}
use Rattle.pc_diagram.specs.declared.costs.CostPair.{CostPair}
use Rattle.pc_diagram.specs.declared.raw_diagram.RawDiagram.{RawDiagram}
use Rattle.pc_diagram.specs.declared.side.Side.TheVariants.{Tails}
use Rattle.pc_diagram.specs.declared.weight.Ranked.{Ranked}
use Rattle.pc_diagram.specs.Choices.{value_of}
use Rattle.pc_diagram.specs.Diagram.{IsCanonical}
use Rattle.pc_diagram.specs.Levels.{Level, level, levels, edge}
use Rattle.pc_diagram.specs.NodePaths.{is_allowed, agrees, is_tail, tails, comes_before, AreCostsOf}
use Rattle.pc_diagram.specs.Paths.{accepts}
use Rattle.pc_diagram.specs.Words.{is_word}
use Rattle.pc_diagram.proofs.LevelLemmas.{drop-levels}
use Rattle.pc_diagram.proofs.PathLemmas.{accepts-none}
use Rattle.pc_diagram.proofs.UniqueLemmas.{outside_row, inside}
use Rattle.pc_labels.specs.declared.step.Step.{Step}
use Rattle.pc_labels.specs.Kept.{Kept, kept_row}
use Rattle.pc_labels.specs.Labels.{IsLabelled}
use Rattle.pc_labels.specs.Marks.{Marks, IsBelow, weight_at}
use Rattle.pc_labels.specs.Slots.{LeadsFrom, coming_from, backward, AreNextTails, AreRanksAnew}
use Rattle.pc_labels.specs.SoFar.{step_at}
use Rattle.pc_labels.proofs.Extending.{labelled-far, weighed, one_form}
use Rattle.pc_labels.proofs.HeadsLayer.{both, together}
use Rattle.pc_labels.proofs.LayerLemmas.{same_begin, composite, cost_at_begin}
use Rattle.pc_labels.proofs.LeastOf.{least-same}
use Rattle.pc_labels.proofs.Reranked.{reranked, are_kept, pairs, twice, weighed-reranked, path_of-stays, kept_row-at, length-kept_row, length-costs}
use Rattle.pc_labels.proofs.SlotLemmas.{below-at}

module _ (raw : RawDiagram) (canonical : IsCanonical raw) (choices : List Choice) (k : ℕ) (lt : k < length raw.domains) where
  abbrev l : Level
  l = level raw k

  abbrev chosen : Option ℕ
  chosen = value_of choices k

  domains_more : drop k raw.domains ≡ slice_index raw.domains k ∷ drop (k + 1) raw.domains
  domains_more = drop-cons raw.domains k 0 lt ∙ ap (λ n. slice_index raw.domains k ∷ drop n raw.domains) (sym (add-one k))

  over_is : (v : ℕ) (rest : List ℕ) → is_word (drop k raw.domains) (v ∷ rest) ≡ (nat_lt v (slice_index raw.domains k) && is_word (drop (k + 1) raw.domains) rest)
  over_is v rest = ap (λ ds. is_word ds (v ∷ rest)) domains_more

  far_is : (v node : ℕ) (rest : List ℕ) → is_tail raw choices k node (v ∷ rest) ≡ (accepts (drop (k + 1) (levels raw)) (edge l node v) rest && (is_allowed chosen v && agrees choices (k + 1) rest))
  far_is v node rest = ap (λ ls. accepts ls (Some node) (v ∷ rest) && (is_allowed chosen v && agrees choices (k + 1) rest)) (drop-levels raw k lt)

  pub tails-parts : (node : ℕ) (word : List ℕ) → is_word (drop k raw.domains) word ≡ true → is_tail raw choices k node word ≡ true →
      (step : Step) × (rest : List ℕ) × (word ≡ step.value ∷ rest) × LeadsFrom l chosen node step × (is_word (drop (k + 1) raw.domains) rest ≡ true) × (is_tail raw choices (k + 1) step.node rest ≡ true)
  tails-parts node [] over tail = absurd (let no : is_word (slice_index raw.domains k ∷ drop (k + 1) raw.domains) [] ≡ true = ap (λ ds. is_word ds []) (sym domains_more) ∙ over in cc)
  tails-parts node (v ∷ rest) over tail =
      by (edge l node v) refl
    where
      words : (nat_lt v (slice_index raw.domains k) ≡ true) × (is_word (drop (k + 1) raw.domains) rest ≡ true)
      words = both (nat_lt v (slice_index raw.domains k)) (is_word (drop (k + 1) raw.domains) rest) (sym (over_is v rest) ∙ over)

      told : (accepts (drop (k + 1) (levels raw)) (edge l node v) rest ≡ true) × ((is_allowed chosen v && agrees choices (k + 1) rest) ≡ true)
      told = both (accepts (drop (k + 1) (levels raw)) (edge l node v) rest) (is_allowed chosen v && agrees choices (k + 1) rest) (sym (far_is v node rest) ∙ tail)

      agree : (is_allowed chosen v ≡ true) × (agrees choices (k + 1) rest ≡ true)
      agree = both (is_allowed chosen v) (agrees choices (k + 1) rest) told.1

      by : (o : Option ℕ) → edge l node v ≡ o → (step : Step) × (end : List ℕ) × ((v ∷ rest) ≡ step.value ∷ end) × LeadsFrom l chosen node step × (is_word (drop (k + 1) raw.domains) end ≡ true) × (is_tail raw choices (k + 1) step.node end ≡ true)
      by None e = absurd (both_ways (accepts (drop (k + 1) (levels raw)) None rest) (accepts-none (drop (k + 1) (levels raw)) rest) (ap (λ o. accepts (drop (k + 1) (levels raw)) o rest) (sym e) ∙ told.0))
      by (Some s) e =
          let value : v < l.domain = let t = words.0 in grind (arith, nat_tests) in
          let step : Step = record { node = s; value = v } in (
            step,
            rest,
            refl,
            record { value = value; allowed = agree.0; leads = e },
            words.1,
            together (accepts (drop (k + 1) (levels raw)) (Some s) rest) (agrees choices (k + 1) rest) (ap (λ o. accepts (drop (k + 1) (levels raw)) o rest) (sym e) ∙ told.0) agree.1,
          )

  pub tails-join : (node : ℕ) (step : Step) (rest : List ℕ) → LeadsFrom l chosen node step → is_word (drop (k + 1) raw.domains) rest ≡ true → is_tail raw choices (k + 1) step.node rest ≡ true →
      (is_word (drop k raw.domains) (step.value ∷ rest) ≡ true) × (is_tail raw choices k node (step.value ∷ rest) ≡ true)
  tails-join node step rest slot over tail =
      let two = both (accepts (drop (k + 1) (levels raw)) (Some step.node) rest) (agrees choices (k + 1) rest) tail in
      let within = slot.value in
      let less : nat_lt step.value (slice_index raw.domains k) ≡ true = grind (arith, nat_tests) in (
        over_is step.value rest ∙ together (nat_lt step.value (slice_index raw.domains k)) (is_word (drop (k + 1) raw.domains) rest) less over,
        far_is step.value node rest ∙ together (accepts (drop (k + 1) (levels raw)) (edge l node step.value) rest) (is_allowed chosen step.value && agrees choices (k + 1) rest)
            (ap (λ o. accepts (drop (k + 1) (levels raw)) o rest) slot.leads ∙ two.0) (together (is_allowed chosen step.value) (agrees choices (k + 1) rest) slot.allowed two.1),
      )

  pub tails-layer : (costs : List (List CostPair)) → AreCostsOf raw.domains costs → (row : List (Option Kept)) (old anew marks : Marks) → IsLabelled (drop (k + 1) costs) (tails raw choices (k + 1)) (slice_index raw.sizes (k + 1)) row →
      ((node : ℕ) → option_map weighed (slice_index_or row node None) ≡ weight_at old node) → AreRanksAnew old anew → All (IsBelow anew.limit) anew.weights → AreNextTails l chosen (slice_index_or costs k []) anew marks → length marks.steps ≡ length marks.weights →
      IsLabelled (drop k costs) (tails raw choices k) (slice_index raw.sizes k) (kept_row Tails row marks.weights marks.steps)
  tails-layer costs are row old anew marks labelled weighs ranks below next steps =
      labelled-far (drop (k + 1) costs) (drop k costs) prices (is_tail raw choices (k + 1)) (is_tail raw choices k) (drop (k + 1) raw.domains) (drop k raw.domains) (LeadsFrom l chosen) (λ p v. v ∷ p) tails-parts tails-join
      (λ rest v over. cost_at_begin costs k rest v (omega (arith, lt, length-costs raw.domains costs are)))
      (λ rest other v over also. same_begin rest other v)
      (coming_from anew.limit prices) (λ v r. refl) anew.limit
      (λ node other s t r q rest beside p also small few over over2 e f. ordered s.value t.value r.rank q.rank rest beside small few e f)
      (slice_index raw.sizes (k + 1)) now (are_kept (drop (k + 1) costs) (tails raw choices (k + 1)) (slice_index raw.sizes (k + 1)) row old anew labelled weighs ranks)
      (λ node step slot. inside (level raw k).next (edge l node step.value) step.node (outside_row l (canonical.canonical k lt) node step.value) slot.leads)
      (λ node kept e. below-at anew.limit anew.weights node (weighed kept) below (sym (weighed-reranked (slice_index_or row node None) (weight_at anew node) (has node)) ∙ ap (option_map weighed) e))
      (slice_index raw.sizes k) (weight_at marks) (step_at marks) (kept_row Tails row marks.weights marks.steps)
      (length-kept_row Tails row marks.weights marks.steps steps ∙ next.nodes)
      (λ node less. kept_row-at Tails row marks.weights marks.steps node (record { node = 0; value = 0 }) steps
      ∙ ap (λ p. option_map (λ (r : Ranked). record { pair = r.pair; rank = r.rank; path = (step_at marks node).value ∷ p }) (weight_at marks node)) (sym (path_of-stays (slice_index_or row (step_at marks node).node None) (weight_at anew (step_at marks node).node) (has (step_at marks node).node))))
      (λ node less. least-same (LeadsFrom l chosen node) (LeadsFrom l chosen node) (backward prices anew) (λ step. option_map (λ kept. coming_from anew.limit prices step.value (weighed kept)) (now step.node)) (weight_at marks node) (step_at marks node)
      (λ o x. x) (λ o x. x) (λ o x. ap (option_map (coming_from anew.limit prices o.value)) (sym (weighed-reranked (slice_index_or row o.node None) (weight_at anew o.node) (has o.node))) ∙ twice weighed (coming_from anew.limit prices o.value) (now o.node)) (next.least node less))
    where
      prices : List CostPair
      prices = slice_index_or costs k []

      now : ℕ → Option Kept
      now node = reranked (slice_index_or row node None) (weight_at anew node)

      has : (node : ℕ) → option_map (λ (r : Ranked). r.pair) (weight_at anew node) ≡ option_map (λ (x : Kept). x.pair) (slice_index_or row node None)
      has = pairs (drop (k + 1) costs) (tails raw choices (k + 1)) (slice_index raw.sizes (k + 1)) row old anew labelled weighs ranks

      ordered : (v w r q : ℕ) (rest beside : List ℕ) → r < anew.limit → q < anew.limit → nat_lt r q ≡ comes_before rest beside → nat_lt q r ≡ comes_before beside rest →
          nat_lt (r + v * anew.limit) (q + w * anew.limit) ≡ (nat_lt v w || (v == w && comes_before rest beside))
      ordered v w r q rest beside small few e f =
          let first : r + v * anew.limit ≡ v * anew.limit + r = omega arith in
          let second : q + w * anew.limit ≡ w * anew.limit + q = omega arith in
          ap (λ n. nat_lt n (q + w * anew.limit)) first ∙ ap (nat_lt (v * anew.limit + r)) second ∙ composite v w anew.limit r q small few
          ∙ ap (λ b. nat_lt v w || (not (nat_lt w v) && b)) e ∙ sym (one_form v w (comes_before rest beside))
