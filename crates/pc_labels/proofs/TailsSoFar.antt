-- The layer before, node by node and slot by slot.
use Rattle.std.proofs.Common.{◌≡◌, ◌≢◌, ◌⊎◌, inl, inr, ℕ, ◌+◌, ◌*◌, ◌<◌, ◌≤◌, nat_lt, Bool, true, false, if◌then◌else◌, length, replicate, Option, Some, None, unwrap_or, refl, sym, ap, ◌∙◌, subst, ⊎_elim, arith}
use Rattle.std.specs.Prelude.{slice_index_or, slice_set}
use Rattle.std.proofs.Math.ListN.{get_or-eq_default}
use Rattle.std.proofs.lemmas.Bool.{cond_both}
use Rattle.std.proofs.lemmas.Bool.Decides.{nat_tests}
use Rattle.std.proofs.lemmas.List.{length-set, get_or-set_same, get_or-set_other, length-replicate, get_or-replicate}
use Rattle.pc_diagram.specs.declared.weight.Ranked.{Ranked}
use Rattle.pc_diagram.specs.Levels.{Level, edge}
use Rattle.pc_diagram.specs.Weight.{is_less}
use Rattle.pc_labels.specs.declared.slots.Slots.{Slots}
use Rattle.pc_labels.specs.declared.step.Step.{Step}
use Rattle.pc_labels.specs.declared.from_end.Mark.{Mark}
use Rattle.pc_labels.specs.Lesser.{lesser}
use Rattle.pc_labels.specs.Marks.{Marks, IsBelow, weight_at, offered}
use Rattle.pc_labels.specs.Slots.{IsLeastOf}
use Rattle.pc_labels.specs.SoFar.{step_at, backward_by, HasLedOn, AreTailsSoFar}
use Rattle.pc_labels.proofs.HeadsSoFar.{split}
use Rattle.pc_labels.proofs.LeastOf.{least-kept, least-taken, least-none}

module _ (l : Level) (slots : Slots) (after : Marks) (node : ℕ) where
  offer : Step → Option Ranked
  offer = backward_by slots after

  later : (value : ℕ) (o : Step) → HasLedOn l slots node value o → HasLedOn l slots node (value + 1) o
  later value o h = record { of_slots = h.of_slots; leads = h.leads; past = omega (arith, h.past) }

  -- no slot comes before the first
  pub tails-first : (step : Step) → IsLeastOf (HasLedOn l slots node slots.values.first) (backward_by slots after) None step
  tails-first step = least-none (HasLedOn l slots node slots.values.first) (backward_by slots after) step (λ o h. omega (arith, h.past, h.of_slots.0))

  earlier : (value : ℕ) (o : Step) → HasLedOn l slots node (value + 1) o → HasLedOn l slots node value o ⊎ (o.value ≡ value)
  earlier value o h = ⊎_elim (λ lt. inl (record { of_slots = h.of_slots; leads = h.leads; past = lt })) inr (split o.value value h.past)

  -- a slot with no edge
  pub tails-dead : (value : ℕ) (weight : Option Ranked) (step : Step) → edge l node value ≡ None → IsLeastOf (HasLedOn l slots node value) (backward_by slots after) weight step → IsLeastOf (HasLedOn l slots node (value + 1)) (backward_by slots after) weight step
  tails-dead value weight step dead h = least-kept (HasLedOn l slots node value) (HasLedOn l slots node (value + 1)) (backward_by slots after) weight step (later value)
      (λ o k. ⊎_elim inl (λ e. let same : Some o.node ≡ None = sym k.leads ∙ ap (edge l node) e ∙ dead in absurd cc) (earlier value o k)) h

  -- a slot with an edge
  pub tails-live : (value target : ℕ) (least : Mark) → (slots.values.first ≤ value) × (value < slots.values.end) → edge l node value ≡ Some target → IsLeastOf (HasLedOn l slots node value) (backward_by slots after) least.weight least.step →
      (next : Mark) → next ≡ lesser least (record { weight = backward_by slots after (record { node = target; value = value }); step = record { node = target; value = value } }) →
      IsLeastOf (HasLedOn l slots node (value + 1)) (backward_by slots after) next.weight next.step
  tails-live value target least of leads h next is =
      subst (λ (m : Mark). IsLeastOf now (backward_by slots after) m.weight m.step) (sym is) (by (is_less (backward_by slots after here) least.weight) refl)
    where
      here : Step
      here = record { node = target; value = value }

      now : Step → Type 0
      now = HasLedOn l slots node (value + 1)

      same : (o : Step) → now o → o.value ≡ value → o ≡ here
      same o k e =
          let t : Some o.node ≡ Some target = sym k.leads ∙ ap (edge l node) e ∙ leads in
          ap (λ n. record { node = n; value = o.value }) (ap (λ x. unwrap_or x 0) t) ∙ ap (λ v. record { node = target; value = v }) e

      by : (b : Bool) → is_less (backward_by slots after here) least.weight ≡ b → IsLeastOf now (backward_by slots after) (if b then record { weight = backward_by slots after here; step = here } else least).weight (if b then record { weight = backward_by slots after here; step = here } else least).step
      by true e = least-taken (HasLedOn l slots node value) now (backward_by slots after) least.weight least.step here (record { of_slots = of; leads = leads; past = omega arith })
          (λ o k. ⊎_elim inl (λ q. inr (same o k q)) (earlier value o k)) e h
      by false e = least-kept (HasLedOn l slots node value) now (backward_by slots after) least.weight least.step (later value)
          (λ o k. ⊎_elim inl (λ q. inr (ap (λ s. is_less (backward_by slots after s) least.weight) (same o k q) ∙ e)) (earlier value o k)) h

pub lesser-below : (limit : ℕ) (first second next : Mark) → IsBelow limit first.weight → IsBelow limit second.weight → next ≡ lesser first second → IsBelow limit next.weight
lesser-below limit first second next h k e = subst (λ (m : Mark). IsBelow limit m.weight) (sym e) (cond_both (is_less second.weight first.weight) second first (λ (m : Mark). IsBelow limit m.weight) (λ _. k) (λ _. h))

-- the least of what a node leads to is put in place
pub tails-next : (l : Level) (slots : Slots) (after : Marks) (node : ℕ) (marks : Marks) (mark : Mark) → IsLeastOf (HasLedOn l slots node slots.values.end) (backward_by slots after) mark.weight mark.step →
    AreTailsSoFar l slots after node marks → node < l.size → AreTailsSoFar l slots after (node + 1) (offered marks node mark.weight mark.step)
tails-next l slots after node marks mark here h lt = by (is_less mark.weight (weight_at marks node)) refl
  where
    offer : Step → Option Ranked
    offer = backward_by slots after

    led : ℕ → Step → Type 0
    led source = HasLedOn l slots source slots.values.end

    by : (b : Bool) → is_less mark.weight (weight_at marks node) ≡ b → AreTailsSoFar l slots after (node + 1)
        (if b then record { weights = slice_set marks.weights node mark.weight; steps = slice_set marks.steps node mark.step; limit = marks.limit } else marks)
    by false e = record {
      nodes = h.nodes;
      steps = h.steps;
      limit = h.limit;
      least = λ source below inside. ⊎_elim (λ p. h.least source p inside) (λ p. subst (λ n. IsLeastOf (led n) offer (weight_at marks n) (step_at marks n)) (sym p) nothing) (split source node below);
      rest = λ source le. h.rest source (omega (arith, le));
    }
      where
        none : weight_at marks node ≡ None
        none = h.rest node (omega arith)

        none_here : mark.weight ≡ None
        none_here = by_weight mark.weight (ap (is_less mark.weight) (sym none) ∙ e)
          where
            by_weight : (w : Option Ranked) → is_less w None ≡ false → w ≡ None
            by_weight None f = refl
            by_weight (Some r) f = absurd cc

        nothing : IsLeastOf (led node) offer (weight_at marks node) (step_at marks node)
        nothing = record {
          offered = λ some. absurd (some none);
          least = λ o k. ap (is_less (offer o)) (none ∙ sym none_here) ∙ here.least o k;
        }
    by true e = record {
      nodes = length-set marks.weights node mark.weight ∙ h.nodes;
      steps = length-set marks.steps node mark.step ∙ h.steps;
      limit = h.limit;
      least = λ source below inside. ⊎_elim (λ p. kept source p inside) (λ p. subst (λ n. IsLeastOf (led n) offer (weight_at new n) (step_at new n)) (sym p) put) (split source node below);
      rest = λ source le. get_or-set_other marks.weights node source mark.weight None (apart source (omega (arith, le))) ∙ h.rest source (omega (arith, le));
    }
      where
        new : Marks
        new = record { weights = slice_set marks.weights node mark.weight; steps = slice_set marks.steps node mark.step; limit = marks.limit }

        apart : (source : ℕ) → node < source → source ≢ node
        apart source less e = omega (arith, less, e)

        put : IsLeastOf (led node) offer (weight_at new node) (step_at new node)
        put =
            let weight_is : weight_at new node ≡ mark.weight = get_or-set_same marks.weights node mark.weight None (omega (arith, lt, h.nodes)) in
            let step_is : step_at new node ≡ mark.step = get_or-set_same marks.steps node mark.step (record { node = 0; value = 0 }) (omega (arith, lt, h.steps)) in
            subst (λ w. IsLeastOf (led node) offer w (step_at new node)) (sym weight_is) (subst (λ s. IsLeastOf (led node) offer mark.weight s) (sym step_is) here)

        kept : (source : ℕ) → source < node → source < l.size → IsLeastOf (led source) offer (weight_at new source) (step_at new source)
        kept source less inside =
            let ne : source ≢ node = λ q. omega (arith, less, q) in
            subst (λ w. IsLeastOf (led source) offer w (step_at new source)) (sym (get_or-set_other marks.weights node source mark.weight None ne))
            (subst (λ s. IsLeastOf (led source) offer (weight_at marks source) s) (sym (get_or-set_other marks.steps node source mark.step (record { node = 0; value = 0 }) ne)) (h.least source less inside))

abbrev no_weight : Option Ranked
no_weight = None

-- before any node was looked at, none has a path
pub tails-start : (l : Level) (slots : Slots) (after marks : Marks) → marks.weights ≡ replicate l.size None → length marks.steps ≡ l.size → marks.limit ≡ after.limit * l.domain → AreTailsSoFar l slots after 0 marks
tails-start l slots after marks e back f = record {
  nodes = ap length e ∙ length-replicate l.size None;
  steps = back;
  limit = f;
  least = λ source below inside. absurd (omega (arith, below));
  rest = λ source le. ap (λ ws. slice_index_or ws source None) e ∙ none source (nat_lt source l.size) refl;
}
  where
    none : (source : ℕ) (b : Bool) → nat_lt source l.size ≡ b → slice_index_or (replicate l.size no_weight) source no_weight ≡ no_weight
    none source true f = get_or-replicate l.size source no_weight no_weight (grind (arith, nat_tests))
    none source false f = get_or-eq_default (replicate l.size no_weight) no_weight (let le : l.size ≤ source = grind (arith, nat_tests) in omega (arith, le, length-replicate l.size no_weight))
