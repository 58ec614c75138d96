-- The next layer of heads, slot by slot.
use Rattle.std.proofs.Common.{◌≡◌, ◌≢◌, ◌⊎◌, inl, inr, ℕ, ◌+◌, ◌*◌, ◌<◌, ◌≤◌, nat_lt, ◌==◌, Bool, true, false, if◌then◌else◌, length, replicate, Option, Some, None, IfSome, option_map, unwrap_or, refl, sym, ap, ◌∙◌, subst, ⊎_elim, arith}
use Rattle.std.specs.Prelude.{slice_index_or, slice_set}
use Rattle.std.proofs.lemmas.Bool.{both_ways}
use Rattle.std.proofs.lemmas.Bool.Decides.{nat_tests}
use Rattle.std.proofs.lemmas.List.{length-set, get_or-set_same, get_or-set_other, length-replicate, get_or-replicate}
use Rattle.pc_diagram.specs.declared.weight.Ranked.{Ranked}
use Rattle.pc_diagram.specs.Levels.{Level, edge}
use Rattle.pc_diagram.specs.Weight.{is_less, plus, plus_ranked, with_rank, IsRanked}
use Rattle.pc_labels.specs.declared.slots.Slots.{Slots}
use Rattle.pc_labels.specs.declared.step.Step.{Step}
use Rattle.pc_labels.specs.Marks.{Marks, weight_at, offered, IsBelow}
use Rattle.pc_labels.specs.Slots.{IsLeastOf}
use Rattle.pc_labels.specs.SoFar.{step_at, slot_weight, onward_by, HasPlace, HasLed, AreHeadsSoFar}
use Rattle.pc_labels.proofs.LeastOf.{least-kept, least-taken, least-none}

-- one below the next number
pub split : (m n : ℕ) → m < n + 1 → (m < n) ⊎ (m ≡ n)
split m n lt = by (nat_lt m n) refl
  where
    by : (b : Bool) → nat_lt m n ≡ b → (m < n) ⊎ (m ≡ n)
    by true e = inl (grind (arith, nat_tests))
    by false e = inr (grind (arith, nat_tests))

pub same_step : (o : Step) (node value : ℕ) → o.node ≡ node → o.value ≡ value → o ≡ record { node = node; value = value }
same_step o node value e f = ap (λ n. record { node = n; value = o.value }) e ∙ ap (λ v. record { node = node; value = v }) f

one_target : (l : Level) (o : Step) (node value target other : ℕ) → o.node ≡ node → o.value ≡ value → edge l node value ≡ Some target → edge l o.node o.value ≡ Some other → other ≡ target
one_target l o node value target other e f h k =
    let same : Some other ≡ Some target = sym k ∙ ap (λ n. edge l n o.value) e ∙ ap (edge l node) f ∙ h in
    ap (λ x. unwrap_or x 0) same

module _ (l : Level) (slots : Slots) (before : Marks) where
  -- more that has led, all of which had led before or offers nothing less
  wider : (node value node2 value2 : ℕ) (marks : Marks) → ((target : ℕ) (o : Step) → HasLed l slots node value target o → HasLed l slots node2 value2 target o) →
      ((target : ℕ) (o : Step) → HasLed l slots node2 value2 target o → HasLed l slots node value target o ⊎ (is_less (onward_by l.domain slots before o) (weight_at marks target) ≡ false)) →
      AreHeadsSoFar l slots before node value marks → AreHeadsSoFar l slots before node2 value2 marks
  wider node value node2 value2 marks up down h = record {
    nodes = h.nodes;
    steps = h.steps;
    limit = h.limit;
    least = λ target lt. least-kept (HasLed l slots node value target) (HasLed l slots node2 value2 target) (onward_by l.domain slots before) (weight_at marks target) (step_at marks target) (up target) (down target) (h.least target lt);
  }

  later : (node value value2 target : ℕ) → value ≤ value2 → (o : Step) → HasLed l slots node value target o → HasLed l slots node value2 target o
  later node value value2 target le o h = record { before = h.before; of_slots = h.of_slots; leads = h.leads; past = ⊎_elim inl (λ p. inr (p.0, (omega (arith, p.1)))) h.past }

  -- no slot comes before the first
  pub heads-first : (node : ℕ) (marks : Marks) → AreHeadsSoFar l slots before node 0 marks → AreHeadsSoFar l slots before node slots.values.first marks
  heads-first node marks h =
      wider node 0 node slots.values.first marks (λ target. later node 0 slots.values.first target (omega arith)) down h
    where
      down : (target : ℕ) (o : Step) → HasLed l slots node slots.values.first target o → HasLed l slots node 0 target o ⊎ (is_less (onward_by l.domain slots before o) (weight_at marks target) ≡ false)
      down target o k = inl (record { before = k.before; of_slots = k.of_slots; leads = k.leads; past = ⊎_elim inl (λ p. absurd (omega (arith, p.1, k.of_slots.0))) k.past })

  -- a slot with no edge
  pub heads-dead : (node value : ℕ) (marks : Marks) → edge l node value ≡ None → AreHeadsSoFar l slots before node value marks → AreHeadsSoFar l slots before node (value + 1) marks
  heads-dead node value marks dead h =
      wider node value node (value + 1) marks (λ target. later node value (value + 1) target (omega arith)) down h
    where
      down : (target : ℕ) (o : Step) → HasLed l slots node (value + 1) target o → HasLed l slots node value target o ⊎ (is_less (onward_by l.domain slots before o) (weight_at marks target) ≡ false)
      down target o k = ⊎_elim
          (λ p. inl (record { before = k.before; of_slots = k.of_slots; leads = k.leads; past = inl p }))
          (λ p. ⊎_elim
          (λ lt. inl (record { before = k.before; of_slots = k.of_slots; leads = k.leads; past = inr (p.0, lt) }))
          (λ e. let same : Some target ≡ None = sym k.leads ∙ ap (λ n. edge l n o.value) p.0 ∙ ap (edge l node) e ∙ dead in absurd cc)
          (split o.value value p.1))
          k.past

  -- all slots of a node were looked at
  pub heads-end : (node value : ℕ) (marks : Marks) → slots.values.end ≤ value → AreHeadsSoFar l slots before node value marks → AreHeadsSoFar l slots before (node + 1) 0 marks
  heads-end node value marks le h =
      wider node value (node + 1) 0 marks up down h
    where
      up : (target : ℕ) (o : Step) → HasLed l slots node value target o → HasLed l slots (node + 1) 0 target o
      up target o k = record { before = k.before; of_slots = k.of_slots; leads = k.leads; past = ⊎_elim (λ p. inl (omega (arith, p))) (λ p. inl (omega (arith, p.0))) k.past }

      down : (target : ℕ) (o : Step) → HasLed l slots (node + 1) 0 target o → HasLed l slots node value target o ⊎ (is_less (onward_by l.domain slots before o) (weight_at marks target) ≡ false)
      down target o k = ⊎_elim
          (λ p. inl (record { before = k.before; of_slots = k.of_slots; leads = k.leads; past = ⊎_elim inl (λ e. inr (e, omega (arith, le, k.of_slots.1))) (split o.node node p) }))
          (λ p. absurd (omega (arith, p.1)))
          k.past

  -- a node with no path
  pub heads-pathless : (node : ℕ) (marks : Marks) → weight_at before node ≡ None → AreHeadsSoFar l slots before node 0 marks → AreHeadsSoFar l slots before (node + 1) 0 marks
  heads-pathless node marks none h =
      wider node 0 (node + 1) 0 marks up down h
    where
      up : (target : ℕ) (o : Step) → HasLed l slots node 0 target o → HasLed l slots (node + 1) 0 target o
      up target o k = record { before = k.before; of_slots = k.of_slots; leads = k.leads; past = ⊎_elim (λ p. inl (omega (arith, p))) (λ p. inl (omega (arith, p.0))) k.past }

      down : (target : ℕ) (o : Step) → HasLed l slots (node + 1) 0 target o → HasLed l slots node 0 target o ⊎ (is_less (onward_by l.domain slots before o) (weight_at marks target) ≡ false)
      down target o k = ⊎_elim
          (λ p. ⊎_elim
          (λ lt. inl (record { before = k.before; of_slots = k.of_slots; leads = k.leads; past = inl lt }))
          (λ e. inr (ap (λ w. is_less (plus (option_map (λ r. with_rank (r.rank * l.domain) r) w) (slot_weight slots o)) (weight_at marks target)) (ap (weight_at before) e ∙ none)))
          (split o.node node p))
          (λ p. absurd (omega (arith, p.1)))
          k.past

  -- a slot with an edge
  pub heads-live : (node value target : ℕ) (marks : Marks) → node < l.size → (slots.values.first ≤ value) × (value < slots.values.end) → edge l node value ≡ Some target →
      AreHeadsSoFar l slots before node value marks → AreHeadsSoFar l slots before node (value + 1) (offered marks target (onward_by l.domain slots before (record { node = node; value = value })) (record { node = node; value = value }))
  heads-live node value target marks lt of leads h = by (is_less (offer here) (weight_at marks target)) refl
    where
      here : Step
      here = record { node = node; value = value }

      offer : Step → Option Ranked
      offer = onward_by l.domain slots before

      up : (t : ℕ) (o : Step) → HasLed l slots node value t o → HasLed l slots node (value + 1) t o
      up t = later node value (value + 1) t (omega arith)

      -- what has led now had led before, or is this step
      down : (t : ℕ) (o : Step) → HasLed l slots node (value + 1) t o → HasLed l slots node value t o ⊎ ((o ≡ here) × (t ≡ target))
      down t o k = ⊎_elim
          (λ p. inl (record { before = k.before; of_slots = k.of_slots; leads = k.leads; past = inl p }))
          (λ p. ⊎_elim
          (λ less. inl (record { before = k.before; of_slots = k.of_slots; leads = k.leads; past = inr (p.0, less) }))
          (λ e. inr (same_step o node value p.0 e, one_target l o node value target t p.0 e leads k.leads))
          (split o.value value p.1))
          k.past

      by : (b : Bool) → is_less (offer here) (weight_at marks target) ≡ b → AreHeadsSoFar l slots before node (value + 1)
          (if b then record { weights = slice_set marks.weights target (offer here); steps = slice_set marks.steps target here; limit = marks.limit } else marks)
      by false e = wider node value node (value + 1) marks up (λ t o k. ⊎_elim inl (λ p. inr (ap (λ s. is_less (offer s) (weight_at marks t)) p.0 ∙ ap (λ n. is_less (offer here) (weight_at marks n)) p.1 ∙ e)) (down t o k)) h
      by true e = record {
        nodes = length-set marks.weights target (offer here) ∙ h.nodes;
        steps = length-set marks.steps target here ∙ h.steps;
        limit = h.limit;
        least = λ t inside. each t inside (t == target) refl;
      }
        where
          new : Marks
          new = record { weights = slice_set marks.weights target (offer here); steps = slice_set marks.steps target here; limit = marks.limit }

          each : (t : ℕ) → t < l.next → (b : Bool) → (t == target) ≡ b → IsLeastOf (HasLed l slots node (value + 1) t) offer (weight_at new t) (step_at new t)
          each t inside true same =
              let tt : t ≡ target = grind (arith, nat_tests) in
              let within : target < l.next = omega (arith, inside, tt) in
              let now = HasLed l slots node (value + 1) target in
              let taken : IsLeastOf now offer (offer here) here =
              least-taken (HasLed l slots node value target) now offer (weight_at marks target) (step_at marks target) here
              (record { before = lt; of_slots = of; leads = leads; past = inr (refl, omega arith) }) (λ o k. ⊎_elim inl (λ p. inr p.0) (down target o k)) e (h.least target within) in
              let weight_is : weight_at new target ≡ offer here = get_or-set_same marks.weights target (offer here) None (omega (arith, within, h.nodes)) in
              let step_is : step_at new target ≡ here = get_or-set_same marks.steps target here (record { node = 0; value = 0 }) (omega (arith, within, h.steps)) in
              subst (λ n. IsLeastOf (HasLed l slots node (value + 1) n) offer (weight_at new n) (step_at new n)) (sym tt)
              (subst (λ w. IsLeastOf now offer w (step_at new target)) (sym weight_is) (subst (λ s. IsLeastOf now offer (offer here) s) (sym step_is) taken))
          each t inside false same =
              let ne : t ≢ target = λ q. both_ways (t == target) same (grind (arith, nat_tests)) in
              let now = HasLed l slots node (value + 1) t in
              let kept : IsLeastOf now offer (weight_at marks t) (step_at marks t) =
              least-kept (HasLed l slots node value t) now offer (weight_at marks t) (step_at marks t) (up t) (λ o k. ⊎_elim inl (λ p. absurd (ne p.1)) (down t o k)) (h.least t inside) in
              let weight_is : weight_at new t ≡ weight_at marks t = get_or-set_other marks.weights target t (offer here) None ne in
              let step_is : step_at new t ≡ step_at marks t = get_or-set_other marks.steps target t here (record { node = 0; value = 0 }) ne in
              subst (λ w. IsLeastOf now offer w (step_at new t)) (sym weight_is) (subst (λ s. IsLeastOf now offer (weight_at marks t) s) (sym step_is) kept)

  -- before any slot was looked at, no node has a path
  pub heads-start : (marks : Marks) → marks.weights ≡ replicate l.next None → length marks.steps ≡ l.next → marks.limit ≡ before.limit * l.domain → AreHeadsSoFar l slots before 0 0 marks
  heads-start marks e back f = record {
    nodes = ap length e ∙ length-replicate l.next None;
    steps = back;
    limit = f;
    least = λ target lt.
        let none : weight_at marks target ≡ None = ap (λ ws. slice_index_or ws target None) e ∙ get_or-replicate l.next target None None lt in
        subst (λ w. IsLeastOf (HasLed l slots 0 0 target) (onward_by l.domain slots before) w (step_at marks target)) (sym none)
        (least-none (HasLed l slots 0 0 target) (onward_by l.domain slots before) (step_at marks target) (λ o k. ⊎_elim (λ p. omega (arith, p)) (λ p. omega (arith, p.1)) k.past));
  }

-- two weights with place for their sum
pub sum-in_range : (limit : ℕ) (a b : Option Ranked) → HasPlace limit a b → IfSome a (λ x. IfSome b (λ y. IsRanked (plus_ranked x y)))
sum-in_range limit None b h = tt
sum-in_range limit (Some x) None h = tt
sum-in_range limit (Some x) (Some y) h = (h x y refl refl).0

pub sum-below : (limit : ℕ) (a b : Option Ranked) → HasPlace limit a b → IsBelow limit (plus a b)
sum-below limit None b h = tt
sum-below limit (Some x) None h = tt
sum-below limit (Some x) (Some y) h = (h x y refl refl).1

pub in_range-of : (limit : ℕ) (a b x y : Option Ranked) → HasPlace limit a b → x ≡ a → y ≡ b → IfSome x (λ v. IfSome y (λ w. IsRanked (plus_ranked v w)))
in_range-of limit a b x y h e f = rw e (rw f (sum-in_range limit a b h))

pub below-of : (limit most : ℕ) (a b w : Option Ranked) → HasPlace limit a b → most ≡ limit → w ≡ plus a b → IsBelow most w
below-of limit most a b w h e f = rw e (rw f (sum-below limit a b h))
