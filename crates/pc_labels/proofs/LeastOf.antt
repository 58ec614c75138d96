-- The least of what steps offer, as more steps are looked at.
use Rattle.std.proofs.Common.{◌≡◌, ◌⊎◌, true, false, Option, None, refl, sym, ap, ◌∙◌, ⊎_elim}
use Rattle.std.proofs.lemmas.Bool.{both_ways, false_from_ne_true}
use Rattle.pc_diagram.specs.declared.weight.Ranked.{Ranked}
use Rattle.pc_diagram.specs.Weight.{is_less}
use Rattle.pc_labels.specs.declared.step.Step.{Step}
use Rattle.pc_labels.specs.Slots.{IsLeastOf}
use Rattle.pc_labels.proofs.LessOrder.{is_less_order}

-- nothing is less than itself
pub less-irreflexive : (w : Option Ranked) → is_less w w ≡ false
less-irreflexive w = false_from_ne_true (is_less w w) (λ t. both_ways (is_less w w) (is_less_order.one_way w w t) t)

-- more steps, whose offers aren't less
pub least-kept : (A B : Step → Type 0) (offer : Step → Option Ranked) (weight : Option Ranked) (step : Step) → ((o : Step) → A o → B o) → ((o : Step) → B o → A o ⊎ (is_less (offer o) weight ≡ false)) →
    IsLeastOf A offer weight step → IsLeastOf B offer weight step
least-kept A B offer weight step up down h = record {
  offered = λ some. let here = h.offered some in (up step here.0, here.1);
  least = λ o b. ⊎_elim (λ a. h.least o a) (λ f. f) (down o b);
}

-- one step more, whose offer is less
pub least-taken : (A B : Step → Type 0) (offer : Step → Option Ranked) (weight : Option Ranked) (step next : Step) → B next → ((o : Step) → B o → A o ⊎ (o ≡ next)) → is_less (offer next) weight ≡ true →
    IsLeastOf A offer weight step → IsLeastOf B offer (offer next) next
least-taken A B offer weight step next here down less h = record {
  offered = λ some. (here, refl);
  least = λ o b. ⊎_elim
      (λ a. is_less_order.chain (offer o) weight (offer next) (h.least o a) (is_less_order.one_way (offer next) weight less))
      (λ e. ap (λ s. is_less (offer s) (offer next)) e ∙ less-irreflexive (offer next))
      (down o b);
}

-- no step yet
pub least-none : (A : Step → Type 0) (offer : Step → Option Ranked) (step : Step) → ((o : Step) → A o → ⊥) → IsLeastOf A offer None step
least-none A offer step none = record {
  offered = λ some. absurd (some refl);
  least = λ o a. absurd (none o a);
}

-- the same steps with the same offers
pub least-same : (A B : Step → Type 0) (f g : Step → Option Ranked) (weight : Option Ranked) (step : Step) → ((o : Step) → A o → B o) → ((o : Step) → B o → A o) → ((o : Step) → A o → f o ≡ g o) →
    IsLeastOf A f weight step → IsLeastOf B g weight step
least-same A B f g weight step up down same h = record {
  offered = λ some. let here = h.offered some in (up step here.0, sym (same step here.0) ∙ here.1);
  least = λ o b. ap (λ w. is_less w weight) (sym (same o (down o b))) ∙ h.least o (down o b);
}
