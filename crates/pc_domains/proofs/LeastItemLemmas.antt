-- One item more.
use Rattle.std.proofs.Common.{◌≡◌, ℕ, ◌+◌, ◌<◌, nat_lt, Bool, true, false, ℤ, ◌≤ℤ◌, List, Option, Some, None, if◌then◌else◌, slice_index_or, refl, subst, arith}
use Rattle.std.specs.Prelude.{int_le}
use Rattle.std.proofs.lemmas.Bool.{both_ways}
use Rattle.std.proofs.lemmas.Bool.Decides.{nat_tests}
use Rattle.std.proofs.lemmas.Int.{ints}
use Rattle.pc_diagram.specs.declared.bounds.Bounds.{Bounds}
use Rattle.pc_diagram.specs.declared.which.Which.{Which}
use Rattle.pc_diagram.specs.Bounds.{allows_pair}
use Rattle.pc_diagram.specs.Least.{lesser}
use Rattle.pc_pareto.specs.declared.front_item.FrontItem.{FrontItem}
use Rattle.pc_pareto.specs.Fronts.{no_item}
use Rattle.pc_pareto.specs.Items.{pair_of}
use Rattle.pc_domains.specs.Least.{IsLeastItem, IsLeastOf, IsWithinAt, item_cost}

module _ (bounds : Bounds) (which : Which) (items : List FrontItem) (count : ℕ) where
  abbrev pub allowed_at : ℕ → Bool
  allowed_at place = allows_pair bounds (pair_of (slice_index_or items place no_item))

  last_or_before : (P : ℕ → Type 0) → ((place : ℕ) → place < count → P place) → P count → (place : ℕ) → place < count + 1 → P place
  last_or_before P before last place inside = by (nat_lt place count) refl
    where
      by : (b : Bool) → nat_lt place count ≡ b → P place
      by true e = before place (grind (arith, nat_tests))
      by false e = let same : count ≡ place = grind (arith, nat_tests) in subst P same last

  -- an item that the bounds don't allow
  pub least_past : (least : Option ℤ) → IsLeastItem bounds which items count least → allowed_at count ≡ false → IsLeastItem bounds which items (count + 1) least
  least_past None is past = last_or_before (λ place. allowed_at place ≡ false) is past
  least_past (Some cost) is past = record {
    place = is.place;
    inside = omega (arith, is.inside);
    within = is.within;
    is = is.is;
    least = last_or_before (λ place. IsWithinAt bounds items place → cost ≤ℤ item_cost which items place) is.least (λ within. absurd (both_ways (allowed_at count) past within));
  }

  no_more : (z : ℤ) → z ≤ℤ z
  no_more z = omega (arith, ints)

  no_less : (z y : ℤ) → int_le z y ≡ false → y ≤ℤ z
  no_less z y e = grind (arith, ints)

  at_most : (z y w : ℤ) → int_le z y ≡ true → y ≤ℤ w → z ≤ℤ w
  at_most z y w e h = grind (arith, ints, h)

  -- and one that they allow
  pub least_more : (least : Option ℤ) → IsLeastItem bounds which items count least → allowed_at count ≡ true → IsLeastItem bounds which items (count + 1) (Some (lesser (item_cost which items count) least))
  least_more None is within = record {
    place = count;
    inside = omega arith;
    within = within;
    is = refl;
    least = last_or_before (λ place. IsWithinAt bounds items place → item_cost which items count ≤ℤ item_cost which items place) (λ place inside allowed. absurd (both_ways (allowed_at place) (is place inside) allowed)) (λ allowed. no_more (item_cost which items count));
  }
  least_more (Some cost) is within = by (int_le (item_cost which items count) cost) refl
    where
      by : (b : Bool) → int_le (item_cost which items count) cost ≡ b → IsLeastOf bounds which items (count + 1) (if b then item_cost which items count else cost)
      by true e = record {
        place = count;
        inside = omega arith;
        within = within;
        is = refl;
        least = last_or_before (λ place. IsWithinAt bounds items place → item_cost which items count ≤ℤ item_cost which items place) (λ place inside allowed. at_most (item_cost which items count) cost (item_cost which items place) e (is.least place inside allowed)) (λ allowed. no_more (item_cost which items count));
      }
      by false e = record {
        place = is.place;
        inside = omega (arith, is.inside);
        within = is.within;
        is = is.is;
        least = last_or_before (λ place. IsWithinAt bounds items place → cost ≤ℤ item_cost which items place) is.least (λ allowed. no_less (item_cost which items count) cost e);
      }
