-- Both orders of pairs add up, and bounds go with them.
use Rattle.std.proofs.Common.{◌≡◌, true, false, Option, Some, None, ℤ, ◌≤ℤ◌, refl, ap, arith}
use Rattle.std.specs.Prelude.{int_le}
use Rattle.std.proofs.lemmas.Int.{ints}
use Rattle.pc_diagram.specs.declared.bounds.Bounds.{Bounds}
use Rattle.pc_diagram.specs.declared.costs.CostPair.{CostPair}
use Rattle.pc_diagram.specs.declared.which.Which.{Which}
use Rattle.pc_diagram.specs.declared.which.Which.TheVariants.{First, Second}
use Rattle.pc_diagram.specs.Bounds.{allows, allows_pair}
use Rattle.pc_diagram.specs.Costs.{is_cheaper, part}
use Rattle.pc_diagram.specs.Weight.{plus_pair}
use Rattle.pc_diagram.proofs.ShapeLemmas.{both, together}
use Rattle.pc_domains.specs.Orders.{IsAtMost, IsNoDearer}
use Rattle.pc_domains.proofs.PartLemmas.{sum_no_cheaper}
use Rattle.pc_domains.proofs.WayLemmas.{AddsUp, IsDownward}

no_dearer_itself : (a : CostPair) → is_cheaper a a ≡ false
no_dearer_itself a = grind (arith, ints)

pub no_dearer_adds_up : AddsUp IsNoDearer
no_dearer_adds_up = record {
  itself = no_dearer_itself;
  sums = λ a b c d h k. sum_no_cheaper b a d c h k;
  no_cheaper = λ a b h. h;
}

record Both (a b : CostPair) : Type 0 where
  first : a.first ≤ℤ b.first
  second : a.second ≤ℤ b.second

both_at_most : (a b : CostPair) → IsAtMost a b → Both a b
both_at_most a b h =
    let two = both (int_le a.first b.first) (int_le a.second b.second) h in
    record { first = grind (arith, ints, two.0); second = grind (arith, ints, two.1) }

from_both : (a b : CostPair) → Both a b → IsAtMost a b
from_both a b h = together (int_le a.first b.first) (int_le a.second b.second) (grind (arith, ints, h.first)) (grind (arith, ints, h.second))

at_most_sums : (a b c d : CostPair) → IsAtMost a b → IsAtMost c d → IsAtMost (plus_pair a c) (plus_pair b d)
at_most_sums a b c d h k =
    let one = both_at_most a b h in
    let two = both_at_most c d k in
    from_both (plus_pair a c) (plus_pair b d) (record { first = omega (arith, ints, one.first, two.first); second = omega (arith, ints, one.second, two.second) })

at_most_no_cheaper : (a b : CostPair) → IsAtMost a b → is_cheaper b a ≡ false
at_most_no_cheaper a b h = let one = both_at_most a b h in grind (arith, ints, one.first, one.second)

pub at_most_adds_up : AddsUp IsAtMost
at_most_adds_up = record {
  itself = λ a. from_both a a (record { first = omega (arith, ints); second = omega (arith, ints) });
  sums = at_most_sums;
  no_cheaper = at_most_no_cheaper;
}

-- what is at most as much is allowed too
allows_less : (limit : Option ℤ) (a b : ℤ) → a ≤ℤ b → allows limit b ≡ true → allows limit a ≡ true
allows_less None a b h k = refl
allows_less (Some most) a b h k = grind (arith, ints, h)

pub at_most_downward : (bounds : Bounds) → IsDownward IsAtMost (allows_pair bounds)
at_most_downward bounds a b h k =
    let two = both (allows bounds.first b.first) (allows bounds.second b.second) k in
    let one = both_at_most a b h in
    together (allows bounds.first a.first) (allows bounds.second a.second) (allows_less bounds.first a.first b.first one.first two.0) (allows_less bounds.second a.second b.second one.second two.1)

pub no_dearer_first : (a b : CostPair) → is_cheaper b a ≡ false → a.first ≤ℤ b.first
no_dearer_first a b h = grind (arith, ints)

-- a bound on the first cost alone allows what is no dearer
pub no_dearer_downward : (bounds : Bounds) → bounds.second ≡ None → IsDownward IsNoDearer (allows_pair bounds)
no_dearer_downward bounds alone a b h k =
    let two = both (allows bounds.first b.first) (allows bounds.second b.second) k in
    together (allows bounds.first a.first) (allows bounds.second a.second) (allows_less bounds.first a.first b.first (no_dearer_first a b h) two.0) (ap (λ limit. allows limit a.second) alone)

-- what is at most as much is at most as much by either cost
pub at_most_part : (which : Which) (a b : CostPair) → IsAtMost a b → part which a ≤ℤ part which b
at_most_part First a b h = (both_at_most a b h).first
at_most_part Second a b h = (both_at_most a b h).second
