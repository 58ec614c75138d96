-- Falling fronts, and the least of their joins.
use Rattle.std.proofs.Common.{◌≡◌, ℕ, zero, suc, ◌+◌, ◌-◌, ◌<◌, ◌≤◌, nat_lt, Bool, true, false, not, ◌&&◌, ◌||◌, List, [], ◌∷◌, length, map, slice_index_or, Option, Some, None, ℤ, ◌<ℤ◌, ◌≤ℤ◌, refl, sym, ap, subst, ◌∙◌, arith}
use Rattle.std.specs.Prelude.{if◌then◌else◌}
use Rattle.std.specs.List.{AllByRecursion}
use Rattle.std.proofs.lemmas.Bool.{both_ways}
use Rattle.std.proofs.lemmas.Bool.Decides.{nat_tests}
use Rattle.std.proofs.lemmas.Int.{ints}
use Rattle.pc_diagram.specs.declared.costs.CostPair.{CostPair}
use Rattle.pc_diagram.specs.declared.bounds.Bounds.{Bounds}
use Rattle.pc_diagram.specs.declared.weight.Ranked.{Ranked}
use Rattle.pc_diagram.specs.Bounds.{allows, allows_pair}
use Rattle.pc_diagram.specs.Costs.{is_cheaper}
use Rattle.pc_diagram.proofs.CheaperOrder.{is_cheaper_order}
use Rattle.pc_diagram.proofs.ShapeLemmas.{together}
use Rattle.pc_pareto.specs.declared.front_item.FrontItem.{FrontItem}
use Rattle.pc_pareto.specs.Front.{Falls}
use Rattle.pc_pareto.specs.Items.{pair_of}
use Rattle.pc_domains.specs.declared.join.Join.{Join}
use Rattle.pc_pareto.specs.Fronts.{no_item}
use Rattle.pc_domains.specs.Joins.{IsLeastJoin, is_less, joined, joined_at, lesser, lesser_of}

-- one pair costs more than another by the first cost, and less by the second
pub record IsLater (pair later : CostPair) : Type 0 where
  pub first : pair.first <ℤ later.first
  pub second : later.second <ℤ pair.second

later_at : (pair : CostPair) (items : List FrontItem) (place : ℕ) → AllByRecursion (λ later. (pair.first <ℤ later.first) × (later.second <ℤ pair.second)) (map pair_of items) → place < length items → IsLater pair (pair_of (slice_index_or items place no_item))
later_at pair [] place h lt = absurd (omega arith)
later_at pair (item ∷ items) zero h lt = record { first = h.0.0; second = h.0.1 }
later_at pair (item ∷ items) (suc place) h lt = later_at pair items place h.1 (omega arith)

-- of two items of a front the one further on is later
pub falls_at : (items : List FrontItem) (place other : ℕ) → Falls (map pair_of items) → place < other → other < length items → IsLater (pair_of (slice_index_or items place no_item)) (pair_of (slice_index_or items other no_item))
falls_at [] place other h lt inside = absurd (omega arith)
falls_at (item ∷ items) place zero h lt inside = absurd (omega arith)
falls_at (item ∷ items) zero (suc other) h lt inside = later_at (pair_of item) items other h.0 (omega arith)
falls_at (item ∷ items) (suc place) (suc other) h lt inside = falls_at items place other h.1 (omega arith) (omega arith)

-- a bound that allows a cost allows a lesser one, and one that excludes it excludes a greater one
pub allows_lesser : (most : Option ℤ) (a b : ℤ) → b ≤ℤ a → allows most a ≡ true → allows most b ≡ true
allows_lesser None a b h k = refl
allows_lesser (Some limit) a b h k = grind (arith, ints, h)

pub excludes_greater : (most : Option ℤ) (a b : ℤ) → a ≤ℤ b → allows most a ≡ false → allows most b ≡ false
excludes_greater None a b h k = absurd cc
excludes_greater (Some limit) a b h k = grind (arith, ints, h)

-- a place or one further on
pub at_or_after : (P : ℕ → Type 0) (place k : ℕ) → 0 < place → place - 1 ≤ k → P (place - 1) → (place ≤ k → P k) → P k
at_or_after P place k some le here after = by (nat_lt (place - 1) k) refl
  where
    by : (b : Bool) → nat_lt (place - 1) k ≡ b → P k
    by true e = after (grind (arith, nat_tests))
    by false e = let same : place - 1 ≡ k = grind (arith, nat_tests) in subst P same here

-- an earlier place costs no less by the second cost
pub second_before : (items : List FrontItem) (place other : ℕ) → Falls (map pair_of items) → place ≤ other → other < length items → (slice_index_or items other no_item).second ≤ℤ (slice_index_or items place no_item).second
second_before items place other falls le inside = by (nat_lt place other) refl
  where
    by : (b : Bool) → nat_lt place other ≡ b → (slice_index_or items other no_item).second ≤ℤ (slice_index_or items place no_item).second
    by true e = let later = falls_at items place other falls (grind (arith, nat_tests)) inside in omega (arith, ints, later.second)
    by false e =
        let same : place ≡ other = grind (arith, nat_tests) in
        subst (λ n. (slice_index_or items other no_item).second ≤ℤ (slice_index_or items n no_item).second) (sym same) (omega (arith, ints))

-- ---- one head more

pub less_one_way : (a b : Ranked) → is_less a b ≡ true → is_less b a ≡ false
less_one_way a b h = grind (arith, ints, nat_tests)

pub no_cheaper : (p q r : Bool) → (p || (not q && r)) ≡ false → p ≡ false
no_cheaper true q r h = absurd cc
no_cheaper false q r h = refl

no_less_rank : (p q r : Bool) → (p || (not q && r)) ≡ false → q ≡ false → r ≡ false
no_less_rank true q r h e = absurd cc
no_less_rank false true r h e = absurd cc
no_less_rank false false r h e = h

pub less_chain : (a b c : Ranked) → is_less a b ≡ false → is_less b c ≡ false → is_less a c ≡ false
less_chain a b c h k = by (is_cheaper c.pair a.pair) refl
  where
    first : is_cheaper a.pair b.pair ≡ false
    first = no_cheaper (is_cheaper a.pair b.pair) (is_cheaper b.pair a.pair) (nat_lt a.rank b.rank) h

    second : is_cheaper b.pair c.pair ≡ false
    second = no_cheaper (is_cheaper b.pair c.pair) (is_cheaper c.pair b.pair) (nat_lt b.rank c.rank) k

    third : is_cheaper a.pair c.pair ≡ false
    third = is_cheaper_order.chain a.pair b.pair c.pair first second

    rank : nat_lt a.rank b.rank ≡ false → nat_lt b.rank c.rank ≡ false → nat_lt a.rank c.rank ≡ false
    rank x y = grind (arith, nat_tests)

    by : (q : Bool) → is_cheaper c.pair a.pair ≡ q → (is_cheaper a.pair c.pair || (not q && nat_lt a.rank c.rank)) ≡ false
    by true e = ap (λ p. p || false) third
    by false e =
        ap (λ p. p || nat_lt a.rank c.rank) third
        ∙ rank
        (no_less_rank (is_cheaper a.pair b.pair) (is_cheaper b.pair a.pair) (nat_lt a.rank b.rank) h (is_cheaper_order.chain b.pair c.pair a.pair second e))
        (no_less_rank (is_cheaper b.pair c.pair) (is_cheaper c.pair b.pair) (nat_lt b.rank c.rank) k (is_cheaper_order.chain c.pair a.pair b.pair e first))

module _ (heads tails : List FrontItem) (price : CostPair) (bounds : Bounds) (falls : Falls (map pair_of tails)) where
  abbrev at : ℕ → ℕ → Ranked
  at head tail = joined_at price heads tails head tail

  abbrev So_far : ℕ → Option Join → Type 0
  So_far count least = IsLeastJoin heads tails price bounds count least

  head_or_before : (P : ℕ → Type 0) (count head : ℕ) → head < count + 1 → P count → (head < count → P head) → P head
  head_or_before P count head lt here before = by (nat_lt head count) refl
    where
      by : (b : Bool) → nat_lt head count ≡ b → P head
      by true e = before (grind (arith, nat_tests))
      by false e = let same : count ≡ head = grind (arith, nat_tests) in subst P same here

  -- a head with no tail that the bounds allow
  pub no_join : (count : ℕ) (least : Option Join) → So_far count least → ((tail : ℕ) → tail < length tails → allows_pair bounds (at count tail).pair ≡ false) → So_far (count + 1) least
  no_join count None so_far none = λ head tail lt inside.
      head_or_before (λ h. allows_pair bounds (at h tail).pair ≡ false) count head lt (none tail inside) (λ before. so_far head tail before inside)
  no_join count (Some join) so_far none = record {
    head_inside = omega (arith, so_far.head_inside);
    tail_inside = so_far.tail_inside;
    ranked = so_far.ranked;
    allowed = so_far.allowed;
    least = λ head tail lt inside.
        head_or_before (λ h. allows_pair bounds (at h tail).pair ≡ true → is_less (at h tail) join.ranked ≡ false) count head lt
        (λ allowed. absurd (both_ways (allows_pair bounds (at count tail).pair) (none tail inside) allowed)) (λ before. so_far.least head tail before inside);
  }

  -- with a dearer tail a join isn't less
  no_less_further : (count place tail : ℕ) → place ≤ tail → tail < length tails → is_less (at count tail) (at count place) ≡ false
  no_less_further count place tail le inside = by (nat_lt place tail) refl
    where
      by : (b : Bool) → nat_lt place tail ≡ b → is_less (at count tail) (at count place) ≡ false
      by true e =
          let later = falls_at tails place tail falls (grind (arith, nat_tests)) inside in
          further (slice_index_or heads count no_item) (slice_index_or tails place no_item) (slice_index_or tails tail no_item) later.first
        where
          further : (h t u : FrontItem) → t.first <ℤ u.first → is_less (joined price h u) (joined price h t) ≡ false
          further h t u lt = grind (arith, ints, nat_tests, lt)
      by false e =
          let same : place ≡ tail = grind (arith, nat_tests) in
          subst (λ n. is_less (at count n) (at count place) ≡ false) same (itself (at count place))
        where
          itself : (r : Ranked) → is_less r r ≡ false
          itself r = grind (arith, ints, nat_tests)

  and_second : (a b : Bool) → b ≡ false → (a && b) ≡ false
  and_second true b h = h
  and_second false b h = refl

  and_first : (a b : Bool) → a ≡ false → (a && b) ≡ false
  and_first true b h = absurd cc
  and_first false b h = refl

  -- a head whose cheapest tail within the bound on the second cost stands at a place
  module _ (count place : ℕ) (inside : place < length tails) (before : (k : ℕ) → k < place → allows bounds.second (at count k).pair.second ≡ false) (within : allows bounds.second (at count place).pair.second ≡ true) where
    the_join : Join
    the_join = record { head = count; tail = place; ranked = at count place }

    -- its joins that the bounds allow aren't less than that with the place
    row : (tail : ℕ) → tail < length tails → allows_pair bounds (at count tail).pair ≡ true → is_less (at count tail) (at count place) ≡ false
    row tail lt allowed = by (nat_lt tail place) refl
      where
        by : (b : Bool) → nat_lt tail place ≡ b → is_less (at count tail) (at count place) ≡ false
        by true e =
            absurd (both_ways (allows_pair bounds (at count tail).pair)
            (and_second (allows bounds.first (at count tail).pair.first) (allows bounds.second (at count tail).pair.second) (before tail (grind (arith, nat_tests)))) allowed)
        by false e = no_less_further count place tail (grind (arith, nat_tests)) lt

    -- past the bound on the first cost no tail is allowed
    past : allows bounds.first (at count place).pair.first ≡ false → (tail : ℕ) → tail < length tails → allows_pair bounds (at count tail).pair ≡ false
    past excluded tail lt = by (nat_lt tail place) refl
      where
        no_less_first : (a b : Ranked) → is_less a b ≡ false → b.pair.first ≤ℤ a.pair.first
        no_less_first a b h = grind (arith, ints, nat_tests)

        by : (b : Bool) → nat_lt tail place ≡ b → allows_pair bounds (at count tail).pair ≡ false
        by true e = and_second (allows bounds.first (at count tail).pair.first) (allows bounds.second (at count tail).pair.second) (before tail (grind (arith, nat_tests)))
        by false e =
            and_first (allows bounds.first (at count tail).pair.first) (allows bounds.second (at count tail).pair.second)
            (excludes_greater bounds.first (at count place).pair.first (at count tail).pair.first
            (no_less_first (at count tail) (at count place) (no_less_further count place tail (grind (arith, nat_tests)) lt)) excluded)

    both_allow : allows bounds.first (at count place).pair.first ≡ true → allows_pair bounds (at count place).pair ≡ true
    both_allow first = together (allows bounds.first (at count place).pair.first) (allows bounds.second (at count place).pair.second) first within

    taken : allows bounds.first (at count place).pair.first ≡ true → ((head tail : ℕ) → head < count → tail < length tails → allows_pair bounds (at head tail).pair ≡ true → is_less (at head tail) (at count place) ≡ false) → So_far (count + 1) (Some the_join)
    unfolding the_join
    taken first others = record {
      head_inside = omega arith;
      tail_inside = inside;
      ranked = refl;
      allowed = both_allow first;
      least = λ head tail lt within_tails.
          head_or_before (λ h. allows_pair bounds (at h tail).pair ≡ true → is_less (at h tail) (at count place) ≡ false) count head lt (row tail within_tails) (λ earlier. others head tail earlier within_tails);
    }

    by_lesser : (first : allows bounds.first (at count place).pair.first ≡ true) (old : Join) → So_far count (Some old) → (b : Bool) → is_less (at count place) old.ranked ≡ b → So_far (count + 1) (if b then Some the_join else Some old)
    unfolding the_join
    by_lesser first old so_far true e =
        taken first (λ head tail lt within_tails allowed. less_chain (at head tail) old.ranked (at count place) (so_far.least head tail lt within_tails allowed) (less_one_way (at count place) old.ranked e))
    by_lesser first old so_far false e = record {
      head_inside = omega (arith, so_far.head_inside);
      tail_inside = so_far.tail_inside;
      ranked = so_far.ranked;
      allowed = so_far.allowed;
      least = λ head tail lt within_tails.
          head_or_before (λ h. allows_pair bounds (at h tail).pair ≡ true → is_less (at h tail) old.ranked ≡ false) count head lt
          (λ allowed. less_chain (at count tail) (at count place) old.ranked (row tail within_tails allowed) e) (λ earlier. so_far.least head tail earlier within_tails);
    }

    by_least : allows bounds.first (at count place).pair.first ≡ true → (least : Option Join) → So_far count least → So_far (count + 1) (lesser_of least the_join)
    unfolding the_join
    by_least first None so_far = taken first (λ head tail lt within_tails allowed. absurd (both_ways (allows_pair bounds (at head tail).pair) (so_far head tail lt within_tails) allowed))
    by_least first (Some old) so_far = by_lesser first old so_far (is_less (at count place) old.ranked) refl

    pub one_join : (least : Option Join) → So_far count least → So_far (count + 1) (lesser least (record { head = count; tail = place; ranked = at count place }) bounds.first)
    unfolding the_join
    one_join least so_far = by (allows bounds.first (at count place).pair.first) refl
      where
        by : (b : Bool) → allows bounds.first (at count place).pair.first ≡ b → So_far (count + 1) (if b then lesser_of least (record { head = count; tail = place; ranked = at count place }) else least)
        by true e = by_least e least so_far
        by false e = no_join count least so_far (past e)
