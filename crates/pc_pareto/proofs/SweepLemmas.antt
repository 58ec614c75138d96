-- What is swept from items in order is their front.
use Rattle.std.proofs.Common.{◌≡◌, ℤ, ◌<ℤ◌, ◌≤ℤ◌, List, [], ◌∷◌, map, Option, None, Some, Bool, true, false, not, cond, Contains, ◌⊎◌, inl, inr, refl, sym, ap, ◌∙◌, subst, arith}
use Rattle.std.specs.Prelude.{int_lt, if◌then◌else◌}
use Rattle.std.specs.List.{AllByRecursion, dedup, dedup_from}
use Rattle.std.proofs.lemmas.Bool.{cond_both}
use Rattle.std.proofs.lemmas.Int.{ints}
use Rattle.std.proofs.lemmas.List.Elements.{All-from_recursion}
use Rattle.pc_pareto.specs.declared.front_item.FrontItem.{FrontItem}
use Rattle.pc_pareto.specs.Front.{Falls}
use Rattle.pc_pareto.specs.Items.{pair_of, precedes, is_past, IsCovered, IsFrontOf}
use Rattle.pc_pareto.proofs.ItemLemmas.{covers_itself, covers_later, first_rises, contains_head, contains_tail, all_weaker, all_both, all_among, all_map}

-- the second cost is below the least so far
abbrev is_below : Option ℤ → ℤ → Bool
is_below None second = true
is_below (Some least) second = int_lt second least

-- of items in order, those whose second cost is below all before it
abbrev swept : Option ℤ → List FrontItem → List FrontItem
swept least [] = []
swept least (item ∷ items) =
    if is_below least item.second then item ∷ swept (Some item.second) items else swept least items

-- no item comes before an earlier one
abbrev pub InOrder : List FrontItem → Type 0
InOrder [] = Unit {0}
InOrder (x ∷ xs) = AllByRecursion (λ y. precedes y x ≡ false) xs × InOrder xs

-- what is swept from items, where the least second cost before them is known
record SweptFrom (least : Option ℤ) (items kept : List FrontItem) : Type 0 where
  pub falls : Falls (map pair_of kept)
  pub below : AllByRecursion (λ y. is_below least y.second ≡ true) kept
  pub among : AllByRecursion (Contains items) kept
  pub covered : AllByRecursion (λ x. (is_below least x.second ≡ false) ⊎ IsCovered kept x) items

below_less : (least : Option ℤ) (s t : ℤ) → is_below least s ≡ true → int_lt t s ≡ true → is_below least t ≡ true
below_less None s t h k = refl
below_less (Some least) s t h k = grind (arith, ints)

covered_more : (x : FrontItem) (kept : List FrontItem) (y : FrontItem) → IsCovered kept y → IsCovered (x ∷ kept) y
covered_more x kept y c = (c.0, contains_tail x kept c.0 c.1, c.2)

not_below : (s t : ℤ) → int_lt s t ≡ false → t ≤ℤ s
not_below s t h = grind (arith, ints)

is_less : (s t : ℤ) → int_lt s t ≡ true → s <ℤ t
is_less s t h = grind (arith, ints)

module _ (least : Option ℤ) (x : FrontItem) (xs kept : List FrontItem) (h : AllByRecursion (λ y. precedes y x ≡ false) xs) where
  takes : is_below least x.second ≡ true → SweptFrom (Some x.second) xs kept → SweptFrom least (x ∷ xs) (x ∷ kept)
  takes e r =
      let later : AllByRecursion (λ y. precedes y x ≡ false) kept = all_among (λ y. precedes y x ≡ false) xs kept h r.among in
      let steps = all_both (λ y. precedes y x ≡ false) (λ y. int_lt y.second x.second ≡ true) (λ y. (x.first <ℤ y.first) × (y.second <ℤ x.second)) (λ y p q. (first_rises x y p (is_less y.second x.second q), is_less y.second x.second q)) kept later r.below in
      record {
        falls = (all_map (λ q. (x.first <ℤ q.first) × (q.second <ℤ x.second)) pair_of kept steps, r.falls);
        below = (e, all_weaker (λ y. int_lt y.second x.second ≡ true) (λ y. is_below least y.second ≡ true) (λ y q. below_less least x.second y.second e q) kept r.below);
        among = (contains_head x xs, all_weaker (Contains xs) (Contains (x ∷ xs)) (λ y c. contains_tail x xs y c) kept r.among);
        covered = (inr (x, contains_head x kept, covers_itself x), all_both (λ y. precedes y x ≡ false) (λ y. (int_lt y.second x.second ≡ false) ⊎ IsCovered kept y) (λ y. (is_below least y.second ≡ false) ⊎ IsCovered (x ∷ kept) y) step xs h r.covered);
      }
    where
      step : (y : FrontItem) → precedes y x ≡ false → (int_lt y.second x.second ≡ false) ⊎ IsCovered kept y → (is_below least y.second ≡ false) ⊎ IsCovered (x ∷ kept) y
      step y p (inl q) = inr (x, contains_head x kept, covers_later x y p (not_below y.second x.second q))
      step y p (inr c) = inr (covered_more x kept y c)

  skips : is_below least x.second ≡ false → SweptFrom least xs kept → SweptFrom least (x ∷ xs) kept
  skips e r = record {
    falls = r.falls;
    below = r.below;
    among = all_weaker (Contains xs) (Contains (x ∷ xs)) (λ y c. contains_tail x xs y c) kept r.among;
    covered = (inl e, r.covered);
  }

swept_is : (least : Option ℤ) (items : List FrontItem) → InOrder items → SweptFrom least items (swept least items)
swept_is least [] h = record { falls = tt; below = tt; among = tt; covered = tt }
swept_is least (x ∷ xs) h =
    cond_both (is_below least x.second) (x ∷ swept (Some x.second) xs) (swept least xs) (SweptFrom least (x ∷ xs))
    (λ e. takes least x xs (swept (Some x.second) xs) h.0 e (swept_is (Some x.second) xs h.1))
    (λ e. skips least x xs (swept least xs) h.0 e (swept_is least xs h.1))

swept_front : (items : List FrontItem) → InOrder items → IsFrontOf items (swept None items)
swept_front items h =
    let r = swept_is None items h in
    let kept = swept None items in
    record {
      falls = r.falls;
      among = All-from_recursion (Contains items) kept r.among;
      covered = All-from_recursion (IsCovered kept) items (all_weaker (λ x. (true ≡ false) ⊎ IsCovered kept x) (IsCovered kept) sure items r.covered);
    }
  where
    sure : (x : FrontItem) → (true ≡ false) ⊎ IsCovered (swept None items) x → IsCovered (swept None items) x
    sure x (inl e) = absurd (cc)
    sure x (inr c) = c

deduped_from : (kept : FrontItem) (items : List FrontItem) → dedup_from is_past kept items ≡ kept ∷ swept (Some kept.second) items
deduped_from kept [] = refl
deduped_from kept (item ∷ items) = by (int_lt item.second kept.second) (deduped_from item items) (deduped_from kept items)
  where
    by : (b : Bool) → dedup_from is_past item items ≡ item ∷ swept (Some item.second) items → dedup_from is_past kept items ≡ kept ∷ swept (Some kept.second) items
        → cond (not b) (dedup_from is_past kept items) (kept ∷ dedup_from is_past item items) ≡ kept ∷ cond b (item ∷ swept (Some item.second) items) (swept (Some kept.second) items)
    by true stays past = ap (λ l. kept ∷ l) stays
    by false stays past = past

deduped : (items : List FrontItem) → dedup is_past items ≡ swept None items
deduped [] = refl
deduped (item ∷ items) = deduped_from item items

-- what stays of items in order is their front
pub deduped_front : (items kept : List FrontItem) → InOrder items → kept ≡ dedup is_past items → IsFrontOf items kept
deduped_front items kept h e = subst (IsFrontOf items) (sym (e ∙ deduped items)) (swept_front items h)
