-- Ranks and their places among ranks in order.
use Rattle.std.proofs.Common.{◌≡◌, ℕ, suc, zero, ◌<◌, ◌≤◌, nat_lt, nat_cmp, Bool, true, false, List, [], ◌∷◌, length, map, All, Contains, Option, Some, None, option_map, unwrap_or, refl, sym, ap, ◌∙◌, subst, arith}
use Rattle.std.specs.Prelude.{slice_index, slice_index_or}
use Rattle.std.specs.List.Sorted.{IsSorted}
use Rattle.std.proofs.Math.ListN.{get_or-eq_default}
use Rattle.std.proofs.lemmas.Bool.Decides.{nat_tests}
use Rattle.std.proofs.lemmas.Grind.{get_or_default_zero}
use Rattle.std.proofs.lemmas.List.Sorted.{IsNonDecreasingBy-from_sort}
use Rattle.pc_diagram.specs.declared.weight.Ranked.{Ranked}
use Rattle.pc_diagram.specs.declared.costs.CostPair.{CostPair}
use Rattle.pc_diagram.specs.Costs.{pair_at, IsSum}
use Rattle.pc_diagram.specs.Weight.{with_rank, plus_pair}
use Rattle.pc_labels.specs.Marks.{Marks, weight_at}
use Rattle.pc_labels.specs.Ranks.{rank_of, Ascend, IsAmong, IsPlaceOf, IsRankedAnew}
use Rattle.pc_labels.specs.Slots.{AreRanksAnew, HasRoom}

-- the rank of a node's path is among the ranks of all
pub own_rank : (weights : List (Option Ranked)) (k : ℕ) (d : Option Ranked) (r : Ranked) → k < length weights → slice_index_or weights k d ≡ Some r → Contains (map rank_of weights) r.rank
own_rank [] k d r lt e = absurd (omega arith)
own_rank (w ∷ ws) zero d r lt e = (0, omega arith, ap rank_of e)
own_rank (w ∷ ws) (suc k) d r lt e = let rest = own_rank ws k d r (omega arith) e in (suc rest.0, omega (arith, rest.1), rest.2)

pub all_among : (weights : List (Option Ranked)) (ranks : List ℕ) → ((r : ℕ) → Contains (map rank_of weights) r → Contains ranks r) → All (IsAmong ranks) weights
all_among weights ranks h k d lt = by (slice_index_or weights k d) refl
  where
    by : (w : Option Ranked) → slice_index_or weights k d ≡ w → IsAmong ranks w
    by None e = tt
    by (Some r) e = h r.rank (own_rank weights k d r lt e)

-- of two ranks among those that are there, the lesser one has the lesser place
pub places_order : (ranks : List ℕ) (r s p q : ℕ) → IsPlaceOf ranks r p → IsPlaceOf ranks s q → Contains ranks r → r < s → p < q
places_order ranks r s p q a b among less = by (nat_lt i p) refl (nat_lt i q) refl
  where
    i : ℕ
    i = among.0

    here : slice_index ranks i ≡ r
    here = sym (get_or_default_zero ranks i r among.1) ∙ among.2

    by : (t : Bool) → nat_lt i p ≡ t → (u : Bool) → nat_lt i q ≡ u → p < q
    by true e u f = let low = a.less i (grind (arith, nat_tests)) in absurd (omega (arith, low, here))
    by false e true f = grind (arith, nat_tests)
    by false e false f = let le : q ≤ i = grind (arith, nat_tests) in let high = b.more i le among.1 in absurd (omega (arith, high, here, less))

pub same_place : (ranks : List ℕ) (r s p q : ℕ) → IsPlaceOf ranks r p → IsPlaceOf ranks s q → r ≡ s → (p < q → ⊥)
same_place ranks r s p q a b same less =
    let within = b.within in
    let low : slice_index ranks p < s = b.less p less in
    let high : r ≤ slice_index ranks p = a.more p (omega arith) (omega arith) in
    omega arith

pub places_compare : (ranks : List ℕ) (r s p q : ℕ) → IsPlaceOf ranks r p → IsPlaceOf ranks s q → Contains ranks r → Contains ranks s → nat_lt p q ≡ nat_lt r s
places_compare ranks r s p q a b among other = by (nat_lt r s) refl (nat_lt s r) refl
  where
    by : (t : Bool) → nat_lt r s ≡ t → (u : Bool) → nat_lt s r ≡ u → nat_lt p q ≡ t
    by true e u f = let less : r < s = grind (arith, nat_tests) in let first = places_order ranks r s p q a b among less in grind (arith, nat_tests)
    by false e true f = let less : s < r = grind (arith, nat_tests) in let first = places_order ranks s r q p b a other less in grind (arith, nat_tests)
    by false e false f = let same : r ≡ s = grind (arith, nat_tests) in by_lt (nat_lt p q) refl same
      where
        by_lt : (v : Bool) → nat_lt p q ≡ v → r ≡ s → v ≡ false
        by_lt false g same = refl
        by_lt true g same = absurd (same_place ranks r s p q a b same (grind (arith, nat_tests)))

pub ranks_part : (ranks : List ℕ) (rank : ℕ) → Ascend ranks → (i j : ℕ) (d : ℕ) → i ≤ j → j < length ranks → nat_lt (slice_index_or ranks j d) rank ≡ true → nat_lt (slice_index_or ranks i d) rank ≡ true
ranks_part ranks rank ascend i j d le lt less =
    let up = ascend i j le lt in
    let here = get_or_default_zero ranks i d (omega arith) in
    let there = get_or_default_zero ranks j d lt in
    grind (arith, nat_tests)

pub some_inside : (weights : List (Option Ranked)) (node : ℕ) (r : Ranked) → slice_index_or weights node None ≡ Some r → node < length weights
some_inside weights node r e = by (nat_lt node (length weights)) refl
  where
    by : (t : Bool) → nat_lt node (length weights) ≡ t → node < length weights
    by true f = grind (arith, nat_tests)
    by false f = let none : slice_index_or weights node None ≡ None = get_or-eq_default weights None (grind (arith, nat_tests)) in let both : Some r ≡ None = sym e ∙ none in absurd cc

same_some : (x y : Ranked) → Some x ≡ Some y → x ≡ y
same_some x y e = ap (λ o. unwrap_or o x) e

-- places among all ranks are ranks that compare as before
pub ranks_anew : (ranks : List ℕ) (old new : Marks) → length new.weights ≡ length old.weights → All (IsAmong ranks) old.weights →
    ((node : ℕ) → node < length old.weights → IsRankedAnew ranks (weight_at old node) (weight_at new node)) → AreRanksAnew old new
ranks_anew ranks old new same among each = record {
  nodes = same;
  pairs = λ node. by_node node (nat_lt node (length old.weights)) refl;
  order = λ node other r s a b eo en fo fn.
      let p = (each node (some_inside old.weights node r eo)).some r eo in
      let q = (each other (some_inside old.weights other s fo)).some s fo in
      let own : a.rank ≡ p.0 = ap (λ x. x.rank) (same_some a (with_rank p.0 r) (sym en ∙ p.2)) in
      let their : b.rank ≡ q.0 = ap (λ x. x.rank) (same_some b (with_rank q.0 s) (sym fn ∙ q.2)) in
      let first : Contains ranks r.rank = subst (IsAmong ranks) eo (among node None (some_inside old.weights node r eo)) in
      let second : Contains ranks s.rank = subst (IsAmong ranks) fo (among other None (some_inside old.weights other s fo)) in
      ap (λ n. nat_lt n b.rank) own ∙ ap (nat_lt p.0) their ∙ places_compare ranks r.rank s.rank p.0 q.0 p.1 q.1 first second;
}
  where
    by_weight : (w v : Option Ranked) → IsRankedAnew ranks w v → option_map (λ (r : Ranked). r.pair) v ≡ option_map (λ (r : Ranked). r.pair) w
    by_weight None v h = ap (option_map (λ (r : Ranked). r.pair)) (h.none refl)
    by_weight (Some r) v h = let p = h.some r refl in ap (option_map (λ (r : Ranked). r.pair)) p.2

    by_node : (node : ℕ) (t : Bool) → nat_lt node (length old.weights) ≡ t → option_map (λ (r : Ranked). r.pair) (weight_at new node) ≡ option_map (λ (r : Ranked). r.pair) (weight_at old node)
    by_node node true e = by_weight (weight_at old node) (weight_at new node) (each node (grind (arith, nat_tests)))
    by_node node false e =
        let past : length old.weights ≤ node = grind (arith, nat_tests) in
        ap (option_map (λ (r : Ranked). r.pair)) (get_or-eq_default new.weights None (omega (arith, past, same)) ∙ sym (get_or-eq_default old.weights None past))

pub ascend_from : (ranks : List ℕ) → IsSorted nat_cmp ranks → Ascend ranks
ascend_from ranks h i j le lt = IsNonDecreasingBy-from_sort (λ x. x) ranks h i j 0 le lt

-- other ranks leave the same room
pub room_anew : (row : List CostPair) (old new : Marks) → AreRanksAnew old new → HasRoom old.weights row → HasRoom new.weights row
room_anew row old new anew room node value r e = by (weight_at old node) refl (sym (anew.pairs node) ∙ ap (option_map (λ (x : Ranked). x.pair)) e)
  where
    by : (w : Option Ranked) → weight_at old node ≡ w → option_map (λ (x : Ranked). x.pair) (weight_at old node) ≡ Some r.pair →
        IsSum (plus_pair r.pair (pair_at row value)).first × IsSum (plus_pair r.pair (pair_at row value)).second
    by None f g = let no : None ≡ Some r.pair = sym (ap (option_map (λ (x : Ranked). x.pair)) f) ∙ g in absurd cc
    by (Some s) f g =
        let same : Some s.pair ≡ Some r.pair = sym (ap (option_map (λ (x : Ranked). x.pair)) f) ∙ g in
        subst (λ p. IsSum (plus_pair p (pair_at row value)).first × IsSum (plus_pair p (pair_at row value)).second) (ap (λ o. unwrap_or o s.pair) same) (room node value s f)

-- the same ranks
pub ranks_same : (marks : Marks) → AreRanksAnew marks marks
ranks_same marks = record {
  nodes = refl;
  pairs = λ node. refl;
  order = λ node other r s a b eo en fo fn.
      ap (λ x. nat_lt x.rank b.rank) (same_some a r (sym en ∙ eo)) ∙ ap (λ x. nat_lt r.rank x.rank) (same_some b s (sym fn ∙ fo));
}
