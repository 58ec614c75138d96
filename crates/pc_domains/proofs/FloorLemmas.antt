-- Nodes that can't win are passed over, and the least costs of a layer's labels.
use Rattle.std.proofs.Common.{◌≡◌, ℕ, ◌+◌, ◌<◌, ◌≤◌, nat_lt, Bool, true, false, ◌||◌, ◌&&◌, not, List, [], length, get_or, Option, Some, None, option_map, refl, sym, ap, subst, ◌∙◌, arith}
use Rattle.std.specs.Prelude.{IfSome, if◌then◌else◌}
use Rattle.std.proofs.lemmas.Bool.Decides.{nat_tests}
use Rattle.std.proofs.lemmas.Int.{ints}
use Rattle.std.proofs.lemmas.List.{get_or_past}
use Rattle.pc_diagram.specs.declared.costs.CostPair.{CostPair}
use Rattle.pc_diagram.specs.declared.raw_diagram.RawDiagram.{RawDiagram}
use Rattle.pc_diagram.specs.declared.weight.Ranked.{Ranked}
use Rattle.pc_diagram.specs.Costs.{is_cheaper}
use Rattle.pc_diagram.specs.Levels.{edge, level}
use Rattle.pc_diagram.specs.Weight.{is_less as is_less_weight, plus_pair}
use Rattle.pc_labels.specs.Kept.{Kept, KeptPaths, kept_at, weight}
use Rattle.pc_domains.specs.declared.label_way.LabelWay.{LabelWay}
use Rattle.pc_domains.specs.Floors.{IsFloor, IsLeastLabel, can_win, lesser}
use Rattle.pc_domains.specs.Joins.{IsSumPair, is_less}
use Rattle.pc_domains.specs.LabelWays.{IsLeastLabelWay, linked, linked_at, linked_over}
use Rattle.pc_domains.proofs.JoinLemmas.{less_chain, less_one_way, no_cheaper}
use Rattle.pc_domains.proofs.LabelWayLemmas.{less_itself, next_way, no_link}
use Rattle.pc_domains.proofs.PartLemmas.{sum_no_cheaper}

cheaper_itself : (a : CostPair) → is_cheaper a a ≡ false
cheaper_itself a = grind (arith, ints)

neither : (b c d : Bool) → b ≡ false → d ≡ false → (b || (not c && d)) ≡ false
neither true c d e f = absurd cc
neither false true d e f = refl
neither false false d e f = f

-- a link with a tail is no less than one with the least costs of the tails
link_no_less : (price : CostPair) (head tail : Ranked) (floor : CostPair) → is_cheaper tail.pair floor ≡ false
    → is_less (record { pair = plus_pair head.pair (plus_pair price tail.pair); rank = head.rank }) (record { pair = plus_pair head.pair (plus_pair price floor); rank = head.rank }) ≡ false
link_no_less price head tail floor h =
    let e = sum_no_cheaper head.pair head.pair (plus_pair price tail.pair) (plus_pair price floor) (cheaper_itself head.pair) (sum_no_cheaper price price tail.pair floor (cheaper_itself price) h) in
    neither (is_cheaper (plus_pair head.pair (plus_pair price tail.pair)) (plus_pair head.pair (plus_pair price floor))) (is_cheaper (plus_pair head.pair (plus_pair price floor)) (plus_pair head.pair (plus_pair price tail.pair))) (nat_lt head.rank head.rank) e (grind (arith, nat_tests))

module _ (raw : RawDiagram) (variable value : ℕ) (heads tails : KeptPaths) (price : CostPair) where
  abbrev So_far : ℕ → Option LabelWay → Type 0
  So_far count least = IsLeastLabelWay raw variable value heads tails price count least

  -- where the head is wanting nothing is linked
  unlinked : (count : ℕ) → option_map weight (kept_at heads variable count) ≡ None → linked_at raw heads tails price variable value count ≡ None
  unlinked count none = over (edge (level raw variable) count value)
    where
      over : (target : Option ℕ) → linked_over heads tails price variable count target ≡ None
      over None = refl
      over (Some target) = ap (λ h. linked price h (option_map weight (kept_at tails (variable + 1) target))) none

  module _ (count : ℕ) (head : Ranked) (head_is : option_map weight (kept_at heads variable count) ≡ Some head) (floor : CostPair) (is_floor : IsFloor tails (variable + 1) floor)
      (way : LabelWay) (so_far : So_far count (Some way)) (late : is_less (record { pair = plus_pair head.pair (plus_pair price floor); rank = head.rank }) way.ranked ≡ false) where
    over_tail : (target : ℕ) → edge (level raw variable) count value ≡ Some target → (tail : Option Ranked) → option_map weight (kept_at tails (variable + 1) target) ≡ tail → So_far (count + 1) (Some way)
    over_tail target leads None is =
        no_link raw variable value heads tails price count (Some way) so_far (ap (linked_over heads tails price variable count) leads ∙ ap (λ h. linked price h (option_map weight (kept_at tails (variable + 1) target))) head_is ∙ ap (linked price (Some head)) is)
    over_tail target leads (Some tail) is =
        let link : Ranked = record { pair = plus_pair head.pair (plus_pair price tail.pair); rank = head.rank } in
        let dearer : is_cheaper tail.pair floor ≡ false = subst (λ o. IfSome o (λ r. is_cheaper r.pair floor ≡ false)) is (is_floor.none_cheaper target) in
        let bound : Ranked = record { pair = plus_pair head.pair (plus_pair price floor); rank = head.rank } in
        let worse : is_less link way.ranked ≡ false = less_chain link bound way.ranked (link_no_less price head tail floor dearer) late in
        next_way raw variable value heads tails price count target (Some way) (Some link) (Some way) so_far leads
        (ap (linked_over heads tails price variable count) leads ∙ ap (λ h. linked price h (option_map weight (kept_at tails (variable + 1) target))) head_is ∙ ap (linked price (Some head)) is)
        (ap (λ b. if b then Some (record { node = count; target = target; ranked = link }) else Some way) (sym worse)) (λ none. refl)

    passed : So_far (count + 1) (Some way)
    passed = over (edge (level raw variable) count value) refl
      where
        over : (target : Option ℕ) → edge (level raw variable) count value ≡ target → So_far (count + 1) (Some way)
        over None e = no_link raw variable value heads tails price count (Some way) so_far (ap (linked_over heads tails price variable count) e)
        over (Some target) e = over_tail target e (option_map weight (kept_at tails (variable + 1) target)) refl

  -- a node that can't win changes nothing
  pub pass_over : (count : ℕ) (head : Option Ranked) (floor : Option CostPair) (least : Option LabelWay) → option_map weight (kept_at heads variable count) ≡ head → IfSome floor (IsFloor tails (variable + 1)) → can_win price head floor least ≡ false → So_far count least → So_far (count + 1) least
  pass_over count None floor least is floors late so_far = no_link raw variable value heads tails price count least so_far (unlinked count is)
  pass_over count (Some head) None least is floors late so_far = absurd cc
  pass_over count (Some head) (Some floor) None is floors late so_far = absurd cc
  pass_over count (Some head) (Some floor) (Some way) is floors late so_far = passed count head is floor floors way so_far late

-- ---- the least costs of a layer

no_less_then : (a b c : Option Ranked) (e : Bool) → is_less_weight b a ≡ e → is_less_weight c a ≡ false → is_less_weight c (if e then b else a) ≡ false
no_less_then a b None true is h = refl
no_less_then None b (Some c) true is h = absurd cc
no_less_then (Some a) None (Some c) true is h = absurd cc
no_less_then (Some a) (Some b) (Some c) true is h = less_chain c a b h (less_one_way b a is)
no_less_then a b c false is h = h

itself_no_less : (a b : Option Ranked) (e : Bool) → is_less_weight b a ≡ e → is_less_weight b (if e then b else a) ≡ false
itself_no_less a None e is = refl
itself_no_less a (Some b) true is = less_itself b
itself_no_less a (Some b) false is = is

either_sums : (a b : Option Ranked) (e : Bool) → IfSome a (λ r. IsSumPair r.pair) → IfSome b (λ r. IsSumPair r.pair) → IfSome (if e then b else a) (λ r. IsSumPair r.pair)
either_sums a b true h k = k
either_sums a b false h k = h

module _ (labels : KeptPaths) (layer : ℕ) where
  abbrev at_node : ℕ → Option Ranked
  at_node node = option_map weight (kept_at labels layer node)

  -- before the first node nothing is the least
  pub none_yet : IsLeastLabel labels layer 0 None
  none_yet = record { none_less = λ node lt. absurd (omega (arith, lt)); sums = tt }

  -- one node more
  pub next_label : (count : ℕ) (least : Option Ranked) → IsLeastLabel labels layer count least → IfSome (at_node count) (λ r. IsSumPair r.pair) → IsLeastLabel labels layer (count + 1) (lesser least (at_node count))
  next_label count least so_far sums = record {
    none_less = here;
    sums = either_sums least (at_node count) (is_less_weight (at_node count) least) so_far.sums sums;
  }
    where
      at : (other : ℕ) → other < count + 1 → (c : Bool) → nat_lt other count ≡ c → is_less_weight (at_node other) (lesser least (at_node count)) ≡ false
      at other lt true k = no_less_then least (at_node count) (at_node other) (is_less_weight (at_node count) least) refl (so_far.none_less other (grind (arith, nat_tests)))
      at other lt false k =
          let same : count ≡ other = grind (arith, nat_tests) in
          subst (λ n. is_less_weight (at_node n) (lesser least (at_node count)) ≡ false) same (itself_no_less least (at_node count) (is_less_weight (at_node count) least) refl)

      here : (other : ℕ) → other < count + 1 → is_less_weight (at_node other) (lesser least (at_node count)) ≡ false
      here other lt = at other lt (nat_lt other count) refl

  -- the least of all nodes is a floor
  pub least_is_floor : (count : ℕ) (ranked : Ranked) → count ≡ length (get_or labels.layers layer []) → IsLeastLabel labels layer count (Some ranked) → IsFloor labels layer ranked.pair
  least_is_floor count ranked all least = record { sums = least.sums; none_cheaper = λ node. at node (nat_lt node count) refl }
    where
      some_no_cheaper : (o : Option Ranked) → is_less_weight o (Some ranked) ≡ false → IfSome o (λ r. is_cheaper r.pair ranked.pair ≡ false)
      some_no_cheaper None h = tt
      some_no_cheaper (Some r) h = no_cheaper (is_cheaper r.pair ranked.pair) (is_cheaper ranked.pair r.pair) (nat_lt r.rank ranked.rank) h

      at : (node : ℕ) (b : Bool) → nat_lt node count ≡ b → IfSome (at_node node) (λ r. is_cheaper r.pair ranked.pair ≡ false)
      at node true e = some_no_cheaper (at_node node) (least.none_less node (grind (arith, nat_tests)))
      at node false e =
          let past : length (get_or labels.layers layer []) ≤ node = grind (arith, nat_tests, all) in
          subst (λ o. IfSome (option_map weight o) (λ r. is_cheaper r.pair ranked.pair ≡ false)) (sym (get_or_past (get_or labels.layers layer []) node None past)) tt
