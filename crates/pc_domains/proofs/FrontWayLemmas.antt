-- One node more.
use Rattle.std.proofs.Common.{◌≡◌, ℕ, ◌+◌, nat_lt, Bool, true, false, length, Option, Some, None, refl, sym, ap, subst, ◌∙◌, arith}
use Rattle.std.specs.Prelude.{if◌then◌else◌}
use Rattle.std.proofs.lemmas.Bool.{both_ways}
use Rattle.std.proofs.lemmas.Bool.Decides.{nat_tests}
use Rattle.pc_diagram.specs.declared.bounds.Bounds.{Bounds}
use Rattle.pc_diagram.specs.declared.costs.CostPair.{CostPair}
use Rattle.pc_diagram.specs.declared.raw_diagram.RawDiagram.{RawDiagram}
use Rattle.pc_diagram.specs.Bounds.{allows_pair}
use Rattle.pc_diagram.specs.Levels.{edge, level}
use Rattle.pc_pareto.specs.declared.fronts.Fronts.{Fronts}
use Rattle.pc_domains.specs.declared.front_way.FrontWay.{FrontWay}
use Rattle.pc_domains.specs.declared.join.Join.{Join}
use Rattle.pc_domains.specs.FrontWays.{IsLeastFrontWay, IsOpenWay, front_of, lesser_way}
use Rattle.pc_domains.specs.Joins.{IsLeastJoin, is_less, joined_at}
use Rattle.pc_domains.proofs.JoinLemmas.{less_chain, less_one_way}

module _ (raw : RawDiagram) (variable value : ℕ) (heads tails : Fronts) (price : CostPair) (bounds : Bounds) where
  abbrev So_far : ℕ → Option FrontWay → Type 0
  So_far count least = IsLeastFrontWay raw variable value heads tails price bounds count least

  abbrev Open : ℕ → ℕ → ℕ → ℕ → ℕ → Type 0
  Open count node target head tail = IsOpenWay raw variable value heads tails price bounds count node target head tail

  -- a way from one node more is one from the nodes before, or from this one
  data Place (count node target head tail : ℕ) : Type 0 where
    earlier : Open count node target head tail → Place count node target head tail
    here : count ≡ node → Place count node target head tail

  place : (count node target head tail : ℕ) → Open (count + 1) node target head tail → Place count node target head tail
  place count node target head tail way = by (nat_lt node count) refl
    where
      by : (b : Bool) → nat_lt node count ≡ b → Place count node target head tail
      by true e = earlier (record { inside = grind (arith, nat_tests); leads = way.leads; head_inside = way.head_inside; tail_inside = way.tail_inside; allowed = way.allowed })
      by false e = here (grind (arith, nat_tests, way.inside))

  further : (count node target head tail : ℕ) → Open count node target head tail → Open (count + 1) node target head tail
  further count node target head tail way = record { inside = omega (arith, way.inside); leads = way.leads; head_inside = way.head_inside; tail_inside = way.tail_inside; allowed = way.allowed }

  kept : (count : ℕ) (least : Option FrontWay) → So_far count least → ((target head tail : ℕ) → Open (count + 1) count target head tail → ⊥) → So_far (count + 1) least
  kept count None so_far none = λ node target head tail way. by node target head tail way (place count node target head tail way)
    where
      by : (node target head tail : ℕ) → Open (count + 1) node target head tail → Place count node target head tail → ⊥
      by node target head tail way (earlier before) = so_far node target head tail before
      by node target head tail way (here same) = none target head tail (subst (λ n. Open (count + 1) n target head tail) (sym same) way)
  kept count (Some best) so_far none = record {
    own = further count best.node best.target best.join.head best.join.tail so_far.own;
    ranked = so_far.ranked;
    least = λ node target head tail way. by node target head tail way (place count node target head tail way);
  }
    where
      by : (node target head tail : ℕ) → Open (count + 1) node target head tail → Place count node target head tail → is_less (joined_at price (front_of heads variable node) (front_of tails (variable + 1) target) head tail) best.join.ranked ≡ false
      by node target head tail way (earlier before) = so_far.least node target head tail before
      by node target head tail way (here same) = absurd (none target head tail (subst (λ n. Open (count + 1) n target head tail) (sym same) way))

  -- a node without the edge
  pub no_edge : (count : ℕ) (least : Option FrontWay) → So_far count least → edge (level raw variable) count value ≡ None → So_far (count + 1) least
  no_edge count least so_far none = kept count least so_far (λ target head tail way. both_edges (edge (level raw variable) count value) target none way.leads)
    where
      both_edges : (o : Option ℕ) (target : ℕ) → o ≡ None → o ≡ Some target → ⊥
      both_edges None target e f = absurd cc
      both_edges (Some other) target e f = absurd cc

  some_same : (o : Option ℕ) (m n : ℕ) → o ≡ Some m → o ≡ Some n → m ≡ n
  some_same None m n e f = absurd cc
  some_same (Some k) m n e f = cc

  module _ (count target : ℕ) (leads : edge (level raw variable) count value ≡ Some target) where
    abbrev Joins : Option Join → Type 0
    Joins join = IsLeastJoin (front_of heads variable count) (front_of tails (variable + 1) target) price bounds (length (front_of heads variable count)) join

    -- ways from this node go through this edge
    at_edge : (other head tail : ℕ) → Open (count + 1) count other head tail → Open (count + 1) count target head tail
    at_edge other head tail way = subst (λ t. Open (count + 1) count t head tail) (some_same (edge (level raw variable) count value) other target way.leads leads) way

    -- no join is allowed
    none_joined : (least : Option FrontWay) → So_far count least → Joins None → So_far (count + 1) least
    none_joined least so_far none = kept count least so_far (λ other head tail way.
        let its = at_edge other head tail way in
        both_ways (allows_pair bounds (joined_at price (front_of heads variable count) (front_of tails (variable + 1) target) head tail).pair) (none head tail its.head_inside its.tail_inside) its.allowed)

    module _ (join : Join) (joins : Joins (Some join)) where
      the_way : FrontWay
      the_way = record { node = count; target = target; join = join }

      opens : Open (count + 1) count target join.head join.tail
      opens = record {
        inside = omega arith;
        leads = leads;
        head_inside = joins.head_inside;
        tail_inside = joins.tail_inside;
        allowed = ap (λ r. allows_pair bounds r.pair) (sym joins.ranked) ∙ joins.allowed;
      }

      here_least : (other head tail : ℕ) → Open (count + 1) count other head tail → is_less (joined_at price (front_of heads variable count) (front_of tails (variable + 1) other) head tail) join.ranked ≡ false
      here_least other head tail way =
          let its = at_edge other head tail way in
          let same = some_same (edge (level raw variable) count value) other target way.leads leads in
          subst (λ t. is_less (joined_at price (front_of heads variable count) (front_of tails (variable + 1) t) head tail) join.ranked ≡ false) (sym same)
          (joins.least head tail its.head_inside its.tail_inside its.allowed)

      taken : ((node other head tail : ℕ) → Open count node other head tail → is_less (joined_at price (front_of heads variable node) (front_of tails (variable + 1) other) head tail) join.ranked ≡ false) → So_far (count + 1) (Some the_way)
      unfolding the_way
      taken others = record {
        own = opens;
        ranked = joins.ranked;
        least = λ node other head tail way. by node other head tail way (place count node other head tail way);
      }
        where
          by : (node other head tail : ℕ) → Open (count + 1) node other head tail → Place count node other head tail → is_less (joined_at price (front_of heads variable node) (front_of tails (variable + 1) other) head tail) join.ranked ≡ false
          by node other head tail way (earlier before) = others node other head tail before
          by node other head tail way (here same) =
              subst (λ n. is_less (joined_at price (front_of heads variable n) (front_of tails (variable + 1) other) head tail) join.ranked ≡ false) same
              (here_least other head tail (subst (λ n. Open (count + 1) n other head tail) (sym same) way))

      by_less : (old : FrontWay) → So_far count (Some old) → (b : Bool) → is_less join.ranked old.join.ranked ≡ b → So_far (count + 1) (if b then Some the_way else Some old)
      unfolding the_way
      by_less old so_far true e =
          taken (λ node other head tail way.
          less_chain (joined_at price (front_of heads variable node) (front_of tails (variable + 1) other) head tail) old.join.ranked join.ranked (so_far.least node other head tail way) (less_one_way join.ranked old.join.ranked e))
      by_less old so_far false e = record {
        own = further count old.node old.target old.join.head old.join.tail so_far.own;
        ranked = so_far.ranked;
        least = λ node other head tail way. by node other head tail way (place count node other head tail way);
      }
        where
          by : (node other head tail : ℕ) → Open (count + 1) node other head tail → Place count node other head tail → is_less (joined_at price (front_of heads variable node) (front_of tails (variable + 1) other) head tail) old.join.ranked ≡ false
          by node other head tail way (earlier before) = so_far.least node other head tail before
          by node other head tail way (here same) =
              subst (λ n. is_less (joined_at price (front_of heads variable n) (front_of tails (variable + 1) other) head tail) old.join.ranked ≡ false) same
              (less_chain (joined_at price (front_of heads variable count) (front_of tails (variable + 1) other) head tail) join.ranked old.join.ranked
              (here_least other head tail (subst (λ n. Open (count + 1) n other head tail) (sym same) way)) e)

    -- the lesser of the way so far and of the join over this edge
    pub one_edge : (least : Option FrontWay) (join : Option Join) → So_far count least → Joins join → So_far (count + 1) (lesser_way least count target join)
    unfolding the_way
    one_edge None None so_far joins = none_joined None so_far joins
    one_edge (Some old) None so_far joins = none_joined (Some old) so_far joins
    one_edge None (Some join) so_far joins = taken join joins (λ node other head tail way. absurd (so_far node other head tail way))
    one_edge (Some old) (Some join) so_far joins = by_less join joins old so_far (is_less join.ranked old.join.ranked) refl
