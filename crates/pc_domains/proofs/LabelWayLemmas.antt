-- One node more.
use Rattle.std.proofs.Common.{◌≡◌, ℕ, ◌+◌, ◌<◌, nat_lt, Bool, true, false, Option, Some, None, refl, sym, subst, arith}
use Rattle.std.specs.Prelude.{IfSome, if◌then◌else◌}
use Rattle.std.proofs.lemmas.Bool.Decides.{nat_tests}
use Rattle.pc_diagram.specs.declared.costs.CostPair.{CostPair}
use Rattle.pc_diagram.specs.declared.raw_diagram.RawDiagram.{RawDiagram}
use Rattle.pc_diagram.specs.declared.weight.Ranked.{Ranked}
use Rattle.pc_diagram.specs.Levels.{edge, level}
use Rattle.pc_labels.specs.Kept.{KeptPaths}
use Rattle.pc_domains.specs.declared.label_way.LabelWay.{LabelWay}
use Rattle.pc_domains.specs.Joins.{is_less}
use Rattle.pc_domains.specs.LabelWays.{IsLeastLabelWay, lesser_label_way, linked_at}
use Rattle.pc_domains.proofs.JoinLemmas.{less_chain, less_one_way}

some_same : (o : Option Ranked) (a b : Ranked) → o ≡ Some a → o ≡ Some b → a ≡ b
some_same None a b e f = absurd cc
some_same (Some r) a b e f = cc

pub none_some : (o : Option Ranked) (a : Ranked) → o ≡ None → o ≡ Some a → ⊥
none_some None a e f = absurd cc
none_some (Some r) a e f = absurd cc

pub less_itself : (r : Ranked) → is_less r r ≡ false
less_itself r = by (is_less r r) refl
  where
    by : (b : Bool) → is_less r r ≡ b → b ≡ false
    by false e = refl
    by true e = let reversed = less_one_way r r e in absurd cc

module _ (raw : RawDiagram) (variable value : ℕ) (heads tails : KeptPaths) (price : CostPair) where
  abbrev So_far : ℕ → Option LabelWay → Type 0
  So_far count least = IsLeastLabelWay raw variable value heads tails price count least

  abbrev at : ℕ → Option Ranked
  at node = linked_at raw heads tails price variable value node

  here_or_before : (P : ℕ → Type 0) (count node : ℕ) → node < count + 1 → P count → (node < count → P node) → P node
  here_or_before P count node lt here before = by (nat_lt node count) refl
    where
      by : (b : Bool) → nat_lt node count ≡ b → P node
      by true e = before (grind (arith, nat_tests))
      by false e = let same : count ≡ node = grind (arith, nat_tests) in subst P same here

  -- a node over which nothing is linked
  pub no_link : (count : ℕ) (least : Option LabelWay) → So_far count least → linked_at raw heads tails price variable value count ≡ None → So_far (count + 1) least
  no_link count None so_far none = λ node lt. here_or_before (λ n. at n ≡ None) count node lt none (so_far node)
  no_link count (Some way) so_far none = record {
    inside = omega (arith, so_far.inside);
    leads = so_far.leads;
    is = so_far.is;
    least = λ node other lt. here_or_before (λ n. at n ≡ Some other → is_less other way.ranked ≡ false) count node lt (λ found. absurd (none_some (at count) other none found)) (so_far.least node other);
  }

  module _ (count target : ℕ) (ranked : Ranked) (leads : edge (level raw variable) count value ≡ Some target) (found : linked_at raw heads tails price variable value count ≡ Some ranked) where
    taken : ((node : ℕ) (other : Ranked) → node < count → at node ≡ Some other → is_less other ranked ≡ false) → So_far (count + 1) (Some (record { node = count; target = target; ranked = ranked }))
    taken others = record {
      inside = omega arith;
      leads = leads;
      is = found;
      least = λ node other lt. here_or_before (λ n. at n ≡ Some other → is_less other ranked ≡ false) count node lt
          (λ also. subst (λ r. is_less r ranked ≡ false) (some_same (at count) ranked other found also) (less_itself ranked)) (others node other);
    }

    by_less : (old : LabelWay) → So_far count (Some old) → (b : Bool) → is_less ranked old.ranked ≡ b → So_far (count + 1) (if b then Some (record { node = count; target = target; ranked = ranked }) else Some old)
    by_less old so_far true e = taken (λ node other lt also. less_chain other old.ranked ranked (so_far.least node other lt also) (less_one_way ranked old.ranked e))
    by_less old so_far false e = record {
      inside = omega (arith, so_far.inside);
      leads = so_far.leads;
      is = so_far.is;
      least = λ node other lt. here_or_before (λ n. at n ≡ Some other → is_less other old.ranked ≡ false) count node lt
          (λ also. subst (λ r. is_less r old.ranked ≡ false) (some_same (at count) ranked other found also) e) (so_far.least node other);
    }

    -- a node over which something is linked
    pub one_link : (least : Option LabelWay) → So_far count least → So_far (count + 1) (lesser_label_way least (record { node = count; target = target; ranked = ranked }))
    one_link None so_far = taken (λ node other lt also. absurd (none_some (at node) other (so_far node lt) also))
    one_link (Some old) so_far = by_less old so_far (is_less ranked old.ranked) refl

  -- a node with the edge, over which something is linked or nothing
  pub next_way : (count target : ℕ) (least : Option LabelWay) (link : Option Ranked) (next : Option LabelWay) → So_far count least → edge (level raw variable) count value ≡ Some target → linked_at raw heads tails price variable value count ≡ link
      → IfSome link (λ ranked. next ≡ lesser_label_way least (record { node = count; target = target; ranked = ranked })) → (link ≡ None → next ≡ least) → So_far (count + 1) next
  next_way count target least None next so_far leads over some none = subst (So_far (count + 1)) (sym (none refl)) (no_link count least so_far over)
  next_way count target least (Some ranked) next so_far leads over some none = subst (So_far (count + 1)) (sym some) (one_link count target ranked leads over least so_far)
