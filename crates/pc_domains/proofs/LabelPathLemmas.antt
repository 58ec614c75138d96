-- Labels keep the paths of nodes, on either side of a variable and of the root.
use Rattle.std.proofs.Common.{◌≡◌, ℕ, zero, suc, ◌+◌, ◌<◌, nat_lt, Bool, true, List, [], length, take, drop, filter, get_or, Option, Some, None, IfSome, option_map, refl, sym, ap, subst, ◌∙◌, arith}
use Rattle.std.proofs.lemmas.Bool.{both_ways}
use Rattle.pc_diagram.specs.declared.choice.Choice.{Choice}
use Rattle.pc_diagram.specs.declared.costs.CostPair.{CostPair}
use Rattle.pc_diagram.specs.declared.raw_diagram.RawDiagram.{RawDiagram}
use Rattle.pc_diagram.specs.Costs.{cost_pair, is_cheaper}
use Rattle.pc_diagram.specs.Diagram.{IsCanonical}
use Rattle.pc_diagram.specs.NodePaths.{IsLeast, comes_before, is_head, is_tail}
use Rattle.pc_diagram.specs.Words.{all_words, is_word}
use Rattle.pc_diagram.proofs.LeastWords.{best-least, best-none}
use Rattle.pc_labels.specs.Kept.{Kept, KeptPaths}
use Rattle.pc_labels.specs.Labels.{AreHeads, AreTails, IsLabelled}
use Rattle.pc_domains.specs.LabelPaths.{kept_by_labels}
use Rattle.pc_domains.specs.Orders.{IsNoDearer}
use Rattle.pc_domains.specs.Sides.{AreSides}
use Rattle.pc_domains.specs.Ways.{IsCovered, Keeps}

module _ (costs : List (List CostPair)) (tests : ℕ → List ℕ → Bool) (domains : List ℕ) (size : ℕ) (labels : KeptPaths) (layer : ℕ)
    (labelled : IsLabelled costs (λ node. filter (tests node) (all_words domains)) size (get_or labels.layers layer [])) where
  -- the path of a node is the least word that passes its test
  least : (node : ℕ) → node < size → (k : Kept) → kept_by_labels labels layer node zero ≡ Some k → IsLeast costs (tests node) domains k.path
  least node lt k is = best-least costs (tests node) domains k.path (sym (labelled.best_path node lt) ∙ ap (option_map (λ (kept : Kept). kept.path)) is)

  costs_are : (node : ℕ) → node < size → (k : Kept) → kept_by_labels labels layer node zero ≡ Some k → k.pair ≡ cost_pair costs k.path
  costs_are node lt k is = subst (λ o. IfSome o (λ (kept : Kept). kept.pair ≡ cost_pair costs kept.path)) is (labelled.priced node lt)

  only_first : (P : Kept → Type 0) (node place : ℕ) (k : Kept) → kept_by_labels labels layer node place ≡ Some k → (kept_by_labels labels layer node zero ≡ Some k → P k) → P k
  only_first P node zero k is here = here is
  only_first P node (suc place) k is here = absurd cc

  covers : (node : ℕ) → node < size → (word : List ℕ) → is_word domains word ≡ true → tests node word ≡ true → IsCovered IsNoDearer costs (kept_by_labels labels layer node) word
  covers node lt word over passes = by (kept_by_labels labels layer node zero) refl
    where
      by : (o : Option Kept) → kept_by_labels labels layer node zero ≡ o → IsCovered IsNoDearer costs (kept_by_labels labels layer node) word
      by None e =
          absurd (both_ways (tests node word)
          (best-none costs (tests node) domains (sym (labelled.best_path node lt) ∙ ap (option_map (λ (kept : Kept). kept.path)) e) word over) passes)
      by (Some k) e =
          let its = least node lt k e in
          let priced = costs_are node lt k e in
          record {
            place = zero;
            path = k;
            is = e;
            no_dearer = ap (is_cheaper (cost_pair costs word)) priced ∙ its.unbeaten word over passes;
            no_later = λ even. its.first word over passes (ap (λ p. is_cheaper p (cost_pair costs word)) (sym priced) ∙ even);
          }

  same_kept : (node place other : ℕ) (k l : Kept) → kept_by_labels labels layer node place ≡ Some k → kept_by_labels labels layer node other ≡ Some l → k.path ≡ l.path
  same_kept node zero zero k l is also = let same : k ≡ l = cc in ap (λ (x : Kept). x.path) same
  same_kept node zero (suc other) k l is also = absurd cc
  same_kept node (suc place) other k l is also = absurd cc

  ranks : (node other : ℕ) → node < size → other < size → (k l : Kept) → kept_by_labels labels layer node zero ≡ Some k → kept_by_labels labels layer other zero ≡ Some l → nat_lt k.rank l.rank ≡ comes_before k.path l.path
  ranks node other lt within k l is also =
      subst (λ o. IfSome o (λ (beside : Kept). nat_lt k.rank beside.rank ≡ comes_before k.path beside.path)) also
      (subst (λ o. IfSome o (λ (kept : Kept). IfSome (kept_by_labels labels layer other zero) (λ (beside : Kept). nat_lt kept.rank beside.rank ≡ comes_before kept.path beside.path))) is (labelled.ranked node other lt within))

  ranked : (node place other beside : ℕ) → node < size → other < size → (k l : Kept) → kept_by_labels labels layer node place ≡ Some k → kept_by_labels labels layer other beside ≡ Some l → nat_lt k.rank l.rank ≡ comes_before k.path l.path
  ranked node zero other zero lt within k l is also = ranks node other lt within k l is also
  ranked node zero other (suc beside) lt within k l is also = absurd cc
  ranked node (suc place) other beside lt within k l is also = absurd cc

  -- labels keep the paths of their layer's nodes
  pub labels_keep : Keeps IsNoDearer costs tests domains size (kept_by_labels labels layer)
  labels_keep = record {
    over = λ node place lt k is. only_first (λ (x : Kept). is_word domains x.path ≡ true) node place k is (λ here. (least node lt k here).over);
    is_path = λ node place lt k is. only_first (λ (x : Kept). tests node x.path ≡ true) node place k is (λ here. (least node lt k here).passes);
    priced = λ node place lt k is. only_first (λ (x : Kept). x.pair ≡ cost_pair costs x.path) node place k is (λ here. costs_are node lt k here);
    covers = covers;
    differ = λ node place other lt k l is also same. same_kept node place other k l is also;
    ranked = ranked;
  }

module _ (raw : RawDiagram) (costs : List (List CostPair)) (choices : List Choice) where
  pub labels_are_sides : (heads tails : KeptPaths) (variable : ℕ) → variable < length raw.domains → AreHeads raw choices costs heads → AreTails raw choices costs tails
      → AreSides IsNoDearer raw costs choices variable (kept_by_labels heads variable) (kept_by_labels tails (variable + 1))
  labels_are_sides heads tails variable inside before after = record {
    before = labels_keep costs (is_head raw choices variable) (take variable raw.domains) (get_or raw.sizes variable 0) heads variable (before.labelled variable (omega arith));
    after = labels_keep (drop (variable + 1) costs) (is_tail raw choices (variable + 1)) (drop (variable + 1) raw.domains) (get_or raw.sizes (variable + 1) 0) tails (variable + 1) (after.labelled (variable + 1) (omega arith));
  }

  pub labels_of_root : IsCanonical raw → (tails : KeptPaths) → AreTails raw choices costs tails → Keeps IsNoDearer costs (is_tail raw choices 0) raw.domains 1 (kept_by_labels tails 0)
  labels_of_root canonical tails are =
      subst (λ n. Keeps IsNoDearer costs (is_tail raw choices 0) raw.domains n (kept_by_labels tails 0)) canonical.shape.root
      (labels_keep costs (is_tail raw choices 0) raw.domains (get_or raw.sizes 0 0) tails 0 (are.labelled 0 (omega arith)))
