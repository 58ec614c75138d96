-- Quotas as states of a product.
use Rattle.std.proofs.Common.{◌≡◌, ℕ, ◌+◌, ◌<◌, nat_eq, nat_le, Bool, true, false, ◌&&◌, List, [], ◌∷◌, length, get_or, slice_get, Option, None, Some, IfSome, IfNone, refl, sym, ap, ◌∙◌, subst, arith}
use Rattle.std.specs.Option.{option_eq}
use Rattle.std.proofs.lemmas.Bool.Decides.{nat_tests}
use Rattle.std.proofs.lemmas.Option.{slice_get_within, get_or_from_slice_get, slice_get-get_or}
use Rattle.pc_base.proofs.DistinctLemmas.{both_true_parts}
use Rattle.pc_store.specs.declared.id.Node.{Node}
use Rattle.pc_store.specs.declared.store.Store.{Store}
use Rattle.pc_apply.specs.declared.step.Step.{Step}
use Rattle.pc_apply.specs.declared.step.Steps.{Steps}
use Rattle.pc_apply.specs.declared.quota.Quota.{Quota}
use Rattle.pc_apply.specs.Counting.{count_at}
use Rattle.pc_apply.specs.Levels.{Follows}
use Rattle.pc_apply.specs.Lists.{IsStep, HasSteps, HaveSteps}
use Rattle.pc_apply.specs.Quotas.{quotas_at}
use Rattle.pc_apply.proofs.LevelLemmas.{FollowAlike}

-- equality of quotas
abbrev pub same_quota : Quota → Quota → Bool
same_quota a b = nat_eq a.most b.most && nat_eq a.list b.list

same_is : (a b : Option Quota) → option_eq same_quota a b ≡ true → a ≡ b
same_is None None e = refl
same_is None (Some b) e = absurd cc
same_is (Some a) None e = absurd cc
same_is (Some a) (Some b) e = let parts = both_true_parts (nat_eq a.most b.most) (nat_eq a.list b.list) e in ap Some (one a b (grind (arith, nat_tests)) (grind (arith, nat_tests)))
  where
    one : (a b : Quota) → a.most ≡ b.most → a.list ≡ b.list → a ≡ b
    one a b m l = λ i. record { most = m i; list = l i }

pub quotas_alike : (store : Store) (layer : ℕ) (lists next : List (List Node)) → FollowAlike (option_eq same_quota) store layer (quotas_at store layer lists) (quotas_at store (layer + 1) next)
quotas_alike store layer lists next state value one other e h = subst (Follows store layer (quotas_at store layer lists) (quotas_at store (layer + 1) next) state value) (same_is one other e) h

-- what is left of a quota after a step asks the same
pub quota_follows : (store : Store) (layer : ℕ) (lists next : List (List Node)) (quota : Quota) (value : ℕ) (step : Step) (left : Option Quota) → IsStep store layer (get_or lists quota.list []) value next step →
    IfSome left (λ l. l.most + step.full ≡ quota.most) → IfSome left (λ l. l.list ≡ step.list) → IfNone left (quota.most < step.full) → Follows store layer (quotas_at store layer lists) (quotas_at store (layer + 1) next) (Some quota) value left
quota_follows store layer lists next quota value step None is_step most list none = record {
  is_at = tt;
  same = λ word over. past_most (count_at store layer (get_or lists quota.list []) (value ∷ word)) step.full (count_at store (layer + 1) is_step.rest word) quota.most (is_step.count word over) none;
}
  where
    past_most : (whole full rest most : ℕ) → whole ≡ full + rest → most < full → false ≡ nat_le whole most
    past_most whole full rest most e lt = grind (arith, nat_tests)
quota_follows store layer lists next quota value step (Some left) is_step most list none = record {
  is_at = let lt = slice_get_within next step.list is_step.rest is_step.stands in let same : left.list ≡ step.list = list in omega arith;
  same = λ word over.
      ap (λ sets. nat_le (count_at store (layer + 1) sets word) left.most) there
      ∙ by (count_at store layer (get_or lists quota.list []) (value ∷ word)) step.full (count_at store (layer + 1) is_step.rest word) quota.most left.most (is_step.count word over) most;
}
  where
    there : get_or next left.list [] ≡ is_step.rest
    there = get_or_from_slice_get next left.list is_step.rest [] (subst (λ p. slice_get next p ≡ Some is_step.rest) (sym list) is_step.stands)

    by : (whole full rest most left : ℕ) → whole ≡ full + rest → left + full ≡ most → nat_le rest left ≡ nat_le whole most
    by whole full rest most left e m = grind (arith, nat_tests)

-- the steps of the list of a quota
pub steps_at : (store : Store) (layer : ℕ) (lists next : List (List Node)) (steps : List Steps) (place : ℕ) (of_list : Steps) → HaveSteps store layer lists next steps → place < length lists → of_list ≡ get_or steps place of_list → HasSteps store layer (get_or lists place []) next of_list
steps_at store layer lists next steps place of_list h lt read =
    h.each place (get_or lists place []) of_list (slice_get-get_or lists place [] lt) (slice_get-get_or steps place of_list (let c = h.count in omega arith) ∙ ap Some (sym read))
