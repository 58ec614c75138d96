-- The subrules of a rule that is spelled are spelled.
use Rattle.std.proofs.Common.{◌≡◌, ℕ, zero, suc, Bool, [], ◌∷◌, arith, ◌<◌, nat_le, true, ◌&&◌, List, length, get_or, sym, ap, ◌∙◌}
use Rattle.std.specs.List.{list_all}
use Rattle.pc_base.proofs.DistinctLemmas.{both_true_parts}
use Rattle.pc_file.specs.declared.variable.Variable.{Variable}
use Rattle.pc_file.specs.declared.rule.Rule.{Rule, Rule-F, fold-roll-Rule}
use Rattle.pc_file.specs.declared.rule.Rule.TheVariants.{Not, And, Or, Implies, AtMost, rolls-Not, rolls-Implies}
use Rattle.pc_file.specs.Limits.{is_spelled, is_spelled_step}
use Rattle.pc_file.proofs.RuleLemmas.{is_spelled-And, is_spelled-Or, is_spelled-AtMost}
use Rattle.pc_build.specs.Making.{IsSpelled, AreSpelled}

pub spelled_is : (variables : List Variable) (rule : Rule) → IsSpelled variables rule → is_spelled variables rule ≡ true
unfolding IsSpelled
spelled_is variables rule h = h

pub not_spelled : (variables : List Variable) (rule inner given : Rule) → rule ≡ Not inner → given ≡ inner → IsSpelled variables rule → IsSpelled variables given
unfolding IsSpelled
not_spelled variables rule inner given is same h = ap (is_spelled variables) same ∙ sym (ap (is_spelled variables) (sym (rolls-Not inner)) ∙ fold-roll-Rule Bool (is_spelled_step variables) (Rule-F.Not inner)) ∙ ap (is_spelled variables) (sym is) ∙ h

implies_both : (variables : List Variable) (rule premise consequence : Rule) → rule ≡ Implies premise consequence → is_spelled variables rule ≡ true → (is_spelled variables premise ≡ true) × (is_spelled variables consequence ≡ true)
implies_both variables rule premise consequence is h = both_true_parts (is_spelled variables premise) (is_spelled variables consequence) (sym (ap (is_spelled variables) (sym (rolls-Implies premise consequence)) ∙ fold-roll-Rule Bool (is_spelled_step variables) (Rule-F.Implies premise consequence)) ∙ ap (is_spelled variables) (sym is) ∙ h)

pub premise_spelled : (variables : List Variable) (rule premise consequence given : Rule) → rule ≡ Implies premise consequence → given ≡ premise → IsSpelled variables rule → IsSpelled variables given
unfolding IsSpelled
premise_spelled variables rule premise consequence given is same h = ap (is_spelled variables) same ∙ (implies_both variables rule premise consequence is h).0

pub consequence_spelled : (variables : List Variable) (rule premise consequence given : Rule) → rule ≡ Implies premise consequence → given ≡ consequence → IsSpelled variables rule → IsSpelled variables given
unfolding IsSpelled
consequence_spelled variables rule premise consequence given is same h = ap (is_spelled variables) same ∙ (implies_both variables rule premise consequence is h).1

pub and_spelled : (variables : List Variable) (rule : Rule) (members slice : List Rule) → rule ≡ And members → slice ≡ members → IsSpelled variables rule → AreSpelled variables slice
unfolding IsSpelled AreSpelled
and_spelled variables rule members slice is same h = ap (list_all (is_spelled variables)) same ∙ (both_true_parts (nat_le 2 (length members)) (list_all (is_spelled variables) members) (sym (is_spelled-And variables members) ∙ ap (is_spelled variables) (sym is) ∙ h)).1

pub or_spelled : (variables : List Variable) (rule : Rule) (members slice : List Rule) → rule ≡ Or members → slice ≡ members → IsSpelled variables rule → AreSpelled variables slice
unfolding IsSpelled AreSpelled
or_spelled variables rule members slice is same h = ap (list_all (is_spelled variables)) same ∙ (both_true_parts (nat_le 2 (length members)) (list_all (is_spelled variables) members) (sym (is_spelled-Or variables members) ∙ ap (is_spelled variables) (sym is) ∙ h)).1

pub at_most_spelled : (variables : List Variable) (rule : Rule) (most : ℕ) (members slice : List Rule) → rule ≡ AtMost most members → slice ≡ members → IsSpelled variables rule → AreSpelled variables slice
unfolding IsSpelled AreSpelled
at_most_spelled variables rule most members slice is same h = ap (list_all (is_spelled variables)) same ∙ (both_true_parts (nat_le most 64 && nat_le 1 (length members) && nat_le (length members) 64) (list_all (is_spelled variables) members) (sym (is_spelled-AtMost variables most members) ∙ ap (is_spelled variables) (sym is) ∙ h)).1

pub all_at : {X : Type 0} (p : X → Bool) (xs : List X) (k : ℕ) (d : X) → list_all p xs ≡ true → k < length xs → p (get_or xs k d) ≡ true
all_at p [] k d e lt = absurd (omega arith)
all_at p (x ∷ xs) zero d e lt = (both_true_parts (p x) (list_all p xs) e).0
all_at p (x ∷ xs) (suc k) d e lt = all_at p xs k d (both_true_parts (p x) (list_all p xs) e).1 (omega arith)

pub one_spelled : (variables : List Variable) (rules : List Rule) (i : ℕ) (rule : Rule) → AreSpelled variables rules → i < length rules → rule ≡ get_or rules i rule → IsSpelled variables rule
unfolding IsSpelled AreSpelled
one_spelled variables rules i rule h lt read = ap (is_spelled variables) read ∙ all_at (is_spelled variables) rules i rule h lt
