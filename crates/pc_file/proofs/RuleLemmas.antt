-- When a rule with a list of members holds.
use Rattle.std.proofs.Common.{◌≡◌, ℕ, List, [], ◌∷◌, Bool, ◌||◌, ◌&&◌, length, nat_le, count_by, map, ◌+◌, cond, ap, sym, ◌∙◌, refl}
use Rattle.std.specs.List.{list_all, list_any}
use Rattle.std.proofs.lemmas.List.{length-map}
use Rattle.std.proofs.lemmas.List.Folds.{list_all-map, fold-map}
use Rattle.pc_file.specs.declared.variable.Variable.{Variable}
use Rattle.pc_file.specs.declared.rule.Rule.{Rule, Rule-F, fold-roll-Rule}
use Rattle.pc_file.specs.declared.rule.Rule.TheVariants.{And, Or, AtMost, rolls-And, rolls-Or, rolls-AtMost}
use Rattle.pc_file.specs.Rule.{holds, holds_step}
use Rattle.pc_file.specs.Limits.{is_spelled, is_spelled_step}

pub holds-And : (variables : List Variable) (word : List ℕ) (members : List Rule) → holds variables word (And members) ≡ list_all (holds variables word) members
holds-And variables word members =
    ap (holds variables word) (sym (rolls-And members)) ∙ fold-roll-Rule Bool (holds_step variables word) (Rule-F.And members)
    ∙ list_all-map (λ holds. holds) (holds variables word) members

pub list_any-map : {X Y : Type 0} (p : X → Bool) (h : Y → X) (ys : List Y) → list_any p (map h ys) ≡ list_any (λ y. p (h y)) ys
list_any-map p h [] = refl
list_any-map p h (y ∷ ys) = ap (λ b. p (h y) || b) (list_any-map p h ys)

count_by-map : {X Y : Type 0} (p : X → Bool) (h : Y → X) (ys : List Y) → count_by p (map h ys) ≡ count_by (λ y. p (h y)) ys
count_by-map p h ys = fold-map (λ a x. a + cond (p x) 1 0) h 0 ys

pub holds-Or : (variables : List Variable) (word : List ℕ) (members : List Rule) → holds variables word (Or members) ≡ list_any (holds variables word) members
holds-Or variables word members =
    ap (holds variables word) (sym (rolls-Or members)) ∙ fold-roll-Rule Bool (holds_step variables word) (Rule-F.Or members)
    ∙ list_any-map (λ holds. holds) (holds variables word) members

pub holds-AtMost : (variables : List Variable) (word : List ℕ) (most : ℕ) (members : List Rule) → holds variables word (AtMost most members) ≡ nat_le (count_by (holds variables word) members) most
holds-AtMost variables word most members =
    ap (holds variables word) (sym (rolls-AtMost most members)) ∙ fold-roll-Rule Bool (holds_step variables word) (Rule-F.AtMost most members)
    ∙ ap (λ n. nat_le n most) (count_by-map (λ holds. holds) (holds variables word) members)

-- The same for whether it is spelled.
pub is_spelled-And : (variables : List Variable) (members : List Rule) → is_spelled variables (And members) ≡ (nat_le 2 (length members) && list_all (is_spelled variables) members)
is_spelled-And variables members =
    ap (is_spelled variables) (sym (rolls-And members)) ∙ fold-roll-Rule Bool (is_spelled_step variables) (Rule-F.And members)
    ∙ ap (λ n. nat_le 2 n && list_all (λ spelled. spelled) (map (is_spelled variables) members)) (length-map members (is_spelled variables))
    ∙ ap (λ b. nat_le 2 (length members) && b) (list_all-map (λ spelled. spelled) (is_spelled variables) members)

pub is_spelled-Or : (variables : List Variable) (members : List Rule) → is_spelled variables (Or members) ≡ (nat_le 2 (length members) && list_all (is_spelled variables) members)
is_spelled-Or variables members =
    ap (is_spelled variables) (sym (rolls-Or members)) ∙ fold-roll-Rule Bool (is_spelled_step variables) (Rule-F.Or members)
    ∙ ap (λ n. nat_le 2 n && list_all (λ spelled. spelled) (map (is_spelled variables) members)) (length-map members (is_spelled variables))
    ∙ ap (λ b. nat_le 2 (length members) && b) (list_all-map (λ spelled. spelled) (is_spelled variables) members)

pub is_spelled-AtMost : (variables : List Variable) (most : ℕ) (members : List Rule) →
    is_spelled variables (AtMost most members) ≡ (nat_le most 64 && nat_le 1 (length members) && nat_le (length members) 64 && list_all (is_spelled variables) members)
is_spelled-AtMost variables most members =
    ap (is_spelled variables) (sym (rolls-AtMost most members)) ∙ fold-roll-Rule Bool (is_spelled_step variables) (Rule-F.AtMost most members)
    ∙ ap (λ n. nat_le most 64 && nat_le 1 n && nat_le n 64 && list_all (λ spelled. spelled) (map (is_spelled variables) members)) (length-map members (is_spelled variables))
    ∙ ap (λ b. nat_le most 64 && nat_le 1 (length members) && nat_le (length members) 64 && b) (list_all-map (λ spelled. spelled) (is_spelled variables) members)
