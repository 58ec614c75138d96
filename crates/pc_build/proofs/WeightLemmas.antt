-- How many rules a rule is made of, as a measure of a recursion into it.
use Rattle.std.proofs.Common.{◌≡◌, ℕ, zero, suc, ◌+◌, ◌<◌, ◌≤◌, List, [], ◌∷◌, map, length, get_or, sym, ap, ◌∙◌, arith}
use Rattle.pc_file.specs.declared.rule.Rule.{Rule, Rule-F, fold-Rule, fold-roll-Rule}
use Rattle.pc_file.specs.declared.rule.Rule.TheVariants.{Not, And, Or, Implies, AtMost, rolls-Not, rolls-And, rolls-Or, rolls-Implies, rolls-AtMost}
use Rattle.pc_file.specs.Parts.{subrules}

total : List ℕ → ℕ
total [] = 0
total (n ∷ ns) = n + total ns

weight_step : Rule-F ℕ → ℕ
weight_step layer = total (subrules layer) + 1

-- a rule and its subrules, at every depth
pub weight : Rule → ℕ
weight = fold-Rule ℕ weight_step

pub weights : List Rule → ℕ
weights rules = total (map weight rules)

pub weight-Not : (rule inner given : Rule) → rule ≡ Not inner → given ≡ inner → weight given < weight rule
unfolding weight weight_step total
weight-Not rule inner given is same = let w : weight rule ≡ (weight inner + 0) + 1 = ap weight is ∙ ap weight (sym (rolls-Not inner)) ∙ fold-roll-Rule ℕ weight_step (Rule-F.Not inner) in let s = ap weight same in omega arith

pub weight-Implies : (rule premise consequence first second : Rule) → rule ≡ Implies premise consequence → first ≡ premise → second ≡ consequence → weight first + weight second < weight rule
unfolding weight weight_step total
weight-Implies rule premise consequence first second is same other = let w : weight rule ≡ (weight premise + (weight consequence + 0)) + 1 = ap weight is ∙ ap weight (sym (rolls-Implies premise consequence)) ∙ fold-roll-Rule ℕ weight_step (Rule-F.Implies premise consequence) in let s = ap weight same in let o = ap weight other in omega arith

pub weight-And : (rule : Rule) (members slice : List Rule) → rule ≡ And members → slice ≡ members → weights slice < weight rule
unfolding weight weight_step weights
weight-And rule members slice is same = let w : weight rule ≡ weights members + 1 = ap weight is ∙ ap weight (sym (rolls-And members)) ∙ fold-roll-Rule ℕ weight_step (Rule-F.And members) in let s = ap weights same in omega arith

pub weight-Or : (rule : Rule) (members slice : List Rule) → rule ≡ Or members → slice ≡ members → weights slice < weight rule
unfolding weight weight_step weights
weight-Or rule members slice is same = let w : weight rule ≡ weights members + 1 = ap weight is ∙ ap weight (sym (rolls-Or members)) ∙ fold-roll-Rule ℕ weight_step (Rule-F.Or members) in let s = ap weights same in omega arith

pub weight-AtMost : (rule : Rule) (most : ℕ) (members slice : List Rule) → rule ≡ AtMost most members → slice ≡ members → weights slice < weight rule
unfolding weight weight_step weights
weight-AtMost rule most members slice is same = let w : weight rule ≡ weights members + 1 = ap weight is ∙ ap weight (sym (rolls-AtMost most members)) ∙ fold-roll-Rule ℕ weight_step (Rule-F.AtMost most members) in let s = ap weights same in omega arith

-- one of several
pub weight_at : (rules : List Rule) (i : ℕ) (rule : Rule) → i < length rules → rule ≡ get_or rules i rule → weight rule ≤ weights rules
unfolding weights total
weight_at rules i rule lt read = let w = ap weight read in let b = below rules i rule lt in omega arith
  where
    below : (rs : List Rule) (k : ℕ) (d : Rule) → k < length rs → weight (get_or rs k d) ≤ total (map weight rs)
    below [] k d h = absurd (omega arith)
    below (r ∷ rs) zero d h = omega arith
    below (r ∷ rs) (suc k) d h = let rest = below rs k d (omega arith) in omega arith
