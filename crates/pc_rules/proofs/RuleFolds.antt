-- A fold of a rule, form by form.
use Rattle.std.proofs.Common.{◌≡◌, ℕ, List, map, ap, sym, ◌∙◌}
use Rattle.pc_file.specs.declared.rule.Rule.{Rule, Rule-F, fold-Rule, fold-roll-Rule}
use Rattle.pc_file.specs.declared.rule.Rule.TheVariants.{Is, IsNot, OneOf, Not, And, Or, Implies, Same, AtMost, Table, rolls-Is, rolls-IsNot, rolls-OneOf, rolls-Not, rolls-And, rolls-Or, rolls-Implies, rolls-Same, rolls-AtMost, rolls-Table}

module _ (A : Type 0) (step : Rule-F A → A) where
  abbrev f : Rule → A
  f = fold-Rule A step

  pub fold-Is : (v a : ℕ) → f (Is v a) ≡ step (Rule-F.Is v a)
  fold-Is v a = ap f (sym (rolls-Is v a)) ∙ fold-roll-Rule A step (Rule-F.Is v a)

  pub fold-IsNot : (v a : ℕ) → f (IsNot v a) ≡ step (Rule-F.IsNot v a)
  fold-IsNot v a = ap f (sym (rolls-IsNot v a)) ∙ fold-roll-Rule A step (Rule-F.IsNot v a)

  pub fold-OneOf : (v : ℕ) (values : List (ℕ)) → f (OneOf v values) ≡ step (Rule-F.OneOf v values)
  fold-OneOf v values = ap f (sym (rolls-OneOf v values)) ∙ fold-roll-Rule A step (Rule-F.OneOf v values)

  pub fold-Not : (inner : Rule) → f (Not inner) ≡ step (Rule-F.Not (f inner))
  fold-Not inner = ap f (sym (rolls-Not inner)) ∙ fold-roll-Rule A step (Rule-F.Not inner)

  pub fold-And : (members : List Rule) → f (And members) ≡ step (Rule-F.And (map f members))
  fold-And members = ap f (sym (rolls-And members)) ∙ fold-roll-Rule A step (Rule-F.And members)

  pub fold-Or : (members : List Rule) → f (Or members) ≡ step (Rule-F.Or (map f members))
  fold-Or members = ap f (sym (rolls-Or members)) ∙ fold-roll-Rule A step (Rule-F.Or members)

  pub fold-Implies : (premise conclusion : Rule) → f (Implies premise conclusion) ≡ step (Rule-F.Implies (f premise) (f conclusion))
  fold-Implies premise conclusion = ap f (sym (rolls-Implies premise conclusion)) ∙ fold-roll-Rule A step (Rule-F.Implies premise conclusion)

  pub fold-Same : (v w : ℕ) → f (Same v w) ≡ step (Rule-F.Same v w)
  fold-Same v w = ap f (sym (rolls-Same v w)) ∙ fold-roll-Rule A step (Rule-F.Same v w)

  pub fold-AtMost : (most : ℕ) (members : List Rule) → f (AtMost most members) ≡ step (Rule-F.AtMost most (map f members))
  fold-AtMost most members = ap f (sym (rolls-AtMost most members)) ∙ fold-roll-Rule A step (Rule-F.AtMost most members)

  pub fold-Table : (variables : List (ℕ)) (rows : List (List (ℕ))) → f (Table variables rows) ≡ step (Rule-F.Table variables rows)
  fold-Table variables rows = ap f (sym (rolls-Table variables rows)) ∙ fold-roll-Rule A step (Rule-F.Table variables rows)
