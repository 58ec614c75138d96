-- What holds of every rule, form by form.
use Rattle.std.proofs.Common.{ℕ, List, [], ◌∷◌, map, sym, subst}
use Rattle.pc_file.specs.declared.rule.Rule.{Rule, map-Rule}
use Rattle.pc_file.specs.declared.rule.Rule.TheOpen.{Rule-F}
use Rattle.pc_file.specs.declared.rule.Rule.TheOpen as layer
use Rattle.pc_file.specs.declared.rule.Rule.TheViews.{roll-Rule}
use Rattle.pc_file.specs.declared.rule.Rule.TheFolds.{ind-Rule}
use Rattle.pc_file.specs.declared.rule.Rule.TheVariants.{Is, IsNot, OneOf, Not, And, Or, Implies, Same, AtMost, Table, rolls-Is, rolls-IsNot, rolls-OneOf, rolls-Not, rolls-And, rolls-Or, rolls-Implies, rolls-Same, rolls-AtMost, rolls-Table}

module _ (P : Rule → Type 0) where
  -- of each of several rules
  abbrev pub EachRule : List Rule → Type 0
  EachRule [] = Unit {0}
  EachRule (r ∷ rs) = P r × EachRule rs

  each_rule : (members : List ((r : Rule) × P r)) → EachRule (map (λ e. e.0) members)
  each_rule [] = tt
  each_rule (e ∷ members) = (e.1, each_rule members)

  -- the ten forms, where the parts have it
  pub record Forms : Type 0 where
    pub is : (v a : ℕ) → P (Is v a)
    pub is_not : (v a : ℕ) → P (IsNot v a)
    pub one_of : (v : ℕ) (values : List ℕ) → P (OneOf v values)
    pub not : (r : Rule) → P r → P (Not r)
    pub and : (members : List Rule) → EachRule members → P (And members)
    pub or : (members : List Rule) → EachRule members → P (Or members)
    pub implies : (r s : Rule) → P r → P s → P (Implies r s)
    pub same : (v w : ℕ) → P (Same v w)
    pub at_most : (most : ℕ) (members : List Rule) → EachRule members → P (AtMost most members)
    pub table : (these : List ℕ) (rows : List (List ℕ)) → P (Table these rows)

  module _ (forms : Forms) where
    layered : (y : Rule-F ((r : Rule) × P r)) → P (roll-Rule (map-Rule ((r : Rule) × P r) Rule (λ e. e.0) y))
    layered (layer.Is v a) = subst P (sym (rolls-Is v a)) (forms.is v a)
    layered (layer.IsNot v a) = subst P (sym (rolls-IsNot v a)) (forms.is_not v a)
    layered (layer.OneOf v values) = subst P (sym (rolls-OneOf v values)) (forms.one_of v values)
    layered (layer.Not r) = subst P (sym (rolls-Not r.0)) (forms.not r.0 r.1)
    layered (layer.And members) = subst P (sym (rolls-And (map (λ e. e.0) members))) (forms.and (map (λ e. e.0) members) (each_rule members))
    layered (layer.Or members) = subst P (sym (rolls-Or (map (λ e. e.0) members))) (forms.or (map (λ e. e.0) members) (each_rule members))
    layered (layer.Implies r s) = subst P (sym (rolls-Implies r.0 s.0)) (forms.implies r.0 s.0 r.1 s.1)
    layered (layer.Same v w) = subst P (sym (rolls-Same v w)) (forms.same v w)
    layered (layer.AtMost most members) = subst P (sym (rolls-AtMost most (map (λ e. e.0) members))) (forms.at_most most (map (λ e. e.0) members) (each_rule members))
    layered (layer.Table these rows) = subst P (sym (rolls-Table these rows)) (forms.table these rows)

    pub every_rule : (r : Rule) → P r
    every_rule = ind-Rule P (λ x y is. subst (λ z. P (roll-Rule z)) is (layered y))
