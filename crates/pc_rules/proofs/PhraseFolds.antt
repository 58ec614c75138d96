-- A fold of a phrase, form by form.
use Rattle.std.proofs.Common.{◌≡◌, ℕ, List, map, ap, sym, ◌∙◌}
use Rattle.pc_rules.specs.declared.phrase.Phrase.{Phrase, Phrase-F, fold-Phrase, fold-roll-Phrase}
use Rattle.pc_rules.specs.declared.phrase.Phrase.TheVariants.{Is, IsNot, OneOf, Not, And, Or, Implies, Same, AtMost, Table, rolls-Is, rolls-IsNot, rolls-OneOf, rolls-Not, rolls-And, rolls-Or, rolls-Implies, rolls-Same, rolls-AtMost, rolls-Table}

module _ (A : Type 0) (step : Phrase-F A → A) where
  abbrev f : Phrase → A
  f = fold-Phrase A step

  pub fold-Is : (v a : List ℕ) → f (Is v a) ≡ step (Phrase-F.Is v a)
  fold-Is v a = ap f (sym (rolls-Is v a)) ∙ fold-roll-Phrase A step (Phrase-F.Is v a)

  pub fold-IsNot : (v a : List ℕ) → f (IsNot v a) ≡ step (Phrase-F.IsNot v a)
  fold-IsNot v a = ap f (sym (rolls-IsNot v a)) ∙ fold-roll-Phrase A step (Phrase-F.IsNot v a)

  pub fold-OneOf : (v : List ℕ) (values : List (List ℕ)) → f (OneOf v values) ≡ step (Phrase-F.OneOf v values)
  fold-OneOf v values = ap f (sym (rolls-OneOf v values)) ∙ fold-roll-Phrase A step (Phrase-F.OneOf v values)

  pub fold-Not : (inner : Phrase) → f (Not inner) ≡ step (Phrase-F.Not (f inner))
  fold-Not inner = ap f (sym (rolls-Not inner)) ∙ fold-roll-Phrase A step (Phrase-F.Not inner)

  pub fold-And : (members : List Phrase) → f (And members) ≡ step (Phrase-F.And (map f members))
  fold-And members = ap f (sym (rolls-And members)) ∙ fold-roll-Phrase A step (Phrase-F.And members)

  pub fold-Or : (members : List Phrase) → f (Or members) ≡ step (Phrase-F.Or (map f members))
  fold-Or members = ap f (sym (rolls-Or members)) ∙ fold-roll-Phrase A step (Phrase-F.Or members)

  pub fold-Implies : (premise conclusion : Phrase) → f (Implies premise conclusion) ≡ step (Phrase-F.Implies (f premise) (f conclusion))
  fold-Implies premise conclusion = ap f (sym (rolls-Implies premise conclusion)) ∙ fold-roll-Phrase A step (Phrase-F.Implies premise conclusion)

  pub fold-Same : (v w : List ℕ) → f (Same v w) ≡ step (Phrase-F.Same v w)
  fold-Same v w = ap f (sym (rolls-Same v w)) ∙ fold-roll-Phrase A step (Phrase-F.Same v w)

  pub fold-AtMost : (most : List ℕ) (members : List Phrase) → f (AtMost most members) ≡ step (Phrase-F.AtMost most (map f members))
  fold-AtMost most members = ap f (sym (rolls-AtMost most members)) ∙ fold-roll-Phrase A step (Phrase-F.AtMost most members)

  pub fold-Table : (variables : List (List ℕ)) (rows : List (List (List ℕ))) → f (Table variables rows) ≡ step (Phrase-F.Table variables rows)
  fold-Table variables rows = ap f (sym (rolls-Table variables rows)) ∙ fold-roll-Phrase A step (Phrase-F.Table variables rows)
