-- The printed form of a rule, form by form.
use Rattle.std.proofs.Common.{◌≡◌, ℕ, List, [], ◌∷◌, ◌++◌, map, refl, ap, ◌∙◌}
use Rattle.std.specs.Prelude.{codes, decimal}
use Rattle.std.specs.List.{join_by}
use Rattle.std.proofs.lemmas.List.Folds.{flat_map-map}
use Rattle.pc_file.specs.declared.variable.Variable.{Variable}
use Rattle.pc_file.specs.declared.rule.Rule.{Rule}
use Rattle.pc_file.specs.declared.rule.Rule.TheVariants as rule
use Rattle.pc_file.specs.PrintedRule.{Printed, in_place, printing_step, printing, printed_in_place, printed_rule}
use Rattle.pc_rules.proofs.RuleFolds as of_rule

pub join_by-map : {X Y A : Type 0} (f : Y → List A) (sep : List A) (g : X → Y) (xs : List X) → join_by f sep (map g xs) ≡ join_by (λ x. f (g x)) sep xs
join_by-map f sep g [] = refl
join_by-map f sep g (x ∷ xs) = ap (λ l. f (g x) ++ l) (flat_map-map (λ y. sep ++ f y) g xs)

module _ (variables : List Variable) where
  pub printed-And : (members : List Rule) → printed_rule variables (rule.And members) ≡ join_by (printed_in_place 3 variables) (codes " and ") members
  printed-And members = ap (λ p. p.text) (of_rule.fold-And Printed (printing_step variables) members) ∙ join_by-map (in_place 3) (codes " and ") (printing variables) members

  pub printed-Or : (members : List Rule) → printed_rule variables (rule.Or members) ≡ join_by (printed_in_place 2 variables) (codes " or ") members
  printed-Or members = ap (λ p. p.text) (of_rule.fold-Or Printed (printing_step variables) members) ∙ join_by-map (in_place 2) (codes " or ") (printing variables) members

  pub printed-Implies : (premise conclusion : Rule) →
      printed_rule variables (rule.Implies premise conclusion) ≡ printed_in_place 1 variables premise ++ codes " => " ++ printed_in_place 1 variables conclusion
  printed-Implies premise conclusion = ap (λ p. p.text) (of_rule.fold-Implies Printed (printing_step variables) premise conclusion)

  pub printed-AtMost : (most : ℕ) (members : List Rule) →
      printed_rule variables (rule.AtMost most members) ≡ codes "atmost " ++ decimal most ++ codes " (" ++ join_by (printed_in_place 0 variables) (codes ", ") members ++ codes ")"
  printed-AtMost most members =
      ap (λ p. p.text) (of_rule.fold-AtMost Printed (printing_step variables) most members)
      ∙ ap (λ l. codes "atmost " ++ decimal most ++ codes " (" ++ l ++ codes ")") (join_by-map (in_place 0) (codes ", ") (printing variables) members)
