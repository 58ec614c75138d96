-- The parts of rules, form by form.
use Rattle.std.proofs.Common.{◌≡◌, ℕ, Bool, not, ◌||◌, List, [], ◌∷◌, ◌++◌, map, refl, sym, ap, ◌∙◌}
use Rattle.std.specs.List.{flat_map}
use Rattle.pc_file.specs.declared.variable.Variable.{Variable}
use Rattle.pc_file.specs.declared.rule.Rule.{Rule, Rule-F, fold-Rule, fold-roll-Rule, fold_out-Rule, map-Rule}
use Rattle.pc_file.specs.declared.rule.Rule.TheVariants.{rolls-Is, rolls-IsNot, rolls-OneOf, rolls-Not, rolls-And, rolls-Or, rolls-Implies, rolls-Same, rolls-AtMost, rolls-Table}
use Rattle.pc_file.specs.declared.rule.Rule.TheViews.{out-Rule}
use Rattle.pc_file.specs.Rule.{holds, holds_step}
use Rattle.pc_file.specs.Parts.{Parts, with_itself, subrules, parts_step, members_of, parts_before, parts_of}
use Rattle.pc_file.proofs.RuleInduction.{EachRule, Forms, every_rule}

module _ (variables : List Variable) where
  -- a rule with its parts
  abbrev whole : Rule → Parts
  whole = fold-Rule Parts (parts_step variables)

  -- it holds as the rule does
  abbrev Agrees : Rule → Type 0
  Agrees rule = (word : List ℕ) → (whole rule).holds word ≡ holds variables word rule

  each_agrees : (word : List ℕ) (members : List Rule) → EachRule Agrees members → map (λ parts. parts.holds word) (map whole members) ≡ map (holds variables word) members
  each_agrees word [] h = refl
  each_agrees word (member ∷ members) h = λ i. h.0 word i ∷ each_agrees word members h.1 i

  forms : Forms Agrees
  forms = record {
    is = λ v a word. ap (λ (p : Parts). p.holds word) (ap whole (sym (rolls-Is v a)) ∙ fold-roll-Rule Parts (parts_step variables) (Rule-F.Is v a)) ∙ sym (ap (holds variables word) (sym (rolls-Is v a)) ∙ fold-roll-Rule Bool (holds_step variables word) (Rule-F.Is v a));
    is_not = λ v a word. ap (λ (p : Parts). p.holds word) (ap whole (sym (rolls-IsNot v a)) ∙ fold-roll-Rule Parts (parts_step variables) (Rule-F.IsNot v a)) ∙ sym (ap (holds variables word) (sym (rolls-IsNot v a)) ∙ fold-roll-Rule Bool (holds_step variables word) (Rule-F.IsNot v a));
    one_of = λ v values word. ap (λ (p : Parts). p.holds word) (ap whole (sym (rolls-OneOf v values)) ∙ fold-roll-Rule Parts (parts_step variables) (Rule-F.OneOf v values)) ∙ sym (ap (holds variables word) (sym (rolls-OneOf v values)) ∙ fold-roll-Rule Bool (holds_step variables word) (Rule-F.OneOf v values));
    not = λ r h word. ap (λ (p : Parts). p.holds word) (ap whole (sym (rolls-Not r)) ∙ fold-roll-Rule Parts (parts_step variables) (Rule-F.Not r)) ∙ ap not (h word) ∙ sym (ap (holds variables word) (sym (rolls-Not r)) ∙ fold-roll-Rule Bool (holds_step variables word) (Rule-F.Not r));
    and = λ rs h word. ap (λ (p : Parts). p.holds word) (ap whole (sym (rolls-And rs)) ∙ fold-roll-Rule Parts (parts_step variables) (Rule-F.And rs)) ∙ ap (λ bs. holds_step variables word (Rule-F.And bs)) (each_agrees word rs h) ∙ sym (ap (holds variables word) (sym (rolls-And rs)) ∙ fold-roll-Rule Bool (holds_step variables word) (Rule-F.And rs));
    or = λ rs h word. ap (λ (p : Parts). p.holds word) (ap whole (sym (rolls-Or rs)) ∙ fold-roll-Rule Parts (parts_step variables) (Rule-F.Or rs)) ∙ ap (λ bs. holds_step variables word (Rule-F.Or bs)) (each_agrees word rs h) ∙ sym (ap (holds variables word) (sym (rolls-Or rs)) ∙ fold-roll-Rule Bool (holds_step variables word) (Rule-F.Or rs));
    implies = λ r s h k word. ap (λ (p : Parts). p.holds word) (ap whole (sym (rolls-Implies r s)) ∙ fold-roll-Rule Parts (parts_step variables) (Rule-F.Implies r s)) ∙ (λ i. not (h word i) || k word i) ∙ sym (ap (holds variables word) (sym (rolls-Implies r s)) ∙ fold-roll-Rule Bool (holds_step variables word) (Rule-F.Implies r s));
    same = λ v w word. ap (λ (p : Parts). p.holds word) (ap whole (sym (rolls-Same v w)) ∙ fold-roll-Rule Parts (parts_step variables) (Rule-F.Same v w)) ∙ sym (ap (holds variables word) (sym (rolls-Same v w)) ∙ fold-roll-Rule Bool (holds_step variables word) (Rule-F.Same v w));
    at_most = λ n rs h word. ap (λ (p : Parts). p.holds word) (ap whole (sym (rolls-AtMost n rs)) ∙ fold-roll-Rule Parts (parts_step variables) (Rule-F.AtMost n rs)) ∙ ap (λ bs. holds_step variables word (Rule-F.AtMost n bs)) (each_agrees word rs h) ∙ sym (ap (holds variables word) (sym (rolls-AtMost n rs)) ∙ fold-roll-Rule Bool (holds_step variables word) (Rule-F.AtMost n rs));
    table = λ vs rows word. ap (λ (p : Parts). p.holds word) (ap whole (sym (rolls-Table vs rows)) ∙ fold-roll-Rule Parts (parts_step variables) (Rule-F.Table vs rows)) ∙ sym (ap (holds variables word) (sym (rolls-Table vs rows)) ∙ fold-roll-Rule Bool (holds_step variables word) (Rule-F.Table vs rows));
  }

  -- the parts' own words are those for which the rule holds
  pub agrees : (rule : Rule) → Agrees rule
  agrees = every_rule Agrees forms

-- the parts before a rule are those of its subrules
subrules_map : {A B : Type 0} (f : A → B) (layer : Rule-F A) → subrules (map-Rule A B f layer) ≡ map f (subrules layer)
subrules_map f (Rule-F.Is v a) = refl
subrules_map f (Rule-F.IsNot v a) = refl
subrules_map f (Rule-F.OneOf v values) = refl
subrules_map f (Rule-F.Not r) = refl
subrules_map f (Rule-F.And rs) = refl
subrules_map f (Rule-F.Or rs) = refl
subrules_map f (Rule-F.Implies r s) = refl
subrules_map f (Rule-F.Same v w) = refl
subrules_map f (Rule-F.AtMost n rs) = refl
subrules_map f (Rule-F.Table vs rows) = refl

flat_map-map : {A B C : Type 0} (g : B → List C) (f : A → B) (xs : List A) → flat_map g (map f xs) ≡ flat_map (λ x. g (f x)) xs
flat_map-map g f [] = refl
flat_map-map g f (x ∷ xs) = ap (λ ys. g (f x) ++ ys) (flat_map-map g f xs)

pub parts_before_are : (variables : List Variable) (rule : Rule) → parts_before variables rule ≡ flat_map (parts_of variables) (members_of rule)
parts_before_are variables rule =
    ap (λ (p : Parts). p.before) (fold_out-Rule Parts (parts_step variables) rule)
    ∙ ap (flat_map with_itself) (subrules_map (fold-Rule Parts (parts_step variables)) (out-Rule rule))
    ∙ flat_map-map with_itself (fold-Rule Parts (parts_step variables)) (members_of rule)
