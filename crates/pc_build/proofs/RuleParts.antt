-- Making the parts of a rule, and then the rule itself.
use Rattle.std.proofs.Common.{◌≡◌, ℕ, Bool, List, [], ◌∷◌, ◌++◌, sym, ap, ◌∙◌, subst}
use Rattle.std.specs.List.{flat_map}
use Rattle.std.proofs.lemmas.List.{append-nil}
use Rattle.pc_file.specs.declared.variable.Variable.{Variable}
use Rattle.pc_file.specs.declared.rule.Rule.{Rule}
use Rattle.pc_file.specs.declared.rule.Rule.TheVariants.{Implies}
use Rattle.pc_file.specs.Rule.{holds}
use Rattle.pc_file.specs.Parts.{members_of, parts_before, parts_of}
use Rattle.pc_file.proofs.PartLemmas.{agrees, parts_before_are}
use Rattle.pc_build.specs.declared.fault.PartFault.{PartFault}
use Rattle.pc_build.specs.Making.{AllMade, Stopped}
use Rattle.pc_build.proofs.OverLemmas.{members-Implies}
use Rattle.pc_build.proofs.MakingLemmas.{all_made_both, stopped_first, stopped_second}

module _ (variables : List Variable) (rule : Rule) (domains : List ℕ) where
  abbrev before : List (List ℕ → Bool)
  before = flat_map (parts_of variables) (members_of rule)

  abbrev itself : List (List ℕ → Bool)
  itself = (λ word. holds variables word rule) ∷ []

  -- the parts of a rule are those of its subrules, and then the rule
  parts_are : parts_of variables rule ≡ before ++ itself
  parts_are = (λ i. parts_before variables rule ++ (λ word. agrees variables rule word i) ∷ []) ∙ ap (λ ps. ps ++ itself) (parts_before_are variables rule)

  -- making stops in the subrules
  pub subrules_stop : (old : ℕ) (fault : PartFault) → Stopped domains before old fault → Stopped domains (parts_of variables rule) old fault
  subrules_stop old fault h = subst (λ parts. Stopped domains parts old fault) (sym parts_are) (stopped_first domains before itself old fault h)

  -- it stops at the rule itself
  pub rule_stops : (old mid : ℕ) (fault : PartFault) → AllMade domains before old mid → Stopped domains itself mid fault → Stopped domains (parts_of variables rule) old fault
  rule_stops old mid fault made h = subst (λ parts. Stopped domains parts old fault) (sym parts_are) (stopped_second domains before itself old mid fault made h)

  -- all were made
  pub rule_made : (old mid new : ℕ) → AllMade domains before old mid → AllMade domains itself mid new → AllMade domains (parts_of variables rule) old new
  rule_made old mid new made h = subst (λ parts. AllMade domains parts old new) (sym parts_are) (all_made_both domains before itself old mid new made h)

-- the parts of the two subrules of an implication
module _ (variables : List Variable) (rule premise consequence : Rule) (domains : List ℕ) where
  two_parts : rule ≡ Implies premise consequence → flat_map (parts_of variables) (members_of rule) ≡ parts_of variables premise ++ parts_of variables consequence
  two_parts is = ap (flat_map (parts_of variables)) (members-Implies rule premise consequence is) ∙ ap (λ ps. parts_of variables premise ++ ps) (append-nil (parts_of variables consequence))

  pub first_stops : (old : ℕ) (fault : PartFault) → rule ≡ Implies premise consequence → Stopped domains (parts_of variables premise) old fault → Stopped domains (flat_map (parts_of variables) (members_of rule)) old fault
  first_stops old fault is h = subst (λ parts. Stopped domains parts old fault) (sym (two_parts is)) (stopped_first domains (parts_of variables premise) (parts_of variables consequence) old fault h)

  pub second_stops : (old mid : ℕ) (fault : PartFault) → rule ≡ Implies premise consequence → AllMade domains (parts_of variables premise) old mid → Stopped domains (parts_of variables consequence) mid fault → Stopped domains (flat_map (parts_of variables) (members_of rule)) old fault
  second_stops old mid fault is made h = subst (λ parts. Stopped domains parts old fault) (sym (two_parts is)) (stopped_second domains (parts_of variables premise) (parts_of variables consequence) old mid fault made h)

  pub both_made : (old mid new : ℕ) → rule ≡ Implies premise consequence → AllMade domains (parts_of variables premise) old mid → AllMade domains (parts_of variables consequence) mid new → AllMade domains (flat_map (parts_of variables) (members_of rule)) old new
  both_made old mid new is first second = subst (λ parts. AllMade domains parts old new) (sym (two_parts is)) (all_made_both domains (parts_of variables premise) (parts_of variables consequence) old mid new first second)
