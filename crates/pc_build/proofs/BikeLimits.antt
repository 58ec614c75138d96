-- The sets that are made of the bike's rules, as tests that compute, and the first of them with too many nodes.
use Rattle.std.proofs.Common.{◌≡◌, ℕ, Bool, true, ◌&&◌, List, [], ◌∷◌, ◌++◌, refl, sym, subst}
use Rattle.pc_file.specs.declared.rule.Rule.{Rule-F}
use Rattle.pc_file.specs.Bike.{bike}
use Rattle.pc_file.specs.Full.{full_domains}
use Rattle.pc_file.specs.Parts.{Parts, with_itself, parts_step, compile_list, IsNodeLimit, HasNoNodeLimit}
use Rattle.pc_file.specs.Rule.{holds_step}
use Rattle.pc_file.proofs.BikeLemmas.{at_first, at_second}

-- the first rule by what its subrules give, and the second
abbrev first_rule : (A : Type 0) → (Rule-F A → A) → A
first_rule A step = step (Rule-F.Implies (step (Rule-F.Is 0 2)) (step (Rule-F.Is 1 1)))

abbrev second_rule : (A : Type 0) → (Rule-F A → A) → A
second_rule A step = step (Rule-F.Not (step (Rule-F.And (step (Rule-F.Is 0 0) ∷ step (Rule-F.Is 2 1) ∷ []))))

abbrev first_holds : List ℕ → Bool
first_holds word = first_rule Bool (holds_step bike.variables word)

abbrev second_holds : List ℕ → Bool
second_holds word = second_rule Bool (holds_step bike.variables word)

-- the sets that are made
abbrev made : List (List (List ℕ → Bool))
made =
    (with_itself (first_rule Parts (parts_step bike.variables)) ++ (λ word. true && first_holds word) ∷ [])
    ∷ (with_itself (second_rule Parts (parts_step bike.variables)) ++ (λ word. (true && first_holds word) && second_holds word) ∷ [])
    ∷ []

made_is : made ≡ compile_list bike
made_is =
    sym
    (λ i.
    (with_itself (at_first Parts (parts_step bike.variables) i) ++ (λ word. true && at_first Bool (holds_step bike.variables word) i) ∷ [])
    ∷ (with_itself (at_second Parts (parts_step bike.variables) i) ++ (λ word. (true && at_first Bool (holds_step bike.variables word) i) && at_second Bool (holds_step bike.variables word) i) ∷ [])
    ∷ [])

pub limit_three : IsNodeLimit 3 (full_domains bike) (compile_list bike) 1 1
limit_three = subst (λ sets. IsNodeLimit 3 (full_domains bike) sets 1 1) made_is refl

pub limit_four : IsNodeLimit 4 (full_domains bike) (compile_list bike) 1 3
limit_four = subst (λ sets. IsNodeLimit 4 (full_domains bike) sets 1 3) made_is refl

pub limit_five : IsNodeLimit 5 (full_domains bike) (compile_list bike) 2 4
limit_five = subst (λ sets. IsNodeLimit 5 (full_domains bike) sets 2 4) made_is refl

pub limit_six : IsNodeLimit 6 (full_domains bike) (compile_list bike) 2 5
limit_six = subst (λ sets. IsNodeLimit 6 (full_domains bike) sets 2 5) made_is refl

pub no_limit_seven : HasNoNodeLimit 7 (full_domains bike) (compile_list bike)
no_limit_seven = subst (HasNoNodeLimit 7 (full_domains bike)) made_is refl
