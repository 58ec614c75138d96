-- How many parentheses are open in rules with members.
use Rattle.std.proofs.Common.{◌≡◌, ℕ, ◌+◌, ◌-◌, ◌≤◌, List, [], ◌∷◌, Bool, true, false, ◌&&◌, nat_le, max, map, fold, ap, sym, ◌∙◌, refl, arith}
use Rattle.std.specs.List.{list_all}
use Rattle.std.proofs.lemmas.List.Folds.{list_all-map}
use Rattle.std.proofs.lemmas.Bool.Decides.{nat_tests}
use Rattle.pc_file.specs.declared.rule.Rule.{Rule, Rule-F, fold-roll-Rule}
use Rattle.pc_file.specs.declared.rule.Rule.TheVariants.{And, Or, AtMost, rolls-And, rolls-Or, rolls-AtMost}
use Rattle.pc_file.specs.Nesting.{Nesting, nesting, nesting_step, open_in_place, open_in_places}

-- a limit that two numbers keep
pub nat_le-max : (a b limit : ℕ) → nat_le (max a b) limit ≡ (nat_le a limit && nat_le b limit)
nat_le-max a b limit = grind (arith, nat_tests)

and_true : (b : Bool) → b ≡ (b && true)
and_true true = refl
and_true false = refl

and_assoc : (a b c : Bool) → (a && b && c) ≡ (a && (b && c))
and_assoc true b c = refl
and_assoc false b c = refl

within-fold : (asked limit least : ℕ) (rules : List Nesting) → nat_le (fold max least (map (open_in_place asked) rules)) limit ≡ (nat_le least limit && list_all (λ rule. nat_le (open_in_place asked rule) limit) rules)
within-fold asked limit least [] = and_true (nat_le least limit)
within-fold asked limit least (rule ∷ rules) =
    let rest = list_all (λ rule. nat_le (open_in_place asked rule) limit) rules in
    within-fold asked limit (max least (open_in_place asked rule)) rules
    ∙ ap (λ b. b && rest) (nat_le-max least (open_in_place asked rule) limit)
    ∙ and_assoc (nat_le least limit) (nat_le (open_in_place asked rule) limit) rest

-- the limit is kept in each place
pub within-places : (asked limit : ℕ) (rules : List Rule) → nat_le (open_in_places asked (map nesting rules)) limit ≡ list_all (λ rule. nat_le (open_in_place asked (nesting rule)) limit) rules
within-places asked limit rules =
    let nothing : nat_le 0 limit ≡ true = grind (arith, nat_tests) in
    within-fold asked limit 0 (map nesting rules)
    ∙ ap (λ b. b && list_all (λ rule. nat_le (open_in_place asked rule) limit) (map nesting rules)) nothing
    ∙ list_all-map (λ rule. nat_le (open_in_place asked rule) limit) nesting rules

pub nesting-And : (members : List Rule) → nesting (And members) ≡ nesting_step (Rule-F.And (map nesting members))
nesting-And members = ap nesting (sym (rolls-And members)) ∙ fold-roll-Rule Nesting nesting_step (Rule-F.And members)

pub nesting-Or : (members : List Rule) → nesting (Or members) ≡ nesting_step (Rule-F.Or (map nesting members))
nesting-Or members = ap nesting (sym (rolls-Or members)) ∙ fold-roll-Rule Nesting nesting_step (Rule-F.Or members)

pub nesting-AtMost : (most : ℕ) (members : List Rule) → nesting (AtMost most members) ≡ nesting_step (Rule-F.AtMost most (map nesting members))
nesting-AtMost most members = ap nesting (sym (rolls-AtMost most members)) ∙ fold-roll-Rule Nesting nesting_step (Rule-F.AtMost most members)

-- one more parenthesis round them
pub one_less : (n limit : ℕ) → 1 ≤ limit → nat_le (n + 1) limit ≡ nat_le n (limit - 1)
one_less n limit h = grind (arith, nat_tests)
