-- No set that is made of the bike's rules has too many nodes.
use Rattle.std.proofs.Common.{◌≡◌, ℕ, ◌+◌, ◌≤◌, nat_lt, Bool, true, false, cond, List, [], ◌∷◌, Option, None, Some, option_map, position, refl, sym, ap, ◌∙◌, arith}
use Rattle.std.specs.List.{position_from}
use Rattle.std.specs.Option.{option_or}
use Rattle.std.proofs.lemmas.Bool.Decides.{nat_tests}
use Rattle.std.proofs.lemmas.Iterator.Adapters.{position_from-zero}
use Rattle.pc_diagram.specs.declared.limits.TheConstants.{MOST_NODES}
use Rattle.pc_file.specs.Bike.{bike}
use Rattle.pc_file.specs.Full.{full_domains}
use Rattle.pc_file.specs.Parts.{compile_list, file_node_limit, is_too_large, node_limit_from}
use Rattle.pc_build.proofs.BikeLimits.{no_limit_seven}

-- where an item that fails one test fails another, none passes that where none passes this
nowhere-from : {X : Type 0} (p q : X → Bool) → ((x : X) → p x ≡ false → q x ≡ false) → (n : ℕ) (xs : List X) → position_from p n xs ≡ None → position_from q n xs ≡ None
nowhere-from p q fails n [] none = refl
nowhere-from p q fails n (x ∷ xs) none = by (nowhere-from p q fails (n + 1) xs) (p x) refl none
  where
    by : (position_from p (n + 1) xs ≡ None → position_from q (n + 1) xs ≡ None) → (b : Bool) → p x ≡ b → cond b (Some n) (position_from p (n + 1) xs) ≡ None → position_from q n (x ∷ xs) ≡ None
    by rest true is e = absurd cc
    by rest false is e = ap (λ b. cond b (Some n) (position_from q (n + 1) xs)) (fails x is) ∙ rest e

nowhere : {X : Type 0} (p q : X → Bool) → ((x : X) → p x ≡ false → q x ≡ false) → (xs : List X) → position p xs ≡ None → position q xs ≡ None
nowhere p q fails xs none = position_from-zero q xs ∙ nowhere-from p q fails 0 xs (sym (position_from-zero p xs) ∙ none)

few-nodes : (low high nodes : ℕ) → low ≤ high → nat_lt low nodes ≡ false → nat_lt high nodes ≡ false
few-nodes low high nodes below few = grind (arith, nat_tests)

-- where no set has more nodes than one limit allows, none has more than a higher one does
module _ (low high : ℕ) (below : low ≤ high) (domains : List ℕ) where
  higher-limit : (rule : ℕ) (made : List (List (List ℕ → Bool))) → node_limit_from rule low domains made ≡ None → node_limit_from rule high domains made ≡ None
  higher-limit rule [] none = refl
  higher-limit rule (sets ∷ made) none = by (higher-limit (rule + 1) made) (position (is_too_large low domains) sets) refl none
    where
      by : (node_limit_from (rule + 1) low domains made ≡ None → node_limit_from (rule + 1) high domains made ≡ None) → (here : Option ℕ) → position (is_too_large low domains) sets ≡ here → option_or (option_map (λ place. (rule, place + 1)) here) (node_limit_from (rule + 1) low domains made) ≡ None → node_limit_from rule high domains (sets ∷ made) ≡ None
      by rest (Some place) is e = absurd cc
      by rest None is e =
          ap (λ here. option_or (option_map (λ place. (rule, place + 1)) here) (node_limit_from (rule + 1) high domains made))
          (nowhere (is_too_large low domains) (is_too_large high domains) (λ test few. few-nodes low high _ below few) sets is)
          ∙ rest e

pub bike_small : file_node_limit bike ≡ None
bike_small = higher-limit 7 MOST_NODES (omega arith) (full_domains bike) 1 (compile_list bike) no_limit_seven
