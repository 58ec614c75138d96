-- Pairs of sets as states of a product.
use Rattle.std.proofs.Common.{◌≡◌, ℕ, ◌+◌, nat_eq, Bool, true, false, ◌&&◌, List, ◌∷◌, Option, None, Some, IfSome, refl, sym, ap, ◌∙◌, subst, arith, true≢false}
use Rattle.std.proofs.lemmas.Bool.Decides.{nat_tests}
use Rattle.pc_base.proofs.DistinctLemmas.{both_true_parts}
use Rattle.pc_store.specs.declared.id.Id.{Id}
use Rattle.pc_store.specs.declared.id.Node.{Node}
use Rattle.pc_store.specs.declared.store.Store.{Store}
use Rattle.pc_store.specs.Sets.{layer_of, id_at, IsIdAt, has}
use Rattle.pc_store.proofs.SetLemmas.{words_are_over}
use Rattle.pc_apply.specs.declared.pair.Operation.{Operation}
use Rattle.pc_apply.specs.declared.pair.Operation.TheVariants.{And, Or, Without}
use Rattle.pc_apply.specs.declared.pair.Pair.{Pair}
use Rattle.pc_apply.specs.Levels.{Answers, Follows, is_over}
use Rattle.pc_apply.specs.Pairs.{holds, pairs_at, same_pair, HasBoth, Makes}
use Rattle.pc_apply.proofs.LevelLemmas.{FollowAlike}

-- equal pairs follow on the same
pub pairs_alike : (store : Store) (layer : ℕ) (operation : Operation) → FollowAlike same_pair store layer (pairs_at store layer operation) (pairs_at store (layer + 1) operation)
pairs_alike store layer operation pair value next other e h =
    let parts = both_true_parts (nat_eq next.left.number other.left.number) (nat_eq next.right.number other.right.number) e in
    subst (Follows store layer (pairs_at store layer operation) (pairs_at store (layer + 1) operation) pair value)
    (one next other (equal next.left.number other.left.number parts.0) (equal next.right.number other.right.number parts.1)) h
  where
    one : (a b : Pair) → a.left.number ≡ b.left.number → a.right.number ≡ b.right.number → a ≡ b
    one a b l r = λ i. record { left = record { number = l i }; right = record { number = r i } }

    equal : (m n : ℕ) → nat_eq m n ≡ true → m ≡ n
    equal m n e = grind (arith, nat_tests)

-- a set of the next layer is what the words of a set go on in after a value
abbrev pub GoesOn : Store → ℕ → Node → ℕ → Node → Type 0
GoesOn store layer node value next = (word : List ℕ) → has store (id_at (layer + 1) next) word ≡ has store (id_at layer node) (value ∷ word)

-- what two sets go on in after a value
pub pair_follows : (store : Store) (layer : ℕ) (operation : Operation) (pair next : Pair) (value : ℕ)
    → IsIdAt store (layer + 1) (id_at (layer + 1) next.left) → GoesOn store layer pair.left value next.left
    → IsIdAt store (layer + 1) (id_at (layer + 1) next.right) → GoesOn store layer pair.right value next.right
    → Follows store layer (pairs_at store layer operation) (pairs_at store (layer + 1) operation) pair value next
pair_follows store layer operation pair next value left_is left right_is right = record {
  is_at = record { left = left_is; right = right_is };
  same = λ word over. λ i. holds operation (left word i) (right word i);
}

-- what an operation asks for of words over the domains are such words
pub holds_over : (operation : Operation) (over left right : Bool) → (left ≡ true → over ≡ true) → (right ≡ true → over ≡ true) → (over && holds operation left right) ≡ holds operation left right
holds_over And true left right f g = refl
holds_over And false true right f g = absurd (true≢false (sym (f refl)))
holds_over And false false right f g = refl
holds_over Or true left right f g = refl
holds_over Or false true right f g = absurd (true≢false (sym (f refl)))
holds_over Or false false true f g = absurd (true≢false (sym (g refl)))
holds_over Or false false false f g = refl
holds_over Without true left right f g = refl
holds_over Without false true right f g = absurd (true≢false (sym (f refl)))
holds_over Without false false right f g = refl

-- a set with the words that an operation asks for of a pair's sets answers for the pair
pub made_answers : (store : Store) (layer : ℕ) (operation : Operation) (pair : Pair) (left right : Id) (made : Option Id) → HasBoth store layer pair → left ≡ id_at layer pair.left → right ≡ id_at layer pair.right →
    IfSome made (Makes store layer operation left right) → IfSome made (Answers store store layer (pairs_at store layer operation) pair)
made_answers store layer operation pair left right None both is_left is_right h = tt
made_answers store layer operation pair left right (Some id) both is_left is_right h = record {
  is_id = h.is_id;
  words = λ word.
      h.words word
      ∙ (λ i. holds operation (has store (is_left i) word) (has store (is_right i) word))
      ∙ sym (holds_over operation (is_over store layer word) (has store (id_at layer pair.left) word) (has store (id_at layer pair.right) word)
      (words_are_over store layer (id_at layer pair.left) both.left word) (words_are_over store layer (id_at layer pair.right) both.right word));
}

-- an id is that of its node
pub at_node : (layer : ℕ) (id : Id) (node : Node) → layer_of id ≡ layer → id ≡ id_at (layer_of id) node → id ≡ id_at layer node
at_node layer id node is e = e ∙ ap (λ l. id_at l node) is

-- what an operation asks for of sets of whole words
pub whole_words : (store : Store) (operation : Operation) (left right : Id) (first second : Node) → IsIdAt store 0 left → IsIdAt store 0 right → left ≡ id_at (layer_of left) first → right ≡ id_at (layer_of right) second → (word : List ℕ) →
    (is_over store 0 word && holds operation (has store (id_at 0 first) word) (has store (id_at 0 second) word)) ≡ holds operation (has store left word) (has store right word)
whole_words store operation left right first second is_left is_right left_node right_node word =
    (λ i. is_over store 0 word && holds operation (has store (sym (at_node 0 left first is_left.1 left_node) i) word) (has store (sym (at_node 0 right second is_right.1 right_node) i) word))
    ∙ holds_over operation (is_over store 0 word) (has store left word) (has store right word) (words_are_over store 0 left is_left word) (words_are_over store 0 right is_right word)
