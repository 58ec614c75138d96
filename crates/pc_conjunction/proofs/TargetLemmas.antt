-- The place of a pair.
use Rattle.std.proofs.Common.{◌≡◌, ℕ, zero, suc, ◌+◌, ◌<◌, ◌≤◌, Bool, true, false, ◌&&◌, List, [], ◌∷◌, length, drop, slice_get, Some, inl, inr, ◌⊎◌, refl, sym, ap, ◌∙◌, subst, arith, true≢false}
use Rattle.std.proofs.lemmas.Option.{slice_get_within}
use Rattle.pc_diagram.specs.Words.{is_word}
use Rattle.pc_store.specs.declared.id.Id.{Id}
use Rattle.pc_store.specs.declared.store.Store.{Store}
use Rattle.pc_store.specs.Sets.{domains_of, IsIdAt, IsNodeAt, id_at, layer_of, has, SameWords}
use Rattle.pc_store.proofs.SetLemmas.{words_are_over}
use Rattle.pc_store.specs.declared.id.Node.{Node}
use Rattle.pc_conjunction.specs.declared.layer.Layer.{Layer}
use Rattle.pc_conjunction.specs.declared.pair.Pair.{Pair}
use Rattle.pc_conjunction.specs.Places.{place_count, accepts, IsLayered}
use Rattle.pc_conjunction.specs.Meets.{Meets, in_node}
use Rattle.pc_conjunction.proofs.PlaceLemmas.{two_places, empty_place}

-- place 0 stands for no words
pub meets_none : (store : Store) (layer : ℕ) (layers : List Layer) (pairs : List Pair) (place : ℕ) (test : List ℕ → Bool) → IsLayered layers → ((word : List ℕ) → (accepts layers place word && test word) ≡ false) → Meets store layer layers pairs place test 0
meets_none store layer layers pairs place test h none = record {
  within = (let two = two_places layers h in omega arith);
  words = λ now have word. have.kept 0 (let two = two_places layers h in omega arith) word ∙ empty_place layers h word ∙ sym (none word);
}

and_false : (a b : Bool) → b ≡ false → (a && b) ≡ false
and_false true b e = e
and_false false b e = refl

pub none_at_empty : (layers : List Layer) (place : ℕ) (test : List ℕ → Bool) → IsLayered layers → place ≡ 0 → (word : List ℕ) → (accepts layers place word && test word) ≡ false
none_at_empty layers place test h zero_is word = ap (λ n. accepts layers n word && test word) zero_is ∙ ap (λ b. b && test word) (empty_place layers h word)

pub none_in_empty : (layers : List Layer) (place : ℕ) (test : List ℕ → Bool) → ((word : List ℕ) → test word ≡ false) → (word : List ℕ) → (accepts layers place word && test word) ≡ false
none_in_empty layers place test none word = and_false (accepts layers place word) (test word) (none word)

and_when : (a b : Bool) → (a ≡ true → b ≡ true) → (a && b) ≡ a
and_when true b f = f refl
and_when false b f = refl

-- a place stands for itself where all its words pass the test
pub meets_all : (store : Store) (layer : ℕ) (layers : List Layer) (pairs : List Pair) (place : ℕ) (test : List ℕ → Bool) → place < place_count layers → ((word : List ℕ) → accepts layers place word ≡ true → test word ≡ true) → Meets store layer layers pairs place test place
meets_all store layer layers pairs place test lt all = record {
  within = omega arith;
  words = λ now have word. have.kept place lt word ∙ sym (and_when (accepts layers place word) (test word) (all word));
}

-- the place of a pair stands for its words
pub meets_pair : (store : Store) (layer : ℕ) (layers : List Layer) (pairs : List Pair) (pair : Pair) (i target : ℕ) → slice_get pairs i ≡ Some pair → target ≡ place_count layers + i → Meets store layer layers pairs pair.place (in_node store layer pair) target
meets_pair store layer layers pairs pair i target at is = record {
  within = (let lt = slice_get_within pairs i pair at in omega arith);
  words = λ now have word. ap (λ n. accepts now n word) is ∙ have.met i pair at word;
}

pub drop_past : (xs : List ℕ) (n : ℕ) → length xs ≤ n → drop n xs ≡ []
drop_past [] zero le = refl
drop_past [] (suc n) le = refl
drop_past (x ∷ xs) zero le = absurd (omega arith)
drop_past (x ∷ xs) (suc n) le = drop_past xs n (omega arith)

-- a set past the last variable has all words there or none
pub all_or_none : (store : Store) (layer : ℕ) (set : Id) → IsIdAt store layer set → layer ≡ length (domains_of store) → (word : List ℕ) → has store set word ≡ (has store set [] && is_word (drop layer (domains_of store)) word)
all_or_none store layer set is end word = by word ∙ ap (λ d. has store set [] && is_word d word) (sym past)
  where
    past : drop layer (domains_of store) ≡ []
    past = drop_past (domains_of store) layer (omega arith)

    none : (b : Bool) (value : ℕ) (word : List ℕ) → has store set (value ∷ word) ≡ b → b ≡ false
    none false value word e = refl
    none true value word e = absurd (true≢false (sym (sym (ap (λ d. is_word d (value ∷ word)) past) ∙ words_are_over store layer set is (value ∷ word) e)))

    same : (b : Bool) → b ≡ (b && true)
    same true = refl
    same false = refl

    by : (word : List ℕ) → has store set word ≡ (has store set [] && is_word [] word)
    by [] = same (has store set [])
    by (value ∷ word) = none (has store set (value ∷ word)) value word refl ∙ sym (and_false (has store set []) false refl)

-- what the node of a child is
pub child_node : (store : Store) (layer : ℕ) (child : Id) (node : Node) → child ≡ id_at (layer_of child) node → IsIdAt store layer child → IsNodeAt store layer node × ((word : List ℕ) → has store (id_at layer node) word ≡ has store child word)
child_node store layer child node e is =
    let whole : child ≡ id_at layer node = e ∙ ap (λ l. id_at l node) is.1 in
    (subst (IsIdAt store layer) whole is, λ word. ap (λ id. has store id word) (sym whole))

-- so it is the set without words there or the one of all
pub all_or_none_set : (store : Store) (layer : ℕ) (set empty full : Id) → IsIdAt store layer set → layer ≡ length (domains_of store) → ((word : List ℕ) → has store empty word ≡ false) → ((word : List ℕ) → has store full word ≡ is_word (drop layer (domains_of store)) word) → SameWords store set empty ⊎ SameWords store set full
all_or_none_set store layer set empty full is end none all = by (has store set []) refl
  where
    by : (b : Bool) → has store set [] ≡ b → SameWords store set empty ⊎ SameWords store set full
    by true e = inr (λ word. all_or_none store layer set is end word ∙ ap (λ b. b && is_word (drop layer (domains_of store)) word) e ∙ sym (all word))
    by false e = inl (λ word. all_or_none store layer set is end word ∙ ap (λ b. b && is_word (drop layer (domains_of store)) word) e ∙ sym (none word))
