-- For each value of a layer, a set of the words of the next layer that pass a test.
use Rattle.std.proofs.Common.{◌≡◌, ℕ, ◌+◌, ◌≤◌, ◌<◌, nat_lt, Bool, true, false, ◌&&◌, List, [], ◌∷◌, ◌++◌, drop, length, get_or, slice_get, Some, All, inl, inr, refl, sym, ap, ◌∙◌, subst, arith}
use Rattle.std.proofs.lemmas.Bool.{ltb-true, ltb-false}
use Rattle.std.proofs.lemmas.List.{length_push}
use Rattle.std.proofs.lemmas.Option.{slice_get-get_or, slice_get_past}
use Rattle.pc_diagram.specs.Words.{is_word}
use Rattle.pc_store.specs.declared.id.Id.{Id}
use Rattle.pc_store.specs.declared.store.Store.{Store}
use Rattle.pc_store.specs.Sets.{domains_of, IsIdAt, has, has_in, Keeps}
use Rattle.pc_store.proofs.SetLemmas.{keeps_then}
use Rattle.pc_apply.proofs.LevelLemmas.{last_or_before}

-- a set of the words from a layer on that pass a test
pub record Tested (old now : Store) (layer : ℕ) (test : List ℕ → Bool) (id : Id) : Type 0 where
  pub is_id : IsIdAt now layer id
  pub words : (word : List ℕ) → has now id word ≡ (is_word (drop layer (domains_of old)) word && test word)

-- for each of the first values, the set of what goes on after it
pub record Branches (old now : Store) (layer : ℕ) (tests : ℕ → List ℕ → Bool) (count : ℕ) (children : List Id) : Type 0 where
  pub width : length children ≡ count
  pub each : (value : ℕ) (id : Id) → slice_get children value ≡ Some id → Tested old now layer (tests value) id
  pub keeps : Keeps old now

pub branches_none : (store : Store) (layer : ℕ) (tests : ℕ → List ℕ → Bool) → Keeps store store → Branches store store layer tests 0 []
branches_none store layer tests keeps = record { width = refl; each = λ value id at. absurd cc; keeps = keeps }

-- one value more
pub branches_more : (old mid now : Store) (layer : ℕ) (tests : ℕ → List ℕ → Bool) (count : ℕ) (children : List Id) (id : Id) → Branches old mid layer tests count children → Keeps mid now → IsIdAt now layer id →
    ((word : List ℕ) → has now id word ≡ (is_word (drop layer (domains_of mid)) word && tests count word)) → Branches old now layer tests (count + 1) (children ++ id ∷ [])
branches_more old mid now layer tests count children id h keeps is_id words = record {
  width = length_push children id ∙ ap (λ n. n + 1) h.width;
  each = λ value x at. elim (last_or_before children id x value at) [
    | inl before ↦ let b = h.each value x before in record { is_id = (keeps.ids x b.is_id.0, b.is_id.1); words = λ word. keeps.sets x b.is_id.0 word ∙ b.words word }
    | inr last ↦ subst (Tested old now layer (tests value)) (sym last.1) (subst (λ v. Tested old now layer (tests v) id) (sym (last.0 ∙ h.width)) here)
  ];
  keeps = keeps_then old mid now h.keeps keeps;
}
  where
    here : Tested old now layer (tests count) id
    here = record {
      is_id = is_id;
      words = λ word. words word ∙ ap (λ d. is_word (drop layer d) word && tests count word) h.keeps.domains;
    }

pub branches_at : (old now : Store) (layer : ℕ) (tests : ℕ → List ℕ → Bool) (count : ℕ) (children : List Id) → Branches old now layer tests count children → All (IsIdAt now layer) children
branches_at old now layer tests count children h k d lt = (h.each k (get_or children k d) (slice_get-get_or children k d lt)).is_id

-- the words that go on in the branch of a value; past the values there is none
pub branch_has : (old now : Store) (layer : ℕ) (tests : ℕ → List ℕ → Bool) (count : ℕ) (children : List Id) → Branches old now layer tests count children → (value : ℕ) (word : List ℕ) →
    has_in now (slice_get children value) word ≡ ((nat_lt value count && is_word (drop layer (domains_of old)) word) && tests value word)
branch_has old now layer tests count children h value word = by (nat_lt value count) refl
  where
    by : (b : Bool) → nat_lt value count ≡ b → has_in now (slice_get children value) word ≡ ((nat_lt value count && is_word (drop layer (domains_of old)) word) && tests value word)
    by true e =
        let below : value < length children = (let l = ltb-true value count e in let c = h.width in omega arith) in
        let none : Id = record { layer = 0; node = 0 } in
        let at : slice_get children value ≡ Some (get_or children value none) = slice_get-get_or children value none below in
        ap (λ o. has_in now o word) at ∙ (h.each value (get_or children value none) at).words word ∙ ap (λ b. (b && is_word (drop layer (domains_of old)) word) && tests value word) (sym e)
    by false e =
        let past : length children ≤ value = (let l = ltb-false value count e in let c = h.width in omega arith) in
        ap (λ o. has_in now o word) (slice_get_past children value past) ∙ ap (λ b. (b && is_word (drop layer (domains_of old)) word) && tests value word) (sym e)
