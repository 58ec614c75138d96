-- Places for pairs, one pair after another.
use Rattle.std.proofs.Common.{◌≡◌, ℕ, ◌<◌, Bool, true, false, ◌&&◌, ◌==◌, List, [], ◌∷◌, ◌++◌, length, inl, inr, if◌then◌else◌, refl, sym, ap, ◌∙◌, subst, arith, append_assoc, length-append, nat_eq}
use Rattle.std.specs.List.{list_any}
use Rattle.std.proofs.lemmas.Bool.Decides.{nat_tests}
use Rattle.std.proofs.lemmas.List.{append-nil}
use Rattle.indexmap.specs.IndexSet.{insert_key}
use Rattle.pc_base.proofs.DistinctLemmas.{both_true_parts}
use Rattle.pc_store.specs.declared.store.Store.{Store}
use Rattle.pc_store.specs.Sets.{domains_of, IsNodeAt}
use Rattle.pc_apply.proofs.LevelLemmas.{last_or_before, still}
use Rattle.pc_conjunction.specs.declared.layer.Layer.{Layer}
use Rattle.pc_conjunction.specs.declared.pair.Pair.{Pair}
use Rattle.pc_conjunction.specs.Places.{accepts, IsLayered}
use Rattle.pc_conjunction.specs.Meets.{ArePairs, HavePlaces, Extends, Meets, MorePairs}

-- no pairs: the layers as they are
pub extends_none : (store : Store) (layer : ℕ) (layers : List Layer) → IsLayered layers → Extends store layer layers layers []
extends_none store layer layers h = record {
  layered = h;
  domains_are = refl;
  count_is = omega arith;
  places = record { kept = λ place lt word. refl; met = λ i pair at. absurd cc };
}

have_first : (store : Store) (layer : ℕ) (old new : List Layer) (pairs more : List Pair) → HavePlaces store layer old new (pairs ++ more) → HavePlaces store layer old new pairs
have_first store layer old new pairs more h = record { kept = h.kept; met = λ i pair at. h.met i pair (still pairs more i pair at) }

-- a place stands for the same where more pairs are made
pub meets_later : (store : Store) (layer count : ℕ) (layers : List Layer) (old new : List Pair) (place : ℕ) (test : List ℕ → Bool) (target : ℕ) → MorePairs store layer count old new → Meets store layer layers old place test target → Meets store layer layers new place test target
meets_later store layer count layers old new place test target more h =
    subst (λ pairs. Meets store layer layers pairs place test target) (sym more.pairs_are) (record {
      within = (let w = h.within in omega (arith, length-append old more.more));
      words = λ now have word. h.words now (have_first store layer layers now old more.more have) word;
    })

-- a place stands for the same by a test that tells the same
pub meets_same : (store : Store) (layer : ℕ) (layers : List Layer) (pairs : List Pair) (place : ℕ) (test other : List ℕ → Bool) (target : ℕ) → ((word : List ℕ) → test word ≡ other word) → Meets store layer layers pairs place test target → Meets store layer layers pairs place other target
meets_same store layer layers pairs place test other target same h = record {
  within = h.within;
  words = λ now have word. h.words now have word ∙ ap (λ b. accepts layers place word && b) (same word);
}

pub more_none : (store : Store) (layer count : ℕ) (pairs : List Pair) → MorePairs store layer count pairs pairs
more_none store layer count pairs = record { more = []; pairs_are = sym (append-nil pairs); valid = λ are. are; at_end = λ end. refl }

pub more_then : (store : Store) (layer count : ℕ) (first second third : List Pair) → MorePairs store layer count first second → MorePairs store layer count second third → MorePairs store layer count first third
more_then store layer count first second third h k = record {
  more = h.more ++ k.more;
  pairs_are = k.pairs_are ∙ ap (λ l. l ++ k.more) h.pairs_are ∙ append_assoc first h.more k.more;
  valid = λ are. k.valid (h.valid are);
  at_end = λ end. k.at_end end ∙ h.at_end end;
}

-- equality of pairs
abbrev pub same_pair : Pair → Pair → Bool
same_pair a b = nat_eq a.place b.place && nat_eq a.node.number b.node.number

pub same_pair-is : (a b : Pair) → same_pair a b ≡ true → a ≡ b
same_pair-is a b e =
    let parts = both_true_parts (nat_eq a.place b.place) (nat_eq a.node.number b.node.number) e in
    one a b (equal a.place b.place parts.0) (equal a.node.number b.node.number parts.1)
  where
    one : (a b : Pair) → a.place ≡ b.place → a.node.number ≡ b.node.number → a ≡ b
    one a b p n = λ i. record { place = p i; node = record { number = n i } }

    equal : (m n : ℕ) → nat_eq m n ≡ true → m ≡ n
    equal m n e = grind (arith, nat_tests)

-- one pair more, unless it is there
pub more_pair : (store : Store) (layer count : ℕ) (old new : List Pair) (pair : Pair) → pair.place < count → IsNodeAt store layer pair.node → (layer ≡ length (domains_of store) → ⊥) → new ≡ insert_key same_pair old pair → MorePairs store layer count old new
more_pair store layer count old new pair lt is inner e = subst (MorePairs store layer count old) (sym e) (by (list_any (same_pair pair) old))
  where
    valid_more : ArePairs store layer count old → ArePairs store layer count (old ++ pair ∷ [])
    valid_more are i p at = elim (last_or_before old pair p i at) [
      | inl before ↦ are i p before
      | inr last ↦ subst (λ (q : Pair). (q.place < count) × IsNodeAt store layer q.node) (sym last.1) (lt, is)
    ]

    by : (b : Bool) → MorePairs store layer count old (if b then old else old ++ pair ∷ [])
    by true = more_none store layer count old
    by false = record { more = pair ∷ []; pairs_are = refl; valid = valid_more; at_end = λ end. absurd (inner end) }

-- a list of no pairs
pub no_pairs : (pairs : List Pair) → (length pairs == 0) ≡ true → pairs ≡ []
no_pairs [] e = refl
no_pairs (pair ∷ pairs) e = absurd (grind (arith, nat_tests))
