-- Rules joined one after another.
use Rattle.std.proofs.Common.{◌≡◌, ℕ, ◌+◌, ◌<◌, ◌≤◌, nat_lt, Bool, true, false, ◌&&◌, ◌||◌, List, [], ◌∷◌, ◌++◌, length, drop, get_or, Some, refl, sym, ap, ◌∙◌, subst, arith, append_assoc}
use Rattle.std.proofs.lemmas.List.{drop_more, length_push}
use Rattle.std.proofs.lemmas.List.Folds.{list_all_more}
use Rattle.pc_diagram.specs.declared.limits.TheConstants.{MOST_NODES}
use Rattle.std.proofs.lemmas.Bool.Decides.{nat_tests}
use Rattle.pc_diagram.specs.Rests.{size}
use Rattle.pc_diagram.specs.Words.{is_word}
use Rattle.pc_store.specs.declared.id.Id.{Id}
use Rattle.pc_store.specs.declared.store.Store.{Store}
use Rattle.pc_store.specs.Sets.{domains_of, IsIdAt, has}
use Rattle.pc_conjunction.specs.declared.conjunction.Conjunction.{Conjunction}
use Rattle.pc_conjunction.specs.Conjunctions.{conjunction_domains, contains}
use Rattle.pc_file.specs.declared.variable.Variable.{Variable}
use Rattle.pc_file.specs.declared.rule.Rule.{Rule}
use Rattle.pc_file.specs.Products.{value_counts}
use Rattle.pc_file.specs.Rule.{holds}
use Rattle.pc_file.specs.Parts.{parts_of, sets_of, node_limit_from, IsNodeLimit}
use Rattle.pc_build.specs.Making.{Holds, Denotes, AllMade, StopsAt}
use Rattle.pc_build.specs.Building.{Joined}
use Rattle.pc_build.proofs.LimitLemmas.{passed_over, limit_here, no_limit_here}

-- no rule yet
pub joined_none : (variables : List Variable) (rules : List Rule) (all : Conjunction) → Holds (value_counts variables) all (λ word. true) → Joined variables rules 0 all
joined_none variables rules all h = record {
  obeys = λ word. true;
  before = [];
  sets_are = refl;
  count_is = refl;
  none = refl;
  holds_all = h;
  words = λ word. refl;
}

module _ (variables : List Variable) (rules : List Rule) (i : ℕ) (all : Conjunction) (rule : Rule) (h : Joined variables rules i all) (lt : i < length rules) (read : rule ≡ get_or rules i rule) where
  -- the words for which this rule holds too
  abbrev both : List ℕ → Bool
  both word = h.obeys word && holds variables word rule

  -- the sets that are made with it
  abbrev sets : List (List ℕ → Bool)
  sets = parts_of variables rule ++ both ∷ []

  goes_on : sets_of variables (λ word. true) rules ≡ h.before ++ sets ∷ sets_of variables both (drop (i + 1) rules)
  goes_on = h.sets_are ∙ ap (λ rs. h.before ++ sets_of variables h.obeys rs) (drop_more rules i rule lt ∙ ap (λ r. r ∷ drop (i + 1) rules) (sym read))

  -- one rule more
  pub joined_more : (made : ℕ) (now : Conjunction) → AllMade (value_counts variables) sets 0 made → Holds (value_counts variables) now both → Joined variables rules (i + 1) now
  joined_more made now made_all holds_now = record {
    obeys = both;
    before = h.before ++ sets ∷ [];
    sets_are = goes_on ∙ sym (append_assoc h.before (sets ∷ []) (sets_of variables both (drop (i + 1) rules)));
    count_is = length_push h.before sets ∙ ap (λ n. n + 1) h.count_is;
    none = passed_over MOST_NODES (value_counts variables) 1 h.before (sets ∷ []) h.none ∙ no_limit_here MOST_NODES (value_counts variables) (1 + length h.before) sets made_all.none;
    holds_all = holds_now;
    words = λ word.
        (λ k. h.words word k && holds variables word (read k))
        ∙ sym (list_all_more (holds variables word) rules i rule lt);
  }

  -- one of its sets is too large
  pub limit_at : (part : ℕ) → StopsAt (value_counts variables) sets 0 part → IsNodeLimit MOST_NODES (value_counts variables) (sets_of variables (λ word. true) rules) (i + 1) part
  limit_at part stops =
      ap (node_limit_from 1 MOST_NODES (value_counts variables)) goes_on
      ∙ passed_over MOST_NODES (value_counts variables) 1 h.before (sets ∷ sets_of variables both (drop (i + 1) rules)) h.none
      ∙ limit_here MOST_NODES (value_counts variables) (1 + length h.before) sets (sets_of variables both (drop (i + 1) rules)) stops.place stops.part stops.first
      ∙ ap Some (λ k. (rule_is k, part_is k))
    where
      rule_is : 1 + length h.before ≡ i + 1
      rule_is = let c = h.count_is in omega arith

      part_is : stops.place + 1 ≡ part
      part_is = let n = stops.number_is in omega arith

and_true : (b : Bool) → b ≡ (b && true)
and_true true = refl
and_true false = refl

-- all words hold whatever is tested
pub holds_everywhere : (domains : List ℕ) (all : Conjunction) → conjunction_domains all ≡ domains → ((word : List ℕ) → contains all word ≡ is_word domains word) → Holds domains all (λ word. true)
holds_everywhere domains all same words = record { domains_are = same; words = λ word. words word ∙ and_true (is_word domains word) }

-- the words of a conjunction that are in a set too
pub both_hold : (domains : List ℕ) (all now : Conjunction) (store : Store) (own : Id) (test other : List ℕ → Bool) → domains_of store ≡ domains → Holds domains all test → Denotes store other own → conjunction_domains now ≡ conjunction_domains all → ((word : List ℕ) → contains now word ≡ (contains all word && has store own word)) → Holds domains now (λ word. test word && other word)
both_hold domains all now store own test other same h d domains_are words = record {
  domains_are = domains_are ∙ h.domains_are;
  words = λ word. words word ∙ (λ i. h.words word i && d.words word i) ∙ ap (λ ds. (is_word domains word && test word) && (is_word ds word && other word)) same ∙ by (is_word domains word) (test word) (other word);
}
  where
    by : (b c d : Bool) → ((b && c) && (b && d)) ≡ (b && (c && d))
    by true c d = refl
    by false c d = refl

-- what holds of a conjunction holds of one with the same words
pub holds_still : (domains : List ℕ) (all now : Conjunction) (test : List ℕ → Bool) → conjunction_domains now ≡ domains → ((word : List ℕ) → contains now word ≡ contains all word) → Holds domains all test → Holds domains now test
holds_still domains all now test same words h = record { domains_are = same; words = λ word. words word ∙ h.words word }

-- a set in a store with the words of a conjunction
pub denotes_same : (domains : List ℕ) (all : Conjunction) (store : Store) (set : Id) (test : List ℕ → Bool) → domains_of store ≡ domains → IsIdAt store 0 set → ((word : List ℕ) → has store set word ≡ contains all word) → Holds domains all test → Denotes store test set
denotes_same domains all store set test same is words h = record { is_id = is; words = λ word. words word ∙ h.words word ∙ ap (λ ds. is_word ds word && test word) (sym same) }

-- the size of the words of a conjunction
pub most_made : (domains : List ℕ) (all : Conjunction) (test : List ℕ → Bool) (most made now : ℕ) → Holds domains all test → size (conjunction_domains all) (contains all) ≤ most → most ≤ MOST_NODES → now ≡ made + 1 → AllMade domains (test ∷ []) made now
most_made domains all test most made now h bound small count = record {
  none = ap (λ b. b || false) (by (size domains (λ word. is_word domains word && test word)) (subst (λ n. n ≤ most) same bound));
  count = count;
}
  where
    same : size (conjunction_domains all) (contains all) ≡ size domains (λ word. is_word domains word && test word)
    same = (λ i. size (h.domains_are i) (λ word. h.words word i))

    by : (n : ℕ) → n ≤ most → nat_lt MOST_NODES n ≡ false
    by n le = grind (arith, nat_tests)
