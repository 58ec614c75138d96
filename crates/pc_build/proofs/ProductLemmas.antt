-- The products of a file, by the set of its rules.
use Rattle.std.proofs.Common.{◌≡◌, ℕ, zero, suc, ◌<◌, ◌≤◌, nat_le, Bool, true, false, not, cond, ◌&&◌, List, [], ◌∷◌, filter, length, get_or, All, refl, sym, ap, ◌∙◌, subst, arith, true≢false}
use Rattle.std.specs.Prelude.{◌↔◌, IsTrue, Contains}
use Rattle.std.specs.List.{list_all}
use Rattle.std.proofs.lemmas.Bool.Decides.{nat_tests}
use Rattle.pc_base.proofs.DistinctLemmas.{both_true_parts}
use Rattle.pc_diagram.specs.Words.{is_word, all_words}
use Rattle.pc_store.specs.declared.id.Id.{Id}
use Rattle.pc_store.specs.declared.store.Store.{Store}
use Rattle.pc_store.specs.Layered.{IsDomain}
use Rattle.pc_store.specs.Sets.{domains_of, has, SameWords}
use Rattle.pc_file.specs.declared.variable.Variable.{Variable}
use Rattle.pc_file.specs.declared.rule.Rule.{Rule}
use Rattle.pc_file.specs.Contents.{Contents}
use Rattle.pc_file.specs.Limits.{is_reserved, is_value, is_sized, is_variable, is_spelled, is_shallow, is_rule}
use Rattle.pc_file.specs.Products.{value_counts, obeys, products}
use Rattle.pc_file.proofs.WordLemmas.{kept_only, kept_each}
use Rattle.pc_diagram.specs.declared.raw_diagram.RawDiagram.{RawDiagram}
use Rattle.pc_diagram.specs.Paths.{has_word, words}
use Rattle.pc_build.specs.Making.{AreSpelled, Denotes}
use Rattle.pc_build.proofs.FullLemmas.{are_words}

-- the numbers of values of a file's variables
sized : (costs : ℕ) (variable : Variable) → is_variable costs variable ≡ true → IsDomain (length variable.values)
sized costs variable h =
    let first = both_true_parts (not (is_reserved variable.name) && is_sized variable) (list_all (is_value costs) variable.values) h in
    let size = both_true_parts (nat_le 1 (length variable.values)) (nat_le (length variable.values) 64) (both_true_parts (not (is_reserved variable.name)) (is_sized variable) first.0).1 in
    record { some_value = least (length variable.values) size.0; few_values = most (length variable.values) size.1 }
  where
    least : (n : ℕ) → nat_le 1 n ≡ true → 0 < n
    least n e = grind (arith, nat_tests)

    most : (n : ℕ) → nat_le n 64 ≡ true → n ≤ 64
    most n e = grind (arith, nat_tests)

pub counts_are_domains : (costs : ℕ) (variables : List Variable) → list_all (is_variable costs) variables ≡ true → All IsDomain (value_counts variables)
counts_are_domains costs [] h k d lt = absurd (omega arith)
counts_are_domains costs (variable ∷ variables) h zero d lt = sized costs variable (both_true_parts (is_variable costs variable) (list_all (is_variable costs) variables) h).0
counts_are_domains costs (variable ∷ variables) h (suc k) d lt = counts_are_domains costs variables (both_true_parts (is_variable costs variable) (list_all (is_variable costs) variables) h).1 k d (omega arith)

-- the rules of a file are spelled
pub rules_spelled : (variables : List Variable) (rules : List Rule) → list_all (is_rule variables) rules ≡ true → AreSpelled variables rules
unfolding AreSpelled
rules_spelled variables [] h = refl
rules_spelled variables (rule ∷ rules) h =
    let both = both_true_parts (is_rule variables rule) (list_all (is_rule variables) rules) h in
    let first = both_true_parts (is_spelled variables rule) (is_shallow rule) both.0 in
    let rest : list_all (is_spelled variables) rules ≡ true = rules_spelled variables rules both.1 in
    (λ i. first.0 i && rest i)

-- no word obeys where the set is empty
pub no_products : (store : Store) (file : Contents) (set none : Id) (r : Bool) → domains_of store ≡ value_counts file.variables → Denotes store (obeys file) set → ((word : List ℕ) → has store none word ≡ false) → IsTrue r ↔ SameWords store set none → r ≡ true → products file ≡ []
no_products store file set none r domains denotes empty same is = by (filter (obeys file) (all_words (value_counts file.variables))) refl
  where
    nothing : (word : List ℕ) → (is_word (domains_of store) word && obeys file word) ≡ false
    nothing word = sym (denotes.words word) ∙ (same.0 is) word ∙ empty word

    by : (words : List (List ℕ)) → filter (obeys file) (all_words (value_counts file.variables)) ≡ words → words ≡ []
    by [] e = refl
    by (word ∷ words) e =
        let parts = kept_only (obeys file) (value_counts file.variables) word (subst (λ ws. Contains ws word) (sym e) (0, omega arith, refl)) in
        absurd (true≢false (sym ((λ i. is_word (domains i) word && obeys file word) ∙ (λ i. parts.0 i && parts.1 i)) ∙ nothing word))

-- some word obeys where the set isn't empty
pub some_products : (store : Store) (file : Contents) (set none : Id) (r : Bool) → domains_of store ≡ value_counts file.variables → Denotes store (obeys file) set → ((word : List ℕ) → has store none word ≡ false) → IsTrue r ↔ SameWords store set none → r ≡ false → products file ≡ [] → ⊥
some_products store file set none r domains denotes empty same isnt nothing = true≢false (sym (same.1 (λ word. absent word ∙ sym (empty word))) ∙ isnt)
  where
    by : (word : List ℕ) (b c : Bool) → is_word (domains_of store) word ≡ b → obeys file word ≡ c → (b && c) ≡ false
    by word false c e f = refl
    by word true false e f = refl
    by word true true e f = absurd (let there = subst (λ ws. Contains ws word) nothing (kept_each (obeys file) (value_counts file.variables) word (ap (λ d. is_word d word) (sym domains) ∙ e) f) in let lt : there.0 < 0 = there.1 in omega arith)

    absent : (word : List ℕ) → has store set word ≡ false
    absent word = denotes.words word ∙ by word (is_word (domains_of store) word) (obeys file word) refl refl

pub some_word : (store : Store) (file : Contents) (set : Id) → domains_of store ≡ value_counts file.variables → Denotes store (obeys file) set → (products file ≡ [] → ⊥) → (word : List ℕ) × (has store set word ≡ true)
some_word store file set domains denotes some = by (products file) refl
  where
    by : (words : List (List ℕ)) → products file ≡ words → (word : List ℕ) × (has store set word ≡ true)
    by [] e = absurd (some e)
    by (word ∷ words) e =
        let parts = kept_only (obeys file) (value_counts file.variables) word (subst (λ ws. Contains ws word) (sym e) (0, omega arith, refl)) in
        (word, denotes.words word ∙ (λ i. is_word (domains i) word && obeys file word) ∙ (λ i. parts.0 i && parts.1 i))

kept_alike : (p q : List ℕ → Bool) (xs : List (List ℕ)) → All (λ x. p x ≡ q x) xs → filter p xs ≡ filter q xs
kept_alike p q [] h = refl
kept_alike p q (x ∷ xs) h = λ i. cond (h 0 x (omega arith) i) (x ∷ kept_alike p q xs (λ k d lt. h (suc k) d (omega arith)) i) (kept_alike p q xs (λ k d lt. h (suc k) d (omega arith)) i)

-- the words along the paths of a diagram with the words of the set
pub words_are_products : (store : Store) (file : Contents) (set : Id) (raw : RawDiagram) → domains_of store ≡ value_counts file.variables → Denotes store (obeys file) set → raw.domains ≡ domains_of store → ((word : List ℕ) → has_word raw word ≡ has store set word) → words raw ≡ products file
words_are_products store file set raw domains denotes same has_same =
    ap (λ d. filter (has_word raw) (all_words d)) (same ∙ domains)
    ∙ kept_alike (has_word raw) (obeys file) (all_words (value_counts file.variables)) (λ k d lt. alike (get_or (all_words (value_counts file.variables)) k d) (are_words (value_counts file.variables) k d lt))
  where
    alike : (word : List ℕ) → is_word (value_counts file.variables) word ≡ true → has_word raw word ≡ obeys file word
    alike word is = has_same word ∙ denotes.words word ∙ (λ i. is_word (domains i) word && obeys file word) ∙ ap (λ b. b && obeys file word) is
