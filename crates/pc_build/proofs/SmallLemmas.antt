-- The set of a file's products is small where all sets are that are made on the way.
use Rattle.std.proofs.Common.{◌≡◌, ℕ, ◌≤◌, nat_lt, Bool, true, false, ◌&&◌, List, [], ◌∷◌, ◌++◌, length, refl, sym, ap, ◌∙◌, subst, arith}
use Rattle.std.specs.List.{list_all, list_any}
use Rattle.std.proofs.lemmas.Bool.{or_parts}
use Rattle.std.proofs.lemmas.Bool.Decides.{nat_tests}
use Rattle.std.proofs.lemmas.List.{length-map}
use Rattle.std.proofs.lemmas.List.Folds.{list_any-append}
use Rattle.pc_diagram.specs.declared.limits.TheConstants.{MOST_NODES}
use Rattle.pc_diagram.specs.Words.{is_word}
use Rattle.pc_diagram.specs.Rests.{size}
use Rattle.pc_store.specs.declared.id.Id.{Id}
use Rattle.pc_store.specs.declared.store.Store.{Store}
use Rattle.pc_store.specs.Sets.{domains_of, has}
use Rattle.pc_file.specs.declared.variable.Variable.{Variable}
use Rattle.pc_file.specs.declared.rule.Rule.{Rule}
use Rattle.pc_file.specs.Contents.{Contents}
use Rattle.pc_file.specs.Limits.{IsFile}
use Rattle.pc_file.specs.Products.{value_counts, obeys}
use Rattle.pc_file.specs.Rule.{holds}
use Rattle.pc_file.specs.Parts.{parts_of, sets_of, is_too_large}
use Rattle.pc_build.specs.Making.{Denotes}
use Rattle.pc_build.specs.Building.{IsSmall}
use Rattle.pc_build.proofs.FullLemmas.{full_size}
use Rattle.pc_build.proofs.LimitLemmas.{none_too_large}

and_true : (b : Bool) → (b && true) ≡ b
and_true true = refl
and_true false = refl

and_assoc : (a b c : Bool) → ((a && b) && c) ≡ (a && (b && c))
and_assoc true b c = refl
and_assoc false b c = refl

-- the last set is that of all rules
last_small : (variables : List Variable) (acc : List ℕ → Bool) (rule : Rule) (rules : List Rule) → list_any (list_any (is_too_large MOST_NODES (value_counts variables))) (sets_of variables acc (rule ∷ rules)) ≡ false → is_too_large MOST_NODES (value_counts variables) (λ word. acc word && list_all (holds variables word) (rule ∷ rules)) ≡ false
last_small variables acc rule [] none =
    let large = is_too_large MOST_NODES (value_counts variables) in
    let both : List ℕ → Bool = λ word. acc word && holds variables word rule in
    let first = (or_parts (list_any large (parts_of variables rule ++ both ∷ [])) false none).0 in
    let end = (or_parts (list_any large (parts_of variables rule)) (list_any large (both ∷ [])) (sym (list_any-append large (parts_of variables rule) (both ∷ [])) ∙ first)).1 in
    ap large (λ i word. acc word && and_true (holds variables word rule) i) ∙ (or_parts (large both) false end).0
last_small variables acc rule (other ∷ rules) none =
    let large = is_too_large MOST_NODES (value_counts variables) in
    let both : List ℕ → Bool = λ word. acc word && holds variables word rule in
    let rest = (or_parts (list_any large (parts_of variables rule ++ both ∷ [])) (list_any (list_any large) (sets_of variables both (other ∷ rules))) none).1 in
    ap large (λ i word. sym (and_assoc (acc word) (holds variables word rule) (list_all (holds variables word) (other ∷ rules))) i) ∙ last_small variables both other rules rest

within : (n : ℕ) → nat_lt MOST_NODES n ≡ false → n ≤ MOST_NODES
within n e = grind (arith, nat_tests)

obeying_small : (variables : List Variable) (rules : List Rule) → length variables ≤ 64 → list_any (list_any (is_too_large MOST_NODES (value_counts variables))) (sets_of variables (λ word. true) rules) ≡ false → size (value_counts variables) (λ word. is_word (value_counts variables) word && list_all (holds variables word) rules) ≤ MOST_NODES
obeying_small variables [] few none =
    let full = full_size (value_counts variables) in
    let count = length-map variables (λ v. length v.values) in
    subst (λ set. size (value_counts variables) set ≤ MOST_NODES) (λ i word. sym (and_true (is_word (value_counts variables) word)) i) (omega arith)
obeying_small variables (rule ∷ rules) few none = within (size (value_counts variables) (λ word. is_word (value_counts variables) word && list_all (holds variables word) (rule ∷ rules))) (last_small variables (λ word. true) rule rules none)

-- the set of the products
pub products_small : (store : Store) (file : Contents) (set : Id) → IsFile file → IsSmall file → domains_of store ≡ value_counts file.variables → Denotes store (obeys file) set → size (domains_of store) (has store set) ≤ MOST_NODES
products_small store file set limits none domains denotes =
    let small = obeying_small file.variables file.rules limits.variables_at_most (none_too_large MOST_NODES (value_counts file.variables) 1 (sets_of file.variables (λ word. true) file.rules) none) in
    subst (λ s. size (domains_of store) s ≤ MOST_NODES) (λ i word. sym (denotes.words word) i)
    (subst (λ d. size d (λ word. is_word d word && obeys file word) ≤ MOST_NODES) (sym domains) small)
