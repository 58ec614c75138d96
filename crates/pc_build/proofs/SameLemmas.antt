-- Words that take values of one name at two variables.
use Rattle.std.proofs.Common.{◌≡◌, ℕ, zero, suc, ◌+◌, ◌-◌, ◌<◌, nat_eq, nat_lt, Bool, true, false, ◌&&◌, List, [], ◌∷◌, ◌++◌, drop, length, get_or, slice_get, Option, None, Some, refl, sym, ap, ◌∙◌, arith, inl, inr}
use Rattle.std.specs.Prelude.{option_and_then}
use Rattle.std.specs.Option.{option_map}
use Rattle.std.specs.Cmp.Lexicographic.{pointwise}
use Rattle.std.proofs.lemmas.Bool.{and_parts, eq-eqb, ne_eqb, cases_eq}
use Rattle.std.proofs.lemmas.List.{drop_more}
use Rattle.pc_diagram.specs.Words.{is_word}
use Rattle.pc_store.specs.declared.id.Id.{Id}
use Rattle.pc_store.specs.declared.store.Store.{Store}
use Rattle.pc_store.specs.Sets.{domains_of, IsIdAt, has, leads, Keeps}
use Rattle.pc_file.specs.declared.variable.Value.{Value}
use Rattle.pc_file.specs.declared.variable.Variable.{Variable}
use Rattle.pc_file.specs.Names.{taken_name}
use Rattle.pc_file.specs.Rule.{same_name}
use Rattle.pc_build.specs.Named.{name_of, name_at}
use Rattle.pc_build.proofs.BranchLemmas.{Branches, branches_more, branch_has}

-- names are the same in either order
pub same_name-swap : (a b : Option (List ℕ)) → same_name a b ≡ same_name b a
same_name-swap None None = refl
same_name-swap None (Some b) = refl
same_name-swap (Some a) None = refl
same_name-swap (Some a) (Some b) = swap a b
  where
    one : (x y : ℕ) → nat_eq x y ≡ nat_eq y x
    one x y = elim (cases_eq x y) [ inl same ↦ eq-eqb x y same ∙ sym (eq-eqb y x (sym same)) | inr differs ↦ ne_eqb x y differs ∙ sym (ne_eqb y x (λ same. differs (sym same))) ]

    swap : (a b : List ℕ) → pointwise nat_eq a b ≡ pointwise nat_eq b a
    swap [] [] = refl
    swap [] (y ∷ b) = refl
    swap (x ∷ a) [] = refl
    swap (x ∷ a) (y ∷ b) = (λ i. one x y i && swap a b i)

-- a name is the same as itself
pub same_name-itself : (a : Option (List ℕ)) → same_name a a ≡ true
same_name-itself None = refl
same_name-itself (Some a) = itself a
  where
    itself : (a : List ℕ) → pointwise nat_eq a a ≡ true
    itself [] = refl
    itself (x ∷ a) = (λ i. eq-eqb x x refl i && itself a i)

slice_get-drop : {X : Type 0} (n : ℕ) (xs : List X) (k : ℕ) → slice_get (drop n xs) k ≡ slice_get xs (n + k)
slice_get-drop zero xs k = let e : k ≡ 0 + k = omega arith in ap (slice_get xs) e
slice_get-drop (suc n) [] k = refl
slice_get-drop (suc n) (x ∷ xs) k = let e : suc (n + k) ≡ suc n + k = omega arith in slice_get-drop n xs k ∙ ap (slice_get (x ∷ xs)) e

pub name_at-drop : (values : List Value) (n : ℕ) (word : List ℕ) (k : ℕ) → name_at values (drop n word) k ≡ name_at values word (n + k)
name_at-drop values n word k = ap (λ (o : Option ℕ). option_and_then (name_of values) o) (slice_get-drop n word k)

-- the rest of a word is a word over the rest of the domains
pub is_word-drop : (n : ℕ) (domains word : List ℕ) → is_word domains word ≡ true → is_word (drop n domains) (drop n word) ≡ true
is_word-drop zero domains word is = is
is_word-drop (suc n) [] [] is = refl
is_word-drop (suc n) [] (value ∷ word) is = absurd cc
is_word-drop (suc n) (domain ∷ domains) [] is = absurd cc
is_word-drop (suc n) (domain ∷ domains) (value ∷ word) is = is_word-drop n domains word (and_parts (nat_lt value domain) (is_word domains word) is).1

-- a variable with its values gives the names that words take there
pub taken_name_is : (variables : List Variable) (place : ℕ) (variable : Variable) (word : List ℕ) → slice_get variables place ≡ Some variable → taken_name variables word place ≡ name_at variable.values word place
taken_name_is variables place variable word e =
    ap (λ (o : Option Variable). option_and_then (λ value. option_and_then (λ v. option_map (λ a. a.name) (slice_get v.values value)) o) (slice_get word place)) e

-- for each of the first values, the set of the words of a layer that take a value of its name at a place
abbrev pub Rests : Store → Store → ℕ → ℕ → List Value → List Value → ℕ → List Id → Type 0
Rests old now layer place values others = Branches old now layer (λ value word. same_name (name_of values value) (name_at others word place))

pub rests_more : (old mid now : Store) (layer place : ℕ) (values others : List Value) (done : ℕ) (rests : List Id) (id : Id) (name : List ℕ) → Rests old mid layer place values others done rests → name_of values done ≡ Some name → Keeps mid now → IsIdAt now layer id →
    ((word : List ℕ) → has now id word ≡ (is_word (drop layer (domains_of mid)) word && same_name (Some name) (name_at others word place))) → Rests old now layer place values others (done + 1) (rests ++ id ∷ [])
rests_more old mid now layer place values others done rests id name h named keeps is_id words =
    branches_more old mid now layer (λ value word. same_name (name_of values value) (name_at others word place)) done rests id h keeps is_id
    (λ word. words word ∙ ap (λ n. is_word (drop layer (domains_of mid)) word && same_name n (name_at others word place)) (sym named))

-- words of a layer that go on in such sets take values of one name there and at the other variable
pub same_from : (old mid : Store) (first distance : ℕ) (values others : List Value) (rests : List Id) (word : List ℕ) → first < length (domains_of old) → length values ≡ get_or (domains_of old) first 0 → Rests old mid (first + 1) distance values others (length values) rests →
    leads mid rests word ≡ (is_word (drop first (domains_of old)) word && same_name (name_at values word 0) (name_at others word (suc distance)))
same_from old mid first distance values others rests [] lt width h =
    sym (ap (λ l. is_word l [] && same_name (name_at values [] 0) (name_at others [] (suc distance))) (drop_more (domains_of old) first 0 lt))
same_from old mid first distance values others rests (value ∷ word) lt width h =
    branch_has old mid (first + 1) (λ v w. same_name (name_of values v) (name_at others w distance)) (length values) rests h value word
    ∙ ap (λ n. (nat_lt value n && is_word (drop (first + 1) (domains_of old)) word) && same_name (name_of values value) (name_at others word distance)) width
    ∙ ap (λ l. is_word l (value ∷ word) && same_name (name_of values value) (name_at others word distance)) (sym (drop_more (domains_of old) first 0 lt))

-- and whole words that come to them
pub same_words : (domains : List ℕ) (first second : ℕ) (values others : List Value) (word : List ℕ) → first < second →
    (is_word domains word && (is_word (drop first domains) (drop first word) && same_name (name_at values (drop first word) 0) (name_at others (drop first word) (suc (second - (first + 1)))))) ≡ (is_word domains word && same_name (name_at values word first) (name_at others word second))
same_words domains first second values others word lt = by (is_word domains word) refl
  where
    here : first + 0 ≡ first
    here = omega arith

    there : first + suc (second - (first + 1)) ≡ second
    there = omega arith

    by : (b : Bool) → is_word domains word ≡ b → (b && (is_word (drop first domains) (drop first word) && same_name (name_at values (drop first word) 0) (name_at others (drop first word) (suc (second - (first + 1)))))) ≡ (b && same_name (name_at values word first) (name_at others word second))
    by false e = refl
    by true e =
        ap (λ b. b && same_name (name_at values (drop first word) 0) (name_at others (drop first word) (suc (second - (first + 1))))) (is_word-drop first domains word e)
        ∙ (λ i. same_name ((name_at-drop values first word 0 ∙ ap (name_at values word) here) i) ((name_at-drop others first word (suc (second - (first + 1))) ∙ ap (name_at others word) there) i))
