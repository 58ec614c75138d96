-- Rows of demands, and the sets of the words that meet one of them.
use Rattle.std.proofs.Common.{◌≡◌, ℕ, zero, suc, ◌+◌, ◌<◌, ◌≤◌, nat_lt, Bool, true, false, ◌&&◌, ◌||◌, List, [], ◌∷◌, ◌++◌, take, drop, length, get_or, refl, sym, ap, ◌∙◌, arith}
use Rattle.std.specs.List.{list_any}
use Rattle.std.proofs.lemmas.List.{take_more}
use Rattle.std.proofs.lemmas.List.Folds.{list_any-append}
use Rattle.pc_diagram.specs.Words.{is_word}
use Rattle.pc_store.specs.declared.id.Id.{Id}
use Rattle.pc_store.specs.declared.store.Store.{Store}
use Rattle.pc_store.specs.Sets.{domains_of, has, leads, Keeps}
use Rattle.pc_file.specs.Rule.{row_fits}
use Rattle.pc_build.specs.declared.demand.Demand.{Demand}
use Rattle.pc_build.specs.Chains.{leads_on}
use Rattle.pc_build.specs.Demands.{meets, is_open, some_meets}
use Rattle.pc_build.proofs.BranchLemmas.{Branches, branch_has}
use Rattle.pc_build.proofs.CanonicalLemmas.{domains_split}
use Rattle.pc_build.proofs.WordLemmas.{and_assoc}

-- one of the first rows and one more passes a test where one of the first does, or that one
pub some_more : {X : Type 0} (test : X → Bool) (rows : List X) (i : ℕ) (row : X) → i < length rows → row ≡ get_or rows i row → list_any test (take (i + 1) rows) ≡ (list_any test (take i rows) || (test row || false))
some_more test rows i row lt read = ap (list_any test) (take_more rows i row lt ∙ ap (λ r. take i rows ++ r ∷ []) (sym read)) ∙ list_any-append test (take i rows) (row ∷ [])

-- a row is met by a word that begins with a value where it allows the value and the rest meets its rest
pub meets_after : (row : List Demand) (value : ℕ) (word : List ℕ) → meets row (value ∷ word) ≡ (is_open row value && meets (drop 1 row) word)
meets_after [] value word = refl
meets_after (demand ∷ demands) value word = refl

or_false : (b : Bool) → (b || false) ≡ b
or_false true = refl
or_false false = refl

-- a row that allows the value went on
pub rests_more : (rows rests : List (List Demand)) (i value : ℕ) (row : List Demand) (word : List ℕ) → i < length rows → row ≡ get_or rows i row → is_open row value ≡ true → some_meets rests word ≡ some_meets (take i rows) (value ∷ word) →
    some_meets (rests ++ drop 1 row ∷ []) word ≡ some_meets (take (i + 1) rows) (value ∷ word)
rests_more rows rests i value row word lt read allowed h =
    list_any-append (λ r. meets r word) rests (drop 1 row ∷ [])
    ∙ (λ k. h k || ((sym (ap (λ b. b && meets (drop 1 row) word) allowed) ∙ sym (meets_after row value word)) k || false))
    ∙ sym (some_more (λ r. meets r (value ∷ word)) rows i row lt read)

-- a row that doesn't allow it was left out
pub rests_same : (rows rests : List (List Demand)) (i value : ℕ) (row : List Demand) (word : List ℕ) → i < length rows → row ≡ get_or rows i row → is_open row value ≡ false → some_meets rests word ≡ some_meets (take i rows) (value ∷ word) →
    some_meets rests word ≡ some_meets (take (i + 1) rows) (value ∷ word)
rests_same rows rests i value row word lt read shut h =
    h ∙ sym (or_false (some_meets (take i rows) (value ∷ word)))
    ∙ (λ k. some_meets (take i rows) (value ∷ word) || ((sym (meets_after row value word ∙ ap (λ b. b && meets (drop 1 row) word) shut)) k || false))
    ∙ sym (some_more (λ r. meets r (value ∷ word)) rows i row lt read)

-- a row that allows all values is met whatever the first value is
pub free_more : (rows : List (List Demand)) (i : ℕ) (row : List Demand) → i < length rows → row ≡ get_or rows i row → ((value : ℕ) → is_open row value ≡ true) → (value other : ℕ) (word : List ℕ) → some_meets (take i rows) (value ∷ word) ≡ some_meets (take i rows) (other ∷ word) →
    some_meets (take (i + 1) rows) (value ∷ word) ≡ some_meets (take (i + 1) rows) (other ∷ word)
free_more rows i row lt read free value other word h =
    some_more (λ r. meets r (value ∷ word)) rows i row lt read
    ∙ (λ k. h k || (alike k || false))
    ∙ sym (some_more (λ r. meets r (other ∷ word)) rows i row lt read)
  where
    alike : meets row (value ∷ word) ≡ meets row (other ∷ word)
    alike =
        meets_after row value word ∙ ap (λ b. b && meets (drop 1 row) word) (free value ∙ sym (free other)) ∙ sym (meets_after row other word)

-- for each of the first values, the set of the words that meet a row after it
abbrev pub RestBranches : Store → Store → ℕ → List (List Demand) → ℕ → List Id → Type 0
RestBranches old now layer rows = Branches old now (layer + 1) (λ value word. some_meets rows (value ∷ word))

-- the words that go on in the branches of all values
pub branches_words : (old now : Store) (layer : ℕ) (rows : List (List Demand)) (children : List Id) (word : List ℕ) → layer < length (domains_of old) → RestBranches old now layer rows (get_or (domains_of old) layer 0) children →
    leads now children word ≡ (is_word (drop layer (domains_of old)) word && some_meets rows word)
branches_words old now layer rows children [] lt h = sym (ap (λ l. is_word l [] && some_meets rows []) (domains_split old layer lt))
branches_words old now layer rows children (value ∷ word) lt h =
    branch_has old now (layer + 1) (λ v w. some_meets rows (v ∷ w)) (get_or (domains_of old) layer 0) children h value word
    ∙ ap (λ l. is_word l (value ∷ word) && some_meets rows (value ∷ word)) (sym (domains_split old layer lt))

-- the words that begin with any value and go on where no row asks for one
pub free_words : (old mid : Store) (layer : ℕ) (rows rests : List (List Demand)) (below : Id) (word : List ℕ) → layer < length (domains_of old) → Keeps old mid → ((value other : ℕ) (word : List ℕ) → some_meets rows (value ∷ word) ≡ some_meets rows (other ∷ word)) →
    ((word : List ℕ) → some_meets rests word ≡ some_meets rows (0 ∷ word)) → ((word : List ℕ) → has mid below word ≡ (is_word (drop (layer + 1) (domains_of old)) word && some_meets rests word)) →
    leads_on mid (get_or (domains_of mid) layer 0) (λ value. true) below word ≡ (is_word (drop layer (domains_of old)) word && some_meets rows word)
free_words old mid layer rows rests below [] lt keeps free goes words = sym (ap (λ l. is_word l [] && some_meets rows []) (domains_split old layer lt))
free_words old mid layer rows rests below (value ∷ word) lt keeps free goes words =
    ap (λ d. nat_lt value (get_or d layer 0) && has mid below word) keeps.domains
    ∙ ap (λ b. nat_lt value (get_or (domains_of old) layer 0) && b) (words word ∙ ap (λ b. is_word (drop (layer + 1) (domains_of old)) word && b) (goes word ∙ free 0 value word))
    ∙ and_assoc (nat_lt value (get_or (domains_of old) layer 0)) (is_word (drop (layer + 1) (domains_of old)) word) (some_meets rows (value ∷ word))
    ∙ ap (λ l. is_word l (value ∷ word) && some_meets rows (value ∷ word)) (sym (domains_split old layer lt))

-- a row with a demand is not met by the empty word
pub ends_more : (rows : List (List Demand)) (i : ℕ) (row : List Demand) → i < length rows → row ≡ get_or rows i row → (row ≡ [] → ⊥) → some_meets (take i rows) [] ≡ false → some_meets (take (i + 1) rows) [] ≡ false
ends_more rows i row lt read some h = some_more (λ r. meets r []) rows i row lt read ∙ (λ k. h k || (unmet row some k || false))
  where
    unmet : (r : List Demand) → (r ≡ [] → ⊥) → meets r [] ≡ false
    unmet [] filled = absurd (filled refl)
    unmet (demand ∷ demands) filled = refl

-- a row without demands is met by every word
pub ends_all : (rows : List (List Demand)) → some_meets rows [] ≡ true → (word : List ℕ) → some_meets rows word ≡ true
ends_all [] h word = absurd cc
ends_all ([] ∷ rows) h word = refl
ends_all ((demand ∷ demands) ∷ rows) h word = ap (λ b. meets (demand ∷ demands) word || b) (ends_all rows h word) ∙ or_true (meets (demand ∷ demands) word)
  where
    or_true : (b : Bool) → (b || true) ≡ true
    or_true true = refl
    or_true false = refl

-- past the last variable no word meets rows that each have a demand
pub ends_none : (rows : List (List Demand)) (layer : ℕ) (domains : List ℕ) → layer ≡ length domains → some_meets rows [] ≡ false → (word : List ℕ) → (is_word (drop layer domains) word && some_meets rows word) ≡ false
ends_none rows layer domains end h [] = ap (λ b. is_word (drop layer domains) [] && b) h ∙ and_false (is_word (drop layer domains) [])
  where
    and_false : (b : Bool) → (b && false) ≡ false
    and_false true = refl
    and_false false = refl
ends_none rows layer domains end h (value ∷ word) = ap (λ l. is_word l (value ∷ word) && some_meets rows (value ∷ word)) (drop_all domains layer (omega arith))
  where
    drop_all : (xs : List ℕ) (n : ℕ) → length xs ≤ n → drop n xs ≡ []
    drop_all [] zero le = refl
    drop_all [] (suc n) le = refl
    drop_all (x ∷ xs) zero le = absurd (omega arith)
    drop_all (x ∷ xs) (suc n) le = drop_all xs n (omega arith)

-- the demands of one row more
pub demands_more : (rows : List (List ℕ)) (variables : List ℕ) (demands : List (List Demand)) (i : ℕ) (row : List ℕ) (asked : List Demand) (word rest : List ℕ) → i < length rows → row ≡ get_or rows i row → meets asked rest ≡ row_fits word variables row → some_meets demands rest ≡ list_any (row_fits word variables) (take i rows) →
    some_meets (demands ++ asked ∷ []) rest ≡ list_any (row_fits word variables) (take (i + 1) rows)
demands_more rows variables demands i row asked word rest lt read fits h =
    list_any-append (λ r. meets r rest) demands (asked ∷ []) ∙ (λ k. h k || (fits k || false)) ∙ sym (some_more (row_fits word variables) rows i row lt read)
