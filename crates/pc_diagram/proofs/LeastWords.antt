-- The best of the words that pass a test: the cheapest, and among words that cost the same the one that comes first.
use Rattle.std.proofs.Common.{◌≡◌, ◌≢◌, ℕ, zero, suc, ◌+◌, ◌<◌, nat_lt, nat_eq, ◌==◌, Bool, true, false, cond, ◌&&◌, ◌||◌, ◌⊎◌, List, [], ◌∷◌, ◌++◌, map, filter, All, Option, Some, None, refl, sym, ap, ◌∙◌, subst, arith}
use Rattle.std.specs.Prelude.{⊤}
use Rattle.std.specs.Cmp.Lexicographic.{pointwise}
use Rattle.std.specs.List.{list_any, flat_map, range_with_len}
use Rattle.std.proofs.lemmas.Bool.{both_ways}
use Rattle.std.proofs.lemmas.Bool.Decides.{nat_tests}
use Rattle.std.proofs.lemmas.List.Elements.{All-nil, All-cons, All-head, All-tail, All-append, All-weaker, All-same}
use Rattle.std.proofs.lemmas.Slice.Eq.{bytes_eq-Decides}
use Rattle.pc_diagram.specs.declared.costs.CostPair.{CostPair}
use Rattle.pc_diagram.specs.Best.{best, first_best, is_cheaper_word, IsFirstUnbeaten}
use Rattle.pc_diagram.specs.NodePaths.{comes_before, IsLeast}
use Rattle.pc_diagram.specs.Words.{is_word, all_words}
use Rattle.pc_diagram.proofs.CheaperOrder.{is_cheaper_word_order}
use Rattle.pc_diagram.proofs.FirstBest.{first_best-found, first_best-none, IsFirstUnbeaten-all, IsFirstUnbeaten-member}
use Rattle.pc_diagram.proofs.WordLemmas.{kept_words-is}

-- each word comes before those after it
abbrev pub Ascends : List (List ℕ) → Type 0
Ascends [] = ⊤
Ascends (word ∷ words) = All (λ other. comes_before word other ≡ true) words × Ascends words

abbrev AllBefore : List (List ℕ) → List (List ℕ) → Type 0
AllBefore words others = All (λ word. All (λ other. comes_before word other ≡ true) others) words

ascends-append : (words others : List (List ℕ)) → Ascends words → Ascends others → AllBefore words others → Ascends (words ++ others)
ascends-append [] others h k before = k
ascends-append (word ∷ words) others h k before =
    let later : List ℕ → Type 0 = λ other. comes_before word other ≡ true in
    let each : List ℕ → Type 0 = λ w. All (λ other. comes_before w other ≡ true) others in
    (All-append later words others h.0 (All-head each word words before), ascends-append words others h.1 k (All-tail each word words before))

-- words that begin with a value
abbrev begin : List (List ℕ) → ℕ → List (List ℕ)
begin rests value = map (λ rest. value ∷ rest) rests

all_begin : (P : List ℕ → Type 0) (value : ℕ) (rests : List (List ℕ)) → All (λ rest. P (value ∷ rest)) rests → All P (begin rests value)
all_begin P value [] h = All-nil P
all_begin P value (rest ∷ rests) h =
    All-cons P (value ∷ rest) (begin rests value) (All-head (λ r. P (value ∷ r)) rest rests h) (all_begin P value rests (All-tail (λ r. P (value ∷ r)) rest rests h))

begin_same : (value : ℕ) (word other : List ℕ) → comes_before word other ≡ true → comes_before (value ∷ word) (value ∷ other) ≡ true
begin_same value word other h = by (nat_lt value value) (value == value) refl h
  where
    by : (a b : Bool) → (value == value) ≡ b → comes_before word other ≡ true → (a || (b && comes_before word other)) ≡ true
    by true b e k = refl
    by false true e k = k
    by false false e k = absurd (grind (arith, nat_tests))

begin_ascends : (value : ℕ) (rests : List (List ℕ)) → Ascends rests → Ascends (begin rests value)
begin_ascends value [] h = tt
begin_ascends value (rest ∷ rests) h =
    let P : List ℕ → Type 0 = λ other. comes_before (value ∷ rest) other ≡ true in
    (all_begin P value rests (All-weaker (λ other. comes_before rest other ≡ true) (λ other. P (value ∷ other)) (λ other. begin_same value rest other) rests h.0), begin_ascends value rests h.1)

everywhere : (P : List ℕ → Type 0) → ((word : List ℕ) → P word) → (words : List (List ℕ)) → All P words
everywhere P each [] = All-nil P
everywhere P each (word ∷ words) = All-cons P word words (each word) (everywhere P each words)

less_first : (a b : ℕ) (word other : List ℕ) → a < b → comes_before (a ∷ word) (b ∷ other) ≡ true
less_first a b word other lt = by (nat_lt a b) (grind (arith, nat_tests))
  where
    by : (t : Bool) → t ≡ true → (t || (a == b && comes_before word other)) ≡ true
    by true e = refl
    by false e = absurd cc

-- a word comes before all that begin with a greater value
before_begun : (word : List ℕ) (value : ℕ) (rests : List (List ℕ)) (a n : ℕ) → value < a → All (λ other. comes_before (value ∷ word) other ≡ true) (flat_map (begin rests) (range_with_len a n))
before_begun word value rests a zero lt = All-nil (λ other. comes_before (value ∷ word) other ≡ true)
before_begun word value rests a (suc n) lt =
    let P : List ℕ → Type 0 = λ other. comes_before (value ∷ word) other ≡ true in
    All-append P (begin rests a) (flat_map (begin rests) (range_with_len (a + 1) n))
    (all_begin P a rests (everywhere (λ rest. P (a ∷ rest)) (λ rest. less_first value a word rest lt) rests))
    (before_begun word value rests (a + 1) n (omega arith))

begun_ascends : (rests : List (List ℕ)) → Ascends rests → (a n : ℕ) → Ascends (flat_map (begin rests) (range_with_len a n))
begun_ascends rests h a zero = tt
begun_ascends rests h a (suc n) =
    let others = flat_map (begin rests) (range_with_len (a + 1) n) in
    ascends-append (begin rests a) others (begin_ascends a rests h) (begun_ascends rests h (a + 1) n)
    (all_begin (λ word. All (λ other. comes_before word other ≡ true) others) a rests
    (everywhere (λ rest. All (λ other. comes_before (a ∷ rest) other ≡ true) others) (λ rest. before_begun rest a rests (a + 1) n (omega arith)) rests))

-- the list of all words ascends
pub all_words-ascend : (domains : List ℕ) → Ascends (all_words domains)
all_words-ascend [] = (All-nil (λ other. comes_before [] other ≡ true), tt)
all_words-ascend (domain ∷ domains) = begun_ascends (all_words domains) (all_words-ascend domains) 0 domain

all-filter : (P : List ℕ → Type 0) (test : List ℕ → Bool) (words : List (List ℕ)) → All P words → All P (filter test words)
all-filter P test [] h = All-nil P
all-filter P test (word ∷ words) h = by (test word) (All-head P word words h) (all-filter P test words (All-tail P word words h))
  where
    by : (b : Bool) → P word → All P (filter test words) → All P (cond b (word ∷ filter test words) (filter test words))
    by true here rest = All-cons P word (filter test words) here rest
    by false here rest = rest

-- those that pass a test ascend too
pub filter-ascends : (test : List ℕ → Bool) (words : List (List ℕ)) → Ascends words → Ascends (filter test words)
filter-ascends test [] h = tt
filter-ascends test (word ∷ words) h =
    by (test word) (all-filter (λ other. comes_before word other ≡ true) test words h.0) (filter-ascends test words h.1)
  where
    by : (b : Bool) → All (λ other. comes_before word other ≡ true) (filter test words) → Ascends (filter test words) → Ascends (cond b (word ∷ filter test words) (filter test words))
    by true later rest = (later, rest)
    by false later rest = rest

-- what stands after a word comes after it
after_later : (before : List (List ℕ)) (word : List ℕ) (after : List (List ℕ)) → Ascends (before ++ word ∷ after) → All (λ other. comes_before word other ≡ true) after
after_later [] word after h = h.0
after_later (first ∷ before) word after h = after_later before word after h.1

-- what holds of every member holds of one that is among them
pub all_among : (P : List ℕ → Type 0) (word : List ℕ) (words : List (List ℕ)) → All P words → list_any (pointwise nat_eq word) words ≡ true → P word
all_among P word [] h among = absurd cc
all_among P word (other ∷ words) h among = by (pointwise nat_eq word other) refl among (all_among P word words (All-tail P other words h))
  where
    by : (b : Bool) → pointwise nat_eq word other ≡ b → (b || list_any (pointwise nat_eq word) words) ≡ true → (list_any (pointwise nat_eq word) words ≡ true → P word) → P word
    by true e k rest = subst P (sym ((bytes_eq-Decides word other).0 e)) (All-head P other words h)
    by false e k rest = rest k

pub comes_before-irreflexive : (word : List ℕ) → comes_before word word ≡ false
comes_before-irreflexive [] = refl
comes_before-irreflexive (value ∷ word) = by (nat_lt value value) (value == value) refl (comes_before-irreflexive word)
  where
    by : (a b : Bool) → nat_lt value value ≡ a → comes_before word word ≡ false → (a || (b && comes_before word word)) ≡ false
    by true b e k = absurd (grind (arith, nat_tests))
    by false true e k = k
    by false false e k = refl

-- of two words that differ one comes first, and not the other one
pub comes_before-one_way : (word other : List ℕ) → comes_before word other ≡ true → comes_before other word ≡ false
comes_before-one_way [] [] h = refl
comes_before-one_way [] (value ∷ other) h = refl
comes_before-one_way (value ∷ word) [] h = absurd cc
comes_before-one_way (a ∷ word) (b ∷ other) h = by (nat_lt a b) refl (a == b) refl (nat_lt b a) refl (b == a) refl h (comes_before-one_way word other)
  where
    by : (p : Bool) → nat_lt a b ≡ p → (q : Bool) → (a == b) ≡ q → (r : Bool) → nat_lt b a ≡ r → (s : Bool) → (b == a) ≡ s → (p || (q && comes_before word other)) ≡ true → (comes_before word other ≡ true → comes_before other word ≡ false) → (r || (s && comes_before other word)) ≡ false
    by true e q f true g s i k rest = absurd (grind (arith, nat_tests))
    by true e q f false g true i k rest = absurd (grind (arith, nat_tests))
    by true e q f false g false i k rest = refl
    by false e true f true g s i k rest = absurd (grind (arith, nat_tests))
    by false e true f false g true i k rest = rest k
    by false e true f false g false i k rest = refl
    by false e false f r g s i k rest = absurd cc

pub comes_before-tells : (word other : List ℕ) → comes_before word other ≡ false → comes_before other word ≡ false → word ≡ other
comes_before-tells [] [] h k = refl
comes_before-tells [] (value ∷ other) h k = absurd cc
comes_before-tells (value ∷ word) [] h k = absurd cc
comes_before-tells (a ∷ word) (b ∷ other) h k = by (nat_lt a b) refl (a == b) refl (nat_lt b a) refl (b == a) refl h k (comes_before-tells word other)
  where
    by : (p : Bool) → nat_lt a b ≡ p → (q : Bool) → (a == b) ≡ q → (r : Bool) → nat_lt b a ≡ r → (s : Bool) → (b == a) ≡ s → (p || (q && comes_before word other)) ≡ false → (r || (s && comes_before other word)) ≡ false → (comes_before word other ≡ false → comes_before other word ≡ false → word ≡ other) → (a ∷ word) ≡ (b ∷ other)
    by true e q f r g s i h k rest = absurd cc
    by false e true f true g s i h k rest = absurd cc
    by false e true f false g true i h k rest = let same : a ≡ b = grind (arith, nat_tests) in ap (λ v. v ∷ word) same ∙ ap (λ w. b ∷ w) (rest h k)
    by false e true f false g false i h k rest = absurd (grind (arith, nat_tests))
    by false e false f true g s i h k rest = absurd cc
    by false e false f false g s i h k rest = absurd (grind (arith, nat_tests))

there : (before : List (List ℕ)) (word : List ℕ) (after : List (List ℕ)) → list_any (pointwise nat_eq word) (before ++ word ∷ after) ≡ true
there [] word after = ap (λ b. b || list_any (pointwise nat_eq word) after) ((bytes_eq-Decides word word).1 refl)
there (first ∷ before) word after = by (pointwise nat_eq word first) (there before word after)
  where
    by : (b : Bool) → list_any (pointwise nat_eq word) (before ++ word ∷ after) ≡ true → (b || list_any (pointwise nat_eq word) (before ++ word ∷ after)) ≡ true
    by true h = refl
    by false h = h

both_true : (a b : Bool) → (a && b) ≡ true → (a ≡ true) × (b ≡ true)
both_true true true h = (refl, refl)
both_true true false h = absurd cc
both_true false b h = absurd cc

module _ (costs : List (List CostPair)) (test : List ℕ → Bool) (domains : List ℕ) where
  abbrev kept : List (List ℕ)
  kept = filter test (all_words domains)

  among : (word : List ℕ) → is_word domains word ≡ true → test word ≡ true → list_any (pointwise nat_eq word) kept ≡ true
  among word over passes = kept_words-is test domains word ∙ ap (λ b. b && is_word domains word) passes ∙ over

  -- the best is the least
  pub best-least : (word : List ℕ) → best costs kept ≡ Some word → IsLeast costs test domains word
  best-least word e =
      let order = is_cheaper_word_order costs in
      let h : IsFirstUnbeaten (is_cheaper_word costs) kept word = first_best-found (is_cheaper_word costs) order kept word e in
      let two = both_true (test word) (is_word domains word) (sym (kept_words-is test domains word) ∙ ap (list_any (pointwise nat_eq word)) h.stands ∙ there h.before word h.after) in
      let P : List ℕ → Type 0 = λ other. is_cheaper_word costs word other ≡ false → comes_before other word ≡ false in
      let later : All (λ other. comes_before word other ≡ true) h.after = after_later h.before word h.after (subst Ascends h.stands (filter-ascends test (all_words domains) (all_words-ascend domains))) in
      let front : All P h.before = All-weaker (λ other. is_cheaper_word costs word other ≡ true) P (λ other t f. absurd (both_ways (is_cheaper_word costs word other) f t)) h.before h.beats_before in
      let back : All P h.after = All-weaker (λ other. comes_before word other ≡ true) P (λ other t f. comes_before-one_way word other t) h.after later in
      let whole : All P kept = All-same P kept (h.before ++ word ∷ h.after) h.stands (All-append P h.before (word ∷ h.after) front (All-cons P word h.after (λ f. comes_before-irreflexive word) back)) in
      record {
        over = two.1;
        passes = two.0;
        unbeaten = λ other over passes. all_among (λ o. is_cheaper_word costs o word ≡ false) other kept (IsFirstUnbeaten-all (is_cheaper_word costs) order kept word h) (among other over passes);
        first = λ other over passes. all_among P other kept whole (among other over passes);
      }

  -- where there is none, no word passes
  pub best-none : best costs kept ≡ None → (word : List ℕ) → is_word domains word ≡ true → test word ≡ false
  best-none e word over = by (test word) refl
    where
      by : (b : Bool) → test word ≡ b → b ≡ false
      by false f = refl
      by true f = absurd (both_ways (list_any (pointwise nat_eq word) kept) (ap (list_any (pointwise nat_eq word)) (first_best-none (is_cheaper_word costs) (is_cheaper_word_order costs) kept e)) (among word over f))

  -- where no word passes, there is none
  pub none-best : ((word : List ℕ) → is_word domains word ≡ true → test word ≡ false) → best costs kept ≡ None
  none-best none = by (best costs kept) refl
    where
      by : (b : Option (List ℕ)) → best costs kept ≡ b → b ≡ None
      by None e = refl
      by (Some word) e = let h = best-least word e in absurd (both_ways (test word) (none word h.over) h.passes)

  -- the least is the best
  pub least-best : (word : List ℕ) → IsLeast costs test domains word → best costs kept ≡ Some word
  least-best word h = by (best costs kept) refl
    where
      by : (b : Option (List ℕ)) → best costs kept ≡ b → b ≡ Some word
      by None e = absurd (both_ways (test word) (best-none e word h.over) h.passes)
      by (Some other) e =
          let k = best-least other e in
          ap Some (comes_before-tells other word (h.first other k.over k.passes (k.unbeaten word h.over h.passes)) (k.first word h.over h.passes (h.unbeaten other k.over k.passes)))
