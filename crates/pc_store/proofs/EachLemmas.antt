-- The numbers of a list but 0, each once.
use Rattle.std.proofs.Common.{◌≡◌, ℕ, zero, suc, ◌+◌, ◌<◌, ◌≤◌, ◌==◌, nat_eq, Bool, true, false, not, ◌&&◌, ◌||◌, List, [], ◌∷◌, ◌++◌, length, get_or, take, All, append_assoc, refl, sym, ap, ◌∙◌, subst, arith, true≢false, if◌then◌else◌}
use Rattle.std.specs.List.{list_any, IsDistinct, AllByRecursion, flat_map}
use Rattle.std.proofs.lemmas.Bool.Decides.{nat_tests}
use Rattle.std.proofs.lemmas.List.{take_more, take_all, flat_map_more}
use Rattle.std.proofs.lemmas.List.Folds.{list_any-append}
use Rattle.indexmap.specs.IndexSet.{insert_key}
use Rattle.pc_store.specs.Each.{NamesEach}

-- a number of a list passes a test where the list has one that does
one_passes : (test : ℕ → Bool) (xs : List ℕ) → list_any test xs ≡ true → (x : ℕ) × (test x ≡ true) × (list_any (nat_eq x) xs ≡ true)
one_passes test [] h = absurd cc
one_passes test (x ∷ xs) h = by (test x) refl (one_passes test xs)
  where
    same : (n : ℕ) → nat_eq n n ≡ true
    same n = grind (arith, nat_tests)

    or_true : (b : Bool) → (b || true) ≡ true
    or_true true = refl
    or_true false = refl

    by : (b : Bool) → test x ≡ b → (list_any test xs ≡ true → (y : ℕ) × (test y ≡ true) × (list_any (nat_eq y) xs ≡ true)) → (y : ℕ) × (test y ≡ true) × (list_any (nat_eq y) (x ∷ xs) ≡ true)
    by true e rest = (x, e, ap (λ b. b || list_any (nat_eq x) xs) (same x))
    by false e rest =
        let later = rest (ap (λ b. b || list_any test xs) (sym e) ∙ h) in
        (later.0, later.1, ap (λ b. nat_eq later.0 x || b) later.2 ∙ or_true (nat_eq later.0 x))

passes_here : (test : ℕ → Bool) (x : ℕ) (xs : List ℕ) → list_any (nat_eq x) xs ≡ true → test x ≡ true → list_any test xs ≡ true
passes_here test x [] there p = absurd cc
passes_here test x (y ∷ ys) there p = by (nat_eq x y) refl (passes_here test x ys)
  where
    or_true : (b : Bool) → (b || true) ≡ true
    or_true true = refl
    or_true false = refl

    by : (b : Bool) → nat_eq x y ≡ b → (list_any (nat_eq x) ys ≡ true → test x ≡ true → list_any test ys ≡ true) → (test y || list_any test ys) ≡ true
    by true e rest =
        let one : x ≡ y = grind (arith, nat_tests) in
        ap (λ b. b || list_any test ys) (ap test (sym one) ∙ p)
    by false e rest = ap (λ b. test y || b) (rest (ap (λ b. b || list_any (nat_eq x) ys) (sym e) ∙ there) p) ∙ or_true (test y)

-- two tests that pass together are the same
together : (a b : Bool) → (a ≡ true → b ≡ true) → (b ≡ true → a ≡ true) → a ≡ b
together true true f g = refl
together true false f g = absurd (true≢false (sym (f refl)))
together false true f g = absurd (true≢false (sym (g refl)))
together false false f g = refl

-- a test that 0 fails passes on the same lists
pub any_each : (numbers kept : List ℕ) → NamesEach numbers kept → (test : ℕ → Bool) → test 0 ≡ false → list_any test kept ≡ list_any test numbers
any_each numbers kept h test zero_fails = together (list_any test kept) (list_any test numbers)
    (λ k.
    let one = one_passes test kept k in
    passes_here test one.0 numbers (second (not (one.0 == 0)) (list_any (nat_eq one.0) numbers) (sym (h.each one.0) ∙ one.2)) one.1)
    (λ n.
    let one = one_passes test numbers n in
    let inner : (one.0 == 0) ≡ false = not_zero one.0 one.1 in
    passes_here test one.0 kept (h.each one.0 ∙ ap (λ b. not b && list_any (nat_eq one.0) numbers) inner ∙ one.2) one.1)
  where
    second : (a b : Bool) → (a && b) ≡ true → b ≡ true
    second true b e = e
    second false b e = absurd cc

    not_zero : (x : ℕ) → test x ≡ true → (x == 0) ≡ false
    not_zero zero p = absurd (true≢false (sym p ∙ zero_fails))
    not_zero (suc n) p = grind (arith, nat_tests)

-- no numbers
pub each_none : NamesEach [] []
unfolding IsDistinct
each_none = record { once = tt; each = λ q. by (not (q == 0)) }
  where
    by : (b : Bool) → false ≡ (b && false)
    by true = refl
    by false = refl

apart_push : (y x : ℕ) (kept : List ℕ) → AllByRecursion (λ z. nat_eq y z ≡ false) kept → nat_eq y x ≡ false → AllByRecursion (λ z. nat_eq y z ≡ false) (kept ++ x ∷ [])
apart_push y x [] all apart = (apart, tt)
apart_push y x (z ∷ kept) all apart = (all.0, apart_push y x kept all.1 apart)

distinct_push : (kept : List ℕ) (x : ℕ) → list_any (nat_eq x) kept ≡ false → IsDistinct nat_eq kept → IsDistinct nat_eq (kept ++ x ∷ [])
unfolding IsDistinct
distinct_push [] x new d = (tt, tt)
distinct_push (y ∷ kept) x new d =
    let parts = both_false (nat_eq x y) (list_any (nat_eq x) kept) new in
    let apart : nat_eq y x ≡ false = turned x y parts.0 in
    (apart_push y x kept d.0 apart, distinct_push kept x parts.1 d.1)
  where
    both_false : (a b : Bool) → (a || b) ≡ false → (a ≡ false) × (b ≡ false)
    both_false true b h = absurd cc
    both_false false b h = (refl, h)

    turned : (a b : ℕ) → nat_eq a b ≡ false → nat_eq b a ≡ false
    turned a b h = grind (arith, nat_tests)

-- 0 comes, which is not named
pub each_zero : (numbers kept : List ℕ) (x : ℕ) → (x == 0) ≡ true → NamesEach numbers kept → NamesEach (numbers ++ x ∷ []) kept
each_zero numbers kept x is h = record {
  once = h.once;
  each = λ q. h.each q ∙ sym (ap (λ b. not (q == 0) && b) (list_any-append (nat_eq q) numbers (x ∷ [])) ∙ by q (list_any (nat_eq q) numbers));
}
  where
    by : (q : ℕ) (b : Bool) → (not (q == 0) && (b || (nat_eq q x || false))) ≡ (not (q == 0) && b)
    by q true = refl
    by q false = grind (arith, nat_tests)

was_there : (k n z s : Bool) → k ≡ (z && n) → (s ≡ true → k ≡ true) → k ≡ (z && (n || (s || false)))
was_there k n false s e f = e
was_there k true true s e f = e
was_there k false true true e f = f refl
was_there k false true false e f = e

is_new : (k n z s : Bool) → k ≡ (z && n) → (s ≡ true → z ≡ true) → (k || (s || false)) ≡ (z && (n || (s || false)))
is_new k n false true e f = absurd (true≢false (sym (f refl)))
is_new k n false false e f = ap (λ b. b || false) e
is_new k n true s e f = ap (λ b. b || (s || false)) e

-- another number comes, and is named unless it is already
pub each_more : (numbers kept : List ℕ) (x : ℕ) → (x == 0) ≡ false → NamesEach numbers kept → NamesEach (numbers ++ x ∷ []) (insert_key nat_eq kept x)
each_more numbers kept x is h = by (list_any (nat_eq x) kept) refl
  where
    after : (q : ℕ) → (not (q == 0) && (list_any (nat_eq q) numbers || (nat_eq q x || false))) ≡ (not (q == 0) && list_any (nat_eq q) (numbers ++ x ∷ []))
    after q = ap (λ b. not (q == 0) && b) (sym (list_any-append (nat_eq q) numbers (x ∷ [])))

    equal : (q : ℕ) → nat_eq q x ≡ true → x ≡ q
    equal q same = grind (arith, nat_tests)

    by : (b : Bool) → list_any (nat_eq x) kept ≡ b → NamesEach (numbers ++ x ∷ []) (if b then kept else kept ++ x ∷ [])
    by true has = record {
      once = h.once;
      each = λ q. was_there (list_any (nat_eq q) kept) (list_any (nat_eq q) numbers) (not (q == 0)) (nat_eq q x) (h.each q) (λ same. ap (λ n. list_any (nat_eq n) kept) (sym (equal q same)) ∙ has) ∙ after q;
    }
    by false new = record {
      once = distinct_push kept x new h.once;
      each = λ q.
          list_any-append (nat_eq q) kept (x ∷ [])
          ∙ is_new (list_any (nat_eq q) kept) (list_any (nat_eq q) numbers) (not (q == 0)) (nat_eq q x) (h.each q) (λ same. ap (λ n. not (n == 0)) (sym (equal q same)) ∙ ap not is)
          ∙ after q;
    }

-- a number comes
pub each_step : (x : ℕ) (old new : List ℕ) → ((x == 0) ≡ true → new ≡ old) → ((x == 0) ≡ false → new ≡ insert_key nat_eq old x) → (before : List ℕ) → NamesEach before old → NamesEach (before ++ x ∷ []) new
each_step x old new zero_stays other_comes before h = by (x == 0) refl
  where
    by : (b : Bool) → (x == 0) ≡ b → NamesEach (before ++ x ∷ []) new
    by true e = subst (NamesEach (before ++ x ∷ [])) (sym (zero_stays e)) (each_zero before old x e h)
    by false e = subst (NamesEach (before ++ x ∷ [])) (sym (other_comes e)) (each_more before old x e h)

-- a number comes that is 0 or was there
pub each_again : (x last : ℕ) (before kept : List ℕ) → x ≡ last → list_any (nat_eq last) (0 ∷ before) ≡ true → NamesEach before kept → NamesEach (before ++ x ∷ []) kept
each_again x last before kept same was h = record {
  once = h.once;
  each = λ q. h.each q ∙ sym (ap (λ b. not (q == 0) && b) (list_any-append (nat_eq q) before (x ∷ [])) ∙ by q (nat_eq q x) refl);
}
  where
    equal : (q : ℕ) → nat_eq q x ≡ true → last ≡ q
    equal q e = grind (arith, nat_tests)

    cases : (q : ℕ) (n : Bool) → (nat_eq q 0 || n) ≡ true → (not (q == 0) && (n || (true || false))) ≡ (not (q == 0) && n)
    cases q true e = refl
    cases q false e = grind (arith, nat_tests)

    drop_false : (z n : Bool) → (z && (n || (false || false))) ≡ (z && n)
    drop_false z true = refl
    drop_false z false = refl

    by : (q : ℕ) (b : Bool) → nat_eq q x ≡ b → (not (q == 0) && (list_any (nat_eq q) before || (nat_eq q x || false))) ≡ (not (q == 0) && list_any (nat_eq q) before)
    by q true e =
        ap (λ b. not (q == 0) && (list_any (nat_eq q) before || (b || false))) e
        ∙ cases q (list_any (nat_eq q) before) (subst (λ n. list_any (nat_eq n) (0 ∷ before) ≡ true) (equal q e) was)
    by q false e = ap (λ b. not (q == 0) && (list_any (nat_eq q) before || (b || false))) e ∙ drop_false (not (q == 0)) (list_any (nat_eq q) before)

-- the last of the numbers up to one place more is among 0 and these
pub last_was : (before nodes : List ℕ) (i last : ℕ) → list_any (nat_eq last) (0 ∷ take i nodes) ≡ true → list_any (nat_eq last) (0 ∷ (before ++ take i nodes)) ≡ true
last_was before nodes i last h =
    ap (λ b. nat_eq last 0 || b) (list_any-append (nat_eq last) before (take i nodes)) ∙ by (nat_eq last 0) (list_any (nat_eq last) before) (list_any (nat_eq last) (take i nodes)) h
  where
    by : (z b t : Bool) → (z || t) ≡ true → (z || (b || t)) ≡ true
    by true b t e = refl
    by false true t e = refl
    by false false t e = e

pub last_is : (nodes : List ℕ) (i last : ℕ) → i < length nodes → last ≡ get_or nodes i 0 → list_any (nat_eq last) (0 ∷ take (i + 1) nodes) ≡ true
last_is nodes i last lt is =
    ap (λ l. nat_eq last 0 || list_any (nat_eq last) l) (take_more nodes i 0 lt)
    ∙ ap (λ b. nat_eq last 0 || b) (list_any-append (nat_eq last) (take i nodes) (get_or nodes i 0 ∷ []))
    ∙ ap (λ b. nat_eq last 0 || (list_any (nat_eq last) (take i nodes) || (b || false))) (same last (get_or nodes i 0) is)
    ∙ by (nat_eq last 0) (list_any (nat_eq last) (take i nodes))
  where
    same : (m n : ℕ) → m ≡ n → nat_eq m n ≡ true
    same m n e = grind (arith, nat_tests)

    by : (z t : Bool) → (z || (t || true)) ≡ true
    by true t = refl
    by false true = refl
    by false false = refl

-- the numbers up to one place more
pub each_take : (before nodes kept : List ℕ) (i : ℕ) → i < length nodes → NamesEach ((before ++ take i nodes) ++ get_or nodes i 0 ∷ []) kept → NamesEach (before ++ take (i + 1) nodes) kept
each_take before nodes kept i lt h =
    subst (λ l. NamesEach l kept) (append_assoc before (take i nodes) (get_or nodes i 0 ∷ []) ∙ ap (λ l. before ++ l) (sym (take_more nodes i 0 lt))) h

pub each_all : (before nodes kept : List ℕ) (i : ℕ) → length nodes ≤ i → NamesEach (before ++ take i nodes) kept → NamesEach (before ++ nodes) kept
each_all before nodes kept i ge h = subst (λ l. NamesEach (before ++ l) kept) (take_all i nodes ge) h

pub each_children : (f : ℕ → List ℕ) (nodes kept : List ℕ) (i : ℕ) → i < length nodes → NamesEach (flat_map f (take i nodes) ++ f (get_or nodes i 0)) kept → NamesEach (flat_map f (take (i + 1) nodes)) kept
each_children f nodes kept i lt h =
    subst (λ l. NamesEach l kept) (flat_map_more f [] (take i nodes) (get_or nodes i 0) ∙ ap (flat_map f) (sym (take_more nodes i 0 lt))) h

-- what holds of each number of a list holds of those named
member_holds : (P : ℕ → Type 0) (xs : List ℕ) (x : ℕ) → AllByRecursion P xs → list_any (nat_eq x) xs ≡ true → P x
member_holds P [] x all h = absurd cc
member_holds P (y ∷ ys) x all h = by (nat_eq x y) refl (member_holds P ys x all.1)
  where
    equal : nat_eq x y ≡ true → y ≡ x
    equal same = grind (arith, nat_tests)

    by : (b : Bool) → nat_eq x y ≡ b → (list_any (nat_eq x) ys ≡ true → P x) → P x
    by true e rest = subst P (equal e) all.0
    by false e rest = rest (ap (λ b. b || list_any (nat_eq x) ys) (sym e) ∙ h)

stands_there : (xs : List ℕ) (i d : ℕ) → i < length xs → list_any (nat_eq (get_or xs i d)) xs ≡ true
stands_there [] i d lt = absurd (omega arith)
stands_there (x ∷ xs) zero d lt = ap (λ b. b || list_any (nat_eq x) xs) (same x)
  where
    same : (n : ℕ) → nat_eq n n ≡ true
    same n = grind (arith, nat_tests)
stands_there (x ∷ xs) (suc i) d lt = ap (λ b. nat_eq (get_or xs i d) x || b) (stands_there xs i d (omega arith)) ∙ by (nat_eq (get_or xs i d) x)
  where
    by : (b : Bool) → (b || true) ≡ true
    by true = refl
    by false = refl

-- the named are other than 0, and members
pub named_member : (numbers kept : List ℕ) → NamesEach numbers kept → (i d : ℕ) → i < length kept → (not (get_or kept i d == 0) && list_any (nat_eq (get_or kept i d)) numbers) ≡ true
named_member numbers kept h i d lt = sym (h.each (get_or kept i d)) ∙ stands_there kept i d lt

pub both_hold : (a b : Bool) → (a && b) ≡ true → (a ≡ true) × (b ≡ true)
both_hold true b h = (refl, h)
both_hold false b h = absurd cc

pub named_hold : (P : ℕ → Type 0) (numbers kept : List ℕ) → NamesEach numbers kept → AllByRecursion P numbers → All P kept
named_hold P numbers kept h all i d lt =
    member_holds P numbers (get_or kept i d) all (both_hold (not (get_or kept i d == 0)) (list_any (nat_eq (get_or kept i d)) numbers) (named_member numbers kept h i d lt)).1

pub named_not_zero : (numbers kept : List ℕ) → NamesEach numbers kept → (i d : ℕ) → i < length kept → (get_or kept i d == 0) ≡ false
named_not_zero numbers kept h i d lt = turned (get_or kept i d == 0) (both_hold (not (get_or kept i d == 0)) (list_any (nat_eq (get_or kept i d)) numbers) (named_member numbers kept h i d lt)).0
  where
    turned : (b : Bool) → not b ≡ true → b ≡ false
    turned true e = absurd cc
    turned false e = refl
