-- Marks of the places that are reached, one place and one column after another.
use Rattle.std.proofs.Common.{◌≡◌, ℕ, zero, suc, ◌+◌, ◌<◌, nat_lt, Bool, true, false, List, [], ◌∷◌, length, get_or, set, replicate, inl, inr, ◌⊎◌, refl, sym, ap, ◌∙◌, subst, arith, true≢false}
use Rattle.std.proofs.lemmas.Bool.Decides.{nat_tests}
use Rattle.std.proofs.lemmas.List.{get_or-set_same, length-set, length-replicate}
use Rattle.pc_conjunction.specs.Reached.{is_marked, IsLedTo, MarksMore, IsReached, AreReached}

-- a mark more leaves those that are there
set_keeps : (marks : List Bool) (i next : ℕ) → is_marked marks next ≡ true → is_marked (set marks i true) next ≡ true
set_keeps [] i next e = e
set_keeps (x ∷ xs) zero zero e = refl
set_keeps (x ∷ xs) zero (suc n) e = e
set_keeps (x ∷ xs) (suc i) zero e = e
set_keeps (x ∷ xs) (suc i) (suc n) e = set_keeps xs i n e

-- and marks no other place
set_only : (marks : List Bool) (i next : ℕ) → is_marked (set marks i true) next ≡ true → (is_marked marks next ≡ true) ⊎ (i ≡ next)
set_only [] i next e = inl e
set_only (x ∷ xs) zero zero e = inr refl
set_only (x ∷ xs) zero (suc n) e = inl e
set_only (x ∷ xs) (suc i) zero e = inl e
set_only (x ∷ xs) (suc i) (suc n) e = elim (set_only xs i n e) [
  | inl old ↦ inl old
  | inr same ↦ inr (ap suc same)
]

-- the first places of a column were gone through
pub record Marking (marks : List Bool) (places : List ℕ) (done : ℕ) (old new : List Bool) : Type 0 where
  pub count_is : length new ≡ length old
  pub kept : (next : ℕ) → is_marked old next ≡ true → is_marked new next ≡ true
  pub led : (place : ℕ) → place < done → is_marked marks place ≡ true → is_marked new (get_or places place 0) ≡ true
  pub only : (next : ℕ) → is_marked new next ≡ true → (is_marked old next ≡ true) ⊎ IsLedTo marks places next

pub marking_none : (marks : List Bool) (places : List ℕ) (old : List Bool) → Marking marks places 0 old old
marking_none marks places old = record { count_is = refl; kept = λ next e. e; led = λ place lt. absurd (omega arith); only = λ next e. inl e }

-- a place without a mark is passed over
pub marking_past : (marks : List Bool) (places : List ℕ) (done : ℕ) (old new : List Bool) → is_marked marks done ≡ false → Marking marks places done old new → Marking marks places (done + 1) old new
marking_past marks places done old new unmarked h = record {
  count_is = h.count_is;
  kept = h.kept;
  led = λ place lt there. by place lt there (nat_lt place done) refl;
  only = h.only;
}
  where
    by : (place : ℕ) → place < done + 1 → is_marked marks place ≡ true → (b : Bool) → nat_lt place done ≡ b → is_marked new (get_or places place 0) ≡ true
    by place lt there true before = h.led place (grind (arith, nat_tests)) there
    by place lt there false last =
        let here : done ≡ place = grind (arith, nat_tests) in
        absurd (true≢false (sym there ∙ sym (ap (is_marked marks) here) ∙ unmarked))

-- one with a mark marks where it goes on
pub marking_more : (marks : List Bool) (places : List ℕ) (done next : ℕ) (old new : List Bool) → is_marked marks done ≡ true → done < length places → get_or places done 0 ≡ next → next < length new → Marking marks places done old new → Marking marks places (done + 1) old (set new next true)
marking_more marks places done next old new marked inside goes within h = record {
  count_is = length-set new next true ∙ h.count_is;
  kept = λ n e. set_keeps new next n (h.kept n e);
  led = λ place lt there. by place lt there (nat_lt place done) refl;
  only = λ n e. elim (set_only new next n e) [
    | inl before ↦ h.only n before
    | inr same ↦ inr (record { place = done; inside = inside; marked = marked; goes = goes ∙ same })
  ];
}
  where
    by : (place : ℕ) → place < done + 1 → is_marked marks place ≡ true → (b : Bool) → nat_lt place done ≡ b → is_marked (set new next true) (get_or places place 0) ≡ true
    by place lt there true before = set_keeps new next (get_or places place 0) (h.led place (grind (arith, nat_tests)) there)
    by place lt there false last =
        let here : place ≡ done = grind (arith, nat_tests) in
        ap (λ i. is_marked (set new next true) (get_or places i 0)) here ∙ ap (is_marked (set new next true)) goes ∙ get_or-set_same new next true false within

pub marking_all : (marks : List Bool) (places : List ℕ) (done : ℕ) (old new : List Bool) → length places ≡ done → Marking marks places done old new → MarksMore marks places old new
marking_all marks places done old new end h = record {
  count_is = h.count_is;
  kept = h.kept;
  led = λ place lt there. h.led place (omega arith) there;
  only = h.only;
}

-- the first columns were gone through
pub record Reaching (marks : List Bool) (columns : List (List ℕ)) (count done : ℕ) (below : List Bool) : Type 0 where
  pub count_is : length below ≡ count
  pub led : (value place : ℕ) → value < done → place < length (get_or columns value []) → is_marked marks place ≡ true → is_marked below (get_or (get_or columns value []) place 0) ≡ true
  pub only : (next : ℕ) → is_marked below next ≡ true → IsReached marks columns next

none_marked : (count next : ℕ) → is_marked (replicate count false) next ≡ true → ⊥
none_marked zero next e = true≢false (sym e)
none_marked (suc count) zero e = true≢false (sym e)
none_marked (suc count) (suc next) e = none_marked count next e

pub reaching_none : (marks : List Bool) (columns : List (List ℕ)) (count : ℕ) → Reaching marks columns count 0 (replicate count false)
reaching_none marks columns count = record {
  count_is = length-replicate count false;
  led = λ value place lt. absurd (omega arith);
  only = λ next e. absurd (none_marked count next e);
}

-- one column more
pub reaching_more : (marks : List Bool) (columns : List (List ℕ)) (count done : ℕ) (column : List ℕ) (old new : List Bool) → done < length columns → get_or columns done [] ≡ column → MarksMore marks column old new → Reaching marks columns count done old → Reaching marks columns count (done + 1) new
reaching_more marks columns count done column old new inside is more h = record {
  count_is = more.count_is ∙ h.count_is;
  led = λ value place lt within there. by value place lt within there (nat_lt value done) refl;
  only = λ next e. elim (more.only next e) [
    | inl before ↦ h.only next before
    | inr led ↦ record { value = done; within = inside; led_to = subst (λ (places : List ℕ). IsLedTo marks places next) (sym is) led }
  ];
}
  where
    by : (value place : ℕ) → value < done + 1 → place < length (get_or columns value []) → is_marked marks place ≡ true → (b : Bool) → nat_lt value done ≡ b → is_marked new (get_or (get_or columns value []) place 0) ≡ true
    by value place lt within there true before = more.kept (get_or (get_or columns value []) place 0) (h.led value place (grind (arith, nat_tests)) within there)
    by value place lt within there false last =
        let here : value ≡ done = grind (arith, nat_tests) in
        let same : get_or columns value [] ≡ column = ap (λ i. get_or columns i []) here ∙ is in
        subst (λ (places : List ℕ). is_marked new (get_or places place 0) ≡ true) (sym same) (more.led place (subst (λ (places : List ℕ). place < length places) same within) there)

pub reaching_all : (marks : List Bool) (columns : List (List ℕ)) (count done : ℕ) (below : List Bool) → length columns ≡ done → Reaching marks columns count done below → AreReached marks columns count below
reaching_all marks columns count done below end h = record {
  count_is = h.count_is;
  led = λ value place lt within there. h.led value place (omega arith) within there;
  only = h.only;
}
