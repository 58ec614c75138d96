-- What rows demand after each value of the first variable, one value and one row more at a time.
use Rattle.std.proofs.Common.{◌≡◌, ℕ, zero, suc, ◌+◌, ◌<◌, ◌≤◌, nat_lt, Bool, true, false, ◌&&◌, ◌||◌, List, [], ◌∷◌, ◌++◌, take, drop, length, get_or, set, replicate, refl, sym, ap, ◌∙◌, arith}
use Rattle.std.proofs.lemmas.Bool.Decides.{nat_tests}
use Rattle.std.proofs.lemmas.List.{get_or-set_same, get_or-set_other, length-set, length-replicate}
use Rattle.std.proofs.lemmas.List.Folds.{list_any-append}
use Rattle.pc_build.specs.declared.demand.Demand.{Demand}
use Rattle.pc_build.specs.declared.rests.Values.{Values}
use Rattle.pc_build.specs.Demands.{meets, is_open, some_meets, AreRests, WithRow, AllowsWithin}
use Rattle.pc_build.proofs.TrieLemmas.{meets_after, some_more}

or_false : (b : Bool) → (b || false) ≡ b
or_false true = refl
or_false false = refl

-- the rests with one more row at the values before one
pub record AddedTo (row : List Demand) (value : ℕ) (before after : List (List (List Demand))) : Type 0 where
  pub width : length after ≡ length before
  pub done : (v : ℕ) (word : List ℕ) → v < length before → v < value → some_meets (get_or after v []) word ≡ (some_meets (get_or before v []) word || meets row (v ∷ word))
  pub left : (v : ℕ) → value ≤ v → get_or after v [] ≡ get_or before v []

-- a row that doesn't allow a value adds nothing there
shut_adds : (row : List Demand) (value : ℕ) (word : List ℕ) (rest : List (List Demand)) → is_open row value ≡ false → some_meets rest word ≡ (some_meets rest word || meets row (value ∷ word))
shut_adds row value word rest shut =
    sym (or_false (some_meets rest word))
    ∙ ap (λ b. some_meets rest word || b) (sym (meets_after row value word ∙ ap (λ b. b && meets (drop 1 row) word) shut))

-- no value outside of these is allowed
shut_outside : (row : List Demand) (count : ℕ) (values : Values) (value : ℕ) → AllowsWithin row count values → value < count → (values.first ≤ value → value < values.end → ⊥) → is_open row value ≡ false
shut_outside row count values value within lt outside = by (is_open row value) refl
  where
    by : (b : Bool) → is_open row value ≡ b → is_open row value ≡ false
    by true allowed = (let inside = within value lt allowed in absurd (outside inside.0 inside.1))
    by false shut = shut

pub added_start : (row : List Demand) (count : ℕ) (values : Values) (before : List (List (List Demand))) → length before ≡ count → AllowsWithin row count values → AddedTo row values.first before before
added_start row count values before long within = record {
  width = refl;
  done = λ v word lt less. shut_adds row v word (get_or before v []) (shut_outside row count values v within (omega arith) (λ low high. absurd (omega arith)));
  left = λ v from. refl;
}

-- a value that isn't allowed is passed over
pub added_past : (row : List Demand) (value : ℕ) (before mid : List (List (List Demand))) → is_open row value ≡ false → AddedTo row value before mid → AddedTo row (value + 1) before mid
added_past row value before mid shut h = record {
  width = h.width;
  done = λ v word lt less. by v word lt less (nat_lt v value) refl;
  left = λ v from. h.left v (omega arith);
}
  where
    by : (v : ℕ) (word : List ℕ) → v < length before → v < value + 1 → (b : Bool) → nat_lt v value ≡ b → some_meets (get_or mid v []) word ≡ (some_meets (get_or before v []) word || meets row (v ∷ word))
    by v word lt less true earlier = h.done v word lt (grind (arith, nat_tests))
    by v word lt less false last =
        let here : v ≡ value = grind (arith, nat_tests) in
        ap (λ (rest : List (List Demand)). some_meets rest word) (h.left v (omega arith))
        ∙ shut_adds row v word (get_or before v []) (ap (is_open row) here ∙ shut)

-- what a row demands after a value that it allows
open_adds : (row : List Demand) (value : ℕ) (word : List ℕ) (rest : List (List Demand)) → is_open row value ≡ true → some_meets (rest ++ drop 1 row ∷ []) word ≡ (some_meets rest word || meets row (value ∷ word))
open_adds row value word rest allowed =
    list_any-append (λ r. meets r word) rest (drop 1 row ∷ [])
    ∙ ap (λ b. some_meets rest word || b) (or_false (meets (drop 1 row) word) ∙ sym (meets_after row value word ∙ ap (λ b. b && meets (drop 1 row) word) allowed))

pub added_more : (row : List Demand) (value : ℕ) (before mid : List (List (List Demand))) → is_open row value ≡ true → value < length before → AddedTo row value before mid → AddedTo row (value + 1) before (set mid value (get_or mid value [] ++ drop 1 row ∷ []))
added_more row value before mid allowed inside h = record {
  width = length-set mid value (get_or mid value [] ++ drop 1 row ∷ []) ∙ h.width;
  done = λ v word lt less. by v word lt less (nat_lt v value) refl;
  left = λ v from. get_or-set_other mid value v (get_or mid value [] ++ drop 1 row ∷ []) [] (λ same. absurd (omega arith)) ∙ h.left v (omega arith);
}
  where
    grown : List (List (List Demand))
    grown = set mid value (get_or mid value [] ++ drop 1 row ∷ [])

    by : (v : ℕ) (word : List ℕ) → v < length before → v < value + 1 → (b : Bool) → nat_lt v value ≡ b → some_meets (get_or grown v []) word ≡ (some_meets (get_or before v []) word || meets row (v ∷ word))
    by v word lt less true earlier =
        let low : v < value = grind (arith, nat_tests) in
        ap (λ (rest : List (List Demand)). some_meets rest word) (get_or-set_other mid value v (get_or mid value [] ++ drop 1 row ∷ []) [] (λ same. absurd (omega arith)))
        ∙ h.done v word lt low
    by v word lt less false last =
        let here : v ≡ value = grind (arith, nat_tests) in
        let wide = h.width in
        ap (λ i. some_meets (get_or grown i []) word) here
        ∙ ap (λ (rest : List (List Demand)). some_meets rest word) (get_or-set_same mid value (get_or mid value [] ++ drop 1 row ∷ []) [] (omega arith))
        ∙ open_adds row value word (get_or mid value []) allowed
        ∙ ap (λ (rest : List (List Demand)). some_meets rest word || meets row (value ∷ word)) (h.left value (omega arith))
        ∙ ap (λ i. some_meets (get_or before i []) word || meets row (i ∷ word)) (sym here)

pub added_all : (row : List Demand) (count done : ℕ) (values : Values) (before after : List (List (List Demand))) → length before ≡ count → AllowsWithin row count values → values.end ≤ done → done ≤ values.end → AddedTo row done before after → WithRow row before after
added_all row count done values before after long within end last h = record {
  width = h.width;
  goes = λ v word lt. by v word lt (nat_lt v done) refl;
}
  where
    by : (v : ℕ) (word : List ℕ) → v < length before → (b : Bool) → nat_lt v done ≡ b → some_meets (get_or after v []) word ≡ (some_meets (get_or before v []) word || meets row (v ∷ word))
    by v word lt true low = h.done v word lt (grind (arith, nat_tests))
    by v word lt false high =
        let past : done ≤ v = grind (arith, nat_tests) in
        ap (λ (rest : List (List Demand)). some_meets rest word) (h.left v past)
        ∙ shut_adds row v word (get_or before v []) (shut_outside row count values v within (omega arith) (λ from to. absurd (omega arith)))

none_at : (count value : ℕ) → get_or {A = List (List Demand)} (replicate count []) value [] ≡ []
none_at zero value = refl
none_at (suc count) zero = refl
none_at (suc count) (suc value) = none_at count value

-- the rests of no row, and of one row more
pub rests_none : (rows : List (List Demand)) (count : ℕ) → AreRests (take 0 rows) count (replicate count [])
rests_none rows count = record { width = length-replicate count []; goes = λ value word lt. ap (λ (rest : List (List Demand)). some_meets rest word) (none_at count value) }

pub rests_more_row : (rows : List (List Demand)) (i count : ℕ) (row : List Demand) (before after : List (List (List Demand))) → i < length rows → row ≡ get_or rows i row → AreRests (take i rows) count before → WithRow row before after → AreRests (take (i + 1) rows) count after
rests_more_row rows i count row before after lt read h more = record {
  width = more.width ∙ h.width;
  goes = λ value word less.
      more.goes value word (let wide = h.width in omega arith)
      ∙ ap (λ b. b || meets row (value ∷ word)) (h.goes value word less)
      ∙ ap (λ b. some_meets (take i rows) (value ∷ word) || b) (sym (or_false (meets row (value ∷ word))))
      ∙ sym (some_more (λ r. meets r (value ∷ word)) rows i row lt read);
}
