-- Demands of a row, and the words that meet them.
use Rattle.std.proofs.Common.{◌≡◌, ℕ, zero, suc, ◌+◌, ◌-◌, ◌<◌, ◌≤◌, nat_eq, Bool, true, false, ◌&&◌, List, [], ◌∷◌, ◌++◌, take, drop, replicate, set, length, get_or, refl, sym, ap, ◌∙◌, arith}
use Rattle.std.specs.List.{list_all, zip}
use Rattle.std.proofs.lemmas.List.{length-drop, length-replicate, length-set, take_more}
use Rattle.std.proofs.lemmas.List.Folds.{list_all-append}
use Rattle.std.proofs.lemmas.Slice.Zip.{length-zip, get_or-zip}
use Rattle.pc_diagram.specs.Fitting.{takes}
use Rattle.pc_build.specs.declared.demand.Demand.{Demand}
use Rattle.pc_build.specs.declared.demand.Demand.TheVariants.{Any}
use Rattle.pc_build.specs.declared.span.Span.{Span}
use Rattle.pc_build.specs.Demands.{allows, meets}
use Rattle.pc_build.proofs.WordLemmas.{and_assoc, and_true}

-- a word takes each of these values
abbrev pub takes_each : List ℕ → List (ℕ × ℕ) → Bool
takes_each word pairs = list_all (λ p. takes word p.0 p.1) pairs

and_last : (a b c : Bool) → ((a && c) && b) ≡ ((a && b) && c)
and_last true true c = and_true c
and_last true false true = refl
and_last true false false = refl
and_last false b c = refl

-- one demand more
pub meets_with : (demands : List Demand) (word : List ℕ) (place value : ℕ) (demand d : Demand) → length demands ≤ length word → place < length demands → ((taken : ℕ) → allows demand taken ≡ (allows (get_or demands place d) taken && nat_eq taken value)) → meets (set demands place demand) word ≡ (meets demands word && takes word place value)
meets_with [] word place value demand d alike lt h = absurd (omega arith)
meets_with (first ∷ demands) [] place value demand d alike lt h = absurd (omega arith)
meets_with (first ∷ demands) (taken ∷ word) zero value demand d alike lt h =
    ap (λ b. b && meets demands word) (h taken) ∙ and_last (allows first taken) (meets demands word) (nat_eq taken value)
meets_with (first ∷ demands) (taken ∷ word) (suc place) value demand d alike lt h =
    ap (λ b. allows first taken && b) (meets_with demands word place value demand d (omega arith) (omega arith) h) ∙ and_assoc (allows first taken) (meets demands word) (takes word place value)

-- no demands
pub meets_none : (count : ℕ) (word : List ℕ) → count ≤ length word → meets (replicate count Any) word ≡ true
meets_none zero word e = refl
meets_none (suc count) [] e = absurd (omega arith)
meets_none (suc count) (value ∷ word) e = meets_none count word (omega arith)

-- one pair more of a row
pub pairs_more : (variables row : List ℕ) (n variable value : ℕ) → n < length variables → n < length row → variable ≡ get_or variables n variable → value ≡ get_or row n value → take (n + 1) (zip variables row) ≡ take n (zip variables row) ++ (variable, value) ∷ []
pairs_more variables row n variable value in_variables in_row is_variable is_value =
    let inside : n < length (zip variables row) = omega (arith, length-zip variables row) in
    let pair : get_or (zip variables row) n (variable, value) ≡ (variable, value) = get_or-zip variables row n (variable, value) in_variables in_row ∙ ap (λ v. (v, get_or row n value)) (sym is_variable) ∙ ap (λ v. (variable, v)) (sym is_value) in
    take_more (zip variables row) n (variable, value) inside ∙ ap (λ p. take n (zip variables row) ++ p ∷ []) pair

-- what a word takes at a variable, it takes after a beginning at a place as much less
pub takes_after : (word : List ℕ) (first variable value : ℕ) → first ≤ variable → takes (drop first word) (variable - first) value ≡ takes word variable value
takes_after word zero variable value le = ap (λ n. takes word n value) (let same : variable - 0 ≡ variable = omega arith in same)
takes_after [] (suc first) zero value le = absurd (omega arith)
takes_after [] (suc first) (suc variable) value le = refl
takes_after (x ∷ word) (suc first) zero value le = absurd (omega arith)
takes_after (x ∷ word) (suc first) (suc variable) value le =
    ap (λ n. takes (drop first word) n value) (let same : suc variable - suc first ≡ variable - first = omega arith in same) ∙ takes_after word first variable value (omega arith)

-- how many pairs of a row have been asked for
pub record Asked (span : Span) (pairs : List (ℕ × ℕ)) (demands : List Demand) : Type 0 where
  pub width : length demands ≡ span.count
  pub words : (word : List ℕ) → span.first + span.count ≤ length word → meets demands (drop span.first word) ≡ takes_each word pairs

pub asked_none : (span : Span) → Asked span [] (replicate span.count Any)
asked_none span = record {
  width = length-replicate span.count Any;
  words = λ word e. meets_none span.count (drop span.first word) (let n = length-drop span.first word in omega arith);
}

pub asked_more : (span : Span) (pairs : List (ℕ × ℕ)) (demands : List Demand) (variable value : ℕ) (demand d : Demand) → span.first ≤ variable → variable < span.first + span.count → Asked span pairs demands →
    ((taken : ℕ) → allows demand taken ≡ (allows (get_or demands (variable - span.first) d) taken && nat_eq taken value)) → Asked span (pairs ++ (variable, value) ∷ []) (set demands (variable - span.first) demand)
asked_more span pairs demands variable value demand d le lt h with_value = record {
  width = length-set demands (variable - span.first) demand ∙ h.width;
  words = λ word e.
      meets_with demands (drop span.first word) (variable - span.first) value demand d (let w = h.width in let n = length-drop span.first word in omega arith) (let w = h.width in omega arith) with_value
      ∙ ap (λ b. b && takes (drop span.first word) (variable - span.first) value) (h.words word e)
      ∙ ap (λ b. takes_each word pairs && b) (takes_after word span.first variable value le ∙ sym (and_true (takes word variable value)))
      ∙ sym (list_all-append (λ (p : ℕ × ℕ). takes word p.0 p.1) pairs ((variable, value) ∷ []));
}
