-- One value more, and one variable more.
use Rattle.std.proofs.Common.{◌≡◌, ℕ, zero, suc, add-one, nat_lt, Bool, true, false, ◌+◌, ◌*◌, ◌≤◌, List, [], ◌∷◌, ◌++◌, get_or, filter_map, Option, Some, None, refl, sym, ap, ◌∙◌, arith}
use Rattle.std.specs.List.{range_with_len}
use Rattle.std.proofs.lemmas.Bool.Decides.{nat_tests}
use Rattle.std.proofs.lemmas.List.{append-nil}
use Rattle.std.proofs.lemmas.List.Elements.{filter_map-append}
use Rattle.pc_diagram.specs.declared.listed.Listed.{Listed}
use Rattle.pc_diagram.specs.declared.raw_diagram.RawDiagram.{RawDiagram}
use Rattle.pc_domains.specs.Slots.{slots_before}

range_more : (first count : ℕ) → range_with_len first (count + 1) ≡ range_with_len first count ++ (first + count) ∷ []
range_more first zero = let here : first ≡ first + 0 = omega arith in ap (λ n. n ∷ []) here
range_more first (suc count) =
    let there : (first + 1) + count ≡ first + suc count = omega arith in
    let many : suc count + 1 ≡ suc (count + 1) = omega arith in
    ap (range_with_len first) many ∙ ap (λ l. first ∷ l) (range_more (first + 1) count ∙ ap (λ n. range_with_len (first + 1) count ++ n ∷ []) there)

one_of : (o : Option Listed) → List Listed
one_of None = []
one_of (Some x) = x ∷ []

one_more : (f : ℕ → Option Listed) (n : ℕ) (o : Option Listed) → f n ≡ o → filter_map f (n ∷ []) ≡ one_of o
unfolding one_of
one_more f n None e = rw e
one_more f n (Some x) e = rw e

more : (f : ℕ → Option Listed) (value : ℕ) (o : Option Listed) → f value ≡ o → filter_map f (range_with_len 0 (value + 1)) ≡ filter_map f (range_with_len 0 value) ++ one_of o
more f value o e =
    let here : 0 + value ≡ value = omega arith in
    ap (filter_map f) (range_more 0 value ∙ ap (λ n. range_with_len 0 value ++ n ∷ []) here) ∙ filter_map-append f (range_with_len 0 value) (value ∷ [])
    ∙ ap (λ l. filter_map f (range_with_len 0 value) ++ l) (one_more f value o e)

-- a value that isn't listed
pub row_same : (f : ℕ → Option Listed) (value : ℕ) (row : List Listed) → row ≡ filter_map f (range_with_len 0 value) → None ≡ f value → row ≡ filter_map f (range_with_len 0 (value + 1))
unfolding one_of
row_same f value row so_far e = so_far ∙ sym (append-nil (filter_map f (range_with_len 0 value))) ∙ sym (more f value None (sym e))

-- and one that is
pub row_more : (f : ℕ → Option Listed) (value : ℕ) (row next : List Listed) (x : Listed) → row ≡ filter_map f (range_with_len 0 value) → Some x ≡ f value → next ≡ row ++ x ∷ [] → next ≡ filter_map f (range_with_len 0 (value + 1))
unfolding one_of
row_more f value row next x so_far e pushed = pushed ∙ ap (λ r. r ++ x ∷ []) so_far ∙ sym (more f value (Some x) (sym e))

-- the slots of one variable more, and of all
pub slots_next : (raw : RawDiagram) (count : ℕ) → slots_before raw (count + 1) ≡ slots_before raw count + get_or raw.domains count 0 * get_or raw.sizes count 0
slots_next raw count = ap (slots_before raw) (add-one count)

pub slots_up : (raw : RawDiagram) (count most : ℕ) → count ≤ most → slots_before raw count ≤ slots_before raw most
slots_up raw count zero le = let same : count ≡ 0 = omega arith in omega (arith, ap (slots_before raw) same)
slots_up raw count (suc most) le = by (nat_lt most count) refl (slots_up raw count most)
  where
    by : (b : Bool) → nat_lt most count ≡ b → (count ≤ most → slots_before raw count ≤ slots_before raw most) → slots_before raw count ≤ slots_before raw (suc most)
    by true e rest = let same : count ≡ suc most = grind (arith, nat_tests) in omega (arith, ap (slots_before raw) same)
    by false e rest = let before = rest (grind (arith, nat_tests)) in omega (arith, before)
