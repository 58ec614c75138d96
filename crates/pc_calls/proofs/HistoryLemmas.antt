-- Entries, and then others.
use Rattle.std.proofs.Common.{◌≡◌, ℕ, zero, suc, ◌+◌, List, [], ◌∷◌, ◌++◌, length, Some, slice_get, refl, ap, arith}
use Rattle.pc_calls.specs.declared.entry.Entry.{Entry}
use Rattle.pc_calls.specs.History.{IsLegalFrom, after_entries, after_entry}
use Rattle.pc_calls.specs.State.{State, numbered}
use Rattle.pc_calls.specs.Step.{change_numbered}

pub after_entries-append : (state : State) (xs ys : List Entry) → after_entries state (xs ++ ys) ≡ after_entries (after_entries state xs) ys
unfolding after_entries
after_entries-append state [] ys = refl
after_entries-append state (x ∷ xs) ys = after_entries-append (after_entry state x) xs ys

-- legal entries after legal ones
pub legal-append : (state : State) (xs ys : List Entry) → IsLegalFrom state xs → IsLegalFrom (after_entries state xs) ys → IsLegalFrom state (xs ++ ys)
unfolding after_entries IsLegalFrom
legal-append state [] ys legal later = later
legal-append state (x ∷ xs) ys legal later = (legal.0, legal.1, legal-append (after_entry state x) xs ys legal.2 later)

-- what stands after so many others has the next number
stands-next : {A : Type 0} (before after : List A) (x : A) (place : ℕ) → place ≡ length before → slice_get (before ++ x ∷ after) place ≡ Some x
stands-next [] after x zero is = refl
stands-next [] after x (suc place) is = absurd (omega (arith, is))
stands-next (y ∷ before) after x zero is = absurd (omega (arith, is))
stands-next (y ∷ before) after x (suc place) is = stands-next before after x place (omega (arith, is))

pub numbered-next : {A : Type 0} (before after : List A) (x : A) (number : ℕ) → number ≡ length before + 1 → numbered (before ++ x ∷ after) number ≡ Some x
numbered-next before after x zero is = absurd (omega (arith, is))
numbered-next before after x (suc place) is = stands-next before after x place (omega (arith, is))

-- and alone is changed by it
pub change-next : {A : Type 0} (change : A → A) (before after : List A) (x : A) (number : ℕ) → number ≡ length before + 1 → change_numbered change (before ++ x ∷ after) number ≡ before ++ change x ∷ after
change-next change [] after x zero is = absurd (omega (arith, is))
change-next change [] after x (suc zero) is = refl
change-next change [] after x (suc (suc place)) is = absurd (omega (arith, is))
change-next change (y ∷ before) after x zero is = absurd (omega (arith, is))
change-next change (y ∷ before) after x (suc zero) is = absurd (omega (arith, is))
change-next change (y ∷ before) after x (suc (suc place)) is = ap (λ xs. y ∷ xs) (change-next change before after x (suc place) (omega (arith, is)))

-- each part of legal entries is legal
pub legal-split : (state : State) (xs ys : List Entry) → IsLegalFrom state (xs ++ ys) → IsLegalFrom state xs × IsLegalFrom (after_entries state xs) ys
unfolding after_entries IsLegalFrom
legal-split state [] ys legal = (tt, legal)
legal-split state (x ∷ xs) ys legal =
    let parts = legal-split (after_entry state x) xs ys legal.2 in
    ((legal.0, legal.1, parts.0), parts.1)
