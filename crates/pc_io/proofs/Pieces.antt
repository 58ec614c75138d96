-- Lists that are read or written piece by piece.
use Rattle.std.proofs.Common.{◌≡◌, ℕ, ◌+◌, ◌-◌, ◌≤◌, List, ◌++◌, length, take, drop, Option, Some, None, refl, ap, sym, ◌∙◌, arith, append_assoc, length-drop}
use Rattle.std.proofs.lemmas.List.{take_at, take-append-drop, drop-drop, drop-take, take-take, take_rest, length-take-le}
use Rattle.std.proofs.Math.Seq.{take-add}
use Rattle.std.specs.Io.KnownBytes.{append_known, prepend_known}

-- two pieces, one after the other
pub append_known-append : (known : Option (List ℕ)) (a b : List ℕ) → append_known (append_known known a) b ≡ append_known known (a ++ b)
append_known-append None a b = refl
append_known-append (Some x) a b = ap (λ (y : List ℕ). Some y) (append_assoc x a b)

pub prepend_known-append : (known : Option (List ℕ)) (a b : List ℕ) → prepend_known a (prepend_known b known) ≡ prepend_known (a ++ b) known
prepend_known-append None a b = refl
prepend_known-append (Some x) a b = ap (λ (y : List ℕ). Some y) (sym (append_assoc a b x))

-- what a read of a list's rest leaves: a piece that was copied, and the items after it
pub copied_piece : (items copied behind : List ℕ) (start count : ℕ) → count ≤ length (drop start items) → copied ≡ take count (drop start items)
    → drop start items ≡ take count (copied ++ behind) ++ drop (start + count) items
copied_piece items copied behind start count fits is =
    let size : length copied ≡ count = ap length is ∙ length-take-le count (drop start items) fits in
    rw (take_at copied behind count size, is, ← drop-drop count start items) (sym (take-append-drop count (drop start items)))

-- the rest of a rest
pub rest_of_rest : (xs left : List ℕ) (done count : ℕ) → left ≡ drop done xs → take (length left - count) (drop count left) ≡ drop (done + count) xs
rest_of_rest xs left done count is = take_rest left count ∙ ap (drop count) is ∙ drop-drop count done xs

-- after the first `done` bytes of b, `count` more of them
pub written_on : (known mid new : Option (List ℕ)) (b left : List ℕ) (done count : ℕ) → mid ≡ append_known known (take done b) → left ≡ drop done b → new ≡ append_known mid (take count left)
    → new ≡ append_known known (take (done + count) b)
written_on known mid new b left done count before is after =
    after ∙ ap (λ (m : Option (List ℕ)). append_known m (take count left)) before ∙ append_known-append known (take done b) (take count left)
    ∙ ap (λ (x : List ℕ). append_known known (take done b ++ take count x)) is ∙ ap (append_known known) (sym (take-add done count b))

-- the front of a piece of a list, and what comes after it in the piece
pub front_of_piece : (xs : List ℕ) (start count end : ℕ) → start + count ≤ end → take ((start + count) - start) (drop start xs) ≡ take count (take (end - start) (drop start xs))
front_of_piece xs start count end fits =
    let size : (start + count) - start ≡ count = omega arith in
    rw size (sym (take-take count (end - start) (drop start xs) (omega arith)))

pub rest_of_piece : (xs : List ℕ) (start count end : ℕ) → start + count ≤ end → take (end - (start + count)) (drop (start + count) xs) ≡ drop count (take (end - start) (drop start xs))
rest_of_piece xs start count end fits =
    let size : end - start ≡ count + (end - (start + count)) = omega arith in
    rw (size, drop-take count (end - (start + count)) (drop start xs), drop-drop count start xs)

pub length_of_piece : (xs : List ℕ) (start end : ℕ) → start ≤ end → end ≤ length xs → length (take (end - start) (drop start xs)) ≡ end - start
length_of_piece xs start end ordered within = length-take-le (end - start) (drop start xs) (omega (arith, length-drop start xs))
