-- How lines stand in bytes that are put together or cut.
use Rattle.std.proofs.Common.{◌≡◌, ℕ, suc, zero, ◌<◌, ◌≤◌, true, false, ◌||◌, List, [], ◌∷◌, ◌++◌, length, take, drop, min, get_or, refl, sym, ap, ◌∙◌, inl, inr, subst, arith, length-append}
use Rattle.std.specs.List.{list_any, onto_first}
use Rattle.std.proofs.lemmas.Bool.{cases_Bool, cond-true, cond-false, or_parts, or_from, eqb-true, false_from_ne_true}
use Rattle.std.proofs.lemmas.List.{append-nil, take_at, drop_at, take-append-drop}
use Rattle.std.proofs.lemmas.List.Folds.{list_any-append}
use Rattle.pc_base.specs.Lines.{is_feed, HasNoFeed, first_line, from_feed, after_line, lines}

-- at a line feed, and at another byte

first_line-feed : (x : ℕ) (xs : List ℕ) → is_feed x ≡ true → first_line (x ∷ xs) ≡ []
unfolding first_line
first_line-feed x xs is = cond-true (is_feed x) _ _ is

first_line-byte : (x : ℕ) (xs : List ℕ) → is_feed x ≡ false → first_line (x ∷ xs) ≡ x ∷ first_line xs
unfolding first_line
first_line-byte x xs is = cond-false (is_feed x) _ _ is

from_feed-feed : (x : ℕ) (xs : List ℕ) → is_feed x ≡ true → from_feed (x ∷ xs) ≡ x ∷ xs
unfolding from_feed
from_feed-feed x xs is = cond-true (is_feed x) _ _ is

from_feed-byte : (x : ℕ) (xs : List ℕ) → is_feed x ≡ false → from_feed (x ∷ xs) ≡ from_feed xs
unfolding from_feed
from_feed-byte x xs is = cond-false (is_feed x) _ _ is

pub lines-feed : (x : ℕ) (xs : List ℕ) → is_feed x ≡ true → lines (x ∷ xs) ≡ [] ∷ lines xs
unfolding lines
lines-feed x xs is = cond-true (is_feed x) _ _ is

pub lines-byte : (x : ℕ) (xs : List ℕ) → is_feed x ≡ false → lines (x ∷ xs) ≡ onto_first x (lines xs)
unfolding lines
lines-byte x xs is = cond-false (is_feed x) _ _ is

first_line-nil : first_line [] ≡ []
unfolding first_line
first_line-nil = refl

from_feed-nil : from_feed [] ≡ []
unfolding from_feed
from_feed-nil = refl

pub lines-nil : lines [] ≡ []
unfolding lines
lines-nil = refl

-- bytes without a line feed, put before others

HasNoFeed-head : (x : ℕ) (xs : List ℕ) → HasNoFeed (x ∷ xs) → is_feed x ≡ false
HasNoFeed-head x xs h = (or_parts (is_feed x) (list_any is_feed xs) h).0

HasNoFeed-tail : (x : ℕ) (xs : List ℕ) → HasNoFeed (x ∷ xs) → HasNoFeed xs
HasNoFeed-tail x xs h = (or_parts (is_feed x) (list_any is_feed xs) h).1

pub HasNoFeed-append : (a b : List ℕ) → HasNoFeed a → HasNoFeed b → HasNoFeed (a ++ b)
HasNoFeed-append a b ha hb = list_any-append is_feed a b ∙ or_from (list_any is_feed a) (list_any is_feed b) ha hb

pub first_line-append : (a b : List ℕ) → HasNoFeed a → first_line (a ++ b) ≡ a ++ first_line b
first_line-append [] b h = refl
first_line-append (x ∷ xs) b h =
    first_line-byte x (xs ++ b) (HasNoFeed-head x xs h) ∙ ap (λ (l : List ℕ). x ∷ l) (first_line-append xs b (HasNoFeed-tail x xs h))

pub from_feed-append : (a b : List ℕ) → HasNoFeed a → from_feed (a ++ b) ≡ from_feed b
from_feed-append [] b h = refl
from_feed-append (x ∷ xs) b h = from_feed-byte x (xs ++ b) (HasNoFeed-head x xs h) ∙ from_feed-append xs b (HasNoFeed-tail x xs h)

pub first_line-whole : (a : List ℕ) → HasNoFeed a → first_line a ≡ a
first_line-whole a h = ap first_line (sym (append-nil a)) ∙ first_line-append a [] h ∙ ap (λ (l : List ℕ). a ++ l) first_line-nil ∙ append-nil a

pub from_feed-none : (a : List ℕ) → HasNoFeed a → from_feed a ≡ []
from_feed-none a h = ap from_feed (sym (append-nil a)) ∙ from_feed-append a [] h ∙ from_feed-nil

pub first_line-at_feed : (a b : List ℕ) → HasNoFeed a → first_line (a ++ 10 ∷ b) ≡ a
first_line-at_feed a b h = first_line-append a (10 ∷ b) h ∙ ap (λ (l : List ℕ). a ++ l) (first_line-feed 10 b refl) ∙ append-nil a

pub from_feed-at_feed : (a b : List ℕ) → HasNoFeed a → from_feed (a ++ 10 ∷ b) ≡ 10 ∷ b
from_feed-at_feed a b h = from_feed-append a (10 ∷ b) h ∙ from_feed-feed 10 b refl

-- every list of bytes is its first line and what comes from its first line feed on

-- the bytes have no line feed, or end at one and go on after it
pub data Cut : List ℕ → Type 0 where
  none : (a : List ℕ) → HasNoFeed a → Cut a
  feed : (a b : List ℕ) → HasNoFeed a → Cut (a ++ 10 ∷ b)

cut_more : (x : ℕ) (xs : List ℕ) → is_feed x ≡ false → Cut xs → Cut (x ∷ xs)
cut_more x xs is (none a h) = none (x ∷ a) (or_from (is_feed x) (list_any is_feed a) is h)
cut_more x xs is (feed a b h) = feed (x ∷ a) b (or_from (is_feed x) (list_any is_feed a) is h)

pub cut : (b : List ℕ) → Cut b
cut [] = none [] refl
cut (x ∷ xs) =
    elim (cases_Bool (is_feed x)) [
      | inl is ↦ subst (λ (y : ℕ). Cut (y ∷ xs)) (sym (eqb-true x 10 is)) (feed [] xs refl)
      | inr is ↦ cut_more x xs is (cut xs)
    ]

first_line-from_feed_cut : (b : List ℕ) → Cut b → first_line b ++ from_feed b ≡ b
first_line-from_feed_cut b (none a h) = rw (first_line-whole a h, from_feed-none a h) (append-nil a)
first_line-from_feed_cut b (feed a c h) = rw (first_line-at_feed a c h, from_feed-at_feed a c h)

pub first_line-from_feed : (b : List ℕ) → first_line b ++ from_feed b ≡ b
first_line-from_feed b = first_line-from_feed_cut b (cut b)

HasNoFeed-first_line_cut : (b : List ℕ) → Cut b → HasNoFeed (first_line b)
HasNoFeed-first_line_cut b (none a h) = rw (first_line-whole a h) h
HasNoFeed-first_line_cut b (feed a c h) = rw (first_line-at_feed a c h) h

pub HasNoFeed-first_line : (b : List ℕ) → HasNoFeed (first_line b)
HasNoFeed-first_line b = HasNoFeed-first_line_cut b (cut b)

-- from its first line feed on, the bytes are none or begin with it

from_feed-begins_cut : (b : List ℕ) → Cut b → 0 < length (from_feed b) → from_feed b ≡ 10 ∷ after_line b
from_feed-begins_cut b (none a h) some = absurd (omega (arith, ap length (from_feed-none a h)))
from_feed-begins_cut b (feed a c h) some = rw (from_feed-at_feed a c h)

pub from_feed-begins : (b : List ℕ) → 0 < length (from_feed b) → from_feed b ≡ 10 ∷ after_line b
from_feed-begins b = from_feed-begins_cut b (cut b)

pub take-first_line : (b : List ℕ) → take (length (first_line b)) b ≡ first_line b
take-first_line b = ap (take (length (first_line b))) (sym (first_line-from_feed b)) ∙ take_at (first_line b) (from_feed b) _ refl

pub drop-first_line : (b : List ℕ) → drop (length (first_line b)) b ≡ from_feed b
drop-first_line b = ap (drop (length (first_line b))) (sym (first_line-from_feed b)) ∙ drop_at (first_line b) (from_feed b) _ refl

pub length-first_line-le : (b : List ℕ) → length (first_line b) ≤ length b
length-first_line-le b = omega (arith, ap length (first_line-from_feed b), length-append (first_line b) (from_feed b))

-- the first line of a beginning

pub length-first_line-take : (n : ℕ) (b : List ℕ) → length (first_line (take n b)) ≡ min n (length (first_line b))
length-first_line-take zero b = rw first_line-nil (omega arith)
length-first_line-take (suc n) [] = rw first_line-nil (omega arith)
length-first_line-take (suc n) (x ∷ xs) =
    elim (cases_Bool (is_feed x)) [
      | inl is ↦ rw (first_line-feed x (take n xs) is, first_line-feed x xs is) (omega arith)
      | inr is ↦ rw (first_line-byte x (take n xs) is, first_line-byte x xs is) (omega (arith, length-first_line-take n xs))
    ]

-- more bytes don't shorten the first line

pub length-first_line-append : (a b : List ℕ) → length (first_line a) ≤ length (first_line (a ++ b))
length-first_line-append [] b = rw first_line-nil (omega arith)
length-first_line-append (x ∷ xs) b =
    elim (cases_Bool (is_feed x)) [
      | inl is ↦ rw (first_line-feed x xs is) (omega arith)
      | inr is ↦ rw (first_line-byte x xs is, first_line-byte x (xs ++ b) is) (omega (arith, length-first_line-append xs b))
    ]

-- the first place of a line feed

pub length-first_line-nowhere : (b : List ℕ) → ((k : ℕ) → k < length b → is_feed (get_or b k 0) ≡ true → ⊥) → length (first_line b) ≡ length b
length-first_line-nowhere [] nowhere = rw first_line-nil
length-first_line-nowhere (x ∷ xs) nowhere =
    let is : is_feed x ≡ false = false_from_ne_true (is_feed x) (nowhere 0 (omega arith)) in
    rw (first_line-byte x xs is) (ap suc (length-first_line-nowhere xs (λ k h. nowhere (suc k) (omega arith))))

pub length-first_line-first : (b : List ℕ) (n : ℕ) → ((k : ℕ) → k < n → is_feed (get_or b k 0) ≡ true → ⊥) → n < length b → is_feed (get_or b n 0) ≡ true → length (first_line b) ≡ n
length-first_line-first [] n before within is = absurd (omega arith)
length-first_line-first (x ∷ xs) zero before within is = rw (first_line-feed x xs is)
length-first_line-first (x ∷ xs) (suc n) before within is =
    let no : is_feed x ≡ false = false_from_ne_true (is_feed x) (before 0 (omega arith)) in
    rw (first_line-byte x xs no) (ap suc (length-first_line-first xs n (λ k h. before (suc k) (omega arith)) (omega arith) is))

-- the lines, one after another

pub lines-feed_after : (a b : List ℕ) → HasNoFeed a → lines (a ++ 10 ∷ b) ≡ a ∷ lines b
lines-feed_after [] b h = lines-feed 10 b refl
lines-feed_after (x ∷ xs) b h =
    lines-byte x (xs ++ 10 ∷ b) (HasNoFeed-head x xs h) ∙ ap (onto_first x) (lines-feed_after xs b (HasNoFeed-tail x xs h))

pub lines-last : (x : ℕ) (xs : List ℕ) → HasNoFeed (x ∷ xs) → lines (x ∷ xs) ≡ (x ∷ xs) ∷ []
lines-last x [] h = lines-byte x [] (HasNoFeed-head x [] h) ∙ ap (onto_first x) lines-nil
lines-last x (y ∷ ys) h =
    lines-byte x (y ∷ ys) (HasNoFeed-head x (y ∷ ys) h) ∙ ap (onto_first x) (lines-last y ys (HasNoFeed-tail x (y ∷ ys) h))

lines-first_cut : (b : List ℕ) → Cut b → 0 < length b → lines b ≡ first_line b ∷ lines (after_line b)
lines-first_cut b (none [] h) some = absurd (omega arith)
lines-first_cut b (none (x ∷ xs) h) some =
    rw (first_line-whole (x ∷ xs) h, from_feed-none (x ∷ xs) h, lines-nil) (lines-last x xs h)
lines-first_cut b (feed a c h) some = rw (first_line-at_feed a c h, from_feed-at_feed a c h) (lines-feed_after a c h)

pub lines-first : (b : List ℕ) → 0 < length b → lines b ≡ first_line b ∷ lines (after_line b)
lines-first b = lines-first_cut b (cut b)

pub HasNoFeed-take : (n : ℕ) (a : List ℕ) → HasNoFeed a → HasNoFeed (take n a)
HasNoFeed-take n a h =
    let parts : (list_any is_feed (take n a) || list_any is_feed (drop n a)) ≡ false = sym (list_any-append is_feed (take n a) (drop n a)) ∙ ap (list_any is_feed) (take-append-drop n a) ∙ h in
    (or_parts _ _ parts).0
