-- What the reading of a line keeps from block to block.
use Rattle.std.proofs.Common.{◌≡◌, ℕ, ◌+◌, ◌-◌, ◌<◌, ◌≤◌, ◌||◌, true, false, cond, eqb, List, [], ◌∷◌, ◌++◌, length, take, drop, Option, IsTrue, refl, sym, ap, ◌∙◌, inl, inr, arith, length-append, append_assoc}
use Rattle.std.specs.List.{list_any}
use Rattle.std.specs.Io.KnownBytes.{IsAtEnd, prepend_known}
use Rattle.std.proofs.lemmas.Bool.{both_ways, cases_Bool, cases_lt, eqb-true, eqb-false, or_from}
use Rattle.std.proofs.lemmas.List.{append-nil, nil_from_length}
use Rattle.pc_io.specs.Aside.{Aside}
use Rattle.pc_io.specs.Held.{Held, held}
use Rattle.pc_base.specs.Lines.{HasNoFeed, is_feed, first_line, from_feed}
use Rattle.pc_base.proofs.LineCuts.{HasNoFeed-append, HasNoFeed-first_line, first_line-append, first_line-from_feed, from_feed-begins, take-first_line, drop-first_line}
use Rattle.pc_io.proofs.Pieces.{prepend_known-append}

-- from `start` on, with a source that is the same where `Same` holds
pub record Kept (start now : Held) (rest_then rest : Option (List ℕ)) (faults_then faults : ℕ) (aside_then aside : Aside) (Same : Type 0) : Type 0 where
  pub stream : prepend_known (held start) rest_then ≡ prepend_known (held now) rest
  pub no_feed : HasNoFeed now.part
  pub ended : IsTrue now.ended → now.ahead ≡ []
  pub at_end : IsTrue now.ended → IsAtEnd rest
  pub unread : (list_any is_feed (held start) || start.ended) ≡ true → Same × (held now ≡ held start) × (now.ended ≡ start.ended)
  pub faultless : faults ≡ faults_then
  pub same_aside : aside ≡ aside_then

-- p once its line so far is moved to the part
abbrev pub moved : Held → Held
moved p = record p { part = p.part ++ first_line p.ahead; ahead = from_feed p.ahead }

pub moved_is : (p q : Held) (n : ℕ) → n ≡ length (first_line p.ahead) → q ≡ record p { part = p.part ++ take n p.ahead; ahead = drop n p.ahead } → q ≡ moved p
moved_is p q n size is =
    is ∙ ap (λ (k : ℕ). record p { part = p.part ++ take k p.ahead; ahead = drop k p.ahead }) size
    ∙ ap (λ (x : List ℕ). record p { part = p.part ++ x; ahead = drop (length (first_line p.ahead)) p.ahead }) (take-first_line p.ahead)
    ∙ ap (λ (x : List ℕ). record p { part = p.part ++ first_line p.ahead; ahead = x }) (drop-first_line p.ahead)

pub held-moved : (p q : Held) → q ≡ moved p → held q ≡ held p
held-moved p q is = ap held is ∙ append_assoc p.part (first_line p.ahead) (from_feed p.ahead) ∙ ap (λ (x : List ℕ). p.part ++ x) (first_line-from_feed p.ahead)

pub no_feed-moved : (p q : Held) → HasNoFeed p.part → q ≡ moved p → HasNoFeed q.part
no_feed-moved p q h is = ap (λ (x : Held). list_any is_feed x.part) is ∙ HasNoFeed-append p.part (first_line p.ahead) h (HasNoFeed-first_line p.ahead)

pub length-moved : (p q : Held) → q ≡ moved p → length q.part ≡ length p.part + length (first_line p.ahead)
length-moved p q is = ap (λ (x : Held). length x.part) is ∙ length-append p.part (first_line p.ahead)

pub limit_reached : (p : Held) (most n : ℕ) → HasNoFeed p.part → n ≡ length (first_line p.ahead) → most < length p.part + n → most < length (first_line (held p))
limit_reached p most n h size past = rw (first_line-append p.part p.ahead h, length-append) (omega arith)

nonempty : (xs : List ℕ) → (xs ≡ [] → ⊥) → 0 < length xs
nonempty [] h = absurd (h refl)
nonempty (x ∷ xs) h = omega arith

pub feed_ahead : (p q : Held) → q ≡ moved p → (q.ahead ≡ [] → ⊥) → q.ahead ≡ 10 ∷ drop 1 q.ahead
feed_ahead p q is some =
    let ahead : q.ahead ≡ from_feed p.ahead = ap (λ (x : Held). x.ahead) is in
    let many : 0 < length (from_feed p.ahead) = nonempty (from_feed p.ahead) (λ e. some (ahead ∙ e)) in
    rw ahead (from_feed-begins p.ahead many)

-- no line feed is held and the end wasn't given, so this isn't where nothing may be read
pub not_unread : (start p q : Held) (Same : Type 0) → ((list_any is_feed (held start) || start.ended) ≡ true → Same × (held p ≡ held start) × (p.ended ≡ start.ended))
    → HasNoFeed q.part → q.ahead ≡ [] → held q ≡ held p → q.ended ≡ p.ended → q.ended ≡ false → (list_any is_feed (held start) || start.ended) ≡ true → ⊥
not_unread start p q Same unread h none same ends open_ premise =
    let facts = unread premise in
    let bytes : held start ≡ q.part = sym facts.1 ∙ sym same ∙ ap (λ (x : List ℕ). q.part ++ x) none ∙ append-nil q.part in
    let no : list_any is_feed (held start) ≡ false = ap (list_any is_feed) bytes ∙ h in
    let end : start.ended ≡ false = sym facts.2 ∙ sym ends ∙ open_ in
    both_ways (list_any is_feed (held start) || start.ended) (or_from _ _ no end) premise

-- a block adds a byte, or ends the reading
pub nearer : (p q r : Held) (most : ℕ) → q ≡ moved p → q.ahead ≡ [] → q.ended ≡ false → length q.part ≤ most → r.part ≡ q.part → r.ended ≡ eqb (length r.ahead) 0
    → (most + 1 - length (held r)) + cond r.ended 0 1 < (most + 1 - length (held p)) + cond p.ended 0 1
nearer p q r most is none open_ fits part ended =
    let before : length (held p) ≡ length q.part = ap length (sym (held-moved p q is) ∙ ap (λ (x : List ℕ). q.part ++ x) none ∙ append-nil q.part) in
    let after : length (held r) ≡ length q.part + length r.ahead = length-append r.part r.ahead ∙ ap (λ (x : List ℕ). length x + length r.ahead) part in
    let end : p.ended ≡ false = sym (ap (λ (x : Held). x.ended) is) ∙ open_ in
    elim (cases_Bool (eqb (length r.ahead) 0)) [
      | inl e ↦ rw (end, ended, e, before, after) (omega (arith, eqb-true (length r.ahead) 0 e))
      | inr e ↦ let some : length r.ahead ≡ 0 → ⊥ = eqb-false (length r.ahead) 0 e in rw (end, ended, e, before, after) (omega arith)
    ]

-- what is held after a block
pub stream_on : (known mid new : Option (List ℕ)) (start p q r : Held) → prepend_known (held start) known ≡ prepend_known (held p) mid → held q ≡ held p → q.ahead ≡ [] → r.part ≡ q.part
    → mid ≡ prepend_known r.ahead new → prepend_known (held start) known ≡ prepend_known (held r) new
stream_on known mid new start p q r so_far same none part block =
    let bytes : held p ≡ r.part = sym same ∙ ap (λ (x : List ℕ). q.part ++ x) none ∙ append-nil q.part ∙ sym part in
    so_far ∙ ap (λ (x : List ℕ). prepend_known x mid) bytes ∙ ap (prepend_known r.part) block ∙ prepend_known-append new r.part r.ahead

pub none_ahead : (r : Held) → r.ended ≡ eqb (length r.ahead) 0 → IsTrue r.ended → r.ahead ≡ []
none_ahead r is ended = nil_from_length r.ahead (eqb-true (length r.ahead) 0 (sym is ∙ ended))

pub fits_unless_past : (p q : Held) (most n : ℕ) → n ≡ length (first_line p.ahead) → q ≡ moved p → (most < length p.part + n → ⊥) → length q.part ≤ most
fits_unless_past p q most n size is not_past =
    elim (cases_lt most (length p.part + n)) [
      | inl past ↦ absurd (not_past past)
      | inr fits ↦ omega (arith, length-moved p q is)
    ]
