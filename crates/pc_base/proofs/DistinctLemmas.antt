-- One more element of a list without repetition.
use Rattle.std.proofs.Common.{◌≡◌, Bool, true, false, not, ◌&&◌, ◌||◌, List, [], ◌∷◌, ◌++◌, refl, ◌∙◌}
use Rattle.std.specs.List.{list_any}
use Rattle.std.proofs.Math.Bool.{and-false, or-true}
use Rattle.std.proofs.lemmas.List.Folds.{list_any-append}
use Rattle.pc_base.specs.Distinct.{all_differ}

pub both_true_parts : (a b : Bool) → (a && b) ≡ true → (a ≡ true) × (b ≡ true)
both_true_parts true b h = (refl, h)
both_true_parts false b h = absurd cc

pub both_false_parts : (a b : Bool) → (a || b) ≡ false → (a ≡ false) × (b ≡ false)
both_false_parts true b h = absurd cc
both_false_parts false b h = (refl, h)

not_true : (b : Bool) → not b ≡ true → b ≡ false
not_true true h = absurd cc
not_true false h = refl

module _ {X : Type 0} (same : X → X → Bool) (symmetric : (x y : X) → same x y ≡ same y x) where
  -- a new one at the end
  pub all_differ-push : (xs : List X) (x : X) → all_differ same xs ≡ true → list_any (same x) xs ≡ false → all_differ same (xs ++ x ∷ []) ≡ true
  all_differ-push [] x h new = refl
  all_differ-push (y ∷ xs) x h new =
      let n = both_false_parts (same x y) (list_any (same x) xs) new in
      let d = both_true_parts (not (list_any (same y) xs)) (all_differ same xs) h in
      let rest = all_differ-push xs x d.1 n.1 in
      let apart : same y x ≡ false = symmetric y x ∙ n.0 in
      let none = not_true (list_any (same y) xs) d.0 in
      rw (list_any-append (same y) xs (x ∷ []), rest, none, apart) refl

  -- one that is there, whatever follows it
  pub all_differ-again : (xs : List X) (x : X) (ys : List X) → list_any (same x) xs ≡ true → all_differ same (xs ++ x ∷ ys) ≡ false
  all_differ-again [] x ys there = absurd cc
  all_differ-again (y ∷ xs) x ys there = by (all_differ-again xs x ys) (same x y) refl
    where
      by : (list_any (same x) xs ≡ true → all_differ same (xs ++ x ∷ ys) ≡ false) → (b : Bool) → same x y ≡ b → not (list_any (same y) (xs ++ x ∷ ys)) && all_differ same (xs ++ x ∷ ys) ≡ false
      by again true e =
          let there_too : same y x ≡ true = symmetric y x ∙ e in
          rw (list_any-append (same y) xs (x ∷ ys), there_too, or-true) refl
      by again false e =
          let later : list_any (same x) xs ≡ true = rw e at there in
          rw (again later) (and-false _)
