-- The first of the members that none beats, where to beat is a strict weak order.
use Rattle.std.proofs.Common.{◌≡◌, ℕ, ◌+◌, ◌<◌, List, [], ◌∷◌, ◌++◌, length, take, get_or, All, Contains, IfSome, Option, Some, None, is_some, filter, Bool, true, false, ◌||◌, cond, refl, sym, ◌∙◌, ap, subst, ⊎_elim, arith}
use Rattle.std.specs.Cmp.{IsStrictWeakOrder}
use Rattle.std.specs.List.{list_any}
use Rattle.std.proofs.lemmas.Bool.{cases_Bool, both_ways, cond_both, cond-true, cond-false, false_from_ne_true}
use Rattle.std.proofs.lemmas.List.{take_more}
use Rattle.std.proofs.lemmas.List.Elements.{All-nil, All-cons, All-head, All-tail, All-append, All-weaker, All-same, Contains-append_right}
use Rattle.pc_diagram.specs.Best.{earlier_unless, first_best, IsFirstUnbeaten}

module _ {X : Type 0} (beats : X → X → Bool) (o : IsStrictWeakOrder beats) where
  -- to beat carries over
  beats_trans : (x y z : X) → beats x y ≡ true → beats y z ≡ true → beats x z ≡ true
  beats_trans x y z p q =
      ⊎_elim (λ t. t) (λ f. absurd (both_ways (beats x y) (o.chain x z y f (o.one_way y z q)) p)) (cases_Bool (beats x z))

  -- the choices in three steps, by the outcomes of the three tests
  three : (x y z : X) (b c d : Bool) → beats y x ≡ b → beats z y ≡ c → beats z x ≡ d → earlier_unless beats (cond b (Some y) (Some x)) (Some z) ≡ earlier_unless beats (Some x) (cond c (Some z) (Some y))
  three x y z true true true e f g = cc
  three x y z true true false e f g = absurd (both_ways (beats z x) g (beats_trans z y x f e))
  three x y z true false d e f g = cc
  three x y z false true d e f g = refl
  three x y z false false true e f g = absurd (both_ways (beats z x) (o.chain z y x f e) g)
  three x y z false false false e f g = cc

  earlier_unless_assoc : (u v w : Option X) → earlier_unless beats (earlier_unless beats u v) w ≡ earlier_unless beats u (earlier_unless beats v w)
  earlier_unless_assoc None v w = refl
  earlier_unless_assoc (Some x) None w = refl
  earlier_unless_assoc (Some x) (Some y) None =
      elim (beats y x) as (λ b. earlier_unless beats (cond b (Some y) (Some x)) None ≡ cond b (Some y) (Some x)) [ true ↦ refl | false ↦ refl ]
  earlier_unless_assoc (Some x) (Some y) (Some z) = three x y z (beats y x) (beats z y) (beats z x) refl refl refl

  pub first_best-append : (xs ys : List X) → first_best beats (xs ++ ys) ≡ earlier_unless beats (first_best beats xs) (first_best beats ys)
  first_best-append [] ys = refl
  first_best-append (x ∷ xs) ys =
      ap (earlier_unless beats (Some x)) (first_best-append xs ys) ∙ sym (earlier_unless_assoc (Some x) (first_best beats xs) (first_best beats ys))

  -- one member more
  pub first_best-push : (xs : List X) (x : X) → first_best beats (xs ++ x ∷ []) ≡ earlier_unless beats (first_best beats xs) (Some x)
  first_best-push xs x = first_best-append xs (x ∷ [])

  pub first_best-take_more : (xs : List X) (i : ℕ) (d : X) → i < length xs → first_best beats (take (i + 1) xs) ≡ earlier_unless beats (first_best beats (take i xs)) (Some (get_or xs i d))
  first_best-take_more xs i d h = rw (take_more xs i d h) (first_best-push (take i xs) (get_or xs i d))

  -- the new member is beaten, and stands before
  takes_over : (x : X) (xs : List X) (y : X) → IsFirstUnbeaten beats xs y → beats y x ≡ true → IsFirstUnbeaten beats (x ∷ xs) y
  takes_over x xs y h e = record {
    before = x ∷ h.before;
    after = h.after;
    stands = ap (λ ys. x ∷ ys) h.stands;
    beats_before = All-cons (λ other. beats y other ≡ true) x h.before e h.beats_before;
    unbeaten_after = h.unbeaten_after;
  }

  -- the new member isn't beaten, so none of the others beats it
  stays : (x : X) (xs : List X) (y : X) → IsFirstUnbeaten beats xs y → beats y x ≡ false → IsFirstUnbeaten beats (x ∷ xs) x
  stays x xs y h e =
      let P : X → Type 0 = λ other. beats other x ≡ false in
      let front : All P h.before = All-weaker (λ other. beats y other ≡ true) P (λ other t. o.chain other y x (o.one_way y other t) e) h.before h.beats_before in
      let back : All P h.after = All-weaker (λ other. beats other y ≡ false) P (λ other f. o.chain other y x f e) h.after h.unbeaten_after in
      let whole : All P xs = All-same P xs (h.before ++ y ∷ h.after) h.stands (All-append P h.before (y ∷ h.after) front (All-cons P y h.after e back)) in
      record {
        before = [];
        after = xs;
        stands = refl;
        beats_before = All-nil (λ other. beats x other ≡ true);
        unbeaten_after = whole;
      }

  -- what is said of the best of a list that isn't empty
  abbrev Stands : List X → Option X → Type 0
  Stands xs None = xs ≡ []
  Stands xs (Some x) = IsFirstUnbeaten beats xs x

  -- a member in front of a list whose first best is known
  stands_more : (x : X) (xs : List X) (best : Option X) → Stands xs best → Stands (x ∷ xs) (earlier_unless beats (Some x) best)
  stands_more x xs None h = record {
    before = [];
    after = [];
    stands = ap (λ ys. x ∷ ys) h;
    beats_before = All-nil (λ other. beats x other ≡ true);
    unbeaten_after = All-nil (λ other. beats other x ≡ false);
  }
  stands_more x xs (Some y) h =
      cond_both (beats y x) (Some y) (Some x) (Stands (x ∷ xs)) (λ e. takes_over x xs y h e) (λ e. stays x xs y h e)

  pub first_best-stands : (xs : List X) → Stands xs (first_best beats xs)
  first_best-stands [] = refl
  first_best-stands (x ∷ xs) = stands_more x xs (first_best beats xs) (first_best-stands xs)

  -- what holds of every member holds of the first best
  pub first_best-among : (P : X → Type 0) (xs : List X) → All P xs → IfSome (first_best beats xs) P
  first_best-among P [] h = tt
  first_best-among P (x ∷ xs) h =
      either P x (first_best beats xs) (All-head P x xs h) (first_best-among P xs (All-tail P x xs h))
    where
      either : (P : X → Type 0) (x : X) (best : Option X) → P x → IfSome best P → IfSome (earlier_unless beats (Some x) best) P
      either P x None h k = h
      either P x (Some y) h k = cond_both (beats y x) (Some y) (Some x) (λ o. IfSome o P) (λ _. k) (λ _. h)

  -- where the first best is known, it is the first that none beats
  pub first_best-found : (xs : List X) (x : X) → first_best beats xs ≡ Some x → IsFirstUnbeaten beats xs x
  first_best-found xs x e = subst (Stands xs) e (first_best-stands xs)

  pub first_best-none : (xs : List X) → first_best beats xs ≡ None → xs ≡ []
  first_best-none xs e = subst (Stands xs) e (first_best-stands xs)

  later_keeps : (x : X) (best : Option X) → IfSome best (λ other. beats other x ≡ false) → earlier_unless beats (Some x) best ≡ Some x
  later_keeps x None h = refl
  later_keeps x (Some y) h = cond-false (beats y x) (Some y) (Some x) h

  earlier_yields : (x : X) (best : Option X) → IfSome best (λ other. beats x other ≡ true) → earlier_unless beats best (Some x) ≡ Some x
  earlier_yields x None h = refl
  earlier_yields x (Some y) h = cond-true (beats x y) (Some x) (Some y) h

  -- and the first that none beats is the first best
  pub first_best-is : (xs : List X) (x : X) → IsFirstUnbeaten beats xs x → first_best beats xs ≡ Some x
  first_best-is xs x h =
      let back = later_keeps x (first_best beats h.after) (first_best-among (λ other. beats other x ≡ false) h.after h.unbeaten_after) in
      let front = earlier_yields x (first_best beats h.before) (first_best-among (λ other. beats x other ≡ true) h.before h.beats_before) in
      ap (first_best beats) h.stands ∙ first_best-append h.before (x ∷ h.after) ∙ ap (earlier_unless beats (first_best beats h.before)) back ∙ front

  -- it is a member
  pub IsFirstUnbeaten-member : (xs : List X) (x : X) → IsFirstUnbeaten beats xs x → Contains xs x
  IsFirstUnbeaten-member xs x h =
      subst (λ ys. Contains ys x) (sym h.stands) (Contains-append_right h.before (x ∷ h.after) x (0, omega arith, refl))

  -- and no member beats it
  pub IsFirstUnbeaten-all : (xs : List X) (x : X) → IsFirstUnbeaten beats xs x → All (λ other. beats other x ≡ false) xs
  IsFirstUnbeaten-all xs x h =
      let P : X → Type 0 = λ other. beats other x ≡ false in
      let itself : beats x x ≡ false = false_from_ne_true (beats x x) (λ t. both_ways (beats x x) (o.one_way x x t) t) in
      let front : All P h.before = All-weaker (λ other. beats x other ≡ true) P (λ other t. o.one_way x other t) h.before h.beats_before in
      All-same P xs (h.before ++ x ∷ h.after) h.stands (All-append P h.before (x ∷ h.after) front (All-cons P x h.after itself h.unbeaten_after))

-- a filtered list has a first best where some member passes
pub is_some-first_best-filter : {X : Type 0} (beats : X → X → Bool) (p : X → Bool) (xs : List X) → is_some (first_best beats (filter p xs)) ≡ list_any p xs
is_some-first_best-filter {X} beats p [] = refl
is_some-first_best-filter {X} beats p (x ∷ xs) =
    elim (p x) as (λ b. is_some (first_best beats (cond b (x ∷ filter p xs) (filter p xs))) ≡ (b || list_any p xs))
    [ true ↦ some_of (first_best beats (filter p xs)) | false ↦ is_some-first_best-filter beats p xs ]
  where
    some_of : (best : Option X) → is_some (earlier_unless beats (Some x) best) ≡ true
    some_of None = refl
    some_of (Some y) = cond_both (beats y x) (Some y) (Some x) (λ o. is_some o ≡ true) (λ _. refl) (λ _. refl)
