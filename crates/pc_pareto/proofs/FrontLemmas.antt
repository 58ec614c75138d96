-- The front of a list is one.
use Rattle.std.proofs.Common.{◌≡◌, ◌<◌, ℕ, ◌<ℤ◌, List, [], ◌∷◌, length, get_or, map, true, false, Bool, ◌&&◌, All, Contains, filter, ◌⊎◌, inl, inr, refl, sym, ◌∙◌, ap, subst, cond, not, Option, Some, None, arith, suc, zero}
use Rattle.std.specs.List.{AllByRecursion, list_any}
use Rattle.std.proofs.lemmas.Bool.{cond_both, false_from_ne_true, both_ways}
use Rattle.std.proofs.lemmas.Bool.Decides.{nat_tests}
use Rattle.std.proofs.lemmas.Int.{ints}
use Rattle.std.proofs.lemmas.List.Elements.{All-contains, All-from_recursion, recursion_from_All, All-contains_itself, All-filter, All-map, All-weaker, Contains-get_or, filter_passes}
use Rattle.pc_diagram.specs.declared.costs.CostPair.{CostPair}
use Rattle.pc_diagram.specs.Costs.{is_cheaper}
use Rattle.pc_diagram.specs.Best.{first_best}
use Rattle.pc_diagram.proofs.CheaperOrder.{is_cheaper_order}
use Rattle.pc_diagram.proofs.FirstBest.{first_best-found, first_best-none, IsFirstUnbeaten-member, IsFirstUnbeaten-all}
use Rattle.pc_diagram.proofs.AnyLemmas.{neither, one_at}
use Rattle.pc_pareto.specs.declared.front_item.FrontItem.{FrontItem}
use Rattle.pc_pareto.specs.Front.{is_at_most, is_beaten, with_pair, in_order, front, Falls, IsReached, IsFront}
use Rattle.pc_pareto.specs.Items.{pair_of, covers, IsCovered, IsFrontOf}
use Rattle.pc_pareto.proofs.ItemLemmas.{contains_head, contains_tail, all_weaker}
use Rattle.pc_pareto.proofs.PairLemmas.{at_most_itself, at_most_trans, contains_cases, one_front}

none_in : {X : Type 0} (x : X) → Contains [] x → ⊥
none_in x (k, l, e) = omega (arith, l)

-- a member of a filtered list is a member that passes, and such a member is one
pub of_filter : {X : Type 0} (p : X → Bool) (xs : List X) (x : X) → Contains (filter p xs) x → Contains xs x × (p x ≡ true)
of_filter p xs x h =
    (All-contains (Contains xs) (filter p xs) x (All-filter p (Contains xs) xs (All-contains_itself xs)) h, All-contains (λ y. p y ≡ true) (filter p xs) x (filter_passes p xs) h)

pub in_filter : {X : Type 0} (p : X → Bool) (xs : List X) (x : X) → Contains xs x → p x ≡ true → Contains (filter p xs) x
in_filter {X} p [] x c e = absurd (none_in x c)
in_filter {X} p (y ∷ xs) x c e = by (in_filter p xs x) (cases c)
  where
    cases : Contains (y ∷ xs) x → (y ≡ x) ⊎ Contains xs x
    cases (zero, l, e) = inl e
    cases (suc k, l, e) = inr (k, omega arith, e)

    by : (Contains xs x → p x ≡ true → Contains (filter p xs) x) → (y ≡ x) ⊎ Contains xs x → Contains (filter p (y ∷ xs)) x
    by more (inl f) = subst (λ (zs : List X). Contains zs x) (sym (ap (λ b. cond b (y ∷ filter p xs) (filter p xs)) (ap p f ∙ e))) (subst (Contains (y ∷ filter p xs)) f (contains_head y (filter p xs)))
    by more (inr c) = cond_both (p y) (y ∷ filter p xs) (filter p xs) (λ (zs : List X). Contains zs x) (λ _. contains_tail y (filter p xs) x (more c e)) (λ _. more c e)

pub none_of : {X : Type 0} (p : X → Bool) (xs : List X) → list_any p xs ≡ false → (x : X) → Contains xs x → p x ≡ false
none_of p [] h x c = absurd (none_in x c)
none_of {X} p (y ∷ xs) h x (zero, l, e) = subst (λ z. p z ≡ false) e (neither (p y) (list_any p xs) h).0
none_of {X} p (y ∷ xs) h x (suc k, l, e) = none_of p xs (neither (p y) (list_any p xs) h).1 x (k, omega arith, e)

-- pairs that neither is cheaper of are one
same_if_neither : (p q : CostPair) → is_cheaper p q ≡ false → is_cheaper q p ≡ false → p ≡ q
same_if_neither p q h k =
    let e : p.first ≡ q.first = grind (arith, ints) in
    let f : p.second ≡ q.second = grind (arith, ints) in
    λ i. record { first = e i; second = f i }

-- each is cheaper than all later ones
abbrev Rises : List CostPair → Type 0
Rises [] = Unit {0}
Rises (p ∷ ps) = AllByRecursion (λ q. is_cheaper p q ≡ true) ps × Rises ps

cheaper_trans : (p q r : CostPair) → is_cheaper p q ≡ true → is_cheaper q r ≡ true → is_cheaper p r ≡ true
cheaper_trans p q r h k = grind (arith, ints)

module _ (p : CostPair) where
  -- what is in order with one more is that one or was there
  of_with : (ps : List CostPair) (q : CostPair) → Contains (with_pair p ps) q → (p ≡ q) ⊎ Contains ps q
  of_with [] q = λ c. contains_cases p [] q c
  of_with (o ∷ ps) q =
      cond_both (is_cheaper p o) (p ∷ o ∷ ps) (cond (is_cheaper o p) (o ∷ with_pair p ps) (o ∷ ps)) (λ zs. Contains zs q → (p ≡ q) ⊎ Contains (o ∷ ps) q)
      (λ _ c. contains_cases p (o ∷ ps) q c)
      (λ _. cond_both (is_cheaper o p) (o ∷ with_pair p ps) (o ∷ ps) (λ zs. Contains zs q → (p ≡ q) ⊎ Contains (o ∷ ps) q)
      (λ _ c. by (of_with ps q) (contains_cases o (with_pair p ps) q c))
      (λ _ c. inr c))
    where
      by : (Contains (with_pair p ps) q → (p ≡ q) ⊎ Contains ps q) → (o ≡ q) ⊎ Contains (with_pair p ps) q → (p ≡ q) ⊎ Contains (o ∷ ps) q
      by more (inl e) = inr (subst (Contains (o ∷ ps)) e (contains_head o ps))
      by more (inr c) = step (more c)
        where
          step : (p ≡ q) ⊎ Contains ps q → (p ≡ q) ⊎ Contains (o ∷ ps) q
          step (inl e) = inl e
          step (inr c) = inr (contains_tail o ps q c)

  in_with : (ps : List CostPair) (q : CostPair) → Contains ps q → Contains (with_pair p ps) q
  in_with [] q c = absurd (none_in q c)
  in_with (o ∷ ps) q c =
      cond_both (is_cheaper p o) (p ∷ o ∷ ps) (cond (is_cheaper o p) (o ∷ with_pair p ps) (o ∷ ps)) (λ zs. Contains zs q)
      (λ _. contains_tail p (o ∷ ps) q c)
      (λ _. cond_both (is_cheaper o p) (o ∷ with_pair p ps) (o ∷ ps) (λ zs. Contains zs q)
      (λ _. by (in_with ps q) (contains_cases o ps q c))
      (λ _. c))
    where
      by : (Contains ps q → Contains (with_pair p ps) q) → (o ≡ q) ⊎ Contains ps q → Contains (o ∷ with_pair p ps) q
      by more (inl e) = subst (Contains (o ∷ with_pair p ps)) e (contains_head o (with_pair p ps))
      by more (inr c) = contains_tail o (with_pair p ps) q (more c)

  itself_in_with : (ps : List CostPair) → Contains (with_pair p ps) p
  itself_in_with [] = contains_head p []
  itself_in_with (o ∷ ps) =
      cond_both (is_cheaper p o) (p ∷ o ∷ ps) (cond (is_cheaper o p) (o ∷ with_pair p ps) (o ∷ ps)) (λ zs. Contains zs p)
      (λ _. contains_head p (o ∷ ps))
      (λ f. cond_both (is_cheaper o p) (o ∷ with_pair p ps) (o ∷ ps) (λ zs. Contains zs p)
      (λ _. contains_tail o (with_pair p ps) p (itself_in_with ps))
      (λ g. subst (Contains (o ∷ ps)) (same_if_neither o p g f) (contains_head o ps)))

  rises_with : (ps : List CostPair) → Rises ps → Rises (with_pair p ps)
  rises_with [] h = (tt, tt)
  rises_with (o ∷ ps) h =
      cond_both (is_cheaper p o) (p ∷ o ∷ ps) (cond (is_cheaper o p) (o ∷ with_pair p ps) (o ∷ ps)) Rises
      (λ e. ((e, all_weaker (λ q. is_cheaper o q ≡ true) (λ q. is_cheaper p q ≡ true) (λ q k. cheaper_trans p o q e k) ps h.0), h))
      (λ _. cond_both (is_cheaper o p) (o ∷ with_pair p ps) (o ∷ ps) Rises
      (λ e. (recursion_from_All (λ q. is_cheaper o q ≡ true) (with_pair p ps) (later e), rises_with ps h.1))
      (λ _. h))
    where
      one : is_cheaper o p ≡ true → (q : CostPair) → (p ≡ q) ⊎ Contains ps q → is_cheaper o q ≡ true
      one e q (inl f) = subst (λ x. is_cheaper o x ≡ true) f e
      one e q (inr c) = All-contains (λ q. is_cheaper o q ≡ true) ps q (All-from_recursion (λ q. is_cheaper o q ≡ true) ps h.0) c

      later : is_cheaper o p ≡ true → All (λ q. is_cheaper o q ≡ true) (with_pair p ps)
      later e = λ k d l. one e (get_or (with_pair p ps) k d) (of_with ps (get_or (with_pair p ps) k d) (Contains-get_or (with_pair p ps) k d l))

of_order : (ps : List CostPair) (q : CostPair) → Contains (in_order ps) q → Contains ps q
of_order [] q c = c
of_order (p ∷ ps) q c = by (of_order ps q) (of_with p (in_order ps) q c)
  where
    by : (Contains (in_order ps) q → Contains ps q) → (p ≡ q) ⊎ Contains (in_order ps) q → Contains (p ∷ ps) q
    by more (inl e) = subst (Contains (p ∷ ps)) e (contains_head p ps)
    by more (inr c) = contains_tail p ps q (more c)

in_order_too : (ps : List CostPair) (q : CostPair) → Contains ps q → Contains (in_order ps) q
in_order_too [] q c = c
in_order_too (p ∷ ps) q c = by (in_order_too ps q) (contains_cases p ps q c)
  where
    by : (Contains ps q → Contains (in_order ps) q) → (p ≡ q) ⊎ Contains ps q → Contains (with_pair p (in_order ps)) q
    by more (inl e) = subst (Contains (with_pair p (in_order ps))) e (itself_in_with p (in_order ps))
    by more (inr c) = in_with p (in_order ps) q (more c)

order_rises : (ps : List CostPair) → Rises (in_order ps)
order_rises [] = tt
order_rises (p ∷ ps) = rises_with p (in_order ps) (order_rises ps)

-- what rises and isn't beaten falls
abbrev beats : CostPair → CostPair → Bool
beats other pair = is_at_most other pair && not (is_at_most pair other)

falls_if : (p q : CostPair) → is_cheaper p q ≡ true → beats p q ≡ false → (p.first <ℤ q.first) × (q.second <ℤ p.second)
falls_if p q h k = (grind (arith, ints), grind (arith, ints))

falls_front : (all ps : List CostPair) → Rises ps → AllByRecursion (Contains all) ps → Falls (filter (λ p. not (is_beaten all p)) ps)
falls_front all [] h k = tt
falls_front all (p ∷ ps) h k =
    let kept = filter (λ q. not (is_beaten all q)) ps in
    cond_both (not (is_beaten all p)) (p ∷ kept) kept Falls
    (λ _. (recursion_from_All (λ q. (p.first <ℤ q.first) × (q.second <ℤ p.second)) kept later, falls_front all ps h.1 k.1))
    (λ _. falls_front all ps h.1 k.1)
  where
    unbeaten : (b : Bool) → not b ≡ true → b ≡ false
    unbeaten true e = sym e
    unbeaten false e = refl

    one : (q : CostPair) → Contains ps q × (not (is_beaten all q) ≡ true) → (p.first <ℤ q.first) × (q.second <ℤ p.second)
    one q c =
        falls_if p q (All-contains (λ q. is_cheaper p q ≡ true) ps q (All-from_recursion (λ q. is_cheaper p q ≡ true) ps h.0) c.0)
        (none_of (λ other. beats other q) all (unbeaten (is_beaten all q) c.1) p k.0)

    later : All (λ q. (p.first <ℤ q.first) × (q.second <ℤ p.second)) (filter (λ q. not (is_beaten all q)) ps)
    later = λ i d l.
        let kept = filter (λ q. not (is_beaten all q)) ps in
        one (get_or kept i d) (of_filter (λ q. not (is_beaten all q)) ps (get_or kept i d) (Contains-get_or kept i d l))

-- below each pair stands one that isn't beaten
cheaper_if : (p q : CostPair) → beats p q ≡ true → is_cheaper p q ≡ true
cheaper_if p q h = grind (arith, ints)

at_most_if : (p q : CostPair) → beats p q ≡ true → is_at_most p q ≡ true
at_most_if p q h = grind (arith, ints)

reached_in : (ps : List CostPair) (p : CostPair) → Contains ps p → IsReached (front ps) p
reached_in ps p c = by (first_best is_cheaper below) refl
  where
    below : List CostPair
    below = filter (λ q. is_at_most q p) ps

    itself : Contains (filter (λ q. is_at_most q p) ps) p
    itself = in_filter (λ q. is_at_most q p) ps p c (at_most_itself p)

    by : (found : Option CostPair) → first_best is_cheaper (filter (λ q. is_at_most q p) ps) ≡ found → IsReached (front ps) p
    by None e = absurd (none_in p (subst (λ (zs : List CostPair). Contains zs p) (first_best-none is_cheaper is_cheaper_order (filter (λ q. is_at_most q p) ps) e) itself))
    by (Some m) e =
        let found = first_best-found is_cheaper is_cheaper_order (filter (λ q. is_at_most q p) ps) m e in
        let member = of_filter (λ q. is_at_most q p) ps m (IsFirstUnbeaten-member is_cheaper is_cheaper_order (filter (λ q. is_at_most q p) ps) m found) in
        let least = IsFirstUnbeaten-all is_cheaper is_cheaper_order (filter (λ q. is_at_most q p) ps) m found in
        let free : is_beaten ps m ≡ false = false_from_ne_true (is_beaten ps m) (λ t. beaten m member.1 least (one_at (λ other. beats other m) ps m t)) in
        (m, in_filter (λ q. not (is_beaten ps q)) (in_order ps) m (in_order_too ps m member.0) (ap not free), member.1)
      where
        beaten : (m : CostPair) → is_at_most m p ≡ true → All (λ other. is_cheaper other m ≡ false) (filter (λ q. is_at_most q p) ps) → (i : ℕ) × (i < length ps) × (beats (get_or ps i m) m ≡ true) → ⊥
        beaten m a least (i, l, t) =
            let r = get_or ps i m in
            both_ways (is_cheaper r m)
            (All-contains (λ other. is_cheaper other m ≡ false) (filter (λ q. is_at_most q p) ps) r least
            (in_filter (λ q. is_at_most q p) ps r (Contains-get_or ps i m l) (at_most_trans r m p (at_most_if r m t) a)))
            (cheaper_if r m t)

pub front_is : (ps : List CostPair) → IsFront ps (front ps)
front_is ps = record {
  falls = falls_front ps (in_order ps) (order_rises ps) (recursion_from_All (Contains ps) (in_order ps) (λ k d l. of_order ps (get_or (in_order ps) k d) (Contains-get_or (in_order ps) k d l)));
  among = λ k d l. of_order ps (get_or (front ps) k d) (of_filter (λ q. not (is_beaten ps q)) (in_order ps) (get_or (front ps) k d) (Contains-get_or (front ps) k d l)).0;
  reached = λ k d l. reached_in ps (get_or ps k d) (Contains-get_or ps k d l);
}

-- a front of items has the front of their pairs
pub contains_map : (xs : List FrontItem) (x : FrontItem) → Contains xs x → Contains (map pair_of xs) (pair_of x)
contains_map [] x c = absurd (none_in x c)
contains_map (y ∷ xs) x (zero, l, e) = subst (λ z. Contains (map pair_of (y ∷ xs)) (pair_of z)) e (contains_head (pair_of y) (map pair_of xs))
contains_map (y ∷ xs) x (suc k, l, e) = contains_tail (pair_of y) (map pair_of xs) (pair_of x) (contains_map xs x (k, omega arith, e))

covers_at_most : (x y : FrontItem) → covers x y ≡ true → is_at_most (pair_of x) (pair_of y) ≡ true
covers_at_most x y h = grind (arith, ints, nat_tests)

pub pairs_front : (items kept : List FrontItem) → IsFrontOf items kept → IsFront (map pair_of items) (map pair_of kept)
pairs_front items kept f = record {
  falls = f.falls;
  among = All-map (Contains (map pair_of items)) pair_of kept (All-weaker (Contains items) (λ x. Contains (map pair_of items) (pair_of x)) (λ x c. contains_map items x c) kept f.among);
  reached = All-map (IsReached (map pair_of kept)) pair_of items (All-weaker (IsCovered kept) (λ x. IsReached (map pair_of kept) (pair_of x)) (λ x c. (pair_of c.0, contains_map kept c.0 c.1, covers_at_most c.0 x c.2)) items f.covered);
}

pub pairs_are_front : (items kept : List FrontItem) → IsFrontOf items kept → map pair_of kept ≡ front (map pair_of items)
pairs_are_front items kept f =
    one_front (map pair_of items) (map pair_of kept) (front (map pair_of items)) (pairs_front items kept f) (front_is (map pair_of items))
