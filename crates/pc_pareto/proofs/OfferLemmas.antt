-- What an offer leaves.
use Rattle.std.proofs.Common.{◌≡◌, List, [], ◌∷◌, ◌++◌, get_or, map, true, false, Bool, All, Contains, filter, ◌⊎◌, inl, inr, refl, sym, ◌∙◌, ap, subst, cond, Option, Some, None, arith, suc, zero}
use Rattle.std.specs.Cmp.{IsStrictWeakOrder}
use Rattle.std.specs.List.{list_any}
use Rattle.std.proofs.lemmas.Bool.{false_from_ne_true, both_ways, cond-true, cond-false, cases_Bool}
use Rattle.std.proofs.lemmas.Bool.Decides.{nat_tests}
use Rattle.std.proofs.lemmas.Int.{ints}
use Rattle.std.proofs.lemmas.List.{append-nil}
use Rattle.std.proofs.lemmas.List.Elements.{All-contains, All-weaker, Contains-get_or, Contains-push, Contains-push_cases, Contains-append_left, filter-append}
use Rattle.pc_diagram.specs.declared.costs.CostPair.{CostPair}
use Rattle.pc_diagram.specs.Best.{first_best, earlier_unless}
use Rattle.pc_diagram.proofs.AnyLemmas.{one_at}
use Rattle.pc_diagram.proofs.FirstBest.{first_best-push, first_best-found, IsFirstUnbeaten-member}
use Rattle.pc_pareto.specs.declared.front_item.FrontItem.{FrontItem}
use Rattle.pc_pareto.specs.Front.{is_at_most, Falls}
use Rattle.pc_pareto.specs.Items.{pair_of, covers, has_less_rank, has_pair, best_of_pair, IsCovered, IsFrontOf, IsFrontOfOffered}
use Rattle.pc_pareto.proofs.ItemLemmas.{covers_itself, covers_trans, front_through}
use Rattle.pc_pareto.proofs.PairLemmas.{apart, later_of}
use Rattle.pc_pareto.proofs.FrontLemmas.{contains_map, none_of, of_filter}

rank_order : IsStrictWeakOrder has_less_rank
rank_order = record { one_way = one_way; chain = chain }
  where
    one_way : (x y : FrontItem) → has_less_rank x y ≡ true → has_less_rank y x ≡ false
    one_way x y h = grind (arith, nat_tests)

    chain : (x y z : FrontItem) → has_less_rank x y ≡ false → has_less_rank y z ≡ false → has_less_rank x z ≡ false
    chain x y z h k = grind (arith, nat_tests)

-- in a front, an item whose pair is at most another's is that one
pub one_item : (kept : List FrontItem) (x y : FrontItem) → Falls (map pair_of kept) → Contains kept x → Contains kept y → is_at_most (pair_of x) (pair_of y) ≡ true → x ≡ y
one_item [] x y h (k, l, e) d a = absurd (omega (arith, l))
one_item (z ∷ kept) x y h c d a = by (λ c d. one_item kept x y h.1 c d a) (cases x c) (cases y d)
  where
    cases : (x : FrontItem) → Contains (z ∷ kept) x → (z ≡ x) ⊎ Contains kept x
    cases x (zero, l, e) = inl e
    cases x (suc k, l, e) = inr (k, omega arith, e)

    by : (Contains kept x → Contains kept y → x ≡ y) → (z ≡ x) ⊎ Contains kept x → (z ≡ y) ⊎ Contains kept y → x ≡ y
    by both (inl e) (inl f) = sym e ∙ f
    by both (inl e) (inr d) = absurd ((apart (pair_of z) (pair_of y) (later_of (pair_of z) (map pair_of kept) (pair_of y) h (contains_map kept y d))).0 (subst (λ w. is_at_most (pair_of w) (pair_of y) ≡ true) (sym e) a))
    by both (inr c) (inl f) = absurd ((apart (pair_of z) (pair_of x) (later_of (pair_of z) (map pair_of kept) (pair_of x) h (contains_map kept x c))).1 (subst (λ w. is_at_most (pair_of x) (pair_of w) ≡ true) (sym f) a))
    by both (inr c) (inr d) = both c d

covers_pair : (x y : FrontItem) → covers x y ≡ true → is_at_most (pair_of x) (pair_of y) ≡ true
covers_pair x y h = grind (arith, ints, nat_tests)

module _ (offered : List FrontItem) (item : FrontItem) (pair : CostPair) where
  best_push_other : has_pair pair item ≡ false → best_of_pair (offered ++ item ∷ []) pair ≡ best_of_pair offered pair
  best_push_other e =
      ap (first_best has_less_rank) (filter-append (has_pair pair) offered (item ∷ []) ∙ ap (λ b. filter (has_pair pair) offered ++ cond b (item ∷ []) []) e ∙ append-nil (filter (has_pair pair) offered))

  best_push_same : has_pair pair item ≡ true → best_of_pair (offered ++ item ∷ []) pair ≡ earlier_unless has_less_rank (best_of_pair offered pair) (Some item)
  best_push_same e =
      ap (first_best has_less_rank) (filter-append (has_pair pair) offered (item ∷ []) ∙ ap (λ b. filter (has_pair pair) offered ++ cond b (item ∷ []) []) e) ∙ first_best-push has_less_rank rank_order (filter (has_pair pair) offered) item

  -- a best that the new item doesn't beat stays
  best_stays : (y : FrontItem) → best_of_pair offered pair ≡ Some y → (has_pair pair item ≡ true → has_less_rank item y ≡ false) → best_of_pair (offered ++ item ∷ []) pair ≡ Some y
  best_stays y b f = by (has_pair pair item) refl
    where
      by : (t : Bool) → has_pair pair item ≡ t → best_of_pair (offered ++ item ∷ []) pair ≡ Some y
      by true e = best_push_same e ∙ ap (λ o. earlier_unless has_less_rank o (Some item)) b ∙ cond-false (has_less_rank item y) (Some item) (Some y) (f e)
      by false e = best_push_other e ∙ b

module _ (offered kept : List FrontItem) (item : FrontItem) (h : IsFrontOfOffered offered kept) where
  of_offered : (more : List FrontItem) → ((x : FrontItem) → Contains kept x → Contains more x) → IsCovered more item → All (IsCovered more) (offered ++ item ∷ [])
  of_offered more f c = λ k d l. one (get_or (offered ++ item ∷ []) k d) (Contains-push_cases offered item (get_or (offered ++ item ∷ []) k d) (Contains-get_or (offered ++ item ∷ []) k d l))
    where
      one : (x : FrontItem) → Contains offered x ⊎ (item ≡ x) → IsCovered more x
      one x (inl m) = let a = All-contains (IsCovered kept) offered x h.front.covered m in (a.0, f a.0 a.1, a.2)
      one x (inr e) = subst (IsCovered more) e c

  among_offered : All (Contains (offered ++ item ∷ [])) kept
  among_offered = All-weaker (Contains offered) (Contains (offered ++ item ∷ [])) (λ x c. Contains-append_left offered (item ∷ []) x c) kept h.front.among

  pair_back : (pair : CostPair) → has_pair pair item ≡ true → is_at_most pair (pair_of item) ≡ true
  pair_back pair e = grind (arith, ints)

  pair_there : (pair : CostPair) → has_pair pair item ≡ true → is_at_most (pair_of item) pair ≡ true
  pair_there pair e = grind (arith, ints)

  at_most_chain : (p q r : CostPair) → is_at_most p q ≡ true → is_at_most q r ≡ true → is_at_most p r ≡ true
  at_most_chain p q r a b = grind (arith, ints)

  not_less : (z : FrontItem) → covers z item ≡ true → is_at_most (pair_of item) (pair_of z) ≡ true → has_less_rank item z ≡ false
  not_less z c a = grind (arith, ints, nat_tests)

  pub offer_kept : list_any (λ k. covers k item) kept ≡ true → IsFrontOfOffered (offered ++ item ∷ []) kept
  offer_kept t =
      let found = one_at (λ k. covers k item) kept item t in
      let z = get_or kept found.0 item in
      let at : Contains kept z = Contains-get_or kept found.0 item found.1 in
      record {
        front = record { falls = h.front.falls; among = among_offered; covered = of_offered kept (λ x c. c) (z, at, found.2) };
        best = λ k d l. stays z at found.2 (get_or kept k d) (Contains-get_or kept k d l) (h.best k d l);
      }
    where
      stays : (z : FrontItem) → Contains kept z → covers z item ≡ true → (y : FrontItem) → Contains kept y → best_of_pair offered (pair_of y) ≡ Some y → best_of_pair (offered ++ item ∷ []) (pair_of y) ≡ Some y
      stays z at c y m b = best_stays offered item (pair_of y) y b (λ e.
          let same : z ≡ y = one_item kept z y h.front.falls at m (at_most_chain (pair_of z) (pair_of item) (pair_of y) (covers_pair z item c) (pair_there (pair_of y) e)) in
          subst (λ w. has_less_rank item w ≡ false) same (not_less z c (subst (λ w. is_at_most (pair_of item) (pair_of w) ≡ true) (sym same) (pair_there (pair_of y) e))))

  covers_if : (y : FrontItem) → has_pair (pair_of y) item ≡ true → has_less_rank item y ≡ true → covers item y ≡ true
  covers_if y e r = grind (arith, ints, nat_tests)

  covers_if_not : (y : FrontItem) → has_pair (pair_of y) item ≡ true → has_less_rank item y ≡ false → covers y item ≡ true
  covers_if_not y e r = grind (arith, ints, nat_tests)

  itself : has_pair (pair_of item) item ≡ true
  itself = grind (arith, ints)

  same_back : (y : FrontItem) → has_pair (pair_of item) y ≡ true → has_pair (pair_of y) item ≡ true
  same_back y e = grind (arith, ints)

  pub offer_taken : list_any (λ k. covers k item) kept ≡ false → (new : List FrontItem) → IsFrontOf (kept ++ item ∷ []) new → IsFrontOfOffered (offered ++ item ∷ []) new
  offer_taken t new f = record {
    front = front_through (offered ++ item ∷ []) (kept ++ item ∷ []) new among covered f;
    best = λ k d l. best (get_or new k d) (Contains-get_or new k d l);
  }
    where
      free : (x : FrontItem) → Contains kept x → covers x item ≡ false
      free x c = none_of (λ k. covers k item) kept t x c

      member : (x : FrontItem) → Contains kept x ⊎ (item ≡ x) → Contains (offered ++ item ∷ []) x
      member x (inl c) = All-contains (Contains (offered ++ item ∷ [])) kept x among_offered c
      member x (inr e) = subst (Contains (offered ++ item ∷ [])) e (Contains-push offered item)

      among : All (Contains (offered ++ item ∷ [])) (kept ++ item ∷ [])
      among = λ k d l. member (get_or (kept ++ item ∷ []) k d) (Contains-push_cases kept item (get_or (kept ++ item ∷ []) k d) (Contains-get_or (kept ++ item ∷ []) k d l))

      covered : All (IsCovered (kept ++ item ∷ [])) (offered ++ item ∷ [])
      covered = of_offered (kept ++ item ∷ []) (λ x c. Contains-append_left kept (item ∷ []) x c) (item, Contains-push kept item, covers_itself item)

      -- the new item is in the new front, since no other covers it
      there : Contains new item
      there =
          let a = All-contains (IsCovered new) (kept ++ item ∷ []) item f.covered (Contains-push kept item) in
          by a.0 a.1 a.2 (Contains-push_cases kept item a.0 (All-contains (Contains (kept ++ item ∷ [])) new a.0 f.among a.1))
        where
          by : (z : FrontItem) → Contains new z → covers z item ≡ true → Contains kept z ⊎ (item ≡ z) → Contains new item
          by z m c (inl k) = absurd (both_ways (covers z item) (free z k) c)
          by z m c (inr e) = subst (Contains new) (sym e) m

      old : (y : FrontItem) → Contains new y → Contains kept y → best_of_pair (offered ++ item ∷ []) (pair_of y) ≡ Some y
      old y m k =
          best_stays offered item (pair_of y) y (All-contains (λ y. best_of_pair offered (pair_of y) ≡ Some y) kept y h.best k) (λ e. false_from_ne_true (has_less_rank item y) (λ r.
          let same : item ≡ y = one_item new item y f.falls there m (covers_pair item y (covers_if y e r)) in
          both_ways (covers y item) (free y k) (subst (λ w. covers w item ≡ true) same (covers_itself item))))

      fresh : (found : Option FrontItem) → best_of_pair offered (pair_of item) ≡ found → best_of_pair (offered ++ item ∷ []) (pair_of item) ≡ Some item
      fresh None e = best_push_same offered item (pair_of item) itself ∙ ap (λ o. earlier_unless has_less_rank o (Some item)) e
      fresh (Some b) e =
          let m = of_filter (has_pair (pair_of item)) offered b (IsFirstUnbeaten-member has_less_rank rank_order (filter (has_pair (pair_of item)) offered) b (first_best-found has_less_rank rank_order (filter (has_pair (pair_of item)) offered) b e)) in
          let a = All-contains (IsCovered kept) offered b h.front.covered m.0 in
          let less : has_less_rank item b ≡ true = less_if a.0 a.1 b a.2 m.1 (cases_Bool (has_less_rank item b)) in
          best_push_same offered item (pair_of item) itself ∙ ap (λ o. earlier_unless has_less_rank o (Some item)) e ∙ cond-true (has_less_rank item b) (Some item) (Some b) less
        where
          less_if : (z : FrontItem) → Contains kept z → (b : FrontItem) → covers z b ≡ true → has_pair (pair_of item) b ≡ true → (has_less_rank item b ≡ true) ⊎ (has_less_rank item b ≡ false) → has_less_rank item b ≡ true
          less_if z k b c p (inl r) = r
          less_if z k b c p (inr r) = absurd (both_ways (covers z item) (free z k) (covers_trans z b item c (covers_if_not b (same_back b p) r)))

      best : (y : FrontItem) → Contains new y → best_of_pair (offered ++ item ∷ []) (pair_of y) ≡ Some y
      best y m = by (Contains-push_cases kept item y (All-contains (Contains (kept ++ item ∷ [])) new y f.among m))
        where
          by : Contains kept y ⊎ (item ≡ y) → best_of_pair (offered ++ item ∷ []) (pair_of y) ≡ Some y
          by (inl k) = old y m k
          by (inr e) = subst (λ w. best_of_pair (offered ++ item ∷ []) (pair_of w) ≡ Some w) e (fresh (best_of_pair offered (pair_of item)) refl)
