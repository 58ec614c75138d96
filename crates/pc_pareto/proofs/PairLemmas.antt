-- A front of pairs is the front.
use Rattle.std.proofs.Common.{◌≡◌, ◌<ℤ◌, List, [], ◌∷◌, true, Contains, ◌⊎◌, inl, inr, refl, sym, ◌∙◌, subst, arith, suc, zero}
use Rattle.std.proofs.lemmas.Int.{ints}
use Rattle.std.proofs.lemmas.List.Elements.{All-contains, All-from_recursion}
use Rattle.pc_diagram.specs.declared.costs.CostPair.{CostPair}
use Rattle.pc_pareto.specs.Front.{is_at_most, Falls, IsReached, IsFront}
use Rattle.pc_pareto.proofs.ItemLemmas.{contains_head, contains_tail}

pub at_most_itself : (p : CostPair) → is_at_most p p ≡ true
at_most_itself p = grind (arith, ints)

pub at_most_trans : (p q r : CostPair) → is_at_most p q ≡ true → is_at_most q r ≡ true → is_at_most p r ≡ true
at_most_trans p q r h k = grind (arith, ints)

-- pairs that are at most each other are one
pub same_pairs : (p q : CostPair) → is_at_most p q ≡ true → is_at_most q p ≡ true → p ≡ q
same_pairs p q h k =
    let e : p.first ≡ q.first = grind (arith, ints) in
    let f : p.second ≡ q.second = grind (arith, ints) in
    λ i. record { first = e i; second = f i }

pub contains_cases : (p : CostPair) (ps : List CostPair) (q : CostPair) → Contains (p ∷ ps) q → (p ≡ q) ⊎ Contains ps q
contains_cases p ps q (zero, l, e) = inl e
contains_cases p ps q (suc k, l, e) = inr (k, omega arith, e)

-- a later pair of a front isn't at most the first, nor the first at most a later one
pub apart : (p q : CostPair) → (p.first <ℤ q.first) × (q.second <ℤ p.second) → (is_at_most p q ≡ true → ⊥) × (is_at_most q p ≡ true → ⊥)
apart p q h = (λ e. grind (arith, ints), λ e. grind (arith, ints))

pub later_of : (p : CostPair) (ps : List CostPair) (q : CostPair) → Falls (p ∷ ps) → Contains ps q → (p.first <ℤ q.first) × (q.second <ℤ p.second)
later_of p ps q h c =
    All-contains (λ later. (p.first <ℤ later.first) × (later.second <ℤ p.second)) ps q (All-from_recursion (λ later. (p.first <ℤ later.first) × (later.second <ℤ p.second)) ps h.0) c

-- in a list that falls, what is at most another is that one
pub one_in_falling : (ps : List CostPair) (p q : CostPair) → Falls ps → Contains ps p → Contains ps q → is_at_most p q ≡ true → p ≡ q
one_in_falling [] p q h (k, l, e) d a = absurd (omega (arith, l))
one_in_falling (r ∷ ps) p q h c d a =
    by_cases (λ c d. one_in_falling ps p q h.1 c d a) (contains_cases r ps p c) (contains_cases r ps q d)
  where
    by_cases : (Contains ps p → Contains ps q → p ≡ q) → (r ≡ p) ⊎ Contains ps p → (r ≡ q) ⊎ Contains ps q → p ≡ q
    by_cases both (inl e) (inl f) = sym e ∙ f
    by_cases both (inl e) (inr d) = absurd ((apart r q (later_of r ps q h d)).0 (subst (λ x. is_at_most x q ≡ true) (sym e) a))
    by_cases both (inr c) (inl f) = absurd ((apart r p (later_of r ps p h c)).1 (subst (λ x. is_at_most p x ≡ true) (sym f) a))
    by_cases both (inr c) (inr d) = both c d

-- lists that fall and have the same pairs are equal
abbrev Within : List CostPair → List CostPair → Type 0
Within ps qs = (p : CostPair) → Contains ps p → Contains qs p

same_falling : (ps qs : List CostPair) → Falls ps → Falls qs → Within ps qs → Within qs ps → ps ≡ qs
same_falling [] [] h k f g = refl
same_falling [] (q ∷ qs) h k f g = absurd (none q (g q (contains_head q qs)))
  where
    none : (q : CostPair) → Contains [] q → ⊥
    none q (n, l, e) = omega (arith, l)
same_falling (p ∷ ps) [] h k f g = absurd (none p (f p (contains_head p ps)))
  where
    none : (q : CostPair) → Contains [] q → ⊥
    none q (n, l, e) = omega (arith, l)
same_falling (p ∷ ps) (q ∷ qs) h k f g =
    let heads : p ≡ q = first_same (contains_cases p ps q (g q (contains_head q qs))) (contains_cases q qs p (f p (contains_head p ps))) in
    let rest = same_falling ps qs h.1 k.1 (λ r c. left heads r c (contains_cases q qs r (f r (contains_tail p ps r c)))) (λ r c. right heads r c (contains_cases p ps r (g r (contains_tail q qs r c)))) in
    cc
  where
    both_ways : (p.first <ℤ q.first) → (q.first <ℤ p.first) → ⊥
    both_ways a b = grind (arith, ints)

    itself : (r : CostPair) → r.first <ℤ r.first → ⊥
    itself r a = grind (arith, ints)

    first_same : (p ≡ q) ⊎ Contains ps q → (q ≡ p) ⊎ Contains qs p → p ≡ q
    first_same (inl e) d = e
    first_same (inr c) (inl e) = sym e
    first_same (inr c) (inr d) = absurd (both_ways (later_of p ps q h c).0 (later_of q qs p k d).0)

    left : p ≡ q → (r : CostPair) → Contains ps r → (q ≡ r) ⊎ Contains qs r → Contains qs r
    left e r c (inl f) = absurd (itself r (subst (λ x. x.first <ℤ r.first) (e ∙ f) (later_of p ps r h c).0))
    left e r c (inr d) = d

    right : p ≡ q → (r : CostPair) → Contains qs r → (p ≡ r) ⊎ Contains ps r → Contains ps r
    right e r c (inl f) = absurd (itself r (subst (λ x. x.first <ℤ r.first) (sym e ∙ f) (later_of q qs r k c).0))
    right e r c (inr d) = d

-- there is one front of a list
pub one_front : (ps kept others : List CostPair) → IsFront ps kept → IsFront ps others → kept ≡ others
one_front ps kept others h k = same_falling kept others h.falls k.falls (within kept others h k) (within others kept k h)
  where
    within : (kept others : List CostPair) → IsFront ps kept → IsFront ps others → Within kept others
    within kept others h k p c =
        let a = All-contains (IsReached others) ps p k.reached (All-contains (Contains ps) kept p h.among c) in
        let b = All-contains (IsReached kept) ps a.0 h.reached (All-contains (Contains ps) others a.0 k.among a.1) in
        let e : b.0 ≡ p = one_in_falling kept b.0 p h.falls b.1 c (at_most_trans b.0 a.0 p b.2 a.2) in
        let back : is_at_most p a.0 ≡ true = subst (λ x. is_at_most x a.0 ≡ true) e b.2 in
        subst (Contains others) (same_pairs a.0 p a.2 back) a.1
