-- The least of a cost over the words that fit, by what is kept of the root.
use Rattle.std.proofs.Common.{◌≡◌, ℕ, zero, suc, Bool, true, false, if◌then◌else◌, ℤ, ◌≤ℤ◌, List, [], ◌∷◌, map, get_or, All, Contains, Option, Some, None, IsTrue, refl, sym, ap, ◌∙◌, subst, arith}
use Rattle.std.specs.Prelude.{int_le}
use Rattle.std.proofs.lemmas.Int.{ints}
use Rattle.std.proofs.lemmas.List.Elements.{All-cons, All-contains}
use Rattle.pc_diagram.specs.declared.bounds.Bounds.{Bounds}
use Rattle.pc_diagram.specs.declared.choice.Choice.{Choice}
use Rattle.pc_diagram.specs.declared.costs.CostPair.{CostPair}
use Rattle.pc_diagram.specs.declared.raw_diagram.RawDiagram.{RawDiagram}
use Rattle.pc_diagram.specs.declared.which.Which.{Which}
use Rattle.pc_diagram.specs.declared.which.Which.TheVariants.{First, Second}
use Rattle.pc_diagram.specs.Bounds.{allows_pair}
use Rattle.pc_diagram.specs.Choices.{are_distinct}
use Rattle.pc_diagram.specs.Costs.{cost, cost_pair, part}
use Rattle.pc_diagram.specs.Fitting.{fitting}
use Rattle.pc_diagram.specs.Least.{least, least_cost, lesser}
use Rattle.pc_diagram.specs.NodePaths.{AreChoicesOf, is_tail}
use Rattle.pc_diagram.specs.Paths.{words}
use Rattle.pc_domains.specs.Ways.{Keeps, Kept}
use Rattle.pc_domains.proofs.FitLemmas.{covered, none_fits, root_fits}
use Rattle.pc_domains.proofs.WayLemmas.{AddsUp, IsDownward}

-- a number of a list that no other is less than
record IsLeast (zs : List ℤ) (z : ℤ) : Type 0 where
  among : Contains zs z
  below : All (λ y. z ≤ℤ y) zs

none_least : (zs : List ℤ) → least zs ≡ None → zs ≡ []
none_least [] e = refl
none_least (z ∷ zs) e = absurd cc

here : (z : ℤ) (zs : List ℤ) → Contains (z ∷ zs) z
here z zs = (0, omega arith, refl)

there : (z y : ℤ) (zs : List ℤ) → Contains zs y → Contains (z ∷ zs) y
there z y zs its = (suc its.0, omega (arith, its.1), its.2)

not_above : (z y : ℤ) → int_le z y ≡ false → y ≤ℤ z
not_above z y e = grind (arith, ints)

at_most : (z y : ℤ) → int_le z y ≡ true → z ≤ℤ y
at_most z y e = grind (arith, ints)

itself : (z : ℤ) → z ≤ℤ z
itself z = omega (arith, ints)

through : (a b c : ℤ) → a ≤ℤ b → b ≤ℤ c → a ≤ℤ c
through a b c h k = omega (arith, ints, h, k)

least_is : (zs : List ℤ) (m : ℤ) → least zs ≡ Some m → IsLeast zs m
least_is [] m e = absurd cc
least_is (z ∷ zs) m e = by (least zs) refl e (least_is zs)
  where
    same : (a b : ℤ) → Some a ≡ Some b → a ≡ b
    same a b h = cc

    alone : zs ≡ [] → IsLeast (z ∷ zs) z
    alone none = subst (λ l. IsLeast (z ∷ l) z) (sym none) (record { among = here z []; below = All-cons (λ y. z ≤ℤ y) z [] (itself z) (λ k d l. absurd (omega (arith, l))) })

    beside : (y : ℤ) → IsLeast zs y → (b : Bool) → int_le z y ≡ b → IsLeast (z ∷ zs) (if b then z else y)
    beside y rest true h = record {
      among = here z zs;
      below = All-cons (λ x. z ≤ℤ x) z zs (itself z) (λ k d l. through z y (get_or zs k d) (at_most z y h) (rest.below k d l));
    }
    beside y rest false h = record {
      among = there z y zs rest.among;
      below = All-cons (λ x. y ≤ℤ x) z zs (not_above z y h) rest.below;
    }

    by : (o : Option ℤ) → least zs ≡ o → Some (lesser z o) ≡ Some m → ((y : ℤ) → least zs ≡ Some y → IsLeast zs y) → IsLeast (z ∷ zs) m
    by None k h rest = subst (IsLeast (z ∷ zs)) (same z m h) (alone (none_least zs k))
    by (Some y) k h rest = subst (IsLeast (z ∷ zs)) (same (if int_le z y then z else y) m h) (beside y (rest y k) (int_le z y) refl)

both_least : (a b : ℤ) → a ≤ℤ b → b ≤ℤ a → a ≡ b
both_least a b h k = grind (arith, ints, h, k)

-- such a number is the least
pub is_least : (zs : List ℤ) (z : ℤ) → Contains zs z → All (λ y. z ≤ℤ y) zs → least zs ≡ Some z
is_least zs z among below = by (least zs) refl
  where
    by : (o : Option ℤ) → least zs ≡ o → o ≡ Some z
    by None e = let its = subst (λ l. Contains l z) (none_least zs e) among in absurd (omega (arith, its.1))
    by (Some m) e =
        let is = least_is zs m e in
        ap Some (both_least m z (All-contains (λ y. m ≤ℤ y) zs z is.below among) (All-contains (λ y. z ≤ℤ y) zs m below is.among))

module _ {X : Type 0} (f : X → ℤ) where
  mapped : (xs : List X) (x : X) → Contains xs x → Contains (map f xs) (f x)
  mapped [] x its = absurd (omega (arith, its.1))
  mapped (y ∷ xs) x (zero, l, e) = (0, omega arith, ap f e)
  mapped (y ∷ xs) x (suc k, l, e) = let rest = mapped xs x (k, omega (arith, l), e) in (suc rest.0, omega (arith, rest.1), rest.2)

  all_mapped : (P : ℤ → Type 0) (xs : List X) → ((x : X) → Contains xs x → P (f x)) → All P (map f xs)
  all_mapped P [] h = λ k d l. absurd (omega (arith, l))
  all_mapped P (x ∷ xs) h = All-cons P (f x) (map f xs) (h x (0, omega arith, refl)) (all_mapped P xs (λ y its. h y (suc its.0, omega (arith, its.1), its.2)))

cost_part : (which : Which) (costs : List (List CostPair)) (word : List ℕ) → part which (cost_pair costs word) ≡ cost costs which word
cost_part First costs word = refl
cost_part Second costs word = refl

module _ (raw : RawDiagram) (costs : List (List CostPair)) (choices : List Choice) (bounds : Bounds) (distinct : IsTrue (are_distinct choices)) (choices_of : AreChoicesOf raw.domains choices)
    (no_more : CostPair → CostPair → Type 0) (order : AddsUp no_more) (downward : IsDownward no_more (allows_pair bounds)) (kept : ℕ → ℕ → Option Kept) (keeps : Keeps no_more costs (is_tail raw choices 0) raw.domains 1 kept)
    (which : Which) (lessens : (a b : CostPair) → no_more a b → part which a ≤ℤ part which b) where
  abbrev pub fitted : List (List ℕ)
  fitted = fitting costs (words raw) choices bounds

  -- of the root's kept paths that the bounds allow, one that costs no more than any other costs the least of all words that fit
  pub least_kept : (place : ℕ) (k : Kept) → kept 0 place ≡ Some k → allows_pair bounds k.pair ≡ true
      → ((other : ℕ) (l : Kept) → kept 0 other ≡ Some l → allows_pair bounds l.pair ≡ true → part which k.pair ≤ℤ part which l.pair)
      → least_cost which costs fitted ≡ Some (part which k.pair)
  least_kept place k is allowed below =
      let priced : part which k.pair ≡ cost costs which k.path = ap (part which) (keeps.priced 0 place (omega arith) k is) ∙ cost_part which costs k.path in
      let among = mapped (cost costs which) fitted k.path (root_fits raw costs choices bounds distinct choices_of no_more order downward kept keeps place k is allowed) in
      is_least (map (cost costs which) fitted) (cost costs which k.path) among (all_mapped (cost costs which) (λ y. cost costs which k.path ≤ℤ y) fitted (each priced)) ∙ ap Some (sym priced)
    where
      each : part which k.pair ≡ cost costs which k.path → (word : List ℕ) → Contains fitted word → cost costs which k.path ≤ℤ cost costs which word
      each priced word its =
          let by = covered raw costs choices bounds distinct choices_of no_more order downward kept keeps word its in
          let less = through (part which k.pair) (part which by.path.pair) (part which (cost_pair costs word)) (below by.place by.path by.is by.allowed) (lessens by.path.pair (cost_pair costs word) by.no_dearer) in
          subst (λ z. z ≤ℤ cost costs which word) priced (subst (λ z. part which k.pair ≤ℤ z) (cost_part which costs word) less)

  pub none_kept : ((place : ℕ) (k : Kept) → kept 0 place ≡ Some k → allows_pair bounds k.pair ≡ false) → least_cost which costs fitted ≡ None
  none_kept none = ap (least_cost which costs) (none_fits raw costs choices bounds distinct choices_of no_more order downward kept keeps none)
