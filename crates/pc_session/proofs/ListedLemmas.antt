-- A value is in a version's listing exactly where its board lists it.
use Rattle.std.proofs.Common.{◌≡◌, ℕ, zero, suc, ◌+◌, ◌<◌, ◌≤◌, ◌==◌, List, [], ◌∷◌, length, map, filter, Option, Some, None, option_map, is_some, Bool, true, false, cond, ◌||◌, refl, sym, ap, ◌∙◌, arith}
use Rattle.std.specs.List.{list_any, range_with_len}
use Rattle.std.proofs.lemmas.Bool.Decides.{nat_tests}
use Rattle.std.proofs.lemmas.Option.{slice_get-get_or}
use Rattle.pc_diagram.specs.declared.bounds.Bounds.{Bounds}
use Rattle.pc_diagram.specs.declared.choice.Choice.{Choice}
use Rattle.pc_diagram.specs.declared.costs.CostPair.{CostPair}
use Rattle.pc_diagram.specs.declared.listed.Listed.{Listed}
use Rattle.pc_diagram.specs.Best.{best, is_cheaper_word}
use Rattle.pc_diagram.specs.Fitting.{fitting, takes}
use Rattle.pc_diagram.specs.Listing.{is_valid, item, listed, listing, listing_of, taking, value_count}
use Rattle.pc_diagram.proofs.FirstBest.{is_some-first_best-filter}
use Rattle.pc_diagram.proofs.ListingLemmas.{length-listing, listing_of-values}
use Rattle.pc_calls.specs.Selection.{is_among, is_in}

-- a value is named among those listed
any_named : (value : ℕ) (row : List Listed) → list_any (λ item. item.value == value) row ≡ list_any (λ k. k == value) (map (λ x. x.value) row)
any_named value [] = refl
any_named value (x ∷ row) = ap (λ b. (x.value == value) || b) (any_named value row)

-- a number is kept of a range exactly where the test keeps it
module _ (keeps : ℕ → Bool) (value : ℕ) where
  abbrev among : List ℕ → Bool
  among = list_any (λ k. k == value)

  kept_one : (a : ℕ) (rest : List ℕ) (b : Bool) → (a == value) ≡ false → among (cond b (a ∷ rest) rest) ≡ among rest
  kept_one a rest true other = ap (λ b. b || among rest) other
  kept_one a rest false other = refl

  kept_past : (a n : ℕ) → value < a → among (filter keeps (range_with_len a n)) ≡ false
  kept_past a zero past = refl
  kept_past a (suc n) past =
      let other : (a == value) ≡ false = grind (arith, nat_tests) in
      kept_one a (filter keeps (range_with_len (a + 1) n)) (keeps a) other ∙ kept_past (a + 1) n (omega (arith, past))

  kept_here : (a : ℕ) (rest : List ℕ) (b : Bool) → keeps a ≡ b → (a == value) ≡ true → among rest ≡ false → among (cond b (a ∷ rest) rest) ≡ keeps a
  kept_here a rest true k same none = ap (λ b. b || among rest) same ∙ sym k
  kept_here a rest false k same none = none ∙ sym k

  kept_in : (a n : ℕ) → a ≤ value → value < a + n → among (filter keeps (range_with_len a n)) ≡ keeps value
  kept_in a zero ge lt = absurd (omega arith)
  kept_in a (suc n) ge lt = at (a == value) refl (λ differ. kept_in (a + 1) n (later differ) (omega (arith, lt)))
    where
      rest : List ℕ
      rest = filter keeps (range_with_len (a + 1) n)

      later : ((a == value) ≡ false) → a + 1 ≤ value
      later differ = grind (arith, nat_tests, differ, ge)

      at : (b : Bool) → (a == value) ≡ b → (((a == value) ≡ false) → among rest ≡ keeps value) → among (cond (keeps a) (a ∷ rest) rest) ≡ keeps value
      at true e beyond =
          let same : a ≡ value = grind (arith, nat_tests, e) in
          kept_here a rest (keeps a) refl e (kept_past (a + 1) n (omega (arith, same))) ∙ ap keeps same
      at false e beyond = kept_one a rest (keeps a) e ∙ beyond e

some_mapped : {X Y : Type 0} (f : X → Y) (o : Option X) → is_some (option_map f o) ≡ is_some o
some_mapped f None = refl
some_mapped f (Some x) = refl

module _ (costs : List (List CostPair)) (words : List (List ℕ)) (choices : List Choice) (bounds : Bounds) (variable value : ℕ) where
  -- a value is listed exactly where some word that fits takes it
  some_item : is_some (item costs (fitting costs words choices bounds) variable value) ≡ is_valid costs words choices bounds variable value
  some_item =
      some_mapped (listed costs value) (best costs (taking (fitting costs words choices bounds) variable value))
      ∙ is_some-first_best-filter (is_cheaper_word costs) (λ w. takes w variable value) (fitting costs words choices bounds)

  pub in_listing : variable < length costs → value < value_count costs variable → is_in (listing costs words choices bounds) variable value ≡ is_some (item costs (fitting costs words choices bounds) variable value)
  in_listing inside below =
      let row = listing_of costs words choices bounds variable in
      let many = length-listing costs words choices bounds in
      ap (is_among value) (slice_get-get_or (listing costs words choices bounds) variable [] (omega arith))
      ∙ any_named value row
      ∙ ap (list_any (λ k. k == value)) (listing_of-values costs words choices bounds variable inside)
      ∙ kept_in (is_valid costs words choices bounds variable) value 0 (value_count costs variable) (omega arith) (omega arith)
      ∙ sym some_item
