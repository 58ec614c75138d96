-- What a listing lists.
use Rattle.std.proofs.Common.{◌≡◌, ℕ, ◌<◌, List, [], ◌∷◌, length, map, All, Contains, Option, Some, None, is_some, option_map, filter, filter_map, Bool, true, false, cond, refl, sym, ◌∙◌, ap, subst, arith}
use Rattle.std.specs.List.{range_with_len, cons_option}
use Rattle.std.proofs.lemmas.Bool.{both_ways}
use Rattle.std.proofs.lemmas.List.Elements.{All-nil, All-cons, All-head, All-tail, All-filter, All-contains, All-contains_itself, filter_passes}
use Rattle.std.proofs.lemmas.List.FromFn.{length-map-range_with_len, get_or-map-range_with_len}
use Rattle.pc_diagram.specs.declared.bounds.Bounds.{Bounds}
use Rattle.pc_diagram.specs.declared.choice.Choice.{Choice}
use Rattle.pc_diagram.specs.declared.costs.CostPair.{CostPair}
use Rattle.pc_diagram.specs.declared.listed.Listed.{Listed}
use Rattle.pc_diagram.specs.Best.{is_cheaper_word, best}
use Rattle.pc_diagram.specs.Fitting.{takes, fits, fitting}
use Rattle.pc_diagram.specs.Listing.{taking, listed, item, value_count, items, listing, listing_of, is_valid, IsCheapestTaking}
use Rattle.pc_diagram.proofs.CheaperOrder.{is_cheaper_word_order}
use Rattle.pc_diagram.proofs.FirstBest.{first_best-found, IsFirstUnbeaten-member, IsFirstUnbeaten-all, is_some-first_best-filter}

-- a member of a filtered list is a member, and passes
filter-member : {X : Type 0} (p : X → Bool) (xs : List X) (x : X) → Contains (filter p xs) x → Contains xs x × (p x ≡ true)
filter-member p xs x h =
    (All-contains (Contains xs) (filter p xs) x (All-filter p (Contains xs) xs (All-contains_itself xs)) h, All-contains (λ y. p y ≡ true) (filter p xs) x (filter_passes p xs) h)

-- what holds of each that is kept holds of each that passes
All-from_filter : {X : Type 0} (p : X → Bool) (P : X → Type 0) (xs : List X) → All P (filter p xs) → All (λ x. p x ≡ true → P x) xs
All-from_filter p P [] h = All-nil (λ x. p x ≡ true → P x)
All-from_filter {X} p P (x ∷ xs) h =
    let Q : X → Type 0 = λ y. p y ≡ true → P y in
    (elim (p x) as (λ b. p x ≡ b → All P (cond b (x ∷ filter p xs) (filter p xs)) → All Q (x ∷ xs)) [
      | true ↦ λ e k. All-cons Q x xs (λ _. All-head P x (filter p xs) k) (All-from_filter p P xs (All-tail P x (filter p xs) k))
      | false ↦ λ e k. All-cons Q x xs (λ t. absurd (both_ways (p x) e t)) (All-from_filter p P xs k)
    ]) refl h

module _ (costs : List (List CostPair)) (words : List (List ℕ)) (choices : List Choice) (bounds : Bounds) (variable : ℕ) where
  -- the best of the fitting words that take a value
  best-is_cheapest_taking : (value : ℕ) (word : List ℕ) → best costs (taking (fitting costs words choices bounds) variable value) ≡ Some word → IsCheapestTaking costs words choices bounds variable (listed costs value word)
  best-is_cheapest_taking value word e =
      let does : List ℕ → Bool = λ w. takes w variable value in
      let fit : List ℕ → Bool = λ w. fits costs w choices bounds in
      let order = is_cheaper_word_order costs in
      let beats = is_cheaper_word costs in
      let found = first_best-found beats order (filter does (filter fit words)) word e in
      let here = filter-member does (filter fit words) word (IsFirstUnbeaten-member beats order (filter does (filter fit words)) word found) in
      let there = filter-member fit words word here.0 in
      let least = IsFirstUnbeaten-all beats order (filter does (filter fit words)) word found in
      record {
        is_word = there.0;
        does_fit = there.1;
        takes_value = here.1;
        first_is = refl;
        second_is = refl;
        none_cheaper = All-from_filter fit (λ other. does other ≡ true → beats other word ≡ false) words (All-from_filter does (λ other. beats other word ≡ false) (filter fit words) least);
      }

  items-are_cheapest : (values : List ℕ) → All (IsCheapestTaking costs words choices bounds variable) (filter_map (item costs (fitting costs words choices bounds) variable) values)
  items-are_cheapest [] = All-nil (IsCheapestTaking costs words choices bounds variable)
  items-are_cheapest (value ∷ values) =
      one_more (best costs (taking (fitting costs words choices bounds) variable value)) refl (items-are_cheapest values)
    where
      one_more : (found : Option (List ℕ)) → best costs (taking (fitting costs words choices bounds) variable value) ≡ found → All (IsCheapestTaking costs words choices bounds variable) (filter_map (item costs (fitting costs words choices bounds) variable) values) → All (IsCheapestTaking costs words choices bounds variable) (cons_option (option_map (listed costs value) found) (filter_map (item costs (fitting costs words choices bounds) variable) values))
      one_more None e rest = rest
      one_more (Some word) e rest =
          All-cons (IsCheapestTaking costs words choices bounds variable) (listed costs value word) (filter_map (item costs (fitting costs words choices bounds) variable) values) (best-is_cheapest_taking value word e) rest

  items-values : (values : List ℕ) → map (λ x. x.value) (filter_map (item costs (fitting costs words choices bounds) variable) values) ≡ filter (is_valid costs words choices bounds variable) values
  items-values [] = refl
  items-values (value ∷ values) =
      let fit = fitting costs words choices bounds in
      let found = best costs (taking fit variable value) in
      one_more found ∙ ap (λ b. cond b (value ∷ map (λ (x : Listed). x.value) rest) (map (λ (x : Listed). x.value) rest)) (is_some-first_best-filter (is_cheaper_word costs) (λ w. takes w variable value) fit) ∙ ap (λ vs. cond (is_valid costs words choices bounds variable value) (value ∷ vs) vs) (items-values values)
    where
      rest : List Listed
      rest = filter_map (item costs (fitting costs words choices bounds) variable) values

      one_more : (found : Option (List ℕ)) → map (λ x. x.value) (cons_option (option_map (listed costs value) found) rest) ≡ cond (is_some found) (value ∷ map (λ x. x.value) rest) (map (λ x. x.value) rest)
      one_more None = refl
      one_more (Some word) = refl

  listing_of-is : variable < length costs → listing_of costs words choices bounds variable ≡ items costs (fitting costs words choices bounds) variable
  listing_of-is inside =
      get_or-map-range_with_len (items costs (fitting costs words choices bounds)) 0 (length costs) variable variable [] inside (omega arith)

  pub listing_of-values : variable < length costs → map (λ x. x.value) (listing_of costs words choices bounds variable) ≡ filter (is_valid costs words choices bounds variable) (range_with_len 0 (value_count costs variable))
  listing_of-values inside =
      ap (map (λ (x : Listed). x.value)) (listing_of-is inside) ∙ items-values (range_with_len 0 (value_count costs variable))

  pub listing_of-are_cheapest : variable < length costs → All (IsCheapestTaking costs words choices bounds variable) (listing_of costs words choices bounds variable)
  listing_of-are_cheapest inside =
      subst (All (IsCheapestTaking costs words choices bounds variable)) (sym (listing_of-is inside)) (items-are_cheapest (range_with_len 0 (value_count costs variable)))

pub length-listing : (costs : List (List CostPair)) (words : List (List ℕ)) (choices : List Choice) (bounds : Bounds) → length (listing costs words choices bounds) ≡ length costs
length-listing costs words choices bounds =
    length-map-range_with_len (items costs (fitting costs words choices bounds)) 0 (length costs)
