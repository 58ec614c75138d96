-- What priced words give is what the words themselves give.
use Rattle.std.proofs.Common.{◌≡◌, ℕ, ◌+◌, ◌<◌, List, [], ◌∷◌, ◌++◌, length, take, get_or, map, All, IfSome, Option, Some, None, option_map, filter, filter_map, true, false, cond, refl, sym, ◌∙◌, ap, arith}
use Rattle.std.specs.List.{range_with_len}
use Rattle.std.specs.Option.{option_to_list}
use Rattle.std.proofs.lemmas.Bool.{cond_both}
use Rattle.std.proofs.lemmas.List.{map-id, append-nil}
use Rattle.std.proofs.lemmas.List.Elements.{All-head, All-tail, All-filter, filter_map-append, filter_more}
use Rattle.std.proofs.lemmas.List.FromFn.{map-range_with_len_more}
use Rattle.pc_diagram.specs.declared.bounds.Bounds.{Bounds}
use Rattle.pc_diagram.specs.declared.choice.Choice.{Choice}
use Rattle.pc_diagram.specs.declared.costs.CostPair.{CostPair}
use Rattle.pc_diagram.specs.declared.listed.Listed.{Listed}
use Rattle.pc_diagram.specs.declared.priced.Priced.{Priced}
use Rattle.pc_diagram.specs.Best.{earlier_unless, is_cheaper_word, best}
use Rattle.pc_diagram.specs.Fitting.{fitting}
use Rattle.pc_diagram.specs.Listing.{taking, listed, item, value_count, items, listing}
use Rattle.pc_diagram.proofs.CheaperOrder.{is_cheaper_priced_order}
use Rattle.pc_diagram.proofs.FirstBest.{first_best-push}
use Rattle.pc_diagram.specs.Priced.{word_at, takes_at, IsPriceOf, is_cheaper_priced, cheapest, taking_places, listed_at, priced_item, priced_items, priced_listing}

module _ (costs : List (List CostPair)) (words : List (List ℕ)) where
  -- the test of two prices is that of their words
  is_cheaper-word_at : (p q : Priced) → IsPriceOf costs words p → IsPriceOf costs words q → is_cheaper_priced p q ≡ is_cheaper_word costs (word_at words p) (word_at words q)
  is_cheaper-word_at p q h k = rw (h.costs_are, k.costs_are)

  -- so the choice between two is the same
  pub earlier_unless-word_at : (p q : Option Priced) → IfSome p (IsPriceOf costs words) → IfSome q (IsPriceOf costs words)
      → (option_map (word_at words) (earlier_unless is_cheaper_priced p q) ≡ earlier_unless (is_cheaper_word costs) (option_map (word_at words) p) (option_map (word_at words) q)) × IfSome (earlier_unless is_cheaper_priced p q) (IsPriceOf costs words)
  earlier_unless-word_at None q h k = (refl, k)
  earlier_unless-word_at (Some p) None h k = (refl, h)
  earlier_unless-word_at (Some p) (Some q) h k =
      let same = is_cheaper-word_at q p k h in
      elim (is_cheaper_priced q p) as (λ b. b ≡ is_cheaper_word costs (word_at words q) (word_at words p) → (option_map (word_at words) (cond b (Some q) (Some p)) ≡ cond (is_cheaper_word costs (word_at words q) (word_at words p)) (Some (word_at words q)) (Some (word_at words p))) × IfSome (cond b (Some q) (Some p)) (IsPriceOf costs words))
      [ true ↦ λ e. (rw (← e), k) | false ↦ λ e. (rw (← e), h) ] same

  -- and so is the best
  pub cheapest-word_at : (ps : List Priced) → All (IsPriceOf costs words) ps → (option_map (word_at words) (cheapest ps) ≡ best costs (map (word_at words) ps)) × IfSome (cheapest ps) (IsPriceOf costs words)
  cheapest-word_at [] h = (refl, tt)
  cheapest-word_at (p ∷ ps) h =
      let rest = cheapest-word_at ps (All-tail (IsPriceOf costs words) p ps h) in
      let both = earlier_unless-word_at (Some p) (cheapest ps) (All-head (IsPriceOf costs words) p ps h) rest.1 in
      (both.0 ∙ ap (earlier_unless (is_cheaper_word costs) (Some (word_at words p))) rest.0, both.1)

  filter-word_at : (variable value : ℕ) (ps : List Priced) → taking (map (word_at words) ps) variable value ≡ map (word_at words) (taking_places words ps variable value)
  filter-word_at variable value [] = refl
  filter-word_at variable value (p ∷ ps) =
      let rest = filter-word_at variable value ps in
      elim (takes_at words variable value p) as (λ b. cond b (word_at words p ∷ taking (map (word_at words) ps) variable value) (taking (map (word_at words) ps) variable value) ≡ map (word_at words) (cond b (p ∷ taking_places words ps variable value) (taking_places words ps variable value)))
      [ true ↦ ap (λ ws. word_at words p ∷ ws) rest | false ↦ rest ]

  listed-word_at : (value : ℕ) (p : Option Priced) → IfSome p (IsPriceOf costs words) → option_map (listed_at words value) p ≡ option_map (listed costs value) (option_map (word_at words) p)
  listed-word_at value None h = refl
  listed-word_at value (Some p) h =
      ap (λ pair. Some (record { value = value; first = pair.first; second = pair.second; word = word_at words p })) h.costs_are

  priced_item-is : (ps : List Priced) (variable : ℕ) → All (IsPriceOf costs words) ps → (value : ℕ) → priced_item words ps variable value ≡ item costs (map (word_at words) ps) variable value
  priced_item-is ps variable h value =
      let qs = taking_places words ps variable value in
      let found = cheapest-word_at qs (All-filter (takes_at words variable value) (IsPriceOf costs words) ps h) in
      listed-word_at value (cheapest qs) found.1 ∙ ap (option_map (listed costs value)) (found.0 ∙ ap (best costs) (sym (filter-word_at variable value ps)))

  priced_items-is : (ps : List Priced) (variable : ℕ) → All (IsPriceOf costs words) ps → priced_items words ps variable (value_count costs variable) ≡ items costs (map (word_at words) ps) variable
  priced_items-is ps variable h =
      λ i. filter_map (λ value. priced_item-is ps variable h value i) (range_with_len 0 (value_count costs variable))

  -- the listing of priced words is that of the words
  pub priced_listing-is : (ps : List Priced) → All (IsPriceOf costs words) ps → priced_listing costs words ps ≡ map (items costs (map (word_at words) ps)) (range_with_len 0 (length costs))
  priced_listing-is ps h = λ i. map (λ variable. priced_items-is ps variable h i) (range_with_len 0 (length costs))

-- one value more
range-more : (n : ℕ) → range_with_len 0 (n + 1) ≡ range_with_len 0 n ++ n ∷ []
range-more n =
    sym (map-id (range_with_len 0 (n + 1))) ∙ map-range_with_len_more (λ k. k) 0 n n (omega arith) ∙ ap (λ r. r ++ n ∷ []) (map-id (range_with_len 0 n))

pub priced_items-more : (words : List (List ℕ)) (ps : List Priced) (variable n : ℕ) → priced_items words ps variable (n + 1) ≡ priced_items words ps variable n ++ option_to_list (priced_item words ps variable n)
priced_items-more words ps variable n =
    let h = priced_item words ps variable in
    ap (filter_map h) (range-more n) ∙ filter_map-append h (range_with_len 0 n) (n ∷ []) ∙ ap (λ r. filter_map h (range_with_len 0 n) ++ r) (last_of (h n))
  where
    last_of : (o : Option Listed) → filter_map (λ (k : ℕ). o) (0 ∷ []) ≡ option_to_list o
    last_of None = refl
    last_of (Some x) = refl

pub priced_items-more_some : (words : List (List ℕ)) (ps : List Priced) (variable n : ℕ) (x : Listed) → priced_item words ps variable n ≡ Some x → priced_items words ps variable (n + 1) ≡ priced_items words ps variable n ++ x ∷ []
priced_items-more_some words ps variable n x e =
    priced_items-more words ps variable n ∙ ap (λ o. priced_items words ps variable n ++ option_to_list o) e

pub priced_items-more_none : (words : List (List ℕ)) (ps : List Priced) (variable n : ℕ) → priced_item words ps variable n ≡ None → priced_items words ps variable (n + 1) ≡ priced_items words ps variable n
priced_items-more_none words ps variable n e =
    priced_items-more words ps variable n ∙ ap (λ o. priced_items words ps variable n ++ option_to_list o) e ∙ append-nil (priced_items words ps variable n)

-- one priced word more, which takes the value or not
module _ (words : List (List ℕ)) (ps : List Priced) (variable value i : ℕ) (d : Priced) (inside : i < length ps) where
  pub cheapest-more_taking : takes_at words variable value (get_or ps i d) ≡ true → cheapest (taking_places words (take (i + 1) ps) variable value) ≡ earlier_unless is_cheaper_priced (cheapest (taking_places words (take i ps) variable value)) (Some (get_or ps i d))
  cheapest-more_taking e =
      let p = takes_at words variable value in
      ap cheapest (filter_more p ps i d inside ∙ ap (λ b. filter p (take i ps) ++ cond b (get_or ps i d ∷ []) []) e) ∙ first_best-push is_cheaper_priced is_cheaper_priced_order (filter p (take i ps)) (get_or ps i d)

  pub cheapest-more_other : takes_at words variable value (get_or ps i d) ≡ false → cheapest (taking_places words (take (i + 1) ps) variable value) ≡ cheapest (taking_places words (take i ps) variable value)
  cheapest-more_other e =
      let p = takes_at words variable value in
      ap cheapest (filter_more p ps i d inside ∙ ap (λ b. filter p (take i ps) ++ cond b (get_or ps i d ∷ []) []) e ∙ append-nil (filter p (take i ps)))

-- what holds of both holds of the one that is chosen
pub earlier_unless_either : (P : Priced → Type 0) (best : Option Priced) (next : Priced) → IfSome best P → P next → IfSome (earlier_unless is_cheaper_priced best (Some next)) P
earlier_unless_either P None next h k = k
earlier_unless_either P (Some best) next h k =
    cond_both (is_cheaper_priced next best) (Some next) (Some best) (λ o. IfSome o P) (λ _. k) (λ _. h)

-- where the priced words are the fitting words, their listing is the listing
pub listing_from_priced : (costs : List (List CostPair)) (words : List (List ℕ)) (choices : List Choice) (bounds : Bounds) (ps : List Priced) → map (word_at words) ps ≡ fitting costs words choices bounds → All (IsPriceOf costs words) ps → priced_listing costs words ps ≡ listing costs words choices bounds
listing_from_priced costs words choices bounds ps same prices =
    priced_listing-is costs words ps prices ∙ ap (λ ws. map (items costs ws) (range_with_len 0 (length costs))) same
