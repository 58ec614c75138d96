-- What is listed of a value, by the least word that takes it.
use Rattle.std.proofs.Common.{◌≡◌, ℕ, ◌<◌, Bool, true, false, ◌&&◌, List, length, filter, All, Some, None, option_map, IsTrue, refl, sym, ap, ◌∙◌, arith}
use Rattle.std.proofs.lemmas.List.Elements.{All-weaker}
use Rattle.pc_diagram.specs.declared.bounds.Bounds.{Bounds}
use Rattle.pc_diagram.specs.declared.choice.Choice.{Choice}
use Rattle.pc_diagram.specs.declared.costs.CostPair.{CostPair}
use Rattle.pc_diagram.specs.declared.raw_diagram.RawDiagram.{RawDiagram}
use Rattle.pc_diagram.specs.Best.{best}
use Rattle.pc_diagram.specs.Choices.{are_distinct}
use Rattle.pc_diagram.specs.Fitting.{fits, fitting, takes, within}
use Rattle.pc_diagram.specs.Listing.{item, listed, taking}
use Rattle.pc_diagram.specs.NodePaths.{AreChoicesOf, IsChoiceOf, IsLeast, agrees}
use Rattle.pc_diagram.specs.Paths.{has_word, words}
use Rattle.pc_diagram.specs.Words.{all_words, is_word}
use Rattle.pc_diagram.proofs.LeastWords.{least-best, none-best}
use Rattle.pc_diagram.proofs.PathLemmas.{length-word}
use Rattle.pc_diagram.proofs.TurnLemmas.{filter-filter}
use Rattle.pc_domains.proofs.AgreeLemmas.{extends_agrees}
use Rattle.pc_domains.proofs.ThroughLemmas.{is_open}

module _ (raw : RawDiagram) (choices : List Choice) (costs : List (List CostPair)) (bounds : Bounds) (distinct : IsTrue (are_distinct choices)) (in_range : AreChoicesOf raw.domains choices) (variable value : ℕ) where
  -- the words of the diagram that fit and take the value, and those that are open and take it
  abbrev fitting_ones : List ℕ → Bool
  fitting_ones word = (has_word raw word && fits costs word choices bounds) && takes word variable value

  abbrev open_ones : List ℕ → Bool
  open_ones word = is_open raw choices word && takes word variable value

  kept_ones : taking (fitting costs (words raw) choices bounds) variable value ≡ filter fitting_ones (all_words raw.domains)
  kept_ones =
      ap (filter (λ word. takes word variable value)) (filter-filter (λ word. fits costs word choices bounds) (has_word raw) (λ word. has_word raw word && fits costs word choices bounds) (λ word. refl) (all_words raw.domains))
      ∙ filter-filter (λ word. takes word variable value) (λ word. has_word raw word && fits costs word choices bounds) fitting_ones (λ word. refl) (all_words raw.domains)

  shuffled : (h e b t : Bool) → ((h && (e && b)) && t) ≡ (((h && e) && t) && b)
  shuffled true true true true = refl
  shuffled true true true false = refl
  shuffled true true false true = refl
  shuffled true true false false = refl
  shuffled true false b true = refl
  shuffled true false b false = refl
  shuffled false e b t = refl

  -- of the words over the domains, those that fit are the open ones within the bounds
  fits_are : (word : List ℕ) → is_word raw.domains word ≡ true → fitting_ones word ≡ (open_ones word && within costs word bounds)
  fits_are word over =
      let long = length-word raw.domains word over in
      let inside : All (λ c. c.variable < length word) choices = All-weaker (IsChoiceOf raw.domains) (λ (c : Choice). c.variable < length word) (λ c is. omega (arith, is.0)) choices in_range in
      ap (λ t. (has_word raw word && (t && within costs word bounds)) && takes word variable value) (extends_agrees choices word distinct inside)
      ∙ shuffled (has_word raw word) (agrees choices 0 word) (within costs word bounds) (takes word variable value)

  -- the least open word within the bounds is the one that is listed
  pub listed_least : (word : List ℕ) → IsLeast costs (λ w. open_ones w && within costs w bounds) raw.domains word → item costs (fitting costs (words raw) choices bounds) variable value ≡ Some (listed costs value word)
  listed_least word least =
      let fitting_least : IsLeast costs fitting_ones raw.domains word = record {
        over = least.over;
        passes = fits_are word least.over ∙ least.passes;
        unbeaten = λ other over passes. least.unbeaten other over (sym (fits_are other over) ∙ passes);
        first = λ other over passes. least.first other over (sym (fits_are other over) ∙ passes);
      } in
      ap (λ ws. option_map (listed costs value) (best costs ws)) kept_ones ∙ ap (option_map (listed costs value)) (least-best costs fitting_ones raw.domains word fitting_least)

  -- where no open word is within the bounds, none is listed
  pub none_listed : ((word : List ℕ) → is_word raw.domains word ≡ true → (open_ones word && within costs word bounds) ≡ false) → item costs (fitting costs (words raw) choices bounds) variable value ≡ None
  none_listed none =
      ap (λ ws. option_map (listed costs value) (best costs ws)) kept_ones
      ∙ ap (option_map (listed costs value)) (none-best costs fitting_ones raw.domains (λ word over. fits_are word over ∙ none word over))
