-- Whether some word fits, by what is kept of the root.
use Rattle.std.proofs.Common.{◌≡◌, ℕ, suc, ◌<◌, nat_eq, Bool, true, false, ◌&&◌, ◌||◌, List, [], ◌∷◌, filter, length, All, Option, Some, IsTrue, Contains, refl, sym, ap, ◌∙◌, arith}
use Rattle.std.specs.Cmp.Lexicographic.{pointwise}
use Rattle.std.specs.List.{list_any}
use Rattle.std.proofs.lemmas.Bool.{both_ways}
use Rattle.std.proofs.lemmas.List.Elements.{All-weaker}
use Rattle.std.proofs.lemmas.List.Folds.{list_any_at}
use Rattle.std.proofs.lemmas.Slice.Eq.{bytes_eq-Decides}
use Rattle.pc_diagram.specs.declared.bounds.Bounds.{Bounds}
use Rattle.pc_diagram.specs.declared.choice.Choice.{Choice}
use Rattle.pc_diagram.specs.declared.costs.CostPair.{CostPair}
use Rattle.pc_diagram.specs.declared.raw_diagram.RawDiagram.{RawDiagram}
use Rattle.pc_diagram.specs.Bounds.{allows_pair}
use Rattle.pc_diagram.specs.Choices.{are_distinct}
use Rattle.pc_diagram.specs.Costs.{cost_pair}
use Rattle.pc_diagram.specs.Fitting.{fits, fitting, within}
use Rattle.pc_diagram.specs.NodePaths.{AreChoicesOf, IsChoiceOf, agrees, is_tail}
use Rattle.pc_diagram.specs.Paths.{has_word, words}
use Rattle.pc_diagram.specs.Words.{all_words, is_word}
use Rattle.pc_diagram.proofs.PathLemmas.{length-word}
use Rattle.pc_diagram.proofs.ShapeLemmas.{both, together}
use Rattle.pc_diagram.proofs.TurnLemmas.{filter-filter}
use Rattle.pc_diagram.proofs.WordLemmas.{kept_words-is}
use Rattle.pc_domains.specs.Ways.{Keeps, Kept}
use Rattle.pc_domains.proofs.AgreeLemmas.{extends_agrees}
use Rattle.pc_domains.proofs.WayLemmas.{AddsUp, IsDownward}

-- a kept path that is allowed, and costs no more than this
pub record Covering (no_more : CostPair → CostPair → Type 0) (allows : CostPair → Bool) (kept : ℕ → Option Kept) (pair : CostPair) : Type 0 where
  pub place : ℕ
  pub path : Kept
  pub is : kept place ≡ Some path
  pub no_dearer : no_more path.pair pair
  pub allowed : allows path.pair ≡ true

module _ (raw : RawDiagram) (costs : List (List CostPair)) (choices : List Choice) (bounds : Bounds) (distinct : IsTrue (are_distinct choices)) (choices_of : AreChoicesOf raw.domains choices) where
  abbrev fitting_word : List ℕ → Bool
  fitting_word word = has_word raw word && fits costs word choices bounds

  fitting_words : fitting costs (words raw) choices bounds ≡ filter fitting_word (all_words raw.domains)
  fitting_words = filter-filter (λ word. fits costs word choices bounds) (has_word raw) fitting_word (λ word. refl) (all_words raw.domains)

  shuffled : (h e b : Bool) → (h && (e && b)) ≡ ((h && e) && b)
  shuffled true e b = refl
  shuffled false e b = refl

  -- of the words over the domains, those that fit are the tails of the root within the bounds
  root_tail : (word : List ℕ) → is_word raw.domains word ≡ true → fitting_word word ≡ (is_tail raw choices 0 0 word && within costs word bounds)
  root_tail word over =
      let long = length-word raw.domains word over in
      let inside : All (λ c. c.variable < length word) choices = All-weaker (IsChoiceOf raw.domains) (λ (c : Choice). c.variable < length word) (λ c is. omega (arith, is.0)) choices choices_of in
      ap (λ t. has_word raw word && (t && within costs word bounds)) (extends_agrees choices word distinct inside)
      ∙ shuffled (has_word raw word) (agrees choices 0 word) (within costs word bounds)

  among : (word : List ℕ) → list_any (pointwise nat_eq word) (fitting costs (words raw) choices bounds) ≡ (fitting_word word && is_word raw.domains word)
  among word = ap (list_any (pointwise nat_eq word)) fitting_words ∙ kept_words-is fitting_word raw.domains word

  module _ (no_more : CostPair → CostPair → Type 0) (order : AddsUp no_more) (downward : IsDownward no_more (allows_pair bounds)) (kept : ℕ → ℕ → Option Kept) (keeps : Keeps no_more costs (is_tail raw choices 0) raw.domains 1 kept) where
    is_among : (place : ℕ) (k : Kept) → kept 0 place ≡ Some k → allows_pair bounds k.pair ≡ true → list_any (pointwise nat_eq k.path) (fitting costs (words raw) choices bounds) ≡ true
    is_among place k is allowed =
        let over = keeps.over 0 place (omega arith) k is in
        let inside : within costs k.path bounds ≡ true = ap (allows_pair bounds) (sym (keeps.priced 0 place (omega arith) k is)) ∙ allowed in
        among k.path
        ∙ together (fitting_word k.path) (is_word raw.domains k.path)
        (root_tail k.path over ∙ together (is_tail raw choices 0 0 k.path) (within costs k.path bounds) (keeps.is_path 0 place (omega arith) k is) inside) over

    member : (word : List ℕ) (all : List (List ℕ)) → list_any (pointwise nat_eq word) all ≡ true → Contains all word
    member word [] h = absurd cc
    member word (other ∷ all) h = by (pointwise nat_eq word other) refl h (member word all)
      where
        by : (b : Bool) → pointwise nat_eq word other ≡ b → (b || list_any (pointwise nat_eq word) all) ≡ true → (list_any (pointwise nat_eq word) all ≡ true → Contains all word) → Contains (other ∷ all) word
        by true e k rest = (0, omega arith, sym ((bytes_eq-Decides word other).0 e))
        by false e k rest = let its = rest k in (suc its.0, omega (arith, its.1), its.2)

    -- where the bounds allow a kept path of the root, its word fits
    pub root_fits : (place : ℕ) (k : Kept) → kept 0 place ≡ Some k → allows_pair bounds k.pair ≡ true → Contains (fitting costs (words raw) choices bounds) k.path
    root_fits place k is allowed = member k.path (fitting costs (words raw) choices bounds) (is_among place k is allowed)

    -- a word that fits is covered by a kept path of the root that the bounds allow
    pub covered : (word : List ℕ) → Contains (fitting costs (words raw) choices bounds) word → Covering no_more (allows_pair bounds) (kept 0) (cost_pair costs word)
    covered word its =
        let found : list_any (pointwise nat_eq word) (fitting costs (words raw) choices bounds) ≡ true = list_any_at (pointwise nat_eq word) (fitting costs (words raw) choices bounds) its.0 word its.1 (ap (pointwise nat_eq word) its.2 ∙ (bytes_eq-Decides word word).1 refl) in
        let one = both (fitting_word word) (is_word raw.domains word) (sym (among word) ∙ found) in
        let two = both (is_tail raw choices 0 0 word) (within costs word bounds) (sym (root_tail word one.1) ∙ one.0) in
        let by = keeps.covers 0 (omega arith) word one.1 two.0 in
        record { place = by.place; path = by.path; is = by.is; no_dearer = by.no_dearer; allowed = downward by.path.pair (cost_pair costs word) by.no_dearer two.1 }

    no_word : ((place : ℕ) (k : Kept) → kept 0 place ≡ Some k → allows_pair bounds k.pair ≡ false) → (word : List ℕ) → is_word raw.domains word ≡ true → fitting_word word ≡ false
    no_word none word over = by (fitting_word word) refl
      where
        by : (b : Bool) → fitting_word word ≡ b → b ≡ false
        by false e = refl
        by true e =
            let two = both (is_tail raw choices 0 0 word) (within costs word bounds) (sym (root_tail word over) ∙ e) in
            let its = keeps.covers 0 (omega arith) word over two.0 in
            absurd (both_ways (allows_pair bounds its.path.pair) (none its.place its.path its.is) (downward its.path.pair (cost_pair costs word) its.no_dearer two.1))

    no_member : (all : List (List ℕ)) → ((word : List ℕ) → list_any (pointwise nat_eq word) all ≡ false) → all ≡ []
    no_member [] none = refl
    no_member (word ∷ all) none = absurd (both_ways (list_any (pointwise nat_eq word) (word ∷ all)) (none word) (same_first word all))
      where
        same_first : (w : List ℕ) (ws : List (List ℕ)) → list_any (pointwise nat_eq w) (w ∷ ws) ≡ true
        same_first w ws = ap (λ b. b || list_any (pointwise nat_eq w) ws) ((bytes_eq-Decides w w).1 refl)

    -- where they allow none, no word fits
    pub none_fits : ((place : ℕ) (k : Kept) → kept 0 place ≡ Some k → allows_pair bounds k.pair ≡ false) → fitting costs (words raw) choices bounds ≡ []
    none_fits none = no_member (fitting costs (words raw) choices bounds) each
      where
        each : (word : List ℕ) → list_any (pointwise nat_eq word) (fitting costs (words raw) choices bounds) ≡ false
        each word = among word ∙ by (is_word raw.domains word) refl
          where
            by : (b : Bool) → is_word raw.domains word ≡ b → (fitting_word word && b) ≡ false
            by false e = moved (fitting_word word)
              where
                moved : (b : Bool) → (b && false) ≡ false
                moved true = refl
                moved false = refl
            by true e = ap (λ b. b && true) (no_word none word e)
