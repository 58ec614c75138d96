-- The fronts of a diagram's nodes are those of the classes of its words' beginnings.
use Rattle.std.proofs.Common.{◌≡◌, ℕ, zero, suc, ◌+◌, ◌-◌, ◌<◌, ◌≤◌, nat_eq, Bool, true, false, ◌&&◌, ◌||◌, cond, List, [], ◌∷◌, length, map, filter, take, drop, get_or, sum, sum_by, Some, refl, sym, ap, ◌∙◌, arith}
use Rattle.std.specs.Cmp.Lexicographic.{pointwise}
use Rattle.std.specs.List.{list_any, range_with_len}
use Rattle.std.proofs.lemmas.List.Sums.{sum-map}
use Rattle.std.proofs.lemmas.Slice.Eq.{bytes_eq-Decides}
use Rattle.pc_diagram.specs.declared.choice.Choice.{Choice}
use Rattle.pc_diagram.specs.declared.costs.CostPair.{CostPair}
use Rattle.pc_diagram.specs.declared.raw_diagram.RawDiagram.{RawDiagram}
use Rattle.pc_diagram.specs.declared.side.Side.{Side}
use Rattle.pc_diagram.specs.declared.side.Side.TheVariants.{Heads, Tails}
use Rattle.pc_diagram.specs.Diagram.{IsCanonical}
use Rattle.pc_diagram.specs.Fitting.{is_number}
use Rattle.pc_diagram.specs.Levels.{levels}
use Rattle.pc_diagram.specs.NodePaths.{agrees, is_head, is_tail, leads_to}
use Rattle.pc_diagram.specs.Paths.{accepts, has_word}
use Rattle.pc_diagram.specs.Rests.{classes, rest, same_words}
use Rattle.pc_diagram.specs.Words.{all_words, is_word}
use Rattle.pc_diagram.proofs.CountLemmas.{layer_class, layer_classes, node_words}
use Rattle.pc_diagram.proofs.TurnLemmas.{filter-filter}
use Rattle.pc_diagram.proofs.WordLemmas.{all_words-is}
use Rattle.pc_pareto.specs.Front.{front}
use Rattle.pc_pareto.specs.Fronts.{first_past, front_of_node, layer_at, layer_size, limit_at, pair_of_word, words_of}
use Rattle.pc_pareto.specs.WordFronts.{class_size, class_words, length_size, word_limit_at}

-- tests that agree on the members of a list keep the same of them
filter_among : (p q : List ℕ → Bool) (words : List (List ℕ)) → ((word : List ℕ) → list_any (pointwise nat_eq word) words ≡ true → p word ≡ q word) → filter p words ≡ filter q words
filter_among p q [] h = refl
filter_among p q (word ∷ words) h =
    ap (λ b. cond b (word ∷ filter p words) (filter p words)) (h word (ap (λ b. b || list_any (pointwise nat_eq word) words) ((bytes_eq-Decides word word).1 refl)))
    ∙ ap (λ l. cond (q word) (word ∷ l) l) (filter_among p q words (λ other among. h other (later (pointwise nat_eq other word) among)))
  where
    later : (b : Bool) → {c : Bool} → c ≡ true → (b || c) ≡ true
    later true e = refl
    later false e = e

map_range : {X : Type 0} (f g : ℕ → X) (a n : ℕ) → ((k : ℕ) → a ≤ k → k < a + n → f k ≡ g k) → map f (range_with_len a n) ≡ map g (range_with_len a n)
map_range f g a zero h = refl
map_range f g a (suc n) h = ap (λ x. x ∷ map f (range_with_len (a + 1) n)) (h a (omega arith) (omega arith)) ∙ ap (λ l. g a ∷ l) (map_range f g (a + 1) n (λ k ge lt. h k (omega arith) (omega arith)))

map_twice : {X Y Z : Type 0} (f : Y → Z) (g : X → Y) (xs : List X) → map f (map g xs) ≡ map (λ x. f (g x)) xs
map_twice f g [] = refl
map_twice f g (x ∷ xs) = ap (λ l. f (g x) ∷ l) (map_twice f g xs)

module _ (raw : RawDiagram) (canonical : IsCanonical raw) (costs : List (List CostPair)) (choices : List Choice) where
  -- the words of a node are those of its class
  class_of_node : (side : Side) (layer node : ℕ) → layer ≤ length raw.domains → node < get_or raw.sizes layer 0
      → class_words side (has_word raw) raw.domains choices layer (node_words raw layer node) ≡ words_of side raw choices layer node
  class_of_node Heads layer node le lt =
      filter_among (λ beginning. same_words (rest (has_word raw) (drop layer raw.domains) beginning) (node_words raw layer node) && agrees choices 0 beginning) (is_head raw choices layer node) (all_words (take layer raw.domains))
      (λ word among. ap (λ b. b && agrees choices 0 word) (layer_class raw canonical layer le word node (sym (all_words-is (take layer raw.domains) word) ∙ among) lt))
  class_of_node Tails layer node le lt =
      filter-filter (agrees choices layer) (accepts (drop layer (levels raw)) (Some node)) (is_tail raw choices layer node) (λ word. refl) (all_words (drop layer raw.domains))

  pub layer_sizes : (side : Side) (layer : ℕ) → layer ≤ length raw.domains → length_size side (has_word raw) raw.domains costs choices layer ≡ layer_size side raw costs choices layer
  layer_sizes side layer le =
      let size = class_size side (has_word raw) raw.domains costs choices layer in
      let nodes = range_with_len 0 (get_or raw.sizes layer 0) in
      sum-map size (classes (has_word raw) (take layer raw.domains) (drop layer raw.domains))
      ∙ layer_classes raw canonical layer le size
      ∙ sym (sum-map size (map (node_words raw layer) nodes))
      ∙ ap sum (map_twice size (node_words raw layer) nodes
      ∙ map_range (λ node. size (node_words raw layer node)) (λ node. length (front_of_node side raw costs choices layer node)) 0 (get_or raw.sizes layer 0)
      (λ node ge lt. ap (λ words. length (front (map (pair_of_word side costs layer) words))) (class_of_node side layer node le (omega (arith, lt)))))

  inside : (side : Side) (distance : ℕ) → distance ≤ length raw.domains → layer_at side (length raw.domains) distance ≤ length raw.domains
  inside Heads distance le = le
  inside Tails distance le = omega arith

  -- and so is where they have too many pairs
  pub limits_agree : (most : ℕ) (side : Side) → word_limit_at most side (has_word raw) raw.domains costs choices ≡ limit_at most side raw costs choices
  limits_agree most side =
      ap (first_past most) (map_range (λ distance. length_size side (has_word raw) raw.domains costs choices (layer_at side (length raw.domains) distance)) (λ distance. layer_size side raw costs choices (layer_at side (length raw.domains) distance)) 0 (length raw.domains + 1)
      (λ distance ge lt. layer_sizes side (layer_at side (length raw.domains) distance) (inside side distance (omega (arith, lt)))))
