-- The fronts of a set of words, by the classes of its words' beginnings, and where they have too many pairs: said without a
-- diagram.
use Rattle.std.specs.Prelude.{ℕ, ◌+◌, Bool, ◌&&◌, List, length, map, filter, take, drop, sum, Option}
use Rattle.std.specs.List.{range_with_len}
use Rattle.pc_diagram.specs.declared.choice.Choice.{Choice}
use Rattle.pc_diagram.specs.declared.costs.CostPair.{CostPair}
use Rattle.pc_diagram.specs.declared.side.Side.{Side}
use Rattle.pc_diagram.specs.declared.side.Side.TheVariants.{Heads, Tails}
use Rattle.pc_diagram.specs.NodePaths.{agrees}
use Rattle.pc_diagram.specs.Rests.{classes, rest, same_words}
use Rattle.pc_diagram.specs.Words.{all_words}
use Rattle.pc_pareto.specs.Front.{front}
use Rattle.pc_pareto.specs.Fronts.{first_past, layer_at, pair_of_word}

-- the words of a class of beginnings of a length that agree with the choices: these beginnings, or what they go on with
abbrev pub class_words : Side → (List ℕ → Bool) → List ℕ → List Choice → ℕ → List (List ℕ) → List (List ℕ)
class_words Heads set domains choices count class =
    filter (λ beginning. same_words (rest set (drop count domains) beginning) class && agrees choices 0 beginning) (all_words (take count domains))
class_words Tails set domains choices count class = filter (agrees choices count) class

-- how many pairs the front of a class has
abbrev pub class_size : Side → (List ℕ → Bool) → List ℕ → List (List CostPair) → List Choice → ℕ → List (List ℕ) → ℕ
class_size side set domains costs choices count class = length (front (map (pair_of_word side costs count) (class_words side set domains choices count class)))

-- how many pairs the fronts of all classes of beginnings of a length have
abbrev pub length_size : Side → (List ℕ → Bool) → List ℕ → List (List CostPair) → List Choice → ℕ → ℕ
length_size side set domains costs choices count =
    sum (map (class_size side set domains costs choices count) (classes set (take count domains) (drop count domains)))

-- how far from its end a side has more than so many pairs, all in all
abbrev pub word_limit_at : ℕ → Side → (List ℕ → Bool) → List ℕ → List (List CostPair) → List Choice → Option ℕ
word_limit_at most side set domains costs choices =
    first_past most (map (λ distance. length_size side set domains costs choices (layer_at side (length domains) distance)) (range_with_len 0 (length domains + 1)))
