-- The words of a diagram.
use Rattle.std.specs.Prelude.{ℕ, List, [], ◌∷◌, Bool, true, false, Option, None, Some, filter}
use Rattle.pc_diagram.specs.declared.raw_diagram.RawDiagram.{RawDiagram}
use Rattle.pc_diagram.specs.Levels.{Level, levels, edge}
use Rattle.pc_diagram.specs.Words.{all_words}

-- the values of a word are those along a path from a node of the first of these levels to the end; no path begins at no
-- node
abbrev pub accepts : List Level → Option ℕ → List ℕ → Bool
accepts [] None word = false
accepts [] (Some node) [] = true
accepts [] (Some node) (value ∷ word) = false
accepts (l ∷ ls) None word = false
accepts (l ∷ ls) (Some node) [] = false
accepts (l ∷ ls) (Some node) (value ∷ word) = accepts ls (edge l node value) word

-- the values of a word are those along a path from the root
abbrev pub has_word : RawDiagram → List ℕ → Bool
has_word raw = accepts (levels raw) (Some 0)

-- the words of a diagram: those along the paths from its root, in lexicographic order
abbrev pub words : RawDiagram → List (List ℕ)
words raw = filter (has_word raw) (all_words raw.domains)
