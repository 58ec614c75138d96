-- No number is spelt like the word for no edge.
use Rattle.std.proofs.Common.{◌≡◌, ℕ, List, [], ◌∷◌, Option, Some, None, refl, sym, ◌∙◌}
use Rattle.pc_dump.specs.Dump.{edge_word}
use Rattle.pc_dump.specs.Form.{IsEdge}
use Rattle.pc_dump.proofs.WordLemmas.{no_dash}
use Rattle.pc_dump.proofs.numbers.edge_of.Goals as goal

dash_is_none : (word : List ℕ) → word ≡ 45 ∷ [] → (edge : Option ℕ) → IsEdge edge → word ≡ edge_word edge → Some None ≡ Some edge
dash_is_none word dash None h e = refl
dash_is_none word dash (Some n) h e = absurd (no_dash n h (sym e ∙ dash))

pub returns-then-is_word-clause-every : goal.returns-then-is_word-clause-every
returns-then-is_word-clause-every c edge h e = dash_is_none c.args.word.now (c.is_word.ensures.0 c.if-is_word.true) edge h e
