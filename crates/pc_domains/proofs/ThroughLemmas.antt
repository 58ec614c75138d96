-- The words of a diagram that go through an edge.
use Rattle.std.proofs.Common.{◌≡◌, ℕ, ◌+◌, ◌<◌, ◌==◌, Bool, true, ◌&&◌, List, [], ◌∷◌, ◌++◌, length, take, drop, get_or, drop-cons, add-one, Option, Some, None, refl, sym, ap, ◌∙◌, arith}
use Rattle.std.proofs.lemmas.Bool.{both_ways}
use Rattle.std.proofs.lemmas.Bool.Decides.{nat_tests}
use Rattle.std.proofs.lemmas.List.{length-take, take-append-drop}
use Rattle.pc_diagram.specs.declared.choice.Choice.{Choice}
use Rattle.pc_diagram.specs.declared.raw_diagram.RawDiagram.{RawDiagram}
use Rattle.pc_diagram.specs.Choices.{value_of}
use Rattle.pc_diagram.specs.Fitting.{takes}
use Rattle.pc_diagram.specs.Levels.{edge, level, levels}
use Rattle.pc_diagram.specs.NodePaths.{agrees, is_allowed, is_head, is_tail}
use Rattle.pc_diagram.specs.Paths.{accepts, has_word}
use Rattle.pc_diagram.specs.Words.{is_word}
use Rattle.pc_diagram.proofs.LevelLemmas.{drop-levels}
use Rattle.pc_diagram.proofs.PathLemmas.{accepts-none, length-word, parts-word, word-parts}
use Rattle.pc_diagram.proofs.ShapeLemmas.{both, together}

-- a way through an edge of a value, as a word goes
pub record Passage (raw : RawDiagram) (choices : List Choice) (variable value : ℕ) (word : List ℕ) : Type 0 where
  pub node : ℕ
  pub target : ℕ
  pub leads : edge (level raw variable) node value ≡ Some target
  pub allowed : is_allowed (value_of choices variable) value ≡ true
  pub head : is_head raw choices variable node (take variable word) ≡ true
  pub tail : is_tail raw choices (variable + 1) target (drop (variable + 1) word) ≡ true
  pub split : word ≡ take variable word ++ value ∷ drop (variable + 1) word

-- a word of the diagram that agrees with the choices
abbrev pub is_open : RawDiagram → List Choice → List ℕ → Bool
is_open raw choices word = has_word raw word && agrees choices 0 word

takes_there : (first rest : List ℕ) (x value : ℕ) → takes (first ++ x ∷ rest) (length first) value ≡ (x == value)
takes_there [] rest x value = refl
takes_there (y ∷ first) rest x value = takes_there first rest x value

module _ (raw : RawDiagram) (choices : List Choice) (variable value : ℕ) (inside : variable < length raw.domains) where
  tail_on : (node x : ℕ) (rest : List ℕ) → is_tail raw choices variable node (x ∷ rest) ≡ (accepts (drop (variable + 1) (levels raw)) (edge (level raw variable) node x) rest && (is_allowed (value_of choices variable) x && agrees choices (variable + 1) rest))
  tail_on node x rest = ap (λ ls. accepts ls (Some node) (x ∷ rest) && (is_allowed (value_of choices variable) x && agrees choices (variable + 1) rest)) (drop-levels raw variable inside)

  by_edge : (node : ℕ) (word : List ℕ) (o : Option ℕ) → edge (level raw variable) node value ≡ o → is_head raw choices variable node (take variable word) ≡ true → word ≡ take variable word ++ value ∷ drop (variable + 1) word
      → accepts (drop (variable + 1) (levels raw)) o (drop (variable + 1) word) ≡ true → is_allowed (value_of choices variable) value ≡ true → agrees choices (variable + 1) (drop (variable + 1) word) ≡ true → Passage raw choices variable value word
  by_edge node word None e head split accepted allowed agree = absurd (both_ways (accepts (drop (variable + 1) (levels raw)) None (drop (variable + 1) word)) (accepts-none (drop (variable + 1) (levels raw)) (drop (variable + 1) word)) accepted)
  by_edge node word (Some target) e head split accepted allowed agree = record {
    node = node;
    target = target;
    leads = e;
    allowed = allowed;
    head = head;
    tail = together (accepts (drop (variable + 1) (levels raw)) (Some target) (drop (variable + 1) word)) (agrees choices (variable + 1) (drop (variable + 1) word)) accepted agree;
    split = split;
  }

  -- a word of the diagram that takes the value goes through an edge of it
  pub open_passage : (word : List ℕ) → is_word raw.domains word ≡ true → is_open raw choices word ≡ true → takes word variable value ≡ true → Passage raw choices variable value word
  open_passage word over opens taken =
      let long = length-word raw.domains word over in
      let first = take variable word in
      let rest = drop (variable + 1) word in
      let x = get_or word variable 0 in
      let cut : length first ≡ variable = omega (arith, length-take variable word) in
      let ends : drop variable word ≡ x ∷ rest = drop-cons word variable 0 (omega (arith, long)) ∙ ap (λ k. x ∷ drop k word) (sym (add-one variable)) in
      let whole : word ≡ first ++ x ∷ rest = sym (take-append-drop variable word) ∙ ap (λ w. first ++ w) ends in
      let same : (x == value) ≡ true = sym (takes_there first rest x value) ∙ ap (λ k. takes (first ++ x ∷ rest) k value) cut ∙ ap (λ w. takes w variable value) (sym whole) ∙ taken in
      let is : x ≡ value = grind (arith, nat_tests) in
      let parts = word-parts raw choices first (drop variable word) (omega (arith, cut)) (ap (is_open raw choices) (take-append-drop variable word) ∙ opens) in
      let node = parts.0 in
      let head : is_head raw choices variable node first ≡ true = ap (λ k. is_head raw choices k node first) (sym cut) ∙ parts.1 in
      let tail : is_tail raw choices variable node (value ∷ rest) ≡ true =
      ap (λ y. is_tail raw choices variable node (y ∷ rest)) (sym is) ∙ ap (is_tail raw choices variable node) (sym ends) ∙ ap (λ k. is_tail raw choices k node (drop variable word)) (sym cut) ∙ parts.2 in
      let edges = edge (level raw variable) node value in
      let two = both (accepts (drop (variable + 1) (levels raw)) edges rest) (is_allowed (value_of choices variable) value && agrees choices (variable + 1) rest) (sym (tail_on node value rest) ∙ tail) in
      let more = both (is_allowed (value_of choices variable) value) (agrees choices (variable + 1) rest) two.1 in
      by_edge node word edges refl head (whole ∙ ap (λ y. first ++ y ∷ rest) is) two.0 more.0 more.1

  -- and a head, the value and a tail are a word of the diagram that takes it
  pub edge_opens : (node target : ℕ) (head tail : List ℕ) → length head ≡ variable → edge (level raw variable) node value ≡ Some target → is_allowed (value_of choices variable) value ≡ true → is_head raw choices variable node head ≡ true → is_tail raw choices (variable + 1) target tail ≡ true →
      (is_open raw choices (head ++ value ∷ tail) ≡ true) × (takes (head ++ value ∷ tail) variable value ≡ true)
  edge_opens node target head tail long leads allowed first second =
      let parts = both (accepts (drop (variable + 1) (levels raw)) (Some target) tail) (agrees choices (variable + 1) tail) second in
      let after : is_tail raw choices variable node (value ∷ tail) ≡ true =
      tail_on node value tail
      ∙ together (accepts (drop (variable + 1) (levels raw)) (edge (level raw variable) node value) tail) (is_allowed (value_of choices variable) value && agrees choices (variable + 1) tail)
      (ap (λ o. accepts (drop (variable + 1) (levels raw)) o tail) leads ∙ parts.0)
      (together (is_allowed (value_of choices variable) value) (agrees choices (variable + 1) tail) allowed parts.1) in (
        parts-word raw choices head (value ∷ tail) (omega (arith, long)) node
            (ap (λ k. is_head raw choices k node head) long ∙ first)
            (ap (λ k. is_tail raw choices k node (value ∷ tail)) long ∙ after),
        ap (λ k. takes (head ++ value ∷ tail) k value) (sym long) ∙ takes_there head tail value value ∙ grind (arith, nat_tests),
      )
