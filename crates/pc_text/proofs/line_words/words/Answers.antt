use Rattle.std.proofs.Common.{◌≡◌, ℕ, ◌<◌, List, [], ◌∷◌, ◌++◌, length, map, sym, ap, ◌∙◌, append_assoc, arith}
use Rattle.std.specs.Borrow.{Bor}
use Rattle.std.proofs.lemmas.Bool.{eqb-true}
use Rattle.std.proofs.lemmas.List.{append-nil, map_push}
use Rattle.pc_names.specs.LineWords.{words, after_word}
use Rattle.pc_names.proofs.LineWordLemmas.{cut_words, no_words, first_of_words}
use Rattle.pc_text.proofs.line_words.words.Goals as goal

abbrev now : Bor (List ℕ) → List ℕ
now word = word.now

pub returns-then-is_empty : goal.returns-then-is_empty
returns-then-is_empty c =
    let rest = c.loop-word.rest.now in
    let empty : length c.cut_word.result.0.now ≡ 0 = eqb-true _ _ (sym c.is_empty.ensures ∙ c.if-is_empty.true) in
    let none = no_words rest (cut_words rest) (ap length (sym c.cut_word.ensures.word) ∙ empty) in
    sym (append-nil (map now c.loop-word.found.items)) ∙ ap (λ ws. map now c.loop-word.found.items ++ ws) (sym none) ∙ c.loop-word.invariant

pub loop-word-smaller : goal.loop-word-smaller
loop-word-smaller c =
    let rest = c.loop-word.rest.now in
    let some : 0 < length c.cut_word.result.0.now = grind (arith, c.is_empty.ensures, c.if-is_empty.false) in
    let cut = first_of_words rest (cut_words rest) (omega (arith, ap length c.cut_word.ensures.word)) in
    omega (arith, cut.1, ap length c.cut_word.ensures.after)

pub loop-word-preserved : goal.loop-word-preserved
loop-word-preserved c =
    let rest = c.loop-word.rest.now in
    let found = c.loop-word.found.items in
    let word = c.cut_word.result.0 in
    let after = c.cut_word.result.1.now in
    let some : 0 < length c.cut_word.result.0.now = grind (arith, c.is_empty.ensures, c.if-is_empty.false) in
    let cut = first_of_words rest (cut_words rest) (omega (arith, ap length c.cut_word.ensures.word)) in
    let here : words rest ≡ word.now ∷ words after = cut.0 ∙ ap (λ w. w ∷ words (after_word rest)) (sym c.cut_word.ensures.word) ∙ ap (λ bs. word.now ∷ words bs) (sym c.cut_word.ensures.after) in
    ap (λ (items : List (Bor (List ℕ))). map now items ++ words after) c.in_ok-push.ensures.items
    ∙ ap (λ (ws : List (List ℕ)). ws ++ words after) (map_push now found word)
    ∙ append_assoc (map now found) (word.now ∷ []) (words after)
    ∙ ap (λ ws. map now found ++ ws) (sym here)
    ∙ c.loop-word.invariant
