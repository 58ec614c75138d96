use Rattle.std.proofs.Common.{◌≡◌, ◌<◌, ◌≤◌, ◌+◌, ◌++◌, ◌∷◌, [], min, ℕ, List, length, get_or, rules, arith, sym, ap, subst, ◌∙◌, length-append}
use Rattle.std.specs.List.{zip}
use Rattle.std.specs.Iterator.Adapters.{zip_first, zip_second}
use Rattle.std.specs.Slice.Iter.{iter_rest}
use Rattle.std.proofs.lemmas.Grind.{common_steps}
use Rattle.std.proofs.lemmas.Slice.Zip.{zip_turn, zip_end, length-zip, get_or-zip}
use Rattle.pc_rules.specs.Parsed.{Parsed, Fails}
use Rattle.pc_rules.specs.Naming.{value_at}
use Rattle.pc_rules.proofs.ParsedLemmas.{with_front, all_ok-more, all_ok-fails, all_ok-done}
use Rattle.pc_rules.proofs.naming.row_at.Goals as goal

-- where a pair of the loop is
at_pair : {A B : Type 0} (xs : List A) (ys : List B) (i : ℕ) (x : A) (y : B) → i < length xs → i < length ys → x ≡ get_or xs i x → y ≡ get_or ys i y → (i < length (zip xs ys)) × ((x, y) ≡ get_or (zip xs ys) i (x, y))
at_pair xs ys i x y below_x below_y is_x is_y =
    let count : length (zip xs ys) ≡ min (length xs) (length ys) = length-zip xs ys in
    let read = get_or-zip xs ys i (x, y) below_x below_y in
    (omega (arith, count), ap (λ a. (a, y)) is_x ∙ ap (λ b. (get_or xs i x, b)) is_y ∙ sym read)

pub returns-in_err-value_at : goal.returns-in_err-value_at
returns-in_err-value_at c =
    let variables = c.args.variables.now in
    let words = c.args.words.now in
    let i = length c.loop-variable.yielded in
    let first : iter_rest (zip_first c.into_iter-variable-iterator.result) ≡ variables = search rules in
    let second : iter_rest (zip_second c.into_iter-variable-iterator.result) ≡ words = search rules in
    let turn = zip_turn variables words c.loop-variable.yielded c.into_iter-variable-iterator.result c.loop-variable.variable-iterator c.next.new.self c.next.result first second c.loop-variable.yielded_by (c.in-Some.variable, c.in-Some.word) c.in-Some.is c.next.ensures.steps in
    let v = c.in-Some.variable.now in
    let w = c.in-Some.word.now in
    let at = at_pair variables words i v w turn.0 turn.1 (turn.2 v) (turn.3 w) in
    let fails = all_ok-fails (λ p. value_at c.args.names.now p.0 p.1) (zip variables words) i (v, w) c.in_err-value_at.field-0.0 c.loop-variable.positions at.0 at.1 c.in_err-value_at.ensures in
    let e = subst (Fails c.in_err-value_at.field-0.0) (sym c.loop-variable.invariant) fails in
    first_of (search rules, grind (arith, common_steps))

pub loop-variable-preserved : goal.loop-variable-preserved
loop-variable-preserved c =
    let variables = c.args.variables.now in
    let words = c.args.words.now in
    let i = length c.loop-variable.yielded in
    let first : iter_rest (zip_first c.into_iter-variable-iterator.result) ≡ variables = search rules in
    let second : iter_rest (zip_second c.into_iter-variable-iterator.result) ≡ words = search rules in
    let turn = zip_turn variables words c.loop-variable.yielded c.into_iter-variable-iterator.result c.loop-variable.variable-iterator c.next.new.self c.next.result first second c.loop-variable.yielded_by (c.in-Some.variable, c.in-Some.word) c.in-Some.is c.next.ensures.steps in
    let v = c.in-Some.variable.now in
    let w = c.in-Some.word.now in
    let at = at_pair variables words i v w turn.0 turn.1 (turn.2 v) (turn.3 w) in
    let f : ℕ × List ℕ → Parsed ℕ = λ p. value_at c.args.names.now p.0 p.1 in
    let more = all_ok-more f (zip variables words) i (v, w) c.in_ok-value_at.field-0 c.loop-variable.positions at.0 at.1 c.in_ok-value_at.ensures in
    let pushed : c.push.new.self ≡ c.loop-variable.positions ++ c.in_ok-value_at.field-0 ∷ [] = c.in_ok-push.ensures.ok in
    let count : length (c.loop-variable.yielded ++ (c.in-Some.variable, c.in-Some.word) ∷ []) ≡ i + 1 = length-append c.loop-variable.yielded ((c.in-Some.variable, c.in-Some.word) ∷ []) in
    c.loop-variable.invariant ∙ more ∙ ap (with_front f (zip variables words) (i + 1)) (sym pushed) ∙ ap (λ n. with_front f (zip variables words) n c.push.new.self) (sym count)

pub returns : goal.returns
returns c =
    let variables = c.args.variables.now in
    let words = c.args.words.now in
    let first : iter_rest (zip_first c.into_iter-variable-iterator.result) ≡ variables = search rules in
    let second : iter_rest (zip_second c.into_iter-variable-iterator.result) ≡ words = search rules in
    let end = zip_end variables words c.loop-variable.yielded c.into_iter-variable-iterator.result c.loop-variable.variable-iterator c.next.new.self c.next.result first second c.loop-variable.yielded_by c.in-None.is c.next.ensures.steps in
    let count : length (zip variables words) ≡ min (length variables) (length words) = length-zip variables words in
    let past : length (zip variables words) ≤ length c.loop-variable.yielded = omega (arith, end, count) in
    c.loop-variable.invariant ∙ all_ok-done (λ p. value_at c.args.names.now p.0 p.1) (zip variables words) (length c.loop-variable.yielded) c.loop-variable.positions past
