use Rattle.std.proofs.Common.{ℕ, List, [], ◌∷◌, ◌++◌, length, take, ap, sym, ◌∙◌, append_assoc}
use Rattle.std.specs.List.{flat_map, zip}
use Rattle.std.proofs.lemmas.List.{length_push}
use Rattle.std.proofs.lemmas.Slice.Zip.{zip_turn, zip_end}
use Rattle.pc_file.specs.declared.variable.Variable.{Variable}
use Rattle.pc_file.specs.ListingText.{name_text}
use Rattle.pc_file.proofs.ZipLemmas.{zip_more, zip_all}
use Rattle.pc_file.proofs.listing_text.push_word.Goals as goal

abbrev named : Variable × ℕ → List ℕ
named p = 32 ∷ name_text p.0 p.1

pub loop-variable-preserved : goal.loop-variable-preserved
loop-variable-preserved c =
    let variables = c.args.variables.now in
    let word = c.args.word.now in
    let n = length c.loop-variable.yielded in
    let variable = c.in-Some.variable.now in
    let value = c.in-Some.value.now in
    let turn = zip_turn variables word c.loop-variable.yielded c.into_iter-variable-iterator.result c.loop-variable.variable-iterator c.next.new.self c.next.result (cc) (cc) c.loop-variable.yielded_by (c.in-Some.variable, c.in-Some.value) c.in-Some.is c.next.ensures.steps in
    let more = zip_more named variables word n variable value turn.0 turn.1 (turn.2 variable) (turn.3 value) in
    let start = flat_map named (take n (zip variables word)) in
    c.in_ok-push_name.ensures.ok
    ∙ ap (λ text. text ++ name_text variable value) (c.in_ok-push.ensures.ok ∙ ap (λ text. text ++ 32 ∷ []) c.loop-variable.invariant)
    ∙ append_assoc (c.args.text.now ++ start) (32 ∷ []) (name_text variable value)
    ∙ append_assoc c.args.text.now start (named (variable, value))
    ∙ ap (λ text. c.args.text.now ++ text) (sym more)
    ∙ ap (λ k. c.args.text.now ++ flat_map named (take k (zip variables word))) (sym (length_push c.loop-variable.yielded (c.in-Some.variable, c.in-Some.value)))

pub returns-clause-ok : goal.returns-clause-ok
returns-clause-ok c =
    let variables = c.args.variables.now in
    let word = c.args.word.now in
    let end = zip_end variables word c.loop-variable.yielded c.into_iter-variable-iterator.result c.loop-variable.variable-iterator c.next.new.self c.next.result (cc) (cc) c.loop-variable.yielded_by c.in-None.is c.next.ensures.steps in
    c.loop-variable.invariant ∙ ap (λ pairs. c.args.text.now ++ flat_map named pairs) (zip_all variables word (length c.loop-variable.yielded) end)
