use Rattle.std.proofs.Common.{ℕ, List, Result, Ok, Err, OnErr, [], ◌∷◌, ◌++◌, codes, length, take, ap, sym, ◌∙◌, append_assoc}
use Rattle.std.specs.List.{flat_map, zip}
use Rattle.std.proofs.lemmas.List.{length_push}
use Rattle.std.proofs.Math.Seq.{take-length}
use Rattle.std.proofs.lemmas.Slice.Zip.{length-zip, zip_turn, zip_end}
use Rattle.pc_file.specs.declared.variable.Variable.{Variable}
use Rattle.pc_file.specs.PrintedRule.{printed_value}
use Rattle.pc_base.proofs.GrownLemmas.{grown_on}
use Rattle.pc_file.proofs.ZipLemmas.{zip_more}
use Rattle.pc_print.proofs.names.push_more_of_row.Goals as goal

abbrev named : List Variable → ℕ × ℕ → List ℕ
named variables p = codes " " ++ printed_value variables p.0 p.1

pub loop-variable-preserved : goal.loop-variable-preserved
loop-variable-preserved c =
    let these = c.args.these.now in
    let row = c.args.row.now in
    let word = named c.args.variables.now in
    let n = length c.loop-variable.yielded in
    let variable = c.in-Some.variable.now in
    let value = c.in-Some.value.now in
    let turn = zip_turn these row c.loop-variable.yielded c.into_iter-variable-iterator.result c.loop-variable.variable-iterator c.next.new.self c.next.result (cc) (cc) c.loop-variable.yielded_by (c.in-Some.variable, c.in-Some.value) c.in-Some.is c.next.ensures.steps in
    let more = zip_more word these row n variable value turn.0 turn.1 (turn.2 variable) (turn.3 value) in
    let start = flat_map word (take n (zip these row)) in
    c.in_ok-push_value.ensures.ok
    ∙ ap (λ text. text ++ printed_value c.args.variables.now variable value) (c.in_ok-push.ensures.ok ∙ ap (λ text. text ++ 32 ∷ []) c.loop-variable.invariant)
    ∙ append_assoc (c.args.text.now ++ start) (32 ∷ []) (printed_value c.args.variables.now variable value)
    ∙ append_assoc c.args.text.now start (word (variable, value))
    ∙ ap (λ text. c.args.text.now ++ text) (sym more)
    ∙ ap (λ k. c.args.text.now ++ flat_map word (take k (zip these row))) (sym (length_push c.loop-variable.yielded (c.in-Some.variable, c.in-Some.value)))

pub returns-clause-ok : goal.returns-clause-ok
returns-clause-ok c =
    let these = c.args.these.now in
    let row = c.args.row.now in
    let word = named c.args.variables.now in
    let end = zip_end these row c.loop-variable.yielded c.into_iter-variable-iterator.result c.loop-variable.variable-iterator c.next.new.self c.next.result (cc) (cc) c.loop-variable.yielded_by c.in-None.is c.next.ensures.steps in
    c.loop-variable.invariant ∙ ap (λ pairs. c.args.text.now ++ flat_map word pairs) (ap (λ k. take k (zip these row)) (end ∙ sym (length-zip these row)) ∙ take-length (zip these row))

on_err_any : {T E P : Type 0} (r : Result T E) → P → OnErr r P
on_err_any (Ok x) p = tt
on_err_any (Err e) p = p

pub returns-in_err-push_value-clause-err : goal.returns-in_err-push_value-clause-err
returns-in_err-push_value-clause-err c =
    let pairs = zip c.args.these.now c.args.row.now in
    let start = flat_map (named c.args.variables.now) (take (length c.loop-variable.yielded) pairs) in
    let space = grown_on c.loop-variable.text (codes " ") c.push.new.self c.push_value.new.text c.in_ok-push.ensures.ok c.in_err-push_value.ensures.err in
    on_err_any c.from_residual-in_err-push_value.result (grown_on c.args.text.now start c.loop-variable.text c.push_value.new.text c.loop-variable.invariant space)
