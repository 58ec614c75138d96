use Rattle.std.proofs.Common.{ℕ, List, ◌++◌, length, take, ap, sym, ◌∙◌, append_assoc}
use Rattle.std.specs.List.{flat_map, zip}
use Rattle.std.proofs.lemmas.List.{length_push}
use Rattle.std.proofs.lemmas.Slice.Zip.{zip_turn, zip_end}
use Rattle.pc_diagram.specs.declared.listed.Listed.{Listed}
use Rattle.pc_file.specs.declared.variable.Variable.{Variable}
use Rattle.pc_file.specs.ListingText.{variable_text}
use Rattle.pc_file.proofs.ZipLemmas.{zip_more, zip_all}
use Rattle.pc_file.proofs.listing_text.push_variables.Goals as goal

abbrev lines : List Variable → Variable × List Listed → List ℕ
lines variables p = variable_text variables p.0 p.1

pub loop-variable-preserved : goal.loop-variable-preserved
loop-variable-preserved c =
    let variables = c.args.variables.now in
    let rows = c.args.listing.now in
    let n = length c.loop-variable.yielded in
    let variable = c.in-Some.variable.now in
    let items = c.in-Some.items.now in
    let turn = zip_turn variables rows c.loop-variable.yielded c.into_iter-variable-iterator.result c.loop-variable.variable-iterator c.next.new.self c.next.result (cc) (cc) c.loop-variable.yielded_by (c.in-Some.variable, c.in-Some.items) c.in-Some.is c.next.ensures.steps in
    let more = zip_more (lines variables) variables rows n variable items turn.0 turn.1 (turn.2 variable) (turn.3 items) in
    let start = flat_map (lines variables) (take n (zip variables rows)) in
    c.in_ok-push_variable.ensures.ok
    ∙ ap (λ text. text ++ variable_text variables variable c.as_slice-in-loop-variable.result.now) c.loop-variable.invariant
    ∙ ap (λ items. (c.args.text.now ++ start) ++ variable_text variables variable items) c.as_slice-in-loop-variable.ensures
    ∙ append_assoc c.args.text.now start (variable_text variables variable items)
    ∙ ap (λ text. c.args.text.now ++ text) (sym more)
    ∙ ap (λ k. c.args.text.now ++ flat_map (lines variables) (take k (zip variables rows))) (sym (length_push c.loop-variable.yielded (c.in-Some.variable, c.in-Some.items)))

pub returns-clause-ok : goal.returns-clause-ok
returns-clause-ok c =
    let variables = c.args.variables.now in
    let rows = c.args.listing.now in
    let end = zip_end variables rows c.loop-variable.yielded c.into_iter-variable-iterator.result c.loop-variable.variable-iterator c.next.new.self c.next.result (cc) (cc) c.loop-variable.yielded_by c.in-None.is c.next.ensures.steps in
    c.loop-variable.invariant ∙ ap (λ pairs. c.args.text.now ++ flat_map (lines variables) pairs) (zip_all variables rows (length c.loop-variable.yielded) end)
