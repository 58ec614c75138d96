use Rattle.std.proofs.Common.{sym, ◌∙◌}
use Rattle.pc_top.proofs.StatusLemmas.{not_two}
use Rattle.pc_top.proofs.program.run.Goals as goal

pub returns-in-Some-clause-wrong_words : goal.returns-in-Some-clause-wrong_words
returns-in-Some-clause-wrong_words g c = (
  λ two. elim (not_two c.in-Some.form c.do_form.result _ _ c.do_form.ensures.does (sym c.code.ensures ∙ two)) [ ],
  λ none.
      let read = c.read.ensures in
      let is = c.in-Some.is in
      let value = c.as_slice.ensures.value in
      absurd cc,
)

pub returns-in-Some-clause-untouched : goal.returns-in-Some-clause-untouched
returns-in-Some-clause-untouched g c two = elim (not_two c.in-Some.form c.do_form.result _ _ c.do_form.ensures.does (sym c.code.ensures ∙ two)) [ ]
