use Rattle.std.proofs.Common.{ap, sym, ◌∙◌}
use Rattle.std.specs.List.{list_any}
use Rattle.pc_rules.specs.RuleFaults.{has_repeat}
use Rattle.pc_rules.proofs.PhraseLemmas.{has_repeat-And, has_repeat-Or, has_repeat-AtMost}
use Rattle.pc_rules.proofs.checks.+repeats.Goals as goal

pub has_repeat-returns-in-And : goal.has_repeat-returns-in-And
has_repeat-returns-in-And t c = c.some_has_repeat.ensures ∙ ap (list_any has_repeat) c.as_slice-in-And.ensures ∙ sym (has_repeat-And c.in-And.members) ∙ ap has_repeat (sym c.in-And.is)

pub has_repeat-returns-in-Or : goal.has_repeat-returns-in-Or
has_repeat-returns-in-Or t c = c.some_has_repeat-in-Or.ensures ∙ ap (list_any has_repeat) c.as_slice-in-Or.ensures ∙ sym (has_repeat-Or c.in-Or.members) ∙ ap has_repeat (sym c.in-Or.is)

pub has_repeat-returns-in-AtMost : goal.has_repeat-returns-in-AtMost
has_repeat-returns-in-AtMost t c =
    c.some_has_repeat-in-AtMost.ensures ∙ ap (list_any has_repeat) c.as_slice-in-AtMost.ensures ∙ sym (has_repeat-AtMost c.in-AtMost.most c.in-AtMost.members) ∙ ap has_repeat (sym c.in-AtMost.is)
