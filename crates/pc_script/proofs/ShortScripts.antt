-- The worked example, by evaluation.
use Rattle.std.proofs.Common.{◌≡◌, [], refl, ap, ◌∙◌}
use Rattle.std.specs.Fmt.{digits}
use Rattle.pc_base.specs.Lines.{lines}
use Rattle.pc_names.specs.Number.{int_of}
use Rattle.pc_calls.specs.CommandLine.{command_of, arguments, command_line}
use Rattle.pc_calls.specs.CommandReader.{word_of_kind, end}
use Rattle.pc_calls.specs.History.{after_entries}
use Rattle.pc_calls.specs.LineWords.{words_at}
use Rattle.pc_calls.specs.State.{empty}
use Rattle.pc_script.specs.Request.{caller_of, requested}
use Rattle.pc_script.specs.Script.{script_text}
use Rattle.pc_script.specs.ScriptHistory.{said_in, entries_from, leaving, script_items, script_history, texts_after, with_leaves}
use Rattle.pc_script.specs.ShortScript.{short_script, short_items, short_history, short_text}
use Rattle.pc_script.proofs.ScriptTexts.{text_is_of_history}

pub short_said : script_items short_script ≡ short_items
unfolding lines int_of command_of arguments command_line word_of_kind end words_at caller_of requested said_in digits
short_said = refl

entered_and_left : with_leaves (entries_from empty short_items) ≡ short_history
unfolding after_entries entries_from leaving
entered_and_left = refl

pub short_recorded : script_history short_script ≡ short_history
short_recorded = ap (λ items. with_leaves (entries_from empty items)) short_said ∙ entered_and_left

pub short_answered : texts_after [] short_items ≡ short_text
unfolding after_entries texts_after digits
short_answered = refl

pub short_written : script_text short_script ≡ short_text
short_written = text_is_of_history short_script ∙ ap (texts_after []) short_said ∙ short_answered
