use Rattle.std.proofs.Common.{FitsSigned, w64, ap, rules, ◌∙◌}
use Rattle.std.proofs.lemmas.Int.{to_z-of_z}
use Rattle.pc_rules.specs.Counts.{small_number}
use Rattle.pc_rules.proofs.CountLemmas.{count_of_read, count_of_unread}
use Rattle.pc_rules.proofs.count.count_of.Goals as goal

pub returns-in-Some : goal.returns-in-Some
returns-in-Some c =
    let z = c.in-Some.number in
    let fits : FitsSigned w64 z = search rules in
    c.small_number.ensures ∙ ap small_number (to_z-of_z w64 z fits) ∙ count_of_read c.args.word.now z fits c.in-Some.ensures.spelt

pub returns-in-None : goal.returns-in-None
returns-in-None c = count_of_unread c.args.word.now c.read_int.result c.in-None.is c.read_int.ensures.read
