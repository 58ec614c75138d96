-- All lines were taken.
use Rattle.std.proofs.Common.{◌≡◌, ◌+◌, None, subst, ap}
use Rattle.pc_dump.specs.Judged.{IsJudged, IsRead}
use Rattle.pc_dump.proofs.JudgedLemmas.{early_end, whole_end}
use Rattle.pc_dump.proofs.reader.Reader.finish.Goals as goal

pub returns-in-Nothing : goal.returns-in-Nothing
returns-in-Nothing c taken has =
    let draft = c.args.self.draft in
    let none : c.args.self.misfit ≡ None = c.in_default.is in
    let read : IsRead draft taken = subst (λ m. IsJudged m draft taken) none has.judged in
    whole_end draft taken read c.in-Nothing.is

pub returns-in_default-awaited : goal.returns-in_default-awaited
returns-in_default-awaited c taken has =
    let draft = c.args.self.draft in
    let none : c.args.self.misfit ≡ None = c.in_default.is in
    let read : IsRead draft taken = subst (λ m. IsJudged m draft taken) none has.judged in
    early_end draft taken _ read c.in_default-awaited.not-Nothing (ap (λ n. n + 1) has.count)
