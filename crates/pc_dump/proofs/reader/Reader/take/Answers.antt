-- The next line goes on with what was read, or is the first that goes wrong.
use Rattle.std.proofs.Common.{◌≡◌, ◌+◌, [], ◌∷◌, ◌++◌, map, length, Ok, subst, sym, ap, ◌∙◌, length-append, arith}
use Rattle.std.specs.List.{slice_split}
use Rattle.pc_dump.specs.Draft.{Refuses, TakesLine}
use Rattle.pc_dump.specs.Dump.{Words}
use Rattle.pc_dump.specs.Judged.{IsJudged, IsRead}
use Rattle.pc_dump.proofs.JudgedLemmas.{read_on, wrong_here}
use Rattle.pc_dump.proofs.reader.Reader.take.Goals as goal
use Rattle.pc_dump.proofs.reader.Reader.take.Goals.{then-not-branch, else-not-branch}
use Rattle.pc_names.specs.Spaces.{is_space}

pub returns-after-not-branch : goal.returns-after-not-branch
returns-after-not-branch c taken has =
    let before = c.args.self.now in
    let after = c.take.new.self in
    let line : Words = slice_split is_space c.args.line.now in
    let words : map (λ word. word.now) c.as_slice.result.now ≡ line = ap (map (λ word. word.now)) c.as_slice.ensures.value ∙ c.in_ok-words-in-None.ensures in
    let read : IsRead before.draft taken = subst (λ m. IsJudged m before.draft taken) c.in-None.is has.judged in
    let count : before.count + 1 ≡ length (taken ++ line ∷ []) = omega (arith, has.count, length-append taken (line ∷ [])) in
    elim c.if-not-branch.branch [
      | then-not-branch w ↦
          let refuses : Refuses line before.draft = subst (λ x. Refuses x before.draft) words (c.in_ok-take-in-None.ensures.refused (ap (λ x. Ok x) w.if-not-branch.true)) in
          rw w.self-is (record { count = count; judged = wrong_here before.draft taken line (before.count + 1) read refuses (ap (λ n. n + 1) has.count) })
      | else-not-branch w ↦
          let takes : TakesLine line before.draft after = subst (λ x. TakesLine x before.draft after) words (c.in_ok-take-in-None.ensures.taken (ap (λ x. Ok x) w.if-not-branch.false)) in
          rw w.self-is (record { count = count; judged = subst (λ m. IsJudged m after (taken ++ line ∷ [])) (sym c.in-None.is) (read_on before.draft after taken line read takes) })
    ]
