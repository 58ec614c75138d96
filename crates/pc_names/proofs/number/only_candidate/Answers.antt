use Rattle.std.proofs.Common.{length, ap, ◌∙◌, arith, w64}
use Rattle.std.specs.Result.{result_ok}
use Rattle.std.proofs.lemmas.Fmt.{parse-signed_decimal}
use Rattle.pc_names.proofs.NumberText.{small, signed_short, signed_utf8}
use Rattle.pc_names.proofs.number.only_candidate.Goals as goal

pub returns-then-bytes-gt-LONGEST_NUMBER : goal.returns-then-bytes-gt-LONGEST_NUMBER
returns-then-bytes-gt-LONGEST_NUMBER c z fits is = absurd (omega (arith, signed_short z fits, ap length is, c.if-bytes-gt-LONGEST_NUMBER.true))

pub returns-in_default : goal.returns-in_default
returns-in_default c z fits is = absurd (c.in_default.ensures.cases.0 (rw is (signed_utf8 z fits)))

pub returns : goal.returns
returns c z fits is =
    c.ok.ensures.value ∙ ap result_ok (parse-signed_decimal w64 z _ c.parse.result fits (small z fits) (c.in-Ok.ensures.cases.0 ∙ is) c.parse.ensures.value.0)
