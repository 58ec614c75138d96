use Rattle.std.proofs.Common.{◌≡◌, [], take, drop, sym, ap, ◌∙◌}
use Rattle.std.proofs.lemmas.List.{nil_from_length}
use Rattle.pc_base.specs.Lines.{from_feed}
use Rattle.pc_base.proofs.LineCuts.{take-first_line, drop-first_line}
use Rattle.pc_base.proofs.lines.cut_line.Goals as goal

pub returns-in-Some-clause-line : goal.returns-in-Some-clause-line
returns-in-Some-clause-line c =
    let bytes = c.args.bytes.now in
    c.split_at.ensures.front ∙ ap (λ n. take n bytes) c.first_line_width.ensures.width ∙ take-first_line bytes

pub returns-in-Some-clause-after : goal.returns-in-Some-clause-after
returns-in-Some-clause-after c =
    let bytes = c.args.bytes.now in
    let rest : c.split_at.result.1.now ≡ from_feed bytes = c.split_at.ensures.back ∙ ap (λ n. drop n bytes) c.first_line_width.ensures.width ∙ drop-first_line bytes in
    ap (drop 1) (sym c.in-Some.ensures.cases.0 ∙ rest)

pub returns-in-None-clause-line : goal.returns-in-None-clause-line
returns-in-None-clause-line c =
    let bytes = c.args.bytes.now in
    c.split_at.ensures.front ∙ ap (λ n. take n bytes) c.first_line_width.ensures.width ∙ take-first_line bytes

pub returns-in-None-clause-after : goal.returns-in-None-clause-after
returns-in-None-clause-after c =
    let bytes = c.args.bytes.now in
    let rest : c.split_at.result.1.now ≡ from_feed bytes = c.split_at.ensures.back ∙ ap (λ n. drop n bytes) c.first_line_width.ensures.width ∙ drop-first_line bytes in
    let none : c.split_at.result.1.now ≡ [] = nil_from_length _ c.in-None.ensures.cases in
    none ∙ ap (drop 1) (sym none ∙ rest)
