-- The levels of a diagram.
use Rattle.std.proofs.Common.{◌≡◌, ℕ, suc, ◌+◌, ◌<◌, ◌≤◌, [], ◌∷◌, length, drop, drop-cons, add-one, sym, ap, ◌∙◌, arith}
use Rattle.std.proofs.lemmas.List.{drop_all}
use Rattle.std.proofs.lemmas.List.FromFn.{get_or-map-range_with_len, length-map-range_with_len}
use Rattle.pc_diagram.specs.declared.raw_diagram.RawDiagram.{RawDiagram}
use Rattle.pc_diagram.specs.Levels.{level, levels}

pub length-levels : (raw : RawDiagram) → length (levels raw) ≡ length raw.domains
length-levels raw = length-map-range_with_len (level raw) 0 (length raw.domains)

-- the levels from a variable on
pub drop-levels : (raw : RawDiagram) (variable : ℕ) → variable < length raw.domains → drop variable (levels raw) ≡ level raw variable ∷ drop (variable + 1) (levels raw)
drop-levels raw variable lt =
    let inside : variable < length (levels raw) = omega (arith, length-levels raw) in
    drop-cons (levels raw) variable (level raw variable) inside
    ∙ ap (λ l. l ∷ drop (suc variable) (levels raw)) (get_or-map-range_with_len (level raw) 0 (length raw.domains) variable variable (level raw variable) lt (omega arith))
    ∙ ap (λ k. level raw variable ∷ drop k (levels raw)) (sym (add-one variable))

pub drop-levels-end : (raw : RawDiagram) (variable : ℕ) → length raw.domains ≤ variable → drop variable (levels raw) ≡ []
drop-levels-end raw variable le = drop_all variable (levels raw) (omega (arith, length-levels raw))
