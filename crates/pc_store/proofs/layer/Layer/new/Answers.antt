use Rattle.std.proofs.Common.{◌≡◌, ◌∙◌, ap, ℕ, replicate}
use Rattle.std.proofs.lemmas.List.{take-replicate}
use Rattle.pc_store.specs.Rows.{with_row}
use Rattle.pc_store.proofs.NewLemmas.{two_rows}
use Rattle.pc_store.proofs.layer.Layer.new.Goals as goal

pub returns : goal.returns
returns c =
    let zeros = take-replicate {X = ℕ} c.args.domain 64 0 c.requires.few_values in
    let ones = take-replicate {X = ℕ} c.args.domain 64 1 c.requires.few_values in
    let first : c.intern.new.self ≡ with_row c.new-table.result (replicate c.args.domain 0) = c.in_ok-intern.ensures.rows ∙ ap (with_row c.new-table.result) (c.in_ok-empty.ensures.ok ∙ zeros) in
    let second : c.intern-2.new.self ≡ with_row c.intern.new.self (replicate c.args.domain 1) = c.in_ok-intern-2.ensures.rows ∙ ap (with_row c.intern.new.self) (c.in_ok-full.ensures.ok ∙ ones) in
    ap (λ table. record { domain = c.args.domain; table = table }) (second ∙ ap (λ t. with_row t (replicate c.args.domain 1)) (first ∙ ap (λ t. with_row t (replicate c.args.domain 0)) c.new-table.ensures) ∙ two_rows c.args.domain c.requires.some_value)
