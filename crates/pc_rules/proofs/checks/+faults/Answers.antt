use Rattle.std.proofs.Common.{◌≡◌, ◌||◌, List, ℕ, length, true, false, ap, sym, ◌∙◌}
use Rattle.std.specs.List.{list_any}
use Rattle.pc_rules.specs.RuleFaults.{test_of, has_fault}
use Rattle.pc_rules.proofs.PhraseLemmas.{has_fault-And, has_fault-Or, has_fault-AtMost}
use Rattle.pc_rules.proofs.checks.+faults.Goals as goal

pub has_fault-returns-in-And : goal.has_fault-returns-in-And
has_fault-returns-in-And t c =
    let test = has_fault c.args.fault in
    c.some_has_fault.ensures ∙ ap (list_any test) c.as_slice.ensures ∙ sym (has_fault-And c.args.fault c.in-And.members) ∙ ap test (sym c.in-And.is)

pub has_fault-returns-in-Or : goal.has_fault-returns-in-Or
has_fault-returns-in-Or t c =
    let test = has_fault c.args.fault in
    c.some_has_fault-in-Or.ensures ∙ ap (list_any test) c.as_slice-in-Or.ensures ∙ sym (has_fault-Or c.args.fault c.in-Or.members) ∙ ap test (sym c.in-Or.is)

pub has_fault-returns-then-stands : goal.has_fault-returns-then-stands
has_fault-returns-then-stands t c =
    let members = c.in-AtMost.members in
    let most = c.in-AtMost.most in
    let first : test_of c.args.fault most (length members) ≡ true =
    ap (λ (bytes : List ℕ). test_of c.args.fault bytes (length members)) (sym c.as_bytes.ensures) ∙ ap (test_of c.args.fault c.as_bytes.result.now) (sym c.len.ensures) ∙ sym c.stands.ensures ∙ c.if-stands.true in
    c.if-stands.true ∙ sym (ap (λ b. b || list_any (has_fault c.args.fault) members) first) ∙ sym (has_fault-AtMost c.args.fault most members) ∙ ap (has_fault c.args.fault) (sym c.in-AtMost.is)

pub has_fault-returns-else-stands : goal.has_fault-returns-else-stands
has_fault-returns-else-stands t c =
    let members = c.in-AtMost.members in
    let most = c.in-AtMost.most in
    let first : test_of c.args.fault most (length members) ≡ false =
    ap (λ (bytes : List ℕ). test_of c.args.fault bytes (length members)) (sym c.as_bytes.ensures) ∙ ap (test_of c.args.fault c.as_bytes.result.now) (sym c.len.ensures) ∙ sym c.stands.ensures ∙ c.if-stands.false in
    c.some_has_fault-else-stands.ensures ∙ ap (list_any (has_fault c.args.fault)) c.as_slice-else-stands.ensures
    ∙ sym (ap (λ b. b || list_any (has_fault c.args.fault) members) first) ∙ sym (has_fault-AtMost c.args.fault most members) ∙ ap (has_fault c.args.fault) (sym c.in-AtMost.is)
