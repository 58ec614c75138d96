use Rattle.std.proofs.Common.{◌≡◌, ℕ, ◌+◌, ◌-◌, ◌<◌, ◌≤◌, Bool, true, false, ◌||◌, nat_lt, [], length, Option, Some, None, Err, sym, ap, ◌∙◌, arith}
use Rattle.std.proofs.lemmas.List.{nil_from_length}
use Rattle.std.proofs.lemmas.Bool.{or_parts}
use Rattle.std.proofs.lemmas.Bool.Decides.{nat_tests}
use Rattle.pc_rules.specs.declared.kind.Kind.{Kind}
use Rattle.pc_text.specs.declared.text_fault.TextFault.{TextFault}
use Rattle.pc_text.specs.declared.text_fault.TextFault.TheVariants.{At, NoMemory}
use Rattle.pc_text.specs.Told.{TellsAt, ReadsText}
use Rattle.pc_text.specs.FirstFault.{is_large, end_fault, at, first_fault, given_by, give_line, line_fault}
use Rattle.pc_text.specs.declared.draft.Draft.{Draft}
use Rattle.pc_text.specs.Draft.{given_of}
use Rattle.pc_text.proofs.FaultLemmas.{given_step, fault_end, given_end, less_after, stops_large, stops_faulty, goes_on}
use Rattle.pc_text.proofs.reading.read_statements.Goals as goal

pub overflow_sub-text : goal.overflow_sub-text
overflow_sub-text c =
    let rest = c.loop-rest.rest.now in
    let some : 0 < length rest = grind (arith, c.is_empty.ensures, c.loop-rest-test.true) in
    omega (arith, less_after rest some, ap length c.cut_line.ensures.after, c.loop-rest.invariant.within)

pub returns-then-is_large : goal.returns-then-is_large
returns-then-is_large c =
    let rest = c.loop-rest.rest.now in
    let some : 0 < length rest = grind (arith, c.is_empty.ensures, c.loop-rest-test.true) in
    let i = c.loop-rest.invariant in
    stops_large (given_of c.loop-rest.draft) c.loop-rest.number c.args.text.now rest c.cut_line.result.0.now c.cut_line.result.1.now some i.within c.cut_line.ensures.line c.cut_line.ensures.after i.fault
    (sym c.is_large.ensures ∙ c.if-is_large.true)

told : {X Y : Type 0} (P : X → Type 0) (fault : TextFault) (number : ℕ) (found : Option Kind) (Q : Y → Type 0) (first : Option (ℕ × Kind)) → ((kind : Kind) → found ≡ Some kind → first ≡ Some (number, kind)) →
    TellsAt number (Err fault) found Q → ReadsText P (Err fault) first
told P (At line kind) number found Q first tells answer = tells kind answer.1 ∙ ap (λ n. Some (n, kind)) (sym answer.0)
told P NoMemory number found Q first tells answer = tt

pub returns-in-Err : goal.returns-in-Err
returns-in-Err c =
    let rest = c.loop-rest.rest.now in
    let text = c.args.text.now in
    let line = c.cut_line.result.0.now in
    let given = given_of c.loop-rest.draft in
    let some : 0 < length rest = grind (arith, c.is_empty.ensures, c.loop-rest-test.true) in
    let i = c.loop-rest.invariant in
    let small : is_large c.loop-rest.number (length text - length c.cut_line.result.1.now) line ≡ false = sym c.is_large.ensures ∙ c.if-is_large.false in
    told (λ (draft : Draft). given_of draft ≡ given_by text) c.in-Err.fault c.loop-rest.number (line_fault given line) (λ (next : Draft). given_of next ≡ give_line given line) (first_fault text)
    (λ kind. stops_faulty given c.loop-rest.number text rest line c.cut_line.result.1.now some i.within c.cut_line.ensures.line c.cut_line.ensures.after i.fault kind small)
    c.in-Err.ensures

pub loop-rest-smaller : goal.loop-rest-smaller
loop-rest-smaller c =
    let rest = c.loop-rest.rest.now in
    let some : 0 < length rest = grind (arith, c.is_empty.ensures, c.loop-rest-test.true) in
    omega (arith, less_after rest some, ap length c.cut_line.ensures.after)

few : (a b number : ℕ) (large : Bool) → (nat_lt 65536 a || nat_lt 8192 number || nat_lt 1048576 b) ≡ false → number + 1 ≤ 8193
few a b number large h =
    let parts = or_parts (nat_lt 65536 a || nat_lt 8192 number) (nat_lt 1048576 b) h in
    let front = or_parts (nat_lt 65536 a) (nat_lt 8192 number) parts.0 in
    grind (arith, nat_tests)

pub loop-rest-preserved : goal.loop-rest-preserved
loop-rest-preserved c =
    let rest = c.loop-rest.rest.now in
    let text = c.args.text.now in
    let line = c.cut_line.result.0.now in
    let after = c.cut_line.result.1.now in
    let given = given_of c.loop-rest.draft in
    let number = c.loop-rest.number in
    let some : 0 < length rest = grind (arith, c.is_empty.ensures, c.loop-rest-test.true) in
    let i = c.loop-rest.invariant in
    let small : is_large number (length text - length after) line ≡ false = sym c.is_large.ensures ∙ c.if-is_large.false in
    let answer = c.in-Ok.ensures in
    record {
      within = omega (arith, less_after rest some, ap length c.cut_line.ensures.after, i.within);
      numbered = few (length line) (length text - length after) number true small;
      fault = rw answer.1 (goes_on given number text rest line after some i.within c.cut_line.ensures.line c.cut_line.ensures.after i.fault small answer.0);
      given = rw (answer.1, c.cut_line.ensures.after, c.cut_line.ensures.line) (sym (given_step given rest some) ∙ i.given);
    }

pub returns-in-Some : goal.returns-in-Some
returns-in-Some c =
    let i = c.loop-rest.invariant in
    let rest = c.loop-rest.rest.now in
    let text = c.args.text.now in
    let empty : rest ≡ [] = nil_from_length rest (grind (arith, c.is_empty.ensures, c.loop-rest-test.false)) in
    let given = given_of c.loop-rest.draft in
    sym i.fault ∙ fault_end given c.loop-rest.number (length text - length rest) (length text) rest empty ∙ ap (λ last. at c.loop-rest.number (end_fault last)) (sym c.last.ensures)
    ∙ ap (at c.loop-rest.number) (sym c.in-Some.ensures)

pub returns-in-None : goal.returns-in-None
returns-in-None c =
    let i = c.loop-rest.invariant in
    let rest = c.loop-rest.rest.now in
    let text = c.args.text.now in
    let empty : rest ≡ [] = nil_from_length rest (grind (arith, c.is_empty.ensures, c.loop-rest-test.false)) in
    let given = given_of c.loop-rest.draft in
    let held : given ≡ given_by text = sym (given_end given rest empty) ∙ i.given in
    let sound : first_fault text ≡ None =
    sym i.fault ∙ fault_end given c.loop-rest.number (length text - length rest) (length text) rest empty ∙ ap (λ last. at c.loop-rest.number (end_fault last)) (sym c.last.ensures)
    ∙ ap (at c.loop-rest.number) (sym c.in-None.ensures) in
    (sound, held)
