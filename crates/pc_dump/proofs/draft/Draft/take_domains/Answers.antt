-- The line of the domains.
use Rattle.std.proofs.Common.{[], length, subst, sym, arith}
use Rattle.pc_dump.specs.declared.draft.Awaited.TheVariants.{Layer}
use Rattle.pc_dump.specs.Draft.{TakesLine}
use Rattle.pc_dump.specs.Form.{IsNumber}
use Rattle.pc_dump.proofs.StepLemmas.{domains_taken}
use Rattle.pc_dump.proofs.draft.Draft.take_domains.Goals as goal

pub returns-clause-taken : goal.returns-clause-taken
returns-clause-taken c _ =
    let b = c.args.self.now in
    let domains = c.in-Some.domains in
    let words = rw c.in-Some.is at c.in_ok-domains.ensures.is in
    let numbers = rw c.in-Some.is at c.in_ok-domains.ensures.small in
    let few : IsNumber (length domains) = omega (arith, c.len.ensures) in
    rw (c.new.ensures, c.new-2.ensures)
    (subst (λ w. TakesLine w b (record { domains = domains; sizes = []; edges = []; rows = c.new-3.result; awaited = Layer })) (sym words) (domains_taken b domains c.new-3.result c.requires few numbers))
