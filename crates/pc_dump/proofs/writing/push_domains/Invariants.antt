-- The numbers so far, each after a space.
use Rattle.std.proofs.Common.{◌≡◌, ◌++◌, take}
use Rattle.std.specs.Fmt.{decimal}
use Rattle.pc_dump.proofs.WriteLemmas.{spaced}
use Rattle.pc_dump.proofs.writing.push_domains.Given as goal

abbrev pub invariant-loop-domain : goal.invariant-loop-domain
invariant-loop-domain l = l.text ≡ l.initial.text ++ spaced decimal (take l.domain-index l.domains)
