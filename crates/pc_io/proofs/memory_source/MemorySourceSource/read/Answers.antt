use Rattle.std.proofs.Common.{sym, ap, ◌∙◌, arith}
use Rattle.std.proofs.lemmas.List.{take_rest}
use Rattle.pc_io.specs.Memory.{Supply}
use Rattle.pc_io.proofs.Pieces.{copied_piece}
use Rattle.pc_io.proofs.memory_source.MemorySourceSource.read.Goals as goal

pub returns-clause-bytes : goal.returns-clause-bytes
returns-clause-bytes c =
    let s = c.self.inside in
    let after = rw (take_rest, c.deref.ensures.value) at c.copy_from_slice.ensures.after in
    let size = rw (take_rest, c.deref.ensures.value) at c.min-count.ensures in
    sym (ap (λ (supply : Supply). supply.left) c.self.view_is)
    ∙ copied_piece s.bytes.items c.copy_from_slice.new.self _ s.taken c.min-count.result (omega (arith, size)) after
