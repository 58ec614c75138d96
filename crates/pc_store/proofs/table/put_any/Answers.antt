use Rattle.std.proofs.Common.{◌∙◌}
use Rattle.pc_store.proofs.TableLemmas.{row_put, row_stored}
use Rattle.pc_store.proofs.table.put_any.Goals as goal

pub returns-clause-stands : goal.returns-clause-stands
returns-clause-stands c =
    let stored = c.in_ok-place.ensures.stored in
    row_stored (λ row. row.items) c.args.row.now.items c.insert_full.new.self.keys c.in_ok-copy.copy stored.0 c.in_ok-place.place (c.in_ok-copy.ensures.ok ∙ c.as_slice.ensures) stored.1 stored.2

pub returns-clause-rows : goal.returns-clause-rows
returns-clause-rows c =
    row_put (λ row. row.items) c.args.row.now.items c.args.rows.now.keys c.insert_full.new.self.keys c.in_ok-copy.copy (c.in_ok-copy.ensures.ok ∙ c.as_slice.ensures) c.in_ok-place.ensures.keys
