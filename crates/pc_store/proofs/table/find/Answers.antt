use Rattle.std.proofs.Common.{◌∙◌}
use Rattle.pc_store.proofs.TableLemmas.{row_found, list_any-rows}
use Rattle.pc_store.proofs.table.find.Goals as goal

pub returns-clause-place : goal.returns-clause-place
returns-clause-place c = row_found (λ row. row.items) c.args.row.now.items c.args.rows.now.keys c.get_index_of.result c.get_index_of.ensures.index

pub returns-clause-there : goal.returns-clause-there
returns-clause-there c = c.get_index_of.ensures.found ∙ list_any-rows (λ row. row.items) c.args.row.now.items c.args.rows.now.keys
