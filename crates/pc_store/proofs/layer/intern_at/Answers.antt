use Rattle.pc_store.proofs.GrowthLemmas.{put_row_ok, put_has_ok}
use Rattle.pc_store.proofs.layer.intern_at.Goals as goal

pub returns-clause-row : goal.returns-clause-row
returns-clause-row c =
    put_has_ok c.args.layers.now.items c.args.place c.index_mut.result.now c.intern.new.self c.args.row.now.items c.intern.result c.requires c.intern.ensures.stands

pub returns-clause-grows : goal.returns-clause-grows
returns-clause-grows c =
    put_row_ok c.args.layers.now.items c.args.place c.index_mut.result.now c.intern.new.self c.args.row.now.items c.intern.result c.requires c.index_mut.ensures.value c.intern.ensures.rows
