use Rattle.std.proofs.Common.{[]}
use Rattle.std.specs.Prelude.{slice_index_or}
use Rattle.pc_labels.proofs.RankLemmas.{room_anew}
use Rattle.pc_labels.proofs.from_root.next_heads.Goals as goal

pub spread-requires-clause-room : goal.spread-requires-clause-room
spread-requires-clause-room g c = room_anew (slice_index_or c.args.costs.now c.args.variable []) c.args.before.now c.in_ok-anew.anew c.in_ok-anew.ensures.anew c.requires.room
