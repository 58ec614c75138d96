-- Sessions, and what their moves give, may go to other threads, and be shared.
use denote.Param.Send.{IsSend, IsSync, sendable}
use Rattle.std.proofs.Crossing.{crosses}
use Rattle.pc_labels.specs.contracts.labels.Labels as labels_type
use Rattle.pc_pareto.specs.contracts.fronts.Fronts as fronts_type
use Rattle.pc_build.specs.contracts.shared_version.SharedVersion as version_type
use Rattle.pc_domains.specs.contracts.board.Board as board_type
use Rattle.pc_calls.proofs.Crossing.{shared_send, shared_sync}
use Rattle.pc_session.specs.contracts.rebased.Rebased as rebased_type
use Rattle.pc_session.specs.contracts.session.Session as session_type

fronts_send : IsSend fronts_type.the_row
fronts_send = search (crosses, sendable) depth 40 fits 20000

labels_send : IsSend labels_type.the_row
labels_send = search (crosses, sendable) depth 40 fits 20000

version_send : IsSend version_type.the_row
version_send = search (shared_send, shared_sync, crosses, sendable) depth 60 fits 20000

board_send : IsSend (board_type.the_field).row
board_send = search (labels_send, fronts_send, crosses, sendable) depth 40 fits 20000

fronts_sync : IsSync fronts_type.the_row
fronts_sync = search (crosses, sendable) depth 40 fits 20000

labels_sync : IsSync labels_type.the_row
labels_sync = search (crosses, sendable) depth 40 fits 20000

version_sync : IsSync version_type.the_row
version_sync = search (shared_send, shared_sync, crosses, sendable) depth 60 fits 20000

board_sync : IsSync (board_type.the_field).row
board_sync = search (labels_sync, fronts_sync, crosses, sendable) depth 40 fits 20000

pub session_send : IsSend session_type.the_row
session_send = search (version_send, board_send, crosses, sendable) depth 40 fits 20000

pub session_sync : IsSync session_type.the_row
session_sync = search (version_sync, board_sync, crosses, sendable) depth 40 fits 20000

pub rebased_send : IsSend (rebased_type.the_field).row
rebased_send = search (session_send, crosses, sendable) depth 60 fits 20000

pub rebased_sync : IsSync (rebased_type.the_field).row
rebased_sync = search (session_sync, crosses, sendable) depth 60 fits 20000
