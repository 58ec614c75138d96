-- A session crosses threads as its version and its board do, and what a move gives as its session does.
use denote.Param.Send.{sendable}
use Rattle.pc_session.proofs.Crossing.{rebased_send, rebased_sync, session_send, session_sync}
use Rattle.pc_session.proofs.laws.sessions_cross_threads.Goals as goal

pub crosses_threads-requires-send-T : goal.crosses_threads-requires-send-T
crosses_threads-requires-send-T c κs = search (session_send, sendable)

pub crosses_threads-requires-sync-T : goal.crosses_threads-requires-sync-T
crosses_threads-requires-sync-T c κs = search (session_sync, sendable)

pub crosses_threads-requires-3-send-T : goal.crosses_threads-requires-3-send-T
crosses_threads-requires-3-send-T c κs = search (rebased_send, sendable)

pub crosses_threads-requires-3-sync-T : goal.crosses_threads-requires-3-sync-T
crosses_threads-requires-3-sync-T c κs = search (rebased_sync, sendable)
