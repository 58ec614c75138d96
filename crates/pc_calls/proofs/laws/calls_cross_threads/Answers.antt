use denote.Param.Send.{sendable}
use Rattle.pc_calls.proofs.Crossing.{entry_send, entry_sync}
use Rattle.pc_calls.proofs.laws.calls_cross_threads.Goals as goal

pub crosses_threads-requires-3-send-T : goal.crosses_threads-requires-3-send-T
crosses_threads-requires-3-send-T c κs = search (entry_send, sendable)

pub crosses_threads-requires-3-sync-T : goal.crosses_threads-requires-3-sync-T
crosses_threads-requires-3-sync-T c κs = search (entry_sync, sendable)
