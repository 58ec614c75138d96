use Rattle.pc_calls.proofs.SoundLaws.{legal_sound}
use Rattle.pc_calls.proofs.laws.sessions_are_at_live_versions.Goals as goal

pub returns : goal.returns
returns c = legal_sound
