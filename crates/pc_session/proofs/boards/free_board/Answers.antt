-- The costs of a version are those of its diagram's values.
use Rattle.pc_session.proofs.boards.free_board.Goals as goal

pub new-requires-clause-costs : goal.new-requires-clause-costs
new-requires-clause-costs g c = c.args.version.now.valued
