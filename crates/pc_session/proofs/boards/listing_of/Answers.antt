-- What the board lists is what the session shows.
use Rattle.pc_session.proofs.NextLemmas.{shows_all}
use Rattle.pc_session.proofs.boards.listing_of.Goals as goal

pub returns-clause-listing : goal.returns-clause-listing
returns-clause-listing g c = shows_all c.args.version.now c.args.board.now c.listing.result c.listing.ensures.listing
