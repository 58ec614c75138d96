-- By the lemmas on listings.
use Rattle.pc_diagram.proofs.ListingLemmas.{length-listing, listing_of-values, listing_of-are_cheapest}
use Rattle.pc_diagram.proofs.laws.listing_has_the_valid_values.Goals as goal

pub returns-clause-rows : goal.returns-clause-rows
returns-clause-rows c = length-listing

pub returns-clause-values : goal.returns-clause-values
returns-clause-values c = listing_of-values

pub returns-clause-items : goal.returns-clause-items
returns-clause-items c = listing_of-are_cheapest
