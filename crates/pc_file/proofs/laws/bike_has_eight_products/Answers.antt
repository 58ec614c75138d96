use Rattle.std.proofs.Common.{[], refl, ap}
use Rattle.std.specs.Fmt.{digits}
use Rattle.pc_diagram.specs.Bounds.{no_bounds}
use Rattle.pc_diagram.specs.Listing.{listing}
use Rattle.pc_file.specs.Costs.{costs_of}
use Rattle.pc_file.specs.Bike.{bike}
use Rattle.pc_file.proofs.BikeLemmas.{bike_is_file, bike_parts, bike_products, bike_text}
use Rattle.pc_file.proofs.laws.bike_has_eight_products.Goals as goal

pub returns-clause-limits : goal.returns-clause-limits
returns-clause-limits c = bike_is_file

pub returns-clause-products : goal.returns-clause-products
returns-clause-products c = bike_products

pub returns-clause-listing : goal.returns-clause-listing
returns-clause-listing c = ap (λ words. listing (costs_of bike.variables) words [] no_bounds) bike_products

pub returns-clause-text : goal.returns-clause-text
unfolding digits
returns-clause-text c = refl

pub returns-clause-printed : goal.returns-clause-printed
returns-clause-printed c = bike_text

pub returns-clause-parts : goal.returns-clause-parts
returns-clause-parts c = bike_parts
