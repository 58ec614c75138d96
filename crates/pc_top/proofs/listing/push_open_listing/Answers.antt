-- The costs of a version are those of its diagram's values.
use Rattle.std.proofs.Common.{subst}
use Rattle.pc_file.specs.Limits.{IsFile}
use Rattle.pc_build.proofs.VersionLemmas.{costs_of_version}
use Rattle.pc_top.proofs.listing.push_open_listing.Goals as goal

pub open_listing-requires-clause-costs : goal.open_listing-requires-clause-costs
open_listing-requires-clause-costs c =
    let made = c.args.version.now in
    costs_of_version made.file made.diagram.domains made.costs (subst IsFile c.file.ensures c.variables-variables.ensures.limits) made.domains made.priced
