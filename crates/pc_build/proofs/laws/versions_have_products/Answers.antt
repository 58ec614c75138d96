use Rattle.pc_build.proofs.VersionLemmas.{some_full}
use Rattle.pc_build.proofs.laws.versions_have_products.Goals as goal

pub returns : goal.returns
returns c =
    let version = c.args.version.now in
    some_full version.file version.diagram c.domains-domains.ensures.canonical version.words
