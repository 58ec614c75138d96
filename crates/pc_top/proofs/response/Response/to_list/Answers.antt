use Rattle.pc_top.proofs.ListLemmas.{listed_is, means_exact, refused_is, reply_means}
use Rattle.pc_top.proofs.response.Response.to_list.Goals as goal

pub returns-in-Version-clause-exact : goal.returns-in-Version-clause-exact
returns-in-Version-clause-exact c =
    let made = c.in-Version.version in
    let built = rw c.in-Version.is at c.in_ok-version.ensures in
    listed_is c.args.text.now made.file c.listed.result built.0 built.1 c.listed.ensures

pub returns-in-Version-clause-means : goal.returns-in-Version-clause-means
returns-in-Version-clause-means c = means_exact c.args.text.now c.listed.result (returns-in-Version-clause-exact c)

pub returns-in-Refused-clause-exact : goal.returns-in-Refused-clause-exact
returns-in-Refused-clause-exact c =
    let built = rw c.in-Refused.is at c.in_ok-version.ensures in
    refused_is c.args.text.now c.in-Refused.reply built.0 built.1 built.2

pub returns-in-Refused-clause-means : goal.returns-in-Refused-clause-means
returns-in-Refused-clause-means c = reply_means c.args.text.now c.in-Refused.reply (returns-in-Refused-clause-exact c)
