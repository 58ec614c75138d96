use Rattle.pc_top.proofs.DumpLemmas.{means_dumped, means_refused}
use Rattle.pc_top.proofs.response.Response.to_dump.Goals as goal

pub returns-in-Version : goal.returns-in-Version
returns-in-Version c =
    let made = c.in-Version.version in
    let built = rw c.in-Version.is at c.in_ok-version.ensures in
    means_dumped c.args.text.now made.file made.diagram c.dumped.result built.0 built.1 built.2 made.domains made.words c.dumped.ensures

pub returns-in-Refused : goal.returns-in-Refused
returns-in-Refused c =
    let built = rw c.in-Refused.is at c.in_ok-version.ensures in
    means_refused c.args.text.now c.in-Refused.reply built.0 built.1 built.2
