use Rattle.std.proofs.Common.{refl}
use Rattle.pc_apply.specs.declared.split.Split.{Split}
use Rattle.pc_apply.proofs.SplitLemmas.{counts_rest}
use Rattle.pc_apply.proofs.split.Split.count_in.Goals as goal

pub returns-in_ok-push : goal.returns-in_ok-push
returns-in_ok-push c =
    let new : Split = record { full = c.args.self.now.full; rest = c.push.new.self } in
    counts_rest c.args.store.now c.args.layer c.args.set c.args.self.now new c.requires.set refl c.in_ok-push.ensures.items
