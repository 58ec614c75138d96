use Rattle.std.proofs.Common.{sym, ◌∙◌}
use Rattle.pc_script.specs.Present.{Makes, StaysWith}
use Rattle.pc_script.proofs.CallLemmas.{err_given, made-present, ok_given, stayed-ready}
use Rattle.pc_script.proofs.callers.Callers.make.Goals as goal

pub let_go-requires : goal.let_go-requires
let_go-requires c = record {
  ready =
      let before = c.args.self.now.book in
      let later = c.make_call-made.new.book in
      let own = c.index_mut.result.now in
      stayed-ready before later c.args.self.now.present.items c.args.place own c.make_call-made.new.own own c.requires.present c.requires.place c.index_mut.ensures.value
      (err_given (StaysWith before later own c.make_call-made.new.own) c.make_call-made.result (sym c.is_err.ensures.value ∙ c.if-is_err.true) c.make_call-made.ensures.stays);
}

pub returns-else-is_err-clause-present : goal.returns-else-is_err-clause-present
returns-else-is_err-clause-present c =
    let before = c.args.self.now.book in
    let later = c.make_call-made.new.book in
    let own = c.index_mut.result.now in
    let made = ok_given (Makes c.args.call before later own c.make_call-made.new.own) c.make_call-made.result (sym c.is_err.ensures.value ∙ c.if-is_err.false) c.make_call-made.ensures.makes in
    made-present before later c.args.self.now.present.items c.args.place own c.make_call-made.new.own own c.requires.present c.requires.place c.index_mut.ensures.value c.args.call made.0 c.requires.staying made.1
