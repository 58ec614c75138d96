use Rattle.std.proofs.Common.{◌≡◌, ◌<◌, ◌++◌, ◌∷◌, [], true, false, cond, length, take, sym, ap, ◌∙◌, arith}
use Rattle.std.specs.List.{list_any}
use Rattle.std.proofs.lemmas.Bool.{not-false, not-true}
use Rattle.std.proofs.lemmas.List.{take_more}
use Rattle.pc_names.specs.Spelling.{same_spelling}
use Rattle.pc_names.proofs.NamesLemmas.{differ_more, differ_no_more}
use Rattle.pc_names.proofs.names.Names.of.Goals as goal

pub returns-then-not-branch : goal.returns-then-not-branch
returns-then-not-branch c =
    let name = c.name-item.result in
    let seen = take c.loop-name.name-index c.args.list.now in
    let there : list_any (same_spelling name) seen ≡ true =
    ap (list_any (same_spelling name)) (sym c.loop-name.invariant.read) ∙ not-false _ (sym c.in_ok-add.ensures.added ∙ c.if-not-branch.true) in
    differ_no_more c.args.list.now c.loop-name.name-index name (omega arith) c.name-item.is there

pub loop-name-preserved : goal.loop-name-preserved
loop-name-preserved c =
    let name = c.name-item.result in
    let seen = take c.loop-name.name-index c.args.list.now in
    let new : list_any (same_spelling name) seen ≡ false =
    ap (list_any (same_spelling name)) (sym c.loop-name.invariant.read) ∙ not-true _ (sym c.in_ok-add.ensures.added ∙ c.if-not-branch.false) in
    let below : c.loop-name.name-index < length c.args.list.now = omega arith in
    record {
      read = c.in_ok-add.ensures.names ∙ ap (λ b. cond b (c.loop-name.names ++ name ∷ []) c.loop-name.names) c.if-not-branch.false
          ∙ ap (λ names. names ++ name ∷ []) c.loop-name.invariant.read
          ∙ sym (take_more c.args.list.now c.loop-name.name-index name below ∙ ap (λ n. seen ++ n ∷ []) (sym c.name-item.is));
      differ = differ_more c.args.list.now c.loop-name.name-index name below c.name-item.is c.loop-name.invariant.differ new;
    }
