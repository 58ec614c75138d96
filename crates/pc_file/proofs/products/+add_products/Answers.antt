use Rattle.std.proofs.Common.{◌≡◌, ◌++◌, ◌∷◌, [], filter, length, rules, ap, sym, ◌∙◌, append_assoc, arith}
use Rattle.std.specs.Vec.{vec_len}
use Rattle.pc_file.specs.Products.{obeys, products_after, value_counts}
use Rattle.pc_file.proofs.ProductLemmas.{begun, begun-zero, begun_more, begun_all, after_all, popped}
use Rattle.std.proofs.lemmas.List.{append-nil, nil_from_length}
use Rattle.std.proofs.lemmas.Result.{on_ok_weaker}
use Rattle.pc_file.proofs.products.+add_products.Goals as goal

pub loop-value-init : goal.loop-value-init
loop-value-init t c = record {
  word = search rules;
  words = sym (ap (λ more. c.args.words.now ++ more) (begun-zero c.args.file.now c.args.word.now.items (value_counts c.in-Some.others.now)) ∙ append-nil c.args.words.now);
}

pub loop-value-preserved : goal.loop-value-preserved
loop-value-preserved t c =
    let file = c.args.file.now in
    let counts = value_counts c.in-Some.others.now in
    let start = c.args.word.now.items in
    let value = c.loop-value.value in
    let added = c.in_ok-add_products.ensures in
    let pushed : c.push.new.self.items ≡ start ++ value ∷ [] = c.in_ok-push.ensures.items ∙ ap (λ word. word ++ value ∷ []) c.loop-value.invariant.word in
    record {
      word = c.pop.ensures.rest ∙ popped start c.add_products.new.word.items value (vec_len c.add_products.new.word) c.add_products.new.word.ok.0 (added.word ∙ pushed);
      words =
          added.words
          ∙ ap (λ word. c.loop-value.words ++ products_after file word counts) pushed
          ∙ ap (λ words. words ++ products_after file (start ++ value ∷ []) counts) c.loop-value.invariant.words
          ∙ append_assoc c.args.words.now (begun file start counts value) (products_after file (start ++ value ∷ []) counts)
          ∙ ap (λ more. c.args.words.now ++ more) (sym (begun_more file start counts value));
    }

pub returns-clause-words : goal.returns-clause-words
returns-clause-words t c =
    let file = c.args.file.now in
    let variable = c.in-Some.variable.now in
    let others = c.in-Some.others.now in
    let whole : c.args.rest.now ≡ variable ∷ others = search rules in
    let ended : c.loop-value.value ≡ length variable.values = omega arith in
    c.loop-value.invariant.words
    ∙ ap (λ value. c.args.words.now ++ begun file c.args.word.now.items (value_counts others) value) ended
    ∙ ap (λ more. c.args.words.now ++ more) (begun_all file c.args.word.now.items (value_counts others) (length variable.values))
    ∙ ap (λ rest. c.args.words.now ++ products_after file c.args.word.now.items (value_counts rest)) (sym whole)

pub returns-in_default-clause-words : goal.returns-in_default-clause-words
returns-in_default-clause-words t c =
    let file = c.args.file.now in
    let empty : c.args.rest.now ≡ [] = nil_from_length c.args.rest.now c.in_default.ensures.cases in
    let alone : filter (obeys file) (c.deref.result.now ∷ []) ≡ products_after file c.args.word.now.items (value_counts c.args.rest.now) =
    ap (λ word. filter (obeys file) (word ∷ [])) c.deref.ensures.value ∙ sym (after_all file c.args.word.now.items)
    ∙ ap (λ rest. products_after file c.args.word.now.items (value_counts rest)) (sym empty) in
    on_ok_weaker c.add_if_product.result (λ e. e ∙ ap (λ more. c.args.words.now ++ more) alone) c.add_if_product.ensures
