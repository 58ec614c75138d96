use Rattle.std.proofs.Common.{◌≡◌, ◌++◌, length}
use Rattle.pc_file.specs.Products.{value_counts}
use Rattle.pc_file.proofs.ProductLemmas.{begun}
use Rattle.pc_file.proofs.products.+add_products.Given as goal

abbrev pub invariant-loop-value : goal.invariant-loop-value
invariant-loop-value l = record {
  word : l.word.items ≡ l.initial.word.items;
  words : l.words ≡ l.initial.words ++ begun l.file l.initial.word.items (value_counts l.others) l.value;
}

abbrev pub decreases-add_products : goal.decreases-add_products
decreases-add_products l = length l.rest.now
