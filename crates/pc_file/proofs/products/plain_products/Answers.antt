use Rattle.std.proofs.Common.{◌++◌, [], length, ap, ◌∙◌}
use Rattle.std.specs.List.{list_all}
use Rattle.pc_file.specs.Limits.{is_sized}
use Rattle.pc_file.specs.Products.{products_after, value_counts}
use Rattle.pc_file.proofs.ProductLemmas.{sized, from_nothing}
use Rattle.pc_file.proofs.products.plain_products.Goals as goal

pub add_products-requires : goal.add_products-requires
add_products-requires c =
    let file = c.args.file.now in
    ap (list_all is_sized) c.variables.ensures.variables ∙ sized (length file.costs) file.variables c.variables.ensures.limits.each_variable

pub returns-clause-products : goal.returns-clause-products
returns-clause-products c =
    let file = c.args.file.now in
    let counts = value_counts c.variables.result.now in
    c.in_ok-add_products.ensures.words
    ∙ ap (λ words. words ++ products_after file c.new-word.result.items counts) c.new-words.ensures
    ∙ ap (λ word. products_after file word counts) c.new-word.ensures.items
    ∙ ap (λ variables. products_after file [] (value_counts variables)) c.variables.ensures.variables
    ∙ from_nothing file
