use Rattle.std.proofs.Common.{length, ap, ◌∙◌}
use Rattle.std.specs.List.{list_all}
use Rattle.pc_file.specs.Limits.{is_sized}
use Rattle.pc_file.proofs.ProductLemmas.{sized}
use Rattle.pc_file.proofs.products.has_too_many_words.Goals as goal

pub word_count-requires : goal.word_count-requires
word_count-requires c =
    let file = c.args.file.now in
    ap (list_all is_sized) c.variables.ensures.variables ∙ sized (length file.costs) file.variables c.variables.ensures.limits.each_variable
