-- What a file is refused for.
use Rattle.pc_top.specs.Refusals.{refused_no_product, refused_node_limit}
use Rattle.pc_top.proofs.RefusalLemmas.{file_passes, no_product, too_large}
use Rattle.pc_top.proofs.building.build_file.Goals as goal

pub returns-in-Ok : goal.returns-in-Ok
returns-in-Ok c =
    let made = c.in-Ok.ensures in
    (file_passes c.args.file made.small made.some, made.file, made.canonical)

pub returns-in_ok-refused_node_limit-in-Err-NodeLimit : goal.returns-in_ok-refused_node_limit-in-Err-NodeLimit
returns-in_ok-refused_node_limit-in-Err-NodeLimit c =
    let found = c.in-Err-NodeLimit in
    let fault = rw found.field-0-is at found.ensures.fault in
    (refused_node_limit found.rule found.part, too_large c.args.file found.rule found.part fault, c.in_ok-refused_node_limit-in-Err-NodeLimit.ensures)

pub returns-in_ok-refused_no_product-in-Err-NoProduct : goal.returns-in_ok-refused_no_product-in-Err-NoProduct
returns-in_ok-refused_no_product-in-Err-NoProduct c =
    let fault = rw c.in-Err-NoProduct.field-0-is at c.in-Err-NoProduct.ensures.fault in
    (refused_no_product, no_product c.args.file fault.0 fault.1, c.in_ok-refused_no_product-in-Err-NoProduct.ensures)
