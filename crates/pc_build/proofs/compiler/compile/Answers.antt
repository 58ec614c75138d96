-- The version is made of the diagram of the file's products and of its costs.
use Rattle.std.proofs.Common.{◌≡◌, ◌∙◌, subst, ap}
use Rattle.std.proofs.lemmas.Result.{err_from_is_err_and}
use Rattle.pc_file.specs.Contents.{Contents}
use Rattle.pc_file.specs.Costs.{costs_of}
use Rattle.pc_file.specs.Full.{full_domains, full}
use Rattle.pc_file.specs.Limits.{IsFile}
use Rattle.pc_build.specs.Building.{IsBuildFault}
use Rattle.pc_build.proofs.VersionLemmas.{costs_of_version, node_for_each_rest, some_full}
use Rattle.pc_build.proofs.compiler.compile.Goals as goal

pub returns-in_err-diagram-clause-fault : goal.returns-in_err-diagram-clause-fault
returns-in_err-diagram-clause-fault c =
    let p = err_from_is_err_and c.from_residual.result c.from_residual.ensures.1 in
    rw (p.1, p.2) (subst (λ (f : Contents). IsBuildFault f c.in_err-diagram.field-0.0) c.file-2.ensures c.in_err-diagram.ensures.fault)

pub returns-clause-nodes : goal.returns-clause-nodes
returns-clause-nodes c =
    node_for_each_rest c.args.file c.in_ok-diagram.diagram c.in_ok-diagram.ensures.canonical
    (c.in_ok-diagram.ensures.domains ∙ ap full_domains c.file-2.ensures) (c.in_ok-diagram.ensures.words ∙ ap full c.file-2.ensures)

pub returns-clause-some : goal.returns-clause-some
returns-clause-some c = some_full c.args.file c.in_ok-diagram.diagram c.in_ok-diagram.ensures.canonical (c.in_ok-diagram.ensures.words ∙ ap full c.file-2.ensures)

pub invariant_of-result : goal.invariant_of-result
invariant_of-result c =
    let domains = c.in_ok-diagram.ensures.domains ∙ ap full_domains c.file-2.ensures in
    let priced : c.in_ok-costs.costs ≡ costs_of c.args.file.variables =
    c.in_ok-costs.ensures ∙ ap costs_of (c.variables.ensures.variables ∙ ap (λ (f : Contents). f.variables) c.file-3.ensures) in
    record {
      domains = domains;
      words = c.in_ok-diagram.ensures.words ∙ ap full c.file-2.ensures;
      priced = priced;
      valued = costs_of_version c.args.file c.in_ok-diagram.diagram.domains c.in_ok-costs.costs (subst IsFile c.file-3.ensures c.variables.ensures.limits) domains priced;
    }
