-- One variable more.
use Rattle.std.proofs.Common.{◌≡◌, ◌+◌, ◌*◌, ◌<◌, ◌≤◌, ◌++◌, [], ◌∷◌, length, get_or, map, sym, ap, ◌∙◌, arith}
use Rattle.std.specs.List.{range_with_len}
use Rattle.std.proofs.lemmas.List.{length-map}
use Rattle.std.proofs.lemmas.List.FromFn.{map-range_with_len_more}
use Rattle.pc_diagram.specs.Fitting.{fitting}
use Rattle.pc_diagram.specs.Listing.{items}
use Rattle.pc_diagram.specs.Paths.{words}
use Rattle.pc_domains.proofs.BoardLemmas.{slots_next, slots_up}
use Rattle.pc_domains.proofs.board.Board.listing.Goals as goal

pub returns-in_err-row-clause-steps : goal.returns-in_err-row-clause-steps
returns-in_err-row-clause-steps g c =
    let raw = c.args.diagram.now in
    let k = c.loop-variable.variable in
    let domains = c.domains-domain-items.ensures.domains in
    let inside : k < length raw.domains = omega (arith, ap length domains) in
    let taken : c.row.new.steps ≤ c.loop-variable.steps + get_or c.domains-domain-items.result.now k 0 * get_or raw.sizes k 0 = c.row.ensures.steps in
    omega (arith, taken, ap (λ ds. get_or ds k 0 * get_or raw.sizes k 0) domains, c.loop-variable.invariant.1, slots_next raw k, slots_up raw (k + 1) (length raw.domains) (omega arith))

pub returns-in_err-push-clause-steps : goal.returns-in_err-push-clause-steps
returns-in_err-push-clause-steps g c =
    let raw = c.args.diagram.now in
    let k = c.loop-variable.variable in
    let domains = c.domains-domain-items.ensures.domains in
    let inside : k < length raw.domains = omega (arith, ap length domains) in
    let taken : c.row.new.steps ≤ c.loop-variable.steps + get_or c.domains-domain-items.result.now k 0 * get_or raw.sizes k 0 = c.row.ensures.steps in
    omega (arith, taken, ap (λ ds. get_or ds k 0 * get_or raw.sizes k 0) domains, c.loop-variable.invariant.1, slots_next raw k, slots_up raw (k + 1) (length raw.domains) (omega arith))

pub loop-variable-preserved : goal.loop-variable-preserved
loop-variable-preserved g c =
    let raw = c.args.diagram.now in
    let costs = c.args.costs.now in
    let k = c.loop-variable.variable in
    let row_of = items costs (fitting costs (words raw) c.args.self.now.choices c.args.self.now.bounds) in
    let domains = c.domains-domain-items.ensures.domains in
    let taken : c.row.new.steps ≤ c.loop-variable.steps + get_or c.domains-domain-items.result.now k 0 * get_or raw.sizes k 0 = c.row.ensures.steps in (
      c.in_ok-push.ensures.ok ∙ ap (λ rows. rows ++ c.in_ok-row.field-0 ∷ []) c.loop-variable.invariant.0
          ∙ ap (λ row. map row_of (range_with_len 0 k) ++ row ∷ []) c.in_ok-row.ensures.row
          ∙ sym (map-range_with_len_more row_of 0 k k (omega arith)),
      omega (arith, taken, ap (λ ds. get_or ds k 0 * get_or raw.sizes k 0) domains, c.loop-variable.invariant.1, slots_next raw k),
    )

pub returns-clause-listing : goal.returns-clause-listing
returns-clause-listing g c =
    let raw = c.args.diagram.now in
    let costs = c.args.costs.now in
    let row_of = items costs (fitting costs (words raw) c.args.self.now.choices c.args.self.now.bounds) in
    let many : length costs ≡ length raw.domains = sym (length-map costs length) ∙ ap length c.requires.board.costs_of.pairs in
    let ends : c.loop-variable.variable ≡ length costs = omega (arith, ap length c.domains-domain-items.ensures.domains, many, c.loop-variable.auto.variable-end) in
    c.loop-variable.invariant.0 ∙ ap (λ n. map row_of (range_with_len 0 n)) ends
