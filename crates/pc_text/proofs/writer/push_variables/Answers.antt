use Rattle.std.proofs.Common.{List, ℕ, ◌++◌, take, ap, sym, ◌∙◌, append_assoc, arith}
use Rattle.std.specs.List.{flat_map}
use Rattle.pc_print.specs.Nameable.{is_named}
use Rattle.pc_text.proofs.PrintedLines.{variable_text, flat_map-more, list_all-more}
use Rattle.pc_text.proofs.writer.push_variables.Goals as goal

pub loop-variable-preserved : goal.loop-variable-preserved
loop-variable-preserved c =
    let f = variable_text c.args.costs in
    let variables = c.args.variables.now in
    let n = c.loop-variable.variable-index in
    let variable = c.variable-item.result in
    record {
      text = c.in_ok-push_variable.ensures.text
          ∙ ap (λ (l : List ℕ). l ++ f variable) c.loop-variable.invariant.text
          ∙ append_assoc c.args.text.now (flat_map f (take n variables)) (f variable)
          ∙ ap (λ (l : List ℕ). c.args.text.now ++ l) (sym (flat_map-more f variables n variable (omega arith) (cc)));
      names = list_all-more is_named variables n variable (omega arith) (cc) c.loop-variable.invariant.names c.in_ok-push_variable.ensures.names;
    }
