-- In a rule that can be spelled nothing stands twice.
use Rattle.std.proofs.Common.{◌≡◌, ℕ, nat_le, Bool, true, false, not, ◌&&◌, List, [], ◌∷◌, length, refl, sym, ap, ◌∙◌}
use Rattle.std.specs.Prelude.{◌==◌}
use Rattle.std.specs.List.{list_all, list_any}
use Rattle.std.proofs.lemmas.Bool.{and_parts, or_from}
use Rattle.pc_base.specs.Distinct.{all_differ}
use Rattle.pc_file.specs.declared.variable.Variable.{Variable}
use Rattle.pc_file.specs.declared.rule.Rule.{Rule}
use Rattle.pc_file.specs.declared.rule.Rule.TheVariants as rule
use Rattle.pc_file.specs.Limits.{has_variable, has_value, is_row, is_spelled_step, is_spelled}
use Rattle.pc_file.proofs.RuleLemmas.{is_spelled-And, is_spelled-Or, is_spelled-AtMost}
use Rattle.pc_rules.specs.RuleFaults.{repeat_step, has_repeat}
use Rattle.pc_rules.proofs.PhraseLemmas.{has_repeat-And, has_repeat-Or, has_repeat-AtMost}
use Rattle.pc_rules.proofs.RuleFolds as of_rule
use Rattle.pc_file.proofs.RuleInduction.{EachRule, every_rule}

module _ (variables : List Variable) where
  abbrev Once : Rule → Type 0
  Once r = is_spelled variables r ≡ true → has_repeat r ≡ false

  each_once : (rs : List Rule) → EachRule Once rs → list_all (is_spelled variables) rs ≡ true → list_any has_repeat rs ≡ false
  each_once [] each all = refl
  each_once (r ∷ rs) each all =
      let two = and_parts (is_spelled variables r) (list_all (is_spelled variables) rs) all in
      or_from (has_repeat r) (list_any has_repeat rs) (each.0 two.0) (each_once rs each.1 two.1)

  once-OneOf : (v : ℕ) (values : List ℕ) → Once (rule.OneOf v values)
  once-OneOf v values is =
      let two = and_parts (nat_le 1 (length values) && list_all (has_value variables v) values) (all_differ ◌==◌ values) (sym (of_rule.fold-OneOf Bool (is_spelled_step variables) v values) ∙ is) in
      of_rule.fold-OneOf Bool repeat_step v values ∙ ap not two.1

  once-And : (rs : List Rule) → EachRule Once rs → Once (rule.And rs)
  once-And rs each is =
      let two = and_parts (nat_le 2 (length rs)) (list_all (is_spelled variables) rs) (sym (is_spelled-And variables rs) ∙ is) in
      has_repeat-And rs ∙ each_once rs each two.1

  once-Or : (rs : List Rule) → EachRule Once rs → Once (rule.Or rs)
  once-Or rs each is =
      let two = and_parts (nat_le 2 (length rs)) (list_all (is_spelled variables) rs) (sym (is_spelled-Or variables rs) ∙ is) in
      has_repeat-Or rs ∙ each_once rs each two.1

  once-Implies : (r s : Rule) → Once r → Once s → Once (rule.Implies r s)
  once-Implies r s first second is =
      let two = and_parts (is_spelled variables r) (is_spelled variables s) (sym (of_rule.fold-Implies Bool (is_spelled_step variables) r s) ∙ is) in
      of_rule.fold-Implies Bool repeat_step r s ∙ or_from (has_repeat r) (has_repeat s) (first two.0) (second two.1)

  once-AtMost : (most : ℕ) (rs : List Rule) → EachRule Once rs → Once (rule.AtMost most rs)
  once-AtMost most rs each is =
      let two = and_parts (nat_le most 64 && nat_le 1 (length rs) && nat_le (length rs) 64) (list_all (is_spelled variables) rs) (sym (is_spelled-AtMost variables most rs) ∙ is) in
      has_repeat-AtMost most rs ∙ each_once rs each two.1

  once-Table : (these : List ℕ) (rows : List (List ℕ)) → Once (rule.Table these rows)
  once-Table these rows is =
      let whole : (nat_le 1 (length these) && list_all (has_variable variables) these && all_differ ◌==◌ these && nat_le 1 (length rows) && list_all (is_row variables these) rows) ≡ true =
      sym (of_rule.fold-Table Bool (is_spelled_step variables) these rows) ∙ is in
      let e = and_parts (nat_le 1 (length these) && list_all (has_variable variables) these && all_differ ◌==◌ these && nat_le 1 (length rows)) (list_all (is_row variables these) rows) whole in
      let d = and_parts (nat_le 1 (length these) && list_all (has_variable variables) these && all_differ ◌==◌ these) (nat_le 1 (length rows)) e.0 in
      let c = and_parts (nat_le 1 (length these) && list_all (has_variable variables) these) (all_differ ◌==◌ these) d.0 in
      of_rule.fold-Table Bool repeat_step these rows ∙ ap not c.1

  pub spelled_once : (r : Rule) → Once r
  spelled_once = every_rule Once (record {
    is = λ v a is. of_rule.fold-Is Bool repeat_step v a;
    is_not = λ v a is. of_rule.fold-IsNot Bool repeat_step v a;
    one_of = once-OneOf;
    not = λ r once is. of_rule.fold-Not Bool repeat_step r ∙ once (sym (of_rule.fold-Not Bool (is_spelled_step variables) r) ∙ is);
    and = once-And;
    or = once-Or;
    implies = once-Implies;
    same = λ v w is. of_rule.fold-Same Bool repeat_step v w;
    at_most = once-AtMost;
    table = once-Table;
  })
