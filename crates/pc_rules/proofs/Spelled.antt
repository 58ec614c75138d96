-- A rule that is read can be spelled.
use Rattle.std.proofs.Common.{◌≡◌, ℕ, ◌≤◌, nat_le, Bool, true, false, not, ◌&&◌, List, [], ◌∷◌, length, map, Option, Some, None, Ok, refl, sym, ap, subst, ◌∙◌, arith}
use Rattle.std.specs.Prelude.{◌==◌, is_some}
use Rattle.std.specs.Option.{unwrap_or}
use Rattle.std.specs.List.{list_all, list_any}
use Rattle.std.proofs.lemmas.Bool.{and_from, or_parts, not-false, le-leb, ltb-false}
use Rattle.pc_base.specs.Distinct.{all_differ}
use Rattle.pc_file.specs.declared.catalogue.Catalogue.{Catalogue}
use Rattle.pc_file.specs.declared.variable.Variable.{Variable}
use Rattle.pc_file.specs.declared.rule.Rule.{Rule}
use Rattle.pc_file.specs.declared.rule.Rule.TheVariants as rule
use Rattle.pc_file.specs.Limits.{has_variable, has_value, is_spelled_step, is_spelled}
use Rattle.pc_file.proofs.RuleLemmas.{is_spelled-And, is_spelled-Or, is_spelled-AtMost}
use Rattle.pc_rules.specs.declared.checks.AtMostFault.TheVariants.{Number, Length}
use Rattle.pc_rules.specs.declared.phrase.Phrase.{Phrase}
use Rattle.pc_rules.specs.declared.phrase.Phrase.TheVariants as phrase
use Rattle.pc_rules.specs.declared.token.Token.{Token}
use Rattle.pc_rules.specs.Parsed.{Parsed, ◌>>=◌}
use Rattle.pc_rules.specs.Counts.{count_of}
use Rattle.pc_rules.specs.Reading.{are_as_long}
use Rattle.pc_rules.specs.RuleFaults.{fault_step, test_of, has_fault, repeat_step, has_repeat}
use Rattle.pc_file.specs.Catalogue.{Indexes}
use Rattle.pc_rules.specs.Naming.{variable_at, value_at, variables_at, values_at, rows_at, all_ok, named_step, rule_named}
use Rattle.pc_rules.specs.Grammar.{SpellsPhrase, SpellsPhrases}
use Rattle.pc_rules.specs.Grammar as grammar
use Rattle.pc_rules.proofs.CountLemmas.{count_of-small}
use Rattle.pc_rules.proofs.Positions.{bind_ok, the_ok, variable_at-has, value_at-has, variables_at-have, values_at-have, rows_at-are}
use Rattle.pc_rules.proofs.PhraseLemmas.{has_fault-And, has_fault-Or, has_fault-AtMost, has_repeat-And, has_repeat-Or, has_repeat-AtMost, rule_named-And, rule_named-Or, rule_named-AtMost}
use Rattle.pc_rules.proofs.PhraseFolds as of_phrase
use Rattle.pc_rules.proofs.RuleFolds as of_rule

-- a number that isn't bad
a_count : (found : Option ℕ) → not (is_some found) ≡ false → found ≡ Some (unwrap_or found 0)
a_count None e = absurd cc
a_count (Some n) e = refl

module _ (names : Catalogue) (variables : List Variable) (holds : Indexes names variables) where
  abbrev outcome : Type 0
  outcome = Parsed Rule

  spelled-Is : (v a : List ℕ) (r : Rule) → rule_named names (phrase.Is v a) ≡ Ok r → is_spelled variables r ≡ true
  spelled-Is v a r e =
      let s = bind_ok (variable_at names v) (λ variable. value_at names variable a >>= λ value. Ok (rule.Is variable value)) r (sym (of_phrase.fold-Is outcome (named_step names) v a) ∙ e) in
      let t = bind_ok (value_at names s.0 a) (λ value. Ok (rule.Is s.0 value)) r s.2 in
      ap (is_spelled variables) (sym (the_ok (rule.Is s.0 t.0) r t.2)) ∙ of_rule.fold-Is Bool (is_spelled_step variables) s.0 t.0 ∙ value_at-has names variables holds s.0 a t.0 t.1

  spelled-IsNot : (v a : List ℕ) (r : Rule) → rule_named names (phrase.IsNot v a) ≡ Ok r → is_spelled variables r ≡ true
  spelled-IsNot v a r e =
      let s = bind_ok (variable_at names v) (λ variable. value_at names variable a >>= λ value. Ok (rule.IsNot variable value)) r (sym (of_phrase.fold-IsNot outcome (named_step names) v a) ∙ e) in
      let t = bind_ok (value_at names s.0 a) (λ value. Ok (rule.IsNot s.0 value)) r s.2 in
      ap (is_spelled variables) (sym (the_ok (rule.IsNot s.0 t.0) r t.2)) ∙ of_rule.fold-IsNot Bool (is_spelled_step variables) s.0 t.0 ∙ value_at-has names variables holds s.0 a t.0 t.1

  spelled-Same : (v w : List ℕ) (r : Rule) → rule_named names (phrase.Same v w) ≡ Ok r → is_spelled variables r ≡ true
  spelled-Same v w r e =
      let s = bind_ok (variable_at names v) (λ first. variable_at names w >>= λ second. Ok (rule.Same first second)) r (sym (of_phrase.fold-Same outcome (named_step names) v w) ∙ e) in
      let t = bind_ok (variable_at names w) (λ second. Ok (rule.Same s.0 second)) r s.2 in
      ap (is_spelled variables) (sym (the_ok (rule.Same s.0 t.0) r t.2)) ∙ of_rule.fold-Same Bool (is_spelled_step variables) s.0 t.0
      ∙ and_from (has_variable variables s.0) (has_variable variables t.0) (variable_at-has names variables holds v s.0 s.1) (variable_at-has names variables holds w t.0 t.1)

  spelled-OneOf : (v : List ℕ) (values : List (List ℕ)) (r : Rule) → 1 ≤ length values → rule_named names (phrase.OneOf v values) ≡ Ok r → has_repeat r ≡ false → is_spelled variables r ≡ true
  spelled-OneOf v values r some e once =
      let s = bind_ok (variable_at names v) (λ variable. values_at names variable values >>= λ these. Ok (rule.OneOf variable these)) r (sym (of_phrase.fold-OneOf outcome (named_step names) v values) ∙ e) in
      let t = bind_ok (values_at names s.0 values) (λ these. Ok (rule.OneOf s.0 these)) r s.2 in
      let is = the_ok (rule.OneOf s.0 t.0) r t.2 in
      let have = values_at-have names variables holds s.0 values t.0 t.1 in
      let differ = not-false (all_differ ◌==◌ t.0) (sym (of_rule.fold-OneOf Bool repeat_step s.0 t.0) ∙ ap has_repeat is ∙ once) in
      let many : nat_le 1 (length t.0) ≡ true = le-leb 1 (length t.0) (omega (arith, have.1)) in
      ap (is_spelled variables) (sym is) ∙ of_rule.fold-OneOf Bool (is_spelled_step variables) s.0 t.0
      ∙ and_from (nat_le 1 (length t.0) && list_all (has_value variables s.0) t.0) (all_differ ◌==◌ t.0) (and_from (nat_le 1 (length t.0)) (list_all (has_value variables s.0) t.0) many have.0) differ

  spelled-Table : (vs : List (List ℕ)) (rows : List (List (List ℕ))) (r : Rule) → 1 ≤ length vs → 1 ≤ length rows → are_as_long vs rows ≡ true → rule_named names (phrase.Table vs rows) ≡ Ok r → has_repeat r ≡ false →
      is_spelled variables r ≡ true
  spelled-Table vs rows r some_vs some_rows fit e once =
      let s = bind_ok (variables_at names vs) (λ these. rows_at names these rows >>= λ found. Ok (rule.Table these found)) r (sym (of_phrase.fold-Table outcome (named_step names) vs rows) ∙ e) in
      let t = bind_ok (rows_at names s.0 rows) (λ found. Ok (rule.Table s.0 found)) r s.2 in
      let is = the_ok (rule.Table s.0 t.0) r t.2 in
      let have = variables_at-have names variables holds vs s.0 s.1 in
      let fit_too = subst (λ n. list_all (λ row. length row == n) rows ≡ true) (sym have.1) fit in
      let are = rows_at-are names variables holds s.0 rows t.0 fit_too t.1 in
      let differ = not-false (all_differ ◌==◌ s.0) (sym (of_rule.fold-Table Bool repeat_step s.0 t.0) ∙ ap has_repeat is ∙ once) in
      let many : nat_le 1 (length s.0) ≡ true = le-leb 1 (length s.0) (omega (arith, have.1)) in
      let many_rows : nat_le 1 (length t.0) ≡ true = le-leb 1 (length t.0) (omega (arith, are.1)) in
      ap (is_spelled variables) (sym is) ∙ of_rule.fold-Table Bool (is_spelled_step variables) s.0 t.0 ∙ all_five (nat_le 1 (length s.0)) _ _ _ _ many have.0 differ many_rows are.0
    where
      all_five : (a b c d e : Bool) → a ≡ true → b ≡ true → c ≡ true → d ≡ true → e ≡ true → (a && b && c && d && e) ≡ true
      all_five a b c d e ha hb hc hd he = and_from (a && b && c && d) e (and_from (a && b && c) d (and_from (a && b) c (and_from a b ha hb) hc) hd) he

  -- a chain of so many members
  chain_of : (count : ℕ) (many : 2 ≤ count) (b : Bool) → b ≡ true → (nat_le 2 count && b) ≡ true
  chain_of count many b is = and_from (nat_le 2 count) b (le-leb 2 count many) is

  mutual
    pub spelled : {place : ℕ} {p : Phrase} {text : List Token} → SpellsPhrase place p text → (r : Rule) → rule_named names p ≡ Ok r →
        has_fault Number p ≡ false → has_fault Length p ≡ false → has_repeat r ≡ false → is_spelled variables r ≡ true
    spelled (grammar.parentheses place s) r e number size once = spelled s r e number size once
    spelled (grammar.is place v a free) r e number size once = spelled-Is v a r e
    spelled (grammar.is_not place v a free) r e number size once = spelled-IsNot v a r e
    spelled (grammar.one_of place v values free some) r e number size once = spelled-OneOf v values r some e once
    spelled (grammar.same place v w free other) r e number size once = spelled-Same v w r e
    spelled (grammar.table place vs rows some free some_rows are fit) r e number size once = spelled-Table vs rows r some some_rows fit e once
    spelled (grammar.not {rule = p} at s) r e number size once =
        let b = bind_ok (rule_named names p) (λ inner. Ok (rule.Not inner)) r (sym (of_phrase.fold-Not outcome (named_step names) p) ∙ e) in
        let is = the_ok (rule.Not b.0) r b.2 in
        let inner = spelled s b.0 b.1 (sym (of_phrase.fold-Not Bool (fault_step (test_of Number)) p) ∙ number) (sym (of_phrase.fold-Not Bool (fault_step (test_of Length)) p) ∙ size) (sym (of_rule.fold-Not Bool repeat_step b.0) ∙ ap has_repeat is ∙ once) in
        ap (is_spelled variables) (sym is) ∙ of_rule.fold-Not Bool (is_spelled_step variables) b.0 ∙ inner
    spelled (grammar.implies {premise = p} {conclusion = q} at s t) r e number size once =
        let b = bind_ok (rule_named names p) (λ premise. rule_named names q >>= λ conclusion. Ok (rule.Implies premise conclusion)) r (sym (of_phrase.fold-Implies outcome (named_step names) p q) ∙ e) in
        let d = bind_ok (rule_named names q) (λ conclusion. Ok (rule.Implies b.0 conclusion)) r b.2 in
        let is = the_ok (rule.Implies b.0 d.0) r d.2 in
        let n = or_parts (has_fault Number p) (has_fault Number q) (sym (of_phrase.fold-Implies Bool (fault_step (test_of Number)) p q) ∙ number) in
        let z = or_parts (has_fault Length p) (has_fault Length q) (sym (of_phrase.fold-Implies Bool (fault_step (test_of Length)) p q) ∙ size) in
        let o = or_parts (has_repeat b.0) (has_repeat d.0) (sym (of_rule.fold-Implies Bool repeat_step b.0 d.0) ∙ ap has_repeat is ∙ once) in
        ap (is_spelled variables) (sym is) ∙ of_rule.fold-Implies Bool (is_spelled_step variables) b.0 d.0
        ∙ and_from (is_spelled variables b.0) (is_spelled variables d.0) (spelled s b.0 b.1 n.0 z.0 o.0) (spelled t d.0 d.1 n.1 z.1 o.1)
    spelled (grammar.and {rules = ps} at two each) r e number size once =
        let b = bind_ok (all_ok (map (rule_named names) ps)) (λ rules. Ok (rule.And rules)) r (sym (rule_named-And names ps) ∙ e) in
        let is = the_ok (rule.And b.0) r b.2 in
        let all = each_spelled each b.0 b.1 (sym (has_fault-And Number ps) ∙ number) (sym (has_fault-And Length ps) ∙ size) (sym (has_repeat-And b.0) ∙ ap has_repeat is ∙ once) in
        let many : 2 ≤ length b.0 = omega (arith, all.1) in
        ap (is_spelled variables) (sym is) ∙ is_spelled-And variables b.0 ∙ chain_of (length b.0) many (list_all (is_spelled variables) b.0) all.0
    spelled (grammar.or {rules = ps} at two each) r e number size once =
        let b = bind_ok (all_ok (map (rule_named names) ps)) (λ rules. Ok (rule.Or rules)) r (sym (rule_named-Or names ps) ∙ e) in
        let is = the_ok (rule.Or b.0) r b.2 in
        let all = each_spelled each b.0 b.1 (sym (has_fault-Or Number ps) ∙ number) (sym (has_fault-Or Length ps) ∙ size) (sym (has_repeat-Or b.0) ∙ ap has_repeat is ∙ once) in
        let many : 2 ≤ length b.0 = omega (arith, all.1) in
        ap (is_spelled variables) (sym is) ∙ is_spelled-Or variables b.0 ∙ chain_of (length b.0) many (list_all (is_spelled variables) b.0) all.0
    spelled (grammar.at_most place k {rules = ps} some each) r e number size once =
        let count = unwrap_or (count_of k) 0 in
        let b = bind_ok (all_ok (map (rule_named names) ps)) (λ rules. Ok (rule.AtMost count rules)) r (sym (rule_named-AtMost names k ps) ∙ e) in
        let is = the_ok (rule.AtMost count b.0) r b.2 in
        let n = or_parts (test_of Number k (length ps)) (list_any (has_fault Number) ps) (sym (has_fault-AtMost Number k ps) ∙ number) in
        let z = or_parts (test_of Length k (length ps)) (list_any (has_fault Length) ps) (sym (has_fault-AtMost Length k ps) ∙ size) in
        let all = each_spelled each b.0 b.1 n.1 z.1 (sym (has_repeat-AtMost count b.0) ∙ ap has_repeat is ∙ once) in
        let little : count ≤ 64 = count_of-small k count (a_count (count_of k) n.0) in
        let few : length ps ≤ 64 = ltb-false 64 (length ps) z.0 in
        let many : 1 ≤ length b.0 = omega (arith, all.1) in
        let within : length b.0 ≤ 64 = omega (arith, all.1) in
        ap (is_spelled variables) (sym is) ∙ is_spelled-AtMost variables count b.0
        ∙ and_from (nat_le count 64 && nat_le 1 (length b.0) && nat_le (length b.0) 64) (list_all (is_spelled variables) b.0)
        (and_from (nat_le count 64 && nat_le 1 (length b.0)) (nat_le (length b.0) 64) (and_from (nat_le count 64) (nat_le 1 (length b.0)) (le-leb count 64 little) (le-leb 1 (length b.0) many)) (le-leb (length b.0) 64 within)) all.0

    pub each_spelled : {place : ℕ} {ps : List Phrase} {texts : List (List Token)} → SpellsPhrases place ps texts → (rs : List Rule) → all_ok (map (rule_named names) ps) ≡ Ok rs →
        list_any (has_fault Number) ps ≡ false → list_any (has_fault Length) ps ≡ false → list_any has_repeat rs ≡ false → (list_all (is_spelled variables) rs ≡ true) × (length rs ≡ length ps)
    each_spelled (grammar.none place) rs e number size once = let is = the_ok [] rs e in (ap (list_all (is_spelled variables)) (sym is), ap length (sym is))
    each_spelled (grammar.more {rule = p} {rules = ps} s each) rs e number size once =
        let rest = all_ok (map (rule_named names) ps) in
        let a = bind_ok (rule_named names p) (λ r. rest >>= λ more. Ok (r ∷ more)) rs e in
        let b = bind_ok rest (λ more. Ok (a.0 ∷ more)) rs a.2 in
        let is = the_ok (a.0 ∷ b.0) rs b.2 in
        let n = or_parts (has_fault Number p) (list_any (has_fault Number) ps) number in
        let z = or_parts (has_fault Length p) (list_any (has_fault Length) ps) size in
        let o = or_parts (has_repeat a.0) (list_any has_repeat b.0) (ap (list_any has_repeat) is ∙ once) in
        let others = each_spelled each b.0 b.1 n.1 z.1 o.1 in
        (ap (list_all (is_spelled variables)) (sym is) ∙ and_from (is_spelled variables a.0) (list_all (is_spelled variables) b.0) (spelled s a.0 a.1 n.0 z.0 o.0) others.0, ap length (sym is) ∙ omega (arith, others.1))
