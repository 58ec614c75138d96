-- The printed form of a rule is cut into tokens that spell it, and the rule that they name is that one.
use Rattle.std.proofs.Common.{◌≡◌, ℕ, suc, ◌+◌, ◌≤◌, nat_lt, nat_le, Bool, true, false, not, ◌&&◌, cond, List, [], ◌∷◌, ◌++◌, codes, decimal, length, map, Ok, refl, sym, ap, subst, ◌∙◌, append_assoc, arith}
use Rattle.std.specs.Prelude.{◌==◌, is_some, max}
use Rattle.std.specs.List.{list_all, list_any, join_by, zip, AllZip}
use Rattle.std.specs.Option.{unwrap_or}
use Rattle.std.proofs.lemmas.List.{length-map}
use Rattle.std.proofs.lemmas.Bool.{and_parts, and_from, or_from, leb-true, le-leb, le-ltb, ltb-false, eq-eqb}
use Rattle.pc_base.specs.Distinct.{all_differ}
use Rattle.pc_file.specs.declared.catalogue.Catalogue.{Catalogue}
use Rattle.pc_file.specs.declared.variable.Variable.{Variable}
use Rattle.pc_file.specs.declared.rule.Rule.{Rule}
use Rattle.pc_file.specs.declared.rule.Rule.TheVariants as rule
use Rattle.pc_file.specs.Limits.{has_variable, has_value, is_row, is_spelled_step, is_spelled}
use Rattle.pc_file.specs.Nesting.{Nesting, nesting, nesting_step, open_in_place, open_in_places}
use Rattle.pc_file.specs.PrintedRule.{Printed, printed_variable, printed_value, printed_row, in_place, printing_step, printing, printed_in_place, printed_rule}
use Rattle.pc_file.proofs.RuleLemmas.{is_spelled-And, is_spelled-Or, is_spelled-AtMost}
use Rattle.pc_file.proofs.NestingLemmas.{within-places, nesting-And, nesting-Or, nesting-AtMost}
use Rattle.pc_rules.specs.declared.checks.AtMostFault.{AtMostFault}
use Rattle.pc_rules.specs.declared.checks.AtMostFault.TheVariants.{Number, Length}
use Rattle.pc_rules.specs.declared.phrase.Phrase.{Phrase}
use Rattle.pc_rules.specs.declared.phrase.Phrase.TheVariants as phrase
use Rattle.pc_rules.specs.declared.token.Sign.TheVariants.{Arrow, NotEqual, Equal, Open, Close, OpenBrace, CloseBrace, Comma}
use Rattle.pc_rules.specs.declared.token.Token.{Token}
use Rattle.pc_rules.specs.declared.token.Token.TheVariants.{Mark, Word}
use Rattle.pc_rules.specs.Parsed.{Parsed, ◌>>=◌}
use Rattle.pc_rules.specs.Counts.{count_of}
use Rattle.pc_rules.specs.Token.{is_deep_after}
use Rattle.pc_rules.specs.RuleFaults.{fault_step, test_of, has_fault}
use Rattle.pc_file.specs.Catalogue.{Indexes}
use Rattle.pc_rules.specs.Naming.{variable_at, value_at, values_at, rows_at, all_ok, named_step, rule_named}
use Rattle.pc_rules.specs.Reading.{are_as_long}
use Rattle.pc_print.specs.Nameable.{Nameable}
use Rattle.pc_rules.specs.Grammar.{parted, alone_word, SpellsPhrase, SpellsPhrases}
use Rattle.pc_rules.specs.Grammar as grammar
use Rattle.pc_rules.proofs.CountLemmas.{count_of_spelled}
use Rattle.pc_rules.proofs.Depth.{balanced, balanced_each}
use Rattle.pc_rules.proofs.PhraseLemmas.{has_fault-And, has_fault-Or, has_fault-AtMost, rule_named-And, rule_named-Or, rule_named-AtMost}
use Rattle.pc_rules.proofs.PhraseFolds as of_phrase
use Rattle.pc_rules.proofs.RuleFolds as of_rule
use Rattle.pc_print.proofs.PrintedForms.{join_by-map}
use Rattle.pc_print.proofs.PrintedTokens.{Cuts, CutsAlways, Ends, is_word, cuts-always, always-cuts, cuts-always-cuts, cuts-cuts, cuts-word, cuts-words, cuts-spaced, cuts-joined, cuts-equal, cuts-not_equal, cuts-and, cuts-or, cuts-arrow, cuts-not, cuts-comma, cuts-open, cuts-close, cuts-in, cuts-close_brace, cuts-same, cuts-at_most, cuts-members, cuts-table, cuts-rows, name-word, names-words, number-word}
use Rattle.pc_print.proofs.PrintedDepth.{flat-token, flat-parentheses, flat-append, flat-plain, EachFlat, flat-parted, plain-words, plain-rows, plain-balanced}
use Rattle.pc_print.proofs.PrintedNames as printed
use Rattle.pc_file.proofs.RuleInduction.{EachRule, every_rule}

module _ (names : Catalogue) (variables : List Variable) (holds : Indexes names variables) (are : Nameable variables) where
  -- a text spells a rule in a place, and opens at most so many parentheses at once
  pub record Shown (place : ℕ) (text : List ℕ) (most : ℕ) (r : Rule) : Type 0 where
    pub tokens : List Token
    pub said : Phrase
    pub spells : SpellsPhrase place said tokens
    pub cut : Cuts text tokens
    pub named : rule_named names said ≡ Ok r
    pub faultless : (fault : AtMostFault) → has_fault fault said ≡ false
    pub shallow : (limit o c : ℕ) → most + o ≤ c + limit → is_deep_after limit o c tokens ≡ false

  -- the printed form of a rule spells it, in each place that asks for no more than it binds
  pub record Standing (r : Rule) : Type 0 where
    pub strength : ℕ
    pub binds : (printing variables r).strength ≡ strength
    pub binds_too : (nesting r).strength ≡ strength
    pub shown : (place : ℕ) → place ≤ strength → Shown place (printed_rule variables r) (nesting r).open_at_most r

  abbrev pub Stands : Rule → Type 0
  Stands r = is_spelled variables r ≡ true → Standing r

  standing : (r : Rule) (strength most : ℕ) (text : List ℕ) → printing variables r ≡ record { strength = strength; text = text } → nesting r ≡ record { strength = strength; open_at_most = most } →
      ((place : ℕ) → place ≤ strength → Shown place text most r) → Standing r
  standing r strength most text printed nested shown = record {
    strength = strength;
    binds = ap (λ p. p.strength) printed;
    binds_too = ap (λ n. n.strength) nested;
    shown = λ place le.
        subst (λ (t : List ℕ). Shown place t (nesting r).open_at_most r) (sym (ap (λ p. p.text) printed))
        (subst (λ (m : ℕ). Shown place text m r) (sym (ap (λ n. n.open_at_most) nested)) (shown place le));
  }

  -- ---- in a place

  parenthesized : (place most : ℕ) (text : List ℕ) (r : Rule) → Shown 0 text most r → Shown place (codes "(" ++ text ++ codes ")") (most + 1) r
  parenthesized place most text r s = record {
    tokens = Mark Open ∷ s.tokens ++ Mark Close ∷ [];
    said = s.said;
    spells = grammar.parentheses place s.spells;
    cut = cuts-always (codes "(" ++ text ++ codes ")") (Mark Open ∷ s.tokens ++ Mark Close ∷ [])
        (cuts-always-cuts (codes "(" ++ text) (codes ")") (Mark Open ∷ s.tokens) (Mark Close ∷ []) (always-cuts (codes "(") text (Mark Open ∷ []) s.tokens cuts-open s.cut) cuts-close (λ rest. refl));
    named = s.named;
    faultless = s.faultless;
    shallow = λ limit o c room. flat-parentheses limit s.tokens [] o c (omega arith) (balanced s.spells) (s.shallow limit (suc o) c (omega arith)) refl;
  }

  -- a rule in a place that asks for a strength
  in_its_place : (r : Rule) → Standing r → (asked : ℕ) → Shown asked (printed_in_place asked variables r) (open_in_place asked (nesting r)) r
  in_its_place r s asked =
      subst (λ (b : Bool). Shown asked (cond b (codes "(" ++ printed_rule variables r ++ codes ")") (printed_rule variables r)) (open_in_place asked (nesting r)) r) (ap (λ n. nat_lt n asked) (sym s.binds))
      (subst (λ (b : Bool). Shown asked (cond (nat_lt s.strength asked) (codes "(" ++ printed_rule variables r ++ codes ")") (printed_rule variables r)) (cond b ((nesting r).open_at_most + 1) (nesting r).open_at_most) r) (ap (λ n. nat_lt n asked) (sym s.binds_too))
      (by (nat_lt s.strength asked) refl))
    where
      by : (b : Bool) → nat_lt s.strength asked ≡ b →
          Shown asked (cond b (codes "(" ++ printed_rule variables r ++ codes ")") (printed_rule variables r)) (cond b ((nesting r).open_at_most + 1) (nesting r).open_at_most) r
      by true weak = parenthesized asked (nesting r).open_at_most (printed_rule variables r) r (s.shown 0 (omega arith))
      by false enough = s.shown asked (ltb-false s.strength asked enough)

  -- several rules in places of one kind
  record ShownEach (asked : ℕ) (rs : List Rule) : Type 0 where
    texts : List (List Token)
    said : List Phrase
    spells : SpellsPhrases asked said texts
    cut : AllZip Cuts (map (printed_in_place asked variables) rs) texts
    named : all_ok (map (rule_named names) said) ≡ Ok rs
    faultless : (fault : AtMostFault) → list_any (has_fault fault) said ≡ false
    count : length said ≡ length rs
    shallow : (limit o c most : ℕ) → most + o ≤ c + limit → list_all (λ r. nat_le (open_in_place asked (nesting r)) most) rs ≡ true → EachFlat limit o c texts

  each_in_place : (asked : ℕ) (rs : List Rule) → EachRule Stands rs → list_all (is_spelled variables) rs ≡ true → ShownEach asked rs
  each_in_place asked [] each all = record {
    texts = [];
    said = [];
    spells = grammar.none asked;
    cut = tt;
    named = refl;
    faultless = λ fault. refl;
    count = refl;
    shallow = λ limit o c most room few. tt;
  }
  each_in_place asked (r ∷ rs) each all =
      let two = and_parts (is_spelled variables r) (list_all (is_spelled variables) rs) all in
      let first = in_its_place r (each.0 two.0) asked in
      let others = each_in_place asked rs each.1 two.1 in
      record {
        texts = first.tokens ∷ others.texts;
        said = first.said ∷ others.said;
        spells = grammar.more first.spells others.spells;
        cut = (first.cut, others.cut);
        named = ap (λ o. o >>= λ y. all_ok (map (rule_named names) others.said) >>= λ more. Ok (y ∷ more)) first.named ∙ ap (λ o. o >>= λ more. Ok (r ∷ more)) others.named;
        faultless = λ fault. or_from (has_fault fault first.said) (list_any (has_fault fault) others.said) (first.faultless fault) (others.faultless fault);
        count = ap suc others.count;
        shallow = λ limit o c most room few.
            let halves = and_parts (nat_le (open_in_place asked (nesting r)) most) (list_all (λ x. nat_le (open_in_place asked (nesting x)) most) rs) few in
            let less : open_in_place asked (nesting r) ≤ most = leb-true (open_in_place asked (nesting r)) most halves.0 in
            ((balanced first.spells, first.shallow limit o c (omega arith)), others.shallow limit o c most room halves.1);
      }

  -- members open no more than all of them
  all_within : (asked : ℕ) (rs : List Rule) → list_all (λ r. nat_le (open_in_place asked (nesting r)) (open_in_places asked (map nesting rs))) rs ≡ true
  all_within asked rs =
      let most = open_in_places asked (map nesting rs) in
      sym (within-places asked most rs) ∙ le-leb most most (omega arith)

  members_cut : (asked : ℕ) (between : List ℕ) (token : Token) → CutsAlways between (token ∷ []) → Ends between → (rs : List Rule) (s : ShownEach asked rs) →
      Cuts (join_by (λ text. text) between (map (printed_in_place asked variables) rs)) (parted token s.texts)
  members_cut asked between token cuts ends rs s = cuts-joined between token cuts ends (map (printed_in_place asked variables) rs) s.texts s.cut

  members_text : (asked : ℕ) (between : List ℕ) (rs : List Rule) → join_by (in_place asked) between (map (printing variables) rs) ≡ join_by (λ text. text) between (map (printed_in_place asked variables) rs)
  members_text asked between rs = join_by-map (in_place asked) between (printing variables) rs ∙ sym (join_by-map (λ text. text) between (printed_in_place asked variables) rs)

  -- ---- forms without a rule inside

  abbrev pv : ℕ → List ℕ
  pv v = printed_variable variables v

  abbrev pa : ℕ → ℕ → List ℕ
  pa v a = printed_value variables v a

  variable-word : (v : ℕ) → has_variable variables v ≡ true → is_word (pv v) ≡ true
  variable-word v has = name-word (pv v) (printed.variable-named names variables holds are v has)

  value-word : (v a : ℕ) → has_value variables v a ≡ true → is_word (pa v a) ≡ true
  value-word v a has = name-word (pa v a) (printed.value-named names variables holds are v a has)

  value-variable : (v a : ℕ) → has_value variables v a ≡ true → has_variable variables v ≡ true
  value-variable v a has = printed.has_value-variable names variables holds are v a has

  stands-Is : (v a : ℕ) → Stands (rule.Is v a)
  stands-Is v a is =
      let has : has_value variables v a ≡ true = sym (of_rule.fold-Is Bool (is_spelled_step variables) v a) ∙ is in
      let in_file = value-variable v a has in
      standing (rule.Is v a) 4 0 (pv v ++ codes "=" ++ pa v a) (of_rule.fold-Is Printed (printing_step variables) v a) (of_rule.fold-Is Nesting nesting_step v a)
      (λ place le. record {
        tokens = Word (pv v) ∷ Mark Equal ∷ Word (pa v a) ∷ [];
        said = phrase.Is (pv v) (pa v a);
        spells = grammar.is place (pv v) (pa v a) (printed.variable-free names variables holds are v in_file);
        cut = subst (λ (t : List ℕ). Cuts t (Word (pv v) ∷ Mark Equal ∷ Word (pa v a) ∷ [])) (sym (append_assoc (pv v) (codes "=") (pa v a)))
            (cuts-cuts (pv v) (codes "=" ++ pa v a) (Word (pv v) ∷ []) (Mark Equal ∷ Word (pa v a) ∷ []) (cuts-word (pv v) (variable-word v in_file)) (cuts-equal (pa v a) (value-word v a has)) (λ rest. refl));
        named = of_phrase.fold-Is (Parsed Rule) (named_step names) (pv v) (pa v a)
            ∙ ap (λ o. o >>= λ x. value_at names x (pa v a) >>= λ y. Ok (rule.Is x y)) (printed.variable-own names variables holds are v in_file)
            ∙ ap (λ o. o >>= λ y. Ok (rule.Is v y)) (printed.value-own names variables holds are v a has);
        faultless = λ fault. of_phrase.fold-Is Bool (fault_step (test_of fault)) (pv v) (pa v a);
        shallow = λ limit o c room. flat-plain limit (Word (pv v) ∷ Mark Equal ∷ Word (pa v a) ∷ []) o c refl (omega arith);
      })

  stands-IsNot : (v a : ℕ) → Stands (rule.IsNot v a)
  stands-IsNot v a is =
      let has : has_value variables v a ≡ true = sym (of_rule.fold-IsNot Bool (is_spelled_step variables) v a) ∙ is in
      let in_file = value-variable v a has in
      standing (rule.IsNot v a) 4 0 (pv v ++ codes "!=" ++ pa v a) (of_rule.fold-IsNot Printed (printing_step variables) v a) (of_rule.fold-IsNot Nesting nesting_step v a)
      (λ place le. record {
        tokens = Word (pv v) ∷ Mark NotEqual ∷ Word (pa v a) ∷ [];
        said = phrase.IsNot (pv v) (pa v a);
        spells = grammar.is_not place (pv v) (pa v a) (printed.variable-free names variables holds are v in_file);
        cut = always-cuts (pv v ++ codes "!=") (pa v a) (Word (pv v) ∷ Mark NotEqual ∷ []) (Word (pa v a) ∷ [])
            (cuts-always-cuts (pv v) (codes "!=") (Word (pv v) ∷ []) (Mark NotEqual ∷ []) (cuts-word (pv v) (variable-word v in_file)) cuts-not_equal (λ rest. refl))
            (cuts-word (pa v a) (value-word v a has));
        named = of_phrase.fold-IsNot (Parsed Rule) (named_step names) (pv v) (pa v a)
            ∙ ap (λ o. o >>= λ x. value_at names x (pa v a) >>= λ y. Ok (rule.IsNot x y)) (printed.variable-own names variables holds are v in_file)
            ∙ ap (λ o. o >>= λ y. Ok (rule.IsNot v y)) (printed.value-own names variables holds are v a has);
        faultless = λ fault. of_phrase.fold-IsNot Bool (fault_step (test_of fault)) (pv v) (pa v a);
        shallow = λ limit o c room. flat-plain limit (Word (pv v) ∷ Mark NotEqual ∷ Word (pa v a) ∷ []) o c refl (omega arith);
      })

  stands-Same : (v w : ℕ) → Stands (rule.Same v w)
  stands-Same v w is =
      let two = and_parts (has_variable variables v) (has_variable variables w) (sym (of_rule.fold-Same Bool (is_spelled_step variables) v w) ∙ is) in
      let inside = Word (pv v) ∷ Mark Comma ∷ Word (pv w) ∷ [] in
      standing (rule.Same v w) 4 1 (codes "same(" ++ pv v ++ codes ", " ++ pv w ++ codes ")") (of_rule.fold-Same Printed (printing_step variables) v w) (of_rule.fold-Same Nesting nesting_step v w)
      (λ place le. record {
        tokens = Word (codes "same") ∷ Mark Open ∷ Word (pv v) ∷ Mark Comma ∷ Word (pv w) ∷ Mark Close ∷ [];
        said = phrase.Same (pv v) (pv w);
        spells = grammar.same place (pv v) (pv w) (printed.variable-free names variables holds are v two.0) (printed.variable-free names variables holds are w two.1);
        cut =
            let first = always-cuts (codes "same(") (pv v) (Word (codes "same") ∷ Mark Open ∷ []) (Word (pv v) ∷ []) cuts-same (cuts-word (pv v) (variable-word v two.0)) in
            let comma = cuts-always-cuts (codes "same(" ++ pv v) (codes ", ") (Word (codes "same") ∷ Mark Open ∷ Word (pv v) ∷ []) (Mark Comma ∷ []) first cuts-comma (λ rest. refl) in
            let second = always-cuts (codes "same(" ++ pv v ++ codes ", ") (pv w) (Word (codes "same") ∷ Mark Open ∷ Word (pv v) ∷ Mark Comma ∷ []) (Word (pv w) ∷ []) comma (cuts-word (pv w) (variable-word w two.1)) in
            cuts-always (codes "same(" ++ pv v ++ codes ", " ++ pv w ++ codes ")") (Word (codes "same") ∷ Mark Open ∷ Word (pv v) ∷ Mark Comma ∷ Word (pv w) ∷ Mark Close ∷ [])
            (cuts-always-cuts (codes "same(" ++ pv v ++ codes ", " ++ pv w) (codes ")") (Word (codes "same") ∷ Mark Open ∷ inside) (Mark Close ∷ []) second cuts-close (λ rest. refl));
        named = of_phrase.fold-Same (Parsed Rule) (named_step names) (pv v) (pv w)
            ∙ ap (λ o. o >>= λ x. variable_at names (pv w) >>= λ y. Ok (rule.Same x y)) (printed.variable-own names variables holds are v two.0)
            ∙ ap (λ o. o >>= λ y. Ok (rule.Same v y)) (printed.variable-own names variables holds are w two.1);
        faultless = λ fault. of_phrase.fold-Same Bool (fault_step (test_of fault)) (pv v) (pv w);
        shallow = λ limit o c room.
            flat-token limit (Word (codes "same")) (Mark Open ∷ inside ++ Mark Close ∷ []) o c refl (omega arith)
            (flat-parentheses limit inside [] o c (omega arith) refl (flat-plain limit inside (suc o) c refl (omega arith)) refl);
      })

  stands-OneOf : (v : ℕ) (values : List ℕ) → Stands (rule.OneOf v values)
  stands-OneOf v values is =
      let whole : (nat_le 1 (length values) && list_all (has_value variables v) values && all_differ ◌==◌ values) ≡ true = sym (of_rule.fold-OneOf Bool (is_spelled_step variables) v values) ∙ is in
      let two = and_parts (nat_le 1 (length values)) (list_all (has_value variables v) values) (and_parts (nat_le 1 (length values) && list_all (has_value variables v) values) (all_differ ◌==◌ values) whole).0 in
      let some : 1 ≤ length values = leb-true 1 (length values) two.0 in
      let in_file = some_value v values some two.1 in
      let ws = map (pa v) values in
      let count : length ws ≡ length values = length-map values (pa v) in
      let listed = parted (Mark Comma) (map alone_word ws) in
      let words : list_all is_word ws ≡ true = names-words ws (printed.values-named names variables holds are v values two.1) in
      standing (rule.OneOf v values) 4 0 (pv v ++ codes " in {" ++ join_by (λ t. t) (codes ", ") ws ++ codes "}")
      (of_rule.fold-OneOf Printed (printing_step variables) v values ∙ ap (λ (t : List ℕ). record { strength = 4; text = pv v ++ codes " in {" ++ t ++ codes "}" }) (sym (join_by-map (λ t. t) (codes ", ") (pa v) values)))
      (of_rule.fold-OneOf Nesting nesting_step v values)
      (λ place le. record {
        tokens = Word (pv v) ∷ Word (codes "in") ∷ Mark OpenBrace ∷ listed ++ Mark CloseBrace ∷ [];
        said = phrase.OneOf (pv v) ws;
        spells = grammar.one_of place (pv v) ws (printed.variable-free names variables holds are v in_file) (omega arith);
        cut =
            let first = cuts-always-cuts (pv v) (codes " in {") (Word (pv v) ∷ []) (Word (codes "in") ∷ Mark OpenBrace ∷ []) (cuts-word (pv v) (variable-word v in_file)) cuts-in (λ rest. refl) in
            let second = always-cuts (pv v ++ codes " in {") (join_by (λ t. t) (codes ", ") ws) (Word (pv v) ∷ Word (codes "in") ∷ Mark OpenBrace ∷ []) listed first
            (cuts-joined (codes ", ") (Mark Comma) cuts-comma (λ rest. refl) ws (map alone_word ws) (cuts-words ws words)) in
            cuts-always (pv v ++ codes " in {" ++ join_by (λ t. t) (codes ", ") ws ++ codes "}") (Word (pv v) ∷ Word (codes "in") ∷ Mark OpenBrace ∷ listed ++ Mark CloseBrace ∷ [])
            (cuts-always-cuts (pv v ++ codes " in {" ++ join_by (λ t. t) (codes ", ") ws) (codes "}") (Word (pv v) ∷ Word (codes "in") ∷ Mark OpenBrace ∷ listed) (Mark CloseBrace ∷ []) second cuts-close_brace (λ rest. refl));
        named = of_phrase.fold-OneOf (Parsed Rule) (named_step names) (pv v) ws
            ∙ ap (λ o. o >>= λ x. values_at names x ws >>= λ these. Ok (rule.OneOf x these)) (printed.variable-own names variables holds are v in_file)
            ∙ ap (λ o. o >>= λ these. Ok (rule.OneOf v these)) (printed.values-own names variables holds are v values two.1);
        faultless = λ fault. of_phrase.fold-OneOf Bool (fault_step (test_of fault)) (pv v) ws;
        shallow = λ limit o c room.
            let flat = flat-plain limit listed o c (plain-words ws) (omega arith) in
            let closed = flat-append limit listed (Mark CloseBrace ∷ []) o c (plain-balanced listed (plain-words ws)) flat (flat-plain limit (Mark CloseBrace ∷ []) o c refl (omega arith)) in
            flat-token limit (Word (pv v)) (Word (codes "in") ∷ Mark OpenBrace ∷ listed ++ Mark CloseBrace ∷ []) o c refl (omega arith)
            (flat-token limit (Word (codes "in")) (Mark OpenBrace ∷ listed ++ Mark CloseBrace ∷ []) o c refl (omega arith)
            (flat-token limit (Mark OpenBrace) (listed ++ Mark CloseBrace ∷ []) o c refl (omega arith) closed));
      })
    where
      some_value : (v : ℕ) (values : List ℕ) → 1 ≤ length values → list_all (has_value variables v) values ≡ true → has_variable variables v ≡ true
      some_value v [] some all = absurd (omega arith)
      some_value v (a ∷ values) some all = value-variable v a (and_parts (has_value variables v a) (list_all (has_value variables v) values) all).0

  -- ---- forms with rules inside

  stands-Not : (r : Rule) → Stands r → Stands (rule.Not r)
  stands-Not r stands is =
      let inner = in_its_place r (stands (sym (of_rule.fold-Not Bool (is_spelled_step variables) r) ∙ is)) 4 in
      standing (rule.Not r) 3 (open_in_place 4 (nesting r)) (codes "not " ++ printed_in_place 4 variables r) (of_rule.fold-Not Printed (printing_step variables) r) (of_rule.fold-Not Nesting nesting_step r)
      (λ place le. record {
        tokens = Word (codes "not") ∷ inner.tokens;
        said = phrase.Not inner.said;
        spells = grammar.not le inner.spells;
        cut = always-cuts (codes "not ") (printed_in_place 4 variables r) (Word (codes "not") ∷ []) inner.tokens cuts-not inner.cut;
        named = of_phrase.fold-Not (Parsed Rule) (named_step names) inner.said ∙ ap (λ o. o >>= λ x. Ok (rule.Not x)) inner.named;
        faultless = λ fault. of_phrase.fold-Not Bool (fault_step (test_of fault)) inner.said ∙ inner.faultless fault;
        shallow = λ limit o c room. flat-token limit (Word (codes "not")) inner.tokens o c refl (omega arith) (inner.shallow limit o c room);
      })

  stands-And : (rs : List Rule) → EachRule Stands rs → Stands (rule.And rs)
  stands-And rs each is =
      let two = and_parts (nat_le 2 (length rs)) (list_all (is_spelled variables) rs) (sym (is_spelled-And variables rs) ∙ is) in
      let many : 2 ≤ length rs = leb-true 2 (length rs) two.0 in
      let s = each_in_place 3 rs each two.1 in
      let most = open_in_places 3 (map nesting rs) in
      standing (rule.And rs) 2 most (join_by (λ text. text) (codes " and ") (map (printed_in_place 3 variables) rs))
      (of_rule.fold-And Printed (printing_step variables) rs ∙ ap (λ (t : List ℕ). record { strength = 2; text = t }) (members_text 3 (codes " and ") rs)) (nesting-And rs)
      (λ place le. record {
        tokens = parted (Word (codes "and")) s.texts;
        said = phrase.And s.said;
        spells = grammar.and le (omega (arith, s.count)) s.spells;
        cut = members_cut 3 (codes " and ") (Word (codes "and")) cuts-and (λ rest. refl) rs s;
        named = rule_named-And names s.said ∙ ap (λ o. o >>= λ xs. Ok (rule.And xs)) s.named;
        faultless = λ fault. has_fault-And fault s.said ∙ s.faultless fault;
        shallow = λ limit o c room. flat-parted limit (Word (codes "and")) s.texts o c refl (omega arith) (s.shallow limit o c most room (all_within 3 rs));
      })

  stands-Or : (rs : List Rule) → EachRule Stands rs → Stands (rule.Or rs)
  stands-Or rs each is =
      let two = and_parts (nat_le 2 (length rs)) (list_all (is_spelled variables) rs) (sym (is_spelled-Or variables rs) ∙ is) in
      let many : 2 ≤ length rs = leb-true 2 (length rs) two.0 in
      let s = each_in_place 2 rs each two.1 in
      let most = open_in_places 2 (map nesting rs) in
      standing (rule.Or rs) 1 most (join_by (λ text. text) (codes " or ") (map (printed_in_place 2 variables) rs))
      (of_rule.fold-Or Printed (printing_step variables) rs ∙ ap (λ (t : List ℕ). record { strength = 1; text = t }) (members_text 2 (codes " or ") rs)) (nesting-Or rs)
      (λ place le. record {
        tokens = parted (Word (codes "or")) s.texts;
        said = phrase.Or s.said;
        spells = grammar.or le (omega (arith, s.count)) s.spells;
        cut = members_cut 2 (codes " or ") (Word (codes "or")) cuts-or (λ rest. refl) rs s;
        named = rule_named-Or names s.said ∙ ap (λ o. o >>= λ xs. Ok (rule.Or xs)) s.named;
        faultless = λ fault. has_fault-Or fault s.said ∙ s.faultless fault;
        shallow = λ limit o c room. flat-parted limit (Word (codes "or")) s.texts o c refl (omega arith) (s.shallow limit o c most room (all_within 2 rs));
      })

  stands-Implies : (r t : Rule) → Stands r → Stands t → Stands (rule.Implies r t)
  stands-Implies r t stands stands_too is =
      let two = and_parts (is_spelled variables r) (is_spelled variables t) (sym (of_rule.fold-Implies Bool (is_spelled_step variables) r t) ∙ is) in
      let first = in_its_place r (stands two.0) 1 in
      let second = in_its_place t (stands_too two.1) 1 in
      let p = printed_in_place 1 variables r in
      let q = printed_in_place 1 variables t in
      standing (rule.Implies r t) 0 (max (open_in_place 1 (nesting r)) (open_in_place 1 (nesting t))) (p ++ codes " => " ++ q)
      (of_rule.fold-Implies Printed (printing_step variables) r t) (of_rule.fold-Implies Nesting nesting_step r t)
      (λ place le. record {
        tokens = first.tokens ++ Mark Arrow ∷ second.tokens;
        said = phrase.Implies first.said second.said;
        spells = grammar.implies le first.spells second.spells;
        cut = subst (λ (us : List Token). Cuts (p ++ codes " => " ++ q) us) (append_assoc first.tokens (Mark Arrow ∷ []) second.tokens)
            (always-cuts (p ++ codes " => ") q (first.tokens ++ Mark Arrow ∷ []) second.tokens (cuts-always-cuts p (codes " => ") first.tokens (Mark Arrow ∷ []) first.cut cuts-arrow (λ rest. refl)) second.cut);
        named = of_phrase.fold-Implies (Parsed Rule) (named_step names) first.said second.said
            ∙ ap (λ o. o >>= λ x. rule_named names second.said >>= λ y. Ok (rule.Implies x y)) first.named ∙ ap (λ o. o >>= λ y. Ok (rule.Implies r y)) second.named;
        faultless = λ fault. of_phrase.fold-Implies Bool (fault_step (test_of fault)) first.said second.said
            ∙ or_from (has_fault fault first.said) (has_fault fault second.said) (first.faultless fault) (second.faultless fault);
        shallow = λ limit o c room.
            flat-append limit first.tokens (Mark Arrow ∷ second.tokens) o c (balanced first.spells) (first.shallow limit o c (omega arith))
            (flat-token limit (Mark Arrow) second.tokens o c refl (omega arith) (second.shallow limit o c (omega arith)));
      })

  -- the number and the members have no fault
  no_fault_here : (fault : AtMostFault) (most : ℕ) (count : ℕ) → most ≤ 64 → count ≤ 64 → test_of fault (decimal most) count ≡ false
  no_fault_here Number most count small few = ap (λ o. not (is_some o)) (count_of_spelled (decimal most) most small refl)
  no_fault_here Length most count small few = le-ltb 64 count few

  stands-AtMost : (most : ℕ) (rs : List Rule) → EachRule Stands rs → Stands (rule.AtMost most rs)
  stands-AtMost most rs each is =
      let whole = and_parts (nat_le most 64 && nat_le 1 (length rs) && nat_le (length rs) 64) (list_all (is_spelled variables) rs) (sym (is_spelled-AtMost variables most rs) ∙ is) in
      let counts = and_parts (nat_le most 64 && nat_le 1 (length rs)) (nat_le (length rs) 64) whole.0 in
      let lower = and_parts (nat_le most 64) (nat_le 1 (length rs)) counts.0 in
      let small : most ≤ 64 = leb-true most 64 lower.0 in
      let many : 1 ≤ length rs = leb-true 1 (length rs) lower.1 in
      let few : length rs ≤ 64 = leb-true (length rs) 64 counts.1 in
      let s = each_in_place 0 rs each whole.1 in
      let inside = open_in_places 0 (map nesting rs) in
      let k = decimal most in
      let members = parted (Mark Comma) s.texts in
      let text = join_by (λ t. t) (codes ", ") (map (printed_in_place 0 variables) rs) in
      standing (rule.AtMost most rs) 4 (inside + 1) (codes "atmost " ++ k ++ codes " (" ++ text ++ codes ")")
      (of_rule.fold-AtMost Printed (printing_step variables) most rs ∙ ap (λ (t : List ℕ). record { strength = 4; text = codes "atmost " ++ k ++ codes " (" ++ t ++ codes ")" }) (members_text 0 (codes ", ") rs)) (nesting-AtMost most rs)
      (λ place le. record {
        tokens = Word (codes "atmost") ∷ Word k ∷ Mark Open ∷ members ++ Mark Close ∷ [];
        said = phrase.AtMost k s.said;
        spells = grammar.at_most place k (omega (arith, s.count)) s.spells;
        cut =
            let number = always-cuts (codes "atmost ") k (Word (codes "atmost") ∷ []) (Word k ∷ []) cuts-at_most (cuts-word k (number-word most small)) in
            let opened = cuts-always-cuts (codes "atmost " ++ k) (codes " (") (Word (codes "atmost") ∷ Word k ∷ []) (Mark Open ∷ []) number cuts-members (λ rest. refl) in
            let listed = always-cuts (codes "atmost " ++ k ++ codes " (") text (Word (codes "atmost") ∷ Word k ∷ Mark Open ∷ []) members opened (members_cut 0 (codes ", ") (Mark Comma) cuts-comma (λ rest. refl) rs s) in
            cuts-always (codes "atmost " ++ k ++ codes " (" ++ text ++ codes ")") (Word (codes "atmost") ∷ Word k ∷ Mark Open ∷ members ++ Mark Close ∷ [])
            (cuts-always-cuts (codes "atmost " ++ k ++ codes " (" ++ text) (codes ")") (Word (codes "atmost") ∷ Word k ∷ Mark Open ∷ members) (Mark Close ∷ []) listed cuts-close (λ rest. refl));
        named = rule_named-AtMost names k s.said ∙ ap (λ o. o >>= λ xs. Ok (rule.AtMost (unwrap_or (count_of k) 0) xs)) s.named
            ∙ ap (λ o. Ok (rule.AtMost (unwrap_or o 0) rs)) (count_of_spelled k most small refl);
        faultless = λ fault. has_fault-AtMost fault k s.said
            ∙ or_from (test_of fault k (length s.said)) (list_any (has_fault fault) s.said) (no_fault_here fault most (length s.said) small (omega (arith, s.count))) (s.faultless fault);
        shallow = λ limit o c room.
            let each_flat = s.shallow limit (suc o) c inside (omega arith) (all_within 0 rs) in
            let flat = flat-parted limit (Mark Comma) s.texts (suc o) c refl (omega arith) each_flat in
            flat-token limit (Word (codes "atmost")) (Word k ∷ Mark Open ∷ members ++ Mark Close ∷ []) o c refl (omega arith)
            (flat-token limit (Word k) (Mark Open ∷ members ++ Mark Close ∷ []) o c refl (omega arith)
            (flat-parentheses limit members [] o c (omega arith) (balanced_each s.spells (Mark Comma) refl) flat refl));
      })

  -- ---- tables

  row_text : (these row : List ℕ) → printed_row variables these row ≡ join_by (λ w. w) (codes " ") (printed.row_words names variables holds are these row)
  row_text these row = sym (join_by-map (λ w. w) (codes " ") (λ (p : ℕ × ℕ). pa p.0 p.1) (zip these row))

  abbrev row_words : List ℕ → List ℕ → List (List ℕ)
  row_words = printed.row_words names variables holds are

  rows-cut : (these : List ℕ) (rows : List (List ℕ)) → list_all (is_row variables these) rows ≡ true → AllZip Cuts (map (printed_row variables these) rows) (map (map Word) (map (row_words these) rows))
  rows-cut these [] all = tt
  rows-cut these (row ∷ rows) all =
      let two = and_parts (is_row variables these row) (list_all (is_row variables these) rows) all in
      let words = names-words (row_words these row) (printed.row-is names variables holds are these row two.0).named in
      (subst (λ (t : List ℕ). Cuts t (map Word (row_words these row))) (sym (row_text these row)) (cuts-spaced (row_words these row) words), rows-cut these rows two.1)

  rows-long : (these : List ℕ) (vs : List (List ℕ)) (rows : List (List ℕ)) → length vs ≡ length these → 1 ≤ length these → list_all (is_row variables these) rows ≡ true →
      (are_as_long vs (map (row_words these) rows) ≡ true) × (list_all (λ row. nat_le 1 (length row)) (map (row_words these) rows) ≡ true)
  rows-long these vs [] same some all = (refl, refl)
  rows-long these vs (row ∷ rows) same some all =
      let two = and_parts (is_row variables these row) (list_all (is_row variables these) rows) all in
      let long = (printed.row-is names variables holds are these row two.0).long in
      let others = rows-long these vs rows same some two.1 in (
        and_from (length (row_words these row) == length vs) (are_as_long vs (map (row_words these) rows)) (eq-eqb (length (row_words these row)) (length vs) (long ∙ sym same)) others.0,
        and_from (nat_le 1 (length (row_words these row))) (list_all (λ r. nat_le 1 (length r)) (map (row_words these) rows)) (le-leb 1 (length (row_words these row)) (omega (arith, long))) others.1,
      )

  stands-Table : (these : List ℕ) (rows : List (List ℕ)) → Stands (rule.Table these rows)
  stands-Table these rows is =
      let whole : (nat_le 1 (length these) && list_all (has_variable variables) these && all_differ ◌==◌ these && nat_le 1 (length rows) && list_all (is_row variables these) rows) ≡ true =
      sym (of_rule.fold-Table Bool (is_spelled_step variables) these rows) ∙ is in
      let e = and_parts (nat_le 1 (length these) && list_all (has_variable variables) these && all_differ ◌==◌ these && nat_le 1 (length rows)) (list_all (is_row variables these) rows) whole in
      let d = and_parts (nat_le 1 (length these) && list_all (has_variable variables) these && all_differ ◌==◌ these) (nat_le 1 (length rows)) e.0 in
      let b = and_parts (nat_le 1 (length these)) (list_all (has_variable variables) these) (and_parts (nat_le 1 (length these) && list_all (has_variable variables) these) (all_differ ◌==◌ these) d.0).0 in
      let some : 1 ≤ length these = leb-true 1 (length these) b.0 in
      let some_rows : 1 ≤ length rows = leb-true 1 (length rows) d.1 in
      let vs = map pv these in
      let rs = map (row_words these) rows in
      let count : length vs ≡ length these = length-map these pv in
      let count_rows : length rs ≡ length rows = length-map rows (row_words these) in
      let words = names-words vs (printed.variables-named names variables holds are these b.1) in
      let long = rows-long these vs rows count some e.1 in
      let vts = parted (Mark Comma) (map alone_word vs) in
      let rts = parted (Mark Comma) (map (map Word) rs) in
      let vtext = join_by (λ t. t) (codes ", ") vs in
      let rtext = join_by (λ t. t) (codes ", ") (map (printed_row variables these) rows) in
      let tokens = Word (codes "table") ∷ Mark Open ∷ vts ++ Mark Close ∷ Mark OpenBrace ∷ rts ++ Mark CloseBrace ∷ [] in
      standing (rule.Table these rows) 4 1 (codes "table (" ++ vtext ++ codes ") {" ++ rtext ++ codes "}")
      (of_rule.fold-Table Printed (printing_step variables) these rows
      ∙ ap (λ (t : List ℕ). record { strength = 4; text = codes "table (" ++ t ++ codes ") {" ++ join_by (printed_row variables these) (codes ", ") rows ++ codes "}" }) (sym (join_by-map (λ t. t) (codes ", ") pv these))
      ∙ ap (λ (t : List ℕ). record { strength = 4; text = codes "table (" ++ vtext ++ codes ") {" ++ t ++ codes "}" }) (sym (join_by-map (λ t. t) (codes ", ") (printed_row variables these) rows)))
      (of_rule.fold-Table Nesting nesting_step these rows)
      (λ place le. record {
        tokens = tokens;
        said = phrase.Table vs rs;
        spells = grammar.table place vs rs (omega arith) (printed.variables-free names variables holds are these b.1) (omega arith) long.1 long.0;
        cut =
            let first = always-cuts (codes "table (") vtext (Word (codes "table") ∷ Mark Open ∷ []) vts cuts-table (cuts-joined (codes ", ") (Mark Comma) cuts-comma (λ rest. refl) vs (map alone_word vs) (cuts-words vs words)) in
            let between = cuts-always-cuts (codes "table (" ++ vtext) (codes ") {") (Word (codes "table") ∷ Mark Open ∷ vts) (Mark Close ∷ Mark OpenBrace ∷ []) first cuts-rows (λ rest. refl) in
            let second = always-cuts (codes "table (" ++ vtext ++ codes ") {") rtext (Word (codes "table") ∷ Mark Open ∷ vts ++ Mark Close ∷ Mark OpenBrace ∷ []) rts between
            (cuts-joined (codes ", ") (Mark Comma) cuts-comma (λ rest. refl) (map (printed_row variables these) rows) (map (map Word) rs) (rows-cut these rows e.1)) in
            let last = cuts-always-cuts (codes "table (" ++ vtext ++ codes ") {" ++ rtext) (codes "}") (Word (codes "table") ∷ Mark Open ∷ vts ++ Mark Close ∷ Mark OpenBrace ∷ [] ++ rts) (Mark CloseBrace ∷ []) second cuts-close_brace (λ rest. refl) in
            subst (λ (us : List Token). Cuts (codes "table (" ++ vtext ++ codes ") {" ++ rtext ++ codes "}") us)
            (ap (λ (us : List Token). us ++ Mark CloseBrace ∷ []) (append_assoc (Word (codes "table") ∷ Mark Open ∷ vts) (Mark Close ∷ Mark OpenBrace ∷ []) rts))
            (cuts-always (codes "table (" ++ vtext ++ codes ") {" ++ rtext ++ codes "}") (Word (codes "table") ∷ Mark Open ∷ vts ++ Mark Close ∷ Mark OpenBrace ∷ [] ++ rts ++ Mark CloseBrace ∷ []) last);
        named = of_phrase.fold-Table (Parsed Rule) (named_step names) vs rs
            ∙ ap (λ o. o >>= λ x. rows_at names x rs >>= λ found. Ok (rule.Table x found)) (printed.variables-own names variables holds are these b.1)
            ∙ ap (λ o. o >>= λ found. Ok (rule.Table these found)) (printed.rows-own names variables holds are these rows e.1);
        faultless = λ fault. of_phrase.fold-Table Bool (fault_step (test_of fault)) vs rs;
        shallow = λ limit o c room.
            let after_rows = flat-append limit rts (Mark CloseBrace ∷ []) o c (plain-balanced rts (plain-rows rs)) (flat-plain limit rts o c (plain-rows rs) (omega arith)) (flat-plain limit (Mark CloseBrace ∷ []) o c refl (omega arith)) in
            let brace = flat-token limit (Mark OpenBrace) (rts ++ Mark CloseBrace ∷ []) o c refl (omega arith) after_rows in
            let flat = flat-plain limit vts (suc o) c (plain-words vs) (omega arith) in
            let inner = flat-parentheses limit vts (Mark OpenBrace ∷ rts ++ Mark CloseBrace ∷ []) o c (omega arith) (plain-balanced vts (plain-words vs)) flat brace in
            subst (λ (us : List Token). is_deep_after limit o c us ≡ false) (ap (λ (us : List Token). Word (codes "table") ∷ Mark Open ∷ us) (sym (append_assoc vts (Mark Close ∷ Mark OpenBrace ∷ rts) (Mark CloseBrace ∷ []))))
            (flat-token limit (Word (codes "table")) (Mark Open ∷ vts ++ Mark Close ∷ (Mark OpenBrace ∷ rts ++ Mark CloseBrace ∷ [])) o c refl (omega arith) inner);
      })

  -- ---- every rule

  pub every_rule_stands : (r : Rule) → Stands r
  every_rule_stands = every_rule Stands (record {
    is = stands-Is;
    is_not = stands-IsNot;
    one_of = stands-OneOf;
    not = stands-Not;
    and = stands-And;
    or = stands-Or;
    implies = stands-Implies;
    same = stands-Same;
    at_most = stands-AtMost;
    table = stands-Table;
  })
