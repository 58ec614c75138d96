-- The printed form of a rule that is read opens no more parentheses at once than the text did.
use Rattle.std.proofs.Common.{◌≡◌, ℕ, suc, ◌+◌, ◌-◌, ◌≤◌, nat_le, nat_lt, max, Bool, true, false, cond, List, [], ◌∷◌, ◌++◌, codes, map, Ok, refl, sym, ap, subst, ◌∙◌, arith}
use Rattle.std.specs.Option.{unwrap_or}
use Rattle.std.specs.List.{list_all}
use Rattle.std.proofs.lemmas.Bool.{or_parts, and_from, ltb-false, le-ltb, le-leb, leb-true}
use Rattle.pc_file.specs.declared.catalogue.Catalogue.{Catalogue}
use Rattle.pc_file.specs.declared.rule.Rule.{Rule}
use Rattle.pc_file.specs.declared.rule.Rule.TheVariants as rule
use Rattle.pc_file.specs.Nesting.{Nesting, nesting, nesting_step, open_in_place, open_in_places}
use Rattle.pc_file.specs.Limits.{is_shallow}
use Rattle.pc_file.proofs.NestingLemmas.{within-places, nesting-And, nesting-Or, nesting-AtMost}
use Rattle.pc_rules.specs.declared.phrase.Phrase.{Phrase}
use Rattle.pc_rules.specs.declared.phrase.Phrase.TheVariants as phrase
use Rattle.pc_rules.specs.declared.token.Sign.TheVariants.{Arrow, Open, Close, OpenBrace, CloseBrace, Comma}
use Rattle.pc_rules.specs.declared.token.Token.{Token}
use Rattle.pc_rules.specs.declared.token.Token.TheVariants.{Mark, Word}
use Rattle.pc_rules.specs.Parsed.{Parsed, ◌>>=◌}
use Rattle.pc_rules.specs.Counts.{count_of}
use Rattle.pc_rules.specs.Token.{one_if_open, one_if_closed, is_deep_after, is_too_deep}
use Rattle.pc_rules.specs.Naming.{variable_at, value_at, variables_at, values_at, rows_at, all_ok, named_step, rule_named}
use Rattle.pc_rules.specs.Grammar.{parted, alone_word, SpellsPhrase, SpellsPhrases}
use Rattle.pc_rules.specs.Grammar as grammar
use Rattle.pc_rules.proofs.Positions.{bind_ok, the_ok}
use Rattle.pc_rules.proofs.PhraseLemmas.{rule_named-And, rule_named-Or, rule_named-AtMost}
use Rattle.pc_rules.proofs.PhraseFolds as of_phrase
use Rattle.pc_rules.proofs.RuleFolds as of_rule
use Rattle.pc_rules.proofs.Depth.{opens, closes, same_deep, deep-append, deep-shift, balanced}

-- a rule that binds enough stands by itself
enough : (asked strength count most : ℕ) → asked ≤ strength → count ≤ most → open_in_place asked (record { strength = strength; open_at_most = count }) ≤ most
enough asked strength count most binds few = subst (λ b. cond b (count + 1) count ≤ most) (sym (le-ltb strength asked binds)) few

-- and in any place it takes one more at most
in_any_place : (asked : ℕ) (n : Nesting) (most : ℕ) → open_in_place 0 n ≤ most → open_in_place asked n ≤ suc most
in_any_place asked n most few =
    let alone : n.open_at_most ≤ most = subst (λ b. cond b (n.open_at_most + 1) n.open_at_most ≤ most) (le-ltb n.strength 0 (omega arith)) few in
    by (nat_lt n.strength asked) alone
  where
    by : (b : Bool) → n.open_at_most ≤ most → cond b (n.open_at_most + 1) n.open_at_most ≤ suc most
    by true alone = omega arith
    by false alone = omega arith

module _ (limit : ℕ) where
  -- the part that comes first, and the part that comes next
  pub parts : (ts us : List Token) (o c : ℕ) → opens ts ≡ closes ts → is_deep_after limit o c (ts ++ us) ≡ false → (is_deep_after limit o c ts ≡ false) × (is_deep_after limit o c us ≡ false)
  parts ts us o c same flat =
      let p = or_parts (is_deep_after limit o c ts) (is_deep_after limit (o + opens ts) (c + closes ts) us) (sym (deep-append limit ts us o c) ∙ flat) in
      let shift : is_deep_after limit (o + opens ts) (c + closes ts) us ≡ is_deep_after limit o c us =
      ap (λ n. is_deep_after limit (o + opens ts) (c + n) us) (sym same) ∙ deep-shift limit (opens ts) us o c in
      (p.0, sym shift ∙ p.1)

  pub first_part : (ts us : List Token) (o c : ℕ) → is_deep_after limit o c (ts ++ us) ≡ false → is_deep_after limit o c ts ≡ false
  first_part ts us o c flat = (or_parts (is_deep_after limit o c ts) (is_deep_after limit (o + opens ts) (c + closes ts) us) (sym (deep-append limit ts us o c) ∙ flat)).0

  -- after a token that is no parenthesis
  pub past_token : (token : Token) (ts : List Token) (o c : ℕ) → one_if_open token ≡ 0 → one_if_closed token ≡ 0 → is_deep_after limit o c (token ∷ ts) ≡ false → is_deep_after limit o c ts ≡ false
  past_token token ts o c e f flat =
      let p = or_parts (nat_lt (c + one_if_closed token + limit) (o + one_if_open token)) (is_deep_after limit (o + one_if_open token) (c + one_if_closed token) ts) flat in
      same_deep limit ts o (o + one_if_open token) c (c + one_if_closed token) (omega (arith, e)) (omega (arith, f)) ∙ p.1

  -- after an opening one, for which there is room
  pub opened : (ts : List Token) (o c : ℕ) → is_deep_after limit o c (Mark Open ∷ ts) ≡ false → (suc o ≤ c + limit) × (is_deep_after limit (suc o) c ts ≡ false)
  opened ts o c flat =
      let p = or_parts (nat_lt (c + 0 + limit) (o + 1)) (is_deep_after limit (o + 1) (c + 0) ts) flat in
      let room = ltb-false (c + 0 + limit) (o + 1) p.0 in
      (omega (arith, room), same_deep limit ts (suc o) (o + 1) c (c + 0) (omega arith) (omega arith) ∙ p.1)

  -- the first text, and the others
  pub split : (text : List Token) (texts : List (List Token)) (between : Token) → one_if_open between ≡ 0 → one_if_closed between ≡ 0 → (o c : ℕ) → opens text ≡ closes text → is_deep_after limit o c (parted between (text ∷ texts)) ≡ false →
      (is_deep_after limit o c text ≡ false) × (is_deep_after limit o c (parted between texts) ≡ false)
  split text [] between apart apart_too o c same flat = (flat, refl)
  split text (next ∷ texts) between apart apart_too o c same flat =
      let two = parts text (between ∷ parted between (next ∷ texts)) o c same flat in
      (two.0, past_token between (parted between (next ∷ texts)) o c apart apart_too two.1)

  module _ (names : Catalogue) where
    -- rules of no rules
    flat_rule : (place most : ℕ) (r : Rule) → place ≤ 4 → nesting r ≡ record { strength = 4; open_at_most = 0 } → open_in_place place (nesting r) ≤ most
    flat_rule place most r low is = subst (λ n. open_in_place place n ≤ most) (sym is) (enough place 4 0 most low (omega arith))

    round_rule : (place most : ℕ) (r : Rule) → place ≤ 4 → 1 ≤ most → nesting r ≡ record { strength = 4; open_at_most = 1 } → open_in_place place (nesting r) ≤ most
    round_rule place most r low room is = subst (λ n. open_in_place place n ≤ most) (sym is) (enough place 4 1 most low room)

    nesting_Is : (v a : List ℕ) (r : Rule) → rule_named names (phrase.Is v a) ≡ Ok r → nesting r ≡ record { strength = 4; open_at_most = 0 }
    nesting_Is v a r e =
        let s = bind_ok (variable_at names v) (λ variable. value_at names variable a >>= λ value. Ok (rule.Is variable value)) r (sym (of_phrase.fold-Is (Parsed Rule) (named_step names) v a) ∙ e) in
        let t = bind_ok (value_at names s.0 a) (λ value. Ok (rule.Is s.0 value)) r s.2 in
        ap nesting (sym (the_ok (rule.Is s.0 t.0) r t.2)) ∙ of_rule.fold-Is Nesting nesting_step s.0 t.0

    nesting_IsNot : (v a : List ℕ) (r : Rule) → rule_named names (phrase.IsNot v a) ≡ Ok r → nesting r ≡ record { strength = 4; open_at_most = 0 }
    nesting_IsNot v a r e =
        let s = bind_ok (variable_at names v) (λ variable. value_at names variable a >>= λ value. Ok (rule.IsNot variable value)) r (sym (of_phrase.fold-IsNot (Parsed Rule) (named_step names) v a) ∙ e) in
        let t = bind_ok (value_at names s.0 a) (λ value. Ok (rule.IsNot s.0 value)) r s.2 in
        ap nesting (sym (the_ok (rule.IsNot s.0 t.0) r t.2)) ∙ of_rule.fold-IsNot Nesting nesting_step s.0 t.0

    nesting_OneOf : (v : List ℕ) (values : List (List ℕ)) (r : Rule) → rule_named names (phrase.OneOf v values) ≡ Ok r → nesting r ≡ record { strength = 4; open_at_most = 0 }
    nesting_OneOf v values r e =
        let s = bind_ok (variable_at names v) (λ variable. values_at names variable values >>= λ these. Ok (rule.OneOf variable these)) r (sym (of_phrase.fold-OneOf (Parsed Rule) (named_step names) v values) ∙ e) in
        let t = bind_ok (values_at names s.0 values) (λ these. Ok (rule.OneOf s.0 these)) r s.2 in
        ap nesting (sym (the_ok (rule.OneOf s.0 t.0) r t.2)) ∙ of_rule.fold-OneOf Nesting nesting_step s.0 t.0

    nesting_Same : (v w : List ℕ) (r : Rule) → rule_named names (phrase.Same v w) ≡ Ok r → nesting r ≡ record { strength = 4; open_at_most = 1 }
    nesting_Same v w r e =
        let s = bind_ok (variable_at names v) (λ first. variable_at names w >>= λ second. Ok (rule.Same first second)) r (sym (of_phrase.fold-Same (Parsed Rule) (named_step names) v w) ∙ e) in
        let t = bind_ok (variable_at names w) (λ second. Ok (rule.Same s.0 second)) r s.2 in
        ap nesting (sym (the_ok (rule.Same s.0 t.0) r t.2)) ∙ of_rule.fold-Same Nesting nesting_step s.0 t.0

    nesting_Table : (vs : List (List ℕ)) (rows : List (List (List ℕ))) (r : Rule) → rule_named names (phrase.Table vs rows) ≡ Ok r → nesting r ≡ record { strength = 4; open_at_most = 1 }
    nesting_Table vs rows r e =
        let s = bind_ok (variables_at names vs) (λ these. rows_at names these rows >>= λ found. Ok (rule.Table these found)) r (sym (of_phrase.fold-Table (Parsed Rule) (named_step names) vs rows) ∙ e) in
        let t = bind_ok (rows_at names s.0 rows) (λ found. Ok (rule.Table s.0 found)) r s.2 in
        ap nesting (sym (the_ok (rule.Table s.0 t.0) r t.2)) ∙ of_rule.fold-Table Nesting nesting_step s.0 t.0

    -- members in their places
    in_places : (asked most : ℕ) (rules : List Rule) → list_all (λ r. nat_le (open_in_place asked (nesting r)) most) rules ≡ true → open_in_places asked (map nesting rules) ≤ most
    in_places asked most rules all = leb-true (open_in_places asked (map nesting rules)) most (within-places asked most rules ∙ all)

    mutual
      -- with so many parentheses open before, at most so many more
      pub shallow : {place : ℕ} {p : Phrase} {text : List Token} → SpellsPhrase place p text → place ≤ 4 → (most o c : ℕ) → most + o ≡ c + limit → is_deep_after limit o c text ≡ false →
          (r : Rule) → rule_named names p ≡ Ok r → open_in_place place (nesting r) ≤ most
      shallow (grammar.parentheses place {text = text} s) low most o c sum flat r e =
          let inside = opened (text ++ Mark Close ∷ []) o c flat in
          let inner = parts text (Mark Close ∷ []) (suc o) c (balanced s) inside.1 in
          let less : (most - 1) + suc o ≡ c + limit = omega (arith, sum, inside.0) in
          let few = in_any_place place (nesting r) (most - 1) (shallow s (omega arith) (most - 1) (suc o) c less inner.0 r e) in
          omega (arith, few, sum, inside.0)
      shallow (grammar.is place v a free) low most o c sum flat r e = flat_rule place most r low (nesting_Is v a r e)
      shallow (grammar.is_not place v a free) low most o c sum flat r e = flat_rule place most r low (nesting_IsNot v a r e)
      shallow (grammar.one_of place v values free some) low most o c sum flat r e = flat_rule place most r low (nesting_OneOf v values r e)
      shallow (grammar.same place v w free other) low most o c sum flat r e =
          let rest = Word v ∷ Mark Comma ∷ Word w ∷ Mark Close ∷ [] in
          let room = opened rest o c (past_token (Word (codes "same")) (Mark Open ∷ rest) o c refl refl flat) in
          round_rule place most r low (omega (arith, sum, room.0)) (nesting_Same v w r e)
      shallow (grammar.table place vs rows some free some_rows are fit) low most o c sum flat r e =
          let rest = parted (Mark Comma) (map alone_word vs) ++ Mark Close ∷ Mark OpenBrace ∷ parted (Mark Comma) (map (map Word) rows) ++ Mark CloseBrace ∷ [] in
          let room = opened rest o c (past_token (Word (codes "table")) (Mark Open ∷ rest) o c refl refl flat) in
          round_rule place most r low (omega (arith, sum, room.0)) (nesting_Table vs rows r e)
      shallow (grammar.not {place = place} {rule = p} {text = text} at s) low most o c sum flat r e =
          let b = bind_ok (rule_named names p) (λ inner. Ok (rule.Not inner)) r (sym (of_phrase.fold-Not (Parsed Rule) (named_step names) p) ∙ e) in
          let few = shallow s (omega arith) most o c sum (past_token (Word (codes "not")) text o c refl refl flat) b.0 b.1 in
          let is = ap nesting (sym (the_ok (rule.Not b.0) r b.2)) ∙ of_rule.fold-Not Nesting nesting_step b.0 in
          subst (λ n. open_in_place place n ≤ most) (sym is) (enough place 3 (open_in_place 4 (nesting b.0)) most at few)
      shallow (grammar.implies {place = place} {premise = p} {conclusion = q} {text = text} {next = next} at s t) low most o c sum flat r e =
          let b = bind_ok (rule_named names p) (λ premise. rule_named names q >>= λ conclusion. Ok (rule.Implies premise conclusion)) r (sym (of_phrase.fold-Implies (Parsed Rule) (named_step names) p q) ∙ e) in
          let d = bind_ok (rule_named names q) (λ conclusion. Ok (rule.Implies b.0 conclusion)) r b.2 in
          let two = parts text (Mark Arrow ∷ next) o c (balanced s) flat in
          let first = shallow s (omega arith) most o c sum two.0 b.0 b.1 in
          let second = shallow t (omega arith) most o c sum (past_token (Mark Arrow) next o c refl refl two.1) d.0 d.1 in
          let is = ap nesting (sym (the_ok (rule.Implies b.0 d.0) r d.2)) ∙ of_rule.fold-Implies Nesting nesting_step b.0 d.0 in
          let few : max (open_in_place 1 (nesting b.0)) (open_in_place 1 (nesting d.0)) ≤ most = omega (arith, first, second) in
          subst (λ n. open_in_place place n ≤ most) (sym is) (enough place 0 (max (open_in_place 1 (nesting b.0)) (open_in_place 1 (nesting d.0))) most at few)
      shallow (grammar.and {place = place} {rules = ps} at two each) low most o c sum flat r e =
          let b = bind_ok (all_ok (map (rule_named names) ps)) (λ rules. Ok (rule.And rules)) r (sym (rule_named-And names ps) ∙ e) in
          let all = shallow_each each (omega arith) (Word (codes "and")) refl refl most o c sum flat b.0 b.1 in
          let is = ap nesting (sym (the_ok (rule.And b.0) r b.2)) ∙ nesting-And b.0 in
          subst (λ n. open_in_place place n ≤ most) (sym is) (enough place 2 (open_in_places 3 (map nesting b.0)) most at (in_places 3 most b.0 all))
      shallow (grammar.or {place = place} {rules = ps} at two each) low most o c sum flat r e =
          let b = bind_ok (all_ok (map (rule_named names) ps)) (λ rules. Ok (rule.Or rules)) r (sym (rule_named-Or names ps) ∙ e) in
          let all = shallow_each each (omega arith) (Word (codes "or")) refl refl most o c sum flat b.0 b.1 in
          let is = ap nesting (sym (the_ok (rule.Or b.0) r b.2)) ∙ nesting-Or b.0 in
          subst (λ n. open_in_place place n ≤ most) (sym is) (enough place 1 (open_in_places 2 (map nesting b.0)) most at (in_places 2 most b.0 all))
      shallow (grammar.at_most place k {rules = ps} {texts = texts} some each) low most o c sum flat r e =
          let count = unwrap_or (count_of k) 0 in
          let b = bind_ok (all_ok (map (rule_named names) ps)) (λ rules. Ok (rule.AtMost count rules)) r (sym (rule_named-AtMost names k ps) ∙ e) in
          let members = parted (Mark Comma) texts in
          let inside = opened (members ++ Mark Close ∷ []) o c (past_token (Word k) (Mark Open ∷ members ++ Mark Close ∷ []) o c refl refl (past_token (Word (codes "atmost")) (Word k ∷ Mark Open ∷ members ++ Mark Close ∷ []) o c refl refl flat)) in
          let first = first_part members (Mark Close ∷ []) (suc o) c inside.1 in
          let less : (most - 1) + suc o ≡ c + limit = omega (arith, sum, inside.0) in
          let all = shallow_each each (omega arith) (Mark Comma) refl refl (most - 1) (suc o) c less first b.0 b.1 in
          let few = in_places 0 (most - 1) b.0 all in
          let is = ap nesting (sym (the_ok (rule.AtMost count b.0) r b.2)) ∙ nesting-AtMost count b.0 in
          subst (λ n. open_in_place place n ≤ most) (sym is) (enough place 4 (open_in_places 0 (map nesting b.0) + 1) most low (omega (arith, few, sum, inside.0)))

      shallow_each : {place : ℕ} {ps : List Phrase} {texts : List (List Token)} → SpellsPhrases place ps texts → place ≤ 4 → (between : Token) → one_if_open between ≡ 0 → one_if_closed between ≡ 0 →
          (most o c : ℕ) → most + o ≡ c + limit → is_deep_after limit o c (parted between texts) ≡ false → (rs : List Rule) → all_ok (map (rule_named names) ps) ≡ Ok rs →
          list_all (λ r. nat_le (open_in_place place (nesting r)) most) rs ≡ true
      shallow_each (grammar.none place) low between apart apart_too most o c sum flat rs e = ap (list_all (λ r. nat_le (open_in_place place (nesting r)) most)) (sym (the_ok [] rs e))
      shallow_each (grammar.more {place = place} {rule = p} {text = text} {rules = ps} {texts = texts} s each) low between apart apart_too most o c sum flat rs e =
          let rest = all_ok (map (rule_named names) ps) in
          let a = bind_ok (rule_named names p) (λ r. rest >>= λ more. Ok (r ∷ more)) rs e in
          let b = bind_ok rest (λ more. Ok (a.0 ∷ more)) rs a.2 in
          let is = the_ok (a.0 ∷ b.0) rs b.2 in
          let two = split text texts between apart apart_too o c (balanced s) flat in
          let first = shallow s low most o c sum two.0 a.0 a.1 in
          let others = shallow_each each low between apart apart_too most o c sum two.1 b.0 b.1 in
          ap (list_all (λ r. nat_le (open_in_place place (nesting r)) most)) (sym is)
          ∙ and_from (nat_le (open_in_place place (nesting a.0)) most) (list_all (λ r. nat_le (open_in_place place (nesting r)) most) b.0) (le-leb (open_in_place place (nesting a.0)) most first) others

-- the printed form of a rule that is spelled by a text that isn't too deep
pub shallow_rule : (names : Catalogue) {p : Phrase} {text : List Token} → SpellsPhrase 0 p text → is_too_deep text ≡ false → (r : Rule) → rule_named names p ≡ Ok r → is_shallow r ≡ true
unfolding is_too_deep
shallow_rule names s flat r e =
    let few = shallow 64 names s (omega arith) 64 0 0 refl flat r e in
    let n = nesting r in
    le-leb n.open_at_most 64 (subst (λ b. cond b (n.open_at_most + 1) n.open_at_most ≤ 64) (le-ltb n.strength 0 (omega arith)) few)
