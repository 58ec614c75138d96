-- What a line says, by its keyword, the words after it and the rule that they give.
use Rattle.std.proofs.Common.{◌≡◌, ℕ, ◌<◌, Bool, true, false, ◌==◌, ◌||◌, cond, List, [], ◌∷◌, length, slice_index, Option, Some, None, Result, Ok, refl, ap, subst, ◌∙◌, arith}
use Rattle.std.specs.Prelude.{codes}
use Rattle.std.proofs.lemmas.Bool.{or_parts, eqb-false}
use Rattle.pc_names.specs.Name.{is_name}
use Rattle.pc_names.proofs.Places.{name_eq-Decides}
use Rattle.pc_names.specs.Spelling.{same_spelling}
use Rattle.pc_file.specs.Limits.{Contents}
use Rattle.pc_file.specs.declared.rule.Rule.{Rule}
use Rattle.pc_text.specs.declared.keyword.Keyword.{Keyword}
use Rattle.pc_text.specs.declared.keyword.Keyword.TheVariants.{Product, Cost, Variable, Value, Rule as TheRule, End}
use Rattle.pc_rules.specs.declared.kind.Kind.{Kind}
use Rattle.pc_text.specs.Keyword.{keyword_of}
use Rattle.pc_names.specs.LineWords.{words, first_word, after_word}
use Rattle.pc_text.specs.Given.{catalogue_of, is_skipped, keyword_at, arguments_at}
use Rattle.pc_rules.specs.RuleText.{rule_of}
use Rattle.pc_text.specs.Statement.{Statement, header, a_cost, a_variable, a_value, a_rule, end, Says, value_words}
use Rattle.pc_rules.proofs.RuleRead.{rule_of-read, rule_of-only}
use Rattle.pc_names.proofs.LineWordLemmas.{Worded, bare, worded, cut_words, first_of_words}

-- a keyword, words and what reading gives say a statement of a file of so many costs
abbrev pub Means : ℕ → Option Keyword → List (List ℕ) → Result Rule Kind → Statement → Type 0
Means costs word arguments rule header = (word ≡ Some Product) × (arguments ≡ codes "1" ∷ [])
Means costs word arguments rule (a_cost name) = (word ≡ Some Cost) × (arguments ≡ name ∷ []) × (is_name name ≡ true)
Means costs word arguments rule (a_variable name) = (word ≡ Some Variable) × (arguments ≡ name ∷ []) × (is_name name ≡ true)
Means costs word arguments rule (a_value value) = (word ≡ Some Value) × (arguments ≡ value_words costs value) × (is_name value.name ≡ true)
Means costs word arguments rule (a_rule said) = (word ≡ Some TheRule) × (rule ≡ Ok said)
Means costs word arguments rule end = (word ≡ Some End) × (arguments ≡ [])

abbrev spelling : Keyword → List ℕ
spelling Product = codes "product"
spelling Cost = codes "cost"
spelling Variable = codes "variable"
spelling Value = codes "value"
spelling TheRule = codes "rule"
spelling End = codes "end"

pick : (P : Keyword → Type 0) (b : Bool) (k found : Keyword) (rest : Option Keyword) → (b ≡ true → P k) → (rest ≡ Some found → P found) → cond b (Some k) rest ≡ Some found → P found
pick P true k found rest here later e = let same : k ≡ found = cc in subst P same (here refl)
pick P false k found rest here later e = later e

spelled : (word : List ℕ) (k : Keyword) → keyword_of word ≡ Some k → word ≡ spelling k
unfolding keyword_of
spelled word k e =
    let P : Keyword → Type 0 = λ j. word ≡ spelling j in
    let is = λ (j : Keyword). same_spelling word (spelling j) in
    let then = λ (j : Keyword). (name_eq-Decides word (spelling j)).0 in
    pick P (is Product) Product k _ (then Product)
    (pick P (is Cost) Cost k _ (then Cost)
    (pick P (is Variable) Variable k _ (then Variable)
    (pick P (is Value) Value k _ (then Value)
    (pick P (is TheRule) TheRule k _ (then TheRule)
    (pick P (is End) End k None (then End) (λ none. absurd cc)))))) e

keyword_spelled : (k : Keyword) → keyword_of (spelling k) ≡ Some k
unfolding keyword_of
keyword_spelled Product = refl
keyword_spelled Cost = refl
keyword_spelled Variable = refl
keyword_spelled Value = refl
keyword_spelled TheRule = refl
keyword_spelled End = refl

abbrev skips : List ℕ → Bool
skips word = (length word == 0) || (slice_index word 0 == 35)

spelling_counts : (k : Keyword) → skips (spelling k) ≡ false
spelling_counts Product = refl
spelling_counts Cost = refl
spelling_counts Variable = refl
spelling_counts Value = refl
spelling_counts TheRule = refl
spelling_counts End = refl

-- a line of these words begins with the first of them
begins : (line word : List ℕ) (others : List (List ℕ)) → words line ≡ word ∷ others → (first_word line ≡ word) × (arguments_at line ≡ others)
begins line word others are = by (cut_words line)
  where
    by : Worded line → (first_word line ≡ word) × (arguments_at line ≡ others)
    by (bare none all) = absurd cc
    by (worded some all less) = (cc, cc)

-- a line that begins with a keyword counts, and is about it
about : (line : List ℕ) (k : Keyword) → first_word line ≡ spelling k → (is_skipped line ≡ false) × (keyword_at line ≡ Some k)
about line k first = (ap skips first ∙ spelling_counts k, ap keyword_of first ∙ keyword_spelled k)

-- what a line that counts has for words
worded_so : (line : List ℕ) (k : Keyword) (others : List (List ℕ)) → is_skipped line ≡ false → keyword_at line ≡ Some k → arguments_at line ≡ others → words line ≡ spelling k ∷ others
worded_so line k others counts word are =
    let some : 0 < length (first_word line) = let ne = eqb-false (length (first_word line)) 0 (or_parts (length (first_word line) == 0) (slice_index (first_word line) 0 == 35) counts).0 in omega arith in
    (first_of_words line (cut_words line) some).0 ∙ ap (λ w. w ∷ arguments_at line) (spelled (first_word line) k word) ∙ ap (λ ws. spelling k ∷ ws) are

module _ (file : Contents) (line : List ℕ) where
  abbrev pub MeansHere : Statement → Type 0
  MeansHere = Means (length file.costs) (keyword_at line) (arguments_at line) (rule_of (catalogue_of file.variables) (after_word line))

  pub says_means : (statement : Statement) → Says file line statement → (is_skipped line ≡ false) × MeansHere statement
  says_means header says = let b = begins line _ _ says in let a = about line Product b.0 in (a.0, (a.1, b.1))
  says_means (a_cost name) says = let b = begins line _ _ says.0 in let a = about line Cost b.0 in (a.0, (a.1, b.1, says.1))
  says_means (a_variable name) says = let b = begins line _ _ says.0 in let a = about line Variable b.0 in (a.0, (a.1, b.1, says.1))
  says_means (a_value value) says = let b = begins line _ _ says.0 in let a = about line Value b.0 in (a.0, (a.1, b.1, says.1))
  says_means (a_rule rule) says = let a = about line TheRule says.0 in (a.0, (a.1, rule_of-only (catalogue_of file.variables) (after_word line) rule says.1))
  says_means end says = let b = begins line _ _ says in let a = about line End b.0 in (a.0, (a.1, b.1))

  pub means_says : (statement : Statement) → is_skipped line ≡ false → MeansHere statement → Says file line statement
  means_says header counts m = worded_so line Product _ counts m.0 m.1
  means_says (a_cost name) counts m = (worded_so line Cost _ counts m.0 m.1, m.2)
  means_says (a_variable name) counts m = (worded_so line Variable _ counts m.0 m.1, m.2)
  means_says (a_value value) counts m = (worded_so line Value _ counts m.0 m.1, m.2)
  means_says (a_rule rule) counts m = (spelled (first_word line) TheRule m.0, rule_of-read (catalogue_of file.variables) (after_word line) rule m.1)
  means_says end counts m = worded_so line End _ counts m.0 m.1
