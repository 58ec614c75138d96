-- What the readers of words, signs and lists took.
use Rattle.std.proofs.Common.{◌≡◌, ℕ, zero, suc, ◌≤◌, nat_le, Bool, true, false, not, cond, ◌⊎◌, inl, inr, List, [], ◌∷◌, ◌++◌, length, drop, map, subst, Ok, Err, refl, sym, ap, ◌∙◌, append_assoc, arith, rules}
use denote.Enum.Bare.{same_true}
use Rattle.std.proofs.lemmas.Bool.{and_from, not_from_false, le-leb}
use Rattle.pc_names.proofs.Places.{name_eq-Decides}
use Rattle.pc_names.specs.Spelling.{same_spelling}
use Rattle.pc_file.specs.Limits.{is_reserved}
use Rattle.pc_rules.specs.contracts.token.Sign.{the_type}
use Rattle.pc_rules.specs.declared.kind.Kind.{Kind}
use Rattle.pc_rules.specs.declared.token.Sign.{Sign}
use Rattle.pc_rules.specs.declared.token.Sign.TheVariants.{Comma}
use Rattle.pc_rules.specs.declared.token.Token.{Token}
use Rattle.pc_rules.specs.declared.token.Token.TheVariants.{Mark, Word}
use Rattle.pc_rules.specs.Parsed.{Parsed}
use Rattle.pc_base.specs.Reader.{and_then, ◌>>=◌, ◌>>◌, pure}
use Rattle.pc_rules.specs.Words.{TokenReader, refused, same_sign, sees, sees_word, past, eat, eat_word, expect, word, variable, several_from, several, listed, words_at, some, row}
use Rattle.pc_rules.specs.Grammar.{parted, alone_word, IsFree, AreFree, AreRows}

pub the_value : {A : Type 0} (x y : A) → ◌≡◌ {A = Parsed A} (Ok x) (Ok y) → x ≡ y
the_value x y e = cc

-- what a value and the tokens after it are
pub the_pair : {A : Type 0} (x y : A) (ts us : List Token) → ◌≡◌ {A = Parsed (A × List Token)} (Ok (x, ts)) (Ok (y, us)) → (x ≡ y) × (ts ≡ us)
the_pair x y ts us e = let same : (x, ts) ≡ (y, us) = the_value (x, ts) (y, us) e in (ap (λ p. p.0) same, ap (λ p. p.1) same)

no_value : {A : Type 0} (kind : Kind) (x : A) → ◌≡◌ {A = Parsed A} (Err kind) (Ok x) → ⊥
no_value kind x e = cc

-- the value of two steps comes by one of the first
pub then_ok : {A B : Type 0} (first : Parsed (A × List Token)) (next : A → TokenReader B) (y : B) (rest : List Token) → and_then first next ≡ Ok (y, rest) →
    (x : A) × (left : List Token) × (first ≡ Ok (x, left)) × (next x left ≡ Ok (y, rest))
then_ok (Ok found) next y rest e = (found.0, found.1, refl, e)
then_ok (Err kind) next y rest e = absurd (no_value kind (y, rest) e)

-- which branch gave the value
pub branch_ok : {A : Type 0} (b : Bool) (here there : TokenReader A) (ts : List Token) (y : A) (rest : List Token) → (cond b here there) ts ≡ Ok (y, rest) →
    ((b ≡ true) × (here ts ≡ Ok (y, rest))) ⊎ ((b ≡ false) × (there ts ≡ Ok (y, rest)))
branch_ok true here there ts y rest e = inl (refl, e)
branch_ok false here there ts y rest e = inr (refl, e)

pub never : {A P : Type 0} (ts : List Token) (y : A) (rest : List Token) → refused {A = A} ts ≡ Ok (y, rest) → P
never ts y rest e = absurd cc

pub same_sign-true : (a b : Sign) → same_sign a b ≡ true → a ≡ b
unfolding same_sign
same_sign-true a b e = same_true the_type (search rules) a b e

pub same_word-true : (a b : List ℕ) → same_spelling a b ≡ true → a ≡ b
same_word-true a b e = (name_eq-Decides a b).0 e

pub sees-true : (sign : Sign) (ts : List Token) → sees sign ts ≡ true → ts ≡ Mark sign ∷ drop 1 ts
unfolding sees
sees-true sign [] e = absurd cc
sees-true sign (Mark other ∷ rest) e = ap (λ s. Mark s ∷ rest) (same_sign-true other sign e)
sees-true sign (Word text ∷ rest) e = absurd cc

pub sees_word-true : (text : List ℕ) (ts : List Token) → sees_word text ts ≡ true → ts ≡ Word text ∷ drop 1 ts
unfolding sees_word
sees_word-true text [] e = absurd cc
sees_word-true text (Mark sign ∷ rest) e = absurd cc
sees_word-true text (Word other ∷ rest) e = ap (λ w. Word w ∷ rest) (same_word-true other text e)

-- what `eat` took, and that it took nothing
pub eat-took : (sign : Sign) (ts rest : List Token) → eat sign ts ≡ Ok (true, rest) → ts ≡ Mark sign ∷ rest
eat-took sign ts rest e =
    let parts = the_pair (sees sign ts) true (past (sees sign ts) ts) rest e in
    let seen : sees sign ts ≡ true = parts.0 in
    sees-true sign ts seen ∙ ap (λ r. Mark sign ∷ r) (sym (ap (λ b. past b ts) seen) ∙ parts.1)

pub eat-left : (sign : Sign) (ts rest : List Token) → eat sign ts ≡ Ok (false, rest) → rest ≡ ts
eat-left sign ts rest e =
    let parts = the_pair (sees sign ts) false (past (sees sign ts) ts) rest e in
    sym parts.1 ∙ ap (λ b. past b ts) parts.0

pub eat_word-took : (text : List ℕ) (ts rest : List Token) → eat_word text ts ≡ Ok (true, rest) → ts ≡ Word text ∷ rest
eat_word-took text ts rest e =
    let parts = the_pair (sees_word text ts) true (past (sees_word text ts) ts) rest e in
    let seen : sees_word text ts ≡ true = parts.0 in
    sees_word-true text ts seen ∙ ap (λ r. Word text ∷ r) (sym (ap (λ b. past b ts) seen) ∙ parts.1)

pub eat_word-left : (text : List ℕ) (ts rest : List Token) → eat_word text ts ≡ Ok (false, rest) → rest ≡ ts
eat_word-left text ts rest e =
    let parts = the_pair (sees_word text ts) false (past (sees_word text ts) ts) rest e in
    sym parts.1 ∙ ap (λ b. past b ts) parts.0

pub expect-took : (sign : Sign) (x : Unit {0}) (ts rest : List Token) → expect sign ts ≡ Ok (x, rest) → ts ≡ Mark sign ∷ rest
unfolding expect
expect-took sign x ts rest e =
    let s = then_ok (eat sign ts) (λ found. cond found (pure tt) refused) x rest e in
    by s.0 s.1 s.2 s.3
  where
    by : (found : Bool) (left : List Token) → eat sign ts ≡ Ok (found, left) → (cond found (pure tt) refused) left ≡ Ok (x, rest) → ts ≡ Mark sign ∷ rest
    by true left took e = eat-took sign ts left took ∙ ap (λ r. Mark sign ∷ r) (the_pair tt x left rest e).1
    by false left took e = never left x rest e

pub word-took : (text : List ℕ) (ts rest : List Token) → word ts ≡ Ok (text, rest) → ts ≡ Word text ∷ rest
unfolding word
word-took text [] rest e = absurd cc
word-took text (Mark sign ∷ ts) rest e = absurd cc
word-took text (Word bytes ∷ ts) rest e = let parts = the_pair bytes text ts rest e in ap (λ w. Word w ∷ ts) parts.0 ∙ ap (λ r. Word text ∷ r) parts.1

pub variable-took : (text : List ℕ) (ts rest : List Token) → variable ts ≡ Ok (text, rest) → (ts ≡ Word text ∷ rest) × IsFree text
unfolding variable
variable-took text ts rest e =
    let s = then_ok (word ts) (λ name. cond (is_reserved name) refused (pure name)) text rest e in
    by s.0 s.1 s.2 (is_reserved s.0) refl s.3
  where
    by : (name : List ℕ) (left : List Token) → word ts ≡ Ok (name, left) → (b : Bool) → is_reserved name ≡ b → (cond b refused (pure name)) left ≡ Ok (text, rest) → (ts ≡ Word text ∷ rest) × IsFree text
    by name left took true is e = never left text rest e
    by name left took false is e =
        let parts = the_pair name text left rest e in
        (word-took name ts left took ∙ ap (λ w. Word w ∷ left) parts.0 ∙ ap (λ r. Word text ∷ r) parts.1, ap is_reserved (sym parts.0) ∙ is)

-- each item is told by its text
pub data EachBy {A : Type 0} (P : A → List Token → Type 0) : List A → List (List Token) → Type 0 where
  empty : EachBy P [] []
  with_first : {x : A} {text : List Token} {xs : List A} {texts : List (List Token)} → P x text → EachBy P xs texts → EachBy P (x ∷ xs) (text ∷ texts)

-- a list that was read behind others, and its text
pub record Listed {A : Type 0} (P : A → List Token → Type 0) (between : Token) (found all : List A) (ts rest : List Token) : Type 0 where
  pub first : A
  pub text : List Token
  pub others : List A
  pub texts : List (List Token)
  pub is : all ≡ found ++ first ∷ others
  pub took : ts ≡ parted between (text ∷ texts) ++ rest
  pub told : P first text
  pub each : EachBy P others texts

module _ {A : Type 0} (P : A → List Token → Type 0) (item : TokenReader A) (joint : TokenReader Bool) (between : Token)
    (item-took : (ts : List Token) (x : A) (rest : List Token) → item ts ≡ Ok (x, rest) → (text : List Token) × (ts ≡ text ++ rest) × P x text)
    (joint-took : (ts rest : List Token) → joint ts ≡ Ok (true, rest) → ts ≡ between ∷ rest)
    (joint-left : (ts rest : List Token) → joint ts ≡ Ok (false, rest) → rest ≡ ts) where
  pub several_from-took : (turns : ℕ) (found all : List A) (ts rest : List Token) → several_from item joint turns found ts ≡ Ok (all, rest) → Listed P between found all ts rest
  unfolding several_from
  several_from-took zero found all ts rest e = never ts all rest e
  several_from-took (suc turns) found all ts rest e =
      let s = then_ok (item ts) (λ next. joint >>= λ more. cond more (several_from item joint turns (found ++ next ∷ [])) (pure (found ++ next ∷ []))) all rest e in
      let t = then_ok (joint s.1) (λ more. cond more (several_from item joint turns (found ++ s.0 ∷ [])) (pure (found ++ s.0 ∷ []))) all rest s.3 in
      let took = item-took ts s.0 s.1 s.2 in
      by (λ front left e. several_from-took turns front all left rest e) s.0 s.1 took.0 took.1 took.2 t.0 t.1 t.2 t.3
    where
      by : ((front : List A) (left : List Token) → several_from item joint turns front left ≡ Ok (all, rest) → Listed P between front all left rest) →
          (x : A) (left text : List Token) → ts ≡ text ++ left → P x text → (more : Bool) (after : List Token) → joint left ≡ Ok (more, after) →
          (cond more (several_from item joint turns (found ++ x ∷ [])) (pure (found ++ x ∷ []))) after ≡ Ok (all, rest) → Listed P between found all ts rest
      by again x left text took told true after sep e =
          let l = again (found ++ x ∷ []) after e in
          record {
            first = x;
            text = text;
            others = l.first ∷ l.others;
            texts = l.text ∷ l.texts;
            is = l.is ∙ append_assoc found (x ∷ []) (l.first ∷ l.others);
            took = took ∙ ap (λ r. text ++ r) (joint-took left after sep ∙ ap (λ r. between ∷ r) l.took) ∙ sym (append_assoc text (between ∷ parted between (l.text ∷ l.texts)) rest);
            told = told;
            each = with_first l.told l.each;
          }
      by again x left text took told false after sep e =
          let parts = the_pair (found ++ x ∷ []) all after rest e in
          record {
            first = x;
            text = text;
            others = [];
            texts = [];
            is = sym parts.0;
            took = took ∙ ap (λ r. text ++ r) (sym (joint-left left after sep) ∙ parts.1);
            told = told;
            each = empty;
          }

  pub several-took : (all : List A) (ts rest : List Token) → several item joint ts ≡ Ok (all, rest) → Listed P between [] all ts rest
  several-took all ts rest e = several_from-took (length ts) [] all ts rest e

-- ---- one step, and the rest of the reading

pub eat_or : {A : Type 0} (sign : Sign) (here there : TokenReader A) (ts : List Token) (y : A) (rest : List Token) → (eat sign >>= λ found. cond found here there) ts ≡ Ok (y, rest) →
    ((left : List Token) × (ts ≡ Mark sign ∷ left) × (here left ≡ Ok (y, rest))) ⊎ (there ts ≡ Ok (y, rest))
eat_or sign here there ts y rest e = by (sees sign ts) refl e
  where
    by : (b : Bool) → sees sign ts ≡ b → (cond b here there) (past b ts) ≡ Ok (y, rest) → ((left : List Token) × (ts ≡ Mark sign ∷ left) × (here left ≡ Ok (y, rest))) ⊎ (there ts ≡ Ok (y, rest))
    by true seen e = inl (drop 1 ts, sees-true sign ts seen, e)
    by false seen e = inr e

pub eat_word_or : {A : Type 0} (text : List ℕ) (here there : TokenReader A) (ts : List Token) (y : A) (rest : List Token) → (eat_word text >>= λ found. cond found here there) ts ≡ Ok (y, rest) →
    ((left : List Token) × (ts ≡ Word text ∷ left) × (here left ≡ Ok (y, rest))) ⊎ (there ts ≡ Ok (y, rest))
eat_word_or text here there ts y rest e = by (sees_word text ts) refl e
  where
    by : (b : Bool) → sees_word text ts ≡ b → (cond b here there) (past b ts) ≡ Ok (y, rest) → ((left : List Token) × (ts ≡ Word text ∷ left) × (here left ≡ Ok (y, rest))) ⊎ (there ts ≡ Ok (y, rest))
    by true seen e = inl (drop 1 ts, sees_word-true text ts seen, e)
    by false seen e = inr e

pub after_expected : {A : Type 0} (sign : Sign) (next : TokenReader A) (ts : List Token) (y : A) (rest : List Token) → (expect sign >> next) ts ≡ Ok (y, rest) →
    (left : List Token) × (ts ≡ Mark sign ∷ left) × (next left ≡ Ok (y, rest))
after_expected sign next ts y rest e = let s = then_ok (expect sign ts) (λ _. next) y rest e in (s.1, expect-took sign s.0 ts s.1 s.2, s.3)

pub with_word : {A : Type 0} (next : List ℕ → TokenReader A) (ts : List Token) (y : A) (rest : List Token) → (word >>= next) ts ≡ Ok (y, rest) →
    (text : List ℕ) × (left : List Token) × (ts ≡ Word text ∷ left) × (next text left ≡ Ok (y, rest))
with_word next ts y rest e = let s = then_ok (word ts) next y rest e in (s.0, s.1, word-took s.0 ts s.1 s.2, s.3)

pub with_variable : {A : Type 0} (next : List ℕ → TokenReader A) (ts : List Token) (y : A) (rest : List Token) → (variable >>= next) ts ≡ Ok (y, rest) →
    (text : List ℕ) × (left : List Token) × (ts ≡ Word text ∷ left) × IsFree text × (next text left ≡ Ok (y, rest))
with_variable next ts y rest e = let s = then_ok (variable ts) next y rest e in let v = variable-took s.0 ts s.1 s.2 in (s.0, s.1, v.0, v.1, s.3)

-- ---- lists of words

words_at-took : (ts : List Token) → ts ≡ map Word (words_at ts).0 ++ (words_at ts).1
words_at-took [] = refl
words_at-took (Mark sign ∷ ts) = refl
words_at-took (Word bytes ∷ ts) = ap (λ r. Word bytes ∷ r) (words_at-took ts)

some-took : (words found : List (List ℕ)) (left rest : List Token) → some words left ≡ Ok (found, rest) → (words ≡ found) × (left ≡ rest) × (1 ≤ length found)
some-took [] found left rest e = never left found rest e
some-took (first ∷ words) found left rest e =
    let parts = the_pair (first ∷ words) found left rest e in
    (parts.0, parts.1, omega (arith, ap (length {A = List ℕ}) parts.0))

pub row-took : (ts : List Token) (found : List (List ℕ)) (rest : List Token) → row ts ≡ Ok (found, rest) → (text : List Token) × (ts ≡ text ++ rest) × ((text ≡ map Word found) × (1 ≤ length found))
unfolding row
row-took ts found rest e =
    let s = some-took (words_at ts).0 found (words_at ts).1 rest e in
    (map Word found, words_at-took ts ∙ ap (λ ws. map Word ws ++ (words_at ts).1) s.0 ∙ ap (λ r. map Word found ++ r) s.1, (refl, s.2))

one_word : (ts : List Token) (found : List ℕ) (rest : List Token) → word ts ≡ Ok (found, rest) → (text : List Token) × (ts ≡ text ++ rest) × (text ≡ alone_word found)
one_word ts found rest e = (alone_word found, word-took found ts rest e, refl)

one_variable : (ts : List Token) (found : List ℕ) (rest : List Token) → variable ts ≡ Ok (found, rest) → (text : List Token) × (ts ≡ text ++ rest) × ((text ≡ alone_word found) × IsFree found)
one_variable ts found rest e = let v = variable-took found ts rest e in (alone_word found, v.0, (refl, v.1))

-- ---- lists with commas

pub listed-took : {A : Type 0} (P : A → List Token → Type 0) (item : TokenReader A) →
    ((ts : List Token) (x : A) (rest : List Token) → item ts ≡ Ok (x, rest) → (text : List Token) × (ts ≡ text ++ rest) × P x text) →
    (all : List A) (ts rest : List Token) → listed item ts ≡ Ok (all, rest) → Listed P (Mark Comma) [] all ts rest
unfolding listed
listed-took P item took all ts rest e = several-took P item (eat Comma) (Mark Comma) took (eat-took Comma) (eat-left Comma) all ts rest e

word_texts : (words : List (List ℕ)) (texts : List (List Token)) → EachBy (λ w text. text ≡ alone_word w) words texts → texts ≡ map alone_word words
word_texts [] [] empty = refl
word_texts [] (text ∷ texts) each = elim each [ ]
word_texts (w ∷ words) [] each = elim each [ ]
word_texts (w ∷ words) (text ∷ texts) (with_first is each) = ap (λ t. t ∷ texts) is ∙ ap (λ ts. alone_word w ∷ ts) (word_texts words texts each)

variable_texts : (words : List (List ℕ)) (texts : List (List Token)) → EachBy (λ w text. (text ≡ alone_word w) × IsFree w) words texts → (texts ≡ map alone_word words) × AreFree words
variable_texts [] [] empty = (refl, refl)
variable_texts [] (text ∷ texts) each = elim each [ ]
variable_texts (w ∷ words) [] each = elim each [ ]
variable_texts (w ∷ words) (text ∷ texts) (with_first told each) =
    let others = variable_texts words texts each in
    (ap (λ t. t ∷ texts) told.0 ∙ ap (λ ts. alone_word w ∷ ts) others.0, and_from (not (is_reserved w)) _ (not_from_false (is_reserved w) told.1) others.1)

row_texts : (rows : List (List (List ℕ))) (texts : List (List Token)) → EachBy (λ r text. (text ≡ map Word r) × (1 ≤ length r)) rows texts → (texts ≡ map (map Word) rows) × AreRows rows
row_texts [] [] empty = (refl, refl)
row_texts [] (text ∷ texts) each = elim each [ ]
row_texts (r ∷ rows) [] each = elim each [ ]
row_texts (r ∷ rows) (text ∷ texts) (with_first told each) =
    let others = row_texts rows texts each in
    (ap (λ t. t ∷ texts) told.0 ∙ ap (λ ts. map Word r ∷ ts) others.0, and_from (nat_le 1 (length r)) _ (le-leb 1 (length r) told.1) others.1)

-- one or more, and what they are written as
some_first : {A : Type 0} (all : List A) (first : A) (others : List A) → all ≡ [] ++ first ∷ others → 1 ≤ length all
some_first {A = A} all first others is = omega (arith, ap (length {A = A}) is)

pub words-took : (all : List (List ℕ)) (ts rest : List Token) → listed word ts ≡ Ok (all, rest) → (ts ≡ parted (Mark Comma) (map alone_word all) ++ rest) × (1 ≤ length all)
words-took all ts rest e =
    let l = listed-took (λ w text. text ≡ alone_word w) word one_word all ts rest e in
    let texts : l.text ∷ l.texts ≡ map alone_word (l.first ∷ l.others) = word_texts (l.first ∷ l.others) (l.text ∷ l.texts) (with_first l.told l.each) in
    (l.took ∙ ap (λ t. parted (Mark Comma) t ++ rest) (texts ∙ ap (map alone_word) (sym l.is)), some_first all l.first l.others l.is)

pub variables-took : (all : List (List ℕ)) (ts rest : List Token) → listed variable ts ≡ Ok (all, rest) →
    (ts ≡ parted (Mark Comma) (map alone_word all) ++ rest) × (1 ≤ length all) × AreFree all
variables-took all ts rest e =
    let l = listed-took (λ w text. (text ≡ alone_word w) × IsFree w) variable one_variable all ts rest e in
    let texts = variable_texts (l.first ∷ l.others) (l.text ∷ l.texts) (with_first l.told l.each) in
    (l.took ∙ ap (λ t. parted (Mark Comma) t ++ rest) (texts.0 ∙ ap (map alone_word) (sym l.is)), some_first all l.first l.others l.is, subst AreFree (sym l.is) texts.1)

pub rows-took : (all : List (List (List ℕ))) (ts rest : List Token) → listed row ts ≡ Ok (all, rest) →
    (ts ≡ parted (Mark Comma) (map (map Word) all) ++ rest) × (1 ≤ length all) × AreRows all
rows-took all ts rest e =
    let l = listed-took (λ r text. (text ≡ map Word r) × (1 ≤ length r)) row row-took all ts rest e in
    let texts = row_texts (l.first ∷ l.others) (l.text ∷ l.texts) (with_first l.told l.each) in
    (l.took ∙ ap (λ t. parted (Mark Comma) t ++ rest) (texts.0 ∙ ap (map (map Word)) (sym l.is)), some_first all l.first l.others l.is, subst AreRows (sym l.is) texts.1)
