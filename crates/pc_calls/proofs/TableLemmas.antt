-- Reading the words of a line goes wrong where the table of commands says.
use Rattle.std.proofs.Common.{◌≡◌, ℕ, ℤ, Bool, true, false, is_some, cond, List, [], ◌∷◌, ◌++◌, length, codes, Option, Some, None, Result, Ok, Err, refl, sym, ap, ◌∙◌}
use Rattle.pc_names.specs.Name.{is_name}
use Rattle.pc_names.specs.Number.{int_of, unsigned_of}
use Rattle.pc_names.specs.Spelling.{same_spelling}
use Rattle.pc_calls.specs.declared.bad_column.BadColumn.{BadColumn}
use Rattle.pc_calls.specs.declared.command.Command.{Command}
use Rattle.pc_calls.specs.declared.command.Command.TheVariants as command
use Rattle.pc_calls.specs.declared.line_call.LineCall.{LineCall}
use Rattle.std.specs.Prelude.{MatchResult}
use Rattle.std.proofs.lemmas.List.{append-nil}
use Rattle.pc_calls.specs.LineWords.{LineWord, words_from}
use Rattle.pc_base.specs.Reader.{◌>>=◌, ◌>>◌, pure, and_then}
use Rattle.pc_calls.specs.CommandReader.{Rest, rest_of, WordReader, word_of_kind, said, end, flag, wrong, line_count_of, name_of}
use Rattle.pc_calls.specs.CommandLine.{command_of, arguments, command_line, value_of, line_call}
use Rattle.pc_calls.specs.CommandTable.{WordKind, unsigned, number, line_count, name, dropping, is_of_kind, kinds, may_end, first_wrong, wrong_after, wrong_among, bad_column}

-- where reading stopped
abbrev pub stopped : {A : Type 0} → Result A BadColumn → Option BadColumn
stopped (Ok value) = None
stopped (Err column) = Some column

abbrev rest : List LineWord → ℕ → Rest
rest words n = record { words = words; line_length = n }

-- a reader of all words stops where words of these kinds go wrong
abbrev Judges : WordReader LineCall → List WordKind → Type 0
Judges reader ks = (words : List LineWord) (n : ℕ) → stopped (reader (rest words n)) ≡ first_wrong n ks words

-- a reader of the front stops where words of these kinds go wrong, and else hands on
record Leads (reader : WordReader LineCall) (ks : List WordKind) : Type 0 where
  leads : (next : LineCall → WordReader LineCall) (more : List WordKind) → ((call : LineCall) → Judges (next call) more) → Judges (reader >>= next) (ks ++ more)

pure_leads : (call : LineCall) → Leads (pure call) []
pure_leads call = record { leads = λ next more judges. judges call }

regroup : {A : Type 0} (outcome : Result (A × Rest) BadColumn) (f : A → WordReader LineCall) (next : LineCall → WordReader LineCall) →
    and_then (and_then outcome f) next ≡ and_then outcome (λ a. f a >>= next)
regroup (Ok found) f next = refl
regroup (Err column) f next = refl

-- what is read of a word that has to be of a kind
at_word : {A : Type 0} (read : Option A) (is : Bool) (word : LineWord) (words : List LineWord) (n : ℕ) (g : A → WordReader LineCall) (rest_wrong : Option BadColumn) →
    is_some read ≡ is → ((a : A) → stopped (g a (rest words n)) ≡ rest_wrong) →
    stopped (and_then (said read word (rest words n)) g) ≡ cond is rest_wrong (Some (wrong word))
at_word (Some a) is word words n g rest_wrong agrees goes = rw (← agrees) (goes a)
at_word None is word words n g rest_wrong agrees goes = rw (← agrees) refl

word_judges : {A : Type 0} (kind : WordKind) (read : List ℕ → Option A) (g : A → WordReader LineCall) (ks : List WordKind) →
    may_end (kind ∷ ks) ≡ false → ((bytes : List ℕ) → is_some (read bytes) ≡ is_of_kind kind bytes) → ((a : A) → Judges (g a) ks) → Judges (word_of_kind read >>= g) (kind ∷ ks)
unfolding word_of_kind
word_judges kind read g ks needed agrees goes [] n = rw needed refl
word_judges kind read g ks needed agrees goes (word ∷ words) n =
    at_word (read word.bytes) (is_of_kind kind word.bytes) word words n g (first_wrong n ks words) (agrees word.bytes) (λ a. goes a words n)

word_leads : {A : Type 0} (kind : WordKind) (read : List ℕ → Option A) (f : A → WordReader LineCall) (ks : List WordKind) →
    ((more : List WordKind) → may_end (kind ∷ more) ≡ false) → ((bytes : List ℕ) → is_some (read bytes) ≡ is_of_kind kind bytes) → ((a : A) → Leads (f a) ks) →
    Leads (word_of_kind read >>= f) (kind ∷ ks)
word_leads kind read f ks needed agrees goes = record {
  leads = λ next more judges words n.
      ap stopped (regroup (word_of_kind read (rest words n)) f next)
      ∙ word_judges kind read (λ a. f a >>= next) (ks ++ more) (needed (ks ++ more)) agrees (λ a. (goes a).leads next more judges) words n;
}

-- a word that may be left out
at_flag : (is : Bool) (word : LineWord) (words : List LineWord) (n : ℕ) (g : Bool → WordReader LineCall) (rest_wrong : Option BadColumn) →
    ((a : Bool) → stopped (g a (rest words n)) ≡ rest_wrong) →
    stopped (and_then (cond is (Ok (true, rest words n)) (Err (wrong word))) g) ≡ cond is rest_wrong (Some (wrong word))
at_flag true word words n g rest_wrong goes = goes true
at_flag false word words n g rest_wrong goes = refl

flag_judges : (g : Bool → WordReader LineCall) (ks : List WordKind) → ((a : Bool) → Judges (g a) ks) → Judges (flag (codes "dropping") >>= g) (dropping ∷ ks)
unfolding flag
flag_judges g ks goes [] n = goes false [] n
flag_judges g ks goes (word ∷ words) n =
    at_flag (same_spelling word.bytes (codes "dropping")) word words n g (first_wrong n ks words) (λ a. goes a words n)

flag_leads : (f : Bool → WordReader LineCall) (ks : List WordKind) → ((a : Bool) → Leads (f a) ks) → Leads (flag (codes "dropping") >>= f) (dropping ∷ ks)
flag_leads f ks goes = record {
  leads = λ next more judges words n.
      ap stopped (regroup (flag (codes "dropping") (rest words n)) f next)
      ∙ flag_judges (λ a. f a >>= next) (ks ++ more) (λ a. (goes a).leads next more judges) words n;
}

unsigned_leads : (f : ℕ → WordReader LineCall) (ks : List WordKind) → ((a : ℕ) → Leads (f a) ks) → Leads (word_of_kind unsigned_of >>= f) (unsigned ∷ ks)
unsigned_leads f ks = word_leads unsigned unsigned_of f ks (λ more. refl) (λ bytes. refl)

number_leads : (f : ℤ → WordReader LineCall) (ks : List WordKind) → ((a : ℤ) → Leads (f a) ks) → Leads (word_of_kind int_of >>= f) (number ∷ ks)
number_leads f ks = word_leads number int_of f ks (λ more. refl) (λ bytes. refl)

line_count_leads : (f : ℕ → WordReader LineCall) (ks : List WordKind) → ((a : ℕ) → Leads (f a) ks) → Leads (word_of_kind line_count_of >>= f) (line_count ∷ ks)
line_count_leads f ks = word_leads line_count line_count_of f ks (λ more. refl) (λ bytes. refl)

is_named : (is : Bool) (bytes : List ℕ) → is_some (cond is (Some bytes) None) ≡ is
is_named true bytes = refl
is_named false bytes = refl

name_leads : (f : List ℕ → WordReader LineCall) (ks : List WordKind) → ((a : List ℕ) → Leads (f a) ks) → Leads (word_of_kind name_of >>= f) (name ∷ ks)
name_leads f ks = word_leads name name_of f ks (λ more. refl) (λ bytes. is_named (is_name bytes) bytes)

arguments_lead : (command : Command) → Leads (arguments command) (kinds command)
unfolding arguments
arguments_lead command.Open = pure_leads _
arguments_lead command.Show = unsigned_leads _ _ (λ session. pure_leads _)
arguments_lead command.Choose = unsigned_leads _ _ (λ session. name_leads _ _ (λ variable. name_leads _ _ (λ value. pure_leads _)))
arguments_lead command.Retract = unsigned_leads _ _ (λ session. name_leads _ _ (λ variable. pure_leads _))
arguments_lead command.Bound = unsigned_leads _ _ (λ session. name_leads _ _ (λ cost. number_leads _ _ (λ most. pure_leads _)))
arguments_lead command.Unbound = unsigned_leads _ _ (λ session. name_leads _ _ (λ cost. pure_leads _))
arguments_lead command.Rebase = unsigned_leads _ _ (λ session. unsigned_leads _ _ (λ version. flag_leads _ _ (λ dropping. pure_leads _)))
arguments_lead command.Close = unsigned_leads _ _ (λ session. pure_leads _)
arguments_lead command.Publish = unsigned_leads _ _ (λ base. line_count_leads _ _ (λ lines. pure_leads _))
arguments_lead command.Reclaim = unsigned_leads _ _ (λ version. pure_leads _)
arguments_lead command.Versions = pure_leads _
arguments_lead command.Leave = pure_leads _

end_judges : (call : LineCall) → Judges (end >> pure call) []
unfolding end
end_judges call [] n = refl
end_judges call (word ∷ words) n = refl

abbrev after_command : Command → WordReader LineCall
after_command command = arguments command >>= λ call. end >> pure call

at_command : (command : Option Command) (word : LineWord) (words : List LineWord) (n : ℕ) → stopped (and_then (said command word (rest words n)) after_command) ≡ wrong_after n word command words
at_command None word words n = refl
at_command (Some command) word words n = (arguments_lead command).leads (λ call. end >> pure call) [] end_judges words n ∙ ap (λ ks. first_wrong n ks words) (append-nil (kinds command))

line_judged : (words : List LineWord) (n : ℕ) → stopped (command_line (rest words n)) ≡ wrong_among n words
unfolding command_line word_of_kind
line_judged [] n = refl
line_judged (word ∷ words) n = at_command (command_of word.bytes) word words n

stopped-value_of : (outcome : Result (LineCall × Rest) BadColumn) → stopped (value_of outcome) ≡ stopped outcome
stopped-value_of (Ok found) = refl
stopped-value_of (Err column) = refl

abbrev pub Agrees : Result LineCall BadColumn → Option BadColumn → Type 0
Agrees result column = MatchResult result (λ call. column ≡ None) (λ wrong. column ≡ Some wrong)

agrees : (result : Result LineCall BadColumn) (column : Option BadColumn) → stopped result ≡ column → Agrees result column
agrees (Ok call) column is = sym is
agrees (Err wrong) column is = sym is

-- reading a line stops at the column that the table tells
pub line_agrees : (line : List ℕ) (from : ℕ) (result : Result LineCall BadColumn) → result ≡ line_call line from → Agrees result (bad_column line from)
line_agrees line from result is =
    agrees result (bad_column line from) (ap stopped is ∙ stopped-value_of (command_line (rest_of line from)) ∙ line_judged (words_from line from) (length line))
