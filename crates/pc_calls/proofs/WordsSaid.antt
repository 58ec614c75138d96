-- A line is read as a call exactly where its words say the call.
use Rattle.std.proofs.Common.{◌≡◌, ℕ, ℤ, Bool, true, false, cond, List, [], ◌∷◌, ◌++◌, length, codes, Option, Some, None, Result, Ok, Err, FitsSigned, refl, sym, ap, subst, ◌∙◌, append_assoc, w64}
use Rattle.std.specs.Prelude.{IfOk}
use Rattle.std.specs.Fmt.{signed_decimal, decimal}
use Rattle.std.proofs.lemmas.List.{append-nil}
use Rattle.pc_names.specs.Number.{int_of, unsigned_of}
use Rattle.pc_names.proofs.Written.{int_of_spelling}
use Rattle.pc_names.proofs.Places.{name_eq-Decides}
use Rattle.pc_names.specs.Spelling.{same_spelling}
use Rattle.pc_calls.specs.declared.bad_column.BadColumn.{BadColumn}
use Rattle.pc_calls.specs.declared.call.Call.TheVariants as call
use Rattle.pc_calls.specs.declared.command.Command.{Command}
use Rattle.pc_calls.specs.declared.command.Command.TheVariants as command
use Rattle.pc_calls.specs.declared.line_call.LineCall.{LineCall}
use Rattle.pc_calls.specs.declared.line_call.LineCall.TheVariants.{Whole, PublishHead}
use Rattle.pc_calls.specs.LineWords.{LineWord, words_from}
use Rattle.pc_base.specs.Reader.{◌>>=◌, ◌>>◌, pure, and_then}
use Rattle.pc_calls.specs.CommandReader.{Rest, rest_of, WordReader, word_of_kind, said, end, none_of, flag, wrong, line_count_of, name_of}
use Rattle.pc_calls.specs.CommandLine.{command_of, arguments, command_line, value_of, line_call}
use Rattle.pc_calls.specs.CallWords.{spellings, call_words, IsSayable, IsUnsigned, IsName}
use Rattle.pc_calls.proofs.KindLemmas.{IsCount, number_read, unsigned_read, unsigned_again, line_count_read, line_count_again, name_read, name_again}

abbrev rest : List LineWord → ℕ → Rest
rest words n = record { words = words; line_length = n }

-- ---- what is read is said

-- what was read before, with the words that are left, is what the call says, with those that are left after it
record Tells (before : List (List ℕ)) (words : List LineWord) (found : LineCall × Rest) : Type 0 where
  sayable : IsSayable found.0
  same : before ++ spellings words ≡ call_words found.0 ++ spellings found.1.words

record Told (reader : WordReader LineCall) (before : List (List ℕ)) : Type 0 where
  told : (words : List LineWord) (n : ℕ) (found : LineCall × Rest) → reader (rest words n) ≡ Ok found → Tells before words found

pure_told : (said : LineCall) → IsSayable said → Told (pure said) (call_words said)
pure_told said sayable = record {
  told = λ words n found e.
      let same : (said, rest words n) ≡ found = cc in
      subst (Tells (call_words said) words) same (record { sayable = sayable; same = refl });
}

word_tells : {A : Type 0} (read : List ℕ → Option A) (spelling : A → List ℕ) (IsGood : A → Type 0) (f : A → WordReader LineCall) (before : List (List ℕ)) →
    ((bytes : List ℕ) (a : A) → read bytes ≡ Some a → (bytes ≡ spelling a) × IsGood a) → ((a : A) → IsGood a → Told (f a) (before ++ spelling a ∷ [])) →
    (words : List LineWord) (n : ℕ) (found : LineCall × Rest) → (word_of_kind read >>= f) (rest words n) ≡ Ok found → Tells before words found
unfolding word_of_kind
word_tells read spelling IsGood f before reads goes [] n found e = absurd cc
word_tells {A} read spelling IsGood f before reads goes (word ∷ words) n found e = at_word (read word.bytes) refl e
  where
    at_word : (value : Option A) → read word.bytes ≡ value → and_then (said value word (rest words n)) f ≡ Ok found → Tells before (word ∷ words) found
    at_word None is e = absurd cc
    at_word (Some a) is e =
        let parts = reads word.bytes a is in
        let after = (goes a parts.1).told words n found e in
        record {
          sayable = after.sayable;
          same = ap (λ bytes. before ++ bytes ∷ spellings words) parts.0 ∙ sym (append_assoc before (spelling a ∷ []) (spellings words)) ∙ after.same;
        }

word_told : {A : Type 0} (read : List ℕ → Option A) (spelling : A → List ℕ) (IsGood : A → Type 0) (f : A → WordReader LineCall) (before : List (List ℕ)) →
    ((bytes : List ℕ) (a : A) → read bytes ≡ Some a → (bytes ≡ spelling a) × IsGood a) → ((a : A) → IsGood a → Told (f a) (before ++ spelling a ∷ [])) →
    Told (word_of_kind read >>= f) before
word_told read spelling IsGood f before reads goes = record { told = word_tells read spelling IsGood f before reads goes }

unsigned_told : (f : ℕ → WordReader LineCall) (before : List (List ℕ)) → ((a : ℕ) → IsUnsigned a → Told (f a) (before ++ decimal a ∷ [])) → Told (word_of_kind unsigned_of >>= f) before
unsigned_told f before = word_told unsigned_of decimal IsUnsigned f before unsigned_read

line_count_told : (f : ℕ → WordReader LineCall) (before : List (List ℕ)) → ((a : ℕ) → IsCount a → Told (f a) (before ++ decimal a ∷ [])) → Told (word_of_kind line_count_of >>= f) before
line_count_told f before = word_told line_count_of decimal IsCount f before line_count_read

number_told : (f : ℤ → WordReader LineCall) (before : List (List ℕ)) → ((a : ℤ) → FitsSigned w64 a → Told (f a) (before ++ signed_decimal a ∷ [])) → Told (word_of_kind int_of >>= f) before
number_told f before = word_told int_of signed_decimal (FitsSigned w64) f before number_read

name_told : (f : List ℕ → WordReader LineCall) (before : List (List ℕ)) → ((a : List ℕ) → IsName a → Told (f a) (before ++ a ∷ [])) → Told (word_of_kind name_of >>= f) before
name_told f before = word_told name_of (λ name. name) IsName f before name_read

flag_tells : (spelling : List ℕ) (f : Bool → WordReader LineCall) (before : List (List ℕ)) → Told (f false) before → Told (f true) (before ++ spelling ∷ []) →
    (words : List LineWord) (n : ℕ) (found : LineCall × Rest) → (flag spelling >>= f) (rest words n) ≡ Ok found → Tells before words found
unfolding flag
flag_tells spelling f before without with_it [] n found e = without.told [] n found e
flag_tells spelling f before without with_it (word ∷ words) n found e = at_word (same_spelling word.bytes spelling) refl e
  where
    at_word : (is : Bool) → same_spelling word.bytes spelling ≡ is → and_then (cond is (Ok (true, rest words n)) (Err (wrong word))) f ≡ Ok found → Tells before (word ∷ words) found
    at_word false is e = absurd cc
    at_word true is e =
        let after = with_it.told words n found e in
        let bytes_are : word.bytes ≡ spelling = (name_eq-Decides word.bytes spelling).0 is in
        record {
          sayable = after.sayable;
          same = ap (λ bytes. before ++ bytes ∷ spellings words) bytes_are ∙ sym (append_assoc before (spelling ∷ []) (spellings words)) ∙ after.same;
        }

flag_told : (spelling : List ℕ) (f : Bool → WordReader LineCall) (before : List (List ℕ)) → Told (f false) before → Told (f true) (before ++ spelling ∷ []) → Told (flag spelling >>= f) before
flag_told spelling f before without with_it = record { told = flag_tells spelling f before without with_it }

-- the word of a command
abbrev command_word : Command → List ℕ
command_word command.Open = codes "open"
command_word command.Show = codes "show"
command_word command.Choose = codes "choose"
command_word command.Retract = codes "retract"
command_word command.Bound = codes "bound"
command_word command.Unbound = codes "unbound"
command_word command.Rebase = codes "rebase"
command_word command.Close = codes "close"
command_word command.Publish = codes "publish"
command_word command.Reclaim = codes "reclaim"
command_word command.Versions = codes "versions"
command_word command.Leave = codes "leave"

arguments_told : (c : Command) → Told (arguments c) (command_word c ∷ [])
unfolding arguments
arguments_told command.Open = pure_told _ tt
arguments_told command.Show = unsigned_told _ _ (λ session s. pure_told _ s)
arguments_told command.Choose = unsigned_told _ _ (λ session s. name_told _ _ (λ variable v. name_told _ _ (λ value w. pure_told _ (s, v, w))))
arguments_told command.Retract = unsigned_told _ _ (λ session s. name_told _ _ (λ variable v. pure_told _ (s, v)))
arguments_told command.Bound = unsigned_told _ _ (λ session s. name_told _ _ (λ cost v. number_told _ _ (λ most m. pure_told _ (s, v, m))))
arguments_told command.Unbound = unsigned_told _ _ (λ session s. name_told _ _ (λ cost v. pure_told _ (s, v)))
arguments_told command.Rebase =
    unsigned_told _ _ (λ session s. unsigned_told _ _ (λ version v. flag_told _ _ _ (pure_told (Whole (call.Rebase session version false)) (s, v)) (pure_told (Whole (call.Rebase session version true)) (s, v))))
arguments_told command.Close = unsigned_told _ _ (λ session s. pure_told _ s)
arguments_told command.Publish = unsigned_told _ _ (λ base b. line_count_told _ _ (λ lines l. pure_told _ (b, l.0, l.1)))
arguments_told command.Reclaim = unsigned_told _ _ (λ version v. pure_told _ v)
arguments_told command.Versions = pure_told _ tt
arguments_told command.Leave = pure_told _ tt

-- a call whose words are those of the line
record Said (words : List LineWord) (said : LineCall) : Type 0 where
  sayable : IsSayable said
  same : spellings words ≡ call_words said

at_end : (before : List (List ℕ)) (words : List LineWord) (x : LineCall × Rest) (left : List LineWord) → x.1.words ≡ left → Tells before words x →
    (found : LineCall × Rest) → and_then (none_of left x.1) (λ _. pure x.0) ≡ Ok found → IsSayable found.0 × (before ++ spellings words ≡ call_words found.0)
at_end before words x (more ∷ left) is tells found e = absurd cc
at_end before words x [] is tells found e =
    let same : x.0 ≡ found.0 = cc in
    subst (λ c. IsSayable c × (before ++ spellings words ≡ call_words c)) same
    (tells.sayable, tells.same ∙ ap (λ left. call_words x.0 ++ spellings left) is ∙ append-nil (call_words x.0))

abbrev ended : LineCall → WordReader LineCall
ended call = end >> pure call

whole_tells : (before : List (List ℕ)) (words : List LineWord) (n : ℕ) (r : WordReader LineCall) → Told r before → (outcome : Result (LineCall × Rest) BadColumn) → r (rest words n) ≡ outcome →
    (found : LineCall × Rest) → and_then outcome ended ≡ Ok found → IsSayable found.0 × (before ++ spellings words ≡ call_words found.0)
unfolding end
whole_tells before words n r told (Err column) is found e = absurd cc
whole_tells before words n r told (Ok x) is found e = at_end before words x x.1.words refl (told.told words n x is) found e

command_is : (bytes : List ℕ) (c d : Command) (others : Option Command) → cond (same_spelling bytes (command_word d)) (Some d) others ≡ Some c →
    (others ≡ Some c → bytes ≡ command_word c) → bytes ≡ command_word c
command_is bytes c d others e go = by (same_spelling bytes (command_word d)) refl e
  where
    by : (is : Bool) → same_spelling bytes (command_word d) ≡ is → cond is (Some d) others ≡ Some c → bytes ≡ command_word c
    by true is e = (name_eq-Decides bytes (command_word d)).0 is ∙ ap command_word (some_one d c e)
      where
        some_one : (d c : Command) → Some d ≡ Some c → d ≡ c
        some_one d c e = cc
    by false is e = go e

command_read : (bytes : List ℕ) (c : Command) → command_of bytes ≡ Some c → bytes ≡ command_word c
unfolding command_of
command_read bytes c e =
    command_is bytes c command.Open _ e (λ e. command_is bytes c command.Show _ e (λ e. command_is bytes c command.Choose _ e (λ e.
    command_is bytes c command.Retract _ e (λ e. command_is bytes c command.Bound _ e (λ e. command_is bytes c command.Unbound _ e (λ e.
    command_is bytes c command.Rebase _ e (λ e. command_is bytes c command.Close _ e (λ e. command_is bytes c command.Publish _ e (λ e.
    command_is bytes c command.Reclaim _ e (λ e. command_is bytes c command.Versions _ e (λ e. command_is bytes c command.Leave _ e (λ e. absurd cc))))))))))))

line_tells : (words : List LineWord) (n : ℕ) (found : LineCall × Rest) → command_line (rest words n) ≡ Ok found → Said words found.0
unfolding command_line word_of_kind
line_tells [] n found e = absurd cc
line_tells (word ∷ words) n found e = at_command (command_of word.bytes) refl e
  where
    at_command : (c : Option Command) → command_of word.bytes ≡ c → and_then (said c word (rest words n)) (λ c. arguments c >>= ended) ≡ Ok found → Said (word ∷ words) found.0
    at_command None is e = absurd cc
    at_command (Some c) is e =
        let tells = whole_tells (command_word c ∷ []) words n (arguments c) (arguments_told c) (arguments c (rest words n)) refl found e in
        record { sayable = tells.0; same = ap (λ bytes. bytes ∷ spellings words) (command_read word.bytes c is) ∙ tells.1 }

abbrev pub Says : List ℕ → ℕ → LineCall → Type 0
Says line from call = IsSayable call × (spellings (words_from line from) ≡ call_words call)

-- what is read is said by the words of the line
pub read_is_said : (line : List ℕ) (from : ℕ) (result : Result LineCall BadColumn) → result ≡ line_call line from → IfOk result (Says line from)
read_is_said line from result is = subst (λ r. IfOk r (Says line from)) (sym is) (by (command_line (rest_of line from)) refl)
  where
    by : (outcome : Result (LineCall × Rest) BadColumn) → command_line (rest_of line from) ≡ outcome → IfOk (value_of outcome) (Says line from)
    by (Err column) is = tt
    by (Ok found) is = let said = line_tells (words_from line from) (length line) found is in (said.sayable, said.same)

-- ---- what is said is read

-- of words with these spellings all are read, as the call
record Takes (reader : WordReader LineCall) (words_said : List (List ℕ)) (c : LineCall) : Type 0 where
  takes : (words : List LineWord) (n : ℕ) → spellings words ≡ words_said → (reader >>= ended) (rest words n) ≡ Ok (c, rest [] n)

pure_reads : (c : LineCall) (words : List LineWord) (n : ℕ) → spellings words ≡ [] → (pure c >>= ended) (rest words n) ≡ Ok (c, rest [] n)
unfolding end
pure_reads c [] n e = refl
pure_reads c (word ∷ words) n e = absurd cc

pure_takes : (c : LineCall) → Takes (pure c) [] c
pure_takes c = record { takes = pure_reads c }

word_reads : {A : Type 0} (read : List ℕ → Option A) (f : A → WordReader LineCall) (b : List ℕ) (a : A) (bs : List (List ℕ)) (c : LineCall) → read b ≡ Some a → Takes (f a) bs c →
    (words : List LineWord) (n : ℕ) → spellings words ≡ b ∷ bs → ((word_of_kind read >>= f) >>= ended) (rest words n) ≡ Ok (c, rest [] n)
unfolding word_of_kind
word_reads read f b a bs c is takes [] n e = absurd cc
word_reads read f b a bs c is takes (word ∷ words) n e =
    let here : word.bytes ≡ b = cc in
    let after : spellings words ≡ bs = cc in
    ap (λ value. and_then (and_then (said value word (rest words n)) f) ended) (ap read here ∙ is) ∙ takes.takes words n after

word_takes : {A : Type 0} (read : List ℕ → Option A) (f : A → WordReader LineCall) (b : List ℕ) (a : A) (bs : List (List ℕ)) (c : LineCall) → read b ≡ Some a → Takes (f a) bs c →
    Takes (word_of_kind read >>= f) (b ∷ bs) c
word_takes read f b a bs c is takes = record { takes = word_reads read f b a bs c is takes }

unsigned_takes : (f : ℕ → WordReader LineCall) (a : ℕ) (bs : List (List ℕ)) (c : LineCall) → IsUnsigned a → Takes (f a) bs c → Takes (word_of_kind unsigned_of >>= f) (decimal a ∷ bs) c
unsigned_takes f a bs c good = word_takes unsigned_of f (decimal a) a bs c (unsigned_again a good)

line_count_takes : (f : ℕ → WordReader LineCall) (a : ℕ) (bs : List (List ℕ)) (c : LineCall) → IsCount a → Takes (f a) bs c → Takes (word_of_kind line_count_of >>= f) (decimal a ∷ bs) c
line_count_takes f a bs c good = word_takes line_count_of f (decimal a) a bs c (line_count_again a good)

number_takes : (f : ℤ → WordReader LineCall) (a : ℤ) (bs : List (List ℕ)) (c : LineCall) → FitsSigned w64 a → Takes (f a) bs c → Takes (word_of_kind int_of >>= f) (signed_decimal a ∷ bs) c
number_takes f a bs c good = word_takes int_of f (signed_decimal a) a bs c (int_of_spelling a good)

name_takes : (f : List ℕ → WordReader LineCall) (a : List ℕ) (bs : List (List ℕ)) (c : LineCall) → IsName a → Takes (f a) bs c → Takes (word_of_kind name_of >>= f) (a ∷ bs) c
name_takes f a bs c good = word_takes name_of f a a bs c (name_again a good)

flag_reads : (spelling : List ℕ) (f : Bool → WordReader LineCall) (c : LineCall) → Takes (f true) [] c →
    (words : List LineWord) (n : ℕ) → spellings words ≡ spelling ∷ [] → ((flag spelling >>= f) >>= ended) (rest words n) ≡ Ok (c, rest [] n)
unfolding flag
flag_reads spelling f c takes [] n e = absurd cc
flag_reads spelling f c takes (word ∷ words) n e =
    let here : word.bytes ≡ spelling = cc in
    let after : spellings words ≡ [] = cc in
    ap (λ is. and_then (and_then (cond is (Ok (true, rest words n)) (Err (wrong word))) f) ended) ((name_eq-Decides word.bytes spelling).1 here) ∙ takes.takes words n after

no_flag_reads : (spelling : List ℕ) (f : Bool → WordReader LineCall) (c : LineCall) → Takes (f false) [] c →
    (words : List LineWord) (n : ℕ) → spellings words ≡ [] → ((flag spelling >>= f) >>= ended) (rest words n) ≡ Ok (c, rest [] n)
unfolding flag
no_flag_reads spelling f c takes [] n e = takes.takes [] n refl
no_flag_reads spelling f c takes (word ∷ words) n e = absurd cc

command_again : (k : Command) → command_of (command_word k) ≡ Some k
unfolding command_of
command_again command.Open = refl
command_again command.Show = refl
command_again command.Choose = refl
command_again command.Retract = refl
command_again command.Bound = refl
command_again command.Unbound = refl
command_again command.Rebase = refl
command_again command.Close = refl
command_again command.Publish = refl
command_again command.Reclaim = refl
command_again command.Versions = refl
command_again command.Leave = refl

command_takes : (k : Command) (bs : List (List ℕ)) (c : LineCall) → Takes (arguments k) bs c → (words : List LineWord) (n : ℕ) → spellings words ≡ command_word k ∷ bs →
    command_line (rest words n) ≡ Ok (c, rest [] n)
unfolding command_line word_of_kind
command_takes k bs c takes [] n e = absurd cc
command_takes k bs c takes (word ∷ words) n e =
    let here : word.bytes ≡ command_word k = cc in
    let after : spellings words ≡ bs = cc in
    ap (λ value. and_then (said value word (rest words n)) (λ k. arguments k >>= ended)) (ap command_of here ∙ command_again k) ∙ takes.takes words n after

abbrev IsRead : LineCall → Type 0
IsRead c = (words : List LineWord) (n : ℕ) → spellings words ≡ call_words c → command_line (rest words n) ≡ Ok (c, rest [] n)

call_is_read : (c : LineCall) → IsSayable c → IsRead c
unfolding arguments
call_is_read (Whole call.Enter) s = absurd s
call_is_read (Whole call.Open) s = command_takes command.Open _ _ (pure_takes _)
call_is_read (Whole (call.Show session)) s = command_takes command.Show _ _ (unsigned_takes _ _ _ _ s (pure_takes _))
call_is_read (Whole (call.Choose session variable value)) s =
    command_takes command.Choose _ _ (unsigned_takes _ _ _ _ s.0 (name_takes _ _ _ _ s.1 (name_takes _ _ _ _ s.2 (pure_takes _))))
call_is_read (Whole (call.Retract session variable)) s = command_takes command.Retract _ _ (unsigned_takes _ _ _ _ s.0 (name_takes _ _ _ _ s.1 (pure_takes _)))
call_is_read (Whole (call.Bound session cost most)) s =
    command_takes command.Bound _ _ (unsigned_takes _ _ _ _ s.0 (name_takes _ _ _ _ s.1 (number_takes _ _ _ _ s.2 (pure_takes _))))
call_is_read (Whole (call.Unbound session cost)) s = command_takes command.Unbound _ _ (unsigned_takes _ _ _ _ s.0 (name_takes _ _ _ _ s.1 (pure_takes _)))
call_is_read (Whole (call.Rebase session version false)) s =
    command_takes command.Rebase _ _ (unsigned_takes _ _ _ _ s.0 (unsigned_takes _ _ _ _ s.1 (record { takes = no_flag_reads (codes "dropping") _ _ (pure_takes _) })))
call_is_read (Whole (call.Rebase session version true)) s =
    command_takes command.Rebase _ _ (unsigned_takes _ _ _ _ s.0 (unsigned_takes _ _ _ _ s.1 (record { takes = flag_reads (codes "dropping") _ _ (pure_takes _) })))
call_is_read (Whole (call.Close session)) s = command_takes command.Close _ _ (unsigned_takes _ _ _ _ s (pure_takes _))
call_is_read (Whole (call.Publish base file)) s = absurd s
call_is_read (Whole (call.Reclaim version)) s = command_takes command.Reclaim _ _ (unsigned_takes _ _ _ _ s (pure_takes _))
call_is_read (Whole call.Versions) s = command_takes command.Versions _ _ (pure_takes _)
call_is_read (Whole call.Leave) s = command_takes command.Leave _ _ (pure_takes _)
call_is_read (PublishHead base lines) s = command_takes command.Publish _ _ (unsigned_takes _ _ _ _ s.0 (line_count_takes _ _ _ _ (s.1, s.2) (pure_takes _)))

-- what the words of a line say is read
pub said_is_read : (line : List ℕ) (from : ℕ) (c : LineCall) → IsSayable c → spellings (words_from line from) ≡ call_words c → line_call line from ≡ Ok c
said_is_read line from c sayable same = ap value_of (call_is_read c sayable (words_from line from) (length line) same)
