-- The script of a visit to the bike: its lines and its history by evaluation, its text by what it spells.
use Rattle.std.proofs.Common.{◌≡◌, ℕ, Bool, true, List, [], ◌∷◌, ◌++◌, length, Option, None, Ok, refl, sym, ap, ◌∙◌}
use Rattle.std.specs.Prelude.{codes, not, nat_le, ◌==◌}
use Rattle.pc_base.specs.Lines.{lines}
use Rattle.pc_diagram.specs.Bike.{bikes}
use Rattle.pc_file.specs.Bike.{bike, bike_printed}
use Rattle.pc_file.specs.Limits.{Contents}
use Rattle.pc_file.specs.PrintedForm.{text_of_lines}
use Rattle.pc_file.specs.Full.{full}
use Rattle.pc_file.specs.Parts.{file_node_limit}
use Rattle.pc_file.proofs.BikeLemmas.{bike_is_file, bike_products, bike_text}
use Rattle.pc_text.specs.FirstFault.{given_by}
use Rattle.pc_text.specs.Given.{contents_given}
use Rattle.pc_text.specs.Spells.{Spells}
use Rattle.pc_text.proofs.PrintedSpells.{written_spells}
use Rattle.pc_text.proofs.SpelledHasNoFault.{spelled_has_no_fault}
use Rattle.pc_calls.specs.declared.call.Call.TheVariants.{Enter, Open, Publish, Leave}
use Rattle.pc_calls.specs.declared.entry.Entry.{Entry}
use Rattle.pc_calls.specs.declared.outcome.Outcome.TheVariants.{NodeLimit, NoProduct, Stale, ShelvesFull}
use Rattle.pc_calls.specs.Decision.{Decision, ◌>>◌, refused_by, refused_where}
use Rattle.pc_calls.specs.CommandLine.{command_of, arguments, command_line}
use Rattle.pc_calls.specs.CommandReader.{word_of_kind, end}
use Rattle.pc_calls.specs.Heads.{head_by}
use Rattle.pc_calls.specs.History.{after_entries, entry_of}
use Rattle.pc_calls.specs.LineWords.{words_at}
use Rattle.pc_calls.specs.State.{State, empty, current, live_versions}
use Rattle.pc_calls.specs.declared.limits.TheConstants.{MOST_LIVE}
use Rattle.pc_calls.specs.Step.{after, step, state_of}
use Rattle.pc_names.specs.Number.{int_of}
use Rattle.pc_conn.specs.declared.body.Body.TheVariants.{File}
use Rattle.pc_conn.specs.declared.item.Item.TheVariants as item
use Rattle.pc_conn.specs.BodyText.{body_of, body_by}
use Rattle.std.specs.Fmt.{digits}
use Rattle.pc_script.specs.declared.item.Awaited.{Awaited}
use Rattle.pc_script.specs.declared.item.Request.TheVariants as says
use Rattle.pc_script.specs.declared.item.Said.{Said}
use Rattle.pc_script.specs.Request.{caller_of, requested, said_with}
use Rattle.pc_script.specs.Script.{commanded, publishing, beginning, requested_after, said_after, said_of}
use Rattle.pc_script.specs.ScriptHistory.{said_once, said_in, said_entries, entries_from, leaving, script_items, script_history, with_leaves}
use Rattle.pc_script.proofs.BikeLimit.{bike_small}
use Rattle.pc_script.specs.BikeScript.{bike_script, bike_items, bike_history}

-- the lines of the bike's text
abbrev bike_lines : List (List ℕ)
bike_lines =
    codes "product 1"
    ∷ codes "cost price"
    ∷ codes "cost days"
    ∷ codes "variable frame"
    ∷ codes "value steel 300 2"
    ∷ codes "value alloy 500 1"
    ∷ codes "value carbon 900 5"
    ∷ codes "variable wheel"
    ∷ codes "value w26 80 1"
    ∷ codes "value w28 120 1"
    ∷ codes "variable light"
    ∷ codes "value none 0 0"
    ∷ codes "value led 40 1"
    ∷ codes "rule frame=carbon => wheel=w28"
    ∷ codes "rule not (frame=steel and light=led)"
    ∷ codes "end"
    ∷ []

abbrev last_lines : List (List ℕ)
last_lines = codes "1 open" ∷ codes "1 bogus" ∷ []

script_lines : lines bike_script ≡ codes "1 publish 0 16" ∷ bike_lines ++ last_lines
unfolding lines
script_lines = refl

text_lines : text_of_lines bike_lines ≡ bike_printed
text_lines = refl

-- a text that spells a file gives that file
body_spelled : (text : List ℕ) (file : Contents) → Spells text file → body_of text ≡ File file
unfolding body_of
body_spelled text file spells =
    let read = spelled_has_no_fault text file spells in
    ap (λ fault. body_by fault (contents_given (given_by text))) read.0 ∙ ap (λ (f : Contents). File f) read.1

bike_body : body_of (text_of_lines bike_lines) ≡ File bike
bike_body = ap body_of text_lines ∙ body_spelled bike_printed bike (written_spells bike_printed bike (sym bike_text) bike_is_file refl)

-- the publish that the first line announces
abbrev awaited : Awaited
awaited = record { caller = 1; publish = record { base = 0; lines = 16; end_column = 15 } }

announced : requested empty (codes "1 publish 0 16") ≡ says.Publish awaited
unfolding int_of command_of arguments command_line word_of_kind end words_at caller_of requested digits
announced = refl

-- its lines are awaited, and then it is said
taken : (later : List (List ℕ))
    → said_in (publishing empty awaited []) (bike_lines ++ later) ≡ said_of awaited bike_lines ∷ said_in (commanded (said_after empty (said_of awaited bike_lines))) later
unfolding said_in
taken later = refl

said_first : (later : List (List ℕ))
    → said_in beginning (codes "1 publish 0 16" ∷ bike_lines ++ later) ≡ said_in (publishing empty awaited []) (bike_lines ++ later)
unfolding said_in
said_first later = ap (λ said. said_once said ++ said_in (requested_after empty said) (bike_lines ++ later)) announced

-- a file that has these products, and of which no set is too large, is published and opened
module _ (file : Contents) (some : full file ≡ bikes) (small : file_node_limit file ≡ None) where
  abbrev one_caller : State
  one_caller = after 1 Enter empty

  abbrev one_version : State
  one_version = record { versions = record { file = file; live = true } ∷ []; callers = one_caller.callers; sessions = [] }

  offered : Option (ℕ × ℕ) → Bool → Decision State
  offered limit none = do
    refused_by limit (λ l. NodeLimit l.0 l.1)
    refused_where none NoProduct
    refused_where (not (0 == current one_caller)) (Stale (current one_caller))
    refused_where (nat_le MOST_LIVE (live_versions one_caller)) ShelvesFull
    Ok one_version

  published : step 1 (Publish 0 file) one_caller ≡ Ok one_version
  unfolding offered
  published = ap (λ limit. offered limit (length (full file) == 0)) small ∙ ap (λ words. offered None (length words == 0)) some

  -- what is said after it
  said_last : said_in (commanded (said_after empty (said_with awaited (File file)))) last_lines ≡ record { caller = 1; item = item.Call Open } ∷ record { caller = 1; item = item.Bad 3 } ∷ []
  unfolding said_in int_of command_of arguments command_line word_of_kind end words_at caller_of requested digits
  said_last = ap (λ answer. said_in (commanded (state_of one_caller answer)) last_lines) published

  -- its entry, after the caller's enter
  first_two : Decision State → List Entry
  first_two answer = entry_of empty 1 Enter ∷ record { caller = 1; call = Publish 0 file; head = head_by 1 (Publish 0 file) one_caller answer } ∷ []

  publish : Said
  publish = record { caller = 1; item = item.Call (Publish 0 file) }

  two_entries : said_entries empty publish ≡ first_two (Ok one_version)
  unfolding first_two publish
  two_entries = ap first_two published

  after_two : after_entries empty (first_two (Ok one_version)) ≡ one_version
  unfolding first_two after_entries
  after_two = ap (state_of one_caller) published

  -- the entries of what is said
  three_entries : List Entry
  three_entries = first_two (Ok one_version) ++ entry_of one_version 1 Open ∷ []

  recorded : entries_from empty (publish ∷ record { caller = 1; item = item.Call Open } ∷ record { caller = 1; item = item.Bad 3 } ∷ []) ≡ three_entries
  unfolding entries_from after_entries three_entries
  recorded =
      let later : List Said = record { caller = 1; item = item.Call Open } ∷ record { caller = 1; item = item.Bad 3 } ∷ [] in
      ap (λ entries. entries ++ entries_from (after_entries empty entries) later) two_entries ∙ ap (λ state. first_two (Ok one_version) ++ entries_from state later) after_two

  left : with_leaves three_entries ≡ three_entries ++ record { caller = 1; call = Leave; head = (entry_of one_version 1 Leave).head } ∷ []
  unfolding three_entries first_two after_entries leaving
  left = ap (λ answer. three_entries ++ leaving (after 1 Open (state_of one_caller answer)) 1 (after 1 Open (state_of one_caller answer)).callers) published

pub bike_said : script_items bike_script ≡ bike_items
bike_said =
    ap (said_in beginning) script_lines ∙ said_first last_lines ∙ taken last_lines
    ∙ ap (λ body. said_with awaited body ∷ said_in (commanded (said_after empty (said_with awaited body))) last_lines) bike_body
    ∙ ap (λ later. said_with awaited (File bike) ∷ later) (said_last bike bike_products bike_small)

pub bike_recorded : script_history bike_script ≡ bike_history
unfolding publish three_entries first_two
bike_recorded = ap (λ items. with_leaves (entries_from empty items)) bike_said ∙ ap with_leaves (recorded bike bike_products bike_small) ∙ left bike bike_products bike_small
