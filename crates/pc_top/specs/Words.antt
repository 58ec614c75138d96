-- The forms of the command line.
use Rattle.std.specs.Prelude.{ℕ, if◌then◌else◌, List, [], ◌∷◌, codes, Option, Some, None, option_map, option_and_then}
use Rattle.pc_generator.specs.Size.{size_of}
use Rattle.pc_names.specs.Number.{unsigned_of}
use Rattle.pc_names.specs.Spelling.{same_spelling}
use Rattle.pc_top.specs.declared.form.Form.{Form}
use Rattle.pc_top.specs.declared.form.Form.TheVariants.{List as list, Dump, Check, Script, Generate}

-- the word of a form that has no other
abbrev pub form_of_word : List ℕ → Option Form
form_of_word word =
    if same_spelling word (codes "list") then Some list
    else if same_spelling word (codes "dump") then Some Dump
    else if same_spelling word (codes "check") then Some Check
    else if same_spelling word (codes "script") then Some Script
    else None

-- `generate` and a number of variables in canonical decimal, from 2 to 64
abbrev pub form_of_two : List ℕ → List ℕ → Option Form
form_of_two word number = if same_spelling word (codes "generate") then option_map Generate (option_and_then size_of (unsigned_of number)) else None

-- that one word, or those two
abbrev pub form_of : List (List ℕ) → Option Form
form_of [] = None
form_of (word ∷ []) = form_of_word word
form_of (word ∷ number ∷ []) = form_of_two word number
form_of (word ∷ number ∷ other ∷ words) = None
