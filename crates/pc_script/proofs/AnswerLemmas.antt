-- The answers to some lines and then to others.
use Rattle.std.proofs.Common.{◌≡◌, ℕ, List, [], ◌∷◌, ◌++◌, refl, sym, ap, ◌∙◌, append_assoc}
use Rattle.std.proofs.lemmas.List.{append-nil}
use Rattle.pc_base.specs.Lines.{lines}
use Rattle.pc_calls.specs.State.{State}
use Rattle.pc_script.specs.Script.{Script, commanded, beginning, line_text, line_after, answers, answers_to, after_lines, end_text, last_answers, script_text}

pub answers-append : (script : Script) (xs ys : List (List ℕ)) → answers script (xs ++ ys) ≡ answers script xs ++ answers (after_lines script xs) ys
unfolding answers after_lines
answers-append script [] ys = refl
answers-append script (x ∷ xs) ys =
    ap (λ (t : List ℕ). line_text script x ++ t) (answers-append (line_after script x) xs ys)
    ∙ sym (append_assoc (line_text script x) (answers (line_after script x) xs) (answers (after_lines (line_after script x) xs) ys))

pub after-append : (script : Script) (xs ys : List (List ℕ)) → after_lines script (xs ++ ys) ≡ after_lines (after_lines script xs) ys
unfolding after_lines
after-append script [] ys = refl
after-append script (x ∷ xs) ys = after-append (line_after script x) xs ys

pub last-append : (script : Script) (xs ys : List (List ℕ)) → last_answers script (xs ++ ys) ≡ answers script xs ++ last_answers (after_lines script xs) ys
last-append script xs ys =
    ap (λ (t : List ℕ). t ++ end_text (after_lines script (xs ++ ys))) (answers-append script xs ys)
    ∙ append_assoc (answers script xs) (answers (after_lines script xs) ys) (end_text (after_lines script (xs ++ ys)))
    ∙ ap (λ (s : Script). answers script xs ++ (answers (after_lines script xs) ys ++ end_text s)) (after-append script xs ys)

pub last-nothing : (state : State) → last_answers (commanded state) [] ≡ []
unfolding answers after_lines
last-nothing state = refl

pub after-nothing : (script : Script) → after_lines script [] ≡ script
unfolding after_lines
after-nothing script = refl

pub answers-nothing : (script : Script) → answers script [] ≡ []
unfolding answers
answers-nothing script = refl

-- where a command comes next, nothing is cut
pub last-commanded : (lines : List (List ℕ)) (state : State) → after_lines beginning lines ≡ commanded state → last_answers beginning lines ≡ answers_to lines
last-commanded lines state then = ap (λ (s : Script). answers_to lines ++ end_text s) then ∙ append-nil (answers_to lines)

pub script_text-is : (bytes : List ℕ) → script_text bytes ≡ last_answers beginning (lines bytes)
unfolding script_text
script_text-is bytes = refl
