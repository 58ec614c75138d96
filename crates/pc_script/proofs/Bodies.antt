-- A script that waits for the text of a publish, line by line.
use Rattle.std.proofs.Common.{◌≡◌, ℕ, ◌+◌, ◌<◌, Bool, true, false, cond, List, [], ◌∷◌, ◌++◌, length, refl, sym, ap, ◌∙◌, arith, length-append, append_assoc}
use Rattle.std.proofs.lemmas.Bool.Decides.{nat_tests}
use Rattle.std.proofs.lemmas.List.{append-nil}
use Rattle.pc_calls.specs.State.{State}
use Rattle.pc_conn.specs.declared.body.Body.TheVariants.{Cut}
use Rattle.pc_script.specs.declared.item.Awaited.{Awaited}
use Rattle.pc_script.specs.declared.item.Request.{Request}
use Rattle.pc_script.specs.declared.item.Request.TheVariants as says
use Rattle.pc_script.specs.declared.item.Said.{Said}
use Rattle.pc_script.specs.Request.{requested, said_with}
use Rattle.pc_script.specs.Script.{Script, commanded, publishing, said_text, said_after, is_whole, said_of, body_text, body_after, requested_text, requested_after, answers, after_lines, end_text, last_answers, line_after}
use Rattle.pc_script.specs.ScriptHistory.{body_said, end_said, line_said, said_by, said_in, said_once}

module _ (state : State) (awaited : Awaited) where
  text-whole : (done : List (List ℕ)) → is_whole awaited done ≡ true → body_text state awaited done ≡ said_text state (said_of awaited done)
  text-whole done e = ap (λ (b : Bool). cond b (said_text state (said_of awaited done)) []) e

  after-whole : (done : List (List ℕ)) → is_whole awaited done ≡ true → body_after state awaited done ≡ commanded (said_after state (said_of awaited done))
  after-whole done e = ap (λ (b : Bool). cond b (commanded (said_after state (said_of awaited done))) (publishing state awaited done)) e

  text-part : (done : List (List ℕ)) → is_whole awaited done ≡ false → body_text state awaited done ≡ []
  text-part done e = ap (λ (b : Bool). cond b (said_text state (said_of awaited done)) []) e

  after-part : (done : List (List ℕ)) → is_whole awaited done ≡ false → body_after state awaited done ≡ publishing state awaited done
  after-part done e = ap (λ (b : Bool). cond b (commanded (said_after state (said_of awaited done))) (publishing state awaited done)) e

  -- what is answered to a publish with some lines of its text, and to those that follow
  abbrev from_body : List (List ℕ) → List (List ℕ) → List ℕ
  from_body done rest = body_text state awaited done ++ answers (body_after state awaited done) rest

  from-nothing : (done : List (List ℕ)) → from_body done [] ≡ body_text state awaited done
  unfolding answers
  from-nothing done = append-nil (body_text state awaited done)

  from-more : (done : List (List ℕ)) (line : List ℕ) (rest : List (List ℕ)) → is_whole awaited done ≡ false → from_body done (line ∷ rest) ≡ from_body (done ++ line ∷ []) rest
  unfolding answers
  from-more done line rest part =
      ap (λ (t : List ℕ). t ++ answers (body_after state awaited done) (line ∷ rest)) (text-part done part)
      ∙ ap (λ (s : Script). answers s (line ∷ rest)) (after-part done part)

  after-none : (done : List (List ℕ)) → after_lines (body_after state awaited done) [] ≡ body_after state awaited done
  unfolding after_lines
  after-none done = refl

  after-more : (done : List (List ℕ)) (line : List ℕ) (rest : List (List ℕ)) → is_whole awaited done ≡ false → after_lines (body_after state awaited done) (line ∷ rest) ≡ after_lines (body_after state awaited (done ++ line ∷ [])) rest
  unfolding after_lines
  after-more done line rest part = ap (λ (s : Script). after_lines s (line ∷ rest)) (after-part done part)

  pub body-text : (done rest : List (List ℕ)) → length done + length rest ≡ awaited.publish.lines → from_body done rest ≡ said_text state (said_of awaited (done ++ rest))
  body-text done [] all =
      from-nothing done ∙ text-whole done (grind (arith, nat_tests, all)) ∙ ap (λ (ls : List (List ℕ)). said_text state (said_of awaited ls)) (sym (append-nil done))
  body-text done (line ∷ rest) all =
      from-more done line rest (grind (arith, nat_tests, all))
      ∙ body-text (done ++ line ∷ []) rest (omega (arith, all, length-append done (line ∷ [])))
      ∙ ap (λ (ls : List (List ℕ)). said_text state (said_of awaited ls)) (append_assoc done (line ∷ []) rest)

  pub body-after : (done rest : List (List ℕ)) → length done + length rest ≡ awaited.publish.lines → after_lines (body_after state awaited done) rest ≡ commanded (said_after state (said_of awaited (done ++ rest)))
  body-after done [] all =
      after-none done ∙ after-whole done (grind (arith, nat_tests, all)) ∙ ap (λ (ls : List (List ℕ)). commanded (said_after state (said_of awaited ls))) (sym (append-nil done))
  body-after done (line ∷ rest) all =
      after-more done line rest (grind (arith, nat_tests, all))
      ∙ body-after (done ++ line ∷ []) rest (omega (arith, all, length-append done (line ∷ [])))
      ∙ ap (λ (ls : List (List ℕ)). commanded (said_after state (said_of awaited ls))) (append_assoc done (line ∷ []) rest)

  pub part-text : (done rest : List (List ℕ)) → length done + length rest < awaited.publish.lines → from_body done rest ≡ []
  part-text done [] few = from-nothing done ∙ text-part done (grind (arith, nat_tests, few))
  part-text done (line ∷ rest) few =
      from-more done line rest (grind (arith, nat_tests, few)) ∙ part-text (done ++ line ∷ []) rest (omega (arith, few, length-append done (line ∷ [])))

  pub part-after : (done rest : List (List ℕ)) → length done + length rest < awaited.publish.lines → after_lines (body_after state awaited done) rest ≡ publishing state awaited (done ++ rest)
  part-after done [] few = after-none done ∙ after-part done (grind (arith, nat_tests, few)) ∙ ap (publishing state awaited) (sym (append-nil done))
  part-after done (line ∷ rest) few =
      after-more done line rest (grind (arith, nat_tests, few))
      ∙ part-after (done ++ line ∷ []) rest (omega (arith, few, length-append done (line ∷ [])))
      ∙ ap (publishing state awaited) (append_assoc done (line ∷ []) rest)

  -- what is said with some lines of its text, and with those that follow
  said-whole : (done : List (List ℕ)) → is_whole awaited done ≡ true → body_said awaited done ≡ said_of awaited done ∷ []
  said-whole done e = ap (λ (b : Bool). cond b (said_of awaited done ∷ []) []) e

  said-part : (done : List (List ℕ)) → is_whole awaited done ≡ false → body_said awaited done ≡ []
  said-part done e = ap (λ (b : Bool). cond b (said_of awaited done ∷ []) []) e

  abbrev from_said : List (List ℕ) → List (List ℕ) → List Said
  from_said done rest = body_said awaited done ++ said_by (body_after state awaited done) rest

  said-nothing : (done : List (List ℕ)) → from_said done [] ≡ body_said awaited done
  unfolding said_by
  said-nothing done = append-nil (body_said awaited done)

  said-more : (done : List (List ℕ)) (line : List ℕ) (rest : List (List ℕ)) → is_whole awaited done ≡ false → from_said done (line ∷ rest) ≡ from_said (done ++ line ∷ []) rest
  unfolding said_by
  said-more done line rest part =
      ap (λ (t : List Said). t ++ said_by (body_after state awaited done) (line ∷ rest)) (said-part done part)
      ∙ ap (λ (s : Script). said_by s (line ∷ rest)) (after-part done part)

  pub body-said : (done rest : List (List ℕ)) → length done + length rest ≡ awaited.publish.lines → from_said done rest ≡ said_of awaited (done ++ rest) ∷ []
  body-said done [] all =
      said-nothing done ∙ said-whole done (grind (arith, nat_tests, all)) ∙ ap (λ (ls : List (List ℕ)). said_of awaited ls ∷ []) (sym (append-nil done))
  body-said done (line ∷ rest) all =
      said-more done line rest (grind (arith, nat_tests, all))
      ∙ body-said (done ++ line ∷ []) rest (omega (arith, all, length-append done (line ∷ [])))
      ∙ ap (λ (ls : List (List ℕ)). said_of awaited ls ∷ []) (append_assoc done (line ∷ []) rest)

  pub part-said : (done rest : List (List ℕ)) → length done + length rest < awaited.publish.lines → from_said done rest ≡ []
  part-said done [] few = said-nothing done ∙ said-part done (grind (arith, nat_tests, few))
  part-said done (line ∷ rest) few =
      said-more done line rest (grind (arith, nat_tests, few)) ∙ part-said (done ++ line ∷ []) rest (omega (arith, few, length-append done (line ∷ [])))

-- the line of a publish, and the lines after it
pub announced-text : (state : State) (awaited : Awaited) (line : List ℕ) (rest : List (List ℕ)) → requested state line ≡ says.Publish awaited → answers (commanded state) (line ∷ rest) ≡ body_text state awaited [] ++ answers (body_after state awaited []) rest
unfolding answers
announced-text state awaited line rest e = ap (λ (h : Request). requested_text state h ++ answers (requested_after state h) rest) e

pub announced-after : (state : State) (awaited : Awaited) (line : List ℕ) (rest : List (List ℕ)) → requested state line ≡ says.Publish awaited → after_lines (commanded state) (line ∷ rest) ≡ after_lines (body_after state awaited []) rest
unfolding after_lines
announced-after state awaited line rest e = ap (λ (h : Request). after_lines (requested_after state h) rest) e

-- a line that is answered at once
pub one-text : (state : State) (said : Said) (line : List ℕ) → requested state line ≡ says.Said said → answers (commanded state) (line ∷ []) ≡ said_text state said
unfolding answers
one-text state said line e = ap (λ (h : Request). requested_text state h ++ []) e ∙ append-nil (said_text state said)

pub one-after : (state : State) (said : Said) (line : List ℕ) → requested state line ≡ says.Said said → after_lines (commanded state) (line ∷ []) ≡ commanded (said_after state said)
unfolding after_lines
one-after state said line e = ap (λ (h : Request). requested_after state h) e

-- a publish that is cut
pub cut-text : (state : State) (awaited : Awaited) (line : List ℕ) (rest : List (List ℕ)) → requested state line ≡ says.Publish awaited → length rest < awaited.publish.lines → last_answers (commanded state) (line ∷ rest) ≡ said_text state (said_with awaited Cut)
cut-text state awaited line rest e few =
    ap (λ (t : List ℕ). t ++ end_text (after_lines (commanded state) (line ∷ rest))) (announced-text state awaited line rest e ∙ part-text state awaited [] rest (omega (arith, few)))
    ∙ ap end_text (announced-after state awaited line rest e ∙ part-after state awaited [] rest (omega (arith, few)))

-- what is said then
pub announced-said : (state : State) (awaited : Awaited) (line : List ℕ) (rest : List (List ℕ)) → requested state line ≡ says.Publish awaited → said_by (commanded state) (line ∷ rest) ≡ body_said awaited [] ++ said_by (body_after state awaited []) rest
unfolding said_by
announced-said state awaited line rest e = ap (λ (h : Request). said_once h ++ said_by (requested_after state h) rest) e

pub one-said : (state : State) (said : Said) (line : List ℕ) → requested state line ≡ says.Said said → said_by (commanded state) (line ∷ []) ≡ said ∷ []
unfolding said_by
one-said state said line e = ap (λ (h : Request). said_once h ++ []) e

-- what is said with lines, and then with the end
pub said-split : (script : Script) (lines : List (List ℕ)) → said_in script lines ≡ said_by script lines ++ end_said (after_lines script lines)
unfolding said_in said_by after_lines
said-split script [] = refl
said-split script (line ∷ lines) =
    ap (λ (t : List Said). line_said script line ++ t) (said-split (line_after script line) lines)
    ∙ sym (append_assoc (line_said script line) (said_by (line_after script line) lines) (end_said (after_lines (line_after script line) lines)))

pub said-append : (script : Script) (xs ys : List (List ℕ)) → said_by script (xs ++ ys) ≡ said_by script xs ++ said_by (after_lines script xs) ys
unfolding said_by after_lines
said-append script [] ys = refl
said-append script (line ∷ xs) ys =
    ap (λ (t : List Said). line_said script line ++ t) (said-append (line_after script line) xs ys)
    ∙ sym (append_assoc (line_said script line) (said_by (line_after script line) xs) (said_by (after_lines (line_after script line) xs) ys))

pub cut-said : (state : State) (awaited : Awaited) (line : List ℕ) (rest : List (List ℕ)) → requested state line ≡ says.Publish awaited → length rest < awaited.publish.lines → said_in (commanded state) (line ∷ rest) ≡ said_with awaited Cut ∷ []
cut-said state awaited line rest e few =
    said-split (commanded state) (line ∷ rest)
    ∙ ap (λ (t : List Said). t ++ end_said (after_lines (commanded state) (line ∷ rest))) (announced-said state awaited line rest e ∙ part-said state awaited [] rest (omega (arith, few)))
    ∙ ap end_said (announced-after state awaited line rest e ∙ part-after state awaited [] rest (omega (arith, few)))
