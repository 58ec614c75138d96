-- A word extends choices exactly where its values agree with them.
use Rattle.std.proofs.Common.{◌≡◌, ℕ, zero, suc, ◌+◌, ◌<◌, ◌==◌, Bool, true, false, not, cond, ◌&&◌, List, [], ◌∷◌, length, All, Option, Some, None, is_some, option_map, find, IsTrue, refl, sym, ap, ◌∙◌, arith}
use Rattle.std.proofs.lemmas.Bool.{and_parts, not-true}
use Rattle.std.proofs.lemmas.Bool.Decides.{nat_tests}
use Rattle.std.proofs.lemmas.List.Elements.{All-head, All-tail}
use Rattle.pc_diagram.specs.declared.choice.Choice.{Choice}
use Rattle.pc_diagram.specs.Choices.{are_distinct, is_chosen, value_of}
use Rattle.pc_diagram.specs.Fitting.{extends, takes}
use Rattle.pc_diagram.specs.NodePaths.{agrees, is_allowed}
use Rattle.pc_diagram.proofs.ChoiceLemmas.{is_some-value_of}

-- the values from a variable on don't take another value than a choice, where they reach its variable
keeps : ℕ → Choice → List ℕ → Bool
keeps variable c [] = true
keeps variable c (value ∷ word) = cond (c.variable == variable) (c.value == value) (keeps (variable + 1) c word)

keeps_past : (variable : ℕ) (c : Choice) (word : List ℕ) → c.variable < variable → keeps variable c word ≡ true
unfolding keeps
keeps_past variable c [] past = refl
keeps_past variable c (value ∷ word) past = by (c.variable == variable) refl (keeps_past (variable + 1) c word (omega arith))
  where
    by : (b : Bool) → (c.variable == variable) ≡ b → keeps (variable + 1) c word ≡ true → cond b (c.value == value) (keeps (variable + 1) c word) ≡ true
    by true e rest = absurd (grind (arith, nat_tests))
    by false e rest = rest

keeps_takes : (variable count : ℕ) (c : Choice) (word : List ℕ) → c.variable ≡ variable + count → count < length word → keeps variable c word ≡ takes word count c.value
unfolding keeps
keeps_takes variable count c [] is inside = absurd (omega arith)
keeps_takes variable zero c (value ∷ word) is inside = by (c.variable == variable) refl
  where
    by : (b : Bool) → (c.variable == variable) ≡ b → cond b (c.value == value) (keeps (variable + 1) c word) ≡ (value == c.value)
    by true e = grind (arith, nat_tests)
    by false e = absurd (grind (arith, nat_tests, is))
keeps_takes variable (suc count) c (value ∷ word) is inside = by (c.variable == variable) refl (keeps_takes (variable + 1) count c word (omega arith) (omega arith))
  where
    by : (b : Bool) → (c.variable == variable) ≡ b → keeps (variable + 1) c word ≡ takes word count c.value → cond b (c.value == value) (keeps (variable + 1) c word) ≡ takes word count c.value
    by true e rest = absurd (grind (arith, nat_tests, is))
    by false e rest = rest

none_chosen : (o : Option ℕ) (value : ℕ) → is_some o ≡ false → is_allowed o value ≡ true
none_chosen None value h = refl
none_chosen (Some chosen) value h = absurd cc

one_more : (a b h : Bool) → (a && (b && h)) ≡ ((a && b) && h)
one_more true b h = refl
one_more false b h = refl

moved : (a b : Bool) → (a && b) ≡ (b && a)
moved true true = refl
moved true false = refl
moved false true = refl
moved false false = refl

-- with one choice more
agrees-cons : (c : Choice) (cs : List Choice) (variable : ℕ) (word : List ℕ) → is_chosen cs c.variable ≡ false → agrees (c ∷ cs) variable word ≡ (agrees cs variable word && keeps variable c word)
unfolding keeps
agrees-cons c cs variable [] free = refl
agrees-cons c cs variable (value ∷ word) free =
    by (c.variable == variable) refl (agrees-cons c cs (variable + 1) word free)
  where
    by : (b : Bool) → (c.variable == variable) ≡ b → agrees (c ∷ cs) (variable + 1) word ≡ (agrees cs (variable + 1) word && keeps (variable + 1) c word)
        → (is_allowed (option_map (λ (d : Choice). d.value) (cond b (Some c) (find (λ d. d.variable == variable) cs))) value && agrees (c ∷ cs) (variable + 1) word)
        ≡ ((is_allowed (value_of cs variable) value && agrees cs (variable + 1) word) && cond b (c.value == value) (keeps (variable + 1) c word))
    by true e rest =
        let same : c.variable ≡ variable = grind (arith, nat_tests) in
        let here : is_allowed (value_of cs variable) value ≡ true = none_chosen (value_of cs variable) value (is_some-value_of cs variable ∙ ap (is_chosen cs) (sym same) ∙ free) in
        let past : keeps (variable + 1) c word ≡ true = keeps_past (variable + 1) c word (omega (arith, same)) in
        ap (λ t. (c.value == value) && t) (rest ∙ ap (λ t. agrees cs (variable + 1) word && t) past ∙ moved (agrees cs (variable + 1) word) true)
        ∙ moved (c.value == value) (agrees cs (variable + 1) word)
        ∙ ap (λ t. (t && agrees cs (variable + 1) word) && (c.value == value)) (sym here)
    by false e rest = ap (λ t. is_allowed (value_of cs variable) value && t) rest ∙ one_more (is_allowed (value_of cs variable) value) (agrees cs (variable + 1) word) (keeps (variable + 1) c word)

no_choice : (variable : ℕ) (word : List ℕ) → agrees [] variable word ≡ true
no_choice variable [] = refl
no_choice variable (value ∷ word) = no_choice (variable + 1) word

pub extends_agrees : (choices : List Choice) (word : List ℕ) → IsTrue (are_distinct choices) → All (λ c. c.variable < length word) choices → extends word choices ≡ agrees choices 0 word
extends_agrees [] word distinct inside = sym (no_choice 0 word)
extends_agrees (c ∷ cs) word distinct inside =
    let two = and_parts (not (is_chosen cs c.variable)) (are_distinct cs) distinct in
    let here = All-head (λ (d : Choice). d.variable < length word) c cs inside in
    ap (λ t. takes word c.variable c.value && t) (extends_agrees cs word two.1 (All-tail (λ (d : Choice). d.variable < length word) c cs inside))
    ∙ moved (takes word c.variable c.value) (agrees cs 0 word)
    ∙ ap (λ t. agrees cs 0 word && t) (sym (keeps_takes 0 c.variable c word (omega arith) here))
    ∙ sym (agrees-cons c cs 0 word (not-true (is_chosen cs c.variable) two.0))
