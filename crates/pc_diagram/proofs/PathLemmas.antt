-- Paths and words that are made of two parts.
use Rattle.std.proofs.Common.{◌≡◌, ℕ, suc, ◌+◌, ◌≤◌, nat_lt, Bool, true, false, ◌&&◌, List, [], ◌∷◌, ◌++◌, length, take, drop, Option, Some, None, is_some, ℤ, pos, ◌+ℤ◌, refl, sym, ap, ◌∙◌, arith}
use Rattle.std.proofs.lemmas.Bool.{both_ways}
use Rattle.std.proofs.lemmas.Bool.Decides.{nat_tests}
use Rattle.std.proofs.lemmas.Int.{ints}
use Rattle.std.proofs.lemmas.List.{take-append-drop, length-take}
use Rattle.pc_diagram.specs.declared.choice.Choice.{Choice}
use Rattle.pc_diagram.specs.declared.costs.CostPair.{CostPair}
use Rattle.pc_diagram.specs.declared.raw_diagram.RawDiagram.{RawDiagram}
use Rattle.pc_diagram.specs.declared.which.Which.{Which}
use Rattle.pc_diagram.specs.Choices.{value_of}
use Rattle.pc_diagram.specs.Costs.{cost, part, pair_at}
use Rattle.pc_diagram.specs.Fitting.{is_number}
use Rattle.pc_diagram.specs.Levels.{Level, edge, levels}
use Rattle.pc_diagram.specs.NodePaths.{leads_to, is_allowed, agrees, is_head, is_tail}
use Rattle.pc_diagram.specs.Paths.{accepts, has_word}
use Rattle.pc_diagram.specs.Words.{is_word}
use Rattle.pc_diagram.proofs.LevelLemmas.{length-levels}
use Rattle.pc_diagram.proofs.ShapeLemmas.{both, together}

-- from no node values lead nowhere
pub leads_to-none : (ls : List Level) (word : List ℕ) → leads_to ls None word ≡ None
leads_to-none [] [] = refl
leads_to-none [] (value ∷ word) = refl
leads_to-none (l ∷ ls) [] = refl
leads_to-none (l ∷ ls) (value ∷ word) = refl

-- what leads through two parts of a diagram leads through the first, and from there through the second
pub leads_to-append : (ls ms : List Level) (start : Option ℕ) (u v : List ℕ) → length u ≡ length ls → leads_to (ls ++ ms) start (u ++ v) ≡ leads_to ms (leads_to ls start u) v
leads_to-append [] ms start [] v same = refl
leads_to-append [] ms start (value ∷ u) v same = absurd (omega arith)
leads_to-append (l ∷ ls) ms start [] v same = absurd (omega arith)
leads_to-append (l ∷ ls) ms None (value ∷ u) v same = sym (leads_to-none ms v)
leads_to-append (l ∷ ls) ms (Some node) (value ∷ u) v same = leads_to-append ls ms (edge l node value) u v (omega arith)

-- a word is accepted where it leads to some node of the last layer
pub accepts-leads : (ls : List Level) (start : Option ℕ) (word : List ℕ) → accepts ls start word ≡ is_some (leads_to ls start word)
accepts-leads [] None [] = refl
accepts-leads [] None (value ∷ word) = refl
accepts-leads [] (Some node) [] = refl
accepts-leads [] (Some node) (value ∷ word) = refl
accepts-leads (l ∷ ls) None [] = refl
accepts-leads (l ∷ ls) None (value ∷ word) = refl
accepts-leads (l ∷ ls) (Some node) [] = refl
accepts-leads (l ∷ ls) (Some node) (value ∷ word) = accepts-leads ls (edge l node value) word

and_assoc : (a b c : Bool) → (a && (b && c)) ≡ ((a && b) && c)
and_assoc true b c = refl
and_assoc false b c = refl

-- values agree where both parts of them do
pub agrees-append : (choices : List Choice) (variable : ℕ) (u v : List ℕ) → agrees choices variable (u ++ v) ≡ (agrees choices variable u && agrees choices (variable + length u) v)
agrees-append choices variable [] v = let same : variable ≡ variable + 0 = omega arith in ap (λ k. agrees choices k v) same
agrees-append choices variable (value ∷ u) v =
    let same : (variable + 1) + length u ≡ variable + suc (length u) = omega arith in
    ap (λ b. is_allowed (value_of choices variable) value && b) (agrees-append choices (variable + 1) u v ∙ ap (λ k. agrees choices (variable + 1) u && agrees choices k v) same)
    ∙ and_assoc (is_allowed (value_of choices variable) value) (agrees choices (variable + 1) u) (agrees choices (variable + suc (length u)) v)

-- a word over two lists of domains is made of one over each
pub is_word-append : (ds es u v : List ℕ) → length u ≡ length ds → is_word (ds ++ es) (u ++ v) ≡ (is_word ds u && is_word es v)
is_word-append [] es [] v same = refl
is_word-append [] es (value ∷ u) v same = absurd (omega arith)
is_word-append (d ∷ ds) es [] v same = absurd (omega arith)
is_word-append (d ∷ ds) es (value ∷ u) v same =
    ap (λ b. nat_lt value d && b) (is_word-append ds es u v (omega arith)) ∙ and_assoc (nat_lt value d) (is_word ds u) (is_word es v)

-- a word has a value of each variable
pub length-word : (ds word : List ℕ) → is_word ds word ≡ true → length word ≡ length ds
length-word [] [] h = refl
length-word [] (value ∷ word) h = absurd cc
length-word (d ∷ ds) [] h = absurd cc
length-word (d ∷ ds) (value ∷ word) h = by (nat_lt value d) h (length-word ds word)
  where
    by : (b : Bool) → (b && is_word ds word) ≡ true → (is_word ds word ≡ true → length word ≡ length ds) → suc (length word) ≡ suc (length ds)
    by true e rest = ap suc (rest e)
    by false e rest = absurd cc

-- the cost of a word is that of its head and that of its tail
pub cost-append : (costs : List (List CostPair)) (which : Which) (head tail : List ℕ) → cost costs which (head ++ tail) ≡ cost costs which head +ℤ cost (drop (length head) costs) which tail
cost-append costs which [] tail = head_of_none costs
  where
    head_of_none : (costs : List (List CostPair)) → cost costs which tail ≡ cost costs which [] +ℤ cost costs which tail
    head_of_none [] = refl
    head_of_none (row ∷ rows) = omega (arith, ints)
cost-append [] which (value ∷ values) tail = refl
cost-append (row ∷ rows) which (value ∷ values) tail = omega (arith, ints, cost-append rows which values tail)

-- the node that a head leads to
abbrev pub middle : RawDiagram → List ℕ → Option ℕ
middle raw head = leads_to (take (length head) (levels raw)) (Some 0) head

-- a word is one of a diagram exactly where its head leads to a node from which its tail is accepted
pub has_word-append : (raw : RawDiagram) (head tail : List ℕ) → length head ≤ length raw.domains → has_word raw (head ++ tail) ≡ accepts (drop (length head) (levels raw)) (middle raw head) tail
has_word-append raw head tail le =
    let k = length head in
    let few : length head ≡ length (take k (levels raw)) = omega (arith, length-take k (levels raw), length-levels raw) in
    ap (λ ls. accepts ls (Some 0) (head ++ tail)) (sym (take-append-drop k (levels raw)))
    ∙ accepts-leads (take k (levels raw) ++ drop k (levels raw)) (Some 0) (head ++ tail)
    ∙ ap is_some (leads_to-append (take k (levels raw)) (drop k (levels raw)) (Some 0) head tail few)
    ∙ sym (accepts-leads (drop k (levels raw)) (middle raw head) tail)

pub accepts-none : (ls : List Level) (word : List ℕ) → accepts ls None word ≡ false
accepts-none [] word = refl
accepts-none (l ∷ ls) word = refl

pub is_number-is : (o : Option ℕ) (n : ℕ) → is_number o n ≡ true → o ≡ Some n
is_number-is None n h = absurd cc
is_number-is (Some m) n h = ap Some (grind (arith, nat_tests))

-- a word that agrees with choices is made of a head and a tail of one node
pub word-parts : (raw : RawDiagram) (choices : List Choice) (head tail : List ℕ) → length head ≤ length raw.domains → (has_word raw (head ++ tail) && agrees choices 0 (head ++ tail)) ≡ true →
    (node : ℕ) × (is_head raw choices (length head) node head ≡ true) × (is_tail raw choices (length head) node tail ≡ true)
word-parts raw choices head tail le h =
    let two = both (has_word raw (head ++ tail)) (agrees choices 0 (head ++ tail)) h in
    let agree = both (agrees choices 0 head) (agrees choices (0 + length head) tail) (sym (agrees-append choices 0 head tail) ∙ two.1) in
    let here : 0 + length head ≡ length head = omega arith in
    by (middle raw head) refl (sym (has_word-append raw head tail le) ∙ two.0) agree.0 (ap (λ k. agrees choices k tail) (sym here) ∙ agree.1)
  where
    by : (o : Option ℕ) → middle raw head ≡ o → accepts (drop (length head) (levels raw)) o tail ≡ true → agrees choices 0 head ≡ true → agrees choices (length head) tail ≡ true →
        (node : ℕ) × (is_head raw choices (length head) node head ≡ true) × (is_tail raw choices (length head) node tail ≡ true)
    by None e accepted a b = absurd (both_ways (accepts (drop (length head) (levels raw)) None tail) (accepts-none (drop (length head) (levels raw)) tail) accepted)
    by (Some node) e accepted a b =
        let reached : is_number (middle raw head) node ≡ true = ap (λ o. is_number o node) e ∙ grind (arith, nat_tests) in
        (node, together (is_number (middle raw head) node) (agrees choices 0 head) reached a, together (accepts (drop (length head) (levels raw)) (Some node) tail) (agrees choices (length head) tail) accepted b)

-- and a head and a tail of one node make one
pub parts-word : (raw : RawDiagram) (choices : List Choice) (head tail : List ℕ) → length head ≤ length raw.domains → (node : ℕ) → is_head raw choices (length head) node head ≡ true → is_tail raw choices (length head) node tail ≡ true →
    (has_word raw (head ++ tail) && agrees choices 0 (head ++ tail)) ≡ true
parts-word raw choices head tail le node h k =
    let first = both (is_number (middle raw head) node) (agrees choices 0 head) h in
    let second = both (accepts (drop (length head) (levels raw)) (Some node) tail) (agrees choices (length head) tail) k in
    let here : length head ≡ 0 + length head = omega arith in
    together (has_word raw (head ++ tail)) (agrees choices 0 (head ++ tail))
    (has_word-append raw head tail le ∙ ap (λ o. accepts (drop (length head) (levels raw)) o tail) (is_number-is (middle raw head) node first.0) ∙ second.0)
    (agrees-append choices 0 head tail ∙ together (agrees choices 0 head) (agrees choices (0 + length head) tail) first.1 (ap (λ j. agrees choices j tail) (sym here) ∙ second.1))
