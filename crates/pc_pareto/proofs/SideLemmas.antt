-- The words of a layer are those of the layer before with one value more.
use Rattle.std.proofs.Common.{◌≡◌, ℕ, zero, suc, ◌+◌, ◌-◌, ◌*◌, ◌<◌, ◌≤◌, nat_lt, nat_eq, Bool, true, false, ◌&&◌, List, [], ◌∷◌, ◌++◌, length, get_or, take, drop, filter, Option, Some, None, ℤ, pos, ◌+ℤ◌, Contains, ◌⊎◌, inl, inr, refl, sym, ◌∙◌, ap, arith, mul-le-mul_right}
use Rattle.std.specs.Cmp.Lexicographic.{pointwise}
use Rattle.std.proofs.lemmas.Bool.{cases_order, both_ways}
use Rattle.std.proofs.lemmas.Bool.Decides.{nat_tests}
use Rattle.std.proofs.lemmas.Cmp.{nat_list_eq_equiv}
use Rattle.std.proofs.lemmas.Int.{ints}
use Rattle.std.proofs.lemmas.List.{take_more, length-take, length-drop, get_or_past}
use Rattle.std.proofs.lemmas.Map.Views.{Contains-from_any, list_any-from_Contains}
use Rattle.std.proofs.lemmas.Slice.Eq.{bytes_eq-Decides}
use Rattle.std.proofs.Math.Seq.{drop-cons}
use Rattle.pc_diagram.specs.declared.choice.Choice.{Choice}
use Rattle.pc_diagram.specs.declared.costs.CostPair.{CostPair}
use Rattle.pc_diagram.specs.declared.raw_diagram.RawDiagram.{RawDiagram}
use Rattle.pc_diagram.specs.declared.side.Side.TheVariants.{Heads, Tails}
use Rattle.pc_diagram.specs.declared.which.Which.{Which}
use Rattle.pc_diagram.specs.declared.which.Which.TheVariants.{First, Second}
use Rattle.pc_diagram.specs.Choices.{value_of}
use Rattle.pc_diagram.specs.Costs.{cost, cost_pair, pair_at, part}
use Rattle.pc_diagram.specs.Diagram.{IsCanonical}
use Rattle.pc_diagram.specs.Fitting.{is_number}
use Rattle.pc_diagram.specs.Levels.{Level, level, levels, edge}
use Rattle.pc_diagram.specs.NodePaths.{leads_to, is_allowed, agrees, is_head, is_tail}
use Rattle.pc_diagram.specs.Paths.{accepts}
use Rattle.pc_diagram.specs.Words.{is_word, all_words}
use Rattle.pc_diagram.proofs.LevelLemmas.{length-levels, drop-levels}
use Rattle.pc_diagram.proofs.PathLemmas.{leads_to-append, agrees-append, is_word-append, length-word, is_number-is, accepts-none, cost-append}
use Rattle.pc_diagram.proofs.ShapeLemmas.{both, together}
use Rattle.pc_diagram.proofs.UniqueLemmas.{edge-is, outside_row, inside}
use Rattle.pc_diagram.proofs.WordLemmas.{all_words-is}
use Rattle.pc_pareto.specs.declared.arrival.Arrival.{Arrival}
use Rattle.pc_pareto.specs.Arrivals.{IsArrival}
use Rattle.pc_pareto.specs.Stages.{plus}
use Rattle.pc_pareto.proofs.FrontLemmas.{of_filter, in_filter}

-- the words of a list of words over domains that pass a test
pub words_in : (test : List ℕ → Bool) (ds w : List ℕ) → Contains (filter test (all_words ds)) w → (is_word ds w ≡ true) × (test w ≡ true)
words_in test ds w c =
    let f = of_filter test (all_words ds) w c in
    (sym (all_words-is ds w) ∙ list_any-from_Contains nat_list_eq_equiv w (all_words ds) f.0, f.1)

pub in_words : (test : List ℕ → Bool) (ds w : List ℕ) → is_word ds w ≡ true → test w ≡ true → Contains (filter test (all_words ds)) w
in_words test ds w h t =
    in_filter test (all_words ds) w (Contains-from_any {eq = pointwise nat_eq} (λ x y e. (bytes_eq-Decides x y).0 e) w (all_words ds) (all_words-is ds w ∙ h)) t

module _ (raw : RawDiagram) (can : IsCanonical raw) (choices : List Choice) (v : ℕ) (lt : v < length raw.domains) where
  abbrev here : Level
  here = level raw v

  abbrev pub Head : ℕ → ℕ → List ℕ → Type 0
  Head layer node w = (is_word (take layer raw.domains) w ≡ true) × (is_head raw choices layer node w ≡ true)

  abbrev pub Tail : ℕ → ℕ → List ℕ → Type 0
  Tail layer node w = (is_word (drop layer raw.domains) w ≡ true) × (is_tail raw choices layer node w ≡ true)

  -- an edge leads from a node of the layer to one of the next
  pub owner_inside : (u value t : ℕ) → value < here.domain → edge here u value ≡ Some t → u < here.size
  owner_inside u value t small e = by (cases_order u here.size)
    where
      past : here.size ≤ u → ⊥
      past le =
          let w = (can.shape.shaped v lt).width in
          let m = mul-le-mul_right here.domain le in
          let beyond : length here.table ≤ u * here.domain + value = omega arith in
          let none : edge here u value ≡ None = edge-is here u value small ∙ get_or_past here.table (u * here.domain + value) None beyond in
          (cc)

      by : (u ≡ here.size) ⊎ ((u < here.size) ⊎ (here.size < u)) → u < here.size
      by (inl same) = absurd (past (omega arith))
      by (inr (inl less)) = less
      by (inr (inr more)) = absurd (past (omega arith))

  pub target_inside : (u value t : ℕ) → edge here u value ≡ Some t → t < here.next
  target_inside u value t e = inside here.next (edge here u value) t (outside_row here (can.canonical v lt) u value) e

  levels_more : take (v + 1) (levels raw) ≡ take v (levels raw) ++ here ∷ []
  levels_more =
      let l : v < length (levels raw) = omega (arith, length-levels raw) in
      take_more (levels raw) v here l ∙ ap (λ x. take v (levels raw) ++ x ∷ []) (level_at l)
    where
      level_at : v < length (levels raw) → get_or (levels raw) v here ≡ here
      level_at l = same (get_or (levels raw) v here) here (drop (suc v) (levels raw)) (drop (v + 1) (levels raw)) (sym (drop-cons (levels raw) v here l) ∙ drop-levels raw v lt)
        where
          same : (a b : Level) (xs ys : List Level) → a ∷ xs ≡ b ∷ ys → a ≡ b
          same a b xs ys e = cc

  domains_more : take (v + 1) raw.domains ≡ take v raw.domains ++ here.domain ∷ []
  domains_more = take_more raw.domains v 0 lt

  length_before : length (take v raw.domains) ≡ v
  length_before = omega (arith, length-take v raw.domains)

  levels_before : length (take v (levels raw)) ≡ v
  levels_before = omega (arith, length-take v (levels raw), length-levels raw)

  leads_more : (w : List ℕ) (value : ℕ) → length w ≡ v → leads_to (take (v + 1) (levels raw)) (Some 0) (w ++ value ∷ []) ≡ leads_to (here ∷ []) (leads_to (take v (levels raw)) (Some 0) w) (value ∷ [])
  leads_more w value e =
      ap (λ ls. leads_to ls (Some 0) (w ++ value ∷ [])) levels_more ∙ leads_to-append (take v (levels raw)) (here ∷ []) (Some 0) w (value ∷ []) (e ∙ sym levels_before)

  agrees_more : (w : List ℕ) (value : ℕ) → length w ≡ v → agrees choices 0 (w ++ value ∷ []) ≡ (agrees choices 0 w && (is_allowed (value_of choices v) value && true))
  agrees_more w value e =
      let there : 0 + length w ≡ v = omega arith in
      agrees-append choices 0 w (value ∷ []) ∙ ap (λ k. agrees choices 0 w && (is_allowed (value_of choices k) value && true)) there

  word_more : (w : List ℕ) (value : ℕ) → length w ≡ v → is_word (take (v + 1) raw.domains) (w ++ value ∷ []) ≡ (is_word (take v raw.domains) w && (nat_lt value here.domain && true))
  word_more w value e =
      ap (λ ds. is_word ds (w ++ value ∷ [])) domains_more ∙ is_word-append (take v raw.domains) (here.domain ∷ []) w (value ∷ []) (e ∙ sym length_before)

  pub head_length : (node : ℕ) (w : List ℕ) → Head v node w → length w ≡ v
  head_length node w h = length-word (take v raw.domains) w h.0 ∙ length_before

  is_itself : (t : ℕ) → is_number (Some t) t ≡ true
  is_itself t = grind (arith, nat_tests)

  lt_true : (a b : ℕ) → a < b → (nat_lt a b && true) ≡ true
  lt_true a b h = grind (arith, nat_tests)

  lt_from : (a b : ℕ) → (nat_lt a b && true) ≡ true → a < b
  lt_from a b h = grind (arith, nat_tests)

  pub head_into : (a : Arrival) (t : ℕ) (w : List ℕ) → IsArrival Heads here (value_of choices v) here.size t a → Head v a.node w → Head (v + 1) t (w ++ a.value ∷ [])
  head_into a t w h k =
      let e = head_length a.node w k in
      let parts = both (is_number (leads_to (take v (levels raw)) (Some 0) w) a.node) (agrees choices 0 w) k.1 in
      let reached : leads_to (take v (levels raw)) (Some 0) w ≡ Some a.node = is_number-is (leads_to (take v (levels raw)) (Some 0) w) a.node parts.0 in
      let led : leads_to (take (v + 1) (levels raw)) (Some 0) (w ++ a.value ∷ []) ≡ Some t =
      leads_more w a.value e ∙ ap (λ o. leads_to (here ∷ []) o (a.value ∷ [])) reached ∙ h.leads in (
        word_more w a.value e ∙ together (is_word (take v raw.domains) w) (nat_lt a.value here.domain && true) k.0 (lt_true a.value here.domain h.in_domain),
        together (is_number (leads_to (take (v + 1) (levels raw)) (Some 0) (w ++ a.value ∷ [])) t) (agrees choices 0 (w ++ a.value ∷ []))
            (ap (λ o. is_number o t) led ∙ is_itself t)
            (agrees_more w a.value e ∙ together (agrees choices 0 w) (is_allowed (value_of choices v) a.value && true) parts.1 (together (is_allowed (value_of choices v) a.value) true h.allowed refl)),
      )

  pub tail_into : (a : Arrival) (u : ℕ) (w : List ℕ) → IsArrival Tails here (value_of choices v) here.size u a → Tail (v + 1) a.node w → Tail v u (a.value ∷ w)
  tail_into a u w h k =
      let parts = both (accepts (drop (v + 1) (levels raw)) (Some a.node) w) (agrees choices (v + 1) w) k.1 in
      let led : accepts (drop v (levels raw)) (Some u) (a.value ∷ w) ≡ true =
      ap (λ ls. accepts ls (Some u) (a.value ∷ w)) (drop-levels raw v lt) ∙ ap (λ o. accepts (drop (v + 1) (levels raw)) o w) h.leads ∙ parts.0 in (
        ap (λ ds. is_word ds (a.value ∷ w)) domains_drop ∙ together (nat_lt a.value here.domain) (is_word (drop (v + 1) raw.domains) w) (lt_one a.value here.domain h.in_domain) k.0,
        together (accepts (drop v (levels raw)) (Some u) (a.value ∷ w)) (agrees choices v (a.value ∷ w)) led (together (is_allowed (value_of choices v) a.value) (agrees choices (v + 1) w) h.allowed parts.1),
      )
    where
      lt_one : (a b : ℕ) → a < b → nat_lt a b ≡ true
      lt_one a b h = grind (arith, nat_tests)

      domains_drop : drop v raw.domains ≡ here.domain ∷ drop (v + 1) raw.domains
      domains_drop = drop-cons raw.domains v 0 lt ∙ ap (λ k. here.domain ∷ drop k raw.domains) (let e : suc v ≡ v + 1 = omega arith in e)

  take_whole : (n : ℕ) (xs : List ℕ) → length xs ≤ n → take n xs ≡ xs
  take_whole zero [] h = refl
  take_whole zero (x ∷ xs) h = absurd (omega arith)
  take_whole (suc n) [] h = refl
  take_whole (suc n) (x ∷ xs) h = ap (λ ys. x ∷ ys) (take_whole n xs (omega arith))

  -- where a head of a node of the next layer comes from
  pub head_from : (t : ℕ) (w' : List ℕ) → Head (v + 1) t w' → (a : Arrival) × IsArrival Heads here (value_of choices v) here.size t a × (w : List ℕ) × Head v a.node w × (w' ≡ w ++ a.value ∷ [])
  head_from t w' h =
      let whole : length w' ≡ v + 1 = omega (arith, length-word (take (v + 1) raw.domains) w' h.0, length-take (v + 1) raw.domains) in
      let few : v < length w' = omega arith in
      let x = get_or w' v 0 in
      let split : w' ≡ take v w' ++ x ∷ [] = sym (take_whole (v + 1) w' (omega arith)) ∙ take_more w' v 0 few in
      let size : length (take v w') ≡ v = omega (arith, length-take v w') in
      by split size (leads_to (take v (levels raw)) (Some 0) (take v w')) refl
      (both (is_word (take v raw.domains) (take v w')) (nat_lt x here.domain && true) (sym (word_more (take v w') x size) ∙ ap (is_word (take (v + 1) raw.domains)) (sym split) ∙ h.0))
      (both (is_number (leads_to (take (v + 1) (levels raw)) (Some 0) w') t) (agrees choices 0 w') h.1)
    where
      by : (w' ≡ take v w' ++ get_or w' v 0 ∷ []) → length (take v w') ≡ v → (o : Option ℕ) → leads_to (take v (levels raw)) (Some 0) (take v w') ≡ o
          → (is_word (take v raw.domains) (take v w') ≡ true) × ((nat_lt (get_or w' v 0) here.domain && true) ≡ true)
          → (is_number (leads_to (take (v + 1) (levels raw)) (Some 0) w') t ≡ true) × (agrees choices 0 w' ≡ true)
          → (a : Arrival) × IsArrival Heads here (value_of choices v) here.size t a × (w : List ℕ) × Head v a.node w × (w' ≡ w ++ a.value ∷ [])
      by split size None e words parts =
          let led : is_number None t ≡ true =
          ap (λ o. is_number (leads_to (here ∷ []) o (get_or w' v 0 ∷ [])) t) (sym e) ∙ ap (λ o. is_number o t) (sym (leads_more (take v w') (get_or w' v 0) size)) ∙ ap (λ z. is_number (leads_to (take (v + 1) (levels raw)) (Some 0) z) t) (sym split) ∙ parts.0 in
          absurd cc
      by split size (Some u) e words parts =
          let x = get_or w' v 0 in
          let led : is_number (edge here u x) t ≡ true =
          ap (λ o. is_number (leads_to (here ∷ []) o (x ∷ [])) t) (sym e) ∙ ap (λ o. is_number o t) (sym (leads_more (take v w') x size)) ∙ ap (λ z. is_number (leads_to (take (v + 1) (levels raw)) (Some 0) z) t) (sym split) ∙ parts.0 in
          let goes : edge here u x ≡ Some t = is_number-is (edge here u x) t led in
          let small = lt_from x here.domain words.1 in
          let agree = both (agrees choices 0 (take v w')) (is_allowed (value_of choices v) x && true) (sym (agrees_more (take v w') x size) ∙ ap (agrees choices 0) (sym split) ∙ parts.1) in (
            record { node = u; value = x },
            record { owned = owner_inside u x t small goes; in_domain = small; allowed = (both (is_allowed (value_of choices v) x) true agree.1).0; leads = goes },
            take v w',
            (words.0, together (is_number (leads_to (take v (levels raw)) (Some 0) (take v w')) u) (agrees choices 0 (take v w')) (ap (λ o. is_number o u) e ∙ is_itself u) agree.0),
            split,
          )

  pub tail_from : (u : ℕ) (w' : List ℕ) → Tail v u w' → (a : Arrival) × IsArrival Tails here (value_of choices v) here.size u a × (w : List ℕ) × Tail (v + 1) a.node w × (w' ≡ a.value ∷ w)
  tail_from u [] h = absurd (nothing (ap (λ ds. is_word ds []) (sym domains_drop_too) ∙ h.0))
    where
      domains_drop_too : drop v raw.domains ≡ here.domain ∷ drop (v + 1) raw.domains
      domains_drop_too = drop-cons raw.domains v 0 lt ∙ ap (λ k. here.domain ∷ drop k raw.domains) (let e : suc v ≡ v + 1 = omega arith in e)

      nothing : false ≡ true → ⊥
      nothing e = absurd cc
  tail_from u (x ∷ w) h =
      by (edge here u x) refl
      (both (nat_lt x here.domain) (is_word (drop (v + 1) raw.domains) w) (ap (λ ds. is_word ds (x ∷ w)) (sym domains_drop_too) ∙ h.0))
      (both (accepts (drop v (levels raw)) (Some u) (x ∷ w)) (agrees choices v (x ∷ w)) h.1)
    where
      domains_drop_too : drop v raw.domains ≡ here.domain ∷ drop (v + 1) raw.domains
      domains_drop_too = drop-cons raw.domains v 0 lt ∙ ap (λ k. here.domain ∷ drop k raw.domains) (let e : suc v ≡ v + 1 = omega arith in e)

      less : (a b : ℕ) → nat_lt a b ≡ true → a < b
      less a b h = grind (arith, nat_tests)

      by : (o : Option ℕ) → edge here u x ≡ o → (nat_lt x here.domain ≡ true) × (is_word (drop (v + 1) raw.domains) w ≡ true)
          → (accepts (drop v (levels raw)) (Some u) (x ∷ w) ≡ true) × (agrees choices v (x ∷ w) ≡ true)
          → (a : Arrival) × IsArrival Tails here (value_of choices v) here.size u a × (w'' : List ℕ) × Tail (v + 1) a.node w'' × (x ∷ w ≡ a.value ∷ w'')
      by None e words parts =
          absurd (both_ways (accepts (drop (v + 1) (levels raw)) None w) (accepts-none (drop (v + 1) (levels raw)) w)
          (ap (λ o. accepts (drop (v + 1) (levels raw)) o w) (sym e) ∙ ap (λ ls. accepts ls (Some u) (x ∷ w)) (sym (drop-levels raw v lt)) ∙ parts.0))
      by (Some t) e words parts =
          let led : accepts (drop (v + 1) (levels raw)) (Some t) w ≡ true =
          ap (λ o. accepts (drop (v + 1) (levels raw)) o w) (sym e) ∙ ap (λ ls. accepts ls (Some u) (x ∷ w)) (sym (drop-levels raw v lt)) ∙ parts.0 in
          let small = less x here.domain words.0 in
          let agree = both (is_allowed (value_of choices v) x) (agrees choices (v + 1) w) parts.1 in (
            record { node = t; value = x },
            record { owned = owner_inside u x t small e; in_domain = small; allowed = agree.0; leads = e },
            w,
            (words.1, together (accepts (drop (v + 1) (levels raw)) (Some t) w) (agrees choices (v + 1) w) led agree.1),
            refl,
          )

  pub tail_length : (node : ℕ) (w : List ℕ) → Tail (v + 1) node w → length w ≡ length raw.domains - (v + 1)
  tail_length node w h = length-word (drop (v + 1) raw.domains) w h.0 ∙ length-drop (v + 1) raw.domains

-- what a word with one value more costs
cost-none : (costs : List (List CostPair)) (which : Which) → cost costs which [] ≡ pos 0
cost-none [] which = refl
cost-none (row ∷ rows) which = refl

plus_none : (a b : ℤ) → b ≡ pos 0 → (a +ℤ b) ≡ a
plus_none a b h = omega (arith, ints)

plus_swap : (a b : ℤ) → (a +ℤ b) ≡ (b +ℤ a)
plus_swap a b = omega (arith, ints)

module _ (costs : List (List CostPair)) (v : ℕ) (lt : v < length costs) where
  abbrev row_here : List CostPair
  row_here = get_or costs v []

  costs_drop : drop v costs ≡ row_here ∷ drop (v + 1) costs
  costs_drop = drop-cons costs v [] lt ∙ ap (λ k. row_here ∷ drop k costs) (let e : suc v ≡ v + 1 = omega arith in e)

  head_part : (which : Which) (w : List ℕ) (value : ℕ) → length w ≡ v → cost costs which (w ++ value ∷ []) ≡ cost costs which w +ℤ part which (pair_at row_here value)
  head_part which w value e =
      cost-append costs which w (value ∷ []) ∙ ap (λ cs. cost costs which w +ℤ cost cs which (value ∷ [])) (ap (λ k. drop k costs) e ∙ costs_drop)
      ∙ ap (λ z. cost costs which w +ℤ z) (plus_none (part which (pair_at row_here value)) (cost (drop (v + 1) costs) which []) (cost-none (drop (v + 1) costs) which))

  pub head_cost : (w : List ℕ) (value : ℕ) → length w ≡ v → cost_pair costs (w ++ value ∷ []) ≡ plus (cost_pair costs w) (pair_at row_here value)
  head_cost w value e = λ i. record { first = head_part First w value e i; second = head_part Second w value e i }

  tail_part : (which : Which) (w : List ℕ) (value : ℕ) → cost (drop v costs) which (value ∷ w) ≡ cost (drop (v + 1) costs) which w +ℤ part which (pair_at row_here value)
  tail_part which w value =
      ap (λ cs. cost cs which (value ∷ w)) costs_drop ∙ plus_swap (part which (pair_at row_here value)) (cost (drop (v + 1) costs) which w)

  pub tail_cost : (w : List ℕ) (value : ℕ) → cost_pair (drop v costs) (value ∷ w) ≡ plus (cost_pair (drop (v + 1) costs) w) (pair_at row_here value)
  tail_cost w value = λ i. record { first = tail_part First w value i; second = tail_part Second w value i }
