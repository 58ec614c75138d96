-- The sets of a layer from those of the next.
use Rattle.std.proofs.Common.{◌≡◌, ℕ, zero, suc, ◌+◌, ◌<◌, ◌≤◌, nat_lt, Bool, true, false, ◌&&◌, List, [], ◌∷◌, ◌++◌, take, drop, length, get_or, slice_get, slice_index, Some, None, Result, Ok, Err, IfOk, All, refl, sym, ap, ◌∙◌, subst, arith, inl, inr, ◌⊎◌}
use Rattle.std.proofs.lemmas.Bool.Decides.{nat_tests}
use Rattle.std.proofs.lemmas.List.{take_more, length_push, length-take-le, drop_more, length-drop}
use Rattle.std.proofs.lemmas.Option.{slice_get_past, slice_get_within, slice_get-get_or, slice_get_cases}
use Rattle.pc_diagram.specs.Words.{is_word}
use Rattle.pc_store.specs.declared.id.Id.{Id}
use Rattle.pc_store.specs.declared.store.Store.{Store}
use Rattle.pc_store.specs.Sets.{domains_of, IsIdAt, has, has_in, Keeps}
use Rattle.pc_store.proofs.SetLemmas.{keeps_then}
use Rattle.pc_apply.specs.declared.plan.Plan.{Plan}
use Rattle.pc_apply.specs.declared.plan.Plan.TheVariants.{Known, Node}
use Rattle.pc_apply.specs.Levels.{Question, is_over, Answers, part, LeadsFrom, Fits, EachFits, EachAnswers, InRange, IsOver, CarriedOut, EachCarriedOut}
use Rattle.pc_apply.proofs.LevelLemmas.{last_or_before, read_stands}

pub answers_none : {State : Type 0} (first now : Store) (layer : ℕ) (question : Question State) → EachAnswers first now layer question [] []
answers_none first now layer question = record { count = refl; each = λ place state id at. absurd cc }

-- one answer more
pub answers_more : {State : Type 0} (first now : Store) (layer : ℕ) (question : Question State) (states : List State) (i : ℕ) (state : State) (ids : List Id) (id : Id) → i < length states → state ≡ get_or states i state →
    EachAnswers first now layer question (take i states) ids → Answers first now layer question state id → EachAnswers first now layer question (take (i + 1) states) (ids ++ id ∷ [])
answers_more first now layer question states i state ids id lt read h one = record {
  count = length_push ids id ∙ ap (λ n. n + 1) h.count ∙ sym (ap length more ∙ length_push (take i states) state);
  each = λ place t x at at_id.
      elim (last_or_before ids id x place at_id) [
        | inl before ↦
            elim (last_or_before (take i states) state t place (subst (λ l. slice_get l place ≡ Some t) more at)) [
              | inl earlier ↦ h.each place t x earlier before
              | inr last ↦ absurd (let l = slice_get_within ids place x before in let c = h.count in let e = last.0 in omega arith)
            ]
        | inr last ↦
            elim (last_or_before (take i states) state t place (subst (λ l. slice_get l place ≡ Some t) more at)) [
              | inl earlier ↦ absurd (let l = slice_get_within (take i states) place t earlier in let c = h.count in let e = last.0 in omega arith)
              | inr same ↦ subst (λ y. Answers first now layer question t y) (sym last.1) (subst (λ u. Answers first now layer question u id) (sym same.1) one)
            ]
      ];
}
  where
    more : take (i + 1) states ≡ take i states ++ state ∷ []
    more = take_more states i state lt ∙ ap (λ t. take i states ++ t ∷ []) (sym read)

pub answers_later : {State : Type 0} (first mid now : Store) (layer : ℕ) (question : Question State) (state : State) (id : Id) → Keeps mid now → Answers first mid layer question state id → Answers first now layer question state id
answers_later first mid now layer question state id keeps h = record {
  is_id = (keeps.ids id h.is_id.0, h.is_id.1);
  words = λ word. keeps.sets id h.is_id.0 word ∙ h.words word;
}

-- what stands at a place of another list that is as long
other_stands : {X Y : Type 0} (xs : List X) (ys : List Y) (place : ℕ) (x : X) → slice_get xs place ≡ Some x → length xs ≡ length ys → (y : Y) × (slice_get ys place ≡ Some y)
other_stands [] ys place x at same = absurd cc
other_stands (z ∷ xs) [] place x at same = absurd (omega arith)
other_stands (z ∷ xs) (y ∷ ys) zero x at same = (y, refl)
other_stands (z ∷ xs) (y ∷ ys) (suc place) x at same = other_stands xs ys place x at (omega arith)

-- the sets below are of the next layer
pub answers_ids : {State : Type 0} (first now : Store) (layer : ℕ) (question : Question State) (states : List State) (ids : List Id) → EachAnswers first now layer question states ids → All (IsIdAt now layer) ids
answers_ids first now layer question states ids h k d lt =
    let there : slice_get ids k ≡ Some (get_or ids k d) = slice_get-get_or ids k d lt in
    let state = other_stands ids states k (get_or ids k d) there h.count in
    (h.each k state.0 (get_or ids k d) state.1 there).is_id

range_of : {State : Type 0} (first : Store) (layer : ℕ) (question next_question : Question State) (state : State) (below : List State) (targets : List ℕ) (ids count : ℕ) → ids ≡ length below → count ≡ slice_index (domains_of first) layer → (plan : Plan) → Fits first layer question next_question state below targets plan → InRange targets count ids plan
range_of first layer question next_question state below targets ids count as_many width (Known id) fits = tt
range_of first layer question next_question state below targets ids count as_many width (Node from) fits = (
  (let i = fits.inside in omega arith),
  λ k d lt.
      let there : slice_get (part targets from (slice_index (domains_of first) layer)) k ≡ Some (get_or (part targets from count) k d) =
      subst (λ n. slice_get (part targets from n) k ≡ Some (get_or (part targets from count) k d)) width (slice_get-get_or (part targets from count) k d lt) in
      let next = fits.each k (get_or (part targets from count) k d) there in
      let l = slice_get_within below (get_or (part targets from count) k d) next.0 next.1 in
      omega arith,
)

-- plans name places below
pub plans_in_range : {State : Type 0} (first : Store) (layer : ℕ) (question next_question : Question State) (states below : List State) (targets : List ℕ) (plans : List Plan) (ids count : ℕ) → EachFits first layer question next_question states below targets plans → ids ≡ length below → count ≡ slice_index (domains_of first) layer →
    (place : ℕ) (plan : Plan) → slice_get plans place ≡ Some plan → InRange targets count ids plan
plans_in_range first layer question next_question states below targets plans ids count h as_many width place plan at =
    let state = other_stands plans states place plan at h.count in
    range_of first layer question next_question state.0 below targets ids count as_many width plan (h.each place state.0 plan state.1 at)

and_where : (b x y : Bool) → (b ≡ true → x ≡ y) → (b && x) ≡ (b && y)
and_where true x y f = f refl
and_where false x y f = refl

-- words over a layer begin with one of its values
over_inner : (first : Store) (layer value : ℕ) (word : List ℕ) → layer < length (domains_of first) → is_over first layer (value ∷ word) ≡ (nat_lt value (slice_index (domains_of first) layer) && is_over first (layer + 1) word)
over_inner first layer value word lt = ap (λ d. is_word d (value ∷ word)) (drop_more (domains_of first) layer 0 lt)

not_over : (first : Store) (layer : ℕ) → layer < length (domains_of first) → is_over first layer [] ≡ false
not_over first layer lt = ap (λ d. is_word d []) (drop_more (domains_of first) layer 0 lt)

-- the words of a node over the answers to what is left of a state
node_words : {State : Type 0} (first mid now : Store) (layer : ℕ) (question next_question : Question State) (state : State) (below : List State) (targets : List ℕ) (from count : ℕ) (ids : List Id) (id : Id) → layer < length (domains_of first) → count ≡ slice_index (domains_of first) layer →
    LeadsFrom first layer question next_question state below targets from count → EachAnswers first mid (layer + 1) next_question below ids → IsOver mid now layer ids (part targets from count) id → (word : List ℕ) → has now id word ≡ (is_over first layer word && question.asks state word)
node_words first mid now layer question next_question state below targets from count ids id lt width leads_from answers over [] =
    over.words [] ∙ sym (ap (λ b. b && question.asks state []) (not_over first layer lt))
node_words first mid now layer question next_question state below targets from count ids id lt width leads_from answers over (value ∷ word) =
    over.words (value ∷ word) ∙ by (slice_get_cases (part targets from count) value) ∙ sym (ap (λ b. b && question.asks state (value ∷ word)) (over_inner first layer value word lt))
  where
    part_width : length (part targets from count) ≡ count
    part_width = length-take-le count (drop from targets) (let i = leads_from.inside in omega (arith, length-drop from targets))

    by : (slice_get (part targets from count) value ≡ slice_get (part targets from count) value) × (((place : ℕ) × (value < length (part targets from count)) × (slice_get (part targets from count) value ≡ Some place) × (get_or (part targets from count) value place ≡ place)) ⊎ ((length (part targets from count) ≤ value) × (slice_get (part targets from count) value ≡ None))) →
        has_in mid (slice_get over.children value) word ≡ ((nat_lt value (slice_index (domains_of first) layer) && is_over first (layer + 1) word) && question.asks state (value ∷ word))
    by cases = elim cases.1 [
      | inl found ↦
          let next = leads_from.each value found.0 found.2 in
          let child = other_stands below ids found.0 next.0 next.1 (sym answers.count) in
          let picked : slice_get over.children value ≡ Some child.0 = over.picked.each value found.0 child.0 found.2 child.1 in
          let answer = answers.each found.0 next.0 child.0 next.1 child.1 in
          let inside : nat_lt value (slice_index (domains_of first) layer) ≡ true = below_count value (slice_index (domains_of first) layer) (let w = part_width in let f = found.1 in omega arith) in
          ap (λ o. has_in mid o word) picked ∙ answer.words word
          ∙ and_where (is_over first (layer + 1) word) (next_question.asks next.0 word) (question.asks state (value ∷ word)) (λ o. next.2.same word o)
          ∙ ap (λ b. (b && is_over first (layer + 1) word) && question.asks state (value ∷ word)) (sym inside)
      | inr gone ↦
          let none : slice_get over.children value ≡ None = slice_get_past over.children value (let c = over.picked.count in let g = gone.0 in omega arith) in
          let outside : nat_lt value (slice_index (domains_of first) layer) ≡ false = past_count value (slice_index (domains_of first) layer) (let w = part_width in let g = gone.0 in omega arith) in
          ap (λ o. has_in mid o word) none ∙ ap (λ b. (b && is_over first (layer + 1) word) && question.asks state (value ∷ word)) (sym outside)
    ]
      where
        below_count : (v n : ℕ) → v < n → nat_lt v n ≡ true
        below_count v n l = grind (arith, nat_tests)

        past_count : (v n : ℕ) → n ≤ v → nat_lt v n ≡ false
        past_count v n l = grind (arith, nat_tests)

-- a plan that was carried out answers its state
plan_answers : {State : Type 0} (first mid now : Store) (layer : ℕ) (question next_question : Question State) (state : State) (below : List State) (targets : List ℕ) (count : ℕ) (ids : List Id) (id : Id) → layer < length (domains_of first) → count ≡ slice_index (domains_of first) layer → EachAnswers first mid (layer + 1) next_question below ids → Keeps first now →
    (plan : Plan) → Fits first layer question next_question state below targets plan → CarriedOut mid now layer targets count ids plan id → Answers first now layer question state id
plan_answers first mid now layer question next_question state below targets count ids id lt width answers keeps (Known known) fits out = subst (Answers first now layer question state) (sym out) (answers_later first first now layer question state known keeps fits)
plan_answers first mid now layer question next_question state below targets count ids id lt width answers keeps (Node from) fits out = record {
  is_id = out.is_id;
  words = node_words first mid now layer question next_question state below targets from count ids id lt width (subst (LeadsFrom first layer question next_question state below targets from) (sym width) fits) answers out;
}

-- all plans that were carried out answer the states
pub all_answer : {State : Type 0} (first mid now : Store) (layer : ℕ) (question next_question : Question State) (states below : List State) (targets : List ℕ) (plans : List Plan) (count : ℕ) (below_ids ids : List Id) → layer < length (domains_of first) → count ≡ slice_index (domains_of first) layer →
    EachFits first layer question next_question states below targets plans → EachAnswers first mid (layer + 1) next_question below below_ids → Keeps first mid → Keeps mid now → EachCarriedOut mid now layer targets count below_ids plans ids → EachAnswers first now layer question states ids
all_answer first mid now layer question next_question states below targets plans count below_ids ids lt width fits answers before after out = record {
  count = out.length_is ∙ fits.count;
  each = λ place state id at at_id.
      let plan = other_stands states plans place state at (sym fits.count) in
      plan_answers first mid now layer question next_question state below targets count below_ids id lt width answers (keeps_then first mid now before after) plan.0 (fits.each place state plan.0 at plan.1) (out.each place plan.0 id plan.1 at_id);
}

-- what follows of a value where there is one
pub ok_then : {T E : Type 0} (r : Result T E) (P Q : T → Type 0) → ((x : T) → P x → Q x) → IfOk r P → IfOk r Q
ok_then (Ok x) P Q f h = f x h
ok_then (Err e) P Q f h = tt

-- the answer to one state of the first layer
pub one_answer : {State : Type 0} (first now : Store) (question : Question State) (state : State) (ids : List Id) (id : Id) → EachAnswers first now 0 question (state ∷ []) ids → id ≡ get_or ids 0 id → Answers first now 0 question state id
one_answer first now question state ids id h read = h.each 0 state id refl (read_stands ids 0 id (omega (arith, h.count)) read)
