-- Sets that were made, one after another.
use Rattle.std.proofs.Common.{◌≡◌, ℕ, suc, ◌+◌, ◌<◌, ◌≤◌, nat_lt, drop, Bool, true, false, ◌&&◌, ◌||◌, List, [], ◌∷◌, ◌++◌, length, take, get_or, slice_get, Some, inl, inr, refl, sym, ap, ◌∙◌, subst, arith, append_assoc, length-append, IsTrue, ◌↔◌, true≢false}
use Rattle.std.specs.List.{list_any, flat_map}
use Rattle.std.proofs.lemmas.List.{append-nil, take_more, take-append-le, take-append-drop, length_push}
use Rattle.std.proofs.lemmas.List.Folds.{list_any-append}
use Rattle.std.proofs.lemmas.Option.{slice_get_within}
use Rattle.std.proofs.lemmas.Bool.Decides.{nat_tests}
use Rattle.std.proofs.Math.Seq.{take-append-add}
use Rattle.pc_diagram.specs.declared.limits.TheConstants.{MOST_NODES}
use Rattle.pc_diagram.specs.Rests.{size}
use Rattle.pc_diagram.specs.Words.{is_word}
use Rattle.pc_store.specs.declared.id.Id.{Id}
use Rattle.pc_store.specs.declared.store.Store.{Store}
use Rattle.pc_store.specs.Sets.{domains_of, layer_of, IsIdAt, has, Keeps}
use Rattle.pc_apply.proofs.LevelLemmas.{last_or_before, still}
use Rattle.pc_file.specs.declared.variable.Variable.{Variable}
use Rattle.pc_file.specs.declared.rule.Rule.{Rule}
use Rattle.pc_file.specs.Rule.{holds}
use Rattle.pc_file.specs.Parts.{is_too_large, parts_of}
use Rattle.pc_build.specs.declared.fault.PartFault.{PartFault}
use Rattle.pc_build.specs.declared.fault.PartFault.TheVariants.{TooLarge, NoMemory}
use Rattle.pc_build.specs.Making.{Denotes, DenoteEach, AllMade, StopsAt, Stopped}

-- what stands after a list stands further on where the list goes on
pub later : {X : Type 0} (xs ys : List X) (k : ℕ) (x : X) → slice_get ys k ≡ Some x → slice_get (xs ++ ys) (length xs + k) ≡ Some x
later [] ys k x h = subst (λ n. slice_get ys n ≡ Some x) (let same : k ≡ 0 + k = omega arith in same) h
later (z ∷ xs) ys k x h = subst (λ n. slice_get (z ∷ (xs ++ ys)) n ≡ Some x) (let same : suc (length xs + k) ≡ suc (length xs) + k = omega arith in same) (later xs ys k x h)

-- the size of a set is that of the words that it denotes
pub size_of_set : (store : Store) (set : Id) (test : List ℕ → Bool) (n : ℕ) → Denotes store test set → n ≡ size (drop (layer_of set) (domains_of store)) (has store set) → n ≡ size (domains_of store) (λ word. is_word (domains_of store) word && test word)
size_of_set store set test n d e = e ∙ ap (λ l. size (drop l (domains_of store)) (has store set)) d.is_id.1 ∙ ap (size (domains_of store)) (λ i word. d.words word i)

pub stops_here : (store : Store) (set : Id) (test : List ℕ → Bool) (n made part : ℕ) → Denotes store test set → n ≡ size (drop (layer_of set) (domains_of store)) (has store set) → MOST_NODES < n → part ≡ made + 1 → StopsAt (domains_of store) (test ∷ []) made part
stops_here store set test n made part d e large next = record {
  place = 0;
  part = test;
  first = record {
    stands = refl;
    passes = (let same = size_of_set store set test n d e in grind (arith, nat_tests));
    none_before = refl;
  };
  number_is = omega arith;
}

pub made_here : (store : Store) (set : Id) (test : List ℕ → Bool) (n made now : ℕ) → Denotes store test set → n ≡ size (drop (layer_of set) (domains_of store)) (has store set) → n ≤ MOST_NODES → now ≡ made + 1 → AllMade (domains_of store) (test ∷ []) made now
made_here store set test n made now d e small count = record {
  none = (let same = size_of_set store set test n d e in ap (λ b. b || false) (by (size (domains_of store) (λ word. is_word (domains_of store) word && test word)) n same small));
  count = count;
}
  where
    by : (size n : ℕ) → n ≡ size → n ≤ MOST_NODES → nat_lt MOST_NODES size ≡ false
    by size n e small = grind (arith, nat_tests)

-- what a test of a size tells
pub size_above : (small : Bool) (n most : ℕ) → (IsTrue small ↔ (n ≤ most)) → small ≡ false → most < n
size_above small n most h e = by (nat_lt most n) refl
  where
    by : (b : Bool) → nat_lt most n ≡ b → most < n
    by true more = grind (arith, nat_tests)
    by false few = let le : n ≤ most = grind (arith, nat_tests) in absurd (true≢false (sym (h.1 le) ∙ e))

-- a set stays what it is
pub denotes_later : (old new : Store) (test : List ℕ → Bool) (id : Id) → Keeps old new → Denotes old test id → Denotes new test id
denotes_later old new test id keeps h = record {
  is_id = (keeps.ids id h.is_id.0, h.is_id.1);
  words = λ word. keeps.sets id h.is_id.0 word ∙ h.words word ∙ ap (λ d. is_word d word && test word) (sym keeps.domains);
}

-- what is in two sets passes both tests
pub both_denote : (old new : Store) (test other : List ℕ → Bool) (a b id : Id) → Keeps old new → Denotes old test a → Denotes old other b → IsIdAt new 0 id → ((word : List ℕ) → has new id word ≡ (has old a word && has old b word)) → Denotes new (λ word. test word && other word) id
both_denote old new test other a b id keeps h k is_id words = record {
  is_id = is_id;
  words = λ word. words word ∙ (λ i. h.words word i && k.words word i) ∙ by (is_word (domains_of old) word) (test word) (other word) ∙ ap (λ d. is_word d word && (test word && other word)) (sym keeps.domains);
}
  where
    by : (b c d : Bool) → ((b && c) && (b && d)) ≡ (b && (c && d))
    by true c d = refl
    by false c d = refl

pub denote_each_later : (old new : Store) (variables : List Variable) (rules : List Rule) (ids : List Id) → Keeps old new → DenoteEach old variables rules ids → DenoteEach new variables rules ids
denote_each_later old new variables rules ids keeps h = record {
  count = h.count;
  each = λ place rule id at here. denotes_later old new (λ word. holds variables word rule) id keeps (h.each place rule id at here);
}

-- all were made of one list, and then of another
pub all_made_both : (domains : List ℕ) (first second : List (List ℕ → Bool)) (old mid new : ℕ) → AllMade domains first old mid → AllMade domains second mid new → AllMade domains (first ++ second) old new
all_made_both domains first second old mid new a b = record {
  none = list_any-append (is_too_large MOST_NODES domains) first second ∙ (λ i. a.none i || b.none i);
  count = let c = a.count in let d = b.count in let l = length-append first second in omega arith;
}

-- making stops in the first list
pub stops_first : (domains : List ℕ) (first second : List (List ℕ → Bool)) (old number : ℕ) → StopsAt domains first old number → StopsAt domains (first ++ second) old number
stops_first domains first second old number h = record {
  place = h.place;
  part = h.part;
  first = record {
    stands = still first second h.place h.part h.first.stands;
    passes = h.first.passes;
    none_before = ap (list_any (is_too_large MOST_NODES domains)) (take-append-le h.place first second (let lt = slice_get_within first h.place h.part h.first.stands in omega arith)) ∙ h.first.none_before;
  };
  number_is = h.number_is;
}

-- or all of the first list were made, and it stops in the second
pub stops_second : (domains : List ℕ) (first second : List (List ℕ → Bool)) (old mid number : ℕ) → AllMade domains first old mid → StopsAt domains second mid number → StopsAt domains (first ++ second) old number
stops_second domains first second old mid number a h = record {
  place = length first + h.place;
  part = h.part;
  first = record {
    stands = later first second h.place h.part h.first.stands;
    passes = h.first.passes;
    none_before =
        ap (list_any (is_too_large MOST_NODES domains)) (take-append-add first second h.place)
        ∙ list_any-append (is_too_large MOST_NODES domains) first (take h.place second)
        ∙ (λ i. a.none i || h.first.none_before i);
  };
  number_is = let c = h.number_is in let d = a.count in omega arith;
}

-- making that stopped in the first list, or in the second, where all of the first were made
pub stopped_first : (domains : List ℕ) (first second : List (List ℕ → Bool)) (old : ℕ) (fault : PartFault) → Stopped domains first old fault → Stopped domains (first ++ second) old fault
stopped_first domains first second old (TooLarge number) h = stops_first domains first second old number h
stopped_first domains first second old NoMemory h = tt

pub stopped_second : (domains : List ℕ) (first second : List (List ℕ → Bool)) (old mid : ℕ) (fault : PartFault) → AllMade domains first old mid → Stopped domains second mid fault → Stopped domains (first ++ second) old fault
stopped_second domains first second old mid (TooLarge number) a h = stops_second domains first second old mid number a h
stopped_second domains first second old mid NoMemory a h = tt

pub all_made_none : (domains : List ℕ) (count : ℕ) → AllMade domains [] count count
all_made_none domains count = record { none = refl; count = omega arith }

-- several lists end to end
flat_map-append : {A B : Type 0} (f : A → List B) (xs ys : List A) → flat_map f (xs ++ ys) ≡ flat_map f xs ++ flat_map f ys
flat_map-append f [] ys = refl
flat_map-append f (x ∷ xs) ys = ap (λ zs. f x ++ zs) (flat_map-append f xs ys) ∙ sym (append_assoc (f x) (flat_map f xs) (flat_map f ys))

module _ (variables : List Variable) (rules : List Rule) (i : ℕ) (rule : Rule) (lt : i < length rules) (read : rule ≡ get_or rules i rule) where
  -- the parts of the first rules and of one more
  pub one_rule_more : flat_map (parts_of variables) (take (i + 1) rules) ≡ flat_map (parts_of variables) (take i rules) ++ parts_of variables rule
  one_rule_more =
      ap (flat_map (parts_of variables)) (take_more rules i rule lt ∙ ap (λ r. take i rules ++ r ∷ []) (sym read))
      ∙ flat_map-append (parts_of variables) (take i rules) (rule ∷ [])
      ∙ ap (λ ps. flat_map (parts_of variables) (take i rules) ++ ps) (append-nil (parts_of variables rule))

  -- the parts of all rules go on with those that come after
  pub all_rules : flat_map (parts_of variables) rules ≡ (flat_map (parts_of variables) (take i rules) ++ parts_of variables rule) ++ flat_map (parts_of variables) (drop (i + 1) rules)
  all_rules =
      ap (flat_map (parts_of variables)) (sym (take-append-drop (i + 1) rules))
      ∙ flat_map-append (parts_of variables) (take (i + 1) rules) (drop (i + 1) rules)
      ∙ ap (λ ps. ps ++ flat_map (parts_of variables) (drop (i + 1) rules)) one_rule_more

  -- making stops in the parts of this rule
  pub stopped_in_rule : (domains : List ℕ) (old mid : ℕ) (fault : PartFault) → AllMade domains (flat_map (parts_of variables) (take i rules)) old mid → Stopped domains (parts_of variables rule) mid fault → Stopped domains (flat_map (parts_of variables) rules) old fault
  stopped_in_rule domains old mid fault before h =
      subst (λ parts. Stopped domains parts old fault) (sym all_rules)
      (stopped_first domains (flat_map (parts_of variables) (take i rules) ++ parts_of variables rule) (flat_map (parts_of variables) (drop (i + 1) rules)) old fault
      (stopped_second domains (flat_map (parts_of variables) (take i rules)) (parts_of variables rule) old mid fault before h))

-- the sets of the first rules and of one more
pub denote_more : (old new : Store) (variables : List Variable) (rules : List Rule) (i : ℕ) (rule : Rule) (ids : List Id) (id : Id) → i < length rules → rule ≡ get_or rules i rule → Keeps old new → DenoteEach old variables (take i rules) ids → Denotes new (λ word. holds variables word rule) id → DenoteEach new variables (take (i + 1) rules) (ids ++ id ∷ [])
denote_more old new variables rules i rule ids id lt read keeps h one = subst (λ rs. DenoteEach new variables rs (ids ++ id ∷ [])) (sym (take_more rules i rule lt ∙ ap (λ r. take i rules ++ r ∷ []) (sym read))) (record {
  count = length_push ids id ∙ ap (λ n. n + 1) h.count ∙ sym (length_push (take i rules) rule);
  each = λ place r d at here. elim (last_or_before ids id d place here) [
    | inl before ↦ elim (last_or_before (take i rules) rule r place at) [
      | inl early ↦ denotes_later old new (λ word. holds variables word r) d keeps (h.each place r d early before)
      | inr last ↦ absurd (let lt = slice_get_within ids place d before in let c = h.count in let e = last.0 in omega arith)
    ]
    | inr end ↦ elim (last_or_before (take i rules) rule r place at) [
      | inl early ↦ absurd (let lt = slice_get_within (take i rules) place r early in let c = h.count in let e = end.0 in omega arith)
      | inr last ↦ subst (λ (x : Rule). Denotes new (λ word. holds variables word x) d) (sym last.1) (subst (Denotes new (λ word. holds variables word rule)) (sym end.1) one)
    ]
  ];
})
