use Rattle.std.proofs.Common.{◌≡◌, ◌<◌, ◌+◌, ◌∙◌, ℕ, List, ◌∷◌, Bool, true, false, nat_lt, refl, sym, ap, subst, arith, slice_index}
use Rattle.std.proofs.lemmas.Bool.Decides.{nat_tests}
use Rattle.std.proofs.lemmas.Grind.{common_steps}
use Rattle.pc_store.specs.Sets.{domains_of, has, IsIdAt}
use Rattle.pc_conjunction.proofs.narrow.only_child.Goals as goal

pub overflow_add-layer : goal.overflow_add-layer
overflow_add-layer c = let inner = c.requires.inner in let few = c.requires.few in grind (arith, common_steps)

pub loop-value-init : goal.loop-value-init
loop-value-init c = λ value lt word.
    let here : 0 ≡ value = omega arith in
    c.child-first.ensures.set word ∙ ap (λ v. has c.args.store.now c.args.set (v ∷ word)) here

pub loop-value-preserved : goal.loop-value-preserved
loop-value-preserved c = λ value lt word. by value lt word (nat_lt value c.loop-value.value) refl
  where
    by : (value : ℕ) → value < c.loop-value.value + 1 → (word : List ℕ) → (b : Bool) → nat_lt value c.loop-value.value ≡ b → has c.args.store.now c.child-first.result word ≡ has c.args.store.now c.args.set (value ∷ word)
    by value lt word true before = c.loop-value.invariant value (grind (arith, nat_tests)) word
    by value lt word false last =
        let here : c.loop-value.value ≡ value = grind (arith, nat_tests) in
        sym (c.same_set.ensures.0 c.if-not-same_set.false word) ∙ c.child.ensures.set word ∙ ap (λ v. has c.args.store.now c.args.set (v ∷ word)) here

pub returns : goal.returns
returns c = record {
  inside = (let other = c.if-layer-variables.false in let inner = c.requires.inner in let count = c.variables.ensures.count in omega arith);
  is_id = subst (λ l. IsIdAt c.args.store.now (l + 1) c.child-first.result) c.requires.set.1 c.child-first.ensures.is_id;
  words = λ value lt word. c.loop-value.invariant value (let past = c.loop-value-test.false in let domain = c.domain-domain.ensures.domain in omega arith) word;
}

pub child-first-requires-clause-in_range : goal.child-first-requires-clause-in_range
child-first-requires-clause-in_range c =
    let some = c.domain-domain.ensures.is_domain.some_value in
    let is = c.domain-domain.ensures.domain in
    let inside : 0 < slice_index (domains_of c.args.store.now) c.args.layer = omega arith in
    subst (λ l. 0 < slice_index (domains_of c.args.store.now) l) (sym c.requires.set.1) inside
