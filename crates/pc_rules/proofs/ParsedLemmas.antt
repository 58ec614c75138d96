-- A list of outcomes, gone through from the front.
use Rattle.std.proofs.Common.{◌≡◌, ℕ, suc, ◌+◌, ◌<◌, ◌≤◌, List, [], ◌∷◌, ◌++◌, length, get_or, drop, map, Ok, Err, refl, sym, ap, ◌∙◌, append_assoc, add-one}
use Rattle.std.proofs.Math.Seq.{drop-cons}
use Rattle.std.proofs.lemmas.List.{append-nil, drop_all}
use Rattle.pc_rules.specs.declared.kind.Kind.{Kind}
use Rattle.pc_rules.specs.declared.fault.RuleFault.{RuleFault}
use Rattle.pc_rules.specs.declared.fault.RuleFault.TheVariants.{Fault, NoMemory}
use Rattle.pc_rules.specs.Parsed.{Parsed, ◌>>=◌, Fails}
use Rattle.pc_rules.specs.Naming.{all_ok}

regroup : {B : Type 0} (y : B) (front : List B) (rest : Parsed (List B)) →
    ((rest >>= λ ys. Ok (y ∷ ys)) >>= λ more. Ok (front ++ more)) ≡ (rest >>= λ more. Ok ((front ++ y ∷ []) ++ more))
regroup y front (Ok ys) = ap Ok (sym (append_assoc front (y ∷ []) ys))
regroup y front (Err kind) = refl

module _ {A B : Type 0} (f : A → Parsed B) (xs : List A) where
  -- what comes of the list, where the first so many gave the front
  abbrev pub with_front : ℕ → List B → Parsed (List B)
  with_front i front = all_ok (map f (drop i xs)) >>= λ more. Ok (front ++ more)

  next : (i : ℕ) (x : A) (front : List B) → i < length xs → x ≡ get_or xs i x →
      with_front i front ≡ ((f x >>= λ y. all_ok (map f (drop (suc i) xs)) >>= λ ys. Ok (y ∷ ys)) >>= λ more. Ok (front ++ more))
  next i x front below is =
      let rest : drop i xs ≡ x ∷ drop (suc i) xs = drop-cons xs i x below ∙ ap (λ n. n ∷ drop (suc i) xs) (sym is) in
      ap (λ r. all_ok (map f r) >>= λ more. Ok (front ++ more)) rest

  pub all_ok-more : (i : ℕ) (x : A) (y : B) (front : List B) → i < length xs → x ≡ get_or xs i x → f x ≡ Ok y → with_front i front ≡ with_front (i + 1) (front ++ y ∷ [])
  all_ok-more i x y front below is gives =
      next i x front below is
      ∙ ap (λ o. (o >>= λ y. all_ok (map f (drop (suc i) xs)) >>= λ ys. Ok (y ∷ ys)) >>= λ more. Ok (front ++ more)) gives
      ∙ regroup y front (all_ok (map f (drop (suc i) xs)))
      ∙ ap (λ j. with_front j (front ++ y ∷ [])) (sym (add-one i))

  pub all_ok-stops : (i : ℕ) (x : A) (kind : Kind) (front : List B) → i < length xs → x ≡ get_or xs i x → f x ≡ Err kind → with_front i front ≡ Err kind
  all_ok-stops i x kind front below is gives =
      next i x front below is ∙ ap (λ o. (o >>= λ y. all_ok (map f (drop (suc i) xs)) >>= λ ys. Ok (y ∷ ys)) >>= λ more. Ok (front ++ more)) gives

  pub all_ok-fails : (i : ℕ) (x : A) (fault : RuleFault) (front : List B) → i < length xs → x ≡ get_or xs i x → Fails fault (f x) → Fails fault (with_front i front)
  all_ok-fails i x (Fault kind) front below is fails = all_ok-stops i x kind front below is fails
  all_ok-fails i x NoMemory front below is fails = tt

  pub all_ok-done : (i : ℕ) (front : List B) → length xs ≤ i → with_front i front ≡ Ok front
  all_ok-done i front past =
      let none : drop i xs ≡ [] = drop_all i xs past in
      ap (λ r. all_ok (map f r) >>= λ more. Ok (front ++ more)) none ∙ ap Ok (append-nil front)
