-- Whole layers and those after them.
use Rattle.std.proofs.Common.{◌≡◌, ℕ, zero, suc, ◌<◌, ◌≤◌, List, [], ◌∷◌, ◌++◌, length, drop, get_or, Option, refl, subst, arith}
use Rattle.pc_dump.specs.Form.{AreLayers, IsLayer}
use Rattle.pc_dump.specs.Draft.{AreClosed}

abbrev Table : Type 0
Table = List (Option ℕ)

pub closed_join : (domains sizes : List ℕ) (tables : List Table) (ss : List ℕ) (ts : List Table) → AreClosed domains sizes tables → AreLayers (drop (length tables) domains) ss ts → AreLayers domains (sizes ++ ss) (tables ++ ts)
closed_join domains [] [] ss ts c l = l
closed_join domains [] (t ∷ tables) ss ts c l = elim c [ ]
closed_join domains (s ∷ sizes) [] ss ts c l = elim c [ ]
closed_join [] (s ∷ sizes) (t ∷ tables) ss ts c l = elim c [ ]
closed_join (d ∷ domains) (s ∷ sizes) (t ∷ tables) ss ts c l = (c.0, closed_join domains sizes tables ss ts c.1 l)

pub closed_split : (domains sizes : List ℕ) (tables : List Table) (ss : List ℕ) (ts : List Table) → AreClosed domains sizes tables → AreLayers domains (sizes ++ ss) (tables ++ ts) → AreLayers (drop (length tables) domains) ss ts
closed_split domains [] [] ss ts c l = l
closed_split domains [] (t ∷ tables) ss ts c l = elim c [ ]
closed_split domains (s ∷ sizes) [] ss ts c l = elim c [ ]
closed_split [] (s ∷ sizes) (t ∷ tables) ss ts c l = elim c [ ]
closed_split (d ∷ domains) (s ∷ sizes) (t ∷ tables) ss ts c l = closed_split domains sizes tables ss ts c.1 l.1

first_layer : (domains : List ℕ) (d : ℕ) (ds : List ℕ) (s : ℕ) (t : Table) → domains ≡ d ∷ ds → IsLayer d s t → AreClosed domains (s ∷ []) (t ∷ [])
first_layer [] d ds s t e l = absurd cc
first_layer (x ∷ xs) d ds s t e l = let same : d ≡ x = cc in (subst (λ n. IsLayer n s t) same l, tt)

pub closed_more : (domains sizes : List ℕ) (tables : List Table) (d : ℕ) (ds : List ℕ) (s : ℕ) (t : Table) → AreClosed domains sizes tables → drop (length tables) domains ≡ d ∷ ds → IsLayer d s t → AreClosed domains (sizes ++ s ∷ []) (tables ++ t ∷ [])
closed_more domains [] [] d ds s t c e l = first_layer domains d ds s t e l
closed_more domains [] (u ∷ tables) d ds s t c e l = elim c [ ]
closed_more domains (r ∷ sizes) [] d ds s t c e l = elim c [ ]
closed_more [] (r ∷ sizes) (u ∷ tables) d ds s t c e l = elim c [ ]
closed_more (x ∷ domains) (r ∷ sizes) (u ∷ tables) d ds s t c e l = (c.0, closed_more domains sizes tables d ds s t c.1 e l)

pub closed_within : (domains sizes : List ℕ) (tables : List Table) → AreClosed domains sizes tables → length tables ≤ length domains
closed_within domains [] [] c = omega arith
closed_within domains [] (t ∷ tables) c = elim c [ ]
closed_within domains (s ∷ sizes) [] c = elim c [ ]
closed_within [] (s ∷ sizes) (t ∷ tables) c = elim c [ ]
closed_within (d ∷ domains) (s ∷ sizes) (t ∷ tables) c = let less = closed_within domains sizes tables c.1 in omega arith

pub drop_next : (k : ℕ) (domains : List ℕ) (d : ℕ) (ds : List ℕ) → drop k domains ≡ d ∷ ds → drop (suc k) domains ≡ ds
drop_next zero [] d ds e = absurd cc
drop_next zero (x ∷ xs) d ds e = cc
drop_next (suc k) [] d ds e = absurd cc
drop_next (suc k) (x ∷ xs) d ds e = drop_next k xs d ds e

pub drop_end : (k : ℕ) (domains : List ℕ) → length domains ≡ k → drop k domains ≡ []
drop_end zero [] e = refl
drop_end zero (x ∷ xs) e = absurd (omega arith)
drop_end (suc k) [] e = absurd (omega arith)
drop_end (suc k) (x ∷ xs) e = let less : length xs ≡ k = omega arith in drop_end k xs less

-- what is left of domains of which some are left
pub record Left (k : ℕ) (domains : List ℕ) : Type 0 where
  pub first : ℕ
  pub others : List ℕ
  pub stands : drop k domains ≡ first ∷ others

pub some_left : (k : ℕ) (domains : List ℕ) → k < length domains → Left k domains
some_left zero [] h = absurd (omega arith)
some_left zero (x ∷ xs) h = record { first = x; others = xs; stands = refl }
some_left (suc k) [] h = absurd (omega arith)
some_left (suc k) (x ∷ xs) h =
    let less : k < length xs = omega arith in
    let here = some_left k xs less in
    record { first = here.first; others = here.others; stands = here.stands }

pub first_left : (k : ℕ) (domains : List ℕ) (d : ℕ) (ds : List ℕ) → drop k domains ≡ d ∷ ds → get_or domains k 0 ≡ d
first_left zero [] d ds e = absurd cc
first_left zero (x ∷ xs) d ds e = cc
first_left (suc k) [] d ds e = absurd cc
first_left (suc k) (x ∷ xs) d ds e = first_left k xs d ds e
