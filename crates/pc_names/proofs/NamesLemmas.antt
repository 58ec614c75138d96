-- Names that differ.
use Rattle.std.proofs.Common.{◌≡◌, ℕ, suc, ◌+◌, ◌<◌, true, false, List, [], ◌∷◌, ◌++◌, length, get_or, take, drop, sym, ap, ◌∙◌}
use Rattle.std.specs.List.{list_any}
use Rattle.std.proofs.Math.Seq.{drop-cons}
use Rattle.std.proofs.lemmas.List.{take_more, take-append-drop}
use Rattle.std.proofs.lemmas.Bool.Decides.{same_from_decides}
use Rattle.pc_base.specs.Distinct.{all_differ}
use Rattle.pc_base.proofs.DistinctLemmas.{all_differ-push, all_differ-again}
use Rattle.pc_names.proofs.Places.{name_eq-Decides}
use Rattle.pc_names.specs.Spelling.{same_spelling}

pub same_spelling-symmetric : (a b : List ℕ) → same_spelling a b ≡ same_spelling b a
same_spelling-symmetric a b =
    let back = name_eq-Decides b a in
    same_from_decides (same_spelling a b) (same_spelling b a) (name_eq-Decides a b) (λ e. sym (back.0 e), λ e. back.1 (sym e))

-- the names up to one place more
pub differ_more : (names : List (List ℕ)) (i : ℕ) (name : List ℕ) → i < length names → name ≡ get_or names i name →
    all_differ same_spelling (take i names) ≡ true → list_any (same_spelling name) (take i names) ≡ false →
    all_differ same_spelling (take (i + 1) names) ≡ true
differ_more names i name below is differ new =
    let more : take (i + 1) names ≡ take i names ++ name ∷ [] = take_more names i name below ∙ ap (λ n. take i names ++ n ∷ []) (sym is) in
    rw more (all_differ-push same_spelling same_spelling-symmetric (take i names) name differ new)

-- a name that stood before
pub differ_no_more : (names : List (List ℕ)) (i : ℕ) (name : List ℕ) → i < length names → name ≡ get_or names i name →
    list_any (same_spelling name) (take i names) ≡ true → all_differ same_spelling names ≡ false
differ_no_more names i name below is there =
    let rest : drop i names ≡ name ∷ drop (suc i) names = drop-cons names i name below ∙ ap (λ n. n ∷ drop (suc i) names) (sym is) in
    let whole : names ≡ take i names ++ name ∷ drop (suc i) names = sym (take-append-drop i names) ∙ ap (λ r. take i names ++ r) rest in
    ap (all_differ same_spelling) whole ∙ all_differ-again same_spelling same_spelling-symmetric (take i names) name (drop (suc i) names) there
