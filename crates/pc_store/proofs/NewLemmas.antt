-- New layers.
use Rattle.std.proofs.Common.{◌≡◌, ℕ, zero, suc, ◌<◌, ◌≤◌, nat_eq, false, ◌||◌, List, [], ◌∷◌, ◌++◌, map, length, replicate, refl, ap, arith, All, if◌then◌else◌}
use Rattle.std.specs.Cmp.Lexicographic.{pointwise}
use Rattle.std.specs.List.{IsDistinct, AllByRecursion}
use Rattle.std.proofs.lemmas.List.{length-map, length-replicate, get_or-replicate}
use Rattle.std.proofs.lemmas.List.Elements.{All-from_recursion, recursion_from_All}
use Rattle.pc_store.specs.Rows.{with_row}
use Rattle.pc_store.specs.Sets.{domains_of}
use Rattle.pc_store.specs.Layered.{node_count, IsRow, IsLayer, IsLayered, IsStore, new_layer, IsDomain}

-- ones are not zeros
pub ones_differ : (domain : ℕ) → 0 < domain → pointwise nat_eq (replicate domain 1) (replicate domain 0) ≡ false
ones_differ zero some = absurd (omega arith)
ones_differ (suc domain) some = refl

pub zeros_differ : (domain : ℕ) → 0 < domain → pointwise nat_eq (replicate domain 0) (replicate domain 1) ≡ false
zeros_differ zero some = absurd (omega arith)
zeros_differ (suc domain) some = refl

-- the two rows of a new layer
pub two_rows : (domain : ℕ) → 0 < domain → with_row (with_row [] (replicate domain 0)) (replicate domain 1) ≡ replicate domain 0 ∷ replicate domain 1 ∷ []
two_rows domain some =
    ap (λ b. if (b || false) then replicate domain 0 ∷ [] else (replicate domain 0 ∷ []) ++ replicate domain 1 ∷ []) (ones_differ domain some)

equal_children : (domain child below : ℕ) → child < below → IsRow domain below (replicate domain child)
equal_children domain child below lt = record {
  width = length-replicate domain child;
  within = λ k d l. let inside : k < domain = omega (arith, length-replicate domain child, l) in rw (get_or-replicate domain k child d inside) lt;
}

new_is_layer : (domain below : ℕ) → IsDomain domain → 1 < below → IsLayer below (new_layer domain)
unfolding IsDistinct
new_is_layer domain below is two = record {
  some_value = is.some_value;
  few_values = is.few_values;
  empty = refl;
  full = refl;
  rows = All-from_recursion (IsRow domain below) (replicate domain 0 ∷ replicate domain 1 ∷ []) (equal_children domain 0 below (omega arith), (equal_children domain 1 below two, tt));
  distinct = ((zeros_differ domain is.some_value, tt), (tt, tt));
}

two_each : (domains : List ℕ) → node_count (map new_layer domains) ≡ 2
two_each [] = refl
two_each (domain ∷ domains) = refl

new_layered : (domains : List ℕ) → AllByRecursion IsDomain domains → IsLayered (map new_layer domains)
new_layered [] all = tt
new_layered (domain ∷ domains) all =
    let two = two_each domains in
    (new_is_layer domain (node_count (map new_layer domains)) all.0 (omega arith), new_layered domains all.1)

-- layers that are all new
new_are_layered : (domains : List ℕ) → All IsDomain domains → IsLayered (map new_layer domains)
new_are_layered domains all = new_layered domains (recursion_from_All IsDomain domains all)

new_domains : (domains : List ℕ) → map (λ layer. layer.domain) (map new_layer domains) ≡ domains
new_domains [] = refl
new_domains (domain ∷ domains) = ap (λ rest. domain ∷ rest) (new_domains domains)

pub new_store : (domains : List ℕ) → 0 < length domains → length domains ≤ 64 → All IsDomain domains → IsStore (map new_layer domains)
new_store domains some few all = let same = length-map domains new_layer in record { some_layer = omega arith; few_layers = omega arith; layered = new_are_layered domains all }

pub domains_of-new : (domains : List ℕ) → domains_of (map new_layer domains) ≡ domains
unfolding domains_of
domains_of-new domains = new_domains domains
