-- The shape of a diagram's tables.
use Rattle.std.proofs.Common.{◌≡◌, ℕ, ◌+◌, ◌*◌, ◌<◌, ◌≤◌, ◌==◌, nat_lt, nat_le, Bool, true, false, not, ◌&&◌, ◌||◌, if◌then◌else◌, length, take, sum, get_or, Some, None, refl, sym, ap, ◌∙◌, subst, arith}
use Rattle.std.proofs.lemmas.Bool.Decides.{nat_tests}
use Rattle.std.proofs.lemmas.List.{take_all}
use Rattle.std.proofs.lemmas.List.Sums.{sum_by-take-le}
use Rattle.pc_diagram.specs.declared.raw_diagram.RawDiagram.{RawDiagram}
use Rattle.pc_diagram.specs.Diagram.{IsShapedLevel, IsShaped}
use Rattle.pc_diagram.specs.DiagramShape.{first_below, has_lists, has_size, has_room, has_table, has_shape, misshapen_layer}
use Rattle.pc_diagram.specs.Levels.{Level, level}
use Rattle.pc_diagram.proofs.FirstBelow.{first_below-none, none_below}

pub both : (a b : Bool) → (a && b) ≡ true → (a ≡ true) × (b ≡ true)
both true b h = (refl, h)
both false b h = absurd cc

pub together : (a b : Bool) → a ≡ true → b ≡ true → (a && b) ≡ true
together a b p q = ap (λ x. x && b) p ∙ q

-- a test passes where its opposite doesn't
pub straight : (b : Bool) → not b ≡ false → b ≡ true
straight true e = refl
straight false e = absurd cc

less : (m n : ℕ) → nat_lt m n ≡ true → m < n
less m n h = grind (arith, nat_tests)

at_most : (m n : ℕ) → nat_le m n ≡ true → m ≤ n
at_most m n h = grind (arith, nat_tests)

equal : (m n : ℕ) → (m == n) ≡ true → m ≡ n
equal m n h = grind (arith, nat_tests)

is_less : (m n : ℕ) → m < n → nat_lt m n ≡ true
is_less m n h = grind (arith, nat_tests)

is_at_most : (m n : ℕ) → m ≤ n → nat_le m n ≡ true
is_at_most m n h = grind (arith, nat_tests)

is_equal : (m n : ℕ) → m ≡ n → (m == n) ≡ true
is_equal m n h = grind (arith, nat_tests)

apart : (m n : ℕ) → m < n → (m == n) ≡ false
apart m n h = grind (arith, nat_tests)

-- how many lists there are
pub record Lists (raw : RawDiagram) : Type 0 where
  pub some : 0 < length raw.domains
  pub few : length raw.domains ≤ 64
  pub layers : length raw.sizes ≡ length raw.domains + 1
  pub tables : length raw.edges ≡ length raw.domains

pub lists : (raw : RawDiagram) → has_lists raw ≡ true → Lists raw
lists raw h =
    let n = length raw.domains in
    let d = both (nat_lt 0 n && nat_le n 64 && length raw.sizes == n + 1) (length raw.edges == n) h in
    let c = both (nat_lt 0 n && nat_le n 64) (length raw.sizes == n + 1) d.0 in
    let b = both (nat_lt 0 n) (nat_le n 64) c.0 in
    record { some = less 0 n b.0; few = at_most n 64 b.1; layers = equal (length raw.sizes) (n + 1) c.1; tables = equal (length raw.edges) n d.1 }

-- a layer that has the shape of one
pub record Shape (raw : RawDiagram) (layer : ℕ) : Type 0 where
  pub size : has_size raw layer ≡ true
  pub room : sum (take (layer + 1) raw.sizes) ≤ 262144
  pub table : (layer == length raw.domains || has_table (level raw layer)) ≡ true

pub shape : (raw : RawDiagram) (layer : ℕ) → has_shape raw layer ≡ true → Shape raw layer
shape raw layer h =
    let c = both (has_size raw layer && has_room raw layer) (layer == length raw.domains || has_table (level raw layer)) h in
    let b = both (has_size raw layer) (has_room raw layer) c.0 in
    record { size = b.0; room = at_most (sum (take (layer + 1) raw.sizes)) 262144 b.1; table = c.1 }

some_size : (raw : RawDiagram) (layer : ℕ) → has_size raw layer ≡ true → 0 < get_or raw.sizes layer 0
some_size raw layer h = by (layer == 0 || layer == length raw.domains) h
  where
    by : (b : Bool) → (if b then get_or raw.sizes layer 0 == 1 else nat_lt 0 (get_or raw.sizes layer 0)) ≡ true → 0 < get_or raw.sizes layer 0
    by true e = let one : get_or raw.sizes layer 0 ≡ 1 = equal (get_or raw.sizes layer 0) 1 e in omega arith
    by false e = less 0 (get_or raw.sizes layer 0) e

end_size : (raw : RawDiagram) (layer : ℕ) → (layer == 0 || layer == length raw.domains) ≡ true → has_size raw layer ≡ true → get_or raw.sizes layer 0 ≡ 1
end_size raw layer is h =
    equal (get_or raw.sizes layer 0) 1 (ap (λ b. if b then get_or raw.sizes layer 0 == 1 else nat_lt 0 (get_or raw.sizes layer 0)) (sym is) ∙ h)

has_end : (raw : RawDiagram) → (length raw.domains == 0 || length raw.domains == length raw.domains) ≡ true
has_end raw = by (length raw.domains == 0) (is_equal (length raw.domains) (length raw.domains) refl)
  where
    by : (b : Bool) → (length raw.domains == length raw.domains) ≡ true → (b || length raw.domains == length raw.domains) ≡ true
    by true e = refl
    by false e = e

shaped_level : (raw : RawDiagram) (variable : ℕ) → variable < length raw.domains → Shape raw variable → has_size raw (variable + 1) ≡ true → IsShapedLevel (level raw variable)
shaped_level raw variable lt s follow =
    let l = level raw variable in
    let table : has_table l ≡ true = ap (λ b. b || has_table l) (sym (apart variable (length raw.domains) lt)) ∙ s.table in
    let c = both (nat_lt 0 l.domain && nat_le l.domain 64) (length l.table == l.size * l.domain) table in
    let b = both (nat_lt 0 l.domain) (nat_le l.domain 64) c.0 in
    record {
      some_values = less 0 l.domain b.0;
      few_values = at_most l.domain 64 b.1;
      some_nodes = some_size raw variable s.size;
      nodes_follow = some_size raw (variable + 1) follow;
      width = equal (length l.table) (l.size * l.domain) c.1;
    }

shaped_all : (raw : RawDiagram) → Lists raw → ((layer : ℕ) → layer < length raw.sizes → Shape raw layer) → IsShaped raw
shaped_all raw l each = let layers = l.layers in let few = l.few in record {
  some_variables = l.some;
  few_variables = l.few;
  layers = l.layers;
  tables = l.tables;
  root = end_size raw 0 refl (each 0 (omega arith)).size;
  terminal = end_size raw (length raw.domains) (has_end raw) (each (length raw.domains) (omega arith)).size;
  few_nodes = subst (λ xs. sum xs ≤ 262144) (take_all (length raw.domains + 1) raw.sizes (omega arith)) (each (length raw.domains) (omega arith)).room;
  shaped = λ variable lt. shaped_level raw variable lt (each variable (omega arith)) (each (variable + 1) (omega arith)).size;
}

-- where no layer is misshapen, the tables are shaped
pub none_misshapen : (raw : RawDiagram) → misshapen_layer raw ≡ None → IsShaped raw
none_misshapen raw h = by (has_lists raw) refl h
  where
    by : (b : Bool) → has_lists raw ≡ b → (if b then first_below (λ layer. not (has_shape raw layer)) (length raw.sizes) else Some 0) ≡ None → IsShaped raw
    by true e none = shaped_all raw (lists raw e) (λ layer lt. shape raw layer (straight (has_shape raw layer) (none_below (λ k. not (has_shape raw k)) (length raw.sizes) none layer lt)))
    by false e none = absurd cc

-- shaped tables have as many lists as they should
all_lists : (raw : RawDiagram) → IsShaped raw → has_lists raw ≡ true
all_lists raw h =
    let n = length raw.domains in
    together (nat_lt 0 n && nat_le n 64 && length raw.sizes == n + 1) (length raw.edges == n)
    (together (nat_lt 0 n && nat_le n 64) (length raw.sizes == n + 1) (together (nat_lt 0 n) (nat_le n 64) (is_less 0 n h.some_variables) (is_at_most n 64 h.few_variables)) (is_equal (length raw.sizes) (n + 1) h.layers))
    (is_equal (length raw.edges) n h.tables)

level_table : (l : Level) → IsShapedLevel l → has_table l ≡ true
level_table l s =
    together (nat_lt 0 l.domain && nat_le l.domain 64) (length l.table == l.size * l.domain)
    (together (nat_lt 0 l.domain) (nat_le l.domain 64) (is_less 0 l.domain s.some_values) (is_at_most l.domain 64 s.few_values))
    (is_equal (length l.table) (l.size * l.domain) s.width)

layer_table : (raw : RawDiagram) → IsShaped raw → (layer : ℕ) → layer < length raw.domains + 1 → (layer == length raw.domains || has_table (level raw layer)) ≡ true
layer_table raw h layer lt = by (layer == length raw.domains) refl
  where
    by : (b : Bool) → (layer == length raw.domains) ≡ b → (b || has_table (level raw layer)) ≡ true
    by true e = refl
    by false e = let small : layer < length raw.domains = grind (arith, nat_tests) in level_table (level raw layer) (h.shaped layer small)

layer_size : (raw : RawDiagram) → IsShaped raw → (layer : ℕ) → layer < length raw.domains + 1 → has_size raw layer ≡ true
layer_size raw h layer lt = by (layer == 0) refl (layer == length raw.domains) refl
  where
    by : (b : Bool) → (layer == 0) ≡ b → (c : Bool) → (layer == length raw.domains) ≡ c → (if b || c then get_or raw.sizes layer 0 == 1 else nat_lt 0 (get_or raw.sizes layer 0)) ≡ true
    by true e c f = is_equal (get_or raw.sizes layer 0) 1 (ap (λ i. get_or raw.sizes i 0) (equal layer 0 e) ∙ h.root)
    by false e true f = is_equal (get_or raw.sizes layer 0) 1 (ap (λ i. get_or raw.sizes i 0) (equal layer (length raw.domains) f) ∙ h.terminal)
    by false e false f = let small : layer < length raw.domains = grind (arith, nat_tests) in is_less 0 (get_or raw.sizes layer 0) (h.shaped layer small).some_nodes

pub shaped_none : (raw : RawDiagram) → IsShaped raw → misshapen_layer raw ≡ None
shaped_none raw h =
    ap (λ b. if b then first_below (λ layer. not (has_shape raw layer)) (length raw.sizes) else Some 0) (all_lists raw h)
    ∙ first_below-none (λ layer. not (has_shape raw layer)) (length raw.sizes)
    (λ layer lt.
    let layers = h.layers in
    let small : layer < length raw.domains + 1 = omega arith in
    let few = h.few_nodes in
    let part = sum_by-take-le (λ x. x) raw.sizes (layer + 1) in
    ap not (together (has_size raw layer && has_room raw layer) (layer == length raw.domains || has_table (level raw layer))
    (together (has_size raw layer) (has_room raw layer) (layer_size raw h layer small) (is_at_most (sum (take (layer + 1) raw.sizes)) 262144 (omega arith))) (layer_table raw h layer small)))
