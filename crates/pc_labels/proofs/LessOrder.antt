-- To be less is a strict weak order on weights.
use Rattle.std.proofs.Common.{◌≡◌, nat_lt, Bool, true, false, ◌||◌, ◌&&◌, not, Option, Some, None, refl, arith}
use Rattle.std.specs.Cmp.{IsStrictWeakOrder}
use Rattle.std.proofs.lemmas.Bool.Decides.{nat_tests}
use Rattle.pc_diagram.specs.declared.weight.Ranked.{Ranked}
use Rattle.pc_diagram.specs.Costs.{is_cheaper}
use Rattle.pc_diagram.specs.Weight.{is_less, is_less_ranked}
use Rattle.pc_diagram.proofs.CheaperOrder.{is_cheaper_order}

-- an order by one test and, where neither is less by it, by another
both_one_way : (a b c d : Bool) → (a ≡ true → b ≡ false) → (c ≡ true → d ≡ false) → (a || (not b && c)) ≡ true → (b || (not a && d)) ≡ false
both_one_way true true c d f g h = absurd (let e = f refl in cc)
both_one_way true false c d f g h = refl
both_one_way false true c d f g h = absurd cc
both_one_way false false true d f g h = g refl
both_one_way false false false d f g h = absurd cc

ranked_one_way : (x y : Ranked) → is_less_ranked x y ≡ true → is_less_ranked y x ≡ false
ranked_one_way x y h =
    both_one_way (is_cheaper x.pair y.pair) (is_cheaper y.pair x.pair) (nat_lt x.rank y.rank) (nat_lt y.rank x.rank) (is_cheaper_order.one_way x.pair y.pair) (λ e. grind (arith, nat_tests)) h

-- of three, where the first isn't less than the second, nor that than the third
pub three : (xy yx yz zy xz zx : Bool) (p q r : Bool) →
    (xy ≡ false → yz ≡ false → xz ≡ false) → (zy ≡ false → yx ≡ false → zx ≡ false) →
    (yx ≡ false → xz ≡ false → yz ≡ false) → (xz ≡ false → zy ≡ false → xy ≡ false) → (zx ≡ false → xy ≡ false → zy ≡ false) → (yz ≡ false → zx ≡ false → yx ≡ false) →
    (p ≡ false → q ≡ false → r ≡ false) →
    (xy || (not yx && p)) ≡ false → (yz || (not zy && q)) ≡ false → (xz || (not zx && r)) ≡ false
three true yx yz zy xz zx p q r a b c d e f g h k = absurd cc
three false yx true zy xz zx p q r a b c d e f g h k = absurd cc
three false yx false zy true zx p q r a b c d e f g h k = absurd (let t = a refl refl in cc)
three false yx false zy false true p q r a b c d e f g h k = refl
three false true false zy false false p q r a b c d e f g h k = absurd (let t = f refl refl in cc)
three false false false true false false p q r a b c d e f g h k = absurd (let t = e refl refl in cc)
three false false false false false false p q r a b c d e f g h k = g h k

ranked_chain : (x y z : Ranked) → is_less_ranked x y ≡ false → is_less_ranked y z ≡ false → is_less_ranked x z ≡ false
ranked_chain x y z h k =
    let chain = is_cheaper_order.chain in
    three (is_cheaper x.pair y.pair) (is_cheaper y.pair x.pair) (is_cheaper y.pair z.pair) (is_cheaper z.pair y.pair) (is_cheaper x.pair z.pair) (is_cheaper z.pair x.pair)
    (nat_lt x.rank y.rank) (nat_lt y.rank z.rank) (nat_lt x.rank z.rank)
    (chain x.pair y.pair z.pair) (chain z.pair y.pair x.pair) (chain y.pair x.pair z.pair) (chain x.pair z.pair y.pair) (chain z.pair x.pair y.pair) (chain y.pair z.pair x.pair)
    (λ a b. grind (arith, nat_tests)) h k

one_way : (x y : Option Ranked) → is_less x y ≡ true → is_less y x ≡ false
one_way None y h = absurd cc
one_way (Some x) None h = refl
one_way (Some x) (Some y) h = ranked_one_way x y h

chain : (x y z : Option Ranked) → is_less x y ≡ false → is_less y z ≡ false → is_less x z ≡ false
chain None y z h k = refl
chain (Some x) None z h k = absurd cc
chain (Some x) (Some y) None h k = absurd cc
chain (Some x) (Some y) (Some z) h k = ranked_chain x y z h k

pub is_less_order : IsStrictWeakOrder is_less
is_less_order = record { one_way = one_way; chain = chain }
