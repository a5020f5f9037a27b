use Rattle.std.proofs.Common.{◌≡◌, ◌+◌, ◌-◌, ◌^◌, ◌<◌, ℕ, Bool, true, false, length, set, sym, ap, ◌∙◌, arith, refl}
use Rattle.std.proofs.lemmas.List.{length-set}
use mathlib.Core.Bool.{beq}
use Rattle.cf_model.specs.Assignments.{bits, number_of}
use Rattle.cf_bits.proofs.AssignmentLaws.{number_below, number_of-set_true, number_of-set_false, set-same_bit}
use Rattle.cf_bits.proofs.Bits.number_with.Goals as goal

same : (a b : Bool) → beq a b ≡ true → a ≡ b
same true true e = refl
same true false e = sym e
same false true e = e
same false false e = refl

is_false : (a b : Bool) → b ≡ true → beq a b ≡ false → a ≡ false
is_false true true f e = e
is_false true false f e = cc
is_false false b f e = refl

is_true : (a b : Bool) → b ≡ false → beq a b ≡ false → a ≡ true
is_true true b f e = refl
is_true false true f e = cc
is_true false false f e = cc

-- the number with the bit set
up : (c : goal.Then-b) → c.number-number.result + c.place_value-place.result ≡ number_of (set (bits c.args.self) c.args.i true)
up c =
    number_of-set_true (bits c.args.self) c.args.i c.number-number.result c.place_value-place.result c.get.result c.get.ensures
    (is_false c.get.result c.args.b c.if-b.true c.if-get-b.false) c.number-number.ensures.listed
    (c.place_value-place.ensures ∙ ap (λ (k : ℕ). 2 ^ (k - 1 - c.args.i)) c.len.ensures.listed)

-- the number and the one with the bit cleared
down : (c : goal.Else-b) → c.number-number.result ≡ number_of (set (bits c.args.self) c.args.i false) + c.place_value-place.result
down c =
    number_of-set_false (bits c.args.self) c.args.i c.number-number.result c.place_value-place.result c.get.result c.get.ensures
    (is_true c.get.result c.args.b c.if-b.false c.if-get-b.false) c.number-number.ensures.listed
    (c.place_value-place.ensures ∙ ap (λ (k : ℕ). 2 ^ (k - 1 - c.args.i)) c.len.ensures.listed)

pub overflow_add-result : goal.overflow_add-result
overflow_add-result c =
    let bound : number_of (set (bits c.args.self) c.args.i true) < 2 ^ 128 = number_below (set (bits c.args.self) c.args.i true) 128
    (let l : length (set (bits c.args.self) c.args.i true) ≡ length (bits c.args.self) = length-set (bits c.args.self) c.args.i true in omega arith) in
    omega (arith, up c)

pub overflow_sub-result : goal.overflow_sub-result
overflow_sub-result c = omega (arith, down c)

pub returns-then-get-b : goal.returns-then-get-b
returns-then-get-b c =
    c.number-number.ensures.listed ∙ ap number_of (sym (set-same_bit (bits c.args.self) c.args.i c.get.result c.args.b c.get.ensures (same c.get.result c.args.b c.if-get-b.true)))

pub returns-then-b : goal.returns-then-b
returns-then-b c = up c ∙ ap (λ (b : Bool). number_of (set (bits c.args.self) c.args.i b)) (sym c.if-b.true)

pub returns-else-b : goal.returns-else-b
returns-else-b c =
    (let e : c.number-number.result - c.place_value-place.result ≡ number_of (set (bits c.args.self) c.args.i false) = omega (arith, down c) in e)
    ∙ ap (λ (b : Bool). number_of (set (bits c.args.self) c.args.i b)) (sym c.if-b.false)
