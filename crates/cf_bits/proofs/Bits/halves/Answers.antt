use Rattle.std.proofs.Common.{◌≡◌, ◌*◌, ◌/◌, ◌%◌, ◌^◌, ◌<◌, ◌∙◌, ℕ, sym, ap, arith, subst}
use Rattle.cf_model.specs.Assignments.{bits_of, first_half, second_half}
use Rattle.cf_bits.proofs.AssignmentLaws.{first_half-bits_of, second_half-bits_of, quotient_below}
use Rattle.cf_bits.proofs.Bits.halves.Goals as goal

-- the half has half the length
half : (c : goal.After-place_value-size) → c.args.self.len ≡ 2 * (c.len-half.result / 2)
half c = omega (arith, c.requires.even, c.len-half.ensures.len)

below : (c : goal.After-place_value-size) → c.number-number.result < 2 ^ c.args.self.len
below c = c.number-number.ensures.below

pub new-requires-clause-below : goal.new-requires-clause-below
new-requires-clause-below c =
    subst (λ (p : ℕ). c.number-number.result / p < 2 ^ (c.len-half.result / 2)) (sym c.place_value-size.ensures)
    (quotient_below c.args.self.len (c.len-half.result / 2) c.number-number.result (half c) (below c))

pub returns-clause-first : goal.returns-clause-first
returns-clause-first c =
    c.new.ensures.listed
    ∙ ap (λ (p : ℕ). bits_of (c.len-half.result / 2) (c.number-number.result / p)) c.place_value-size.ensures
    ∙ first_half-bits_of c.args.self.len (c.len-half.result / 2) c.number-number.result (omega (arith, c.requires.even, c.len-half.ensures.len)) c.number-number.ensures.below
    ∙ ap (λ (n : ℕ). first_half (bits_of c.args.self.len n)) c.number-number.ensures.number

pub returns-clause-second : goal.returns-clause-second
returns-clause-second c =
    c.new-2.ensures.listed
    ∙ ap (λ (p : ℕ). bits_of (c.len-half.result / 2) (c.number-number.result % p)) c.place_value-size.ensures
    ∙ second_half-bits_of c.args.self.len (c.len-half.result / 2) c.number-number.result (omega (arith, c.requires.even, c.len-half.ensures.len)) c.number-number.ensures.below
    ∙ ap (λ (n : ℕ). second_half (bits_of c.args.self.len n)) c.number-number.ensures.number
