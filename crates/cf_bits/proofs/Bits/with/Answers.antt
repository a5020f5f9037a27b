use Rattle.std.proofs.Common.{◌^◌, ◌<◌, ℕ, set, sym, ◌∙◌, arith, subst}
use Rattle.std.proofs.lemmas.List.{length-set}
use Rattle.cf_model.specs.Assignments.{bits}
use Rattle.cf_bits.proofs.AssignmentLaws.{number_below, IsMadeOf, made_of}
use Rattle.cf_bits.proofs.Bits.with.Goals as goal

pub new-requires-clause-below : goal.new-requires-clause-below
new-requires-clause-below c =
    subst (λ (n : ℕ). n < 2 ^ c.len.result) (sym c.number_with.ensures)
    (number_below (set (bits c.args.self) c.args.i c.args.b) c.len.result (omega (arith, length-set (bits c.args.self) c.args.i c.args.b, c.len.ensures.listed)))

made : (c : goal.After-new) → IsMadeOf c.new.result (set (bits c.args.self) c.args.i c.args.b)
made c =
    made_of c.new.result c.len.result c.number_with.result (set (bits c.args.self) c.args.i c.args.b) c.new.ensures.parts
    (c.len.ensures.listed ∙ sym (length-set (bits c.args.self) c.args.i c.args.b)) c.number_with.ensures

pub returns-clause-listed : goal.returns-clause-listed
returns-clause-listed c = (made c).listed

pub returns-clause-number : goal.returns-clause-number
returns-clause-number c = (made c).number
