use Rattle.std.proofs.Common.{◌∙◌, ap, sym}
use Rattle.cf_model.specs.Assignments.{Assignment, bits, number_of}
use Rattle.cf_model.proofs.AssignmentLaws.{number_of-bits_of}
use Rattle.cf_bits.proofs.Bits.number.Goals as goal

pub returns-clause-listed : goal.returns-clause-listed
returns-clause-listed c =
    sym (number_of-bits_of c.self.inside.len c.self.inside.word c.self.invariant.2)
    ∙ ap (λ (a : Assignment). number_of (bits a)) c.self.view_is
