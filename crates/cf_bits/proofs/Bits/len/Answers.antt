use Rattle.std.proofs.Common.{◌∙◌, ap, sym, length}
use Rattle.cf_model.specs.Assignments.{Assignment, bits}
use Rattle.cf_model.proofs.AssignmentLaws.{length-bits_of}
use Rattle.cf_bits.proofs.Bits.len.Goals as goal

pub returns-clause-listed : goal.returns-clause-listed
returns-clause-listed c =
    sym (length-bits_of c.self.inside.len c.self.inside.word) ∙ ap (λ (a : Assignment). length (bits a)) c.self.view_is
