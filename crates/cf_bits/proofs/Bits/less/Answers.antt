use Rattle.std.proofs.Common.{◌∙◌, sym}
use Rattle.cf_model.specs.Assignments.{bits}
use Rattle.cf_model.proofs.AssignmentLaws.{length-bits_of}
use Rattle.cf_bits.proofs.AssignmentLaws.{less-order}
use Rattle.cf_bits.proofs.Bits.less.Goals as goal

pub returns-clause-order : goal.returns-clause-order
returns-clause-order c =
    less-order (bits c.args.self) (bits c.args.other) c.number.result c.number-2.result
    (length-bits_of c.args.self.len c.args.self.number ∙ c.requires.equal ∙ sym (length-bits_of c.args.other.len c.args.other.number))
    c.number.ensures.listed c.number-2.ensures.listed
