use Rattle.std.proofs.Common.{◌∙◌, ap, sym, subst, ◌≡◌, Some, slice_get, arith}
use Rattle.cf_model.specs.Assignments.{Assignment, bits}
use Rattle.cf_bits.proofs.AssignmentLaws.{get-bits_of}
use Rattle.cf_bits.proofs.Bits.get.Goals as goal

pub returns : goal.returns
returns c =
    subst (λ (a : Assignment). slice_get (bits a) c.args.i ≡ Some c.is_set.result) c.self.view_is
    (get-bits_of c.self.inside.len c.self.inside.word c.args.i (omega (arith, c.requires, ap (λ (a : Assignment). a.len) c.self.view_is)) ∙ ap Some (sym c.is_set.ensures))
