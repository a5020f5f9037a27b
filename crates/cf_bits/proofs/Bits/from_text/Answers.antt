use Rattle.std.proofs.Common.{◌∙◌, ◌==◌, Some, ap, sym, arith, length, map}
use Rattle.std.proofs.lemmas.List.{length-map}
use Rattle.cf_model.specs.Assignments.{Assignment, bits_of, number_of}
use Rattle.cf_bits.proofs.AssignmentLaws.{bits_of-number_at}
use Rattle.cf_model.proofs.AssignmentLaws.{number_of-bits_of}
use Rattle.cf_bits.proofs.Digits.{spelled}
use Rattle.cf_bits.proofs.Bits.from_text.Goals as goal

pub returns-clause-spelled : goal.returns-clause-spelled
returns-clause-spelled c =
    let text = c.args.text.now in
    ap Some (
    c.new.ensures.listed
    ∙ ap (λ n. bits_of (length text) n) c.number_spelled.ensures.number
    ∙ bits_of-number_at (length text) (map (λ b. b == 49) text) (sym (length-map text (λ b. b == 49))))
    ∙ sym (spelled text c.if-is_empty.ensures (omega arith) c.if-not-are_binary.ensures)

pub returns-clause-number : goal.returns-clause-number
returns-clause-number c =
    ap (λ (a : Assignment). a.number) c.new.ensures.parts
    ∙ sym (number_of-bits_of (length c.args.text.now) c.number_spelled.result c.number_spelled.ensures.below)
    ∙ ap number_of (sym c.new.ensures.listed)
