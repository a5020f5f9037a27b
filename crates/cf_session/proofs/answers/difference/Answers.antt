use Rattle.std.proofs.Common.{ℤ, ◌≡◌, ◌∙◌, ap, Ok, Some}
use mir.Val.{to_z, of_z}
use Rattle.std.specs.Int.{w128}
use Rattle.std.proofs.lemmas.Int.{to_z-of_z}
use Rattle.cf_reference.specs.Replies.{different_reply}
use Rattle.cf_model.specs.Assignments.{bits}
use Rattle.cf_model.specs.FlatFunctions.{IsLeast, value_at}
use Rattle.cf_witness.specs.Separating.{Differ}
use Rattle.cf_pkg.specs.Packages.{meaning}
use Rattle.cf_session.proofs.AnswerFacts.{flat-fits, read-some, different-answer, equal-everywhere}
use Rattle.cf_session.proofs.answers.difference.Goals as goal

pub returns-in-Some-clause-answer : goal.returns-in-Some-clause-answer
returns-in-Some-clause-answer c =
    let p = c.args.pkg.now in
    let f = meaning p c.args.f in
    let g = meaning p c.args.g in
    let s = c.in-Some.found in
    let both = read-some c.in_ok-found.field-0 s (λ s. (value_at f (bits s.0) ≡ Some s.1) × (value_at g (bits s.0) ≡ Some s.2)) c.in-Some.is c.in_ok-found.ensures.values in
    let v_is = to_z-of_z w128 s.1 (flat-fits f (bits s.0) s.1 c.requires.first both.0) in
    let w_is = to_z-of_z w128 s.2 (flat-fits g (bits s.0) s.2 c.requires.second both.1) in
    c.different_text.ensures
    ∙ ap (λ (z : ℤ). different_reply (bits s.0) z (to_z w128 (of_z w128 s.2))) v_is
    ∙ ap (λ (z : ℤ). different_reply (bits s.0) s.1 z) w_is
    ∙ different-answer f g (bits s.0) s.1 s.2 c.requires.first c.requires.second c.requires.level.level
    (read-some c.in_ok-found.field-0 s (λ s. IsLeast c.args.f.head.level (Differ p c.args.f c.args.g) (bits s.0)) c.in-Some.is c.in_ok-found.ensures.least) both.0 both.1

pub returns-in-None-clause-answer : goal.returns-in-None-clause-answer
returns-in-None-clause-answer c =
    c.equal_text.ensures ∙ equal-everywhere (meaning c.args.pkg.now c.args.f) (meaning c.args.pkg.now c.args.g) (c.separate.ensures.none.0 (c.in_ok-found.was ∙ ap Ok c.in-None.is))
