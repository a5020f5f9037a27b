use Rattle.std.proofs.Common.{◌≡◌, ◌<◌, Some, sym, ◌∙◌, ap, subst}
use Rattle.std.specs.List.{slice_get}
use mir.Syntax.{w128}
use Rattle.std.proofs.lemmas.Int.{to_z-of_z}
use Rattle.cf_model.specs.Assignments.{number_of, bits}
use Rattle.cf_model.specs.FlatFunctions.{IsLeast}
use Rattle.cf_table.specs.Groupings.{Groupings, exits_of, pattern_of}
use Rattle.cf_pkg.specs.Packages.{values_of}
use Rattle.cf_pkg.proofs.Meanings.{Known}
use Rattle.cf_witness.proofs.Values.{values_read, no_value, exit_in, least_value}
use Rattle.cf_witness.proofs.first_value.Goals as goal

pub returns-in_default-clause-none : goal.returns-in_default-clause-none
returns-in_default-clause-none c at assigns has =
    let p = c.args.pkg.now in
    let f = c.args.f in
    let values = c.get.result.now in
    let known : Known p f = record { owned = c.requires.owned; good = c.law.ensures.good; level = c.law.ensures.level; once = c.law.ensures.once; function = c.law.ensures.function } in
    let is : values_of p f ≡ values = values_read p f c.values.result.now values c.values.ensures c.get.ensures.list in
    no_value p f values c.args.v known is (λ i e. c.in_default.ensures i (e ∙ ap Some (sym (to_z-of_z w128 c.args.v c.ranges.v)))) at has

pub first_exit_uncounted-at-requires-clause-exit : goal.first_exit_uncounted-at-requires-clause-exit
first_exit_uncounted-at-requires-clause-exit c =
    let p = c.args.pkg.now in
    let f = c.args.f in
    let values = c.get.result.now in
    let is : values_of p f ≡ values = values_read p f c.values.result.now values c.values.ensures c.get.ensures.list in
    subst (λ (t : Groupings). c.in-Some.e < exits_of t f.head) (sym c.table.ensures) (exit_in p f values c.in-Some.e c.args.v c.requires.owned is (c.in-Some.ensures ∙ ap Some (to_z-of_z w128 c.args.v c.ranges.v)))

pub returns-clause-least : goal.returns-clause-least
returns-clause-least c =
    let p = c.args.pkg.now in
    let f = c.args.f in
    let values = c.get.result.now in
    let known : Known p f = record { owned = c.requires.owned; good = c.law.ensures.good; level = c.law.ensures.level; once = c.law.ensures.once; function = c.law.ensures.function } in
    let is : values_of p f ≡ values = values_read p f c.values.result.now values c.values.ensures c.get.ensures.list in
    let b = bits c.first_exit_uncounted-at.result in
    let least : IsLeast f.head.level (λ at. slice_get (pattern_of p.groupings f.head) (number_of at) ≡ Some c.in-Some.e) b =
    subst (λ (t : Groupings). IsLeast f.head.level (λ at. slice_get (pattern_of t f.head) (number_of at) ≡ Some c.in-Some.e) b) c.table.ensures c.first_exit_uncounted-at.ensures in
    least_value p f values c.in-Some.e c.args.v b known is (c.in-Some.ensures ∙ ap Some (to_z-of_z w128 c.args.v c.ranges.v)) least
