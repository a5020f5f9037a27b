use Rattle.std.proofs.Common.{◌≡◌, ◌^◌, ℕ, ℤ, List, Bool, map, take, filter, ◌∙◌, ap}
use mir.Syntax.{w128}
use Rattle.std.proofs.lemmas.Int.{to_z-of_z}
use Rattle.std.specs.Ordering.{int_eq}
use Rattle.cf_model.specs.Assignments.{bits, all_bits}
use Rattle.cf_table.specs.Groupings.{Groupings, pattern_of}
use Rattle.cf_pkg.specs.Packages.{values_of, meaning}
use Rattle.cf_pkg.proofs.Meanings.{Known}
use Rattle.cf_witness.specs.Nexts.{leads}
use Rattle.cf_witness.specs.Witnesses.{assignments_of}
use Rattle.cf_witness.proofs.Values.{values_read, marked_are}
use Rattle.cf_witness.proofs.listing.Listing.new.Goals as goal

pub returns : goal.returns
returns c =
    let p = c.args.pkg.now in
    let f = c.args.f in
    let v = c.args.v in
    let values = c.get.result.now in
    let known : Known p f = record { owned = c.requires.owned; good = c.law.ensures.good; level = c.law.ensures.level; once = c.law.ensures.once; function = c.law.ensures.function } in
    let is : values_of p f ≡ values = values_read p f c.values.result.now values c.values.ensures c.get.ensures.list in
    let marks : c.as_slice.result.now ≡ map (λ w. int_eq w v) values = c.as_slice.ensures.value ∙ c.in_ok-marks.ensures ∙ ap (λ (x : ℤ). map (λ w. int_eq w x) values) (to_z-of_z w128 v c.ranges.v) in
    record {
      listed = ap (map bits) c.into_iter.ensures.rest ∙ c.in_ok-found.ensures
          ∙ ap (λ (t : Groupings). take c.from.result (filter (leads (pattern_of t f.head) c.as_slice.result.now) (all_bits (2 ^ f.head.level)))) c.table.ensures
          ∙ ap (λ (m : List Bool). take c.from.result (filter (leads (pattern_of p.groupings f.head) m) (all_bits (2 ^ f.head.level)))) marks
          ∙ ap (take c.from.result) (marked_are p f values v known is)
          ∙ ap (λ (n : ℕ). take n (assignments_of (meaning p f) v)) c.from.ensures;
    }
