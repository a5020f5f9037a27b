use Rattle.std.proofs.lemmas.Option.{slice_get_within}
use Rattle.cf_table.specs.Groupings.{three_patterns_of}
use Rattle.cf_pair.proofs.TriplePlaces.{found_at}
use Rattle.cf_pair.proofs.tripling.kept_product.Goals as goal

pub triple_at-requires : goal.triple_at-requires
triple_at-requires c =
    let t = c.args.table.now in
    slice_get_within t.triples c.in-Some.place (three_patterns_of t.levels c.args.f c.args.g c.args.h) c.in-Some.ensures

pub returns-in-Some : goal.returns-in-Some
returns-in-Some c =
    let r = c.triple_at.result.now in
    found_at c.args.table.now c.args.f c.args.g c.args.h r.head c.in-Some.place r.triples.items c.in-Some.ensures c.triple_at.ensures
