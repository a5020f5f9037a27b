use Rattle.std.proofs.lemmas.Option.{slice_get_within}
use Rattle.cf_table.specs.Groupings.{patterns_of}
use Rattle.cf_pair.proofs.PairPlaces.{found_at}
use Rattle.cf_pair.proofs.pairing.known_product.Goals as goal

pub returns-in-Some : goal.returns-in-Some
returns-in-Some c = record { there = tt; pairs = c.in-Some.ensures }

pub product_at-requires : goal.product_at-requires
product_at-requires c =
    let t = c.args.table.now in
    slice_get_within t.products c.in-Some-place_of_product.place (patterns_of t.levels c.args.g c.args.h) c.in-Some-place_of_product.ensures

pub returns-in-Some-place_of_product : goal.returns-in-Some-place_of_product
returns-in-Some-place_of_product c =
    let r = c.product_at.result.now in
    found_at c.args.table.now c.args.g c.args.h r.head c.in-Some-place_of_product.place r.pairs.items c.in-Some-place_of_product.ensures c.product_at.ensures
