use Rattle.std.proofs.Common.{refl}
use Rattle.std.specs.List.{zip}
use Rattle.cf_model.specs.Diagrams.{pattern}
use Rattle.cf_pair.specs.Products.{pairs_at}
use Rattle.cf_pair.proofs.Constants.{put_canon}
use Rattle.cf_pair.proofs.TriplePlaces.{keeps_pairs}
use Rattle.cf_pair.proofs.tripling.pair_with_zero.Goals as goal

pub returns-clause-there : goal.returns-clause-there
returns-clause-there g c = c.in_ok-product.ensures.paired.there

pub returns-clause-paired : goal.returns-clause-paired
returns-clause-paired g c =
    let t = c.args.table.now.levels in
    let new = c.pair_groupings.new.table in
    put_canon c.args.place new.levels c.in_ok-product.product c.args.g.level (zip (pattern t c.args.g.level c.args.g.at) (pattern t c.args.h.level c.args.h.at)) (pairs_at new.products c.in_ok-product.pairs) _
    c.in_ok-product.ensures.paired.pairs refl

pub returns-clause-kept : goal.returns-clause-kept
returns-clause-kept g c =
    let q = c.in_ok-product.ensures in
    keeps_pairs c.args.table.now c.pair_groupings.new.table 0 q.charged.all (q.charged.kept refl) q.triples
