use Rattle.cf_build.proofs.Turns.{if_ok2}
use Rattle.cf_pair.specs.Triples.{triples_at}
use Rattle.cf_pair.proofs.Constants.{AtLevel, tripled_first, tripled_second, tripled_third}
use Rattle.cf_pair.proofs.tripling.beside_constant.Goals as goal

pub returns-in-First-clause-tripled : goal.returns-in-First-clause-tripled
returns-in-First-clause-tripled g c =
    let a : AtLevel c.args.table.now.levels c.args.f c.args.g c.args.h = record { good = c.requires.good; second_level = c.requires.second_level; third_level = c.requires.third_level; first = c.requires.first; second = c.requires.second; third = c.requires.third } in
    if_ok2 c.pair_with_zero.result _ _ _ c.pair_with_zero.ensures.there c.pair_with_zero.ensures.paired
    (λ r p h. record { there = p; triples = tripled_first c.args.table.now.levels c.pair_with_zero.new.table.levels c.args.place c.args.f c.args.g c.args.h r.0 (triples_at c.pair_with_zero.new.table r.1) a c.in-First.is c.requires.constant h })

pub returns-in-Second-clause-tripled : goal.returns-in-Second-clause-tripled
returns-in-Second-clause-tripled g c =
    let a : AtLevel c.args.table.now.levels c.args.f c.args.g c.args.h = record { good = c.requires.good; second_level = c.requires.second_level; third_level = c.requires.third_level; first = c.requires.first; second = c.requires.second; third = c.requires.third } in
    if_ok2 c.pair_with_zero-in-Second.result _ _ _ c.pair_with_zero-in-Second.ensures.there c.pair_with_zero-in-Second.ensures.paired
    (λ r p h. record { there = p; triples = tripled_second c.args.table.now.levels c.pair_with_zero-in-Second.new.table.levels c.args.place c.args.f c.args.g c.args.h r.0 (triples_at c.pair_with_zero-in-Second.new.table r.1) a c.in-Second.is c.requires.constant h })

pub returns-in-Third-clause-tripled : goal.returns-in-Third-clause-tripled
returns-in-Third-clause-tripled g c =
    let a : AtLevel c.args.table.now.levels c.args.f c.args.g c.args.h = record { good = c.requires.good; second_level = c.requires.second_level; third_level = c.requires.third_level; first = c.requires.first; second = c.requires.second; third = c.requires.third } in
    if_ok2 c.pair_with_zero-in-Third.result _ _ _ c.pair_with_zero-in-Third.ensures.there c.pair_with_zero-in-Third.ensures.paired
    (λ r p h. record { there = p; triples = tripled_third c.args.table.now.levels c.pair_with_zero-in-Third.new.table.levels c.args.place c.args.f c.args.g c.args.h r.0 (triples_at c.pair_with_zero-in-Third.new.table r.1) a c.in-Third.is c.requires.constant h })
