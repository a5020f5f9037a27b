use Rattle.std.proofs.Common.{◌<◌, ◌+◌, ◌*◌, ◌^◌, arith}
use Rattle.cf_pkg.proofs.Firsts.{first_base, joined, joined_fits, found}
use Rattle.cf_pkg.proofs.least_assignment.+least_number.Goals as goal

pub returns-then-g-eq0-clause-first : goal.returns-then-g-eq0-clause-first
returns-then-g-eq0-clause-first g t c = first_base c.args.table.now.levels c.law.ensures.good c.args.g.level c.args.g.at c.args.e c.if-g-eq0.true c.requires.owned c.requires.exit

pub overflow_mul-result : goal.overflow_mul-result
overflow_mul-result g t c =
    let h : c.assignments-half.result * c.least_number-first.result + c.least_number-second.result < 2 ^ 128
    = joined_fits c.args.g.level c.a_of-a.result.level c.assignments-half.result c.least_number-first.result c.least_number-second.result c.b_of-b.result.«to».level c.a_of-a.ensures.level c.b_of-b.ensures.level c.assignments-half.ensures.is c.assignments-half.ensures.most c.least_number-first.ensures.within c.least_number-second.ensures.within in
    omega (arith, h)

pub overflow_add-result : goal.overflow_add-result
overflow_add-result g t c =
    let h : c.assignments-half.result * c.least_number-first.result + c.least_number-second.result < 2 ^ 128
    = joined_fits c.args.g.level c.a_of-a.result.level c.assignments-half.result c.least_number-first.result c.least_number-second.result c.b_of-b.result.«to».level c.a_of-a.ensures.level c.b_of-b.ensures.level c.assignments-half.ensures.is c.assignments-half.ensures.most c.least_number-first.ensures.within c.least_number-second.ensures.within in
    omega (arith, h)

pub returns-clause-first : goal.returns-clause-first
returns-clause-first g t c =
    found c.args.table.now c.law.ensures.good c.args.g c.a_of-a.result c.b_of-b.result c.args.e c.first_of-middle.result.0 c.first_of-middle.result.1 c.least_number-first.result c.least_number-second.result c.assignments-half.result
    c.a_of-a.ensures.level c.b_of-b.ensures.level c.assignments-half.ensures.is c.requires.owned c.first_of-middle.ensures.first c.a_of-a.ensures.callee c.b_of-b.ensures.connection c.least_number-first.ensures.first c.least_number-second.ensures.first

pub returns-clause-within : goal.returns-clause-within
returns-clause-within g t c = joined c.args.g.level c.a_of-a.result.level c.assignments-half.result c.least_number-first.result c.least_number-second.result c.b_of-b.result.«to».level c.a_of-a.ensures.level c.b_of-b.ensures.level c.assignments-half.ensures.is c.least_number-first.ensures.within c.least_number-second.ensures.within
