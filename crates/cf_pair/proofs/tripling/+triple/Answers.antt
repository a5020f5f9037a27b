use Rattle.std.proofs.Common.{rules, refl, suc, ◌≡◌, ℕ, ◌<◌, ◌≤◌, ◌+◌, ◌*◌, ◌-◌, List, length, sym, ap, ◌∙◌, subst, arith, get_or}
use Rattle.cf_model.specs.Patterns.{sub}
use Rattle.cf_model.specs.Diagrams.{Node, connection_at, count, node, row, pattern}
use Rattle.cf_model.proofs.Canonicity.{level_holds}
use Rattle.cf_model.proofs.Growing.{exits_kept}
use Rattle.cf_table.specs.Groupings.{connection_of}
use Rattle.cf_table.specs.Goodness.{IsGoodOver}
use Rattle.cf_build.specs.Assembling.{Rowed, IsRow, AddsOnly}
use Rattle.cf_build.proofs.Turns.{if_ok2}
use Rattle.cf_table.specs.Triples.{zip3}
use Rattle.cf_pair.specs.Products.{triple_word, Lists, ListEach, AddsOnlyIn}
use Rattle.cf_pair.proofs.Rows.{listed_more, listed_none}
use Rattle.cf_pair.proofs.Pairs.{read_good, read_row}
use Rattle.cf_pair.proofs.Triples.{TripleCall, call_range, assembly3}
use Rattle.cf_model.specs.Diagrams.{Levels}
use Rattle.std.proofs.lemmas.Result.{on_ok_weaker}
use Rattle.cf_pair.proofs.Pushing.{on_ok_always}
use Rattle.cf_pair.specs.Triples.{triples_at, IsNewTriple}
use Rattle.cf_pair.proofs.TriplePlaces.{triple_read, triple_has, kept_at, keeps_all, keeps_then, keeps_weaker, keeps_one, still_new}
use Rattle.cf_table.proofs.Told.{none_of}
use Rattle.cf_pair.proofs.Zips.{Three}
use Rattle.cf_pair.proofs.Keeping.{good_over_kept, canon3_kept, is_triple, returned_added}
use Rattle.cf_pair.proofs.tripling.+triple.Goals as goal

pub triple_rows-b_of-x-requires-clause-middle : goal.triple_rows-b_of-x-requires-clause-middle
triple_rows-b_of-x-requires-clause-middle g t c =
    let old = c.args.table.now in
    let now = c.loop-i.table in
    let m = c.triple-middle.result in
    let in_ =
    triple_has (Three (length (node old.levels c.args.f.level c.args.f.at).connections) (length (node old.levels c.args.g.level c.args.g.at).connections) (length (node old.levels c.args.h.level c.args.h.at).connections))
    old now c.args.f.level c.args.middles c.requires.place c.loop-i.invariant.kept c.requires.middles c.loop-i.i (omega (arith, c.loop-i-test.true, c.len-i-end.ensures)) m c.triple-middle.ensures in
    omega (arith, in_.0, ap (λ (d : Node). length d.connections) (c.loop-i.invariant.listed.extends.kept c.args.f.level c.args.f.at c.requires.first))

pub triple_rows-b_of-y-requires-clause-middle : goal.triple_rows-b_of-y-requires-clause-middle
triple_rows-b_of-y-requires-clause-middle g t c =
    let old = c.args.table.now in
    let now = c.loop-i.table in
    let m = c.triple-middle.result in
    let in_ =
    triple_has (Three (length (node old.levels c.args.f.level c.args.f.at).connections) (length (node old.levels c.args.g.level c.args.g.at).connections) (length (node old.levels c.args.h.level c.args.h.at).connections))
    old now c.args.f.level c.args.middles c.requires.place c.loop-i.invariant.kept c.requires.middles c.loop-i.i (omega (arith, c.loop-i-test.true, c.len-i-end.ensures)) m c.triple-middle.ensures in
    omega (arith, in_.1, ap (λ (d : Node). length d.connections) (c.loop-i.invariant.listed.extends.kept c.args.g.level c.args.g.at c.requires.second))

pub triple_rows-b_of-z-requires-clause-middle : goal.triple_rows-b_of-z-requires-clause-middle
triple_rows-b_of-z-requires-clause-middle g t c =
    let old = c.args.table.now in
    let now = c.loop-i.table in
    let m = c.triple-middle.result in
    let in_ =
    triple_has (Three (length (node old.levels c.args.f.level c.args.f.at).connections) (length (node old.levels c.args.g.level c.args.g.at).connections) (length (node old.levels c.args.h.level c.args.h.at).connections))
    old now c.args.f.level c.args.middles c.requires.place c.loop-i.invariant.kept c.requires.middles c.loop-i.i (omega (arith, c.loop-i-test.true, c.len-i-end.ensures)) m c.triple-middle.ensures in
    omega (arith, in_.2, ap (λ (d : Node). length d.connections) (c.loop-i.invariant.listed.extends.kept c.args.h.level c.args.h.at c.requires.third))

pub triple_rows-triple_row-requires : goal.triple_rows-triple_row-requires
triple_rows-triple_row-requires g t c κs within =
    let old = c.args.table.now in
    let now = c.loop-i.table in
    let ext = c.loop-i.invariant.listed.extends in
    let k = c.args.f.level in
    let l = k - 1 in
    let m = c.triple-middle.result in
    let in_ =
    triple_has (Three (length (node old.levels c.args.f.level c.args.f.at).connections) (length (node old.levels c.args.g.level c.args.g.at).connections) (length (node old.levels c.args.h.level c.args.h.at).connections))
    old now c.args.f.level c.args.middles c.requires.place c.loop-i.invariant.kept c.requires.middles c.loop-i.i (omega (arith, c.loop-i-test.true, c.len-i-end.ensures)) m c.triple-middle.ensures in
    let x = c.b_of-x.result in
    let y = c.b_of-y.result in
    let z = c.b_of-z.result in
    let below : l + 1 ≡ k = omega (arith, c.requires.above) in
    let below_g : l + 1 ≡ c.args.g.level = omega (arith, below, c.requires.second_level) in
    let below_h : l + 1 ≡ c.args.h.level = omega (arith, below, c.requires.third_level) in
    let lev : x.«to».level ≡ l = omega (arith, c.b_of-x.ensures.level) in
    let gx : IsGoodOver now l x = read_good old now c.loop-i.invariant.listed.good ext k l c.args.f.at m.0 below c.requires.first in_.0 x c.b_of-x.ensures.level c.b_of-x.ensures.connection c.b_of-x.ensures.tuple in
    let gy : IsGoodOver now l y = read_good old now c.loop-i.invariant.listed.good ext c.args.g.level l c.args.g.at m.1 below_g c.requires.second in_.1 y c.b_of-y.ensures.level c.b_of-y.ensures.connection c.b_of-y.ensures.tuple in
    let gz : IsGoodOver now l z = read_good old now c.loop-i.invariant.listed.good ext c.args.h.level l c.args.h.at m.2 below_h c.requires.third in_.2 z c.b_of-z.ensures.level c.b_of-z.ensures.connection c.b_of-z.ensures.tuple in
    let six : x.«to».level ≤ 6 = omega (arith, lev, c.requires.level) in
    let fx : IsGoodOver now x.«to».level x = subst (λ (i : ℕ). IsGoodOver now i x) (sym lev) gx in
    let fy : IsGoodOver now x.«to».level y = subst (λ (i : ℕ). IsGoodOver now i y) (sym lev) gy in
    let fz : IsGoodOver now x.«to».level z = subst (λ (i : ℕ). IsGoodOver now i z) (sym lev) gz in
    let falls : 4 * x.«to».level + 1 < 4 * k - 2 = omega (arith, lev, c.requires.above) in
    search rules

pub triple_rows-loop-i-preserved : goal.triple_rows-loop-i-preserved
triple_rows-loop-i-preserved g t c =
    let old = c.args.table.now in
    let now = c.loop-i.table in
    let ext = c.loop-i.invariant.listed.extends in
    let k = c.args.f.level in
    let l = k - 1 in
    let m = c.triple-middle.result in
    let in_ =
    triple_has (Three (length (node old.levels c.args.f.level c.args.f.at).connections) (length (node old.levels c.args.g.level c.args.g.at).connections) (length (node old.levels c.args.h.level c.args.h.at).connections))
    old now c.args.f.level c.args.middles c.requires.place c.loop-i.invariant.kept c.requires.middles c.loop-i.i (omega (arith, c.loop-i-test.true, c.len-i-end.ensures)) m c.triple-middle.ensures in
    let x = c.b_of-x.result in
    let y = c.b_of-y.result in
    let z = c.b_of-z.result in
    let below : l + 1 ≡ k = omega (arith, c.requires.above) in
    let below_g : l + 1 ≡ c.args.g.level = omega (arith, below, c.requires.second_level) in
    let below_h : l + 1 ≡ c.args.h.level = omega (arith, below, c.requires.third_level) in
    let lev : x.«to».level ≡ l = omega (arith, c.b_of-x.ensures.level) in
    let new = c.triple_row.new.table in
    let ex = read_row old now c.requires.good ext k l c.args.f.at m.0 below c.requires.first in_.0 x c.b_of-x.ensures.connection in
    let ey = read_row old now c.requires.good ext c.args.g.level l c.args.g.at m.1 below_g c.requires.second in_.1 y c.b_of-y.ensures.connection in
    let ez = read_row old now c.requires.good ext c.args.h.level l c.args.h.at m.2 below_h c.requires.third in_.2 z c.b_of-z.ensures.connection in
    let gained = c.in_ok-triple_row.ensures.row in
    let r = gained.row in
    let rx = row (pattern now.levels l) (connection_of now.tuples x) in
    let ry = row (pattern now.levels l) (connection_of now.tuples y) in
    let rz = row (pattern now.levels l) (connection_of now.tuples z) in
    let wx = row (pattern old.levels l) (connection_at (node old.levels k c.args.f.at).connections m.0) in
    let wy = row (pattern old.levels l) (connection_at (node old.levels c.args.g.level c.args.g.at).connections m.1) in
    let lists : Lists new.levels l (zip3 rx ry rz) r =
    subst (λ (i : ℕ). Lists new.levels i (zip3 (row (pattern now.levels i) (connection_of now.tuples x)) (row (pattern now.levels i) (connection_of now.tuples y)) (row (pattern now.levels i) (connection_of now.tuples z))) r) lev gained.is_asked.lists in
    let word = triple_word (pattern old.levels l) (node old.levels k c.args.f.at).connections (node old.levels c.args.g.level c.args.g.at).connections (node old.levels c.args.h.level c.args.h.at).connections in
    let wanted : Lists new.levels l (word m) r =
    subst (λ (v : List (ℕ × ℕ × ℕ)). Lists new.levels l v r) (ap (λ (v : List ℕ). zip3 v ry rz) ex ∙ ap (λ (v : List ℕ). zip3 wx v rz) ey ∙ ap (λ (v : List ℕ). zip3 wx wy v) ez) lists in
    let here : Lists new.levels l (word (get_or (triples_at old c.args.middles) c.loop-i.i (0, 0, 0))) r = subst (λ (t : ℕ × ℕ × ℕ). Lists new.levels l (word t) r) (triple_read old now k c.args.middles c.requires.place c.loop-i.invariant.kept c.loop-i.i m c.triple-middle.ensures) wanted in
    let added : AddsOnly now.levels new.levels (sub l (pattern new.levels l r.0.at)) = subst (λ (i : ℕ). AddsOnly now.levels new.levels (sub i (pattern new.levels i r.0.at))) lev gained.is_asked.added in
    record {
      listed = listed_more old now new l (λ i. word (get_or (triples_at old c.args.middles) i (0, 0, 0))) c.loop-i.i c.loop-i.rows.rows c.triple_row.new.rows.rows r c.loop-i.invariant.listed here added
          c.in_ok-triple_row.ensures.good c.in_ok-triple_row.ensures.extends c.in_ok-triple_row.ensures.longer (ap (λ (s : Rowed (ℕ × ℕ × ℕ)). s.rows) gained.is_last);
      ended = ap (λ (s : Rowed (ℕ × ℕ × ℕ)). s.begun) gained.is_last;
      kept = keeps_then old now new k (suc x.«to».level) k (omega arith) (omega (arith, lev, below)) c.loop-i.invariant.kept c.in_ok-triple_row.ensures.kept;
    }

pub triple_rows-loop-i-init : goal.triple_rows-loop-i-init
triple_rows-loop-i-init g t c =
    let none = c.requires.none in
    record {
      listed = listed_none _ _ _ _ c.requires.good (ap (λ (s : Rowed (ℕ × ℕ × ℕ)). s.rows) none);
      ended = ap (λ (s : Rowed (ℕ × ℕ × ℕ)). s.begun) none;
      kept = keeps_all _ _ _ refl refl;
    }

pub triple_parts-triple_rows-requires : goal.triple_parts-triple_rows-requires
triple_parts-triple_rows-requires g t c κs within =
    let old = c.args.table.now.levels in
    let new = c.triple_groupings.new.table.levels in
    let ms = triples_at c.triple_groupings.new.table c.in_ok-callee.middles in
    let e = c.in_ok-callee.callee in
    let w : TripleCall old new c.args.f c.args.g c.args.h c.a_of-a.result c.a_of-b.result c.a_of-c.result e ms = record {
      good = c.requires.good;
      positive = λ e. omega (arith, e, c.requires.above);
      second_level = c.requires.second_level;
      third_level = c.requires.third_level;
      first = c.requires.first;
      second = c.requires.second;
      third = c.requires.third;
      a_level = c.a_of-a.ensures.level;
      a_is = c.a_of-a.ensures.callee;
      b_level = c.a_of-b.ensures.level;
      b_is = c.a_of-b.ensures.callee;
      c_level = c.a_of-c.ensures.level;
      c_is = c.a_of-c.ensures.callee;
      good1 = c.in_ok-callee.ensures.good;
      extends1 = c.in_ok-callee.ensures.extends;
      canon = c.in_ok-callee.ensures.tripled.triples;
    } in
    let k = c.args.f.level in
    let x = c.in_ok-callee.ensures.extends in
    let positive : 1 ≤ k = c.requires.above in
    let all = call_range old new c.args.f c.args.g c.args.h c.a_of-a.result c.a_of-b.result c.a_of-c.result e ms w in
    let fu : c.args.f.at < count new k = omega (arith, c.requires.first, x.more k) in
    let gu : c.args.g.at < count new c.args.g.level = omega (arith, c.requires.second, x.more c.args.g.level) in
    let hu : c.args.h.at < count new c.args.h.level = omega (arith, c.requires.third, x.more c.args.h.level) in
    let falls : 4 * k - 2 < 4 * k - 1 = omega (arith, positive) in
    search rules

pub triple_parts-assemble_rows-requires-clause-middles : goal.triple_parts-assemble_rows-requires-clause-middles
triple_parts-assemble_rows-requires-clause-middles g t c =
    let new = c.triple_groupings.new.table.levels in
    let e = c.in_ok-callee.callee in
    let p = c.in_ok-callee.ensures.tripled.triples in
    c.in_ok-triple_rows.ensures.rows.long ∙ sym p.canon.reached
    ∙ (level_holds new c.in_ok-callee.ensures.good e.level).reaches e.at p.there ∙ sym (exits_kept new c.triple_rows.new.table.levels c.in_ok-triple_rows.ensures.extends e.level e.at p.there)

pub triple_parts-assemble_rows-requires-clause-rows : goal.triple_parts-assemble_rows-requires-clause-rows
triple_parts-assemble_rows-requires-clause-rows g t c k d lk =
    let v = c.triple_rows.new.table.levels in
    let w = c.in_ok-triple_rows.ensures.rows in
    let r = (w.each k d (omega (arith, lk, w.long))).is_row in
    let lev : c.args.f.level - 1 ≡ c.in_ok-callee.callee.level = omega (arith, c.in_ok-callee.ensures.tripled.triples.level, c.a_of-a.ensures.level) in
    subst (λ (l : ℕ). IsRow v l (get_or c.triple_rows.new.rows.rows k d)) lev r

pub triple_parts-returns-clause-tripled : goal.triple_parts-returns-clause-tripled
triple_parts-returns-clause-tripled g t c =
    let old = c.args.table.now.levels in
    let new = c.triple_groupings.new.table.levels in
    let ms = triples_at c.triple_groupings.new.table c.in_ok-callee.middles in
    let e = c.in_ok-callee.callee in
    let w : TripleCall old new c.args.f c.args.g c.args.h c.a_of-a.result c.a_of-b.result c.a_of-c.result e ms = record {
      good = c.requires.good;
      positive = λ e. omega (arith, e, c.requires.above);
      second_level = c.requires.second_level;
      third_level = c.requires.third_level;
      first = c.requires.first;
      second = c.requires.second;
      third = c.requires.third;
      a_level = c.a_of-a.ensures.level;
      a_is = c.a_of-a.ensures.callee;
      b_level = c.a_of-b.ensures.level;
      b_is = c.a_of-b.ensures.callee;
      c_level = c.a_of-c.ensures.level;
      c_is = c.a_of-c.ensures.callee;
      good1 = c.in_ok-callee.ensures.good;
      extends1 = c.in_ok-callee.ensures.extends;
      canon = c.in_ok-callee.ensures.tripled.triples;
    } in
    let v = c.triple_rows.new.table.levels in
    let rows = c.triple_rows.new.rows.rows in
    let l = c.args.f.level - 1 in
    let listed : ListEach v l (λ i. triple_word (pattern new l) (node new c.args.f.level c.args.f.at).connections (node new c.args.g.level c.args.g.at).connections (node new c.args.h.level c.args.h.at).connections (get_or ms i (0, 0, 0))) (length ms) rows = c.in_ok-triple_rows.ensures.rows in
    let added : AddsOnlyIn new v l rows = c.in_ok-triple_rows.ensures.added in
    if_ok2 c.assemble_rows.result _ _ _ c.assemble_rows.ensures.assembled c.assemble_rows.ensures.added
    (λ r s x. (assembly3 old new v c.assemble_rows.new.table.levels c.args.f c.args.g c.args.h c.a_of-a.result c.a_of-b.result c.a_of-c.result e ms rows r.0 r.1.items w c.in_ok-triple_rows.ensures.good c.in_ok-triple_rows.ensures.extends listed c.assemble_rows.ensures.good c.assemble_rows.ensures.kept s c.in_ok-callee.ensures.added added x).0)

pub triple_parts-returns-clause-added : goal.triple_parts-returns-clause-added
triple_parts-returns-clause-added g t c =
    let old = c.args.table.now.levels in
    let new = c.triple_groupings.new.table.levels in
    let ms = triples_at c.triple_groupings.new.table c.in_ok-callee.middles in
    let e = c.in_ok-callee.callee in
    let w : TripleCall old new c.args.f c.args.g c.args.h c.a_of-a.result c.a_of-b.result c.a_of-c.result e ms = record {
      good = c.requires.good;
      positive = λ e. omega (arith, e, c.requires.above);
      second_level = c.requires.second_level;
      third_level = c.requires.third_level;
      first = c.requires.first;
      second = c.requires.second;
      third = c.requires.third;
      a_level = c.a_of-a.ensures.level;
      a_is = c.a_of-a.ensures.callee;
      b_level = c.a_of-b.ensures.level;
      b_is = c.a_of-b.ensures.callee;
      c_level = c.a_of-c.ensures.level;
      c_is = c.a_of-c.ensures.callee;
      good1 = c.in_ok-callee.ensures.good;
      extends1 = c.in_ok-callee.ensures.extends;
      canon = c.in_ok-callee.ensures.tripled.triples;
    } in
    let v = c.triple_rows.new.table.levels in
    let rows = c.triple_rows.new.rows.rows in
    let l = c.args.f.level - 1 in
    let listed : ListEach v l (λ i. triple_word (pattern new l) (node new c.args.f.level c.args.f.at).connections (node new c.args.g.level c.args.g.at).connections (node new c.args.h.level c.args.h.at).connections (get_or ms i (0, 0, 0))) (length ms) rows = c.in_ok-triple_rows.ensures.rows in
    let added : AddsOnlyIn new v l rows = c.in_ok-triple_rows.ensures.added in
    if_ok2 c.assemble_rows.result _ _ _ c.assemble_rows.ensures.assembled c.assemble_rows.ensures.added
    (λ r s x. (assembly3 old new v c.assemble_rows.new.table.levels c.args.f c.args.g c.args.h c.a_of-a.result c.a_of-b.result c.a_of-c.result e ms rows r.0 r.1.items w c.in_ok-triple_rows.ensures.good c.in_ok-triple_rows.ensures.extends listed c.assemble_rows.ensures.good c.assemble_rows.ensures.kept s c.in_ok-callee.ensures.added added x).1)

pub triple_parts-returns-clause-kept : goal.triple_parts-returns-clause-kept
triple_parts-returns-clause-kept g t c =
    let old = c.args.table.now in
    let u = c.triple_groupings.new.table in
    let v = c.triple_rows.new.table in
    let w = c.assemble_rows.new.table in
    let k = c.args.f.level in
    let rows = keeps_then old u v (suc c.a_of-a.result.level) k k (omega (arith, c.a_of-a.ensures.level)) (omega arith) c.in_ok-callee.ensures.kept c.in_ok-triple_rows.ensures.kept in
    on_ok_always c.assemble_rows.result (keeps_then old v w k k k (omega arith) (omega arith) rows (keeps_all v w k c.assemble_rows.ensures.products c.assemble_rows.ensures.triples))

pub triple_groupings-returns-then-f-eq0-clause-kept : goal.triple_groupings-returns-then-f-eq0-clause-kept
triple_groupings-returns-then-f-eq0-clause-kept g t c = keeps_all _ _ _ refl refl

pub triple_groupings-returns-in-Some-clause-kept : goal.triple_groupings-returns-in-Some-clause-kept
triple_groupings-returns-in-Some-clause-kept g t c =
    on_ok_weaker c.beside_constant.result (keeps_weaker c.args.table.now c.beside_constant.new.table 0 (suc c.args.f.level) (omega arith)) c.beside_constant.ensures.kept

pub triple_groupings-returns-in-Some-kept_product-clause-kept : goal.triple_groupings-returns-in-Some-kept_product-clause-kept
triple_groupings-returns-in-Some-kept_product-clause-kept g t c = keeps_all _ _ _ refl refl

pub triple_groupings-keep_triple-requires-clause-product : goal.triple_groupings-keep_triple-requires-clause-product
triple_groupings-keep_triple-requires-clause-product g t c =
    let q = c.in_ok-head.ensures in
    is_triple c.args.table.now.levels c.triple_parts.new.table.levels c.requires.good q.extends c.args.f c.args.g c.args.h c.in_ok-head.head c.in_ok-head.triples.items c.requires.first c.requires.second c.requires.third q.tripled

pub triple_groupings-keep_triple-requires-clause-new : goal.triple_groupings-keep_triple-requires-clause-new
triple_groupings-keep_triple-requires-clause-new g t c =
    let q = c.in_ok-head.ensures in
    let unknown : IsNewTriple c.args.table.now c.args.f c.args.g c.args.h = none_of c.kept_product.result _ _ c.in_default-kept_product.not-Some c.kept_product.ensures in
    still_new c.args.table.now c.triple_parts.new.table c.requires.good q.extends c.args.f c.args.g c.args.h c.requires.first c.requires.second c.requires.third unknown q.kept

pub triple_groupings-returns-clause-tripled : goal.triple_groupings-returns-clause-tripled
triple_groupings-returns-clause-tripled g t c =
    let q = c.in_ok-head.ensures in
    let k = c.in_ok-place.ensures in
    kept_at c.args.table.now c.triple_parts.new.table c.keep_triple.new.self c.requires.good q.extends c.args.f c.args.g c.args.h c.in_ok-head.head c.in_ok-place.place c.in_ok-head.triples.items c.requires.first c.requires.second c.requires.third k.levels k.kept k.place q.tripled

pub triple_groupings-returns-clause-added : goal.triple_groupings-returns-clause-added
triple_groupings-returns-clause-added g t c =
    subst (λ (u : Levels). AddsOnly c.args.table.now.levels u (sub c.in_ok-head.head.level (pattern u c.in_ok-head.head.level c.in_ok-head.head.at))) (sym c.in_ok-place.ensures.levels) c.in_ok-head.ensures.added

pub triple_groupings-returns-clause-kept : goal.triple_groupings-returns-clause-kept
triple_groupings-returns-clause-kept g t c =
    let k = c.in_ok-place.ensures in
    keeps_one c.args.table.now c.triple_parts.new.table c.keep_triple.new.self c.args.f c.args.g c.args.h c.in_ok-head.ensures.kept k.products k.kept

pub triple_row-push_returned-requires : goal.triple_row-push_returned-requires
triple_row-push_returned-requires g t c =
    let own_y : c.args.y.«to».at < count c.args.table.now.levels c.args.y.«to».level = subst (λ (m : ℕ). c.args.y.«to».at < count c.args.table.now.levels m) (sym c.requires.second.over.level) c.requires.second.good.callee_exists in
    let own_z : c.args.z.«to».at < count c.args.table.now.levels c.args.z.«to».level = subst (λ (m : ℕ). c.args.z.«to».at < count c.args.table.now.levels m) (sym c.requires.third.over.level) c.requires.third.good.callee_exists in
    let old = c.args.table.now in
    let new = c.triple_groupings.new.table in
    let q = c.in_ok-to.ensures in
    record {
      good = q.good;
      first = good_over_kept old new q.extends q.longer c.args.x.«to».level c.args.x c.requires.first;
      second = good_over_kept old new q.extends q.longer c.args.x.«to».level c.args.y c.requires.second;
      third = good_over_kept old new q.extends q.longer c.args.x.«to».level c.args.z c.requires.third;
      product = record {
        there = q.tripled.there;
        triples = canon3_kept old.levels new.levels c.requires.good q.extends c.args.x.«to» c.args.y.«to» c.args.z.«to» c.in_ok-to.«to» (triples_at new c.in_ok-to.middles) c.requires.first.good.callee_exists own_y own_z q.tripled.triples;
      };
      ended = c.requires.ended;
    }

pub triple_row-returns-clause-row : goal.triple_row-returns-clause-row
triple_row-returns-clause-row g t c =
    let q = c.in_ok-to.ensures in
    on_ok_weaker c.push_returned.result
    (returned_added c.args.table.now c.triple_groupings.new.table c.requires.good q.extends q.longer c.args.x c.args.y c.args.z c.requires.first c.requires.second c.requires.third c.in_ok-to.«to» q.tripled.triples.level q.added
    c.args.rows.now c.push_returned.new.rows) c.push_returned.ensures

pub triple_row-returns-clause-kept : goal.triple_row-returns-clause-kept
triple_row-returns-clause-kept g t c = on_ok_always c.push_returned.result c.in_ok-to.ensures.kept
