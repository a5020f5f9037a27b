use Rattle.std.proofs.Common.{rules, true, false, suc, refl, ◌≡◌, ℕ, ◌<◌, ◌≤◌, ◌+◌, ◌*◌, ◌-◌, List, length, sym, ap, ◌∙◌, subst, arith, get_or}
use Rattle.std.specs.List.{zip, All}
use Rattle.std.specs.Result.{is_ok}
use Rattle.cf_model.specs.Patterns.{Pattern}
use Rattle.cf_model.specs.Renumbering.{IsCanon}
use Rattle.cf_model.specs.Diagrams.{Levels, Node, connection_at, count, node, row, pattern}
use Rattle.cf_model.specs.Patterns.{sub}
use Rattle.cf_model.proofs.Canonicity.{level_holds}
use Rattle.cf_model.proofs.Growing.{exits_kept}
use Rattle.cf_table.specs.Groupings.{connection_of, patterns_of}
use Rattle.cf_table.specs.Goodness.{IsGoodOver}
use Rattle.cf_build.specs.Assembling.{Rowed, IsRow, HasCanon, AddsOnly}
use Rattle.cf_build.proofs.Turns.{if_ok2}
use Rattle.cf_pair.specs.Products.{pair_word, pairs_at, Lists, AddsOnlyIn}
use Rattle.cf_pair.specs.Charges.{IsCharged, pair_work}
use Rattle.cf_pair.proofs.Bounds.{charged_none, charged_then, charged_weaker, middles_fit, callee_charged, two_paid, rows_charged, row_parts, failed}
use Rattle.cf_pair.proofs.Pushing.{gains_so}
use Rattle.std.proofs.lemmas.Result.{on_ok_weaker}
use Rattle.cf_pair.proofs.Zips.{Both}
use Rattle.cf_pair.proofs.Rows.{listed_more, listed_none}
use Rattle.cf_pair.proofs.Pairs.{read_good, read_row, middles_canon, middles_in, level_with, PairCall, assembly}
use Rattle.cf_table.specs.declared.Gid.{Gid}
use Rattle.cf_table.proofs.Told.{none_of}
use Rattle.cf_pair.specs.Charges.{IsUnknown}
use Rattle.cf_pair.specs.Products.{connection_row, row_pairs, GainsRow, IsAdded}
use Rattle.cf_pair.proofs.Keeping.{good_over_kept, row_kept, canon_kept, is_product, still_unknown, charged_failed, charged_kept}
use Rattle.cf_pair.proofs.PairPlaces.{middle_read, kept_at}
use Rattle.cf_pair.proofs.pairing.+pair.Goals as goal

pub pair_rows-b_of-b-requires-clause-middle : goal.pair_rows-b_of-b-requires-clause-middle
pair_rows-b_of-b-requires-clause-middle g t c =
    let old = c.args.table.now in
    let x = c.loop-i.invariant.listed.extends in
    let m = c.pair-middle.result in
    let read : m ≡ get_or (pairs_at old.products c.args.middles) c.loop-i.i (0, 0) = middle_read _ _ c.args.middles _ _ _ _ _ _ c.requires.place c.loop-i.invariant.charged c.loop-i.i m c.pair-middle.ensures in
    let in_ : Both (length (node old.levels c.args.g.level c.args.g.at).connections) (length (node old.levels c.args.h.level c.args.h.at).connections) m = subst (Both (length (node old.levels c.args.g.level c.args.g.at).connections) (length (node old.levels c.args.h.level c.args.h.at).connections)) (sym read) (c.requires.middles c.loop-i.i (0, 0) (omega (arith, c.loop-i-test.true, c.len-i-end.ensures))) in
    omega (arith, in_.0, ap (λ (d : Node). length d.connections) (x.kept c.args.g.level c.args.g.at c.requires.first))

pub pair_rows-b_of-c-requires-clause-middle : goal.pair_rows-b_of-c-requires-clause-middle
pair_rows-b_of-c-requires-clause-middle g t c =
    let old = c.args.table.now in
    let x = c.loop-i.invariant.listed.extends in
    let m = c.pair-middle.result in
    let read : m ≡ get_or (pairs_at old.products c.args.middles) c.loop-i.i (0, 0) = middle_read _ _ c.args.middles _ _ _ _ _ _ c.requires.place c.loop-i.invariant.charged c.loop-i.i m c.pair-middle.ensures in
    let in_ : Both (length (node old.levels c.args.g.level c.args.g.at).connections) (length (node old.levels c.args.h.level c.args.h.at).connections) m = subst (Both (length (node old.levels c.args.g.level c.args.g.at).connections) (length (node old.levels c.args.h.level c.args.h.at).connections)) (sym read) (c.requires.middles c.loop-i.i (0, 0) (omega (arith, c.loop-i-test.true, c.len-i-end.ensures))) in
    omega (arith, in_.1, ap (λ (d : Node). length d.connections) (x.kept c.args.h.level c.args.h.at c.requires.second))

pub pair_rows-pair_row-requires : goal.pair_rows-pair_row-requires
pair_rows-pair_row-requires g t c κs within =
    let old = c.args.table.now in
    let now = c.loop-i.table in
    let x = c.loop-i.invariant.listed.extends in
    let k = c.args.g.level in
    let l = k - 1 in
    let m = c.pair-middle.result in
    let read : m ≡ get_or (pairs_at old.products c.args.middles) c.loop-i.i (0, 0) = middle_read _ _ c.args.middles _ _ _ _ _ _ c.requires.place c.loop-i.invariant.charged c.loop-i.i m c.pair-middle.ensures in
    let in_ : Both (length (node old.levels c.args.g.level c.args.g.at).connections) (length (node old.levels c.args.h.level c.args.h.at).connections) m = subst (Both (length (node old.levels c.args.g.level c.args.g.at).connections) (length (node old.levels c.args.h.level c.args.h.at).connections)) (sym read) (c.requires.middles c.loop-i.i (0, 0) (omega (arith, c.loop-i-test.true, c.len-i-end.ensures))) in
    let b = c.b_of-b.result in
    let d = c.b_of-c.result in
    let gb : IsGoodOver now l b = read_good old now c.loop-i.invariant.listed.good x k l c.args.g.at m.0 (omega (arith, c.requires.above)) c.requires.first in_.0 b c.b_of-b.ensures.level c.b_of-b.ensures.connection c.b_of-b.ensures.tuple in
    let gd : IsGoodOver now l d = read_good old now c.loop-i.invariant.listed.good x c.args.h.level l c.args.h.at m.1 (omega (arith, c.requires.above, c.requires.levels)) c.requires.second in_.1 d c.b_of-c.ensures.level c.b_of-c.ensures.connection c.b_of-c.ensures.tuple in
    let lev : b.«to».level ≡ l = gb.over.level in
    let six : b.«to».level ≤ 6 = omega (arith, lev, c.requires.level) in
    let fb : IsGoodOver now b.«to».level b = subst (λ (i : ℕ). IsGoodOver now i b) (sym lev) gb in
    let fd : IsGoodOver now b.«to».level d = subst (λ (i : ℕ). IsGoodOver now i d) (sym lev) gd in
    let falls : 4 * b.«to».level + 1 < 4 * k - 2 = omega (arith, lev, c.requires.above) in
    search rules

pub pair_rows-loop-i-preserved : goal.pair_rows-loop-i-preserved
pair_rows-loop-i-preserved g t c =
    let old = c.args.table.now in
    let now = c.loop-i.table in
    let new = c.pair_row.new.table in
    let x = c.loop-i.invariant.listed.extends in
    let k = c.args.g.level in
    let l = k - 1 in
    let m = c.pair-middle.result in
    let read : m ≡ get_or (pairs_at old.products c.args.middles) c.loop-i.i (0, 0) = middle_read _ _ c.args.middles _ _ _ _ _ _ c.requires.place c.loop-i.invariant.charged c.loop-i.i m c.pair-middle.ensures in
    let in_ : Both (length (node old.levels c.args.g.level c.args.g.at).connections) (length (node old.levels c.args.h.level c.args.h.at).connections) m = subst (Both (length (node old.levels c.args.g.level c.args.g.at).connections) (length (node old.levels c.args.h.level c.args.h.at).connections)) (sym read) (c.requires.middles c.loop-i.i (0, 0) (omega (arith, c.loop-i-test.true, c.len-i-end.ensures))) in
    let b = c.b_of-b.result in
    let d = c.b_of-c.result in
    let below : l + 1 ≡ k = omega (arith, c.requires.above) in
    let below_h : l + 1 ≡ c.args.h.level = omega (arith, c.requires.above, c.requires.levels) in
    let lev : b.«to».level ≡ l = omega (arith, c.b_of-b.ensures.level) in
    let eb = read_row old now c.requires.good x k l c.args.g.at m.0 below c.requires.first in_.0 b c.b_of-b.ensures.connection in
    let ed = read_row old now c.requires.good x c.args.h.level l c.args.h.at m.1 below_h c.requires.second in_.1 d c.b_of-c.ensures.connection in
    let gained = c.in_ok-pair_row.ensures.row in
    let r = gained.row in
    let lists : Lists new.levels l (zip (row (pattern now.levels l) (connection_of now.tuples b)) (row (pattern now.levels l) (connection_of now.tuples d))) r =
    subst (λ (i : ℕ). Lists new.levels i (zip (row (pattern now.levels i) (connection_of now.tuples b)) (row (pattern now.levels i) (connection_of now.tuples d))) r) lev gained.is_asked.lists in
    let wanted : Lists new.levels l (pair_word (pattern old.levels l) (node old.levels k c.args.g.at).connections (node old.levels c.args.h.level c.args.h.at).connections m) r =
    subst (λ (v : List (ℕ × ℕ)). Lists new.levels l v r) (ap (λ (v : List ℕ). zip v (row (pattern now.levels l) (connection_of now.tuples d))) eb ∙ ap (λ (v : List ℕ). zip (row (pattern old.levels l) (connection_at (node old.levels k c.args.g.at).connections m.0)) v) ed) lists in
    let here : Lists new.levels l (pair_word (pattern old.levels l) (node old.levels k c.args.g.at).connections (node old.levels c.args.h.level c.args.h.at).connections (get_or (pairs_at old.products c.args.middles) c.loop-i.i (0, 0))) r =
    subst (λ (p : ℕ × ℕ). Lists new.levels l (pair_word (pattern old.levels l) (node old.levels k c.args.g.at).connections (node old.levels c.args.h.level c.args.h.at).connections p) r) read wanted in
    let added : AddsOnly now.levels new.levels (sub l (pattern new.levels l r.0.at)) = subst (λ (i : ℕ). AddsOnly now.levels new.levels (sub i (pattern new.levels i r.0.at))) lev gained.is_asked.added in
    record {
      listed = listed_more old now new l (λ i. pair_word (pattern old.levels l) (node old.levels k c.args.g.at).connections (node old.levels c.args.h.level c.args.h.at).connections (get_or (pairs_at old.products c.args.middles) i (0, 0))) c.loop-i.i c.loop-i.rows.rows c.pair_row.new.rows.rows r c.loop-i.invariant.listed here added
          c.in_ok-pair_row.ensures.good c.in_ok-pair_row.ensures.extends c.in_ok-pair_row.ensures.longer (ap (λ (s : Rowed (ℕ × ℕ)). s.rows) gained.is_last);
      ended = ap (λ (s : Rowed (ℕ × ℕ)). s.begun) gained.is_last;
      triples = c.in_ok-pair_row.ensures.triples ∙ c.loop-i.invariant.triples;
      charged = (let inv = c.loop-i.invariant.charged in
          charged_then old.products now.products new.products (patterns_of old.levels c.args.g c.args.h).0 (patterns_of old.levels c.args.g c.args.h).1 (patterns_of now.levels b.«to» d.«to»).0 (patterns_of now.levels b.«to» d.«to»).1 k (suc b.«to».level) (2 * (c.loop-i.i + 1)) (2 * c.loop-i.i) 0
          c.args.steps.now c.loop-i.steps c.b_of-c.new.steps c.pair_row.new.steps true inv c.in_ok-pair_row.ensures.charged
          (row_parts old now c.requires.good x c.args.g c.args.h b d m c.requires.first c.requires.second in_ c.b_of-b.ensures.level c.b_of-c.ensures.level c.b_of-b.ensures.connection c.b_of-c.ensures.connection)
          (omega (arith, c.b_of-b.ensures.ticks, c.b_of-c.ensures.ticks)));
    }

pub pair_parts-pair_rows-requires : goal.pair_parts-pair_rows-requires
pair_parts-pair_rows-requires g t c κs within =
    let old = c.args.table.now.levels in
    let new = c.pair_groupings.new.table.levels in
    let k = c.args.g.level in
    let l = k - 1 in
    let a = c.a_of-a.result in
    let b = c.a_of-b.result in
    let e = c.in_ok-callee.callee in
    let ms = pairs_at c.pair_groupings.new.table.products c.in_ok-callee.middles in
    let x = c.in_ok-callee.ensures.extends in
    let positive : 1 ≤ k = c.requires.above in
    let h = level_with old new e a b l zip ms c.in_ok-callee.ensures.paired.pairs (omega (arith, c.a_of-a.ensures.level)) (omega (arith, c.a_of-b.ensures.level, c.requires.levels)) in
    let canon : IsCanon (zip (pattern old l a.at) (pattern old l b.at)) (pattern new e.level e.at) ms = h.canon in
    let h0 : c.args.h.at < count old k = subst (λ (i : ℕ). c.args.h.at < count old i) c.requires.levels c.requires.second in
    let b_is : b.at ≡ (node old k c.args.h.at).a_callee = subst (λ (i : ℕ). b.at ≡ (node old i c.args.h.at).a_callee) c.requires.levels c.a_of-b.ensures.callee in
    let below : l + 1 ≡ k = omega (arith, positive) in
    let gu : c.args.g.at < count new k = omega (arith, c.requires.first, x.more k) in
    let hk : c.args.h.at < count new k = omega (arith, h0, x.more k) in
    let hu : c.args.h.at < count new c.args.h.level = omega (arith, c.requires.second, x.more c.args.h.level) in
    let mc = middles_canon old new c.requires.good x k l c.args.g.at c.args.h.at a.at b.at (pattern new e.level e.at) ms below c.requires.first h0 c.a_of-a.ensures.callee b_is canon in
    let range = middles_in new c.in_ok-callee.ensures.good k l c.args.g.at c.args.h.at (pattern new e.level e.at) ms below gu hk mc in
    let all : All (λ m. (m.0 < length (node new k c.args.g.at).connections) × (m.1 < length (node new c.args.h.level c.args.h.at).connections)) ms =
    subst (λ (i : ℕ). All (Both (length (node new k c.args.g.at).connections) (length (node new i c.args.h.at).connections)) ms) (sym c.requires.levels) range in
    let falls : 4 * k - 2 < 4 * k - 1 = omega (arith, positive) in
    search rules

pub pair_parts-assemble_rows-requires-clause-middles : goal.pair_parts-assemble_rows-requires-clause-middles
pair_parts-assemble_rows-requires-clause-middles g t c =
    let new = c.pair_groupings.new.table.levels in
    let e = c.in_ok-callee.callee in
    let p = c.in_ok-callee.ensures.paired.pairs in
    c.in_ok-pair_rows.ensures.rows.long ∙ sym p.canon.reached
    ∙ (level_holds new c.in_ok-callee.ensures.good e.level).reaches e.at p.there ∙ sym (exits_kept new c.pair_rows.new.table.levels c.in_ok-pair_rows.ensures.extends e.level e.at p.there)

pub pair_parts-assemble_rows-requires-clause-rows : goal.pair_parts-assemble_rows-requires-clause-rows
pair_parts-assemble_rows-requires-clause-rows g t c k d lk =
    let v = c.pair_rows.new.table.levels in
    let w = c.in_ok-pair_rows.ensures.rows in
    let r = (w.each k d (omega (arith, lk, w.long))).is_row in
    let lev : c.args.g.level - 1 ≡ c.in_ok-callee.callee.level = omega (arith, c.in_ok-callee.ensures.paired.pairs.level, c.a_of-a.ensures.level) in
    subst (λ (l : ℕ). IsRow v l (get_or c.pair_rows.new.rows.rows k d)) lev r

pub pair_parts-returns-clause-paired : goal.pair_parts-returns-clause-paired
pair_parts-returns-clause-paired g t c =
    let old = c.args.table.now.levels in
    let new = c.pair_groupings.new.table.levels in
    let v = c.pair_rows.new.table.levels in
    let ms = pairs_at c.pair_groupings.new.table.products c.in_ok-callee.middles in
    let rows = c.pair_rows.new.rows.rows in
    let l = c.args.g.level - 1 in
    let w : PairCall old new v c.args.g c.args.h c.a_of-a.result c.a_of-b.result c.in_ok-callee.callee ms rows = record {
      good = c.requires.good;
      positive = λ e. omega (arith, e, c.requires.above);
      levels = c.requires.levels;
      first = c.requires.first;
      second = c.requires.second;
      a_level = c.a_of-a.ensures.level;
      a_is = c.a_of-a.ensures.callee;
      b_level = c.a_of-b.ensures.level;
      b_is = c.a_of-b.ensures.callee;
      good1 = c.in_ok-callee.ensures.good;
      extends1 = c.in_ok-callee.ensures.extends;
      canon = c.in_ok-callee.ensures.paired.pairs;
      good2 = c.in_ok-pair_rows.ensures.good;
      extends2 = c.in_ok-pair_rows.ensures.extends;
      listed = c.in_ok-pair_rows.ensures.rows;
    } in
    let added : AddsOnlyIn new v l rows = c.in_ok-pair_rows.ensures.added in
    if_ok2 c.assemble_rows.result _ _ _ c.assemble_rows.ensures.assembled c.assemble_rows.ensures.added
    (λ r s x. (assembly old new v c.assemble_rows.new.table.levels c.args.g c.args.h c.a_of-a.result c.a_of-b.result c.in_ok-callee.callee ms rows r.0 r.1.items w c.assemble_rows.ensures.good c.assemble_rows.ensures.kept s c.in_ok-callee.ensures.added added x).0)

pub pair_parts-returns-clause-added : goal.pair_parts-returns-clause-added
pair_parts-returns-clause-added g t c =
    let old = c.args.table.now.levels in
    let new = c.pair_groupings.new.table.levels in
    let v = c.pair_rows.new.table.levels in
    let ms = pairs_at c.pair_groupings.new.table.products c.in_ok-callee.middles in
    let rows = c.pair_rows.new.rows.rows in
    let l = c.args.g.level - 1 in
    let w : PairCall old new v c.args.g c.args.h c.a_of-a.result c.a_of-b.result c.in_ok-callee.callee ms rows = record {
      good = c.requires.good;
      positive = λ e. omega (arith, e, c.requires.above);
      levels = c.requires.levels;
      first = c.requires.first;
      second = c.requires.second;
      a_level = c.a_of-a.ensures.level;
      a_is = c.a_of-a.ensures.callee;
      b_level = c.a_of-b.ensures.level;
      b_is = c.a_of-b.ensures.callee;
      good1 = c.in_ok-callee.ensures.good;
      extends1 = c.in_ok-callee.ensures.extends;
      canon = c.in_ok-callee.ensures.paired.pairs;
      good2 = c.in_ok-pair_rows.ensures.good;
      extends2 = c.in_ok-pair_rows.ensures.extends;
      listed = c.in_ok-pair_rows.ensures.rows;
    } in
    let added : AddsOnlyIn new v l rows = c.in_ok-pair_rows.ensures.added in
    if_ok2 c.assemble_rows.result _ _ _ c.assemble_rows.ensures.assembled c.assemble_rows.ensures.added
    (λ r s x. (assembly old new v c.assemble_rows.new.table.levels c.args.g c.args.h c.a_of-a.result c.a_of-b.result c.in_ok-callee.callee ms rows r.0 r.1.items w c.assemble_rows.ensures.good c.assemble_rows.ensures.kept s c.in_ok-callee.ensures.added added x).1)

pub pair_parts-returns-in_err-callee-clause-charged : goal.pair_parts-returns-in_err-callee-clause-charged
pair_parts-returns-in_err-callee-clause-charged g t c =
    let old = c.args.table.now in
    let a = c.a_of-a in
    let b = c.a_of-b in
    let k = patterns_of old.levels c.args.g c.args.h in
    let n = c.pair_groupings.new.table.products in
    let s = c.pair_groupings.new.steps in
    charged_weaker old.products n k.0 k.1 c.args.g.level 2 (2 * pair_work k) c.args.steps.now s false (is_ok c.from_residual.result)
    (callee_charged old n c.args.g c.args.h a.result b.result c.args.steps.now b.new.steps s false c.requires.good c.requires.first c.requires.second a.ensures.level a.ensures.callee b.ensures.level b.ensures.callee (omega (arith, a.ensures.ticks, b.ensures.ticks)) c.in_err-callee.ensures.charged)
    (two_paid old.levels c.requires.good c.args.g c.args.h c.requires.above c.requires.levels c.requires.first c.requires.second)
    (λ e. absurd (failed c.from_residual.result c.from_residual.ensures.0 e))

pub pair_parts-returns-in_err-rows-clause-charged : goal.pair_parts-returns-in_err-rows-clause-charged
pair_parts-returns-in_err-rows-clause-charged g t c =
    let old = c.args.table.now in
    let a = c.a_of-a in
    let b = c.a_of-b in
    let k = patterns_of old.levels c.args.g c.args.h in
    let n = c.pair_groupings.new.table.products in
    let s = c.pair_groupings.new.steps in
    charged_weaker old.products n k.0 k.1 c.args.g.level 2 (2 * pair_work k) c.args.steps.now s true (is_ok c.from_residual-in_err-rows.result)
    (callee_charged old n c.args.g c.args.h a.result b.result c.args.steps.now b.new.steps s true c.requires.good c.requires.first c.requires.second a.ensures.level a.ensures.callee b.ensures.level b.ensures.callee (omega (arith, a.ensures.ticks, b.ensures.ticks)) c.in_ok-callee.ensures.charged)
    (two_paid old.levels c.requires.good c.args.g c.args.h c.requires.above c.requires.levels c.requires.first c.requires.second)
    (λ e. refl)

pub pair_parts-returns-in_err-pair_rows-clause-charged : goal.pair_parts-returns-in_err-pair_rows-clause-charged
pair_parts-returns-in_err-pair_rows-clause-charged g t c =
    let old = c.args.table.now in
    let new = c.pair_groupings.new.table in
    let a = c.a_of-a in
    let b = c.a_of-b in
    let k = patterns_of old.levels c.args.g c.args.h in
    let q = c.in_ok-callee.ensures in
    let ms = pairs_at c.pair_groupings.new.table.products c.in_ok-callee.middles in
    let fit = middles_fit old.levels new.levels c.args.g c.args.h a.result b.result c.in_ok-callee.callee ms c.requires.good q.good q.extends c.requires.above c.requires.levels c.requires.first c.requires.second a.ensures.level a.ensures.callee b.ensures.level b.ensures.callee q.paired.pairs in
    let first = callee_charged old new.products c.args.g c.args.h a.result b.result c.args.steps.now b.new.steps c.pair_groupings.new.steps true c.requires.good c.requires.first c.requires.second a.ensures.level a.ensures.callee b.ensures.level b.ensures.callee (omega (arith, a.ensures.ticks, b.ensures.ticks)) q.charged in
    charged_weaker old.products c.pair_rows.new.table.products k.0 k.1 c.args.g.level (2 * pair_work k) (2 * pair_work k) c.args.steps.now c.pair_rows.new.steps false (is_ok c.from_residual-in_err-pair_rows.result)
    (rows_charged old new c.pair_rows.new.table.products c.args.g c.args.h ms c.args.steps.now c.pair_groupings.new.steps c.pair_rows.new.steps false c.requires.good q.good q.extends c.requires.above c.requires.levels c.requires.first c.requires.second fit first c.in_err-pair_rows.ensures.charged)
    (omega arith)
    (λ e. absurd (failed c.from_residual-in_err-pair_rows.result c.from_residual-in_err-pair_rows.ensures.0 e))

pub pair_parts-returns-clause-charged : goal.pair_parts-returns-clause-charged
pair_parts-returns-clause-charged g t c =
    let old = c.args.table.now in
    let new = c.pair_groupings.new.table in
    let a = c.a_of-a in
    let b = c.a_of-b in
    let k = patterns_of old.levels c.args.g c.args.h in
    let q = c.in_ok-callee.ensures in
    let ms = pairs_at c.pair_groupings.new.table.products c.in_ok-callee.middles in
    let fit = middles_fit old.levels new.levels c.args.g c.args.h a.result b.result c.in_ok-callee.callee ms c.requires.good q.good q.extends c.requires.above c.requires.levels c.requires.first c.requires.second a.ensures.level a.ensures.callee b.ensures.level b.ensures.callee q.paired.pairs in
    let first = callee_charged old new.products c.args.g c.args.h a.result b.result c.args.steps.now b.new.steps c.pair_groupings.new.steps true c.requires.good c.requires.first c.requires.second a.ensures.level a.ensures.callee b.ensures.level b.ensures.callee (omega (arith, a.ensures.ticks, b.ensures.ticks)) q.charged in
    charged_weaker old.products c.assemble_rows.new.table.products k.0 k.1 c.args.g.level (2 * pair_work k) (2 * pair_work k) c.args.steps.now c.pair_rows.new.steps true (is_ok c.assemble_rows.result)
    (subst (λ (n : List (Pattern × Pattern)). IsCharged old.products n k.0 k.1 c.args.g.level (2 * pair_work k) c.args.steps.now c.pair_rows.new.steps true) (sym c.assemble_rows.ensures.products)
    (rows_charged old new c.pair_rows.new.table.products c.args.g c.args.h ms c.args.steps.now c.pair_groupings.new.steps c.pair_rows.new.steps true c.requires.good q.good q.extends c.requires.above c.requires.levels c.requires.first c.requires.second fit first c.in_ok-pair_rows.ensures.charged))
    (omega arith)
    (λ e. refl)

pub pair_rows-loop-i-init : goal.pair_rows-loop-i-init
pair_rows-loop-i-init g t c =
    let none = c.requires.none in
    record {
      listed = listed_none _ _ _ _ c.requires.good (ap (λ (s : Rowed (ℕ × ℕ)). s.rows) none);
      ended = ap (λ (s : Rowed (ℕ × ℕ)). s.begun) none;
      triples = refl;
      charged = charged_none _ _ _ _ _ _ _ _ _ refl (omega arith);
    }

pub pair_rows-returns-in_err-pair_row-clause-charged : goal.pair_rows-returns-in_err-pair_row-clause-charged
pair_rows-returns-in_err-pair_row-clause-charged g t c =
    let old = c.args.table.now in
    let now = c.loop-i.table in
    let x = c.loop-i.invariant.listed.extends in
    let m = c.pair-middle.result in
    let read : m ≡ get_or (pairs_at old.products c.args.middles) c.loop-i.i (0, 0) = middle_read _ _ c.args.middles _ _ _ _ _ _ c.requires.place c.loop-i.invariant.charged c.loop-i.i m c.pair-middle.ensures in
    let in_ : Both (length (node old.levels c.args.g.level c.args.g.at).connections) (length (node old.levels c.args.h.level c.args.h.at).connections) m = subst (Both (length (node old.levels c.args.g.level c.args.g.at).connections) (length (node old.levels c.args.h.level c.args.h.at).connections)) (sym read) (c.requires.middles c.loop-i.i (0, 0) (omega (arith, c.loop-i-test.true, c.len-i-end.ensures))) in
    let b = c.b_of-b in
    let d = c.b_of-c in
    let k = patterns_of old.levels c.args.g c.args.h in
    let q = patterns_of now.levels b.result.«to» d.result.«to» in
    let own = 2 * length (pairs_at old.products c.args.middles) in
    charged_weaker old.products c.pair_row.new.table.products k.0 k.1 c.args.g.level own own c.args.steps.now c.pair_row.new.steps false (is_ok c.from_residual.result)
    (charged_then old.products now.products c.pair_row.new.table.products k.0 k.1 q.0 q.1 c.args.g.level (suc b.result.«to».level) own (2 * c.loop-i.i) 0 c.args.steps.now c.loop-i.steps d.new.steps c.pair_row.new.steps false c.loop-i.invariant.charged c.in_err-pair_row.ensures.charged
    (row_parts old now c.requires.good x c.args.g c.args.h b.result d.result m c.requires.first c.requires.second in_ b.ensures.level d.ensures.level b.ensures.connection d.ensures.connection)
    (omega (arith, b.ensures.ticks, d.ensures.ticks, c.loop-i-test.true, c.len-i-end.ensures)))
    (omega arith)
    (λ e. absurd (failed c.from_residual.result c.from_residual.ensures.0 e))

pub pair_groupings-returns-in-Some-clause-charged : goal.pair_groupings-returns-in-Some-clause-charged
pair_groupings-returns-in-Some-clause-charged g t c = charged_none _ _ _ _ _ _ _ _ _ refl (omega arith)

pub pair_groupings-returns-in_err-head-clause-charged : goal.pair_groupings-returns-in_err-head-clause-charged
pair_groupings-returns-in_err-head-clause-charged g t c =
    let unknown : IsUnknown c.args.table.now c.args.g c.args.h = none_of c.known_product.result _ _ c.in_default.not-Some c.known_product.ensures in
    charged_failed c.args.table.now c.pair_parts.new.table.products c.pair_parts.new.table.products c.args.g c.args.h c.args.steps.now c.pair_parts.new.steps false c.from_residual.result c.from_residual.ensures.0 unknown.new c.in_err-head.ensures.charged

pub pair_groupings-returns-in_err-place-clause-charged : goal.pair_groupings-returns-in_err-place-clause-charged
pair_groupings-returns-in_err-place-clause-charged g t c =
    let unknown : IsUnknown c.args.table.now c.args.g c.args.h = none_of c.known_product.result _ _ c.in_default.not-Some c.known_product.ensures in
    charged_failed c.args.table.now c.pair_parts.new.table.products c.keep_product.new.self.products c.args.g c.args.h c.args.steps.now c.pair_parts.new.steps true c.from_residual-in_err-place.result c.from_residual-in_err-place.ensures.0 unknown.new c.in_ok-head.ensures.charged

pub pair_groupings-keep_product-requires-clause-product : goal.pair_groupings-keep_product-requires-clause-product
pair_groupings-keep_product-requires-clause-product g t c =
    let q = c.in_ok-head.ensures in
    is_product c.args.table.now.levels c.pair_parts.new.table.levels c.requires.good q.extends c.args.g c.args.h c.in_ok-head.head c.in_ok-head.pairs.items c.requires.levels c.requires.first c.requires.second q.paired

pub pair_groupings-keep_product-requires-clause-new : goal.pair_groupings-keep_product-requires-clause-new
pair_groupings-keep_product-requires-clause-new g t c =
    let unknown : IsUnknown c.args.table.now c.args.g c.args.h = none_of c.known_product.result _ _ c.in_default.not-Some c.known_product.ensures in
    still_unknown c.args.table.now c.pair_parts.new.table c.requires.good c.in_ok-head.ensures.extends c.args.g c.args.h c.requires.first c.requires.second c.args.steps.now c.pair_parts.new.steps unknown.new c.in_ok-head.ensures.charged

pub pair_groupings-returns-clause-paired : goal.pair_groupings-returns-clause-paired
pair_groupings-returns-clause-paired g t c =
    let q = c.in_ok-head.ensures in
    let k = c.in_ok-place.ensures in
    kept_at c.args.table.now c.pair_parts.new.table c.keep_product.new.self c.requires.good q.extends c.args.g c.args.h c.in_ok-head.head c.in_ok-place.place c.in_ok-head.pairs.items c.requires.first c.requires.second k.levels k.kept k.place q.paired

pub pair_groupings-returns-clause-added : goal.pair_groupings-returns-clause-added
pair_groupings-returns-clause-added g t c =
    subst (λ (u : Levels). AddsOnly c.args.table.now.levels u (sub c.in_ok-head.head.level (pattern u c.in_ok-head.head.level c.in_ok-head.head.at))) (sym c.in_ok-place.ensures.levels) c.in_ok-head.ensures.added

pub pair_groupings-returns-clause-charged : goal.pair_groupings-returns-clause-charged
pair_groupings-returns-clause-charged g t c =
    let unknown : IsUnknown c.args.table.now c.args.g c.args.h = none_of c.known_product.result _ _ c.in_default.not-Some c.known_product.ensures in
    charged_kept c.args.table.now c.pair_parts.new.table c.keep_product.new.self.products c.requires.good c.in_ok-head.ensures.extends c.args.g c.args.h c.requires.first c.requires.second c.args.steps.now c.pair_parts.new.steps unknown.new c.in_ok-head.ensures.charged c.in_ok-place.ensures.kept

pub pair_row-returns-in-Some-clause-row : goal.pair_row-returns-in-Some-clause-row
pair_row-returns-in-Some-clause-row g t c =
    on_ok_weaker c.push_plain.result (gains_so _ _ c.args.rows.now c.push_plain.new.rows (λ r h. record { lists = h.lists; added = λ k j ge lt. absurd (omega (arith, ge, lt)) })) c.push_plain.ensures

pub pair_row-returns-in-Some-clause-charged : goal.pair_row-returns-in-Some-clause-charged
pair_row-returns-in-Some-clause-charged g t c = charged_none _ _ _ _ _ _ _ _ _ refl (omega arith)

pub pair_row-returns-in-Some-product_of-clause-row : goal.pair_row-returns-in-Some-product_of-clause-row
pair_row-returns-in-Some-product_of-clause-row g t c =
    on_ok_weaker c.push_returned.result (gains_so _ _ c.args.rows.now c.push_returned.new.rows (λ r h. record { lists = h.lists; added = λ k j ge lt. absurd (omega (arith, ge, lt)) })) c.push_returned.ensures

pub pair_row-returns-in-Some-product_of-clause-charged : goal.pair_row-returns-in-Some-product_of-clause-charged
pair_row-returns-in-Some-product_of-clause-charged g t c = charged_none _ _ _ _ _ _ _ _ _ refl (omega arith)

pub pair_row-returns-in_err-to-clause-charged : goal.pair_row-returns-in_err-to-clause-charged
pair_row-returns-in_err-to-clause-charged g t c =
    let new = none_of c.product_of.result _ _ c.in_default-product_of.not-Some c.product_of.ensures in
    charged_failed c.args.table.now c.pair_parts.new.table.products c.pair_parts.new.table.products c.args.b.«to» c.args.c.«to» c.args.steps.now c.pair_parts.new.steps false c.from_residual.result c.from_residual.ensures.0 new c.in_err-to.ensures.charged

pub pair_row-push_returned-requires-2 : goal.pair_row-push_returned-requires-2
pair_row-push_returned-requires-2 g t c =
    let own_c : c.args.c.«to».at < count c.args.table.now.levels c.args.c.«to».level = subst (λ (m : ℕ). c.args.c.«to».at < count c.args.table.now.levels m) (sym c.requires.second.over.level) c.requires.second.good.callee_exists in
    let old = c.args.table.now in
    let new = c.pair_parts.new.table in
    let q = c.in_ok-to.ensures in
    record {
      good = q.good;
      first = good_over_kept old new q.extends q.longer c.args.b.«to».level c.args.b c.requires.first;
      second = good_over_kept old new q.extends q.longer c.args.b.«to».level c.args.c c.requires.second;
      product = subst (λ (ps : List (ℕ × ℕ)). HasCanon new.levels c.in_ok-to.«to» c.args.b.«to».level (zip (pattern new.levels c.args.b.«to».level c.args.b.«to».at) (pattern new.levels c.args.c.«to».level c.args.c.«to».at)) ps) (sym c.as_slice-2.ensures.value)
          (canon_kept old.levels new.levels c.requires.good q.extends c.args.b.«to» c.args.c.«to» c.in_ok-to.«to» c.in_ok-to.pairs.items c.requires.first.good.callee_exists own_c q.paired);
      ended = c.requires.ended;
    }

pub pair_row-returns-in_err-push_returned-clause-charged : goal.pair_row-returns-in_err-push_returned-clause-charged
pair_row-returns-in_err-push_returned-clause-charged g t c =
    let new = none_of c.product_of.result _ _ c.in_default-product_of.not-Some c.product_of.ensures in
    charged_failed c.args.table.now c.pair_parts.new.table.products c.pair_parts.new.table.products c.args.b.«to» c.args.c.«to» c.args.steps.now c.pair_parts.new.steps true c.from_residual-in_err-push_returned.result c.from_residual-in_err-push_returned.ensures.0 new c.in_ok-to.ensures.charged

pub pair_row-keep_product-requires-clause-product : goal.pair_row-keep_product-requires-clause-product
pair_row-keep_product-requires-clause-product g t c =
    let own_c : c.args.c.«to».at < count c.args.table.now.levels c.args.c.«to».level = subst (λ (m : ℕ). c.args.c.«to».at < count c.args.table.now.levels m) (sym c.requires.second.over.level) c.requires.second.good.callee_exists in
    is_product c.args.table.now.levels c.pair_parts.new.table.levels c.requires.good c.in_ok-to.ensures.extends c.args.b.«to» c.args.c.«to» c.in_ok-to.«to» c.in_ok-to.pairs.items c.requires.second.over.level c.requires.first.good.callee_exists own_c c.in_ok-to.ensures.paired

pub pair_row-keep_product-requires-clause-new : goal.pair_row-keep_product-requires-clause-new
pair_row-keep_product-requires-clause-new g t c =
    let own_c : c.args.c.«to».at < count c.args.table.now.levels c.args.c.«to».level = subst (λ (m : ℕ). c.args.c.«to».at < count c.args.table.now.levels m) (sym c.requires.second.over.level) c.requires.second.good.callee_exists in
    let new = none_of c.product_of.result _ _ c.in_default-product_of.not-Some c.product_of.ensures in
    still_unknown c.args.table.now c.pair_parts.new.table c.requires.good c.in_ok-to.ensures.extends c.args.b.«to» c.args.c.«to» c.requires.first.good.callee_exists own_c c.args.steps.now c.pair_parts.new.steps new c.in_ok-to.ensures.charged

pub pair_row-returns-clause-row : goal.pair_row-returns-clause-row
pair_row-returns-clause-row g t c =
    let old = c.args.table.now in
    let new = c.pair_parts.new.table in
    let q = c.in_ok-to.ensures in
    let l = c.args.b.«to».level in
    let left = row_kept old new c.requires.good q.extends q.longer l c.args.b c.requires.first in
    let right = row_kept old new c.requires.good q.extends q.longer l c.args.c c.requires.second in
    let added : AddsOnly old.levels new.levels (sub l (pattern new.levels l c.in_ok-to.«to».at)) = subst (λ (m : ℕ). AddsOnly old.levels new.levels (sub m (pattern new.levels m c.in_ok-to.«to».at))) q.paired.level q.added in
    let gained : GainsRow c.args.rows.now c.push_returned-2.new.rows (IsAdded old.levels new.levels l (row_pairs old c.args.b c.args.c)) =
    gains_so _ _ c.args.rows.now c.push_returned-2.new.rows
    (λ r h. record {
      lists = subst (λ (v : List ℕ). Lists new.levels l (zip (connection_row old l c.args.b) v) r) right (subst (λ (v : List ℕ). Lists new.levels l (zip v (connection_row new l c.args.c)) r) left h.lists);
      added = subst (λ (r : Gid). AddsOnly old.levels new.levels (sub l (pattern new.levels l r.at))) (sym h.head) added;
    }) c.in_ok-push_returned.ensures in
    subst (λ (u : Levels). GainsRow c.args.rows.now c.push_returned-2.new.rows (IsAdded old.levels u l (row_pairs old c.args.b c.args.c))) (sym c.in_ok-keep_product.ensures.levels) gained

pub pair_row-returns-clause-charged : goal.pair_row-returns-clause-charged
pair_row-returns-clause-charged g t c =
    let own_c : c.args.c.«to».at < count c.args.table.now.levels c.args.c.«to».level = subst (λ (m : ℕ). c.args.c.«to».at < count c.args.table.now.levels m) (sym c.requires.second.over.level) c.requires.second.good.callee_exists in
    let new = none_of c.product_of.result _ _ c.in_default-product_of.not-Some c.product_of.ensures in
    charged_kept c.args.table.now c.pair_parts.new.table c.keep_product.new.self.products c.requires.good c.in_ok-to.ensures.extends c.args.b.«to» c.args.c.«to» c.requires.first.good.callee_exists own_c c.args.steps.now c.pair_parts.new.steps new c.in_ok-to.ensures.charged c.in_ok-keep_product.ensures.kept

pub pair_row-returns-in_err-keep_product-clause-charged : goal.pair_row-returns-in_err-keep_product-clause-charged
pair_row-returns-in_err-keep_product-clause-charged g t c =
    let new = none_of c.product_of.result _ _ c.in_default-product_of.not-Some c.product_of.ensures in
    charged_failed c.args.table.now c.pair_parts.new.table.products c.keep_product.new.self.products c.args.b.«to» c.args.c.«to» c.args.steps.now c.pair_parts.new.steps true c.from_residual-in_err-keep_product.result c.from_residual-in_err-keep_product.ensures.0 new c.in_ok-to.ensures.charged
