use Rattle.std.proofs.Common.{rules, ◌≡◌, ℕ, ◌<◌, ◌≤◌, ◌+◌, ◌*◌, ◌-◌, List, [], length, sym, ap, ◌∙◌, subst, arith, get_or}
use Rattle.std.specs.Prelude.{All}
use Rattle.std.proofs.lemmas.Option.{slice_get_within}
use Rattle.std.proofs.lemmas.Result.{on_ok_weaker}
use Rattle.cf_model.specs.Renumbering.{IsCanon}
use Rattle.cf_model.specs.Diagrams.{Levels, Node, IsGood, connection_at, count, node, row, pattern}
use Rattle.cf_model.proofs.Canonicity.{level_holds}
use Rattle.cf_model.proofs.Growing.{exits_kept}
use Rattle.cf_tuple.proofs.BookLaws.{kept_at as tuple_kept}
use Rattle.cf_table.specs.declared.Gid.{Gid}
use Rattle.cf_table.specs.Groupings.{connection_of}
use Rattle.cf_table.specs.Goodness.{IsGoodOver}
use Rattle.cf_build.specs.Assembling.{Rowed}
use Rattle.cf_build.proofs.Turns.{if_ok}
use Rattle.cf_pair.specs.Products.{Lists, connection_row}
use Rattle.cf_pair.proofs.Pairs.{read_good, read_row}
use Rattle.cf_pair.proofs.Pushing.{gains, on_ok_always}
use Rattle.cf_kron.specs.declared.memo.Transposed.{Transposed}
use Rattle.cf_kron.specs.Transposed.{turned_exits, returned_exits, IsTransposed}
use Rattle.cf_kron.proofs.MemoFacts.{transposed_later, known_kept, known_at, kept_at, at_place}
use Rattle.cf_kron.proofs.TransposeLaws.{exits_in, row_made, rows_none, rows_more, AboveCall, middles_in, above_made}
use Rattle.cf_kron.proofs.transposition.+transpose.Goals as goal

pub transpose_once-returns-in-Some-clause-transposed : goal.transpose_once-returns-in-Some-clause-transposed
transpose_once-returns-in-Some-clause-transposed t c = known_at c.args.table.now.levels c.args.done.now.entries c.args.g c.in-Some.place c.requires.known c.in-Some.ensures

pub transpose_once-returns-clause-transposed : goal.transpose_once-returns-clause-transposed
transpose_once-returns-clause-transposed t c =
    let old = c.args.table.now.levels in
    let new = c.transpose_parts.new.table.levels in
    let q = c.in_ok-head.ensures in
    if_ok c.keep.result _ _ c.keep.ensures.kept (λ place h. kept_at old new c.keep.new.done.entries c.args.g (record { head = c.in_ok-head.head; exits = c.in_ok-head.exits }) place q.transposed h)

pub transpose_once-returns-clause-known : goal.transpose_once-returns-clause-known
transpose_once-returns-clause-known t c =
    let old = c.args.table.now.levels in
    let new = c.transpose_parts.new.table.levels in
    let q = c.in_ok-head.ensures in
    let own = c.requires.owned in
    let x = q.extends in
    c.keep.ensures.known new q.known
    (record {
      owned = omega (arith, own, x.more c.args.g.level);
      is_it = transposed_later old new new c.requires.good x c.args.g c.in_ok-head.head c.in_ok-head.exits.items own q.transposed;
    })

pub transposed_row-transposed_at-callee-requires : goal.transposed_row-transposed_at-callee-requires
transposed_row-transposed_at-callee-requires t c = let r = c.in_ok-place.ensures.transposed in slice_get_within c.transpose_once.new.done.entries c.in_ok-place.place r.entry r.there

pub transposed_row-push_returned-requires : goal.transposed_row-push_returned-requires
transposed_row-push_returned-requires t c =
    let old = c.args.table.now in
    let new = c.transpose_once.new.table in
    let l = c.args.conn.«to».level in
    let b = connection_of old.tuples c.args.conn in
    let e = c.transposed_at-callee.result.now in
    let made = at_place old.levels new.levels c.transpose_once.new.done.entries c.args.conn.«to» c.in_ok-place.place e c.in_ok-place.ensures.transposed c.transposed_at-callee.ensures in
    let canon : IsCanon (turned_exits l (pattern old.levels l b.callee)) (pattern new.levels e.head.level e.head.at) c.as_slice.result.now =
    subst (λ (v : List ℕ). IsCanon (turned_exits l (pattern old.levels l b.callee)) (pattern new.levels e.head.level e.head.at) v) (sym c.as_slice.ensures.value) made.canon in
    let eb : c.tuple.result.now ≡ b.returns = c.tuple.ensures ∙ tuple_kept old.tuples new.tuples c.in_ok-place.ensures.longer c.args.conn.ret.at [] c.requires.connection.over.tuple in
    record {
      within = λ j x lj. omega (arith, exits_in old.levels c.requires.good l c.requires.above b c.requires.connection.good (pattern new.levels e.head.level e.head.at) c.as_slice.result.now canon j x lj, ap length eb);
    }

pub transposed_row-returns-clause-row : goal.transposed_row-returns-clause-row
transposed_row-returns-clause-row t c =
    let old = c.args.table.now in
    let new = c.transpose_once.new.table in
    let l = c.args.conn.«to».level in
    let b = connection_of old.tuples c.args.conn in
    let e = c.transposed_at-callee.result.now in
    let es = e.exits.items in
    let made = at_place old.levels new.levels c.transpose_once.new.done.entries c.args.conn.«to» c.in_ok-place.place e c.in_ok-place.ensures.transposed c.transposed_at-callee.ensures in
    let eb : c.tuple.result.now ≡ b.returns = c.tuple.ensures ∙ tuple_kept old.tuples new.tuples c.in_ok-place.ensures.longer c.args.conn.ret.at [] c.requires.connection.over.tuple in
    let labels = returned_exits c.tuple.result.now c.as_slice.result.now in
    let said : labels ≡ returned_exits b.returns es = ap (λ (v : List ℕ). returned_exits c.tuple.result.now v) c.as_slice.ensures.value ∙ ap (λ (v : List ℕ). returned_exits v es) eb in
    let lists : Lists new.levels l (turned_exits l (connection_row old l c.args.conn)) (e.head, labels) =
    row_made old.levels new.levels c.requires.good c.in_ok-place.ensures.good l c.requires.above b c.requires.connection.good e.head es labels made said in
    on_ok_weaker c.end_row.result
    (λ q. gains (Lists new.levels l (turned_exits l (connection_row old l c.args.conn))) c.args.rows.now c.push_returned.new.rows c.end_row.new.self e.head labels c.requires.ended c.in_ok-push_returned.ensures q lists)
    c.end_row.ensures.ended

pub transposed_rows-loop-i-init : goal.transposed_rows-loop-i-init
transposed_rows-loop-i-init t c = record {
  listed = rows_none _ _ _ _ c.requires.good (ap (λ (s : Rowed ℕ). s.rows) c.requires.none);
  ended = ap (λ (s : Rowed ℕ). s.begun) c.requires.none;
  known = c.requires.known;
}

pub transposed_rows-transposed_row-requires : goal.transposed_rows-transposed_row-requires
transposed_rows-transposed_row-requires t c =
    let old = c.args.table.now in
    let now = c.loop-i.table in
    let x = c.loop-i.invariant.listed.extends in
    let k = c.args.g.level in
    let l = k - 1 in
    let b = c.connection-conn.result in
    let m = get_or c.args.middles.now c.loop-i.i 0 in
    let hm = c.requires.middles c.loop-i.i 0 c.loop-i-test.true in
    let gb : IsGoodOver now l b = read_good old now c.loop-i.invariant.listed.good x k l c.args.g.at m (omega (arith, c.requires.above)) c.requires.owned hm b c.connection-conn.ensures.level c.connection-conn.ensures.connection c.connection-conn.ensures.tuple in
    let lev : b.«to».level ≡ l = gb.over.level in
    let six : b.«to».level ≤ 6 = omega (arith, lev, c.requires.level) in
    let one : 1 ≤ b.«to».level = omega (arith, lev, c.requires.above) in
    let fb : IsGoodOver now b.«to».level b = subst (λ (m : ℕ). IsGoodOver now m b) (sym lev) gb in
    let falls : 5 * b.«to».level + 2 < 5 * k - 2 = omega (arith, lev, c.requires.above) in
    search rules

pub transposed_rows-loop-i-preserved : goal.transposed_rows-loop-i-preserved
transposed_rows-loop-i-preserved t c =
    let old = c.args.table.now in
    let now = c.loop-i.table in
    let new = c.transposed_row.new.table in
    let x = c.loop-i.invariant.listed.extends in
    let k = c.args.g.level in
    let l = k - 1 in
    let b = c.connection-conn.result in
    let bs = (node old.levels k c.args.g.at).connections in
    let m = get_or c.args.middles.now c.loop-i.i 0 in
    let hm = c.requires.middles c.loop-i.i 0 c.loop-i-test.true in
    let lev : b.«to».level ≡ l = omega (arith, c.connection-conn.ensures.level) in
    let eb = read_row old now c.requires.good x k l c.args.g.at m (omega (arith, c.requires.above)) c.requires.owned hm b c.connection-conn.ensures.connection in
    let q = c.in_ok-transposed_row.ensures in
    let gained = q.row in
    let r = gained.row in
    let lists : Lists new.levels l (turned_exits l (row (pattern now.levels l) (connection_of now.tuples b))) r =
    subst (λ (m : ℕ). Lists new.levels m (turned_exits m (row (pattern now.levels m) (connection_of now.tuples b))) r) lev gained.is_asked in
    let wanted : Lists new.levels l (turned_exits l (row (pattern old.levels l) (connection_at bs m))) r = subst (λ (v : List ℕ). Lists new.levels l (turned_exits l v) r) eb lists in
    record {
      listed = rows_more old now new l (λ i. turned_exits l (row (pattern old.levels l) (connection_at bs (get_or c.args.middles.now i 0)))) c.loop-i.i c.loop-i.rows.rows c.transposed_row.new.rows.rows r c.loop-i.invariant.listed wanted
          q.good q.extends q.longer (ap (λ (s : Rowed ℕ). s.rows) gained.is_last);
      ended = ap (λ (s : Rowed ℕ). s.begun) gained.is_last;
      known = q.known;
    }

pub transpose_above-transpose_once-requires : goal.transpose_above-transpose_once-requires
transpose_above-transpose_once-requires t c =
    let k = c.args.g.level in
    let a = c.a_callee-a.result in
    let lev : a.level ≡ k - 1 = omega (arith, c.a_callee-a.ensures.level) in
    let seven : a.level ≤ 7 = omega (arith, lev, c.requires.level) in
    let one : 1 ≤ a.level = omega (arith, lev, c.requires.above) in
    let falls : 5 * a.level + 1 < 5 * k - 1 = omega (arith, lev, c.requires.above) in
    search rules

pub transpose_above-transposed_at-callee-requires : goal.transpose_above-transposed_at-callee-requires
transpose_above-transposed_at-callee-requires t c = let r = c.in_ok-place.ensures.transposed in slice_get_within c.transpose_once.new.done.entries c.in_ok-place.place r.entry r.there

pub transpose_parts-returns-then-g-eq1-clause-known : goal.transpose_parts-returns-then-g-eq1-clause-known
transpose_parts-returns-then-g-eq1-clause-known t c =
    on_ok_always c.transpose_base.result (known_kept c.args.table.now.levels c.transpose_base.new.table.levels c.requires.good c.transpose_base.ensures.extends c.args.done.now.entries c.requires.known)

-- the canon of the middle vertices, as it was copied
copied : (old new : Levels) (a : Gid) (v : Transposed) (ms : List ℕ) → IsTransposed old new a v.head v.exits.items → ms ≡ v.exits.items → IsTransposed old new a v.head ms
copied old new a v ms made e = subst (λ (x : List ℕ). IsTransposed old new a v.head x) (sym e) made

-- the middle vertices are there
reached : (old new : Levels) → IsGood old → (g a : Gid) → 2 ≤ g.level → g.at < count old g.level → a.level + 1 ≡ g.level → a.at ≡ (node old g.level g.at).a_callee → (head : Gid) (ms : List ℕ) → IsTransposed old new a head ms → All (λ j. j < length (node old g.level g.at).connections) ms
reached old new good g a above own lev is head ms made =
    let l = g.level - 1 in
    let below : l + 1 ≡ g.level = omega (arith, above) in
    let la : a.level ≡ l = omega (arith, lev) in
    middles_in old good g.level l g.at a.at below (omega (arith, above)) own is (pattern new head.level head.at) ms (subst (λ (m : ℕ). IsCanon (turned_exits m (pattern old m a.at)) (pattern new head.level head.at) ms) la made.canon)

pub transpose_above-transposed_rows-requires : goal.transpose_above-transposed_rows-requires
transpose_above-transposed_rows-requires t c =
    let old = c.args.table.now.levels in
    let new = c.transpose_once.new.table.levels in
    let g = c.args.g in
    let a = c.a_callee-a.result in
    let v = c.transposed_at-callee.result.now in
    let q = c.in_ok-place.ensures in
    let made = at_place old new c.transpose_once.new.done.entries a c.in_ok-place.place v q.transposed c.transposed_at-callee.ensures in
    let ms = c.as_slice-2.result.now in
    let same : ms ≡ v.exits.items = c.as_slice-2.ensures.value ∙ c.in_ok-middles.ensures.items ∙ c.as_slice.ensures.value in
    let inside = reached old new c.requires.good g a c.requires.above c.requires.owned c.a_callee-a.ensures.level c.a_callee-a.ensures.callee v.head ms (copied old new a v ms made same) in
    let own : g.at < count new g.level = omega (arith, c.requires.owned, q.extends.more g.level) in
    let there : All (λ j. j < length (node new g.level g.at).connections) ms = subst (λ (n : Node). All (λ j. j < length n.connections) ms) (sym (q.extends.kept g.level g.at c.requires.owned)) inside in
    let none = c.in_ok-rows.ensures in
    let falls : 5 * g.level - 2 < 5 * g.level - 1 = omega (arith, c.requires.above) in
    search rules

pub transpose_above-assemble_rows-requires-clause-middles : goal.transpose_above-assemble_rows-requires-clause-middles
transpose_above-assemble_rows-requires-clause-middles t c =
    let old = c.args.table.now.levels in
    let new = c.transpose_once.new.table.levels in
    let next = c.transposed_rows.new.table.levels in
    let a = c.a_callee-a.result in
    let v = c.transposed_at-callee.result.now in
    let q = c.in_ok-place.ensures in
    let made = at_place old new c.transpose_once.new.done.entries a c.in_ok-place.place v q.transposed c.transposed_at-callee.ensures in
    let ms = c.as_slice-2.result.now in
    let same : ms ≡ v.exits.items = c.as_slice-2.ensures.value ∙ c.in_ok-middles.ensures.items ∙ c.as_slice.ensures.value in
    c.in_ok-transposed_rows.ensures.rows.long ∙ ap length same ∙ sym made.canon.reached ∙ (level_holds new q.good v.head.level).reaches v.head.at made.there
    ∙ sym (exits_kept new next c.in_ok-transposed_rows.ensures.extends v.head.level v.head.at made.there)

pub transpose_above-returns-clause-transposed : goal.transpose_above-returns-clause-transposed
transpose_above-returns-clause-transposed t c =
    let old = c.args.table.now.levels in
    let new = c.transpose_once.new.table.levels in
    let next = c.transposed_rows.new.table.levels in
    let g = c.args.g in
    let a = c.a_callee-a.result in
    let v = c.transposed_at-callee.result.now in
    let q = c.in_ok-place.ensures in
    let p = c.in_ok-transposed_rows.ensures in
    let made = at_place old new c.transpose_once.new.done.entries a c.in_ok-place.place v q.transposed c.transposed_at-callee.ensures in
    let ms = c.as_slice-2.result.now in
    let same : ms ≡ v.exits.items = c.as_slice-2.ensures.value ∙ c.in_ok-middles.ensures.items ∙ c.as_slice.ensures.value in
    let rows = c.transposed_rows.new.rows.rows in
    let call : AboveCall old new next g a v.head ms rows = record {
      good = c.requires.good;
      above = c.requires.above;
      owned = c.requires.owned;
      a_level = c.a_callee-a.ensures.level;
      a_is = c.a_callee-a.ensures.callee;
      good1 = q.good;
      extends1 = q.extends;
      canon = copied old new a v ms made same;
      good2 = p.good;
      extends2 = p.extends;
      listed = p.rows;
    } in
    if_ok c.assemble_rows.result _ _ c.assemble_rows.ensures.assembled (λ r h. above_made old new next c.assemble_rows.new.table.levels g a v.head ms rows r.0 r.1.items call h)

pub transpose_above-returns-clause-known : goal.transpose_above-returns-clause-known
transpose_above-returns-clause-known t c =
    let p = c.in_ok-transposed_rows.ensures in
    let known = known_kept c.transposed_rows.new.table.levels c.assemble_rows.new.table.levels p.good c.assemble_rows.ensures.kept c.transposed_rows.new.done.entries p.known in
    on_ok_always c.assemble_rows.result known
