use Rattle.std.proofs.Common.{rules, ◌≡◌, ◌<◌, ◌≤◌, List, ℕ, suc, length, get_or, map, sym, refl, ap, ◌∙◌, subst, arith, add-one}
use Rattle.std.specs.List.{All}
use Rattle.std.proofs.lemmas.Bool.{false≢true}
use Rattle.std.proofs.lemmas.List.{get_or-map, length-map}
use Rattle.cf_model.specs.Renumbering.{Grows, IsCanon}
use Rattle.cf_model.specs.Diagrams.{Connection, no_connection, connection_at, count, node, exits, pattern, row}
use Rattle.cf_model.proofs.Growing.{exits_kept, pattern_kept}
use Rattle.cf_table.specs.declared.BConn.{BConn}
use Rattle.cf_table.specs.Groupings.{Groupings, node_with, IsInterned}
use Rattle.cf_build.specs.Assembling.{Stands, classed}
use Rattle.cf_build.specs.declared.rows.Row.{Row}
use Rattle.cf_build.specs.Joining.{IsLooseNode, AreInTurn, labels_in, IsLooseConnection, row_connection, loose_node, returning, classed_connection, IsThin, AreThin, blank_row}
use Rattle.cf_build.specs.Parts.{AddsParts, AddsPartsOf}
use Rattle.cf_model.proofs.RenumberingLaws.{canon_length, numbers_from}
use Rattle.cf_build.proofs.Joins.{made, base_merged}
use Rattle.cf_build.proofs.Placing.{in_turn_within}
use Rattle.cf_build.proofs.Turns.{if_ok2, Joining, joining_fit, internable, joined, merging, thinned}
use Rattle.cf_build.proofs.Differing.{differing, joining_differing}
use Rattle.cf_build.proofs.Loops.{going}
use Rattle.cf_build.proofs.PartLaws.{join_added}
use Rattle.cf_model.proofs.Canonicity.{level_holds}
use Rattle.cf_model.proofs.Growth.{Under-width}
use Rattle.cf_build.proofs.Words.{classed_same}
use Rattle.cf_table.proofs.Reductions.{reduction_by, reduction_of_key}
use Rattle.cf_build.proofs.merge.+merge.Goals as goal

pub join-merge-requires : goal.join-merge-requires
join-merge-requires t c =
    let l = c.args.a.level in
    let owned : c.args.a.at < count c.thin_rows.new.table.levels l = omega (arith, c.requires.loose.callee_exists, c.in_ok-thin_rows.ensures.extends.more l) in
    let canon : IsCanon c.as_slice-2.result.now c.in_ok-classes.classes.items c.in_ok-classes.bs.items = c.in_ok-classes.ensures.canon in
    let rows : length c.thin_rows.new.conns.items ≡ length (map (row_connection c.args.labels.now) c.args.rows.now) = c.in_ok-thin_rows.ensures.thin.long in
    let long : length c.as_slice-3.result.now ≡ exits c.thin_rows.new.table.levels l c.args.a.at =
    ap length c.as_slice-3.ensures ∙ canon_length _ _ _ canon ∙ ap length c.as_slice-2.ensures ∙ rows ∙ c.requires.loose.middles ∙ sym (exits_kept c.args.table.now.levels c.thin_rows.new.table.levels c.in_ok-thin_rows.ensures.extends l c.args.a.at c.requires.loose.callee_exists) in
    let grow : Grows 0 c.as_slice-3.result.now = subst (λ (v : List ℕ). Grows 0 v) (sym c.as_slice-3.ensures) canon.grows in
    let seven : l ≤ 7 = omega (arith, c.requires.level) in
    search rules

pub join-intern-requires-2 : goal.join-intern-requires-2
join-intern-requires-2 t c =
    let l = c.args.a.level in
    let m = c.in_ok-callee.ensures.merged in
    let j : Joining c.args.table.now c.thin_rows.new.table c.merge.new.table l (loose_node c.args.a.at c.args.rows.now c.args.labels.now) c.as_slice-2.result.now c.as_slice-4.result.now c.as_slice-3.result.now c.in_ok-callee.callee.at = record {
      good = c.requires.good;
      is_loose = c.requires.loose;
      good1 = c.in_ok-thin_rows.ensures.good;
      extends1 = c.in_ok-thin_rows.ensures.extends;
      thin = subst (λ (v : List BConn). AreThin c.thin_rows.new.table l (pattern c.args.table.now.levels l) (map (row_connection c.args.labels.now) c.args.rows.now) v) (sym c.as_slice-2.ensures) c.in_ok-thin_rows.ensures.thin;
      canon = subst (λ (v : List ℕ). IsCanon c.as_slice-2.result.now v c.as_slice-4.result.now) (sym c.as_slice-3.ensures) (subst (λ (v : List BConn). IsCanon c.as_slice-2.result.now c.in_ok-classes.classes.items v) (sym c.as_slice-4.ensures.value) c.in_ok-classes.ensures.canon);
      good2 = c.in_ok-callee.ensures.good;
      extends2 = c.in_ok-callee.ensures.extends;
      longer2 = c.in_ok-callee.ensures.longer;
      differ = c.law-2.ensures.differ;
      callee_exists = subst (λ (x : ℕ). c.in_ok-callee.callee.at < count c.merge.new.table.levels x) m.level m.there;
      a_callee = subst (λ (x : ℕ). pattern c.merge.new.table.levels x c.in_ok-callee.callee.at ≡ classed c.as_slice-3.result.now (pattern c.thin_rows.new.table.levels l c.args.a.at)) m.level m.is_it;
    } in
    internable _ _ _ _ _ _ _ _ c.in_ok-callee.callee j m.level c.requires.level

pub join-returns-clause-joined : goal.join-returns-clause-joined
join-returns-clause-joined t c =
    let l = c.args.a.level in
    let m = c.in_ok-callee.ensures.merged in
    let j : Joining c.args.table.now c.thin_rows.new.table c.merge.new.table l (loose_node c.args.a.at c.args.rows.now c.args.labels.now) c.as_slice-2.result.now c.as_slice-4.result.now c.as_slice-3.result.now c.in_ok-callee.callee.at = record {
      good = c.requires.good;
      is_loose = c.requires.loose;
      good1 = c.in_ok-thin_rows.ensures.good;
      extends1 = c.in_ok-thin_rows.ensures.extends;
      thin = subst (λ (v : List BConn). AreThin c.thin_rows.new.table l (pattern c.args.table.now.levels l) (map (row_connection c.args.labels.now) c.args.rows.now) v) (sym c.as_slice-2.ensures) c.in_ok-thin_rows.ensures.thin;
      canon = subst (λ (v : List ℕ). IsCanon c.as_slice-2.result.now v c.as_slice-4.result.now) (sym c.as_slice-3.ensures) (subst (λ (v : List BConn). IsCanon c.as_slice-2.result.now c.in_ok-classes.classes.items v) (sym c.as_slice-4.ensures.value) c.in_ok-classes.ensures.canon);
      good2 = c.in_ok-callee.ensures.good;
      extends2 = c.in_ok-callee.ensures.extends;
      longer2 = c.in_ok-callee.ensures.longer;
      differ = c.law-2.ensures.differ;
      callee_exists = subst (λ (x : ℕ). c.in_ok-callee.callee.at < count c.merge.new.table.levels x) m.level m.there;
      a_callee = subst (λ (x : ℕ). pattern c.merge.new.table.levels x c.in_ok-callee.callee.at ≡ classed c.as_slice-3.result.now (pattern c.thin_rows.new.table.levels l c.args.a.at)) m.level m.is_it;
    } in
    if_ok2 c.intern-2.result _ _ _ c.intern-2.ensures.level c.intern-2.ensures.interned
    (λ g e h. joined c.args.table.now c.thin_rows.new.table c.merge.new.table c.intern-2.new.self l (loose_node c.args.a.at c.args.rows.now c.args.labels.now) c.as_slice-2.result.now c.as_slice-4.result.now c.as_slice-3.result.now c.in_ok-callee.callee.at j c.intern-2.ensures.kept g (omega (arith, e, m.level)) h)

pub merge-join-requires : goal.merge-join-requires
merge-join-requires t c =
    let l = c.a_callee-a.result.level in
    let d = loose_node c.a_callee-a.result.at c.as_slice.result.now c.as_slice-2.result.now in
    let d_is : d ≡ made c.a_callee-a.result.at (map (classed_connection c.args.classes.now) (node c.args.table.now.levels c.args.g.level c.args.g.at).connections) =
    ap (λ (v : List Row). loose_node c.a_callee-a.result.at v c.as_slice-2.result.now) c.as_slice.ensures ∙ ap (λ (v : List ℕ). loose_node c.a_callee-a.result.at c.fill_classed_rows.new.rows.items v) c.as_slice-2.ensures
    ∙ ap (λ (v : List Connection). made c.a_callee-a.result.at v) c.in_ok-fill_classed_rows.ensures.rows in
    let r : IsLooseNode (count c.args.table.now.levels l) (exits c.args.table.now.levels l) d = (merging c.args.table.now.levels c.requires.good c.args.g.level l c.args.g.at c.a_callee-a.result.at c.args.classes.now d c.a_callee-a.ensures.level c.requires.owned c.a_callee-a.ensures.callee d_is c.requires.entries c.requires.grows).0 in
    let six : l ≤ 6 = omega (arith, c.requires.level, c.a_callee-a.ensures.level) in
    let turn : AreInTurn 0 c.as_slice.result.now (length c.as_slice-2.result.now) = subst (λ (v : List Row). AreInTurn 0 v (length c.as_slice-2.result.now)) (sym c.as_slice.ensures) (subst (λ (v : List ℕ). AreInTurn 0 c.fill_classed_rows.new.rows.items (length v)) (sym c.as_slice-2.ensures) c.in_ok-fill_classed_rows.ensures.in_turn) in
    let all : All (λ r. r.callee.level ≡ l) c.as_slice.result.now = subst (λ (v : List Row). All (λ r. r.callee.level ≡ l) v) (sym c.as_slice.ensures) (λ k e h. omega (arith, c.in_ok-fill_classed_rows.ensures.levels k e h, c.a_callee-a.ensures.level)) in
    search rules

pub merge-returns-clause-merged : goal.merge-returns-clause-merged
merge-returns-clause-merged t c =
    let l = c.a_callee-a.result.level in
    let d = loose_node c.a_callee-a.result.at c.as_slice.result.now c.as_slice-2.result.now in
    let d_is : d ≡ made c.a_callee-a.result.at (map (classed_connection c.args.classes.now) (node c.args.table.now.levels c.args.g.level c.args.g.at).connections) =
    ap (λ (v : List Row). loose_node c.a_callee-a.result.at v c.as_slice-2.result.now) c.as_slice.ensures ∙ ap (λ (v : List ℕ). loose_node c.a_callee-a.result.at c.fill_classed_rows.new.rows.items v) c.as_slice-2.ensures
    ∙ ap (λ (v : List Connection). made c.a_callee-a.result.at v) c.in_ok-fill_classed_rows.ensures.rows in
    let r = (merging c.args.table.now.levels c.requires.good c.args.g.level l c.args.g.at c.a_callee-a.result.at c.args.classes.now d c.a_callee-a.ensures.level c.requires.owned c.a_callee-a.ensures.callee d_is c.requires.entries c.requires.grows).1 in
    let s = c.in_ok-merged.ensures.joined in
    subst (λ (u : Groupings). Stands u.levels c.in_ok-merged.merged c.args.g.level (classed c.args.classes.now (pattern c.args.table.now.levels c.args.g.level c.args.g.at))) (sym c.in_ok-keep_reduction.ensures)
    (record { level = s.level ∙ sym (add-one l) ∙ c.a_callee-a.ensures.level; there = s.there; is_it = s.is_it ∙ r })

pub merge-keep_reduction-requires : goal.merge-keep_reduction-requires
merge-keep_reduction-requires t c =
    let l = c.a_callee-a.result.level in
    let d = loose_node c.a_callee-a.result.at c.as_slice.result.now c.as_slice-2.result.now in
    let d_is : d ≡ made c.a_callee-a.result.at (map (classed_connection c.args.classes.now) (node c.args.table.now.levels c.args.g.level c.args.g.at).connections) =
    ap (λ (v : List Row). loose_node c.a_callee-a.result.at v c.as_slice-2.result.now) c.as_slice.ensures ∙ ap (λ (v : List ℕ). loose_node c.a_callee-a.result.at c.fill_classed_rows.new.rows.items v) c.as_slice-2.ensures
    ∙ ap (λ (v : List Connection). made c.a_callee-a.result.at v) c.in_ok-fill_classed_rows.ensures.rows in
    let r = (merging c.args.table.now.levels c.requires.good c.args.g.level l c.args.g.at c.a_callee-a.result.at c.args.classes.now d c.a_callee-a.ensures.level c.requires.owned c.a_callee-a.ensures.callee d_is c.requires.entries c.requires.grows).1 in
    let s = c.in_ok-merged.ensures.joined in
    let x = c.in_ok-merged.ensures.extends in
    let k = c.in_ok-key.ensures in
    reduction_by c.join.new.table.levels c.in_ok-key.key c.args.g c.args.classes.now c.in_ok-merged.merged k.grouping k.classes (record {
      owned = omega (arith, c.requires.owned, x.more c.args.g.level);
      level = s.level ∙ sym (add-one l) ∙ c.a_callee-a.ensures.level;
      there = s.there;
      is_it = s.is_it ∙ r ∙ ap (λ (p : List ℕ). classed c.args.classes.now p) (sym (pattern_kept c.args.table.now.levels c.join.new.table.levels c.requires.good x c.args.g.level c.args.g.at c.requires.owned));
    })

pub merge-returns-in-Some-clause-merged : goal.merge-returns-in-Some-clause-merged
merge-returns-in-Some-clause-merged t c =
    let k = c.in_ok-key.ensures in
    let r = reduction_of_key c.args.table.now.levels c.in_ok-key.key c.args.g c.args.classes.now c.in-Some.known k.grouping k.classes c.in-Some.ensures in
    record { level = r.level; there = r.there; is_it = r.is_it }

pub thin-returns-clause-thin : goal.thin-returns-clause-thin
thin-returns-clause-thin t c =
    thinned c.args.table.now c.merge.new.table c.intern_tuple-2.new.self c.args.g.level c.args.g.at c.args.labels.now c.as_slice.result.now c.as_slice-2.result.now c.in_ok-to.to c.in_ok-ret-2.ret.at _
    c.requires.good c.in_ok-to.ensures.good c.in_ok-ret-2.ensures.levels c.requires.owned c.requires.entries
    (subst (λ (v : List ℕ). IsCanon c.args.labels.now v c.as_slice-2.result.now) (sym c.as_slice.ensures) (subst (λ (v : List ℕ). IsCanon c.args.labels.now c.in_ok-ranks.ranks.items v) (sym c.as_slice-2.ensures.value) c.in_ok-ranks.ensures.canon))
    c.in_ok-to.ensures.merged c.in_ok-ret-2.ensures.interned refl refl

pub thin_rows-labels_of-requires : goal.thin_rows-labels_of-requires
thin_rows-labels_of-requires t c =
    let w = in_turn_within 0 (length c.args.labels.now) c.args.rows.now c.requires.in_turn c.loop-i.i blank_row c.loop-i-test.true in
    record { order = w.0; within = w.1 }

pub thin_rows-thin-requires : goal.thin_rows-thin-requires
thin_rows-thin-requires t c =
    let i = c.loop-i.i in
    let r = get_or c.args.rows.now i blank_row in
    let l = c.args.level in
    let ls = c.args.labels.now in
    let old = c.args.table.now.levels in
    let now = c.loop-i.table.levels in
    let at : connection_at (map (row_connection ls) c.args.rows.now) i ≡ row_connection ls r = get_or-map (row_connection ls) c.args.rows.now i blank_row no_connection c.loop-i-test.true in
    let w : IsLooseConnection (count old l) (exits old l) (row_connection ls r) = subst (λ (b : Connection). IsLooseConnection (count old l) (exits old l) b) at (c.requires.connections i (omega (arith, c.loop-i-test.true, length-map c.args.rows.now (row_connection ls)))) in
    let lev : r.callee.level ≡ l = c.requires.levels i blank_row c.loop-i-test.true in
    let six : r.callee.level ≤ 6 = omega (arith, lev, c.requires.level) in
    let own : r.callee.at < count now r.callee.level = subst (λ (m : ℕ). r.callee.at < count now m) (sym lev) (omega (arith, w.callee_exists, c.loop-i.invariant.extends.more l)) in
    let long : length c.labels_of.result.now ≡ exits now r.callee.level r.callee.at = ap length c.labels_of.ensures ∙ w.entries ∙ sym (exits_kept old now c.loop-i.invariant.extends l r.callee.at w.callee_exists) ∙ ap (λ (m : ℕ). exits now m r.callee.at) (sym lev) in
    search rules

pub thin_rows-loop-i-preserved : goal.thin_rows-loop-i-preserved
thin_rows-loop-i-preserved t c =
    let i = c.loop-i.i in
    let r = get_or c.args.rows.now i blank_row in
    let l = c.args.level in
    let ls = c.args.labels.now in
    let old = c.args.table.now.levels in
    let ns = map (row_connection ls) c.args.rows.now in
    let now = c.loop-i.table in
    let at : connection_at ns i ≡ row_connection ls r = get_or-map (row_connection ls) c.args.rows.now i blank_row no_connection c.loop-i-test.true in
    let lt : i < length ns = omega (arith, c.loop-i-test.true, length-map c.args.rows.now (row_connection ls)) in
    let w = c.requires.connections i lt in
    let lev : r.callee.level ≡ l = c.requires.levels i blank_row c.loop-i-test.true in
    let b = c.in_ok-conn.conn in
    let thin1 : IsThin c.thin.new.table r.callee.level (row (pattern now.levels r.callee.level) (row_connection ls r)) (labels_in ls r) b =
    subst (λ (v : List ℕ). IsThin c.thin.new.table r.callee.level (row (pattern now.levels r.callee.level) (returning r.callee.at v)) v b) c.labels_of.ensures c.in_ok-conn.ensures.thin in
    let thin2 : IsThin c.thin.new.table l (row (pattern now.levels l) (row_connection ls r)) (labels_in ls r) b = subst (λ (m : ℕ). IsThin c.thin.new.table m (row (pattern now.levels m) (row_connection ls r)) (labels_in ls r) b) lev thin1 in
    let thin3 : IsThin c.thin.new.table l (row (pattern now.levels l) (connection_at ns i)) (connection_at ns i).returns b = subst (λ (n : Connection). IsThin c.thin.new.table l (row (pattern now.levels l) n) n.returns b) (sym at) thin2 in
    going c.args.table.now now c.thin.new.table l ns i c.loop-i.conns.items c.push.new.self.items b c.requires.good c.loop-i.invariant lt w.callee_exists thin3 (subst (λ (m : ℕ). AddsParts now.levels c.thin.new.table.levels m b.«to».at) lev c.in_ok-conn.ensures.added) c.in_ok-conn.ensures.good c.in_ok-conn.ensures.extends c.in_ok-conn.ensures.longer c.in_ok-conn.ensures.products c.in_ok-conn.ensures.triples c.in_ok-push.ensures.ok

pub join-returns-clause-added : goal.join-returns-clause-added
join-returns-clause-added t c =
    let l = c.args.a.level in
    let old = c.args.table.now.levels in
    let s = c.thin_rows.new.table.levels in
    let u = c.merge.new.table.levels in
    let v = c.intern-2.new.self.levels in
    let m = c.in_ok-callee.ensures.merged in
    let a = c.in_ok-callee.callee.at in
    let all = c.thin_rows.new.conns.items in
    let bs = c.as_slice-4.result.now in
    let classes = c.in_ok-classes.classes.items in
    let thin = c.in_ok-thin_rows.ensures.thin in
    let canon : IsCanon all classes bs = subst (λ (w : List BConn). IsCanon w classes bs) c.as_slice-2.ensures (subst (λ (w : List BConn). IsCanon c.as_slice-2.result.now classes w) (sym c.as_slice-4.ensures.value) c.in_ok-classes.ensures.canon) in
    let ca : a < count u l = subst (λ (x : ℕ). a < count u x) m.level m.there in
    let aa : AddsParts s u l a = subst (λ (x : ℕ). AddsParts s u x a) m.level c.in_ok-callee.ensures.added in
    if_ok2 c.intern-2.result _ _ _ c.intern-2.ensures.level c.intern-2.ensures.interned (λ g e h.
    (let lev : g.level ≡ suc l = omega (arith, e, m.level) in
    subst (λ (x : ℕ). AddsParts old v x g.at) (sym lev)
    (join_added old s u v l c.merge.new.table.tuples all bs classes a g.at c.in_ok-thin_rows.ensures.good c.in_ok-callee.ensures.good c.in_ok-callee.ensures.extends c.intern-2.ensures.kept
    (omega (arith, c.requires.level, c.law-2.ensures.eight)) (λ i li. (thin.each i (omega (arith, li, thin.long))).good.callee_exists) ca c.in_ok-thin_rows.ensures.added aa canon
    (subst (λ (x : ℕ). IsInterned u v x (node_with c.merge.new.table.tuples a bs) g.at) lev h))))

pub merge-returns-then-is_rising-clause-merged : goal.merge-returns-then-is_rising-clause-merged
merge-returns-then-is_rising-clause-merged t c =
    let l = c.args.g.level in
    let at = c.args.g.at in
    let old = c.args.table.now.levels in
    let cs = c.args.classes.now in
    let p = pattern old l at in
    record {
      level = refl;
      there = c.requires.owned;
      is_it = sym (classed_same cs p (Under-width 0 (length cs) p (omega (arith, (level_holds old c.requires.good l).reaches at c.requires.owned, c.requires.entries))) (c.is_rising.ensures.0 c.if-is_rising.true));
    }

pub merge-returns-then-g-eq0-clause-merged : goal.merge-returns-then-g-eq0-clause-merged
merge-returns-then-g-eq0-clause-merged t c = record {
  level = sym c.if-g-eq0.true;
  there = omega (arith, c.requires.good.base);
  is_it = base_merged c.args.table.now.levels c.args.g.level c.args.g.at c.args.classes.now c.if-g-eq0.true c.requires.entries c.requires.grows (λ h. false≢true (sym c.if-is_rising.false ∙ c.is_rising.ensures.1 h));
}

pub thin-returns-then-are_few_and_differ-clause-thin : goal.thin-returns-then-are_few_and_differ-clause-thin
thin-returns-then-are_few_and_differ-clause-thin t c =
    differing c.args.table.now c.intern_tuple.new.self c.args.labels.now c.args.g c.in_ok-ret.ret.at _ c.requires.good c.in_ok-ret.ensures.levels c.requires.owned c.requires.entries (c.are_few_and_differ.ensures c.if-are_few_and_differ.true) c.in_ok-ret.ensures.interned refl refl

pub join-intern-requires : goal.join-intern-requires
join-intern-requires t' c =
    let t = c.args.table.now in
    let s = c.thin_rows.new.table in
    let l = c.args.a.level in
    let d = loose_node c.args.a.at c.args.rows.now c.args.labels.now in
    let all = c.as_slice-then-are_few_and_differ.result.now in
    let j : Joining t s s l d all all (numbers_from 0 (length all)) c.args.a.at =
    joining_differing t s l d c.thin_rows.new.conns.items c.as_slice.result.now all c.as_slice.ensures c.as_slice-then-are_few_and_differ.ensures c.requires.good c.requires.loose
    c.in_ok-thin_rows.ensures.good c.in_ok-thin_rows.ensures.extends c.in_ok-thin_rows.ensures.thin c.law.ensures.differ (c.are_few_and_differ.ensures c.if-are_few_and_differ.true) in
    internable t s s l d all all (numbers_from 0 (length all)) c.args.a j refl c.requires.level

pub join-returns-then-are_few_and_differ-clause-joined : goal.join-returns-then-are_few_and_differ-clause-joined
join-returns-then-are_few_and_differ-clause-joined t' c =
    let t = c.args.table.now in
    let s = c.thin_rows.new.table in
    let l = c.args.a.level in
    let d = loose_node c.args.a.at c.args.rows.now c.args.labels.now in
    let all = c.as_slice-then-are_few_and_differ.result.now in
    let j : Joining t s s l d all all (numbers_from 0 (length all)) c.args.a.at =
    joining_differing t s l d c.thin_rows.new.conns.items c.as_slice.result.now all c.as_slice.ensures c.as_slice-then-are_few_and_differ.ensures c.requires.good c.requires.loose
    c.in_ok-thin_rows.ensures.good c.in_ok-thin_rows.ensures.extends c.in_ok-thin_rows.ensures.thin c.law.ensures.differ (c.are_few_and_differ.ensures c.if-are_few_and_differ.true) in
    if_ok2 c.intern.result _ _ _ c.intern.ensures.level c.intern.ensures.interned
    (λ g e h. joined t s s c.intern.new.self l d all all (numbers_from 0 (length all)) c.args.a.at j c.intern.ensures.kept g (e ∙ add-one l) h)

pub join-returns-then-are_few_and_differ-clause-added : goal.join-returns-then-are_few_and_differ-clause-added
join-returns-then-are_few_and_differ-clause-added t' c =
    let t = c.args.table.now in
    let s = c.thin_rows.new.table in
    let l = c.args.a.level in
    let d = loose_node c.args.a.at c.args.rows.now c.args.labels.now in
    let all = c.as_slice-then-are_few_and_differ.result.now in
    let j : Joining t s s l d all all (numbers_from 0 (length all)) c.args.a.at =
    joining_differing t s l d c.thin_rows.new.conns.items c.as_slice.result.now all c.as_slice.ensures c.as_slice-then-are_few_and_differ.ensures c.requires.good c.requires.loose
    c.in_ok-thin_rows.ensures.good c.in_ok-thin_rows.ensures.extends c.in_ok-thin_rows.ensures.thin c.law.ensures.differ (c.are_few_and_differ.ensures c.if-are_few_and_differ.true) in
    let v = c.intern.new.self.levels in
    let thin = c.in_ok-thin_rows.ensures.thin in
    let conns : c.thin_rows.new.conns.items ≡ all = sym c.as_slice-then-are_few_and_differ.ensures in
    let parts : AddsPartsOf t.levels s.levels l all = subst (λ (w : List BConn). AddsPartsOf t.levels s.levels l w) conns c.in_ok-thin_rows.ensures.added in
    if_ok2 c.intern.result _ _ _ c.intern.ensures.level c.intern.ensures.interned (λ g e h.
    (let lev : g.level ≡ suc l = e ∙ add-one l in
    subst (λ (x : ℕ). AddsParts t.levels v x g.at) (sym lev)
    (join_added t.levels s.levels s.levels v l s.tuples all all (numbers_from 0 (length all)) c.args.a.at g.at j.good1 j.good1 j.extends2 c.intern.ensures.kept
    (omega (arith, c.requires.level, c.law.ensures.eight)) (λ i li. (joining_fit t s s l d all all (numbers_from 0 (length all)) c.args.a.at j i li).good.callee_exists) j.callee_exists parts (λ k i ge lt. absurd (omega (arith, ge, lt))) j.canon
    (subst (λ (x : ℕ). IsInterned s.levels v x (node_with s.tuples c.args.a.at all) g.at) lev h))))
