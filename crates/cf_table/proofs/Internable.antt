use Rattle.std.proofs.Common.{◌≡◌, ℕ, ◌<◌, ◌≤◌, List, length, map, get_or, sym, ◌∙◌, ap, subst, arith}
use Rattle.std.specs.List.{All}
use Rattle.std.proofs.lemmas.List.{length-map, get_or-map}
use Rattle.std.proofs.lemmas.List.Folds.{flat_map-map}
use Rattle.cf_model.specs.Renumbering.{Grows, AllDiffer}
use Rattle.cf_model.specs.Diagrams.{Connection, no_connection, connection_at, count, exits, IsGoodConnection}
use Rattle.cf_table.specs.declared.Gid.{Gid}
use Rattle.cf_table.specs.declared.BConn.{BConn}
use Rattle.cf_table.specs.Groupings.{Groupings, Owns, exits_of, connection_of, IsInternable}
use Rattle.cf_table.specs.Goodness.{returns_of, IsGoodOver}
use Rattle.cf_table.proofs.Told.{blank}
use Rattle.cf_table.proofs.Shown.{connection_tells}
use Rattle.cf_table.proofs.Differ.{apart_differ, differ_apart}

-- What the test of a node looks at.
pub record Tested (t : Groupings) (a : Gid) (bs : List BConn) : Type 0 where
  pub level : a.level ≤ 6
  pub owned : Owns t a
  pub middles : length bs ≡ exits_of t a
  pub connections : All (IsGoodOver t a.level) bs
  pub differ : AllDiffer bs
  pub first_reach : Grows 0 (returns_of t.tuples bs)

-- the connection at a place, by its ids
named : (tuples : List (List ℕ)) (bs : List BConn) (j : ℕ) → j < length bs → connection_at (map (connection_of tuples) bs) j ≡ connection_of tuples (get_or bs j blank)
named tuples bs j h = get_or-map (connection_of tuples) bs j blank no_connection h

pub internable : (t : Groupings) (a : Gid) (bs : List BConn) → AllDiffer t.tuples → Tested t a bs → IsInternable t a bs
internable t a bs d w =
    let f = connection_of t.tuples in
    let len = length-map bs f in
    record {
      level = w.level;
      connections = λ k e h. (w.connections k e h).over;
      good = record {
        callee_exists = w.owned;
        middles = len ∙ w.middles;
        good_connections = λ j h. (let hj : j < length bs = omega (arith, h, len) in subst (λ (b : Connection). IsGoodConnection (count t.levels a.level) (exits t.levels a.level) b) (sym (named t.tuples bs j hj)) (w.connections j blank hj).good);
        first_reach = subst (λ (xs : List ℕ). Grows 0 xs) (sym (flat_map-map (λ b. b.returns) f bs)) w.first_reach;
        differ = λ i j hi hj e.
            (let li : i < length bs = omega (arith, hi, len) in
            let lj : j < length bs = omega (arith, hj, len) in
            let x = w.connections i blank li in
            let y = w.connections j blank lj in
            differ_apart blank bs w.differ i j li lj (connection_tells t.tuples d (get_or bs i blank) (get_or bs j blank) (x.over.level ∙ sym y.over.level) x.over.tuple y.over.tuple (sym (named t.tuples bs i li) ∙ e ∙ named t.tuples bs j lj)));
      };
    }

pub tested : (t : Groupings) (a : Gid) (bs : List BConn) → IsInternable t a bs → Tested t a bs
tested t a bs r =
    let f = connection_of t.tuples in
    let len = length-map bs f in
    record {
      level = r.level;
      owned = r.good.callee_exists;
      middles = sym len ∙ r.good.middles;
      connections = λ k e h. record {
        over = r.connections k e h;
        good = subst (λ (b : Connection). IsGoodConnection (count t.levels a.level) (exits t.levels a.level) b) (get_or-map f bs k e no_connection h) (r.good.good_connections k (omega (arith, h, len)));
      };
      differ = apart_differ blank bs (λ i j hi hj e. r.good.differ i j (omega (arith, hi, len)) (omega (arith, hj, len)) (named t.tuples bs i hi ∙ ap f e ∙ sym (named t.tuples bs j hj)));
      first_reach = subst (λ (xs : List ℕ). Grows 0 xs) (flat_map-map (λ b. b.returns) f bs) r.good.first_reach;
    }
