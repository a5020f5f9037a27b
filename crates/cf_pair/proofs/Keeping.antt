use Rattle.std.proofs.Common.{◌≡◌, ℕ, suc, ◌<◌, ◌*◌, Bool, true, List, [], ◌∷◌, ◌++◌, map, refl, sym, ◌∙◌, ap, subst, arith}
use Rattle.std.specs.List.{zip}
use Rattle.std.specs.Prelude.{Result}
use Rattle.std.specs.Result.{is_ok, IsErr}
use Rattle.cf_model.specs.Renumbering.{IsNew}
use Rattle.cf_model.specs.Patterns.{Pattern, sub}
use Rattle.cf_model.specs.Diagrams.{Levels, Connection, count, exits, exit_at, pattern, row, IsGood, IsGoodConnection, Extends}
use Rattle.cf_model.proofs.Growing.{exits_kept, pattern_kept}
use Rattle.cf_tuple.specs.Books.{Lengthens}
use Rattle.cf_tuple.proofs.BookLaws.{kept_at}
use Rattle.cf_table.specs.declared.Gid.{Gid}
use Rattle.cf_table.specs.declared.BConn.{BConn}
use Rattle.cf_table.specs.Groupings.{Groupings, connection_of, patterns_of, IsProduct}
use Rattle.cf_table.specs.Triples.{zip3, IsTriple}
use Rattle.cf_table.specs.Goodness.{IsGoodOver}
use Rattle.cf_build.specs.Assembling.{Rowed, HasCanon, AddsOnly}
use Rattle.cf_pair.specs.Products.{connection_row, Lists, AddsPartsOf, GainsRow, IsReturned, IsAdded}
use Rattle.cf_pair.specs.Triples.{row_triples}
use Rattle.cf_pair.proofs.Pushing.{gains_so}
use Rattle.cf_pair.specs.Charges.{pair_work, IsCharged}
use Rattle.cf_pair.proofs.Bounds.{charged_self, still_new, pair_kept, sub_self, failed}

abbrev connection : ℕ → List ℕ → Connection
connection callee returns = record { callee = callee; returns = returns }

-- a B-connection names the same as the table grows
connection_kept : (t u : Groupings) → Lengthens t.tuples u.tuples → (l : ℕ) (b : BConn) → IsGoodOver t l b → connection_of u.tuples b ≡ connection_of t.tuples b
connection_kept t u longer l b h = ap (connection b.«to».at) (kept_at t.tuples u.tuples longer b.ret.at [] h.over.tuple)

-- a good B-connection stays one
pub good_over_kept : (t u : Groupings) → Extends t.levels u.levels → Lengthens t.tuples u.tuples → (l : ℕ) (b : BConn) → IsGoodOver t l b → IsGoodOver u l b
good_over_kept t u x longer l b h =
    let g = h.good in
    record {
      over = record { level = h.over.level; tuple = omega (arith, h.over.tuple, longer.more) };
      good = subst (λ (d : Connection). IsGoodConnection (count u.levels l) (exits u.levels l) d) (sym (connection_kept t u longer l b h))
          (record {
            callee_exists = omega (arith, g.callee_exists, x.more l);
            entries = g.entries ∙ sym (exits_kept t.levels u.levels x l b.«to».at g.callee_exists);
            once = g.once;
          });
    }

-- and has the same row
pub row_kept : (t u : Groupings) → IsGood t.levels → Extends t.levels u.levels → Lengthens t.tuples u.tuples → (l : ℕ) (b : BConn) → IsGoodOver t l b → connection_row u l b ≡ connection_row t l b
row_kept t u good x longer l b h =
    let c = connection_of t.tuples b in
    ap (row (pattern u.levels l)) (connection_kept t u longer l b h) ∙ ap (map (exit_at c)) (pattern_kept t.levels u.levels good x l c.callee h.good.callee_exists)

-- a product of two groupings stays one of them as the table grows
pub canon_kept : (t u : Levels) → IsGood t → Extends t u → (g h head : Gid) (ps : List (ℕ × ℕ)) → g.at < count t g.level → h.at < count t h.level
    → HasCanon u head g.level (zip (pattern t g.level g.at) (pattern t h.level h.at)) ps → HasCanon u head g.level (zip (pattern u g.level g.at) (pattern u h.level h.at)) ps
canon_kept t u good x g h head ps hg hh p =
    subst (λ (r : List ℕ). HasCanon u head g.level (zip (pattern u g.level g.at) r) ps) (sym (pattern_kept t u good x h.level h.at hh))
    (subst (λ (r : List ℕ). HasCanon u head g.level (zip r (pattern t h.level h.at)) ps) (sym (pattern_kept t u good x g.level g.at hg)) p)

-- a product as the memo keeps it
pub is_product : (t u : Levels) → IsGood t → Extends t u → (g h head : Gid) (ps : List (ℕ × ℕ)) → h.level ≡ g.level → g.at < count t g.level → h.at < count t h.level
    → HasCanon u head g.level (zip (pattern t g.level g.at) (pattern t h.level h.at)) ps → IsProduct u g h head ps
is_product t u good x g h head ps lev hg hh p = record {
  first = omega (arith, hg, x.more g.level);
  second = omega (arith, hh, x.more h.level);
  levels = lev;
  level = p.level;
  there = p.there;
  canon = (canon_kept t u good x g h head ps hg hh p).canon;
}

-- the pair itself is still unknown once its parts are done
pub still_unknown : (t u : Groupings) → IsGood t.levels → Extends t.levels u.levels → (g h : Gid) → g.at < count t.levels g.level → h.at < count t.levels h.level → (s e : ℕ) → IsNew t.products (patterns_of t.levels g h)
    → IsCharged t.products u.products (patterns_of t.levels g h).0 (patterns_of t.levels g h).1 g.level (2 * pair_work (patterns_of t.levels g h)) s e true → IsNew u.products (patterns_of u.levels g h)
still_unknown t u good x g h hg hh s e new c =
    let k = patterns_of t.levels g h in
    subst (λ (q : Pattern × Pattern). IsNew u.products q) (sym (pair_kept t.levels u.levels good x g h hg hh)) (still_new t.products u.products k.0 k.1 (2 * pair_work k) s e c new)

-- an error after the steps of the parts
pub charged_failed : {T E : Type 0} (t : Groupings) (m n : List (Pattern × Pattern)) (g h : Gid) (s e : ℕ) (ok : Bool) (r : Result T E) → IsErr r → IsNew t.products (patterns_of t.levels g h)
    → IsCharged t.products m (patterns_of t.levels g h).0 (patterns_of t.levels g h).1 g.level (2 * pair_work (patterns_of t.levels g h)) s e ok
    → IsCharged t.products n (patterns_of t.levels g h).0 (patterns_of t.levels g h).1 (suc g.level) 0 s e (is_ok r)
charged_failed t m n g h s e ok r err new c =
    let k = patterns_of t.levels g h in
    charged_self t.products m n k.0 k.1 (2 * pair_work k) s e ok (is_ok r) c new (omega arith) (sub_self k.0.level k.0.ranks) (sub_self k.1.level k.1.ranks) (λ y. absurd (failed r err y))

-- the product is kept after the steps of its parts
pub charged_kept : (t u : Groupings) (n : List (Pattern × Pattern)) → IsGood t.levels → Extends t.levels u.levels → (g h : Gid) → g.at < count t.levels g.level → h.at < count t.levels h.level → (s e : ℕ) → IsNew t.products (patterns_of t.levels g h)
    → IsCharged t.products u.products (patterns_of t.levels g h).0 (patterns_of t.levels g h).1 g.level (2 * pair_work (patterns_of t.levels g h)) s e true → n ≡ u.products ++ patterns_of u.levels g h ∷ []
    → IsCharged t.products n (patterns_of t.levels g h).0 (patterns_of t.levels g h).1 (suc g.level) 0 s e true
charged_kept t u n good x g h hg hh s e new c kept =
    let k = patterns_of t.levels g h in
    charged_self t.products u.products n k.0 k.1 (2 * pair_work k) s e true true c new (omega arith) (sub_self k.0.level k.0.ranks) (sub_self k.1.level k.1.ranks)
    (λ y. (refl, kept ∙ ap (λ (q : Pattern × Pattern). u.products ++ q ∷ []) (pair_kept t.levels u.levels good x g h hg hh)))

-- a product of three groupings stays one of them as the table grows
pub canon3_kept : (t u : Levels) → IsGood t → Extends t u → (f g h head : Gid) (ts : List (ℕ × ℕ × ℕ)) → f.at < count t f.level → g.at < count t g.level → h.at < count t h.level
    → HasCanon u head f.level (zip3 (pattern t f.level f.at) (pattern t g.level g.at) (pattern t h.level h.at)) ts → HasCanon u head f.level (zip3 (pattern u f.level f.at) (pattern u g.level g.at) (pattern u h.level h.at)) ts
canon3_kept t u good x f g h head ts hf hg hh p =
    subst (λ (r : List ℕ). HasCanon u head f.level (zip3 (pattern u f.level f.at) (pattern u g.level g.at) r) ts) (sym (pattern_kept t u good x h.level h.at hh))
    (subst (λ (r : List ℕ). HasCanon u head f.level (zip3 (pattern u f.level f.at) r (pattern t h.level h.at)) ts) (sym (pattern_kept t u good x g.level g.at hg))
    (subst (λ (r : List ℕ). HasCanon u head f.level (zip3 r (pattern t g.level g.at) (pattern t h.level h.at)) ts) (sym (pattern_kept t u good x f.level f.at hf)) p))

-- a product of three groupings as the memo keeps it
pub is_triple : (t u : Levels) → IsGood t → Extends t u → (f g h head : Gid) (ts : List (ℕ × ℕ × ℕ)) → f.at < count t f.level → g.at < count t g.level → h.at < count t h.level
    → HasCanon u head f.level (zip3 (pattern t f.level f.at) (pattern t g.level g.at) (pattern t h.level h.at)) ts → IsTriple u f g h head ts
is_triple t u good x f g h head ts hf hg hh p = record {
  first = omega (arith, hf, x.more f.level);
  second = omega (arith, hg, x.more g.level);
  third = omega (arith, hh, x.more h.level);
  level = p.level;
  there = p.there;
  canon = (canon3_kept t u good x f g h head ts hf hg hh p).canon;
}

-- a row of three B-connections has the labels that they had before the table grew
pub lists3_kept : (t u : Groupings) → IsGood t.levels → Extends t.levels u.levels → Lengthens t.tuples u.tuples → (l : ℕ) (x y z : BConn) → IsGoodOver t l x → IsGoodOver t l y → IsGoodOver t l z → (r : Gid × List (ℕ × ℕ × ℕ))
    → Lists u.levels l (zip3 (connection_row u l x) (connection_row u l y) (connection_row u l z)) r → Lists u.levels l (zip3 (connection_row t l x) (connection_row t l y) (connection_row t l z)) r
lists3_kept t u good e longer l x y z hx hy hz r h =
    subst (λ (v : List ℕ). Lists u.levels l (zip3 (connection_row t l x) (connection_row t l y) v) r) (row_kept t u good e longer l z hz)
    (subst (λ (v : List ℕ). Lists u.levels l (zip3 (connection_row t l x) v (connection_row u l z)) r) (row_kept t u good e longer l y hy)
    (subst (λ (v : List ℕ). Lists u.levels l (zip3 v (connection_row u l y) (connection_row u l z)) r) (row_kept t u good e longer l x hx) h))

-- and the table has gained only what its grouping is made of
pub returned_added : (t u : Groupings) → IsGood t.levels → Extends t.levels u.levels → Lengthens t.tuples u.tuples → (x y z : BConn) → IsGoodOver t x.«to».level x → IsGoodOver t x.«to».level y → IsGoodOver t x.«to».level z → («to» : Gid) → «to».level ≡ x.«to».level → AddsPartsOf t u «to»
    → (before now : Rowed (ℕ × ℕ × ℕ)) → GainsRow before now (IsReturned u.levels «to» x.«to».level (row_triples u x y z)) → GainsRow before now (IsAdded t.levels u.levels x.«to».level (row_triples t x y z))
returned_added t u good e longer x y z hx hy hz «to» level added before now =
    let l = x.«to».level in
    let here : AddsOnly t.levels u.levels (sub l (pattern u.levels l «to».at)) = subst (λ (m : ℕ). AddsOnly t.levels u.levels (sub m (pattern u.levels m «to».at))) level added in
    gains_so (IsReturned u.levels «to» l (row_triples u x y z)) (IsAdded t.levels u.levels l (row_triples t x y z)) before now
    (λ r h. record {
      lists = lists3_kept t u good e longer l x y z hx hy hz r h.lists;
      added = subst (λ (g : Gid). AddsOnly t.levels u.levels (sub l (pattern u.levels l g.at))) (sym h.head) here;
    })
