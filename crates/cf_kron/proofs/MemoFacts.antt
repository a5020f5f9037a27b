use Rattle.std.proofs.Common.{◌≡◌, ℕ, suc, ◌<◌, List, [], ◌∷◌, Bool, true, false, not, cond, ◌+◌, ◌&&◌, nat_eq, Option, Some, None, IfSome, position, refl, sym, ◌∙◌, ap, subst, arith}
use Rattle.std.specs.List.{slice_get, position_or_len}
use Rattle.std.specs.Map.{keys_of}
use Rattle.std.proofs.lemmas.Bool.Decides.{nat_tests}
use Rattle.std.proofs.lemmas.Option.{same_Some}
use Rattle.indexmap.specs.IndexMap.{insert_entry}
use Rattle.cf_model.specs.Diagrams.{Levels, IsGood, Extends, count, pattern}
use Rattle.cf_model.specs.Renumbering.{IsCanon}
use Rattle.cf_model.proofs.Growing.{pattern_kept}
use Rattle.cf_table.specs.declared.Gid.{Gid}
use Rattle.cf_table.specs.contracts.GidPartialEq.TheImpl as eq
use Rattle.cf_table.proofs.Entries.{Follows, found_at, inserted}
use Rattle.cf_table.proofs.Told.{same_gid}
use Rattle.cf_kron.specs.declared.memo.Transposed.{Transposed}
use Rattle.cf_kron.specs.Transposed.{turned_exits, IsTransposed, KeepsTransposition, AreTranspositions, HasKey, HasValue, IsTransposedAt}

-- the derived test of two groupings
abbrev pub same : Gid → Gid → Bool
same p q = eq.eq-value.it p q

two : (a b x y : ℕ) → (nat_eq a x && nat_eq b y) ≡ true → (a ≡ x) × (b ≡ y)
two a b x y h = grind (arith, nat_tests)

pub same_grouping : (p q : Gid) → same p q ≡ true → p ≡ q
same_grouping p q h = let s = two p.level p.at q.level q.at h in same_gid p q s.0 s.1

abbrev entry : Gid → Transposed → Gid × Transposed
entry k v = (k, v)

follows : (t : Levels) → Follows same (KeepsTransposition t)
follows t p q v h =
    let e = same_grouping p q h in
    (λ r. subst (λ (k : Gid). KeepsTransposition t (entry k v)) e r, λ r. subst (λ (k : Gid). KeepsTransposition t (entry k v)) (sym e) r)

-- the place that a look-up finds
pub found_place : (es : List (Gid × Transposed)) (k : Gid) (o : Option ℕ) → o ≡ position (same k) (keys_of es) → IfSome o (HasKey es k)
found_place es k None e = tt
found_place es k (Some i) e =
    let x = found_at same k es i (sym e) in
    record { entry = x.0; there = x.1; is_it = sym (same_grouping k x.0.0 x.2) }

-- the place at which a value is inserted
pub inserted_place : (es : List (Gid × Transposed)) (k : Gid) (v : Transposed) → HasValue (insert_entry same es k v) v (position_or_len (same k) (keys_of es))
inserted_place [] k v = record { entry = (k, v); there = refl; is_it = refl }
inserted_place (x ∷ es) k v = by (same k x.0) (inserted_place es k v)
  where
    by : (b : Bool) → HasValue (insert_entry same es k v) v (position_or_len (same k) (keys_of es))
        → HasValue (cond b ((x.0, v) ∷ es) (x ∷ insert_entry same es k v)) v (cond (not b) (1 + position_or_len (same k) (keys_of es)) 0)
    by true h = record { entry = (x.0, v); there = refl; is_it = refl }
    by false h =
        let n = position_or_len (same k) (keys_of es) in
        let next : 1 + n ≡ suc n = omega arith in
        record { entry = h.entry; there = ap (λ (m : ℕ). slice_get (x ∷ insert_entry same es k v) m) next ∙ h.there; is_it = h.is_it }

-- the memo with one more value
pub known_more : (t : Levels) (es : List (Gid × Transposed)) (k : Gid) (v : Transposed) → AreTranspositions t es → KeepsTransposition t (k, v) → AreTranspositions t (insert_entry same es k v)
known_more t es k v known r = inserted same (KeepsTransposition t) (follows t) es known k v r

-- what was transposed stays as the table grows
pub transposed_kept : (t u v : Levels) → IsGood u → Extends u v → (g head : Gid) (es : List ℕ) → IsTransposed t u g head es → IsTransposed t v g head es
transposed_kept t u v good x g head es r = record {
  level = r.level;
  there = omega (arith, r.there, x.more head.level);
  canon = subst (λ (p : List ℕ). IsCanon (turned_exits g.level (pattern t g.level g.at)) p es) (sym (pattern_kept u v good x head.level head.at r.there)) r.canon;
}

-- what was transposed in a table is that in a table that has grown
pub transposed_later : (t u v : Levels) → IsGood t → Extends t u → (g head : Gid) (es : List ℕ) → g.at < count t g.level → IsTransposed t v g head es → IsTransposed u v g head es
transposed_later t u v good x g head es own r = record {
  level = r.level;
  there = r.there;
  canon = subst (λ (p : List ℕ). IsCanon (turned_exits g.level p) (pattern v head.level head.at) es) (sym (pattern_kept t u good x g.level g.at own)) r.canon;
}

-- the memo stays as the table grows
pub known_kept : (t u : Levels) → IsGood t → Extends t u → (es : List (Gid × Transposed)) → AreTranspositions t es → AreTranspositions u es
known_kept t u good x es known i e q =
    let r = known i e q in
    record {
      owned = omega (arith, r.owned, x.more e.0.level);
      is_it = transposed_later t u u good x e.0 e.1.head e.1.exits.items r.owned (transposed_kept t t u good x e.0 e.1.head e.1.exits.items r.is_it);
    }

-- what a place has, where the memo is told
pub known_at : (t : Levels) (es : List (Gid × Transposed)) (g : Gid) (place : ℕ) → AreTranspositions t es → HasKey es g place → IsTransposedAt t t es g place
known_at t es g place known h =
    let r = known place h.entry h.there in
    record {
      entry = h.entry;
      there = h.there;
      is_it = subst (λ (k : Gid). IsTransposed t t k h.entry.1.head h.entry.1.exits.items) h.is_it r.is_it;
    }

-- what a place has, once a value was kept there
pub kept_at : (t u : Levels) (es : List (Gid × Transposed)) (g : Gid) (v : Transposed) (place : ℕ) → IsTransposed t u g v.head v.exits.items → HasValue es v place → IsTransposedAt t u es g place
kept_at t u es g v place r h = record {
  entry = h.entry;
  there = h.there;
  is_it = subst (λ (x : Transposed). IsTransposed t u g x.head x.exits.items) (sym h.is_it) r;
}

-- the value at such a place
pub at_place : (t u : Levels) (es : List (Gid × Transposed)) (g : Gid) (place : ℕ) (v : Transposed) → IsTransposedAt t u es g place → HasValue es v place → IsTransposed t u g v.head v.exits.items
at_place t u es g place v r h =
    let e = same_Some r.entry h.entry (sym r.there ∙ h.there) in
    let same_value : r.entry.1 ≡ v = ap (λ (x : Gid × Transposed). x.1) e ∙ h.is_it in
    subst (λ (x : Transposed). IsTransposed t u g x.head x.exits.items) same_value r.is_it
