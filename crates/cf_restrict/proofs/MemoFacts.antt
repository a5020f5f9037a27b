use Rattle.std.proofs.Common.{◌≡◌, ℕ, suc, ◌<◌, List, [], ◌∷◌, Bool, true, false, not, cond, ◌+◌, ◌&&◌, nat_eq, Option, Some, None, IfSome, position, refl, sym, ◌∙◌, ap, subst, arith}
use Rattle.std.specs.List.{slice_get, position_or_len}
use Rattle.std.specs.Map.{keys_of}
use Rattle.std.proofs.lemmas.Bool.Decides.{nat_tests}
use Rattle.std.proofs.lemmas.Option.{same_Some}
use Rattle.std.proofs.Math.Bool.{beq}
use Rattle.indexmap.specs.IndexMap.{insert_entry}
use Rattle.cf_model.specs.Diagrams.{Levels, IsGood, Extends, count, pattern}
use Rattle.cf_model.specs.Patterns.{sub}
use Rattle.cf_model.specs.Renumbering.{IsCanon}
use Rattle.cf_model.proofs.Growing.{pattern_kept}
use Rattle.cf_table.specs.declared.Gid.{Gid}
use Rattle.cf_table.proofs.Entries.{Follows, found_at, inserted}
use Rattle.cf_table.proofs.Told.{same_gid}
use Rattle.cf_build.specs.Assembling.{AddsOnly}
use Rattle.cf_restrict.specs.declared.memo.Setting.{Setting}
use Rattle.cf_restrict.specs.declared.memo.Restricted.{Restricted}
use Rattle.cf_restrict.specs.contracts.memo.SettingPartialEq.TheImpl as eq
use Rattle.cf_restrict.specs.Restrictions.{restricted_exits}
use Rattle.cf_restrict.specs.Memos.{IsRestricted, KeepsRestriction, AreRestrictions, HasKey, HasValue, IsRestrictedAt}

-- the derived test of two settings
abbrev pub same : Setting → Setting → Bool
same p q = eq.eq-value.it p q

abbrev pub setting : Gid → ℕ → Bool → Setting
setting g i b = record { grouping = g; position = i; bit = b }

both : (a b : Bool) → (a && b) ≡ true → (a ≡ true) × (b ≡ true)
both true b h = (refl, h)
both false b h = cc

two : (a b x y : ℕ) → (nat_eq a x && nat_eq b y) ≡ true → (a ≡ x) × (b ≡ y)
two a b x y h = grind (arith, nat_tests)

one : (a x : ℕ) → nat_eq a x ≡ true → a ≡ x
one a x h = grind (arith, nat_tests)

same_bit : (b c : Bool) → beq b c ≡ true → b ≡ c
same_bit true true h = refl
same_bit false false h = refl
same_bit true false h = cc
same_bit false true h = cc

pub same_setting : (p q : Setting) → same p q ≡ true → p ≡ q
same_setting p q h =
    let r = both (nat_eq p.grouping.level q.grouping.level && nat_eq p.grouping.at q.grouping.at) (nat_eq p.position q.position && beq p.bit q.bit) h in
    let s = two p.grouping.level p.grouping.at q.grouping.level q.grouping.at r.0 in
    let t = both (nat_eq p.position q.position) (beq p.bit q.bit) r.1 in
    ap (λ (g : Gid). setting g p.position p.bit) (same_gid p.grouping q.grouping s.0 s.1)
    ∙ ap (λ (i : ℕ). setting q.grouping i p.bit) (one p.position q.position t.0)
    ∙ ap (λ (b : Bool). setting q.grouping q.position b) (same_bit p.bit q.bit t.1)

abbrev entry : Setting → Restricted → Setting × Restricted
entry k v = (k, v)

follows : (t : Levels) → Follows same (KeepsRestriction t)
follows t p q v h =
    let e = same_setting p q h in
    (λ r. subst (λ (k : Setting). KeepsRestriction t (entry k v)) e r, λ r. subst (λ (k : Setting). KeepsRestriction t (entry k v)) (sym e) r)

-- the place that a look-up finds
pub found_place : (es : List (Setting × Restricted)) (k : Setting) (o : Option ℕ) → o ≡ position (same k) (keys_of es) → IfSome o (HasKey es k)
found_place es k None e = tt
found_place es k (Some i) e =
    let x = found_at same k es i (sym e) in
    record { entry = x.0; there = x.1; is_it = sym (same_setting k x.0.0 x.2) }

-- the place at which a value is inserted
pub inserted_place : (es : List (Setting × Restricted)) (k : Setting) (v : Restricted) → HasValue (insert_entry same es k v) v (position_or_len (same k) (keys_of es))
inserted_place [] k v = record { entry = (k, v); there = refl; is_it = refl }
inserted_place (x ∷ es) k v = by (same k x.0) (inserted_place es k v)
  where
    by : (b : Bool) → HasValue (insert_entry same es k v) v (position_or_len (same k) (keys_of es))
        → HasValue (cond b ((x.0, v) ∷ es) (x ∷ insert_entry same es k v)) v (cond (not b) (1 + position_or_len (same k) (keys_of es)) 0)
    by true h = record { entry = (x.0, v); there = refl; is_it = refl }
    by false h =
        let n = position_or_len (same k) (keys_of es) in
        let next : 1 + n ≡ suc n = omega arith in
        record { entry = h.entry; there = ap (λ (m : ℕ). slice_get (x ∷ insert_entry same es k v) m) next ∙ h.there; is_it = h.is_it }

-- the memo with one more value
pub known_more : (t : Levels) (es : List (Setting × Restricted)) (k : Setting) (v : Restricted) → AreRestrictions t es → KeepsRestriction t (k, v) → AreRestrictions t (insert_entry same es k v)
known_more t es k v known r = inserted same (KeepsRestriction t) (follows t) es known k v r

-- what was restricted stays as the table grows
pub restricted_kept : (t u v : Levels) → IsGood u → Extends u v → (g : Gid) (i : ℕ) (b : Bool) (head : Gid) (es : List ℕ) → IsRestricted t u g i b head es → IsRestricted t v g i b head es
restricted_kept t u v good x g i b head es r = record {
  level = r.level;
  there = omega (arith, r.there, x.more head.level);
  canon = subst (λ (p : List ℕ). IsCanon (restricted_exits g.level (pattern t g.level g.at) i b) p es) (sym (pattern_kept u v good x head.level head.at r.there)) r.canon;
}

-- what was restricted in a table is that in a table that has grown
pub restricted_later : (t u v : Levels) → IsGood t → Extends t u → (g : Gid) (i : ℕ) (b : Bool) (head : Gid) (es : List ℕ) → g.at < count t g.level → IsRestricted t v g i b head es → IsRestricted u v g i b head es
restricted_later t u v good x g i b head es own r = record {
  level = r.level;
  there = r.there;
  canon = subst (λ (p : List ℕ). IsCanon (restricted_exits g.level p i b) (pattern v head.level head.at) es) (sym (pattern_kept t u good x g.level g.at own)) r.canon;
}

-- the memo stays as the table grows
pub known_kept : (t u : Levels) → IsGood t → Extends t u → (es : List (Setting × Restricted)) → AreRestrictions t es → AreRestrictions u es
known_kept t u good x es known i e q =
    let r = known i e q in
    let g = e.0.grouping in
    record {
      owned = omega (arith, r.owned, x.more g.level);
      is_it = restricted_later t u u good x g e.0.position e.0.bit e.1.head e.1.exits.items r.owned (restricted_kept t t u good x g e.0.position e.0.bit e.1.head e.1.exits.items r.is_it);
    }

-- what a place has, where the memo is told
pub known_at : (t : Levels) (es : List (Setting × Restricted)) (g : Gid) (i : ℕ) (b : Bool) (place : ℕ) → AreRestrictions t es → HasKey es (setting g i b) place → IsRestrictedAt t t es g i b place
known_at t es g i b place known h =
    let r = known place h.entry h.there in
    record {
      entry = h.entry;
      there = h.there;
      is_it = subst (λ (k : Setting). IsRestricted t t k.grouping k.position k.bit h.entry.1.head h.entry.1.exits.items) h.is_it r.is_it;
      added = λ k j ge lt. absurd (omega (arith, ge, lt));
    }

-- what a place has, once a value was kept there
pub kept_at : (t u : Levels) (es : List (Setting × Restricted)) (g : Gid) (i : ℕ) (b : Bool) (v : Restricted) (place : ℕ) → IsRestricted t u g i b v.head v.exits.items → AddsOnly t u (sub v.head.level (pattern u v.head.level v.head.at)) → HasValue es v place
    → IsRestrictedAt t u es g i b place
kept_at t u es g i b v place r a h = record {
  entry = h.entry;
  there = h.there;
  is_it = subst (λ (x : Restricted). IsRestricted t u g i b x.head x.exits.items) (sym h.is_it) r;
  added = subst (λ (x : Restricted). AddsOnly t u (sub x.head.level (pattern u x.head.level x.head.at))) (sym h.is_it) a;
}

-- the value at such a place
pub at_place : (t u : Levels) (es : List (Setting × Restricted)) (g : Gid) (i : ℕ) (b : Bool) (place : ℕ) (v : Restricted) → IsRestrictedAt t u es g i b place → HasValue es v place
    → IsRestricted t u g i b v.head v.exits.items × AddsOnly t u (sub v.head.level (pattern u v.head.level v.head.at))
at_place t u es g i b place v r h =
    let e = same_Some r.entry h.entry (sym r.there ∙ h.there) in
    let same_value : r.entry.1 ≡ v = ap (λ (x : Setting × Restricted). x.1) e ∙ h.is_it in
    (subst (λ (x : Restricted). IsRestricted t u g i b x.head x.exits.items) same_value r.is_it, subst (λ (x : Restricted). AddsOnly t u (sub x.head.level (pattern u x.head.level x.head.at))) same_value r.added)
