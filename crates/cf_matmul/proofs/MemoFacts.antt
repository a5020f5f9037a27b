use Rattle.std.proofs.Common.{◌≡◌, ℕ, suc, ◌<◌, ◌-◌, List, [], ◌∷◌, Bool, true, false, not, cond, ◌+◌, ◌&&◌, nat_eq, Option, Some, None, IfSome, position, refl, sym, ◌∙◌, ap, subst, arith}
use Rattle.std.specs.List.{slice_get, position_or_len}
use Rattle.std.specs.Map.{keys_of}
use Rattle.std.proofs.lemmas.Bool.Decides.{nat_tests}
use Rattle.std.proofs.lemmas.Option.{same_Some}
use Rattle.indexmap.specs.IndexMap.{insert_entry}
use Rattle.cf_model.specs.PairSums.{PairSum}
use Rattle.cf_model.specs.Diagrams.{Levels, IsGood, Extends, count, pattern}
use Rattle.cf_model.proofs.Growing.{pattern_kept, Extends-refl}
use Rattle.cf_tuple.specs.Books.{Lengthens}
use Rattle.cf_table.specs.declared.Gid.{Gid}
use Rattle.cf_table.proofs.Entries.{Follows, found_at, inserted}
use Rattle.cf_table.proofs.Told.{same_gid}
use Rattle.cf_comb.specs.declared.CombId.{CombId}
use Rattle.cf_matmul.specs.declared.memo.Factors.{Factors}
use Rattle.cf_matmul.specs.declared.memo.Summed.{Summed}
use Rattle.cf_matmul.specs.contracts.memo.FactorsPartialEq.TheImpl as eq
use Rattle.cf_table.specs.Groupings.{Groupings}
use Rattle.cf_matmul.specs.Symbolic.{exit_sums, HasSums, HasGrown}
use Rattle.cf_matmul.specs.Memos.{summed_pair, IsProduct, KeepsProduct, AreProducts, HasKey, HasValue, IsProductAt}
use Rattle.cf_matmul.proofs.SumRows.{HasSums-kept}

-- the derived test of two pairs of factors
abbrev pub same : Factors → Factors → Bool
same p q = eq.eq-value.it p q

abbrev pub factors : Gid → Gid → Factors
factors g h = record { left = g; right = h }

both : (a b : Bool) → (a && b) ≡ true → (a ≡ true) × (b ≡ true)
both true b h = (refl, h)
both false b h = cc

two : (a b x y : ℕ) → (nat_eq a x && nat_eq b y) ≡ true → (a ≡ x) × (b ≡ y)
two a b x y h = grind (arith, nat_tests)

pub same_factors : (p q : Factors) → same p q ≡ true → p ≡ q
same_factors p q h =
    let r = both (nat_eq p.left.level q.left.level && nat_eq p.left.at q.left.at) (nat_eq p.right.level q.right.level && nat_eq p.right.at q.right.at) h in
    let s = two p.left.level p.left.at q.left.level q.left.at r.0 in
    let t = two p.right.level p.right.at q.right.level q.right.at r.1 in
    ap (λ (g : Gid). factors g p.right) (same_gid p.left q.left s.0 s.1) ∙ ap (λ (h : Gid). factors q.left h) (same_gid p.right q.right t.0 t.1)

abbrev entry : Factors → Summed → Factors × Summed
entry k v = (k, v)

follows : (t : Levels) (book : List PairSum) → Follows same (KeepsProduct t book)
follows t book p q v h =
    let e = same_factors p q h in
    (λ r. subst (λ (k : Factors). KeepsProduct t book (entry k v)) e r, λ r. subst (λ (k : Factors). KeepsProduct t book (entry k v)) (sym e) r)

-- the place that a look-up finds
pub found_place : (es : List (Factors × Summed)) (k : Factors) (o : Option ℕ) → o ≡ position (same k) (keys_of es) → IfSome o (HasKey es k)
found_place es k None e = tt
found_place es k (Some i) e =
    let x = found_at same k es i (sym e) in
    record { entry = x.0; there = x.1; is_it = sym (same_factors k x.0.0 x.2) }

-- the place at which a value is inserted
pub inserted_place : (es : List (Factors × Summed)) (k : Factors) (v : Summed) → HasValue (insert_entry same es k v) v (position_or_len (same k) (keys_of es))
inserted_place [] k v = record { entry = (k, v); there = refl; is_it = refl }
inserted_place (x ∷ es) k v = by (same k x.0) (inserted_place es k v)
  where
    by : (b : Bool) → HasValue (insert_entry same es k v) v (position_or_len (same k) (keys_of es))
        → HasValue (cond b ((x.0, v) ∷ es) (x ∷ insert_entry same es k v)) v (cond (not b) (1 + position_or_len (same k) (keys_of es)) 0)
    by true h = record { entry = (x.0, v); there = refl; is_it = refl }
    by false h =
        let n = position_or_len (same k) (keys_of es) in
        let next : 1 + n ≡ suc n = omega arith in
        record { entry = h.entry; there = ap (λ (m : ℕ). slice_get (x ∷ insert_entry same es k v) m) next ∙ h.there; is_it = h.is_it }

-- the memo with one more value
pub known_more : (t : Levels) (book : List PairSum) (es : List (Factors × Summed)) (k : Factors) (v : Summed) → AreProducts t book es → KeepsProduct t book (k, v) → AreProducts t book (insert_entry same es k v)
known_more t book es k v known r = inserted same (KeepsProduct t book) (follows t book) es known k v r

-- the sums in a table are those in a table that has grown
pub product_later : (t u v : Levels) → IsGood t → Extends t u → (book : List PairSum) (g h : Gid) (r : Gid × List CombId) → g.at < count t g.level → h.at < count t h.level → IsProduct t v book g h r → IsProduct u v book g h r
product_later t u v good x book g h r own other p =
    subst (λ (q : List ℕ). HasSums v book g.level (exit_sums (g.level - 1) (pattern u g.level g.at) q) r) (sym (pattern_kept t u good x h.level h.at other))
    (subst (λ (q : List ℕ). HasSums v book g.level (exit_sums (g.level - 1) q (pattern t h.level h.at)) r) (sym (pattern_kept t u good x g.level g.at own)) p)

-- the memo stays as table and book grow
pub known_kept : (t u : Levels) (before now : List PairSum) → IsGood t → Extends t u → Lengthens before now → (es : List (Factors × Summed)) → AreProducts t before es → AreProducts u now es
known_kept t u before now good x y es known i e q =
    let r = known i e q in
    let g = e.0.left in
    let h = e.0.right in
    record {
      left_owned = omega (arith, r.left_owned, x.more g.level);
      right_owned = omega (arith, r.right_owned, x.more h.level);
      is_it = product_later t u u good x now g h (summed_pair e.1) r.left_owned r.right_owned
          (HasSums-kept t u before now g.level (exit_sums (g.level - 1) (pattern t g.level g.at) (pattern t h.level h.at)) (summed_pair e.1) good x y r.is_it);
    }

-- what a place has, where the memo is told
pub known_at : (t : Levels) (book : List PairSum) (es : List (Factors × Summed)) (g h : Gid) (place : ℕ) → AreProducts t book es → HasKey es (factors g h) place → IsProductAt t t book es g h place
known_at t book es g h place known k =
    let r = known place k.entry k.there in
    record { entry = k.entry; there = k.there; is_it = subst (λ (f : Factors). IsProduct t t book f.left f.right (summed_pair k.entry.1)) k.is_it r.is_it }

-- what a place has, once a value was kept there
pub kept_at : (t u : Levels) (book : List PairSum) (es : List (Factors × Summed)) (g h : Gid) (v : Summed) (place : ℕ) → IsProduct t u book g h (summed_pair v) → HasValue es v place → IsProductAt t u book es g h place
kept_at t u book es g h v place r k = record {
  entry = k.entry;
  there = k.there;
  is_it = subst (λ (x : Summed). IsProduct t u book g h (summed_pair x)) (sym k.is_it) r;
}

-- the value at such a place
pub at_place : (t u : Levels) (book : List PairSum) (es : List (Factors × Summed)) (g h : Gid) (place : ℕ) (r : Gid × List CombId) (e : Factors × Summed) → IsProductAt t u book es g h place → slice_get es place ≡ Some e → summed_pair e.1 ≡ r → IsProduct t u book g h r
at_place t u book es g h place r e p there is =
    let same_entry = same_Some p.entry e (sym p.there ∙ there) in
    subst (λ (x : Gid × List CombId). IsProduct t u book g h x) (ap (λ (x : Factors × Summed). summed_pair x.1) same_entry ∙ is) p.is_it

-- the memo in table and book that have grown
pub known_grown : (t u : Groupings) (before now : List PairSum) → IsGood t.levels → HasGrown t u before now → (es : List (Factors × Summed)) → AreProducts t.levels before es → AreProducts u.levels now es
known_grown t u before now good x es known = known_kept t.levels u.levels before now good x.extends x.book es known

-- the memo in a book that has grown
pub known_longer : (t : Levels) (before now : List PairSum) → IsGood t → Lengthens before now → (es : List (Factors × Summed)) → AreProducts t before es → AreProducts t now es
known_longer t before now good y es known = known_kept t t before now good (Extends-refl t) y es known
