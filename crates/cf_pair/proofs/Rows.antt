use Rattle.std.proofs.Common.{◌≡◌, ℕ, zero, suc, ◌<◌, ◌+◌, List, [], ◌∷◌, ◌++◌, map, refl, sym, ◌∙◌, ap, subst, length, get_or, arith, inl, inr}
use Rattle.std.specs.List.{flat_map, Contains}
use Rattle.std.specs.Option.{option_to_list}
use Rattle.std.proofs.lemmas.Bool.{cases_lt}
use Rattle.std.proofs.lemmas.List.{length-map, get_or-map, get_or_append_left, get_or_push, length_push}
use Rattle.std.proofs.lemmas.List.Concat.{flat_map_single}
use Rattle.std.proofs.lemmas.Option.{slice_get-get_or}
use Rattle.cf_model.specs.Renumbering.{AllDiffer, IsApart, IsCanon}
use Rattle.cf_model.specs.FlatFunctions.{points}
use Rattle.cf_model.specs.Patterns.{Pattern, sub}
use Rattle.cf_model.specs.Diagrams.{Levels, connection_at, node, count, pattern, exits, IsGood, Extends}
use Rattle.cf_model.proofs.Growth.{Under-width}
use Rattle.cf_model.proofs.RenumberingLaws.{map_map}
use Rattle.cf_model.proofs.Canonicity.{level_holds}
use Rattle.cf_model.proofs.Growing.{pattern_kept, exits_kept, Extends-trans, Extends-refl}
use Rattle.cf_tuple.specs.Books.{Lengthens}
use Rattle.cf_tuple.proofs.BookLaws.{Lengthens-trans}
use Rattle.cf_table.specs.declared.Gid.{Gid}
use Rattle.cf_table.specs.Groupings.{Groupings}
use Rattle.cf_build.specs.Assembling.{row_of, label_at, row_labels, labels_over, HasCanon, AddsOnly}
use Rattle.cf_build.proofs.Words.{canon_reads}
use Rattle.cf_build.proofs.Joins.{flat_map_under, words_map}
use Rattle.cf_pair.specs.Products.{Lists, ListEach, AddsOnlyIn, HasListed}
use Rattle.cf_build.proofs.PartLaws.{sub_of_a, sub_of_b}
use Rattle.cf_build.proofs.Faithful.{Over, faithful}

label_there : {A : Type 0} (xs : List A) (i : ℕ) (d : A) → i < length xs → label_at xs i ≡ get_or xs i d ∷ []
label_there xs i d h = ap option_to_list (slice_get-get_or xs i d h)

-- labels that are worked out from a canon's, read off its ranks
pub row_listed : {X A : Type 0} (f : X → A) (all : List X) (ranks : List ℕ) (ps : List X) (labels : List A) (none : X) → IsCanon all ranks ps → labels ≡ map f ps → flat_map (label_at labels) ranks ≡ map f all
row_listed f all ranks ps labels none k e =
    let reads : all ≡ map (λ i. get_or ps i none) ranks = canon_reads all ranks ps none k.spells in
    let long : length labels ≡ length ps = ap length e ∙ length-map ps f in
    flat_map_under (label_at labels) (λ i. f (get_or ps i none) ∷ []) (length ps) ranks (Under-width 0 (length ps) ranks (omega (arith, k.reached)))
    (λ i li. label_there labels i (f none) (omega (arith, li, long)) ∙ ap (λ (x : _). x ∷ []) (ap (λ (v : List _). get_or v i (f none)) e ∙ get_or-map f ps i none (f none) li))
    ∙ flat_map_single (λ i. f (get_or ps i none)) ranks
    ∙ sym (map_map f (λ i. get_or ps i none) ranks)
    ∙ ap (λ (v : List _). map f v) (sym reads)

-- rows that list the words of a canon's labels, over all assignments
pub labels_listed : {X A : Type 0} (q : ℕ → List ℕ) (a : ℕ) (all ms : List X) (none : X) (word : X → List A) (rs : List (ℕ × List A)) → IsCanon all (q a) ms
    → ((i : ℕ) → i < length ms → row_labels q (get_or rs i (0, [])) ≡ word (get_or ms i none)) → labels_over q a rs ≡ flat_map word all
labels_listed q a all ms none word rs k h =
    let reads : all ≡ map (λ i. get_or ms i none) (q a) = canon_reads all (q a) ms none k.spells in
    flat_map_under (λ j. row_labels q (get_or rs j (0, []))) (λ j. word (get_or ms j none)) (length ms) (q a) (Under-width 0 (length ms) (q a) (omega (arith, k.reached))) h
    ∙ sym (words_map word (λ i. get_or ms i none) (q a))
    ∙ ap (λ (v : List _). flat_map word v) (sym reads)

-- a row stays as the table grows
pub Lists-kept : {A : Type 0} (t u : Levels) (l : ℕ) (all : List A) (r : Gid × List A) → IsGood t → Extends t u → Lists t l all r → Lists u l all r
Lists-kept t u l all r g x h =
    let own : r.0.at < count t l = h.is_row.owned in
    record {
      is_row = record { level = h.is_row.level; owned = omega (arith, own, x.more l); labelled = h.is_row.labelled ∙ sym (exits_kept t u x l r.0.at own) };
      labels = ap (λ (p : List ℕ). flat_map (label_at r.1) p) (pattern_kept t u g x l r.0.at own) ∙ h.labels;
      differ = h.differ;
    }

abbrev pattern_at : Levels → ℕ → ℕ → Pattern
pattern_at t k j = record { level = k; ranks = pattern t k j }

place_of : {A : Type 0} (rows : List (Gid × List A)) (m : ℕ) (d : Gid × List A) → m < length rows → (get_or (map row_of rows) m (0, [])).0 ≡ (get_or rows m d).0.at
place_of rows m d h = ap (λ (r : _). r.0) (get_or-map row_of rows m d (0, []) h)

-- no row yet
pub listed_none : {A : Type 0} (t : Groupings) (l : ℕ) (wanted : ℕ → List A) (rows : List (Gid × List A)) → IsGood t.levels → rows ≡ [] → HasListed t t l wanted 0 rows
listed_none {A} t l wanted rows good e = record {
  good = good;
  extends = Extends-refl t.levels;
  longer = record { more = omega arith; kept = λ i h. refl };
  listed = record { long = ap length e; each = λ i d li. absurd (omega (arith, li)) };
  added = λ k j ge lt. absurd (omega (arith, ge, lt));
}

-- one more row
pub listed_more : {A : Type 0} (t s u : Groupings) (l : ℕ) (wanted : ℕ → List A) (i : ℕ) (rows after : List (Gid × List A)) (r : Gid × List A) → HasListed t s l wanted i rows
    → Lists u.levels l (wanted i) r → AddsOnly s.levels u.levels (sub l (pattern u.levels l r.0.at)) → IsGood u.levels → Extends s.levels u.levels → Lengthens s.tuples u.tuples → after ≡ rows ++ r ∷ [] → HasListed t u l wanted (i + 1) after
listed_more t s u l wanted i rows after r g new added gu x y e =
    let long : length after ≡ length rows + 1 = ap length e ∙ length_push rows r in
    let old_row : (j : ℕ) (d : _) → j < length rows → get_or after j d ≡ get_or rows j d = λ j d lj. ap (λ (v : List _). get_or v j d) e ∙ get_or_append_left rows (r ∷ []) d j lj in
    let new_row : (d : _) → get_or after (length rows) d ≡ r = λ d. ap (λ (v : List _). get_or v (length rows) d) e ∙ get_or_push rows r d (length rows) refl in
    record {
      good = gu;
      extends = Extends-trans t.levels s.levels u.levels g.extends x;
      longer = Lengthens-trans t.tuples s.tuples u.tuples g.longer y;
      listed = record {
        long = long ∙ ap (λ (k : ℕ). k + 1) g.listed.long;
        each = λ j d lj. elim (cases_lt j i) [
          | inl lo ↦ subst (λ (w : _). Lists u.levels l (wanted j) w) (sym (old_row j d (omega (arith, lo, g.listed.long)))) (Lists-kept s.levels u.levels l (wanted j) (get_or rows j d) g.good x (g.listed.each j d lo))
          | inr hi ↦ (let q : length rows ≡ j = omega (arith, lj, hi, g.listed.long) in
              let ij : i ≡ j = omega (arith, lj, hi) in
              subst (λ (w : _). Lists u.levels l (wanted j) w) (sym (ap (λ (k : ℕ). get_or after k d) (sym q) ∙ new_row d)) (subst (λ (k : ℕ). Lists u.levels l (wanted k) r) ij new))
        ];
      };
      added = λ k j ge lt. elim (cases_lt j (count s.levels k)) [
        | inl lo ↦ (let w = g.added k j ge lo in
            let m = w.0 in
            let at : (get_or (map row_of after) m (0, [])).0 ≡ (get_or (map row_of rows) m (0, [])).0 = place_of after m r (omega (arith, w.1, long)) ∙ ap (λ (v : _). v.0.at) (old_row m r w.1) ∙ sym (place_of rows m r w.1) in
            let own : (get_or rows m r).0.at < count s.levels l = (g.listed.each m r (omega (arith, w.1, g.listed.long))).is_row.owned in
            let own' : (get_or (map row_of rows) m (0, [])).0 < count s.levels l = omega (arith, own, place_of rows m r w.1) in
            let ps : pattern u.levels l (get_or (map row_of after) m (0, [])).0 ≡ pattern s.levels l (get_or (map row_of rows) m (0, [])).0 = ap (pattern u.levels l) at ∙ pattern_kept s.levels u.levels g.good x l (get_or (map row_of rows) m (0, [])).0 own' in
            let pk : pattern u.levels k j ≡ pattern s.levels k j = pattern_kept s.levels u.levels g.good x k j lo in
            (m, omega (arith, w.1, long), subst (λ (p : List ℕ). Contains (sub l p) (pattern_at u.levels k j)) (sym ps) (subst (λ (p : List ℕ). Contains (sub l (pattern s.levels l (get_or (map row_of rows) m (0, [])).0)) (record { level = k; ranks = p })) (sym pk) w.2)))
        | inr hi ↦ (let at : (get_or (map row_of after) (length rows) (0, [])).0 ≡ r.0.at = place_of after (length rows) r (omega (arith, long)) ∙ ap (λ (v : _). v.0.at) (new_row r) in
            (length rows, omega (arith, long), subst (λ (i : ℕ). Contains (sub l (pattern u.levels l i)) (pattern_at u.levels k j)) (sym at) (added k j hi lt)))
      ];
    }

-- What is known once rows were assembled: `t` at entry, `u` after the A-callees' product `c`, `v` after the rows, `w` at the end.
pub record Assembly {A : Type 0} (t u v w : Levels) (l c : ℕ) (rows : List (Gid × List A)) (words : ℕ → List A) (g : Gid) (ds : List A) : Type 0 where
  pub good : IsGood t
  pub good1 : IsGood u
  pub good2 : IsGood v
  pub good3 : IsGood w
  pub extends1 : Extends t u
  pub extends2 : Extends u v
  pub extends3 : Extends v w
  pub callee_exists : c < count u l
  pub middles : length rows ≡ exits v l c
  pub listed : ListEach v l words (length rows) rows
  pub full : (j : ℕ) → j < length rows → length (words j) ≡ points l
  pub apart : IsApart words (length rows)
  pub canon : HasCanon w g (suc l) (labels_over (pattern v l) c (map row_of rows)) ds
  pub added1 : AddsOnly t u (sub l (pattern u l c))
  pub added2 : AddsOnlyIn u v l rows
  pub added3 : AddsOnly v w (sub g.level (pattern w g.level g.at))

pub each_row : {A : Type 0} (P : ℕ × List A → Type 0) (rows : List (Gid × List A)) (j : ℕ) → j < length rows → ((d : Gid × List A) → P (row_of (get_or rows j d))) → P (get_or (map row_of rows) j (0, []))
each_row P [] j lj h = absurd (omega (arith, lj))
each_row P (r ∷ rows) zero lj h = h r
each_row P (r ∷ rows) (suc j) lj h = each_row P rows j (omega (arith, lj)) h

labels_kept : {A : Type 0} (v w : Levels) → IsGood v → IsGood w → Extends v w → (l c : ℕ) → c < count v l → (rows : List (Gid × List A)) (words : ℕ → List A) → length rows ≡ exits v l c → ListEach v l words (length rows) rows
    → labels_over (pattern v l) c (map row_of rows) ≡ labels_over (pattern w l) c (map row_of rows)
labels_kept v w gv gw x l c own rows words middles listed =
    let rs = map row_of rows in
    let lr : length rs ≡ length rows = length-map rows row_of in
    let u = level_holds v gv l in
    flat_map_under (λ j. row_labels (pattern v l) (get_or rs j (0, []))) (λ j. row_labels (pattern w l) (get_or rs j (0, []))) (length rows) (pattern v l c) (Under-width 0 (length rows) (pattern v l c) (omega (arith, u.reaches c own, middles)))
    (λ j lj. ap (λ (p : List ℕ). flat_map (label_at (get_or rs j (0, [])).1) p) (sym (pattern_kept v w gv x l (get_or rs j (0, [])).0 (each_row (λ r. r.0 < count v l) rows j lj (λ d. (listed.each j d lj).is_row.owned)))))
    ∙ ap (λ (p : List ℕ). flat_map (λ j. row_labels (pattern w l) (get_or rs j (0, []))) p) (sym (pattern_kept v w gv x l c own))

pub assembled_over : {A : Type 0} (t u v w : Levels) (l c : ℕ) (rows : List (Gid × List A)) (words : ℕ → List A) (g : Gid) (ds : List A) → Assembly t u v w l c rows words g ds → Over w l c g.at (map row_of rows) words ds
assembled_over t u v w l c rows words g ds h =
    let lr : length (map row_of rows) ≡ length rows = length-map rows row_of in
    let cv : c < count v l = omega (arith, h.callee_exists, h.extends2.more l) in
    let in_w : (j : ℕ) (d : _) → j < length rows → Lists w l (words j) (get_or rows j d) = λ j d lj. Lists-kept v w l (words j) (get_or rows j d) h.good2 h.extends3 (h.listed.each j d lj) in
    let here : (j : ℕ) → j < length (map row_of rows) → j < length rows = λ j lj. omega (arith, lj, lr) in
    record {
      good = h.good3;
      callee_exists = omega (arith, cv, h.extends3.more l);
      middles = lr ∙ h.middles ∙ sym (exits_kept v w h.extends3 l c cv);
      exists = subst (λ (m : ℕ). g.at < count w m) h.canon.level h.canon.there;
      canon = subst (λ (m : ℕ). IsCanon (labels_over (pattern w l) c (map row_of rows)) (pattern w m g.at) ds) h.canon.level (subst (λ (x : List _). IsCanon x (pattern w g.level g.at) ds) (labels_kept v w h.good2 h.good3 h.extends3 l c cv rows words h.middles h.listed) h.canon.canon);
      owned = λ j lj. each_row (λ r. r.0 < count w l) rows j (here j lj) (λ d. (in_w j d (here j lj)).is_row.owned);
      labelled = λ j lj. each_row (λ r. length r.1 ≡ exits w l r.0) rows j (here j lj) (λ d. (in_w j d (here j lj)).is_row.labelled);
      words_are = λ j lj. each_row (λ r. row_labels (pattern w l) r ≡ words j) rows j (here j lj) (λ d. (in_w j d (here j lj)).labels);
      full = λ j lj. h.full j (here j lj);
      differ = λ j lj. each_row (λ r. AllDiffer r.1) rows j (here j lj) (λ d. (in_w j d (here j lj)).differ);
      apart = λ i j li lj. h.apart i j (here i li) (here j lj);
    }

-- all that was added is in the answer's `sub`
pub assembled_added : {A : Type 0} (t u v w : Levels) (l c : ℕ) (rows : List (Gid × List A)) (words : ℕ → List A) (g : Gid) (ds : List A) → Assembly t u v w l c rows words g ds → AddsOnly t w (sub g.level (pattern w g.level g.at))
assembled_added t u v w l c rows words g ds h k j ge lt =
    let o = assembled_over t u v w l c rows words g ds h in
    let f = faithful w l c g.at (map row_of rows) words ds o in
    let lr : length (map row_of rows) ≡ length rows = length-map rows row_of in
    let up : (x : Pattern) → Contains (sub (suc l) (pattern w (suc l) g.at)) x → Contains (sub g.level (pattern w g.level g.at)) x = λ x. subst (λ (m : ℕ). Contains (sub m (pattern w m g.at)) x) (sym h.canon.level) in
    let cv : c < count v l = omega (arith, h.callee_exists, h.extends2.more l) in
    elim (cases_lt j (count v k)) [
      | inr hi ↦ h.added3 k j hi lt
      | inl lo ↦ elim (cases_lt j (count u k)) [
        | inl low ↦
            let x = h.added1 k j ge low in
            let same : pattern u k j ≡ pattern w k j = sym (pattern_kept v w h.good2 h.extends3 k j lo ∙ pattern_kept u v h.good1 h.extends2 k j low) in
            let callee : pattern u l c ≡ pattern w l (node w (suc l) g.at).a_callee = sym (f.0 ∙ pattern_kept v w h.good2 h.extends3 l c cv ∙ pattern_kept u v h.good1 h.extends2 l c h.callee_exists) in
            up (pattern_at w k j) (sub_of_a w h.good3 l g.at o.exists (pattern_at w k j)
            (subst (λ (p : List ℕ). Contains (sub l p) (pattern_at w k j)) callee (subst (λ (p : List ℕ). Contains (sub l (pattern u l c)) (record { level = k; ranks = p })) same x)))
        | inr mid ↦
            let x = h.added2 k j mid lo in
            let m = x.0 in
            let lm : m < length (map row_of rows) = omega (arith, x.1, lr) in
            let at = (get_or (map row_of rows) m (0, [])).0 in
            let own : at < count v l = each_row (λ r. r.0 < count v l) rows m x.1 (λ d. (h.listed.each m d x.1).is_row.owned) in
            let same : pattern v k j ≡ pattern w k j = sym (pattern_kept v w h.good2 h.extends3 k j lo) in
            let callee : pattern v l at ≡ pattern w l (connection_at (node w (suc l) g.at).connections m).callee = sym (f.2 m lm ∙ pattern_kept v w h.good2 h.extends3 l at own) in
            up (pattern_at w k j) (sub_of_b w h.good3 l g.at m o.exists (omega (arith, lm, f.1)) (pattern_at w k j)
            (subst (λ (p : List ℕ). Contains (sub l p) (pattern_at w k j)) callee (subst (λ (p : List ℕ). Contains (sub l (pattern v l at)) (record { level = k; ranks = p })) same x.2)))
      ]
    ]
