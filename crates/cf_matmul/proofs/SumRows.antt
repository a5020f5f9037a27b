use Rattle.std.proofs.Common.{◌≡◌, ℕ, zero, suc, ◌<◌, ◌+◌, ◌*◌, ◌^◌, Bool, true, false, Option, None, Some, option_map, List, [], ◌∷◌, ◌++◌, map, length, get_or, refl, sym, ◌∙◌, ap, subst, arith, pow-suc}
use Rattle.std.specs.Prelude.{flat_map, All, if◌then◌else◌}
use Rattle.std.specs.List.{slice_get}
use Rattle.std.specs.Option.{option_to_list}
use Rattle.std.proofs.lemmas.List.{length-map, get_or-map}
use Rattle.std.proofs.lemmas.List.Elements.{All-append, All-map, All-cons, All-head, All-tail}
use Rattle.std.proofs.lemmas.Option.{slice_get-map, slice_get-get_or, slice_get_within, get_or_from_slice_get}
use Rattle.cf_model.specs.Assignments.{row_of as row_index, column_of as column_index, all_bits}
use Rattle.cf_model.specs.Renumbering.{AllDiffer, IsCanon}
use Rattle.cf_model.specs.PairSums.{PairTerm, PairSum, same_pair, pair_before, total, with_pair, added, scaled, relabelled}
use Rattle.cf_model.specs.Diagrams.{Levels, count, pattern, IsGood, Extends}
use Rattle.cf_model.proofs.AssignmentLaws.{length-unweave, length-weave}
use Rattle.cf_model.proofs.PairSumLaws.{total-scaled, total-relabelled}
use Rattle.cf_model.proofs.RenumberingLaws.{map_each, map_map}
use Rattle.cf_model.proofs.Canonicity.{level_holds}
use Rattle.cf_model.proofs.Growing.{pattern_kept, exits_kept}
use Rattle.cf_tuple.specs.Books.{Lengthens}
use Rattle.cf_tuple.proofs.BookLaws.{kept_at}
use Rattle.cf_table.specs.declared.Gid.{Gid}
use Rattle.cf_build.specs.Assembling.{row_of, label_at, row_labels, labels_over, HasCanon}
use Rattle.cf_build.proofs.Joins.{map_words}
use Rattle.cf_pair.proofs.Zips.{all_labels_of}
use Rattle.cf_pair.proofs.Rows.{row_listed, labels_listed}
use Rattle.cf_comb.specs.ExitSums.{meetings, exit_sum}
use Rattle.cf_comb.specs.declared.CombId.{CombId}
use Rattle.cf_comb.specs.CombBooks.{OwnsSum, sum_of}
use Rattle.cf_comb.proofs.BitLaws.{all_bits-long}
use Rattle.cf_comb.proofs.ExitSumLaws.{meeting, exit_sum-total, exit_sum-sum}
use Rattle.cf_matmul.specs.Symbolic.{sum_list, sums_of, HasSums, HasSumRow, IsSumIn}
use Rattle.cf_matmul.proofs.HalfLaws.{map_same}

words_each : {A X : Type 0} (f g : X → List A) (p : List X) → ((x : X) → f x ≡ g x) → flat_map f p ≡ flat_map g p
words_each f g [] e = refl
words_each f g (x ∷ p) e = ap (λ (r : List _). r ++ flat_map f p) (e x) ∙ ap (λ (r : List _). g x ++ r) (words_each f g p e)

list_map : {A B : Type 0} (f : A → B) (o : Option A) → map f (option_to_list o) ≡ option_to_list (option_map f o)
list_map f None = refl
list_map f (Some x) = refl

-- labels worked out from a row's labels
pub row_map : {A B : Type 0} (f : A → B) (labels : List A) (p : List ℕ) → map f (flat_map (label_at labels) p) ≡ flat_map (label_at (map f labels)) p
row_map f labels p =
    map_words f (label_at labels) p
    ∙ words_each (λ i. map f (label_at labels i)) (label_at (map f labels)) p (λ i. list_map f (slice_get labels i) ∙ ap option_to_list (sym (slice_get-map f labels i)))

get_or_mapped : {A B : Type 0} (f : A → B) (xs : List A) (j : ℕ) (d : A) → get_or (map f xs) j (f d) ≡ f (get_or xs j d)
get_or_mapped f [] j d = refl
get_or_mapped f (x ∷ xs) zero d = refl
get_or_mapped f (x ∷ xs) (suc j) d = get_or_mapped f xs j d

abbrev mapped_row : {A B : Type 0} → (A → B) → ℕ × List A → ℕ × List B
mapped_row f r = (r.0, map f r.1)

abbrev no_row : {A : Type 0} → ℕ × List A
no_row = (0, [])

pub over_map : {A B : Type 0} (f : A → B) (q : ℕ → List ℕ) (a : ℕ) (rs : List (ℕ × List A)) → map f (labels_over q a rs) ≡ labels_over q a (map (mapped_row f) rs)
over_map {A = A} {B = B} f q a rs =
    map_words f (λ j. row_labels q (get_or rs j no_row)) (q a)
    ∙ words_each (λ j. map f (row_labels q (get_or rs j no_row))) (λ j. row_labels q (get_or (map (mapped_row f) rs) j no_row)) (q a)
    (λ j. row_map f (get_or rs j no_row).1 (q (get_or rs j no_row).0) ∙ ap (λ (r : ℕ × List B). row_labels q r) (sym (get_or_mapped (mapped_row f) rs j no_row)))

-- what holds of all labels
pub all_none : {A : Type 0} (P : A → Type 0) → All P []
all_none P k d h = absurd (omega (arith, h))

all_words : {A X : Type 0} (P : A → Type 0) (f : X → List A) (xs : List X) → ((x : X) → All P (f x)) → All P (flat_map f xs)
all_words P f [] h = all_none P
all_words P f (x ∷ xs) h = All-append P (f x) (flat_map f xs) (h x) (all_words P f xs h)

all_label : {A : Type 0} (P : A → Type 0) (labels : List A) → All P labels → (i : ℕ) → All P (label_at labels i)
all_label {A = A} P labels a i = by (slice_get labels i) refl
  where
    by : (o : Option A) → slice_get labels i ≡ o → All P (option_to_list o)
    by None e = all_none P
    by (Some x) e = All-cons P x [] (subst P (get_or_from_slice_get labels i x x e) (a i x (slice_get_within labels i x e))) (all_none P)

pub all_over : {A : Type 0} (P : A → Type 0) (q : ℕ → List ℕ) (a : ℕ) (rs : List (ℕ × List A)) → All (λ r. All P r.1) rs → All P (labels_over q a rs)
all_over P q a rs h = all_words P (λ j. row_labels q (get_or rs j no_row)) (q a) (λ j. all_words P (label_at (get_or rs j no_row).1) (q (get_or rs j no_row).0) (all_label P (get_or rs j no_row).1 (here rs h j)))
  where
    here : (rs : List (ℕ × List _)) → All (λ r. All P r.1) rs → (j : ℕ) → All P (get_or rs j no_row).1
    here [] h j = all_none P
    here (r ∷ rs) h zero = All-head (λ (r : ℕ × List _). All P r.1) r rs h
    here (r ∷ rs) h (suc j) = here rs (All-tail (λ (r : ℕ × List _). All P r.1) r rs h) j

-- ids of one sum are one id
same_id : (book : List PairSum) → AllDiffer book → (x y : CombId) → OwnsSum book x → OwnsSum book y → sum_of book x ≡ sum_of book y → x ≡ y
same_id book d x y hx hy e =
    ap (λ (n : ℕ). id_of n) (d x.at y.at (sum_of book x) (slice_get-get_or book x.at [] hx) (slice_get-get_or book y.at [] hy ∙ ap Some (sym e)))
  where
    id_of : ℕ → CombId
    id_of n = record { at = n }

option_map-some : {A B : Type 0} (f : A → B) (o : Option A) (y : B) → option_map f o ≡ Some y → (x : A) × (o ≡ Some x) × (f x ≡ y)
option_map-some f None y h = cc
option_map-some f (Some x) y h = (x, refl, cc)

-- a canon of ids is a canon of their sums
pub canon_named : (book : List PairSum) → AllDiffer book → (all : List CombId) (ranks : List ℕ) (ids : List CombId) → IsCanon all ranks ids → All (OwnsSum book) ids → IsCanon (sums_of book all) ranks (sums_of book ids)
canon_named book d all ranks ids c own =
    let f : CombId → PairSum = sum_of book in
    record {
      spells = map_each (slice_get (map f ids)) (λ k. option_map f (slice_get ids k)) (λ k. slice_get-map f ids k) ranks ∙ sym (map_map (option_map f) (slice_get ids) ranks) ∙ ap (map (option_map f)) c.spells
          ∙ map_map (option_map f) Some all ∙ sym (map_map Some f all);
      grows = c.grows;
      reached = c.reached ∙ sym (length-map ids f);
      differ = λ i j y hi hj.
          (let a = option_map-some f (slice_get ids i) y (sym (slice_get-map f ids i) ∙ hi) in
          let b = option_map-some f (slice_get ids j) y (sym (slice_get-map f ids j) ∙ hj) in
          let oa : OwnsSum book a.0 = subst (OwnsSum book) (get_or_from_slice_get ids i a.0 a.0 a.1) (own i a.0 (slice_get_within ids i a.0 a.1)) in
          let ob : OwnsSum book b.0 = subst (OwnsSum book) (get_or_from_slice_get ids j b.0 b.0 b.1) (own j b.0 (slice_get_within ids j b.0 b.1)) in
          let e : b.0 ≡ a.0 = same_id book d b.0 a.0 ob oa (b.2 ∙ sym a.2) in
          c.differ i j a.0 a.1 (b.1 ∙ ap Some e));
    }

no_id : CombId
no_id = record { at = 0 }

-- a row with its sums
abbrev pub sum_row_of : List PairSum → Gid × List CombId → ℕ × List PairSum
sum_row_of book r = (r.0.at, sums_of book r.1)

-- THE ASSEMBLY: rows that have the sums of words, over the exits of a grouping that has the sums of middle vertices
pub assembled_sums : (v w : Levels) (book : List PairSum) → AllDiffer book → (l a each : ℕ) (all middles : List PairSum) (word : PairSum → List PairSum) (rows : List (Gid × List CombId))
    → IsCanon all (pattern v l a) middles → length rows ≡ length middles → ((i : ℕ) (d : Gid × List CombId) → i < length middles → HasSumRow v book l (word (get_or middles i [])) each (get_or rows i d))
    → (g : Gid) (ids : List CombId) → HasCanon w g (suc l) (labels_over (pattern v l) a (map row_of rows)) ids → HasSums w book (suc l) (flat_map word all) (g, ids)
assembled_sums v w book d l a each all middles word rows c len rowed g ids h =
    let f : CombId → PairSum = sum_of book in
    let labels = labels_over (pattern v l) a (map row_of rows) in
    let rows_owned : All (λ r. All (OwnsSum book) r.1) (map row_of rows) = All-map (λ (r : ℕ × List CombId). All (OwnsSum book) r.1) row_of rows (λ k r lk. (rowed k r (omega (arith, lk, len))).owned) in
    let owned : All (OwnsSum book) labels = all_over (OwnsSum book) (pattern v l) a (map row_of rows) rows_owned in
    let ids_owned : All (OwnsSum book) ids = all_labels_of (OwnsSum book) labels (pattern w g.level g.at) ids no_id h.canon owned in
    let spelled : sums_of book labels ≡ flat_map word all =
    over_map f (pattern v l) a (map row_of rows)
    ∙ ap (λ (rs : List (ℕ × List PairSum)). labels_over (pattern v l) a rs) (map_map (mapped_row f) row_of rows)
    ∙ labels_listed (pattern v l) a all middles [] word (map (sum_row_of book) rows) c
    (λ i li. (let lr : i < length rows = omega (arith, li, len) in
    row_spells i lr li)) in
    record {
      level = h.level;
      there = h.there;
      owned = ids_owned;
      canon = subst (λ (x : List PairSum). IsCanon x (pattern w g.level g.at) (sums_of book ids)) spelled (canon_named book d labels (pattern w g.level g.at) ids h.canon ids_owned);
    }
  where
    row_spells : (i : ℕ) → i < length rows → i < length middles → row_labels (pattern v l) (get_or (map (sum_row_of book) rows) i (0, [])) ≡ word (get_or middles i [])
    row_spells i lr li = by rows lr (λ d. (rowed i d li).spells) i
      where
        by : (rows : List (Gid × List CombId)) → i < length rows → ((d : Gid × List CombId) → row_labels (pattern v l) (sum_row_of book (get_or rows i d)) ≡ word (get_or middles i [])) → ℕ → row_labels (pattern v l) (get_or (map (sum_row_of book) rows) i (0, [])) ≡ word (get_or middles i [])
        by [] lr e k = absurd (omega (arith, lr))
        by (r ∷ rows) lr e k = ap (λ (x : ℕ × List PairSum). row_labels (pattern v l) x) (get_or-map (sum_row_of book) (r ∷ rows) i r (0, []) lr) ∙ e r

-- ids keep their sums as the book grows
pub owned_kept : (before now : List PairSum) → Lengthens before now → (ids : List CombId) → All (OwnsSum before) ids → All (OwnsSum now) ids
owned_kept before now x ids h k d lk = (let o = h k d lk in omega (arith, o, x.more))

pub sums_kept : (before now : List PairSum) → Lengthens before now → (ids : List CombId) → All (OwnsSum before) ids → sums_of now ids ≡ sums_of before ids
sums_kept before now x ids h = map_same (OwnsSum before) (sum_of now) (sum_of before) ids h (λ c own. kept_at before now x c.at [] own)

-- and so do rows, as the table grows too
pub HasSumRow-kept : (t u : Levels) (before now : List PairSum) (l each : ℕ) (all : List PairSum) (r : Gid × List CombId) → IsGood t → Extends t u → Lengthens before now → HasSumRow t before l all each r → HasSumRow u now l all each r
HasSumRow-kept t u before now l each all r g x y h =
    let own : r.0.at < count t l = h.is_row.owned in
    let same : sums_of now r.1 ≡ sums_of before r.1 = sums_kept before now y r.1 h.owned in
    record {
      is_row = record { level = h.is_row.level; owned = omega (arith, own, x.more l); labelled = h.is_row.labelled ∙ sym (exits_kept t u x l r.0.at own) };
      owned = owned_kept before now y r.1 h.owned;
      spells = ap (λ (p : List ℕ). flat_map (label_at (sums_of now r.1)) p) (pattern_kept t u g x l r.0.at own) ∙ ap (λ (s : List PairSum). flat_map (label_at s) (pattern t l r.0.at)) same ∙ h.spells;
      totals = subst (λ (s : List PairSum). All (λ s. total s ≡ each) s) (sym same) h.totals;
    }

-- pairs stay in range
within-with_pair : (P : ℕ × ℕ → Type 0) (t : PairTerm) (sum : PairSum) → P t.0 → All (λ u. P u.0) sum → All (λ u. P u.0) (with_pair t sum)
within-with_pair P t [] h a = All-cons (λ (u : PairTerm). P u.0) t [] h a
within-with_pair P t (u ∷ sum) h a = by (within-with_pair P t sum h tail) (same_pair t.0 u.0) (pair_before t.0 u.0)
  where
    tail : All (λ u. P u.0) sum
    tail = All-tail (λ (u : PairTerm). P u.0) u sum a

    head : P u.0
    head = All-head (λ (u : PairTerm). P u.0) u sum a

    by : All (λ u. P u.0) (with_pair t sum) → (b c : Bool) → All (λ u. P u.0) (if b then (u.0, t.1 + u.1) ∷ sum else if c then t ∷ u ∷ sum else u ∷ with_pair t sum)
    by rest true c = All-cons (λ (u : PairTerm). P u.0) (u.0, t.1 + u.1) sum head tail
    by rest false true = All-cons (λ (u : PairTerm). P u.0) t (u ∷ sum) h a
    by rest false false = All-cons (λ (u : PairTerm). P u.0) u (with_pair t sum) head rest

pub within-added : (P : ℕ × ℕ → Type 0) (a b : PairSum) → All (λ u. P u.0) a → All (λ u. P u.0) b → All (λ u. P u.0) (added a b)
within-added P a [] ha hb = ha
within-added P a (t ∷ b) ha hb = within-added P (with_pair t a) b (within-with_pair P t a (All-head (λ (u : PairTerm). P u.0) t b hb) ha) (All-tail (λ (u : PairTerm). P u.0) t b hb)

-- a function from assignments of level m + 1 stays below a number
abbrev pub StaysBelow : ℕ → (List Bool → ℕ) → ℕ → Type 0
StaysBelow m g e = (bits : List Bool) → length bits ≡ 2 ^ suc m → g bits < e

pub exit_sum_in : (m e f : ℕ) (g h : List Bool → ℕ) → StaysBelow m g e → StaysBelow m h f → (row col : List Bool) → length row ≡ 2 ^ m → length col ≡ 2 ^ m → IsSumIn e f (2 ^ (2 ^ m)) (exit_sum (2 ^ m) g h row col)
exit_sum_in m e f g h bg bh row col lr lc = record {
  is_sum = exit_sum-sum (2 ^ m) g h row col;
  within = within-added (λ p. (p.0 < e) × (p.1 < f)) [] (meetings (2 ^ m) g h row col) (all_none (λ (u : PairTerm). (u.0.0 < e) × (u.0.1 < f)))
      (All-map (λ (u : PairTerm). (u.0.0 < e) × (u.0.1 < f)) (λ t. (meeting g h row col t, 1)) (all_bits (2 ^ m))
      (λ k d lk. (let ld = all_bits-long (2 ^ m) k d lk in
      (bg _ (length-weave row (get_or (all_bits (2 ^ m)) k d) (lr ∙ sym ld) ∙ omega (arith, lr, pow-suc 2 m)), bh _ (length-weave (get_or (all_bits (2 ^ m)) k d) col (ld ∙ sym lc) ∙ omega (arith, ld, pow-suc 2 m))))));
  total_is = exit_sum-total (2 ^ m) g h row col;
}

-- each of the sums of a product
pub sums_in : (t : Levels) (book : List PairSum) (l m e f : ℕ) (g h : List Bool → ℕ) (r : Gid × List CombId) → StaysBelow m g e → StaysBelow m h f → HasSums t book l (sum_list m g h) r → All (IsSumIn e f (2 ^ (2 ^ m))) (sums_of book r.1)
sums_in t book l m e f g h r bg bh s =
    all_labels_of (IsSumIn e f (2 ^ (2 ^ m))) (sum_list m g h) (pattern t r.0.level r.0.at) (sums_of book r.1) [] s.canon
    (All-map (IsSumIn e f (2 ^ (2 ^ m))) (λ bits. exit_sum (2 ^ m) g h (row_index bits) (column_index bits)) (all_bits (2 ^ suc m))
    (λ k d lk. (let ld = all_bits-long (2 ^ suc m) k d lk in
    let u = length-unweave (2 ^ m) (get_or (all_bits (2 ^ suc m)) k d) (ld ∙ pow-suc 2 m ∙ omega arith) in
    exit_sum_in m e f g h bg bh (row_index (get_or (all_bits (2 ^ suc m)) k d)) (column_index (get_or (all_bits (2 ^ suc m)) k d)) u.0 u.1)))

-- THE ROW OF A PAIR of middle vertices: the callees' sums, relabelled and scaled
pub term_row : (u : Levels) → IsGood u → (before now : List PairSum) (l m n : ℕ) (g h : List Bool → ℕ) (ps qs : List ℕ) («to» : Gid) (ids : List CombId) (labels : List CombId)
    → HasSums u before l (sum_list m g h) («to», ids) → All (λ s. total s ≡ 2 ^ (2 ^ m)) (sums_of before ids) → All (OwnsSum now) labels → sums_of now labels ≡ map (λ s. scaled n (relabelled ps qs s)) (sums_of before ids)
    → HasSumRow u now l (map (λ y. scaled n (relabelled ps qs (exit_sum (2 ^ m) g h (row_index y) (column_index y)))) (all_bits (2 ^ suc m))) (n * 2 ^ (2 ^ m)) («to», labels)
term_row u gu before now l m n g h ps qs e ids labels s tot own is =
    let f : PairSum → PairSum = λ s. scaled n (relabelled ps qs s) in
    let there : e.at < count u l = subst (λ (k : ℕ). e.at < count u k) s.level s.there in
    let canon : IsCanon (sum_list m g h) (pattern u l e.at) (sums_of before ids) = subst (λ (k : ℕ). IsCanon (sum_list m g h) (pattern u k e.at) (sums_of before ids)) s.level s.canon in
    record {
      is_row = record {
        level = s.level;
        owned = there;
        labelled = sym (length-map labels (sum_of now)) ∙ ap length is ∙ length-map (sums_of before ids) f ∙ sym canon.reached ∙ (level_holds u gu l).reaches e.at there;
      };
      owned = own;
      spells = row_listed f (sum_list m g h) (pattern u l e.at) (sums_of before ids) (sums_of now labels) [] canon is
          ∙ map_map f (λ y. exit_sum (2 ^ m) g h (row_index y) (column_index y)) (all_bits (2 ^ suc m));
      totals = subst (λ (v : List PairSum). All (λ s. total s ≡ n * 2 ^ (2 ^ m)) v) (sym is) (All-map (λ (s : PairSum). total s ≡ n * 2 ^ (2 ^ m)) f (sums_of before ids)
          (λ k d lk. total-scaled n (relabelled ps qs (get_or (sums_of before ids) k d)) ∙ ap (λ (x : ℕ). n * x) (total-relabelled ps qs (get_or (sums_of before ids) k d) ∙ tot k d lk)));
    }

-- the sums of a product stay as table and book grow
pub HasSums-kept : (t u : Levels) (before now : List PairSum) (l : ℕ) (all : List PairSum) (r : Gid × List CombId) → IsGood t → Extends t u → Lengthens before now → HasSums t before l all r → HasSums u now l all r
HasSums-kept t u before now l all r g x y h = record {
  level = h.level;
  there = (let own = h.there in omega (arith, own, x.more r.0.level));
  owned = owned_kept before now y r.1 h.owned;
  canon = subst (λ (s : List PairSum). IsCanon all (pattern u r.0.level r.0.at) s) (sym (sums_kept before now y r.1 h.owned))
      (subst (λ (p : List ℕ). IsCanon all p (sums_of before r.1)) (sym (pattern_kept t u g x r.0.level r.0.at h.there)) h.canon);
}
