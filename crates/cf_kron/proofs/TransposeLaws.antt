use Rattle.std.proofs.Common.{◌≡◌, ℕ, zero, suc, ◌<◌, ◌≤◌, ◌+◌, ◌*◌, ◌-◌, ◌^◌, Bool, true, false, List, [], ◌∷◌, ◌++◌, map, length, get_or, Some, option_map, refl, sym, ◌∙◌, ap, subst, arith, pow-suc}
use Rattle.std.specs.Prelude.{All, flat_map, if◌then◌else◌}
use Rattle.std.specs.List.{slice_get}
use Rattle.std.proofs.lemmas.List.{length-map, get_or-map}
use Rattle.std.proofs.lemmas.Option.{slice_get-get_or, get_or_from_slice_get, slice_get-map}
use Rattle.cf_model.specs.Assignments.{number_of, bits_of, all_bits, weave, row_of, column_of, first_half, second_half}
use Rattle.cf_model.specs.Renumbering.{AllDiffer, IsCanon}
use Rattle.cf_model.specs.FlatFunctions.{points, IsAssignment}
use Rattle.cf_model.specs.Diagrams.{Levels, Connection, exit_at, Node, connection_at, count, node, row, pattern, exits, IsGoodConnection, IsGood, Extends}
use Rattle.cf_model.proofs.AssignmentLaws.{half_level, length-unweave, length-weave, weave-append, length-all_bits, all_bits-place, all_bits-order, bits_of-number_of, number_of-append, number_of-below, number_of-halves}
use Rattle.cf_model.proofs.CanonLaws.{same_lists}
use Rattle.cf_model.proofs.FlatFunctionLaws.{points-is, number_in}
use Rattle.cf_model.proofs.Growth.{Under, Under-width}
use Rattle.cf_model.proofs.Entries.{Under-get_or, entry_below, entry_by_halves}
use Rattle.cf_model.proofs.Canonicity.{level_holds, pattern_full, row_points, points_of_rows}
use Rattle.cf_model.proofs.Growing.{pattern_kept, Extends-trans, Extends-refl}
use Rattle.cf_tuple.specs.Books.{Lengthens}
use Rattle.cf_tuple.proofs.BookLaws.{Lengthens-same, Lengthens-trans}
use Rattle.cf_table.specs.declared.Gid.{Gid}
use Rattle.cf_table.specs.declared.BConn.{BConn}
use Rattle.cf_table.specs.Groupings.{Groupings, connection_of}
use Rattle.cf_table.proofs.Told.{good_node}
use Rattle.cf_build.specs.Assembling.{row_of as row_place, row_labels, labels_over, HasCanon}
use Rattle.cf_pair.specs.Products.{Lists, ListEach, HasListed}
use Rattle.cf_pair.proofs.Zips.{all_labels_of, differ_map}
use Rattle.cf_pair.proofs.Rows.{row_listed, labels_listed, each_row, Lists-kept, listed_more}
use Rattle.cf_pair.proofs.Pairs.{callee_under, callee_kept, spelled_at}
use Rattle.cf_kron.specs.Transposed.{HasRows, turned, exit_in, turned_exits, returned_exits}
use Rattle.cf_kron.proofs.NamedLaws.{split}
use Rattle.cf_kron.proofs.Words.{entry_of_words, fork_labels}

-- what is tabulated, read at an assignment
pub table_read : {A : Type 0} (n : ℕ) (f : List Bool → A) (bits : List Bool) → length bits ≡ n → slice_get (map f (all_bits n)) (number_of bits) ≡ Some (f bits)
table_read n f bits h =
    let below : number_of bits < 2 ^ n = subst (λ (k : ℕ). number_of bits < 2 ^ k) h (number_of-below bits) in
    let same : get_or (all_bits n) (number_of bits) [] ≡ bits = all_bits-order n (number_of bits) below ∙ ap (λ (k : ℕ). bits_of k (number_of bits)) (sym h) ∙ bits_of-number_of bits in
    slice_get-map f (all_bits n) (number_of bits) ∙ ap (option_map f) (slice_get-get_or (all_bits n) (number_of bits) [] (omega (arith, below, length-all_bits n)) ∙ ap Some same)

pub length-table : {A : Type 0} (n : ℕ) (f : List Bool → A) → length (map f (all_bits n)) ≡ 2 ^ n
length-table n f = length-map (all_bits n) f ∙ length-all_bits n

-- a list is what is tabulated where it has its entries
tabulated_is : {A : Type 0} (n : ℕ) (f : List Bool → A) (xs : List A) → length xs ≡ 2 ^ n → ((bits : List Bool) → length bits ≡ n → slice_get xs (number_of bits) ≡ Some (f bits)) → map f (all_bits n) ≡ xs
tabulated_is n f xs long each =
    same_lists (map f (all_bits n)) xs (length-table n f ∙ sym long)
    (λ i li.
    (let place = all_bits-place n i (omega (arith, li, length-table n f)) in
    let bits = get_or (all_bits n) i [] in
    ap (slice_get (map f (all_bits n))) (sym place.1) ∙ table_read n f bits place.0 ∙ sym (each bits place.0) ∙ ap (slice_get xs) place.1))

-- an assignment with row and column exchanged is one
pub turned_assigns : (l : ℕ) (bits : List Bool) → IsAssignment (suc l) bits → IsAssignment (suc l) (turned bits)
turned_assigns l bits a =
    let e : length bits ≡ 2 * 2 ^ l = a ∙ pow-suc 2 l ∙ omega arith in
    let u = length-unweave (2 ^ l) bits e in
    length-weave (column_of bits) (row_of bits) (u.1 ∙ sym u.0) ∙ ap (λ (n : ℕ). 2 * n) u.1 ∙ omega (arith, pow-suc 2 l)

-- and its halves are those of the assignment
turned_halves : (m : ℕ) (bits : List Bool) → IsAssignment (suc (suc m)) bits → turned bits ≡ turned (first_half bits) ++ turned (second_half bits)
turned_halves m bits a =
    let s = split m bits a in
    let x = first_half bits in
    let y = second_half bits in
    ap (λ (c : List Bool). weave c (row_of bits)) s.column ∙ ap (weave (column_of x ++ column_of y)) s.row
    ∙ weave-append (column_of x) (column_of y) (row_of x) (row_of y) (s.first_column ∙ sym s.first_row)

turned_number : (m : ℕ) (bits : List Bool) → IsAssignment (suc (suc m)) bits → number_of (turned bits) ≡ number_of (turned (first_half bits)) * points (suc m) + number_of (turned (second_half bits))
turned_number m bits a =
    let h = half_level (suc m) bits a in
    let ty : length (turned (second_half bits)) ≡ 2 ^ suc m = turned_assigns m (second_half bits) h.1 in
    ap number_of (turned_halves m bits a) ∙ number_of-append (turned (first_half bits)) (turned (second_half bits))
    ∙ ap (λ (n : ℕ). number_of (turned (first_half bits)) * n + number_of (turned (second_half bits))) (ap (λ (n : ℕ). 2 ^ n) ty ∙ sym (points-is (suc m)))

half_number : (l : ℕ) (bits : List Bool) → IsAssignment (suc l) bits → number_of bits ≡ number_of (first_half bits) * points l + number_of (second_half bits)
half_number l bits a =
    number_of-halves bits ∙ ap (λ (n : ℕ). number_of (first_half bits) * n + number_of (second_half bits)) (ap (λ (n : ℕ). 2 ^ n) (half_level l bits a).1 ∙ sym (points-is l))

under_from : (m : ℕ) (p : List ℕ) → ((u : ℕ) → u < length p → get_or p u 0 < m) → Under m p
under_from m [] h = tt
under_from m (x ∷ p) h = (h 0 (omega arith), under_from m p (λ u lu. h (suc u) (omega (arith, lu))))

-- exits of a pattern that are turned are its exits
turned_in : (l m : ℕ) (p : List ℕ) → Under m p → length p ≡ points (suc l) → All (λ e. e < m) (turned_exits (suc l) p)
turned_in l m p under full j d lj =
    let n = 2 ^ suc l in
    let f : List Bool → ℕ = λ bits. exit_in p (turned bits) in
    let lb : j < length (all_bits n) = omega (arith, lj, length-map (all_bits n) f) in
    let place = all_bits-place n j (omega (arith, lb, length-all_bits n)) in
    let bits = get_or (all_bits n) j [] in
    subst (λ (e : ℕ). e < m) (sym (get_or-map f (all_bits n) j [] d lb)) (Under-get_or m p (number_of (turned bits)) under (omega (arith, number_in (suc l) (turned bits) (turned_assigns l bits place.0), full)))

turned_under : (l m : ℕ) (p : List ℕ) → Under m p → length p ≡ points (suc l) → Under m (turned_exits (suc l) p)
turned_under l m p under full = under_from m (turned_exits (suc l) p) (λ u lu. turned_in l m p under full u 0 lu)

-- the different ones of them too
pub labels_in : (l m : ℕ) (p ranks es : List ℕ) → Under m p → length p ≡ points (suc l) → IsCanon (turned_exits (suc l) p) ranks es → All (λ e. e < m) es
labels_in l m p ranks es under full c = all_labels_of (λ e. e < m) (turned_exits (suc l) p) ranks es 0 c (turned_in l m p under full)

-- words of one length over a pattern, with rows and columns exchanged: the words so, over the pattern so
words_turned : (m n : ℕ) (w : ℕ → List ℕ) (p : List ℕ) → ((i : ℕ) → i < n → length (w i) ≡ points (suc m)) → Under n p → length p ≡ points (suc m)
    → turned_exits (suc (suc m)) (flat_map w p) ≡ flat_map (λ j. turned_exits (suc m) (w j)) (turned_exits (suc m) p)
words_turned m n w p even under full =
    let l = suc m in
    let f : List Bool → ℕ = λ bits. exit_in (flat_map w p) (turned bits) in
    let v : ℕ → List ℕ = λ j. turned_exits l (w j) in
    let q = turned_exits l p in
    let each_long : (j : ℕ) → length (v j) ≡ points l = λ j. length-table (2 ^ l) (λ bits. exit_in (w j) (turned bits)) ∙ sym (points-is l) in
    let q_long : length q ≡ points l = length-table (2 ^ l) (λ bits. exit_in p (turned bits)) ∙ sym (points-is l) in
    let q_under = turned_under m n p under full in
    let long : length (flat_map v q) ≡ points (suc l) = points_of_rows v (points l) n q (λ i li. each_long i) q_under ∙ ap (λ (k : ℕ). k * points l) q_long in
    tabulated_is (2 ^ suc l) f (flat_map v q) (long ∙ points-is (suc l))
    (λ bits a.
    (let h = half_level l bits a in
    let x = first_half bits in
    let y = second_half bits in
    let tx = turned_assigns m x h.0 in
    let ty = turned_assigns m y h.1 in
    let j = exit_in p (turned x) in
    let there : get_or q (number_of x) 0 ≡ j = get_or_from_slice_get q (number_of x) j 0 (table_read (2 ^ l) (λ b. exit_in p (turned b)) x h.0) in
    let back : get_or (v j) (number_of y) 0 ≡ exit_in (w j) (turned y) = get_or_from_slice_get (v j) (number_of y) (exit_in (w j) (turned y)) 0 (table_read (2 ^ l) (λ b. exit_in (w j) (turned b)) y h.1) in
    let right : get_or (flat_map v q) (number_of bits) 0 ≡ exit_in (w j) (turned y) =
    ap (λ (k : ℕ). get_or (flat_map v q) k 0) (half_number l bits a)
    ∙ entry_of_words v 0 (points l) n q (number_of x) (number_of y) (λ i li. each_long i) q_under (omega (arith, number_in l x h.0, q_long)) (number_in l y h.1)
    ∙ ap (λ (i : ℕ). get_or (v i) (number_of y) 0) there ∙ back in
    let left : f bits ≡ exit_in (w j) (turned y) =
    ap (λ (k : ℕ). get_or (flat_map w p) k 0) (turned_number m bits a)
    ∙ entry_of_words w 0 (points l) n p (number_of (turned x)) (number_of (turned y)) even under (omega (arith, number_in l (turned x) tx, full)) (number_in l (turned y) ty) in
    slice_get-get_or (flat_map v q) (number_of bits) 0 (omega (arith, number_in (suc l) bits a, long)) ∙ ap Some (right ∙ sym left)))

-- the exits of a grouping with rows and columns exchanged, by those of its callees
turned_words_suc : (t : Levels) → IsGood t → (m g : ℕ) → g < count t (suc (suc m))
    → turned_exits (suc (suc m)) (pattern t (suc (suc m)) g) ≡ flat_map (λ j. turned_exits (suc m) (row (pattern t (suc m)) (connection_at (node t (suc (suc m)) g).connections j))) (turned_exits (suc m) (pattern t (suc m) (node t (suc (suc m)) g).a_callee))
turned_words_suc t good m g own =
    let l = suc m in
    let n = good_node t good (suc l) l g (omega arith) own in
    let o = level_holds t good l in
    let bs = (node t (suc l) g).connections in
    let a = (node t (suc l) g).a_callee in
    ap (turned_exits (suc l)) (spelled_at t (suc l) l g (omega arith))
    ∙ words_turned m (length bs) (λ j. row (pattern t l) (connection_at bs j)) (pattern t l a)
    (λ j lj. row_points (count t l) (points l) (exits t l) (pattern t l) o (connection_at bs j) (n.good_connections j lj))
    (Under-width 0 (length bs) (pattern t l a) (omega (arith, o.reaches a n.callee_exists, n.middles))) (o.points a n.callee_exists)

pub turned_words : (t : Levels) → IsGood t → (k l g : ℕ) → l + 1 ≡ k → 1 ≤ l → g < count t k
    → turned_exits k (pattern t k g) ≡ flat_map (λ j. turned_exits l (row (pattern t l) (connection_at (node t k g).connections j))) (turned_exits l (pattern t l (node t k g).a_callee))
turned_words t good k zero g e h own = absurd (omega (arith, h))
turned_words t good k (suc m) g e h own =
    let q : suc (suc m) ≡ k = omega (arith, e) in
    (subst (λ (k : ℕ). g < count t k → turned_exits k (pattern t k g) ≡ flat_map (λ j. turned_exits (suc m) (row (pattern t (suc m)) (connection_at (node t k g).connections j))) (turned_exits (suc m) (pattern t (suc m) (node t k g).a_callee))) q
    (turned_words_suc t good m g)) own

-- the row of a B-connection with rows and columns exchanged: the callee's exits so, returned
row_turned : (t : Levels) → IsGood t → (l : ℕ) (c : Connection) → IsGoodConnection (count t (suc l)) (exits t (suc l)) c
    → turned_exits (suc l) (row (pattern t (suc l)) c) ≡ map (exit_at c) (turned_exits (suc l) (pattern t (suc l) c.callee))
row_turned t good l c gc =
    let p = pattern t (suc l) c.callee in
    let n = 2 ^ suc l in
    let inner : List Bool → ℕ = λ bits. exit_in p (turned bits) in
    tabulated_is n (λ bits. exit_in (map (exit_at c) p) (turned bits)) (map (exit_at c) (map inner (all_bits n)))
    (length-map (map inner (all_bits n)) (exit_at c) ∙ length-table n inner)
    (λ bits a.
    (slice_get-map (exit_at c) (map inner (all_bits n)) (number_of bits) ∙ ap (option_map (exit_at c)) (table_read n inner bits a)
    ∙ ap Some (sym (get_or-map (exit_at c) p (number_of (turned bits)) 0 0 (omega (arith, number_in (suc l) (turned bits) (turned_assigns l bits a), pattern_full t good (suc l) c.callee gc.callee_exists))))))

-- the exits of a transposed callee have a place in the return tuple
exits_in_suc : (t : Levels) → IsGood t → (l : ℕ) (c : Connection) → IsGoodConnection (count t (suc l)) (exits t (suc l)) c → (ranks es : List ℕ) → IsCanon (turned_exits (suc l) (pattern t (suc l) c.callee)) ranks es → All (λ e. e < length c.returns) es
exits_in_suc t good l c gc ranks es k = labels_in l (length c.returns) (pattern t (suc l) c.callee) ranks es (callee_under t good (suc l) c gc) ((level_holds t good (suc l)).points c.callee gc.callee_exists) k

pub exits_in : (t : Levels) → IsGood t → (l : ℕ) → 1 ≤ l → (c : Connection) → IsGoodConnection (count t l) (exits t l) c → (ranks es : List ℕ) → IsCanon (turned_exits l (pattern t l c.callee)) ranks es → All (λ e. e < length c.returns) es
exits_in t good zero h c gc ranks es k = absurd (omega (arith, h))
exits_in t good (suc l) h c gc ranks es k = exits_in_suc t good l c gc ranks es k

-- the row that is made of a B-connection
row_made_suc : (t u : Levels) → IsGood t → IsGood u → (m : ℕ) (c : Connection) → IsGoodConnection (count t (suc m)) (exits t (suc m)) c → (g : Gid) (es : List ℕ) (labels : List ℕ)
    → HasCanon u g (suc m) (turned_exits (suc m) (pattern t (suc m) c.callee)) es → labels ≡ returned_exits c.returns es → Lists u (suc m) (turned_exits (suc m) (row (pattern t (suc m)) c)) (g, labels)
row_made_suc t u gt gu m c gc g es labels h e =
    let l = suc m in
    let all = turned_exits l (pattern t l c.callee) in
    let own : g.at < count u l = subst (λ (k : ℕ). g.at < count u k) h.level h.there in
    let canon : IsCanon all (pattern u l g.at) es = subst (λ (k : ℕ). IsCanon all (pattern u k g.at) es) h.level h.canon in
    record {
      is_row = record { level = h.level; owned = own; labelled = ap length e ∙ length-map es (exit_at c) ∙ sym canon.reached ∙ (level_holds u gu l).reaches g.at own };
      labels = row_listed (exit_at c) all (pattern u l g.at) es labels 0 canon e ∙ sym (row_turned t gt m c gc);
      differ = subst (λ (v : List ℕ). AllDiffer v) (sym e)
          (differ_map (exit_at c) (λ x. x < length c.returns) es 0 (exits_in_suc t gt m c gc (pattern u l g.at) es canon) (λ x y hx hy q. gc.once x y hx hy q) canon.differ);
    }

pub row_made : (t u : Levels) → IsGood t → IsGood u → (l : ℕ) → 1 ≤ l → (c : Connection) → IsGoodConnection (count t l) (exits t l) c → (g : Gid) (es : List ℕ) (labels : List ℕ)
    → HasCanon u g l (turned_exits l (pattern t l c.callee)) es → labels ≡ returned_exits c.returns es → Lists u l (turned_exits l (row (pattern t l) c)) (g, labels)
row_made t u gt gu zero h c gc g es labels k e = absurd (omega (arith, h))
row_made t u gt gu (suc m) h c gc g es labels k e = row_made_suc t u gt gu m c gc g es labels k e

-- no row yet
pub rows_none : (t : Groupings) (l : ℕ) (wanted : ℕ → List ℕ) (rows : List (Gid × List ℕ)) → IsGood t.levels → rows ≡ [] → HasRows t t l wanted 0 rows
rows_none t l wanted rows good e = record {
  good = good;
  extends = Extends-refl t.levels;
  longer = Lengthens-same t.tuples t.tuples refl;
  listed = record { long = ap length e; each = λ i d li. absurd (omega (arith, li)) };
}

-- one more row
pub rows_more : (t s u : Groupings) (l : ℕ) (wanted : ℕ → List ℕ) (i : ℕ) (rows after : List (Gid × List ℕ)) (r : Gid × List ℕ) → HasRows t s l wanted i rows
    → Lists u.levels l (wanted i) r → IsGood u.levels → Extends s.levels u.levels → Lengthens s.tuples u.tuples → after ≡ rows ++ r ∷ [] → HasRows t u l wanted (i + 1) after
rows_more t s u l wanted i rows after r h new good x y e =
    let same = Lengthens-same u.tuples u.tuples refl in
    let kept : ListEach u.levels l wanted i rows = record { long = h.listed.long; each = λ j d lj. Lists-kept s.levels u.levels l (wanted j) (get_or rows j d) h.good x (h.listed.each j d lj) } in
    let known : HasListed u u l wanted i rows = record { good = good; extends = Extends-refl u.levels; longer = same; listed = kept; added = λ k j ge lt. absurd (omega (arith, ge, lt)) } in
    record {
      good = good;
      extends = Extends-trans t.levels s.levels u.levels h.extends x;
      longer = Lengthens-trans t.tuples s.tuples u.tuples h.longer y;
      listed = (listed_more u u u l wanted i rows after r known new (λ k j ge lt. absurd (omega (arith, ge, lt))) good (Extends-refl u.levels) same e).listed;
    }

-- What is known once the A-callee was transposed, to grouping e, and the rows: `t` at entry, `u` after the first, `v` after
-- the rows.
pub record AboveCall (t u v : Levels) (g a e : Gid) (ms : List ℕ) (rows : List (Gid × List ℕ)) : Type 0 where
  pub good : IsGood t
  pub above : 2 ≤ g.level
  pub owned : g.at < count t g.level
  pub a_level : a.level + 1 ≡ g.level
  pub a_is : a.at ≡ (node t g.level g.at).a_callee
  pub good1 : IsGood u
  pub extends1 : Extends t u
  pub canon : HasCanon u e a.level (turned_exits a.level (pattern t a.level a.at)) ms
  pub good2 : IsGood v
  pub extends2 : Extends u v
  pub listed : ListEach v (g.level - 1) (λ i. turned_exits (g.level - 1) (row (pattern u (g.level - 1)) (connection_at (node u g.level g.at).connections (get_or ms i 0)))) (length ms) rows

middles_in_suc : (t : Levels) → IsGood t → (k m g a : ℕ) → suc m + 1 ≡ k → g < count t k → a ≡ (node t k g).a_callee → (ranks ms : List ℕ) → IsCanon (turned_exits (suc m) (pattern t (suc m) a)) ranks ms → All (λ j. j < length (node t k g).connections) ms
middles_in_suc t good k m g a e own ae ranks ms c =
    let n = good_node t good k (suc m) g e own in
    let w = level_holds t good (suc m) in
    let z = (node t k g).a_callee in
    labels_in m (length (node t k g).connections) (pattern t (suc m) z) ranks ms (Under-width 0 (length (node t k g).connections) (pattern t (suc m) z) (omega (arith, w.reaches z n.callee_exists, n.middles))) (w.points z n.callee_exists)
    (subst (λ (i : ℕ). IsCanon (turned_exits (suc m) (pattern t (suc m) i)) ranks ms) ae c)

-- the middle vertices that the transposed A-callee reaches
pub middles_in : (t : Levels) → IsGood t → (k l g a : ℕ) → l + 1 ≡ k → 1 ≤ l → g < count t k → a ≡ (node t k g).a_callee → (ranks ms : List ℕ) → IsCanon (turned_exits l (pattern t l a)) ranks ms → All (λ j. j < length (node t k g).connections) ms
middles_in t good k zero g a e h own ae ranks ms c = absurd (omega (arith, h))
middles_in t good k (suc m) g a e h own ae ranks ms c = middles_in_suc t good k m g a e own ae ranks ms c

-- what is known once the rows were assembled
pub above_made : (t u v w : Levels) (g a e : Gid) (ms : List ℕ) (rows : List (Gid × List ℕ)) (r : Gid) (ds : List ℕ) → AboveCall t u v g a e ms rows
    → HasCanon w r (suc e.level) (labels_over (pattern v e.level) e.at (map row_place rows)) ds
    → HasCanon w r g.level (turned_exits g.level (pattern t g.level g.at)) ds
above_made t u v w g a e ms rows r ds c assembled =
    let k = g.level in
    let l = k - 1 in
    let below : l + 1 ≡ k = omega (arith, c.above) in
    let some : 1 ≤ l = omega (arith, c.above) in
    let la : a.level ≡ l = omega (arith, c.a_level) in
    let le : e.level ≡ l = c.canon.level ∙ la in
    let all : List ℕ = turned_exits l (pattern t l a.at) in
    let canon : HasCanon u e l all ms = subst (λ (m : ℕ). HasCanon u e m (turned_exits m (pattern t m a.at)) ms) la c.canon in
    let there : e.at < count u l = subst (λ (m : ℕ). e.at < count u m) le canon.there in
    let told : IsCanon all (pattern u l e.at) ms = subst (λ (m : ℕ). IsCanon all (pattern u m e.at) ms) le canon.canon in
    let told_v : IsCanon all (pattern v l e.at) ms = subst (λ (p : List ℕ). IsCanon all p ms) (sym (pattern_kept u v c.good1 c.extends2 l e.at there)) told in
    let gu : g.at < count u k = omega (arith, c.owned, c.extends1.more k) in
    let bs = (node u k g.at).connections in
    let word : ℕ → List ℕ = λ j. turned_exits l (row (pattern u l) (connection_at bs j)) in
    let s : HasCanon w r (suc l) (labels_over (pattern v l) e.at (map row_place rows)) ds = subst (λ (m : ℕ). HasCanon w r (suc m) (labels_over (pattern v m) e.at (map row_place rows)) ds) le assembled in
    let long = c.listed.long in
    let all_u : all ≡ turned_exits l (pattern u l (node u k g.at).a_callee) = ap (turned_exits l) (callee_kept t u c.good c.extends1 k l g.at a.at below c.owned c.a_is) in
    let whole : labels_over (pattern v l) e.at (map row_place rows) ≡ turned_exits k (pattern t k g.at) =
    labels_listed (pattern v l) e.at all ms 0 word (map row_place rows) told_v
    (λ j lj. each_row (λ y. row_labels (pattern v l) y ≡ word (get_or ms j 0)) rows j (omega (arith, lj, long)) (λ d. (c.listed.each j d lj).labels))
    ∙ ap (flat_map word) all_u
    ∙ sym (turned_words u c.good1 k l g.at below some gu)
    ∙ ap (turned_exits k) (pattern_kept t u c.good c.extends1 k g.at c.owned) in
    record { level = omega (arith, s.level, below); there = s.there; canon = subst (λ (v : List ℕ). IsCanon v (pattern w r.level r.at) ds) whole s.canon }

-- the exits of level 1 in a row and a column
abbrev pub entry_1 : List ℕ → Bool → Bool → ℕ
entry_1 p row column = get_or p (number_of (row ∷ column ∷ [])) 0

four : (p : List ℕ) → turned_exits 1 p ≡ entry_1 p false false ∷ entry_1 p true false ∷ entry_1 p false true ∷ entry_1 p true true ∷ []
unfolding all_bits
four p = refl

-- what is known once level 1 was assembled
pub base_made : (t v w : Levels) (g : Gid) → g.level ≡ 1 → (rows : List (Gid × List ℕ)) (r : Gid) (ds : List ℕ)
    → rows ≡ ((record { level = 0; at = 1 }), entry_1 (pattern t g.level g.at) false false ∷ entry_1 (pattern t g.level g.at) true false ∷ [])
    ∷ ((record { level = 0; at = 1 }), entry_1 (pattern t g.level g.at) false true ∷ entry_1 (pattern t g.level g.at) true true ∷ []) ∷ []
    → HasCanon w r 1 (labels_over (pattern v 0) 1 (map row_place rows)) ds
    → HasCanon w r g.level (turned_exits g.level (pattern t g.level g.at)) ds
base_made t v w g one rows r ds e c =
    let p = pattern t g.level g.at in
    let fork : Gid = record { level = 0; at = 1 } in
    let given : List (Gid × List ℕ) = (fork, entry_1 p false false ∷ entry_1 p true false ∷ []) ∷ (fork, entry_1 p false true ∷ entry_1 p true true ∷ []) ∷ [] in
    let read : labels_over (pattern v 0) 1 (map row_place given) ≡ entry_1 p false false ∷ entry_1 p true false ∷ entry_1 p false true ∷ entry_1 p true true ∷ [] =
    fork_labels v (entry_1 p false false) (entry_1 p true false) (entry_1 p false true) (entry_1 p true true) in
    let whole : labels_over (pattern v 0) 1 (map row_place rows) ≡ turned_exits g.level p =
    ap (λ (rs : List (Gid × List ℕ)). labels_over (pattern v 0) 1 (map row_place rs)) e ∙ read ∙ sym (four p) ∙ ap (λ (m : ℕ). turned_exits m p) (sym one) in
    record { level = c.level ∙ sym one; there = c.there; canon = subst (λ (x : List ℕ). IsCanon x (pattern w r.level r.at) ds) whole c.canon }

-- the exit of a grouping of level 0 at a bit
abbrev pub bit_exit : ℕ → Bool → ℕ
bit_exit i bit = if bit then i else 0

base_exit : (t : Levels) (i : ℕ) → i < 2 → (bit : Bool) → get_or (pattern t 0 i) (number_of (bit ∷ [])) 0 ≡ bit_exit i bit
unfolding pattern
base_exit t zero h true = refl
base_exit t zero h false = refl
base_exit t (suc zero) h true = refl
base_exit t (suc zero) h false = refl
base_exit t (suc (suc i)) h bit = absurd (omega (arith, h))

bit_in : (bit : Bool) → number_of (bit ∷ []) < points 0
bit_in true = omega arith
bit_in false = omega arith

two_bits : (row column : Bool) → number_of (row ∷ column ∷ []) ≡ number_of (row ∷ []) * points 0 + number_of (column ∷ [])
two_bits true true = refl
two_bits true false = refl
two_bits false true = refl
two_bits false false = refl

-- What is read of a grouping of level 1 in a row and a column.
pub record ReadOne (n : Node) (p : List ℕ) (row column : Bool) : Type 0 where
  pub middle : bit_exit n.a_callee row < length n.connections
  pub inner : bit_exit (connection_at n.connections (bit_exit n.a_callee row)).callee column < length (connection_at n.connections (bit_exit n.a_callee row)).returns
  pub entry : entry_1 p row column ≡ exit_at (connection_at n.connections (bit_exit n.a_callee row)) (bit_exit (connection_at n.connections (bit_exit n.a_callee row)).callee column)

read_one : (t : Levels) → IsGood t → (g : ℕ) → g < count t 1 → (row column : Bool) → ReadOne (node t 1 g) (pattern t 1 g) row column
read_one t good g own row column =
    let n = node t 1 g in
    let gn = good.good_nodes 0 g own in
    let u = number_of (row ∷ []) in
    let v = number_of (column ∷ []) in
    let j = get_or (pattern t 0 n.a_callee) u 0 in
    let ej : j ≡ bit_exit n.a_callee row = base_exit t n.a_callee (omega (arith, gn.callee_exists, good.base)) row in
    let lj : j < length n.connections = omega (arith, entry_below t good 0 n.a_callee u gn.callee_exists (bit_in row), gn.middles) in
    let b = connection_at n.connections (bit_exit n.a_callee row) in
    let middle : bit_exit n.a_callee row < length n.connections = omega (arith, ej, lj) in
    let gb = gn.good_connections (bit_exit n.a_callee row) middle in
    let ei : get_or (pattern t 0 b.callee) v 0 ≡ bit_exit b.callee column = base_exit t b.callee (omega (arith, gb.callee_exists, good.base)) column in
    record {
      middle = middle;
      inner = omega (arith, ei, entry_below t good 0 b.callee v gb.callee_exists (bit_in column), gb.entries);
      entry = ap (λ (k : ℕ). get_or (pattern t 1 g) k 0) (two_bits row column) ∙ entry_by_halves t good 0 g u v own (bit_in row) (bit_in column)
          ∙ ap (λ (k : ℕ). exit_at (connection_at n.connections k) (get_or (pattern t 0 (connection_at n.connections k).callee) v 0)) ej
          ∙ ap (exit_at b) ei;
    }

pub read_level_one : (t : Levels) → IsGood t → (k g : ℕ) → k ≡ 1 → g < count t k → (row column : Bool) → ReadOne (node t k g) (pattern t k g) row column
read_level_one t good k g e own row column =
    (subst (λ (m : ℕ). g < count t m → ReadOne (node t m g) (pattern t m g) row column) (sym e) (λ h. read_one t good g h row column)) own

-- which is what the code reads
pub one_read : (tuples : List (List ℕ)) (n : Node) (p : List ℕ) (row column : Bool) → ReadOne n p row column → (a j : ℕ) (conn : BConn) (returns : List ℕ) (e : ℕ) → a ≡ n.a_callee → j ≡ bit_exit a row
    → connection_of tuples conn ≡ connection_at n.connections j → returns ≡ (connection_of tuples conn).returns → e ≡ bit_exit conn.«to».at column
    → (e < length returns) × (get_or returns e 0 ≡ entry_1 p row column)
one_read tuples n p row column r a j conn returns e ea ej ec er ee =
    let place : j ≡ bit_exit n.a_callee row = ej ∙ ap (λ (i : ℕ). bit_exit i row) ea in
    let b = connection_at n.connections (bit_exit n.a_callee row) in
    let is : connection_of tuples conn ≡ b = ec ∙ ap (connection_at n.connections) place in
    let exit : e ≡ bit_exit b.callee column = ee ∙ ap (λ (c : Connection). bit_exit c.callee column) is in
    let list : returns ≡ b.returns = er ∙ ap (λ (c : Connection). c.returns) is in
    (omega (arith, exit, ap length list, r.inner), ap (λ (v : List ℕ). get_or v e 0) list ∙ ap (exit_at b) exit ∙ sym r.entry)
