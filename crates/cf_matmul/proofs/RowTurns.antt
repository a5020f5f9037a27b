use Rattle.std.proofs.Common.{◌≡◌, ℕ, zero, suc, ◌<◌, ◌≤◌, ◌+◌, ◌*◌, ◌-◌, ◌^◌, Bool, List, [], ◌∷◌, ◌++◌, map, take, length, get_or, refl, sym, ◌∙◌, ap, subst, arith, inl, inr}
use Rattle.std.specs.Prelude.{All}
use Rattle.std.proofs.lemmas.Bool.{cases_lt}
use Rattle.std.proofs.lemmas.List.{take_more, get_or_push, get_or_append_left, length_push}
use Rattle.std.proofs.lemmas.List.Elements.{All-head, All-tail}
use Rattle.std.proofs.lemmas.List.Sums.{sum_by-cons, sum_by-append, sum_by_more_le}
use Rattle.std.proofs.lemmas.Nat.{mul-le, pow_pos}
use Rattle.cf_model.specs.Assignments.{row_of as row_index, column_of as column_index, all_bits}
use Rattle.cf_model.specs.PairSums.{PairTerm, PairSum, total, added, scaled, relabelled}
use Rattle.cf_model.specs.Diagrams.{Levels, Node, Connection, connection_at, count, pattern, IsGood}
use Rattle.cf_model.proofs.RenumberingLaws.{map_each}
use Rattle.cf_model.proofs.Growing.{pattern_kept}
use Rattle.cf_table.specs.declared.Gid.{Gid}
use Rattle.cf_table.specs.Groupings.{Groupings, node_of}
use Rattle.cf_table.proofs.Told.{good_node}
use Rattle.cf_comb.specs.ExitSums.{exit_sum, composed_on, composed, inner_sum}
use Rattle.cf_comb.specs.declared.CombId.{CombId}
use Rattle.cf_matmul.specs.Symbolic.{exit_in, callee_exit, returns_at, sums_of, row_sums, term_row_sums, HasSumRow, HaveSumRows, HasGrown, IsSumIn, JoinsRows}
use Rattle.cf_matmul.proofs.SumRows.{HasSumRow-kept}
use Rattle.cf_matmul.proofs.JoinLaws.{half_first, half_more}
use Rattle.cf_matmul.proofs.Turns.{small, within_square, term_facts, term_kept}

-- What a call that goes over a sum of pairs of middle vertices is given.
pub record Given (t : Groupings) (g h : Gid) : Type 0 where
  pub above : 2 ≤ g.level
  pub level : g.level ≤ 7
  pub levels : h.level ≡ g.level
  pub good : IsGood t.levels
  pub first : g.at < count t.levels g.level
  pub second : h.at < count t.levels h.level

-- the pair whose numbers are 0, which never comes
abbrev pub no_term : PairTerm
no_term = ((0, 0), 0)

pub middles_kept : (t s : Groupings) (before now : List PairSum) (g h : Gid) → Given t g h → HasGrown t s before now → (node_of s g ≡ node_of t g) × (node_of s h ≡ node_of t h)
middles_kept t s before now g h w x = (x.extends.kept g.level g.at w.first, x.extends.kept h.level h.at w.second)

-- so the next call may be made, in a table that has grown
pub term_ready : (t s : Groupings) (before now : List PairSum) (g h : Gid) (terms : PairSum) → Given t g h → HasGrown t s before now → IsSumIn (length (node_of t g).connections) (length (node_of t h).connections) (2 ^ (2 ^ (g.level - 2))) terms
    → (i : ℕ) → i < length terms → let term = get_or terms i no_term in
    (g.at < count s.levels g.level) × (h.at < count s.levels h.level) × (term.0.0 < length (node_of s g).connections) × (term.0.1 < length (node_of s h).connections) × (1 ≤ term.1) × (term.1 * 2 ^ (2 ^ (g.level - 2)) ≤ 2 ^ 127)
term_ready t s before now g h terms w x z i li =
    let f = term_facts (length (node_of t g).connections) (length (node_of t h).connections) (2 ^ (2 ^ (g.level - 2))) terms z i no_term li in
    let k = middles_kept t s before now g h w x in (
      omega (arith, w.first, x.extends.more g.level),
      omega (arith, w.second, x.extends.more h.level),
      omega (arith, f.0, ap (λ (d : Node). length d.connections) k.0),
      omega (arith, f.1, ap (λ (d : Node). length d.connections) k.1),
      f.2,
      within_square (get_or terms i no_term).1 (2 ^ (2 ^ (g.level - 2))) (2 ^ 127) f.3 (small (g.level - 2) (omega (arith, w.level))),
    )

-- the first row
pub row_first : (s : Levels) (now : List PairSum) (t : Groupings) (g h : Gid) (terms : PairSum) (n : ℕ) (r : Gid × List CombId) → 0 < length terms → 1 ≤ (get_or terms 0 no_term).1
    → HasSumRow s now (suc (g.level - 2)) (term_row_sums t g h (get_or terms 0 no_term)) ((get_or terms 0 no_term).1 * n) r → HasSumRow s now (suc (g.level - 2)) (row_sums t g h (take 1 terms)) (total (take 1 terms) * n) r
row_first s now t g h [] n r some one x = absurd (omega (arith, some))
row_first s now t g h (u ∷ terms) n r some one x =
    let m = g.level - 2 in
    let p = pattern t.levels (suc m) in
    let bs = (node_of t g).connections in
    let cs = (node_of t h).connections in
    let e : total (u ∷ []) ≡ u.1 = sum_by-cons (λ (v : PairTerm). v.1) u [] ∙ omega arith in
    subst (λ (k : ℕ). HasSumRow s now (suc m) (row_sums t g h (u ∷ [])) (k * n) r) (sym e)
    (subst (λ (v : List PairSum). HasSumRow s now (suc m) v (u.1 * n) r) (sym (half_first m (callee_exit p bs) (callee_exit p cs) (returns_at bs) (returns_at cs) u one)) x)

total_more : (terms : PairSum) (i : ℕ) → i < length terms → total (take (i + 1) terms) ≡ total (take i terms) + (get_or terms i no_term).1
total_more terms i h =
    ap total (take_more terms i no_term h) ∙ sum_by-append (λ (v : PairTerm). v.1) (take i terms) (get_or terms i no_term ∷ [])
    ∙ omega (arith, sum_by-cons (λ (v : PairTerm). v.1) (get_or terms i no_term) [])

spread : (a b n : ℕ) → a * n + b * n ≡ (a + b) * n
spread a b n = omega arith

-- one more row
pub row_more : (s u : Levels) (now after : List PairSum) (t : Groupings) (g h : Gid) (terms : PairSum) (n i : ℕ) (x y r : Gid × List CombId) → i < length terms → JoinsRows s now u after x y r
    → HasSumRow s now (suc (g.level - 2)) (row_sums t g h (take i terms)) (total (take i terms) * n) x → HasSumRow s now (suc (g.level - 2)) (term_row_sums t g h (get_or terms i no_term)) ((get_or terms i no_term).1 * n) y
    → HasSumRow u after (suc (g.level - 2)) (row_sums t g h (take (i + 1) terms)) (total (take (i + 1) terms) * n) r
row_more s u now after t g h terms n i x y r li j hx hy =
    let m = g.level - 2 in
    let p = pattern t.levels (suc m) in
    let bs = (node_of t g).connections in
    let cs = (node_of t h).connections in
    let term = get_or terms i no_term in
    let made = j (suc m) (total (take i terms) * n) (term.1 * n) (row_sums t g h (take i terms)) (term_row_sums t g h term) hx hy in
    let e : total (take i terms) * n + term.1 * n ≡ total (take (i + 1) terms) * n = spread (total (take i terms)) term.1 n ∙ ap (λ (k : ℕ). k * n) (sym (total_more terms i li)) in
    subst (λ (k : ℕ). HasSumRow u after (suc m) (row_sums t g h (take (i + 1) terms)) k r) e
    (subst (λ (v : List PairSum). HasSumRow u after (suc m) v (total (take i terms) * n + term.1 * n) r) (sym (half_more m (callee_exit p bs) (callee_exit p cs) (returns_at bs) (returns_at cs) terms i no_term li)) made)

pub take_all : {A : Type 0} (xs : List A) (i : ℕ) → length xs ≤ i → take i xs ≡ xs
take_all [] zero h = refl
take_all [] (suc i) h = refl
take_all (x ∷ xs) zero h = absurd (omega (arith, h))
take_all (x ∷ xs) (suc i) h = ap (λ (r : List _). x ∷ r) (take_all xs i (omega (arith, h)))

-- all rows
pub row_last : (s : Levels) (now : List PairSum) (t : Groupings) (g h : Gid) (terms : PairSum) (n i : ℕ) (x : Gid × List CombId) → length terms ≤ i → total terms ≡ n
    → HasSumRow s now (suc (g.level - 2)) (row_sums t g h (take i terms)) (total (take i terms) * n) x → HasSumRow s now (suc (g.level - 2)) (row_sums t g h terms) (n * n) x
row_last s now t g h terms n i x li e hx =
    subst (λ (k : ℕ). HasSumRow s now (suc (g.level - 2)) (row_sums t g h terms) (k * n) x) e
    (subst (λ (v : PairSum). HasSumRow s now (suc (g.level - 2)) (row_sums t g h v) (total v * n) x) (take_all terms i li) hx)

-- the sums of two rows may be added
pub rows_bounded : (s : Levels) (now : List PairSum) (l n i : ℕ) (terms : PairSum) (all other : List PairSum) (x y : Gid × List CombId) → i < length terms → total terms ≡ n → n * n ≤ 2 ^ 127
    → HasSumRow s now l all (total (take i terms) * n) x → HasSumRow s now l other ((get_or terms i no_term).1 * n) y → All (λ a. All (λ b. total a + total b ≤ 2 ^ 127) (sums_of now y.1)) (sums_of now x.1)
rows_bounded s now l n i terms all other x y li e sq hx hy k d lk k2 d2 lk2 =
    let a = total (take i terms) in
    let b = (get_or terms i no_term).1 in
    let le : a + b ≤ n = omega (arith, sum_by_more_le (λ (v : PairTerm). v.1) terms i no_term li, e) in
    omega (arith, hx.totals k d lk, hy.totals k2 d2 lk2, spread a b n, mul-le (a + b) n n n le (omega arith), sq)

-- a sum is not empty
pub some_terms : (e f m : ℕ) (terms : PairSum) → IsSumIn e f (2 ^ (2 ^ m)) terms → 0 < length terms
some_terms e f m [] s = absurd (omega (arith, s.total_is, pow_pos (2 ^ m)))
some_terms e f m (t ∷ terms) s = omega arith

-- the words of a sum are the same in a table that has grown
composed_same : (start : PairSum) (f g : ℕ × ℕ → PairSum) (terms : List PairTerm) → All (λ t. f t.0 ≡ g t.0) terms → composed_on start f terms ≡ composed_on start g terms
composed_same start f g [] a = refl
composed_same start f g (t ∷ terms) a =
    ap (λ (s : PairSum). composed_on (added start (scaled t.1 s)) f terms) (All-head (λ (t : PairTerm). f t.0 ≡ g t.0) t terms a)
    ∙ composed_same (added start (scaled t.1 (g t.0))) f g terms (All-tail (λ (t : PairTerm). f t.0 ≡ g t.0) t terms a)

pub row_kept : (t s : Groupings) (before now : List PairSum) (g h : Gid) (terms : PairSum) → Given t g h → HasGrown t s before now → All (λ u. (u.0.0 < length (node_of t g).connections) × (u.0.1 < length (node_of t h).connections)) terms
    → row_sums s g h terms ≡ row_sums t g h terms
row_kept t s before now g h terms w x within =
    let k = middles_kept t s before now g h w x in
    let p = pattern s.levels (suc m) in
    let q = pattern t.levels (suc m) in
    let bs = (node_of t g).connections in
    let cs = (node_of t h).connections in
    ap (λ (d : Node). words p d.connections (node_of s h).connections) k.0 ∙ ap (λ (d : Node). words p bs d.connections) k.1
    ∙ map_each (λ y. composed (inner p bs cs y) terms) (λ y. composed (inner q bs cs y) terms)
    (λ y. composed_same [] (inner p bs cs y) (inner q bs cs y) terms (λ i d li.
    (let r = within i d li in
    let u = get_or terms i d in
    let gx = (good_node t.levels w.good g.level (suc m) g.at (omega (arith, w.above)) w.first).good_connections u.0.0 r.0 in
    let gy = (good_node t.levels w.good h.level (suc m) h.at (omega (arith, w.above, w.levels)) w.second).good_connections u.0.1 r.1 in
    let ex = pattern_kept t.levels s.levels w.good x.extends (suc m) (connection_at bs u.0.0).callee gx.callee_exists in
    let ey = pattern_kept t.levels s.levels w.good x.extends (suc m) (connection_at cs u.0.1).callee gy.callee_exists in
    ap (λ (v : List ℕ). relabelled (connection_at bs u.0.0).returns (connection_at cs u.0.1).returns (exit_sum (2 ^ m) (exit_in v) (exit_in (p (connection_at cs u.0.1).callee)) (row_index y) (column_index y))) ex
    ∙ ap (λ (v : List ℕ). relabelled (connection_at bs u.0.0).returns (connection_at cs u.0.1).returns (exit_sum (2 ^ m) (exit_in (q (connection_at bs u.0.0).callee)) (exit_in v) (row_index y) (column_index y))) ey)))
    (all_bits (2 ^ suc m))
  where
    m : ℕ
    m = g.level - 2

    inner : (ℕ → List ℕ) → List Connection → List Connection → List Bool → ℕ × ℕ → PairSum
    inner p bs cs y = inner_sum (2 ^ m) (callee_exit p bs) (callee_exit p cs) (returns_at bs) (returns_at cs) (row_index y) (column_index y)

    words : (ℕ → List ℕ) → List Connection → List Connection → List PairSum
    words p bs cs = map (λ y. composed (inner p bs cs y) terms) (all_bits (2 ^ suc m))

-- one more row of a list of rows
pub have_more : (t u : Groupings) (now after : List PairSum) (l each i : ℕ) (wanted : ℕ → List PairSum) (rows longer : List (Gid × List CombId)) (r : Gid × List CombId) → IsGood t.levels → HasGrown t u now after
    → HaveSumRows t.levels now l wanted each i rows → HasSumRow u.levels after l (wanted i) each r → longer ≡ rows ++ r ∷ [] → HaveSumRows u.levels after l wanted each (i + 1) longer
have_more t u now after l each i wanted rows longer r gt x h hr e = record {
  long = ap length e ∙ length_push rows r ∙ omega (arith, h.long);
  rows_are = λ j d lj. elim (cases_lt j i) [
    | inl lo ↦
        (let same : get_or longer j d ≡ get_or rows j d = ap (λ (v : List _). get_or v j d) e ∙ get_or_append_left rows (r ∷ []) d j (omega (arith, lo, h.long)) in
        subst (λ (v : _). HasSumRow u.levels after l (wanted j) each v) (sym same) (HasSumRow-kept t.levels u.levels now after l each (wanted j) (get_or rows j d) gt x.extends x.book (h.rows_are j d lo)))
    | inr hi ↦
        (let at : j ≡ i = omega (arith, hi, lj) in
        let end : j ≡ length rows = omega (arith, at, h.long) in
        let same : get_or longer j d ≡ r = ap (λ (v : List _). get_or v j d) e ∙ get_or_push rows r d j (sym end) in
        subst (λ (v : _). HasSumRow u.levels after l (wanted j) each v) (sym same) (subst (λ (k : ℕ). HasSumRow u.levels after l (wanted k) each r) (sym at) hr))
  ];
}

-- the rows so far and the next one, in the table and the book where both are there
pub row_turn : (t s u : Groupings) (before mid now : List PairSum) (g h : Gid) (terms : PairSum) (i : ℕ) (x y : Gid × List CombId) → Given t g h → HasGrown t s before mid → HasGrown s u mid now
    → IsSumIn (length (node_of t g).connections) (length (node_of t h).connections) (2 ^ (2 ^ (g.level - 2))) terms → i < length terms
    → HasSumRow s.levels mid (suc (g.level - 2)) (row_sums t g h (take i terms)) (total (take i terms) * 2 ^ (2 ^ (g.level - 2))) x
    → HasSumRow u.levels now (suc (g.level - 2)) (term_row_sums s g h (get_or terms i no_term)) ((get_or terms i no_term).1 * 2 ^ (2 ^ (g.level - 2))) y
    → HasSumRow u.levels now (suc (g.level - 2)) (row_sums t g h (take i terms)) (total (take i terms) * 2 ^ (2 ^ (g.level - 2))) x
    × HasSumRow u.levels now (suc (g.level - 2)) (term_row_sums t g h (get_or terms i no_term)) ((get_or terms i no_term).1 * 2 ^ (2 ^ (g.level - 2))) y
row_turn t s u before mid now g h terms i x y w a b z li hx hy =
    let m = g.level - 2 in
    let n = 2 ^ (2 ^ m) in
    let term = get_or terms i no_term in
    let f = z.within i no_term li in
    let kept = term_kept t s before mid g h term w.good a w.above w.levels w.first w.second f.0 f.1 in (
      HasSumRow-kept s.levels u.levels mid now (suc m) (total (take i terms) * n) (row_sums t g h (take i terms)) x a.good b.extends b.book hx,
      subst (λ (v : List PairSum). HasSumRow u.levels now (suc m) v (term.1 * n) y) kept hy,
    )
