use Rattle.std.proofs.Common.{◌≡◌, ℕ, zero, suc, ◌<◌, ◌≤◌, ◌+◌, List, [], ◌∷◌, ◌++◌, map, refl, sym, ◌∙◌, ap, subst, length, length-append, take, get_or, arith, inl, inr}
use Rattle.std.proofs.lemmas.Bool.{cases_lt}
use Rattle.std.proofs.lemmas.List.{get_or_append_left, get_or_push, length_push, take_more, map_push}
use Rattle.std.proofs.lemmas.List.Elements.{All-push}
use Rattle.std.specs.List.{All}
use Rattle.cf_model.specs.Diagrams.{Connection, no_connection, exit_at, connection_at, count, node, row, pattern, exits, all_returns, IsGood, Extends}
use Rattle.cf_model.proofs.Growth.{Under, Under-width}
use Rattle.cf_model.proofs.Growing.{pattern_kept, Extends-trans}
use Rattle.cf_tuple.specs.Books.{Lengthens}
use Rattle.cf_tuple.proofs.BookLaws.{Lengthens-trans}
use Rattle.cf_table.specs.declared.BConn.{BConn}
use Rattle.cf_table.specs.Groupings.{Groupings}
use Rattle.cf_build.specs.declared.rows.Row.{Row}
use Rattle.cf_build.specs.Joining.{AreInTurn, returning, row_connection, classed_connection, IsThin, blank}
use Rattle.cf_build.specs.Parts.{HasThinned, AddsParts}
use Rattle.cf_build.proofs.Placing.{in_turn_push, rows_kept, labels_last}
use Rattle.cf_build.proofs.Turns.{IsThin-kept}
use Rattle.cf_build.proofs.PartLaws.{rows_added}

Under-left : (k : ℕ) (xs ys : List ℕ) → Under k (xs ++ ys) → Under k xs
Under-left k [] ys u = tt
Under-left k (x ∷ xs) ys u = (u.0, Under-left k xs ys u.1)

Under-right : (k : ℕ) (xs ys : List ℕ) → Under k (xs ++ ys) → Under k ys
Under-right k [] ys u = u
Under-right k (x ∷ xs) ys u = Under-right k xs ys u.1

pub returned_under : (k : ℕ) (bs : List Connection) → Under k (all_returns bs) → (j : ℕ) → j < length bs → Under k (connection_at bs j).returns
returned_under k [] u j h = absurd (omega (arith, h))
returned_under k (b ∷ bs) u zero h = Under-left k b.returns (all_returns bs) u
returned_under k (b ∷ bs) u (suc j) h = returned_under k bs (Under-right k b.returns (all_returns bs) u) j (omega (arith, h))

pub Under-at : (k : ℕ) (xs : List ℕ) → Under k xs → (m d : ℕ) → m < length xs → get_or xs m d < k
Under-at k [] u m d h = absurd (omega (arith, h))
Under-at k (x ∷ xs) u zero d h = u.0
Under-at k (x ∷ xs) u (suc m) d h = Under-at k xs u.1 m d (omega (arith, h))

-- each label of a connection is an exit
pub within : (t : Groupings) (k i : ℕ) → 0 < k → (j : ℕ) → j < length (node t.levels k i).connections
    → (ret : List ℕ) → ret ≡ (connection_at (node t.levels k i).connections j).returns → (n : ℕ) → n ≡ exits t.levels k i → (m d : ℕ) → m < length ret → get_or ret m d < n
within t zero i pos j lj ret re n ne m d lm = absurd (omega (arith, pos))
within t (suc l) i pos j lj ret re n ne m d lm =
    let bs = (node t.levels (suc l) i).connections in
    let all : Under n (all_returns bs) = Under-width 0 n (all_returns bs) (omega (arith, ne)) in
    let here : Under n ret = subst (λ (v : List ℕ). Under n v) (sym re) (returned_under n bs all j lj) in
    Under-at n ret here m d lm

-- one more row whose labels are classes
pub rows_more : (cs xs ys all : List ℕ) (rows after : List Row) (r : Row) (ns : List Connection) (i : ℕ) → AreInTurn 0 rows (length xs) → map (row_connection xs) rows ≡ map (classed_connection cs) (take i ns)
    → after ≡ rows ++ r ∷ [] → all ≡ xs ++ ys → r.start ≡ length xs → r.end ≡ length all → returning r.callee.at ys ≡ classed_connection cs (connection_at ns i) → i < length ns
    → (map (row_connection all) after ≡ map (classed_connection cs) (take (i + 1) ns)) × AreInTurn 0 after (length all)
rows_more cs xs ys all rows after r ns i turn h e more start end q l =
    let long : r.end ≡ length xs + length ys = end ∙ ap length more ∙ length-append xs ys in
    let last : row_connection (xs ++ ys) r ≡ classed_connection cs (connection_at ns i) = ap (λ (v : List ℕ). returning r.callee.at v) (labels_last xs ys r start long) ∙ q in (
      ap (λ (v : List Row). map (row_connection all) v) e ∙ ap (λ (v : List ℕ). map (row_connection v) (rows ++ r ∷ [])) more ∙ map_push (row_connection (xs ++ ys)) rows r
          ∙ ap (λ (v : List Connection). v ++ row_connection (xs ++ ys) r ∷ []) (rows_kept xs ys 0 rows turn ∙ h) ∙ ap (λ (c : Connection). map (classed_connection cs) (take i ns) ++ c ∷ []) last
          ∙ sym (map_push (classed_connection cs) (take i ns) (connection_at ns i))
          ∙ ap (λ (v : List Connection). map (classed_connection cs) v) (sym (take_more ns i no_connection l)),
      subst (λ (v : List Row). AreInTurn 0 v (length all)) (sym e) (subst (λ (n : ℕ). AreInTurn 0 (rows ++ r ∷ []) n) end (in_turn_push 0 (length xs) rows r turn start (omega (arith, start, long)))),
    )

length_take : {A : Type 0} (xs : List A) (i : ℕ) → i ≤ length xs → length (take i xs) ≡ i
length_take xs zero h = refl
length_take [] (suc i) h = absurd (omega (arith, h))
length_take (x ∷ xs) (suc i) h = ap suc (length_take xs i (omega (arith, h)))

-- one more row
pub going : (t s u : Groupings) (l : ℕ) (ns : List Connection) (i : ℕ) (bs after : List BConn) (b : BConn) → IsGood t.levels → HasThinned t s l ns i bs → i < length ns → (connection_at ns i).callee < count t.levels l
    → IsThin u l (row (pattern s.levels l) (connection_at ns i)) (connection_at ns i).returns b → AddsParts s.levels u.levels l b.«to».at → IsGood u.levels → Extends s.levels u.levels → Lengthens s.tuples u.tuples → u.products ≡ s.products → u.triples ≡ s.triples → after ≡ bs ++ b ∷ [] → HasThinned t u l ns (i + 1) after
going t s u l ns i bs after b gt g lt own thin add gu x y same same3 e =
    let n = connection_at ns i in
    let more : take (i + 1) ns ≡ take i ns ++ n ∷ [] = take_more ns i no_connection lt in
    let li : length (take i ns) ≡ i = length_take ns i (omega (arith, lt)) in
    let lb : length bs ≡ i = g.thin.long ∙ li in
    let new : IsThin u l (row (pattern t.levels l) n) n.returns b = subst (λ (r : List ℕ). IsThin u l r n.returns b) (ap (λ (p : List ℕ). map (exit_at n) p) (pattern_kept t.levels s.levels gt g.extends l n.callee own)) thin in
    record {
      good = gu;
      extends = Extends-trans t.levels s.levels u.levels g.extends x;
      longer = Lengthens-trans t.tuples s.tuples u.tuples g.longer y;
      products = same ∙ g.products;
      triples = same3 ∙ g.triples;
      thin = record {
        long = ap length e ∙ length_push bs b ∙ (let q : length bs + 1 ≡ length (take i ns ++ n ∷ []) = omega (arith, lb, li, length_push (take i ns) n) in q) ∙ sym (ap length more);
        each = λ j lj. (let k : j < i + 1 = omega (arith, lj, ap length more, length_push (take i ns) n, li) in
            elim (cases_lt j i) [
              | inl lo ↦
                  let old = IsThin-kept s u l _ _ _ g.good x y (g.thin.each j (omega (arith, lo, li))) in
                  let at : connection_at (take (i + 1) ns) j ≡ connection_at (take i ns) j = ap (λ (v : List Connection). connection_at v j) more ∙ get_or_append_left (take i ns) (n ∷ []) no_connection j (omega (arith, lo, li)) in
                  let bat : get_or after j blank ≡ get_or bs j blank = ap (λ (v : List BConn). get_or v j blank) e ∙ get_or_append_left bs (b ∷ []) blank j (omega (arith, lo, lb)) in
                  subst (λ (c : Connection). IsThin u l (row (pattern t.levels l) c) c.returns (get_or after j blank)) (sym at)
                  (subst (λ (c : BConn). IsThin u l (row (pattern t.levels l) (connection_at (take i ns) j)) (connection_at (take i ns) j).returns c) (sym bat) old)
              | inr hi ↦
                  let ij : length (take i ns) ≡ j = omega (arith, k, hi, li) in
                  let bj : length bs ≡ j = omega (arith, k, hi, lb) in
                  let at : connection_at (take (i + 1) ns) j ≡ n = ap (λ (v : List Connection). connection_at v j) more ∙ get_or_push (take i ns) n no_connection j ij in
                  let bat : get_or after j blank ≡ b = ap (λ (v : List BConn). get_or v j blank) e ∙ get_or_push bs b blank j bj in
                  subst (λ (c : Connection). IsThin u l (row (pattern t.levels l) c) c.returns (get_or after j blank)) (sym at)
                  (subst (λ (c : BConn). IsThin u l (row (pattern t.levels l) n) n.returns c) (sym bat) new)
            ]);
      };
      added = rows_added t.levels s.levels u.levels l bs after b g.good x (λ m lm. (g.thin.each m (omega (arith, lm, g.thin.long))).good.callee_exists) g.added add e;
    }

pub all_more : {X : Type 0} (P : X → Type 0) (xs ys : List X) (x : X) → ys ≡ xs ++ x ∷ [] → All P xs → P x → All P ys
all_more P xs ys x e a h = subst (λ (v : List _). All P v) (sym e) (All-push P xs x a h)
