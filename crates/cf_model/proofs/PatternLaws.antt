use Rattle.std.proofs.Common.{◌≡◌, ℕ, zero, suc, ◌*◌, List, [], ◌∷◌, ◌++◌, map, take, drop, length, Bool, true, false, ◌&&◌, nat_eq, refl, sym, ◌∙◌, ap, subst, arith}
use Rattle.std.specs.Prelude.{flat_map, All}
use Rattle.std.specs.Bool.{Decides}
use Rattle.std.proofs.lemmas.List.{take-append-drop, length-take-le, length-drop, length-map, nil_from_length}
use Rattle.std.proofs.lemmas.Slice.Eq.{bytes_eq-Decides}
use Rattle.cf_model.specs.Renumbering.{width, Grows, IsCanon, rgs, distinct}
use Rattle.cf_model.specs.FlatFunctions.{points}
use Rattle.cf_model.specs.Patterns.{Pattern, same_pattern, same_ranks, cut_into, rows, distinct_rows, a_pattern, b_patterns, return_lists, sub}
use Rattle.cf_model.proofs.RenumberingLaws.{nat_decides, canon_of, canon_tells, rgs_grows, length-rgs}

pub ranks_decide : (p q : List ℕ) → Decides (same_ranks p q) (p ≡ q)
ranks_decide p q = bytes_eq-Decides p q

-- two patterns are the same where the test says so
abbrev of_ranks : ℕ → List ℕ → Pattern
of_ranks l r = record { level = l; ranks = r }

both : (a b : Bool) → (a && b) ≡ true → (a ≡ true) × (b ≡ true)
both true b h = (refl, h)
both false b h = cc

both_true : (a b : Bool) → a ≡ true → b ≡ true → (a && b) ≡ true
both_true true b e f = f
both_true false b e f = cc

pub patterns_decide : (p q : Pattern) → Decides (same_pattern p q) (p ≡ q)
patterns_decide p q = (
  λ h.
      (let w = both (nat_eq p.level q.level) (same_ranks p.ranks q.ranks) h in
      ap (λ (l : ℕ). of_ranks l p.ranks) ((nat_decides p.level q.level).0 w.0) ∙ ap (of_ranks q.level) ((ranks_decide p.ranks q.ranks).0 w.1)),
  λ e. both_true (nat_eq p.level q.level) (same_ranks p.ranks q.ranks) ((nat_decides p.level q.level).1 (ap (λ (x : Pattern). x.level) e)) ((ranks_decide p.ranks q.ranks).1 (ap (λ (x : Pattern). x.ranks) e)),
)

-- the equations of `cut_into` and `sub`, which stay closed
pub cut_into-none : (n : ℕ) (p : List ℕ) → cut_into 0 n p ≡ []
unfolding cut_into
cut_into-none n p = refl

pub cut_into-more : (k n : ℕ) (p : List ℕ) → cut_into (suc k) n p ≡ take n p ∷ cut_into k n (drop n p)
unfolding cut_into
cut_into-more k n p = refl

pub sub-base : (p : List ℕ) → sub 0 p ≡ record { level = 0; ranks = p } ∷ []
unfolding sub
sub-base p = refl

pub sub-above : (level : ℕ) (p : List ℕ) → sub (suc level) p ≡ record { level = suc level; ranks = p } ∷ sub level (a_pattern level p) ++ flat_map (sub level) (b_patterns level p)
unfolding sub
sub-above level p = refl

-- the pieces of a list, one after another, are the list
pub join_cut : (k n : ℕ) (p : List ℕ) → length p ≡ k * n → flat_map (λ r. r) (cut_into k n p) ≡ p
unfolding cut_into
join_cut zero n p h = sym (nil_from_length p (omega (arith, h)))
join_cut (suc k) n p h =
    ap (λ (q : List ℕ). take n p ++ q) (join_cut k n (drop n p) (length-drop n p ∙ omega (arith, h))) ∙ take-append-drop n p

pub length-cut_into : (k n : ℕ) (p : List ℕ) → length (cut_into k n p) ≡ k
unfolding cut_into
length-cut_into zero n p = refl
length-cut_into (suc k) n p = ap suc (length-cut_into k n (drop n p))

-- each row has as many entries as the level below has points
pub cut_lengths : (k n : ℕ) (p : List ℕ) → length p ≡ k * n → All (λ r. length r ≡ n) (cut_into k n p)
unfolding cut_into
cut_lengths zero n p h j d l = absurd (omega (arith, l))
cut_lengths (suc k) n p h zero d l = length-take-le n p (omega (arith, h))
cut_lengths (suc k) n p h (suc j) d l = cut_lengths k n (drop n p) (length-drop n p ∙ omega (arith, h)) j d (omega (arith, l))

-- a list of rows is determined by each row's B-pattern and different entries
pub rows_tell : (rs ss : List (List ℕ)) → map (rgs nat_eq) rs ≡ map (rgs nat_eq) ss → map (distinct nat_eq) rs ≡ map (distinct nat_eq) ss → rs ≡ ss
rows_tell [] [] e f = refl
rows_tell [] (s ∷ ss) e f = cc
rows_tell (r ∷ rs) [] e f = cc
rows_tell (r ∷ rs) (s ∷ ss) e f =
    let p : rgs nat_eq r ≡ rgs nat_eq s = cc in
    let d : distinct nat_eq r ≡ distinct nat_eq s = cc in
    let ps : map (rgs nat_eq) rs ≡ map (rgs nat_eq) ss = cc in
    let ds : map (distinct nat_eq) rs ≡ map (distinct nat_eq) ss = cc in
    let c : IsCanon s (rgs nat_eq r) (distinct nat_eq r) = subst (λ (q : List ℕ). IsCanon s q (distinct nat_eq r)) (sym p) (subst (λ (q : List ℕ). IsCanon s (rgs nat_eq s) q) (sym d) (canon_of nat_eq nat_decides s)) in
    let top : r ≡ s = canon_tells r s (rgs nat_eq r) (distinct nat_eq r) (canon_of nat_eq nat_decides r) c in
    let rest : rs ≡ ss = rows_tell rs ss ps ds in
    cc

-- rows are determined by the A-pattern and the different rows
pub all_rows_tell : (rs ss : List (List ℕ)) → rgs same_ranks rs ≡ rgs same_ranks ss → distinct same_ranks rs ≡ distinct same_ranks ss → rs ≡ ss
all_rows_tell rs ss e f =
    canon_tells rs ss (rgs same_ranks rs) (distinct same_ranks rs) (canon_of same_ranks ranks_decide rs)
    (subst (λ (q : List ℕ). IsCanon ss q (distinct same_ranks rs)) (sym e) (subst (λ (q : List (List ℕ)). IsCanon ss (rgs same_ranks ss) q) (sym f) (canon_of same_ranks ranks_decide ss)))

-- A pattern is determined by its A-pattern, its B-patterns and their return lists.
pub decomposition : (level : ℕ) (p q : List ℕ) → length p ≡ points (suc level) → length q ≡ points (suc level)
    → a_pattern level p ≡ a_pattern level q → b_patterns level p ≡ b_patterns level q → return_lists level p ≡ return_lists level q → p ≡ q
decomposition level p q hp hq a b r =
    let same : rows level p ≡ rows level q = all_rows_tell (rows level p) (rows level q) a (rows_tell (distinct_rows level p) (distinct_rows level q) b r) in
    sym (join_cut (points level) (points level) p hp) ∙ ap (flat_map (λ row. row)) same ∙ join_cut (points level) (points level) q hq

-- an A-pattern is a pattern of the level below, with as many ranks as there are different rows
pub a_pattern-grows : (level : ℕ) (p : List ℕ) → Grows 0 (a_pattern level p) × (width 0 (a_pattern level p) ≡ length (distinct_rows level p))
a_pattern-grows level p = rgs_grows same_ranks ranks_decide (rows level p)

pub length-a_pattern : (level : ℕ) (p : List ℕ) → length (a_pattern level p) ≡ points level
length-a_pattern level p = length-rgs same_ranks ranks_decide (rows level p) ∙ length-cut_into (points level) (points level) p

-- there are as many B-patterns and return lists as there are different rows
pub length-b_patterns : (level : ℕ) (p : List ℕ) → length (b_patterns level p) ≡ length (distinct_rows level p)
length-b_patterns level p = length-map (distinct_rows level p) (rgs nat_eq)

pub length-return_lists : (level : ℕ) (p : List ℕ) → length (return_lists level p) ≡ length (distinct_rows level p)
length-return_lists level p = length-map (distinct_rows level p) (distinct nat_eq)
