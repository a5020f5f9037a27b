use Rattle.std.proofs.Common.{◌≡◌, ℕ, zero, suc, ◌<◌, ◌≤◌, ◌+◌, ◌-◌, ◌%◌, ◌*◌, ◌^◌, List, [], ◌∷◌, ◌++◌, map, length, get_or, Result, Ok, Err, IfOk, refl, sym, ◌∙◌, ap, subst, arith, inl, inr}
use Rattle.std.specs.List.{Contains}
use Rattle.std.proofs.lemmas.Bool.{cases_lt}
use Rattle.std.proofs.lemmas.Nat.{pow_pos, mod-mul-add}
use Rattle.std.proofs.lemmas.List.{length-map, get_or-map}
use Rattle.std.proofs.lemmas.List.Elements.{Contains-append_cases}
use Rattle.cf_model.specs.Assignments.{all_bits}
use Rattle.cf_model.specs.Renumbering.{width, AllDiffer, IsApart, IsCanon}
use Rattle.cf_model.specs.FlatFunctions.{points}
use Rattle.cf_model.specs.Patterns.{Pattern, sub}
use Rattle.cf_model.specs.Diagrams.{Levels, count, pattern, exits, IsGood, Extends}
use Rattle.cf_model.proofs.AssignmentLaws.{length-all_bits}
use Rattle.cf_model.proofs.FlatFunctionLaws.{points-is}
use Rattle.cf_model.proofs.RenumberingLaws.{numbers_from, grown_canon}
use Rattle.cf_model.proofs.Canonicity.{level_holds}
use Rattle.cf_model.proofs.Growing.{pattern_kept, Extends-trans}
use Rattle.cf_table.specs.declared.Gid.{Gid}
use Rattle.cf_table.specs.Groupings.{Groupings}
use Rattle.cf_build.specs.Assembling.{row_labels, labels_over, Stands, AddsOnly}
use Rattle.cf_pair.specs.Products.{AddsPartsOf}
use Rattle.cf_build.proofs.Faithful.{Over, faithful}
use Rattle.cf_build.proofs.PartLaws.{sub_of_a, sub_of_b}
use Rattle.cf_pkg.specs.Basics.{bit_exit, constant_pattern, variable_pattern}
use Rattle.cf_pkg.proofs.Spread.{constant_over, first_over, second_over, one_label, bit_labels}
use Rattle.cf_pkg.proofs.Made.{constant_exits, variable_exits, doubled, stands_kept}
use Rattle.cf_pkg.proofs.Valued.{adds_both}

-- A row of a grouping one level up: its grouping is there, with a label for each exit, all different, and its labels over
-- the second half are the word.
record IsSpelled (t : Levels) (l : ℕ) (r : ℕ × List ℕ) (word : List ℕ) : Type 0 where
  owned : r.0 < count t l
  labelled : length r.1 ≡ exits t l r.0
  word_is : row_labels (pattern t l) r ≡ word
  full : length word ≡ points l
  differ : AllDiffer r.1

-- a grouping whose pattern is that of rows of different words stands over them
over : (t : Levels) → IsGood t → (l a i : ℕ) (rows : List (ℕ × List ℕ)) (words : ℕ → List ℕ) → a < count t l → length rows ≡ exits t l a → i < count t (suc l)
    → labels_over (pattern t l) a rows ≡ pattern t (suc l) i → ((j : ℕ) → j < length rows → IsSpelled t l (get_or rows j (0, [])) (words j)) → IsApart words (length rows)
    → Over t l a i rows words (numbers_from 0 (width 0 (pattern t (suc l) i)))
over t good l a i rows words own middles there same each apart =
    let p = pattern t (suc l) i in
    record {
      good = good;
      callee_exists = own;
      middles = middles;
      exists = there;
      canon = subst (λ (v : List ℕ). IsCanon v p (numbers_from 0 (width 0 p))) (sym same) (grown_canon p ((level_holds t good (suc l)).grows i there));
      owned = λ j lj. (each j lj).owned;
      labelled = λ j lj. (each j lj).labelled;
      words_are = λ j lj. (each j lj).word_is;
      full = λ j lj. (each j lj).full;
      differ = λ j lj. (each j lj).differ;
      apart = apart;
    }

-- all that the A-callee is made of, it is made of, and so for its B-callees
holds_a : (t : Levels) (l a i : ℕ) (rows : List (ℕ × List ℕ)) (words : ℕ → List ℕ) (ds : List ℕ) → Over t l a i rows words ds → (x : Pattern) → Contains (sub l (pattern t l a)) x → Contains (sub (suc l) (pattern t (suc l) i)) x
holds_a t l a i rows words ds o x h =
    sub_of_a t o.good l i o.exists x (subst (λ (p : List ℕ). Contains (sub l p) x) (sym (faithful t l a i rows words ds o).0) h)

holds_b : (t : Levels) (l a i : ℕ) (rows : List (ℕ × List ℕ)) (words : ℕ → List ℕ) (ds : List ℕ) → Over t l a i rows words ds → (j : ℕ) → j < length rows → (x : Pattern) → Contains (sub l (pattern t l (get_or rows j (0, [])).0)) x
    → Contains (sub (suc l) (pattern t (suc l) i)) x
holds_b t l a i rows words ds o j lj x h =
    let f = faithful t l a i rows words ds o in
    sub_of_b t o.good l i j o.exists (omega (arith, lj, f.1)) x (subst (λ (p : List ℕ). Contains (sub l p) x) (sym (f.2 j lj)) h)

one_differs : (z : ℕ) → AllDiffer (z ∷ [])
one_differs z zero zero x a b = refl
one_differs z zero (suc j) x a b = cc
one_differs z (suc i) j x a b = cc

bits_differ : AllDiffer {A = ℕ} (0 ∷ 1 ∷ [])
bits_differ zero zero x a b = refl
bits_differ zero (suc zero) x a b = cc
bits_differ zero (suc (suc j)) x a b = cc
bits_differ (suc zero) zero x a b = cc
bits_differ (suc zero) (suc zero) x a b = refl
bits_differ (suc zero) (suc (suc j)) x a b = cc
bits_differ (suc (suc i)) j x a b = cc

-- one label everywhere over a half
abbrev all_of : ℕ → ℕ → List ℕ
all_of l z = map (λ bits. z) (all_bits (2 ^ l))

long : (l : ℕ) (f : _ → ℕ) → length (map f (all_bits (2 ^ l))) ≡ points l
long l f = length-map (all_bits (2 ^ l)) f ∙ length-all_bits (2 ^ l) ∙ sym (points-is l)

all_apart : (l : ℕ) → IsApart (all_of l) 2
all_apart l i j li lj e =
    let some : 0 < length (all_bits (2 ^ l)) = omega (arith, length-all_bits (2 ^ l), pow_pos (2 ^ l)) in
    sym (get_or-map (λ bits. i) (all_bits (2 ^ l)) 0 [] 0 some) ∙ ap (λ (v : List ℕ). get_or v 0 0) e ∙ get_or-map (λ bits. j) (all_bits (2 ^ l)) 0 [] 0 some

stands_here : (t : Levels) (l c : ℕ) (ranks : List ℕ) → c < count t l → pattern t l c ≡ ranks → Stands t (record { level = l; at = c }) l ranks
stands_here t l c ranks own e = record { level = refl; there = own; is_it = e }

-- a row of one label over a constant's grouping
one_spelled : (t : Levels) → IsGood t → (l c z : ℕ) → c < count t l → pattern t l c ≡ constant_pattern l → IsSpelled t l (c, z ∷ []) (all_of l z)
one_spelled t good l c z own e = record {
  owned = own;
  labelled = sym (constant_exits t good (record { level = l; at = c }) l (stands_here t l c (constant_pattern l) own e));
  word_is = one_label (pattern t l) (2 ^ l) c z e;
  full = long l (λ bits. z);
  differ = one_differs z;
}

-- a row of two labels over a variable's
bits_spelled : (t : Levels) → IsGood t → (l v i : ℕ) → i < 2 ^ l → v < count t l → pattern t l v ≡ variable_pattern l i → IsSpelled t l (v, 0 ∷ 1 ∷ []) (variable_pattern l i)
bits_spelled t good l v i h own e = record {
  owned = own;
  labelled = sym (variable_exits t good (record { level = l; at = v }) l i h (stands_here t l v (variable_pattern l i) own e));
  word_is = bit_labels (pattern t l) (2 ^ l) i v e;
  full = long l (bit_exit i);
  differ = bits_differ;
}

one_word : (word : List ℕ) → IsApart (λ j. word) 1
one_word word i j li lj e = omega (arith, li, lj)

up : (l : ℕ) → 2 ^ l + 2 ^ l ≡ 2 ^ suc l
up l = doubled l (suc l) (omega arith)

-- what a constant's grouping is made of, from that of the level below
constant_holds : (t : Levels) → IsGood t → (l c i : ℕ) → c < count t l → pattern t l c ≡ constant_pattern l → i < count t (suc l) → pattern t (suc l) i ≡ constant_pattern (suc l)
    → (x : Pattern) → Contains (sub l (pattern t l c)) x → Contains (sub (suc l) (pattern t (suc l) i)) x
constant_holds t good l c i own e there is =
    let rows : List (ℕ × List ℕ) = (c, 0 ∷ []) ∷ [] in
    let words : ℕ → List ℕ = λ j. all_of l 0 in
    holds_a t l c i rows words (numbers_from 0 (width 0 (pattern t (suc l) i)))
    (over t good l c i rows words own (sym (constant_exits t good (record { level = l; at = c }) l (stands_here t l c (constant_pattern l) own e))) there
    (constant_over (pattern t l) (2 ^ l) c e ∙ ap (λ (n : ℕ). map (λ bits. 0) (all_bits n)) (up l) ∙ sym is)
    (λ j lj. spelled j lj) (one_word (all_of l 0)))
  where
    spelled : (j : ℕ) → j < 1 → IsSpelled t l (get_or ((c, 0 ∷ []) ∷ []) j (0, [])) (all_of l 0)
    spelled zero lj = one_spelled t good l c 0 own e
    spelled (suc j) lj = absurd (omega (arith, lj))

-- what a variable's grouping is made of, where the variable is one of the first half
first_holds : (t : Levels) → IsGood t → (l k a c i : ℕ) → k < 2 ^ l → a < count t l → pattern t l a ≡ variable_pattern l k → c < count t l → pattern t l c ≡ constant_pattern l
    → i < count t (suc l) → pattern t (suc l) i ≡ variable_pattern (suc l) k
    → Over t l a i ((c, 0 ∷ []) ∷ (c, 1 ∷ []) ∷ []) (all_of l) (numbers_from 0 (width 0 (pattern t (suc l) i)))
first_holds t good l k a c i h own_a ea own_c ec there is =
    let rows : List (ℕ × List ℕ) = (c, 0 ∷ []) ∷ (c, 1 ∷ []) ∷ [] in
    over t good l a i rows (all_of l) own_a (sym (variable_exits t good (record { level = l; at = a }) l k h (stands_here t l a (variable_pattern l k) own_a ea))) there
    (first_over (pattern t l) (2 ^ l) k a c h ea ec ∙ ap (λ (n : ℕ). map (bit_exit k) (all_bits n)) (up l) ∙ sym is)
    (λ j lj. spelled j lj) (all_apart l)
  where
    spelled : (j : ℕ) → j < 2 → IsSpelled t l (get_or ((c, 0 ∷ []) ∷ (c, 1 ∷ []) ∷ []) j (0, [])) (all_of l j)
    spelled zero lj = one_spelled t good l c 0 own_c ec
    spelled (suc zero) lj = one_spelled t good l c 1 own_c ec
    spelled (suc (suc j)) lj = absurd (omega (arith, lj))

-- and where it is one of the second
second_holds : (t : Levels) → IsGood t → (l k a v i : ℕ) → 2 ^ l ≤ k → k - 2 ^ l < 2 ^ l → a < count t l → pattern t l a ≡ constant_pattern l → v < count t l → pattern t l v ≡ variable_pattern l (k - 2 ^ l)
    → i < count t (suc l) → pattern t (suc l) i ≡ variable_pattern (suc l) k
    → Over t l a i ((v, 0 ∷ 1 ∷ []) ∷ []) (λ j. variable_pattern l (k - 2 ^ l)) (numbers_from 0 (width 0 (pattern t (suc l) i)))
second_holds t good l k a v i high low own_a ea own_v ev there is =
    let rows : List (ℕ × List ℕ) = (v, 0 ∷ 1 ∷ []) ∷ [] in
    let word = variable_pattern l (k - 2 ^ l) in
    over t good l a i rows (λ j. word) own_a (sym (constant_exits t good (record { level = l; at = a }) l (stands_here t l a (constant_pattern l) own_a ea))) there
    (second_over (pattern t l) (2 ^ l) k a v high ea ev ∙ ap (λ (n : ℕ). map (bit_exit k) (all_bits n)) (up l) ∙ sym is)
    (λ j lj. spelled j lj) (one_word word)
  where
    spelled : (j : ℕ) → j < 1 → IsSpelled t l (get_or ((v, 0 ∷ 1 ∷ []) ∷ []) j (0, [])) (variable_pattern l (k - 2 ^ l))
    spelled zero lj = bits_spelled t good l v (k - 2 ^ l) low own_v ev
    spelled (suc j) lj = absurd (omega (arith, lj))

-- what was added first is of what was added to that
pub adds_within : (t u v : Levels) → IsGood u → Extends u v → (ps qs : List Pattern) → ((x : Pattern) → Contains ps x → Contains qs x) → AddsOnly t u ps → AddsOnly u v qs → AddsOnly t v qs
adds_within t u v good x ps qs within a b l i hi hv = elim (cases_lt i (count u l)) [
  | inl lt ↦ within (record { level = l; ranks = pattern v l i }) (subst (λ (r : List ℕ). Contains ps (record { level = l; ranks = r })) (sym (pattern_kept u v good x l i lt)) (a l i hi lt))
  | inr ge ↦ b l i (omega (arith, ge)) hv
]

-- the parts of a grouping of a level, and as the table grows
parts_at : (t : Levels) (g : Gid) (l : ℕ) → g.level ≡ l → sub g.level (pattern t g.level g.at) ≡ sub l (pattern t l g.at)
parts_at t g l e = ap (λ (m : ℕ). sub m (pattern t m g.at)) e

parts_kept : (t u : Levels) → IsGood t → Extends t u → (g : Gid) (l : ℕ) (ranks : List ℕ) → Stands t g l ranks → sub g.level (pattern t g.level g.at) ≡ sub l (pattern u l g.at)
parts_kept t u good x g l ranks s =
    ap (λ (p : List ℕ). sub g.level p) (sym (pattern_kept t u good x g.level g.at s.there)) ∙ parts_at u g l s.level

place_at : (t : Levels) (g : Gid) (l : ℕ) (ranks : List ℕ) → Stands t g l ranks → g.at < count t l
place_at t g l ranks s = subst (λ (m : ℕ). g.at < count t m) s.level s.there

pattern_here : (t : Levels) (g : Gid) (l : ℕ) (ranks : List ℕ) → Stands t g l ranks → pattern t l g.at ≡ ranks
pattern_here t g l ranks s = ap (λ (m : ℕ). pattern t m g.at) (sym s.level) ∙ s.is_it

-- A constant's grouping over that of the level below: what was added for both is of the constant's pattern.
pub constant_added : (t u v : Levels) → IsGood u → IsGood v → Extends u v → (b g : Gid) (l k : ℕ) → l + 1 ≡ k → Stands u b l (constant_pattern l) → Stands v g k (constant_pattern k)
    → AddsOnly t u (sub b.level (pattern u b.level b.at)) → AddsOnly u v (sub g.level (pattern v g.level g.at)) → AddsOnly t v (sub g.level (pattern v g.level g.at))
constant_added t u v good_u good x b g l k e s is first second =
    let w = stands_kept u v good_u x b l (constant_pattern l) s in
    let q : k ≡ suc l = omega (arith, e) in
    let top : Stands v g (suc l) (constant_pattern (suc l)) = subst (λ (m : ℕ). Stands v g m (constant_pattern m)) q is in
    adds_within t u v good_u x (sub b.level (pattern u b.level b.at)) (sub g.level (pattern v g.level g.at))
    (λ y h. subst (λ (ps : List Pattern). Contains ps y) (sym (parts_at v g (suc l) top.level))
    (constant_holds v good l b.at g.at (place_at v b l (constant_pattern l) w) (pattern_here v b l (constant_pattern l) w) (place_at v g (suc l) (constant_pattern (suc l)) top) (pattern_here v g (suc l) (constant_pattern (suc l)) top) y
    (subst (λ (ps : List Pattern). Contains ps y) (parts_kept u v good_u x b l (constant_pattern l) s) h)))
    first second

pub constant_adds : {E : Type 0} (t u v : Groupings) → IsGood u.levels → IsGood v.levels → Extends u.levels v.levels → (b : Gid) (l k : ℕ) → l + 1 ≡ k → Stands u.levels b l (constant_pattern l) → AddsPartsOf t u b → (result : Result Gid E)
    → IfOk result (λ g. Stands v.levels g k (constant_pattern k)) → IfOk result (AddsPartsOf u v) → IfOk result (AddsPartsOf t v)
constant_adds t u v good_u good x b l k e s first (Ok g) is second = constant_added t.levels u.levels v.levels good_u good x b g l k e s is first second
constant_adds t u v good_u good x b l k e s first (Err fault) is second = tt

low_rest : (n i : ℕ) → i < n → i % n ≡ i
low_rest n i h = (let e : i ≡ 0 * n + i = omega arith in ap (λ (m : ℕ). m % n) e) ∙ mod-mul-add 0 n i h

high_rest : (n i : ℕ) → n ≤ i → i - n < n → i % n ≡ i - n
high_rest n i h lt = (let e : i ≡ 1 * n + (i - n) = omega (arith, h) in ap (λ (m : ℕ). m % n) e) ∙ mod-mul-add 1 n (i - n) lt

-- The parts of a constant's grouping and of a variable's are parts of that of the variable one level up.
record HoldsBoth (t : Levels) (l c v i : ℕ) : Type 0 where
  constant : (x : Pattern) → Contains (sub l (pattern t l c)) x → Contains (sub (suc l) (pattern t (suc l) i)) x
  variable : (x : Pattern) → Contains (sub l (pattern t l v)) x → Contains (sub (suc l) (pattern t (suc l) i)) x

variable_holds : (t : Levels) → IsGood t → (l k c v i : ℕ) → k < 2 ^ suc l → c < count t l → pattern t l c ≡ constant_pattern l → v < count t l → pattern t l v ≡ variable_pattern l (k % 2 ^ l)
    → i < count t (suc l) → pattern t (suc l) i ≡ variable_pattern (suc l) k → HoldsBoth t l c v i
variable_holds t good l k c v i h own_c ec own_v ev there is = elim (cases_lt k (2 ^ l)) [
  | inl lt ↦ (let ds = numbers_from 0 (width 0 (pattern t (suc l) i)) in
      let rows : List (ℕ × List ℕ) = (c, 0 ∷ []) ∷ (c, 1 ∷ []) ∷ [] in
      let o = first_holds t good l k v c i lt own_v (ev ∙ ap (variable_pattern l) (low_rest (2 ^ l) k lt)) own_c ec there is in
      record {
        constant = holds_b t l v i rows (all_of l) ds o 0 (omega arith);
        variable = holds_a t l v i rows (all_of l) ds o;
      })
  | inr ge ↦ (let ds = numbers_from 0 (width 0 (pattern t (suc l) i)) in
      let rows : List (ℕ × List ℕ) = (v, 0 ∷ 1 ∷ []) ∷ [] in
      let low : k - 2 ^ l < 2 ^ l = omega (arith, h, ge, up l) in
      let high : 2 ^ l ≤ k = omega (arith, ge) in
      let o = second_holds t good l k c v i high low own_c ec own_v (ev ∙ ap (variable_pattern l) (high_rest (2 ^ l) k high low)) there is in
      record {
        constant = holds_a t l c i rows (λ j. variable_pattern l (k - 2 ^ l)) ds o;
        variable = holds_b t l c i rows (λ j. variable_pattern l (k - 2 ^ l)) ds o 0 (omega arith);
      })
]

-- A variable's grouping over those of the level below: what was added for the three is of the variable's pattern.
pub variable_added : (s t u v : Levels) → IsGood t → IsGood u → IsGood v → Extends t u → Extends u v → (b a g : Gid) (l k i : ℕ) → l + 1 ≡ k → i < 2 ^ k
    → Stands t b l (constant_pattern l) → Stands u a l (variable_pattern l (i % 2 ^ l)) → Stands v g k (variable_pattern k i)
    → AddsOnly s t (sub b.level (pattern t b.level b.at)) → AddsOnly t u (sub a.level (pattern u a.level a.at)) → AddsOnly u v (sub g.level (pattern v g.level g.at))
    → AddsOnly s v (sub g.level (pattern v g.level g.at))
variable_added s t u v good_t good_u good x y b a g l k i e h sb sa is first second third =
    let q : k ≡ suc l = omega (arith, e) in
    let xy = Extends-trans t u v x y in
    let wb = stands_kept t v good_t xy b l (constant_pattern l) sb in
    let wa = stands_kept u v good_u y a l (variable_pattern l (i % 2 ^ l)) sa in
    let top : Stands v g (suc l) (variable_pattern (suc l) i) = subst (λ (m : ℕ). Stands v g m (variable_pattern m i)) q is in
    let both = variable_holds v good l i b.at a.at g.at (subst (λ (m : ℕ). i < 2 ^ m) q h) (place_at v b l (constant_pattern l) wb) (pattern_here v b l (constant_pattern l) wb)
    (place_at v a l (variable_pattern l (i % 2 ^ l)) wa) (pattern_here v a l (variable_pattern l (i % 2 ^ l)) wa) (place_at v g (suc l) (variable_pattern (suc l) i) top) (pattern_here v g (suc l) (variable_pattern (suc l) i) top) in
    let ps = sub b.level (pattern t b.level b.at) in
    let qs = sub a.level (pattern u a.level a.at) in
    let rs = sub g.level (pattern v g.level g.at) in
    let up_to : (z : Pattern) → Contains (sub (suc l) (pattern v (suc l) g.at)) z → Contains rs z = λ z. subst (λ (w : List Pattern). Contains w z) (sym (parts_at v g (suc l) top.level)) in
    adds_within s u v good_u y (ps ++ qs) rs
    (λ z w. elim (Contains-append_cases ps qs z w) [
      | inl n ↦ up_to z (both.constant z (subst (λ (m : List Pattern). Contains m z) (parts_kept t v good_t xy b l (constant_pattern l) sb) n))
      | inr n ↦ up_to z (both.variable z (subst (λ (m : List Pattern). Contains m z) (parts_kept u v good_u y a l (variable_pattern l (i % 2 ^ l)) sa) n))
    ])
    (adds_both s t u good_t x ps qs first second) third

pub variable_adds : {E : Type 0} (s t u v : Groupings) → IsGood t.levels → IsGood u.levels → IsGood v.levels → Extends t.levels u.levels → Extends u.levels v.levels → (b a : Gid) (l k i : ℕ) → l + 1 ≡ k → i < 2 ^ k
    → Stands t.levels b l (constant_pattern l) → Stands u.levels a l (variable_pattern l (i % 2 ^ l)) → AddsPartsOf s t b → AddsPartsOf t u a → (result : Result Gid E)
    → IfOk result (λ g. Stands v.levels g k (variable_pattern k i)) → IfOk result (AddsPartsOf u v) → IfOk result (AddsPartsOf s v)
variable_adds s t u v good_t good_u good x y b a l k i e h sb sa first second (Ok g) is third =
    variable_added s.levels t.levels u.levels v.levels good_t good_u good x y b a g l k i e h sb sa is first second third
variable_adds s t u v good_t good_u good x y b a l k i e h sb sa first second (Err fault) is third = tt
