use Rattle.std.proofs.Common.{◌≡◌, ℕ, zero, suc, ◌<◌, ◌≤◌, ◌+◌, ◌-◌, ◌^◌, List, [], ◌∷◌, map, length, nat_eq, sym, ◌∙◌, ap, subst, arith, pow-suc, add-one}
use Rattle.std.specs.List.{All}
use Rattle.cf_model.specs.Assignments.{all_bits}
use Rattle.cf_model.specs.Renumbering.{width, Grows}
use Rattle.cf_model.specs.Diagrams.{Levels, count, pattern, exits, IsGood, Extends}
use Rattle.cf_model.proofs.CanonLaws.{canon_is}
use Rattle.cf_model.proofs.RenumberingLaws.{nat_decides, rgs_of_grown}
use Rattle.cf_model.proofs.Canonicity.{level_holds, pattern-dont_care, pattern-fork}
use Rattle.cf_model.proofs.Growing.{pattern_kept}
use Rattle.cf_table.specs.declared.Gid.{Gid}
use Rattle.cf_build.specs.Assembling.{IsRow, Stands, HasCanon, labels_over}
use Rattle.cf_pkg.specs.Basics.{bit_exit, variable_pattern, constant_pattern}
use Rattle.cf_pkg.proofs.Counts.{variable_grows, variable_width, constant_grows, constant_width}
use Rattle.cf_pkg.proofs.Spread.{constant_over, first_over, second_over}

-- how many exits a grouping with a given pattern has
pub exits_are : (t : Levels) → IsGood t → (g : Gid) (l : ℕ) (ranks : List ℕ) → Stands t g l ranks → exits t g.level g.at ≡ width 0 ranks
exits_are t good g l ranks s = sym ((level_holds t good g.level).reaches g.at s.there) ∙ ap (width 0) s.is_it

pub constant_exits : (t : Levels) → IsGood t → (g : Gid) (l : ℕ) → Stands t g l (constant_pattern l) → exits t g.level g.at ≡ 1
constant_exits t good g l s = exits_are t good g l (constant_pattern l) s ∙ constant_width (2 ^ l)

pub variable_exits : (t : Levels) → IsGood t → (g : Gid) (l i : ℕ) → i < 2 ^ l → Stands t g l (variable_pattern l i) → exits t g.level g.at ≡ 2
variable_exits t good g l i h s = exits_are t good g l (variable_pattern l i) s ∙ variable_width (2 ^ l) i h

-- a grouping stays as the table grows
pub stands_kept : (t u : Levels) → IsGood t → Extends t u → (g : Gid) (l : ℕ) (ranks : List ℕ) → Stands t g l ranks → Stands u g l ranks
stands_kept t u good x g l ranks s = record { level = s.level; there = omega (arith, s.there, x.more g.level); is_it = pattern_kept t u good x g.level g.at s.there ∙ s.is_it }

-- labels that number by first reach are the pattern
numbered : (t : Levels) (g : Gid) (l : ℕ) (all ranks ds : List ℕ) → HasCanon t g l all ds → all ≡ ranks → Grows 0 ranks → Stands t g l ranks
numbered t g l all ranks ds c e grows = record {
  level = c.level;
  there = c.there;
  is_it = (canon_is nat_eq nat_decides all (pattern t g.level g.at) ds c.canon).0 ∙ rgs_of_grown all (subst (λ (v : List ℕ). Grows 0 v) (sym e) grows) ∙ e;
}

pub doubled : (l k : ℕ) → l + 1 ≡ k → 2 ^ l + 2 ^ l ≡ 2 ^ k
doubled l k e = subst (λ (m : ℕ). 2 ^ l + 2 ^ l ≡ 2 ^ m) (sym (add-one l) ∙ e) (omega (arith, pow-suc 2 l))

at_level : (t : Levels) (b : Gid) (l : ℕ) (ranks : List ℕ) → Stands t b l ranks → (m : ℕ) → l ≡ m → pattern t m b.at ≡ ranks
at_level t b l ranks s m e = ap (λ (k : ℕ). pattern t k b.at) (sym e ∙ sym s.level) ∙ s.is_it

pub constant_base : (t : Levels) → 0 < count t 0 → (l : ℕ) → l ≡ 0 → Stands t (record { level = 0; at = 0 }) l (constant_pattern l)
unfolding all_bits
constant_base t own l e = record { level = sym e; there = own; is_it = pattern-dont_care t ∙ ap constant_pattern (sym e) }

pub variable_base : (t : Levels) → 1 < count t 0 → (l i : ℕ) → l ≡ 0 → i < 2 ^ l → Stands t (record { level = 0; at = 1 }) l (variable_pattern l i)
unfolding all_bits
variable_base t own l i e h =
    let small : i < 2 ^ 0 = subst (λ (k : ℕ). i < 2 ^ k) e h in
    let z : 0 ≡ i = omega (arith, small) in
    record { level = sym e; there = own; is_it = pattern-fork t 0 ∙ ap (variable_pattern 0) z ∙ ap (λ (k : ℕ). variable_pattern k i) (sym e) }

-- one level up: the constant
pub constant_made : (t u : Levels) (b g : Gid) (l k : ℕ) (ds : List ℕ) → l + 1 ≡ k → Stands t b l (constant_pattern l)
    → HasCanon u g (suc b.level) (labels_over (pattern t b.level) b.at ((b.at, 0 ∷ []) ∷ [])) ds → Stands u g k (constant_pattern k)
constant_made t u b g l k ds e s c =
    let up : suc b.level ≡ k = omega (arith, s.level, e) in
    numbered u g k _ (constant_pattern k) ds
    (subst (λ (m : ℕ). HasCanon u g m (labels_over (pattern t b.level) b.at ((b.at, 0 ∷ []) ∷ [])) ds) up c)
    (constant_over (pattern t b.level) (2 ^ l) b.at s.is_it ∙ ap (λ (n : ℕ). map (λ bits. 0) (all_bits n)) (doubled l k e))
    (constant_grows (all_bits (2 ^ k)))

-- the variables of the first half
pub first_made : (t u : Levels) (a b g : Gid) (l k i : ℕ) (ds : List ℕ) → l + 1 ≡ k → i < 2 ^ l → Stands t a l (variable_pattern l i) → Stands t b l (constant_pattern l)
    → HasCanon u g (suc a.level) (labels_over (pattern t a.level) a.at ((b.at, 0 ∷ []) ∷ (b.at, 1 ∷ []) ∷ [])) ds → Stands u g k (variable_pattern k i)
first_made t u a b g l k i ds e h s w c =
    let up : suc a.level ≡ k = omega (arith, s.level, e) in
    numbered u g k _ (variable_pattern k i) ds
    (subst (λ (m : ℕ). HasCanon u g m (labels_over (pattern t a.level) a.at ((b.at, 0 ∷ []) ∷ (b.at, 1 ∷ []) ∷ [])) ds) up c)
    (first_over (pattern t a.level) (2 ^ l) i a.at b.at h s.is_it (at_level t b l (constant_pattern l) w a.level (sym s.level)) ∙ ap (λ (n : ℕ). map (bit_exit i) (all_bits n)) (doubled l k e))
    (variable_grows (2 ^ k) i)

-- the variables of the second half
pub second_made : (t u : Levels) (a b g : Gid) (l k i : ℕ) (ds : List ℕ) → l + 1 ≡ k → 2 ^ l ≤ i → Stands t a l (constant_pattern l) → Stands t b l (variable_pattern l (i - 2 ^ l))
    → HasCanon u g (suc a.level) (labels_over (pattern t a.level) a.at ((b.at, 0 ∷ 1 ∷ []) ∷ [])) ds → Stands u g k (variable_pattern k i)
second_made t u a b g l k i ds e h s w c =
    let up : suc a.level ≡ k = omega (arith, s.level, e) in
    numbered u g k _ (variable_pattern k i) ds
    (subst (λ (m : ℕ). HasCanon u g m (labels_over (pattern t a.level) a.at ((b.at, 0 ∷ 1 ∷ []) ∷ [])) ds) up c)
    (second_over (pattern t a.level) (2 ^ l) i a.at b.at h s.is_it (at_level t b l (variable_pattern l (i - 2 ^ l)) w a.level (sym s.level)) ∙ ap (λ (n : ℕ). map (bit_exit i) (all_bits n)) (doubled l k e))
    (variable_grows (2 ^ k) i)

pub one_row : {A : Type 0} (P : A → Type 0) (x : A) → P x → All P (x ∷ [])
one_row P x h zero d l = h
one_row P x h (suc k) d l = absurd (omega (arith, l))

pub two_rows : {A : Type 0} (P : A → Type 0) (x y : A) → P x → P y → All P (x ∷ y ∷ [])
two_rows P x y h k zero d l = h
two_rows P x y h k (suc zero) d l = k
two_rows P x y h k (suc (suc n)) d l = absurd (omega (arith, l))

-- a grouping with a label for each exit is a row
pub labelled : (t : Levels) (g : Gid) (l : ℕ) (ranks v : List ℕ) (n : ℕ) → Stands t g l ranks → (m : ℕ) → l ≡ m → exits t g.level g.at ≡ n → length v ≡ n → IsRow t m (g, v)
labelled t g l ranks v n s m e full long =
    let q : g.level ≡ m = s.level ∙ e in
    record {
      level = q;
      owned = subst (λ (k : ℕ). g.at < count t k) q s.there;
      labelled = long ∙ sym full ∙ ap (λ (k : ℕ). exits t k g.at) q;
    }
