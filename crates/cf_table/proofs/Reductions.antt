use Rattle.std.proofs.Common.{◌≡◌, ℕ, List, map, get_or, Bool, true, false, ◌&&◌, nat_eq, refl, sym, ◌∙◌, ap, subst, arith}
use Rattle.std.proofs.lemmas.Bool.Decides.{nat_tests}
use Rattle.std.proofs.lemmas.Slice.Eq.{bytes_eq-Decides}
use Rattle.cf_model.specs.Diagrams.{Levels, IsGood, Extends}
use Rattle.cf_model.proofs.Growing.{pattern_kept}
use Rattle.cf_model.specs.Patterns.{same_ranks}
use Rattle.cf_table.specs.declared.Gid.{Gid}
use Rattle.cf_table.specs.declared.Classed.{Classed}
use Rattle.cf_table.specs.contracts.ClassedPartialEq.TheImpl as eq
use Rattle.cf_table.specs.Groupings.{IsReduction}
use Rattle.cf_table.specs.Kept.{Each, KeepsReduction}
use Rattle.cf_table.proofs.Entries.{Follows}
use Rattle.cf_table.proofs.Told.{same_gid}

-- the derived test of two keys
abbrev pub same : Classed → Classed → Bool
same p q = eq.eq-value.it p q

both : (a b : Bool) → (a && b) ≡ true → (a ≡ true) × (b ≡ true)
both true b h = (refl, h)
both false b h = cc

two : (a b x y : ℕ) → (nat_eq a x && nat_eq b y) ≡ true → (a ≡ x) × (b ≡ y)
two a b x y h = grind (arith, nat_tests)

pub same_key : (p q : Classed) → same p q ≡ true → (p.grouping ≡ q.grouping) × (p.classes.items ≡ q.classes.items)
same_key p q h =
    let r = both (nat_eq p.grouping.level q.grouping.level && nat_eq p.grouping.at q.grouping.at) (same_ranks p.classes.items q.classes.items) h in
    let s = two p.grouping.level p.grouping.at q.grouping.level q.grouping.at r.0 in
    (same_gid p.grouping q.grouping s.0 s.1, (bytes_eq-Decides p.classes.items q.classes.items).0 r.1)

-- a key stands for its grouping and its classes
pub follows : (t : Levels) → Follows same (KeepsReduction t)
follows t p q h e =
    let s = same_key p q e in (
      λ r. subst (λ (cs : List ℕ). IsReduction t q.grouping cs h) s.1 (subst (λ (g : Gid). IsReduction t g p.classes.items h) s.0 r),
      λ r. subst (λ (cs : List ℕ). IsReduction t p.grouping cs h) (sym s.1) (subst (λ (g : Gid). IsReduction t g q.classes.items h) (sym s.0) r),
    )

pub reductions_kept : (t u : Levels) → IsGood t → Extends t u → (es : List (Classed × Gid)) → Each (KeepsReduction t) es → Each (KeepsReduction u) es
reductions_kept t u good x es holds i e q =
    let r = holds i e q in
    let g = e.0.grouping in
    let h = e.1 in
    record {
      owned = omega (arith, r.owned, x.more g.level);
      level = r.level;
      there = omega (arith, r.there, x.more h.level);
      is_it = pattern_kept t u good x h.level h.at r.there ∙ r.is_it ∙ ap (λ (p : List ℕ). map (λ exit. get_or e.0.classes.items exit 0) p) (sym (pattern_kept t u good x g.level g.at r.owned));
    }

-- the reduction that a key stands for
pub reduction_of_key : (t : Levels) (k : Classed) (g : Gid) (classes : List ℕ) (h : Gid) → k.grouping ≡ g → k.classes.items ≡ classes → IsReduction t k.grouping k.classes.items h → IsReduction t g classes h
reduction_of_key t k g classes h a b r = subst (λ (x : Gid). IsReduction t x classes h) a (subst (λ (cs : List ℕ). IsReduction t k.grouping cs h) b r)

pub reduction_by : (t : Levels) (k : Classed) (g : Gid) (classes : List ℕ) (h : Gid) → k.grouping ≡ g → k.classes.items ≡ classes → IsReduction t g classes h → IsReduction t k.grouping k.classes.items h
reduction_by t k g classes h a b r = subst (λ (x : Gid). IsReduction t x k.classes.items h) (sym a) (subst (λ (cs : List ℕ). IsReduction t g cs h) (sym b) r)
