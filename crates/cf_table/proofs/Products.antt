use Rattle.std.proofs.Common.{◌≡◌, ℕ, suc, ◌<◌, List, [], ◌∷◌, ◌++◌, Bool, true, ◌&&◌, nat_eq, Bor, Option, Some, None, IfSome, MatchOption, position, refl, sym, ◌∙◌, ap, subst, arith, inl, inr}
use Rattle.std.specs.List.{slice_get, zip}
use Rattle.std.specs.Map.{keys_of, lookup}
use Rattle.std.specs.Option.{is_some, option_copied}
use Rattle.std.proofs.lemmas.Bool.Decides.{nat_tests}
use Rattle.std.proofs.lemmas.List.{map_push}
use Rattle.std.proofs.lemmas.Map.Entries.{place_from_lookup}
use Rattle.cf_model.specs.Renumbering.{AllDiffer, IsNew, IsCanon}
use Rattle.cf_model.specs.Patterns.{Pattern}
use Rattle.cf_model.specs.Diagrams.{Levels, count, pattern, IsGood, Extends}
use Rattle.cf_model.proofs.Canonicity.{canonical}
use Rattle.cf_model.proofs.CanonLaws.{AllDiffer-push}
use Rattle.cf_model.proofs.Growing.{pattern_kept}
use Rattle.cf_table.specs.declared.Gid.{Gid}
use Rattle.cf_table.specs.declared.Operands.{Operands}
use Rattle.cf_table.specs.declared.Product.{Product}
use Rattle.cf_table.specs.contracts.OperandsPartialEq.TheImpl as eq
use Rattle.cf_table.specs.Groupings.{IsProduct, IsProductOf, patterns_of}
use Rattle.cf_table.specs.Kept.{shown_products, HoldsProducts}
use Rattle.cf_table.proofs.Entries.{unseen, shown_entry, entry_shown, found_at, none_so, in_either}
use Rattle.cf_table.proofs.Told.{same_gid}

-- the derived test of two keys
abbrev pub same : Operands → Operands → Bool
same p q = eq.eq-value.it p q

abbrev pub key : Gid → Gid → Operands
key g h = record { left = g; right = h }

four : (a b c d x y z w : ℕ) → ((nat_eq a x && nat_eq b y) && (nat_eq c z && nat_eq d w)) ≡ true → (a ≡ x) × (b ≡ y) × (c ≡ z) × (d ≡ w)
four a b c d x y z w h = grind (arith, nat_tests)

joined : (a b c d x y z w : ℕ) → a ≡ x → b ≡ y → c ≡ z → d ≡ w → ((nat_eq a x && nat_eq b y) && (nat_eq c z && nat_eq d w)) ≡ true
joined a b c d x y z w h k l m = grind (arith, nat_tests)

pub same_key : (p q : Operands) → same p q ≡ true → (p.left ≡ q.left) × (p.right ≡ q.right)
same_key p q h =
    let r = four p.left.level p.left.at p.right.level p.right.at q.left.level q.left.at q.right.level q.right.at h in
    (same_gid p.left q.left r.0 r.1, same_gid p.right q.right r.2 r.3)

pub passes_key : (p q : Operands) → p.left ≡ q.left → p.right ≡ q.right → same p q ≡ true
passes_key p q a b = joined p.left.level p.left.at p.right.level p.right.at q.left.level q.left.at q.right.level q.right.at (ap (λ (g : Gid). g.level) a) (ap (λ (g : Gid). g.at) a) (ap (λ (g : Gid). g.level) b) (ap (λ (g : Gid). g.at) b)

-- two groupings with one pattern and one level are one
pub same_id : (t : Levels) → IsGood t → (g h : Gid) → g.at < count t g.level → h.at < count t h.level → (patterns_of t g g).0 ≡ (patterns_of t h h).0 → g ≡ h
same_id t good g h hg hh e =
    let lev : g.level ≡ h.level = ap (λ (p : Pattern). p.level) e in
    let ranks : pattern t g.level g.at ≡ pattern t h.level h.at = ap (λ (p : Pattern). p.ranks) e in
    same_gid g h lev (canonical t good h.level g.at h.at (subst (λ (m : ℕ). g.at < count t m) lev hg) hh (ap (λ (m : ℕ). pattern t m g.at) (sym lev) ∙ ranks))

-- two pairs of groupings with one pair of patterns are one
pub same_pair : (t : Levels) → IsGood t → (a b g h : Gid) → a.at < count t a.level → b.at < count t b.level → g.at < count t g.level → h.at < count t h.level → patterns_of t a b ≡ patterns_of t g h → (a ≡ g) × (b ≡ h)
same_pair t good a b g h ha hb hg hh e =
    (same_id t good a g ha hg (ap (λ (k : Pattern × Pattern). k.0) e), same_id t good b h hb hh (ap (λ (k : Pattern × Pattern). k.1) e))

-- the patterns of an entry
abbrev key_patterns : Levels → Operands × Product → Pattern × Pattern
key_patterns t e = patterns_of t e.0.left e.0.right

-- what a look-up by ids says of the patterns
pub looked_up : (t : Levels) → IsGood t → (es : List (Operands × Product)) → HoldsProducts t es → (g h : Gid) → g.at < count t g.level → h.at < count t h.level → (o : Option (Bor Product)) → option_copied o ≡ lookup (same (key g h)) es
    → MatchOption o (IsNew (shown_products t es) (patterns_of t g h)) (λ r. IsProduct t g h r.now.head r.now.pairs.items)
looked_up t good es holds g h hg hh None e = λ i q.
    (let x = shown_entry (key_patterns t) es i (patterns_of t g h) q in
    let r = holds.are i x.0 x.1 in
    let s = same_pair t good x.0.0.left x.0.0.right g h r.first r.second hg hh x.2 in
    unseen (same (key g h)) es (sym e) i x.0 x.1 (passes_key (key g h) x.0.0 (sym s.0) (sym s.1)))
looked_up t good es holds g h hg hh (Some b) e =
    let p = place_from_lookup (same (key g h)) es b.now (sym e) in
    let s = same_key (key g h) p.1 p.3 in
    let r : IsProduct t p.1.left p.1.right b.now.head b.now.pairs.items = holds.are p.0 (p.1, b.now) p.2 in
    subst (λ (x : Gid). IsProduct t g x b.now.head b.now.pairs.items) (sym s.1) (subst (λ (x : Gid). IsProduct t x p.1.right b.now.head b.now.pairs.items) (sym s.0) r)

-- the place that a look-up by ids finds has the pair of patterns
pub placed : (t : Levels) → IsGood t → (es : List (Operands × Product)) → HoldsProducts t es → (g h : Gid) → g.at < count t g.level → h.at < count t h.level → (o : Option ℕ) → o ≡ position (same (key g h)) (keys_of es) → is_some o ≡ is_some (lookup (same (key g h)) es)
    → MatchOption o (IsNew (shown_products t es) (patterns_of t g h)) (λ i. slice_get (shown_products t es) i ≡ Some (patterns_of t g h))
placed t good es holds g h hg hh None e f = looked_up t good es holds g h hg hh None (sym (none_so (lookup (same (key g h)) es) (sym f)))
placed t good es holds g h hg hh (Some i) e f =
    let x = found_at same (key g h) es i (sym e) in
    let s = same_key (key g h) x.0.0 x.2 in
    entry_shown (key_patterns t) es i x.0 x.1 ∙ ap (λ (a : Gid). Some (patterns_of t a x.0.0.right)) (sym s.0) ∙ ap (λ (a : Gid). Some (patterns_of t g a)) (sym s.1)

-- what stands at a place is the product of the patterns that are shown there
pub product_shown : (t : Levels) (es : List (Operands × Product)) → HoldsProducts t es → (i : ℕ) (e : Operands × Product) → slice_get es i ≡ Some e → IfSome (slice_get (shown_products t es) i) (λ k. IsProductOf t k e.1.head e.1.pairs.items)
product_shown t es holds i e h =
    let p = holds.are i e h in
    subst (λ (o : Option (Pattern × Pattern)). IfSome o (λ k. IsProductOf t k e.1.head e.1.pairs.items)) (sym (entry_shown (key_patterns t) es i e h)) (record { level = p.level; there = p.there; canon = p.canon })

-- a product of two patterns is one of any two groupings that have them
pub product_of_patterns : (t : Levels) (g h head : Gid) (pairs : List (ℕ × ℕ)) → g.at < count t g.level → h.at < count t h.level → h.level ≡ g.level → IsProductOf t (patterns_of t g h) head pairs → IsProduct t g h head pairs
product_of_patterns t g h head pairs hg hh lev p = record { first = hg; second = hh; levels = lev; level = p.level; there = p.there; canon = p.canon }

-- a pair of patterns that isn't there is not found by the ids
pub not_found : (t : Levels) (es : List (Operands × Product)) (g h : Gid) → IsNew (shown_products t es) (patterns_of t g h) → lookup (same (key g h)) es ≡ None
not_found t es g h new = by (lookup (same (key g h)) es) refl
  where
    by : (o : Option Product) → lookup (same (key g h)) es ≡ o → lookup (same (key g h)) es ≡ None
    by None e = e
    by (Some v) e =
        let p = place_from_lookup (same (key g h)) es v e in
        let s = same_key (key g h) p.1 p.3 in
        absurd (new p.0 (entry_shown (key_patterns t) es p.0 (p.1, v) p.2 ∙ ap Some (ap (λ (x : Gid). patterns_of t x p.1.right) (sym s.0) ∙ ap (λ (x : Gid). patterns_of t g x) (sym s.1))))

-- one more product
pub pushed_product : (t : Levels) (es : List (Operands × Product)) (g h : Gid) (v : Product) → HoldsProducts t es → IsProduct t g h v.head v.pairs.items → IsNew (shown_products t es) (patterns_of t g h) → HoldsProducts t (es ++ (key g h, v) ∷ [])
pushed_product t es g h v holds is_it new = record {
  are = λ i e q. elim (in_either es (key g h, v) i e q) [
    | inl l ↦ holds.are i e l
    | inr r ↦ subst (λ (e : Operands × Product). IsProduct t e.0.left e.0.right e.1.head e.1.pairs.items) r is_it
  ];
  differ = subst (λ (ks : List (Pattern × Pattern)). AllDiffer ks) (sym (map_push (λ (e : Operands × Product). patterns_of t e.0.left e.0.right) es (key g h, v))) (AllDiffer-push (shown_products t es) (patterns_of t g h) holds.differ new);
}

-- the patterns stay as the table grows
patterns_kept : (t u : Levels) → IsGood t → Extends t u → (g h : Gid) → g.at < count t g.level → h.at < count t h.level → patterns_of u g h ≡ patterns_of t g h
patterns_kept t u good x g h hg hh =
    ap (λ (r : List ℕ). paired (record { level = g.level; ranks = r }) (record { level = h.level; ranks = pattern u h.level h.at })) (pattern_kept t u good x g.level g.at hg)
    ∙ ap (λ (r : List ℕ). paired (record { level = g.level; ranks = pattern t g.level g.at }) (record { level = h.level; ranks = r })) (pattern_kept t u good x h.level h.at hh)
  where
    paired : Pattern → Pattern → Pattern × Pattern
    paired p q = (p, q)

product_kept : (t u : Levels) → IsGood t → Extends t u → (g h head : Gid) (pairs : List (ℕ × ℕ)) → IsProduct t g h head pairs → IsProduct u g h head pairs
product_kept t u good x g h head pairs p = record {
  first = omega (arith, p.first, x.more g.level);
  second = omega (arith, p.second, x.more h.level);
  levels = p.levels;
  level = p.level;
  there = omega (arith, p.there, x.more head.level);
  canon = subst (λ (r : List ℕ). IsCanon (zip (pattern u g.level g.at) (pattern u h.level h.at)) r pairs) (sym (pattern_kept t u good x head.level head.at p.there))
      (subst (λ (r : List ℕ). IsCanon (zip (pattern u g.level g.at) r) (pattern t head.level head.at) pairs) (sym (pattern_kept t u good x h.level h.at p.second))
      (subst (λ (r : List ℕ). IsCanon (zip r (pattern t h.level h.at)) (pattern t head.level head.at) pairs) (sym (pattern_kept t u good x g.level g.at p.first)) p.canon));
}

pub shown_kept : (t u : Levels) → IsGood t → Extends t u → (es : List (Operands × Product)) → ((i : ℕ) (e : Operands × Product) → slice_get es i ≡ Some e → IsProduct t e.0.left e.0.right e.1.head e.1.pairs.items) → shown_products u es ≡ shown_products t es
shown_kept t u good x [] are = refl
shown_kept t u good x (e ∷ es) are =
    let p = are 0 e refl in
    let top : patterns_of u e.0.left e.0.right ≡ patterns_of t e.0.left e.0.right = patterns_kept t u good x e.0.left e.0.right p.first p.second in
    let rest : shown_products u es ≡ shown_products t es = shown_kept t u good x es (λ i d q. are (suc i) d q) in
    cc

pub products_kept : (t u : Levels) → IsGood t → Extends t u → (es : List (Operands × Product)) → HoldsProducts t es → HoldsProducts u es
products_kept t u good x es h = record {
  are = λ i e q. product_kept t u good x e.0.left e.0.right e.1.head e.1.pairs.items (h.are i e q);
  differ = subst (λ (ks : List (Pattern × Pattern)). AllDiffer ks) (sym (shown_kept t u good x es h.are)) h.differ;
}
