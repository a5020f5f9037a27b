use Rattle.std.proofs.Common.{◌≡◌, ℕ, ◌<◌, suc, List, [], ◌∷◌, ◌++◌, Bool, true, ◌&&◌, nat_eq, Bor, Option, Some, None, IfSome, MatchOption, position, refl, sym, ◌∙◌, ap, subst, arith, inl, inr}
use Rattle.std.specs.List.{slice_get}
use Rattle.std.specs.Map.{keys_of, lookup}
use Rattle.std.specs.Option.{is_some, option_copied}
use Rattle.std.proofs.lemmas.Bool.Decides.{nat_tests}
use Rattle.std.proofs.lemmas.List.{map_push}
use Rattle.std.proofs.lemmas.Map.Entries.{place_from_lookup}
use Rattle.cf_model.specs.Renumbering.{AllDiffer, IsNew, IsCanon}
use Rattle.cf_model.specs.Patterns.{Pattern}
use Rattle.cf_model.specs.Diagrams.{Levels, count, pattern, IsGood, Extends}
use Rattle.cf_model.proofs.CanonLaws.{AllDiffer-push}
use Rattle.cf_model.proofs.Growing.{pattern_kept}
use Rattle.cf_table.specs.declared.Gid.{Gid}
use Rattle.cf_table.specs.declared.ThreeOperands.{ThreeOperands}
use Rattle.cf_table.specs.declared.TripleProduct.{TripleProduct}
use Rattle.cf_table.specs.contracts.ThreeOperandsPartialEq.TheImpl as eq
use Rattle.cf_table.specs.Groupings.{grouping_pattern, three_patterns_of}
use Rattle.cf_table.specs.Triples.{IsTriple, IsTripleOf, zip3}
use Rattle.cf_table.specs.Kept.{shown_triples, Each, KeepsTriple, HoldsTriples}
use Rattle.cf_table.proofs.Entries.{unseen, shown_entry, entry_shown, found_at, none_so, in_either}
use Rattle.cf_table.proofs.Products.{same_id}
use Rattle.cf_table.proofs.Told.{same_gid}

-- the derived test of two keys
abbrev pub same : ThreeOperands → ThreeOperands → Bool
same p q = eq.eq-value.it p q

abbrev pub key : Gid → Gid → Gid → ThreeOperands
key f g h = record { first = f; second = g; third = h }

six : (a b c d e f x y z w u v : ℕ) → ((nat_eq a x && nat_eq b y) && ((nat_eq c z && nat_eq d w) && (nat_eq e u && nat_eq f v))) ≡ true → (a ≡ x) × (b ≡ y) × (c ≡ z) × (d ≡ w) × (e ≡ u) × (f ≡ v)
six a b c d e f x y z w u v h = grind (arith, nat_tests)

joined : (a b c d e f x y z w u v : ℕ) → a ≡ x → b ≡ y → c ≡ z → d ≡ w → e ≡ u → f ≡ v → ((nat_eq a x && nat_eq b y) && ((nat_eq c z && nat_eq d w) && (nat_eq e u && nat_eq f v))) ≡ true
joined a b c d e f x y z w u v h k l m n o = grind (arith, nat_tests)

pub same_key : (p q : ThreeOperands) → same p q ≡ true → (p.first ≡ q.first) × (p.second ≡ q.second) × (p.third ≡ q.third)
same_key p q h =
    let r = six p.first.level p.first.at p.second.level p.second.at p.third.level p.third.at q.first.level q.first.at q.second.level q.second.at q.third.level q.third.at h in
    (same_gid p.first q.first r.0 r.1, same_gid p.second q.second r.2 r.3, same_gid p.third q.third r.4 r.5)

pub passes_key : (p q : ThreeOperands) → p.first ≡ q.first → p.second ≡ q.second → p.third ≡ q.third → same p q ≡ true
passes_key p q a b c =
    joined p.first.level p.first.at p.second.level p.second.at p.third.level p.third.at q.first.level q.first.at q.second.level q.second.at q.third.level q.third.at
    (ap (λ (g : Gid). g.level) a) (ap (λ (g : Gid). g.at) a) (ap (λ (g : Gid). g.level) b) (ap (λ (g : Gid). g.at) b) (ap (λ (g : Gid). g.level) c) (ap (λ (g : Gid). g.at) c)

-- the patterns of an entry
abbrev key_patterns : Levels → ThreeOperands × TripleProduct → Pattern × Pattern × Pattern
key_patterns t e = three_patterns_of t e.0.first e.0.second e.0.third

-- three groupings have the patterns of those that they are
patterns_so : (t : Levels) (f g h a b c : Gid) → f ≡ a → g ≡ b → h ≡ c → three_patterns_of t f g h ≡ three_patterns_of t a b c
patterns_so t f g h a b c x y z =
    ap (λ (i : Gid). three_patterns_of t i g h) x ∙ ap (λ (i : Gid). three_patterns_of t a i h) y ∙ ap (λ (i : Gid). three_patterns_of t a b i) z

-- three groupings in the table with the patterns of three are those
pub same_three : (t : Levels) → IsGood t → (a b c f g h : Gid) → a.at < count t a.level → b.at < count t b.level → c.at < count t c.level → f.at < count t f.level → g.at < count t g.level → h.at < count t h.level
    → three_patterns_of t a b c ≡ three_patterns_of t f g h → (a ≡ f) × (b ≡ g) × (c ≡ h)
same_three t good a b c f g h ha hb hc hf hg hh e = (
  same_id t good a f ha hf (ap (λ (k : Pattern × Pattern × Pattern). k.0) e),
  same_id t good b g hb hg (ap (λ (k : Pattern × Pattern × Pattern). k.1) e),
  same_id t good c h hc hh (ap (λ (k : Pattern × Pattern × Pattern). k.2) e),
)

-- a product of three groupings is one of those that they are
triple_so : (t : Levels) (f g h a b c head : Gid) (ts : List (ℕ × ℕ × ℕ)) → a ≡ f → b ≡ g → c ≡ h → IsTriple t f g h head ts → IsTriple t a b c head ts
triple_so t f g h a b c head ts x y z p =
    subst (λ (i : Gid). IsTriple t a b i head ts) (sym z) (subst (λ (i : Gid). IsTriple t a i h head ts) (sym y) (subst (λ (i : Gid). IsTriple t i g h head ts) (sym x) p))

-- what a look-up by ids says of the patterns
pub looked_up : (t : Levels) → IsGood t → (es : List (ThreeOperands × TripleProduct)) → HoldsTriples t es → (f g h : Gid) → f.at < count t f.level → g.at < count t g.level → h.at < count t h.level → (o : Option (Bor TripleProduct)) → option_copied o ≡ lookup (same (key f g h)) es
    → MatchOption o (IsNew (shown_triples t es) (three_patterns_of t f g h)) (λ r. IsTriple t f g h r.now.head r.now.triples.items)
looked_up t good es holds f g h hf hg hh None e = λ i q.
    (let x = shown_entry (key_patterns t) es i (three_patterns_of t f g h) q in
    let r = holds.are i x.0 x.1 in
    let k = x.0.0 in
    let s = same_three t good k.first k.second k.third f g h r.first r.second r.third hf hg hh x.2 in
    unseen (same (key f g h)) es (sym e) i x.0 x.1 (passes_key (key f g h) k (sym s.0) (sym s.1) (sym s.2)))
looked_up t good es holds f g h hf hg hh (Some b) e =
    let p = place_from_lookup (same (key f g h)) es b.now (sym e) in
    let s = same_key (key f g h) p.1 p.3 in
    triple_so t p.1.first p.1.second p.1.third f g h b.now.head b.now.triples.items s.0 s.1 s.2 (holds.are p.0 (p.1, b.now) p.2)

-- the place that a look-up by ids finds has the three patterns
pub placed : (t : Levels) → IsGood t → (es : List (ThreeOperands × TripleProduct)) → HoldsTriples t es → (f g h : Gid) → f.at < count t f.level → g.at < count t g.level → h.at < count t h.level → (o : Option ℕ) → o ≡ position (same (key f g h)) (keys_of es) → is_some o ≡ is_some (lookup (same (key f g h)) es)
    → MatchOption o (IsNew (shown_triples t es) (three_patterns_of t f g h)) (λ i. slice_get (shown_triples t es) i ≡ Some (three_patterns_of t f g h))
placed t good es holds f g h hf hg hh None e n = looked_up t good es holds f g h hf hg hh None (sym (none_so (lookup (same (key f g h)) es) (sym n)))
placed t good es holds f g h hf hg hh (Some i) e n =
    let x = found_at same (key f g h) es i (sym e) in
    let k = x.0.0 in
    let s = same_key (key f g h) k x.2 in
    entry_shown (key_patterns t) es i x.0 x.1 ∙ ap Some (patterns_so t k.first k.second k.third f g h (sym s.0) (sym s.1) (sym s.2))

-- what stands at a place is the product of the patterns that are shown there
pub triple_shown : (t : Levels) (es : List (ThreeOperands × TripleProduct)) → HoldsTriples t es → (i : ℕ) (e : ThreeOperands × TripleProduct) → slice_get es i ≡ Some e → IfSome (slice_get (shown_triples t es) i) (λ k. IsTripleOf t k e.1.head e.1.triples.items)
triple_shown t es holds i e h =
    let p = holds.are i e h in
    subst (λ (o : Option (Pattern × Pattern × Pattern)). IfSome o (λ k. IsTripleOf t k e.1.head e.1.triples.items)) (sym (entry_shown (key_patterns t) es i e h)) (record { level = p.level; there = p.there; canon = p.canon })

-- three patterns that aren't there are not found by the ids
pub not_found : (t : Levels) (es : List (ThreeOperands × TripleProduct)) (f g h : Gid) → IsNew (shown_triples t es) (three_patterns_of t f g h) → lookup (same (key f g h)) es ≡ None
not_found t es f g h new = by (lookup (same (key f g h)) es) refl
  where
    by : (o : Option TripleProduct) → lookup (same (key f g h)) es ≡ o → lookup (same (key f g h)) es ≡ None
    by None e = e
    by (Some v) e =
        let p = place_from_lookup (same (key f g h)) es v e in
        let s = same_key (key f g h) p.1 p.3 in
        absurd (new p.0 (entry_shown (key_patterns t) es p.0 (p.1, v) p.2 ∙ ap Some (patterns_so t p.1.first p.1.second p.1.third f g h (sym s.0) (sym s.1) (sym s.2))))

-- one more product of three groupings
pub pushed_triple : (t : Levels) (es : List (ThreeOperands × TripleProduct)) (f g h : Gid) (v : TripleProduct) → HoldsTriples t es → IsTriple t f g h v.head v.triples.items → IsNew (shown_triples t es) (three_patterns_of t f g h) → HoldsTriples t (es ++ (key f g h, v) ∷ [])
pushed_triple t es f g h v holds is_it new = record {
  are = λ i e q. elim (in_either es (key f g h, v) i e q) [
    | inl l ↦ holds.are i e l
    | inr r ↦ subst (λ (e : ThreeOperands × TripleProduct). KeepsTriple t e) r is_it
  ];
  differ = subst (λ (ks : List (Pattern × Pattern × Pattern)). AllDiffer ks) (sym (map_push (key_patterns t) es (key f g h, v))) (AllDiffer-push (shown_triples t es) (three_patterns_of t f g h) holds.differ new);
}

-- the patterns stay as the table grows
pattern_stays : (t u : Levels) → IsGood t → Extends t u → (g : Gid) → g.at < count t g.level → grouping_pattern u g ≡ grouping_pattern t g
pattern_stays t u good x g hg = ap at_level (pattern_kept t u good x g.level g.at hg)
  where
    at_level : List ℕ → Pattern
    at_level r = record { level = g.level; ranks = r }

pub three_patterns_kept : (t u : Levels) → IsGood t → Extends t u → (f g h : Gid) → f.at < count t f.level → g.at < count t g.level → h.at < count t h.level → three_patterns_of u f g h ≡ three_patterns_of t f g h
three_patterns_kept t u good x f g h hf hg hh =
    ap (λ (p : Pattern). together p (grouping_pattern u g) (grouping_pattern u h)) (pattern_stays t u good x f hf)
    ∙ ap (λ (p : Pattern). together (grouping_pattern t f) p (grouping_pattern u h)) (pattern_stays t u good x g hg)
    ∙ ap (λ (p : Pattern). together (grouping_pattern t f) (grouping_pattern t g) p) (pattern_stays t u good x h hh)
  where
    together : Pattern → Pattern → Pattern → Pattern × Pattern × Pattern
    together p q r = (p, q, r)

triple_kept : (t u : Levels) → IsGood t → Extends t u → (f g h head : Gid) (ts : List (ℕ × ℕ × ℕ)) → IsTriple t f g h head ts → IsTriple u f g h head ts
triple_kept t u good x f g h head ts r = record {
  first = omega (arith, r.first, x.more f.level);
  second = omega (arith, r.second, x.more g.level);
  third = omega (arith, r.third, x.more h.level);
  level = r.level;
  there = omega (arith, r.there, x.more head.level);
  canon = subst (λ (p : List ℕ). IsCanon (zip3 (pattern u f.level f.at) (pattern u g.level g.at) (pattern u h.level h.at)) p ts) (sym (pattern_kept t u good x head.level head.at r.there))
      (subst (λ (p : List ℕ). IsCanon (zip3 (pattern u f.level f.at) (pattern u g.level g.at) p) (pattern t head.level head.at) ts) (sym (pattern_kept t u good x h.level h.at r.third))
      (subst (λ (p : List ℕ). IsCanon (zip3 (pattern u f.level f.at) p (pattern t h.level h.at)) (pattern t head.level head.at) ts) (sym (pattern_kept t u good x g.level g.at r.second))
      (subst (λ (p : List ℕ). IsCanon (zip3 p (pattern t g.level g.at) (pattern t h.level h.at)) (pattern t head.level head.at) ts) (sym (pattern_kept t u good x f.level f.at r.first)) r.canon)));
}

pub shown_kept : (t u : Levels) → IsGood t → Extends t u → (es : List (ThreeOperands × TripleProduct)) → Each (KeepsTriple t) es → shown_triples u es ≡ shown_triples t es
shown_kept t u good x [] are = refl
shown_kept t u good x (e ∷ es) are =
    let p = are 0 e refl in
    let top : key_patterns u e ≡ key_patterns t e = three_patterns_kept t u good x e.0.first e.0.second e.0.third p.first p.second p.third in
    let rest : shown_triples u es ≡ shown_triples t es = shown_kept t u good x es (λ i d q. are (suc i) d q) in
    cc

pub triples_kept : (t u : Levels) → IsGood t → Extends t u → (es : List (ThreeOperands × TripleProduct)) → HoldsTriples t es → HoldsTriples u es
triples_kept t u good x es h = record {
  are = λ i e q. triple_kept t u good x e.0.first e.0.second e.0.third e.1.head e.1.triples.items (h.are i e q);
  differ = subst (λ (ks : List (Pattern × Pattern × Pattern)). AllDiffer ks) (sym (shown_kept t u good x es h.are)) h.differ;
}
