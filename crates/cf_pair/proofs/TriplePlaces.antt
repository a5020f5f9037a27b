use Rattle.std.proofs.Common.{◌≡◌, ℕ, zero, suc, ◌<◌, ◌≤◌, List, [], ◌∷◌, ◌++◌, ◌==◌, ◌&&◌, Option, Some, IfSome, map, get_or, length, length-append, refl, sym, ◌∙◌, ap, subst, arith}
use Rattle.std.specs.List.{slice_get, All}
use Rattle.std.specs.Option.{option_map_or}
use Rattle.std.specs.Bool.{Decides}
use Rattle.std.proofs.lemmas.Bool.Decides.{Decides-and, Decides-eqb, Decides-like}
use Rattle.std.proofs.lemmas.List.{append-nil, append_assoc}
use Rattle.std.proofs.lemmas.List.Elements.{All-weaker, All-push, All-append}
use Rattle.std.proofs.lemmas.Option.{slice_get_within, get_or_from_slice_get}
use Rattle.cf_model.specs.Renumbering.{IsCanon, IsNew, distinct}
use Rattle.cf_model.specs.Patterns.{Pattern}
use Rattle.cf_model.specs.Diagrams.{Levels, count, pattern, IsGood, Extends}
use Rattle.cf_model.proofs.CanonLaws.{canon_is, read, get_last}
use Rattle.cf_table.specs.declared.Gid.{Gid}
use Rattle.cf_table.specs.Groupings.{Groupings, pattern_of, three_patterns_of}
use Rattle.cf_table.specs.Triples.{zip3, IsTripleOf}
use Rattle.cf_table.proofs.Triples.{three_patterns_kept}
use Rattle.cf_build.specs.Assembling.{HasCanon}
use Rattle.cf_pair.specs.declared.middle_triples.TripleMiddles.{TripleMiddles}
use Rattle.cf_pair.specs.declared.middle_triples.TripleMiddles.TheVariants.{DontCare, Fork, Beside, Kept}
use Rattle.cf_pair.specs.Triples.{zero_put, same_triple, pattern_triples, triples_at, IsTriplePlace, IsTriplesOf, IsTripledAt, IsNewTriple, KeepsProducts}
use Rattle.cf_pair.proofs.PairPlaces.{pairs_stay, read_left}

-- the test of two triples
pub triple_decides : (s t : ℕ × ℕ × ℕ) → Decides (same_triple s t) (s ≡ t)
triple_decides s t =
    Decides-like (same_triple s t)
    (λ h. ap (λ (a : ℕ). (a, s.1, s.2)) h.0 ∙ ap (λ (b : ℕ). (t.0, b, s.2)) h.1.0 ∙ ap (λ (d : ℕ). (t.0, t.1, d)) h.1.1)
    (λ e. (ap (λ (r : ℕ × ℕ × ℕ). r.0) e, (ap (λ (r : ℕ × ℕ × ℕ). r.1) e, ap (λ (r : ℕ × ℕ × ℕ). r.2) e)))
    (Decides-and (s.0 == t.0) (s.1 == t.1 && s.2 == t.2) (Decides-eqb s.0 t.0) (Decides-and (s.1 == t.1) (s.2 == t.2) (Decides-eqb s.1 t.1) (Decides-eqb s.2 t.2)))

abbrev Three : Type 0
Three = Pattern × Pattern × Pattern

-- triples stay where they stand as the memos grow
pub triples_stay : (t u : Groupings) (limit : ℕ) (m : TripleMiddles) → IsTriplePlace t m → KeepsProducts t u limit → IsTriplePlace u m × (triples_at u m ≡ triples_at t m)
triples_stay t u limit DontCare h k = (tt, refl)
triples_stay t u limit (Fork x y z) h k = (tt, refl)
triples_stay t u limit (Beside place pairs) h k =
    let s = pairs_stay t.products k.pairs u.products pairs h k.products in
    (s.0, ap (λ (v : List (ℕ × ℕ)). map (zero_put place) v) s.1)
triples_stay t u limit (Kept place) h k = (
  omega (arith, h, ap length k.triples, length-append t.triples k.all),
  ap (λ (o : Option Three). option_map_or pattern_triples o []) (ap (λ (v : List Three). slice_get v place) k.triples ∙ read_left t.triples k.all place h),
)

-- the triple that was read once the memos have grown
pub triple_read : (t u : Groupings) (limit : ℕ) (m : TripleMiddles) → IsTriplePlace t m → KeepsProducts t u limit → (i : ℕ) (x : ℕ × ℕ × ℕ) → x ≡ get_or (triples_at u m) i (0, 0, 0) → x ≡ get_or (triples_at t m) i (0, 0, 0)
triple_read t u limit m h k i x r = r ∙ ap (λ (v : List (ℕ × ℕ × ℕ)). get_or v i (0, 0, 0)) (triples_stay t u limit m h k).1

-- and what is known of each
pub triple_has : (P : ℕ × ℕ × ℕ → Type 0) (t u : Groupings) (limit : ℕ) (m : TripleMiddles) → IsTriplePlace t m → KeepsProducts t u limit → All P (triples_at t m) → (i : ℕ) → i < length (triples_at t m) → (x : ℕ × ℕ × ℕ) → x ≡ get_or (triples_at u m) i (0, 0, 0) → P x
triple_has P t u limit m h k all i lt x r = subst P (sym (triple_read t u limit m h k i x r)) (all i (0, 0, 0) lt)

-- the triples of a canon are those of its list
triples_are : (all : List (ℕ × ℕ × ℕ)) (ranks : List ℕ) (ts : List (ℕ × ℕ × ℕ)) → IsCanon all ranks ts → ts ≡ distinct same_triple all
triples_are all ranks ts c = (canon_is same_triple triple_decides all ranks ts c).1

-- the triples of the product of three patterns stand where the three are shown
kept_triples : (t : Groupings) (place : ℕ) (k : Three) → slice_get t.triples place ≡ Some k → triples_at t (Kept place) ≡ pattern_triples k
kept_triples t place k h = ap (λ (o : Option Three). option_map_or pattern_triples o []) h

-- what the memo has at a place
pub stand_at : (t : Groupings) (place : ℕ) (head : Gid) (ts : List (ℕ × ℕ × ℕ)) → place < length t.triples → IfSome (slice_get t.triples place) (λ k. IsTripleOf t.levels k head ts) → ts ≡ triples_at t (Kept place)
stand_at t place head ts h p =
    let k = read t.triples place h in
    let q : IsTripleOf t.levels k.0 head ts = subst (λ (o : Option Three). IfSome o (λ k. IsTripleOf t.levels k head ts)) k.1 p in
    triples_are (zip3 k.0.0.ranks k.0.1.ranks k.0.2.ranks) (pattern t.levels head.level head.at) ts q.canon ∙ sym (kept_triples t place k.0 k.1)

-- a product that the memo has
pub found_at : (t : Groupings) (f g h head : Gid) (place : ℕ) (ts : List (ℕ × ℕ × ℕ)) → slice_get t.triples place ≡ Some (three_patterns_of t.levels f g h) → IfSome (slice_get t.triples place) (λ k. IsTripleOf t.levels k head ts) → IsTripledAt t t f g h head (Kept place)
found_at t f g h head place ts e p =
    let k = three_patterns_of t.levels f g h in
    let q : IsTripleOf t.levels k head ts = subst (λ (o : Option Three). IfSome o (λ k. IsTripleOf t.levels k head ts)) e p in
    let same : ts ≡ triples_at t (Kept place) = triples_are (zip3 (pattern_of t f) (pattern_of t g) (pattern_of t h)) (pattern_of t head) ts q.canon ∙ sym (kept_triples t place k e) in
    record {
      there = slice_get_within t.triples place k e;
      triples = subst (λ (v : List (ℕ × ℕ × ℕ)). IsTriplesOf t t f g h head v) same (record { level = q.level; there = q.there; canon = q.canon });
    }

-- a product that the memo has from now on
pub kept_at : (t u n : Groupings) → IsGood t.levels → Extends t.levels u.levels → (f g h head : Gid) (place : ℕ) (ts : List (ℕ × ℕ × ℕ)) → f.at < count t.levels f.level → g.at < count t.levels g.level → h.at < count t.levels h.level
    → n.levels ≡ u.levels → n.triples ≡ u.triples ++ three_patterns_of u.levels f g h ∷ [] → place ≡ length u.triples → IsTriplesOf t u f g h head ts → IsTripledAt t n f g h head (Kept place)
kept_at t u n good x f g h head place ts hf hg hh levels kept at p =
    let k = three_patterns_of t.levels f g h in
    let here : slice_get n.triples place ≡ Some k =
    ap (λ (v : List Three). slice_get v place) kept ∙ get_last u.triples (three_patterns_of u.levels f g h) place at ∙ ap (λ (q : Three). Some q) (three_patterns_kept t.levels u.levels good x f g h hf hg hh) in
    let all = zip3 (pattern_of t f) (pattern_of t g) (pattern_of t h) in
    let same : ts ≡ triples_at n (Kept place) = triples_are all (pattern_of u head) ts p.canon ∙ sym (kept_triples n place k here) in
    record {
      there = slice_get_within n.triples place k here;
      triples = subst (λ (v : List (ℕ × ℕ × ℕ)). IsTriplesOf t n f g h head v) same (subst (λ (l : Levels). HasCanon l head f.level all ts) (sym levels) p);
    }

abbrev Below : ℕ → Three → Type 0
Below limit k = k.0.level < limit

no_three : (limit : ℕ) → All (Below limit) []
no_three limit i d h = absurd (omega (arith, h))

-- a table that has gained no product of three groupings
pub keeps_pairs : (t u : Groupings) (limit : ℕ) (all : List (Pattern × Pattern)) → u.products ≡ t.products ++ all → u.triples ≡ t.triples → KeepsProducts t u limit
keeps_pairs t u limit all e f = record {
  pairs = all;
  products = e;
  all = [];
  triples = f ∙ sym (append-nil t.triples);
  below = no_three limit;
}

pub keeps_all : (t u : Groupings) (limit : ℕ) → u.products ≡ t.products → u.triples ≡ t.triples → KeepsProducts t u limit
keeps_all t u limit e f = keeps_pairs t u limit [] (e ∙ sym (append-nil t.products)) f

-- one growth after another
pub keeps_then : (t s u : Groupings) (l m limit : ℕ) → l ≤ limit → m ≤ limit → KeepsProducts t s l → KeepsProducts s u m → KeepsProducts t u limit
keeps_then t s u l m limit hl hm a b = record {
  pairs = a.pairs ++ b.pairs;
  products = b.products ∙ ap (λ (v : List (Pattern × Pattern)). v ++ b.pairs) a.products ∙ append_assoc t.products a.pairs b.pairs;
  all = a.all ++ b.all;
  triples = b.triples ∙ ap (λ (v : List Three). v ++ b.all) a.triples ∙ append_assoc t.triples a.all b.all;
  below = All-append (Below limit) a.all b.all (All-weaker (Below l) (Below limit) (λ k h. omega (arith, h, hl)) a.all a.below) (All-weaker (Below m) (Below limit) (λ k h. omega (arith, h, hm)) b.all b.below);
}

pub keeps_weaker : (t u : Groupings) (l limit : ℕ) → l ≤ limit → KeepsProducts t u l → KeepsProducts t u limit
keeps_weaker t u l limit h k = record {
  pairs = k.pairs;
  products = k.products;
  all = k.all;
  triples = k.triples;
  below = All-weaker (Below l) (Below limit) (λ k e. omega (arith, e, h)) k.all k.below;
}

-- one more product of three groupings is kept
pub keeps_one : (t u n : Groupings) (f g h : Gid) → KeepsProducts t u f.level → n.products ≡ u.products → n.triples ≡ u.triples ++ three_patterns_of u.levels f g h ∷ [] → KeepsProducts t n (suc f.level)
keeps_one t u n f g h k e kept = record {
  pairs = k.pairs;
  products = e ∙ k.products;
  all = k.all ++ three_patterns_of u.levels f g h ∷ [];
  triples = kept ∙ ap (λ (v : List Three). v ++ three_patterns_of u.levels f g h ∷ []) k.triples ∙ append_assoc t.triples k.all (three_patterns_of u.levels f g h ∷ []);
  below = All-push (Below (suc f.level)) k.all (three_patterns_of u.levels f g h) (All-weaker (Below f.level) (Below (suc f.level)) (λ k e. omega (arith, e)) k.all k.below) (omega arith);
}

-- three patterns are new behind others that differ from them
new_behind : (xs ys : List Three) (k : Three) → IsNew xs k → All (Below k.0.level) ys → IsNew (xs ++ ys) k
new_behind [] ys k new below i e = absurd (omega (arith, below i k (slice_get_within ys i k e), ap (λ (p : Three). p.0.level) (get_or_from_slice_get ys i k k e)))
new_behind (x ∷ xs) ys k new below zero e = new 0 e
new_behind (x ∷ xs) ys k new below (suc i) e = new_behind xs ys k (λ j. new (suc j)) below i e

-- the triple itself is still unknown once its parts are done
pub still_new : (t u : Groupings) → IsGood t.levels → Extends t.levels u.levels → (f g h : Gid) → f.at < count t.levels f.level → g.at < count t.levels g.level → h.at < count t.levels h.level → IsNewTriple t f g h → KeepsProducts t u f.level → IsNewTriple u f g h
still_new t u good x f g h hf hg hh new k =
    subst (λ (q : Three). IsNew u.triples q) (sym (three_patterns_kept t.levels u.levels good x f g h hf hg hh))
    (subst (λ (v : List Three). IsNew v (three_patterns_of t.levels f g h)) (sym k.triples) (new_behind t.triples k.all (three_patterns_of t.levels f g h) new k.below))
