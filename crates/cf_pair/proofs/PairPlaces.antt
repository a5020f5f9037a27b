use Rattle.std.proofs.Common.{◌≡◌, ℕ, zero, suc, ◌<◌, List, [], ◌∷◌, ◌++◌, true, Option, Some, IfSome, get_or, length, length-append, refl, sym, ◌∙◌, ap, subst, arith}
use Rattle.std.specs.List.{slice_get, zip}
use Rattle.std.specs.Option.{option_map_or}
use Rattle.std.proofs.lemmas.Option.{slice_get_within}
use Rattle.cf_model.specs.Renumbering.{IsCanon, distinct}
use Rattle.cf_model.specs.PairSums.{same_pair}
use Rattle.cf_model.specs.Patterns.{Pattern}
use Rattle.cf_model.specs.Diagrams.{Levels, count, pattern, IsGood, Extends}
use Rattle.cf_model.proofs.CanonLaws.{canon_is, read, get_last}
use Rattle.cf_model.proofs.PairSumLaws.{pair_decides}
use Rattle.cf_table.specs.declared.Gid.{Gid}
use Rattle.cf_table.specs.Groupings.{Groupings, pattern_of, patterns_of, IsProductOf}
use Rattle.cf_build.specs.Assembling.{HasCanon}
use Rattle.cf_pair.specs.Charges.{IsCharged}
use Rattle.cf_pair.specs.declared.middles.Middles.{Middles}
use Rattle.cf_pair.specs.declared.middles.Middles.TheVariants.{Formula, Kept}
use Rattle.cf_pair.specs.Products.{pattern_pairs, pairs_at, IsPlace, IsPairsOf, IsPairedAt}
use Rattle.cf_pair.proofs.Bounds.{pair_kept}

-- what stands in the first of two lists
pub read_left : {A : Type 0} (xs ys : List A) (i : ℕ) → i < length xs → slice_get (xs ++ ys) i ≡ slice_get xs i
read_left [] ys i h = absurd (omega (arith, h))
read_left (x ∷ xs) ys zero h = refl
read_left (x ∷ xs) ys (suc i) h = read_left xs ys i (omega (arith, h))

-- pairs stay where they stand as the memo grows
pub pairs_stay : (ps all qs : List (Pattern × Pattern)) (m : Middles) → IsPlace ps m → qs ≡ ps ++ all → IsPlace qs m × (pairs_at qs m ≡ pairs_at ps m)
pairs_stay ps all qs (Formula plain) h e = (tt, refl)
pairs_stay ps all qs (Kept place) h e = (
  omega (arith, h, ap length e, length-append ps all),
  ap (λ (o : Option (Pattern × Pattern)). option_map_or pattern_pairs o []) (ap (λ (v : List (Pattern × Pattern)). slice_get v place) e ∙ read_left ps all place h),
)

-- the pairs of a canon are those of its list
pub pairs_are : (all : List (ℕ × ℕ)) (ranks : List ℕ) (pairs : List (ℕ × ℕ)) → IsCanon all ranks pairs → pairs ≡ distinct same_pair all
pairs_are all ranks pairs c = (canon_is same_pair pair_decides all ranks pairs c).1

-- the pairs of the product of two patterns stand where the two are shown
kept_pairs : (products : List (Pattern × Pattern)) (place : ℕ) (k : Pattern × Pattern) → slice_get products place ≡ Some k → pairs_at products (Kept place) ≡ pattern_pairs k
kept_pairs products place k h = ap (λ (o : Option (Pattern × Pattern)). option_map_or pattern_pairs o []) h

-- what the memo has at a place
pub stand_at : (t : Groupings) (place : ℕ) (head : Gid) (pairs : List (ℕ × ℕ)) → place < length t.products → IfSome (slice_get t.products place) (λ k. IsProductOf t.levels k head pairs) → pairs ≡ pairs_at t.products (Kept place)
stand_at t place head pairs h p =
    let k = read t.products place h in
    let q : IsProductOf t.levels k.0 head pairs = subst (λ (o : Option (Pattern × Pattern)). IfSome o (λ k. IsProductOf t.levels k head pairs)) k.1 p in
    pairs_are (zip k.0.0.ranks k.0.1.ranks) (pattern t.levels head.level head.at) pairs q.canon ∙ sym (kept_pairs t.products place k.0 k.1)

-- a product that the memo has
pub found_at : (t : Groupings) (g h head : Gid) (place : ℕ) (pairs : List (ℕ × ℕ)) → slice_get t.products place ≡ Some (patterns_of t.levels g h) → IfSome (slice_get t.products place) (λ k. IsProductOf t.levels k head pairs) → IsPairedAt t t g h head (Kept place)
found_at t g h head place pairs e p =
    let q : IsProductOf t.levels (patterns_of t.levels g h) head pairs = subst (λ (o : Option (Pattern × Pattern)). IfSome o (λ k. IsProductOf t.levels k head pairs)) e p in
    let same : pairs ≡ pairs_at t.products (Kept place) = pairs_are (zip (pattern_of t g) (pattern_of t h)) (pattern_of t head) pairs q.canon ∙ sym (kept_pairs t.products place (patterns_of t.levels g h) e) in
    record {
      there = slice_get_within t.products place (patterns_of t.levels g h) e;
      pairs = subst (λ (v : List (ℕ × ℕ)). IsPairsOf t t g h head v) same (record { level = q.level; there = q.there; canon = q.canon });
    }

-- a product that the memo has from now on
pub kept_at : (t u n : Groupings) → IsGood t.levels → Extends t.levels u.levels → (g h head : Gid) (place : ℕ) (pairs : List (ℕ × ℕ)) → g.at < count t.levels g.level → h.at < count t.levels h.level
    → n.levels ≡ u.levels → n.products ≡ u.products ++ patterns_of u.levels g h ∷ [] → place ≡ length u.products → IsPairsOf t u g h head pairs → IsPairedAt t n g h head (Kept place)
kept_at t u n good x g h head place pairs hg hh levels kept at p =
    let k = patterns_of t.levels g h in
    let here : slice_get n.products place ≡ Some k =
    ap (λ (v : List (Pattern × Pattern)). slice_get v place) kept ∙ get_last u.products (patterns_of u.levels g h) place at ∙ ap (λ (q : Pattern × Pattern). Some q) (pair_kept t.levels u.levels good x g h hg hh) in
    let all = zip (pattern_of t g) (pattern_of t h) in
    let same : pairs ≡ pairs_at n.products (Kept place) = pairs_are all (pattern_of u head) pairs p.canon ∙ sym (kept_pairs n.products place k here) in
    record {
      there = slice_get_within n.products place k here;
      pairs = subst (λ (v : List (ℕ × ℕ)). IsPairsOf t n g h head v) same (subst (λ (l : Levels). HasCanon l head g.level all pairs) (sym levels) p);
    }

-- the pair that was read once the memo has grown
pub middle_read : (ps qs : List (Pattern × Pattern)) (m : Middles) (p q : Pattern) (limit own s e : ℕ) → IsPlace ps m → IsCharged ps qs p q limit own s e true → (i : ℕ) (x : ℕ × ℕ) → x ≡ get_or (pairs_at qs m) i (0, 0) → x ≡ get_or (pairs_at ps m) i (0, 0)
middle_read ps qs m p q limit own s e h c i x r = r ∙ ap (λ (v : List (ℕ × ℕ)). get_or v i (0, 0)) (pairs_stay ps c.all qs m h (c.kept refl)).1
