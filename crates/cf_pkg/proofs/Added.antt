use Rattle.std.proofs.Common.{◌≡◌, ℕ, List, ◌++◌, ◌∙◌, ap, subst}
use Rattle.std.specs.List.{zip}
use Rattle.cf_model.specs.Renumbering.{rgs}
use Rattle.cf_model.specs.Patterns.{Pattern, sub}
use Rattle.cf_model.specs.PairSums.{same_pair}
use Rattle.cf_model.specs.Diagrams.{Levels, pattern, IsGood, Extends}
use Rattle.cf_model.proofs.CanonLaws.{canon_is}
use Rattle.cf_model.proofs.PairSumLaws.{pair_decides}
use Rattle.cf_table.specs.declared.Gid.{Gid}
use Rattle.cf_table.specs.Groupings.{pattern_of}
use Rattle.cf_build.specs.Assembling.{HasCanon, AddsOnly}
use Rattle.cf_table.specs.Triples.{zip3}
use Rattle.cf_pair.specs.Triples.{same_triple}
use Rattle.cf_pair.proofs.TriplePlaces.{triple_decides}
use Rattle.cf_pkg.specs.declared.Func.{Func}
use Rattle.cf_pkg.specs.Packages.{Package, function_parts}
use Rattle.cf_pkg.specs.Products.{pair_parts, triple_parts}
use Rattle.cf_pkg.proofs.Valued.{adds_both}

-- what a product adds are parts of the pattern of the pairs
pub pair_added : (p q : Package) (f g : Func) (u : Levels) (r : Gid) (pairs : List (ℕ × ℕ)) (h : Func) → IsGood u → Extends u q.groupings.levels
    → HasCanon u r f.head.level (zip (pattern_of p.groupings f.head) (pattern_of p.groupings g.head)) pairs
    → AddsOnly p.groupings.levels u (sub r.level (pattern u r.level r.at)) → AddsOnly u q.groupings.levels (function_parts q h)
    → AddsOnly p.groupings.levels q.groupings.levels (pair_parts p f g ++ function_parts q h)
pair_added p q f g u r pairs h good x c a b =
    let all = zip (pattern_of p.groupings f.head) (pattern_of p.groupings g.head) in
    let ranks : pattern u r.level r.at ≡ rgs same_pair all = (canon_is same_pair pair_decides all (pattern u r.level r.at) pairs c.canon).0 in
    let parts : sub r.level (pattern u r.level r.at) ≡ pair_parts p f g = ap (λ (l : ℕ). sub l (pattern u r.level r.at)) c.level ∙ ap (sub f.head.level) ranks in
    adds_both p.groupings.levels u q.groupings.levels good x (pair_parts p f g) (function_parts q h) (subst (λ (ps : List Pattern). AddsOnly p.groupings.levels u ps) parts a) b

-- the same of three
pub triple_added : (p q : Package) (f g h : Func) (u : Levels) (r : Gid) (triples : List (ℕ × ℕ × ℕ)) (k : Func) → IsGood u → Extends u q.groupings.levels
    → HasCanon u r f.head.level (zip3 (pattern_of p.groupings f.head) (pattern_of p.groupings g.head) (pattern_of p.groupings h.head)) triples
    → AddsOnly p.groupings.levels u (sub r.level (pattern u r.level r.at)) → AddsOnly u q.groupings.levels (function_parts q k)
    → AddsOnly p.groupings.levels q.groupings.levels (triple_parts p f g h ++ function_parts q k)
triple_added p q f g h u r triples k good x c a b =
    let all = zip3 (pattern_of p.groupings f.head) (pattern_of p.groupings g.head) (pattern_of p.groupings h.head) in
    let ranks : pattern u r.level r.at ≡ rgs same_triple all = (canon_is same_triple triple_decides all (pattern u r.level r.at) triples c.canon).0 in
    let parts : sub r.level (pattern u r.level r.at) ≡ triple_parts p f g h = ap (λ (l : ℕ). sub l (pattern u r.level r.at)) c.level ∙ ap (sub f.head.level) ranks in
    adds_both p.groupings.levels u q.groupings.levels good x (triple_parts p f g h) (function_parts q k) (subst (λ (ps : List Pattern). AddsOnly p.groupings.levels u ps) parts a) b
