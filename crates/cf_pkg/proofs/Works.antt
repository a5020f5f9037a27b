use Rattle.std.proofs.Common.{◌≡◌, ℕ, ◌<◌, Bool, ℤ, pos, List, length, get_or, Option, Some, option_map, refl, sym, ◌∙◌, ap, subst, arith}
use Rattle.std.specs.List.{slice_get, zip}
use Rattle.std.proofs.lemmas.List.{length-map, get_or-map}
use Rattle.std.proofs.lemmas.Slice.Zip.{length-zip, get_or-zip}
use Rattle.std.proofs.lemmas.Option.{slice_get-map, slice_get-get_or}
use Rattle.cf_model.specs.Assignments.{number_of}
use Rattle.cf_model.specs.Renumbering.{IsCanon}
use Rattle.cf_model.specs.FlatFunctions.{IsAssignment}
use Rattle.cf_model.specs.Terms.{term}
use Rattle.cf_model.specs.declared.terms.Term.{Term}
use Rattle.cf_model.specs.Diagrams.{Levels, pattern, IsGood}
use Rattle.cf_model.proofs.Growth.{Under-width}
use Rattle.cf_model.proofs.RenumberingLaws.{canon_read}
use Rattle.cf_model.proofs.FlatFunctionLaws.{number_in}
use Rattle.cf_model.proofs.Canonicity.{level_holds, pattern_full}
use Rattle.cf_model.proofs.Entries.{entry_below}
use Rattle.cf_table.specs.declared.Gid.{Gid}
use Rattle.cf_table.specs.Groupings.{pattern_of}
use Rattle.cf_build.specs.Assembling.{HasCanon}
use Rattle.cf_table.specs.Triples.{zip3, triple_of}
use Rattle.cf_pair.proofs.Zips.{Both, Three, all_zip, all_zip3, all_labels_of}
use Rattle.cf_pkg.specs.declared.Func.{Func}
use Rattle.cf_pkg.specs.Packages.{Package, OwnsFunction, values_of}
use Rattle.cf_pkg.specs.Exits.{map_each, apply_each, ternary_each, PairsWithin, TriplesWithin}
use Rattle.cf_pkg.specs.Jobs.{value_in, map_value, apply_value, ternary_value, AreLevel}
use Rattle.cf_pkg.proofs.Valued.{Worked}

number_within : (p : Package) → IsGood p.groupings.levels → (f : Func) → OwnsFunction p f → (bits : List Bool) → IsAssignment f.head.level bits → number_of bits < length (pattern_of p.groupings f.head)
number_within p good f o bits a = omega (arith, number_in f.head.level bits a, pattern_full p.groupings.levels good f.head.level f.head.at o.head)

-- the value of a function at an assignment is that of the exit there
value_in-is : (p : Package) → IsGood p.groupings.levels → (f : Func) → OwnsFunction p f → (bits : List Bool) → IsAssignment f.head.level bits
    → value_in p f bits ≡ get_or (values_of p f) (get_or (pattern_of p.groupings f.head) (number_of bits) 0) (pos 0)
value_in-is p good f o bits a = get_or-map (λ exit. get_or (values_of p f) exit (pos 0)) (pattern_of p.groupings f.head) (number_of bits) 0 (pos 0) (number_within p good f o bits a)

-- what an operation of one argument answers at a function's values tells its value at each assignment
pub map_worked : (p : Package) → IsGood p.groupings.levels → (tree : Term) (f : Func) → OwnsFunction p f → Worked p.groupings.levels f.head f.head.level (map_each tree (values_of p f)) (map_value p tree f)
map_worked p good tree f o =
    let vs = values_of p f in
    let word : ℤ → Option ℤ = λ x. term tree x (pos 0) (pos 0) in
    record {
      good = good;
      level = refl;
      there = o.head;
      long = length-map vs word ∙ o.valued;
      each = λ bits a.
          (let exit = get_or (pattern_of p.groupings f.head) (number_of bits) 0 in
          let below : exit < length vs = omega (arith, entry_below p.groupings.levels good f.head.level f.head.at (number_of bits) o.head (number_in f.head.level bits a), o.valued) in
          slice_get-map word vs exit ∙ ap (option_map word) (slice_get-get_or vs exit (pos 0) below) ∙ ap (λ (x : ℤ). Some (word x)) (sym (value_in-is p good f o bits a)));
    }

-- the pairs of exits of a product have their places in the two lists of values
pub pairs_within : (p : Package) → IsGood p.groupings.levels → (f g : Func) → AreLevel p f g → (ranks : List ℕ) (pairs : List (ℕ × ℕ))
    → IsCanon (zip (pattern_of p.groupings f.head) (pattern_of p.groupings g.head)) ranks pairs → PairsWithin (values_of p f) (values_of p g) pairs
pairs_within p good f g o ranks pairs canon =
    let t = p.groupings.levels in
    let pf = pattern_of p.groupings f.head in
    let pg = pattern_of p.groupings g.head in
    all_labels_of (Both (length (values_of p f)) (length (values_of p g))) (zip pf pg) ranks pairs (0, 0) canon
    (all_zip (length (values_of p f)) (length (values_of p g)) pf pg
    (Under-width 0 (length (values_of p f)) pf (omega (arith, (level_holds t good f.head.level).reaches f.head.at o.first.head, o.first.valued)))
    (Under-width 0 (length (values_of p g)) pg (omega (arith, (level_holds t good g.head.level).reaches g.head.at o.second.head, o.second.valued))))

at_level : (f g : Func) → f.head.level ≡ g.head.level → (bits : List Bool) → IsAssignment f.head.level bits → IsAssignment g.head.level bits
at_level f g e bits a = subst (λ (l : ℕ). IsAssignment l bits) e a

-- what an operation of two arguments answers at the pairs of a product
pub apply_worked : (p : Package) → IsGood p.groupings.levels → (tree : Term) (f g : Func) → AreLevel p f g → (u : Levels) → IsGood u → (r : Gid) (pairs : List (ℕ × ℕ))
    → HasCanon u r f.head.level (zip (pattern_of p.groupings f.head) (pattern_of p.groupings g.head)) pairs
    → Worked u r f.head.level (apply_each tree (values_of p f) (values_of p g) pairs) (apply_value p tree f g)
apply_worked p good tree f g o u good_u r pairs c =
    let vs = values_of p f in
    let ws = values_of p g in
    let pf = pattern_of p.groupings f.head in
    let pg = pattern_of p.groupings g.head in
    let word : ℕ × ℕ → Option ℤ = λ q. term tree (get_or vs q.0 (pos 0)) (get_or ws q.1 (pos 0)) (pos 0) in
    record {
      good = good_u;
      level = c.level;
      there = c.there;
      long = length-map pairs word ∙ sym c.canon.reached ∙ (level_holds u good_u r.level).reaches r.at c.there;
      each = λ bits a.
          (let n = number_of bits in
          let nf = number_within p good f o.first bits a in
          let ng = number_within p good g o.second bits (at_level f g o.level bits a) in
          let inside : n < length (zip pf pg) = omega (arith, nf, ng, length-zip pf pg) in
          let read : slice_get pairs (get_or (pattern u r.level r.at) n 0) ≡ Some (get_or pf n 0, get_or pg n 0)
          = canon_read (zip pf pg) (pattern u r.level r.at) pairs c.canon n inside ∙ slice_get-get_or (zip pf pg) n (0, 0) inside ∙ ap Some (get_or-zip pf pg n (0, 0) nf ng) in
          slice_get-map word pairs (get_or (pattern u r.level r.at) n 0) ∙ ap (option_map word) read
          ∙ ap (λ (x : ℤ). Some (term tree x (get_or ws (get_or pg n 0) (pos 0)) (pos 0))) (sym (value_in-is p good f o.first bits a))
          ∙ ap (λ (y : ℤ). Some (term tree (value_in p f bits) y (pos 0))) (sym (value_in-is p good g o.second bits (at_level f g o.level bits a))));
    }

-- the triples of exits of a product have their places in the three lists of values
pub triples_within : (p : Package) → IsGood p.groupings.levels → (f g h : Func) → AreLevel p f g → AreLevel p f h → (ranks : List ℕ) (triples : List (ℕ × ℕ × ℕ))
    → IsCanon (zip3 (pattern_of p.groupings f.head) (pattern_of p.groupings g.head) (pattern_of p.groupings h.head)) ranks triples
    → TriplesWithin (values_of p f) (values_of p g) (values_of p h) triples
triples_within p good f g h o q ranks triples canon =
    let t = p.groupings.levels in
    let pf = pattern_of p.groupings f.head in
    let pg = pattern_of p.groupings g.head in
    let ph = pattern_of p.groupings h.head in
    all_labels_of (Three (length (values_of p f)) (length (values_of p g)) (length (values_of p h))) (zip3 pf pg ph) ranks triples (0, 0, 0) canon
    (all_zip3 (length (values_of p f)) (length (values_of p g)) (length (values_of p h)) pf pg ph
    (Under-width 0 (length (values_of p f)) pf (omega (arith, (level_holds t good f.head.level).reaches f.head.at o.first.head, o.first.valued)))
    (Under-width 0 (length (values_of p g)) pg (omega (arith, (level_holds t good g.head.level).reaches g.head.at o.second.head, o.second.valued)))
    (Under-width 0 (length (values_of p h)) ph (omega (arith, (level_holds t good h.head.level).reaches h.head.at q.second.head, q.second.valued))))

-- what an operation of three arguments answers at the triples of a product
pub ternary_worked : (p : Package) → IsGood p.groupings.levels → (tree : Term) (f g h : Func) → AreLevel p f g → AreLevel p f h → (u : Levels) → IsGood u → (r : Gid) (triples : List (ℕ × ℕ × ℕ))
    → HasCanon u r f.head.level (zip3 (pattern_of p.groupings f.head) (pattern_of p.groupings g.head) (pattern_of p.groupings h.head)) triples
    → Worked u r f.head.level (ternary_each tree (values_of p f) (values_of p g) (values_of p h) triples) (ternary_value p tree f g h)
ternary_worked p good tree f g h o q u good_u r triples c =
    let us = values_of p f in
    let vs = values_of p g in
    let ws = values_of p h in
    let pf = pattern_of p.groupings f.head in
    let pg = pattern_of p.groupings g.head in
    let ph = pattern_of p.groupings h.head in
    let word : ℕ × ℕ × ℕ → Option ℤ = λ t. term tree (get_or us t.0 (pos 0)) (get_or vs t.1 (pos 0)) (get_or ws t.2 (pos 0)) in
    let none : ℕ × (ℕ × ℕ) = (0, (0, 0)) in
    record {
      good = good_u;
      level = c.level;
      there = c.there;
      long = length-map triples word ∙ sym c.canon.reached ∙ (level_holds u good_u r.level).reaches r.at c.there;
      each = λ bits a.
          (let n = number_of bits in
          let nf = number_within p good f o.first bits a in
          let ng = number_within p good g o.second bits (at_level f g o.level bits a) in
          let nh = number_within p good h q.second bits (at_level f h q.level bits a) in
          let pair_in : n < length (zip pg ph) = omega (arith, ng, nh, length-zip pg ph) in
          let zip_in : n < length (zip pf (zip pg ph)) = omega (arith, nf, pair_in, length-zip pf (zip pg ph)) in
          let inside : n < length (zip3 pf pg ph) = omega (arith, zip_in, length-map (zip pf (zip pg ph)) triple_of) in
          let entry : get_or (zip3 pf pg ph) n (0, 0, 0) ≡ (get_or pf n 0, get_or pg n 0, get_or ph n 0)
          = get_or-map triple_of (zip pf (zip pg ph)) n none (0, 0, 0) zip_in ∙ ap triple_of (get_or-zip pf (zip pg ph) n none nf pair_in)
          ∙ ap (λ (d : ℕ × ℕ). triple_of (get_or pf n 0, d)) (get_or-zip pg ph n (0, 0) ng nh) in
          let read : slice_get triples (get_or (pattern u r.level r.at) n 0) ≡ Some (get_or pf n 0, get_or pg n 0, get_or ph n 0)
          = canon_read (zip3 pf pg ph) (pattern u r.level r.at) triples c.canon n inside ∙ slice_get-get_or (zip3 pf pg ph) n (0, 0, 0) inside ∙ ap Some entry in
          slice_get-map word triples (get_or (pattern u r.level r.at) n 0) ∙ ap (option_map word) read
          ∙ ap (λ (x : ℤ). Some (term tree x (get_or vs (get_or pg n 0) (pos 0)) (get_or ws (get_or ph n 0) (pos 0)))) (sym (value_in-is p good f o.first bits a))
          ∙ ap (λ (y : ℤ). Some (term tree (value_in p f bits) y (get_or ws (get_or ph n 0) (pos 0)))) (sym (value_in-is p good g o.second bits (at_level f g o.level bits a)))
          ∙ ap (λ (z : ℤ). Some (term tree (value_in p f bits) (value_in p g bits) z)) (sym (value_in-is p good h q.second bits (at_level f h q.level bits a))));
    }
