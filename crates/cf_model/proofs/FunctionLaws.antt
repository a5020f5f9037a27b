use Rattle.std.proofs.Common.{◌≡◌, ℕ, ◌<◌, ◌≤◌, ℤ, pos, List, map, length, get_or, Some, sym, ◌∙◌, ap, subst, arith}
use Rattle.std.specs.Prelude.{slice_get}
use Rattle.std.specs.Ordering.{int_eq}
use Rattle.std.proofs.lemmas.Bool.Decides.{Decides-int_eq}
use Rattle.std.proofs.lemmas.List.{length-map, get_or-map}
use Rattle.std.proofs.lemmas.Option.{slice_get-get_or}
use Rattle.cf_model.specs.Renumbering.{IsCanon, rgs, distinct}
use Rattle.cf_model.specs.Values.{Fits}
use Rattle.cf_model.specs.FlatFunctions.{IsFlatFunction, points}
use Rattle.cf_model.specs.Diagrams.{Levels, pattern, exits, IsGood}
use Rattle.cf_model.specs.Functions.{IsFunction, function_of}
use Rattle.cf_model.proofs.Growth.{Under-width}
use Rattle.cf_model.proofs.CanonLaws.{map_under, canon_is}
use Rattle.cf_model.proofs.RenumberingLaws.{map_map}
use Rattle.cf_model.proofs.Canonicity.{level_holds, canonical}
use Rattle.cf_model.proofs.Entries.{entry_below}

-- a function's grouping and values are the canon of what it means
pub function_canon : (t : Levels) → IsGood t → (l i : ℕ) (values : List ℤ) → IsFunction t l i values → IsCanon (function_of t l i values).values (pattern t l i) values
function_canon t g l i values f =
    let u = level_holds t g l in
    let full : exits t l i ≡ length values = sym f.valued in
    record {
      spells = map_under (slice_get values) (λ e. Some (get_or values e (pos 0))) (length values) (pattern t l i) (Under-width 0 (length values) (pattern t l i) (omega (arith, u.reaches i f.exists, full))) (λ e h. slice_get-get_or values e (pos 0) h)
          ∙ sym (map_map Some (λ e. get_or values e (pos 0)) (pattern t l i));
      grows = u.grows i f.exists;
      reached = u.reaches i f.exists ∙ full;
      differ = f.differ;
    }

-- the pattern of what a function means is its grouping's pattern, and its values are the different values
pub function_pattern : (t : Levels) → IsGood t → (l i : ℕ) (values : List ℤ) → IsFunction t l i values
    → (pattern t l i ≡ rgs int_eq (function_of t l i values).values) × (values ≡ distinct int_eq (function_of t l i values).values)
function_pattern t g l i values f = canon_is int_eq Decides-int_eq (function_of t l i values).values (pattern t l i) values (function_canon t g l i values f)

-- functions that mean the same have one grouping and one list of values
pub function_unique : (t : Levels) → IsGood t → (l i j : ℕ) (vs ws : List ℤ) → IsFunction t l i vs → IsFunction t l j ws → (function_of t l i vs).values ≡ (function_of t l j ws).values → (i ≡ j) × (vs ≡ ws)
function_unique t g l i j vs ws f h e =
    let a = function_pattern t g l i vs f in
    let b = function_pattern t g l j ws h in
    (canonical t g l i j f.exists h.exists (a.0 ∙ ap (rgs int_eq) e ∙ sym b.0), a.1 ∙ ap (distinct int_eq) e ∙ sym b.1)

-- what a function of level 0 to 7 means is a flat function
pub function_flat : (t : Levels) → IsGood t → (l i : ℕ) (values : List ℤ) → l ≤ 7 → IsFunction t l i values → IsFlatFunction (function_of t l i values)
function_flat t g l i values h f =
    let full : length (pattern t l i) ≡ points l = (level_holds t g l).points i f.exists in
    let value : ℕ → ℤ = λ e. get_or values e (pos 0) in
    record {
      level_in = h;
      full = length-map (pattern t l i) value ∙ full;
      fit = λ k d lk.
          (let inside : k < length (pattern t l i) = omega (arith, lk, length-map (pattern t l i) value) in
          let e : get_or (map value (pattern t l i)) k d ≡ value (get_or (pattern t l i) k 0) = get_or-map value (pattern t l i) k 0 d inside in
          subst (λ (z : ℤ). Fits z) (sym e) (f.fit (get_or (pattern t l i) k 0) (pos 0) (omega (arith, entry_below t g l i k f.exists (omega (arith, inside, full)), f.valued))));
    }
