use Rattle.std.proofs.Common.{◌≡◌, ℕ, ◌<◌, ◌^◌, ℤ, pos, List, [], ◌∷◌, Bool, true, false, map, length, get_or, Some, refl, sym, ◌∙◌, ap, subst, arith, inl, inr}
use Rattle.std.specs.Prelude.{if◌then◌else◌}
use Rattle.std.specs.List.{All, slice_get}
use Rattle.std.proofs.lemmas.List.Elements.{All-push}
use Rattle.std.proofs.lemmas.Option.{get_or_from_slice_get, slice_get_within}
use Rattle.cf_model.specs.Assignments.{all_bits, bit_at}
use Rattle.cf_model.specs.FlatFunctions.{FlatFunction, tabulated, variable}
use Rattle.cf_model.specs.Diagrams.{Extends, IsGood, exits, pattern}
use Rattle.cf_model.proofs.Growing.{pattern_kept, exits_kept}
use Rattle.cf_model.proofs.RenumberingLaws.{map_map}
use Rattle.cf_tuple.specs.Books.{Lengthens as KeepsTuples}
use Rattle.cf_values.specs.Books.{Lengthens, IsInterned}
use Rattle.cf_values.proofs.BookLaws.{kept_at}
use Rattle.cf_table.specs.declared.Gid.{Gid}
use Rattle.cf_build.specs.Assembling.{Stands}
use Rattle.cf_pkg.specs.Memos.{Remembered, IsFinished}
use Rattle.cf_pkg.specs.Packages.{Package, values_of, Means, Keeps}
use Rattle.cf_pkg.specs.Basics.{bit_exit, constant_pattern, variable_pattern}
use Rattle.cf_pkg.proofs.Made.{constant_exits, variable_exits}
use Rattle.cf_pkg.proofs.Spread.{map_same}

abbrev flat : ℕ → List ℤ → FlatFunction
flat l values = record { level = l; values = values }

-- functions stay as the table and the book grow
pub keeps : (p q : Package) → IsGood p.groupings.levels → Extends p.groupings.levels q.groupings.levels → KeepsTuples p.groupings.tuples q.groupings.tuples → Lengthens p.lists q.lists → q.memo ≡ p.memo → Keeps p q
keeps p q good x tuples lists memo = record {
  groupings = x;
  tuples = tuples;
  lists = lists;
  jobs = λ t f h. subst (λ (m : Remembered). IsFinished m t f) (sym memo) h;
  functions = λ f o.
      (let t = p.groupings.levels in
      let u = q.groupings.levels in
      let same : values_of q f ≡ values_of p f = kept_at p.lists q.lists lists f.vals.at [] o.list in
      record {
        owned = record {
          head = omega (arith, o.head, x.more f.head.level);
          list = omega (arith, o.list, lists.more);
          valued = ap length same ∙ o.valued ∙ sym (exits_kept t u x f.head.level f.head.at o.head);
        };
        is_it = ap (λ (v : List ℤ). flat f.head.level (map (λ exit. get_or v exit (pos 0)) (pattern u f.head.level f.head.at))) same
            ∙ ap (λ (r : List ℕ). flat f.head.level (map (λ exit. get_or (values_of p f) exit (pos 0)) r)) (pattern_kept t u good x f.head.level f.head.at o.head);
      });
}

-- a book to which a list was added that holds what the others hold
pub all_kept : (P : List ℤ → Type 0) (before now : List (List ℤ)) (item : List ℤ) (at : ℕ) → IsInterned before now item at → All P before → P item → All P now
all_kept P before now item at i all h = elim i.grown [
  | inl e ↦ subst (λ (v : List (List ℤ)). All P v) (sym e) all
  | inr e ↦ subst (λ (v : List (List ℤ)). All P v) (sym e) (All-push P before item all h)
]

-- what a grouping and an interned list of values mean
pub means : (q : Package) (g : Gid) (at l : ℕ) (ranks : List ℕ) (values target : List ℤ) → Stands q.groupings.levels g l ranks → slice_get q.lists at ≡ Some values
    → length values ≡ exits q.groupings.levels g.level g.at → map (λ exit. get_or values exit (pos 0)) ranks ≡ target
    → Means q (record { head = g; vals = record { at = at } }) (flat l target)
means q g at l ranks values target s h long e =
    let read : get_or q.lists at [] ≡ values = get_or_from_slice_get q.lists at values [] h in
    record {
      owned = record { head = s.there; list = slice_get_within q.lists at values h; valued = ap length read ∙ long };
      is_it = ap (λ (v : List ℤ). flat g.level (map (λ exit. get_or v exit (pos 0)) (pattern q.groupings.levels g.level g.at))) read
          ∙ ap (λ (r : List ℕ). flat g.level (map (λ exit. get_or values exit (pos 0)) r)) s.is_it
          ∙ ap (flat g.level) e ∙ ap (λ (k : ℕ). flat k target) s.level;
    }

pub constant_means : (q : Package) (g : Gid) (at l : ℕ) (z : ℤ) → IsGood q.groupings.levels → Stands q.groupings.levels g l (constant_pattern l) → slice_get q.lists at ≡ Some (z ∷ [])
    → Means q (record { head = g; vals = record { at = at } }) (tabulated l (λ bits. z))
constant_means q g at l z good s h =
    means q g at l (constant_pattern l) (z ∷ []) (tabulated l (λ bits. z)).values s h (sym (constant_exits q.groupings.levels good g l s))
    (map_map (λ exit. get_or (z ∷ []) exit (pos 0)) (λ bits. 0) (all_bits (2 ^ l)))

bit_value : (b : Bool) → get_or (pos 0 ∷ pos 1 ∷ []) (if b then 1 else 0) (pos 0) ≡ (if b then pos 1 else pos 0)
bit_value true = refl
bit_value false = refl

pub variable_means : (q : Package) (g : Gid) (at l i : ℕ) → i < 2 ^ l → IsGood q.groupings.levels → Stands q.groupings.levels g l (variable_pattern l i) → slice_get q.lists at ≡ Some (pos 0 ∷ pos 1 ∷ [])
    → Means q (record { head = g; vals = record { at = at } }) (variable l i)
variable_means q g at l i lt good s h =
    means q g at l (variable_pattern l i) (pos 0 ∷ pos 1 ∷ []) (variable l i).values s h (sym (variable_exits q.groupings.levels good g l i lt s))
    (map_map (λ exit. get_or (pos 0 ∷ pos 1 ∷ []) exit (pos 0)) (bit_exit i) (all_bits (2 ^ l))
    ∙ map_same (λ bits. get_or (pos 0 ∷ pos 1 ∷ []) (bit_exit i bits) (pos 0)) (λ bits. if bit_at bits i then pos 1 else pos 0) (all_bits (2 ^ l)) (λ bits. bit_value (bit_at bits i)))
