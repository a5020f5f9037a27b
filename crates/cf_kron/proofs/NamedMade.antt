use Rattle.std.proofs.Common.{◌≡◌, ℕ, suc, ◌≤◌, ◌-◌, ◌/◌, ◌%◌, ◌^◌, ℤ, pos, negsuc, ◌*ℤ◌, Bool, true, false, List, [], ◌∷◌, map, length, get_or, Option, Some, None, Result, Ok, Err, refl, sym, ◌∙◌, ap, subst, arith, rules}
use Rattle.std.specs.Prelude.{◌&&◌, nat_eq, if◌then◌else◌}
use Rattle.std.proofs.lemmas.Bool.Decides.{nat_tests}
use Rattle.std.specs.List.{slice_get}
use Rattle.std.proofs.lemmas.Option.{get_or_from_slice_get, none-some}
use Rattle.cf_model.specs.Assignments.{number_of, first_half, second_half}
use Rattle.cf_model.specs.Values.{Fits, fitting}
use Rattle.cf_model.specs.FlatFunctions.{IsAssignment}
use Rattle.cf_model.specs.Diagrams.{Levels, pattern, IsGood, Extends}
use Rattle.cf_model.specs.Matrices.{kronecker, identity, walsh, unit}
use Rattle.cf_model.specs.Functions.{function_of}
use Rattle.cf_model.proofs.AssignmentLaws.{half_level}
use Rattle.cf_model.proofs.Growing.{pattern_kept, exits_kept}
use Rattle.cf_table.specs.declared.Gid.{Gid}
use Rattle.cf_build.specs.Assembling.{row_of, labels_over, HasCanon}
use Rattle.cf_pkg.specs.declared.Func.{Func}
use Rattle.cf_pkg.specs.Jobs.{Gives, IsLeastWithout}
use Rattle.cf_kron.specs.contracts.named.NamedPartialEq.TheImpl as eq
use Rattle.cf_kron.specs.declared.named.Named.{Named}
use Rattle.cf_kron.specs.declared.named.Named.TheVariants.{Identity, Walsh, Unit as UnitAt}
use Rattle.cf_kron.specs.Products.{value_by}
use Rattle.cf_kron.specs.Matrices.{named_value, HasAll}
use Rattle.cf_kron.proofs.ProductLaws.{fitting_there, canon_gives}
use Rattle.cf_kron.proofs.Words.{fork_labels}
use Rattle.cf_kron.proofs.NamedLaws.{identity_halves, walsh_halves, unit_halves}

fits_if : (b : Bool) (x y : ℤ) → Fits x → Fits y → Fits (if b then x else y)
fits_if true x y f g = f
fits_if false x y f g = g

one_fits : Fits (pos 1)
one_fits = search rules

zero_fits : Fits (pos 0)
zero_fits = search rules

minus_fits : Fits (negsuc 0)
minus_fits = search rules

-- each value of a named matrix fits
named_fits : (matrix : Named) (bits : List Bool) → Fits (named_value matrix bits)
named_fits Identity bits = fits_if _ (pos 1) (pos 0) one_fits zero_fits
named_fits Walsh bits = fits_if _ (negsuc 0) (pos 1) minus_fits one_fits
named_fits (UnitAt r c) bits = fits_if _ (pos 1) (pos 0) one_fits zero_fits

-- what a grouping with values gives, by its definition
pub value_given : (t : Levels) (g : Gid) (vs : List ℤ) (l : ℕ) (v : List Bool → ℤ) → Gives t g vs l (λ bits. Some (v bits)) → (bits : List Bool) → IsAssignment l bits → value_by t g vs bits ≡ v bits
value_given t g vs l v h bits a = get_or_from_slice_get (function_of t g.level g.at vs).values (number_of bits) (v bits) (pos 0) (h.values bits a)

-- it gives the same as the table grows
pub gives_kept : (t u : Levels) → IsGood t → Extends t u → (g : Gid) (vs : List ℤ) (l : ℕ) (value : List Bool → Option ℤ) → Gives t g vs l value → Gives u g vs l value
gives_kept t u good x g vs l value h =
    let same : pattern u g.level g.at ≡ pattern t g.level g.at = pattern_kept t u good x g.level g.at h.there in
    record {
      level = h.level;
      there = omega (arith, h.there, x.more g.level);
      valued = h.valued ∙ sym (exits_kept t u x g.level g.at h.there);
      values = λ bits a. ap (λ (p : List ℕ). slice_get (map (λ exit. get_or vs exit (pos 0)) p) (number_of bits)) same ∙ h.values bits a;
    }

-- What is known of two factors of a named matrix of the level above `l`, in one table.
pub record NamedFactors (t : Levels) (matrix first second : Named) (f : Gid) (left : List ℤ) (g : Gid) (right : List ℤ) (l : ℕ) : Type 0 where
  pub law : (bits : List Bool) → IsAssignment (suc l) bits → named_value matrix bits ≡ named_value first (first_half bits) *ℤ named_value second (second_half bits)
  pub first_gives : Gives t f left l (λ bits. Some (named_value first bits))
  pub second_gives : Gives t g right l (λ bits. Some (named_value second bits))

abbrev pub factor_value : Levels → Gid → List ℤ → Gid → List ℤ → List Bool → Option ℤ
factor_value t f left g right = kronecker (value_by t f left) (value_by t g right)

product_is : (t : Levels) (matrix first second : Named) (f : Gid) (left : List ℤ) (g : Gid) (right : List ℤ) (l : ℕ) → NamedFactors t matrix first second f left g right l
    → (bits : List Bool) → IsAssignment (suc l) bits → factor_value t f left g right bits ≡ Some (named_value matrix bits)
product_is t matrix first second f left g right l k bits a =
    let h = half_level l bits a in
    ap (λ (x : ℤ). fitting (x *ℤ value_by t g right (second_half bits))) (value_given t f left l (named_value first) k.first_gives (first_half bits) h.0)
    ∙ ap (λ (y : ℤ). fitting (named_value first (first_half bits) *ℤ y)) (value_given t g right l (named_value second) k.second_gives (second_half bits) h.1)
    ∙ ap fitting (sym (k.law bits a)) ∙ fitting_there (named_value matrix bits) (named_fits matrix bits)

-- their product has a value everywhere
pub product_all : (t : Levels) (matrix first second : Named) (f : Gid) (left : List ℤ) (g : Gid) (right : List ℤ) (l : ℕ) → NamedFactors t matrix first second f left g right l → HasAll (suc f.level) (factor_value t f left g right)
product_all t matrix first second f left g right l k bits a n =
    none-some (named_value matrix bits) (sym n ∙ product_is t matrix first second f left g right l k bits (subst (λ (m : ℕ). IsAssignment (suc m) bits) k.first_gives.level a))

-- and is the matrix
pub named_made : (t : Levels) (matrix first second : Named) (f : Gid) (left : List ℤ) (g : Gid) (right : List ℤ) (l level : ℕ) → NamedFactors t matrix first second f left g right l → suc l ≡ level
    → (w : Levels) (r : Gid) (vs : List ℤ) → Gives w r vs (suc f.level) (factor_value t f left g right) → Gives w r vs level (λ bits. Some (named_value matrix bits))
named_made t matrix first second f left g right l level k e w r vs h =
    let up : suc f.level ≡ level = ap suc k.first_gives.level ∙ e in
    record {
      level = h.level ∙ up;
      there = h.there;
      valued = h.valued;
      values = λ bits a. h.values bits (subst (λ (m : ℕ). IsAssignment m bits) (sym up) a) ∙ product_is t matrix first second f left g right l k bits (subst (λ (m : ℕ). IsAssignment m bits) (sym e) a);
    }

-- the law of the factors, by the level below
pub law_below : (matrix first second : Named) (l level : ℕ) → suc l ≡ level → ((bits : List Bool) → IsAssignment level bits → named_value matrix bits ≡ named_value first (first_half bits) *ℤ named_value second (second_half bits))
    → (bits : List Bool) → IsAssignment (suc l) bits → named_value matrix bits ≡ named_value first (first_half bits) *ℤ named_value second (second_half bits)
law_below matrix first second l level e h bits a = h bits (subst (λ (m : ℕ). IsAssignment m bits) e a)

-- the derived test of two named matrices
same_number : (a b : ℕ) → nat_eq a b ≡ true → a ≡ b
same_number a b h = grind (arith, nat_tests)

both_same : (a b : Bool) → (a && b) ≡ true → (a ≡ true) × (b ≡ true)
both_same true b h = (refl, h)
both_same false b h = cc

abbrev one_at : ℕ → ℕ → Named
one_at r c = UnitAt r c

pub same_named : (p q : Named) → eq.eq-value.it p q ≡ true → p ≡ q
same_named Identity Identity h = refl
same_named Identity Walsh h = cc
same_named Identity (UnitAt r c) h = cc
same_named Walsh Identity h = cc
same_named Walsh Walsh h = refl
same_named Walsh (UnitAt r c) h = cc
same_named (UnitAt r c) Identity h = cc
same_named (UnitAt r c) Walsh h = cc
same_named (UnitAt r c) (UnitAt s d) h =
    let two = both_same (nat_eq r s) (nat_eq c d) h in
    ap (λ (n : ℕ). one_at n c) (same_number r s two.0) ∙ ap (one_at s) (same_number c d two.1)

-- the entries of level 1
abbrev pub entries_of : Named → Bool → List ℤ
entries_of matrix row = named_value matrix (row ∷ false ∷ []) ∷ named_value matrix (row ∷ true ∷ []) ∷ []

abbrev pub fork : Gid
fork = record { level = 0; at = 1 }

entry_there : (matrix : Named) (bits : List Bool) → length bits ≡ 2
    → slice_get (named_value matrix (false ∷ false ∷ []) ∷ named_value matrix (false ∷ true ∷ []) ∷ named_value matrix (true ∷ false ∷ []) ∷ named_value matrix (true ∷ true ∷ []) ∷ []) (number_of bits) ≡ Some (named_value matrix bits)
entry_there matrix [] e = absurd (omega (arith, e))
entry_there matrix (a ∷ []) e = absurd (omega (arith, e))
entry_there matrix (false ∷ false ∷ []) e = refl
entry_there matrix (false ∷ true ∷ []) e = refl
entry_there matrix (true ∷ false ∷ []) e = refl
entry_there matrix (true ∷ true ∷ []) e = refl
entry_there matrix (a ∷ b ∷ c ∷ more) e = absurd (omega (arith, e))

-- what is assembled of them
pub base_given : (t w : Levels) → IsGood w → (matrix : Named) (rows : List (Gid × List ℤ)) (r : Gid) (ds : List ℤ) → rows ≡ (fork, entries_of matrix false) ∷ (fork, entries_of matrix true) ∷ []
    → HasCanon w r 1 (labels_over (pattern t 0) 1 (map row_of rows)) ds → Gives w r ds 1 (λ bits. Some (named_value matrix bits))
base_given t w good matrix rows r ds e c =
    let given : List (Gid × List ℤ) = (fork, entries_of matrix false) ∷ (fork, entries_of matrix true) ∷ [] in
    let v : Bool → Bool → ℤ = λ a b. named_value matrix (a ∷ b ∷ []) in
    let read : labels_over (pattern t 0) 1 (map row_of rows) ≡ v false false ∷ v false true ∷ v true false ∷ v true true ∷ [] =
    ap (λ (rs : List (Gid × List ℤ)). labels_over (pattern t 0) 1 (map row_of rs)) e ∙ fork_labels t (v false false) (v false true) (v true false) (v true true) in
    canon_gives w good r ds 1 (v false false ∷ v false true ∷ v true false ∷ v true true ∷ []) (λ bits. Some (named_value matrix bits)) (subst (λ (all : List ℤ). HasCanon w r 1 all ds) read c)
    (λ bits a. (named_value matrix bits, entry_there matrix bits a, refl))

-- the factors of the identity, of the Walsh matrix, and of a matrix with one 1
two_above : (level : ℕ) → 2 ≤ level → suc (suc (level - 2)) ≡ level
two_above level h = omega (arith, h)

pub identity_factors : (level : ℕ) → 2 ≤ level → (bits : List Bool) → IsAssignment level bits → identity bits ≡ identity (first_half bits) *ℤ identity (second_half bits)
identity_factors level h bits a = identity_halves (level - 2) bits (subst (λ (l : ℕ). IsAssignment l bits) (sym (two_above level h)) a)

pub walsh_factors : (level : ℕ) → 2 ≤ level → (bits : List Bool) → IsAssignment level bits → walsh bits ≡ walsh (first_half bits) *ℤ walsh (second_half bits)
walsh_factors level h bits a = walsh_halves (level - 2) bits (subst (λ (l : ℕ). IsAssignment l bits) (sym (two_above level h)) a)

pub unit_factors : (level size r c : ℕ) → 2 ≤ level → size ≡ 2 ^ (2 ^ (level - 2)) → (bits : List Bool) → IsAssignment level bits
    → unit r c bits ≡ unit (r / size) (c / size) (first_half bits) *ℤ unit (r % size) (c % size) (second_half bits)
unit_factors level size r c h e bits a =
    subst (λ (s : ℕ). unit r c bits ≡ unit (r / s) (c / s) (first_half bits) *ℤ unit (r % s) (c % s) (second_half bits)) (sym e)
    (unit_halves (level - 2) r c bits (subst (λ (l : ℕ). IsAssignment l bits) (sym (two_above level h)) a))

pub none_some : (x : Option ℤ) (z : ℤ) → Some z ≡ x → x ≡ None → ⊥
none_some x z e n = cc

-- what has values everywhere has no least assignment without one
pub never : (l : ℕ) (v : List Bool → Option ℤ) (x : List Bool → ℤ) (at : List Bool) → IsLeastWithout l v at → ((bits : List Bool) → IsAssignment l bits → v bits ≡ Some (x bits)) → ⊥
never l v x at h same = none_some (v at) (x at) (sym (same at h.assigns)) h.has

pub all_never : (l : ℕ) (v : List Bool → Option ℤ) (at : List Bool) → IsLeastWithout l v at → HasAll l v → ⊥
all_never l v at h all = all at h.assigns h.has

pub ok_same : {E : Type 0} (r s : Func) → ◌≡◌ {A = Result Func E} (Ok r) (Ok s) → r ≡ s
ok_same r s e = cc

pub no_ok : {E : Type 0} (s : Func) (fault : E) → ◌≡◌ {A = Result Func E} (Err fault) (Ok s) → ⊥
no_ok s fault e = cc
