-- What calls of matrices mean, and the jobs that give it.
use Rattle.std.proofs.Common.{ℤ, suc, ◌≡◌, ◌+◌, ◌-◌, ◌^◌, Bool, List, [], ◌∷◌, Some, refl, ap, ◌∙◌, arith}
use Rattle.std.specs.Prelude.{nat_abs}
use Rattle.cf_model.specs.FlatFunctions.{IsFlatFunction}
use Rattle.cf_model.specs.Matrices.{kronecker, product, transpose, identity, walsh, unit}
use Rattle.cf_pkg.specs.declared.Func.{Func}
use Rattle.cf_pkg.specs.Packages.{Package, meaning}
use Rattle.cf_pkg.specs.Jobs.{HasValues, value_in}
use Rattle.cf_reference.specs.declared.grammar.Head.TheVariants.{Kron, Matmul, Transpose, Id, Walsh, Unit as UnitAt}
use Rattle.cf_reference.specs.States.{at}
use Rattle.cf_reference.specs.Calls.{Function, Number}
use Rattle.cf_session.specs.Values.{Calls}
use Rattle.cf_session.proofs.Jobs.{job_calls, two}
use Rattle.cf_session.proofs.VariableLaws.{at_same}

pub kron_calls : (p q : Package) (f g r : Func) → HasValues q r (suc f.head.level) (kronecker (value_in p f) (value_in p g)) → IsFlatFunction (meaning q r) → Calls Kron (two p f g) q r
kron_calls p q f g r v flat =
    let up : suc f.head.level ≡ f.head.level + 1 = omega arith in
    job_calls Kron (two p f g) q r (suc f.head.level) _ v flat up
    (λ bits. ap (λ (x : List Bool → ℤ). kronecker x (value_in p g) bits) (at_same p f) ∙ ap (λ (y : List Bool → ℤ). kronecker (at (meaning p f)) y bits) (at_same p g)) refl

pub matmul_calls : (p q : Package) (f g r : Func) → HasValues q r f.head.level (product (2 ^ (f.head.level - 1)) (value_in p f) (value_in p g)) → IsFlatFunction (meaning q r)
    → Calls Matmul (two p f g) q r
matmul_calls p q f g r v flat =
    let n = 2 ^ (f.head.level - 1) in
    job_calls Matmul (two p f g) q r f.head.level _ v flat refl
    (λ bits. ap (λ (x : List Bool → ℤ). product n x (value_in p g) bits) (at_same p f) ∙ ap (λ (y : List Bool → ℤ). product n (at (meaning p f)) y bits) (at_same p g)) refl

pub transpose_calls : (p q : Package) (f r : Func) → HasValues q r f.head.level (λ bits. Some (transpose (value_in p f) bits)) → IsFlatFunction (meaning q r)
    → Calls Transpose (Function (meaning p f) ∷ []) q r
transpose_calls p q f r v flat =
    job_calls Transpose (Function (meaning p f) ∷ []) q r f.head.level _ v flat refl (λ bits. ap (λ (x : List Bool → ℤ). Some (transpose x bits)) (at_same p f)) refl

pub id_calls : (q : Package) (r : Func) (j : ℤ) → HasValues q r (nat_abs j) (λ bits. Some (identity bits)) → IsFlatFunction (meaning q r) → Calls Id (Number j ∷ []) q r
id_calls q r j v flat = job_calls Id (Number j ∷ []) q r (nat_abs j) _ v flat refl (λ bits. refl) refl

pub walsh_calls : (q : Package) (r : Func) (j : ℤ) → HasValues q r (nat_abs j) (λ bits. Some (walsh bits)) → IsFlatFunction (meaning q r) → Calls Walsh (Number j ∷ []) q r
walsh_calls q r j v flat = job_calls Walsh (Number j ∷ []) q r (nat_abs j) _ v flat refl (λ bits. refl) refl

pub unit_calls : (q : Package) (r : Func) (j n m : ℤ) → HasValues q r (nat_abs j) (λ bits. Some (unit (nat_abs n) (nat_abs m) bits)) → IsFlatFunction (meaning q r)
    → Calls UnitAt (Number j ∷ Number n ∷ Number m ∷ []) q r
unit_calls q r j n m v flat = job_calls UnitAt (Number j ∷ Number n ∷ Number m ∷ []) q r (nat_abs j) _ v flat refl (λ bits. refl) refl
