-- Where products of matrices overflow.
use Rattle.std.proofs.Common.{ℤ, ◌≡◌, suc, ◌+◌, ◌-◌, ◌^◌, ◌*ℤ◌, Bool, List, Some, refl, ap, subst, ◌∙◌, arith}
use Rattle.cf_model.specs.Assignments.{first_half, second_half, row_of, column_of}
use Rattle.cf_model.specs.Matrices.{kronecker, product, products}
use Rattle.cf_model.proofs.MatrixLaws.{bounded_sum-fits}
use Rattle.cf_model.proofs.TermLaws.{fitting-some}
use Rattle.cf_pkg.specs.declared.Func.{Func}
use Rattle.cf_pkg.specs.Packages.{Package, meaning}
use Rattle.cf_pkg.specs.Jobs.{IsLeastWithout, value_in}
use Rattle.cf_reference.specs.declared.grammar.Head.TheVariants.{Kron, Matmul}
use Rattle.cf_reference.specs.States.{at}
use Rattle.cf_reference.specs.Failures.{first_failure}
use Rattle.cf_session.specs.declared.faults.StepFault.{StepFault}
use Rattle.cf_session.specs.Building.{IsFault}
use Rattle.cf_session.specs.Sessions.{Held}
use Rattle.cf_session.specs.Values.{call_parts}
use Rattle.cf_session.proofs.Jobs.{job_fails, two}
use Rattle.cf_session.proofs.VariableLaws.{at_same}

kron_fails : (p : Package) (f g : Func) (fault : StepFault) → IsFault (IsLeastWithout (suc f.head.level) (kronecker (value_in p f) (value_in p g))) fault
    → IsFault (λ bits. first_failure (call_parts Kron (two p f g)) ≡ Some bits) fault
kron_fails p f g =
    let up : suc f.head.level ≡ f.head.level + 1 = omega arith in
    job_fails Kron (two p f g) (suc f.head.level) (kronecker (value_in p f) (value_in p g)) up
    (λ bits. ap (λ (x : List Bool → ℤ). kronecker x (value_in p g) bits) (at_same p f) ∙ ap (λ (y : List Bool → ℤ). kronecker (at (meaning p f)) y bits) (at_same p g))
    (λ bits v a e. (fitting-some (at (meaning p f) (first_half bits) *ℤ at (meaning p g) (second_half bits)) v e).1) refl

matmul_fails : (p : Package) (f g : Func) (fault : StepFault) → IsFault (IsLeastWithout f.head.level (product (2 ^ (f.head.level - 1)) (value_in p f) (value_in p g))) fault
    → IsFault (λ bits. first_failure (call_parts Matmul (two p f g)) ≡ Some bits) fault
matmul_fails p f g =
    let n = 2 ^ (f.head.level - 1) in
    job_fails Matmul (two p f g) f.head.level (product n (value_in p f) (value_in p g)) refl
    (λ bits. ap (λ (x : List Bool → ℤ). product n x (value_in p g) bits) (at_same p f) ∙ ap (λ (y : List Bool → ℤ). product n (at (meaning p f)) y bits) (at_same p g))
    (λ bits v a e. bounded_sum-fits (products n (at (meaning p f)) (at (meaning p g)) (row_of bits) (column_of bits)) v e) refl

-- the same of a session's package
pub kron_fails_in : (h s : Held) → h ≡ s → (f g : Func) (fault : StepFault) → IsFault (IsLeastWithout (suc f.head.level) (kronecker (value_in h.pkg f) (value_in h.pkg g))) fault
    → IsFault (λ bits. first_failure (call_parts Kron (two s.pkg f g)) ≡ Some bits) fault
kron_fails_in h s same f g fault over =
    kron_fails s.pkg f g fault (subst (λ (x : Held). IsFault (IsLeastWithout (suc f.head.level) (kronecker (value_in x.pkg f) (value_in x.pkg g))) fault) same over)

pub matmul_fails_in : (h s : Held) → h ≡ s → (f g : Func) (fault : StepFault) → IsFault (IsLeastWithout f.head.level (product (2 ^ (f.head.level - 1)) (value_in h.pkg f) (value_in h.pkg g))) fault
    → IsFault (λ bits. first_failure (call_parts Matmul (two s.pkg f g)) ≡ Some bits) fault
matmul_fails_in h s same f g fault over =
    matmul_fails s.pkg f g fault (subst (λ (x : Held). IsFault (IsLeastWithout f.head.level (product (2 ^ (f.head.level - 1)) (value_in x.pkg f) (value_in x.pkg g))) fault) same over)
