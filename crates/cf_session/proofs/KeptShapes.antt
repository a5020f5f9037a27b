-- The values of a call whose jobs are remembered, by its head.
use Rattle.std.proofs.Common.{ℤ, ◌≡◌, List, [], ◌∷◌, Some, refl, sym, subst, ◌∙◌}
use Rattle.std.specs.Prelude.{nat_abs}
use Rattle.std.proofs.lemmas.Option.{same_Some, none-some}
use Rattle.cf_model.specs.Terms.{is_true}
use Rattle.cf_model.specs.declared.terms.Word2.TheVariants.{And, Or, Plus}
use Rattle.cf_pkg.specs.declared.Func.{Func}
use Rattle.cf_pkg.specs.Tasks.{Task}
use Rattle.cf_pkg.specs.Tasks as task
use Rattle.cf_pkg.specs.Packages.{Package, IsRemembered}
use Rattle.cf_restrict.specs.Quantified.{AreQuantified, IsComposed, IsJoined}
use Rattle.cf_reference.specs.declared.grammar.Head.{Head}
use Rattle.cf_reference.specs.declared.grammar.Head.TheVariants.{Const, One, Fold, Ite, Restrict, Exists, Forall, SumOut, Compose, AndExists, Kron, Matmul, Transpose, Id, Walsh, Unit as UnitAt}
use Rattle.cf_session.specs.declared.values.Value.{Value}
use Rattle.cf_session.specs.declared.values.Value.TheVariants.{Function, Position, Number}
use Rattle.cf_session.specs.Values.{places_of}
use Rattle.cf_session.specs.Keeping.{call_task, IsJobKept}

-- the one job of a head that has one
pub task_kept : (p : Package) (head : Head) (args : List Value) (t : Task) (r : Func) → call_task head args ≡ Some t → IsJobKept p head args r → IsRemembered p t r
task_kept p Const args t r e j = subst (λ x. IsRemembered p x r) (sym (same_Some t j.0 (sym e ∙ j.1))) j.2
task_kept p (One word) args t r e j = subst (λ x. IsRemembered p x r) (sym (same_Some t j.0 (sym e ∙ j.1))) j.2
task_kept p (Fold word) args t r e j = subst (λ x. IsRemembered p x r) (sym (same_Some t j.0 (sym e ∙ j.1))) j.2
task_kept p Ite args t r e j = subst (λ x. IsRemembered p x r) (sym (same_Some t j.0 (sym e ∙ j.1))) j.2
task_kept p Restrict args t r e j = subst (λ x. IsRemembered p x r) (sym (same_Some t j.0 (sym e ∙ j.1))) j.2
task_kept p Exists args t r e j = absurd (none-some t e)
task_kept p Forall args t r e j = absurd (none-some t e)
task_kept p SumOut args t r e j = absurd (none-some t e)
task_kept p Compose args t r e j = absurd (none-some t e)
task_kept p AndExists args t r e j = absurd (none-some t e)
task_kept p Kron args t r e j = subst (λ x. IsRemembered p x r) (sym (same_Some t j.0 (sym e ∙ j.1))) j.2
task_kept p Matmul args t r e j = subst (λ x. IsRemembered p x r) (sym (same_Some t j.0 (sym e ∙ j.1))) j.2
task_kept p Transpose args t r e j = subst (λ x. IsRemembered p x r) (sym (same_Some t j.0 (sym e ∙ j.1))) j.2
task_kept p Id args t r e j = subst (λ x. IsRemembered p x r) (sym (same_Some t j.0 (sym e ∙ j.1))) j.2
task_kept p Walsh args t r e j = subst (λ x. IsRemembered p x r) (sym (same_Some t j.0 (sym e ∙ j.1))) j.2
task_kept p UnitAt args t r e j = subst (λ x. IsRemembered p x r) (sym (same_Some t j.0 (sym e ∙ j.1))) j.2

pub kept_task : (p : Package) (head : Head) (args : List Value) (t : Task) (r : Func) → call_task head args ≡ Some t → IsRemembered p t r → IsJobKept p head args r
kept_task p Const args t r e k = (t, e, k)
kept_task p (One word) args t r e k = (t, e, k)
kept_task p (Fold word) args t r e k = (t, e, k)
kept_task p Ite args t r e k = (t, e, k)
kept_task p Restrict args t r e k = (t, e, k)
kept_task p Exists args t r e k = absurd (none-some t e)
kept_task p Forall args t r e k = absurd (none-some t e)
kept_task p SumOut args t r e k = absurd (none-some t e)
kept_task p Compose args t r e k = absurd (none-some t e)
kept_task p AndExists args t r e k = absurd (none-some t e)
kept_task p Kron args t r e k = (t, e, k)
kept_task p Matmul args t r e k = (t, e, k)
kept_task p Transpose args t r e k = (t, e, k)
kept_task p Id args t r e k = (t, e, k)
kept_task p Walsh args t r e k = (t, e, k)
kept_task p UnitAt args t r e k = (t, e, k)

-- a function, and variables behind it
pub record OverVariables (args : List Value) : Type 0 where
  pub f : Func
  pub i : ℤ
  pub vars : List Value
  pub are : args ≡ Function f ∷ Position i ∷ vars

pub exists_shape : (p : Package) (args : List Value) (r : Func) → IsJobKept p Exists args r → (s : OverVariables args) × AreQuantified p Or s.f (nat_abs s.i ∷ places_of s.vars) r
exists_shape p [] r k = absurd (none-some k.0 k.1)
exists_shape p (Position i ∷ vars) r k = absurd (none-some k.0 k.1)
exists_shape p (Number n ∷ vars) r k = absurd (none-some k.0 k.1)
exists_shape p (Function f ∷ []) r k = absurd (none-some k.0 k.1)
exists_shape p (Function f ∷ Function g ∷ vars) r k = absurd (none-some k.0 k.1)
exists_shape p (Function f ∷ Number n ∷ vars) r k = absurd (none-some k.0 k.1)
exists_shape p (Function f ∷ Position i ∷ vars) r k = (record { f = f; i = i; vars = vars; are = refl }, k)

pub forall_shape : (p : Package) (args : List Value) (r : Func) → IsJobKept p Forall args r → (s : OverVariables args) × AreQuantified p And s.f (nat_abs s.i ∷ places_of s.vars) r
forall_shape p [] r k = absurd (none-some k.0 k.1)
forall_shape p (Position i ∷ vars) r k = absurd (none-some k.0 k.1)
forall_shape p (Number n ∷ vars) r k = absurd (none-some k.0 k.1)
forall_shape p (Function f ∷ []) r k = absurd (none-some k.0 k.1)
forall_shape p (Function f ∷ Function g ∷ vars) r k = absurd (none-some k.0 k.1)
forall_shape p (Function f ∷ Number n ∷ vars) r k = absurd (none-some k.0 k.1)
forall_shape p (Function f ∷ Position i ∷ vars) r k = (record { f = f; i = i; vars = vars; are = refl }, k)

pub sum_shape : (p : Package) (args : List Value) (r : Func) → IsJobKept p SumOut args r → (s : OverVariables args) × AreQuantified p Plus s.f (nat_abs s.i ∷ places_of s.vars) r
sum_shape p [] r k = absurd (none-some k.0 k.1)
sum_shape p (Position i ∷ vars) r k = absurd (none-some k.0 k.1)
sum_shape p (Number n ∷ vars) r k = absurd (none-some k.0 k.1)
sum_shape p (Function f ∷ []) r k = absurd (none-some k.0 k.1)
sum_shape p (Function f ∷ Function g ∷ vars) r k = absurd (none-some k.0 k.1)
sum_shape p (Function f ∷ Number n ∷ vars) r k = absurd (none-some k.0 k.1)
sum_shape p (Function f ∷ Position i ∷ vars) r k = (record { f = f; i = i; vars = vars; are = refl }, k)

pub restrict_shape : (p : Package) (args : List Value) (r : Func) → IsJobKept p Restrict args r
    → (f : Func) × (i : ℤ) × (n : ℤ) × (args ≡ Function f ∷ Position i ∷ Number n ∷ []) × IsRemembered p (task.Restrict f (nat_abs i) (is_true n)) r
restrict_shape p [] r k = absurd (none-some k.0 k.1)
restrict_shape p (Position i ∷ vars) r k = absurd (none-some k.0 k.1)
restrict_shape p (Number n ∷ vars) r k = absurd (none-some k.0 k.1)
restrict_shape p (Function f ∷ []) r k = absurd (none-some k.0 k.1)
restrict_shape p (Function f ∷ Function g ∷ vars) r k = absurd (none-some k.0 k.1)
restrict_shape p (Function f ∷ Number n ∷ vars) r k = absurd (none-some k.0 k.1)
restrict_shape p (Function f ∷ Position i ∷ []) r k = absurd (none-some k.0 k.1)
restrict_shape p (Function f ∷ Position i ∷ Function g ∷ vars) r k = absurd (none-some k.0 k.1)
restrict_shape p (Function f ∷ Position i ∷ Position j ∷ vars) r k = absurd (none-some k.0 k.1)
restrict_shape p (Function f ∷ Position i ∷ Number n ∷ v ∷ vars) r k = absurd (none-some k.0 k.1)
restrict_shape p (Function f ∷ Position i ∷ Number n ∷ []) r k =
    (f, i, n, refl, task_kept p Restrict (Function f ∷ Position i ∷ Number n ∷ []) (task.Restrict f (nat_abs i) (is_true n)) r refl k)

pub compose_shape : (p : Package) (args : List Value) (r : Func) → IsJobKept p Compose args r
    → (f : Func) × (i : ℤ) × (g : Func) × (args ≡ Function f ∷ Position i ∷ Function g ∷ []) × IsComposed p f (nat_abs i) g r
compose_shape p [] r k = absurd (none-some k.0 k.1)
compose_shape p (Position i ∷ vars) r k = absurd (none-some k.0 k.1)
compose_shape p (Number n ∷ vars) r k = absurd (none-some k.0 k.1)
compose_shape p (Function f ∷ []) r k = absurd (none-some k.0 k.1)
compose_shape p (Function f ∷ Function g ∷ vars) r k = absurd (none-some k.0 k.1)
compose_shape p (Function f ∷ Number n ∷ vars) r k = absurd (none-some k.0 k.1)
compose_shape p (Function f ∷ Position i ∷ []) r k = absurd (none-some k.0 k.1)
compose_shape p (Function f ∷ Position i ∷ Number n ∷ vars) r k = absurd (none-some k.0 k.1)
compose_shape p (Function f ∷ Position i ∷ Position j ∷ vars) r k = absurd (none-some k.0 k.1)
compose_shape p (Function f ∷ Position i ∷ Function g ∷ v ∷ vars) r k = absurd (none-some k.0 k.1)
compose_shape p (Function f ∷ Position i ∷ Function g ∷ []) r k = (f, i, g, refl, k)

-- two functions, and variables behind them
pub joined_shape : (p : Package) (args : List Value) (r : Func) → IsJobKept p AndExists args r
    → (f : Func) × (rest : List Value) × (args ≡ Function f ∷ rest) × (s : OverVariables rest) × IsJoined p f s.f (nat_abs s.i ∷ places_of s.vars) r
joined_shape p [] r k = absurd (none-some k.0 k.1)
joined_shape p (Position i ∷ vars) r k = absurd (none-some k.0 k.1)
joined_shape p (Number n ∷ vars) r k = absurd (none-some k.0 k.1)
joined_shape p (Function f ∷ []) r k = absurd (none-some k.0 k.1)
joined_shape p (Function f ∷ Position i ∷ vars) r k = absurd (none-some k.0 k.1)
joined_shape p (Function f ∷ Number n ∷ vars) r k = absurd (none-some k.0 k.1)
joined_shape p (Function f ∷ Function g ∷ []) r k = absurd (none-some k.0 k.1)
joined_shape p (Function f ∷ Function g ∷ Function x ∷ vars) r k = absurd (none-some k.0 k.1)
joined_shape p (Function f ∷ Function g ∷ Number n ∷ vars) r k = absurd (none-some k.0 k.1)
joined_shape p (Function f ∷ Function g ∷ Position i ∷ vars) r k = (f, Function g ∷ Position i ∷ vars, refl, record { f = g; i = i; vars = vars; are = refl }, k)

pub kron_shape : (p : Package) (args : List Value) (r : Func) → IsJobKept p Kron args r → (f : Func) × (g : Func) × (args ≡ Function f ∷ Function g ∷ []) × IsRemembered p (task.Kron f g) r
kron_shape p [] r k = absurd (none-some k.0 k.1)
kron_shape p (Position i ∷ vars) r k = absurd (none-some k.0 k.1)
kron_shape p (Number n ∷ vars) r k = absurd (none-some k.0 k.1)
kron_shape p (Function f ∷ []) r k = absurd (none-some k.0 k.1)
kron_shape p (Function f ∷ Position i ∷ vars) r k = absurd (none-some k.0 k.1)
kron_shape p (Function f ∷ Number n ∷ vars) r k = absurd (none-some k.0 k.1)
kron_shape p (Function f ∷ Function g ∷ v ∷ vars) r k = absurd (none-some k.0 k.1)
kron_shape p (Function f ∷ Function g ∷ []) r k = (f, g, refl, task_kept p Kron (Function f ∷ Function g ∷ []) (task.Kron f g) r refl k)

pub matmul_shape : (p : Package) (args : List Value) (r : Func) → IsJobKept p Matmul args r → (f : Func) × (g : Func) × (args ≡ Function f ∷ Function g ∷ []) × IsRemembered p (task.Matmul f g) r
matmul_shape p [] r k = absurd (none-some k.0 k.1)
matmul_shape p (Position i ∷ vars) r k = absurd (none-some k.0 k.1)
matmul_shape p (Number n ∷ vars) r k = absurd (none-some k.0 k.1)
matmul_shape p (Function f ∷ []) r k = absurd (none-some k.0 k.1)
matmul_shape p (Function f ∷ Position i ∷ vars) r k = absurd (none-some k.0 k.1)
matmul_shape p (Function f ∷ Number n ∷ vars) r k = absurd (none-some k.0 k.1)
matmul_shape p (Function f ∷ Function g ∷ v ∷ vars) r k = absurd (none-some k.0 k.1)
matmul_shape p (Function f ∷ Function g ∷ []) r k = (f, g, refl, task_kept p Matmul (Function f ∷ Function g ∷ []) (task.Matmul f g) r refl k)

pub transpose_shape : (p : Package) (args : List Value) (r : Func) → IsJobKept p Transpose args r → (f : Func) × (args ≡ Function f ∷ []) × IsRemembered p (task.Transpose f) r
transpose_shape p [] r k = absurd (none-some k.0 k.1)
transpose_shape p (Position i ∷ vars) r k = absurd (none-some k.0 k.1)
transpose_shape p (Number n ∷ vars) r k = absurd (none-some k.0 k.1)
transpose_shape p (Function f ∷ v ∷ vars) r k = absurd (none-some k.0 k.1)
transpose_shape p (Function f ∷ []) r k = (f, refl, task_kept p Transpose (Function f ∷ []) (task.Transpose f) r refl k)

pub id_shape : (p : Package) (args : List Value) (r : Func) → IsJobKept p Id args r → (j : ℤ) × (args ≡ Number j ∷ []) × IsRemembered p (task.Id (nat_abs j)) r
id_shape p [] r k = absurd (none-some k.0 k.1)
id_shape p (Position i ∷ vars) r k = absurd (none-some k.0 k.1)
id_shape p (Function f ∷ vars) r k = absurd (none-some k.0 k.1)
id_shape p (Number j ∷ v ∷ vars) r k = absurd (none-some k.0 k.1)
id_shape p (Number j ∷ []) r k = (j, refl, task_kept p Id (Number j ∷ []) (task.Id (nat_abs j)) r refl k)

pub walsh_shape : (p : Package) (args : List Value) (r : Func) → IsJobKept p Walsh args r → (j : ℤ) × (args ≡ Number j ∷ []) × IsRemembered p (task.Walsh (nat_abs j)) r
walsh_shape p [] r k = absurd (none-some k.0 k.1)
walsh_shape p (Position i ∷ vars) r k = absurd (none-some k.0 k.1)
walsh_shape p (Function f ∷ vars) r k = absurd (none-some k.0 k.1)
walsh_shape p (Number j ∷ v ∷ vars) r k = absurd (none-some k.0 k.1)
walsh_shape p (Number j ∷ []) r k = (j, refl, task_kept p Walsh (Number j ∷ []) (task.Walsh (nat_abs j)) r refl k)

pub unit_shape : (p : Package) (args : List Value) (r : Func) → IsJobKept p UnitAt args r
    → (j : ℤ) × (n : ℤ) × (m : ℤ) × (args ≡ Number j ∷ Number n ∷ Number m ∷ []) × IsRemembered p (task.UnitAt (nat_abs j) (nat_abs n) (nat_abs m)) r
unit_shape p [] r k = absurd (none-some k.0 k.1)
unit_shape p (Position i ∷ vars) r k = absurd (none-some k.0 k.1)
unit_shape p (Function f ∷ vars) r k = absurd (none-some k.0 k.1)
unit_shape p (Number j ∷ []) r k = absurd (none-some k.0 k.1)
unit_shape p (Number j ∷ Position i ∷ vars) r k = absurd (none-some k.0 k.1)
unit_shape p (Number j ∷ Function f ∷ vars) r k = absurd (none-some k.0 k.1)
unit_shape p (Number j ∷ Number n ∷ []) r k = absurd (none-some k.0 k.1)
unit_shape p (Number j ∷ Number n ∷ Position i ∷ vars) r k = absurd (none-some k.0 k.1)
unit_shape p (Number j ∷ Number n ∷ Function f ∷ vars) r k = absurd (none-some k.0 k.1)
unit_shape p (Number j ∷ Number n ∷ Number m ∷ v ∷ vars) r k = absurd (none-some k.0 k.1)
unit_shape p (Number j ∷ Number n ∷ Number m ∷ []) r k =
    (j, n, m, refl, task_kept p UnitAt (Number j ∷ Number n ∷ Number m ∷ []) (task.UnitAt (nat_abs j) (nat_abs n) (nat_abs m)) r refl k)
