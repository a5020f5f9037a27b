-- Expressions that are kept, and some that aren't.
use Rattle.std.proofs.Common.{ℕ, ℤ, pos, true, false, List, [], ◌∷◌, refl, arith}
use Rattle.cf_model.specs.declared.terms.Word1.TheVariants.{Not}
use Rattle.cf_model.specs.declared.terms.Word2.TheVariants.{Minus, And, Or}
use Rattle.cf_ops.specs.Operations.{of_one, of_two}
use Rattle.cf_pkg.specs.declared.Func.{Func}
use Rattle.cf_pkg.specs.Tasks as task
use Rattle.cf_pkg.specs.Packages.{IsRemembered}
use Rattle.cf_reference.specs.declared.grammar.Head.TheVariants.{Const, One, Fold, Restrict, Exists}
use Rattle.cf_reference.specs.Trees.{Num, Named, Call, none, more, atom, Number, Position}
use Rattle.cf_session.specs.declared.values.Value.TheVariants as value
use Rattle.cf_session.specs.Sessions.{Held, nothing_held, StandsFor}
use Rattle.cf_session.specs.Keeping.{IsKept}

-- a name: it has no job
name_kept : (h : Held) (name : List ℕ) (f : Func) → StandsFor h name f → IsKept h (Named name) f
name_kept h name f a = a

-- not(A)
not_kept : (h : Held) (name : List ℕ) (f r : Func) → StandsFor h name f → IsRemembered h.pkg (task.Map (of_one Not) f) r
    → IsKept h (Call (One Not) (more (Named name) none)) r
not_kept h name f r a j = (value.Function f ∷ [], (a, tt), (task.Map (of_one Not) f, refl, j))

-- minus(A, B): its job has the functions in this order
minus_kept : (h : Held) (first second : List ℕ) (f g r : Func) → StandsFor h first f → StandsFor h second g
    → IsRemembered h.pkg (task.Apply (of_two Minus) f g) r → IsKept h (Call (Fold Minus) (more (Named first) (more (Named second) none))) r
minus_kept h first second f g r a b j =
    (value.Function f ∷ value.Function g ∷ [], (a, (b, tt)), (r, (task.Apply (of_two Minus) f g, refl, j), refl))

-- and(A, B, C): the first two's job, and its function's with the third
and_kept : (h : Held) (first second third : List ℕ) (f g k step r : Func) → StandsFor h first f → StandsFor h second g → StandsFor h third k
    → IsRemembered h.pkg (task.Apply (of_two And) f g) step → IsRemembered h.pkg (task.Apply (of_two And) step k) r
    → IsKept h (Call (Fold And) (more (Named first) (more (Named second) (more (Named third) none)))) r
and_kept h first second third f g k step r a b c i j = (
  value.Function f ∷ value.Function g ∷ value.Function k ∷ [],
  (a, (b, (c, tt))),
  (step, (task.Apply (of_two And) f g, refl, i), (r, (task.Apply (of_two And) step k, refl, j), refl)),
)

-- const(2, 5), whatever the session's level is
const_kept : (h : Held) (r : Func) → IsRemembered h.pkg (task.Const 2 (pos 5)) r → IsKept h (Call Const (atom (Number (pos 2)) (atom (Number (pos 5)) none))) r
const_kept h r j = (value.Number (pos 2) ∷ value.Number (pos 5) ∷ [], (refl, (refl, tt)), (task.Const 2 (pos 5), refl, j))

-- restrict(A, @1, 0)
restrict_kept : (h : Held) (name : List ℕ) (f r : Func) → StandsFor h name f → IsRemembered h.pkg (task.Restrict f 1 false) r
    → IsKept h (Call Restrict (more (Named name) (atom (Position (pos 1)) (atom (Number (pos 0)) none)))) r
restrict_kept h name f r a j =
    (value.Function f ∷ value.Position (pos 1) ∷ value.Number (pos 0) ∷ [], (a, (record { walked = refl; is_it = refl }, (refl, tt))), (task.Restrict f 1 false, refl, j))

-- exists(A, @0): both restrictions, and the `or` of their functions
exists_kept : (h : Held) (name : List ℕ) (f low high r : Func) → StandsFor h name f → IsRemembered h.pkg (task.Restrict f 0 false) low → IsRemembered h.pkg (task.Restrict f 0 true) high
    → IsRemembered h.pkg (task.Apply (of_two Or) low high) r → IsKept h (Call Exists (more (Named name) (atom (Position (pos 0)) none))) r
exists_kept h name f low high r a i j k = (
  value.Function f ∷ value.Position (pos 0) ∷ [],
  (a, (record { walked = refl; is_it = refl }, tt)),
  (r, record { low = low; high = high; low_is = i; high_is = j; joined_is = k }, refl),
)

-- In a new session no number is kept.
number_is_not : (n : ℤ) (f : Func) → IsKept nothing_held (Num n) f → ⊥
number_is_not n f h = omega (arith, h.1)
