use Rattle.std.specs.Prelude.{◌≡◌, nat_abs, is_some, List, [], ◌∷◌, Option, Some, None, Result, Ok, Err, IfOk, IfErr}
use Rattle.std.specs.Option.{option_or}
use Rattle.cf_model.specs.Terms.{is_true}
use Rattle.cf_model.specs.declared.terms.Word2.TheVariants.{And, Or, Plus}
use Rattle.cf_ops.specs.Operations.{of_one, of_two, of_three}
use Rattle.cf_pkg.specs.declared.Func.{Func}
use Rattle.cf_pkg.specs.Tasks.{Task}
use Rattle.cf_pkg.specs.Tasks as task
use Rattle.cf_pkg.specs.Packages.{Package, IsRemembered}
use Rattle.cf_pkg.specs.Jobs.{AnswersFinished}
use Rattle.cf_restrict.specs.Quantified.{AreQuantified, IsComposed, IsJoined}
use Rattle.cf_reference.specs.declared.grammar.Head.{Head}
use Rattle.cf_reference.specs.declared.grammar.Head.TheVariants.{Const, One, Fold, Ite, Restrict, Exists, Forall, SumOut, Compose, AndExists, Kron, Matmul, Transpose, Id, Walsh, Unit as UnitAt}
use Rattle.cf_reference.specs.Trees.{Tree, Num, At, Named, Call, Arguments, none, more, atom}
use Rattle.cf_reference.specs.Calls as means
use Rattle.cf_reference.specs.Reasons.{NoLevel, unless}
use Rattle.cf_reference.specs.States.{State, level_in}
use Rattle.cf_reference.specs.Expressions.{meant_atom, walk}
use Rattle.cf_session.specs.declared.faults.StepFault.{StepFault}
use Rattle.cf_session.specs.declared.faults.StepFault.TheVariants.{NoMemory, Refused}
use Rattle.cf_session.specs.declared.values.Value.{Value}
use Rattle.cf_session.specs.declared.values.Value.TheVariants.{Function, Position, Number}
use Rattle.cf_session.specs.Faults.{reason_of}
use Rattle.cf_session.specs.Sessions.{Held, state_of, StandsFor}
use Rattle.cf_session.specs.Values.{places_of}
use Rattle.cf_session.specs.Walks.{HasPosition}

-- An expression is built by these jobs, in reading order: a number or `const` is `Const`; `@i` is `Var`; `not` and `neg`
-- are `Map` with the word's tree; each step of a fold is `Apply` with the word's tree; `ite` is `Ternary` with the
-- choice's tree; `restrict` is `Restrict`; `kron`, `matmul`, `transpose`, `id`, `walsh` and `unit` are the jobs of these
-- names. `exists`, `forall` and `sumout` are for each variable in turn both
-- restrictions, and `Apply` with the tree of `or`, `and` or `plus`; `andexists` is `Apply` with the tree of `and`, and
-- then as `exists`; `compose` is both restrictions and `Ternary` with the choice's tree. A name has none. The jobs are
-- taken in a session: level and positions are those of the session's state, a name's function is the one that it stands
-- for, and an earlier job's function is the one that the memo gives for it. An expression is kept if each of its jobs,
-- taken so, is in the memo of the session's package.

-- the job of a head on values, of two functions for a fold, where the head has one job
abbrev pub call_task : Head → List Value → Option Task
call_task Const (Number level ∷ Number n ∷ []) = Some (task.Const (nat_abs level) n)
call_task (One word) (Function f ∷ []) = Some (task.Map (of_one word) f)
call_task (Fold word) (Function f ∷ Function g ∷ []) = Some (task.Apply (of_two word) f g)
call_task Ite (Function f ∷ Function g ∷ Function h ∷ []) = Some (task.Ternary of_three f g h)
call_task Restrict (Function f ∷ Position i ∷ Number b ∷ []) = Some (task.Restrict f (nat_abs i) (is_true b))
call_task Kron (Function f ∷ Function g ∷ []) = Some (task.Kron f g)
call_task Matmul (Function f ∷ Function g ∷ []) = Some (task.Matmul f g)
call_task Transpose (Function f ∷ []) = Some (task.Transpose f)
call_task Id (Number level ∷ []) = Some (task.Id (nat_abs level))
call_task Walsh (Number level ∷ []) = Some (task.Walsh (nat_abs level))
call_task UnitAt (Number level ∷ Number row ∷ Number col ∷ []) =
    Some (task.UnitAt (nat_abs level) (nat_abs row) (nat_abs col))
call_task head others = None

-- The job of a head on values is remembered, with this function, or each of its jobs, with this function at the end.
abbrev pub IsJobKept : Package → Head → List Value → Func → Type 0
IsJobKept p Exists (Function f ∷ Position i ∷ vars) r = AreQuantified p Or f (nat_abs i ∷ places_of vars) r
IsJobKept p Forall (Function f ∷ Position i ∷ vars) r = AreQuantified p And f (nat_abs i ∷ places_of vars) r
IsJobKept p SumOut (Function f ∷ Position i ∷ vars) r = AreQuantified p Plus f (nat_abs i ∷ places_of vars) r
IsJobKept p Compose (Function f ∷ Position i ∷ Function g ∷ []) r = IsComposed p f (nat_abs i) g r
IsJobKept p AndExists (Function f ∷ Function g ∷ Position i ∷ vars) r = IsJoined p f g (nat_abs i ∷ places_of vars) r
IsJobKept p head args r = (t : Task) × (call_task head args ≡ Some t) × IsRemembered p t r

-- The steps of nested calls are remembered: the function so far and the next value give the next function, and the last one
-- is r.
abbrev pub AreStepsKept : Package → Head → Func → List Value → Func → Type 0
AreStepsKept p head f [] r = r ≡ f
AreStepsKept p head f (v ∷ later) r =
    (step : Func) × IsJobKept p head (Function f ∷ v ∷ []) step × AreStepsKept p head step later r

-- The jobs of a call on these values are remembered, and r is the function of the last: the steps of a fold, or the jobs
-- of another head.
abbrev pub IsCallKept : Package → Head → List Value → Func → Type 0
IsCallKept p (Fold word) (Function f ∷ later) r = AreStepsKept p (Fold word) f later r
IsCallKept p (Fold word) others r = ⊥
IsCallKept p head args r = IsJobKept p head args r

abbrev mutual
  -- Each job of an expression is remembered in the session's package, and f is its function.
  pub IsKept : Held → Tree → Func → Type 0
  IsKept h (Num n) f = IsRemembered h.pkg (task.Const (level_in (state_of h)) n) f
  IsKept h (At i) f = IsRemembered h.pkg (task.Var (level_in (state_of h)) (nat_abs i)) f
  IsKept h (Named name) f = StandsFor h name f
  IsKept h (Call head es) f = (args : List Value) × AreKept h es args × IsCallKept h.pkg head args f

  -- The arguments of a call come to these values: an expression that is kept to its function, an atom to what it means.
  pub AreKept : Held → Arguments → List Value → Type 0
  AreKept h none [] = Unit {0}
  AreKept h none (v ∷ later) = ⊥
  AreKept h (more e es) (Function f ∷ later) = IsKept h e f × AreKept h es later
  AreKept h (more e es) others = ⊥
  AreKept h (atom a es) (Position i ∷ later) = HasPosition (state_of h) a i × AreKept h es later
  AreKept h (atom a es) (Number n ∷ later) = (meant_atom (state_of h) a ≡ means.Number n) × AreKept h es later
  AreKept h (atom a es) others = ⊥

-- Where the job was remembered in the session's package, the answer is its function, and the package is as it was.
abbrev pub AnswersJob : {E : Type 0} → (before now : Held) → Task → Result Func E → Type 0
AnswersJob before now t result = AnswersFinished before.pkg now.pkg t result

-- The answer is the function or that there was no memory, and nothing changed.
abbrev pub Repeats : (before now : Held) → Func → Result Func StepFault → Type 0
Repeats before now f (Ok g) = (g ≡ f) × (now ≡ before)
Repeats before now f (Err NoMemory) = now ≡ before
Repeats before now f (Err (Refused r)) = ⊥

-- Where the jobs of a call were remembered, their function is answered, unless there is no memory for the list of its
-- variables, and nothing changed.
abbrev pub AnswersCall : (before now : Held) → Head → List Value → Result Func StepFault → Type 0
AnswersCall before now head args result =
    (f : Func) → IsJobKept before.pkg head args f → Repeats before now f result

-- Where an expression was kept that nothing but overflow can refuse, its function is answered, unless there is no memory
-- for the list of its arguments, and nothing changed.
abbrev pub AnswersKept : (before now : Held) → Tree → Result Func StepFault → Type 0
AnswersKept before now e result = (f : Func) → IsKept before e f → Repeats before now f result

-- There was no memory, or the expression is refused before any job: there is no level, or the walk refuses it.
abbrev pub IsFaultOfKept : State → Tree → StepFault → Type 0
IsFaultOfKept s e NoMemory = Unit {0}
IsFaultOfKept s e (Refused r) = option_or (unless (is_some s.level) NoLevel) (walk s e) ≡ Some (reason_of r)

-- What a kept expression is answered: on any answer no grouping, no tuple, no list of values and no job was added, since the
-- session is as it was; an Ok is the function, and no part of the expression overflows.
pub record IsRepeat (before now : Held) (e : Tree) (f : Func) (result : Result Func StepFault) : Type 0 where
  pub same : now ≡ before
  pub is_it : IfOk result (λ g. g ≡ f)
  pub fault : IfErr result (IsFaultOfKept (state_of before) e)

-- the same of an expression wherever it was kept
abbrev pub AnswersAgain : (before now : Held) → Tree → Result Func StepFault → Type 0
AnswersAgain before now e result = (f : Func) → IsKept before e f → IsRepeat before now e f result
