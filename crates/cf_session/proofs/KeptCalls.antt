-- What is kept of a call, argument by argument.
use Rattle.std.proofs.Common.{ℕ, suc, ◌≡◌, ◌+◌, false, true, List, [], ◌∷◌, ◌++◌, Result, Ok, Err, refl, sym, ap, subst, ◌∙◌, arith, append_assoc}
use Rattle.std.proofs.lemmas.Bool.{false≢true}
use Rattle.cf_model.specs.declared.terms.Word2.{Word2}
use Rattle.cf_pkg.specs.declared.Func.{Func}
use Rattle.cf_reference.specs.declared.grammar.Head.{Head}
use Rattle.cf_reference.specs.declared.grammar.Head.TheVariants.{Const, One, Fold, Ite, Restrict, Exists, Forall, SumOut, Compose, AndExists, Kron, Matmul, Transpose, Id, Walsh, Unit as UnitAt}
use Rattle.cf_reference.specs.Trees.{Tree, Call, Arguments, none, more, atom, Atom, count}
use Rattle.cf_session.proofs.HeadFacts.{fold_of}
use Rattle.cf_session.specs.declared.faults.StepFault.{StepFault}
use Rattle.cf_session.specs.declared.values.Value.{Value}
use Rattle.cf_session.specs.declared.values.Value.TheVariants.{Function}
use Rattle.cf_session.specs.Arguments.{is_fold, from_place}
use Rattle.cf_session.specs.Sessions.{Held, state_of}
use Rattle.cf_session.specs.Building.{Grows}
use Rattle.cf_session.specs.Keeping.{IsJobKept, AreStepsKept, IsCallKept, IsKept, AreKept, AnswersCall, Repeats, AnswersKept}
use Rattle.cf_session.proofs.Growth.{grown_same, grown_on}
use Rattle.cf_session.proofs.WalkFacts.{from-end, append-none}
use Rattle.cf_session.proofs.Kept.{kept_on, job_on, first_kept, none_kept, IsAtomValue, repeats_from}

-- values for the arguments from a place on, behind those for the arguments before
abbrev pub Others : Held → Head → Arguments → List Value → Func → Type 0
Others h head left args r = (rest : List Value) × AreKept h left rest × IsJobKept h.pkg head (args ++ rest) r

-- The arguments before a place are kept with these values in each session that grows from now on. Where the call was kept
-- at the start, the values are the first of its, and nothing changed.
pub record KeptFront (start now : Held) (head : Head) (all : Arguments) (args : List Value) (place : ℕ) : Type 0 where
  pub front : (h : Held) → Grows now h → (rest : List Value) → AreKept h (from_place place all) rest → AreKept h all (args ++ rest)
  pub again : (r : Func) → IsKept start (Call head all) r → (now ≡ start) × Others start head (from_place place all) args r

one_job : (h : Held) (head : Head) (all : Arguments) (r : Func) → is_fold head ≡ false → IsKept h (Call head all) r → Others h head all [] r
one_job h Const all r n k = k
one_job h (One word) all r n k = k
one_job h (Fold word) all r n k = absurd (false≢true (sym n))
one_job h Ite all r n k = k
one_job h Restrict all r n k = k
one_job h Exists all r n k = k
one_job h Forall all r n k = k
one_job h SumOut all r n k = k
one_job h Compose all r n k = k
one_job h AndExists all r n k = k
one_job h Kron all r n k = k
one_job h Matmul all r n k = k
one_job h Transpose all r n k = k
one_job h Id all r n k = k
one_job h Walsh all r n k = k
one_job h UnitAt all r n k = k

one_call : (h : Held) (head : Head) (all : Arguments) (args : List Value) (r : Func) → is_fold head ≡ false → AreKept h all args → IsJobKept h.pkg head args r
    → IsKept h (Call head all) r
one_call h Const all args r n k j = (args, k, j)
one_call h (One word) all args r n k j = (args, k, j)
one_call h (Fold word) all args r n k j = absurd (false≢true (sym n))
one_call h Ite all args r n k j = (args, k, j)
one_call h Restrict all args r n k j = (args, k, j)
one_call h Exists all args r n k j = (args, k, j)
one_call h Forall all args r n k j = (args, k, j)
one_call h SumOut all args r n k j = (args, k, j)
one_call h Compose all args r n k j = (args, k, j)
one_call h AndExists all args r n k j = (args, k, j)
one_call h Kron all args r n k j = (args, k, j)
one_call h Matmul all args r n k j = (args, k, j)
one_call h Transpose all args r n k j = (args, k, j)
one_call h Id all args r n k j = (args, k, j)
one_call h Walsh all args r n k j = (args, k, j)
one_call h UnitAt all args r n k j = (args, k, j)

pub front_none : (start : Held) (head : Head) (all : Arguments) (args : List Value) → args ≡ [] → is_fold head ≡ false → KeptFront start start head all args 0
front_none start head all args e n =
    subst (λ (l : List Value). KeptFront start start head all l 0) (sym e)
    (record {
      front = λ h g rest k. k;
      again = λ r k. (refl, one_job start head all r n k);
    })

-- one more value
front_push : (start before now : Held) (head : Head) (all es : Arguments) (args : List Value) (place : ℕ) (v : Value) → KeptFront start before head all args place → Grows before now
    → from_place (suc place) all ≡ es
    → ((h : Held) → Grows now h → (rest : List Value) → AreKept h es rest → AreKept h (from_place place all) (v ∷ rest))
    → ((rest : List Value) → before ≡ start → AreKept start (from_place place all) rest → (now ≡ before) × ((other : List Value) × (rest ≡ v ∷ other) × AreKept start es other))
    → KeptFront start now head all (args ++ v ∷ []) (place + 1)
front_push start before now head all es args place v f g is there alone =
    let one : suc place ≡ place + 1 = omega arith in
    let behind : es ≡ from_place (place + 1) all = sym is ∙ ap (λ i. from_place i all) one in
    record {
      front = λ h grows rest k.
          subst (AreKept h all) (sym (append_assoc args (v ∷ []) rest))
          (f.front h (grown_on before now h g grows) (v ∷ rest) (there h grows rest (subst (λ l. AreKept h l rest) (sym behind) k)));
      again = λ r k.
          (let was = f.again r k in
          let split = alone was.1.0 was.0 was.1.1 in (
            split.0 ∙ was.0,
            (
              split.1.0,
              subst (λ l. AreKept start l split.1.0) behind split.1.2,
              subst (λ l. IsJobKept start.pkg head l r) (ap (λ l. args ++ l) split.1.1 ∙ sym (append_assoc args (v ∷ []) split.1.0)) was.1.2,
            ),
          ));
    }

pub front_function : (start before after now : Held) (head : Head) (all : Arguments) (args : List Value) (place : ℕ) (e : Tree) (f : Func) (v : Value) → KeptFront start before head all args place
    → from_place place all ≡ more e (from_place (suc place) all) → Grows before after → IsKept after e f → AnswersKept before after e (Ok f) → now ≡ after → v ≡ Function f
    → KeptFront start now head all (args ++ v ∷ []) (place + 1)
front_function start before after now head all args place e f v front is g kept again here it =
    let es = from_place (suc place) all in
    subst (λ (h : Held). KeptFront start h head all (args ++ v ∷ []) (place + 1)) (sym here)
    (subst (λ (w : Value). KeptFront start after head all (args ++ w ∷ []) (place + 1)) (sym it)
    (front_push start before after head all es args place (Function f) front g refl
    (λ h grows rest k. subst (λ l. AreKept h l (Function f ∷ rest)) (sym is) (kept_on e after h grows f kept, k))
    (λ rest same k.
    (let split = first_kept start e es rest (subst (λ l. AreKept start l rest) is k) in
    let told = again split.0 (subst (λ h. IsKept h e split.0) (sym same) split.3) in
    (told.1, (split.1, split.2 ∙ ap (λ x. Function x ∷ split.1) (sym told.0), split.4))))))

pub front_atom : (start before now : Held) (head : Head) (all : Arguments) (args : List Value) (place : ℕ) (a : Atom) (u v : Value) → KeptFront start before head all args place
    → from_place place all ≡ atom a (from_place (suc place) all) → IsAtomValue (state_of before) a u → now ≡ before → v ≡ u
    → KeptFront start now head all (args ++ v ∷ []) (place + 1)
front_atom start before now head all args place a u v front is w here it =
    let es = from_place (suc place) all in
    subst (λ (h : Held). KeptFront start h head all (args ++ v ∷ []) (place + 1)) (sym here)
    (subst (λ (x : Value). KeptFront start before head all (args ++ x ∷ []) (place + 1)) (sym it)
    (front_push start before before head all es args place u front (grown_same before) refl
    (λ h grows rest k. subst (λ l. AreKept h l (u ∷ rest)) (sym is) (w.there h es rest grows.state k))
    (λ rest same k.
    (let split = w.alone start es rest (ap state_of (sym same)) (subst (λ l. AreKept start l rest) is k) in
    (refl, (split.0, split.1, split.2))))))

-- the next argument was answered with a fault
pub front_fails : (start before now : Held) (head : Head) (all : Arguments) (args : List Value) (place : ℕ) (e : Tree) (fault : StepFault) → KeptFront start before head all args place
    → from_place place all ≡ more e (from_place (suc place) all) → AnswersKept before now e (Err fault) → AnswersKept start now (Call head all) (Err fault)
front_fails start before now head all args place e fault front is again r k =
    let was = front.again r k in
    let split = first_kept start e (from_place (suc place) all) was.1.0 (subst (λ l. AreKept start l was.1.0) is was.1.1) in
    repeats_from start before now r split.0 fault was.0 (again split.0 (subst (λ h. IsKept h e split.0) (sym was.0) split.3))

-- no argument is left
pub front_call : (start before now : Held) (head : Head) (all : Arguments) (args : List Value) (place : ℕ) (f : Func) → is_fold head ≡ false → KeptFront start before head all args place
    → place ≡ count all → Grows before now → IsJobKept now.pkg head args f → IsKept now (Call head all) f
front_call start before now head all args place f n front end g j =
    let past = ap (λ i. from_place i all) end ∙ from-end all in
    one_call now head all args f n
    (subst (AreKept now all) (append-none args) (front.front now g [] (subst (λ l. AreKept now l []) (sym past) tt))) j

answered : (start before now : Held) (r : Func) (result : Result Func StepFault) → before ≡ start → Repeats before now r result → Repeats start now r result
answered start before now r result same h = subst (λ (x : Held). Repeats x now r result) same h

pub front_answers : (start before now : Held) (head : Head) (all : Arguments) (args : List Value) (place : ℕ) (result : Result Func StepFault) → KeptFront start before head all args place
    → place ≡ count all → AnswersCall before now head args result → AnswersKept start now (Call head all) result
front_answers start before now head all args place result front end answers r k =
    let past = ap (λ i. from_place i all) end ∙ from-end all in
    let was = front.again r k in
    let empty : was.1.0 ≡ [] = none_kept start was.1.0 (subst (λ l. AreKept start l was.1.0) past was.1.1) in
    let job = subst (λ l. IsJobKept start.pkg head l r) (ap (λ l. args ++ l) empty ∙ append-none args) was.1.2 in
    answered start before now r result was.0 (answers r (subst (λ (h : Held). IsJobKept h.pkg head args r) (sym was.0) job))

-- values for the arguments that are left, and their steps from a function on
abbrev pub Steps : Held → Head → Arguments → Func → Func → Type 0
Steps h head left f r = (rest : List Value) × AreKept h left rest × AreStepsKept h.pkg head f rest r

-- The first arguments of nested calls and their steps are kept up to a function in each session that grows from now on.
-- Where the call was kept at the start, its steps go on from the function, and nothing changed.
pub record KeptSteps (start now : Held) (head : Head) (all : Arguments) (f : Func) (left : Arguments) : Type 0 where
  pub goes : (h : Held) → Grows now h → (r : Func) → Steps h head left f r → IsKept h (Call head all) r
  pub again : (r : Func) → IsKept start (Call head all) r → (now ≡ start) × Steps start head left f r

nested_kept : (h : Held) (head : Head) (e : Tree) (es : Arguments) (f r : Func) → is_fold head ≡ true → IsKept h e f → Steps h head es f r → IsKept h (Call head (more e es)) r
nested_kept h head e es f r n k s =
    let w = fold_of head n in
    let steps = subst (λ (d : Head). Steps h d es f r) w.1 s in
    subst (λ (d : Head). IsKept h (Call d (more e es)) r) (sym w.1) (Function f ∷ steps.0, (k, steps.1), steps.2)

fold_split : (h : Held) (word : Word2) (e : Tree) (es : Arguments) (r : Func) → IsKept h (Call (Fold word) (more e es)) r
    → (f : Func) × IsKept h e f × Steps h (Fold word) es f r
fold_split h word e es r k =
    let split = first_kept h e es k.0 k.1 in
    (split.0, split.3, (split.1, split.4, subst (λ l. IsCallKept h.pkg (Fold word) l r) split.2 k.2))

nested_split : (h : Held) (head : Head) (e : Tree) (es : Arguments) (r : Func) → is_fold head ≡ true → IsKept h (Call head (more e es)) r
    → (f : Func) × IsKept h e f × Steps h head es f r
nested_split h head e es r n k =
    let w = fold_of head n in
    let split = fold_split h w.0 e es r (subst (λ (d : Head). IsKept h (Call d (more e es)) r) w.1 k) in
    (split.0, split.1, subst (λ (d : Head). Steps h d es split.0 r) (sym w.1) split.2)

pub steps_begin : (start now : Held) (head : Head) (e : Tree) (es : Arguments) (f : Func) → is_fold head ≡ true → IsKept now e f → AnswersKept start now e (Ok f)
    → KeptSteps start now head (more e es) f es
steps_begin start now head e es f n kept again = record {
  goes = λ h g r s. nested_kept h head e es f r n (kept_on e now h g f kept) s;
  again = λ r k.
      (let split = nested_split start head e es r n k in
      let told = again split.0 split.1 in
      (told.1, subst (λ (x : Func). Steps start head es x r) (sym told.0) split.2));
}

pub begin_fails : (start now : Held) (head : Head) (e : Tree) (es : Arguments) (fault : StepFault) → is_fold head ≡ true → AnswersKept start now e (Err fault)
    → AnswersKept start now (Call head (more e es)) (Err fault)
begin_fails start now head e es fault n again r k =
    let split = nested_split start head e es r n k in
    repeats_from start start now r split.0 fault refl (again split.0 split.1)

next_step : (h : Held) (head : Head) (e : Tree) (es : Arguments) (f r : Func) → Steps h head (more e es) f r
    → (g : Func) × IsKept h e g × (step : Func) × IsJobKept h.pkg head (Function f ∷ Function g ∷ []) step × Steps h head es step r
next_step h head e es f r s =
    let split = first_kept h e es s.0 s.1 in
    let steps = subst (λ l. AreStepsKept h.pkg head f l r) split.2 s.2 in
    (split.0, split.3, steps.0, steps.1, (split.1, split.4, steps.2))

-- the next argument was answered with a fault
pub step_fails : (start before now : Held) (head : Head) (all : Arguments) (f : Func) (e : Tree) (es : Arguments) (fault : StepFault) → KeptSteps start before head all f (more e es)
    → AnswersKept before now e (Err fault) → AnswersKept start now (Call head all) (Err fault)
step_fails start before now head all f e es fault steps again r k =
    let was = steps.again r k in
    let next = next_step start head e es f r was.1 in
    repeats_from start before now r next.0 fault was.0 (again next.0 (subst (λ h. IsKept h e next.0) (sym was.0) next.1))

-- what the next argument and its step were answered
pub record Step (before after now : Held) (head : Head) (f g : Func) (result : Result Func StepFault) (e : Tree) : Type 0 where
  pub grown : Grows before after
  pub kept : IsKept after e g
  pub again : AnswersKept before after e (Ok g)
  pub grows : Grows after now
  pub job : AnswersCall after now head (Function f ∷ Function g ∷ []) result

-- Where the call was kept at the start, its step is answered, and nothing changed.
pub step_told : (start before after now : Held) (head : Head) (all : Arguments) (f g : Func) (result : Result Func StepFault) (e : Tree) (es : Arguments)
    → KeptSteps start before head all f (more e es) → Step before after now head f g result e → (r : Func) → IsKept start (Call head all) r
    → (step : Func) × Repeats start now step result × Steps start head es step r
step_told start before after now head all f g result e es steps s r k =
    let was = steps.again r k in
    let next = next_step start head e es f r was.1 in
    let told = s.again next.0 (subst (λ h. IsKept h e next.0) (sym was.0) next.1) in
    let job = subst (λ x. IsJobKept start.pkg head (Function f ∷ Function x ∷ []) next.2) (sym told.0) next.3 in
    let same : after ≡ start = told.1 ∙ was.0 in
    let done = s.job next.2 (subst (λ (h : Held). IsJobKept h.pkg head (Function f ∷ Function g ∷ []) next.2) (sym same) job) in
    (next.2, subst (λ (h : Held). Repeats h now next.2 result) same done, next.4)

pub steps_push : (start before after now : Held) (head : Head) (all : Arguments) (f g r : Func) (result : Result Func StepFault) (e : Tree) (es : Arguments)
    → KeptSteps start before head all f (more e es) → Step before after now head f g result e → result ≡ Ok r → IsJobKept now.pkg head (Function f ∷ Function g ∷ []) r
    → KeptSteps start now head all r es
steps_push start before after now head all f g r result e es steps s is job = record {
  goes = λ h grows x k.
      steps.goes h (grown_on before now h (grown_on before after now s.grown s.grows) grows) x (
        Function g ∷ k.0,
        (kept_on e after h (grown_on after now h s.grows grows) g s.kept, k.1),
        (r, job_on now.pkg h.pkg grows.functions head (Function f ∷ Function g ∷ []) r job, k.2),
      );
  again = λ x k.
      (let told = step_told start before after now head all f g result e es steps s x k in
      let found = subst (λ (y : Result Func StepFault). Repeats start now told.0 y) is told.1 in
      (found.1, subst (λ (y : Func). Steps start head es y x) (sym found.0) told.2));
}

pub job_fails : (start before after now : Held) (head : Head) (all : Arguments) (f g : Func) (result : Result Func StepFault) (fault : StepFault) (e : Tree) (es : Arguments)
    → KeptSteps start before head all f (more e es) → Step before after now head f g result e → result ≡ Err fault → AnswersKept start now (Call head all) (Err fault)
job_fails start before after now head all f g result fault e es steps s is r k =
    let told = step_told start before after now head all f g result e es steps s r k in
    repeats_from start start now r told.0 fault refl (subst (λ (y : Result Func StepFault). Repeats start now told.0 y) is told.1)

-- no argument is left
pub steps_end : (start now : Held) (head : Head) (all : Arguments) (f : Func) → KeptSteps start now head all f none
    → IsKept now (Call head all) f × AnswersKept start now (Call head all) (Ok f)
steps_end start now head all f steps = (
  steps.goes now (grown_same now) f ([], tt, refl),
  λ r k.
      (let was = steps.again r k in
      let empty : was.1.0 ≡ [] = none_kept start was.1.0 was.1.1 in
      let end : r ≡ f = subst (λ l. AreStepsKept start.pkg head f l r) empty was.1.2 in
      (sym end, was.0)),
)
