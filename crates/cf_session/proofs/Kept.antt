-- Kept expressions stay kept as a session grows, and what a kept call is answered.
use Rattle.std.proofs.Common.{ℕ, ℤ, ◌≡◌, true, false, List, [], ◌∷◌, Some, Result, Ok, Err, IfOk, refl, sym, ap, subst, ◌∙◌}
use Rattle.std.specs.Prelude.{nat_abs, is_some}
use Rattle.std.specs.Result.{IsErrAnd}
use Rattle.std.proofs.lemmas.Result.{IfOk-weaker}
use Rattle.cf_pkg.specs.declared.Func.{Func}
use Rattle.cf_pkg.specs.Tasks.{Task}
use Rattle.cf_pkg.specs.Tasks as task
use Rattle.cf_pkg.specs.Packages.{Package, IsRemembered, Keeps}
use Rattle.cf_pkg.specs.Jobs.{AnswersFinished}
use Rattle.cf_reference.specs.declared.grammar.Head.{Head}
use Rattle.cf_reference.specs.declared.grammar.Head.TheVariants.{Const, One, Fold, Ite, Restrict, Exists, Forall, SumOut, Compose, AndExists, Kron, Matmul, Transpose, Id, Walsh, Unit as UnitAt}
use Rattle.cf_reference.specs.Trees.{Tree, Num, At, Named, Call, Arguments, none, more, atom, Atom}
use Rattle.cf_reference.specs.Calls as means
use Rattle.cf_reference.specs.States.{State, level_in, named}
use Rattle.cf_reference.specs.Expressions.{meant_atom, walk}
use Rattle.cf_reference.specs.Reasons.{NoLevel, unless}
use Rattle.std.specs.Option.{option_or}
use Rattle.cf_session.specs.declared.faults.Refusal.{Refusal}
use Rattle.cf_session.specs.Faults.{reason_of}
use Rattle.cf_session.specs.declared.faults.StepFault.{StepFault}
use Rattle.cf_session.specs.declared.faults.StepFault.TheVariants.{NoMemory, Refused}
use Rattle.cf_session.specs.declared.values.Value.{Value}
use Rattle.cf_session.specs.declared.values.Value.TheVariants.{Function, Position, Number}
use Rattle.cf_session.specs.Sessions.{Held, state_of, StandsFor, IsOneWith}
use Rattle.cf_session.specs.Building.{Grows}
use Rattle.cf_session.proofs.Growth.{with_package}
use Rattle.cf_session.specs.Walks.{HasPosition}
use Rattle.cf_session.specs.Values.{places_of}
use Rattle.cf_restrict.specs.Quantified.{IsComposed, IsJoined}
use Rattle.cf_restrict.proofs.Doing.{all_quantified_kept}
use Rattle.cf_model.specs.declared.terms.Word2.TheVariants.{And, Or, Plus}
use Rattle.cf_ops.specs.Operations.{of_two, of_three}
use Rattle.cf_session.proofs.KeptShapes.{task_kept, kept_task, exists_shape, forall_shape, sum_shape, compose_shape, joined_shape}
use Rattle.cf_session.specs.Keeping.{call_task, IsJobKept, AreStepsKept, IsCallKept, IsKept, AreKept, AnswersJob, AnswersCall, Repeats, AnswersKept, IsRepeat}

-- A session that grew and has the package that it had is the session that it was.
pub same_session : (h k : Held) → Grows h k → k.pkg ≡ h.pkg → k ≡ h
same_session h k g e =
    ap (λ (p : Package). record k { pkg = p }) e
    ∙ ap (λ l. record k { pkg = h.pkg; level = l }) g.names.level
    ∙ ap (λ v. record k { pkg = h.pkg; level = h.level; variables = v }) g.names.variables
    ∙ ap (λ f. record h { functions = f }) g.names.functions

-- jobs as a package grows
composed_on : (p q : Package) → Keeps p q → (f : Func) (i : ℕ) (g r : Func) → IsComposed p f i g r → IsComposed q f i g r
composed_on p q k f i g r h = record {
  high = h.high;
  low = h.low;
  high_is = k.jobs (task.Restrict f i true) h.high h.high_is;
  low_is = k.jobs (task.Restrict f i false) h.low h.low_is;
  chosen_is = k.jobs (task.Ternary of_three g h.high h.low) r h.chosen_is;
}

joined_on : (p q : Package) → Keeps p q → (f g : Func) (vars : List ℕ) (r : Func) → IsJoined p f g vars r → IsJoined q f g vars r
joined_on p q k f g vars r h = record {
  product = h.product;
  product_is = k.jobs (task.Apply (of_two And) f g) h.product h.product_is;
  quantified = all_quantified_kept p q k Or h.product vars r h.quantified;
}

pub job_on : (p q : Package) → Keeps p q → (head : Head) (args : List Value) (r : Func) → IsJobKept p head args r → IsJobKept q head args r
job_on p q k Const args r h = (h.0, h.1, k.jobs h.0 r h.2)
job_on p q k (One word) args r h = (h.0, h.1, k.jobs h.0 r h.2)
job_on p q k (Fold word) args r h = (h.0, h.1, k.jobs h.0 r h.2)
job_on p q k Ite args r h = (h.0, h.1, k.jobs h.0 r h.2)
job_on p q k Restrict args r h = (h.0, h.1, k.jobs h.0 r h.2)
job_on p q k Exists args r h =
    let s = exists_shape p args r h in
    subst (λ (l : List Value). IsJobKept q Exists l r) (sym s.0.are) (all_quantified_kept p q k Or s.0.f (nat_abs s.0.i ∷ places_of s.0.vars) r s.1)
job_on p q k Forall args r h =
    let s = forall_shape p args r h in
    subst (λ (l : List Value). IsJobKept q Forall l r) (sym s.0.are) (all_quantified_kept p q k And s.0.f (nat_abs s.0.i ∷ places_of s.0.vars) r s.1)
job_on p q k SumOut args r h =
    let s = sum_shape p args r h in
    subst (λ (l : List Value). IsJobKept q SumOut l r) (sym s.0.are) (all_quantified_kept p q k Plus s.0.f (nat_abs s.0.i ∷ places_of s.0.vars) r s.1)
job_on p q k Compose args r h =
    let s = compose_shape p args r h in
    subst (λ (l : List Value). IsJobKept q Compose l r) (sym s.3) (composed_on p q k s.0 (nat_abs s.1) s.2 r s.4)
job_on p q k AndExists args r h =
    let s = joined_shape p args r h in
    subst (λ (l : List Value). IsJobKept q AndExists l r) (sym (s.2 ∙ ap (λ l. Function s.0 ∷ l) s.3.are))
    (joined_on p q k s.0 s.3.f (nat_abs s.3.i ∷ places_of s.3.vars) r s.4)
job_on p q k Kron args r h = (h.0, h.1, k.jobs h.0 r h.2)
job_on p q k Matmul args r h = (h.0, h.1, k.jobs h.0 r h.2)
job_on p q k Transpose args r h = (h.0, h.1, k.jobs h.0 r h.2)
job_on p q k Id args r h = (h.0, h.1, k.jobs h.0 r h.2)
job_on p q k Walsh args r h = (h.0, h.1, k.jobs h.0 r h.2)
job_on p q k UnitAt args r h = (h.0, h.1, k.jobs h.0 r h.2)

pub steps_on : (p q : Package) → Keeps p q → (head : Head) (f : Func) (args : List Value) (r : Func) → AreStepsKept p head f args r → AreStepsKept q head f args r
steps_on p q k head f [] r h = h
steps_on p q k head f (v ∷ later) r h = (h.0, job_on p q k head (Function f ∷ v ∷ []) h.0 h.1, steps_on p q k head h.0 later r h.2)

call_on : (p q : Package) → Keeps p q → (head : Head) (args : List Value) (r : Func) → IsCallKept p head args r → IsCallKept q head args r
call_on p q k Const args r h = job_on p q k Const args r h
call_on p q k (One word) args r h = job_on p q k (One word) args r h
call_on p q k (Fold word) [] r h = absurd h
call_on p q k (Fold word) (Function f ∷ later) r h = steps_on p q k (Fold word) f later r h
call_on p q k (Fold word) (Position i ∷ later) r h = absurd h
call_on p q k (Fold word) (Number n ∷ later) r h = absurd h
call_on p q k Ite args r h = job_on p q k Ite args r h
call_on p q k Restrict args r h = job_on p q k Restrict args r h
call_on p q k Exists args r h = job_on p q k Exists args r h
call_on p q k Forall args r h = job_on p q k Forall args r h
call_on p q k SumOut args r h = job_on p q k SumOut args r h
call_on p q k Compose args r h = job_on p q k Compose args r h
call_on p q k AndExists args r h = job_on p q k AndExists args r h
call_on p q k Kron args r h = job_on p q k Kron args r h
call_on p q k Matmul args r h = job_on p q k Matmul args r h
call_on p q k Transpose args r h = job_on p q k Transpose args r h
call_on p q k Id args r h = job_on p q k Id args r h
call_on p q k Walsh args r h = job_on p q k Walsh args r h
call_on p q k UnitAt args r h = job_on p q k UnitAt args r h

-- expressions
stands_on : (h k : Held) → Grows h k → (name : List ℕ) (f : Func) → StandsFor h name f → StandsFor k name f
stands_on h k g name f s =
    let kept = g.functions.functions f s.owned in
    record { owned = kept.owned; means = ap (λ (u : State). named u name) g.state ∙ s.means ∙ ap Some (sym kept.is_it) }

mutual
  pub kept_on : (e : Tree) (h k : Held) → Grows h k → (f : Func) → IsKept h e f → IsKept k e f
  kept_on (Num n) h k g f i =
      subst (λ (u : State). IsRemembered k.pkg (task.Const (level_in u) n) f) (sym g.state) (g.functions.jobs (task.Const (level_in (state_of h)) n) f i)
  kept_on (At p) h k g f i =
      subst (λ (u : State). IsRemembered k.pkg (task.Var (level_in u) (nat_abs p)) f) (sym g.state) (g.functions.jobs (task.Var (level_in (state_of h)) (nat_abs p)) f i)
  kept_on (Named name) h k g f i = stands_on h k g name f i
  kept_on (Call head es) h k g f i = (i.0, all_on es h k g i.0 i.1, call_on h.pkg k.pkg g.functions head i.0 f i.2)

  pub all_on : (es : Arguments) (h k : Held) → Grows h k → (args : List Value) → AreKept h es args → AreKept k es args
  all_on none h k g [] i = tt
  all_on none h k g (v ∷ args) i = absurd i
  all_on (more e es) h k g [] i = absurd i
  all_on (more e es) h k g (Function f ∷ args) i = (kept_on e h k g f i.0, all_on es h k g args i.1)
  all_on (more e es) h k g (Position p ∷ args) i = absurd i
  all_on (more e es) h k g (Number n ∷ args) i = absurd i
  all_on (atom a es) h k g [] i = absurd i
  all_on (atom a es) h k g (Function f ∷ args) i = absurd i
  all_on (atom a es) h k g (Position p ∷ args) i = (subst (λ (u : State). HasPosition u a p) (sym g.state) i.0, all_on es h k g args i.1)
  all_on (atom a es) h k g (Number n ∷ args) i = (ap (λ (u : State). meant_atom u a) g.state ∙ i.0, all_on es h k g args i.1)

-- The first of the values is the function of the first argument.
pub first_kept : (h : Held) (e : Tree) (es : Arguments) (args : List Value) → AreKept h (more e es) args
    → (f : Func) × (later : List Value) × (args ≡ Function f ∷ later) × IsKept h e f × AreKept h es later
first_kept h e es [] i = absurd i
first_kept h e es (Function f ∷ later) i = (f, later, refl, i.0, i.1)
first_kept h e es (Position p ∷ later) i = absurd i
first_kept h e es (Number n ∷ later) i = absurd i

-- no argument, no value
pub none_kept : (h : Held) (args : List Value) → AreKept h none args → args ≡ []
none_kept h [] i = refl
none_kept h (v ∷ args) i = absurd i

-- A value that is no function stands for an atom, wherever the state is this one.
pub record IsAtomValue (s : State) (a : Atom) (v : Value) : Type 0 where
  pub there : (h : Held) (es : Arguments) (later : List Value) → state_of h ≡ s → AreKept h es later → AreKept h (atom a es) (v ∷ later)
  pub alone : (h : Held) (es : Arguments) (args : List Value) → state_of h ≡ s → AreKept h (atom a es) args
      → (later : List Value) × (args ≡ v ∷ later) × AreKept h es later

abbrev position_of : means.Meant → ℤ → ℤ
position_of (means.Function f) d = d
position_of (means.Position i) d = i
position_of (means.Number n) d = d

abbrev number_of : means.Meant → ℤ → ℤ
number_of (means.Function f) d = d
number_of (means.Position i) d = d
number_of (means.Number n) d = n

pub position_value : (s : State) (a : Atom) (i : ℤ) → HasPosition s a i → IsAtomValue s a (Position i)
position_value s a i m = record {
  there = λ h es later e k. (subst (λ (u : State). HasPosition u a i) (sym e) m, k);
  alone = λ h es args e k. by h es args k (sym (ap (λ (u : State). meant_atom u a) e ∙ m.is_it));
}
  where
    by : (h : Held) (es : Arguments) (args : List Value) → AreKept h (atom a es) args → means.Position i ≡ meant_atom (state_of h) a
        → (later : List Value) × (args ≡ Position i ∷ later) × AreKept h es later
    by h es [] k e = absurd k
    by h es (Function f ∷ later) k e = absurd k
    by h es (Position j ∷ later) k e = (later, ap (λ x. Position x ∷ later) (sym (ap (λ x. position_of x j) (e ∙ k.0.is_it))), k.1)
    by h es (Number n ∷ later) k e = cc

pub number_value : (s : State) (a : Atom) (n : ℤ) → meant_atom s a ≡ means.Number n → IsAtomValue s a (Number n)
number_value s a n m = record {
  there = λ h es later e k. (ap (λ (u : State). meant_atom u a) e ∙ m, k);
  alone = λ h es args e k. by h es args k (sym (ap (λ (u : State). meant_atom u a) e ∙ m));
}
  where
    by : (h : Held) (es : Arguments) (args : List Value) → AreKept h (atom a es) args → means.Number n ≡ meant_atom (state_of h) a
        → (later : List Value) × (args ≡ Number n ∷ later) × AreKept h es later
    by h es [] k e = absurd k
    by h es (Function f ∷ later) k e = absurd k
    by h es (Position j ∷ later) k e = cc
    by h es (Number m ∷ later) k e = (later, ap (λ x. Number x ∷ later) (sym (ap (λ x. number_of x m) (e ∙ k.0))), k.1)

-- the answer of a package that was as it is
pub repeats_told : (h k : Held) (f : Func) (result : Result Func StepFault) → (result ≡ Ok f) × (k.pkg ≡ h.pkg) → Grows h k → Repeats h k f result
repeats_told h k f result told g = subst (λ (x : Result Func StepFault). Repeats h k f x) (sym told.0) (refl, same_session h k g told.1)

-- A job that the package answered is the one that the head has on the values.
pub job_kept : (p : Package) (head one : Head) (items others : List Value) (t u : Task) (r : Func) → head ≡ one → items ≡ others → call_task one others ≡ Some t → u ≡ t
    → IsRemembered p u r → IsJobKept p head items r
job_kept p head one items others t u r is same task e h =
    kept_task p head items t r (ap (λ d. call_task d items) is ∙ ap (call_task one) same ∙ task) (subst (λ x. IsRemembered p x r) e h)

pub job_answered : (h k : Held) (head one : Head) (items others : List Value) (t u : Task) (result : Result Func StepFault) → head ≡ one → items ≡ others
    → call_task one others ≡ Some t → u ≡ t → Grows h k → AnswersJob h k u result → AnswersCall h k head items result
job_answered h k head one items others t u result is same task e g answers f kept =
    let its = task_kept h.pkg head items t f (ap (λ d. call_task d items) is ∙ ap (call_task one) same ∙ task) kept in
    repeats_told h k f result (answers f (subst (λ x. IsRemembered h.pkg x f) (sym e) its)) g

-- what an answer on the way says of the whole
pub repeats_from : (start before now : Held) (f g : Func) (fault : StepFault) → before ≡ start → Repeats before now g (Err fault) → Repeats start now f (Err fault)
repeats_from start before now f g NoMemory e h = h ∙ e
repeats_from start before now f g (Refused r) e h = absurd h

-- the two kinds of answers
pub same_Ok : {E : Type 0} (o : Result Func E) (f g : Func) → o ≡ Ok f → o ≡ Ok g → f ≡ g
same_Ok o f g e h = cc

pub ok-err : {E : Type 0} (o : Result Func E) (f : Func) (x : E) → o ≡ Ok f → o ≡ Err x → ⊥
ok-err o f x e h = cc

-- What a package answered, as a session's answer.
pub again_ok : {E F : Type 0} (h s : Held) → h ≡ s → (q : Package) (t : Task) (o : Result Func E) (r : Func) (result : Result Func F) → o ≡ Ok r → result ≡ Ok r → AnswersFinished h.pkg q t o
    → AnswersJob s (with_package h q) t result
again_ok h s e q t o r result was is a f k =
    let told = a f (subst (λ (x : Held). IsRemembered x.pkg t f) (sym e) k) in
    (is ∙ ap (λ x. Ok x) (same_Ok o r f was told.0), told.1 ∙ ap (λ (x : Held). x.pkg) e)

pub again_err : {E F : Type 0} (h s : Held) → h ≡ s → (q : Package) (t : Task) (o : Result Func E) (err : E) (result : Result Func F) → o ≡ Err err → AnswersFinished h.pkg q t o
    → AnswersJob s (with_package h q) t result
again_err h s e q t o err result was a f k =
    let told = a f (subst (λ (x : Held). IsRemembered x.pkg t f) (sym e) k) in
    absurd (ok-err o f err told.0 was)

-- a constant's number under another name
pub const_ok : {E F : Type 0} (h s : Held) → h ≡ s → (q : Package) (l : ℕ) (m n : ℤ) (o : Result Func E) (r : Func) (result : Result Func F) → m ≡ n → o ≡ Ok r → result ≡ Ok r
    → AnswersFinished h.pkg q (task.Const l m) o → AnswersJob s (with_package h q) (task.Const l n) result
const_ok h s e q l m n o r result same was is a =
    subst (λ z. AnswersJob s (with_package h q) (task.Const l z) result) same (again_ok h s e q (task.Const l m) o r result was is a)

pub const_err : {E F : Type 0} (h s : Held) → h ≡ s → (q : Package) (l : ℕ) (m n : ℤ) (o : Result Func E) (err : E) (result : Result Func F) → m ≡ n → o ≡ Err err
    → AnswersFinished h.pkg q (task.Const l m) o → AnswersJob s (with_package h q) (task.Const l n) result
const_err h s e q l m n o err result same was a =
    subst (λ z. AnswersJob s (with_package h q) (task.Const l z) result) same (again_err h s e q (task.Const l m) o err result was a)

-- Functions of numbers, positions and names.
repeats_job : (h k : Held) → Grows h k → (t u : Task) (result : Result Func StepFault) → u ≡ t → AnswersJob h k u result → (f : Func) → IsRemembered h.pkg t f → Repeats h k f result
repeats_job h k g t u result e answers f i =
    let told = answers f (subst (λ x. IsRemembered h.pkg x f) (sym e) i) in
    subst (λ (x : Result Func StepFault). Repeats h k f x) (sym told.0) (refl, same_session h k g told.1)

pub const_is : (k l : ℕ) (m n : ℤ) → k ≡ l → m ≡ n → task.Const k m ≡ task.Const l n
const_is k l m n e h = ap (λ x. task.Const x m) e ∙ ap (λ x. task.Const l x) h

pub var_is : (k l i j : ℕ) → k ≡ l → i ≡ j → task.Var k i ≡ task.Var l j
var_is k l i j e h = ap (λ x. task.Var x i) e ∙ ap (λ x. task.Var l x) h

pub number_kept : (r : Result Func StepFault) (h k : Held) (l : ℕ) (m n : ℤ) → Grows h k → l ≡ level_in (state_of h) → m ≡ n
    → IfOk r (IsRemembered k.pkg (task.Const l m)) → IfOk r (IsKept k (Num n))
number_kept r h k l m n g e same =
    IfOk-weaker r _ _ (λ f i. subst (λ x. IsRemembered k.pkg x f) (const_is l (level_in (state_of k)) m n (e ∙ ap level_in (sym g.state)) same) i)

pub number_again : (r : Result Func StepFault) (h k : Held) (l : ℕ) (m n : ℤ) → Grows h k → l ≡ level_in (state_of h) → m ≡ n → AnswersJob h k (task.Const l m) r
    → AnswersKept h k (Num n) r
number_again r h k l m n g e same answers f i =
    repeats_job h k g (task.Const (level_in (state_of h)) n) (task.Const l m) r (const_is l (level_in (state_of h)) m n e same) answers f i

pub bit_kept : (r : Result Func StepFault) (h k : Held) (l i : ℕ) (j : ℤ) → Grows h k → l ≡ level_in (state_of h) → i ≡ nat_abs j
    → IfOk r (IsRemembered k.pkg (task.Var l i)) → IfOk r (IsKept k (At j))
bit_kept r h k l i j g e same =
    IfOk-weaker r _ _ (λ f x. subst (λ t. IsRemembered k.pkg t f) (var_is l (level_in (state_of k)) i (nat_abs j) (e ∙ ap level_in (sym g.state)) same) x)

pub bit_again : (r : Result Func StepFault) (h k : Held) (l i : ℕ) (j : ℤ) → Grows h k → l ≡ level_in (state_of h) → i ≡ nat_abs j → AnswersJob h k (task.Var l i) r
    → AnswersKept h k (At j) r
bit_again r h k l i j g e same answers f x =
    repeats_job h k g (task.Var (level_in (state_of h)) (nat_abs j)) (task.Var l i) r (var_is l (level_in (state_of h)) i (nat_abs j) e same) answers f x

pub name_again : (h : Held) (name : List ℕ) (f : Func) → IsOneWith h name f → AnswersKept h h (Named name) (Ok f)
name_again h name f one g s = (sym ((one name g s).1 refl), refl)

-- What an expression that the walk let pass was answered.
pub repeat_is : (h k : Held) (e : Tree) (f : Func) (r : Result Func StepFault) → Repeats h k f r → IsRepeat h k e f r
repeat_is h k e f (Ok g) x = record { same = x.1; is_it = x.0; fault = tt }
repeat_is h k e f (Err NoMemory) x = record { same = x; is_it = tt; fault = tt }
repeat_is h k e f (Err (Refused r)) x = absurd x

-- A refusal before any job.
pub refused_first : (h : Held) (e : Tree) (f : Func) (r : Refusal) → option_or (unless (is_some h.level) NoLevel) (walk (state_of h) e) ≡ Some (reason_of r)
    → IsRepeat h h e f (Err (Refused r))
refused_first h e f r x = record { same = refl; is_it = tt; fault = x }

-- no memory for a value in the list
pub no_memory : (h k : Held) (f : Func) (r : Result Func StepFault) → k ≡ h → IsErrAnd r (λ fault. fault ≡ NoMemory) → Repeats h k f r
no_memory h k f (Ok g) same is = absurd is
no_memory h k f (Err fault) same is = subst (λ (x : StepFault). Repeats h k f (Err x)) (sym is) same
