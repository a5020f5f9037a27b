use Rattle.std.proofs.Common.{◌≡◌, ℕ, ◌≤◌, ◌+◌, ℤ, pos, Bool, List, [], ◌∷◌, ◌++◌, Option, Result, Ok, Err, IfOk, OnErr, sym, ◌∙◌, ap, subst, arith, refl}
use Rattle.std.specs.Prelude.{unwrap_or}
use Rattle.cf_model.specs.Assignments.{Assignment, bits}
use Rattle.cf_model.specs.FlatFunctions.{tabulated}
use Rattle.cf_model.specs.Patterns.{Pattern, subs, pattern_of as flat_pattern}
use Rattle.cf_table.specs.Groupings.{Groupings}
use Rattle.cf_build.specs.Assembling.{AddsOnly}
use Rattle.cf_pkg.specs.declared.Func.{Func}
use Rattle.cf_pkg.specs.declared.jobs.Job.{Job}
use Rattle.cf_pkg.specs.declared.memo.JobKey.{JobKey}
use Rattle.cf_pkg.specs.declared.jobs.OpFault.{OpFault}
use Rattle.cf_pkg.specs.Faults.{IfOverflow}
use Rattle.cf_pkg.specs.Tasks.{Task}
use Rattle.cf_pkg.specs.Tasks as task
use Rattle.cf_pkg.specs.Memos.{Remembered, no_job, task_at, IsTold, IsUndone, IsKeyOf}
use Rattle.cf_pkg.specs.Packages.{Package, package_of, function_parts, IsRemembered, Keeps, HasParts}
use Rattle.cf_pkg.specs.Jobs.{task_of, job_level, job_value, job_parts, IsRestriction, IsTaskInOrder, task_level, task_value, HasValues, Finishes, AnswersFinished, IsLeastWithout}
use Rattle.cf_pkg.specs.Products.{pair_parts, triple_parts, product_parts, pair_steps}
use Rattle.cf_pkg.specs.Outcomes.{Answers, IsOutcome, AnswersJob, IsJobOutcome}
use Rattle.cf_pkg.specs.Remembering.{IsDone}
use Rattle.cf_pkg.proofs.Valued.{Keeps-same, Keeps-trans, err_same}
use Rattle.cf_pkg.proofs.Finishing.{in_order_kept, task_value_kept, values_kept}
use Rattle.cf_pkg.proofs.Memos.{entered_last}
use Rattle.cf_pkg.proofs.Remembering.{with_job, remember_keeps}

-- A job that was finished: what is answered has its values in the package as it was.
pub found_values : (p q : Package) → Keeps p q → (t : Task) (f : Func) → IsTaskInOrder p t → IsDone q t f → HasValues q f (task_level t) (task_value p t)
found_values p q k t f o d = subst (λ (v : List Bool → Option ℤ). HasValues q f (task_level t) v) (task_value_kept p q k t o) d.is_it.values

-- it is the one that was remembered, and nothing changed
pub found_answers : {E : Type 0} (p q : Package) → Keeps p q → (t : Task) (f : Func) → IsDone q t f → ((r : Func) → IsRemembered p t r → q ≡ p) → AnswersFinished {E = E} p q t (Ok f)
found_answers {E} p q k t f d same r h = let ok : Func → Result Func E = λ x. Ok x in (ap ok (sym (d.alone r (k.jobs t r h))), same r h)

-- A job that wasn't finished: nothing is asked of the answer.
pub new_answers : {E : Type 0} (p q r : Package) → Keeps p q → (t : Task) → IsUndone q.memo t → (result : Result Func E) → AnswersFinished p r t result
new_answers p q r k t undone result f h = absurd (undone f (k.jobs t f h))

-- nor where it has no key
pub unknown_answers : {A E F : Type 0} (p q : Package) (t : Task) (key : Result A E) (fault : E) → key ≡ Err fault → ((f : Func) → IsRemembered p t f → OnErr key ⊥) → (result : Result Func F) → AnswersFinished p q t result
unknown_answers {A} {E} p q t key fault e answers result f h = absurd (subst (λ (x : Result A E). OnErr x ⊥) e (answers f h))

-- what was made is the job's function
pub new_finishes : (p q : Package) → Keeps p q → (t : Task) (f : Func) → IsTaskInOrder p t → HasValues q f (task_level t) (task_value p t) → Finishes q t f
new_finishes p q k t f o h = record {
  in_order = in_order_kept p q k t o;
  values = subst (λ (v : List Bool → Option ℤ). HasValues q f (task_level t) v) (sym (task_value_kept p q k t o)) h;
}

-- and it overflows where the job has no value
pub new_overflow : {T : Type 0} (p q : Package) → Keeps p q → (t : Task) → IsTaskInOrder p t → (result : Result T OpFault) → IfOverflow result (IsLeastWithout (task_level t) (task_value q t)) → IfOverflow result (IsLeastWithout (task_level t) (task_value p t))
new_overflow p q k t o result h = subst (λ (v : List Bool → Option ℤ). IfOverflow result (IsLeastWithout (task_level t) v)) (task_value_kept p q k t o) h

pub new_remembered : (p : Package) (key : JobKey) (t : Task) (f : Func) → task_at p.memo.trees key ≡ t → IsRemembered (with_job p key f) t f
new_remembered p key t f e = subst (λ (u : Task). IsRemembered (with_job p key f) u f) e (entered_last p.memo key f)

-- nothing was added
pub adds_none : (t u : Groupings) → u ≡ t → (ps : List Pattern) → AddsOnly t.levels u.levels ps
adds_none t u e ps = subst (λ (x : Groupings). AddsOnly t.levels x.levels ps) (sym e) (λ l i a b. absurd (omega (arith, a, b)))

-- what a call answered is handed on
pub carried_fault : {E F : Type 0} (p q : Package) (t : Task) (answer : Result Func E) (fault : E) → answer ≡ Err fault → AnswersFinished p q t answer → (result : Result Func F) → AnswersFinished p q t result
carried_fault {E} p q t answer fault e h result f there =
    let a : answer ≡ Ok f = (h f there).0 in
    absurd (let no : ◌≡◌ {A = Result Func E} (Err fault) (Ok f) = sym e ∙ a in cc)

pub carried_answer : {E : Type 0} (p q : Package) (t : Task) (answer : Result Func E) (made : Func) → answer ≡ Ok made → AnswersFinished p q t answer → AnswersFinished {E = E} p q t (Ok made)
carried_answer p q t answer made e h f there = (sym e ∙ (h f there).0, (h f there).1)

-- What is known once a job's key was looked up, in the package `q` that was `p`.
pub record Keyed (p q : Package) (t : Task) (key : JobKey) : Type 0 where
  pub kept : Keeps p q
  pub groupings : q.groupings ≡ p.groupings
  pub in_order : IsTaskInOrder p t
  pub is_key : IsKeyOf q.memo.trees key t

pub keyed : (p q : Package) (t : Task) (key : JobKey) → Keeps p q → q.groupings ≡ p.groupings → IsTaskInOrder p t → IsKeyOf q.memo.trees key t → Keyed p q t key
keyed p q t key kept same o is = record { kept = kept; groupings = same; in_order = o; is_key = is }

abbrev the_job : (p q : Package) (t : Task) (key : JobKey) → Keyed p q t key → (f : Func) → IsDone q (task_at q.memo.trees key) f → IsDone q t f
the_job p q t key k f d = subst (λ (u : Task). IsDone q u f) k.is_key.is_it d

-- Where the job was finished, its function is the answer.
pub found_outcome : (p q : Package) (t : Task) (key : JobKey) → Keyed p q t key → (f : Func) → IsDone q (task_at q.memo.trees key) f → IsOutcome p q t (Ok f)
found_outcome p q t key k f d = record {
  answer = record {
    values = found_values p q k.kept t f k.in_order (the_job p q t key k f d);
    added = adds_none p.groupings q.groupings k.groupings (product_parts p t ++ function_parts q f);
    parts = d.parts;
  };
  overflow = λ at e. cc;
}

pub found_job : (p q : Package) (job : Job) (key : JobKey) → Keyed p q (task_of job) key → (f : Func) → IsDone q (task_at q.memo.trees key) f → IsJobOutcome p q job (Ok f)
found_job p q job key k f d = record {
  answer = record {
    values = found_values p q k.kept (task_of job) f k.in_order (the_job p q (task_of job) key k f d);
    parts = d.parts;
    restricted = λ is. adds_none p.groupings q.groupings k.groupings (job_parts p job);
  };
  overflow = λ at e. cc;
}

pub found_remembered : (p q : Package) (t : Task) (key : JobKey) → Keyed p q t key → (f : Func) → IsDone q (task_at q.memo.trees key) f → IsRemembered q t f
found_remembered p q t key k f d = (the_job p q t key k f d).there

pub found_finished : {E : Type 0} (p q : Package) (t : Task) (key : JobKey) → Keyed p q t key → (f : Func) → IsDone q (task_at q.memo.trees key) f → ((r : Func) → IsRemembered p t r → q ≡ p) → AnswersFinished {E = E} p q t (Ok f)
found_finished p q t key k f d known = found_answers p q k.kept t f (the_job p q t key k f d) known

-- the same in one package
pub found_here : (p : Package) (t : Task) (f : Func) → IsDone p t f → IsOutcome p p t (Ok f)
found_here p t f d = record {
  answer = record { values = d.is_it.values; added = adds_none p.groupings p.groupings refl (product_parts p t ++ function_parts p f); parts = d.parts };
  overflow = λ at e. cc;
}

pub finished_here : {E : Type 0} (p : Package) (t : Task) (f : Func) → IsDone p t f → AnswersFinished {E = E} p p t (Ok f)
finished_here p t f d = found_answers p p (Keeps-same p) t f d (λ r h. refl)

-- Where it wasn't, nothing is asked of the answer by what was finished.
pub undone_here : {E : Type 0} (p r : Package) (t : Task) → IsUndone p.memo t → (result : Result Func E) → AnswersFinished p r t result
undone_here p r t undone result f h = absurd (undone f h)

pub new_finished : {E : Type 0} (p q r : Package) (t : Task) (key : JobKey) → Keyed p q t key → IsUndone q.memo (task_at q.memo.trees key) → (result : Result Func E) → AnswersFinished p r t result
new_finished p q r t key k undone result = new_answers p q r k.kept t (subst (λ (u : Task). IsUndone q.memo u) k.is_key.is_it undone) result

-- The job's function, made in a package `r` of the same jobs, can be remembered.
pub new_told : (q r : Package) (key : JobKey) → r.memo ≡ q.memo → IsTold q.memo.trees key → IsTold r.memo.trees key
new_told q r key same h = subst (λ (m : Remembered). IsTold m.trees key) (sym same) h

pub new_undone : (q r : Package) (key : JobKey) → r.memo ≡ q.memo → IsUndone q.memo (task_at q.memo.trees key) → IsUndone r.memo (task_at r.memo.trees key)
new_undone q r key same h = subst (λ (m : Remembered). IsUndone m (task_at m.trees key)) (sym same) h

key_there : (p q r : Package) (t : Task) (key : JobKey) → Keyed p q t key → r.memo ≡ q.memo → task_at r.memo.trees key ≡ t
key_there p q r t key k same = ap (λ (m : Remembered). task_at m.trees key) same ∙ k.is_key.is_it

pub new_is_it : (p q r : Package) (t : Task) (key : JobKey) → Keyed p q t key → r.memo ≡ q.memo → Keeps q r → (f : Func) → HasValues r f (task_level t) (task_value q t) → Finishes r (task_at r.memo.trees key) f
new_is_it p q r t key k same kept f h =
    subst (λ (u : Task). Finishes r u f) (sym (key_there p q r t key k same)) (new_finishes q r kept t f (in_order_kept p q k.kept t k.in_order) h)

-- what a product is made of is read off the groupings
products_same : (p q : Package) → q.groupings ≡ p.groupings → (t : Task) → product_parts q t ≡ product_parts p t
products_same p q e (task.Const level v) = refl
products_same p q e (task.Var level i) = refl
products_same p q e (task.Map tree f) = refl
products_same p q e (task.Apply tree f g) = ap (λ (t : Groupings). pair_parts (package_of t [] no_job) f g) e
products_same p q e (task.Ternary tree f g h) = ap (λ (t : Groupings). triple_parts (package_of t [] no_job) f g h) e
products_same p q e (task.Restrict f i b) = refl
products_same p q e (task.Kron f g) = refl
products_same p q e (task.Matmul f g) = refl
products_same p q e (task.Transpose f) = refl
products_same p q e (task.Id level) = refl
products_same p q e (task.Walsh level) = refl
products_same p q e (task.UnitAt level r c) = refl

-- What answers the job in the package after the look-up answers it in the package before.
moved_answer : (p q r : Package) (t : Task) (key : JobKey) → Keyed p q t key → (f : Func) → Answers q r t f → Answers p r t f
moved_answer p q r t key k f a = record {
  values = subst (λ (v : List Bool → Option ℤ). HasValues r f (task_level t) v) (task_value_kept p q k.kept t k.in_order) a.values;
  added = subst (λ (ps : List Pattern). AddsOnly p.groupings.levels r.groupings.levels (ps ++ function_parts r f)) (products_same p q k.groupings t)
      (subst (λ (g : Groupings). AddsOnly g.levels r.groupings.levels (product_parts q t ++ function_parts r f)) k.groupings a.added);
  parts = a.parts;
}

moved_job : (p q r : Package) (job : Job) (key : JobKey) → Keyed p q (task_of job) key → (f : Func) → AnswersJob q r job f → AnswersJob p r job f
moved_job p q r job key k f a =
    let same = task_value_kept p q k.kept (task_of job) k.in_order in
    let parts : (List Bool → Option ℤ) → List Pattern = λ v. subs (flat_pattern (tabulated (job_level job) (λ bits. unwrap_or (v bits) (pos 0))) ∷ []) in
    record {
      values = subst (λ (v : List Bool → Option ℤ). HasValues r f (job_level job) v) same a.values;
      parts = a.parts;
      restricted = λ is. subst (λ (v : List Bool → Option ℤ). AddsOnly p.groupings.levels r.groupings.levels (parts v)) same
          (subst (λ (g : Groupings). AddsOnly g.levels r.groupings.levels (job_parts q job)) k.groupings (a.restricted is));
    }

pub moved_outcome : (p q r : Package) (t : Task) (key : JobKey) → Keyed p q t key → (result : Result Func OpFault) → IsOutcome q r t result → IsOutcome p r t result
moved_outcome p q r t key k (Ok f) h = record { answer = moved_answer p q r t key k f h.answer; overflow = λ at e. cc }
moved_outcome p q r t key k (Err e) h = record { answer = tt; overflow = new_overflow p q k.kept t k.in_order (Err e) h.overflow }

pub moved_job_outcome : (p q r : Package) (job : Job) (key : JobKey) → Keyed p q (task_of job) key → (result : Result Func OpFault) → IsJobOutcome q r job result → IsJobOutcome p r job result
moved_job_outcome p q r job key k (Ok f) h = record { answer = moved_job p q r job key k f h.answer; overflow = λ at e. cc }
moved_job_outcome p q r job key k (Err e) h = record { answer = tt; overflow = new_overflow p q k.kept (task_of job) k.in_order (Err e) h.overflow }

-- An outcome from its parts: a function that answers, or a fault.
pub answered : (p q : Package) (t : Task) (f : Func) → HasValues q f (task_level t) (task_value p t) → AddsOnly p.groupings.levels q.groupings.levels (product_parts p t ++ function_parts q f) → HasParts q f → IsOutcome p q t (Ok f)
answered p q t f values added parts = record { answer = record { values = values; added = added; parts = parts }; overflow = λ at e. cc }

pub made_outcome : (p q : Package) (job : Job) (f : Func) → HasValues q f (job_level job) (job_value p job) → HasParts q f → (IsRestriction job → AddsOnly p.groupings.levels q.groupings.levels (job_parts p job)) → IsJobOutcome p q job (Ok f)
made_outcome p q job f values parts restricted = record { answer = record { values = values; parts = parts; restricted = restricted }; overflow = λ at e. cc }

pub overflowed : (p q : Package) (t : Task) (fault : OpFault) → ((at : Assignment) → fault ≡ OpFault.Overflow at → IsLeastWithout (task_level t) (task_value p t) (bits at)) → IsOutcome p q t (Err fault)
overflowed p q t fault least = record { answer = tt; overflow = λ at e. least at (err_same {T = Func} fault (OpFault.Overflow at) e) }

-- Once the function is remembered, in the package `s`, it is the answer.
pub entered_outcome : (p q r s : Package) (t : Task) (key : JobKey) → Keyed p q t key → (f : Func) → s ≡ with_job r key f → Answers q r t f → IsOutcome p s t (Ok f)
entered_outcome p q r s t key k f e h =
    let a = moved_answer p q r t key k f h in
    subst (λ (x : Package). IsOutcome p x t (Ok f)) (sym e) (record {
      answer = record {
        values = values_kept r (with_job r key f) (remember_keeps r key f) f (task_level t) (task_value p t) a.values;
        added = a.added;
        parts = a.parts;
      };
      overflow = λ at e. cc;
    })

pub entered_job : (p q r s : Package) (job : Job) (key : JobKey) → Keyed p q (task_of job) key → (f : Func) → s ≡ with_job r key f → AnswersJob q r job f → IsJobOutcome p s job (Ok f)
entered_job p q r s job key k f e h =
    let a = moved_job p q r job key k f h in
    subst (λ (x : Package). IsJobOutcome p x job (Ok f)) (sym e) (record {
      answer = record {
        values = values_kept r (with_job r key f) (remember_keeps r key f) f (job_level job) (task_value p (task_of job)) a.values;
        parts = a.parts;
        restricted = a.restricted;
      };
      overflow = λ at e. cc;
    })

pub entered_remembered : (p q r s : Package) (t : Task) (key : JobKey) → Keyed p q t key → r.memo ≡ q.memo → (f : Func) → s ≡ with_job r key f → IsRemembered s t f
entered_remembered p q r s t key k same f e =
    subst (λ (x : Package). IsRemembered x t f) (sym e) (new_remembered r key t f (key_there p q r t key k same))

pub entered_kept : (p q r s : Package) (key : JobKey) (f : Func) → s ≡ with_job r key f → Keeps p q → Keeps q r → Keeps p s
entered_kept p q r s key f e a b =
    subst (λ (x : Package). Keeps p x) (sym e) (Keeps-trans p r (with_job r key f) (Keeps-trans p q r a b) (remember_keeps r key f))

-- and where it wasn't for want of memory, nothing changed since it was made
pub unentered_kept : (p q r s : Package) → s ≡ r → Keeps p q → Keeps q r → Keeps p s
unentered_kept p q r s e a b = subst (λ (x : Package). Keeps p x) (sym e) (Keeps-trans p q r a b)

-- the product takes as many steps as its groupings say
pub steps_moved : (p q : Package) → q.groupings ≡ p.groupings → (f g : Func) (before now : ℕ) → now ≤ before + pair_steps q f g → now ≤ before + pair_steps p f g
steps_moved p q e f g before now h = subst (λ (t : Groupings). now ≤ before + pair_steps (package_of t q.lists q.memo) f g) e h

-- the values of what an operation answers
pub outcome_values : (p q : Package) (t : Task) (result : Result Func OpFault) → IsOutcome p q t result → IfOk result (λ f. HasValues q f (task_level t) (task_value p t))
outcome_values p q t (Ok f) h = h.answer.values
outcome_values p q t (Err fault) h = tt
