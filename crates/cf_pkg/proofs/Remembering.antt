use Rattle.std.proofs.Common.{◌≡◌, ℕ, ℤ, List, ◌<◌, ◌≤◌, ◌^◌, [], ◌∷◌, pos, Option, Some, None, IfNone, MatchOption, OnOk, OnErr, Result, Ok, Err, refl, sym, subst, arith, inl, inr}
use Rattle.std.specs.List.{All, slice_get}
use Rattle.cf_build.specs.Assembling.{Stands}
use Rattle.cf_model.specs.Values.{Fits}
use Rattle.std.specs.Prelude.{Contains, if◌then◌else◌}
use Rattle.cf_model.specs.Assignments.{bit_at}
use Rattle.cf_model.specs.Diagrams.{count, IsGood, Extends}
use Rattle.cf_model.proofs.Callees.{sub_in}
use Rattle.cf_model.proofs.Growing.{Extends-refl}
use Rattle.cf_tuple.specs.Books.{Lengthens as KeepsTuples}
use Rattle.cf_values.specs.Books.{Lengthens}
use Rattle.cf_values.proofs.BookLaws.{Lengthens-same}
use Rattle.cf_table.specs.Groupings.{Groupings}
use Rattle.cf_pair.specs.Products.{AddsPartsOf}
use Rattle.cf_table.specs.declared.Gid.{Gid}
use Rattle.cf_pkg.specs.declared.Func.{Func}
use Rattle.cf_pkg.specs.declared.memo.JobKey.{JobKey}
use Rattle.cf_pkg.specs.Basics.{constant_pattern, variable_pattern}
use Rattle.cf_pkg.specs.Tasks.{Task}
use Rattle.cf_pkg.specs.Tasks as task
use Rattle.cf_pkg.specs.Memos.{Remembered, task_at, finished, IsFinished, IsUndone, IsAnswer, with_entry}
use Rattle.cf_pkg.specs.Packages.{Package, package_of, OwnsFunction, Keeps, HasParts, AddsParts}
use Rattle.cf_pkg.specs.Jobs.{task_level, Finishes}
use Rattle.cf_pkg.specs.Remembering.{IsSound, IsDone, FinishesBelow}
use Rattle.cf_pkg.proofs.Keeping.{keeps, constant_means, variable_means}
use Rattle.cf_pkg.proofs.Memos.{entered_before, entered_cases}
use Rattle.cf_pkg.proofs.Finishing.{finishes_kept, means_has}

-- a package that kept all and remembers the same jobs is sound
pub sound_kept : (p q : Package) → Keeps p q → q.memo ≡ p.memo → All (All Fits) q.lists → IsSound p → IsSound q
sound_kept p q k same fit s = record {
  fit = fit;
  finished = λ t f h. finishes_kept p q k t f (s.finished t f (subst (λ (m : Remembered). IsFinished m t f) same h));
}

-- as its table and its values grow
pub sound_grown : (t u : Groupings) (lists more : List (List ℤ)) (m : Remembered) → IsGood t.levels → Extends t.levels u.levels → KeepsTuples t.tuples u.tuples → Lengthens lists more
    → All (All Fits) more → IsSound (package_of t lists m) → IsSound (package_of u more m)
sound_grown t u lists more m good x tuples longer fit s = sound_kept (package_of t lists m) (package_of u more m) (keeps (package_of t lists m) (package_of u more m) good x tuples longer refl) refl fit s

pub sound_valued : (t : Groupings) (lists more : List (List ℤ)) (m : Remembered) → IsGood t.levels → Lengthens lists more → All (All Fits) more → IsSound (package_of t lists m) → IsSound (package_of t more m)
sound_valued t lists more m good longer fit s = sound_grown t t lists more m good (Extends-refl t.levels) (record { more = omega arith; kept = λ i h. refl }) longer fit s

pub sound_above : (t u : Groupings) (lists : List (List ℤ)) (m : Remembered) → IsGood t.levels → Extends t.levels u.levels → KeepsTuples t.tuples u.tuples
    → IsSound (package_of t lists m) → IsSound (package_of u lists m)
sound_above t u lists m good x tuples s = sound_grown t u lists lists m good x tuples (Lengthens-same lists lists refl) s.fit s

-- the same of a package that is shown by its table and its values
pub sound_shown : (p : Package) (t u : Groupings) (lists : List (List ℤ)) (m : Remembered) → package_of t lists m ≡ p → IsGood p.groupings.levels → Extends t.levels u.levels → KeepsTuples t.tuples u.tuples
    → IsSound (package_of t lists m) → IsSound (package_of u lists m)
sound_shown p t u lists m is good x tuples s = sound_above t u lists m (subst (λ (q : Package). IsGood q.groupings.levels) (sym is) good) x tuples s

-- other trees, and the same finished jobs
pub told_keeps : (p : Package) (m : Remembered) → finished m ≡ finished p.memo → Keeps p (package_of p.groupings p.lists m)
told_keeps p m same = record {
  groupings = Extends-refl p.groupings.levels;
  tuples = record { more = omega arith; kept = λ i h. refl };
  lists = Lengthens-same p.lists p.lists refl;
  functions = λ f o. record { owned = record { head = o.head; list = o.list; valued = o.valued }; is_it = refl };
  jobs = λ t f h. subst (λ (v : List (Task × Func)). Contains v (t, f)) (sym same) h;
}

pub sound_told : (p q : Package) → Keeps p q → finished q.memo ≡ finished p.memo → q.lists ≡ p.lists → IsSound p → IsSound q
sound_told p q k same lists s = record {
  fit = subst (λ (v : List (List ℤ)). All (All Fits) v) (sym lists) s.fit;
  finished = λ t f h. finishes_kept p q k t f (s.finished t f (subst (λ (v : List (Task × Func)). Contains v (t, f)) same h));
}

-- the functions that their groupings and values make
pub constant_is : (q : Package) (f : Func) (level : ℕ) (z : ℤ) → level ≤ 7 → IsGood q.groupings.levels → Stands q.groupings.levels f.head level (constant_pattern level) → slice_get q.lists f.vals.at ≡ Some (z ∷ [])
    → Finishes q (task.Const level z) f
constant_is q f level z low good s there = record { in_order = low; values = means_has q f level (λ bits. z) s.level (constant_means q f.head f.vals.at level z good s there) }

pub variable_is : (q : Package) (f : Func) (level i : ℕ) → level ≤ 7 → i < 2 ^ level → IsGood q.groupings.levels → Stands q.groupings.levels f.head level (variable_pattern level i) → slice_get q.lists f.vals.at ≡ Some (pos 0 ∷ pos 1 ∷ [])
    → Finishes q (task.Var level i) f
variable_is q f level i low h good s there =
    record { in_order = (low, h); values = means_has q f level (λ bits. if bit_at bits i then pos 1 else pos 0) s.level (variable_means q f.head f.vals.at level i h good s there) }

abbrev pub with_job : Package → JobKey → Func → Package
with_job p key f = record p { memo = with_entry p.memo key f }

-- what is remembered beside what there was
pub remember_keeps : (p : Package) (key : JobKey) (f : Func) → Keeps p (with_job p key f)
remember_keeps p key f = record {
  groupings = Extends-refl p.groupings.levels;
  tuples = record { more = omega arith; kept = λ i h. refl };
  lists = Lengthens-same p.lists p.lists refl;
  functions = λ g o. record { owned = record { head = o.head; list = o.list; valued = o.valued }; is_it = refl };
  jobs = λ t g h. entered_before p.memo key f t g h;
}

-- all parts of an owned function are in the table
pub parts_there : (p : Package) → IsGood p.groupings.levels → (f : Func) → OwnsFunction p f → HasParts p f
parts_there p good f o = sub_in p.groupings.levels good f.head.level f.head.at o.head

-- what the memo answers is the job's function
pub done : (p : Package) → IsGood p.groupings.levels → IsSound p → (t : Task) (o : Option Func) → MatchOption o (IsUndone p.memo t) (IsAnswer p.memo t) → MatchOption o (IsUndone p.memo t) (IsDone p t)
done p good s t None h = h
done p good s t (Some f) h =
    let is_it = s.finished t f h.there in
    record { there = h.there; alone = h.alone; is_it = is_it; parts = parts_there p good f is_it.values.owned }

pub sound_with : (p : Package) → IsSound p → (key : JobKey) (f : Func) → Finishes p (task_at p.memo.trees key) f → IsSound (with_job p key f)
sound_with p s key f is = record {
  fit = s.fit;
  finished = λ t g h.
      (let kept = remember_keeps p key f in
      elim (entered_cases p.memo key f t g h) [
        | inl x ↦ finishes_kept p (with_job p key f) kept t g (s.finished t g x)
        | inr e ↦ finishes_kept p (with_job p key f) kept t g (subst (λ (u : Task). Finishes p u g) e.0 (subst (λ (k : Func). Finishes p (task_at p.memo.trees key) k) e.1 is))
      ]);
}

-- a package stays sound, whether its memo took the job or not
pub sound_entered : {E : Type 0} (p : Package) → IsSound p → (key : JobKey) (f : Func) → Finishes p (task_at p.memo.trees key) f → (m : Remembered) (result : Result (Unit {0}) E)
    → OnOk result (m ≡ with_entry p.memo key f) → OnErr result (m ≡ p.memo) → IsSound (package_of p.groupings p.lists m)
sound_entered p s key f is m (Ok u) ok err = subst (λ (n : Remembered). IsSound (package_of p.groupings p.lists n)) (sym ok) (sound_with p s key f is)
sound_entered p s key f is m (Err e) ok err = subst (λ (n : Remembered). IsSound (package_of p.groupings p.lists n)) (sym err) s

-- Jobs of levels below a limit were finished: one of the limit's level that wasn't still isn't.
pub undone_below : (p q : Package) (t : Task) → IsUndone p.memo t → FinishesBelow p q (task_level t) → IsUndone q.memo t
undone_below p q t undone below f h = elim (below t f h) [
  | inl x ↦ undone f x
  | inr lt ↦ absurd (omega (arith, lt))
]

pub below_same : (p : Package) (limit : ℕ) → FinishesBelow p p limit
below_same p limit t f h = inl h

pub below_memo : (p q r : Package) (limit more : ℕ) → r.memo ≡ q.memo → limit ≤ more → FinishesBelow p q limit → FinishesBelow p r more
below_memo p q r limit more same le below t f h = elim (below t f (subst (λ (m : Remembered). IsFinished m t f) same h)) [
  | inl x ↦ inl x
  | inr lt ↦ inr (omega (arith, lt, le))
]

pub below_with : (p q : Package) (key : JobKey) (f : Func) (limit : ℕ) → FinishesBelow p q limit → task_level (task_at q.memo.trees key) < limit → FinishesBelow p (with_job q key f) limit
below_with p q key f limit below lt t g h = elim (entered_cases q.memo key f t g h) [
  | inl x ↦ below t g x
  | inr e ↦ inr (subst (λ (u : Task). task_level u < limit) e.0 lt)
]

pub below_both : (p q r : Package) (limit : ℕ) → FinishesBelow p q limit → FinishesBelow q r limit → FinishesBelow p r limit
below_both p q r limit a b t f h = elim (b t f h) [
  | inl x ↦ a t f x
  | inr lt ↦ inr lt
]

-- A function's grouping stands as it was made.
pub stands_known : (q r : Package) (h : Gid) (f : Func) (l : ℕ) (ranks : List ℕ) → r.groupings ≡ q.groupings → f.head ≡ h → Stands q.groupings.levels h l ranks → Stands r.groupings.levels f.head l ranks
stands_known q r h f l ranks same head s =
    subst (λ (g : Groupings). Stands g.levels f.head l ranks) (sym same) (subst (λ (g : Gid). Stands q.groupings.levels g l ranks) (sym head) s)

-- What a basic job's function is known by once it was remembered in the package `s`, and made in `r` by a grouping of `q`.
pub known_is_it : (r s : Package) (key : JobKey) (t : Task) (f : Func) → s ≡ with_job r key f → Finishes r t f → Finishes s t f
known_is_it r s key t f e is = subst (λ (x : Package). Finishes x t f) (sym e) (finishes_kept r (with_job r key f) (remember_keeps r key f) t f is)

pub known_below : (p q r s : Package) (key : JobKey) (f : Func) (low limit : ℕ) → s ≡ with_job r key f → r.memo ≡ q.memo → low ≤ limit → task_level (task_at r.memo.trees key) < limit → FinishesBelow p q low → FinishesBelow p s limit
known_below p q r s key f low limit e same le lt below =
    subst (λ (x : Package). FinishesBelow p x limit) (sym e) (below_with p r key f limit (below_memo p q r low limit same le below) lt)

-- What was added for a grouping was added for a function of it that was remembered.
pub added_known : (p q r s : Package) (key : JobKey) (h : Gid) (f : Func) → r.groupings ≡ q.groupings → f.head ≡ h → s ≡ with_job r key f → AddsPartsOf p.groupings q.groupings h → AddsParts p s f
added_known p q r s key h f same head e a =
    subst (λ (x : Package). AddsParts p x f) (sym e)
    (subst (λ (g : Groupings). AddsPartsOf p.groupings g f.head) (sym same) (subst (λ (g : Gid). AddsPartsOf p.groupings q.groupings g) (sym head) a))

-- and such a function's parts are in the table
pub parts_known : (r s : Package) (key : JobKey) (f : Func) → IsGood r.groupings.levels → f.head.at < count r.groupings.levels f.head.level → s ≡ with_job r key f → HasParts s f
parts_known r s key f good there e = subst (λ (x : Package). HasParts x f) (sym e) (sub_in r.groupings.levels good f.head.level f.head.at there)

-- where a look-up finds nothing, what it says of nothing holds
pub none-of : {A : Type 0} (o : Option A) (U : Type 0) (D : A → Type 0) → MatchOption o U D → IfNone o U
none-of None U D h = h
none-of (Some x) U D h = tt
