use Rattle.std.proofs.Common.{◌≡◌, ℕ, List, [], ◌∷◌, ◌++◌, map, Bool, true, false, get_or, Option, Some, None, MatchOption, refl, sym, ◌∙◌, ap, subst, arith, inl, inr, ◌⊎◌}
use Rattle.std.specs.List.{All, slice_get}
use Rattle.std.specs.Map.{lookup}
use Rattle.std.specs.Prelude.{Contains}
use Rattle.std.proofs.lemmas.List.{map_push, length_push, get_or_append_left}
use Rattle.std.proofs.lemmas.List.Elements.{All-nil, All-push, Contains-append_left, Contains-get_or, Contains-push, Contains-push_cases}
use Rattle.std.proofs.lemmas.Map.Entries.{place_from_lookup, lookup_head, lookup_tail}
use Rattle.std.proofs.lemmas.Option.{same_Some, slice_get-get_or, slice_get_within, get_or_from_slice_get}
use Rattle.cf_model.specs.Renumbering.{AllDiffer, IsNew}
use Rattle.cf_model.specs.declared.terms.Term.{Term, One', Fold', Ite'}
use Rattle.cf_pkg.specs.declared.Func.{Func}
use Rattle.cf_pkg.specs.declared.memo.Operation.{Operation}
use Rattle.cf_pkg.specs.declared.memo.Operation.TheVariants.{One, Two, Choice, Tree}
use Rattle.cf_pkg.specs.declared.memo.Alone.TheVariants.{Constant, Variable, Identity, Walsh, Unit as UnitAt}
use Rattle.cf_pkg.specs.declared.memo.OfOne.TheVariants.{Map, Restrict, Transpose}
use Rattle.cf_pkg.specs.declared.memo.OfTwo.TheVariants.{Apply, Kron, Matmul}
use Rattle.cf_pkg.specs.declared.memo.JobKey.{JobKey}
use Rattle.cf_pkg.specs.declared.memo.JobKey.TheVariants as key
use Rattle.cf_pkg.specs.Tasks.{Task}
use Rattle.cf_pkg.specs.Tasks as task
use Rattle.cf_pkg.specs.Memos.{Remembered, no_job, tree_at, task_at, entry_of, finished, IsFinished, IsUndone, IsAnswer, IsWordless, IsPlaced, IsOperation, IsTold, HasKey, HasTree, IsMemo, EntersTree, with_entry}
use Rattle.cf_pkg.specs.declared.jobs.Job.{Job}
use Rattle.cf_pkg.specs.Jobs.{task_of}
use Rattle.cf_pkg.proofs.Keys.{same, same_key, same_again}
use Rattle.cf_model.proofs.CanonLaws.{AllDiffer-push}
use Rattle.cf_pkg.proofs.Members.{none, here, later, first_or_later, mapped, from_mapped}

-- the operation whose word stands first in a tree
abbrev first_word : Term → Option Operation
first_word (One' word shape row) = Some (One word)
first_word (Fold' word shape row) = Some (Two word)
first_word (Ite' shape_a a shape_b b shape_c c) = Some Choice
first_word other = None

one_word : (o p : Operation) → Some o ≡ first_word (tree_at [] o) → first_word (tree_at [] p) ≡ Some p → tree_at [] o ≡ tree_at [] p → o ≡ p
one_word o p h k e = same_Some o p (h ∙ ap first_word e ∙ k)

-- equal trees have one operation
same_operation : (trees : List Term) → AllDiffer trees → All IsWordless trees → (o p : Operation) → IsPlaced trees o → IsPlaced trees p → tree_at trees o ≡ tree_at trees p → o ≡ p
same_operation trees differ wordless (Tree i) (Tree j) h k e =
    ap (λ (n : ℕ). Operation.Tree n) (differ i j (get_or trees i Term.X) (slice_get-get_or trees i Term.X h) (slice_get-get_or trees j Term.X k ∙ ap Some (sym e)))
same_operation trees differ wordless (Tree i) (One w) h k e = absurd ((wordless i Term.X h).one w (sym e))
same_operation trees differ wordless (Tree i) (Two w) h k e = absurd ((wordless i Term.X h).two w (sym e))
same_operation trees differ wordless (Tree i) Choice h k e = absurd ((wordless i Term.X h).choice (sym e))
same_operation trees differ wordless (One v) (Tree j) h k e = absurd ((wordless j Term.X k).one v e)
same_operation trees differ wordless (Two v) (Tree j) h k e = absurd ((wordless j Term.X k).two v e)
same_operation trees differ wordless Choice (Tree j) h k e = absurd ((wordless j Term.X k).choice e)
same_operation trees differ wordless (One v) (One w) h k e = one_word (One v) (One w) refl refl e
same_operation trees differ wordless (One v) (Two w) h k e = one_word (One v) (Two w) refl refl e
same_operation trees differ wordless (One v) Choice h k e = one_word (One v) Choice refl refl e
same_operation trees differ wordless (Two v) (One w) h k e = one_word (Two v) (One w) refl refl e
same_operation trees differ wordless (Two v) (Two w) h k e = one_word (Two v) (Two w) refl refl e
same_operation trees differ wordless (Two v) Choice h k e = one_word (Two v) Choice refl refl e
same_operation trees differ wordless Choice (One w) h k e = one_word Choice (One w) refl refl e
same_operation trees differ wordless Choice (Two w) h k e = one_word Choice (Two w) refl refl e
same_operation trees differ wordless Choice Choice h k e = refl

-- A key can be found from the job that it is of.
abbrev IsFrom : List Term → Task → JobKey → Type 0
IsFrom trees (task.Const level v) k = k ≡ key.Alone (Constant level v)
IsFrom trees (task.Var level i) k = k ≡ key.Alone (Variable level i)
IsFrom trees (task.Map tree f) k = (o : Operation) × IsOperation trees o tree × (k ≡ key.OfOne (Map o) f)
IsFrom trees (task.Apply tree f g) k = (o : Operation) × IsOperation trees o tree × (k ≡ key.OfTwo (Apply o) f g)
IsFrom trees (task.Ternary tree f g h) k = (o : Operation) × IsOperation trees o tree × (k ≡ key.OfThree o f g h)
IsFrom trees (task.Restrict f i b) k = k ≡ key.OfOne (Restrict i b) f
IsFrom trees (task.Kron f g) k = k ≡ key.OfTwo Kron f g
IsFrom trees (task.Matmul f g) k = k ≡ key.OfTwo Matmul f g
IsFrom trees (task.Transpose f) k = k ≡ key.OfOne Transpose f
IsFrom trees (task.Id level) k = k ≡ key.Alone (Identity level)
IsFrom trees (task.Walsh level) k = k ≡ key.Alone (Walsh level)
IsFrom trees (task.UnitAt level r c) k = k ≡ key.Alone (UnitAt level r c)

from_its_job : (trees : List Term) → (k : JobKey) → IsTold trees k → IsFrom trees (task_at trees k) k
from_its_job trees (key.Alone (Constant level v)) h = refl
from_its_job trees (key.Alone (Variable level i)) h = refl
from_its_job trees (key.Alone (Identity level)) h = refl
from_its_job trees (key.Alone (Walsh level)) h = refl
from_its_job trees (key.Alone (UnitAt level r c)) h = refl
from_its_job trees (key.OfOne (Map o) f) h = (o, record { placed = h; is_it = refl }, refl)
from_its_job trees (key.OfOne (Restrict i b) f) h = refl
from_its_job trees (key.OfOne Transpose f) h = refl
from_its_job trees (key.OfTwo (Apply o) f g) h = (o, record { placed = h; is_it = refl }, refl)
from_its_job trees (key.OfTwo Kron f g) h = refl
from_its_job trees (key.OfTwo Matmul f g) h = refl
from_its_job trees (key.OfThree o f g i) h = (o, record { placed = h; is_it = refl }, refl)

one_operation : (trees : List Term) → AllDiffer trees → All IsWordless trees → (tree : Term) (o p : Operation) → IsOperation trees o tree → IsOperation trees p tree → o ≡ p
one_operation trees differ wordless tree o p h k = same_operation trees differ wordless o p h.placed k.placed (h.is_it ∙ sym k.is_it)

one_key : (trees : List Term) → AllDiffer trees → All IsWordless trees → (t : Task) (k l : JobKey) → IsFrom trees t k → IsFrom trees t l → k ≡ l
one_key trees differ wordless (task.Const level v) k l h i = h ∙ sym i
one_key trees differ wordless (task.Var level j) k l h i = h ∙ sym i
one_key trees differ wordless (task.Map tree f) k l h i =
    h.2 ∙ ap (λ (o : Operation). key.OfOne (Map o) f) (one_operation trees differ wordless tree h.0 i.0 h.1 i.1) ∙ sym i.2
one_key trees differ wordless (task.Apply tree f g) k l h i =
    h.2 ∙ ap (λ (o : Operation). key.OfTwo (Apply o) f g) (one_operation trees differ wordless tree h.0 i.0 h.1 i.1) ∙ sym i.2
one_key trees differ wordless (task.Ternary tree f g j) k l h i =
    h.2 ∙ ap (λ (o : Operation). key.OfThree o f g j) (one_operation trees differ wordless tree h.0 i.0 h.1 i.1) ∙ sym i.2
one_key trees differ wordless (task.Restrict f j b) k l h i = h ∙ sym i
one_key trees differ wordless (task.Kron f g) k l h i = h ∙ sym i
one_key trees differ wordless (task.Matmul f g) k l h i = h ∙ sym i
one_key trees differ wordless (task.Transpose f) k l h i = h ∙ sym i
one_key trees differ wordless (task.Id level) k l h i = h ∙ sym i
one_key trees differ wordless (task.Walsh level) k l h i = h ∙ sym i
one_key trees differ wordless (task.UnitAt level r c) k l h i = h ∙ sym i

-- two keys of one job are equal
pub same_job : (m : Remembered) → IsMemo m → (k l : JobKey) → IsTold m.trees k → IsTold m.trees l → task_at m.trees k ≡ task_at m.trees l → k ≡ l
same_job m is k l h i e =
    one_key m.trees is.differ is.wordless (task_at m.trees l) k l (subst (λ (t : Task). IsFrom m.trees t k) e (from_its_job m.trees k h)) (from_its_job m.trees l i)

-- an entry is looked up by its key
looked_up : (es : List (JobKey × Func)) (k : JobKey) (f : Func) → Contains es (k, f) → lookup (same k) es ≡ None → ⊥
looked_up [] k f h e = none (k, f) h
looked_up (x ∷ es) k f h e = by (same k x.0) refl (looked_up es k f)
  where
    by : (b : Bool) → same k x.0 ≡ b → (Contains es (k, f) → lookup (same k) es ≡ None → ⊥) → ⊥
    by true w rest = absurd (let no : Some x.1 ≡ None = sym (lookup_head (same k) x es w) ∙ e in cc)
    by false w rest = elim (first_or_later (k, f) x es h) [
      | inl q ↦ absurd (let no : true ≡ false = sym (same_again k) ∙ ap (λ (y : JobKey × Func). same k y.0) (sym q) ∙ w in cc)
      | inr q ↦ rest q (sym (lookup_tail (same k) x es w) ∙ e)
    ]

pub member : {A : Type 0} (xs : List A) (i : ℕ) (x : A) → slice_get xs i ≡ Some x → Contains xs x
member {A} xs i x h = subst (λ (y : A). Contains xs y) (get_or_from_slice_get xs i x x h) (Contains-get_or xs i x (slice_get_within xs i x h))

task_in : (a b : Task) (f g : Func) → ◌≡◌ {A = Task × Func} (a, f) (b, g) → (a ≡ b) × (f ≡ g)
task_in a b f g e = (ap (λ (y : Task × Func). y.0) e, ap (λ (y : Task × Func). y.1) e)

-- what a look-up finds is the job's function, and where it finds none the job isn't finished
pub answered : (m : Remembered) → IsMemo m → (k : JobKey) → IsTold m.trees k → (o : Option Func) → o ≡ lookup (same k) m.entries → MatchOption o (IsUndone m (task_at m.trees k)) (IsAnswer m (task_at m.trees k))
answered m is k told None e = λ f h.
    (let found = from_mapped (entry_of m.trees) m.entries (task_at m.trees k, f) h in
    let entry = found.0 in
    let one : entry.0 ≡ k = same_job m is entry.0 k (is.told entry found.1) told (task_in (task_at m.trees entry.0) (task_at m.trees k) entry.1 f found.2).0 in
    looked_up m.entries k entry.1 (subst (λ (q : JobKey). Contains m.entries (q, entry.1)) one found.1) (sym e))
answered m is k told (Some f) e =
    let p = place_from_lookup (same k) m.entries f (sym e) in
    let one : k ≡ p.1 = same_key k p.1 p.3 in
    let there : IsFinished m (task_at m.trees k) f
    = mapped (entry_of m.trees) m.entries (k, f) (subst (λ (q : JobKey). Contains m.entries (q, f)) (sym one) (member m.entries p.0 (p.1, f) p.2)) in
    record { there = there; alone = λ g h. is.alone (task_at m.trees k) g f h there }

pub not_there : (m : Remembered) → IsMemo m → (k : JobKey) → IsTold m.trees k → IsUndone m (task_at m.trees k) → lookup (same k) m.entries ≡ None
not_there m is k told undone = by (lookup (same k) m.entries) refl
  where
    by : (o : Option Func) → lookup (same k) m.entries ≡ o → lookup (same k) m.entries ≡ None
    by None e = e
    by (Some f) e = absurd (undone f (answered m is k told (Some f) (sym e)).there)

-- one more job
entry_end : (m : Remembered) (k : JobKey) (f : Func) → finished (with_entry m k f) ≡ finished m ++ (task_at m.trees k, f) ∷ []
entry_end m k f = map_push (entry_of m.trees) m.entries (k, f)

pub entered_before : (m : Remembered) (k : JobKey) (f : Func) (t : Task) (g : Func) → IsFinished m t g → IsFinished (with_entry m k f) t g
entered_before m k f t g h = subst (λ (v : List (Task × Func)). Contains v (t, g)) (sym (entry_end m k f)) (Contains-append_left (finished m) ((task_at m.trees k, f) ∷ []) (t, g) h)

pub entered_last : (m : Remembered) (k : JobKey) (f : Func) → IsFinished (with_entry m k f) (task_at m.trees k) f
entered_last m k f = subst (λ (v : List (Task × Func)). Contains v (task_at m.trees k, f)) (sym (entry_end m k f))
    (Contains-push (finished m) (task_at m.trees k, f))

pub entered_cases : (m : Remembered) (k : JobKey) (f : Func) (t : Task) (g : Func) → IsFinished (with_entry m k f) t g → IsFinished m t g ⊎ ((task_at m.trees k ≡ t) × (f ≡ g))
entered_cases m k f t g h = elim (Contains-push_cases (finished m) (task_at m.trees k, f) (t, g) (subst (λ (v : List (Task × Func)). Contains v (t, g)) (entry_end m k f) h)) [
  | inl x ↦ inl x
  | inr e ↦ inr (task_in (task_at m.trees k) t f g e)
]

-- a memo stays one with a job that it hadn't
pub entered : (m : Remembered) → IsMemo m → (k : JobKey) (f : Func) → IsTold m.trees k → IsUndone m (task_at m.trees k) → IsMemo (with_entry m k f)
entered m is k f told undone = record {
  differ = is.differ;
  wordless = is.wordless;
  told = λ e h. elim (Contains-push_cases m.entries (k, f) e h) [
    | inl x ↦ is.told e x
    | inr q ↦ subst (λ (y : JobKey × Func). IsTold m.trees y.0) q told
  ];
  alone = λ t g h i j. elim (entered_cases m k f t g i) [
    | inl x ↦ elim (entered_cases m k f t h j) [
      | inl y ↦ is.alone t g h x y
      | inr y ↦ absurd (undone g (subst (λ (u : Task). IsFinished m u g) (sym y.0) x))
    ]
    | inr x ↦ elim (entered_cases m k f t h j) [
      | inl y ↦ absurd (undone h (subst (λ (u : Task). IsFinished m u h) (sym x.0) y))
      | inr y ↦ sym x.1 ∙ y.1
    ]
  ];
}

-- a tree more
placed_more : (trees : List Term) (tree : Term) (o : Operation) → IsPlaced trees o → IsPlaced (trees ++ tree ∷ []) o
placed_more trees tree (One w) h = h
placed_more trees tree (Two w) h = h
placed_more trees tree Choice h = h
placed_more trees tree (Tree i) h = omega (arith, h, length_push trees tree)

tree_more : (trees : List Term) (tree : Term) (o : Operation) → IsPlaced trees o → tree_at (trees ++ tree ∷ []) o ≡ tree_at trees o
tree_more trees tree (One w) h = refl
tree_more trees tree (Two w) h = refl
tree_more trees tree Choice h = refl
tree_more trees tree (Tree i) h = get_or_append_left trees (tree ∷ []) Term.X i h

told_more : (trees : List Term) (tree : Term) (k : JobKey) → IsTold trees k → IsTold (trees ++ tree ∷ []) k
told_more trees tree (key.Alone a) h = h
told_more trees tree (key.OfOne (Map o) f) h = placed_more trees tree o h
told_more trees tree (key.OfOne (Restrict i b) f) h = h
told_more trees tree (key.OfOne Transpose f) h = h
told_more trees tree (key.OfTwo (Apply o) f g) h = placed_more trees tree o h
told_more trees tree (key.OfTwo Kron f g) h = h
told_more trees tree (key.OfTwo Matmul f g) h = h
told_more trees tree (key.OfThree o f g i) h = placed_more trees tree o h

task_more : (trees : List Term) (tree : Term) (k : JobKey) → IsTold trees k → task_at (trees ++ tree ∷ []) k ≡ task_at trees k
task_more trees tree (key.Alone (Constant level v)) h = refl
task_more trees tree (key.Alone (Variable level i)) h = refl
task_more trees tree (key.Alone (Identity level)) h = refl
task_more trees tree (key.Alone (Walsh level)) h = refl
task_more trees tree (key.Alone (UnitAt level r c)) h = refl
task_more trees tree (key.OfOne (Map o) f) h = ap (λ (t : Term). task.Map t f) (tree_more trees tree o h)
task_more trees tree (key.OfOne (Restrict i b) f) h = refl
task_more trees tree (key.OfOne Transpose f) h = refl
task_more trees tree (key.OfTwo (Apply o) f g) h = ap (λ (t : Term). task.Apply t f g) (tree_more trees tree o h)
task_more trees tree (key.OfTwo Kron f g) h = refl
task_more trees tree (key.OfTwo Matmul f g) h = refl
task_more trees tree (key.OfThree o f g i) h = ap (λ (t : Term). task.Ternary t f g i) (tree_more trees tree o h)

abbrev beside : Func → Task → Task × Func
beside f t = (t, f)

entry_more : (trees : List Term) (tree : Term) (e : JobKey × Func) → IsTold trees e.0 → entry_of (trees ++ tree ∷ []) e ≡ entry_of trees e
entry_more trees tree e h = ap (beside e.1) (task_more trees tree e.0 h)

jobs_more : (trees : List Term) (tree : Term) (es : List (JobKey × Func)) → ((e : JobKey × Func) → Contains es e → IsTold trees e.0)
    → map (entry_of (trees ++ tree ∷ [])) es ≡ map (entry_of trees) es
jobs_more trees tree [] told = refl
jobs_more trees tree (e ∷ es) told =
    ap (λ (y : Task × Func). y ∷ map (entry_of (trees ++ tree ∷ [])) es) (entry_more trees tree e (told e (here e e es refl)))
    ∙ ap (λ (r : List (Task × Func)). entry_of trees e ∷ r) (jobs_more trees tree es (λ x h. told x (later x e es h)))

-- the memo with a tree that it hadn't
abbrev pub with_tree : Remembered → Term → Remembered
with_tree m tree = record m { trees = m.trees ++ tree ∷ [] }

pub tree_entered : (m : Remembered) → IsMemo m → (tree : Term) → EntersTree m (with_tree m tree)
tree_entered m is tree = record { jobs = jobs_more m.trees tree m.entries is.told; entries = refl; placed = placed_more m.trees tree }

pub grown : (m : Remembered) → IsMemo m → (tree : Term) → IsWordless tree → IsNew m.trees tree → IsMemo (with_tree m tree)
grown m is tree wordless new = record {
  differ = AllDiffer-push m.trees tree is.differ new;
  wordless = All-push IsWordless m.trees tree is.wordless wordless;
  told = λ e h. told_more m.trees tree e.0 (is.told e h);
  alone = λ t f g h i.
      (let same = jobs_more m.trees tree m.entries is.told in
      is.alone t f g (subst (λ (v : List (Task × Func)). Contains v (t, f)) same h) (subst (λ (v : List (Task × Func)). Contains v (t, g)) same i));
}

-- a tree that no word has and that isn't in the list has no operation
pub no_operation : (trees : List Term) (tree : Term) → IsWordless tree → IsNew trees tree → HasTree trees tree → ⊥
no_operation trees tree wordless new (One w, h) = wordless.one w h.is_it
no_operation trees tree wordless new (Two w, h) = wordless.two w h.is_it
no_operation trees tree wordless new (Choice, h) = wordless.choice h.is_it
no_operation trees tree wordless new (Tree i, h) = new i (slice_get-get_or trees i Term.X h.placed ∙ ap Some h.is_it)

-- a word's operation is one beside any trees
pub word_operation : (trees : List Term) (o : Operation) (tree : Term) → IsOperation [] o tree → IsOperation trees o tree
word_operation trees (One w) tree h = record { placed = tt; is_it = h.is_it }
word_operation trees (Two w) tree h = record { placed = tt; is_it = h.is_it }
word_operation trees Choice tree h = record { placed = tt; is_it = h.is_it }
word_operation trees (Tree i) tree h = absurd (omega (arith, h.placed))

-- a finished job has a key
pub has_key : (m : Remembered) → IsMemo m → (t : Task) (f : Func) → IsFinished m t f → HasKey m.trees t
has_key m is t f h =
    let found = from_mapped (entry_of m.trees) m.entries (t, f) h in
    (found.0.0, record { told = is.told found.0 found.1; is_it = (task_in (task_at m.trees found.0.0) t found.0.1 f found.2).0 })

from_job : (trees : List Term) (t : Task) → (h : HasKey trees t) → IsFrom trees t h.0
from_job trees t h = subst (λ (u : Task). IsFrom trees u h.0) h.1.is_it (from_its_job trees h.0 h.1.told)

-- An operation has the task's tree, if it has one.
abbrev HasItsTree : List Term → Task → Type 0
HasItsTree trees (task.Map tree f) = HasTree trees tree
HasItsTree trees (task.Apply tree f g) = HasTree trees tree
HasItsTree trees (task.Ternary tree f g h) = HasTree trees tree
HasItsTree trees other = Unit {0}

has_its_tree : (trees : List Term) (t : Task) (k : JobKey) → IsFrom trees t k → HasItsTree trees t
has_its_tree trees (task.Const level v) k h = tt
has_its_tree trees (task.Var level i) k h = tt
has_its_tree trees (task.Map tree f) k h = (h.0, h.1)
has_its_tree trees (task.Apply tree f g) k h = (h.0, h.1)
has_its_tree trees (task.Ternary tree f g i) k h = (h.0, h.1)
has_its_tree trees (task.Restrict f i b) k h = tt
has_its_tree trees (task.Kron f g) k h = tt
has_its_tree trees (task.Matmul f g) k h = tt
has_its_tree trees (task.Transpose f) k h = tt
has_its_tree trees (task.Id level) k h = tt
has_its_tree trees (task.Walsh level) k h = tt
has_its_tree trees (task.UnitAt level r c) k h = tt

-- An operation has the tree of a finished job, which is told by one of its arms.
pub job_tree : (inside m : Remembered) → IsMemo inside → inside ≡ m → (job arm : Job) → job ≡ arm → (r : Func) → IsFinished m (task_of job) r → HasItsTree m.trees (task_of arm)
job_tree inside m is shown job arm e r h =
    let key = has_key m (subst IsMemo shown is) (task_of arm) r (subst (λ (j : Job). IsFinished m (task_of j) r) e h) in
    has_its_tree m.trees (task_of arm) key.0 (from_job m.trees (task_of arm) key)

-- what an entry has is the job's function
pub entry-answers : (m : Remembered) → IsMemo m → (k : JobKey) (f : Func) → Contains m.entries (k, f)
    → IsAnswer m (task_at m.trees k) f
entry-answers m is k f h =
    let there = mapped (entry_of m.trees) m.entries (k, f) h in
    record { there = there; alone = λ g i. is.alone (task_at m.trees k) g f i there }

pub no-job-memo : IsMemo no_job
no-job-memo = record {
  differ = λ i j x h k. absurd (none-some' x h);
  wordless = All-nil IsWordless;
  told = λ e h. absurd (none e h);
  alone = λ t f g h k. absurd (none (t, f) h);
}
  where
    none-some' : (x : Term) → ◌≡◌ {A = Option Term} None (Some x) → ⊥
    none-some' x e = cc
