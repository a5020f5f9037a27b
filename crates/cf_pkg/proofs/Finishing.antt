use Rattle.std.proofs.Common.{◌≡◌, ℕ, ◌-◌, ◌^◌, ℤ, pos, ◌+ℤ◌, List, Bool, true, false, map, Option, Some, refl, sym, ◌∙◌, ap, subst, arith}
use Rattle.std.proofs.lemmas.Int.{ints}
use Rattle.std.specs.Prelude.{slice_index_or, if◌then◌else◌}
use Rattle.cf_model.specs.Assignments.{all_bits, bit_at, number_of}
use Rattle.cf_model.specs.FlatFunctions.{FlatFunction, value_at, tabulated}
use Rattle.cf_model.specs.Pointwise.{applied, restricted}
use Rattle.cf_model.specs.Matrices.{kronecker, product, transpose}
use Rattle.cf_model.specs.Renumbering.{IsCanon, width}
use Rattle.cf_model.specs.Diagrams.{IsGood, pattern}
use Rattle.cf_model.specs.Functions.{IsFunction}
use Rattle.cf_model.proofs.FlatFunctionLaws.{tabulated-value}
use Rattle.cf_model.proofs.FunctionLaws.{function_canon}
use Rattle.cf_model.proofs.CanonLaws.{canon_unique}
use Rattle.cf_model.proofs.RenumberingLaws.{numbers_from, grown_canon, canon-map, map_map}
use Rattle.cf_build.specs.Assembling.{Stands}
use Rattle.cf_pkg.specs.declared.Func.{Func}
use Rattle.cf_pkg.specs.Basics.{bit_exit, constant_pattern, variable_pattern}
use Rattle.cf_pkg.specs.Tasks.{Task}
use Rattle.cf_pkg.specs.Tasks as task
use Rattle.cf_table.specs.Groupings.{Groupings}
use Rattle.cf_pkg.specs.Memos.{Remembered, no_job}
use Rattle.cf_pkg.specs.Packages.{Package, package_of, OwnsFunction, Means, Keeps, meaning, values_of}
use Rattle.cf_pkg.specs.Jobs.{value_in, absent, AreLevel, IsTaskInOrder, task_level, task_value, HasValues, Finishes}
use Rattle.cf_pkg.proofs.Counts.{constant_grows, variable_grows}
use Rattle.cf_pkg.proofs.Spread.{map_same}
use Rattle.cf_pkg.proofs.Making.{listed}

-- a function has the values that it had
pub value_kept : (p q : Package) → Keeps p q → (f : Func) → OwnsFunction p f → value_in q f ≡ value_in p f
value_kept p q k f o =
    let read : FlatFunction → List Bool → ℤ = λ m bits. slice_index_or m.values (number_of bits) (pos 0) in
    ap read (k.functions f o).is_it

pub owned_kept : (p q : Package) → Keeps p q → (f : Func) → OwnsFunction p f → OwnsFunction q f
owned_kept p q k f o = (k.functions f o).owned

-- Where each function of a package is one of another too, a job in order in the first is in order in the second.
level_where : (p q : Package) → ((f : Func) → OwnsFunction p f → OwnsFunction q f) → (f g : Func) → AreLevel p f g → AreLevel q f g
level_where p q own f g a = record { first = own f a.first; second = own g a.second; level = a.level }

in_order_where : (p q : Package) → ((f : Func) → OwnsFunction p f → OwnsFunction q f) → (t : Task) → IsTaskInOrder p t → IsTaskInOrder q t
in_order_where p q own (task.Const level v) o = o
in_order_where p q own (task.Var level i) o = o
in_order_where p q own (task.Map tree f) o = own f o
in_order_where p q own (task.Apply tree f g) o = level_where p q own f g o
in_order_where p q own (task.Ternary tree f g h) o = (level_where p q own f g o.0, level_where p q own f h o.1)
in_order_where p q own (task.Restrict f i b) o = (own f o.0, o.1)
in_order_where p q own (task.Kron f g) o = (level_where p q own f g o.0, o.1)
in_order_where p q own (task.Matmul f g) o = (level_where p q own f g o.0, o.1)
in_order_where p q own (task.Transpose f) o = (own f o.0, o.1)
in_order_where p q own (task.Id level) o = o
in_order_where p q own (task.Walsh level) o = o
in_order_where p q own (task.UnitAt level r c) o = o

pub level_kept : (p q : Package) → Keeps p q → (f g : Func) → AreLevel p f g → AreLevel q f g
level_kept p q k = level_where p q (owned_kept p q k)

-- a job in order stays in order
pub in_order_kept : (p q : Package) → Keeps p q → (t : Task) → IsTaskInOrder p t → IsTaskInOrder q t
in_order_kept p q k = in_order_where p q (owned_kept p q k)

-- what is made of two functions' values stays
both_kept : (p q : Package) → Keeps p q → (make : (List Bool → ℤ) → (List Bool → ℤ) → List Bool → Option ℤ) → (f g : Func) → AreLevel p f g → make (value_in q f) (value_in q g) ≡ make (value_in p f) (value_in p g)
both_kept p q k make f g a =
    ap (λ (v : List Bool → ℤ). make v (value_in q g)) (value_kept p q k f a.first) ∙ ap (make (value_in p f)) (value_kept p q k g a.second)

-- a job has the values that it had
pub task_value_kept : (p q : Package) → Keeps p q → (t : Task) → IsTaskInOrder p t → task_value q t ≡ task_value p t
task_value_kept p q k (task.Const level v) o = refl
task_value_kept p q k (task.Var level i) o = refl
task_value_kept p q k (task.Map tree f) o = ap (λ (v : List Bool → ℤ). applied tree v absent absent) (value_kept p q k f o)
task_value_kept p q k (task.Apply tree f g) o = both_kept p q k (λ v w. applied tree v w absent) f g o
task_value_kept p q k (task.Ternary tree f g h) o =
    both_kept p q k (λ v w. applied tree v w (value_in q h)) f g o.0 ∙ ap (λ (v : List Bool → ℤ). applied tree (value_in p f) (value_in p g) v) (value_kept p q k h o.1.second)
task_value_kept p q k (task.Restrict f i b) o =
    let value : (List Bool → ℤ) → List Bool → Option ℤ = λ v bits. Some (restricted v i b bits) in
    ap value (value_kept p q k f o.0)
task_value_kept p q k (task.Kron f g) o = both_kept p q k kronecker f g o.0
task_value_kept p q k (task.Matmul f g) o = both_kept p q k (product (2 ^ (f.head.level - 1))) f g o.0
task_value_kept p q k (task.Transpose f) o =
    let value : (List Bool → ℤ) → List Bool → Option ℤ = λ v bits. Some (transpose v bits) in
    ap value (value_kept p q k f o.0)
task_value_kept p q k (task.Id level) o = refl
task_value_kept p q k (task.Walsh level) o = refl
task_value_kept p q k (task.UnitAt level r c) o = refl

-- a function that has values keeps them
pub values_kept : (p q : Package) → Keeps p q → (f : Func) (l : ℕ) (value : List Bool → Option ℤ) → HasValues p f l value → HasValues q f l value
values_kept p q k f l value h =
    let now = k.functions f h.owned in
    record { owned = now.owned; level = h.level; values = λ bits a. ap (λ (m : FlatFunction). value_at m bits) now.is_it ∙ h.values bits a }

-- and a job's function stays its function
pub finishes_kept : (p q : Package) → Keeps p q → (t : Task) (f : Func) → Finishes p t f → Finishes q t f
finishes_kept p q k t f d = record {
  in_order = in_order_kept p q k t d.in_order;
  values = subst (λ (v : List Bool → Option ℤ). HasValues q f (task_level t) v) (sym (task_value_kept p q k t d.in_order)) (values_kept p q k f (task_level t) (task_value p t) d.values);
}

-- a function that means a flat function by its values has them
pub means_has : (p : Package) (f : Func) (l : ℕ) (value : List Bool → ℤ) → f.head.level ≡ l → Means p f (tabulated l value) → HasValues p f l (λ bits. Some (value bits))
means_has p f l value e m = record {
  owned = m.owned;
  level = e;
  values = λ bits a. ap (λ (h : FlatFunction). value_at h bits) m.is_it ∙ tabulated-value l value bits a;
}

-- and one that has them means it
pub has_means : (p : Package) → IsGood p.groupings.levels → (f : Func) (l : ℕ) (value : List Bool → ℤ) → HasValues p f l (λ bits. Some (value bits)) → Means p f (tabulated l value)
has_means p good f l value h = record {
  owned = h.owned;
  is_it = ap (λ (k : ℕ). record { level = k; values = (meaning p f).values }) h.level
      ∙ ap (λ (vs : List ℤ). record { level = l; values = vs }) (listed p good f l (λ bits. Some (value bits)) h);
}

-- the grouping of a function whose values stand apart for the exits of a pattern has that pattern
stands_by : (p : Package) → IsGood p.groupings.levels → (f : Func) → IsFunction p.groupings.levels f.head.level f.head.at (values_of p f) → (l : ℕ) (value : List Bool → ℤ) → HasValues p f l (λ bits. Some (value bits))
    → (ranks : List ℕ) (labels : List ℤ) → IsCanon (tabulated l value).values ranks labels → Stands p.groupings.levels f.head l ranks
stands_by p good f is l value h ranks labels c =
    let own = subst (λ (vs : List ℤ). IsCanon vs (pattern p.groupings.levels f.head.level f.head.at) (values_of p f)) (listed p good f l (λ bits. Some (value bits)) h)
    (function_canon p.groupings.levels good f.head.level f.head.at (values_of p f) is) in
    record { level = h.level; there = h.owned.head; is_it = (canon_unique (tabulated l value).values (pattern p.groupings.levels f.head.level f.head.at) ranks (values_of p f) labels own c).0 }

shifted : (v : ℤ) (m n : ℕ) → v +ℤ pos m ≡ v +ℤ pos n → m ≡ n
shifted v m n e = omega (arith, ints, e)

-- that of a constant
pub constant_stands : (p : Package) → IsGood p.groupings.levels → (f : Func) → IsFunction p.groupings.levels f.head.level f.head.at (values_of p f) → (l : ℕ) (v : ℤ) → Finishes p (task.Const l v) f
    → Stands p.groupings.levels f.head l (constant_pattern l)
constant_stands p good f is l v d =
    let all = all_bits (2 ^ l) in
    let grown = grown_canon (constant_pattern l) (constant_grows all) in
    let numbers = canon-map (λ (e : ℕ). v +ℤ pos e) (shifted v) (constant_pattern l) (constant_pattern l) (numbers_from 0 (width 0 (constant_pattern l))) grown in
    let zero : v +ℤ pos 0 ≡ v = omega (arith, ints) in
    let same : map (λ (e : ℕ). v +ℤ pos e) (constant_pattern l) ≡ map (λ bits. v) all
    = map_map (λ (e : ℕ). v +ℤ pos e) (λ bits. 0) all ∙ map_same (λ bits. v +ℤ pos 0) (λ bits. v) all (λ bits. zero) in
    let labels : List ℤ = map (λ (e : ℕ). v +ℤ pos e) (numbers_from 0 (width 0 (constant_pattern l))) in
    stands_by p good f is l (λ bits. v) d.values (constant_pattern l) labels (subst (λ (vs : List ℤ). IsCanon vs (constant_pattern l) labels) same numbers)

bit_number : (b : Bool) → pos (if b then 1 else 0) ≡ (if b then pos 1 else pos 0)
bit_number true = refl
bit_number false = refl

same_pos : (m n : ℕ) → pos m ≡ pos n → m ≡ n
same_pos m n e = omega (arith, ints, e)

-- and that of a variable
pub variable_stands : (p : Package) → IsGood p.groupings.levels → (f : Func) → IsFunction p.groupings.levels f.head.level f.head.at (values_of p f) → (l i : ℕ) → Finishes p (task.Var l i) f
    → Stands p.groupings.levels f.head l (variable_pattern l i)
variable_stands p good f is l i d =
    let all = all_bits (2 ^ l) in
    let grown = grown_canon (variable_pattern l i) (variable_grows (2 ^ l) i) in
    let numbers = canon-map pos same_pos (variable_pattern l i) (variable_pattern l i) (numbers_from 0 (width 0 (variable_pattern l i))) grown in
    let bit : List Bool → ℤ = λ bits. if bit_at bits i then pos 1 else pos 0 in
    let same : map pos (variable_pattern l i) ≡ map bit all
    = map_map pos (bit_exit i) all ∙ map_same (λ bits. pos (bit_exit i bits)) bit all (λ bits. bit_number (bit_at bits i)) in
    let labels : List ℤ = map pos (numbers_from 0 (width 0 (variable_pattern l i))) in
    stands_by p good f is l bit d.values (variable_pattern l i) labels (subst (λ (vs : List ℤ). IsCanon vs (variable_pattern l i) labels) same numbers)

-- a job's values don't hang on what is remembered
pub value_alone : (t : Groupings) (lists : List (List ℤ)) (m : Remembered) (x : Task) → task_value (package_of t lists no_job) x ≡ task_value (package_of t lists m) x
value_alone t lists m (task.Const level v) = refl
value_alone t lists m (task.Var level i) = refl
value_alone t lists m (task.Map tree f) = refl
value_alone t lists m (task.Apply tree f g) = refl
value_alone t lists m (task.Ternary tree f g h) = refl
value_alone t lists m (task.Restrict f i b) = refl
value_alone t lists m (task.Kron f g) = refl
value_alone t lists m (task.Matmul f g) = refl
value_alone t lists m (task.Transpose f) = refl
value_alone t lists m (task.Id level) = refl
value_alone t lists m (task.Walsh level) = refl
value_alone t lists m (task.UnitAt level r c) = refl

-- nor does that it is in order
owned_alone : (t : Groupings) (lists : List (List ℤ)) (m : Remembered) (f : Func) → OwnsFunction (package_of t lists m) f → OwnsFunction (package_of t lists no_job) f
owned_alone t lists m f o = record { head = o.head; list = o.list; valued = o.valued }

pub order_alone : (t : Groupings) (lists : List (List ℤ)) (m : Remembered) (x : Task) → IsTaskInOrder (package_of t lists m) x → IsTaskInOrder (package_of t lists no_job) x
order_alone t lists m = in_order_where (package_of t lists m) (package_of t lists no_job) (owned_alone t lists m)
