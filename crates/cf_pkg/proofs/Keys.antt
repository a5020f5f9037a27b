use Rattle.std.proofs.Common.{◌≡◌, ℕ, ℤ, Bool, true, false, nat_eq, ◌&&◌, refl, ◌∙◌, ap, arith, rules}
use Rattle.std.specs.Bool.{Decides}
use Rattle.std.specs.Ordering.{int_eq}
use Rattle.std.proofs.lemmas.Bool.Decides.{nat_tests, Decides-and, Decides-eqb, Decides-int_eq}
use Rattle.cf_model.specs.declared.terms.Word1.{Word1}
use Rattle.cf_model.specs.declared.terms.Word2.{Word2}
use Rattle.cf_pkg.specs.declared.Func.{Func}
use Rattle.cf_pkg.specs.declared.memo.Operation.{Operation}
use Rattle.cf_pkg.specs.declared.memo.Operation.TheVariants.{One, Two, Choice, Tree}
use denote.Enum.Bare.{same_true}
use Rattle.cf_model.specs.declared.terms.Word1.TheVariants.{Not, Neg}
use Rattle.cf_model.specs.declared.terms.Word2.TheVariants.{And, Or, Xor, Plus, Minus, Times, Min, Max, Eq, Lt}
use Rattle.cf_model.specs.contracts.terms.Word1.{the_type as one_type}
use Rattle.cf_model.specs.contracts.terms.Word2.{the_type as two_type}
use Rattle.cf_model.specs.contracts.terms.Word1PartialEq.TheImpl as one
use Rattle.cf_model.specs.contracts.terms.Word2PartialEq.TheImpl as two
use Rattle.cf_pkg.specs.contracts.FuncPartialEq.TheImpl as func
use Rattle.cf_pkg.specs.declared.memo.Alone.{Alone}
use Rattle.cf_pkg.specs.declared.memo.Alone.TheVariants.{Constant, Variable, Identity, Walsh, Unit as UnitAt}
use Rattle.cf_pkg.specs.declared.memo.OfOne.{OfOne}
use Rattle.cf_pkg.specs.declared.memo.OfOne.TheVariants.{Map, Restrict, Transpose}
use Rattle.cf_pkg.specs.declared.memo.OfTwo.{OfTwo}
use Rattle.cf_pkg.specs.declared.memo.OfTwo.TheVariants.{Apply, Kron, Matmul}
use Rattle.cf_pkg.specs.declared.memo.JobKey.{JobKey}
use Rattle.cf_pkg.specs.declared.memo.JobKey.TheVariants as key_of
use Rattle.cf_pkg.specs.contracts.memo.OperationPartialEq.TheImpl as operation
use Rattle.cf_pkg.specs.contracts.memo.AlonePartialEq.TheImpl as alone
use Rattle.cf_pkg.specs.contracts.memo.OfOnePartialEq.TheImpl as of_one
use Rattle.cf_pkg.specs.contracts.memo.OfTwoPartialEq.TheImpl as of_two
use Rattle.cf_pkg.specs.contracts.memo.JobKeyPartialEq.TheImpl as key

both : (a b : Bool) → (a && b) ≡ true → (a ≡ true) × (b ≡ true)
both true b h = (refl, h)
both false b h = cc

and_true : (a b : Bool) → a ≡ true → b ≡ true → (a && b) ≡ true
and_true true b h k = k
and_true false b h k = cc

nat_again : (n : ℕ) → nat_eq n n ≡ true
nat_again n = (Decides-eqb n n).1 refl

parts : (a b c x y z : ℕ) → (nat_eq a x && nat_eq b y && nat_eq c z) ≡ true → (a ≡ x) × (b ≡ y) × (c ≡ z)
parts a b c x y z h = grind (arith, nat_tests)

joined : (a b c x y z : ℕ) → a ≡ x → b ≡ y → c ≡ z → (nat_eq a x && nat_eq b y && nat_eq c z) ≡ true
joined a b c x y z h k l = grind (arith, nat_tests)

abbrev func_at : ℕ → ℕ → ℕ → Func
func_at l i v = record { head = record { level = l; at = i }; vals = record { at = v } }

-- the derived tests decide equality: of functions
func_Decides : (p q : Func) → Decides (func.eq-value.it p q) (p ≡ q)
func_Decides p q = (
  λ h. (let r = parts p.head.level p.head.at p.vals.at q.head.level q.head.at q.vals.at h in
      ap (λ (l : ℕ). func_at l p.head.at p.vals.at) r.0 ∙ ap (λ (i : ℕ). func_at q.head.level i p.vals.at) r.1 ∙ ap (func_at q.head.level q.head.at) r.2),
  λ h. joined p.head.level p.head.at p.vals.at q.head.level q.head.at q.vals.at (ap (λ (f : Func). f.head.level) h) (ap (λ (f : Func). f.head.at) h) (ap (λ (f : Func). f.vals.at) h),
)

-- of operations
same_operation : (p q : Operation) → operation.eq-value.it p q ≡ true → p ≡ q
same_operation (One v) (One w) h = ap (λ (k : Word1). Operation.One k) (same_true one_type (search rules) v w h)
same_operation (Two v) (Two w) h = ap (λ (k : Word2). Operation.Two k) (same_true two_type (search rules) v w h)
same_operation Choice Choice h = refl
same_operation (Tree i) (Tree j) h = ap (λ (k : ℕ). Operation.Tree k) ((Decides-eqb i j).0 h)
same_operation (One v) (Two w) h = cc
same_operation (One v) Choice h = cc
same_operation (One v) (Tree j) h = cc
same_operation (Two v) (One w) h = cc
same_operation (Two v) Choice h = cc
same_operation (Two v) (Tree j) h = cc
same_operation Choice (One w) h = cc
same_operation Choice (Two w) h = cc
same_operation Choice (Tree j) h = cc
same_operation (Tree i) (One w) h = cc
same_operation (Tree i) (Two w) h = cc
same_operation (Tree i) Choice h = cc

-- of jobs on no function
same_alone : (p q : Alone) → alone.eq-value.it p q ≡ true → p ≡ q
same_alone (Constant l v) (Constant m w) h =
    let both = (Decides-and (nat_eq l m) (int_eq v w) (Decides-eqb l m) (Decides-int_eq v w)).0 h in
    ap (λ (k : ℕ). Alone.Constant k v) both.0 ∙ ap (λ (z : ℤ). Alone.Constant m z) both.1
same_alone (Variable l i) (Variable m j) h =
    let both = (Decides-and (nat_eq l m) (nat_eq i j) (Decides-eqb l m) (Decides-eqb i j)).0 h in
    ap (λ (k : ℕ). Alone.Variable k i) both.0 ∙ ap (λ (k : ℕ). Alone.Variable m k) both.1
same_alone (Identity l) (Identity m) h = ap (λ (k : ℕ). Alone.Identity k) ((Decides-eqb l m).0 h)
same_alone (Walsh l) (Walsh m) h = ap (λ (k : ℕ). Alone.Walsh k) ((Decides-eqb l m).0 h)
same_alone (UnitAt l r c) (UnitAt m s d) h =
    let level = both (nat_eq l m) (nat_eq r s && nat_eq c d) h in
    let places = both (nat_eq r s) (nat_eq c d) level.1 in
    ap (λ (k : ℕ). Alone.Unit k r c) ((Decides-eqb l m).0 level.0) ∙ ap (λ (k : ℕ). Alone.Unit m k c) ((Decides-eqb r s).0 places.0) ∙ ap (λ (k : ℕ). Alone.Unit m s k) ((Decides-eqb c d).0 places.1)
same_alone (Constant l v) (Variable m j) h = cc
same_alone (Constant l v) (Identity m) h = cc
same_alone (Constant l v) (Walsh m) h = cc
same_alone (Constant l v) (UnitAt m s d) h = cc
same_alone (Variable l i) (Constant m w) h = cc
same_alone (Variable l i) (Identity m) h = cc
same_alone (Variable l i) (Walsh m) h = cc
same_alone (Variable l i) (UnitAt m s d) h = cc
same_alone (Identity l) (Constant m w) h = cc
same_alone (Identity l) (Variable m j) h = cc
same_alone (Identity l) (Walsh m) h = cc
same_alone (Identity l) (UnitAt m s d) h = cc
same_alone (Walsh l) (Constant m w) h = cc
same_alone (Walsh l) (Variable m j) h = cc
same_alone (Walsh l) (Identity m) h = cc
same_alone (Walsh l) (UnitAt m s d) h = cc
same_alone (UnitAt l r c) (Constant m w) h = cc
same_alone (UnitAt l r c) (Variable m j) h = cc
same_alone (UnitAt l r c) (Identity m) h = cc
same_alone (UnitAt l r c) (Walsh m) h = cc

-- of jobs on one function
same_of_one : (p q : OfOne) → of_one.eq-value.it p q ≡ true → p ≡ q
same_of_one (Map o) (Map p) h = ap (λ (k : Operation). OfOne.Map k) (same_operation o p h)
same_of_one (Restrict i true) (Restrict j true) h = ap (λ (k : ℕ). OfOne.Restrict k true) ((Decides-eqb i j).0 (both (nat_eq i j) true h).0)
same_of_one (Restrict i false) (Restrict j false) h = ap (λ (k : ℕ). OfOne.Restrict k false) ((Decides-eqb i j).0 (both (nat_eq i j) true h).0)
same_of_one (Restrict i true) (Restrict j false) h = absurd (let no : false ≡ true = (both (nat_eq i j) false h).1 in cc)
same_of_one (Restrict i false) (Restrict j true) h = absurd (let no : false ≡ true = (both (nat_eq i j) false h).1 in cc)
same_of_one Transpose Transpose h = refl
same_of_one (Map o) (Restrict j c) h = cc
same_of_one (Map o) Transpose h = cc
same_of_one (Restrict i b) (Map p) h = cc
same_of_one (Restrict i b) Transpose h = cc
same_of_one Transpose (Map p) h = cc
same_of_one Transpose (Restrict j c) h = cc

-- of jobs on two functions
same_of_two : (p q : OfTwo) → of_two.eq-value.it p q ≡ true → p ≡ q
same_of_two (Apply o) (Apply p) h = ap (λ (k : Operation). OfTwo.Apply k) (same_operation o p h)
same_of_two Kron Kron h = refl
same_of_two Matmul Matmul h = refl
same_of_two (Apply o) Kron h = cc
same_of_two (Apply o) Matmul h = cc
same_of_two Kron (Apply p) h = cc
same_of_two Kron Matmul h = cc
same_of_two Matmul (Apply p) h = cc
same_of_two Matmul Kron h = cc

-- of keys
pub same_key : (p q : JobKey) → key.eq-value.it p q ≡ true → p ≡ q
same_key (key_of.Alone a) (key_of.Alone b) h = ap (λ (k : Alone). JobKey.Alone k) (same_alone a b h)
same_key (key_of.OfOne o f) (key_of.OfOne p k) h =
    let two = both (of_one.eq-value.it o p) (func.eq-value.it f k) h in
    ap (λ (x : OfOne). JobKey.OfOne x f) (same_of_one o p two.0) ∙ ap (λ (x : Func). JobKey.OfOne p x) ((func_Decides f k).0 two.1)
same_key (key_of.OfTwo o f g) (key_of.OfTwo p k l) h =
    let kind = both (of_two.eq-value.it o p) (func.eq-value.it f k && func.eq-value.it g l) h in
    let two = both (func.eq-value.it f k) (func.eq-value.it g l) kind.1 in
    ap (λ (x : OfTwo). JobKey.OfTwo x f g) (same_of_two o p kind.0) ∙ ap (λ (x : Func). JobKey.OfTwo p x g) ((func_Decides f k).0 two.0) ∙ ap (λ (x : Func). JobKey.OfTwo p k x) ((func_Decides g l).0 two.1)
same_key (key_of.OfThree o f g i) (key_of.OfThree p k l m) h =
    let kind = both (operation.eq-value.it o p) (func.eq-value.it f k && (func.eq-value.it g l && func.eq-value.it i m)) h in
    let first = both (func.eq-value.it f k) (func.eq-value.it g l && func.eq-value.it i m) kind.1 in
    let others = both (func.eq-value.it g l) (func.eq-value.it i m) first.1 in
    ap (λ (x : Operation). JobKey.OfThree x f g i) (same_operation o p kind.0) ∙ ap (λ (x : Func). JobKey.OfThree p x g i) ((func_Decides f k).0 first.0)
    ∙ ap (λ (x : Func). JobKey.OfThree p k x i) ((func_Decides g l).0 others.0) ∙ ap (λ (x : Func). JobKey.OfThree p k l x) ((func_Decides i m).0 others.1)
same_key (key_of.Alone a) (key_of.OfOne p k) h = cc
same_key (key_of.Alone a) (key_of.OfTwo p k l) h = cc
same_key (key_of.Alone a) (key_of.OfThree p k l m) h = cc
same_key (key_of.OfOne o f) (key_of.Alone b) h = cc
same_key (key_of.OfOne o f) (key_of.OfTwo p k l) h = cc
same_key (key_of.OfOne o f) (key_of.OfThree p k l m) h = cc
same_key (key_of.OfTwo o f g) (key_of.Alone b) h = cc
same_key (key_of.OfTwo o f g) (key_of.OfOne p k) h = cc
same_key (key_of.OfTwo o f g) (key_of.OfThree p k l m) h = cc
same_key (key_of.OfThree o f g i) (key_of.Alone b) h = cc
same_key (key_of.OfThree o f g i) (key_of.OfOne p k) h = cc
same_key (key_of.OfThree o f g i) (key_of.OfTwo p k l) h = cc

abbrev pub same : JobKey → JobKey → Bool
same p q = key.eq-value.it p q

word_one_again : (w : Word1) → one.eq-value.it w w ≡ true
word_one_again Not = refl
word_one_again Neg = refl

word_two_again : (w : Word2) → two.eq-value.it w w ≡ true
word_two_again And = refl
word_two_again Or = refl
word_two_again Xor = refl
word_two_again Plus = refl
word_two_again Minus = refl
word_two_again Times = refl
word_two_again Min = refl
word_two_again Max = refl
word_two_again Eq = refl
word_two_again Lt = refl

operation_again : (o : Operation) → operation.eq-value.it o o ≡ true
operation_again (One w) = word_one_again w
operation_again (Two w) = word_two_again w
operation_again Choice = refl
operation_again (Tree i) = nat_again i

alone_again : (a : Alone) → alone.eq-value.it a a ≡ true
alone_again (Constant l v) = and_true (nat_eq l l) (int_eq v v) (nat_again l) ((Decides-int_eq v v).1 refl)
alone_again (Variable l i) = and_true (nat_eq l l) (nat_eq i i) (nat_again l) (nat_again i)
alone_again (Identity l) = nat_again l
alone_again (Walsh l) = nat_again l
alone_again (UnitAt l r c) = and_true (nat_eq l l) (nat_eq r r && nat_eq c c) (nat_again l) (and_true (nat_eq r r) (nat_eq c c) (nat_again r) (nat_again c))

of_one_again : (o : OfOne) → of_one.eq-value.it o o ≡ true
of_one_again (Map o) = operation_again o
of_one_again (Restrict i true) = and_true (nat_eq i i) true (nat_again i) refl
of_one_again (Restrict i false) = and_true (nat_eq i i) true (nat_again i) refl
of_one_again Transpose = refl

of_two_again : (o : OfTwo) → of_two.eq-value.it o o ≡ true
of_two_again (Apply o) = operation_again o
of_two_again Kron = refl
of_two_again Matmul = refl

func_again : (f : Func) → func.eq-value.it f f ≡ true
func_again f = (func_Decides f f).1 refl

pub same_again : (k : JobKey) → same k k ≡ true
same_again (key_of.Alone a) = alone_again a
same_again (key_of.OfOne o f) = and_true (of_one.eq-value.it o o) (func.eq-value.it f f) (of_one_again o) (func_again f)
same_again (key_of.OfTwo o f g) =
    and_true (of_two.eq-value.it o o) (func.eq-value.it f f && func.eq-value.it g g) (of_two_again o) (and_true (func.eq-value.it f f) (func.eq-value.it g g) (func_again f) (func_again g))
same_again (key_of.OfThree o f g h) =
    and_true (operation.eq-value.it o o) (func.eq-value.it f f && (func.eq-value.it g g && func.eq-value.it h h)) (operation_again o)
    (and_true (func.eq-value.it f f) (func.eq-value.it g g && func.eq-value.it h h) (func_again f) (and_true (func.eq-value.it g g) (func.eq-value.it h h) (func_again g) (func_again h)))
