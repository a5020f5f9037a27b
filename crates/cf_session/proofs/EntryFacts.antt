-- Rows and columns of matrices: where a matrix is 1, and which entry a statement asks for.
use Rattle.std.proofs.Common.{ℕ, ℤ, ◌≡◌, ◌≢◌, ◌≤◌, ◌<◌, ◌-◌, ◌^◌, Bool, true, false, List, [], ◌∷◌}
use Rattle.std.proofs.Common.{Some, None, refl, sym, ap, subst, ◌∙◌, arith, to_z, of_z}
use mir.Val.{SFits}
use Rattle.std.specs.Int.{w128}
use Rattle.std.proofs.lemmas.Int.{to_z-of_z}
use Rattle.std.proofs.Math.Pow.{pow_mono}
use Rattle.std.specs.Prelude.{nat_abs, IsSome, ◌&&◌}
use Rattle.cf_model.specs.Assignments.{bits_of}
use Rattle.cf_model.specs.Matrices.{entry, unit}
use Rattle.cf_pkg.specs.Tasks as task
use Rattle.cf_pkg.specs.declared.Func.{Func}
use Rattle.cf_pkg.specs.Packages.{Package, meaning}
use Rattle.cf_pkg.specs.Jobs.{HasValues, value_in}
use Rattle.cf_reference.specs.declared.grammar.Head.TheVariants.{Unit as UnitAt}
use Rattle.cf_reference.specs.Reasons.{BadLevel, OutOfRange}
use Rattle.cf_reference.specs.Replies.{value_reply}
use Rattle.cf_reference.specs.Calls.{Number, is_index, call_refusal}
use Rattle.cf_reference.specs.Carrying.{Refuses, Goes, tell_entry}
use Rattle.cf_reference.proofs.WalkLaws.{ruled}
use Rattle.cf_reference.proofs.TestFacts.{left, right, unless_none}
use Rattle.cf_reference.proofs.StepLaws.{step-Entry, step-Entry-level, step-Entry-outside}
use Rattle.cf_session.specs.declared.values.Value.{Value}
use Rattle.cf_session.specs.declared.values.Value.TheVariants as value
use Rattle.cf_session.specs.Values.{meanings}
use Rattle.cf_session.specs.Sessions.{Held, state_of}
use Rattle.cf_session.specs.Statements.{IsNamed}
use Rattle.cf_session.proofs.StatementFacts.{some-is}
use Rattle.cf_session.proofs.VariableLaws.{at_same}
use Rattle.cf_session.proofs.Walked.{below_is}

-- the size of a number
pub number_is : (z : ℤ) → SFits w128 z → (i : ℕ) → i ≡ nat_abs (to_z w128 (of_z w128 z)) → i ≡ nat_abs z
number_is z fits i e = e ∙ ap nat_abs (to_z-of_z w128 z fits)

-- The number is that of a row or a column of the matrices of a level.
abbrev pub IsRow : ℕ → ℕ → Type 0
IsRow level i = i < 2 ^ (2 ^ (level - 1))

pub index_is : (level : ℕ) (i : ℤ) → is_index level i ≡ true → IsRow level (nat_abs i)
index_is level i h = below_is i (2 ^ (2 ^ (level - 1))) h

-- what the test of a number tells
pub index_told : (level : ℕ) (y z : ℤ) (tested told : Bool) → y ≡ z → tested ≡ is_index level y
    → tested ≡ told → is_index level z ≡ told
index_told level y z tested told same tests is = ap (is_index level) (sym same) ∙ sym tests ∙ is

-- A test fails where its second one does.
pub both-outside : (a b : Bool) → b ≡ false → (a && b) ≡ false
both-outside true b e = e
both-outside false b e = refl

-- rows and columns fit words
pub row_fits : (level i : ℕ) → level ≤ 7 → IsRow level i → i < 2 ^ 64
row_fits level i low inside =
    let exponent : 2 ^ (level - 1) ≤ 2 ^ 6 = pow_mono {i = level - 1} {j = 6} (omega (arith, low)) in
    let size : 2 ^ (2 ^ (level - 1)) ≤ 2 ^ 64 =
    pow_mono {i = 2 ^ (level - 1)} {j = 64} (omega (arith, exponent)) in
    omega (arith, inside, size)

-- what the rules of a call ask of a matrix that is 1 in one place
pub record Placed (j n m : ℤ) : Type 0 where
  pub most : nat_abs j ≤ 7
  pub row : IsRow (nat_abs j) (nat_abs n)
  pub column : IsRow (nat_abs j) (nat_abs m)

placed : (j n m : ℤ) → call_refusal UnitAt (Number j ∷ Number n ∷ Number m ∷ []) ≡ None
    → Placed j n m
placed j n m h =
    let rules = ruled UnitAt (Number j ∷ Number n ∷ Number m ∷ []) h in
    let row = is_index (nat_abs j) n in
    let column = is_index (nat_abs j) m in
    let both = unless_none (row && column) OutOfRange rules.own in
    record {
      most = rules.low;
      row = index_is (nat_abs j) n (left row column both);
      column = index_is (nat_abs j) m (right row column both);
    }

pub unit_placed : (p : Package) (args : List Value) (j n m : ℤ)
    → args ≡ value.Number j ∷ value.Number n ∷ value.Number m ∷ []
    → call_refusal UnitAt (meanings p args) ≡ None → Placed j n m
unit_placed p args j n m is h =
    placed j n m (subst (λ l. call_refusal UnitAt (meanings p l) ≡ None) is h)

-- the job of such a matrix
pub unit_is : (k r c j n m : ℕ) → k ≡ j → r ≡ n → c ≡ m → task.UnitAt k r c ≡ task.UnitAt j n m
unit_is k r c j n m level row column =
    ap (λ x. task.UnitAt x r c) level ∙ ap (λ x. task.UnitAt j x c) row
    ∙ ap (λ x. task.UnitAt j n x) column

pub unit_values : (q : Package) (r : Func) (k i l j n m : ℕ) → k ≡ j → i ≡ n → l ≡ m
    → HasValues q r k (λ bits. Some (unit i l bits))
    → HasValues q r j (λ bits. Some (unit n m bits))
unit_values q r k i l j n m level row column v =
    subst (λ x. HasValues q r j (λ bits. Some (unit n x bits))) column
    (subst (λ x. HasValues q r j (λ bits. Some (unit x l bits))) row
    (subst (λ x. HasValues q r x (λ bits. Some (unit i l bits))) level v))

-- `entry`
pub entry-low : (h : Held) (name : List ℕ) (row column : ℤ) (f : Func) → IsSome h.level
    → IsNamed h name f → f.head.level ≡ 0
    → tell_entry (state_of h) name row column ≡ Refuses BadLevel
entry-low h name row column f set n low =
    let some = some-is h.level set in
    step-Entry-level (state_of h) some.0 name row column (meaning h.pkg f) some.1 n.means low

pub entry-outside : (h : Held) (name : List ℕ) (row column : ℤ) (f : Func) → IsSome h.level
    → IsNamed h name f → f.head.level ≢ 0
    → (is_index f.head.level row && is_index f.head.level column) ≡ false
    → tell_entry (state_of h) name row column ≡ Refuses OutOfRange
entry-outside h name row column f set n high outside =
    let some = some-is h.level set in
    step-Entry-outside (state_of h) some.0 name row column (meaning h.pkg f) some.1 n.means high
    outside

-- the entry of a function of the package
abbrev pub entry_at : Package → Func → ℕ → ℕ → ℤ
entry_at p f row column =
    let index_bits = 2 ^ (f.head.level - 1) in
    entry (value_in p f) (bits_of index_bits row) (bits_of index_bits column)

pub entry-goes : (h : Held) (name : List ℕ) (row column : ℤ) (f : Func) → IsSome h.level
    → IsNamed h name f → f.head.level ≢ 0 → is_index f.head.level row ≡ true
    → is_index f.head.level column ≡ true
    → tell_entry (state_of h) name row column
    ≡ Goes (state_of h) (value_reply (entry_at h.pkg f (nat_abs row) (nat_abs column)))
entry-goes h name row column f set n high inside across =
    let some = some-is h.level set in
    let index_bits = 2 ^ (f.head.level - 1) in
    let i = bits_of index_bits (nat_abs row) in
    let j = bits_of index_bits (nat_abs column) in
    let both = ap (λ b. b && is_index f.head.level column) inside ∙ across in
    step-Entry (state_of h) some.0 name row column (meaning h.pkg f) some.1 n.means high both
    ∙ ap (λ (x : List Bool → ℤ). Goes (state_of h) (value_reply (entry x i j))) (sym (at_same h.pkg f))

pub entry_told : (h s : Held) (f : Func) (v : ℤ) (i j n m : ℕ) → h ≡ s → i ≡ n → j ≡ m
    → v ≡ entry_at h.pkg f i j → v ≡ entry_at s.pkg f n m
entry_told h s f v i j n m same row column e =
    e ∙ ap (λ (x : Held). entry_at x.pkg f i j) same ∙ ap (λ k. entry_at s.pkg f k j) row
    ∙ ap (λ k. entry_at s.pkg f n k) column
