-- Where the value of an expression doesn't fit, by its form.
use Rattle.std.proofs.Common.{ℕ, ℤ, ◌≡◌, ◌^◌, ◌<◌, Bool, true, false, List, [], ◌∷◌, ◌++◌, length, get_or, Option, Some, None, refl, ap, sym, subst, ◌∙◌, arith, inl, inr}
use Rattle.std.specs.Prelude.{is_none, MatchOption, slice_get}
use Rattle.std.specs.List.{find, position_or_len}
use Rattle.std.specs.Option.{option_or}
use Rattle.std.proofs.lemmas.Bool.{false≢true, cases_lt}
use Rattle.std.proofs.lemmas.List.Folds.{find_at}
use Rattle.std.proofs.lemmas.List.Sums.{fails_before_first, passes_at_first}
use Rattle.std.proofs.lemmas.Option.{slice_get-get_or, slice_get_past, same_Some, none-some}
use Rattle.cf_model.specs.Assignments.{number_of, bits_of, all_bits}
use Rattle.cf_model.specs.FlatFunctions.{IsAssignment, IsLeast}
use Rattle.cf_model.proofs.AssignmentLaws.{number_of-below, number_of-bits_of, bits_of-number_of, length-bits_of, length-all_bits, all_bits-order}
use Rattle.cf_model.proofs.FlatFunctionLaws.{least_unique}
use Rattle.cf_reference.specs.declared.grammar.Head.{Head}
use Rattle.cf_reference.specs.Trees.{Tree, Num, At, Named, Call, Arguments, none, more, atom, Atom}
use Rattle.cf_reference.specs.States.{State}
use Rattle.cf_reference.specs.Calls.{Part, flat, Meant, Function}
use Rattle.cf_reference.specs.Expressions.{part, meant_atom}
use Rattle.cf_reference.specs.Failures.{failure, first_failure, fold_step, subexpressions, argument_subexpressions, over, over_arguments, FailuresAreLeast, FailsFirst, OverflowIsFirst}

-- the least assignment of a level that passes a test, and what there is where there is none
abbrev pub least : ℕ → (List Bool → Bool) → Option (List Bool)
least k test = find test (all_bits (2 ^ k))

-- an assignment stands at the place of its number
place_of : (k : ℕ) (test : List Bool → Bool) (bits : List Bool) → IsAssignment k bits
    → (number_of bits < 2 ^ (2 ^ k)) × (get_or (all_bits (2 ^ k)) (number_of bits) [] ≡ bits)
place_of k test bits a =
    let below : number_of bits < 2 ^ (2 ^ k) = subst (λ (n : ℕ). number_of bits < 2 ^ n) a (number_of-below bits) in
    (below, all_bits-order (2 ^ k) (number_of bits) below ∙ ap (λ (n : ℕ). bits_of n (number_of bits)) (sym a) ∙ bits_of-number_of bits)

-- the place of what is found
first_place : (k : ℕ) (test : List Bool → Bool) → ℕ
first_place k test = position_or_len test (all_bits (2 ^ k))

pub least-some : (k : ℕ) (test : List Bool → Bool) (bits : List Bool) → least k test ≡ Some bits
    → IsLeast k (λ b. test b ≡ true) bits
unfolding first_place
least-some k test bits e =
    let all = all_bits (2 ^ k) in
    let i = first_place k test in
    let at : slice_get all i ≡ Some bits = sym (find_at test all) ∙ e in
    elim (cases_lt i (length all)) [
      | inl l ↦
          (let got : get_or all i [] ≡ bits = same_Some _ _ (sym (slice_get-get_or all i [] l) ∙ at) in
          let below : i < 2 ^ (2 ^ k) = omega (arith, l, length-all_bits (2 ^ k)) in
          let is : bits ≡ bits_of (2 ^ k) i = sym got ∙ all_bits-order (2 ^ k) i below in
          let num : number_of bits ≡ i = ap number_of is ∙ number_of-bits_of (2 ^ k) i below in
          record {
            assigns = ap length is ∙ length-bits_of (2 ^ k) i;
            has = sym (ap test got) ∙ passes_at_first test all [] l;
            none_below = λ other a lower p.
                (let place = place_of k test other a in
                false≢true (sym (fails_before_first test all (number_of other) [] (omega (arith, lower, num))) ∙ ap test place.1 ∙ p));
          })
      | inr l ↦ absurd (none-some bits (sym (slice_get_past all i l) ∙ at))
    ]

pub least-none : (k : ℕ) (test : List Bool → Bool) → least k test ≡ None → (bits : List Bool) → IsAssignment k bits
    → test bits ≡ false
least-none k test e bits a =
    let all = all_bits (2 ^ k) in
    let i = position_or_len test all in
    let place = place_of k test bits a in
    elim (cases_lt i (length all)) [
      | inl l ↦ absurd (none-some (get_or all i []) (sym e ∙ find_at test all ∙ slice_get-get_or all i [] l))
      | inr l ↦ sym (ap test place.1) ∙ fails_before_first test all (number_of bits) [] (omega (arith, l, place.0, length-all_bits (2 ^ k)))
    ]

pub least-is : (k : ℕ) (test : List Bool → Bool) (bits : List Bool) → IsLeast k (λ b. test b ≡ true) bits
    → least k test ≡ Some bits
least-is k test bits h = by (least k test) refl
  where
    by : (o : Option (List Bool)) → least k test ≡ o → o ≡ Some bits
    by None e = absurd (false≢true (sym (least-none k test e bits h.assigns) ∙ h.has))
    by (Some other) e = ap Some (least_unique k (λ b. test b ≡ true) other bits (least-some k test other e) h)

pub least-never : (k : ℕ) (test : List Bool → Bool) → ((bits : List Bool) → IsAssignment k bits → test bits ≡ false)
    → least k test ≡ None
least-never k test never = by (least k test) refl
  where
    by : (o : Option (List Bool)) → least k test ≡ o → o ≡ None
    by None e = refl
    by (Some bits) e = let h = least-some k test bits e in absurd (false≢true (sym (never bits h.assigns) ∙ h.has))

-- of two properties that stand at the same assignments
pub least-same : (k : ℕ) (P Q : List Bool → Type 0) (bits : List Bool)
    → ((b : List Bool) → IsAssignment k b → P b → Q b) → ((b : List Bool) → IsAssignment k b → Q b → P b)
    → IsLeast k P bits → IsLeast k Q bits
least-same k P Q bits to from h = record {
  assigns = h.assigns;
  has = to bits h.assigns h.has;
  none_below = λ other a below q. h.none_below other a below (from other a q);
}

none_is : {A : Type 0} (o : Option A) → is_none o ≡ true → o ≡ None
none_is None e = refl
none_is (Some x) e = absurd (false≢true e)

some_is : {A : Type 0} (o : Option A) → is_none o ≡ false → (x : A) × (o ≡ Some x)
some_is None e = absurd (false≢true (sym e))
some_is (Some x) e = (x, refl)

-- Where a subexpression fails, its failure is the least assignment at which it has no value.
pub failure-some : (part : Part) (bits : List Bool) → failure part ≡ Some bits
    → IsLeast part.level (λ b. part.value b ≡ None) bits
unfolding failure
failure-some part bits e =
    least-same part.level (λ b. is_none (part.value b) ≡ true) (λ b. part.value b ≡ None) bits (λ b a h. none_is (part.value b) h) (λ b a h. ap is_none h)
    (least-some part.level (λ b. is_none (part.value b)) bits e)

pub failure-is : (part : Part) (bits : List Bool) → IsLeast part.level (λ b. part.value b ≡ None) bits
    → failure part ≡ Some bits
unfolding failure
failure-is part bits h =
    least-is part.level (λ b. is_none (part.value b)) bits
    (least-same part.level (λ b. part.value b ≡ None) (λ b. is_none (part.value b) ≡ true) bits (λ b a e. ap is_none e) (λ b a e. none_is (part.value b) e) h)

-- Where it doesn't fail, it has a value at each assignment of its level.
abbrev pub HasValues : Part → Type 0
HasValues part = (bits : List Bool) → IsAssignment part.level bits → (v : ℤ) × (part.value bits ≡ Some v)

pub failure-none : (part : Part) → failure part ≡ None → HasValues part
unfolding failure
failure-none part e bits a = some_is (part.value bits) (least-none part.level (λ b. is_none (part.value b)) e bits a)

pub failure-never : (part : Part) → HasValues part → failure part ≡ None
unfolding failure
failure-never part h = least-never part.level (λ b. is_none (part.value b)) (λ bits a. ap is_none (h bits a).1)

-- two subexpressions with equal values at each assignment fail at the same one
pub failure-same : (p q : Part) → p.level ≡ q.level
    → ((bits : List Bool) → IsAssignment p.level bits → p.value bits ≡ q.value bits) → failure p ≡ failure q
failure-same p q e same = by (failure p) refl
  where
    by : (o : Option (List Bool)) → failure p ≡ o → o ≡ failure q
    by None f =
        sym (failure-never q (λ bits a. (let b : IsAssignment p.level bits = a ∙ ap (λ (k : ℕ). 2 ^ k) (sym e) in let h = failure-none p f bits b in (h.0, sym (same bits b) ∙ h.1))))
    by (Some bits) f =
        let h = least-same p.level (λ b. p.value b ≡ None) (λ b. q.value b ≡ None) bits (λ b a n. sym (same b a) ∙ n) (λ b a n. same b a ∙ n) (failure-some p bits f) in
        sym (failure-is q bits (subst (λ (k : ℕ). IsLeast k (λ b. q.value b ≡ None) bits) e h))

or_assoc : {A : Type 0} (a b c : Option A) → option_or (option_or a b) c ≡ option_or a (option_or b c)
or_assoc None b c = refl
or_assoc (Some x) b c = refl

or_none : {A : Type 0} (a : Option A) → option_or a None ≡ a
or_none None = refl
or_none (Some x) = refl

pub first_failure-append : (ps qs : List Part) → first_failure (ps ++ qs) ≡ option_or (first_failure ps) (first_failure qs)
first_failure-append [] qs = refl
first_failure-append (p ∷ ps) qs =
    ap (option_or (failure p)) (first_failure-append ps qs)
    ∙ sym (or_assoc (failure p) (first_failure ps) (first_failure qs))

-- one more part at the end
with_last : (ps : List Part) (p : Part) → first_failure (ps ++ p ∷ []) ≡ option_or (first_failure ps) (failure p)
with_last ps p = first_failure-append ps (p ∷ []) ∙ ap (option_or (first_failure ps)) (or_none (failure p))

-- a number and a position have values everywhere
pub over-Num : (s : State) (n : ℤ) → over s (Num n) ≡ None
unfolding subexpressions part
over-Num s n = or_none (failure (part s (Num n))) ∙ failure-never (part s (Num n)) (λ bits a. (n, refl))

pub over-At : (s : State) (i : ℤ) → over s (At i) ≡ None
unfolding subexpressions part
over-At s i = or_none (failure (part s (At i))) ∙ failure-never (part s (At i)) (λ bits a. (_, refl))

pub over-Named : (s : State) (name : List ℕ) → over s (Named name) ≡ failure (part s (Named name))
unfolding subexpressions
over-Named s name = or_none (failure (part s (Named name)))

-- a call: its arguments, and then itself
pub over-Call : (s : State) (head : Head) (es : Arguments)
    → over s (Call head es) ≡ option_or (over_arguments s head [] es) (failure (part s (Call head es)))
unfolding subexpressions
over-Call s head es = with_last (argument_subexpressions s head [] es) (part s (Call head es))

pub over_arguments-none : (s : State) (head : Head) (done : List Meant) → over_arguments s head done none ≡ None
unfolding subexpressions
over_arguments-none s head done = refl

pub over_arguments-more : (s : State) (head : Head) (done : List Meant) (e : Tree) (es : Arguments)
    → over_arguments s head done (more e es) ≡ option_or (first_failure (fold_step head done)) (option_or (over s e) (over_arguments s head (done ++ Function (flat (part s e)) ∷ []) es))
unfolding subexpressions
over_arguments-more s head done e es =
    let later = argument_subexpressions s head (done ++ Function (flat (part s e)) ∷ []) es in
    first_failure-append (fold_step head done) (subexpressions s e ++ later)
    ∙ ap (option_or (first_failure (fold_step head done))) (first_failure-append (subexpressions s e) later)

pub over_arguments-atom : (s : State) (head : Head) (done : List Meant) (a : Atom) (es : Arguments)
    → over_arguments s head done (atom a es) ≡ option_or (first_failure (fold_step head done)) (over_arguments s head (done ++ meant_atom s a ∷ []) es)
unfolding subexpressions
over_arguments-atom s head done a es =
    first_failure-append (fold_step head done) (argument_subexpressions s head (done ++ meant_atom s a ∷ []) es)

pub failures_least : FailuresAreLeast
failures_least part = by (failure part) refl
  where
    by : (o : Option (List Bool)) → failure part ≡ o
        → MatchOption o (HasValues part) (λ bits. IsLeast part.level (λ a. part.value a ≡ None) bits)
    by None e = failure-none part e
    by (Some bits) e = failure-some part bits e

pub first_failure-some : (all : List Part) (bits : List Bool) → first_failure all ≡ Some bits → FailsFirst all bits
first_failure-some [] bits e = absurd (none-some bits e)
first_failure-some (p ∷ ps) bits e = by (failure p) refl e (first_failure-some ps bits)
  where
    by : (o : Option (List Bool)) → failure p ≡ o → option_or o (first_failure ps) ≡ Some bits
        → (first_failure ps ≡ Some bits → FailsFirst ps bits) → FailsFirst (p ∷ ps) bits
    by None f e rest =
        let h = rest e in
        record {
          earlier = p ∷ h.earlier;
          part = h.part;
          later = h.later;
          are = ap (λ (l : List Part). p ∷ l) h.are;
          before = ap (λ o. option_or o (first_failure h.earlier)) f ∙ h.before;
          fails = h.fails;
        }
    by (Some other) f e rest = record { earlier = []; part = p; later = ps; are = refl; before = refl; fails = f ∙ e }

pub overflow_first : OverflowIsFirst
overflow_first s e bits h = first_failure-some (subexpressions s e) bits h
