-- The first variable whose sums overflow is the first step of nested sums that does.
use Rattle.std.proofs.Common.{ℕ, zero, suc, ℤ, ◌≡◌, ◌+◌, ◌<◌, Bool, true, false, List, [], ◌∷◌, ◌++◌, cond, map, take, length, Option, Some, None, refl, ap, sym, subst, ◌∙◌, arith, append_assoc, append-nil}
use Rattle.std.specs.Prelude.{◌≢◌, nat_abs}
use Rattle.std.proofs.lemmas.List.{length-set}
use Rattle.cf_model.specs.Assignments.{bit_at, with_bit}
use Rattle.cf_model.specs.FlatFunctions.{FlatFunction, IsFlatFunction, IsAssignment}
use Rattle.cf_model.specs.Terms.{joined, value2}
use Rattle.cf_model.specs.Values.{Fits, fitting, and_then}
use Rattle.cf_model.specs.Quantified.{over_both, over_all}
use Rattle.cf_model.specs.declared.terms.Word2.TheVariants.{Plus}
use Rattle.cf_model.proofs.TermLaws.{fitting-fits}
use Rattle.cf_reference.specs.declared.grammar.Head.TheVariants.{SumOut}
use Rattle.cf_reference.specs.States.{at}
use Rattle.cf_reference.specs.Calls.{Part, Meant, Function, Position, places, exact, call}
use Rattle.cf_reference.specs.Failures.{failure, first_failure, fold_step}
use Rattle.cf_reference.proofs.FailureLaws.{failure-never, first_failure-append}
use Rattle.cf_reference.proofs.FitLaws.{value2_fits}
use Rattle.cf_reference.proofs.GivesLaws.{AllFit, fails-call}
use Rattle.cf_reference.proofs.StateLaws.{flat-fits}
use Rattle.cf_reference.proofs.ValueLaws.{has_value}
use Rattle.cf_reference.proofs.TestFacts.{and_then_some, is_le}
use Rattle.cf_pkg.specs.Jobs.{IsLeastWithout}
use Rattle.cf_restrict.specs.Quantified.{IsFirstFailing}
use Rattle.cf_session.specs.Values.{steps_behind, call_parts}
use Rattle.cf_session.proofs.Built.{or_nones, or_second, or_first}

-- an assignment with one of its bits set as it is
set_same : (bits : List Bool) (i : ℕ) → with_bit bits i (bit_at bits i) ≡ bits
set_same [] zero = refl
set_same [] (suc i) = refl
set_same (b ∷ bits) zero = refl
set_same (b ∷ bits) (suc i) = ap (λ l. b ∷ l) (set_same bits i)

joined_none : (a b : Option ℤ) → b ≡ None → joined Plus a b ≡ None
joined_none None b e = refl
joined_none (Some x) b e = ap (λ o. and_then o (λ y. value2 Plus x y)) e

-- a sum without a value stays without one
both_none : (v : List Bool → Option ℤ) (i : ℕ) (bits : List Bool) → v bits ≡ None → over_both Plus v i bits ≡ None
both_none v i bits e = by (bit_at bits i) (ap v (set_same bits i) ∙ e)
  where
    by : (b : Bool) → v (with_bit bits i b) ≡ None → over_both Plus v i bits ≡ None
    by false n = ap (λ o. joined Plus o (v (with_bit bits i true))) n
    by true n = joined_none (v (with_bit bits i false)) (v (with_bit bits i true)) n

all_none : (v : List Bool → Option ℤ) (vars : List ℕ) (bits : List Bool) → v bits ≡ None → over_all Plus v vars bits ≡ None
all_none v [] bits e = e
all_none v (i ∷ vars) bits e = all_none (over_both Plus v i) vars bits (both_none v i bits e)

all_parted : (v : List Bool → Option ℤ) (vars more : List ℕ) → over_all Plus v (vars ++ more) ≡ over_all Plus (over_all Plus v vars) more
all_parted v [] more = refl
all_parted v (i ∷ vars) more = all_parted (over_both Plus v i) vars more

-- no sum overflows
abbrev Goes : ℕ → (List Bool → Option ℤ) → List ℕ → Type 0
Goes l v vars = (bits : List Bool) → IsAssignment l bits → over_all Plus v vars bits ≢ None

goes_before : (l : ℕ) (v : List Bool → Option ℤ) (vars more : List ℕ) → Goes l v (vars ++ more) → Goes l v vars
goes_before l v vars more h bits a n =
    h bits a (ap (λ (w : List Bool → Option ℤ). w bits) (all_parted v vars more) ∙ all_none (over_all Plus v vars) more bits n)

-- sums fit
abbrev AreFitting : ℕ → (List Bool → Option ℤ) → Type 0
AreFitting l v = (bits : List Bool) (x : ℤ) → IsAssignment l bits → v bits ≡ Some x → Fits x

both_fit : (l : ℕ) (v : List Bool → Option ℤ) (i : ℕ) → AreFitting l v → AreFitting l (over_both Plus v i)
both_fit l v i h bits x a e =
    let low = with_bit bits i false in
    let high = with_bit bits i true in
    let first = and_then_some (v low) (λ y. and_then (v high) (λ z. value2 Plus y z)) x e in
    let second = and_then_some (v high) (λ z. value2 Plus first.0 z) x first.2 in
    value2_fits Plus first.0 second.0 x (h low first.0 (length-set bits i false ∙ a) first.1) (h high second.0 (length-set bits i true ∙ a) second.1) second.2

all_fit : (l : ℕ) (v : List Bool → Option ℤ) (vars : List ℕ) → AreFitting l v → AreFitting l (over_all Plus v vars)
all_fit l v [] h = h
all_fit l v (i ∷ vars) h = all_fit l (over_both Plus v i) vars (both_fit l v i h)

abbrev own : FlatFunction → List Bool → Option ℤ
own f bits = Some (at f bits)

own_fits : (f : FlatFunction) → IsFlatFunction f → AreFitting f.level (own f)
own_fits f flat bits x a e = flat-fits f bits flat x (has_value f flat bits a ∙ e)

pub sums_fit : (f : FlatFunction) → IsFlatFunction f → (args : List Meant) → AllFit (exact SumOut (Function f ∷ args))
sums_fit f flat args bits x a e = all_fit f.level (own f) (places args) (own_fits f flat) bits x a e

-- positions as arguments
abbrev pub at_places : List ℤ → List Meant
at_places xs = map Position xs

places_are : (xs : List ℤ) → places (at_places xs) ≡ map nat_abs xs
places_are [] = refl
places_are (x ∷ xs) = ap (λ l. nat_abs x ∷ l) (places_are xs)

abbrev sums : FlatFunction → List ℤ → List Meant
sums f xs = Function f ∷ at_places xs

some_there : (o : Option ℤ) → o ≢ None → (x : ℤ) × (o ≡ Some x)
some_there None h = absurd (h refl)
some_there (Some x) h = (x, refl)

never : (f : FlatFunction) → IsFlatFunction f → (xs : List ℤ) → Goes f.level (own f) (map nat_abs xs) → failure (call SumOut (sums f xs)) ≡ None
never f flat xs goes =
    failure-never (call SumOut (sums f xs))
    (λ bits a.
    (let v = over_all Plus (own f) (places (at_places xs)) in
    let there = some_there (v bits) (subst (λ vars. over_all Plus (own f) vars bits ≢ None) (sym (places_are xs)) (goes bits a)) in
    let fits = all_fit f.level (own f) (places (at_places xs)) (own_fits f flat) bits there.0 a there.1 in
    (there.0, ap (λ o. and_then o fitting) there.1 ∙ fitting-fits there.0 fits)))

stepped : (f : FlatFunction) (x : ℤ) (xs : List ℤ) → fold_step SumOut (sums f (x ∷ xs)) ≡ call SumOut (sums f (x ∷ xs)) ∷ []
stepped f x xs = ap (λ t. cond t (call SumOut (sums f (x ∷ xs)) ∷ []) []) (is_le 2 (length (sums f (x ∷ xs))) (omega arith))

-- a step that doesn't overflow
step_never : (f : FlatFunction) → IsFlatFunction f → (xs : List ℤ) → Goes f.level (own f) (map nat_abs xs) → first_failure (fold_step SumOut (sums f xs)) ≡ None
step_never f flat [] goes = refl
step_never f flat (x ∷ xs) goes = ap first_failure (stepped f x xs) ∙ or_nones (failure (call SumOut (sums f (x ∷ xs)))) None (never f flat (x ∷ xs) goes) refl

map_parted : {A B : Type 0} (g : A → B) (xs ys : List A) → map g (xs ++ ys) ≡ map g xs ++ map g ys
map_parted g [] ys = refl
map_parted g (x ∷ xs) ys = ap (λ l. g x ∷ l) (map_parted g xs ys)

goes_first : (l : ℕ) (v : List Bool → Option ℤ) (xs ys : List ℤ) → Goes l v (map nat_abs (xs ++ ys)) → Goes l v (map nat_abs xs)
goes_first l v xs ys h = goes_before l v (map nat_abs xs) (map nat_abs ys) (subst (Goes l v) (map_parted nat_abs xs ys) h)

one_more : (f : FlatFunction) (done : List ℤ) (x : ℤ) → sums f done ++ Position x ∷ [] ≡ sums f (done ++ x ∷ [])
one_more f done x = ap (λ l. Function f ∷ l) (sym (map_parted Position done (x ∷ [])))

none_from : (f : FlatFunction) → IsFlatFunction f → (done xs : List ℤ) → Goes f.level (own f) (map nat_abs (done ++ xs)) → first_failure (steps_behind SumOut (sums f done) (at_places xs)) ≡ None
none_from f flat done [] goes = refl
none_from f flat done (x ∷ xs) goes =
    first_failure-append (fold_step SumOut (sums f done)) (steps_behind SumOut (sums f done ++ Position x ∷ []) (at_places xs))
    ∙ or_nones (first_failure (fold_step SumOut (sums f done))) _ (step_never f flat done (goes_first f.level (own f) done (x ∷ xs) goes))
    (ap (λ l. first_failure (steps_behind SumOut l (at_places xs))) (one_more f done x)
    ∙ none_from f flat (done ++ x ∷ []) xs (subst (λ l. Goes f.level (own f) (map nat_abs l)) (sym (append_assoc done (x ∷ []) xs)) goes))

-- sums that have values have no step that overflows
pub none_steps : (f : FlatFunction) → IsFlatFunction f → (xs : List ℤ) → Goes f.level (own f) (map nat_abs xs) → first_failure (steps_behind SumOut [] (sums f xs)) ≡ None
none_steps f flat xs goes = none_from f flat [] xs goes

-- the steps and the whole, behind those that are done
abbrev parts_from : FlatFunction → List ℤ → List ℤ → List Part
parts_from f done xs = steps_behind SumOut (sums f done) (at_places xs) ++ call SumOut (sums f (done ++ xs)) ∷ []

parts_next : (f : FlatFunction) (done : List ℤ) (x : ℤ) (xs : List ℤ) → parts_from f done (x ∷ xs) ≡ fold_step SumOut (sums f done) ++ parts_from f (done ++ x ∷ []) xs
parts_next f done x xs =
    append_assoc (fold_step SumOut (sums f done)) (steps_behind SumOut (sums f done ++ Position x ∷ []) (at_places xs)) (call SumOut (sums f (done ++ x ∷ xs)) ∷ [])
    ∙ ap (λ l. fold_step SumOut (sums f done) ++ (steps_behind SumOut l (at_places xs) ++ call SumOut (sums f (done ++ x ∷ xs)) ∷ [])) (one_more f done x)
    ∙ ap (λ l. fold_step SumOut (sums f done) ++ (steps_behind SumOut (sums f (done ++ x ∷ [])) (at_places xs) ++ call SumOut (sums f l) ∷ [])) (sym (append_assoc done (x ∷ []) xs))

skipped : (f : FlatFunction) → IsFlatFunction f → (done : List ℤ) (x : ℤ) (xs : List ℤ) (bits : List Bool) → Goes f.level (own f) (map nat_abs done)
    → first_failure (parts_from f (done ++ x ∷ []) xs) ≡ Some bits → first_failure (parts_from f done (x ∷ xs)) ≡ Some bits
skipped f flat done x xs bits goes e =
    ap first_failure (parts_next f done x xs)
    ∙ first_failure-append (fold_step SumOut (sums f done)) (parts_from f (done ++ x ∷ []) xs)
    ∙ or_second (first_failure (fold_step SumOut (sums f done))) (first_failure (parts_from f (done ++ x ∷ []) xs)) (Some bits) (step_never f flat done goes) e

-- the first of the parts fails
first_fails : (f : FlatFunction) (done : List ℤ) (d : ℤ) (more xs : List ℤ) (bits : List Bool) → done ≡ d ∷ more → failure (call SumOut (sums f done)) ≡ Some bits
    → first_failure (parts_from f done xs) ≡ Some bits
first_fails f done d more [] bits is e =
    or_first (failure (call SumOut (sums f (done ++ [])))) None bits (ap (λ l. failure (call SumOut (sums f l))) (append-nil done) ∙ e)
first_fails f done d more (x ∷ xs) bits is e =
    ap first_failure (parts_next f done x xs)
    ∙ first_failure-append (fold_step SumOut (sums f done)) (parts_from f (done ++ x ∷ []) xs)
    ∙ or_first (first_failure (fold_step SumOut (sums f done))) _ bits
    (ap (λ l. first_failure (fold_step SumOut (sums f l))) is ∙ ap first_failure (stepped f d more) ∙ or_first (failure (call SumOut (sums f (d ∷ more)))) None bits (ap (λ l. failure (call SumOut (sums f l))) (sym is) ∙ e))

two_of : (done : List ℤ) (x : ℤ) → (d : ℤ) × (more : List ℤ) × (done ++ x ∷ [] ≡ d ∷ more)
two_of [] x = (x, [], refl)
two_of (d ∷ done) x = (d, done ++ x ∷ [], refl)

fails_from : (f : FlatFunction) → IsFlatFunction f → (done xs : List ℤ) (k : ℕ) (bits : List Bool) → k < length xs → Goes f.level (own f) (map nat_abs (done ++ take k xs))
    → failure (call SumOut (sums f (done ++ take (suc k) xs))) ≡ Some bits → first_failure (parts_from f done xs) ≡ Some bits
fails_from f flat done [] k bits h goes e = absurd (omega (arith, h))
fails_from f flat done (x ∷ xs) zero bits h goes e =
    let two = two_of done x in
    skipped f flat done x xs bits (goes_first f.level (own f) done [] goes) (first_fails f (done ++ x ∷ []) two.0 two.1 xs bits two.2 e)
fails_from f flat done (x ∷ xs) (suc k) bits h goes e =
    skipped f flat done x xs bits (goes_first f.level (own f) done (x ∷ take k xs) goes)
    (fails_from f flat (done ++ x ∷ []) xs k bits (omega (arith, h))
    (subst (λ l. Goes f.level (own f) (map nat_abs l)) (sym (append_assoc done (x ∷ []) (take k xs))) goes)
    (ap (λ l. failure (call SumOut (sums f l))) (append_assoc done (x ∷ []) (take (suc k) xs)) ∙ e))

map_take : {A B : Type 0} (g : A → B) (k : ℕ) (xs : List A) → map g (take k xs) ≡ take k (map g xs)
map_take g zero [] = refl
map_take g (suc k) [] = refl
map_take g zero (x ∷ xs) = refl
map_take g (suc k) (x ∷ xs) = ap (λ l. g x ∷ l) (map_take g k xs)

map_long : {A B : Type 0} (g : A → B) (xs : List A) → length (map g xs) ≡ length xs
map_long g [] = refl
map_long g (x ∷ xs) = ap suc (map_long g xs)

-- The first step of nested sums that overflows is that of the first variable whose sums do.
pub first_step : (f : FlatFunction) → IsFlatFunction f → (xs : List ℤ) (bits : List Bool) → IsFirstFailing f.level Plus (own f) (map nat_abs xs) bits
    → first_failure (call_parts SumOut (sums f xs)) ≡ Some bits
first_step f flat xs bits h =
    let vars = map nat_abs xs in
    let k = h.place in
    let one : suc k ≡ k + 1 = omega arith in
    let front = take (suc k) xs in
    let is : places (at_places front) ≡ take (k + 1) vars = places_are front ∙ map_take nat_abs (suc k) xs ∙ ap (λ n. take n vars) one in
    fails_from f flat [] xs k bits (omega (arith, h.within, map_long nat_abs xs))
    (λ other a. subst (λ vs. over_all Plus (own f) vs other ≢ None) (sym (map_take nat_abs k xs)) (h.before other a))
    (fails-call SumOut (sums f front) bits (sums_fit f flat (at_places front))
    (subst (λ vs. IsLeastWithout f.level (over_all Plus (own f) vs) bits) (sym is) h.least))
