-- The jobs of calls over variables, as the package tells them.
use Rattle.std.proofs.Common.{ℕ, zero, suc, ℤ, ◌≡◌, ◌<◌, ◌≤◌, ◌^◌, Bool, List, [], ◌∷◌, ◌++◌, length, take, get_or, Option, Some, None, Result, Ok, Err, IfErr, refl, sym, ap, subst, ◌∙◌, arith}
use Rattle.std.specs.Prelude.{nat_abs, All}
use Rattle.std.specs.Result.{IsErrAnd}
use Rattle.std.proofs.lemmas.Option.{none-some}
use Rattle.std.proofs.Math.Pow.{pow_mono}
use Rattle.std.proofs.lemmas.List.Elements.{All-head, All-tail}
use Rattle.cf_model.specs.Pointwise.{restricted}
use Rattle.cf_model.specs.Quantified.{composed, some_setting, both}
use Rattle.cf_pkg.specs.Jobs.{HasValues, value_in}
use Rattle.cf_pkg.specs.Faults.{IfOverflow}
use Rattle.cf_pkg.specs.Tasks as task
use Rattle.cf_pkg.specs.declared.jobs.OpFault.{OpFault}
use Rattle.cf_pkg.specs.declared.jobs.OpFault.TheVariants as op
use Rattle.cf_session.specs.Building.{IsFault}
use Rattle.cf_session.specs.Faults.{fault_of}
use Rattle.cf_model.specs.declared.terms.Word2.TheVariants.{And, Or, Plus}
use Rattle.cf_pkg.specs.declared.Func.{Func}
use Rattle.cf_pkg.specs.Packages.{Package, Keeps}
use Rattle.cf_restrict.specs.Quantified.{some_value, IsFirstFailing, AreVariables, AreQuantified, IsJoined, AnswersAgain}
use Rattle.cf_reference.specs.declared.grammar.Head.{Head}
use Rattle.cf_reference.specs.declared.grammar.Head.TheVariants.{Exists, Forall, SumOut, AndExists}
use Rattle.cf_reference.specs.declared.grammar.Kind.TheVariants.{Variable as AVariable}
use Rattle.cf_reference.specs.Calls.{call_refusal}
use Rattle.cf_session.specs.declared.faults.StepFault.{StepFault}
use Rattle.cf_session.specs.declared.values.Value.{Value}
use Rattle.cf_session.specs.declared.values.Value.TheVariants.{Function, Position, Number}
use Rattle.cf_session.specs.Values.{places_of, AreOf, AreOwned, meanings}
use Rattle.cf_session.specs.Sessions.{Held, IsHeld}
use Rattle.cf_session.specs.Keeping.{IsJobKept, Repeats}
use Rattle.cf_session.proofs.Growth.{with_package, grown_from}
use Rattle.cf_session.proofs.Kept.{same_Ok, ok-err, repeats_told}
use Rattle.cf_session.proofs.VariableLaws.{variables_within}

abbrev position_or : Value → ℤ → ℤ
position_or (Function f) d = d
position_or (Position i) d = i
position_or (Number n) d = d

-- What a package answered where its jobs were remembered, as a session's answer.
pub over_ok : {E : Type 0} (h s : Held) → h ≡ s → (q : Package) → IsHeld h → Keeps h.pkg q → (Known : Package → Func → Type 0) (o : Result Func E) (r : Func) → o ≡ Ok r
    → AnswersAgain h.pkg q (Known h.pkg) o → (f : Func) → Known s.pkg f → Repeats s (with_package h q) f (Ok r)
over_ok h s e q holds keeps Known o r was a f k =
    let told = a f (subst (λ (x : Held). Known x.pkg f) (sym e) k) in
    repeats_told s (with_package h q) f (Ok r) (ap (λ x. Ok x) (same_Ok o r f was told.0), told.1 ∙ ap (λ (x : Held). x.pkg) e) (grown_from h s q e holds keeps)

pub over_err : {E : Type 0} (h s : Held) → h ≡ s → (q : Package) (Known : Package → Func → Type 0) (o : Result Func E) (x : E) → o ≡ Err x
    → AnswersAgain h.pkg q (Known h.pkg) o → (f : Func) → Known s.pkg f → ⊥
over_err h s e q Known o x was a f k =
    let told = a f (subst (λ (y : Held). Known y.pkg f) (sym e) k) in
    ok-err o f x told.0 was

-- the variables of a call, for the package
pub variables_low : (head : Head) (p : Package) (items vs : List Value) (f : Func) → items ≡ Function f ∷ vs → AreOwned p items → call_refusal head (meanings p items) ≡ None
    → All (λ i. i < 2 ^ f.head.level) (places_of vs)
variables_low head p items vs f is owned goes = variables_within head p f vs (ap (λ l. call_refusal head (meanings p l)) (sym is) ∙ goes)

-- the positions of the first variables
pub places_more : (vs : List Value) (k : ℕ) (d : Value) (i : ℤ) → get_or vs k d ≡ Position i → k < length vs → places_of (take (suc k) vs) ≡ places_of (take k vs) ++ nat_abs i ∷ []
places_more [] k d i e h = absurd (omega (arith, h))
places_more (x ∷ vs) zero d i e h = ap (λ y. places_of (y ∷ [])) e
places_more (Function f ∷ vs) (suc k) d i e h = places_more vs k d i e (omega (arith, h))
places_more (Position j ∷ vs) (suc k) d i e h = ap (λ l. nat_abs j ∷ l) (places_more vs k d i e (omega (arith, h)))
places_more (Number n ∷ vs) (suc k) d i e h = places_more vs k d i e (omega (arith, h))

pub place_low : (n : ℕ) (vs : List Value) (k : ℕ) (d : Value) (i : ℤ) → get_or vs k d ≡ Position i → k < length vs → All (λ j. j < n) (places_of vs) → nat_abs i < n
place_low n [] k d i e h low = absurd (omega (arith, h))
place_low n (Function f ∷ vs) zero d i e h low = cc
place_low n (Number m ∷ vs) zero d i e h low = cc
place_low n (Position j ∷ vs) zero d i e h low =
    subst (λ z. nat_abs z < n) (ap (λ y. position_or y i) e) (All-head (λ x. x < n) (nat_abs j) (places_of vs) low)
place_low n (Function f ∷ vs) (suc k) d i e h low = place_low n vs k d i e (omega (arith, h)) low
place_low n (Position j ∷ vs) (suc k) d i e h low = place_low n vs k d i e (omega (arith, h)) (All-tail (λ x. x < n) (nat_abs j) (places_of vs) low)
place_low n (Number m ∷ vs) (suc k) d i e h low = place_low n vs k d i e (omega (arith, h)) low

pub position_there : (vs : List Value) (k : ℕ) (d : Value) → k < length vs → AreOf [] (Some AVariable) vs → (i : ℤ) × (get_or vs k d ≡ Position i)
position_there [] k d h kinds = absurd (omega (arith, h))
position_there (Function f ∷ vs) k d h kinds = absurd kinds.0
position_there (Number m ∷ vs) k d h kinds = absurd kinds.0
position_there (Position j ∷ vs) zero d h kinds = (j, refl)
position_there (Position j ∷ vs) (suc k) d h kinds = position_there vs k d (omega (arith, h)) kinds.1

pub kinds_on : (vs : List Value) → AreOf (AVariable ∷ []) (Some AVariable) vs → AreOf [] (Some AVariable) vs
kinds_on [] h = absurd h
kinds_on (v ∷ vs) h = h

pub all_low : (l : ℕ) (vars : List ℕ) → l ≤ 7 → All (λ i. i < 2 ^ l) vars → All (λ i. i < 128) vars
all_low l vars low h j d lj =
    let e = h j d lj in
    omega (arith, e, pow_mono {i = l} {j = 7} low)

pub some_variables : (l : ℕ) (vs : List Value) → AreOf (AVariable ∷ []) (Some AVariable) vs → All (λ i. i < 2 ^ l) (places_of vs) → AreVariables l (places_of vs)
some_variables l [] h k = absurd h
some_variables l (Function f ∷ vs) h k = absurd h.0
some_variables l (Number n ∷ vs) h k = absurd h.0
some_variables l (Position i ∷ vs) h k = record { some = omega arith; within = k }

pub exists_kept : (p : Package) (items vs : List Value) (f r : Func) (places : List ℕ) → items ≡ Function f ∷ vs → places ≡ places_of vs → AreOf (AVariable ∷ []) (Some AVariable) vs
    → AreQuantified p Or f places r → IsJobKept p Exists items r
exists_kept p items vs f r places is same kinds k =
    subst (λ (l : List Value). IsJobKept p Exists l r) (sym is) (by vs kinds (subst (λ ps. AreQuantified p Or f ps r) same k))
  where
    by : (vs : List Value) → AreOf (AVariable ∷ []) (Some AVariable) vs → AreQuantified p Or f (places_of vs) r → IsJobKept p Exists (Function f ∷ vs) r
    by [] h q = absurd h
    by (Function g ∷ vs) h q = absurd h.0
    by (Number n ∷ vs) h q = absurd h.0
    by (Position i ∷ vs) h q = q

pub exists_known : (p : Package) (items vs : List Value) (f r : Func) (places : List ℕ) → items ≡ Function f ∷ vs → places ≡ places_of vs → IsJobKept p Exists items r → AreQuantified p Or f places r
exists_known p items vs f r places is same k =
    subst (λ ps. AreQuantified p Or f ps r) (sym same) (by vs (subst (λ (l : List Value). IsJobKept p Exists l r) is k))
  where
    by : (vs : List Value) → IsJobKept p Exists (Function f ∷ vs) r → AreQuantified p Or f (places_of vs) r
    by [] k = absurd (none-some k.0 k.1)
    by (Function g ∷ vs) k = absurd (none-some k.0 k.1)
    by (Number n ∷ vs) k = absurd (none-some k.0 k.1)
    by (Position i ∷ vs) k = k

pub forall_kept : (p : Package) (items vs : List Value) (f r : Func) (places : List ℕ) → items ≡ Function f ∷ vs → places ≡ places_of vs → AreOf (AVariable ∷ []) (Some AVariable) vs
    → AreQuantified p And f places r → IsJobKept p Forall items r
forall_kept p items vs f r places is same kinds k =
    subst (λ (l : List Value). IsJobKept p Forall l r) (sym is) (by vs kinds (subst (λ ps. AreQuantified p And f ps r) same k))
  where
    by : (vs : List Value) → AreOf (AVariable ∷ []) (Some AVariable) vs → AreQuantified p And f (places_of vs) r → IsJobKept p Forall (Function f ∷ vs) r
    by [] h q = absurd h
    by (Function g ∷ vs) h q = absurd h.0
    by (Number n ∷ vs) h q = absurd h.0
    by (Position i ∷ vs) h q = q

pub forall_known : (p : Package) (items vs : List Value) (f r : Func) (places : List ℕ) → items ≡ Function f ∷ vs → places ≡ places_of vs → IsJobKept p Forall items r → AreQuantified p And f places r
forall_known p items vs f r places is same k =
    subst (λ ps. AreQuantified p And f ps r) (sym same) (by vs (subst (λ (l : List Value). IsJobKept p Forall l r) is k))
  where
    by : (vs : List Value) → IsJobKept p Forall (Function f ∷ vs) r → AreQuantified p And f (places_of vs) r
    by [] k = absurd (none-some k.0 k.1)
    by (Function g ∷ vs) k = absurd (none-some k.0 k.1)
    by (Number n ∷ vs) k = absurd (none-some k.0 k.1)
    by (Position i ∷ vs) k = k

pub sum_kept : (p : Package) (items vs : List Value) (f r : Func) (places : List ℕ) → items ≡ Function f ∷ vs → places ≡ places_of vs → AreOf (AVariable ∷ []) (Some AVariable) vs
    → AreQuantified p Plus f places r → IsJobKept p SumOut items r
sum_kept p items vs f r places is same kinds k =
    subst (λ (l : List Value). IsJobKept p SumOut l r) (sym is) (by vs kinds (subst (λ ps. AreQuantified p Plus f ps r) same k))
  where
    by : (vs : List Value) → AreOf (AVariable ∷ []) (Some AVariable) vs → AreQuantified p Plus f (places_of vs) r → IsJobKept p SumOut (Function f ∷ vs) r
    by [] h q = absurd h
    by (Function g ∷ vs) h q = absurd h.0
    by (Number n ∷ vs) h q = absurd h.0
    by (Position i ∷ vs) h q = q

pub sum_known : (p : Package) (items vs : List Value) (f r : Func) (places : List ℕ) → items ≡ Function f ∷ vs → places ≡ places_of vs → IsJobKept p SumOut items r → AreQuantified p Plus f places r
sum_known p items vs f r places is same k =
    subst (λ ps. AreQuantified p Plus f ps r) (sym same) (by vs (subst (λ (l : List Value). IsJobKept p SumOut l r) is k))
  where
    by : (vs : List Value) → IsJobKept p SumOut (Function f ∷ vs) r → AreQuantified p Plus f (places_of vs) r
    by [] k = absurd (none-some k.0 k.1)
    by (Function g ∷ vs) k = absurd (none-some k.0 k.1)
    by (Number n ∷ vs) k = absurd (none-some k.0 k.1)
    by (Position i ∷ vs) k = k

pub joined_kept : (p : Package) (items vs : List Value) (f g r : Func) (places : List ℕ) → items ≡ Function f ∷ Function g ∷ vs → places ≡ places_of vs
    → AreOf (AVariable ∷ []) (Some AVariable) vs → IsJoined p f g places r → IsJobKept p AndExists items r
joined_kept p items vs f g r places is same kinds k =
    subst (λ (l : List Value). IsJobKept p AndExists l r) (sym is) (by vs kinds (subst (λ ps. IsJoined p f g ps r) same k))
  where
    by : (vs : List Value) → AreOf (AVariable ∷ []) (Some AVariable) vs → IsJoined p f g (places_of vs) r → IsJobKept p AndExists (Function f ∷ Function g ∷ vs) r
    by [] h q = absurd h
    by (Function x ∷ vs) h q = absurd h.0
    by (Number n ∷ vs) h q = absurd h.0
    by (Position i ∷ vs) h q = q

pub joined_known : (p : Package) (items vs : List Value) (f g r : Func) (places : List ℕ) → items ≡ Function f ∷ Function g ∷ vs → places ≡ places_of vs → IsJobKept p AndExists items r
    → IsJoined p f g places r
joined_known p items vs f g r places is same k =
    subst (λ ps. IsJoined p f g ps r) (sym same) (by vs (subst (λ (l : List Value). IsJobKept p AndExists l r) is k))
  where
    by : (vs : List Value) → IsJobKept p AndExists (Function f ∷ Function g ∷ vs) r → IsJoined p f g (places_of vs) r
    by [] k = absurd (none-some k.0 k.1)
    by (Function x ∷ vs) k = absurd (none-some k.0 k.1)
    by (Number n ∷ vs) k = absurd (none-some k.0 k.1)
    by (Position i ∷ vs) k = k

-- what the package was given
pub over_values : (h s : Held) → h ≡ s → (q : Package) (f r : Func) (ps vars : List ℕ) (values : (List Bool → ℤ) → List ℕ → List Bool → Option ℤ) → ps ≡ vars
    → HasValues q r f.head.level (values (value_in h.pkg f) ps) → HasValues q r f.head.level (values (value_in s.pkg f) vars)
over_values h s e q f r ps vars values same v =
    subst (λ l. HasValues q r f.head.level (values (value_in s.pkg f) l)) same (subst (λ (x : Held). HasValues q r f.head.level (values (value_in x.pkg f) ps)) e v)

pub restrict_values : (h s : Held) → h ≡ s → (q : Package) (f r : Func) (i j : ℕ) (b c : Bool) → i ≡ j → b ≡ c → HasValues q r f.head.level (λ bits. Some (restricted (value_in h.pkg f) i b bits))
    → HasValues q r f.head.level (λ bits. Some (restricted (value_in s.pkg f) j c bits))
restrict_values h s e q f r i j b c same bit v =
    subst (λ x. HasValues q r f.head.level (λ bits. Some (restricted (value_in s.pkg f) j x bits))) bit
    (subst (λ x. HasValues q r f.head.level (λ bits. Some (restricted (value_in s.pkg f) x b bits))) same
    (subst (λ (x : Held). HasValues q r f.head.level (λ bits. Some (restricted (value_in x.pkg f) i b bits))) e v))

pub compose_values : (h s : Held) → h ≡ s → (q : Package) (f g r : Func) (i j : ℕ) → i ≡ j → HasValues q r f.head.level (λ bits. Some (composed (value_in h.pkg f) i (value_in h.pkg g) bits))
    → HasValues q r f.head.level (λ bits. Some (composed (value_in s.pkg f) j (value_in s.pkg g) bits))
compose_values h s e q f g r i j same v =
    subst (λ x. HasValues q r f.head.level (λ bits. Some (composed (value_in s.pkg f) x (value_in s.pkg g) bits))) same
    (subst (λ (x : Held). HasValues q r f.head.level (λ bits. Some (composed (value_in x.pkg f) i (value_in x.pkg g) bits))) e v)

pub restrict_is : (f : Func) (i j : ℕ) (b c : Bool) → i ≡ j → b ≡ c → task.Restrict f i b ≡ task.Restrict f j c
restrict_is f i j b c same bit = ap (λ x. task.Restrict f x b) same ∙ ap (task.Restrict f j) bit

-- a fault of the package as the session's
pub fault_is : (P : List Bool → Type 0) (o : Result Func OpFault) (x : OpFault) (result : Result Func StepFault) → o ≡ Err x → IfOverflow o P → IsErrAnd result (λ e. e ≡ fault_of x)
    → IfErr result (IsFault P)
fault_is P o x (Ok r) was over is = tt
fault_is P o op.NoMemory (Err e) was over is = subst (IsFault P) (sym is) tt
fault_is P o (op.Overflow at) (Err e) was over is = subst (IsFault P) (sym is) (over at was)

pub joined_values : (h s : Held) → h ≡ s → (q : Package) (f g r : Func) (ps vars : List ℕ) → ps ≡ vars
    → HasValues q r f.head.level (λ bits. Some (some_setting (both (value_in h.pkg f) (value_in h.pkg g)) ps bits))
    → HasValues q r f.head.level (λ bits. Some (some_setting (both (value_in s.pkg f) (value_in s.pkg g)) vars bits))
joined_values h s e q f g r ps vars same v =
    subst (λ l. HasValues q r f.head.level (λ bits. Some (some_setting (both (value_in s.pkg f) (value_in s.pkg g)) l bits))) same
    (subst (λ (x : Held). HasValues q r f.head.level (λ bits. Some (some_setting (both (value_in x.pkg f) (value_in x.pkg g)) ps bits))) e v)

pub joined_low : (p : Package) (items vs : List Value) (f g : Func) → items ≡ Function f ∷ Function g ∷ vs → call_refusal AndExists (meanings p items) ≡ None
    → All (λ i. i < 2 ^ f.head.level) (places_of vs)
joined_low p items vs f g is goes = variables_within AndExists p f (Function g ∷ vs) (ap (λ l. call_refusal AndExists (meanings p l)) (sym is) ∙ goes)

pub over_fault : (h s : Held) → h ≡ s → (f : Func) (ps vars : List ℕ) → ps ≡ vars → (fault : StepFault) → IsFault (IsFirstFailing f.head.level Plus (some_value h.pkg f) ps) fault
    → IsFault (IsFirstFailing f.head.level Plus (some_value s.pkg f) vars) fault
over_fault h s e f ps vars same fault v =
    subst (λ l. IsFault (IsFirstFailing f.head.level Plus (some_value s.pkg f) l) fault) same (subst (λ (x : Held). IsFault (IsFirstFailing f.head.level Plus (some_value x.pkg f) ps) fault) e v)
