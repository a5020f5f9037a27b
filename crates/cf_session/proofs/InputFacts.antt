-- The inputs of a circuit as variables.
use Rattle.std.proofs.Common.{ℕ, suc, ◌≡◌, ◌≤◌, ◌<◌, ◌+◌, ◌^◌, Bool, true, false, cond, ◌||◌, List, [], ◌∷◌, ◌++◌, drop, map, length, get_or, refl, sym, ◌∙◌, ap, arith, subst, Option, Some, None, drop-cons, add-one}
use Rattle.std.specs.Prelude.{All, is_some, nat_le}
use Rattle.std.specs.Option.{option_map, option_or}
use Rattle.std.specs.Str.{bytes_eq}
use Rattle.std.proofs.lemmas.Bool.{false≢true}
use Rattle.std.proofs.lemmas.Bool.Decides.{nat_tests}
use Rattle.std.proofs.lemmas.List.{length-append}
use Rattle.std.proofs.lemmas.List.Elements.{All-cons, All-nil}
use Rattle.std.proofs.lemmas.Slice.Eq.{bytes_eq-Decides}
use Rattle.cf_model.specs.Renumbering.{place}
use Rattle.cf_model.specs.FlatFunctions.{variable}
use Rattle.cf_pkg.specs.declared.Func.{Func}
use Rattle.cf_pkg.specs.Packages.{Package, Keeps, Means, meaning}
use Rattle.cf_reference.specs.Reasons.{Refusal, Taken, TooManyVariables, where_holds}
use Rattle.cf_reference.specs.States.{State, level_in, is_among, is_bound, function_named, names_in, repeats}
use Rattle.cf_reference.specs.Loading.{with_input, with_inputs, input_refusal, inputs_refusal}
use Rattle.cf_reference.proofs.NameLaws.{differ-vars}
use Rattle.cf_session.specs.Sessions.{Names, names_of}
use Rattle.cf_session.specs.Bindings.{place_in, bind}
use Rattle.cf_session.specs.Statements.{ArePositions}
use Rattle.cf_session.specs.declared.faults.StepFault.{StepFault}
use Rattle.cf_session.specs.declared.faults.StepFault.TheVariants.{NoMemory, Refused}
use Rattle.cf_session.specs.Faults.{reason_of}
use Rattle.cf_session.specs.Loads.{state_by, IsFaultOfNames}
use Rattle.cf_pkg.proofs.Valued.{Keeps-same}
use Rattle.cf_session.proofs.NameFacts.{flipped, found, place-within}
use Rattle.cf_session.proofs.StatementFacts.{bind-new, names_push, positions_push}

-- whether a name is bound, by its look-up
pub among-place : (bound : Names) (name : List ℕ) (o : Option ℕ) (b : Bool) → o ≡ place_in bound name → is_some o ≡ b
    → is_among (names_of bound) name ≡ b
among-place bound name o b is found =
    by (is_among (names_of bound) name) refl ∙ ap (λ (q : Option ℕ). is_some q) (sym is) ∙ found
  where
    by : (t : Bool) → is_among (names_of bound) name ≡ t
        → is_among (names_of bound) name ≡ is_some (cond (is_among (names_of bound) name) (Some (place bytes_eq (names_of bound) name)) None)
    by true h = h ∙ ap (λ t. is_some (cond t (Some (place bytes_eq (names_of bound) name)) None)) (sym h)
    by false h = h ∙ ap (λ t. is_some (cond t (Some (place bytes_eq (names_of bound) name)) None)) (sym h)

-- a function's name
function_there : (p : Package) (fs : Names) (name : List ℕ)
    → is_some (function_named (map (λ b. (b.0, meaning p b.1)) fs) name) ≡ is_among (names_of fs) name
function_there p [] name = refl
function_there p (b ∷ later) name =
    by (bytes_eq name b.0) (function_there p later name) ∙ ap (λ t. t || is_among (names_of later) name) (flipped name b.0)
  where
    by : (t : Bool)
        → is_some (function_named (map (λ b. (b.0, meaning p b.1)) later) name) ≡ is_among (names_of later) name
        → is_some (cond t (Some (meaning p b.1)) (function_named (map (λ b. (b.0, meaning p b.1)) later) name))
        ≡ t || is_among (names_of later) name
    by true rest = refl
    by false rest = rest

bound_by : (p : Package) (l : ℕ) (vs fs : Names) (name : List ℕ) → is_among (names_of vs) name ≡ false
    → is_bound (state_by p l vs fs) name ≡ is_among (names_of fs) name
bound_by p l vs fs name free =
    ap (λ t. is_some (option_or (option_map (variable l) (cond t (Some (place bytes_eq (names_of vs) name)) None)) (function_named (map (λ b. (b.0, meaning p b.1)) fs) name))) free
    ∙ function_there p fs name

-- an input that is a variable
pub input-there : (s : State) (name : List ℕ) → is_among s.variables name ≡ true → input_refusal s name ≡ None
input-there s name e =
    ap (λ t. cond t None (option_or (where_holds (is_bound s name) Taken) (where_holds (nat_le (2 ^ level_in s) (length s.variables)) TooManyVariables))) e

pub input-kept : (s : State) (name : List ℕ) → is_among s.variables name ≡ true
    → s.variables ≡ (with_input s name).variables
input-kept s name e = sym (ap (λ t. cond t s.variables (s.variables ++ name ∷ [])) e)

-- another one
refusal_if : (s : State) (name : List ℕ) (bound full : Bool) → is_among s.variables name ≡ false
    → is_bound s name ≡ bound → nat_le (2 ^ level_in s) (length s.variables) ≡ full
    → input_refusal s name ≡ option_or (where_holds bound Taken) (where_holds full TooManyVariables)
refusal_if s name bound full free b f =
    ap (λ t. cond t None (option_or (where_holds (is_bound s name) Taken) (where_holds (nat_le (2 ^ level_in s) (length s.variables)) TooManyVariables))) free
    ∙ ap (λ t. option_or (where_holds t Taken) (where_holds (nat_le (2 ^ level_in s) (length s.variables)) TooManyVariables)) b
    ∙ ap (λ t. option_or (where_holds bound Taken) (where_holds t TooManyVariables)) f

pub input-taken : (p : Package) (l : ℕ) (vs fs : Names) (name : List ℕ) → is_among (names_of vs) name ≡ false
    → is_among (names_of fs) name ≡ true → input_refusal (state_by p l vs fs) name ≡ Some Taken
input-taken p l vs fs name free there =
    refusal_if (state_by p l vs fs) name true (nat_le (2 ^ l) (length (names_of vs))) free (bound_by p l vs fs name free ∙ there) refl

count : (bound : Names) → length (names_of bound) ≡ length bound
count [] = refl
count (b ∷ later) = ap suc (count later)

full : (m n : ℕ) → m ≤ n → nat_le m n ≡ true
full m n h = grind (arith, nat_tests)

open_yet : (m n : ℕ) → n < m → nat_le m n ≡ false
open_yet m n h = grind (arith, nat_tests)

pub input-many : (p : Package) (l : ℕ) (vs fs : Names) (name : List ℕ) → is_among (names_of vs) name ≡ false
    → is_among (names_of fs) name ≡ false → 2 ^ l ≤ length vs
    → input_refusal (state_by p l vs fs) name ≡ Some TooManyVariables
input-many p l vs fs name free other many =
    let n = count vs in
    refusal_if (state_by p l vs fs) name false true free (bound_by p l vs fs name free ∙ other)
    (full (2 ^ l) (length (names_of vs)) (omega (arith, n, many)))

pub input-free : (p : Package) (l : ℕ) (vs fs : Names) (name : List ℕ) → is_among (names_of vs) name ≡ false
    → is_among (names_of fs) name ≡ false → length vs < 2 ^ l → input_refusal (state_by p l vs fs) name ≡ None
input-free p l vs fs name free other room =
    let n = count vs in
    refusal_if (state_by p l vs fs) name false false free (bound_by p l vs fs name free ∙ other)
    (open_yet (2 ^ l) (length (names_of vs)) (omega (arith, n, room)))

pub input-names : (p : Package) (l : ℕ) (vs fs now : Names) (name : List ℕ) (f : Func)
    → is_among (names_of vs) name ≡ false → now ≡ bind vs name f
    → names_of now ≡ (with_input (state_by p l vs fs) name).variables
input-names p l vs fs now name f free is =
    ap names_of (is ∙ bind-new vs name f free) ∙ names_push vs name f
    ∙ sym (ap (λ t. cond t (names_of vs) (names_of vs ++ name ∷ [])) free)

pub input-positions : (p q : Package) (l : ℕ) (vs now : Names) (name : List ℕ) (f : Func)
    → is_among (names_of vs) name ≡ false → now ≡ bind vs name f → ArePositions p l vs → Keeps p q
    → Means q f (variable l (length vs)) → ArePositions q l now
input-positions p q l vs now name f free is h k m =
    subst (λ bound. ArePositions q l bound) (sym (is ∙ bind-new vs name f free)) (positions_push p q l vs name f h k m)

-- which package the functions are of doesn't matter
same_refusal : (p q : Package) (l : ℕ) (vs fs : Names) (name : List ℕ)
    → input_refusal (state_by p l vs fs) name ≡ input_refusal (state_by q l vs fs) name
same_refusal p q l vs fs name = by (is_among (names_of vs) name) refl
  where
    by : (t : Bool) → is_among (names_of vs) name ≡ t
        → input_refusal (state_by p l vs fs) name ≡ input_refusal (state_by q l vs fs) name
    by true e = input-there (state_by p l vs fs) name e ∙ sym (input-there (state_by q l vs fs) name e)
    by false e =
        let free = bound_by p l vs fs name e in
        let other = bound_by q l vs fs name e in
        refusal_if (state_by p l vs fs) name (is_among (names_of fs) name) (nat_le (2 ^ l) (length (names_of vs))) e free refl
        ∙ sym (refusal_if (state_by q l vs fs) name (is_among (names_of fs) name) (nat_le (2 ^ l) (length (names_of vs))) e other refl)

-- Some inputs are variables, and the others are left: those come to what all of them come to.
pub record HaveInputs (p q : Package) (l : ℕ) (vs fs now : Names) (all left : List (List ℕ)) : Type 0 where
  pub refusal : inputs_refusal (state_by p l vs fs) all ≡ inputs_refusal (state_by p l now fs) left
  pub names : (with_inputs (state_by p l vs fs) all).variables ≡ (with_inputs (state_by p l now fs) left).variables
  pub positions : ArePositions q l now
  pub kept : Keeps p q

pub inputs-next : (p q r : Package) (l : ℕ) (vs fs now next : Names) (all rest : List (List ℕ)) (name : List ℕ)
    → HaveInputs p q l vs fs now all (name ∷ rest) → input_refusal (state_by q l now fs) name ≡ None
    → names_of next ≡ (with_input (state_by q l now fs) name).variables → ArePositions r l next → Keeps p r
    → HaveInputs p r l vs fs next all rest
inputs-next p q r l vs fs now next all rest name h free names positions kept =
    let none = same_refusal p q l now fs name ∙ free in
    record {
      refusal =
          h.refusal ∙ ap (λ o. option_or o (inputs_refusal (with_input (state_by p l now fs) name) rest)) none
          ∙ ap (λ (ns : List (List ℕ)). inputs_refusal (record (state_by p l now fs) { variables = ns }) rest) (sym names);
      names =
          h.names
          ∙ ap (λ (ns : List (List ℕ)). (with_inputs (record (state_by p l now fs) { variables = ns }) rest).variables) (sym names);
      positions = positions;
      kept = kept;
    }

pub inputs-refused : (p q : Package) (l : ℕ) (vs fs now : Names) (all rest : List (List ℕ)) (name : List ℕ) (r : Refusal)
    → HaveInputs p q l vs fs now all (name ∷ rest) → input_refusal (state_by q l now fs) name ≡ Some r
    → inputs_refusal (state_by p l vs fs) all ≡ Some r
inputs-refused p q l vs fs now all rest name r h e =
    h.refusal
    ∙ ap (λ o. option_or o (inputs_refusal (with_input (state_by p l now fs) name) rest)) (same_refusal p q l now fs name ∙ e)

-- What holds of a state with the inputs.
pub record HoldsInputs (s : State) : Type 0 where
  pub room : length s.variables ≤ 2 ^ level_in s
  pub differ : repeats (names_in s) ≡ false

no_first : (a b : Option Refusal) → option_or a b ≡ None → (a ≡ None) × (b ≡ None)
no_first None b e = (refl, e)
no_first (Some r) b e = absurd (false≢true (sym (ap (λ (o : Option Refusal). is_some o) e)))

unheld : (b : Bool) (r : Refusal) → where_holds b r ≡ None → b ≡ false
unheld false r e = refl
unheld true r e = absurd (false≢true (sym (ap (λ (o : Option Refusal). is_some o) e)))

not_full : (m n : ℕ) → nat_le m n ≡ false → n < m
not_full m n e = grind (arith, nat_tests)

holds_input : (s : State) (name : List ℕ) → HoldsInputs s → input_refusal s name ≡ None → HoldsInputs (with_input s name)
holds_input s name h e = by (is_among s.variables name) e
  where
    by : (t : Bool)
        → cond t None (option_or (where_holds (is_bound s name) Taken) (where_holds (nat_le (2 ^ level_in s) (length s.variables)) TooManyVariables)) ≡ None
        → HoldsInputs (record s { variables = cond t s.variables (s.variables ++ name ∷ []) })
    by true k = record { room = h.room; differ = h.differ }
    by false k =
        let both = no_first (where_holds (is_bound s name) Taken) _ k in
        let room = not_full (2 ^ level_in s) (length s.variables) (unheld _ TooManyVariables both.1) in
        let grown = length-append s.variables (name ∷ []) in
        record {
          room = omega (arith, room, grown);
          differ = differ-vars s (name ∷ []) h.differ (ap (λ b. (b || false) || false) (unheld (is_bound s name) Taken both.0));
        }

pub holds-inputs : (s : State) (names : List (List ℕ)) → HoldsInputs s → inputs_refusal s names ≡ None
    → HoldsInputs (with_inputs s names)
holds-inputs s [] h e = h
holds-inputs s (name ∷ later) h e =
    let both = no_first (input_refusal s name) (inputs_refusal (with_input s name) later) e in
    holds-inputs (with_input s name) later (holds_input s name h both.0) both.1

-- Inputs change nothing but the variables.
pub inputs-only : (s : State) (names : List (List ℕ)) → with_inputs s names ≡ record s { variables = (with_inputs s names).variables }
inputs-only s [] = refl
inputs-only s (name ∷ later) = inputs-only (with_input s name) later

-- each of them is a variable then
or_right : (a b : Bool) → b ≡ true → a || b ≡ true
or_right true b e = refl
or_right false b e = e

among_append : (xs ys : List (List ℕ)) (name : List ℕ) → is_among xs name ≡ true → is_among (xs ++ ys) name ≡ true
among_append [] ys name e = absurd (false≢true e)
among_append (x ∷ xs) ys name e = by (bytes_eq x name) e (among_append xs ys name)
  where
    by : (t : Bool) → t || is_among xs name ≡ true → (is_among xs name ≡ true → is_among (xs ++ ys) name ≡ true)
        → t || is_among (xs ++ ys) name ≡ true
    by true h later = refl
    by false h later = later h

among_last : (xs : List (List ℕ)) (name : List ℕ) → is_among (xs ++ name ∷ []) name ≡ true
among_last [] name = ap (λ t. t || false) (same name)
  where
    same : (x : List ℕ) → bytes_eq x x ≡ true
    same x = (bytes_eq-Decides x x).1 refl
among_last (x ∷ xs) name = or_right (bytes_eq x name) (is_among (xs ++ name ∷ []) name) (among_last xs name)

stays_input : (s : State) (name other : List ℕ) → is_among s.variables other ≡ true → is_among (with_input s name).variables other ≡ true
stays_input s name other e = by (is_among s.variables name)
  where
    by : (t : Bool) → is_among (cond t s.variables (s.variables ++ name ∷ [])) other ≡ true
    by true = e
    by false = among_append s.variables (name ∷ []) other e

stays : (s : State) (names : List (List ℕ)) (other : List ℕ) → is_among s.variables other ≡ true
    → is_among (with_inputs s names).variables other ≡ true
stays s [] other e = e
stays s (name ∷ later) other e = stays (with_input s name) later other (stays_input s name other e)

here : (s : State) (name : List ℕ) → is_among (with_input s name).variables name ≡ true
here s name = by (is_among s.variables name) refl
  where
    by : (t : Bool) → is_among s.variables name ≡ t → is_among (cond t s.variables (s.variables ++ name ∷ [])) name ≡ true
    by true e = e
    by false e = among_last s.variables name

pub inputs-there : (s : State) (names : List (List ℕ)) → All (λ name. is_among (with_inputs s names).variables name ≡ true) names
inputs-there s [] = All-nil _
inputs-there s (name ∷ later) =
    All-cons (λ n. is_among (with_inputs (with_input s name) later).variables n ≡ true) name later
    (stays (with_input s name) later name (here s name)) (inputs-there (with_input s name) later)

-- before the first input
pub inputs-none : (p : Package) (l : ℕ) (vs fs now : Names) (all : List (List ℕ)) → now ≡ vs → ArePositions p l vs
    → HaveInputs p p l vs fs now all all
inputs-none p l vs fs now all is h =
    subst (λ bound. HaveInputs p p l vs fs bound all all) (sym is)
    (record { refusal = refl; names = refl; positions = h; kept = Keeps-same p })

-- the next one
pub inputs-at : (p q : Package) (l : ℕ) (vs fs now : Names) (all : List (List ℕ)) (i : ℕ) (name : List ℕ)
    → HaveInputs p q l vs fs now all (drop i all) → i < length all → name ≡ get_or all i name
    → HaveInputs p q l vs fs now all (name ∷ drop (i + 1) all)
inputs-at p q l vs fs now all i name h inside is =
    rw add-one
    (subst (HaveInputs p q l vs fs now all) (drop-cons all i name inside ∙ ap (λ (n : List ℕ). n ∷ drop (suc i) all) (sym is)) h)

pub inputs-fault-at : (p q : Package) (l : ℕ) (vs fs now : Names) (all rest : List (List ℕ)) (name : List ℕ) (e : StepFault)
    → HaveInputs p q l vs fs now all (name ∷ rest) → IsFaultOfNames (input_refusal (state_by q l now fs) name) e
    → IsFaultOfNames (inputs_refusal (state_by p l vs fs) all) e
inputs-fault-at p q l vs fs now all rest name NoMemory h f = tt
inputs-fault-at p q l vs fs now all rest name (Refused r) h f =
    inputs-refused p q l vs fs now all rest name (reason_of r) h f

-- whether a position is one of few
pub place-below : (bound : Names) (name : List ℕ) (n : ℕ) → Some n ≡ place_in bound name → n < length bound
place-below bound name n e =
    let there = found (names_of bound) name n e in
    let inside = place-within (names_of bound) name there.0 in
    let many = count bound in
    omega (arith, inside, there.1, many)
