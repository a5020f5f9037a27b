-- The outputs of a circuit as functions.
use Rattle.std.proofs.Common.{ℕ, zero, suc, ◌≡◌, ◌<◌, Bool, true, false, ◌||◌, List, [], ◌∷◌, ◌++◌, drop, map, length, refl, sym, ◌∙◌, ap, arith, subst, Some}
use Rattle.std.specs.Prelude.{All, slice_get}
use Rattle.std.specs.List.{list_any}
use Rattle.std.specs.Str.{bytes_eq}
use Rattle.std.proofs.lemmas.Bool.{false≢true}
use Rattle.std.proofs.lemmas.Option.{same_Some, none-some, slice_get_within}
use Rattle.std.proofs.lemmas.List.Elements.{All-cons, All-nil, All-head, All-tail}
use Rattle.cf_model.specs.Assignments.{bit_at}
use Rattle.cf_model.specs.Diagrams.{IsGood}
use Rattle.cf_model.specs.FlatFunctions.{FlatFunction}
use Rattle.cf_model.specs.Renumbering.{place}
use Rattle.cf_model.specs.Terms.{truth}
use Rattle.cf_circuits.specs.declared.models.ModelDef.{ModelDef}
use Rattle.cf_circuits.specs.Expansions.{circuit_value}
use Rattle.cf_circuits.specs.Roots.{inputs_of}
use Rattle.cf_flat.specs.declared.flat.Flat.{Flat}
use Rattle.cf_flat.specs.declared.flat.Out.{Out}
use Rattle.cf_flat.specs.Flats.{wire_value}
use Rattle.cf_flat.specs.Flattening.{HasValues}
use Rattle.cf_circuit.specs.Functions.{AreFunctionsOf, bits_at, wire_test}
use Rattle.cf_circuit.specs.Truths.{Shows}
use Rattle.cf_pkg.specs.declared.Func.{Func}
use Rattle.cf_pkg.specs.Packages.{Package, OwnsFunction, meaning}
use Rattle.cf_pkg.proofs.Finishing.{has_means}
use Rattle.cf_reference.specs.States.{State, level_in, is_among, names_in, repeats}
use Rattle.cf_reference.specs.States as states
use Rattle.cf_reference.specs.Loading.{output_name, outputs_clash, with_outputs, input_bits, output_function}
use Rattle.cf_reference.proofs.NameLaws.{differ-let}
use Rattle.cf_session.specs.Sessions.{Names}
use Rattle.cf_session.specs.Bindings.{bind}
use Rattle.cf_session.specs.Loads.{bind_outputs, names_out}
use Rattle.cf_session.proofs.StatementFacts.{bind_owned, bind_flat}

map_map : {A B C : Type 0} (f : A → B) (g : B → C) (xs : List A) → map g (map f xs) ≡ map (λ x. g (f x)) xs
map_map f g [] = refl
map_map f g (x ∷ xs) = ap (λ ys. g (f x) ∷ ys) (map_map f g xs)

length_map : {A B : Type 0} (f : A → B) (xs : List A) → length (map f xs) ≡ length xs
length_map f [] = refl
length_map f (x ∷ xs) = ap suc (length_map f xs)

-- the outputs are among all, at each place
all_at : {A : Type 0} (P : A → Type 0) (xs : List A) (i : ℕ) (x : A) → All P xs → slice_get xs i ≡ Some x → P x
all_at P [] i x all e = absurd (none-some x e)
all_at P (y ∷ xs) zero x all e = subst P (same_Some y x e) (All-head P y xs all)
all_at P (y ∷ xs) (suc i) x all e = all_at P xs i x (All-tail P y xs all) e

-- the bits of inputs are those at their positions
bits_are : (variables inputs : List (List ℕ)) (bits : List Bool)
    → input_bits variables inputs bits ≡ bits_at (map (place bytes_eq variables) inputs) bits
bits_are variables inputs bits = sym (map_map (place bytes_eq variables) (bit_at bits) inputs)

-- The function of an output means what the output's function is.
pub output-means : (q : Package) (s : State) (models : List ModelDef) (flat : Flat) (positions : List ℕ) (fs : List Func)
    → IsGood q.groupings.levels → flat.inputs ≡ inputs_of models → HasValues models flat
    → positions ≡ map (place bytes_eq s.variables) (inputs_of models)
    → AreFunctionsOf q (level_in s) flat positions fs
    → (i : ℕ) (f : Func) (out : Out) → slice_get fs i ≡ Some f → slice_get flat.outputs i ≡ Some out
    → meaning q f ≡ output_function s models out.name
output-means q s models flat positions fs good inputs values placed are i f out there output =
    (has_means q good f (level_in s)
    (λ bits. truth (circuit_value models (input_bits s.variables (inputs_of models) bits) out.name))
    (record {
      owned = shown.owned;
      level = shown.level;
      values = λ bits a. shown.values bits a ∙ ap (λ b. Some (truth b)) (sym (same bits));
    })).is_it
  where
    shown : Shows q (level_in s) (wire_test flat positions out.wire) f
    shown = are i f out there output

    same : (bits : List Bool)
        → circuit_value models (input_bits s.variables (inputs_of models) bits) out.name
        ≡ wire_value flat (bits_at positions bits) out.wire
    same bits =
        let these = bits_are s.variables (inputs_of models) bits ∙ ap (λ ps. bits_at ps bits) (sym placed) in
        let many = length_map (λ name. bit_at bits (place bytes_eq s.variables name)) (inputs_of models) in
        all_at (λ out. circuit_value models (input_bits s.variables (inputs_of models) bits) out.name ≡ wire_value flat (input_bits s.variables (inputs_of models) bits) out.wire) flat.outputs i out
        (values (input_bits s.variables (inputs_of models) bits) many) output
        ∙ ap (λ bs. wire_value flat bs out.wire) these

-- the functions are the package's
get_all : {A : Type 0} (P : A → Type 0) (xs : List A) → ((i : ℕ) (x : A) → slice_get xs i ≡ Some x → P x) → All P xs
get_all P [] h = All-nil _
get_all P (x ∷ xs) h = All-cons P x xs (h 0 x refl) (get_all P xs (λ i y e. h (suc i) y e))

pub outputs-owned : (q : Package) (l : ℕ) (flat : Flat) (positions : List ℕ) (fs : List Func)
    → length fs ≡ length flat.outputs → AreFunctionsOf q l flat positions fs → All (OwnsFunction q) fs
outputs-owned q l flat positions fs many are =
    get_all (OwnsFunction q) fs
    (λ i f e. let out = there flat.outputs i (omega (arith, many, slice_get_within fs i f e)) in (are i f out.0 e out.1).owned)
  where
    there : (outputs : List Out) (i : ℕ) → i < length outputs → (out : Out) × (slice_get outputs i ≡ Some out)
    there [] i inside = absurd (omega (arith, inside))
    there (out ∷ outputs) zero inside = (out, refl)
    there (out ∷ outputs) (suc i) inside = there outputs i (omega (arith, inside))

-- binding them all
pub bound-owned : (q : Package) (bound : Names) (prefix : List ℕ) (names : List (List ℕ)) (fs : List Func)
    → All (λ b. OwnsFunction q b.1) bound → All (OwnsFunction q) fs
    → All (λ b. OwnsFunction q b.1) (bind_outputs bound prefix names fs)
bound-owned q bound prefix [] [] all owned = all
bound-owned q bound prefix [] (f ∷ fs) all owned = all
bound-owned q bound prefix (name ∷ names) [] all owned = all
bound-owned q bound prefix (name ∷ names) (f ∷ fs) all owned =
    bound-owned q (bind bound (output_name prefix name) f) prefix names fs
    (bind_owned q bound (output_name prefix name) f all (All-head (OwnsFunction q) f fs owned))
    (All-tail (OwnsFunction q) f fs owned)

pub bound-outputs : (q : Package) (s : State) (bound : Names) (prefix : List ℕ) (function : List ℕ → FlatFunction)
    (names : List (List ℕ)) (fs : List Func) → length fs ≡ length names
    → ((i : ℕ) (f : Func) (name : List ℕ) → slice_get fs i ≡ Some f → slice_get names i ≡ Some name → meaning q f ≡ function name)
    → s.functions ≡ map (λ b. (b.0, meaning q b.1)) bound
    → with_outputs s prefix function names
    ≡ record s { functions = map (λ b. (b.0, meaning q b.1)) (bind_outputs bound prefix names fs) }
bound-outputs q s bound prefix function [] [] many means same = ap (λ fs. record s { functions = fs }) same
bound-outputs q s bound prefix function [] (f ∷ fs) many means same = absurd (omega (arith, many))
bound-outputs q s bound prefix function (name ∷ names) [] many means same = absurd (omega (arith, many))
bound-outputs q s bound prefix function (name ∷ names) (f ∷ fs) many means same =
    let whole = output_name prefix name in
    bound-outputs q (record s { functions = states.bind s.functions whole (function name) }) (bind bound whole f) prefix function names fs
    (omega (arith, many)) (λ i g n e h. means (suc i) g n e h)
    (ap (λ bs. states.bind bs whole (function name)) same
    ∙ ap (λ (g : FlatFunction). states.bind (map (λ b. (b.0, meaning q b.1)) bound) whole g) (sym (means 0 f name refl refl))
    ∙ sym (bind_flat q bound whole f))

-- names still differ
or_first : (a b : Bool) → a || b ≡ false → a ≡ false
or_first false b e = refl
or_first true b e = absurd (false≢true (sym e))

or_second : (a b : Bool) → a || b ≡ false → b ≡ false
or_second false b e = e
or_second true b e = absurd (false≢true (sym e))

pub outputs-differ : (s : State) (prefix : List ℕ) (function : List ℕ → FlatFunction) (outputs : List (List ℕ))
    → repeats (names_in s) ≡ false → outputs_clash s prefix outputs ≡ false
    → repeats (names_in (with_outputs s prefix function outputs)) ≡ false
outputs-differ s prefix function [] differ free = differ
outputs-differ s prefix function (output ∷ later) differ free =
    let whole = output_name prefix output in
    outputs-differ (record s { functions = states.bind s.functions whole (function output) }) prefix function later
    (differ-let s whole (function output) differ (or_first (is_among s.variables whole) (outputs_clash s prefix later) free))
    (or_second (is_among s.variables whole) (outputs_clash s prefix later) free)

-- Whether a test holds of some name comes to whether it does of one that is left.
abbrev pub ComesTo : (List ℕ → Bool) → List Out → List Out → Type 0
ComesTo test all left = list_any test (names_out all) ≡ list_any test (names_out left)

-- Some names are bound, and the others are left.
abbrev pub HasBound : Names → Names → List ℕ → List Out → List Func → ℕ → Type 0
HasBound before now prefix outputs built i =
    bind_outputs before prefix (names_out outputs) built
    ≡ bind_outputs now prefix (names_out (drop i outputs)) (drop i built)

-- Some positions are noted, and the others are left.
abbrev pub HasPlaced : (List ℕ → ℕ) → List (List ℕ) → List ℕ → ℕ → Type 0
HasPlaced at names placed i = map at names ≡ placed ++ map at (drop i names)
