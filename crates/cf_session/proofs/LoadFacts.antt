-- What a circuit's file does to a session.
use Rattle.std.proofs.Common.{ℕ, zero, suc, ◌≡◌, ◌≤◌, ◌<◌, ◌^◌, true, false, List, [], ◌∷◌, map, length, refl, sym, ◌∙◌, ap, arith, subst, Option, Some, None}
use Rattle.std.specs.Prelude.{All, IsSome, slice_get, unwrap_or}
use Rattle.std.specs.Str.{bytes_eq}
use Rattle.std.proofs.lemmas.Option.{none-some, same_Some}
use Rattle.cf_model.specs.Diagrams.{IsGood}
use Rattle.cf_model.specs.FlatFunctions.{variable}
use Rattle.cf_model.specs.Renumbering.{place}
use Rattle.cf_circuits.specs.declared.models.ModelDef.{ModelDef}
use Rattle.cf_circuits.specs.declared.faults.BlifWhy.{BlifWhy}
use Rattle.cf_circuits.specs.declared.faults.LinkFault.{LinkFault}
use Rattle.cf_circuits.specs.Causes.{fault}
use Rattle.cf_circuits.specs.LinkFaults.{link}
use Rattle.cf_circuits.specs.Netlists.{net}
use Rattle.cf_circuits.specs.Roots.{inputs_of, outputs_of}
use Rattle.cf_circuit.specs.Functions.{AreFunctionsOf}
use Rattle.cf_flat.specs.declared.flat.Flat.{Flat}
use Rattle.cf_flat.specs.declared.flat.Out.{Out}
use Rattle.cf_pkg.specs.declared.Func.{Func}
use Rattle.cf_pkg.specs.Packages.{Package, Keeps, Means, meaning}
use Rattle.cf_pkg.proofs.Valued.{Keeps-trans}
use Rattle.cf_reference.specs.Reasons.{Refusal, Taken}
use Rattle.cf_reference.specs.States.{State, Files, content_of, level_in, is_among, names_in, repeats}
use Rattle.cf_reference.specs.Loading.{file_limit, with_inputs, inputs_refusal, outputs_clash, with_outputs, output_function, declared_for, with_circuit}
use Rattle.cf_reference.specs.Carrying.{Refuses, Goes, load_bytes, load_circuit}
use Rattle.cf_reference.proofs.LoadLaws.{load-no-file, load-content, load-too-large, load-Circuit, load-Links, load-inputs, load-outputs, load-goes}
use Rattle.cf_io.specs.Shown.{FilesView}
use Rattle.std.proofs.lemmas.Bool.{false≢true}
use Rattle.std.proofs.Math.Pow.{pow_mono}
use Rattle.std.proofs.lemmas.List.Elements.{All-cons, All-head, All-tail, All-nil}
use Rattle.cf_session.proofs.NameFacts.{place-within}
use Rattle.cf_session.specs.Contents.{IsUnread, ShowsWhy}
use Rattle.cf_session.specs.declared.files.Unread.{Unread}
use Rattle.cf_session.specs.declared.files.Unread.TheVariants as unread
use Rattle.cf_session.specs.declared.faults.Refusal.TheVariants.{NoLevel, LevelAgain, NoName, Taken as TakenName, TooManyVars, LevelsDiffer, BadLevel, OutOfRange, Overflow, NoFile, FileTooLarge, Circuit, Links}
use Rattle.cf_session.specs.declared.load.LoadFault.TheVariants as load
use Rattle.cf_reference.specs.Reasons as reason
use Rattle.cf_session.proofs.FewReasons.{short-bytes}
use Rattle.cf_session.specs.declared.faults.StepFault.{StepFault}
use Rattle.cf_session.specs.declared.faults.StepFault.TheVariants.{NoMemory, Refused}
use Rattle.cf_session.specs.Faults.{reason_of}
use Rattle.cf_session.specs.Sessions.{Held, Names, names_of, IsHeld, state_of}
use Rattle.cf_session.specs.Statements.{ArePositions, IsFaultOfStep}
use Rattle.cf_session.specs.Loads.{fault_of_file, IsFaultOfLoad, ShowsFault, IsCircuitOf, IsFaultOfText, IsFaultOfNames, state_by, bind_outputs, names_out}
use Rattle.cf_session.proofs.Growth.{same_bindings, all_owned, means_kept}
use Rattle.cf_session.proofs.InputFacts.{HoldsInputs, holds-inputs, inputs-only, inputs-there}
use Rattle.cf_session.proofs.OutputFacts.{output-means, outputs-owned, bound-owned, bound-outputs, outputs-differ}

-- a faulty text, and faulty links
pub text-refused : (bytes : List ℕ) (line : ℕ) (why : BlifWhy) → fault bytes ≡ Some (record { line = line; why = why })
    → IsFaultOfText bytes (Refused (Circuit line why))
text-refused bytes line why e = λ s prefix short. load-Circuit s prefix bytes (record { line = line; why = why }) short e

pub links-refused : (bytes : List ℕ) (models : List ModelDef) (f : LinkFault) → fault bytes ≡ None → models ≡ net bytes
    → link models ≡ Some f → IsFaultOfText bytes (Refused (Links f))
links-refused bytes models f good is e =
    λ s prefix short. load-Links s prefix bytes f short good (ap link (sym is) ∙ e)

-- the inputs are refused
pub inputs-fault : (h : Held) (flat : Flat) (prefix bytes : List ℕ) (l : ℕ) (e : StepFault) → h.level ≡ Some l
    → IsFaultOfNames (inputs_refusal (state_by h.pkg l h.variables h.functions) flat.inputs) e → IsCircuitOf bytes flat
    → length bytes ≤ file_limit → IsFaultOfStep (load_bytes (state_of h) prefix bytes) e
inputs-fault h flat prefix bytes l NoMemory set f is short = tt
inputs-fault h flat prefix bytes l (Refused r) set f is short =
    load-inputs (state_of h) prefix bytes (reason_of r) short is.text is.links
    (ap (inputs_refusal (state_of h)) (sym is.inputs)
    ∙ ap (λ (o : Option ℕ). inputs_refusal (record (state_of h) { level = o }) flat.inputs) set ∙ f)

-- A circuit's inputs are variables.
pub record Declares (h : Held) (l : ℕ) (flat : Flat) (vs : Names) (p : Package) : Type 0 where
  pub set : h.level ≡ Some l
  pub none : inputs_refusal (state_by h.pkg l h.variables h.functions) flat.inputs ≡ None
  pub names : names_of vs ≡ (with_inputs (state_by h.pkg l h.variables h.functions) flat.inputs).variables
  pub positions : ArePositions p l vs
  pub kept : Keeps h.pkg p

-- the state with them
abbrev with_names : Held → ℕ → Names → State
with_names h l vs = record { level = Some l; variables = names_of vs; functions = (state_of h).functions }

at_level : (h : Held) (l : ℕ) → h.level ≡ Some l → state_of h ≡ state_by h.pkg l h.variables h.functions
at_level h l set = ap (λ (o : Option ℕ). record (state_of h) { level = o }) set

inputs_are : (h : Held) (l : ℕ) (flat : Flat) (vs : Names) (p : Package) → Declares h l flat vs p
    → with_inputs (state_of h) flat.inputs ≡ with_names h l vs
inputs_are h l flat vs p d =
    ap (λ s. with_inputs s flat.inputs) (at_level h l d.set)
    ∙ inputs-only (state_by h.pkg l h.variables h.functions) flat.inputs
    ∙ ap (λ (ns : List (List ℕ)). record (state_by h.pkg l h.variables h.functions) { variables = ns }) (sym d.names)

declared_are : (h : Held) (l : ℕ) (flat : Flat) (vs : Names) (p : Package) (bytes : List ℕ) → Declares h l flat vs p
    → IsCircuitOf bytes flat → declared_for (state_of h) (net bytes) ≡ with_names h l vs
declared_are h l flat vs p bytes d is =
    ap (with_inputs (state_of h)) (sym is.inputs) ∙ inputs_are h l flat vs p d

none_of : (h : Held) (l : ℕ) (flat : Flat) (vs : Names) (p : Package) (bytes : List ℕ) → Declares h l flat vs p
    → IsCircuitOf bytes flat → inputs_refusal (state_of h) (inputs_of (net bytes)) ≡ None
none_of h l flat vs p bytes d is =
    ap (inputs_refusal (state_of h)) (sym is.inputs) ∙ ap (λ s. inputs_refusal s flat.inputs) (at_level h l d.set) ∙ d.none

-- whether a variable has an output's name, by the variables
clash_is : (h : Held) (l : ℕ) (flat : Flat) (vs : Names) (p : Package) (prefix bytes : List ℕ) → Declares h l flat vs p
    → IsCircuitOf bytes flat
    → outputs_clash (declared_for (state_of h) (net bytes)) prefix (outputs_of (net bytes))
    ≡ outputs_clash (with_names h l vs) prefix (names_out flat.outputs)
clash_is h l flat vs p prefix bytes d is =
    ap (outputs_clash (declared_for (state_of h) (net bytes)) prefix) (sym is.outputs)
    ∙ ap (λ s. outputs_clash s prefix (names_out flat.outputs)) (declared_are h l flat vs p bytes d is)

pub outputs-taken : (h : Held) (l : ℕ) (flat : Flat) (vs : Names) (p : Package) (prefix bytes : List ℕ) → Declares h l flat vs p
    → outputs_clash (record { level = None; variables = names_of vs; functions = [] }) prefix (names_out flat.outputs) ≡ true
    → IsCircuitOf bytes flat → length bytes ≤ file_limit → load_bytes (state_of h) prefix bytes ≡ Refuses Taken
outputs-taken h l flat vs p prefix bytes d clash is short =
    load-outputs (state_of h) prefix bytes short is.text is.links (none_of h l flat vs p bytes d is)
    (clash_is h l flat vs p prefix bytes d is ∙ clash)

-- A circuit's functions are built.
pub record HasBuilt (h : Held) (l : ℕ) (flat : Flat) (vs : Names) (p q : Package) (prefix positions : List ℕ) (fs : List Func)
    : Type 0 where
  pub declares : Declares h l flat vs p
  pub clash : outputs_clash (record { level = None; variables = names_of vs; functions = [] }) prefix (names_out flat.outputs) ≡ false
  pub placed : positions ≡ map (place bytes_eq (names_of vs)) flat.inputs
  pub many : length fs ≡ length flat.outputs
  pub functions : AreFunctionsOf q l flat positions fs
  pub good : 0 < length fs → IsGood q.groupings.levels
  pub kept : Keeps p q

length_names : (outputs : List Out) → length (names_out outputs) ≡ length outputs
length_names [] = refl
length_names (out ∷ outputs) = ap suc (length_names outputs)

output_at : (outputs : List Out) (i : ℕ) (name : List ℕ) → slice_get (names_out outputs) i ≡ Some name
    → (out : Out) × (slice_get outputs i ≡ Some out) × (name ≡ out.name)
output_at [] i name e = absurd (none-some name e)
output_at (out ∷ outputs) zero name e = (out, refl, sym (same_Some out.name name e))
output_at (out ∷ outputs) (suc i) name e = output_at outputs i name e

some_of : {A : Type 0} (xs : List A) (i : ℕ) (x : A) → slice_get xs i ≡ Some x → 0 < length xs
some_of [] i x e = absurd (none-some x e)
some_of (y ∷ xs) i x e = omega arith

-- the session with the circuit
abbrev pub loaded : Held → Package → Names → List ℕ → Flat → List Func → Held
loaded h q vs prefix flat fs =
    record { pkg = q; level = h.level; variables = vs; functions = bind_outputs h.functions prefix (names_out flat.outputs) fs }

-- each function means what the output's function is
means_each : (h : Held) (l : ℕ) (flat : Flat) (vs : Names) (p q : Package) (prefix positions bytes : List ℕ) (fs : List Func)
    → HasBuilt h l flat vs p q prefix positions fs → IsCircuitOf bytes flat
    → (i : ℕ) (f : Func) (name : List ℕ) → slice_get fs i ≡ Some f → slice_get (names_out flat.outputs) i ≡ Some name
    → meaning q f ≡ output_function (with_names h l vs) (net bytes) name
means_each h l flat vs p q prefix positions bytes fs b is i f name there named =
    let out = output_at flat.outputs i name named in
    output-means q (with_names h l vs) (net bytes) flat positions fs (b.good (some_of fs i f there)) is.inputs is.values (b.placed ∙ ap (map (place bytes_eq (names_of vs))) is.inputs) b.functions i f out.0 there out.1
    ∙ ap (output_function (with_names h l vs) (net bytes)) (sym out.2)

-- its state
loaded_state : (h : Held) (l : ℕ) (flat : Flat) (vs : Names) (p q : Package) (prefix positions bytes : List ℕ) (fs : List Func)
    → IsHeld h → HasBuilt h l flat vs p q prefix positions fs → IsCircuitOf bytes flat
    → with_circuit (state_of h) prefix (net bytes) ≡ state_of (loaded h q vs prefix flat fs)
loaded_state h l flat vs p q prefix positions bytes fs holds b is =
    let models = net bytes in
    let s = with_names h l vs in
    let k = Keeps-trans h.pkg p q b.declares.kept b.kept in
    ap (λ (t : State). with_outputs t prefix (output_function t models) (outputs_of models)) (declared_are h l flat vs p bytes b.declares is)
    ∙ ap (with_outputs s prefix (output_function s models)) (sym is.outputs)
    ∙ bound-outputs q s h.functions prefix (output_function s models) (names_out flat.outputs) fs (b.many ∙ sym (length_names flat.outputs)) (means_each h l flat vs p q prefix positions bytes fs b is) (sym (same_bindings h.pkg q h.functions holds.owned k))
    ∙ ap (λ (o : Option ℕ). record (state_of (loaded h q vs prefix flat fs)) { level = o }) (sym b.declares.set)

-- the clash of the reference
no_clash : (h : Held) (l : ℕ) (flat : Flat) (vs : Names) (p q : Package) (prefix positions bytes : List ℕ) (fs : List Func)
    → HasBuilt h l flat vs p q prefix positions fs → IsCircuitOf bytes flat
    → outputs_clash (declared_for (state_of h) (net bytes)) prefix (outputs_of (net bytes)) ≡ false
no_clash h l flat vs p q prefix positions bytes fs b is = clash_is h l flat vs p prefix bytes b.declares is ∙ b.clash

pub load-done : (h : Held) (l : ℕ) (flat : Flat) (vs : Names) (p q : Package) (prefix positions bytes : List ℕ) (fs : List Func)
    → IsHeld h → HasBuilt h l flat vs p q prefix positions fs → IsCircuitOf bytes flat → length bytes ≤ file_limit
    → load_bytes (state_of h) prefix bytes ≡ Goes (state_of (loaded h q vs prefix flat fs)) []
load-done h l flat vs p q prefix positions bytes fs holds b is short =
    load-goes (state_of h) prefix bytes short is.text is.links (none_of h l flat vs p bytes b.declares is)
    (no_clash h l flat vs p q prefix positions bytes fs b is)
    ∙ ap (λ s. Goes s []) (loaded_state h l flat vs p q prefix positions bytes fs holds b is)

count_names : (bound : Names) → length (names_of bound) ≡ length bound
count_names [] = refl
count_names (b ∷ later) = ap suc (count_names later)

-- what holds of a session with the inputs
inputs_hold : (h : Held) (l : ℕ) (flat : Flat) (vs : Names) (p : Package) → IsHeld h → Declares h l flat vs p
    → HoldsInputs (with_names h l vs)
inputs_hold h l flat vs p holds d =
    subst HoldsInputs (inputs_are h l flat vs p d)
    (holds-inputs (state_of h) flat.inputs
    (record { room = (let n = count_names h.variables in omega (arith, n, holds.room)); differ = holds.differ })
    (ap (λ s. inputs_refusal s flat.inputs) (at_level h l d.set) ∙ d.none))

-- how many variables there are then
pub few-variables : (h : Held) (l : ℕ) (flat : Flat) (vs : Names) (p : Package) → IsHeld h → Declares h l flat vs p
    → length vs ≤ 2 ^ l
few-variables h l flat vs p holds d =
    let n = count_names vs in
    let room = (inputs_hold h l flat vs p holds d).room in
    omega (arith, n, room)

-- each input is one of them
pub inputs-among : (h : Held) (l : ℕ) (flat : Flat) (vs : Names) (p : Package) → Declares h l flat vs p
    → All (λ name. is_among (names_of vs) name ≡ true) flat.inputs
inputs-among h l flat vs p d =
    subst (λ (ns : List (List ℕ)). All (λ name. is_among ns name ≡ true) flat.inputs) (sym d.names)
    (inputs-there (state_by h.pkg l h.variables h.functions) flat.inputs)

pub load-held : (h : Held) (l : ℕ) (flat : Flat) (vs : Names) (p q : Package) (prefix positions bytes : List ℕ) (fs : List Func)
    → IsHeld h → HasBuilt h l flat vs p q prefix positions fs → IsCircuitOf bytes flat
    → IsHeld (loaded h q vs prefix flat fs)
load-held h l flat vs p q prefix positions bytes fs holds b is =
    let k = Keeps-trans h.pkg p q b.declares.kept b.kept in
    let set = b.declares.set in
    let level : level_in (state_of h) ≡ l = ap (λ (o : Option ℕ). unwrap_or o 0) set in
    record {
      low = holds.low;
      unset = λ e. absurd (none-some l (sym e ∙ set));
      room = subst (λ n. length vs ≤ 2 ^ n) (sym level) (few-variables h l flat vs p holds b.declares);
      positions = λ i v e.
          subst (λ n. Means q v.1 (variable n i)) (sym level)
          (means_kept p q v.1 (variable l i) b.kept (b.declares.positions i v e));
      owned =
          bound-owned q h.functions prefix (names_out flat.outputs) fs (all_owned h.pkg q h.functions holds.owned k)
          (outputs-owned q l flat positions fs b.many b.functions);
      differ =
          ap (λ s. repeats (names_in s)) (sym (loaded_state h l flat vs p q prefix positions bytes fs holds b is))
          ∙ outputs-differ (declared_for (state_of h) (net bytes)) prefix (output_function (declared_for (state_of h) (net bytes)) (net bytes)) (outputs_of (net bytes))
          (ap (λ s. repeats (names_in s)) (declared_are h l flat vs p bytes b.declares is) ∙ (inputs_hold h l flat vs p holds b.declares).differ)
          (no_clash h l flat vs p q prefix positions bytes fs b is);
    }

-- the file
with_level : {A : Type 0} (o : Option A) → IsSome o → (x : A) × (o ≡ Some x)
with_level None e = absurd (false≢true e)
with_level (Some x) e = (x, refl)

pub load-read : (entries : Files) (h : Held) (prefix file bytes : List ℕ) → IsSome h.level
    → content_of entries file ≡ Some bytes
    → load_circuit entries (state_of h) prefix file ≡ load_bytes (state_of h) prefix bytes
load-read entries h prefix file bytes set content =
    let some = with_level h.level set in load-content entries (state_of h) some.0 prefix file bytes some.1 content

pub load-unread : (entries : Files) (h : Held) (prefix file : List ℕ) (u : Unread) → IsSome h.level
    → IsUnread (content_of entries file) u
    → IsFaultOfLoad (load_circuit entries (state_of h) prefix file) (fault_of_file u)
load-unread entries h prefix file unread.NoMemory set e = tt
load-unread entries h prefix file unread.Missing set e =
    let some = with_level h.level set in load-no-file entries (state_of h) some.0 prefix file some.1 e
load-unread entries h prefix file unread.TooLarge set e =
    load-read entries h prefix file e.0 set e.1 ∙ load-too-large (state_of h) prefix e.0 e.2
load-unread entries h prefix file unread.Failed set e = tt

pub unread-shows : (old new : FilesView) (u : Unread) → ShowsWhy old new u → ShowsFault old new (fault_of_file u)
unread-shows old new unread.NoMemory w = tt
unread-shows old new unread.Missing w = w
unread-shows old new unread.TooLarge w = w
unread-shows old new unread.Failed w = w

-- where its bytes are refused
pub load-faulty : (entries : Files) (h : Held) (prefix file bytes : List ℕ) (e : StepFault) → IsSome h.level
    → content_of entries file ≡ Some bytes → length bytes ≤ file_limit → IsFaultOfText bytes e
    → IsFaultOfStep (load_circuit entries (state_of h) prefix file) e
load-faulty entries h prefix file bytes NoMemory set content short f = tt
load-faulty entries h prefix file bytes (Refused r) set content short f =
    load-read entries h prefix file bytes set content ∙ f (state_of h) prefix short

pub load-stopped : (entries : Files) (h : Held) (prefix file bytes : List ℕ) (e : StepFault) → IsSome h.level
    → content_of entries file ≡ Some bytes → IsFaultOfStep (load_bytes (state_of h) prefix bytes) e
    → IsFaultOfStep (load_circuit entries (state_of h) prefix file) e
load-stopped entries h prefix file bytes e set content f =
    subst (λ outcome. IsFaultOfStep outcome e) (sym (load-read entries h prefix file bytes set content)) f

-- a level that is set
level_is : (o : Option ℕ) (l : ℕ) → IsSome o → l ≡ unwrap_or o 0 → o ≡ Some l
level_is None l set e = absurd (false≢true set)
level_is (Some k) l set e = ap Some (sym e)

-- a circuit's inputs, of a session that is seen from its parts
pub declares : (h s : Held) (l : ℕ) (flat : Flat) (vs now : Names) (p : Package) (inputs : List (List ℕ)) → h ≡ s → IsSome s.level
    → l ≡ level_in (state_of s) → inputs ≡ flat.inputs → vs ≡ now
    → inputs_refusal (state_by h.pkg l h.variables h.functions) inputs ≡ None
    → names_of vs ≡ (with_inputs (state_by h.pkg l h.variables h.functions) inputs).variables → ArePositions p l vs
    → Keeps h.pkg p → Declares h l flat now p
declares h s l flat vs now p inputs same set level is view none names positions kept = record {
  set = level_is h.level l (subst (λ (t : Held). IsSome t.level) (sym same) set) (level ∙ ap (λ t. level_in (state_of t)) (sym same));
  none = ap (inputs_refusal (state_by h.pkg l h.variables h.functions)) (sym is) ∙ none;
  names =
      ap names_of (sym view) ∙ names
      ∙ ap (λ ns. (with_inputs (state_by h.pkg l h.variables h.functions) ns).variables) is;
  positions = subst (ArePositions p l) view positions;
  kept = kept;
}

pub few-positions : (h : Held) (l : ℕ) (flat : Flat) (vs : Names) (p : Package) → IsHeld h → Declares h l flat vs p → l ≤ 7
    → length vs ≤ 128
few-positions h l flat vs p holds d low =
    let room = few-variables h l flat vs p holds d in
    let most = pow_mono {i = l} {j = 7} low in
    omega (arith, room, most)

all_within : (vs : Names) (l : ℕ) (names : List (List ℕ)) → length vs ≤ 2 ^ l
    → All (λ name. is_among (names_of vs) name ≡ true) names
    → All (λ i. i < 2 ^ l) (map (place bytes_eq (names_of vs)) names)
all_within vs l [] room all = All-nil _
all_within vs l (name ∷ names) room all =
    let inside = place-within (names_of vs) name (All-head (λ n. is_among (names_of vs) n ≡ true) name names all) in
    let many = count_names vs in
    All-cons (λ i. i < 2 ^ l) (place bytes_eq (names_of vs) name) (map (place bytes_eq (names_of vs)) names) (omega (arith, inside, many, room))
    (all_within vs l names room (All-tail (λ n. is_among (names_of vs) n ≡ true) name names all))

pub positions-within : (h : Held) (l : ℕ) (flat : Flat) (vs : Names) (p : Package) (positions : List ℕ) → IsHeld h
    → Declares h l flat vs p → positions ≡ map (place bytes_eq (names_of vs)) flat.inputs
    → All (λ i. i < 2 ^ l) positions
positions-within h l flat vs p positions holds d is =
    subst (λ ps. All (λ i. i < 2 ^ l) ps) (sym is)
    (all_within vs l flat.inputs (few-variables h l flat vs p holds d) (inputs-among h l flat vs p d))

-- where bytes that are few enough are refused, the files have nothing to show
pub step-shows : (old new : FilesView) (s : State) (prefix bytes : List ℕ) (e : StepFault) → length bytes ≤ file_limit
    → IsFaultOfStep (load_bytes s prefix bytes) e → ShowsFault old new (load.Step e)
step-shows old new s prefix bytes NoMemory short f = tt
step-shows old new s prefix bytes (Refused NoLevel) short f = tt
step-shows old new s prefix bytes (Refused LevelAgain) short f = tt
step-shows old new s prefix bytes (Refused NoName) short f = tt
step-shows old new s prefix bytes (Refused TakenName) short f = tt
step-shows old new s prefix bytes (Refused TooManyVars) short f = tt
step-shows old new s prefix bytes (Refused LevelsDiffer) short f = tt
step-shows old new s prefix bytes (Refused BadLevel) short f = tt
step-shows old new s prefix bytes (Refused OutOfRange) short f = tt
step-shows old new s prefix bytes (Refused (Overflow at)) short f = tt
step-shows old new s prefix bytes (Refused NoFile) short f = absurd ((short-bytes s prefix bytes reason.NoFile short f).0 refl)
step-shows old new s prefix bytes (Refused FileTooLarge) short f =
    absurd ((short-bytes s prefix bytes reason.FileTooLarge short f).1 refl)
step-shows old new s prefix bytes (Refused (Circuit line why)) short f = tt
step-shows old new s prefix bytes (Refused (Links fault)) short f = tt

pub text-shows : (old new : FilesView) (s : State) (prefix bytes : List ℕ) (e : StepFault) → length bytes ≤ file_limit
    → IsFaultOfText bytes e → ShowsFault old new (load.Step e)
text-shows old new s prefix bytes NoMemory short f = tt
text-shows old new s prefix bytes (Refused r) short f = step-shows old new s prefix bytes (Refused r) short (f s prefix short)
