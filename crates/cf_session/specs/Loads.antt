use Rattle.std.specs.Prelude.{◌≡◌, ◌≤◌, ◌<◌, ◌∷◌, ℕ, List, map, length, Option, Some, None}
use Rattle.cf_blif.specs.declared.faults.BlifFault.{BlifFault}
use Rattle.cf_blif.specs.declared.faults.BlifFault.TheVariants as text
use Rattle.cf_flat.specs.declared.flattening.FlatFault.{FlatFault}
use Rattle.cf_flat.specs.declared.flattening.FlatFault.TheVariants as links
use Rattle.cf_circuits.specs.Causes.{fault}
use Rattle.cf_circuits.specs.LinkFaults.{link}
use Rattle.cf_circuits.specs.Netlists.{net}
use Rattle.cf_circuits.specs.Roots.{inputs_of, outputs_of}
use Rattle.cf_flat.specs.declared.flat.Flat.{Flat}
use Rattle.cf_flat.specs.declared.flat.Out.{Out}
use Rattle.cf_flat.specs.Flats.{IsFlat}
use Rattle.cf_flat.specs.Flattening.{HasValues}
use Rattle.cf_io.specs.Causes.{Rose}
use Rattle.cf_io.specs.Shown.{FilesView}
use Rattle.cf_pkg.specs.declared.Func.{Func}
use Rattle.cf_pkg.specs.Packages.{Package}
use Rattle.cf_reference.specs.Reasons as reason
use Rattle.cf_reference.specs.States.{State}
use Rattle.cf_reference.specs.Loading.{file_limit, output_name}
use Rattle.cf_reference.specs.Carrying.{Outcome, Refuses, load_bytes}
use Rattle.cf_session.specs.declared.faults.StepFault.{StepFault}
use Rattle.cf_session.specs.declared.faults.StepFault.TheVariants.{NoMemory, Refused}
use Rattle.cf_session.specs.declared.faults.Refusal.TheVariants.{NoFile, FileTooLarge, Circuit, Links}
use Rattle.cf_session.specs.declared.files.Unread.{Unread}
use Rattle.cf_session.specs.declared.files.Unread.TheVariants as unread
use Rattle.cf_session.specs.declared.load.LoadFault.{LoadFault}
use Rattle.cf_session.specs.declared.load.LoadFault.TheVariants as load
use Rattle.cf_session.specs.Faults.{reason_of}
use Rattle.cf_session.specs.Sessions.{Held, Names, state_of}
use Rattle.cf_session.specs.Statements.{IsFaultOfStep}
use Rattle.cf_session.specs.Bindings.{bind}

-- What a circuit's file does to a session.

-- The bytes say a netlist without fault, and the circuit is its flat one.
pub record IsCircuitOf (bytes : List ℕ) (flat : Flat) : Type 0 where
  pub text : fault bytes ≡ None
  pub links : link (net bytes) ≡ None
  pub flat_is : IsFlat flat
  pub inputs : flat.inputs ≡ inputs_of (net bytes)
  pub outputs : map (λ out. out.name) flat.outputs ≡ outputs_of (net bytes)
  pub values : HasValues (net bytes) flat

-- Some bytes say the circuit.
abbrev pub IsCircuit : Flat → Type 0
IsCircuit flat = (bytes : List ℕ) × IsCircuitOf bytes flat

-- Want of memory says nothing of the bytes. For another fault they are refused in every state, unless they are too many.
abbrev pub IsFaultOfText : List ℕ → StepFault → Type 0
IsFaultOfText bytes NoMemory = Unit {0}
IsFaultOfText bytes (Refused r) =
    (s : State) (prefix : List ℕ) → length bytes ≤ file_limit → load_bytes s prefix bytes ≡ Refuses (reason_of r)

-- There was no memory, or this is the refusal.
abbrev pub IsFaultOfNames : Option reason.Refusal → StepFault → Type 0
IsFaultOfNames refusal NoMemory = Unit {0}
IsFaultOfNames refusal (Refused r) = refusal ≡ Some (reason_of r)

-- a session of these parts
abbrev pub held_by : Package → ℕ → Names → Names → Held
held_by p level variables functions =
    record { pkg = p; level = Some level; variables = variables; functions = functions }

-- the state of these parts
abbrev pub state_by : Package → ℕ → Names → Names → State
state_by p level variables functions = state_of (held_by p level variables functions)

-- functions bound to the names of outputs, in order
abbrev pub bind_outputs : Names → List ℕ → List (List ℕ) → List Func → Names
bind_outputs bound prefix (output ∷ outputs) (f ∷ fs) =
    bind_outputs (bind bound (output_name prefix output) f) prefix outputs fs
bind_outputs bound prefix outputs fs = bound

-- the names of a circuit's outputs
abbrev pub names_out : List Out → List (List ℕ)
names_out outputs = map (λ out. out.name) outputs

-- the faults of files, texts and links as those of statements
abbrev pub fault_of_file : Unread → LoadFault
fault_of_file unread.NoMemory = load.Step NoMemory
fault_of_file unread.Missing = load.Step (Refused NoFile)
fault_of_file unread.TooLarge = load.Step (Refused FileTooLarge)
fault_of_file unread.Failed = load.FileFault

abbrev pub fault_of_text : BlifFault → StepFault
fault_of_text text.NoMemory = NoMemory
fault_of_text (text.At line why) = Refused (Circuit line why)

abbrev pub fault_of_links : FlatFault → StepFault
fault_of_links links.NoMemory = NoMemory
fault_of_links (links.Link fault) = Refused (Links fault)

-- There was no memory, a file couldn't be read, or a statement with this outcome is refused.
abbrev pub IsFaultOfLoad : Outcome → LoadFault → Type 0
IsFaultOfLoad outcome (load.Step fault) = IsFaultOfStep outcome fault
IsFaultOfLoad outcome load.FileFault = Unit {0}

-- what the files show of a fault: a miss, a fault, or the bytes that were given
abbrev pub ShowsFault : FilesView → FilesView → LoadFault → Type 0
ShowsFault old new (load.Step (Refused NoFile)) = Rose old.misses new.misses
ShowsFault old new (load.Step (Refused FileTooLarge)) = file_limit < new.given
ShowsFault old new (load.Step others) = Unit {0}
ShowsFault old new load.FileFault = Rose old.faults new.faults
