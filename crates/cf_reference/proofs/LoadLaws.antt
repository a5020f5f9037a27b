-- What `load` does, and when it is refused.
use Rattle.std.proofs.Common.{ℕ, ◌≡◌, ◌≤◌, ◌<◌, Bool, true, false, List, [], ◌∷◌, length, Option, Some, None, ap, ◌∙◌, arith}
use Rattle.std.specs.Prelude.{nat_lt, is_none}
use Rattle.std.specs.Option.{option_map}
use Rattle.std.proofs.lemmas.Bool.Decides.{nat_tests}
use Rattle.cf_circuits.specs.declared.faults.LinkFault.{LinkFault}
use Rattle.cf_circuits.specs.Causes.{Fault, fault}
use Rattle.cf_circuits.specs.LinkFaults.{link}
use Rattle.cf_circuits.specs.Netlists.{net}
use Rattle.cf_circuits.specs.Roots.{inputs_of, outputs_of}
use Rattle.cf_reference.specs.Reasons.{Refusal, NoLevel, Taken, NoFile, FileTooLarge, Circuit, Links, where_holds}
use Rattle.cf_reference.specs.States.{State, Files, content_of}
use Rattle.cf_reference.specs.Loading.{file_limit, inputs_refusal, outputs_clash, declared_for, with_circuit}
use Rattle.cf_reference.specs.Carrying.{Outcome, Refuses, Goes, unless_refused, with_content, load_bytes, load_circuit}

-- the file is looked for only where a level is set
lacking : Option ℕ → Outcome → Outcome
lacking level outcome = unless_refused (where_holds (is_none level) NoLevel ∷ []) outcome

loads : (files : Files) (s : State) (k : ℕ) (prefix file : List ℕ) → s.level ≡ Some k
    → load_circuit files s prefix file ≡ with_content (content_of files file) (load_bytes s prefix)
unfolding lacking load_circuit
loads files s k prefix file l =
    ap (λ (o : Option ℕ). lacking o (with_content (content_of files file) (load_bytes s prefix))) l

pub load-no-file : (files : Files) (s : State) (k : ℕ) (prefix file : List ℕ) → s.level ≡ Some k
    → content_of files file ≡ None → load_circuit files s prefix file ≡ Refuses NoFile
load-no-file files s k prefix file l e = loads files s k prefix file l ∙ ap (λ o. with_content o (load_bytes s prefix)) e

pub load-content : (files : Files) (s : State) (k : ℕ) (prefix file bytes : List ℕ) → s.level ≡ Some k
    → content_of files file ≡ Some bytes → load_circuit files s prefix file ≡ load_bytes s prefix bytes
load-content files s k prefix file bytes l e =
    loads files s k prefix file l ∙ ap (λ o. with_content o (load_bytes s prefix)) e

-- the refusals of a file's bytes, by what they are asked of
tried : Bool → Option Fault → Option LinkFault → Option Refusal → Bool → Outcome → Outcome
tried large text links inputs clash goes =
    unless_refused
    (where_holds large FileTooLarge ∷ option_map Circuit text ∷ option_map Links links ∷ inputs ∷ where_holds clash Taken ∷ [])
    goes

above : (m n : ℕ) → m < n → nat_lt m n ≡ true
above m n h = grind (arith, nat_tests)

within : (m n : ℕ) → n ≤ m → nat_lt m n ≡ false
within m n h = grind (arith, nat_tests)

-- the outcome where all is well
goes : State → List ℕ → List ℕ → Outcome
goes s prefix bytes = Goes (with_circuit s prefix (net bytes)) []

clash : State → List ℕ → List ℕ → Bool
clash s prefix bytes = outputs_clash (declared_for s (net bytes)) prefix (outputs_of (net bytes))

pub load-too-large : (s : State) (prefix bytes : List ℕ) → file_limit < length bytes
    → load_bytes s prefix bytes ≡ Refuses FileTooLarge
unfolding tried goes clash
load-too-large s prefix bytes h =
    ap (λ b. tried b (fault bytes) (link (net bytes)) (inputs_refusal s (inputs_of (net bytes))) (clash s prefix bytes) (goes s prefix bytes)) (above file_limit (length bytes) h)

-- A file's bytes that are not too many.
record Short (s : State) (prefix bytes : List ℕ) : Type 0 where
  is : load_bytes s prefix bytes
      ≡ tried false (fault bytes) (link (net bytes)) (inputs_refusal s (inputs_of (net bytes))) (clash s prefix bytes) (goes s prefix bytes)

short : (s : State) (prefix bytes : List ℕ) → length bytes ≤ file_limit → Short s prefix bytes
unfolding tried goes clash
short s prefix bytes h = record {
  is = ap (λ b. tried b (fault bytes) (link (net bytes)) (inputs_refusal s (inputs_of (net bytes))) (clash s prefix bytes) (goes s prefix bytes)) (within file_limit (length bytes) h);
}

pub load-Circuit : (s : State) (prefix bytes : List ℕ) (f : Fault) → length bytes ≤ file_limit → fault bytes ≡ Some f
    → load_bytes s prefix bytes ≡ Refuses (Circuit f)
unfolding tried
load-Circuit s prefix bytes f h e =
    (short s prefix bytes h).is
    ∙ ap (λ o. tried false o (link (net bytes)) (inputs_refusal s (inputs_of (net bytes))) (clash s prefix bytes) (goes s prefix bytes)) e

good : (s : State) (prefix bytes : List ℕ) → length bytes ≤ file_limit → fault bytes ≡ None
    → load_bytes s prefix bytes
    ≡ tried false None (link (net bytes)) (inputs_refusal s (inputs_of (net bytes))) (clash s prefix bytes) (goes s prefix bytes)
good s prefix bytes h e =
    (short s prefix bytes h).is
    ∙ ap (λ o. tried false o (link (net bytes)) (inputs_refusal s (inputs_of (net bytes))) (clash s prefix bytes) (goes s prefix bytes)) e

pub load-Links : (s : State) (prefix bytes : List ℕ) (f : LinkFault) → length bytes ≤ file_limit → fault bytes ≡ None
    → link (net bytes) ≡ Some f → load_bytes s prefix bytes ≡ Refuses (Links f)
unfolding tried
load-Links s prefix bytes f h e l =
    good s prefix bytes h e
    ∙ ap (λ o. tried false None o (inputs_refusal s (inputs_of (net bytes))) (clash s prefix bytes) (goes s prefix bytes)) l

linked : (s : State) (prefix bytes : List ℕ) → length bytes ≤ file_limit → fault bytes ≡ None → link (net bytes) ≡ None
    → load_bytes s prefix bytes
    ≡ tried false None None (inputs_refusal s (inputs_of (net bytes))) (clash s prefix bytes) (goes s prefix bytes)
linked s prefix bytes h e l =
    good s prefix bytes h e
    ∙ ap (λ o. tried false None o (inputs_refusal s (inputs_of (net bytes))) (clash s prefix bytes) (goes s prefix bytes)) l

pub load-inputs : (s : State) (prefix bytes : List ℕ) (r : Refusal) → length bytes ≤ file_limit → fault bytes ≡ None
    → link (net bytes) ≡ None → inputs_refusal s (inputs_of (net bytes)) ≡ Some r → load_bytes s prefix bytes ≡ Refuses r
unfolding tried
load-inputs s prefix bytes r h e l i =
    linked s prefix bytes h e l ∙ ap (λ o. tried false None None o (clash s prefix bytes) (goes s prefix bytes)) i

pub load-outputs : (s : State) (prefix bytes : List ℕ) → length bytes ≤ file_limit → fault bytes ≡ None → link (net bytes) ≡ None
    → inputs_refusal s (inputs_of (net bytes)) ≡ None
    → outputs_clash (declared_for s (net bytes)) prefix (outputs_of (net bytes)) ≡ true
    → load_bytes s prefix bytes ≡ Refuses Taken
unfolding tried clash
load-outputs s prefix bytes h e l i o =
    linked s prefix bytes h e l
    ∙ ap (λ r. tried false None None r (clash s prefix bytes) (goes s prefix bytes)) i
    ∙ ap (λ b. tried false None None None b (goes s prefix bytes)) o

pub load-goes : (s : State) (prefix bytes : List ℕ) → length bytes ≤ file_limit → fault bytes ≡ None → link (net bytes) ≡ None
    → inputs_refusal s (inputs_of (net bytes)) ≡ None
    → outputs_clash (declared_for s (net bytes)) prefix (outputs_of (net bytes)) ≡ false
    → load_bytes s prefix bytes ≡ Goes (with_circuit s prefix (net bytes)) []
unfolding tried clash goes
load-goes s prefix bytes h e l i o =
    linked s prefix bytes h e l
    ∙ ap (λ r. tried false None None r (clash s prefix bytes) (goes s prefix bytes)) i
    ∙ ap (λ b. tried false None None None b (goes s prefix bytes)) o
