-- Signals that are driven again, and signals that are used and not driven.
use Rattle.std.proofs.Common.{ℕ, ◌≡◌, ◌||◌, Bool, true, false, cond, List, [], ◌∷◌, ◌++◌, map, Option, Some, None, refl, ap, sym, ◌∙◌, append_assoc}
use Rattle.std.specs.Prelude.{Result, Ok, Err, IfOk}
use Rattle.std.specs.Str.{bytes_eq}
use Rattle.std.proofs.lemmas.List.Folds.{list_any-append}
use Rattle.cf_model.specs.Renumbering.{note}
use Rattle.cf_circuits.specs.declared.pins.Pin.{Pin}
use Rattle.cf_circuits.specs.declared.pins.Call.{Call}
use Rattle.cf_circuits.specs.declared.models.ModelDef.{ModelDef}
use Rattle.cf_links.specs.declared.signals.Driven.{Driven}
use Rattle.cf_links.specs.Directories.{first_lacking, model_at}
use Rattle.cf_circuits.specs.Parts.{Part, ACall, parts}
use Rattle.cf_circuits.specs.Links.{first_of, gathered, is_among, is_input, is_output, no_model, callee, actuals, drives, uses, driven, used, repeated, undriven}
use Rattle.cf_links.specs.Signals.{nothing, drive, drive_all}
use Rattle.cf_links.proofs.DirectoriesNames.{among-note}

-- the first of two answers that there is
abbrev either : Option (List ℕ) → Option (List ℕ) → Option (List ℕ)
either first second = first_of (first ∷ second ∷ [])

-- the one of two names, if it is among known ones
abbrev if_among : List (List ℕ) → List ℕ → Option (List ℕ)
if_among names name = cond (is_among names name) (Some name) None

known-again : (s : Driven) (name x : List ℕ) → s.again ≡ Some x → (drive s name).again ≡ Some x
known-again s name x e = ap (λ o. either o (if_among s.names name)) e

-- the signal that was driven again first stays
again-stays : (s : Driven) (names : List (List ℕ)) (x : List ℕ) → s.again ≡ Some x → (drive_all s names).again ≡ Some x
again-stays s [] x e = e
again-stays s (name ∷ names) x e = again-stays (drive s name) names x (known-again s name x e)

again-is : (s : Driven) (names : List (List ℕ)) → s.again ≡ None → (drive_all s names).again ≡ repeated s.names names
again-is s [] e = e
again-is s (name ∷ names) e = by (is_among s.names name) refl (again-is (drive s name) names)
  where
    by : (b : Bool) → is_among s.names name ≡ b
        → ((drive s name).again ≡ None → (drive_all (drive s name) names).again ≡ repeated (note bytes_eq s.names name) names)
        → (drive_all (drive s name) names).again ≡ cond b (Some name) (repeated (s.names ++ name ∷ []) names)
    by true h rest =
        again-stays (drive s name) names name
        (ap (λ o. either o (if_among s.names name)) e ∙ ap (λ b. either None (cond b (Some name) None)) h)
    by false h rest =
        rest (ap (λ o. either o (if_among s.names name)) e ∙ ap (λ b. either None (cond b (Some name) None)) h)
        ∙ ap (λ b. repeated (cond b s.names (s.names ++ name ∷ [])) names) h

-- the first signal that is driven again is the first repeated one
pub again-repeated : (names : List (List ℕ)) → (drive_all nothing names).again ≡ repeated [] names
again-repeated names = again-is nothing names refl

-- a signal is noted where it was noted before or is driven
among-driven : (s : Driven) (names : List (List ℕ)) (name : List ℕ) → is_among (drive_all s names).names name ≡ (is_among s.names name || is_among names name)
among-driven s [] name = at (is_among s.names name)
  where
    at : (t : Bool) → t ≡ (t || false)
    at true = refl
    at false = refl
among-driven s (x ∷ names) name =
    among-driven (drive s x) names name
    ∙ ap (λ t. t || is_among names name) (among-note s.names x name ∙ list_any-append (λ other. bytes_eq other name) s.names (x ∷ []))
    ∙ at (is_among s.names name) (bytes_eq x name) (is_among names name)
  where
    at : (s t u : Bool) → ((s || (t || false)) || u) ≡ (s || (t || u))
    at true t u = refl
    at false true u = refl
    at false false u = refl

-- the known names can be told by any that are the same names
others-same : (known others : List (List ℕ)) (names : List (List ℕ)) → ((name : List ℕ) → is_among known name ≡ is_among others name)
    → first_lacking known names ≡ first_lacking others names
others-same known others [] same = refl
others-same known others (name ∷ names) same =
    ap (λ b. first_of (cond b None (Some name) ∷ map (λ n. cond (is_among known n) None (Some n)) names)) (same name)
    ∙ by (is_among others name) (others-same known others names same)
  where
    by : (b : Bool) → first_lacking known names ≡ first_lacking others names
        → first_of (cond b None (Some name) ∷ map (λ n. cond (is_among known n) None (Some n)) names)
        ≡ first_of (cond b None (Some name) ∷ map (λ n. cond (is_among others n) None (Some n)) names)
    by true h = h
    by false h = refl

-- the first name that isn't driven
pub other-driven : (all names : List (List ℕ)) → first_lacking (drive_all nothing all).names names ≡ first_lacking all names
other-driven all names = others-same (drive_all nothing all).names all names (among-driven nothing all)

-- signals that are driven behind others
drive_all-append : (s : Driven) (names more : List (List ℕ)) → drive_all s (names ++ more) ≡ drive_all (drive_all s names) more
drive_all-append s [] more = refl
drive_all-append s (name ∷ names) more = drive_all-append (drive s name) names more

-- names behind others that are known
other-append : (known names more : List (List ℕ)) → first_lacking known (names ++ more) ≡ first_of (first_lacking known names ∷ first_lacking known more ∷ [])
other-append known [] more = at (first_lacking known more)
  where
    at : (o : Option (List ℕ)) → o ≡ first_of (None ∷ o ∷ [])
    at None = refl
    at (Some x) = refl
other-append known (name ∷ names) more = by (is_among known name) (other-append known names more)
  where
    by : (b : Bool) → first_lacking known (names ++ more) ≡ first_of (first_lacking known names ∷ first_lacking known more ∷ [])
        → first_of (cond b None (Some name) ∷ map (λ n. cond (is_among known n) None (Some n)) (names ++ more))
        ≡ first_of (first_of (cond b None (Some name) ∷ map (λ n. cond (is_among known n) None (Some n)) names) ∷ first_lacking known more ∷ [])
    by true h = h
    by false h = refl

-- a model that isn't found has no inputs and outputs
no-callee : (models : List ModelDef) (c : Call) (at : Option ℕ) → model_at models at ≡ callee models c → ((x : ℕ) → at ≡ Some x → ⊥)
    → callee models c ≡ no_model
no-callee models c None is none = sym is
no-callee models c (Some at) is none = absurd (none at refl)

no-outputs : (pins : List Pin) → actuals (is_output no_model) pins ≡ []
no-outputs [] = refl
no-outputs (p ∷ pins) = no-outputs pins

no-inputs : (pins : List Pin) → actuals (is_input no_model) pins ≡ []
no-inputs [] = refl
no-inputs (p ∷ pins) = no-inputs pins

-- a call of a model that isn't found drives and uses nothing
pub no-driven : (models : List ModelDef) (c : Call) (at : Option ℕ) → model_at models at ≡ callee models c → ((x : ℕ) → at ≡ Some x → ⊥)
    → drives models (ACall c) ≡ []
no-driven models c at is none = ap (λ m. actuals (is_output m) c.pins) (no-callee models c at is none) ∙ no-outputs c.pins

pub no-used : (models : List ModelDef) (c : Call) (at : Option ℕ) → model_at models at ≡ callee models c → ((x : ℕ) → at ≡ Some x → ⊥)
    → uses models (ACall c) ≡ []
no-used models c at is none = ap (λ m. actuals (is_input m) c.pins) (no-callee models c at is none) ∙ no-inputs c.pins

-- a book of names, of which none was driven again
abbrev once : List (List ℕ) → Driven
once names = record { names = names; again = None }

-- the inputs are driven first
pub inputs-driven : (models : List ModelDef) (m : ModelDef) (book inputs : List (List ℕ)) (s : Driven) (left : List Part)
    → book ≡ [] → inputs ≡ m.inputs → s ≡ drive_all (once book) inputs → left ≡ parts m
    → drive_all s (gathered (drives models) left) ≡ drive_all nothing (driven models m)
inputs-driven models m book inputs s left empty same is all =
    ap (λ d. drive_all d (gathered (drives models) left))
    (is ∙ ap (λ b. drive_all (once b) inputs) empty ∙ ap (drive_all nothing) same)
    ∙ ap (λ ps. drive_all (drive_all nothing m.inputs) (gathered (drives models) ps)) all
    ∙ sym (drive_all-append nothing m.inputs (gathered (drives models) (parts m)))

-- then what each part drives
pub part-driven : (models : List ModelDef) (s now : Driven) (all later : List Part) (part : Part) (end : Driven)
    → drive_all s (gathered (drives models) all) ≡ end → all ≡ part ∷ later → now ≡ drive_all s (drives models part)
    → drive_all now (gathered (drives models) later) ≡ end
part-driven models s now all later part end h is e =
    ap (λ d. drive_all d (gathered (drives models) later)) e
    ∙ sym (drive_all-append s (drives models part) (gathered (drives models) later))
    ∙ sym (ap (λ ps. drive_all s (gathered (drives models) ps)) is) ∙ h

-- the signals that are used, by each part
pub use-begun : (models : List ModelDef) (m : ModelDef) (s : Driven) (left : List Part)
    → s ≡ drive_all nothing (driven models m) → left ≡ parts m
    → first_lacking s.names (gathered (uses models) left ++ m.outputs) ≡ undriven models m
use-begun models m s left is all =
    ap (λ d. first_lacking d.names (gathered (uses models) left ++ m.outputs)) is
    ∙ ap (λ ps. first_lacking (drive_all nothing (driven models m)).names (gathered (uses models) ps ++ m.outputs)) all
    ∙ other-driven (driven models m) (used models m)

-- what the next part and those behind it use
next-used : (models : List ModelDef) (known : List (List ℕ)) (all later : List Part) (part : Part) (outputs : List (List ℕ))
    → all ≡ part ∷ later
    → first_lacking known (gathered (uses models) all ++ outputs)
    ≡ first_of (first_lacking known (uses models part) ∷ first_lacking known (gathered (uses models) later ++ outputs) ∷ [])
next-used models known all later part outputs is =
    ap (λ ps. first_lacking known (gathered (uses models) ps ++ outputs)) is
    ∙ ap (first_lacking known) (append_assoc (uses models part) (gathered (uses models) later) outputs)
    ∙ other-append known (uses models part) (gathered (uses models) later ++ outputs)

-- a part that uses a signal without a driver
pub use-found : (models : List ModelDef) (known : List (List ℕ)) (all later : List Part) (part : Part) (outputs : List (List ℕ)) (name : List ℕ)
    (end : Option (List ℕ)) → first_lacking known (gathered (uses models) all ++ outputs) ≡ end → all ≡ part ∷ later
    → Some name ≡ first_lacking known (uses models part) → Some name ≡ end
use-found models known all later part outputs name end h is found =
    ap (λ o. first_of (o ∷ first_lacking known (gathered (uses models) later ++ outputs) ∷ [])) found
    ∙ sym (next-used models known all later part outputs is) ∙ h

-- a part all whose signals are driven
pub use-driven : (models : List ModelDef) (known : List (List ℕ)) (all later : List Part) (part : Part) (outputs : List (List ℕ))
    (end : Option (List ℕ)) → first_lacking known (gathered (uses models) all ++ outputs) ≡ end → all ≡ part ∷ later
    → None ≡ first_lacking known (uses models part) → first_lacking known (gathered (uses models) later ++ outputs) ≡ end
use-driven models known all later part outputs end h is none =
    at (first_lacking known (gathered (uses models) later ++ outputs))
    ∙ ap (λ o. first_of (o ∷ first_lacking known (gathered (uses models) later ++ outputs) ∷ [])) none
    ∙ sym (next-used models known all later part outputs is) ∙ h
  where
    at : (o : Option (List ℕ)) → o ≡ first_of (None ∷ o ∷ [])
    at None = refl
    at (Some x) = refl

-- the outputs, where no part is left
pub outputs-left : {E : Type 0} (models : List ModelDef) (known : List (List ℕ)) (left : List Part) (names outputs : List (List ℕ)) (end : Option (List ℕ))
    (answer : Result (Option (List ℕ)) E) → first_lacking known (gathered (uses models) left ++ outputs) ≡ end → left ≡ [] → names ≡ outputs
    → IfOk answer (λ o. o ≡ first_lacking known names) → IfOk answer (λ o. o ≡ end)
outputs-left models known left names outputs end (Ok o) h none same is =
    is ∙ ap (first_lacking known) same ∙ sym (ap (λ ps. first_lacking known (gathered (uses models) ps ++ outputs)) none) ∙ h
outputs-left models known left names outputs end (Err e) h none same is = tt
