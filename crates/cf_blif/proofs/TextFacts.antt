-- How reading a text goes on from line to line.
use Rattle.std.proofs.Common.{ℕ, ◌≡◌, ◌<◌, ◌==◌, ◌||◌, Bool, true, false, not, cond, List, [], ◌∷◌, ◌++◌, length, map, Option, Some, None, refl, ap, sym, subst, ◌∙◌, arith}
use Rattle.std.specs.Prelude.{nat_le, Result, Ok, Err}
use Rattle.std.proofs.lemmas.Bool.{leb-false, eqb-true}
use Rattle.cf_blif.specs.declared.faults.BlifFault.{BlifFault}
use Rattle.cf_blif.specs.declared.faults.BlifFault.TheVariants as blif
use Rattle.std.specs.List.{list_any}
use Rattle.std.specs.Str.{bytes_eq}
use Rattle.cf_model.specs.Renumbering.{IsNew, place}
use Rattle.cf_names.proofs.NumberLaws.{missing}
use Rattle.cf_circuits.specs.declared.faults.BlifWhy.{BlifWhy}
use Rattle.cf_circuits.specs.declared.faults.BlifWhy.TheVariants as why
use Rattle.cf_circuits.specs.declared.models.ModelDef.{ModelDef}
use Rattle.cf_circuits.specs.declared.kinds.Kind.{Kind}
use Rattle.cf_circuits.specs.declared.kinds.Kind.TheVariants.{Model}
use Rattle.cf_circuits.specs.LogicalLines.{Line, Text, keep, kept, physical, texts, logical_from}
use Rattle.cf_circuits.specs.Kinds.{kind, kind_of_word, first_word, arguments, is_model}
use Rattle.cf_circuits.specs.Causes.{Fault, fault_at, first_fault, or_else, without_model as none_of, cause, model_cause}
use Rattle.cf_circuits.specs.Netlists.{models_of, body, model_of}
use Rattle.cf_blif.specs.Lined.{read, lined}
use Rattle.cf_blif.specs.Steps.{Reads}
use Rattle.cf_blif.specs.declared.reader.Reader.{Reader}
use Rattle.cf_blif.specs.Readers.{cause_in, next, initial, without_model}
use Rattle.cf_blif.proofs.StateFacts.{Knows, knows-nothing, knows-next, cause-same}
use Rattle.cf_blif.proofs.FinishFacts.{finished, step, finished-nothing, finished-all}

-- a model's name that gives no cause is new
pub new_name : (s : Reader) (k : Kind) (ws : List (List ℕ)) → k ≡ Model → None ≡ cause_in s k ws → IsNew s.names (first_word (arguments ws))
new_name s k ws is ok =
    let good : None ≡ model_cause s.names (arguments ws) = ok ∙ ap (λ t. cause_in s t ws) is in
    let lacks = by (length (arguments ws) == 1) (list_any (λ other. bytes_eq other (first_word (arguments ws))) s.names) good in
    (missing s.names (first_word (arguments ws)) None (sym (ap (λ b. cond b (Some (place bytes_eq s.names (first_word (arguments ws)))) None) lacks))).0 refl
  where
    by : (t u : Bool) → None ≡ cond (not t) (Some why.NotBlif) (cond u (Some why.TwoModelsOneName) None) → u ≡ false
    by t false h = refl
    by true true h = cc
    by false true h = cc

filtered : List Line → List Line
filtered [] = []
filtered (l ∷ ls) = keep l (filtered ls)

kept-lined : (ts : List Text) → kept ts ≡ filtered (map read ts)
unfolding filtered
kept-lined [] = refl
kept-lined (t ∷ ts) = ap (keep (read t)) (kept-lined ts)

-- the lines of a text, by its first one
pub logical-line : (n m : ℕ) (bytes later : List ℕ) (ws : List (List ℕ)) → lined n (physical bytes) ≡ record { number = n; words = ws } ∷ lined m (physical later)
    → logical_from n bytes ≡ keep (record { number = n; words = ws }) (logical_from m later)
unfolding filtered
logical-line n m bytes later ws h =
    kept-lined (texts n (physical bytes)) ∙ ap filtered h ∙ ap (keep (record { number = n; words = ws })) (sym (kept-lined (texts m (physical later))))

pub logical-nothing : (n : ℕ) → logical_from n [] ≡ []
unfolding physical texts
logical-nothing n = refl

-- What a reader holds, behind some lines of a text and before the others.
pub record Follows (all rest : List Line) (s : Reader) : Type 0 where
  pub before : List Line
  pub knows : Knows before s
  pub faults : first_fault [] all ≡ first_fault before rest
  pub models : finished s rest ≡ models_of all

pub follows-all : (all : List Line) (s : Reader) → s ≡ initial → Follows all all s
follows-all all s is = subst (λ t. Follows all all t) (sym is) (record { before = []; knows = knows-nothing; faults = refl; models = finished-all all })

first-fault : (before : List Line) (l : Line) (later : List Line) (o : Option BlifWhy) → cause before l ≡ o
    → first_fault before (l ∷ later) ≡ or_else (fault_at l.number o) (first_fault (before ++ l ∷ []) later)
unfolding first_fault
first-fault before l later o e = ap (λ c. or_else (fault_at l.number c) (first_fault (before ++ l ∷ []) later)) e

-- a line without a fault
pub follows-next : (all later : List Line) (s now : Reader) (n : ℕ) (ws : List (List ℕ)) → Follows all (record { number = n; words = ws } ∷ later) s
    → cause_in s (kind_of_word (first_word ws)) ws ≡ None → now ≡ next s (kind_of_word (first_word ws)) n ws → Follows all later now
follows-next all later s now n ws h ok is =
    let l : Line = record { number = n; words = ws } in
    subst (λ t. Follows all later t) (sym is) (record {
      before = h.before ++ l ∷ [];
      knows = knows-next h.before s l n (kind_of_word (first_word ws)) h.knows refl ok;
      faults = h.faults ∙ first-fault h.before l later None (cause-same h.before s h.knows (kind_of_word (first_word ws)) ws ∙ ok);
      models = sym (step s.done s.current s.gate s.names l later (kind_of_word (first_word ws)) refl) ∙ h.models;
    })

-- a line with a fault is the first one
pub follows-fault : (all later : List Line) (s : Reader) (n : ℕ) (ws : List (List ℕ)) (c : BlifWhy) → Follows all (record { number = n; words = ws } ∷ later) s
    → cause_in s (kind_of_word (first_word ws)) ws ≡ Some c → or_else (first_fault [] all) (none_of all) ≡ Some (record { line = n; why = c })
follows-fault all later s n ws c h bad =
    ap (λ o. or_else o (none_of all))
    (h.faults ∙ first-fault h.before (record { number = n; words = ws }) later (Some c) (cause-same h.before s h.knows (kind_of_word (first_word ws)) ws ∙ bad))

abbrev no_model : Option Fault
no_model = Some (record { line = 0; why = why.NotBlif })

abbrev some : List ModelDef → Bool
some [] = false
some (m ∷ ms) = true

any-models : (lines : List Line) → list_any (λ l. is_model (kind l)) lines ≡ some (models_of lines)
unfolding models_of
any-models [] = refl
any-models (l ∷ lines) = by (is_model (kind l)) (any-models lines)
  where
    by : (t : Bool) → list_any (λ y. is_model (kind y)) lines ≡ some (models_of lines)
        → (t || list_any (λ y. is_model (kind y)) lines) ≡ some (cond t (model_of l (body lines) ∷ models_of lines) (models_of lines))
    by true h = refl
    by false h = h

no-fault : (before : List Line) → first_fault before [] ≡ None
unfolding first_fault
no-fault before = refl

-- at the end
pub follows-end : (all : List Line) (s : Reader) → Follows all [] s → (without_model s).done ≡ models_of all
follows-end all s h = sym (finished-nothing s) ∙ h.models

fault_by : (all : List Line) (s : Reader) → Follows all [] s → or_else (first_fault [] all) (none_of all) ≡ cond (some (without_model s).done) None no_model
fault_by all s h =
    ap (λ o. or_else o (none_of all)) (h.faults ∙ no-fault h.before)
    ∙ ap (λ t. cond t None no_model) (any-models all ∙ ap some (sym (follows-end all s h)))

pub end-empty : (all : List Line) (s : Reader) → Follows all [] s → (without_model s).done ≡ [] → or_else (first_fault [] all) (none_of all) ≡ Some (record { line = 0; why = why.NotBlif })
end-empty all s h is = fault_by all s h ∙ ap (λ ms. cond (some ms) None no_model) is

pub end-some : (all : List Line) (s : Reader) → Follows all [] s → ((without_model s).done ≡ [] → ⊥) → or_else (first_fault [] all) (none_of all) ≡ None
end-some all s h is = fault_by all s h ∙ by (without_model s).done is
  where
    by : (ms : List ModelDef) → (ms ≡ [] → ⊥) → cond (some ms) None no_model ≡ None
    by [] h = absurd (h refl)
    by (m ∷ ms) h = refl

kept_some : (n : ℕ) (w : List ℕ) (ws : List (List ℕ)) (more : List Line) → keep (record { number = n; words = w ∷ ws }) more ≡ record { number = n; words = w ∷ ws } ∷ more
kept_some n w ws more = by (nat_le 1 (length (w ∷ ws))) refl
  where
    by : (t : Bool) → nat_le 1 (length (w ∷ ws)) ≡ t → cond t (record { number = n; words = w ∷ ws } ∷ more) more ≡ record { number = n; words = w ∷ ws } ∷ more
    by true e = refl
    by false e = absurd (omega (arith, leb-false 1 (length (w ∷ ws)) e))

-- a line that was read goes on to the next one
pub follows-line : (all : List Line) (bytes later : List ℕ) (s now : Reader) (n m : ℕ) (ws : List (List ℕ)) → Follows all (logical_from n bytes) s
    → lined n (physical bytes) ≡ record { number = n; words = ws } ∷ lined m (physical later)
    → (length ws ≡ 0 → now ≡ s)
    → (0 < length ws → (cause_in s (kind_of_word (first_word ws)) ws ≡ None) × (now ≡ next s (kind_of_word (first_word ws)) n ws))
    → Follows all (logical_from m later) now
follows-line all bytes later s now n m [] h is skips reads =
    subst (λ t. Follows all (logical_from m later) t) (sym (skips refl)) (subst (λ ls. Follows all ls s) (logical-line n m bytes later [] is) h)
follows-line all bytes later s now n m (w ∷ ws) h is skips reads =
    let r = reads (omega arith) in
    follows-next all (logical_from m later) s now n (w ∷ ws)
    (subst (λ ls. Follows all ls s) (logical-line n m bytes later (w ∷ ws) is ∙ kept_some n w ws (logical_from m later)) h) r.0 r.1

-- a line that was refused
pub follows-error : (all : List Line) (bytes later : List ℕ) (s : Reader) (n m l : ℕ) (ws : List (List ℕ)) (c : BlifWhy) → Follows all (logical_from n bytes) s
    → lined n (physical bytes) ≡ record { number = n; words = ws } ∷ lined m (physical later)
    → 0 < length ws → (l ≡ n) × (cause_in s (kind_of_word (first_word ws)) ws ≡ Some c)
    → or_else (first_fault [] all) (none_of all) ≡ Some (record { line = l; why = c })
follows-error all bytes later s n m l [] c h is some bad = absurd (omega (arith, some))
follows-error all bytes later s n m l (w ∷ ws) c h is some bad =
    subst (λ k. or_else (first_fault [] all) (none_of all) ≡ Some (record { line = k; why = c })) (sym bad.0)
    (follows-fault all (logical_from m later) s n (w ∷ ws) c
    (subst (λ ls. Follows all ls s) (logical-line n m bytes later (w ∷ ws) is ∙ kept_some n w ws (logical_from m later)) h) bad.1)

-- where no byte is left
pub follows-last : (all : List Line) (bytes : List ℕ) (s : Reader) (n : ℕ) → Follows all (logical_from n bytes) s → bytes ≡ [] → Follows all [] s
follows-last all bytes s n h is = subst (λ ls. Follows all ls s) (ap (logical_from n) is ∙ logical-nothing n) h

pub empty_is : {A : Type 0} (xs : List A) (b : Bool) → b ≡ (length xs == 0) → b ≡ true → xs ≡ []
empty_is [] b e is = refl
empty_is (x ∷ xs) b e is = let h : (length (x ∷ xs) == 0) ≡ true = sym e ∙ is in absurd (omega (arith, eqb-true (length (x ∷ xs)) 0 h))

pub full_is : {A : Type 0} (xs : List A) (b : Bool) → b ≡ (length xs == 0) → b ≡ false → xs ≡ [] → ⊥
full_is [] b e is nothing = let h : true ≡ false = sym e ∙ is in cc
full_is (x ∷ xs) b e is nothing = cc

abbrev pub fault_in : BlifFault → Option Fault
fault_in blif.NoMemory = None
fault_in (blif.At line c) = Some (record { line = line; why = c })

abbrev pub fault_of : {T : Type 0} → Result T BlifFault → Option Fault
fault_of (Ok x) = None
fault_of (Err e) = fault_in e

-- what a refused line has done
pub refused : (s now : Reader) (n line : ℕ) (ws : List (List ℕ)) (c : BlifWhy) (f : BlifFault) → f ≡ blif.At line c → Reads s n ws (Err f) now
    → (line ≡ n) × (cause_in s (kind_of_word (first_word ws)) ws ≡ Some c)
refused s now n line ws c f e h = subst (λ g. Reads s n ws (Err g) now) e h

abbrev err_or : {T : Type 0} → BlifFault → Result T BlifFault → BlifFault
err_or other (Ok x) = other
err_or other (Err e) = e

pub same_err : {T : Type 0} (e f : BlifFault) → ◌≡◌ {A = Result T BlifFault} (Err e) (Err f) → e ≡ f
same_err e f h = ap (err_or e) h
