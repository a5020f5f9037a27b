-- The fault of a text is that of its first faulty line.
use Rattle.std.proofs.Common.{◌≡◌, ◌⊎◌, ℕ, ◌||◌, Bool, true, false, cond, List, [], ◌∷◌, ◌++◌, Option, Some, None, refl, ap, sym, subst, ◌∙◌, append_assoc, inl, inr}
use Rattle.std.specs.List.{list_any}
use Rattle.cf_circuits.specs.declared.faults.BlifWhy.{BlifWhy}
use Rattle.cf_circuits.specs.declared.faults.BlifWhy.TheVariants as why
use Rattle.cf_circuits.specs.declared.models.ModelDef.{ModelDef}
use Rattle.cf_circuits.specs.LogicalLines.{Line, logical}
use Rattle.cf_circuits.specs.Kinds.{kind, is_model}
use Rattle.cf_circuits.specs.Causes.{Fault, fault_at, first_fault, fault, without_model as none_of, or_else, cause}
use Rattle.cf_circuits.specs.Netlists.{body, model_of, models_of, net}
use Rattle.cf_circuits.specs.Firsts.{AreFaultless, IsFirstFault}
use Rattle.cf_circuits.proofs.KeptLaws.{faultless-cons}

-- no line is faulty behind some lines
abbrev Faultless : List Line → List Line → Type 0
Faultless before lines = (front : List Line) (line : Line) (later : List Line) → lines ≡ front ++ line ∷ later → cause (before ++ front) line ≡ None

record Found (before lines : List Line) (f : Fault) : Type 0 where
  front : List Line
  line : Line
  later : List Line
  split : lines ≡ front ++ line ∷ later
  faultless : Faultless before front
  number : f.line ≡ line.number
  why : cause (before ++ front) line ≡ Some f.why

nil : {A : Type 0} (xs : List A) → xs ++ [] ≡ xs
nil [] = refl
nil (x ∷ xs) = ap (λ ys. x ∷ ys) (nil xs)

first_of : Line → List Line → Line
first_of other [] = other
first_of other (l ∷ lines) = l

behind : List Line → List Line
behind [] = []
behind (l ∷ lines) = lines

same_first : (l m : Line) (ls ms : List Line) → l ∷ ls ≡ m ∷ ms → l ≡ m
unfolding first_of
same_first l m ls ms e = ap (first_of l) e

same_behind : (l m : Line) (ls ms : List Line) → l ∷ ls ≡ m ∷ ms → ls ≡ ms
unfolding behind
same_behind l m ls ms e = ap behind e

-- one more line without a fault
faultless-more : (before : List Line) (l : Line) (lines : List Line) → cause before l ≡ None → Faultless (before ++ l ∷ []) lines → Faultless before (l ∷ lines)
faultless-more before l lines ok h [] line later e =
    ap (λ b. cause b line) (nil before) ∙ subst (λ x. cause before x ≡ None) (same_first l line lines later e) ok
faultless-more before l lines ok h (m ∷ front) line later e =
    ap (λ b. cause b line) (ap (λ x. before ++ x ∷ front) (sym (same_first l m lines (front ++ line ∷ later) e)) ∙ sym (append_assoc before (l ∷ []) front))
    ∙ h front line later (same_behind l m lines (front ++ line ∷ later) e)

no-split : (front : List Line) (line : Line) (later : List Line) → [] ≡ front ++ line ∷ later → ⊥
no-split [] line later e = cc
no-split (l ∷ front) line later e = cc

faultless-all : (before lines : List Line) → first_fault before lines ≡ None → Faultless before lines
faultless-all before [] h = λ front line later e. absurd (no-split front line later e)
faultless-all before (l ∷ lines) h =
    let f = faultless-cons before l lines h in
    faultless-more before l lines f.0 (faultless-all (before ++ l ∷ []) lines f.1)

found-here : (before : List Line) (l : Line) (lines : List Line) (f : Fault) (c : BlifWhy) → cause before l ≡ Some c → record { line = l.number; why = c } ≡ f → Found before (l ∷ lines) f
found-here before l lines f c is e = record {
  front = [];
  line = l;
  later = lines;
  split = refl;
  faultless = λ front line later s. absurd (no-split front line later s);
  number = ap (λ x. x.line) (sym e);
  why = ap (λ b. cause b l) (nil before) ∙ is ∙ ap (λ x. Some x.why) e;
}

found-later : (before : List Line) (l : Line) (lines : List Line) (f : Fault) → cause before l ≡ None → Found (before ++ l ∷ []) lines f → Found before (l ∷ lines) f
found-later before l lines f ok h = record {
  front = l ∷ h.front;
  line = h.line;
  later = h.later;
  split = ap (λ ls. l ∷ ls) h.split;
  faultless = faultless-more before l h.front ok h.faultless;
  number = h.number;
  why = ap (λ b. cause b h.line) (sym (append_assoc before (l ∷ []) h.front)) ∙ h.why;
}

found : (before lines : List Line) (f : Fault) → first_fault before lines ≡ Some f → Found before lines f
unfolding first_fault
found before [] f h = cc
found before (l ∷ lines) f h = by (cause before l) refl h (found (before ++ l ∷ []) lines f)
  where
    some : (x y : Fault) → Some x ≡ Some y → x ≡ y
    some x y e = cc

    by : (o : Option BlifWhy) → cause before l ≡ o → or_else (fault_at l.number o) (first_fault (before ++ l ∷ []) lines) ≡ Some f
        → (first_fault (before ++ l ∷ []) lines ≡ Some f → Found (before ++ l ∷ []) lines f) → Found before (l ∷ lines) f
    by None is h more = found-later before l lines f is (more h)
    by (Some c) is h more = found-here before l lines f c is (some (record { line = l.number; why = c }) f h)

no_models : (lines : List Line) → list_any (λ l. is_model (kind l)) lines ≡ false → models_of lines ≡ []
unfolding models_of
no_models [] h = refl
no_models (l ∷ lines) h = by (is_model (kind l)) h (no_models lines)
  where
    by : (t : Bool) → (t || list_any (λ y. is_model (kind y)) lines) ≡ false → (list_any (λ y. is_model (kind y)) lines ≡ false → models_of lines ≡ [])
        → cond t (model_of l (body lines) ∷ models_of lines) (models_of lines) ≡ []
    by true h more = cc
    by false h more = more h

abbrev Outcome : List Line → Fault → List ModelDef → Type 0
Outcome lines f models = IsFirstFault lines f ⊎ (AreFaultless lines × ((f ≡ record { line = 0; why = why.NotBlif }) × (models ≡ [])))

pub faults-first : (bytes : List ℕ) (f : Fault) → fault bytes ≡ Some f → Outcome (logical bytes) f (net bytes)
faults-first bytes f h = by (first_fault [] (logical bytes)) refl h
  where
    without : (t : Bool) → list_any (λ l. is_model (kind l)) (logical bytes) ≡ t → cond {A = Option Fault} t None (Some (record { line = 0; why = why.NotBlif })) ≡ Some f
        → (f ≡ record { line = 0; why = why.NotBlif }) × (net bytes ≡ [])
    without true is e = cc
    without false is e = (cc, no_models (logical bytes) is)

    by : (o : Option Fault) → first_fault [] (logical bytes) ≡ o → or_else o (none_of (logical bytes)) ≡ Some f → Outcome (logical bytes) f (net bytes)
    by None is e = inr (faultless-all [] (logical bytes) is, without (list_any (λ l. is_model (kind l)) (logical bytes)) refl e)
    by (Some g) is e =
        let r = found [] (logical bytes) f (is ∙ e) in
        inl (record { before = r.front; line = r.line; later = r.later; split = r.split; faultless = r.faultless; number = r.number; why = r.why })

pub faultless-texts : (bytes : List ℕ) → fault bytes ≡ None → AreFaultless (logical bytes)
faultless-texts bytes h = faultless-all [] (logical bytes) (none (first_fault [] (logical bytes)) (none_of (logical bytes)) h)
  where
    none : (a b : Option Fault) → or_else a b ≡ None → a ≡ None
    none None b e = refl
    none (Some x) b e = cc
