-- What a text without a fault says is a netlist.
use Rattle.std.proofs.Common.{ℕ, zero, suc, ◌≡◌, ◌+◌, ◌-◌, ◌<◌, ◌≤◌, ◌==◌, ◌&&◌, ◌||◌, Bool, true, false, not, cond, List, [], ◌∷◌, ◌++◌, length, map, Option, Some, None, refl, ap, sym, subst, ◌∙◌, arith, append_assoc}
use Rattle.std.specs.Prelude.{nat_le}
use Rattle.std.specs.List.{All, list_all, list_any}
use Rattle.std.specs.Str.{bytes_eq}
use Rattle.std.proofs.lemmas.Bool.{eqb-true, leb-false}
use Rattle.std.proofs.lemmas.List.Elements.{All-nil, All-cons}
use Rattle.cf_model.specs.Renumbering.{AllDiffer, IsNew, place}
use Rattle.cf_model.proofs.CanonLaws.{AllDiffer-push}
use Rattle.cf_names.proofs.NumberLaws.{missing}
use Rattle.cf_circuits.specs.declared.faults.BlifWhy.{BlifWhy}
use Rattle.cf_circuits.specs.declared.faults.BlifWhy.TheVariants as why
use Rattle.cf_circuits.specs.declared.gates.Cell.{Cell}
use Rattle.cf_circuits.specs.declared.kinds.Kind.{Kind}
use Rattle.cf_circuits.specs.declared.kinds.Kind.TheVariants.{Model, Inputs, Outputs, Gate, Call, End, Ignored, Unknown, Cover}
use Rattle.cf_circuits.specs.LogicalLines.{Line, logical}
use Rattle.cf_circuits.specs.Kinds.{kind, first_word, arguments, all_but_last, formal_of, is_model, is_end, is_gate, is_call, is_cover}
use Rattle.cf_circuits.specs.Causes.{Fault, fault_at, first_fault, fault, without_model as none_of, or_else, cause, cause_of, within, cover_cause, covers, is_cell, is_output, same_output, gate_cause, model_cause, model_names, last_dotted, first_behind, is_inside, is_called, is_pair, all_differ}
use Rattle.cf_circuits.specs.Netlists.{cover_lines, cell_of, plane_of, on_of, gate_of, gates_of, pin_of, call_of, calls_of, body, model_of, models_of, net}
use Rattle.cf_circuits.specs.Kept.{IsGate, IsCall, IsModel, IsNetlist}
use Rattle.cf_circuits.proofs.BeforeLaws.{names-push, dotted-push}
use Rattle.cf_circuits.proofs.OrderLaws.{Rises, numbers, logical-rises, body-rises, gates-order, calls-order, gates-apart}

both : (x y : Bool) → (x && y) ≡ true → (x ≡ true) × (y ≡ true)
both true y h = (refl, h)
both false y h = cc

-- a line without a fault, and the lines behind it
pub faultless-cons : (before : List Line) (l : Line) (later : List Line) → first_fault before (l ∷ later) ≡ None → (cause before l ≡ None) × (first_fault (before ++ l ∷ []) later ≡ None)
unfolding first_fault
faultless-cons before l later h = by (cause before l) h
  where
    by : (o : Option BlifWhy) → or_else (fault_at l.number o) (first_fault (before ++ l ∷ []) later) ≡ None → (o ≡ None) × (first_fault (before ++ l ∷ []) later ≡ None)
    by None h = (refl, h)
    by (Some c) h = cc

cause-kind : (before : List Line) (l : Line) (k : Kind) → kind l ≡ k → cause before l ≡ None → cause_of k before l.words ≡ None
cause-kind before l k e h = sym (ap (λ t. cause_of t before l.words) e) ∙ h

within-none : (inside : Bool) (o : Option BlifWhy) → within inside o ≡ None → o ≡ None
within-none true o h = h
within-none false o h = cc

kind-gate : (k : Kind) → is_gate k ≡ true → k ≡ Gate
kind-gate Gate h = refl
kind-gate Model h = cc
kind-gate Inputs h = cc
kind-gate Outputs h = cc
kind-gate Call h = cc
kind-gate End h = cc
kind-gate Ignored h = cc
kind-gate Unknown h = cc
kind-gate Cover h = cc

kind-call : (k : Kind) → is_call k ≡ true → k ≡ Call
kind-call Call h = refl
kind-call Model h = cc
kind-call Inputs h = cc
kind-call Outputs h = cc
kind-call Gate h = cc
kind-call End h = cc
kind-call Ignored h = cc
kind-call Unknown h = cc
kind-call Cover h = cc

kind-cover : (k : Kind) → is_cover k ≡ true → k ≡ Cover
kind-cover Cover h = refl
kind-cover Model h = cc
kind-cover Inputs h = cc
kind-cover Outputs h = cc
kind-cover Gate h = cc
kind-cover Call h = cc
kind-cover End h = cc
kind-cover Ignored h = cc
kind-cover Unknown h = cc

kind-model : (k : Kind) → is_model k ≡ true → k ≡ Model
kind-model Model h = refl
kind-model Inputs h = cc
kind-model Outputs h = cc
kind-model Gate h = cc
kind-model Call h = cc
kind-model End h = cc
kind-model Ignored h = cc
kind-model Unknown h = cc
kind-model Cover h = cc

-- lists whose entries differ
AllDiffer-cons : {A : Type 0} (x : A) (xs : List A) → IsNew xs x → AllDiffer xs → AllDiffer (x ∷ xs)
AllDiffer-cons x xs new d zero zero y hi hj = refl
AllDiffer-cons x xs new d zero (suc j) y hi hj = absurd (new j (hj ∙ sym hi))
AllDiffer-cons x xs new d (suc i) zero y hi hj = absurd (new i (hi ∙ sym hj))
AllDiffer-cons x xs new d (suc i) (suc j) y hi hj = ap suc (d i j y hi hj)

new-name : (names : List (List ℕ)) (name : List ℕ) → list_any (λ other. bytes_eq other name) names ≡ false → IsNew names name
new-name names name lacks = (missing names name None (sym (ap (λ b. cond b (Some (place bytes_eq names name)) None) lacks))).0 refl

differ-all : (names : List (List ℕ)) → all_differ names ≡ true → AllDiffer names
differ-all [] h = λ i j x hi hj. cc
differ-all (name ∷ names) h =
    let b = both (not (list_any (λ other. bytes_eq other name) names)) (all_differ names) h in
    AllDiffer-cons name names (new-name names name (lacks (list_any (λ other. bytes_eq other name) names) b.0)) (differ-all names b.1)
  where
    lacks : (t : Bool) → not t ≡ true → t ≡ false
    lacks true h = cc
    lacks false h = refl

-- the names of models
names-models : (lines : List Line) → map (λ m. m.name) (models_of lines) ≡ model_names lines
unfolding models_of
names-models [] = refl
names-models (l ∷ later) = at (is_model (kind l)) (names-models later)
  where
    at : (t : Bool) → map (λ m. m.name) (models_of later) ≡ model_names later
        → map (λ m. m.name) (cond t (model_of l (body later) ∷ models_of later) (models_of later)) ≡ cond t (first_word (arguments l.words) ∷ model_names later) (model_names later)
    at true h = ap (λ ns. first_word (arguments l.words) ∷ ns) h
    at false h = h

new-model : (earlier names : List (List ℕ)) → model_cause earlier names ≡ None → list_any (λ other. bytes_eq other (first_word names)) earlier ≡ false
new-model earlier names h = by (length names == 1) (list_any (λ other. bytes_eq other (first_word names)) earlier) h
  where
    by : (t u : Bool) → cond (not t) (Some why.NotBlif) (cond u (Some why.TwoModelsOneName) None) ≡ None → u ≡ false
    by t false h = refl
    by true true h = cc
    by false true h = cc

nil : {A : Type 0} (xs : List A) → xs ++ [] ≡ xs
nil [] = refl
nil (x ∷ xs) = ap (λ ys. x ∷ ys) (nil xs)

names-differ : (before lines : List Line) → first_fault before lines ≡ None → AllDiffer (model_names before) → AllDiffer (model_names (before ++ lines))
names-differ before [] h d = subst (λ ls. AllDiffer (model_names ls)) (sym (nil before)) d
names-differ before (l ∷ later) h d =
    let f = faultless-cons before l later h in
    subst (λ ls. AllDiffer (model_names ls)) (append_assoc before (l ∷ []) later)
    (names-differ (before ++ l ∷ []) later f.1 (subst (λ ns. AllDiffer ns) (sym (names-push before l)) (at (is_model (kind l)) refl f.0)))
  where
    at : (t : Bool) → is_model (kind l) ≡ t → cause before l ≡ None → AllDiffer (model_names before ++ cond t (first_word (arguments l.words) ∷ []) [])
    at false e ok = subst (λ ns. AllDiffer ns) (sym (nil (model_names before))) d
    at true e ok =
        AllDiffer-push (model_names before) (first_word (arguments l.words)) d
        (new-name (model_names before) (first_word (arguments l.words))
        (new-model (model_names before) (arguments l.words) (cause-kind before l Model (kind-model (kind l) e) ok)))

-- planes are as long as the inputs
length-cells : (cells : List ℕ) → length (map cell_of cells) ≡ length cells
length-cells [] = refl
length-cells (b ∷ cells) = ap suc (length-cells cells)

plane-length : (n : ℕ) (ws : List (List ℕ)) → covers n ws ≡ true → length (plane_of ws) ≡ n
plane-length n [] h = cc
plane-length n (out ∷ []) h = sym (eqb-true n 0 (both (n == 0) (is_output out) h).0)
plane-length n (cells ∷ out ∷ []) h =
    length-cells cells
    ∙ eqb-true (length cells) n
    (both (length cells == n) (list_all is_cell cells && is_output out)
    (both (nat_le 1 n) (length cells == n && (list_all is_cell cells && is_output out)) h).1).0
plane-length n (cells ∷ out ∷ more ∷ rest) h = cc

good-cover : (g : Line) (first : Option Line) (ws : List (List ℕ)) → is_gate (kind g) ≡ true → cover_cause (Some g) first ws ≡ None → covers (length (arguments g.words) - 1) ws ≡ true
good-cover g first ws gate h = by (is_gate (kind g)) (covers (length (arguments g.words) - 1) ws) gate h
  where
    by : (s t : Bool) → s ≡ true → cond (not s) (Some why.NotBlif) (cond (not t) (Some why.BadCover) (cond (not (same_output first ws)) (Some why.MixedCover) None)) ≡ None → t ≡ true
    by s true e h = refl
    by true false e h = cc
    by false false e h = cc

planes-fit : (before : List Line) (g : Line) (n : ℕ) (lines : List Line) → last_dotted before ≡ Some g → is_gate (kind g) ≡ true → length (arguments g.words) - 1 ≡ n
    → first_fault before lines ≡ None → All (λ plane. length plane ≡ n) (map (λ l. plane_of l.words) (cover_lines lines))
planes-fit before g n [] dotted gate long h = All-nil {X = List Cell} (λ plane. length plane ≡ n)
planes-fit before g n (l ∷ later) dotted gate long h =
    let f = faultless-cons before l later h in
    at (is_cover (kind l)) refl f.0
    (λ e. planes-fit (before ++ l ∷ []) g n later (dotted-push before l ∙ ap (λ t. cond t (last_dotted before) (Some l)) e ∙ dotted) gate long f.1)
  where
    fits : cause before l ≡ None → is_cover (kind l) ≡ true → length (plane_of l.words) ≡ n
    fits ok e =
        plane-length (length (arguments g.words) - 1) l.words
        (good-cover g (first_behind before) l.words gate
        (sym (ap (λ o. cover_cause o (first_behind before) l.words) dotted)
        ∙ within-none (is_inside before) (cover_cause (last_dotted before) (first_behind before) l.words) (cause-kind before l Cover (kind-cover (kind l) e) ok)))
        ∙ long

    at : (t : Bool) → is_cover (kind l) ≡ t → cause before l ≡ None
        → (is_cover (kind l) ≡ true → All (λ plane. length plane ≡ n) (map (λ y. plane_of y.words) (cover_lines later)))
        → All (λ plane. length plane ≡ n) (map (λ y. plane_of y.words) (cond t (l ∷ cover_lines later) []))
    at true e ok more = All-cons (λ plane. length plane ≡ n) (plane_of l.words) (map (λ y. plane_of y.words) (cover_lines later)) (fits ok e) (more e)
    at false e ok more = All-nil {X = List Cell} (λ plane. length plane ≡ n)

-- a model's cover lines are those of the text
cover_lines-body : (lines : List Line) → cover_lines (body lines) ≡ cover_lines lines
cover_lines-body [] = refl
cover_lines-body (l ∷ later) = at (kind l) refl (cover_lines-body later)
  where
    inside : (k : Kind) → kind l ≡ k → cover_lines (l ∷ body later) ≡ cond (is_cover k) (l ∷ cover_lines (body later)) []
    inside k e = ap (λ t. cond (is_cover t) (l ∷ cover_lines (body later)) []) e

    at : (k : Kind) → kind l ≡ k → cover_lines (body later) ≡ cover_lines later → cover_lines (cond (is_model k || is_end k) [] (l ∷ body later)) ≡ cond (is_cover k) (l ∷ cover_lines later) []
    at Model e more = refl
    at Inputs e more = inside Inputs e
    at Outputs e more = inside Outputs e
    at Gate e more = inside Gate e
    at Call e more = inside Call e
    at End e more = refl
    at Ignored e more = inside Ignored e
    at Unknown e more = inside Unknown e
    at Cover e more = inside Cover e ∙ ap (λ ls. l ∷ ls) more

front-length : (ws : List (List ℕ)) → length ws - 1 ≡ length (all_but_last ws)
front-length [] = refl
front-length (w ∷ []) = refl
front-length (w ∷ v ∷ ws) = let e = front-length (v ∷ ws) in omega (arith, e)

narrow-gate : (names : List (List ℕ)) → gate_cause names ≡ None → length (all_but_last names) ≤ 256
narrow-gate names h = let e = front-length names in let few = leb-false 258 (length names) (by (length names == 0) (nat_le 258 (length names)) h) in omega (arith, e, few)
  where
    by : (s t : Bool) → cond s (Some why.NoOutput) (cond t (Some why.WideGate) None) ≡ None → t ≡ false
    by s false h = refl
    by true true h = cc
    by false true h = cc

on-empty : (lines : List Line) → map (λ l. plane_of l.words) lines ≡ [] → on_of lines ≡ true
on-empty [] e = refl
on-empty (l ∷ lines) e = cc

gate-kept : (before : List Line) (l : Line) (later : List Line) → is_gate (kind l) ≡ true → cause before l ≡ None → first_fault (before ++ l ∷ []) later ≡ None
    → IsGate (gate_of l (cover_lines (body later)))
gate-kept before l later e ok more =
    let k = kind-gate (kind l) e in
    record {
      narrow = narrow-gate (arguments l.words) (within-none (is_inside before) (gate_cause (arguments l.words)) (cause-kind before l Gate k ok));
      planes =
          subst (λ ls. All (λ plane. length plane ≡ length (all_but_last (arguments l.words))) (map (λ y. plane_of y.words) ls)) (sym (cover_lines-body later))
          (planes-fit (before ++ l ∷ []) l (length (all_but_last (arguments l.words))) later
          (dotted-push before l ∙ ap (λ t. cond (is_cover t) (last_dotted before) (Some l)) k) e (front-length (arguments l.words)) more);
      empty = on-empty (cover_lines (body later));
    }

gates-kept : (before lines : List Line) → first_fault before lines ≡ None → All IsGate (gates_of (body lines))
gates-kept before [] h = All-nil IsGate
gates-kept before (l ∷ later) h =
    let f = faultless-cons before l later h in
    at (is_model (kind l) || is_end (kind l)) f.0 f.1 (gates-kept (before ++ l ∷ []) later f.1)
  where
    first : (t : Bool) → is_gate (kind l) ≡ t → cause before l ≡ None → first_fault (before ++ l ∷ []) later ≡ None
        → All IsGate (gates_of (body later)) → All IsGate (cond t (gate_of l (cover_lines (body later)) ∷ gates_of (body later)) (gates_of (body later)))
    first true e ok more rest = All-cons IsGate (gate_of l (cover_lines (body later))) (gates_of (body later)) (gate-kept before l later e ok more) rest
    first false e ok more rest = rest

    at : (t : Bool) → cause before l ≡ None → first_fault (before ++ l ∷ []) later ≡ None → All IsGate (gates_of (body later)) → All IsGate (gates_of (cond t [] (l ∷ body later)))
    at true ok more rest = All-nil IsGate
    at false ok more rest = first (is_gate (kind l)) refl ok more rest

-- the formals of calls
formals-pins : (pairs : List (List ℕ)) → map (λ p. p.formal) (map pin_of pairs) ≡ map formal_of pairs
formals-pins [] = refl
formals-pins (pair ∷ pairs) = ap (λ ns. formal_of pair ∷ ns) (formals-pins pairs)

called-differ : (ws : List (List ℕ)) → is_called ws ≡ true → all_differ (map formal_of (arguments ws)) ≡ true
called-differ [] h = cc
called-differ (model ∷ pairs) h = (both (list_all is_pair pairs) (all_differ (map formal_of pairs)) h).1

call-kept : (before : List Line) (l : Line) → is_call (kind l) ≡ true → cause before l ≡ None → IsCall (call_of l)
call-kept before l e ok =
    subst (λ ns. AllDiffer ns) (sym (formals-pins (arguments (arguments l.words))))
    (differ-all (map formal_of (arguments (arguments l.words)))
    (called-differ (arguments l.words) (by (is_called (arguments l.words))
    (within-none (is_inside before) (cond (is_called (arguments l.words)) None (Some why.NotBlif)) (cause-kind before l Call (kind-call (kind l) e) ok)))))
  where
    by : (t : Bool) → cond t None (Some why.NotBlif) ≡ None → t ≡ true
    by true h = refl
    by false h = cc

calls-kept : (before lines : List Line) → first_fault before lines ≡ None → All IsCall (calls_of (body lines))
calls-kept before [] h = All-nil IsCall
calls-kept before (l ∷ later) h =
    let f = faultless-cons before l later h in
    at (is_model (kind l) || is_end (kind l)) f.0 f.1 (calls-kept (before ++ l ∷ []) later f.1)
  where
    first : (t : Bool) → is_call (kind l) ≡ t → cause before l ≡ None → first_fault (before ++ l ∷ []) later ≡ None
        → All IsCall (calls_of (body later)) → All IsCall (cond t (call_of l ∷ calls_of (body later)) (calls_of (body later)))
    first true e ok more rest = All-cons IsCall (call_of l) (calls_of (body later)) (call-kept before l e ok) rest
    first false e ok more rest = rest

    at : (t : Bool) → cause before l ≡ None → first_fault (before ++ l ∷ []) later ≡ None → All IsCall (calls_of (body later)) → All IsCall (calls_of (cond t [] (l ∷ body later)))
    at true ok more rest = All-nil IsCall
    at false ok more rest = first (is_call (kind l)) refl ok more rest

-- models
model-kept : (before : List Line) (l : Line) (later : List Line) (n : ℕ) → first_fault before later ≡ None → Rises n (numbers later) → IsModel (model_of l (body later))
model-kept before l later n h rises = record {
  gates = gates-kept before later h;
  calls = calls-kept before later h;
  gates_in_order = gates-order n (body later) (body-rises n later rises);
  calls_in_order = calls-order n (body later) (body-rises n later rises);
  apart = gates-apart n (body later) (body-rises n later rises);
}

models-kept : (before lines : List Line) (n : ℕ) → first_fault before lines ≡ None → Rises n (numbers lines) → All IsModel (models_of lines)
unfolding models_of
models-kept before [] n h rises = All-nil IsModel
models-kept before (l ∷ later) n h rises =
    let f = faultless-cons before l later h in
    at (is_model (kind l)) f.1 (models-kept (before ++ l ∷ []) later (l.number + 1) f.1 rises.1)
  where
    at : (t : Bool) → first_fault (before ++ l ∷ []) later ≡ None → All IsModel (models_of later) → All IsModel (cond t (model_of l (body later) ∷ models_of later) (models_of later))
    at true more rest = All-cons IsModel (model_of l (body later)) (models_of later) (model-kept (before ++ l ∷ []) l later (l.number + 1) more rises.1) rest
    at false more rest = rest

-- a root
some-model : (lines : List Line) → list_any (λ l. is_model (kind l)) lines ≡ true → 0 < length (models_of lines)
unfolding models_of
some-model [] h = cc
some-model (l ∷ later) h = at (is_model (kind l)) h (some-model later)
  where
    at : (t : Bool) → (t || list_any (λ y. is_model (kind y)) later) ≡ true → (list_any (λ y. is_model (kind y)) later ≡ true → 0 < length (models_of later)) → 0 < length (cond t (model_of l (body later) ∷ models_of later) (models_of later))
    at true h more = omega arith
    at false h more = more h

no-fault : (first other : Option Fault) → or_else first other ≡ None → (first ≡ None) × (other ≡ None)
no-fault None other h = (refl, h)
no-fault (Some x) other h = cc

with-model : (lines : List Line) → none_of lines ≡ None → list_any (λ l. is_model (kind l)) lines ≡ true
with-model lines h = by (list_any (λ l. is_model (kind l)) lines) h
  where
    by : (t : Bool) → cond {A = Option Fault} t None (Some (record { line = 0; why = why.NotBlif })) ≡ None → t ≡ true
    by true h = refl
    by false h = cc

pub netlist-kept : (bytes : List ℕ) → fault bytes ≡ None → IsNetlist (net bytes)
netlist-kept bytes h =
    let f = no-fault (first_fault [] (logical bytes)) (none_of (logical bytes)) h in
    record {
      root = some-model (logical bytes) (with-model (logical bytes) f.1);
      names_differ = subst (λ ns. AllDiffer ns) (sym (names-models (logical bytes))) (names-differ [] (logical bytes) f.0 (λ i j x hi hj. cc));
      kept = models-kept [] (logical bytes) 1 f.0 (logical-rises bytes);
    }
