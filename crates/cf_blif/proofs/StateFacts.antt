-- What a reader knows of the lines before a line.
use Rattle.std.proofs.Common.{ℕ, ◌≡◌, ◌-◌, ◌==◌, ◌&&◌, ◌||◌, Bool, true, false, not, cond, List, [], ◌∷◌, ◌++◌, length, Option, Some, None, refl, ap, sym, subst, ◌∙◌, arith}
use Rattle.std.specs.Prelude.{codes, nat_le}
use Rattle.std.specs.List.{list_all}
use Rattle.std.specs.Str.{bytes_eq}
use Rattle.std.proofs.lemmas.Slice.Eq.{bytes_eq-Decides}
use Rattle.cf_circuits.specs.declared.faults.BlifWhy.{BlifWhy}
use Rattle.cf_circuits.specs.declared.faults.BlifWhy.TheVariants as why
use Rattle.cf_circuits.specs.declared.kinds.Kind.{Kind}
use Rattle.cf_circuits.specs.declared.kinds.Kind.TheVariants.{Model, Inputs, Outputs, Gate, Call, End, Ignored, Unknown, Cover}
use Rattle.cf_circuits.specs.LogicalLines.{Line}
use Rattle.cf_circuits.specs.Kinds.{kind, first_word, arguments, last_word, all_but_last, is_model, is_end, is_gate, is_cover}
use Rattle.cf_circuits.specs.Causes.{is_inside, model_names, last_dotted, first_behind, or_else, covers, is_cell, is_output, same_output, cover_cause, within, gate_cause, is_called, model_cause, cause_of}
use Rattle.cf_circuits.proofs.BeforeLaws.{inside-push, names-push, dotted-push, first-push}
use Rattle.cf_blif.specs.declared.reader.OpenGate.{OpenGate}
use Rattle.cf_blif.specs.declared.reader.Reader.{Reader}
use Rattle.cf_circuits.specs.declared.models.ModelDef.{ModelDef}
use Rattle.cf_blif.specs.Readers.{is_there, same_first, cover_cause_in, cause_in, next, or_first, initial, with_gate, on_some, opened_gate, with_cover, called}

-- the output of a gate's first cover line, as the reader keeps it
abbrev pub IsFirst : Option Line → Option Bool → Type 0
IsFirst None None = Unit {0}
IsFirst (Some l) (Some b) = last_word l.words ≡ cond b (codes "1") (codes "0")
IsFirst None (Some b) = ⊥
IsFirst (Some l) None = ⊥

pub record Opened (inside : Bool) (dotted first : Option Line) (g : OpenGate) : Type 0 where
  pub within : inside ≡ true
  pub line : Line
  pub is : dotted ≡ Some line
  pub gate : is_gate (kind line) ≡ true
  pub long : length (arguments line.words) - 1 ≡ length g.ins
  pub output : IsFirst first g.first

-- where no gate is open, no cover line may stand
abbrev pub IsGate : Bool → Option Line → Option Line → Option OpenGate → Type 0
IsGate inside dotted first None = (ws : List (List ℕ)) → within inside (cover_cause dotted first ws) ≡ Some why.NotBlif
IsGate inside dotted first (Some g) = Opened inside dotted first g

-- What the reader holds fits the lines before.
pub record Knows (before : List Line) (s : Reader) : Type 0 where
  pub inside : is_inside before ≡ is_there s.current
  pub names : model_names before ≡ s.names
  pub gate : IsGate (is_inside before) (last_dotted before) (first_behind before) s.gate

outputs_same : (first : Option Line) (b : Option Bool) (ws : List (List ℕ)) → IsFirst first b → same_output first ws ≡ same_first b ws
outputs_same None None ws h = refl
outputs_same None (Some b) ws h = absurd h
outputs_same (Some l) None ws h = absurd h
outputs_same (Some l) (Some b) ws h = ap (λ w. bytes_eq w (last_word ws)) h

cover_same : (inside : Bool) (dotted first : Option Line) (gate : Option OpenGate) (ws : List (List ℕ)) → IsGate inside dotted first gate
    → within inside (cover_cause dotted first ws) ≡ cover_cause_in gate ws
cover_same inside dotted first None ws h = h ws
cover_same inside dotted first (Some g) ws h =
    ap (λ b. within b (cover_cause dotted first ws)) h.within
    ∙ ap (λ o. cover_cause o first ws) h.is
    ∙ ap (λ b. cond (not b) (Some why.NotBlif) (cond (not (covers (length (arguments h.line.words) - 1) ws)) (Some why.BadCover) (cond (not (same_output first ws)) (Some why.MixedCover) None))) h.gate
    ∙ ap (λ n. cond (not (covers n ws)) (Some why.BadCover) (cond (not (same_output first ws)) (Some why.MixedCover) None)) h.long
    ∙ ap (λ b. cond (not (covers (length g.ins) ws)) (Some why.BadCover) (cond (not b) (Some why.MixedCover) None)) (outputs_same first g.first ws h.output)

-- the reader finds the cause that the lines before give
pub cause-same : (before : List Line) (s : Reader) → Knows before s → (k : Kind) (ws : List (List ℕ)) → cause_of k before ws ≡ cause_in s k ws
cause-same before s h Model ws = ap (λ ns. model_cause ns (arguments ws)) h.names
cause-same before s h Inputs ws = ap (λ b. within b None) h.inside
cause-same before s h Outputs ws = ap (λ b. within b None) h.inside
cause-same before s h Gate ws = ap (λ b. within b (gate_cause (arguments ws))) h.inside
cause-same before s h Call ws = ap (λ b. within b (cond (is_called (arguments ws)) None (Some why.NotBlif))) h.inside
cause-same before s h End ws = ap (λ b. within b (cond (length (arguments ws) == 0) None (Some why.NotBlif))) h.inside
cause-same before s h Ignored ws = refl
cause-same before s h Unknown ws = refl
cause-same before s h Cover ws = cover_same (is_inside before) (last_dotted before) (first_behind before) s.gate ws h.gate

not_cover : (b : Bool) → within b (Some why.NotBlif) ≡ Some why.NotBlif
not_cover true = refl
not_cover false = refl

-- a line that is no gate and no cover line leaves no gate open
shut : (inside : Bool) (dotted first : Option Line) (l : Line) (k : Kind) → kind l ≡ k → is_gate k ≡ false → dotted ≡ Some l
    → (ws : List (List ℕ)) → within inside (cover_cause dotted first ws) ≡ Some why.NotBlif
shut inside dotted first l k e apart is ws =
    ap (λ o. within inside (cover_cause o first ws)) is
    ∙ ap (λ b. within inside (cond (not b) (Some why.NotBlif) (cond (not (covers (length (arguments l.words) - 1) ws)) (Some why.BadCover) (cond (not (same_output first ws)) (Some why.MixedCover) None)))) (ap is_gate e ∙ apart)
    ∙ not_cover inside

is_open_by : (b : Bool) (o : Option BlifWhy) → within b o ≡ None → b ≡ true
is_open_by true o h = refl
is_open_by false o h = cc

front_long : (ws : List (List ℕ)) → length ws - 1 ≡ length (all_but_last ws)
front_long [] = refl
front_long (w ∷ []) = refl
front_long (w ∷ v ∷ ws) = let e = front_long (v ∷ ws) in omega (arith, e)

output_of : (w : List ℕ) → is_output w ≡ true → w ≡ cond (bytes_eq w (codes "1")) (codes "1") (codes "0")
output_of w h = by (bytes_eq w (codes "0")) (bytes_eq w (codes "1")) refl refl h
  where
    by : (s t : Bool) → bytes_eq w (codes "0") ≡ s → bytes_eq w (codes "1") ≡ t → (s || t) ≡ true → w ≡ cond t (codes "1") (codes "0")
    by s true p q h = (bytes_eq-Decides w (codes "1")).0 q
    by true false p q h = (bytes_eq-Decides w (codes "0")).0 p
    by false false p q h = cc

both : (x y : Bool) → (x && y) ≡ true → (x ≡ true) × (y ≡ true)
both true y h = (refl, h)
both false y h = cc

last_output : (n : ℕ) (ws : List (List ℕ)) → covers n ws ≡ true → is_output (last_word ws) ≡ true
last_output n [] h = cc
last_output n (out ∷ []) h = (both (n == 0) (is_output out) h).1
last_output n (cells ∷ out ∷ []) h =
    (both (list_all is_cell cells) (is_output out)
    (both (length cells == n) (list_all is_cell cells && is_output out)
    (both (nat_le 1 n) (length cells == n && (list_all is_cell cells && is_output out)) h).1).1).1
last_output n (cells ∷ out ∷ more ∷ rest) h = cc

good_cover : (g : OpenGate) (ws : List (List ℕ)) → cover_cause_in (Some g) ws ≡ None → covers (length g.ins) ws ≡ true
good_cover g ws h = by (covers (length g.ins) ws) h
  where
    by : (t : Bool) → cond (not t) (Some why.BadCover) (cond (not (same_first g.first ws)) (Some why.MixedCover) None) ≡ None → t ≡ true
    by true h = refl
    by false h = cc

first-next : (first : Option Line) (b : Option Bool) (l : Line) → IsFirst first b → is_output (last_word l.words) ≡ true
    → IsFirst (or_else first (Some l)) (or_first b (bytes_eq (last_word l.words) (codes "1")))
first-next None None l h out = output_of (last_word l.words) out
first-next None (Some b) l h out = absurd h
first-next (Some x) None l h out = absurd h
first-next (Some x) (Some b) l h out = h

no_cause : (c : BlifWhy) → Some c ≡ None → ⊥
no_cause c h = cc

inside-next : (before : List Line) (l : Line) (k : Kind) → kind l ≡ k → is_model k ≡ false → is_end k ≡ false → is_inside (before ++ l ∷ []) ≡ is_inside before
inside-next before l k e m n = inside-push before l ∙ ap (λ t. is_model t || (not (is_end t) && is_inside before)) e ∙ ap (λ t. t || (not (is_end k) && is_inside before)) m ∙ ap (λ t. not t && is_inside before) n

names-next : (before : List Line) (l : Line) (k : Kind) → kind l ≡ k → is_model k ≡ false → model_names (before ++ l ∷ []) ≡ model_names before
names-next before l k e m = names-push before l ∙ ap (λ t. model_names before ++ cond (is_model t) (first_word (arguments l.words) ∷ []) []) e ∙ ap (λ t. model_names before ++ cond t (first_word (arguments l.words) ∷ []) []) m ∙ nothing (model_names before)
  where
    nothing : {A : Type 0} (xs : List A) → xs ++ [] ≡ xs
    nothing [] = refl
    nothing (x ∷ xs) = ap (λ ys. x ∷ ys) (nothing xs)

dotted-next : (before : List Line) (l : Line) (k : Kind) → kind l ≡ k → is_cover k ≡ false → last_dotted (before ++ l ∷ []) ≡ Some l
dotted-next before l k e m = dotted-push before l ∙ ap (λ t. cond (is_cover t) (last_dotted before) (Some l)) e ∙ ap (λ t. cond t (last_dotted before) (Some l)) m

there-put : (m : Option ModelDef) (g : Option OpenGate) → is_there m ≡ is_there (with_gate m g)
there-put None g = refl
there-put (Some m) g = refl

there-on : (f : ModelDef → ModelDef) (m : Option ModelDef) → is_there m ≡ is_there (on_some f m)
there-on f None = refl
there-on f (Some m) = refl

-- a line within a model that opens no gate, and closes none but the last
knows-plain : (before : List Line) (s now : Reader) (l : Line) (k : Kind) → Knows before s → kind l ≡ k
    → is_model k ≡ false → is_end k ≡ false → is_cover k ≡ false → is_gate k ≡ false
    → is_there s.current ≡ is_there now.current → now.names ≡ s.names → now.gate ≡ None → Knows (before ++ l ∷ []) now
knows-plain before s now l k h e m n c g there names gate = record {
  inside = inside-next before l k e m n ∙ h.inside ∙ there;
  names = names-next before l k e m ∙ h.names ∙ sym names;
  gate = subst (λ o. IsGate (is_inside (before ++ l ∷ [])) (last_dotted (before ++ l ∷ [])) (first_behind (before ++ l ∷ [])) o) (sym gate)
      (shut (is_inside (before ++ l ∷ [])) (last_dotted (before ++ l ∷ [])) (first_behind (before ++ l ∷ [])) l k e g (dotted-next before l k e c));
}

knows-shut : (before : List Line) (l : Line) (k : Kind) → kind l ≡ k → is_cover k ≡ false → is_gate k ≡ false
    → IsGate (is_inside (before ++ l ∷ [])) (last_dotted (before ++ l ∷ [])) (first_behind (before ++ l ∷ [])) None
knows-shut before l k e c g = shut (is_inside (before ++ l ∷ [])) (last_dotted (before ++ l ∷ [])) (first_behind (before ++ l ∷ [])) l k e g (dotted-next before l k e c)

gate-opened : (before : List Line) (s : Reader) (l : Line) (n : ℕ) → Knows before s → kind l ≡ Gate → within (is_there s.current) (gate_cause (arguments l.words)) ≡ None
    → Opened (is_inside (before ++ l ∷ [])) (last_dotted (before ++ l ∷ [])) (first_behind (before ++ l ∷ [])) (opened_gate n (arguments l.words))
gate-opened before s l n h e ok = record {
  within = inside-next before l Gate e refl refl ∙ h.inside ∙ is_open_by (is_there s.current) (gate_cause (arguments l.words)) ok;
  line = l;
  is = dotted-next before l Gate e refl;
  gate = ap is_gate e;
  long = front_long (arguments l.words);
  output = subst (λ o. IsFirst o None) (sym (first-push before l ∙ ap (λ t. cond (is_cover t) (or_else (first_behind before) (Some l)) None) e)) tt;
}

gate-covered : (before : List Line) (l : Line) (g : OpenGate) → kind l ≡ Cover → Opened (is_inside before) (last_dotted before) (first_behind before) g
    → cover_cause_in (Some g) l.words ≡ None
    → Opened (is_inside (before ++ l ∷ [])) (last_dotted (before ++ l ∷ [])) (first_behind (before ++ l ∷ [])) (with_cover l.words g)
gate-covered before l g e o ok = record {
  within = inside-next before l Cover e refl refl ∙ o.within;
  line = o.line;
  is = dotted-push before l ∙ ap (λ t. cond (is_cover t) (last_dotted before) (Some l)) e ∙ o.is;
  gate = o.gate;
  long = o.long;
  output = subst (λ f. IsFirst f (or_first g.first (bytes_eq (last_word l.words) (codes "1")))) (sym (first-push before l ∙ ap (λ t. cond (is_cover t) (or_else (first_behind before) (Some l)) None) e))
      (first-next (first_behind before) g.first l o.output (last_output (length g.ins) l.words (good_cover g l.words ok)));
}

covered : (before : List Line) (s : Reader) (l : Line) (gate : Option OpenGate) → kind l ≡ Cover
    → IsGate (is_inside before) (last_dotted before) (first_behind before) gate → cover_cause_in gate l.words ≡ None
    → IsGate (is_inside (before ++ l ∷ [])) (last_dotted (before ++ l ∷ [])) (first_behind (before ++ l ∷ [])) (on_some (with_cover l.words) gate)
covered before s l None e h ok = absurd (no_cause why.NotBlif ok)
covered before s l (Some g) e h ok = gate-covered before l g e h ok

-- behind a line without a fault the reader knows that line too
pub knows-next : (before : List Line) (s : Reader) (l : Line) (n : ℕ) (k : Kind) → Knows before s → kind l ≡ k → cause_in s k l.words ≡ None → Knows (before ++ l ∷ []) (next s k n l.words)
knows-next before s l n Model h e ok = record {
  inside = inside-push before l ∙ ap (λ t. is_model t || (not (is_end t) && is_inside before)) e;
  names = names-push before l ∙ ap (λ t. model_names before ++ cond (is_model t) (first_word (arguments l.words) ∷ []) []) e ∙ ap (λ ns. ns ++ first_word (arguments l.words) ∷ []) h.names;
  gate = knows-shut before l Model e refl refl;
}
knows-next before s l n Inputs h e ok = knows-plain before s (next s Inputs n l.words) l Inputs h e refl refl refl refl (there-put s.current s.gate ∙ there-on (λ m. record m { inputs = m.inputs ++ arguments l.words }) (with_gate s.current s.gate)) refl refl
knows-next before s l n Outputs h e ok = knows-plain before s (next s Outputs n l.words) l Outputs h e refl refl refl refl (there-put s.current s.gate ∙ there-on (λ m. record m { outputs = m.outputs ++ arguments l.words }) (with_gate s.current s.gate)) refl refl
knows-next before s l n Gate h e ok = record {
  inside = inside-next before l Gate e refl refl ∙ h.inside ∙ there-put s.current s.gate;
  names = names-next before l Gate e refl ∙ h.names;
  gate = gate-opened before s l n h e ok;
}
knows-next before s l n Call h e ok = knows-plain before s (next s Call n l.words) l Call h e refl refl refl refl (there-put s.current s.gate ∙ there-on (λ m. record m { calls = m.calls ++ called n (arguments l.words) ∷ [] }) (with_gate s.current s.gate)) refl refl
knows-next before s l n End h e ok = record {
  inside = inside-push before l ∙ ap (λ t. is_model t || (not (is_end t) && is_inside before)) e;
  names = names-next before l End e refl ∙ h.names;
  gate = knows-shut before l End e refl refl;
}
knows-next before s l n Ignored h e ok = knows-plain before s (next s Ignored n l.words) l Ignored h e refl refl refl refl (there-put s.current s.gate) refl refl
knows-next before s l n Unknown h e ok = absurd (no_cause why.Unsupported ok)
knows-next before s l n Cover h e ok = record {
  inside = inside-next before l Cover e refl refl ∙ h.inside;
  names = names-next before l Cover e refl ∙ h.names;
  gate = covered before s l s.gate e h.gate ok;
}

-- before the first line
pub knows-nothing : Knows [] initial
knows-nothing = record { inside = refl; names = refl; gate = λ ws. refl }
