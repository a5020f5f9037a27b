-- Calls over numbers, and blocks one after another.
use Rattle.std.proofs.Common.{ℕ, suc, ◌≡◌, ◌+◌, ◌<◌, ◌||◌, Bool, true, false, cond, List, [], ◌∷◌, ◌++◌, length, drop, get_or, map, Option, Some, None, refl, sym, ◌∙◌, ap, arith, append_assoc}
use Rattle.std.specs.Prelude.{All, MatchOption}
use Rattle.std.specs.Option.{unwrap_or}
use Rattle.std.specs.Str.{bytes_eq}
use Rattle.std.proofs.lemmas.Option.{same_Some}
use Rattle.std.proofs.lemmas.List.{append-nil, drop_more}
use Rattle.cf_model.specs.Renumbering.{place}
use Rattle.cf_names.specs.Numbers.{number_of}
use Rattle.cf_circuits.specs.declared.pins.Pin.{Pin}
use Rattle.cf_circuits.specs.declared.pins.Call as named
use Rattle.cf_circuits.specs.declared.models.ModelDef.{ModelDef}
use Rattle.cf_circuits.specs.Kept.{IsCall, IsModel}
use Rattle.cf_hierarchy.specs.declared.blocks.Call.{Call}
use Rattle.cf_hierarchy.specs.declared.blocks.Driver.{Driver}
use Rattle.cf_hierarchy.specs.declared.blocks.Driver.TheVariants.{Formal}
use Rattle.cf_circuits.specs.Links.{callee, is_among, is_output, names_of, no_model}
use Rattle.cf_links.specs.Directories.{IsPlace, model_at}
use Rattle.cf_links.proofs.DirectoriesPlaces.{place-callee, place-or-end}
use Rattle.cf_circuits.specs.Expansions.{actual_for}
use Rattle.cf_blocks.specs.Numbering.{actual_of, backs_of, call_of, formals_from, number}

-- the formals of pins
abbrev formals-of : List Pin → List (List ℕ)
formals-of pins = map (λ p. p.formal) pins

-- the actual of the formal at a place
pub actual-found : (pins : List Pin) (name : List ℕ) (k : ℕ) (p : Pin) → number_of (formals-of pins) name ≡ Some k
    → p ≡ get_or pins k p → p.actual ≡ actual_of pins name
actual-found [] name k p is here = cc
actual-found (q ∷ pins) name k p is here =
    by (bytes_eq q.formal name) k is here (is_among (formals-of pins) name) refl (λ j. actual-found pins name j p)
  where
    at : ℕ
    at = place bytes_eq (formals-of pins) name

    by : (b : Bool) (k : ℕ) → cond (b || is_among (formals-of pins) name) (Some (cond b 0 (suc at))) None ≡ Some k
        → p ≡ get_or (q ∷ pins) k p → (t : Bool) → is_among (formals-of pins) name ≡ t
        → ((j : ℕ) → number_of (formals-of pins) name ≡ Some j → p ≡ get_or pins j p → p.actual ≡ actual_of pins name)
        → p.actual ≡ unwrap_or (cond b (Some q.actual) (actual_for pins name)) []
    by true k is here t e rest =
        let first : 0 ≡ k = same_Some 0 k is in
        ap (λ (r : Pin). r.actual) (here ∙ ap (λ n. get_or (q ∷ pins) n p) (sym first))
    by false k is here true e rest =
        let last : suc at ≡ k = same_Some (suc at) k (ap (λ b. cond b (Some (suc at)) None) (sym e) ∙ is) in
        rest at (ap (λ b. cond b (Some at) None) e) (here ∙ ap (λ n. get_or (q ∷ pins) n p) (sym last))
    by false k is here false e rest =
        let no : None ≡ Some k = ap (λ b. cond b (Some (suc at)) None) (sym e) ∙ is in cc

-- a formal that isn't there
pub actual-missing : (pins : List Pin) (name : List ℕ) → number_of (formals-of pins) name ≡ None → actual_of pins name ≡ []
actual-missing [] name none = refl
actual-missing (q ∷ pins) name none =
    by (bytes_eq q.formal name) none (is_among (formals-of pins) name) refl (actual-missing pins name)
  where
    at : ℕ
    at = place bytes_eq (formals-of pins) name

    by : (b : Bool) → cond (b || is_among (formals-of pins) name) (Some (cond b 0 (suc at))) None ≡ None
        → (t : Bool) → is_among (formals-of pins) name ≡ t
        → (number_of (formals-of pins) name ≡ None → actual_of pins name ≡ [])
        → unwrap_or (cond b (Some q.actual) (actual_for pins name)) [] ≡ []
    by true none t e rest = cc
    by false none true e rest =
        let no : Some (suc at) ≡ None = ap (λ b. cond b (Some (suc at)) None) (sym e) ∙ none in cc
    by false none false e rest = rest (ap (λ b. cond b (Some at) None) e)

-- a call from its parts
abbrev a-call : ℕ → List ℕ → Call
a-call b xs = record { block = b; actuals = xs }

-- where a model isn't found, it isn't there
pub not-found : (models : List ModelDef) (name : List ℕ) (o : Option ℕ)
    → MatchOption o (is_among (names_of models) name ≡ false) (IsPlace models name) → ((x : ℕ) → o ≡ Some x → ⊥)
    → is_among (names_of models) name ≡ false
not-found models name None lacks none = lacks
not-found models name (Some x) is none = absurd (none x refl)

-- the call of a model that isn't there
pub uncalled : (models : List ModelDef) (m : ModelDef) (c : named.Call) (end : ℕ) (actuals : List ℕ)
    → is_among (names_of models) c.model ≡ false → end ≡ length models → actuals ≡ []
    → a-call end actuals ≡ call_of models m c
uncalled models m c end actuals lacks is none =
    ap (λ b. a-call b actuals) (place-or-end models c.model None end is lacks)
    ∙ ap (a-call (place bytes_eq (names_of models) c.model))
    (none ∙ ap (λ (n : ModelDef). map (λ name. number models m (actual_of c.pins name)) n.inputs) (place-callee models c None lacks))

no-backs : (f : List ℕ → ℕ) (j : ℕ) (pins : List Pin) → backs_of (is_output no_model) f j pins ≡ []
no-backs f j [] = refl
no-backs f j (p ∷ pins) = no-backs f j pins

-- a call of a model that isn't found drives nothing
pub nothing-driven : (models : List ModelDef) (c : named.Call) (at : Option ℕ) (j : ℕ) (drivers : List Driver)
    → model_at models at ≡ callee models c → ((x : ℕ) → at ≡ Some x → ⊥)
    → drivers ≡ drivers ++ backs_of (is_output (callee models c)) (number models (callee models c)) j c.pins
nothing-driven models c None j drivers is none =
    sym (append-nil drivers)
    ∙ ap (λ ds. drivers ++ ds) (sym (no-backs (number models no_model) j c.pins))
    ∙ ap (λ m. drivers ++ backs_of (is_output m) (number models m) j c.pins) is
nothing-driven models c (Some at) j drivers is none = absurd (none at refl)

-- one more input
pub formals-next : (inputs : List (List ℕ)) (drivers now end : List Driver) (i : ℕ)
    → drivers ++ formals_from i (drop i inputs) ≡ end → i < length inputs → now ≡ drivers ++ Formal i ∷ []
    → now ++ formals_from (i + 1) (drop (i + 1) inputs) ≡ end
formals-next inputs drivers now end i before within pushed =
    let left : List (List ℕ) = drop (i + 1) inputs in
    let one : i + 1 ≡ suc i = omega arith in
    ap (λ ds. ds ++ formals_from (i + 1) left) pushed
    ∙ append_assoc drivers (Formal i ∷ []) (formals_from (i + 1) left)
    ∙ ap (λ k. drivers ++ Formal i ∷ formals_from k left) one
    ∙ ap (λ ns. drivers ++ formals_from i ns) (sym (drop_more inputs i [] within))
    ∙ before

-- the calls of a model of a netlist
pub calls-kept : (models : List ModelDef) (i : ℕ) (d : ModelDef) → All IsModel models → i < length models → All IsCall (get_or models i d).calls
calls-kept models i d kept within = (kept i d within).calls
