-- What names keep where no fault of the kinds 1 to 5 stands.
use Rattle.std.proofs.Common.{ℕ, zero, suc, ◌≡◌, ◌+◌, ◌<◌, ◌≤◌, ◌||◌, ◌&&◌, not, Bool, true, false, cond, List, [], ◌∷◌, ◌++◌, length, map, Option, Some, None, refl, sym, ◌∙◌, ap, subst, arith}
use Rattle.std.specs.Prelude.{All}
use Rattle.std.specs.List.{slice_get, list_any}
use Rattle.std.specs.Option.{option_map}
use Rattle.std.specs.Str.{bytes_eq}
use Rattle.std.proofs.lemmas.Bool.{false≢true, or_left, or_right}
use Rattle.std.proofs.lemmas.Option.{same_Some}
use Rattle.std.proofs.lemmas.Slice.Eq.{bytes_eq-Decides}
use Rattle.cf_model.specs.Renumbering.{place}
use Rattle.cf_circuits.specs.declared.gates.Gate.{Gate}
use Rattle.cf_circuits.specs.declared.pins.Pin.{Pin}
use Rattle.cf_circuits.specs.declared.pins.Call.{Call}
use Rattle.cf_circuits.specs.declared.models.ModelDef.{ModelDef}
use Rattle.cf_circuits.specs.declared.faults.LinkFault.{LinkFault}
use Rattle.cf_circuits.specs.declared.faults.LinkFault.TheVariants.{NoModel, NoFormal, Unconnected, TwiceDriven, Undriven}
use Rattle.cf_circuits.specs.Parts.{ACall}
use Rattle.cf_circuits.specs.Links.{first_of, gathered, is_among, names_of, callee, is_input, is_output, is_formal, formals, missing_model, missing_formal, missing_pin, actuals, uses, driven, used, twice_driven, undriven, in_calls, in_models}
use Rattle.cf_circuits.specs.Expansions.{signals, actual_for}
use Rattle.cf_circuits.specs.LinkFaults.{fault_of_names}
use Rattle.cf_hierarchy.proofs.SpreadLaws.{all_get}
use Rattle.cf_links.proofs.CallsRings.{all-none}
use Rattle.cf_flat.proofs.CountLaws.{hits, is, hits-driven, hits-used, any-hits, hits-any, stands-once, none-lacks, none-fails, none-gathered}

first-none : {A : Type 0} (o : Option A) (later : List (Option A)) → first_of (o ∷ later) ≡ None → (o ≡ None) × (first_of later ≡ None)
first-none None later h = (refl, h)
first-none (Some x) later h = cc

map-none : {A B : Type 0} (f : A → B) (o : Option A) → option_map f o ≡ None → o ≡ None
map-none f None h = refl
map-none f (Some x) h = cc

-- None of the kinds 1 to 5 stands.
pub record NoKinds (models : List ModelDef) : Type 0 where
  pub models_there : in_models (in_calls (missing_model models)) models ≡ None
  pub formals_there : in_models (in_calls (missing_formal models)) models ≡ None
  pub pins_there : in_models (in_calls (missing_pin models)) models ≡ None
  pub once : in_models (twice_driven models) models ≡ None
  pub driven : in_models (undriven models) models ≡ None

pub no-kinds : (models : List ModelDef) → fault_of_names models ≡ None → NoKinds models
no-kinds models none =
    let o1 = option_map NoModel (in_models (in_calls (missing_model models)) models) in
    let o2 = option_map NoFormal (in_models (in_calls (missing_formal models)) models) in
    let o3 = option_map Unconnected (in_models (in_calls (missing_pin models)) models) in
    let o4 = option_map TwiceDriven (in_models (twice_driven models) models) in
    let o5 = option_map Undriven (in_models (undriven models) models) in
    let a = first-none o1 (o2 ∷ o3 ∷ o4 ∷ o5 ∷ []) none in
    let b = first-none o2 (o3 ∷ o4 ∷ o5 ∷ []) a.1 in
    let c = first-none o3 (o4 ∷ o5 ∷ []) b.1 in
    let d = first-none o4 (o5 ∷ []) c.1 in
    let e = first-none o5 [] d.1 in
    record {
      models_there = map-none NoModel (in_models (in_calls (missing_model models)) models) a.0;
      formals_there = map-none NoFormal (in_models (in_calls (missing_formal models)) models) b.0;
      pins_there = map-none Unconnected (in_models (in_calls (missing_pin models)) models) c.0;
      once = map-none TwiceDriven (in_models (twice_driven models) models) d.0;
      driven = map-none Undriven (in_models (undriven models) models) e.0;
    }

-- an item has no answer where the list has none
get-none : {A B : Type 0} (f : A → Option B) (xs : List A) (k : ℕ) (x : A) → first_of (map f xs) ≡ None
    → slice_get xs k ≡ Some x → f x ≡ None
get-none f xs k x none h = all_get (λ x. f x ≡ None) xs k x (all-none f xs none) h

test-none : (b : Bool) (name : List ℕ) → cond b None (Some name) ≡ None → b ≡ true
test-none true name h = refl
test-none false name h = cc

-- the name of a model that is there has a place
known-place : (names : List (List ℕ)) (name : List ℕ) → is_among names name ≡ true
    → place bytes_eq names name < length names
known-place [] name h = cc
known-place (other ∷ names) name h = by (bytes_eq other name) h (known-place names name)
  where
    by : (b : Bool) → (b || is_among names name) ≡ true
        → (is_among names name ≡ true → place bytes_eq names name < length names)
        → cond b 0 (suc (place bytes_eq names name)) < suc (length names)
    by true h rest = omega arith
    by false h rest = let later = rest h in omega (arith, later)

-- a formal that has a pin has an actual
pinned : (pins : List Pin) (name : List ℕ) → list_any (λ other. bytes_eq other name) (map (λ p. p.formal) pins) ≡ true
    → (a : List ℕ) × (actual_for pins name ≡ Some a)
pinned [] name h = absurd (false≢true h)
pinned (p ∷ pins) name h = by (bytes_eq p.formal name) h (pinned pins name)
  where
    by : (b : Bool) → (b || list_any (λ other. bytes_eq other name) (map (λ p. p.formal) pins)) ≡ true
        → (list_any (λ other. bytes_eq other name) (map (λ p. p.formal) pins) ≡ true → (a : List ℕ) × (actual_for pins name ≡ Some a))
        → (a : List ℕ) × (cond b (Some p.actual) (actual_for pins name) ≡ Some a)
    by true h rest = (p.actual, refl)
    by false h rest = rest h

-- the actual of a formal that passes a test is one of the actuals of those
actual-hits : (test hit : List ℕ → Bool) (pins : List Pin) (name a : List ℕ) → actual_for pins name ≡ Some a → test name ≡ true
    → hits (λ n. not (hit n)) (actuals test pins) ≡ 0 → hit a ≡ true
actual-hits test hit [] name a h passes zeros = cc
actual-hits test hit (p ∷ pins) name a h passes zeros =
    by (bytes_eq p.formal name) refl h (λ h zeros. actual-hits test hit pins name a h passes zeros)
  where
    later : (b : Bool) → hits (λ n. not (hit n)) (cond b (p.actual ∷ actuals test pins) (actuals test pins)) ≡ 0
        → hits (λ n. not (hit n)) (actuals test pins) ≡ 0
    later true zeros = omega (arith, zeros)
    later false zeros = zeros

    here : (b : Bool) → b ≡ true → hits (λ n. not (hit n)) (cond b (p.actual ∷ actuals test pins) (actuals test pins)) ≡ 0
        → hit p.actual ≡ true
    here true e zeros = none-fails hit (p.actual ∷ actuals test pins) zeros 0 p.actual refl
    here false e zeros = absurd (false≢true e)

    by : (b : Bool) → bytes_eq p.formal name ≡ b → cond b (Some p.actual) (actual_for pins name) ≡ Some a
        → (actual_for pins name ≡ Some a → hits (λ n. not (hit n)) (actuals test pins) ≡ 0 → hit a ≡ true) → hit a ≡ true
    by true e h rest =
        ap hit (sym (same_Some p.actual a h))
        ∙ here (test p.formal) (ap test ((bytes_eq-Decides p.formal name).0 e) ∙ passes) zeros
    by false e h rest = rest h (later (test p.formal) zeros)

-- What the names of a model keep.
pub record Linked (models : List ModelDef) (m : ModelDef) : Type 0 where
  pub called : (j : ℕ) (c : Call) → slice_get m.calls j ≡ Some c → is_among (names_of models) c.model ≡ true
  pub placed : (j : ℕ) (c : Call) → slice_get m.calls j ≡ Some c → place bytes_eq (names_of models) c.model < length (names_of models)
  pub pinned : (j i : ℕ) (c : Call) (name : List ℕ) → slice_get m.calls j ≡ Some c
      → slice_get (callee models c).inputs i ≡ Some name → (a : List ℕ) × (actual_for c.pins name ≡ Some a)
  pub once : (name : List ℕ) → hits (is name) (signals models m) ≤ 1
  pub ins : (j i : ℕ) (g : Gate) (name : List ℕ) → slice_get m.gates j ≡ Some g → slice_get g.ins i ≡ Some name
      → is_among (signals models m) name ≡ true
  pub actuals : (j : ℕ) (c : Call) (name a : List ℕ) → slice_get m.calls j ≡ Some c → actual_for c.pins name ≡ Some a
      → is_input (callee models c) name ≡ true → is_among (signals models m) a ≡ true
  pub outputs : (i : ℕ) (name : List ℕ) → slice_get m.outputs i ≡ Some name → is_among (signals models m) name ≡ true

-- a signal that is driven is one of the signals
among-signals : (models : List ModelDef) (m : ModelDef) (name : List ℕ) → is_among (driven models m) name ≡ true
    → is_among (signals models m) name ≡ true
among-signals models m name h =
    let some = any-hits (is name) (driven models m) h in
    let same = hits-driven (is name) models m in
    hits-any (is name) (signals models m) (omega (arith, some, same))

pub linked : (models : List ModelDef) (k : ℕ) (m : ModelDef) → NoKinds models → slice_get models k ≡ Some m → Linked models m
linked models k m none h =
    let one = get-none (in_calls (missing_model models)) models k m none.models_there h in
    let three = get-none (in_calls (missing_pin models)) models k m none.pins_there h in
    let four = get-none (twice_driven models) models k m none.once h in
    let five = get-none (undriven models) models k m none.driven h in
    let known : List ℕ → Bool = is_among (driven models m) in
    let fails : List ℕ → Bool = λ name. not (known name) in
    let zeros : hits fails (used models m) ≡ 0 = none-lacks known (used models m) five in
    let split = hits-used fails models m in
    let there : (j : ℕ) (c : Call) → slice_get m.calls j ≡ Some c → is_among (names_of models) c.model ≡ true =
    λ j c e. test-none (is_among (names_of models) c.model) c.model (get-none (missing_model models) m.calls j c one e) in
    record {
      called = there;
      placed = λ j c e. known-place (names_of models) c.model (there j c e);
      pinned = λ j i c name e at.
          let lacks = get-none (missing_pin models) m.calls j c three e in
          let pin = get-none (λ i. cond (is_among (formals c) i) None (Some i)) (callee models c).inputs i name lacks at in
          pinned c.pins name (test-none (is_among (formals c) name) name pin);
      once = λ name.
          let all = (stands-once [] (driven models m) four name).once in
          let same = hits-driven (is name) models m in
          omega (arith, all, same);
      ins = λ j i g name e at.
          let gates = none-gathered fails (λ g. g.ins) m.gates (omega (arith, zeros, split)) j g e in
          among-signals models m name (none-fails known g.ins gates i name at);
      actuals = λ j c name a e at is_it.
          let calls = none-gathered fails (λ c. uses models (ACall c)) m.calls (omega (arith, zeros, split)) j c e in
          among-signals models m a (actual-hits (is_input (callee models c)) known c.pins name a at is_it calls);
      outputs = λ i name at.
          among-signals models m name (none-fails known m.outputs (omega (arith, zeros, split)) i name at);
    }
