-- The drivers of a block fit the sources of its model's signals, one by one.
use Rattle.std.proofs.Common.{ℕ, zero, suc, ◌≡◌, ◌+◌, ◌<◌, ◌≤◌, Bool, true, false, cond, List, [], ◌∷◌, ◌++◌, length, map, Option, Some, None, refl, sym, ◌∙◌, ap, subst, arith}
use Rattle.std.specs.List.{slice_get}
use Rattle.std.specs.Option.{option_map}
use Rattle.std.specs.Str.{bytes_eq}
use Rattle.std.proofs.lemmas.List.{length-map, map-append}
use Rattle.std.proofs.lemmas.Option.{same_Some, slice_get-map}
use Rattle.std.proofs.lemmas.Slice.Eq.{bytes_eq-Decides}
use Rattle.cf_circuits.specs.declared.gates.Gate as written
use Rattle.cf_circuits.specs.declared.pins.Pin.{Pin}
use Rattle.cf_circuits.specs.declared.pins.Call as named
use Rattle.cf_circuits.specs.declared.models.ModelDef.{ModelDef}
use Rattle.cf_circuits.specs.Links.{gathered, is_among, callee, is_output, actuals}
use Rattle.cf_circuits.specs.Expansions.{Source, AnInput, AGate, AnOutput, Drive, by_pins, by_calls, drives_of, signals, source_in, source}
use Rattle.cf_hierarchy.specs.declared.blocks.Driver.{Driver}
use Rattle.cf_hierarchy.specs.declared.blocks.Driver.TheVariants.{Formal, Made, Back}
use Rattle.cf_blocks.specs.Numbering.{number, formals_from, gate_of, made_from, backs_of, backs_from, drivers_of, covers_of}
use Rattle.cf_flat.proofs.CountLaws.{one_if, hits, is, get-hits, known-at}
use Rattle.cf_flat.proofs.NameFacts.{Linked}

-- The driver of signal i has the signal's source.
abbrev pub Suits : List ModelDef → ModelDef → ℕ → Driver → List ℕ → Source → Type 0
Suits models m i d name AnInput = (d ≡ Formal i) × (slice_get m.inputs i ≡ Some name)
Suits models m i d name (AGate g) =
    (j : ℕ) × (cover : ℕ) × (d ≡ Made (gate_of models m cover g)) × (slice_get (covers_of models) cover ≡ Some g.cover)
    × (slice_get m.gates j ≡ Some g)
Suits models m i d name (AnOutput j formal) =
    (c : named.Call) × (d ≡ Back j (number models (callee models c) formal)) × (slice_get m.calls j ≡ Some c)
    × (is_output (callee models c) formal ≡ true)

-- They do one by one, counted from i.
abbrev pub Align : List ModelDef → ModelDef → ℕ → List Driver → List Drive → Type 0
Align models m i [] [] = Unit {0}
Align models m i [] (r ∷ rs) = ⊥
Align models m i (d ∷ ds) [] = ⊥
Align models m i (d ∷ ds) (r ∷ rs) = Suits models m i d r.signal r.by × Align models m (suc i) ds rs

align-append : (models : List ModelDef) (m : ModelDef) (i : ℕ) (ds es : List Driver) (rs ss : List Drive)
    → Align models m i ds rs → Align models m (i + length rs) es ss → Align models m i (ds ++ es) (rs ++ ss)
align-append models m i [] es [] ss h k =
    let z : i + 0 ≡ i = omega arith in subst (λ n. Align models m n es ss) z k
align-append models m i [] es (r ∷ rs) ss h k = absurd h
align-append models m i (d ∷ ds) es [] ss h k = absurd h
align-append models m i (d ∷ ds) es (r ∷ rs) ss h k =
    let z : i + suc (length rs) ≡ suc i + length rs = omega arith in
    (h.0, align-append models m (suc i) ds es rs ss h.1 (subst (λ n. Align models m n es ss) z k))

pub align-get : (models : List ModelDef) (m : ModelDef) (i : ℕ) (ds : List Driver) (rs : List Drive) (k : ℕ) (r : Drive)
    → Align models m i ds rs → slice_get rs k ≡ Some r
    → (d : Driver) × (slice_get ds k ≡ Some d) × Suits models m (i + k) d r.signal r.by
align-get models m i [] [] k r h at = cc
align-get models m i [] (s ∷ rs) k r h at = absurd h
align-get models m i (d ∷ ds) [] k r h at = absurd h
align-get models m i (d ∷ ds) (s ∷ rs) zero r h at =
    let z : i ≡ i + 0 = omega arith in (
      d,
      refl,
      subst (λ (r : Drive). Suits models m (i + 0) d r.signal r.by) (same_Some s r at)
          (subst (λ n. Suits models m n d s.signal s.by) z h.0),
    )
align-get models m i (d ∷ ds) (s ∷ rs) (suc k) r h at =
    let later = align-get models m (suc i) ds rs k r h.1 at in
    let z : suc i + k ≡ i + suc k = omega arith in
    (later.0, later.1, subst (λ n. Suits models m n later.0 r.signal r.by) z later.2)

pub align-back : (models : List ModelDef) (m : ModelDef) (i : ℕ) (ds : List Driver) (rs : List Drive) (k : ℕ) (d : Driver)
    → Align models m i ds rs → slice_get ds k ≡ Some d
    → (r : Drive) × (slice_get rs k ≡ Some r) × Suits models m (i + k) d r.signal r.by
align-back models m i [] [] k d h at = cc
align-back models m i [] (s ∷ rs) k d h at = absurd h
align-back models m i (e ∷ ds) [] k d h at = absurd h
align-back models m i (e ∷ ds) (s ∷ rs) zero d h at =
    let z : i ≡ i + 0 = omega arith in (
      s,
      refl,
      subst (λ (d : Driver). Suits models m (i + 0) d s.signal s.by) (same_Some e d at)
          (subst (λ n. Suits models m n e s.signal s.by) z h.0),
    )
align-back models m i (e ∷ ds) (s ∷ rs) (suc k) d h at =
    let later = align-back models m (suc i) ds rs k d h.1 at in
    let z : suc i + k ≡ i + suc k = omega arith in
    (later.0, later.1, subst (λ n. Suits models m n d later.0.signal later.0.by) z later.2)

pub align-length : (models : List ModelDef) (m : ModelDef) (i : ℕ) (ds : List Driver) (rs : List Drive)
    → Align models m i ds rs → length ds ≡ length rs
align-length models m i [] [] h = refl
align-length models m i [] (s ∷ rs) h = absurd h
align-length models m i (e ∷ ds) [] h = absurd h
align-length models m i (e ∷ ds) (s ∷ rs) h = ap suc (align-length models m (suc i) ds rs h.1)

-- the items of a list are those of another from a place on
abbrev From : {A : Type 0} → List A → ℕ → List A → Type 0
From {A} all i xs = (k : ℕ) (x : A) → slice_get xs k ≡ Some x → slice_get all (i + k) ≡ Some x

from-later : {A : Type 0} (all : List A) (i : ℕ) (x : A) (xs : List A) → From all i (x ∷ xs) → From all (suc i) xs
from-later all i x xs h k y e =
    let z : suc i + k ≡ i + suc k = omega arith in ap (slice_get all) z ∙ h (suc k) y e

from-here : {A : Type 0} (all : List A) (i : ℕ) (x : A) (xs : List A) → From all i (x ∷ xs) → slice_get all i ≡ Some x
from-here all i x xs h = let z : i ≡ i + 0 = omega arith in ap (slice_get all) z ∙ h 0 x refl

from-all : {A : Type 0} (xs : List A) → From xs 0 xs
from-all xs k x e = let z : 0 + k ≡ k = omega arith in ap (slice_get xs) z ∙ e

align-inputs : (models : List ModelDef) (m : ModelDef) (i : ℕ) (names : List (List ℕ)) → From m.inputs i names
    → Align models m i (formals_from i names) (map (λ name. record { signal = name; by = AnInput }) names)
align-inputs models m i [] h = tt
align-inputs models m i (name ∷ names) h =
    ((refl, from-here m.inputs i name names h), align-inputs models m (suc i) names (from-later m.inputs i name names h))

align-gates : (models : List ModelDef) (m : ModelDef) (i j cover : ℕ) (gates : List written.Gate) → From m.gates j gates
    → From (covers_of models) cover (map (λ g. g.cover) gates)
    → Align models m i (made_from models m cover gates) (map (λ g. record { signal = g.out; by = AGate g }) gates)
align-gates models m i j cover [] h k = tt
align-gates models m i j cover (g ∷ gates) h k = (
  (j, cover, refl, from-here (covers_of models) cover g.cover (map (λ (g : written.Gate). g.cover) gates) k, from-here m.gates j g gates h),
  align-gates models m (suc i) (suc j) (suc cover) gates (from-later m.gates j g gates h)
      (from-later (covers_of models) cover g.cover (map (λ (g : written.Gate). g.cover) gates) k),
)

align-pins : (models : List ModelDef) (m : ModelDef) (i j : ℕ) (c : named.Call) (pins : List Pin) → slice_get m.calls j ≡ Some c
    → Align models m i (backs_of (is_output (callee models c)) (number models (callee models c)) j pins)
    (by_pins (is_output (callee models c)) j pins)
align-pins models m i j c [] h = tt
align-pins models m i j c (p ∷ pins) h =
    by (is_output (callee models c) p.formal) refl (λ n. align-pins models m n j c pins h)
  where
    by : (b : Bool) → is_output (callee models c) p.formal ≡ b
        → ((n : ℕ) → Align models m n (backs_of (is_output (callee models c)) (number models (callee models c)) j pins)
        (by_pins (is_output (callee models c)) j pins))
        → Align models m i
        (cond b (Back j (number models (callee models c) p.formal) ∷ backs_of (is_output (callee models c)) (number models (callee models c)) j pins)
        (backs_of (is_output (callee models c)) (number models (callee models c)) j pins))
        (cond b (record { signal = p.actual; by = AnOutput j p.formal } ∷ by_pins (is_output (callee models c)) j pins)
        (by_pins (is_output (callee models c)) j pins))
    by true e rest = ((c, refl, h, e), rest (suc i))
    by false e rest = rest i

align-calls : (models : List ModelDef) (m : ModelDef) (i j : ℕ) (calls : List named.Call) → From m.calls j calls
    → Align models m i (backs_from models j calls) (by_calls models j calls)
align-calls models m i j [] h = tt
align-calls models m i j (c ∷ calls) h =
    align-append models m i
    (backs_of (is_output (callee models c)) (number models (callee models c)) j c.pins) (backs_from models (suc j) calls)
    (by_pins (is_output (callee models c)) j c.pins) (by_calls models (suc j) calls)
    (align-pins models m i j c c.pins (from-here m.calls j c calls h))
    (align-calls models m (i + length (by_pins (is_output (callee models c)) j c.pins)) (suc j) calls
    (from-later m.calls j c calls h))

-- the drivers of a block fit the sources of its model's signals
pub aligned : (models : List ModelDef) (m : ModelDef) (cover : ℕ)
    → ((j : ℕ) (x : _) → slice_get (map (λ (g : written.Gate). g.cover) m.gates) j ≡ Some x → slice_get (covers_of models) (cover + j) ≡ Some x)
    → Align models m 0 (drivers_of models cover m) (drives_of models m)
aligned models m cover covers =
    let ins = map (λ (name : List ℕ). record { signal = name; by = AnInput }) m.inputs in
    let gates = map (λ (g : written.Gate). record { signal = g.out; by = AGate g }) m.gates in
    align-append models m 0 (formals_from 0 m.inputs) (made_from models m cover m.gates ++ backs_from models 0 m.calls)
    ins (gates ++ by_calls models 0 m.calls)
    (align-inputs models m 0 m.inputs (from-all m.inputs))
    (align-append models m (0 + length ins) (made_from models m cover m.gates) (backs_from models 0 m.calls)
    gates (by_calls models 0 m.calls)
    (align-gates models m (0 + length ins) 0 cover m.gates (from-all m.gates) covers)
    (align-calls models m (0 + length ins + length gates) 0 m.calls (from-all m.calls)))

pub map-map : {A B C : Type 0} (f : A → B) (g : B → C) (xs : List A) → map g (map f xs) ≡ map (λ x. g (f x)) xs
map-map f g [] = refl
map-map f g (x ∷ xs) = ap (λ ys. g (f x) ∷ ys) (map-map f g xs)

pins-signals : (test : List ℕ → Bool) (j : ℕ) (pins : List Pin) → map (λ (d : Drive). d.signal) (by_pins test j pins) ≡ actuals test pins
pins-signals test j [] = refl
pins-signals test j (p ∷ pins) = by (test p.formal) (pins-signals test j pins)
  where
    by : (b : Bool) → map (λ (d : Drive). d.signal) (by_pins test j pins) ≡ actuals test pins
        → map (λ (d : Drive). d.signal) (cond b (record { signal = p.actual; by = AnOutput j p.formal } ∷ by_pins test j pins) (by_pins test j pins))
        ≡ cond b (p.actual ∷ actuals test pins) (actuals test pins)
    by true rest = ap (λ names. p.actual ∷ names) rest
    by false rest = rest

calls-signals : (models : List ModelDef) (j : ℕ) (calls : List named.Call)
    → map (λ (d : Drive). d.signal) (by_calls models j calls) ≡ gathered (λ c. actuals (is_output (callee models c)) c.pins) calls
calls-signals models j [] = refl
calls-signals models j (c ∷ calls) =
    map-append (λ (d : Drive). d.signal) (by_pins (is_output (callee models c)) j c.pins) (by_calls models (suc j) calls)
    ∙ ap (λ names. names ++ map (λ (d : Drive). d.signal) (by_calls models (suc j) calls)) (pins-signals (is_output (callee models c)) j c.pins)
    ∙ ap (λ names. actuals (is_output (callee models c)) c.pins ++ names) (calls-signals models (suc j) calls)

map-same : (xs : List (List ℕ)) → map (λ (name : List ℕ). name) xs ≡ xs
map-same [] = refl
map-same (x ∷ xs) = ap (λ ys. x ∷ ys) (map-same xs)

-- the signals that are driven, in order
pub drives-signals : (models : List ModelDef) (m : ModelDef) → map (λ (d : Drive). d.signal) (drives_of models m) ≡ signals models m
drives-signals models m =
    let of : Drive → List ℕ = λ d. d.signal in
    let ins = map (λ (name : List ℕ). record { signal = name; by = AnInput }) m.inputs in
    let gates = map (λ (g : written.Gate). record { signal = g.out; by = AGate g }) m.gates in
    let outs = map (λ (g : written.Gate). g.out) m.gates in
    map-append of ins (gates ++ by_calls models 0 m.calls)
    ∙ ap (λ names. names ++ map of (gates ++ by_calls models 0 m.calls))
    (map-map (λ (name : List ℕ). record { signal = name; by = AnInput }) of m.inputs ∙ map-same m.inputs)
    ∙ ap (λ names. m.inputs ++ names)
    (map-append of gates (by_calls models 0 m.calls)
    ∙ ap (λ names. names ++ map of (by_calls models 0 m.calls)) (map-map (λ (g : written.Gate). record { signal = g.out; by = AGate g }) of m.gates)
    ∙ ap (λ names. outs ++ names) (calls-signals models 0 m.calls))

-- a signal that is driven once has the source of its place
source-at : (rs : List Drive) (k : ℕ) (r : Drive) → slice_get rs k ≡ Some r → hits (is r.signal) (map (λ (d : Drive). d.signal) rs) ≤ 1
    → source_in rs r.signal ≡ Some r.by
source-at [] k r h low = cc
source-at (s ∷ rs) zero r h low =
    ap (λ b. cond b (Some s.by) (source_in rs r.signal)) ((bytes_eq-Decides s.signal r.signal).1 (ap (λ (d : Drive). d.signal) (same_Some s r h)))
    ∙ ap (λ (d : Drive). Some d.by) (same_Some s r h)
source-at (s ∷ rs) (suc k) r h low = by (bytes_eq s.signal r.signal) low (source-at rs k r h)
  where
    there : slice_get (map (λ (d : Drive). d.signal) rs) k ≡ Some r.signal
    there = slice_get-map (λ (d : Drive). d.signal) rs k ∙ ap (option_map (λ (d : Drive). d.signal)) h

    by : (b : Bool) → one_if b + hits (is r.signal) (map (λ (d : Drive). d.signal) rs) ≤ 1
        → (hits (is r.signal) (map (λ (d : Drive). d.signal) rs) ≤ 1 → source_in rs r.signal ≡ Some r.by)
        → cond b (Some s.by) (source_in rs r.signal) ≡ Some r.by
    by true low rest = let more = get-hits (map (λ (d : Drive). d.signal) rs) k r.signal there in absurd (omega (arith, low, more))
    by false low rest = rest (omega (arith, low))

pub map-cases : {A B : Type 0} (f : A → B) (o : Option A) (y : B) → option_map f o ≡ Some y → (x : A) × (o ≡ Some x) × (f x ≡ y)
map-cases f None y h = cc
map-cases f (Some x) y h = (x, refl, same_Some (f x) y h)

-- The driver and the source of a signal.
pub record Driving (models : List ModelDef) (cover : ℕ) (m : ModelDef) (name : List ℕ) : Type 0 where
  pub driver : Driver
  pub by : Source
  pub here : slice_get (drivers_of models cover m) (number models m name) ≡ Some driver
  pub from : source models m name ≡ Some by
  pub suits : Suits models m (number models m name) driver name by

pub driving : (models : List ModelDef) (m : ModelDef) (cover : ℕ) (name : List ℕ) → Linked models m
    → Align models m 0 (drivers_of models cover m) (drives_of models m)
    → is_among (signals models m) name ≡ true → Driving models cover m name
driving models m cover name linked fits among =
    let of : Drive → List ℕ = λ d. d.signal in
    let rs = drives_of models m in
    let k = number models m name in
    let at : slice_get (map of rs) k ≡ Some name =
    ap (λ names. slice_get names k) (drives-signals models m) ∙ known-at (signals models m) name among in
    let found = map-cases of (slice_get rs k) name (sym (slice_get-map of rs k) ∙ at) in
    let r = found.0 in
    let low = linked.once r.signal in
    let same = ap (hits (is r.signal)) (drives-signals models m) in
    let d = align-get models m 0 (drivers_of models cover m) rs k r fits found.1 in
    let z : 0 + k ≡ k = omega arith in
    record {
      driver = d.0;
      by = r.by;
      here = d.1;
      from = subst (λ n. source models m n ≡ Some r.by) found.2 (source-at rs k r found.1 (omega (arith, low, same)));
      suits = subst (λ n. Suits models m k d.0 n r.by) found.2 (subst (λ n. Suits models m n d.0 r.signal r.by) z d.2);
    }
