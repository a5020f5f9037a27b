-- What the flattening of blocks asks of them holds of the blocks of models whose names have no fault.
use Rattle.std.proofs.Common.{ℕ, zero, suc, ◌≡◌, ◌+◌, ◌<◌, ◌≤◌, Bool, true, false, List, [], ◌∷◌, ◌++◌, length, get_or, map, Option, Some, None, refl, sym, ◌∙◌, ap, subst, arith}
use Rattle.std.specs.List.{slice_get, All}
use Rattle.std.specs.Option.{option_map, unwrap_or}
use Rattle.std.specs.Str.{bytes_eq}
use Rattle.std.proofs.lemmas.List.{length-map, length-append}
use Rattle.std.proofs.lemmas.Option.{same_Some, slice_get-map, slice_get-get_or, slice_get_within, get_or_from_slice_get}
use Rattle.cf_model.specs.Renumbering.{place}
use Rattle.cf_circuits.specs.declared.gates.Gate as written
use Rattle.cf_circuits.specs.declared.pins.Call as named
use Rattle.cf_circuits.specs.declared.models.ModelDef.{ModelDef}
use Rattle.cf_circuits.specs.Links.{is_among, names_of, no_model, callee, calls_of}
use Rattle.cf_circuits.specs.Expansions.{Source, AnInput, AGate, AnOutput, Drive, drives_of, signals}
use Rattle.cf_circuits.specs.LinkFaults.{weights_of}
use Rattle.cf_circuits.specs.Roots.{root}
use Rattle.cf_order.specs.Orders.{HasNoRing}
use Rattle.cf_hierarchy.specs.declared.blocks.Driver.{Driver}
use Rattle.cf_hierarchy.specs.declared.blocks.Driver.TheVariants.{Formal, Made, Back}
use Rattle.cf_hierarchy.specs.declared.blocks.Call.{Call}
use Rattle.cf_hierarchy.specs.declared.blocks.Block.{Block}
use Rattle.cf_hierarchy.specs.Hierarchy.{IsDriver, IsCall, IsBlock}
use Rattle.cf_hierarchy.specs.Flattening.{IsRootInput, root_of}
use Rattle.cf_hierarchy.specs.Links.{called, calls}
use Rattle.cf_hierarchy.specs.Spreads.{no_block}
use Rattle.cf_blocks.specs.Numbering.{number, formals_from, gate_of, made_from, backs_from, actual_of, drivers_of, call_of, block_of, blocks_from, blocks_of}
use Rattle.cf_flat.proofs.CountLaws.{known-at}
use Rattle.cf_flat.proofs.NameFacts.{NoKinds, Linked, linked}
use Rattle.cf_flat.proofs.DriverLaws.{Suits, Align, align-back, align-length, drives-signals, map-cases, map-map}
use Rattle.cf_flat.proofs.BlockLaws.{cover_at, block-at, model-of, aligned-at, call-get}
use Rattle.cf_flat.proofs.ValueLaws.{get-among, callee-is, output-among}

pub all-get : {A : Type 0} (P : A → Type 0) (xs : List A) → ((k : ℕ) (x : A) → slice_get xs k ≡ Some x → P x) → All P xs
all-get P xs h k d l = h k (get_or xs k d) (slice_get-get_or xs k d l)

-- a signal's number is that of a driver
pub number-below : (models : List ModelDef) (k : ℕ) (m : ModelDef) (name : List ℕ) → slice_get models k ≡ Some m
    → is_among (signals models m) name ≡ true → number models m name < length (drivers_of models (cover_at models k) m)
number-below models k m name h among =
    let within = slice_get_within (signals models m) (number models m name) name (known-at (signals models m) name among) in
    let same = ap length (drives-signals models m) in
    let long = length-map (drives_of models m) (λ (d : Drive). d.signal) in
    let fits = align-length models m 0 (drivers_of models (cover_at models k) m) (drives_of models m) (aligned-at models k m h) in
    omega (arith, within, same, long, fits)

pub blocks-length : (models some : List ModelDef) (first : ℕ) → length (blocks_from models first some) ≡ length some
blocks-length models [] first = refl
blocks-length models (m ∷ some) first = ap suc (blocks-length models some (first + length m.gates))

-- an input's driver is numbered below the inputs
formal-below : (models : List ModelDef) (m : ModelDef) (i k : ℕ) (name : List ℕ) (s : Source) → Suits models m i (Formal k) name s
    → k < length m.inputs
formal-below models m i k name AnInput (is, at) =
    let e : k ≡ i = cc (is) in
    let within = slice_get_within m.inputs i name at in
    omega (arith, e, within)
formal-below models m i k name (AGate g) (j, cover, is, is_cover, at) = let no : ⊥ = cc (is) in absurd no
formal-below models m i k name (AnOutput j formal) (c, is, at, output) = let no : ⊥ = cc (is) in absurd no

formal-at : (models : List ModelDef) (k s i : ℕ) (m : ModelDef) → slice_get models k ≡ Some m
    → slice_get (drivers_of models (cover_at models k) m) s ≡ Some (Formal i) → i < length m.inputs
formal-at models k s i m h e =
    let r = align-back models m 0 (drivers_of models (cover_at models k) m) (drives_of models m) s (Formal i) (aligned-at models k m h) e in
    formal-below models m (0 + s) i r.0.signal r.0.by r.2

module _ (models : List ModelDef) (none : NoKinds models) where
  abbrev of-model : ℕ → ModelDef → Block
  of-model k m = block_of models (cover_at models k) m

  called-at : (m : ModelDef) (j : ℕ) (c : named.Call) → Linked models m → slice_get m.calls j ≡ Some c
      → slice_get models (place bytes_eq (names_of models) c.model) ≡ Some (callee models c)
  called-at m j c facts e =
      let placed = facts.placed j c e in
      slice_get-get_or models (place bytes_eq (names_of models) c.model) no_model
      (omega (arith, placed, length-map models (λ (m : ModelDef). m.name)))

  driver-ok : (k i : ℕ) (m : ModelDef) (d : Driver) (name : List ℕ) (s : Source) → slice_get models k ≡ Some m
      → Suits models m i d name s → IsDriver (blocks_of models) (of-model k m) d
  driver-ok k i m d name AnInput h (is, at) = subst (IsDriver (blocks_of models) (of-model k m)) (sym is) tt
  driver-ok k i m d name (AGate g) h (j, cover, is, is_cover, at) =
      let facts = linked models k m none h in
      subst (IsDriver (blocks_of models) (of-model k m)) (sym is)
      (all-get (λ t. t < length (drivers_of models (cover_at models k) m)) (map (number models m) g.ins)
      (λ n t e.
      let in_ = map-cases (number models m) (slice_get g.ins n) t (sym (slice_get-map (number models m) g.ins n) ∙ e) in
      let below = number-below models k m in_.0 h (facts.ins j n g in_.0 at in_.1) in
      let same = in_.2 in
      omega (arith, below, same)))
  driver-ok k i m d name (AnOutput j formal) h (c, is, at, output) =
      let facts = linked models k m none h in
      let there = called-at m j c facts at in
      let p = place bytes_eq (names_of models) c.model in
      subst (IsDriver (blocks_of models) (of-model k m)) (sym is) (
        call_of models m c,
        of-model p (callee models c),
        call-get models (cover_at models k) j m c at,
        block-at models p (callee models c) there,
        number-below models p (callee models c) formal there
            (output-among models (callee models c) formal (linked models p (callee models c) none there) output),
      )

  call-ok : (k j : ℕ) (m : ModelDef) (c : named.Call) → slice_get models k ≡ Some m → slice_get m.calls j ≡ Some c
      → IsCall (blocks_of models) (of-model k m) (call_of models m c)
  call-ok k j m c h e =
      let facts = linked models k m none h in
      let there = called-at m j c facts e in
      let p = place bytes_eq (names_of models) c.model in
      let f : List ℕ → ℕ = λ name. number models m (actual_of c.pins name) in
      record {
        there =
            let within = slice_get_within models p (callee models c) there in
            let long = blocks-length models models 0 in
            omega (arith, within, long);
        actuals =
            all-get (λ t. t < length (drivers_of models (cover_at models k) m)) (map f (callee models c).inputs)
            (λ n t at.
            let in_ = map-cases f (slice_get (callee models c).inputs n) t (sym (slice_get-map f (callee models c).inputs n) ∙ at) in
            let pin = facts.pinned j n c in_.0 e in_.1 in
            let among = facts.actuals j c in_.0 pin.0 e pin.1 (get-among (callee models c).inputs n in_.0 in_.1) in
            let below = number-below models k m pin.0 h among in
            let same : number models m pin.0 ≡ t = ap (λ o. number models m (unwrap_or o [])) (sym pin.1) ∙ in_.2 in
            omega (arith, below, same));
        enough = λ d s i at formal.
            let n = model-of models p d at in
            let same : n.0 ≡ callee models c = same_Some n.0 (callee models c) (sym n.1 ∙ there) in
            let below = formal-at models p s i n.0 n.1 (subst (λ (b : Block). slice_get b.drivers s ≡ Some (Formal i)) n.2 formal) in
            let long = ap (λ (m : ModelDef). length m.inputs) same in
            omega (arith, below, long, length-map (callee models c).inputs f);
      }

  block-ok : (k : ℕ) (m : ModelDef) → slice_get models k ≡ Some m → IsBlock (blocks_of models) (of-model k m)
  block-ok k m h = record {
    drivers =
        all-get (IsDriver (blocks_of models) (of-model k m)) (drivers_of models (cover_at models k) m)
        (λ s d e.
        let r = align-back models m 0 (drivers_of models (cover_at models k) m) (drives_of models m) s d (aligned-at models k m h) e in
        driver-ok k (0 + s) m d r.0.signal r.0.by h r.2);
    calls =
        all-get (IsCall (blocks_of models) (of-model k m)) (map (call_of models m) m.calls)
        (λ j c e.
        let n = map-cases (call_of models m) (slice_get m.calls j) c (sym (slice_get-map (call_of models m) m.calls j) ∙ e) in
        subst (IsCall (blocks_of models) (of-model k m)) n.2 (call-ok k j m n.0 h n.1));
  }

  -- drivers and calls speak of what is there
  pub blocks-ok : All (IsBlock (blocks_of models)) (blocks_of models)
  blocks-ok =
      all-get (IsBlock (blocks_of models)) (blocks_of models)
      (λ k b e. let m = model-of models k b e in subst (IsBlock (blocks_of models)) (sym m.2) (block-ok k m.0 m.1))

-- the first model
pub root-there : (models : List ModelDef) → 0 < length models → slice_get models 0 ≡ Some (root models)
root-there models some = slice_get-get_or models 0 no_model some

pub root-block : (models : List ModelDef) → 0 < length models → root_of (blocks_of models) ≡ block_of models (cover_at models 0) (root models)
root-block models some =
    get_or_from_slice_get (blocks_of models) 0 (block_of models (cover_at models 0) (root models)) no_block
    (block-at models 0 (root models) (root-there models some))

-- the root's inputs are numbered below their count
pub root-inputs : (models : List ModelDef) → 0 < length models
    → All (IsRootInput (length (root models).inputs)) (root_of (blocks_of models)).drivers
root-inputs models some =
    subst (λ (b : Block). All (IsRootInput (length (root models).inputs)) b.drivers) (sym (root-block models some))
    (all-get (IsRootInput (length (root models).inputs)) (drivers_of models (cover_at models 0) (root models))
    (λ s d e. by s d e))
  where
    by : (s : ℕ) (d : Driver) → slice_get (drivers_of models (cover_at models 0) (root models)) s ≡ Some d
        → IsRootInput (length (root models).inputs) d
    by s (Formal i) e = formal-at models 0 s i (root models) (root-there models some) e
    by s (Made g) e = tt
    by s (Back j f) e = tt

calls-from : (models some : List ModelDef) (first : ℕ)
    → map (λ (b : Block). called b.calls) (blocks_from models first some)
    ≡ map (λ (m : ModelDef). map (λ (c : named.Call). place bytes_eq (names_of models) c.model) m.calls) some
calls-from models [] first = refl
calls-from models (m ∷ some) first =
    ap (λ row. row ∷ map (λ (b : Block). called b.calls) (blocks_from models (first + length m.gates) some))
    (map-map (call_of models m) (λ (c : Call). c.block) m.calls)
    ∙ ap (λ rows. map (λ (c : named.Call). place bytes_eq (names_of models) c.model) m.calls ∷ rows) (calls-from models some (first + length m.gates))

-- blocks call those that the models call
pub calls-same : (models : List ModelDef) → calls (blocks_of models) ≡ calls_of models
calls-same models = calls-from models models 0

pub no-ring : (models : List ModelDef) → HasNoRing (calls_of models) → HasNoRing (calls (blocks_of models))
no-ring models h = subst HasNoRing (sym (calls-same models)) h

made-length : (models : List ModelDef) (m : ModelDef) (cover : ℕ) (gates : List written.Gate)
    → length (made_from models m cover gates) ≡ length gates
made-length models m cover [] = refl
made-length models m cover (g ∷ gates) = ap suc (made-length models m (suc cover) gates)

-- how covers are numbered doesn't matter to the count of drivers
drivers-length : (models : List ModelDef) (m : ModelDef) (c d : ℕ) → length (drivers_of models c m) ≡ length (drivers_of models d m)
drivers-length models m c d =
    let ins = formals_from 0 m.inputs in
    let back = backs_from models 0 m.calls in
    omega (
      arith,
      length-append ins (made_from models m c m.gates ++ back),
      length-append ins (made_from models m d m.gates ++ back),
      length-append (made_from models m c m.gates) back,
      length-append (made_from models m d m.gates) back,
      made-length models m c m.gates,
      made-length models m d m.gates,
    )

pub signals-length : (models : List ModelDef) (k : ℕ) (m : ModelDef) (cover : ℕ) → slice_get models k ≡ Some m
    → length (drivers_of models cover m) ≡ length (signals models m)
signals-length models k m cover h =
    let same = ap length (drives-signals models m) in
    let long = length-map (drives_of models m) (λ (d : Drive). d.signal) in
    let fits = align-length models m 0 (drivers_of models (cover_at models k) m) (drives_of models m) (aligned-at models k m h) in
    omega (arith, same, long, fits, drivers-length models m cover (cover_at models k))

sizes-from : (models some : List ModelDef) (first : ℕ)
    → ((k : ℕ) (m : ModelDef) → slice_get some k ≡ Some m → (cover : ℕ) → length (drivers_of models cover m) ≡ length (signals models m))
    → map (λ (b : Block). length b.drivers) (blocks_from models first some) ≡ map (λ (m : ModelDef). length (signals models m)) some
sizes-from models [] first h = refl
sizes-from models (m ∷ some) first h =
    ap (λ n. n ∷ map (λ (b : Block). length b.drivers) (blocks_from models (first + length m.gates) some)) (h 0 m refl first)
    ∙ ap (λ ns. length (signals models m) ∷ ns) (sizes-from models some (first + length m.gates) (λ k n e. h (suc k) n e))

-- a block has as many drivers as its model has signals
pub sizes-same : (models : List ModelDef)
    → map (λ (b : Block). length b.drivers) (blocks_of models) ≡ map (λ (m : ModelDef). length (signals models m)) models
sizes-same models = sizes-from models models 0 (λ k m h cover. signals-length models k m cover h)

pub weights-length : (models : List ModelDef) → length (weights_of models) ≡ length (blocks_of models)
weights-length models =
    let long = blocks-length models models 0 in
    let same = length-map models (λ (m : ModelDef). length m.gates + length m.calls) in
    omega (arith, long, same)
