-- A signal of the blocks has the value of the model's signal, for every number of steps.
use Rattle.std.proofs.Common.{ℕ, zero, suc, ◌≡◌, ◌+◌, ◌<◌, ◌≤◌, not, Bool, true, false, List, [], ◌∷◌, ◌++◌, length, get_or, map, Option, Some, None, refl, sym, ◌∙◌, ap, subst, arith}
use Rattle.std.specs.List.{slice_get}
use Rattle.std.specs.Option.{option_map, option_and_then, unwrap_or}
use Rattle.std.specs.Str.{bytes_eq}
use Rattle.std.proofs.lemmas.Option.{same_Some, slice_get-map, slice_get-get_or, get_or_from_slice_get}
use Rattle.std.proofs.lemmas.List.{length-map}
use Rattle.std.proofs.lemmas.Bool.{and_parts}
use Rattle.cf_model.specs.Renumbering.{place}
use Rattle.cf_circuits.specs.declared.gates.Cover.{Cover}
use Rattle.cf_circuits.specs.declared.gates.Gate as written
use Rattle.cf_circuits.specs.declared.pins.Call as named
use Rattle.cf_circuits.specs.declared.models.ModelDef.{ModelDef}
use Rattle.cf_circuits.specs.Covers.{cover_value}
use Rattle.cf_circuits.specs.Links.{gathered, is_among, names_of, no_model, callee, is_input, is_output, actuals}
use Rattle.cf_circuits.specs.Expansions.{model_at, Source, AnInput, AGate, AnOutput, signals, source, actual_for, all_there, input_value, value_by, cval}
use Rattle.cf_circuits.specs.Roots.{root}
use Rattle.cf_hierarchy.specs.Circuits.{Meaning, all_of}
use Rattle.cf_hierarchy.specs.declared.blocks.Driver.{Driver}
use Rattle.cf_hierarchy.specs.declared.blocks.Call.{Call}
use Rattle.cf_hierarchy.specs.declared.blocks.Block.{Block}
use Rattle.cf_hierarchy.specs.Hierarchy.{block_at, formal_value, driven, hval}
use Rattle.cf_blocks.specs.Numbering.{number, gate_of, actual_of, drivers_of, covers_of, call_of, block_of, blocks_of}
use Rattle.cf_flat.specs.Flats.{no_cover, means_of}
use Rattle.cf_flat.proofs.CountLaws.{hits, is, hits-any, hits-append, get-hits, place-at, known-at}
use Rattle.cf_flat.proofs.NameFacts.{NoKinds, Linked, linked}
use Rattle.cf_flat.proofs.DriverLaws.{Suits, driving}
use Rattle.cf_flat.proofs.BlockLaws.{cover_at, aligned-at, Ends, CalledBy, called-by, call-get, ends}

all-same : (values : List (Option Bool)) → all_of values ≡ all_there values
all-same [] = refl
all-same (None ∷ values) = refl
all-same (Some b ∷ values) = ap (option_map (λ bs. b ∷ bs)) (all-same values)

-- lists with the same items
pub map-agree : {A B C : Type 0} (f : A → B) (g : B → C) (h : A → C) (xs : List A)
    → ((k : ℕ) (x : A) → slice_get xs k ≡ Some x → g (f x) ≡ h x) → map g (map f xs) ≡ map h xs
map-agree f g h [] same = refl
map-agree f g h (x ∷ xs) same =
    ap (λ y. y ∷ map g (map f xs)) (same 0 x refl) ∙ ap (λ ys. h x ∷ ys) (map-agree f g h xs (λ k y e. same (suc k) y e))

pub get-among : (names : List (List ℕ)) (k : ℕ) (name : List ℕ) → slice_get names k ≡ Some name → is_among names name ≡ true
get-among names k name h = hits-any (is name) names (get-hits names k name h)

-- the called model stands at its place
pub callee-is : (models : List ModelDef) (c : named.Call) (m : ModelDef)
    → slice_get models (place bytes_eq (names_of models) c.model) ≡ Some m → callee models c ≡ m
callee-is models c m h = get_or_from_slice_get models (place bytes_eq (names_of models) c.model) m no_model h

-- an output is a signal
pub output-among : (models : List ModelDef) (m : ModelDef) (name : List ℕ) → Linked models m → is_output m name ≡ true
    → is_among (signals models m) name ≡ true
output-among models m name facts h =
    let listed = (and_parts (not (is_among m.inputs name)) (is_among m.outputs name) h).1 in
    facts.outputs (place bytes_eq m.outputs name) name (known-at m.outputs name listed)

module _ (models : List ModelDef) (bits : List Bool) (none : NoKinds models) where
  abbrev pub blocks : List Block
  blocks = blocks_of models

  abbrev pub means : Meaning
  means = means_of (covers_of models)

  at-end : (chain : List ℕ) (m : ModelDef) → model_at models chain ≡ Some m → Linked models m
  at-end chain m h = let e = ends models chain m h in linked models e.at m none e.is_at

  -- signals have equal values at n
  Same : ℕ → Type 0
  Same n = (chain : List ℕ) (m : ModelDef) (name : List ℕ) → model_at models chain ≡ Some m
      → is_among (signals models m) name ≡ true
      → hval means blocks bits n chain (number models m name) ≡ cval models bits n chain name

  -- an input's place among the inputs is that among the signals
  input-place : (chain : List ℕ) (m : ModelDef) (name : List ℕ) (i : ℕ) → model_at models chain ≡ Some m
      → slice_get m.inputs i ≡ Some name → place bytes_eq m.inputs name ≡ i
  input-place chain m name i h e =
      let once = (at-end chain m h).once name in
      let rest = map (λ (g : written.Gate). g.out) m.gates ++ gathered (λ c. actuals (is_output (callee models c)) c.pins) m.calls in
      let split = hits-append (is name) m.inputs rest in
      place-at m.inputs i name e (omega (arith, once, split))

  input-same : (n : ℕ) → Same n → (chain : List ℕ) (m : ModelDef) (name : List ℕ) (i : ℕ) → model_at models chain ≡ Some m
      → slice_get m.inputs i ≡ Some name
      → formal_value blocks bits (hval means blocks bits n) chain i ≡ input_value models bits (cval models bits n) chain name
  unfolding Same
  input-same n same [] m name i h e =
      ap (slice_get bits)
      (sym (input-place [] m name i h e) ∙ ap (λ (m : ModelDef). place bytes_eq m.inputs name) (sym (get_or_from_slice_get models 0 m no_model h)))
  input-same n same (j ∷ chain) m name i h e =
      let c = called-by models j chain m h in
      let old = ends models chain c.caller c.before in
      let facts = at-end chain c.caller c.before in
      let same_callee = callee-is models c.call m c.model in
      let at = ap (λ (m : ModelDef). slice_get m.inputs i) same_callee ∙ e in
      let pin = facts.pinned j i c.call name c.at at in
      let input = ap (λ (m : ModelDef). is_among m.inputs name) same_callee ∙ get-among m.inputs i name e in
      let among = facts.actuals j c.call name pin.0 c.at pin.1 input in
      let k = number models c.caller pin.0 in
      let actual : slice_get (call_of models c.caller c.call).actuals i ≡ Some k =
      slice_get-map (λ name. number models c.caller (actual_of c.call.pins name)) (callee models c.call).inputs i
      ∙ ap (option_map (λ name. number models c.caller (actual_of c.call.pins name))) at
      ∙ ap (λ o. Some (number models c.caller (unwrap_or o []))) pin.1 in
      ap (option_and_then (λ (b : Block). option_and_then (λ (c : Call). option_and_then (hval means blocks bits n chain) (slice_get c.actuals i)) (slice_get b.calls j))) old.block
      ∙ ap (option_and_then (λ (c : Call). option_and_then (hval means blocks bits n chain) (slice_get c.actuals i)))
      (call-get models (cover_at models old.at) j c.caller c.call c.at)
      ∙ ap (option_and_then (hval means blocks bits n chain)) actual
      ∙ same chain c.caller pin.0 c.before among
      ∙ sym (ap (option_and_then (λ (m : ModelDef). option_and_then (λ (c : named.Call). option_and_then (cval models bits n chain) (actual_for c.pins name)) (slice_get m.calls j))) c.before
      ∙ ap (option_and_then (λ (c : named.Call). option_and_then (cval models bits n chain) (actual_for c.pins name))) c.at
      ∙ ap (option_and_then (cval models bits n chain)) pin.1)

  by-source : (n : ℕ) → Same n → (chain : List ℕ) (m : ModelDef) (name : List ℕ) (i : ℕ) (d : Driver) (s : Source)
      → model_at models chain ≡ Some m → Suits models m i d name s
      → driven means blocks bits (hval means blocks bits n) chain d ≡ value_by models bits (cval models bits n) chain name s
  unfolding Same
  by-source n same chain m name i d AnInput h (is_driver, at) =
      ap (driven means blocks bits (hval means blocks bits n) chain) is_driver ∙ input-same n same chain m name i h at
  by-source n same chain m name i d (AGate g) h (j, cover, is_driver, is_cover, at) =
      let facts = at-end chain m h in
      let one = get_or_from_slice_get (covers_of models) cover g.cover no_cover is_cover in
      ap (driven means blocks bits (hval means blocks bits n) chain) is_driver
      ∙ ap (λ (c : Cover). option_map (cover_value c) (all_of (map (hval means blocks bits n chain) (map (number models m) g.ins)))) one
      ∙ ap (λ values. option_map (cover_value g.cover) (all_of values))
      (map-agree (number models m) (hval means blocks bits n chain) (cval models bits n chain) g.ins
      (λ k x e. same chain m x h (facts.ins j k g x at e)))
      ∙ ap (option_map (cover_value g.cover)) (all-same (map (cval models bits n chain) g.ins))
  by-source n same chain m name i d (AnOutput j formal) h (c, is_driver, at, output) =
      let facts = at-end chain m h in
      let k = place bytes_eq (names_of models) c.model in
      let within : k < length models =
      let placed = facts.placed j c at in omega (arith, placed, length-map models (λ (m : ModelDef). m.name)) in
      let there : slice_get models k ≡ Some (callee models c) = slice_get-get_or models k no_model within in
      let end : model_at models (j ∷ chain) ≡ Some (callee models c) =
      ap (option_and_then (λ (m : ModelDef). option_and_then (λ (c : named.Call). slice_get models (place bytes_eq (names_of models) c.model)) (slice_get m.calls j))) h
      ∙ ap (option_and_then (λ (c : named.Call). slice_get models (place bytes_eq (names_of models) c.model))) at
      ∙ there in
      ap (driven means blocks bits (hval means blocks bits n) chain) is_driver
      ∙ same (j ∷ chain) (callee models c) formal end
      (output-among models (callee models c) formal (linked models k (callee models c) none there) output)

  all-same-at : (n : ℕ) → Same n
  unfolding Same cval hval
  all-same-at zero chain m name h among = refl
  all-same-at (suc n) chain m name h among =
      let e = ends models chain m h in
      let d = driving models m (cover_at models e.at) name (at-end chain m h) (aligned-at models e.at m e.is_at) among in
      ap (option_and_then (λ (b : Block). option_and_then (driven means blocks bits (hval means blocks bits n) chain) (slice_get b.drivers (number models m name)))) e.block
      ∙ ap (option_and_then (driven means blocks bits (hval means blocks bits n) chain)) d.here
      ∙ by-source n (all-same-at n) chain m name (number models m name) d.driver d.by h d.suits
      ∙ sym (ap (option_and_then (λ (m : ModelDef). option_and_then (value_by models bits (cval models bits n) chain name) (source models m name))) h
      ∙ ap (option_and_then (value_by models bits (cval models bits n) chain name)) d.from)

  -- a signal of the blocks has the value of the model's
  pub same-value : (n : ℕ) (chain : List ℕ) (m : ModelDef) (name : List ℕ) → model_at models chain ≡ Some m
      → is_among (signals models m) name ≡ true
      → hval means blocks bits n chain (number models m name) ≡ cval models bits n chain name
  unfolding Same
  same-value n chain m name h among = all-same-at n chain m name h among
