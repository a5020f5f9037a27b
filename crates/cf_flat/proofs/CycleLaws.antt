-- A ring of signals stands exactly where a signal of the expansion has no value.
use Rattle.std.proofs.Common.{◌≡◌, zero, suc, ℕ, ◌+◌, ◌<◌, ◌≤◌, Bool, true, false, List, [], ◌∷◌, ◌++◌, Option, Some, None, length, get_or, map, replicate, reverse, refl, sym, ap, ◌∙◌, subst, arith}
use Rattle.std.specs.List.{slice_get, list_any, All, Contains}
use Rattle.std.specs.Option.{option_map, option_map_or, option_and_then, is_none}
use Rattle.std.proofs.lemmas.List.{length-map, length-replicate, length-reverse, reverse-reverse}
use Rattle.std.proofs.lemmas.Option.{same_Some, slice_get-map, slice_get-get_or, slice_get_within}
use Rattle.cf_order.specs.Chains.{end_of, chains}
use Rattle.cf_order.proofs.ChainLaws.{each_listed}
use Rattle.cf_circuits.specs.declared.models.ModelDef.{ModelDef}
use Rattle.cf_circuits.specs.Links.{calls_of}
use Rattle.cf_circuits.specs.Expansions.{model_at, signals, cval, signal_count}
use Rattle.cf_circuits.specs.LinkFaults.{expansion, lacks_value, has_cycle}
use Rattle.cf_circuits.specs.Roots.{inputs_of}
use Rattle.cf_hierarchy.specs.Circuits.{Meaning, all_of}
use Rattle.cf_hierarchy.specs.declared.blocks.Driver.{Driver}
use Rattle.cf_hierarchy.specs.declared.blocks.Driver.TheVariants.{Formal, Made, Back}
use Rattle.cf_hierarchy.specs.declared.blocks.Call.{Call}
use Rattle.cf_hierarchy.specs.declared.blocks.Block.{Block}
use Rattle.cf_hierarchy.specs.Hierarchy.{block_at, driven, hval}
use Rattle.cf_hierarchy.specs.Flattening.{Signal, DriverNeeds, SignalNeeds, SignalChain, HasCycle, HaveValues}
use Rattle.cf_hierarchy.specs.Spreads.{IsAtMostDeep}
use Rattle.cf_hierarchy.specs.Links.{calls}
use Rattle.cf_hierarchy.proofs.PathLaws.{block_end}
use Rattle.cf_hierarchy.proofs.SpreadLaws.{then_cases, called}
use Rattle.cf_blocks.specs.Numbering.{number, covers_of, call_of, block_of, blocks_of}
use Rattle.cf_flat.specs.Flats.{means_of}
use Rattle.cf_flat.proofs.CountLaws.{place-at}
use Rattle.cf_flat.proofs.NameFacts.{NoKinds, linked}
use Rattle.cf_flat.proofs.DriverLaws.{map-cases}
use Rattle.cf_flat.proofs.BlockLaws.{cover_at, model-of, ends}
use Rattle.cf_flat.proofs.ValueLaws.{get-among, same-value}
use Rattle.cf_flat.proofs.LinkedBlocks.{number-below, signals-length, calls-same}
use Rattle.cf_flat.proofs.RecursionLaws.{any-from, any-none, contains-get}

-- where every signal has a value there is no ring
pub no-cycle : (models : List ModelDef) (wires : List ℕ) → NoKinds models
    → HaveValues (blocks_of models) (length (inputs_of models)) wires → length wires ≤ signal_count models
    → has_cycle models ≡ false
no-cycle models wires none known few =
    any-none test (expansion models) (λ k chain at. by chain (model_at models chain) refl)
  where
    test : List ℕ → Bool
    test chain = option_map_or (λ m. list_any (lacks_value models chain) (signals models m)) (model_at models chain) false

    by : (chain : List ℕ) (o : Option ModelDef) → model_at models chain ≡ o
        → option_map_or (λ m. list_any (lacks_value models chain) (signals models m)) o false ≡ false
    by chain None h = refl
    by chain (Some m) h =
        any-none (lacks_value models chain) (signals models m)
        (λ j name at.
        let bits = replicate (length (inputs_of models)) false in
        let among = get-among (signals models m) j name at in
        let e = ends models chain m h in
        let below = number-below models e.at m name e.is_at among in
        let v = known (means_of (covers_of models)) bits (length-replicate (length (inputs_of models)) false) (signal_count models) few
        chain (block_of models (cover_at models e.at) m) (number models m name) e.block below in
        ap is_none (sym (same-value models bits none (signal_count models) chain m name h among) ∙ v.1))

-- the signal lies on a ring
abbrev OnRing : List Block → Signal → Type 0
OnRing blocks x = (rest : List Signal) × SignalChain blocks x rest x

chain-push : (blocks : List Block) (x : Signal) (zs : List Signal) (y w : Signal) → SignalChain blocks x zs y → SignalNeeds blocks y w
    → SignalChain blocks x (zs ++ y ∷ []) w
chain-push blocks x [] y w h n = (h, n)
chain-push blocks x (z ∷ zs) y w h n = (h.0, chain-push blocks z zs y w h.1 n)

-- it needs one that does
ring-next : (blocks : List Block) (x : Signal) → OnRing blocks x → (y : Signal) × SignalNeeds blocks x y × OnRing blocks y
ring-next blocks x ([], h) = (x, h, ([], h))
ring-next blocks x (z ∷ zs, h) = (z, h.0, (zs ++ x ∷ [], chain-push blocks z zs x z h.1 h.0))

none-of : (f : ℕ → Option Bool) (ins : List ℕ) (k t : ℕ) → slice_get ins k ≡ Some t → f t ≡ None → all_of (map f ins) ≡ None
none-of f [] k t h e = cc
none-of f (x ∷ ins) zero t h e = ap (λ o. all_of (o ∷ map f ins)) (ap f (same_Some x t h) ∙ e)
none-of f (x ∷ ins) (suc k) t h e = by (f x) (none-of f ins k t h e)
  where
    by : (o : Option Bool) → all_of (map f ins) ≡ None → all_of (o ∷ map f ins) ≡ None
    by None rest = refl
    by (Some b) rest = ap (option_map (λ bs. b ∷ bs)) rest

module _ (means : Meaning) (blocks : List Block) (bits : List Bool) where
  -- what needs a signal without a value has none
  needs-none : (m : ℕ) (p : List ℕ) (d : Driver) (y : Signal) → DriverNeeds blocks p d y → hval means blocks bits m y.path y.at ≡ None
      → driven means blocks bits (hval means blocks bits m) p d ≡ None
  needs-none m p (Formal k) y (j, b, c, is, before, at, actual) e =
      ap (λ p. driven means blocks bits (hval means blocks bits m) p (Formal k)) is
      ∙ ap (option_and_then (λ (b : Block). option_and_then (λ (c : Call). option_and_then (hval means blocks bits m y.path) (slice_get c.actuals k)) (slice_get b.calls j))) before
      ∙ ap (option_and_then (λ (c : Call). option_and_then (hval means blocks bits m y.path) (slice_get c.actuals k))) at
      ∙ ap (option_and_then (hval means blocks bits m y.path)) actual
      ∙ e
  needs-none m p (Made g) y (same, has) e =
      let at = contains-get g.ins y.at has in
      ap (option_map (means g.cover))
      (none-of (hval means blocks bits m p) g.ins at.0 y.at at.1 (ap (λ p. hval means blocks bits m p y.at) (sym same) ∙ e))
  needs-none m p (Back j f) y (path, at) e =
      ap (λ p. hval means blocks bits m p f) (sym path) ∙ ap (hval means blocks bits m y.path) (sym at) ∙ e

  -- a signal on a ring has no value
  ring-none : (m : ℕ) (x : Signal) → OnRing blocks x → hval means blocks bits m x.path x.at ≡ None
  unfolding hval
  ring-none zero x ring = refl
  ring-none (suc m) x ring =
      let next = ring-next blocks x ring in
      let n = next.1 in
      ap (option_and_then (λ (b : Block). option_and_then (driven means blocks bits (hval means blocks bits m) x.path) (slice_get b.drivers x.at))) n.there
      ∙ ap (option_and_then (driven means blocks bits (hval means blocks bits m) x.path)) n.drives
      ∙ needs-none m x.path n.driver next.0 n.needs (ring-none m next.0 next.2)

-- a block at the end of a chain is that of a model
pub model-end : (models : List ModelDef) (chain : List ℕ) (b : Block) → block_at (blocks_of models) chain ≡ Some b
    → (m : ModelDef) × (model_at models chain ≡ Some m)
model-end models [] b h = let m = model-of models 0 b h in (m.0, m.1)
model-end models (j ∷ chain) b h =
    let c = called (blocks_of models) j chain b h in
    let old = model-end models chain c.caller c.before in
    let e = ends models chain old.0 old.1 in
    let same : c.caller ≡ block_of models (cover_at models e.at) old.0 =
    same_Some c.caller (block_of models (cover_at models e.at) old.0) (sym c.before ∙ e.block) in
    let at = map-cases (call_of models old.0) (slice_get old.0.calls j) c.call
    (sym (slice_get-map (call_of models old.0) old.0.calls j) ∙ ap (λ (b : Block). slice_get b.calls j) (sym same) ∙ c.at) in
    let m = model-of models c.call.block b c.block in (
      m.0,
      ap (option_and_then (λ (m : ModelDef). option_and_then (λ c. slice_get models (call_of models m c).block) (slice_get m.calls j))) old.1
          ∙ ap (option_and_then (λ c. slice_get models (call_of models old.0 c).block)) at.1
          ∙ ap (λ (c : Call). slice_get models c.block) at.2
          ∙ m.1,
    )

-- where there is a ring, a signal has no value
pub cycle : (models : List ModelDef) → NoKinds models → IsAtMostDeep (blocks_of models) 64 → HasCycle (blocks_of models)
    → has_cycle models ≡ true
cycle models none deep ring =
    let x = ring.first in
    let on : OnRing (blocks_of models) x = (ring.rest, ring.ring) in
    let next = ring-next (blocks_of models) x on in
    let n = next.1 in
    let end = model-end models x.path n.block n.there in
    let m = end.0 in
    let e = ends models x.path m end.1 in
    let same : n.block ≡ block_of models (cover_at models e.at) m =
    same_Some n.block (block_of models (cover_at models e.at) m) (sym n.there ∙ e.block) in
    let within = slice_get_within n.block.drivers x.at n.driver n.drives in
    let long = ap (λ (b : Block). length b.drivers) same in
    let size = signals-length models e.at m (cover_at models e.at) e.is_at in
    let name = get_or (signals models m) x.at [] in
    let at : slice_get (signals models m) x.at ≡ Some name =
    slice_get-get_or (signals models m) x.at [] (omega (arith, within, long, size)) in
    let among = get-among (signals models m) x.at name at in
    let k : number models m name ≡ x.at = place-at (signals models m) x.at name at ((linked models e.at m none e.is_at).once name) in
    let bits = replicate (length (inputs_of models)) false in
    let means = means_of (covers_of models) in
    let no_value : cval models bits (signal_count models) x.path name ≡ None =
    sym (same-value models bits none (signal_count models) x.path m name end.1 among)
    ∙ ap (hval means (blocks_of models) bits (signal_count models) x.path) k
    ∙ ring-none means (blocks_of models) bits (signal_count models) x on in
    let lacks : list_any (lacks_value models x.path) (signals models m) ≡ true =
    any-from (lacks_value models x.path) (signals models m) x.at name at (ap is_none no_value) in
    let chain = then_cases (slice_get (blocks_of models)) (end_of (calls (blocks_of models)) 0 (reverse x.path)) n.block
    (sym (block_end (blocks_of models) x.path) ∙ n.there) in
    let short = deep x.path n.block n.there in
    let there = contains-get (chains (calls_of models) 64 0) (reverse x.path)
    (each_listed (calls_of models) 64 0 (reverse x.path)
    (chain.0, ap (λ rows. end_of rows 0 (reverse x.path)) (sym (calls-same models)) ∙ chain.1)
    (omega (arith, short, length-reverse x.path))) in
    any-from
    (λ chain. option_map_or (λ m. list_any (lacks_value models chain) (signals models m)) (model_at models chain) false)
    (expansion models) there.0 x.path
    (slice_get-map reverse (chains (calls_of models) 64 0) there.0 ∙ ap (option_map reverse) there.1 ∙ ap Some (reverse-reverse x.path))
    (ap (λ o. option_map_or (λ m. list_any (lacks_value models x.path) (signals models m)) o false) end.1 ∙ lacks)
