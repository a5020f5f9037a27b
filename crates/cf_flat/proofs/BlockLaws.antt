-- The blocks of models, at their places and at the ends of chains.
use Rattle.std.proofs.Common.{ℕ, zero, suc, ◌≡◌, ◌+◌, ◌<◌, ◌≤◌, Bool, true, false, List, [], ◌∷◌, ◌++◌, length, map, Option, Some, None, refl, sym, ◌∙◌, ap, subst, arith}
use Rattle.std.specs.List.{slice_get}
use Rattle.std.specs.Option.{option_map, option_and_then}
use Rattle.std.specs.Str.{bytes_eq}
use Rattle.std.proofs.lemmas.List.{length-map}
use Rattle.std.proofs.lemmas.Option.{same_Some, slice_get-map}
use Rattle.cf_model.specs.Renumbering.{place}
use Rattle.cf_circuits.specs.declared.gates.Gate as written
use Rattle.cf_circuits.specs.declared.gates.Cover.{Cover}
use Rattle.cf_circuits.specs.declared.pins.Call as named
use Rattle.cf_circuits.specs.declared.models.ModelDef.{ModelDef}
use Rattle.cf_circuits.specs.Links.{gathered, names_of}
use Rattle.cf_circuits.specs.Expansions.{model_at, drives_of}
use Rattle.cf_hierarchy.specs.declared.blocks.Call.{Call}
use Rattle.cf_hierarchy.specs.declared.blocks.Block.{Block}
use Rattle.cf_hierarchy.specs.Hierarchy.{block_at}
use Rattle.cf_hierarchy.proofs.SpreadLaws.{then_cases}
use Rattle.cf_blocks.specs.Numbering.{drivers_of, covers_of, call_of, block_of, blocks_from, blocks_of}
use Rattle.cf_flat.proofs.DriverLaws.{Align, aligned}

-- the number of the first cover of model k
pub cover_at : List ModelDef → ℕ → ℕ
cover_at [] k = 0
cover_at (m ∷ models) zero = 0
cover_at (m ∷ models) (suc k) = length m.gates + cover_at models k

get-left : {A : Type 0} (xs ys : List A) (k : ℕ) (x : A) → slice_get xs k ≡ Some x → slice_get (xs ++ ys) k ≡ Some x
get-left [] ys k x h = cc
get-left (y ∷ xs) ys zero x h = h
get-left (y ∷ xs) ys (suc k) x h = get-left xs ys k x h

get-right : {A : Type 0} (xs ys : List A) (k : ℕ) → slice_get (xs ++ ys) (length xs + k) ≡ slice_get ys k
get-right [] ys k = let z : 0 + k ≡ k = omega arith in ap (slice_get ys) z
get-right (x ∷ xs) ys k =
    let z : suc (length xs) + k ≡ suc (length xs + k) = omega arith in
    ap (slice_get (x ∷ xs ++ ys)) z ∙ get-right xs ys k

abbrev covers : ModelDef → List Cover
covers m = map (λ g. g.cover) m.gates

-- a gate's cover stands at its number
pub cover-get : (models : List ModelDef) (k j : ℕ) (m : ModelDef) (x : Cover) → slice_get models k ≡ Some m
    → slice_get (covers m) j ≡ Some x → slice_get (gathered covers models) (cover_at models k + j) ≡ Some x
unfolding cover_at
cover-get [] k j m x h e = cc
cover-get (n ∷ models) zero j m x h e =
    let z : 0 + j ≡ j = omega arith in
    ap (slice_get (covers n ++ gathered covers models)) z
    ∙ get-left (covers n) (gathered covers models) j x (ap (λ (m : ModelDef). slice_get (covers m) j) (same_Some n m h) ∙ e)
cover-get (n ∷ models) (suc k) j m x h e =
    let long = length-map n.gates (λ (g : written.Gate). g.cover) in
    let z : (length n.gates + cover_at models k) + j ≡ length (covers n) + (cover_at models k + j) = omega (arith, long) in
    ap (slice_get (covers n ++ gathered covers models)) z
    ∙ get-right (covers n) (gathered covers models) (cover_at models k + j)
    ∙ cover-get models k j m x h e

-- the block of a model stands at its place
block-get : (models some : List ModelDef) (first k : ℕ) (m : ModelDef) → slice_get some k ≡ Some m
    → slice_get (blocks_from models first some) k ≡ Some (block_of models (first + cover_at some k) m)
unfolding cover_at
block-get models [] first k m h = cc
block-get models (n ∷ some) first zero m h =
    let z : first ≡ first + 0 = omega arith in
    ap (λ (c : ℕ). Some (block_of models c n)) z ∙ ap (λ (m : ModelDef). Some (block_of models (first + 0) m)) (same_Some n m h)
block-get models (n ∷ some) first (suc k) m h =
    let z : (first + length n.gates) + cover_at some k ≡ first + (length n.gates + cover_at some k) = omega arith in
    block-get models some (first + length n.gates) k m h ∙ ap (λ (c : ℕ). Some (block_of models c m)) z

pub block-at : (models : List ModelDef) (k : ℕ) (m : ModelDef) → slice_get models k ≡ Some m
    → slice_get (blocks_of models) k ≡ Some (block_of models (cover_at models k) m)
block-at models k m h =
    let z : 0 + cover_at models k ≡ cover_at models k = omega arith in
    block-get models models 0 k m h ∙ ap (λ (c : ℕ). Some (block_of models c m)) z

block-back : (models some : List ModelDef) (first k : ℕ) (b : Block) → slice_get (blocks_from models first some) k ≡ Some b
    → (m : ModelDef) × (slice_get some k ≡ Some m)
block-back models [] first k b h = cc
block-back models (n ∷ some) first zero b h = (n, refl)
block-back models (n ∷ some) first (suc k) b h = block-back models some (first + length n.gates) k b h

-- a block at a place is that of a model
pub model-of : (models : List ModelDef) (k : ℕ) (b : Block) → slice_get (blocks_of models) k ≡ Some b
    → (m : ModelDef) × (slice_get models k ≡ Some m) × (b ≡ block_of models (cover_at models k) m)
model-of models k b h =
    let m = block-back models models 0 k b h in
    (m.0, m.1, same_Some b (block_of models (cover_at models k) m.0) (sym h ∙ block-at models k m.0 m.1))

pub aligned-at : (models : List ModelDef) (k : ℕ) (m : ModelDef) → slice_get models k ≡ Some m
    → Align models m 0 (drivers_of models (cover_at models k) m) (drives_of models m)
aligned-at models k m h = aligned models m (cover_at models k) (λ j x e. cover-get models k j m x h e)

-- The model at the end of a chain, and its block.
pub record Ends (models : List ModelDef) (chain : List ℕ) (m : ModelDef) : Type 0 where
  pub at : ℕ
  pub is_at : slice_get models at ≡ Some m
  pub block : block_at (blocks_of models) chain ≡ Some (block_of models (cover_at models at) m)

-- A call of the model at the end of a chain.
pub record CalledBy (models : List ModelDef) (j : ℕ) (chain : List ℕ) (m : ModelDef) : Type 0 where
  pub caller : ModelDef
  pub call : named.Call
  pub before : model_at models chain ≡ Some caller
  pub at : slice_get caller.calls j ≡ Some call
  pub model : slice_get models (place bytes_eq (names_of models) call.model) ≡ Some m

pub called-by : (models : List ModelDef) (j : ℕ) (chain : List ℕ) (m : ModelDef) → model_at models (j ∷ chain) ≡ Some m
    → CalledBy models j chain m
called-by models j chain m h =
    let u = then_cases
    (λ (m : ModelDef). option_and_then (λ (c : named.Call). slice_get models (place bytes_eq (names_of models) c.model)) (slice_get m.calls j))
    (model_at models chain) m h in
    let v = then_cases (λ (c : named.Call). slice_get models (place bytes_eq (names_of models) c.model)) (slice_get u.0.calls j) m u.2 in
    record { caller = u.0; call = v.0; before = u.1; at = v.1; model = v.2 }

-- a call of a block is that of the model
pub call-get : (models : List ModelDef) (cover j : ℕ) (m : ModelDef) (c : named.Call) → slice_get m.calls j ≡ Some c
    → slice_get (block_of models cover m).calls j ≡ Some (call_of models m c)
call-get models cover j m c h = slice_get-map (call_of models m) m.calls j ∙ ap (option_map (call_of models m)) h

pub ends : (models : List ModelDef) (chain : List ℕ) (m : ModelDef) → model_at models chain ≡ Some m → Ends models chain m
ends models [] m h = record { at = 0; is_at = h; block = block-at models 0 m h }
ends models (j ∷ chain) m h =
    let c = called-by models j chain m h in
    let old = ends models chain c.caller c.before in
    let k = place bytes_eq (names_of models) c.call.model in
    record {
      at = k;
      is_at = c.model;
      block =
          ap (option_and_then (λ (b : Block). option_and_then (λ (c : Call). slice_get (blocks_of models) c.block) (slice_get b.calls j))) old.block
          ∙ ap (option_and_then (λ (c : Call). slice_get (blocks_of models) c.block)) (call-get models (cover_at models old.at) j c.caller c.call c.at)
          ∙ block-at models k m c.model;
    }
