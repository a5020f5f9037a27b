use Rattle.std.specs.Prelude.{◌≡◌, ℕ, zero, suc, ◌<◌, List, [], ◌∷◌, Bool, Option, Some, None, map, length, All}
use Rattle.std.specs.List.{slice_get}
use Rattle.std.specs.Option.{option_map, option_and_then}
use Rattle.cf_hierarchy.specs.Circuits.{Meaning, all_of}
use Rattle.cf_hierarchy.specs.declared.blocks.Driver.{Driver}
use Rattle.cf_hierarchy.specs.declared.blocks.Driver.TheVariants as driver
use Rattle.cf_hierarchy.specs.declared.blocks.Call.{Call}
use Rattle.cf_hierarchy.specs.declared.blocks.Block.{Block}

-- A path is a chain of calls from the first block, the last call first. This is the block at its
-- end.
abbrev pub block_at : List Block → List ℕ → Option Block
block_at blocks [] = slice_get blocks 0
block_at blocks (j ∷ p) =
    option_and_then
    (λ b. option_and_then (λ c. slice_get blocks c.block) (slice_get b.calls j))
    (block_at blocks p)

-- what drives an input of the block at a path, from the values of the signals of the path before
-- the last call
abbrev pub formal_value : List Block → List Bool → (List ℕ → ℕ → Option Bool) → List ℕ → ℕ
    → Option Bool
formal_value blocks bits at [] k = slice_get bits k
formal_value blocks bits at (j ∷ p) k =
    option_and_then
    (λ b. option_and_then (λ c. option_and_then (at p) (slice_get c.actuals k)) (slice_get b.calls j))
    (block_at blocks p)

-- the value of what a driver of the block at a path drives, from the values of signals
abbrev pub driven : Meaning → List Block → List Bool → (List ℕ → ℕ → Option Bool) → List ℕ → Driver
    → Option Bool
driven means blocks bits at p (driver.Formal k) = formal_value blocks bits at p k
driven means blocks bits at p (driver.Made g) =
    option_map (means g.cover) (all_of (map (at p) g.ins))
driven means blocks bits at p (driver.Back j f) = at (j ∷ p) f

-- the value of a signal of the hierarchy, which is a path and a signal of the block at its end, by
-- recursion on m
unfoldable pub hval : Meaning → List Block → List Bool → ℕ → List ℕ → ℕ → Option Bool
hval means blocks bits zero p s = None
hval means blocks bits (suc m) p s =
    option_and_then
    (λ b. option_and_then (driven means blocks bits (hval means blocks bits m) p) (slice_get b.drivers s))
    (block_at blocks p)

-- the driver speaks of signals and calls that are there
abbrev pub IsDriver : List Block → Block → Driver → Type 0
IsDriver blocks b (driver.Formal k) = Unit {0}
IsDriver blocks b (driver.Made g) = All (λ t. t < length b.drivers) g.ins
IsDriver blocks b (driver.Back j f) =
    (c : Call) × (d : Block)
    × (slice_get b.calls j ≡ Some c) × (slice_get blocks c.block ≡ Some d) × (f < length d.drivers)

-- the call gives each input of the block that it calls a signal
pub record IsCall (blocks : List Block) (b : Block) (c : Call) : Type 0 where
  pub there : c.block < length blocks
  pub actuals : All (λ t. t < length b.drivers) c.actuals
  pub enough : (d : Block) (s k : ℕ) → slice_get blocks c.block ≡ Some d
      → slice_get d.drivers s ≡ Some (driver.Formal k) → k < length c.actuals

-- The block's drivers and calls speak of what is there.
pub record IsBlock (blocks : List Block) (b : Block) : Type 0 where
  pub drivers : All (IsDriver blocks b) b.drivers
  pub calls : All (IsCall blocks b) b.calls
