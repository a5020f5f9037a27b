use Rattle.std.specs.Prelude.{◌≡◌, ℕ, ◌<◌, ◌≤◌, List, Some, map, length}
use Rattle.cf_hierarchy.specs.declared.blocks.Call.{Call}
use Rattle.cf_hierarchy.specs.declared.blocks.Block.{Block}
use Rattle.cf_hierarchy.specs.Hierarchy.{block_at}
use Rattle.cf_hierarchy.specs.Spreads.{IsAtMostDeep}
use Rattle.cf_order.specs.Chains.{total}
use Rattle.cf_hierarchy.specs.Flattening.{HasCycle}
use Rattle.cf_hierarchy.specs.declared.linking.LinkFault.{LinkFault}
use Rattle.cf_hierarchy.specs.declared.linking.LinkFault.TheVariants as fault

-- the blocks that are called
abbrev pub called : List Call → List ℕ
called cs = map (λ c. c.block) cs

abbrev pub calls : List Block → List (List ℕ)
calls blocks = map (λ b. called b.calls) blocks

-- some chain of calls from the first block has more than 64 calls
pub record IsTooDeep (blocks : List Block) : Type 0 where
  pub path : List ℕ
  pub block : Block
  pub there : block_at blocks path ≡ Some block
  pub long : 64 < length path

-- what the ends of all chains of at most 64 calls weigh together
abbrev pub expanded : List Block → List ℕ → ℕ
expanded blocks weights = total (calls blocks) weights 64 0

-- how many signals all chains of at most so many calls have
abbrev pub signals_within : List Block → ℕ → ℕ
signals_within blocks levels = total (calls blocks) (map (λ b. length b.drivers) blocks) levels 0

-- No chain of calls is too long, the expansion isn't too large, and no signals need one another in a ring.
pub record HasNoFault (blocks : List Block) (weights : List ℕ) : Type 0 where
  pub deep : IsAtMostDeep blocks 64
  pub large : expanded blocks weights ≤ 1000000
  pub cycle : HasCycle blocks → ⊥

-- a fault is told only where no earlier one stands
abbrev pub HasFault : List Block → List ℕ → LinkFault → Type 0
HasFault blocks weights fault.NoMemory = Unit {0}
HasFault blocks weights fault.TooDeep = IsTooDeep blocks
HasFault blocks weights fault.TooLarge = IsAtMostDeep blocks 64 × (1000000 < expanded blocks weights)
HasFault blocks weights fault.Cycle =
    IsAtMostDeep blocks 64 × (expanded blocks weights ≤ 1000000) × HasCycle blocks
