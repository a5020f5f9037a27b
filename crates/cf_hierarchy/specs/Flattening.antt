use Rattle.std.specs.Prelude.{◌≡◌, ℕ, ◌+◌, ◌<◌, ◌≤◌, List, [], ◌∷◌, Bool, false, Some, length, slice_index, slice_index_or, Contains}
use Rattle.std.specs.List.{slice_get}
use Rattle.cf_hierarchy.specs.declared.gates.Gate.{Gate}
use Rattle.cf_hierarchy.specs.Circuits.{Meaning, wire_values}
use Rattle.cf_hierarchy.specs.declared.blocks.Driver.{Driver}
use Rattle.cf_hierarchy.specs.declared.blocks.Driver.TheVariants as driver
use Rattle.cf_hierarchy.specs.declared.blocks.Call.{Call}
use Rattle.cf_hierarchy.specs.declared.blocks.Block.{Block}
use Rattle.cf_hierarchy.specs.Hierarchy.{block_at, hval}
use Rattle.cf_hierarchy.specs.Spreads.{no_block}
use Rattle.cf_hierarchy.specs.declared.flattening.FlatFault.{FlatFault}
use Rattle.cf_hierarchy.specs.declared.flattening.FlatFault.TheVariants as fault

-- an input of the first block is one of n
abbrev pub IsRootInput : ℕ → Driver → Type 0
IsRootInput n (driver.Formal k) = k < n
IsRootInput n (driver.Made g) = Unit {0}
IsRootInput n (driver.Back j f) = Unit {0}

-- On each setting of the inputs the wire of the first block's signal s has the signal's value in
-- the hierarchy, from a number of steps on that is the number of all signals.
abbrev pub ShowsHierarchy : List Block → ℕ → List Gate → List ℕ → ℕ → Type 0
ShowsHierarchy blocks n gates wires s =
    (means : Meaning) (bits : List Bool) → length bits ≡ n → (m : ℕ) → length wires ≤ m
    → hval means blocks bits m [] s
    ≡ Some (slice_index_or (wire_values means bits gates) (slice_index wires s) false)

-- The gate is that of a block: it has the cover, over as many wires.
pub record IsGateIn (blocks : List Block) (g : Gate) : Type 0 where
  pub path : List ℕ
  pub block : Block
  pub signal : ℕ
  pub made : Gate
  pub at : block_at blocks path ≡ Some block
  pub there : slice_get block.drivers signal ≡ Some (driver.Made made)
  pub cover : g.cover ≡ made.cover
  pub ins : length g.ins ≡ length made.ins

-- Every signal of the hierarchy has a value, from the number of all signals on.
abbrev pub HaveValues : List Block → ℕ → List ℕ → Type 0
HaveValues blocks n wires =
    (means : Meaning) (bits : List Bool) → length bits ≡ n → (m : ℕ) → length wires ≤ m
    → (p : List ℕ) (b : Block) (s : ℕ) → block_at blocks p ≡ Some b → s < length b.drivers
    → (value : Bool) × (hval means blocks bits m p s ≡ Some value)

-- the first block
abbrev pub root_of : List Block → Block
root_of blocks = slice_index_or blocks 0 no_block

-- The wire of each signal of the first block is an input or a gate's output.
abbrev pub HaveRootWires : List Block → ℕ → List Gate → List ℕ → Type 0
HaveRootWires blocks n gates wires =
    (s : ℕ) → s < length (root_of blocks).drivers
    → (s < length wires) × (slice_index wires s < n + length gates)

-- The wire of each signal of the first block has its value.
abbrev pub ShowRoot : List Block → ℕ → List Gate → List ℕ → Type 0
ShowRoot blocks n gates wires =
    (s : ℕ) → s < length (root_of blocks).drivers → ShowsHierarchy blocks n gates wires s

-- a signal of the hierarchy: a path, and a signal of the block at its end
pub record Signal : Type 0 where
  pub path : List ℕ
  pub at : ℕ

-- what a driver at a path needs
abbrev pub DriverNeeds : List Block → List ℕ → Driver → Signal → Type 0
DriverNeeds blocks p (driver.Formal k) y =
    (j : ℕ) × (b : Block) × (c : Call) × (p ≡ j ∷ y.path)
    × (block_at blocks y.path ≡ Some b) × (slice_get b.calls j ≡ Some c)
    × (slice_get c.actuals k ≡ Some y.at)
DriverNeeds blocks p (driver.Made g) y = (y.path ≡ p) × Contains g.ins y.at
DriverNeeds blocks p (driver.Back j f) y = (y.path ≡ j ∷ p) × (y.at ≡ f)

pub record SignalNeeds (blocks : List Block) (x y : Signal) : Type 0 where
  pub block : Block
  pub driver : Driver
  pub there : block_at blocks x.path ≡ Some block
  pub drives : slice_get block.drivers x.at ≡ Some driver
  pub needs : DriverNeeds blocks x.path driver y

-- from a signal through the list to a signal, each needing the next
abbrev pub SignalChain : List Block → Signal → List Signal → Signal → Type 0
SignalChain blocks x [] y = SignalNeeds blocks x y
SignalChain blocks x (z ∷ zs) y = SignalNeeds blocks x z × SignalChain blocks z zs y

-- signals of the hierarchy need one another in a ring
pub record HasCycle (blocks : List Block) : Type 0 where
  pub first : Signal
  pub rest : List Signal
  pub ring : SignalChain blocks first rest first

abbrev pub IsCycle : List Block → FlatFault → Type 0
IsCycle blocks fault.NoMemory = Unit {0}
IsCycle blocks fault.Cycle = HasCycle blocks
