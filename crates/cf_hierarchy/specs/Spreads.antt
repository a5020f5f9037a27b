use Rattle.std.specs.Prelude.{◌≡◌, ℕ, zero, suc, ◌+◌, ◌<◌, ◌≤◌, List, [], ◌∷◌, ◌++◌, Some, map, length, slice_index, slice_index_or}
use Rattle.std.specs.List.{slice_get}
use Rattle.cf_hierarchy.specs.declared.gates.Node.{Node}
use Rattle.cf_hierarchy.specs.declared.gates.Node.TheVariants as node
use Rattle.cf_hierarchy.specs.declared.blocks.Driver.{Driver}
use Rattle.cf_hierarchy.specs.declared.blocks.Driver.TheVariants as driver
use Rattle.cf_hierarchy.specs.declared.blocks.Call.{Call}
use Rattle.cf_hierarchy.specs.declared.blocks.Block.{Block}
use Rattle.cf_hierarchy.specs.declared.instances.Instance.{Instance}
use Rattle.cf_hierarchy.specs.Hierarchy.{block_at}

-- a block without signals and calls, and a call that gives nothing
abbrev pub no_block : Block
no_block = record { drivers = []; calls = [] }

abbrev pub no_call : Call
no_call = record { block = 0; actuals = [] }

-- the copy at a place, and the block that a copy is one of
abbrev pub instance_at : List Instance → ℕ → Instance
instance_at copies i =
    slice_index_or copies i (record { block = 0; parent = 0; place = 0; base = 0 })

abbrev pub block_of : List Block → Instance → Block
block_of blocks c = slice_index_or blocks c.block no_block

-- the copy that calls the one at a place
abbrev pub parent_at : List Instance → ℕ → Instance
parent_at copies i = instance_at copies (instance_at copies i).parent

-- the block's call at the copy's place is one of the copy's block
abbrev pub IsCalledBy : List Block → Block → Instance → Type 0
IsCalledBy blocks b copy =
    (c : Call) × (slice_get b.calls copy.place ≡ Some c) × (c.block ≡ copy.block)

-- an input of the first copy is an input; one of another copy is what the call gives it
abbrev pub formal_node : List Block → List Instance → ℕ → ℕ → Node
formal_node blocks copies zero k = node.Input k
formal_node blocks copies (suc i) k =
    let copy = instance_at copies (suc i) in
    let parent = instance_at copies copy.parent in
    let call = slice_index_or (block_of blocks parent).calls copy.place no_call in
    node.Alias (parent.base + slice_index call.actuals k)

-- the node of a driver in copy i, the copies that it calls being those from `first` on
abbrev pub node_of : List Block → List Instance → ℕ → ℕ → Driver → Node
node_of blocks copies first i (driver.Formal k) = formal_node blocks copies i k
node_of blocks copies first i (driver.Made g) =
    node.Output (record { ins = map (λ t. (instance_at copies i).base + t) g.ins; cover = g.cover })
node_of blocks copies first i (driver.Back j f) =
    node.Alias ((instance_at copies (first + j)).base + f)

-- the copy at a path
abbrev pub copy_at : List ℕ → List ℕ → ℕ
copy_at firsts [] = 0
copy_at firsts (j ∷ p) = slice_index firsts (copy_at firsts p) + j

-- copy i has the copy of each of its calls behind `first`
pub record HasCalls (blocks : List Block) (copies : List Instance) (first i : ℕ) : Type 0 where
  pub later : 0 < first
  pub called : (j : ℕ) (c : Call)
      → slice_get (block_of blocks (instance_at copies i)).calls j ≡ Some c
      → (first + j < length copies)
      × ((instance_at copies (first + j)).block ≡ c.block)
      × ((instance_at copies (first + j)).parent ≡ i)
      × ((instance_at copies (first + j)).place ≡ j)

-- all copies of the hierarchy
pub record IsSpread (blocks : List Block) (copies : List Instance) (firsts : List ℕ) : Type 0 where
  pub some : 0 < length copies
  pub root : (instance_at copies 0).block ≡ 0
  pub there : (i : ℕ) → i < length copies → (instance_at copies i).block < length blocks
  pub calls : (i : ℕ) → i < length copies → HasCalls blocks copies (slice_index firsts i) i

-- the nodes of all copies
abbrev pub HasNodes : List Block → List Instance → List ℕ → List Node → Type 0
HasNodes blocks copies firsts nodes =
    (i s : ℕ) (d : Driver) → i < length copies
    → slice_get (block_of blocks (instance_at copies i)).drivers s ≡ Some d
    → slice_get nodes ((instance_at copies i).base + s)
    ≡ Some (node_of blocks copies (slice_index firsts i) i d)

-- the copies that calls make, the first call at `place`, and the first signal with the number `base`
abbrev pub made : List Block → ℕ → ℕ → ℕ → List Call → List Instance
made blocks parent place base [] = []
made blocks parent place base (c ∷ cs) =
    record { block = c.block; parent = parent; place = place; base = base }
    ∷ made blocks parent (suc place)
    (base + length (slice_index_or blocks c.block no_block).drivers) cs

-- the number behind the last signal of those copies
abbrev pub made_end : List Block → ℕ → List Call → ℕ
made_end blocks base [] = base
made_end blocks base (c ∷ cs) =
    made_end blocks (base + length (slice_index_or blocks c.block no_block).drivers) cs

-- no path has more calls
abbrev pub IsAtMostDeep : List Block → ℕ → Type 0
IsAtMostDeep blocks n = (p : List ℕ) (b : Block) → block_at blocks p ≡ Some b → length p ≤ n

-- the signals of copies have the numbers from b on, one copy after another, up to the end
abbrev pub IsBased : List Block → ℕ → List Instance → ℕ → Type 0
IsBased blocks b [] end = b ≡ end
IsBased blocks b (c ∷ cs) end =
    (c.base ≡ b) × IsBased blocks (b + length (block_of blocks c).drivers) cs end

-- copy i stands at the path, and the copies on the way have theirs
abbrev pub IsAt : List ℕ → List ℕ → ℕ → Type 0
IsAt firsts [] i = i ≡ 0
IsAt firsts (j ∷ p) i =
    (a : ℕ) × IsAt firsts p a × (a < length firsts) × (i ≡ slice_index firsts a + j)

-- a copy of the block stands at a path of d calls
pub record IsPlaced (blocks : List Block) (firsts : List ℕ) (i : ℕ) (b : Block) (d : ℕ)
    : Type 0 where
  pub path : List ℕ
  pub there : block_at blocks path ≡ Some b
  pub at : IsAt firsts path i
  pub calls : length path ≡ d

-- copies of which the first have theirs
pub record Grown (blocks : List Block) (copies : List Instance) (firsts : List ℕ) (end : ℕ)
    : Type 0 where
  pub some : 0 < length copies
  pub ahead : length firsts ≤ length copies
  pub root : (instance_at copies 0).block ≡ 0
  pub there : (i : ℕ) → i < length copies → (instance_at copies i).block < length blocks
  pub calls : (i : ℕ) → i < length firsts → HasCalls blocks copies (slice_index firsts i) i
  pub parents : (i : ℕ) → 0 < i → i < length copies
      → ((instance_at copies i).parent < length firsts)
      × IsCalledBy blocks (block_of blocks (parent_at copies i)) (instance_at copies i)
  pub placed : (i : ℕ) → i < length copies
      → (d : ℕ) × IsPlaced blocks firsts i (block_of blocks (instance_at copies i)) d
  pub based : IsBased blocks 0 copies end

-- copy i is called, and its call gives input k a signal
pub record IsReached (blocks : List Block) (copies : List Instance) (i k : ℕ) : Type 0 where
  pub parent : (instance_at copies i).parent < length copies
  pub block : (instance_at copies (instance_at copies i).parent).block < length blocks
  pub place : (instance_at copies i).place < length (block_of blocks (parent_at copies i)).calls
  pub actual : k < length (slice_index_or (block_of blocks (parent_at copies i)).calls
      (instance_at copies i).place no_call).actuals

-- the nodes of copies that stand from place i on, one copy after another
abbrev pub nodes_from : List Block → List Instance → List ℕ → ℕ → List Instance → List Node
nodes_from blocks copies firsts i [] = []
nodes_from blocks copies firsts i (c ∷ cs) =
    map (node_of blocks copies (slice_index firsts i) i) (block_of blocks c).drivers
    ++ nodes_from blocks copies firsts (suc i) cs
