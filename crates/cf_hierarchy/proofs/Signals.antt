use Rattle.std.proofs.Common.{◌≡◌, zero, suc, ℕ, ◌+◌, ◌-◌, ◌<◌, ◌≤◌, List, [], ◌∷◌, Some, length, get_or, map, refl, sym, ap, ◌∙◌, subst, inl, inr, arith, length-append}
use Rattle.std.specs.List.{slice_get, All, Contains}
use Rattle.std.specs.Prelude.{slice_index}
use Rattle.std.specs.Option.{option_and_then}
use Rattle.std.proofs.lemmas.Bool.{cases_lt, cases_order}
use Rattle.std.proofs.lemmas.List.{length-map, get_or-map, get_or_default, get_or_past}
use Rattle.std.proofs.lemmas.Option.{same_Some, slice_get_within, get_or_from_slice_get, slice_get-get_or}
use Rattle.cf_order.specs.Orders.{row, Needs, Chain, IsRing, HasNoRing}
use Rattle.cf_hierarchy.specs.declared.gates.Node.{Node}
use Rattle.cf_hierarchy.specs.declared.gates.Node.TheVariants as node
use Rattle.cf_hierarchy.specs.Circuits.{needs, IsNode, IsGateOf, Shows, cval}
use Rattle.cf_hierarchy.specs.declared.gates.Gate.{Gate}
use Rattle.cf_hierarchy.specs.declared.blocks.Driver.{Driver}
use Rattle.cf_hierarchy.specs.declared.blocks.Driver.TheVariants as driver
use Rattle.cf_hierarchy.specs.declared.blocks.Call.{Call}
use Rattle.cf_hierarchy.specs.declared.blocks.Block.{Block}
use Rattle.cf_hierarchy.specs.declared.instances.Instance.{Instance}
use Rattle.cf_hierarchy.specs.Hierarchy.{block_at, IsDriver, IsCall, IsBlock}
use Rattle.cf_hierarchy.specs.Spreads.{no_block, no_call, instance_at, block_of, formal_node, node_of, nodes_from, copy_at, IsSpread, IsBased, IsAt, Grown}
use Rattle.cf_hierarchy.proofs.Growth.{blank}
use Rattle.cf_hierarchy.proofs.SpreadLaws.{called, all_get, is_block, formal_later, spread_value}
use Rattle.cf_hierarchy.proofs.NodeLaws.{has_nodes, is_spread}
use Rattle.cf_hierarchy.specs.Flattening.{Signal, DriverNeeds, SignalNeeds, SignalChain, HasCycle, IsRootInput, ShowsHierarchy, HaveValues, IsGateIn}

abbrev size : List Block → Instance → ℕ
size blocks c = length (block_of blocks c).drivers

-- the place of a number among the signals of copies
located_from : (blocks : List Block) (all : List Instance) (firsts : List ℕ) (end b i : ℕ)
    (cs : List Instance) → IsBased blocks b cs end → (n : ℕ)
    → n < length (nodes_from blocks all firsts i cs)
    → (k : ℕ) × (s : ℕ) × (k < length cs) × (s < size blocks (get_or cs k blank)) ×
    (b + n ≡ (get_or cs k blank).base + s)
located_from blocks all firsts end b i [] based n h = absurd (omega arith)
located_from blocks all firsts end b i (c ∷ cs) based n h =
    let f = node_of blocks all (slice_index firsts i) i in
    elim (cases_lt n (size blocks c)) [
      | inl l ↦ (0, n, omega arith, l, omega (arith, based.0))
      | inr g ↦
          let j = n - size blocks c in
          let w : j < length (nodes_from blocks all firsts (suc i) cs) =
          omega (
            arith,
            g,
            h,
            length-append (map f (block_of blocks c).drivers)
                (nodes_from blocks all firsts (suc i) cs),
            length-map (block_of blocks c).drivers f,
          )
          in
          let r = located_from blocks all firsts end (b + size blocks c) (suc i) cs based.1 j w in
          (suc r.0, r.1, omega (arith, r.2), r.3, omega (arith, r.4, g))
    ]

base_low : (blocks : List Block) (end b : ℕ) (cs : List Instance) → IsBased blocks b cs end
    → (k : ℕ) → k < length cs → b ≤ (get_or cs k blank).base
base_low blocks end b [] based k h = absurd (omega arith)
base_low blocks end b (c ∷ cs) based zero h = omega (arith, based.0)
base_low blocks end b (c ∷ cs) based (suc k) h = omega
    (arith, base_low blocks end (b + size blocks c) cs based.1 k (omega arith))

base_apart : (blocks : List Block) (end b : ℕ) (cs : List Instance) → IsBased blocks b cs end
    → (k l : ℕ) → k < l → l < length cs → (get_or cs k blank).base + size blocks (get_or cs k blank)
    ≤ (get_or cs l blank).base
base_apart blocks end b [] based k l h w = absurd (omega arith)
base_apart blocks end b (c ∷ cs) based k zero h w = absurd (omega arith)
base_apart blocks end b (c ∷ cs) based zero (suc l) h w = omega
    (arith, based.0, base_low blocks end (b + size blocks c) cs based.1 l (omega arith))
base_apart blocks end b (c ∷ cs) based (suc k) (suc l) h w = base_apart blocks end
    (b + size blocks c) cs based.1 k l (omega arith) (omega arith)

is_at : (firsts p : List ℕ) (i : ℕ) → IsAt firsts p i → copy_at firsts p ≡ i
is_at firsts [] i h = sym h
is_at firsts (j ∷ p) i (a, at, l, e) = ap (λ n. slice_index firsts n + j) (is_at firsts p a at) ∙
    sym e

needs_low : (rows : List (List ℕ)) (s t : ℕ) → Needs rows s t → s < length rows
needs_low rows s t n = elim (cases_lt s (length rows)) [
  | inl l ↦ l
  | inr g ↦ let e = ap length (get_or_past rows s [] g) in absurd
      (omega (arith, n.1, e))
]

contains_one : (x y : ℕ) → Contains (x ∷ []) y → x ≡ y
contains_one x y (zero, h, e) = e
contains_one x y (suc k, h, e) = absurd (omega arith)

base_zero : (blocks : List Block) (end : ℕ) (cs : List Instance) → IsBased blocks 0 cs end
    → 0 < length cs → (get_or cs 0 blank).base ≡ 0
base_zero blocks end [] based h = absurd (omega arith)
base_zero blocks end (c ∷ cs) based h = based.0

-- an input's node is no gate
formal_no : (blocks : List Block) (copies : List Instance) (i k : ℕ) (made : Gate)
    → formal_node blocks copies i k ≡ node.Output made → ⊥
formal_no blocks copies zero k made e = cc (e)
formal_no blocks copies (suc i) k made e = cc (e)

-- the signal is there
abbrev pub Valid : List Block → Signal → Type 0
Valid blocks x = (b : Block) × (block_at blocks x.path ≡ Some b) × (x.at < length b.drivers)

module _ (blocks : List Block) (copies : List Instance) (firsts : List ℕ) (end : ℕ)
    (ok : All (IsBlock blocks) blocks) (grown : Grown blocks copies firsts end)
    (all : length copies ≤ length firsts) where
  abbrev pub nodes : List Node
  nodes = nodes_from blocks copies firsts 0 copies

  abbrev pub number : Signal → ℕ
  number x = (instance_at copies (copy_at firsts x.path)).base + x.at

  spread : IsSpread blocks copies firsts
  spread = is_spread blocks copies firsts end grown all

  -- the copy at a path is a copy of the block at the path
  copied : (p : List ℕ) (b : Block) → block_at blocks p ≡ Some b
      → (copy_at firsts p < length copies) × (block_of blocks
      (instance_at copies (copy_at firsts p)) ≡ b)
  copied [] b h = (
    grown.some,
    ap (λ (k : ℕ). get_or blocks k no_block) grown.root ∙
        get_or_from_slice_get blocks 0 b no_block h,
  )
  copied (j ∷ p) b h =
      let c = called blocks j p b h in
      let old = copied p c.caller c.before in
      let new = (spread.calls (copy_at firsts p) old.0).called j c.call
      (subst (λ (b : Block). slice_get b.calls j ≡ Some c.call) (sym old.1) c.at) in (
        new.0,
        ap (λ (k : ℕ). get_or blocks k no_block) new.1 ∙ get_or_from_slice_get blocks
            c.call.block b no_block c.block,
      )

  -- a copy that is called
  child : (j : ℕ) (p : List ℕ) (b : Block) → block_at blocks (j ∷ p) ≡ Some b
      → (0 < copy_at firsts (j ∷ p)) × ((instance_at copies (copy_at firsts (j ∷ p))).parent ≡
      copy_at firsts p) × ((instance_at copies (copy_at firsts (j ∷ p))).place ≡ j)
  child j p b h =
      let c = called blocks j p b h in
      let old = copied p c.caller c.before in
      let calls = spread.calls (copy_at firsts p) old.0 in
      let new = calls.called j c.call (subst (λ (b : Block). slice_get b.calls j ≡ Some c.call)
      (sym old.1) c.at) in
      (omega (arith, calls.later), new.2, new.3)

  -- a copy stands at one path
  path_once : (p q : List ℕ) (b c : Block) → block_at blocks p ≡ Some b → block_at blocks q ≡ Some c
      → copy_at firsts p ≡ copy_at firsts q → p ≡ q
  path_once [] [] b c h k e = refl
  path_once [] (j ∷ q) b c h k e = let low = child j q c k in absurd (omega (arith, low.0, e))
  path_once (j ∷ p) [] b c h k e = let low = child j p b h in absurd (omega (arith, low.0, e))
  path_once (j ∷ p) (l ∷ q) b c h k e =
      let x = child j p b h in let y = child l q c k in
      let u = called blocks j p b h in let v = called blocks l q c k in
      let parent = sym x.1 ∙ ap (λ n. (instance_at copies n).parent) e ∙ y.1 in
      let place : j ≡ l = sym x.2 ∙ ap (λ n. (instance_at copies n).place) e ∙ y.2 in
      ap (λ n. n ∷ p) place ∙ ap (λ (ps : List ℕ). l ∷ ps)
      (path_once p q u.caller v.caller u.before v.before parent)

  size_is : (x : Signal) (v : Valid blocks x)
      → x.at < size blocks (instance_at copies (copy_at firsts x.path))
  size_is x v = let c = copied x.path v.0 v.1 in omega
      (arith, v.2, ap (λ (b : Block). length b.drivers) c.1)

  -- different signals have different numbers
  pub number_once : (x y : Signal) → Valid blocks x → Valid blocks y → number x ≡ number y → x ≡ y
  number_once x y v w e =
      let i = copy_at firsts x.path in let k = copy_at firsts y.path in
      let a = copied x.path v.0 v.1 in let b = copied y.path w.0 w.1 in
      let sx = size_is x v in let sy = size_is y w in
      let same : i ≡ k = elim (cases_order i k) [
        | inl z ↦ z
        | inr (inl l) ↦ absurd (omega (
          arith,
          base_apart blocks end 0 copies grown.based i k l b.0,
          e,
          sx,
        ))
        | inr (inr g) ↦ absurd (omega (
          arith,
          base_apart blocks end 0 copies grown.based k i g a.0,
          e,
          sy,
        ))
      ] in
      let path : x.path ≡ y.path = path_once x.path y.path v.0 w.0 v.1 w.1 same in
      let at : x.at ≡ y.at = omega (arith, e, ap (λ n. (instance_at copies n).base) same) in
      let make : List ℕ → ℕ → Signal = λ p n. record { path = p; at = n } in
      ap (λ p. make p x.at) path ∙ ap (λ n. make y.path n) at

  -- each number is a signal's
  pub signal_of : (n : ℕ) → n < length nodes → (x : Signal) × Valid blocks x × (number x ≡ n)
  signal_of n h =
      let l = located_from blocks copies firsts end 0 0 copies grown.based n h in
      let p = (grown.placed l.0 l.2).1 in
      let x : Signal = record { path = p.path; at = l.1 } in
      let at = is_at firsts p.path l.0 p.at in (
        x,
        (block_of blocks (instance_at copies l.0), p.there, l.3),
        omega
            (arith, l.4, ap (λ n. (instance_at copies n).base) at),
      )

  -- the node of a signal
  pub node_there : (x : Signal) (b : Block) (d : Driver) → block_at blocks x.path ≡ Some b
      → slice_get b.drivers x.at ≡ Some d
      → slice_get nodes (number x) ≡ Some (node_of blocks copies
      (slice_index firsts (copy_at firsts x.path)) (copy_at firsts x.path) d)
  node_there x b d h e =
      let c = copied x.path b h in
      has_nodes blocks copies firsts end grown.based (copy_at firsts x.path) x.at d c.0
      (subst (λ (b : Block). slice_get b.drivers x.at ≡ Some d) (sym c.1) e)

  pub number_within : (x : Signal) → Valid blocks x → number x < length nodes
  number_within x v =
      let d : Driver = get_or v.0.drivers x.at (driver.Formal 0) in
      slice_get_within nodes (number x) _ (node_there x v.0 d v.1
      (slice_get-get_or v.0.drivers x.at (driver.Formal 0) v.2))

  -- the row of a signal
  pub row_there : (x : Signal) (b : Block) (d : Driver) → block_at blocks x.path ≡ Some b
      → slice_get b.drivers x.at ≡ Some d
      → row (map needs nodes) (number x) ≡ needs
      (node_of blocks copies (slice_index firsts (copy_at firsts x.path))
      (copy_at firsts x.path) d)
  row_there x b d h e =
      let f = node_of blocks copies (slice_index firsts (copy_at firsts x.path))
      (copy_at firsts x.path) d in
      let at = node_there x b d h e in
      get_or-map needs nodes (number x) f [] (slice_get_within nodes (number x) f at) ∙ ap needs
      (get_or_from_slice_get nodes (number x) f f at)

  -- what an input of a called copy stands for
  formal_number : (j : ℕ) (p : List ℕ) (b : Block) (k : ℕ) (h : block_at blocks (j ∷ p) ≡ Some b)
      → formal_node blocks copies (copy_at firsts (j ∷ p)) k ≡ node.Alias
      ((instance_at copies (copy_at firsts p)).base + slice_index
      (called blocks j p b h).call.actuals k)
  formal_number j p b k h =
      let c = called blocks j p b h in
      let i = copy_at firsts (j ∷ p) in
      let old = copied p c.caller c.before in
      let new = child j p b h in
      let at : get_or (block_of blocks (instance_at copies (copy_at firsts p))).calls j no_call ≡
      c.call =
      ap (λ (b : Block). get_or b.calls j no_call) old.1 ∙ get_or_from_slice_get c.caller.calls j
      c.call no_call c.at in
      formal_later blocks copies i k new.0
      ∙ ap (λ (q : ℕ). node.Alias ((instance_at copies q).base + slice_index
      (get_or (block_of blocks (instance_at copies q)).calls (instance_at copies i).place
      no_call).actuals k)) new.1
      ∙ ap (λ (q : ℕ). node.Alias ((instance_at copies (copy_at firsts p)).base + slice_index
      (get_or (block_of blocks (instance_at copies (copy_at firsts p))).calls q no_call).actuals
      k)) new.2
      ∙ ap (λ (d : Call). node.Alias ((instance_at copies (copy_at firsts p)).base + slice_index
      d.actuals k)) at

  abbrev own : List ℕ → Driver → Node
  own p d = node_of blocks copies (slice_index firsts (copy_at firsts p)) (copy_at firsts p) d

  is_driver : (p : List ℕ) (s : ℕ) (b : Block) (d : Driver) → block_at blocks p ≡ Some b
      → slice_get b.drivers s ≡ Some d → IsDriver blocks b d
  is_driver p s b d h e = all_get (IsDriver blocks b) b.drivers s d
      (is_block blocks p b ok h).drivers e

  enough : (j : ℕ) (p : List ℕ) (s : ℕ) (b : Block) (k : ℕ) (h : block_at blocks (j ∷ p) ≡ Some b)
      → slice_get b.drivers s ≡ Some (driver.Formal k)
      → k < length (called blocks j p b h).call.actuals
  enough j p s b k h e =
      let u = called blocks j p b h in
      (all_get (IsCall blocks u.caller) u.caller.calls j u.call
      (is_block blocks p u.caller ok u.before).calls u.at).enough b s k u.block e

  -- what the node of a signal needs are the numbers of what the signal needs
  back : (p : List ℕ) (s : ℕ) (b : Block) (d : Driver) → block_at blocks p ≡ Some b
      → slice_get b.drivers s ≡ Some d → (t : ℕ) → Contains (needs (own p d)) t
      → (y : Signal) × DriverNeeds blocks p d y × Valid blocks y × (number y ≡ t)
  back [] s b (driver.Formal k) h e t c = absurd (omega (arith, c.1))
  back (j ∷ p) s b (driver.Formal k) h e t c =
      let u = called blocks j p b h in
      let one = contains_one _ t (subst (λ (n : Node). Contains (needs n) t)
      (formal_number j p b k h) c) in
      let more = enough j p s b k h e in
      let within = (all_get (IsCall blocks u.caller) u.caller.calls j u.call
      (is_block blocks p u.caller ok u.before).calls u.at).actuals k 0 more in (
        record { path = p; at = get_or u.call.actuals k 0 },
        (j, u.caller, u.call, refl, u.before, u.at, slice_get-get_or u.call.actuals k 0 more),
        (u.caller, u.before, within),
        one,
      )
  back p s b (driver.Made g) h e t (k, l, z) =
      let from = (instance_at copies (copy_at firsts p)).base in
      let m : k < length g.ins = omega (arith, l, length-map g.ins (λ t. from + t)) in
      let is = is_driver p s b (driver.Made g) h e in (
        record { path = p; at = get_or g.ins k 0 },
        (refl, (k, m, get_or_default g.ins k (get_or g.ins k 0) 0 m)),
        (b, h, is k 0 m),
        sym
            (get_or-map (λ t. from + t) g.ins k 0 t m) ∙ z,
      )
  back p s b (driver.Back j f) h e t c =
      let is = is_driver p s b (driver.Back j f) h e in (
        record { path = j ∷ p; at = f },
        (refl, refl),
        (
          is.1,
          ap (option_and_then (λ (b : Block). option_and_then
              (λ (c : Call). slice_get blocks c.block) (slice_get b.calls j))) h ∙ ap
              (option_and_then (λ (c : Call). slice_get blocks c.block)) is.2 ∙ is.3,
          is.4,
        ),
        contains_one _ t c,
      )

  forth : (p : List ℕ) (s : ℕ) (b : Block) (d : Driver) → block_at blocks p ≡ Some b
      → slice_get b.drivers s ≡ Some d → (y : Signal) → DriverNeeds blocks p d y
      → Valid blocks y × Contains (needs (own p d)) (number y)
  forth [] s b (driver.Formal k) h e y (j, a, c, pe, before, at, act) = let no : ⊥ = cc (pe) in
      absurd no
  forth (l ∷ q) s b (driver.Formal k) h e y (j, a, c, pe, before, at, act) =
      let u = called blocks l q b h in
      let path : q ≡ y.path = cc (pe) in
      let place : l ≡ j = cc (pe) in
      let same : u.caller ≡ a = let z : Some u.caller ≡ Some a = sym u.before ∙ ap (block_at blocks)
      path ∙ before in cc (z) in
      let call : u.call ≡ c = let z : Some u.call ≡ Some c = sym u.at ∙ ap
      (λ (b : Block). slice_get b.calls l) same ∙ ap (λ n. slice_get a.calls n) place ∙ at in cc
      (z) in
      let k' = slice_get_within c.actuals k y.at act in
      let within = (all_get (IsCall blocks a) a.calls j c (is_block blocks y.path a ok before).calls
      at).actuals k 0 k' in
      let value = get_or_from_slice_get c.actuals k y.at 0 act in
      let num : (instance_at copies (copy_at firsts q)).base + slice_index u.call.actuals k ≡ number
      y =
      ap (λ (c : Call). (instance_at copies (copy_at firsts q)).base + slice_index c.actuals k)
      call
      ∙ ap (λ n. (instance_at copies (copy_at firsts q)).base + n) value
      ∙ ap (λ (p : List ℕ). (instance_at copies (copy_at firsts p)).base + y.at) path in (
        (a, before, omega (arith, within, value)),
        subst (λ (n : Node). Contains (needs n) (number y)) (sym (formal_number l q b k h))
            (0, omega arith, num),
      )
  forth p s b (driver.Made g) h e y (pe, c) =
      let from = (instance_at copies (copy_at firsts p)).base in
      let is = is_driver p s b (driver.Made g) h e in
      let in' : y.at < length b.drivers = let w = is c.0 y.at c.1 in omega (arith, w, c.2) in
      let num : from + y.at ≡ number y = ap (λ (p : List ℕ).
      (instance_at copies (copy_at firsts p)).base + y.at) (sym pe) in (
        (b, ap (block_at blocks) pe ∙ h, in'),
        (
          c.0,
          omega (arith, c.1, length-map g.ins (λ t. from + t)),
          get_or-map (λ t. from + t) g.ins
              c.0 y.at (number y) c.1 ∙ ap (λ n. from + n) c.2 ∙ num,
        ),
      )
  forth p s b (driver.Back j f) h e y (pe, at) =
      let is = is_driver p s b (driver.Back j f) h e in
      let there = ap (option_and_then (λ (b : Block). option_and_then
      (λ (c : Call). slice_get blocks c.block) (slice_get b.calls j))) h ∙ ap
      (option_and_then (λ (c : Call). slice_get blocks c.block)) is.2 ∙ is.3 in
      let num : (instance_at copies (copy_at firsts (j ∷ p))).base + f ≡ number y =
      ap (λ n. (instance_at copies (copy_at firsts (j ∷ p))).base + n) (sym at) ∙ ap
      (λ (p : List ℕ). (instance_at copies (copy_at firsts p)).base + y.at) (sym pe) in
      ((is.1, ap (block_at blocks) pe ∙ there, omega (arith, is.4, at)), (0, omega arith, num))

  abbrev rows : List (List ℕ)
  rows = map needs nodes

  step_back : (x : Signal) → Valid blocks x → (t : ℕ) → Needs rows (number x) t
      → (y : Signal) × SignalNeeds blocks x y × Valid blocks y × (number y ≡ t)
  step_back x v t n =
      let d : Driver = get_or v.0.drivers x.at (driver.Formal 0) in
      let e : slice_get v.0.drivers x.at ≡ Some d = slice_get-get_or v.0.drivers x.at
      (driver.Formal 0) v.2 in
      let r = back x.path x.at v.0 d v.1 e t (subst (λ ts. Contains ts t) (row_there x v.0 d v.1 e)
      n) in
      (r.0, record { block = v.0; driver = d; there = v.1; drives = e; needs = r.1 }, r.2, r.3)

  step_forth : (x y : Signal) → SignalNeeds blocks x y
      → Valid blocks y × Needs rows (number x) (number y)
  step_forth x y n =
      let f = forth x.path x.at n.block n.driver n.there n.drives y n.needs in (
        f.0,
        subst (λ ts. Contains ts (number y))
            (sym (row_there x n.block n.driver n.there n.drives)) f.1,
      )

  chain_forth : (x : Signal) (zs : List Signal) (y : Signal) → SignalChain blocks x zs y
      → Chain rows (number x) (map number zs) (number y)
  chain_forth x [] y n = (step_forth x y n).1
  chain_forth x (z ∷ zs) y (n, more) = ((step_forth x z n).1, chain_forth z zs y more)

  chain_back : (a : ℕ) (rest : List ℕ) (b : ℕ) (x : Signal) → Valid blocks x → number x ≡ a
      → Chain rows a rest b → (zs : List Signal) × (y : Signal) × SignalChain blocks x zs y × Valid
      blocks y × (number y ≡ b)
  chain_back a [] b x v e n =
      let s = step_back x v b (subst (λ a. Needs rows a b) (sym e) n) in ([], s.0, s.1, s.2, s.3)
  chain_back a (c ∷ cs) b x v e (n, more) =
      let s = step_back x v c (subst (λ a. Needs rows a c) (sym e) n) in
      let r = chain_back c cs b s.0 s.2 s.3 more in
      (s.0 ∷ r.0, r.1, (s.1, r.2), r.3, r.4)

  chain_within : (a : ℕ) (rest : List ℕ) (b : ℕ) → Chain rows a rest b → a < length nodes
  chain_within a [] b n = omega (arith, needs_low rows a b n, length-map nodes needs)
  chain_within a (c ∷ cs) b n = omega (arith, needs_low rows a c n.0, length-map nodes needs)

  -- where the hierarchy has a ring, its numbers have one
  pub no_cycle : HasNoRing rows → HasCycle blocks → ⊥
  no_cycle none cycle = none (number cycle.first ∷ map number cycle.rest)
      (chain_forth cycle.first cycle.rest cycle.first cycle.ring)

  -- and the other way
  pub cycle : (ring : List ℕ) → IsRing rows ring → HasCycle blocks
  cycle [] ring = absurd ring
  cycle (a ∷ rest) ring =
      let x = signal_of a (chain_within a rest a ring) in
      let r = chain_back a rest a x.0 x.1 x.2 ring in
      let same : r.1 ≡ x.0 = number_once r.1 x.0 r.3 x.1 (r.4 ∙ sym x.2) in
      record {
        first = x.0;
        rest = r.0;
        ring = subst (λ (y : Signal). SignalChain blocks x.0 r.0 y)
            same r.2;
      }

  pub rows_below : All (All (λ t. t < length rows)) rows
  rows_below k d h i e l =
      let w : k < length nodes = omega (arith, h, length-map nodes needs) in
      let x = signal_of k w in
      let t = get_or (get_or rows k d) i e in
      let same : row rows k ≡ get_or rows k d = get_or_default rows k [] d h in
      let n : Needs rows k t = subst (λ ts. Contains ts t) (sym same)
      (i, l, get_or_default (get_or rows k d) i t e l) in
      let s = step_back x.0 x.1 t (subst (λ a. Needs rows a t) (sym x.2) n) in
      omega (arith, number_within s.0 s.2, s.3, length-map nodes needs)

  own_ok : (n : ℕ) (p : List ℕ) (s : ℕ) (b : Block) (d : Driver) → block_at blocks p ≡ Some b
      → slice_get b.drivers s ≡ Some d → All (IsRootInput n) (get_or blocks 0 no_block).drivers
      → IsNode n (own p d)
  own_ok n [] s b (driver.Formal k) h e root =
      let same : get_or blocks 0 no_block ≡ b = get_or_from_slice_get blocks 0 b no_block h in
      all_get (IsRootInput n) b.drivers s (driver.Formal k)
      (subst (λ (b : Block). All (IsRootInput n) b.drivers) same root) e
  own_ok n (j ∷ p) s b (driver.Formal k) h e root = subst (IsNode n) (sym (formal_number j p b k h))
      tt
  own_ok n p s b (driver.Made g) h e root = tt
  own_ok n p s b (driver.Back j f) h e root = tt

  pub nodes_ok : (n : ℕ) → All (IsRootInput n) (get_or blocks 0 no_block).drivers
      → All (IsNode n) nodes
  nodes_ok n root k d h =
      let x = signal_of k h in
      let v = x.1 in
      let f : Driver = get_or v.0.drivers x.0.at (driver.Formal 0) in
      let e : slice_get v.0.drivers x.0.at ≡ Some f = slice_get-get_or v.0.drivers x.0.at
      (driver.Formal 0) v.2 in
      let at = get_or_from_slice_get nodes (number x.0) (own x.0.path f) d
      (node_there x.0 v.0 f v.1 e) in
      subst (λ k. IsNode n (get_or nodes k d)) x.2
      (subst (IsNode n) (sym at) (own_ok n x.0.path x.0.at v.0 f v.1 e root))

  -- a wire that shows a number of the first copy shows the hierarchy's signal
  pub shows_root : (n : ℕ) (gates : List Gate) (wires : List ℕ) (s : ℕ)
      → s < length (get_or blocks 0 no_block).drivers → Shows nodes n gates s (get_or wires s 0)
      → length nodes ≤ length wires → ShowsHierarchy blocks n gates wires s
  shows_root n gates wires s h shows long means bits inputs m l =
      let zero_block : (get_or copies 0 blank).block < length blocks = grown.there 0 grown.some in
      let first : block_at blocks [] ≡ Some (get_or blocks 0 no_block) = slice_get-get_or blocks 0
      no_block (omega (arith, zero_block, grown.root)) in
      let z : (instance_at copies (copy_at firsts [])).base + s ≡ s = omega
      (arith, base_zero blocks end copies grown.based grown.some) in
      sym (spread_value means blocks bits copies firsts nodes ok spread
      (has_nodes blocks copies firsts end grown.based) m [] s (get_or blocks 0 no_block) first
      h)
      ∙ ap (λ k. cval means nodes bits m k) z
      ∙ shows means bits inputs m (omega (arith, l, long))

  -- a gate of a node is that of a block
  gate_own : (p : List ℕ) (b : Block) (s : ℕ) (d : Driver) (made g : Gate) → block_at blocks p ≡ Some b
      → slice_get b.drivers s ≡ Some d → own p d ≡ node.Output made
      → g.cover ≡ made.cover → length g.ins ≡ length made.ins → IsGateIn blocks g
  gate_own p b s (driver.Formal k) made g h e is cover ins =
      absurd (formal_no blocks copies (copy_at firsts p) k made is)
  gate_own p b s (driver.Made m) made g h e is cover ins =
      let at = (instance_at copies (copy_at firsts p)).base in
      let same : record { ins = map (λ t. at + t) m.ins; cover = m.cover } ≡ made = cc (is) in
      record {
        path = p;
        block = b;
        signal = s;
        made = m;
        at = h;
        there = e;
        cover = cover ∙ ap (λ (g : Gate). g.cover) (sym same);
        ins = ins ∙ ap (λ (g : Gate). length g.ins) (sym same) ∙ length-map m.ins (λ t. at + t);
      }
  gate_own p b s (driver.Back j f) made g h e is cover ins = let none : ⊥ = cc (is) in absurd none

  pub gate_in : (g : Gate) → IsGateOf nodes g → IsGateIn blocks g
  gate_in g is =
      let x = signal_of is.signal (slice_get_within nodes is.signal (node.Output is.made) is.there) in
      let v = x.1 in
      let f : Driver = get_or v.0.drivers x.0.at (driver.Formal 0) in
      let e : slice_get v.0.drivers x.0.at ≡ Some f = slice_get-get_or v.0.drivers x.0.at
      (driver.Formal 0) v.2 in
      let there = node_there x.0 v.0 f v.1 e in
      gate_own x.0.path v.0 x.0.at f is.made g v.1 e
      (same_Some (own x.0.path f) (node.Output is.made)
      (sym there ∙ ap (slice_get nodes) x.2 ∙ is.there)) is.cover is.ins

  -- every signal of the hierarchy has a value, where every number's wire shows it
  pub all_known : (n : ℕ) (gates : List Gate) (wires : List ℕ)
      → ((s : ℕ) → s < length nodes → Shows nodes n gates s (get_or wires s 0))
      → length nodes ≤ length wires → HaveValues blocks n wires
  all_known n gates wires shows long means bits inputs m l p b s h below =
      let w = number_within (record { path = p; at = s }) (b, h, below) in
      let k = (instance_at copies (copy_at firsts p)).base + s in (
        _,
        sym (spread_value means blocks bits copies firsts nodes ok spread
            (has_nodes blocks copies firsts end grown.based) m p s b h below)
            ∙ shows k w means bits inputs m (omega (arith, l, long)),
      )

  pub root_within : (s : ℕ) → s < length (get_or blocks 0 no_block).drivers → s < length nodes
  root_within s h =
      let zero_block : (get_or copies 0 blank).block < length blocks = grown.there 0 grown.some in
      let first : block_at blocks [] ≡ Some (get_or blocks 0 no_block) = slice_get-get_or blocks 0
      no_block (omega (arith, zero_block, grown.root)) in
      let w = number_within (record { path = []; at = s }) (get_or blocks 0 no_block, first, h) in
      omega (arith, w)

-- the rows that the program makes
pub rows_are : (blocks : List Block) (copies : List Instance) (firsts : List ℕ)
    (nodes read : List Node) (rows seen : List (List ℕ))
    → nodes ≡ nodes_from blocks copies firsts 0 copies → read ≡ nodes → rows ≡ map needs read
    → seen ≡ rows
    → seen ≡ map needs (nodes_from blocks copies firsts 0 copies)
rows_are blocks copies firsts nodes read rows seen n r m s = s ∙ m ∙ ap
    (λ (ns : List Node). map needs ns) (r ∙ n)
