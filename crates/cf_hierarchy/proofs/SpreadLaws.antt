use Rattle.std.proofs.Common.{◌≡◌, zero, suc, ℕ, ◌+◌, ◌<◌, List, [], ◌∷◌, Bool, Option, Some, None, length, get_or, map, refl, sym, ap, ◌∙◌, subst, arith}
use Rattle.std.specs.List.{slice_get, All}
use Rattle.std.specs.Prelude.{slice_index}
use Rattle.std.specs.Option.{option_map, option_and_then}
use Rattle.std.proofs.lemmas.List.Elements.{All-head, All-tail}
use Rattle.std.proofs.lemmas.Option.{slice_get_within, get_or_from_slice_get, slice_get-get_or}
use Rattle.cf_hierarchy.specs.declared.gates.Node.{Node}
use Rattle.cf_hierarchy.specs.declared.gates.Node.TheVariants as node
use Rattle.cf_hierarchy.specs.Circuits.{Meaning, all_of, value_at, cval}
use Rattle.cf_hierarchy.specs.declared.blocks.Driver.{Driver}
use Rattle.cf_hierarchy.specs.declared.blocks.Driver.TheVariants as driver
use Rattle.cf_hierarchy.specs.declared.blocks.Call.{Call}
use Rattle.cf_hierarchy.specs.declared.blocks.Block.{Block}
use Rattle.cf_hierarchy.specs.declared.instances.Instance.{Instance}
use Rattle.cf_hierarchy.specs.Hierarchy.{block_at, formal_value, driven, hval, IsDriver, IsCall, IsBlock}
use Rattle.cf_hierarchy.specs.Spreads.{no_block, no_call, instance_at, block_of, formal_node, node_of, copy_at, IsSpread, HasNodes}

pub then_cases : {A B : Type 0} (f : A → Option B) (o : Option A) (b : B)
    → option_and_then f o ≡ Some b → (a : A) × (o ≡ Some a) × (f a ≡ Some b)
then_cases f None b h = absurd (cc)
then_cases f (Some a) b h = (a, refl, h)

pub all_get : {A : Type 0} (P : A → Type 0) (xs : List A) (k : ℕ) (x : A) → All P xs
    → slice_get xs k ≡ Some x → P x
all_get P xs k x all h = subst P (get_or_from_slice_get xs k x x h)
    (all k x (slice_get_within xs k x h))

map_agree : {B : Type 0} (f g : ℕ → B) (xs : List ℕ) → All (λ x. f x ≡ g x) xs → map f xs ≡ map g xs
map_agree f g [] h = refl
map_agree f g (x ∷ xs) h =
    let P : ℕ → Type 0 = λ x. f x ≡ g x in
    ap (λ b. b ∷ map f xs) (All-head P x xs h) ∙ ap (λ bs. g x ∷ bs)
    (map_agree f g xs (All-tail P x xs h))

map-map : {A B C : Type 0} (f : A → B) (g : B → C) (xs : List A)
    → map g (map f xs) ≡ map (λ x. g (f x)) xs
map-map f g [] = refl
map-map f g (x ∷ xs) = ap (λ ys. g (f x) ∷ ys) (map-map f g xs)

-- a call, between the path before it and the block that it calls
pub record Called (blocks : List Block) (j : ℕ) (p : List ℕ) (b : Block) : Type 0 where
  pub caller : Block
  pub call : Call
  pub before : block_at blocks p ≡ Some caller
  pub at : slice_get caller.calls j ≡ Some call
  pub block : slice_get blocks call.block ≡ Some b

pub called : (blocks : List Block) (j : ℕ) (p : List ℕ) (b : Block)
    → block_at blocks (j ∷ p) ≡ Some b → Called blocks j p b
called blocks j p b h =
    let u = then_cases (λ b. option_and_then (λ c. slice_get blocks c.block) (slice_get b.calls j))
    (block_at blocks p) b h in
    let v = then_cases (λ c. slice_get blocks c.block) (slice_get u.0.calls j) b u.2 in
    record { caller = u.0; call = v.0; before = u.1; at = v.1; block = v.2 }

-- a block at a path is one of the blocks
pub is_block : (blocks : List Block) (p : List ℕ) (b : Block) → All (IsBlock blocks) blocks
    → block_at blocks p ≡ Some b → IsBlock blocks b
is_block blocks [] b ok h = all_get (IsBlock blocks) blocks 0 b ok h
is_block blocks (j ∷ p) b ok h = let c = called blocks j p b h in all_get (IsBlock blocks) blocks
    c.call.block b ok c.block

pub formal_later : (blocks : List Block) (copies : List Instance) (i k : ℕ) → 0 < i
    → formal_node blocks copies i k ≡ node.Alias
    ((instance_at copies (instance_at copies i).parent).base
    + slice_index (get_or (block_of blocks (instance_at copies
    (instance_at copies i).parent)).calls (instance_at copies i).place no_call).actuals k)
formal_later blocks copies zero k h = absurd (omega arith)
formal_later blocks copies (suc i) k h = refl

module _ (means : Meaning) (blocks : List Block) (bits : List Bool) (copies : List Instance)
    (firsts : List ℕ) (nodes : List Node)
    (ok : All (IsBlock blocks) blocks) (spread : IsSpread blocks copies firsts)
    (has : HasNodes blocks copies firsts nodes) where
  -- the copy at a path is a copy of the block at the path
  pub copied : (p : List ℕ) (b : Block) → block_at blocks p ≡ Some b
      → (copy_at firsts p < length copies) × (block_of blocks
      (instance_at copies (copy_at firsts p)) ≡ b)
  copied [] b h = (
    spread.some,
    ap (λ (k : ℕ). get_or blocks k no_block) spread.root ∙
        get_or_from_slice_get blocks 0 b no_block h,
  )
  copied (j ∷ p) b h =
      let c = called blocks j p b h in
      let old = copied p c.caller c.before in
      let new = (spread.calls (copy_at firsts p) old.0).called j c.call
      (subst (λ (b : Block). slice_get b.calls j ≡ Some c.call) (sym old.1) c.at) in (
        new.0,
        ap (λ (k : ℕ). get_or blocks k no_block) new.1 ∙ get_or_from_slice_get blocks
            c.call.block b no_block c.block,
      )

  base : List ℕ → ℕ
  base p = (instance_at copies (copy_at firsts p)).base

  -- signals have equal values at m
  Same : ℕ → Type 0
  Same m = (p : List ℕ) (s : ℕ) (b : Block) → block_at blocks p ≡ Some b → s < length b.drivers
      → cval means nodes bits m ((instance_at copies (copy_at firsts p)).base + s) ≡ hval means
      blocks bits m p s

  formal_same : (m : ℕ) → Same m → (p : List ℕ) (b : Block) (s k : ℕ) → block_at blocks p ≡ Some b
      → slice_get b.drivers s ≡ Some (driver.Formal k)
      → value_at means bits (cval means nodes bits m)
      (formal_node blocks copies (copy_at firsts p) k) ≡ formal_value blocks bits
      (hval means blocks bits m) p k
  unfolding Same
  formal_same m same [] b s k h e = refl
  formal_same m same (j ∷ p) b s k h e =
      let c = called blocks j p b h in
      let old = copied p c.caller c.before in
      let calls = spread.calls (copy_at firsts p) old.0 in
      let new = calls.called j c.call (subst (λ (b : Block). slice_get b.calls j ≡ Some c.call)
      (sym old.1) c.at) in
      let i = slice_index firsts (copy_at firsts p) + j in
      let good = all_get (IsCall blocks c.caller) c.caller.calls j c.call
      (is_block blocks p c.caller ok c.before).calls c.at in
      let enough : k < length c.call.actuals = good.enough b s k c.block e in
      let t = get_or c.call.actuals k 0 in
      let within : t < length c.caller.drivers = good.actuals k 0 enough in
      let at : get_or (block_of blocks (instance_at copies (copy_at firsts p))).calls j no_call ≡
      c.call =
      ap (λ (b : Block). get_or b.calls j no_call) old.1 ∙ get_or_from_slice_get c.caller.calls j
      c.call no_call c.at in
      let later : 0 < i = omega (arith, calls.later) in
      ap (value_at means bits (cval means nodes bits m)) (formal_later blocks copies i k later)
      ∙ ap (λ (q : ℕ). cval means nodes bits m
      ((instance_at copies q).base + slice_index
      (get_or (block_of blocks (instance_at copies q)).calls (instance_at copies i).place
      no_call).actuals k)) new.2
      ∙ ap (λ (q : ℕ). cval means nodes bits m
      ((instance_at copies (copy_at firsts p)).base + slice_index
      (get_or (block_of blocks (instance_at copies (copy_at firsts p))).calls q no_call).actuals
      k)) new.3
      ∙ ap (λ (d : Call). cval means nodes bits m
      ((instance_at copies (copy_at firsts p)).base + slice_index d.actuals k)) at
      ∙ same p t c.caller c.before within
      ∙ sym (ap (option_and_then (λ (b : Block). option_and_then
      (λ (c : Call). option_and_then (hval means blocks bits m p) (slice_get c.actuals k))
      (slice_get b.calls j))) c.before
      ∙ ap (option_and_then (λ (c : Call). option_and_then (hval means blocks bits m p)
      (slice_get c.actuals k))) c.at
      ∙ ap (option_and_then (hval means blocks bits m p))
      (slice_get-get_or c.call.actuals k 0 enough))

  driver_same : (m : ℕ) → Same m → (p : List ℕ) (b : Block) (s : ℕ) (d : Driver)
      → block_at blocks p ≡ Some b → slice_get b.drivers s ≡ Some d → IsDriver blocks b d
      → value_at means bits (cval means nodes bits m)
      (node_of blocks copies (slice_index firsts (copy_at firsts p)) (copy_at firsts p) d) ≡
      driven means blocks bits (hval means blocks bits m) p d
  unfolding Same
  driver_same m same p b s (driver.Formal k) h e is = formal_same m same p b s k h e
  driver_same m same p b s (driver.Made g) h e is =
      let from = (instance_at copies (copy_at firsts p)).base in
      ap (λ os. option_map (means g.cover) (all_of os))
      (map-map (λ t. from + t) (cval means nodes bits m) g.ins ∙ map_agree
      (λ t. cval means nodes bits m (from + t)) (hval means blocks bits m p) g.ins
      (λ i d l. same p (get_or g.ins i d) b h (is i d l)))
  driver_same m same p b s (driver.Back j f) h e (c, d, at, block, within) =
      same (j ∷ p) f d
      (ap (option_and_then (λ (b : Block). option_and_then (λ (c : Call). slice_get blocks c.block)
      (slice_get b.calls j))) h ∙ ap (option_and_then (λ (c : Call). slice_get blocks c.block))
      at ∙ block)
      within

  all_same : (m : ℕ) → Same m
  unfolding Same cval hval
  all_same zero p s b h l = refl
  all_same (suc m) p s b h l =
      let i = copy_at firsts p in
      let old = copied p b h in
      let d : Driver = get_or b.drivers s (driver.Formal 0) in
      let e : slice_get b.drivers s ≡ Some d = slice_get-get_or b.drivers s (driver.Formal 0) l in
      let is = (is_block blocks p b ok h).drivers s (driver.Formal 0) l in
      ap (option_and_then (value_at means bits (cval means nodes bits m)))
      (has i s d old.0 (subst (λ (b : Block). slice_get b.drivers s ≡ Some d) (sym old.1) e))
      ∙ driver_same m (all_same m) p b s d h e is
      ∙ sym (ap (option_and_then (λ (b : Block). option_and_then
      (driven means blocks bits (hval means blocks bits m) p) (slice_get b.drivers s))) h
      ∙ ap (option_and_then (driven means blocks bits (hval means blocks bits m) p)) e)

  -- a signal of the nodes has the value of the hierarchy's
  pub spread_value : (m : ℕ) (p : List ℕ) (s : ℕ) (b : Block) → block_at blocks p ≡ Some b
      → s < length b.drivers
      → cval means nodes bits m ((instance_at copies (copy_at firsts p)).base + s) ≡ hval means
      blocks bits m p s
  unfolding Same
  spread_value m p s b h l = all_same m p s b h l
