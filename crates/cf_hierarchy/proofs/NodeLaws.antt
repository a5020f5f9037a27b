use Rattle.std.proofs.Common.{◌≡◌, zero, suc, ℕ, ◌+◌, ◌<◌, ◌≤◌, List, [], ◌∷◌, ◌++◌, Some, length, get_or, drop, map, sym, ap, ◌∙◌, subst, arith, append_assoc}
use Rattle.std.specs.List.{slice_get, All}
use Rattle.std.specs.Prelude.{slice_index}
use Rattle.std.specs.Option.{option_map}
use Rattle.std.proofs.lemmas.List.{drop_more, length-map, get_or_read}
use Rattle.std.proofs.lemmas.Option.{slice_get_within, get_or_from_slice_get, slice_get-get_or, slice_get-map}
use Rattle.cf_hierarchy.specs.declared.gates.Node.{Node}
use Rattle.cf_hierarchy.specs.declared.blocks.Driver.{Driver}
use Rattle.cf_hierarchy.specs.declared.blocks.Driver.TheVariants as driver
use Rattle.cf_hierarchy.specs.declared.blocks.Call.{Call}
use Rattle.cf_hierarchy.specs.declared.blocks.Block.{Block}
use Rattle.cf_hierarchy.specs.declared.instances.Instance.{Instance}
use Rattle.cf_hierarchy.specs.Hierarchy.{IsBlock, IsDriver}
use Rattle.cf_hierarchy.specs.Spreads.{no_block, no_call, instance_at, block_of, node_of, nodes_from, HasNodes, IsSpread, IsBased, IsReached, Grown}
use Rattle.cf_hierarchy.proofs.Growth.{blank}

pub slice_get_left : {A : Type 0} (xs ys : List A) (i : ℕ) (x : A) → slice_get xs i ≡ Some x
    → slice_get (xs ++ ys) i ≡ Some x
slice_get_left [] ys i x h = absurd (cc)
slice_get_left (a ∷ xs) ys zero x h = h
slice_get_left (a ∷ xs) ys (suc i) x h = slice_get_left xs ys i x h

pub slice_get_right : {A : Type 0} (xs ys : List A) (i : ℕ)
    → slice_get (xs ++ ys) (length xs + i) ≡ slice_get ys i
slice_get_right [] ys i = let z : 0 + i ≡ i = omega arith in ap (λ n. slice_get ys n) z
slice_get_right (a ∷ xs) ys i = let z : suc (length xs) + i ≡ suc (length xs + i) = omega arith in
    ap (λ n. slice_get (a ∷ (xs ++ ys)) n) z ∙ slice_get_right xs ys i

-- the nodes of the copy at place k of the rest, where the rest's signals begin at b
nodes_at : (blocks : List Block) (all : List Instance) (firsts : List ℕ) (end b i : ℕ)
    (cs : List Instance) → IsBased blocks b cs end
    → (k s : ℕ) (d : Driver) → k < length cs
    → slice_get (block_of blocks (get_or cs k blank)).drivers s ≡ Some d
    → (o : ℕ) × ((get_or cs k blank).base ≡ b + o) ×
    (slice_get (nodes_from blocks all firsts i cs) (o + s) ≡ Some
    (node_of blocks all (slice_index firsts (i + k)) (i + k) d))
nodes_at blocks all firsts end b i [] based k s d h e = absurd (omega arith)
nodes_at blocks all firsts end b i (c ∷ cs) based zero s d h e =
    let z : i ≡ i + 0 = omega arith in let y : s ≡ 0 + s = omega arith in
    let f = node_of blocks all (slice_index firsts i) i in
    let at : slice_get (map f (block_of blocks c).drivers) s ≡ Some (f d) = slice_get-map f
    (block_of blocks c).drivers s ∙ ap (λ o. option_map f o) e in (
      0,
      omega (arith, based.0),
      subst (λ n. slice_get (nodes_from blocks all firsts i (c ∷ cs)) n ≡ Some
          (node_of blocks all (slice_index firsts (i + 0)) (i + 0) d)) y
          (subst (λ n. slice_get (nodes_from blocks all firsts i (c ∷ cs)) s ≡ Some
          (node_of blocks all (slice_index firsts n) n d)) z
          (slice_get_left (map f (block_of blocks c).drivers) (nodes_from blocks all firsts (suc i) cs)
          s (f d) at)),
    )
nodes_at blocks all firsts end b i (c ∷ cs) based (suc k) s d h e =
    let size = length (block_of blocks c).drivers in
    let f = node_of blocks all (slice_index firsts i) i in
    let r = nodes_at blocks all firsts end (b + size) (suc i) cs based.1 k s d (omega arith) e in
    let z : suc i + k ≡ i + suc k = omega arith in
    let y : length (map f (block_of blocks c).drivers) + (r.0 + s) ≡ (size + r.0) + s = omega
    (arith, length-map (block_of blocks c).drivers f) in (
      size + r.0,
      omega (arith, r.1),
      subst (λ n. slice_get (nodes_from blocks all firsts i (c ∷ cs)) n ≡ Some
          (node_of blocks all (slice_index firsts (i + suc k)) (i + suc k) d)) y
          (subst (λ n. slice_get (nodes_from blocks all firsts i (c ∷ cs))
          (length (map f (block_of blocks c).drivers) + (r.0 + s)) ≡ Some
          (node_of blocks all (slice_index firsts n) n d)) z
          (slice_get_right (map f (block_of blocks c).drivers) (nodes_from blocks all firsts (suc i) cs)
          (r.0 + s) ∙ r.2)),
    )

pub has_nodes : (blocks : List Block) (copies : List Instance) (firsts : List ℕ) (end : ℕ)
    → IsBased blocks 0 copies end → HasNodes blocks copies firsts
    (nodes_from blocks copies firsts 0 copies)
has_nodes blocks copies firsts end based i s d h e =
    let r = nodes_at blocks copies firsts end 0 0 copies based i s d h e in
    let z : 0 + i ≡ i = omega arith in
    let y : r.0 + s ≡ (instance_at copies i).base + s = omega (arith, r.1) in
    subst (λ n. slice_get (nodes_from blocks copies firsts 0 copies) n ≡ Some
    (node_of blocks copies (slice_index firsts i) i d)) y
    (subst (λ n. slice_get (nodes_from blocks copies firsts 0 copies) (r.0 + s) ≡ Some
    (node_of blocks copies (slice_index firsts n) n d)) z r.2)

pub is_spread : (blocks : List Block) (copies : List Instance) (firsts : List ℕ) (end : ℕ)
    → Grown blocks copies firsts end → length copies ≤ length firsts → IsSpread blocks copies firsts
is_spread blocks copies firsts end grown all = record {
  some = grown.some;
  root = grown.root;
  there = grown.there;
  calls = λ i h. grown.calls i
      (omega arith);
}

module _ (blocks : List Block) (copies : List Instance) (firsts : List ℕ) (end : ℕ)
    (ok : All (IsBlock blocks) blocks) (grown : Grown blocks copies firsts end)
    (all : length copies ≤ length firsts)
    (i : ℕ) (h : i < length copies) where
  -- an input of a copy that is called has a signal
  pub reached : (k s : ℕ) → slice_get (block_of blocks (instance_at copies i)).drivers s ≡ Some
      (driver.Formal k) → 0 < i → IsReached blocks copies i k
  reached k s e low =
      let p = grown.parents i low h in
      let parent = (instance_at copies i).parent in
      let place = (instance_at copies i).place in
      let pl : parent < length copies = omega (arith, p.0, grown.ahead) in
      let b = block_of blocks (instance_at copies parent) in
      let w = slice_get_within b.calls place p.1.0 p.1.1 in
      let at = get_or_from_slice_get b.calls place p.1.0 no_call p.1.1 in
      let good = (ok (instance_at copies parent).block no_block (grown.there parent pl)).calls place
      no_call w in
      let block : slice_get blocks (get_or b.calls place no_call).block ≡ Some
      (block_of blocks (instance_at copies i)) =
      ap (λ (c : Call). slice_get blocks c.block) at ∙ ap (λ n. slice_get blocks n) p.1.2 ∙
      slice_get-get_or blocks (instance_at copies i).block no_block (grown.there i h) in
      record {
        parent = pl;
        block = grown.there parent pl;
        place = w;
        actual = good.enough
            (block_of blocks (instance_at copies i)) s k block e;
      }

  -- a call of a copy has its copy
  pub back_there : (j f s : ℕ) → slice_get (block_of blocks (instance_at copies i)).drivers s ≡ Some
      (driver.Back j f) → slice_index firsts i + j < length copies
  back_there j f s e =
      let b = block_of blocks (instance_at copies i) in
      let w = slice_get_within b.drivers s (driver.Back j f) e in
      let at = get_or_from_slice_get b.drivers s (driver.Back j f) (driver.Formal 0) e in
      let is = subst (IsDriver blocks b) at ((ok (instance_at copies i).block no_block
      (grown.there i h)).drivers s (driver.Formal 0) w) in
      ((grown.calls i (omega arith)).called j is.0 is.2).0

-- the nodes of one more copy
pub nodes_more : (blocks : List Block) (all : List Instance) (firsts : List ℕ) (i : ℕ)
    (before now whole : List Node) → i < length all
    → before ++ nodes_from blocks all firsts i (drop i all) ≡ whole
    → now ≡ before ++ map (node_of blocks all (slice_index firsts i) i)
    (block_of blocks (instance_at all i)).drivers
    → now ++ nodes_from blocks all firsts (i + 1) (drop (i + 1) all) ≡ whole
nodes_more blocks all firsts i before now whole h was e =
    let z : i + 1 ≡ suc i = omega arith in
    let m = map (node_of blocks all (slice_index firsts i) i)
    (block_of blocks (instance_at all i)).drivers in
    let rest = drop (i + 1) all in
    ap (λ (ns : List Node). ns ++ nodes_from blocks all firsts (i + 1) rest) e
    ∙ append_assoc before m (nodes_from blocks all firsts (i + 1) rest)
    ∙ ap (λ n. before ++ (m ++ nodes_from blocks all firsts n rest)) z
    ∙ ap (λ (cs : List Instance). before ++ nodes_from blocks all firsts i cs)
    (sym (drop_more all i blank h))
    ∙ was

-- what the program reads of a copy's drivers
pub drivers_read : (blocks : List Block) (read copies : List Instance) (i : ℕ) (x : Block)
    (ds : List Driver) → read ≡ copies → (get_or read i blank).block < length blocks
    → x ≡ get_or blocks (get_or read i blank).block x → ds ≡ x.drivers
    → ds ≡ (block_of blocks (instance_at copies i)).drivers
drivers_read blocks read copies i x ds r w e f =
    f ∙ ap (λ (b : Block). b.drivers) (get_or_read blocks (get_or read i blank).block x w e
    no_block) ∙ ap (λ (cs : List Instance). (block_of blocks (instance_at cs i)).drivers) r

pub driver_read : (ds xs : List Driver) (s : ℕ) (x d : Driver) → ds ≡ xs → s < length ds
    → x ≡ get_or ds s x → x ≡ d → slice_get xs s ≡ Some d
driver_read ds xs s x d e h at same = ap (λ (ys : List Driver). slice_get ys s) (sym e) ∙
    slice_get-get_or ds s x h ∙ ap Some (sym at) ∙ ap Some same
