use Rattle.std.proofs.Common.{◌≡◌, zero, suc, ℕ, ◌+◌, ◌-◌, ◌<◌, ◌≤◌, List, [], ◌∷◌, ◌++◌, Bool, false, Option, Some, None, length, get_or, map, refl, sym, ap, ◌∙◌, subst, arith}
use Rattle.std.specs.List.{slice_get, All}
use Rattle.std.specs.Option.{option_map, option_and_then}
use Rattle.std.proofs.lemmas.List.{get_or_append_left, get_or_push, length_push}
use Rattle.std.proofs.lemmas.List.Elements.{All-head, All-tail}
use Rattle.cf_hierarchy.specs.declared.gates.Gate.{Gate}
use Rattle.cf_hierarchy.specs.declared.gates.Node.{Node}
use Rattle.cf_hierarchy.specs.declared.gates.Node.TheVariants as node
use Rattle.cf_hierarchy.specs.Circuits.{Meaning, all_of, value_at, cval, UsesLower, wire_values}

-- o has a value only where p has the same
abbrev Below : {A : Type 0} → Option A → Option A → Type 0
Below {A} o p = (x : A) → o ≡ Some x → p ≡ Some x

map_below : {A B : Type 0} (f : A → B) (o p : Option A) → Below o p
    → Below (option_map f o) (option_map f p)
map_below f None p h y e = cc
map_below f (Some x) p h y e = ap (λ q. option_map f q) (h x refl) ∙ e

cons_below : (o p : Option Bool) (os ps : List (Option Bool)) → Below o p
    → Below (all_of os) (all_of ps) → Below (all_of (o ∷ os)) (all_of (p ∷ ps))
cons_below None p os ps h k bs e = cc
cons_below (Some b) p os ps h k bs e =
    subst (λ q. all_of (q ∷ ps) ≡ Some bs) (sym (h b refl))
    (map_below (λ cs. b ∷ cs) (all_of os) (all_of ps) k bs e)

all_below : (at to : ℕ → Option Bool) → ((t : ℕ) → Below (at t) (to t)) → (ins : List ℕ)
    → Below (all_of (map at ins)) (all_of (map to ins))
all_below at to h [] bs e = e
all_below at to h (t ∷ ts) bs e = cons_below (at t) (to t) (map at ts) (map to ts) (h t)
    (all_below at to h ts) bs e

value_below : (means : Meaning) (bits : List Bool) (at to : ℕ → Option Bool)
    → ((t : ℕ) → Below (at t) (to t)) → (n : Node)
    → Below (value_at means bits at n) (value_at means bits to n)
value_below means bits at to h (node.Input i) b e = e
value_below means bits at to h (node.Output g) b e = map_below (means g.cover)
    (all_of (map at g.ins)) (all_of (map to g.ins)) (all_below at to h g.ins) b e
value_below means bits at to h (node.Alias t) b e = h t b e

then_below : (f g : Node → Option Bool) → ((n : Node) → Below (f n) (g n)) → (o : Option Node)
    → Below (option_and_then f o) (option_and_then g o)
then_below f g h None b e = e
then_below f g h (Some n) b e = h n b e

-- a value stays where m rises by one
cval_more : (means : Meaning) (nodes : List Node) (bits : List Bool) (m s : ℕ)
    → Below (cval means nodes bits m s) (cval means nodes bits (suc m) s)
unfolding cval
cval_more means nodes bits zero s b e = cc
cval_more means nodes bits (suc m) s b e =
    then_below (value_at means bits (cval means nodes bits m))
    (value_at means bits (cval means nodes bits (suc m)))
    (value_below means bits (cval means nodes bits m) (cval means nodes bits (suc m))
    (λ t. cval_more means nodes bits m t)) (slice_get nodes s) b e

cval_plus : (means : Meaning) (nodes : List Node) (bits : List Bool) (m k s : ℕ)
    → Below (cval means nodes bits m s) (cval means nodes bits (k + m) s)
cval_plus means nodes bits m zero s b e = subst (λ n. cval means nodes bits n s ≡ Some b)
    (omega arith) e
cval_plus means nodes bits m (suc k) s b e =
    let z : suc (k + m) ≡ suc k + m = omega arith in
    subst (λ n. cval means nodes bits n s ≡ Some b) z
    (cval_more means nodes bits (k + m) s b (cval_plus means nodes bits m k s b e))

-- a value stays at every higher m
pub cval_up : (means : Meaning) (nodes : List Node) (bits : List Bool) (m n s : ℕ) (b : Bool)
    → m ≤ n → cval means nodes bits m s ≡ Some b → cval means nodes bits n s ≡ Some b
cval_up means nodes bits m n s b h e =
    let z : (n - m) + m ≡ n = omega arith in subst (λ k. cval means nodes bits k s ≡ Some b) z
    (cval_plus means nodes bits m (n - m) s b e)

pub cval_step : (means : Meaning) (nodes : List Node) (bits : List Bool) (m s : ℕ) (n : Node)
    (b : Bool) → slice_get nodes s ≡ Some n → value_at means bits (cval means nodes bits m) n ≡ Some
    b → cval means nodes bits (m + 1) s ≡ Some b
unfolding cval
cval_step means nodes bits m s n b at e =
    let z : suc m ≡ m + 1 = omega arith in
    subst (λ k. cval means nodes bits k s ≡ Some b) z
    (ap (option_and_then (value_at means bits (cval means nodes bits m))) at ∙ e)

pub all_known : (at : ℕ → Option Bool) (f : ℕ → Bool) (ins : List ℕ)
    → All (λ t. at t ≡ Some (f t)) ins → all_of (map at ins) ≡ Some (map f ins)
all_known at f [] h = refl
all_known at f (t ∷ ts) h =
    let P : ℕ → Type 0 = λ t. at t ≡ Some (f t) in
    ap (λ o. all_of (o ∷ map at ts)) (All-head P t ts h) ∙ ap (option_map (λ bs. f t ∷ bs))
    (all_known at f ts (All-tail P t ts h))

-- one more gate
pub UsesLower-push : (n : ℕ) (gs : List Gate) (g : Gate) → UsesLower n gs
    → All (λ w. w < n + length gs) g.ins → UsesLower n (gs ++ g ∷ [])
UsesLower-push n [] g h k = ((λ i d l. omega (arith, k i d l)), tt)
UsesLower-push n (a ∷ gs) g h k = (
  h.0,
  UsesLower-push (suc n) gs g h.1
      (λ i d l. omega (arith, k i d l)),
)

pub wire_values-push : (means : Meaning) (vs : List Bool) (gs : List Gate) (g : Gate)
    → wire_values means vs (gs ++ g ∷ []) ≡ wire_values means vs gs ++ means g.cover
    (map (λ w. get_or (wire_values means vs gs) w false) g.ins) ∷ []
wire_values-push means vs [] g = refl
wire_values-push means vs (a ∷ gs) g = wire_values-push means
    (vs ++ means a.cover (map (λ w. get_or vs w false) a.ins) ∷ []) gs g

pub length-wire_values : (means : Meaning) (vs : List Bool) (gs : List Gate)
    → length (wire_values means vs gs) ≡ length vs + length gs
length-wire_values means vs [] = omega arith
length-wire_values means vs (a ∷ gs) =
    let b = means a.cover (map (λ w. get_or vs w false) a.ins) in
    omega (arith, length-wire_values means (vs ++ b ∷ []) gs, length_push vs b)

-- the first wires are the inputs
pub wire_first : (means : Meaning) (vs : List Bool) (gs : List Gate) (i : ℕ) → i < length vs
    → get_or (wire_values means vs gs) i false ≡ get_or vs i false
wire_first means vs [] i h = refl
wire_first means vs (a ∷ gs) i h =
    let b = means a.cover (map (λ w. get_or vs w false) a.ins) in
    wire_first means (vs ++ b ∷ []) gs i (omega (arith, length_push vs b, h)) ∙ get_or_append_left
    vs (b ∷ []) false i h

-- a wire keeps its value when a gate comes
pub wire_kept : (means : Meaning) (vs : List Bool) (gs : List Gate) (g : Gate) (w : ℕ)
    → w < length vs + length gs
    → get_or (wire_values means vs (gs ++ g ∷ [])) w false ≡ get_or (wire_values means vs gs) w
    false
wire_kept means vs gs g w h =
    let us = wire_values means vs gs in
    ap (λ zs. get_or zs w false) (wire_values-push means vs gs g) ∙ get_or_append_left us
    (means g.cover (map (λ w. get_or us w false) g.ins) ∷ []) false w
    (omega (arith, length-wire_values means vs gs, h))

-- the wire of the new gate
pub wire_new : (means : Meaning) (vs : List Bool) (gs : List Gate) (g : Gate) (w : ℕ)
    → w ≡ length vs + length gs
    → get_or (wire_values means vs (gs ++ g ∷ [])) w false ≡ means g.cover
    (map (λ w. get_or (wire_values means vs gs) w false) g.ins)
wire_new means vs gs g w e =
    let us = wire_values means vs gs in
    ap (λ zs. get_or zs w false) (wire_values-push means vs gs g) ∙ get_or_push us
    (means g.cover (map (λ w. get_or us w false) g.ins)) false w
    (length-wire_values means vs gs ∙ sym e)
