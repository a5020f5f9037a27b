-- The values of a flat circuit's wires, one gate after the other.
use Rattle.std.proofs.Common.{ℕ, zero, suc, ◌≡◌, ◌+◌, ◌<◌, Bool, false, List, [], ◌∷◌, ◌++◌, length, map, get_or, refl, sym, ap, ◌∙◌, arith}
use Rattle.std.specs.List.{All}
use Rattle.std.proofs.lemmas.List.{get_or_push, length_push}
use Rattle.std.proofs.lemmas.List.Elements.{All-head, All-tail}
use Rattle.cf_hierarchy.specs.declared.gates.Gate.{Gate}
use Rattle.cf_hierarchy.specs.Circuits.{Meaning, UsesLower, wire_values}
use Rattle.cf_hierarchy.proofs.Values.{wire_first}

abbrev pub no_gate : Gate
no_gate = record { ins = []; cover = 0 }

-- a gate reads lower wires
pub lower_at : (n : ℕ) (gates : List Gate) → UsesLower n gates → (i : ℕ) (d : Gate) → i < length gates → All (λ w. w < n + i) (get_or gates i d).ins
lower_at n [] lower i d low = absurd (omega (arith, low))
lower_at n (g ∷ gates) lower zero d low = λ k e l. omega (arith, lower.0 k e l)
lower_at n (g ∷ gates) lower (suc i) d low = λ k e l. omega (arith, lower_at (suc n) gates lower.1 i d (omega (arith, low)) k e l)

map_all : {A B : Type 0} (f g : A → B) (xs : List A) → All (λ x. f x ≡ g x) xs → map f xs ≡ map g xs
map_all f g [] h = refl
map_all f g (x ∷ xs) h =
    ap (λ y. y ∷ map f xs) (All-head (λ z. f z ≡ g z) x xs h) ∙ ap (λ ys. g x ∷ ys) (map_all f g xs (All-tail (λ z. f z ≡ g z) x xs h))

-- the wire of a gate has its value on those that it reads
pub wire_of_gate : (means : Meaning) (n : ℕ) (vs : List Bool) (gates : List Gate) → length vs ≡ n → UsesLower n gates → (i : ℕ) (d : Gate) → i < length gates
    → get_or (wire_values means vs gates) (n + i) false
    ≡ means (get_or gates i d).cover (map (λ w. get_or (wire_values means vs gates) w false) (get_or gates i d).ins)
wire_of_gate means n vs [] long lower i d low = absurd (omega (arith, low))
wire_of_gate means n vs (g ∷ gates) long lower zero d low =
    let b = means g.cover (map (λ w. get_or vs w false) g.ins) in
    let all = wire_values means vs (g ∷ gates) in
    let more = length_push vs b in
    let at : n + 0 ≡ n = omega arith in
    ap (λ k. get_or all k false) at
    ∙ wire_first means (vs ++ b ∷ []) gates n (omega (arith, more, long))
    ∙ get_or_push vs b false n long
    ∙ ap (means g.cover) (map_all (λ w. get_or vs w false) (λ w. get_or all w false) g.ins (λ k e l. sym (wire_first means vs (g ∷ gates) (get_or g.ins k e) (omega (arith, lower.0 k e l, long)))))
wire_of_gate means n vs (g ∷ gates) long lower (suc i) d low =
    let b = means g.cover (map (λ w. get_or vs w false) g.ins) in
    let at : n + suc i ≡ suc n + i = omega arith in
    let more = length_push vs b in
    ap (λ k. get_or (wire_values means (vs ++ b ∷ []) gates) k false) at
    ∙ wire_of_gate means (suc n) (vs ++ b ∷ []) gates (omega (arith, more, long)) lower.1 i d (omega (arith, low))
