use Rattle.std.proofs.Common.{◌≡◌, ℕ, suc, ◌<◌, ◌≤◌, max, List, [], ◌∷◌, ◌++◌, map, refl, sym, ◌∙◌, ap, subst, length, drop, get_or, arith, inl, inr, Some, add-one}
use Rattle.std.proofs.lemmas.Bool.{cases_lt}
use Rattle.std.proofs.lemmas.List.{drop_more, drop_all}
use Rattle.std.proofs.lemmas.List.Concat.{flat_map_single}
use Rattle.std.proofs.lemmas.Option.{get_or_from_slice_get}
use Rattle.std.specs.List.{flat_map, slice_get}
use Rattle.cf_model.specs.Renumbering.{width, Grows}
use Rattle.cf_model.proofs.Growth.{Under, width-append, Grows-append, Grows-left, Grows-right, width-le, Under-width, Grows-below, carried}

pub map_same : (xs : List ℕ) → map (λ (x : ℕ). x) xs ≡ xs
map_same [] = refl
map_same (x ∷ xs) = ap (λ (ys : List ℕ). x ∷ ys) (map_same xs)

-- labels read in an order of first reach that reaches them all
pub read_carries : (ret p : List ℕ) (m : ℕ) → Grows 0 p → width 0 p ≡ length ret → Grows m ret
    → Grows m (map (λ i. get_or ret i 0) p) × (width m (map (λ i. get_or ret i 0) p) ≡ width m ret)
read_carries ret p m gp full h =
    let one : ℕ → List ℕ = λ x. x ∷ [] in
    let same : flat_map one ret ≡ ret = flat_map_single (λ (x : ℕ). x) ret ∙ map_same ret in
    let r = carried one 0 ret (λ i. get_or ret i 0 ∷ []) m p (subst (λ (xs : List ℕ). Grows m xs) (sym same) h) (λ s k l q. (q, refl)) gp full in
    let shown = flat_map_single (λ i. get_or ret i 0) p in
    (subst (λ (xs : List ℕ). Grows m xs) shown r.0, ap (λ (xs : List ℕ). width m xs) (sym shown) ∙ r.1 ∙ ap (λ (xs : List ℕ). width m xs) same)

-- a list, read off its canon
pub canon_reads : {A : Type 0} (all : List A) (p : List ℕ) (ds : List A) (d : A) → map (slice_get ds) p ≡ map Some all → all ≡ map (λ i. get_or ds i d) p
canon_reads [] [] ds d e = refl
canon_reads [] (i ∷ p) ds d e = cc
canon_reads (x ∷ all) [] ds d e = cc
canon_reads (x ∷ all) (i ∷ p) ds d e =
    let top : slice_get ds i ≡ Some x = cc in
    let rest : map (slice_get ds) p ≡ map Some all = cc in
    let here : x ≡ get_or ds i d = sym (get_or_from_slice_get ds i x d top) in
    let r : all ≡ map (λ i. get_or ds i d) p = canon_reads all p ds d rest in
    cc

Under-more : (m k : ℕ) (xs : List ℕ) → m ≤ k → Under m xs → Under k xs
Under-more m k [] h b = tt
Under-more m k (x ∷ xs) h b = (omega (arith, h, b.0), Under-more m k xs h b.1)

-- the words in order of first reach give out what all give out
pub first_words : {X : Type 0} (f : X → List ℕ) (d : X) (xs : List X) (p : List ℕ) (s m : ℕ) → Grows s p → width s p ≡ length xs
    → ((j : ℕ) → j < s → Under m (f (get_or xs j d)))
    → Grows m (flat_map (λ i. f (get_or xs i d)) p)
    → Grows m (flat_map f (drop s xs)) × (width m (flat_map f (drop s xs)) ≡ width m (flat_map (λ i. f (get_or xs i d)) p))
first_words f d xs [] s m gp full old g =
    let e : drop s xs ≡ [] = drop_all s xs (omega (arith, full)) in
    (subst (λ (ys : List _). Grows m (flat_map f ys)) (sym e) tt, ap (λ (ys : List _). width m (flat_map f ys)) e)
first_words f d xs (x ∷ p) s m gp full old g =
    let w = f (get_or xs x d) in
    let rest : List ℕ = flat_map (λ i. f (get_or xs i d)) p in
    let le = width-le (max s (suc x)) p in
    let here : Grows m w = Grows-left m w rest g in
    let there : Grows (width m w) rest = Grows-right m w rest g in
    let all : width m (w ++ rest) ≡ width (width m w) rest = width-append m w rest in
    elim (cases_lt x s) [
      | inl l ↦
          let e : max s (suc x) ≡ s = omega (arith, l) in
          let b = Grows-below m w (old x l) in
          let r = first_words f d xs p s m (subst (λ (j : ℕ). Grows j p) e gp.1) (subst (λ (j : ℕ). width j p ≡ length xs) e full) old (subst (λ (j : ℕ). Grows j rest) b.1 there) in
          (r.0, r.1 ∙ ap (λ (j : ℕ). width j rest) (sym b.1) ∙ sym all)
      | inr ge ↦
          let q : x ≡ s = omega (arith, ge, gp.0) in
          let e : max s (suc x) ≡ suc s = omega (arith, q) in
          let ls : s < length xs = omega (arith, full, le, q) in
          let w_is : f (get_or xs s d) ≡ w = ap (λ (j : ℕ). f (get_or xs j d)) (sym q) in
          let more : drop s xs ≡ get_or xs s d ∷ drop (suc s) xs = drop_more xs s d ls ∙ ap (λ (j : ℕ). get_or xs s d ∷ drop j xs) (add-one s) in
          let old' : (j : ℕ) → j < suc s → Under (width m w) (f (get_or xs j d)) = λ j lj. elim (cases_lt j s) [
            | inl k ↦ Under-more m (width m w) (f (get_or xs j d)) (width-le m w) (old j k)
            | inr k ↦ (let jx : x ≡ j = omega (arith, k, lj, q) in subst (λ (i : ℕ). Under (width m w) (f (get_or xs i d))) jx (Under-width m (width m w) w (omega arith)))
          ] in
          let r = first_words f d xs p (suc s) (width m w) (subst (λ (j : ℕ). Grows j p) e gp.1) (subst (λ (j : ℕ). width j p ≡ length xs) e full) old' there in
          let tail = flat_map f (drop (suc s) xs) in
          let shape : flat_map f (drop s xs) ≡ w ++ tail = ap (λ (ys : List _). flat_map f ys) more ∙ ap (λ (v : List ℕ). v ++ tail) w_is in (
            subst (λ (v : List ℕ). Grows m v) (sym shape) (Grows-append m w tail here r.0),
            ap (λ (v : List ℕ). width m v) shape ∙ width-append m w tail ∙ r.1 ∙ sym all,
          )
    ]

-- classes that are the places change nothing
pub classed_same : (cs p : List ℕ) → Under (length cs) p → ((i : ℕ) → i < length cs → get_or cs i 0 ≡ i) → map (λ i. get_or cs i 0) p ≡ p
classed_same cs [] u h = refl
classed_same cs (x ∷ p) u h =
    let top : get_or cs x 0 ≡ x = h x u.0 in
    let r : map (λ i. get_or cs i 0) p ≡ p = classed_same cs p u.1 h in
    cc
