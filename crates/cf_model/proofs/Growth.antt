use Rattle.std.proofs.Common.{◌≡◌, ℕ, zero, suc, ◌<◌, ◌≤◌, ◌+◌, max, List, [], ◌∷◌, ◌++◌, map, refl, sym, ◌∙◌, ap, subst, length, take, get_or, arith, inl, inr, ◌-◌}
use Rattle.std.proofs.lemmas.Bool.{cases_lt}
use Rattle.std.proofs.lemmas.List.{take_all}
use Rattle.std.specs.List.{flat_map}
use Rattle.cf_model.specs.Renumbering.{width, Grows, IsApart, Agree}

pub width-append : (n : ℕ) (xs ys : List ℕ) → width n (xs ++ ys) ≡ width (width n xs) ys
width-append n [] ys = refl
width-append n (x ∷ xs) ys = width-append (max n (suc x)) xs ys

pub Grows-append : (n : ℕ) (xs ys : List ℕ) → Grows n xs → Grows (width n xs) ys → Grows n (xs ++ ys)
Grows-append n [] ys g h = h
Grows-append n (x ∷ xs) ys g h = (g.0, Grows-append (max n (suc x)) xs ys g.1 h)

pub Grows-left : (n : ℕ) (xs ys : List ℕ) → Grows n (xs ++ ys) → Grows n xs
Grows-left n [] ys g = tt
Grows-left n (x ∷ xs) ys g = (g.0, Grows-left (max n (suc x)) xs ys g.1)

pub Grows-right : (n : ℕ) (xs ys : List ℕ) → Grows n (xs ++ ys) → Grows (width n xs) ys
Grows-right n [] ys g = g
Grows-right n (x ∷ xs) ys g = Grows-right (max n (suc x)) xs ys g.1

pub width-le : (n : ℕ) (xs : List ℕ) → n ≤ width n xs
width-le n [] = omega arith
width-le n (x ∷ xs) = omega (arith, width-le (max n (suc x)) xs)

-- every entry of the list is below `m`
abbrev pub Under : ℕ → List ℕ → Type 0
Under m [] = Unit {0}
Under m (x ∷ xs) = (x < m) × Under m xs

pub Under-width : (n m : ℕ) (xs : List ℕ) → width n xs ≤ m → Under m xs
Under-width n m [] h = tt
Under-width n m (x ∷ xs) h = (omega (arith, width-le (max n (suc x)) xs), Under-width (max n (suc x)) m xs h)

-- what was given out before changes nothing
pub Grows-below : (n : ℕ) (xs : List ℕ) → Under n xs → Grows n xs × (width n xs ≡ n)
Grows-below n [] b = (tt, refl)
Grows-below n (x ∷ xs) b =
    let e : max n (suc x) ≡ n = omega (arith, b.0) in
    let r = Grows-below n xs b.1 in
    ((omega (arith, b.0), subst (λ (k : ℕ). Grows k xs) (sym e) r.0), ap (λ (k : ℕ). width k xs) e ∙ r.1)

pub rises : (w : ℕ → List ℕ) (v : ℕ → ℕ) (k : ℕ) → ((s : ℕ) → s < k → width (v s) (w s) ≡ v (suc s)) → (d i : ℕ) → i + d ≤ k → v i ≤ v (i + d)
rises w v k step zero i h = subst (λ (j : ℕ). v i ≤ v j) (let e : i ≡ i + 0 = omega arith in e) (omega arith)
rises w v k step (suc d) i h =
    let e : suc (i + d) ≡ i + suc d = omega arith in
    let s = step (i + d) (omega arith) in
    let r = rises w v k step d i (omega arith) in
    subst (λ (j : ℕ). v i ≤ v j) e (omega (arith, r, s, width-le (v (i + d)) (w (i + d))))

data OldOrNext (x s : ℕ) : Type 0 where
  old : x < s → OldOrNext x s
  next : x ≡ s → OldOrNext x s

old_or_next : (x s : ℕ) → x ≤ s → OldOrNext x s
old_or_next x s h = elim (cases_lt x s) [ inl l ↦ old l | inr g ↦ next (omega (arith, h, g)) ]

old_up : (w : ℕ → List ℕ) (v : ℕ → ℕ) (k : ℕ) → ((s : ℕ) → s < k → width (v s) (w s) ≡ v (suc s)) → (x s : ℕ) → x < s → s ≤ k → v (suc x) ≤ v s
old_up w v k step x s l h =
    let e : suc x + (s - suc x) ≡ s = omega (arith, l) in
    subst (λ (j : ℕ). v (suc x) ≤ v j) e (rises w v k step (s - suc x) (suc x) (omega (arith, e, h)))

-- words that give out numbers one after another, read in the order of first reach
pub carry : (w : ℕ → List ℕ) (v : ℕ → ℕ) (k : ℕ) → ((s : ℕ) → s < k → Grows (v s) (w s) × (width (v s) (w s) ≡ v (suc s))) → (p : List ℕ) (s : ℕ) → Grows s p → width s p ≤ k → Grows (v s) (flat_map w p) × (width (v s) (flat_map w p) ≡ v (width s p))
carry w v k step [] s g h = (tt, refl)
carry w v k step (x ∷ xs) s g h =
    let le = width-le (max s (suc x)) xs in
    elim (old_or_next x s g.0) [
      | old l ↦
          let up : v (suc x) ≤ v s = old_up w v k (λ s' h'. (step s' h').1) x s l (omega (arith, le)) in
          let b : Under (v s) (w x) = Under-width (v x) (v s) (w x) (omega (arith, (step x (omega (arith, le))).1, up)) in
          let here = Grows-below (v s) (w x) b in
          let e : max s (suc x) ≡ s = omega (arith, l) in
          let rest = carry w v k step xs s (subst (λ (j : ℕ). Grows j xs) e g.1) (subst (λ (j : ℕ). width j xs ≤ k) e h) in (
            Grows-append (v s) (w x) (flat_map w xs) here.0 (subst (λ (j : ℕ). Grows j (flat_map w xs)) (sym here.1) rest.0),
            width-append (v s) (w x) (flat_map w xs) ∙ ap (λ (j : ℕ). width j (flat_map w xs)) here.1 ∙ rest.1 ∙ ap (λ (j : ℕ). v (width j xs)) (sym e),
          )
      | next q ↦
          let e : max s (suc x) ≡ suc s = omega (arith, q) in
          let here = subst (λ (j : ℕ). Grows (v s) (w j) × (width (v s) (w j) ≡ v (suc s))) (sym q) (step s (omega (arith, le, q))) in
          let rest = carry w v k step xs (suc s) (subst (λ (j : ℕ). Grows j xs) e g.1) (subst (λ (j : ℕ). width j xs ≤ k) e h) in (
            Grows-append (v s) (w x) (flat_map w xs) here.0 (subst (λ (j : ℕ). Grows j (flat_map w xs)) (sym here.1) rest.0),
            width-append (v s) (w x) (flat_map w xs) ∙ ap (λ (j : ℕ). width j (flat_map w xs)) here.1 ∙ rest.1 ∙ ap (λ (j : ℕ). v (width j xs)) (sym e),
          )
    ]

-- word by word, a list of words that gives out numbers
pub pieces : {X : Type 0} (f : X → List ℕ) (d : X) (n : ℕ) (xs : List X) → Grows n (flat_map f xs) → (s : ℕ) → s < length xs → Grows (width n (flat_map f (take s xs))) (f (get_or xs s d)) × (width (width n (flat_map f (take s xs))) (f (get_or xs s d)) ≡ width n (flat_map f (take (suc s) xs)))
pieces f d n [] g s l = absurd (omega (arith, l))
pieces f d n (x ∷ xs) g zero l =
    (Grows-left n (f x) (flat_map f xs) g, sym (width-append n (f x) []))
pieces f d n (x ∷ xs) g (suc s) l =
    let m = width n (f x) in
    let r = pieces f d m xs (Grows-right n (f x) (flat_map f xs) g) s (omega (arith, l)) in
    let e = width-append n (f x) (flat_map f (take s xs)) in
    let e' = width-append n (f x) (flat_map f (take (suc s) xs)) in (
      subst (λ (j : ℕ). Grows j (f (get_or xs s d))) (sym e) r.0,
      ap (λ (j : ℕ). width j (f (get_or xs s d))) e ∙ r.1 ∙ sym e',
    )

-- reading words in an order of first reach that reaches them all
pub carried : {X : Type 0} (f : X → List ℕ) (d : X) (xs : List X) (w : ℕ → List ℕ) (m : ℕ) (p : List ℕ) → Grows m (flat_map f xs)
    → ((s n : ℕ) → s < length xs → Grows n (f (get_or xs s d)) → Grows n (w s) × (width n (w s) ≡ width n (f (get_or xs s d))))
    → Grows 0 p → width 0 p ≡ length xs → Grows m (flat_map w p) × (width m (flat_map w p) ≡ width m (flat_map f xs))
carried f d xs w m p g same gp full =
    let v : ℕ → ℕ = λ s. width m (flat_map f (take s xs)) in
    let step : (s : ℕ) → s < length xs → Grows (v s) (w s) × (width (v s) (w s) ≡ v (suc s)) = λ s l.
    (let pc = pieces f d m xs g s l in
    let sm = same s (v s) l pc.0 in
    (sm.0, sm.1 ∙ pc.1)) in
    let r = carry w v (length xs) step p 0 gp (omega (arith, full)) in
    (r.0, r.1 ∙ ap v full ∙ ap (λ (ys : List _). width m (flat_map f ys)) (take_all (length xs) xs (omega arith)))

agree_more : {A : Type 0} (f g : ℕ → A) (n x : ℕ) → Agree f g n → x ≤ n → f x ≡ g x → Agree f g (max n (suc x))
agree_more f g n x a h e i l = elim (cases_lt i n) [ inl li ↦ a i li | inr gi ↦ (let q : x ≡ i = omega (arith, l, h, gi) in subst (λ (j : ℕ). f j ≡ g j) q e) ]

-- two lists of numbers by first reach that spell one list by different things are the same, and so are the things
pub unique : {A : Type 0} (f g : ℕ → A) (k m : ℕ) → IsApart f k → IsApart g m → (p q : List ℕ) (n : ℕ) → Agree f g n → Grows n p → Grows n q → width n p ≤ k → width n q ≤ m → map f p ≡ map g q → (p ≡ q) × Agree f g (width n p)
unique f g k m df dg [] [] n a gp gq hp hq e = (refl, a)
unique f g k m df dg [] (y ∷ q) n a gp gq hp hq e = cc
unique f g k m df dg (x ∷ p) [] n a gp gq hp hq e = cc
unique f g k m df dg (x ∷ p) (y ∷ q) n a gp gq hp hq e =
    let head : f x ≡ g y = cc in
    let rest : map f p ≡ map g q = cc in
    let wp = width-le (max n (suc x)) p in
    let wq = width-le (max n (suc y)) q in
    let same : x ≡ y = elim (old_or_next x n gp.0) [
      | old lx ↦ elim (old_or_next y n gq.0) [
        | old ly ↦ df x y (omega (arith, wp, hp)) (omega (arith, wp, hp)) (head ∙ sym (a y ly))
        | next ny ↦ dg x y (omega (arith, wq, hq)) (omega (arith, wq, hq)) (sym (a x lx) ∙ head)
      ]
      | next nx ↦ elim (old_or_next y n gq.0) [
        | old ly ↦ df x y (omega (arith, wp, hp)) (omega (arith, wp, hp)) (head ∙ sym (a y ly))
        | next ny ↦ nx ∙ sym ny
      ]
    ] in
    let here : f x ≡ g x = head ∙ ap g (sym same) in
    let a' : Agree f g (max n (suc x)) = λ i l. agree_more f g n x a gp.0 here i l in
    let r = unique f g k m df dg p q (max n (suc x)) a' gp.1 (subst (λ (j : ℕ). Grows (max n (suc j)) q) (sym same) gq.1) hp (subst (λ (j : ℕ). width (max n (suc j)) q ≤ m) (sym same) hq) rest in
    (let t : p ≡ q = r.0 in cc, r.1)
