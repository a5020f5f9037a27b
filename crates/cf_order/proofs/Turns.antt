use Rattle.std.proofs.Common.{◌≡◌, ◌≢◌, zero, suc, ℕ, ◌+◌, ◌-◌, ◌<◌, ◌≤◌, List, [], ◌∷◌, ◌++◌, length, get_or, set, take, drop, map, replicate, refl, sym, ap, ◌∙◌, subst, inl, inr, ◌⊎◌, arith, length-drop, length-take}
use Rattle.std.proofs.lemmas.Bool.{cases_lt}
use Rattle.std.proofs.lemmas.List.{length-map, length-replicate, get_or_default, get_or_past, get_or-map, get_or-drop, get_or-take, length-take-le}
use Rattle.std.specs.List.{All, Contains}
use Rattle.cf_order.specs.declared.walk.Mark.{Mark}
use Rattle.cf_order.specs.declared.walk.Mark.TheVariants as mark
use Rattle.cf_order.specs.declared.walk.Frame.{Frame}
use Rattle.cf_order.specs.Orders.{row, Needs, Chain, IsRing, IsOrder}
use Rattle.cf_order.specs.Walks.{Progress, mark_of, frame, entered, passed, left, top_of, started}
use Rattle.cf_order.specs.Sound.{Sound, Keeps, IsDone, frame_at, need, dones, one_if_done}
use Rattle.cf_order.proofs.Work.{Rooted, work, work_entered, work_passed, work_left}
use Rattle.cf_order.proofs.Walking.{sound_entered, keeps_entered, sound_passed, sound_left, keeps_left}

pub mark_cases : (m : Mark) → (m ≡ mark.New) ⊎ (((i : ℕ) × (m ≡ mark.Open i)) ⊎ IsDone m)
mark_cases mark.New = inl refl
mark_cases (mark.Open i) = inr (inl (i, refl))
mark_cases (mark.Done i) = inr (inr (i, refl))

-- a signal that is seen is one of the signals
pub seen_within : (w : Progress) (s : ℕ) → mark_of w s ≢ mark.New → s < length w.marks
seen_within w s seen = elim (cases_lt s (length w.marks))
    [ inl l ↦ l | inr g ↦ absurd (seen (get_or_past w.marks s mark.New g)) ]

-- the frame at hand is the last
pub top_at : (w : Progress) (f : Frame) → top_of w f → (i : ℕ) → i + 1 ≡ length w.stack
    → frame_at w i ≡ f
top_at w f top i e = let j : i ≡ length w.stack - 1 = omega arith in ap (λ (j : ℕ). frame_at w j) j
    ∙ (get_or_default w.stack (length w.stack - 1) (frame 0 0) f (omega (arith, top.0)) ∙ top.1)

pub top_open : (rows : List (List ℕ)) (w : Progress) (f : Frame) → Sound rows w → top_of w f
    → mark_of w f.signal ≡ mark.Open (length w.stack - 1)
top_open rows w f sound top = let i = length w.stack - 1 in
    subst (λ (g : Frame). mark_of w g.signal ≡ mark.Open i)
    (top_at w f top i (omega (arith, top.0))) (sound.opened i (omega (arith, top.0)))

pub top_within : (rows : List (List ℕ)) (w : Progress) (f : Frame) → Sound rows w → top_of w f
    → f.signal < length rows
top_within rows w f sound top = omega (
  arith,
  seen_within w f.signal
      (λ n. let o = top_open rows w f sound top in cc),
  sound.full,
)

pub need_within : (rows : List (List ℕ)) (s k : ℕ) → All (All (λ t. t < length rows)) rows
    → s < length rows → k < length (row rows s) → need rows s k < length rows
need_within rows s k below h hk = below s [] h k 0 hk

pub needs_at : (rows : List (List ℕ)) (s k t : ℕ) → k < length (row rows s) → need rows s k ≡ t
    → Needs rows s t
needs_at rows s k t h e = (k, h, get_or_default (row rows s) k t 0 h ∙ e)

-- what the signal at hand needs next
pub top_link : (rows : List (List ℕ)) (w : Progress) (f : Frame) → top_of w f
    → f.next < length (row rows f.signal)
    → (i : ℕ) → i + 1 ≡ length w.stack → ((frame_at w i).next < length
    (row rows (frame_at w i).signal)) × (need rows (frame_at w i).signal (frame_at w i).next ≡
    need rows f.signal f.next)
top_link rows w f top more i e =
    subst (λ (g : Frame). (g.next < length (row rows g.signal)) ×
    (need rows g.signal g.next ≡ need rows f.signal f.next)) (sym (top_at w f top i e))
    (more, refl)

-- a list in which each needs the next, and the last needs b
pub chain_of : (rows : List (List ℕ)) (a : ℕ) (rest : List ℕ) (b : ℕ)
    → ((i : ℕ) → suc i < length (a ∷ rest) → Needs rows (get_or (a ∷ rest) i 0) (get_or (a ∷ rest)
    (suc i) 0))
    → ((i : ℕ) → suc i ≡ length (a ∷ rest) → Needs rows (get_or (a ∷ rest) i 0) b)
    → Chain rows a rest b
chain_of rows a [] b steps last = last 0 refl
chain_of rows a (c ∷ cs) b steps last = (
  steps 0 (omega arith),
  chain_of rows c cs b
      (λ i h. steps (suc i) (omega (arith, h))) (λ i e. last (suc i) (ap suc e)),
)

pub ring_of : (rows xs : _) → 0 < length xs
    → ((i : ℕ) → suc i < length xs → Needs rows (get_or xs i 0) (get_or xs (suc i) 0))
    → ((i : ℕ) → suc i ≡ length xs → Needs rows (get_or xs i 0) (get_or xs 0 0)) → IsRing rows xs
ring_of rows [] h steps last = elim h [ ]
ring_of rows (a ∷ rest) h steps last = chain_of rows a rest a steps last

-- the signal at hand needs one that is on the way
pub ring_found : (rows : List (List ℕ)) (w : Progress) (f : Frame) (d : ℕ) → Sound rows w
    → top_of w f → f.next < length (row rows f.signal)
    → mark_of w (need rows f.signal f.next) ≡ mark.Open d
    → IsRing rows (map (λ f. f.signal) (drop d w.stack))
ring_found rows w f d sound top more here =
    let old = sound.is_open _ d here in
    let signal : Frame → ℕ = λ f. f.signal in
    let xs = map signal (drop d w.stack) in
    let n : length xs + d ≡ length w.stack = omega
    (arith, length-map (drop d w.stack) signal, length-drop d w.stack, old.0) in
    let at : (i : ℕ) → i < length xs → get_or xs i 0 ≡ (frame_at w (d + i)).signal =
    λ i h. get_or-map signal (drop d w.stack) i (frame 0 0) 0
    (omega (arith, length-map (drop d w.stack) signal)) ∙ ap signal
    (get_or-drop d w.stack i (frame 0 0)) in
    ring_of rows xs (omega (arith, old.0))
    (λ i h.
    let c = sound.chain (d + i) (omega arith) in
    let z : (d + i) + 1 ≡ d + suc i = omega arith in
    subst (λ s. Needs rows s (get_or xs (suc i) 0)) (sym (at i (omega (arith, h))))
    (needs_at rows _ _ _ c.0 (c.1 ∙ ap (λ (j : ℕ). (frame_at w j).signal) z ∙ sym
    (at (suc i) h))))
    (λ i e.
    let l = top_link rows w f top more (d + i) (omega arith) in
    let z : d + 0 ≡ d = omega arith in
    subst (λ s. Needs rows s (get_or xs 0 0)) (sym (at i (omega (arith, e))))
    (needs_at rows _ _ _ l.0 (l.1 ∙ sym (at 0 (omega (arith, old.0)) ∙ ap
    (λ (j : ℕ). (frame_at w j).signal) z ∙ old.1))))

dones-all : (ms : List Mark) → ((s : ℕ) → s < length ms → IsDone (get_or ms s mark.New))
    → dones ms ≡ length ms
dones-all [] all = refl
dones-all (m ∷ ms) all = let d = all 0 (omega arith) in let e = ap one_if_done d.1 in omega
    (arith, e, dones-all ms (λ s h. all (suc s) (omega (arith, h))))

-- where the way is empty and every signal is seen, the order is there
pub order_found : (rows : List (List ℕ)) (w : Progress) (n : ℕ) → length rows ≤ n → Rooted rows w n
    → IsOrder rows w.order
order_found rows w n all rooted =
    let sound = rooted.sound in
    let done : (s : ℕ) → s < length rows → IsDone (mark_of w s) = λ s h. elim (mark_cases
    (mark_of w s)) [
      | inl new ↦ absurd (rooted.seen s (omega arith) new)
      | inr (inl on) ↦ let z = ap length rooted.empty in absurd
          (omega (arith, (sound.is_open s on.0 on.1).0, z))
      | inr (inr d) ↦ d
    ] in
    record {
      whole = sym sound.counted ∙ dones-all w.marks (λ s h. done s (omega (arith, h, sound.full))) ∙
          sound.full;
      within = λ i h. omega (
        arith,
        seen_within w (get_or w.order i 0)
            (λ new. let p = sound.placed i h in cc),
        sound.full,
      );
      every = λ s h. let d = done s h in let o = sound.is_done s d.0 d.1 in
          (d.0, o.0, get_or_default w.order d.0 s 0 o.0 ∙ o.1);
      once = λ i j h k e. let p = sound.placed i h in let q = sound.placed j k in let m = ap
          (λ s. mark_of w s) e in cc;
      after = λ i h t (k, hk, e).
          let a = sound.after i k h hk in
          let o = sound.is_done _ a.0 a.2 in
          let l : a.0 < length (take i w.order) = omega
          (arith, length-take-le i w.order (omega (arith, h)), a.1) in (
            a.0,
            l,
            get_or-take i w.order a.0 t a.1 ∙ get_or_default w.order a.0 t 0 o.0 ∙ o.1 ∙
                get_or_default (row rows (get_or w.order i 0)) k 0 t hk ∙ e,
          );
    }

-- a turn of the walk: f is at hand, and ys is what it needs
pub record Here (rows : List (List ℕ)) (w : Progress) (f : Frame) (ys : List ℕ) : Type 0 where
  pub sound : Sound rows w
  pub top : top_of w f
  pub within : f.signal < length rows
  pub is : ys ≡ row rows f.signal

pub here : (rows : List (List ℕ)) (w : Progress) (f : Frame) (ys : List ℕ) → Sound rows w
    → top_of w f → ys ≡ row rows f.signal → Here rows w f ys
here rows w f ys sound top is = record {
  sound = sound;
  top = top;
  within = top_within rows w f
      sound top;
  is = is;
}

module _ (rows : List (List ℕ)) (w : Progress) (f : Frame) (ys : List ℕ) (turn : Here rows w f ys)
  where
    row_length : length ys ≡ length (row rows f.signal)
    row_length = ap length turn.is

    need_is : get_or ys f.next 0 ≡ need rows f.signal f.next
    need_is = ap (λ zs. get_or zs f.next 0) turn.is

    pub need_here : All (All (λ t. t < length rows)) rows → f.next < length ys
        → get_or ys f.next 0 < length w.marks
    need_here below h = omega (
      arith,
      turn.sound.full,
      need_is,
      need_within rows f.signal f.next below
          turn.within (omega (arith, row_length)),
    )

    pub turn_new : (v : Progress) → All (All (λ t. t < length rows)) rows → f.next < length ys
        → mark.New ≡ mark_of w (get_or ys f.next 0) → v ≡ entered w (get_or ys f.next 0)
        → Sound rows v × Keeps w v × (work rows v < work rows w)
    turn_new v below h new e =
        let t = get_or ys f.next 0 in
        let more : f.next < length (row rows f.signal) = omega (arith, row_length) in
        let fits : t < length rows = omega (arith, turn.sound.full, need_here below h) in
        subst (λ v. Sound rows v × Keeps w v × (work rows v < work rows w)) (sym e) (
          sound_entered rows w t turn.sound fits (sym new)
              (λ i z. let l = top_link rows w f turn.top more i z in (l.0, l.1 ∙ sym need_is)),
          keeps_entered rows w t turn.sound fits (sym new)
              (λ i z. let l = top_link rows w f turn.top more i z in (l.0, l.1 ∙ sym need_is)),
          work_entered rows w t turn.sound.full fits (sym new),
        )

    pub turn_done : (v : Progress) (j : ℕ) → f.next < length ys
        → mark.Done j ≡ mark_of w (get_or ys f.next 0) → v ≡ passed w f
        → Sound rows v × Keeps w v × (work rows v < work rows w)
    turn_done v j h done e =
        let more : f.next < length (row rows f.signal) = omega (arith, row_length) in
        subst (λ v. Sound rows v × Keeps w v × (work rows v < work rows w)) (sym e) (
          sound_passed rows w f turn.sound turn.top more
              (j, ap (λ s. mark_of w s) (sym need_is) ∙ sym done),
          (λ s seen. seen),
          work_passed rows w f
              turn.top more,
        )

    pub turn_ring : (d : ℕ) → f.next < length ys → mark.Open d ≡ mark_of w (get_or ys f.next 0)
        → (d < length w.stack) × IsRing rows (map (λ f. f.signal) (drop d w.stack))
    turn_ring d h on =
        let more : f.next < length (row rows f.signal) = omega (arith, row_length) in
        let m = ap (λ s. mark_of w s) (sym need_is) ∙ sym on in
        ((turn.sound.is_open _ d m).0, ring_found rows w f d turn.sound turn.top more m)

    pub turn_last : (v : Progress) → length ys ≤ f.next → v ≡ left w f
        → Sound rows v × Keeps w v × (work rows v < work rows w)
    turn_last v none e =
        let o = top_open rows w f turn.sound turn.top in
        let n : length (row rows f.signal) ≤ f.next = omega (arith, row_length) in
        subst (λ v. Sound rows v × Keeps w v × (work rows v < work rows w)) (sym e) (
          sound_left rows w f turn.sound turn.top turn.within n,
          keeps_left rows w f turn.sound turn.top
              turn.within n,
          work_left rows w f turn.top turn.sound.full turn.within _ o,
        )

-- the walk goes on to a root, where none is on the way
pub root_entered : (rows : List (List ℕ)) (w v : Progress) (root : ℕ) → Rooted rows w root
    → root < length rows → mark.New ≡ mark_of w root → v ≡ entered w root → Sound rows v
root_entered rows w v root rooted fits new e =
    subst (Sound rows) (sym e) (sound_entered rows w root rooted.sound fits (sym new)
    (λ i z. let n = ap length rooted.empty in absurd (omega arith)))

new_everywhere : (n s : ℕ) → get_or (replicate n mark.New) s mark.New ≡ mark.New
new_everywhere zero s = refl
new_everywhere (suc n) zero = refl
new_everywhere (suc n) (suc s) = new_everywhere n s

no_dones : (n : ℕ) → dones (replicate n mark.New) ≡ 0
no_dones zero = refl
no_dones (suc n) = omega (arith, no_dones n)

pub rooted_started : (rows : List (List ℕ)) (w : Progress) → w ≡ started (length rows)
    → Rooted rows w 0
rooted_started rows w e = subst (λ w. Rooted rows w 0) (sym e) (record {
  sound = record {
    full = length-replicate (length rows) mark.New;
    counted = no_dones (length rows);
    opened = λ i h. absurd (omega arith);
    placed = λ i h. absurd (omega arith);
    is_open = λ s i h. let n = new_everywhere (length rows) s in let no : ⊥ = cc in absurd no;
    is_done = λ s i h. let n = new_everywhere (length rows) s in let no : ⊥ = cc in absurd no;
    looked = λ i k h. absurd (omega arith);
    within = λ i h. absurd (omega arith);
    chain = λ i h. absurd (omega arith);
    after = λ i k h. absurd (omega arith);
  };
  empty = refl;
  seen = λ s h. absurd (omega arith);
})
