use Rattle.std.proofs.Common.{◌≡◌, ◌≢◌, ℕ, ◌+◌, ◌-◌, ◌<◌, ◌≤◌, List, [], ◌∷◌, ◌++◌, length, get_or, set, take, zero, suc, refl, sym, ap, ◌∙◌, subst, inl, inr, ◌⊎◌, arith, length-set}
use Rattle.std.proofs.lemmas.Bool.{cases_lt, cases_eq}
use Rattle.std.proofs.lemmas.List.{get_or-set_same, get_or-set_other, get_or_append_left, get_or_push, length_push, get_or-take, length-take-le, get_or_default}
use Rattle.cf_order.specs.declared.walk.Mark.{Mark}
use Rattle.cf_order.specs.declared.walk.Mark.TheVariants as mark
use Rattle.cf_order.specs.declared.walk.Frame.{Frame}
use Rattle.cf_order.specs.Orders.{row}
use Rattle.cf_order.specs.Walks.{Progress, mark_of, frame, entered, passed, left, top_of}
use Rattle.cf_order.specs.Sound.{Sound, Keeps, IsDone, frame_at, need, dones, one_if_done}

-- a mark is changed
dones-set : (ms : List Mark) (t : ℕ) (m : Mark) → t < length ms
    → dones (set ms t m) + one_if_done (get_or ms t mark.New) ≡ dones ms + one_if_done m
dones-set [] t m h = elim h [ ]
dones-set (a ∷ ms) zero m h = omega arith
dones-set (a ∷ ms) (suc t) m h = omega (arith, dones-set ms t m (omega arith))

-- a signal is entered that is new, and that the signal at hand needs next
module _ (rows : List (List ℕ)) (w : Progress) (t : ℕ) (sound : Sound rows w)
    (fits : t < length rows) (new : mark_of w t ≡ mark.New)
    (link : (i : ℕ) → i + 1 ≡ length w.stack
    → ((frame_at w i).next < length (row rows (frame_at w i).signal)) ×
    (need rows (frame_at w i).signal (frame_at w i).next ≡ t)) where
  entered_same : mark_of (entered w t) t ≡ mark.Open (length w.stack)
  entered_same = get_or-set_same w.marks t _ _ (omega (arith, sound.full))

  entered_other : (s : ℕ) → s ≢ t → mark_of (entered w t) s ≡ mark_of w s
  entered_other s ne = get_or-set_other w.marks t s _ _ ne

  entered_below : (i : ℕ) → i < length w.stack → frame_at (entered w t) i ≡ frame_at w i
  entered_below i h = get_or_append_left w.stack (frame t 0 ∷ []) _ i h

  entered_top : (i : ℕ) → length w.stack ≡ i → frame_at (entered w t) i ≡ frame t 0
  entered_top i e = get_or_push w.stack (frame t 0) _ i e

  -- a mark of another kind stays
  entered_open : (s i : ℕ) → mark_of w s ≡ mark.Open i → mark_of (entered w t) s ≡ mark.Open i
  entered_open s i h = entered_other s (λ e. let m : mark_of w s ≡ mark_of w t = ap
      (λ x. mark_of w x) e in cc) ∙ h

  entered_done : (s i : ℕ) → mark_of w s ≡ mark.Done i → mark_of (entered w t) s ≡ mark.Done i
  entered_done s i h = entered_other s (λ e. let m : mark_of w s ≡ mark_of w t = ap
      (λ x. mark_of w x) e in cc) ∙ h

  entered_kept : (s : ℕ) → IsDone (mark_of w s) → IsDone (mark_of (entered w t) s)
  entered_kept s (j, h) = (j, entered_done s j h)

  entered_cases : (i : ℕ) → i < length (entered w t).stack
      → (i < length w.stack) ⊎ (length w.stack ≡ i)
  entered_cases i h = elim (cases_lt i (length w.stack))
      [ inl l ↦ inl l | inr g ↦ inr (omega (arith, length_push w.stack (frame t 0))) ]

  pub sound_entered : Sound rows (entered w t)
  sound_entered = record {
    full = length-set w.marks t (mark.Open (length w.stack)) ∙ sound.full;
    counted = omega (
      arith,
      dones-set w.marks t (mark.Open (length w.stack))
          (omega (arith, sound.full)),
      ap one_if_done new,
      sound.counted,
    );
    opened = λ i h. elim (entered_cases i h) [
      | inl l ↦ subst (λ (f : Frame). mark_of (entered w t) f.signal ≡ mark.Open i)
          (sym (entered_below i l)) (entered_open _ i (sound.opened i l))
      | inr e ↦ subst (λ (f : Frame). mark_of (entered w t) f.signal ≡ mark.Open i)
          (sym (entered_top i e)) (entered_same ∙ ap (λ n. mark.Open n) e)
    ];
    placed = λ i h. entered_done _ i (sound.placed i h);
    is_open = λ s i h. elim (cases_eq s t) [
      | inl e ↦
          let m : mark_of (entered w t) s ≡ mark.Open (length w.stack) = ap
          (λ x. mark_of (entered w t) x) e ∙ entered_same in
          let k : length w.stack ≡ i = cc in (
            omega (arith, length_push w.stack (frame t 0)),
            ap (λ (f : Frame). f.signal)
                (entered_top i k) ∙ sym e,
          )
      | inr ne ↦
          let old = sound.is_open s i (sym (entered_other s ne) ∙ h) in (
            omega (arith, length_push w.stack (frame t 0), old.0),
            ap (λ (f : Frame). f.signal)
                (entered_below i old.0) ∙ old.1,
          )
    ];
    is_done = λ s i h. elim (cases_eq s t) [
      | inl e ↦
          let m : mark_of (entered w t) s ≡ mark.Open (length w.stack) = ap
          (λ x. mark_of (entered w t) x) e ∙ entered_same in
          let no : ⊥ = cc in absurd no
      | inr ne ↦ sound.is_done s i (sym (entered_other s ne) ∙ h)
    ];
    looked = λ i k h. elim (entered_cases i h) [
      | inl l ↦ subst (λ (f : Frame). k < f.next
          → IsDone (mark_of (entered w t) (need rows f.signal k))) (sym (entered_below i l))
          (λ b. entered_kept _ (sound.looked i k l b))
      | inr e ↦ subst (λ (f : Frame). k < f.next
          → IsDone (mark_of (entered w t) (need rows f.signal k))) (sym (entered_top i e))
          (λ b. absurd (omega arith))
    ];
    within = λ i h. elim (entered_cases i h) [
      | inl l ↦ subst (λ (f : Frame). f.next ≤ length (row rows f.signal)) (sym (entered_below i l))
          (sound.within i l)
      | inr e ↦ subst (λ (f : Frame). f.next ≤ length (row rows f.signal)) (sym (entered_top i e))
          (omega arith)
    ];
    chain = λ i h.
        let l : i < length w.stack = omega (arith, length_push w.stack (frame t 0)) in
        subst (λ (f : Frame). (f.next < length (row rows f.signal)) ×
        (need rows f.signal f.next ≡ (frame_at (entered w t) (i + 1)).signal))
        (sym (entered_below i l))
        (elim (entered_cases (i + 1) h) [
          | inl m ↦ let old = sound.chain i m in (
            old.0,
            old.1 ∙ sym
                (ap (λ (f : Frame). f.signal) (entered_below (i + 1) m)),
          )
          | inr e ↦ let last = link i (sym e) in (
            last.0,
            last.1 ∙ sym
                (ap (λ (f : Frame). f.signal) (entered_top (i + 1) e)),
          )
        ]);
    after = λ i k h b. let old = sound.after i k h b in (old.0, old.1, entered_done _ old.0 old.2);
  }

  pub keeps_entered : Keeps w (entered w t)
  keeps_entered s seen n = elim (cases_eq s t) [
    | inl e ↦ let m : mark_of (entered w t) s ≡ mark.Open (length w.stack) = ap
        (λ x. mark_of (entered w t) x) e ∙ entered_same in cc
    | inr ne ↦ seen (sym (entered_other s ne) ∙ n)
  ]

-- the signal at hand needs, next, a signal that is done
module _ (rows : List (List ℕ)) (w : Progress) (f : Frame) (sound : Sound rows w) (top : top_of w f)
    (more : f.next < length (row rows f.signal))
    (done : IsDone (mark_of w (need rows f.signal f.next))) where
  passed_other : (i : ℕ) → i ≢ length w.stack - 1 → frame_at (passed w f) i ≡ frame_at w i
  passed_other i ne = get_or-set_other w.stack (length w.stack - 1) i _ _ ne

  passed_here : (i : ℕ) → i ≡ length w.stack - 1
      → frame_at (passed w f) i ≡ frame f.signal (f.next + 1)
  passed_here i e = ap (λ (j : ℕ). frame_at (passed w f) j) e ∙ get_or-set_same w.stack
      (length w.stack - 1) _ _ (omega (arith, top.0))

  was_here : (i : ℕ) → i ≡ length w.stack - 1 → frame_at w i ≡ f
  was_here i e = ap (λ (j : ℕ). frame_at w j) e ∙
      (get_or_default w.stack (length w.stack - 1) (frame 0 0) f (omega (arith, top.0)) ∙ top.1)

  passed_length : length (passed w f).stack ≡ length w.stack
  passed_length = length-set w.stack (length w.stack - 1) (frame f.signal (f.next + 1))

  -- the signal at a depth stays
  passed_signal : (i : ℕ) → (frame_at (passed w f) i).signal ≡ (frame_at w i).signal
  passed_signal i = elim (cases_eq i (length w.stack - 1)) [
    | inl e ↦ ap (λ (g : Frame). g.signal) (passed_here i e) ∙ sym
        (ap (λ (g : Frame). g.signal) (was_here i e))
    | inr ne ↦ ap (λ (g : Frame). g.signal) (passed_other i ne)
  ]

  -- what holds at a frame, holds at each, if it holds at this one
  passed_each : (P : Frame → Type 0) (i : ℕ) → (i ≢ length w.stack - 1 → P (frame_at w i))
      → (i ≡ length w.stack - 1 → P (frame f.signal (f.next + 1))) → P (frame_at (passed w f) i)
  passed_each P i other here = elim (cases_eq i (length w.stack - 1)) [
    | inl e ↦ subst P (sym (passed_here i e)) (here e)
    | inr ne ↦ subst P (sym (passed_other i ne)) (other ne)
  ]

  pub sound_passed : Sound rows (passed w f)
  sound_passed = record {
    full = sound.full;
    counted = sound.counted;
    opened = λ i h. subst (λ s. mark_of w s ≡ mark.Open i) (sym (passed_signal i))
        (sound.opened i (omega (arith, passed_length)));
    placed = sound.placed;
    is_open = λ s i h. let old = sound.is_open s i h in
        (omega (arith, passed_length, old.0), passed_signal i ∙ old.1);
    is_done = sound.is_done;
    looked = λ i k h. let l : i < length w.stack = omega (arith, passed_length) in
        passed_each (λ g. k < g.next → IsDone (mark_of w (need rows g.signal k))) i
        (λ ne b. sound.looked i k l b)
        (λ e b. elim (cases_eq k f.next) [
          | inl z ↦ subst (λ n. IsDone (mark_of w (need rows f.signal n))) (sym z) done
          | inr ne ↦
              let P : Frame → Type 0 = λ g. k < g.next → IsDone (mark_of w (need rows g.signal k)) in
              subst P (was_here i e) (λ b. sound.looked i k l b) (omega arith)
        ]);
    within = λ i h. let l : i < length w.stack = omega (arith, passed_length) in
        passed_each (λ g. g.next ≤ length (row rows g.signal)) i (λ ne. sound.within i l)
        (λ e. omega (arith, more));
    chain = λ i h. let l : i + 1 < length w.stack = omega (arith, passed_length) in
        passed_each (λ g. (g.next < length (row rows g.signal)) ×
        (need rows g.signal g.next ≡ (frame_at (passed w f) (i + 1)).signal)) i
        (λ ne. let old = sound.chain i l in (old.0, old.1 ∙ sym (passed_signal (i + 1))))
        (λ e. absurd (omega arith));
    after = sound.after;
  }

-- the signal at hand is done
module _ (rows : List (List ℕ)) (w : Progress) (f : Frame) (sound : Sound rows w) (top : top_of w f)
    (fits : f.signal < length rows) (none : length (row rows f.signal) ≤ f.next) where
  left_length : length (left w f).stack + 1 ≡ length w.stack
  left_length = let n = length-take-le (length w.stack - 1) w.stack (omega arith) in omega
      (arith, top.0, n)

  left_frame : (i : ℕ) → i < length (left w f).stack → frame_at (left w f) i ≡ frame_at w i
  left_frame i h = get_or-take (length w.stack - 1) w.stack i _ (omega (arith, left_length))

  top_frame : (i : ℕ) → i + 1 ≡ length w.stack → frame_at w i ≡ f
  top_frame i e = let j : i ≡ length w.stack - 1 = omega arith in ap (λ (j : ℕ). frame_at w j) j ∙
      (get_or_default w.stack (length w.stack - 1) (frame 0 0) f (omega (arith, top.0)) ∙ top.1)

  left_same : mark_of (left w f) f.signal ≡ mark.Done (length w.order)
  left_same = get_or-set_same w.marks f.signal _ _ (omega (arith, sound.full))

  left_other : (s : ℕ) → s ≢ f.signal → mark_of (left w f) s ≡ mark_of w s
  left_other s ne = get_or-set_other w.marks f.signal s _ _ ne

  was_open : mark_of w f.signal ≡ mark.Open (length w.stack - 1)
  was_open = let i = length w.stack - 1 in subst (λ (g : Frame). mark_of w g.signal ≡ mark.Open i)
      (top_frame i (omega (arith, top.0))) (sound.opened i (omega (arith, top.0)))

  left_done : (s i : ℕ) → mark_of w s ≡ mark.Done i → mark_of (left w f) s ≡ mark.Done i
  left_done s i h = left_other s (λ e. let m : mark_of w s ≡ mark_of w f.signal = ap
      (λ x. mark_of w x) e in let o = was_open in cc) ∙ h

  left_order : (i : ℕ) → i < length w.order → get_or (left w f).order i 0 ≡ get_or w.order i 0
  left_order i h = get_or_append_left w.order (f.signal ∷ []) 0 i h

  left_last : (i : ℕ) → length w.order ≡ i → get_or (left w f).order i 0 ≡ f.signal
  left_last i e = get_or_push w.order f.signal 0 i e

  left_cases : (i : ℕ) → i < length (left w f).order → (i < length w.order) ⊎ (length w.order ≡ i)
  left_cases i h = elim (cases_lt i (length w.order))
      [ inl l ↦ inl l | inr g ↦ inr (omega (arith, length_push w.order f.signal)) ]

  pub sound_left : Sound rows (left w f)
  sound_left = record {
    full = length-set w.marks f.signal (mark.Done (length w.order)) ∙ sound.full;
    counted = omega (
      arith,
      dones-set w.marks f.signal (mark.Done (length w.order))
          (omega (arith, sound.full)),
      ap one_if_done was_open,
      sound.counted,
      length_push w.order
          f.signal,
    );
    opened = λ i h.
        let l : i < length w.stack = omega (arith, left_length) in
        subst (λ (g : Frame). mark_of (left w f) g.signal ≡ mark.Open i) (sym (left_frame i h))
        (left_other _ (λ e.
        let m : mark_of w (frame_at w i).signal ≡ mark_of w f.signal = ap (λ x. mark_of w x) e in
        let o = was_open in let p = sound.opened i l in
        let k : i ≡ length w.stack - 1 = cc in absurd (omega (arith, left_length, k))) ∙
        sound.opened i l);
    placed = λ i h. elim (left_cases i h) [
      | inl l ↦ subst (λ s. mark_of (left w f) s ≡ mark.Done i) (sym (left_order i l))
          (left_done _ i (sound.placed i l))
      | inr e ↦ subst (λ s. mark_of (left w f) s ≡ mark.Done i) (sym (left_last i e))
          (left_same ∙ ap (λ n. mark.Done n) e)
    ];
    is_open = λ s i h. elim (cases_eq s f.signal) [
      | inl e ↦
          let m : mark_of (left w f) s ≡ mark.Done (length w.order) = ap (λ x. mark_of (left w f) x)
          e ∙ left_same in
          let no : ⊥ = cc in absurd no
      | inr ne ↦
          let old = sound.is_open s i (sym (left_other s ne) ∙ h) in
          let l : i < length (left w f).stack = elim (cases_eq (i + 1) (length w.stack)) [
            | inl z ↦ absurd (ne (sym old.1 ∙ ap (λ (g : Frame). g.signal) (top_frame i z)))
            | inr nz ↦ omega (arith, left_length, old.0)
          ] in
          (l, ap (λ (g : Frame). g.signal) (left_frame i l) ∙ old.1)
    ];
    is_done = λ s i h. elim (cases_eq s f.signal) [
      | inl e ↦
          let m : mark_of (left w f) s ≡ mark.Done (length w.order) = ap (λ x. mark_of (left w f) x)
          e ∙ left_same in
          let k : length w.order ≡ i = cc in
          (omega (arith, length_push w.order f.signal), left_last i k ∙ sym e)
      | inr ne ↦
          let old = sound.is_done s i (sym (left_other s ne) ∙ h) in
          (omega (arith, length_push w.order f.signal, old.0), left_order i old.0 ∙ old.1)
    ];
    looked = λ i k h. let l : i < length w.stack = omega (arith, left_length) in
        subst (λ (g : Frame). k < g.next → IsDone (mark_of (left w f) (need rows g.signal k)))
        (sym (left_frame i h))
        (λ b. let old = sound.looked i k l b in (old.0, left_done _ old.0 old.1));
    within = λ i h. let l : i < length w.stack = omega (arith, left_length) in
        subst (λ (g : Frame). g.next ≤ length (row rows g.signal)) (sym (left_frame i h))
        (sound.within i l);
    chain = λ i h. let l : i < length (left w f).stack = omega arith in let m : i + 1 < length
        w.stack = omega (arith, left_length) in
        subst (λ (g : Frame). (g.next < length (row rows g.signal)) ×
        (need rows g.signal g.next ≡ (frame_at (left w f) (i + 1)).signal)) (sym (left_frame i l))
        (let old = sound.chain i m in (
          old.0,
          old.1 ∙ sym
              (ap (λ (g : Frame). g.signal) (left_frame (i + 1) h)),
        ));
    after = λ i k h. elim (left_cases i h) [
      | inl l ↦ subst (λ s. k < length (row rows s)
          → (j : ℕ) × (j < i) × (mark_of (left w f) (need rows s k) ≡ mark.Done j))
          (sym (left_order i l))
          (λ b. let old = sound.after i k l b in (old.0, old.1, left_done _ old.0 old.2))
      | inr e ↦ subst (λ s. k < length (row rows s)
          → (j : ℕ) × (j < i) × (mark_of (left w f) (need rows s k) ≡ mark.Done j))
          (sym (left_last i e))
          (λ b.
          let n = length w.stack - 1 in
          let P : Frame → Type 0 = λ g. k < g.next → IsDone (mark_of w (need rows g.signal k)) in
          let old = subst P (top_frame n (omega (arith, top.0)))
          (λ b. sound.looked n k (omega (arith, top.0)) b) (omega (arith, none, b)) in
          (old.0, omega (arith, (sound.is_done _ old.0 old.1).0, e), left_done _ old.0 old.1))
    ];
  }

  pub keeps_left : Keeps w (left w f)
  keeps_left s seen n = elim (cases_eq s f.signal) [
    | inl e ↦ let m : mark_of (left w f) s ≡ mark.Done (length w.order) = ap
        (λ x. mark_of (left w f) x) e ∙ left_same in cc
    | inr ne ↦ seen (sym (left_other s ne) ∙ n)
  ]
