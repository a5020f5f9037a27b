use Rattle.std.proofs.Common.{◌≡◌, ◌≢◌, zero, suc, ℕ, ◌+◌, ◌-◌, ◌<◌, ◌≤◌, List, [], ◌∷◌, ◌++◌, length, get_or, set, take, refl, sym, ap, ◌∙◌, subst, inl, inr, arith, length-set}
use Rattle.std.proofs.lemmas.List.{take_all, take_more, take_more_set, length-take-le}
use Rattle.std.proofs.lemmas.List.Sums.{sum_by_push}
use Rattle.std.specs.List.{sum_by}
use Rattle.cf_order.specs.declared.walk.Mark.{Mark}
use Rattle.cf_order.specs.declared.walk.Mark.TheVariants as mark
use Rattle.cf_order.specs.declared.walk.Frame.{Frame}
use Rattle.cf_order.specs.Orders.{row}
use Rattle.cf_order.specs.Walks.{Progress, mark_of, frame, entered, passed, left, top_of}
use Rattle.cf_order.specs.Sound.{Sound, Keeps, IsDone, frame_at, need}

-- what the loop over the roots keeps
pub record Rooted (rows : List (List ℕ)) (w : Progress) (root : ℕ) : Type 0 where
  pub sound : Sound rows w
  pub empty : w.stack ≡ []
  pub seen : (s : ℕ) → s < root → mark_of w s ≢ mark.New

-- the work that is left at a mark, at signals that aren't seen, at a frame, and in all
abbrev pub to_do : Mark → ℕ → ℕ
to_do mark.New n = n + 2
to_do (mark.Open i) n = 0
to_do (mark.Done i) n = 0

abbrev pub fresh : List Mark → List (List ℕ) → ℕ
fresh [] rows = 0
fresh (m ∷ ms) [] = 0
fresh (m ∷ ms) (r ∷ rows) = to_do m (length r) + fresh ms rows

abbrev pub ahead : List (List ℕ) → Frame → ℕ
ahead rows f = 1 + (length (row rows f.signal) - f.next)

abbrev pub work : List (List ℕ) → Progress → ℕ
work rows w = fresh w.marks rows + sum_by (ahead rows) w.stack

-- a mark is changed
pub fresh-set : (ms : List Mark) (rows : List (List ℕ)) (t : ℕ) (m : Mark) → t < length ms
    → t < length rows
    → fresh (set ms t m) rows + to_do (get_or ms t mark.New) (length (row rows t)) ≡ fresh ms rows +
    to_do m (length (row rows t))
fresh-set [] rows t m h k = elim h [ ]
fresh-set (a ∷ ms) [] t m h k = elim k [ ]
fresh-set (a ∷ ms) (r ∷ rows) zero m h k = omega arith
fresh-set (a ∷ ms) (r ∷ rows) (suc t) m h k = omega
    (arith, fresh-set ms rows t m (omega arith) (omega arith))

-- the way ends with the signal at hand
pub stack_split : (w : Progress) (f : Frame) → top_of w f
    → w.stack ≡ take (length w.stack - 1) w.stack ++ f ∷ []
stack_split w f top =
    let n = length w.stack - 1 in
    let one : n + 1 ≡ length w.stack = omega (arith, top.0) in
    sym (take_all (n + 1) w.stack (omega arith)) ∙ take_more w.stack n f (omega arith) ∙ ap
    (λ g. take n w.stack ++ g ∷ []) top.1

pub stack_set : (w : Progress) (f g : Frame) → top_of w f
    → set w.stack (length w.stack - 1) g ≡ take (length w.stack - 1) w.stack ++ g ∷ []
stack_set w f g top =
    let n = length w.stack - 1 in
    let one : n + 1 ≡ length w.stack = omega (arith, top.0) in
    sym (take_all (n + 1) (set w.stack n g) (omega (arith, length-set w.stack n g))) ∙ take_more_set
    w.stack n g (omega arith)

pub work_entered : (rows : List (List ℕ)) (w : Progress) (t : ℕ) → length w.marks ≡ length rows
    → t < length rows → mark_of w t ≡ mark.New → work rows (entered w t) < work rows w
work_entered rows w t full h new =
    let a = fresh-set w.marks rows t (mark.Open (length w.stack)) (omega arith) h in
    let b : to_do (get_or w.marks t mark.New) (length (row rows t)) ≡ length (row rows t) + 2 = ap
    (λ m. to_do m (length (row rows t))) new in
    let s = sum_by_push (ahead rows) w.stack (frame t 0) in
    omega (arith, a, b, s)

pub work_passed : (rows : List (List ℕ)) (w : Progress) (f : Frame) → top_of w f
    → f.next < length (row rows f.signal) → work rows (passed w f) < work rows w
work_passed rows w f top more =
    let n = length w.stack - 1 in let g = frame f.signal (f.next + 1) in
    let a = ap (sum_by (ahead rows)) (stack_split w f top) ∙ sum_by_push (ahead rows)
    (take n w.stack) f in
    let b = ap (sum_by (ahead rows)) (stack_set w f g top) ∙ sum_by_push (ahead rows)
    (take n w.stack) g in
    omega (arith, a, b, more)

pub work_left : (rows : List (List ℕ)) (w : Progress) (f : Frame) → top_of w f
    → length w.marks ≡ length rows → f.signal < length rows → (i : ℕ)
    → mark_of w f.signal ≡ mark.Open i → work rows (left w f) < work rows w
work_left rows w f top full h i was =
    let n = length w.stack - 1 in
    let a = fresh-set w.marks rows f.signal (mark.Done (length w.order)) (omega arith) h in
    let b : to_do (get_or w.marks f.signal mark.New) (length (row rows f.signal)) ≡ 0 = ap
    (λ m. to_do m (length (row rows f.signal))) was in
    let s = ap (sum_by (ahead rows)) (stack_split w f top) ∙ sum_by_push (ahead rows)
    (take n w.stack) f in
    omega (arith, a, b, s)
