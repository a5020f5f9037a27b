use Rattle.std.proofs.Common.{ℕ, zero, suc, ◌≡◌, ◌≢◌, ◌+◌, ◌-◌, ◌<◌, ◌≤◌, List, [], ◌∷◌, ◌++◌, length, take, drop, slice_index, refl, ap, sym, ◌∙◌, arith, subst, append_assoc, append-nil, length-drop}
use Rattle.std.proofs.Math.Seq.{take-add}
use Rattle.std.proofs.lemmas.List.{drop-drop, drop-take, length-take, take-take, take_at}
use Rattle.cf_reference.specs.Lines.{NoNewline}
use Rattle.cf_reference.proofs.LineLaws.{plain_append}
use Rattle.cf_io.specs.Shown.{SourceView}
use Rattle.cf_io.specs.Windows.{between, Comes}

-- bytes are free of newlines where each of their places is
pub plain_take : (i : ℕ) (bytes : List ℕ) → i ≤ length bytes → ((k : ℕ) → k < i → slice_index bytes k ≢ 10) → NoNewline (take i bytes)
plain_take zero bytes h p = tt
plain_take (suc i) [] h p = absurd (omega arith)
plain_take (suc i) (b ∷ bytes) h p = (p 0 (omega arith), plain_take i bytes (omega arith) (λ k lt. p (suc k) (omega arith)))

-- the places that were seen, and those behind them
pub plain_seen : (seen i : ℕ) (bytes behind : List ℕ) → seen + i ≤ length bytes → behind ≡ drop seen bytes → NoNewline (take seen bytes)
    → ((k : ℕ) → k < i → slice_index behind k ≢ 10) → NoNewline (take (seen + i) bytes)
plain_seen seen i bytes behind h e p q =
    subst NoNewline (sym (take-add seen i bytes))
    (plain_append (take seen bytes) (take i (drop seen bytes)) p
    (subst (λ w. NoNewline (take i w)) e (plain_take i behind (omega (arith, length-drop seen bytes, ap length e)) q)))

-- what two buffers with one front have between two places of it
pub between_kept : (from upto : ℕ) (a b : List ℕ) → from ≤ upto → take upto a ≡ take upto b → between from upto a ≡ between from upto b
between_kept from upto a b h e =
    let n : from + (upto - from) ≡ upto = omega arith in
    sym (drop-take from (upto - from) a)
    ∙ ap (λ k. drop from (take k a)) n
    ∙ ap (drop from) e
    ∙ ap (λ k. drop from (take k b)) (sym n)
    ∙ drop-take from (upto - from) b

-- more bytes behind those between two places
pub between_more : (from upto n : ℕ) (buf : List ℕ) → from ≤ upto → between from (upto + n) buf ≡ between from upto buf ++ take n (drop upto buf)
between_more from upto n buf h =
    let k : upto + n - from ≡ (upto - from) + n = omega arith in
    let m : from + (upto - from) ≡ upto = omega arith in
    ap (λ j. take j (drop from buf)) k
    ∙ take-add (upto - from) n (drop from buf)
    ∙ ap (λ w. between from upto buf ++ take n w) (drop-drop (upto - from) from buf ∙ ap (λ j. drop j buf) m)

-- the bytes that are left between two places where some are taken off
pub between_drop : (from upto n : ℕ) (buf : List ℕ) → from + n ≤ upto → between (from + n) upto buf ≡ drop n (between from upto buf)
between_drop from upto n buf h =
    let k : n + (upto - (from + n)) ≡ upto - from = omega arith in
    ap (take (upto - (from + n))) (sym (drop-drop n from buf))
    ∙ sym (drop-take n (upto - (from + n)) (drop from buf))
    ∙ ap (λ j. drop n (take j (drop from buf))) k

pub length_between : (from upto : ℕ) (buf : List ℕ) → from ≤ upto → upto ≤ length buf → length (between from upto buf) ≡ upto - from
length_between from upto buf h w = omega (arith, length-take (upto - from) (drop from buf), length-drop from buf)

-- a front of what is held is in the buffer
pub take_between : (from upto n : ℕ) (buf : List ℕ) → from + n ≤ upto → take n (between from upto buf) ≡ between from (from + n) buf
take_between from upto n buf h =
    let k : from + n - from ≡ n = omega arith in
    take-take n (upto - from) (drop from buf) (omega arith) ∙ ap (λ j. take j (drop from buf)) (sym k)

-- the place of the first newline cuts what is held
pub cut_at : (i : ℕ) (bytes : List ℕ) → i < length bytes → slice_index bytes i ≡ 10 → bytes ≡ take i bytes ++ 10 ∷ drop (i + 1) bytes
cut_at i [] h e = absurd (omega arith)
cut_at zero (b ∷ bytes) h e = ap (λ x. x ∷ bytes) e
cut_at (suc i) (b ∷ bytes) h e =
    let k : suc i + 1 ≡ suc (i + 1) = omega arith in
    rw k (ap (λ w. b ∷ w) (cut_at i bytes (omega arith) e))

-- what was read stands behind what was held
behind_held : (from upto n upto2 : ℕ) (items new mid held : List ℕ) → items ≡ new → from ≤ upto → upto2 ≡ upto + n → take upto new ≡ take upto mid
    → between from upto mid ≡ held → between from upto2 items ≡ held ++ take n (drop upto new)
behind_held from upto n upto2 items new mid held e h u k b =
    ap (between from upto2) e
    ∙ ap (λ j. between from j new) u
    ∙ between_more from upto n new h
    ∙ ap (λ w. w ++ take n (drop upto new)) (between_kept from upto new mid h k ∙ b)

pub stream_kept : (from upto n upto2 : ℕ) (items new mid held left left2 : List ℕ) → items ≡ new → from ≤ upto → upto2 ≡ upto + n → take upto new ≡ take upto mid
    → between from upto mid ≡ held → left ≡ take n (drop upto new) ++ left2 → between from upto2 items ++ left2 ≡ held ++ left
stream_kept from upto n upto2 items new mid held left left2 e h u k b l =
    ap (λ w. w ++ left2) (behind_held from upto n upto2 items new mid held e h u k b)
    ∙ append_assoc held (take n (drop upto new)) left2
    ∙ ap (λ w. held ++ w) (sym l)

pub front_kept : (from upto n upto2 : ℕ) (items new mid held : List ℕ) → items ≡ new → from ≤ upto → upto2 ≡ upto + n → take upto new ≡ take upto mid
    → between from upto mid ≡ held → take (length held) (between from upto2 items) ≡ held
front_kept from upto n upto2 items new mid held e h u k b =
    ap (take (length held)) (behind_held from upto n upto2 items new mid held e h u k b) ∙ take_at held (take n (drop upto new)) (length held) refl

-- a piece that was copied to the front of a buffer
pub copied : (at n : ℕ) (bytes piece rest : List ℕ) → at + n ≤ length bytes → piece ≡ take (at + n - at) (drop at bytes)
    → take (at + n) bytes ≡ take at bytes ++ take n (piece ++ rest)
copied at n bytes piece rest h e =
    let k : at + n - at ≡ n = omega arith in
    let is : piece ≡ take n (drop at bytes) = e ∙ ap (λ j. take j (drop at bytes)) k in
    let len : length piece ≡ n = omega (arith, ap length is, length-take n (drop at bytes), length-drop at bytes) in
    take-add at n bytes ∙ ap (λ w. take at bytes ++ w) (sym is ∙ sym (take_at piece rest n len))

-- nothing came, and more came
pub comes_none : (held : List ℕ) (s : SourceView) → Comes held held s s
comes_none held s = record { fresh = []; read = sym (append-nil s.read); left = refl; held = sym (append-nil held) }

pub comes_more : (h0 h1 h2 : List ℕ) (s0 s1 s2 : SourceView) → Comes h0 h1 s0 s1 → Comes h1 h2 s1 s2 → Comes h0 h2 s0 s2
comes_more h0 h1 h2 s0 s1 s2 a b = record {
  fresh = a.fresh ++ b.fresh;
  read = b.read ∙ ap (λ r. r ++ b.fresh) a.read ∙ append_assoc s0.read a.fresh b.fresh;
  left = a.left ∙ ap (λ l. a.fresh ++ l) b.left ∙ sym (append_assoc a.fresh b.fresh s2.left);
  held = b.held ∙ ap (λ h. h ++ b.fresh) a.held ∙ append_assoc h0 a.fresh b.fresh;
}

pub comes_behind : (from upto n upto2 : ℕ) (items new mid held : List ℕ) (before after : SourceView) → items ≡ new → from ≤ upto → upto2 ≡ upto + n
    → take upto new ≡ take upto mid → between from upto mid ≡ held → before.left ≡ take n (drop upto new) ++ after.left
    → after.read ≡ before.read ++ take n (drop upto new) → Comes held (between from upto2 items) before after
comes_behind from upto n upto2 items new mid held before after e h u k b l r = record {
  fresh = take n (drop upto new);
  read = r;
  left = l;
  held = behind_held from upto n upto2 items new mid held e h u k b;
}
