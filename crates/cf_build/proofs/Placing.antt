use Rattle.std.proofs.Common.{◌≡◌, ℕ, zero, suc, ◌<◌, ◌≤◌, ◌+◌, ◌-◌, List, [], ◌∷◌, ◌++◌, map, refl, sym, ◌∙◌, ap, length, take, drop, get_or, arith, length-drop}
use Rattle.std.proofs.lemmas.List.{take-append-drop, take-append-le, drop-append-le, length-take-le}
use Rattle.std.proofs.Math.Seq.{drop-append_seam}
use Rattle.std.specs.List.{flat_map}
use Rattle.cf_model.specs.Diagrams.{Connection, all_returns}
use Rattle.cf_table.specs.declared.Gid.{Gid}
use Rattle.cf_build.specs.declared.rows.Row.{Row}
use Rattle.cf_build.specs.Joining.{labels_in, AreInTurn, row_connection, row_frame}
use Rattle.cf_build.proofs.Joins.{words_map}

pub in_turn_le : (start end : ℕ) (rows : List Row) → AreInTurn start rows end → start ≤ end
in_turn_le start end [] h = omega (arith, h)
in_turn_le start end (r ∷ rows) h = omega (arith, h.0, h.1, in_turn_le r.end end rows h.2)

-- a row's labels lie in the list
pub in_turn_within : (start end : ℕ) (rows : List Row) → AreInTurn start rows end → (k : ℕ) (d : Row) → k < length rows → ((get_or rows k d).start ≤ (get_or rows k d).end) × ((get_or rows k d).end ≤ end)
in_turn_within start end [] h k d lk = absurd (omega (arith, lk))
in_turn_within start end (r ∷ rows) h zero d lk = (h.1, in_turn_le r.end end rows h.2)
in_turn_within start end (r ∷ rows) h (suc k) d lk = in_turn_within r.end end rows h.2 k d (omega (arith, lk))

-- one more row
pub in_turn_push : (start middle : ℕ) (rows : List Row) (r : Row) → AreInTurn start rows middle → r.start ≡ middle → r.start ≤ r.end → AreInTurn start (rows ++ r ∷ []) r.end
in_turn_push start middle [] r h e le = (e ∙ sym h, le, refl)
in_turn_push start middle (x ∷ rows) r h e le = (h.0, h.1, in_turn_push x.end middle rows r h.2 e le)

-- the labels of a row stay where more labels come
pub labels_kept : {A : Type 0} (xs ys : List A) (r : Row) → r.start ≤ r.end → r.end ≤ length xs → labels_in (xs ++ ys) r ≡ labels_in xs r
labels_kept xs ys r le within =
    ap (λ (v : List _). take (r.end - r.start) v) (drop-append-le r.start xs ys (omega (arith, le, within)))
    ∙ take-append-le (r.end - r.start) (drop r.start xs) ys (omega (arith, length-drop r.start xs, le, within))

pub rows_kept : (xs ys : List ℕ) (start : ℕ) (rows : List Row) → AreInTurn start rows (length xs) → map (row_connection (xs ++ ys)) rows ≡ map (row_connection xs) rows
rows_kept xs ys start [] h = refl
rows_kept xs ys start (r ∷ rows) h =
    let here : labels_in (xs ++ ys) r ≡ labels_in xs r = labels_kept xs ys r h.1 (in_turn_le r.end (length xs) rows h.2) in
    let top : row_connection (xs ++ ys) r ≡ row_connection xs r = ap (λ (v : List ℕ). record { callee = r.callee.at; returns = v }) here in
    let rest : map (row_connection (xs ++ ys)) rows ≡ map (row_connection xs) rows = rows_kept xs ys r.end rows h.2 in
    cc

-- the labels that came last
pub labels_last : {A : Type 0} (xs ys : List A) (r : Row) → r.start ≡ length xs → r.end ≡ length xs + length ys → labels_in (xs ++ ys) r ≡ ys
labels_last xs ys r e q =
    ap (λ (k : ℕ). take (r.end - r.start) (drop k (xs ++ ys))) e ∙ ap (λ (v : List _). take (r.end - r.start) v) (drop-append_seam xs ys)
    ∙ ap (λ (k : ℕ). take k ys) (let n : r.end - r.start ≡ length ys = omega (arith, e, q) in n) ∙ whole ys
  where
    whole : {A : Type 0} (ys : List A) → take (length ys) ys ≡ ys
    whole [] = refl
    whole (y ∷ ys) = ap (λ (v : List _). y ∷ v) (whole ys)

drop_none : {A : Type 0} (k : ℕ) → drop {A = A} k [] ≡ []
drop_none zero = refl
drop_none (suc k) = refl

drop_part : {A : Type 0} (xs : List A) (i k : ℕ) → take k (drop i xs) ++ drop (i + k) xs ≡ drop i xs
drop_part xs zero k = ap (λ (n : ℕ). take k xs ++ drop n xs) (let e : 0 + k ≡ k = omega arith in e) ∙ take-append-drop k xs
drop_part [] (suc i) zero = drop_none (suc i + 0)
drop_part [] (suc i) (suc k) = drop_none (suc i + suc k)
drop_part (x ∷ xs) (suc i) k = ap (λ (n : ℕ). take k (drop i xs) ++ drop n (x ∷ xs)) (let e : suc i + k ≡ suc (i + k) = omega arith in e) ∙ drop_part xs i k

drop_whole : {A : Type 0} (xs : List A) → drop (length xs) xs ≡ []
drop_whole [] = refl
drop_whole (x ∷ xs) = drop_whole xs

-- rows in turn give out all labels from their start on
pub parts_flat : {A : Type 0} (xs : List A) (start : ℕ) (rows : List Row) → AreInTurn start rows (length xs) → flat_map (labels_in xs) rows ≡ drop start xs
parts_flat xs start [] h = sym (drop_whole xs) ∙ ap (λ (k : ℕ). drop k xs) (sym h)
parts_flat xs start (r ∷ rows) h =
    ap (λ (v : List _). labels_in xs r ++ v) (parts_flat xs r.end rows h.2)
    ∙ ap (λ (k : ℕ). labels_in xs r ++ drop k xs) (let e : r.end ≡ r.start + (r.end - r.start) = omega (arith, h.1) in e)
    ∙ drop_part xs r.start (r.end - r.start) ∙ ap (λ (k : ℕ). drop k xs) h.0

pub returns_flat : (xs : List ℕ) (rows : List Row) → AreInTurn 0 rows (length xs) → all_returns (map (row_connection xs) rows) ≡ xs
returns_flat xs rows h = words_map (λ (b : Connection). b.returns) (row_connection xs) rows ∙ parts_flat xs 0 rows h

abbrev pub frame_conn : Connection → ℕ × ℕ
frame_conn c = (c.callee, length c.returns)

abbrev pub frame_places : Gid × ℕ → ℕ × ℕ
frame_places f = (f.0.at, f.1)

-- a row has as many labels as lie between its places
pub labels_long : {A : Type 0} (labels : List A) (r : Row) → r.start ≤ r.end → r.end ≤ length labels → length (labels_in labels r) ≡ r.end - r.start
labels_long labels r le within = length-take-le (r.end - r.start) (drop r.start labels) (omega (arith, length-drop r.start labels, le, within))

-- the rows as B-connections have the groupings and the lengths that their frames say
pub framed : (xs : List ℕ) (start : ℕ) (rows : List Row) → AreInTurn start rows (length xs) → map frame_conn (map (row_connection xs) rows) ≡ map frame_places (map row_frame rows)
framed xs start [] h = refl
framed xs start (r ∷ rows) h =
    let end : r.end ≤ length xs = in_turn_le r.end (length xs) rows h.2 in
    let long : length (labels_in xs r) ≡ r.end - r.start = labels_long xs r h.1 end in
    ap (λ (n : ℕ). (r.callee.at, n) ∷ map frame_conn (map (row_connection xs) rows)) long
    ∙ ap (λ (v : List (ℕ × ℕ)). (r.callee.at, r.end - r.start) ∷ v) (framed xs r.end rows h.2)
