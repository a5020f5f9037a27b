use Rattle.std.proofs.Common.{◌≡◌, ℕ, ◌<◌, ◌≤◌, ◌+◌, ◌-◌, List, [], ◌∷◌, ◌++◌, map, refl, sym, ◌∙◌, ap, subst, length, take, drop, get_or, arith, length-drop}
use Rattle.std.proofs.lemmas.List.{drop-append-le, take_rest, map_push, take_more, length_push}
use Rattle.std.specs.List.{flat_map}
use Rattle.std.specs.declared.vec.Vec.{Vec}
use Rattle.cf_table.specs.declared.Gid.{Gid}
use Rattle.cf_build.specs.declared.rows.Row.{Row}
use Rattle.cf_build.specs.Assembling.{Rowed, ended, listed}
use Rattle.cf_build.specs.Joining.{labels_in, labelled, rowed, frame, row_frame, AreInTurn, ArePlaces, ArePlaced}
use Rattle.cf_build.proofs.Joins.{words_map}
use Rattle.cf_build.proofs.Placing.{in_turn_le, in_turn_push, labels_kept, parts_flat, labels_long}

-- the rows that are ended stay as more labels come
rows_stay : {A : Type 0} (labels more : List A) (start end : ℕ) (rows : List Row) → AreInTurn start rows end → end ≤ length labels → map (labelled (labels ++ more)) rows ≡ map (labelled labels) rows
rows_stay labels more start end [] turn within = refl
rows_stay labels more start end (r ∷ rows) turn within =
    let here : labels_in (labels ++ more) r ≡ labels_in labels r = labels_kept labels more r turn.1 (let le = in_turn_le r.end end rows turn.2 in omega (arith, within, le)) in
    let top : labelled (labels ++ more) r ≡ labelled labels r = ap (λ (v : List _). (r.callee, v)) here in
    let rest : map (labelled (labels ++ more)) rows ≡ map (labelled labels) rows = rows_stay labels more r.end end rows turn.2 within in
    cc

abbrev of_parts : {A : Type 0} → List (Gid × List A) → List A → Rowed A
of_parts rows begun = record { rows = rows; begun = begun }

-- one more label
pub label_more : {A : Type 0} (rows : List Row) (labels after : List A) (start : ℕ) (label : A) (shown : Rowed A) → ArePlaces rows start (length labels) → rowed rows labels start ≡ shown → after ≡ labels ++ label ∷ []
    → rowed rows after start ≡ of_parts shown.rows (shown.begun ++ label ∷ [])
label_more rows labels after start label shown places view is =
    let rs : map (labelled after) rows ≡ shown.rows = ap (λ (v : List _). map (labelled v) rows) is ∙ rows_stay labels (label ∷ []) 0 start rows places.in_turn places.within ∙ ap (λ (s : Rowed _). s.rows) view in
    let bs : drop start after ≡ shown.begun ++ label ∷ [] = ap (drop start) is ∙ drop-append-le start labels (label ∷ []) places.within ∙ ap (λ (s : Rowed _). s.begun ++ label ∷ []) view in
    ap (λ (v : List _). of_parts v (drop start after)) rs ∙ ap (λ (v : List _). of_parts shown.rows v) bs

pub places_more : {A : Type 0} (rows : List Row) (labels after : List A) (start : ℕ) (label : A) → ArePlaces rows start (length labels) → after ≡ labels ++ label ∷ [] → ArePlaces rows start (length after)
places_more rows labels after start label places is = record { in_turn = places.in_turn; within = omega (arith, places.within, ap length is, length_push labels label) }

-- one more row
pub row_more : {A : Type 0} (rows after : List Row) (labels : List A) (start end : ℕ) (r : Row) (shown : Rowed A) → ArePlaces rows start (length labels) → rowed rows labels start ≡ shown → after ≡ rows ++ r ∷ []
    → r.start ≡ start → r.end ≡ end → end ≡ length labels → rowed after labels end ≡ ended (shown.rows ++ (r.callee, shown.begun) ∷ [])
row_more rows after labels start end r shown places view is rs re long =
    let here : labels_in labels r ≡ shown.begun =
    ap (λ (k : ℕ). take (r.end - r.start) (drop k labels)) rs ∙ ap (λ (k : ℕ). take k (drop start labels)) (let w : r.end - r.start ≡ length labels - start = omega (arith, rs, re, long) in w)
    ∙ take_rest labels start ∙ ap (λ (s : Rowed _). s.begun) view in
    let all : map (labelled labels) after ≡ shown.rows ++ (r.callee, shown.begun) ∷ [] =
    ap (map (labelled labels)) is ∙ map_push (labelled labels) rows r ∙ ap (λ (v : List _). v ++ labelled labels r ∷ []) (ap (λ (s : Rowed _). s.rows) view) ∙ ap (λ (v : List _). shown.rows ++ (r.callee, v) ∷ []) here in
    let none : drop end labels ≡ [] = ap (λ (k : ℕ). drop k labels) long ∙ drop_whole labels in
    ap (λ (v : List _). of_parts v (drop end labels)) all ∙ ap (λ (v : List _). of_parts (shown.rows ++ (r.callee, shown.begun) ∷ []) v) none
  where
    drop_whole : {A : Type 0} (xs : List A) → drop (length xs) xs ≡ []
    drop_whole [] = refl
    drop_whole (x ∷ xs) = drop_whole xs

pub places_row : (rows after : List Row) (start end count : ℕ) (r : Row) → ArePlaces rows start count → after ≡ rows ++ r ∷ [] → r.start ≡ start → r.end ≡ end → end ≡ count → ArePlaces after end count
places_row rows after start end count r places is rs re long = record {
  in_turn = subst (λ (v : List Row). AreInTurn 0 v end) (sym is) (subst (λ (k : ℕ). AreInTurn 0 (rows ++ r ∷ []) k) re (in_turn_push 0 start rows r places.in_turn rs (omega (arith, rs, re, long, places.within))));
  within = omega (arith, long);
}

frames_of : {A : Type 0} (labels : List A) (start end : ℕ) (rows : List Row) → AreInTurn start rows end → end ≤ length labels → map row_frame rows ≡ map frame (map (labelled labels) rows)
frames_of labels start end [] turn within = refl
frames_of labels start end (r ∷ rows) turn within =
    let le : r.end ≤ end = in_turn_le r.end end rows turn.2 in
    let long : length (labels_in labels r) ≡ r.end - r.start = labels_long labels r turn.1 (omega (arith, le, within)) in
    let top : row_frame r ≡ frame (labelled labels r) = ap (λ (n : ℕ). (r.callee, n)) (sym long) in
    let rest : map row_frame rows ≡ map frame (map (labelled labels) rows) = frames_of labels r.end end rows turn.2 within in
    cc

-- rows that are all ended, by their places
pub placed : {A : Type 0} (rows : List Row) (labels : List A) (start : ℕ) (shown : Rowed A) → ArePlaces rows start (length labels) → rowed rows labels start ≡ shown → shown.begun ≡ [] → ArePlaced shown.rows rows labels
placed {A} rows labels start shown places view none =
    let rest : drop start labels ≡ [] = ap (λ (s : Rowed _). s.begun) view ∙ none in
    let whole : start ≡ length labels = omega (arith, places.within, ap length rest, length-drop start labels) in
    let turn : AreInTurn 0 rows (length labels) = subst (λ (k : ℕ). AreInTurn 0 rows k) whole places.in_turn in
    let rs : map (labelled labels) rows ≡ shown.rows = ap (λ (s : Rowed _). s.rows) view in
    record {
      all = ap (flat_map (λ (r : Gid × List A). r.1)) (sym rs) ∙ words_map (λ (r : Gid × List A). r.1) (labelled labels) rows ∙ parts_flat labels 0 rows turn;
      frames = frames_of labels 0 (length labels) rows turn (omega arith) ∙ ap (map frame) rs;
      in_turn = turn;
    }

-- a label of a row was pushed
pub pushed_more : {A : Type 0} (labels : List A) (i : ℕ) (x : A) (shown before now : Rowed A) → shown.begun ≡ [] → i < length labels → before ≡ of_parts shown.rows (take i labels) → x ≡ get_or labels i x → now ≡ of_parts before.rows (before.begun ++ x ∷ []) → now ≡ of_parts shown.rows (take (i + 1) labels)
pushed_more {A} labels i x shown before now none l b is e =
    e ∙ ap (λ (s : Rowed A). of_parts s.rows (s.begun ++ x ∷ [])) b ∙ ap (λ (v : List A). of_parts shown.rows v) (ap (λ (y : A). take i labels ++ y ∷ []) is ∙ sym (take_more labels i x l))

-- one more of the given rows
pub gathered_more : {A Z : Type 0} (given : List (Gid × Vec A Z)) (i : ℕ) (r : Gid × Vec A Z) (before now : Rowed A) → i < length given → before ≡ ended (map listed (take i given)) → r ≡ get_or given i r → now ≡ ended (before.rows ++ listed r ∷ []) → now ≡ ended (map listed (take (i + 1) given))
gathered_more {A} {Z} given i r before now l b is e =
    e ∙ ap (λ (s : Rowed A). ended (s.rows ++ listed r ∷ [])) b
    ∙ ap (λ (v : List (Gid × List A)). ended v) (sym (map_push listed (take i given) r) ∙ ap (map listed) (ap (λ (y : Gid × Vec A Z). take i given ++ y ∷ []) is ∙ sym (take_more given i r l)))
