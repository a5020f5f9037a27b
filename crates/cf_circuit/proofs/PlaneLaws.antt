-- Planes by what they ask of one input after the other.
use Rattle.std.proofs.Common.{ℕ, suc, ◌≡◌, ◌+◌, ◌<◌, ◌≤◌, Bool, true, false, not, ◌&&◌, ◌||◌, List, [], ◌∷◌, ◌++◌, length, get_or, drop, refl, sym, ap, ◌∙◌, arith}
use Rattle.std.specs.Prelude.{if◌then◌else◌}
use Rattle.std.specs.List.{All}
use Rattle.std.proofs.Math.Seq.{drop-cons}
use Rattle.std.proofs.Math.ListN.{drop_of_length-le}
use Rattle.std.proofs.lemmas.List.{drop_more}
use Rattle.std.proofs.lemmas.List.Elements.{All-push, All-head}
use Rattle.cf_circuits.specs.declared.gates.Cell.{Cell}
use Rattle.cf_circuits.specs.declared.gates.Cell.TheVariants.{Zero, One, Any}
use Rattle.cf_circuits.specs.Covers.{allows, matches}
use Rattle.cf_circuit.specs.Planes.{some_matches, plane_at, cell_at, IsWide, matches_from, AreAllPlaces, AreParted}

or_assoc : (a b c : Bool) → (a || (b || c)) ≡ ((a || b) || c)
or_assoc true b c = refl
or_assoc false b c = refl

or_false : (a : Bool) → (a || false) ≡ a
or_false true = refl
or_false false = refl

-- one more place
matches_push : (planes : List (List Cell)) (input : ℕ) (places : List ℕ) (place : ℕ) (vs : List Bool)
    → matches_from planes input (places ++ place ∷ []) vs ≡ (matches_from planes input places vs || matches (drop input (plane_at planes place)) vs)
matches_push planes input [] place vs = or_false (matches (drop input (plane_at planes place)) vs)
matches_push planes input (p ∷ places) place vs =
    let m = matches (drop input (plane_at planes p)) vs in
    ap (λ b. m || b) (matches_push planes input places place vs)
    ∙ or_assoc m (matches_from planes input places vs) (matches (drop input (plane_at planes place)) vs)

-- all planes, as their places are put together
pub record Placing (planes : List (List Cell)) (places : List ℕ) (k : ℕ) : Type 0 where
  pub there : All (λ place. place < length planes) places
  pub match : (vs : List Bool) → (matches_from planes 0 places vs || some_matches (drop k planes) vs) ≡ some_matches planes vs

pub placing_more : (planes : List (List Cell)) (places : List ℕ) (k : ℕ) → k < length planes → Placing planes places k → Placing planes (places ++ k ∷ []) (k + 1)
placing_more planes places k low h = record {
  there = All-push (λ place. place < length planes) places k h.there low;
  match = λ vs.
      (let plane = plane_at planes k in
      let before = matches_from planes 0 places vs in
      ap (λ b. b || some_matches (drop (k + 1) planes) vs) (matches_push planes 0 places k vs)
      ∙ sym (or_assoc before (matches plane vs) (some_matches (drop (k + 1) planes) vs))
      ∙ ap (λ ps. before || some_matches ps vs) (sym (drop_more planes k [] low))
      ∙ h.match vs);
}

pub all_placed : (planes : List (List Cell)) (places : List ℕ) (k : ℕ) → length planes ≤ k → Placing planes places k → AreAllPlaces planes places
all_placed planes places k end h = record {
  there = h.there;
  match = λ vs.
      sym (or_false (matches_from planes 0 places vs))
      ∙ ap (λ ps. matches_from planes 0 places vs || some_matches ps vs) (sym (drop_of_length-le planes end))
      ∙ h.match vs;
}

-- parting planes at an input
pub record Parting (planes : List (List Cell)) (width input : ℕ) (places zeros ones others left : List ℕ) : Type 0 where
  pub wide_zeros : All (IsWide planes width) zeros
  pub wide_ones : All (IsWide planes width) ones
  pub wide_others : All (IsWide planes width) others
  pub match : (v : Bool) (vs : List Bool) → matches_from planes input places (v ∷ vs)
      ≡ ((matches_from planes (suc input) others vs
      || (if v then matches_from planes (suc input) ones vs else matches_from planes (suc input) zeros vs))
      || matches_from planes input left (v ∷ vs))

pub parting_none : (planes : List (List Cell)) (width input : ℕ) (places : List ℕ) → Parting planes width input places [] [] [] places
parting_none planes width input places = record {
  wide_zeros = λ k d l. absurd (omega (arith, l));
  wide_ones = λ k d l. absurd (omega (arith, l));
  wide_others = λ k d l. absurd (omega (arith, l));
  match = λ v vs. by v vs;
}
  where
    by : (v : Bool) (vs : List Bool) → matches_from planes input places (v ∷ vs) ≡ ((false || (if v then false else false)) || matches_from planes input places (v ∷ vs))
    by true vs = refl
    by false vs = refl

pub parting_done : (planes : List (List Cell)) (width input : ℕ) (places zeros ones others : List ℕ) → Parting planes width input places zeros ones others []
    → AreParted planes width input places zeros ones others
parting_done planes width input places zeros ones others h = record {
  wide_zeros = h.wide_zeros;
  wide_ones = h.wide_ones;
  wide_others = h.wide_others;
  match = λ v vs. h.match v vs ∙ or_false _;
}

read_plane : (planes : List (List Cell)) (width input place : ℕ) → input < width → IsWide planes width place → (c : Cell) → c ≡ cell_at planes place input → (v : Bool) (vs : List Bool)
    → matches (drop input (plane_at planes place)) (v ∷ vs) ≡ (allows c v && matches (drop (suc input) (plane_at planes place)) vs)
read_plane planes width input place low wide c e v vs =
    let plane = plane_at planes place in
    ap (λ cs. matches cs (v ∷ vs)) (drop-cons plane input Any (omega (arith, low, wide.1)))
    ∙ ap (λ (x : Cell). allows x v && matches (drop (suc input) plane) vs) (sym e)

zero_in : (n v o z m r : Bool) → ((n || (if v then o else z)) || ((not v && m) || r)) ≡ ((n || (if v then o else (z || m))) || r)
zero_in true v o z m r = refl
zero_in false true o z m r = refl
zero_in false false o true m r = refl
zero_in false false o false m r = refl

one_in : (n v o z m r : Bool) → ((n || (if v then o else z)) || ((v && m) || r)) ≡ ((n || (if v then (o || m) else z)) || r)
one_in true v o z m r = refl
one_in false true true z m r = refl
one_in false true false z m r = refl
one_in false false o z m r = refl

other_in : (n m c r : Bool) → ((n || c) || (m || r)) ≡ (((n || m) || c) || r)
other_in true m c r = refl
other_in false m true true = by m
  where
    by : (m : Bool) → true ≡ ((m || true) || true)
    by true = refl
    by false = refl
other_in false true true false = refl
other_in false false true false = refl
other_in false m false r = by m r
  where
    by : (m r : Bool) → (m || r) ≡ ((m || false) || r)
    by true r = refl
    by false r = refl

module _ (planes : List (List Cell)) (width input : ℕ) (low : input < width) (places zeros ones others left : List ℕ) (place : ℕ) (wide : IsWide planes width place)
    (h : Parting planes width input places zeros ones others (place ∷ left)) where
  abbrev after : List ℕ → List Bool → Bool
  after ps vs = matches_from planes (suc input) ps vs

  abbrev here : List Bool → Bool
  here vs = matches (drop (suc input) (plane_at planes place)) vs

  pub turn_zero : Zero ≡ cell_at planes place input → Parting planes width input places (zeros ++ place ∷ []) ones others left
  turn_zero e = record {
    wide_zeros = All-push (IsWide planes width) zeros place h.wide_zeros wide;
    wide_ones = h.wide_ones;
    wide_others = h.wide_others;
    match = λ v vs.
        h.match v vs
        ∙ ap (λ m. (after others vs || (if v then after ones vs else after zeros vs)) || (m || matches_from planes input left (v ∷ vs))) (read_plane planes width input place low wide Zero e v vs)
        ∙ zero_in (after others vs) v (after ones vs) (after zeros vs) (here vs) (matches_from planes input left (v ∷ vs))
        ∙ ap (λ z. (after others vs || (if v then after ones vs else z)) || matches_from planes input left (v ∷ vs)) (sym (matches_push planes (suc input) zeros place vs));
  }

  pub turn_one : One ≡ cell_at planes place input → Parting planes width input places zeros (ones ++ place ∷ []) others left
  turn_one e = record {
    wide_zeros = h.wide_zeros;
    wide_ones = All-push (IsWide planes width) ones place h.wide_ones wide;
    wide_others = h.wide_others;
    match = λ v vs.
        h.match v vs
        ∙ ap (λ m. (after others vs || (if v then after ones vs else after zeros vs)) || (m || matches_from planes input left (v ∷ vs))) (read_plane planes width input place low wide One e v vs)
        ∙ one_in (after others vs) v (after ones vs) (after zeros vs) (here vs) (matches_from planes input left (v ∷ vs))
        ∙ ap (λ o. (after others vs || (if v then o else after zeros vs)) || matches_from planes input left (v ∷ vs)) (sym (matches_push planes (suc input) ones place vs));
  }

  pub turn_other : Any ≡ cell_at planes place input → Parting planes width input places zeros ones (others ++ place ∷ []) left
  turn_other e = record {
    wide_zeros = h.wide_zeros;
    wide_ones = h.wide_ones;
    wide_others = All-push (IsWide planes width) others place h.wide_others wide;
    match = λ v vs.
        h.match v vs
        ∙ ap (λ m. (after others vs || (if v then after ones vs else after zeros vs)) || (m || matches_from planes input left (v ∷ vs))) (read_plane planes width input place low wide Any e v vs)
        ∙ other_in (after others vs) (here vs) (if v then after ones vs else after zeros vs) (matches_from planes input left (v ∷ vs))
        ∙ ap (λ n. (n || (if v then after ones vs else after zeros vs)) || matches_from planes input left (v ∷ vs)) (sym (matches_push planes (suc input) others place vs));
  }

-- planes whose cells are all read match
pub end_matches : (planes : List (List Cell)) (width : ℕ) (places : List ℕ) → All (IsWide planes width) places → 0 < length places → (input : ℕ) → width ≤ input → matches_from planes input places [] ≡ true
end_matches planes width [] wide some input past = absurd (omega (arith, some))
end_matches planes width (place ∷ places) wide some input past =
    let is = All-head (IsWide planes width) place places wide in
    ap (λ cs. matches cs [] || matches_from planes input places []) (drop_of_length-le (plane_at planes place) (omega (arith, is.1, past)))

-- all planes are wide
pub all_wide : (planes : List (List Cell)) (width : ℕ) (places : List ℕ) → AreAllPlaces planes places → All (λ plane. length plane ≡ width) planes → All (IsWide planes width) places
all_wide planes width places all cells i d low =
    let there = all.there i d low in (there, cells (get_or places i d) [] there)
