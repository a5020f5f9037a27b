use Rattle.std.proofs.Common.{◌≡◌, ℕ, suc, ◌<◌, ◌≤◌, ◌+◌, ◌^◌, Bool, List, [], ◌∷◌, map, take, length, get_or, refl, sym, ◌∙◌, ap, subst, arith}
use Rattle.std.specs.Prelude.{flat_map, All}
use Rattle.std.specs.List.{zip}
use Rattle.std.specs.Option.{option_to_list}
use Rattle.std.proofs.lemmas.List.{length-map, take_more}
use Rattle.std.proofs.lemmas.List.Concat.{flat_map_single}
use Rattle.std.proofs.lemmas.List.Sums.{fold-append}
use Rattle.std.proofs.lemmas.List.Elements.{All-map}
use Rattle.std.proofs.lemmas.Option.{slice_get-get_or}
use Rattle.cf_model.specs.Renumbering.{IsCanon}
use Rattle.cf_model.specs.Assignments.{row_of as row_index, column_of as column_index, all_bits}
use Rattle.cf_model.specs.PairSums.{PairTerm, PairSum, IsPairSum, total, added, scaled}
use Rattle.cf_model.specs.Diagrams.{Levels, count, pattern, IsGood}
use Rattle.cf_model.proofs.Growth.{Under, Under-width}
use Rattle.cf_model.proofs.PairSumLaws.{total-added, pair_sum-scaled, pair_sum-relabelled, pair_sum-nil, pair_sum-added}
use Rattle.cf_model.proofs.RenumberingLaws.{map_each, map_map}
use Rattle.cf_model.proofs.Canonicity.{level_holds}
use Rattle.cf_table.specs.declared.Gid.{Gid}
use Rattle.cf_build.specs.Assembling.{IsRow, label_at, HasCanon}
use Rattle.cf_build.proofs.Joins.{flat_map_under}
use Rattle.cf_pair.proofs.Zips.{Both, all_zip, all_labels_of, zip_map}
use Rattle.cf_pair.proofs.Rows.{row_listed}
use Rattle.cf_comb.specs.ExitSums.{exit_sum, composed, inner_sum}
use Rattle.cf_comb.specs.declared.CombId.{CombId}
use Rattle.cf_comb.specs.CombBooks.{OwnsSum, sum_of}
use Rattle.cf_comb.proofs.TallyLaws.{tally-added}
use Rattle.cf_comb.proofs.ExitSumLaws.{exit_sum-sum, tallies_tell}
use Rattle.cf_matmul.specs.Symbolic.{sums_of, added_at, sum2, HasSumRow, JoinsRows, half_sums, term_sums}

-- labels that are all there, read off exits
row_reads : (sums : List PairSum) (p : List ℕ) → Under (length sums) p → flat_map (label_at sums) p ≡ map (λ i. get_or sums i []) p
row_reads sums p u =
    flat_map_under (label_at sums) (λ i. get_or sums i [] ∷ []) (length sums) p u (λ i li. ap option_to_list (slice_get-get_or sums i [] li))
    ∙ flat_map_single (λ i. get_or sums i []) p

row_under : (t : Levels) → IsGood t → (book : List PairSum) (l : ℕ) (r : Gid × List CombId) → IsRow t l r → Under (length (sums_of book r.1)) (pattern t l r.0.at)
row_under t g book l r h =
    Under-width 0 (length (sums_of book r.1)) (pattern t l r.0.at)
    (omega (arith, (level_holds t g l).reaches r.0.at h.owned, h.labelled, length-map r.1 (sum_of book)))

-- TWO ROWS ADDED, by the product of their groupings
pub join_rows : (t u : Levels) → IsGood t → IsGood u → (book now : List PairSum) (l : ℕ) (x : Gid × List CombId) (y : Gid × List CombId) («to» : Gid) (pairs : List (ℕ × ℕ)) (labels : List CombId)
    → x.0.level ≡ l → y.0.level ≡ l → HasCanon u «to» l (zip (pattern t l x.0.at) (pattern t l y.0.at)) pairs → All (OwnsSum now) labels → sums_of now labels ≡ map (added_at (sums_of book x.1) (sums_of book y.1)) pairs
    → JoinsRows t book u now x y («to», labels)
join_rows t u gt gu book now l x y e pairs labels lx ly h own is k each more all other hx hy =
    let same : l ≡ k = sym lx ∙ hx.is_row.level in
    subst (λ (k : ℕ). HasSumRow t book k all each x → HasSumRow t book k other more y → HasSumRow u now k (map sum2 (zip all other)) (each + more) (e, labels)) same made hx hy
  where
    made : HasSumRow t book l all each x → HasSumRow t book l other more y → HasSumRow u now l (map sum2 (zip all other)) (each + more) (e, labels)
    made hx hy =
        let px = pattern t l x.0.at in
        let py = pattern t l y.0.at in
        let sx = sums_of book x.1 in
        let sy = sums_of book y.1 in
        let ux = row_under t gt book l x hx.is_row in
        let uy = row_under t gt book l y hy.is_row in
        let there : e.at < count u l = subst (λ (k : ℕ). e.at < count u k) h.level h.there in
        let canon : IsCanon (zip px py) (pattern u l e.at) pairs = subst (λ (k : ℕ). IsCanon (zip px py) (pattern u k e.at) pairs) h.level h.canon in
        let range : All (Both (length sx) (length sy)) pairs = all_labels_of (Both (length sx) (length sy)) (zip px py) (pattern u l e.at) pairs (0, 0) canon (all_zip (length sx) (length sy) px py ux uy) in
        record {
          is_row = record {
            level = h.level;
            owned = there;
            labelled = sym (length-map labels (sum_of now)) ∙ ap length is ∙ length-map pairs (added_at sx sy) ∙ sym canon.reached ∙ (level_holds u gu l).reaches e.at there;
          };
          owned = own;
          spells = row_listed (added_at sx sy) (zip px py) (pattern u l e.at) pairs (sums_of now labels) (0, 0) canon is
              ∙ sym (map_map sum2 (λ (r : ℕ × ℕ). (get_or sx r.0 [], get_or sy r.1 [])) (zip px py))
              ∙ ap (map sum2) (sym (zip_map (λ i. get_or sx i []) (λ i. get_or sy i []) px py) ∙ ap (λ (v : List PairSum). zip v (map (λ i. get_or sy i []) py)) (sym (row_reads sx px ux) ∙ hx.spells) ∙ ap (λ (v : List PairSum). zip all v) (sym (row_reads sy py uy) ∙ hy.spells));
          totals = subst (λ (v : List PairSum). All (λ s. total s ≡ each + more) v) (sym is)
              (All-map (λ (s : PairSum). total s ≡ each + more) (added_at sx sy) pairs
              (λ k d lk. (let r = range k d lk in
              let p : ℕ × ℕ = get_or pairs k d in
              total-added (get_or sx p.0 []) (get_or sy p.1 []) ∙ omega (arith, hx.totals p.0 [] r.0, hy.totals p.1 [] r.1))));
        }

-- sums over one list, added
pub zip_same : {X : Type 0} (f g : X → PairSum) (xs : List X) → map sum2 (zip (map f xs) (map g xs)) ≡ map (λ x. added (f x) (g x)) xs
zip_same f g [] = refl
zip_same f g (x ∷ xs) = ap (λ (v : List PairSum). added (f x) (g x) ∷ v) (zip_same f g xs)

pub added-nothing : (s : PairSum) → IsPairSum s → added [] s ≡ s
added-nothing s h = tallies_tell (added [] s) s (pair_sum-added [] s pair_sum-nil h.positive) h (λ w. tally-added w [] s ∙ omega arith)

-- the sums of one more pair of middle vertices
pub half_more : (m : ℕ) (gb hb : ℕ → List Bool → ℕ) (gr hr : ℕ → List ℕ) (terms : PairSum) (i : ℕ) (d : PairTerm) → i < length terms
    → half_sums m gb hb gr hr (take (i + 1) terms) ≡ map sum2 (zip (half_sums m gb hb gr hr (take i terms)) (term_sums m gb hb gr hr (get_or terms i d)))
half_more m gb hb gr hr terms i d h =
    let inner : List Bool → ℕ × ℕ → PairSum = λ y. inner_sum (2 ^ m) gb hb gr hr (row_index y) (column_index y) in
    let t = get_or terms i d in
    map_each (λ y. composed (inner y) (take (i + 1) terms)) (λ y. added (composed (inner y) (take i terms)) (scaled t.1 (inner y t.0)))
    (λ y. ap (composed (inner y)) (take_more terms i d h) ∙ fold-append (λ so_far u. added so_far (scaled u.1 (inner y u.0))) [] (take i terms) (t ∷ [])) (all_bits (2 ^ suc m))
    ∙ sym (zip_same (λ y. composed (inner y) (take i terms)) (λ y. scaled t.1 (inner y t.0)) (all_bits (2 ^ suc m)))

-- and of the first one
pub half_first : (m : ℕ) (gb hb : ℕ → List Bool → ℕ) (gr hr : ℕ → List ℕ) (t : PairTerm) → 1 ≤ t.1 → half_sums m gb hb gr hr (t ∷ []) ≡ term_sums m gb hb gr hr t
half_first m gb hb gr hr t h =
    let inner : List Bool → ℕ × ℕ → PairSum = λ y. inner_sum (2 ^ m) gb hb gr hr (row_index y) (column_index y) in
    map_each (λ y. composed (inner y) (t ∷ [])) (λ y. scaled t.1 (inner y t.0))
    (λ y. added-nothing (scaled t.1 (inner y t.0)) (pair_sum-scaled t.1 (inner y t.0) h
    (pair_sum-relabelled (gr t.0.0) (hr t.0.1) (exit_sum (2 ^ m) (gb t.0.0) (hb t.0.1) (row_index y) (column_index y)) (exit_sum-sum (2 ^ m) (gb t.0.0) (hb t.0.1) (row_index y) (column_index y)))))
    (all_bits (2 ^ suc m))

-- the pairs of two rows' exits are in range
pub pairs_range : (t : Levels) → IsGood t → (book : List PairSum) (l : ℕ) (x : Gid × List CombId) (y : Gid × List CombId) (ranks : List ℕ) (pairs : List (ℕ × ℕ)) → IsRow t l x → IsRow t l y → IsCanon (zip (pattern t l x.0.at) (pattern t l y.0.at)) ranks pairs
    → All (Both (length (sums_of book x.1)) (length (sums_of book y.1))) pairs
pairs_range t gt book l x y ranks pairs hx hy c =
    all_labels_of (Both (length (sums_of book x.1)) (length (sums_of book y.1))) (zip (pattern t l x.0.at) (pattern t l y.0.at)) ranks pairs (0, 0) c
    (all_zip (length (sums_of book x.1)) (length (sums_of book y.1)) (pattern t l x.0.at) (pattern t l y.0.at) (row_under t gt book l x hx) (row_under t gt book l y hy))
