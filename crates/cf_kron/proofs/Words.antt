use Rattle.std.proofs.Common.{◌≡◌, ℕ, suc, zero, ◌<◌, ◌+◌, ◌*◌, ◌-◌, List, [], ◌∷◌, ◌++◌, map, length, get_or, refl, ◌∙◌, ap, arith}
use Rattle.std.specs.Prelude.{flat_map}
use Rattle.std.specs.Option.{option_to_list}
use Rattle.std.proofs.lemmas.List.{get_or_append_left, get_or-append_right}
use Rattle.std.proofs.lemmas.List.Concat.{flat_map_single}
use Rattle.std.proofs.lemmas.Option.{slice_get-get_or}
use Rattle.cf_model.specs.Diagrams.{Levels, pattern}
use Rattle.cf_model.proofs.Growth.{Under}
use Rattle.cf_table.specs.declared.Gid.{Gid}
use Rattle.cf_build.specs.Assembling.{Rowed, ended, label_at, labels_over}
use Rattle.cf_build.proofs.Joins.{flat_map_under}

-- an entry of words of one length
pub entry_of_words : {A : Type 0} (f : ℕ → List A) (d : A) (n k : ℕ) (p : List ℕ) (u v : ℕ) → ((i : ℕ) → i < k → length (f i) ≡ n) → Under k p → u < length p → v < n → get_or (flat_map f p) (u * n + v) d ≡ get_or (f (get_or p u 0)) v d
entry_of_words f d n k [] u v lf up hu hv = absurd (omega (arith, hu))
entry_of_words f d n k (x ∷ p) zero v lf up hu hv =
    let e : 0 * n + v ≡ v = omega arith in
    ap (λ (i : ℕ). get_or (flat_map f (x ∷ p)) i d) e ∙ get_or_append_left (f x) (flat_map f p) d v (omega (arith, lf x up.0, hv))
entry_of_words f d n k (x ∷ p) (suc u) v lf up hu hv =
    let e : suc u * n + v - n ≡ u * n + v = omega arith in
    get_or-append_right (f x) (flat_map f p) n (suc u * n + v) d (lf x up.0) (omega arith)
    ∙ ap (λ (i : ℕ). get_or (flat_map f p) i d) e ∙ entry_of_words f d n k p u v lf up.1 (omega (arith, hu)) hv

-- labels over a pattern
pub labels_read : {A : Type 0} (labels : List A) (d : A) (p : List ℕ) → Under (length labels) p → flat_map (label_at labels) p ≡ map (λ e. get_or labels e d) p
labels_read labels d p u =
    flat_map_under (label_at labels) (λ e. get_or labels e d ∷ []) (length labels) p u (λ i li. ap option_to_list (slice_get-get_or labels i d li))
    ∙ flat_map_single (λ e. get_or labels e d) p

-- the labels of two rows of forks
pub fork_labels : {A : Type 0} (t : Levels) (a b c d : A) → labels_over (pattern t 0) 1 ((1, a ∷ b ∷ []) ∷ (1, c ∷ d ∷ []) ∷ []) ≡ a ∷ b ∷ c ∷ d ∷ []
unfolding pattern
fork_labels t a b c d = refl

-- two rows that came after none
pub two_rows : {A : Type 0} (none one two : Rowed A) (r s : Gid × List A) → none ≡ ended [] → one ≡ ended (none.rows ++ r ∷ []) → two ≡ ended (one.rows ++ s ∷ []) → two.rows ≡ r ∷ s ∷ []
two_rows {A} none one two r s e f g =
    let rows : Rowed A → List (Gid × List A) = λ x. x.rows in
    ap rows g ∙ ap (λ (v : List (Gid × List A)). v ++ s ∷ []) (ap rows f ∙ ap (λ (v : List (Gid × List A)). v ++ r ∷ []) (ap rows e))
