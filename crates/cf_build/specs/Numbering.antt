use Rattle.std.specs.Prelude.{◌≡◌, ℕ, ◌<◌, ◌≤◌, List, [], ◌∷◌, ◌++◌, length, map, slice_get, Some, All, ◌⊎◌}
use Rattle.cf_model.specs.Renumbering.{AllDiffer, IsNew, IsCanon}

-- What is kept of the labels that were read: the different ones, and their keys once they are more than a few.
pub record IsReady {A : Type 0} (is_label : A → Type 0) (key : A → List ℕ) (different : List A) (keys : List (List ℕ)) : Type 0 where
  pub tested : All is_label different
  pub differ : AllDiffer different
  pub plain : length different ≤ 16 → keys ≡ []
  pub hashed : 16 < length different → keys ≡ map key different

-- The label stands at a place of the list, to which it was added if it is a new one.
abbrev pub IsEntered : {A : Type 0} → List A → List A → A → ℕ → Type 0
IsEntered before now label at = ((now ≡ before) × (slice_get before at ≡ Some label)) ⊎ ((now ≡ before ++ label ∷ []) × (at ≡ length before) × IsNew before label)

-- What was read before, and then the labels, has the ranks and the different labels that there are now.
abbrev pub Numbers : {A : Type 0} → List ℕ → List A → List A → List ℕ → List A → Type 0
Numbers {A} ranks different labels ranks_now different_now = (all : List A) → IsCanon all ranks different → IsCanon (all ++ labels) ranks_now different_now
