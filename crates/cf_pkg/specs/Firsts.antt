use Rattle.std.specs.Prelude.{◌≡◌, ℕ, ◌<◌, List, length, slice_index_or as get_or}

-- The entry stands at place n of the list, and at no place before.
pub record IsFirstAt (list : List ℕ) (entry n : ℕ) : Type 0 where
  pub within : n < length list
  pub there : get_or list n 0 ≡ entry
  pub none_before : (m : ℕ) → m < n → get_or list m 0 ≡ entry → ⊥
