use Rattle.std.proofs.Common.{ℕ, List, ◌∙◌, inl, inr}
use Rattle.std.proofs.lemmas.Option.{slice_get_within}
use Rattle.cf_tuple.specs.Books.{small_list, IsNotedSmall, Lengthens}

-- ids of small lists stay right in a book that only grew
pub noted_small : (before now : List (List ℕ)) (small : List ℕ) → Lengthens before now → IsNotedSmall before small → IsNotedSmall now small
noted_small before now small w noted i h = elim (noted i h) [
  | inl none ↦ inl none
  | inr there ↦ inr (w.kept _ (slice_get_within before _ (small_list i) there) ∙ there)
]
