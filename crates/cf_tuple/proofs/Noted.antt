use Rattle.std.proofs.Common.{◌≡◌, ℕ, zero, suc, List, [], ◌∷◌, ◌++◌, Bool, true, false, cond, ◌||◌, Option, None, Some, IfSome, position, get_or, option_map, nat_eq, refl, sym, ◌∙◌, ap, subst, inl, inr}
use Rattle.std.specs.List.{slice_get, list_any}
use Rattle.std.specs.Cmp.Lexicographic.{pointwise}
use Rattle.std.proofs.lemmas.Bool.{false≢true}
use Rattle.std.proofs.lemmas.Option.{slice_get-map, slice_get-get_or, same_Some}
use Rattle.std.proofs.lemmas.List.{map_push}
use Rattle.std.proofs.lemmas.List.Quantifiers.{position-Some}
use Rattle.std.proofs.lemmas.Slice.Eq.{bytes_eq-Decides}
use Rattle.smallvec.specs.SmallVec.{SmallVec}
use Rattle.cf_model.specs.Renumbering.{AllDiffer, IsNew}
use Rattle.cf_model.proofs.CanonLaws.{AllDiffer-push}
use Rattle.cf_tuple.specs.Books.{lists_of, IsInterned, Lengthens}
use Rattle.cf_tuple.proofs.BookLaws.{Lengthens-same, Lengthens-push}

abbrev same : SmallVec ℕ → SmallVec ℕ → Bool
same v w = pointwise nat_eq v.items w.items

neither : (a b : Bool) → (a || b) ≡ false → (a ≡ false) × (b ≡ false)
neither true b h = cc
neither false b h = (refl, h)

-- no key is the list
unknown : (k : SmallVec ℕ) (ks : List (SmallVec ℕ)) → list_any (same k) ks ≡ false → IsNew (lists_of ks) k.items
unknown k [] h i e = cc
unknown k (x ∷ xs) h zero e = false≢true (sym (neither (same k x) (list_any (same k) xs) h).0 ∙ (bytes_eq-Decides k.items x.items).1 (sym (same_Some _ _ e)))
unknown k (x ∷ xs) h (suc i) e = unknown k xs (neither (same k x) (list_any (same k) xs) h).1 i e

-- a key that is equal by the test has the list
pub read_at : (ks : List (SmallVec ℕ)) (k : SmallVec ℕ) (list : List ℕ) (at : ℕ) → k.items ≡ list → (x : SmallVec ℕ) × (slice_get ks at ≡ Some x) × (same k x ≡ true) → slice_get (lists_of ks) at ≡ Some list
read_at ks k list at i s =
    let is : k.items ≡ s.0.items = (bytes_eq-Decides k.items s.0.items).0 s.2 in
    slice_get-map (λ v. v.items) ks at ∙ ap (λ r. option_map (λ (v : SmallVec ℕ). v.items) r) s.1 ∙ ap Some (sym is ∙ i)

-- what noting a list leaves
pub record IsNoted (ks now : List (SmallVec ℕ)) (list : List ℕ) (at : ℕ) : Type 0 where
  pub interned : IsInterned (lists_of ks) (lists_of now) list at
  pub kept : Lengthens (lists_of ks) (lists_of now)
  pub differ : AllDiffer (lists_of ks) → AllDiffer (lists_of now)

by_test : (ks now : List (SmallVec ℕ)) (k : SmallVec ℕ) (list : List ℕ) (at : ℕ) (b : Bool) → b ≡ list_any (same k) ks → k.items ≡ list → now ≡ cond b ks (ks ++ k ∷ []) → slice_get (lists_of now) at ≡ Some list → IsNoted ks now list at
by_test ks now k list at true e i q s = record {
  interned = record { is_there = s; grown = inl (ap lists_of q) };
  kept = Lengthens-same (lists_of ks) (lists_of now) (ap lists_of q);
  differ = λ d. subst (λ (xs : List (List ℕ)). AllDiffer xs) (sym (ap lists_of q)) d;
}
by_test ks now k list at false e i q s =
    let grown : lists_of now ≡ lists_of ks ++ list ∷ [] = ap lists_of q ∙ map_push (λ v. v.items) ks k ∙ ap (λ (x : List ℕ). lists_of ks ++ x ∷ []) i in
    record {
      interned = record { is_there = s; grown = inr grown };
      kept = Lengthens-push (lists_of ks) list (lists_of now) grown;
      differ = λ d. subst (λ (xs : List (List ℕ)). AllDiffer xs) (sym grown) (AllDiffer-push (lists_of ks) list d (subst (λ (x : List ℕ). IsNew (lists_of ks) x) i (unknown k ks (sym e))));
    }

pub noted : (ks now : List (SmallVec ℕ)) (k : SmallVec ℕ) (list : List ℕ) (at : ℕ) → k.items ≡ list → now ≡ cond (list_any (same k) ks) ks (ks ++ k ∷ [])
    → (x : SmallVec ℕ) × (slice_get now at ≡ Some x) × (same k x ≡ true) → IsNoted ks now list at
noted ks now k list at i q s = by_test ks now k list at (list_any (same k) ks) refl i q (read_at now k list at i s)

-- the place that a look-up answers
pub placed : (ks : List (SmallVec ℕ)) (k : SmallVec ℕ) (list : List ℕ) (o : Option ℕ) → o ≡ position (same k) ks → k.items ≡ list → IfSome o (λ i. slice_get (lists_of ks) i ≡ Some list)
placed ks k list None e i = tt
placed ks k list (Some at) e i =
    let p = position-Some (same k) ks at k (sym e) in
    read_at ks k list at i (get_or ks at k, slice_get-get_or ks at k p.0, p.1)
