use Rattle.std.proofs.Common.{◌≡◌, ℕ, ℤ, zero, suc, List, [], ◌∷◌, ◌++◌, Bool, true, false, cond, ◌||◌, Option, None, Some, IfSome, position, get_or, option_map, refl, sym, ◌∙◌, ap, subst, inl, inr}
use Rattle.std.specs.List.{slice_get, list_any}
use Rattle.std.specs.Bool.{Decides}
use Rattle.std.specs.Ordering.{int_eq}
use Rattle.std.specs.Cmp.Lexicographic.{pointwise}
use Rattle.std.specs.declared.vec.Vec.{Vec}
use Rattle.std.proofs.lemmas.Bool.{false≢true}
use Rattle.std.proofs.lemmas.Bool.Decides.{Decides-int_eq}
use Rattle.std.proofs.lemmas.Option.{slice_get-map, slice_get-get_or, same_Some}
use Rattle.std.proofs.lemmas.List.{map_push}
use Rattle.std.proofs.lemmas.List.Quantifiers.{position-Some}
use Rattle.std.proofs.lemmas.Slice.Eq.{slice_eq-Decides}
use Rattle.cf_model.specs.Renumbering.{IsNew}
use Rattle.cf_values.specs.Books.{items_of, IsInterned, Lengthens, IsBook, IsValueList}
use Rattle.cf_values.proofs.BookLaws.{Lengthens-same, Lengthens-push, IsBook-push}

abbrev same : List ℤ → List ℤ → Bool
same xs ys = pointwise int_eq xs ys

lists_decide : (xs ys : List ℤ) → Decides (same xs ys) (xs ≡ ys)
lists_decide xs ys = slice_eq-Decides Decides-int_eq xs ys (same xs ys) refl

neither : (a b : Bool) → (a || b) ≡ false → (a ≡ false) × (b ≡ false)
neither true b h = cc
neither false b h = (refl, h)

module _ {Z : Type 0} where
  -- no key is the list
  unknown : (list : List ℤ) (ks : List (Vec ℤ Z)) → list_any (λ (k : Vec ℤ Z). same list k.items) ks ≡ false → IsNew (items_of ks) list
  unknown list [] h i e = cc
  unknown list (x ∷ xs) h zero e = false≢true (sym (neither (same list x.items) (list_any (λ (k : Vec ℤ Z). same list k.items) xs) h).0 ∙ (lists_decide list x.items).1 (sym (same_Some _ _ e)))
  unknown list (x ∷ xs) h (suc i) e = unknown list xs (neither (same list x.items) (list_any (λ (k : Vec ℤ Z). same list k.items) xs) h).1 i e

  -- a key that is equal by the test has the list
  read_at : (ks : List (Vec ℤ Z)) (list : List ℤ) (at : ℕ) → (x : Vec ℤ Z) × (slice_get ks at ≡ Some x) × (same list x.items ≡ true) → slice_get (items_of ks) at ≡ Some list
  read_at ks list at s =
      slice_get-map (λ v. v.items) ks at ∙ ap (λ r. option_map (λ (v : Vec ℤ Z). v.items) r) s.1 ∙ ap Some (sym ((lists_decide list s.0.items).0 s.2))

  -- the place that a look-up answers
  pub placed : (ks : List (Vec ℤ Z)) (list : List ℤ) (o : Option ℕ) → o ≡ position (λ (k : Vec ℤ Z). same list k.items) ks → IfSome o (λ i. slice_get (items_of ks) i ≡ Some list)
  placed ks list None e = tt
  placed [] list (Some at) e = cc
  placed (x ∷ ks) list (Some at) e =
      let p = position-Some (λ (k : Vec ℤ Z). same list k.items) (x ∷ ks) at x (sym e) in
      read_at (x ∷ ks) list at (get_or (x ∷ ks) at x, slice_get-get_or (x ∷ ks) at x p.0, p.1)

-- what noting a list leaves
pub record IsNoted {Z : Type 0} (ks now : List (Vec ℤ Z)) (list : List ℤ) (at : ℕ) : Type 0 where
  pub interned : IsInterned (items_of ks) (items_of now) list at
  pub kept : Lengthens (items_of ks) (items_of now)
  pub book : IsBook (items_of now)

by_test : {Z : Type 0} (ks now : List (Vec ℤ Z)) (k : Vec ℤ Z) (at : ℕ) (b : Bool) → b ≡ list_any (λ (x : Vec ℤ Z). same k.items x.items) ks → now ≡ cond b ks (ks ++ k ∷ []) → slice_get (items_of now) at ≡ Some k.items → IsBook (items_of ks) → IsValueList k.items → IsNoted ks now k.items at
by_test ks now k at true e q s book ok = record {
  interned = record { is_there = s; grown = inl (ap items_of q) };
  kept = Lengthens-same (items_of ks) (items_of now) (ap items_of q);
  book = subst IsBook (sym (ap items_of q)) book;
}
by_test ks now k at false e q s book ok =
    let grown : items_of now ≡ items_of ks ++ k.items ∷ [] = ap items_of q ∙ map_push (λ v. v.items) ks k in
    record {
      interned = record { is_there = s; grown = inr grown };
      kept = Lengthens-push (items_of ks) k.items (items_of now) grown;
      book = subst IsBook (sym grown) (IsBook-push (items_of ks) k.items book (unknown k.items ks (sym e)) ok);
    }

pub noted : {Z : Type 0} (ks now : List (Vec ℤ Z)) (k : Vec ℤ Z) (list : List ℤ) (at : ℕ) → k.items ≡ list → now ≡ cond (list_any (λ (x : Vec ℤ Z). same k.items x.items) ks) ks (ks ++ k ∷ [])
    → (x : Vec ℤ Z) × (slice_get now at ≡ Some x) × (same k.items x.items ≡ true) → IsBook (items_of ks) → IsValueList list → IsNoted ks now list at
noted ks now k list at i q s book ok =
    subst (λ (l : List ℤ). IsNoted ks now l at) i
    (by_test ks now k at (list_any (λ (x : Vec ℤ _). same k.items x.items) ks) refl q (read_at now k.items at s) book (subst IsValueList (sym i) ok))
