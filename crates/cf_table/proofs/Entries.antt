use Rattle.std.proofs.Common.{◌≡◌, ℕ, zero, suc, List, [], ◌∷◌, ◌++◌, map, Bool, true, false, Option, Some, None, IfSome, cond, position, option_map, refl, sym, ◌∙◌, ap, subst, arith, inl, inr, ◌⊎◌}
use Rattle.std.specs.List.{slice_get}
use Rattle.std.specs.Map.{keys_of, lookup}
use Rattle.std.specs.Option.{is_some}
use Rattle.std.proofs.lemmas.Bool.{false≢true}
use Rattle.std.proofs.lemmas.List.{length-map}
use Rattle.std.proofs.lemmas.List.Quantifiers.{position-Some}
use Rattle.std.proofs.lemmas.Option.{same_Some, slice_get-map, get_or_from_slice_get}
use Rattle.std.proofs.lemmas.Map.Entries.{place_from_lookup, lookup_head, lookup_tail}
use Rattle.indexmap.specs.IndexMap.{insert_entry}
use Rattle.cf_model.proofs.CanonLaws.{read}
use Rattle.cf_table.specs.Kept.{Each}

-- where no entry is found, none passes
pub unseen : {K V : Type 0} (test : K → Bool) (es : List (K × V)) → lookup test es ≡ None → (i : ℕ) (e : K × V) → slice_get es i ≡ Some e → test e.0 ≡ true → ⊥
unseen test [] n i e h p = cc
unseen {K} {V} test (x ∷ es) n i e h p = by (test x.0) refl (λ k j m. unseen test es k j e m p) i h
  where
    by : (b : Bool) → test x.0 ≡ b → (lookup test es ≡ None → (j : ℕ) → slice_get es j ≡ Some e → ⊥) → (i : ℕ) → slice_get (x ∷ es) i ≡ Some e → ⊥
    by true q rest i h = absurd (let no : None ≡ Some x.1 = sym n ∙ lookup_head test x es q in cc)
    by false q rest zero h = false≢true (sym q ∙ ap (λ (w : K × V). test w.0) (same_Some x e h) ∙ p)
    by false q rest (suc i) h = rest (sym (lookup_tail test x es q) ∙ n) i h

-- what is shown at a place is shown of an entry, and an entry is shown at its place
pub shown_entry : {A B : Type 0} (f : A → B) (es : List A) (i : ℕ) (k : B) → slice_get (map f es) i ≡ Some k → (e : A) × (slice_get es i ≡ Some e) × (f e ≡ k)
shown_entry f [] i k h = cc
shown_entry f (x ∷ es) zero k h = (x, refl, same_Some (f x) k h)
shown_entry f (x ∷ es) (suc i) k h = shown_entry f es i k h

pub entry_shown : {A B : Type 0} (f : A → B) (es : List A) (i : ℕ) (e : A) → slice_get es i ≡ Some e → slice_get (map f es) i ≡ Some (f e)
entry_shown f es i e h = slice_get-map f es i ∙ ap (option_map f) h

-- the entry at the place of a key
pub found_at : {K V : Type 0} (same : K → K → Bool) (k : K) (es : List (K × V)) (i : ℕ) → position (same k) (keys_of es) ≡ Some i → (e : K × V) × (slice_get es i ≡ Some e) × (same k e.0 ≡ true)
found_at {K} {V} same k es i h =
    let p = position-Some (same k) (keys_of es) i k h in
    let x = read es i (omega (arith, p.0, length-map es (λ (e : K × V). e.0))) in
    let at : slice_get (keys_of es) i ≡ Some x.0.0 = slice_get-map (λ (e : K × V). e.0) es i ∙ ap (λ (o : Option (K × V)). option_map (λ (e : K × V). e.0) o) x.1 in
    (x.0, x.1, ap (same k) (sym (get_or_from_slice_get (keys_of es) i x.0.0 k at)) ∙ p.1)

pub none_so : {V : Type 0} (o : Option V) → is_some o ≡ false → o ≡ None
none_so None h = refl
none_so (Some v) h = cc

pub in_either : {A : Type 0} (xs : List A) (y : A) (i : ℕ) (x : A) → slice_get (xs ++ y ∷ []) i ≡ Some x → (slice_get xs i ≡ Some x) ⊎ (y ≡ x)
in_either [] y zero x h = inr (same_Some y x h)
in_either [] y (suc i) x h = cc
in_either (z ∷ xs) y zero x h = inl h
in_either (z ∷ xs) y (suc i) x h = in_either xs y i x h

-- An entry's property is told from its key as the test compares it.
abbrev pub Follows : {K V : Type 0} → (K → K → Bool) → (K × V → Type 0) → Type 0
Follows {K} {V} same P = (p q : K) (v : V) → same p q ≡ true → (P (p, v) → P (q, v)) × (P (q, v) → P (p, v))

-- what a look-up finds has the property, with the key that was looked up
pub found : {K V : Type 0} (same : K → K → Bool) (P : K × V → Type 0) → Follows same P → (es : List (K × V)) → Each P es → (k : K) (o : Option V) → o ≡ lookup (same k) es → IfSome o (λ v. P (k, v))
found same P follows es holds k None e = tt
found same P follows es holds k (Some v) e =
    let p = place_from_lookup (same k) es v (sym e) in
    (follows k p.1 v p.3).1 (holds p.0 (p.1, v) p.2)

alone : {A : Type 0} (P : A → Type 0) (x : A) → P x → Each P (x ∷ [])
alone P x r zero e q = subst P (same_Some x e q) r
alone P x r (suc i) e q = absurd (let no : slice_get {X = _} [] i ≡ Some e = q in cc)

-- one more entry, or the same key again
pub inserted : {K V : Type 0} (same : K → K → Bool) (P : K × V → Type 0) → Follows same P → (es : List (K × V)) → Each P es → (k : K) (v : V) → P (k, v) → Each P (insert_entry same es k v)
inserted same P follows [] holds k v r = alone P (k, v) r
inserted same P follows (x ∷ es) holds k v r = by (same k x.0) refl (inserted same P follows es (λ i e q. holds (suc i) e q) k v r)
  where
    by : (b : Bool) → same k x.0 ≡ b → Each P (insert_entry same es k v) → Each P (cond b ((x.0, v) ∷ es) (x ∷ insert_entry same es k v))
    by true w rest zero e q = subst P (same_Some (x.0, v) e q) ((follows k x.0 v w).0 r)
    by true w rest (suc i) e q = holds (suc i) e q
    by false w rest zero e q = holds 0 e q
    by false w rest (suc i) e q = rest i e q
