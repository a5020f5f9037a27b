use Rattle.std.proofs.Common.{◌≡◌, ℕ, zero, suc, ◌<◌, ◌+◌, List, [], ◌∷◌, ◌++◌, take, get_or, append_assoc, arith, Bool, true, false, cond, ◌||◌, not, Some, Option, option_map, length, map, refl, sym, ◌∙◌, ap, subst, inl, inr}
use Rattle.std.specs.List.{slice_get, list_any, All}
use Rattle.std.proofs.lemmas.Bool.{false≢true, cases_lt}
use Rattle.std.proofs.lemmas.List.{length-map, map_push, length_push, length-take-le, take_more}
use Rattle.std.proofs.lemmas.List.Elements.{All-push}
use Rattle.std.proofs.lemmas.Option.{same_Some, slice_get-map, slice_get_within, get_or_from_slice_get}
use Rattle.cf_model.specs.Renumbering.{IsNew, IsCanon, AllDiffer}
use Rattle.cf_model.specs.Patterns.{same_ranks}
use Rattle.cf_model.proofs.CanonLaws.{AllDiffer-push, canon_known, canon_new, get_left, at_end}
use Rattle.cf_model.proofs.PatternLaws.{ranks_decide}
use Rattle.cf_build.specs.Numbering.{IsReady, IsEntered, Numbers}

neither : (a b : Bool) → (a || b) ≡ false → (a ≡ false) × (b ≡ false)
neither true b h = cc
neither false b h = (refl, h)

-- a key that no key is equal to
unknown : (k : List ℕ) (keys : List (List ℕ)) → list_any (same_ranks k) keys ≡ false → IsNew keys k
unknown k [] h i e = cc
unknown k (key ∷ keys) h zero e = false≢true (sym (neither (same_ranks k key) (list_any (same_ranks k) keys) h).0 ∙ (ranks_decide k key).1 (sym (same_Some key k e)))
unknown k (key ∷ keys) h (suc i) e = unknown k keys (neither (same_ranks k key) (list_any (same_ranks k) keys) h).1 i e

-- a new key is the last one
last : (k : List ℕ) (keys : List (List ℕ)) (at : ℕ) → IsNew keys k → slice_get (keys ++ k ∷ []) at ≡ Some k → at ≡ length keys
last k keys at new h = elim (cases_lt at (length keys)) [
  | inl l ↦ absurd (new at (sym (get_left keys k at l) ∙ h))
  | inr g ↦ at_end keys k at k g h
]

-- the label of a key that was found
from_key : {A : Type 0} (key : A → List ℕ) (labels : List A) (i : ℕ) (k : List ℕ) → slice_get (map key labels) i ≡ Some k → (y : A) × (slice_get labels i ≡ Some y) × (key y ≡ k)
from_key key [] i k h = cc
from_key key (y ∷ labels) zero k h = (y, refl, same_Some (key y) k h)
from_key key (y ∷ labels) (suc i) k h = from_key key labels i k h

any_new : (x : List ℕ) (keys : List (List ℕ)) → IsNew keys x → list_any (same_ranks x) keys ≡ false
any_new x [] new = refl
any_new x (key ∷ keys) new = by (same_ranks x key) refl (any_new x keys (λ i h. new (suc i) h))
  where
    by : (b : Bool) → same_ranks x key ≡ b → list_any (same_ranks x) keys ≡ false → (b || list_any (same_ranks x) keys) ≡ false
    by true e rest = absurd (new 0 (ap Some (sym ((ranks_decide x key).0 e))))
    by false e rest = rest

-- the keys after one more was entered
abbrev Entered : List (List ℕ) → List (List ℕ) → List ℕ → Type 0
Entered keys now value = now ≡ cond (list_any (same_ranks value) keys) keys (keys ++ value ∷ [])

entered_known : (keys now : List (List ℕ)) (value : List ℕ) → Entered keys now value → list_any (same_ranks value) keys ≡ true → now ≡ keys
entered_known keys now value e h = e ∙ ap (λ (b : Bool). cond b keys (keys ++ value ∷ [])) h

entered_new : (keys now : List (List ℕ)) (value : List ℕ) → Entered keys now value → list_any (same_ranks value) keys ≡ false → now ≡ keys ++ value ∷ []
entered_new keys now value e h = e ∙ ap (λ (b : Bool). cond b keys (keys ++ value ∷ [])) h

not_so : (a b : Bool) → a ≡ not b → a ≡ false → b ≡ true
not_so a true e h = refl
not_so a false e h = absurd (false≢true (sym h ∙ e))

so : (a b : Bool) → a ≡ not b → a ≡ true → b ≡ false
so a true e h = absurd (false≢true (sym e ∙ h))
so a false e h = refl

-- the key that was found, as it is
found : (now : List (List ℕ)) (value : List ℕ) (at : ℕ) → (k : List ℕ) × (slice_get now at ≡ Some k) × (same_ranks value k ≡ true) → slice_get now at ≡ Some value
found now value at s = s.1 ∙ ap Some (sym ((ranks_decide value s.0).0 s.2))

-- a label whose key was known
pub hashed_known : {A : Type 0} (is_label : A → Type 0) (key : A → List ℕ) → ((x y : A) → is_label x → is_label y → key x ≡ key y → x ≡ y)
    → (different : List A) (keys now : List (List ℕ)) (x : A) (at : ℕ) (value : List ℕ) (is_new : Bool) → IsReady is_label key different keys → 16 < length different → is_label x → value ≡ key x
    → Entered keys now value → (k : List ℕ) × (slice_get now at ≡ Some k) × (same_ranks value k ≡ true) → is_new ≡ not (list_any (same_ranks value) keys) → is_new ≡ false
    → (now ≡ keys) × (slice_get different at ≡ Some x)
hashed_known is_label key apart different keys now x at value is_new h many hx v e s n old =
    let same : now ≡ keys = entered_known keys now value e (not_so is_new (list_any (same_ranks value) keys) n old) in
    let f = from_key key different at value (ap (λ (w : List (List ℕ)). slice_get w at) (sym (same ∙ h.hashed many)) ∙ found now value at s) in
    let is : is_label f.0 = subst is_label (get_or_from_slice_get different at f.0 f.0 f.1) (h.tested at f.0 (slice_get_within different at f.0 f.1)) in
    (same, f.1 ∙ ap Some (apart f.0 x is hx (f.2 ∙ v)))

-- a label whose key is a new one
pub hashed_new : {A : Type 0} (is_label : A → Type 0) (key : A → List ℕ) → (different : List A) (keys now : List (List ℕ)) (x : A) (at : ℕ) (value : List ℕ) (is_new : Bool) → IsReady is_label key different keys → 16 < length different → value ≡ key x
    → Entered keys now value → (k : List ℕ) × (slice_get now at ≡ Some k) × (same_ranks value k ≡ true) → is_new ≡ not (list_any (same_ranks value) keys) → is_new ≡ true
    → (now ≡ map key (different ++ x ∷ [])) × (at ≡ length different) × IsNew different x
hashed_new {A = A} is_label key different keys now x at value is_new h many v e s n fresh =
    let none : list_any (same_ranks value) keys ≡ false = so is_new (list_any (same_ranks value) keys) n fresh in
    let more : now ≡ keys ++ value ∷ [] = entered_new keys now value e none in
    let absent = unknown value keys none in
    let are : keys ≡ map key different = h.hashed many in (
      more ∙ ap (λ (w : List ℕ). keys ++ w ∷ []) v ∙ ap (λ (w : List (List ℕ)). w ++ key x ∷ []) are ∙ sym (map_push key different x),
      last value keys at absent (subst (λ (w : List (List ℕ)). slice_get w at ≡ Some value) more (found now value at s)) ∙ ap length are ∙ length-map different key,
      λ j hj. absent j (ap (λ (w : List (List ℕ)). slice_get w j) are ∙ slice_get-map key different j ∙ ap (λ (o : Option A). option_map key o) hj ∙ ap Some (sym v)),
    )

-- one more label, where the keys are kept
pub ready_hashed : {A : Type 0} (is_label : A → Type 0) (key : A → List ℕ) (different after : List A) (keys : List (List ℕ)) (x : A) → All is_label different → AllDiffer different → 15 < length different → is_label x → IsNew different x
    → after ≡ different ++ x ∷ [] → keys ≡ map key after → IsReady is_label key after keys
ready_hashed {A = A} is_label key different after keys x tested differ many hx new e k = record {
  tested = subst (λ (v : List A). All is_label v) (sym e) (All-push is_label different x tested hx);
  differ = subst (λ (v : List A). AllDiffer v) (sym e) (AllDiffer-push different x differ new);
  plain = λ few. absurd (omega (arith, few, many, ap length e, length_push different x));
  hashed = λ _. k;
}

slice_get_take : {A : Type 0} (i k : ℕ) (xs : List A) → k < i → slice_get (take i xs) k ≡ slice_get xs k
slice_get_take zero k xs h = absurd (omega (arith, h))
slice_get_take (suc i) k [] h = refl
slice_get_take (suc i) zero (x ∷ xs) h = refl
slice_get_take (suc i) (suc k) (x ∷ xs) h = slice_get_take i k xs (omega (arith, h))

-- the keys of the labels, as far as they were entered
pub keys_more : {A : Type 0} (is_label : A → Type 0) (key : A → List ℕ) → ((x y : A) → is_label x → is_label y → key x ≡ key y → x ≡ y)
    → (different : List A) (keys now : List (List ℕ)) (x : A) (i : ℕ) (value : List ℕ) → All is_label different → AllDiffer different → slice_get different i ≡ Some x → value ≡ key x
    → keys ≡ map key (take i different) → Entered keys now value → now ≡ map key (take (i + 1) different)
keys_more {A = A} is_label key apart different keys now x i value tested differ here v e h =
    let li : i < length different = slice_get_within different i x here in
    let is : get_or different i x ≡ x = get_or_from_slice_get different i x x here in
    let own : is_label x = subst is_label is (tested i x li) in
    let absent : IsNew keys value = λ k hk.
    (let f = from_key key (take i different) k value (ap (λ (w : List (List ℕ)). slice_get w k) (sym e) ∙ hk) in
    let lk : k < length (take i different) = slice_get_within (take i different) k f.0 f.1 in
    let ki : k < i = omega (arith, lk, length-take-le i different (omega (arith, li))) in
    let there : slice_get different k ≡ Some f.0 = sym (slice_get_take i k different ki) ∙ f.1 in
    let its : is_label f.0 = subst is_label (get_or_from_slice_get different k f.0 f.0 there) (tested k f.0 (slice_get_within different k f.0 there)) in
    let same : f.0 ≡ x = apart f.0 x its own (f.2 ∙ v) in
    absurd (omega (arith, ki, differ k i x (there ∙ ap Some same) here))) in
    let more : take (i + 1) different ≡ take i different ++ x ∷ [] = take_more different i x li ∙ ap (λ (y : A). take i different ++ y ∷ []) is in
    entered_new keys now value h (any_new value keys absent) ∙ ap (λ (w : List (List ℕ)). w ++ value ∷ []) e ∙ ap (λ (w : List ℕ). map key (take i different) ++ w ∷ []) v
    ∙ sym (map_push key (take i different) x) ∙ ap (λ (w : List A). map key w) (sym more)

-- one more label that was entered
canon_entered : {A : Type 0} (all : List A) (ranks : List ℕ) (before now : List A) (x : A) (at : ℕ) → IsCanon all ranks before → IsEntered before now x at → IsCanon (all ++ x ∷ []) (ranks ++ at ∷ []) now
canon_entered {A = A} all ranks before now x at c (inl h) = subst (λ (v : List A). IsCanon (all ++ x ∷ []) (ranks ++ at ∷ []) v) (sym h.0) (canon_known all ranks before x at c h.1)
canon_entered {A = A} all ranks before now x at c (inr h) =
    subst (λ (v : List A). IsCanon (all ++ x ∷ []) (ranks ++ at ∷ []) v) (sym h.0) (subst (λ (k : ℕ). IsCanon (all ++ x ∷ []) (ranks ++ k ∷ []) (before ++ x ∷ [])) (sym h.1) (canon_new all ranks before x c h.2))

pub numbers_more : {A : Type 0} (first : List ℕ) (start labels : List A) (ranks after : List ℕ) (different now : List A) (x : A) (at i : ℕ) → i < length labels → x ≡ get_or labels i x
    → Numbers first start (take i labels) ranks different → IsEntered different now x at → after ≡ ranks ++ at ∷ [] → Numbers first start (take (i + 1) labels) after now
numbers_more {A = A} first start labels ranks after different now x at i li is h e q =
    let more : take (i + 1) labels ≡ take i labels ++ x ∷ [] = take_more labels i x li ∙ ap (λ (y : A). take i labels ++ y ∷ []) (sym is) in
    λ all c.
    (let shape : (all ++ take i labels) ++ x ∷ [] ≡ all ++ take (i + 1) labels = append_assoc all (take i labels) (x ∷ []) ∙ ap (λ (v : List A). all ++ v) (sym more) in
    subst (λ (v : List A). IsCanon v after now) shape (subst (λ (r : List ℕ). IsCanon ((all ++ take i labels) ++ x ∷ []) r now) (sym q) (canon_entered (all ++ take i labels) ranks different now x at (h all c) e)))
