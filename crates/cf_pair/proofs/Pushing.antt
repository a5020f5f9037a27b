use Rattle.std.proofs.Common.{◌≡◌, ℕ, ◌<◌, ◌+◌, List, [], ◌∷◌, ◌++◌, map, sym, ◌∙◌, ap, length, take, get_or, arith, zero-add}
use Rattle.std.proofs.lemmas.List.{take_more, map_push, append_assoc, length-map, get_or-map}
use Rattle.std.proofs.lemmas.List.FromFn.{map-range_with_len_more, length-range_with_len, get_or-range_with_len}
use Rattle.std.specs.Prelude.{Result, Ok, Err, OnOk}
use Rattle.std.specs.List.{range_with_len}
use Rattle.cf_table.specs.declared.Gid.{Gid}
use Rattle.cf_pair.specs.declared.plain.Plain.{Plain}
use Rattle.cf_build.specs.Assembling.{Rowed, ended}
use Rattle.cf_pair.specs.Products.{met, plain_pairs, GainsRow}

abbrev pub with_begun : {A : Type 0} → List (Gid × List A) → List A → Rowed A
with_begun rows begun = record { rows = rows; begun = begun }

-- one more label behind those of a list
pub begun_push : {A : Type 0} (old before now : Rowed A) (labels more : List A) (y : A) → before ≡ with_begun old.rows (old.begun ++ labels) → more ≡ labels ++ y ∷ [] → now ≡ with_begun before.rows (before.begun ++ y ∷ []) → now ≡ with_begun old.rows (old.begun ++ more)
begun_push {A} old before now labels more y b m e =
    e ∙ ap (λ (s : Rowed A). with_begun s.rows (s.begun ++ y ∷ [])) b
    ∙ ap (with_begun old.rows) (append_assoc old.begun labels (y ∷ []) ∙ ap (λ (v : List A). old.begun ++ v) (sym m))

-- that of the next entry of a list
pub begun_more : {A B : Type 0} (f : B → A) (xs : List B) (i : ℕ) (none : B) (old before now : Rowed A) → i < length xs → before ≡ with_begun old.rows (old.begun ++ map f (take i xs)) → now ≡ with_begun before.rows (before.begun ++ f (get_or xs i none) ∷ [])
    → now ≡ with_begun old.rows (old.begun ++ map f (take (i + 1) xs))
begun_more {A} {B} f xs i none old before now l b e =
    begun_push old before now (map f (take i xs)) (map f (take (i + 1) xs)) (f (get_or xs i none)) b (ap (map f) (take_more xs i none l) ∙ map_push f (take i xs) (get_or xs i none)) e

-- that of the next number
pub begun_next : {A B : Type 0} (f : B → A) (g : ℕ → B) (i : ℕ) (x : B) (old before now : Rowed A) → x ≡ g i → before ≡ with_begun old.rows (old.begun ++ map f (map g (range_with_len 0 i))) → now ≡ with_begun before.rows (before.begun ++ f x ∷ [])
    → now ≡ with_begun old.rows (old.begun ++ map f (map g (range_with_len 0 (i + 1))))
begun_next {A} {B} f g i x old before now is b e =
    begun_push old before now (map f (map g (range_with_len 0 i))) (map f (map g (range_with_len 0 (i + 1)))) (f x) b
    (ap (map f) (map-range_with_len_more g 0 i i (omega arith)) ∙ map_push f (map g (range_with_len 0 i)) (g i) ∙ ap (λ (y : B). map f (map g (range_with_len 0 i)) ++ f y ∷ []) (sym is)) e

-- the pairs of a product that is one of its groupings
pub plain_long : (p : Plain) → length (plain_pairs p) ≡ p.exits
plain_long p = length-map (range_with_len 0 p.exits) (met p.meeting) ∙ length-range_with_len 0 p.exits

pub met_at : (p : Plain) (e : ℕ) (d : ℕ × ℕ) → e < p.exits → get_or (plain_pairs p) e d ≡ met p.meeting e
met_at p e d l = get_or-map (met p.meeting) (range_with_len 0 p.exits) e 0 d (omega (arith, l, length-range_with_len 0 p.exits)) ∙ ap (met p.meeting) (get_or-range_with_len 0 p.exits e 0 l ∙ zero-add e)

-- the row is ended
pub gains : {A : Type 0} (P : Gid × List A → Type 0) (old before now : Rowed A) («to» : Gid) (labels : List A) → old.begun ≡ [] → before ≡ with_begun old.rows (old.begun ++ labels) → now ≡ ended (before.rows ++ («to», before.begun) ∷ []) → P («to», labels) → GainsRow old now P
gains {A} P old before now «to» labels none b e p = record {
  row = («to», labels);
  is_last = e ∙ ap (λ (s : Rowed A). ended (s.rows ++ («to», s.begun) ∷ [])) b ∙ ap (λ (v : List A). ended (old.rows ++ («to», v ++ labels) ∷ [])) none;
  is_asked = p;
}

-- what is asked of a row
pub gains_so : {A : Type 0} (P Q : Gid × List A → Type 0) (old now : Rowed A) → ((r : Gid × List A) → P r → Q r) → GainsRow old now P → GainsRow old now Q
gains_so P Q old now f g = record { row = g.row; is_last = g.is_last; is_asked = f g.row g.is_asked }

pub on_ok_always : {T E P : Type 0} (r : Result T E) → P → OnOk r P
on_ok_always (Ok x) p = p
on_ok_always (Err e) p = tt
