-- Names beside their functions: where a name stands, what it is bound to, and what binding it anew does.
use Rattle.std.proofs.Common.{ℕ, zero, suc, ◌≡◌, ◌<◌, ◌+◌, Bool, true, false, cond, ◌||◌, List, [], ◌∷◌, ◌++◌, map, length, refl, sym, ◌∙◌, ap, arith, Option, Some, None}
use Rattle.std.specs.List.{zip, slice_set}
use Rattle.std.specs.Prelude.{slice_index_or as get_or, slice_get, take}
use Rattle.std.specs.Str.{bytes_eq}
use Rattle.std.proofs.lemmas.Bool.{false≢true}
use Rattle.std.proofs.lemmas.Option.{same_Some, none-some, get_or_from_slice_get, slice_get_within}
use Rattle.std.proofs.lemmas.Slice.Eq.{bytes_eq-Decides}
use Rattle.std.proofs.lemmas.Slice.Zip.{firsts-zip, seconds-zip}
use Rattle.std.proofs.Math.Seq.{take-suc}
use Rattle.cf_model.specs.Renumbering.{AllDiffer, note, place}
use Rattle.cf_names.specs.Numbers.{number_of}
use Rattle.cf_pkg.specs.declared.Func.{Func}
use Rattle.cf_reference.specs.States.{is_among}
use Rattle.cf_session.specs.Sessions.{Names, names_of}
use Rattle.cf_session.specs.Bindings.{place_in, bound_to, bind}

pub flipped : (a b : List ℕ) → bytes_eq a b ≡ bytes_eq b a
flipped a b = by (bytes_eq a b) (bytes_eq b a) refl refl
  where
    by : (s t : Bool) → bytes_eq a b ≡ s → bytes_eq b a ≡ t → s ≡ t
    by true true p q = refl
    by false false p q = refl
    by true false p q = absurd (false≢true (sym q ∙ (bytes_eq-Decides b a).1 (sym ((bytes_eq-Decides a b).0 p))))
    by false true p q = absurd (false≢true (sym p ∙ (bytes_eq-Decides a b).1 (sym ((bytes_eq-Decides b a).0 q))))

-- the names, and how many there are
pub names-zip : (names : List (List ℕ)) (fs : List Func) → length names ≡ length fs → names_of (zip names fs) ≡ names
names-zip names fs e = firsts-zip names fs (sym e)

pub functions-zip : (names : List (List ℕ)) (fs : List Func) → length names ≡ length fs → map (λ b. b.1) (zip names fs) ≡ fs
functions-zip names fs e = seconds-zip names fs (sym e)

pub count-zip : (names : List (List ℕ)) (fs : List Func) → length names ≡ length fs → length (zip names fs) ≡ length fs
count-zip [] [] e = refl
count-zip [] (f ∷ fs) e = refl ∙ e
count-zip (name ∷ names) [] e = refl
count-zip (name ∷ names) (f ∷ fs) e = ap suc (count-zip names fs (omega (arith, e)))

pub place-zip : (names : List (List ℕ)) (fs : List Func) (name : List ℕ) → length names ≡ length fs
    → number_of names name ≡ place_in (zip names fs) name
place-zip names fs name e = ap (λ ns. number_of ns name) (sym (names-zip names fs e))

pub looked : (names : List (List ℕ)) (fs : List Func) (bound : Names) (name : List ℕ) (o : Option ℕ)
    → length names ≡ length fs → zip names fs ≡ bound → o ≡ place_in bound name → o ≡ number_of names name
looked names fs bound name o e view is =
    is ∙ ap (λ bs. place_in bs name) (sym view) ∙ sym (place-zip names fs name e)

-- what a name is bound to is the function at its place
pub bound-zip : (names : List (List ℕ)) (fs : List Func) (name : List ℕ) (blank : Func) → length names ≡ length fs
    → bound_to (zip names fs) name ≡ cond (is_among names name) (Some (get_or fs (place bytes_eq names name) blank)) None
bound-zip [] fs name blank e = refl
bound-zip (other ∷ names) [] name blank e = absurd (omega (arith, e))
bound-zip (other ∷ names) (f ∷ fs) name blank e =
    ap (λ b. cond b (Some f) (bound_to (zip names fs) name)) (flipped name other)
    ∙ by (bytes_eq other name) (bound-zip names fs name blank (omega (arith, e)))
  where
    by : (b : Bool)
        → bound_to (zip names fs) name ≡ cond (is_among names name) (Some (get_or fs (place bytes_eq names name) blank)) None
        → cond b (Some f) (bound_to (zip names fs) name)
        ≡ cond (b || is_among names name) (Some (get_or (f ∷ fs) (cond b 0 (suc (place bytes_eq names name))) blank)) None
    by true later = refl
    by false later = later

pub place-within : (names : List (List ℕ)) (name : List ℕ) → is_among names name ≡ true
    → place bytes_eq names name < length names
place-within [] name e = absurd (false≢true e)
place-within (other ∷ names) name e = by (bytes_eq other name) e (place-within names name)
  where
    by : (b : Bool) → (b || is_among names name) ≡ true
        → (is_among names name ≡ true → place bytes_eq names name < length names)
        → cond b 0 (suc (place bytes_eq names name)) < suc (length names)
    by true e later = omega arith
    by false e later = let inside = later e in omega (arith, inside)

-- What a look-up finds: the name is among the names, and stands at its place.
pub found : (names : List (List ℕ)) (name : List ℕ) (n : ℕ) → Some n ≡ number_of names name
    → (is_among names name ≡ true) × (n ≡ place bytes_eq names name)
found names name n e = by (is_among names name) refl e
  where
    by : (b : Bool) → is_among names name ≡ b → Some n ≡ cond b (Some (place bytes_eq names name)) None
        → (is_among names name ≡ true) × (n ≡ place bytes_eq names name)
    by true h e = (h, same_Some n (place bytes_eq names name) e)
    by false h e = absurd (none-some n (sym e))

pub missed : (names : List (List ℕ)) (name : List ℕ) → None ≡ number_of names name → is_among names name ≡ false
missed names name e = by (is_among names name) refl e
  where
    by : (b : Bool) → is_among names name ≡ b → None ≡ cond b (Some (place bytes_eq names name)) None
        → is_among names name ≡ false
    by true h e = absurd (none-some (place bytes_eq names name) e)
    by false h e = h

pub found-within : (names : List (List ℕ)) (fs : List Func) (name : List ℕ) (n : ℕ) → length names ≡ length fs
    → Some n ≡ number_of names name → n < length fs
found-within names fs name n e h =
    let there = found names name n h in
    let inside = place-within names name there.0 in
    omega (arith, inside, there.1, e)

pub found-bound : (names : List (List ℕ)) (fs : List Func) (name : List ℕ) (n : ℕ) (blank : Func) → length names ≡ length fs
    → Some n ≡ number_of names name → Some (get_or fs n blank) ≡ bound_to (zip names fs) name
found-bound names fs name n blank e h =
    let there = found names name n h in
    ap (λ i. Some (get_or fs i blank)) there.1
    ∙ ap (λ b. cond b (Some (get_or fs (place bytes_eq names name) blank)) None) (sym there.0)
    ∙ sym (bound-zip names fs name blank e)

pub missed-bound : (names : List (List ℕ)) (fs : List Func) (name : List ℕ) (blank : Func) → length names ≡ length fs
    → None ≡ number_of names name → None ≡ bound_to (zip names fs) name
missed-bound names fs name blank e h =
    sym
    (bound-zip names fs name blank e
    ∙ ap (λ b. cond b (Some (get_or fs (place bytes_eq names name) blank)) None) (missed names name h))

-- a name that is bound anew keeps its place
set-bind : (names : List (List ℕ)) (fs : List Func) (name : List ℕ) (f : Func) → length names ≡ length fs
    → is_among names name ≡ true
    → zip names (slice_set fs (place bytes_eq names name) f) ≡ bind (zip names fs) name f
set-bind [] fs name f e h = absurd (false≢true h)
set-bind (other ∷ names) [] name f e h = absurd (omega (arith, e))
set-bind (other ∷ names) (g ∷ fs) name f e h =
    by (bytes_eq other name) h (set-bind names fs name f (omega (arith, e)))
    ∙ ap (λ b. cond b ((other, f) ∷ zip names fs) ((other, g) ∷ bind (zip names fs) name f)) (sym (flipped name other))
  where
    by : (b : Bool) → (b || is_among names name) ≡ true
        → (is_among names name ≡ true → zip names (slice_set fs (place bytes_eq names name) f) ≡ bind (zip names fs) name f)
        → zip (other ∷ names) (slice_set (g ∷ fs) (cond b 0 (suc (place bytes_eq names name))) f)
        ≡ cond b ((other, f) ∷ zip names fs) ((other, g) ∷ bind (zip names fs) name f)
    by true h later = refl
    by false h later = ap (λ rest. (other, g) ∷ rest) (later h)

pub found-bind : (names : List (List ℕ)) (fs : List Func) (name : List ℕ) (n : ℕ) (f : Func) → length names ≡ length fs
    → Some n ≡ number_of names name → zip names (slice_set fs n f) ≡ bind (zip names fs) name f
found-bind names fs name n f e h =
    let there = found names name n h in
    ap (λ i. zip names (slice_set fs i f)) there.1 ∙ set-bind names fs name f e there.0

-- a new name comes to the end
push-bind : (names : List (List ℕ)) (fs : List Func) (name : List ℕ) (f : Func) → length names ≡ length fs
    → is_among names name ≡ false
    → zip (names ++ name ∷ []) (fs ++ f ∷ []) ≡ bind (zip names fs) name f
push-bind [] [] name f e h = refl
push-bind [] (g ∷ fs) name f e h = absurd (omega (arith, e))
push-bind (other ∷ names) [] name f e h = absurd (omega (arith, e))
push-bind (other ∷ names) (g ∷ fs) name f e h =
    by (bytes_eq other name) h (push-bind names fs name f (omega (arith, e)))
    ∙ ap (λ b. cond b ((other, f) ∷ zip names fs) ((other, g) ∷ bind (zip names fs) name f)) (sym (flipped name other))
  where
    by : (b : Bool) → (b || is_among names name) ≡ false
        → (is_among names name ≡ false → zip (names ++ name ∷ []) (fs ++ f ∷ []) ≡ bind (zip names fs) name f)
        → (other, g) ∷ zip (names ++ name ∷ []) (fs ++ f ∷ [])
        ≡ cond b ((other, f) ∷ zip names fs) ((other, g) ∷ bind (zip names fs) name f)
    by true h later = absurd (false≢true (sym h))
    by false h later = ap (λ rest. (other, g) ∷ rest) (later h)

pub missed-bind : (names : List (List ℕ)) (fs : List Func) (name : List ℕ) (f : Func) → length names ≡ length fs
    → None ≡ number_of names name → zip (note bytes_eq names name) (fs ++ f ∷ []) ≡ bind (zip names fs) name f
missed-bind names fs name f e h =
    let free = missed names name h in
    ap (λ b. zip (cond b names (names ++ name ∷ [])) (fs ++ f ∷ [])) free ∙ push-bind names fs name f e free

pub length-push : {A : Type 0} (xs : List A) (x : A) → length (xs ++ x ∷ []) ≡ suc (length xs)
length-push [] x = refl
length-push (y ∷ xs) x = ap suc (length-push xs x)

pub missed-count : (names : List (List ℕ)) (name : List ℕ) → None ≡ number_of names name
    → length (note bytes_eq names name) ≡ suc (length names)
missed-count names name h =
    ap (λ b. length (cond b names (names ++ name ∷ []))) (missed names name h) ∙ length-push names name

-- a name behind others from which it differs
fresh : (names : List (List ℕ)) (i : ℕ) (name : List ℕ) → AllDiffer names → slice_get names i ≡ Some name
    → is_among (take i names) name ≡ false
fresh [] i name differ h = absurd (none-some name h)
fresh (other ∷ names) zero name differ h = refl
fresh (other ∷ names) (suc i) name differ h =
    by (bytes_eq other name) refl (fresh names i name later h)
  where
    later : AllDiffer names
    later = λ j k x p q. let same = differ (suc j) (suc k) x p q in omega (arith, same)

    by : (b : Bool) → bytes_eq other name ≡ b → is_among (take i names) name ≡ false
        → b || is_among (take i names) name ≡ false
    by true e rest =
        let same = differ zero (suc i) name (ap Some ((bytes_eq-Decides other name).0 e)) h in absurd (omega (arith, same))
    by false e rest = rest

pub note-next : (names : List (List ℕ)) (i : ℕ) (name : List ℕ) → AllDiffer names → slice_get names i ≡ Some name
    → note bytes_eq (take i names) name ≡ take (i + 1) names
note-next names i name differ h =
    let one : suc i ≡ i + 1 = omega arith in
    ap (λ b. cond b (take i names) (take i names ++ name ∷ [])) (fresh names i name differ h)
    ∙ ap (λ x. take i names ++ x ∷ []) (sym (get_or_from_slice_get names i name name h))
    ∙ sym (take-suc names i name (slice_get_within names i name h)) ∙ ap (λ n. take n names) one
