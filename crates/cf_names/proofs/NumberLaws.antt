-- Where a name stands in a book, and what a look-up finds.
use Rattle.std.proofs.Common.{ℕ, zero, suc, ◌≡◌, ◌+◌, ◌<◌, ◌↔◌, Bool, true, false, cond, ◌||◌, List, [], ◌∷◌, ◌++◌, length}
use Rattle.std.proofs.Common.{Option, Some, None, IsNone, IfSome, refl, sym, ◌∙◌, ap, arith}
use Rattle.std.specs.List.{slice_get, list_any, position, position_from}
use Rattle.std.specs.Str.{bytes_eq}
use Rattle.std.specs.declared.vec.Vec.{Vec}
use Rattle.std.proofs.lemmas.Bool.{false≢true}
use Rattle.std.proofs.lemmas.List.{map-append}
use Rattle.std.proofs.lemmas.Option.{same_Some}
use Rattle.std.proofs.lemmas.Slice.Eq.{bytes_eq-Decides}
use Rattle.std.proofs.lemmas.Iterator.Adapters.{position_from-zero}
use Rattle.cf_model.specs.Renumbering.{AllDiffer, IsNew, note, place, rgs_on, distinct_on, rgs, distinct}
use Rattle.cf_model.proofs.CanonLaws.{AllDiffer-push, get_left, get_last}
use Rattle.cf_names.specs.Keys.{names_of}
use Rattle.cf_names.specs.Numbers.{number_of, NumbersNext}

-- whether the name is among the names
abbrev has : List (List ℕ) → List ℕ → Bool
has names name = list_any (λ other. bytes_eq other name) names

-- whether a key is the name
abbrev is_key : {Z : Type 0} → List ℕ → Vec ℕ Z → Bool
is_key name key = bytes_eq name key.items

-- the number that a look-up answers which counts from i, by whether there is one
abbrev answer_at : ℕ → List (List ℕ) → List ℕ → Bool → Option ℕ
answer_at i names name b = cond b (Some (i + place bytes_eq names name)) None

flipped : (a b : List ℕ) → bytes_eq a b ≡ bytes_eq b a
flipped a b = by (bytes_eq a b) (bytes_eq b a) refl refl
  where
    by : (s t : Bool) → bytes_eq a b ≡ s → bytes_eq b a ≡ t → s ≡ t
    by true true p q = refl
    by false false p q = refl
    by true false p q = absurd (false≢true (sym q ∙ (bytes_eq-Decides b a).1 (sym ((bytes_eq-Decides a b).0 p))))
    by false true p q = absurd (false≢true (sym p ∙ (bytes_eq-Decides a b).1 (sym ((bytes_eq-Decides b a).0 q))))

looked_up : {Z : Type 0} (name : List ℕ) (i : ℕ) (keys : List (Vec ℕ Z))
    → position_from (is_key name) i keys ≡ answer_at i (names_of keys) name (has (names_of keys) name)
looked_up name i [] = refl
looked_up name i (key ∷ keys) =
    ap (λ b. cond b (Some i) (position_from (is_key name) (i + 1) keys)) (flipped name key.items)
    ∙ by (bytes_eq key.items name) (looked_up name (i + 1) keys)
  where
    by : (b : Bool) → position_from (is_key name) (i + 1) keys ≡ answer_at (i + 1) (names_of keys) name (has (names_of keys) name)
        → cond b (Some i) (position_from (is_key name) (i + 1) keys)
        ≡ cond (b || has (names_of keys) name) (Some (i + cond b 0 (suc (place bytes_eq (names_of keys) name)))) None
    by true rest = ap Some (omega arith)
    by false rest = rest ∙ ap (λ n. cond (has (names_of keys) name) (Some n) None) (omega arith)

-- the place of a key is the number of its name
pub position-number_of : {Z : Type 0} (keys : List (Vec ℕ Z)) (names : List (List ℕ)) (name : List ℕ) (answer : Option ℕ)
    → names_of keys ≡ names → answer ≡ position (λ v. bytes_eq name v.items) keys → answer ≡ number_of names name
position-number_of keys names name answer view e =
    e ∙ position_from-zero (is_key name) keys ∙ looked_up name 0 keys
    ∙ ap (λ n. cond (has (names_of keys) name) (Some n) None) (omega arith) ∙ ap (λ ns. number_of ns name) view

-- a name that stands in the list stands at its place
has-place : (names : List (List ℕ)) (name : List ℕ) → has names name ≡ true
    → slice_get names (place bytes_eq names name) ≡ Some name
has-place [] name h = cc
has-place (other ∷ names) name h = by (bytes_eq other name) refl h (has-place names name)
  where
    by : (b : Bool) → bytes_eq other name ≡ b → (b || has names name) ≡ true
        → (has names name ≡ true → slice_get names (place bytes_eq names name) ≡ Some name)
        → slice_get (other ∷ names) (cond b 0 (suc (place bytes_eq names name))) ≡ Some name
    by true e h rest = ap Some ((bytes_eq-Decides other name).0 e)
    by false e h rest = rest h

-- a new name has the length as its place
lacks-place : (names : List (List ℕ)) (name : List ℕ) → has names name ≡ false → place bytes_eq names name ≡ length names
lacks-place [] name h = refl
lacks-place (other ∷ names) name h = by (bytes_eq other name) h (lacks-place names name)
  where
    by : (b : Bool) → (b || has names name) ≡ false → (has names name ≡ false → place bytes_eq names name ≡ length names)
        → cond b 0 (suc (place bytes_eq names name)) ≡ suc (length names)
    by true h rest = cc
    by false h rest = ap suc (rest h)

lacks-new : (names : List (List ℕ)) (name : List ℕ) → has names name ≡ false → IsNew names name
lacks-new [] name h = λ k e. cc
lacks-new (other ∷ names) name h = by (bytes_eq other name) refl h (lacks-new names name)
  where
    by : (b : Bool) → bytes_eq other name ≡ b → (b || has names name) ≡ false
        → (has names name ≡ false → IsNew names name) → IsNew (other ∷ names) name
    by true p h rest k e = cc
    by false p h rest zero e = false≢true (sym p ∙ (bytes_eq-Decides other name).1 (same_Some other name e))
    by false p h rest (suc k) e = rest h k e

-- a name stands where a look-up finds it
pub found : (names : List (List ℕ)) (name : List ℕ) (answer : Option ℕ) → answer ≡ number_of names name
    → IfSome answer (λ n. slice_get names n ≡ Some name)
found names name None e = tt
found names name (Some n) e = by (has names name) refl e
  where
    by : (b : Bool) → has names name ≡ b → Some n ≡ cond b (Some (place bytes_eq names name)) None
        → slice_get names n ≡ Some name
    by true h e = ap (slice_get names) (same_Some n (place bytes_eq names name) e) ∙ has-place names name h
    by false h e = cc

lacked : (names : List (List ℕ)) (name : List ℕ) → None ≡ number_of names name → has names name ≡ false
lacked names name e = by (has names name) refl e
  where
    by : (b : Bool) → has names name ≡ b → None ≡ cond b (Some (place bytes_eq names name)) None → has names name ≡ false
    by true h e = cc
    by false h e = h

-- a name stands nowhere where a look-up doesn't find it
pub missing : (names : List (List ℕ)) (name : List ℕ) (answer : Option ℕ) → answer ≡ number_of names name
    → IsNone answer ↔ IsNew names name
missing names name None e = (λ none. lacks-new names name (lacked names name e), λ new. refl)
missing names name (Some n) e = (λ none. cc, λ new. absurd (new n (found names name (Some n) e)))

-- the number of a name that the book has
pub known : (names : List (List ℕ)) (name : List ℕ) (n : ℕ) → Some n ≡ number_of names name
    → (n ≡ place bytes_eq names name) × (names ≡ note bytes_eq names name)
known names name n e = by (has names name) e
  where
    by : (b : Bool) → Some n ≡ cond b (Some (place bytes_eq names name)) None
        → (n ≡ place bytes_eq names name) × (names ≡ cond b names (names ++ name ∷ []))
    by true e = (same_Some n (place bytes_eq names name) e, refl)
    by false e = cc

-- A book with a name that it hadn't.
pub record Adds (before now : List (List ℕ)) (name : List ℕ) : Type 0 where
  pub number : length before ≡ place bytes_eq before name
  pub noted : now ≡ note bytes_eq before name
  pub stands : slice_get now (length before) ≡ Some name
  pub kept : (i : ℕ) → i < length before → slice_get now i ≡ slice_get before i
  pub differ : AllDiffer now

pub added : (before : List (List ℕ)) (name : List ℕ) → AllDiffer before → None ≡ number_of before name
    → Adds before (before ++ name ∷ []) name
added before name differ e =
    let lacks = lacked before name e in
    record {
      number = sym (lacks-place before name lacks);
      noted = sym (ap (λ b. cond b before (before ++ name ∷ [])) lacks);
      stands = get_last before name (length before) refl;
      kept = get_left before name;
      differ = AllDiffer-push before name differ (lacks-new before name lacks);
    }

has-keys : {Z : Type 0} (keys : List (Vec ℕ Z)) (name : List ℕ) → list_any (is_key name) keys ≡ has (names_of keys) name
has-keys [] name = refl
has-keys (key ∷ keys) name =
    ap (λ b. b || list_any (is_key name) keys) (flipped name key.items)
    ∙ ap (λ b. bytes_eq key.items name || b) (has-keys keys name)

-- the names of a set that a name was put into
pub names_of-insert : {Z : Type 0} (keys now : List (Vec ℕ Z)) (owned : Vec ℕ Z)
    → None ≡ number_of (names_of keys) owned.items
    → now ≡ cond (list_any (λ v. bytes_eq owned.items v.items) keys) keys (keys ++ owned ∷ [])
    → names_of now ≡ names_of keys ++ owned.items ∷ []
names_of-insert keys now owned e is =
    let lacks = has-keys keys owned.items ∙ lacked (names_of keys) owned.items e in
    ap names_of (is ∙ ap (λ b. cond b keys (keys ++ owned ∷ [])) lacks) ∙ map-append (λ v. v.items) keys (owned ∷ [])

rgs_on-push : (seen read : List (List ℕ)) (name : List ℕ)
    → rgs_on bytes_eq seen (read ++ name ∷ [])
    ≡ rgs_on bytes_eq seen read ++ place bytes_eq (distinct_on bytes_eq seen read) name ∷ []
rgs_on-push seen [] name = refl
rgs_on-push seen (first ∷ read) name =
    ap (λ ranks. place bytes_eq seen first ∷ ranks) (rgs_on-push (note bytes_eq seen first) read name)

distinct_on-push : (seen read : List (List ℕ)) (name : List ℕ)
    → distinct_on bytes_eq seen (read ++ name ∷ []) ≡ note bytes_eq (distinct_on bytes_eq seen read) name
distinct_on-push seen [] name = refl
distinct_on-push seen (first ∷ read) name = distinct_on-push (note bytes_eq seen first) read name

-- a name that gets its place, and is noted, is numbered by first appearance
pub numbers_next : (before now : List (List ℕ)) (name : List ℕ) (n : ℕ)
    → n ≡ place bytes_eq before name → now ≡ note bytes_eq before name → NumbersNext before now name n
numbers_next before now name n number noted = λ read e.
    let ranks : rgs bytes_eq (read ++ name ∷ []) ≡ rgs bytes_eq read ++ n ∷ [] =
    rgs_on-push [] read name
    ∙ ap (λ names. rgs bytes_eq read ++ place bytes_eq names name ∷ []) e
    ∙ ap (λ m. rgs bytes_eq read ++ m ∷ []) (sym number) in
    let names : distinct bytes_eq (read ++ name ∷ []) ≡ now =
    distinct_on-push [] read name ∙ ap (λ ns. note bytes_eq ns name) e ∙ sym noted in
    ap (λ ms. (ms, distinct bytes_eq (read ++ name ∷ []))) ranks ∙ ap (λ ns. (rgs bytes_eq read ++ n ∷ [], ns)) names
