-- Calls by places, and rings of them.
use Rattle.std.proofs.Common.{ℕ, zero, suc, ◌≡◌, ◌<◌, ◌||◌, Bool, true, false, cond, List, [], ◌∷◌, length, get_or, map, Option, Some, None, refl, sym, ◌∙◌, ap, arith, inl, inr}
use Rattle.std.specs.Prelude.{All}
use Rattle.std.specs.List.{slice_get}
use Rattle.std.specs.Str.{bytes_eq}
use Rattle.std.proofs.lemmas.Bool.{cases_lt}
use Rattle.std.proofs.lemmas.List.{get_or_past, length-map}
use Rattle.std.proofs.lemmas.List.Elements.{All-map}
use Rattle.std.proofs.lemmas.Option.{slice_get-get_or, slice_get-map}
use Rattle.std.specs.Option.{option_map}
use Rattle.cf_model.specs.Renumbering.{place}
use Rattle.cf_order.specs.Orders.{Needs, Chain, IsRing}
use Rattle.cf_order.specs.Rings.{HasNoneOnRing, IsFirstOnRing}
use Rattle.cf_circuits.specs.declared.pins.Call.{Call}
use Rattle.cf_circuits.specs.declared.models.ModelDef.{ModelDef}
use Rattle.cf_circuits.specs.Links.{first_of, is_among, names_of, missing_model, in_calls, in_models, calls_of}
use Rattle.cf_links.specs.Directories.{places_of}

-- where a list has no answer, none of its items has one
pub all-none : {A B : Type 0} (f : A → Option B) (xs : List A) → first_of (map f xs) ≡ None → All (λ x. f x ≡ None) xs
all-none f [] e k d l = absurd (omega (arith, l))
all-none {A} {B} f (x ∷ xs) e k d l = by (f x) refl e (λ none j m. all-none f xs none j d m) k l
  where
    by : (o : Option B) → f x ≡ o → first_of (o ∷ map f xs) ≡ None
        → (first_of (map f xs) ≡ None → (j : ℕ) → j < length xs → f (get_or xs j d) ≡ None)
        → (k : ℕ) → k < suc (length xs) → f (get_or (x ∷ xs) k d) ≡ None
    by None h e later zero l = h
    by None h e later (suc k) l = later e k (omega (arith, l))
    by (Some y) h e later k l = cc

known-place : (names : List (List ℕ)) (name : List ℕ) → is_among names name ≡ true
    → place bytes_eq names name < length names
known-place [] name h = cc
known-place (other ∷ names) name h = by (bytes_eq other name) h (known-place names name)
  where
    by : (b : Bool) → (b || is_among names name) ≡ true
        → (is_among names name ≡ true → place bytes_eq names name < length names)
        → cond b 0 (suc (place bytes_eq names name)) < suc (length names)
    by true h rest = omega arith
    by false h rest = let later = rest h in omega (arith, later)

place-within : (models : List ModelDef) (c : Call) → missing_model models c ≡ None
    → place bytes_eq (names_of models) c.model < length models
place-within models c e = by (is_among (names_of models) c.model) refl e
  where
    by : (b : Bool) → is_among (names_of models) c.model ≡ b → cond b None (Some c.model) ≡ None
        → place bytes_eq (names_of models) c.model < length models
    by true h e =
        let known = known-place (names_of models) c.model h in
        omega (arith, known, length-map models (λ (m : ModelDef). m.name))
    by false h e = cc

-- where no call lacks its model, the calls are of models that are there
pub calls-within : (models : List ModelDef) → in_models (in_calls (missing_model models)) models ≡ None
    → All (All (λ t. t < length (calls_of models))) (calls_of models)
calls-within models none =
    All-map (All (λ t. t < length (calls_of models))) (places_of models) models (λ k m l.
    All-map (λ t. t < length (calls_of models)) (λ (c : Call). place bytes_eq (names_of models) c.model)
    (get_or models k m).calls (λ j c l'.
    let found = place-within models (get_or (get_or models k m).calls j c)
    (all-none (missing_model models) (get_or models k m).calls (all-none (in_calls (missing_model models)) models none k m l) j c l') in
    omega (arith, found, length-map models (places_of models))))

needs-within : (rows : List (List ℕ)) (a t : ℕ) → Needs rows a t → a < length rows
needs-within rows a t h = elim (cases_lt a (length rows)) [
  | inl l ↦ l
  | inr past ↦ let none = ap length (get_or_past rows a [] past) in absurd (omega (arith, h.1, none))
]

chain-within : (rows : List (List ℕ)) (a : ℕ) (rest : List ℕ) (b : ℕ) → Chain rows a rest b → a < length rows
chain-within rows a [] b h = needs-within rows a b h
chain-within rows a (c ∷ cs) b h = needs-within rows a c h.0

-- a ring has a signal that lies on it
pub ring-lies : (rows : List (List ℕ)) (ring : List ℕ) → IsRing rows ring → HasNoneOnRing rows (length rows) → ⊥
ring-lies rows [] h none = h
ring-lies rows (a ∷ rest) h none = none a (chain-within rows a rest a h) (rest, h)

pub first-within : (rows : List (List ℕ)) (at : ℕ) → IsFirstOnRing rows at → at < length rows
first-within rows at first = chain-within rows at first.0.0 at first.0.1

-- the name of the model at a place
pub named-at : (models : List ModelDef) (at : ℕ) (m : ModelDef) (name : List ℕ)
    → at < length models → name ≡ (get_or models at m).name → slice_get (names_of models) at ≡ Some name
named-at models at m name within named =
    slice_get-map (λ n. n.name) models at
    ∙ ap (option_map (λ n. n.name)) (slice_get-get_or models at m within) ∙ ap Some (sym named)
