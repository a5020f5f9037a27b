-- The place of a called model.
use Rattle.std.proofs.Common.{ℕ, suc, ◌≡◌, ◌||◌, Bool, true, false, cond, List, [], ◌∷◌, length, get_or, Option, Some, None, refl, sym, ◌∙◌, ap, arith}
use Rattle.std.specs.Prelude.{MatchOption}
use Rattle.std.specs.Option.{unwrap_or}
use Rattle.std.specs.Str.{bytes_eq}
use Rattle.std.proofs.lemmas.List.{get_or_past, length-map}
use Rattle.cf_model.specs.Renumbering.{place}
use Rattle.cf_circuits.specs.declared.pins.Call.{Call}
use Rattle.cf_circuits.specs.declared.models.ModelDef.{ModelDef}
use Rattle.cf_circuits.specs.Links.{is_among, names_of, no_model, callee}
use Rattle.cf_links.specs.Directories.{IsPlace, model_at}

-- a name that isn't among names has their number as its place
lacks-place : (names : List (List ℕ)) (name : List ℕ) → is_among names name ≡ false → place bytes_eq names name ≡ length names
lacks-place [] name h = refl
lacks-place (other ∷ names) name h = by (bytes_eq other name) h (lacks-place names name)
  where
    by : (b : Bool) → (b || is_among names name) ≡ false → (is_among names name ≡ false → place bytes_eq names name ≡ length names)
        → cond b 0 (suc (place bytes_eq names name)) ≡ suc (length names)
    by true h rest = cc
    by false h rest = ap suc (rest h)

pub place-callee : (models : List ModelDef) (c : Call) (at : Option ℕ)
    → MatchOption at (is_among (names_of models) c.model ≡ false) (IsPlace models c.model) → model_at models at ≡ callee models c
place-callee models c None lacks =
    let past : place bytes_eq (names_of models) c.model ≡ length models = lacks-place (names_of models) c.model lacks ∙ length-map models (λ (m : ModelDef). m.name) in
    sym (get_or_past models (place bytes_eq (names_of models) c.model) no_model (omega (arith, past)))
place-callee models c (Some at) is = ap (λ n. get_or models n no_model) is.is_it

-- the place of a model, or the place behind all
pub place-or-end : (models : List ModelDef) (name : List ℕ) (at : Option ℕ) (end : ℕ) → end ≡ length models
    → MatchOption at (is_among (names_of models) name ≡ false) (IsPlace models name)
    → unwrap_or at end ≡ place bytes_eq (names_of models) name
place-or-end models name None end e lacks =
    e ∙ sym (length-map models (λ (m : ModelDef). m.name)) ∙ sym (lacks-place (names_of models) name lacks)
place-or-end models name (Some at) end e is = is.is_it
