-- What the names of a session stand for.
use Rattle.std.proofs.Common.{ℕ, suc, ◌≡◌, Bool, true, false, cond, ◌||◌, List, [], ◌∷◌, map, refl, sym, ◌∙◌, ap, Option, Some, None, IsNone, IfSome, ◌↔◌, subst}
use Rattle.std.specs.Prelude.{All, slice_get}
use Rattle.std.specs.Option.{option_map, option_or}
use Rattle.std.specs.Str.{bytes_eq}
use Rattle.std.proofs.lemmas.Bool.{false≢true}
use Rattle.std.proofs.lemmas.Option.{same_Some, none-some}
use Rattle.std.proofs.lemmas.List.Elements.{All-head, All-tail}
use Rattle.cf_model.specs.Renumbering.{place}
use Rattle.cf_model.specs.FlatFunctions.{FlatFunction, variable}
use Rattle.cf_pkg.specs.declared.Func.{Func}
use Rattle.cf_pkg.specs.Packages.{Package, OwnsFunction, meaning}
use Rattle.cf_reference.specs.States.{is_among, function_named, level_in, named}
use Rattle.cf_session.specs.Sessions.{Names, names_of, Held, IsHeld, state_of, StandsFor}
use Rattle.cf_session.specs.Bindings.{bound_to}
use Rattle.cf_session.proofs.NameFacts.{flipped}

-- a bound name stands at its place, with its function
placed : (bound : Names) (name : List ℕ) (f : Func) → bound_to bound name ≡ Some f
    → (is_among (names_of bound) name ≡ true)
    × ((other : List ℕ) × (slice_get bound (place bytes_eq (names_of bound) name) ≡ Some (other, f)))
placed [] name f e = absurd (none-some f e)
placed (b ∷ later) name f e = by (bytes_eq b.0 name) (ap (λ t. cond t (Some b.1) (bound_to later name)) (flipped b.0 name) ∙ e) (placed later name f)
  where
    by : (t : Bool) → cond t (Some b.1) (bound_to later name) ≡ Some f
        → (bound_to later name ≡ Some f
        → (is_among (names_of later) name ≡ true)
        × ((other : List ℕ) × (slice_get later (place bytes_eq (names_of later) name) ≡ Some (other, f))))
        → (t || is_among (names_of later) name ≡ true)
        × ((other : List ℕ) × (slice_get (b ∷ later) (cond t 0 (suc (place bytes_eq (names_of later) name))) ≡ Some (other, f)))
    by true e rest = (refl, (b.0, ap (λ g. Some (b.0, g)) (same_Some b.1 f e)))
    by false e rest = rest e

unplaced : (bound : Names) (name : List ℕ) → bound_to bound name ≡ None → is_among (names_of bound) name ≡ false
unplaced [] name e = refl
unplaced (b ∷ later) name e = by (bytes_eq b.0 name) (ap (λ t. cond t (Some b.1) (bound_to later name)) (flipped b.0 name) ∙ e) (unplaced later name)
  where
    by : (t : Bool) → cond t (Some b.1) (bound_to later name) ≡ None
        → (bound_to later name ≡ None → is_among (names_of later) name ≡ false)
        → t || is_among (names_of later) name ≡ false
    by true e rest = absurd (none-some b.1 (sym e))
    by false e rest = rest e

named_in : (p : Package) (bound : Names) (name : List ℕ)
    → function_named (map (λ b. (b.0, meaning p b.1)) bound) name ≡ option_map (meaning p) (bound_to bound name)
named_in p [] name = refl
named_in p (b ∷ later) name = by (bytes_eq name b.0) (named_in p later name)
  where
    by : (t : Bool)
        → function_named (map (λ b. (b.0, meaning p b.1)) later) name ≡ option_map (meaning p) (bound_to later name)
        → cond t (Some (meaning p b.1)) (function_named (map (λ b. (b.0, meaning p b.1)) later) name)
        ≡ option_map (meaning p) (cond t (Some b.1) (bound_to later name))
    by true rest = refl
    by false rest = rest

pub bound-owned : (p : Package) (bound : Names) (name : List ℕ) (f : Func) → All (λ b. OwnsFunction p b.1) bound
    → bound_to bound name ≡ Some f → OwnsFunction p f
bound-owned p [] name f h e = absurd (none-some f e)
bound-owned p (b ∷ later) name f h e =
    by (bytes_eq name b.0) e (bound-owned p later name f (All-tail (λ b. OwnsFunction p b.1) b later h))
  where
    by : (t : Bool) → cond t (Some b.1) (bound_to later name) ≡ Some f → (bound_to later name ≡ Some f → OwnsFunction p f)
        → OwnsFunction p f
    by true e rest =
        subst (λ g. OwnsFunction p g) (same_Some b.1 f e) (All-head (λ b. OwnsFunction p b.1) b later h)
    by false e rest = rest e

pub named-variable : (h : Held) → IsHeld h → (name : List ℕ) (f : Func) → bound_to h.variables name ≡ Some f
    → StandsFor h name f
named-variable h held name f e =
    let there = placed h.variables name f e in
    let at = place bytes_eq (names_of h.variables) name in
    let means = held.positions at (there.1.0, f) there.1.1 in
    record {
      owned = means.owned;
      means =
          ap (λ t. option_or (option_map (variable (level_in (state_of h))) (cond t (Some at) None)) (function_named (state_of h).functions name)) there.0
          ∙ ap Some (sym means.is_it);
    }

pub named-other : (h : Held) (name : List ℕ) → bound_to h.variables name ≡ None
    → named (state_of h) name ≡ option_map (meaning h.pkg) (bound_to h.functions name)
named-other h name e =
    ap (λ t. option_or (option_map (variable (level_in (state_of h))) (cond t (Some (place bytes_eq (names_of h.variables) name)) None)) (function_named (state_of h).functions name)) (unplaced h.variables name e)
    ∙ named_in h.pkg h.functions name

pub named-function : (h : Held) → IsHeld h → (name : List ℕ) (f : Func) → bound_to h.variables name ≡ None
    → bound_to h.functions name ≡ Some f → StandsFor h name f
named-function h held name f free e =
    record {
      owned = bound-owned h.pkg h.functions name f held.owned e;
      means = named-other h name free ∙ ap (option_map (meaning h.pkg)) e;
    }

pub named-nothing : (h : Held) (name : List ℕ) → bound_to h.variables name ≡ None → bound_to h.functions name ≡ None
    → named (state_of h) name ≡ None
named-nothing h name free e = named-other h name free ∙ ap (option_map (meaning h.pkg)) e

-- what is found among the functions, where the name is no variable's
pub stands-owned : (h : Held) → IsHeld h → (name : List ℕ) (o : Option Func) → bound_to h.variables name ≡ None
    → bound_to h.functions name ≡ o → IfSome o (λ f. OwnsFunction h.pkg f)
stands-owned h held name None free e = tt
stands-owned h held name (Some f) free e = (named-function h held name f free e).owned

pub stands-means : (h : Held) → IsHeld h → (name : List ℕ) (o : Option Func) → bound_to h.variables name ≡ None
    → bound_to h.functions name ≡ o → IfSome o (λ f. named (state_of h) name ≡ Some (meaning h.pkg f))
stands-means h held name None free e = tt
stands-means h held name (Some f) free e = (named-function h held name f free e).means

pub some-named : (o : Option FlatFunction) (f : FlatFunction) → o ≡ Some f
    → (true ≡ false → IsNone o) × (IsNone o → true ≡ false)
some-named None f e = absurd (none-some f e)
some-named (Some g) f e = (λ t. absurd (false≢true (sym t)), λ n. n)

pub stands-none : (h : Held) (name : List ℕ) (o : Option Func) → bound_to h.variables name ≡ None
    → bound_to h.functions name ≡ o → IsNone o ↔ IsNone (named (state_of h) name)
stands-none h name None free e =
    (λ n. subst (λ o. IsNone o) (sym (named-nothing h name free e)) refl, λ n. refl)
stands-none h name (Some f) free e =
    let means = named-other h name free ∙ ap (option_map (meaning h.pkg)) e in
    (λ n. absurd (false≢true (sym n)), λ n. subst (λ o. IsNone o) means n)
