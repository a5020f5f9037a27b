-- A session whose package grows.
use Rattle.std.proofs.Common.{ℕ, ◌≡◌, ◌≤◌, List, [], ◌∷◌, ◌++◌, map, refl, ap, subst, ◌∙◌}
use Rattle.std.specs.Prelude.{All}
use Rattle.std.proofs.lemmas.List.Elements.{All-cons, All-head, All-tail, All-nil}
use Rattle.cf_model.specs.FlatFunctions.{FlatFunction, IsFlatFunction, variable}
use Rattle.cf_model.specs.Diagrams.{IsGood}
use Rattle.cf_model.specs.Functions.{IsFunction}
use Rattle.cf_model.proofs.FunctionLaws.{function_flat}
use Rattle.cf_reference.specs.States.{level_in, repeats}
use Rattle.cf_pkg.specs.declared.Func.{Func}
use Rattle.cf_pkg.specs.Packages.{Package, OwnsFunction, Means, Keeps, meaning, values_of}
use Rattle.cf_pkg.proofs.Valued.{Keeps-same, Keeps-trans}
use Rattle.cf_session.specs.Sessions.{Held, Names, names_of, IsHeld, state_of}
use Rattle.cf_session.specs.Building.{Grows}

-- the session with another package
abbrev pub with_package : Held → Package → Held
with_package h q = record { pkg = q; level = h.level; variables = h.variables; functions = h.functions }

-- names with their functions, as a state has them
abbrev pub bindings : Package → Names → List (List ℕ × FlatFunction)
bindings p bound = map (λ b. (b.0, meaning p b.1)) bound

pub same_bindings : (p q : Package) (bound : Names) → All (λ b. OwnsFunction p b.1) bound → Keeps p q
    → bindings q bound ≡ bindings p bound
same_bindings p q [] owned k = refl
same_bindings p q (b ∷ later) owned k =
    let here : meaning q b.1 ≡ meaning p b.1 = (k.functions b.1 (All-head (λ b. OwnsFunction p b.1) b later owned)).is_it in
    ap (λ (f : FlatFunction). (b.0, f) ∷ bindings q later) here
    ∙ ap (λ (bs : List (List ℕ × FlatFunction)). (b.0, meaning p b.1) ∷ bs) (same_bindings p q later (All-tail (λ b. OwnsFunction p b.1) b later owned) k)

pub all_owned : (p q : Package) (bound : Names) → All (λ b. OwnsFunction p b.1) bound → Keeps p q
    → All (λ b. OwnsFunction q b.1) bound
all_owned p q [] owned k = All-nil _
all_owned p q (b ∷ later) owned k =
    All-cons (λ b. OwnsFunction q b.1) b later (k.functions b.1 (All-head (λ b. OwnsFunction p b.1) b later owned)).owned
    (all_owned p q later (All-tail (λ b. OwnsFunction p b.1) b later owned) k)

pub means_kept : (p q : Package) (f : Func) (flat : FlatFunction) → Keeps p q → Means p f flat → Means q f flat
means_kept p q f flat k m =
    let kept = k.functions f m.owned in record { owned = kept.owned; is_it = kept.is_it ∙ m.is_it }

pub held : (h : Held) (q : Package) → IsHeld h → Keeps h.pkg q → IsHeld (with_package h q)
held h q holds k = record {
  low = holds.low;
  unset = holds.unset;
  room = holds.room;
  positions = λ i b e. means_kept h.pkg q b.1 (variable (level_in (state_of h)) i) k (holds.positions i b e);
  owned = all_owned h.pkg q h.functions holds.owned k;
  differ =
      ap (λ (bs : List (List ℕ × FlatFunction)). repeats (names_of h.variables ++ map (λ b. b.0) bs)) (same_bindings h.pkg q h.functions holds.owned k)
      ∙ holds.differ;
}

pub grown : (h : Held) (q : Package) → IsHeld h → Keeps h.pkg q → Grows h (with_package h q)
grown h q holds k = record {
  names = record { level = refl; variables = refl; functions = refl };
  functions = k;
  state = ap (λ (bs : List (List ℕ × FlatFunction)). record (state_of h) { functions = bs }) (same_bindings h.pkg q h.functions holds.owned k);
}

-- the same of a session that is seen from its parts
pub grown_from : (h s : Held) (q : Package) → h ≡ s → IsHeld h → Keeps h.pkg q → Grows s (with_package h q)
grown_from h s q e holds k = subst (λ (t : Held). Grows t (with_package h q)) e (grown h q holds k)

pub grown_same : (h : Held) → Grows h h
grown_same h = record { names = record { level = refl; variables = refl; functions = refl }; functions = Keeps-same h.pkg; state = refl }

pub grown_on : (h k l : Held) → Grows h k → Grows k l → Grows h l
grown_on h k l a b = record {
  names = record {
    level = b.names.level ∙ a.names.level;
    variables = b.names.variables ∙ a.names.variables;
    functions = b.names.functions ∙ a.names.functions;
  };
  functions = Keeps-trans h.pkg k.pkg l.pkg a.functions b.functions;
  state = b.state ∙ a.state;
}

-- what an owned function means is a flat function
pub flat : (p : Package) (f : Func) → IsGood p.groupings.levels → f.head.level ≤ 7
    → IsFunction p.groupings.levels f.head.level f.head.at (values_of p f) → IsFlatFunction (meaning p f)
flat p f good low is = function_flat p.groupings.levels good f.head.level f.head.at (values_of p f) low is
