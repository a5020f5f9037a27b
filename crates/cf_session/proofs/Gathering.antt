-- The arguments of a call one after the other.
use Rattle.std.proofs.Common.{ℕ, zero, suc, ◌≡◌, ◌+◌, ◌≤◌, max, false, List, [], ◌∷◌, ◌++◌, length, Option, Some, None, refl, ap, sym, subst, ◌∙◌, arith, append_assoc}
use Rattle.std.specs.Option.{option_or}
use Rattle.std.proofs.lemmas.List.{length-append}
use Rattle.cf_model.specs.FlatFunctions.{FlatFunction, IsFlatFunction}
use Rattle.cf_pkg.specs.declared.Func.{Func}
use Rattle.cf_pkg.specs.Packages.{Package, Keeps, meaning}
use Rattle.cf_reference.specs.declared.grammar.Head.{Head}
use Rattle.cf_reference.specs.Heads.{signature}
use Rattle.cf_reference.specs.declared.grammar.Kind.{Kind}
use Rattle.cf_reference.specs.Trees.{Tree, Call, Arguments, none, more, atom, Atom, count, depth, depths, IsFormed, AreFormed}
use Rattle.cf_reference.specs.States.{State}
use Rattle.cf_reference.specs.Calls.{Part, flat, Function, Position, Number, call, call_refusal}
use Rattle.cf_reference.specs.Expressions.{part, meant, meant_atom, walk, walks, walk_atom}
use Rattle.cf_reference.specs.Failures.{failure, first_failure, fold_step, over, over_arguments}
use Rattle.cf_reference.specs.Gives.{Gives, GivesTree}
use Rattle.cf_reference.proofs.ExpressionLaws.{part-Call, meant-none, meant-more, meant-atom}
use Rattle.cf_reference.proofs.FailureLaws.{over-Call, over_arguments-none, over_arguments-more, over_arguments-atom}
use Rattle.cf_reference.proofs.GivesLaws.{gives-let, gives-never}
use Rattle.cf_reference.proofs.WalkLaws.{walks-first, walks-later, walks-first-atom, walks-later-atom, walk-Call-rules}
use Rattle.cf_session.specs.declared.faults.StepFault.{StepFault}
use Rattle.cf_session.specs.declared.values.Value.{Value}
use Rattle.cf_session.specs.declared.values.Value.TheVariants as value
use Rattle.cf_session.specs.Arguments.{is_fold, from_place, IsOf, OfKinds}
use Rattle.cf_session.specs.Sessions.{Held, state_of}
use Rattle.cf_session.specs.Building.{Grows, Builds, IsFault, IsFaultOf}
use Rattle.cf_session.proofs.Growth.{grown_on}
use Rattle.cf_session.specs.Values.{meaning_of, meanings, IsOwned, AreOwned, IsOfKind, AreOf, steps_behind, call_parts, Calls}
use Rattle.cf_session.proofs.HeadFacts.{more_behind, or_none, parts_are, none_yet}
use Rattle.cf_session.proofs.Built.{fault_turned, or_nones, or_second, or_first}
use Rattle.cf_session.proofs.Shapes.{of-formed}
use Rattle.cf_session.proofs.WalkFacts.{from-end, append-none}

-- The arguments before a place have these values, and nothing but their steps overflows.
pub record Gathered (s : State) (head : Head) (all : Arguments) (p : Package) (args : List Value) (place : ℕ) : Type 0 where
  pub owned : AreOwned p args
  pub is_meant : meant s all ≡ meanings p args ++ meant s (from_place place all)
  pub placed : length args ≡ place
  pub overflow : over_arguments s head [] all
      ≡ option_or (first_failure (steps_behind head [] (meanings p args))) (over_arguments s head (meanings p args) (from_place place all))
  pub walked : walks s (from_place place all) ≡ None
  pub formed : AreFormed head place (from_place place all)

pub gathered-none : (s : State) (head : Head) (all : Arguments) (p : Package) (args : List Value) → args ≡ [] → walks s all ≡ None → AreFormed head 0 all
    → Gathered s head all p args 0
gathered-none s head all p args e walked formed =
    subst (λ (l : List Value). Gathered s head all p l 0) (sym e) (record { owned = tt; is_meant = refl; placed = refl; overflow = refl; walked = walked; formed = formed })

-- the same values under another name
pub gathered-as : (s : State) (head : Head) (all : Arguments) (p : Package) (args others : List Value) (place : ℕ) → others ≡ args → Gathered s head all p args place
    → Gathered s head all p others place
gathered-as s head all p args others place e h = subst (λ (l : List Value). Gathered s head all p l place) (sym e) h

-- values in a package that grows
value-kept : (p q : Package) (v : Value) → Keeps p q → IsOwned p v → (IsOwned q v) × (meaning_of q v ≡ meaning_of p v)
value-kept p q (value.Function f) k h =
    let kept = k.functions f h.0 in
    ((kept.owned, subst (λ (g : FlatFunction). IsFlatFunction g) (sym kept.is_it) h.1), ap Function kept.is_it)
value-kept p q (value.Position i) k h = (tt, refl)
value-kept p q (value.Number n) k h = (tt, refl)

values-kept : (p q : Package) (args : List Value) → Keeps p q → AreOwned p args → (AreOwned q args) × (meanings q args ≡ meanings p args)
values-kept p q [] k h = (tt, refl)
values-kept p q (v ∷ args) k h =
    let first = value-kept p q v k h.0 in
    let later = values-kept p q args k h.1 in
    ((first.0, later.0), ap (λ m. m ∷ meanings q args) first.1 ∙ ap (λ l. meaning_of p v ∷ l) later.1)

pub gathered-kept : (s : State) (head : Head) (all : Arguments) (p q : Package) (args : List Value) (place : ℕ) → Keeps p q → Gathered s head all p args place
    → Gathered s head all q args place
gathered-kept s head all p q args place k h =
    let kept = values-kept p q args k h.owned in
    record {
      owned = kept.0;
      is_meant = h.is_meant ∙ ap (λ l. l ++ meant s (from_place place all)) (sym kept.1);
      placed = h.placed;
      overflow = h.overflow ∙ ap (λ l. option_or (first_failure (steps_behind head [] l)) (over_arguments s head l (from_place place all))) (sym kept.1);
      walked = h.walked;
      formed = h.formed;
    }

-- one more value
meanings-push : (p : Package) (args : List Value) (v : Value) → meanings p (args ++ v ∷ []) ≡ meanings p args ++ meaning_of p v ∷ []
meanings-push p [] v = refl
meanings-push p (w ∷ args) v = ap (λ l. meaning_of p w ∷ l) (meanings-push p args v)

owned-push : (p : Package) (args : List Value) (v : Value) → AreOwned p args → IsOwned p v → AreOwned p (args ++ v ∷ [])
owned-push p [] v h k = (k, tt)
owned-push p (w ∷ args) v h k = (h.0, owned-push p args v h.1 k)

long-push : (args : List Value) (v : Value) (place : ℕ) → length args ≡ place → length (args ++ v ∷ []) ≡ suc place
long-push args v place e = omega (arith, e, length-append args (v ∷ []))

stepped : (s : State) (head : Head) (all : Arguments) (p : Package) (args now : List Value) (place : ℕ) (v : Value) → Gathered s head all p args place → now ≡ args ++ v ∷ [] → IsOwned p v
    → meant s (from_place place all) ≡ meaning_of p v ∷ meant s (from_place (suc place) all)
    → over_arguments s head (meanings p args) (from_place place all)
    ≡ option_or (first_failure (fold_step head (meanings p args))) (over_arguments s head (meanings p args ++ meaning_of p v ∷ []) (from_place (suc place) all))
    → walks s (from_place (suc place) all) ≡ None → AreFormed head (suc place) (from_place (suc place) all) → Gathered s head all p now (place + 1)
stepped s head all p args now place v h pushed owned is over walked formed =
    let one : suc place ≡ place + 1 = omega arith in
    let grown = meanings-push p args v in
    subst (λ (l : List Value). Gathered s head all p l (place + 1)) (sym pushed) (subst (Gathered s head all p (args ++ v ∷ [])) one
    (record {
      owned = owned-push p args v h.owned owned;
      is_meant = h.is_meant ∙ ap (λ l. meanings p args ++ l) is ∙ sym (append_assoc (meanings p args) (meaning_of p v ∷ []) (meant s (from_place (suc place) all)))
          ∙ ap (λ l. l ++ meant s (from_place (suc place) all)) (sym grown);
      placed = long-push args v place h.placed;
      overflow = h.overflow ∙ ap (option_or (first_failure (steps_behind head [] (meanings p args)))) over
          ∙ more_behind head (meanings p args) (meaning_of p v) (over_arguments s head (meanings p args ++ meaning_of p v ∷ []) (from_place (suc place) all))
          ∙ ap (λ l. option_or (first_failure (steps_behind head [] l)) (over_arguments s head l (from_place (suc place) all))) (sym grown);
      walked = walked;
      formed = formed;
    }))

pub gathered-function : (s : State) (head : Head) (all : Arguments) (p : Package) (args now : List Value) (place : ℕ) (e : Tree) (f : Func) → Gathered s head all p args place
    → from_place place all ≡ more e (from_place (suc place) all) → Builds s e p f → now ≡ args ++ value.Function f ∷ [] → Gathered s head all p now (place + 1)
gathered-function s head all p args now place e f h is b pushed =
    let later = from_place (suc place) all in
    let same : flat (part s e) ≡ meaning p f = sym (gives-let s e (meaning p f) b.gives) in
    stepped s head all p args now place (value.Function f) h pushed (b.owned, b.gives.flat)
    (ap (meant s) is ∙ meant-more s e later ∙ ap (λ g. Function g ∷ meant s later) same)
    (ap (over_arguments s head (meanings p args)) is ∙ over_arguments-more s head (meanings p args) e later
    ∙ ap (option_or (first_failure (fold_step head (meanings p args)))) (or_second (over s e) _ _ b.fits (ap (λ g. over_arguments s head (meanings p args ++ Function g ∷ []) later) same)))
    (walks-later s e later (sym (ap (walks s) is) ∙ h.walked))
    (subst (AreFormed head place) is h.formed).2

pub gathered-atom : (s : State) (head : Head) (all : Arguments) (p : Package) (args now : List Value) (place : ℕ) (a : Atom) (v : Value) → Gathered s head all p args place
    → from_place place all ≡ atom a (from_place (suc place) all) → IsOwned p v → meant_atom s a ≡ meaning_of p v → now ≡ args ++ v ∷ [] → Gathered s head all p now (place + 1)
gathered-atom s head all p args now place a v h is owned same pushed =
    let later = from_place (suc place) all in
    stepped s head all p args now place v h pushed owned
    (ap (meant s) is ∙ meant-atom s a later ∙ ap (λ m. m ∷ meant s later) same)
    (ap (over_arguments s head (meanings p args)) is ∙ over_arguments-atom s head (meanings p args) a later
    ∙ ap (λ m. option_or (first_failure (fold_step head (meanings p args))) (over_arguments s head (meanings p args ++ m ∷ []) later)) same)
    (walks-later-atom s a later (sym (ap (walks s) is) ∙ h.walked))
    (subst (AreFormed head place) is h.formed).1

-- what is known of the next argument
pub next-formed : (s : State) (head : Head) (all : Arguments) (p : Package) (args : List Value) (place : ℕ) (e : Tree) → Gathered s head all p args place
    → from_place place all ≡ more e (from_place (suc place) all) → IsFormed e
next-formed s head all p args place e h is = (subst (AreFormed head place) is h.formed).1

pub next-walked : (s : State) (head : Head) (all : Arguments) (p : Package) (args : List Value) (place : ℕ) (e : Tree) → Gathered s head all p args place
    → from_place place all ≡ more e (from_place (suc place) all) → walk s e ≡ None
next-walked s head all p args place e h is = walks-first s e (from_place (suc place) all) (sym (ap (walks s) is) ∙ h.walked)

pub next-placed : (s : State) (head : Head) (all : Arguments) (p : Package) (args : List Value) (place : ℕ) (a : Atom) → Gathered s head all p args place
    → from_place place all ≡ atom a (from_place (suc place) all) → walk_atom s a ≡ None
next-placed s head all p args place a h is = walks-first-atom s a (from_place (suc place) all) (sym (ap (walks s) is) ∙ h.walked)

left_of : (m n : ℕ) → m ≤ max m n
left_of m n = omega arith

abbrev first_or : Tree → Arguments → Tree
first_or t (more d es) = d
first_or t other = t

pub next-shallow : (all : Arguments) (place : ℕ) (e : Tree) → from_place place all ≡ more e (from_place (suc place) all) → depth e ≤ depths all
next-shallow all place e is = by all place (from_place (suc place) all) is
  where
    by : (es : Arguments) (i : ℕ) (later : Arguments) → from_place i es ≡ more e later → depth e ≤ depths es
    by none zero later h = cc
    by none (suc i) later h = cc
    by (more d es) zero later h = subst (λ (t : Tree). depth t ≤ max (depth d) (depths es)) (ap (first_or e) h) (left_of (depth d) (depths es))
    by (more d es) (suc i) later h = omega (arith, by es i later h)
    by (atom a es) zero later h = cc
    by (atom a es) (suc i) later h = by es i later h

long-meanings : (p : Package) (args : List Value) → length (meanings p args) ≡ length args
long-meanings p [] = refl
long-meanings p (v ∷ args) = ap suc (long-meanings p args)

-- the next argument overflows
pub next-fails : (s : State) (head : Head) (all : Arguments) (p : Package) (args : List Value) (place : ℕ) (e : Tree) → is_fold head ≡ false → Gathered s head all p args place
    → from_place place all ≡ more e (from_place (suc place) all) → (fault : StepFault) → IsFaultOf s e fault → IsFaultOf s (Call head all) fault
next-fails s head all p args place e one h is =
    let none = none_yet head one (meanings p args) place (long-meanings p args ∙ h.placed) (subst (AreFormed head place) is h.formed).0 in
    fault_turned (λ bits. over s e ≡ Some bits) (λ bits. over s (Call head all) ≡ Some bits)
    (λ bits o. over-Call s head all ∙ or_first (over_arguments s head [] all) (failure (part s (Call head all))) bits
    (h.overflow
    ∙ or_second (first_failure (steps_behind head [] (meanings p args))) _ (Some bits) none.0
    (ap (over_arguments s head (meanings p args)) is ∙ over_arguments-more s head (meanings p args) e (from_place (suc place) all)
    ∙ or_second (first_failure (fold_step head (meanings p args))) _ (Some bits) none.1 (or_first (over s e) _ bits o))))

-- no argument is left
pub gathered-all : (s : State) (head : Head) (all : Arguments) (p : Package) (args : List Value) (place : ℕ) → Gathered s head all p args place → place ≡ count all
    → (meant s all ≡ meanings p args) × (over_arguments s head [] all ≡ first_failure (steps_behind head [] (meanings p args)))
gathered-all s head all p args place h end =
    let past = ap (λ k. from_place k all) end ∙ from-end all in (
      h.is_meant ∙ ap (λ es. meanings p args ++ meant s es) past ∙ ap (λ l. meanings p args ++ l) (meant-none s) ∙ append-none (meanings p args),
      h.overflow
          ∙ ap (option_or (first_failure (steps_behind head [] (meanings p args)))) (ap (over_arguments s head (meanings p args)) past ∙ over_arguments-none s head (meanings p args))
          ∙ or_none (first_failure (steps_behind head [] (meanings p args))),
    )

of_kind : (p : Package) (kind : Kind) (v : Value) → IsOf kind (meaning_of p v) → IsOfKind kind v
of_kind p kind (value.Function f) h = by kind h
  where
    by : (k : Kind) → IsOf k (Function (meaning p f)) → IsOfKind k (value.Function f)
    by Kind.Expression h = tt
    by Kind.Variable h = absurd h
    by Kind.Natural h = absurd h
    by Kind.Number h = absurd h
    by Kind.Bit h = absurd h
of_kind p kind (value.Position i) h = by kind h
  where
    by : (k : Kind) → IsOf k (Position i) → IsOfKind k (value.Position i)
    by Kind.Expression h = absurd h
    by Kind.Variable h = tt
    by Kind.Natural h = absurd h
    by Kind.Number h = absurd h
    by Kind.Bit h = absurd h
of_kind p kind (value.Number n) h = by kind h
  where
    by : (k : Kind) → IsOf k (Number n) → IsOfKind k (value.Number n)
    by Kind.Expression h = absurd h
    by Kind.Variable h = absurd h
    by Kind.Natural h = tt
    by Kind.Number h = tt
    by Kind.Bit h = tt

pub of_kinds : (p : Package) (kinds : List Kind) (further : Option Kind) (args : List Value) → OfKinds kinds further (meanings p args) → AreOf kinds further args
of_kinds p [] None [] h = tt
of_kinds p [] None (v ∷ args) h = absurd h
of_kinds p [] (Some kind) [] h = tt
of_kinds p [] (Some kind) (v ∷ args) h = (of_kind p kind v h.0, of_kinds p [] (Some kind) args h.1)
of_kinds p (kind ∷ kinds) further [] h = absurd h
of_kinds p (kind ∷ kinds) further (v ∷ args) h = (of_kind p kind v h.0, of_kinds p kinds further args h.1)

pub all-of : (s : State) (head : Head) (all : Arguments) (p : Package) (args : List Value) (place : ℕ) → Gathered s head all p args place → place ≡ count all → IsFormed (Call head all)
    → AreOf (signature head).first (signature head).further args
all-of s head all p args place h end formed =
    of_kinds p (signature head).first (signature head).further args
    (subst (OfKinds (signature head).first (signature head).further) (gathered-all s head all p args place h end).0 (of-formed s head all formed.0 formed.1))

pub all-ruled : (s : State) (head : Head) (all : Arguments) (p : Package) (args : List Value) (place : ℕ) → Gathered s head all p args place → place ≡ count all → walk s (Call head all) ≡ None
    → call_refusal head (meanings p args) ≡ None
all-ruled s head all p args place h end walked =
    ap (call_refusal head) (sym (gathered-all s head all p args place h end).0) ∙ walk-Call-rules s head all walked

part-is : (s : State) (head : Head) (all : Arguments) (p : Package) (args : List Value) (place : ℕ) → Gathered s head all p args place → place ≡ count all
    → part s (Call head all) ≡ call head (meanings p args)
part-is s head all p args place h end = part-Call s head all ∙ ap (call head) (gathered-all s head all p args place h end).0

pub call-built : (s : State) (head : Head) (all : Arguments) (p q : Package) (args : List Value) (place : ℕ) (f : Func) → Gathered s head all p args place → place ≡ count all
    → Calls head (meanings p args) q f → Builds s (Call head all) q f
call-built s head all p q args place f h end c =
    let is = part-is s head all p args place h end in
    let gives : GivesTree s (Call head all) (meaning q f) = subst (λ (part : Part). Gives part (meaning q f)) (sym is) c.gives in
    record {
      owned = c.owned;
      gives = gives;
      fits = over-Call s head all
          ∙ or_nones (over_arguments s head [] all) (failure (part s (Call head all))) ((gathered-all s head all p args place h end).1 ∙ c.fits) (gives-never (part s (Call head all)) (meaning q f) gives);
    }

pub call-fails : (s : State) (head : Head) (all : Arguments) (p : Package) (args : List Value) (place : ℕ) → Gathered s head all p args place → place ≡ count all
    → (fault : StepFault) → IsFault (λ bits. first_failure (call_parts head (meanings p args)) ≡ Some bits) fault → IsFaultOf s (Call head all) fault
call-fails s head all p args place h end =
    fault_turned (λ bits. first_failure (call_parts head (meanings p args)) ≡ Some bits) (λ bits. over s (Call head all) ≡ Some bits)
    (λ bits o. over-Call s head all
    ∙ ap (λ x. option_or x (failure (part s (Call head all)))) (gathered-all s head all p args place h end).1
    ∙ ap (λ (x : Part). option_or (first_failure (steps_behind head [] (meanings p args))) (failure x)) (part-is s head all p args place h end)
    ∙ sym (parts_are head (meanings p args)) ∙ o)

-- A session after one more argument.
pub next-one : (s : State) (head : Head) (all : Arguments) (start before after now : Held) (args pushed : List Value) (place : ℕ) (e : Tree) (f : Func) (v : Value)
    → Gathered s head all before.pkg args place → from_place place all ≡ more e (from_place (suc place) all) → state_of before ≡ s → Grows start before → Grows before after
    → Builds (state_of before) e after.pkg f → now ≡ after → pushed ≡ args ++ v ∷ [] → v ≡ value.Function f → Gathered s head all now.pkg pushed (place + 1) × Grows start now
next-one s head all start before after now args pushed place e f v h is same grown grows b here push it =
    subst (λ (x : Held). Gathered s head all x.pkg pushed (place + 1) × Grows start x) (sym here) (
      gathered-function s head all after.pkg args pushed place e f (gathered-kept s head all before.pkg after.pkg args place grows.functions h) is
          (subst (λ (u : State). Builds u e after.pkg f) same b) (push ∙ ap (λ x. args ++ x ∷ []) it),
      grown_on start before after grown grows,
    )

pub next-atom : (s : State) (head : Head) (all : Arguments) (start before now : Held) (args pushed : List Value) (place : ℕ) (a : Atom) (v u : Value)
    → Gathered s head all before.pkg args place → from_place place all ≡ atom a (from_place (suc place) all) → IsOwned before.pkg u → meant_atom s a ≡ meaning_of before.pkg u → Grows start before
    → now ≡ before → pushed ≡ args ++ v ∷ [] → v ≡ u → Gathered s head all now.pkg pushed (place + 1) × Grows start now
next-atom s head all start before now args pushed place a v u h is owned means grown here push it =
    subst (λ (x : Held). Gathered s head all x.pkg pushed (place + 1) × Grows start x) (sym here)
    (gathered-atom s head all before.pkg args pushed place a u h is owned means (push ∙ ap (λ x. args ++ x ∷ []) it), grown)
