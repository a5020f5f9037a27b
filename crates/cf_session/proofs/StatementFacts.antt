-- The statements that change a session.
use Rattle.std.proofs.Common.{ℕ, ℤ, suc, ◌≡◌, ◌≤◌, ◌<◌, ◌+◌, ◌^◌, Bool, true, false, cond, List, [], ◌∷◌, ◌++◌, map, length, refl, sym, ◌∙◌, ap, arith, subst, Option, Some, None, ◌⊎◌, inl, inr}
use Rattle.std.specs.Prelude.{All, slice_get, slice_index_or as get_or, take, is_some, nat_abs, nat_le, IsSome, ◌||◌}
use Rattle.std.specs.List.{list_any}
use Rattle.std.specs.Option.{option_map, option_or}
use Rattle.std.specs.Str.{bytes_eq}
use Rattle.std.proofs.lemmas.Bool.{false≢true}
use Rattle.std.proofs.lemmas.Bool.Decides.{nat_tests}
use Rattle.std.proofs.lemmas.Option.{same_Some, none-some, slice_get_within, slice_get_cases, get_or_from_slice_get}
use Rattle.std.proofs.lemmas.List.{length-append, length-take-le}
use Rattle.std.proofs.Math.Pow.{pow_mono}
use Rattle.std.specs.Borrow.{Bor}
use Rattle.std.proofs.lemmas.List.Elements.{All-cons, All-head, All-tail, All-nil}
use Rattle.std.proofs.Math.Seq.{take-suc}
use Rattle.cf_model.specs.Renumbering.{place}
use Rattle.cf_model.specs.FlatFunctions.{FlatFunction, variable}
use Rattle.cf_model.proofs.CanonLaws.{get_left, get_last}
use Rattle.cf_pkg.specs.declared.Func.{Func}
use Rattle.cf_pkg.specs.Packages.{Package, OwnsFunction, Means, Keeps, meaning}
use Rattle.cf_pkg.proofs.Valued.{Keeps-same, Keeps-trans}
use Rattle.cf_reference.specs.Reasons.{LevelAgain, BadLevel, Taken, TooManyVariables}
use Rattle.cf_reference.specs.States.{State, level_in, is_below, is_among, is_bound, position_of, function_named, named, repeats, names_in}
use Rattle.cf_reference.specs.States as states
use Rattle.cf_reference.specs.Carrying.{Refuses, Goes, clashes, have_room, set_level, declare}
use Rattle.cf_reference.proofs.NameLaws.{differ-let, differ-vars}
use Rattle.cf_reference.proofs.StepLaws.{step-Level, step-Level-bad, step-Level-again, step-Vars, step-Vars-taken, step-Vars-many}
use Rattle.cf_session.specs.Sessions.{Held, Names, names_of, IsHeld, state_of}
use Rattle.cf_session.specs.Bindings.{bind}
use Rattle.cf_session.specs.Statements.{bytes_of, ArePositions}
use Rattle.cf_session.proofs.NameFacts.{flipped, length-push}
use Rattle.cf_session.proofs.WalkFacts.{none-is}
use Rattle.cf_session.proofs.Growth.{with_package, held, grown}
use Rattle.cf_session.proofs.ListFacts.{length-bytes, any-append, none-at, none-weaker, repeats-none}

pub some-is : {A : Type 0} (o : Option A) → is_some o ≡ true → (x : A) × (o ≡ Some x)
some-is None e = absurd (false≢true e)
some-is (Some x) e = (x, refl)

-- `level`
pub level-again : (h : Held) (n : ℤ) → is_some h.level ≡ true → set_level (state_of h) n ≡ Refuses LevelAgain
level-again h n e = let set = some-is h.level e in step-Level-again (state_of h) set.0 n set.1

pub level-bad : (h : Held) (n : ℤ) → is_some h.level ≡ false → is_below n 8 ≡ false
    → set_level (state_of h) n ≡ Refuses BadLevel
level-bad h n e high = step-Level-bad (state_of h) n (none-is h.level e) high

pub level-goes : (h : Held) (n : ℤ) (l : ℕ) → is_some h.level ≡ false → is_below n 8 ≡ true → nat_abs n ≡ l
    → set_level (state_of h) n
    ≡ Goes (state_of (record { pkg = h.pkg; level = Some l; variables = h.variables; functions = h.functions })) []
level-goes h n l e fits is =
    step-Level (state_of h) n (none-is h.level e) fits
    ∙ ap (λ k. Goes (state_of (record { pkg = h.pkg; level = Some k; variables = h.variables; functions = h.functions })) []) is

-- a function that a name is bound to
pub bind_owned : (p : Package) (bound : Names) (name : List ℕ) (f : Func) → All (λ b. OwnsFunction p b.1) bound
    → OwnsFunction p f → All (λ b. OwnsFunction p b.1) (bind bound name f)
bind_owned p [] name f all owned = All-cons (λ b. OwnsFunction p b.1) (name, f) [] owned (All-nil _)
bind_owned p (b ∷ later) name f all owned =
    by (bytes_eq name b.0) (bind_owned p later name f (All-tail (λ b. OwnsFunction p b.1) b later all) owned)
  where
    by : (t : Bool) → All (λ b. OwnsFunction p b.1) (bind later name f)
        → All (λ b. OwnsFunction p b.1) (cond t ((b.0, f) ∷ later) (b ∷ bind later name f))
    by true rest =
        All-cons (λ b. OwnsFunction p b.1) (b.0, f) later owned (All-tail (λ b. OwnsFunction p b.1) b later all)
    by false rest =
        All-cons (λ b. OwnsFunction p b.1) b (bind later name f) (All-head (λ b. OwnsFunction p b.1) b later all) rest

pub bind_flat : (p : Package) (bound : Names) (name : List ℕ) (f : Func)
    → map (λ b. (b.0, meaning p b.1)) (bind bound name f)
    ≡ states.bind (map (λ b. (b.0, meaning p b.1)) bound) name (meaning p f)
bind_flat p [] name f = refl
bind_flat p (b ∷ later) name f = by (bytes_eq name b.0) (bind_flat p later name f)
  where
    by : (t : Bool)
        → map (λ b. (b.0, meaning p b.1)) (bind later name f)
        ≡ states.bind (map (λ b. (b.0, meaning p b.1)) later) name (meaning p f)
        → map (λ b. (b.0, meaning p b.1)) (cond t ((b.0, f) ∷ later) (b ∷ bind later name f))
        ≡ cond t ((b.0, meaning p f) ∷ map (λ b. (b.0, meaning p b.1)) later) ((b.0, meaning p b.1) ∷ states.bind (map (λ b. (b.0, meaning p b.1)) later) name (meaning p f))
    by true rest = refl
    by false rest = ap (λ (bs : List (List ℕ × FlatFunction)). (b.0, meaning p b.1) ∷ bs) rest

pub held-functions : (h : Held) (now : Names) (name : List ℕ) (f : Func) → IsHeld h → IsSome h.level
    → OwnsFunction h.pkg f → is_among (names_of h.variables) name ≡ false → now ≡ bind h.functions name f
    → IsHeld (record { pkg = h.pkg; level = h.level; variables = h.variables; functions = now })
held-functions h now name f holds set owned free is = record {
  low = holds.low;
  unset = λ e. absurd (let some = some-is h.level set in none-some some.0 (sym e ∙ some.1));
  room = holds.room;
  positions = holds.positions;
  owned = subst (λ fs. All (λ b. OwnsFunction h.pkg b.1) fs) (sym is) (bind_owned h.pkg h.functions name f holds.owned owned);
  differ =
      ap (λ bs. repeats (names_of h.variables ++ map (λ (b : List ℕ × FlatFunction). b.0) (map (λ b. (b.0, meaning h.pkg b.1)) bs))) is
      ∙ ap (λ bs. repeats (names_of h.variables ++ map (λ (b : List ℕ × FlatFunction). b.0) bs)) (bind_flat h.pkg h.functions name f)
      ∙ differ-let (state_of h) name (meaning h.pkg f) holds.differ free;
}

pub held-again : (h : Held) (now : Names) → IsHeld h → now ≡ h.functions
    → IsHeld (record { pkg = h.pkg; level = h.level; variables = h.variables; functions = now })
held-again h now holds is =
    subst (λ fs. IsHeld (record { pkg = h.pkg; level = h.level; variables = h.variables; functions = fs })) (sym is) holds

pub flat-bind : (h s : Held) (now : Names) (name : List ℕ) (f : Func) → h ≡ s → now ≡ bind h.functions name f
    → map (λ b. (b.0, meaning h.pkg b.1)) now ≡ states.bind (state_of s).functions name (meaning s.pkg f)
flat-bind h s now name f same is =
    ap (λ bs. map (λ b. (b.0, meaning h.pkg b.1)) bs) is ∙ bind_flat h.pkg h.functions name f
    ∙ ap (λ (t : Held). states.bind (state_of t).functions name (meaning t.pkg f)) same

-- A name that is new comes to the end.
pub bind-new : (bound : Names) (name : List ℕ) (f : Func) → is_among (names_of bound) name ≡ false
    → bind bound name f ≡ bound ++ (name, f) ∷ []
bind-new [] name f free = refl
bind-new (b ∷ later) name f free = by (bytes_eq name b.0) (ap (λ t. t || is_among (names_of later) name) (flipped name b.0) ∙ free) (bind-new later name f)
  where
    by : (t : Bool) → t || is_among (names_of later) name ≡ false
        → (is_among (names_of later) name ≡ false → bind later name f ≡ later ++ (name, f) ∷ [])
        → cond t ((b.0, f) ∷ later) (b ∷ bind later name f) ≡ b ∷ (later ++ (name, f) ∷ [])
    by true free rest = absurd (false≢true (sym free))
    by false free rest = ap (λ bs. b ∷ bs) (rest free)

pub names_push : (bound : Names) (name : List ℕ) (f : Func)
    → names_of (bound ++ (name, f) ∷ []) ≡ names_of bound ++ name ∷ []
names_push [] name f = refl
names_push (b ∷ later) name f = ap (λ ns. b.0 ∷ ns) (names_push later name f)

pub count-names : (bound : Names) → length (names_of bound) ≡ length bound
count-names [] = refl
count-names (b ∷ later) = ap suc (count-names later)

-- Some names were added as variables.
pub record HasAdded (before now : Package) (level : ℕ) (old new : Names) (added : List (List ℕ)) : Type 0 where
  pub names : names_of new ≡ names_of old ++ added
  pub positions : ArePositions now level new
  pub kept : Keeps before now

-- how many there are then
pub count-added : (level : ℕ) (old new : Names) (names : List (Bor (List ℕ))) (i : ℕ) → level ≤ 7
    → length old + length names ≤ 2 ^ level → i < length names
    → names_of new ≡ names_of old ++ take i (bytes_of names) → length new < 2 ^ 7
count-added level old new names i low room inside e =
    let count = sym (count-names new) ∙ ap length e ∙ length-append (names_of old) (take i (bytes_of names)) in
    let before = count-names old in
    let most = pow_mono {i = level} {j = 7} low in
    let all = length-bytes names in
    let taken = length-take-le i (bytes_of names) (omega (arith, all, inside)) in
    omega (arith, count, before, taken, most, all, room, inside)

pub none-added : (p : Package) (level : ℕ) (old : Names) → ArePositions p level old → HasAdded p p level old old []
none-added p level old h = record { names = sym (append_nil (names_of old)); positions = h; kept = Keeps-same p }
  where
    append_nil : (xs : List (List ℕ)) → xs ++ [] ≡ xs
    append_nil [] = refl
    append_nil (x ∷ xs) = ap (λ ys. x ∷ ys) (append_nil xs)

append_one : (xs ys : List (List ℕ)) (x : List ℕ) → (xs ++ ys) ++ x ∷ [] ≡ xs ++ (ys ++ x ∷ [])
append_one [] ys x = refl
append_one (y ∷ xs) ys x = ap (λ zs. y ∷ zs) (append_one xs ys x)

is_new : (old : Names) (new : Names) (names : List (List ℕ)) (i : ℕ) (name : List ℕ)
    → names_of new ≡ names_of old ++ take i names → slice_get names i ≡ Some name
    → list_any (is_among (names_of old)) names ≡ false → repeats names ≡ false → is_among (names_of new) name ≡ false
is_new old new names i name e h free once =
    ap (λ ns. is_among ns name) e ∙ any-append (λ other. bytes_eq other name) (names_of old) (take i names)
    ∙ ap (λ b. b || is_among (take i names) name) (none-at (is_among (names_of old)) names i name h free)
    ∙ repeats-none names i name h once

pub positions_push : (p q : Package) (level : ℕ) (bound : Names) (name : List ℕ) (f : Func) → ArePositions p level bound
    → Keeps p q → Means q f (variable level (length bound)) → ArePositions q level (bound ++ (name, f) ∷ [])
positions_push p q level bound name f h k m i b e = by (slice_get_cases bound i).1
  where
    by : ((x : List ℕ × Func) × (i < length bound) × (slice_get bound i ≡ Some x) × (get_or bound i x ≡ x)) ⊎ ((length bound ≤ i) × (slice_get bound i ≡ None))
        → Means q b.1 (variable level i)
    by (inl there) =
        let means = h i b (sym (get_left bound (name, f) i there.1) ∙ e) in
        let kept = k.functions b.1 means.owned in
        record { owned = kept.owned; is_it = kept.is_it ∙ means.is_it }
    by (inr past) =
        let within = slice_get_within (bound ++ (name, f) ∷ []) i b e in
        let count = length-push bound (name, f) in
        let last : i ≡ length bound = omega (arith, within, count, past.0) in
        let there = sym (get_last bound (name, f) i last) ∙ e in
        let is : f ≡ b.1 = ap (λ (p : List ℕ × Func). p.1) (same_Some (name, f) b there) in
        subst (λ g. Means q g (variable level i)) is (subst (λ n. Means q f (variable level n)) (sym last) m)

pub more-added : (before p q : Package) (level : ℕ) (old new : Names) (names : List (List ℕ)) (i : ℕ) (name : List ℕ) (f : Func)
    → HasAdded before p level old new (take i names) → slice_get names i ≡ Some name
    → list_any (is_among (names_of old)) names ≡ false → repeats names ≡ false
    → Keeps p q → Means q f (variable level (length new))
    → HasAdded before q level old (bind new name f) (take (i + 1) names)
more-added before p q level old new names i name f h get free once k m =
    let one : suc i ≡ i + 1 = omega arith in
    let fresh = bind-new new name f (is_new old new names i name h.names get free once) in
    record {
      names =
          ap names_of fresh ∙ names_push new name f ∙ ap (λ ns. ns ++ name ∷ []) h.names
          ∙ append_one (names_of old) (take i names) name
          ∙ ap (λ x. names_of old ++ (take i names ++ x ∷ [])) (sym (get_or_from_slice_get names i name name get))
          ∙ ap (λ ns. names_of old ++ ns) (sym (take-suc names i name (slice_get_within names i name get)))
          ∙ ap (λ n. names_of old ++ take n names) one;
      positions = subst (λ bound. ArePositions q level bound) (sym fresh) (positions_push p q level new name f h.positions k m);
      kept = Keeps-trans before p q h.kept k;
    }

-- the names that are declared, and what a session with them is
pub free-names : (h : Held) (names : List (List ℕ)) → list_any (is_bound (state_of h)) names ≡ false
    → list_any (is_among (names_of h.variables)) names ≡ false
free-names h names none =
    none-weaker (is_bound (state_of h)) (is_among (names_of h.variables)) names (λ name e. by name (is_among (names_of h.variables) name) refl e) none
  where
    by : (name : List ℕ) (t : Bool) → is_among (names_of h.variables) name ≡ t → is_bound (state_of h) name ≡ false
        → is_among (names_of h.variables) name ≡ false
    by name true e bound =
        absurd (false≢true (sym bound ∙ ap (λ t. is_some (option_or (option_map (variable (level_in (state_of h))) (cond t (Some (place bytes_eq (names_of h.variables) name)) None)) (function_named (state_of h).functions name))) e))
    by name false e bound = e

pub no_clash : (s : State) (names : List (List ℕ)) → clashes s names ≡ false
    → (list_any (is_bound s) names ≡ false) × (repeats names ≡ false)
no_clash s names e = by (list_any (is_bound s) names) (repeats names) refl refl e
  where
    by : (a b : Bool) → list_any (is_bound s) names ≡ a → repeats names ≡ b → a || b ≡ false
        → (list_any (is_bound s) names ≡ false) × (repeats names ≡ false)
    by true b p q e = absurd (false≢true (sym e))
    by false true p q e = absurd (false≢true (sym e))
    by false false p q e = (p, q)

pub with_variables : Held → Package → Names → Held
with_variables h q vs = record { pkg = q; level = h.level; variables = vs; functions = h.functions }

pub held-variables : (h : Held) (q : Package) (vs : Names) (names : List (List ℕ)) → IsHeld h → IsSome h.level
    → HasAdded h.pkg q (level_in (state_of h)) h.variables vs names
    → length h.variables + length names ≤ 2 ^ level_in (state_of h) → clashes (state_of h) names ≡ false
    → IsHeld (with_variables h q vs)
unfolding with_variables
held-variables h q vs names holds set added room clash = record {
  low = holds.low;
  unset = λ e. absurd (let some = some-is h.level set in none-some some.0 (sym e ∙ some.1));
  room =
      let count = sym (count-names vs) ∙ ap length added.names ∙ length-append (names_of h.variables) names in
      let old = count-names h.variables in
      omega (arith, count, old, room);
  positions = added.positions;
  owned = (held h q holds added.kept).owned;
  differ =
      ap (λ ns. repeats (ns ++ map (λ (b : List ℕ × FlatFunction). b.0) (state_of (with_package h q)).functions)) added.names
      ∙ ap (λ (s : State). repeats ((names_of h.variables ++ names) ++ map (λ b. b.0) s.functions)) (grown h q holds added.kept).state
      ∙ differ-vars (state_of h) names holds.differ clash;
}

-- `var`
pub vars-taken : (h : Held) (names : List (List ℕ)) (clash : Bool) → IsSome h.level → clash ≡ clashes (state_of h) names
    → clash ≡ true → declare (state_of h) names ≡ Refuses Taken
vars-taken h names clash set is e =
    let some = some-is h.level set in step-Vars-taken (state_of h) some.0 names some.1 (sym is ∙ e)

room_is : (h : Held) (names : List (List ℕ)) → have_room (state_of h) names ≡ nat_le (length h.variables + length names) (2 ^ level_in (state_of h))
room_is h names = ap (λ n. nat_le (n + length names) (2 ^ level_in (state_of h))) (count-names h.variables)

pub vars-many : (h : Held) (names : List (List ℕ)) (clash room : Bool) → IsSome h.level
    → clash ≡ clashes (state_of h) names → clash ≡ false
    → room ≡ nat_le (length h.variables + length names) (2 ^ level_in (state_of h)) → room ≡ false
    → declare (state_of h) names ≡ Refuses TooManyVariables
vars-many h names clash room set is e fits no_room =
    let some = some-is h.level set in
    step-Vars-many (state_of h) some.0 names some.1 (sym is ∙ e) (room_is h names ∙ sym fits ∙ no_room)

-- Variables can be declared: the level is set, the names are free, and there is room.
pub record CanDeclare (h : Held) (names : List (List ℕ)) : Type 0 where
  pub set : IsSome h.level
  pub clash : clashes (state_of h) names ≡ false
  pub room : nat_le (length h.variables + length names) (2 ^ level_in (state_of h)) ≡ true

-- the same of a session that is seen from its parts
pub can-declare : (h s : Held) (names : List (Bor (List ℕ))) (clash room : Bool) → h ≡ s → IsSome s.level
    → clash ≡ clashes (state_of s) (bytes_of names) → clash ≡ false
    → room ≡ nat_le (length s.variables + length names) (2 ^ level_in (state_of s)) → room ≡ true
    → CanDeclare h (bytes_of names)
can-declare h s names clash room same set is e fits enough =
    subst (λ t. CanDeclare t (bytes_of names)) (sym same)
    (record {
      set = set;
      clash = sym is ∙ e;
      room = ap (λ n. nat_le (length s.variables + n) (2 ^ level_in (state_of s))) (length-bytes names) ∙ sym fits ∙ enough;
    })

pub can-free : (h : Held) (names : List (List ℕ)) → CanDeclare h names
    → list_any (is_among (names_of h.variables)) names ≡ false
can-free h names can = free-names h names (no_clash (state_of h) names can.clash).0

pub can-room : (h : Held) (names : List (List ℕ)) → CanDeclare h names
    → length h.variables + length names ≤ 2 ^ level_in (state_of h)
can-room h names can = le_is _ _ can.room
  where
    le_is : (m n : ℕ) → nat_le m n ≡ true → m ≤ n
    le_is m n e = grind (arith, nat_tests)

pub declared-held : (h : Held) (q : Package) (vs : Names) (names : List (List ℕ)) → IsHeld h → CanDeclare h names
    → HasAdded h.pkg q (level_in (state_of h)) h.variables vs names
    → IsHeld (record { pkg = q; level = h.level; variables = vs; functions = h.functions })
unfolding with_variables
declared-held h q vs names holds can added = held-variables h q vs names holds can.set added (can-room h names can) can.clash

pub declared-goes : (h : Held) (q : Package) (vs : Names) (names : List (List ℕ)) → IsHeld h → CanDeclare h names
    → HasAdded h.pkg q (level_in (state_of h)) h.variables vs names
    → declare (state_of h) names
    ≡ Goes (state_of (record { pkg = q; level = h.level; variables = vs; functions = h.functions })) []
declared-goes h q vs names holds can added =
    let some = some-is h.level can.set in
    let same = ap (λ (s : State). s.functions) (grown h q holds added.kept).state in
    step-Vars (state_of h) some.0 names some.1 can.clash (room_is h names ∙ can.room)
    ∙ ap (λ ns. Goes (record { level = h.level; variables = ns; functions = (state_of h).functions }) []) (sym added.names)
    ∙ ap (λ (fs : List (List ℕ × FlatFunction)). Goes (record { level = h.level; variables = names_of vs; functions = fs }) []) (sym same)
