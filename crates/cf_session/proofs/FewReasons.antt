-- A statement that reads no file isn't refused for one.
use Rattle.std.proofs.Common.{ℕ, ℤ, ◌≡◌, ◌≤◌, ◌^◌, cond, Bool, true, false, List, [], ◌∷◌, ◌++◌, length, sym, subst, arith, Option, Some, None}
use Rattle.std.specs.Prelude.{is_some, is_none, not, nat_le, nat_lt, nat_abs, ◌==◌, ◌&&◌}
use Rattle.cf_reference.specs.Replies.{value_reply}
use Rattle.cf_reference.specs.Answers.{spelled, first_answer, list_answer, equal_answer, size_answer, stats_answer}
use Rattle.std.specs.List.{list_all}
use Rattle.std.specs.Option.{option_map, option_or}
use Rattle.std.proofs.lemmas.Bool.{false≢true}
use Rattle.cf_model.specs.FlatFunctions.{FlatFunction}
use Rattle.cf_reference.specs.declared.grammar.Head.{Head}
use Rattle.cf_reference.specs.Trees.{Tree, Num, At, Named, Call, Arguments, none, more, atom, Atom, Variable, Position, Number, Statement, Empty, Level, Vars, Let, Load, Value, First, Listed, Entry, Equal, Size, Stats}
use Rattle.cf_reference.specs.Reasons.{Refusal, NoLevel, LevelAgain, NoName, Taken, TooManyVariables, LevelsDiffer, BadLevel, OutOfRange, Overflow, FileTooLarge, Circuit, Links, number, unless, where_holds}
use Rattle.cf_reference.specs.States.{State, Files, level_in, is_among, is_bound, is_below, bind, at, named}
use Rattle.cf_reference.specs.Calls.{Meant, levels, positions, common, are_equal, exact, is_index, has_level, own_rule, call_refusal}
use Rattle.cf_reference.specs.Calls as means
use Rattle.cf_reference.specs.declared.grammar.Head.TheVariants.{Const, One, Fold, Ite, Restrict, Exists, Forall, SumOut, Compose, AndExists, Kron, Matmul, Transpose, Id, Walsh, Unit as UnitAt}
use Rattle.cf_reference.specs.Expressions.{walk, walks, walk_atom, meant}
use Rattle.cf_reference.specs.Failures.{over}
use Rattle.cf_reference.specs.Carrying.{Outcome, Refuses, Goes, unless_refused, with_function, needs_level, asks, clashes, have_room, lists, function_from, set_level, declare, define, tell_value, tell_first, tell_list, tell_entry, entry_in, tell_equal, tell_size, tell_stats, load_bytes, step}
use Rattle.cf_reference.specs.Loading.{file_limit, with_input, input_refusal, inputs_refusal, outputs_clash, declared_for, with_circuit}
use Rattle.cf_circuits.specs.declared.faults.LinkFault.{LinkFault}
use Rattle.cf_circuits.specs.Causes.{Fault, fault}
use Rattle.cf_circuits.specs.LinkFaults.{link}
use Rattle.cf_circuits.specs.Netlists.{net}
use Rattle.cf_circuits.specs.Roots.{inputs_of, outputs_of}
use Rattle.std.proofs.lemmas.Bool.Decides.{nat_tests}
use Rattle.cf_reference.proofs.ExpressionLaws.{walk-Num, walk-At, walk-Named, walk-Call, walks-none, walks-more, walks-atom}
use Rattle.cf_session.specs.Stepping.{reads_file}

-- a refusal that isn't for a file
abbrev IsPlain : Option Refusal → Type 0
IsPlain None = Unit {0}
IsPlain (Some r) = number r ≤ 14

abbrev ArePlain : List (Option Refusal) → Type 0
ArePlain [] = Unit {0}
ArePlain (o ∷ os) = IsPlain o × ArePlain os

abbrev GoesPlain : Outcome → Type 0
GoesPlain (Refuses r) = number r ≤ 14
GoesPlain (Goes s reply) = Unit {0}

or_plain : (a b : Option Refusal) → IsPlain a → IsPlain b → IsPlain (option_or a b)
or_plain None b p q = q
or_plain (Some r) b p q = p

unless_plain : (b : Bool) (r : Refusal) → number r ≤ 14 → IsPlain (unless b r)
unless_plain true r h = tt
unless_plain false r h = h

holds_plain : (b : Bool) (r : Refusal) → number r ≤ 14 → IsPlain (where_holds b r)
holds_plain true r h = h
holds_plain false r h = tt

refused_plain : (os : List (Option Refusal)) (outcome : Outcome) → ArePlain os → GoesPlain outcome
    → GoesPlain (unless_refused os outcome)
refused_plain [] outcome p q = q
refused_plain (None ∷ os) outcome p q = refused_plain os outcome p.1 q
refused_plain (Some r ∷ os) outcome p q = p.0

own_plain : (head : Head) (args : List Meant) → IsPlain (own_rule head args)
own_plain Const args = tt
own_plain (One word) args = tt
own_plain (Fold word) args = tt
own_plain Ite args = tt
own_plain Restrict args = tt
own_plain Exists args = tt
own_plain Forall args = tt
own_plain SumOut args = tt
own_plain Compose args = tt
own_plain AndExists args = tt
own_plain Kron args = tt
own_plain Matmul args = tt
own_plain Transpose args = tt
own_plain Id args = tt
own_plain Walsh args = tt
own_plain UnitAt [] = tt
own_plain UnitAt (means.Function f ∷ args) = tt
own_plain UnitAt (means.Position i ∷ args) = tt
own_plain UnitAt (means.Number j ∷ []) = tt
own_plain UnitAt (means.Number j ∷ means.Function f ∷ args) = tt
own_plain UnitAt (means.Number j ∷ means.Position i ∷ args) = tt
own_plain UnitAt (means.Number j ∷ means.Number n ∷ []) = tt
own_plain UnitAt (means.Number j ∷ means.Number n ∷ means.Function f ∷ args) = tt
own_plain UnitAt (means.Number j ∷ means.Number n ∷ means.Position i ∷ args) = tt
own_plain UnitAt (means.Number j ∷ means.Number n ∷ means.Number m ∷ a ∷ args) = tt
own_plain UnitAt (means.Number j ∷ means.Number n ∷ means.Number m ∷ []) = unless_plain (is_index (nat_abs j) n && is_index (nat_abs j) m) OutOfRange (omega arith)

call_plain : (head : Head) (args : List Meant) → IsPlain (call_refusal head args)
call_plain head args =
    let equal = are_equal (levels args) in
    let inside = list_all (λ i. is_below i (2 ^ common (levels args))) (positions args) in
    let ranged = has_level head (exact head args).level in
    let last = option_or (unless ranged BadLevel) (own_rule head args) in
    or_plain (unless equal LevelsDiffer) (option_or (unless inside OutOfRange) last) (unless_plain equal LevelsDiffer (omega arith))
    (or_plain (unless inside OutOfRange) last (unless_plain inside OutOfRange (omega arith))
    (or_plain (unless ranged BadLevel) (own_rule head args) (unless_plain ranged BadLevel (omega arith)) (own_plain head args)))

atom_plain : (s : State) (a : Atom) → IsPlain (walk_atom s a)
atom_plain s (Variable name) = unless_plain (is_among s.variables name) NoName (omega arith)
atom_plain s (Position i) = tt
atom_plain s (Number n) = tt

mutual
  walk_plain : (e : Tree) (s : State) → IsPlain (walk s e)
  walk_plain (Num n) s = subst IsPlain (sym (walk-Num s n)) tt
  walk_plain (At i) s =
      subst IsPlain (sym (walk-At s i)) (unless_plain (is_below i (2 ^ level_in s)) OutOfRange (omega arith))
  walk_plain (Named name) s = subst IsPlain (sym (walk-Named s name)) (unless_plain (is_bound s name) NoName (omega arith))
  walk_plain (Call head es) s =
      subst IsPlain (sym (walk-Call s head es))
      (or_plain (walks s es) (call_refusal head (meant s es)) (walks_plain es s) (call_plain head (meant s es)))

  walks_plain : (es : Arguments) (s : State) → IsPlain (walks s es)
  walks_plain none s = subst IsPlain (sym (walks-none s)) tt
  walks_plain (more e es) s =
      subst IsPlain (sym (walks-more s e es)) (or_plain (walk s e) (walks s es) (walk_plain e s) (walks_plain es s))
  walks_plain (atom a es) s =
      subst IsPlain (sym (walks-atom s a es)) (or_plain (walk_atom s a) (walks s es) (atom_plain s a) (walks_plain es s))

over_plain : (o : Option (List Bool)) → IsPlain (option_map Overflow o)
over_plain None = tt
over_plain (Some bits) = omega arith

level_plain : (s : State) → IsPlain (needs_level s)
level_plain s = holds_plain (is_none s.level) NoLevel (omega arith)

with_plain : (o : Option FlatFunction) (answer : FlatFunction → Outcome) → ((f : FlatFunction) → GoesPlain (answer f))
    → GoesPlain (with_function o answer)
with_plain None answer h = omega arith
with_plain (Some f) answer h = h f

asks_plain : (s : State) (name : List ℕ) (answer : FlatFunction → Outcome) → ((f : FlatFunction) → GoesPlain (answer f))
    → GoesPlain (asks s name answer)
asks_plain s name answer h =
    refused_plain (needs_level s ∷ []) (with_function (named s name) answer) (level_plain s, tt) (with_plain (named s name) answer h)

-- the refusals of an entry, of a function that is there
abbrev entry_refusals : FlatFunction → ℤ → ℤ → List (Option Refusal)
entry_refusals f row col =
    where_holds (f.level == 0) BadLevel
    ∷ where_holds (not (is_index f.level row && is_index f.level col)) OutOfRange
    ∷ []

entry_plain : (s : State) (f : FlatFunction) (row col : ℤ) (text : List ℕ)
    → GoesPlain (unless_refused (entry_refusals f row col) (Goes s text))
entry_plain s f row col text =
    let outside = not (is_index f.level row && is_index f.level col) in
    refused_plain (entry_refusals f row col) (Goes s text)
    (holds_plain (f.level == 0) BadLevel (omega arith), (holds_plain outside OutOfRange (omega arith), tt))
    tt

step_plain : (files : Files) (s : State) (t : Statement) → reads_file t ≡ false → GoesPlain (step files s t)
unfolding set_level declare define tell_value tell_first tell_list tell_entry tell_equal tell_size tell_stats
step_plain files s Empty h = tt
step_plain files s (Level n) h =
    refused_plain (where_holds (is_some s.level) LevelAgain ∷ where_holds (not (is_below n 8)) BadLevel ∷ [])
    (Goes (record s { level = Some (nat_abs n) }) [])
    (holds_plain (is_some s.level) LevelAgain (omega arith), (holds_plain (not (is_below n 8)) BadLevel (omega arith), tt)) tt
step_plain files s (Vars names) h =
    refused_plain (needs_level s ∷ where_holds (clashes s names) Taken ∷ where_holds (not (have_room s names)) TooManyVariables ∷ [])
    (Goes (record s { variables = s.variables ++ names }) [])
    (level_plain s, (holds_plain (clashes s names) Taken (omega arith), (holds_plain (not (have_room s names)) TooManyVariables (omega arith), tt)))
    tt
step_plain files s (Let name e) h =
    refused_plain (needs_level s ∷ where_holds (is_among s.variables name) Taken ∷ walk s e ∷ option_map Overflow (over s e) ∷ [])
    (Goes (record s { functions = bind s.functions name (function_from s e) }) [])
    (level_plain s, (holds_plain (is_among s.variables name) Taken (omega arith), (walk_plain e s, (over_plain (over s e), tt))))
    tt
step_plain files s (Load prefix file) h = absurd (false≢true (sym h))
step_plain files s (Value name bits) h =
    asks_plain s name
    (λ f. unless_refused (where_holds (not (length bits == 2 ^ f.level)) OutOfRange ∷ []) (Goes s (value_reply (at f (spelled bits)))))
    (λ f. refused_plain (where_holds (not (length bits == 2 ^ f.level)) OutOfRange ∷ []) (Goes s (value_reply (at f (spelled bits)))) (holds_plain (not (length bits == 2 ^ f.level)) OutOfRange (omega arith), tt) tt)
step_plain files s (First name n) h = asks_plain s name (λ f. Goes s (first_answer f n)) (λ f. tt)
step_plain files s (Listed name n most) h =
    asks_plain s name
    (λ f. unless_refused (where_holds (not (lists most)) OutOfRange ∷ []) (Goes s (list_answer f n (nat_abs most))))
    (λ f. refused_plain (where_holds (not (lists most)) OutOfRange ∷ []) (Goes s (list_answer f n (nat_abs most))) (holds_plain (not (lists most)) OutOfRange (omega arith), tt) tt)
step_plain files s (Entry name row col) h =
    asks_plain s name _ (λ f. entry_plain s f row col (value_reply (entry_in f (nat_abs row) (nat_abs col))))
step_plain files s (Equal name other) h =
    asks_plain s name
    (λ f. with_function (named s other) (λ g. unless_refused (where_holds (not (f.level == g.level)) LevelsDiffer ∷ []) (Goes s (equal_answer f g))))
    (λ f. with_plain (named s other) (λ g. unless_refused (where_holds (not (f.level == g.level)) LevelsDiffer ∷ []) (Goes s (equal_answer f g)))
    (λ g. refused_plain (where_holds (not (f.level == g.level)) LevelsDiffer ∷ []) (Goes s (equal_answer f g)) (holds_plain (not (f.level == g.level)) LevelsDiffer (omega arith), tt) tt))
step_plain files s (Size name) h = asks_plain s name (λ f. Goes s (size_answer f)) (λ f. tt)
step_plain files s Stats h = refused_plain (needs_level s ∷ []) (Goes s (stats_answer s)) (level_plain s, tt) tt

pub plain-step : (files : Files) (s : State) (t : Statement) (r : Refusal) → reads_file t ≡ false
    → step files s t ≡ Refuses r → number r ≤ 14
plain-step files s t r h e = subst GoesPlain e (step_plain files s t h)

-- A file's bytes that are few enough aren't refused for the file.
abbrev pub SparesFile : Refusal → Type 0
SparesFile r = (number r ≡ 15 → ⊥) × (number r ≡ 16 → ⊥)

abbrev IsSpared : Option Refusal → Type 0
IsSpared None = Unit {0}
IsSpared (Some r) = SparesFile r

abbrev AreSpared : List (Option Refusal) → Type 0
AreSpared [] = Unit {0}
AreSpared (o ∷ os) = IsSpared o × AreSpared os

abbrev GoesSpared : Outcome → Type 0
GoesSpared (Refuses r) = SparesFile r
GoesSpared (Goes s reply) = Unit {0}

refused_spared : (os : List (Option Refusal)) (outcome : Outcome) → AreSpared os → GoesSpared outcome
    → GoesSpared (unless_refused os outcome)
refused_spared [] outcome p q = q
refused_spared (None ∷ os) outcome p q = refused_spared os outcome p.1 q
refused_spared (Some r ∷ os) outcome p q = p.0

few_spared : (r : Refusal) → number r ≤ 14 → SparesFile r
few_spared r h = (λ e. absurd (omega (arith, h, e)), λ e. absurd (omega (arith, h, e)))

plain_spared : (o : Option Refusal) → IsPlain o → IsSpared o
plain_spared None h = tt
plain_spared (Some r) h = few_spared r h

input_plain : (s : State) (name : List ℕ) → IsPlain (input_refusal s name)
input_plain s name = by (is_among s.variables name)
  where
    by : (t : Bool) → IsPlain (cond t None (option_or (where_holds (is_bound s name) Taken) (where_holds (nat_le (2 ^ level_in s) (length s.variables)) TooManyVariables)))
    by true = tt
    by false =
        or_plain (where_holds (is_bound s name) Taken) (where_holds (nat_le (2 ^ level_in s) (length s.variables)) TooManyVariables)
        (holds_plain (is_bound s name) Taken (omega arith))
        (holds_plain (nat_le (2 ^ level_in s) (length s.variables)) TooManyVariables (omega arith))

inputs_plain : (names : List (List ℕ)) (s : State) → IsPlain (inputs_refusal s names)
inputs_plain [] s = tt
inputs_plain (name ∷ later) s =
    or_plain (input_refusal s name) (inputs_refusal (with_input s name) later) (input_plain s name) (inputs_plain later (with_input s name))

text_spared : (o : Option Fault) → IsSpared (option_map Circuit o)
text_spared None = tt
text_spared (Some f) = (λ e. absurd (omega (arith, e)), λ e. absurd (omega (arith, e)))

links_spared : (o : Option LinkFault) → IsSpared (option_map Links o)
links_spared None = tt
links_spared (Some f) = (λ e. absurd (omega (arith, e)), λ e. absurd (omega (arith, e)))

few_bytes : (m n : ℕ) → n ≤ m → nat_lt m n ≡ false
few_bytes m n h = grind (arith, nat_tests)

large_spared : (b : Bool) → b ≡ false → IsSpared (where_holds b FileTooLarge)
large_spared false e = tt
large_spared true e = absurd (false≢true (sym e))

bytes_spared : (s : State) (prefix bytes : List ℕ) → length bytes ≤ file_limit → GoesSpared (load_bytes s prefix bytes)
bytes_spared s prefix bytes short =
    let models = net bytes in
    let large = nat_lt file_limit (length bytes) in
    let inputs = inputs_refusal s (inputs_of models) in
    let clash = outputs_clash (declared_for s models) prefix (outputs_of models) in
    refused_spared
    (where_holds large FileTooLarge ∷ option_map Circuit (fault bytes) ∷ option_map Links (link models) ∷ inputs ∷ where_holds clash Taken ∷ [])
    (Goes (with_circuit s prefix models) [])
    (large_spared large (few_bytes file_limit (length bytes) short), (text_spared (fault bytes), (links_spared (link models), (plain_spared inputs (inputs_plain (inputs_of models) s), (plain_spared (where_holds clash Taken) (holds_plain clash Taken (omega arith)), tt)))))
    tt

pub short-bytes : (s : State) (prefix bytes : List ℕ) (r : Refusal) → length bytes ≤ file_limit
    → load_bytes s prefix bytes ≡ Refuses r → SparesFile r
short-bytes s prefix bytes r short e = subst GoesSpared e (bytes_spared s prefix bytes short)
