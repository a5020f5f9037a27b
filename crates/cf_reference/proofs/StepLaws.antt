-- What each statement does, and when it is refused.
use Rattle.std.proofs.Common.{ℕ, ℤ, ◌≡◌, ◌≢◌, ◌^◌, Bool, true, false, List, [], ◌∷◌, ◌++◌, length, Option, Some, None, refl, ap, sym, ◌∙◌, arith, ◌⊎◌, inl, inr}
use Rattle.std.specs.Prelude.{is_some, is_none, ◌==◌, ◌&&◌, nat_abs, not}
use Rattle.std.specs.Option.{option_map, option_or}
use Rattle.std.proofs.lemmas.Option.{same_Some, none-some}
use Rattle.std.proofs.lemmas.Bool.Decides.{nat_tests}
use Rattle.cf_model.specs.FlatFunctions.{FlatFunction}
use Rattle.cf_reference.specs.Trees.{Tree, Statement, Empty, Level, Vars, Let, Load, Value, First, Listed, Entry, Equal, Size, Stats}
use Rattle.cf_reference.specs.Reasons.{Refusal, NoLevel, LevelAgain, NoName, Taken, TooManyVariables, LevelsDiffer, BadLevel, OutOfRange, Overflow, where_holds}
use Rattle.cf_reference.specs.Replies.{value_reply}
use Rattle.cf_reference.specs.States.{State, Files, is_below, is_among, bind, named, at}
use Rattle.cf_reference.specs.Calls.{is_index}
use Rattle.cf_reference.specs.Expressions.{walk}
use Rattle.cf_reference.specs.Failures.{over}
use Rattle.cf_reference.specs.Gives.{GivesTree}
use Rattle.cf_reference.specs.Answers.{spelled, first_answer, list_answer, equal_answer, size_answer, stats_answer}
use Rattle.cf_reference.specs.Carrying.{Outcome, Refuses, Goes, unless_refused, needs_level, with_function, asks, clashes, have_room, lists, function_from, set_level, declare, define, load_circuit, tell_value, tell_first, tell_list, tell_entry, entry_in, tell_equal, tell_size, tell_stats, step}
use Rattle.cf_reference.proofs.TestFacts.{or_none_first, or_none_second}
use Rattle.cf_reference.proofs.GivesLaws.{gives-let}

lacking : Option ℕ → List (Option Refusal) → Outcome → Outcome
lacking level later outcome = unless_refused (where_holds (is_none level) NoLevel ∷ later) outcome

without : (s : State) (later : List (Option Refusal)) (outcome : Outcome) → s.level ≡ None
    → unless_refused (needs_level s ∷ later) outcome ≡ Refuses NoLevel
unfolding lacking
without s later outcome none = ap (λ (o : Option ℕ). lacking o later outcome) none

without_asked : (s : State) (name : List ℕ) (answer : FlatFunction → Outcome) → s.level ≡ None
    → asks s name answer ≡ Refuses NoLevel
without_asked s name answer none = without s [] (with_function (named s name) answer) none

-- a statement other than an empty line and `level`
abbrev pub WantsLevel : Statement → Type 0
WantsLevel Empty = ⊥
WantsLevel (Level n) = ⊥
WantsLevel other = Unit {0}

-- where no level is set, only these two are carried out
pub step-without : (files : Files) (s : State) (t : Statement) → s.level ≡ None → WantsLevel t
    → step files s t ≡ Refuses NoLevel
unfolding declare define load_circuit tell_value tell_first tell_list tell_entry tell_equal tell_size tell_stats
step-without files s Empty none h = absurd h
step-without files s (Level n) none h = absurd h
step-without files s (Vars names) none h = without s _ _ none
step-without files s (Let name e) none h = without s _ _ none
step-without files s (Load prefix file) none h = without s [] _ none
step-without files s (Value name bits) none h = without_asked s name _ none
step-without files s (First name n) none h = without_asked s name _ none
step-without files s (Listed name n most) none h = without_asked s name _ none
step-without files s (Entry name row col) none h = without_asked s name _ none
step-without files s (Equal name other) none h = without_asked s name _ none
step-without files s (Size name) none h = without_asked s name _ none
step-without files s Stats none h = without s [] (Goes s (stats_answer s)) none

-- `level`
level_set : Option ℕ → Bool → Outcome → Outcome
level_set level below goes =
    unless_refused (where_holds (is_some level) LevelAgain ∷ where_holds (not below) BadLevel ∷ []) goes

pub step-Level : (s : State) (n : ℤ) → s.level ≡ None → is_below n 8 ≡ true
    → set_level s n ≡ Goes (record s { level = Some (nat_abs n) }) []
unfolding level_set set_level
step-Level s n none fits =
    let goes = Goes (record s { level = Some (nat_abs n) }) [] in
    ap (λ (o : Option ℕ). level_set o (is_below n 8) goes) none ∙ ap (λ b. level_set None b goes) fits

pub step-Level-bad : (s : State) (n : ℤ) → s.level ≡ None → is_below n 8 ≡ false → set_level s n ≡ Refuses BadLevel
unfolding level_set set_level
step-Level-bad s n none high =
    let goes = Goes (record s { level = Some (nat_abs n) }) [] in
    ap (λ (o : Option ℕ). level_set o (is_below n 8) goes) none ∙ ap (λ b. level_set None b goes) high

pub step-Level-again : (s : State) (k : ℕ) (n : ℤ) → s.level ≡ Some k → set_level s n ≡ Refuses LevelAgain
unfolding level_set set_level
step-Level-again s k n e =
    ap (λ (o : Option ℕ). level_set o (is_below n 8) (Goes (record s { level = Some (nat_abs n) }) [])) e

-- `var`
declared : Option ℕ → Bool → Bool → Outcome → Outcome
declared level clash room goes =
    unless_refused
    (where_holds (is_none level) NoLevel ∷ where_holds clash Taken ∷ where_holds (not room) TooManyVariables ∷ []) goes

pub step-Vars : (s : State) (k : ℕ) (names : List (List ℕ)) → s.level ≡ Some k → clashes s names ≡ false
    → have_room s names ≡ true → declare s names ≡ Goes (record s { variables = s.variables ++ names }) []
unfolding declared declare
step-Vars s k names e clash fits =
    let goes = Goes (record s { variables = s.variables ++ names }) [] in
    ap (λ (o : Option ℕ). declared o (clashes s names) (have_room s names) goes) e
    ∙ ap (λ b. declared (Some k) b (have_room s names) goes) clash
    ∙ ap (λ b. declared (Some k) false b goes) fits

pub step-Vars-taken : (s : State) (k : ℕ) (names : List (List ℕ)) → s.level ≡ Some k → clashes s names ≡ true
    → declare s names ≡ Refuses Taken
unfolding declared declare
step-Vars-taken s k names e clash =
    let goes = Goes (record s { variables = s.variables ++ names }) [] in
    ap (λ (o : Option ℕ). declared o (clashes s names) (have_room s names) goes) e
    ∙ ap (λ b. declared (Some k) b (have_room s names) goes) clash

pub step-Vars-many : (s : State) (k : ℕ) (names : List (List ℕ)) → s.level ≡ Some k → clashes s names ≡ false
    → have_room s names ≡ false → declare s names ≡ Refuses TooManyVariables
unfolding declared declare
step-Vars-many s k names e clash fits =
    let goes = Goes (record s { variables = s.variables ++ names }) [] in
    ap (λ (o : Option ℕ). declared o (clashes s names) (have_room s names) goes) e
    ∙ ap (λ b. declared (Some k) b (have_room s names) goes) clash
    ∙ ap (λ b. declared (Some k) false b goes) fits

-- `let`
defined : Option ℕ → Bool → Option Refusal → Option (List Bool) → Outcome → Outcome
defined level variable refused failed goes =
    unless_refused
    (where_holds (is_none level) NoLevel ∷ where_holds variable Taken ∷ refused ∷ option_map Overflow failed ∷ []) goes

abbrev bound : State → List ℕ → Tree → Outcome
bound s name e = Goes (record s { functions = bind s.functions name (function_from s e) }) []

free_name : (s : State) (k : ℕ) (name : List ℕ) (e : Tree) → s.level ≡ Some k → is_among s.variables name ≡ false
    → define s name e ≡ defined (Some k) false (walk s e) (over s e) (bound s name e)
unfolding defined define
free_name s k name e l free =
    ap (λ (o : Option ℕ). defined o (is_among s.variables name) (walk s e) (over s e) (bound s name e)) l
    ∙ ap (λ b. defined (Some k) b (walk s e) (over s e) (bound s name e)) free

pub step-Let-goes : (s : State) (k : ℕ) (name : List ℕ) (e : Tree) → s.level ≡ Some k
    → is_among s.variables name ≡ false → walk s e ≡ None → over s e ≡ None
    → define s name e ≡ Goes (record s { functions = bind s.functions name (function_from s e) }) []
unfolding defined
step-Let-goes s k name e l free walked fits =
    free_name s k name e l free
    ∙ ap (λ o. defined (Some k) false o (over s e) (bound s name e)) walked
    ∙ ap (λ o. defined (Some k) false None o (bound s name e)) fits

pub step-Let : (s : State) (k : ℕ) (name : List ℕ) (e : Tree) (f : FlatFunction) → s.level ≡ Some k
    → is_among s.variables name ≡ false → walk s e ≡ None → over s e ≡ None → GivesTree s e f
    → define s name e ≡ Goes (record s { functions = bind s.functions name f }) []
step-Let s k name e f l free walked fits g =
    step-Let-goes s k name e l free walked fits
    ∙ ap (λ h. Goes (record s { functions = bind s.functions name h }) []) (sym (gives-let s e f g))

pub step-Let-taken : (s : State) (k : ℕ) (name : List ℕ) (e : Tree) → s.level ≡ Some k
    → is_among s.variables name ≡ true → define s name e ≡ Refuses Taken
unfolding defined define
step-Let-taken s k name e l taken =
    ap (λ (o : Option ℕ). defined o (is_among s.variables name) (walk s e) (over s e) (bound s name e)) l
    ∙ ap (λ b. defined (Some k) b (walk s e) (over s e) (bound s name e)) taken

pub step-Let-refused : (s : State) (k : ℕ) (name : List ℕ) (e : Tree) (r : Refusal) → s.level ≡ Some k
    → is_among s.variables name ≡ false → walk s e ≡ Some r → define s name e ≡ Refuses r
unfolding defined
step-Let-refused s k name e r l free walked =
    free_name s k name e l free ∙ ap (λ o. defined (Some k) false o (over s e) (bound s name e)) walked

pub step-Let-overflow : (s : State) (k : ℕ) (name : List ℕ) (e : Tree) (bits : List Bool) → s.level ≡ Some k
    → is_among s.variables name ≡ false → walk s e ≡ None → over s e ≡ Some bits
    → define s name e ≡ Refuses (Overflow bits)
unfolding defined
step-Let-overflow s k name e bits l free walked fails =
    free_name s k name e l free
    ∙ ap (λ o. defined (Some k) false o (over s e) (bound s name e)) walked
    ∙ ap (λ o. defined (Some k) false None o (bound s name e)) fails

-- what comes of the expression itself
pub step-Let-fails : (s : State) (k : ℕ) (name : List ℕ) (e : Tree) (r : Refusal) → s.level ≡ Some k
    → is_among s.variables name ≡ false → option_or (walk s e) (option_map Overflow (over s e)) ≡ Some r
    → define s name e ≡ Refuses r
step-Let-fails s k name e r l free h = by (walk s e) (over s e) refl refl h
  where
    by : (w : Option Refusal) (o : Option (List Bool)) → walk s e ≡ w → over s e ≡ o
        → option_or w (option_map Overflow o) ≡ Some r → define s name e ≡ Refuses r
    by (Some q) o ew eo h = step-Let-refused s k name e q l free ew ∙ ap Refuses (same_Some q r h)
    by None (Some bits) ew eo h =
        step-Let-overflow s k name e bits l free ew eo ∙ ap Refuses (same_Some (Overflow bits) r h)
    by None None ew eo h = absurd (none-some r h)

pub step-Let-whole : (s : State) (k : ℕ) (name : List ℕ) (e : Tree) → s.level ≡ Some k
    → is_among s.variables name ≡ false → option_or (walk s e) (option_map Overflow (over s e)) ≡ None
    → define s name e ≡ Goes (record s { functions = bind s.functions name (function_from s e) }) []
step-Let-whole s k name e l free h =
    step-Let-goes s k name e l free (or_none_first (walk s e) (option_map Overflow (over s e)) h)
    (over_none (over s e) (or_none_second (walk s e) (option_map Overflow (over s e)) h))
  where
    over_none : (o : Option (List Bool)) → option_map Overflow o ≡ None → o ≡ None
    over_none None e = refl
    over_none (Some bits) e = absurd (none-some (Overflow bits) (sym e))

-- questions about the function of a name
asked : Option ℕ → Option FlatFunction → (FlatFunction → Outcome) → Outcome
asked level found answer = unless_refused (where_holds (is_none level) NoLevel ∷ []) (with_function found answer)

known : (s : State) (k : ℕ) (name : List ℕ) (f : FlatFunction) (answer : FlatFunction → Outcome) → s.level ≡ Some k
    → named s name ≡ Some f → asks s name answer ≡ answer f
unfolding asked
known s k name f answer l e =
    ap (λ (o : Option ℕ). asked o (named s name) answer) l ∙ ap (λ o. asked (Some k) o answer) e

unknown : (s : State) (k : ℕ) (name : List ℕ) (answer : FlatFunction → Outcome) → s.level ≡ Some k
    → named s name ≡ None → asks s name answer ≡ Refuses NoName
unfolding asked
unknown s k name answer l e =
    ap (λ (o : Option ℕ). asked o (named s name) answer) l ∙ ap (λ o. asked (Some k) o answer) e

-- a statement about one name
abbrev pub Asks : Statement → List ℕ → Type 0
Asks (Value n bits) name = n ≡ name
Asks (First n v) name = n ≡ name
Asks (Listed n v most) name = n ≡ name
Asks (Entry n row col) name = n ≡ name
Asks (Size n) name = n ≡ name
Asks other name = ⊥

pub step-NoName : (files : Files) (s : State) (k : ℕ) (t : Statement) (name : List ℕ) → s.level ≡ Some k → Asks t name
    → named s name ≡ None → step files s t ≡ Refuses NoName
unfolding tell_value tell_first tell_list tell_entry tell_size
step-NoName files s k (Value n bits) name l same e = unknown s k n _ l (ap (named s) same ∙ e)
step-NoName files s k (First n v) name l same e = unknown s k n _ l (ap (named s) same ∙ e)
step-NoName files s k (Listed n v most) name l same e = unknown s k n _ l (ap (named s) same ∙ e)
step-NoName files s k (Entry n row col) name l same e = unknown s k n _ l (ap (named s) same ∙ e)
step-NoName files s k (Size n) name l same e = unknown s k n _ l (ap (named s) same ∙ e)
step-NoName files s k Empty name l same e = absurd same
step-NoName files s k (Level n) name l same e = absurd same
step-NoName files s k (Vars names) name l same e = absurd same
step-NoName files s k (Let n t) name l same e = absurd same
step-NoName files s k (Load prefix file) name l same e = absurd same
step-NoName files s k (Equal n other) name l same e = absurd same
step-NoName files s k Stats name l same e = absurd same

equals : (m n : ℕ) → m ≡ n → (m == n) ≡ true
equals m n e = grind (arith, nat_tests)

differ : (m n : ℕ) → m ≢ n → (m == n) ≡ false
differ m n e = grind (arith, nat_tests)

-- an answer that has one condition
only_where : Bool → Refusal → Outcome → Outcome
only_where holds r outcome = unless_refused (where_holds (not holds) r ∷ []) outcome

-- `value`
pub step-Value : (s : State) (k : ℕ) (name bits : List ℕ) (f : FlatFunction) → s.level ≡ Some k → named s name ≡ Some f
    → length bits ≡ 2 ^ f.level → tell_value s name bits ≡ Goes s (value_reply (at f (spelled bits)))
unfolding only_where tell_value
step-Value s k name bits f l e full =
    known s k name f _ l e
    ∙ ap (λ b. only_where b OutOfRange (Goes s (value_reply (at f (spelled bits))))) (equals (length bits) (2 ^ f.level) full)

pub step-Value-bits : (s : State) (k : ℕ) (name bits : List ℕ) (f : FlatFunction) → s.level ≡ Some k
    → named s name ≡ Some f → length bits ≢ 2 ^ f.level → tell_value s name bits ≡ Refuses OutOfRange
unfolding only_where tell_value
step-Value-bits s k name bits f l e other =
    known s k name f _ l e
    ∙ ap (λ b. only_where b OutOfRange (Goes s (value_reply (at f (spelled bits))))) (differ (length bits) (2 ^ f.level) other)

-- `first` and `size`
pub step-First : (s : State) (k : ℕ) (name : List ℕ) (v : ℤ) (f : FlatFunction) → s.level ≡ Some k
    → named s name ≡ Some f → tell_first s name v ≡ Goes s (first_answer f v)
unfolding tell_first
step-First s k name v f l e = known s k name f _ l e

pub step-Size : (s : State) (k : ℕ) (name : List ℕ) (f : FlatFunction) → s.level ≡ Some k → named s name ≡ Some f
    → tell_size s name ≡ Goes s (size_answer f)
unfolding tell_size
step-Size s k name f l e = known s k name f _ l e

-- `list`
pub step-Listed : (s : State) (k : ℕ) (name : List ℕ) (v most : ℤ) (f : FlatFunction) → s.level ≡ Some k
    → named s name ≡ Some f → lists most ≡ true → tell_list s name v most ≡ Goes s (list_answer f v (nat_abs most))
unfolding only_where tell_list
step-Listed s k name v most f l e fits =
    known s k name f _ l e ∙ ap (λ b. only_where b OutOfRange (Goes s (list_answer f v (nat_abs most)))) fits

pub step-Listed-most : (s : State) (k : ℕ) (name : List ℕ) (v most : ℤ) (f : FlatFunction) → s.level ≡ Some k
    → named s name ≡ Some f → lists most ≡ false → tell_list s name v most ≡ Refuses OutOfRange
unfolding only_where tell_list
step-Listed-most s k name v most f l e past =
    known s k name f _ l e ∙ ap (λ b. only_where b OutOfRange (Goes s (list_answer f v (nat_abs most)))) past

-- `entry`
entry_where : Bool → Bool → Outcome → Outcome
entry_where low inside outcome = unless_refused (where_holds low BadLevel ∷ where_holds (not inside) OutOfRange ∷ []) outcome

pub step-Entry : (s : State) (k : ℕ) (name : List ℕ) (row col : ℤ) (f : FlatFunction) → s.level ≡ Some k → named s name ≡ Some f
    → f.level ≢ 0 → (is_index f.level row && is_index f.level col) ≡ true
    → tell_entry s name row col ≡ Goes s (value_reply (entry_in f (nat_abs row) (nat_abs col)))
unfolding entry_where tell_entry
step-Entry s k name row col f l e high inside =
    known s k name f _ l e
    ∙ ap (λ b. entry_where b (is_index f.level row && is_index f.level col) (Goes s (value_reply (entry_in f (nat_abs row) (nat_abs col))))) (differ f.level 0 high)
    ∙ ap (λ b. entry_where false b (Goes s (value_reply (entry_in f (nat_abs row) (nat_abs col))))) inside

pub step-Entry-level : (s : State) (k : ℕ) (name : List ℕ) (row col : ℤ) (f : FlatFunction) → s.level ≡ Some k
    → named s name ≡ Some f → f.level ≡ 0 → tell_entry s name row col ≡ Refuses BadLevel
unfolding entry_where tell_entry
step-Entry-level s k name row col f l e low =
    known s k name f _ l e
    ∙ ap (λ b. entry_where b (is_index f.level row && is_index f.level col) (Goes s (value_reply (entry_in f (nat_abs row) (nat_abs col))))) (equals f.level 0 low)

pub step-Entry-outside : (s : State) (k : ℕ) (name : List ℕ) (row col : ℤ) (f : FlatFunction) → s.level ≡ Some k
    → named s name ≡ Some f → f.level ≢ 0 → (is_index f.level row && is_index f.level col) ≡ false
    → tell_entry s name row col ≡ Refuses OutOfRange
unfolding entry_where tell_entry
step-Entry-outside s k name row col f l e high outside =
    known s k name f _ l e
    ∙ ap (λ b. entry_where b (is_index f.level row && is_index f.level col) (Goes s (value_reply (entry_in f (nat_abs row) (nat_abs col))))) (differ f.level 0 high)
    ∙ ap (λ b. entry_where false b (Goes s (value_reply (entry_in f (nat_abs row) (nat_abs col))))) outside

-- `equal`
abbrev compared : State → FlatFunction → FlatFunction → Outcome
compared s f g = unless_refused (where_holds (not (f.level == g.level)) LevelsDiffer ∷ []) (Goes s (equal_answer f g))

both_known : (s : State) (k : ℕ) (name other : List ℕ) (f g : FlatFunction) → s.level ≡ Some k
    → named s name ≡ Some f → named s other ≡ Some g → tell_equal s name other ≡ compared s f g
unfolding tell_equal
both_known s k name other f g l e d =
    known s k name f _ l e ∙ ap (λ o. with_function o (λ h. compared s f h)) d

pub step-Equal : (s : State) (k : ℕ) (name other : List ℕ) (f g : FlatFunction) → s.level ≡ Some k
    → named s name ≡ Some f → named s other ≡ Some g → f.level ≡ g.level
    → tell_equal s name other ≡ Goes s (equal_answer f g)
unfolding only_where
step-Equal s k name other f g l e d same =
    both_known s k name other f g l e d ∙ ap (λ b. only_where b LevelsDiffer (Goes s (equal_answer f g))) (equals f.level g.level same)

pub step-Equal-levels : (s : State) (k : ℕ) (name other : List ℕ) (f g : FlatFunction) → s.level ≡ Some k
    → named s name ≡ Some f → named s other ≡ Some g → f.level ≢ g.level
    → tell_equal s name other ≡ Refuses LevelsDiffer
unfolding only_where
step-Equal-levels s k name other f g l e d apart =
    both_known s k name other f g l e d ∙ ap (λ b. only_where b LevelsDiffer (Goes s (equal_answer f g))) (differ f.level g.level apart)

second_unknown : (s : State) (k : ℕ) (name other : List ℕ) (o : Option FlatFunction) → s.level ≡ Some k
    → named s name ≡ o → named s other ≡ None → tell_equal s name other ≡ Refuses NoName
unfolding tell_equal
second_unknown s k name other None l e d = unknown s k name _ l e
second_unknown s k name other (Some f) l e d =
    known s k name f _ l e ∙ ap (λ o. with_function o (λ h. compared s f h)) d

pub step-Equal-NoName : (s : State) (k : ℕ) (name other : List ℕ) → s.level ≡ Some k
    → (named s name ≡ None) ⊎ (named s other ≡ None) → tell_equal s name other ≡ Refuses NoName
unfolding tell_equal
step-Equal-NoName s k name other l (inl e) = unknown s k name _ l e
step-Equal-NoName s k name other l (inr e) = second_unknown s k name other (named s name) l refl e

-- `stats`
pub step-Stats : (s : State) (k : ℕ) → s.level ≡ Some k → tell_stats s ≡ Goes s (stats_answer s)
unfolding lacking tell_stats
step-Stats s k l = ap (λ (o : Option ℕ). lacking o [] (Goes s (stats_answer s))) l
