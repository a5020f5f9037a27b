use Rattle.std.specs.Prelude.{ℕ, ℤ, pos, ◌+◌, ◌-◌, ◌^◌, ◌==◌, ◌&&◌, ◌||◌, nat_lt, nat_le, int_le, nat_abs, not, is_none, is_some, Bool, List, [], ◌∷◌, ◌++◌, length, Option, Some, None}
use Rattle.std.specs.List.{list_any}
use Rattle.std.specs.Option.{option_map}
use Rattle.cf_model.specs.Assignments.{bits_of}
use Rattle.cf_model.specs.FlatFunctions.{FlatFunction}
use Rattle.cf_model.specs.Matrices.{entry}
use Rattle.cf_circuits.specs.Causes.{fault}
use Rattle.cf_circuits.specs.LinkFaults.{link}
use Rattle.cf_circuits.specs.Netlists.{net}
use Rattle.cf_circuits.specs.Roots.{inputs_of, outputs_of}
use Rattle.cf_reference.specs.Trees.{Tree, Statement, Empty, Level, Vars, Let, Load, Value, First, Listed, Entry, Equal, Size, Stats}
use Rattle.cf_reference.specs.Reasons.{Refusal, NoLevel, LevelAgain, NoName, Taken, TooManyVariables, LevelsDiffer, BadLevel, OutOfRange, Overflow, NoFile, FileTooLarge, Circuit, Links, where_holds}
use Rattle.cf_reference.specs.Replies.{value_reply}
use Rattle.cf_reference.specs.States.{State, Files, content_of, level_in, is_below, is_among, bind, named, is_bound, repeats, at}
use Rattle.cf_reference.specs.Calls.{flat, is_index}
use Rattle.cf_reference.specs.Expressions.{part, walk}
use Rattle.cf_reference.specs.Failures.{over}
use Rattle.cf_reference.specs.Loading.{file_limit, inputs_refusal, outputs_clash, declared_for, with_circuit}
use Rattle.cf_reference.specs.Answers.{spelled, first_answer, list_answer, equal_answer, size_answer, stats_answer}

-- What a statement does: it is refused, or leads to a state with a reply.
pub data Outcome : Type 0 where
  Refuses : Refusal → Outcome
  Goes : State → List ℕ → Outcome

-- An outcome, or the first refusal of those before it, if there is one.
abbrev pub unless_refused : List (Option Refusal) → Outcome → Outcome
unless_refused [] outcome = outcome
unless_refused (None ∷ later) outcome = unless_refused later outcome
unless_refused (Some r ∷ later) outcome = Refuses r

-- the refusal of a statement that needs a level
abbrev pub needs_level : State → Option Refusal
needs_level s = where_holds (is_none s.level) NoLevel

-- what is done with the function of a name, which is refused where the name stands for none
abbrev pub with_function : Option FlatFunction → (FlatFunction → Outcome) → Outcome
with_function None outcome = Refuses NoName
with_function (Some f) outcome = outcome f

-- whether one of the names is bound already, or stands twice
abbrev pub clashes : State → List (List ℕ) → Bool
clashes s names = list_any (is_bound s) names || repeats names

-- whether there are positions for so many variables more
abbrev pub have_room : State → List (List ℕ) → Bool
have_room s names = nat_le (length s.variables + length names) (2 ^ level_in s)

-- how many lines `list` may be asked for
abbrev pub lists : ℤ → Bool
lists most = int_le (pos 1) most && int_le most (pos 1000)

-- the flat function of an expression that has a value everywhere
abbrev pub function_from : State → Tree → FlatFunction
function_from s e = flat (part s e)

-- What each statement does: its refusals in their order, of which the first counts, and then the state that it leads to and
-- what it replies.

unfoldable pub set_level : State → ℤ → Outcome
set_level s n =
    unless_refused
    (where_holds (is_some s.level) LevelAgain ∷ where_holds (not (is_below n 8)) BadLevel ∷ [])
    (Goes (record s { level = Some (nat_abs n) }) [])

unfoldable pub declare : State → List (List ℕ) → Outcome
declare s names =
    unless_refused
    (needs_level s ∷ where_holds (clashes s names) Taken ∷ where_holds (not (have_room s names)) TooManyVariables ∷ [])
    (Goes (record s { variables = s.variables ++ names }) [])

-- Names, levels and ranges of the expression are walked in reading order; its overflow comes last.
unfoldable pub define : State → List ℕ → Tree → Outcome
define s name e =
    unless_refused
    (needs_level s ∷ where_holds (is_among s.variables name) Taken ∷ walk s e ∷ option_map Overflow (over s e) ∷ [])
    (Goes (record s { functions = bind s.functions name (function_from s e) }) [])

-- what is done with the content of a file, which is refused where there is none
abbrev pub with_content : Option (List ℕ) → (List ℕ → Outcome) → Outcome
with_content None outcome = Refuses NoFile
with_content (Some bytes) outcome = outcome bytes

-- Of a file's bytes their number is tested first, then the text, the links and the names: the inputs, and then the outputs.
abbrev pub load_bytes : State → List ℕ → List ℕ → Outcome
load_bytes s prefix bytes =
    unless_refused
    (where_holds (nat_lt file_limit (length bytes)) FileTooLarge
    ∷ option_map Circuit (fault bytes)
    ∷ option_map Links (link (net bytes))
    ∷ inputs_refusal s (inputs_of (net bytes))
    ∷ where_holds (outputs_clash (declared_for s (net bytes)) prefix (outputs_of (net bytes))) Taken
    ∷ [])
    (Goes (with_circuit s prefix (net bytes)) [])

unfoldable pub load_circuit : Files → State → List ℕ → List ℕ → Outcome
load_circuit files s prefix file =
    unless_refused (needs_level s ∷ []) (with_content (content_of files file) (load_bytes s prefix))

-- a question about the function of a name
abbrev pub asks : State → List ℕ → (FlatFunction → Outcome) → Outcome
asks s name answer = unless_refused (needs_level s ∷ []) (with_function (named s name) answer)

unfoldable pub tell_value : State → List ℕ → List ℕ → Outcome
tell_value s name bits =
    asks s name (λ f. unless_refused
    (where_holds (not (length bits == 2 ^ f.level)) OutOfRange ∷ [])
    (Goes s (value_reply (at f (spelled bits)))))

unfoldable pub tell_first : State → List ℕ → ℤ → Outcome
tell_first s name n = asks s name (λ f. Goes s (first_answer f n))

unfoldable pub tell_list : State → List ℕ → ℤ → ℤ → Outcome
tell_list s name n most =
    asks s name (λ f. unless_refused (where_holds (not (lists most)) OutOfRange ∷ []) (Goes s (list_answer f n (nat_abs most))))

-- the entry of a matrix in a row and a column
abbrev pub entry_in : FlatFunction → ℕ → ℕ → ℤ
entry_in f row col = entry (at f) (bits_of (2 ^ (f.level - 1)) row) (bits_of (2 ^ (f.level - 1)) col)

-- A function of level 0 is no matrix.
unfoldable pub tell_entry : State → List ℕ → ℤ → ℤ → Outcome
tell_entry s name row col =
    asks s name (λ f. unless_refused
    (where_holds (f.level == 0) BadLevel ∷ where_holds (not (is_index f.level row && is_index f.level col)) OutOfRange ∷ [])
    (Goes s (value_reply (entry_in f (nat_abs row) (nat_abs col)))))

unfoldable pub tell_equal : State → List ℕ → List ℕ → Outcome
tell_equal s name other =
    asks s name (λ f. with_function (named s other) (λ g. unless_refused
    (where_holds (not (f.level == g.level)) LevelsDiffer ∷ [])
    (Goes s (equal_answer f g))))

unfoldable pub tell_size : State → List ℕ → Outcome
tell_size s name = asks s name (λ f. Goes s (size_answer f))

unfoldable pub tell_stats : State → Outcome
tell_stats s = unless_refused (needs_level s ∷ []) (Goes s (stats_answer s))

-- What a statement does in a state, where there are these files.
abbrev pub step : Files → State → Statement → Outcome
step files s Empty = Goes s []
step files s (Level n) = set_level s n
step files s (Vars names) = declare s names
step files s (Let name e) = define s name e
step files s (Load prefix file) = load_circuit files s prefix file
step files s (Value name bits) = tell_value s name bits
step files s (First name n) = tell_first s name n
step files s (Listed name n most) = tell_list s name n most
step files s (Entry name row col) = tell_entry s name row col
step files s (Equal name other) = tell_equal s name other
step files s (Size name) = tell_size s name
step files s Stats = tell_stats s
