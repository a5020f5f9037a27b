-- What holds of each state that a run reaches.
use Rattle.std.proofs.Common.{ℕ, ℤ, suc, ◌≡◌, ◌≤◌, ◌<◌, ◌+◌, ◌^◌, pos, Bool, length-append, true, false, cond, List, [], ◌∷◌, ◌++◌, length, Option, Some, None, refl, ap, sym, subst, ◌∙◌, arith}
use Rattle.std.specs.Prelude.{All, unwrap_or, ◌&&◌, int_le, int_lt, nat_abs, nat_lt, nat_le, ◌||◌, is_some, is_none, not, negsuc, ◌==◌}
use Rattle.std.specs.Option.{option_or, option_map}
use Rattle.std.specs.Str.{bytes_eq}
use Rattle.std.proofs.lemmas.Bool.{false≢true}
use Rattle.std.proofs.lemmas.Bool.Decides.{nat_tests}
use Rattle.std.proofs.lemmas.List.Elements.{All-cons, All-head, All-tail, All-nil, All-map, All-get_or}
use Rattle.std.proofs.lemmas.Option.{none-some, same_Some, slice_get_within, get_or_from_slice_get}
use Rattle.cf_model.specs.Assignments.{number_of, all_bits, bit_at}
use Rattle.cf_model.specs.Values.{Fits, fits, fitting}
use Rattle.cf_model.specs.Terms.{truth}
use Rattle.cf_model.specs.FlatFunctions.{FlatFunction, IsFlatFunction, value_at, variable, tabulated}
use Rattle.cf_model.proofs.FlatFunctionLaws.{fits_decides, tabulated-full}
use Rattle.cf_model.proofs.TermLaws.{fitting-some}
use Rattle.cf_reference.specs.Trees.{Tree, Num, At, Named, Call, tree_fits, Statement, Empty, Level, Vars, Let, Load, Value, First, Listed, Entry, Equal, Size, Stats, statement_fits}
use Rattle.cf_reference.specs.Reasons.{Refusal, NoLevel, LevelAgain, NoName, Taken, TooManyVariables, LevelsDiffer, BadLevel, OutOfRange, Overflow, FileTooLarge, Circuit, Links, where_holds}
use Rattle.cf_reference.specs.States.{State, Files, IsState, content_of, initial, level_in, is_below, is_among, position_of, function_named, bind, named, is_bound, nothing}
use Rattle.cf_circuits.specs.declared.models.ModelDef.{ModelDef}
use Rattle.cf_circuits.specs.Causes.{fault}
use Rattle.cf_circuits.specs.Expansions.{circuit_value}
use Rattle.cf_circuits.specs.LinkFaults.{link}
use Rattle.cf_circuits.specs.Netlists.{net}
use Rattle.cf_circuits.specs.Roots.{inputs_of, outputs_of}
use Rattle.cf_reference.specs.Loading.{file_limit, with_input, with_inputs, input_refusal, inputs_refusal, output_name, outputs_clash, with_outputs, input_bits, output_function, declared_for, with_circuit}
use Rattle.cf_reference.specs.Answers.{equal_answer}
use Rattle.cf_reference.specs.Replies.{value_reply}
use Rattle.cf_reference.specs.Calls.{exact, call_refusal, is_index}
use Rattle.cf_reference.specs.Expressions.{part, meant, level, walk, walks, value}
use Rattle.cf_reference.specs.Failures.{over}
use Rattle.cf_reference.specs.Carrying.{Outcome, Goes, unless_refused, needs_level, with_function, with_content, load_bytes, load_circuit, asks, clashes, have_room, function_from, set_level, declare, define, tell_value, tell_first, tell_list, tell_entry, entry_in, tell_equal, tell_size, tell_stats, step}
use Rattle.cf_reference.specs.Scripts.{state_of, refuses}
use Rattle.cf_reference.proofs.FitLaws.{truth_fits}
use Rattle.cf_reference.proofs.NameLaws.{or_first, or_second, differ-vars, differ-let}
use Rattle.cf_reference.proofs.WalkLaws.{refusal-low}
use Rattle.cf_reference.proofs.TestFacts.{and_then_some, or_none_first, or_none_second, unless_none, right, le_is}

pub initial-holds : IsState initial
initial-holds = record { low = omega arith; unset = λ e. (refl, refl); room = omega arith; flat = All-nil _; differ = refl }

-- a value that fits, if there is one
abbrev FitsIf : Option ℤ → Type 0
FitsIf o = (v : ℤ) → o ≡ Some v → Fits v

-- a flat function's values fit
pub flat-fits : (f : FlatFunction) (bits : List Bool) → IsFlatFunction f → FitsIf (value_at f bits)
flat-fits f bits h v e =
    let inside = slice_get_within f.values (number_of bits) v e in
    subst (λ (z : ℤ). Fits z) (get_or_from_slice_get f.values (number_of bits) v (pos 0) e) (All-get_or (λ z. Fits z) f.values (number_of bits) (pos 0) inside h.fit)

-- a function that is made from values that fit
tabulated_flat : (l : ℕ) (value : List Bool → ℤ) → l ≤ 7 → ((bits : List Bool) → Fits (value bits))
    → IsFlatFunction (tabulated l value)
tabulated_flat l value low h = record {
  level_in = low;
  full = tabulated-full l value;
  fit = All-map (λ z. Fits z) value (all_bits (2 ^ l)) (λ k d inside. h _);
}

variable_flat : (k i : ℕ) → k ≤ 7 → IsFlatFunction (variable k i)
variable_flat k i low = tabulated_flat k (λ bits. truth (bit_at bits i)) low (λ bits. truth_fits (bit_at bits i))

named_flat_in : (fs : List (List ℕ × FlatFunction)) (name : List ℕ) (f : FlatFunction)
    → All (λ b. IsFlatFunction b.1) fs → function_named fs name ≡ Some f → IsFlatFunction f
named_flat_in [] name f h e = absurd (none-some f e)
named_flat_in (b ∷ bs) name f h e =
    by (bytes_eq name b.0) (named_flat_in bs name f (All-tail (λ b. IsFlatFunction b.1) b bs h)) e
  where
    by : (t : Bool) → (function_named bs name ≡ Some f → IsFlatFunction f)
        → cond t (Some b.1) (function_named bs name) ≡ Some f → IsFlatFunction f
    by true later e =
        subst (λ (g : FlatFunction). IsFlatFunction g) (same_Some _ f e) (All-head (λ b. IsFlatFunction b.1) b bs h)
    by false later e = later e

-- what a name stands for is a flat function
pub named-flat : (s : State) → IsState s → (name : List ℕ) (f : FlatFunction) → named s name ≡ Some f → IsFlatFunction f
named-flat s h name f e = by (position_of s.variables name) e
  where
    by : (o : Option ℕ) → option_or (option_map (variable (level_in s)) o) (function_named s.functions name) ≡ Some f
        → IsFlatFunction f
    by None e = named_flat_in s.functions name f h.flat e
    by (Some i) e = subst (λ (g : FlatFunction). IsFlatFunction g) (same_Some _ f e) (variable_flat (level_in s) i h.low)

fits_from : (z : ℤ) → fits z ≡ true → Fits z
fits_from z e = (fits_decides z).0 e

-- the values of an expression whose numbers fit, fit
pub value-fits : (s : State) → IsState s → (e : Tree) → tree_fits e ≡ true → (bits : List Bool) (v : ℤ)
    → value s e bits ≡ Some v → Fits v
unfolding part
value-fits s h (Num n) t bits v e = subst (λ (z : ℤ). Fits z) (same_Some n v e) (fits_from n t)
value-fits s h (At i) t bits v e = subst (λ (z : ℤ). Fits z) (same_Some _ v e) (truth_fits _)
value-fits s h (Named name) t bits v e =
    let f = and_then_some (named s name) (λ f. value_at f bits) v e in
    flat-fits f.0 bits (named-flat s h name f.0 f.1) v f.2
value-fits s h (Call head es) t bits v e =
    let x = and_then_some ((exact head (meant s es)).value bits) fitting v e in (fitting-some x.0 v x.2).1

less : (m k : ℕ) → nat_lt m k ≡ true → m < k
less m k e = grind (arith, nat_tests)

below_is : (j : ℤ) (n : ℕ) → is_below j (suc n) ≡ true → nat_abs j ≤ n
below_is (pos m) n e = omega (arith, less m (suc n) (right (int_le (pos 0) (pos m)) (int_lt (pos m) (pos (suc n))) e))
below_is (negsuc m) n e = absurd (false≢true e)

-- the level of an expression that isn't refused is 0 to 7
pub level-low : (s : State) → IsState s → (e : Tree) → walk s e ≡ None → level s e ≤ 7
unfolding part walk
level-low s h (Num n) w = h.low
level-low s h (At i) w = h.low
level-low s h (Named name) w = by (named s name) refl (unless_none (is_bound s name) NoName w)
  where
    by : (o : Option FlatFunction) → named s name ≡ o → is_some o ≡ true → (unwrap_or o nothing).level ≤ 7
    by None e b = absurd (false≢true b)
    by (Some f) e b = (named-flat s h name f e).level_in
level-low s h (Call head es) w = refusal-low head (meant s es) (or_none_second (walks s es) (call_refusal head (meant s es)) w)

-- what a `let` binds is a flat function
pub function_from-flat : (s : State) (e : Tree) → IsState s → tree_fits e ≡ true → walk s e ≡ None
    → IsFlatFunction (function_from s e)
function_from-flat s e h t w =
    tabulated_flat (level s e) (λ bits. unwrap_or (value s e bits) (pos 0)) (level-low s h e w) (λ bits. by (value s e bits) (value-fits s h e t bits))
  where
    by : (o : Option ℤ) → FitsIf o → Fits (unwrap_or o (pos 0))
    by None k = truth_fits false
    by (Some v) k = k v refl

bind_flat : (fs : List (List ℕ × FlatFunction)) (name : List ℕ) (f : FlatFunction) → All (λ b. IsFlatFunction b.1) fs
    → IsFlatFunction f → All (λ b. IsFlatFunction b.1) (bind fs name f)
bind_flat [] name f h flat = All-cons (λ b. IsFlatFunction b.1) (name, f) [] flat (All-nil _)
bind_flat (b ∷ bs) name f h flat =
    by (bytes_eq name b.0) (bind_flat bs name f (All-tail (λ b. IsFlatFunction b.1) b bs h) flat)
  where
    by : (t : Bool) → All (λ b. IsFlatFunction b.1) (bind bs name f)
        → All (λ b. IsFlatFunction b.1) (cond t ((b.0, f) ∷ bs) (b ∷ bind bs name f))
    by true later = All-cons (λ b. IsFlatFunction b.1) (b.0, f) bs flat (All-tail (λ b. IsFlatFunction b.1) b bs h)
    by false later = All-cons (λ b. IsFlatFunction b.1) b (bind bs name f) (All-head (λ b. IsFlatFunction b.1) b bs h) later

-- an outcome whose first refusal doesn't count
pub unless_refused-passes : (first : Option Refusal) (later : List (Option Refusal)) (outcome : Outcome) (u : State)
    (reply : List ℕ) → unless_refused (first ∷ later) outcome ≡ Goes u reply
    → (first ≡ None) × (unless_refused later outcome ≡ Goes u reply)
unless_refused-passes None later outcome u reply e = (refl, e)
unless_refused-passes (Some r) later outcome u reply e = absurd (false≢true (sym (ap refuses e)))

-- a rule that counts for nothing
lack_none : (s : State) → needs_level s ≡ None → s.level ≡ None → ⊥
lack_none s e none = none-some NoLevel (sym e ∙ ap (λ (o : Option ℕ). where_holds (is_none o) NoLevel) none)

holds_not : (b : Bool) (r : Refusal) → where_holds b r ≡ None → b ≡ false
holds_not false r e = refl
holds_not true r e = absurd (none-some r (sym e))

not_false : (b : Bool) → not b ≡ false → b ≡ true
not_false true e = refl
not_false false e = absurd (false≢true (sym e))

-- an answer leaves the state
abbrev Keeps : State → Outcome → Type 0
Keeps s outcome = (u : State) (reply : List ℕ) → outcome ≡ Goes u reply → s ≡ u

keeps_here : (s : State) (text : List ℕ) → Keeps s (Goes s text)
keeps_here s text u reply e = ap (state_of s) e

keeps_unless : (s : State) (first : Option Refusal) (later : List (Option Refusal)) (outcome : Outcome)
    → Keeps s (unless_refused later outcome) → Keeps s (unless_refused (first ∷ later) outcome)
keeps_unless s first later outcome h u reply e = h u reply (unless_refused-passes first later outcome u reply e).1

keeps_two : (s : State) (first second : Option Refusal) (text : List ℕ) → Keeps s (unless_refused (first ∷ second ∷ []) (Goes s text))
keeps_two s first second text = keeps_unless s first (second ∷ []) (Goes s text) (keeps_unless s second [] (Goes s text) (keeps_here s text))

keeps_function : (s : State) (found : Option FlatFunction) (answer : FlatFunction → Outcome)
    → ((f : FlatFunction) → Keeps s (answer f)) → Keeps s (with_function found answer)
keeps_function s None answer h u reply e = absurd (false≢true (sym (ap refuses e)))
keeps_function s (Some f) answer h u reply e = h f u reply e

keeps_asked : (s : State) (name : List ℕ) (answer : FlatFunction → Outcome) → ((f : FlatFunction) → Keeps s (answer f))
    → Keeps s (asks s name answer)
keeps_asked s name answer h =
    keeps_unless s (needs_level s) [] (with_function (named s name) answer) (keeps_function s (named s name) answer h)

set_holds : (s u : State) (n : ℤ) (reply : List ℕ) → IsState s → set_level s n ≡ Goes u reply → IsState u
unfolding set_level
set_holds s u n reply h e =
    let goes = Goes (record s { level = Some (nat_abs n) }) [] in
    let again = unless_refused-passes (where_holds (is_some s.level) LevelAgain) (where_holds (not (is_below n 8)) BadLevel ∷ []) goes u reply e in
    let high = unless_refused-passes (where_holds (not (is_below n 8)) BadLevel) [] goes u reply again.1 in
    subst (λ (v : State). IsState v) (ap (state_of s) high.1)
    (record {
      low = below_is n 7 (not_false (is_below n 8) (holds_not (not (is_below n 8)) BadLevel high.0));
      unset = λ c. absurd (none-some (nat_abs n) (sym c));
      room = subst (λ (vs : List (List ℕ)). length vs ≤ 2 ^ nat_abs n) (sym (h.unset (unset s.level (holds_not (is_some s.level) LevelAgain again.0))).0) (omega arith);
      flat = h.flat;
      differ = h.differ;
    })
  where
    unset : (o : Option ℕ) → is_some o ≡ false → o ≡ None
    unset None e = refl
    unset (Some k) e = absurd (false≢true (sym e))

declare_holds : (s u : State) (names : List (List ℕ)) (reply : List ℕ) → IsState s → declare s names ≡ Goes u reply
    → IsState u
unfolding declare
declare_holds s u names reply h e =
    let goes = Goes (record s { variables = s.variables ++ names }) [] in
    let many = where_holds (not (have_room s names)) TooManyVariables in
    let lack = unless_refused-passes (needs_level s) (where_holds (clashes s names) Taken ∷ many ∷ []) goes u reply e in
    let free = unless_refused-passes (where_holds (clashes s names) Taken) (many ∷ []) goes u reply lack.1 in
    let fits = unless_refused-passes many [] goes u reply free.1 in
    let room = not_false (have_room s names) (holds_not (not (have_room s names)) TooManyVariables fits.0) in
    subst (λ (v : State). IsState v) (ap (state_of s) fits.1)
    (record {
      low = h.low;
      unset = λ n. absurd (lack_none s lack.0 n);
      room =
          subst (λ (m : ℕ). m ≤ 2 ^ level_in s) (sym (length-append s.variables names)) (le_is (length s.variables + length names) (2 ^ level_in s) room);
      flat = h.flat;
      differ = differ-vars s names h.differ (holds_not (clashes s names) Taken free.0);
    })

define_holds : (s u : State) (name : List ℕ) (e : Tree) (reply : List ℕ) → IsState s → tree_fits e ≡ true
    → define s name e ≡ Goes u reply → IsState u
unfolding define
define_holds s u name e reply h fit g =
    let goes = Goes (record s { functions = bind s.functions name (function_from s e) }) [] in
    let over_it = option_map Overflow (over s e) in
    let lack = unless_refused-passes (needs_level s) (where_holds (is_among s.variables name) Taken ∷ walk s e ∷ over_it ∷ []) goes u reply g in
    let free = unless_refused-passes (where_holds (is_among s.variables name) Taken) (walk s e ∷ over_it ∷ []) goes u reply lack.1 in
    let walked = unless_refused-passes (walk s e) (over_it ∷ []) goes u reply free.1 in
    let fits = unless_refused-passes over_it [] goes u reply walked.1 in
    subst (λ (v : State). IsState v) (ap (state_of s) fits.1)
    (record {
      low = h.low;
      unset = λ n. absurd (lack_none s lack.0 n);
      room = h.room;
      flat = bind_flat s.functions name (function_from s e) h.flat (function_from-flat s e h fit walked.0);
      differ = differ-let s name (function_from s e) h.differ (holds_not (is_among s.variables name) Taken free.0);
    })

-- a level is set
abbrev HasLevel : State → Type 0
HasLevel s = s.level ≡ None → ⊥

less_not : (m k : ℕ) → nat_le m k ≡ false → k < m
less_not m k e = grind (arith, nat_tests)

input_holds : (s : State) (name : List ℕ) → IsState s → HasLevel s → input_refusal s name ≡ None → IsState (with_input s name)
input_holds s name h set e = by (is_among s.variables name) e
  where
    by : (b : Bool)
        → cond b None (option_or (where_holds (is_bound s name) Taken) (where_holds (nat_le (2 ^ level_in s) (length s.variables)) TooManyVariables)) ≡ None
        → IsState (record s { variables = cond b s.variables (s.variables ++ name ∷ []) })
    by true k = record { low = h.low; unset = λ n. absurd (set n); room = h.room; flat = h.flat; differ = h.differ }
    by false k =
        let free = holds_not (is_bound s name) Taken (or_none_first (where_holds (is_bound s name) Taken) _ k) in
        let full = or_none_second (where_holds (is_bound s name) Taken) _ k in
        let room = less_not (2 ^ level_in s) (length s.variables) (holds_not _ TooManyVariables full) in
        record {
          low = h.low;
          unset = λ n. absurd (set n);
          room = subst (λ (m : ℕ). m ≤ 2 ^ level_in s) (sym (length-append s.variables (name ∷ []))) (omega (arith, room));
          flat = h.flat;
          differ = differ-vars s (name ∷ []) h.differ (ap (λ b. (b || false) || false) free);
        }

inputs_hold : (s : State) (names : List (List ℕ)) → IsState s → HasLevel s → inputs_refusal s names ≡ None
    → IsState (with_inputs s names) × HasLevel (with_inputs s names)
inputs_hold s [] h set e = (h, set)
inputs_hold s (name ∷ later) h set e =
    inputs_hold (with_input s name) later
    (input_holds s name h set (or_none_first (input_refusal s name) (inputs_refusal (with_input s name) later) e)) set
    (or_none_second (input_refusal s name) (inputs_refusal (with_input s name) later) e)

outputs_hold : (s : State) (prefix : List ℕ) (function : List ℕ → FlatFunction) (outputs : List (List ℕ)) → IsState s → HasLevel s
    → ((output : List ℕ) → IsFlatFunction (function output)) → outputs_clash s prefix outputs ≡ false
    → IsState (with_outputs s prefix function outputs)
outputs_hold s prefix function [] h set flat free = h
outputs_hold s prefix function (output ∷ later) h set flat free =
    let name = output_name prefix output in
    let here = or_first (is_among s.variables name) (outputs_clash s prefix later) free in
    outputs_hold (record s { functions = bind s.functions name (function output) }) prefix function later
    (record {
      low = h.low;
      unset = λ n. absurd (set n);
      room = h.room;
      flat = bind_flat s.functions name (function output) h.flat (flat output);
      differ = differ-let s name (function output) h.differ here;
    })
    set flat (or_second (is_among s.variables name) (outputs_clash s prefix later) free)

-- the function of an output is a flat function
pub output_function-flat : (s : State) (models : List ModelDef) (output : List ℕ) → IsState s
    → IsFlatFunction (output_function s models output)
output_function-flat s models output h =
    tabulated_flat (level_in s) (λ bits. truth (circuit_value models (input_bits s.variables (inputs_of models) bits) output)) h.low
    (λ bits. truth_fits (circuit_value models (input_bits s.variables (inputs_of models) bits) output))

bytes_hold : (s u : State) (prefix bytes reply : List ℕ) → IsState s → HasLevel s → load_bytes s prefix bytes ≡ Goes u reply
    → IsState u
bytes_hold s u prefix bytes reply h set e =
    let models = net bytes in
    let goes = Goes (with_circuit s prefix models) [] in
    let inputs = inputs_refusal s (inputs_of models) in
    let clash = outputs_clash (declared_for s models) prefix (outputs_of models) in
    let last = where_holds clash Taken in
    let short = unless_refused-passes (where_holds (nat_lt file_limit (length bytes)) FileTooLarge) (option_map Circuit (fault bytes) ∷ option_map Links (link models) ∷ inputs ∷ last ∷ []) goes u reply e in
    let good = unless_refused-passes (option_map Circuit (fault bytes)) (option_map Links (link models) ∷ inputs ∷ last ∷ []) goes u reply short.1 in
    let linked = unless_refused-passes (option_map Links (link models)) (inputs ∷ last ∷ []) goes u reply good.1 in
    let walked = unless_refused-passes inputs (last ∷ []) goes u reply linked.1 in
    let free = unless_refused-passes last [] goes u reply walked.1 in
    let t = inputs_hold s (inputs_of models) h set walked.0 in
    subst (λ (v : State). IsState v) (ap (state_of s) free.1)
    (outputs_hold (declared_for s models) prefix (output_function (declared_for s models) models) (outputs_of models) t.0 t.1
    (λ output. output_function-flat (declared_for s models) models output t.0) (holds_not clash Taken free.0))

load_holds : (files : Files) (s u : State) (prefix file reply : List ℕ) → IsState s → load_circuit files s prefix file ≡ Goes u reply
    → IsState u
unfolding load_circuit
load_holds files s u prefix file reply h e =
    let found = with_content (content_of files file) (load_bytes s prefix) in
    let lack = unless_refused-passes (needs_level s) [] found u reply e in
    by (content_of files file) (lack_none s lack.0) lack.1
  where
    by : (content : Option (List ℕ)) → HasLevel s → with_content content (load_bytes s prefix) ≡ Goes u reply → IsState u
    by None set k = absurd (false≢true (sym (ap refuses k)))
    by (Some bytes) set k = bytes_hold s u prefix bytes reply h set k

-- A statement that isn't refused leads to such a state again.
pub step-holds : (files : Files) (s u : State) (t : Statement) (reply : List ℕ) → IsState s → statement_fits t ≡ true
    → step files s t ≡ Goes u reply → IsState u
unfolding tell_value tell_first tell_list tell_entry tell_equal tell_size tell_stats
step-holds files s u Empty reply h fit e = subst (λ (v : State). IsState v) (keeps_here s [] u reply e) h
step-holds files s u (Level n) reply h fit e = set_holds s u n reply h e
step-holds files s u (Vars names) reply h fit e = declare_holds s u names reply h e
step-holds files s u (Let name t) reply h fit e = define_holds s u name t reply h fit e
step-holds files s u (Load prefix file) reply h fit e = load_holds files s u prefix file reply h e
step-holds files s u (Value name bits) reply h fit e =
    subst (λ (v : State). IsState v) (keeps_asked s name _ (λ f. keeps_unless s _ [] _ (keeps_here s _)) u reply e) h
step-holds files s u (First name n) reply h fit e =
    subst (λ (v : State). IsState v) (keeps_asked s name _ (λ f. keeps_here s _) u reply e) h
step-holds files s u (Listed name n most) reply h fit e =
    subst (λ (v : State). IsState v) (keeps_asked s name _ (λ f. keeps_unless s _ [] _ (keeps_here s _)) u reply e) h
step-holds files s u (Entry name row col) reply h fit e =
    subst (λ (v : State). IsState v)
    (keeps_asked s name _
    (λ f. keeps_two s (where_holds (f.level == 0) BadLevel) (where_holds (not (is_index f.level row && is_index f.level col)) OutOfRange) (value_reply (entry_in f (nat_abs row) (nat_abs col))))
    u reply e) h
step-holds files s u (Equal name other) reply h fit e =
    subst (λ (v : State). IsState v) (keeps_asked s name _ (λ f. keeps_function s (named s other) _ (λ g. keeps_unless s (where_holds (not (f.level == g.level)) LevelsDiffer) [] (Goes s (equal_answer f g)) (keeps_here s (equal_answer f g)))) u reply e) h
step-holds files s u (Size name) reply h fit e =
    subst (λ (v : State). IsState v) (keeps_asked s name _ (λ f. keeps_here s _) u reply e) h
step-holds files s u Stats reply h fit e =
    subst (λ (v : State). IsState v) (keeps_unless s _ [] _ (keeps_here s _) u reply e) h
