-- What is written of a reply, and what a statement does.
use Rattle.std.proofs.Common.{ℕ, zero, suc, ◌≡◌, ◌≤◌, ◌+◌, Bool, true, false, List, [], ◌∷◌, ◌++◌, length, refl, sym, ◌∙◌, ap, arith, subst}
use Rattle.std.specs.Prelude.{IsTrue, take, drop, flat_map, not, ◌&&◌, is_some, IsSome, Option, Some, None}
use Rattle.std.specs.Option.{option_or, option_map}
use Rattle.cf_model.specs.FlatFunctions.{FlatFunction}
use Rattle.cf_pkg.specs.declared.Func.{Func}
use Rattle.cf_pkg.specs.Packages.{meaning}
use Rattle.cf_pkg.proofs.Valued.{Keeps-same}
use Rattle.std.proofs.lemmas.List.{take-append-drop, append_assoc, append-nil}
use Rattle.cf_io.specs.Causes.{Rose}
use Rattle.cf_io.specs.Shown.{SinkView}
use Rattle.cf_reference.specs.Trees.{Tree, Statement, Empty, Level, Vars, Let, Load, Value, First, Listed, Entry, Equal, Size, Stats}
use Rattle.cf_reference.specs.Reasons.{Taken, NoLevel, Overflow, unless}
use Rattle.cf_reference.specs.States.{State, Files, is_among}
use Rattle.cf_reference.specs.States as states
use Rattle.cf_reference.specs.Expressions.{walk}
use Rattle.cf_reference.specs.Failures.{over}
use Rattle.cf_reference.specs.Carrying.{Refuses, Goes, function_from, define, load_circuit, step}
use Rattle.cf_reference.specs.Scripts.{refuses}
use Rattle.cf_reference.proofs.StepLaws.{step-Let-fails, step-Let-whole, step-Let-taken, step-without, WantsLevel}
use Rattle.cf_session.specs.declared.faults.Refusal.TheVariants as refusal
use Rattle.cf_session.specs.declared.faults.StepFault.{StepFault}
use Rattle.cf_session.proofs.WalkFacts.{none-is}
use Rattle.std.proofs.lemmas.Bool.{false≢true}
use Rattle.cf_session.specs.declared.faults.StepFault.TheVariants.{NoMemory, Refused}
use Rattle.cf_session.specs.declared.step.Stepped.TheVariants as stepped
use Rattle.cf_session.specs.Faults.{reason_of}
use Rattle.cf_session.specs.Sessions.{Held, Names, names_of, state_of}
use Rattle.cf_session.specs.Building.{Grows}
use Rattle.cf_session.specs.Building as building
use Rattle.cf_session.specs.Statements.{IsFaultOfStep}
use Rattle.cf_session.proofs.Growth.{grown_same}
use Rattle.cf_session.proofs.StatementFacts.{some-is}
use Rattle.cf_reference.specs.Replies.{bits_reply, listed_reply}
use Rattle.cf_reference.specs.Answers.{list_reply}
use Rattle.cf_session.specs.Stepping.{AppendsFront, Wrote, Failed, Puts, Does, reply_in, wants_level, lacks_level}

-- a front of some length
front-of : (before after text : List ℕ) (n : ℕ) → after ≡ before ++ take n text → AppendsFront before after text
front-of before after text n e =
    record { front = take n text; rest = drop n text; appended = e; whole = sym (take-append-drop n text) }

pub puts : (before after : SinkView) (text : List ℕ) (all : Bool) → after.tells ≡ before.tells → before.faults ≤ after.faults
    → (IsTrue before.tells → IsTrue all → after.written ≡ before.written ++ text)
    → (IsTrue before.tells → (n : ℕ) × (after.written ≡ before.written ++ take n text))
    → (all ≡ false → Rose before.faults after.faults) → Puts before after text all
puts before after text true told later whole front rose = record { told = told; later = later; bytes = λ t. whole t refl }
puts before after text false told later whole front rose = record {
  told = told;
  rose = rose refl;
  later = later;
  front = λ t. (let f = front t in front-of before.written after.written text f.0 f.1);
}

-- Some lines of a list were written, and these assignments are left.
pub record HasListed (before now : SinkView) (all left : List (List Bool)) (count : ℕ) : Type 0 where
  pub told : now.tells ≡ before.tells
  pub later : before.faults ≤ now.faults
  pub within : count ≤ length all
  pub left_is : left ≡ drop count all
  pub bytes : IsTrue before.tells → now.written ≡ before.written ++ flat_map bits_reply (take count all)

pub none-listed : (before : SinkView) (all : List (List Bool)) → HasListed before before all all 0
none-listed before all = record {
  told = refl;
  later = omega arith;
  within = omega arith;
  left_is = refl;
  bytes = λ t. sym (append-nil before.written);
}

-- the next assignment that is left
drop_next : {A : Type 0} (all : List A) (n : ℕ) (x : A) (rest : List A) → drop n all ≡ x ∷ rest
    → (rest ≡ drop (suc n) all) × (take (suc n) all ≡ take n all ++ x ∷ []) × (suc n ≤ length all)
drop_next [] zero x rest e = cc
drop_next [] (suc n) x rest e = cc
drop_next (y ∷ all) zero x rest e =
    (ap (λ l. drop 1 l) (sym e), ap (λ l. take 1 l) e, omega arith)
drop_next (y ∷ all) (suc n) x rest e =
    let h = drop_next all n x rest e in (h.0, ap (λ l. y ∷ l) h.1, omega (arith, h.2))

drop_none : {A : Type 0} (all : List A) (n : ℕ) → n ≤ length all → [] ≡ drop n all → (take n all ≡ all) × (n ≡ length all)
drop_none [] zero inside e = (refl, refl)
drop_none [] (suc n) inside e = absurd (omega (arith, inside))
drop_none (y ∷ all) zero inside e = cc
drop_none (y ∷ all) (suc n) inside e =
    let h = drop_none all n (omega (arith, inside)) e in (ap (λ l. y ∷ l) h.0, ap suc h.1)

flat_append : (xs ys : List (List Bool)) → flat_map bits_reply (xs ++ ys) ≡ flat_map bits_reply xs ++ flat_map bits_reply ys
flat_append [] ys = refl
flat_append (x ∷ xs) ys =
    ap (λ rest. bits_reply x ++ rest) (flat_append xs ys)
    ∙ sym (append_assoc (bits_reply x) (flat_map bits_reply xs) (flat_map bits_reply ys))

flat_one : (x : List Bool) → flat_map bits_reply (x ∷ []) ≡ bits_reply x
flat_one x = append-nil (bits_reply x)

-- one line more
pub one-listed : (before now after : SinkView) (all left rest : List (List Bool)) (x : List Bool) (count : ℕ) (text : List ℕ)
    → HasListed before now all left count → left ≡ x ∷ rest → text ≡ bits_reply x → Wrote now after text
    → HasListed before after all rest (count + 1)
one-listed before now after all left rest x count text h next is w =
    let n = drop_next all count x rest (sym h.left_is ∙ next) in
    let one : suc count ≡ count + 1 = omega arith in
    subst (λ m. HasListed before after all rest m) one
    (record {
      told = w.told ∙ h.told;
      later = omega (arith, h.later, w.later);
      within = n.2;
      left_is = n.0;
      bytes = λ t.
          w.bytes (subst (λ b. IsTrue b) (sym h.told) t) ∙ ap (λ xs. xs ++ text) (h.bytes t)
          ∙ append_assoc before.written (flat_map bits_reply (take count all)) text
          ∙ ap (λ xs. before.written ++ (flat_map bits_reply (take count all) ++ xs)) (is ∙ sym (flat_one x))
          ∙ ap (λ xs. before.written ++ xs) (sym (flat_append (take count all) (x ∷ [])))
          ∙ ap (λ xs. before.written ++ flat_map bits_reply xs) (sym n.1);
    })

rose_earlier : (before now after : ℕ) → before ≤ now → Rose now after → Rose before after
rose_earlier before now after later rose = omega (arith, later, rose)

-- a front of what follows a text that was written
front_on : (before now after first text rest whole : List ℕ) → now ≡ before ++ first → whole ≡ first ++ (text ++ rest)
    → AppendsFront now after text → AppendsFront before after whole
front_on before now after first text rest whole e w f = record {
  front = first ++ f.front;
  rest = f.rest ++ rest;
  appended = f.appended ∙ ap (λ l. l ++ f.front) e ∙ append_assoc before first f.front;
  whole =
      w ∙ ap (λ l. first ++ (l ++ rest)) f.whole ∙ ap (λ l. first ++ l) (append_assoc f.front f.rest rest)
      ∙ sym (append_assoc first f.front (f.rest ++ rest));
}

-- a line that isn't written
pub not-listed : (before now after : SinkView) (all left rest : List (List Bool)) (x : List Bool) (count : ℕ) (text : List ℕ)
    → HasListed before now all left count → left ≡ x ∷ rest → text ≡ bits_reply x → Failed now after text
    → Failed before after (list_reply all)
not-listed before now after all left rest x count text h next is f =
    let whole : all ≡ take count all ++ x ∷ rest
    = sym (take-append-drop count all) ∙ ap (λ l. take count all ++ l) (sym h.left_is ∙ next) in
    record {
      told = f.told ∙ h.told;
      rose = rose_earlier before.faults now.faults after.faults h.later f.rose;
      later = omega (arith, h.later, f.later);
      front = λ t.
          front_on before.written now.written after.written (flat_map bits_reply (take count all)) text (flat_map bits_reply rest ++ listed_reply (length all)) (list_reply all) (h.bytes t)
          (ap (λ l. flat_map bits_reply l ++ listed_reply (length all)) whole ∙ ap (λ l. l ++ listed_reply (length all)) (flat_append (take count all) (x ∷ rest)) ∙ append_assoc (flat_map bits_reply (take count all)) (bits_reply x ++ flat_map bits_reply rest) (listed_reply (length all)) ∙ ap (λ l. flat_map bits_reply (take count all) ++ l) (append_assoc (bits_reply x) (flat_map bits_reply rest) (listed_reply (length all)) ∙ ap (λ l. l ++ (flat_map bits_reply rest ++ listed_reply (length all))) (sym is)))
          (f.front (subst (λ b. IsTrue b) (sym h.told) t));
    }

-- the last line
pub all-listed : (before now after : SinkView) (all left : List (List Bool)) (count : ℕ) (text : List ℕ) (whole : Bool)
    → HasListed before now all left count → left ≡ [] → text ≡ listed_reply count → Puts now after text whole
    → Puts before after (list_reply all) whole
all-listed before now after all left count text true h none is w =
    let end = drop_none all count h.within (sym none ∙ h.left_is) in
    record {
      told = w.told ∙ h.told;
      later = omega (arith, h.later, w.later);
      bytes = λ t.
          w.bytes (subst (λ b. IsTrue b) (sym h.told) t) ∙ ap (λ xs. xs ++ text) (h.bytes t)
          ∙ append_assoc before.written (flat_map bits_reply (take count all)) text
          ∙ ap (λ l. before.written ++ (flat_map bits_reply l ++ text)) end.0
          ∙ ap (λ xs. before.written ++ (flat_map bits_reply all ++ xs)) (is ∙ ap listed_reply end.1);
    }
all-listed before now after all left count text false h none is f =
    let end = drop_none all count h.within (sym none ∙ h.left_is) in
    record {
      told = f.told ∙ h.told;
      rose = rose_earlier before.faults now.faults after.faults h.later f.rose;
      later = omega (arith, h.later, f.later);
      front = λ t.
          front_on before.written now.written after.written (flat_map bits_reply (take count all)) text [] (list_reply all) (h.bytes t)
          (ap (λ l. flat_map bits_reply l ++ listed_reply (length all)) (sym end.0) ∙ ap (λ l. flat_map bits_reply (take count all) ++ l) (ap listed_reply (sym end.1) ∙ sym is ∙ sym (append-nil text)))
          (f.front (subst (λ b. IsTrue b) (sym h.told) t));
    }

-- what is said of a fault of building an expression, as one of the statement
build_within : (s : State) (k : ℕ) (e : Tree) → s.level ≡ Some k
    → building.refusal_of s e ≡ option_or (walk s e) (option_map Overflow (over s e))
build_within s k e set =
    ap (λ (o : Option ℕ). option_or (unless (is_some o) NoLevel) (option_or (walk s e) (option_map Overflow (over s e)))) set

pub let-fault : (h : Held) (name : List ℕ) (e : Tree) (fault : StepFault) → IsSome h.level
    → is_among (state_of h).variables name ≡ false → building.IsFaultOfBuild (state_of h) e fault
    → IsFaultOfStep (define (state_of h) name e) fault
let-fault h name e NoMemory set free f = tt
let-fault h name e (Refused r) set free f =
    let some = some-is h.level set in
    step-Let-fails (state_of h) some.0 name e (reason_of r) some.1 free (sym (build_within (state_of h) some.0 e some.1) ∙ f)

pub let-taken : (h : Held) (name : List ℕ) (e : Tree) → IsSome h.level → is_among (state_of h).variables name ≡ true
    → define (state_of h) name e ≡ Refuses Taken
let-taken h name e set taken = let some = some-is h.level set in step-Let-taken (state_of h) some.0 name e some.1 taken

pub let-goes : (h m n : Held) (name : List ℕ) (e : Tree) (f : Func) → IsSome h.level
    → is_among (state_of h).variables name ≡ false → building.refusal_of (state_of h) e ≡ None
    → meaning m.pkg f ≡ function_from (state_of h) e → Grows h m → n.level ≡ m.level → n.variables ≡ m.variables
    → (state_of n).functions ≡ states.bind (state_of m).functions name (meaning m.pkg f)
    → define (state_of h) name e ≡ Goes (state_of n) []
let-goes h m n name e f set free none means grows level variables functions =
    let some = some-is h.level set in
    let same : (state_of n).functions ≡ states.bind (state_of h).functions name (function_from (state_of h) e)
    = functions ∙ ap (λ (t : State). states.bind t.functions name (meaning m.pkg f)) grows.state ∙ ap (states.bind (state_of h).functions name) means in
    step-Let-whole (state_of h) some.0 name e some.1 free (sym (build_within (state_of h) some.0 e some.1) ∙ none)
    ∙ ap (λ (fs : List (List ℕ × FlatFunction)). Goes (record { level = h.level; variables = names_of h.variables; functions = fs }) []) (sym same)
    ∙ ap (λ (vs : Names). Goes (record { level = h.level; variables = names_of vs; functions = (state_of n).functions }) []) (sym (variables ∙ grows.names.variables))
    ∙ ap (λ (l : Option ℕ). Goes (record { level = l; variables = names_of n.variables; functions = (state_of n).functions }) []) (sym (level ∙ grows.names.level))

-- where nothing is to be written
nothing-wrote : (at : SinkView) → Wrote at at []
nothing-wrote at = record { told = refl; later = omega arith; bytes = λ t. sym (append-nil at.written) }

-- an empty line
pub does-nothing : (files : Files) (h : Held) (t : Statement) (at : SinkView) → t ≡ Empty
    → Does (step files (state_of h) t) h h at at stepped.Written
does-nothing files h t at is =
    let e = ap (step files (state_of h)) is in
    (ap refuses e, e ∙ ap (Goes (state_of h)) (sym (ap reply_in e)), Keeps-same h.pkg, subst (λ text. Wrote at at text) (sym (ap reply_in e)) (nothing-wrote at))

-- a statement that wants a level
wants : (t : Statement) → wants_level t ≡ true → WantsLevel t
wants Empty e = false≢true e
wants (Level k) e = false≢true e
wants (Vars names) e = tt
wants (Let name u) e = tt
wants (Load prefix file) e = tt
wants (Value name bits) e = tt
wants (First name v) e = tt
wants (Listed name v most) e = tt
wants (Entry name row col) e = tt
wants (Equal name other) e = tt
wants (Size name) e = tt
wants Stats e = tt

pub does-lack : (files : Files) (h : Held) (t : Statement) (at : SinkView) → lacks_level (state_of h) t ≡ true
    → Does (step files (state_of h) t) h h at at (stepped.Refused refusal.NoLevel)
does-lack files h t at e = by (is_some h.level) (wants_level t) refl refl e
  where
    by : (a b : Bool) → is_some h.level ≡ a → wants_level t ≡ b → not a && b ≡ true
        → Does (step files (state_of h) t) h h at at (stepped.Refused refusal.NoLevel)
    by true b p q e = absurd (false≢true e)
    by false false p q e = absurd (false≢true e)
    by false true p q e = (step-without files (state_of h) t (none-is h.level p) (wants t q), grown_same h, refl)

-- `load` without a level
pub load-lacks : (files : Files) (h : Held) (prefix file : List ℕ) (at : SinkView) → is_some h.level ≡ false
    → Does (load_circuit files (state_of h) prefix file) h h at at (stepped.Refused refusal.NoLevel)
load-lacks files h prefix file at e =
    (step-without files (state_of h) (Load prefix file) (none-is h.level e) tt, grown_same h, refl)
