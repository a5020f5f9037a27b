-- How names are bound.
use Rattle.std.proofs.Common.{ℕ, ◌≡◌, ◌≤◌, Bool, true, false, cond, List, [], ◌∷◌, ◌++◌, length, map, Option, Some, None, refl, ap, sym, ◌∙◌, append_assoc}
use Rattle.std.specs.Prelude.{◌&&◌, ◌||◌, nat_le, is_some}
use Rattle.std.specs.List.{list_any}
use Rattle.std.specs.Option.{option_or, option_map}
use Rattle.std.specs.Str.{bytes_eq}
use Rattle.std.proofs.lemmas.Bool.{false≢true}
use Rattle.std.proofs.lemmas.Slice.Eq.{bytes_eq-Decides}
use Rattle.cf_model.specs.Assignments.{bits_of_text, are_digits}
use Rattle.cf_model.specs.Renumbering.{place}
use Rattle.cf_model.specs.FlatFunctions.{FlatFunction, variable}
use Rattle.cf_reference.specs.States.{State, level_in, is_among, position_of, function_named, bind, named, is_bound, repeats, names_in}
use Rattle.cf_reference.specs.Answers.{spelled}
use Rattle.cf_reference.specs.Carrying.{clashes}
use Rattle.cf_reference.proofs.TestFacts.{same_bytes, is_le}

equal_bytes : (xs ys : List ℕ) → xs ≡ ys → bytes_eq xs ys ≡ true
equal_bytes xs ys e = (bytes_eq-Decides xs ys).1 e

same_true : (a b : Bool) → (a ≡ true → b ≡ true) → (b ≡ true → a ≡ true) → a ≡ b
same_true true b h k = sym (h refl)
same_true false true h k = k refl
same_true false false h k = refl

-- the order of two texts doesn't matter
pub turned_bytes : (xs ys : List ℕ) → bytes_eq xs ys ≡ bytes_eq ys xs
turned_bytes xs ys =
    same_true (bytes_eq xs ys) (bytes_eq ys xs)
    (λ h. equal_bytes ys xs (sym (same_bytes xs ys h))) (λ h. equal_bytes xs ys (sym (same_bytes ys xs h)))

-- what a name stands for among functions, once a name is bound
pub function_named-bind : (fs : List (List ℕ × FlatFunction)) (name : List ℕ) (f : FlatFunction) (other : List ℕ)
    → function_named (bind fs name f) other ≡ cond (bytes_eq other name) (Some f) (function_named fs other)
function_named-bind [] name f other = refl
function_named-bind (b ∷ bs) name f other = by (bytes_eq name b.0) refl (function_named-bind bs name f other)
  where
    same : (t : Bool) → bytes_eq other b.0 ≡ t → bytes_eq name b.0 ≡ true
        → cond t (Some f) (function_named bs other) ≡ cond t (Some f) (cond t (Some b.1) (function_named bs other))
    same true e h = refl
    same false e h = refl

    apart : (t u : Bool) → bytes_eq other b.0 ≡ t → bytes_eq other name ≡ u → bytes_eq name b.0 ≡ false
        → cond t (Some b.1) (cond u (Some f) (function_named bs other)) ≡ cond u (Some f) (cond t (Some b.1) (function_named bs other))
    apart true true e d h =
        absurd (false≢true (sym h ∙ equal_bytes name b.0 (sym (same_bytes other name d) ∙ same_bytes other b.0 e)))
    apart true false e d h = refl
    apart false true e d h = refl
    apart false false e d h = refl

    by : (t : Bool) → bytes_eq name b.0 ≡ t
        → function_named (bind bs name f) other ≡ cond (bytes_eq other name) (Some f) (function_named bs other)
        → function_named (cond t ((b.0, f) ∷ bs) (b ∷ bind bs name f)) other
        ≡ cond (bytes_eq other name) (Some f) (cond (bytes_eq other b.0) (Some b.1) (function_named bs other))
    by true h later =
        same (bytes_eq other b.0) refl h
        ∙ ap (λ (w : List ℕ). cond (bytes_eq other w) (Some f) (cond (bytes_eq other b.0) (Some b.1) (function_named bs other)))
        (sym (same_bytes name b.0 h))
    by false h later =
        ap (λ o. cond (bytes_eq other b.0) (Some b.1) o) later ∙ apart (bytes_eq other b.0) (bytes_eq other name) refl refl h

-- A `let` gives its name a function; each other name stands for what it stood for before.
pub named-let : (s : State) (name : List ℕ) (f : FlatFunction) (other : List ℕ) → is_among s.variables name ≡ false
    → named (record { level = s.level; variables = s.variables; functions = bind s.functions name f }) other
    ≡ cond (bytes_eq other name) (Some f) (named s other)
named-let s name f other free = by (bytes_eq other name) refl
  where
    none_at : bytes_eq other name ≡ true → position_of s.variables other ≡ None
    none_at e =
        ap (position_of s.variables) (same_bytes other name e)
        ∙ ap (λ b. cond b (Some (place bytes_eq s.variables name)) None) free

    by : (t : Bool) → bytes_eq other name ≡ t
        → option_or (option_map (variable (level_in s)) (position_of s.variables other)) (function_named (bind s.functions name f) other)
        ≡ cond t (Some f) (named s other)
    by true e =
        ap (λ o. option_or (option_map (variable (level_in s)) o) (function_named (bind s.functions name f) other)) (none_at e)
        ∙ function_named-bind s.functions name f other
        ∙ ap (λ t. cond t (Some f) (function_named s.functions other)) e
    by false e =
        ap (λ o. option_or (option_map (variable (level_in s)) (position_of s.variables other)) o)
        (function_named-bind s.functions name f other ∙ ap (λ t. cond t (Some f) (function_named s.functions other)) e)

-- The names of a line one after another: whether one is bound, or is one of the earlier ones.
abbrev pub clashes_after : State → List (List ℕ) → List (List ℕ) → Bool
clashes_after s earlier [] = false
clashes_after s earlier (name ∷ later) =
    (is_bound s name || is_among earlier name) || clashes_after s (earlier ++ name ∷ []) later

among_more : (earlier : List (List ℕ)) (name other : List ℕ)
    → is_among (earlier ++ name ∷ []) other ≡ (is_among earlier other || bytes_eq name other)
among_more [] name other = or_false (bytes_eq name other)
  where
    or_false : (b : Bool) → b || false ≡ b
    or_false true = refl
    or_false false = refl
among_more (word ∷ earlier) name other =
    ap (λ b. bytes_eq word other || b) (among_more earlier name other)
    ∙ assoc (bytes_eq word other) (is_among earlier other) (bytes_eq name other)
  where
    assoc : (a b c : Bool) → a || (b || c) ≡ ((a || b) || c)
    assoc true b c = refl
    assoc false b c = refl

any_more : (earlier : List (List ℕ)) (name : List ℕ) (later : List (List ℕ))
    → list_any (is_among (earlier ++ name ∷ [])) later ≡ (list_any (is_among earlier) later || is_among later name)
any_more earlier name [] = refl
any_more earlier name (word ∷ later) =
    ap (λ b. b || list_any (is_among (earlier ++ name ∷ [])) later) (among_more earlier name word ∙ ap (λ b. is_among earlier word || b) (turned_bytes name word))
    ∙ ap (λ b. (is_among earlier word || bytes_eq word name) || b) (any_more earlier name later)
    ∙ shuffle (is_among earlier word) (bytes_eq word name) (list_any (is_among earlier) later) (is_among later name)
  where
    shuffle : (a b c d : Bool) → (a || b) || (c || d) ≡ ((a || c) || (b || d))
    shuffle true b c d = refl
    shuffle false true true d = refl
    shuffle false true false d = refl
    shuffle false false c d = refl

clashes_after_is : (s : State) (earlier names : List (List ℕ))
    → clashes_after s earlier names ≡ (list_any (is_bound s) names || (list_any (is_among earlier) names || repeats names))
clashes_after_is s earlier [] = refl
clashes_after_is s earlier (name ∷ later) =
    ap (λ b. (is_bound s name || is_among earlier name) || b)
    (clashes_after_is s (earlier ++ name ∷ []) later
    ∙ ap (λ b. list_any (is_bound s) later || (b || repeats later)) (any_more earlier name later))
    ∙ shuffle (is_bound s name) (is_among earlier name) (list_any (is_bound s) later) (list_any (is_among earlier) later) (is_among later name) (repeats later)
  where
    shuffle : (a b c d e f : Bool) → (a || b) || (c || ((d || e) || f)) ≡ ((a || c) || ((b || d) || (e || f)))
    shuffle true b c d e f = refl
    shuffle false true true d e f = refl
    shuffle false true false d e f = refl
    shuffle false false true d e f = refl
    shuffle false false false true e f = refl
    shuffle false false false false e f = refl

none_among : (names : List (List ℕ)) → list_any (is_among []) names ≡ false
none_among [] = refl
none_among (name ∷ names) = none_among names

-- `var` may test the names one after another
pub clashes-after : (s : State) (names : List (List ℕ)) → clashes s names ≡ clashes_after s [] names
clashes-after s names =
    sym (clashes_after_is s [] names ∙ ap (λ b. list_any (is_bound s) names || (b || repeats names)) (none_among names))

-- the bits that one digit to 128 spell
pub spelled-is : (text : List ℕ) → are_digits text ≡ true → 1 ≤ length text → length text ≤ 128
    → bits_of_text text ≡ Some (spelled text)
spelled-is text digits some short =
    ap (λ b. cond b (Some (spelled text)) None)
    (all_three (nat_le 1 (length text)) (nat_le (length text) 128) (are_digits text)
    (is_le 1 (length text) some) (is_le (length text) 128 short) digits)
  where
    all_three : (a b c : Bool) → a ≡ true → b ≡ true → c ≡ true → (a && b) && c ≡ true
    all_three a b c x y z = ap (λ t. (t && b) && c) x ∙ ap (λ t. t && c) y ∙ z

-- Names that differ: what each statement that adds names keeps.

or_assoc : (a b c : Bool) → a || (b || c) ≡ ((a || b) || c)
or_assoc true b c = refl
or_assoc false b c = refl

pub among-append : (a b : List (List ℕ)) (name : List ℕ) → is_among (a ++ b) name ≡ (is_among a name || is_among b name)
among-append [] b name = refl
among-append (word ∷ a) b name =
    ap (λ t. bytes_eq word name || t) (among-append a b name) ∙ or_assoc (bytes_eq word name) (is_among a name) (is_among b name)

any_append : (p : List ℕ → Bool) (a b : List (List ℕ)) → list_any p (a ++ b) ≡ (list_any p a || list_any p b)
any_append p [] b = refl
any_append p (word ∷ a) b = ap (λ t. p word || t) (any_append p a b) ∙ or_assoc (p word) (list_any p a) (list_any p b)

-- whether two lists of names have a name in common doesn't depend on their order
any_turned : (a b : List (List ℕ)) → list_any (is_among a) b ≡ list_any (is_among b) a
any_turned [] b = none_among b
any_turned (word ∷ a) b = any_first b ∙ ap (λ t. is_among b word || t) (any_turned a b)
  where
    shuffle : (x y u v : Bool) → (x || y) || (u || v) ≡ ((x || u) || (y || v))
    shuffle true y u v = refl
    shuffle false true true v = refl
    shuffle false true false v = refl
    shuffle false false u v = refl

    any_first : (c : List (List ℕ)) → list_any (is_among (word ∷ a)) c ≡ (is_among c word || list_any (is_among a) c)
    any_first [] = refl
    any_first (next ∷ c) =
        ap (λ t. (bytes_eq word next || is_among a next) || t) (any_first c)
        ∙ ap (λ t. (t || is_among a next) || (is_among c word || list_any (is_among a) c)) (turned_bytes word next)
        ∙ shuffle (bytes_eq next word) (is_among a next) (is_among c word) (list_any (is_among a) c)

repeats_append : (a b : List (List ℕ)) → repeats (a ++ b) ≡ ((repeats a || repeats b) || list_any (is_among b) a)
repeats_append [] b = or_false (repeats b)
  where
    or_false : (t : Bool) → t ≡ (t || false)
    or_false true = refl
    or_false false = refl
repeats_append (word ∷ a) b =
    ap (λ t. t || repeats (a ++ b)) (among-append a b word)
    ∙ ap (λ t. (is_among a word || is_among b word) || t) (repeats_append a b)
    ∙ shuffle (is_among a word) (is_among b word) (repeats a) (repeats b) (list_any (is_among b) a)
  where
    shuffle : (x y u v w : Bool) → (x || y) || ((u || v) || w) ≡ (((x || u) || v) || (y || w))
    shuffle true y u v w = refl
    shuffle false true true v w = refl
    shuffle false true false true w = refl
    shuffle false true false false w = refl
    shuffle false false true v w = refl
    shuffle false false false true w = refl
    shuffle false false false false w = refl

pub or_first : (a b : Bool) → a || b ≡ false → a ≡ false
or_first true b e = e
or_first false b e = refl

pub or_second : (a b : Bool) → a || b ≡ false → b ≡ false
or_second true b e = absurd (false≢true (sym e))
or_second false b e = e

neither : (a b : Bool) → a ≡ false → b ≡ false → a || b ≡ false
neither a b x y = ap (λ t. t || b) x ∙ y

-- names without a name twice, of which no name of one list is in the other
repeats_none : (a b : List (List ℕ)) → repeats a ≡ false → repeats b ≡ false → list_any (is_among b) a ≡ false
    → repeats (a ++ b) ≡ false
repeats_none a b x y z =
    repeats_append a b ∙ neither (repeats a || repeats b) (list_any (is_among b) a) (neither (repeats a) (repeats b) x y) z

-- the names of functions, once one is bound
names_bind : (fs : List (List ℕ × FlatFunction)) (name : List ℕ) (f : FlatFunction)
    → map (λ b. b.0) (bind fs name f)
    ≡ cond (is_among (map (λ b. b.0) fs) name) (map (λ b. b.0) fs) (map (λ b. b.0) fs ++ name ∷ [])
names_bind [] name f = refl
names_bind (b ∷ bs) name f =
    by (bytes_eq name b.0) (bytes_eq b.0 name) (is_among (map (λ b. b.0) bs) name) (turned_bytes name b.0) refl (names_bind bs name f)
  where
    by : (t u v : Bool) → t ≡ u → is_among (map (λ b. b.0) bs) name ≡ v
        → map (λ b. b.0) (bind bs name f)
        ≡ cond (is_among (map (λ b. b.0) bs) name) (map (λ b. b.0) bs) (map (λ b. b.0) bs ++ name ∷ [])
        → map (λ b. b.0) (cond t ((b.0, f) ∷ bs) (b ∷ bind bs name f))
        ≡ cond (u || is_among (map (λ b. b.0) bs) name) (b.0 ∷ map (λ b. b.0) bs) (b.0 ∷ (map (λ b. b.0) bs ++ name ∷ []))
    by true true v e w later = refl
    by true false v e w later = absurd (false≢true (sym e))
    by false true v e w later = absurd (false≢true e)
    by false false true e w later =
        ap (λ ns. b.0 ∷ ns) (later ∙ ap (λ t. cond t (map (λ b. b.0) bs) (map (λ b. b.0) bs ++ name ∷ [])) w)
        ∙ sym (ap (λ t. cond t (b.0 ∷ map (λ b. b.0) bs) (b.0 ∷ (map (λ b. b.0) bs ++ name ∷ []))) w)
    by false false false e w later =
        ap (λ ns. b.0 ∷ ns) (later ∙ ap (λ t. cond t (map (λ b. b.0) bs) (map (λ b. b.0) bs ++ name ∷ [])) w)
        ∙ sym (ap (λ t. cond t (b.0 ∷ map (λ b. b.0) bs) (b.0 ∷ (map (λ b. b.0) bs ++ name ∷ []))) w)

-- A `let` of a name that no variable has leaves the names different.
pub differ-let : (s : State) (name : List ℕ) (f : FlatFunction) → repeats (names_in s) ≡ false
    → is_among s.variables name ≡ false → repeats (names_in (record s { functions = bind s.functions name f })) ≡ false
differ-let s name f h free =
    ap (λ ns. repeats (s.variables ++ ns)) (names_bind s.functions name f)
    ∙ by (is_among (map (λ b. b.0) s.functions) name) refl
  where
    by : (t : Bool) → is_among (map (λ b. b.0) s.functions) name ≡ t
        → repeats (s.variables ++ cond t (map (λ b. b.0) s.functions) (map (λ b. b.0) s.functions ++ name ∷ [])) ≡ false
    by true e = h
    by false e =
        ap repeats (sym (append_assoc s.variables (map (λ b. b.0) s.functions) (name ∷ [])))
        ∙ repeats_none (names_in s) (name ∷ []) h refl
        (any_turned (name ∷ []) (names_in s) ∙ ap (λ t. t || false) (among-append s.variables (map (λ b. b.0) s.functions) name ∙ neither (is_among s.variables name) (is_among (map (λ b. b.0) s.functions) name) free e))

-- a name is bound where it is one of all names
bound_among : (s : State) (name : List ℕ) → is_bound s name ≡ is_among (names_in s) name
bound_among s name =
    by (is_among s.variables name) ∙ ap (λ t. is_among s.variables name || t) (named_among s.functions)
    ∙ sym (among-append s.variables (map (λ b. b.0) s.functions) name)
  where
    by : (t : Bool)
        → is_some (option_or (option_map (variable (level_in s)) (cond t (Some (place bytes_eq s.variables name)) None)) (function_named s.functions name))
        ≡ (t || is_some (function_named s.functions name))
    by true = refl
    by false = refl

    at : (t u : Bool) (g : FlatFunction) (o : Option FlatFunction) → t ≡ u → is_some (cond t (Some g) o) ≡ (u || is_some o)
    at true true g o e = refl
    at true false g o e = absurd (false≢true (sym e))
    at false true g o e = absurd (false≢true e)
    at false false g o e = refl

    named_among : (fs : List (List ℕ × FlatFunction)) → is_some (function_named fs name) ≡ is_among (map (λ b. b.0) fs) name
    named_among [] = refl
    named_among (b ∷ fs) =
        at (bytes_eq name b.0) (bytes_eq b.0 name) b.1 (function_named fs name) (turned_bytes name b.0)
        ∙ ap (λ t. bytes_eq b.0 name || t) (named_among fs)

any_bound : (s : State) (names : List (List ℕ)) → list_any (is_bound s) names ≡ list_any (is_among (names_in s)) names
any_bound s [] = refl
any_bound s (name ∷ names) =
    ap (λ t. t || list_any (is_bound s) names) (bound_among s name)
    ∙ ap (λ t. is_among (names_in s) name || t) (any_bound s names)

-- Variables that don't clash leave the names different.
pub differ-vars : (s : State) (names : List (List ℕ)) → repeats (names_in s) ≡ false → clashes s names ≡ false
    → repeats (names_in (record s { variables = s.variables ++ names })) ≡ false
differ-vars s names h e =
    let vs = s.variables in
    let fs = map (λ b. b.0) s.functions in
    let old = sym (repeats_append vs fs) ∙ h in
    let alone = or_first (repeats vs || repeats fs) (list_any (is_among fs) vs) old in
    let new = sym (any_bound s names) ∙ or_first (list_any (is_bound s) names) (repeats names) e in
    let apart = sym (any_append (is_among names) vs fs) ∙ any_turned names (vs ++ fs) ∙ new in
    repeats_none (vs ++ names) fs
    (repeats_none vs names (or_first (repeats vs) (repeats fs) alone) (or_second (list_any (is_bound s) names) (repeats names) e)
    (or_first (list_any (is_among names) vs) (list_any (is_among names) fs) apart))
    (or_second (repeats vs) (repeats fs) alone)
    (any_append (is_among fs) vs names
    ∙ neither (list_any (is_among fs) vs) (list_any (is_among fs) names)
    (or_second (repeats vs || repeats fs) (list_any (is_among fs) vs) old)
    (any_turned fs names ∙ or_second (list_any (is_among names) vs) (list_any (is_among names) fs) apart))
