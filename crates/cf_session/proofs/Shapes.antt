-- What the arguments of a head mean, by its signature.
use Rattle.std.proofs.Common.{ℕ, ℤ, suc, ◌≡◌, ◌+◌, true, List, [], ◌∷◌, length, Option, Some, None, refl, ap, sym, subst, ◌∙◌, arith}
use Rattle.std.specs.Prelude.{IsTrue}
use Rattle.std.proofs.lemmas.Bool.Decides.{nat_tests}
use Rattle.cf_model.specs.FlatFunctions.{FlatFunction}
use Rattle.cf_model.specs.declared.terms.Word2.{Word2}
use Rattle.cf_model.specs.declared.terms.Word2.TheVariants.{And, Or, Xor, Plus, Minus, Times, Min, Max, Eq, Lt}
use Rattle.cf_reference.specs.declared.grammar.Head.{Head}
use Rattle.cf_reference.specs.declared.grammar.Head.TheVariants.{Const, One, Fold, Ite, Restrict, Exists, Forall, SumOut, Compose, AndExists, Kron, Matmul, Transpose, Id, Walsh, Unit as UnitAt}
use Rattle.cf_reference.specs.Heads.{signature, counted, takes, kind_in, kind_at}
use Rattle.cf_reference.specs.declared.grammar.Kind.{Kind}
use Rattle.cf_reference.specs.declared.grammar.Kind.TheVariants.{Expression as AnExpression, Variable as AVariable, Natural as ANatural, Number as ANumber, Bit as ABit}
use Rattle.cf_reference.specs.Trees.{Arguments, none, more, atom, Atom, Variable, count, AreFormed, IsFormedAtom}
use Rattle.cf_reference.specs.Trees as tree
use Rattle.cf_reference.specs.Calls.{flat, Meant, Function, Position, Number, levels, exact, own_rule}
use Rattle.cf_reference.specs.Reasons.{OutOfRange, unless}
use Rattle.cf_reference.specs.States.{State}
use Rattle.cf_reference.specs.Expressions.{part, meant, meant_atom}
use Rattle.cf_reference.proofs.ExpressionLaws.{meant-none, meant-more, meant-atom}
use Rattle.cf_session.specs.Arguments.{IsOf, OfKinds}
use Rattle.cf_session.specs.Walks.{first_of, second_of, third_of, numbers, level_by, has_indices, IsLevelled}

-- formed arguments mean what the signature says
atom_kind : (s : State) (kind : Kind) (a : Atom) → IsFormedAtom kind a → IsOf kind (meant_atom s a)
atom_kind s AnExpression (Variable name) h = absurd h
atom_kind s AnExpression (tree.Position i) h = absurd h
atom_kind s AnExpression (tree.Number n) h = absurd h
atom_kind s AVariable (Variable name) h = tt
atom_kind s AVariable (tree.Position i) h = tt
atom_kind s AVariable (tree.Number n) h = absurd h
atom_kind s ANatural (Variable name) h = absurd h
atom_kind s ANatural (tree.Position i) h = absurd h
atom_kind s ANatural (tree.Number n) h = tt
atom_kind s ANumber (Variable name) h = absurd h
atom_kind s ANumber (tree.Position i) h = absurd h
atom_kind s ANumber (tree.Number n) h = tt
atom_kind s ABit (Variable name) h = absurd h
atom_kind s ABit (tree.Position i) h = absurd h
atom_kind s ABit (tree.Number n) h = tt

counted_later : (least : ℕ) (further : Option Kind) (n : ℕ) → counted (suc least) further (n + 1) ≡ true → counted least further n ≡ true
counted_later least None n h = grind (arith, nat_tests)
counted_later least (Some kind) n h = grind (arith, nat_tests)

counted_first : (least : ℕ) (further : Option Kind) → counted (suc least) further 0 ≡ true → ⊥
counted_first least None h = grind (arith, nat_tests)
counted_first least (Some kind) h = grind (arith, nat_tests)

one_kind : (m : Meant) (later : List Meant) (kinds : List Kind) (further : Option Kind) → IsOf (kind_in kinds further 0) m → counted (length kinds) further (length later + 1) ≡ true
    → ((ks : List Kind) → counted (length ks) further (length later) ≡ true → ((j : ℕ) → kind_in kinds further (suc j) ≡ kind_in ks further j) → OfKinds ks further later)
    → OfKinds kinds further (m ∷ later)
one_kind m later [] None is n rest = absurd (grind (arith, nat_tests))
one_kind m later [] (Some kind) is n rest = (is, rest [] (grind (arith, nat_tests)) (λ j. refl))
one_kind m later (kind ∷ kinds) further is n rest = (is, rest kinds (counted_later (length kinds) further (length later) n) (λ j. refl))

long : (s : State) (es : Arguments) → length (meant s es) ≡ count es
long s none = ap length (meant-none s)
long s (more e es) = ap length (meant-more s e es) ∙ omega (arith, long s es)
long s (atom a es) = ap length (meant-atom s a es) ∙ omega (arith, long s es)

formed_kinds : (s : State) (es : Arguments) (head : Head) (i : ℕ) (kinds : List Kind) (further : Option Kind) → ((j : ℕ) → kind_at head (i + j) ≡ kind_in kinds further j)
    → counted (length kinds) further (count es) ≡ true → AreFormed head i es → OfKinds kinds further (meant s es)
formed_kinds s none head i [] None at n h = subst (OfKinds [] None) (sym (meant-none s)) tt
formed_kinds s none head i [] (Some kind) at n h = subst (OfKinds [] (Some kind)) (sym (meant-none s)) tt
formed_kinds s none head i (kind ∷ kinds) further at n h = absurd (counted_first (length kinds) further n)
formed_kinds s (more e es) head i kinds further at n h =
    let here : kind_at head i ≡ kind_in kinds further 0 = (let e : i ≡ i + 0 = omega arith in ap (kind_at head) e ∙ at 0) in
    subst (OfKinds kinds further) (sym (meant-more s e es))
    (one_kind (Function (flat (part s e))) (meant s es) kinds further (subst (λ (k : Kind). IsOf k (Function (flat (part s e)))) (sym h.0 ∙ here) tt) (ap (λ m. counted (length kinds) further (m + 1)) (long s es) ∙ n)
    (λ ks few is. formed_kinds s es head (suc i) ks further (λ j. (let e : suc i + j ≡ i + suc j = omega arith in ap (kind_at head) e ∙ at (suc j) ∙ is j)) (ap (counted (length ks) further) (sym (long s es)) ∙ few) h.2))
formed_kinds s (atom a es) head i kinds further at n h =
    let here : kind_at head i ≡ kind_in kinds further 0 = (let e : i ≡ i + 0 = omega arith in ap (kind_at head) e ∙ at 0) in
    subst (OfKinds kinds further) (sym (meant-atom s a es))
    (one_kind (meant_atom s a) (meant s es) kinds further (subst (λ (k : Kind). IsOf k (meant_atom s a)) here (atom_kind s (kind_at head i) a h.0)) (ap (λ m. counted (length kinds) further (m + 1)) (long s es) ∙ n)
    (λ ks few is. formed_kinds s es head (suc i) ks further (λ j. (let e : suc i + j ≡ i + suc j = omega arith in ap (kind_at head) e ∙ at (suc j) ∙ is j)) (ap (counted (length ks) further) (sym (long s es)) ∙ few) h.1))

pub of-formed : (s : State) (head : Head) (es : Arguments) → IsTrue (takes head (count es)) → AreFormed head 0 es
    → OfKinds (signature head).first (signature head).further (meant s es)
of-formed s head es n h =
    formed_kinds s es head 0 (signature head).first (signature head).further (λ j. (let e : 0 + j ≡ j = omega arith in ap (kind_at head) e)) n h

-- the shapes of arguments
pub first_function : (kinds : List Kind) (further : Option Kind) (args : List Meant) → OfKinds (AnExpression ∷ kinds) further args
    → (f : FlatFunction) × (later : List Meant) × (args ≡ Function f ∷ later) × OfKinds kinds further later
first_function kinds further [] h = absurd h
first_function kinds further (Function f ∷ later) h = (f, later, refl, h.1)
first_function kinds further (Position i ∷ later) h = absurd h.0
first_function kinds further (Number n ∷ later) h = absurd h.0

first_position : (kinds : List Kind) (further : Option Kind) (args : List Meant) → OfKinds (AVariable ∷ kinds) further args
    → (i : ℤ) × (later : List Meant) × (args ≡ Position i ∷ later) × OfKinds kinds further later
first_position kinds further [] h = absurd h
first_position kinds further (Function f ∷ later) h = absurd h.0
first_position kinds further (Position i ∷ later) h = (i, later, refl, h.1)
first_position kinds further (Number n ∷ later) h = absurd h.0

first_bit : (kinds : List Kind) (further : Option Kind) (args : List Meant) → OfKinds (ABit ∷ kinds) further args
    → (n : ℤ) × (later : List Meant) × (args ≡ Number n ∷ later) × OfKinds kinds further later
first_bit kinds further [] h = absurd h
first_bit kinds further (Function f ∷ later) h = absurd h.0
first_bit kinds further (Position i ∷ later) h = absurd h.0
first_bit kinds further (Number n ∷ later) h = (n, later, refl, h.1)

no_more : (args : List Meant) → OfKinds [] None args → args ≡ []
no_more [] h = refl
no_more (m ∷ later) h = absurd h

pub two_numbers : (args : List Meant) → OfKinds (ANatural ∷ ANumber ∷ []) None args → (n : ℤ) × (m : ℤ) × (args ≡ Number n ∷ Number m ∷ [])
two_numbers [] h = absurd h
two_numbers (Function f ∷ later) h = absurd h.0
two_numbers (Position i ∷ later) h = absurd h.0
two_numbers (Number n ∷ []) h = absurd h.1
two_numbers (Number n ∷ Function f ∷ later) h = absurd h.1.0
two_numbers (Number n ∷ Position i ∷ later) h = absurd h.1.0
two_numbers (Number n ∷ Number m ∷ later) h = (n, m, ap (λ l. Number n ∷ Number m ∷ l) (no_more later h.1.1))

pub one_function : (args : List Meant) → OfKinds (AnExpression ∷ []) None args → (f : FlatFunction) × (args ≡ Function f ∷ [])
one_function args h =
    let a = first_function [] None args h in
    (a.0, a.2 ∙ ap (λ l. Function a.0 ∷ l) (no_more a.1 a.3))

pub two_functions : (args : List Meant) → OfKinds (AnExpression ∷ AnExpression ∷ []) None args
    → (f : FlatFunction) × (g : FlatFunction) × (args ≡ Function f ∷ Function g ∷ [])
two_functions args h =
    let a = first_function (AnExpression ∷ []) None args h in
    let b = one_function a.1 a.3 in
    (a.0, b.0, a.2 ∙ ap (λ l. Function a.0 ∷ l) b.1)

pub three_functions : (args : List Meant) → OfKinds (AnExpression ∷ AnExpression ∷ AnExpression ∷ []) None args
    → (f : FlatFunction) × (g : FlatFunction) × (h : FlatFunction) × (args ≡ Function f ∷ Function g ∷ Function h ∷ [])
three_functions args h =
    let a = first_function (AnExpression ∷ AnExpression ∷ []) None args h in
    let b = two_functions a.1 a.3 in
    (a.0, b.0, b.1, a.2 ∙ ap (λ l. Function a.0 ∷ l) b.2)

pub function_position_bit : (args : List Meant) → OfKinds (AnExpression ∷ AVariable ∷ ABit ∷ []) None args
    → (f : FlatFunction) × (i : ℤ) × (n : ℤ) × (args ≡ Function f ∷ Position i ∷ Number n ∷ [])
function_position_bit args h =
    let a = first_function (AVariable ∷ ABit ∷ []) None args h in
    let b = first_position (ABit ∷ []) None a.1 a.3 in
    let c = first_bit [] None b.1 b.3 in
    (a.0, b.0, c.0, a.2 ∙ ap (λ l. Function a.0 ∷ l) (b.2 ∙ ap (λ l. Position b.0 ∷ l) (c.2 ∙ ap (λ l. Number c.0 ∷ l) (no_more c.1 c.3))))

pub function_position_function : (args : List Meant) → OfKinds (AnExpression ∷ AVariable ∷ AnExpression ∷ []) None args
    → (f : FlatFunction) × (i : ℤ) × (g : FlatFunction) × (args ≡ Function f ∷ Position i ∷ Function g ∷ [])
function_position_function args h =
    let a = first_function (AVariable ∷ AnExpression ∷ []) None args h in
    let b = first_position (AnExpression ∷ []) None a.1 a.3 in
    let c = one_function b.1 b.3 in
    (a.0, b.0, c.0, a.2 ∙ ap (λ l. Function a.0 ∷ l) (b.2 ∙ ap (λ l. Position b.0 ∷ l) c.1))

first_of_fold : (word : Word2) (args : List Meant) → OfKinds (signature (Fold word)).first (signature (Fold word)).further args
    → (f : FlatFunction) × (later : List Meant) × (args ≡ Function f ∷ later)
first_of_fold Minus args h = let a = first_function (AnExpression ∷ []) None args h in (a.0, a.1, a.2)
first_of_fold Eq args h = let a = first_function (AnExpression ∷ []) None args h in (a.0, a.1, a.2)
first_of_fold Lt args h = let a = first_function (AnExpression ∷ []) None args h in (a.0, a.1, a.2)
first_of_fold And args h = let a = first_function (AnExpression ∷ []) (Some AnExpression) args h in (a.0, a.1, a.2)
first_of_fold Or args h = let a = first_function (AnExpression ∷ []) (Some AnExpression) args h in (a.0, a.1, a.2)
first_of_fold Xor args h = let a = first_function (AnExpression ∷ []) (Some AnExpression) args h in (a.0, a.1, a.2)
first_of_fold Plus args h = let a = first_function (AnExpression ∷ []) (Some AnExpression) args h in (a.0, a.1, a.2)
first_of_fold Times args h = let a = first_function (AnExpression ∷ []) (Some AnExpression) args h in (a.0, a.1, a.2)
first_of_fold Min args h = let a = first_function (AnExpression ∷ []) (Some AnExpression) args h in (a.0, a.1, a.2)
first_of_fold Max args h = let a = first_function (AnExpression ∷ []) (Some AnExpression) args h in (a.0, a.1, a.2)

one_natural : (args : List Meant) → OfKinds (ANatural ∷ []) None args → (n : ℤ) × (args ≡ Number n ∷ [])
one_natural [] h = absurd h
one_natural (Function f ∷ later) h = absurd h.0
one_natural (Position i ∷ later) h = absurd h.0
one_natural (Number n ∷ later) h = (n, ap (λ l. Number n ∷ l) (no_more later h.1))

three_naturals : (args : List Meant) → OfKinds (ANatural ∷ ANatural ∷ ANatural ∷ []) None args → (j : ℤ) × (r : ℤ) × (c : ℤ) × (args ≡ Number j ∷ Number r ∷ Number c ∷ [])
three_naturals [] h = absurd h
three_naturals (Function f ∷ later) h = absurd h.0
three_naturals (Position i ∷ later) h = absurd h.0
three_naturals (Number j ∷ []) h = absurd h.1
three_naturals (Number j ∷ Function f ∷ later) h = absurd h.1.0
three_naturals (Number j ∷ Position i ∷ later) h = absurd h.1.0
three_naturals (Number j ∷ Number r ∷ later) h =
    let c = one_natural later h.1.1 in
    (j, r, c.0, ap (λ l. Number j ∷ Number r ∷ l) c.1)

-- the level of a call, and its own rule
levels_are : (head : Head) (args others : List Meant) → args ≡ others → (exact head others).level ≡ level_by head (first_of (levels others)) (first_of (numbers others))
    → own_rule head others ≡ unless (has_indices head (exact head others).level (second_of (numbers others)) (third_of (numbers others))) OutOfRange → IsLevelled head args
levels_are head args others is level own = subst (IsLevelled head) (sym is) (record { level = level; own = own })

pub levelled : (head : Head) (args : List Meant) → OfKinds (signature head).first (signature head).further args → IsLevelled head args
levelled Const args h = let a = two_numbers args h in levels_are Const args _ a.2 refl refl
levelled (One word) args h = let a = one_function args h in levels_are (One word) args _ a.1 refl refl
levelled (Fold word) args h = let a = first_of_fold word args h in levels_are (Fold word) args _ a.2 refl refl
levelled Ite args h = let a = three_functions args h in levels_are Ite args _ a.3 refl refl
levelled Restrict args h = let a = function_position_bit args h in levels_are Restrict args _ a.3 refl refl
levelled Exists args h = let a = first_function (AVariable ∷ []) (Some AVariable) args h in levels_are Exists args _ a.2 refl refl
levelled Forall args h = let a = first_function (AVariable ∷ []) (Some AVariable) args h in levels_are Forall args _ a.2 refl refl
levelled SumOut args h = let a = first_function (AVariable ∷ []) (Some AVariable) args h in levels_are SumOut args _ a.2 refl refl
levelled Compose args h = let a = function_position_function args h in levels_are Compose args _ a.3 refl refl
levelled AndExists args h =
    let a = first_function (AnExpression ∷ AVariable ∷ []) (Some AVariable) args h in
    let b = first_function (AVariable ∷ []) (Some AVariable) a.1 a.3 in
    levels_are AndExists args _ (a.2 ∙ ap (λ l. Function a.0 ∷ l) b.2) refl refl
levelled Kron args h = let a = two_functions args h in levels_are Kron args _ a.2 refl refl
levelled Matmul args h = let a = two_functions args h in levels_are Matmul args _ a.2 refl refl
levelled Transpose args h = let a = one_function args h in levels_are Transpose args _ a.1 refl refl
levelled Id args h = let a = one_natural args h in levels_are Id args _ a.1 refl refl
levelled Walsh args h = let a = one_natural args h in levels_are Walsh args _ a.1 refl refl
levelled UnitAt args h = let a = three_naturals args h in levels_are UnitAt args _ a.3 refl refl
