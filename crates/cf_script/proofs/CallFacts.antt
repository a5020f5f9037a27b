-- From the parts of an expression that were read to the whole of it.
use Rattle.std.proofs.Common.{ℕ, zero, suc, ◌≡◌, ◌≤◌, Bool, ◌&&◌, true, false, List, [], ◌∷◌, ◌++◌, length, Option, Some, None, Result, Ok, Err, refl, ap, sym, subst, ◌∙◌, arith}
use Rattle.std.specs.Prelude.{IsTrue, IfOk}
use Rattle.std.specs.Option.{option_or}
use Rattle.std.specs.Result.{IsErrAnd}
use Rattle.std.proofs.lemmas.Bool.{false≢true}
use Rattle.std.proofs.lemmas.Bool.Decides.{nat_tests}
use Rattle.cf_reference.specs.declared.grammar.Head.{Head}
use Rattle.cf_reference.specs.declared.grammar.Kind.{Kind}
use Rattle.cf_reference.specs.declared.grammar.Kind.TheVariants.{Expression as AnExpression}
use Rattle.cf_reference.specs.Heads.{value_table, found_in, variable_head, head_of, takes, counted, kind_in, kind_at, signature}
use Rattle.cf_reference.specs.Words.{open_sign, comma}
use Rattle.cf_reference.specs.Trees.{Tree, Num, At, Named, Call, none, more, atom, count, atom_fits, tree_fits}
use Rattle.cf_reference.specs.Grammar.{leaf, atom_of, SpellsLeaf, SpellsTree, SpellsArguments}
use Rattle.cf_reference.proofs.SpellingLaws.{spells-call, not-open, leaves, spells-leaf}
use Rattle.cf_reference.proofs.GrammarLaws.{some_is, inv_leaf, inv_call}
use Rattle.cf_script.proofs.ReadingFacts.{no-expression}
use Rattle.cf_script.specs.declared.trees.Expr.{Expr}
use Rattle.cf_script.specs.declared.trees.Expr as expr
use Rattle.cf_model.specs.declared.terms.Word2.{Word2}
use Rattle.cf_script.specs.declared.arguments.Argument.{Argument}
use Rattle.cf_script.specs.declared.arguments.Argument.TheVariants as argument
use Rattle.cf_model.specs.declared.terms.Word2.TheVariants.{And, Or, Xor, Plus, Minus, Times, Min, Max, Eq, Lt}
use Rattle.cf_reference.specs.declared.grammar.Head.TheVariants.{Const, One, Fold, Ite, Restrict, Exists, Forall, SumOut, Compose, AndExists, Kron, Matmul, Transpose, Id, Walsh, Unit as UnitAt}
use Rattle.cf_script.specs.declared.trees.Exprs.{Exprs}
use Rattle.cf_script.specs.declared.arguments.Gathered.{Gathered}
use Rattle.cf_script.specs.declared.arguments.Gathered.TheVariants as form
use Rattle.cf_script.specs.Views.{tree_of, listed}
use Rattle.cf_script.proofs.Rows.{fold_listed, ite_listed}
use Rattle.cf_script.proofs.ListFacts.{HasEnds, more_behind}
use Rattle.cf_script.specs.Readings.{IsReading, IsLeaf, SpellsNone}
use Rattle.cf_script.specs.Arguments.{held, as_arguments, gathered, has_three, is_list, is_few, IsOf, OfKinds, HaveKinds, IsWord, IsArgument, IsCall, SpellsNoArgument, SpellsNoArguments}

nil_leaf : (t : Tree) (rest : List (List ℕ)) → SpellsLeaf t [] rest → ⊥
nil_leaf t rest h = let e = h.words in cc

-- no word spells no expression
pub none-empty : (all : List (List ℕ)) → all ≡ [] → SpellsNone all
none-empty all is t rest h = at t (subst (λ a. SpellsTree t a rest) is h)
  where
    at : (t : Tree) → SpellsTree t [] rest → ⊥
    at (Num n) h = nil_leaf (Num n) rest h
    at (At n) h = nil_leaf (At n) rest h
    at (Named name) h = nil_leaf (Named name) rest h
    at (Call head es) h = let e = h.1.words in cc

pub is-call : (head : Head) (e : Expr) (word : List ℕ) (all next inside rest : List (List ℕ)) → all ≡ word ∷ next → next ≡ open_sign ∷ inside → Some head ≡ head_of word
    → IsCall head e inside rest → IsReading e all rest
is-call head e word all next inside rest is open_is of r = record {
  tree = Call head r.read.spelled;
  spells = spells-call head r.read.spelled word all inside rest (is ∙ ap (λ l. word ∷ l) open_is) (sym of) (ap (takes head) r.read.long ∙ r.read.number) r.read.spells;
  shows = λ fit. r.same ∙ ap (Call head) (r.read.shows fit);
}

pub none-inside : (head : Head) (word : List ℕ) (all next inside : List (List ℕ)) → all ≡ word ∷ next → next ≡ open_sign ∷ inside → Some head ≡ head_of word
    → SpellsNoArguments head inside → SpellsNone all
none-inside head word all next inside is open_is of nothing t rest h =
    let i = inv_call t word inside rest (subst (λ a. SpellsTree t a rest) (is ∙ ap (λ l. word ∷ l) open_is) h) in
    let same : i.head ≡ head = some_is (sym i.of ∙ sym of) in
    nothing i.arguments rest (subst (λ (d : Head). IsTrue (takes d (count i.arguments))) same i.number)
    (subst (λ (d : Head). SpellsArguments d 0 i.arguments inside rest) same i.spells)

pub none-called : (word : List ℕ) (all next inside : List (List ℕ)) → all ≡ word ∷ next → next ≡ open_sign ∷ inside → None ≡ head_of word → SpellsNone all
none-called word all next inside is open_is of t rest h =
    let i = inv_call t word inside rest (subst (λ a. SpellsTree t a rest) (is ∙ ap (λ l. word ∷ l) open_is) h) in
    let e = i.of in
    cc

-- what a word calls, by the tables
pub head-first : (word : List ℕ) (head : Head) → Some head ≡ found_in value_table word → Some head ≡ head_of word
unfolding head_of
head-first word head is = ap (λ o. option_or o (variable_head word)) is

pub head-later : (word : List ℕ) (o : Option Head) → None ≡ found_in value_table word → o ≡ variable_head word → o ≡ head_of word
unfolding head_of
head-later word o nothing is = is ∙ ap (λ x. option_or x (variable_head word)) nothing

pub is-leaf : (e : Expr) (word : List ℕ) (all next : List (List ℕ)) → all ≡ word ∷ next → ((x : List (List ℕ)) → next ≡ open_sign ∷ x → ⊥) → IsLeaf e word → IsReading e all next
is-leaf e word all next is other r = record {
  tree = r.tree;
  spells = spells-leaf r.tree all next (record { word = word; words = is; alone = not-open next other; is = r.spells }) (leaves word r.tree r.spells);
  shows = r.shows;
}

pub none-leaf : (word : List ℕ) (all next : List (List ℕ)) → all ≡ word ∷ next → ((x : List (List ℕ)) → next ≡ open_sign ∷ x → ⊥) → leaf word ≡ None → SpellsNone all
none-leaf word all next is other nothing t rest h =
    let i = inv_leaf t word next rest (not-open next other) (subst (λ a. SpellsTree t a rest) is h) in
    let e = i.0 in
    cc

first_fits : (x : Bool) → (x && true) ≡ true → x ≡ true
first_fits true h = refl
first_fits false h = h

-- an expression as an argument
pub argument-read : (kind : Kind) (e : Expr) (all rest : List (List ℕ)) → kind ≡ AnExpression → IsReading e all rest → IsArgument kind (argument.Expr e) all rest
argument-read kind e all rest is r = record {
  spelled = more r.tree none;
  spells = (is, r.spells);
  kinds = subst (λ (k : Kind). IsOf k (argument.Expr e)) (sym is) tt;
  shows = λ fit. ap (λ t. more t none) (r.shows (first_fits (tree_fits r.tree) fit));
}

-- a word as an argument
pub argument-word : (kind : Kind) (a : Argument) (word : List ℕ) (all rest : List (List ℕ)) → all ≡ word ∷ rest → IsWord kind a word → IsArgument kind a all rest
argument-word kind a word all rest is r = record {
  spelled = atom r.spelled none;
  spells = (word, is, r.spells);
  kinds = r.kinds;
  shows = λ fit. r.shows (first_fits (atom_fits r.spelled) fit);
}

pub none-argument : (kind : Kind) (all : List (List ℕ)) → kind ≡ AnExpression → SpellsNone all → SpellsNoArgument kind all
none-argument kind all is nothing (more t none) rest h = nothing t rest h.1
none-argument kind all is nothing none rest h = h
none-argument kind all is nothing (more t (more u us)) rest h = h
none-argument kind all is nothing (more t (atom a us)) rest h = h
none-argument kind all is nothing (atom a none) rest h = let e : None ≡ Some a = sym (no-expression h.0) ∙ (sym (ap (λ (k : Kind). atom_of k h.0) is) ∙ h.2) in cc
none-argument kind all is nothing (atom a (more t us)) rest h = h
none-argument kind all is nothing (atom a (atom b us)) rest h = h

-- where the first word isn't one
pub none-word : (kind : Kind) (all : List (List ℕ)) → (kind ≡ AnExpression → ⊥) → ((word : List ℕ) (rest : List (List ℕ)) → all ≡ word ∷ rest → atom_of kind word ≡ None) → SpellsNoArgument kind all
none-word kind all other nothing none rest h = h
none-word kind all other nothing (more t none) rest h = other h.0
none-word kind all other nothing (more t (more u us)) rest h = h
none-word kind all other nothing (more t (atom a us)) rest h = h
none-word kind all other nothing (atom a none) rest h = let e : None ≡ Some a = sym (nothing h.0 rest h.1) ∙ h.2 in cc
none-word kind all other nothing (atom a (more t us)) rest h = h
none-word kind all other nothing (atom a (atom b us)) rest h = h

-- arguments that a head takes, by its signature
counted_later : (least : ℕ) (further : Option Kind) (n : ℕ) → counted (suc least) further (suc n) ≡ true → counted least further n ≡ true
counted_later least None n h = grind (arith, nat_tests)
counted_later least (Some kind) n h = grind (arith, nat_tests)

counted_first : (least : ℕ) (further : Option Kind) → counted (suc least) further 0 ≡ true → ⊥
counted_first least None h = grind (arith, nat_tests)
counted_first least (Some kind) h = grind (arith, nat_tests)

of_kinds : (kinds : List Kind) (further : Option Kind) (args : List Argument) → counted (length kinds) further (length args) ≡ true → HaveKinds (kind_in kinds further) args
    → OfKinds kinds further args
of_kinds [] None [] n h = tt
of_kinds [] None (a ∷ args) n h = absurd (grind (arith, nat_tests))
of_kinds [] (Some kind) [] n h = tt
of_kinds [] (Some kind) (a ∷ args) n h = (h.0, of_kinds [] (Some kind) args (grind (arith, nat_tests)) h.1)
of_kinds (kind ∷ kinds) further [] n h = absurd (counted_first (length kinds) further n)
of_kinds (kind ∷ kinds) further (a ∷ args) n h = (h.0, of_kinds kinds further args (counted_later (length kinds) further (length args) n) h.1)

pub of-kinds : (head : Head) (args : List Argument) → takes head (length args) ≡ true → HaveKinds (kind_at head) args → OfKinds (signature head).first (signature head).further args
of-kinds head args n h = of_kinds (signature head).first (signature head).further args n h

-- expressions are held as a list
pub held_listed : (es : List Expr) → held (as_arguments es) ≡ listed es
held_listed [] = refl
held_listed (e ∷ es) = ap (more (tree_of e)) (held_listed es)

pub as_many : (es : List Expr) → length (as_arguments es) ≡ length es
as_many [] = refl
as_many (e ∷ es) = omega (arith, as_many es)

pub one-more : (es : List Expr) (e : Expr) → as_arguments (es ++ e ∷ []) ≡ as_arguments es ++ argument.Expr e ∷ []
one-more [] e = refl
one-more (x ∷ es) e = ap (λ l. argument.Expr x ∷ l) (one-more es e)

-- the arguments of a call that keeps a list are expressions
in_none : (i : ℕ) → kind_in (AnExpression ∷ AnExpression ∷ []) None i ≡ AnExpression
in_none zero = refl
in_none (suc zero) = refl
in_none (suc (suc i)) = refl

in_some : (i : ℕ) → kind_in (AnExpression ∷ AnExpression ∷ []) (Some AnExpression) i ≡ AnExpression
in_some zero = refl
in_some (suc zero) = refl
in_some (suc (suc i)) = refl

in_three : (i : ℕ) → kind_in (AnExpression ∷ AnExpression ∷ AnExpression ∷ []) None i ≡ AnExpression
in_three zero = refl
in_three (suc i) = in_none i

pub list_kind : (head : Head) (i : ℕ) → is_list head ≡ true → kind_at head i ≡ AnExpression
list_kind Const i h = absurd (false≢true h)
list_kind (One word) i h = absurd (false≢true h)
list_kind (Fold Minus) i h = in_none i
list_kind (Fold Eq) i h = in_none i
list_kind (Fold Lt) i h = in_none i
list_kind (Fold And) i h = in_some i
list_kind (Fold Or) i h = in_some i
list_kind (Fold Xor) i h = in_some i
list_kind (Fold Plus) i h = in_some i
list_kind (Fold Times) i h = in_some i
list_kind (Fold Min) i h = in_some i
list_kind (Fold Max) i h = in_some i
list_kind Ite i h = in_three i
list_kind Restrict i h = absurd (false≢true h)
list_kind Exists i h = absurd (false≢true h)
list_kind Forall i h = absurd (false≢true h)
list_kind SumOut i h = absurd (false≢true h)
list_kind Compose i h = absurd (false≢true h)
list_kind AndExists i h = absurd (false≢true h)
list_kind Kron i h = absurd (false≢true h)
list_kind Matmul i h = absurd (false≢true h)
list_kind Transpose i h = absurd (false≢true h)
list_kind Id i h = absurd (false≢true h)
list_kind Walsh i h = absurd (false≢true h)
list_kind UnitAt i h = absurd (false≢true h)

-- a call that keeps no list has at most three arguments
few_taken : (head : Head) (n : ℕ) → is_few head ≡ true → takes head n ≡ true → n ≤ 3
few_taken Const n h t = grind (arith, nat_tests)
few_taken (One word) n h t = grind (arith, nat_tests)
few_taken (Fold word) n h t = absurd (false≢true h)
few_taken Ite n h t = absurd (false≢true h)
few_taken Restrict n h t = grind (arith, nat_tests)
few_taken Exists n h t = absurd (false≢true h)
few_taken Forall n h t = absurd (false≢true h)
few_taken SumOut n h t = absurd (false≢true h)
few_taken Compose n h t = grind (arith, nat_tests)
few_taken AndExists n h t = absurd (false≢true h)
few_taken Kron n h t = grind (arith, nat_tests)
few_taken Matmul n h t = grind (arith, nat_tests)
few_taken Transpose n h t = grind (arith, nat_tests)
few_taken Id n h t = grind (arith, nat_tests)
few_taken Walsh n h t = grind (arith, nat_tests)
few_taken UnitAt n h t = grind (arith, nat_tests)

three_long : (args : Gathered) → has_three args ≡ true → length (gathered args) ≡ 3
three_long form.Empty three = absurd (false≢true three)
three_long (form.One b) three = absurd (false≢true three)
three_long (form.Two b c) three = absurd (false≢true three)
three_long (form.Three b c d) three = refl

-- no call has what comes behind three
pub too-many : (head : Head) (args : Gathered) (n : ℕ) (all end after : List (List ℕ)) → is_few head ≡ true → has_three args ≡ true → length (gathered args) ≡ suc n → HasEnds head (suc n) all end
    → end ≡ comma ∷ after → SpellsNoArguments head all
too-many head args n all end after few three long e is ts rest number h =
    let k = e.ends ts rest h in
    let some = more_behind head n k.0 end after rest is k.1 in
    let most = few_taken head (count ts) few number in
    absurd (omega (arith, three_long args three, long, k.2, some, most))

-- an expression as an argument of a call that keeps a list
pub listed-read : (head : Head) (i : ℕ) (e : Expr) (all rest : List (List ℕ)) → is_list head ≡ true → IsReading e all rest → IsArgument (kind_at head i) (argument.Expr e) all rest
listed-read head i e all rest list r = argument-read (kind_at head i) e all rest (list_kind head i list) r

pub listed-none : (head : Head) (i : ℕ) (all : List (List ℕ)) → is_list head ≡ true → SpellsNone all → SpellsNoArgument (kind_at head i) all
listed-none head i all list nothing = none-argument (kind_at head i) all (list_kind head i list) nothing

-- a list is longer by an expression
pub pushed-listed : (es first : List Expr) (e : Expr) → es ≡ first ++ e ∷ [] → as_arguments es ≡ as_arguments first ++ argument.Expr e ∷ []
pushed-listed es first e is = ap as_arguments is ∙ one-more first e

-- the call of a list
pub fold-call : (word : Word2) (head : Head) (es : Exprs) → head ≡ Fold word → tree_of (expr.Fold word es) ≡ Call head (held (as_arguments es.items.items))
fold-call word head es is =
    fold_listed word es ∙ ap (Call (Fold word)) (sym (held_listed es.items.items)) ∙ ap (λ (d : Head). Call d (held (as_arguments es.items.items))) (sym is)

pub ite-call : (head : Head) (es : Exprs) → head ≡ Ite → tree_of (expr.Ite es) ≡ Call head (held (as_arguments es.items.items))
ite-call head es is =
    ite_listed es ∙ ap (Call Ite) (sym (held_listed es.items.items)) ∙ ap (λ (d : Head). Call d (held (as_arguments es.items.items))) (sym is)

-- an error that is handed on
pub handed-on : {T E : Type 0} (P : E → Type 0) (m : E) (r : Result T E) → IsErrAnd r P → r ≡ Err m → P m
handed-on P m (Ok x) h e = cc
handed-on P m (Err x) h e = let is : x ≡ m = cc in subst P is h

-- what holds of a value that was read, from what the reader says of it
pub if-ok : {T E : Type 0} (r : Result T E) (P Q : T → Type 0) → IfOk r P → ((x : T) → P x → Q x) → IfOk r Q
if-ok (Ok x) P Q h f = f x h
if-ok (Err e) P Q h f = tt
