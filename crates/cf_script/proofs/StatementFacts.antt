-- From the words of a statement to what it comes to.
use Rattle.std.proofs.Common.{ℕ, ℤ, ◌≡◌, ◌&&◌, true, false, List, [], ◌∷◌, Option, Some, None, Result, Ok, Err, refl, ap, sym, subst, ◌∙◌}
use Rattle.std.specs.Prelude.{IfOk}
use Rattle.std.specs.Option.{option_map, option_zip}
use Rattle.std.proofs.lemmas.Bool.{and_left, and_right}
use Rattle.cf_model.specs.Values.{fits, fitting}
use Rattle.cf_reference.specs.declared.grammar.Keyword.{Keyword}
use Rattle.cf_reference.specs.declared.grammar.Keyword.TheVariants as keyword
use Rattle.cf_reference.specs.Words.{before_comment, behind_word, words, natural, number, is_name, equals}
use Rattle.cf_reference.specs.Trees.{tree_fits, Statement, Level, Let, First, Listed, Entry, statement_fits, Formed}
use Rattle.cf_reference.specs.Grammar.{keyword_of, SpellsTree, SpellsBehind}
use Rattle.cf_reference.specs.LineRefusals.{IsDeep}
use Rattle.cf_reference.proofs.DepthLaws.{words_formed}
use Rattle.cf_reference.proofs.GrammarLaws.{unique, tail_is}
use Rattle.cf_script.specs.declared.trees.Expr.{Expr}
use Rattle.cf_script.specs.declared.trees.Statement as code
use Rattle.cf_script.specs.declared.faults.ScriptFault.{ScriptFault}
use Rattle.cf_script.specs.declared.faults.ScriptFault.TheVariants as fault
use Rattle.cf_script.specs.Views.{tree_of, statement_of}
use Rattle.cf_script.specs.Readings.{IsReading, SpellsNone}
use Rattle.cf_script.specs.Answers.{SpellsName, any_wide, Answers, keeps_memory, takes_memory}
use Rattle.cf_script.proofs.NumberFacts.{no_fit}
use Rattle.cf_script.proofs.ReadingFacts.{has-number}
use Rattle.cf_script.proofs.WideFacts.{whole-fits, whole-wide, keyword-memory}

-- the bytes behind a keyword, with their words, spell a statement with a number that doesn't fit
abbrev pub IsWide : Keyword → List ℕ → List (List ℕ) → Type 0
IsWide key bytes all = (t : Statement) × SpellsBehind key t bytes all × (statement_fits t ≡ false)

-- a number that was read and doesn't fit
record HasWide (of : Option ℤ) : Type 0 where
  n : ℤ
  is : of ≡ Some n
  wide : fits n ≡ false

has_wide : (of value : Option ℤ) → value ≡ None → Some value ≡ option_map fitting of → HasWide of
has_wide of value none read =
    let h = has-number of value read in
    record { n = h.n; is = h.is; wide = no_fit h.n (sym h.value ∙ none) }

pub level-wide : (bytes word : List ℕ) (all : List (List ℕ)) (value : Option ℤ) → all ≡ word ∷ [] → value ≡ None → Some value ≡ option_map fitting (natural word) → IsWide keyword.Level bytes all
level-wide bytes word all value is none read =
    let h = has_wide (natural word) value none read in
    (Level h.n, (word, h.n, is, h.is, refl), h.wide)

pub first-wide : (bytes name word : List ℕ) (all : List (List ℕ)) (value : Option ℤ) → all ≡ name ∷ word ∷ [] → is_name name ≡ true → value ≡ None → Some value ≡ option_map fitting (number word)
    → IsWide keyword.First bytes all
first-wide bytes name word all value is named none read =
    let h = has_wide (number word) value none read in
    (First name h.n, (name, word, h.n, is, named, h.is, refl), h.wide)

-- two values of which not both are there
not_both : (value most : Option ℤ) (n m : ℤ) → None ≡ option_zip value most → value ≡ fitting n → most ≡ fitting m → (fits n && fits m) ≡ false
not_both None most n m none is_n is_m = and_left (fits n) (fits m) (no_fit n (sym is_n))
not_both (Some v) None n m none is_n is_m = and_right (fits n) (fits m) (no_fit m (sym is_m))
not_both (Some v) (Some w) n m none is_n is_m = cc

pub list-wide : (bytes name word most_word : List ℕ) (all : List (List ℕ)) (value most : Option ℤ) → all ≡ name ∷ word ∷ most_word ∷ [] → is_name name ≡ true → None ≡ option_zip value most
    → Some value ≡ option_map fitting (number word) → Some most ≡ option_map fitting (natural most_word) → IsWide keyword.List bytes all
list-wide bytes name word most_word all value most is named none read_value read_most =
    let h = has-number (number word) value read_value in
    let k = has-number (natural most_word) most read_most in
    (Listed name h.n k.n, (name, word, most_word, h.n, k.n, is, named, h.is, k.is, refl), not_both value most h.n k.n none h.value k.value)

pub entry-wide : (bytes name row_word col_word : List ℕ) (all : List (List ℕ)) (row col : Option ℤ) → all ≡ name ∷ row_word ∷ col_word ∷ [] → is_name name ≡ true → None ≡ option_zip row col
    → Some row ≡ option_map fitting (natural row_word) → Some col ≡ option_map fitting (natural col_word) → IsWide keyword.Entry bytes all
entry-wide bytes name row_word col_word all row col is named none read_row read_col =
    let h = has-number (natural row_word) row read_row in
    let k = has-number (natural col_word) col read_col in
    (Entry name h.n k.n, (name, row_word, col_word, h.n, k.n, is, named, h.is, k.is, refl), not_both row col h.n k.n none h.value k.value)

-- an expression that was read, of which nothing is left, is what the words spell
pub let-good : (bytes name : List ℕ) (e : Expr) (all inside : List (List ℕ)) → SpellsName name all inside → IsReading e inside [] → any_wide inside ≡ false
    → SpellsBehind keyword.Let (Let name (tree_of e)) bytes all × (tree_fits (tree_of e) ≡ true)
let-good bytes name e all inside s r narrow =
    let fit = whole-fits r.tree inside r.spells narrow in
    let shown = r.shows fit in
    ((name, r.tree, inside, s.words, s.named, r.spells, ap (Let name) shown), ap tree_fits shown ∙ fit)

pub let-wide : (bytes name : List ℕ) (e : Expr) (all inside : List (List ℕ)) → SpellsName name all inside → IsReading e inside [] → any_wide inside ≡ true → IsWide keyword.Let bytes all
let-wide bytes name e all inside s r wide = (Let name r.tree, (name, r.tree, inside, s.words, s.named, r.spells, refl), whole-wide r.tree inside r.spells wide)

-- where a name and `=` come first, what is spelled behind them is the rest
behind_name : (name other : List ℕ) (all inside rest : List (List ℕ)) → SpellsName name all inside → all ≡ other ∷ equals ∷ rest → rest ≡ inside
behind_name name other all inside rest s is = sym (tail_is (tail_is (sym s.words ∙ is)))

pub let-more : (bytes name : List ℕ) (e : Expr) (all inside rest : List (List ℕ)) → SpellsName name all inside → IsReading e inside rest → (rest ≡ [] → ⊥) → (t : Statement) → SpellsBehind keyword.Let t bytes all → ⊥
let-more bytes name e all inside rest s r left t h =
    let u = unique h.1 inside [] r.tree rest (subst (λ a. SpellsTree h.1 a []) (behind_name name h.0 all inside h.2 s h.3) h.5) r.spells in
    left (sym u.1)

pub let-none : (bytes name : List ℕ) (all inside : List (List ℕ)) → SpellsName name all inside → SpellsNone inside → (t : Statement) → SpellsBehind keyword.Let t bytes all → ⊥
let-none bytes name all inside s nothing t h = nothing h.1 [] (subst (λ a. SpellsTree h.1 a []) (behind_name name h.0 all inside h.2 s h.3) h.5)

pub let-unnamed : (bytes : List ℕ) (all : List (List ℕ)) → ((name : List ℕ) (rest : List (List ℕ)) → SpellsName name all rest → ⊥) → (t : Statement) → SpellsBehind keyword.Let t bytes all → ⊥
let-unnamed bytes all nothing t h = nothing h.0 h.2 (record { words = h.3; named = h.4 })

-- what the bytes behind a keyword come to is formed, where not more than 64 parentheses are open at once
pub formed-answer : (line word bytes : List ℕ) (rest : List (List ℕ)) (key : Keyword) (r : Result code.Statement ScriptFault)
    → words (before_comment line) ≡ word ∷ rest → behind_word (before_comment line) ≡ bytes → Some key ≡ keyword_of word
    → (IsDeep (before_comment line) → ⊥) → Answers key bytes rest r → IfOk r (λ s. Formed (statement_of s))
formed-answer line word bytes rest key (Ok s) is behind of shallow a =
    words_formed (before_comment line) (statement_of s) (word ∷ rest) is
    (key, sym of, subst (λ b. SpellsBehind key (statement_of s) b rest) (sym behind) a.0) a.1 shallow
formed-answer line word bytes rest key (Err e) is behind of shallow a = tt

pub memory-answer : (line word bytes : List ℕ) (rest : List (List ℕ)) (key : Keyword) (r : Result code.Statement ScriptFault)
    → words (before_comment line) ≡ word ∷ rest → Some key ≡ keyword_of word
    → Answers key bytes rest r → r ≡ Err fault.NoMemory → takes_memory (words (before_comment line)) ≡ true
memory-answer line word bytes rest key r is of a e =
    let keeps : keeps_memory key ≡ true = subst (Answers key bytes rest) e a in
    ap takes_memory is ∙ keyword-memory word rest key (sym of) keeps
