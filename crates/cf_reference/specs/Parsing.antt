use Rattle.std.specs.Prelude.{ℕ, zero, suc, ℤ, ◌+◌, ◌==◌, ◌&&◌, ◌||◌, nat_le, Bool, List, [], ◌∷◌, length, count_by, Option, Some, None, if◌then◌else◌}
use Rattle.std.specs.List.{list_all}
use Rattle.std.specs.Option.{option_map}
use Rattle.std.specs.Str.{bytes_eq}
use Rattle.cf_reference.specs.declared.grammar.Keyword.{Keyword}
use Rattle.cf_reference.specs.declared.grammar.Keyword.TheVariants as keyword
use Rattle.cf_reference.specs.declared.grammar.Head.{Head}
use Rattle.cf_reference.specs.Heads.{Kind, AnExpression, head_of, takes, kind_at}
use Rattle.cf_reference.specs.Words.{before_comment, behind_word, words, open_sign, close_sign, comma, equals, pieces, natural, number, is_name, is_bits}
use Rattle.cf_reference.specs.Trees.{Atom, Tree, Arguments, Call, none, more, atom, count, Statement, Empty, Level, Vars, Let, Load, Value, First, Listed, Entry, Equal, Size, Stats, statement_fits}
use Rattle.cf_reference.specs.Grammar.{keyword_of, leaf, atom_of}
use Rattle.cf_reference.specs.Bytes as byte
use Rattle.cf_reference.specs.LineRefusals.{Parsed, TooDeep, Malformed, WideNumber, Good, Parses}

-- What a line comes to, worked out from its words. It is what the relation `Parses` says of the line.

-- a tree, or arguments, that words begin with, and the words behind it
abbrev pub TreeAt : Type 0
TreeAt = Option (Tree × List (List ℕ))

abbrev pub ArgumentsAt : Type 0
ArgumentsAt = Option (Arguments × List (List ℕ))

-- the first argument of a list, before the others
abbrev pub before : Tree → ArgumentsAt → ArgumentsAt
before e None = None
before e (Some found) = Some (more e found.0, found.1)

abbrev pub followed : (List (List ℕ) → ArgumentsAt) → TreeAt → ArgumentsAt
followed later None = None
followed later (Some found) = before found.0 (later found.1)

abbrev pub atom_before : Option Atom → ArgumentsAt → ArgumentsAt
atom_before (Some a) (Some found) = Some (atom a found.0, found.1)
atom_before a found = None

-- a call of arguments
abbrev pub taken : Head → ArgumentsAt → TreeAt
taken head None = None
taken head (Some found) = if takes head (count found.0) then Some (Call head found.0, found.1) else None

-- how the trees and arguments within a tree are found
pub record Readers : Type 0 where
  pub tree_at : List (List ℕ) → TreeAt
  pub arguments_at : Head → ℕ → List (List ℕ) → ArgumentsAt

abbrev pub called_at : Readers → Option Head → List (List ℕ) → TreeAt
called_at r None all = None
called_at r (Some head) all = taken head (r.arguments_at head 0 all)

abbrev pub alone_at : Option Tree → List (List ℕ) → TreeAt
alone_at None rest = None
alone_at (Some e) rest = Some (e, rest)

abbrev pub read_tree : Readers → List (List ℕ) → TreeAt
read_tree r [] = None
read_tree r (word ∷ []) = alone_at (leaf word) []
read_tree r (word ∷ next ∷ rest) =
    if bytes_eq next open_sign then called_at r (head_of word) rest else alone_at (leaf word) (next ∷ rest)

-- an argument of a kind, and what comes behind it
abbrev pub read_atom : Kind → (List (List ℕ) → ArgumentsAt) → List (List ℕ) → ArgumentsAt
read_atom kind later [] = None
read_atom kind later (word ∷ rest) = atom_before (atom_of kind word) (later rest)

abbrev pub read_argument : Readers → Kind → (List (List ℕ) → ArgumentsAt) → List (List ℕ) → ArgumentsAt
read_argument r AnExpression later all = followed later (r.tree_at all)
read_argument r other later all = read_atom other later all

abbrev pub read_arguments : Readers → Head → ℕ → List (List ℕ) → ArgumentsAt
read_arguments r head zero all = read_argument r (kind_at head 0) (r.arguments_at head 1) all
read_arguments r head (suc i) [] = None
read_arguments r head (suc i) (word ∷ rest) =
    if bytes_eq word close_sign then Some (none, rest)
    else if bytes_eq word comma then read_argument r (kind_at head (suc i)) (r.arguments_at head (suc (suc i))) rest
    else None

-- how they are found where they stand in not more than so many words
unfoldable pub readers : ℕ → Readers
readers zero = record { tree_at = λ all. None; arguments_at = λ head i all. None }
readers (suc k) = record { tree_at = read_tree (readers k); arguments_at = read_arguments (readers k) }

-- the definition of a name by all words of an expression
abbrev pub defined : List ℕ → TreeAt → Option Statement
defined name None = None
defined name (Some found) = if nat_le 1 (length found.1) then None else Some (Let name found.0)

abbrev pub listed : List ℕ → Option ℤ → Option ℤ → Option Statement
listed name (Some n) (Some most) = Some (Listed name n most)
listed name n most = None

abbrev pub entry_of : List ℕ → Option ℤ → Option ℤ → Option Statement
entry_of name (Some row) (Some col) = Some (Entry name row col)
entry_of name row col = None

-- what pieces load
abbrev pub loaded_from : List (List ℕ) → Option Statement
loaded_from (prefix ∷ file ∷ []) = if is_name prefix then Some (Load prefix file) else None
loaded_from others = None

-- the statement that the bytes behind a keyword, with their words, spell
abbrev pub behind : Keyword → List ℕ → List (List ℕ) → Option Statement
behind keyword.Level bytes (k ∷ []) = option_map Level (natural k)
behind keyword.Var bytes all = if nat_le 1 (length all) && list_all is_name all then Some (Vars all) else None
behind keyword.Let bytes (name ∷ sign ∷ rest) =
    if is_name name && bytes_eq sign equals then defined name ((readers (length rest)).tree_at rest) else None
behind keyword.Load bytes all = loaded_from (pieces bytes)
behind keyword.Value bytes (name ∷ bits ∷ []) = if is_name name && is_bits bits then Some (Value name bits) else None
behind keyword.First bytes (name ∷ v ∷ []) = if is_name name then option_map (First name) (number v) else None
behind keyword.List bytes (name ∷ v ∷ m ∷ []) = if is_name name then listed name (number v) (natural m) else None
behind keyword.Entry bytes (name ∷ r ∷ c ∷ []) = if is_name name then entry_of name (natural r) (natural c) else None
behind keyword.Equal bytes (name ∷ other ∷ []) = if is_name name && is_name other then Some (Equal name other) else None
behind keyword.Size bytes (name ∷ []) = if is_name name then Some (Size name) else None
behind keyword.Stats bytes [] = Some Stats
behind key bytes all = None

abbrev pub keyed : Option Keyword → List ℕ → List (List ℕ) → Option Statement
keyed None bytes all = None
keyed (Some key) bytes all = behind key bytes all

-- the statement that a text, with its words, spells
unfoldable pub statement_at : List ℕ → List (List ℕ) → Option Statement
statement_at text [] = Some Empty
statement_at text (word ∷ all) = keyed (keyword_of word) (behind_word text) all

-- whether some prefix passes a test
abbrev pub some_prefix : (List ℕ → Bool) → List ℕ → Bool
some_prefix test [] = test []
some_prefix test (b ∷ rest) = test [] || some_prefix (λ front. test (b ∷ front)) rest

unfoldable pub is_deep : List ℕ → Bool
is_deep text = some_prefix (λ front. nat_le (count_by (λ b. b == byte.close_sign) front + 65) (count_by (λ b. b == byte.open_sign) front)) text

abbrev pub judged : Option Statement → Parsed
judged None = Malformed
judged (Some t) = if statement_fits t then Good t else WideNumber

abbrev pub parse : List ℕ → Parsed
parse line = if is_deep (before_comment line) then TooDeep else judged (statement_at (before_comment line) (words (before_comment line)))

-- Each line comes to what is worked out.
abbrev pub LinesParse : Type 0
LinesParse = (line : List ℕ) → Parses line (parse line)
