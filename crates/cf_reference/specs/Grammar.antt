use Rattle.std.specs.Prelude.{ℕ, zero, suc, ℤ, pos, ◌≡◌, nat_le, Bool, false, List, [], ◌∷◌, ◌++◌, length, Option, Some, None, IsTrue, if◌then◌else◌, codes}
use Rattle.std.specs.List.{list_all}
use Rattle.std.specs.Option.{option_map}
use Rattle.std.specs.Str.{bytes_eq}
use Rattle.cf_reference.specs.declared.grammar.Keyword.{Keyword}
use Rattle.cf_reference.specs.declared.grammar.Keyword.TheVariants as keyword
use Rattle.cf_reference.specs.declared.grammar.Head.{Head}
use Rattle.cf_reference.specs.Heads.{Kind, AnExpression, AVariable, ANatural, ANumber, ABit, head_of, takes, kind_at}
use Rattle.cf_reference.specs.Words.{before_comment, behind_word, words_of_line, open_sign, close_sign, comma, equals, pieces, natural, number, place, is_name, is_bits}
use Rattle.cf_reference.specs.Trees.{Atom, Variable, Position, Number, Tree, Num, At, Named, Call, Arguments, none, more, atom, count, Statement, Empty, Level, Vars, Let, Load, Value, First, Listed, Entry, Equal, Size, Stats}

-- The grammar of a line, over its words.

-- what the first word of a line says
unfoldable pub keyword_of : List ℕ → Option Keyword
keyword_of word =
    if bytes_eq word (codes "level") then Some keyword.Level
    else if bytes_eq word (codes "var") then Some keyword.Var
    else if bytes_eq word (codes "let") then Some keyword.Let
    else if bytes_eq word (codes "load") then Some keyword.Load
    else if bytes_eq word (codes "value") then Some keyword.Value
    else if bytes_eq word (codes "first") then Some keyword.First
    else if bytes_eq word (codes "list") then Some keyword.List
    else if bytes_eq word (codes "entry") then Some keyword.Entry
    else if bytes_eq word (codes "equal") then Some keyword.Equal
    else if bytes_eq word (codes "size") then Some keyword.Size
    else if bytes_eq word (codes "stats") then Some keyword.Stats
    else None

-- The tree of a word that no `(` follows: a NUMBER, `@` and a NATURAL, or a NAME.
abbrev pub leaf_of_name : List ℕ → Option Tree
leaf_of_name word = if is_name word then Some (Named word) else None

abbrev pub leaf_of_place : List ℕ → Option ℤ → Option Tree
leaf_of_place word None = leaf_of_name word
leaf_of_place word (Some n) = Some (At n)

abbrev pub leaf_of_number : List ℕ → Option ℤ → Option Tree
leaf_of_number word None = leaf_of_place word (place word)
leaf_of_number word (Some n) = Some (Num n)

unfoldable pub leaf : List ℕ → Option Tree
leaf word = leaf_of_number word (number word)

abbrev pub opens : List (List ℕ) → Bool
opens [] = false
opens (word ∷ rest) = bytes_eq word open_sign

-- the words begin with a word that spells the leaf by itself, and the rest comes after it
pub record SpellsLeaf (e : Tree) (all rest : List (List ℕ)) : Type 0 where
  pub word : List ℕ
  pub words : all ≡ word ∷ rest
  pub alone : opens rest ≡ false
  pub is : leaf word ≡ Some e

-- the words begin with the head's word and `(`, and the rest comes after it
pub record Calls (head : Head) (all rest : List (List ℕ)) : Type 0 where
  pub word : List ℕ
  pub words : all ≡ word ∷ open_sign ∷ rest
  pub is : head_of word ≡ Some head

-- an atom of a kind, as a word
abbrev pub variable_of : List ℕ → Option ℤ → Option Atom
variable_of word None = if is_name word then Some (Variable word) else None
variable_of word (Some i) = Some (Position i)

abbrev pub bit_of : List ℕ → Option Atom
bit_of word =
    if bytes_eq word (codes "0") then Some (Number (pos 0))
    else if bytes_eq word (codes "1") then Some (Number (pos 1))
    else None

unfoldable pub atom_of : Kind → List ℕ → Option Atom
atom_of AnExpression word = None
atom_of AVariable word = variable_of word (place word)
atom_of ANatural word = option_map Number (natural word)
atom_of ANumber word = option_map Number (number word)
atom_of ABit word = bit_of word

-- what stands before the argument at place i: a comma, but nothing before the first
abbrev pub lead : ℕ → List (List ℕ)
lead zero = []
lead (suc i) = comma ∷ []

-- what stands behind i arguments: `)`, and there is at least one
abbrev pub SpellsEnd : ℕ → List (List ℕ) → List (List ℕ) → Type 0
SpellsEnd zero all rest = ⊥
SpellsEnd (suc i) all rest = all ≡ close_sign ∷ rest

-- the words begin with what leads to place i, and an atom of the kind, and the rest comes after it
pub record SpellsAtom (i : ℕ) (kind : Kind) (a : Atom) (all rest : List (List ℕ)) : Type 0 where
  pub word : List ℕ
  pub words : all ≡ lead i ++ word ∷ rest
  pub is : atom_of kind word ≡ Some a

-- The words begin with an expression, by cases on its tree, and the rest comes after it.
abbrev mutual
  pub SpellsTree : Tree → List (List ℕ) → List (List ℕ) → Type 0
  SpellsTree (Num n) all rest = SpellsLeaf (Num n) all rest
  SpellsTree (At n) all rest = SpellsLeaf (At n) all rest
  SpellsTree (Named name) all rest = SpellsLeaf (Named name) all rest
  SpellsTree (Call head es) all rest =
      (inside : List (List ℕ)) × Calls head all inside × IsTrue (takes head (count es)) × SpellsArguments head 0 es inside rest

  -- the arguments of a call from place i on, and `)`
  pub SpellsArguments : Head → ℕ → Arguments → List (List ℕ) → List (List ℕ) → Type 0
  SpellsArguments head i none all rest = SpellsEnd i all rest
  SpellsArguments head i (more e es) all rest =
      (kind_at head i ≡ AnExpression) × (after : List (List ℕ)) × (all ≡ lead i ++ after)
      × (mid : List (List ℕ)) × SpellsTree e after mid × SpellsArguments head (suc i) es mid rest
  SpellsArguments head i (atom a es) all rest =
      (mid : List (List ℕ)) × SpellsAtom i (kind_at head i) a all mid × SpellsArguments head (suc i) es mid rest

-- The bytes behind the first word, and their words, spell the statement, by cases on what the first word says. The name of a
-- file may have signs in it, so `load` is spelled by pieces.
abbrev pub SpellsBehind : Keyword → Statement → List ℕ → List (List ℕ) → Type 0
SpellsBehind keyword.Level t bytes all = (k : List ℕ) × (n : ℤ) × (all ≡ k ∷ []) × (natural k ≡ Some n) × (t ≡ Level n)
SpellsBehind keyword.Var t bytes all = IsTrue (nat_le 1 (length all)) × IsTrue (list_all is_name all) × (t ≡ Vars all)
SpellsBehind keyword.Let t bytes all =
    (name : List ℕ) × (e : Tree) × (rest : List (List ℕ)) × (all ≡ name ∷ equals ∷ rest)
    × IsTrue (is_name name) × SpellsTree e rest [] × (t ≡ Let name e)
SpellsBehind keyword.Load t bytes all =
    (prefix : List ℕ) × (file : List ℕ) × (pieces bytes ≡ prefix ∷ file ∷ []) × IsTrue (is_name prefix) × (t ≡ Load prefix file)
SpellsBehind keyword.Value t bytes all =
    (name : List ℕ) × (bits : List ℕ) × (all ≡ name ∷ bits ∷ [])
    × IsTrue (is_name name) × IsTrue (is_bits bits) × (t ≡ Value name bits)
SpellsBehind keyword.First t bytes all =
    (name : List ℕ) × (v : List ℕ) × (n : ℤ) × (all ≡ name ∷ v ∷ [])
    × IsTrue (is_name name) × (number v ≡ Some n) × (t ≡ First name n)
SpellsBehind keyword.List t bytes all =
    (name : List ℕ) × (v : List ℕ) × (m : List ℕ) × (n : ℤ) × (most : ℤ) × (all ≡ name ∷ v ∷ m ∷ [])
    × IsTrue (is_name name) × (number v ≡ Some n) × (natural m ≡ Some most) × (t ≡ Listed name n most)
SpellsBehind keyword.Entry t bytes all =
    (name : List ℕ) × (r : List ℕ) × (c : List ℕ) × (row : ℤ) × (col : ℤ) × (all ≡ name ∷ r ∷ c ∷ [])
    × IsTrue (is_name name) × (natural r ≡ Some row) × (natural c ≡ Some col) × (t ≡ Entry name row col)
SpellsBehind keyword.Equal t bytes all =
    (name : List ℕ) × (other : List ℕ) × (all ≡ name ∷ other ∷ [])
    × IsTrue (is_name name) × IsTrue (is_name other) × (t ≡ Equal name other)
SpellsBehind keyword.Size t bytes all = (name : List ℕ) × (all ≡ name ∷ []) × IsTrue (is_name name) × (t ≡ Size name)
SpellsBehind keyword.Stats t bytes all = (all ≡ []) × (t ≡ Stats)

-- a text, with its words, spells a statement
abbrev pub SpellsWords : Statement → List ℕ → List (List ℕ) → Type 0
SpellsWords t text [] = t ≡ Empty
SpellsWords t text (word ∷ all) =
    (key : Keyword) × (keyword_of word ≡ Some key) × SpellsBehind key t (behind_word text) all

-- a line spells a statement
pub record Spells (line : List ℕ) (t : Statement) : Type 0 where
  pub words : SpellsWords t (before_comment line) (words_of_line line)

-- A line spells at most one statement.
abbrev pub LinesSpellOneStatement : Type 0
LinesSpellOneStatement = (line : List ℕ) (t u : Statement) → Spells line t → Spells line u → t ≡ u
