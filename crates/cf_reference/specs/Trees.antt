use Rattle.std.specs.Prelude.{◌≡◌, ℕ, suc, ℤ, pos, ◌+◌, ◌≤◌, ◌≤ℤ◌, ◌&&◌, ◌||◌, max, Bool, true, List, length, IsTrue}
use Rattle.std.specs.Ordering.{int_eq}
use Rattle.cf_model.specs.Assignments.{are_digits}
use Rattle.cf_model.specs.Values.{Fits, fits}
use Rattle.cf_reference.specs.declared.grammar.Head.{Head}
use Rattle.cf_reference.specs.Heads.{Kind, AnExpression, AVariable, ANatural, ANumber, ABit, kind_at, takes}

-- Expressions and statements as trees; their numbers may be of any size.

-- an argument that is one word
pub data Atom : Type 0 where
  -- a variable by its name
  Variable : List ℕ → Atom
  -- a variable by its position
  Position : ℤ → Atom
  Number : ℤ → Atom

mutual
  pub data Tree : Type 0 where
    -- a number
    Num : ℤ → Tree
    -- the bit at a position
    At : ℤ → Tree
    -- a variable or a function
    Named : List ℕ → Tree
    Call : Head → Arguments → Tree

  -- each an expression or an atom
  pub data Arguments : Type 0 where
    none : Arguments
    more : Tree → Arguments → Arguments
    atom : Atom → Arguments → Arguments

pub data Statement : Type 0 where
  Empty : Statement
  Level : ℤ → Statement
  Vars : List (List ℕ) → Statement
  Let : List ℕ → Tree → Statement
  -- a prefix, and the name of a file
  Load : List ℕ → List ℕ → Statement
  Value : List ℕ → List ℕ → Statement
  First : List ℕ → ℤ → Statement
  Listed : List ℕ → ℤ → ℤ → Statement
  -- a name, a row and a column
  Entry : List ℕ → ℤ → ℤ → Statement
  Equal : List ℕ → List ℕ → Statement
  Size : List ℕ → Statement
  Stats : Statement

abbrev pub count : Arguments → ℕ
count none = 0
count (more e es) = count es + 1
count (atom a es) = count es + 1

-- how many calls stand inside one another; a fold of any length is one call
abbrev mutual
  pub depth : Tree → ℕ
  depth (Num n) = 0
  depth (At n) = 0
  depth (Named name) = 0
  depth (Call head es) = depths es + 1

  pub depths : Arguments → ℕ
  depths none = 0
  depths (more e es) = max (depth e) (depths es)
  depths (atom a es) = depths es

abbrev pub statement_depth : Statement → ℕ
statement_depth (Let name e) = depth e
statement_depth other = 0

abbrev pub atom_fits : Atom → Bool
atom_fits (Variable name) = true
atom_fits (Position i) = fits i
atom_fits (Number n) = fits n

-- whether each number fits in 128 signed bits
abbrev mutual
  pub tree_fits : Tree → Bool
  tree_fits (Num n) = fits n
  tree_fits (At n) = fits n
  tree_fits (Named name) = true
  tree_fits (Call head es) = arguments_fit es

  pub arguments_fit : Arguments → Bool
  arguments_fit none = true
  arguments_fit (more e es) = tree_fits e && arguments_fit es
  arguments_fit (atom a es) = atom_fits a && arguments_fit es

abbrev pub statement_fits : Statement → Bool
statement_fits (Level n) = fits n
statement_fits (Let name e) = tree_fits e
statement_fits (First name n) = fits n
statement_fits (Listed name n most) = fits n && fits most
statement_fits (Entry name row col) = fits row && fits col
statement_fits other = true

-- a number that a NATURAL spells, and that fits in 128 signed bits
abbrev pub IsNatural : ℤ → Type 0
IsNatural n = (pos 0 ≤ℤ n) × Fits n

-- an atom of a kind, with its number in range
abbrev pub IsFormedAtom : Kind → Atom → Type 0
IsFormedAtom AVariable (Variable name) = Unit {0}
IsFormedAtom AVariable (Position i) = IsNatural i
IsFormedAtom ANatural (Number n) = IsNatural n
IsFormedAtom ANumber (Number n) = Fits n
IsFormedAtom ABit (Number n) = IsTrue (int_eq n (pos 0) || int_eq n (pos 1))
IsFormedAtom kind a = ⊥

-- The numbers of arguments, their kinds and the ranges of numbers are those of the grammar.
abbrev mutual
  pub IsFormed : Tree → Type 0
  IsFormed (Num n) = Fits n
  IsFormed (At n) = IsNatural n
  IsFormed (Named name) = Unit {0}
  IsFormed (Call head es) = IsTrue (takes head (count es)) × AreFormed head 0 es

  -- arguments, the first of which stands at place i
  pub AreFormed : Head → ℕ → Arguments → Type 0
  AreFormed head i none = Unit {0}
  AreFormed head i (more e es) = (kind_at head i ≡ AnExpression) × IsFormed e × AreFormed head (suc i) es
  AreFormed head i (atom a es) = IsFormedAtom (kind_at head i) a × AreFormed head (suc i) es

-- the same for a statement, with its lists that aren't empty and its BITS, which have no byte but `0` and `1`
abbrev pub IsFormedStatement : Statement → Type 0
IsFormedStatement (Level n) = IsNatural n
IsFormedStatement (Vars names) = 1 ≤ length names
IsFormedStatement (Let name e) = IsFormed e
IsFormedStatement (Value name bits) = IsTrue (are_digits bits)
IsFormedStatement (First name n) = Fits n
IsFormedStatement (Listed name n most) = Fits n × IsNatural most
IsFormedStatement (Entry name row col) = IsNatural row × IsNatural col
IsFormedStatement other = Unit {0}

-- A statement is formed if besides at most 64 calls stand inside one another.
pub record Formed (t : Statement) : Type 0 where
  pub parts : IsFormedStatement t
  pub shallow : statement_depth t ≤ 64
