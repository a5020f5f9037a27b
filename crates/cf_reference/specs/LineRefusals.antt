use Rattle.std.specs.Prelude.{ℕ, ◌≡◌, ◌+◌, ◌≤◌, ◌==◌, List, take, count_by, true, false}
use Rattle.cf_reference.specs.Words.{before_comment}
use Rattle.cf_reference.specs.Trees.{Statement, statement_fits, Formed}
use Rattle.cf_reference.specs.Grammar.{Spells}
use Rattle.cf_reference.specs.Bytes as byte

-- what a line comes to: a refusal, or a statement
pub data Parsed : Type 0 where
  -- by number 13
  TooDeep : Parsed
  -- by number 1
  Malformed : Parsed
  -- by number 12
  WideNumber : Parsed
  Good : Statement → Parsed

-- some prefix has at least 65 more `(` than `)`
abbrev pub IsDeep : List ℕ → Type 0
IsDeep text =
    (n : ℕ)
    × (count_by (λ b. b == byte.close_sign) (take n text) + 65 ≤ count_by (λ b. b == byte.open_sign) (take n text))

-- The refusals of a line in their order: its parentheses, its form, its numbers. What stands behind `#` counts for
-- none of them.
abbrev pub Parses : List ℕ → Parsed → Type 0
Parses line TooDeep = IsDeep (before_comment line)
Parses line Malformed = ¬ (IsDeep (before_comment line)) × ((t : Statement) → ¬ (Spells line t))
Parses line WideNumber =
    ¬ (IsDeep (before_comment line)) × ((t : Statement) × Spells line t × (statement_fits t ≡ false))
Parses line (Good t) = ¬ (IsDeep (before_comment line)) × Spells line t × (statement_fits t ≡ true)

-- A line comes to at most one refusal or statement.
abbrev pub LinesParseOnce : Type 0
LinesParseOnce = (line : List ℕ) (p q : Parsed) → Parses line p → Parses line q → p ≡ q

-- What a line spells without a refusal is formed.
abbrev pub LinesSpellFormedStatements : Type 0
LinesSpellFormedStatements = (line : List ℕ) (t : Statement) → Parses line (Good t) → Formed t
