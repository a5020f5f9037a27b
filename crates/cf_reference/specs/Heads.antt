use Rattle.std.specs.Prelude.{ℕ, zero, suc, ◌==◌, nat_le, Bool, List, [], ◌∷◌, length, Option, Some, None, codes, if◌then◌else◌}
use Rattle.std.specs.Option.{option_or}
use Rattle.std.specs.Str.{bytes_eq}
use Rattle.cf_model.specs.declared.terms.Word1.TheVariants.{Not, Neg}
use Rattle.cf_model.specs.declared.terms.Word2.TheVariants.{And, Or, Xor, Plus, Minus, Times, Min, Max, Eq, Lt}
use Rattle.cf_reference.specs.declared.grammar.Head.{Head}
pub use Rattle.cf_reference.specs.declared.grammar.Kind.{Kind}
pub use Rattle.cf_reference.specs.declared.grammar.Kind.TheVariants.{Expression as AnExpression, Variable as AVariable, Natural as ANatural, Number as ANumber, Bit as ABit}
use Rattle.cf_reference.specs.declared.grammar.Head.TheVariants.{Const, One, Fold, Ite, Restrict, Exists, Forall, SumOut, Compose, AndExists, Kron, Matmul, Transpose, Id, Walsh, Unit}

-- The heads of calls: the word of each, and the arguments that it takes.

-- the words that call, but for those over variables and of matrices
abbrev pub value_table : List (List ℕ × Head)
value_table =
    (codes "const", Const)
    ∷ (codes "not", One Not)
    ∷ (codes "neg", One Neg)
    ∷ (codes "and", Fold And)
    ∷ (codes "or", Fold Or)
    ∷ (codes "xor", Fold Xor)
    ∷ (codes "plus", Fold Plus)
    ∷ (codes "minus", Fold Minus)
    ∷ (codes "times", Fold Times)
    ∷ (codes "min", Fold Min)
    ∷ (codes "max", Fold Max)
    ∷ (codes "eq", Fold Eq)
    ∷ (codes "lt", Fold Lt)
    ∷ (codes "ite", Ite)
    ∷ []

-- those over variables
abbrev pub variable_table : List (List ℕ × Head)
variable_table =
    (codes "restrict", Restrict)
    ∷ (codes "exists", Exists)
    ∷ (codes "forall", Forall)
    ∷ (codes "sumout", SumOut)
    ∷ (codes "compose", Compose)
    ∷ (codes "andexists", AndExists)
    ∷ []

-- those of matrices
abbrev pub matrix_table : List (List ℕ × Head)
matrix_table =
    (codes "kron", Kron)
    ∷ (codes "matmul", Matmul)
    ∷ (codes "transpose", Transpose)
    ∷ (codes "id", Id)
    ∷ (codes "walsh", Walsh)
    ∷ (codes "unit", Unit)
    ∷ []

abbrev pub found_in : List (List ℕ × Head) → List ℕ → Option Head
found_in [] word = None
found_in (entry ∷ later) word = if bytes_eq word entry.0 then Some entry.1 else found_in later word

unfoldable pub matrix_head : List ℕ → Option Head
matrix_head word = found_in matrix_table word

-- of those over variables or of matrices
unfoldable pub variable_head : List ℕ → Option Head
variable_head word = option_or (found_in variable_table word) (matrix_head word)

-- what a word before `(` calls
unfoldable pub head_of : List ℕ → Option Head
head_of word = option_or (found_in value_table word) (variable_head word)

-- The kinds of a call's arguments: those of the first ones, which all stand there, and that of the further ones, if there
-- may be any.
pub record Signature : Type 0 where
  pub first : List Kind
  pub further : Option Kind

abbrev pub exactly : List Kind → Signature
exactly kinds = record { first = kinds; further = None }

abbrev pub or_more : List Kind → Kind → Signature
or_more kinds kind = record { first = kinds; further = Some kind }

-- the arguments that a head takes
abbrev pub signature : Head → Signature
signature Const = exactly (ANatural ∷ ANumber ∷ [])
signature (One word) = exactly (AnExpression ∷ [])
signature (Fold Minus) = exactly (AnExpression ∷ AnExpression ∷ [])
signature (Fold Eq) = exactly (AnExpression ∷ AnExpression ∷ [])
signature (Fold Lt) = exactly (AnExpression ∷ AnExpression ∷ [])
signature (Fold other) = or_more (AnExpression ∷ AnExpression ∷ []) AnExpression
signature Ite = exactly (AnExpression ∷ AnExpression ∷ AnExpression ∷ [])
signature Restrict = exactly (AnExpression ∷ AVariable ∷ ABit ∷ [])
signature Exists = or_more (AnExpression ∷ AVariable ∷ []) AVariable
signature Forall = or_more (AnExpression ∷ AVariable ∷ []) AVariable
signature SumOut = or_more (AnExpression ∷ AVariable ∷ []) AVariable
signature Compose = exactly (AnExpression ∷ AVariable ∷ AnExpression ∷ [])
signature AndExists = or_more (AnExpression ∷ AnExpression ∷ AVariable ∷ []) AVariable
signature Kron = exactly (AnExpression ∷ AnExpression ∷ [])
signature Matmul = exactly (AnExpression ∷ AnExpression ∷ [])
signature Transpose = exactly (AnExpression ∷ [])
signature Id = exactly (ANatural ∷ [])
signature Walsh = exactly (ANatural ∷ [])
signature Unit = exactly (ANatural ∷ ANatural ∷ ANatural ∷ [])

abbrev pub counted : ℕ → Option Kind → ℕ → Bool
counted least None n = n == least
counted least (Some kind) n = nat_le least n

-- whether a head takes so many arguments
abbrev pub takes : Head → ℕ → Bool
takes head n = counted (length (signature head).first) (signature head).further n

abbrev pub kind_in : List Kind → Option Kind → ℕ → Kind
kind_in [] None i = AnExpression
kind_in [] (Some kind) i = kind
kind_in (kind ∷ kinds) further zero = kind
kind_in (kind ∷ kinds) further (suc i) = kind_in kinds further i

-- the kind of the argument at place i, counted from 0
abbrev pub kind_at : Head → ℕ → Kind
kind_at head i = kind_in (signature head).first (signature head).further i
