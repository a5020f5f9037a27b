use Rattle.std.specs.Prelude.{◌≡◌, ℤ, ◌^◌, ◌&&◌, nat_le, length, is_none, MatchOption, Bool, List, [], ◌∷◌, ◌++◌, Option, Some, None, if◌then◌else◌}
use Rattle.std.specs.List.{find}
use Rattle.std.specs.Option.{option_or}
use Rattle.cf_model.specs.Assignments.{all_bits}
use Rattle.cf_model.specs.FlatFunctions.{IsAssignment, IsLeast}
use Rattle.cf_reference.specs.declared.grammar.Head.{Head}
use Rattle.cf_reference.specs.Trees.{Tree, Num, At, Named, Call, Arguments, none, more, atom}
use Rattle.cf_reference.specs.States.{State}
use Rattle.cf_reference.specs.Calls.{Part, flat, Meant, Function, call, is_nested}
use Rattle.cf_reference.specs.Expressions.{level, value, part, meant_atom}

-- Where the value of an expression, or of what it is made from, doesn't fit.

-- the least assignment at which a subexpression has no value
unfoldable pub failure : Part → Option (List Bool)
failure part = find (λ bits. is_none (part.value bits)) (all_bits (2 ^ part.level))

-- the same of the first subexpression of several that has none somewhere
abbrev pub first_failure : List Part → Option (List Bool)
first_failure [] = None
first_failure (part ∷ later) = option_or (failure part) (first_failure later)

-- a step of nested calls: the call of the arguments so far, where the head nests and there are two or more
abbrev pub fold_step : Head → List Meant → List Part
fold_step head done = if is_nested head && nat_le 2 (length done) then call head done ∷ [] else []

-- an expression itself, which comes behind those in it
abbrev pub itself : State → Tree → List Part
itself s e = part s e ∷ []

-- The subexpressions of an expression in order: those of the arguments from left to right, and then the expression itself.
-- A step of nested calls comes as soon as its arguments are there.
unfoldable mutual
  pub subexpressions : State → Tree → List Part
  subexpressions s (Num n) = itself s (Num n)
  subexpressions s (At i) = itself s (At i)
  subexpressions s (Named name) = itself s (Named name)
  subexpressions s (Call head es) = argument_subexpressions s head [] es ++ itself s (Call head es)

  -- of each argument of a call, behind those that are done
  pub argument_subexpressions : State → Head → List Meant → Arguments → List Part
  argument_subexpressions s head done none = []
  argument_subexpressions s head done (more e es) =
      fold_step head done ++ (subexpressions s e ++ argument_subexpressions s head (done ++ Function (flat (part s e)) ∷ []) es)
  argument_subexpressions s head done (atom a es) =
      fold_step head done ++ argument_subexpressions s head (done ++ meant_atom s a ∷ []) es

-- The least failing assignment of the first subexpression that fails, which is of that one's level.
abbrev pub over : State → Tree → Option (List Bool)
over s e = first_failure (subexpressions s e)

-- the same of the arguments of a call, behind those that are done
abbrev pub over_arguments : State → Head → List Meant → Arguments → Option (List Bool)
over_arguments s head done es = first_failure (argument_subexpressions s head done es)

-- A subexpression that fails has no value at the assignment that its failure names, and has one at each lower one. Where
-- it doesn't fail, it has a value everywhere.
abbrev pub FailuresAreLeast : Type 0
FailuresAreLeast =
    (part : Part)
    → MatchOption (failure part) ((bits : List Bool) → IsAssignment part.level bits → (v : ℤ) × (part.value bits ≡ Some v))
    (λ bits. IsLeast part.level (λ a. part.value a ≡ None) bits)

-- An expression that overflows nowhere has a value at each assignment of its level.
abbrev pub NoOverflowGivesValues : Type 0
NoOverflowGivesValues =
    (s : State) (e : Tree) → over s e ≡ None
    → (bits : List Bool) → IsAssignment (level s e) bits → (v : ℤ) × (value s e bits ≡ Some v)

-- The first of several subexpressions that fails: none before it does.
pub record FailsFirst (all : List Part) (bits : List Bool) : Type 0 where
  pub earlier : List Part
  pub part : Part
  pub later : List Part
  pub are : all ≡ earlier ++ part ∷ later
  pub before : first_failure earlier ≡ None
  pub fails : failure part ≡ Some bits

-- An overflow names the failure of the first subexpression that fails.
abbrev pub OverflowIsFirst : Type 0
OverflowIsFirst = (s : State) (e : Tree) (bits : List Bool) → over s e ≡ Some bits → FailsFirst (subexpressions s e) bits
