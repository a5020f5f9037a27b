use Rattle.std.specs.Prelude.{ℕ, ℤ, pos, ◌^◌, nat_abs, Bool, List, [], ◌∷◌, Option, Some, None, unwrap_or}
use Rattle.std.specs.Option.{option_or}
use Rattle.cf_model.specs.Assignments.{bit_at}
use Rattle.cf_model.specs.Values.{and_then}
use Rattle.cf_model.specs.Terms.{truth}
use Rattle.cf_model.specs.FlatFunctions.{value_at}
use Rattle.cf_reference.specs.Trees.{Tree, Num, At, Named, Call, Arguments, none, more, atom, Atom, Variable}
use Rattle.cf_reference.specs.Trees as tree
use Rattle.cf_reference.specs.Reasons.{Refusal, NoName, OutOfRange, unless}
use Rattle.cf_reference.specs.States.{State, level_in, is_below, is_among, position_of, named, is_bound, function_of}
use Rattle.cf_reference.specs.Calls.{Part, of_level, flat, Meant, Function, Position, Number, call, call_refusal}

-- The level and the value of an expression, and its refusal. Its level is asked for only where it isn't refused, and its
-- value where besides no subexpression overflows.

abbrev pub meant_atom : State → Atom → Meant
meant_atom s (Variable name) = Position (pos (unwrap_or (position_of s.variables name) 0))
meant_atom s (tree.Position i) = Position i
meant_atom s (tree.Number n) = Number n

unfoldable mutual
  pub part : State → Tree → Part
  part s (Num n) = of_level (level_in s) (λ bits. Some n)
  part s (At i) = of_level (level_in s) (λ bits. Some (truth (bit_at bits (nat_abs i))))
  part s (Named name) = of_level (function_of s name).level (λ bits. and_then (named s name) (λ f. value_at f bits))
  part s (Call head es) = call head (meant s es)

  -- what arguments mean
  pub meant : State → Arguments → List Meant
  meant s none = []
  meant s (more e es) = Function (flat (part s e)) ∷ meant s es
  meant s (atom a es) = meant_atom s a ∷ meant s es

abbrev pub level : State → Tree → ℕ
level s e = (part s e).level

-- The value at an assignment of the expression's level: none where the exact result doesn't fit.
abbrev pub value : State → Tree → List Bool → Option ℤ
value s e bits = (part s e).value bits

abbrev pub walk_atom : State → Atom → Option Refusal
walk_atom s (Variable name) = unless (is_among s.variables name) NoName
walk_atom s other = None

-- The first refusal in reading order: a call's arguments from left to right, and then its rules.
unfoldable mutual
  pub walk : State → Tree → Option Refusal
  walk s (Num n) = None
  walk s (At i) = unless (is_below i (2 ^ level_in s)) OutOfRange
  walk s (Named name) = unless (is_bound s name) NoName
  walk s (Call head es) = option_or (walks s es) (call_refusal head (meant s es))

  pub walks : State → Arguments → Option Refusal
  walks s none = None
  walks s (more e es) = option_or (walk s e) (walks s es)
  walks s (atom a es) = option_or (walk_atom s a) (walks s es)
