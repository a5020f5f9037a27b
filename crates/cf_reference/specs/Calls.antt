use Rattle.std.specs.Prelude.{ℕ, ℤ, pos, ◌+◌, ◌-◌, ◌^◌, ◌==◌, ◌&&◌, nat_le, nat_abs, Bool, true, false, List, [], ◌∷◌, map, Option, Some, None, unwrap_or, if◌then◌else◌}
use Rattle.std.specs.List.{list_all}
use Rattle.std.specs.Option.{option_or}
use Rattle.cf_model.specs.Values.{fitting, and_then}
use Rattle.cf_model.specs.Terms.{value1, folded_on, is_true}
use Rattle.cf_model.specs.FlatFunctions.{FlatFunction, tabulated}
use Rattle.cf_model.specs.Pointwise.{restricted}
use Rattle.cf_model.specs.Quantified.{over_all, some_setting, every_setting, both, composed}
use Rattle.cf_model.specs.Matrices.{kronecker, product, transpose, identity, walsh, unit}
use Rattle.cf_model.specs.declared.terms.Word2.TheVariants.{Plus}
use Rattle.cf_reference.specs.declared.grammar.Head.{Head}
use Rattle.cf_reference.specs.declared.grammar.Head.TheVariants.{Const, One, Fold, Ite, Restrict, Exists, Forall, SumOut, Compose, AndExists, Kron, Matmul, Transpose, Id, Walsh, Unit}
use Rattle.cf_reference.specs.Reasons.{Refusal, LevelsDiffer, BadLevel, OutOfRange, unless}
use Rattle.cf_reference.specs.States.{is_below, at}

-- What a call means, by its head, from what its arguments mean.

-- a subexpression: its level, and its value at each assignment of the level, if it has one
pub record Part : Type 0 where
  pub level : ℕ
  pub value : List Bool → Option ℤ

-- What an argument means: a function, a variable's position, or a number.
pub data Meant : Type 0 where
  Function : FlatFunction → Meant
  Position : ℤ → Meant
  Number : ℤ → Meant

-- the flat function of a subexpression that has a value everywhere
abbrev pub flat : Part → FlatFunction
flat part = tabulated part.level (λ bits. unwrap_or (part.value bits) (pos 0))

-- the levels of the functions
abbrev pub levels : List Meant → List ℕ
levels [] = []
levels (Function f ∷ later) = f.level ∷ levels later
levels (other ∷ later) = levels later

-- the positions
abbrev pub positions : List Meant → List ℤ
positions [] = []
positions (Position i ∷ later) = i ∷ positions later
positions (other ∷ later) = positions later

-- the variables, by their positions
abbrev pub places : List Meant → List ℕ
places args = map nat_abs (positions args)

-- the values of the functions at an assignment
abbrev pub values : List Meant → List Bool → List (Option ℤ)
values [] bits = []
values (Function f ∷ later) bits = Some (at f bits) ∷ values later bits
values (other ∷ later) bits = values later bits

abbrev pub of_level : ℕ → (List Bool → Option ℤ) → Part
of_level level value = record { level = level; value = value }

-- what stands for no call
abbrev pub nothing : Part
nothing = of_level 0 (λ bits. None)

-- The level of a call and its exact value at an assignment, by its head. They are asked for only where the arguments are
-- those that the head takes, and have values everywhere.
abbrev pub exact : Head → List Meant → Part
exact Const (Number j ∷ Number v ∷ []) = of_level (nat_abs j) (λ bits. Some v)
exact (One word) (Function f ∷ []) = of_level f.level (λ bits. value1 word (at f bits))
exact (Fold word) (Function f ∷ later) = of_level f.level (λ bits. folded_on word (Some (at f bits)) (values later bits))
exact Ite (Function f ∷ Function g ∷ Function h ∷ []) =
    of_level f.level (λ bits. Some (if is_true (at f bits) then at g bits else at h bits))
exact Restrict (Function f ∷ Position i ∷ Number b ∷ []) =
    of_level f.level (λ bits. Some (restricted (at f) (nat_abs i) (is_true b) bits))
exact Exists (Function f ∷ vars) = of_level f.level (λ bits. Some (some_setting (at f) (places vars) bits))
exact Forall (Function f ∷ vars) = of_level f.level (λ bits. Some (every_setting (at f) (places vars) bits))
exact SumOut (Function f ∷ vars) = of_level f.level (over_all Plus (λ bits. Some (at f bits)) (places vars))
exact Compose (Function f ∷ Position i ∷ Function g ∷ []) =
    of_level f.level (λ bits. Some (composed (at f) (nat_abs i) (at g) bits))
exact AndExists (Function f ∷ Function g ∷ vars) =
    of_level f.level (λ bits. Some (some_setting (both (at f) (at g)) (places vars) bits))
exact Kron (Function f ∷ Function g ∷ []) = of_level (f.level + 1) (kronecker (at f) (at g))
exact Matmul (Function f ∷ Function g ∷ []) = of_level f.level (product (2 ^ (f.level - 1)) (at f) (at g))
exact Transpose (Function f ∷ []) = of_level f.level (λ bits. Some (transpose (at f) bits))
exact Id (Number j ∷ []) = of_level (nat_abs j) (λ bits. Some (identity bits))
exact Walsh (Number j ∷ []) = of_level (nat_abs j) (λ bits. Some (walsh bits))
exact Unit (Number j ∷ Number r ∷ Number c ∷ []) =
    of_level (nat_abs j) (λ bits. Some (unit (nat_abs r) (nat_abs c) bits))
exact head others = nothing

-- a call: it has its exact value where that fits
abbrev pub call : Head → List Meant → Part
call head args = of_level (exact head args).level (λ bits. and_then ((exact head args).value bits) fitting)

-- whether a call of three arguments or more is nested calls of its first two, its first three, and so on
abbrev pub is_nested : Head → Bool
is_nested (Fold word) = true
is_nested SumOut = true
is_nested other = false

-- of functions of one level: the first one's
abbrev pub common : List ℕ → ℕ
common [] = 0
common (level ∷ levels) = level

-- whether they are of one level
abbrev pub are_equal : List ℕ → Bool
are_equal [] = true
are_equal (level ∷ levels) = list_all (λ other. other == level) levels

-- the least level of a call: a matrix has level 1 or higher
abbrev pub least : Head → ℕ
least Matmul = 1
least Transpose = 1
least Id = 1
least Walsh = 1
least Unit = 1
least other = 0

-- whether a call may have a level
abbrev pub has_level : Head → ℕ → Bool
has_level head level = nat_le (least head) level && nat_le level 7

-- whether a row or a column of this number is in the matrices of a level, which have 2^(2^(level-1)) of each
abbrev pub is_index : ℕ → ℤ → Bool
is_index level i = is_below i (2 ^ (2 ^ (level - 1)))

-- the rule that a head has for itself
abbrev pub own_rule : Head → List Meant → Option Refusal
own_rule Unit (Number j ∷ Number r ∷ Number c ∷ []) =
    unless (is_index (nat_abs j) r && is_index (nat_abs j) c) OutOfRange
own_rule head others = None

-- The rules of a call in their order: its functions are of one level, the positions are below that level's number of
-- variables, the call's level is one that it may have, and the head's own rule holds.
abbrev pub call_refusal : Head → List Meant → Option Refusal
call_refusal head args =
    option_or
    (unless (are_equal (levels args)) LevelsDiffer)
    (option_or
    (unless (list_all (λ i. is_below i (2 ^ common (levels args))) (positions args)) OutOfRange)
    (option_or
    (unless (has_level head (exact head args).level) BadLevel)
    (own_rule head args)))
