-- The level, the refusal and the value of an expression, by its form.
use Rattle.std.proofs.Common.{ℕ, ℤ, ◌≡◌, ◌^◌, Bool, List, [], ◌∷◌, Some, None, refl}
use Rattle.std.specs.Prelude.{nat_abs}
use Rattle.std.specs.Option.{option_or}
use Rattle.cf_model.specs.Assignments.{bit_at}
use Rattle.cf_model.specs.Values.{and_then}
use Rattle.cf_model.specs.Terms.{truth}
use Rattle.cf_model.specs.FlatFunctions.{value_at}
use Rattle.cf_reference.specs.declared.grammar.Head.{Head}
use Rattle.cf_reference.specs.Trees.{Tree, Num, At, Named, Call, Arguments, none, more, atom, Atom}
use Rattle.cf_reference.specs.Reasons.{NoName, OutOfRange, unless}
use Rattle.cf_reference.specs.States.{State, level_in, is_below, named, is_bound, function_of}
use Rattle.cf_reference.specs.Calls.{flat, Function, call, call_refusal}
use Rattle.cf_reference.specs.Expressions.{part, meant, meant_atom, level, value, walk, walks, walk_atom}

pub part-Call : (s : State) (head : Head) (es : Arguments) → part s (Call head es) ≡ call head (meant s es)
unfolding part
part-Call s head es = refl

pub meant-none : (s : State) → meant s none ≡ []
unfolding part
meant-none s = refl

pub meant-more : (s : State) (e : Tree) (es : Arguments) → meant s (more e es) ≡ Function (flat (part s e)) ∷ meant s es
unfolding part
meant-more s e es = refl

pub meant-atom : (s : State) (a : Atom) (es : Arguments) → meant s (atom a es) ≡ meant_atom s a ∷ meant s es
unfolding part
meant-atom s a es = refl

pub level-Num : (s : State) (n : ℤ) → level s (Num n) ≡ level_in s
unfolding part
level-Num s n = refl

pub level-At : (s : State) (i : ℤ) → level s (At i) ≡ level_in s
unfolding part
level-At s i = refl

pub level-Named : (s : State) (name : List ℕ) → level s (Named name) ≡ (function_of s name).level
unfolding part
level-Named s name = refl

pub walk-Num : (s : State) (n : ℤ) → walk s (Num n) ≡ None
unfolding walk
walk-Num s n = refl

pub walk-At : (s : State) (i : ℤ) → walk s (At i) ≡ unless (is_below i (2 ^ level_in s)) OutOfRange
unfolding walk
walk-At s i = refl

pub walk-Named : (s : State) (name : List ℕ) → walk s (Named name) ≡ unless (is_bound s name) NoName
unfolding walk
walk-Named s name = refl

pub walk-Call : (s : State) (head : Head) (es : Arguments) → walk s (Call head es) ≡ option_or (walks s es) (call_refusal head (meant s es))
unfolding walk
walk-Call s head es = refl

pub walks-none : (s : State) → walks s none ≡ None
unfolding walk
walks-none s = refl

pub walks-more : (s : State) (e : Tree) (es : Arguments) → walks s (more e es) ≡ option_or (walk s e) (walks s es)
unfolding walk
walks-more s e es = refl

pub walks-atom : (s : State) (a : Atom) (es : Arguments) → walks s (atom a es) ≡ option_or (walk_atom s a) (walks s es)
unfolding walk
walks-atom s a es = refl

pub ruleset walk_laws = (walk-Num, walk-At, walk-Named, walk-Call, walks-none, walks-more, walks-atom)

pub value-Num : (s : State) (n : ℤ) (bits : List Bool) → value s (Num n) bits ≡ Some n
unfolding part
value-Num s n bits = refl

pub value-At : (s : State) (i : ℤ) (bits : List Bool) → value s (At i) bits ≡ Some (truth (bit_at bits (nat_abs i)))
unfolding part
value-At s i bits = refl

pub value-Named : (s : State) (name : List ℕ) (bits : List Bool)
    → value s (Named name) bits ≡ and_then (named s name) (λ f. value_at f bits)
unfolding part
value-Named s name bits = refl

pub ruleset level_laws = (level-Num, level-At, level-Named, part-Call, meant-none, meant-more, meant-atom)

pub ruleset value_laws = (value-Num, value-At, value-Named, part-Call, meant-none, meant-more, meant-atom)
