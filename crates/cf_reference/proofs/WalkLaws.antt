-- What an expression that isn't refused tells of its arguments, and when a call is refused.
use Rattle.std.proofs.Common.{◌≡◌, ◌≤◌, ◌^◌, true, Some, None, List, ap, sym, ◌∙◌}
use Rattle.std.specs.Prelude.{nat_le}
use Rattle.std.specs.List.{list_all}
use Rattle.std.specs.Option.{option_or}
use Rattle.cf_reference.specs.declared.grammar.Head.{Head}
use Rattle.cf_reference.specs.Trees.{Tree, Call, Arguments, more, atom, Atom}
use Rattle.cf_reference.specs.Reasons.{Refusal, LevelsDiffer, BadLevel, OutOfRange, unless}
use Rattle.cf_reference.specs.States.{State, is_below}
use Rattle.cf_reference.specs.Calls.{Meant, levels, positions, common, are_equal, exact, least, has_level, own_rule, call_refusal}
use Rattle.cf_reference.specs.Expressions.{meant, walk, walks, walk_atom}
use Rattle.cf_reference.proofs.ExpressionLaws.{walk-Call, walks-more, walks-atom}
use Rattle.cf_reference.proofs.TestFacts.{or_none_first, or_none_second, unless_none, left, right, le_is}

-- of arguments that aren't refused
pub walks-first : (s : State) (e : Tree) (es : Arguments) → walks s (more e es) ≡ None → walk s e ≡ None
walks-first s e es h = or_none_first (walk s e) (walks s es) (sym (walks-more s e es) ∙ h)

pub walks-later : (s : State) (e : Tree) (es : Arguments) → walks s (more e es) ≡ None → walks s es ≡ None
walks-later s e es h = or_none_second (walk s e) (walks s es) (sym (walks-more s e es) ∙ h)

pub walks-first-atom : (s : State) (a : Atom) (es : Arguments) → walks s (atom a es) ≡ None → walk_atom s a ≡ None
walks-first-atom s a es h = or_none_first (walk_atom s a) (walks s es) (sym (walks-atom s a es) ∙ h)

pub walks-later-atom : (s : State) (a : Atom) (es : Arguments) → walks s (atom a es) ≡ None → walks s es ≡ None
walks-later-atom s a es h = or_none_second (walk_atom s a) (walks s es) (sym (walks-atom s a es) ∙ h)

-- of a call that isn't refused
pub walk-Call-arguments : (s : State) (head : Head) (es : Arguments) → walk s (Call head es) ≡ None → walks s es ≡ None
walk-Call-arguments s head es h = or_none_first (walks s es) (call_refusal head (meant s es)) (sym (walk-Call s head es) ∙ h)

pub walk-Call-rules : (s : State) (head : Head) (es : Arguments) → walk s (Call head es) ≡ None
    → call_refusal head (meant s es) ≡ None
walk-Call-rules s head es h = or_none_second (walks s es) (call_refusal head (meant s es)) (sym (walk-Call s head es) ∙ h)

-- a call of arguments that aren't refused is refused by its rules
pub walk-Call-goes : (s : State) (head : Head) (es : Arguments) → walks s es ≡ None
    → walk s (Call head es) ≡ call_refusal head (meant s es)
walk-Call-goes s head es h = walk-Call s head es ∙ ap (λ o. option_or o (call_refusal head (meant s es))) h

-- the first refusal of an argument is the call's
pub walk-Call-refused : (s : State) (head : Head) (es : Arguments) (r : Refusal) → walks s es ≡ Some r
    → walk s (Call head es) ≡ Some r
walk-Call-refused s head es r h = walk-Call s head es ∙ ap (λ o. option_or o (call_refusal head (meant s es))) h

-- What the rules say one after another.
pub record Ruled (head : Head) (args : List Meant) : Type 0 where
  pub equal : are_equal (levels args) ≡ true
  pub inside : list_all (λ i. is_below i (2 ^ common (levels args))) (positions args) ≡ true
  pub high : least head ≤ (exact head args).level
  pub low : (exact head args).level ≤ 7
  pub own : own_rule head args ≡ None

pub ruled : (head : Head) (args : List Meant) → call_refusal head args ≡ None → Ruled head args
ruled head args h =
    let l = (exact head args).level in
    let equal = are_equal (levels args) in
    let inside = list_all (λ i. is_below i (2 ^ common (levels args))) (positions args) in
    let ranged = has_level head l in
    let last = option_or (unless ranged BadLevel) (own_rule head args) in
    let placed = option_or (unless inside OutOfRange) last in
    let second = or_none_second (unless equal LevelsDiffer) placed h in
    let third = or_none_second (unless inside OutOfRange) last second in
    let levelled = unless_none ranged BadLevel (or_none_first (unless ranged BadLevel) (own_rule head args) third) in
    record {
      equal = unless_none equal LevelsDiffer (or_none_first (unless equal LevelsDiffer) placed h);
      inside = unless_none inside OutOfRange (or_none_first (unless inside OutOfRange) last second);
      high = le_is (least head) l (left (nat_le (least head) l) (nat_le l 7) levelled);
      low = le_is l 7 (right (nat_le (least head) l) (nat_le l 7) levelled);
      own = or_none_second (unless ranged BadLevel) (own_rule head args) third;
    }

pub refusal-low : (head : Head) (args : List Meant) → call_refusal head args ≡ None → (exact head args).level ≤ 7
refusal-low head args h = (ruled head args h).low
