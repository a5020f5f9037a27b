-- The levels and the first refusal of an expression and of the arguments of a call.
use Rattle.std.proofs.Common.{ℕ, ℤ, suc, pos, ◌≡◌, ◌^◌, ◌+◌, ◌≤◌, ◌<◌, ◌&&◌, cond, not, Bool, true, false, List, [], ◌∷◌, ◌++◌, refl, sym, ◌∙◌, ap, Option, Some, None, IsNone, IfErr, IsErrAnd, Ok, Err, subst, arith, append_assoc, max}
use Rattle.std.specs.Prelude.{◌==◌, nat_le, nat_lt, negsuc, is_some, unwrap_or}
use Rattle.std.specs.List.{list_all}
use Rattle.std.specs.Option.{option_or}
use Rattle.std.specs.declared.result.Result.{Result}
use Rattle.std.proofs.lemmas.Bool.{false≢true}
use Rattle.std.proofs.lemmas.Option.{none-some}
use Rattle.std.proofs.lemmas.Bool.Decides.{nat_tests}
use Rattle.std.proofs.Math.Pow.{pow_mono}
use Rattle.cf_model.specs.FlatFunctions.{FlatFunction}
use Rattle.cf_reference.specs.declared.grammar.Head.{Head}
use Rattle.cf_reference.specs.Heads.{signature}
use Rattle.cf_reference.specs.Trees.{Tree, Num, At, Named, Call, Arguments, none, more, atom, Atom, count, IsFormed, AreFormed}
use Rattle.cf_reference.specs.Trees as tree
use Rattle.cf_reference.specs.Reasons.{Refusal, NoName, LevelsDiffer, BadLevel, OutOfRange, unless}
use Rattle.cf_reference.specs.States.{State, level_in, is_below, named, nothing}
use Rattle.cf_reference.specs.Calls.{Part, flat, Meant, Function, Position, Number, levels, positions, common, are_equal, exact, has_level, own_rule, call_refusal}
use Rattle.cf_reference.specs.Expressions.{part, walk, walks, walk_atom, meant}
use Rattle.cf_reference.proofs.ExpressionLaws.{part-Call, meant-none, meant-more, meant-atom, walks-none, walks-more, walks-atom}
use Rattle.cf_reference.proofs.WalkLaws.{walk-Call-goes, walk-Call-refused}
use Rattle.cf_reference.proofs.TestFacts.{le_is}
use Rattle.cf_session.specs.declared.walk.Walked.{Walked}
use Rattle.cf_session.specs.Arguments.{arguments_of, from_place, OfKinds}
use Rattle.cf_session.specs.Walks.{HasLevel, HasPosition, first_of, second_of, third_of, agrees, variables_for, numbers, Shows, Notes, level_by, has_indices, IsLevelled, IsRuled, IsRefused}
use Rattle.cf_session.proofs.Shapes.{of-formed, levelled}

pub none-is : {A : Type 0} (o : Option A) → IsNone o → o ≡ None
none-is None e = refl
none-is (Some x) e = absurd (false≢true (sym e))

-- an error that is handed on
pub handed-on : {T E : Type 0} (r : Result T E) (x : E) (Q : E → Type 0) → IsErrAnd r (λ e. e ≡ x) → Q x → IfErr r Q
handed-on (Ok y) x Q h q = tt
handed-on (Err e) x Q h q = subst Q (sym h) q

-- each kind of expression
pub num-level : (s : State) (n : ℤ) (l : ℕ) → l ≡ level_in s → HasLevel s (Num n) l
unfolding part walk
num-level s n l e = record { walked = refl; is_it = sym e }

pub at-level : (s : State) (i : ℤ) (l : ℕ) → is_below i (2 ^ level_in s) ≡ true → l ≡ level_in s → HasLevel s (At i) l
unfolding part walk
at-level s i l b e = record { walked = ap (λ t. unless t OutOfRange) b; is_it = sym e }

pub at-refused : (s : State) (i : ℤ) → is_below i (2 ^ level_in s) ≡ false → walk s (At i) ≡ Some OutOfRange
unfolding walk
at-refused s i b = ap (λ t. unless t OutOfRange) b

pub named-level : (s : State) (name : List ℕ) (f : FlatFunction) → named s name ≡ Some f → HasLevel s (Named name) f.level
unfolding part walk
named-level s name f e = record {
  walked = ap (λ (o : Option FlatFunction). unless (is_some o) NoName) e;
  is_it = ap (λ (o : Option FlatFunction). (unwrap_or o nothing).level) e;
}

pub named-refused : (s : State) (name : List ℕ) → named s name ≡ None → walk s (Named name) ≡ Some NoName
unfolding walk
named-refused s name e = ap (λ (o : Option FlatFunction). unless (is_some o) NoName) e

le_true : (m n : ℕ) → m ≤ n → nat_le m n ≡ true
le_true m n h = grind (arith, nat_tests)

le_false : (m n : ℕ) → n < m → nat_le m n ≡ false
le_false m n h = grind (arith, nat_tests)

lt_is : (m n : ℕ) → nat_le m n ≡ false → n < m
lt_is m n h = grind (arith, nat_tests)

below : (m n : ℕ) → n ≤ 128 → nat_lt m n ≡ true → suc m ≤ 128
below m n few h = omega (arith, few, lt_true m n h)
  where
    lt_true : (m n : ℕ) → nat_lt m n ≡ true → m < n
    lt_true m n h = grind (arith, nat_tests)

lt_next : (m n : ℕ) → nat_lt m n ≡ nat_le (m + 1) n
lt_next m n = let e : suc m ≡ m + 1 = omega arith in ap (λ k. nat_le k n) e

-- What was noted of some arguments, and of one more.
levels-push : (args : List Meant) (f : FlatFunction) → levels (args ++ Function f ∷ []) ≡ levels args ++ f.level ∷ []
levels-push [] f = refl
levels-push (Function g ∷ args) f = ap (λ l. g.level ∷ l) (levels-push args f)
levels-push (Position i ∷ args) f = levels-push args f
levels-push (Number n ∷ args) f = levels-push args f

levels-kept : (args : List Meant) (m : Meant) → levels (m ∷ []) ≡ [] → levels (args ++ m ∷ []) ≡ levels args
levels-kept [] m e = e
levels-kept (Function g ∷ args) m e = ap (λ l. g.level ∷ l) (levels-kept args m e)
levels-kept (Position i ∷ args) m e = levels-kept args m e
levels-kept (Number n ∷ args) m e = levels-kept args m e

positions-push : (args : List Meant) (i : ℤ) → positions (args ++ Position i ∷ []) ≡ positions args ++ i ∷ []
positions-push [] i = refl
positions-push (Function g ∷ args) i = positions-push args i
positions-push (Position j ∷ args) i = ap (λ l. j ∷ l) (positions-push args i)
positions-push (Number n ∷ args) i = positions-push args i

positions-kept : (args : List Meant) (m : Meant) → positions (m ∷ []) ≡ [] → positions (args ++ m ∷ []) ≡ positions args
positions-kept [] m e = e
positions-kept (Function g ∷ args) m e = positions-kept args m e
positions-kept (Position i ∷ args) m e = ap (λ l. i ∷ l) (positions-kept args m e)
positions-kept (Number n ∷ args) m e = positions-kept args m e

numbers-push : (args : List Meant) (n : ℤ) → numbers (args ++ Number n ∷ []) ≡ numbers args ++ n ∷ []
numbers-push [] n = refl
numbers-push (Function g ∷ args) n = numbers-push args n
numbers-push (Position j ∷ args) n = numbers-push args n
numbers-push (Number m ∷ args) n = ap (λ l. m ∷ l) (numbers-push args n)

numbers-kept : (args : List Meant) (m : Meant) → numbers (m ∷ []) ≡ [] → numbers (args ++ m ∷ []) ≡ numbers args
numbers-kept [] m e = e
numbers-kept (Function g ∷ args) m e = numbers-kept args m e
numbers-kept (Position i ∷ args) m e = numbers-kept args m e
numbers-kept (Number n ∷ args) m e = ap (λ l. n ∷ l) (numbers-kept args m e)

all-push : {A : Type 0} (p : A → Bool) (xs : List A) (x : A) → list_all p (xs ++ x ∷ []) ≡ list_all p xs && p x
all-push p [] x = by (p x)
  where
    by : (b : Bool) → b && true ≡ b
    by true = refl
    by false = refl
all-push p (y ∷ xs) x = by (p y) (all-push p xs x)
  where
    by : (b : Bool) → list_all p (xs ++ x ∷ []) ≡ list_all p xs && p x → b && list_all p (xs ++ x ∷ []) ≡ (b && list_all p xs) && p x
    by true later = later
    by false later = refl

equal-push : (ls : List ℕ) (m : ℕ) → are_equal (ls ++ m ∷ []) ≡ are_equal ls && agrees (first_of ls) m
equal-push [] m = refl
equal-push (l ∷ ls) m = all-push (λ other. other == l) ls m

first-push : {A : Type 0} (xs : List A) (x : A) → option_or (first_of xs) (Some x) ≡ first_of (xs ++ x ∷ [])
first-push [] x = refl
first-push (y ∷ xs) x = refl

common-first : (ls : List ℕ) → unwrap_or (first_of ls) 0 ≡ common ls
common-first [] = refl
common-first (l ∷ ls) = refl

low-or : (o : Option ℕ) (l : ℕ) → unwrap_or o 0 ≤ 7 → l ≤ 7 → unwrap_or (option_or o (Some l)) 0 ≤ 7
low-or None l h k = k
low-or (Some x) l h k = h

pub shows-none : (v : Walked) → v.common ≡ None → v.equal ≡ true → v.wanted ≡ 0 → v.number ≡ None → v.row ≡ None → v.column ≡ None → Shows v []
shows-none v c e w n r k = record {
  low = (let z : unwrap_or v.common 0 ≡ 0 = ap (λ (o : Option ℕ). unwrap_or o 0) c in omega (arith, z));
  first = c;
  equal = e;
  wanted = λ m h. sym (ap (λ j. nat_le j m) w ∙ le_true 0 m (omega arith));
  number = n;
  row = r;
  column = k;
}

pub shows-function : (w v : Walked) (l : ℕ) → l ≤ 7 → v.common ≡ option_or w.common (Some l) → v.equal ≡ w.equal && agrees w.common l → v.wanted ≡ w.wanted → v.number ≡ w.number → v.row ≡ w.row → v.column ≡ w.column
    → (f : FlatFunction) → f.level ≡ l → Notes w v (Function f)
shows-function w v l low c e k n r o f is args h =
    let grown = levels-push args f ∙ ap (λ m. levels args ++ m ∷ []) is in
    record {
      low = subst (λ (o : Option ℕ). unwrap_or o 0 ≤ 7) (sym c) (low-or w.common l h.low low);
      first = c ∙ ap (λ o. option_or o (Some l)) h.first ∙ first-push (levels args) l ∙ ap first_of (sym grown);
      equal = e ∙ ap (λ b. b && agrees w.common l) h.equal ∙ ap (λ o. are_equal (levels args) && agrees o l) h.first ∙ sym (equal-push (levels args) l) ∙ ap are_equal (sym grown);
      wanted = λ m few. ap (list_all (λ i. is_below i m)) (positions-kept args (Function f) refl) ∙ h.wanted m few ∙ ap (λ x. nat_le x m) (sym k);
      number = n ∙ h.number ∙ ap first_of (sym (numbers-kept args (Function f) refl));
      row = r ∙ h.row ∙ ap second_of (sym (numbers-kept args (Function f) refl));
      column = o ∙ h.column ∙ ap third_of (sym (numbers-kept args (Function f) refl));
    }

-- the first three numbers are noted
abbrev pub AreNoted : Walked → List ℤ → Type 0
AreNoted w ns = (w.number ≡ first_of ns) × (w.row ≡ second_of ns) × (w.column ≡ third_of ns)

noted-first : (w v : Walked) (x : ℤ) → w.number ≡ None → v.number ≡ Some x → v.row ≡ w.row → v.column ≡ w.column → (ns : List ℤ) → AreNoted w ns → AreNoted v (ns ++ x ∷ [])
noted-first w v x is n r o [] h = (n, r ∙ h.1, o ∙ h.2)
noted-first w v x is n r o (a ∷ ns) h = absurd (none-some a (sym is ∙ h.0))

noted-second : (w v : Walked) (x y : ℤ) → w.number ≡ Some y → w.row ≡ None → v.number ≡ w.number → v.row ≡ Some x → v.column ≡ w.column
    → (ns : List ℤ) → AreNoted w ns → AreNoted v (ns ++ x ∷ [])
noted-second w v x y is empty n r o [] h = absurd (none-some y (sym h.0 ∙ is))
noted-second w v x y is empty n r o (a ∷ []) h = (n ∙ h.0, r, o ∙ h.2)
noted-second w v x y is empty n r o (a ∷ b ∷ ns) h = absurd (none-some b (sym empty ∙ h.1))

noted-third : (w v : Walked) (x y z : ℤ) → w.number ≡ Some y → w.row ≡ Some z → v.number ≡ w.number → v.row ≡ w.row → v.column ≡ option_or w.column (Some x)
    → (ns : List ℤ) → AreNoted w ns → AreNoted v (ns ++ x ∷ [])
noted-third w v x y z is next n r o [] h = absurd (none-some y (sym h.0 ∙ is))
noted-third w v x y z is next n r o (a ∷ []) h = absurd (none-some z (sym h.1 ∙ next))
noted-third w v x y z is next n r o (a ∷ b ∷ ns) h = (n ∙ h.0, r ∙ h.1, o ∙ ap (λ p. option_or p (Some x)) h.2 ∙ first-push ns x)

shows-number : (w v : Walked) (x : ℤ) → v.common ≡ w.common → v.equal ≡ w.equal → v.wanted ≡ w.wanted → ((ns : List ℤ) → AreNoted w ns → AreNoted v (ns ++ x ∷ []))
    → Notes w v (Number x)
shows-number w v x c e k noted args h =
    let n = subst (AreNoted v) (sym (numbers-push args x)) (noted (numbers args) (h.number, h.row, h.column)) in
    let kept = levels-kept args (Number x) refl in
    record {
      low = subst (λ (o : Option ℕ). unwrap_or o 0 ≤ 7) (sym c) h.low;
      first = c ∙ h.first ∙ ap first_of (sym kept);
      equal = e ∙ h.equal ∙ ap are_equal (sym kept);
      wanted = λ m few. ap (list_all (λ i. is_below i m)) (positions-kept args (Number x) refl) ∙ h.wanted m few ∙ ap (λ y. nat_le y m) (sym k);
      number = n.0;
      row = n.1;
      column = n.2;
    }

pub shows-first : (w v : Walked) (x : ℤ) → v.common ≡ w.common → v.equal ≡ w.equal → v.wanted ≡ w.wanted → w.number ≡ None → v.number ≡ Some x → v.row ≡ w.row → v.column ≡ w.column
    → Notes w v (Number x)
shows-first w v x c e k is n r o = shows-number w v x c e k (noted-first w v x is n r o)

pub shows-second : (w v : Walked) (x y : ℤ) → v.common ≡ w.common → v.equal ≡ w.equal → v.wanted ≡ w.wanted → w.number ≡ Some y → w.row ≡ None → v.number ≡ w.number → v.row ≡ Some x
    → v.column ≡ w.column → Notes w v (Number x)
shows-second w v x y c e k is empty n r o = shows-number w v x c e k (noted-second w v x y is empty n r o)

pub shows-third : (w v : Walked) (x y z : ℤ) → v.common ≡ w.common → v.equal ≡ w.equal → v.wanted ≡ w.wanted → w.number ≡ Some y → w.row ≡ Some z → v.number ≡ w.number → v.row ≡ w.row
    → v.column ≡ option_or w.column (Some x) → Notes w v (Number x)
shows-third w v x y z c e k is next n r o = shows-number w v x c e k (noted-third w v x y z is next n r o)

-- a position asks for so many variables
wants-few : (m n : ℕ) (b : Bool) → n ≤ 128 → nat_lt m 128 ≡ b → nat_lt m n ≡ nat_le (cond b (m + 1) 255) n
wants-few m n true few e = lt_next m n
wants-few m n false few e = by (nat_lt m n) refl
  where
    by : (b : Bool) → nat_lt m n ≡ b → nat_lt m n ≡ nat_le 255 n
    by true is = absurd (false≢true (sym e ∙ le_true (suc m) 128 (below m n few is)))
    by false is = is ∙ sym (le_false 255 n (omega (arith, few)))

wants : (i : ℤ) (n : ℕ) → n ≤ 128 → is_below i n ≡ nat_le (variables_for i) n
wants (pos m) n few =
    ap (λ b. b && nat_lt m n) (le_true 0 m (omega arith)) ∙ wants-few m n (nat_lt m 128) few refl
    ∙ ap (λ b. nat_le (cond (b && nat_lt m 128) (m + 1) 255) n) (sym (le_true 0 m (omega arith)))
wants (negsuc m) n few = sym (le_false 255 n (omega (arith, few)))

both_within : (a b n : ℕ) → nat_le a n && nat_le b n ≡ nat_le (max a b) n
both_within a b n = by (nat_le a n) (nat_le b n) refl refl
  where
    by : (x y : Bool) → nat_le a n ≡ x → nat_le b n ≡ y → x && y ≡ nat_le (max a b) n
    by true true e f = sym (le_true (max a b) n (omega (arith, le_is a n e, le_is b n f)))
    by true false e f = sym (le_false (max a b) n (omega (arith, lt_is b n f)))
    by false y e f = sym (le_false (max a b) n (omega (arith, lt_is a n e)))

pub max-second : (a b v : ℕ) → v ≡ b → a < v → v ≡ max a b
max-second a b v e h = omega (arith, e, h)

pub max-first : (a b v : ℕ) → v ≡ b → v ≤ a → a ≡ max a b
max-first a b v e h = omega (arith, e, h)

pub shows-position : (w v : Walked) (i : ℤ) → v.common ≡ w.common → v.equal ≡ w.equal → v.wanted ≡ max w.wanted (variables_for i) → v.number ≡ w.number → v.row ≡ w.row → v.column ≡ w.column
    → Notes w v (Position i)
shows-position w v i c e k n r o args h =
    let kept = levels-kept args (Position i) refl in
    record {
      low = subst (λ (o : Option ℕ). unwrap_or o 0 ≤ 7) (sym c) h.low;
      first = c ∙ h.first ∙ ap first_of (sym kept);
      equal = e ∙ h.equal ∙ ap are_equal (sym kept);
      wanted = λ m few.
          ap (list_all (λ j. is_below j m)) (positions-push args i) ∙ all-push (λ j. is_below j m) (positions args) i
          ∙ ap (λ b. b && is_below i m) (h.wanted m few) ∙ ap (λ b. nat_le w.wanted m && b) (wants i m few)
          ∙ both_within w.wanted (variables_for i) m ∙ ap (λ y. nat_le y m) (sym k);
      number = n ∙ h.number ∙ ap first_of (sym (numbers-kept args (Position i) refl));
      row = r ∙ h.row ∙ ap second_of (sym (numbers-kept args (Position i) refl));
      column = o ∙ h.column ∙ ap third_of (sym (numbers-kept args (Position i) refl));
    }

-- Arguments were walked up to a place, and none is refused.
pub record Walking (s : State) (head : Head) (all : Arguments) (w : Walked) (place : ℕ) : Type 0 where
  pub seen : List Meant
  pub shows : Shows w seen
  pub is_meant : meant s all ≡ seen ++ meant s (from_place place all)
  pub is_walked : walks s all ≡ walks s (from_place place all)
  pub formed : AreFormed head place (from_place place all)

pub walking-none : (s : State) (head : Head) (all : Arguments) (w : Walked) → Shows w [] → AreFormed head 0 all → Walking s head all w 0
walking-none s head all w h formed = record { seen = []; shows = h; is_meant = refl; is_walked = refl; formed = formed }

moved : (s : State) (head : Head) (all : Arguments) (w v : Walked) (place : ℕ) (m : Meant) (h : Walking s head all w place)
    → Shows v (h.seen ++ m ∷ []) → meant s (from_place place all) ≡ m ∷ meant s (from_place (suc place) all)
    → walks s (from_place place all) ≡ walks s (from_place (suc place) all) → AreFormed head (suc place) (from_place (suc place) all)
    → Walking s head all v (place + 1)
moved s head all w v place m h shows is walked formed =
    let one : suc place ≡ place + 1 = omega arith in
    subst (Walking s head all v) one
    (record {
      seen = h.seen ++ m ∷ [];
      shows = shows;
      is_meant = h.is_meant ∙ ap (λ l. h.seen ++ l) is ∙ sym (append_assoc h.seen (m ∷ []) (meant s (from_place (suc place) all)));
      is_walked = h.is_walked ∙ walked;
      formed = formed;
    })

pub walking-function : (s : State) (head : Head) (all : Arguments) (w v : Walked) (place l : ℕ) (e : Tree) → Walking s head all w place
    → from_place place all ≡ more e (from_place (suc place) all) → HasLevel s e l
    → ((f : FlatFunction) → f.level ≡ l → Notes w v (Function f)) → Walking s head all v (place + 1)
walking-function s head all w v place l e h is at next =
    let later = from_place (suc place) all in
    moved s head all w v place (Function (flat (part s e))) h (next (flat (part s e)) at.is_it h.seen h.shows) (ap (meant s) is ∙ meant-more s e later)
    (ap (walks s) is ∙ walks-more s e later ∙ ap (λ o. option_or o (walks s later)) at.walked)
    (subst (AreFormed head place) is h.formed).2

pub walking-position : (s : State) (head : Head) (all : Arguments) (w v : Walked) (place : ℕ) (i : ℤ) (a : Atom) → Walking s head all w place
    → from_place place all ≡ atom a (from_place (suc place) all) → HasPosition s a i
    → Notes w v (Position i) → Walking s head all v (place + 1)
walking-position s head all w v place i a h is at next =
    let later = from_place (suc place) all in
    moved s head all w v place (Position i) h (next h.seen h.shows) (ap (meant s) is ∙ meant-atom s a later ∙ ap (λ m. m ∷ meant s later) at.is_it)
    (ap (walks s) is ∙ walks-atom s a later ∙ ap (λ o. option_or o (walks s later)) at.walked)
    (subst (AreFormed head place) is h.formed).1

pub walking-number : (s : State) (head : Head) (all : Arguments) (w v : Walked) (place : ℕ) (n : ℤ) → Walking s head all w place
    → from_place place all ≡ atom (tree.Number n) (from_place (suc place) all)
    → Notes w v (Number n) → Walking s head all v (place + 1)
walking-number s head all w v place n h is next =
    let later = from_place (suc place) all in
    moved s head all w v place (Number n) h (next h.seen h.shows) (ap (meant s) is ∙ meant-atom s (tree.Number n) later)
    (ap (walks s) is ∙ walks-atom s (tree.Number n) later)
    (subst (AreFormed head place) is h.formed).1

-- an argument is refused
pub function-refused : (s : State) (head : Head) (all : Arguments) (w : Walked) (place : ℕ) (e : Tree) (r : Refusal) → Walking s head all w place
    → from_place place all ≡ more e (from_place (suc place) all) → walk s e ≡ Some r → walk s (Call head all) ≡ Some r
function-refused s head all w place e r h is refused =
    let later = from_place (suc place) all in
    walk-Call-refused s head all r (h.is_walked ∙ ap (walks s) is ∙ walks-more s e later ∙ ap (λ o. option_or o (walks s later)) refused)

pub position-refused : (s : State) (head : Head) (all : Arguments) (w : Walked) (place : ℕ) (a : Atom) (r : Refusal) → Walking s head all w place
    → from_place place all ≡ atom a (from_place (suc place) all) → walk_atom s a ≡ Some r → walk s (Call head all) ≡ Some r
position-refused s head all w place a r h is refused =
    let later = from_place (suc place) all in
    walk-Call-refused s head all r (h.is_walked ∙ ap (walks s) is ∙ walks-atom s a later ∙ ap (λ o. option_or o (walks s later)) refused)

-- no argument is left
pub from-end : (es : Arguments) → from_place (count es) es ≡ none
from-end none = refl
from-end (more e es) = (let n : count es + 1 ≡ suc (count es) = omega arith in ap (λ k. from_place k (more e es)) n) ∙ from-end es
from-end (atom a es) = (let n : count es + 1 ≡ suc (count es) = omega arith in ap (λ k. from_place k (atom a es)) n) ∙ from-end es

pub append-none : {A : Type 0} (xs : List A) → xs ++ [] ≡ xs
append-none [] = refl
append-none (x ∷ xs) = ap (λ l. x ∷ l) (append-none xs)

pub all-seen : (s : State) (head : Head) (all : Arguments) (w : Walked) (place : ℕ) (h : Walking s head all w place) → place ≡ count all
    → (meant s all ≡ h.seen) × (walks s all ≡ None)
all-seen s head all w place h end =
    let past = ap (λ k. from_place k all) end ∙ from-end all in
    (h.is_meant ∙ ap (λ es. h.seen ++ meant s es) past ∙ ap (λ l. h.seen ++ l) (meant-none s) ∙ append-none h.seen, h.is_walked ∙ ap (walks s) past ∙ walks-none s)

pub call-level : (s : State) (head : Head) (all : Arguments) (w : Walked) (place l : ℕ) (h : Walking s head all w place) → place ≡ count all
    → (call_refusal head h.seen ≡ None) × ((exact head h.seen).level ≡ l) → HasLevel s (Call head all) l
call-level s head all w place l h end ruled =
    let seen = all-seen s head all w place h end in
    record {
      walked = walk-Call-goes s head all seen.1 ∙ ap (call_refusal head) seen.0 ∙ ruled.0;
      is_it = ap (λ (p : Part). p.level) (part-Call s head all) ∙ ap (λ l. (exact head l).level) seen.0 ∙ ruled.1;
    }

pub call-refused : (s : State) (head : Head) (all : Arguments) (w : Walked) (place : ℕ) (r : Refusal) (h : Walking s head all w place) → place ≡ count all
    → call_refusal head h.seen ≡ Some r → walk s (Call head all) ≡ Some r
call-refused s head all w place r h end ruled =
    let seen = all-seen s head all w place h end in
    walk-Call-goes s head all seen.1 ∙ ap (call_refusal head) seen.0 ∙ ruled

seen-levelled : (s : State) (head : Head) (all : Arguments) (w : Walked) (place : ℕ) (h : Walking s head all w place) → place ≡ count all → IsFormed (Call head all) → IsLevelled head h.seen
seen-levelled s head all w place h end formed =
    levelled head h.seen
    (subst (OfKinds (signature head).first (signature head).further) (all-seen s head all w place h end).0 (of-formed s head all formed.0 formed.1))

-- The rules, by what was noted: of the level, and the head's own.
abbrev last_rules : Head → Walked → ℕ → Option Refusal
last_rules head w l = option_or (unless (has_level head l) BadLevel) (unless (has_indices head l w.row w.column) OutOfRange)

own-is : (head : Head) (args : List Meant) (w : Walked) (l : ℕ) → Shows w args → IsLevelled head args → (exact head args).level ≡ l
    → own_rule head args ≡ unless (has_indices head l w.row w.column) OutOfRange
own-is head args w l h levelled at =
    levelled.own
    ∙ ap (λ k. unless (has_indices head k (second_of (numbers args)) (third_of (numbers args))) OutOfRange) at
    ∙ ap (λ r. unless (has_indices head l r (third_of (numbers args))) OutOfRange) (sym h.row)
    ∙ ap (λ c. unless (has_indices head l w.row c) OutOfRange) (sym h.column)

rules-are : (head : Head) (args : List Meant) (w : Walked) (n l : ℕ) → Shows w args → IsLevelled head args → n ≡ 2 ^ unwrap_or w.common 0 → n ≤ 128 → (exact head args).level ≡ l
    → call_refusal head args ≡ option_or (unless w.equal LevelsDiffer) (option_or (unless (nat_le w.wanted n) OutOfRange) (last_rules head w l))
rules-are head args w n l h levelled is few at =
    let same : 2 ^ common (levels args) ≡ n = ap (λ k. 2 ^ k) (sym (common-first (levels args)) ∙ ap (λ (o : Option ℕ). unwrap_or o 0) (sym h.first)) ∙ sym is in
    let inside = ap (λ k. list_all (λ i. is_below i k) (positions args)) same ∙ h.wanted n few in
    let placed = list_all (λ i. is_below i (2 ^ common (levels args))) (positions args) in
    let ranged = has_level head (exact head args).level in
    ap (λ b. option_or (unless b LevelsDiffer) (option_or (unless placed OutOfRange) (option_or (unless ranged BadLevel) (own_rule head args)))) (sym h.equal)
    ∙ ap (λ b. option_or (unless w.equal LevelsDiffer) (option_or (unless b OutOfRange) (option_or (unless ranged BadLevel) (own_rule head args)))) inside
    ∙ ap (λ o. option_or (unless w.equal LevelsDiffer) (option_or (unless (nat_le w.wanted n) OutOfRange) (option_or (unless ranged BadLevel) o))) (own-is head args w l h levelled at)
    ∙ ap (λ k. option_or (unless w.equal LevelsDiffer) (option_or (unless (nat_le w.wanted n) OutOfRange) (option_or (unless (has_level head k) BadLevel) (unless (has_indices head l w.row w.column) OutOfRange)))) at

pub level-is : (head : Head) (args : List Meant) (w : Walked) (l : ℕ) → Shows w args → IsLevelled head args → l ≡ level_by head w.common w.number
    → (exact head args).level ≡ l
level-is head args w l h levelled is =
    levelled.level ∙ ap (λ o. level_by head o (first_of (numbers args))) (sym h.first) ∙ ap (level_by head w.common) (sym h.number) ∙ sym is

pub out-of-range : (head : Head) (args : List Meant) (w : Walked) (n l : ℕ) → Shows w args → IsLevelled head args → n ≡ 2 ^ unwrap_or w.common 0 → n ≤ 128 → (exact head args).level ≡ l
    → w.equal ≡ true → nat_le w.wanted n ≡ false → call_refusal head args ≡ Some OutOfRange
out-of-range head args w n l h levelled is few at e past =
    rules-are head args w n l h levelled is few at
    ∙ ap (λ b. option_or (unless b LevelsDiffer) (option_or (unless (nat_le w.wanted n) OutOfRange) (last_rules head w l))) e
    ∙ ap (λ b. option_or (unless b OutOfRange) (last_rules head w l)) past

by-level : (head : Head) (args : List Meant) (w : Walked) (n l : ℕ) → Shows w args → IsLevelled head args → n ≡ 2 ^ unwrap_or w.common 0 → n ≤ 128 → (exact head args).level ≡ l
    → w.equal ≡ true → nat_le w.wanted n ≡ true → call_refusal head args ≡ last_rules head w l
by-level head args w n l h levelled is few at e within =
    rules-are head args w n l h levelled is few at
    ∙ ap (λ t. option_or (unless t LevelsDiffer) (option_or (unless (nat_le w.wanted n) OutOfRange) (last_rules head w l))) e
    ∙ ap (λ t. option_or (unless t OutOfRange) (last_rules head w l)) within

pub bad-level : (head : Head) (args : List Meant) (w : Walked) (n l : ℕ) → Shows w args → IsLevelled head args → n ≡ 2 ^ unwrap_or w.common 0 → n ≤ 128 → (exact head args).level ≡ l
    → w.equal ≡ true → nat_le w.wanted n ≡ true → has_level head l ≡ false → call_refusal head args ≡ Some BadLevel
bad-level head args w n l h levelled is few at e within ranged =
    by-level head args w n l h levelled is few at e within
    ∙ ap (λ t. option_or (unless t BadLevel) (unless (has_indices head l w.row w.column) OutOfRange)) ranged

pub by-indices : (head : Head) (args : List Meant) (w : Walked) (n l : ℕ) (b : Bool) → Shows w args → IsLevelled head args → n ≡ 2 ^ unwrap_or w.common 0 → n ≤ 128
    → (exact head args).level ≡ l → w.equal ≡ true → nat_le w.wanted n ≡ true → has_level head l ≡ true → has_indices head l w.row w.column ≡ b → call_refusal head args ≡ unless b OutOfRange
by-indices head args w n l b h levelled is few at e within ranged there =
    by-level head args w n l h levelled is few at e within
    ∙ ap (λ t. option_or (unless t BadLevel) (unless (has_indices head l w.row w.column) OutOfRange)) ranged
    ∙ ap (λ t. unless t OutOfRange) there

-- the tests of `ruled`
pub not-false : (b : Bool) → not b ≡ false → b ≡ true
not-false true e = refl
not-false false e = sym e

pub few-variables : (n k : ℕ) → n ≡ 2 ^ k → k ≤ 7 → n ≤ 128
few-variables n k e low = omega (arith, e, pow_mono {i = k} {j = 7} low)

pub past-end : (wanted n : ℕ) → n < wanted → nat_le wanted n ≡ false
past-end wanted n h = le_false wanted n h

pub within-end : (wanted n : ℕ) → wanted ≤ n → nat_le wanted n ≡ true
within-end wanted n h = le_true wanted n h

-- a call as a whole
pub whole-level : (s : State) (head : Head) (t : Tree) (all : Arguments) (w : Walked) (place l : ℕ) (h : Walking s head all w place) → t ≡ Call head all → IsFormed t → place ≡ count all
    → IsRuled head w l → HasLevel s t l
whole-level s head t all w place l h is formed end ruled =
    subst (λ (u : Tree). HasLevel s u l) (sym is) (call-level s head all w place l h end (ruled h.seen h.shows (seen-levelled s head all w place h end (subst IsFormed is formed))))

pub whole-refused : (s : State) (head : Head) (t : Tree) (all : Arguments) (w : Walked) (place : ℕ) (r : Refusal) (h : Walking s head all w place) → t ≡ Call head all → IsFormed t → place ≡ count all
    → IsRefused head w r → walk s t ≡ Some r
whole-refused s head t all w place r h is formed end ruled =
    ap (walk s) is ∙ call-refused s head all w place r h end (ruled h.seen h.shows (seen-levelled s head all w place h end (subst IsFormed is formed)))

-- the arguments of a call before its first one
pub walking-call : (s : State) (head : Head) (t : Tree) (w : Walked) → t ≡ Call head (arguments_of t) → IsFormed t → Shows w [] → Walking s head (arguments_of t) w 0
walking-call s head t w call formed h =
    walking-none s head (arguments_of t) w h (subst IsFormed call formed).1

-- an expression among the arguments is formed
pub walking-formed : (s : State) (head : Head) (all : Arguments) (w : Walked) (place : ℕ) (e : Tree) → Walking s head all w place
    → from_place place all ≡ more e (from_place (suc place) all) → IsFormed e
walking-formed s head all w place e h is = (subst (AreFormed head place) is h.formed).1
