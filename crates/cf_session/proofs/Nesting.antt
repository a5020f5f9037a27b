-- The function of nested calls, argument by argument.
use Rattle.std.proofs.Common.{ℕ, ℤ, suc, ◌≡◌, ◌≤◌, ◌==◌, ◌&&◌, cond, Bool, true, false, List, [], ◌∷◌, ◌++◌, length, Option, Some, None, refl, sym, ap, subst, ◌∙◌, arith, append_assoc}
use Rattle.std.specs.Prelude.{nat_le}
use Rattle.std.specs.List.{list_all}
use Rattle.std.specs.Option.{option_or}
use Rattle.std.proofs.lemmas.Bool.Decides.{nat_tests}
use Rattle.cf_model.specs.Values.{fitting, and_then}
use Rattle.cf_model.specs.Terms.{joined}
use Rattle.cf_model.specs.FlatFunctions.{FlatFunction, IsFlatFunction, IsAssignment, value_at}
use Rattle.cf_model.specs.declared.terms.Word2.{Word2}
use Rattle.cf_model.specs.declared.terms.Word2.TheVariants.{And, Or, Xor, Plus, Minus, Times, Min, Max, Eq, Lt}
use Rattle.cf_model.proofs.TermLaws.{fitting-some}
use Rattle.cf_pkg.specs.declared.Func.{Func}
use Rattle.cf_pkg.specs.Packages.{Package, OwnsFunction, Keeps, meaning}
use Rattle.cf_reference.specs.declared.grammar.Head.{Head}
use Rattle.cf_reference.specs.declared.grammar.Head.TheVariants.{Fold}
use Rattle.cf_reference.specs.Heads.{signature}
use Rattle.cf_reference.specs.Trees.{Tree, Call, Arguments, none, more, atom, AreFormed, IsFormed}
use Rattle.cf_reference.specs.States.{State, at}
use Rattle.cf_reference.specs.Calls.{Part, flat, Meant, Function, levels, exact, least, own_rule, call, call_refusal, is_nested}
use Rattle.cf_session.specs.Arguments.{is_fold}
use Rattle.cf_session.proofs.Rules.{level_here, rules_go}
use Rattle.cf_session.proofs.HeadFacts.{fold_of, fold_nests, pair_parts}
use Rattle.cf_reference.specs.Expressions.{part, level, meant, walk, walks}
use Rattle.cf_reference.specs.Failures.{failure, first_failure, fold_step, over, over_arguments}
use Rattle.cf_reference.specs.Gives.{Gives, GivesTree}
use Rattle.cf_reference.proofs.ExpressionLaws.{part-Call, meant-none, meant-more}
use Rattle.cf_reference.proofs.FailureLaws.{failure-same, over-Call, over_arguments-none, over_arguments-more, over_arguments-atom}
use Rattle.cf_reference.proofs.GivesLaws.{gives-call, gives-let, gives-never, fold-step}
use Rattle.cf_reference.proofs.TestFacts.{and_then_some, is_le, left, right}
use Rattle.cf_reference.proofs.ValueLaws.{has_value}
use Rattle.cf_reference.proofs.WalkLaws.{walks-first, walks-later, walk-Call-arguments, walk-Call-rules, ruled}
use Rattle.cf_session.specs.declared.faults.StepFault.{StepFault}
use Rattle.cf_session.specs.declared.values.Value.TheVariants as value
use Rattle.cf_session.specs.Building.{Builds, IsFault, IsFaultOf}
use Rattle.cf_session.specs.Values.{AreOwned, AreOf, call_parts, Calls}
use Rattle.cf_session.proofs.Built.{fault_turned, same_level, or_nones, or_second, or_first}
use Rattle.cf_session.proofs.WalkFacts.{append-none}

pub is_same : (m n : ℕ) → m ≡ n → m == n ≡ true
is_same m n e = grind (arith, nat_tests)

-- the exact value of a call whose function is there
exact_is : (head : Head) (args : List Meant) (f : FlatFunction) → Gives (call head args) f → (bits : List Bool) → IsAssignment f.level bits
    → (exact head args).value bits ≡ value_at f bits
exact_is head args f g bits a =
    let got = has_value f g.flat bits a in
    let it = and_then_some ((exact head args).value bits) fitting (at f bits) (sym (g.values bits a) ∙ got) in
    it.1 ∙ ap Some (fitting-some it.0 (at f bits) it.2).0 ∙ sym got

-- The level of nested calls is the first function's.
first_level : (head : Head) → is_fold head ≡ true → (f : FlatFunction) (later : List Meant) → (exact head (Function f ∷ later)).level ≡ f.level
first_level head n f later = ap (λ (h : Head). (exact h (Function f ∷ later)).level) (fold_of head n).1

-- one function stands for itself
one_gives : (head : Head) → is_fold head ≡ true → (f : FlatFunction) → IsFlatFunction f → Gives (call head (Function f ∷ [])) f
one_gives head n f flat =
    let w = fold_of head n in
    subst (λ (h : Head). Gives (call h (Function f ∷ [])) f) (sym w.1) (gives-call (Fold w.0) (Function f ∷ []) f flat refl (λ bits a. has_value f flat bits a))

-- A call of one more function has the values of the call of two: that of the functions before it, and it.
fold_value : (word : Word2) (first : FlatFunction) (others : List Meant) (f g : FlatFunction) → Gives (call (Fold word) (Function first ∷ others)) f
    → (bits : List Bool) → IsAssignment f.level bits
    → (exact (Fold word) (Function f ∷ Function g ∷ [])).value bits ≡ (exact (Fold word) (Function first ∷ others ++ Function g ∷ [])).value bits
fold_value word first others f g h bits a =
    sym (fold-step word first others g bits
    ∙ ap (λ (o : Option ℤ). joined word o (Some (at g bits))) (exact_is (Fold word) (Function first ∷ others) f h bits a ∙ has_value f h.flat bits a))

nested_value : (head : Head) → is_fold head ≡ true → (first : FlatFunction) (others : List Meant) (f g : FlatFunction) → Gives (call head (Function first ∷ others)) f
    → (bits : List Bool) → IsAssignment f.level bits
    → (exact head (Function f ∷ Function g ∷ [])).value bits ≡ (exact head (Function first ∷ others ++ Function g ∷ [])).value bits
nested_value head n first others f g h bits a =
    let w = fold_of head n in
    subst (λ (d : Head). (exact d (Function f ∷ Function g ∷ [])).value bits ≡ (exact d (Function first ∷ others ++ Function g ∷ [])).value bits) (sym w.1)
    (fold_value w.0 first others f g (subst (λ (d : Head). Gives (call d (Function first ∷ others)) f) w.1 h) bits a)

nested_level : (head : Head) → is_fold head ≡ true → (first : FlatFunction) (others later : List Meant) (f g : FlatFunction) → Gives (call head (Function first ∷ others)) f
    → (exact head (Function f ∷ later)).level ≡ (exact head (Function first ∷ others ++ Function g ∷ [])).level
nested_level head n first others later f g h =
    first_level head n f later ∙ h.level ∙ first_level head n first others ∙ sym (first_level head n first (others ++ Function g ∷ []))

-- the values of both calls at the assignments of their level
nested_same : (head : Head) → is_fold head ≡ true → (first : FlatFunction) (others : List Meant) (f g : FlatFunction) → Gives (call head (Function first ∷ others)) f
    → (bits : List Bool) → IsAssignment (exact head (Function f ∷ Function g ∷ [])).level bits
    → (call head (Function f ∷ Function g ∷ [])).value bits ≡ (call head (Function first ∷ others ++ Function g ∷ [])).value bits
nested_same head n first others f g h bits a =
    ap (λ o. and_then o fitting)
    (nested_value head n first others f g h bits (subst (λ (k : ℕ). IsAssignment k bits) (first_level head n f (Function g ∷ [])) a))

-- The call of two is one of a package's functions, in order.
pub pair_owned : (p : Package) (f g : Func) → OwnsFunction p f → IsFlatFunction (meaning p f) → OwnsFunction p g → IsFlatFunction (meaning p g)
    → AreOwned p (value.Function f ∷ value.Function g ∷ [])
pair_owned p f g own flat own_g flat_g = ((own, flat), ((own_g, flat_g), tt))

two_kinds : (word : Word2) (f g : Func) → AreOf (signature (Fold word)).first (signature (Fold word)).further (value.Function f ∷ value.Function g ∷ [])
two_kinds And f g = (tt, (tt, tt))
two_kinds Or f g = (tt, (tt, tt))
two_kinds Xor f g = (tt, (tt, tt))
two_kinds Plus f g = (tt, (tt, tt))
two_kinds Minus f g = (tt, (tt, tt))
two_kinds Times f g = (tt, (tt, tt))
two_kinds Min f g = (tt, (tt, tt))
two_kinds Max f g = (tt, (tt, tt))
two_kinds Eq f g = (tt, (tt, tt))
two_kinds Lt f g = (tt, (tt, tt))

pub pair_kinds : (head : Head) → is_fold head ≡ true → (f g : Func) → AreOf (signature head).first (signature head).further (value.Function f ∷ value.Function g ∷ [])
pair_kinds head n f g =
    let w = fold_of head n in
    subst (λ (d : Head). AreOf (signature d).first (signature d).further (value.Function f ∷ value.Function g ∷ [])) (sym w.1) (two_kinds w.0 f g)

pub pair_ruled : (head : Head) → is_fold head ≡ true → (f g : FlatFunction) → g.level ≡ f.level → f.level ≤ 7 → call_refusal head (Function f ∷ Function g ∷ []) ≡ None
pair_ruled head n f g same low =
    let args = Function f ∷ Function g ∷ [] in
    let word = fold_of head n in
    let none : least head ≡ 0 = ap least word.1 in
    rules_go head args (ap (λ b. b && true) (is_same g.level f.level same)) refl
    (level_here head (exact head args).level f.level (first_level head n f (Function g ∷ [])) (omega (arith, none)) low) (ap (λ d. own_rule d args) word.1)

-- where nested calls overflow, behind the arguments that are done
abbrev over_left : State → Head → Arguments → List Meant → Arguments → Option (List Bool)
over_left s head all done left =
    option_or (over_arguments s head done left) (failure (part s (Call head all)))

-- A function is that of the first arguments of nested calls, and these arguments are left.
pub record Nesting (s : State) (head : Head) (all : Arguments) (p : Package) (f : Func) (left : Arguments) : Type 0 where
  pub nests : is_fold head ≡ true
  pub first : FlatFunction
  pub others : List Meant
  pub place : ℕ
  pub owned : OwnsFunction p f
  pub gives : Gives (call head (Function first ∷ others)) (meaning p f)
  pub overflow : over s (Call head all) ≡ over_left s head all (Function first ∷ others) left
  pub is_meant : meant s all ≡ Function first ∷ others ++ meant s left
  pub walked : walks s left ≡ None
  pub equal : list_all (λ other. other == first.level) (levels (meant s left)) ≡ true
  pub low : first.level ≤ 7
  pub formed : AreFormed head place left

-- no nested call overflows where the one of the arguments so far has a function
never-nested : (head : Head) (done : List Meant) (f : FlatFunction) → Gives (call head done) f → first_failure (fold_step head done) ≡ None
never-nested head done f g = by (is_nested head && nat_le 2 (length done))
  where
    by : (b : Bool) → first_failure (cond b (call head done ∷ []) []) ≡ None
    by true = or_nones (failure (call head done)) None (gives-never (call head done) f g) refl
    by false = refl

none_nested : (head : Head) → first_failure (fold_step head []) ≡ None
none_nested head = by (is_nested head)
  where
    by : (b : Bool) → first_failure (cond (b && false) (call head [] ∷ []) []) ≡ None
    by true = refl
    by false = refl

-- the first argument
pub nesting_begins : (s : State) (head : Head) (e : Tree) (es : Arguments) (p : Package) (f : Func) → is_fold head ≡ true → IsFormed (Call head (more e es))
    → walk s (Call head (more e es)) ≡ None → Builds s e p f → Nesting s head (more e es) p f es
nesting_begins s head e es p f n formed walked b =
    let g = meaning p f in
    let same : flat (part s e) ≡ g = sym (gives-let s e g b.gives) in
    let is : meant s (more e es) ≡ Function g ∷ meant s es = meant-more s e es ∙ ap (λ x. Function x ∷ meant s es) same in
    let rules = ruled head (Function g ∷ meant s es) (ap (call_refusal head) (sym is) ∙ walk-Call-rules s head (more e es) walked) in
    record {
      nests = n;
      first = g;
      others = [];
      place = 1;
      owned = b.owned;
      gives = one_gives head n g b.gives.flat;
      overflow = over-Call s head (more e es)
          ∙ ap (λ o. option_or o (failure (part s (Call head (more e es)))))
          (over_arguments-more s head [] e es
          ∙ or_second (first_failure (fold_step head [])) _ _ (none_nested head) (or_second (over s e) _ _ b.fits (ap (λ x. over_arguments s head (Function x ∷ []) es) same)));
      is_meant = is;
      walked = walks-later s e es (walk-Call-arguments s head (more e es) walked);
      equal = rules.equal;
      low = subst (λ (k : ℕ). k ≤ 7) (first_level head n g (meant s es)) rules.low;
      formed = formed.1.2;
    }

pub nesting_kept : (s : State) (head : Head) (all : Arguments) (p q : Package) (f : Func) (left : Arguments) → Keeps p q
    → Nesting s head all p f left → Nesting s head all q f left
nesting_kept s head all p q f left k h =
    let kept = k.functions f h.owned in
    record {
      nests = h.nests;
      first = h.first;
      others = h.others;
      place = h.place;
      owned = kept.owned;
      gives = subst (λ (g : FlatFunction). Gives (call head (Function h.first ∷ h.others)) g) (sym kept.is_it) h.gives;
      overflow = h.overflow;
      is_meant = h.is_meant;
      walked = h.walked;
      equal = h.equal;
      low = h.low;
      formed = h.formed;
    }

-- the next argument
pub next_walked : (s : State) (head : Head) (all : Arguments) (p : Package) (f : Func) (e : Tree) (es : Arguments)
    → Nesting s head all p f (more e es) → walk s e ≡ None
next_walked s head all p f e es h = walks-first s e es h.walked

levels_split : (s : State) (k : ℕ) (e : Tree) (es : Arguments) → list_all (λ other. other == k) (levels (meant s (more e es))) ≡ true
    → (level s e ≡ k) × (list_all (λ other. other == k) (levels (meant s es)) ≡ true)
levels_split s k e es h =
    let here = level s e == k in
    let others = list_all (λ other. other == k) (levels (meant s es)) in
    let split = sym (ap (λ l. list_all (λ other. other == k) (levels l)) (meant-more s e es)) ∙ h in
    (same_level (level s e) k (left here others split), right here others split)

the_level : (s : State) (head : Head) (all : Arguments) (p : Package) (f : Func) (left : Arguments) (h : Nesting s head all p f left) → (meaning p f).level ≡ h.first.level
the_level s head all p f left h = h.gives.level ∙ first_level head h.nests h.first h.others

pub next_ruled : (s : State) (head : Head) (all : Arguments) (p : Package) (f g : Func) (e : Tree) (es : Arguments)
    → Nesting s head all p f (more e es) → Builds s e p g → call_refusal head (Function (meaning p f) ∷ Function (meaning p g) ∷ []) ≡ None
next_ruled s head all p f g e es h b =
    let l = the_level s head all p f (more e es) h in
    pair_ruled head h.nests (meaning p f) (meaning p g) (b.gives.level ∙ (levels_split s h.first.level e es h.equal).0 ∙ sym l)
    (subst (λ (k : ℕ). k ≤ 7) (sym l) h.low)

-- what the next argument means, and where its fellows overflow
next_meant : (s : State) (head : Head) (all : Arguments) (p : Package) (f g : Func) (e : Tree) (es : Arguments) (h : Nesting s head all p f (more e es)) → Builds s e p g
    → meant s all ≡ (Function h.first ∷ h.others ++ Function (meaning p g) ∷ []) ++ meant s es
next_meant s head all p f g e es h b =
    let done = Function h.first ∷ h.others in
    h.is_meant
    ∙ ap (λ k. done ++ k) (meant-more s e es ∙ ap (λ y. Function y ∷ meant s es) (sym (gives-let s e (meaning p g) b.gives)))
    ∙ sym (append_assoc done (Function (meaning p g) ∷ []) (meant s es))

next_over : (s : State) (head : Head) (all : Arguments) (p : Package) (f g : Func) (e : Tree) (es : Arguments) (h : Nesting s head all p f (more e es)) → Builds s e p g
    → over s (Call head all) ≡ over_left s head all (Function h.first ∷ h.others ++ Function (meaning p g) ∷ []) es
next_over s head all p f g e es h b =
    let done = Function h.first ∷ h.others in
    h.overflow
    ∙ ap (λ o. option_or o (failure (part s (Call head all))))
    (over_arguments-more s head done e es
    ∙ or_second (first_failure (fold_step head done)) _ _ (never-nested head done (meaning p f) h.gives)
    (or_second (over s e) _ _ b.fits (ap (λ y. over_arguments s head (done ++ Function y ∷ []) es) (sym (gives-let s e (meaning p g) b.gives)))))

-- one argument more
pub nesting_step : (s : State) (head : Head) (all : Arguments) (p q : Package) (f g r : Func) (e : Tree) (es : Arguments)
    → Nesting s head all p f (more e es) → Builds s e p g → Calls head (Function (meaning p f) ∷ Function (meaning p g) ∷ []) q r → Nesting s head all q r es
nesting_step s head all p q f g r e es h b c =
    let x = meaning p g in
    let two = Function (meaning p f) ∷ Function x ∷ [] in
    record {
      nests = h.nests;
      first = h.first;
      others = h.others ++ Function x ∷ [];
      place = suc h.place;
      owned = c.owned;
      gives = record {
        flat = c.gives.flat;
        level = c.gives.level ∙ nested_level head h.nests h.first h.others (Function x ∷ []) (meaning p f) x h.gives;
        values = λ bits a. c.gives.values bits a ∙ nested_same head h.nests h.first h.others (meaning p f) x h.gives bits (subst (λ (k : ℕ). IsAssignment k bits) c.gives.level a);
      };
      overflow = next_over s head all p f g e es h b;
      is_meant = next_meant s head all p f g e es h b;
      walked = walks-later s e es h.walked;
      equal = (levels_split s h.first.level e es h.equal).1;
      low = h.low;
      formed = h.formed.2;
    }

-- the next argument fails, and so does its step
pub next_fails : (s : State) (head : Head) (all : Arguments) (p : Package) (f : Func) (e : Tree) (es : Arguments)
    → Nesting s head all p f (more e es) → (fault : StepFault) → IsFaultOf s e fault → IsFaultOf s (Call head all) fault
next_fails s head all p f e es h =
    let done = Function h.first ∷ h.others in
    fault_turned (λ bits. over s e ≡ Some bits) (λ bits. over s (Call head all) ≡ Some bits)
    (λ bits o. h.overflow
    ∙ or_first (over_arguments s head done (more e es)) (failure (part s (Call head all))) bits
    (over_arguments-more s head done e es
    ∙ or_second (first_failure (fold_step head done)) _ (Some bits) (never-nested head done (meaning p f) h.gives) (or_first (over s e) _ bits o)))

-- the nested call of two arguments or more is there
done_nested : (head : Head) (a b : Meant) (others : List Meant) (bits : List Bool) → is_nested head ≡ true → failure (call head (a ∷ b ∷ others)) ≡ Some bits
    → first_failure (fold_step head (a ∷ b ∷ others)) ≡ Some bits
done_nested head a b others bits n fails =
    ap (λ t. first_failure (cond (t && nat_le 2 (length (a ∷ b ∷ others))) (call head (a ∷ b ∷ others) ∷ []) [])) n
    ∙ ap (λ t. first_failure (cond t (call head (a ∷ b ∷ others) ∷ []) [])) (is_le 2 (length (a ∷ b ∷ others)) (omega arith))
    ∙ or_first (failure (call head (a ∷ b ∷ others))) None bits fails

-- an overflow of the arguments so far is that of all
over_done : (s : State) (head : Head) (all : Arguments) (a b : Meant) (others : List Meant) (left : Arguments) (bits : List Bool) → is_nested head ≡ true
    → meant s all ≡ (a ∷ b ∷ others) ++ meant s left → failure (call head (a ∷ b ∷ others)) ≡ Some bits → over_left s head all (a ∷ b ∷ others) left ≡ Some bits
over_done s head all a b others none bits n is fails =
    or_second (over_arguments s head (a ∷ b ∷ others) none) _ (Some bits) (over_arguments-none s head (a ∷ b ∷ others))
    (ap failure (part-Call s head all ∙ ap (call head) (is ∙ ap (λ l. (a ∷ b ∷ others) ++ l) (meant-none s) ∙ append-none (a ∷ b ∷ others))) ∙ fails)
over_done s head all a b others (more e es) bits n is fails =
    or_first (over_arguments s head (a ∷ b ∷ others) (more e es)) _ bits
    (over_arguments-more s head (a ∷ b ∷ others) e es ∙ or_first (first_failure (fold_step head (a ∷ b ∷ others))) _ bits (done_nested head a b others bits n fails))
over_done s head all a b others (atom x es) bits n is fails =
    or_first (over_arguments s head (a ∷ b ∷ others) (atom x es)) _ bits
    (over_arguments-atom s head (a ∷ b ∷ others) x es ∙ or_first (first_failure (fold_step head (a ∷ b ∷ others))) _ bits (done_nested head a b others bits n fails))

-- the second of a list that has one at its end
two_of : (others : List Meant) (m : Meant) → (b : Meant) × (later : List Meant) × (others ++ m ∷ [] ≡ b ∷ later)
two_of [] m = (m, [], refl)
two_of (b ∷ others) m = (b, others ++ m ∷ [], refl)

pub step_fails : (s : State) (head : Head) (all : Arguments) (p : Package) (f g : Func) (e : Tree) (es : Arguments)
    → Nesting s head all p f (more e es) → Builds s e p g → (fault : StepFault)
    → IsFault (λ bits. first_failure (call_parts head (Function (meaning p f) ∷ Function (meaning p g) ∷ [])) ≡ Some bits) fault → IsFaultOf s (Call head all) fault
step_fails s head all p f g e es h b =
    let x = meaning p g in
    let two = Function (meaning p f) ∷ Function x ∷ [] in
    let second = two_of h.others (Function x) in
    fault_turned (λ bits. first_failure (call_parts head two) ≡ Some bits) (λ bits. over s (Call head all) ≡ Some bits)
    (λ bits fails.
    next_over s head all p f g e es h b
    ∙ ap (λ k. over_left s head all (Function h.first ∷ k) es) second.2
    ∙ over_done s head all (Function h.first) second.0 second.1 es bits (fold_nests head h.nests)
    (next_meant s head all p f g e es h b ∙ ap (λ k. (Function h.first ∷ k) ++ meant s es) second.2)
    (ap (λ k. failure (call head (Function h.first ∷ k))) (sym second.2)
    ∙ sym (failure-same (call head two) (call head (Function h.first ∷ h.others ++ Function x ∷ []))
    (nested_level head h.nests h.first h.others (Function x ∷ []) (meaning p f) x h.gives) (nested_same head h.nests h.first h.others (meaning p f) x h.gives))
    ∙ sym (pair_parts head h.nests (Function (meaning p f)) (Function x)) ∙ fails))

-- the first argument fails
pub first_fails : (s : State) (head : Head) (e : Tree) (es : Arguments) (fault : StepFault) → IsFaultOf s e fault
    → IsFaultOf s (Call head (more e es)) fault
first_fails s head e es =
    fault_turned (λ bits. over s e ≡ Some bits) (λ bits. over s (Call head (more e es)) ≡ Some bits)
    (λ bits o. over-Call s head (more e es)
    ∙ or_first (over_arguments s head [] (more e es)) _ bits
    (over_arguments-more s head [] e es ∙ or_second (first_failure (fold_step head [])) _ (Some bits) (none_nested head) (or_first (over s e) _ bits o)))

-- no argument is left
pub nesting_ends : (s : State) (head : Head) (all : Arguments) (p : Package) (f : Func) → Nesting s head all p f none
    → Builds s (Call head all) p f
nesting_ends s head all p f h =
    let done = Function h.first ∷ h.others in
    let is : part s (Call head all) ≡ call head done =
    part-Call s head all ∙ ap (call head) (h.is_meant ∙ ap (λ l. done ++ l) (meant-none s) ∙ append-none done) in
    let gives : GivesTree s (Call head all) (meaning p f) = subst (λ (part : Part). Gives part (meaning p f)) (sym is) h.gives in
    record {
      owned = h.owned;
      gives = gives;
      fits = h.overflow
          ∙ or_nones (over_arguments s head done none) (failure (part s (Call head all))) (over_arguments-none s head done)
          (gives-never (part s (Call head all)) (meaning p f) gives);
    }
