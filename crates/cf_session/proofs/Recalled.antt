-- A kept expression isn't refused, and its function is built.
use Rattle.std.proofs.Common.{ℕ, ℤ, suc, pos, ◌≡◌, ◌≤◌, ◌<◌, ◌≤ℤ◌, ◌+◌, ◌-◌, ◌^◌, ◌==◌, ◌&&◌, true, List, [], ◌∷◌, ◌++◌, Some, None, Ok, refl, sym, ap, subst, ◌∙◌, arith}
use Rattle.std.proofs.lemmas.Int.{ints}
use Rattle.std.specs.Prelude.{nat_abs, nat_le, is_some, unwrap_or, All}
use Rattle.std.specs.List.{list_all}
use Rattle.std.specs.Option.{option_or, option_map}
use Rattle.std.proofs.lemmas.Option.{none-some}
use Rattle.cf_model.specs.FlatFunctions.{FlatFunction, IsAssignment}
use Rattle.cf_model.specs.declared.terms.Word1.{Word1}
use Rattle.cf_model.specs.declared.terms.Word2.{Word2}
use Rattle.cf_model.specs.declared.terms.Word2.TheVariants.{And, Or, Plus}
use Rattle.cf_ops.specs.Operations.{of_one, of_two, of_three}
use Rattle.cf_pkg.specs.declared.Func.{Func}
use Rattle.cf_pkg.specs.Tasks.{Task}
use Rattle.cf_pkg.specs.Tasks as task
use Rattle.cf_pkg.specs.Packages.{Package, IsRemembered, OwnsFunction, meaning}
use Rattle.cf_pkg.specs.Jobs.{Finishes, task_value, value_in}
use Rattle.cf_reference.specs.declared.grammar.Head.{Head}
use Rattle.cf_reference.specs.declared.grammar.Head.TheVariants.{Const, One, Fold, Ite, Restrict, Exists, Forall, SumOut, Compose, AndExists, Kron, Matmul, Transpose, Id, Walsh, Unit as UnitAt}
use Rattle.cf_reference.specs.Trees.{Tree, Num, At, Named, Call, Arguments, none, more, atom, Atom, Variable, IsFormed, AreFormed, IsFormedAtom}
use Rattle.cf_reference.specs.Trees as tree
use Rattle.cf_reference.specs.Heads.{kind_at, signature}
use Rattle.cf_reference.specs.declared.grammar.Kind.{Kind}
use Rattle.cf_reference.specs.declared.grammar.Kind.TheVariants.{Expression as AnExpression, Variable as AVariable, Natural as ANatural, Number as ANumber, Bit as ABit}
use Rattle.cf_reference.specs.Reasons.{NoLevel, LevelsDiffer, BadLevel, OutOfRange, NoName, Overflow, unless}
use Rattle.cf_reference.specs.States.{State, level_in, is_below, position_of}
use Rattle.cf_reference.specs.Calls.{Part, Meant, call, call_refusal, levels, positions, exact, least, own_rule, is_index, flat}
use Rattle.cf_reference.specs.Calls as means
use Rattle.cf_reference.specs.Carrying.{function_from}
use Rattle.cf_reference.specs.Expressions.{part, meant, meant_atom, walk, walks, walk_atom}
use Rattle.cf_reference.specs.Failures.{failure, over, over_arguments, first_failure, fold_step}
use Rattle.cf_reference.specs.Gives.{Gives, GivesTree}
use Rattle.cf_reference.proofs.ExpressionLaws.{part-Call, meant-none, meant-more, meant-atom, walk-Num, walk-At, walk-Named, walks-none, walks-more, walks-atom}
use Rattle.cf_reference.proofs.FailureLaws.{first_failure-append, over-Call, over-Num, over-At, over_arguments-none, over_arguments-more, over_arguments-atom}
use Rattle.cf_reference.proofs.GivesLaws.{gives-Num, gives-At, gives-let, gives-never}
use Rattle.cf_reference.proofs.WalkLaws.{walk-Call-goes}
use Rattle.cf_session.specs.declared.values.Value.{Value}
use Rattle.cf_session.specs.declared.values.Value.TheVariants.{Function, Position, Number}
use Rattle.cf_session.specs.Sessions.{Held, state_of, StandsFor}
use Rattle.cf_session.specs.Building.{Builds, refusal_of}
use Rattle.cf_session.specs.Values.{meaning_of, meanings, places_of, AreOf, steps_behind, Calls}
use Rattle.cf_session.specs.Keeping.{call_task, IsJobKept, AreStepsKept, IsCallKept, IsKept, AreKept, AnswersAgain}
use Rattle.cf_session.proofs.Built.{name_built, or_nones, or_second}
use Rattle.cf_session.proofs.Gathering.{of_kinds}
use Rattle.cf_session.proofs.Kept.{first_kept, none_kept}
use Rattle.cf_session.proofs.Jobs.{job_calls, one_calls, fold_calls, choice_calls}
use Rattle.cf_session.proofs.VariableLaws.{over_one, restrict_calls, exists_calls, forall_calls, sum_calls, compose_calls, joined_calls}
use Rattle.cf_session.proofs.MatrixLaws.{kron_calls, matmul_calls, transpose_calls, id_calls, walsh_calls, unit_calls}
use Rattle.cf_session.proofs.Rules.{level_there, rules_go}
use Rattle.cf_session.proofs.KeptShapes.{task_kept, restrict_shape, exists_shape, forall_shape, sum_shape, compose_shape, joined_shape, kron_shape, matmul_shape, transpose_shape, id_shape, walsh_shape, unit_shape}
use Rattle.cf_session.proofs.Finished.{Lawful, AreFinished, quantified_over, composed_over, joined_over, over_goes, below, AreNatural, both_true, all_below, no_levels, none_differ}
use Rattle.cf_restrict.specs.Quantified.{some_value, AreQuantified, IsJoined, IsComposed}
use Rattle.cf_restrict.proofs.QuantLaws.{values_as, some_is, every_is}
use Rattle.cf_model.specs.Terms.{is_true}
use Rattle.cf_model.specs.Quantified.{over_all, some_setting, every_setting}
use Rattle.cf_session.proofs.Shapes.{of-formed}
use Rattle.cf_session.specs.Arguments.{OfKinds}
use Rattle.cf_session.proofs.Nesting.{Nesting, nesting_begins, nesting_step, nesting_ends, pair_ruled, is_same}

-- The function is that of a call on the values, which no rule refuses.
record Done (p : Package) (head : Head) (args : List Value) (r : Func) : Type 0 where
  pub calls : Calls head (meanings p args) p r
  pub goes : call_refusal head (meanings p args) ≡ None

told : (p : Package) → Lawful p → (head : Head) (args : List Value) (t : Task) (r : Func) → call_task head args ≡ Some t → IsJobKept p head args r → Finishes p t r
told p law head args t r e j = law.finished t r (task_kept p head args t r e j)

-- the rules of each head
three_goes : (f g h : FlatFunction) → g.level ≡ f.level → h.level ≡ f.level → f.level ≤ 7
    → call_refusal Ite (means.Function f ∷ means.Function g ∷ means.Function h ∷ []) ≡ None
three_goes f g h second third low =
    rules_go Ite (means.Function f ∷ means.Function g ∷ means.Function h ∷ [])
    (both_true (g.level == f.level) _ (is_same g.level f.level second) (both_true (h.level == f.level) true (is_same h.level f.level third) refl)) refl (level_there Ite f.level (omega arith) low) refl

-- a job that is remembered
const_done : (p : Package) → Lawful p → (l n : ℤ) (r : Func) → IsJobKept p Const (Number l ∷ Number n ∷ []) r → Done p Const (Number l ∷ Number n ∷ []) r
const_done p law l n r j =
    let args = Number l ∷ Number n ∷ [] in
    let done = told p law Const args (task.Const (nat_abs l) n) r refl j in
    record {
      calls = job_calls Const (meanings p args) p r (nat_abs l) (task_value p (task.Const (nat_abs l) n)) done.values (law.flat r done.values.owned) refl (λ bits. refl) refl;
      goes = rules_go Const (meanings p args) refl refl (level_there Const (nat_abs l) (omega arith) done.in_order) refl;
    }

one_done : (p : Package) → Lawful p → (word : Word1) (f r : Func) → IsJobKept p (One word) (Function f ∷ []) r → Done p (One word) (Function f ∷ []) r
one_done p law word f r j =
    let done = told p law (One word) (Function f ∷ []) (task.Map (of_one word) f) r refl j in
    record {
      calls = one_calls word p p f r done.values (law.flat r done.values.owned);
      goes = rules_go (One word) (means.Function (meaning p f) ∷ []) refl refl (level_there (One word) f.head.level (omega arith) (law.flat f done.in_order).level_in) refl;
    }

fold_done : (p : Package) → Lawful p → (word : Word2) (f g r : Func) → IsJobKept p (Fold word) (Function f ∷ Function g ∷ []) r → Done p (Fold word) (Function f ∷ Function g ∷ []) r
fold_done p law word f g r j =
    let done = told p law (Fold word) (Function f ∷ Function g ∷ []) (task.Apply (of_two word) f g) r refl j in
    record {
      calls = fold_calls word p p f g r done.values (law.flat r done.values.owned);
      goes = pair_ruled (Fold word) refl (meaning p f) (meaning p g) (sym done.in_order.level) (law.flat f done.in_order.first).level_in;
    }

choice_done : (p : Package) → Lawful p → (f g h r : Func) → IsJobKept p Ite (Function f ∷ Function g ∷ Function h ∷ []) r
    → Done p Ite (Function f ∷ Function g ∷ Function h ∷ []) r
choice_done p law f g h r j =
    let done = told p law Ite (Function f ∷ Function g ∷ Function h ∷ []) (task.Ternary of_three f g h) r refl j in
    record {
      calls = choice_calls p p f g h r done.values (law.flat r done.values.owned);
      goes = three_goes (meaning p f) (meaning p g) (meaning p h) (sym done.in_order.0.level) (sym done.in_order.1.level) (law.flat f done.in_order.0.first).level_in;
    }

restrict_done : (p : Package) → Lawful p → (f : Func) (i n : ℤ) (r : Func) → pos 0 ≤ℤ i → IsRemembered p (task.Restrict f (nat_abs i) (is_true n)) r
    → Done p Restrict (Function f ∷ Position i ∷ Number n ∷ []) r
restrict_done p law f i n r low k =
    let done = law.finished (task.Restrict f (nat_abs i) (is_true n)) r k in
    record {
      calls = restrict_calls p p f r i n done.values (law.flat r done.values.owned);
      goes = over_goes Restrict (meaning p f) (means.Position i ∷ means.Number n ∷ []) refl refl refl refl
          (both_true (is_below i (2 ^ f.head.level)) true (below i (2 ^ f.head.level) low done.in_order.1) refl) (law.flat f done.in_order.0).level_in;
    }

-- the rules of a call of one function and variables
variables_go : (p : Package) → Lawful p → (head : Head) (f : Func) (vs : List Value) → (exact head (over_one p f vs)).level ≡ f.head.level → least head ≡ 0 → own_rule head (over_one p f vs) ≡ None → OwnsFunction p f → AreNatural vs
    → AreOf [] (Some AVariable) vs → All (λ i. i < 2 ^ f.head.level) (places_of vs) → call_refusal head (over_one p f vs) ≡ None
variables_go p law head f vs is least_is own owned natural kinds within =
    over_goes head (meaning p f) (meanings p vs) is least_is own (none_differ f.head.level (levels (meanings p vs)) (no_levels p vs kinds)) (all_below f.head.level p vs natural within)
    (law.flat f owned).level_in

exists_done : (p : Package) → Lawful p → (f : Func) (i : ℤ) (vars : List Value) (r : Func) → AreNatural (Position i ∷ vars) → AreOf [] (Some AVariable) (Position i ∷ vars)
    → AreQuantified p Or f (nat_abs i ∷ places_of vars) r → Done p Exists (Function f ∷ Position i ∷ vars) r
exists_done p law f i vars r natural kinds k =
    let vs = Position i ∷ vars in
    let done = quantified_over p law Or f (nat_abs i) (places_of vars) r k in
    let values = values_as p r f.head.level f.head.level (over_all Or (some_value p f) (places_of vs)) (λ bits. Some (some_setting (value_in p f) (places_of vs) bits)) done.values refl
    (λ bits a. some_is (value_in p f) (places_of vs) (omega arith) bits) in
    record {
      calls = exists_calls p p f r vs values (law.flat r values.owned);
      goes = variables_go p law Exists f vs refl refl refl done.owned natural kinds done.within;
    }

forall_done : (p : Package) → Lawful p → (f : Func) (i : ℤ) (vars : List Value) (r : Func) → AreNatural (Position i ∷ vars) → AreOf [] (Some AVariable) (Position i ∷ vars)
    → AreQuantified p And f (nat_abs i ∷ places_of vars) r → Done p Forall (Function f ∷ Position i ∷ vars) r
forall_done p law f i vars r natural kinds k =
    let vs = Position i ∷ vars in
    let done = quantified_over p law And f (nat_abs i) (places_of vars) r k in
    let values = values_as p r f.head.level f.head.level (over_all And (some_value p f) (places_of vs)) (λ bits. Some (every_setting (value_in p f) (places_of vs) bits)) done.values refl
    (λ bits a. every_is (value_in p f) (places_of vs) (omega arith) bits) in
    record {
      calls = forall_calls p p f r vs values (law.flat r values.owned);
      goes = variables_go p law Forall f vs refl refl refl done.owned natural kinds done.within;
    }

sum_done : (p : Package) → Lawful p → (f : Func) (i : ℤ) (vars : List Value) (r : Func) → AreNatural (Position i ∷ vars) → AreOf [] (Some AVariable) (Position i ∷ vars)
    → AreQuantified p Plus f (nat_abs i ∷ places_of vars) r → Done p SumOut (Function f ∷ Position i ∷ vars) r
sum_done p law f i vars r natural kinds k =
    let vs = Position i ∷ vars in
    let done = quantified_over p law Plus f (nat_abs i) (places_of vars) r k in
    record {
      calls = sum_calls p p f r vs (law.flat f done.owned) kinds done.values (law.flat r done.values.owned);
      goes = variables_go p law SumOut f vs refl refl refl done.owned natural kinds done.within;
    }

compose_done : (p : Package) → Lawful p → (f : Func) (i : ℤ) (g r : Func) → pos 0 ≤ℤ i → IsComposed p f (nat_abs i) g r → Done p Compose (Function f ∷ Position i ∷ Function g ∷ []) r
compose_done p law f i g r low k =
    let done = composed_over p law f (nat_abs i) g r k in
    record {
      calls = compose_calls p p f g r i done.values (law.flat r done.values.owned);
      goes = over_goes Compose (meaning p f) (means.Position i ∷ means.Function (meaning p g) ∷ []) refl refl refl (both_true (g.head.level == f.head.level) true (is_same g.head.level f.head.level done.level) refl)
          (both_true (is_below i (2 ^ f.head.level)) true (below i (2 ^ f.head.level) low done.within) refl) (law.flat f done.first).level_in;
    }

joined_done : (p : Package) → Lawful p → (f g : Func) (i : ℤ) (vars : List Value) (r : Func) → AreNatural (Position i ∷ vars) → AreOf [] (Some AVariable) (Position i ∷ vars)
    → IsJoined p f g (nat_abs i ∷ places_of vars) r → Done p AndExists (Function f ∷ Function g ∷ Position i ∷ vars) r
joined_done p law f g i vars r natural kinds k =
    let vs = Position i ∷ vars in
    let done = joined_over p law f g (nat_abs i) (places_of vars) r k in
    record {
      calls = joined_calls p p f g r vs done.values (law.flat r done.values.owned);
      goes = over_goes AndExists (meaning p f) (means.Function (meaning p g) ∷ meanings p vs) refl refl refl
          (both_true (g.head.level == f.head.level) _ (is_same g.head.level f.head.level (sym done.level.level)) (none_differ f.head.level (levels (meanings p vs)) (no_levels p vs kinds)))
          (all_below f.head.level p vs natural done.within) (law.flat f done.level.first).level_in;
    }

-- matrices
kron_done : (p : Package) → Lawful p → (f g r : Func) → IsRemembered p (task.Kron f g) r → Done p Kron (Function f ∷ Function g ∷ []) r
kron_done p law f g r k =
    let done = law.finished (task.Kron f g) r k in
    record {
      calls = kron_calls p p f g r done.values (law.flat r done.values.owned);
      goes = rules_go Kron (means.Function (meaning p f) ∷ means.Function (meaning p g) ∷ []) (both_true (g.head.level == f.head.level) true (is_same g.head.level f.head.level (sym done.in_order.0.level)) refl) refl
          (level_there Kron (f.head.level + 1) (omega arith) (omega (arith, done.in_order.1))) refl;
    }

matmul_done : (p : Package) → Lawful p → (f g r : Func) → IsRemembered p (task.Matmul f g) r → Done p Matmul (Function f ∷ Function g ∷ []) r
matmul_done p law f g r k =
    let done = law.finished (task.Matmul f g) r k in
    record {
      calls = matmul_calls p p f g r done.values (law.flat r done.values.owned);
      goes = rules_go Matmul (means.Function (meaning p f) ∷ means.Function (meaning p g) ∷ []) (both_true (g.head.level == f.head.level) true (is_same g.head.level f.head.level (sym done.in_order.0.level)) refl) refl
          (level_there Matmul f.head.level done.in_order.1 (law.flat f done.in_order.0.first).level_in) refl;
    }

transpose_done : (p : Package) → Lawful p → (f r : Func) → IsRemembered p (task.Transpose f) r → Done p Transpose (Function f ∷ []) r
transpose_done p law f r k =
    let done = law.finished (task.Transpose f) r k in
    record {
      calls = transpose_calls p p f r done.values (law.flat r done.values.owned);
      goes = rules_go Transpose (means.Function (meaning p f) ∷ []) refl refl (level_there Transpose f.head.level done.in_order.1 (law.flat f done.in_order.0).level_in) refl;
    }

id_done : (p : Package) → Lawful p → (j : ℤ) (r : Func) → IsRemembered p (task.Id (nat_abs j)) r → Done p Id (Number j ∷ []) r
id_done p law j r k =
    let done = law.finished (task.Id (nat_abs j)) r k in
    record {
      calls = id_calls p r j done.values (law.flat r done.values.owned);
      goes = rules_go Id (means.Number j ∷ []) refl refl (level_there Id (nat_abs j) done.in_order.0 done.in_order.1) refl;
    }

walsh_done : (p : Package) → Lawful p → (j : ℤ) (r : Func) → IsRemembered p (task.Walsh (nat_abs j)) r → Done p Walsh (Number j ∷ []) r
walsh_done p law j r k =
    let done = law.finished (task.Walsh (nat_abs j)) r k in
    record {
      calls = walsh_calls p r j done.values (law.flat r done.values.owned);
      goes = rules_go Walsh (means.Number j ∷ []) refl refl (level_there Walsh (nat_abs j) done.in_order.0 done.in_order.1) refl;
    }

unit_done : (p : Package) → Lawful p → (j n m : ℤ) (r : Func) → pos 0 ≤ℤ n → pos 0 ≤ℤ m → IsRemembered p (task.UnitAt (nat_abs j) (nat_abs n) (nat_abs m)) r
    → Done p UnitAt (Number j ∷ Number n ∷ Number m ∷ []) r
unit_done p law j n m r row column k =
    let done = law.finished (task.UnitAt (nat_abs j) (nat_abs n) (nat_abs m)) r k in
    let size = 2 ^ (2 ^ (nat_abs j - 1)) in
    record {
      calls = unit_calls p r j n m done.values (law.flat r done.values.owned);
      goes = rules_go UnitAt (means.Number j ∷ means.Number n ∷ means.Number m ∷ []) refl refl (level_there UnitAt (nat_abs j) done.in_order.0.0 done.in_order.0.1)
          (ap (λ b. unless b OutOfRange) (both_true (is_below n size) (is_below m size) (below n size row done.in_order.1) (below m size column done.in_order.2)));
    }

-- Arguments that aren't refused, and what they come to: an expression its function, which is built, and an atom what it means.
abbrev AreBuilt : State → Package → Arguments → List Value → Type 0
AreBuilt s p none [] = Unit {0}
AreBuilt s p none (v ∷ later) = ⊥
AreBuilt s p (more e es) (Function f ∷ later) = ((walk s e ≡ None) × Builds s e p f) × AreBuilt s p es later
AreBuilt s p (more e es) others = ⊥
AreBuilt s p (atom a es) (Position i ∷ later) = ((walk_atom s a ≡ None) × (meant_atom s a ≡ means.Position i)) × AreBuilt s p es later
AreBuilt s p (atom a es) (Number n ∷ later) = ((walk_atom s a ≡ None) × (meant_atom s a ≡ means.Number n)) × AreBuilt s p es later
AreBuilt s p (atom a es) others = ⊥

-- What follows of all arguments of a call.
record Come (s : State) (p : Package) (es : Arguments) (args : List Value) : Type 0 where
  pub walked : walks s es ≡ None
  pub is_meant : meant s es ≡ meanings p args
  pub fits : (head : Head) (done : List Meant) → over_arguments s head done es ≡ first_failure (steps_behind head done (meanings p args))

come_atom : (s : State) (p : Package) (a : Atom) (es : Arguments) (v : Value) (later : List Value) → walk_atom s a ≡ None → meant_atom s a ≡ meaning_of p v
    → Come s p es later → Come s p (atom a es) (v ∷ later)
come_atom s p a es v later w m c = record {
  walked = walks-atom s a es ∙ or_nones (walk_atom s a) (walks s es) w c.walked;
  is_meant = meant-atom s a es ∙ ap (λ x. x ∷ meant s es) m ∙ ap (λ l. meaning_of p v ∷ l) c.is_meant;
  fits = λ head done.
      over_arguments-atom s head done a es
      ∙ ap (option_or (first_failure (fold_step head done)))
      (c.fits head (done ++ meant_atom s a ∷ []) ∙ ap (λ x. first_failure (steps_behind head (done ++ x ∷ []) (meanings p later))) m)
      ∙ sym (first_failure-append (fold_step head done) (steps_behind head (done ++ meaning_of p v ∷ []) (meanings p later)));
}

come : (s : State) (p : Package) (es : Arguments) (args : List Value) → AreBuilt s p es args → Come s p es args
come s p none [] b = record { walked = walks-none s; is_meant = meant-none s; fits = λ head done. over_arguments-none s head done }
come s p none (v ∷ later) b = absurd b
come s p (more e es) [] b = absurd b
come s p (more e es) (Function f ∷ later) b =
    let c = come s p es later b.1 in
    let same : flat (part s e) ≡ meaning p f = sym (gives-let s e (meaning p f) b.0.1.gives) in
    record {
      walked = walks-more s e es ∙ or_nones (walk s e) (walks s es) b.0.0 c.walked;
      is_meant = meant-more s e es ∙ ap (λ g. means.Function g ∷ meant s es) same ∙ ap (λ l. means.Function (meaning p f) ∷ l) c.is_meant;
      fits = λ head done.
          over_arguments-more s head done e es
          ∙ ap (option_or (first_failure (fold_step head done)))
          (or_second (over s e) _ _ b.0.1.fits
          (c.fits head (done ++ means.Function (flat (part s e)) ∷ []) ∙ ap (λ g. first_failure (steps_behind head (done ++ means.Function g ∷ []) (meanings p later))) same))
          ∙ sym (first_failure-append (fold_step head done) (steps_behind head (done ++ means.Function (meaning p f) ∷ []) (meanings p later)));
    }
come s p (more e es) (Position i ∷ later) b = absurd b
come s p (more e es) (Number n ∷ later) b = absurd b
come s p (atom a es) [] b = absurd b
come s p (atom a es) (Function f ∷ later) b = absurd b
come s p (atom a es) (Position i ∷ later) b = come_atom s p a es (Position i) later b.0.0 b.0.1 (come s p es later b.1)
come s p (atom a es) (Number n ∷ later) b = come_atom s p a es (Number n) later b.0.0 b.0.1 (come s p es later b.1)

-- An expression isn't refused, and the function is its.
abbrev IsBuilt : State → Tree → Package → Func → Type 0
IsBuilt s e p f = (walk s e ≡ None) × Builds s e p f

-- a call on values
one_built : (s : State) (head : Head) (es : Arguments) (p : Package) (args : List Value) (r : Func) → AreBuilt s p es args
    → Done p head args r → IsBuilt s (Call head es) p r
one_built s head es p args r b done =
    let c = come s p es args b in
    let is : part s (Call head es) ≡ call head (meanings p args) = part-Call s head es ∙ ap (call head) c.is_meant in
    let gives : GivesTree s (Call head es) (meaning p r) = subst (λ (x : Part). Gives x (meaning p r)) (sym is) done.calls.gives in (
      walk-Call-goes s head es c.walked ∙ ap (call_refusal head) c.is_meant ∙ done.goes,
      record {
        owned = done.calls.owned;
        gives = gives;
        fits = over-Call s head es ∙ or_nones (over_arguments s head [] es) (failure (part s (Call head es))) (c.fits head [] ∙ done.calls.fits) (gives-never (part s (Call head es)) (meaning p r) gives);
      },
    )

-- The steps of nested calls are of functions of one level.
record OneLevel (p : Package) (l : ℕ) (args : List Value) : Type 0 where
  pub equal : list_all (λ other. other == l) (levels (meanings p args)) ≡ true
  pub functions : positions (meanings p args) ≡ []

steps_level : (p : Package) → Lawful p → (word : Word2) (f : Func) (later : List Value) (r : Func) → AreStepsKept p (Fold word) f later r → OneLevel p f.head.level later
steps_level p law word f [] r k = record { equal = refl; functions = refl }
steps_level p law word f (Function g ∷ later) r k =
    let done = told p law (Fold word) (Function f ∷ Function g ∷ []) (task.Apply (of_two word) f g) k.0 refl k.1 in
    let rest = subst (λ (l : ℕ). OneLevel p l later) done.values.level (steps_level p law word k.0 later r k.2) in
    let others = list_all (λ other. other == f.head.level) (levels (meanings p later)) in
    record {
      equal = ap (λ b. b && others) (is_same g.head.level f.head.level (sym done.in_order.level)) ∙ rest.equal;
      functions = rest.functions;
    }
steps_level p law word f (Position i ∷ later) r k = absurd (none-some k.1.0 k.1.1)
steps_level p law word f (Number n ∷ later) r k = absurd (none-some k.1.0 k.1.1)

nested_goes : (word : Word2) (p : Package) (f : Func) (later : List Value) → OneLevel p f.head.level later → f.head.level ≤ 7
    → call_refusal (Fold word) (means.Function (meaning p f) ∷ meanings p later) ≡ None
nested_goes word p f later one low =
    over_goes (Fold word) (meaning p f) (meanings p later) refl refl refl one.equal (ap (list_all (λ i. is_below i (2 ^ f.head.level))) one.functions) low

steps_built : (s : State) (p : Package) → Lawful p → (word : Word2) (all left : Arguments) (f : Func) (later : List Value) (r : Func) → Nesting s (Fold word) all p f left
    → AreBuilt s p left later → AreStepsKept p (Fold word) f later r → Builds s (Call (Fold word) all) p r
steps_built s p law word all none f [] r h b k =
    subst (λ (x : Func). Builds s (Call (Fold word) all) p x) (sym k) (nesting_ends s (Fold word) all p f h)
steps_built s p law word all none f (v ∷ later) r h b k = absurd b
steps_built s p law word all (more e es) f [] r h b k = absurd b
steps_built s p law word all (more e es) f (Function g ∷ later) r h b k =
    steps_built s p law word all es k.0 later r
    (nesting_step s (Fold word) all p p f g k.0 e es h b.0.1 (fold_done p law word f g k.0 k.1).calls) b.1 k.2
steps_built s p law word all (more e es) f (Position i ∷ later) r h b k = absurd b
steps_built s p law word all (more e es) f (Number n ∷ later) r h b k = absurd b
steps_built s p law word all (atom a es) f [] r h b k = absurd b
steps_built s p law word all (atom a es) f (Function g ∷ later) r h b k = absurd b
steps_built s p law word all (atom a es) f (Position i ∷ later) r h b k = absurd (none-some k.1.0 k.1.1)
steps_built s p law word all (atom a es) f (Number n ∷ later) r h b k = absurd (none-some k.1.0 k.1.1)

nested_built : (s : State) (p : Package) → Lawful p → (word : Word2) (es : Arguments) (f : Func) (later : List Value) (r : Func) → IsFormed (Call (Fold word) es)
    → AreBuilt s p es (Function f ∷ later) → AreStepsKept p (Fold word) f later r → IsBuilt s (Call (Fold word) es) p r
nested_built s p law word none f later r formed b k = absurd b
nested_built s p law word (more e es) f later r formed b k =
    let c = come s p (more e es) (Function f ∷ later) b in
    let low = (law.flat f b.0.1.owned).level_in in
    let walked : walk s (Call (Fold word) (more e es)) ≡ None =
    walk-Call-goes s (Fold word) (more e es) c.walked ∙ ap (call_refusal (Fold word)) c.is_meant ∙ nested_goes word p f later (steps_level p law word f later r k) low in (
      walked,
      steps_built s p law word (more e es) es f later r (nesting_begins s (Fold word) e es p f refl formed walked b.0.1) b.1 k,
    )
nested_built s p law word (atom a es) f later r formed b k = absurd b

-- an expression without arguments
number_there : (s : State) (p : Package) → Lawful p → (n : ℤ) (f : Func) → IsRemembered p (task.Const (level_in s) n) f → IsBuilt s (Num n) p f
number_there s p law n f k =
    let done = law.finished (task.Const (level_in s) n) f k in (
      walk-Num s n,
      record {
        owned = done.values.owned;
        gives = gives-Num s n (meaning p f) (law.flat f done.values.owned) done.values.level
            (λ bits a. done.values.values bits (subst (λ (l : ℕ). IsAssignment l bits) done.values.level a));
        fits = over-Num s n;
      },
    )

bit_there : (s : State) (p : Package) → Lawful p → (i : ℤ) (f : Func) → pos 0 ≤ℤ i → IsRemembered p (task.Var (level_in s) (nat_abs i)) f → IsBuilt s (At i) p f
bit_there s p law i f low k =
    let done = law.finished (task.Var (level_in s) (nat_abs i)) f k in (
      walk-At s i ∙ ap (λ b. unless b OutOfRange) (below i (2 ^ level_in s) low done.in_order.1),
      record {
        owned = done.values.owned;
        gives = gives-At s i (meaning p f) (law.flat f done.values.owned) done.values.level
            (λ bits a. done.values.values bits (subst (λ (l : ℕ). IsAssignment l bits) done.values.level a));
        fits = over-At s i;
      },
    )

name_there : (h : Held) → Lawful h.pkg → (name : List ℕ) (f : Func) → StandsFor h name f → IsBuilt (state_of h) (Named name) h.pkg f
name_there h law name f k =
    let s = state_of h in (
      walk-Named s name ∙ ap (λ o. unless (is_some o) NoName) k.means,
      name_built s name h.pkg f k.owned k.means (law.flat f k.owned),
    )

-- positions of formed arguments aren't negative
abbrev position_in : Meant → ℤ → ℤ
position_in (means.Position i) d = i
position_in other d = d

named_natural : (n : ℕ) (i : ℤ) → means.Position (pos n) ≡ means.Position i → pos 0 ≤ℤ i
named_natural n i e =
    let at_least : pos 0 ≤ℤ pos n = omega (arith, ints) in
    subst (λ z. pos 0 ≤ℤ z) (ap (λ m. position_in m i) e) at_least

placed_natural : (kind : Kind) (j i : ℤ) → IsFormedAtom kind (tree.Position j) → means.Position j ≡ means.Position i → pos 0 ≤ℤ i
placed_natural AnExpression j i h e = absurd h
placed_natural AVariable j i h e = subst (λ z. pos 0 ≤ℤ z) (ap (λ m. position_in m i) e) h.0
placed_natural ANatural j i h e = absurd h
placed_natural ANumber j i h e = absurd h
placed_natural ABit j i h e = absurd h

atom_natural : (s : State) (kind : Kind) (a : Atom) (i : ℤ) → IsFormedAtom kind a → meant_atom s a ≡ means.Position i → pos 0 ≤ℤ i
atom_natural s kind (Variable name) i h e = named_natural (unwrap_or (position_of s.variables name) 0) i e
atom_natural s kind (tree.Position j) i h e = placed_natural kind j i h e
atom_natural s kind (tree.Number n) i h e = cc

all_natural : (s : State) (p : Package) (head : Head) (place : ℕ) (es : Arguments) (args : List Value) → AreFormed head place es → AreBuilt s p es args → AreNatural args
all_natural s p head place none [] formed b = tt
all_natural s p head place none (v ∷ later) formed b = absurd b
all_natural s p head place (more e es) [] formed b = absurd b
all_natural s p head place (more e es) (Function f ∷ later) formed b = all_natural s p head (suc place) es later formed.2 b.1
all_natural s p head place (more e es) (Position i ∷ later) formed b = absurd b
all_natural s p head place (more e es) (Number n ∷ later) formed b = absurd b
all_natural s p head place (atom a es) [] formed b = absurd b
all_natural s p head place (atom a es) (Function f ∷ later) formed b = absurd b
all_natural s p head place (atom a es) (Position i ∷ later) formed b =
    (atom_natural s (kind_at head place) a i formed.0 b.0.1, all_natural s p head (suc place) es later formed.1 b.1)
all_natural s p head place (atom a es) (Number n ∷ later) formed b = all_natural s p head (suc place) es later formed.1 b.1

-- What is known of the values of a formed call.
record There (s : State) (p : Package) (head : Head) (es : Arguments) (args : List Value) : Type 0 where
  pub built : AreBuilt s p es args
  pub natural : AreNatural args
  pub kinds : AreOf (signature head).first (signature head).further args

there : (s : State) (p : Package) (head : Head) (es : Arguments) (args others : List Value) → args ≡ others → IsFormed (Call head es) → AreBuilt s p es args → There s p head es others
there s p head es args others is formed b =
    let built = subst (AreBuilt s p es) is b in
    record {
      built = built;
      natural = all_natural s p head 0 es others formed.1 built;
      kinds = of_kinds p (signature head).first (signature head).further others
          (subst (OfKinds (signature head).first (signature head).further) (come s p es others built).is_meant (of-formed s head es formed.0 formed.1));
    }

-- rows and columns of formed arguments aren't negative
abbrev number_in : Meant → ℤ → ℤ
number_in (means.Number n) d = n
number_in other d = d

numbered_natural : (s : State) (a : Atom) (n : ℤ) → IsFormedAtom ANatural a → meant_atom s a ≡ means.Number n → pos 0 ≤ℤ n
numbered_natural s (Variable name) n h e = absurd h
numbered_natural s (tree.Position j) n h e = absurd h
numbered_natural s (tree.Number m) n h e = subst (λ z. pos 0 ≤ℤ z) (ap (λ x. number_in x n) e) h.0

second_natural : (s : State) (p : Package) (es : Arguments) (m : ℤ) (later : List Value) → AreFormed UnitAt 2 es → AreBuilt s p es (Number m ∷ later) → pos 0 ≤ℤ m
second_natural s p none m later formed b = absurd b
second_natural s p (more e es) m later formed b = absurd b
second_natural s p (atom a es) m later formed b = numbered_natural s a m formed.0 b.0.1

first_natural : (s : State) (p : Package) (es : Arguments) (n m : ℤ) (later : List Value) → AreFormed UnitAt 1 es → AreBuilt s p es (Number n ∷ Number m ∷ later) → (pos 0 ≤ℤ n) × (pos 0 ≤ℤ m)
first_natural s p none n m later formed b = absurd b
first_natural s p (more e es) n m later formed b = absurd b
first_natural s p (atom a es) n m later formed b = (numbered_natural s a n formed.0 b.0.1, second_natural s p es m later formed.1 b.1)

indices_natural : (s : State) (p : Package) (es : Arguments) (j n m : ℤ) → AreFormed UnitAt 0 es → AreBuilt s p es (Number j ∷ Number n ∷ Number m ∷ []) → (pos 0 ≤ℤ n) × (pos 0 ≤ℤ m)
indices_natural s p none j n m formed b = absurd b
indices_natural s p (more e es) j n m formed b = absurd b
indices_natural s p (atom a es) j n m formed b = first_natural s p es n m [] formed.1 b.1

-- a call of values
call_there : (s : State) (p : Package) → Lawful p → (head : Head) (es : Arguments) (args : List Value) (r : Func) → IsFormed (Call head es) → AreBuilt s p es args
    → IsCallKept p head args r → IsBuilt s (Call head es) p r
call_there s p law Const es [] r formed b k = absurd (none-some k.0 k.1)
call_there s p law Const es (Function f ∷ later) r formed b k = absurd (none-some k.0 k.1)
call_there s p law Const es (Position i ∷ later) r formed b k = absurd (none-some k.0 k.1)
call_there s p law Const es (Number l ∷ []) r formed b k = absurd (none-some k.0 k.1)
call_there s p law Const es (Number l ∷ Function f ∷ later) r formed b k = absurd (none-some k.0 k.1)
call_there s p law Const es (Number l ∷ Position i ∷ later) r formed b k = absurd (none-some k.0 k.1)
call_there s p law Const es (Number l ∷ Number n ∷ []) r formed b k = one_built s Const es p (Number l ∷ Number n ∷ []) r b (const_done p law l n r k)
call_there s p law Const es (Number l ∷ Number n ∷ v ∷ later) r formed b k = absurd (none-some k.0 k.1)
call_there s p law (One word) es [] r formed b k = absurd (none-some k.0 k.1)
call_there s p law (One word) es (Function f ∷ []) r formed b k = one_built s (One word) es p (Function f ∷ []) r b (one_done p law word f r k)
call_there s p law (One word) es (Function f ∷ v ∷ later) r formed b k = absurd (none-some k.0 k.1)
call_there s p law (One word) es (Position i ∷ later) r formed b k = absurd (none-some k.0 k.1)
call_there s p law (One word) es (Number n ∷ later) r formed b k = absurd (none-some k.0 k.1)
call_there s p law (Fold word) es [] r formed b k = absurd k
call_there s p law (Fold word) es (Function f ∷ later) r formed b k = nested_built s p law word es f later r formed b k
call_there s p law (Fold word) es (Position i ∷ later) r formed b k = absurd k
call_there s p law (Fold word) es (Number n ∷ later) r formed b k = absurd k
call_there s p law Ite es [] r formed b k = absurd (none-some k.0 k.1)
call_there s p law Ite es (Position i ∷ later) r formed b k = absurd (none-some k.0 k.1)
call_there s p law Ite es (Number n ∷ later) r formed b k = absurd (none-some k.0 k.1)
call_there s p law Ite es (Function f ∷ []) r formed b k = absurd (none-some k.0 k.1)
call_there s p law Ite es (Function f ∷ Position i ∷ later) r formed b k = absurd (none-some k.0 k.1)
call_there s p law Ite es (Function f ∷ Number n ∷ later) r formed b k = absurd (none-some k.0 k.1)
call_there s p law Ite es (Function f ∷ Function g ∷ []) r formed b k = absurd (none-some k.0 k.1)
call_there s p law Ite es (Function f ∷ Function g ∷ Position i ∷ later) r formed b k = absurd (none-some k.0 k.1)
call_there s p law Ite es (Function f ∷ Function g ∷ Number n ∷ later) r formed b k = absurd (none-some k.0 k.1)
call_there s p law Ite es (Function f ∷ Function g ∷ Function h ∷ []) r formed b k =
    one_built s Ite es p (Function f ∷ Function g ∷ Function h ∷ []) r b (choice_done p law f g h r k)
call_there s p law Ite es (Function f ∷ Function g ∷ Function h ∷ v ∷ later) r formed b k = absurd (none-some k.0 k.1)
call_there s p law Restrict es args r formed b k =
    let h = restrict_shape p args r k in
    let others = Function h.0 ∷ Position h.1 ∷ Number h.2 ∷ [] in
    let t = there s p Restrict es args others h.3 formed b in
    one_built s Restrict es p others r t.built (restrict_done p law h.0 h.1 h.2 r t.natural.0 h.4)
call_there s p law Exists es args r formed b k =
    let h = exists_shape p args r k in
    let others = Function h.0.f ∷ Position h.0.i ∷ h.0.vars in
    let t = there s p Exists es args others h.0.are formed b in
    one_built s Exists es p others r t.built (exists_done p law h.0.f h.0.i h.0.vars r t.natural (tt, t.kinds.1.1) h.1)
call_there s p law Forall es args r formed b k =
    let h = forall_shape p args r k in
    let others = Function h.0.f ∷ Position h.0.i ∷ h.0.vars in
    let t = there s p Forall es args others h.0.are formed b in
    one_built s Forall es p others r t.built (forall_done p law h.0.f h.0.i h.0.vars r t.natural (tt, t.kinds.1.1) h.1)
call_there s p law SumOut es args r formed b k =
    let h = sum_shape p args r k in
    let others = Function h.0.f ∷ Position h.0.i ∷ h.0.vars in
    let t = there s p SumOut es args others h.0.are formed b in
    one_built s SumOut es p others r t.built (sum_done p law h.0.f h.0.i h.0.vars r t.natural (tt, t.kinds.1.1) h.1)
call_there s p law Compose es args r formed b k =
    let h = compose_shape p args r k in
    let others = Function h.0 ∷ Position h.1 ∷ Function h.2 ∷ [] in
    let t = there s p Compose es args others h.3 formed b in
    one_built s Compose es p others r t.built (compose_done p law h.0 h.1 h.2 r t.natural.0 h.4)
call_there s p law AndExists es args r formed b k =
    let h = joined_shape p args r k in
    let others = Function h.0 ∷ Function h.3.f ∷ Position h.3.i ∷ h.3.vars in
    let t = there s p AndExists es args others (h.2 ∙ ap (λ l. Function h.0 ∷ l) h.3.are) formed b in
    one_built s AndExists es p others r t.built (joined_done p law h.0 h.3.f h.3.i h.3.vars r t.natural (tt, t.kinds.1.1.1) h.4)
call_there s p law Kron es args r formed b k =
    let h = kron_shape p args r k in
    let others = Function h.0 ∷ Function h.1 ∷ [] in
    let t = there s p Kron es args others h.2 formed b in
    one_built s Kron es p others r t.built (kron_done p law h.0 h.1 r h.3)
call_there s p law Matmul es args r formed b k =
    let h = matmul_shape p args r k in
    let others = Function h.0 ∷ Function h.1 ∷ [] in
    let t = there s p Matmul es args others h.2 formed b in
    one_built s Matmul es p others r t.built (matmul_done p law h.0 h.1 r h.3)
call_there s p law Transpose es args r formed b k =
    let h = transpose_shape p args r k in
    let others = Function h.0 ∷ [] in
    let t = there s p Transpose es args others h.1 formed b in
    one_built s Transpose es p others r t.built (transpose_done p law h.0 r h.2)
call_there s p law Id es args r formed b k =
    let h = id_shape p args r k in
    let others = Number h.0 ∷ [] in
    let t = there s p Id es args others h.1 formed b in
    one_built s Id es p others r t.built (id_done p law h.0 r h.2)
call_there s p law Walsh es args r formed b k =
    let h = walsh_shape p args r k in
    let others = Number h.0 ∷ [] in
    let t = there s p Walsh es args others h.1 formed b in
    one_built s Walsh es p others r t.built (walsh_done p law h.0 r h.2)
call_there s p law UnitAt es args r formed b k =
    let h = unit_shape p args r k in
    let others = Number h.0 ∷ Number h.1 ∷ Number h.2 ∷ [] in
    let t = there s p UnitAt es args others h.3 formed b in
    let low = indices_natural s p es h.0 h.1 h.2 formed.1 t.built in
    one_built s UnitAt es p others r t.built (unit_done p law h.0 h.1 h.2 r low.0 low.1 h.4)

-- an atom that is a number isn't refused
number_walked : (s : State) (a : Atom) (n : ℤ) → meant_atom s a ≡ means.Number n → walk_atom s a ≡ None
number_walked s (Variable name) n e = cc
number_walked s (tree.Position j) n e = cc
number_walked s (tree.Number m) n e = refl

mutual
  -- A kept expression isn't refused, and its function is built.
  pub kept_built : (e : Tree) (h : Held) → Lawful h.pkg → (f : Func) → IsFormed e → IsKept h e f → (walk (state_of h) e ≡ None) × Builds (state_of h) e h.pkg f
  kept_built (Num n) h law f formed k = number_there (state_of h) h.pkg law n f k
  kept_built (At i) h law f formed k = bit_there (state_of h) h.pkg law i f formed.0 k
  kept_built (Named name) h law f formed k = name_there h law name f k
  kept_built (Call head es) h law f formed k =
      call_there (state_of h) h.pkg law head es k.0 f formed (all_built es h law head 0 k.0 formed.1 k.1) k.2

  all_built : (es : Arguments) (h : Held) → Lawful h.pkg → (head : Head) (i : ℕ) (args : List Value) → AreFormed head i es → AreKept h es args
      → AreBuilt (state_of h) h.pkg es args
  all_built none h law head i [] formed k = tt
  all_built none h law head i (v ∷ args) formed k = absurd k
  all_built (more e es) h law head i [] formed k = absurd k
  all_built (more e es) h law head i (Function f ∷ args) formed k =
      (kept_built e h law f formed.1 k.0, all_built es h law head (suc i) args formed.2 k.1)
  all_built (more e es) h law head i (Position p ∷ args) formed k = absurd k
  all_built (more e es) h law head i (Number n ∷ args) formed k = absurd k
  all_built (atom a es) h law head i [] formed k = absurd k
  all_built (atom a es) h law head i (Function f ∷ args) formed k = absurd k
  all_built (atom a es) h law head i (Position p ∷ args) formed k =
      ((k.0.walked, k.0.is_it), all_built es h law head (suc i) args formed.1 k.1)
  all_built (atom a es) h law head i (Number n ∷ args) formed k =
      ((number_walked (state_of h) a n k.0, k.0), all_built es h law head (suc i) args formed.1 k.1)

-- The function of a kept expression is the package's.
steps_owned : (p : Package) → AreFinished p → (word : Word2) (f : Func) (later : List Value) (r : Func) → OwnsFunction p f → AreStepsKept p (Fold word) f later r
    → OwnsFunction p r
steps_owned p fin word f [] r owned k = subst (OwnsFunction p) (sym k) owned
steps_owned p fin word f (v ∷ later) r owned k = steps_owned p fin word k.0 later r (fin k.1.0 k.0 k.1.2).values.owned k.2

quantified_owned : (p : Package) → AreFinished p → (word : Word2) (f : Func) (i : ℕ) (vars : List ℕ) (r : Func) → AreQuantified p word f (i ∷ vars) r → OwnsFunction p r
quantified_owned p fin word f i [] r q =
    subst (OwnsFunction p) (sym q.2) (fin (task.Apply (of_two word) q.1.low q.1.high) q.0 q.1.joined_is).values.owned
quantified_owned p fin word f i (j ∷ vars) r q = quantified_owned p fin word q.0 j vars r q.2

-- The first value of a fold is a function, so no fold of an atom is kept.
first_is_atom : (h : Held) (a : Atom) (es : Arguments) (word : Word2) (args : List Value) (r : Func) → AreKept h (atom a es) args → IsCallKept h.pkg (Fold word) args r → ⊥
first_is_atom h a es word [] r a_kept k = k
first_is_atom h a es word (Function f ∷ later) r a_kept k = a_kept
first_is_atom h a es word (Position i ∷ later) r a_kept k = k
first_is_atom h a es word (Number n ∷ later) r a_kept k = k

pub kept_owned : (e : Tree) (h : Held) → AreFinished h.pkg → (f : Func) → IsKept h e f → OwnsFunction h.pkg f
kept_owned (Num n) h fin f k = (fin (task.Const (level_in (state_of h)) n) f k).values.owned
kept_owned (At i) h fin f k = (fin (task.Var (level_in (state_of h)) (nat_abs i)) f k).values.owned
kept_owned (Named name) h fin f k = k.owned
kept_owned (Call Const es) h fin f k = (fin k.2.0 f k.2.2).values.owned
kept_owned (Call (One word) es) h fin f k = (fin k.2.0 f k.2.2).values.owned
kept_owned (Call (Fold word) none) h fin f k = absurd (subst (λ l. IsCallKept h.pkg (Fold word) l f) (none_kept h k.0 k.1) k.2)
kept_owned (Call (Fold word) (more e es)) h fin f k =
    let split = first_kept h e es k.0 k.1 in
    steps_owned h.pkg fin word split.0 split.1 f (kept_owned e h fin split.0 split.3) (subst (λ l. IsCallKept h.pkg (Fold word) l f) split.2 k.2)
kept_owned (Call (Fold word) (atom a es)) h fin f k = absurd (first_is_atom h a es word k.0 f k.1 k.2)
kept_owned (Call Ite es) h fin f k = (fin k.2.0 f k.2.2).values.owned
kept_owned (Call Restrict es) h fin f k = (fin k.2.0 f k.2.2).values.owned
kept_owned (Call Exists es) h fin f k = let s = exists_shape h.pkg k.0 f k.2 in quantified_owned h.pkg fin Or s.0.f (nat_abs s.0.i) (places_of s.0.vars) f s.1
kept_owned (Call Forall es) h fin f k = let s = forall_shape h.pkg k.0 f k.2 in quantified_owned h.pkg fin And s.0.f (nat_abs s.0.i) (places_of s.0.vars) f s.1
kept_owned (Call SumOut es) h fin f k = let s = sum_shape h.pkg k.0 f k.2 in quantified_owned h.pkg fin Plus s.0.f (nat_abs s.0.i) (places_of s.0.vars) f s.1
kept_owned (Call Compose es) h fin f k =
    let s = compose_shape h.pkg k.0 f k.2 in
    (fin (task.Ternary of_three s.2 s.4.high s.4.low) f s.4.chosen_is).values.owned
kept_owned (Call AndExists es) h fin f k =
    let s = joined_shape h.pkg k.0 f k.2 in
    quantified_owned h.pkg fin Or s.4.product (nat_abs s.3.i) (places_of s.3.vars) f s.4.quantified
kept_owned (Call Kron es) h fin f k = (fin k.2.0 f k.2.2).values.owned
kept_owned (Call Matmul es) h fin f k = (fin k.2.0 f k.2.2).values.owned
kept_owned (Call Transpose es) h fin f k = (fin k.2.0 f k.2.2).values.owned
kept_owned (Call Id es) h fin f k = (fin k.2.0 f k.2.2).values.owned
kept_owned (Call Walsh es) h fin f k = (fin k.2.0 f k.2.2).values.owned
kept_owned (Call UnitAt es) h fin f k = (fin k.2.0 f k.2.2).values.owned

-- Nothing refuses a kept expression.
pub kept_goes : (h : Held) (e : Tree) → Lawful h.pkg → (f : Func) → is_some h.level ≡ true → IsFormed e → IsKept h e f → refusal_of (state_of h) e ≡ None
kept_goes h e law f some formed k =
    let s = state_of h in
    let built = kept_built e h law f formed k in
    ap (λ b. option_or (unless b NoLevel) (option_or (walk s e) (option_map Overflow (over s e)))) some
    ∙ ap (λ o. option_or o (option_map Overflow (over s e))) built.0
    ∙ ap (option_map Overflow) built.1.fits

pub kept_means : (h : Held) (e : Tree) → Lawful h.pkg → (f : Func) → IsFormed e → IsKept h e f → meaning h.pkg f ≡ function_from (state_of h) e
kept_means h e law f formed k = gives-let (state_of h) e (meaning h.pkg f) (kept_built e h law f formed k).1.gives

-- A kept expression has one function.
pub kept_once : (h : Held) (e : Tree) → Lawful h.pkg → (f : Func) → ((g : Func) → OwnsFunction h.pkg g → meaning h.pkg g ≡ meaning h.pkg f → g ≡ f) → IsFormed e
    → IsKept h e f → AnswersAgain h h e (Ok f)
kept_once h e law f one formed k g also = record {
  same = refl;
  is_it = sym (one g (kept_built e h law g formed also).1.owned (kept_means h e law g formed also ∙ sym (kept_means h e law f formed k)));
  fault = tt;
}
