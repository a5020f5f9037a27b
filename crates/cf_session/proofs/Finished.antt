-- What remembered jobs of calls over variables say of their function.
use Rattle.std.proofs.Common.{ℕ, ℤ, pos, ◌≡◌, ◌<◌, ◌≤◌, ◌≤ℤ◌, ◌^◌, ◌==◌, ◌&&◌, Bool, true, false, List, [], ◌∷◌, Option, Some, None, refl, sym, ap, subst, ◌∙◌, arith}
use Rattle.std.proofs.lemmas.Int.{ints}
use Rattle.std.specs.Prelude.{negsuc, nat_abs, nat_le, All}
use Rattle.std.specs.List.{list_all}
use Rattle.std.specs.Option.{option_or}
use Rattle.std.proofs.lemmas.Bool.Decides.{nat_tests}
use Rattle.std.proofs.lemmas.List.Elements.{All-cons, All-nil, All-head, All-tail}
use Rattle.cf_model.specs.FlatFunctions.{FlatFunction, IsFlatFunction, IsAssignment}
use Rattle.cf_model.specs.Quantified.{over_both, over_all, some_setting, composed, both}
use Rattle.cf_model.specs.declared.terms.Word2.{Word2}
use Rattle.cf_model.specs.declared.terms.Word2.TheVariants.{And, Or}
use Rattle.cf_ops.specs.Operations.{of_two, of_three}
use Rattle.cf_ops.proofs.TermFacts.{term-of_two}
use Rattle.cf_pkg.specs.declared.Func.{Func}
use Rattle.cf_pkg.specs.Tasks.{Task}
use Rattle.cf_pkg.specs.Tasks as task
use Rattle.cf_pkg.specs.Packages.{Package, IsRemembered, OwnsFunction, meaning}
use Rattle.cf_pkg.specs.Jobs.{Finishes, HasValues, AreLevel, value_in, apply_value, ternary_value}
use Rattle.cf_pkg.proofs.Valued.{Keeps-same}
use Rattle.cf_restrict.specs.Quantified.{some_value, IsQuantified, AreQuantified, IsComposed, IsJoined}
use Rattle.cf_restrict.proofs.QuantLaws.{over_all-same, some_is, some_same, values_as, value_is, Halved, halves_applied, halves_chosen}
use Rattle.cf_reference.specs.declared.grammar.Head.{Head}
use Rattle.cf_reference.specs.States.{is_below}
use Rattle.cf_reference.specs.Calls.{Meant, levels, positions, exact, least, own_rule, call_refusal}
use Rattle.cf_reference.specs.Calls as means
use Rattle.cf_reference.proofs.TestFacts.{is_le}
use Rattle.cf_reference.proofs.ValueLaws.{has_value}
use Rattle.cf_session.specs.declared.values.Value.{Value}
use Rattle.cf_session.specs.declared.values.Value.TheVariants.{Function, Position, Number}
use Rattle.cf_session.specs.Values.{meanings, places_of, AreOf}
use Rattle.cf_reference.specs.declared.grammar.Kind.TheVariants.{Variable as AVariable}
use Rattle.cf_session.proofs.Jobs.{at-value}
use Rattle.cf_session.proofs.Rules.{level_here, rules_go}

-- What a package says of each of its functions and of each finished job.
pub record Lawful (p : Package) : Type 0 where
  pub flat : (f : Func) → OwnsFunction p f → IsFlatFunction (meaning p f)
  pub finished : (t : Task) (f : Func) → IsRemembered p t f → Finishes p t f

-- Each finished job of a package is in order, and its function has its values.
abbrev pub AreFinished : Package → Type 0
AreFinished p = (t : Task) (f : Func) → IsRemembered p t f → Finishes p t f

-- a function's values are those that it has
own_is : (p : Package) (f : Func) (l : ℕ) (v : List Bool → Option ℤ) → IsFlatFunction (meaning p f) → HasValues p f l v → (bits : List Bool) → IsAssignment l bits → some_value p f bits ≡ v bits
own_is p f l v flat h bits a =
    ap Some (at-value p f bits) ∙ sym (has_value (meaning p f) flat bits (subst (λ (k : ℕ). IsAssignment k bits) (sym h.level) a)) ∙ h.values bits a

own_has : (p : Package) (f : Func) → IsFlatFunction (meaning p f) → OwnsFunction p f → HasValues p f f.head.level (some_value p f)
own_has p f flat owned = record {
  owned = owned;
  level = refl;
  values = λ bits a. has_value (meaning p f) flat bits a ∙ ap Some (sym (at-value p f bits));
}

-- The function has the values over these variables of another one, which is the package's.
pub record Over (p : Package) (word : Word2) (f : Func) (vars : List ℕ) (r : Func) : Type 0 where
  pub owned : OwnsFunction p f
  pub within : All (λ i. i < 2 ^ f.head.level) vars
  pub values : HasValues p r f.head.level (over_all word (some_value p f) vars)

-- one variable
one_over : (p : Package) → Lawful p → (word : Word2) (f : Func) (i : ℕ) (r : Func) → IsQuantified p word f i r
    → OwnsFunction p f × (i < 2 ^ f.head.level) × HasValues p r f.head.level (over_both word (some_value p f) i)
one_over p law word f i r q =
    let low = law.finished (task.Restrict f i false) q.low q.low_is in
    let high = law.finished (task.Restrict f i true) q.high q.high_is in
    let joined = law.finished (task.Apply (of_two word) q.low q.high) r q.joined_is in
    let h : Halved p p p f q.low q.high i false true
    = record { owned = low.in_order.0; first = low.values; kept1 = Keeps-same p; second = high.values; kept2 = Keeps-same p } in (
      low.in_order.0,
      low.in_order.1,
      values_as p r q.low.head.level f.head.level (apply_value p (of_two word) q.low q.high) (over_both word (some_value p f) i) joined.values low.values.level
          (λ bits a. halves_applied word p p p f q.low q.high i h bits a),
    )

-- the values over more variables, in a function of those over one
more_over : (p : Package) → Lawful p → (word : Word2) (f : Func) (i : ℕ) (more : List ℕ) (s r : Func) → HasValues p s f.head.level (over_both word (some_value p f) i)
    → HasValues p r s.head.level (over_all word (some_value p s) more) → HasValues p r f.head.level (over_all word (some_value p f) (i ∷ more))
more_over p law word f i more s r one h =
    values_as p r s.head.level f.head.level (over_all word (some_value p s) more) (over_all word (over_both word (some_value p f) i) more) h one.level
    (λ bits a. over_all-same word (2 ^ f.head.level) (some_value p s) (over_both word (some_value p f) i) more
    (λ other b. own_is p s f.head.level (over_both word (some_value p f) i) (law.flat s one.owned) one other b) bits a)

within_as : (k l : ℕ) (vars : List ℕ) → k ≡ l → All (λ i. i < 2 ^ k) vars → All (λ i. i < 2 ^ l) vars
within_as k l vars e h = subst (λ (n : ℕ). All (λ i. i < 2 ^ n) vars) e h

all_over : (p : Package) → Lawful p → (word : Word2) (f : Func) (vars : List ℕ) (r : Func) → OwnsFunction p f → AreQuantified p word f vars r → Over p word f vars r
all_over p law word f [] r owned q = record {
  owned = owned;
  within = All-nil _;
  values = subst (λ (x : Func). HasValues p x f.head.level (some_value p f)) (sym q) (own_has p f (law.flat f owned) owned);
}
all_over p law word f (i ∷ more) r owned q =
    let one = one_over p law word f i q.0 q.1 in
    let rest = all_over p law word q.0 more r one.2.owned q.2 in
    record {
      owned = owned;
      within = All-cons (λ j. j < 2 ^ f.head.level) i more one.1 (within_as q.0.head.level f.head.level more one.2.level rest.within);
      values = more_over p law word f i more q.0 r one.2 rest.values;
    }

-- the values over variables that stand there
pub quantified_over : (p : Package) → Lawful p → (word : Word2) (f : Func) (i : ℕ) (more : List ℕ) (r : Func) → AreQuantified p word f (i ∷ more) r → Over p word f (i ∷ more) r
quantified_over p law word f i more r q = all_over p law word f (i ∷ more) r (one_over p law word f i q.0 q.1).0 q

-- The function is that of a composition.
pub record Composes (p : Package) (f : Func) (i : ℕ) (g r : Func) : Type 0 where
  pub first : OwnsFunction p f
  pub second : OwnsFunction p g
  pub level : g.head.level ≡ f.head.level
  pub within : i < 2 ^ f.head.level
  pub values : HasValues p r f.head.level (λ bits. Some (composed (value_in p f) i (value_in p g) bits))

pub composed_over : (p : Package) → Lawful p → (f : Func) (i : ℕ) (g r : Func) → IsComposed p f i g r → Composes p f i g r
composed_over p law f i g r q =
    let high = law.finished (task.Restrict f i true) q.high q.high_is in
    let low = law.finished (task.Restrict f i false) q.low q.low_is in
    let chosen = law.finished (task.Ternary of_three g q.high q.low) r q.chosen_is in
    let h : Halved p p p f q.high q.low i true false
    = record { owned = high.in_order.0; first = high.values; kept1 = Keeps-same p; second = low.values; kept2 = Keeps-same p } in
    let level : g.head.level ≡ f.head.level = chosen.in_order.0.level ∙ high.values.level in
    record {
      first = high.in_order.0;
      second = chosen.in_order.0.first;
      level = level;
      within = high.in_order.1;
      values = values_as p r g.head.level f.head.level (ternary_value p of_three g q.high q.low) (λ bits. Some (composed (value_in p f) i (value_in p g) bits)) chosen.values level
          (λ bits a. halves_chosen p p p f g q.high q.low i h chosen.in_order.0.first bits a);
    }

-- The function is that of a quantified product.
pub record Joins (p : Package) (f g : Func) (vars : List ℕ) (r : Func) : Type 0 where
  pub level : AreLevel p f g
  pub within : All (λ i. i < 2 ^ f.head.level) vars
  pub values : HasValues p r f.head.level (λ bits. Some (some_setting (both (value_in p f) (value_in p g)) vars bits))

pub joined_over : (p : Package) → Lawful p → (f g : Func) (i : ℕ) (more : List ℕ) (r : Func) → IsJoined p f g (i ∷ more) r → Joins p f g (i ∷ more) r
joined_over p law f g i more r q =
    let vars = i ∷ more in
    let l = f.head.level in
    let x = value_in p f in
    let y = value_in p g in
    let product = law.finished (task.Apply (of_two And) f g) q.product q.product_is in
    let product_values : HasValues p q.product l (λ bits. Some (both x y bits))
    = values_as p q.product l l (apply_value p (of_two And) f g) (λ bits. Some (both x y bits)) product.values refl (λ bits a. term-of_two And (x bits) (y bits) (pos 0)) in
    let over = quantified_over p law Or q.product i more r q.quantified in
    record {
      level = product.in_order;
      within = within_as q.product.head.level l vars product_values.level over.within;
      values = values_as p r q.product.head.level l (over_all Or (some_value p q.product) vars) (λ bits. Some (some_setting (both x y) vars bits)) over.values product_values.level
          (λ bits a. some_is (value_in p q.product) vars (omega arith) bits
          ∙ some_same (2 ^ l) (value_in p q.product) (both x y) vars (omega arith) (λ other b. value_is p q.product l (both x y) product_values other b) bits a);
    }

-- the rules of a call over variables
pub over_goes : (head : Head) (f : FlatFunction) (later : List Meant) → (exact head (means.Function f ∷ later)).level ≡ f.level → least head ≡ 0 → own_rule head (means.Function f ∷ later) ≡ None
    → list_all (λ other. other == f.level) (levels later) ≡ true → list_all (λ i. is_below i (2 ^ f.level)) (positions later) ≡ true → f.level ≤ 7
    → call_refusal head (means.Function f ∷ later) ≡ None
over_goes head f later is none own equal inside low =
    rules_go head (means.Function f ∷ later) equal inside
    (level_here head (exact head (means.Function f ∷ later)).level f.level is (omega (arith, none)) low) own

pub below : (i : ℤ) (n : ℕ) → pos 0 ≤ℤ i → nat_abs i < n → is_below i n ≡ true
below (pos m) n low h = grind (arith, nat_tests)
below (negsuc m) n low h = absurd (omega (arith, ints, low))

-- positions that aren't negative
abbrev pub AreNatural : List Value → Type 0
AreNatural [] = Unit {0}
AreNatural (Position i ∷ later) = (pos 0 ≤ℤ i) × AreNatural later
AreNatural (other ∷ later) = AreNatural later

pub both_true : (a b : Bool) → a ≡ true → b ≡ true → a && b ≡ true
both_true a b e h = ap (λ c. c && b) e ∙ h

pub all_below : (l : ℕ) (p : Package) (vs : List Value) → AreNatural vs → All (λ i. i < 2 ^ l) (places_of vs) → list_all (λ i. is_below i (2 ^ l)) (positions (meanings p vs)) ≡ true
all_below l p [] n h = refl
all_below l p (Function f ∷ vs) n h = all_below l p vs n h
all_below l p (Position i ∷ vs) n h =
    both_true (is_below i (2 ^ l)) _ (below i (2 ^ l) n.0 (All-head (λ j. j < 2 ^ l) (nat_abs i) (places_of vs) h)) (all_below l p vs n.1 (All-tail (λ j. j < 2 ^ l) (nat_abs i) (places_of vs) h))
all_below l p (Number m ∷ vs) n h = all_below l p vs n h

-- variables alone have no level
pub no_levels : (p : Package) (vs : List Value) → AreOf [] (Some AVariable) vs → levels (meanings p vs) ≡ []
no_levels p [] h = refl
no_levels p (Function f ∷ vs) h = absurd h.0
no_levels p (Position i ∷ vs) h = no_levels p vs h.1
no_levels p (Number m ∷ vs) h = absurd h.0

pub none_differ : (l : ℕ) (ls : List ℕ) → ls ≡ [] → list_all (λ other. other == l) ls ≡ true
none_differ l ls e = ap (λ (xs : List ℕ). list_all (λ other. other == l) xs) e
