use Rattle.std.proofs.Common.{◌≡◌, ℕ, ◌+◌, ◌<◌, ℤ, pos, Bool, true, false, ◌&&◌, List, [], length, take, get_or, Option, Some, Result, Ok, Err, IfOk, refl, sym, ◌∙◌, ap, subst}
use Rattle.std.specs.Prelude.{not}
use Rattle.std.specs.Bool.{beq}
use Rattle.std.specs.List.{list_all}
use Rattle.std.proofs.lemmas.Option.{get_or_from_slice_get}
use Rattle.std.proofs.lemmas.List.Sums.{AllPass-from_list_all}
use Rattle.std.proofs.lemmas.List.Folds.{list_all_more}
use Rattle.cf_model.specs.Assignments.{number_of}
use Rattle.cf_model.specs.FlatFunctions.{FlatFunction, IsAssignment, value_at, tabulated}
use Rattle.cf_model.specs.Terms.{truth, value1, value2}
use Rattle.cf_model.specs.declared.terms.Word1.{Word1}
use Rattle.cf_model.specs.declared.terms.Word1.TheVariants.{Not}
use Rattle.cf_model.specs.declared.terms.Word2.{Word2}
use Rattle.cf_model.specs.declared.terms.Word2.TheVariants.{And, Or, Xor, Eq}
use Rattle.cf_model.proofs.FlatFunctionLaws.{tabulated-value}
use Rattle.cf_ops.specs.Operations.{of_one, of_two}
use Rattle.cf_ops.proofs.TermFacts.{term-of_one, term-of_two}
use Rattle.cf_pkg.specs.declared.Func.{Func}
use Rattle.cf_pkg.specs.Packages.{Package, meaning, Means, Keeps}
use Rattle.cf_pkg.specs.Jobs.{value_in, map_value, apply_value, HasValues, AreLevel}
use Rattle.cf_pkg.proofs.Valued.{Keeps-trans}
use Rattle.cf_example.specs.Agreement.{is_pair, are_pairs, is_same, all_same, some_differ}

pub if_ok : {T E : Type 0} (r : Result T E) (P Q : T → Type 0) → IfOk r P → ((x : T) → P x → Q x) → IfOk r Q
if_ok (Ok x) P Q h f = f x h
if_ok (Err e) P Q h f = tt

-- what words come to on truths
pub eq_truths : (a b : Bool) → value2 Eq (truth a) (truth b) ≡ Some (truth (beq a b))
eq_truths true true = refl
eq_truths true false = refl
eq_truths false true = refl
eq_truths false false = refl

pub and_truths : (a b : Bool) → value2 And (truth a) (truth b) ≡ Some (truth (a && b))
and_truths true true = refl
and_truths true false = refl
and_truths false true = refl
and_truths false false = refl

pub xor_truths : (a b : Bool) → value2 Xor (truth a) (truth b) ≡ Some (truth (not (beq a b)))
xor_truths true true = refl
xor_truths true false = refl
xor_truths false true = refl
xor_truths false false = refl

pub or_truths : (a b : Bool) → value2 Or (truth (not a)) (truth (not b)) ≡ Some (truth (not (a && b)))
or_truths true true = refl
or_truths true false = refl
or_truths false true = refl
or_truths false false = refl

pub not_truth : (a : Bool) → value1 Not (truth (not a)) ≡ Some (truth a)
not_truth true = refl
not_truth false = refl

-- The function is of the level, and has these numbers as its values, one at each assignment.
abbrev pub HasNumbers : Package → Func → ℕ → (List Bool → ℤ) → Type 0
HasNumbers p f l x = HasValues p f l (λ bits. Some (x bits))

-- a function keeps its values
pub has_kept : (p q : Package) (f : Func) (l : ℕ) (x : List Bool → ℤ) → HasNumbers p f l x → Keeps p q → HasNumbers q f l x
has_kept p q f l x h k =
    let m = k.functions f h.owned in
    record { owned = m.owned; level = h.level; values = λ bits a. ap (λ (g : FlatFunction). value_at g bits) m.is_it ∙ h.values bits a }

-- the value of a function that has it
value_is : (p : Package) (f : Func) (l : ℕ) (x : List Bool → ℤ) → HasNumbers p f l x → (bits : List Bool) → IsAssignment l bits → value_in p f bits ≡ x bits
value_is p f l x h bits a = get_or_from_slice_get (meaning p f).values (number_of bits) (x bits) (pos 0) (h.values bits a)

-- a function that means a tabulated one has its values
pub has_tabulated : (p : Package) (f : Func) (l : ℕ) (x : List Bool → ℤ) → f.head.level ≡ l → Means p f (tabulated l x) → HasNumbers p f l x
has_tabulated p f l x level m = record {
  owned = m.owned;
  level = level;
  values = λ bits a. ap (λ (g : FlatFunction). value_at g bits) m.is_it ∙ tabulated-value l x bits a;
}

pub same_level : (p : Package) (f g : Func) (l : ℕ) (x y : List Bool → ℤ) → HasNumbers p f l x → HasNumbers p g l y → AreLevel p f g
same_level p f g l x y h k = record { first = h.owned; second = k.owned; level = h.level ∙ sym k.level }

-- a word's operation on the values of two functions
pub has_two : (p q : Package) (word : Word2) (f g r : Func) (l : ℕ) (x y z : List Bool → ℤ) → HasNumbers p f l x → HasNumbers p g l y
    → ((bits : List Bool) → value2 word (x bits) (y bits) ≡ Some (z bits)) → HasValues q r f.head.level (apply_value p (of_two word) f g) → HasNumbers q r l z
has_two p q word f g r l x y z hf hg is h = record {
  owned = h.owned;
  level = h.level ∙ hf.level;
  values = λ bits a.
      h.values bits (subst (λ (m : ℕ). IsAssignment m bits) (sym hf.level) a)
      ∙ term-of_two word (value_in p f bits) (value_in p g bits) (pos 0)
      ∙ ap (λ (n : ℤ). value2 word n (value_in p g bits)) (value_is p f l x hf bits a)
      ∙ ap (λ (n : ℤ). value2 word (x bits) n) (value_is p g l y hg bits a)
      ∙ is bits;
}

-- and of one
pub has_one : (p q : Package) (word : Word1) (f r : Func) (l : ℕ) (x z : List Bool → ℤ) → HasNumbers p f l x
    → ((bits : List Bool) → value1 word (x bits) ≡ Some (z bits)) → HasValues q r f.head.level (map_value p (of_one word) f) → HasNumbers q r l z
has_one p q word f r l x z hf is h = record {
  owned = h.owned;
  level = h.level ∙ hf.level;
  values = λ bits a.
      h.values bits (subst (λ (m : ℕ). IsAssignment m bits) (sym hf.level) a)
      ∙ term-of_one word (value_in p f bits) (pos 0) (pos 0)
      ∙ ap (value1 word) (value_is p f l x hf bits a)
      ∙ is bits;
}

-- What a loop over pairs keeps: what was in the package is there, and the function has the values by the pairs so far.
pub record IsOverPairs (value : List (ℕ × ℕ) → List Bool → ℤ) (before now : Package) (level : ℕ) (pairs : List (ℕ × ℕ)) (done : ℕ) (f : Func) : Type 0 where
  pub kept : Keeps before now
  pub values : HasNumbers now f level (value (take done pairs))

-- one pair more
pub all_more : (pairs : List (ℕ × ℕ)) (k : ℕ) (d : ℕ × ℕ) → k < length pairs → (bits : List Bool)
    → value2 And (all_same (take k pairs) bits) (truth (is_same bits (get_or pairs k d))) ≡ Some (all_same (take (k + 1) pairs) bits)
all_more pairs k d h bits =
    and_truths (list_all (is_same bits) (take k pairs)) (is_same bits (get_or pairs k d))
    ∙ ap (λ (b : Bool). Some (truth b)) (sym (list_all_more (is_same bits) pairs k d h))

pub differ_more : (pairs : List (ℕ × ℕ)) (k : ℕ) (d : ℕ × ℕ) → k < length pairs → (bits : List Bool)
    → value2 Or (some_differ (take k pairs) bits) (truth (not (is_same bits (get_or pairs k d)))) ≡ Some (some_differ (take (k + 1) pairs) bits)
differ_more pairs k d h bits =
    or_truths (list_all (is_same bits) (take k pairs)) (is_same bits (get_or pairs k d))
    ∙ ap (λ (b : Bool). Some (truth (not b))) (sym (list_all_more (is_same bits) pairs k d h))

-- each pair of a list of them is one
pub pair_there : (level : ℕ) (pairs : List (ℕ × ℕ)) (k : ℕ) (d : ℕ × ℕ) → are_pairs level pairs ≡ true → k < length pairs → is_pair level (get_or pairs k d) ≡ true
pair_there level pairs k d h lt = AllPass-from_list_all (is_pair level) pairs h k d lt

-- before the first pair
pub over_none : (value : List (ℕ × ℕ) → List Bool → ℤ) (p q : Package) (level : ℕ) (pairs : List (ℕ × ℕ)) (f : Func) (v : ℤ) → ((bits : List Bool) → v ≡ value [] bits)
    → Keeps p q → f.head.level ≡ level → Means q f (tabulated level (λ bits. v)) → IsOverPairs value p q level pairs 0 f
over_none value p q level pairs f v is kept l m =
    let h = has_tabulated q f level (λ bits. v) l m in
    record { kept = kept; values = record { owned = h.owned; level = h.level; values = λ bits a. h.values bits a ∙ ap Some (is bits) } }

-- after one more
pub over_more : (value : List (ℕ × ℕ) → List Bool → ℤ) (p m q n : Package) (word : Word2) (level : ℕ) (pairs : List (ℕ × ℕ)) (k : ℕ) (f both r : Func) (y : List Bool → ℤ)
    → IsOverPairs value p m level pairs k f → Keeps m q → HasNumbers q both level y → Keeps q n
    → ((bits : List Bool) → value2 word (value (take k pairs) bits) (y bits) ≡ Some (value (take (k + 1) pairs) bits))
    → HasValues n r f.head.level (apply_value q (of_two word) f both) → IsOverPairs value p n level pairs (k + 1) r
over_more value p m q n word level pairs k f both r y before kept hb last is h = record {
  kept = Keeps-trans p q n (Keeps-trans p m q before.kept kept) last;
  values = has_two q n word f both r level (value (take k pairs)) y (value (take (k + 1) pairs)) (has_kept m q f level (value (take k pairs)) before.values kept) hb is h;
}
