-- From words that were read to the trees that they spell.
use Rattle.std.proofs.Common.{ℕ, ℤ, pos, ◌≡◌, true, false, cond, List, Option, Some, None, refl, ap, sym, subst, ◌∙◌}
use Rattle.std.specs.Option.{option_map, unwrap_or}
use Rattle.std.specs.Prelude.{codes}
use Rattle.std.specs.Str.{bytes_eq}
use mir.Syntax.{w128}
use mir.Val.{to_z, of_z}
use Rattle.std.proofs.lemmas.Int.{to_z-of_z}
use Rattle.cf_model.specs.Values.{fits, fitting}
use Rattle.cf_model.proofs.TermLaws.{fitting-some}
use Rattle.cf_reference.specs.declared.grammar.Kind.TheVariants.{Expression as AnExpression, Variable as AVariable, Natural as ANatural, Number as ANumber, Bit as ABit}
use Rattle.cf_reference.specs.Words.{number, place, natural, is_name}
use Rattle.cf_reference.specs.Trees.{Num, At, Named, Variable, Position, Number, atom}
use Rattle.cf_reference.specs.Trees as tree
use Rattle.cf_reference.specs.Grammar.{leaf, leaf_of_number, leaf_of_place, variable_of, atom_of}
use Rattle.cf_reference.proofs.KindFacts.{number-place}
use Rattle.cf_script.specs.declared.trees.Expr.{Expr}
use Rattle.cf_script.specs.declared.trees.Expr as expr
use Rattle.cf_script.specs.declared.trees.Var.TheVariants as var
use Rattle.cf_reference.specs.declared.grammar.Kind.{Kind}
use Rattle.cf_script.specs.declared.arguments.Argument.{Argument}
use Rattle.cf_script.specs.declared.arguments.Argument.TheVariants as argument
use Rattle.cf_script.specs.Readings.{IsLeaf}
use Rattle.cf_script.specs.Arguments.{IsWord}

-- a word that was read as a number has one
pub record HasNumber (of : Option ℤ) (read : Option ℤ) : Type 0 where
  pub n : ℤ
  pub is : of ≡ Some n
  pub value : read ≡ fitting n

pub has-number : (of value : Option ℤ) → Some value ≡ option_map fitting of → HasNumber of value
has-number None value e = cc
has-number (Some n) value e = record { n = n; is = refl; value = cc }

pub has-none : (of : Option ℤ) → None ≡ option_map fitting of → of ≡ None
has-none None e = refl
has-none (Some n) e = cc

-- a number that fits is handed on as it is
pub exact : (n : ℤ) (value : Option ℤ) (v : ℤ) → value ≡ fitting n → v ≡ unwrap_or value (pos 0) → fits n ≡ true → to_z w128 (of_z w128 v) ≡ n
exact n value v is gives fit =
    let some : fitting n ≡ Some n = ap (λ t. cond t (Some n) None) fit in
    let e : v ≡ n = gives ∙ ap (λ o. unwrap_or o (pos 0)) (is ∙ some) in
    rw e (to_z-of_z w128 n (fitting-some n n some).1)

leaf-number : (word : List ℕ) (n : ℤ) → number word ≡ Some n → leaf word ≡ Some (Num n)
unfolding leaf
leaf-number word n e = ap (leaf_of_number word) e

leaf-place : (word : List ℕ) (n : ℤ) → number word ≡ None → place word ≡ Some n → leaf word ≡ Some (At n)
unfolding leaf
leaf-place word n none e = ap (leaf_of_number word) none ∙ ap (leaf_of_place word) e

leaf-name : (word : List ℕ) → number word ≡ None → place word ≡ None → leaf word ≡ cond (is_name word) (Some (Named word)) None
unfolding leaf
leaf-name word none e = ap (leaf_of_number word) none ∙ ap (leaf_of_place word) e

-- the leaf of each kind of word
pub is-number : (word : List ℕ) (value : Option ℤ) (v : ℤ) → Some value ≡ option_map fitting (number word) → v ≡ unwrap_or value (pos 0) → IsLeaf (expr.Num (to_z w128 (of_z w128 v))) word
is-number word value v read gives =
    let h = has-number (number word) value read in
    record { tree = Num h.n; spells = leaf-number word h.n h.is; shows = λ fit. ap Num (exact h.n value v h.value gives fit) }

not_both : (word : List ℕ) (n : ℤ) (o : Option ℤ) → place word ≡ Some n → number word ≡ o → o ≡ None
not_both word n None p e = refl
not_both word n (Some m) p e = let d : None ≡ Some n = sym (number-place word m e) ∙ p in cc

pub is-place : (word : List ℕ) (value : Option ℤ) (v : ℤ) → Some value ≡ option_map fitting (place word) → v ≡ unwrap_or value (pos 0)
    → IsLeaf (expr.At (to_z w128 (of_z w128 v))) word
is-place word value v read gives =
    let h = has-number (place word) value read in
    record {
      tree = At h.n;
      spells = leaf-place word h.n (not_both word h.n (number word) h.is refl) h.is;
      shows = λ fit. ap At (exact h.n value v h.value gives fit);
    }

pub leaf-named : (word : List ℕ) → None ≡ option_map fitting (number word) → None ≡ option_map fitting (place word) → is_name word ≡ true → leaf word ≡ Some (Named word)
leaf-named word none other name = leaf-name word (has-none (number word) none) (has-none (place word) other) ∙ ap (λ t. cond t (Some (Named word)) None) name

pub no-leaf : (word : List ℕ) → None ≡ option_map fitting (number word) → None ≡ option_map fitting (place word) → is_name word ≡ false → leaf word ≡ None
no-leaf word none other name = leaf-name word (has-none (number word) none) (has-none (place word) other) ∙ ap (λ t. cond t (Some (Named word)) None) name

-- the word of each kind of argument
pub is-natural : (word : List ℕ) (value : Option ℤ) (v : ℤ) → Some value ≡ option_map fitting (natural word) → v ≡ unwrap_or value (pos 0)
    → IsWord ANatural (argument.Number (to_z w128 (of_z w128 v))) word
unfolding atom_of
is-natural word value v read gives =
    let h = has-number (natural word) value read in
    record { spelled = Number h.n; spells = ap (option_map Number) h.is; kinds = tt; shows = λ fit. ap (λ n. atom (Number n) tree.none) (exact h.n value v h.value gives fit) }

pub is-any-number : (word : List ℕ) (value : Option ℤ) (v : ℤ) → Some value ≡ option_map fitting (number word) → v ≡ unwrap_or value (pos 0)
    → IsWord ANumber (argument.Number (to_z w128 (of_z w128 v))) word
unfolding atom_of
is-any-number word value v read gives =
    let h = has-number (number word) value read in
    record { spelled = Number h.n; spells = ap (option_map Number) h.is; kinds = tt; shows = λ fit. ap (λ n. atom (Number n) tree.none) (exact h.n value v h.value gives fit) }

pub is-position : (word : List ℕ) (value : Option ℤ) (v : ℤ) → Some value ≡ option_map fitting (place word) → v ≡ unwrap_or value (pos 0)
    → IsWord AVariable (argument.Var (var.At (to_z w128 (of_z w128 v)))) word
unfolding atom_of
is-position word value v read gives =
    let h = has-number (place word) value read in
    record { spelled = Position h.n; spells = ap (variable_of word) h.is; kinds = tt; shows = λ fit. ap (λ n. atom (Position n) tree.none) (exact h.n value v h.value gives fit) }

pub variable-named : (word : List ℕ) → None ≡ option_map fitting (place word) → is_name word ≡ true → atom_of AVariable word ≡ Some (Variable word)
unfolding atom_of
variable-named word none_read name = ap (variable_of word) (has-none (place word) none_read) ∙ ap (λ t. cond t (Some (Variable word)) None) name

pub no-variable : (word : List ℕ) → None ≡ option_map fitting (place word) → is_name word ≡ false → atom_of AVariable word ≡ None
unfolding atom_of
no-variable word none_read name = ap (variable_of word) (has-none (place word) none_read) ∙ ap (λ t. cond t (Some (Variable word)) None) name

pub no-natural : (word : List ℕ) → None ≡ option_map fitting (natural word) → atom_of ANatural word ≡ None
unfolding atom_of
no-natural word read = ap (option_map Number) (has-none (natural word) read)

pub no-number : (word : List ℕ) → None ≡ option_map fitting (number word) → atom_of ANumber word ≡ None
unfolding atom_of
no-number word read = ap (option_map Number) (has-none (number word) read)

pub no-expression : (word : List ℕ) → atom_of AnExpression word ≡ None
unfolding atom_of
no-expression word = refl

pub is-zero-bit : (word : List ℕ) (m : ℤ) → bytes_eq word (codes "0") ≡ true → m ≡ pos 0 → IsWord ABit (argument.Number m) word
unfolding atom_of
is-zero-bit word m is e = rw e (record { spelled = Number (pos 0); spells = rw is refl; kinds = refl; shows = λ fit. refl })

pub is-one-bit : (word : List ℕ) (m : ℤ) → bytes_eq word (codes "0") ≡ false → bytes_eq word (codes "1") ≡ true → m ≡ pos 1 → IsWord ABit (argument.Number m) word
unfolding atom_of
is-one-bit word m other is e = rw e (record { spelled = Number (pos 1); spells = rw (other, is) refl; kinds = refl; shows = λ fit. refl })

pub no-bit : (word : List ℕ) → bytes_eq word (codes "0") ≡ false → bytes_eq word (codes "1") ≡ false → atom_of ABit word ≡ None
unfolding atom_of
no-bit word a b = rw (a, b) refl

pub of-kind : (kind k : Kind) (a : Argument) (word : List ℕ) → kind ≡ k → IsWord k a word → IsWord kind a word
of-kind kind k a word is h = subst (λ (x : Kind). IsWord x a word) (sym is) h
