-- What a line spells is formed, where its numbers fit.
use Rattle.std.specs.Option.{option_map}
use Rattle.std.specs.Str.{bytes_eq}
use Rattle.std.specs.Prelude.{codes, nat_le}
use Rattle.std.proofs.Common.{ℕ, ℤ, pos, suc, ◌≡◌, ◌&&◌, Bool, true, false, cond, List, [], length, Option, Some, None, refl, ap, sym, subst, ◌∙◌}
use Rattle.std.proofs.lemmas.Bool.{and_parts, leb-true}
use Rattle.cf_model.specs.Assignments.{are_digits}
use Rattle.cf_model.specs.Values.{Fits, fits}
use Rattle.cf_model.proofs.TermLaws.{fitting-some}
use Rattle.cf_reference.specs.declared.grammar.Keyword.TheVariants as keyword
use Rattle.cf_reference.specs.declared.grammar.Keyword.{Keyword}
use Rattle.cf_reference.specs.Words.{natural, number, place, is_name, is_bits}
use Rattle.cf_reference.specs.declared.grammar.Head.{Head}
use Rattle.cf_reference.specs.Heads.{Kind, AnExpression, AVariable, ANatural, ANumber, ABit, kind_at}
use Rattle.cf_reference.specs.Trees.{Atom, Variable, Position, Number, Tree, Num, At, Named, Call, Arguments, none, more, atom, atom_fits, tree_fits, arguments_fit, IsFormedAtom, IsFormed, AreFormed, Statement, statement_fits, IsFormedStatement}
use Rattle.cf_reference.specs.Grammar.{variable_of, atom_of, SpellsTree, SpellsArguments, SpellsBehind}
use Rattle.cf_reference.proofs.KindFacts.{leaf-place, place-low, natural-low}
use Rattle.cf_reference.proofs.TestFacts.{right}

-- a number that fits by the test
pub fits-true : (n : ℤ) → fits n ≡ true → Fits n
fits-true n h = (fitting-some n n (ap (λ t. cond t (Some n) None) h)).1

numbered : (o : Option ℤ) (a : Atom) → option_map Number o ≡ Some a → (n : ℤ) × (o ≡ Some n) × (Number n ≡ a)
numbered None a h = cc
numbered (Some n) a h = (n, refl, cc)

formed_variable : (word : List ℕ) (o : Option ℤ) (a : Atom) → place word ≡ o → variable_of word o ≡ Some a → atom_fits a ≡ true
    → IsFormedAtom AVariable a
formed_variable word None a is h fit = by (is_name word) h
  where
    by : (t : Bool) → cond t (Some (Variable word)) None ≡ Some a → IsFormedAtom AVariable a
    by true k = let e : Variable word ≡ a = cc in subst (IsFormedAtom AVariable) e tt
    by false k = cc
formed_variable word (Some i) a is h fit =
    let e : Position i ≡ a = cc in
    subst (IsFormedAtom AVariable) e (place-low word i is, fits-true i (ap atom_fits e ∙ fit))

formed_bit : (x y : Bool) (a : Atom) → cond x (Some (Number (pos 0))) (cond y (Some (Number (pos 1))) None) ≡ Some a → IsFormedAtom ABit a
formed_bit true y a h = let e : Number (pos 0) ≡ a = cc in subst (IsFormedAtom ABit) e refl
formed_bit false true a h = let e : Number (pos 1) ≡ a = cc in subst (IsFormedAtom ABit) e refl
formed_bit false false a h = cc

formed_atom : (kind : Kind) (word : List ℕ) (a : Atom) → atom_of kind word ≡ Some a → atom_fits a ≡ true → IsFormedAtom kind a
unfolding atom_of
formed_atom AnExpression word a h fit = cc
formed_atom AVariable word a h fit = formed_variable word (place word) a refl h fit
formed_atom ANatural word a h fit =
    let m = numbered (natural word) a h in
    subst (IsFormedAtom ANatural) m.2 (natural-low word m.0 m.1, fits-true m.0 (ap atom_fits m.2 ∙ fit))
formed_atom ANumber word a h fit =
    let m = numbered (number word) a h in subst (IsFormedAtom ANumber) m.2 (fits-true m.0 (ap atom_fits m.2 ∙ fit))
formed_atom ABit word a h fit = formed_bit (bytes_eq word (codes "0")) (bytes_eq word (codes "1")) a h

mutual
  pub formed_tree : (t : Tree) (all rest : List (List ℕ)) → SpellsTree t all rest → tree_fits t ≡ true → IsFormed t
  formed_tree (Num n) all rest h fit = fits-true n fit
  formed_tree (At n) all rest h fit = (place-low h.word n (leaf-place h.word n h.is).1, fits-true n fit)
  formed_tree (Named name) all rest h fit = tt
  formed_tree (Call head es) all rest h fit = (h.2, formed_arguments es head 0 h.0 rest h.3 fit)

  formed_arguments : (es : Arguments) (head : Head) (i : ℕ) (all rest : List (List ℕ)) → SpellsArguments head i es all rest
      → arguments_fit es ≡ true → AreFormed head i es
  formed_arguments none head i all rest h fit = tt
  formed_arguments (more e es) head i all rest h fit =
      let both = and_parts (tree_fits e) (arguments_fit es) fit in
      (h.0, formed_tree e h.1 h.3 h.4 both.0, formed_arguments es head (suc i) h.3 rest h.5 both.1)
  formed_arguments (atom a es) head i all rest h fit =
      let both = and_parts (atom_fits a) (arguments_fit es) fit in
      (formed_atom (kind_at head i) h.1.word a h.1.is both.0, formed_arguments es head (suc i) h.0 rest h.2 both.1)

-- BITS have no other bytes
bits-digits : (word : List ℕ) → is_bits word ≡ true → are_digits word ≡ true
unfolding is_bits
bits-digits word h = right (nat_le 1 (length word)) (are_digits word) h

pub formed_behind : (key : Keyword) (t : Statement) (bytes : List ℕ) (all : List (List ℕ)) → SpellsBehind key t bytes all → statement_fits t ≡ true → IsFormedStatement t
formed_behind keyword.Level t bytes all h fit =
    let f : fits h.1 ≡ true = sym (ap statement_fits h.4) ∙ fit in
    subst IsFormedStatement (sym h.4) (natural-low h.0 h.1 h.3, fits-true h.1 f)
formed_behind keyword.Var t bytes all h fit = subst IsFormedStatement (sym h.2) (leb-true 1 _ h.0)
formed_behind keyword.Let t bytes all h fit =
    let f : tree_fits h.1 ≡ true = sym (ap statement_fits h.6) ∙ fit in
    subst IsFormedStatement (sym h.6) (formed_tree h.1 h.2 [] h.5 f)
formed_behind keyword.Load t bytes all h fit = subst IsFormedStatement (sym h.4) tt
formed_behind keyword.Value t bytes all h fit = subst IsFormedStatement (sym h.5) (bits-digits _ h.4)
formed_behind keyword.First t bytes all h fit =
    let f : fits h.2 ≡ true = sym (ap statement_fits h.6) ∙ fit in
    subst IsFormedStatement (sym h.6) (fits-true h.2 f)
formed_behind keyword.List t bytes all h fit =
    let f : (fits h.3 && fits h.4) ≡ true = sym (ap statement_fits h.9) ∙ fit in
    let both = and_parts (fits h.3) (fits h.4) f in
    subst IsFormedStatement (sym h.9) (fits-true h.3 both.0, (natural-low h.2 h.4 h.8, fits-true h.4 both.1))
formed_behind keyword.Entry t bytes all h fit =
    let f : (fits h.3 && fits h.4) ≡ true = sym (ap statement_fits h.9) ∙ fit in
    let both = and_parts (fits h.3) (fits h.4) f in
    subst IsFormedStatement (sym h.9) ((natural-low h.1 h.3 h.7, fits-true h.3 both.0), (natural-low h.2 h.4 h.8, fits-true h.4 both.1))
formed_behind keyword.Equal t bytes all h fit = subst IsFormedStatement (sym h.5) tt
formed_behind keyword.Size t bytes all h fit = subst IsFormedStatement (sym h.3) tt
formed_behind keyword.Stats t bytes all h fit = subst IsFormedStatement (sym h.1) tt
