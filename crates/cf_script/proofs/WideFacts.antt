-- Numbers that don't fit, among the words of an expression.
use Rattle.std.proofs.Common.{ℕ, ℤ, pos, neg_ℤ, zero, suc, ◌++◌, ◌≡◌, ◌≤◌, nat_le, ◌==◌, length, arith, ◌&&◌, ◌||◌, Bool, true, false, not, cond, List, [], ◌∷◌, Option, Some, None, refl, ap, sym, subst, ◌∙◌}
use Rattle.std.specs.Prelude.{codes}
use Rattle.std.specs.Char.{is_ascii_digit}
use Rattle.std.specs.List.{list_all}
use Rattle.std.specs.Option.{option_map}
use Rattle.std.specs.Str.{bytes_eq}
use Rattle.std.proofs.lemmas.Slice.Eq.{bytes_eq-Decides}
use Rattle.cf_model.specs.Values.{fits}
use Rattle.cf_reference.specs.declared.grammar.Head.{Head}
use Rattle.cf_reference.specs.declared.grammar.Kind.{Kind}
use Rattle.cf_reference.specs.declared.grammar.Kind.TheVariants.{Expression as AnExpression, Variable as AVariable, Natural as ANatural, Number as ANumber, Bit as ABit}
use Rattle.cf_reference.specs.Heads.{kind_at}
use Rattle.cf_reference.specs.declared.grammar.Keyword.{Keyword}
use Rattle.cf_reference.specs.declared.grammar.Keyword.TheVariants as keyword
use Rattle.cf_reference.specs.Words.{decimal_value, natural, number, place, is_name, open_sign, close_sign, comma}
use Rattle.cf_reference.specs.Trees.{Atom, Variable, Position, Number, Tree, Num, At, Named, Call, Arguments, none, more, atom, atom_fits, tree_fits, arguments_fit}
use Rattle.cf_reference.specs.Grammar.{keyword_of, Calls, variable_of, atom_of, lead, SpellsEnd, SpellsTree, SpellsArguments}
use Rattle.cf_reference.proofs.KindFacts.{natural-number, number-place, name-number, name-place, head-name, leaf-number, leaf-place, leaf-name}
use Rattle.cf_script.proofs.NumberFacts.{digits-fit, opposite-fits}
use Rattle.cf_script.specs.Answers.{is_unfit, is_wide, any_wide, keeps_memory, takes_memory}

no_more : {A : Type 0} (y : A) (P : Type 0) → None ≡ Some y → P
no_more y P e = cc

natural_narrow : (word : List ℕ) → length word ≤ 38 → is_unfit (natural word) ≡ false
unfolding natural
natural_narrow word short = at (nat_le 1 (length word)) (list_all is_ascii_digit word) refl
  where
    at : (x y : Bool) → list_all is_ascii_digit word ≡ y → is_unfit (cond (x && y) (Some (pos (decimal_value word))) None) ≡ false
    at true true all = ap not (digits-fit word all short)
    at true false all = refl
    at false y all = refl

opposite_narrow : (word : List ℕ) → length word ≤ 38 → is_unfit (option_map neg_ℤ (natural word)) ≡ false
unfolding natural
opposite_narrow word short = at (nat_le 1 (length word)) (list_all is_ascii_digit word) refl
  where
    at : (x y : Bool) → list_all is_ascii_digit word ≡ y → is_unfit (option_map neg_ℤ (cond (x && y) (Some (pos (decimal_value word))) None)) ≡ false
    at true true all = ap not (opposite-fits (decimal_value word) (digits-fit word all short))
    at true false all = refl
    at false y all = refl

number_narrow : (word : List ℕ) → length word ≤ 38 → is_unfit (number word) ≡ false
unfolding number
number_narrow [] short = refl
number_narrow (b ∷ digits) short = at (b == 45)
  where
    at : (t : Bool) → is_unfit (cond t (option_map neg_ℤ (natural digits)) (natural (b ∷ digits))) ≡ false
    at true = opposite_narrow digits (omega (arith, short))
    at false = natural_narrow (b ∷ digits) short

place_narrow : (word : List ℕ) → length word ≤ 38 → is_unfit (place word) ≡ false
unfolding place
place_narrow [] short = refl
place_narrow (b ∷ digits) short = at (b == 64)
  where
    at : (t : Bool) → is_unfit (cond t (natural digits) None) ≡ false
    at true = natural_narrow digits (omega (arith, short))
    at false = refl

-- no number of a short word is too wide
pub short-narrow : (word : List ℕ) → length word ≤ 38 → is_wide word ≡ false
short-narrow word short = rw (number_narrow word short, place_narrow word short) refl

narrow_word : (word : List ℕ) → number word ≡ None → place word ≡ None → is_wide word ≡ false
narrow_word word a b = rw (a, b) refl

number_word : (word : List ℕ) (n : ℤ) → number word ≡ Some n → is_wide word ≡ not (fits n)
number_word word n h = rw (h, number-place word n h) (by (fits n))
  where
    by : (t : Bool) → (not t || false) ≡ not t
    by true = refl
    by false = refl

place_word : (word : List ℕ) (n : ℤ) → number word ≡ None → place word ≡ Some n → is_wide word ≡ not (fits n)
place_word word n a h = rw (a, h) refl

-- a word more
word_more : (word : List ℕ) (all rest : List (List ℕ)) (x y : Bool) → all ≡ word ∷ rest → is_wide word ≡ x → any_wide rest ≡ y → any_wide all ≡ (x || y)
word_more word all rest x y is a b = ap any_wide is ∙ ap (λ t. t || any_wide rest) a ∙ ap (λ t. x || t) b

both_words : (x y r : Bool) → (not x || (not y || r)) ≡ (not (x && y) || r)
both_words true y r = refl
both_words false y r = refl

call_wide : (head : Head) (all inside : List (List ℕ)) → Calls head all inside → any_wide all ≡ any_wide inside
unfolding number place natural
call_wide head all inside h =
    let name = head-name h.word head h.is in
    word_more h.word all (open_sign ∷ inside) false (any_wide inside) h.words (narrow_word h.word (name-number h.word name) (name-place h.word name)) refl

close_wide : (rest : List (List ℕ)) → any_wide (close_sign ∷ rest) ≡ any_wide rest
unfolding number place natural
close_wide rest = refl

comma_wide : (rest : List (List ℕ)) → any_wide (comma ∷ rest) ≡ any_wide rest
unfolding number place natural
comma_wide rest = refl

end_wide : (i : ℕ) (all rest : List (List ℕ)) → SpellsEnd i all rest → any_wide all ≡ any_wide rest
end_wide zero all rest h = absurd h
end_wide (suc i) all rest h = ap any_wide h ∙ close_wide rest

lead_wide : (i : ℕ) (after : List (List ℕ)) → any_wide (lead i ++ after) ≡ any_wide after
lead_wide zero after = refl
lead_wide (suc i) after = comma_wide after

numbered : (o : Option ℤ) (a : Atom) → option_map Number o ≡ Some a → (n : ℤ) × (o ≡ Some n) × (Number n ≡ a)
numbered None a h = cc
numbered (Some n) a h = (n, refl, cc)

no_number : (word : List ℕ) (n : ℤ) (o : Option ℤ) → place word ≡ Some n → number word ≡ o → o ≡ None
no_number word n None p e = refl
no_number word n (Some m) p e = let d : None ≡ Some n = sym (number-place word m e) ∙ p in cc

variable_wide : (word : List ℕ) (o : Option ℤ) (a : Atom) → place word ≡ o → variable_of word o ≡ Some a → is_wide word ≡ not (atom_fits a)
variable_wide word None a is h = by (is_name word) refl h
  where
    by : (t : Bool) → is_name word ≡ t → cond t (Some (Variable word)) None ≡ Some a → is_wide word ≡ not (atom_fits a)
    by true name k = let e : Variable word ≡ a = cc in narrow_word word (name-number word name) is ∙ ap (λ b. not (atom_fits b)) e
    by false name k = cc
variable_wide word (Some i) a is h =
    let e : Position i ≡ a = cc in place_word word i (no_number word i (number word) is refl) is ∙ ap (λ b. not (atom_fits b)) e

bit_wide : (x y : Bool) (word : List ℕ) (a : Atom) → bytes_eq word (codes "0") ≡ x → bytes_eq word (codes "1") ≡ y
    → cond x (Some (Number (pos 0))) (cond y (Some (Number (pos 1))) None) ≡ Some a → is_wide word ≡ not (atom_fits a)
unfolding number place natural
bit_wide true y word a is also h =
    let e : Number (pos 0) ≡ a = cc in ap is_wide ((bytes_eq-Decides word (codes "0")).0 is) ∙ ap (λ b. not (atom_fits b)) e
bit_wide false true word a is also h =
    let e : Number (pos 1) ≡ a = cc in ap is_wide ((bytes_eq-Decides word (codes "1")).0 also) ∙ ap (λ b. not (atom_fits b)) e
bit_wide false false word a is also h = cc

atom_wide : (kind : Kind) (word : List ℕ) (a : Atom) → atom_of kind word ≡ Some a → is_wide word ≡ not (atom_fits a)
unfolding atom_of
atom_wide AnExpression word a h = cc
atom_wide AVariable word a h = variable_wide word (place word) a refl h
atom_wide ANatural word a h =
    let m = numbered (natural word) a h in number_word word m.0 (natural-number word m.0 m.1) ∙ ap (λ b. not (atom_fits b)) m.2
atom_wide ANumber word a h =
    let m = numbered (number word) a h in number_word word m.0 m.1 ∙ ap (λ b. not (atom_fits b)) m.2
atom_wide ABit word a h = bit_wide (bytes_eq word (codes "0")) (bytes_eq word (codes "1")) word a refl refl h

-- Some word that was read is a number that doesn't fit exactly where a number of the tree doesn't.
mutual
  pub wide_tree : (t : Tree) (all rest : List (List ℕ)) → SpellsTree t all rest → any_wide all ≡ (not (tree_fits t) || any_wide rest)
  wide_tree (Num n) all rest h = word_more h.word all rest (not (fits n)) (any_wide rest) h.words (number_word h.word n (leaf-number h.word n h.is)) refl
  wide_tree (At n) all rest h =
      let p = leaf-place h.word n h.is in
      word_more h.word all rest (not (fits n)) (any_wide rest) h.words (place_word h.word n p.0 p.1) refl
  wide_tree (Named name) all rest h =
      let p = leaf-name h.word name h.is in
      word_more h.word all rest false (any_wide rest) h.words (narrow_word h.word p.0 p.1) refl
  wide_tree (Call head es) all rest h = call_wide head all h.0 h.1 ∙ wide_arguments es head 0 h.0 rest h.3

  wide_arguments : (es : Arguments) (head : Head) (i : ℕ) (all rest : List (List ℕ)) → SpellsArguments head i es all rest → any_wide all ≡ (not (arguments_fit es) || any_wide rest)
  wide_arguments none head i all rest h = end_wide i all rest h
  wide_arguments (more t ts) head i all rest h =
      ap any_wide h.2 ∙ lead_wide i h.1 ∙ wide_tree t h.1 h.3 h.4 ∙ ap (λ x. not (tree_fits t) || x) (wide_arguments ts head (suc i) h.3 rest h.5)
      ∙ both_words (tree_fits t) (arguments_fit ts) (any_wide rest)
  wide_arguments (atom a ts) head i all rest h =
      ap any_wide h.1.words ∙ lead_wide i (h.1.word ∷ h.0)
      ∙ word_more h.1.word (h.1.word ∷ h.0) h.0 (not (atom_fits a)) (not (arguments_fit ts) || any_wide rest) refl (atom_wide (kind_at head i) h.1.word a h.1.is) (wide_arguments ts head (suc i) h.0 rest h.2)
      ∙ both_words (atom_fits a) (arguments_fit ts) (any_wide rest)

whole : (t x : Bool) → x ≡ (not t || false) → (x ≡ false → t ≡ true) × (x ≡ true → t ≡ false)
whole true x e = (λ h. refl, λ h. let d : true ≡ false = sym h ∙ e in cc)
whole false x e = (λ h. let d : false ≡ true = sym h ∙ e in cc, λ h. refl)

-- an expression that is all of the words
pub whole-fits : (t : Tree) (all : List (List ℕ)) → SpellsTree t all [] → any_wide all ≡ false → tree_fits t ≡ true
whole-fits t all h narrow = (whole (tree_fits t) (any_wide all) (wide_tree t all [] h)).0 narrow

pub whole-wide : (t : Tree) (all : List (List ℕ)) → SpellsTree t all [] → any_wide all ≡ true → tree_fits t ≡ false
whole-wide t all h wide = (whole (tree_fits t) (any_wide all) (wide_tree t all [] h)).1 wide

entry_of : {A : Type 0} (word entry : List ℕ) (x below : Option A) (y : A) (P : List ℕ → Type 0) → (x ≡ Some y → P entry) → cond (bytes_eq word entry) x below ≡ Some y → (below ≡ Some y → P word) → P word
entry_of word entry x below y P here h later = at (bytes_eq word entry) refl h
  where
    at : (t : Bool) → bytes_eq word entry ≡ t → cond t x below ≡ Some y → P word
    at true is k = subst P (sym ((bytes_eq-Decides word entry).0 is)) (here k)
    at false is k = later k

forgets : (k key : Keyword) (P : Type 0) → keeps_memory k ≡ false → keeps_memory key ≡ true → Some k ≡ Some key → P
forgets k key P no_memory keeps is = let e : k ≡ key = cc in let d : false ≡ true = sym no_memory ∙ (ap keeps_memory e ∙ keeps) in cc

-- only lines that begin with `var` or `let` have statements that keep memory
pub keyword-memory : (word : List ℕ) (rest : List (List ℕ)) (key : Keyword) → keyword_of word ≡ Some key → keeps_memory key ≡ true → takes_memory (word ∷ rest) ≡ true
unfolding keyword_of
keyword-memory word rest key h keeps =
    entry_of word (codes "level") _ _ key (λ w. takes_memory (w ∷ rest) ≡ true) (λ e. forgets keyword.Level key (takes_memory (codes "level" ∷ rest) ≡ true) refl keeps e) h (λ h.
    entry_of word (codes "var") _ _ key (λ w. takes_memory (w ∷ rest) ≡ true) (λ e. refl) h (λ h.
    entry_of word (codes "let") _ _ key (λ w. takes_memory (w ∷ rest) ≡ true) (λ e. refl) h (λ h.
    entry_of word (codes "load") _ _ key (λ w. takes_memory (w ∷ rest) ≡ true) (λ e. forgets keyword.Load key (takes_memory (codes "load" ∷ rest) ≡ true) refl keeps e) h (λ h.
    entry_of word (codes "value") _ _ key (λ w. takes_memory (w ∷ rest) ≡ true) (λ e. forgets keyword.Value key (takes_memory (codes "value" ∷ rest) ≡ true) refl keeps e) h (λ h.
    entry_of word (codes "first") _ _ key (λ w. takes_memory (w ∷ rest) ≡ true) (λ e. forgets keyword.First key (takes_memory (codes "first" ∷ rest) ≡ true) refl keeps e) h (λ h.
    entry_of word (codes "list") _ _ key (λ w. takes_memory (w ∷ rest) ≡ true) (λ e. forgets keyword.List key (takes_memory (codes "list" ∷ rest) ≡ true) refl keeps e) h (λ h.
    entry_of word (codes "entry") _ _ key (λ w. takes_memory (w ∷ rest) ≡ true) (λ e. forgets keyword.Entry key (takes_memory (codes "entry" ∷ rest) ≡ true) refl keeps e) h (λ h.
    entry_of word (codes "equal") _ _ key (λ w. takes_memory (w ∷ rest) ≡ true) (λ e. forgets keyword.Equal key (takes_memory (codes "equal" ∷ rest) ≡ true) refl keeps e) h (λ h.
    entry_of word (codes "size") _ _ key (λ w. takes_memory (w ∷ rest) ≡ true) (λ e. forgets keyword.Size key (takes_memory (codes "size" ∷ rest) ≡ true) refl keeps e) h (λ h.
    entry_of word (codes "stats") _ _ key (λ w. takes_memory (w ∷ rest) ≡ true) (λ e. forgets keyword.Stats key (takes_memory (codes "stats" ∷ rest) ≡ true) refl keeps e) h (λ h.
    no_more key (takes_memory (word ∷ rest) ≡ true) h)))))))))))
