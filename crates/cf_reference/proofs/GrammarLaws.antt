-- What is spelled is determined by the words.
use Rattle.std.specs.Prelude.{IsTrue}
use Rattle.std.proofs.Common.{ℕ, zero, suc, ◌≡◌, true, false, List, [], ◌∷◌, ◌++◌, get_or, Some, None, refl, ap, sym, subst, ◌∙◌, arith}
use Rattle.cf_reference.specs.declared.grammar.Keyword.{Keyword}
use Rattle.cf_reference.specs.declared.grammar.Keyword.TheVariants as keyword
use Rattle.cf_reference.specs.declared.grammar.Head.{Head}
use Rattle.cf_reference.specs.Heads.{Kind, AnExpression, head_of, kind_at, takes}
use Rattle.cf_reference.specs.Words.{before_comment, behind_word, words_of_line, open_sign, close_sign, comma}
use Rattle.cf_reference.specs.Trees.{Tree, Num, At, Named, Call, Arguments, none, more, atom, Atom, count, Statement}
use Rattle.cf_reference.specs.Grammar.{keyword_of, leaf, opens, atom_of, lead, SpellsLeaf, SpellsEnd, SpellsAtom, Calls, SpellsTree, SpellsArguments, SpellsBehind, SpellsWords, LinesSpellOneStatement}

pub head_is : {A : Type 0} {x y : A} {xs ys : List A} → x ∷ xs ≡ y ∷ ys → x ≡ y
head_is e = cc

pub tail_is : {A : Type 0} {x y : A} {xs ys : List A} → x ∷ xs ≡ y ∷ ys → xs ≡ ys
tail_is e = cc

pub some_is : {A : Type 0} {x y : A} → Some x ≡ Some y → x ≡ y
some_is e = cc

is_open : (all inside : List (List ℕ)) → all ≡ open_sign ∷ inside → opens all ≡ false → ⊥
is_open all inside e alone = let t : opens all ≡ true = ap opens e in let f : true ≡ false = sym t ∙ alone in cc

at_leaf : (e : Tree) (word : List ℕ) (rest r : List (List ℕ)) → SpellsLeaf e (word ∷ rest) r → (leaf word ≡ Some e) × (r ≡ rest)
at_leaf e word rest r h = (ap leaf (head_is h.words) ∙ h.is, sym (tail_is h.words))

no_call : (head : Head) (word : List ℕ) (rest inside : List (List ℕ)) → opens rest ≡ false → Calls head (word ∷ rest) inside → ⊥
no_call head word rest inside alone h = is_open rest inside (tail_is h.words) alone

-- before a word other than `(`, a word spells its leaf
pub inv_leaf : (e : Tree) (word : List ℕ) (rest r : List (List ℕ)) → opens rest ≡ false → SpellsTree e (word ∷ rest) r → (leaf word ≡ Some e) × (r ≡ rest)
inv_leaf (Num n) word rest r alone h = at_leaf (Num n) word rest r h
inv_leaf (At n) word rest r alone h = at_leaf (At n) word rest r h
inv_leaf (Named name) word rest r alone h = at_leaf (Named name) word rest r h
inv_leaf (Call head es) word rest r alone h = absurd (no_call head word rest h.0 alone h.1)

no_leaf : (e : Tree) (word : List ℕ) (inside r : List (List ℕ)) → SpellsLeaf e (word ∷ open_sign ∷ inside) r → ⊥
no_leaf e word inside r h = is_open r inside (sym (tail_is h.words)) h.alone

-- a word before `(` is the word of one head, and the words behind it spell its arguments
pub record IsCall (e : Tree) (word : List ℕ) (inside r : List (List ℕ)) : Type 0 where
  pub head : Head
  pub arguments : Arguments
  pub is : e ≡ Call head arguments
  pub of : head_of word ≡ Some head
  pub number : IsTrue (takes head (count arguments))
  pub spells : SpellsArguments head 0 arguments inside r

pub inv_call : (e : Tree) (word : List ℕ) (inside r : List (List ℕ)) → SpellsTree e (word ∷ open_sign ∷ inside) r → IsCall e word inside r
inv_call (Num n) word inside r h = absurd (no_leaf (Num n) word inside r h)
inv_call (At n) word inside r h = absurd (no_leaf (At n) word inside r h)
inv_call (Named name) word inside r h = absurd (no_leaf (Named name) word inside r h)
inv_call (Call head es) word inside r h = record {
  head = head;
  arguments = es;
  is = refl;
  of = ap head_of (head_is h.1.words) ∙ h.1.is;
  number = h.2;
  spells = subst (λ all. SpellsArguments head 0 es all r) (sym (tail_is (tail_is h.1.words))) h.3;
}

-- behind a known head's word
pub arguments_of : (head : Head) (e : Tree) (all inside r : List (List ℕ)) → Calls head all inside → SpellsTree e all r
    → (es : Arguments) × (e ≡ Call head es) × SpellsArguments head 0 es inside r
arguments_of head e all inside r h k =
    let i = inv_call e h.word inside r (subst (λ a. SpellsTree e a r) h.words k) in
    let same : i.head ≡ head = some_is (sym i.of ∙ h.is) in (
      i.arguments,
      i.is ∙ ap (λ (d : Head). Call d i.arguments) same,
      subst (λ (d : Head). SpellsArguments d 0 i.arguments inside r) same i.spells,
    )

unique_leaf : (t : Tree) (all r : List (List ℕ)) (u : Tree) (q : List (List ℕ)) → SpellsLeaf t all r → SpellsTree u all q → (t ≡ u) × (r ≡ q)
unique_leaf t all r u q h k =
    let i = inv_leaf u h.word r q h.alone (subst (λ a. SpellsTree u a q) h.words k) in
    (some_is (sym h.is ∙ i.0), sym i.1)

pub signs_differ : (x y : List (List ℕ)) → close_sign ∷ x ≡ comma ∷ y → ⊥
signs_differ x y e = absurd (omega (arith, ap (λ (l : List ℕ). get_or l 0 0) (head_is e)))

-- what leads to a place is one thing, and isn't what ends
pub after_lead : (i : ℕ) (x y : List (List ℕ)) → lead i ++ x ≡ lead i ++ y → x ≡ y
after_lead zero x y e = e
after_lead (suc i) x y e = tail_is e

end_unique : (i : ℕ) (all r q : List (List ℕ)) → SpellsEnd i all r → SpellsEnd i all q → r ≡ q
end_unique zero all r q h k = absurd h
end_unique (suc i) all r q h k = tail_is (sym h ∙ k)

pub end_lead : (i : ℕ) (all r after : List (List ℕ)) → SpellsEnd i all r → all ≡ lead i ++ after → ⊥
end_lead zero all r after h e = h
end_lead (suc i) all r after h e = signs_differ r after (sym h ∙ e)

-- no atom stands where an expression does
pub no_atom : (kind : Kind) (word : List ℕ) (a : Atom) → kind ≡ AnExpression → atom_of kind word ≡ Some a → ⊥
unfolding atom_of
no_atom kind word a is h = let e : None ≡ Some a = sym (ap (λ (k : Kind). atom_of k word) is) ∙ h in cc

same_atom : (i : ℕ) (kind : Kind) (a b : Atom) (all r q : List (List ℕ)) → SpellsAtom i kind a all r → SpellsAtom i kind b all q → (a ≡ b) × (r ≡ q)
same_atom i kind a b all r q h k =
    let e = after_lead i (h.word ∷ r) (k.word ∷ q) (sym h.words ∙ k.words) in
    (some_is (sym h.is ∙ ap (atom_of kind) (head_is e) ∙ k.is), tail_is e)

-- The words determine the tree that they begin with, and what comes after it.
mutual
  pub unique : (t : Tree) (all r : List (List ℕ)) (u : Tree) (q : List (List ℕ)) → SpellsTree t all r → SpellsTree u all q → (t ≡ u) × (r ≡ q)
  unique (Num n) all r u q h k = unique_leaf (Num n) all r u q h k
  unique (At n) all r u q h k = unique_leaf (At n) all r u q h k
  unique (Named name) all r u q h k = unique_leaf (Named name) all r u q h k
  unique (Call head es) all r u q h k =
      let i = arguments_of head u all h.0 q h.1 k in
      let s = unique_arguments es head 0 h.0 r i.0 q h.3 i.2 in
      (ap (Call head) s.0 ∙ sym i.1, s.1)

  pub unique_arguments : (ts : Arguments) (head : Head) (i : ℕ) (all r : List (List ℕ)) (us : Arguments) (q : List (List ℕ))
      → SpellsArguments head i ts all r → SpellsArguments head i us all q → (ts ≡ us) × (r ≡ q)
  unique_arguments none head i all r none q h k = (refl, end_unique i all r q h k)
  unique_arguments none head i all r (more u us) q h k = absurd (end_lead i all r k.1 h k.2)
  unique_arguments none head i all r (atom b us) q h k = absurd (end_lead i all r (k.1.word ∷ k.0) h k.1.words)
  unique_arguments (more t ts) head i all r none q h k = absurd (end_lead i all q h.1 k h.2)
  unique_arguments (more t ts) head i all r (more u us) q h k =
      let s = unique t h.1 h.3 u k.3 h.4 (subst (λ a. SpellsTree u a k.3) (after_lead i k.1 h.1 (sym k.2 ∙ h.2)) k.4) in
      let m = unique_arguments ts head (suc i) h.3 r us q h.5 (subst (λ a. SpellsArguments head (suc i) us a q) (sym s.1) k.5) in
      (ap (λ e. more e ts) s.0 ∙ ap (more u) m.0, m.1)
  unique_arguments (more t ts) head i all r (atom b us) q h k = absurd (no_atom (kind_at head i) k.1.word b h.0 k.1.is)
  unique_arguments (atom a ts) head i all r none q h k = absurd (end_lead i all q (h.1.word ∷ h.0) k h.1.words)
  unique_arguments (atom a ts) head i all r (more u us) q h k = absurd (no_atom (kind_at head i) h.1.word a k.0 h.1.is)
  unique_arguments (atom a ts) head i all r (atom b us) q h k =
      let s = same_atom i (kind_at head i) a b all h.0 k.0 h.1 k.1 in
      let m = unique_arguments ts head (suc i) h.0 r us q h.2 (subst (λ l. SpellsArguments head (suc i) us l q) (sym s.1) k.2) in
      (ap (λ c. atom c ts) s.0 ∙ ap (atom b) m.0, m.1)

-- the words behind a keyword spell one statement
pub unique_behind : (key : Keyword) (t u : Statement) (bytes : List ℕ) (all : List (List ℕ)) → SpellsBehind key t bytes all → SpellsBehind key u bytes all
    → t ≡ u
unique_behind keyword.Level t u bytes all h k = cc
unique_behind keyword.Var t u bytes all h k = cc
unique_behind keyword.Let t u bytes all h k =
    let s = unique h.1 h.2 [] k.1 [] h.5 (subst (λ a. SpellsTree k.1 a []) (sym (tail_is (tail_is (sym h.3 ∙ k.3)))) k.5) in
    let e = s.0 in
    cc
unique_behind keyword.Load t u bytes all h k = cc
unique_behind keyword.Value t u bytes all h k = cc
unique_behind keyword.First t u bytes all h k = cc
unique_behind keyword.List t u bytes all h k = cc
unique_behind keyword.Entry t u bytes all h k = cc
unique_behind keyword.Equal t u bytes all h k = cc
unique_behind keyword.Size t u bytes all h k = cc
unique_behind keyword.Stats t u bytes all h k = cc

pub behind_of : (text word : List ℕ) (all : List (List ℕ)) (key : Keyword) (t : Statement) → keyword_of word ≡ Some key
    → SpellsWords t text (word ∷ all) → SpellsBehind key t (behind_word text) all
behind_of text word all key t is h = subst (λ (k : Keyword). SpellsBehind k t (behind_word text) all) (some_is (sym h.1 ∙ is)) h.2

pub unique_words : (t u : Statement) (text : List ℕ) (all : List (List ℕ)) → SpellsWords t text all → SpellsWords u text all
    → t ≡ u
unique_words t u text [] h k = h ∙ sym k
unique_words t u text (word ∷ all) h k =
    unique_behind h.0 t u (behind_word text) all h.2 (behind_of text word all h.0 u h.1 k)

pub one_statement : LinesSpellOneStatement
one_statement line t u h k = unique_words t u (before_comment line) (words_of_line line) h.words k.words
