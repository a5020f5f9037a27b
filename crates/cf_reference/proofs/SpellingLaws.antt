-- What is spelled by a word and what stands behind it.
use Rattle.std.proofs.Common.{ℕ, ℤ, ◌≡◌, Bool, true, false, cond, List, [], ◌∷◌, Option, Some, None, refl, ap, sym}
use Rattle.std.specs.Prelude.{IsTrue}
use Rattle.std.specs.Str.{bytes_eq}
use Rattle.std.proofs.lemmas.Slice.Eq.{bytes_eq-Decides}
use Rattle.cf_reference.specs.declared.grammar.Head.{Head}
use Rattle.cf_reference.specs.Heads.{head_of, takes}
use Rattle.cf_reference.specs.Words.{number, place, is_name, open_sign}
use Rattle.cf_reference.specs.Trees.{Tree, Num, At, Named, Call, Arguments, count}
use Rattle.cf_reference.specs.Grammar.{leaf, leaf_of_place, leaf_of_number, opens, SpellsLeaf, SpellsTree, SpellsArguments}

-- a call is spelled by its head's word, `(`, and what is spelled behind it
pub spells-call : (head : Head) (es : Arguments) (word : List ℕ) (all inside rest : List (List ℕ)) → all ≡ word ∷ open_sign ∷ inside
    → head_of word ≡ Some head → IsTrue (takes head (count es)) → SpellsArguments head 0 es inside rest → SpellsTree (Call head es) all rest
spells-call head es word all inside rest is of number h = (inside, record { word = word; words = is; is = of }, number, h)

-- a word that no `(` follows
pub not-open : (next : List (List ℕ)) → ((x : List (List ℕ)) → next ≡ open_sign ∷ x → ⊥) → opens next ≡ false
not-open [] other = refl
not-open (word ∷ more) other = at (bytes_eq word open_sign) refl
  where
    at : (t : Bool) → bytes_eq word open_sign ≡ t → bytes_eq word open_sign ≡ false
    at true is = absurd (other more (ap (λ w. w ∷ more) ((bytes_eq-Decides word open_sign).0 is)))
    at false is = is

abbrev pub is_leaf : Tree → Bool
is_leaf (Num n) = true
is_leaf (At n) = true
is_leaf (Named name) = true
is_leaf other = false

named_leaf : (word : List ℕ) (b : Bool) (t : Tree) → cond b (Some (Named word)) None ≡ Some t → is_leaf t ≡ true
named_leaf word true t e = let s : Named word ≡ t = cc in sym (ap is_leaf s)
named_leaf word false t e = cc

placed_leaf : (word : List ℕ) (o : Option ℤ) (t : Tree) → leaf_of_place word o ≡ Some t → is_leaf t ≡ true
placed_leaf word None t e = named_leaf word (is_name word) t e
placed_leaf word (Some n) t e = let s : At n ≡ t = cc in sym (ap is_leaf s)

numbered_leaf : (word : List ℕ) (o : Option ℤ) (t : Tree) → leaf_of_number word o ≡ Some t → is_leaf t ≡ true
numbered_leaf word None t e = placed_leaf word (place word) t e
numbered_leaf word (Some n) t e = let s : Num n ≡ t = cc in sym (ap is_leaf s)

pub leaves : (word : List ℕ) (t : Tree) → leaf word ≡ Some t → is_leaf t ≡ true
unfolding leaf
leaves word t e = numbered_leaf word (number word) t e

pub spells-leaf : (t : Tree) (all rest : List (List ℕ)) → SpellsLeaf t all rest → is_leaf t ≡ true → SpellsTree t all rest
spells-leaf (Num n) all rest h k = h
spells-leaf (At n) all rest h k = h
spells-leaf (Named name) all rest h k = h
spells-leaf (Call head es) all rest h k = cc
