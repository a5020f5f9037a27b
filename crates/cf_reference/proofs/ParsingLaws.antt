-- What is worked out from a line's words is what the grammar says.
use Rattle.std.proofs.Common.{ℕ, zero, suc, ◌≡◌, ◌+◌, ◌≤◌, Bool, true, false, cond, List, [], ◌∷◌, ◌++◌, length, Option, Some, None, refl, ap, sym, subst, ◌∙◌, arith}
use Rattle.std.specs.Str.{bytes_eq}
use Rattle.std.proofs.lemmas.Slice.Eq.{bytes_eq-Decides}
use Rattle.cf_reference.specs.declared.grammar.Head.{Head}
use Rattle.cf_reference.specs.Heads.{Kind, AnExpression, AVariable, ANatural, ANumber, ABit, head_of, takes, kind_at}
use Rattle.cf_reference.specs.Words.{open_sign, close_sign, comma}
use Rattle.cf_reference.specs.Trees.{Atom, Tree, Num, At, Named, Call, Arguments, none, more, atom, count}
use Rattle.cf_reference.specs.Grammar.{leaf, opens, atom_of, lead, SpellsLeaf, SpellsEnd, Calls, SpellsTree, SpellsArguments}
use Rattle.cf_reference.specs.Parsing.{TreeAt, ArgumentsAt, before, followed, atom_before, taken, Readers, called_at, alone_at, read_tree, read_atom, read_argument, read_arguments, readers}
use Rattle.cf_reference.proofs.GrammarLaws.{some_is, no_atom}
use Rattle.cf_reference.proofs.SpellingLaws.{spells-call, leaves, spells-leaf}
use Rattle.cf_reference.proofs.DepthLaws.{tree-shorter, arguments-shorter}

-- what was found, by its two parts
first_is : {A B : Type 0} {x y : A × B} → Some x ≡ Some y → x.0 ≡ y.0
first_is {A} {B} e = ap (λ (p : A × B). p.0) (some_is e)

second_is : {A B : Type 0} {x y : A × B} → Some x ≡ Some y → x.1 ≡ y.1
second_is {A} {B} e = ap (λ (p : A × B). p.1) (some_is e)

-- Trees that are found are spelled.
record AreSound (r : Readers) : Type 0 where
  tree : (all rest : List (List ℕ)) (e : Tree) → r.tree_at all ≡ Some (e, rest) → SpellsTree e all rest
  arguments : (head : Head) (i : ℕ) (all rest : List (List ℕ)) (es : Arguments) → r.arguments_at head i all ≡ Some (es, rest) → SpellsArguments head i es all rest

is_sign : (word sign : List ℕ) → bytes_eq word sign ≡ true → word ≡ sign
is_sign word sign e = (bytes_eq-Decides word sign).0 e

-- an expression as the argument at place i, and those behind it
followed_sound : (r : Readers) → AreSound r → (head : Head) (i : ℕ) → kind_at head i ≡ AnExpression → (all : List (List ℕ)) (found : TreeAt) (rest : List (List ℕ)) (es : Arguments)
    → r.tree_at all ≡ found → followed (r.arguments_at head (suc i)) found ≡ Some (es, rest) → SpellsArguments head i es (lead i ++ all) rest
followed_sound r sound head i kind all None rest es is h = cc
followed_sound r sound head i kind all (Some found) rest es is h = at (r.arguments_at head (suc i) found.1) refl h
  where
    at : (later : ArgumentsAt) → r.arguments_at head (suc i) found.1 ≡ later → before found.0 later ≡ Some (es, rest) → SpellsArguments head i es (lead i ++ all) rest
    at None e k = cc
    at (Some later) e k =
        subst (λ ts. SpellsArguments head i ts (lead i ++ all) rest) (first_is k)
        (kind, all, refl, found.1, sound.tree all found.1 found.0 is, subst (λ l. SpellsArguments head (suc i) later.0 found.1 l) (second_is k) (sound.arguments head (suc i) found.1 later.1 later.0 e))

-- an atom
atom_sound : (r : Readers) → AreSound r → (head : Head) (i : ℕ) (kind : Kind) → kind_at head i ≡ kind → (all rest : List (List ℕ)) (es : Arguments)
    → read_atom kind (r.arguments_at head (suc i)) all ≡ Some (es, rest) → SpellsArguments head i es (lead i ++ all) rest
atom_sound r sound head i kind is [] rest es h = cc
atom_sound r sound head i kind is (word ∷ all) rest es h = at (atom_of kind word) (r.arguments_at head (suc i) all) refl refl h
  where
    at : (o : Option Atom) (later : ArgumentsAt) → atom_of kind word ≡ o → r.arguments_at head (suc i) all ≡ later → atom_before o later ≡ Some (es, rest)
        → SpellsArguments head i es (lead i ++ word ∷ all) rest
    at None later a e k = cc
    at (Some a) None of e k = cc
    at (Some a) (Some later) of e k =
        subst (λ ts. SpellsArguments head i ts (lead i ++ word ∷ all) rest) (first_is k) (
          all,
          record { word = word; words = refl; is = ap (λ (d : Kind). atom_of d word) is ∙ of },
          subst (λ l. SpellsArguments head (suc i) later.0 all l) (second_is k) (sound.arguments head (suc i) all later.1 later.0 e),
        )

argument_sound : (r : Readers) → AreSound r → (head : Head) (i : ℕ) (all rest : List (List ℕ)) (es : Arguments)
    → read_argument r (kind_at head i) (r.arguments_at head (suc i)) all ≡ Some (es, rest) → SpellsArguments head i es (lead i ++ all) rest
argument_sound r sound head i all rest es h = at (kind_at head i) refl h
  where
    at : (kind : Kind) → kind_at head i ≡ kind → read_argument r kind (r.arguments_at head (suc i)) all ≡ Some (es, rest) → SpellsArguments head i es (lead i ++ all) rest
    at AnExpression is k = followed_sound r sound head i is all (r.tree_at all) rest es refl k
    at AVariable is k = atom_sound r sound head i AVariable is all rest es k
    at ANatural is k = atom_sound r sound head i ANatural is all rest es k
    at ANumber is k = atom_sound r sound head i ANumber is all rest es k
    at ABit is k = atom_sound r sound head i ABit is all rest es k

arguments_sound : (r : Readers) → AreSound r → (head : Head) (i : ℕ) (all rest : List (List ℕ)) (es : Arguments) → read_arguments r head i all ≡ Some (es, rest) → SpellsArguments head i es all rest
arguments_sound r sound head zero all rest es h = argument_sound r sound head 0 all rest es h
arguments_sound r sound head (suc i) [] rest es h = cc
arguments_sound r sound head (suc i) (word ∷ all) rest es h = at (bytes_eq word close_sign) (bytes_eq word comma) refl refl h
  where
    at : (x y : Bool) → bytes_eq word close_sign ≡ x → bytes_eq word comma ≡ y
        → cond {A = ArgumentsAt} x (Some (none, all)) (cond y (read_argument r (kind_at head (suc i)) (r.arguments_at head (suc (suc i))) all) None) ≡ Some (es, rest)
        → SpellsArguments head (suc i) es (word ∷ all) rest
    at true y closes is k =
        subst (λ ts. SpellsArguments head (suc i) ts (word ∷ all) rest) (first_is k) (ap (λ w. w ∷ all) (is_sign word close_sign closes) ∙ ap (λ l. close_sign ∷ l) (second_is k))
    at false true closes is k =
        subst (λ w. SpellsArguments head (suc i) es (w ∷ all) rest) (sym (is_sign word comma is)) (argument_sound r sound head (suc i) all rest es k)
    at false false closes is k = cc

alone_sound : (word : List ℕ) (next rest : List (List ℕ)) (e : Tree) → opens next ≡ false → alone_at (leaf word) next ≡ Some (e, rest) → SpellsTree e (word ∷ next) rest
alone_sound word next rest e alone h = at (leaf word) refl h
  where
    at : (o : Option Tree) → leaf word ≡ o → alone_at o next ≡ Some (e, rest) → SpellsTree e (word ∷ next) rest
    at None is k = cc
    at (Some f) is k =
        let it : leaf word ≡ Some e = is ∙ ap Some (first_is k) in
        subst (λ l. SpellsTree e (word ∷ next) l) (second_is k)
        (spells-leaf e (word ∷ next) next (record { word = word; words = refl; alone = alone; is = it }) (leaves word e it))

called_sound : (r : Readers) → AreSound r → (word : List ℕ) (all rest : List (List ℕ)) (e : Tree) → called_at r (head_of word) all ≡ Some (e, rest) → SpellsTree e (word ∷ open_sign ∷ all) rest
called_sound r sound word all rest e h = at (head_of word) refl h
  where
    counted : (head : Head) → head_of word ≡ Some head → (found : Arguments × List (List ℕ)) → r.arguments_at head 0 all ≡ Some found
        → (t : Bool) → takes head (count found.0) ≡ t → cond {A = TreeAt} t (Some (Call head found.0, found.1)) None ≡ Some (e, rest) → SpellsTree e (word ∷ open_sign ∷ all) rest
    counted head is found args true number k =
        subst (λ u. SpellsTree u (word ∷ open_sign ∷ all) rest) (first_is k)
        (spells-call head found.0 word (word ∷ open_sign ∷ all) all rest refl is number
        (subst (λ l. SpellsArguments head 0 found.0 all l) (second_is k) (sound.arguments head 0 all found.1 found.0 args)))
    counted head is found args false number k = cc

    listed : (head : Head) → head_of word ≡ Some head → (o : ArgumentsAt) → r.arguments_at head 0 all ≡ o → taken head o ≡ Some (e, rest) → SpellsTree e (word ∷ open_sign ∷ all) rest
    listed head is None args k = cc
    listed head is (Some found) args k = counted head is found args (takes head (count found.0)) refl k

    at : (o : Option Head) → head_of word ≡ o → called_at r o all ≡ Some (e, rest) → SpellsTree e (word ∷ open_sign ∷ all) rest
    at None is k = cc
    at (Some head) is k = listed head is (r.arguments_at head 0 all) refl k

tree_sound : (r : Readers) → AreSound r → (all rest : List (List ℕ)) (e : Tree) → read_tree r all ≡ Some (e, rest) → SpellsTree e all rest
tree_sound r sound [] rest e h = cc
tree_sound r sound (word ∷ []) rest e h = alone_sound word [] rest e refl h
tree_sound r sound (word ∷ next ∷ all) rest e h = at (bytes_eq next open_sign) refl h
  where
    at : (t : Bool) → bytes_eq next open_sign ≡ t → cond t (called_at r (head_of word) all) (alone_at (leaf word) (next ∷ all)) ≡ Some (e, rest) → SpellsTree e (word ∷ next ∷ all) rest
    at true is k = subst (λ w. SpellsTree e (word ∷ w ∷ all) rest) (sym (is_sign next open_sign is)) (called_sound r sound word all rest e k)
    at false is k = alone_sound word (next ∷ all) rest e is k

sound : (k : ℕ) → AreSound (readers k)
unfolding readers
sound zero = record { tree = λ all rest e h. cc; arguments = λ head i all rest es h. cc }
sound (suc k) =
    let s = sound k in
    record {
      tree = λ all rest e h. tree_sound (readers k) s all rest e h;
      arguments = λ head i all rest es h. arguments_sound (readers k) s head i all rest es h;
    }

-- Trees that are spelled are found, within as many steps as they have words.
leaf_found : (k : ℕ) (e : Tree) (all rest : List (List ℕ)) → SpellsLeaf e all rest → length all ≤ k + length rest → (readers k).tree_at all ≡ Some (e, rest)
unfolding readers
leaf_found zero e all rest h enough = absurd (omega (arith, ap length h.words))
leaf_found (suc k) e all rest h enough = ap (read_tree (readers k)) h.words ∙ at rest h.alone
  where
    at : (next : List (List ℕ)) → opens next ≡ false → read_tree (readers k) (h.word ∷ next) ≡ Some (e, next)
    at [] alone = ap (λ o. alone_at o []) h.is
    at (w ∷ next) alone = rw alone (ap (λ o. alone_at o (w ∷ next)) h.is)

call_found : (k : ℕ) (head : Head) (e : Tree) (all inside rest : List (List ℕ)) → Calls head all inside → taken head ((readers k).arguments_at head 0 inside) ≡ Some (e, rest) → (readers (suc k)).tree_at all ≡ Some (e, rest)
unfolding readers
call_found k head e all inside rest h found = ap (read_tree (readers k)) h.words ∙ ap (λ o. called_at (readers k) o inside) h.is ∙ found

end_found : (k : ℕ) (head : Head) (i : ℕ) (all rest : List (List ℕ)) → SpellsEnd i all rest → length all ≤ k + length rest → (readers k).arguments_at head i all ≡ Some (none, rest)
unfolding readers
end_found k head zero all rest h enough = absurd h
end_found zero head (suc i) all rest h enough = absurd (omega (arith, ap length h))
end_found (suc k) head (suc i) all rest h enough = ap (read_arguments (readers k) head (suc i)) h

argument_found : (k : ℕ) (head : Head) (i : ℕ) (all after rest : List (List ℕ)) (es : Arguments) → all ≡ lead i ++ after
    → read_argument (readers k) (kind_at head i) ((readers k).arguments_at head (suc i)) after ≡ Some (es, rest) → (readers (suc k)).arguments_at head i all ≡ Some (es, rest)
unfolding readers
argument_found k head zero all after rest es is found = ap (read_arguments (readers k) head 0) is ∙ found
argument_found k head (suc i) all after rest es is found = ap (read_arguments (readers k) head (suc i)) is ∙ found

atom_found : (r : Readers) (kind : Kind) (later : List (List ℕ) → ArgumentsAt) (word : List ℕ) (rest : List (List ℕ)) (a : Atom) → atom_of kind word ≡ Some a
    → read_argument r kind later (word ∷ rest) ≡ atom_before (Some a) (later rest)
atom_found r AnExpression later word rest a h = absurd (no_atom AnExpression word a refl h)
atom_found r AVariable later word rest a h = ap (λ o. atom_before o (later rest)) h
atom_found r ANatural later word rest a h = ap (λ o. atom_before o (later rest)) h
atom_found r ANumber later word rest a h = ap (λ o. atom_before o (later rest)) h
atom_found r ABit later word rest a h = ap (λ o. atom_before o (later rest)) h

lead_longer : (i : ℕ) (all after : List (List ℕ)) → all ≡ lead i ++ after → length after ≤ length all
lead_longer zero all after e = omega (arith, ap length e)
lead_longer (suc i) all after e = omega (arith, ap length e)

mutual
  tree_found : (e : Tree) (k : ℕ) (all rest : List (List ℕ)) → SpellsTree e all rest → length all ≤ k + length rest → (readers k).tree_at all ≡ Some (e, rest)
  tree_found (Num n) k all rest h enough = leaf_found k (Num n) all rest h enough
  tree_found (At n) k all rest h enough = leaf_found k (At n) all rest h enough
  tree_found (Named name) k all rest h enough = leaf_found k (Named name) all rest h enough
  tree_found (Call head es) zero all rest h enough = absurd (omega (arith, enough, tree-shorter (Call head es) all rest h))
  tree_found (Call head es) (suc k) all rest h enough =
      call_found k head (Call head es) all h.0 rest h.1
      (ap (taken head) (arguments_found es head 0 k h.0 rest h.3 (omega (arith, ap length h.1.words)))
      ∙ ap (λ t. cond {A = TreeAt} t (Some (Call head es, rest)) None) h.2)

  arguments_found : (es : Arguments) (head : Head) (i k : ℕ) (all rest : List (List ℕ)) → SpellsArguments head i es all rest → length all ≤ k + length rest
      → (readers k).arguments_at head i all ≡ Some (es, rest)
  arguments_found none head i k all rest h enough = end_found k head i all rest h enough
  arguments_found (more e es) head i zero all rest h enough =
      absurd (omega (arith, enough, arguments-shorter (more e es) head i all rest h))
  arguments_found (more e es) head i (suc k) all rest h enough =
      argument_found k head i all h.1 rest (more e es) h.2
      (ap (λ (kind : Kind). read_argument (readers k) kind ((readers k).arguments_at head (suc i)) h.1) h.0
      ∙ ap (followed ((readers k).arguments_at head (suc i))) (tree_found e k h.1 h.3 h.4 (omega (arith, enough, lead_longer i all h.1 h.2, arguments-shorter es head (suc i) h.3 rest h.5)))
      ∙ ap (before e) (arguments_found es head (suc i) k h.3 rest h.5 (omega (arith, enough, lead_longer i all h.1 h.2, tree-shorter e h.1 h.3 h.4))))
  arguments_found (atom a es) head i zero all rest h enough =
      absurd (omega (arith, enough, arguments-shorter (atom a es) head i all rest h))
  arguments_found (atom a es) head i (suc k) all rest h enough =
      argument_found k head i all (h.1.word ∷ h.0) rest (atom a es) h.1.words
      (atom_found (readers k) (kind_at head i) ((readers k).arguments_at head (suc i)) h.1.word h.0 a h.1.is
      ∙ ap (atom_before (Some a)) (arguments_found es head (suc i) k h.0 rest h.2 (omega (arith, enough, lead_longer i all (h.1.word ∷ h.0) h.1.words))))

-- all words are a tree exactly where it is found with nothing left
pub whole-found : (e : Tree) (all : List (List ℕ)) → SpellsTree e all [] → (readers (length all)).tree_at all ≡ Some (e, [])
whole-found e all h = tree_found e (length all) all [] h (omega arith)

pub found-sound : (e : Tree) (all rest : List (List ℕ)) (k : ℕ) → (readers k).tree_at all ≡ Some (e, rest) → SpellsTree e all rest
found-sound e all rest k h = (sound k).tree all rest e h
