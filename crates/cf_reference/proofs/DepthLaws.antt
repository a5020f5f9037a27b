-- Calls that stand inside one another are parentheses that are open at once.
use Rattle.std.proofs.Common.{ℕ, zero, suc, ◌≡◌, ◌+◌, ◌<◌, ◌≤◌, ◌==◌, ◌&&◌, ◌||◌, max, Bool, true, false, not, cond, List, [], ◌∷◌, ◌++◌, inl, inr, take, length, Option, Some, None, refl, ap, sym, subst, ◌∙◌, arith, append_assoc, length-append}
use Rattle.std.specs.List.{count_by}
use Rattle.std.specs.Str.{bytes_eq}
use Rattle.std.proofs.lemmas.Slice.Eq.{bytes_eq-Decides}
use Rattle.std.proofs.lemmas.Bool.Decides.{nat_tests}
use Rattle.std.proofs.lemmas.List.Sums.{sum_by-cons}
use Rattle.std.proofs.lemmas.Bool.{cases_lt, cases_Bool}
use Rattle.cf_reference.specs.declared.grammar.Keyword.TheVariants as keyword
use Rattle.cf_reference.specs.declared.grammar.Keyword.{Keyword}
use Rattle.cf_reference.specs.declared.grammar.Head.{Head}
use Rattle.cf_reference.specs.Heads.{Kind, AnExpression, AVariable, ANatural, ANumber, ABit, head_of, variable_head, matrix_head, kind_at}
use Rattle.cf_reference.specs.Words.{behind_word, before_comment, words, words_of_line, is_blank, is_sign, runs, begins_run, lengthen, open_sign, close_sign, comma, equals, natural, number, place, is_name}
use Rattle.cf_reference.specs.Trees.{Atom, Tree, Num, At, Named, Call, Arguments, none, more, atom, depth, depths, Statement, statement_depth, statement_fits, Formed}
use Rattle.cf_reference.specs.Grammar.{keyword_of, leaf, atom_of, lead, Calls, SpellsLeaf, SpellsEnd, SpellsTree, SpellsArguments, SpellsBehind, SpellsWords}
use Rattle.cf_reference.specs.LineRefusals.{IsDeep, LinesSpellFormedStatements}
use Rattle.cf_reference.proofs.FormedLaws.{formed_behind}

abbrev tell : Bool → ℕ
tell b = cond b 1 0

-- how many words of a list are `(`, and `)`
abbrev opened : List (List ℕ) → ℕ
opened [] = 0
opened (word ∷ all) = tell (bytes_eq word open_sign) + opened all

abbrev closed : List (List ℕ) → ℕ
closed [] = 0
closed (word ∷ all) = tell (bytes_eq word close_sign) + closed all

opened-append : (a b : List (List ℕ)) → opened (a ++ b) ≡ opened a + opened b
opened-append [] b = omega arith
opened-append (w ∷ a) b = let e = opened-append a b in omega arith

closed-append : (a b : List (List ℕ)) → closed (a ++ b) ≡ closed a + closed b
closed-append [] b = omega arith
closed-append (w ∷ a) b = let e = closed-append a b in omega arith

-- a word that is neither
record IsPlain (word : List ℕ) : Type 0 where
  opens : bytes_eq word open_sign ≡ false
  closes : bytes_eq word close_sign ≡ false

-- the word of a kind is plain, since the parentheses aren't of it
plain_by : {A : Type 0} (f : List ℕ → Option A) (word : List ℕ) (x : A) → f word ≡ Some x → f open_sign ≡ None → f close_sign ≡ None → IsPlain word
plain_by f word x some no_open no_close = record { opens = apart open_sign no_open; closes = apart close_sign no_close }
  where
    apart : (sign : List ℕ) → f sign ≡ None → bytes_eq word sign ≡ false
    apart sign nothing = elim (cases_Bool (bytes_eq word sign)) [
      | inl is ↦ (let e : None ≡ Some x = sym nothing ∙ (sym (ap f ((bytes_eq-Decides word sign).0 is)) ∙ some) in cc)
      | inr is ↦ is
    ]

leaf_plain : (word : List ℕ) (t : Tree) → leaf word ≡ Some t → IsPlain word
unfolding leaf number place natural is_name
leaf_plain word t h = plain_by leaf word t h refl refl

head_plain : (word : List ℕ) (head : Head) → head_of word ≡ Some head → IsPlain word
unfolding head_of variable_head matrix_head
head_plain word head h = plain_by head_of word head h refl refl

atom_plain : (kind : Kind) (word : List ℕ) (a : Atom) → atom_of kind word ≡ Some a → IsPlain word
unfolding atom_of place number natural is_name
atom_plain AnExpression word a h = plain_by (atom_of AnExpression) word a h refl refl
atom_plain AVariable word a h = plain_by (atom_of AVariable) word a h refl refl
atom_plain ANatural word a h = plain_by (atom_of ANatural) word a h refl refl
atom_plain ANumber word a h = plain_by (atom_of ANumber) word a h refl refl
atom_plain ABit word a h = plain_by (atom_of ABit) word a h refl refl

keyword_plain : (word : List ℕ) (k : Keyword) → keyword_of word ≡ Some k → IsPlain word
unfolding keyword_of
keyword_plain word k h = plain_by keyword_of word k h refl refl

abbrev named : List ℕ → Option (List ℕ)
named word = cond (is_name word) (Some word) None

name_plain : (word : List ℕ) → is_name word ≡ true → IsPlain word
unfolding is_name
name_plain word h = plain_by named word word (ap (λ t. cond t (Some word) None) h) refl refl

opened_plain : (word : List ℕ) (all : List (List ℕ)) → IsPlain word → opened (word ∷ all) ≡ opened all
opened_plain word all p = rw p.opens (omega arith)

closed_plain : (word : List ℕ) (all : List (List ℕ)) → IsPlain word → closed (word ∷ all) ≡ closed all
closed_plain word all p = rw p.closes (omega arith)

-- What was spelled closes `extra` more parentheses than it opens, and somewhere in it `d` more are open than before it.
record Shape (d extra : ℕ) (all rest : List (List ℕ)) : Type 0 where
  whole : List (List ℕ)
  consumed : all ≡ whole ++ rest
  balanced : closed whole ≡ opened whole + extra
  front : List (List ℕ)
  back : List (List ℕ)
  is : all ≡ front ++ back
  reaches : closed front + d ≤ opened front

leaf_shape : (t : Tree) (all rest : List (List ℕ)) → SpellsLeaf t all rest → Shape 0 0 all rest
leaf_shape t all rest h =
    let p = leaf_plain h.word t h.is in
    record {
      whole = h.word ∷ [];
      consumed = h.words;
      balanced = omega (arith, opened_plain h.word [] p, closed_plain h.word [] p);
      front = [];
      back = all;
      is = refl;
      reaches = omega arith;
    }

-- a word before
plain_before : (word : List ℕ) (d extra : ℕ) (all rest : List (List ℕ)) → IsPlain word → Shape d extra all rest → Shape d extra (word ∷ all) rest
plain_before word d extra all rest p s = record {
  whole = word ∷ s.whole;
  consumed = ap (λ l. word ∷ l) s.consumed;
  balanced = opened_balance;
  front = word ∷ s.front;
  back = s.back;
  is = ap (λ l. word ∷ l) s.is;
  reaches = omega (arith, opened_plain word s.front p, closed_plain word s.front p, s.reaches);
}
  where
    opened_balance : closed (word ∷ s.whole) ≡ opened (word ∷ s.whole) + extra
    opened_balance = omega (arith, opened_plain word s.whole p, closed_plain word s.whole p, s.balanced)

-- a call: its word and `(` before what ends in `)`
call_shape : (head : Head) (d : ℕ) (all inside rest : List (List ℕ)) → Calls head all inside → Shape d 1 inside rest → Shape (d + 1) 0 all rest
call_shape head d all inside rest h s =
    let p = head_plain h.word head h.is in
    record {
      whole = h.word ∷ open_sign ∷ s.whole;
      consumed = h.words ∙ ap (λ l. h.word ∷ open_sign ∷ l) s.consumed;
      balanced = omega (arith, opened_plain h.word (open_sign ∷ s.whole) p, closed_plain h.word (open_sign ∷ s.whole) p, s.balanced);
      front = h.word ∷ open_sign ∷ s.front;
      back = s.back;
      is = h.words ∙ ap (λ l. h.word ∷ open_sign ∷ l) s.is;
      reaches = omega (arith, opened_plain h.word (open_sign ∷ s.front) p, closed_plain h.word (open_sign ∷ s.front) p, s.reaches);
    }

close_shape : (all rest : List (List ℕ)) → all ≡ close_sign ∷ rest → Shape 0 1 all rest
close_shape all rest h = record { whole = close_sign ∷ []; consumed = h; balanced = refl; front = []; back = all; is = refl; reaches = omega arith }

end_shape : (i : ℕ) (all rest : List (List ℕ)) → SpellsEnd i all rest → Shape 0 1 all rest
end_shape zero all rest h = absurd h
end_shape (suc i) all rest h = close_shape all rest h

lead_shape : (i d extra : ℕ) (all after rest : List (List ℕ)) → all ≡ lead i ++ after → Shape d extra after rest → Shape d extra all rest
lead_shape zero d extra all after rest is s = subst (λ a. Shape d extra a rest) (sym is) s
lead_shape (suc i) d extra all after rest is s =
    subst (λ a. Shape d extra a rest) (sym is) (plain_before comma d extra after rest (record { opens = refl; closes = refl }) s)

-- one after the other
join_shape : (d e extra : ℕ) (all mid rest : List (List ℕ)) → Shape d 0 all mid → Shape e extra mid rest → Shape (max d e) extra all rest
join_shape d e extra all mid rest s t = elim (cases_lt d e) [ inl less ↦ later less | inr most ↦ first most ]
  where
    consumed : all ≡ (s.whole ++ t.whole) ++ rest
    consumed = s.consumed ∙ ap (λ l. s.whole ++ l) t.consumed ∙ sym (append_assoc s.whole t.whole rest)

    balanced : closed (s.whole ++ t.whole) ≡ opened (s.whole ++ t.whole) + extra
    balanced = omega (arith, closed-append s.whole t.whole, opened-append s.whole t.whole, s.balanced, t.balanced)

    later : d < e → Shape (max d e) extra all rest
    later less = record {
      whole = s.whole ++ t.whole;
      consumed = consumed;
      balanced = balanced;
      front = s.whole ++ t.front;
      back = t.back;
      is = s.consumed ∙ ap (λ l. s.whole ++ l) t.is ∙ sym (append_assoc s.whole t.front t.back);
      reaches = omega (arith, closed-append s.whole t.front, opened-append s.whole t.front, s.balanced, t.reaches, less);
    }

    first : e ≤ d → Shape (max d e) extra all rest
    first most = record {
      whole = s.whole ++ t.whole;
      consumed = consumed;
      balanced = balanced;
      front = s.front;
      back = s.back;
      is = s.is;
      reaches = omega (arith, s.reaches, most);
    }

mutual
  shape : (t : Tree) (all rest : List (List ℕ)) → SpellsTree t all rest → Shape (depth t) 0 all rest
  shape (Num n) all rest h = leaf_shape (Num n) all rest h
  shape (At n) all rest h = leaf_shape (At n) all rest h
  shape (Named name) all rest h = leaf_shape (Named name) all rest h
  shape (Call head es) all rest h = call_shape head (depths es) all h.0 rest h.1 (arguments_shape es head 0 h.0 rest h.3)

  arguments_shape : (es : Arguments) (head : Head) (i : ℕ) (all rest : List (List ℕ)) → SpellsArguments head i es all rest → Shape (depths es) 1 all rest
  arguments_shape none head i all rest h = end_shape i all rest h
  arguments_shape (more e es) head i all rest h =
      lead_shape i (depths (more e es)) 1 all h.1 rest h.2
      (join_shape (depth e) (depths es) 1 h.1 h.3 rest (shape e h.1 h.3 h.4) (arguments_shape es head (suc i) h.3 rest h.5))
  arguments_shape (atom a es) head i all rest h =
      lead_shape i (depths es) 1 all (h.1.word ∷ h.0) rest h.1.words
      (plain_before h.1.word (depths es) 1 h.0 rest (atom_plain (kind_at head i) h.1.word a h.1.is) (arguments_shape es head (suc i) h.0 rest h.2))

closes_one : (whole : List (List ℕ)) → closed whole ≡ opened whole + 1 → 1 ≤ length whole
closes_one [] e = absurd (omega (arith, e))
closes_one (word ∷ whole) e = omega arith

-- what comes after it is shorter than the words
pub arguments-shorter : (es : Arguments) (head : Head) (i : ℕ) (all rest : List (List ℕ)) → SpellsArguments head i es all rest → length rest < length all
arguments-shorter es head i all rest h =
    let s = arguments_shape es head i all rest h in
    omega (arith, ap length s.consumed, length-append s.whole rest, closes_one s.whole s.balanced)

pub tree-shorter : (t : Tree) (all rest : List (List ℕ)) → SpellsTree t all rest → length rest < length all
tree-shorter (Num n) all rest h = omega (arith, ap length h.words)
tree-shorter (At n) all rest h = omega (arith, ap length h.words)
tree-shorter (Named name) all rest h = omega (arith, ap length h.words)
tree-shorter (Call head es) all rest h = omega (arith, ap length h.1.words, arguments-shorter es head 0 h.0 rest h.3)

-- a front of bytes that has the parentheses of a front of words
record HasFront (text : List ℕ) (front : List (List ℕ)) : Type 0 where
  n : ℕ
  opened : count_by (λ b. b == 40) (take n text) ≡ opened front
  closed : count_by (λ b. b == 41) (take n text) ≡ closed front

no_front : (text : List ℕ) → HasFront text []
no_front text = record { n = 0; opened = refl; closed = refl }

counted : (sign b : ℕ) (text : List ℕ) → count_by (λ c. c == sign) (b ∷ text) ≡ tell (b == sign) + count_by (λ c. c == sign) text
counted sign b text = sum_by-cons (λ c. cond (c == sign) 1 0) b text

-- a byte before, which is no parenthesis
skip_front : (b : ℕ) (text : List ℕ) (front : List (List ℕ)) → (b == 40) ≡ false → (b == 41) ≡ false → HasFront text front → HasFront (b ∷ text) front
skip_front b text front no_open no_close f = record {
  n = suc f.n;
  opened = counted 40 b (take f.n text) ∙ rw no_open (omega (arith, f.opened));
  closed = counted 41 b (take f.n text) ∙ rw no_close (omega (arith, f.closed));
}

-- a byte before, which is a word
byte_front : (b : ℕ) (text : List ℕ) (front : List (List ℕ)) → HasFront text front → HasFront (b ∷ text) ((b ∷ []) ∷ front)
byte_front b text front f = record { n = suc f.n; opened = at 40 (opened front) f.opened; closed = at 41 (closed front) f.closed }
  where
    both : (t : Bool) (x y : ℕ) → x ≡ y → tell t + x ≡ tell (t && true) + y
    both true x y e = omega arith
    both false x y e = omega arith

    at : (sign m : ℕ) → count_by (λ c. c == sign) (take f.n text) ≡ m → count_by (λ c. c == sign) (b ∷ take f.n text) ≡ tell (bytes_eq (b ∷ []) (sign ∷ [])) + m
    at sign m e = counted sign b (take f.n text) ∙ both (b == sign) (count_by (λ c. c == sign) (take f.n text)) m e

run_sign : (b : ℕ) → runs b ≡ true → is_sign b ≡ false
run_sign b h = at (is_blank b) (is_sign b) h
  where
    at : (x y : Bool) → not (x || y) ≡ true → y ≡ false
    at true y k = cc
    at false true k = cc
    at false false k = refl

blank_byte : (b : ℕ) → is_blank b ≡ true → ((b == 40) ≡ false) × ((b == 41) ≡ false)
blank_byte b h = (grind (arith, nat_tests), grind (arith, nat_tests))

run_byte : (b : ℕ) → is_sign b ≡ false → ((b == 40) ≡ false) × ((b == 41) ≡ false)
run_byte b h = (grind (arith, nat_tests), grind (arith, nat_tests))

-- the first word of a text that begins a run is neither parenthesis
record IsLong (all : List (List ℕ)) : Type 0 where
  first : ℕ
  rest : List ℕ
  more_words : List (List ℕ)
  is : all ≡ (first ∷ rest) ∷ more_words
  opens : (first == 40) ≡ false
  closes : (first == 41) ≡ false

run_first : (text : List ℕ) → begins_run text ≡ true → IsLong (words text)
unfolding words
run_first [] h = cc
run_first (b ∷ text) h = at (is_blank b) (is_sign b) refl refl h
  where
    put : (b == 40) ≡ false → (b == 41) ≡ false → (t : Bool) (all : List (List ℕ)) → IsLong (cond t (lengthen b all) ((b ∷ []) ∷ all))
    put x y true [] = record { first = b; rest = []; more_words = []; is = refl; opens = x; closes = y }
    put x y true (w ∷ all) = record { first = b; rest = w; more_words = all; is = refl; opens = x; closes = y }
    put x y false all = record { first = b; rest = []; more_words = all; is = refl; opens = x; closes = y }

    at : (x y : Bool) → is_blank b ≡ x → is_sign b ≡ y → not (x || y) ≡ true → IsLong (cond x (words text) (cond y ((b ∷ []) ∷ words text) (cond (begins_run text) (lengthen b (words text)) ((b ∷ []) ∷ words text))))
    at true y is sign k = cc
    at false true is sign k = cc
    at false false is sign k = let r = run_byte b sign in put r.0 r.1 (begins_run text) (words text)

-- a byte before a word that is neither parenthesis, as its first byte
longer_front : (b : ℕ) (text : List ℕ) (front back : List (List ℕ)) → runs b ≡ true → begins_run text ≡ true → ((f : List (List ℕ)) → words text ≡ f ++ back → HasFront text f) → lengthen b (words text) ≡ front ++ back → HasFront (b ∷ text) front
longer_front b text [] back runs_b begins later is = no_front (b ∷ text)
longer_front b text (word ∷ front) back runs_b begins later is =
    let f = run_first text begins in
    let lengthened : (b ∷ f.first ∷ f.rest) ∷ f.more_words ≡ word ∷ (front ++ back) = sym (ap (lengthen b) f.is) ∙ is in
    let rest_is : f.more_words ≡ front ++ back = cc in
    let word_is : b ∷ f.first ∷ f.rest ≡ word = cc in
    let h = later ((f.first ∷ f.rest) ∷ front) (f.is ∙ ap (λ l. (f.first ∷ f.rest) ∷ l) rest_is) in
    let r = run_byte b (run_sign b runs_b) in
    subst (λ w. HasFront (b ∷ text) (w ∷ front)) word_is
    (skip_front b text ((b ∷ f.first ∷ f.rest) ∷ front) r.0 r.1 (record {
      n = h.n;
      opened = h.opened ∙ same f.first f.rest r.0 f.opens;
      closed = h.closed ∙ same_closed f.first f.rest r.1 f.closes;
    }))
  where
    same : (first : ℕ) (rest : List ℕ) → (b == 40) ≡ false → (first == 40) ≡ false → opened ((first ∷ rest) ∷ front) ≡ opened ((b ∷ first ∷ rest) ∷ front)
    same first rest x y = rw (x, y) refl

    same_closed : (first : ℕ) (rest : List ℕ) → (b == 41) ≡ false → (first == 41) ≡ false → closed ((first ∷ rest) ∷ front) ≡ closed ((b ∷ first ∷ rest) ∷ front)
    same_closed first rest x y = rw (x, y) refl

word_front : (b : ℕ) (text : List ℕ) (front back : List (List ℕ)) → ((f : List (List ℕ)) → words text ≡ f ++ back → HasFront text f) → (b ∷ []) ∷ words text ≡ front ++ back → HasFront (b ∷ text) front
word_front b text [] back later is = no_front (b ∷ text)
word_front b text (word ∷ front) back later is =
    let rest_is : words text ≡ front ++ back = cc in
    let word_is : b ∷ [] ≡ word = cc in
    subst (λ w. HasFront (b ∷ text) (w ∷ front)) word_is (byte_front b text front (later front rest_is))

words_front : (text : List ℕ) (front back : List (List ℕ)) → words text ≡ front ++ back → HasFront text front
unfolding words
words_front [] [] back is = no_front []
words_front [] (word ∷ front) back is = cc
words_front (b ∷ text) front back is = at (λ f. words_front text f back) (is_blank b) (is_sign b) (begins_run text) refl refl refl is
  where
    at : ((f : List (List ℕ)) → words text ≡ f ++ back → HasFront text f) → (x y z : Bool) → is_blank b ≡ x → is_sign b ≡ y → begins_run text ≡ z
        → cond x (words text) (cond y ((b ∷ []) ∷ words text) (cond z (lengthen b (words text)) ((b ∷ []) ∷ words text))) ≡ front ++ back → HasFront (b ∷ text) front
    at later true y z blank sign begins k = let r = blank_byte b blank in skip_front b text front r.0 r.1 (later front k)
    at later false true z blank sign begins k = word_front b text front back later k
    at later false false true blank sign begins k = longer_front b text front back (rw (blank, sign) refl) begins later k
    at later false false false blank sign begins k = word_front b text front back later k

-- where not more than 64 parentheses are open at once, no expression is deeper
depth_within : (t : Tree) (text : List ℕ) (before all rest : List (List ℕ)) → words text ≡ before ++ all → closed before ≡ opened before → SpellsTree t all rest → (IsDeep text → ⊥) → depth t ≤ 64
depth_within t text before all rest is even h shallow =
    let s = shape t all rest h in
    let f = words_front text (before ++ s.front) s.back (is ∙ ap (λ l. before ++ l) s.is ∙ sym (append_assoc before s.front s.back)) in
    elim (cases_lt 64 (depth t)) [
      | inl deep ↦ absurd (shallow (f.n, omega (arith, f.opened, f.closed, closed-append before s.front, opened-append before s.front, even, s.reaches, deep)))
      | inr most ↦ most
    ]

let_depth : (text word name : List ℕ) (e : Tree) (all rest : List (List ℕ)) → keyword_of word ≡ Some keyword.Let → words text ≡ word ∷ all → all ≡ name ∷ equals ∷ rest → is_name name ≡ true
    → SpellsTree e rest [] → (IsDeep text → ⊥) → depth e ≤ 64
let_depth text word name e all rest key is all_is name_is h shallow =
    let p = keyword_plain word keyword.Let key in
    let q = name_plain name name_is in
    let before : List (List ℕ) = word ∷ name ∷ equals ∷ [] in
    let o : opened before ≡ 0 = opened_plain word (name ∷ equals ∷ []) p ∙ opened_plain name (equals ∷ []) q in
    let c : closed before ≡ 0 = closed_plain word (name ∷ equals ∷ []) p ∙ closed_plain name (equals ∷ []) q in
    depth_within e text before rest [] (is ∙ ap (λ l. word ∷ l) all_is) (c ∙ sym o) h shallow

behind_depth : (text word : List ℕ) (key : Keyword) (t : Statement) (bytes : List ℕ) (all : List (List ℕ)) → keyword_of word ≡ Some key → words text ≡ word ∷ all → SpellsBehind key t bytes all → (IsDeep text → ⊥) → statement_depth t ≤ 64
behind_depth text word keyword.Level t bytes all of is h shallow = subst (λ u. statement_depth u ≤ 64) (sym h.4) (omega arith)
behind_depth text word keyword.Var t bytes all of is h shallow = subst (λ u. statement_depth u ≤ 64) (sym h.2) (omega arith)
behind_depth text word keyword.Let t bytes all of is h shallow =
    subst (λ u. statement_depth u ≤ 64) (sym h.6) (let_depth text word h.0 h.1 all h.2 of is h.3 h.4 h.5 shallow)
behind_depth text word keyword.Load t bytes all of is h shallow = subst (λ u. statement_depth u ≤ 64) (sym h.4) (omega arith)
behind_depth text word keyword.Value t bytes all of is h shallow = subst (λ u. statement_depth u ≤ 64) (sym h.5) (omega arith)
behind_depth text word keyword.First t bytes all of is h shallow = subst (λ u. statement_depth u ≤ 64) (sym h.6) (omega arith)
behind_depth text word keyword.List t bytes all of is h shallow = subst (λ u. statement_depth u ≤ 64) (sym h.9) (omega arith)
behind_depth text word keyword.Entry t bytes all of is h shallow = subst (λ u. statement_depth u ≤ 64) (sym h.9) (omega arith)
behind_depth text word keyword.Equal t bytes all of is h shallow = subst (λ u. statement_depth u ≤ 64) (sym h.5) (omega arith)
behind_depth text word keyword.Size t bytes all of is h shallow = subst (λ u. statement_depth u ≤ 64) (sym h.3) (omega arith)
behind_depth text word keyword.Stats t bytes all of is h shallow = subst (λ u. statement_depth u ≤ 64) (sym h.1) (omega arith)

-- a statement that some words spell is formed where its numbers fit and not more than 64 parentheses are open at once
pub words_formed : (text : List ℕ) (t : Statement) (all : List (List ℕ)) → words text ≡ all → SpellsWords t text all → statement_fits t ≡ true → (IsDeep text → ⊥) → Formed t
words_formed text t [] is h fit shallow = subst Formed (sym h) (record { parts = tt; shallow = omega arith })
words_formed text t (word ∷ all) is h fit shallow = record {
  parts = formed_behind h.0 t (behind_word text) all h.2 fit;
  shallow = behind_depth text word h.0 t (behind_word text) all h.1 is h.2 shallow;
}

pub formed_statements : LinesSpellFormedStatements
formed_statements line t h = words_formed (before_comment line) t (words_of_line line) refl h.1.words h.2 h.0
