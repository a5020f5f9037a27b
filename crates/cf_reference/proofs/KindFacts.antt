-- What a word of one kind isn't.
use Rattle.std.proofs.Common.{ℕ, ℤ, pos, neg_ℤ, ◌≡◌, ◌≤ℤ◌, ◌==◌, ◌&&◌, nat_le, Bool, true, false, cond, List, [], ◌∷◌, length, Option, Some, None, refl, ap, sym, subst, ◌∙◌, arith}
use Rattle.std.specs.Char.{is_ascii_digit}
use Rattle.std.specs.List.{list_all}
use Rattle.std.specs.Option.{option_map, option_or}
use Rattle.std.proofs.lemmas.Bool.{and_parts, eqb-true}
use Rattle.std.proofs.lemmas.Bool.Decides.{nat_tests}
use Rattle.std.proofs.lemmas.Int.{ints}
use Rattle.cf_reference.specs.Words.{begins_name, decimal_value, natural, number, place, is_name}
use Rattle.std.specs.Str.{bytes_eq}
use Rattle.std.proofs.lemmas.Slice.Eq.{bytes_eq-Decides}
use Rattle.cf_reference.specs.declared.grammar.Head.{Head}
use Rattle.cf_reference.specs.Heads.{value_table, variable_table, matrix_table, variable_head, matrix_head, found_in, head_of}
use Rattle.cf_reference.specs.Trees.{Num, At, Named}
use Rattle.cf_reference.specs.Grammar.{leaf, leaf_of_place, leaf_of_number}

-- the first byte of each kind
name_first : (b : ℕ) → begins_name b ≡ true → (is_ascii_digit b ≡ false) × ((b == 45) ≡ false) × ((b == 64) ≡ false)
name_first b h = (grind (arith, nat_tests), grind (arith, nat_tests), grind (arith, nat_tests))

digit_first : (b : ℕ) → is_ascii_digit b ≡ true → ((b == 45) ≡ false) × ((b == 64) ≡ false)
digit_first b h = (grind (arith, nat_tests), grind (arith, nat_tests))

natural_digit : (b : ℕ) (rest : List ℕ) (n : ℤ) → natural (b ∷ rest) ≡ Some n → is_ascii_digit b ≡ true
unfolding natural
natural_digit b rest n h = at (nat_le 1 (length (b ∷ rest))) (is_ascii_digit b) (list_all is_ascii_digit rest) h
  where
    at : (z x y : Bool) → cond (z && (x && y)) (Some (pos (decimal_value (b ∷ rest)))) None ≡ Some n → x ≡ true
    at true true y k = refl
    at true false y k = cc
    at false x y k = cc

natural_nil : natural [] ≡ None
unfolding natural
natural_nil = refl

no_digit : (b : ℕ) (rest : List ℕ) → is_ascii_digit b ≡ false → natural (b ∷ rest) ≡ None
no_digit b rest h = at (natural (b ∷ rest)) refl
  where
    at : (o : Option ℤ) → natural (b ∷ rest) ≡ o → o ≡ None
    at None e = refl
    at (Some n) e = let d : true ≡ false = sym (natural_digit b rest n e) ∙ h in cc

-- a NATURAL is not below 0
pub natural-low : (word : List ℕ) (n : ℤ) → natural word ≡ Some n → pos 0 ≤ℤ n
unfolding natural
natural-low word n h = at (nat_le 1 (length word) && list_all is_ascii_digit word) h
  where
    at : (t : Bool) → cond t (Some (pos (decimal_value word))) None ≡ Some n → pos 0 ≤ℤ n
    at true k = let e : pos (decimal_value word) ≡ n = cc in subst (λ z. pos 0 ≤ℤ z) e (omega (arith, ints))
    at false k = cc

-- a NATURAL is a NUMBER
pub natural-number : (word : List ℕ) (n : ℤ) → natural word ≡ Some n → number word ≡ Some n
unfolding number
natural-number [] n h = let e : None ≡ Some n = sym natural_nil ∙ h in cc
natural-number (b ∷ rest) n h =
    let d = digit_first b (natural_digit b rest n h) in
    rw d.0 h

-- a NUMBER is no position
pub number-place : (word : List ℕ) (n : ℤ) → number word ≡ Some n → place word ≡ None
unfolding number place
number-place [] n h = refl
number-place (b ∷ rest) n h = at (b == 64) refl
  where
    at : (t : Bool) → (b == 64) ≡ t → cond t (natural rest) None ≡ None
    at true is =
        let e : b ≡ 64 = eqb-true b 64 is in
        let k : natural (64 ∷ rest) ≡ Some n = subst (λ (x : ℕ). cond (x == 45) (option_map neg_ℤ (natural rest)) (natural (x ∷ rest)) ≡ Some n) e h in
        let d : false ≡ true = natural_digit 64 rest n k in
        cc
    at false is = refl

-- a NAME is neither
pub name-number : (word : List ℕ) → is_name word ≡ true → number word ≡ None
unfolding number is_name
name-number [] h = cc
name-number (b ∷ rest) h =
    let f = name_first b (and_parts (begins_name b) _ h).0 in
    rw f.1 (no_digit b rest f.0)

pub name-place : (word : List ℕ) → is_name word ≡ true → place word ≡ None
unfolding place is_name
name-place [] h = cc
name-place (b ∷ rest) h =
    let f = name_first b (and_parts (begins_name b) _ h).0 in
    rw f.2 refl

-- what each leaf says of its word
pub leaf-number : (word : List ℕ) (n : ℤ) → leaf word ≡ Some (Num n) → number word ≡ Some n
unfolding leaf
leaf-number word n h = at (number word) h
  where
    named : (t : Bool) → cond t (Some (Named word)) None ≡ Some (Num n) → ⊥
    named true k = cc
    named false k = cc

    placed : (o : Option ℤ) → leaf_of_place word o ≡ Some (Num n) → ⊥
    placed None k = named (is_name word) k
    placed (Some m) k = cc

    at : (o : Option ℤ) → leaf_of_number word o ≡ Some (Num n) → o ≡ Some n
    at None k = absurd (placed (place word) k)
    at (Some m) k = cc

pub leaf-place : (word : List ℕ) (n : ℤ) → leaf word ≡ Some (At n) → (number word ≡ None) × (place word ≡ Some n)
unfolding leaf
leaf-place word n h = at (number word) h
  where
    named : (t : Bool) → cond t (Some (Named word)) None ≡ Some (At n) → ⊥
    named true k = cc
    named false k = cc

    placed : (o : Option ℤ) → leaf_of_place word o ≡ Some (At n) → o ≡ Some n
    placed None k = absurd (named (is_name word) k)
    placed (Some m) k = cc

    at : (o : Option ℤ) → leaf_of_number word o ≡ Some (At n) → (o ≡ None) × (place word ≡ Some n)
    at None k = (refl, placed (place word) k)
    at (Some m) k = cc

pub leaf-name : (word name : List ℕ) → leaf word ≡ Some (Named name) → (number word ≡ None) × (place word ≡ None)
unfolding leaf
leaf-name word name h = at (number word) h
  where
    placed : (o : Option ℤ) → leaf_of_place word o ≡ Some (Named name) → o ≡ None
    placed None k = refl
    placed (Some m) k = cc

    at : (o : Option ℤ) → leaf_of_number word o ≡ Some (Named name) → (o ≡ None) × (place word ≡ None)
    at None k = (refl, placed (place word) k)
    at (Some m) k = cc

place_rest : (word : List ℕ) (n : ℤ) → place word ≡ Some n → (rest : List ℕ) × (natural rest ≡ Some n)
unfolding place
place_rest [] n h = cc
place_rest (b ∷ rest) n h = at (b == 64) h
  where
    at : (t : Bool) → cond t (natural rest) None ≡ Some n → (digits : List ℕ) × (natural digits ≡ Some n)
    at true k = (rest, k)
    at false k = cc

-- a position is not below 0
pub place-low : (word : List ℕ) (n : ℤ) → place word ≡ Some n → pos 0 ≤ℤ n
place-low word n h = let r = place_rest word n h in natural-low r.0 n r.1

-- each word of a table is a name
named_in : (entries : List (List ℕ × Head)) → list_all (λ entry. is_name entry.0) entries ≡ true → (word : List ℕ) (head : Head) → found_in entries word ≡ Some head
    → is_name word ≡ true
named_in [] names word head h = cc
named_in (entry ∷ later) names word head h =
    let both = and_parts (is_name entry.0) (list_all (λ e. is_name e.0) later) names in
    at (bytes_eq word entry.0) refl both.0 (named_in later both.1 word head) h
  where
    at : (t : Bool) → bytes_eq word entry.0 ≡ t → is_name entry.0 ≡ true → (found_in later word ≡ Some head → is_name word ≡ true)
        → cond t (Some entry.1) (found_in later word) ≡ Some head → is_name word ≡ true
    at true is name below k = ap is_name ((bytes_eq-Decides word entry.0).0 is) ∙ name
    at false is name below k = below k

pub head-name : (word : List ℕ) (head : Head) → head_of word ≡ Some head → is_name word ≡ true
unfolding head_of variable_head matrix_head is_name
head-name word head h = at (found_in value_table word) (found_in variable_table word) refl refl h
  where
    at : (o v : Option Head) → found_in value_table word ≡ o → found_in variable_table word ≡ v → option_or o (option_or v (found_in matrix_table word)) ≡ Some head → is_name word ≡ true
    at None None is also k = named_in matrix_table refl word head k
    at None (Some x) is also k = named_in variable_table refl word x also
    at (Some x) v is also k = named_in value_table refl word x is
