-- Each line comes to what is worked out from it.
use Rattle.std.proofs.Common.{ℕ, zero, suc, ℤ, ◌≡◌, ◌+◌, ◌<◌, ◌==◌, ◌&&◌, ◌||◌, nat_le, Bool, true, false, cond, List, [], ◌∷◌, take, length, Option, Some, None, inl, inr, refl, ap, sym, ◌∙◌, arith}
use Rattle.std.specs.List.{list_all, count_by}
use Rattle.std.specs.Option.{option_map}
use Rattle.std.specs.Str.{bytes_eq}
use Rattle.std.proofs.lemmas.Slice.Eq.{bytes_eq-Decides}
use Rattle.std.proofs.lemmas.Bool.{and_parts, and_from, or_cases, leb-true, leb-false, le-leb}
use Rattle.cf_reference.specs.declared.grammar.Keyword.{Keyword}
use Rattle.cf_reference.specs.declared.grammar.Keyword.TheVariants as keyword
use Rattle.cf_reference.specs.Words.{before_comment, behind_word, words_of_line, equals, pieces, natural, number, is_name, is_bits}
use Rattle.cf_reference.specs.Trees.{Tree, Statement, Level, Vars, Let, Load, Value, First, Listed, Entry, Equal, Size, statement_fits}
use Rattle.cf_reference.specs.Grammar.{keyword_of, SpellsBehind, SpellsWords, Spells}
use Rattle.cf_reference.specs.LineRefusals.{Parsed, TooDeep, WideNumber, Good, IsDeep, Parses}
use Rattle.cf_reference.specs.Parsing.{TreeAt, readers, defined, listed, entry_of, loaded_from, behind, keyed, statement_at, some_prefix, is_deep, judged, parse, LinesParse}
use Rattle.cf_reference.proofs.GrammarLaws.{some_is}
use Rattle.cf_reference.proofs.ParsedLaws.{parse_once}
use Rattle.cf_reference.proofs.ParsingLaws.{whole-found, found-sound}

-- a test that chooses between a statement and none
tested : (t : Bool) (s u : Statement) → cond t (Some s) None ≡ Some u → (t ≡ true) × (u ≡ s)
tested true s u h = (refl, sym (some_is h))
tested false s u h = cc

mapped : (f : ℤ → Statement) (o : Option ℤ) (u : Statement) → option_map f o ≡ Some u → (n : ℤ) × (o ≡ Some n) × (u ≡ f n)
mapped f None u h = cc
mapped f (Some n) u h = (n, refl, sym (some_is h))

tested_map : (t : Bool) (f : ℤ → Statement) (o : Option ℤ) (u : Statement) → cond t (option_map f o) None ≡ Some u → (t ≡ true) × ((n : ℤ) × (o ≡ Some n) × (u ≡ f n))
tested_map true f o u h = (refl, mapped f o u h)
tested_map false f o u h = cc

-- what is found behind each keyword is spelled there
level_sound : (bytes : List ℕ) (all : List (List ℕ)) (t : Statement) → behind keyword.Level bytes all ≡ Some t → SpellsBehind keyword.Level t bytes all
level_sound bytes [] t h = cc
level_sound bytes (k ∷ []) t h = let m = mapped Level (natural k) t h in (k, m.0, refl, m.1, m.2)
level_sound bytes (k ∷ w ∷ all) t h = cc

vars_sound : (bytes : List ℕ) (all : List (List ℕ)) (t : Statement) → behind keyword.Var bytes all ≡ Some t → SpellsBehind keyword.Var t bytes all
vars_sound bytes all t h =
    let m = tested (nat_le 1 (length all) && list_all is_name all) (Vars all) t h in
    let both = and_parts (nat_le 1 (length all)) (list_all is_name all) m.0 in
    (both.0, both.1, m.1)

no_words : (all : List (List ℕ)) → nat_le 1 (length all) ≡ false → all ≡ []
no_words [] h = refl
no_words (word ∷ all) h = let l : length (word ∷ all) < 1 = leb-false 1 (length (word ∷ all)) h in absurd (omega arith)

defined_is : (name : List ℕ) (found : TreeAt) (t : Statement) → defined name found ≡ Some t → (e : Tree) × (found ≡ Some (e, [])) × (t ≡ Let name e)
defined_is name None t h = cc
defined_is name (Some found) t h = at (nat_le 1 (length found.1)) refl h
  where
    at : (b : Bool) → nat_le 1 (length found.1) ≡ b → cond b None (Some (Let name found.0)) ≡ Some t → (e : Tree) × (Some found ≡ Some (e, [])) × (t ≡ Let name e)
    at true is k = cc
    at false is k = (found.0, ap (λ (l : List (List ℕ)). Some (found.0, l)) (no_words found.1 is), sym (some_is k))

let_sound : (bytes : List ℕ) (all : List (List ℕ)) (t : Statement) → behind keyword.Let bytes all ≡ Some t → SpellsBehind keyword.Let t bytes all
let_sound bytes [] t h = cc
let_sound bytes (name ∷ []) t h = cc
let_sound bytes (name ∷ sign ∷ rest) t h = at (is_name name) (bytes_eq sign equals) refl refl h
  where
    at : (x y : Bool) → is_name name ≡ x → bytes_eq sign equals ≡ y → cond (x && y) (defined name ((readers (length rest)).tree_at rest)) None ≡ Some t → SpellsBehind keyword.Let t bytes (name ∷ sign ∷ rest)
    at true true named is k =
        let d = defined_is name ((readers (length rest)).tree_at rest) t k in
        (name, d.0, rest, ap (λ w. name ∷ w ∷ rest) ((bytes_eq-Decides sign equals).0 is), named, found-sound d.0 rest [] (length rest) d.1, d.2)
    at true false named is k = cc
    at false y named is k = cc

load_sound : (bytes : List ℕ) (all : List (List ℕ)) (t : Statement) → behind keyword.Load bytes all ≡ Some t → SpellsBehind keyword.Load t bytes all
load_sound bytes all t h = at (pieces bytes) refl h
  where
    at : (ps : List (List ℕ)) → pieces bytes ≡ ps → loaded_from ps ≡ Some t → SpellsBehind keyword.Load t bytes all
    at [] is k = cc
    at (prefix ∷ []) is k = cc
    at (prefix ∷ file ∷ []) is k = let m = tested (is_name prefix) (Load prefix file) t k in (prefix, file, is, m.0, m.1)
    at (prefix ∷ file ∷ more ∷ rest) is k = cc

value_sound : (bytes : List ℕ) (all : List (List ℕ)) (t : Statement) → behind keyword.Value bytes all ≡ Some t → SpellsBehind keyword.Value t bytes all
value_sound bytes [] t h = cc
value_sound bytes (name ∷ []) t h = cc
value_sound bytes (name ∷ bits ∷ []) t h =
    let m = tested (is_name name && is_bits bits) (Value name bits) t h in
    let both = and_parts (is_name name) (is_bits bits) m.0 in
    (name, bits, refl, both.0, both.1, m.1)
value_sound bytes (name ∷ bits ∷ w ∷ all) t h = cc

first_sound : (bytes : List ℕ) (all : List (List ℕ)) (t : Statement) → behind keyword.First bytes all ≡ Some t → SpellsBehind keyword.First t bytes all
first_sound bytes [] t h = cc
first_sound bytes (name ∷ []) t h = cc
first_sound bytes (name ∷ v ∷ []) t h = let m = tested_map (is_name name) (First name) (number v) t h in (name, v, m.1.0, refl, m.0, m.1.1, m.1.2)
first_sound bytes (name ∷ v ∷ w ∷ all) t h = cc

listed_is : (name : List ℕ) (v m : Option ℤ) (t : Statement) → listed name v m ≡ Some t → (n : ℤ) × (most : ℤ) × (v ≡ Some n) × (m ≡ Some most) × (t ≡ Listed name n most)
listed_is name None m t h = cc
listed_is name (Some n) None t h = cc
listed_is name (Some n) (Some most) t h = (n, most, refl, refl, sym (some_is h))

list_sound : (bytes : List ℕ) (all : List (List ℕ)) (t : Statement) → behind keyword.List bytes all ≡ Some t → SpellsBehind keyword.List t bytes all
list_sound bytes [] t h = cc
list_sound bytes (name ∷ []) t h = cc
list_sound bytes (name ∷ v ∷ []) t h = cc
list_sound bytes (name ∷ v ∷ m ∷ []) t h = at (is_name name) refl h
  where
    at : (x : Bool) → is_name name ≡ x → cond x (listed name (number v) (natural m)) None ≡ Some t → SpellsBehind keyword.List t bytes (name ∷ v ∷ m ∷ [])
    at true named k = let l = listed_is name (number v) (natural m) t k in (name, v, m, l.0, l.1, refl, named, l.2, l.3, l.4)
    at false named k = cc
list_sound bytes (name ∷ v ∷ m ∷ w ∷ all) t h = cc

entry_is : (name : List ℕ) (r c : Option ℤ) (t : Statement) → entry_of name r c ≡ Some t → (row : ℤ) × (col : ℤ) × (r ≡ Some row) × (c ≡ Some col) × (t ≡ Entry name row col)
entry_is name None c t h = cc
entry_is name (Some row) None t h = cc
entry_is name (Some row) (Some col) t h = (row, col, refl, refl, sym (some_is h))

entry_sound : (bytes : List ℕ) (all : List (List ℕ)) (t : Statement) → behind keyword.Entry bytes all ≡ Some t → SpellsBehind keyword.Entry t bytes all
entry_sound bytes [] t h = cc
entry_sound bytes (name ∷ []) t h = cc
entry_sound bytes (name ∷ r ∷ []) t h = cc
entry_sound bytes (name ∷ r ∷ c ∷ []) t h = at (is_name name) refl h
  where
    at : (x : Bool) → is_name name ≡ x → cond x (entry_of name (natural r) (natural c)) None ≡ Some t → SpellsBehind keyword.Entry t bytes (name ∷ r ∷ c ∷ [])
    at true named k = let l = entry_is name (natural r) (natural c) t k in (name, r, c, l.0, l.1, refl, named, l.2, l.3, l.4)
    at false named k = cc
entry_sound bytes (name ∷ r ∷ c ∷ w ∷ all) t h = cc

equal_sound : (bytes : List ℕ) (all : List (List ℕ)) (t : Statement) → behind keyword.Equal bytes all ≡ Some t → SpellsBehind keyword.Equal t bytes all
equal_sound bytes [] t h = cc
equal_sound bytes (name ∷ []) t h = cc
equal_sound bytes (name ∷ other ∷ []) t h =
    let m = tested (is_name name && is_name other) (Equal name other) t h in
    let both = and_parts (is_name name) (is_name other) m.0 in
    (name, other, refl, both.0, both.1, m.1)
equal_sound bytes (name ∷ other ∷ w ∷ all) t h = cc

size_sound : (bytes : List ℕ) (all : List (List ℕ)) (t : Statement) → behind keyword.Size bytes all ≡ Some t → SpellsBehind keyword.Size t bytes all
size_sound bytes [] t h = cc
size_sound bytes (name ∷ []) t h = let m = tested (is_name name) (Size name) t h in (name, refl, m.0, m.1)
size_sound bytes (name ∷ w ∷ all) t h = cc

stats_sound : (bytes : List ℕ) (all : List (List ℕ)) (t : Statement) → behind keyword.Stats bytes all ≡ Some t → SpellsBehind keyword.Stats t bytes all
stats_sound bytes [] t h = (refl, sym (some_is h))
stats_sound bytes (w ∷ all) t h = cc

behind_sound : (key : Keyword) (bytes : List ℕ) (all : List (List ℕ)) (t : Statement) → behind key bytes all ≡ Some t → SpellsBehind key t bytes all
behind_sound keyword.Level bytes all t h = level_sound bytes all t h
behind_sound keyword.Var bytes all t h = vars_sound bytes all t h
behind_sound keyword.Let bytes all t h = let_sound bytes all t h
behind_sound keyword.Load bytes all t h = load_sound bytes all t h
behind_sound keyword.Value bytes all t h = value_sound bytes all t h
behind_sound keyword.First bytes all t h = first_sound bytes all t h
behind_sound keyword.List bytes all t h = list_sound bytes all t h
behind_sound keyword.Entry bytes all t h = entry_sound bytes all t h
behind_sound keyword.Equal bytes all t h = equal_sound bytes all t h
behind_sound keyword.Size bytes all t h = size_sound bytes all t h
behind_sound keyword.Stats bytes all t h = stats_sound bytes all t h

-- what is spelled behind a keyword is found there
chosen : (t : Bool) (s : Statement) → t ≡ true → cond t (Some s) None ≡ Some s
chosen t s is = ap (λ b. cond b (Some s) None) is

behind_found : (key : Keyword) (bytes : List ℕ) (all : List (List ℕ)) (t : Statement) → SpellsBehind key t bytes all → behind key bytes all ≡ Some t
behind_found keyword.Level bytes all t h = ap (behind keyword.Level bytes) h.2 ∙ ap (option_map Level) h.3 ∙ ap Some (sym h.4)
behind_found keyword.Var bytes all t h = chosen (nat_le 1 (length all) && list_all is_name all) (Vars all) (and_from (nat_le 1 (length all)) (list_all is_name all) h.0 h.1) ∙ ap Some (sym h.2)
behind_found keyword.Let bytes all t h =
    ap (behind keyword.Let bytes) h.3 ∙ ap (λ b. cond (b && true) (defined h.0 ((readers (length h.2)).tree_at h.2)) None) h.4 ∙ ap (defined h.0) (whole-found h.1 h.2 h.5) ∙ ap Some (sym h.6)
behind_found keyword.Load bytes all t h = ap loaded_from h.2 ∙ chosen (is_name h.0) (Load h.0 h.1) h.3 ∙ ap Some (sym h.4)
behind_found keyword.Value bytes all t h = ap (behind keyword.Value bytes) h.2 ∙ chosen (is_name h.0 && is_bits h.1) (Value h.0 h.1) (and_from (is_name h.0) (is_bits h.1) h.3 h.4) ∙ ap Some (sym h.5)
behind_found keyword.First bytes all t h =
    ap (behind keyword.First bytes) h.3 ∙ ap (λ b. cond b (option_map (First h.0) (number h.1)) None) h.4 ∙ ap (option_map (First h.0)) h.5 ∙ ap Some (sym h.6)
behind_found keyword.List bytes all t h =
    ap (behind keyword.List bytes) h.5 ∙ ap (λ b. cond b (listed h.0 (number h.1) (natural h.2)) None) h.6 ∙ ap (λ o. listed h.0 o (natural h.2)) h.7 ∙ ap (listed h.0 (Some h.3)) h.8 ∙ ap Some (sym h.9)
behind_found keyword.Entry bytes all t h =
    ap (behind keyword.Entry bytes) h.5 ∙ ap (λ b. cond b (entry_of h.0 (natural h.1) (natural h.2)) None) h.6 ∙ ap (λ o. entry_of h.0 o (natural h.2)) h.7 ∙ ap (entry_of h.0 (Some h.3)) h.8 ∙ ap Some (sym h.9)
behind_found keyword.Equal bytes all t h = ap (behind keyword.Equal bytes) h.2 ∙ chosen (is_name h.0 && is_name h.1) (Equal h.0 h.1) (and_from (is_name h.0) (is_name h.1) h.3 h.4) ∙ ap Some (sym h.5)
behind_found keyword.Size bytes all t h = ap (behind keyword.Size bytes) h.1 ∙ chosen (is_name h.0) (Size h.0) h.2 ∙ ap Some (sym h.3)
behind_found keyword.Stats bytes all t h = ap (behind keyword.Stats bytes) h.0 ∙ ap Some (sym h.1)

words_sound : (text : List ℕ) (all : List (List ℕ)) (t : Statement) → statement_at text all ≡ Some t → SpellsWords t text all
unfolding statement_at
words_sound text [] t h = sym (some_is h)
words_sound text (word ∷ all) t h = at (keyword_of word) refl h
  where
    at : (o : Option Keyword) → keyword_of word ≡ o → keyed o (behind_word text) all ≡ Some t → SpellsWords t text (word ∷ all)
    at None is k = cc
    at (Some key) is k = (key, is, behind_sound key (behind_word text) all t k)

words_found : (text : List ℕ) (all : List (List ℕ)) (t : Statement) → SpellsWords t text all → statement_at text all ≡ Some t
unfolding statement_at
words_found text [] t h = ap Some (sym h)
words_found text (word ∷ all) t h =
    ap (λ o. keyed o (behind_word text) all) h.1 ∙ behind_found h.0 (behind_word text) all t h.2

-- some prefix is the first n bytes for some n
prefix_sound : (test : List ℕ → Bool) (text : List ℕ) → some_prefix test text ≡ true → (n : ℕ) × (test (take n text) ≡ true)
prefix_sound test [] h = (0, h)
prefix_sound test (b ∷ rest) h = elim (or_cases (test []) (some_prefix (λ front. test (b ∷ front)) rest) h) [
  | inl here ↦ (0, here)
  | inr later ↦ (let p = prefix_sound (λ front. test (b ∷ front)) rest later in (suc p.0, p.1))
]

either : (x y : Bool) → y ≡ true → (x || y) ≡ true
either true y h = refl
either false y h = h

prefix_found : (test : List ℕ → Bool) (text : List ℕ) (n : ℕ) → test (take n text) ≡ true → some_prefix test text ≡ true
prefix_found test [] zero h = h
prefix_found test [] (suc n) h = h
prefix_found test (b ∷ rest) zero h = ap (λ t. t || some_prefix (λ front. test (b ∷ front)) rest) h
prefix_found test (b ∷ rest) (suc n) h = either (test []) (some_prefix (λ front. test (b ∷ front)) rest) (prefix_found (λ front. test (b ∷ front)) rest n h)

deep_sound : (text : List ℕ) → is_deep text ≡ true → IsDeep text
unfolding is_deep
deep_sound text h =
    let p = prefix_sound (λ front. nat_le (count_by (λ b. b == 41) front + 65) (count_by (λ b. b == 40) front)) text h in
    (p.0, leb-true _ _ p.1)

deep_found : (text : List ℕ) → IsDeep text → is_deep text ≡ true
unfolding is_deep
deep_found text h =
    prefix_found (λ front. nat_le (count_by (λ b. b == 41) front + 65) (count_by (λ b. b == 40) front)) text h.0 (le-leb _ _ h.1)

pub lines_parse : LinesParse
lines_parse line = at (is_deep (before_comment line)) refl (statement_at (before_comment line) (words_of_line line)) refl
  where
    shallow : is_deep (before_comment line) ≡ false → IsDeep (before_comment line) → ⊥
    shallow is deep = let e : true ≡ false = sym (deep_found (before_comment line) deep) ∙ is in cc

    fitting : (t : Statement) → is_deep (before_comment line) ≡ false → Spells line t → (b : Bool) → statement_fits t ≡ b → Parses line (cond b (Good t) WideNumber)
    fitting t is spelled true fit = (shallow is, spelled, fit)
    fitting t is spelled false fit = (shallow is, (t, spelled, fit))

    at : (d : Bool) → is_deep (before_comment line) ≡ d → (o : Option Statement) → statement_at (before_comment line) (words_of_line line) ≡ o → Parses line (cond d TooDeep (judged o))
    at true is o e = deep_sound (before_comment line) is
    at false is None e = (shallow is, λ t h. let k : None ≡ Some t = sym e ∙ words_found (before_comment line) (words_of_line line) t h.words in cc)
    at false is (Some t) e = fitting t is (record { words = words_sound (before_comment line) (words_of_line line) t e }) (statement_fits t) refl

-- what a line comes to by the grammar is what is worked out
pub parse-is : (line : List ℕ) (p : Parsed) → Parses line p → parse line ≡ p
parse-is line p h = parse_once line (parse line) p (lines_parse line) h
