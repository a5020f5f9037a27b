use Rattle.std.specs.Prelude.{◌≡◌, ℕ, ℤ, ◌+◌, ◌*◌, ◌<◌, ◌^◌, ◌/◌, ◌%◌, List, [], ◌∷◌, slice_index_or as get_or}
use Rattle.std.proofs.Common.{sym, ap, ◌∙◌, div-add-mod'}
use Rattle.std.proofs.lemmas.Int.{to_z-of_z}
use mir.Val.{to_z}
use Rattle.std.specs.Int.{cast_unsigned}
use mir.Syntax.{w128}
use Rattle.cf_model.specs.Values.{Fits}
use Rattle.cf_table.specs.declared.BConn.{BConn}

-- A number that a word of 64 bits holds.
abbrev pub IsWord : ℕ → Type 0
IsWord x = x < 2 ^ 64

-- the key of a word: itself, then two zeros
abbrev pub word_key : ℕ → List ℕ
word_key x = x ∷ 0 ∷ 0 ∷ []

-- A pair of words.
abbrev pub IsPair : ℕ × ℕ → Type 0
IsPair p = IsWord p.0 × IsWord p.1

-- the key of a pair: its words, then a zero
abbrev pub pair_key : ℕ × ℕ → List ℕ
pair_key p = p.0 ∷ p.1 ∷ 0 ∷ []

-- Three words.
abbrev pub IsTriple : ℕ × ℕ × ℕ → Type 0
IsTriple t = IsWord t.0 × IsWord t.1 × IsWord t.2

-- the key of three words: themselves
abbrev pub triple_key : ℕ × ℕ × ℕ → List ℕ
triple_key t = t.0 ∷ t.1 ∷ t.2 ∷ []

-- the key of a value: the two halves of its 128 bits in two's complement, then a zero
abbrev pub value_key : ℤ → List ℕ
value_key z = cast_unsigned w128 z / 2 ^ 64 ∷ cast_unsigned w128 z % 2 ^ 64 ∷ 0 ∷ []

-- A B-connection whose numbers fit their words.
abbrev pub IsConnection : BConn → Type 0
IsConnection b = (b.«to».level < 2 ^ 8) × IsWord b.«to».at × IsWord b.ret.at

-- the key of a B-connection: its callee's level and place, and its return tuple's place
abbrev pub connection_key : BConn → List ℕ
connection_key b = b.«to».level ∷ b.«to».at ∷ b.ret.at ∷ []

-- the entry of a key
abbrev entry : List ℕ → ℕ → ℕ
entry key i = get_or key i 0

-- Two words with one key are equal.
pub word_keys_differ : (x y : ℕ) → IsWord x → IsWord y → word_key x ≡ word_key y → x ≡ y
word_keys_differ x y hx hy e = ap (λ (k : List ℕ). entry k 0) e

-- the pair of a key
abbrev pair_from : List ℕ → ℕ × ℕ
pair_from k = (entry k 0, entry k 1)

-- Two pairs with one key are equal.
pub pair_keys_differ : (x y : ℕ × ℕ) → IsPair x → IsPair y → pair_key x ≡ pair_key y → x ≡ y
pair_keys_differ x y hx hy e = ap pair_from e

-- the three words of a key
abbrev triple_from : List ℕ → ℕ × ℕ × ℕ
triple_from k = (entry k 0, entry k 1, entry k 2)

-- Two triples with one key are equal.
pub triple_keys_differ : (x y : ℕ × ℕ × ℕ) → IsTriple x → IsTriple y → triple_key x ≡ triple_key y → x ≡ y
triple_keys_differ x y hx hy e = ap triple_from e

-- the 128 bits of a key, as a number
abbrev bits_from : List ℕ → ℕ
bits_from k = entry k 0 * 2 ^ 64 + entry k 1

-- Two values with one key are equal.
pub value_keys_differ : (x y : ℤ) → Fits x → Fits y → value_key x ≡ value_key y → x ≡ y
value_keys_differ x y hx hy e =
    let bits : cast_unsigned w128 x ≡ cast_unsigned w128 y = sym (div-add-mod' (cast_unsigned w128 x) (2 ^ 64)) ∙ ap bits_from e ∙ div-add-mod' (cast_unsigned w128 y) (2 ^ 64) in
    sym (to_z-of_z w128 x hx) ∙ ap (to_z w128) bits ∙ to_z-of_z w128 y hy

-- the B-connection of a key
abbrev connection_from : List ℕ → BConn
connection_from k = record { «to» = record { level = entry k 0; at = entry k 1 }; ret = record { at = entry k 2 } }

-- Two B-connections with one key are equal.
pub connection_keys_differ : (x y : BConn) → IsConnection x → IsConnection y → connection_key x ≡ connection_key y → x ≡ y
connection_keys_differ x y hx hy e = ap connection_from e
