use Rattle.std.specs.Prelude.{ℕ, ◌&&◌, ◌^◌, nat_le, nat_lt, List, [], ◌∷◌, length}
use Rattle.std.specs.Prelude.{Option, Some, None, if◌then◌else◌, codes}
use Rattle.std.specs.Char.{is_ascii_digit}
use Rattle.std.specs.List.{list_all}
use Rattle.std.specs.Option.{option_map}
use Rattle.std.specs.Str.{bytes_eq}
use Rattle.cf_reference.specs.Words.{decimal_value}

-- The words of a command line.

-- what a command line asks for
pub data Form : Type 0 where
  -- the script of the source is carried out
  Run : Form
  -- the script of a seed is carried out
  Generated : ℕ → Form

-- The seed that a word spells: one decimal digit or more, without a sign, whose value is below
-- 2^64. Leading zeros are allowed.
unfoldable pub seed_of : List ℕ → Option ℕ
seed_of word =
    if nat_le 1 (length word) && (list_all is_ascii_digit word && nat_lt (decimal_value word) (2 ^ 64))
    then Some (decimal_value word)
    else None

-- what these words ask for; other words than `run` and `gen N` have no form
abbrev pub form_of : List (List ℕ) → Option Form
form_of (word ∷ []) = if bytes_eq word (codes "run") then Some Run else None
form_of (word ∷ seed ∷ []) =
    if bytes_eq word (codes "gen") then option_map Generated (seed_of seed) else None
form_of others = None
