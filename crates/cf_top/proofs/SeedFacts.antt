-- The seed that a word of digits spells.
use Rattle.std.proofs.Common.{ℕ, ◌≡◌, ◌^◌, ◌+◌, ◌-◌, ◌*◌, ◌&&◌, Bool, true, false, cond, List, length, Option, Some, None, Result, Ok, Err, rules, refl, sym, ◌∙◌, ap, nat_le, nat_lt, fold}
use Rattle.std.proofs.lemmas.Str.Parse.{IsNumeralModel, numerals_by_fold, parse_digits}
use Rattle.std.specs.Char.{is_ascii_digit}
use Rattle.std.specs.List.{list_all}
use Rattle.std.specs.Result.{result_ok}
use Rattle.std.proofs.lemmas.Bool.{le-leb, leb-true, lt-ltb, ltb-true}
use Rattle.std.specs.Str.Parse.{ParsesUnsigned}
use Rattle.cf_reference.specs.Words.{decimal_value}
use Rattle.cf_reference.specs.Forms.{seed_of}

own : IsNumeralModel (λ ds. list_all is_ascii_digit ds ≡ true) decimal_value
own = numerals_by_fold _ (search rules) (λ n ds. fold (λ m digit. 10 * m + (digit - 48)) n ds) (search rules)

-- the three tests of a seed
seed-tests : (word : List ℕ) (some digits low : Bool) → nat_le 1 (length word) ≡ some
    → list_all is_ascii_digit word ≡ digits → nat_lt (decimal_value word) (2 ^ 64) ≡ low
    → seed_of word ≡ cond (some && (digits && low)) (Some (decimal_value word)) None
unfolding seed_of
seed-tests word some digits low e f g =
    let by : Bool → Option ℕ = λ holds. cond holds (Some (decimal_value word)) None in
    let small : Bool = nat_lt (decimal_value word) (2 ^ 64) in
    ap (λ b. by (b && (list_all is_ascii_digit word && small))) e
    ∙ ap (λ b. by (some && (b && small))) f
    ∙ ap (λ b. by (some && (digits && b))) g

-- what `parse` makes of a word of digits
pub seed-parsed : {E : Type 0} (word : List ℕ) (r : Result ℕ E) → ParsesUnsigned 64 10 word r
    → list_all is_ascii_digit word ≡ true → result_ok r ≡ seed_of word
seed-parsed {E} word (Ok n) parses digits =
    let parsed = parse_digits own {E = E} 64 word (Ok n) parses digits in
    let some = le-leb 1 (length word) parsed.0.0 in
    let low = lt-ltb (decimal_value word) (2 ^ 64) parsed.0.1 in
    ap Some parsed.1 ∙ sym (seed-tests word true true true some digits low)
seed-parsed {E} word (Err error) parses digits =
    by (nat_le 1 (length word)) (nat_lt (decimal_value word) (2 ^ 64)) refl refl
  where
    by : (some low : Bool) → nat_le 1 (length word) ≡ some
        → nat_lt (decimal_value word) (2 ^ 64) ≡ low → None ≡ seed_of word
    by false low e g = sym (seed-tests word false true low e digits g)
    by true false e g = sym (seed-tests word true true false e digits g)
    by true true e g =
        let parsed = parse_digits own {E = E} 64 word (Err error) parses digits in
        absurd (parsed (leb-true 1 (length word) e, ltb-true (decimal_value word) (2 ^ 64) g))

-- other words spell no seed
pub seed-none : (word : List ℕ) → list_all is_ascii_digit word ≡ false → None ≡ seed_of word
seed-none word digits = by (nat_le 1 (length word)) refl
  where
    by : (some : Bool) → nat_le 1 (length word) ≡ some → None ≡ seed_of word
    by true e = sym (seed-tests word true false _ e digits refl)
    by false e = sym (seed-tests word false false _ e digits refl)
