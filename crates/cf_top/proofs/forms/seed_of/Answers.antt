use Rattle.std.proofs.Common.{◌≡◌, List, ℕ, true, false, sym, ◌∙◌, subst}
use Rattle.std.specs.Char.{is_ascii_digit}
use Rattle.std.specs.List.{list_all}
use Rattle.cf_top.proofs.SeedFacts.{seed-parsed, seed-none}
use Rattle.cf_top.proofs.forms.seed_of.Goals as goal

pub returns-then-are_digits : goal.returns-then-are_digits
returns-then-are_digits c =
    c.ok.ensures.value
    ∙ seed-parsed c.args.word.now _ c.parse.ensures.value.0
    (subst (λ (word : List ℕ). list_all is_ascii_digit word ≡ true) c.as_bytes.ensures.value (sym c.are_digits.ensures ∙ c.if-are_digits.true))

pub returns-else-are_digits : goal.returns-else-are_digits
returns-else-are_digits c =
    seed-none c.args.word.now
    (subst (λ (word : List ℕ). list_all is_ascii_digit word ≡ false) c.as_bytes.ensures.value (sym c.are_digits.ensures ∙ c.if-are_digits.false))
