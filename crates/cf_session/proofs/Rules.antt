-- Calls that no rule refuses.
use Rattle.std.proofs.Common.{ℕ, ◌≡◌, ◌≤◌, ◌^◌, ◌&&◌, Bool, true, List, Option, None, ap, ◌∙◌, arith}
use Rattle.std.specs.Prelude.{nat_le}
use Rattle.std.specs.List.{list_all}
use Rattle.std.specs.Option.{option_or}
use Rattle.std.proofs.lemmas.Bool.Decides.{nat_tests}
use Rattle.cf_reference.specs.declared.grammar.Head.{Head}
use Rattle.cf_reference.specs.Reasons.{LevelsDiffer, BadLevel, OutOfRange, unless}
use Rattle.cf_reference.specs.States.{is_below}
use Rattle.cf_reference.specs.Calls.{Meant, levels, positions, common, are_equal, exact, least, has_level, own_rule, call_refusal}

is_le : (m n : ℕ) → m ≤ n → nat_le m n ≡ true
is_le m n h = grind (arith, nat_tests)

pub level_there : (head : Head) (l : ℕ) → least head ≤ l → l ≤ 7 → has_level head l ≡ true
level_there head l high low = ap (λ b. b && nat_le l 7) (is_le (least head) l high) ∙ is_le l 7 low

-- a call whose level is that of its functions
pub level_here : (head : Head) (k l : ℕ) → k ≡ l → least head ≤ l → l ≤ 7 → has_level head k ≡ true
level_here head k l is high low = ap (has_level head) is ∙ level_there head l high low

pub rules_go : (head : Head) (args : List Meant) → are_equal (levels args) ≡ true → list_all (λ i. is_below i (2 ^ common (levels args))) (positions args) ≡ true
    → has_level head (exact head args).level ≡ true → own_rule head args ≡ None → call_refusal head args ≡ None
rules_go head args equal inside ranged own =
    let placed = list_all (λ i. is_below i (2 ^ common (levels args))) (positions args) in
    let there = has_level head (exact head args).level in
    ap (λ b. option_or (unless b LevelsDiffer) (option_or (unless placed OutOfRange) (option_or (unless there BadLevel) (own_rule head args)))) equal
    ∙ ap (λ b. option_or (unless b OutOfRange) (option_or (unless there BadLevel) (own_rule head args))) inside
    ∙ ap (λ b. option_or (unless b BadLevel) (own_rule head args)) ranged
    ∙ own
