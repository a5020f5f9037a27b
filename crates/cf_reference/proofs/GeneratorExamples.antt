-- The generator of scripts, at the seed 1.
use Rattle.std.proofs.Common.{◌≡◌, ℕ, [], ◌∷◌, length, take, get_or, refl}
use Rattle.std.specs.Prelude.{codes}
use Rattle.std.specs.Fmt.{digits}
use Rattle.cf_reference.specs.Generator.{next_state, state_after, draw, operation, drawn_line, variable_lines, drawn_lines, gen_lines}

first_state : next_state 1 ≡ 7806831264735756412
first_state = refl

-- Three draws, of bounds so high that nothing is left out.
first_draws : draw 1 0 2147483648 ∷ draw 1 1 2147483648 ∷ draw 1 2 2147483648 ∷ [] ≡ 908834774 ∷ 1093944153 ∷ 1392341196 ∷ []
unfolding state_after
first_draws = refl

-- the draws for function 12: the operation, and then two functions before it
draws_of_12 : draw 1 0 5 ∷ draw 1 1 12 ∷ draw 1 2 12 ∷ [] ≡ 4 ∷ 9 ∷ 0 ∷ []
unfolding state_after
draws_of_12 = refl

last_operation : operation 4 ≡ codes "lt"
last_operation = refl

line_of_12 : drawn_line 1 12 ≡ codes "let f12 = lt(f9,f0)"
unfolding drawn_line state_after digits
line_of_12 = refl

-- the third function goes on with the draws behind those of two
line_of_14 : drawn_line 1 14 ≡ codes "let f14 = and(f10,f5)"
unfolding drawn_line state_after digits
line_of_14 = refl

last_variable : get_or (variable_lines 12) 11 [] ≡ codes "let f11 = v11"
unfolding variable_lines digits
last_variable = refl

-- whatever the seed
three_hundred_lines : (seed : ℕ) → length (gen_lines seed) ≡ 300
unfolding gen_lines variable_lines drawn_lines
three_hundred_lines seed = refl

first_two_lines : (seed : ℕ) → take 2 (gen_lines seed) ≡ codes "level 7" ∷ codes "var v0 v1 v2 v3 v4 v5 v6 v7 v8 v9 v10 v11" ∷ []
unfolding gen_lines
first_two_lines seed = refl

last_drawn : get_or (gen_lines 1) 283 [] ≡ codes "let f281 = xor(f87,f150)"
unfolding gen_lines variable_lines drawn_lines drawn_line state_after digits
last_drawn = refl
