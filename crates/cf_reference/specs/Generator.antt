use Rattle.std.specs.Prelude.{ℕ, zero, suc, ◌+◌, ◌-◌, ◌*◌, ◌/◌, ◌%◌, ◌^◌, List, [], ◌∷◌, ◌++◌, map, decimal, codes, slice_index_or}
use Rattle.std.specs.List.{flat_map, range_with_len}
use Rattle.cf_reference.specs.Bytes as byte

-- Generated scripts. The functions in them are drawn by a linear congruential generator, whose seed is the first state.

abbrev pub multiplier : ℕ
multiplier = 6364136223846793005

abbrev pub increment : ℕ
increment = 1442695040888963407

-- the recurrence of the generator
abbrev pub next_state : ℕ → ℕ
next_state state = (state * multiplier + increment) % 2 ^ 64

-- the state after so many draws
unfoldable pub state_after : ℕ → ℕ → ℕ
state_after seed zero = seed
state_after seed (suc draws) = next_state (state_after seed draws)

-- the number below a bound that is drawn with a state: its 31 high bits, modulo the bound
abbrev pub drawn : ℕ → ℕ → ℕ
drawn below state = state / 2 ^ 33 % below

-- The draw at a place, counted from 0, below a bound. It moves to the next state, and draws with that.
abbrev pub draw : ℕ → ℕ → ℕ → ℕ
draw seed place below = drawn below (state_after seed (suc place))

-- the operations, by their numbers
abbrev pub operations : List (List ℕ)
operations = codes "and" ∷ codes "or" ∷ codes "xor" ∷ codes "eq" ∷ codes "lt" ∷ []

abbrev pub operation : ℕ → List ℕ
operation number = slice_index_or operations number []

-- the line for function i that calls an operation on functions a and b
abbrev pub call_line : ℕ → List ℕ → ℕ → ℕ → List ℕ
call_line i word a b =
    codes "let f" ++ decimal i ++ codes " = " ++ word
    ++ codes "(f" ++ decimal a ++ codes ",f" ++ decimal b ++ codes ")"

-- the line for function i that is variable i
abbrev pub variable_line : ℕ → List ℕ
variable_line i = codes "let f" ++ decimal i ++ codes " = v" ++ decimal i

-- how many functions are variables, and how many behind them are drawn
abbrev pub variable_count : ℕ
variable_count = 12

abbrev pub drawn_count : ℕ
drawn_count = 270

-- The line for function i that is drawn. Each has three draws in order: for its operation, and for two functions before it.
unfoldable pub drawn_line : ℕ → ℕ → List ℕ
drawn_line seed i =
    let first = 3 * (i - variable_count) in
    call_line i (operation (draw seed first 5)) (draw seed (first + 1) i) (draw seed (first + 2) i)

-- the lines for the first functions, which are variables
unfoldable pub variable_lines : ℕ → List (List ℕ)
variable_lines count = map variable_line (range_with_len 0 count)

-- the lines for the first functions that are drawn
unfoldable pub drawn_lines : ℕ → ℕ → List (List ℕ)
drawn_lines seed count = map (drawn_line seed) (range_with_len variable_count count)

abbrev pub opening : List (List ℕ)
opening = codes "level 7" ∷ codes "var v0 v1 v2 v3 v4 v5 v6 v7 v8 v9 v10 v11" ∷ []

-- what is asked of the last functions, of their sum, and of a Walsh matrix and its square
abbrev pub questions : List (List ℕ)
questions =
    codes "let s = plus(f274,f275,f276,f277,f278,f279,f280,f281)"
    ∷ codes "size s"
    ∷ codes "first s 0"
    ∷ codes "list s 1 4"
    ∷ codes "equal f280 f281"
    ∷ codes "size f281"
    ∷ codes "first f281 1"
    ∷ codes "let w = walsh(7)"
    ∷ codes "size w"
    ∷ codes "let p = matmul(w,w)"
    ∷ codes "let q = times(id(7),18446744073709551616)"
    ∷ codes "equal p q"
    ∷ codes "size p"
    ∷ codes "entry p 3 3"
    ∷ codes "entry p 3 4"
    ∷ codes "stats"
    ∷ []

-- lines, each ended by a newline
unfoldable pub text_of_lines : List (List ℕ) → List ℕ
text_of_lines lines = flat_map (λ line. line ++ byte.newline ∷ []) lines

-- The lines of the script of a seed.
unfoldable pub gen_lines : ℕ → List (List ℕ)
gen_lines seed = opening ++ (variable_lines variable_count ++ (drawn_lines seed drawn_count ++ questions))

-- The script of a seed.
unfoldable pub gen_script : ℕ → List ℕ
gen_script seed = text_of_lines (gen_lines seed)
