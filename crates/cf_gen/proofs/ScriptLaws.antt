-- Lines one after another, and the draws for each.
use Rattle.std.proofs.Common.{ℕ, zero, suc, ◌≡◌, ◌+◌, ◌-◌, ◌*◌, ◌≤◌, List, [], ◌∷◌, ◌++◌, map, refl, ap, sym, ◌∙◌, append_assoc, append-nil, add-one, arith}
use Rattle.std.specs.List.{range_with_len}
use Rattle.std.proofs.lemmas.Grind.{flat_map-append}
use Rattle.std.proofs.lemmas.List.{map-append}
use Rattle.cf_reference.specs.Generator.{next_state, state_after, drawn, draw, operation, call_line, variable_line, drawn_line, variable_lines, drawn_lines, opening, questions, text_of_lines, gen_lines, gen_script}

text_of_lines-append : (xs ys : List (List ℕ)) → text_of_lines (xs ++ ys) ≡ text_of_lines xs ++ text_of_lines ys
unfolding text_of_lines
text_of_lines-append xs ys = flat_map-append (λ line. line ++ 10 ∷ []) xs ys

text_of_lines-single : (line : List ℕ) → text_of_lines (line ∷ []) ≡ line ++ 10 ∷ []
unfolding text_of_lines
text_of_lines-single line = append-nil (line ++ 10 ∷ [])

range-more : (n a : ℕ) → range_with_len a (suc n) ≡ range_with_len a n ++ (a + n) ∷ []
range-more zero a = let e : a ≡ a + 0 = omega arith in ap (λ x. x ∷ []) e
range-more (suc n) a =
    let e : a + 1 + n ≡ a + suc n = omega arith in
    ap (λ l. a ∷ l) (range-more n (a + 1) ∙ ap (λ x. range_with_len (a + 1) n ++ x ∷ []) e)

-- the text of one more line
text-more : (f : ℕ → List ℕ) (a n : ℕ)
    → text_of_lines (map f (range_with_len a (suc n)))
    ≡ text_of_lines (map f (range_with_len a n)) ++ (f (a + n) ++ 10 ∷ [])
text-more f a n =
    ap (λ numbers. text_of_lines (map f numbers)) (range-more n a)
    ∙ ap text_of_lines (map-append f (range_with_len a n) ((a + n) ∷ []))
    ∙ text_of_lines-append (map f (range_with_len a n)) (f (a + n) ∷ [])
    ∙ ap (λ text. text_of_lines (map f (range_with_len a n)) ++ text) (text_of_lines-single (f (a + n)))

pub no_variables : text_of_lines (variable_lines 0) ≡ []
unfolding text_of_lines variable_lines
no_variables = refl

pub variable_lines-more : (i : ℕ)
    → text_of_lines (variable_lines (i + 1)) ≡ text_of_lines (variable_lines i) ++ (variable_line i ++ 10 ∷ [])
unfolding variable_lines
variable_lines-more i =
    let e : 0 + i ≡ i = omega arith in
    ap (λ n. text_of_lines (map variable_line (range_with_len 0 n))) (add-one i)
    ∙ text-more variable_line 0 i
    ∙ ap (λ n. text_of_lines (map variable_line (range_with_len 0 i)) ++ (variable_line n ++ 10 ∷ [])) e

pub none_drawn : (seed : ℕ) → text_of_lines (drawn_lines seed 0) ≡ []
unfolding text_of_lines drawn_lines
none_drawn seed = refl

pub drawn_lines-more : (seed i : ℕ) (line : List ℕ) → 12 ≤ i → line ≡ drawn_line seed i
    → text_of_lines (drawn_lines seed (i + 1 - 12)) ≡ text_of_lines (drawn_lines seed (i - 12)) ++ (line ++ 10 ∷ [])
unfolding drawn_lines
drawn_lines-more seed i line low is =
    let next : i + 1 - 12 ≡ suc (i - 12) = omega arith in
    let e : 12 + (i - 12) ≡ i = omega arith in
    let before = text_of_lines (map (drawn_line seed) (range_with_len 12 (i - 12))) in
    ap (λ n. text_of_lines (map (drawn_line seed) (range_with_len 12 n))) next
    ∙ text-more (drawn_line seed) 12 (i - 12)
    ∙ ap (λ l. before ++ (l ++ 10 ∷ [])) (ap (drawn_line seed) e ∙ sym is)

-- the state behind one more draw
state-next : (seed n s x : ℕ) → s ≡ state_after seed n → x ≡ next_state s → x ≡ state_after seed (suc n)
unfolding state_after
state-next seed n s x known step = step ∙ ap next_state known

-- the state behind the three draws for a function
pub states-more : (seed i s x y z : ℕ) → 12 ≤ i → s ≡ state_after seed (3 * (i - 12))
    → x ≡ next_state s → y ≡ next_state x → z ≡ next_state y
    → z ≡ state_after seed (3 * (i + 1 - 12))
states-more seed i s x y z low es ex ey ez =
    let first : ℕ = 3 * (i - 12) in
    let next : suc (suc (suc first)) ≡ 3 * (i + 1 - 12) = omega arith in
    let fx = state-next seed first s x es ex in
    let fy = state-next seed (suc first) x y fx ey in
    let fz = state-next seed (suc (suc first)) y z fy ez in
    fz ∙ ap (state_after seed) next

-- the line of a function by what is drawn for it
pub drawn_line-is : (seed i s x y z number a b : ℕ) (word : List ℕ) → s ≡ state_after seed (3 * (i - 12))
    → x ≡ next_state s → y ≡ next_state x → z ≡ next_state y
    → number ≡ drawn 5 x → word ≡ operation number → a ≡ drawn i y → b ≡ drawn i z
    → call_line i word a b ≡ drawn_line seed i
unfolding drawn_line
drawn_line-is seed i s x y z number a b word es ex ey ez en ew ea eb =
    let first : ℕ = 3 * (i - 12) in
    let second : suc first ≡ first + 1 = omega arith in
    let third : suc (suc first) ≡ first + 2 = omega arith in
    let fx = state-next seed first s x es ex in
    let fy = state-next seed (suc first) x y fx ey in
    let fz = state-next seed (suc (suc first)) y z fy ez in
    let hw : word ≡ operation (draw seed first 5) = ew ∙ ap operation (en ∙ ap (drawn 5) fx) in
    let ha : a ≡ draw seed (first + 1) i = ea ∙ ap (drawn i) fy ∙ ap (λ n. draw seed n i) second in
    let hb : b ≡ draw seed (first + 2) i = eb ∙ ap (drawn i) fz ∙ ap (λ n. draw seed n i) third in
    ap (λ w. call_line i w a b) hw
    ∙ ap (λ n. call_line i (operation (draw seed first 5)) n b) ha
    ∙ ap (λ n. call_line i (operation (draw seed first 5)) (draw seed (first + 1) i) n) hb

-- one more line behind a text
pub with_line : (old front line whole text new : List ℕ) → text ≡ old ++ front → new ≡ text ++ line
    → whole ≡ front ++ line → new ≡ old ++ whole
with_line old front line whole text new before step more =
    step ∙ ap (λ t. t ++ line) before ∙ append_assoc old front line ∙ ap (λ t. old ++ t) (sym more)

text_of_four : (a b c d : List (List ℕ))
    → text_of_lines (a ++ (b ++ (c ++ d))) ≡ text_of_lines a ++ text_of_lines b ++ text_of_lines c ++ text_of_lines d
text_of_four a b c d = simp (text_of_lines-append, append_assoc)

-- the script, part by part
pub gen_script-is : (seed : ℕ) (none opened named called whole : List ℕ) → none ≡ []
    → opened ≡ none ++ text_of_lines opening
    → named ≡ opened ++ text_of_lines (variable_lines 12)
    → called ≡ named ++ text_of_lines (drawn_lines seed 270)
    → whole ≡ called ++ text_of_lines questions
    → whole ≡ gen_script seed
unfolding gen_script gen_lines
gen_script-is seed none opened named called whole e0 e1 e2 e3 e4 =
    let f1 = e1 ∙ ap (λ t. t ++ text_of_lines opening) e0 in
    let f2 = e2 ∙ ap (λ t. t ++ text_of_lines (variable_lines 12)) f1 in
    let f3 = e3 ∙ ap (λ t. t ++ text_of_lines (drawn_lines seed 270)) f2 in
    e4 ∙ ap (λ t. t ++ text_of_lines questions) f3
    ∙ sym (text_of_four opening (variable_lines 12) (drawn_lines seed 270) questions)
