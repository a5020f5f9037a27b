use Rattle.std.proofs.Common.{◌≡◌, ℕ, zero, suc, ◌<◌, ◌≤◌, ◌+◌, ◌-◌, Bool, true, false, List, [], ◌∷◌, ◌++◌, map, length, get_or, refl, sym, ◌∙◌, ap, arith}
use Rattle.std.specs.Prelude.{if◌then◌else◌}
use Rattle.std.specs.List.{flat_map}
use Rattle.std.proofs.lemmas.List.{append-nil, map-id, get_or_append_left, get_or-append_right}
use Rattle.std.proofs.lemmas.List.Concat.{flat_map-append, flat_map_single}
use Rattle.std.proofs.lemmas.List.Folds.{flat_map-map}
use Rattle.cf_model.specs.Assignments.{all_bits, bit_at}
use Rattle.cf_model.proofs.RenumberingLaws.{map_map}
use Rattle.cf_build.specs.Assembling.{label_at, row_labels, labels_over}
use Rattle.cf_build.proofs.Joins.{map_words, words_map}
use Rattle.cf_pkg.specs.Basics.{bit_exit}

flat_same : {A X : Type 0} (f g : X → List A) (xs : List X) → ((x : X) → f x ≡ g x) → flat_map f xs ≡ flat_map g xs
flat_same f g [] h = refl
flat_same f g (x ∷ xs) h =
    let a : f x ≡ g x = h x in
    let b : flat_map f xs ≡ flat_map g xs = flat_same f g xs h in
    cc

pub map_same : {A B : Type 0} (f g : A → B) (xs : List A) → ((x : A) → f x ≡ g x) → map f xs ≡ map g xs
map_same f g [] h = refl
map_same f g (x ∷ xs) h =
    let a : f x ≡ g x = h x in
    let b : map f xs ≡ map g xs = map_same f g xs h in
    cc

-- over all lists of k bits, what is the same at each list of k bits
flat_on_bits : {A : Type 0} (k : ℕ) (f g : List Bool → List A) → ((bits : List Bool) → length bits ≡ k → f bits ≡ g bits) → flat_map f (all_bits k) ≡ flat_map g (all_bits k)
unfolding all_bits
flat_on_bits zero f g h = (let e : f [] ≡ g [] = h [] refl in ap (λ (v : List _). v ++ []) e)
flat_on_bits (suc k) f g h =
    let step : (b : Bool) → flat_map f (map (λ bits. b ∷ bits) (all_bits k)) ≡ flat_map g (map (λ bits. b ∷ bits) (all_bits k))
    = λ b. flat_map-map f (λ bits. b ∷ bits) (all_bits k) ∙ flat_on_bits k (λ bits. f (b ∷ bits)) (λ bits. g (b ∷ bits)) (λ bits e. h (b ∷ bits) (ap suc e)) ∙ sym (flat_map-map g (λ bits. b ∷ bits) (all_bits k)) in
    let low = map (λ bits. false ∷ bits) (all_bits k) in
    let high = map (λ bits. true ∷ bits) (all_bits k) in
    flat_map-append f low high
    ∙ ap (λ (v : List _). v ++ flat_map f high) (step false)
    ∙ ap (λ (v : List _). flat_map g low ++ v) (step true)
    ∙ sym (flat_map-append g low high)

-- the lists of m + n bits: each of m bits, followed by each of n bits
abbrev followed : ℕ → List Bool → List (List Bool)
followed n xs = map (λ ys. xs ++ ys) (all_bits n)

all_bits_sum : (m n : ℕ) → all_bits (m + n) ≡ flat_map (followed n) (all_bits m)
unfolding all_bits
all_bits_sum zero n =
    let e : zero + n ≡ n = omega arith in
    ap all_bits e ∙ sym (append-nil (map (λ (ys : List Bool). ys) (all_bits n)) ∙ map-id (all_bits n))
all_bits_sum (suc m) n =
    let e : suc m + n ≡ suc (m + n) = omega arith in
    let step : (b : Bool) → map (λ bits. b ∷ bits) (all_bits (m + n)) ≡ flat_map (followed n) (map (λ bits. b ∷ bits) (all_bits m))
    = λ b. ap (map (λ bits. b ∷ bits)) (all_bits_sum m n)
    ∙ map_words (λ bits. b ∷ bits) (followed n) (all_bits m)
    ∙ flat_same (λ xs. map (λ bits. b ∷ bits) (followed n xs)) (λ xs. followed n (b ∷ xs)) (all_bits m) (λ xs. map_map (λ bits. b ∷ bits) (λ ys. xs ++ ys) (all_bits n))
    ∙ sym (flat_map-map (followed n) (λ bits. b ∷ bits) (all_bits m)) in
    let low = map (λ bits. false ∷ bits) (all_bits m) in
    let high = map (λ bits. true ∷ bits) (all_bits m) in
    ap all_bits e
    ∙ ap (λ (v : List (List Bool)). v ++ map (λ bits. true ∷ bits) (all_bits (m + n))) (step false)
    ∙ ap (λ (v : List (List Bool)). flat_map (followed n) low ++ v) (step true)
    ∙ sym (flat_map-append (followed n) low high)

-- what is tabulated over two halves
spread : (n : ℕ) (value : List Bool → ℕ) → map value (all_bits (n + n)) ≡ flat_map (λ xs. map (λ ys. value (xs ++ ys)) (all_bits n)) (all_bits n)
spread n value =
    ap (map value) (all_bits_sum n n) ∙ map_words value (followed n) (all_bits n)
    ∙ flat_same (λ xs. map value (followed n xs)) (λ xs. map (λ ys. value (xs ++ ys)) (all_bits n)) (all_bits n) (λ xs. map_map value (λ ys. xs ++ ys) (all_bits n))

abbrev zeros : ℕ → List ℕ
zeros n = map (λ bits. 0) (all_bits n)

-- a row of one label has it everywhere
pub one_label : (q : ℕ → List ℕ) (n c z : ℕ) → q c ≡ zeros n → row_labels q (c, z ∷ []) ≡ map (λ bits. z) (all_bits n)
one_label q n c z e = ap (flat_map (label_at (z ∷ []))) e ∙ words_map (label_at (z ∷ [])) (λ bits. 0) (all_bits n) ∙ flat_map_single (λ bits. z) (all_bits n)

-- over a grouping of one exit, whose one row has one label: that label everywhere
pub constant_over : (q : ℕ → List ℕ) (n c : ℕ) → q c ≡ zeros n → labels_over q c ((c, 0 ∷ []) ∷ []) ≡ zeros (n + n)
constant_over q n c e =
    let rows : List (ℕ × List ℕ) = (c, 0 ∷ []) ∷ [] in
    let word : ℕ → List ℕ = λ j. row_labels q (get_or rows j (0, [])) in
    ap (flat_map word) e ∙ words_map word (λ bits. 0) (all_bits n)
    ∙ flat_same (λ xs. word 0) (λ xs. zeros n) (all_bits n) (λ xs. one_label q n c 0 e)
    ∙ sym (spread n (λ bits. 0))

abbrev digit : Bool → ℕ
digit b = if b then 1 else 0

-- over a variable's grouping, rows of one exit each with the bit as label: the variable of the first half
pub first_over : (q : ℕ → List ℕ) (n i a c : ℕ) → i < n → q a ≡ map (bit_exit i) (all_bits n) → q c ≡ zeros n
    → labels_over q a ((c, 0 ∷ []) ∷ (c, 1 ∷ []) ∷ []) ≡ map (bit_exit i) (all_bits (n + n))
first_over q n i a c h ea ec =
    let rows : List (ℕ × List ℕ) = (c, 0 ∷ []) ∷ (c, 1 ∷ []) ∷ [] in
    let word : ℕ → List ℕ = λ j. row_labels q (get_or rows j (0, [])) in
    ap (flat_map word) ea ∙ words_map word (bit_exit i) (all_bits n)
    ∙ flat_on_bits n (λ xs. word (bit_exit i xs)) (λ xs. map (λ ys. bit_exit i (xs ++ ys)) (all_bits n))
    (λ xs len. by (bit_at xs i) ∙ map_same (λ ys. digit (bit_at xs i)) (λ ys. digit (bit_at (xs ++ ys) i)) (all_bits n) (λ ys. ap digit (sym (get_or_append_left xs ys false i (omega (arith, h, len))))))
    ∙ sym (spread n (bit_exit i))
  where
    by : (b : Bool) → row_labels q (get_or ((c, 0 ∷ []) ∷ (c, 1 ∷ []) ∷ []) (digit b) (0, [])) ≡ map (λ ys. digit b) (all_bits n)
    by true = one_label q n c 1 ec
    by false = one_label q n c 0 ec

bit_label : (b : Bool) → label_at (0 ∷ 1 ∷ []) (digit b) ≡ digit b ∷ []
bit_label true = refl
bit_label false = refl

-- a row of the bit's two labels over a variable's grouping has the variable
pub bit_labels : (q : ℕ → List ℕ) (n i v : ℕ) → q v ≡ map (bit_exit i) (all_bits n) → row_labels q (v, 0 ∷ 1 ∷ []) ≡ map (bit_exit i) (all_bits n)
bit_labels q n i v e =
    ap (flat_map (label_at (0 ∷ 1 ∷ []))) e ∙ words_map (label_at (0 ∷ 1 ∷ [])) (bit_exit i) (all_bits n)
    ∙ flat_same (λ ys. label_at (0 ∷ 1 ∷ []) (bit_exit i ys)) (λ ys. bit_exit i ys ∷ []) (all_bits n) (λ ys. bit_label (bit_at ys i))
    ∙ flat_map_single (bit_exit i) (all_bits n)

-- over a grouping of one exit, whose one row is a variable's grouping: the variable of the second half
pub second_over : (q : ℕ → List ℕ) (n i a v : ℕ) → n ≤ i → q a ≡ zeros n → q v ≡ map (bit_exit (i - n)) (all_bits n)
    → labels_over q a ((v, 0 ∷ 1 ∷ []) ∷ []) ≡ map (bit_exit i) (all_bits (n + n))
second_over q n i a v h ea ev =
    let rows : List (ℕ × List ℕ) = (v, 0 ∷ 1 ∷ []) ∷ [] in
    let word : ℕ → List ℕ = λ j. row_labels q (get_or rows j (0, [])) in
    let row : word 0 ≡ map (bit_exit (i - n)) (all_bits n) = bit_labels q n (i - n) v ev in
    ap (flat_map word) ea ∙ words_map word (λ bits. 0) (all_bits n)
    ∙ flat_on_bits n (λ xs. word 0) (λ xs. map (λ ys. bit_exit i (xs ++ ys)) (all_bits n))
    (λ xs len. row ∙ map_same (bit_exit (i - n)) (λ ys. bit_exit i (xs ++ ys)) (all_bits n) (λ ys. ap digit (sym (get_or-append_right xs ys n i false len h))))
    ∙ sym (spread n (bit_exit i))
