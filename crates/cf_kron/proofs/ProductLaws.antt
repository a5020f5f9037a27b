use Rattle.std.proofs.Common.{◌≡◌, ℕ, suc, zero, ◌<◌, ◌≤◌, ◌+◌, ◌*◌, ◌%◌, ◌^◌, ℤ, pos, ◌*ℤ◌, Bool, List, [], ◌∷◌, ◌++◌, map, length, get_or, take, Option, Some, None, option_map, Result, Err, sym, ◌∙◌, ap, subst, arith, inl, inr, length-append}
use Rattle.std.specs.Prelude.{All, flat_map, if◌then◌else◌}
use Rattle.std.specs.List.{slice_get}
use Rattle.std.proofs.lemmas.Bool.{cases_lt}
use Rattle.std.proofs.lemmas.List.{length-map, length-take-le, get_or-map, get_or-take, take_more, take_all, map_push}
use Rattle.std.proofs.lemmas.List.Elements.{All-push}
use Rattle.std.proofs.lemmas.Nat.{pow-add}
use Rattle.std.proofs.Math.Nat.{mul-le-mul_right}
use Rattle.std.proofs.Math.Pow.{pow_mono}
use Rattle.std.proofs.lemmas.Option.{slice_get-get_or, slice_get_within, get_or_from_slice_get, slice_get-map, same_Some, none-some, cond_some}
use Rattle.cf_model.specs.Assignments.{Assignment, bits, number_of, bits_of, first_half, second_half}
use Rattle.cf_model.specs.Values.{Fits, fits, fitting}
use Rattle.cf_model.specs.FlatFunctions.{points, IsAssignment, IsLeast}
use Rattle.cf_model.specs.Diagrams.{Levels, count, pattern, exits, IsGood}
use Rattle.cf_model.specs.Matrices.{kronecker}
use Rattle.cf_model.proofs.AssignmentLaws.{half_level, number_of-halves, number_of-append, length-bits_of, number_of-bits_of, same_from_number}
use Rattle.cf_model.proofs.FlatFunctionLaws.{fits_decides, points-is, number_in, place_assigns}
use Rattle.cf_model.proofs.Growth.{Under, Under-width}
use Rattle.cf_model.proofs.Entries.{entry_below}
use Rattle.cf_model.proofs.RenumberingLaws.{canon_read}
use Rattle.cf_model.proofs.Canonicity.{level_holds, pattern_full, points_of_rows}
use Rattle.cf_table.specs.declared.Gid.{Gid}
use Rattle.cf_build.specs.Assembling.{label_at, row_of, row_labels, labels_over, IsRow, HasCanon}
use Rattle.cf_build.proofs.Joins.{flat_map_under}
use Rattle.cf_pkg.specs.declared.jobs.OpFault.{OpFault}
use Rattle.cf_pkg.specs.Faults.{IsFirstNone}
use Rattle.cf_pkg.specs.Jobs.{Gives, IsLeastWithout}
use Rattle.cf_pkg.proofs.Valued.{read_at}
use Rattle.cf_pkg.proofs.Firsts.{before_first}
use Rattle.cf_kron.proofs.Words.{entry_of_words, labels_read}
use Rattle.cf_kron.specs.Products.{value_by, scaled, scaled_fitting, AllFit, IsFirstUnfit, product_rows}

-- a number that fits is its own value
pub fitting_there : (z : ℤ) → Fits z → fitting z ≡ Some z
fitting_there z h = ap (λ (b : Bool). if b then Some z else None) ((fits_decides z).1 h)

pub unfit : (z : ℤ) → fitting z ≡ None → Fits z → ⊥
unfit z n h = none-some z (sym n ∙ fitting_there z h)

-- the value of a grouping at an assignment, by its exit there
pub value_read : (t : Levels) → IsGood t → (g : Gid) → g.at < count t g.level → (values : List ℤ) (bits : List Bool) → IsAssignment g.level bits
    → value_by t g values bits ≡ get_or values (get_or (pattern t g.level g.at) (number_of bits) 0) (pos 0)
value_read t good g own values bits a =
    get_or-map (λ exit. get_or values exit (pos 0)) (pattern t g.level g.at) (number_of bits) 0 (pos 0) (omega (arith, number_in g.level bits a, pattern_full t good g.level g.at own))

-- What is known of two groupings of one level and the values of their exits.
pub record Factors (t : Levels) (f : Gid) (left : List ℤ) (g : Gid) (right : List ℤ) : Type 0 where
  pub good : IsGood t
  pub first : f.at < count t f.level
  pub second : g.at < count t g.level
  pub level : f.level ≡ g.level
  pub left_long : length left ≡ exits t f.level f.at
  pub right_long : length right ≡ exits t g.level g.at

-- the exits at the halves of an assignment
abbrev exit_by : Levels → Gid → List Bool → ℕ
exit_by t g bits = get_or (pattern t g.level g.at) (number_of bits) 0

-- What the halves of an assignment of the level above say.
record Halved (t : Levels) (f : Gid) (left : List ℤ) (g : Gid) (right : List ℤ) (bits : List Bool) : Type 0 where
  first : IsAssignment f.level (first_half bits)
  second : IsAssignment g.level (second_half bits)
  left_exit : exit_by t f (first_half bits) < length left
  right_exit : exit_by t g (second_half bits) < length right
  number : number_of bits ≡ number_of (first_half bits) * points g.level + number_of (second_half bits)
  value : kronecker (value_by t f left) (value_by t g right) bits
      ≡ fitting (get_or left (exit_by t f (first_half bits)) (pos 0) *ℤ get_or right (exit_by t g (second_half bits)) (pos 0))

halved : (t : Levels) (f : Gid) (left : List ℤ) (g : Gid) (right : List ℤ) → Factors t f left g right → (bits : List Bool) → IsAssignment (suc f.level) bits → Halved t f left g right bits
halved t f left g right k bits a =
    let h = half_level f.level bits a in
    let first : IsAssignment f.level (first_half bits) = h.0 in
    let second : IsAssignment g.level (second_half bits) = subst (λ (l : ℕ). IsAssignment l (second_half bits)) k.level h.1 in
    record {
      first = first;
      second = second;
      left_exit = omega (arith, entry_below t k.good f.level f.at (number_of (first_half bits)) k.first (number_in f.level (first_half bits) first), k.left_long);
      right_exit = omega (arith, entry_below t k.good g.level g.at (number_of (second_half bits)) k.second (number_in g.level (second_half bits) second), k.right_long);
      number = number_of-halves bits ∙ ap (λ (n : ℕ). number_of (first_half bits) * n + number_of (second_half bits)) (ap (λ (n : ℕ). 2 ^ n) second ∙ sym (points-is g.level));
      value = ap (λ (x : ℤ). fitting (x *ℤ value_by t g right (second_half bits))) (value_read t k.good f k.first left (first_half bits) first)
          ∙ ap (λ (y : ℤ). fitting (get_or left (exit_by t f (first_half bits)) (pos 0) *ℤ y)) (value_read t k.good g k.second right (second_half bits) second);
    }

-- a product of two values by their places
pub scaled_at : (x : ℤ) (values : List ℤ) (j : ℕ) → j < length values → get_or (scaled x values) j (pos 0) ≡ x *ℤ get_or values j (pos 0)
scaled_at x values j h = get_or-map (λ y. x *ℤ y) values j (pos 0) (pos 0) h

pub fits_at : (x : ℤ) (values : List ℤ) (j : ℕ) → All Fits (scaled x values) → j < length values → Fits (x *ℤ get_or values j (pos 0))
fits_at x values j all h = subst (λ (z : ℤ). Fits z) (scaled_at x values j h) (all j (pos 0) (omega (arith, h, length-map values (λ y. x *ℤ y))))

-- the row of a left value
abbrev row_of_product : Gid → List ℤ → ℤ → Gid × List ℤ
row_of_product g right x = (g, scaled x right)

row_there : (g : Gid) (left right : List ℤ) (i : ℕ) → i < length left → get_or (map row_of (product_rows g left right)) i (0, []) ≡ (g.at, scaled (get_or left i (pos 0)) right)
row_there g left right i h =
    let long : length (product_rows g left right) ≡ length left = length-map left (row_of_product g right) in
    get_or-map row_of (product_rows g left right) i (g, []) (0, []) (omega (arith, h, long))
    ∙ ap row_of (get_or-map (λ x. (g, scaled x right)) left i (pos 0) (g, []) h)

-- the products over the pattern of the right grouping
abbrev word_of : Levels → List ℤ → Gid → List ℤ → ℕ → List ℤ
word_of t left g right i = map (λ e. get_or (scaled (get_or left i (pos 0)) right) e (pos 0)) (pattern t g.level g.at)

under_values : (t : Levels) → IsGood t → (g : Gid) → g.at < count t g.level → (n : ℕ) → n ≡ exits t g.level g.at → Under n (pattern t g.level g.at)
under_values t good g own n e = Under-width 0 n (pattern t g.level g.at) (omega (arith, (level_holds t good g.level).reaches g.at own, e))

-- the labels of the rows, over all assignments
labels_words : (t : Levels) (f : Gid) (left : List ℤ) (g : Gid) (right : List ℤ) → Factors t f left g right
    → labels_over (pattern t f.level) f.at (map row_of (product_rows g left right)) ≡ flat_map (word_of t left g right) (pattern t f.level f.at)
labels_words t f left g right k =
    flat_map_under (λ j. row_labels (pattern t f.level) (get_or (map row_of (product_rows g left right)) j (0, []))) (word_of t left g right) (length left) (pattern t f.level f.at) (under_values t k.good f k.first (length left) k.left_long)
    (λ j lj.
    (let xs = scaled (get_or left j (pos 0)) right in
    ap (row_labels (pattern t f.level)) (row_there g left right j lj)
    ∙ ap (λ (l : ℕ). flat_map (label_at xs) (pattern t l g.at)) k.level
    ∙ labels_read xs (pos 0) (pattern t g.level g.at) (under_values t k.good g k.second (length xs) (length-map right (λ y. get_or left j (pos 0) *ℤ y) ∙ k.right_long))))

-- the product at an assignment
product_at : (t : Levels) (f : Gid) (left : List ℤ) (g : Gid) (right : List ℤ) → Factors t f left g right → (bits : List Bool) → IsAssignment (suc f.level) bits
    → slice_get (labels_over (pattern t f.level) f.at (map row_of (product_rows g left right))) (number_of bits)
    ≡ Some (get_or left (exit_by t f (first_half bits)) (pos 0) *ℤ get_or right (exit_by t g (second_half bits)) (pos 0))
product_at t f left g right k bits a =
    let h = halved t f left g right k bits a in
    let pf = pattern t f.level f.at in
    let pg = pattern t g.level g.at in
    let w = word_of t left g right in
    let u = number_of (first_half bits) in
    let v = number_of (second_half bits) in
    let lu : u < length pf = omega (arith, number_in f.level (first_half bits) h.first, pattern_full t k.good f.level f.at k.first) in
    let lv : v < points g.level = number_in g.level (second_half bits) h.second in
    let long : (i : ℕ) → length (w i) ≡ points g.level = λ i. length-map pg (λ e. get_or (scaled (get_or left i (pos 0)) right) e (pos 0)) ∙ pattern_full t k.good g.level g.at k.second in
    let under = under_values t k.good f k.first (length left) k.left_long in
    let whole : length (flat_map w pf) ≡ points (suc f.level) = points_of_rows w (points g.level) (length left) pf (λ i li. long i) under
    ∙ ap (λ (n : ℕ). n * points g.level) (pattern_full t k.good f.level f.at k.first) ∙ ap (λ (l : ℕ). points f.level * points l) (sym k.level) in
    let inside : number_of bits < length (flat_map w pf) = omega (arith, whole, number_in (suc f.level) bits a) in
    let i = exit_by t f (first_half bits) in
    ap (λ (xs : List ℤ). slice_get xs (number_of bits)) (labels_words t f left g right k)
    ∙ slice_get-get_or (flat_map w pf) (number_of bits) (pos 0) inside
    ∙ ap Some (ap (λ (n : ℕ). get_or (flat_map w pf) n (pos 0)) h.number
    ∙ entry_of_words w (pos 0) (points g.level) (length left) pf u v (λ i li. long i) under lu lv
    ∙ get_or-map (λ e. get_or (scaled (get_or left i (pos 0)) right) e (pos 0)) pg v 0 (pos 0) (omega (arith, lv, pattern_full t k.good g.level g.at k.second))
    ∙ scaled_at (get_or left i (pos 0)) right (exit_by t g (second_half bits)) h.right_exit)

-- a grouping and labels that are the canon of values, one for each assignment, give them
pub canon_gives : (w : Levels) → IsGood w → (r : Gid) (ds : List ℤ) (l : ℕ) (all : List ℤ) (value : List Bool → Option ℤ) → HasCanon w r l all ds
    → ((bits : List Bool) → IsAssignment l bits → (z : ℤ) × (slice_get all (number_of bits) ≡ Some z) × (value bits ≡ Some z)) → Gives w r ds l value
canon_gives w good r ds l all value c each = record {
  level = c.level;
  there = c.there;
  valued = sym c.canon.reached ∙ (level_holds w good r.level).reaches r.at c.there;
  values = λ bits a.
      (let z = each bits a in
      let exit = get_or (pattern w r.level r.at) (number_of bits) 0 in
      let told : slice_get ds exit ≡ Some z.0 = canon_read all (pattern w r.level r.at) ds c.canon (number_of bits) (slice_get_within all (number_of bits) z.0 z.1) ∙ z.1 in
      read_at w good r l c.level c.there ds bits a ∙ ap Some (get_or_from_slice_get ds exit z.0 (pos 0) told) ∙ sym z.2);
}

-- the grouping that is assembled of such rows, with its values
pub product_gives : (t : Levels) (f : Gid) (left : List ℤ) (g : Gid) (right : List ℤ) → Factors t f left g right → AllFit left right → (w : Levels) → IsGood w → (r : Gid) (ds : List ℤ)
    → HasCanon w r (suc f.level) (labels_over (pattern t f.level) f.at (map row_of (product_rows g left right))) ds
    → Gives w r ds (suc f.level) (kronecker (value_by t f left) (value_by t g right))
product_gives t f left g right k fit w good r ds c =
    canon_gives w good r ds (suc f.level) (labels_over (pattern t f.level) f.at (map row_of (product_rows g left right))) (kronecker (value_by t f left) (value_by t g right)) c
    (λ bits a.
    (let h = halved t f left g right k bits a in
    let x = get_or left (exit_by t f (first_half bits)) (pos 0) in
    let z = x *ℤ get_or right (exit_by t g (second_half bits)) (pos 0) in
    (z, product_at t f left g right k bits a, h.value ∙ fitting_there z (fits_at x right (exit_by t g (second_half bits)) (fit (exit_by t f (first_half bits)) (pos 0) h.left_exit) h.right_exit))))

same_high : (p u v x y : ℕ) → x * p + y < u * p + v → v < p → (x < u → ⊥) → (x ≡ u) × (y < v)
same_high p u v x y h hv late = elim (cases_lt x u) [
  | inl l ↦ absurd (late l)
  | inr g ↦ elim (cases_lt u x) [
    | inl m ↦ absurd (omega (arith, past p u x m, h, hv))
    | inr e ↦ (let q : x ≡ u = omega (arith, g, e) in (q, (let r : x * p ≡ u * p = ap (λ (k : ℕ). k * p) q in omega (arith, r, h))))
  ]
]
  where
    past : (p u x : ℕ) → u < x → u * p + p ≤ x * p
    past p u zero l = absurd (omega (arith, l))
    past p u (suc x) l = elim (cases_lt u x) [
      | inl m ↦ (let r = past p u x m in omega (arith, r))
      | inr m ↦ (let q : u ≡ x = omega (arith, l, m) in let r : u * p ≡ x * p = ap (λ (k : ℕ). k * p) q in omega (arith, r))
    ]

-- an assignment leads to an exit that isn't after another, where its number is smaller than that of the least one of the other
earlier : (t : Levels) → IsGood t → (g : Gid) → g.at < count t g.level → (e : ℕ) (bits : List Bool) → IsLeast g.level (λ a. slice_get (pattern t g.level g.at) (number_of a) ≡ Some e) bits
    → (other : List Bool) → number_of other < number_of bits → exit_by t g other < e
earlier t good g own e bits least other lt =
    let p = pattern t g.level g.at in
    let within = slice_get_within p (number_of bits) e least.has in
    before_first 0 p (number_of bits) e ((level_holds t good g.level).grows g.at own) (omega arith) within
    (λ m lm em.
    (let place = place_assigns g.level m (omega (arith, lm, within, pattern_full t good g.level g.at own)) in
    least.none_below (bits_of (2 ^ g.level) m) place.0 (omega (arith, place.1, lm)) (ap (slice_get p) place.1 ∙ slice_get-get_or p m 0 (omega (arith, lm, within)) ∙ ap Some em)))
    (number_of other) lt

-- the first product that doesn't fit is that of the least assignment without one
pub product_least : (t : Levels) (f : Gid) (left : List ℤ) (g : Gid) (right : List ℤ) → Factors t f left g right → (i j : ℕ) → IsFirstUnfit left right i j
    → (bits : List Bool) → IsAssignment (suc f.level) bits
    → IsLeast f.level (λ a. slice_get (pattern t f.level f.at) (number_of a) ≡ Some i) (first_half bits)
    → IsLeast g.level (λ a. slice_get (pattern t g.level g.at) (number_of a) ≡ Some j) (second_half bits)
    → IsLeastWithout (suc f.level) (kronecker (value_by t f left) (value_by t g right)) bits
product_least t f left g right k i j first bits a one two =
    let h = halved t f left g right k bits a in
    let pf = pattern t f.level f.at in
    let pg = pattern t g.level g.at in
    let at : ℕ → ℕ → Option ℤ = λ a b. fitting (get_or left a (pos 0) *ℤ get_or right b (pos 0)) in
    let exit_f : exit_by t f (first_half bits) ≡ i = get_or_from_slice_get pf (number_of (first_half bits)) i 0 one.has in
    let exit_g : exit_by t g (second_half bits) ≡ j = get_or_from_slice_get pg (number_of (second_half bits)) j 0 two.has in
    let word : ℤ → Option ℤ = λ y. fitting (get_or left i (pos 0) *ℤ y) in
    let read : (b : ℕ) → b < length right → slice_get (scaled_fitting (get_or left i (pos 0)) right) b ≡ Some (at i b) = λ b lb. slice_get-map word right b ∙ ap (option_map word) (slice_get-get_or right b (pos 0) lb) in
    let lj : j < length right = omega (arith, slice_get_within (scaled_fitting (get_or left i (pos 0)) right) j None first.here.none, length-map right word) in
    record {
      assigns = a;
      has = h.value ∙ ap (λ (b : ℕ). at b (exit_by t g (second_half bits))) exit_f ∙ ap (at i) exit_g ∙ same_Some (at i j) None (sym (read j lj) ∙ first.here.none);
      none_below = λ other ao lt none.
          (let o = halved t f left g right k other ao in
          let x = exit_by t f (first_half other) in
          let y = exit_by t g (second_half other) in
          let none_at : at x y ≡ None = sym o.value ∙ none in
          let late : number_of (first_half other) < number_of (first_half bits) → ⊥ = λ l.
          unfit (get_or left x (pos 0) *ℤ get_or right y (pos 0)) none_at
          (fits_at (get_or left x (pos 0)) right y (first.before x (earlier t k.good f k.first i (first_half bits) one (first_half other) l)) o.right_exit) in
          let same = same_high (points g.level) (number_of (first_half bits)) (number_of (second_half bits)) (number_of (first_half other)) (number_of (second_half other))
          (omega (arith, lt, h.number, o.number)) (number_in g.level (second_half bits) h.second) late in
          let xi : x ≡ i = ap (λ (n : ℕ). get_or pf n 0) same.0 ∙ exit_f in
          first.here.none_before y (earlier t k.good g k.second j (second_half bits) two (second_half other) same.1)
          (read y o.right_exit ∙ ap Some (ap (λ (b : ℕ). at b y) (sym xi) ∙ none_at)));
    }

-- one more value
pub scaled_push : (x : ℤ) (vs : List ℤ) (j : ℕ) → j < length vs → scaled x (take (j + 1) vs) ≡ scaled x (take j vs) ++ (x *ℤ get_or vs j (pos 0)) ∷ []
scaled_push x vs j h = ap (scaled x) (take_more vs j (pos 0) h) ∙ map_push (λ y. x *ℤ y) (take j vs) (get_or vs j (pos 0))

pub fit_more : (x : ℤ) (vs : List ℤ) (j : ℕ) → j < length vs → All Fits (scaled x (take j vs)) → Fits (x *ℤ get_or vs j (pos 0)) → All Fits (scaled x (take (j + 1) vs))
fit_more x vs j h all f = subst (λ (zs : List ℤ). All Fits zs) (sym (scaled_push x vs j h)) (All-push Fits (scaled x (take j vs)) (x *ℤ get_or vs j (pos 0)) all f)

-- the first product that doesn't fit
pub first_none : (x : ℤ) (vs : List ℤ) (j : ℕ) → j < length vs → All Fits (scaled x (take j vs)) → fitting (x *ℤ get_or vs j (pos 0)) ≡ None → IsFirstNone (scaled_fitting x vs) j
first_none x vs j h all none =
    let word : ℤ → Option ℤ = λ y. fitting (x *ℤ y) in
    let read : (i : ℕ) → i < length vs → slice_get (scaled_fitting x vs) i ≡ Some (word (get_or vs i (pos 0))) = λ i li. slice_get-map word vs i ∙ ap (option_map word) (slice_get-get_or vs i (pos 0) li) in
    record {
      none = read j h ∙ ap Some none;
      none_before = λ i li e.
          (let same : get_or (take j vs) i (pos 0) ≡ get_or vs i (pos 0) = get_or-take j vs i (pos 0) li in
          unfit (x *ℤ get_or vs i (pos 0)) (same_Some (word (get_or vs i (pos 0))) None (sym (read i (omega (arith, li, h))) ∙ e))
          (subst (λ (y : ℤ). Fits (x *ℤ y)) same (fits_at x (take j vs) i all (omega (arith, li, h, length-take-le j vs (omega (arith, h)))))));
    }

-- one more left value
pub all_fit_more : (left right : List ℤ) (i : ℕ) → i < length left → AllFit (take i left) right → All Fits (scaled (get_or left i (pos 0)) right) → AllFit (take (i + 1) left) right
all_fit_more left right i h all f =
    subst (λ (xs : List ℤ). AllFit xs right) (sym (take_more left i (pos 0) h)) (All-push (λ x. All Fits (scaled x right)) (take i left) (get_or left i (pos 0)) all f)

-- the first left value with a product that doesn't fit
pub first_unfit_is : (left right : List ℤ) (i j : ℕ) → i < length left → AllFit (take i left) right → IsFirstNone (scaled_fitting (get_or left i (pos 0)) right) j → IsFirstUnfit left right i j
first_unfit_is left right i j h all here = record {
  within = h;
  here = here;
  before = λ a la. subst (λ (x : ℤ). All Fits (scaled x right)) (get_or-take i left a (pos 0) la) (all a (pos 0) (omega (arith, la, h, length-take-le i left (omega (arith, h)))));
}

-- one more row
pub rows_push : (g : Gid) (left right : List ℤ) (i : ℕ) → i < length left → product_rows g (take (i + 1) left) right ≡ product_rows g (take i left) right ++ (g, scaled (get_or left i (pos 0)) right) ∷ []
rows_push g left right i h = ap (λ (xs : List ℤ). product_rows g xs right) (take_more left i (pos 0) h) ∙ map_push (λ x. (g, scaled x right)) (take i left) (get_or left i (pos 0))

-- each row is one of the grouping
pub product_row : (t : Levels) (f : Gid) (left : List ℤ) (g : Gid) (right : List ℤ) → Factors t f left g right → All (IsRow t f.level) (product_rows g left right)
product_row t f left g right k i d li =
    let long : length (product_rows g left right) ≡ length left = length-map left (row_of_product g right) in
    let l : i < length left = omega (arith, li, long) in
    let x = get_or left i (pos 0) in
    subst (λ (r : Gid × List ℤ). IsRow t f.level r) (sym (get_or-map (λ y. (g, scaled y right)) left i (pos 0) d l))
    (record {
      level = sym k.level;
      owned = subst (λ (m : ℕ). g.at < count t m) (sym k.level) k.second;
      labelled = length-map right (λ y. x *ℤ y) ∙ k.right_long ∙ ap (λ (m : ℕ). exits t m g.at) (sym k.level);
    })

-- the bits of two numbers, one after the other
square_below : (p a b : ℕ) → a < p → b < p → a * p + b < p * p
square_below p a b ha hb = let m : (a + 1) * p ≤ p * p = mul-le-mul_right p (omega (arith, ha)) in omega (arith, m, hb)

pub bits_joined : (n a b : ℕ) → a < 2 ^ n → b < 2 ^ n → (a * 2 ^ n + b < 2 ^ (2 * n)) × (bits_of (2 * n) (a * 2 ^ n + b) ≡ bits_of n a ++ bits_of n b)
bits_joined n a b ha hb =
    let square : 2 ^ n * 2 ^ n ≡ 2 ^ (2 * n) = sym (pow-add 2 n n) ∙ (let e : n + n ≡ 2 * n = omega arith in ap (λ (k : ℕ). 2 ^ k) e) in
    let below : a * 2 ^ n + b < 2 ^ (2 * n) = omega (arith, square_below (2 ^ n) a b ha hb, square) in
    let la = length-bits_of n a in
    let lb = length-bits_of n b in (
      below,
      same_from_number (bits_of (2 * n) (a * 2 ^ n + b)) (bits_of n a ++ bits_of n b)
          (length-bits_of (2 * n) (a * 2 ^ n + b) ∙ omega (arith, la, lb, length-append (bits_of n a) (bits_of n b)))
          (number_of-bits_of (2 * n) (a * 2 ^ n + b) below
          ∙ sym (number_of-append (bits_of n a) (bits_of n b) ∙ ap (λ (k : ℕ). number_of (bits_of n a) * 2 ^ k + number_of (bits_of n b)) lb
          ∙ ap (λ (k : ℕ). k * 2 ^ n + number_of (bits_of n b)) (number_of-bits_of n a ha) ∙ ap (λ (k : ℕ). a * 2 ^ n + k) (number_of-bits_of n b hb))),
    )

-- the bits of two assignments, one after the other
pub joined_law : (first second : Assignment) (n a b p : ℕ) → n ≡ first.len → first.len ≡ second.len → p ≡ 2 ^ n → a ≡ first.number → b ≡ second.number → a < 2 ^ first.len → b < 2 ^ second.len
    → (a * p + b < 2 ^ (2 * n)) × (bits_of (2 * n) (a * p + b) ≡ bits first ++ bits second)
joined_law first second n a b p e l ep ea eb ha hb =
    let m : n ≡ second.len = e ∙ l in
    let r = bits_joined n a b (subst (λ (k : ℕ). a < 2 ^ k) (sym e) ha) (subst (λ (k : ℕ). b < 2 ^ k) (sym m) hb) in (
      subst (λ (q : ℕ). a * q + b < 2 ^ (2 * n)) (sym ep) r.0,
      ap (λ (q : ℕ). bits_of (2 * n) (a * q + b)) ep ∙ r.1
          ∙ ap (λ (v : List Bool). v ++ bits_of n b) (ap (λ (k : ℕ). bits_of k a) e ∙ ap (bits_of first.len) ea)
          ∙ ap (λ (v : List Bool). bits first ++ v) (ap (λ (k : ℕ). bits_of k b) m ∙ ap (bits_of second.len) eb),
    )

-- how many bits an assignment of a level has
pub level_len : (a : Assignment) (l : ℕ) → IsAssignment l (bits a) → a.len ≡ 2 ^ l
level_len a l h = sym (length-bits_of a.len a.number) ∙ h

pub small_len : (n l : ℕ) → n ≡ 2 ^ l → l ≤ 6 → n ≤ 64
small_len n l e h = let m : 2 ^ l ≤ 2 ^ 6 = pow_mono {i = l} {j = 6} h in omega (arith, e, m)

pub small_power : (n : ℕ) → n ≤ 64 → 1 * 2 ^ n % 340282366920938463463374607431768211456 ≡ 2 ^ n
small_power n h = let m : 2 ^ n ≤ 2 ^ 64 = pow_mono {i = n} {j = 64} h in omega (arith, m)

pub fault_same : {T : Type 0} (a b : Assignment) → ◌≡◌ {A = Result T OpFault} (Err (OpFault.Overflow a)) (Err (OpFault.Overflow b)) → a ≡ b
fault_same a b e = cc

-- a number with a value fits
pub fits_some : (z v : ℤ) → fitting z ≡ Some v → Fits z
fits_some z v e = (fits_decides z).0 (cond_some (fits z) z v e).0

-- all values were taken
pub whole_fits : (x : ℤ) (vs : List ℤ) (j : ℕ) → length vs ≤ j → All Fits (scaled x (take j vs)) → All Fits (scaled x vs)
whole_fits x vs j h all = subst (λ (ws : List ℤ). All Fits (scaled x ws)) (take_all j vs h) all

pub whole_all_fit : (left right : List ℤ) (i : ℕ) → length left ≤ i → AllFit (take i left) right → AllFit left right
whole_all_fit left right i h all = subst (λ (xs : List ℤ). AllFit xs right) (take_all i left h) all
