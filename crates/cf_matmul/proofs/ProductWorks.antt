use Rattle.std.proofs.Common.{◌≡◌, ℕ, suc, ◌<◌, ◌≤◌, ◌*◌, ◌-◌, ◌^◌, Bool, ℤ, pos, ◌*ℤ◌, List, [], map, length, get_or, Option, Some, option_map, sym, ◌∙◌, ap, subst, arith, pow-suc}
use Rattle.std.specs.Prelude.{All}
use Rattle.std.specs.List.{slice_get}
use Rattle.std.specs.Prelude.{IfOk, Ok, Err}
use Rattle.std.specs.declared.alloc.Global.{Global}
use Rattle.std.specs.declared.result.Result.{Result}
use Rattle.std.specs.declared.vec.Vec.{Vec}
use Rattle.std.proofs.lemmas.List.{length-map, get_or-map}
use Rattle.std.proofs.lemmas.Option.{slice_get-map, slice_get-get_or, get_or_from_slice_get}
use Rattle.cf_model.specs.Assignments.{Assignment, bits, number_of, bits_of, weave, row_of, column_of, all_bits}
use Rattle.cf_model.specs.FlatFunctions.{IsAssignment}
use Rattle.cf_model.specs.Matrices.{Matrix, bounded_sum, product}
use Rattle.cf_model.specs.PairSums.{PairSum, weight}
use Rattle.cf_model.specs.Diagrams.{Levels, count, exits, pattern, IsGood}
use Rattle.cf_model.proofs.AssignmentLaws.{number_of-below, bits_of-number_of, length-weave, length-unweave, length-all_bits, all_bits-order}
use Rattle.cf_model.proofs.RenumberingLaws.{canon_read}
use Rattle.cf_model.proofs.FlatFunctionLaws.{number_in}
use Rattle.cf_model.proofs.Canonicity.{level_holds, pattern_full}
use Rattle.cf_table.specs.declared.Gid.{Gid}
use Rattle.cf_comb.specs.ExitSums.{exit_sum, valued}
use Rattle.cf_comb.specs.declared.CombId.{CombId}
use Rattle.cf_comb.specs.CombBooks.{PairsBelow}
use Rattle.cf_comb.proofs.BitLaws.{all_bits-long}
use Rattle.cf_comb.proofs.WeightLaws.{exit_sum-weight}
use Rattle.cf_pkg.specs.declared.Func.{Func}
use Rattle.cf_pkg.specs.Packages.{Package, OwnsFunction, values_of}
use Rattle.cf_pkg.specs.Jobs.{AreLevel, value_in}
use Rattle.cf_pkg.specs.declared.jobs.OpFault.{OpFault}
use Rattle.cf_pkg.specs.Faults.{IfOverflow}
use Rattle.cf_pkg.specs.Jobs.{Gives, IsLeastWithout}
use Rattle.cf_pkg.proofs.Valued.{Worked, worked_gives, worked_exit, worked_least}
use Rattle.cf_matmul.specs.Symbolic.{exit_in, exit_sums, sums_of}
use Rattle.cf_matmul.specs.Memos.{IsProduct}
use Rattle.cf_matmul.specs.Weighings.{AreWeights, IsWeighedExit, IsWeighedAnswer}
use Rattle.cf_matmul.specs.declared.weights.Weighed.{Weighed}
use Rattle.cf_matmul.specs.declared.weights.Weighed.TheVariants.{Found, Missing}
use Rattle.cf_matmul.proofs.HalfLaws.{map_same}
use Rattle.cf_matmul.proofs.SumRows.{StaysBelow, sums_in}
use Rattle.cf_matmul.proofs.Turns.{stays}

-- What a recipe of products knows of two functions and of the sums of their groupings.
pub record ProductMade (p : Package) (u : Levels) (book : List PairSum) (f g : Func) (vs ws : List ℤ) (head : Gid) (ids : List CombId) : Type 0 where
  pub good : IsGood p.groupings.levels
  pub functions : AreLevel p f g
  pub above : 1 ≤ f.head.level
  pub left_list : slice_get p.lists f.vals.at ≡ Some vs
  pub right_list : slice_get p.lists g.vals.at ≡ Some ws
  pub good_now : IsGood u
  pub made : IsProduct p.groupings.levels u book f.head g.head (head, ids)

left_values : (p : Package) (u : Levels) (book : List PairSum) (f g : Func) (vs ws : List ℤ) (head : Gid) (ids : List CombId) → ProductMade p u book f g vs ws head ids → values_of p f ≡ vs
left_values p u book f g vs ws head ids r = get_or_from_slice_get p.lists f.vals.at vs [] r.left_list

right_values : (p : Package) (u : Levels) (book : List PairSum) (f g : Func) (vs ws : List ℤ) (head : Gid) (ids : List CombId) → ProductMade p u book f g vs ws head ids → values_of p g ≡ ws
right_values p u book f g vs ws head ids r = get_or_from_slice_get p.lists g.vals.at ws [] r.right_list

stays_at : (t : Levels) → IsGood t → (l m i : ℕ) → l ≡ suc m → i < count t l → StaysBelow m (exit_in (pattern t l i)) (exits t l i)
stays_at t good l m i e = subst (λ (k : ℕ). i < count t k → StaysBelow m (exit_in (pattern t k i)) (exits t k i)) (sym e) (stays t good m i)

-- the pairs of each sum have their places in the two lists of values
pub pairs_within : (p : Package) (u : Levels) (book : List PairSum) (f g : Func) (vs ws : List ℤ) (head : Gid) (ids : List CombId) → ProductMade p u book f g vs ws head ids → All (PairsBelow (length vs) (length ws)) (sums_of book ids)
pairs_within p u book f g vs ws head ids r =
    let t = p.groupings.levels in
    let m = f.head.level - 1 in
    let el : f.head.level ≡ suc m = omega (arith, r.above) in
    let er : g.head.level ≡ suc m = omega (arith, el, r.functions.level) in
    let nl : exits t f.head.level f.head.at ≡ length vs = sym r.functions.first.valued ∙ ap length (left_values p u book f g vs ws head ids r) in
    let nr : exits t g.head.level g.head.at ≡ length ws = sym r.functions.second.valued ∙ ap length (right_values p u book f g vs ws head ids r) in
    let each = sums_in u book f.head.level m (length vs) (length ws) (exit_in (pattern t f.head.level f.head.at)) (exit_in (pattern t g.head.level g.head.at)) (head, ids)
    (subst (λ (n : ℕ). StaysBelow m (exit_in (pattern t f.head.level f.head.at)) n) nl (stays_at t r.good f.head.level m f.head.at el r.functions.first.head))
    (subst (λ (n : ℕ). StaysBelow m (exit_in (pattern t g.head.level g.head.at)) n) nr (stays_at t r.good g.head.level m g.head.at er r.functions.second.head)) r.made in
    λ k d lk. (each k d lk).within

-- the matrix product of matrices that have the same entries
product_same : (k : ℕ) (a b c d : Matrix) (bits : List Bool) → length bits ≡ 2 * k → ((x : List Bool) → length x ≡ 2 * k → a x ≡ b x) → ((x : List Bool) → length x ≡ 2 * k → c x ≡ d x) → product k a c bits ≡ product k b d bits
product_same k a b c d bits lb ab cd =
    let l = length-unweave k bits lb in
    ap bounded_sum (map_same (λ t. length t ≡ k) (λ t. a (weave (row_of bits) t) *ℤ c (weave t (column_of bits))) (λ t. b (weave (row_of bits) t) *ℤ d (weave t (column_of bits))) (all_bits k) (all_bits-long k)
    (λ t lt.
    ap (λ (z : ℤ). z *ℤ c (weave t (column_of bits))) (ab (weave (row_of bits) t) (length-weave (row_of bits) t (l.0 ∙ sym lt) ∙ ap (λ (n : ℕ). 2 * n) l.0))
    ∙ ap (λ (z : ℤ). b (weave (row_of bits) t) *ℤ z) (cd (weave t (column_of bits)) (length-weave t (column_of bits) (lt ∙ sym l.1) ∙ ap (λ (n : ℕ). 2 * n) lt))))

-- what is listed over all assignments, read at one
listed_at : {A : Type 0} (n : ℕ) (f : List Bool → A) (d : A) (bits : List Bool) → length bits ≡ n → (number_of bits < length (map f (all_bits n))) × (get_or (map f (all_bits n)) (number_of bits) d ≡ f bits)
listed_at n f d bits h =
    let below : number_of bits < 2 ^ n = subst (λ (k : ℕ). number_of bits < 2 ^ k) h (number_of-below bits) in
    let inside : number_of bits < length (all_bits n) = omega (arith, below, length-all_bits n) in
    let same : get_or (all_bits n) (number_of bits) [] ≡ bits = all_bits-order n (number_of bits) below ∙ ap (λ (k : ℕ). bits_of k (number_of bits)) (sym h) ∙ bits_of-number_of bits in
    (omega (arith, inside, length-map (all_bits n) f), get_or-map f (all_bits n) (number_of bits) [] d inside ∙ ap f same)

-- a function as a matrix, by its exits
matrix_of : (p : Package) → IsGood p.groupings.levels → (f : Func) → OwnsFunction p f → (vs : List ℤ) → values_of p f ≡ vs → (bits : List Bool) → IsAssignment f.head.level bits → valued vs (exit_in (pattern p.groupings.levels f.head.level f.head.at)) bits ≡ value_in p f bits
matrix_of p good f o vs e bits a =
    let q = pattern p.groupings.levels f.head.level f.head.at in
    let inside : number_of bits < length q = omega (arith, number_in f.head.level bits a, pattern_full p.groupings.levels good f.head.level f.head.at o.head) in
    sym (get_or-map (λ exit. get_or (values_of p f) exit (pos 0)) q (number_of bits) 0 (pos 0) inside ∙ ap (λ (xs : List ℤ). get_or xs (exit_in q bits) (pos 0)) e)

-- the weights of the sums tell the product's value at each assignment
pub product_worked : (p : Package) (u : Levels) (book : List PairSum) (f g : Func) (vs ws : List ℤ) (head : Gid) (ids : List CombId) → ProductMade p u book f g vs ws head ids
    → Worked u head f.head.level (map (weight vs ws) (sums_of book ids)) (product (2 ^ (f.head.level - 1)) (value_in p f) (value_in p g))
product_worked p u book f g vs ws head ids r =
    let t = p.groupings.levels in
    let m = f.head.level - 1 in
    let n = 2 ^ m in
    let el : suc m ≡ f.head.level = omega (arith, r.above) in
    let left = pattern t f.head.level f.head.at in
    let right = pattern t g.head.level g.head.at in
    let sums = sums_of book ids in
    let s = r.made in
    record {
      good = r.good_now;
      level = s.level;
      there = s.there;
      long = length-map sums (weight vs ws) ∙ sym s.canon.reached ∙ (level_holds u r.good_now head.level).reaches head.at s.there;
      each = λ bits a.
          (let long : length bits ≡ 2 ^ suc m = subst (λ (l : ℕ). length bits ≡ 2 ^ l) (sym el) a in
          let twice : length bits ≡ 2 * n = long ∙ pow-suc 2 m ∙ omega arith in
          let whole : (x : List Bool) → length x ≡ 2 * n → length x ≡ 2 ^ f.head.level = λ x lx. lx ∙ omega arith ∙ sym (pow-suc 2 m) ∙ ap (λ (l : ℕ). 2 ^ l) el in
          let sum_at : List Bool → PairSum = λ b. exit_sum n (exit_in left) (exit_in right) (row_of b) (column_of b) in
          let read = listed_at (2 ^ suc m) sum_at [] bits long in
          let k = get_or (pattern u head.level head.at) (number_of bits) 0 in
          let there : slice_get sums k ≡ Some (sum_at bits) =
          canon_read (exit_sums m left right) (pattern u head.level head.at) sums s.canon (number_of bits) read.0 ∙ slice_get-get_or (exit_sums m left right) (number_of bits) [] read.0 ∙ ap Some read.1 in
          slice_get-map (weight vs ws) sums k ∙ ap (option_map (weight vs ws)) there
          ∙ ap Some (exit_sum-weight n (exit_in left) (exit_in right) vs ws (row_of bits) (column_of bits)
          ∙ product_same n (valued vs (exit_in left)) (value_in p f) (valued ws (exit_in right)) (value_in p g) bits twice
          (λ x lx. matrix_of p r.good f r.functions.first vs (left_values p u book f g vs ws head ids r) x (whole x lx))
          (λ x lx. matrix_of p r.good g r.functions.second ws (right_values p u book f g vs ws head ids r) x (subst (λ (l : ℕ). length x ≡ 2 ^ l) r.functions.level (whole x lx)))));
    }

-- an exit without a weight is one of the grouping's
pub weighed_exit : (u : Levels) (g : Gid) (l : ℕ) (words : List (Option ℤ)) (value : List Bool → Option ℤ) (weighed : Weighed) → Worked u g l words value → AreWeights words weighed → IsWeighedExit u g weighed
weighed_exit u g l words value (Found values) w a = tt
weighed_exit u g l words value (Missing exit) w a = worked_exit u g l words value w exit a

abbrev Answer : Type 0
Answer = Result (Gid × Vec ℤ Global) OpFault

overflow_at : (a b : Assignment) → ◌≡◌ {A = Answer} (Err (OpFault.Overflow a)) (Err (OpFault.Overflow b)) → a ≡ b
overflow_at a b e = cc

-- what is answered has the values
pub weighed_gives : (u : Levels) (g : Gid) (l : ℕ) (words : List (Option ℤ)) (value : List Bool → Option ℤ) (weighed : Weighed) (result : Answer) → Worked u g l words value → AreWeights words weighed → IsWeighedAnswer u g weighed result
    → IfOk result (λ r. Gives u r.0 r.1.items l value)
weighed_gives u g l words value (Found values) result w a is = subst (λ (r : Answer). IfOk r (λ r. Gives u r.0 r.1.items l value)) (sym is) (worked_gives u g l words value w values.items a)
weighed_gives u g l words value (Missing exit) result w a is = subst (λ (r : Answer). IfOk r (λ r. Gives u r.0 r.1.items l value)) (sym is.1) tt

-- and else it is the overflow at the least assignment without a value
pub weighed_least : (u : Levels) (g : Gid) (l : ℕ) (words : List (Option ℤ)) (value : List Bool → Option ℤ) (weighed : Weighed) (result : Answer) → Worked u g l words value → AreWeights words weighed → IsWeighedAnswer u g weighed result
    → IfOverflow result (IsLeastWithout l value)
weighed_least u g l words value (Found values) result w a is at e = absurd (never (g, values) at (sym is ∙ e))
  where
    never : (v : Gid × Vec ℤ Global) (at : Assignment) → ◌≡◌ {A = Answer} (Ok v) (Err (OpFault.Overflow at)) → ⊥
    never v at e = cc
weighed_least u g l words value (Missing exit) result w a is at e =
    subst (λ (x : Assignment). IsLeastWithout l value (bits x)) (overflow_at is.0 at (sym is.1 ∙ e)) (worked_least u g l words value w exit a (bits is.0) is.2)
