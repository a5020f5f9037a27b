use Rattle.std.proofs.Common.{◌≡◌, ◌+◌, ◌*◌, ◌^◌, ◌<◌, ◌++◌, ◌∷◌, [], ℕ, Bool, List, Some, slice_get, length, take, sym, ap, ◌∙◌, arith, add-one}
use Rattle.cf_model.specs.Assignments.{Assignment, bits, number_of, weave}
use Rattle.cf_model.proofs.AssignmentLaws.{length-bits_of, length-weave}
use Rattle.cf_bits.specs.Numbers.{with_digit}
use Rattle.cf_bits.proofs.AssignmentLaws.{number_below, number_of-push, weave_more, length-weave_take, take_whole, digit_below, IsMadeOf, made_of}
use Rattle.cf_bits.proofs.Bits.weave.Goals as goal

pub push_digit-number-requires : goal.push_digit-number-requires
push_digit-number-requires c =
    let row = bits c.args.row in
    let col = bits c.args.col in
    let len : length row ≡ c.args.row.len = length-bits_of c.args.row.len c.args.row.number in
    let len' : length col ≡ c.args.col.len = length-bits_of c.args.col.len c.args.col.number in
    let so_far : length (weave (take c.loop-i.i row) (take c.loop-i.i col)) ≡ 2 * c.loop-i.i =
    length-weave_take c.loop-i.i row col (omega (arith, c.len-length.ensures.len)) (omega (arith, c.len-length.ensures.len, c.requires.equal)) in
    omega (arith, c.loop-i.invariant, number_below (weave (take c.loop-i.i row) (take c.loop-i.i col)) 126 (omega (arith, c.len-length.ensures.len, c.requires.most)))

pub push_digit-number-requires-in-loop-i : goal.push_digit-number-requires-in-loop-i
push_digit-number-requires-in-loop-i c =
    let row = bits c.args.row in
    let col = bits c.args.col in
    let len : length row ≡ c.args.row.len = length-bits_of c.args.row.len c.args.row.number in
    let len' : length col ≡ c.args.col.len = length-bits_of c.args.col.len c.args.col.number in
    let so_far : length (weave (take c.loop-i.i row) (take c.loop-i.i col)) ≡ 2 * c.loop-i.i =
    length-weave_take c.loop-i.i row col (omega (arith, c.len-length.ensures.len)) (omega (arith, c.len-length.ensures.len, c.requires.equal)) in
    let before : c.loop-i.number < 2 ^ 126 =
    omega (arith, c.loop-i.invariant, number_below (weave (take c.loop-i.i row) (take c.loop-i.i col)) 126 (omega (arith, c.len-length.ensures.len, c.requires.most))) in
    digit_below c.loop-i.number c.get.result c.push_digit-number.result before c.push_digit-number.ensures

-- one more pair
two_more : (rs cs : List Bool) (i n m k : ℕ) (r c : Bool) → slice_get rs i ≡ Some r → slice_get cs i ≡ Some c → n ≡ number_of (weave (take i rs) (take i cs))
    → m ≡ with_digit n r → k ≡ with_digit m c → k ≡ number_of (weave (take (i + 1) rs) (take (i + 1) cs))
two_more rs cs i n m k r c hr hc so_far em ek =
    let front : List Bool = weave (take i rs) (take i cs) in
    let woven : weave (take (i + 1) rs) (take (i + 1) cs) ≡ (front ++ r ∷ []) ++ c ∷ [] = rw add-one (weave_more i rs cs r c hr hc) in
    ek
    ∙ ap (λ (n : ℕ). with_digit n c) (em ∙ ap (λ (n : ℕ). with_digit n r) so_far ∙ sym (number_of-push front r))
    ∙ sym (number_of-push (front ++ r ∷ []) c)
    ∙ ap number_of (sym woven)

pub loop-i-preserved : goal.loop-i-preserved
loop-i-preserved c =
    two_more (bits c.args.row) (bits c.args.col) c.loop-i.i c.loop-i.number c.push_digit-number.result _ c.get.result c.get-in-loop-i.result c.get.ensures
    c.get-in-loop-i.ensures c.loop-i.invariant c.push_digit-number.ensures c.push_digit-number-in-loop-i.ensures

-- the number at the end
at_end : (rs cs : List Bool) (i len n : ℕ) → len ≡ length rs → length cs ≡ len → i ≡ len → n ≡ number_of (weave (take i rs) (take i cs)) → n ≡ number_of (weave rs cs)
at_end rs cs i len n l m e so_far =
    so_far ∙ ap (λ v. number_of (weave v (take i cs))) (take_whole rs i (e ∙ l)) ∙ ap (λ v. number_of (weave rs v)) (take_whole cs i (e ∙ sym m))

woven_length : (rs cs : List Bool) (len : ℕ) → len ≡ length rs → length cs ≡ len → 2 * len ≡ length (weave rs cs)
woven_length rs cs len l m = ap (λ (n : ℕ). 2 * n) l ∙ sym (length-weave rs cs (sym (m ∙ l)))

column_length : (row col : Assignment) (len : ℕ) → row.len ≡ col.len → len ≡ row.len → length (bits col) ≡ len
column_length row col len e l = length-bits_of col.len col.number ∙ sym e ∙ sym l

pub new-requires-clause-below : goal.new-requires-clause-below
new-requires-clause-below c =
    let row = bits c.args.row in
    let col = bits c.args.col in
    let cols : length col ≡ c.len-length.result = column_length c.args.row c.args.col c.len-length.result c.requires.equal c.len-length.ensures.len in
    omega (
      arith,
      at_end row col c.loop-i.i c.len-length.result c.loop-i.number c.len-length.ensures.listed cols (omega arith) c.loop-i.invariant,
      number_below (weave row col) (2 * c.len-length.result) (omega (arith, woven_length row col c.len-length.result c.len-length.ensures.listed cols)),
    )

made : (c : goal.After-new) → IsMadeOf c.new.result (weave (bits c.args.row) (bits c.args.col))
made c =
    let row = bits c.args.row in
    let col = bits c.args.col in
    let cols : length col ≡ c.len-length.result = column_length c.args.row c.args.col c.len-length.result c.requires.equal c.len-length.ensures.len in
    made_of c.new.result (2 * c.len-length.result) c.loop-i.number (weave row col) c.new.ensures.parts
    (woven_length row col c.len-length.result c.len-length.ensures.listed cols)
    (at_end row col c.loop-i.i c.len-length.result c.loop-i.number c.len-length.ensures.listed cols (omega arith) c.loop-i.invariant)

pub returns-clause-woven : goal.returns-clause-woven
returns-clause-woven c = (made c).listed

pub returns-clause-number : goal.returns-clause-number
returns-clause-number c = (made c).number
