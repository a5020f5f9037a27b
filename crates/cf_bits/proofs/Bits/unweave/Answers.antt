use Rattle.std.proofs.Common.{◌≡◌, ◌*◌, ◌/◌, ◌%◌, ◌^◌, ◌<◌, ◌≤◌, ℕ, Bool, List, length, take, sym, ap, ◌∙◌, arith}
use Rattle.std.proofs.lemmas.List.{length-take-le}
use Rattle.cf_model.specs.Assignments.{Assignment, bits, number_of, weave, row_of, column_of}
use Rattle.cf_model.proofs.AssignmentLaws.{length-bits_of, length-unweave, weave-unweave}
use Rattle.cf_bits.specs.Numbers.{with_digit}
use Rattle.cf_bits.proofs.AssignmentLaws.{number_below, get-row_of, get-column_of, number_of-take_more, take_whole, IsMadeOf, made_of}
use Rattle.cf_bits.proofs.Bits.unweave.Goals as goal

-- the number of the first i bits of a list of h, of at most 64
front_below : (bs : List Bool) (i h n : ℕ) → length bs ≡ h → i ≤ h → h ≤ 64 → n ≡ number_of (take i bs) → n < 2 ^ 127
front_below bs i h n l most few e = omega (arith, e, number_below (take i bs) 127 (omega (arith, length-take-le i bs (omega arith))))

-- twice the half
halved : (len half : ℕ) → len % 2 ≡ 0 → half ≡ len / 2 → len ≡ 2 * half
halved len half e h = omega (arith, e, h)

whole : (a : Assignment) (len : ℕ) → len ≡ a.len → a.len % 2 ≡ 0 → length (bits a) ≡ 2 * (len / 2)
whole a len l e = length-bits_of a.len a.number ∙ sym l ∙ halved len (len / 2) (ap (λ (n : ℕ). n % 2) l ∙ e) (omega arith)

lengths : (a : Assignment) (len : ℕ) → len ≡ a.len → a.len % 2 ≡ 0 → (length (row_of (bits a)) ≡ len / 2) × (length (column_of (bits a)) ≡ len / 2)
lengths a len l e = length-unweave (len / 2) (bits a) (whole a len l e)

pub push_digit-row-requires : goal.push_digit-row-requires
push_digit-row-requires c =
    front_below (row_of (bits c.args.self)) c.loop-i.i (c.len-half.result / 2) c.loop-i.row (lengths c.args.self c.len-half.result c.len-half.ensures.len c.requires.even).0 (omega arith) (omega (arith, c.len-half.ensures.most)) c.loop-i.invariant.row

pub push_digit-column-requires : goal.push_digit-column-requires
push_digit-column-requires c =
    front_below (column_of (bits c.args.self)) c.loop-i.i (c.len-half.result / 2) c.loop-i.column (lengths c.args.self c.len-half.result c.len-half.ensures.len c.requires.even).1 (omega arith) (omega (arith, c.len-half.ensures.most)) c.loop-i.invariant.column

pub loop-i-preserved : goal.loop-i-preserved
loop-i-preserved c = record {
  row = c.push_digit-row.ensures ∙ ap (λ (n : ℕ). with_digit n c.get.result) c.loop-i.invariant.row
      ∙ sym (number_of-take_more (row_of (bits c.args.self)) c.loop-i.i c.get.result (get-row_of c.loop-i.i (bits c.args.self) c.get.result c.get.ensures));
  column = c.push_digit-column.ensures ∙ ap (λ (n : ℕ). with_digit n c.get-in-loop-i.result) c.loop-i.invariant.column
      ∙ sym (number_of-take_more (column_of (bits c.args.self)) c.loop-i.i c.get-in-loop-i.result (get-column_of c.loop-i.i (bits c.args.self) c.get-in-loop-i.result c.get-in-loop-i.ensures));
}

-- the numbers at the end
at_end : (bs : List Bool) (i h n : ℕ) → length bs ≡ h → i ≡ h → n ≡ number_of (take i bs) → n ≡ number_of bs
at_end bs i h n l e so_far = so_far ∙ ap number_of (take_whole bs i (e ∙ sym l))

pub new-requires-clause-below : goal.new-requires-clause-below
new-requires-clause-below c = omega (arith, at_end (row_of (bits c.args.self)) c.loop-i.i (c.len-half.result / 2) c.loop-i.row (lengths c.args.self c.len-half.result c.len-half.ensures.len c.requires.even).0 (omega arith) c.loop-i.invariant.row, number_below (row_of (bits c.args.self)) (c.len-half.result / 2) (omega (arith, (lengths c.args.self c.len-half.result c.len-half.ensures.len c.requires.even).0)))

pub new-requires-2-clause-below : goal.new-requires-2-clause-below
new-requires-2-clause-below c = omega (arith, at_end (column_of (bits c.args.self)) c.loop-i.i (c.len-half.result / 2) c.loop-i.column (lengths c.args.self c.len-half.result c.len-half.ensures.len c.requires.even).1 (omega arith) c.loop-i.invariant.column, number_below (column_of (bits c.args.self)) (c.len-half.result / 2) (omega (arith, (lengths c.args.self c.len-half.result c.len-half.ensures.len c.requires.even).1)))

row : (c : goal.After-new-2) → IsMadeOf c.new.result (row_of (bits c.args.self))
row c = made_of c.new.result (c.len-half.result / 2) c.loop-i.row (row_of (bits c.args.self)) c.new.ensures.parts (sym (lengths c.args.self c.len-half.result c.len-half.ensures.len c.requires.even).0) (at_end (row_of (bits c.args.self)) c.loop-i.i (c.len-half.result / 2) c.loop-i.row (lengths c.args.self c.len-half.result c.len-half.ensures.len c.requires.even).0 (omega arith) c.loop-i.invariant.row)

column : (c : goal.After-new-2) → IsMadeOf c.new-2.result (column_of (bits c.args.self))
column c = made_of c.new-2.result (c.len-half.result / 2) c.loop-i.column (column_of (bits c.args.self)) c.new-2.ensures.parts (sym (lengths c.args.self c.len-half.result c.len-half.ensures.len c.requires.even).1) (at_end (column_of (bits c.args.self)) c.loop-i.i (c.len-half.result / 2) c.loop-i.column (lengths c.args.self c.len-half.result c.len-half.ensures.len c.requires.even).1 (omega arith) c.loop-i.invariant.column)

pub returns-clause-unwoven : goal.returns-clause-unwoven
returns-clause-unwoven c =
    let r : bits c.new.result ≡ row_of (bits c.args.self) = (row c).listed in
    let s : bits c.new-2.result ≡ column_of (bits c.args.self) = (column c).listed in
    cc

pub returns-clause-woven : goal.returns-clause-woven
returns-clause-woven c =
    ap (λ v. weave v (bits c.new-2.result)) (row c).listed ∙ ap (λ v. weave (row_of (bits c.args.self)) v) (column c).listed
    ∙ weave-unweave (c.len-half.result / 2) (bits c.args.self) (whole c.args.self c.len-half.result c.len-half.ensures.len c.requires.even)

pub returns-clause-row_number : goal.returns-clause-row_number
returns-clause-row_number c = (row c).number

pub returns-clause-column_number : goal.returns-clause-column_number
returns-clause-column_number c = (column c).number
