use Rattle.std.proofs.Common.{◌≡◌, ◌<◌, ℤ, [], ◌∷◌, ◌++◌, Option, None, Some, length, map, get_or, sym, ◌∙◌, ap, subst, arith, rules}
use mir.Syntax.{w128}
use mir.Val.{SFits}
use Rattle.std.proofs.lemmas.Int.{to_z-of_z}
use Rattle.std.proofs.lemmas.List.{length-map, get_or-map}
use Rattle.cf_model.specs.PairSums.{PairSum, weight}
use Rattle.cf_comb.specs.CombBooks.{PairsBelow, sum_of}
use Rattle.cf_pkg.proofs.ExitWork.{worked_more, first_found}
use Rattle.cf_matmul.specs.Symbolic.{sums_of}
use Rattle.cf_matmul.proofs.Loops.{no_id}
use Rattle.cf_matmul.proofs.RowTurns.{take_all}
use Rattle.cf_matmul.proofs.weights.weigh_all.Goals as goal

pub weigh-requires-clause-owned : goal.weigh-requires-clause-owned
weigh-requires-clause-owned c = c.requires.owned c.loop-i.i no_id c.loop-i-test.true

pub weigh-requires-clause-within : goal.weigh-requires-clause-within
weigh-requires-clause-within c =
    let book = c.args.book.now in
    let sums = c.args.sums.now in
    let i = c.loop-i.i in
    subst (PairsBelow (length c.args.left.now) (length c.args.right.now)) (get_or-map (sum_of book) sums i no_id [] c.loop-i-test.true)
    (c.requires.within i [] (omega (arith, c.loop-i-test.true, length-map sums (sum_of book))))

pub returns-in_default : goal.returns-in_default
returns-in_default c =
    let book = c.args.book.now in
    let sums = c.args.sums.now in
    let i = c.loop-i.i in
    let word : PairSum → Option ℤ = weight c.args.left.now c.args.right.now in
    let li : i < length (sums_of book sums) = omega (arith, c.loop-i-test.true, length-map sums (sum_of book)) in
    let none : word (get_or (sums_of book sums) i []) ≡ None = ap word (get_or-map (sum_of book) sums i no_id [] c.loop-i-test.true) ∙ sym c.weigh.ensures ∙ c.in_default.is in
    first_found word (sums_of book sums) i [] c.loop-i.values.items li c.loop-i.invariant none

pub loop-i-preserved : goal.loop-i-preserved
loop-i-preserved c =
    let book = c.args.book.now in
    let sums = c.args.sums.now in
    let i = c.loop-i.i in
    let word : PairSum → Option ℤ = weight c.args.left.now c.args.right.now in
    let li : i < length (sums_of book sums) = omega (arith, c.loop-i-test.true, length-map sums (sum_of book)) in
    let some : word (get_or (sums_of book sums) i []) ≡ Some c.in-Some.value = ap word (get_or-map (sum_of book) sums i no_id [] c.loop-i-test.true) ∙ sym c.weigh.ensures ∙ c.in-Some.is in
    let range : SFits w128 c.in-Some.value = search rules in
    let long : c.push.new.self.items ≡ c.loop-i.values.items ++ c.in-Some.value ∷ [] = search (rules, to_z-of_z) in
    worked_more word (sums_of book sums) i [] c.loop-i.values.items c.push.new.self.items c.in-Some.value li c.loop-i.invariant long some

pub returns : goal.returns
returns c =
    let book = c.args.book.now in
    let sums = c.args.sums.now in
    c.loop-i.invariant ∙ ap (map (weight c.args.left.now c.args.right.now)) (take_all (sums_of book sums) c.loop-i.i (omega (arith, c.loop-i-test.false, length-map sums (sum_of book))))
