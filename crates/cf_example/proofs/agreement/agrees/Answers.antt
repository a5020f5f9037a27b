use Rattle.std.proofs.Common.{pos, Bool, List, get_or, refl}
use Rattle.cf_model.specs.Terms.{truth}
use Rattle.cf_model.specs.declared.terms.Word2.TheVariants.{And}
use Rattle.cf_pkg.proofs.Valued.{Keeps-trans}
use Rattle.cf_example.specs.Agreement.{is_same, all_same}
use Rattle.cf_example.proofs.Agreeing.{pair_there, over_none, over_more, all_more}
use Rattle.cf_example.proofs.agreement.agrees.Goals as goal

pub loop-k-init : goal.loop-k-init
loop-k-init g c = over_none all_same c.args.pkg.now c.constant.new.self c.args.level c.args.pairs.now c.in_ok-all.all (pos 1) (λ bits. refl) c.in_ok-all.ensures.kept c.in_ok-all.ensures.level c.in_ok-all.ensures.means

pub same-requires-clause-pair : goal.same-requires-clause-pair
same-requires-clause-pair g c = pair_there c.args.level c.args.pairs.now c.loop-k.k (0, 0) c.requires.pairs c.loop-k-test.true

pub returns-in_err-all-2-clause-kept : goal.returns-in_err-all-2-clause-kept
returns-in_err-all-2-clause-kept g c =
    Keeps-trans c.args.pkg.now c.same.new.pkg c.apply_word.new.self (Keeps-trans c.args.pkg.now c.loop-k.pkg c.same.new.pkg c.loop-k.invariant.kept c.in_ok-both.ensures.kept) c.in_err-all-2.ensures.kept

pub loop-k-preserved : goal.loop-k-preserved
loop-k-preserved g c =
    let pairs = c.args.pairs.now in
    let k = c.loop-k.k in
    let y : List Bool → _ = λ bits. truth (is_same bits (get_or pairs k (0, 0))) in
    over_more all_same c.args.pkg.now c.loop-k.pkg c.same.new.pkg c.apply_word.new.self And c.args.level pairs k c.loop-k.all c.in_ok-both.both c.in_ok-all-2.all y
    c.loop-k.invariant c.in_ok-both.ensures.kept c.in_ok-both.ensures.values c.in_ok-all-2.ensures.kept (all_more pairs k (0, 0) c.loop-k-test.true) c.in_ok-all-2.ensures.outcome.answer.values
