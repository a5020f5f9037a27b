use Rattle.std.proofs.Common.{pos, Bool, List, get_or, refl}
use Rattle.std.specs.Prelude.{not}
use Rattle.cf_model.specs.Terms.{truth}
use Rattle.cf_model.specs.declared.terms.Word2.TheVariants.{Or}
use Rattle.cf_pkg.proofs.Valued.{Keeps-trans}
use Rattle.cf_example.specs.Agreement.{is_same, some_differ}
use Rattle.cf_example.proofs.Agreeing.{pair_there, over_none, over_more, differ_more}
use Rattle.cf_example.proofs.agreement.differs.Goals as goal

pub loop-i-init : goal.loop-i-init
loop-i-init g c = over_none some_differ c.args.pkg.now c.constant.new.self c.args.level c.args.pairs.now c.in_ok-any.any (pos 0) (λ bits. refl) c.in_ok-any.ensures.kept c.in_ok-any.ensures.level c.in_ok-any.ensures.means

pub different-requires-clause-pair : goal.different-requires-clause-pair
different-requires-clause-pair g c = pair_there c.args.level c.args.pairs.now c.loop-i.i (0, 0) c.requires.pairs c.loop-i-test.true

pub returns-in_err-any-2-clause-kept : goal.returns-in_err-any-2-clause-kept
returns-in_err-any-2-clause-kept g c =
    Keeps-trans c.args.pkg.now c.different.new.pkg c.apply_word.new.self (Keeps-trans c.args.pkg.now c.loop-i.pkg c.different.new.pkg c.loop-i.invariant.kept c.in_ok-both.ensures.kept) c.in_err-any-2.ensures.kept

pub loop-i-preserved : goal.loop-i-preserved
loop-i-preserved g c =
    let pairs = c.args.pairs.now in
    let i = c.loop-i.i in
    let y : List Bool → _ = λ bits. truth (not (is_same bits (get_or pairs i (0, 0)))) in
    over_more some_differ c.args.pkg.now c.loop-i.pkg c.different.new.pkg c.apply_word.new.self Or c.args.level pairs i c.loop-i.any c.in_ok-both.both c.in_ok-any-2.any y
    c.loop-i.invariant c.in_ok-both.ensures.kept c.in_ok-both.ensures.values c.in_ok-any-2.ensures.kept (differ_more pairs i (0, 0) c.loop-i-test.true) c.in_ok-any-2.ensures.outcome.answer.values
