use Rattle.cf_circuit.proofs.TruthCases.{by_not, by_less, by_or, by_and, by_imply, by_choice}
use Rattle.cf_circuit.proofs.truths.choice_by.Goals as goal

pub returns-in_ok-negated-in-Never-Always-clause-told : goal.returns-in_ok-negated-in-Never-Always-clause-told
returns-in_ok-negated-in-Never-Always-clause-told c =
    by_not c.args.pkg.now c.negated.new.pkg c.args.f c.args.b c.args.c c.in_ok-negated-in-Never-Always.field-0 c.in-Never-Always.is-0 c.in-Never-Always.is-1 c.in_ok-negated-in-Never-Always.ensures.values

pub returns-in_ok-joined-in-Never-Where-clause-told : goal.returns-in_ok-joined-in-Never-Where-clause-told
returns-in_ok-joined-in-Never-Where-clause-told c =
    by_less c.args.pkg.now c.joined.new.pkg c.args.f c.args.b c.args.c c.in-Never-Where.h c.in_ok-joined-in-Never-Where.field-0 c.in-Never-Where.is-0 c.in-Never-Where.is-1 c.in_ok-joined-in-Never-Where.ensures.values

pub returns-in_ok-joined-in-Always-Where-clause-told : goal.returns-in_ok-joined-in-Always-Where-clause-told
returns-in_ok-joined-in-Always-Where-clause-told c =
    by_or c.args.pkg.now c.joined-in-Always-Where.new.pkg c.args.f c.args.b c.args.c c.in-Always-Where.h c.in_ok-joined-in-Always-Where.field-0 c.in-Always-Where.is-0 c.in-Always-Where.is-1 c.in_ok-joined-in-Always-Where.ensures.values

pub returns-in_ok-joined-in-Where-Never-clause-told : goal.returns-in_ok-joined-in-Where-Never-clause-told
returns-in_ok-joined-in-Where-Never-clause-told c =
    by_and c.args.pkg.now c.joined-in-Where-Never.new.pkg c.args.f c.args.b c.args.c c.in-Where-Never.g c.in_ok-joined-in-Where-Never.field-0 c.in-Where-Never.is-0 c.in-Where-Never.is-1 c.in_ok-joined-in-Where-Never.ensures.values

pub returns-in_ok-joined-in-Where-Always-clause-told : goal.returns-in_ok-joined-in-Where-Always-clause-told
returns-in_ok-joined-in-Where-Always-clause-told c =
    by_imply c.args.pkg.now c.joined-in-Where-Always.new.pkg c.args.f c.args.b c.args.c c.negated-in-Where-Always.new.pkg c.in-Where-Always.g c.in_ok-elsewhere-in-Where-Always.elsewhere
    c.in_ok-joined-in-Where-Always.field-0 c.negated-in-Where-Always.ensures.kept c.in-Where-Always.is-0 c.in-Where-Always.is-1 c.in_ok-elsewhere-in-Where-Always.ensures.values
    c.in_ok-joined-in-Where-Always.ensures.values

pub returns-in_ok-chosen-in-Where-Where-clause-told : goal.returns-in_ok-chosen-in-Where-Where-clause-told
returns-in_ok-chosen-in-Where-Where-clause-told c =
    by_choice c.args.pkg.now c.chosen.new.pkg c.args.f c.args.b c.args.c c.in-Where-Where.g c.in-Where-Where.h c.in_ok-chosen-in-Where-Where.field-0 c.in-Where-Where.is-0 c.in-Where-Where.is-1 c.in_ok-chosen-in-Where-Where.ensures.values
