use Rattle.std.proofs.Common.{eq-eqb, arith, length-drop, length, ◌-◌, ◌+◌, ap, subst}
use Rattle.std.proofs.lemmas.List.{take_all, take_rest}
use Rattle.cf_reference.specs.Lines.{NoNewline}
use Rattle.cf_io.proofs.WindowLemmas.{plain_seen}
use Rattle.cf_io.proofs.lines.newline_from.Goals as goal

pub returns-in-Some-clause-before : goal.returns-in-Some-clause-before
returns-in-Some-clause-before c =
    let high = c.in-Some.ensures.0.high in
    let all = ap length (take_rest c.args.bytes.now c.args.seen) in
    plain_seen c.args.seen c.in-Some.i c.args.bytes.now _ (omega (arith, length-drop c.args.seen c.args.bytes.now)) (take_rest c.args.bytes.now c.args.seen)
    c.requires.none_before (λ k lt e. c.in-Some.ensures.0.before k (omega arith) lt (eq-eqb _ 10 e))

pub returns-in-None-clause-none : goal.returns-in-None-clause-none
returns-in-None-clause-none c =
    let n = length c.args.bytes.now - c.args.seen in
    let all = ap length (take_rest c.args.bytes.now c.args.seen) in
    subst NoNewline (take_all (c.args.seen + (length c.args.bytes.now - c.args.seen)) c.args.bytes.now (omega arith))
    (plain_seen c.args.seen (length c.args.bytes.now - c.args.seen) c.args.bytes.now _ (omega arith) (take_rest c.args.bytes.now c.args.seen)
    c.requires.none_before (λ k lt e. c.in-None.ensures k (omega arith) (omega (arith, length-drop c.args.seen c.args.bytes.now)) (eq-eqb _ 10 e)))
