use Rattle.std.proofs.Common.{◌+◌, ap, sym, subst, ◌∙◌, arith}
use Rattle.std.specs.Prelude.{Err}
use Rattle.cf_circuits.specs.LogicalLines.{logical}
use Rattle.cf_blif.proofs.TextFacts.{follows-line, follows-error, follows-last, follows-end, end-empty, end-some, empty_is, full_is, fault_of, refused, same_err}
use Rattle.cf_blif.specs.declared.faults.BlifFault.TheVariants as blif
use Rattle.cf_circuits.specs.Kept.{IsNetlist}
use Rattle.cf_circuits.proofs.KeptLaws.{netlist-kept}
use Rattle.cf_blif.proofs.text.read_blif.Goals as goal

pub loop-rest-preserved : goal.loop-rest-preserved
loop-rest-preserved c = record {
  follows =
      follows-line (logical c.args.bytes.now) c.loop-rest.rest.now c.in_ok-later.later.now c.loop-rest.reader c.read_line.new.reader c.loop-rest.number
      (c.loop-rest.number + c.in_ok-later.count) _ c.loop-rest.invariant.follows (c.in_ok-later.ensures.taken c.loop-rest.number)
      c.in-Ok.ensures.skipped c.in-Ok.ensures.read;
  within = omega (arith, c.loop-rest.invariant.within, c.in_ok-later.ensures.shorter);
}

pub returns-in-Err-clause-faulty : goal.returns-in-Err-clause-faulty
returns-in-Err-clause-faulty c line why is =
    let e = same_err c.in-Err.fault (blif.At line why) is in
    let some = c.in-Err.ensures.told line why (ap Err e) in
    follows-error (logical c.args.bytes.now) c.loop-rest.rest.now c.in_ok-later.later.now c.loop-rest.reader c.loop-rest.number
    (c.loop-rest.number + c.in_ok-later.count) line c.take_line.new.words why c.loop-rest.invariant.follows (c.in_ok-later.ensures.taken c.loop-rest.number) some
    (refused c.loop-rest.reader c.read_line.new.reader c.loop-rest.number line c.take_line.new.words why c.in-Err.fault e (c.in-Err.ensures.read some))

pub returns-then-is_empty-clause-faulty : goal.returns-then-is_empty-clause-faulty
returns-then-is_empty-clause-faulty c line why is =
    end-empty (logical c.args.bytes.now) c.loop-rest.reader
    (follows-last (logical c.args.bytes.now) c.loop-rest.rest.now c.loop-rest.reader c.loop-rest.number c.loop-rest.invariant.follows
    (empty_is c.loop-rest.rest.now c.is_empty.result c.is_empty.ensures c.loop-rest-test.false))
    (sym (ap (λ s. s.done) c.in_ok-close_model.ensures) ∙ sym c.items.ensures ∙ empty_is c.items.result.now c.is_empty-2.result c.is_empty-2.ensures c.if-is_empty.true)
    ∙ ap fault_of is

pub returns-clause-netlist : goal.returns-clause-netlist
returns-clause-netlist c =
    ap (λ s. s.done) c.in_ok-close_model.ensures
    ∙ follows-end (logical c.args.bytes.now) c.loop-rest.reader
    (follows-last (logical c.args.bytes.now) c.loop-rest.rest.now c.loop-rest.reader c.loop-rest.number c.loop-rest.invariant.follows
    (empty_is c.loop-rest.rest.now c.is_empty.result c.is_empty.ensures c.loop-rest-test.false))

pub returns-clause-faultless : goal.returns-clause-faultless
returns-clause-faultless c =
    end-some (logical c.args.bytes.now) c.loop-rest.reader
    (follows-last (logical c.args.bytes.now) c.loop-rest.rest.now c.loop-rest.reader c.loop-rest.number c.loop-rest.invariant.follows
    (empty_is c.loop-rest.rest.now c.is_empty.result c.is_empty.ensures c.loop-rest-test.false))
    (λ e. full_is c.items.result.now c.is_empty-2.result c.is_empty-2.ensures c.if-is_empty.false (c.items.ensures ∙ ap (λ s. s.done) c.in_ok-close_model.ensures ∙ e))

pub returns-clause-kept : goal.returns-clause-kept
returns-clause-kept c = subst IsNetlist (sym (returns-clause-netlist c)) (netlist-kept c.args.bytes.now (returns-clause-faultless c))
