use Rattle.std.proofs.Common.{◌++◌, sym, subst, ◌∙◌}
use Rattle.cf_session.specs.Stepping.{Puts}
use Rattle.cf_top.specs.Views.{reason_view, last_name, line_of_name}
use Rattle.cf_top.proofs.Refused.{puts-on, puts-cut, refusal-is}
use Rattle.cf_top.proofs.script.put_refusal.Goals as goal

pub returns-then-put : goal.returns-then-put
returns-then-put g c =
    let r = reason_view c.args.reason.now in
    subst (λ text. Puts (g.K.Sink.shown c.args.out.now) (g.K.Sink.shown c.put_name.new.out) text c.put_name.result)
    (refusal-is c.args.number c.number.result c.detail.result r c.bytes.result.now
    (c.bytes.ensures.bytes ∙ c.refused_text.ensures.text) c.number.ensures (c.detail.ensures c.args.number c.number.result))
    (puts-on (g.K.Sink.shown c.args.out.now) (g.K.Sink.shown c.put.new.out) (g.K.Sink.shown c.put_name.new.out) c.bytes.result.now (line_of_name (last_name r)) c.put_name.result
    c.if-put.ensures c.put_name.ensures)

pub returns-else-put : goal.returns-else-put
returns-else-put g c =
    let r = reason_view c.args.reason.now in
    subst (λ text. Puts (g.K.Sink.shown c.args.out.now) (g.K.Sink.shown c.put.new.out) text c.put.result)
    (refusal-is c.args.number c.number.result c.detail.result r c.bytes.result.now
    (c.bytes.ensures.bytes ∙ c.refused_text.ensures.text) c.number.ensures (c.detail.ensures c.args.number c.number.result))
    (subst (Puts (g.K.Sink.shown c.args.out.now) (g.K.Sink.shown c.put.new.out) (c.bytes.result.now ++ line_of_name (last_name r))) (sym c.if-put.false)
    (puts-cut (g.K.Sink.shown c.args.out.now) (g.K.Sink.shown c.put.new.out) c.bytes.result.now (line_of_name (last_name r)) c.if-put.ensures))
