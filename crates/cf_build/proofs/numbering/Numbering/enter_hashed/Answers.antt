use Rattle.std.proofs.Common.{◌∙◌, List, map, sym, ap, refl, inl, inr, arith}
use Rattle.cf_build.proofs.KeyLaws.{hashed_known, hashed_new, ready_hashed}
use Rattle.cf_build.proofs.numbering.Numbering.enter_hashed.Goals as goal

pub returns-then-not-is_new-clause-entered : goal.returns-then-not-is_new-clause-entered
returns-then-not-is_new-clause-entered g c =
    inl (
      refl,
      (hashed_known g.T.Label.is_label g.T.Label.key_of g.met.T.Label.apart c.args.self.now.different.items c.args.self.now.keys.keys c.insert_full.new.self.keys c.args.label c.in_ok-at.at c.key.result c.in_ok-at.is_new
          c.requires.ready c.requires.many c.key.ensures.label c.key.ensures.key c.in_ok-at.ensures.keys c.in_ok-at.ensures.stored c.in_ok-at.ensures.added c.if-not-is_new.true).1,
    )

pub returns-clause-ready : goal.returns-clause-ready
returns-clause-ready g c =
    let n = hashed_new g.T.Label.is_label g.T.Label.key_of c.args.self.now.different.items c.args.self.now.keys.keys c.insert_full.new.self.keys c.args.label c.in_ok-at.at c.key.result c.in_ok-at.is_new
    c.requires.ready c.requires.many c.key.ensures.key c.in_ok-at.ensures.keys c.in_ok-at.ensures.stored c.in_ok-at.ensures.added c.if-not-is_new.false in
    ready_hashed g.T.Label.is_label g.T.Label.key_of c.args.self.now.different.items c.push.new.self.items c.insert_full.new.self.keys c.args.label c.requires.ready.tested c.requires.ready.differ (omega (arith, c.requires.many)) c.key.ensures.label n.2
    c.in_ok-push.ensures.items (n.0 ∙ ap (λ (v : List _). map g.T.Label.key_of v) (sym c.in_ok-push.ensures.items))

pub returns-clause-entered : goal.returns-clause-entered
returns-clause-entered g c =
    let n = hashed_new g.T.Label.is_label g.T.Label.key_of c.args.self.now.different.items c.args.self.now.keys.keys c.insert_full.new.self.keys c.args.label c.in_ok-at.at c.key.result c.in_ok-at.is_new
    c.requires.ready c.requires.many c.key.ensures.key c.in_ok-at.ensures.keys c.in_ok-at.ensures.stored c.in_ok-at.ensures.added c.if-not-is_new.false in
    inr (c.in_ok-push.ensures.items, n.1, n.2)
