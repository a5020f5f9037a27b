use Rattle.std.proofs.Common.{◌∙◌, ◌+◌, ap, arith}
use Rattle.std.proofs.lemmas.List.{with_items_is}
use Rattle.cf_io.specs.Windows.{held, between}
use Rattle.cf_io.specs.Held.{Held}
use Rattle.cf_io.proofs.WindowLemmas.{comes_behind, front_kept, stream_kept}
use Rattle.cf_io.proofs.lines.refill.Goals as goal

pub returns-in-Got-clause-stream : goal.returns-in-Got-clause-stream
returns-in-Got-clause-stream g c = λ told.
    let w = c.make_room.new.window in
    let new = c.read_behind-got.new.buf in
    stream_kept w.from w.upto c.in-Got.count (w.upto + c.in-Got.count) _ new c.deref_mut.result.now (held c.args.window.now) _ _
    (with_items_is w.buf new (c.read_behind-got.ensures.room ∙ c.deref_mut.ensures.len)) c.make_room.ensures.sound.ordered (omega arith) c.read_behind-got.ensures.kept
    (ap (between w.from w.upto) c.deref_mut.ensures.value ∙ ap (λ (h : Held). h.bytes) c.make_room.ensures.same) (c.in-Got.ensures.reads.left told)

pub returns-in-End-clause-kept : goal.returns-in-End-clause-kept
returns-in-End-clause-kept g c =
    let w = c.make_room.new.window in
    let new = c.read_behind-got.new.buf in
    front_kept w.from w.upto 0 w.upto _ new c.deref_mut.result.now (held c.args.window.now)
    (with_items_is w.buf new (c.read_behind-got.ensures.room ∙ c.deref_mut.ensures.len)) c.make_room.ensures.sound.ordered (omega arith) c.read_behind-got.ensures.kept
    (ap (between w.from w.upto) c.deref_mut.ensures.value ∙ ap (λ (h : Held). h.bytes) c.make_room.ensures.same)

pub returns-in-End-clause-stream : goal.returns-in-End-clause-stream
returns-in-End-clause-stream g c = λ told.
    let w = c.make_room.new.window in
    let new = c.read_behind-got.new.buf in
    stream_kept w.from w.upto 0 w.upto _ new c.deref_mut.result.now (held c.args.window.now) _ _
    (with_items_is w.buf new (c.read_behind-got.ensures.room ∙ c.deref_mut.ensures.len)) c.make_room.ensures.sound.ordered (omega arith) c.read_behind-got.ensures.kept
    (ap (between w.from w.upto) c.deref_mut.ensures.value ∙ ap (λ (h : Held). h.bytes) c.make_room.ensures.same) (c.in-End.ensures.reads.left told)

pub returns-in-Failed-clause-kept : goal.returns-in-Failed-clause-kept
returns-in-Failed-clause-kept g c =
    let w = c.make_room.new.window in
    let new = c.read_behind-got.new.buf in
    front_kept w.from w.upto 0 w.upto _ new c.deref_mut.result.now (held c.args.window.now)
    (with_items_is w.buf new (c.read_behind-got.ensures.room ∙ c.deref_mut.ensures.len)) c.make_room.ensures.sound.ordered (omega arith) c.read_behind-got.ensures.kept
    (ap (between w.from w.upto) c.deref_mut.ensures.value ∙ ap (λ (h : Held). h.bytes) c.make_room.ensures.same)

pub returns-in-Failed-clause-stream : goal.returns-in-Failed-clause-stream
returns-in-Failed-clause-stream g c = λ told.
    let w = c.make_room.new.window in
    let new = c.read_behind-got.new.buf in
    stream_kept w.from w.upto 0 w.upto _ new c.deref_mut.result.now (held c.args.window.now) _ _
    (with_items_is w.buf new (c.read_behind-got.ensures.room ∙ c.deref_mut.ensures.len)) c.make_room.ensures.sound.ordered (omega arith) c.read_behind-got.ensures.kept
    (ap (between w.from w.upto) c.deref_mut.ensures.value ∙ ap (λ (h : Held). h.bytes) c.make_room.ensures.same) (c.in-Failed.ensures.reads.left told)

pub returns-in-Got-clause-comes : goal.returns-in-Got-clause-comes
returns-in-Got-clause-comes g c = λ told.
    let w = c.make_room.new.window in
    let new = c.read_behind-got.new.buf in
    comes_behind w.from w.upto c.in-Got.count (w.upto + c.in-Got.count) _ new c.deref_mut.result.now (held c.args.window.now) _ _
    (with_items_is w.buf new (c.read_behind-got.ensures.room ∙ c.deref_mut.ensures.len)) c.make_room.ensures.sound.ordered (omega arith) c.read_behind-got.ensures.kept
    (ap (between w.from w.upto) c.deref_mut.ensures.value ∙ ap (λ (h : Held). h.bytes) c.make_room.ensures.same) (c.in-Got.ensures.reads.left told) (c.in-Got.ensures.reads.read told)

pub returns-in-End-clause-comes : goal.returns-in-End-clause-comes
returns-in-End-clause-comes g c = λ told.
    let w = c.make_room.new.window in
    let new = c.read_behind-got.new.buf in
    comes_behind w.from w.upto 0 w.upto _ new c.deref_mut.result.now (held c.args.window.now) _ _
    (with_items_is w.buf new (c.read_behind-got.ensures.room ∙ c.deref_mut.ensures.len)) c.make_room.ensures.sound.ordered (omega arith) c.read_behind-got.ensures.kept
    (ap (between w.from w.upto) c.deref_mut.ensures.value ∙ ap (λ (h : Held). h.bytes) c.make_room.ensures.same) (c.in-End.ensures.reads.left told) (c.in-End.ensures.reads.read told)

pub returns-in-Failed-clause-comes : goal.returns-in-Failed-clause-comes
returns-in-Failed-clause-comes g c = λ told.
    let w = c.make_room.new.window in
    let new = c.read_behind-got.new.buf in
    comes_behind w.from w.upto 0 w.upto _ new c.deref_mut.result.now (held c.args.window.now) _ _
    (with_items_is w.buf new (c.read_behind-got.ensures.room ∙ c.deref_mut.ensures.len)) c.make_room.ensures.sound.ordered (omega arith) c.read_behind-got.ensures.kept
    (ap (between w.from w.upto) c.deref_mut.ensures.value ∙ ap (λ (h : Held). h.bytes) c.make_room.ensures.same) (c.in-Failed.ensures.reads.left told) (c.in-Failed.ensures.reads.read told)
