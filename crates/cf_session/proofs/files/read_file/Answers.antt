use Rattle.std.proofs.Common.{◌++◌, length, take, sym, ap, ◌∙◌, subst, arith}
use Rattle.std.proofs.lemmas.List.{with_items_is}
use Rattle.cf_io.specs.Opening.{Opens}
use Rattle.cf_session.proofs.ReadFacts.{HasRead, read-none, read-more, read-end, read-kept, read-failed, read-large, read-too-large, read-smaller, room-within, room-left, piece-there}
use Rattle.cf_session.proofs.files.read_file.Goals as goal

pub loop-bytes-init : goal.loop-bytes-init
loop-bytes-init g c = (
  subst (HasRead (g.F.Files.shown c.args.files.now) (g.F.Files.shown c.open.new.self) c.args.name.now) (sym c.new-bytes.ensures.items)
      (read-none (g.F.Files.shown c.args.files.now) (g.F.Files.shown c.open.new.self) c.args.name.now
      (subst (λ a. Opens (g.F.Files.shown c.args.files.now) (g.F.Files.shown c.open.new.self) c.args.name.now a) c.in-Opened.is c.open.ensures)),
  sym c.in_ok-piece.piece.ok.0 ∙ c.in_ok-piece.ensures.len,
)

pub read_front-requires-clause-opened : goal.read_front-requires-clause-opened
read_front-requires-clause-opened g c = c.loop-bytes.invariant.0.opened

pub read_front-requires-clause-within : goal.read_front-requires-clause-within
read_front-requires-clause-within g c =
    room-within c.min-room.result c.len-in-loop-bytes.result _ c.min-room.ensures (ap length c.deref_mut.ensures.value ∙ c.loop-bytes.invariant.1)

pub slice_bounds-extend_from_slice-end : goal.slice_bounds-extend_from_slice-end
slice_bounds-extend_from_slice-end g c =
    let buf = c.read_front.new.buf in
    let room = room-within c.min-room.result c.len-in-loop-bytes.result (length c.deref_mut.result.now) c.min-room.ensures (ap length c.deref_mut.ensures.value ∙ c.loop-bytes.invariant.1) in
    piece-there c.in-Got.count c.min-room.result buf c.deref.result.now c.in-Got.ensures.bound.1
    (omega (arith, room, c.in-Got.ensures.size))
    (c.deref.ensures.value ∙ with_items_is c.loop-bytes.piece buf (c.in-Got.ensures.size ∙ c.deref_mut.ensures.len))

pub loop-bytes-smaller : goal.loop-bytes-smaller
loop-bytes-smaller g c =
    let buf = c.read_front.new.buf in
    let room = room-within c.min-room.result c.len-in-loop-bytes.result (length c.deref_mut.result.now) c.min-room.ensures (ap length c.deref_mut.ensures.value ∙ c.loop-bytes.invariant.1) in
    read-smaller c.loop-bytes.bytes.items c.extend_from_slice.new.self.items buf c.in-Got.count
    (omega (arith, c.loop-bytes-test.true, c.len.ensures, c.loop-bytes.bytes.ok.0)) c.in-Got.ensures.bound.0
    (omega (arith, room, c.in-Got.ensures.bound.1, c.in-Got.ensures.size))
    (c.in_ok-extend_from_slice-in-Got.ensures.items
    ∙ ap (λ b. c.loop-bytes.bytes.items ++ take c.in-Got.count b) (c.deref.ensures.value ∙ with_items_is c.loop-bytes.piece buf (c.in-Got.ensures.size ∙ c.deref_mut.ensures.len)))

pub loop-bytes-preserved : goal.loop-bytes-preserved
loop-bytes-preserved g c =
    let buf = c.read_front.new.buf in
    let room = room-within c.min-room.result c.len-in-loop-bytes.result (length c.deref_mut.result.now) c.min-room.ensures (ap length c.deref_mut.ensures.value ∙ c.loop-bytes.invariant.1) in (
      read-more (g.F.Files.shown c.args.files.now) (g.F.Files.shown c.loop-bytes.files) (g.F.Files.shown c.read_front.new.files) c.args.name.now c.loop-bytes.bytes.items c.extend_from_slice.new.self.items buf c.in-Got.count c.min-room.result
          c.loop-bytes.invariant.0 c.in-Got.ensures.reads c.in-Got.ensures.bound.1
          (room-left c.min-room.result c.len-in-loop-bytes.result (length c.loop-bytes.bytes.items) c.min-room.ensures (c.len-in-loop-bytes.ensures ∙ c.loop-bytes.bytes.ok.0))
          (omega (arith, room, c.in-Got.ensures.bound.1, c.in-Got.ensures.size))
          (c.in_ok-extend_from_slice-in-Got.ensures.items
          ∙ ap (λ b. c.loop-bytes.bytes.items ++ take c.in-Got.count b) (c.deref.ensures.value ∙ with_items_is c.loop-bytes.piece buf (c.in-Got.ensures.size ∙ c.deref_mut.ensures.len))),
      ap length (with_items_is c.loop-bytes.piece buf (c.in-Got.ensures.size ∙ c.deref_mut.ensures.len)) ∙ c.in-Got.ensures.size ∙ ap length c.deref_mut.ensures.value ∙ c.loop-bytes.invariant.1,
    )

pub returns-in_err-extend_from_slice-in-Got-clause-kept : goal.returns-in_err-extend_from_slice-in-Got-clause-kept
returns-in_err-extend_from_slice-in-Got-clause-kept g c =
    read-kept (g.F.Files.shown c.args.files.now) (g.F.Files.shown c.loop-bytes.files) (g.F.Files.shown c.read_front.new.files) _ c.read_front.new.buf c.loop-bytes.invariant.0.kept c.read_front.ensures.reads

pub returns-in-End-clause-read : goal.returns-in-End-clause-read
returns-in-End-clause-read g c =
    read-end (g.F.Files.shown c.args.files.now) (g.F.Files.shown c.loop-bytes.files) (g.F.Files.shown c.read_front.new.files) c.args.name.now c.loop-bytes.bytes.items c.read_front.new.buf c.loop-bytes.invariant.0 c.in-End.ensures.reads

pub returns-in-End-clause-kept : goal.returns-in-End-clause-kept
returns-in-End-clause-kept g c =
    read-kept (g.F.Files.shown c.args.files.now) (g.F.Files.shown c.loop-bytes.files) (g.F.Files.shown c.read_front.new.files) _ c.read_front.new.buf c.loop-bytes.invariant.0.kept c.read_front.ensures.reads

pub returns-in-Failed-read_front-clause-shows : goal.returns-in-Failed-read_front-clause-shows
returns-in-Failed-read_front-clause-shows g c =
    read-failed (g.F.Files.shown c.args.files.now) (g.F.Files.shown c.loop-bytes.files) (g.F.Files.shown c.read_front.new.files) c.read_front.new.buf c.loop-bytes.invariant.0.kept c.in-Failed-read_front.ensures.reads

pub returns-in-Failed-read_front-clause-kept : goal.returns-in-Failed-read_front-clause-kept
returns-in-Failed-read_front-clause-kept g c =
    read-kept (g.F.Files.shown c.args.files.now) (g.F.Files.shown c.loop-bytes.files) (g.F.Files.shown c.read_front.new.files) _ c.read_front.new.buf c.loop-bytes.invariant.0.kept c.read_front.ensures.reads

pub returns-clause-unread : goal.returns-clause-unread
returns-clause-unread g c =
    read-too-large (g.F.Files.shown c.args.files.now) (g.F.Files.shown c.loop-bytes.files) c.args.name.now c.loop-bytes.bytes.items c.loop-bytes.invariant.0
    (omega (arith, c.loop-bytes-test.false, c.len.ensures, c.loop-bytes.bytes.ok.0))

pub returns-clause-shows : goal.returns-clause-shows
returns-clause-shows g c =
    read-large (g.F.Files.shown c.args.files.now) (g.F.Files.shown c.loop-bytes.files) c.args.name.now c.loop-bytes.bytes.items c.loop-bytes.invariant.0
    (omega (arith, c.loop-bytes-test.false, c.len.ensures, c.loop-bytes.bytes.ok.0))

pub returns-clause-kept : goal.returns-clause-kept
returns-clause-kept g c = c.loop-bytes.invariant.0.kept
