use Rattle.std.proofs.Common.{◌++◌, [], ◌∷◌, ◌∙◌, ap, sym, subst, List, ℕ, length, arith}
use Rattle.std.proofs.lemmas.List.{length_push}
use Rattle.smallvec.specs.SmallVec.{SmallVec, HasRoomFor}
use Rattle.cf_build.proofs.KeyLaws.{numbers_more}
use Rattle.cf_build.proofs.numbering.Numbering.read.Goals as goal

pub push_reserved-requires : goal.push_reserved-requires
push_reserved-requires g c =
    let room : HasRoomFor c.loop-label.self.ranks 1 = omega (arith, c.loop-label.invariant.2, c.loop-label-test.true) in
    (omega arith, subst (λ (v : SmallVec ℕ). HasRoomFor v 1) (sym c.in_ok-rank.ensures.ranks) room)

pub loop-label-preserved : goal.loop-label-preserved
loop-label-preserved g c =
    let ranks = ap (λ (v : SmallVec ℕ). v.items) c.in_ok-rank.ensures.ranks in
    let room = ap (λ (v : SmallVec ℕ). v.capacity) c.in_ok-rank.ensures.ranks in
    let pushed = c.push_reserved.ensures in (
      c.in_ok-rank.ensures.ready,
      numbers_more c.args.self.now.ranks.items c.args.self.now.different.items c.args.labels.now c.loop-label.self.ranks.items c.push_reserved.new.self.items c.loop-label.self.different.items c.enter.new.self.different.items c.label-item.result c.in_ok-rank.rank
          c.loop-label.label-index c.loop-label-test.true c.label-item.is c.loop-label.invariant.1 c.in_ok-rank.ensures.entered (pushed.items ∙ ap (λ (v : List ℕ). v ++ c.in_ok-rank.rank ∷ []) ranks),
      omega (arith, c.loop-label.invariant.2, c.loop-label-test.true, ap length pushed.items, length_push c.enter.new.self.ranks.items c.in_ok-rank.rank, ap length ranks, pushed.capacity, room),
    )
