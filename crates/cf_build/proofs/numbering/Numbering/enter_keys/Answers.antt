use Rattle.std.proofs.Common.{◌≡◌, ◌<◌, ◌∙◌, sym, ap, List, length, get_or, Some, arith}
use Rattle.std.specs.List.{slice_get}
use Rattle.std.proofs.lemmas.Option.{slice_get-get_or}
use Rattle.cf_build.proofs.KeyLaws.{keys_more}
use Rattle.cf_build.proofs.numbering.Numbering.enter_keys.Goals as goal

pub loop-i-preserved : goal.loop-i-preserved
loop-i-preserved g c =
    let different = c.args.self.now.different.items in
    let x = c.index.result.now in
    let same = c.loop-i.invariant.1 in
    let within : c.loop-i.i < length different = omega (arith, c.loop-i-test.true, c.len-i-end.ensures, c.args.self.now.different.ok) in
    let here : slice_get different c.loop-i.i ≡ Some x = slice_get-get_or different c.loop-i.i x within ∙ ap Some (ap (λ (v : List _). get_or v c.loop-i.i x) (sym same) ∙ sym c.index.ensures) in (
      keys_more g.T.Label.is_label g.T.Label.key_of g.met.T.Label.apart different c.loop-i.self.keys.keys c.insert.new.self.keys c.index.result.now c.loop-i.i c.key.result c.requires.labels c.requires.differ here c.key.ensures.key
          c.loop-i.invariant.0 c.in_ok-insert.ensures.keys,
      c.loop-i.invariant.1,
      c.loop-i.invariant.2,
    )
