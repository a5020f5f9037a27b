-- The script that is to come.
use Rattle.std.proofs.Common.{◌∙◌, ◌++◌, ap, sym, append_assoc, List, ℕ, ◌≡◌}
use Rattle.cf_reference.specs.Lines.{line_end}
use Rattle.cf_io.specs.Answers.{Answer}
use Rattle.cf_io.specs.Answers as answer
use Rattle.cf_io.specs.Held.{Held}
use Rattle.cf_io.specs.LineSteps.{Splits, Takes, to_come}
use Rattle.cf_io.specs.Shown.{SourceView}

-- what is held and was taken makes up what is to come
joined : (old new : Held) (before after : SourceView) (fresh : List ℕ) → before.left ≡ fresh ++ after.left
    → to_come old before ≡ (old.bytes ++ fresh) ++ after.left
joined old new before after fresh left = ap (λ l. old.bytes ++ l) left ∙ sym (append_assoc old.bytes fresh after.left)

stays : (old new : Held) (before after : SourceView) (fresh : List ℕ) → before.left ≡ fresh ++ after.left
    → new.bytes ≡ old.bytes ++ fresh → to_come new after ≡ to_come old before
stays old new before after fresh left split =
    ap (λ h. h ++ after.left) split ∙ sym (joined old new before after fresh left)

-- the script that is to come is split as what was held and taken is
pub takes-splits : (old new : Held) (before after : SourceView) (answer : Answer) → Takes old new before after answer
    → Splits (to_come old before) (to_come new after) answer
takes-splits old new before after (answer.Line line) t = (
  t.splits.0,
  joined old new before after t.fresh t.left
      ∙ ap (λ h. h ++ after.left) t.splits.1
      ∙ append_assoc (line ++ line_end t.splits.0) new.bytes after.left,
)
takes-splits old new before after answer.End t = stays old new before after t.fresh t.left t.splits
takes-splits old new before after answer.TooLong t = stays old new before after t.fresh t.left t.splits
takes-splits old new before after answer.ScriptTooLong t = stays old new before after t.fresh t.left t.splits
takes-splits old new before after answer.ReadFault t = stays old new before after t.fresh t.left t.splits
