-- What is written of a refusal: its text, and a name behind it.
use Rattle.std.proofs.Common.{ℕ, ◌≡◌, ◌≤◌, Bool, true, false, List, ◌++◌, IsTrue, ap, sym, ◌∙◌, subst, append_assoc, arith}
use Rattle.cf_io.specs.Causes.{Rose}
use Rattle.cf_io.specs.Shown.{SinkView}
use Rattle.cf_reference.specs.Carrying.{Refuses}
use Rattle.cf_reference.specs.Reasons.{Refusal, number, detail}
use Rattle.cf_reference.specs.Replies.{refusal}
use Rattle.cf_reference.specs.Scripts.{text_of}
use Rattle.cf_text.specs.Details.{refused_bytes}
use Rattle.cf_text.specs.declared.refusals.Detail.{Detail}
use Rattle.cf_session.specs.Stepping.{Wrote, Failed, Puts}
use Rattle.cf_top.specs.Views.{last_name, line_of_name}

rose_earlier : (before now after : ℕ) → before ≤ now → Rose now after → Rose before after
rose_earlier before now after later rose = omega (arith, later, rose)

-- one more text behind a text that was written
pub puts-on : (before now after : SinkView) (text more : List ℕ) (whole : Bool) → Wrote before now text → Puts now after more whole → Puts before after (text ++ more) whole
puts-on before now after text more true w p = record {
  told = p.told ∙ w.told;
  later = omega (arith, w.later, p.later);
  bytes = λ t.
      p.bytes (subst IsTrue (sym w.told) t)
      ∙ ap (λ l. l ++ more) (w.bytes t)
      ∙ append_assoc before.written text more;
}
puts-on before now after text more false w p = record {
  told = p.told ∙ w.told;
  rose = rose_earlier before.faults now.faults after.faults w.later p.rose;
  later = omega (arith, w.later, p.later);
  front = λ t. (let f = p.front (subst IsTrue (sym w.told) t) in record {
    front = text ++ f.front;
    rest = f.rest;
    appended = f.appended ∙ ap (λ l. l ++ f.front) (w.bytes t) ∙ append_assoc before.written text f.front;
    whole = ap (λ l. text ++ l) f.whole ∙ sym (append_assoc text f.front f.rest);
  });
}

-- what couldn't be written is a front of more, too
pub puts-cut : (before after : SinkView) (text more : List ℕ) → Failed before after text → Failed before after (text ++ more)
puts-cut before after text more p = record {
  told = p.told;
  rose = p.rose;
  later = p.later;
  front = λ t. (let f = p.front t in record {
    front = f.front;
    rest = f.rest ++ more;
    appended = f.appended;
    whole = ap (λ l. l ++ more) f.whole ∙ append_assoc f.front f.rest more;
  });
}

-- the text of a refused line
pub refusal-is : (n k : ℕ) (d : Detail) (r : Refusal) (bytes : List ℕ) → bytes ≡ refused_bytes n k d → k ≡ number r
    → refused_bytes n k d ++ line_of_name (last_name r) ≡ refusal n k (detail r) → bytes ++ line_of_name (last_name r) ≡ text_of n (Refuses r)
refusal-is n k d r bytes first numbered whole =
    ap (λ l. l ++ line_of_name (last_name r)) first ∙ whole ∙ ap (λ m. refusal n m (detail r)) numbered
