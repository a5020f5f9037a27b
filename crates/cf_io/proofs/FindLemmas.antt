use Rattle.std.proofs.Common.{ℕ, ◌≡◌, ◌+◌, ◌<◌, ◌≤◌, ◌∙◌, true, false, IsTrue, List, [], ◌∷◌, ◌++◌, length, take, drop, slice_index, ap, sym, subst, arith, append_assoc, append-nil}
use Rattle.std.proofs.lemmas.List.{take_all, drop_all, length-take-le}
use Rattle.cf_reference.specs.Lines.{Line, line_end, lines, size, fit, LineTooLong, ScriptTooLong, NoNewline}
use Rattle.cf_reference.proofs.LineLaws.{lines_newline, lines_last, lines_nil, lines_front, front_long, front_over, is_long, is_over}
use Rattle.cf_io.specs.Held.{Held}
use Rattle.cf_io.specs.LineSteps.{Splits, Takes, HandsOut, IsFirst, BeginsTooLong}
use Rattle.cf_io.specs.Shown.{SourceView}
use Rattle.cf_io.specs.Windows.{Comes, held, state, between, answer_in, Hands}
use Rattle.cf_io.specs.declared.lines.Window.{Window}
use Rattle.cf_io.specs.declared.lines.Found.{Found}
use Rattle.cf_io.specs.declared.lines.Found.TheVariants as found
use Rattle.cf_io.proofs.WindowLemmas.{cut_at}

-- what is held begins with the line and its end
abbrev pub Cuts : List ℕ → Line → Type 0
Cuts bytes line = bytes ≡ line.bytes ++ (line_end line.newline ++ drop (size line) bytes)

pub splits_of : (w w2 : Window) (line : Line) (left old : List ℕ) (r : Found) → Hands w w2 line r → Cuts (held w) line → held w ++ left ≡ old
    → Splits old (held w2 ++ left) (answer_in w2.buf.items r)
splits_of w w2 line left old (found.Line a b) t cut e = (
  line.newline,
  sym e
      ∙ ap (λ h. h ++ left) cut
      ∙ append_assoc line.bytes (line_end line.newline ++ drop (size line) (held w)) left
      ∙ ap (λ x. line.bytes ++ x) (append_assoc (line_end line.newline) (drop (size line) (held w)) left)
      ∙ ap (λ h. line.bytes ++ (line_end line.newline ++ (h ++ left))) (sym t.held)
      ∙ ap (λ l. l ++ (line_end line.newline ++ (held w2 ++ left))) (sym t.bytes)
      ∙ sym (append_assoc (between a b w2.buf.items) (line_end line.newline) (held w2 ++ left)),
)
splits_of w w2 line left old found.End t cut e = absurd t
splits_of w w2 line left old found.TooLong t cut e = ap (λ (h : Held). h.bytes ++ left) t.1 ∙ e
splits_of w w2 line left old found.ScriptTooLong t cut e = ap (λ (h : Held). h.bytes ++ left) t.1 ∙ e
splits_of w w2 line left old found.ReadFault t cut e = absurd t

-- the bytes that were taken, where a line is handed out or too long
pub takes_of : (from : Held) (w w2 : Window) (line : Line) (before after : SourceView) (r : Found) → Hands w w2 line r → Cuts (held w) line
    → Comes from.bytes (held w) before after → Takes from (state w2) before after (answer_in w2.buf.items r)
takes_of from w w2 line before after r h cut c = record {
  fresh = c.fresh;
  read = c.read;
  left = c.left;
  splits = subst (λ new. Splits (from.bytes ++ c.fresh) new (answer_in w2.buf.items r)) (append-nil (held w2))
      (splits_of w w2 line [] (from.bytes ++ c.fresh) r h cut (append-nil (held w) ∙ c.held));
}

pub hands_of : (from : Held) (w w2 : Window) (line : Line) (left old : List ℕ) (r : Found) → Hands w w2 line r → w.handed ≡ from.handed
    → lines (held w ++ left) ≡ line ∷ lines (drop (size line) (held w) ++ left) → held w ++ left ≡ old → (line.newline ≡ false → IsTrue w2.ended)
    → HandsOut from old (state w2) (held w2 ++ left) (answer_in w2.buf.items r)
hands_of from w w2 line left old (found.Line a b) t n first e last = (
  line.newline,
  subst (λ bytes. IsFirst from (state w2) old (held w2 ++ left) bytes line.newline) (sym t.bytes) (record {
    lines = ap lines (sym e) ∙ first ∙ ap (λ h. line ∷ lines (h ++ left)) (sym t.held);
    fits = ap (λ k. fit k line) (sym n) ∙ t.fits;
    handed = t.handed ∙ ap (λ k. k + size line) n;
    last = last;
  }),
)
hands_of from w w2 line left old found.End t n first e last = absurd t
hands_of from w w2 line left old found.TooLong t n first e last = record {
  line = line;
  more = lines (drop (size line) (held w) ++ left);
  lines = ap lines (sym e) ∙ first;
  long = ap (λ k. fit k line) (sym n) ∙ t.0;
}
hands_of from w w2 line left old found.ScriptTooLong t n first e last = record {
  line = line;
  more = lines (drop (size line) (held w) ++ left);
  lines = ap lines (sym e) ∙ first;
  long = ap (λ k. fit k line) (sym n) ∙ t.0;
}
hands_of from w w2 line left old found.ReadFault t n first e last = absurd t

-- the first newline ends the first line
pub cut_newline : (i : ℕ) (bytes : List ℕ) → i < length bytes → slice_index bytes i ≡ 10 → Cuts bytes (record { bytes = take i bytes; newline = true })
cut_newline i bytes h e =
    let k : length (take i bytes) + 1 ≡ i + 1 = omega (arith, length-take-le i bytes) in
    cut_at i bytes h e ∙ ap (λ j. take i bytes ++ 10 ∷ drop j bytes) (sym k)

pub first_newline : (i : ℕ) (bytes left : List ℕ) → i < length bytes → slice_index bytes i ≡ 10 → NoNewline (take i bytes)
    → lines (bytes ++ left) ≡ record { bytes = take i bytes; newline = true } ∷ lines (drop (length (take i bytes) + 1) bytes ++ left)
first_newline i bytes left h e p =
    ap (λ b. lines (b ++ left)) (cut_newline i bytes h e)
    ∙ ap lines (append_assoc (take i bytes) (10 ∷ drop (length (take i bytes) + 1) bytes) left)
    ∙ lines_newline (take i bytes) (drop (length (take i bytes) + 1) bytes ++ left) p

-- the end of input ends the last line
last_of : (bytes : List ℕ) → 0 < length bytes → NoNewline bytes → lines bytes ≡ record { bytes = bytes; newline = false } ∷ []
last_of [] h p = absurd (omega arith)
last_of (b ∷ bytes) h p = lines_last b bytes p

pub first_last : (len : ℕ) (bytes left : List ℕ) → len ≡ length bytes → 0 < len → left ≡ [] → NoNewline bytes
    → lines (bytes ++ left) ≡ record { bytes = take len bytes; newline = false } ∷ lines (drop (length (take len bytes) + 0) bytes ++ left)
first_last len bytes left n h e p =
    let all : take len bytes ≡ bytes = take_all len bytes (omega arith) in
    let none : drop (length (take len bytes) + 0) bytes ≡ [] = drop_all (length (take len bytes) + 0) bytes (omega (arith, ap length all)) in
    ap (λ l. lines (bytes ++ l)) e
    ∙ ap lines (append-nil bytes)
    ∙ last_of bytes (omega arith) p
    ∙ ap (λ b. record { bytes = b; newline = false } ∷ []) (sym all)
    ∙ ap (λ ls. record { bytes = take len bytes; newline = false } ∷ ls) (sym lines_nil ∙ ap lines (sym (ap (λ l. drop (length (take len bytes) + 0) bytes ++ l) e ∙ ap (λ d. d ++ []) none)))

-- a front without a newline that is too long decides its line
pub begins_long : (from : Held) (front left old : List ℕ) → front ++ left ≡ old → NoNewline front
    → fit from.handed (record { bytes = front; newline = false }) ≡ LineTooLong → BeginsTooLong from old LineTooLong
begins_long from [] left old e p f = let long = (is_long from.handed (record { bytes = []; newline = false }) f).long in absurd (omega arith)
begins_long from (b ∷ front) left old e p f =
    let r = lines_front b front left p in
    record {
      line = record { bytes = (b ∷ front) ++ r.rest; newline = r.newline };
      more = r.more;
      lines = ap lines (sym e) ∙ r.lines;
      long = front_long from.handed (b ∷ front) r.rest r.newline f;
    }

pub begins_over : (from : Held) (front left old : List ℕ) → from.handed ≤ 1073741824 → front ++ left ≡ old → NoNewline front
    → fit from.handed (record { bytes = front; newline = false }) ≡ ScriptTooLong → BeginsTooLong from old ScriptTooLong
begins_over from [] left old h e p f = let over = (is_over from.handed (record { bytes = []; newline = false }) f).over in absurd (omega arith)
begins_over from (b ∷ front) left old h e p f =
    let r = lines_front b front left p in
    record {
      line = record { bytes = (b ∷ front) ++ r.rest; newline = r.newline };
      more = r.more;
      lines = ap lines (sym e) ∙ r.lines;
      long = front_over from.handed (b ∷ front) r.rest r.newline f;
    }
