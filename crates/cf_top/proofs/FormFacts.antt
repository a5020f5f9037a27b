-- What the forms of a command line come to.
use Rattle.std.proofs.Common.{ℕ, ◌≡◌, ◌≢◌, ◌⊎◌, inl, inr, List, Option, Some, None, refl, sym, ◌∙◌, ap, subst, rules}
use Rattle.std.specs.Prelude.{is_some}
use Rattle.std.proofs.lemmas.Bool.{false≢true}
use Rattle.cf_reference.specs.Forms as asked
use Rattle.cf_reference.specs.Generator.{gen_script}
use Rattle.cf_reference.specs.Lines.{lines}
use Rattle.cf_reference.specs.States.{State, Files, initial}
use Rattle.cf_reference.specs.Scripts.{Ending, run_lines, ref_form, reads_nothing, usage_end}
use Rattle.cf_top.specs.Ends.{Meets, Completes, status_of}
use Rattle.cf_top.specs.declared.status.Status.{Status}
use Rattle.cf_top.specs.declared.status.Status.TheVariants as status

-- words that have a form
pub has-form : (form : Option asked.Form) (this : asked.Form) → form ≡ Some this → form ≢ None
has-form form this e = λ none. false≢true (ap is_some (sym none ∙ e))

-- the script of a seed, from a session without level and names
pub generated-meets : (files : Files) (form : Option asked.Form) (source : List ℕ) (seed : ℕ) (s : State)
    → (before after : List ℕ) (taken : ℕ) (left : State) (how : Status)
    → form ≡ Some (asked.Generated seed) → s ≡ initial
    → Meets (reads_nothing (run_lines files s 1 0 (lines (gen_script seed)))) before after taken taken left how
    → Meets (ref_form files form source) before after taken taken left how
generated-meets files form source seed s before after taken left how e fresh meets =
    let whole : State → Ending = λ t.
    reads_nothing (run_lines files t 1 0 (lines (gen_script seed))) in
    subst
    (λ (f : Option asked.Form). Meets (ref_form files f source) before after taken taken left how)
    (sym e)
    (subst (λ (t : State). Meets (whole t) before after taken taken left how) fresh meets)

-- words without a form, and a session without level and names
pub usage-meets : (files : Files) (form : Option asked.Form) (source : List ℕ) (s : State)
    → (before after : List ℕ) (taken : ℕ) (how : Status) → form ≡ None → s ≡ initial
    → Meets usage_end before after taken taken initial how
    → Meets (ref_form files form source) before after taken taken s how
usage-meets files form source s before after taken how e fresh meets =
    subst
    (λ (f : Option asked.Form). Meets (ref_form files f source) before after taken taken s how)
    (sym e)
    (subst (λ (t : State). Meets usage_end before after taken taken t how) (sym fresh) meets)

pub usage-only : (how : Status) → (how ≡ status.Usage) ⊎ (how ≡ status.WriteFault)
    → (how ≢ status.ReadFault) × (how ≢ status.FileFault)
usage-only how (inl e) =
    subst (λ (h : Status). (h ≢ status.ReadFault) × (h ≢ status.FileFault)) (sym e)
    (search rules, search rules)
usage-only how (inr e) =
    subst (λ (h : Status). (h ≢ status.ReadFault) × (h ≢ status.FileFault)) (sym e)
    (search rules, search rules)

-- what no fault and no want of memory cuts off comes to its end
pub completes : (end : Ending) (before after : List ℕ) (from upto : ℕ) (left : State) (how : Status)
    → Meets end before after from upto left how
    → how ≢ status.ReadFault → how ≢ status.WriteFault → how ≢ status.FileFault
    → how ≢ status.NoMemory → Completes end before after how
completes end before after from upto left status.Done m r w f n =
    record { text = m.text; status = sym (ap status_of m.closed) }
completes end before after from upto left status.Refused m r w f n =
    record { text = m.text; status = sym (ap status_of m.closed) }
completes end before after from upto left status.Usage m r w f n =
    record { text = m.text; status = sym (ap status_of m.closed) }
completes end before after from upto left status.ReadFault m r w f n = absurd (r refl)
completes end before after from upto left status.WriteFault m r w f n = absurd (w refl)
completes end before after from upto left status.NoMemory m r w f n = absurd (n refl)
completes end before after from upto left status.FileFault m r w f n = absurd (f refl)
