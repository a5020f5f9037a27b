use Rattle.std.proofs.Common.{◌+◌, ap, sym, ◌∙◌, arith, cond, Some, drop, map}
use Rattle.std.specs.Str.{bytes_eq}
use Rattle.std.proofs.lemmas.Slice.Eq.{bytes_eq-Decides}
use Rattle.cf_reference.specs.States.{content_of}
use Rattle.cf_io.proofs.FileLemmas.{first_decides, content_here, name_here}
use Rattle.cf_io.proofs.mem_files.place_of.Goals as goal

pub returns-then-eq-clause-found : goal.returns-then-eq-clause-found
returns-then-eq-clause-found c =
    c.loop-i.invariant
    ∙ first_decides c.args.files.now c.loop-i.i c.args.name.now c.index-files-i.result (omega arith) c.index-files-i.is
    ∙ ap (λ b. cond b (Some c.index-files-i.result.1.items) (content_of (map (λ f. (f.0.items, f.1.items)) (drop (c.loop-i.i + 1) c.args.files.now)) c.args.name.now)) (sym (ap (bytes_eq c.args.name.now) c.as_slice.ensures.value) ∙ sym c.eq.ensures ∙ c.if-eq.true)
    ∙ sym (content_here c.args.files.now c.loop-i.i c.index-files-i.result (omega arith) c.index-files-i.is)

pub loop-i-preserved : goal.loop-i-preserved
loop-i-preserved c =
    c.loop-i.invariant
    ∙ first_decides c.args.files.now c.loop-i.i c.args.name.now c.index-files-i.result (omega arith) c.index-files-i.is
    ∙ ap (λ b. cond b (Some c.index-files-i.result.1.items) (content_of (map (λ f. (f.0.items, f.1.items)) (drop (c.loop-i.i + 1) c.args.files.now)) c.args.name.now)) (sym (ap (bytes_eq c.args.name.now) c.as_slice.ensures.value) ∙ sym c.eq.ensures ∙ c.if-eq.false)

pub returns-then-eq-clause-named : goal.returns-then-eq-clause-named
returns-then-eq-clause-named c =
    name_here c.args.files.now c.loop-i.i c.index-files-i.result (omega arith) c.index-files-i.is
    ∙ sym ((bytes_eq-Decides c.args.name.now c.index-files-i.result.0.items).0 (sym (ap (bytes_eq c.args.name.now) c.as_slice.ensures.value) ∙ sym c.eq.ensures ∙ c.if-eq.true))
