use Rattle.std.proofs.Common.{Some, map, string_bytes, sym, ap, ◌∙◌}
use Rattle.std.specs.Option.{option_map}
use Rattle.cf_reference.specs.Forms as asked
use Rattle.cf_session.specs.Sessions.{state_of}
use Rattle.cf_top.specs.Asked.{form_view}
use Rattle.cf_top.proofs.FormFacts.{has-form, generated-meets, usage-meets, usage-only, completes}
use Rattle.cf_top.proofs.run.Goals as goal

pub returns-in-Some-Generated-clause-run : goal.returns-in-Some-Generated-clause-run
returns-in-Some-Generated-clause-run g c = λ told_in told_files told_out.
    let here = c.in-Some-Generated in
    let said = sym c.form_of.ensures ∙ ap (option_map form_view) (here.is ∙ ap Some here.field-0-is) in
    let source = g.S.Source.shown c.args.script.now in
    generated-meets (g.F.Files.shown c.args.files.now).entries
    (asked.form_of (map string_bytes c.args.words.now)) source.left
    here.seed (state_of c.args.session.now) _ _ source.taken
    (state_of c.run_generated.new.session) c.run_generated.result said c.requires.fresh
    (c.run_generated.ensures.run (told_files (has-form _ _ said)) told_out source.taken)

pub returns-in-Some-Generated-clause-complete : goal.returns-in-Some-Generated-clause-complete
returns-in-Some-Generated-clause-complete g c =
    λ told_in told_files told_out no_read no_file no_write memory.
    completes _ _ _ _ _ _ c.run_generated.result
    (returns-in-Some-Generated-clause-run g c told_in told_files told_out)
    c.run_generated.ensures.read
    (λ e. no_write (c.run_generated.ensures.write e))
    (λ e. no_file (c.run_generated.ensures.file e))
    memory

pub returns-in-None-clause-run : goal.returns-in-None-clause-run
returns-in-None-clause-run g c = λ told_in told_files told_out.
    let source = g.S.Source.shown c.args.script.now in
    usage-meets (g.F.Files.shown c.args.files.now).entries
    (asked.form_of (map string_bytes c.args.words.now)) source.left
    (state_of c.args.session.now) _ _ source.taken c.tell_usage.result
    (sym c.form_of.ensures ∙ ap (option_map form_view) c.in-None.is) c.requires.fresh
    (c.tell_usage.ensures.run told_out source.taken)

pub returns-in-None-clause-complete : goal.returns-in-None-clause-complete
returns-in-None-clause-complete g c = λ told_in told_files told_out no_read no_file no_write memory.
    let only = usage-only c.tell_usage.result c.tell_usage.ensures.answers in
    completes _ _ _ _ _ _ c.tell_usage.result
    (returns-in-None-clause-run g c told_in told_files told_out)
    only.0 (λ e. no_write (c.tell_usage.ensures.write e)) only.1 memory
