use Rattle.std.proofs.Common.{ℕ, ◌≤◌, List, length, Some, sym, ap, subst, ◌∙◌}
use Rattle.cf_reference.specs.Loading.{file_limit}
use Rattle.cf_reference.specs.Carrying.{load_circuit}
use Rattle.cf_session.specs.declared.load.LoadFault.TheVariants as load
use Rattle.cf_session.specs.Sessions.{state_of}
use Rattle.cf_session.specs.Loads.{IsFaultOfLoad, ShowsFault, fault_of_file}
use Rattle.cf_session.proofs.WalkFacts.{handed-on}
use Rattle.cf_session.proofs.LoadFacts.{load-unread, load-faulty, load-stopped, load-read, text-shows, step-shows}
use Rattle.cf_session.proofs.session.Session.load.Goals as goal

pub returns-in_err-bytes-clause-fault : goal.returns-in_err-bytes-clause-fault
returns-in_err-bytes-clause-fault g c =
    λ told. handed-on c.from_residual.result (fault_of_file c.in_err-bytes.field-0.0) (IsFaultOfLoad (load_circuit (g.F.Files.shown c.args.files.now).entries (state_of c.args.self.now) c.args.prefix.now c.args.file.now)) c.from_residual.ensures.1
    (load-unread (g.F.Files.shown c.args.files.now).entries c.args.self.now c.args.prefix.now c.args.file.now c.in_err-bytes.field-0.0 c.requires.set (c.in_err-bytes.ensures.unread told))

pub returns-in_err-flat-clause-fault : goal.returns-in_err-flat-clause-fault
returns-in_err-flat-clause-fault g c =
    λ told. handed-on c.from_residual-in_err-flat.result (load.Step c.in_err-flat.field-0.0) (IsFaultOfLoad (load_circuit (g.F.Files.shown c.args.files.now).entries (state_of c.args.self.now) c.args.prefix.now c.args.file.now)) c.from_residual-in_err-flat.ensures.1
    (load-faulty (g.F.Files.shown c.args.files.now).entries c.args.self.now c.args.prefix.now c.args.file.now c.as_slice.result.now c.in_err-flat.field-0.0 c.requires.set (c.in_ok-bytes.ensures.read told ∙ ap Some (sym c.as_slice.ensures.value)) (subst (λ (b : List ℕ). length b ≤ file_limit) (sym c.as_slice.ensures.value) c.in_ok-bytes.ensures.short) c.in_err-flat.ensures.fault)

pub returns-in_err-flat-clause-shows : goal.returns-in_err-flat-clause-shows
returns-in_err-flat-clause-shows g c =
    handed-on c.from_residual-in_err-flat.result (load.Step c.in_err-flat.field-0.0) (ShowsFault (g.F.Files.shown c.args.files.now) (g.F.Files.shown c.read_file.new.files)) c.from_residual-in_err-flat.ensures.1
    (text-shows (g.F.Files.shown c.args.files.now) (g.F.Files.shown c.read_file.new.files) (state_of c.args.self.now) c.args.prefix.now c.as_slice.result.now c.in_err-flat.field-0.0 (subst (λ (b : List ℕ). length b ≤ file_limit) (sym c.as_slice.ensures.value) c.in_ok-bytes.ensures.short) c.in_err-flat.ensures.fault)

pub returns-in_err-add_circuit-clause-fault : goal.returns-in_err-add_circuit-clause-fault
returns-in_err-add_circuit-clause-fault g c =
    λ told. handed-on c.from_residual-in_err-add_circuit.result (load.Step c.in_err-add_circuit.field-0.0) (IsFaultOfLoad (load_circuit (g.F.Files.shown c.args.files.now).entries (state_of c.args.self.now) c.args.prefix.now c.args.file.now)) c.from_residual-in_err-add_circuit.ensures.1
    (load-stopped (g.F.Files.shown c.args.files.now).entries c.args.self.now c.args.prefix.now c.args.file.now c.as_slice.result.now c.in_err-add_circuit.field-0.0 c.requires.set (c.in_ok-bytes.ensures.read told ∙ ap Some (sym c.as_slice.ensures.value)) (c.in_err-add_circuit.ensures.fault c.as_slice.result.now c.in_ok-flat.ensures.circuit (subst (λ (b : List ℕ). length b ≤ file_limit) (sym c.as_slice.ensures.value) c.in_ok-bytes.ensures.short)))

pub returns-in_err-add_circuit-clause-shows : goal.returns-in_err-add_circuit-clause-shows
returns-in_err-add_circuit-clause-shows g c =
    handed-on c.from_residual-in_err-add_circuit.result (load.Step c.in_err-add_circuit.field-0.0) (ShowsFault (g.F.Files.shown c.args.files.now) (g.F.Files.shown c.read_file.new.files)) c.from_residual-in_err-add_circuit.ensures.1
    (step-shows (g.F.Files.shown c.args.files.now) (g.F.Files.shown c.read_file.new.files) (state_of c.args.self.now) c.args.prefix.now c.as_slice.result.now c.in_err-add_circuit.field-0.0 (subst (λ (b : List ℕ). length b ≤ file_limit) (sym c.as_slice.ensures.value) c.in_ok-bytes.ensures.short) (c.in_err-add_circuit.ensures.fault c.as_slice.result.now c.in_ok-flat.ensures.circuit (subst (λ (b : List ℕ). length b ≤ file_limit) (sym c.as_slice.ensures.value) c.in_ok-bytes.ensures.short)))

pub returns-clause-goes : goal.returns-clause-goes
returns-clause-goes g c =
    λ told. load-read (g.F.Files.shown c.args.files.now).entries c.args.self.now c.args.prefix.now c.args.file.now c.as_slice.result.now c.requires.set (c.in_ok-bytes.ensures.read told ∙ ap Some (sym c.as_slice.ensures.value)) ∙ c.in_ok-add_circuit.ensures.goes c.as_slice.result.now c.in_ok-flat.ensures.circuit (subst (λ (b : List ℕ). length b ≤ file_limit) (sym c.as_slice.ensures.value) c.in_ok-bytes.ensures.short)
