use Rattle.std.proofs.Common.{◌<◌, ◌≡◌, true, List, [], None, map, length, refl, sym, ap, subst, ◌∙◌}
use Rattle.std.specs.Prelude.{All}
use Rattle.std.specs.Str.{bytes_eq}
use Rattle.cf_model.specs.Renumbering.{place}
use Rattle.cf_flat.specs.declared.flat.Out.{Out}
use Rattle.cf_pkg.specs.declared.Func.{Func}
use Rattle.cf_pkg.specs.Packages.{OwnsFunction, Keeps}
use Rattle.cf_pkg.proofs.Valued.{Keeps-trans}
use Rattle.cf_reference.specs.States.{is_among, level_in}
use Rattle.cf_reference.specs.Loading.{outputs_clash}
use Rattle.cf_reference.specs.Carrying.{Goes, load_bytes}
use Rattle.cf_session.specs.Sessions.{Held, Names, names_of, IsHeld, state_of}
use Rattle.cf_session.specs.Statements.{ArePositions}
use Rattle.cf_session.specs.Loads.{bind_outputs, names_out}
use Rattle.cf_table.proofs.Told.{on_err}
use Rattle.cf_session.proofs.Growth.{held, grown_from}
use Rattle.cf_session.proofs.OutputFacts.{outputs-owned}
use Rattle.cf_session.proofs.LoadFacts.{declares, few-positions, inputs-among, positions-within, outputs-taken, load-done, load-held}
use Rattle.cf_session.proofs.session.Session.add_circuit.Goals as goal

pub with_inputs-requires-clause-positions : goal.with_inputs-requires-clause-positions
with_inputs-requires-clause-positions c =
    subst (λ k. ArePositions c.self.inside.pkg k c.self.inside.variables) (ap (λ h. level_in (state_of h)) c.self.view_is ∙ sym c.level_of_variables-level.ensures.level) c.self.invariant.positions

pub invariant_of-self : goal.invariant_of-self
invariant_of-self c =
    held (record { pkg = c.self.inside.pkg; level = c.self.inside.level; variables = c.self.inside.variables; functions = c.self.inside.functions }) c.with_inputs.new.pkg c.self.invariant c.with_inputs.ensures.kept

pub returns-in_err-variables-clause-same : goal.returns-in_err-variables-clause-same
returns-in_err-variables-clause-same c =
    on_err c.from_residual.result _ (grown_from (record { pkg = c.self.inside.pkg; level = c.self.inside.level; variables = c.self.inside.variables; functions = c.self.inside.functions }) c.args.self.now c.with_inputs.new.pkg c.self.view_is c.self.invariant c.with_inputs.ensures.kept)

pub invariant_of-self-in_err-outputs_clash : goal.invariant_of-self-in_err-outputs_clash
invariant_of-self-in_err-outputs_clash c =
    held (record { pkg = c.self.inside.pkg; level = c.self.inside.level; variables = c.self.inside.variables; functions = c.self.inside.functions }) c.with_inputs.new.pkg c.self.invariant c.with_inputs.ensures.kept

pub returns-in_err-outputs_clash-clause-same : goal.returns-in_err-outputs_clash-clause-same
returns-in_err-outputs_clash-clause-same c =
    on_err c.from_residual-in_err-outputs_clash.result _ (grown_from (record { pkg = c.self.inside.pkg; level = c.self.inside.level; variables = c.self.inside.variables; functions = c.self.inside.functions }) c.args.self.now c.with_inputs.new.pkg c.self.view_is c.self.invariant c.with_inputs.ensures.kept)

pub invariant_of-self-then-branch : goal.invariant_of-self-then-branch
invariant_of-self-then-branch c =
    held (record { pkg = c.self.inside.pkg; level = c.self.inside.level; variables = c.self.inside.variables; functions = c.self.inside.functions }) c.with_inputs.new.pkg c.self.invariant c.with_inputs.ensures.kept

pub returns-then-branch-clause-fault : goal.returns-then-branch-clause-fault
returns-then-branch-clause-fault c =
    λ bytes is short.
    ap (λ (t : Held). load_bytes (state_of t) c.args.prefix.now bytes) (sym c.self.view_is)
    ∙ outputs-taken (record { pkg = c.self.inside.pkg; level = c.self.inside.level; variables = c.self.inside.variables; functions = c.self.inside.functions }) c.level_of_variables-level.result c.args.flat.now c.in_ok-variables.variables c.with_inputs.new.pkg c.args.prefix.now bytes
    (declares (record { pkg = c.self.inside.pkg; level = c.self.inside.level; variables = c.self.inside.variables; functions = c.self.inside.functions }) c.args.self.now c.level_of_variables-level.result c.args.flat.now c.in_ok-variables.variables c.in_ok-variables.variables c.with_inputs.new.pkg c.items-inputs.result.now c.self.view_is c.requires.set c.level_of_variables-level.ensures.level c.items-inputs.ensures refl c.in_ok-variables.ensures.free c.in_ok-variables.ensures.names c.in_ok-variables.ensures.positions c.with_inputs.ensures.kept)
    (ap (λ (outs : List Out). outputs_clash (record { level = None; variables = names_of c.in_ok-variables.variables; functions = [] }) c.args.prefix.now (names_out outs)) (sym c.items-outputs.ensures) ∙ sym c.in_ok-outputs_clash.ensures ∙ c.if-branch.true) is short

pub returns-then-branch-clause-same : goal.returns-then-branch-clause-same
returns-then-branch-clause-same c =
    grown_from (record { pkg = c.self.inside.pkg; level = c.self.inside.level; variables = c.self.inside.variables; functions = c.self.inside.functions }) c.args.self.now c.with_inputs.new.pkg c.self.view_is c.self.invariant c.with_inputs.ensures.kept

pub positions_of-requires-clause-few : goal.positions_of-requires-clause-few
positions_of-requires-clause-few c =
    few-positions (record { pkg = c.self.inside.pkg; level = c.self.inside.level; variables = c.self.inside.variables; functions = c.self.inside.functions }) c.level_of_variables-level.result c.args.flat.now c.in_ok-variables.variables c.with_inputs.new.pkg c.self.invariant
    (declares (record { pkg = c.self.inside.pkg; level = c.self.inside.level; variables = c.self.inside.variables; functions = c.self.inside.functions }) c.args.self.now c.level_of_variables-level.result c.args.flat.now c.in_ok-variables.variables c.in_ok-variables.variables c.with_inputs.new.pkg c.items-inputs.result.now c.self.view_is c.requires.set c.level_of_variables-level.ensures.level c.items-inputs.ensures refl c.in_ok-variables.ensures.free c.in_ok-variables.ensures.names c.in_ok-variables.ensures.positions c.with_inputs.ensures.kept) c.level_of_variables-level.ensures.low

pub positions_of-requires-clause-there : goal.positions_of-requires-clause-there
positions_of-requires-clause-there c =
    subst (All (λ name. is_among (names_of c.in_ok-variables.variables) name ≡ true)) (sym c.items-inputs.ensures)
    (inputs-among (record { pkg = c.self.inside.pkg; level = c.self.inside.level; variables = c.self.inside.variables; functions = c.self.inside.functions }) c.level_of_variables-level.result c.args.flat.now c.in_ok-variables.variables c.with_inputs.new.pkg
    (declares (record { pkg = c.self.inside.pkg; level = c.self.inside.level; variables = c.self.inside.variables; functions = c.self.inside.functions }) c.args.self.now c.level_of_variables-level.result c.args.flat.now c.in_ok-variables.variables c.in_ok-variables.variables c.with_inputs.new.pkg c.items-inputs.result.now c.self.view_is c.requires.set c.level_of_variables-level.ensures.level c.items-inputs.ensures refl c.in_ok-variables.ensures.free c.in_ok-variables.ensures.names c.in_ok-variables.ensures.positions c.with_inputs.ensures.kept))

pub invariant_of-self-in_err-positions : goal.invariant_of-self-in_err-positions
invariant_of-self-in_err-positions c =
    held (record { pkg = c.self.inside.pkg; level = c.self.inside.level; variables = c.self.inside.variables; functions = c.self.inside.functions }) c.with_inputs.new.pkg c.self.invariant c.with_inputs.ensures.kept

pub returns-in_err-positions-clause-same : goal.returns-in_err-positions-clause-same
returns-in_err-positions-clause-same c =
    on_err c.from_residual-in_err-positions.result _ (grown_from (record { pkg = c.self.inside.pkg; level = c.self.inside.level; variables = c.self.inside.variables; functions = c.self.inside.functions }) c.args.self.now c.with_inputs.new.pkg c.self.view_is c.self.invariant c.with_inputs.ensures.kept)

pub build-requires-clause-within : goal.build-requires-clause-within
build-requires-clause-within c =
    positions-within (record { pkg = c.self.inside.pkg; level = c.self.inside.level; variables = c.self.inside.variables; functions = c.self.inside.functions }) c.level_of_variables-level.result c.args.flat.now c.in_ok-variables.variables c.with_inputs.new.pkg c.as_slice.result.now c.self.invariant
    (declares (record { pkg = c.self.inside.pkg; level = c.self.inside.level; variables = c.self.inside.variables; functions = c.self.inside.functions }) c.args.self.now c.level_of_variables-level.result c.args.flat.now c.in_ok-variables.variables c.in_ok-variables.variables c.with_inputs.new.pkg c.items-inputs.result.now c.self.view_is c.requires.set c.level_of_variables-level.ensures.level c.items-inputs.ensures refl c.in_ok-variables.ensures.free c.in_ok-variables.ensures.names c.in_ok-variables.ensures.positions c.with_inputs.ensures.kept)
    (c.as_slice.ensures.value ∙ c.in_ok-positions.ensures ∙ ap (map (place bytes_eq (names_of c.in_ok-variables.variables))) c.items-inputs.ensures)

pub invariant_of-self-in_err-built : goal.invariant_of-self-in_err-built
invariant_of-self-in_err-built c =
    held (record { pkg = c.self.inside.pkg; level = c.self.inside.level; variables = c.self.inside.variables; functions = c.self.inside.functions }) c.build.new.pkg c.self.invariant (Keeps-trans c.self.inside.pkg c.with_inputs.new.pkg c.build.new.pkg c.with_inputs.ensures.kept c.build.ensures.kept)

pub returns-in_err-built-clause-same : goal.returns-in_err-built-clause-same
returns-in_err-built-clause-same c =
    on_err c.from_residual-in_err-built.result _ (grown_from (record { pkg = c.self.inside.pkg; level = c.self.inside.level; variables = c.self.inside.variables; functions = c.self.inside.functions }) c.args.self.now c.build.new.pkg c.self.view_is c.self.invariant (Keeps-trans c.self.inside.pkg c.with_inputs.new.pkg c.build.new.pkg c.with_inputs.ensures.kept c.build.ensures.kept))

pub law_of-requires : goal.law_of-requires
law_of-requires c =
    record {
      owned = subst (All (OwnsFunction c.build.new.pkg)) (sym c.as_slice-2.ensures.value)
          (outputs-owned c.build.new.pkg c.level_of_variables-level.result c.args.flat.now c.as_slice.result.now c.in_ok-built.built.items c.in_ok-built.ensures.one_each c.in_ok-built.ensures.functions);
    }

pub invariant_of-self-in_err-functions : goal.invariant_of-self-in_err-functions
invariant_of-self-in_err-functions c =
    held (record { pkg = c.self.inside.pkg; level = c.self.inside.level; variables = c.self.inside.variables; functions = c.self.inside.functions }) c.build.new.pkg c.self.invariant (Keeps-trans c.self.inside.pkg c.with_inputs.new.pkg c.build.new.pkg c.with_inputs.ensures.kept c.build.ensures.kept)

pub returns-in_err-functions-clause-same : goal.returns-in_err-functions-clause-same
returns-in_err-functions-clause-same c =
    on_err c.from_residual-in_err-functions.result _ (grown_from (record { pkg = c.self.inside.pkg; level = c.self.inside.level; variables = c.self.inside.variables; functions = c.self.inside.functions }) c.args.self.now c.build.new.pkg c.self.view_is c.self.invariant (Keeps-trans c.self.inside.pkg c.with_inputs.new.pkg c.build.new.pkg c.with_inputs.ensures.kept c.build.ensures.kept))

pub invariant_of-self-2 : goal.invariant_of-self-2
invariant_of-self-2 c =
    subst (λ (fs : Names). IsHeld (record { pkg = c.build.new.pkg; level = c.self.inside.level; variables = c.in_ok-variables.variables; functions = fs })) (sym (c.in_ok-functions.ensures ∙ ap (λ (outs : List Out). bind_outputs c.self.inside.functions c.args.prefix.now (names_out outs) c.as_slice-3.result.now) c.items-outputs.ensures ∙ ap (bind_outputs c.self.inside.functions c.args.prefix.now (names_out c.args.flat.now.outputs)) c.as_slice-3.ensures.value))
    (load-held (record { pkg = c.self.inside.pkg; level = c.self.inside.level; variables = c.self.inside.variables; functions = c.self.inside.functions }) c.level_of_variables-level.result c.args.flat.now c.in_ok-variables.variables c.with_inputs.new.pkg c.build.new.pkg c.args.prefix.now c.as_slice.result.now c.requires.circuit.0 c.in_ok-built.built.items c.self.invariant
    (record { declares = (declares (record { pkg = c.self.inside.pkg; level = c.self.inside.level; variables = c.self.inside.variables; functions = c.self.inside.functions }) c.args.self.now c.level_of_variables-level.result c.args.flat.now c.in_ok-variables.variables c.in_ok-variables.variables c.with_inputs.new.pkg c.items-inputs.result.now c.self.view_is c.requires.set c.level_of_variables-level.ensures.level c.items-inputs.ensures refl c.in_ok-variables.ensures.free c.in_ok-variables.ensures.names c.in_ok-variables.ensures.positions c.with_inputs.ensures.kept); clash = (ap (λ (outs : List Out). outputs_clash (record { level = None; variables = names_of c.in_ok-variables.variables; functions = [] }) c.args.prefix.now (names_out outs)) (sym c.items-outputs.ensures) ∙ sym c.in_ok-outputs_clash.ensures ∙ c.if-branch.false); placed = (c.as_slice.ensures.value ∙ c.in_ok-positions.ensures ∙ ap (map (place bytes_eq (names_of c.in_ok-variables.variables))) c.items-inputs.ensures); many = c.in_ok-built.ensures.one_each; functions = c.in_ok-built.ensures.functions; good = λ some. c.law_of.ensures (subst (λ (fs : List Func). 0 < length fs) (sym c.as_slice-2.ensures.value) some); kept = c.build.ensures.kept }) c.requires.circuit.1)

pub returns-clause-goes : goal.returns-clause-goes
returns-clause-goes c =
    λ bytes is short.
    ap (λ (t : Held). load_bytes (state_of t) c.args.prefix.now bytes) (sym c.self.view_is)
    ∙ load-done (record { pkg = c.self.inside.pkg; level = c.self.inside.level; variables = c.self.inside.variables; functions = c.self.inside.functions }) c.level_of_variables-level.result c.args.flat.now c.in_ok-variables.variables c.with_inputs.new.pkg c.build.new.pkg c.args.prefix.now c.as_slice.result.now bytes c.in_ok-built.built.items c.self.invariant
    (record { declares = (declares (record { pkg = c.self.inside.pkg; level = c.self.inside.level; variables = c.self.inside.variables; functions = c.self.inside.functions }) c.args.self.now c.level_of_variables-level.result c.args.flat.now c.in_ok-variables.variables c.in_ok-variables.variables c.with_inputs.new.pkg c.items-inputs.result.now c.self.view_is c.requires.set c.level_of_variables-level.ensures.level c.items-inputs.ensures refl c.in_ok-variables.ensures.free c.in_ok-variables.ensures.names c.in_ok-variables.ensures.positions c.with_inputs.ensures.kept); clash = (ap (λ (outs : List Out). outputs_clash (record { level = None; variables = names_of c.in_ok-variables.variables; functions = [] }) c.args.prefix.now (names_out outs)) (sym c.items-outputs.ensures) ∙ sym c.in_ok-outputs_clash.ensures ∙ c.if-branch.false); placed = (c.as_slice.ensures.value ∙ c.in_ok-positions.ensures ∙ ap (map (place bytes_eq (names_of c.in_ok-variables.variables))) c.items-inputs.ensures); many = c.in_ok-built.ensures.one_each; functions = c.in_ok-built.ensures.functions; good = λ some. c.law_of.ensures (subst (λ (fs : List Func). 0 < length fs) (sym c.as_slice-2.ensures.value) some); kept = c.build.ensures.kept }) is short
    ∙ ap (λ (fs : Names). Goes (state_of (record { pkg = c.build.new.pkg; level = c.self.inside.level; variables = c.in_ok-variables.variables; functions = fs })) []) (sym (c.in_ok-functions.ensures ∙ ap (λ (outs : List Out). bind_outputs c.self.inside.functions c.args.prefix.now (names_out outs) c.as_slice-3.result.now) c.items-outputs.ensures ∙ ap (bind_outputs c.self.inside.functions c.args.prefix.now (names_out c.args.flat.now.outputs)) c.as_slice-3.ensures.value))

pub returns-clause-kept : goal.returns-clause-kept
returns-clause-kept c =
    subst (λ (t : Held). Keeps t.pkg c.build.new.pkg) c.self.view_is (Keeps-trans c.self.inside.pkg c.with_inputs.new.pkg c.build.new.pkg c.with_inputs.ensures.kept c.build.ensures.kept)
