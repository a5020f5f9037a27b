use Rattle.std.proofs.Common.{rules}
use Rattle.cf_pkg.specs.Tasks as task
use Rattle.cf_pkg.proofs.Finishing.{level_kept}
use Rattle.cf_pkg.proofs.Valued.{Keeps-trans}
use Rattle.cf_pkg.proofs.Doing.{keyed, unknown_answers, found_outcome, found_remembered, found_finished, new_told, new_undone, new_is_it, moved_outcome, new_finished, unentered_kept, entered_outcome, entered_remembered, entered_kept}
use Rattle.cf_pkg.proofs.Pkg.ternary.Goals as goal

-- no key, and so no finished job
pub returns-in_err-key-clause-outcome : goal.returns-in_err-key-clause-outcome
returns-in_err-key-clause-outcome g c = record { answer = search rules; overflow = search rules }

pub returns-in_err-key-clause-finished : goal.returns-in_err-key-clause-finished
returns-in_err-key-clause-finished g c =
    unknown_answers c.args.self.now c.key_of.new.self (task.Ternary c.args.op.now.tree c.args.f c.args.g c.args.h) c.key_of.result _ c.in_err-key.was c.key_of.ensures.answers _

-- a job that was finished
pub returns-in-Some-clause-outcome : goal.returns-in-Some-clause-outcome
returns-in-Some-clause-outcome g c =
    let k = keyed c.args.self.now c.key_of.new.self (task.Ternary c.args.op.now.tree c.args.f c.args.g c.args.h) c.in_ok-key.key c.in_ok-key.ensures.kept c.in_ok-key.ensures.groupings (c.requires.level, c.requires.third_level) c.in_ok-key.ensures.key in
    found_outcome c.args.self.now c.key_of.new.self (task.Ternary c.args.op.now.tree c.args.f c.args.g c.args.h) c.in_ok-key.key k c.in-Some.known c.in-Some.ensures

pub returns-in-Some-clause-remembered : goal.returns-in-Some-clause-remembered
returns-in-Some-clause-remembered g c =
    let k = keyed c.args.self.now c.key_of.new.self (task.Ternary c.args.op.now.tree c.args.f c.args.g c.args.h) c.in_ok-key.key c.in_ok-key.ensures.kept c.in_ok-key.ensures.groupings (c.requires.level, c.requires.third_level) c.in_ok-key.ensures.key in
    found_remembered c.args.self.now c.key_of.new.self (task.Ternary c.args.op.now.tree c.args.f c.args.g c.args.h) c.in_ok-key.key k c.in-Some.known c.in-Some.ensures

pub returns-in-Some-clause-finished : goal.returns-in-Some-clause-finished
returns-in-Some-clause-finished g c =
    let k = keyed c.args.self.now c.key_of.new.self (task.Ternary c.args.op.now.tree c.args.f c.args.g c.args.h) c.in_ok-key.key c.in_ok-key.ensures.kept c.in_ok-key.ensures.groupings (c.requires.level, c.requires.third_level) c.in_ok-key.ensures.key in
    found_finished c.args.self.now c.key_of.new.self (task.Ternary c.args.op.now.tree c.args.f c.args.g c.args.h) c.in_ok-key.key k c.in-Some.known c.in-Some.ensures c.in_ok-key.ensures.known

-- a job that wasn't finished
pub ternary_anew-requires-clause-level : goal.ternary_anew-requires-clause-level
ternary_anew-requires-clause-level g c =
    level_kept c.args.self.now c.key_of.new.self c.in_ok-key.ensures.kept c.args.f c.args.g c.requires.level

pub ternary_anew-requires-clause-third_level : goal.ternary_anew-requires-clause-third_level
ternary_anew-requires-clause-third_level g c =
    level_kept c.args.self.now c.key_of.new.self c.in_ok-key.ensures.kept c.args.f c.args.h c.requires.third_level

pub remember-requires-clause-told : goal.remember-requires-clause-told
remember-requires-clause-told g c =
    new_told c.key_of.new.self c.ternary_anew.new.self c.in_ok-key.key c.in_ok-made.ensures.memo c.in_ok-key.ensures.key.told

pub remember-requires-clause-undone : goal.remember-requires-clause-undone
remember-requires-clause-undone g c =
    new_undone c.key_of.new.self c.ternary_anew.new.self c.in_ok-key.key c.in_ok-made.ensures.memo c.in_default.ensures

pub remember-requires-clause-is_it : goal.remember-requires-clause-is_it
remember-requires-clause-is_it g c =
    let k = keyed c.args.self.now c.key_of.new.self (task.Ternary c.args.op.now.tree c.args.f c.args.g c.args.h) c.in_ok-key.key c.in_ok-key.ensures.kept c.in_ok-key.ensures.groupings (c.requires.level, c.requires.third_level) c.in_ok-key.ensures.key in
    new_is_it c.args.self.now c.key_of.new.self c.ternary_anew.new.self (task.Ternary c.args.op.now.tree c.args.f c.args.g c.args.h) c.in_ok-key.key k c.in_ok-made.ensures.memo c.in_ok-made.ensures.kept c.in_ok-made.made c.in_ok-made.ensures.outcome.answer.values

pub returns-in_err-made-clause-outcome : goal.returns-in_err-made-clause-outcome
returns-in_err-made-clause-outcome g c =
    let k = keyed c.args.self.now c.key_of.new.self (task.Ternary c.args.op.now.tree c.args.f c.args.g c.args.h) c.in_ok-key.key c.in_ok-key.ensures.kept c.in_ok-key.ensures.groupings (c.requires.level, c.requires.third_level) c.in_ok-key.ensures.key in
    let made = moved_outcome c.args.self.now c.key_of.new.self c.ternary_anew.new.self (task.Ternary c.args.op.now.tree c.args.f c.args.g c.args.h) c.in_ok-key.key k c.ternary_anew.result c.ternary_anew.ensures.outcome in
    record { answer = search rules; overflow = (let fact = made.overflow in search (rules, fact)) }

pub returns-in_err-made-clause-finished : goal.returns-in_err-made-clause-finished
returns-in_err-made-clause-finished g c =
    let k = keyed c.args.self.now c.key_of.new.self (task.Ternary c.args.op.now.tree c.args.f c.args.g c.args.h) c.in_ok-key.key c.in_ok-key.ensures.kept c.in_ok-key.ensures.groupings (c.requires.level, c.requires.third_level) c.in_ok-key.ensures.key in
    new_finished c.args.self.now c.key_of.new.self c.ternary_anew.new.self (task.Ternary c.args.op.now.tree c.args.f c.args.g c.args.h) c.in_ok-key.key k c.in_default.ensures _

pub returns-in_err-made-clause-kept : goal.returns-in_err-made-clause-kept
returns-in_err-made-clause-kept g c =
    Keeps-trans c.args.self.now c.key_of.new.self c.ternary_anew.new.self c.in_ok-key.ensures.kept c.ternary_anew.ensures.kept

pub returns-in_err-remember-clause-outcome : goal.returns-in_err-remember-clause-outcome
returns-in_err-remember-clause-outcome g c = record { answer = search rules; overflow = search rules }

pub returns-in_err-remember-clause-finished : goal.returns-in_err-remember-clause-finished
returns-in_err-remember-clause-finished g c =
    let k = keyed c.args.self.now c.key_of.new.self (task.Ternary c.args.op.now.tree c.args.f c.args.g c.args.h) c.in_ok-key.key c.in_ok-key.ensures.kept c.in_ok-key.ensures.groupings (c.requires.level, c.requires.third_level) c.in_ok-key.ensures.key in
    new_finished c.args.self.now c.key_of.new.self c.remember.new.self (task.Ternary c.args.op.now.tree c.args.f c.args.g c.args.h) c.in_ok-key.key k c.in_default.ensures _

pub returns-in_err-remember-clause-kept : goal.returns-in_err-remember-clause-kept
returns-in_err-remember-clause-kept g c =
    unentered_kept c.args.self.now c.key_of.new.self c.ternary_anew.new.self c.remember.new.self c.in_err-remember.ensures.no_memory c.in_ok-key.ensures.kept c.ternary_anew.ensures.kept

pub returns-clause-outcome : goal.returns-clause-outcome
returns-clause-outcome g c =
    let k = keyed c.args.self.now c.key_of.new.self (task.Ternary c.args.op.now.tree c.args.f c.args.g c.args.h) c.in_ok-key.key c.in_ok-key.ensures.kept c.in_ok-key.ensures.groupings (c.requires.level, c.requires.third_level) c.in_ok-key.ensures.key in
    entered_outcome c.args.self.now c.key_of.new.self c.ternary_anew.new.self c.remember.new.self (task.Ternary c.args.op.now.tree c.args.f c.args.g c.args.h) c.in_ok-key.key k c.in_ok-made.made c.in_ok-remember.ensures.remembered c.in_ok-made.ensures.outcome.answer

pub returns-clause-remembered : goal.returns-clause-remembered
returns-clause-remembered g c =
    let k = keyed c.args.self.now c.key_of.new.self (task.Ternary c.args.op.now.tree c.args.f c.args.g c.args.h) c.in_ok-key.key c.in_ok-key.ensures.kept c.in_ok-key.ensures.groupings (c.requires.level, c.requires.third_level) c.in_ok-key.ensures.key in
    entered_remembered c.args.self.now c.key_of.new.self c.ternary_anew.new.self c.remember.new.self (task.Ternary c.args.op.now.tree c.args.f c.args.g c.args.h) c.in_ok-key.key k c.in_ok-made.ensures.memo c.in_ok-made.made c.in_ok-remember.ensures.remembered

pub returns-clause-finished : goal.returns-clause-finished
returns-clause-finished g c =
    let k = keyed c.args.self.now c.key_of.new.self (task.Ternary c.args.op.now.tree c.args.f c.args.g c.args.h) c.in_ok-key.key c.in_ok-key.ensures.kept c.in_ok-key.ensures.groupings (c.requires.level, c.requires.third_level) c.in_ok-key.ensures.key in
    new_finished c.args.self.now c.key_of.new.self c.remember.new.self (task.Ternary c.args.op.now.tree c.args.f c.args.g c.args.h) c.in_ok-key.key k c.in_default.ensures _

pub returns-clause-kept : goal.returns-clause-kept
returns-clause-kept g c =
    entered_kept c.args.self.now c.key_of.new.self c.ternary_anew.new.self c.remember.new.self c.in_ok-key.key c.in_ok-made.made c.in_ok-remember.ensures.remembered c.in_ok-key.ensures.kept c.ternary_anew.ensures.kept
