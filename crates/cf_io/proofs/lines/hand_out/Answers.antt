use Rattle.std.proofs.Common.{◌+◌, ◌∙◌, ap, sym, arith, take, drop, refl}
use Rattle.std.proofs.lemmas.List.{length-take-le}
use Rattle.cf_io.specs.Windows.{held}
use Rattle.cf_io.proofs.WindowLemmas.{between_drop, take_between}
use Rattle.cf_io.proofs.HandLemmas.{sizes, fitting}
use Rattle.cf_io.proofs.lines.hand_out.Goals as goal

pub overflow_add-window : goal.overflow_add-window
overflow_add-window c =
    let z = sizes c.args.window.now c.args.len c.from.result c.args.newline c.requires.sound c.requires.within c.from.ensures in
    let within = z.within in
    let inside = c.requires.sound.within in
    let size = c.requires.sound.size in
    omega arith

pub overflow_add-window-in-Fits : goal.overflow_add-window-in-Fits
overflow_add-window-in-Fits c =
    let z = sizes c.args.window.now c.args.len c.from.result c.args.newline c.requires.sound c.requires.within c.from.ensures in
    let most = fitting c.args.window.now c.args.len c.from.result c.args.newline c.requires.sound z c.in-Fits.ensures in
    omega arith

pub overflow_add-result : goal.overflow_add-result
overflow_add-result c =
    let z = sizes c.args.window.now c.args.len c.from.result c.args.newline c.requires.sound c.requires.within c.from.ensures in
    let within = z.within in
    let inside = c.requires.sound.within in
    let size = c.requires.sound.size in
    omega arith

pub returns-in-Fits-clause-sound : goal.returns-in-Fits-clause-sound
returns-in-Fits-clause-sound c =
    let z = sizes c.args.window.now c.args.len c.from.result c.args.newline c.requires.sound c.requires.within c.from.ensures in
    let most = fitting c.args.window.now c.args.len c.from.result c.args.newline c.requires.sound z c.in-Fits.ensures in
    let within = z.within in
    record { ordered = omega arith; within = c.requires.sound.within; size = c.requires.sound.size; handed = omega arith }

pub returns-in-Fits-clause-place : goal.returns-in-Fits-clause-place
returns-in-Fits-clause-place c =
    let z = sizes c.args.window.now c.args.len c.from.result c.args.newline c.requires.sound c.requires.within c.from.ensures in
    let within = z.within in
    let inside = c.requires.sound.within in
    let size = c.requires.sound.size in
    (omega arith, omega arith)

pub returns-in-Fits-clause-hands : goal.returns-in-Fits-clause-hands
returns-in-Fits-clause-hands c =
    let z = sizes c.args.window.now c.args.len c.from.result c.args.newline c.requires.sound c.requires.within c.from.ensures in
    let within = z.within in
    let w = c.args.window.now in
    record {
      bytes = sym (take_between w.from w.upto c.args.len w.buf.items (omega arith));
      fits = c.in-Fits.ensures (take c.args.len (held w)) z.line;
      handed = ap (λ n. w.handed + n) (sym z.size);
      held = between_drop w.from w.upto (c.args.len + c.from.result) w.buf.items within ∙ ap (λ n. drop n (held w)) (sym z.size);
    }

pub returns-in-LineTooLong-clause-hands : goal.returns-in-LineTooLong-clause-hands
returns-in-LineTooLong-clause-hands c =
    (c.in-LineTooLong.ensures _ (length-take-le c.args.len (held c.args.window.now) (omega arith)), refl)

pub returns-in-ScriptTooLong-clause-hands : goal.returns-in-ScriptTooLong-clause-hands
returns-in-ScriptTooLong-clause-hands c =
    (c.in-ScriptTooLong.ensures _ (length-take-le c.args.len (held c.args.window.now) (omega arith)), refl)
