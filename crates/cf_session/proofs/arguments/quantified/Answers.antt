use Rattle.std.proofs.Common.{rules, arith, ◌≡◌, ◌≤◌, ◌<◌, ◌-◌, List, length, get_or, ap, sym, subst}
use Rattle.cf_reference.specs.Trees.{more, atom}
use Rattle.cf_script.specs.declared.trees.Var.{Var}
use Rattle.cf_script.specs.Vars.{atom_of}
use Rattle.cf_script.specs.Views.{tree_of, atoms}
use Rattle.cf_session.specs.Arguments.{from_place}
use Rattle.cf_session.proofs.Places.{count_atoms, behind_one}
use Rattle.cf_session.proofs.arguments.quantified.Goals as goal

pub offset_bounds-items-place : goal.offset_bounds-items-place
offset_bounds-items-place c = omega (arith, count_atoms c.args.vars.now, ap length c.items.ensures, c.requires, c.items.type_inv.1)

pub bounds-items-place : goal.bounds-items-place
bounds-items-place c = omega (arith, count_atoms c.args.vars.now, ap length c.items.ensures, c.requires)

pub returns-in_default : goal.returns-in_default
returns-in_default c =
    let low : 1 ≤ c.args.place = search (rules, arith) in
    let inside : c.args.place - 1 < length c.args.vars.now = omega (arith, count_atoms c.args.vars.now, c.requires, low) in
    subst (λ (l : List Var). from_place c.args.place (more (tree_of c.args.e.now) (atoms c.args.vars.now)) ≡ atom (atom_of (get_or l (c.args.place - 1) _)) (from_place c.args.place (atoms c.args.vars.now)))
    (sym c.items.ensures) (behind_one (tree_of c.args.e.now) c.args.vars.now c.args.place _ low inside)
