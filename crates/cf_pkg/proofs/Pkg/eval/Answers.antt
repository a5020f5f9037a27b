use Rattle.std.proofs.Common.{◌≡◌, ℤ, pos, List, [], length, get_or, Some, sym, ap, ◌∙◌, arith}
use Rattle.std.proofs.lemmas.Option.{get_or_from_slice_get}
use mir.Syntax.{w128}
use mir.Val.{to_z, of_z}
use Rattle.cf_table.specs.Groupings.{pattern_of}
use Rattle.cf_pkg.specs.Packages.{Package, values_of}
use Rattle.cf_pkg.proofs.Meanings.{Known, exit_valued, value_read}
use Rattle.cf_pkg.proofs.Pkg.eval.Goals as goal

pub offset_bounds-get-exit : goal.offset_bounds-get-exit
offset_bounds-get-exit g c =
    let p = c.args.self.now in
    let f = c.args.f in
    let known : Known p f = record { owned = c.requires.owned; good = c.law.ensures.good; level = c.law.ensures.level; once = c.law.ensures.once; function = c.law.ensures.function } in
    let values : values_of p f ≡ c.get.result.now = ap (λ (q : Package). values_of q f) (sym c.self.view_is) ∙ get_or_from_slice_get c.self.inside.values f.vals.at c.get.result.now [] c.get.ensures.list in
    let exit : c.exit_of-exit.result ≡ get_or (pattern_of p.groupings f.head) c.args.at.number 0
    = c.exit_of-exit.ensures.exit ∙ ap (λ (q : Package). get_or (pattern_of q.groupings f.head) c.args.at.number 0) c.self.view_is in
    omega (arith, exit_valued p f known c.args.at c.requires.len c.exit_of-exit.ensures.number, exit, ap length values, c.get.type_inv.0, c.get.type_inv.1)

pub bounds-get-exit : goal.bounds-get-exit
bounds-get-exit g c =
    let p = c.args.self.now in
    let f = c.args.f in
    let known : Known p f = record { owned = c.requires.owned; good = c.law.ensures.good; level = c.law.ensures.level; once = c.law.ensures.once; function = c.law.ensures.function } in
    let values : values_of p f ≡ c.get.result.now = ap (λ (q : Package). values_of q f) (sym c.self.view_is) ∙ get_or_from_slice_get c.self.inside.values f.vals.at c.get.result.now [] c.get.ensures.list in
    let exit : c.exit_of-exit.result ≡ get_or (pattern_of p.groupings f.head) c.args.at.number 0
    = c.exit_of-exit.ensures.exit ∙ ap (λ (q : Package). get_or (pattern_of q.groupings f.head) c.args.at.number 0) c.self.view_is in
    omega (arith, exit_valued p f known c.args.at c.requires.len c.exit_of-exit.ensures.number, exit, ap length values, c.get.type_inv.0, c.get.type_inv.1)

pub returns-clause-value : goal.returns-clause-value
returns-clause-value g c =
    let p = c.args.self.now in
    let f = c.args.f in
    let known : Known p f = record { owned = c.requires.owned; good = c.law.ensures.good; level = c.law.ensures.level; once = c.law.ensures.once; function = c.law.ensures.function } in
    let values : values_of p f ≡ c.get.result.now = ap (λ (q : Package). values_of q f) (sym c.self.view_is) ∙ get_or_from_slice_get c.self.inside.values f.vals.at c.get.result.now [] c.get.ensures.list in
    let exit : c.exit_of-exit.result ≡ get_or (pattern_of p.groupings f.head) c.args.at.number 0
    = c.exit_of-exit.ensures.exit ∙ ap (λ (q : Package). get_or (pattern_of q.groupings f.head) c.args.at.number 0) c.self.view_is in
    value_read p f known c.args.at c.requires.len c.exit_of-exit.ensures.number c.exit_of-exit.result exit
    ∙ ap (λ (v : List ℤ). Some (to_z w128 (of_z w128 (get_or v c.exit_of-exit.result (pos 0))))) values
