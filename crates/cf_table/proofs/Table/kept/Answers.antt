use Rattle.std.proofs.Common.{◌≡◌, ℕ, List, Some, [], suc, ◌-◌, ◌<◌, ◌∙◌, sym, ap, subst, get_or, length, arith}
use Rattle.std.specs.List.{slice_get}
use Rattle.std.proofs.lemmas.List.{get_or_default, length-map}
use Rattle.cf_model.specs.Diagrams.{count, node}
use Rattle.cf_table.specs.Groupings.{Groupings}
use Rattle.cf_table.specs.Kept.{Kept, IsKept, kept_of, shown_level, shown_levels, shown_node}
use Rattle.cf_table.proofs.Shown.{shown_read, is_kept}
use Rattle.cf_table.proofs.Told.{inside}
use Rattle.cf_table.proofs.Table.kept.Goals as goal

abbrev it : goal.After-get → Kept
it c = kept_of (c.get.result.0.now, c.get.result.1)

level : (c : goal.After-get) → suc (c.args.g.level - 1) ≡ c.args.g.level
level c = omega (arith, c.requires.level)

owned : (c : goal.After-get) → c.args.g.at < count (shown_levels c.self.inside.levels c.self.inside.book) c.args.g.level
owned c = subst (λ (t : Groupings). c.args.g.at < count t.levels c.args.g.level) (sym c.self.view_is) c.requires.owned

within : (c : goal.After-get) → c.args.g.level - 1 < length c.self.inside.levels
within c = omega (arith, c.requires.level, inside (shown_levels c.self.inside.levels c.self.inside.book) c.args.g.level c.args.g.at (owned c), length-map c.self.inside.levels (shown_level c.self.inside.book))

there : (c : goal.After-get) → slice_get (get_or c.self.inside.levels (c.args.g.level - 1) []) c.args.g.at ≡ Some (it c)
there c = ap (λ (ks : List Kept). slice_get ks c.args.g.at) (get_or_default c.self.inside.levels (c.args.g.level - 1) [] c.index-self-g.result (within c)) ∙ c.get.ensures

pub returns-clause-shown : goal.returns-clause-shown
returns-clause-shown c =
    subst (λ (t : Groupings). shown_node t.tuples (it c) ≡ node t.levels c.args.g.level c.args.g.at) c.self.view_is
    (subst (λ (l : ℕ). shown_node c.self.inside.book (it c) ≡ node (shown_levels c.self.inside.levels c.self.inside.book) l c.args.g.at) (level c)
    (shown_read c.self.inside.levels c.self.inside.book (c.args.g.level - 1) c.args.g.at (it c) (within c)
    (subst (λ (l : ℕ). c.args.g.at < count (shown_levels c.self.inside.levels c.self.inside.book) l) (sym (level c)) (owned c)) (there c)))

pub returns-clause-kept : goal.returns-clause-kept
returns-clause-kept c =
    subst (λ (t : Groupings). IsKept t.tuples (it c)) c.self.view_is
    (is_kept c.self.inside.levels c.self.inside.book c.self.invariant.groupings (c.args.g.level - 1) c.args.g.at (it c) (within c) (there c))
