use Rattle.std.proofs.Common.{ℕ, List, map, sym, subst}
use Rattle.std.specs.List.{flat_map}
use Rattle.cf_model.specs.FlatFunctions.{points}
use Rattle.cf_model.specs.Diagrams.{count, exits, pattern, spell}
use Rattle.cf_model.proofs.Canonicity.{level_holds}
use Rattle.cf_model.specs.Renumbering.{IsCanon}
use Rattle.cf_build.specs.Assembling.{row_of, labels_over}
use Rattle.cf_build.specs.Joining.{row_connection, loose_node, AreNumbered}
use Rattle.cf_build.proofs.Joins.{words_map}
use Rattle.cf_build.proofs.Placing.{returns_flat}
use Rattle.cf_build.proofs.Numbers.{numbered, placed_levels, placed_loose, numbered_canon, shaped_rows}
use Rattle.cf_model.proofs.Callees.{sub_in}
use Rattle.cf_model.proofs.Growing.{pattern_kept}
use Rattle.cf_build.proofs.PartLaws.{only_sub}
use Rattle.cf_build.proofs.assemble_rows.Goals as goal

pub join-requires-clause-levels : goal.join-requires-clause-levels
join-requires-clause-levels g c = placed_levels c.args.table.now.levels c.args.a.level c.args.rows.now.rows c.places.result.0.now c.places.ensures.frames c.requires.rows

pub join-requires-clause-in_turn : goal.join-requires-clause-in_turn
join-requires-clause-in_turn g c =
    let rows = c.args.rows.now.rows in
    let ranks = c.as_slice.result.now in
    let ds = c.in_ok-ranks.different.items in
    let canon : IsCanon c.places.result.1.now ranks ds = subst (λ (v : List ℕ). IsCanon c.places.result.1.now v ds) (sym c.as_slice.ensures) c.in_ok-ranks.ensures.canon in
    (numbered rows c.places.result.0.now c.places.result.1.now ranks ds c.places.ensures canon).in_turn

pub join-requires-clause-loose : goal.join-requires-clause-loose
join-requires-clause-loose g c =
    let rows = c.args.rows.now.rows in
    let ranks = c.as_slice.result.now in
    let ds = c.in_ok-ranks.different.items in
    let canon : IsCanon c.places.result.1.now ranks ds = subst (λ (v : List ℕ). IsCanon c.places.result.1.now v ds) (sym c.as_slice.ensures) c.in_ok-ranks.ensures.canon in
    let n = numbered rows c.places.result.0.now c.places.result.1.now ranks ds c.places.ensures canon in
    placed_loose c.args.table.now.levels c.args.a.level c.args.a.at rows c.places.result.0.now ranks c.requires.owned c.requires.middles c.requires.rows n.frames n.in_turn n.canon.grows

pub returns-clause-assembled : goal.returns-clause-assembled
returns-clause-assembled g c =
    let t = c.args.table.now.levels in
    let l = c.args.a.level in
    let rows = c.args.rows.now.rows in
    let places = c.places.result.0.now in
    let ranks = c.as_slice.result.now in
    let ds = c.in_ok-ranks.different.items in
    let canon_ : IsCanon c.places.result.1.now ranks ds = subst (λ (v : List ℕ). IsCanon c.places.result.1.now v ds) (sym c.as_slice.ensures) c.in_ok-ranks.ensures.canon in
    let n : AreNumbered rows places ranks ds = numbered rows places c.places.result.1.now ranks ds c.places.ensures canon_ in
    let given = map row_of rows in
    let loosed = placed_loose t l c.args.a.at rows places ranks c.requires.owned c.requires.middles c.requires.rows n.frames n.in_turn n.canon.grows in
    let canon : IsCanon (flat_map (λ r. r.1) given) ranks ds = subst (λ (v : List _). IsCanon v ranks ds) (sym (words_map (λ r. r.1) row_of rows)) n.canon in
    let spelled : IsCanon (labels_over (pattern t l) c.args.a.at given) (spell (pattern t l) (loose_node c.args.a.at places ranks)) ds =
    numbered_canon (count t l) (points l) (exits t l) (pattern t l) (level_holds t c.law.ensures.good l) c.args.a.at (map (row_connection ranks) places) given ranks ds loosed (shaped_rows rows places ranks n.frames n.in_turn) (returns_flat ranks places n.in_turn) canon in
    let s = c.in_ok-g.ensures.joined in
    record { level = s.level; there = s.there; canon = subst (λ (v : List ℕ). IsCanon (labels_over (pattern t l) c.args.a.at given) v ds) (sym s.is_it) spelled }

pub returns-clause-added : goal.returns-clause-added
returns-clause-added g c = only_sub c.args.table.now.levels c.join.new.table.levels c.in_ok-g.ensures.good c.in_ok-g.g.level c.in_ok-g.g.at c.in_ok-g.ensures.joined.there c.in_ok-g.ensures.added

pub returns-clause-parts : goal.returns-clause-parts
returns-clause-parts g c = sub_in c.join.new.table.levels c.in_ok-g.ensures.good c.in_ok-g.g.level c.in_ok-g.g.at c.in_ok-g.ensures.joined.there

pub returns-clause-patterns : goal.returns-clause-patterns
returns-clause-patterns g c = pattern_kept c.args.table.now.levels c.join.new.table.levels c.law.ensures.good c.in_ok-g.ensures.extends

pub returns-in_err-g-clause-patterns : goal.returns-in_err-g-clause-patterns
returns-in_err-g-clause-patterns g c = pattern_kept c.args.table.now.levels c.join.new.table.levels c.law.ensures.good c.in_err-g.ensures.extends
