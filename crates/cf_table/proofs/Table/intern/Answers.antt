use Rattle.std.proofs.Common.{◌∙◌, ◌<◌, ◌+◌, refl, sym, ap, subst, length}
use Rattle.std.proofs.lemmas.List.Elements.{All-weaker}
use Rattle.cf_model.specs.Diagrams.{Levels, count, exits, IsGood, IsGoodNode, Extends}
use Rattle.cf_model.proofs.Growing.{pattern_kept}
use Rattle.cf_table.specs.Groupings.{Groupings, IsConnectionOver, IsInterned, exits_with, node_with}
use Rattle.cf_table.specs.Kept.{kept_of, shown_levels}
use Rattle.cf_table.proofs.Interned.{Leaves, entered}
use Rattle.cf_table.proofs.Products.{products_kept, shown_kept}
use Rattle.cf_table.proofs.Reductions.{reductions_kept}
use Rattle.cf_table.proofs.Triples.{triples_kept, shown_kept as triples_shown_kept}
use Rattle.cf_table.proofs.Table.intern.Goals as goal

abbrev before : goal.In_ok-at → Levels
before c = shown_levels c.self.inside.levels c.self.inside.book

abbrev now : goal.In_ok-at → Levels
now c = shown_levels c.enter.new.levels c.self.inside.book

all : (c : goal.In_ok-at) → Leaves c.self.inside.levels c.enter.new.levels c.self.inside.book c.args.a.level (node_with c.self.inside.book c.args.a.at c.args.bs.now) c.in_ok-at.at
all c =
    let book = c.self.inside.book in
    let a = c.args.a in
    let bs = c.args.bs.now in
    let v = sym c.self.view_is in
    entered c.self.inside.levels c.enter.new.levels book a.level a.at c.in_ok-at.at bs (kept_of (c.in_ok-node.node, exits_with book bs)) c.self.invariant.groupings c.requires.level c.in_ok-node.ensures refl
    (All-weaker (IsConnectionOver c.args.self.now a.level) (λ b. b.ret.at < length book) (λ b q. subst (λ (t : Groupings). b.ret.at < length t.tuples) v q.tuple) bs c.requires.connections)
    (subst (λ (t : Groupings). IsGoodNode (count t.levels a.level) (exits t.levels a.level) (node_with t.tuples a.at bs)) v c.requires.good)
    c.in_ok-at.ensures.entered

pub invariant_of-self-2 : goal.invariant_of-self-2
invariant_of-self-2 c = record {
  groupings = (all c).holds;
  products = products_kept (before c) (now c) c.self.invariant.groupings.good (all c).extended c.self.inside.products.entries c.self.invariant.products;
  triples = triples_kept (before c) (now c) c.self.invariant.groupings.good (all c).extended c.self.inside.triples.entries c.self.invariant.triples;
  reductions = reductions_kept (before c) (now c) c.self.invariant.groupings.good (all c).extended c.self.inside.reductions.entries c.self.invariant.reductions;
}

pub returns-clause-products : goal.returns-clause-products
returns-clause-products c = shown_kept (before c) (now c) c.self.invariant.groupings.good (all c).extended c.self.inside.products.entries c.self.invariant.products.are ∙ ap (λ (t : Groupings). t.products) c.self.view_is

pub returns-clause-triples : goal.returns-clause-triples
returns-clause-triples c = triples_shown_kept (before c) (now c) c.self.invariant.groupings.good (all c).extended c.self.inside.triples.entries c.self.invariant.triples.are ∙ ap (λ (t : Groupings). t.triples) c.self.view_is

pub returns-clause-good : goal.returns-clause-good
returns-clause-good c = (all c).holds.good

extended : (c : goal.In_ok-at) → Extends c.args.self.now.levels (now c)
extended c = subst (λ (t : Groupings). Extends t.levels (now c)) c.self.view_is (all c).extended

pub returns-clause-kept : goal.returns-clause-kept
returns-clause-kept c = extended c

pub returns-clause-patterns : goal.returns-clause-patterns
returns-clause-patterns c = pattern_kept c.args.self.now.levels (now c) (subst (λ (t : Groupings). IsGood t.levels) c.self.view_is c.self.invariant.groupings.good) (extended c)

pub returns-clause-interned : goal.returns-clause-interned
returns-clause-interned c = subst (λ (t : Groupings). IsInterned t.levels (now c) (c.args.a.level + 1) (node_with t.tuples c.args.a.at c.args.bs.now) c.in_ok-at.at) c.self.view_is (all c).interned
