use Rattle.std.proofs.Common.{subst, List, ℕ}
use Rattle.cf_tuple.specs.Books.{lists_of, IsInterned, Lengthens}
use Rattle.cf_tuple.proofs.Noted.{IsNoted, noted}
use Rattle.cf_tuple.proofs.Small.{noted_small}
use Rattle.cf_tuple.proofs.TupleBook.note.Goals as goal

all : (c : goal.In_ok-at) → IsNoted c.self.inside.lists.keys c.insert_full.new.self.keys c.args.list.now c.in_ok-at.at
all c = noted c.self.inside.lists.keys c.insert_full.new.self.keys c.in_ok-list.list c.args.list.now c.in_ok-at.at c.in_ok-list.ensures.ok c.in_ok-at.ensures.keys c.in_ok-at.ensures.stored

pub invariant_of-self-2 : goal.invariant_of-self-2
invariant_of-self-2 c = record {
  differ = (all c).differ c.self.invariant.differ;
  small = noted_small (lists_of c.self.inside.lists.keys) (lists_of c.insert_full.new.self.keys) c.self.inside.small.items (all c).kept c.self.invariant.small;
}

pub returns-clause-differ : goal.returns-clause-differ
returns-clause-differ c = (all c).differ c.self.invariant.differ

pub returns-clause-interned : goal.returns-clause-interned
returns-clause-interned c = subst (λ (xs : List (List ℕ)). IsInterned xs (lists_of c.insert_full.new.self.keys) c.args.list.now c.in_ok-at.at) c.self.view_is (all c).interned

pub returns-clause-kept : goal.returns-clause-kept
returns-clause-kept c = subst (λ (xs : List (List ℕ)). Lengthens xs (lists_of c.insert_full.new.self.keys)) c.self.view_is (all c).kept
