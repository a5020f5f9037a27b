use Rattle.std.proofs.Common.{subst, List, ℤ}
use Rattle.cf_values.specs.Books.{items_of, IsInterned, Lengthens}
use Rattle.cf_values.proofs.Noted.{IsNoted, noted}
use Rattle.cf_values.proofs.ValueBook.intern.Goals as goal

all : (c : goal.In_ok-at) → IsNoted c.self.inside.lists.keys c.insert_full.new.self.keys c.args.list.now c.in_ok-at.at
all c = noted c.self.inside.lists.keys c.insert_full.new.self.keys c.in_ok-copy.copy c.args.list.now c.in_ok-at.at c.in_ok-copy.ensures.items c.in_ok-at.ensures.keys c.in_ok-at.ensures.stored c.self.invariant
    (record { some = c.requires.some; differ = c.requires.differ })

pub invariant_of-self-2 : goal.invariant_of-self-2
invariant_of-self-2 c = (all c).book

pub returns-clause-once : goal.returns-clause-once
returns-clause-once c = (all c).book.once

pub returns-clause-interned : goal.returns-clause-interned
returns-clause-interned c = subst (λ (xs : List (List ℤ)). IsInterned xs (items_of c.insert_full.new.self.keys) c.args.list.now c.in_ok-at.at) c.self.view_is (all c).interned

pub returns-clause-kept : goal.returns-clause-kept
returns-clause-kept c = subst (λ (xs : List (List ℤ)). Lengthens xs (items_of c.insert_full.new.self.keys)) c.self.view_is (all c).kept
