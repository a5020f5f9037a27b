use Rattle.std.proofs.Common.{◌≡◌, ◌∙◌, ap, subst, List, ◌++◌, ℕ, Some, IfSome}
use Rattle.std.specs.List.{slice_get}
use Rattle.cf_tuple.proofs.Noted.{placed}
use Rattle.cf_tuple.proofs.TupleBook.place_of.Goals as goal

pub returns-clause-there : goal.returns-clause-there
returns-clause-there c = subst (λ (xs : List (List ℕ)). IfSome c.get_index_of.result (λ i. slice_get xs i ≡ Some c.args.list.now)) c.self.view_is
    (placed c.self.inside.lists.keys c.extend_from_slice.new.self c.args.list.now c.get_index_of.result c.get_index_of.ensures.index
    (c.in_ok-extend_from_slice.ensures.ok ∙ ap (λ (xs : List ℕ). xs ++ c.args.list.now) c.clear.ensures.items))
