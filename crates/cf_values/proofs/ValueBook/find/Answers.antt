use Rattle.std.proofs.Common.{◌≡◌, subst, List, ℤ, Some, IfSome}
use Rattle.std.specs.List.{slice_get}
use Rattle.cf_values.proofs.Noted.{placed}
use Rattle.cf_values.proofs.ValueBook.find.Goals as goal

pub returns : goal.returns
returns c = subst (λ (xs : List (List ℤ)). IfSome c.get_index_of.result (λ i. slice_get xs i ≡ Some c.args.list.now)) c.self.view_is
    (placed c.self.inside.lists.keys c.args.list.now c.get_index_of.result c.get_index_of.ensures.index)
