use Rattle.std.proofs.Common.{Some, sym, ◌∙◌, ap, option_map}
use Rattle.std.proofs.lemmas.Option.{slice_get-map}
use Rattle.cf_values.specs.Books.{items_of, IsValueList}
use Rattle.cf_values.proofs.BookLaws.{IsBook-get}
use Rattle.cf_values.proofs.ValueBook.get.Goals as goal

values : (c : goal.After-as_slice) → IsValueList c.as_slice.result.now
values c =
    IsBook-get (items_of c.self.inside.lists.keys) c.args.v.at c.as_slice.result.now c.self.invariant
    (slice_get-map (λ v. v.items) c.self.inside.lists.keys c.args.v.at ∙ ap (λ r. option_map (λ v. v.items) r) c.index.ensures ∙ ap Some (sym c.as_slice.ensures.value))

pub returns-clause-some : goal.returns-clause-some
returns-clause-some c = (values c).some

pub returns-clause-differ : goal.returns-clause-differ
returns-clause-differ c = (values c).differ
