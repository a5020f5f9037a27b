use Rattle.std.proofs.Common.{◌≡◌, ◌∙◌, ap, subst, List, ℕ, Some}
use Rattle.std.specs.List.{slice_get}
use Rattle.cf_model.specs.Renumbering.{IsNew}
use Rattle.cf_model.proofs.CanonLaws.{get_last}
use Rattle.cf_tuple.proofs.Entered.{known_key, new_key}
use Rattle.cf_tuple.proofs.lists.enter.Goals as goal

pub returns-in-Some-clause-keys : goal.returns-in-Some-clause-keys
returns-in-Some-clause-keys c = known_key c.args.entry c.args.seen.now.items c.in-Some.at (subst (λ (xs : List ℕ). slice_get xs c.in-Some.at ≡ Some c.args.entry) c.as_slice.ensures c.in-Some.ensures)

pub returns-clause-keys : goal.returns-clause-keys
returns-clause-keys c = c.in_ok-push.ensures.ok ∙ new_key c.args.entry c.args.seen.now.items (subst (λ (xs : List ℕ). IsNew xs c.args.entry) c.as_slice.ensures c.in_default.ensures)

pub returns-clause-stored : goal.returns-clause-stored
returns-clause-stored c = ap (λ (xs : List ℕ). slice_get xs c.len-at.result) c.in_ok-push.ensures.ok ∙ get_last c.args.seen.now.items c.args.entry c.len-at.result c.len-at.ensures.value
