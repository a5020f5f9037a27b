use Rattle.std.proofs.Common.{◌≡◌, sym, ◌∙◌, Some}
use Rattle.cf_names.specs.Numbers.{number_of}
use Rattle.cf_names.proofs.NumberLaws.{position-number_of, found, missing}
use Rattle.cf_names.proofs.book.NameBook.find.Goals as goal

number : (c : goal.In_ok-index) → Some c.in_ok-index.index ≡ number_of c.args.self.now c.args.name.now
number c =
    position-number_of c.self.inside.names.keys _ _ _ c.self.view_is
    (sym c.in_ok-index.was ∙ c.get_index_of.ensures.index)

no_number : (c : goal.After-from_residual) → c.from_residual.result ≡ number_of c.args.self.now c.args.name.now
no_number c =
    position-number_of c.self.inside.names.keys _ _ _ c.self.view_is
    (c.from_residual.ensures ∙ sym c.in_err-index.was ∙ c.get_index_of.ensures.index)

pub returns-in_err-index-clause-number : goal.returns-in_err-index-clause-number
returns-in_err-index-clause-number c = no_number c

pub returns-in_err-index-clause-missing : goal.returns-in_err-index-clause-missing
returns-in_err-index-clause-missing c = missing _ _ _ (no_number c)

pub returns-clause-number : goal.returns-clause-number
returns-clause-number c = number c

pub returns-clause-found : goal.returns-clause-found
returns-clause-found c = found _ _ _ (number c)

pub returns-clause-missing : goal.returns-clause-missing
returns-clause-missing c = missing _ _ _ (number c)
