use Rattle.std.proofs.Common.{◌≡◌, [], ◌∷◌, ◌++◌, None, ap, sym, ◌∙◌, subst}
use Rattle.std.specs.List.{slice_get}
use Rattle.cf_model.specs.Renumbering.{AllDiffer}
use Rattle.cf_names.specs.Keys.{names_of}
use Rattle.cf_names.specs.Numbers.{number_of}
use Rattle.cf_names.proofs.NumberLaws.{known, numbers_next, Adds, added, names_of-insert}
use Rattle.cf_names.proofs.book.NameBook.number.Goals as goal

adds : (c : goal.In_ok-insert) → Adds c.args.self.now (names_of c.insert.new.self.keys) c.args.name.now
adds c =
    let view = c.self.view_is in
    let same = c.in_ok-owned.ensures.items in
    let none : None ≡ number_of c.args.self.now c.args.name.now = sym c.in_default.is ∙ c.find.ensures.number in
    let grown : names_of c.insert.new.self.keys ≡ c.args.self.now ++ c.args.name.now ∷ [] =
    names_of-insert c.self.inside.names.keys c.insert.new.self.keys c.in_ok-owned.owned
    (none ∙ ap (λ names. number_of names c.args.name.now) (sym view)
    ∙ ap (number_of (names_of c.self.inside.names.keys)) (sym same))
    c.in_ok-insert.ensures.keys
    ∙ ap (λ names. names ++ c.in_ok-owned.owned.items ∷ []) view ∙ ap (λ name. c.args.self.now ++ name ∷ []) same in
    subst (λ now. Adds c.args.self.now now c.args.name.now) (sym grown)
    (added c.args.self.now c.args.name.now (subst (λ names. AllDiffer names) view c.self.invariant) none)

pub invariant_of-self-2 : goal.invariant_of-self-2
invariant_of-self-2 c = (adds c).differ

pub returns-clause-number : goal.returns-clause-number
returns-clause-number c = c.len-n.ensures ∙ (adds c).number

pub returns-clause-noted : goal.returns-clause-noted
returns-clause-noted c = (adds c).noted

pub returns-in-Some-clause-by_first_appearance : goal.returns-in-Some-clause-by_first_appearance
returns-in-Some-clause-by_first_appearance c =
    let k = known c.args.self.now c.args.name.now c.in-Some.n (sym c.in-Some.is ∙ c.find.ensures.number) in
    numbers_next _ _ _ _ k.0 k.1

pub returns-clause-by_first_appearance : goal.returns-clause-by_first_appearance
returns-clause-by_first_appearance c = numbers_next _ _ _ _ (c.len-n.ensures ∙ (adds c).number) (adds c).noted

pub returns-clause-stands : goal.returns-clause-stands
returns-clause-stands c = ap (slice_get (names_of c.insert.new.self.keys)) c.len-n.ensures ∙ (adds c).stands

pub returns-clause-kept : goal.returns-clause-kept
returns-clause-kept c = (adds c).kept

pub returns-clause-differ : goal.returns-clause-differ
returns-clause-differ c = (adds c).differ
