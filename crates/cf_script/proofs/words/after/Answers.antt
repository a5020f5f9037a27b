use Rattle.std.proofs.Common.{◌∷◌, [], List, ℕ, ◌≡◌, sym, subst, ◌∙◌}
use Rattle.std.specs.Prelude.{IfNone}
use Rattle.std.proofs.lemmas.Option.{IfSome_then}
use Rattle.cf_script.proofs.WordFacts.{sign-before, none-behind}
use Rattle.cf_script.proofs.words.after.Goals as goal

pub returns-in-Some-clause-found : goal.returns-in-Some-clause-found
returns-in-Some-clause-found c =
    IfSome_then c.behind.result c.behind.ensures.found (λ r is.
    c.in-Some.ensures.same ∙ sign-before c.in-Some.text.now r.now c.args.sign is c.requires.visible c.requires.sign)

pub returns-in-Some-clause-none : goal.returns-in-Some-clause-none
returns-in-Some-clause-none c =
    subst (λ (l : List (List ℕ)). IfNone c.behind.result ((rest : List (List ℕ)) → l ≡ (c.args.sign ∷ []) ∷ rest → ⊥)) (sym c.in-Some.ensures.same)
    (none-behind c.behind.result c.in-Some.text.now c.args.sign c.in-Some.ensures.some c.in-Some.ensures.begins c.behind.ensures.none)
