-- A line comes to one thing.
use Rattle.std.proofs.Common.{ℕ, ◌≡◌, true, false, List, refl, ap, sym, ◌∙◌}
use Rattle.cf_reference.specs.Trees.{Statement, statement_fits}
use Rattle.cf_reference.specs.Grammar.{Spells}
use Rattle.cf_reference.specs.LineRefusals.{TooDeep, Malformed, WideNumber, Good, LinesParseOnce}
use Rattle.cf_reference.proofs.GrammarLaws.{one_statement}

differ : (line : List ℕ) (t u : Statement) → Spells line t → Spells line u → statement_fits t ≡ false → statement_fits u ≡ true → ⊥
differ line t u h k wide fits = let e : false ≡ true = sym wide ∙ (ap statement_fits (one_statement line t u h k) ∙ fits) in cc

pub parse_once : LinesParseOnce
parse_once line TooDeep TooDeep p q = refl
parse_once line TooDeep Malformed p q = absurd (q.0 p)
parse_once line TooDeep WideNumber p q = absurd (q.0 p)
parse_once line TooDeep (Good u) p q = absurd (q.0 p)
parse_once line Malformed TooDeep p q = absurd (p.0 q)
parse_once line Malformed Malformed p q = refl
parse_once line Malformed WideNumber p q = absurd (p.1 q.1.0 q.1.1)
parse_once line Malformed (Good u) p q = absurd (p.1 u q.1)
parse_once line WideNumber TooDeep p q = absurd (p.0 q)
parse_once line WideNumber Malformed p q = absurd (q.1 p.1.0 p.1.1)
parse_once line WideNumber WideNumber p q = refl
parse_once line WideNumber (Good u) p q = absurd (differ line p.1.0 u p.1.1 q.1 p.1.2 q.2)
parse_once line (Good t) TooDeep p q = absurd (p.0 q)
parse_once line (Good t) Malformed p q = absurd (q.1 t p.1)
parse_once line (Good t) WideNumber p q = absurd (differ line q.1.0 t q.1.1 p.1 q.1.2 p.2)
parse_once line (Good t) (Good u) p q = ap Good (one_statement line t u p.1 q.1)
