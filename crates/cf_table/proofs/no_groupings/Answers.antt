use Rattle.std.proofs.Common.{◌≡◌, ℕ, zero, suc, List, [], ◌∷◌, ◌<◌, length, get_or, refl, ap, arith}
use Rattle.cf_model.specs.Diagrams.{count, IsGood}
use Rattle.cf_table.specs.Groupings.{only_base}
use Rattle.cf_table.specs.Kept.{Kept, Holds}
use Rattle.cf_table.proofs.no_groupings.Goals as goal

-- no level above level 0 has a grouping
none : (l : ℕ) → count only_base.levels (suc l) ≡ 0
none zero = refl
none (suc zero) = refl
none (suc (suc zero)) = refl
none (suc (suc (suc zero))) = refl
none (suc (suc (suc (suc zero)))) = refl
none (suc (suc (suc (suc (suc zero))))) = refl
none (suc (suc (suc (suc (suc (suc zero)))))) = refl
none (suc (suc (suc (suc (suc (suc (suc l))))))) = refl

good : IsGood only_base.levels
good = record {
  base = refl;
  good_nodes = λ l i h. absurd (omega (arith, h, none l));
  nodes_differ = λ l i j hi hj e. absurd (omega (arith, hi, none l));
}

abbrev blank : List (List Kept)
blank = [] ∷ [] ∷ [] ∷ [] ∷ [] ∷ [] ∷ [] ∷ []

empty : (l : ℕ) (d : List Kept) → l < 7 → get_or blank l d ≡ []
empty zero d h = refl
empty (suc zero) d h = refl
empty (suc (suc zero)) d h = refl
empty (suc (suc (suc zero))) d h = refl
empty (suc (suc (suc (suc zero)))) d h = refl
empty (suc (suc (suc (suc (suc zero))))) d h = refl
empty (suc (suc (suc (suc (suc (suc zero)))))) d h = refl
empty (suc (suc (suc (suc (suc (suc (suc l))))))) d h = absurd (omega (arith, h))

holds : Holds blank []
holds = record {
  seven = refl;
  good = good;
  kept = λ l d h k e at. absurd (omega (arith, at, ap length (empty l d h)));
  differ = λ i j x h k. cc;
}

pub returns-clause-holds : goal.returns-clause-holds
returns-clause-holds c = rw (c.new.ensures, c.new-2.ensures, c.new-3.ensures, c.new-4.ensures, c.new-5.ensures, c.new-6.ensures, c.new-7.ensures) holds
