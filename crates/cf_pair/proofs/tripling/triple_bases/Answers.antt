use Rattle.std.proofs.Common.{◌≡◌, ℕ, ◌-◌, List, [], ◌∷◌, sym, ◌∙◌, ap, subst, arith}
use Rattle.cf_model.specs.Diagrams.{pattern, exits}
use Rattle.cf_model.specs.Renumbering.{IsCanon}
use Rattle.cf_model.proofs.Canonicity.{pattern-dont_care, pattern-fork}
use Rattle.cf_table.specs.Triples.{zip3}
use Rattle.cf_pair.proofs.Pairs.{canon_same, canon_two}
use Rattle.cf_pair.proofs.Triples.{base_triples, all_zero, not_all_zero}
use Rattle.cf_pair.proofs.tripling.triple_bases.Goals as goal

abbrev none : ℕ × ℕ × ℕ
none = (0, 0, 0)

abbrev last : ℕ → ℕ → ℕ → ℕ × ℕ × ℕ
last x y z = (x - 1, y - 1, z - 1)

pub returns-then-eq : goal.returns-then-eq
returns-then-eq c =
    let t = c.args.table.now.levels in
    let x = c.exits.result in
    let y = c.exits-2.result in
    let z = c.exits-3.result in
    let all = zip3 (pattern t c.args.f.level c.args.f.at) (pattern t c.args.g.level c.args.g.at) (pattern t c.args.h.level c.args.h.at) in
    let zero : last x y z ≡ none = all_zero (x - 1) (y - 1) (z - 1) (sym c.eq.ensures ∙ c.if-eq.true) in
    let read : all ≡ none ∷ none ∷ [] = base_triples t c.requires.good c.args.f c.args.g c.args.h c.requires.first_level c.requires.second_level c.requires.third_level c.requires.first c.requires.second c.requires.third
    ∙ ap (λ (m : ℕ). none ∷ last m (exits t c.args.g.level c.args.g.at) (exits t c.args.h.level c.args.h.at) ∷ []) (sym c.exits.ensures) ∙ ap (λ (m : ℕ). none ∷ last x m (exits t c.args.h.level c.args.h.at) ∷ []) (sym c.exits-2.ensures)
    ∙ ap (λ (m : ℕ). none ∷ last x y m ∷ []) (sym c.exits-3.ensures) ∙ ap (λ (p : ℕ × ℕ × ℕ). none ∷ p ∷ []) zero in
    record {
      there = tt;
      triples = record {
        level = sym c.requires.first_level;
        there = omega (arith, c.requires.good.base);
        canon = subst (λ (v : List (ℕ × ℕ × ℕ)). IsCanon v (pattern t 0 0) (none ∷ [])) (sym read)
            (subst (λ (p : List ℕ). IsCanon (none ∷ none ∷ []) p (none ∷ [])) (sym (pattern-dont_care t)) (canon_same none));
      };
    }

pub returns : goal.returns
returns c =
    let t = c.args.table.now.levels in
    let x = c.exits.result in
    let y = c.exits-2.result in
    let z = c.exits-3.result in
    let all = zip3 (pattern t c.args.f.level c.args.f.at) (pattern t c.args.g.level c.args.g.at) (pattern t c.args.h.level c.args.h.at) in
    let read : all ≡ none ∷ last x y z ∷ [] = base_triples t c.requires.good c.args.f c.args.g c.args.h c.requires.first_level c.requires.second_level c.requires.third_level c.requires.first c.requires.second c.requires.third
    ∙ ap (λ (m : ℕ). none ∷ last m (exits t c.args.g.level c.args.g.at) (exits t c.args.h.level c.args.h.at) ∷ []) (sym c.exits.ensures) ∙ ap (λ (m : ℕ). none ∷ last x m (exits t c.args.h.level c.args.h.at) ∷ []) (sym c.exits-2.ensures)
    ∙ ap (λ (m : ℕ). none ∷ last x y m ∷ []) (sym c.exits-3.ensures) in
    record {
      there = tt;
      triples = record {
        level = sym c.requires.first_level;
        there = omega (arith, c.requires.good.base);
        canon = subst (λ (v : List (ℕ × ℕ × ℕ)). IsCanon v (pattern t 0 1) (none ∷ last x y z ∷ [])) (sym read)
            (subst (λ (p : List ℕ). IsCanon (none ∷ last x y z ∷ []) p (none ∷ last x y z ∷ [])) (sym (pattern-fork t 0)) (canon_two none (last x y z) (not_all_zero (x - 1) (y - 1) (z - 1) (sym c.eq.ensures ∙ c.if-eq.false))));
      };
    }
