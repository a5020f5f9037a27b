use Rattle.std.proofs.Common.{◌≡◌, suc, ◌-◌, ℤ, List, Some, sym, ◌∙◌, subst, arith}
use Rattle.cf_build.proofs.Turns.{if_ok}
use Rattle.cf_pkg.specs.Jobs.{Gives}
use Rattle.cf_kron.specs.declared.named.Named.{Named}
use Rattle.cf_kron.specs.Matrices.{named_value}
use Rattle.cf_kron.proofs.NamedMade.{NamedFactors, law_below, same_named, gives_kept, product_all, named_made}
use Rattle.cf_kron.proofs.named.+matrix_of.Goals as goal

pub fitting_product-requires-clause-fit : goal.fitting_product-requires-clause-fit
fitting_product-requires-clause-fit t c =
    let level = c.args.level in
    let l = level - 1 in
    let e : suc l ≡ level = omega (arith, c.requires.some) in
    let matrix = c.args.matrix in
    let first = c.factors-first.result.0 in
    let second = c.factors-first.result.1 in
    let law = law_below matrix first second l level e c.factors-first.ensures in
    let u = c.matrix_of.new.table.levels in
    let f = c.in_ok-f.f in
    let ls = c.as_slice.result.now in
    let rs = c.as_slice-then-eq.result.now in
    let same : first ≡ second = same_named first second (sym c.eq.ensures ∙ c.if-eq.true) in
    let k : NamedFactors u matrix first second f ls f rs l = record {
      law = law;
      first_gives = subst (λ (v : List ℤ). Gives u f v l (λ bits. Some (named_value first bits))) (sym c.as_slice.ensures.value) c.in_ok-f.ensures.value;
      second_gives = subst (λ (n : Named). Gives u f rs l (λ bits. Some (named_value n bits))) same
          (subst (λ (v : List ℤ). Gives u f v l (λ bits. Some (named_value first bits))) (sym c.as_slice-then-eq.ensures.value) c.in_ok-f.ensures.value);
    } in
    product_all u matrix first second f ls f rs l k

pub returns-then-eq-clause-value : goal.returns-then-eq-clause-value
returns-then-eq-clause-value t c =
    let level = c.args.level in
    let l = level - 1 in
    let e : suc l ≡ level = omega (arith, c.requires.some) in
    let matrix = c.args.matrix in
    let first = c.factors-first.result.0 in
    let second = c.factors-first.result.1 in
    let law = law_below matrix first second l level e c.factors-first.ensures in
    let u = c.matrix_of.new.table.levels in
    let f = c.in_ok-f.f in
    let ls = c.as_slice.result.now in
    let rs = c.as_slice-then-eq.result.now in
    let same : first ≡ second = same_named first second (sym c.eq.ensures ∙ c.if-eq.true) in
    let k : NamedFactors u matrix first second f ls f rs l = record {
      law = law;
      first_gives = subst (λ (v : List ℤ). Gives u f v l (λ bits. Some (named_value first bits))) (sym c.as_slice.ensures.value) c.in_ok-f.ensures.value;
      second_gives = subst (λ (n : Named). Gives u f rs l (λ bits. Some (named_value n bits))) same
          (subst (λ (v : List ℤ). Gives u f v l (λ bits. Some (named_value first bits))) (sym c.as_slice-then-eq.ensures.value) c.in_ok-f.ensures.value);
    } in
    if_ok c.fitting_product.result _ _ c.fitting_product.ensures.value (λ r h. named_made u matrix first second f ls f rs l level k e c.fitting_product.new.table.levels r.0 r.1.items h)

pub fitting_product-requires-2-clause-fit : goal.fitting_product-requires-2-clause-fit
fitting_product-requires-2-clause-fit t c =
    let level = c.args.level in
    let l = level - 1 in
    let e : suc l ≡ level = omega (arith, c.requires.some) in
    let matrix = c.args.matrix in
    let first = c.factors-first.result.0 in
    let second = c.factors-first.result.1 in
    let law = law_below matrix first second l level e c.factors-first.ensures in
    let u = c.matrix_of.new.table.levels in
    let f = c.in_ok-f.f in
    let w = c.matrix_of-2.new.table.levels in
    let g = c.in_ok-g.g in
    let ls = c.as_slice-2.result.now in
    let rs = c.as_slice-3.result.now in
    let k : NamedFactors w matrix first second f ls g rs l = record {
      law = law;
      first_gives = subst (λ (v : List ℤ). Gives w f v l (λ bits. Some (named_value first bits))) (sym c.as_slice-2.ensures.value)
          (gives_kept u w c.in_ok-f.ensures.good c.in_ok-g.ensures.kept f c.in_ok-f.left.items l (λ bits. Some (named_value first bits)) c.in_ok-f.ensures.value);
      second_gives = subst (λ (v : List ℤ). Gives w g v l (λ bits. Some (named_value second bits))) (sym c.as_slice-3.ensures.value) c.in_ok-g.ensures.value;
    } in
    product_all w matrix first second f ls g rs l k

pub returns-clause-value : goal.returns-clause-value
returns-clause-value t c =
    let level = c.args.level in
    let l = level - 1 in
    let e : suc l ≡ level = omega (arith, c.requires.some) in
    let matrix = c.args.matrix in
    let first = c.factors-first.result.0 in
    let second = c.factors-first.result.1 in
    let law = law_below matrix first second l level e c.factors-first.ensures in
    let u = c.matrix_of.new.table.levels in
    let f = c.in_ok-f.f in
    let w = c.matrix_of-2.new.table.levels in
    let g = c.in_ok-g.g in
    let ls = c.as_slice-2.result.now in
    let rs = c.as_slice-3.result.now in
    let k : NamedFactors w matrix first second f ls g rs l = record {
      law = law;
      first_gives = subst (λ (v : List ℤ). Gives w f v l (λ bits. Some (named_value first bits))) (sym c.as_slice-2.ensures.value)
          (gives_kept u w c.in_ok-f.ensures.good c.in_ok-g.ensures.kept f c.in_ok-f.left.items l (λ bits. Some (named_value first bits)) c.in_ok-f.ensures.value);
      second_gives = subst (λ (v : List ℤ). Gives w g v l (λ bits. Some (named_value second bits))) (sym c.as_slice-3.ensures.value) c.in_ok-g.ensures.value;
    } in
    if_ok c.fitting_product-2.result _ _ c.fitting_product-2.ensures.value (λ r h. named_made w matrix first second f ls g rs l level k e c.fitting_product-2.new.table.levels r.0 r.1.items h)
