use Rattle.std.proofs.Common.{◌≡◌, ℕ, zero, suc, ◌<◌, ◌≤◌, ◌^◌, ℤ, pos, Bool, List, length, get_or, Some, sym, ◌∙◌, ap, arith}
use Rattle.std.specs.Prelude.{All}
use Rattle.std.specs.List.{slice_get}
use Rattle.std.proofs.lemmas.List.{length-map, get_or-map}
use Rattle.std.proofs.lemmas.Option.{slice_get_within, get_or_from_slice_get}
use Rattle.cf_model.specs.Assignments.{number_of}
use Rattle.cf_model.specs.Renumbering.{IsCanon}
use Rattle.cf_model.specs.FlatFunctions.{IsAssignment}
use Rattle.cf_model.specs.Matrices.{transpose}
use Rattle.cf_model.specs.Diagrams.{Levels, count, pattern, exits, IsGood}
use Rattle.cf_model.proofs.RenumberingLaws.{canon_read}
use Rattle.cf_model.proofs.Growth.{Under-width}
use Rattle.cf_model.proofs.Canonicity.{level_holds, pattern_full}
use Rattle.cf_table.specs.declared.Gid.{Gid}
use Rattle.cf_build.specs.Assembling.{HasCanon}
use Rattle.cf_pkg.specs.Jobs.{Gives}
use Rattle.cf_pkg.proofs.Valued.{read_at}
use Rattle.cf_kron.specs.Products.{value_by}
use Rattle.cf_kron.specs.Transposed.{turned, exit_in, turned_exits, values_at}
use Rattle.cf_kron.proofs.ProductLaws.{value_read}
use Rattle.cf_kron.proofs.TransposeLaws.{table_read, turned_assigns, labels_in}

-- the grouping that was transposed, with the values of the exits that are left
pub transposed_gives : (t u : Levels) → IsGood t → IsGood u → (f : Gid) → 1 ≤ f.level → f.at < count t f.level → (vs : List ℤ) → length vs ≡ exits t f.level f.at → (g : Gid) (es : List ℕ)
    → HasCanon u g f.level (turned_exits f.level (pattern t f.level f.at)) es → Gives u g (values_at vs es) f.level (λ bits. Some (transpose (value_by t f vs) bits))
transposed_gives t u gt gu f some own vs long g es c =
    let l = f.level in
    let p = pattern t l f.at in
    let all = turned_exits l p in
    record {
      level = c.level;
      there = c.there;
      valued = length-map es (λ e. get_or vs e (pos 0)) ∙ sym c.canon.reached ∙ (level_holds u gu g.level).reaches g.at c.there;
      values = λ bits a.
          (let ta : IsAssignment l (turned bits) = turned_level l some bits a in
          let x = get_or (pattern u g.level g.at) (number_of bits) 0 in
          let told : slice_get es x ≡ Some (exit_in p (turned bits)) =
          canon_read all (pattern u g.level g.at) es c.canon (number_of bits) (slice_get_within all (number_of bits) (exit_in p (turned bits)) (table_read (2 ^ l) (λ b. exit_in p (turned b)) bits a)) ∙ table_read (2 ^ l) (λ b. exit_in p (turned b)) bits a in
          read_at u gu g l c.level c.there (values_at vs es) bits a
          ∙ ap Some (get_or-map (λ e. get_or vs e (pos 0)) es x 0 (pos 0) (slice_get_within es x (exit_in p (turned bits)) told)
          ∙ ap (λ (e : ℕ). get_or vs e (pos 0)) (get_or_from_slice_get es x (exit_in p (turned bits)) 0 told)
          ∙ sym (value_read t gt f own vs (turned bits) ta)));
    }
  where
    turned_level : (l : ℕ) → 1 ≤ l → (bits : List Bool) → IsAssignment l bits → IsAssignment l (turned bits)
    turned_level zero h bits a = absurd (omega (arith, h))
    turned_level (suc l) h bits a = turned_assigns l bits a

-- the exits that are left have values
values_in_suc : (t : Levels) → IsGood t → (l i : ℕ) → i < count t (suc l) → (n : ℕ) → n ≡ exits t (suc l) i → (ranks es : List ℕ) → IsCanon (turned_exits (suc l) (pattern t (suc l) i)) ranks es → All (λ e. e < n) es
values_in_suc t good l i own n e ranks es c =
    labels_in l n (pattern t (suc l) i) ranks es (Under-width 0 n (pattern t (suc l) i) (omega (arith, (level_holds t good (suc l)).reaches i own, e))) (pattern_full t good (suc l) i own) c

pub values_in : (t : Levels) → IsGood t → (l i : ℕ) → 1 ≤ l → i < count t l → (n : ℕ) → n ≡ exits t l i → (ranks es : List ℕ) → IsCanon (turned_exits l (pattern t l i)) ranks es → All (λ e. e < n) es
values_in t good zero i h own n e ranks es c = absurd (omega (arith, h))
values_in t good (suc l) i h own n e ranks es c = values_in_suc t good l i own n e ranks es c
