use Rattle.std.proofs.Common.{◌≡◌, ◌^◌, ◌-◌, ℕ, ℤ, pos, Bool, true, false, List, [], ◌∷◌, map, length, Some, None, refl, sym, ap}
use Rattle.cf_model.specs.Assignments.{number_of, with_bit, all_bits}
use Rattle.cf_model.specs.Terms.{term, terms}
use Rattle.cf_model.specs.Pointwise.{applied, restricted}
use Rattle.cf_model.specs.declared.terms.Word2.TheVariants.{Plus, Times}
use Rattle.cf_model.specs.declared.terms.Term.{Term, X, Y, Z, Fold, Ite}
use Rattle.std.proofs.lemmas.List.{set-set, length-set, set_comm}
use Rattle.std.specs.Prelude.{◌≢◌}

-- the number of an assignment, as a function
abbrev numbered : List Bool → ℤ
numbered bits = pos (number_of bits)

squares : map (applied (Fold Times (X ∷ X ∷ [])) numbered numbered numbered) (all_bits 2) ≡ Some (pos 0) ∷ Some (pos 1) ∷ Some (pos 4) ∷ Some (pos 9) ∷ []
unfolding term terms Rattle.cf_model.specs.declared.terms.Term.TheBlock.hidden-the_row-Term-1 denote.Hole.Carrier.hidden all_bits
squares = refl

-- a value at some assignments, and none at others
sums_to_the_edge : map (applied (Fold Plus (X ∷ Y ∷ [])) numbered (λ bits. pos (2 ^ 127 - 2)) numbered) (all_bits 1) ≡ Some (pos (2 ^ 127 - 2)) ∷ Some (pos (2 ^ 127 - 1)) ∷ []
unfolding term terms Rattle.cf_model.specs.declared.terms.Term.TheBlock.hidden-the_row-Term-1 denote.Hole.Carrier.hidden all_bits
sums_to_the_edge = refl

past_the_edge : applied (Fold Plus (X ∷ Y ∷ [])) numbered (λ bits. pos (2 ^ 127 - 2)) numbered (true ∷ false ∷ []) ≡ None
unfolding term terms Rattle.cf_model.specs.declared.terms.Term.TheBlock.hidden-the_row-Term-1 denote.Hole.Carrier.hidden
past_the_edge = refl

-- the functions keep their order: 5 where the first one isn't 0, else 6
chosen_at_each : map (applied (Ite X Y Z) numbered (λ bits. pos 5) (λ bits. pos 6)) (all_bits 1) ≡ Some (pos 6) ∷ Some (pos 5) ∷ []
unfolding term terms Rattle.cf_model.specs.declared.terms.Term.TheBlock.hidden-the_row-Term-1 denote.Hole.Carrier.hidden all_bits
chosen_at_each = refl

-- bit 0 set to 1: the restriction has the level of the function, and doesn't read the bit any more
first_bit_set : map (restricted numbered 0 true) (all_bits 2) ≡ pos 2 ∷ pos 3 ∷ pos 2 ∷ pos 3 ∷ []
unfolding all_bits
first_bit_set = refl

last_bit_clear : map (restricted numbered 1 false) (all_bits 2) ≡ pos 0 ∷ pos 0 ∷ pos 2 ∷ pos 2 ∷ []
unfolding all_bits
last_bit_clear = refl

-- bits are counted from the first one: bit 1 of four is the second highest, 4 in the number
second_bit_set : restricted numbered 1 true (true ∷ false ∷ false ∷ true ∷ []) ≡ pos 13
second_bit_set = refl

-- a second restriction of one bit changes nothing
pub restricted_twice : {A : Type 0} (f : List Bool → A) (i : ℕ) (b c : Bool) (bits : List Bool) → restricted (restricted f i b) i c bits ≡ restricted f i b bits
restricted_twice f i b c bits = ap f (set-set bits i c b)

-- restrictions of two bits change places
pub restricted_turned : {A : Type 0} (f : List Bool → A) (i j : ℕ) (b c : Bool) (bits : List Bool) → i ≢ j → restricted (restricted f i b) j c bits ≡ restricted (restricted f j c) i b bits
restricted_turned f i j b c bits d = ap f (set_comm bits j i c b (λ e. d (sym e)))

pub length-with_bit : (bits : List Bool) (i : ℕ) (b : Bool) → length (with_bit bits i b) ≡ length bits
length-with_bit bits i b = length-set bits i b
