use Rattle.std.proofs.Common.{◌≡◌, ◌<◌, ◌≤◌, ℕ, true, false, [], ◌∷◌, get_or, pos, Some, None, refl, sym, ap, ◌∙◌, arith}
use Rattle.std.proofs.lemmas.Bool.{false≢true}
use Rattle.std.proofs.lemmas.Option.{same_Some}
use Rattle.std.specs.Ordering.{int_eq}
use Rattle.cf_model.specs.FlatFunctions.{FlatFunction}
use Rattle.cf_model.specs.Assignments.{all_bits}
use Rattle.cf_model.specs.Diagrams.{pattern}
use Rattle.cf_table.specs.Groupings.{only_base}
use Rattle.cf_pkg.specs.declared.Func.{Func}
use Rattle.cf_pkg.specs.Memos.{no_job}
use Rattle.cf_pkg.specs.Packages.{Package, package_of}
use Rattle.cf_witness.specs.Nexts.{is_marked, has_marked, leads, IsNext}
use Rattle.cf_witness.specs.Witnesses.{is_value, assignments_of}
use Rattle.cf_witness.specs.Separating.{Differ, AgreeEverywhere}

-- a function with the value 1 where its two bits differ, and else 0
abbrev differing : FlatFunction
differing = record { level = 1; values = pos 0 ∷ pos 1 ∷ pos 1 ∷ pos 0 ∷ [] }

ones_of_differing : assignments_of differing (pos 1) ≡ (false ∷ true ∷ []) ∷ (true ∷ false ∷ []) ∷ []
unfolding all_bits
ones_of_differing = refl

-- a value that no assignment has
none_of_differing : assignments_of differing (pos 7) ≡ []
unfolding all_bits
none_of_differing = refl

-- no value is not the value 0
no_value_is_not_0 : is_value (pos 0) None ≡ false
no_value_is_not_0 = refl

value_0 : is_value (pos 0) (Some (pos 0)) ≡ true
value_0 = refl

second_is_marked : is_marked (false ∷ true ∷ []) 1 ≡ true
second_is_marked = refl

-- past the marks there is none
third_is_not_marked : is_marked (true ∷ true ∷ []) 2 ≡ false
third_is_not_marked = refl

some_marked : has_marked (false ∷ true ∷ []) (0 ∷ 1 ∷ []) ≡ true
some_marked = refl

none_marked : has_marked (true ∷ false ∷ []) (1 ∷ 1 ∷ []) ≡ false
none_marked = refl

-- the exits of four assignments, of which the second is marked
leads_at_01 : leads (0 ∷ 1 ∷ 0 ∷ 0 ∷ []) (false ∷ true ∷ []) (false ∷ true ∷ []) ≡ true
leads_at_01 = refl

leads_not_at_10 : leads (0 ∷ 1 ∷ 0 ∷ 0 ∷ []) (false ∷ true ∷ []) (true ∷ false ∷ []) ≡ false
leads_not_at_10 = refl

next_from_1 : IsNext (0 ∷ 1 ∷ 0 ∷ 1 ∷ []) (false ∷ true ∷ []) 2 3 1
next_from_1 = record { reached = omega arith; within = omega arith; exit_is = refl; marked = refl; none_before = λ n ge lt e. at_2 n ge lt e }
  where
    at_2 : (n : ℕ) → 2 ≤ n → n < 3 → is_marked (false ∷ true ∷ []) (get_or (0 ∷ 1 ∷ 0 ∷ 1 ∷ []) n 0) ≡ true → ⊥
    at_2 n ge lt e =
        let two : n ≡ 2 = omega (arith, ge, lt) in
        false≢true (ap (λ (k : ℕ). is_marked (false ∷ true ∷ []) (get_or (0 ∷ 1 ∷ 0 ∷ 1 ∷ []) k 0)) (sym two) ∙ e)

-- the first marked one of all isn't the next from place 2 on
not_before_2 : IsNext (0 ∷ 1 ∷ 0 ∷ 1 ∷ []) (false ∷ true ∷ []) 2 1 1 → ⊥
not_before_2 h = omega (arith, h.reached)

-- a bit, and twice the bit
abbrev two_functions : Package
two_functions = package_of only_base ((pos 0 ∷ pos 1 ∷ []) ∷ (pos 0 ∷ pos 2 ∷ []) ∷ []) no_job

abbrev bit : Func
bit = record { head = record { level = 0; at = 1 }; vals = record { at = 0 } }

abbrev twice : Func
twice = record { head = record { level = 0; at = 1 }; vals = record { at = 1 } }

differ_at_1 : Differ two_functions bit twice (true ∷ [])
unfolding pattern
differ_at_1 same = false≢true (ap (λ z. int_eq z (pos 1)) (sym (same_Some (pos 1) (pos 2) same)))

not_at_0 : Differ two_functions bit twice (false ∷ []) → ⊥
unfolding pattern
not_at_0 differ = differ refl

-- where they differ, they don't agree everywhere
not_everywhere : AgreeEverywhere two_functions bit twice → ⊥
not_everywhere agree = differ_at_1 (agree (true ∷ []) refl)
