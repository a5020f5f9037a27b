-- Names and their numbers on worked examples.
use Rattle.std.proofs.Common.{◌≡◌, ℕ, List, [], ◌∷◌, Some, None, get_or, refl, ap, arith}
use Rattle.std.specs.Prelude.{codes}
use Rattle.std.specs.Str.{bytes_eq}
use Rattle.cf_model.specs.Renumbering.{rgs, distinct, note, place}
use Rattle.cf_names.specs.Numbers.{number_of, NumbersNext}
use Rattle.cf_names.proofs.NumberLaws.{numbers_next}

abbrev read : List (List ℕ)
read = codes "f" ∷ codes "a" ∷ codes "f" ∷ codes "z" ∷ codes "a" ∷ []

abbrev book : List (List ℕ)
book = codes "f" ∷ codes "a" ∷ codes "z" ∷ []

-- numbers begin at 0 and go by first appearance, and not by the alphabet
numbers_of_read : rgs bytes_eq read ≡ 0 ∷ 1 ∷ 0 ∷ 2 ∷ 1 ∷ []
numbers_of_read = refl

book_of_read : distinct bytes_eq read ≡ book
book_of_read = refl

number_of_a : number_of book (codes "a") ≡ Some 1
number_of_a = refl

-- neither a front of a name nor a longer name is that name
no_number_of_ff : number_of book (codes "ff") ≡ None
no_number_of_ff = refl

no_number_of_nothing : number_of book [] ≡ None
no_number_of_nothing = refl

-- the name without bytes is a name like any other
number_of_nothing : number_of (codes "f" ∷ [] ∷ []) [] ≡ Some 1
number_of_nothing = refl

-- a name that the book has adds nothing
note_known : note bytes_eq book (codes "z") ≡ book
note_known = refl

-- a new name goes last, with the next number
note_new : note bytes_eq book (codes "b") ≡ codes "f" ∷ codes "a" ∷ codes "z" ∷ codes "b" ∷ []
note_new = refl

place_new : place bytes_eq book (codes "b") ≡ 3
place_new = refl

-- after `f` and `a` the name `f` has the number 0 still, and `z` gets 2
next_known : NumbersNext (codes "f" ∷ codes "a" ∷ []) (codes "f" ∷ codes "a" ∷ []) (codes "f") 0
next_known = numbers_next _ _ _ _ refl refl

next_new : NumbersNext (codes "f" ∷ codes "a" ∷ []) book (codes "z") 2
next_new = numbers_next _ _ _ _ refl refl

no_second_number : NumbersNext (codes "f" ∷ codes "a" ∷ []) (codes "f" ∷ codes "a" ∷ []) (codes "f") 1 → ⊥
no_second_number next =
    let canons = next (codes "f" ∷ codes "a" ∷ []) refl in
    omega (arith, ap (λ (c : List ℕ × List (List ℕ)). get_or c.0 2 0) canons)
