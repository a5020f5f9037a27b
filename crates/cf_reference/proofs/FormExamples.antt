-- The words of a command line, and the reference run of a seed.
use Rattle.std.proofs.Common.{◌≡◌, ℕ, List, [], ◌∷◌, Some, None, refl}
use Rattle.std.specs.Prelude.{codes}
use Rattle.cf_reference.specs.Forms.{Run, Generated, seed_of, form_of}
use Rattle.cf_reference.specs.States.{Files, initial}
use Rattle.cf_reference.specs.Generator.{gen_script}
use Rattle.cf_reference.specs.Lines.{lines}
use Rattle.cf_reference.specs.Replies.{usage_reply}
use Rattle.cf_reference.specs.Scripts.{Usage, ref, run_lines, unread}

one : seed_of (codes "1") ≡ Some 1
unfolding seed_of
one = refl

zero_alone : seed_of (codes "0") ≡ Some 0
unfolding seed_of
zero_alone = refl

leading_zeros : seed_of (codes "0000000000000000000000000000007") ≡ Some 7
unfolding seed_of
leading_zeros = refl

highest_seed : seed_of (codes "18446744073709551615") ≡ Some 18446744073709551615
unfolding seed_of
highest_seed = refl

too_high : seed_of (codes "18446744073709551616") ≡ None
unfolding seed_of
too_high = refl

no_plus_sign : seed_of (codes "+1") ≡ None
unfolding seed_of
no_plus_sign = refl

no_minus_sign : seed_of (codes "-1") ≡ None
unfolding seed_of
no_minus_sign = refl

no_blank : seed_of (codes "1 ") ≡ None
unfolding seed_of
no_blank = refl

no_other_base : seed_of (codes "0x1") ≡ None
unfolding seed_of
no_other_base = refl

no_digit : seed_of [] ≡ None
unfolding seed_of
no_digit = refl

run_alone : form_of (codes "run" ∷ []) ≡ Some Run
run_alone = refl

generated_one : form_of (codes "gen" ∷ codes "1" ∷ []) ≡ Some (Generated 1)
unfolding seed_of
generated_one = refl

-- a seed that spells none
signed_seed : form_of (codes "gen" ∷ codes "+1" ∷ []) ≡ None
unfolding seed_of
signed_seed = refl

no_seed : form_of (codes "gen" ∷ []) ≡ None
no_seed = refl

two_seeds : form_of (codes "gen" ∷ codes "1" ∷ codes "2" ∷ []) ≡ None
two_seeds = refl

capitals : form_of (codes "GEN" ∷ codes "1" ∷ []) ≡ None
capitals = refl

run_with_a_seed : form_of (codes "run" ∷ codes "1" ∷ []) ≡ None
run_with_a_seed = refl

no_words : form_of [] ≡ None
no_words = refl

-- whatever the source has, its script is not the one that is carried out
seed_alone : (files : Files) (source : List ℕ)
    → (ref files (codes "gen" ∷ codes "7" ∷ []) source).text
    ≡ (run_lines files initial 1 0 (lines (gen_script 7))).text
unfolding seed_of
seed_alone files source = refl

source_not_read : (files : Files) (source : List ℕ)
    → (ref files (codes "gen" ∷ codes "7" ∷ []) source).read ≡ 0
unfolding seed_of
source_not_read files source = refl

source_kept : (source : List ℕ) → unread (form_of (codes "gen" ∷ codes "7" ∷ [])) source ≡ source
unfolding seed_of
source_kept source = refl

source_emptied : (source : List ℕ) → unread (form_of (codes "run" ∷ [])) source ≡ []
source_emptied source = refl

-- other words get the usage line
refused_seed : (files : Files) (source : List ℕ)
    → (ref files (codes "gen" ∷ codes "18446744073709551616" ∷ []) source).text ≡ usage_reply
unfolding seed_of
refused_seed files source = refl

refused_seed_closes : (files : Files) (source : List ℕ)
    → (ref files (codes "gen" ∷ codes "18446744073709551616" ∷ []) source).close ≡ Usage
unfolding seed_of
refused_seed_closes files source = refl
