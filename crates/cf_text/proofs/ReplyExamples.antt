-- The replies on worked examples.
use Rattle.std.proofs.Common.{◌≡◌, [], ◌∷◌, ◌++◌, true, false, refl}
use Rattle.std.specs.Prelude.{codes, pos, negsuc}
use Rattle.std.specs.Fmt.{digits}
use Rattle.cf_reference.specs.Replies.{value_reply, bits_reply, none_reply, equal_reply, different_reply}
use Rattle.cf_reference.specs.Replies.{size_reply, stats_reply, listed_reply, refusal}

value_of_minus_7 : value_reply (negsuc 6) ≡ codes "-7" ++ 10 ∷ []
unfolding digits
value_of_minus_7 = refl

bits_01 : bits_reply (false ∷ true ∷ []) ≡ codes "01" ++ 10 ∷ []
bits_01 = refl

none_found : none_reply ≡ codes "none" ++ 10 ∷ []
none_found = refl

equal_functions : equal_reply ≡ codes "equal" ++ 10 ∷ []
equal_functions = refl

-- the first function's value stands first
differ_at_01 : different_reply (false ∷ true ∷ []) (pos 0) (negsuc 0) ≡ codes "different 01 0 -1" ++ 10 ∷ []
unfolding digits
differ_at_01 = refl

size_at_level_0 : size_reply (2 ∷ []) 2 ≡ codes "size 2 exits 2" ++ 10 ∷ []
unfolding digits
size_at_level_0 = refl

size_at_level_2 : size_reply (2 ∷ 3 ∷ 1 ∷ []) 10 ≡ codes "size 2 3 1 exits 10" ++ 10 ∷ []
unfolding digits
size_at_level_2 = refl

stats_of_five_names : stats_reply 5 (2 ∷ 3 ∷ 1 ∷ 0 ∷ 0 ∷ 0 ∷ 0 ∷ 12 ∷ []) ≡ codes "stats 5 2 3 1 0 0 0 0 12" ++ 10 ∷ []
unfolding digits
stats_of_five_names = refl

listed_none : listed_reply 0 ≡ codes "listed 0" ++ 10 ∷ []
unfolding digits
listed_none = refl

listed_20 : listed_reply 20 ≡ codes "listed 20" ++ 10 ∷ []
unfolding digits
listed_20 = refl

refused_with_bits : refusal 7 14 (codes "01" ∷ []) ≡ codes "refused 7 14 01" ++ 10 ∷ []
unfolding digits
refused_with_bits = refl
