-- Words in a row, with a blank between two of them.
use Rattle.std.proofs.Common.{ℕ, ◌≡◌, List, [], ◌∷◌, ◌++◌, map, ap, sym, ◌∙◌, append_assoc, append-nil}
use Rattle.std.specs.Prelude.{decimal, codes}
use Rattle.std.specs.List.{flat_map, join_with_byte}
use Rattle.std.proofs.lemmas.List.Folds.{flat_map-map}
use Rattle.std.proofs.lemmas.Grind.{flat_map-append}
use Rattle.cf_reference.specs.Replies.{size_reply, stats_reply}
use Rattle.cf_text.specs.Words.{counts_behind}

abbrev put_behind : List ℕ → List ℕ
put_behind word = 32 ∷ word

-- each word but the first has a blank before it
join_with_byte-cons : (word : List ℕ) (words : List (List ℕ))
    → join_with_byte 32 (word ∷ words) ≡ word ++ flat_map put_behind words
join_with_byte-cons word [] = sym (append-nil word)
join_with_byte-cons word (next ∷ words) = ap (λ text. word ++ (32 ∷ text)) (join_with_byte-cons next words)

pub size_reply-is : (counts : List ℕ) (exits : ℕ)
    → size_reply counts exits ≡ codes "size" ++ counts_behind counts ++ codes " exits " ++ decimal exits ++ 10 ∷ []
size_reply-is counts exits =
    let more = codes "exits" ∷ decimal exits ∷ [] in
    ap (λ text. text ++ 10 ∷ []) (join_with_byte-cons (codes "size") (map decimal counts ++ more)
    ∙ ap (λ text. codes "size" ++ text) (flat_map-append put_behind (map decimal counts) more
    ∙ ap (λ text. text ++ flat_map put_behind more) (flat_map-map put_behind decimal counts)
    ∙ ap (λ text. counts_behind counts ++ (codes " exits " ++ text)) (append-nil (decimal exits))
    ∙ sym (append_assoc (counts_behind counts) (codes " exits ") (decimal exits))))

pub stats_reply-is : (names : ℕ) (counts : List ℕ)
    → stats_reply names counts ≡ codes "stats " ++ decimal names ++ counts_behind counts ++ 10 ∷ []
stats_reply-is names counts =
    ap (λ text. codes "stats " ++ (text ++ 10 ∷ [])) (join_with_byte-cons (decimal names) (map decimal counts)
    ∙ ap (λ text. decimal names ++ text) (flat_map-map put_behind decimal counts))
