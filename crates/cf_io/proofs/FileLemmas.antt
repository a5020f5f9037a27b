use Rattle.std.proofs.Common.{ℕ, suc, ◌≡◌, ◌+◌, ◌<◌, List, [], map, drop, length, get_or, Vec, Global, Some, cond, ap, sym, ◌∙◌, refl, add-one, drop-cons}
use Rattle.std.specs.Option.{option_map, option_map_or}
use Rattle.std.proofs.lemmas.Option.{slice_get_read}
use Rattle.std.specs.Str.{bytes_eq}
use Rattle.cf_reference.specs.States.{content_of}
use Rattle.cf_io.specs.Contents.{content_at, name_or_nothing}

abbrev File : Type 0
File = Vec ℕ Global × Vec ℕ Global

abbrev entries : List File → List (List ℕ × List ℕ)
entries fs = map (λ f. (f.0.items, f.1.items)) fs

-- the first file decides, or the files behind it
pub first_decides : (fs : List File) (i : ℕ) (name : List ℕ) (f : File) → i < length fs → f ≡ get_or fs i f
    → content_of (entries (drop i fs)) name ≡ cond (bytes_eq name f.0.items) (Some f.1.items) (content_of (entries (drop (i + 1) fs)) name)
first_decides fs i name f h e =
    rw add-one (ap (λ xs. content_of (entries xs) name) (drop-cons fs i f h)
    ∙ ap (λ (g : File). cond (bytes_eq name g.0.items) (Some g.1.items) (content_of (entries (drop (suc i) fs)) name)) (sym e))

pub content_here : (fs : List File) (i : ℕ) (f : File) → i < length fs → f ≡ get_or fs i f → content_at fs i ≡ Some f.1.items
content_here fs i f h e = ap (option_map (λ (g : File). g.1.items)) (slice_get_read fs (length fs) i f refl h e)

pub name_here : (fs : List File) (i : ℕ) (f : File) → i < length fs → f ≡ get_or fs i f → name_or_nothing fs i ≡ f.0.items
name_here fs i f h e = ap (λ o. option_map_or (λ (g : File). g.0.items) o []) (slice_get_read fs (length fs) i f refl h e)
