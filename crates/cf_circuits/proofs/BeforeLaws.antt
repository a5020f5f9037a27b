-- The four facts about the lines before a line, with one more line.
use Rattle.std.proofs.Common.{◌≡◌, ◌&&◌, ◌||◌, Bool, true, false, not, cond, List, [], ◌∷◌, ◌++◌, Some, None, refl, ap, ◌∙◌}
use Rattle.std.specs.List.{list_any, list_all}
use Rattle.cf_circuits.specs.declared.kinds.Kind.{Kind}
use Rattle.cf_circuits.specs.declared.kinds.Kind.TheVariants.{Model, Inputs, Outputs, Gate, Call, End, Ignored, Unknown, Cover}
use Rattle.cf_circuits.specs.LogicalLines.{Line}
use Rattle.cf_circuits.specs.Kinds.{kind, first_word, arguments, is_model, is_end, is_cover}
use Rattle.cf_circuits.specs.Causes.{is_inside, model_names, last_dotted, first_behind, or_else}

pub inside-push : (before : List Line) (l : Line) → is_inside (before ++ l ∷ []) ≡ (is_model (kind l) || (not (is_end (kind l)) && is_inside before))
inside-push [] l = at (is_model (kind l)) (is_end (kind l))
  where
    at : (s t : Bool) → ((s && true) || false) ≡ (s || (not t && false))
    at true t = refl
    at false true = refl
    at false false = refl
inside-push (x ∷ before) l =
    ap (λ t. (is_model (kind x) && not t) || is_inside (before ++ l ∷ [])) (ends-push before)
    ∙ ap (λ t. (is_model (kind x) && not (list_any (λ y. is_end (kind y)) before || is_end (kind l))) || t) (inside-push before l)
    ∙ at (is_model (kind x)) (list_any (λ y. is_end (kind y)) before) (is_end (kind l)) (is_model (kind l)) (is_inside before) (apart (kind l))
  where
    ends-push : (ys : List Line) → list_any (λ y. is_end (kind y)) (ys ++ l ∷ []) ≡ (list_any (λ y. is_end (kind y)) ys || is_end (kind l))
    ends-push [] = or_false (is_end (kind l))
      where
        or_false : (t : Bool) → (t || false) ≡ t
        or_false true = refl
        or_false false = refl
    ends-push (y ∷ ys) = ap (λ t. is_end (kind y) || t) (ends-push ys) ∙ or_or (is_end (kind y)) (list_any (λ z. is_end (kind z)) ys) (is_end (kind l))
      where
        or_or : (s t u : Bool) → (s || (t || u)) ≡ ((s || t) || u)
        or_or true t u = refl
        or_or false t u = refl

    apart : (k : Kind) → (is_end k && is_model k) ≡ false
    apart Model = refl
    apart Inputs = refl
    apart Outputs = refl
    apart Gate = refl
    apart Call = refl
    apart End = refl
    apart Ignored = refl
    apart Unknown = refl
    apart Cover = refl

    at : (m e f n i : Bool) → (f && n) ≡ false → ((m && not (e || f)) || (n || (not f && i))) ≡ (n || (not f && ((m && not e) || i)))
    at m e true true i h = cc
    at true true true false i h = refl
    at true false true false i h = refl
    at false true true false i h = refl
    at false false true false i h = refl
    at true true false true i h = refl
    at true false false true i h = refl
    at false e false true i h = refl
    at true true false false i h = refl
    at true false false false i h = refl
    at false e false false i h = refl

pub names-push : (before : List Line) (l : Line) → model_names (before ++ l ∷ []) ≡ model_names before ++ cond (is_model (kind l)) (first_word (arguments l.words) ∷ []) []
names-push [] l = refl
names-push (x ∷ before) l = at (is_model (kind x)) (names-push before l)
  where
    at : (t : Bool) → model_names (before ++ l ∷ []) ≡ model_names before ++ cond (is_model (kind l)) (first_word (arguments l.words) ∷ []) []
        → cond t (first_word (arguments x.words) ∷ model_names (before ++ l ∷ [])) (model_names (before ++ l ∷ []))
        ≡ cond t (first_word (arguments x.words) ∷ model_names before) (model_names before) ++ cond (is_model (kind l)) (first_word (arguments l.words) ∷ []) []
    at true h = ap (λ ns. first_word (arguments x.words) ∷ ns) h
    at false h = h

pub dotted-push : (before : List Line) (l : Line) → last_dotted (before ++ l ∷ []) ≡ cond (is_cover (kind l)) (last_dotted before) (Some l)
dotted-push [] l = at (is_cover (kind l))
  where
    at : (t : Bool) → or_else None (cond t None (Some l)) ≡ cond t None (Some l)
    at true = refl
    at false = refl
dotted-push (x ∷ before) l = ap (λ o. or_else o (cond (is_cover (kind x)) None (Some x))) (dotted-push before l) ∙ at (is_cover (kind l))
  where
    at : (t : Bool) → or_else (cond t (last_dotted before) (Some l)) (cond (is_cover (kind x)) None (Some x)) ≡ cond t (or_else (last_dotted before) (cond (is_cover (kind x)) None (Some x))) (Some l)
    at true = refl
    at false = refl

pub first-push : (before : List Line) (l : Line) → first_behind (before ++ l ∷ []) ≡ cond (is_cover (kind l)) (or_else (first_behind before) (Some l)) None
first-push [] l = at (is_cover (kind l))
  where
    at : (t : Bool) → cond (t && true) (Some l) None ≡ cond t (or_else None (Some l)) None
    at true = refl
    at false = refl
first-push (x ∷ before) l =
    ap (λ t. cond (is_cover (kind x) && t) (Some x) (first_behind (before ++ l ∷ []))) (covers-push before)
    ∙ ap (λ o. cond (is_cover (kind x) && (list_all (λ y. is_cover (kind y)) before && is_cover (kind l))) (Some x) o) (first-push before l)
    ∙ at (is_cover (kind x)) (list_all (λ y. is_cover (kind y)) before) (is_cover (kind l))
  where
    covers-push : (ys : List Line) → list_all (λ y. is_cover (kind y)) (ys ++ l ∷ []) ≡ (list_all (λ y. is_cover (kind y)) ys && is_cover (kind l))
    covers-push [] = and_true (is_cover (kind l))
      where
        and_true : (t : Bool) → (t && true) ≡ t
        and_true true = refl
        and_true false = refl
    covers-push (y ∷ ys) = ap (λ t. is_cover (kind y) && t) (covers-push ys) ∙ and_and (is_cover (kind y)) (list_all (λ z. is_cover (kind z)) ys) (is_cover (kind l))
      where
        and_and : (s t u : Bool) → (s && (t && u)) ≡ ((s && t) && u)
        and_and true t u = refl
        and_and false t u = refl

    at : (s t u : Bool) → cond (s && (t && u)) (Some x) (cond u (or_else (first_behind before) (Some l)) None) ≡ cond u (or_else (cond (s && t) (Some x) (first_behind before)) (Some l)) None
    at true true true = refl
    at true true false = refl
    at true false true = refl
    at true false false = refl
    at false t true = refl
    at false t false = refl
