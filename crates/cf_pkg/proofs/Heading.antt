use Rattle.std.proofs.Common.{◌≡◌, ℕ, ◌<◌, ◌+◌, List, [], ◌∷◌, ◌++◌, map, length, get_or, take, sym, ◌∙◌, ap, subst}
use Rattle.std.specs.List.{All}
use Rattle.std.specs.Ordering.{int_eq}
use Rattle.std.proofs.lemmas.List.{take_more, map_push}
use Rattle.std.proofs.lemmas.List.Elements.{All-push}
use Rattle.cf_model.specs.Renumbering.{distinct}
use Rattle.cf_model.specs.Patterns.{Pattern, pattern_of}
use Rattle.cf_model.specs.Diagrams.{IsGood}
use Rattle.cf_model.specs.Functions.{IsFunction}
use Rattle.cf_model.proofs.FunctionLaws.{function_pattern}
use Rattle.cf_table.specs.declared.Gid.{Gid}
use Rattle.cf_table.specs.Groupings.{Owns, exits_of, grouping_pattern}
use Rattle.cf_pkg.specs.declared.Func.{Func}
use Rattle.cf_pkg.specs.Packages.{Package, values_of, meaning}

abbrev made : ℕ → List ℕ → Pattern
made l r = record { level = l; ranks = r }

-- the head of a function has the pattern of what the function means
pub head_pattern : (p : Package) (f : Func) → IsGood p.groupings.levels → IsFunction p.groupings.levels f.head.level f.head.at (values_of p f) → grouping_pattern p.groupings.levels f.head ≡ pattern_of (meaning p f)
head_pattern p f g h = ap (made f.head.level) (function_pattern p.groupings.levels g f.head.level f.head.at (values_of p f) h).0

-- and as many exits as there are different values
pub head_exits : (p : Package) (f : Func) → IsGood p.groupings.levels → IsFunction p.groupings.levels f.head.level f.head.at (values_of p f) → exits_of p.groupings f.head ≡ length (distinct int_eq (meaning p f).values)
head_exits p f g h = sym h.valued ∙ ap length (function_pattern p.groupings.levels g f.head.level f.head.at (values_of p f) h).1

-- The groupings are owned, and have the patterns of what the functions mean.
pub record Headed (p : Package) (fs : List Func) (heads : List Gid) : Type 0 where
  pub owned : All (Owns p.groupings) heads
  pub patterns : map (grouping_pattern p.groupings.levels) heads ≡ map (λ f. pattern_of (meaning p f)) fs

-- one more function
pub headed_more : (p : Package) (fs : List Func) (i : ℕ) (d : Func) (heads now : List Gid) → i < length fs → Headed p (take i fs) heads → now ≡ heads ++ (get_or fs i d).head ∷ [] → Owns p.groupings (get_or fs i d).head
    → grouping_pattern p.groupings.levels (get_or fs i d).head ≡ pattern_of (meaning p (get_or fs i d)) → Headed p (take (i + 1) fs) now
headed_more p fs i d heads now l h e own same =
    let f = get_or fs i d in
    let shown = grouping_pattern p.groupings.levels in
    let meant : Func → Pattern = λ f. pattern_of (meaning p f) in
    subst (λ (v : List Gid). Headed p (take (i + 1) fs) v) (sym e) (record {
      owned = All-push (Owns p.groupings) heads f.head h.owned own;
      patterns = map_push shown heads f.head ∙ ap (λ (v : List Pattern). v ++ shown f.head ∷ []) h.patterns ∙ ap (λ (x : Pattern). map meant (take i fs) ++ x ∷ []) same
          ∙ sym (map_push meant (take i fs) f) ∙ ap (map meant) (sym (take_more fs i d l));
    })
