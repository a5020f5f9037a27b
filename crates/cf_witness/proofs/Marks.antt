use Rattle.std.proofs.Common.{◌≡◌, ℕ, ◌<◌, Bool, true, false, List, map, length, get_or, sym, ◌∙◌, ap, subst, arith, inl, inr, Option, Some, None}
use Rattle.std.specs.Option.{MatchOption}
use Rattle.std.proofs.lemmas.Option.{none-some, same_Some}
use Rattle.std.proofs.lemmas.List.Folds.{list_any_at}
use Rattle.std.proofs.lemmas.Bool.{cases_lt}
use Rattle.std.proofs.lemmas.List.{length-map, get_or-map}
use Rattle.cf_model.specs.Diagrams.{Connection, exit_at}
use Rattle.cf_witness.specs.Nexts.{is_marked, has_marked, LacksMarked, IsNext}

-- no marked number before a place, and none from there on
pub lacks_joined : (p : List ℕ) (marks : List Bool) (a b c : ℕ) → LacksMarked p marks a b → LacksMarked p marks b c → LacksMarked p marks a c
lacks_joined p marks a b c h k n ge lt e = elim (cases_lt n b) [ inl l ↦ h n ge l e | inr r ↦ k n r lt e ]

-- a marked number of the list makes it a marked one
pub any_marked : (marks : List Bool) (xs : List ℕ) (i : ℕ) → i < length xs → is_marked marks (get_or xs i 0) ≡ true → has_marked marks xs ≡ true
any_marked marks xs i l h = list_any_at (is_marked marks) xs i 0 l h

-- every entry of the list is below k
abbrev pub Below : List ℕ → ℕ → Type 0
Below p k = (n : ℕ) → n < length p → get_or p n 0 < k

-- the marks of a return tuple's exits
pub inner_mark : (marks : List Bool) (b : Connection) (w : ℕ) → w < length b.returns → is_marked (map (is_marked marks) b.returns) w ≡ is_marked marks (exit_at b w)
inner_mark marks b w h = get_or-map (is_marked marks) b.returns w 0 false h

-- a row has a marked exit where the callee has an exit that returns to one
pub row_lacks : (marks : List Bool) (b : Connection) (p : List ℕ) (low : ℕ) → Below p (length b.returns) → LacksMarked p (map (is_marked marks) b.returns) low (length p) → LacksMarked (map (exit_at b) p) marks low (length p)
row_lacks marks b p low under h n ge lt e =
    h n ge lt (inner_mark marks b (get_or p n 0) (under n lt) ∙ ap (is_marked marks) (sym (get_or-map (exit_at b) p n 0 0 lt)) ∙ e)

pub row_next : (marks : List Bool) (b : Connection) (p : List ℕ) (low n w : ℕ) → Below p (length b.returns) → IsNext p (map (is_marked marks) b.returns) low n w → IsNext (map (exit_at b) p) marks low n (exit_at b w)
row_next marks b p low n w under h =
    let small : w < length b.returns = subst (λ (x : ℕ). x < length b.returns) h.exit_is (under n h.within) in
    let within = h.within in
    record {
      reached = h.reached;
      within = omega (arith, within, length-map p (exit_at b));
      exit_is = get_or-map (exit_at b) p n 0 0 h.within ∙ ap (exit_at b) h.exit_is;
      marked = sym (inner_mark marks b w small) ∙ h.marked;
      none_before = λ m ge lt e. h.none_before m ge lt
          (inner_mark marks b (get_or p m 0) (under m (omega (arith, lt, within))) ∙ ap (is_marked marks) (sym (get_or-map (exit_at b) p m 0 0 (omega (arith, lt, within)))) ∙ e);
    }

-- what an answer tells, where it is none and where it is one
pub none_told : {A : Type 0} (o : Option A) (P : Type 0) (Q : A → Type 0) → MatchOption o P Q → o ≡ None → P
none_told None P Q h e = h
none_told (Some x) P Q h e = absurd (none-some x (sym e))

pub some_told : {A : Type 0} (o : Option A) (x : A) (P : Type 0) (Q : A → Type 0) → MatchOption o P Q → o ≡ Some x → Q x
some_told None x P Q h e = absurd (none-some x e)
some_told (Some y) x P Q h e = subst Q (same_Some y x e) h
