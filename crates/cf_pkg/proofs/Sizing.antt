use Rattle.std.proofs.Common.{◌≡◌, ℕ, suc, ◌<◌, ◌≤◌, ◌+◌, Bool, true, false, cond, List, [], ◌∷◌, ◌++◌, map, length, get_or, nat_eq, take, refl, sym, ◌∙◌, ap, subst, arith, inl, inr, ◌⊎◌}
use Rattle.std.specs.List.{flat_map, filter, list_any, slice_set, All, Contains}
use Rattle.std.proofs.lemmas.List.{get_or_past, map-append, append-nil, append_assoc, take_more, map_push, length-set, get_or-set_same, get_or-set_other}
use Rattle.std.proofs.lemmas.Grind.{flat_map-append}
use Rattle.std.proofs.lemmas.Bool.{cases_eq}
use Rattle.std.proofs.lemmas.List.Elements.{filter_more, Contains-append_cases, Contains-append_left, Contains-append_right}
use Rattle.cf_model.specs.Renumbering.{distinct, distinct_on}
use Rattle.cf_model.specs.Patterns.{size_at}
use Rattle.cf_model.specs.Diagrams.{Levels, count, node, IsGood}
use Rattle.cf_model.proofs.RenumberingLaws.{nat_decides, distinct_differ}
use Rattle.cf_table.specs.declared.Gid.{Gid}
use Rattle.cf_table.specs.Groupings.{Groupings, Owns, grouping_pattern}
use Rattle.cf_build.proofs.PartLaws.{part_self}
use Rattle.cf_pkg.specs.Sizes.{places_at, callees, ListsReached}
use Rattle.cf_pkg.proofs.Members.{none, mapped, from_mapped, among, from_among, passing, from_passing, distinct_has, distinct_from, distinct_on-append, entered}
use Rattle.cf_pkg.proofs.Reaching.{part_callee, part_parent, reached_exists, counted}

-- one more head
pub places_more : (level : ℕ) (gs : List Gid) (i : ℕ) (d : Gid) → i < length gs
    → places_at level (take (i + 1) gs) ≡ places_at level (take i gs) ++ cond (nat_eq (get_or gs i d).level level) ((get_or gs i d).at ∷ []) []
places_more level gs i d h =
    let test : Gid → Bool = λ g. nat_eq g.level level in
    let at : Gid → ℕ = λ g. g.at in
    ap (map at) (filter_more test gs i d h) ∙ map-append at (filter test (take i gs)) (cond (test (get_or gs i d)) (get_or gs i d ∷ []) [])
    ∙ ap (λ (v : List ℕ). places_at level (take i gs) ++ v) (by (test (get_or gs i d)))
  where
    by : (b : Bool) → map (λ g. g.at) (cond b (get_or gs i d ∷ []) []) ≡ cond b ((get_or gs i d).at ∷ []) []
    by true = refl
    by false = refl

-- A head was entered, if it is of the level.
pub head_entered : (level : ℕ) (gs : List Gid) (i : ℕ) (d : Gid) (seen keys now : List ℕ) → i < length gs → keys ≡ distinct_on nat_eq seen (places_at level (take i gs))
    → (((get_or gs i d).level ≡ level) × (now ≡ cond (list_any (nat_eq (get_or gs i d).at) keys) keys (keys ++ (get_or gs i d).at ∷ []))) ⊎ (((get_or gs i d).level ≡ level → ⊥) × (now ≡ keys))
    → now ≡ distinct_on nat_eq seen (places_at level (take (i + 1) gs))
head_entered level gs i d seen keys now h e w =
    let g = get_or gs i d in
    let all = places_at level (take i gs) in
    let read : (b : Bool) → nat_eq g.level level ≡ b → places_at level (take (i + 1) gs) ≡ all ++ cond b (g.at ∷ []) [] = λ b q. places_more level gs i d h ∙ ap (λ (c : Bool). all ++ cond c (g.at ∷ []) []) q in
    elim w [
      | inl y ↦ entered seen all keys now g.at e y.1 ∙ ap (distinct_on nat_eq seen) (sym (read true ((nat_decides g.level level).1 y.0)))
      | inr n ↦ n.1 ∙ e ∙ ap (distinct_on nat_eq seen) (sym (read false (untrue (nat_eq g.level level) (λ t. n.0 ((nat_decides g.level level).0 t))) ∙ append-nil all))
    ]
  where
    untrue : (b : Bool) → (b ≡ true → ⊥) → b ≡ false
    untrue true n = absurd (n refl)
    untrue false n = refl

-- one more place that is read off a list
pub place_entered : {X : Type 0} (f : X → ℕ) (bs : List X) (i : ℕ) (d : X) (a : ℕ) (seen keys now : List ℕ) → i < length bs → keys ≡ distinct_on nat_eq seen (a ∷ map f (take i bs))
    → now ≡ cond (list_any (nat_eq (f (get_or bs i d))) keys) keys (keys ++ f (get_or bs i d) ∷ []) → now ≡ distinct_on nat_eq seen (a ∷ map f (take (i + 1) bs))
place_entered {X} f bs i d a seen keys now h e q =
    entered seen (a ∷ map f (take i bs)) keys now (f (get_or bs i d)) e q
    ∙ ap (λ (v : List ℕ). distinct_on nat_eq seen (a ∷ v)) (sym (ap (map f) (take_more bs i d h) ∙ map_push f (take i bs) (get_or bs i d)))

-- one more list that is entered
pub list_entered : (f : ℕ → List ℕ) (above : List ℕ) (i : ℕ) (heads keys now : List ℕ) → i < length above → keys ≡ distinct nat_eq (heads ++ flat_map f (take i above))
    → now ≡ distinct_on nat_eq keys (f (get_or above i 0)) → now ≡ distinct nat_eq (heads ++ flat_map f (take (i + 1) above))
list_entered f above i heads keys now h e q =
    let x = get_or above i 0 in
    let before = flat_map f (take i above) in
    let more : flat_map f (take (i + 1) above) ≡ before ++ f x = ap (flat_map f) (take_more above i 0 h) ∙ flat_map-append f (take i above) (x ∷ []) ∙ ap (λ (v : List ℕ). before ++ v) (append-nil (f x)) in
    q ∙ ap (λ (v : List ℕ). distinct_on nat_eq v (f x)) e ∙ sym (distinct_on-append nat_eq [] (heads ++ before) (f x))
    ∙ ap (distinct nat_eq) (append_assoc heads before (f x) ∙ ap (λ (v : List ℕ). heads ++ v) (sym more))

-- What is reached at a level are its heads, and the callees of what is reached one level above.
pub reached_below : (t : Levels) (heads : List Gid) (level up : ℕ) (above places : List ℕ) → up ≡ suc level → ListsReached t heads up above
    → places ≡ distinct nat_eq (places_at level heads ++ flat_map (λ at. callees (node t up at)) above) → ListsReached t heads level places
reached_below t heads level up above places up_is h e =
    subst (λ (v : List ℕ). ListsReached t heads level v) (sym (e ∙ ap (λ (u : ℕ). distinct nat_eq (places_at level heads ++ flat_map (λ at. callees (node t u at)) above)) up_is)) (record {
      once = distinct_differ nat_eq nat_decides all;
      reached = λ i c. elim (distinct_from nat_eq [] all i c) [
        | inl n ↦ absurd (none i n)
        | inr d ↦ elim (Contains-append_cases (places_at level heads) below i d) [
          | inl a ↦
              let u = from_mapped (λ g. g.at) (filter (λ g. nat_eq g.level level) heads) i a in
              let w = from_passing (λ g. nat_eq g.level level) heads u.0 u.1 in
              (u.0, w.0, part_self t u.0.level u.0.at level i (sym ((nat_decides u.0.level level).0 w.1)) (sym u.2))
          | inr b ↦
              let u = from_among (λ at. callees (node t (suc level) at)) above i b in
              let r = lists.reached u.0 u.1 in
              (r.0, r.1, part_callee t r.0.level r.0.at level u.0 i r.2 u.2)
        ]
      ];
      complete = λ i r. distinct_has nat_eq nat_decides [] all i (inr (elim (part_parent t r.0.level r.0.at level i r.2) [
        | inl s ↦
            Contains-append_left (places_at level heads) below i
            (subst (Contains (places_at level heads)) s.1 (mapped (λ g. g.at) (filter (λ g. nat_eq g.level level) heads) r.0 (passing (λ g. nat_eq g.level level) heads r.0 r.1 ((nat_decides r.0.level level).1 s.0))))
        | inr w ↦ Contains-append_right (places_at level heads) below i (among (λ at. callees (node t (suc level) at)) above w.0 i (lists.complete w.0 (r.0, r.1, w.1)) w.2)
      ]));
    })
  where
    lists : ListsReached t heads (suc level) above
    lists = subst (λ (u : ℕ). ListsReached t heads u above) up_is h

    below : List ℕ
    below = flat_map (λ at. callees (node t (suc level) at)) above

    all : List ℕ
    all = places_at level heads ++ below

-- What the loop over levels knows when it has counted those from `level` on.
pub record Counting (t : Groupings) (heads : List Gid) (level : ℕ) (counts above : List ℕ) : Type 0 where
  pub long : length counts ≡ 8
  pub done : (k : ℕ) → level ≤ k → k < 8 → get_or counts k 0 ≡ size_at k (map (grouping_pattern t.levels) heads)
  pub lists : ListsReached t.levels heads level above

-- no grouping is above level 7
pub nothing_above : (t : Groupings) → IsGood t.levels → length t.levels ≡ 8 → (heads : List Gid) → All (Owns t) heads → (places : List ℕ) → places ≡ [] → ListsReached t.levels heads 8 places
nothing_above t g eight heads own places e =
    subst (λ (v : List ℕ). ListsReached t.levels heads 8 v) (sym e) (record {
      once = λ i j x hi hj. cc;
      reached = λ i c. absurd (none i c);
      complete = λ i r.
          (let h : i < count t.levels 8 = reached_exists t g heads own 8 i r in
          absurd (omega (arith, h, ap length (get_or_past t.levels 8 [] (omega (arith, eight))))));
    })

-- the level below is counted
pub counting_more : (t : Groupings) → IsGood t.levels → (heads : List Gid) → All (Owns t) heads → (level below n : ℕ) (counts above places : List ℕ) → below + 1 ≡ level → level ≤ 8 → Counting t heads level counts above
    → ListsReached t.levels heads below places → n ≡ length places → Counting t heads below (slice_set counts below n) places
counting_more t g heads own level below n counts above places e top c h is_n = record {
  long = length-set counts below n ∙ c.long;
  done = λ k lo hi. elim (cases_eq k below) [
    | inl q ↦
        ap (λ (j : ℕ). get_or (slice_set counts below n) j 0) q ∙ get_or-set_same counts below n 0 (omega (arith, c.long, e, top))
        ∙ is_n ∙ counted t g heads own below places h ∙ ap (λ (j : ℕ). size_at j (map (grouping_pattern t.levels) heads)) (sym q)
    | inr d ↦ get_or-set_other counts below k n 0 d ∙ c.done k (omega (arith, lo, e, d)) hi
  ];
  lists = h;
}
