use Rattle.std.proofs.Common.{◌≡◌, ◌≢◌, zero, suc, ℕ, ◌+◌, ◌-◌, ◌<◌, ◌≤◌, List, [], ◌∷◌, ◌++◌, Bool, true, false, length, get_or, set, take, replicate, refl, sym, ap, ◌∙◌, subst, inl, inr, ◌⊎◌, arith, length-set}
use Rattle.std.specs.Prelude.{IsTrue, slice_index}
use Rattle.std.specs.List.{All, Contains}
use Rattle.std.proofs.lemmas.Bool.{cases_lt, cases_eq, cases_Bool, false≢true}
use Rattle.std.proofs.lemmas.List.{take_more, get_or_default, get_or_append_left, get_or_push, length_push, get_or-set_same, get_or-set_other, length-replicate}
use Rattle.std.proofs.lemmas.List.Elements.{All-push, All-contains, Contains-push, Contains-append_left}
use Rattle.cf_order.specs.Orders.{row, Needs, Chain}
use Rattle.cf_order.specs.Rings.{IsOnRing, IsSeen, trues, Visits}

trues-set : (bs : List Bool) (t : ℕ) → t < length bs → get_or bs t false ≡ false
    → trues (set bs t true) ≡ trues bs + 1
trues-set [] t h e = elim h [ ]
trues-set (true ∷ bs) zero h e = absurd (false≢true (sym e))
trues-set (false ∷ bs) zero h e = omega arith
trues-set (true ∷ bs) (suc t) h e = omega (arith, trues-set bs t (omega arith) e)
trues-set (false ∷ bs) (suc t) h e = trues-set bs t (omega arith) e

trues-le : (bs : List Bool) → trues bs ≤ length bs
trues-le [] = omega arith
trues-le (true ∷ bs) = omega (arith, trues-le bs)
trues-le (false ∷ bs) = omega (arith, trues-le bs)

no_trues : (n : ℕ) → trues (replicate n false) ≡ 0
no_trues zero = refl
no_trues (suc n) = no_trues n

none_seen : (n t : ℕ) → get_or (replicate n false) t false ≡ false
none_seen zero t = refl
none_seen (suc n) zero = refl
none_seen (suc n) (suc t) = none_seen n t

pub visits_none : (seen : List Bool) (queue : List ℕ) → Visits [] seen seen queue queue
visits_none seen queue = record {
  full = refl;
  count = refl;
  all = λ k d h. absurd (omega arith);
  kept = λ t s. s;
  only = λ t s no. absurd (no s);
  longer = omega arith;
  front = λ k h. refl;
  behind = λ k a b. absurd (omega arith);
  listed = λ t s no. absurd (no s);
}

pub visits_seen : (done : List ℕ) (old new : List Bool) (before after : List ℕ) (t : ℕ)
    → Visits done old new before after → IsSeen new t → Visits (done ++ t ∷ []) old new before after
visits_seen done old new before after t v s = record {
  full = v.full;
  count = v.count;
  all = All-push (λ x. IsSeen new x) done t v.all s;
  kept = v.kept;
  only = λ x sx no. Contains-append_left done (t ∷ []) x (v.only x sx no);
  longer = v.longer;
  front = v.front;
  behind = λ k a b. let w = v.behind k a b in
      (Contains-append_left done (t ∷ []) (slice_index after k) w.0, w.1);
  listed = v.listed;
}

pub visits_new : (done : List ℕ) (old new : List Bool) (before after : List ℕ) (t : ℕ)
    → Visits done old new before after → get_or new t false ≡ false → t < length old
    → Visits (done ++ t ∷ []) old (set new t true) before (after ++ t ∷ [])
visits_new done old new before after t v no' h =
    let l : t < length new = omega (arith, h, v.full) in
    let here : IsSeen (set new t true) t = get_or-set_same new t true false l in
    let other : (x : ℕ) → x ≢ t → get_or (set new t true) x false ≡ get_or new x false = λ x ne.
    get_or-set_other new t x true false ne in
    let kept : (x : ℕ) → IsSeen new x → IsSeen (set new t true) x = λ x s. elim (cases_eq x t) [
      | inl e ↦ subst (λ y. IsSeen (set new t true) y) (sym e) here
      | inr ne ↦ other x ne ∙ s
    ] in
    let last : get_or (after ++ t ∷ []) (length after) 0 ≡ t = get_or_push after t 0 (length after)
    refl in
    record {
      full = length-set new t true ∙ v.full;
      count = omega (arith, v.count, trues-set new t l no', length_push after t);
      all = All-push (λ x. IsSeen (set new t true) x) done t (λ k d w. kept _ (v.all k d w)) here;
      kept = λ x s. kept x (v.kept x s);
      only = λ x s no. elim (cases_eq x t) [
        | inl e ↦ subst (λ y. Contains (done ++ t ∷ []) y) (sym e) (Contains-push done t)
        | inr ne ↦ Contains-append_left done (t ∷ []) x (v.only x (sym (other x ne) ∙ s) no)
      ];
      longer = omega (arith, v.longer, length_push after t);
      front = λ k w. get_or_append_left after (t ∷ []) 0 k (omega (arith, w, v.longer)) ∙ v.front k
          w;
      behind = λ k a b. elim (cases_lt k (length after)) [
        | inl w ↦
            let q = v.behind k a w in let e = get_or_append_left after (t ∷ []) 0 k w in
            subst (λ y. Contains (done ++ t ∷ []) y × IsSeen (set new t true) y) (sym e)
            (Contains-append_left done (t ∷ []) (slice_index after k) q.0, kept _ q.1)
        | inr g ↦
            let z : length after ≡ k = omega (arith, length_push after t) in
            subst (λ y. Contains (done ++ t ∷ []) y × IsSeen (set new t true) y)
            (sym (get_or_push after t 0 k z)) (Contains-push done t, here)
      ];
      listed = λ x s no. elim (cases_eq x t) [
        | inl e ↦ (length after, omega (arith, length_push after t), last ∙ sym e)
        | inr ne ↦ let w = v.listed x (sym (other x ne) ∙ s) no in (
          w.0,
          omega (arith, w.1, length_push after t),
          get_or_append_left after (t ∷ []) 0 w.0
              w.1 ∙ w.2,
        )
      ];
    }

-- what was put into the queue is what was met, and what the first i of it need is met
pub record Reaching (rows : List (List ℕ)) (from : ℕ) (seen : List Bool) (queue : List ℕ) (i : ℕ) :
    Type 0 where
  pub full : length seen ≡ length rows
  pub count : length queue ≡ trues seen + 1
  pub first : slice_index queue 0 ≡ from
  pub within : (k : ℕ) → k < length queue → slice_index queue k < length rows
  pub reached : (t : ℕ) → IsSeen seen t → (rest : List ℕ) × Chain rows from rest t
  pub queued : (k : ℕ) → 0 < k → k < length queue → IsSeen seen (slice_index queue k)
  pub listed : (t : ℕ) → IsSeen seen t → (k : ℕ) × (k < length queue) × (slice_index queue k ≡ t)
  pub closed : (k t : ℕ) → k < i → k < length queue → Needs rows (slice_index queue k) t
      → IsSeen seen t

pub reaching_zero : (rows : List (List ℕ)) (from : ℕ) (seen : List Bool) (queue : List ℕ)
    → from < length rows → seen ≡ replicate (length rows) false → queue ≡ from ∷ []
    → Reaching rows from seen queue 0
reaching_zero rows from seen queue h e f =
    let n = length rows in
    let no : (t : ℕ) → IsSeen (replicate n false) t
    → ⊥ = λ t s. false≢true (sym (none_seen n t) ∙ s) in
    let start : Reaching rows from (replicate n false) (from ∷ []) 0 = record {
      full = length-replicate n false;
      count = omega (arith, no_trues n);
      first = refl;
      within = λ k w. let z : k ≡ 0 = omega arith in subst
          (λ j. slice_index (from ∷ []) j < length rows) (sym z) h;
      reached = λ t s. absurd (no t s);
      queued = λ k a b. absurd (omega arith);
      listed = λ t s. absurd (no t s);
      closed = λ k t w. absurd (omega arith);
    } in
    subst (λ s. Reaching rows from s queue 0) (sym e)
    (subst (λ q. Reaching rows from (replicate n false) q 0) (sym f) start)

chain_push : (rows : List (List ℕ)) (a : ℕ) (rest : List ℕ) (c b : ℕ) → Chain rows a rest c
    → Needs rows c b → Chain rows a (rest ++ c ∷ []) b
chain_push rows a [] c b n m = (n, m)
chain_push rows a (d ∷ ds) c b (n, more) m = (n, chain_push rows d ds c b more m)

pub reaching_more : (rows : List (List ℕ)) (from : ℕ) (seen new : List Bool)
    (queue after needs : List ℕ) (i : ℕ) → All (All (λ t. t < length rows)) rows
    → Reaching rows from seen queue i → i < length queue
    → needs ≡ row rows (slice_index queue i) → Visits needs seen new queue after
    → Reaching rows from new after (i + 1)
reaching_more rows from seen new queue after needs i below r h is visited =
    let s = slice_index queue i in
    let v = subst (λ ns. Visits ns seen new queue after) is visited in
    let need_low : (t : ℕ) → Contains (row rows s) t → t < length rows = λ t c.
    omega (arith, below s [] (r.within i h) c.0 t c.1, c.2) in
    let here : (t : ℕ) → Needs rows s t → (rest : List ℕ) × Chain rows from rest t = λ t n. elim
    (cases_eq i 0) [
      | inl z ↦ ([], subst (λ a. Needs rows a t) (ap (slice_index queue) z ∙ r.first) n)
      | inr nz ↦ let q = r.reached s (r.queued i (omega arith) h) in
          (q.0 ++ s ∷ [], chain_push rows from q.0 s t q.1 n)
    ] in
    let unseen : (t : ℕ) → get_or seen t false ≡ false → IsSeen seen t
    → ⊥ = λ t e q. false≢true (sym e ∙ q) in
    record {
      full = v.full ∙ r.full;
      count = omega (arith, v.count, r.count);
      first = v.front 0 (omega (arith, r.count)) ∙ r.first;
      within = λ k w. elim (cases_lt k (length queue)) [
        | inl l ↦ omega (arith, v.front k l, r.within k l)
        | inr g ↦ need_low (slice_index after k) (v.behind k g w).0
      ];
      reached = λ t q. elim (cases_Bool (get_or seen t false)) [
        | inl y ↦ r.reached t y
        | inr n ↦ here t (v.only t q (unseen t n))
      ];
      queued = λ k low w. elim (cases_lt k (length queue)) [
        | inl l ↦ subst (IsSeen new) (sym (v.front k l)) (v.kept _ (r.queued k low l))
        | inr g ↦ (v.behind k g w).1
      ];
      listed = λ t q. elim (cases_Bool (get_or seen t false)) [
        | inl y ↦ let k = r.listed t y in (k.0, omega (arith, k.1, v.longer), v.front k.0 k.1 ∙ k.2)
        | inr n ↦ v.listed t q (unseen t n)
      ];
      closed = λ k t low w n. elim (cases_eq k i) [
        | inl z ↦
            let e : slice_index after k ≡ s = v.front k (omega (arith, z, h)) ∙ ap
            (slice_index queue) z in
            All-contains (λ t. IsSeen new t) (row rows s) t v.all (subst (λ a. Needs rows a t) e n)
        | inr ne ↦
            let l : k < length queue = omega (arith, low, h) in
            v.kept t (r.closed k t (omega arith) l (subst (λ a. Needs rows a t) (v.front k l) n))
      ];
    }

module _ (rows : List (List ℕ)) (from : ℕ) (seen : List Bool) (queue : List ℕ) (i : ℕ)
    (r : Reaching rows from seen queue i) (all : length queue ≤ i) where
  needs_seen : (a t : ℕ) → IsSeen seen a → Needs rows a t → IsSeen seen t
  needs_seen a t s n = let k = r.listed a s in r.closed k.0 t (omega (arith, k.1, all)) k.1
      (subst (λ a. Needs rows a t) (sym k.2) n)

  chain_seen : (a : ℕ) (rest : List ℕ) (b : ℕ) → IsSeen seen a → Chain rows a rest b → IsSeen seen b
  chain_seen a [] b s n = needs_seen a b s n
  chain_seen a (c ∷ cs) b s (n, more) = chain_seen c cs b (needs_seen a c s n) more

  first_seen : (t : ℕ) → Needs rows from t → IsSeen seen t
  first_seen t n = let c = r.count in r.closed 0 t (omega (arith, c, all)) (omega (arith, c))
      (subst (λ a. Needs rows a t) (sym r.first) n)

  ring_seen : (rest : List ℕ) → Chain rows from rest from → IsSeen seen from
  ring_seen [] n = first_seen from n
  ring_seen (c ∷ cs) (n, more) = chain_seen c cs from (first_seen c n) more

  pub on_ring : IsTrue (get_or seen from false) → IsOnRing rows from
  on_ring t = r.reached from t

  pub ring_on : IsOnRing rows from → IsTrue (get_or seen from false)
  ring_on (rest, chain) = ring_seen rest chain

pub all_met : (rows : List (List ℕ)) (from : ℕ) (seen : List Bool) (queue : List ℕ) (i : ℕ)
    → Reaching rows from seen queue i → length rows + 1 ≤ i → length queue ≤ i
all_met rows from seen queue i r h = omega (arith, r.count, trues-le seen, r.full)

-- a turn of the loop over what is needed
pub visit_seen : (needs : List ℕ) (i : ℕ) (old new : List Bool) (before after : List ℕ)
    → Visits (take i needs) old new before after → i < length needs → IsSeen new (get_or needs i 0)
    → Visits (take (i + 1) needs) old new before after
visit_seen needs i old new before after v h s =
    subst (λ ns. Visits ns old new before after) (sym (take_more needs i 0 h))
    (visits_seen (take i needs) old new before after (get_or needs i 0) v s)

pub visit_new : (needs : List ℕ) (i : ℕ) (old new : List Bool) (before after last : List ℕ)
    → Visits (take i needs) old new before after → i < length needs
    → get_or new (get_or needs i 0) false ≡ false → get_or needs i 0 < length old
    → last ≡ after ++ get_or needs i 0 ∷ [] → Visits (take (i + 1) needs) old (set new
    (get_or needs i 0) true) before last
visit_new needs i old new before after last v h s l e =
    subst (λ q. Visits (take (i + 1) needs) old (set new (get_or needs i 0) true) before q) (sym e)
    (subst (λ ns. Visits ns old (set new (get_or needs i 0) true) before
    (after ++ get_or needs i 0 ∷ [])) (sym (take_more needs i 0 h))
    (visits_new (take i needs) old new before after (get_or needs i 0) v s l))
