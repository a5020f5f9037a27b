use Rattle.std.proofs.Common.{◌≡◌, zero, suc, ℕ, ◌+◌, ◌-◌, ◌<◌, ◌≤◌, List, [], ◌∷◌, ◌++◌, Some, length, get_or, refl, sym, ap, ◌∙◌, subst, inl, inr, arith, length-append}
use Rattle.std.specs.List.{slice_get, All}
use Rattle.std.specs.Prelude.{slice_index}
use Rattle.std.specs.Option.{option_and_then}
use Rattle.std.proofs.lemmas.Bool.{cases_lt}
use Rattle.std.proofs.lemmas.List.{get_or_append_left, get_or-append-add, get_or_push, length_push}
use Rattle.std.proofs.lemmas.Option.{slice_get_within, get_or_from_slice_get, slice_get-get_or}
use Rattle.cf_hierarchy.specs.declared.blocks.Call.{Call}
use Rattle.cf_hierarchy.specs.declared.blocks.Block.{Block}
use Rattle.cf_hierarchy.specs.declared.instances.Instance.{Instance}
use Rattle.cf_hierarchy.specs.Hierarchy.{IsBlock}
use Rattle.cf_hierarchy.specs.Spreads.{no_block, no_call, instance_at, block_of, made, made_end, IsAtMostDeep, IsBased, IsAt, IsPlaced, Grown}

abbrev pub blank : Instance
blank = record { block = 0; parent = 0; place = 0; base = 0 }

length-made : (blocks : List Block) (parent place base : ℕ) (calls : List Call)
    → length (made blocks parent place base calls) ≡ length calls
length-made blocks parent place base [] = refl
length-made blocks parent place base (c ∷ cs) = ap suc
    (length-made blocks parent (suc place) (base + length (get_or blocks c.block no_block).drivers)
    cs)

-- what a new copy is
pub record IsMade (parent place : ℕ) (c : Call) (x : Instance) : Type 0 where
  pub block : x.block ≡ c.block
  pub parent_is : x.parent ≡ parent
  pub place_is : x.place ≡ place

made_at : (blocks : List Block) (parent place base : ℕ) (calls : List Call) (j : ℕ) (c : Call)
    → slice_get calls j ≡ Some c → IsMade parent (place + j) c
    (get_or (made blocks parent place base calls) j blank)
made_at blocks parent place base [] j c h = absurd (cc)
made_at blocks parent place base (a ∷ cs) zero c h =
    let e : a ≡ c = cc in record {
      block = ap (λ (x : Call). x.block) e;
      parent_is = refl;
      place_is
          = omega arith;
    }
made_at blocks parent place base (a ∷ cs) (suc j) c h =
    let z : suc place + j ≡ place + suc j = omega arith in
    subst (λ n. IsMade parent n c (get_or (made blocks parent place base (a ∷ cs)) (suc j) blank)) z
    (made_at blocks parent (suc place) (base + length (get_or blocks a.block no_block).drivers) cs j
    c h)

IsBased-append : (blocks : List Block) (b m e : ℕ) (xs ys : List Instance) → IsBased blocks b xs m
    → IsBased blocks m ys e → IsBased blocks b (xs ++ ys) e
IsBased-append blocks b m e [] ys h k = subst (λ n. IsBased blocks n ys e) (sym h) k
IsBased-append blocks b m e (x ∷ xs) ys h k =
    (h.0, IsBased-append blocks (b + length (block_of blocks x).drivers) m e xs ys h.1 k)

made_based : (blocks : List Block) (parent place base : ℕ) (calls : List Call)
    → IsBased blocks base (made blocks parent place base calls) (made_end blocks base calls)
made_based blocks parent place base [] = refl
made_based blocks parent place base (c ∷ cs) = (
  refl,
  made_based blocks parent (suc place)
      (base + length (get_or blocks c.block no_block).drivers) cs,
)

-- the copy at a path stays when others get theirs
at_kept : (firsts : List ℕ) (x : ℕ) (p : List ℕ) (i : ℕ) → IsAt firsts p i
    → IsAt (firsts ++ x ∷ []) p i
at_kept firsts x [] i h = h
at_kept firsts x (j ∷ p) i (a, at, l, e) = (
  a,
  at_kept firsts x p a at,
  omega (arith, length_push firsts x, l),
  e ∙ ap (λ n. n + j)
      (sym (get_or_append_left firsts (x ∷ []) 0 a l)),
)

pub placed_kept : (blocks : List Block) (firsts : List ℕ) (x i : ℕ) (b c : Block) (d : ℕ) → b ≡ c
    → IsPlaced blocks firsts i b d → IsPlaced blocks (firsts ++ x ∷ []) i c d
placed_kept blocks firsts x i b c d e h = record {
  path = h.path;
  there = h.there ∙ ap Some e;
  at = at_kept firsts x h.path i h.at;
  calls =
      h.calls;
}

module _ (blocks : List Block) (copies : List Instance) (firsts : List ℕ) (end i : ℕ)
    (ok : All (IsBlock blocks) blocks)
    (grown : Grown blocks copies firsts end) (next : i ≡ length firsts) (there : i < length copies)
  where
    abbrev calls : List Call
    calls = (block_of blocks (instance_at copies i)).calls

    abbrev more : List Instance
    more = copies ++ made blocks i 0 end calls

    abbrev given : List ℕ
    given = firsts ++ length copies ∷ []

    length-more : length more ≡ length copies + length calls
    length-more = length-append copies (made blocks i 0 end calls) ∙ ap (λ n. length copies + n)
        (length-made blocks i 0 end calls)

    pub old_instance : (k : ℕ) → k < length copies → instance_at more k ≡ instance_at copies k
    old_instance k h = get_or_append_left copies (made blocks i 0 end calls) blank k h

    new_instance : (j : ℕ) → instance_at more (length copies + j) ≡ get_or (made blocks i 0 end calls)
        j blank
    new_instance j = get_or-append-add copies (made blocks i 0 end calls) j blank

    new_made : (j : ℕ) (c : Call) → slice_get calls j ≡ Some c
        → IsMade i j c (instance_at more (length copies + j))
    new_made j c h =
        let z : 0 + j ≡ j = omega arith in
        subst (IsMade i j c) (sym (new_instance j))
        (subst (λ n. IsMade i n c (get_or (made blocks i 0 end calls) j blank)) z
        (made_at blocks i 0 end calls j c h))

    -- the copies behind the old ones
    pub new_cases : (k : ℕ) → length copies ≤ k → k < length more
        → (j : ℕ) × (k ≡ length copies + j) × ((c : Call) × (slice_get calls j ≡ Some c) × IsMade i j
        c (instance_at more k))
    new_cases k low h =
        let j = k - length copies in
        let e : k ≡ length copies + j = omega arith in
        let l : j < length calls = omega (arith, length-more) in
        let c = get_or calls j no_call in
        let at : slice_get calls j ≡ Some c = slice_get-get_or calls j no_call l in
        (j, e, (c, at, subst (λ n. IsMade i j c (instance_at more n)) (sym e) (new_made j c at)))

    is_call : (j : ℕ) (c : Call) → slice_get calls j ≡ Some c → c.block < length blocks
    is_call j c h =
        let b = ok (instance_at copies i).block no_block (grown.there i there) in
        let k = slice_get_within calls j c h in
        let e = get_or_from_slice_get calls j c no_call h in
        let w = (b.calls j no_call k).there in
        omega (arith, w, ap (λ (x : Call). x.block) e)

    given_old : (k : ℕ) → k < length firsts → slice_index given k ≡ slice_index firsts k
    given_old k h = get_or_append_left firsts (length copies ∷ []) 0 k h

    given_new : slice_index given i ≡ length copies
    given_new = get_or_push firsts (length copies) 0 i (sym next)

    -- a new copy stands one call behind
    pub placed_new : (d k : ℕ) → IsPlaced blocks firsts i (block_of blocks (instance_at copies i)) d
        → length copies ≤ k → k < length more
        → IsPlaced blocks given k (block_of blocks (instance_at more k)) (d + 1)
    placed_new d k placed low h =
        let n = new_cases k low h in
        let c = n.2.0 in
        record {
          path = n.0 ∷ placed.path;
          there =
              ap (option_and_then (λ (b : Block). option_and_then
              (λ (c : Call). slice_get blocks c.block) (slice_get b.calls n.0))) placed.there
              ∙ ap (option_and_then (λ (c : Call). slice_get blocks c.block)) n.2.1
              ∙ slice_get-get_or blocks c.block no_block (is_call n.0 c n.2.1)
              ∙ ap (λ (m : ℕ). Some (get_or blocks m no_block)) (sym n.2.2.block);
          at = (
            i,
            at_kept firsts (length copies) placed.path i placed.at,
            omega
                (arith, length_push firsts (length copies), next),
            n.1 ∙ ap (λ m. m + n.0)
                (sym given_new),
          );
          calls = omega (arith, placed.calls);
        }

    pub grown_more : Grown blocks more given (made_end blocks end calls)
    grown_more = record {
      some = omega (arith, grown.some, length-more);
      ahead = omega (
        arith,
        length_push firsts (length copies),
        length-more,
        next,
        there,
        grown.ahead,
      );
      root = ap (λ (x : Instance). x.block) (old_instance 0 grown.some) ∙ grown.root;
      there = λ k h. elim (cases_lt k (length copies)) [
        | inl l ↦ subst (λ (x : Instance). x.block < length blocks) (sym (old_instance k l))
            (grown.there k l)
        | inr g ↦ let n = new_cases k g h in omega (arith, n.2.2.block, is_call n.0 n.2.0 n.2.1)
      ];
      calls = λ k h. elim (cases_lt k (length firsts)) [
        | inl l ↦
            let old = grown.calls k l in
            let kl : k < length copies = omega (arith, grown.ahead) in
            record {
              later = omega (arith, given_old k l, old.later);
              called = λ j c at.
                  let q = old.called j c (subst (λ (x : Instance). slice_get (block_of blocks x).calls j
                  ≡ Some c) (old_instance k kl) at) in
                  let e : slice_index given k + j ≡ slice_index firsts k + j = ap (λ n. n + j)
                  (given_old k l) in
                  let f = ap (λ n. instance_at more n) e ∙ old_instance (slice_index firsts k + j) q.0
                  in (
                    omega (arith, e, q.0, length-more),
                    ap (λ (x : Instance). x.block) f ∙ q.1,
                    ap
                        (λ (x : Instance). x.parent) f ∙ q.2,
                    ap (λ (x : Instance). x.place) f ∙ q.3,
                  );
            }
        | inr g ↦
            let here : k ≡ i = omega (arith, length_push firsts (length copies), next) in
            let first : slice_index given k ≡ length copies = ap (slice_index given) here ∙ given_new
            in
            record {
              later = omega (arith, first, there);
              called = λ j c at.
                  let e : slice_get calls j ≡ Some c = subst
                  (λ (x : Instance). slice_get (block_of blocks x).calls j ≡ Some c)
                  (ap (λ n. instance_at more n) here ∙ old_instance i there) at in
                  let q = new_made j c e in
                  let f : instance_at more (slice_index given k + j) ≡ instance_at more
                  (length copies + j) = ap (λ n. instance_at more (n + j)) first in (
                    omega (arith, first, slice_get_within calls j c e, length-more),
                    ap
                        (λ (x : Instance). x.block) f ∙ q.block,
                    ap (λ (x : Instance). x.parent) f ∙
                        q.parent_is ∙ sym here,
                    ap (λ (x : Instance). x.place) f ∙ q.place_is,
                  );
            }
      ];
      parents = λ k low h. elim (cases_lt k (length copies)) [
        | inl l ↦
            let old = grown.parents k low l in
            let e = old_instance k l in
            let pe : (instance_at more k).parent ≡ (instance_at copies k).parent = ap
            (λ (x : Instance). x.parent) e in
            let pl : (instance_at copies k).parent < length copies = omega (arith, old.0, grown.ahead)
            in
            let f : block_of blocks (instance_at more (instance_at more k).parent) ≡ block_of blocks
            (instance_at copies (instance_at copies k).parent) =
            ap (λ n. block_of blocks (instance_at more n)) pe ∙ ap (block_of blocks)
            (old_instance (instance_at copies k).parent pl) in (
              omega (arith, pe, old.0, length_push firsts (length copies)),
              (
                old.1.0,
                ap (λ (b : Block). slice_get b.calls (instance_at more k).place) f ∙ ap
                    (λ n. slice_get (block_of blocks (instance_at copies
                    (instance_at copies k).parent)).calls n) (ap (λ (x : Instance). x.place) e) ∙
                    old.1.1,
                old.1.2 ∙ sym (ap (λ (x : Instance). x.block) e),
              ),
            )
        | inr g ↦
            let n = new_cases k g h in
            let q = n.2.2 in
            let f : block_of blocks (instance_at more (instance_at more k).parent) ≡ block_of blocks
            (instance_at copies i) =
            ap (λ n. block_of blocks (instance_at more n)) q.parent_is ∙ ap (block_of blocks)
            (old_instance i there) in (
              omega (arith, q.parent_is, next, length_push firsts (length copies)),
              (
                n.2.0,
                ap (λ (b : Block). slice_get b.calls (instance_at more k).place) f ∙ ap
                    (λ n. slice_get calls n) q.place_is ∙ n.2.1,
                sym q.block,
              ),
            )
      ];
      placed = λ k h. elim (cases_lt k (length copies)) [
        | inl l ↦ let old = grown.placed k l in (
          old.0,
          placed_kept blocks firsts (length copies) k _
              _ old.0 (sym (ap (block_of blocks) (old_instance k l))) old.1,
        )
        | inr g ↦ let up = grown.placed i there in (up.0 + 1, placed_new up.0 k up.1 g h)
      ];
      based = IsBased-append blocks 0 end (made_end blocks end calls) copies
          (made blocks i 0 end calls) grown.based (made_based blocks i 0 end calls);
    }

-- while the copies of a level get theirs: those of the level that haven't, and those of the next
-- level
pub record Levelled (blocks : List Block) (copies : List Instance) (firsts : List ℕ)
    (end i upto d : ℕ) : Type 0 where
  pub grown : Grown blocks copies firsts end
  pub next : i ≡ length firsts
  pub within : upto ≤ length copies
  pub here : (k : ℕ) → i ≤ k → k < upto → IsPlaced blocks firsts k (block_of blocks
      (instance_at copies k)) d
  pub behind : (k : ℕ) → upto ≤ k → k < length copies
      → IsPlaced blocks firsts k (block_of blocks (instance_at copies k)) (d + 1)

-- at the start of a level
pub record Level (blocks : List Block) (copies : List Instance) (firsts : List ℕ) (end d : ℕ) : Type
    0 where
  pub grown : Grown blocks copies firsts end
  pub here : (k : ℕ) → length firsts ≤ k → k < length copies
      → IsPlaced blocks firsts k (block_of blocks (instance_at copies k)) d

pub level_starts : (blocks : List Block) (copies : List Instance) (firsts : List ℕ)
    (end from upto d : ℕ) → Level blocks copies firsts end d → from ≡ length firsts
    → upto ≡ length copies → Levelled blocks copies firsts end from upto d
level_starts blocks copies firsts end from upto d level f u = record {
  grown = level.grown;
  next = f;
  within = omega arith;
  here = λ k a b. level.here k (omega arith) (omega arith);
  behind = λ k a b. absurd (omega arith);
}

pub level_ends : (blocks : List Block) (copies : List Instance) (firsts : List ℕ) (end i upto d : ℕ)
    → Levelled blocks copies firsts end i upto d → upto ≤ i → Level blocks copies firsts end (d + 1)
level_ends blocks copies firsts end i upto d level h = record
    { grown = level.grown; here = λ k a b. level.behind k (omega (arith, level.next)) b }

pub level_goes : (blocks : List Block) (copies : List Instance) (firsts : List ℕ) (end i upto d : ℕ)
    (more : List Instance) (given : List ℕ) (after : ℕ) → All (IsBlock blocks) blocks
    → Levelled blocks copies firsts end i upto d → i < upto
    → given ≡ firsts ++ length copies ∷ [] → more ≡ copies ++ made blocks i 0 end (block_of blocks
    (instance_at copies i)).calls → after ≡ made_end blocks end
    (block_of blocks (instance_at copies i)).calls
    → Levelled blocks more given after (i + 1) upto d
level_goes blocks copies firsts end i upto d more given after ok level h e f g =
    let there : i < length copies = omega (arith, level.within) in
    let calls = (block_of blocks (instance_at copies i)).calls in
    let moved : Levelled blocks (copies ++ made blocks i 0 end calls) (firsts ++ length copies ∷ [])
    (made_end blocks end calls) (i + 1) upto d = record {
      grown = grown_more blocks copies firsts end i ok level.grown level.next there;
      next = omega (arith, level.next, length_push firsts (length copies));
      within = omega (arith, level.within, length-append copies (made blocks i 0 end calls));
      here = λ k a b.
          placed_kept blocks firsts (length copies) k _ _ d
          (sym (ap (block_of blocks) (old_instance blocks copies firsts end i ok level.grown
          level.next there k (omega (arith, level.within))))) (level.here k (omega arith) b);
      behind = λ k a b. elim (cases_lt k (length copies)) [
        | inl l ↦ placed_kept blocks firsts (length copies) k _ _ (d + 1)
            (sym (ap (block_of blocks) (old_instance blocks copies firsts end i ok level.grown
            level.next there k l))) (level.behind k a l)
        | inr q ↦ placed_new blocks copies firsts end i ok level.grown level.next there d k
            (level.here i (omega arith) h) q b
      ];
    } in
    subst (λ m. Levelled blocks m given after (i + 1) upto d) (sym f)
    (subst (λ n. Levelled blocks (copies ++ made blocks i 0 end calls) n after (i + 1) upto d)
    (sym e)
    (subst (λ n. Levelled blocks (copies ++ made blocks i 0 end calls)
    (firsts ++ length copies ∷ []) n (i + 1) upto d) (sym g) moved))

-- the first copy alone
pub level_zero : (blocks : List Block) (copies : List Instance) (firsts : List ℕ) (end : ℕ)
    → 0 < length blocks → copies ≡ blank ∷ [] → firsts ≡ []
    → end ≡ length (get_or blocks 0 no_block).drivers → Level blocks copies firsts end 0
level_zero blocks copies firsts end some e f g =
    let only : (k : ℕ) → k < 1 → k ≡ 0 = λ k h. omega arith in
    let start : Level blocks (blank ∷ []) [] (length (get_or blocks 0 no_block).drivers) 0 = record {
      grown = record {
        some = omega arith;
        ahead = omega arith;
        root = refl;
        there = λ k h. subst (λ n. (instance_at (blank ∷ []) n).block < length blocks)
            (sym (only k h)) some;
        calls = λ k h. absurd (omega arith);
        parents = λ k low h. absurd (omega arith);
        placed = λ k h. (
          0,
          subst (λ n. IsPlaced blocks [] n
              (block_of blocks (instance_at (blank ∷ []) n)) 0) (sym (only k h))
              (record {
                path = [];
                there = slice_get-get_or blocks 0 no_block some;
                at = refl;
                calls =
                    refl;
              }),
        );
        based = (refl, omega arith);
      };
      here = λ k low h. subst (λ n. IsPlaced blocks [] n
          (block_of blocks (instance_at (blank ∷ []) n)) 0) (sym (only k h))
          (record {
            path = [];
            there = slice_get-get_or blocks 0 no_block some;
            at = refl;
            calls =
                refl;
          });
    } in
    subst (λ m. Level blocks m firsts end 0) (sym e)
    (subst (λ n. Level blocks (blank ∷ []) n end 0) (sym f)
    (subst (λ n. Level blocks (blank ∷ []) [] n 0) (sym g) start))

-- behind the last level there is none
pub levels_all : (blocks : List Block) (copies : List Instance) (firsts : List ℕ) (end d n : ℕ)
    → Level blocks copies firsts end d → n < d → IsAtMostDeep blocks n → length copies ≤ length firsts
levels_all blocks copies firsts end d n level h deep = elim
    (cases_lt (length firsts) (length copies)) [
      | inl l ↦ let p = level.here (length firsts) (omega arith) l in absurd
          (omega (arith, deep p.path _ p.there, p.calls))
      | inr g ↦ g
    ]

pub call_there : (blocks : List Block) (b : Block) (cs : List Call) → IsBlock blocks b
    → cs ≡ b.calls → All (λ c. c.block < length blocks) cs
call_there blocks b cs ok e = subst (λ cs. All (λ c. c.block < length blocks) cs) (sym e)
    (λ k d h. (ok.calls k d h).there)

pub block_read : (blocks : List Block) (k : ℕ) (x : Block) → All (IsBlock blocks) blocks
    → k < length blocks → x ≡ get_or blocks k x → IsBlock blocks x
block_read blocks k x ok h e = subst (IsBlock blocks) (sym e) (ok k x h)
