use Rattle.std.proofs.Common.{◌≡◌, ℕ, zero, suc, ◌<◌, ◌≤◌, max, List, [], ◌∷◌, ◌++◌, map, refl, sym, ◌∙◌, ap, subst, length, get_or, arith, inl, inr, Some}
use Rattle.std.proofs.lemmas.Bool.{cases_lt}
use Rattle.std.proofs.lemmas.List.{length-map, get_or-map, map-append}
use Rattle.std.proofs.lemmas.List.Concat.{flat_map_single}
use Rattle.std.proofs.lemmas.Option.{slice_get-get_or}
use Rattle.std.specs.List.{flat_map}
use Rattle.cf_model.specs.Renumbering.{width, Grows, IsApart, Agree, IsCanon, AllDiffer}
use Rattle.cf_model.proofs.RenumberingLaws.{map_map}
use Rattle.cf_model.specs.Diagrams.{Levels, Node, Connection, no_connection, exit_at, connection_at, count, row, spell, pattern, exits, all_returns, IsGoodConnection, IsGoodNode, IsGood, Extends}
use Rattle.cf_model.specs.FlatFunctions.{points}
use Rattle.cf_model.proofs.Growth.{width-append, Grows-append, Grows-left, Grows-right, Under, Under-width}
use Rattle.cf_model.proofs.Canonicity.{GoodLevel, level_holds}
use Rattle.cf_model.proofs.Growing.{pattern_kept}
use Rattle.cf_model.proofs.CanonLaws.{map_under}
use Rattle.cf_build.specs.Assembling.{classed}
use Rattle.cf_build.specs.Joining.{IsLooseConnection, IsLooseNode, classed_connection}
use Rattle.cf_build.proofs.Words.{read_carries, canon_reads, first_words}

pub flat_map_under : {A : Type 0} (f g : ℕ → List A) (k : ℕ) (p : List ℕ) → Under k p → Agree f g k → flat_map f p ≡ flat_map g p
flat_map_under f g k [] u a = refl
flat_map_under f g k (x ∷ xs) u a =
    let h : f x ≡ g x = a x u.0 in
    let r : flat_map f xs ≡ flat_map g xs = flat_map_under f g k xs u.1 a in
    cc

pub map_words : {A B X : Type 0} (f : A → B) (g : X → List A) (p : List X) → map f (flat_map g p) ≡ flat_map (λ j. map f (g j)) p
map_words f g [] = refl
map_words f g (x ∷ p) = map-append f (g x) (flat_map g p) ∙ ap (λ (ys : List _). map f (g x) ++ ys) (map_words f g p)

pub words_map : {A X Y : Type 0} (g : Y → List A) (f : X → Y) (p : List X) → flat_map g (map f p) ≡ flat_map (λ i. g (f i)) p
words_map g f [] = refl
words_map g f (x ∷ p) = ap (λ (ys : List _). g (f x) ++ ys) (words_map g f p)

words_same : {A X : Type 0} (f g : X → List A) (p : List X) → ((x : X) → f x ≡ g x) → flat_map f p ≡ flat_map g p
words_same f g [] h = refl
words_same f g (x ∷ p) h =
    let top : f x ≡ g x = h x in
    let r : flat_map f p ≡ flat_map g p = words_same f g p h in
    cc

-- every number that was given out has what all entries have
pub all_reached : (P : ℕ → Type 0) (p : List ℕ) (s : ℕ) → Grows s p → ((i : ℕ) → i < length p → P (get_or p i 0)) → (j : ℕ) → s ≤ j → j < width s p → P j
all_reached P [] s g h j ge lt = absurd (omega (arith, ge, lt))
all_reached P (x ∷ p) s g h j ge lt =
    let rest : (i : ℕ) → i < length p → P (get_or p i 0) = λ i li. h (suc i) (omega (arith, li)) in
    elim (cases_lt x j) [
      | inl l ↦ all_reached P p (max s (suc x)) g.1 rest j (omega (arith, l, ge)) lt
      | inr k ↦ (let q : x ≡ j = omega (arith, k, ge, g.0) in subst P q (h 0 (omega arith)))
    ]

-- an entry of a pattern is below the width
under : (c n : ℕ) (e : ℕ → ℕ) (p : ℕ → List ℕ) → GoodLevel c n e p → (i k : ℕ) → i < c → k ≡ e i → Under k (p i)
under c n e p u i k h q = Under-width 0 k (p i) (omega (arith, u.reaches i h, q))

-- classes of a node's exits

row_classed : (cs : List ℕ) (b : Connection) (p : List ℕ) → Under (length b.returns) p → map (λ i. get_or cs i 0) (map (exit_at b) p) ≡ map (exit_at (classed_connection cs b)) p
row_classed cs b p u =
    map_map (λ i. get_or cs i 0) (exit_at b) p
    ∙ map_under (λ i. get_or cs (exit_at b i) 0) (exit_at (classed_connection cs b)) (length b.returns) p u (λ i l. sym (get_or-map (λ i. get_or cs i 0) b.returns i 0 0 l))

abbrev pub classed_node : List ℕ → Node → Node
classed_node cs n = record { a_callee = n.a_callee; connections = map (classed_connection cs) n.connections }

conn_classed : (cs : List ℕ) (bs : List Connection) (j : ℕ) → j < length bs → connection_at (map (classed_connection cs) bs) j ≡ classed_connection cs (connection_at bs j)
conn_classed cs bs j l = get_or-map (classed_connection cs) bs j no_connection no_connection l

pub spell_classed : (c n : ℕ) (e : ℕ → ℕ) (p : ℕ → List ℕ) → GoodLevel c n e p → (d : Node) → IsGoodNode c e d → (cs : List ℕ) → classed cs (spell p d) ≡ spell p (classed_node cs d)
spell_classed c n e p u d g cs =
    map_words (λ i. get_or cs i 0) (λ j. row p (connection_at d.connections j)) (p d.a_callee)
    ∙ flat_map_under (λ j. map (λ i. get_or cs i 0) (row p (connection_at d.connections j))) (λ j. row p (connection_at (map (classed_connection cs) d.connections) j)) (length d.connections) (p d.a_callee) (under c n e p u d.a_callee (length d.connections) g.callee_exists g.middles)
    (λ j lj. (let b = g.good_connections j lj in
    row_classed cs (connection_at d.connections j) (p (connection_at d.connections j).callee) (under c n e p u (connection_at d.connections j).callee (length (connection_at d.connections j).returns) b.callee_exists b.entries)
    ∙ ap (λ (b : Connection). row p b) (sym (conn_classed cs d.connections j lj))))

returns_classed : (cs : List ℕ) (bs : List Connection) → all_returns (map (classed_connection cs) bs) ≡ classed cs (all_returns bs)
returns_classed cs bs = words_map (λ b. b.returns) (classed_connection cs) bs ∙ sym (map_words (λ i. get_or cs i 0) (λ b. b.returns) bs)

pub loose_classed : (c : ℕ) (e : ℕ → ℕ) (d : Node) → IsGoodNode c e d → (cs : List ℕ) → Grows 0 cs → length cs ≡ width 0 (all_returns d.connections) → IsLooseNode c e (classed_node cs d)
loose_classed c e d g cs grow long = record {
  callee_exists = g.callee_exists;
  middles = length-map d.connections (classed_connection cs) ∙ g.middles;
  loose_connections = λ j lj. (let li : j < length d.connections = omega (arith, lj, length-map d.connections (classed_connection cs)) in
      let b = g.good_connections j li in
      subst (λ (b : Connection). IsLooseConnection c e b) (sym (conn_classed cs d.connections j li)) (record { callee_exists = b.callee_exists; entries = length-map (connection_at d.connections j).returns (λ i. get_or cs i 0) ∙ b.entries }));
  first_reach = subst (λ (v : List ℕ). Grows 0 v) (sym (returns_classed cs d.connections)) (read_carries cs (all_returns d.connections) 0 g.first_reach (sym long) grow).0;
}

-- a row with repeated labels, thinned

-- what the thinned row owes: its callee `h` has the pattern `q`, the old one numbered by `ranks`, and its labels are `ds`
pub thin_entries : (q p ranks : List ℕ) (k : ℕ) → Grows 0 p → width 0 p ≡ length ranks → Grows 0 ranks → q ≡ classed ranks p → width 0 ranks ≡ k → width 0 q ≡ k
thin_entries q p ranks k gp full gr qe we = ap (λ (v : List ℕ). width 0 v) qe ∙ (read_carries ranks p 0 gp full gr).1 ∙ we

pub differ_apart : (ds : List ℕ) (to : ℕ) → AllDiffer ds → IsApart (λ i. get_or ds i 0) (length ds)
differ_apart ds to d i j li lj e = d i j (get_or ds i 0) (slice_get-get_or ds i 0 li) (slice_get-get_or ds j 0 lj ∙ ap Some (sym e))

pub thin_row : (q p labels ranks ds : List ℕ) → width 0 p ≡ length labels → IsCanon labels ranks ds → q ≡ classed ranks p → map (λ i. get_or ds i 0) q ≡ map (λ i. get_or labels i 0) p
thin_row q p labels ranks ds full c qe =
    let reads : labels ≡ map (λ i. get_or ds i 0) ranks = canon_reads labels ranks ds 0 c.spells in
    let long : length labels ≡ length ranks = ap length reads ∙ length-map ranks (λ i. get_or ds i 0) in
    ap (λ (v : List ℕ). map (λ i. get_or ds i 0) v) qe ∙ map_map (λ i. get_or ds i 0) (λ i. get_or ranks i 0) p
    ∙ map_under (λ i. get_or ds (get_or ranks i 0) 0) (λ i. get_or labels i 0) (length ranks) p (Under-width 0 (length ranks) p (omega (arith, full, long)))
    (λ i li. sym (get_or-map (λ i. get_or ds i 0) ranks i 0 0 li) ∙ ap (λ (v : List ℕ). get_or v i 0) (sym reads))

pub thin_order : (labels ranks ds : List ℕ) → IsCanon labels ranks ds → (m : ℕ) → Grows m labels → Grows m ds × (width m ds ≡ width m labels)
thin_order labels ranks ds c m h =
    let one : ℕ → List ℕ = λ x. x ∷ [] in
    let reads : labels ≡ map (λ i. get_or ds i 0) ranks = canon_reads labels ranks ds 0 c.spells in
    let words : flat_map (λ i. get_or ds i 0 ∷ []) ranks ≡ labels = flat_map_single (λ i. get_or ds i 0) ranks ∙ sym reads in
    let same : flat_map one ds ≡ ds = flat_map_single (λ (x : ℕ). x) ds ∙ map_id ds in
    let r = first_words one 0 ds ranks 0 m c.grows c.reached (λ j lj. absurd (omega (arith, lj))) (subst (λ (v : List ℕ). Grows m v) (sym words) h) in (
      subst (λ (v : List ℕ). Grows m v) same r.0,
      ap (λ (v : List ℕ). width m v) (sym same) ∙ r.1 ∙ ap (λ (v : List ℕ). width m v) words,
    )
  where
    map_id : (xs : List ℕ) → map (λ (x : ℕ). x) xs ≡ xs
    map_id [] = refl
    map_id (x ∷ xs) = ap (λ (ys : List ℕ). x ∷ ys) (map_id xs)

-- rows that are thinned one by one give out the same numbers
pub rows_carry : (ns cs : List Connection) → length cs ≡ length ns
    → ((j : ℕ) → j < length ns → (m : ℕ) → Grows m (connection_at ns j).returns → Grows m (connection_at cs j).returns × (width m (connection_at cs j).returns ≡ width m (connection_at ns j).returns))
    → (m : ℕ) → Grows m (all_returns ns) → Grows m (all_returns cs) × (width m (all_returns cs) ≡ width m (all_returns ns))
rows_carry [] [] len each m g = (tt, refl)
rows_carry [] (c ∷ cs) len each m g = absurd (omega (arith, len))
rows_carry (n ∷ ns) [] len each m g = absurd (omega (arith, len))
rows_carry (n ∷ ns) (c ∷ cs) len each m g =
    let here = each 0 (omega arith) m (Grows-left m n.returns (all_returns ns) g) in
    let r = rows_carry ns cs (let l : length cs ≡ length ns = omega (arith, len) in l) (λ j lj k h. each (suc j) (omega (arith, lj)) k h) (width m n.returns) (Grows-right m n.returns (all_returns ns) g) in (
      Grows-append m c.returns (all_returns cs) here.0 (subst (λ (k : ℕ). Grows k (all_returns cs)) (sym here.1) r.0),
      width-append m c.returns (all_returns cs) ∙ ap (λ (k : ℕ). width k (all_returns cs)) here.1 ∙ r.1 ∙ sym (width-append m n.returns (all_returns ns)),
    )

-- a loose node `d` over `p`, with its rows thinned to `cs` over `q`, which are numbered by `classes` in `bs`; `a` is the callee by classes
pub record Ready (c c' n : ℕ) (e e' : ℕ → ℕ) (p q : ℕ → List ℕ) (d : Node) (cs bs : List Connection) (classes : List ℕ) (a : ℕ) : Type 0 where
  pub below : GoodLevel c n e p
  pub above : GoodLevel c' n e' q
  pub is_loose : IsLooseNode c e d
  pub long : length cs ≡ length d.connections
  pub rows : (j : ℕ) → j < length d.connections → row q (connection_at cs j) ≡ row p (connection_at d.connections j)
  pub carry : (j : ℕ) → j < length d.connections → (m : ℕ) → Grows m (connection_at d.connections j).returns → Grows m (connection_at cs j).returns × (width m (connection_at cs j).returns ≡ width m (connection_at d.connections j).returns)
  pub reads : cs ≡ map (connection_at bs) classes
  pub grows : Grows 0 classes
  pub reached : width 0 classes ≡ length bs
  pub good_connections : (j : ℕ) → j < length bs → IsGoodConnection c' e' (connection_at bs j)
  pub apart : IsApart (connection_at bs) (length bs)
  pub callee_exists : a < c'
  pub a_callee : q a ≡ classed classes (p d.a_callee)

abbrev pub made : ℕ → List Connection → Node
made a bs = record { a_callee = a; connections = bs }

pub ready_good : (c c' n : ℕ) (e e' : ℕ → ℕ) (p q : ℕ → List ℕ) (d : Node) (cs bs : List Connection) (classes : List ℕ) (a : ℕ) → Ready c c' n e e' p q d cs bs classes a → IsGoodNode c' e' (made a bs)
ready_good c c' n e e' p q d cs bs classes a r =
    let lc : length classes ≡ length d.connections = sym (length-map classes (connection_at bs)) ∙ ap length (sym r.reads) ∙ r.long in
    let full : width 0 (p d.a_callee) ≡ length classes = r.below.reaches d.a_callee r.is_loose.callee_exists ∙ sym r.is_loose.middles ∙ sym lc in
    let w = read_carries classes (p d.a_callee) 0 (r.below.grows d.a_callee r.is_loose.callee_exists) full r.grows in
    let returned : flat_map (λ i. (connection_at bs i).returns) classes ≡ all_returns cs = sym (words_map (λ b. b.returns) (connection_at bs) classes) ∙ ap all_returns (sym r.reads) in
    let o = rows_carry d.connections cs r.long r.carry 0 r.is_loose.first_reach in
    record {
      callee_exists = r.callee_exists;
      middles = sym r.reached ∙ sym w.1 ∙ ap (λ (v : List ℕ). width 0 v) (sym r.a_callee) ∙ r.above.reaches a r.callee_exists;
      good_connections = r.good_connections;
      first_reach = (first_words (λ b. b.returns) no_connection bs classes 0 0 r.grows r.reached (λ j lj. absurd (omega (arith, lj))) (subst (λ (v : List ℕ). Grows 0 v) (sym returned) o.0)).0;
      differ = r.apart;
    }

pub ready_spell : (c c' n : ℕ) (e e' : ℕ → ℕ) (p q : ℕ → List ℕ) (d : Node) (cs bs : List Connection) (classes : List ℕ) (a : ℕ) → Ready c c' n e e' p q d cs bs classes a → spell q (made a bs) ≡ spell p d
ready_spell c c' n e e' p q d cs bs classes a r =
    let lc : length classes ≡ length d.connections = sym (length-map classes (connection_at bs)) ∙ ap length (sym r.reads) ∙ r.long in
    ap (λ (v : List ℕ). flat_map (λ j. row q (connection_at bs j)) v) r.a_callee
    ∙ words_map (λ j. row q (connection_at bs j)) (λ i. get_or classes i 0) (p d.a_callee)
    ∙ flat_map_under (λ i. row q (connection_at bs (get_or classes i 0))) (λ j. row p (connection_at d.connections j)) (length d.connections) (p d.a_callee) (under c n e p r.below d.a_callee (length d.connections) r.is_loose.callee_exists r.is_loose.middles)
    (λ i li. ap (λ (b : Connection). row q b) (sym (get_or-map (connection_at bs) classes i 0 no_connection (omega (arith, li, lc))) ∙ ap (λ (v : List Connection). connection_at v i) (sym r.reads)) ∙ r.rows i li)

-- a node that is good spells the same over a table that has grown
pub spell_kept : (t u : Levels) → IsGood t → Extends t u → (l : ℕ) (d : Node) → IsGoodNode (count t l) (exits t l) d → spell (pattern u l) d ≡ spell (pattern t l) d
spell_kept t u g x l d good =
    ap (λ (p : List ℕ). flat_map (λ j. row (pattern u l) (connection_at d.connections j)) p) (pattern_kept t u g x l d.a_callee good.callee_exists)
    ∙ flat_map_under (λ j. row (pattern u l) (connection_at d.connections j)) (λ j. row (pattern t l) (connection_at d.connections j)) (length d.connections) (pattern t l d.a_callee) (under (count t l) (points l) (exits t l) (pattern t l) (level_holds t g l) d.a_callee (length d.connections) good.callee_exists good.middles)
    (λ j lj. ap (λ (p : List ℕ). map (exit_at (connection_at d.connections j)) p) (pattern_kept t u g x l (connection_at d.connections j).callee (good.good_connections j lj).callee_exists))

-- at level 0 the only exits that merge are the two of FORK
base_merged_at : (t : Levels) (i : ℕ) (cs : List ℕ) → length cs ≡ exits t 0 i → Grows 0 cs → (((j : ℕ) → j < length cs → get_or cs j 0 ≡ j) → ⊥) → pattern t 0 0 ≡ classed cs (pattern t 0 i)
unfolding pattern
base_merged_at t zero [] l g k = absurd (omega (arith, l))
base_merged_at t zero (x ∷ cs) l g k = absurd (k (λ j lj. omega (arith, one cs j l lj g.0)))
  where
    one : (cs : List ℕ) (j : ℕ) → length (x ∷ cs) ≡ 1 → j < length (x ∷ cs) → x ≤ 0 → get_or (x ∷ cs) j 0 ≡ j
    one cs zero l lj h = omega (arith, h)
    one cs (suc j) l lj h = absurd (omega (arith, l, lj))
base_merged_at t (suc i) [] l g k = absurd (omega (arith, l))
base_merged_at t (suc i) (x ∷ []) l g k = absurd (omega (arith, l))
base_merged_at t (suc i) (x ∷ y ∷ cs) l g k =
    let a : 0 ≡ x = omega (arith, g.0) in
    elim (cases_lt 0 y) [
      | inl h ↦ absurd (k (λ j lj. two cs j (omega (arith, g.0)) (omega (arith, h, g.1.0, g.0)) l lj))
      | inr h ↦ (let b : 0 ≡ y = omega (arith, h) in cc)
    ]
  where
    two : (cs : List ℕ) (j : ℕ) → x ≡ 0 → y ≡ 1 → length (x ∷ y ∷ cs) ≡ 2 → j < length (x ∷ y ∷ cs) → get_or (x ∷ y ∷ cs) j 0 ≡ j
    two cs zero hx hy l lj = hx
    two cs (suc zero) hx hy l lj = hy
    two cs (suc (suc j)) hx hy l lj = absurd (omega (arith, l, lj))

pub base_merged : (t : Levels) (l i : ℕ) (cs : List ℕ) → l ≡ 0 → length cs ≡ exits t l i → Grows 0 cs → (((j : ℕ) → j < length cs → get_or cs j 0 ≡ j) → ⊥) → pattern t 0 0 ≡ classed cs (pattern t l i)
base_merged t l i cs e long = subst (λ (m : ℕ). length cs ≡ exits t m i → Grows 0 cs → (((j : ℕ) → j < length cs → get_or cs j 0 ≡ j) → ⊥) → pattern t 0 0 ≡ classed cs (pattern t m i)) (sym e) (base_merged_at t i cs) long
