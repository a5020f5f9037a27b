-- The statements that ask.
use Rattle.std.proofs.Common.{ℕ, ℤ, zero, suc, ◌≡◌, ◌≢◌, ◌≤◌, ◌<◌, ◌+◌, ◌^◌, pos, Bool, true, false, cond, List, [], ◌∷◌, ◌++◌, map, length, refl, sym, ◌∙◌, ap, arith, subst, Option, Some, None, IsTrue, ◌⊎◌, inl, inr}
use Rattle.std.proofs.Math.Pow.{pow_mono}
use Rattle.std.specs.Prelude.{All, slice_get, slice_index_or as get_or, take, nat_abs, unwrap_or, IsSome, nat_le, ◌&&◌, ◌||◌, ◌==◌, IfSome, IfNone}
use Rattle.std.specs.List.{list_all, range_with_len}
use Rattle.std.specs.Option.{option_map}
use Rattle.std.specs.Ordering.{int_eq}
use Rattle.std.proofs.lemmas.Bool.{false≢true}
use Rattle.std.proofs.lemmas.Bool.Decides.{nat_tests, Decides-int_eq}
use Rattle.std.proofs.lemmas.Option.{same_Some, none-some, slice_get-get_or, slice_get_within, get_or_from_slice_get}
use Rattle.std.proofs.lemmas.List.Elements.{All-cons, All-nil, All-head, All-tail, All-get_or}
use Rattle.std.proofs.lemmas.List.{length-map, length-append, map-append}
use Rattle.cf_model.specs.Assignments.{Assignment, are_digits, bits, number_of, all_bits, bits_of_text}
use Rattle.cf_model.specs.FlatFunctions.{FlatFunction, IsFlatFunction, IsAssignment, IsLeast, value_at, variable}
use Rattle.cf_model.specs.Values.{Fits}
use Rattle.cf_model.specs.Patterns.{pattern_of, sizes}
use Rattle.cf_model.specs.Renumbering.{distinct}
use Rattle.cf_model.proofs.AssignmentLaws.{length-all_bits, all_bits-place}
use Rattle.cf_model.proofs.FlatFunctionLaws.{number_in}
use Rattle.cf_pkg.specs.declared.Func.{Func}
use Rattle.cf_pkg.specs.Packages.{Package, OwnsFunction, meaning}
use Rattle.cf_reference.specs.Trees.{Statement}
use Rattle.cf_reference.specs.Reasons.{OutOfRange, LevelsDiffer}
use Rattle.cf_reference.specs.Replies.{value_reply, bits_reply, none_reply, equal_reply, different_reply, size_reply, stats_reply}
use Rattle.cf_reference.specs.States.{named, at, level_in}
use Rattle.cf_reference.specs.Answers.{spelled, first_answer, list_reply, equal_answer, functions_in}
use Rattle.cf_reference.specs.Answers as answers
use Rattle.cf_reference.specs.Carrying.{Refuses, Goes, lists, tell_value, tell_first, tell_list, tell_equal, tell_size, tell_stats, step}
use Rattle.cf_reference.proofs.AnswerLaws.{first_answer-some, first_answer-none, equal_answer-different, equal_answer-equal}
use Rattle.cf_reference.proofs.FailureLaws.{least-same}
use Rattle.cf_reference.proofs.NameLaws.{spelled-is}
use Rattle.cf_reference.proofs.StepLaws.{Asks, step-NoName, step-Value, step-Value-bits, step-First, step-Listed, step-Listed-most, step-Equal, step-Equal-levels, step-Equal-NoName, step-Size, step-Stats}
use Rattle.cf_witness.specs.Witnesses.{is_value, assignments_of}
use Rattle.cf_witness.proofs.Lists.{filter_same}
use Rattle.cf_session.specs.declared.faults.Refusal.{Refusal}
use Rattle.cf_session.specs.Faults.{reason_of}
use Rattle.cf_session.specs.Sessions.{Held, Names, names_of, IsHeld, state_of}
use Rattle.cf_session.specs.Statements.{ArePositions, IsNamed, IsUnknown}
use Rattle.cf_session.proofs.StatementFacts.{some-is, count-names}

-- a statement about a name that stands for nothing
pub unknown-refused : (h : Held) (t : Statement) (name : List ℕ) (r : Refusal) → IsSome h.level → Asks t name
    → IsUnknown h name r → step [] (state_of h) t ≡ Refuses (reason_of r)
unknown-refused h t name r set asks u =
    let some = some-is h.level set in
    step-NoName [] (state_of h) some.0 t name some.1 asks u.nothing ∙ ap (λ q. Refuses (reason_of q)) (sym u.refused)

pub if-none : {A : Type 0} (o : Option A) {P : Type 0} → P → IfNone o P
if-none None p = p
if-none (Some x) p = tt

pub read-some : {A : Type 0} (o : Option A) (x : A) (P : A → Type 0) → o ≡ Some x → IfSome o P → P x
read-some None x P e h = absurd (none-some x e)
read-some (Some y) x P e h = subst P (same_Some y x e) h

-- a flat function has a value at each assignment
pub at-some : (f : FlatFunction) (b : List Bool) → IsFlatFunction f → IsAssignment f.level b → value_at f b ≡ Some (at f b)
at-some f b flat h =
    let below = number_in f.level b h in
    let inside : number_of b < length f.values = omega (arith, below, flat.full) in
    let is = slice_get-get_or f.values (number_of b) (pos 0) inside in
    is ∙ ap Some (sym (ap (λ o. unwrap_or o (pos 0)) is))

-- and its values fit
pub flat-fits : (f : FlatFunction) (b : List Bool) (v : ℤ) → IsFlatFunction f → value_at f b ≡ Some v → Fits v
flat-fits f b v flat e =
    let inside = slice_get_within f.values (number_of b) v e in
    subst (λ (z : ℤ). Fits z) (get_or_from_slice_get f.values (number_of b) v (pos 0) e)
    (All-get_or (λ z. Fits z) f.values (number_of b) (pos 0) inside flat.fit)

-- `value`
pub value-goes : (h : Held) (name text : List ℕ) (f : Func) (b : Assignment) (v : ℤ) → IsSome h.level → IsNamed h name f
    → bits b ≡ spelled text → length text ≡ 2 ^ f.head.level → value_at (meaning h.pkg f) (bits b) ≡ Some v
    → tell_value (state_of h) name text ≡ Goes (state_of h) (value_reply v)
value-goes h name text f b v set n is full value =
    let some = some-is h.level set in
    step-Value (state_of h) some.0 name text (meaning h.pkg f) some.1 n.means full
    ∙ ap (λ (w : ℤ). Goes (state_of h) (value_reply w)) (ap (at (meaning h.pkg f)) (sym is) ∙ ap (λ o. unwrap_or o (pos 0)) value)

pub value-bits : (h : Held) (name text : List ℕ) (f : Func) → IsSome h.level → IsNamed h name f
    → length text ≢ 2 ^ f.head.level → tell_value (state_of h) name text ≡ Refuses OutOfRange
value-bits h name text f set n other =
    let some = some-is h.level set in step-Value-bits (state_of h) some.0 name text (meaning h.pkg f) some.1 n.means other

-- what a text of digits spells
pub text-spelled : (text : List ℕ) (b : Assignment) → option_map bits (Some b) ≡ bits_of_text text → bits b ≡ spelled text
text-spelled text b e = by ((nat_le 1 (length text) && nat_le (length text) 128) && list_all (λ b. b == 48 || b == 49) text) e
  where
    by : (t : Bool) → Some (bits b) ≡ cond t (Some (spelled text)) None → bits b ≡ spelled text
    by true e = same_Some (bits b) (spelled text) e
    by false e = absurd (none-some (bits b) (sym e))

le_true : (m n : ℕ) → m ≤ n → nat_le m n ≡ true
le_true m n h = grind (arith, nat_tests)

pub text-long : (text : List ℕ) (level : ℕ) → IsTrue (are_digits text) → level ≤ 7 → None ≡ bits_of_text text
    → length text ≢ 2 ^ level
text-long text level digits low none full = none-some (spelled text) (none ∙ spelled-is text digits some short)
  where
    some : 1 ≤ length text
    some = let least = pow_mono {i = 0} {j = level} (omega arith) in omega (arith, least, full)

    short : length text ≤ 128
    short = let most = pow_mono {i = level} {j = 7} low in omega (arith, most, full)

-- `first`
pub first-goes : (h : Held) (name : List ℕ) (v : ℤ) (f : Func) (b : List Bool) → IsSome h.level → IsNamed h name f
    → IsLeast f.head.level (λ a. value_at (meaning h.pkg f) a ≡ Some v) b
    → tell_first (state_of h) name v ≡ Goes (state_of h) (bits_reply b)
first-goes h name v f b set n least =
    let some = some-is h.level set in
    step-First (state_of h) some.0 name v (meaning h.pkg f) some.1 n.means
    ∙ ap (Goes (state_of h)) (first_answer-some (meaning h.pkg f) v b n.flat least)

pub first-none : (h : Held) (name : List ℕ) (v : ℤ) (f : Func) → IsSome h.level → IsNamed h name f
    → ((a : List Bool) → IsAssignment f.head.level a → value_at (meaning h.pkg f) a ≡ Some v → ⊥)
    → tell_first (state_of h) name v ≡ Goes (state_of h) none_reply
first-none h name v f set n never =
    let some = some-is h.level set in
    step-First (state_of h) some.0 name v (meaning h.pkg f) some.1 n.means
    ∙ ap (Goes (state_of h)) (first_answer-none (meaning h.pkg f) v n.flat never)

-- `list`
int_eq-turned : (x y : ℤ) → int_eq x y ≡ int_eq y x
int_eq-turned x y = by (int_eq x y) (int_eq y x) refl refl
  where
    by : (s t : Bool) → int_eq x y ≡ s → int_eq y x ≡ t → s ≡ t
    by true true p q = refl
    by false false p q = refl
    by true false p q = absurd (false≢true (sym q ∙ (Decides-int_eq y x).1 (sym ((Decides-int_eq x y).0 p))))
    by false true p q = absurd (false≢true (sym p ∙ (Decides-int_eq x y).1 (sym ((Decides-int_eq y x).0 q))))

pub same-assignments : (f : FlatFunction) (v : ℤ) → IsFlatFunction f → assignments_of f v ≡ answers.assignments_of f v
same-assignments f v flat =
    let k = 2 ^ f.level in
    filter_same (λ b. is_value v (value_at f b)) (λ b. int_eq v (at f b)) (all_bits k) []
    (λ i inside.
    (let below : i < 2 ^ k = omega (arith, inside, length-all_bits k) in
    let b = get_or (all_bits k) i [] in
    ap (is_value v) (at-some f b flat (all_bits-place k i below).0) ∙ int_eq-turned (at f b) v))

pub listed-goes : (h : Held) (name : List ℕ) (v most : ℤ) (f : Func) (found : List (List Bool)) → IsSome h.level
    → IsNamed h name f → lists most ≡ true → found ≡ take (nat_abs most) (assignments_of (meaning h.pkg f) v)
    → tell_list (state_of h) name v most ≡ Goes (state_of h) (list_reply found)
listed-goes h name v most f found set n fits is =
    let some = some-is h.level set in
    step-Listed (state_of h) some.0 name v most (meaning h.pkg f) some.1 n.means fits
    ∙ ap (λ found. Goes (state_of h) (list_reply found)) (sym (is ∙ ap (take (nat_abs most)) (same-assignments (meaning h.pkg f) v n.flat)))

pub listed-most : (h : Held) (name : List ℕ) (v most : ℤ) (f : Func) → IsSome h.level → IsNamed h name f
    → lists most ≡ false → tell_list (state_of h) name v most ≡ Refuses OutOfRange
listed-most h name v most f set n past =
    let some = some-is h.level set in step-Listed-most (state_of h) some.0 name v most (meaning h.pkg f) some.1 n.means past

-- `equal`
pub unknown-equal : (h : Held) (name other : List ℕ) (r : Refusal) → IsSome h.level → IsUnknown h name r ⊎ IsUnknown h other r
    → tell_equal (state_of h) name other ≡ Refuses (reason_of r)
unknown-equal h name other r set (inl u) =
    let some = some-is h.level set in
    step-Equal-NoName (state_of h) some.0 name other some.1 (inl u.nothing) ∙ ap (λ q. Refuses (reason_of q)) (sym u.refused)
unknown-equal h name other r set (inr u) =
    let some = some-is h.level set in
    step-Equal-NoName (state_of h) some.0 name other some.1 (inr u.nothing) ∙ ap (λ q. Refuses (reason_of q)) (sym u.refused)

pub equal-levels : (h : Held) (name other : List ℕ) (f g : Func) → IsSome h.level → IsNamed h name f → IsNamed h other g
    → f.head.level ≢ g.head.level → tell_equal (state_of h) name other ≡ Refuses LevelsDiffer
equal-levels h name other f g set m n apart =
    let some = some-is h.level set in
    step-Equal-levels (state_of h) some.0 name other (meaning h.pkg f) (meaning h.pkg g) some.1 m.means n.means apart

pub equal-goes : (h : Held) (name other : List ℕ) (f g : Func) (t : List ℕ) → IsSome h.level → IsNamed h name f
    → IsNamed h other g → f.head.level ≡ g.head.level → t ≡ equal_answer (meaning h.pkg f) (meaning h.pkg g)
    → tell_equal (state_of h) name other ≡ Goes (state_of h) t
equal-goes h name other f g t set m n same is =
    let some = some-is h.level set in
    step-Equal (state_of h) some.0 name other (meaning h.pkg f) (meaning h.pkg g) some.1 m.means n.means same
    ∙ ap (Goes (state_of h)) (sym is)

-- the first difference of two flat functions
pub different-answer : (f g : FlatFunction) (b : List Bool) (v w : ℤ) → IsFlatFunction f → IsFlatFunction g → f.level ≡ g.level
    → IsLeast f.level (λ a. value_at f a ≢ value_at g a) b → value_at f b ≡ Some v → value_at g b ≡ Some w
    → different_reply b v w ≡ equal_answer f g
different-answer f g b v w ff gg same least x y =
    ap (λ (z : ℤ). different_reply b z w) (ap (λ o. unwrap_or o (pos 0)) (sym x))
    ∙ ap (λ (z : ℤ). different_reply b (at f b) z) (ap (λ o. unwrap_or o (pos 0)) (sym y))
    ∙ sym
    (equal_answer-different f g b
    (least-same f.level (λ a. value_at f a ≢ value_at g a) (λ a. at f a ≢ at g a) b
    (λ a h d e. d (at-some f a ff h ∙ ap Some e ∙ sym (at-some g a gg (h ∙ ap (λ l. 2 ^ l) same))))
    (λ a h d e. d (ap (λ o. unwrap_or o (pos 0)) e))
    least))

pub equal-everywhere : (f g : FlatFunction) → ((a : List Bool) → IsAssignment f.level a → value_at f a ≡ value_at g a)
    → equal_reply ≡ equal_answer f g
equal-everywhere f g agree = sym (equal_answer-equal f g (λ a h. ap (λ o. unwrap_or o (pos 0)) (agree a h)))

-- `size`
pub size-goes : (h : Held) (name : List ℕ) (f : Func) (counts : List ℕ) (n : ℕ) → IsSome h.level → IsNamed h name f
    → counts ≡ sizes (pattern_of (meaning h.pkg f) ∷ []) → n ≡ length (distinct int_eq (meaning h.pkg f).values)
    → tell_size (state_of h) name ≡ Goes (state_of h) (size_reply (take (f.head.level + 1) counts) n)
size-goes h name f counts n set named counted exits =
    let some = some-is h.level set in
    step-Size (state_of h) some.0 name (meaning h.pkg f) some.1 named.means
    ∙ ap (λ cs. Goes (state_of h) (size_reply (take (f.head.level + 1) cs) (length (distinct int_eq (meaning h.pkg f).values)))) (sym counted)
    ∙ ap (λ m. Goes (state_of h) (size_reply (take (f.head.level + 1) counts) m)) (sym exits)

-- `stats`
pub all-variables : (p : Package) (level : ℕ) (bound : Names) → ArePositions p level bound
    → All (OwnsFunction p) (map (λ b. b.1) bound)
all-variables p level bound h = all bound (λ i b e. (h i b e).owned)
  where
    all : (bs : Names) → ((i : ℕ) (b : List ℕ × Func) → slice_get bs i ≡ Some b → OwnsFunction p b.1)
        → All (OwnsFunction p) (map (λ b. b.1) bs)
    all [] h = All-nil _
    all (b ∷ bs) h = All-cons (OwnsFunction p) b.1 (map (λ b. b.1) bs) (h zero b refl) (all bs (λ i c e. h (suc i) c e))

pub all-functions : (p : Package) (bound : Names) → All (λ b. OwnsFunction p b.1) bound
    → All (OwnsFunction p) (map (λ b. b.1) bound)
all-functions p [] h = All-nil _
all-functions p (b ∷ bs) h =
    All-cons (OwnsFunction p) b.1 (map (λ b. b.1) bs) (All-head (λ b. OwnsFunction p b.1) b bs h)
    (all-functions p bs (All-tail (λ b. OwnsFunction p b.1) b bs h))

variables_from : (p : Package) (level j : ℕ) (bound : Names)
    → ((i : ℕ) (b : List ℕ × Func) → slice_get bound i ≡ Some b → meaning p b.1 ≡ variable level (j + i))
    → map (meaning p) (map (λ b. b.1) bound) ≡ map (variable level) (range_with_len j (length bound))
variables_from p level j [] h = refl
variables_from p level j (b ∷ bound) h =
    let first : j + 0 ≡ j = omega arith in
    ap (λ (f : FlatFunction). f ∷ map (meaning p) (map (λ b. b.1) bound)) (h zero b refl ∙ ap (variable level) first)
    ∙ ap (λ fs. variable level j ∷ fs)
    (variables_from p level (j + 1) bound (λ i c e. (let next : j + suc i ≡ (j + 1) + i = omega arith in h (suc i) c e ∙ ap (variable level) next)))

functions_from : (p : Package) (bound : Names)
    → map (meaning p) (map (λ b. b.1) bound) ≡ map (λ (b : List ℕ × FlatFunction). b.1) (map (λ b. (b.0, meaning p b.1)) bound)
functions_from p [] = refl
functions_from p (b ∷ bound) = ap (λ fs. meaning p b.1 ∷ fs) (functions_from p bound)

pub functions-are : (h : Held) → IsHeld h
    → map (meaning h.pkg) (map (λ b. b.1) h.variables ++ map (λ b. b.1) h.functions) ≡ functions_in (state_of h)
functions-are h holds =
    map-append (meaning h.pkg) (map (λ b. b.1) h.variables) (map (λ b. b.1) h.functions)
    ∙ ap (λ fs. fs ++ map (meaning h.pkg) (map (λ b. b.1) h.functions)) (variables_from h.pkg (level_in (state_of h)) 0 h.variables (λ i b e. (let same : i ≡ 0 + i = omega arith in (holds.positions i b e).is_it ∙ ap (variable (level_in (state_of h))) same)))
    ∙ ap (λ n. map (variable (level_in (state_of h))) (range_with_len 0 n) ++ map (meaning h.pkg) (map (λ b. b.1) h.functions)) (sym (count-names h.variables))
    ∙ ap (λ fs. map (variable (level_in (state_of h))) (range_with_len 0 (length (names_of h.variables))) ++ fs) (functions_from h.pkg h.functions)

map_twice : (p : Package) (fs : List Func)
    → map (λ f. pattern_of (meaning p f)) fs ≡ map pattern_of (map (meaning p) fs)
map_twice p [] = refl
map_twice p (f ∷ fs) = ap (λ ps. pattern_of (meaning p f) ∷ ps) (map_twice p fs)

pub stats-goes : (h : Held) (all : List Func) (counts : List ℕ) → IsHeld h → IsSome h.level
    → all ≡ map (λ b. b.1) h.variables ++ map (λ b. b.1) h.functions
    → counts ≡ sizes (map (λ f. pattern_of (meaning h.pkg f)) all)
    → tell_stats (state_of h) ≡ Goes (state_of h) (stats_reply (length all) counts)
stats-goes h all counts holds set is counted =
    let some = some-is h.level set in
    let patterns = ap (map pattern_of) (ap (map (meaning h.pkg)) is ∙ functions-are h holds) in
    let number : length (state_of h).variables + length (state_of h).functions ≡ length all =
    omega (arith, count-names h.variables, length-map {B = List ℕ × FlatFunction} h.functions (λ b. (b.0, meaning h.pkg b.1)), ap length is, length-append (map (λ b. b.1) h.variables) (map (λ b. b.1) h.functions), length-map h.variables (λ (b : List ℕ × Func). b.1), length-map h.functions (λ (b : List ℕ × Func). b.1)) in
    step-Stats (state_of h) some.0 some.1
    ∙ ap (λ n. Goes (state_of h) (stats_reply n (sizes (map pattern_of (functions_in (state_of h)))))) number
    ∙ ap (λ cs. Goes (state_of h) (stats_reply (length all) cs)) (ap sizes (sym (map_twice h.pkg all ∙ patterns)) ∙ sym counted)
