-- A model that drives no signal twice: its signals differ, so a book that they are added to has them in order.
use Rattle.std.proofs.Common.{ℕ, suc, ◌≡◌, ◌+◌, ◌<◌, ◌≤◌, ◌||◌, Bool, true, false, cond, List, [], ◌∷◌, ◌++◌, length, drop, get_or, map, Some, None, refl, sym, ◌∙◌, ap, subst, arith, append_assoc}
use Rattle.std.specs.Prelude.{nat_lt}
use Rattle.std.specs.Str.{bytes_eq}
use Rattle.std.proofs.lemmas.Slice.Eq.{bytes_eq-Decides}
use Rattle.std.proofs.lemmas.List.{append-nil, drop_all, drop_more}
use Rattle.std.proofs.lemmas.List.Folds.{list_any-append}
use Rattle.cf_model.specs.Renumbering.{AllDiffer, IsNew, distinct_on, note, place}
use Rattle.cf_names.specs.Numbers.{number_of}
use Rattle.cf_circuits.specs.declared.gates.Gate.{Gate}
use Rattle.cf_circuits.specs.declared.pins.Pin.{Pin}
use Rattle.cf_circuits.specs.declared.pins.Call.{Call}
use Rattle.cf_circuits.specs.declared.models.ModelDef.{ModelDef}
use Rattle.cf_circuits.specs.Parts.{Part, AGate, ACall, line_of, put, merged, parts}
use Rattle.cf_circuits.specs.Links.{gathered, is_among, drives, driven, repeated, twice_driven, actuals, is_output, callee}
use Rattle.cf_circuits.specs.Expansions.{signals}

-- how often a name stands among names
abbrev count : List (List ℕ) → List ℕ → ℕ
count [] name = 0
count (x ∷ xs) name = cond (bytes_eq x name) 1 0 + count xs name

count-append : (xs ys : List (List ℕ)) (name : List ℕ) → count (xs ++ ys) name ≡ count xs name + count ys name
count-append [] ys name = omega arith
count-append (x ∷ xs) ys name = let later = count-append xs ys name in omega (arith, later)

-- no name stands twice
abbrev Once : List (List ℕ) → Type 0
Once names = (name : List ℕ) → count names name ≤ 1

same-name : (x : List ℕ) → bytes_eq x x ≡ true
same-name x = (bytes_eq-Decides x x).1 refl

counted : (names : List (List ℕ)) (name : List ℕ) → is_among names name ≡ true → 1 ≤ count names name
counted [] name h = cc
counted (x ∷ xs) name h = by (bytes_eq x name) h (counted xs name)
  where
    by : (b : Bool) → (b || is_among xs name) ≡ true → (is_among xs name ≡ true → 1 ≤ count xs name)
        → 1 ≤ cond b 1 0 + count xs name
    by true h later = omega arith
    by false h later = let rest = later h in omega (arith, rest)

-- names of which none stands twice are noted one behind another
distinct-once : (seen xs : List (List ℕ)) → Once (seen ++ xs) → distinct_on bytes_eq seen xs ≡ seen ++ xs
distinct-once seen [] once = sym (append-nil seen)
distinct-once seen (x ∷ xs) once = by (is_among seen x) refl (distinct-once (seen ++ x ∷ []) xs)
  where
    by : (b : Bool) → is_among seen x ≡ b
        → (Once ((seen ++ x ∷ []) ++ xs) → distinct_on bytes_eq (seen ++ x ∷ []) xs ≡ (seen ++ x ∷ []) ++ xs)
        → distinct_on bytes_eq (cond b seen (seen ++ x ∷ [])) xs ≡ seen ++ x ∷ xs
    by true h later =
        let most : count (seen ++ x ∷ xs) x ≤ 1 = once x in
        let here : count (x ∷ xs) x ≡ 1 + count xs x = ap (λ b. cond b 1 0 + count xs x) (same-name x) in
        let all = count-append seen (x ∷ xs) x in
        let before = counted seen x h in
        absurd (omega (arith, most, here, all, before))
    by false h later = later (subst Once (sym (append_assoc seen (x ∷ []) xs)) once) ∙ append_assoc seen (x ∷ []) xs

-- a name that is new stands nowhere
absent : (names : List (List ℕ)) (name : List ℕ) → IsNew names name → count names name ≡ 0
absent [] name new = refl
absent (x ∷ xs) name new = by (bytes_eq x name) refl (absent xs name (λ k e. new (suc k) e))
  where
    by : (b : Bool) → bytes_eq x name ≡ b → count xs name ≡ 0 → cond b 1 0 + count xs name ≡ 0
    by true e later = absurd (new 0 (ap Some ((bytes_eq-Decides x name).0 e)))
    by false e later = omega (arith, later)

-- of names that differ none stands twice
differ-once : (names : List (List ℕ)) → AllDiffer names → Once names
differ-once [] differ name = omega arith
differ-once (x ∷ xs) differ name = by (bytes_eq x name) refl (differ-once xs later name)
  where
    later : AllDiffer xs
    later = λ j k y p q. let same = differ (suc j) (suc k) y p q in omega (arith, same)

    by : (b : Bool) → bytes_eq x name ≡ b → count xs name ≤ 1 → cond b 1 0 + count xs name ≤ 1
    by true e rest =
        let none = absent xs name (λ k p. let same = differ 0 (suc k) x refl (p ∙ ap Some (sym ((bytes_eq-Decides x name).0 e))) in omega (arith, same)) in
        omega (arith, none)
    by false e rest = omega (arith, rest)

-- the formals of pins that differ, added to an empty book
pub formals-added : (pins : List Pin) (book : List (List ℕ)) (i : ℕ) → AllDiffer (map (λ p. p.formal) pins)
    → distinct_on bytes_eq book (map (λ p. p.formal) (drop i pins)) ≡ distinct_on bytes_eq [] (map (λ p. p.formal) pins)
    → length pins ≤ i → book ≡ map (λ p. p.formal) pins
formals-added pins book i differ all past =
    let names : List (List ℕ) = map (λ (p : Pin). p.formal) pins in
    ap (λ (ps : List Pin). distinct_on bytes_eq book (map (λ p. p.formal) ps)) (sym (drop_all i pins past))
    ∙ all ∙ distinct-once [] names (differ-once names differ)

pub distinct-append : (seen xs ys : List (List ℕ)) → distinct_on bytes_eq seen (xs ++ ys) ≡ distinct_on bytes_eq (distinct_on bytes_eq seen xs) ys
distinct-append seen [] ys = refl
distinct-append seen (x ∷ xs) ys = distinct-append (note bytes_eq seen x) xs ys

-- where no name is repeated, none stands twice, nor behind others that were seen
unrepeated : (seen xs : List (List ℕ)) (name : List ℕ) → repeated seen xs ≡ None → count xs name + cond (is_among seen name) 1 0 ≤ 1
unrepeated seen [] name h = by (is_among seen name)
  where
    by : (b : Bool) → 0 + cond b 1 0 ≤ 1
    by true = omega arith
    by false = omega arith
unrepeated seen (x ∷ xs) name h = by (is_among seen x) refl h (unrepeated (seen ++ x ∷ []) xs name)
  where
    at : (s t : Bool) → is_among seen x ≡ false → is_among seen name ≡ s → bytes_eq x name ≡ t
        → count xs name + cond (s || (t || false)) 1 0 ≤ 1
        → (cond t 1 0 + count xs name) + cond s 1 0 ≤ 1
    at true true new p q later =
        let no : true ≡ false = sym p ∙ subst (λ other. is_among seen other ≡ false) ((bytes_eq-Decides x name).0 q) new in cc
    at true false new p q later = omega (arith, later)
    at false true new p q later = omega (arith, later)
    at false false new p q later = omega (arith, later)

    by : (b : Bool) → is_among seen x ≡ b → cond b (Some x) (repeated (seen ++ x ∷ []) xs) ≡ None
        → (repeated (seen ++ x ∷ []) xs ≡ None → count xs name + cond (is_among (seen ++ x ∷ []) name) 1 0 ≤ 1)
        → (cond (bytes_eq x name) 1 0 + count xs name) + cond (is_among seen name) 1 0 ≤ 1
    by true e h later = cc
    by false e h later =
        at (is_among seen name) (bytes_eq x name) e refl refl
        (subst (λ b. count xs name + cond b 1 0 ≤ 1) (list_any-append (λ other. bytes_eq other name) seen (x ∷ [])) (later h))

-- what parts drive, wherever a call is put
count-put : (models : List ModelDef) (c : Call) (ps : List Part) (name : List ℕ)
    → count (gathered (drives models) (put c ps)) name
    ≡ count (drives models (ACall c)) name + count (gathered (drives models) ps) name
count-put models c [] name = count-append (drives models (ACall c)) [] name
count-put models c (part ∷ later) name = by (nat_lt (line_of part) c.line) (count-put models c later name)
  where
    by : (b : Bool)
        → count (gathered (drives models) (put c later)) name
        ≡ count (drives models (ACall c)) name + count (gathered (drives models) later) name
        → count (gathered (drives models) (cond b (part ∷ put c later) (ACall c ∷ part ∷ later))) name
        ≡ count (drives models (ACall c)) name + count (gathered (drives models) (part ∷ later)) name
    by true rest =
        let put_all = count-append (drives models part) (gathered (drives models) (put c later)) name in
        let all = count-append (drives models part) (gathered (drives models) later) name in
        omega (arith, rest, put_all, all)
    by false rest = count-append (drives models (ACall c)) (gathered (drives models) (part ∷ later)) name

gates-drive : (models : List ModelDef) (gates : List Gate) → gathered (drives models) (map AGate gates) ≡ map (λ g. g.out) gates
gates-drive models [] = refl
gates-drive models (g ∷ gates) = ap (λ names. g.out ∷ names) (gates-drive models gates)

-- what calls drive
abbrev by-calls : List ModelDef → List Call → List (List ℕ)
by-calls models calls = gathered (λ c. actuals (is_output (callee models c)) c.pins) calls

count-merged : (models : List ModelDef) (gates : List Gate) (calls : List Call) (name : List ℕ)
    → count (gathered (drives models) (merged gates calls)) name
    ≡ count (map (λ g. g.out) gates) name + count (by-calls models calls) name
count-merged models gates [] name =
    let outs : count (gathered (drives models) (merged gates [])) name ≡ count (map (λ (g : Gate). g.out) gates) name = ap (λ names. count names name) (gates-drive models gates) in
    let none : count (by-calls models []) name ≡ 0 = refl in
    omega (arith, outs, none)
count-merged models gates (c ∷ calls) name =
    let put_all = count-put models c (merged gates calls) name in
    let later = count-merged models gates calls name in
    let all = count-append (drives models (ACall c)) (by-calls models calls) name in
    omega (arith, put_all, later, all)

signals-once : (models : List ModelDef) (m : ModelDef) → twice_driven models m ≡ None → Once (signals models m)
signals-once models m none name =
    let most : count (m.inputs ++ gathered (drives models) (parts m)) name + 0 ≤ 1 = unrepeated [] (driven models m) name none in
    let ins = count-append m.inputs (gathered (drives models) (parts m)) name in
    let rest : count (gathered (drives models) (parts m)) name ≡ count (map (λ (g : Gate). g.out) m.gates) name + count (by-calls models m.calls) name = count-merged models m.gates m.calls name in
    let behind = count-append (map (λ g. g.out) m.gates) (by-calls models m.calls) name in
    let all = count-append m.inputs (map (λ g. g.out) m.gates ++ by-calls models m.calls) name in
    omega (arith, most, ins, rest, behind, all)

-- what one more call drives
pub calls-next : (models : List ModelDef) (calls : List Call) (book now end : List (List ℕ)) (c : Call) (i : ℕ)
    → distinct_on bytes_eq book (by-calls models (drop i calls)) ≡ end → i < length calls → c ≡ get_or calls i c
    → now ≡ distinct_on bytes_eq book (actuals (is_output (callee models c)) c.pins)
    → distinct_on bytes_eq now (by-calls models (drop (i + 1) calls)) ≡ end
calls-next models calls book now end c i before within is noted =
    let left : List Call = drop (i + 1) calls in
    ap (λ b. distinct_on bytes_eq b (by-calls models left)) noted
    ∙ sym (distinct-append book (actuals (is_output (callee models c)) c.pins) (by-calls models left))
    ∙ ap (λ cs. distinct_on bytes_eq book (by-calls models cs)) (ap (λ x. x ∷ left) is ∙ sym (drop_more calls i c within))
    ∙ before

-- a name that isn't in a book has the number behind all
lacks-place : (names : List (List ℕ)) (name : List ℕ) → is_among names name ≡ false → length names ≡ place bytes_eq names name
lacks-place [] name h = refl
lacks-place (other ∷ names) name h = by (bytes_eq other name) h (lacks-place names name)
  where
    by : (b : Bool) → (b || is_among names name) ≡ false → (is_among names name ≡ false → length names ≡ place bytes_eq names name)
        → suc (length names) ≡ cond b 0 (suc (place bytes_eq names name))
    by true h rest = cc
    by false h rest = ap suc (rest h)

pub missing-number : (names : List (List ℕ)) (name : List ℕ) (n : ℕ) → n ≡ length names → None ≡ number_of names name
    → n ≡ place bytes_eq names name
missing-number names name n is none = is ∙ lacks-place names name (by (is_among names name) none)
  where
    by : (b : Bool) → None ≡ cond b (Some (place bytes_eq names name)) None → b ≡ false
    by true h = cc
    by false h = refl

-- inputs, gates' outputs and what calls drive, added to an empty book
pub all-added : (models : List ModelDef) (m : ModelDef) (empty first second third inputs : List (List ℕ)) (gates : List Gate)
    (calls : List Call) → twice_driven models m ≡ None → empty ≡ [] → inputs ≡ m.inputs → gates ≡ m.gates → calls ≡ m.calls
    → first ≡ distinct_on bytes_eq empty inputs → second ≡ distinct_on bytes_eq first (map (λ g. g.out) gates)
    → third ≡ distinct_on bytes_eq second (by-calls models calls) → third ≡ signals models m
all-added models m empty first second third inputs gates calls none e i g c one two three =
    let outs : List (List ℕ) = map (λ (x : Gate). x.out) m.gates in
    let backs : List (List ℕ) = by-calls models m.calls in
    three ∙ ap (λ cs. distinct_on bytes_eq second (by-calls models cs)) c
    ∙ ap (λ b. distinct_on bytes_eq b backs)
    (two ∙ ap (λ (gs : List Gate). distinct_on bytes_eq first (map (λ x. x.out) gs)) g
    ∙ ap (λ b. distinct_on bytes_eq b outs) (one ∙ ap (λ b. distinct_on bytes_eq b inputs) e ∙ ap (distinct_on bytes_eq []) i))
    ∙ sym (distinct-append (distinct_on bytes_eq [] m.inputs) outs backs)
    ∙ sym (distinct-append [] m.inputs (outs ++ backs))
    ∙ distinct-once [] (signals models m) (signals-once models m none)
