-- Arguments that were read so far.
use Rattle.std.proofs.Common.{ℕ, suc, ◌≡◌, ◌≤◌, ◌+◌, ◌&&◌, Bool, true, false, List, [], ◌∷◌, ◌++◌, length, refl, ap, sym, subst, ◌∙◌, length-append, arith}
use Rattle.cf_reference.specs.declared.grammar.Head.{Head}
use Rattle.cf_reference.specs.declared.grammar.Kind.{Kind}
use Rattle.cf_reference.specs.Heads.{kind_at, takes}
use Rattle.cf_reference.specs.Words.{comma, close_sign}
use Rattle.cf_reference.specs.Trees.{Arguments, none, more, atom, Number, count, tree_fits, atom_fits, arguments_fit}
use Rattle.cf_reference.specs.Grammar.{atom_of, lead, SpellsTree, SpellsEnd, SpellsArguments}
use Rattle.cf_reference.proofs.GrammarLaws.{unique, tail_is, after_lead, end_lead, no_atom, signs_differ}
use Rattle.cf_script.specs.declared.arguments.Argument.{Argument}
use Rattle.cf_script.specs.declared.arguments.Argument.TheVariants as argument
use Rattle.cf_script.specs.Vars.{atom_of as atom_of_var}
use Rattle.cf_script.specs.Views.{tree_of}
use Rattle.cf_script.specs.Arguments.{held, IsOf, HaveKinds, SpellsOne, IsArgument, AreReadings, SpellsNoArgument, SpellsNoArguments}

abbrev pub append : Arguments → Arguments → Arguments
append none ts = ts
append (more e es) ts = more e (append es ts)
append (atom a es) ts = atom a (append es ts)

append-assoc : (ts us vs : Arguments) → append (append ts us) vs ≡ append ts (append us vs)
append-assoc none us vs = refl
append-assoc (more t ts) us vs = ap (more t) (append-assoc ts us vs)
append-assoc (atom a ts) us vs = ap (atom a) (append-assoc ts us vs)

append-none : (ts : Arguments) → append ts none ≡ ts
append-none none = refl
append-none (more t ts) = ap (more t) (append-none ts)
append-none (atom a ts) = ap (atom a) (append-none ts)

count-append : (ts us : Arguments) → count (append ts us) ≡ count ts + count us
count-append none us = omega arith
count-append (more t ts) us = omega (arith, count-append ts us)
count-append (atom a ts) us = omega (arith, count-append ts us)

held-push : (first : List Argument) (a : Argument) → held (first ++ a ∷ []) ≡ append (held first) (held (a ∷ []))
held-push [] (argument.Expr e) = refl
held-push [] (argument.Var v) = refl
held-push [] (argument.Number n) = refl
held-push (argument.Expr e ∷ first) a = ap (more (tree_of e)) (held-push first a)
held-push (argument.Var v ∷ first) a = ap (atom (atom_of_var v)) (held-push first a)
held-push (argument.Number n ∷ first) a = ap (atom (Number n)) (held-push first a)

both_fit : (x y : Bool) → (x && y) ≡ true → (x ≡ true) × (y ≡ true)
both_fit true y h = (refl, h)
both_fit false y h = cc

fit-append : (ts us : Arguments) → arguments_fit (append ts us) ≡ true → (arguments_fit ts ≡ true) × (arguments_fit us ≡ true)
fit-append none us h = (refl, h)
fit-append (more t ts) us h =
    let b = both_fit (tree_fits t) (arguments_fit (append ts us)) h in
    let later = fit-append ts us b.1 in
    (rw (b.0, later.0) refl, later.1)
fit-append (atom a ts) us h =
    let b = both_fit (atom_fits a) (arguments_fit (append ts us)) h in
    let later = fit-append ts us b.1 in
    (rw (b.0, later.0) refl, later.1)

kinds-push : (kind : ℕ → Kind) (first : List Argument) (a : Argument) → HaveKinds kind first → IsOf (kind (length first)) a → HaveKinds kind (first ++ a ∷ [])
kinds-push kind [] a h k = (k, tt)
kinds-push kind (b ∷ first) a h k = (h.0, kinds-push (λ i. kind (suc i)) first a h.1 k)

-- one argument before others
one-spelled : (head : Head) (i : ℕ) (kind : Kind) (es tail : Arguments) (all after mid rest : List (List ℕ)) → kind_at head i ≡ kind → all ≡ lead i ++ after → SpellsOne kind es after mid
    → SpellsArguments head (suc i) tail mid rest → SpellsArguments head i (append es tail) all rest
one-spelled head i kind none tail all after mid rest is e h t = absurd h
one-spelled head i kind (more u none) tail all after mid rest is e h t = (is ∙ h.0, after, e, mid, h.1, t)
one-spelled head i kind (more u (more v es)) tail all after mid rest is e h t = absurd h
one-spelled head i kind (more u (atom a es)) tail all after mid rest is e h t = absurd h
one-spelled head i kind (atom a none) tail all after mid rest is e h t =
    (mid, record { word = h.0; words = e ∙ ap (λ l. lead i ++ l) h.1; is = ap (λ (k : Kind). atom_of k h.0) is ∙ h.2 }, t)
one-spelled head i kind (atom a (more v es)) tail all after mid rest is e h t = absurd h
one-spelled head i kind (atom a (atom b es)) tail all after mid rest is e h t = absurd h

one-count : (kind : Kind) (es : Arguments) (all rest : List (List ℕ)) → SpellsOne kind es all rest → count es ≡ 1
one-count kind none all rest h = absurd h
one-count kind (more u none) all rest h = refl
one-count kind (more u (more v es)) all rest h = absurd h
one-count kind (more u (atom a es)) all rest h = absurd h
one-count kind (atom a none) all rest h = refl
one-count kind (atom a (more v es)) all rest h = absurd h
one-count kind (atom a (atom b es)) all rest h = absurd h

-- what comes behind it
Ending : Head → ℕ → Arguments → List (List ℕ) → List (List ℕ) → Type 0
Ending head i ts mid rest = (tail : Arguments) × SpellsArguments head (suc i) tail mid rest × (count ts ≡ count tail + 1)

one-ends : (head : Head) (i : ℕ) (kind : Kind) (es ts : Arguments) (all after mid rest : List (List ℕ)) → kind_at head i ≡ kind → all ≡ lead i ++ after → SpellsOne kind es after mid
    → SpellsArguments head i ts all rest → Ending head i ts mid rest
unfolding Ending
one-ends head i kind es none all after mid rest is e h k = absurd (end_lead i all rest after k e)
one-ends head i kind none (more t ts) all after mid rest is e h k = absurd h
one-ends head i kind (more u none) (more t ts) all after mid rest is e h k =
    let s = unique t after k.3 u mid (subst (λ a. SpellsTree t a k.3) (after_lead i k.1 after (sym k.2 ∙ e)) k.4) h.1 in
    (ts, subst (λ a. SpellsArguments head (suc i) ts a rest) s.1 k.5, refl)
one-ends head i kind (more u (more v es)) (more t ts) all after mid rest is e h k = absurd h
one-ends head i kind (more u (atom a es)) (more t ts) all after mid rest is e h k = absurd h
one-ends head i kind (atom a none) (more t ts) all after mid rest is e h k = absurd (no_atom kind h.0 a (sym is ∙ k.0) h.2)
one-ends head i kind (atom a (more v es)) (more t ts) all after mid rest is e h k = absurd h
one-ends head i kind (atom a (atom b es)) (more t ts) all after mid rest is e h k = absurd h
one-ends head i kind none (atom b ts) all after mid rest is e h k = absurd h
one-ends head i kind (more u none) (atom b ts) all after mid rest is e h k = absurd (no_atom (kind_at head i) k.1.word b (is ∙ h.0) k.1.is)
one-ends head i kind (more u (more v es)) (atom b ts) all after mid rest is e h k = absurd h
one-ends head i kind (more u (atom a es)) (atom b ts) all after mid rest is e h k = absurd h
one-ends head i kind (atom a none) (atom b ts) all after mid rest is e h k =
    let same = after_lead i (k.1.word ∷ k.0) after (sym k.1.words ∙ e) ∙ h.1 in
    (ts, subst (λ l. SpellsArguments head (suc i) ts l rest) (tail_is same) k.2, refl)
one-ends head i kind (atom a (more v es)) (atom b ts) all after mid rest is e h k = absurd h
one-ends head i kind (atom a (atom c es)) (atom b ts) all after mid rest is e h k = absurd h

-- where there is none, there are no arguments
no-one : (head : Head) (i : ℕ) (kind : Kind) (ts : Arguments) (all after rest : List (List ℕ)) → kind_at head i ≡ kind → all ≡ lead i ++ after → SpellsNoArgument kind after
    → SpellsArguments head i ts all rest → ⊥
no-one head i kind none all after rest is e nothing k = end_lead i all rest after k e
no-one head i kind (more t ts) all after rest is e nothing k =
    nothing (more t none) k.3 (sym is ∙ k.0, subst (λ a. SpellsTree t a k.3) (after_lead i k.1 after (sym k.2 ∙ e)) k.4)
no-one head i kind (atom a ts) all after rest is e nothing k =
    nothing (atom a none) k.0 (k.1.word, after_lead i after (k.1.word ∷ k.0) (sym e ∙ k.1.words), ap (λ (x : Kind). atom_of x k.1.word) (sym is) ∙ k.1.is)

-- The arguments so far, with each end of the list that the words behind them spell, are a list that all the words spell.
pub record AreFront (head : Head) (args : List Argument) (all end : List (List ℕ)) : Type 0 where
  pub spelled : Arguments
  pub spells : (tail : Arguments) (rest : List (List ℕ)) → SpellsArguments head (length args) tail end rest → SpellsArguments head 0 (append spelled tail) all rest
  pub long : count spelled ≡ length args
  pub kinds : HaveKinds (kind_at head) args
  pub shows : arguments_fit spelled ≡ true → held args ≡ spelled

-- Each list that all the words spell has an end that the words behind spell.
pub record HasEnds (head : Head) (i : ℕ) (all end : List (List ℕ)) : Type 0 where
  pub ends : (ts : Arguments) (rest : List (List ℕ)) → SpellsArguments head 0 ts all rest → (tail : Arguments) × SpellsArguments head i tail end rest × (count ts ≡ count tail + i)

pub front-none : (head : Head) (args : List Argument) (all : List (List ℕ)) → args ≡ [] → AreFront head args all all
front-none head args all is = record {
  spelled = none;
  spells = λ tail rest h. subst (λ (l : List Argument). SpellsArguments head (length l) tail all rest) is h;
  long = ap length (sym is);
  kinds = subst (HaveKinds (kind_at head)) (sym is) tt;
  shows = λ fit. ap held is;
}

pub ends-none : (head : Head) (all : List (List ℕ)) → HasEnds head 0 all all
ends-none head all = record { ends = λ ts rest h. (ts, h, omega arith) }

-- one argument more
pub front-more : (head : Head) (first args : List Argument) (a : Argument) (all end after mid : List (List ℕ)) → args ≡ first ++ a ∷ [] → AreFront head first all end
    → end ≡ lead (length first) ++ after → IsArgument (kind_at head (length first)) a after mid → AreFront head args all mid
front-more head first args a all end after mid is f lead_is r = record {
  spelled = append f.spelled r.spelled;
  spells = λ tail rest h.
      (let next : SpellsArguments head (suc (length first)) tail mid rest = subst (λ n. SpellsArguments head n tail mid rest) long h in
      subst (λ ts. SpellsArguments head 0 ts all rest) (sym (append-assoc f.spelled r.spelled tail))
      (f.spells (append r.spelled tail) rest (one-spelled head (length first) _ r.spelled tail end after mid rest refl lead_is r.spells next)));
  long = count-append f.spelled r.spelled ∙ omega (arith, f.long, one-count _ r.spelled after mid r.spells, long);
  kinds = subst (HaveKinds (kind_at head)) (sym is) (kinds-push (kind_at head) first a f.kinds r.kinds);
  shows = λ fit.
      (let both = fit-append f.spelled r.spelled fit in
      ap held is ∙ held-push first a ∙ ap (λ ts. append ts (held (a ∷ []))) (f.shows both.0) ∙ ap (append f.spelled) (r.shows both.1));
}
  where
    long : length args ≡ suc (length first)
    long = ap length is ∙ length-append first (a ∷ []) ∙ omega arith

pub ends-more : (head : Head) (i : ℕ) (a : Argument) (all end after mid : List (List ℕ)) → HasEnds head i all end → end ≡ lead i ++ after → IsArgument (kind_at head i) a after mid
    → HasEnds head (suc i) all mid
unfolding Ending
ends-more head i a all end after mid e lead_is r = record {
  ends = λ ts rest h.
      (let k = e.ends ts rest h in
      let n = one-ends head i _ r.spelled k.0 end after mid rest refl lead_is r.spells k.1 in
      (n.0, n.1, omega (arith, k.2, n.2)));
}

-- the whole list, behind its `)`
pub front-whole : (head : Head) (n : ℕ) (args : List Argument) (all end rest : List (List ℕ)) → length args ≡ suc n → AreFront head args all end → end ≡ close_sign ∷ rest → takes head (length args) ≡ true
    → AreReadings head args all rest
front-whole head n args all end rest some f is number = record {
  spelled = f.spelled;
  spells = subst (λ ts. SpellsArguments head 0 ts all rest) (append-none f.spelled)
      (f.spells none rest (subst (λ (m : ℕ). SpellsEnd m end rest) (sym some) is));
  long = f.long;
  number = number;
  kinds = f.kinds;
  shows = f.shows;
}

-- what can't be read is no list
pub no-next : (head : Head) (i : ℕ) (all end after : List (List ℕ)) → HasEnds head i all end → end ≡ lead i ++ after → SpellsNoArgument (kind_at head i) after → SpellsNoArguments head all
no-next head i all end after e lead_is nothing ts rest number h =
    let k = e.ends ts rest h in
    no-one head i _ k.0 end after rest refl lead_is nothing k.1

-- the arguments end where no comma comes
last : (head : Head) (i : ℕ) (tail : Arguments) (end rest : List (List ℕ)) → ((x : List (List ℕ)) → end ≡ comma ∷ x → ⊥) → SpellsArguments head (suc i) tail end rest
    → (tail ≡ none) × (end ≡ close_sign ∷ rest)
last head i none end rest no_comma h = (refl, h)
last head i (more t ts) end rest no_comma h = absurd (no_comma h.1 h.2)
last head i (atom a ts) end rest no_comma h = absurd (no_comma (h.1.word ∷ h.0) h.1.words)

-- an argument comes behind a comma
pub more_behind : (head : Head) (i : ℕ) (tail : Arguments) (end after rest : List (List ℕ)) → end ≡ comma ∷ after → SpellsArguments head (suc i) tail end rest → 1 ≤ count tail
more_behind head i none end after rest is h = absurd (signs_differ rest after (sym h ∙ is))
more_behind head i (more t ts) end after rest is h = omega arith
more_behind head i (atom a ts) end after rest is h = omega arith

pub no-end : (head : Head) (i : ℕ) (all end : List (List ℕ)) → HasEnds head (suc i) all end → ((x : List (List ℕ)) → end ≡ comma ∷ x → ⊥) → ((x : List (List ℕ)) → end ≡ close_sign ∷ x → ⊥)
    → SpellsNoArguments head all
no-end head i all end e no_comma no_close ts rest number h =
    let k = e.ends ts rest h in
    no_close rest (last head i k.0 end rest no_comma k.1).1

pub other-number : (head : Head) (i : ℕ) (all end : List (List ℕ)) → HasEnds head (suc i) all end → ((x : List (List ℕ)) → end ≡ comma ∷ x → ⊥) → takes head (suc i) ≡ false → SpellsNoArguments head all
other-number head i all end e no_comma few ts rest number h =
    let k = e.ends ts rest h in
    let l = last head i k.0 end rest no_comma k.1 in
    let n : count ts ≡ suc i = omega (arith, k.2, ap count l.0) in
    let d : true ≡ false = sym number ∙ (ap (takes head) n ∙ few) in
    cc

pub pushed-length : (n : ℕ) (first args : List Argument) (a : Argument) → args ≡ first ++ a ∷ [] → length first ≡ suc n → length args ≡ suc (suc n)
pushed-length n first args a is e = omega (arith, ap length is, length-append first (a ∷ []), e)
