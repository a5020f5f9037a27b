-- What the operations on truths tell, case by case.
use Rattle.std.proofs.Common.{ℕ, ◌≡◌, Bool, true, false, not, ◌&&◌, ◌||◌, Result, Ok, Err, IfOk, pos, refl, sym, ap, subst, ◌∙◌}
use Rattle.std.specs.Prelude.{if◌then◌else◌}
use Rattle.cf_model.specs.FlatFunctions.{tabulated}
use Rattle.cf_model.specs.declared.terms.Word1.TheVariants.{Not}
use Rattle.cf_model.specs.declared.terms.Word2.TheVariants.{And, Or, Lt}
use Rattle.cf_ops.specs.Operations.{of_one, of_two, of_three}
use Rattle.cf_pkg.specs.declared.Func.{Func}
use Rattle.cf_pkg.specs.Packages.{Package, OwnsFunction, Keeps, Means}
use Rattle.cf_pkg.specs.Jobs.{HasValues, AreLevel, map_value, apply_value, ternary_value}
use Rattle.cf_circuit.specs.declared.truths.Truth.{Truth}
use Rattle.cf_circuit.specs.declared.truths.Truth.TheVariants.{Never, Always, Where}
use Rattle.cf_circuit.specs.Truths.{Shows, Tells, IsAt, AreAt, AreAllAt, TellsNot, TellsEither, TellsChoice, IsOf}
use Rattle.cf_circuit.proofs.TruthLaws.{constant_shows, negated_shows, or_shows, and_shows, less_shows, chosen_shows, tells_kept, tells_same}

or_true : (u : Bool) → (u || true) ≡ true
or_true true = refl
or_true false = refl

or_false : (u : Bool) → (u || false) ≡ u
or_false true = refl
or_false false = refl

same_choice : (u v : Bool) → (if u then v else v) ≡ v
same_choice true v = refl
same_choice false v = refl

if_bit : (u : Bool) → u ≡ (if u then true else false)
if_bit true = refl
if_bit false = refl

if_not : (u : Bool) → not u ≡ (if u then false else true)
if_not true = refl
if_not false = refl

if_and : (u v : Bool) → (u && v) ≡ (if u then v else false)
if_and true v = refl
if_and false v = refl

if_less : (u v : Bool) → (not u && v) ≡ (if u then false else v)
if_less true v = refl
if_less false v = refl

if_or : (u v : Bool) → (u || v) ≡ (if u then true else v)
if_or true v = refl
if_or false v = refl

if_imply : (u v : Bool) → (not u || v) ≡ (if u then v else true)
if_imply true v = refl
if_imply false v = refl

-- not
pub not_never : (p : Package) (a : Truth) → a ≡ Never → TellsNot p p a Always
not_never p a e = subst (λ (t : Truth). TellsNot p p t Always) (sym e) (λ l x h at is. ap not (h at is))

pub not_always : (p : Package) (a : Truth) → a ≡ Always → TellsNot p p a Never
not_always p a e = subst (λ (t : Truth). TellsNot p p t Never) (sym e) (λ l x h at is. ap not (h at is))

pub not_where : (p q : Package) (a : Truth) (f r : Func) → a ≡ Where f → HasValues q r f.head.level (map_value p (of_one Not) f) → TellsNot p q a (Where r)
not_where p q a f r e h = subst (λ (t : Truth). TellsNot p q t (Where r)) (sym e) (λ l x s. negated_shows p q f r h l x s)

-- either
pub either_always : (p : Package) (a b : Truth) → a ≡ Always → TellsEither p p a b Always
either_always p a b e = subst (λ (t : Truth). TellsEither p p t b Always) (sym e) (λ l x y h k at is. ap (λ u. u || y at) (h at is))

pub either_never : (p : Package) (a b : Truth) → a ≡ Never → TellsEither p p a b b
either_never p a b e =
    subst (λ (t : Truth). TellsEither p p t b b) (sym e)
    (λ l x y h k. tells_same p l y (λ at. x at || y at) b k (λ at is. sym (ap (λ u. u || y at) (h at is))))

pub either_second_always : (p : Package) (a b : Truth) → b ≡ Always → TellsEither p p a b Always
either_second_always p a b e =
    subst (λ (t : Truth). TellsEither p p a t Always) (sym e) (λ l x y h k at is. ap (λ u. x at || u) (k at is) ∙ or_true (x at))

pub either_second_never : (p : Package) (a b : Truth) → b ≡ Never → TellsEither p p a b a
either_second_never p a b e =
    subst (λ (t : Truth). TellsEither p p a t a) (sym e)
    (λ l x y h k. tells_same p l x (λ at. x at || y at) a h (λ at is. sym (ap (λ u. x at || u) (k at is) ∙ or_false (x at))))

pub either_where : (p q : Package) (a b : Truth) (f g r : Func) → a ≡ Where f → b ≡ Where g → HasValues q r f.head.level (apply_value p (of_two Or) f g) → TellsEither p q a b (Where r)
either_where p q a b f g r d e h =
    subst (λ (t : Truth). TellsEither p q t b (Where r)) (sym d) (subst (λ (t : Truth). TellsEither p q (Where f) t (Where r)) (sym e) (λ l x y s t. or_shows p q f g r h l x y s t))

-- a choice by a constant
pub choice_always : (p : Package) (a b c : Truth) → a ≡ Always → TellsChoice p p a b c b
choice_always p a b c e =
    subst (λ (t : Truth). TellsChoice p p t b c b) (sym e)
    (λ l x y z h k m. tells_same p l y (λ at. if x at then y at else z at) b k (λ at is. sym (ap (λ u. if u then y at else z at) (h at is))))

pub choice_never : (p : Package) (a b c : Truth) → a ≡ Never → TellsChoice p p a b c c
choice_never p a b c e =
    subst (λ (t : Truth). TellsChoice p p t b c c) (sym e)
    (λ l x y z h k m. tells_same p l z (λ at. if x at then y at else z at) c m (λ at is. sym (ap (λ u. if u then y at else z at) (h at is))))

pub choice_where : (p q : Package) (a b c r : Truth) (f : Func) → a ≡ Where f → TellsChoice p q (Where f) b c r → TellsChoice p q a b c r
choice_where p q a b c r f e h = subst (λ (t : Truth). TellsChoice p q t b c r) (sym e) h

-- a choice by a function
module _ (p q : Package) (f : Func) (b c : Truth) where
  of_cases : (m n r : Truth) → b ≡ m → c ≡ n → TellsChoice p q (Where f) m n r → TellsChoice p q (Where f) b c r
  of_cases m n r d e h = subst (λ (t : Truth). TellsChoice p q (Where f) t c r) (sym d) (subst (λ (t : Truth). TellsChoice p q (Where f) m t r) (sym e) h)

  pub by_and : (g r : Func) → b ≡ Where g → c ≡ Never → HasValues q r f.head.level (apply_value p (of_two And) f g) → TellsChoice p q (Where f) b c (Where r)
  by_and g r d e h =
      of_cases (Where g) Never (Where r) d e
      (λ l x y z s t u.
      tells_same q l (λ at. x at && y at) (λ at. if x at then y at else z at) (Where r) (and_shows p q f g r h l x y s t)
      (λ at is. if_and (x at) (y at) ∙ ap (λ v. if x at then y at else v) (sym (u at is))))

  pub by_less : (g r : Func) → b ≡ Never → c ≡ Where g → HasValues q r f.head.level (apply_value p (of_two Lt) f g) → TellsChoice p q (Where f) b c (Where r)
  by_less g r d e h =
      of_cases Never (Where g) (Where r) d e
      (λ l x y z s t u.
      tells_same q l (λ at. not (x at) && z at) (λ at. if x at then y at else z at) (Where r) (less_shows p q f g r h l x z s u)
      (λ at is. if_less (x at) (z at) ∙ ap (λ v. if x at then v else z at) (sym (t at is))))

  pub by_or : (g r : Func) → b ≡ Always → c ≡ Where g → HasValues q r f.head.level (apply_value p (of_two Or) f g) → TellsChoice p q (Where f) b c (Where r)
  by_or g r d e h =
      of_cases Always (Where g) (Where r) d e
      (λ l x y z s t u.
      tells_same q l (λ at. x at || z at) (λ at. if x at then y at else z at) (Where r) (or_shows p q f g r h l x z s u)
      (λ at is. if_or (x at) (z at) ∙ ap (λ v. if x at then v else z at) (sym (t at is))))

  pub by_not : (r : Func) → b ≡ Never → c ≡ Always → HasValues q r f.head.level (map_value p (of_one Not) f) → TellsChoice p q (Where f) b c (Where r)
  by_not r d e h =
      of_cases Never Always (Where r) d e
      (λ l x y z s t u.
      tells_same q l (λ at. not (x at)) (λ at. if x at then y at else z at) (Where r) (negated_shows p q f r h l x s)
      (λ at is. if_not (x at) ∙ ap (λ v. if x at then v else true) (sym (t at is)) ∙ ap (λ v. if x at then y at else v) (sym (u at is))))

  pub by_choice : (g h r : Func) → b ≡ Where g → c ≡ Where h → HasValues q r f.head.level (ternary_value p of_three f g h) → TellsChoice p q (Where f) b c (Where r)
  by_choice g h r d e v = of_cases (Where g) (Where h) (Where r) d e (λ l x y z s t u. chosen_shows p q f g h r v l x y z s t u)

  pub by_imply : (m : Package) (g n r : Func) → Keeps p m → b ≡ Where g → c ≡ Always → HasValues m n f.head.level (map_value p (of_one Not) f)
      → HasValues q r n.head.level (apply_value m (of_two Or) n g) → TellsChoice p q (Where f) b c (Where r)
  by_imply m g n r k d e negates h =
      of_cases (Where g) Always (Where r) d e
      (λ l x y z s t u.
      tells_same q l (λ at. not (x at) || y at) (λ at. if x at then y at else z at) (Where r)
      (or_shows m q n g r h l (λ at. not (x at)) y (negated_shows p m f n negates l x s) (tells_kept p m k l y (Where g) t))
      (λ at is. if_imply (x at) (y at) ∙ ap (λ v. if x at then y at else v) (sym (u at is))))

module _ (p : Package) (f : Func) (b c : Truth) where
  pub by_never : b ≡ Never → c ≡ Never → TellsChoice p p (Where f) b c Never
  by_never d e =
      of_cases p p f b c Never Never Never d e
      (λ l x y z s t u at is. ap (λ v. if x at then v else z at) (t at is) ∙ ap (λ v. if x at then false else v) (u at is) ∙ same_choice (x at) false)

  pub by_always : b ≡ Always → c ≡ Always → TellsChoice p p (Where f) b c Always
  by_always d e =
      of_cases p p f b c Always Always Always d e
      (λ l x y z s t u at is. ap (λ v. if x at then v else z at) (t at is) ∙ ap (λ v. if x at then true else v) (u at is) ∙ same_choice (x at) true)

  pub by_itself : b ≡ Always → c ≡ Never → TellsChoice p p (Where f) b c (Where f)
  by_itself d e =
      of_cases p p f b c Always Never (Where f) d e
      (λ l x y z s t u.
      tells_same p l x (λ at. if x at then y at else z at) (Where f) s
      (λ at is. if_bit (x at) ∙ ap (λ v. if x at then v else false) (sym (t at is)) ∙ ap (λ v. if x at then y at else v) (sym (u at is))))

-- functions of truths that are of one level
pub owned_of : (p : Package) (a : Truth) (f : Func) → a ≡ Where f → (l : ℕ) × IsAt p l a → OwnsFunction p f
owned_of p a f e at =
    let s : Shows p at.0 at.1.0 f = subst (λ (t : Truth). Tells p at.0 at.1.0 t) e at.1.1 in s.owned

pub level_of : (p : Package) (a b : Truth) (f g : Func) → a ≡ Where f → b ≡ Where g → AreAt p a b → AreLevel p f g
level_of p a b f g d e at =
    let s : Shows p at.0 at.1.0 f = subst (λ (t : Truth). Tells p at.0 at.1.0 t) d at.1.1 in
    let u : Shows p at.0 at.2.0 g = subst (λ (t : Truth). Tells p at.0 at.2.0 t) e at.2.1 in
    record { first = s.owned; second = u.owned; level = s.level ∙ sym u.level }

-- the three of a choice
pub first_two : (p : Package) (a b c : Truth) → AreAllAt p a b c → AreAt p a b
first_two p a b c at = (at.0, at.1, at.2)

pub first_and_last : (p : Package) (a b c : Truth) → AreAllAt p a b c → AreAt p a c
first_and_last p a b c at = (at.0, at.1, at.3)

pub first_alone : (p : Package) (a b c : Truth) → AreAllAt p a b c → (l : ℕ) × IsAt p l a
first_alone p a b c at = (at.0, at.1)

-- what isn't f, and g
pub level_of_not : (p m : Package) (f n g : Func) (b : Truth) → Keeps p m → b ≡ Where g → AreAt p (Where f) b → HasValues m n f.head.level (map_value p (of_one Not) f) → AreLevel m n g
level_of_not p m f n g b k e at h =
    let t : Shows p at.0 at.2.0 g = subst (λ (t : Truth). Tells p at.0 at.2.0 t) e at.2.1 in
    let kept = k.functions g t.owned in
    record { first = h.owned; second = kept.owned; level = h.level ∙ at.1.1.level ∙ sym t.level }

-- the function of a constant
pub shows_never : {E : Type 0} (p q : Package) (l : ℕ) (a : Truth) (result : Result Func E) → a ≡ Never → IfOk result (λ f. f.head.level ≡ l) → IfOk result (λ f. Means q f (tabulated l (λ bits. pos 0)))
    → IfOk result (IsOf p q l a)
shows_never p q l a (Ok r) e level m =
    subst (λ (t : Truth). IsOf p q l t r) (sym e) (λ x h. constant_shows q r l false (pos 0) refl level m x h)
shows_never p q l a (Err fault) e level m = tt

pub shows_always : {E : Type 0} (p q : Package) (l : ℕ) (a : Truth) (result : Result Func E) → a ≡ Always → IfOk result (λ f. f.head.level ≡ l) → IfOk result (λ f. Means q f (tabulated l (λ bits. pos 1)))
    → IfOk result (IsOf p q l a)
shows_always p q l a (Ok r) e level m =
    subst (λ (t : Truth). IsOf p q l t r) (sym e) (λ x h. constant_shows q r l true (pos 1) refl level m x h)
shows_always p q l a (Err fault) e level m = tt
