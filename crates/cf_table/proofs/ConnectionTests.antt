use Rattle.std.proofs.Common.{◌≡◌, ℕ, Bool, true, IsTrue, nat_eq, ◌&&◌, ap, arith}
use Rattle.std.specs.Bool.{Decides}
use Rattle.std.proofs.lemmas.Bool.Decides.{nat_tests}
use Rattle.cf_table.specs.declared.BConn.{BConn}
use Rattle.cf_table.specs.contracts.BConnPartialEq.TheImpl as eq
use Rattle.cf_table.proofs.Told.{same_conn}

parts : (a b c x y z : ℕ) → (nat_eq a x && nat_eq b y && nat_eq c z) ≡ true → (a ≡ x) × (b ≡ y) × (c ≡ z)
parts a b c x y z h = grind (arith, nat_tests)

joined : (a b c x y z : ℕ) → a ≡ x → b ≡ y → c ≡ z → (nat_eq a x && nat_eq b y && nat_eq c z) ≡ true
joined a b c x y z h k l = grind (arith, nat_tests)

pub test : {b : Bool} → IsTrue b → b ≡ true
test h = grind (arith, nat_tests)

pub passes : {b : Bool} → b ≡ true → IsTrue b
passes h = grind (arith, nat_tests)

-- the derived test of two B-connections
abbrev pub same : BConn → BConn → Bool
same p q = eq.eq-value.it p q

pub same-Decides : (p q : BConn) → Decides (same p q) (p ≡ q)
same-Decides p q = (
  λ h. (let r = parts p.«to».level p.«to».at p.ret.at q.«to».level q.«to».at q.ret.at h in same_conn p q r.0 r.1 r.2),
  λ h. joined p.«to».level p.«to».at p.ret.at q.«to».level q.«to».at q.ret.at (ap (λ (b : BConn). b.«to».level) h) (ap (λ (b : BConn). b.«to».at) h) (ap (λ (b : BConn). b.ret.at) h),
)
